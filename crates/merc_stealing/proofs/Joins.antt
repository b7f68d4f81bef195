-- Outcomes that are near the true ones make together what is near the true one.
use Rattle.std.proofs.Common.{◌≡◌, ℕ, suc, ◌+◌, Bool, true, false, List, [], ◌∷◌, ◌++◌, length, refl, sym, ap, ◌∙◌, subst, arith}
use Rattle.std.specs.Prelude.{Option, Some, slice_get, if◌then◌else◌, nat_le}
use Rattle.merc_script.specs.declared.outcome.Outcome.{Outcome}
use Rattle.merc_script.specs.declared.outcome.Outcome.TheVariants.{Ok as Fine, Raise, Limit, Starved, NoMemory}
use Rattle.merc_script.specs.Script.{Script, ForkThen, Children, NoChild, Child, Cell, Move, ends, end_of, count}
use Rattle.merc_script.specs.Places.{Name, left_of, left_in, script_named, child_of, child_at}
use Rattle.merc_script.specs.Joining.{joined_behind, joined_with, lacks_memory}
use Rattle.merc_script.proofs.JoiningLaws.{joined-in-order}
use Rattle.merc_yard.specs.declared.berth.Berth.{Berth}
use Rattle.merc_yard.specs.Berths.{spot_of}
use Rattle.atomic_table.specs.Seated.{TableId}
use Rattle.merc_held_branches.specs.Spots.{place, fork_count}
use Rattle.merc_held_branches.specs.Beds.{EndsChild, child_name}
use Rattle.merc_stealing.specs.Parents.{Near, AreEnds, IsJoin}

is_lost : Outcome → Bool
is_lost (Fine steps) = false
is_lost (Raise text steps) = false
is_lost Limit = false
is_lost Starved = false
is_lost NoMemory = true

abbrev IsKept : Outcome → Type 0
IsKept (Fine steps) = Unit {0}
IsKept (Raise text steps) = Unit {0}
IsKept Limit = Unit {0}
IsKept Starved = Unit {0}
IsKept NoMemory = ⊥

kept_first : (o : Outcome) (os : List Outcome) → lacks_memory (o ∷ os) ≡ false → IsKept o × (lacks_memory os ≡ false)
kept_first (Fine steps) os none = (tt, none)
kept_first (Raise text steps) os none = (tt, none)
kept_first Limit os none = (tt, none)
kept_first Starved os none = (tt, none)
kept_first NoMemory os none = absurd (cc)

near_self : (o : Outcome) → Near o o
near_self (Fine steps) = refl
near_self (Raise text steps) = refl
near_self Limit = refl
near_self Starved = tt
near_self NoMemory = tt

choice_kept : (b : Bool) (x : Outcome) → IsKept x → IsKept (if b then x else Limit)
choice_kept true x k = k
choice_kept false x k = tt

step_kept : (limit : ℕ) (b o : Outcome) → IsKept b → IsKept o → IsKept (joined_with limit b o)
step_kept limit NoMemory o kb ko = absurd kb
step_kept limit (Fine sum) (Fine steps) kb ko = choice_kept (nat_le (sum + steps) limit) (Fine (sum + steps)) tt
step_kept limit (Fine sum) (Raise text steps) kb ko = choice_kept (nat_le (sum + steps) limit) (Raise text (sum + steps)) tt
step_kept limit (Fine sum) Limit kb ko = tt
step_kept limit (Fine sum) Starved kb ko = tt
step_kept limit (Fine sum) NoMemory kb ko = absurd ko
step_kept limit (Raise text steps) (Fine more) kb ko = tt
step_kept limit (Raise text steps) (Raise other more) kb ko = tt
step_kept limit (Raise text steps) Limit kb ko = tt
step_kept limit (Raise text steps) Starved kb ko = tt
step_kept limit (Raise text steps) NoMemory kb ko = absurd ko
step_kept limit Limit (Fine more) kb ko = tt
step_kept limit Limit (Raise other more) kb ko = tt
step_kept limit Limit Limit kb ko = tt
step_kept limit Limit Starved kb ko = tt
step_kept limit Limit NoMemory kb ko = absurd ko
step_kept limit Starved (Fine more) kb ko = tt
step_kept limit Starved (Raise other more) kb ko = tt
step_kept limit Starved Limit kb ko = tt
step_kept limit Starved Starved kb ko = tt
step_kept limit Starved NoMemory kb ko = absurd ko

raise_stays : (limit text steps : ℕ) (o : Outcome) → IsKept o → joined_with limit (Raise text steps) o ≡ Raise text steps
raise_stays limit text steps (Fine more) k = refl
raise_stays limit text steps (Raise other more) k = refl
raise_stays limit text steps Limit k = refl
raise_stays limit text steps Starved k = refl
raise_stays limit text steps NoMemory k = absurd k

limit_stays : (limit : ℕ) (o : Outcome) → IsKept o → joined_with limit Limit o ≡ Limit
limit_stays limit (Fine more) k = refl
limit_stays limit (Raise other more) k = refl
limit_stays limit Limit k = refl
limit_stays limit Starved k = refl
limit_stays limit NoMemory k = absurd k

both_same : (limit : ℕ) (bt bg t g : Outcome) → bt ≡ bg → t ≡ g → Near (joined_with limit bt t) (joined_with limit bg g)
both_same limit bt bg t g b o = subst (λ (x : Outcome × Outcome). Near (joined_with limit x.0 x.1) (joined_with limit bg g)) (λ i. (sym b i, sym o i)) (near_self (joined_with limit bg g))

near_step : (limit : ℕ) (bt bg t g : Outcome) → IsKept t → Near bt bg × Near t g → Near (joined_with limit bt t) (joined_with limit bg g)
near_step limit bt NoMemory t g k e = tt
near_step limit bt Starved t (Fine n) k e = tt
near_step limit bt Starved t (Raise x n) k e = tt
near_step limit bt Starved t Limit k e = tt
near_step limit bt Starved t Starved k e = tt
near_step limit bt Starved t NoMemory k e = tt
near_step limit bt (Fine s) t (Fine n) k e = both_same limit bt (Fine s) t (Fine n) e.0 e.1
near_step limit bt (Fine s) t (Raise x n) k e = both_same limit bt (Fine s) t (Raise x n) e.0 e.1
near_step limit bt (Fine s) t Limit k e = both_same limit bt (Fine s) t Limit e.0 e.1
near_step limit bt (Fine s) t Starved k e = tt
near_step limit bt (Fine s) t NoMemory k e = tt
near_step limit bt (Raise y s) t (Fine n) k e = both_same limit bt (Raise y s) t (Fine n) e.0 e.1
near_step limit bt (Raise y s) t (Raise x n) k e = both_same limit bt (Raise y s) t (Raise x n) e.0 e.1
near_step limit bt (Raise y s) t Limit k e = both_same limit bt (Raise y s) t Limit e.0 e.1
near_step limit bt (Raise y s) t Starved k e = ap (λ b. joined_with limit b t) e.0 ∙ raise_stays limit y s t k
near_step limit bt (Raise y s) t NoMemory k e = tt
near_step limit bt Limit t (Fine n) k e = both_same limit bt Limit t (Fine n) e.0 e.1
near_step limit bt Limit t (Raise x n) k e = both_same limit bt Limit t (Raise x n) e.0 e.1
near_step limit bt Limit t Limit k e = both_same limit bt Limit t Limit e.0 e.1
near_step limit bt Limit t Starved k e = ap (λ b. joined_with limit b t) e.0 ∙ limit_stays limit t k
near_step limit bt Limit t NoMemory k e = tt

abbrev NearAll : List Outcome → List Outcome → Type 0
NearAll [] [] = Unit {0}
NearAll [] (g ∷ gs) = ⊥
NearAll (t ∷ ts) [] = ⊥
NearAll (t ∷ ts) (g ∷ gs) = Near t g × NearAll ts gs

near_behind : (limit : ℕ) (ts gs : List Outcome) (bt bg : Outcome) → lacks_memory ts ≡ false → IsKept bt → Near bt bg → NearAll ts gs → Near (joined_behind limit bt ts) (joined_behind limit bg gs)
near_behind limit [] [] bt bg none kb nb all = nb
near_behind limit [] (g ∷ gs) bt bg none kb nb all = absurd all
near_behind limit (t ∷ ts) [] bt bg none kb nb all = absurd all
near_behind limit (t ∷ ts) (g ∷ gs) bt bg none kb nb all = let k = kept_first t ts none in
    near_behind limit ts gs (joined_with limit bt t) (joined_with limit bg g) k.1 (step_kept limit bt t kb k.0) (near_step limit bt bg t g k.0 (nb, all.0)) all.1

-- the outcome of a child of these
abbrev ChildEnds : Children → ℕ → Outcome → Type 0
ChildEnds children i (Fine n) = (s : Script) × (child_at (suc i) children ≡ Some s) × (end_of s ≡ Fine n)
ChildEnds children i (Raise x n) = (s : Script) × (child_at (suc i) children ≡ Some s) × (end_of s ≡ Raise x n)
ChildEnds children i Limit = (s : Script) × (child_at (suc i) children ≡ Some s) × (end_of s ≡ Limit)
ChildEnds children i Starved = Unit {0}
ChildEnds children i NoMemory = Unit {0}

first_near : (first : Script) (others : Children) (g : Outcome) → ChildEnds (Child first others) 0 g → Near (end_of first) g
first_near first others (Fine n) e = let at = e.1 in let is : first ≡ e.0 = cc (at) in ap end_of is ∙ e.2
first_near first others (Raise x n) e = let at = e.1 in let is : first ≡ e.0 = cc (at) in ap end_of is ∙ e.2
first_near first others Limit e = let at = e.1 in let is : first ≡ e.0 = cc (at) in ap end_of is ∙ e.2
first_near first others Starved e = tt
first_near first others NoMemory e = tt

other_ends : (first : Script) (others : Children) (i : ℕ) (g : Outcome) → ChildEnds (Child first others) (suc i) g → ChildEnds others i g
other_ends first others i (Fine n) e = e
other_ends first others i (Raise x n) e = e
other_ends first others i Limit e = e
other_ends first others i Starved e = tt
other_ends first others i NoMemory e = tt

near_list : (children : Children) (gs : List Outcome) → length gs ≡ count children → ((i : ℕ) (g : Outcome) → slice_get gs i ≡ Some g → ChildEnds children i g) → NearAll (ends children) gs
near_list NoChild [] same each = tt
near_list NoChild (g ∷ gs) same each = absurd (omega (arith, same))
near_list (Child first others) [] same each = absurd (omega (arith, same))
near_list (Child first others) (g ∷ gs) same each = (first_near first others g (each 0 g refl), near_list others gs (omega (arith, same)) (λ i o at. other_ends first others i o (each (suc i) o at)))

named_last : (name : Name) (step : ℕ × ℕ) (s : Option Script) → script_named (name ++ step ∷ []) s ≡ child_of step.1 (left_in step.0 (script_named name s))
named_last [] step s = refl
named_last (x ∷ xs) step s = named_last xs step (child_of x.1 (left_in x.0 s))

module _ (root : Script) (berth : Berth) (limit : ℕ) (cells : List Cell) (moves : List Move) (children : Children) (rest : Script) (left : left_of (place root (spot_of berth)) ≡ Some (ForkThen limit cells moves children rest)) where
  at_child : (i : ℕ) → script_named (child_name berth i) (Some root) ≡ child_at (suc i) children
  at_child i = named_last (spot_of berth).name ((spot_of berth).passed, suc i) (Some root) ∙ ap (child_of (suc i)) left

  child_ends : (i : ℕ) (g : Outcome) → EndsChild root berth i g → ChildEnds children i g
  child_ends i (Fine n) e = (e.0, sym (at_child i) ∙ e.1, e.2)
  child_ends i (Raise x n) e = (e.0, sym (at_child i) ∙ e.1, e.2)
  child_ends i Limit e = (e.0, sym (at_child i) ∙ e.1, e.2)
  child_ends i Starved e = tt
  child_ends i NoMemory e = tt

  near_ends : (table : TableId) (gs : List Outcome) → AreEnds root table berth gs → lacks_memory (ends children) ≡ false → Near (joined_behind limit (Fine 0) (ends children)) (joined_behind limit (Fine 0) gs)
  near_ends table gs are none = near_behind limit (ends children) gs (Fine 0) (Fine 0) none tt refl
      (near_list children gs (are.count ∙ ap fork_count left) (λ i g at. child_ends i g (are.each i g at)))

-- what the outcomes of the children of a Fork with this limit make together
pub joins_so : (root : Script) (berth : Berth) (table : TableId) (gs : List Outcome) (own : ℕ) (cells : List Cell) (moves : List Move) (children : Children) (rest : Script)
    → left_of (place root (spot_of berth)) ≡ Some (ForkThen own cells moves children rest) → AreEnds root table berth gs → IsJoin root (spot_of berth) (joined_behind own (Fine 0) gs)
joins_so root berth table gs own cells moves children rest here are limit cells' moves' children' rest' left none =
    let forks = sym here ∙ left in let same : own ≡ limit = cc (forks) in
    subst (λ (o : Outcome). Near o (joined_behind own (Fine 0) gs)) (joined-in-order limit (ends children'))
    (subst (λ l. Near (joined_behind limit (Fine 0) (ends children')) (joined_behind l (Fine 0) gs)) (sym same) (near_ends root berth limit cells' moves' children' rest' left table gs are none))
