-- Scripts of courses that keep to their rights are formed.
use Rattle.std.proofs.Common.{◌≡◌, ℕ, zero, suc, ◌+◌, ◌-◌, ◌≤◌, ◌<◌, ◌⊎◌, inl, inr, Bool, true, false, if◌then◌else◌, List, [], ◌∷◌, ◌++◌, map, filter, refl, ap, sym, subst, ◌∙◌, arith}
use Rattle.std.specs.Prelude.{◌&&◌, nat_eq, ⊤, ◌≢◌, Option, Some, None, is_some}
use Rattle.std.specs.List.{AllByRecursion}
use Rattle.merc_value.specs.Value.{Value}
use Rattle.merc_script.specs.declared.outcome.Outcome.{Outcome}
use Rattle.merc_script.specs.declared.outcome.Outcome.TheVariants.{Ok as Fine, Raise, Limit, Starved, NoMemory}
use Rattle.merc_script.specs.declared.cells.Move.{Move}
use Rattle.merc_script.specs.Script.{Script, Ends, Children, Cell, ends, end_of, count}
use Rattle.merc_script.specs.Joining.{joined, walk}
use Rattle.merc_core.specs.Rights.{has, without, numbers_of, is_kind, moved, moved_to, made_by, used_by, signals_at, waits_at}
use Rattle.merc_core.specs.WellFormed.{AreDistinct, ForkFits, CellFits, MoveFits, held_of, Follows, gain, value_in, most_steps, most_children}
use Rattle.merc_plan.specs.Branch.{all_do_answer, NamedCell, Fork, Hold, BranchCourse, Over, Breaks, Steps, Finds, Awaits, Gives, Forks, BranchCourses, no_branches, more_branches, Raised, TooDeep, Starving, names, Gift, gift_at, gifts_through, value_given, gives, all_give}
use Rattle.merc_plan.specs.BranchScript.{those_of, signalled, all_signalled, valued, going, script, scripts}
use Rattle.merc_plan.proofs.Flat.{Flat, Done, Halts, Tick, Answer, Answers, behind}
use Rattle.merc_plan.proofs.Answering.{all_behind}
use Rattle.merc_plan.proofs.Judging.{flat, flats, AllAnswer, kid_count, makes, uses, signals_to, waits_to, NamedFits, MoveGoes, HoldsRight, SiteFits, Whole, anything, Keeps, AllKeep, Quiet, told_values, NamesFit, NamedFormed, AllNamedFormed}
use Rattle.merc_plan.proofs.Walks.{WithinLimit, joined_limit, HasMemory, walk_has}
use Rattle.merc_plan.proofs.Joins.{kids_memory, joined_is_walk, going_fine, walk_fine}
use Rattle.merc_plan.proofs.Holds.{kid_proper, names_of_made, waits_past, pending_past, waits_more, own_fits, no_gone}
use Rattle.merc_plan.proofs.Gives.{Within, AllWithin, within_gives}
use Rattle.merc_plan.proofs.Sets.{clash, tell, same_number, is_same, only_one, front_or, or_in, first_in, rest_in, in_common, common_in, in_either, in_left, in_right, minus_in, minus_keeps, minus_more, append_more, absent, gone_not, look_before, look_past, look_same, look_none, some_now, gifts_in, gifts_out, given_here, given_other, and_both, all_pass, picked, moved_move, moved_to_move, moved_of_to, each_more, each_true}

-- what a fork does to cells

-- the cells of a script's fork
abbrev pub told : Fork → BranchCourses → Children → List Cell
told y ks all = map (valued (all_signalled all) (all_give ks)) y.cells

names_told_of : (sg : List ℕ) (gs : List Gift) (cells : List NamedCell) → numbers_of (map (valued sg gs) cells) ≡ names cells
names_told_of sg gs [] = refl
names_told_of sg gs (one ∷ cells) = ap (λ l. one.cell ∷ l) (names_told_of sg gs cells)

pub names_told : (y : Fork) (ks : BranchCourses) (all : Children) → numbers_of (told y ks all) ≡ names y.cells
names_told y ks all = names_told_of (all_signalled all) (all_give ks) y.cells

told_on : (b : Bool) (x : Cell) (y : NamedCell) (xs : List Cell) (ys : List NamedCell) → x.cell ≡ y.cell → numbers_of xs ≡ names ys → numbers_of (if b then x ∷ xs else xs) ≡ names (if b then y ∷ ys else ys)
told_on true x y xs ys e h = ap (λ c. c ∷ numbers_of xs) e ∙ ap (λ l. y.cell ∷ l) h
told_on false x y xs ys e h = h

made_told_of : (sg : List ℕ) (gs : List Gift) (k : ℕ) (cells : List NamedCell) → made_by k (map (valued sg gs) cells) ≡ makes k cells
made_told_of sg gs k [] = refl
made_told_of sg gs k (one ∷ cells) =
    told_on (nat_eq one.producer k) (valued sg gs one) one (filter (λ (z : Cell). nat_eq z.producer k) (map (valued sg gs) cells)) (filter (λ (z : NamedCell). nat_eq z.producer k) cells) refl
    (made_told_of sg gs k cells)

pub made_told : (y : Fork) (ks : BranchCourses) (all : Children) (k : ℕ) → made_by k (told y ks all) ≡ makes k y.cells
made_told y ks all k = made_told_of (all_signalled all) (all_give ks) k y.cells

used_told_of : (sg : List ℕ) (gs : List Gift) (k : ℕ) (cells : List NamedCell) → used_by k (map (valued sg gs) cells) ≡ uses k cells
used_told_of sg gs k [] = refl
used_told_of sg gs k (one ∷ cells) =
    told_on (nat_eq one.consumer k) (valued sg gs one) one (filter (λ (z : Cell). nat_eq z.consumer k) (map (valued sg gs) cells)) (filter (λ (z : NamedCell). nat_eq z.consumer k) cells) refl
    (used_told_of sg gs k cells)

pub used_told : (y : Fork) (ks : BranchCourses) (all : Children) (k : ℕ) → used_by k (told y ks all) ≡ uses k y.cells
used_told y ks all k = used_told_of (all_signalled all) (all_give ks) k y.cells

-- the value of a fork's own cell
abbrev pub value_of : List ℕ → List Gift → ℕ → Option Value
value_of sg gs c = if has c sg then value_given (gift_at c gs) else None

value_told_on : (sg : List ℕ) (gs : List Gift) (one : NamedCell) (c : ℕ) (more : Option Value) (b : Bool) → nat_eq one.cell c ≡ b → (nat_eq one.cell c ≡ false → more ≡ value_of sg gs c)
    → (if b then value_of sg gs one.cell else more) ≡ value_of sg gs c
value_told_on sg gs one c more true e h = ap (value_of sg gs) (same_number one.cell c e)
value_told_on sg gs one c more false e h = h e

pub value_told : (sg : List ℕ) (gs : List Gift) (cells : List NamedCell) (c : ℕ) → has c (names cells) ≡ true → value_in (map (valued sg gs) cells) c ≡ value_of sg gs c
value_told sg gs [] c h = absurd (cc)
value_told sg gs (one ∷ cells) c h =
    value_told_on sg gs one c (value_in (map (valued sg gs) cells) c) (nat_eq one.cell c) refl (λ e. on e (front_or c one.cell (names cells) h) (λ q. value_told sg gs cells c q))
  where
    on : nat_eq one.cell c ≡ false → (c ≡ one.cell) ⊎ (has c (names cells) ≡ true) → (has c (names cells) ≡ true → value_in (map (valued sg gs) cells) c ≡ value_of sg gs c)
        → value_in (map (valued sg gs) cells) c ≡ value_of sg gs c
    on e (inl q) rec = clash (nat_eq one.cell c) (subst (λ z. nat_eq one.cell z ≡ true) (sym q) (is_same one.cell)) e
    on e (inr q) rec = rec q

-- a cell is given with a value
pub record Given (c : ℕ) (gs : List Gift) : Type 0 where
  pub value : Value
  pub is : gift_at c gs ≡ Some (Some value)

pub own_value : (value : ℕ → Option Value) (y : Fork) (ks : BranchCourses) (all : Children) (c : ℕ) → has c (names y.cells) ≡ true
    → told_values value (told y ks all) c ≡ value_of (all_signalled all) (all_give ks) c
own_value value y ks all c h =
    ap (λ (z : Bool). if z then value_in (told y ks all) c else value c) (ap (λ l. has c l) (names_told y ks all) ∙ h) ∙ value_told (all_signalled all) (all_give ks) y.cells c h

pub outer_value : (value : ℕ → Option Value) (y : Fork) (ks : BranchCourses) (all : Children) (c : ℕ) → has c (names y.cells) ≡ false → told_values value (told y ks all) c ≡ value c
outer_value value y ks all c h = ap (λ (z : Bool). if z then value_in (told y ks all) c else value c) (ap (λ l. has c l) (names_told y ks all) ∙ h)

value_some : (b : Bool) (c : ℕ) (gs : List Gift) → (b ≡ true → Given c gs) → is_some (if b then value_given (gift_at c gs) else None) ≡ b
value_some true c gs h = let g = h refl in ap (λ o. is_some (value_given o)) g.is
value_some false c gs h = refl

-- an own cell has a value where a script signals it
pub own_some : (value : ℕ → Option Value) (y : Fork) (ks : BranchCourses) (all : Children) (c : ℕ) → (has c (all_signalled all) ≡ true → Given c (all_give ks)) → has c (names y.cells) ≡ true
    → is_some (told_values value (told y ks all) c) ≡ has c (all_signalled all)
own_some value y ks all c g h = ap is_some (own_value value y ks all c h) ∙ value_some (has c (all_signalled all)) c (all_give ks) g

no_value : (o : Option Value) → is_some o ≡ false → o ≡ None
no_value None h = refl
no_value (Some v) h = absurd (cc)

some_value : (o : Option Value) → is_some o ≡ true → o ≡ None → ⊥
some_value None h e = absurd (cc)
some_value (Some v) h e = absurd (cc)

no_values : (value : ℕ → Option Value) (cs : List ℕ) → ((c : ℕ) → has c cs ≡ true → is_some (value c) ≡ false) → AllByRecursion (λ c. value c ≡ None) cs
no_values value [] h = tt
no_values value (c ∷ cs) h = (no_value (value c) (h c (first_in c cs)), no_values value cs (λ d i. h d (rest_in d c cs i)))

-- where an outcome leads

counts : (l : ℕ) (g : List ℕ) (ks : BranchCourses) → kid_count ks ≡ count (scripts l g ks)
counts l g no_branches = refl
counts l g (more_branches t more) = ap (λ n. suc n) (counts l (g ++ signalled (script false l 0 g t)) more)

kids_have : (l : ℕ) (g : List ℕ) (ks : BranchCourses) → HasMemory (joined l (ends (scripts l g ks)))
kids_have l g ks = subst (λ o. HasMemory o) (sym (joined_is_walk ks l g)) (walk_has l 0 (ends (scripts l g ks)) (kids_memory ks l g))

follows : (o : Outcome) (s : ℕ) (next : ℕ → Script) → HasMemory o → Follows s o (going o s next)
follows (Fine u) s next m = tt
follows (Raise e n) s next m = refl
follows Limit s next m = refl
follows Starved s next m = refl
follows NoMemory s next m = absurd m

goes_on : (value : ℕ → Option Value) (o : Outcome) (l s : ℕ) (signals waits : List ℕ) (next : ℕ → Script) → WithinLimit l o → HasMemory o → l + s ≤ most_steps
    → ((c : ℕ) → has c signals ≡ true → is_some (value c) ≡ has c (signalled (going o s next)))
    → ((u : ℕ) → o ≡ Fine u → u ≤ l → ((c : ℕ) → has c signals ≡ true → is_some (value c) ≡ has c (signalled (next u))) → NamedFormed value (s + u) signals waits (next u))
    → NamedFormed value (s + gain o) signals waits (going o s next)
goes_on value (Fine u) l s signals waits next w m b x h = h u refl w x
goes_on value (Raise e n) l s signals waits next w m b x h = (no_values value signals x, omega (arith, w, b))
goes_on value Limit l s signals waits next w m b x h = (no_values value signals x, tt)
goes_on value Starved l s signals waits next w m b x h = (no_values value signals x, tt)
goes_on value NoMemory l s signals waits next w m b x h = absurd m

waited : (value : ℕ → Option Value) (b : Bool) (c s : ℕ) (signals waits : List ℕ) (r : Script) → (b ≡ true → is_some (value c) ≡ true)
    → ((d : ℕ) → has d signals ≡ true → is_some (value d) ≡ has d (signalled (if b then r else Ends Starved)))
    → (b ≡ true → ((d : ℕ) → has d signals ≡ true → is_some (value d) ≡ has d (signalled r)) → NamedFormed value s signals waits r)
    → (value c ≡ None → (if b then r else Ends Starved) ≡ Ends Starved) × NamedFormed value s signals waits (if b then r else Ends Starved)
waited value true c s signals waits r v x h = ((λ n. absurd (some_value (value c) (v refl) n)), h refl x)
waited value false c s signals waits r v x h = ((λ n. refl), (no_values value signals x, tt))

answers_behind : (t u : Flat Hold) → Answers t → Answers u → Answers (behind t u)
answers_behind Done u a b = absurd a
answers_behind (Halts h) u a b = absurd a
answers_behind (Tick t) u a b = answers_behind t u a b
answers_behind (Answer e t) u a b = b

answers_flats : (ks : BranchCourses) (u : Flat Hold) → AllAnswer ks → Answers u → Answers (flats ks u)
answers_flats no_branches u a b = b
answers_flats (more_branches t more) u a b = answers_behind (flat t) (flats more u) a.0 (answers_flats more u a.1 b)

not_starved : {A : Type 0} (b : Bool) (r : Script) (n : ℕ) → end_of (if b then r else Ends Starved) ≡ Fine n → (end_of r ≡ Fine n → A) → A
not_starved true r n h k = k h
not_starved false r n h k = absurd (cc)

mutual
  -- a script that ends well is one of a course that answers
  pub fine_answers : (proper : ℕ → Value → Type 0) (t : BranchCourse) (rights : ℕ → Bool) (l s n : ℕ) (gn w : List ℕ) (g : List Gift) → Keeps proper (Whole rights) rights w g t → end_of (script false l s gn t) ≡ Fine n → Answers (flat t)
  fine_answers proper Over rights l s n gn w g k h = absurd k
  fine_answers proper (Breaks (Raised e)) rights l s n gn w g k h = absurd (cc)
  fine_answers proper (Breaks TooDeep) rights l s n gn w g k h = absurd (cc)
  fine_answers proper (Breaks Starving) rights l s n gn w g k h = absurd (cc)
  fine_answers proper (Steps t) rights zero s n gn w g k h = absurd (cc)
  fine_answers proper (Steps t) rights (suc l) s n gn w g k h = fine_answers proper t rights l (suc s) n gn w g k h
  fine_answers proper (Finds hold t) rights l s n gn w g k h = tt
  fine_answers proper (Awaits c v t) rights l s n gn w g k h =
      not_starved (has c gn) (script false l s gn t) n h (λ q. fine_answers proper t rights l s n gn (without (c ∷ []) w) g k.1 q)
  fine_answers proper (Gives c v t) rights l s n gn w g k h = fine_answers proper t rights l s n gn w (g ++ (record { cell = c; value = Some v } ∷ [])) k.1.1 h
  fine_answers proper (Forks i x ks t) rights l s n gn w g k h =
      let g' = without (names x.cells) gn in
      let f = going_fine (joined l (ends (scripts l g' ks))) s n (λ u. script false (l - u) (s + u) (g' ++ all_signalled (scripts l g' ks)) t) h in
      let a = fine_all proper x 1 ks l 0 f.steps g' k.1.0 (sym (joined_is_walk ks l g') ∙ f.is_fine) in
      answers_flats ks (flat t) a
      (fine_answers proper t rights (l - f.steps) (s + f.steps) n (g' ++ all_signalled (scripts l g' ks)) (waits_past x w) (g ++ gifts_through (moved true x.moves) (all_give ks)) (k.1.1 a) f.next_fine)

  pub fine_all : (proper : ℕ → Value → Type 0) (x : Fork) (k : ℕ) (ks : BranchCourses) (l u n : ℕ) (gn : List ℕ) → AllKeep proper x k ks → walk l u (ends (scripts l gn ks)) ≡ Fine n → AllAnswer ks
  fine_all proper x k no_branches l u n gn p h = tt
  fine_all proper x k (more_branches t more) l u n gn p h =
      let f = walk_fine l u n (end_of (script false l 0 gn t)) (ends (scripts l (gn ++ signalled (script false l 0 gn t)) more)) h in (
        fine_answers (kid_proper proper x) t (λ c. has c (signals_to k x)) l 0 f.steps gn (waits_to k x) [] p.0 f.is_fine,
        fine_all proper x (suc k) more l (u + f.steps) n (gn ++ signalled (script false l 0 gn t)) p.1 f.rest,
      )

pub fine_kids_answer : (proper : ℕ → Value → Type 0) (x : Fork) (ks : BranchCourses) (l n : ℕ) (gn : List ℕ) → AllKeep proper x 1 ks → joined l (ends (scripts l gn ks)) ≡ Fine n → AllAnswer ks
fine_kids_answer proper x ks l n gn p h = fine_all proper x 1 ks l 0 n gn p (sym (joined_is_walk ks l gn) ∙ h)

-- the rights to signal that are left, as a list
pub record Lists (rights : ℕ → Bool) (g : List Gift) (ss : List ℕ) : Type 0 where
  pub to : (c : ℕ) → has c ss ≡ true → (rights c ≡ true) × (gift_at c g ≡ None)
  pub from : (c : ℕ) → rights c ≡ true → gift_at c g ≡ None → has c ss ≡ true

empty_list : (ss : List ℕ) → ((c : ℕ) → has c ss ≡ true → ⊥) → ss ≡ []
empty_list [] h = refl
empty_list (c ∷ ss) h = absurd (h c (first_in c ss))

lists_less : (rights : ℕ → Bool) (g new : List Gift) (ss gone : List ℕ) → Lists rights g ss → ((c : ℕ) → has c gone ≡ true → gift_at c g ≡ None → gift_at c (g ++ new) ≢ None)
    → ((c : ℕ) → has c gone ≡ false → gift_at c new ≡ None) → ((c : ℕ) → has c gone ≡ true → gift_at c g ≡ None) → Lists rights (g ++ new) (without gone ss)
lists_less rights g new ss gone p there out was = record {
  to = λ c h. let q = p.to c (minus_in c gone ss h) in (q.0, look_same c g new (out c (absent c gone (λ e. gone_not c gone ss e h))) ∙ q.1);
  from = λ c r n. on c r n (tell (has c gone));
}
  where
    before : (c : ℕ) → gift_at c (g ++ new) ≡ None → has c gone ≡ false → gift_at c g ≡ None
    before c n e = sym (look_same c g new (out c e)) ∙ n

    on : (c : ℕ) → rights c ≡ true → gift_at c (g ++ new) ≡ None → (has c gone ≡ true) ⊎ (has c gone ≡ false) → has c (without gone ss) ≡ true
    on c r n (inl e) = absurd (there c e (was c e) n)
    on c r n (inr e) = minus_keeps c gone ss e (p.from c r (before c n e))

-- what one gift takes from the rights
given_less : (rights : ℕ → Bool) (g : List Gift) (ss : List ℕ) (c : ℕ) (v : Value) → Lists rights g ss → gift_at c g ≡ None
    → Lists rights (g ++ (record { cell = c; value = Some v } ∷ [])) (without (c ∷ []) ss)
given_less rights g ss c v p n =
    lists_less rights g (record { cell = c; value = Some v } ∷ []) ss (c ∷ []) p
    (λ d e m. some_now (Some v) (gift_at d (g ++ (record { cell = c; value = Some v } ∷ [])))
    (look_past d g (record { cell = c; value = Some v } ∷ []) m ∙ (ap (λ z. gift_at z (record { cell = c; value = Some v } ∷ [])) (only_one d c e) ∙ given_here c (Some v) [])))
    (λ d e. given_other d c (Some v) [] (λ q. clash (has d (c ∷ [])) (or_in d c [] (inl q)) e)) (λ d e. ap (λ z. gift_at z g) (only_one d c e) ∙ n)

moves_held : (n m : ℕ) (rights : ℕ → Bool) (g : List Gift) (ss w ws : List ℕ) (ms : List Move) → n ≡ m → Lists rights g ss → ((c : ℕ) → has c w ≡ true → has c ws ≡ true)
    → AllByRecursion (MoveGoes n rights g w) ms → AllByRecursion (MoveFits m ss ws) ms
moves_held n m rights g ss w ws ms e p a h =
    each_more (MoveGoes n rights g w) (MoveFits m ss ws) (λ v i. record { from_one = i.0; to_last = subst (λ z. v.child ≤ z) e i.1.0; held = on v.signal v.cell i.1.1 }) ms h
  where
    on : (b : Bool) (c : ℕ) → HoldsRight rights g w b c → has c (held_of b ss ws) ≡ true
    on true c h = p.from c h.0 h.1
    on false c h = a c h

cells_fit : (n m : ℕ) (sg : List ℕ) (gs : List Gift) (cells : List NamedCell) → n ≡ m → AllByRecursion (NamedFits n) cells → AllByRecursion (CellFits m) (map (valued sg gs) cells)
cells_fit n m sg gs [] e h = tt
cells_fit n m sg gs (one ∷ cells) e h = (
  record {
    from_one = h.0.0;
    to_last = subst (λ z. one.producer ≤ z) e h.0.1.0;
    right = subst (λ z. (one.consumer ≡ 0) ⊎ ((one.producer < one.consumer) × (one.consumer ≤ z))) e h.0.1.1;
  },
  cells_fit n m sg gs cells e h.1,
)

pub moved_right : (n : ℕ) (rights : ℕ → Bool) (g : List Gift) (w : List ℕ) (c : ℕ) (ms : List Move) → AllByRecursion (MoveGoes n rights g w) ms → has c (moved true ms) ≡ true
    → (rights c ≡ true) × (gift_at c g ≡ None)
moved_right n rights g w c ms e h =
    let m = moved_move (MoveGoes n rights g w) true c ms e h in
    subst (λ z. (rights z ≡ true) × (gift_at z g ≡ None)) m.1.1.0 (subst (λ (z : Bool). HoldsRight rights g w z m.0.cell) m.1.1.1 m.1.0.1.1)

-- what a fork's moves take from the rights
moved_less : (n : ℕ) (rights : ℕ → Bool) (g gs : List Gift) (w ss : List ℕ) (ms : List Move) → Lists rights g ss → AllByRecursion (MoveGoes n rights g w) ms
    → Lists rights (g ++ gifts_through (moved true ms) gs) (without (moved true ms) ss)
moved_less n rights g gs w ss ms p e =
    lists_less rights g (gifts_through (moved true ms) gs) ss (moved true ms) p
    (λ d i m. some_now (value_given (gift_at d gs)) (gift_at d (g ++ gifts_through (moved true ms) gs)) (look_past d g (gifts_through (moved true ms) gs) m ∙ gifts_in d (moved true ms) gs i))
    (λ d i. gifts_out d (moved true ms) gs (λ q. clash (has d (moved true ms)) q i)) (λ d i. (moved_right n rights g w d ms e i).1)

pub signalled_going : (c s : ℕ) (o : Outcome) (next : ℕ → Script) → has c (signalled (going o s next)) ≡ true → (u : ℕ) × ((o ≡ Fine u) × (has c (signalled (next u)) ≡ true))
signalled_going c s (Fine u) next h = (u, (refl, h))
signalled_going c s (Raise e n) next h = absurd (cc)
signalled_going c s Limit next h = absurd (cc)
signalled_going c s Starved next h = absurd (cc)
signalled_going c s NoMemory next h = absurd (cc)

signalled_waited : (b : Bool) (c : ℕ) (r : Script) → has c (signalled (if b then r else Ends Starved)) ≡ true → has c (signalled r) ≡ true
signalled_waited true c r h = h
signalled_waited false c r h = absurd (cc)

give_only : (c d : ℕ) (v : Value) (rights : ℕ → Bool) (g : List Gift) → rights d ≡ true → gift_at d g ≡ None → (xs : List ℕ) → (c ≡ d) ⊎ (has c xs ≡ true)
    → (has c xs ≡ true → (rights c ≡ true) × (gift_at c (g ++ (record { cell = d; value = Some v } ∷ [])) ≡ None)) → (rights c ≡ true) × (gift_at c g ≡ None)
give_only c d v rights g p q xs (inl e) rec = (ap rights e ∙ p, ap (λ z. gift_at z g) e ∙ q)
give_only c d v rights g p q xs (inr h) rec = let r = rec h in (r.0, look_none c g (record { cell = d; value = Some v } ∷ []) r.1)

fork_only : (c : ℕ) (x : Fork) (n : ℕ) (gs : List Gift) (rights : ℕ → Bool) (w : List ℕ) (g : List Gift) → SiteFits n rights g w x → (rest kids : List ℕ)
    → (has c (those_of kids (moved true x.moves)) ≡ true) ⊎ (has c rest ≡ true) → (has c rest ≡ true → (rights c ≡ true) × (gift_at c (g ++ gifts_through (moved true x.moves) gs) ≡ None))
    → (rights c ≡ true) × (gift_at c g ≡ None)
fork_only c x n gs rights w g s rest kids (inl h) rec = moved_right n rights g w c x.moves s.moves (common_in c (moved true x.moves) kids h).0
fork_only c x n gs rights w g s rest kids (inr h) rec = let r = rec h in (r.0, look_none c g (gifts_through (moved true x.moves) gs) r.1)

either_only : (x : Fork) (k c : ℕ) (ms ns : List ℕ) → (has c ms ≡ true) ⊎ (has c ns ≡ true) → (has c ms ≡ true → has c (signals_to k x) ≡ true)
    → (has c ns ≡ true → (j : ℕ) × ((suc k ≤ j) × (has c (signals_to j x) ≡ true))) → (j : ℕ) × ((k ≤ j) × (has c (signals_to j x) ≡ true))
either_only x k c ms ns (inl h) f r = (k, (omega arith, f h))
either_only x k c ms ns (inr h) f r = let q = r h in let l = q.1.0 in (q.0, (omega (arith, l), q.1.1))

mutual
  -- a script signals what it has the right to, and has not yet signalled
  pub sig_only : (proper : ℕ → Value → Type 0) (t : BranchCourse) (rights : ℕ → Bool) (l s : ℕ) (gn w : List ℕ) (g : List Gift) → Keeps proper (Whole rights) rights w g t
      → (c : ℕ) → has c (signalled (script false l s gn t)) ≡ true → (rights c ≡ true) × (gift_at c g ≡ None)
  sig_only proper Over rights l s gn w g k c h = absurd k
  sig_only proper (Breaks (Raised e)) rights l s gn w g k c h = absurd (cc)
  sig_only proper (Breaks TooDeep) rights l s gn w g k c h = absurd (cc)
  sig_only proper (Breaks Starving) rights l s gn w g k c h = absurd (cc)
  sig_only proper (Steps t) rights zero s gn w g k c h = absurd (cc)
  sig_only proper (Steps t) rights (suc l) s gn w g k c h = sig_only proper t rights l (suc s) gn w g k c h
  sig_only proper (Finds hold t) rights l s gn w g k c h = absurd (cc)
  sig_only proper (Awaits d v t) rights l s gn w g k c h = sig_only proper t rights l s gn (without (d ∷ []) w) g k.1 c (signalled_waited (has d gn) c (script false l s gn t) h)
  sig_only proper (Gives d v t) rights l s gn w g k c h =
      give_only c d v rights g k.0.1 k.1.0 (signalled (script false l s gn t)) (front_or c d (signalled (script false l s gn t)) h)
      (λ q. sig_only proper t rights l s gn w (g ++ (record { cell = d; value = Some v } ∷ [])) k.1.1 c q)
  sig_only proper (Forks i x ks t) rights l s gn w g k c h =
      let g' = without (names x.cells) gn in
      let o = joined l (ends (scripts l g' ks)) in
      fork_only c x (kid_count ks) (all_give ks) rights w g k.0 (signalled (going o s (λ u. script false (l - u) (s + u) (g' ++ all_signalled (scripts l g' ks)) t))) (all_signalled (scripts l g' ks))
      (in_either c (those_of (all_signalled (scripts l g' ks)) (moved true x.moves)) (signalled (going o s (λ u. script false (l - u) (s + u) (g' ++ all_signalled (scripts l g' ks)) t))) h)
      (λ q. let n = signalled_going c s o (λ u. script false (l - u) (s + u) (g' ++ all_signalled (scripts l g' ks)) t) q in
      sig_only proper t rights (l - n.0) (s + n.0) (g' ++ all_signalled (scripts l g' ks)) (waits_past x w) (g ++ gifts_through (moved true x.moves) (all_give ks))
      (k.1.1 (fine_kids_answer proper x ks l n.0 g' k.1.0 n.1.0)) c n.1.1)

  pub all_only : (proper : ℕ → Value → Type 0) (x : Fork) (k : ℕ) (ks : BranchCourses) (l : ℕ) (gn : List ℕ) → AllKeep proper x k ks → (c : ℕ) → has c (all_signalled (scripts l gn ks)) ≡ true
      → (j : ℕ) × ((k ≤ j) × (has c (signals_to j x) ≡ true))
  all_only proper x k no_branches l gn p c h = absurd (cc)
  all_only proper x k (more_branches t more) l gn p c h =
      either_only x k c (signalled (script false l 0 gn t)) (all_signalled (scripts l (gn ++ signalled (script false l 0 gn t)) more))
      (in_either c (signalled (script false l 0 gn t)) (all_signalled (scripts l (gn ++ signalled (script false l 0 gn t)) more)) h)
      (λ q. (sig_only (kid_proper proper x) t (λ d. has d (signals_to k x)) l 0 gn (waits_to k x) [] p.0 c q).0)
      (λ q. all_only proper x (suc k) more l (gn ++ signalled (script false l 0 gn t)) p.1 c q)

-- of elements with distinct cells, one passes two tests that its cell passes

front_case : {A : Type 0} (cell : A → ℕ) (b : Bool) (x : A) (ys : List A) (c : ℕ) → has c (map cell (if b then x ∷ ys else ys)) ≡ true → ((b ≡ true) × (c ≡ cell x)) ⊎ (has c (map cell ys) ≡ true)
front_case cell true x ys c h = on (front_or c (cell x) (map cell ys) h)
  where
    on : (c ≡ cell x) ⊎ (has c (map cell ys) ≡ true) → ((true ≡ true) × (c ≡ cell x)) ⊎ (has c (map cell ys) ≡ true)
    on (inl e) = inl (refl, e)
    on (inr e) = inr e
front_case cell false x ys c h = inr h

distinct_rest : {A : Type 0} (cell : A → ℕ) (b : Bool) (x : A) (ys : List A) → AreDistinct (map cell (if b then x ∷ ys else ys)) → AreDistinct (map cell ys)
distinct_rest cell true x ys d = d.1
distinct_rest cell false x ys d = d

distinct_first : {A : Type 0} (cell : A → ℕ) (b : Bool) (x : A) (ys : List A) → b ≡ true → AreDistinct (map cell (if b then x ∷ ys else ys)) → has (cell x) (map cell ys) ≡ false
distinct_first cell true x ys e d = d.0
distinct_first cell false x ys e d = absurd (cc)

wider : {A : Type 0} (cell : A → ℕ) (base other : A → Bool) (c : ℕ) (xs : List A) → ((x : A) → other x ≡ true → base x ≡ true) → has c (map cell (filter other xs)) ≡ true
    → has c (map cell (filter base xs)) ≡ true
wider cell base other c xs sub h = let p = picked cell other (λ x. ⊤) c xs (each_true xs) h in p.found base (sub p.one p.passes)

one_only : {A : Type 0} (cell : A → ℕ) (base test other : A → Bool) (c : ℕ) (xs : List A) → ((x : A) → test x ≡ true → base x ≡ true) → ((x : A) → other x ≡ true → base x ≡ true)
    → AreDistinct (map cell (filter base xs)) → has c (map cell (filter test xs)) ≡ true → has c (map cell (filter other xs)) ≡ true → (x : A) × ((test x ≡ true) × (other x ≡ true))
one_only cell base test other c [] bt bo d h i = absurd (cc)
one_only {A} cell base test other c (x ∷ xs) bt bo d h i =
    on (front_case cell (test x) x (filter test xs) c h) (front_case cell (other x) x (filter other xs) c i)
    (λ p q. one_only cell base test other c xs bt bo (distinct_rest cell (base x) x (filter base xs) d) p q)
  where
    on : ((test x ≡ true) × (c ≡ cell x)) ⊎ (has c (map cell (filter test xs)) ≡ true) → ((other x ≡ true) × (c ≡ cell x)) ⊎ (has c (map cell (filter other xs)) ≡ true)
        → (has c (map cell (filter test xs)) ≡ true → has c (map cell (filter other xs)) ≡ true → (y : A) × ((test y ≡ true) × (other y ≡ true))) → (y : A) × ((test y ≡ true) × (other y ≡ true))
    on (inl p) (inl q) rec = (x, (p.0, q.0))
    on (inl p) (inr q) rec =
        clash (has (cell x) (map cell (filter base xs))) (wider cell base other (cell x) xs bo (subst (λ z. has z (map cell (filter other xs)) ≡ true) p.1 q))
        (distinct_first cell (base x) x (filter base xs) (bt x p.0) d)
    on (inr p) (inl q) rec =
        clash (has (cell x) (map cell (filter base xs))) (wider cell base test (cell x) xs bt (subst (λ z. has z (map cell (filter test xs)) ≡ true) q.1 p))
        (distinct_first cell (base x) x (filter base xs) (bo x q.0) d)
    on (inr p) (inr q) rec = rec p q

pub moved_not_own : (n : ℕ) (rights : ℕ → Bool) (g : List Gift) (w : List ℕ) (x : Fork) (k c : ℕ) → SiteFits n rights g w x → has c (moved_to k true x.moves) ≡ true → has c (names x.cells) ≡ false
moved_not_own n rights g w x k c s h =
    let m = moved_to_move (λ m. has m.cell (names x.cells) ≡ false) k true c x.moves s.fresh h in
    sym (ap (λ z. has z (names x.cells)) m.1.1.0) ∙ m.1.0

pub one_maker : (x : Fork) (j k c : ℕ) → AreDistinct (names x.cells) → has c (makes j x.cells) ≡ true → has c (makes k x.cells) ≡ true → j ≡ k
one_maker x j k c d h i =
    let o = one_only (λ (one : NamedCell). one.cell) (λ one. true) (λ (one : NamedCell). nat_eq one.producer j) (λ (one : NamedCell). nat_eq one.producer k) c x.cells (λ y e. refl) (λ y e. refl)
    (subst (λ l. AreDistinct (names l)) (sym (all_pass x.cells)) d) h i in
    sym (same_number o.0.producer j o.1.0) ∙ same_number o.0.producer k o.1.1

one_mover : (x : Fork) (j k c : ℕ) → AreDistinct (moved true x.moves) → has c (moved_to j true x.moves) ≡ true → has c (moved_to k true x.moves) ≡ true → j ≡ k
one_mover x j k c d h i =
    let o = one_only (λ (one : Move). one.cell) (is_kind true) (λ (one : Move). nat_eq one.child j && is_kind true one) (λ (one : Move). nat_eq one.child k && is_kind true one) c x.moves
    (λ y e. (and_both (nat_eq y.child j) (is_kind true y) e).1) (λ y e. (and_both (nat_eq y.child k) (is_kind true y) e).1) d h i in
    sym (same_number o.0.child j (and_both (nat_eq o.0.child j) (is_kind true o.0) o.1.0).0) ∙ same_number o.0.child k (and_both (nat_eq o.0.child k) (is_kind true o.0) o.1.1).0

-- a right to signal is one child's
pub alone : (n : ℕ) (rights : ℕ → Bool) (g : List Gift) (w : List ℕ) (x : Fork) (j k c : ℕ) → SiteFits n rights g w x → has c (signals_to j x) ≡ true → has c (signals_to k x) ≡ true → j ≡ k
alone n rights g w x j k c s h i = on (in_either c (makes j x.cells) (moved_to j true x.moves) h) (in_either c (makes k x.cells) (moved_to k true x.moves) i)
  where
    on : (has c (makes j x.cells) ≡ true) ⊎ (has c (moved_to j true x.moves) ≡ true) → (has c (makes k x.cells) ≡ true) ⊎ (has c (moved_to k true x.moves) ≡ true) → j ≡ k
    on (inl p) (inl q) = one_maker x j k c s.distinct p q
    on (inl p) (inr q) = clash (has c (names x.cells)) (names_of_made c j x.cells p) (moved_not_own n rights g w x k c s q)
    on (inr p) (inl q) = clash (has c (names x.cells)) (names_of_made c k x.cells q) (moved_not_own n rights g w x j c s p)
    on (inr p) (inr q) = one_mover x j k c s.signals_once p q

-- what a script signals its course gives with a value

given_before : (c : ℕ) (gs hs : List Gift) → Given c gs → Given c (gs ++ hs)
given_before c gs hs g = record { value = g.value; is = look_before c (Some g.value) gs hs g.is }

given_past : (c : ℕ) (gs hs : List Gift) → gift_at c gs ≡ None → Given c hs → Given c (gs ++ hs)
given_past c gs hs n g = record { value = g.value; is = look_past c gs hs n ∙ g.is }

given_through : (c : ℕ) (cs : List ℕ) (gs : List Gift) → has c cs ≡ true → Given c gs → Given c (gifts_through cs gs)
given_through c cs gs h g = record { value = g.value; is = gifts_in c cs gs h ∙ ap (λ o. Some (value_given o)) g.is }

given_one : (c d : ℕ) (v : Value) (gs : List Gift) (xs : List ℕ) → (c ≡ d) ⊎ (has c xs ≡ true) → (has c xs ≡ true → Given c gs) → (b : Bool) → nat_eq c d ≡ b → Given c (record { cell = d; value = Some v } ∷ gs)
given_one c d v gs xs h rec true e = record { value = v; is = ap (λ (z : Bool). if z then Some (Some v) else gift_at c gs) e }
given_one c d v gs xs (inl q) rec false e = clash (nat_eq c d) (subst (λ z. nat_eq c z ≡ true) q (is_same c)) e
given_one c d v gs xs (inr q) rec false e = let g = rec q in record { value = g.value; is = ap (λ (z : Bool). if z then Some (Some v) else gift_at c gs) e ∙ g.is }

given_fork : (c : ℕ) (ms : List ℕ) (g gs hs : List Gift) (kids rest : List ℕ) → (has c (those_of kids ms) ≡ true) ⊎ (has c rest ≡ true) → (has c kids ≡ true → Given c gs)
    → (has c rest ≡ true → (gift_at c (g ++ gifts_through ms gs) ≡ None) × Given c hs) → Given c (gifts_through ms gs ++ hs)
given_fork c ms g gs hs kids rest (inl h) kid later = let i = common_in c ms kids h in given_before c (gifts_through ms gs) hs (given_through c ms gs i.0 (kid i.1))
given_fork c ms g gs hs kids rest (inr h) kid later =
    let q = later h in
    given_past c (gifts_through ms gs) hs (sym (look_past c g (gifts_through ms gs) (look_none c g (gifts_through ms gs) q.0)) ∙ q.0) q.1

kid_given : (x : Fork) (k j c : ℕ) (gs hs : List Gift) (ms ns : List ℕ) → (has c ms ≡ true) ⊎ (has c ns ≡ true) → (has c ms ≡ true → Given c gs) → (has c ns ≡ true → (gift_at c gs ≡ None) × Given c hs)
    → Given c (gs ++ hs)
kid_given x k j c gs hs ms ns (inl h) here later = given_before c gs hs (here h)
kid_given x k j c gs hs ms ns (inr h) here later = let q = later h in given_past c gs hs q.0 q.1

-- a cell that another child has the right to signal
pub not_its : (x : Fork) (k j c : ℕ) → (has c (signals_to j x) ≡ true → has c (signals_to k x) ≡ true → j ≡ k) → suc k ≤ j → has c (signals_to j x) ≡ true → has c (signals_to k x) ≡ false
not_its x k j c a l h = absent c (signals_to k x) (λ i. let e = a h i in absurd (omega (arith, e, l)))

pub not_none : (x : Fork) (j c : ℕ) → ((k : ℕ) → has 0 (signals_to k x) ≡ false) → has c (signals_to j x) ≡ true → c ≡ 0 → ⊥
not_none x j c z h e = clash (has c (signals_to j x)) h (ap (λ y. has y (signals_to j x)) e ∙ z j)

mutual
  pub sig_given : (proper : ℕ → Value → Type 0) (t : BranchCourse) (rights : ℕ → Bool) (l s : ℕ) (gn w : List ℕ) (g : List Gift) → Keeps proper (Whole rights) rights w g t → Within rights t
      → (c : ℕ) → has c (signalled (script false l s gn t)) ≡ true → Given c (gives t)
  sig_given proper Over rights l s gn w g k wi c h = absurd k
  sig_given proper (Breaks (Raised e)) rights l s gn w g k wi c h = absurd (cc)
  sig_given proper (Breaks TooDeep) rights l s gn w g k wi c h = absurd (cc)
  sig_given proper (Breaks Starving) rights l s gn w g k wi c h = absurd (cc)
  sig_given proper (Steps t) rights zero s gn w g k wi c h = absurd (cc)
  sig_given proper (Steps t) rights (suc l) s gn w g k wi c h = sig_given proper t rights l (suc s) gn w g k wi c h
  sig_given proper (Finds hold t) rights l s gn w g k wi c h = absurd (cc)
  sig_given proper (Awaits d v t) rights l s gn w g k wi c h = sig_given proper t rights l s gn (without (d ∷ []) w) g k.1 wi c (signalled_waited (has d gn) c (script false l s gn t) h)
  sig_given proper (Gives d v t) rights l s gn w g k wi c h =
      given_one c d v (gives t) (signalled (script false l s gn t)) (front_or c d (signalled (script false l s gn t)) h)
      (λ q. sig_given proper t rights l s gn w (g ++ (record { cell = d; value = Some v } ∷ [])) k.1.1 wi.1 c q) (nat_eq c d) refl
  sig_given proper (Forks i x ks t) rights l s gn w g k wi c h =
      let g' = without (names x.cells) gn in
      let o = joined l (ends (scripts l g' ks)) in
      let next : ℕ → Script = λ u. script false (l - u) (s + u) (g' ++ all_signalled (scripts l g' ks)) t in
      given_fork c (moved true x.moves) g (all_give ks) (if all_do_answer ks then gives t else []) (all_signalled (scripts l g' ks)) (signalled (going o s next))
      (in_either c (those_of (all_signalled (scripts l g' ks)) (moved true x.moves)) (signalled (going o s next)) h)
      (λ q. all_given proper x 1 ks l g' (kid_count ks) rights w g k.0 k.1.0 wi.1.0 wi.1.1.0 c q)
      (λ q. let n = signalled_going c s o next q in
      let answer = fine_kids_answer proper x ks l n.0 g' k.1.0 n.1.0 in
      let a = k.1.1 answer in (
        (sig_only proper t rights (l - n.0) (s + n.0) (g' ++ all_signalled (scripts l g' ks)) (waits_past x w) (g ++ gifts_through (moved true x.moves) (all_give ks)) a c n.1.1).1,
        subst (λ z. Given c z) (sym (all_behind ks (gives t) answer))
            (sig_given proper t rights (l - n.0) (s + n.0) (g' ++ all_signalled (scripts l g' ks)) (waits_past x w) (g ++ gifts_through (moved true x.moves) (all_give ks)) a wi.1.1.1 c n.1.1),
      ))

  pub all_given : (proper : ℕ → Value → Type 0) (x : Fork) (k : ℕ) (ks : BranchCourses) (l : ℕ) (gn : List ℕ) (n : ℕ) (rights : ℕ → Bool) (w : List ℕ) (g : List Gift) → SiteFits n rights g w x → AllKeep proper x k ks
      → ((j : ℕ) → has 0 (signals_to j x) ≡ false) → AllWithin x k ks → (c : ℕ) → has c (all_signalled (scripts l gn ks)) ≡ true → Given c (all_give ks)
  all_given proper x k no_branches l gn n rights w g f p z wi c h = absurd (cc)
  all_given proper x k (more_branches t more) l gn n rights w g f p z wi c h =
      let sc = script false l 0 gn t in
      kid_given x k k c (gives t) (all_give more) (signalled sc) (all_signalled (scripts l (gn ++ signalled sc) more))
      (in_either c (signalled sc) (all_signalled (scripts l (gn ++ signalled sc) more)) h)
      (λ q. sig_given (kid_proper proper x) t (λ d. has d (signals_to k x)) l 0 gn (waits_to k x) [] p.0 wi.0 c q)
      (λ q. let a = all_only proper x (suc k) more l (gn ++ signalled sc) p.1 c q in (
        within_gives t (λ d. has d (signals_to k x)) wi.0 c (not_its x k a.0 c (λ i j. alone n rights g w x a.0 k c f i j) a.1.0 a.1.1) (not_none x a.0 c z a.1.1),
        all_given proper x (suc k) more l (gn ++ signalled sc) n rights w g f p.1 z wi.1 c q,
      ))

-- the values of cells

pub same_test : (p q : Bool) → (p ≡ true → q ≡ true) → (q ≡ true → p ≡ true) → p ≡ q
same_test true true h k = refl
same_test false false h k = refl
same_test true false h k = sym (h refl)
same_test false true h k = k refl

pub in_rest : (c : ℕ) (xs ys : List ℕ) → (has c xs ≡ true → ⊥) → has c (xs ++ ys) ≡ has c ys
in_rest c xs ys n = same_test (has c (xs ++ ys)) (has c ys) (λ h. on (in_either c xs ys h)) (λ h. in_right c xs ys h)
  where
    on : (has c xs ≡ true) ⊎ (has c ys ≡ true) → has c ys ≡ true
    on (inl h) = absurd (n h)
    on (inr h) = h

pub in_front : (c : ℕ) (xs ys : List ℕ) → (has c ys ≡ true → ⊥) → has c (xs ++ ys) ≡ has c xs
in_front c xs ys n = same_test (has c (xs ++ ys)) (has c xs) (λ h. on (in_either c xs ys h)) (λ h. in_left c xs ys h)
  where
    on : (has c xs ≡ true) ⊎ (has c ys ≡ true) → has c xs ≡ true
    on (inl h) = h
    on (inr h) = absurd (n h)

either_some : (c : ℕ) (gn sg : List ℕ) (value : ℕ → Option Value) → (has c gn ≡ true) ⊎ (has c sg ≡ true) → ((d : ℕ) → has d gn ≡ true → is_some (value d) ≡ true)
    → (has c sg ≡ true → is_some (value c) ≡ true) → is_some (value c) ≡ true
either_some c gn sg value (inl h) i k = i c h
either_some c gn sg value (inr h) i k = k h

-- what scripts to the left signal has a value in a fork
outer_given : (y : Fork) (ks : BranchCourses) (value : ℕ → Option Value) (l : ℕ) (gn : List ℕ) → ((c : ℕ) → has c gn ≡ true → is_some (value c) ≡ true) → (c : ℕ) → has c (without (names y.cells) gn) ≡ true
    → is_some (told_values value (told y ks (scripts l (without (names y.cells) gn) ks)) c) ≡ true
outer_given y ks value l gn i c h =
    ap is_some (outer_value value y ks (scripts l (without (names y.cells) gn) ks) c (absent c (names y.cells) (λ e. gone_not c (names y.cells) gn e h))) ∙ i c (minus_in c (names y.cells) gn h)

-- the values of a fork's cells
own_values : (proper : ℕ → Value → Type 0) (y : Fork) (ks : BranchCourses) (rights : ℕ → Bool) (value : ℕ → Option Value) (l : ℕ) (gn w : List ℕ) (g : List Gift) → SiteFits (kid_count ks) rights g w y → AllKeep proper y 1 ks
    → ((j : ℕ) → has 0 (signals_to j y) ≡ false) → AllWithin y 1 ks → (c : ℕ) → has c (names y.cells) ≡ true
    → is_some (told_values value (told y ks (scripts l gn ks)) c) ≡ has c (all_signalled (scripts l gn ks))
own_values proper y ks rights value l gn w g f p z wi c h = own_some value y ks (scripts l gn ks) c (λ q. all_given proper y 1 ks l gn (kid_count ks) rights w g f p z wi c q) h

-- .. and of those whose rights move
fork_values : (proper : ℕ → Value → Type 0) (i : ℕ) (y : Fork) (ks : BranchCourses) (t : BranchCourse) (rights : ℕ → Bool) (value : ℕ → Option Value) (l s : ℕ) (gn w : List ℕ) (g : List Gift) (ss : List ℕ)
    → Keeps proper (Whole rights) rights w g (Forks i y ks t) → Within rights (Forks i y ks t) → Lists rights g ss
    → ((c : ℕ) → has c ss ≡ true → is_some (value c) ≡ has c (signalled (script false l s gn (Forks i y ks t)))) → (j c : ℕ) → has c (signals_to j y) ≡ true
    → is_some (told_values value (told y ks (scripts l (without (names y.cells) gn) ks)) c) ≡ has c (all_signalled (scripts l (without (names y.cells) gn) ks))
fork_values proper i y ks t rights value l s gn w g ss k wi p x j c h = on (in_either c (makes j y.cells) (moved_to j true y.moves) h)
  where
    sk : Children
    sk = scripts l (without (names y.cells) gn) ks

    next : ℕ → Script
    next u = script false (l - u) (s + u) (without (names y.cells) gn ++ all_signalled sk) t

    rest : Script
    rest = going (joined l (ends sk)) s next

    not_behind : has c (moved true y.moves) ≡ true → gift_at c g ≡ None → has c (signalled rest) ≡ true → ⊥
    not_behind m n i =
        let q = signalled_going c s (joined l (ends sk)) next i in
        let z = sig_only proper t rights (l - q.0) (s + q.0) (without (names y.cells) gn ++ all_signalled sk) (waits_past y w) (g ++ gifts_through (moved true y.moves) (all_give ks))
        (k.1.1 (fine_kids_answer proper y ks l q.0 (without (names y.cells) gn) k.1.0 q.1.0)) c q.1.1 in
        some_now (value_given (gift_at c (all_give ks))) (gift_at c (g ++ gifts_through (moved true y.moves) (all_give ks)))
        (look_past c g (gifts_through (moved true y.moves) (all_give ks)) n ∙ gifts_in c (moved true y.moves) (all_give ks) m) z.1

    on : (has c (makes j y.cells) ≡ true) ⊎ (has c (moved_to j true y.moves) ≡ true) → is_some (told_values value (told y ks sk) c) ≡ has c (all_signalled sk)
    on (inl i) = own_values proper y ks rights value l (without (names y.cells) gn) w g k.0 k.1.0 wi.1.0 wi.1.1.0 c (names_of_made c j y.cells i)
    on (inr i) =
        let m = moved_of_to j true c y.moves i in
        let q = moved_right (kid_count ks) rights g w c y.moves k.0.moves m in
        ap is_some (outer_value value y ks sk c (moved_not_own (kid_count ks) rights g w y j c k.0 i))
        ∙ (x c (p.from c q.0 q.1)
        ∙ (in_front c (those_of (all_signalled sk) (moved true y.moves)) (signalled rest) (λ z. not_behind m q.1 z)
        ∙ same_test (has c (those_of (all_signalled sk) (moved true y.moves))) (has c (all_signalled sk)) (λ z. (common_in c (moved true y.moves) (all_signalled sk) z).1)
        (λ z. in_common c (moved true y.moves) (all_signalled sk) m z)))

rest_values : (y : Fork) (ks : BranchCourses) (n : ℕ) (rights : ℕ → Bool) (value : ℕ → Option Value) (all : Children) (w : List ℕ) (g : List Gift) (ss rest : List ℕ) → SiteFits n rights g w y → Lists rights g ss
    → ((c : ℕ) → has c ss ≡ true → is_some (value c) ≡ has c (those_of (all_signalled all) (moved true y.moves) ++ rest)) → (c : ℕ) → has c (without (moved true y.moves) ss) ≡ true
    → is_some (told_values value (told y ks all) c) ≡ has c rest
rest_values y ks n rights value all w g ss rest f p x c h =
    let i = minus_in c (moved true y.moves) ss h in
    ap is_some (outer_value value y ks all c (f.apart c (p.to c i).0))
    ∙ (x c i ∙ in_rest c (those_of (all_signalled all) (moved true y.moves)) rest (λ z. gone_not c (moved true y.moves) ss (common_in c (moved true y.moves) (all_signalled all) z).0 h))

-- what conjuncts signal has a value behind them
all_some : (proper : ℕ → Value → Type 0) (y : Fork) (ks : BranchCourses) (value : ℕ → Option Value) (l : ℕ) (gn : List ℕ) → AllKeep proper y 1 ks
    → ((j c : ℕ) → has c (signals_to j y) ≡ true → is_some (value c) ≡ has c (all_signalled (scripts l gn ks))) → ((c : ℕ) → has c gn ≡ true → is_some (value c) ≡ true)
    → (c : ℕ) → has c (gn ++ all_signalled (scripts l gn ks)) ≡ true → is_some (value c) ≡ true
all_some proper y ks value l gn p all given c h =
    either_some c gn (all_signalled (scripts l gn ks)) value (in_either c gn (all_signalled (scripts l gn ks)) h) given (λ q. let z = all_only proper y 1 ks l gn p c q in all z.0 c z.1.1 ∙ q)

-- the rights to wait behind a fork
more_waits : (y : Fork) (ks : BranchCourses) (all : Children) (w ws : List ℕ) → ((c : ℕ) → has c w ≡ true → has c ws ≡ true) → (c : ℕ) → has c (waits_past y w) ≡ true
    → has c (used_by 0 (told y ks all) ++ without (numbers_of (told y ks all)) (without (moved false y.moves) ws)) ≡ true
more_waits y ks all w ws a c h =
    subst (λ u. has c (u ++ without (numbers_of (told y ks all)) (without (moved false y.moves) ws)) ≡ true) (sym (used_told y ks all 0))
    (subst (λ u. has c (uses 0 y.cells ++ without u (without (moved false y.moves) ws)) ≡ true) (sym (names_told y ks all)) (waits_more y w ws a c h))

fork_fits : (y : Fork) (ks : BranchCourses) (all : Children) (l s : ℕ) (rights : ℕ → Bool) (g : List Gift) (w ss ws : List ℕ) → kid_count ks ≡ count all → l + s ≤ most_steps → Lists rights g ss
    → ((c : ℕ) → has c w ≡ true → has c ws ≡ true) → SiteFits (kid_count ks) rights g w y → ForkFits s ss ws l (told y ks all) y.moves (count all)
fork_fits y ks all l s rights g w ss ws e b p a f = record {
  some = subst (λ n. 1 ≤ n) e f.some;
  few = subst (λ n. n ≤ most_children) e f.few;
  early = omega (arith, b);
  limited = omega (arith, b);
  each_cell = cells_fit (kid_count ks) (count all) (all_signalled all) (all_give ks) y.cells e f.cells;
  each_move = moves_held (kid_count ks) (count all) rights g ss w ws y.moves e p a f.moves;
  signals_once = f.signals_once;
  waits_once = f.waits_once;
}

names_fit : (y : Fork) (ks : BranchCourses) (all : Children) (n : ℕ) (rights : ℕ → Bool) (g : List Gift) (w ss : List ℕ) → Lists rights g ss → SiteFits n rights g w y → NamesFit ss (told y ks all) y.moves
names_fit y ks all n rights g w ss p f = record {
  distinct = subst (λ u. AreDistinct u) (sym (names_told y ks all)) f.distinct;
  apart = λ c h. ap (λ u. has c u) (names_told y ks all) ∙ f.apart c (p.to c h).0;
  fresh = subst (λ u. AllByRecursion (λ m. has m.cell u ≡ false) y.moves) (sym (names_told y ks all)) f.fresh;
}

mutual
  pub formed : (proper : ℕ → Value → Type 0) (t : BranchCourse) (rights : ℕ → Bool) (value : ℕ → Option Value) (l s : ℕ) (gn : List ℕ) (w : List ℕ) (g : List Gift) (ss ws : List ℕ) → Keeps proper (Whole rights) rights w g t
      → Within rights t → l + s ≤ most_steps → Lists rights g ss → ((c : ℕ) → has c w ≡ true → has c ws ≡ true)
      → ((c : ℕ) → has c ss ≡ true → is_some (value c) ≡ has c (signalled (script false l s gn t))) → ((c : ℕ) → has c gn ≡ true → is_some (value c) ≡ true)
      → NamedFormed value s ss ws (script false l s gn t)
  formed proper Over rights value l s gn w g ss ws k wi b p a x i = absurd k
  formed proper (Breaks (Raised e)) rights value l s gn w g ss ws k wi b p a x i = (no_values value ss x, omega (arith, b))
  formed proper (Breaks TooDeep) rights value l s gn w g ss ws k wi b p a x i = (no_values value ss x, tt)
  formed proper (Breaks Starving) rights value l s gn w g ss ws k wi b p a x i = (no_values value ss x, tt)
  formed proper (Steps t) rights value zero s gn w g ss ws k wi b p a x i = (no_values value ss x, tt)
  formed proper (Steps t) rights value (suc l) s gn w g ss ws k wi b p a x i = formed proper t rights value l (suc s) gn w g ss ws k wi (omega (arith, b)) p a x i
  formed proper (Finds hold t) rights value l s gn w g ss ws k wi b p a x i = (no_values value ss x, (empty_list ss (λ c h. let q = p.to c h in k c q.0 q.1), omega (arith, b)))
  formed proper (Awaits c v t) rights value l s gn w g ss ws k wi b p a x i = (
    a c k.0,
    waited value (has c gn) c s ss (without (c ∷ []) ws) (script false l s gn t) (λ e. i c e) x
        (λ e x'. formed proper t rights value l s gn (without (c ∷ []) w) g ss (without (c ∷ []) ws) k.1 wi b p (λ d h. minus_more (c ∷ []) w ws a d h) x' i),
  )
  formed proper (Gives c v t) rights value l s gn w g ss ws k wi b p a x i = (
    p.from c k.0.1 k.1.0,
    (
      (λ n. some_value (value c) (x c (p.from c k.0.1 k.1.0) ∙ first_in c (signalled (script false l s gn t))) n),
      formed proper t rights value l s gn w (g ++ (record { cell = c; value = Some v } ∷ [])) (without (c ∷ []) ss) ws k.1.1 wi.1 b (given_less rights g ss c v p k.1.0) a
          (λ d h. x d (minus_in d (c ∷ []) ss h) ∙ in_rest d (c ∷ []) (signalled (script false l s gn t)) (λ e. gone_not d (c ∷ []) ss e h)) i,
    ),
  )
  formed proper (Forks j y ks t) rights value l s gn w g ss ws k wi b p a x i =
      let g' = without (names y.cells) gn in
      let sk = scripts l g' ks in
      let o = joined l (ends sk) in
      let next : ℕ → Script = λ u. script false (l - u) (s + u) (g' ++ all_signalled sk) t in
      let vl = told_values value (told y ks sk) in
      let all = fork_values proper j y ks t rights value l s gn w g ss k wi p x in
      let given = outer_given y ks value l gn i in (
        fork_fits y ks sk l s rights g w ss ws (counts l g' ks) b p a k.0,
        (
          names_fit y ks sk (kid_count ks) rights g w ss p k.0,
          (
            formed_all proper y (told y ks sk) (λ n. made_told y ks sk n) (λ n. used_told y ks sk n) 1 ks vl l g' (kid_count ks) rights w g k.0 k.1.0 wi.1.0 wi.1.1.0 (omega (arith, b)) (λ n c q h. all n c h) given,
            (
              follows o s next (kids_have l g' ks),
              goes_on vl o l s (without (moved true y.moves) ss) (used_by 0 (told y ks sk) ++ without (numbers_of (told y ks sk)) (without (moved false y.moves) ws)) next
                  (joined_limit l (ends sk)) (kids_have l g' ks) b (λ c h. rest_values y ks (kid_count ks) rights value sk w g ss (signalled (going o s next)) k.0 p x c h)
                  (λ u e h x'. formed proper t rights vl (l - u) (s + u) (g' ++ all_signalled sk) (waits_past y w) (g ++ gifts_through (moved true y.moves) (all_give ks))
                  (without (moved true y.moves) ss) (used_by 0 (told y ks sk) ++ without (numbers_of (told y ks sk)) (without (moved false y.moves) ws))
                  (k.1.1 (fine_kids_answer proper y ks l u g' k.1.0 e)) wi.1.1.1 (omega (arith, b, h))
                  (moved_less (kid_count ks) rights g (all_give ks) w ss y.moves p k.0.moves)
                  (more_waits y ks sk w ws a) x'
                  (λ c h. all_some proper y ks vl l g' k.1.0 all given c h)),
            ),
          ),
        ),
      )

  pub formed_all : (proper : ℕ → Value → Type 0) (y : Fork) (cells : List Cell) → ((k : ℕ) → made_by k cells ≡ makes k y.cells) → ((k : ℕ) → used_by k cells ≡ uses k y.cells) → (k : ℕ) (ks : BranchCourses) (value : ℕ → Option Value)
      (l : ℕ) (gn : List ℕ) (n : ℕ) (rights : ℕ → Bool) (w : List ℕ) (g : List Gift) → SiteFits n rights g w y → AllKeep proper y k ks → ((j : ℕ) → has 0 (signals_to j y) ≡ false) → AllWithin y k ks → l ≤ most_steps
      → ((j c : ℕ) → k ≤ j → has c (signals_to j y) ≡ true → is_some (value c) ≡ has c (all_signalled (scripts l gn ks))) → ((c : ℕ) → has c gn ≡ true → is_some (value c) ≡ true)
      → AllNamedFormed value cells y.moves k (scripts l gn ks)
  formed_all proper y cells mk us k no_branches value l gn n rights w g f p z wi b x i = tt
  formed_all proper y cells mk us k (more_branches t more) value l gn n rights w g f p z wi b x i =
      let sc = script false l 0 gn t in
      let rest = all_signalled (scripts l (gn ++ signalled sc) more) in
      let sg : (c : ℕ) → has c (signals_at k cells y.moves) ≡ has c (signals_to k y) = λ c. ap (λ u. has c (u ++ moved_to k true y.moves)) (mk k) in
      let wt : (c : ℕ) → has c (waits_to k y) ≡ has c (waits_at k cells y.moves) = λ c. sym (ap (λ u. has c (u ++ moved_to k false y.moves)) (us k)) in (
        formed (kid_proper proper y) t (λ c. has c (signals_to k y)) value l 0 gn (waits_to k y) [] (signals_at k cells y.moves) (waits_at k cells y.moves) p.0 wi.0 (omega (arith, b))
            (record { to = λ c h. (sym (sg c) ∙ h, refl); from = λ c h m. sg c ∙ h }) (λ c h. sym (wt c) ∙ h)
            (λ c h. x k c (omega arith) (sym (sg c) ∙ h)
            ∙ in_front c (signalled sc) rest (λ q. let z = all_only proper y (suc k) more l (gn ++ signalled sc) p.1 c q in let e = alone n rights g w y z.0 k c f z.1.1 (sym (sg c) ∙ h) in let m = z.1.0 in omega (arith, e, m))) i,
        formed_all proper y cells mk us (suc k) more value l (gn ++ signalled sc) n rights w g f p.1 z wi.1 b
            (λ j c q h. x j c (omega (arith, q)) h
            ∙ in_rest c (signalled sc) rest (λ r. let z = (sig_only (kid_proper proper y) t (λ d. has d (signals_to k y)) l 0 gn (waits_to k y) [] p.0 c r).0 in let e = alone n rights g w y j k c f h z in omega (arith, e, q)))
            (λ c h. either_some c gn (signalled sc) value (in_either c gn (signalled sc) h) i
            (λ r. x k c (omega arith) (sig_only (kid_proper proper y) t (λ d. has d (signals_to k y)) l 0 gn (waits_to k y) [] p.0 c r).0 ∙ in_left c (signalled sc) rest r)),
      )

-- courses that use no rights from outside

no_lists : Lists (λ c. false) [] []
no_lists = record { to = λ c h. absurd (cc); from = λ c r n. absurd (cc) }

pending_waits : (y : Fork) (ks : BranchCourses) (all : Children) (p ws : List ℕ) → y.moves ≡ [] → ((c : ℕ) → has c p ≡ true → has c ws ≡ true) → (c : ℕ) → has c (pending_past y p) ≡ true
    → has c (used_by 0 (told y ks all) ++ without (numbers_of (told y ks all)) (without (moved false y.moves) ws)) ≡ true
pending_waits y ks all p ws e f c h =
    subst (λ u. has c (u ++ without (numbers_of (told y ks all)) (without (moved false y.moves) ws)) ≡ true) (sym (used_told y ks all 0))
    (subst (λ u. has c (uses 0 y.cells ++ without u (without (moved false y.moves) ws)) ≡ true) (sym (names_told y ks all))
    (append_more (uses 0 y.cells) (without (names y.cells) p) (without (names y.cells) (without (moved false y.moves) ws))
    (λ d i. minus_more (names y.cells) p (without (moved false y.moves) ws) (λ b k. no_gone y.moves b ws e (f b k)) d i) c h))

pub not_moved_to : (ms : List Move) (j c : ℕ) → ms ≡ [] → has c (moved_to j true ms) ≡ true → ⊥
not_moved_to ms j c e h = nothing (subst (λ z. has c (moved_to j true z) ≡ true) e h)
  where
    nothing : has c [] ≡ true → ⊥
    nothing q = absurd (cc)

quiet_values : (y : Fork) (ks : BranchCourses) (next : ℕ) (value : ℕ → Option Value) (l : ℕ) (gn : List ℕ) → y.moves ≡ [] → SiteFits (kid_count ks) (λ c. false) [] [] y → AllKeep anything y 1 ks
    → ((j : ℕ) → has 0 (signals_to j y) ≡ false) → AllWithin y 1 ks → (j c : ℕ) → has c (signals_to j y) ≡ true
    → is_some (told_values value (told y ks (scripts l gn ks)) c) ≡ has c (all_signalled (scripts l gn ks))
quiet_values y ks next value l gn e f p z wi j c h = on (in_either c (makes j y.cells) (moved_to j true y.moves) h)
  where
    on : (has c (makes j y.cells) ≡ true) ⊎ (has c (moved_to j true y.moves) ≡ true) → is_some (told_values value (told y ks (scripts l gn ks)) c) ≡ has c (all_signalled (scripts l gn ks))
    on (inl i) = own_values anything y ks (λ c. false) value l gn [] [] f p z wi c (names_of_made c j y.cells i)
    on (inr i) = absurd (not_moved_to y.moves j c e i)

pub formed_quiet : (t : BranchCourse) (root : Bool) (next : ℕ) (value : ℕ → Option Value) (l s : ℕ) (gn p ws : List ℕ) → Quiet next p t → Within (λ c. false) t → l + s ≤ most_steps
    → ((c : ℕ) → has c p ≡ true → has c ws ≡ true) → ((c : ℕ) → has c gn ≡ true → is_some (value c) ≡ true) → NamedFormed value s [] ws (script root l s gn t)
formed_quiet Over root next value l s gn p ws q wi b f i = (tt, (refl, omega (arith, b)))
formed_quiet (Breaks (Raised e)) root next value l s gn p ws q wi b f i = (tt, omega (arith, b))
formed_quiet (Breaks TooDeep) root next value l s gn p ws q wi b f i = (tt, tt)
formed_quiet (Breaks Starving) root next value l s gn p ws q wi b f i = (tt, tt)
formed_quiet (Steps t) root next value zero s gn p ws q wi b f i = (tt, tt)
formed_quiet (Steps t) root next value (suc l) s gn p ws q wi b f i = formed_quiet t root next value l (suc s) gn p ws q wi (omega (arith, b)) f i
formed_quiet (Finds hold t) true next value l s gn p ws q wi b f i = formed_quiet t true next value l s gn [] ws q wi.1 b (λ c h. absurd (cc)) i
formed_quiet (Finds hold t) false next value l s gn p ws q wi b f i = (tt, (refl, omega (arith, b)))
formed_quiet (Awaits c v t) root next value l s gn p ws q wi b f i = (
  f c q.0,
  waited value (has c gn) c s [] (without (c ∷ []) ws) (script root l s gn t) (λ e. i c e) (λ d h. absurd (cc))
      (λ e x. formed_quiet t root next value l s gn (without (c ∷ []) p) (without (c ∷ []) ws) q.1.1 wi b (λ d h. minus_more (c ∷ []) p ws f d h) i),
)
formed_quiet (Gives c v t) root next value l s gn p ws q wi b f i = absurd q
formed_quiet (Forks j y ks t) root next value l s gn p ws q wi b f i =
    let g' = without (names y.cells) gn in
    let sk = scripts l g' ks in
    let o = joined l (ends sk) in
    let after : ℕ → Script = λ u. script root (l - u) (s + u) (g' ++ all_signalled sk) t in
    let vl = told_values value (told y ks sk) in
    let fits = own_fits (kid_count ks) next (λ c. false) [] [] y (λ c r. absurd (cc)) q.0 q.1.0 in
    let all = quiet_values y ks next value l g' q.0 fits q.1.1.0 wi.1.0 wi.1.1.0 in
    let given = outer_given y ks value l gn i in (
      fork_fits y ks sk l s (λ c. false) [] [] [] ws (counts l g' ks) b no_lists (λ c h. absurd (cc)) fits,
      (
        names_fit y ks sk (kid_count ks) (λ c. false) [] [] [] no_lists fits,
        (
          formed_all anything y (told y ks sk) (λ n. made_told y ks sk n) (λ n. used_told y ks sk n) 1 ks vl l g' (kid_count ks) (λ c. false) [] [] fits q.1.1.0 wi.1.0 wi.1.1.0 (omega (arith, b)) (λ n c m h. all n c h) given,
          (
            follows o s after (kids_have l g' ks),
            goes_on vl o l s [] (used_by 0 (told y ks sk) ++ without (numbers_of (told y ks sk)) (without (moved false y.moves) ws)) after (joined_limit l (ends sk)) (kids_have l g' ks) b (λ c h. absurd (cc))
                (λ u e h x. formed_quiet t root next vl (l - u) (s + u) (g' ++ all_signalled sk) (pending_past y p) (used_by 0 (told y ks sk) ++ without (numbers_of (told y ks sk)) (without (moved false y.moves) ws))
                (q.1.1.1 (fine_kids_answer anything y ks l u g' q.1.1.0 e)) wi.1.1.1 (omega (arith, b, h)) (pending_waits y ks sk p ws q.0 f) (all_some anything y ks vl l g' q.1.1.0 all given)),
          ),
        ),
      ),
    )

-- the script of a course that nobody is beside
pub formed_root : (t : BranchCourse) (next l s : ℕ) → Quiet next [] t → Within (λ c. false) t → l + s ≤ most_steps → NamedFormed (λ c. None) s [] [] (script true l s [] t)
formed_root t next l s q wi b = formed_quiet t true next (λ c. None) l s [] [] [] q wi b (λ c h. absurd (cc)) (λ c h. absurd (cc))
