-- Goals of a conjunction can all go where they can go in any order, and then also where more is bound.
use Rattle.std.specs.Prelude.{◌≡◌, ℕ, zero, suc, Bool, true, false, ◌||◌, List, [], ◌∷◌, length, Option, Some, None, refl}
use Rattle.std.proofs.Common.{◌∙◌, ap, sym, subst}
use Rattle.merc_order.specs.Bound.{Bound, with, Holds}
use Rattle.merc_order.specs.Ways.{Removed, here, later, IsReady, CanAll, none, take}
use Rattle.merc_order.specs.Moves.{Move, Next, fault_in, behind, if_ready_next, next, settled_next, settled}
use Rattle.merc_order.specs.Ordered.{Ordered, Outcome, Ready, Stuck, is_ready, Outcomes, AllReady, OneStuck, are_ready, then_all}

pub or_left : (a b : Bool) → a ≡ true → (a || b) ≡ true
or_left true b h = refl
or_left false b h = cc

pub or_right : (a b : Bool) → b ≡ true → (a || b) ≡ true
or_right true b h = refl
or_right false b h = h

pub or_both : (a b c : Bool) → (a ≡ true → c ≡ true) → (b ≡ true → c ≡ true) → (a || b) ≡ true → c ≡ true
or_both true b c f g h = f refl
or_both false b c f g h = g h

-- what is ready stays so where more is bound
abbrev pub IsMonotone : Move → Type 0
IsMonotone move = (bound more : Bound) → Holds bound more → IsReady move bound → IsReady move more

abbrev pub AreMonotone : List Move → Type 0
AreMonotone [] = Unit {0}
AreMonotone (move ∷ moves) = IsMonotone move × AreMonotone moves

pub monotone_one : (move : Move) (all others : List Move) → Removed move all others → AreMonotone all → IsMonotone move
monotone_one move all others (here m o) (m1, ms) = m1
monotone_one move all others (later f m a o r) (m1, ms) = monotone_one move a o r ms

pub monotone_rest : (move : Move) (all others : List Move) → Removed move all others → AreMonotone all → AreMonotone others
monotone_rest move all others (here m o) (m1, ms) = ms
monotone_rest move all others (later f m a o r) (m1, ms) = (m1, monotone_rest move a o r ms)

pub holds_with : (bound more binds : Bound) → Holds bound more → Holds (with bound binds) (with more binds)
holds_with bound more binds h variable b =
    or_both (bound variable) (binds variable) (more variable || binds variable)
    (λ k. or_left (more variable) (binds variable) (h variable k)) (λ k. or_right (more variable) (binds variable) k) b

pub can_all-more : (all : List Move) (bound more : Bound) → AreMonotone all → Holds bound more → CanAll all bound → CanAll all more
can_all-more all bound more mono h (none k) = none more
can_all-more all bound more mono h (take m a o k r ready rest) =
    take m all o more r (monotone_one m all o r mono bound more h ready)
    (can_all-more o (with bound m.binds) (with more m.binds) (monotone_rest m all o r mono) (holds_with bound more m.binds h) rest)

-- two taken out one after the other
data Both (one other : Move) (without_one without_other : List Move) : Type 0 where
  same : one ≡ other → without_one ≡ without_other → Both one other without_one without_other
  apart : (rest : List Move) → Removed other without_one rest → Removed one without_other rest → Both one other without_one without_other

both_later : (first one other : Move) (a b : List Move) → Both one other a b → Both one other (first ∷ a) (first ∷ b)
both_later first one other a b (same e f) = same e (ap (λ l. first ∷ l) f)
both_later first one other a b (apart rest r s) = apart (first ∷ rest) (later first other a rest r) (later first one b rest s)

both : (one other : Move) (all a b : List Move) → Removed one all a → Removed other all b → Both one other a b
both one other all a b (here m o) (here n p) = same refl refl
both one other all a b (here m o) (later f n c p r) = apart p r (here one p)
both one other all a b (later f m c o r) (here n p) = apart o (here other o) r
both one other all a b (later f m c o r) (later g n d p s) = both_later f one other o p (both one other c o p r s)

swapped : (bound one other : Bound) → Holds (with (with bound one) other) (with (with bound other) one)
swapped bound one other variable h =
    or_both (bound variable || one variable) (other variable) ((bound variable || other variable) || one variable)
    (λ k. or_both (bound variable) (one variable) ((bound variable || other variable) || one variable)
    (λ j. or_left (bound variable || other variable) (one variable) (or_left (bound variable) (other variable) j))
    (λ j. or_right (bound variable || other variable) (one variable) j) k)
    (λ k. or_left (bound variable || other variable) (one variable) (or_right (bound variable) (other variable) k)) h

holds_more : (bound binds : Bound) → Holds bound (with bound binds)
holds_more bound binds variable h = or_left (bound variable) (binds variable) h

without_from : (move m : Move) (all others o : List Move) (bound : Bound) → AreMonotone all → Removed move all others → Removed m all o → IsReady m bound → CanAll o (with bound m.binds)
    → ((c : List Move) → Removed move o c → CanAll c (with (with bound m.binds) move.binds)) → Both move m others o → CanAll others (with bound move.binds)
without_from move m all others o bound mono r s ready rest again (same e f) = subst (λ l. CanAll l (with bound move.binds)) (sym f) (subst (λ x. CanAll o (with bound x.binds)) (sym e) rest)
without_from move m all others o bound mono r s ready rest again (apart c t u) =
    take m others c (with bound move.binds) t (monotone_one m all o s mono bound (with bound move.binds) (holds_more bound move.binds) ready)
    (can_all-more c (with (with bound m.binds) move.binds) (with (with bound move.binds) m.binds)
    (monotone_rest m others c t (monotone_rest move all others r mono)) (swapped bound m.binds move.binds) (again c u))

-- Where all can go, all others can go behind any of them.
pub can_all-without : (move : Move) (all others : List Move) (bound : Bound) → AreMonotone all → Removed move all others → CanAll all bound → CanAll others (with bound move.binds)
can_all-without move all others bound mono r (none k) = elim r [ ]
can_all-without move all others bound mono r (take m a o k s ready rest) =
    without_from move m all others o bound mono r s ready rest
    (λ c u. can_all-without move o c (with bound m.binds) (monotone_rest m all o s mono) u rest) (both move m all others o r s)

-- What `next` finds.

pub some_is : {T : Type 0} (one other : T) → Some one ≡ Some other → one ≡ other
some_is one other h = cc

pub record IsNext (all : List Move) (bound : Bound) (found : Next) : Type 0 where
  pub move : Move
  pub removed : Removed move all found.others
  pub binds_is : found.binds ≡ move.binds
  pub outcome : move.from bound ≡ Ready found.goal

next_step : (m : Move) (ms : List Move) (bound : Bound) (found : Next) (o : Outcome) (l : Option Next) → m.from bound ≡ o → ((n : Next) → l ≡ Some n → IsNext ms bound n)
    → if_ready_next o m.binds ms (behind m l) ≡ Some found → IsNext (m ∷ ms) bound found
next_step m ms bound found (Ready g) l e f h =
    subst (λ n. IsNext (m ∷ ms) bound n) (some_is (record { goal = g; binds = m.binds; others = ms }) found h) (record { move = m; removed = here m ms; binds_is = refl; outcome = e })
next_step m ms bound found (Stuck x) None e f h = cc
next_step m ms bound found (Stuck x) (Some n) e f h =
    let i = f n refl in
    subst (λ n. IsNext (m ∷ ms) bound n) (some_is (record { goal = n.goal; binds = n.binds; others = m ∷ n.others }) found h)
    (record { move = i.move; removed = later m i.move ms n.others i.removed; binds_is = i.binds_is; outcome = i.outcome })

pub next_is : (all : List Move) (bound : Bound) (found : Next) → next all bound ≡ Some found → IsNext all bound found
next_is [] bound found h = cc
next_is (m ∷ ms) bound found h = next_step m ms bound found (m.from bound) (next ms bound) refl (λ n e. next_is ms bound n e) h

none_here : (o : Outcome) (b : Bound) (ms : List Move) (l : Option Next) → is_ready o ≡ true → if_ready_next o b ms l ≡ None → ⊥
none_here (Ready g) b ms l ready h = cc
none_here (Stuck x) b ms l ready h = cc

none_later : (o : Outcome) (b : Bound) (ms : List Move) (f : Move) (l : Option Next) → if_ready_next o b ms (behind f l) ≡ None → l ≡ None
none_later (Ready g) b ms f l h = cc
none_later (Stuck x) b ms f None h = refl
none_later (Stuck x) b ms f (Some n) h = cc

pub next_none : (move : Move) (all others : List Move) (bound : Bound) → Removed move all others → IsReady move bound → next all bound ≡ None → ⊥
next_none move all others bound (here m o) ready h = none_here (m.from bound) m.binds o (behind m (next o bound)) ready h
next_none move all others bound (later f m a o r) ready h =
    next_none move a o bound r ready (none_later (f.from bound) f.binds a f (next a bound) h)

pub removed_length : (move : Move) (all others : List Move) → Removed move all others → length all ≡ suc (length others)
removed_length move all others (here m o) = refl
removed_length move all others (later f m a o r) = ap suc (removed_length move a o r)

pub suc_is : (a b : ℕ) → suc a ≡ suc b → a ≡ b
suc_is a b h = cc

-- The order by `settled` is there exactly where all can go.

pub then_all-ready : (g : Ordered) (o : Outcomes) → are_ready (then_all g o) ≡ are_ready o
then_all-ready g (AllReady goals) = refl
then_all-ready g (OneStuck fault) = refl

goes_on : (left : ℕ) (all : List Move) (bound : Bound) (first : Outcome) (l : Option Next) → length all ≡ suc left → AreMonotone all → CanAll all bound → next all bound ≡ l → (l ≡ None → ⊥)
    → ((others : List Move) (more : Bound) → length others ≡ left → AreMonotone others → CanAll others more → are_ready (settled left others more) ≡ true)
    → are_ready (settled_next first bound l (settled left)) ≡ true
goes_on left all bound first None count mono can e some again = absurd (some refl)
goes_on left all bound first (Some found) count mono can e some again =
    let i = next_is all bound found e in
    then_all-ready found.goal (settled left found.others (with bound found.binds))
    ∙ again found.others (with bound found.binds) (suc_is (length found.others) left (sym (removed_length i.move all found.others i.removed) ∙ count))
    (monotone_rest i.move all found.others i.removed mono)
    (subst (λ b. CanAll found.others (with bound b)) (sym i.binds_is) (can_all-without i.move all found.others bound mono i.removed can))

is_there : (m : Move) (ms : List Move) (bound : Bound) → CanAll (m ∷ ms) bound → next (m ∷ ms) bound ≡ None → ⊥
is_there m ms bound (take move a o k r ready rest) h = next_none move (m ∷ ms) o bound r ready h

pub settled-all : (left : ℕ) (all : List Move) (bound : Bound) → length all ≡ left → AreMonotone all → CanAll all bound → are_ready (settled left all bound) ≡ true
settled-all left [] bound count mono can = refl
settled-all zero (m ∷ ms) bound count mono can = refl
settled-all (suc left) (m ∷ ms) bound count mono can =
    goes_on left (m ∷ ms) bound (m.from bound) (next (m ∷ ms) bound) count mono can refl (is_there m ms bound can) (λ others more. settled-all left others more)

ready_is : (o : Outcome) (g : Ordered) → o ≡ Ready g → is_ready o ≡ true
ready_is o g e = ap is_ready e

fault_in-stuck : (o : Outcome) (left : ℕ) → are_ready (fault_in o) ≡ true → is_ready o ≡ true
fault_in-stuck (Ready g) left h = refl
fault_in-stuck (Stuck x) left h = cc

went_on : (left : ℕ) (m : Move) (ms : List Move) (bound : Bound) (l : Option Next) → length (m ∷ ms) ≡ suc left → next (m ∷ ms) bound ≡ l
    → ((others : List Move) (more : Bound) → length others ≡ left → are_ready (settled left others more) ≡ true → CanAll others more)
    → are_ready (settled_next (m.from bound) bound l (settled left)) ≡ true → CanAll (m ∷ ms) bound
went_on left m ms bound None count e again h = absurd (next_none m (m ∷ ms) ms bound (here m ms) (fault_in-stuck (m.from bound) left h) e)
went_on left m ms bound (Some found) count e again h =
    let i = next_is (m ∷ ms) bound found e in
    let rest : CanAll found.others (with bound found.binds) =
    again found.others (with bound found.binds) (suc_is (length found.others) left (sym (removed_length i.move (m ∷ ms) found.others i.removed) ∙ count))
    (sym (then_all-ready found.goal (settled left found.others (with bound found.binds))) ∙ h) in
    take i.move (m ∷ ms) found.others bound i.removed (ready_is (i.move.from bound) found.goal i.outcome) (subst (λ b. CanAll found.others (with bound b)) i.binds_is rest)

pub all-settled : (left : ℕ) (all : List Move) (bound : Bound) → length all ≡ left → are_ready (settled left all bound) ≡ true → CanAll all bound
all-settled left [] bound count h = none bound
all-settled zero (m ∷ ms) bound count h = cc
all-settled (suc left) (m ∷ ms) bound count h = went_on left m ms bound (next (m ∷ ms) bound) count refl (λ others more. all-settled left others more) h

-- what can be ordered can be ordered where more is bound
pub settled-more : (all : List Move) (bound more : Bound) → AreMonotone all → Holds bound more → are_ready (settled (length all) all bound) ≡ true → are_ready (settled (length all) all more) ≡ true
settled-more all bound more mono h ready =
    settled-all (length all) all more refl mono (can_all-more all bound more mono h (all-settled (length all) all bound refl ready))
