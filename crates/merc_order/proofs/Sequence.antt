-- The order of a conjunction as it is read: each goal is the leftmost of those left that is ready after those before it.
use Rattle.std.specs.Prelude.{◌≡◌, ℕ, zero, suc, true, List, [], ◌∷◌, ◌++◌, length, Option, Some, None, refl}
use Rattle.std.proofs.Common.{◌∙◌, ap, sym, subst}
use Rattle.merc_order.specs.Bound.{Bound, with}
use Rattle.merc_order.specs.Moves.{Move, Next, fault_in, behind, if_ready_next, next, settled_next, settled}
use Rattle.merc_order.specs.Ordered.{Ordered, Ordereds, no_goals, more_goals, Outcome, Ready, Stuck, is_ready, Outcomes, AllReady, OneStuck, then_all}
use Rattle.merc_order.specs.Ways.{here, AllStuck, IsSequence, none_left, goes}
use Rattle.merc_order.proofs.MoveLaws.{next_none, next_is, removed_length, some_is, suc_is}

pub record IsFirst (all : List Move) (bound : Bound) (found : Next) : Type 0 where
  pub before : List Move
  pub move : Move
  pub behind_it : List Move
  pub whole : all ≡ before ++ move ∷ behind_it
  pub rest : found.others ≡ before ++ behind_it
  pub stuck : AllStuck before bound
  pub binds_is : found.binds ≡ move.binds
  pub outcome : move.from bound ≡ Ready found.goal

first_step : (m : Move) (ms : List Move) (bound : Bound) (found : Next) (o : Outcome) (l : Option Next) → m.from bound ≡ o → ((n : Next) → l ≡ Some n → IsFirst ms bound n)
    → if_ready_next o m.binds ms (behind m l) ≡ Some found → IsFirst (m ∷ ms) bound found
first_step m ms bound found (Ready g) l e f h =
    subst (λ n. IsFirst (m ∷ ms) bound n) (some_is (record { goal = g; binds = m.binds; others = ms }) found h)
    (record { before = []; move = m; behind_it = ms; whole = refl; rest = refl; stuck = tt; binds_is = refl; outcome = e })
first_step m ms bound found (Stuck x) None e f h = cc
first_step m ms bound found (Stuck x) (Some n) e f h =
    let i = f n refl in
    subst (λ k. IsFirst (m ∷ ms) bound k) (some_is (record { goal = n.goal; binds = n.binds; others = m ∷ n.others }) found h)
    (record { before = m ∷ i.before; move = i.move; behind_it = i.behind_it; whole = ap (λ k. m ∷ k) i.whole; rest = ap (λ k. m ∷ k) i.rest; stuck = (ap is_ready e, i.stuck); binds_is = i.binds_is; outcome = i.outcome })

pub next_first : (all : List Move) (bound : Bound) (found : Next) → next all bound ≡ Some found → IsFirst all bound found
next_first [] bound found h = cc
next_first (m ∷ ms) bound found h = first_step m ms bound found (m.from bound) (next ms bound) refl (λ n e. next_first ms bound n e) h

all_is : (g : Ordered) (o : Outcomes) (os : Ordereds) → then_all g o ≡ AllReady os → (r : Ordereds) × (o ≡ AllReady r) × (more_goals g r ≡ os)
all_is g (AllReady r) os h = (r, refl, cc)
all_is g (OneStuck x) os h = cc

stuck_not : (o : Outcome) (os : Ordereds) → fault_in o ≡ AllReady os → is_ready o ≡ true
stuck_not (Ready g) os h = refl
stuck_not (Stuck x) os h = cc

step : (left : ℕ) (m : Move) (ms : List Move) (bound : Bound) (os : Ordereds) (l : Option Next) → next (m ∷ ms) bound ≡ l
    → ((others : List Move) (more : Bound) (r : Ordereds) → settled left others more ≡ AllReady r → length others ≡ left → IsSequence others more r)
    → ((found : Next) → l ≡ Some found → length found.others ≡ left)
    → settled_next (m.from bound) bound l (settled left) ≡ AllReady os → IsSequence (m ∷ ms) bound os
step left m ms bound os None e again count h = absurd (next_none m (m ∷ ms) ms bound (here m ms) (stuck_not (m.from bound) os h) e)
step left m ms bound os (Some found) e again count h =
    let i = next_first (m ∷ ms) bound found e in
    let (r, one, two) = all_is found.goal (settled left found.others (with bound found.binds)) os h in
    let s : IsSequence (i.before ++ i.behind_it) (with bound i.move.binds) r =
    subst (λ k. IsSequence k (with bound i.move.binds) r) i.rest (subst (λ b. IsSequence found.others (with bound b) r) i.binds_is (again found.others (with bound found.binds) r one (count found refl))) in
    subst (λ k. IsSequence k bound os) (sym i.whole) (subst (λ k. IsSequence (i.before ++ i.move ∷ i.behind_it) bound k) two (goes i.before i.behind_it i.move bound found.goal r i.stuck i.outcome s))

none_is : (os : Ordereds) → AllReady no_goals ≡ AllReady os → no_goals ≡ os
none_is os h = cc

pub settled-sequence : (left : ℕ) (all : List Move) (bound : Bound) (os : Ordereds) → settled left all bound ≡ AllReady os → length all ≡ left → IsSequence all bound os
settled-sequence left [] bound os h count = subst (λ k. IsSequence [] bound k) (none_is os h) (none_left bound)
settled-sequence zero (m ∷ ms) bound os h count = cc
settled-sequence (suc left) (m ∷ ms) bound os h count =
    step left m ms bound os (next (m ∷ ms) bound) refl (λ others more r s c. settled-sequence left others more r s c)
    (λ found e. let i = next_is (m ∷ ms) bound found e in suc_is (length found.others) left (sym (removed_length i.move (m ∷ ms) found.others i.removed) ∙ count)) h
