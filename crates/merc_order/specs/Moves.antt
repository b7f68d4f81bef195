-- Goals that stand beside each other, and which of them goes when.
use Rattle.std.specs.Prelude.{ℕ, zero, suc, ◌+◌, ◌&&◌, List, [], ◌∷◌, Option, Some, None, if◌then◌else◌}
use Rattle.merc_base.specs.declared.place.Span.{Span}
use Rattle.merc_order.specs.Bound.{Bound, with}
use Rattle.merc_order.specs.Faults.{conjunct_fault}
use Rattle.merc_order.specs.Ordered.{Ordered, no_goals, Outcome, Ready, Stuck, is_ready, Outcomes, AllReady, OneStuck, then_all, and_all}

-- A goal among others: what it binds, where it stands, and what becomes of it from what is bound.
pub record Move : Type 0 where
  pub binds : Bound
  pub span : Span
  pub from : Bound → Outcome

-- In a conjunction the leftmost goal that is ready goes next.

-- the goal that goes next, what it binds, and the others
pub record Next : Type 0 where
  pub goal : Ordered
  pub binds : Bound
  pub others : List Move

abbrev pub behind : Move → Option Next → Option Next
behind move None = None
behind move (Some found) = Some (record { goal = found.goal; binds = found.binds; others = move ∷ found.others })

abbrev pub if_ready_next : Outcome → Bound → List Move → Option Next → Option Next
if_ready_next (Ready goal) binds others later = Some (record { goal = goal; binds = binds; others = others })
if_ready_next (Stuck fault) binds others later = later

abbrev pub next : List Move → Bound → Option Next
next [] bound = None
next (move ∷ moves) bound = if_ready_next (move.from bound) move.binds moves (behind move (next moves bound))

abbrev pub fault_in : Outcome → Outcomes
fault_in (Ready goal) = AllReady no_goals
fault_in (Stuck fault) = OneStuck fault

-- the next goal, and what becomes of the others behind it
abbrev pub settled_next : Outcome → Bound → Option Next → (List Move → Bound → Outcomes) → Outcomes
settled_next first bound None others = fault_in first
settled_next first bound (Some found) others = then_all found.goal (others found.others (with bound found.binds))

-- The goals of a conjunction, of which so many are left. Where none is ready, the first that is left tells why.
abbrev pub settled : ℕ → List Move → Bound → Outcomes
settled left [] bound = AllReady no_goals
settled zero (move ∷ moves) bound = AllReady no_goals
settled (suc left) (move ∷ moves) bound = settled_next (move.from bound) bound (next (move ∷ moves) bound) (settled left)

-- In a parallel conjunction goals go in their order. One that is not ready may need a later one: the first that is ready and behind which it is ready too.
abbrev pub needed : ℕ → Move → List Move → Bound → Option ℕ
needed number move [] bound = None
needed number move (later ∷ others) bound =
    if is_ready (later.from bound) && is_ready (move.from (with bound later.binds)) then Some number
    else needed (number + 1) move others bound

abbrev pub beside_next : ℕ → Move → List Move → Bound → Outcome → Outcomes → Outcomes
beside_next number move moves bound (Ready goal) others = then_all goal others
beside_next number move moves bound (Stuck fault) others = OneStuck (conjunct_fault number move.span (needed (number + 1) move moves bound) fault)

abbrev pub beside : ℕ → List Move → Bound → Outcomes
beside number [] bound = AllReady no_goals
beside number (move ∷ moves) bound = beside_next number move moves bound (move.from bound) (beside (number + 1) moves (with bound move.binds))

-- In a disjunction each goal goes from the same.
abbrev pub each_from : List Move → Bound → Outcomes
each_from [] bound = AllReady no_goals
each_from (move ∷ moves) bound = and_all (move.from bound) (each_from moves bound)
