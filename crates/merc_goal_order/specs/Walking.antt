-- Goals written out in their order, by what is known of their parts.
use Rattle.std.specs.Prelude.{ℕ, ◌+◌, List, length, Result}
use Rattle.merc_base.specs.declared.refusal.Fault.{Fault}
use Rattle.merc_tree.specs.declared.declarations.PredDecl.{PredDecl}
use Rattle.merc_goal_tree.specs.Nodes.{Node}
use Rattle.merc_goal_tree.specs.Variables.{variables}
use Rattle.merc_order.specs.Bound.{among}
use Rattle.merc_order.specs.Order.{from}
use Rattle.merc_order.specs.Procedures.{modes_of}
use Rattle.merc_goal_facts.specs.Facts.{AreKnown, subgoals}
use Rattle.merc_goal_facts.specs.Outside.{IsStretch}
use Rattle.merc_goal_facts.specs.declared.facts.Facts.{Facts}
use Rattle.merc_simple_goals.specs.Writing.{Gives}
use Rattle.merc_simple_goals.specs.declared.written.Written.{Written}

-- A goal is ordered from what is bound, by the facts of its parts. Its variables occur from this place on among all of the body.
abbrev pub Orders : List PredDecl → Node → List Facts → List ℕ → ℕ → List ℕ → Written → Written → Result (Unit {0}) Fault → Type 0
Orders predicates goal facts all start bound old new result =
    (total : ℕ → ℕ) → AreKnown total (modes_of predicates) (subgoals goal) facts → IsStretch total all start (start + length (variables goal)) (variables goal)
    → Gives (modes_of predicates) (from total (modes_of predicates) goal (among bound)) old new result
