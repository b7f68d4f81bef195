-- Goals that are written out, and others that are not.
use Rattle.std.specs.Prelude.{◌≡◌, ℕ, true, false, List, [], ◌∷◌, Some, None, Ok, Err, refl}
use Rattle.merc_base.specs.declared.refusal.Fault.TheVariants.{Refused}
use Rattle.merc_tree.specs.declared.declarations.Arg.TheVariants.{Input, Output}
use Rattle.merc_graded_tree.specs.declared.basic.BasicGoal.{BasicGoal}
use Rattle.merc_graded_tree.specs.declared.basic.BasicGoal.TheVariants.{True, Fail}
use Rattle.merc_graded_tree.specs.Nodes.{Node, node, Basic}
use Rattle.merc_order.specs.Faults.{never_ready}
use Rattle.merc_order.specs.OrderExamples.{at, modes, append, x, y, z}
use Rattle.merc_order.specs.Ordered.{Ordered, put, Called, Ready, Stuck}
use Rattle.merc_order.specs.Spelt.{spelt}
use Rattle.merc_simple_goals.specs.Putting.{PutsIf}
use Rattle.merc_simple_goals.specs.Testing.{written_here}
use Rattle.merc_simple_goals.specs.Writing.{IsWritten, Gives}
use Rattle.merc_simple_goals.specs.declared.written.Written.{Written}

-- `append(X, Y, Z)` with all three bound: a fresh variable, and a test
abbrev tested_call : Ordered
tested_call = put (Called append 0 (x ∷ y ∷ z ∷ []) (false ∷ false ∷ true ∷ [])) [] (at 10)

abbrev before : Written
before = record { nodes = []; fresh = 7; seen = [] }

abbrev behind : ℕ → Written
behind fresh = record { nodes = spelt modes 7 tested_call ∷ []; fresh = fresh; seen = [] }

written : IsWritten modes tested_call before (behind 8)
written = record { nodes = refl; fresh = refl; seen = refl }

-- the number of its fresh variable would be given again
not_numbered : IsWritten modes tested_call before (behind 7) → ⊥
not_numbered is = let e : 7 ≡ 8 = is.fresh in cc

ready : Gives modes (Ready tested_call) before (behind 8) (Ok tt)
ready = (tested_call, refl, written)

stuck : Gives modes (Stuck (never_ready (at 10))) before before (Err (Refused (never_ready (at 10))))
stuck = refl

not_stuck : Gives modes (Ready tested_call) before before (Err (Refused (never_ready (at 10)))) → ⊥
not_stuck gives = cc

-- a goal is put behind those that are there

abbrev goal : BasicGoal → Node
goal basic = node (Basic basic) [] None (at 10)

abbrev goals : List Node → Written
goals all = record { nodes = all; fresh = 8; seen = [] }

put_behind : PutsIf true (goal Fail) (at 10) (goals (goal True ∷ [])) (goals (goal True ∷ goal Fail ∷ [])) (Ok tt)
put_behind = (refl, record { nodes = refl; fresh = refl; seen = refl })

put_in_front : PutsIf true (goal Fail) (at 10) (goals (goal True ∷ [])) (goals (goal Fail ∷ goal True ∷ [])) (Ok tt) → ⊥
put_in_front puts = let nodes_are = puts.1.nodes in cc

not_put : PutsIf false (goal Fail) (at 10) before before (Err (Refused (never_ready (at 10))))
not_put = (refl, refl)

ready_is_put : PutsIf true (goal Fail) (at 10) before before (Err (Refused (never_ready (at 10)))) → ⊥
ready_is_put puts = let wrong = puts.0 in cc

-- what a call writes at a place: an output with no test

output_written : written_here false (Some Output) (Some 5) ≡ Some 5
output_written = refl

test_not_written : written_here true (Some Output) (Some 5) ≡ None
test_not_written = refl

input_not_written : written_here false (Some Input) (Some 5) ≡ None
input_not_written = refl
