-- Goals as they are written and as they are ordered. Variables and predicates are those of the examples of orders, and seven is fresh.
use Rattle.std.specs.Prelude.{◌≡◌, ℕ, zero, suc, ◌<◌, [], ◌∷◌, None, refl}
use Rattle.std.specs.List.{slice_index_or}
use Rattle.std.proofs.Common.{arith}
use Rattle.merc_goal_tree.specs.declared.goal.SimpleGoal.{SimpleGoal}
use Rattle.merc_goal_tree.specs.declared.goal.SimpleGoal.TheVariants.{Same, Shape, Call}
use Rattle.merc_graded_tree.specs.declared.basic.BasicGoal.TheVariants.{Assign, Test, Call as CallBasic}
use Rattle.merc_graded_tree.specs.declared.entries.Running.TheVariants.{Sequential}
use Rattle.merc_graded_tree.specs.Nodes.{Node, node, Basic, Conjunction, nodes_of}
use Rattle.merc_order.specs.OrderExamples.{at, append, x, y, z, one}
use Rattle.merc_order_laws.specs.WrittenGoals.{basic_goals, written_goal}
use Rattle.merc_order_laws.specs.MadeOf.{renamed, original, StandsFor, as_written, turned_round}

fresh : original 7 (z ∷ y ∷ []) 7 ≡ z
fresh = refl

second_fresh : original 7 (z ∷ y ∷ []) 8 ≡ y
second_fresh = refl

no_fresh : original 7 (z ∷ y ∷ []) x ≡ x
no_fresh = refl

abbrev call_and_test : Node
call_and_test = node (Conjunction Sequential (nodes_of (
    node (Basic (CallBasic (record { predicate = append; mode = 0 }) (x ∷ y ∷ 7 ∷ []))) (7 ∷ []) None (at 10) ∷ node (Basic (Test 7 z)) [] None (at 10) ∷ []))) [] None (at 10)

parts : basic_goals call_and_test ≡ CallBasic (record { predicate = append; mode = 0 }) (x ∷ y ∷ 7 ∷ []) ∷ Test 7 z ∷ []
parts = refl

the_call : renamed (original 7 (z ∷ [])) (written_goal (CallBasic (record { predicate = append; mode = 0 }) (x ∷ y ∷ 7 ∷ []))) ≡ Call append (x ∷ y ∷ z ∷ [])
the_call = refl

the_test : renamed (original 7 (z ∷ [])) (written_goal (Test 7 z)) ≡ Same z z
the_test = refl

-- `X = Y` stands for itself, turned round or not, and for no other
assignment : StandsFor (Same x y ∷ []) (written_goal (Assign y x))
assignment = turned_round x y (0, omega (arith), refl)

-- a list of one has this one alone
only : (goal : SimpleGoal) (place : ℕ) → slice_index_or (Same x y ∷ []) place goal ≡ goal → place < 1 → Same x y ≡ goal
only goal zero h l = h
only goal (suc place) h l = absurd (omega (arith, l))

not_there : StandsFor (Same x y ∷ []) (Shape x one []) → ⊥
not_there (as_written goal contained) = cc (only (Shape x one []) contained.0 contained.2 contained.1)
