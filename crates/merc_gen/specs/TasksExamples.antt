-- What is still to be done for a few goals, and what comes of it.
use Rattle.std.specs.Prelude.{◌≡◌, Bool, true, false, [], ◌∷◌, None, refl}
use Rattle.std.proofs.Common.{arith}
use Rattle.merc_tree.specs.Term.{no_span}
use Rattle.merc_goal_tree.specs.declared.goal.Symbol.{Symbol}
use Rattle.merc_goal_tree.specs.declared.goal.Symbol.TheVariants.{Constructor}
use Rattle.merc_graded_tree.specs.declared.basic.BasicGoal.TheVariants.{Fail as FailGoal, Call as CallGoal}
use Rattle.merc_graded_tree.specs.declared.basic.Procedure.{Procedure}
use Rattle.merc_graded_tree.specs.Nodes.{Node, node, Basic, Conditional, Quantified, nodes_of, no_arms, more_arms}
use Rattle.merc_code.specs.declared.instruction.Instruction.TheVariants.{Jump, Try, Mark, Commit, Call, Fail, Return}
use Rattle.merc_code.specs.Steps.{Code}
use Rattle.merc_gen.specs.Tasks.{targets_at, arm_code, disjunct_code, disjuncts_code, arms_before, starts_before, decided_code, in_turn_code, after, after_all, task_turns, all_turns, Performs}
use Rattle.merc_gen.specs.Turns.{node_turns, goal_turns, joined_turns, arms_turns, list_turns}
use Rattle.merc_gen.specs.Waiting.{are_quiet, Spreads, Looks}
use Rattle.merc_gen.specs.declared.tasks.Task.TheVariants.{Emit, Bare, Put, Branch}

-- no procedure is known to leave no choice point behind
abbrev none : Procedure → Bool
none procedure = false

abbrev fails : Node
fails = node (Basic FailGoal) [] None no_span

abbrev called : Procedure
called = record { predicate = 0; mode = 0 }

-- a call that may answer more than once
abbrev calls : Node
calls = node (Basic (CallGoal called [])) (0 ∷ []) None no_span

abbrev rest : Code
rest = Return ∷ []

-- turns

of_basic : node_turns fails ≡ 2
of_basic = refl

of_quantified : goal_turns (Quantified [] fails) ≡ 5
of_quantified = refl

of_conditional : goal_turns (Conditional fails fails fails) ≡ 11
of_conditional = refl

of_joined : joined_turns (nodes_of (fails ∷ fails ∷ [])) ≡ list_turns (fails ∷ fails ∷ [])
of_joined = refl

of_arms : arms_turns (more_arms (Constructor 0 0) fails no_arms) ≡ 5
of_arms = refl

of_arms_not : arms_turns (more_arms (Constructor 0 0) fails no_arms) ≡ 2 → ⊥
of_arms_not wrong = cc

of_tasks : all_turns (Put Fail ∷ Emit fails 0 ∷ []) ≡ 4
of_tasks = refl

-- goals that are looked at

quiet_goals : are_quiet none (fails ∷ []) ≡ true
quiet_goals = refl

loud_goals : are_quiet none (fails ∷ calls ∷ []) ≡ false
loud_goals = refl

spreads : Spreads none (Quantified [] calls) true [] (calls ∷ [])
spreads = record { same = refl; fewer = omega arith }

-- one that is not looked at is not asked about
spreads_not : Spreads none (Quantified [] calls) true [] [] → ⊥
spreads_not spread = let wrong : true ≡ false = spread.same in cc

looks : Looks none fails true (calls ∷ []) (calls ∷ [])
looks = record { looked = refl; less = omega arith }

looks_not : Looks none calls true [] [] → ⊥
looks_not look = let wrong : true ≡ false = look.looked in cc

-- code

arm : arm_code none 0 1 fails (Fail ∷ rest) ≡ Fail ∷ Jump 1 ∷ Fail ∷ rest
arm = refl

disjunct : disjunct_code none 0 1 calls (Fail ∷ rest) ≡ Try 2 ∷ Call called [] ∷ Jump 1 ∷ Fail ∷ rest
disjunct = refl

two_disjuncts : disjuncts_code none 0 1 (fails ∷ fails ∷ []) (Fail ∷ rest) ≡ Try 2 ∷ Fail ∷ Jump 4 ∷ Try 2 ∷ Fail ∷ Jump 1 ∷ Fail ∷ rest
two_disjuncts = refl

a_jump_that_is_short : disjuncts_code none 0 1 (fails ∷ []) (Fail ∷ rest) ≡ Try 1 ∷ Fail ∷ Jump 0 ∷ Fail ∷ rest → ⊥
a_jump_that_is_short wrong = cc

starts : starts_before none 0 1 (fails ∷ fails ∷ []) (Fail ∷ rest) ≡ 6 ∷ 4 ∷ []
starts = refl

before_arms : arms_before none 0 1 (fails ∷ []) (Fail ∷ rest) ≡ Fail ∷ Jump 1 ∷ Fail ∷ rest
before_arms = refl

abbrev zero_symbol : Symbol
zero_symbol = Constructor 0 0

abbrev one_symbol : Symbol
one_symbol = Constructor 1 0

two_targets : targets_at (zero_symbol ∷ one_symbol ∷ []) (6 ∷ 4 ∷ []) 6 ≡ record { symbol = zero_symbol; skipped = 0 } ∷ record { symbol = one_symbol; skipped = 2 } ∷ []
two_targets = refl

no_start : targets_at (zero_symbol ∷ []) [] 0 ≡ []
no_start = refl

decided : decided_code none fails fails 0 1 (Fail ∷ rest) ≡ Mark 0 ∷ Try 4 ∷ Fail ∷ Commit 0 ∷ Fail ∷ Jump 1 ∷ Fail ∷ rest
decided = refl

in_turn : in_turn_code none 0 (fails ∷ calls ∷ []) rest ≡ Fail ∷ Call called [] ∷ rest
in_turn = refl

-- the last of tasks comes first
last_first : after_all none (Put Fail ∷ Branch 1 ∷ Emit calls 0 ∷ []) rest ≡ Fail ∷ Try 1 ∷ Call called [] ∷ rest
last_first = refl

last_first_not : after_all none (Put Fail ∷ Emit calls 0 ∷ []) rest ≡ Call called [] ∷ Fail ∷ rest → ⊥
last_first_not wrong = cc

-- a task and what it leaves to do

performs : Performs none (after none (Emit fails 0)) (task_turns (Emit fails 0)) [] rest (Bare fails 0 ∷ []) rest
performs = record { same = refl; within = omega arith }

performs_not : Performs none (after none (Emit fails 0)) (task_turns (Emit fails 0)) [] rest [] rest → ⊥
performs_not done = let wrong : rest ≡ Fail ∷ rest = done.same in cc
