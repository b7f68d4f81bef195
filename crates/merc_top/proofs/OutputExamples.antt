-- Worked examples of the lines of refusals and of the run that is asked: what holds, and what does not.
use Rattle.std.specs.Prelude.{◌≡◌, ℕ, pos, List, [], ◌∷◌, Some, codes, refl}
use Rattle.std.proofs.Common.{arith, slice_index, ap, sym}
use Rattle.std.specs.Fmt.{decimal, digits}
use Rattle.merc_base.specs.declared.category.Category.TheVariants.{Det}
use Rattle.merc_base.specs.declared.place.Span.{Span}
use Rattle.merc_base.specs.declared.refusal.Refusal.{Refusal}
use Rattle.merc_base.specs.declared.refusal.Rule.TheVariants.{BadToken}
use Rattle.merc_base.specs.declared.refusal.Detail.TheVariants.{Plain}
use Rattle.merc_tree.specs.declared.declarations.Arg.TheVariants.{Input, Output}
use Rattle.merc_tree.specs.declared.declarations.PredDecl.{PredDecl}
use Rattle.merc_value.specs.Value.{Int}
use Rattle.merc_goal_tree.specs.declared.goal.Operation.TheVariants.{Add}
use Rattle.merc_goal_tree.specs.declared.goal.Symbol.TheVariants.{Integer}
use Rattle.merc_graded_tree.specs.declared.basic.BasicGoal.{BasicGoal}
use Rattle.merc_graded_tree.specs.declared.basic.BasicGoal.TheVariants.{Arithmetic, Build, Call}
use Rattle.merc_graded_tree.specs.declared.entries.Running.TheVariants.{Sequential}
use Rattle.merc_graded_tree.specs.Nodes.{Node, node, Basic, Conjunction, nodes_of}
use Rattle.merc_meaning.specs.Trace.{Run, Ends, Tick, Answer, RunDone, LimitPassed}
use Rattle.merc_meaning.specs.Programs.{program_with}
use Rattle.merc_meaning.specs.Runs.{run}
use Rattle.merc_meaning.specs.Shown.{shown}
use Rattle.merc_transfer.specs.Loading.{file_limit}
use Rattle.merc_top.specs.Words.{default_steps}
use Rattle.merc_top.specs.Output.{refusal_line, too_long_line}
use Rattle.merc_top.proofs.CheckingExamples.{mode, predicate}
use Rattle.merc_top.proofs.Requests.{differ}

abbrev bad_token : Refusal
bad_token = record { rule = BadToken; place = record { byte = 7; line = 2 }; detail = Plain }

pub refusal_line-example : refusal_line (codes "bad.m") bad_token ≡ codes "bad.m:2: rule 1: bad token\n"
unfolding digits
refusal_line-example = refl

pub refusal_line-goal : refusal_line (codes "goal") bad_token ≡ codes "goal:2: rule 1: bad token\n"
unfolding digits
refusal_line-goal = refl

-- the line's number is missing
pub refusal_line-counterexample : refusal_line (codes "goal") bad_token ≡ codes "goal: rule 1: bad token\n" → ⊥
unfolding digits
refusal_line-counterexample same = differ 32 50 (omega arith) (sym (ap (λ (text : List ℕ). slice_index text 5) same))

pub too_long_line-example : too_long_line (codes "rows.m") ≡ codes "rows.m: longer than 1048576 bytes\n"
too_long_line-example = refl

pub too_long_line-counterexample : too_long_line (codes "rows.m") ≡ codes "rows.m:1: longer than 1048576 bytes\n" → ⊥
too_long_line-counterexample same = differ 32 49 (omega arith) (ap (λ (text : List ℕ). slice_index text 7) same)

-- the limit as it is printed
pub too_long_line-limit : decimal file_limit ≡ codes "1048576"
unfolding digits file_limit
too_long_line-limit = refl

-- ---- the run that is asked

abbrev nowhere : Span
nowhere = record { first = 0; past = 0; line = 1 }

abbrev basic : BasicGoal → List ℕ → Node
basic goal outputs = node (Basic goal) outputs (Some Det) nowhere

-- `add(X, Y, Z) :- Z = X + Y.`
abbrev pub adding : List PredDecl
adding = predicate 0 (mode (Input ∷ Input ∷ Output ∷ []) Det ∷ []) ∷ []

abbrev pub adding_trees : List Node
adding_trees = basic (Arithmetic Add 2 0 1) (2 ∷ []) ∷ []

-- `add(2, 3, X)`, where the first variable is `X`
abbrev pub asking : Node
asking =
    node (Conjunction Sequential (nodes_of (basic (Build 1 (Integer (pos 2)) []) (1 ∷ []) ∷ basic (Build 2 (Integer (pos 3)) []) (2 ∷ [])
    ∷ basic (Call (record { predicate = 0; mode = 0 }) (1 ∷ 2 ∷ 0 ∷ [])) (0 ∷ []) ∷ []))) (0 ∷ []) (Some Det) nowhere

-- a step, and one answer
abbrev pub one_answer : Run
one_answer = Tick (Answer (Some (Int (pos 5)) ∷ []) (Ends RunDone))

pub asked-example : shown (0 ∷ []) (run (program_with adding adding_trees) asking default_steps) ≡ one_answer
unfolding default_steps
asked-example = refl

-- no step is allowed
pub asked-no_step : shown (0 ∷ []) (run (program_with adding adding_trees) asking 0) ≡ Ends LimitPassed
asked-no_step = refl

pub asked-counterexample : shown (0 ∷ []) (run (program_with adding adding_trees) asking 0) ≡ one_answer → ⊥
asked-counterexample same = cc
