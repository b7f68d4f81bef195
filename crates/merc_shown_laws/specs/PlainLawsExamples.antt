-- Worked examples of the scripts of goals that can reach an `&`, and of those that cannot: procedure 0 is true, and procedure 1 is `X = 1 & Y = X`.
use Rattle.std.specs.Prelude.{◌≡◌, ℕ, suc, zero, pos, List, [], ◌∷◌, Some, None, refl}
use Rattle.std.specs.List.{Contains}
use Rattle.std.proofs.Common.{sym, subst, arith}
use Rattle.std.proofs.lemmas.Option.{same_Some}
use Rattle.merc_base.specs.declared.category.Category.TheVariants.{Det}
use Rattle.merc_tree.specs.declared.declarations.ModeDecl.{ModeDecl}
use Rattle.merc_tree.specs.declared.declarations.PredDecl.{PredDecl}
use Rattle.merc_goal_tree.specs.declared.goal.Symbol.TheVariants.{Integer}
use Rattle.merc_graded_tree.specs.declared.basic.BasicGoal.TheVariants.{Assign, Build, Call, Wait}
use Rattle.merc_graded_tree.specs.declared.basic.Procedure.{Procedure}
use Rattle.merc_graded_tree.specs.declared.entries.Running.TheVariants.{Parallel}
use Rattle.merc_graded_tree.specs.Nodes.{Node, Basic, Conjunction, no_nodes, more_nodes}
use Rattle.merc_meaning.specs.Runs.{Program, ProcedureBody}
use Rattle.merc_meaning.specs.Programs.{program_with}
use Rattle.merc_meaning.specs.RunExamples.{basic, graded, nowhere, procedure, truth}
use Rattle.merc_script.specs.declared.outcome.Outcome.TheVariants.{Ok as Fine}
use Rattle.merc_script.specs.Script.{Ends, TickThen}
use Rattle.merc_par_split.specs.Forks.{forks}
use Rattle.merc_gen.specs.Calling.{CanCall, calls, calls_by, HasNoFork}
use Rattle.merc_carried.specs.Plain.{IsPlain}
use Rattle.merc_script_laws.specs.ScriptLaws.{goal_script}
use Rattle.merc_shown_laws.specs.PlainLaws.{IsPlainWithoutForks}

abbrev mode : ModeDecl
mode = record { args = []; category = Det; span = nowhere }

abbrev predicate : ℕ → PredDecl
predicate name = record { name = name; args = []; modes = mode ∷ []; span = nowhere; unit = None }

abbrev predicates : List PredDecl
predicates = predicate 80 ∷ predicate 81 ∷ []

abbrev x_is_one : Node
x_is_one = graded Det (Basic (Build 0 (Integer (pos 1)) [])) (0 ∷ [])

abbrev y_is_x : Node
y_is_x = graded Det (Basic (Assign 1 0)) (1 ∷ [])

abbrev beside : Node
beside = graded Det (Conjunction (Parallel None) (more_nodes x_is_one (more_nodes y_is_x no_nodes))) []

abbrev trees : List Node
trees = truth ∷ beside ∷ []

abbrev program : Program
program = program_with predicates trees

abbrev calls_to : ℕ → Node
calls_to number = basic (Call (procedure number) []) []

is_first : {X : Type 0} (x : X) (xs : List X) → Contains (x ∷ xs) x
is_first x xs = (0, omega arith, refl)

only_one : {X : Type 0} (x y : X) → Contains (x ∷ []) y → x ≡ y
only_one x y (zero, few, e) = e
only_one x y (suc k, few, e) = absurd (omega (arith, few))

none_in : {X : Type 0} (x : X) → Contains [] x → ⊥
none_in x (k, few, e) = absurd (omega (arith, few))

-- The one procedure that is called has no `&`, and calls nothing.
nothing_called : (called : Procedure) → CanCall program truth called → ⊥
nothing_called called (calls _ _ c) = none_in called c
nothing_called called (calls_by _ between _ _ c _ _) = none_in between c

abbrev true_body : ProcedureBody
true_body = record { places = []; body = truth }

has_none-example : HasNoFork program (calls_to 0)
has_none-example = record { none_here = refl; none_called = λ called body reaches there. of_body called body reaches there } where
  is_true : (called : Procedure) (body : ProcedureBody) → Contains (procedure 0 ∷ []) called → program called ≡ Some body → true_body ≡ body
  is_true called body c there = same_Some true_body body (subst (λ p. program p ≡ Some body) (sym (only_one (procedure 0) called c)) there)

  of_body : (called : Procedure) (body : ProcedureBody) → CanCall program (calls_to 0) called → program called ≡ Some body → forks body.body ≡ 0
  of_body called body (calls _ _ c) there = subst (λ (b : ProcedureBody). forks b.body ≡ 0) (is_true called body c there) refl
  of_body called body (calls_by _ between _ middle c e reaches) there =
      absurd (nothing_called called (subst (λ (b : ProcedureBody). CanCall program b.body called) (sym (is_true between middle c e)) reaches))

-- Its script is one step, and then the end.
script-example : goal_script predicates trees (calls_to 0) 5 ≡ TickThen (Ends (Fine 1))
script-example = refl

plain-example : IsPlainWithoutForks predicates trees (calls_to 0) 5
plain-example none = tt

-- The other procedure has an `&`, and the script of a goal that calls it is not plain.
has_none-not : HasNoFork program (calls_to 1) → ⊥
has_none-not none =
    absurd (let k = none.none_called (procedure 1) (record { places = []; body = beside }) (calls _ _ (is_first (procedure 1) [])) refl in cc)

plain-not : IsPlain (goal_script predicates trees (calls_to 1) 5) → ⊥
plain-not plain = plain

-- A goal that waits without an `&`, as no accepted goal does, has no plain script.
abbrev waits : Node
waits = basic (Wait 0 1) []

waits-none : HasNoFork (program_with [] []) waits
waits-none = record { none_here = refl; none_called = λ called body reaches there. absurd (cc) }

waits-not : IsPlainWithoutForks [] [] waits 5 → ⊥
waits-not is_plain = is_plain waits-none
