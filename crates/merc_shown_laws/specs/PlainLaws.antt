-- What holds of the scripts of accepted goals that can reach no `&`.
use Rattle.std.specs.Prelude.{ℕ, List}
use Rattle.merc_tree.specs.declared.declarations.PredDecl.{PredDecl}
use Rattle.merc_graded_tree.specs.Nodes.{Node}
use Rattle.merc_meaning.specs.Programs.{program_with}
use Rattle.merc_gen.specs.Calling.{HasNoFork}
use Rattle.merc_carried.specs.Plain.{IsPlain}
use Rattle.merc_script_laws.specs.ScriptLaws.{OfEachGoal, goal_script}

-- Where neither a goal nor a procedure that it can reach by calls has an `&`, the goal's script has Ticks and an end alone.
abbrev pub IsPlainWithoutForks : List PredDecl → List Node → Node → ℕ → Type 0
IsPlainWithoutForks predicates trees tree limit = HasNoFork (program_with predicates trees) tree → IsPlain (goal_script predicates trees tree limit)

-- So it is for each accepted goal over an accepted module, at each limit of steps that there may be.
abbrev pub GoalsWithoutForksArePlain : Type 0
GoalsWithoutForksArePlain = OfEachGoal (λ found trees tree limit. IsPlainWithoutForks found.preds trees tree limit)
