-- The trees of accepted modules and goals are sound, whatever type variables stand for.
use Rattle.std.proofs.Common.{◌≡◌, ℕ, zero, suc, List, [], ◌∷◌, length, map, drop, Option, Some, refl, ap, sym, ◌∙◌, subst}
use Rattle.std.specs.List.{AllByRecursion}
use Rattle.merc_tree.specs.Term.{Term}
use Rattle.merc_tree.specs.declared.declarations.ModeDecl.{ModeDecl}
use Rattle.merc_tree.specs.declared.declarations.PredDecl.{PredDecl}
use Rattle.merc_tree.specs.declared.declarations.Module.{Module}
use Rattle.merc_graded_tree.specs.declared.basic.Procedure.{Procedure as ProcedureNumber}
use Rattle.merc_graded_tree.specs.Nodes.{Node}
use Rattle.merc_graded_tree.specs.Variables.{in_node}
use Rattle.merc_order.specs.Bound.{nothing, among}
use Rattle.merc_order.specs.Procedures.{bound_at, modes_of, numbers_below}
use Rattle.merc_grading.specs.Faults.{Body, Procedure, all_finished, procedures_of}
use Rattle.merc_meaning.specs.Truth.{is_argument}
use Rattle.merc_meaning.specs.Runs.{ProcedureBody, call_trace}
use Rattle.merc_meaning.specs.Programs.{body_of, body_of_mode, program_with}
use Rattle.merc_check.specs.Accepted.{query_answers}
use Rattle.merc_check.specs.Checked.{IsGoal}
use Rattle.merc_program_laws.specs.AcceptedLaws.{IsChecked, IsGradedGoal}
use Rattle.merc_program_laws.specs.CategoryLaws.{IsProcedure}
use Rattle.merc_program_laws.specs.GoodPrograms.{AreGoodProcedures, AreGoodTypes, IsGoodProcedure, IsGoodProgram}
use Rattle.merc_program_laws.specs.ModuleLaws.{BecomesGood, BecomesGoodQuery}
use Rattle.merc_program_laws.specs.OrderedBodies.{finished_body}
use Rattle.merc_program_laws.specs.ProgramBodies.{finished_bodies}
use Rattle.merc_program_laws.proofs.AcceptedGood.{accepted_becomes_good, accepted_goal_becomes_good}
use Rattle.merc_program_laws.proofs.Calls.{LawfulCalls}
use Rattle.merc_program_laws.proofs.Lawful.{Fits}
use Rattle.merc_program_laws.proofs.NumberedBodies.{body_graded, body_parts, found as found_body}
use Rattle.merc_program_laws.proofs.Procedures.{body_good}
use Rattle.merc_program_laws.proofs.Programs.{lawful_calls, query_graded, query_parts, query_fits}
use Rattle.merc_program_laws.proofs.Values.{Instance, none_not, same_some}
use Rattle.merc_plan.proofs.Placing.{BindsOnce}
use Rattle.merc_script_laws.specs.Parallel.{IsParallelTree}
use Rattle.merc_script_laws.proofs.AcceptedParallel.{IsParallelBody, accepted_parallel, accepted_goal_parallel}
use Rattle.merc_script_laws.proofs.BindingOnce.{binds_once}
use Rattle.merc_script_laws.proofs.Bonds.{Sound}
use Rattle.merc_script_laws.proofs.OutputsAccepted.{BodyKeepsOutputs, accepted_outputs, accepted_goal_outputs}

-- a procedure that a program has, with its good body
pub record SoundProcedure (known : Module) (place : Option ProcedureBody) (declared : PredDecl) (mode : ModeDecl) : Type 0 where
  pub body : Body
  pub good : IsGoodProcedure known declared mode body
  pub there : place ≡ Some (record { places = mode.args; body = body.tree })
  pub parallel : IsParallelTree (modes_of known.preds) body.tree

-- a module whose procedures have these trees, and what holds of them
pub record IsSoundProgram (known : Module) (trees : List Node) : Type 0 where
  pub good_types : AreGoodTypes known.types
  pub procedures : (p : ProcedureNumber) (declared : PredDecl) (mode : ModeDecl) → IsProcedure known p declared mode → SoundProcedure known (program_with known.preds trees p) declared mode
  pub once : AllByRecursion BindsOnce trees
  pub lawful : (depth : ℕ) → LawfulCalls known (program_with known.preds trees) (call_trace (program_with known.preds trees) depth)

-- a goal that is asked over such a module
pub record IsSoundGoal (known : Module) (tree : Node) : Type 0 where
  pub types : Instance
  pub answers : List ℕ
  pub sound : (i : Instance) → Sound known types i (among answers) nothing [] tree
  pub fits : (i : Instance) → Fits known types i (among answers) nothing (in_node tree) [] []

-- A procedure's tree is sound, with its arguments outside and the inputs bound.
pub sound_body : (known : Module) (place : Option ProcedureBody) (declared : PredDecl) (mode : ModeDecl) (is : SoundProcedure known place declared mode) (i : Instance)
    → Sound known is.body.types i (is_argument mode.args) (bound_at mode.args) [] is.body.tree
sound_body known place declared mode is i = record {
  good = body_good known declared mode is.body is.good;
  graded = body_graded known declared mode is.body is.good;
  parts = body_parts known declared mode is.body is.good i;
  parallel = is.parallel;
}

-- What holds of all trees of a program holds of each that it has.

in_modes : (P : Node → Type 0) (modes : List ModeDecl) (trees : List Node) (number : ℕ) (body : ProcedureBody) → AllByRecursion P trees → body_of_mode modes trees number ≡ Some body → P body.body
in_modes P [] trees number body all e = absurd (none_not e)
in_modes P (mode ∷ modes) [] number body all e = absurd (none_not e)
in_modes P (mode ∷ modes) (tree ∷ trees) zero body all e = subst (λ (b : ProcedureBody). P b.body) (same_some e) all.0
in_modes P (mode ∷ modes) (tree ∷ trees) (suc number) body all e = in_modes P modes trees number body all.1 e

all_dropped : (P : Node → Type 0) (n : ℕ) (trees : List Node) → AllByRecursion P trees → AllByRecursion P (drop n trees)
all_dropped P zero trees all = all
all_dropped P (suc n) [] all = tt
all_dropped P (suc n) (tree ∷ trees) all = all_dropped P n trees all.1

in_predicates : (P : Node → Type 0) (predicates : List PredDecl) (trees : List Node) (predicate number : ℕ) (body : ProcedureBody) → AllByRecursion P trees → body_of predicates trees predicate number ≡ Some body → P body.body
in_predicates P [] trees predicate number body all e = absurd (none_not e)
in_predicates P (declared ∷ rest) trees zero number body all e = in_modes P declared.modes trees number body all e
in_predicates P (declared ∷ rest) trees (suc predicate) number body all e =
    in_predicates P rest (drop (length declared.modes) trees) predicate number body (all_dropped P (length declared.modes) trees all) e

abbrev trees_of : List Body → List Node
trees_of bodies = map (λ (body : Body). body.tree) bodies

procedures_once : (known : Module) (procedures : List Procedure) (bodies : List Body) → AreGoodProcedures known procedures bodies → AllByRecursion BindsOnce (trees_of bodies)
procedures_once known [] [] good = tt
procedures_once known [] (body ∷ bodies) good = absurd good
procedures_once known (procedure ∷ procedures) [] good = tt
procedures_once known (procedure ∷ procedures) (body ∷ bodies) good = (
  binds_once (modes_of known.preds) body.tree (among (numbers_below (length procedure.predicate.args))) (bound_at procedure.mode.args) good.0.binds,
  procedures_once known procedures bodies good.1,
)

sound_program : (known : Module) (bodies : List Body) → IsGoodProgram known bodies → AllByRecursion (IsParallelTree (modes_of known.preds)) (trees_of bodies) → IsSoundProgram known (trees_of bodies)
sound_program known bodies good parallel = record {
  good_types = good.good_types;
  procedures = λ p declared mode is.
      let there = found_body known bodies good p declared mode is in
      record {
        body = there.body;
        good = there.good;
        there = there.there;
        parallel = in_predicates (IsParallelTree (modes_of known.preds)) known.preds (trees_of bodies) p.predicate p.mode (record { places = mode.args; body = there.body.tree }) parallel there.there;
      };
  once = procedures_once known (procedures_of known.preds) bodies good.procedures;
  lawful = λ depth. lawful_calls known bodies good depth;
}

parallel_trees : (known : Module) (bodies : List Body) → AllByRecursion (BodyKeepsOutputs known) bodies → AllByRecursion IsParallelBody bodies → AllByRecursion (IsParallelTree (modes_of known.preds)) (trees_of bodies)
parallel_trees known [] outputs beside = tt
parallel_trees known (body ∷ bodies) outputs beside = (record { outputs = outputs.0; beside = beside.0.0; few = beside.0.1 }, parallel_trees known bodies outputs.1 beside.1)

finished_trees : (known : Module) (procedures : List Procedure) (bodies : List Body) → trees_of (finished_bodies known procedures bodies) ≡ all_finished known.types known.preds procedures bodies
finished_trees known [] bodies = refl
finished_trees known (procedure ∷ procedures) [] = refl
finished_trees known (procedure ∷ procedures) (body ∷ bodies) =
    ap (λ (l : List Node). (finished_body known (bound_at procedure.mode.args) body).tree ∷ l) (finished_trees known procedures bodies)

-- Given is an accepted module.
module _ (before after : List (List ℕ)) (text : List ℕ) (items : List Term) (found : Module) (trees : List Node) (is : IsChecked before after text items found trees) where
  pub accepted_sound : IsSoundProgram found trees
  accepted_sound =
      let becomes : BecomesGood after found = accepted_becomes_good before after text items found is.fixed is.distinct is.accepted in
      let bodies : List Body = finished_bodies found (procedures_of found.preds) becomes.bodies in
      subst (λ (l : List Node). IsSoundProgram found l) (finished_trees found (procedures_of found.preds) becomes.bodies ∙ sym (is.graded becomes.bodies becomes.are))
      (sound_program found bodies becomes.good
      (parallel_trees found bodies (accepted_outputs before after text items found is.fixed is.distinct is.accepted becomes.bodies becomes.are)
      (accepted_parallel before after text items found is.accepted becomes)))

  -- Given is an accepted goal over it.
  pub accepted_goal_sound : (names : List (List ℕ)) (asked : List ℕ) (goal : Term) → IsGoal after names found asked goal → (tree : Node) → IsGradedGoal names found goal tree → IsSoundGoal found tree
  accepted_goal_sound names asked goal accepted tree graded =
      let answers = query_answers names found goal in
      let becomes : BecomesGoodQuery names found answers goal = accepted_goal_becomes_good before after names text asked items found goal is.accepted accepted in
      let body : Body = finished_body found nothing becomes.body in
      let program : BecomesGood after found = accepted_becomes_good before after text items found is.fixed is.distinct is.accepted in
      let bodies : List Body = finished_bodies found (procedures_of found.preds) program.bodies in
      let beside = accepted_goal_parallel after names found asked goal accepted becomes in
      subst (λ (n : Node). IsSoundGoal found n) (sym (graded becomes.body becomes.is))
      (record {
        types = body.types;
        answers = answers;
        sound = λ i. record {
          good = becomes.good.binds;
          graded = query_graded found bodies program.good answers body becomes.good i;
          parts = query_parts found bodies program.good answers body becomes.good i;
          parallel = record {
            outputs = accepted_goal_outputs before after names text asked items found goal is.accepted accepted becomes.body becomes.is;
            beside = beside.0;
            few = beside.1;
          };
        };
        fits = λ i. query_fits found bodies program.good answers body becomes.good i;
      })
