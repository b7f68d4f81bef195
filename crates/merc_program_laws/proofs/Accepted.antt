-- Accepted modules are good programs, and accepted goals good ones, of which the laws of answers and categories hold.
use Rattle.std.proofs.Common.{◌≡◌, ℕ, suc, List, [], ◌∷◌, map, refl, sym, ap, subst, ◌∙◌}
use Rattle.merc_tree.specs.Term.{Term}
use Rattle.merc_tree.specs.declared.declarations.Module.{Module}
use Rattle.merc_graded_tree.specs.Nodes.{Node}
use Rattle.merc_order.specs.Bound.{nothing}
use Rattle.merc_order.specs.Procedures.{bound_at}
use Rattle.merc_grading.specs.Faults.{Body, Procedure, all_finished, procedures_of}
use Rattle.merc_meaning.specs.Runs.{Program, call_trace, node_trace, run}
use Rattle.merc_meaning.specs.Programs.{program_with}
use Rattle.merc_program_laws.specs.Answers.{Each, KeepsTo}
use Rattle.merc_program_laws.specs.GoodPrograms.{IsGoodProgram, IsGoodQuery, program_of}
use Rattle.merc_program_laws.specs.CategoryLaws.{GivesAll, Leaves}
use Rattle.merc_program_laws.specs.Instances.{EachOfRun}
use Rattle.merc_program_laws.proofs.Programs.{category_law, query_type_law, type_law}
use Rattle.merc_program_laws.specs.OrderedBodies.{finished_body}
use Rattle.merc_program_laws.specs.ProgramBodies.{finished_bodies}
use Rattle.merc_program_laws.specs.AnswerLaws.{AnswersAreYes, OthersAreNo, AnswersAreWhole, RunAnswersAreYes, RunOthersAreNo}
use Rattle.merc_program_laws.proofs.CallLaw.{answers_law, others_law}
use Rattle.merc_program_laws.proofs.RunLaw.{cut_each, whole_answers_law, run_answers_law, run_others_law}
use Rattle.merc_program_laws.specs.ModuleLaws.{BecomesGood, BecomesGoodQuery}
use Rattle.merc_program_laws.proofs.AcceptedGood.{accepted_becomes_good, accepted_goal_becomes_good}
use Rattle.merc_order_laws.proofs.ModesFitting.{module_modes_fit}
use Rattle.merc_program_laws.proofs.Bodies.{query_becomes_good}
use Rattle.merc_program_laws.proofs.GoodModules.{asked_is_ordered}
use Rattle.merc_check.specs.Accepted.{HasBody, query_answers}
use Rattle.merc_check.specs.Checked.{IsGoal}
use Rattle.merc_program_laws.specs.AcceptedLaws.{CallsAnswerInTypes, CallsAnswerTruly, CallsKeepToCategories, IsChecked, IsGradedGoal, RunsAnswerInTypes, RunsAnswerTruly}

finished_trees : (known : Module) (procedures : List Procedure) (bodies : List Body)
    → map (λ (body : Body). body.tree) (finished_bodies known procedures bodies) ≡ all_finished known.types known.preds procedures bodies
finished_trees known [] bodies = refl
finished_trees known (procedure ∷ procedures) [] = refl
finished_trees known (procedure ∷ procedures) (body ∷ bodies) =
    ap (λ (l : List Node). (finished_body known (bound_at procedure.mode.args) body).tree ∷ l) (finished_trees known procedures bodies)

-- Given is an accepted module.
module _ (before after : List (List ℕ)) (text : List ℕ) (items : List Term) (found : Module) (trees : List Node) (is : IsChecked before after text items found trees) where
  becomes : BecomesGood after found
  becomes = accepted_becomes_good before after text items found is.fixed is.distinct is.accepted

  good_bodies : List Body
  good_bodies = finished_bodies found (procedures_of found.preds) becomes.bodies

  is_good : IsGoodProgram found good_bodies
  unfolding good_bodies
  is_good = becomes.good

  program_is : program_of found.preds good_bodies ≡ program_with found.preds trees
  unfolding good_bodies
  program_is =
      ap (λ (l : List Node). program_with found.preds l) (finished_trees found (procedures_of found.preds) becomes.bodies ∙ sym (is.graded becomes.bodies becomes.are))

  -- Given is an accepted goal over it.
  module _ (names : List (List ℕ)) (asked : List ℕ) (goal : Term) (accepted : IsGoal after names found asked goal) (tree : Node) (graded : IsGradedGoal names found goal tree) where
    asks : BecomesGoodQuery names found (query_answers names found goal) goal
    asks = accepted_goal_becomes_good before after names text asked items found goal is.accepted accepted

    tree_is : (finished_body found nothing asks.body).tree ≡ tree
    tree_is = sym (graded asks.body asks.is)

    body_is_good : (body : Body) → HasBody names found goal body → IsGoodQuery found (query_answers names found goal) (finished_body found nothing body)
    body_is_good body has =
        query_becomes_good found (query_answers names found goal) body
        (asked_is_ordered after names asked goal found (query_answers names found goal) (module_modes_fit before after text items found is.accepted.module_is) accepted.reads accepted.accepted.typed body has)

pub calls_keep_to_categories : CallsKeepToCategories
calls_keep_to_categories before after text items found trees is procedure declared mode there instance env enters depth =
    subst (λ (program : Program). KeepsTo mode.category (call_trace program depth procedure env)) (program_is before after text items found trees is)
    (category_law found (good_bodies before after text items found trees is) (is_good before after text items found trees is) procedure declared mode there instance env enters depth)

pub calls_answer_in_types : CallsAnswerInTypes
calls_answer_in_types before after text items found trees is procedure declared mode there instance env enters depth =
    subst (λ (program : Program). Each (Leaves found.types instance declared.args env) (call_trace program depth procedure env)) (program_is before after text items found trees is)
    (type_law found (good_bodies before after text items found trees is) (is_good before after text items found trees is) procedure declared mode there instance env enters depth)

pub calls_answer_truly : CallsAnswerTruly
calls_answer_truly before after text items found trees is procedure declared mode there instance env enters depth = λ arguments same stage within.
    let bodies = good_bodies before after text items found trees is in
    let good = is_good before after text items found trees is in
    subst (λ (program : Program). AnswersAreYes program stage procedure arguments (call_trace program depth procedure env)
    × OthersAreNo program stage procedure arguments env (call_trace program depth procedure env)) (program_is before after text items found trees is) (
      answers_law found bodies good procedure declared mode there instance env enters arguments same depth stage within,
      others_law found bodies good procedure declared mode there instance env enters arguments same depth stage within,
    )

pub runs_answer_truly : RunsAnswerTruly
runs_answer_truly before after text items found trees is names asked goal accepted tree graded limit stage within =
    let bodies = good_bodies before after text items found trees is in
    let good = is_good before after text items found trees is in
    let answers = query_answers names found goal in
    let query = asks before after text items found trees is names asked goal accepted tree graded in
    subst (λ (program : Program). AnswersAreWhole answers (run program tree limit)
    × RunAnswersAreYes program stage answers tree (run program tree limit)
    × RunOthersAreNo program stage answers tree (run program tree limit)) (program_is before after text items found trees is)
    (subst (λ (t : Node). AnswersAreWhole answers (run (program_of found.preds bodies) t limit)
    × RunAnswersAreYes (program_of found.preds bodies) stage answers t (run (program_of found.preds bodies) t limit)
    × RunOthersAreNo (program_of found.preds bodies) stage answers t (run (program_of found.preds bodies) t limit))
    (tree_is before after text items found trees is names asked goal accepted tree graded) (
      whole_answers_law found bodies good answers (finished_body found nothing query.body) query.good limit stage within,
      run_answers_law found bodies good answers (finished_body found nothing query.body) query.good limit stage within,
      run_others_law found bodies good answers (finished_body found nothing query.body) query.good limit stage within,
    ))

pub runs_answer_in_types : RunsAnswerInTypes
runs_answer_in_types before after text items found trees is names asked goal accepted tree graded body has instance limit =
    let bodies = good_bodies before after text items found trees is in
    let good = is_good before after text items found trees is in
    let answers = query_answers names found goal in
    let query : Body = finished_body found nothing body in
    subst (λ (program : Program). EachOfRun (GivesAll found.types instance body.types answers) (run program tree limit)) (program_is before after text items found trees is)
    (subst (λ (t : Node). EachOfRun (GivesAll found.types instance body.types answers) (run (program_of found.preds bodies) t limit)) (sym (graded body has))
    (cut_each (GivesAll found.types instance body.types answers) limit (node_trace (program_of found.preds bodies) (call_trace (program_of found.preds bodies) (suc limit)) query.tree [])
    (query_type_law found bodies good answers query (body_is_good before after text items found trees is names asked goal accepted tree graded body has) instance (suc limit))))
