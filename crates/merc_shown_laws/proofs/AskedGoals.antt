-- The tree of an accepted goal is sound, with the goal's answer variables outside it, and gives all of these values, if its end can be reached.
use Rattle.std.proofs.Common.{◌≡◌, ℕ, List, [], sym, subst}
use Rattle.merc_tree.specs.Term.{Term}
use Rattle.merc_tree.specs.declared.declarations.Module.{Module}
use Rattle.merc_graded_tree.specs.Nodes.{Node}
use Rattle.merc_graded_tree.specs.Variables.{in_node}
use Rattle.merc_order.specs.Bound.{nothing, among}
use Rattle.merc_order.specs.Procedures.{modes_of}
use Rattle.merc_order_laws.specs.Laws.{BindsHeads}
use Rattle.merc_grading.specs.Faults.{Body, procedures_of}
use Rattle.merc_check.specs.Accepted.{query_answers}
use Rattle.merc_check.specs.Checked.{IsGoal}
use Rattle.merc_program_laws.specs.AcceptedLaws.{IsChecked, IsGradedGoal}
use Rattle.merc_program_laws.specs.ModuleLaws.{BecomesGood, BecomesGoodQuery}
use Rattle.merc_program_laws.specs.OrderedBodies.{finished_body}
use Rattle.merc_program_laws.specs.ProgramBodies.{finished_bodies}
use Rattle.merc_program_laws.proofs.AcceptedGood.{accepted_becomes_good, accepted_goal_becomes_good}
use Rattle.merc_program_laws.proofs.Lawful.{Fits}
use Rattle.merc_program_laws.proofs.Programs.{query_graded, query_parts, query_fits}
use Rattle.merc_program_laws.proofs.Values.{Instance}
use Rattle.merc_script_laws.proofs.AcceptedParallel.{accepted_goal_parallel}
use Rattle.merc_script_laws.proofs.Bonds.{Sound}
use Rattle.merc_script_laws.proofs.OutputsAccepted.{accepted_goal_outputs}

-- a goal's tree, with these answer variables
pub record IsAsked (known : Module) (answers : List ℕ) (tree : Node) : Type 0 where
  pub types : Instance
  pub sound : (i : Instance) → Sound known types i (among answers) nothing [] tree
  pub fits : (i : Instance) → Fits known types i (among answers) nothing (in_node tree) [] []
  pub binds : BindsHeads (modes_of known.preds) answers nothing tree

-- Given are an accepted module and an accepted goal over it.
module _ (before after : List (List ℕ)) (text : List ℕ) (items : List Term) (found : Module) (trees : List Node) (is : IsChecked before after text items found trees)
    (names : List (List ℕ)) (asked : List ℕ) (goal : Term) (accepted : IsGoal after names found asked goal) (tree : Node) (graded : IsGradedGoal names found goal tree) where
  abbrev answers : List ℕ
  answers = query_answers names found goal

  pub accepted_asked : IsAsked found (query_answers names found goal) tree
  accepted_asked =
      let becomes : BecomesGoodQuery names found answers goal = accepted_goal_becomes_good before after names text asked items found goal is.accepted accepted in
      let body : Body = finished_body found nothing becomes.body in
      let program : BecomesGood after found = accepted_becomes_good before after text items found is.fixed is.distinct is.accepted in
      let bodies : List Body = finished_bodies found (procedures_of found.preds) program.bodies in
      let beside = accepted_goal_parallel after names found asked goal accepted becomes in
      subst (λ (n : Node). IsAsked found answers n) (sym (graded becomes.body becomes.is))
      (record {
        types = body.types;
        sound = λ i. record {
          good = becomes.good.binds;
          graded = query_graded found bodies program.good answers body becomes.good i;
          parts = query_parts found bodies program.good answers body becomes.good i;
          parallel = record {
            outputs = accepted_goal_outputs before after names text asked items found goal is.accepted accepted becomes.body becomes.is;
            beside = beside.0;
            few = beside.1;
          };
        };
        fits = λ i. query_fits found bodies program.good answers body becomes.good i;
        binds = becomes.good.binds_answers;
      })
