-- A module without faults becomes a good program, and a goal that is asked a good one.
use Rattle.std.proofs.Common.{ℕ, List, []}
use Rattle.merc_tree.specs.Term.{Term}
use Rattle.merc_tree.specs.declared.declarations.Module.{Module}
use Rattle.merc_terms.specs.Texts.{ReadsGoal}
use Rattle.merc_goals.specs.Written.{written}
use Rattle.merc_bodies.specs.Bodies.{asked_body}
use Rattle.merc_order_laws.proofs.JoinedTyping.{asked_typed}
use Rattle.merc_flat.specs.Flat.{clause_node, query_node}
use Rattle.merc_grading.specs.Faults.{Body}
use Rattle.merc_order_laws.specs.ProcedureBodies.{IsAskedBody}
use Rattle.merc_order_laws.specs.TypedTree.{ModesFit}
use Rattle.merc_type_check.specs.Typing.{HasTyping}
use Rattle.merc_program_laws.specs.OrderedBodies.{IsOrderedQuery}
use Rattle.merc_program_laws.proofs.Bodies.{query_becomes_good}
use Rattle.merc_program_laws.proofs.OrderedGoals.{query_is_ordered}
use Rattle.merc_program_laws.proofs.GoodTrees.{program_becomes_good}
use Rattle.merc_order_laws.proofs.AskedBodies.{asked_body_is_there}
use Rattle.merc_order_laws.proofs.ModesFitting.{module_modes_fit}
use Rattle.merc_order_laws.proofs.PredicatesApart.{predicates_have_types}
use Rattle.merc_order_laws.proofs.ProcedureHeads.{bodies_are_there}
use Rattle.merc_program_laws.specs.ModuleLaws.{AskedBecomesGood, ModuleBecomesGood}
use Rattle.merc_program_laws.proofs.BodyLiterals.{module_has_literals, query_has_literals}
use Rattle.merc_program_laws.proofs.ModuleTypes.{module_has_good_types}
use Rattle.merc_order_laws.proofs.ProcedureHeads.{bodies_typed}
use Rattle.merc_program_laws.proofs.OrderedModules.{ordered_bodies}

pub module_becomes_good : ModuleBecomesGood
module_becomes_good before after text terms found fixed distinct is faultless units =
    let form = clause_node after found in
    let there = bodies_are_there before after text terms found form fixed distinct is faultless.typed faultless.ordered in
    let typed = bodies_typed found form faultless.typed found.preds (predicates_have_types before after text terms found fixed distinct is) in
    let ordered = ordered_bodies found form (module_modes_fit before after text terms found is) typed (module_has_literals before after text terms found is) there.0 there.1 in
    record {
      bodies = ordered.0;
      are = ordered.1;
      good = program_becomes_good found ordered.0 (module_has_good_types before after text terms found fixed distinct is) ordered.2 (units ordered.0 ordered.1)
          (faultless.categories ordered.0 ordered.1);
    }

-- a goal's body is ordered, whatever types by which it is typed its variables have
pub asked_is_ordered : (before after : List (List ℕ)) (text : List ℕ) (term : Term) (known : Module) (answers : List ℕ) → ModesFit known.preds → ReadsGoal before after text term
    → HasTyping known [] (query_node after known (written 0 term)) → (body : Body) → IsAskedBody known answers (asked_body (query_node after known (written 0 term))) body
    → IsOrderedQuery known answers body
asked_is_ordered before after text term known answers fit reads typing body is =
    let form = query_node after known (written 0 term) in
    let typed = asked_typed known form typing in
    let ordered = query_is_ordered known answers typed.0 (asked_body form) body.tree fit typed.1 (query_has_literals before after text term known reads) is.tree in
    record {
      typed = is.typed;
      literals = ordered.1.literals;
      binds = ordered.1.binds;
      binds_answers = ordered.1.binds_answers;
      guarded = ordered.1.guarded;
    }

pub asked_becomes_good : AskedBecomesGood
asked_becomes_good before after text term known answers ordered fit reads typing ready =
    let form = query_node after known (written 0 term) in
    let there = asked_body_is_there known answers form ordered fit typing ready in
    let typed = asked_typed known form typing in
    let good = query_is_ordered known answers typed.0 (asked_body form) there.0.tree fit typed.1 (query_has_literals before after text term known reads) there.1.tree in
    let body : Body = record { types = good.0; tree = there.0.tree } in
    record {
      body = body;
      is = record { tree = there.1.tree; typed = good.1.typed };
      good = query_becomes_good known answers body good.1;
    }
