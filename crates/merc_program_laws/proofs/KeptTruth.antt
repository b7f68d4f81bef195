-- The trees that are kept of an accepted module are as true as its clauses.
use Rattle.std.proofs.Common.{◌≡◌, ℕ, zero, suc, List, [], ◌∷◌, ◌++◌, length, map, drop, Some, slice_get, refl, ap, sym, subst, ◌∙◌}
use Rattle.std.specs.Prelude.{◌↔◌}
use Rattle.std.specs.List.{AllByRecursion}
use Rattle.merc_tree.specs.Term.{Term}
use Rattle.merc_tree.specs.declared.declarations.Clause.{Clause}
use Rattle.merc_tree.specs.declared.declarations.ModeDecl.{ModeDecl}
use Rattle.merc_tree.specs.declared.declarations.PredDecl.{PredDecl}
use Rattle.merc_tree.specs.declared.declarations.Module.{Module}
use Rattle.merc_goal_tree.specs.Nodes.{Node as FlatNode}
use Rattle.merc_goals.specs.Written.{written}
use Rattle.merc_flat.specs.Flat.{clause_node, query_node}
use Rattle.merc_bodies.specs.Bodies.{asked_body, body_of as goal_of}
use Rattle.merc_type_check.specs.Typing.{HasTyping}
use Rattle.merc_graded_tree.specs.Nodes.{Node}
use Rattle.merc_order.specs.Bound.{nothing, among}
use Rattle.merc_order.specs.Procedures.{bound_at, modes_of, numbers_below}
use Rattle.merc_order_laws.specs.GoodTree.{GoodNode}
use Rattle.merc_order_laws.specs.ProcedureBodies.{AreBodiesOf, IsBodyOf}
use Rattle.merc_order_laws.specs.TypedTree.{ModesFit}
use Rattle.merc_order_laws.proofs.Bodies.{procedure_is_good}
use Rattle.merc_order_laws.proofs.Facts.{clash}
use Rattle.merc_order_laws.proofs.ModesFitting.{module_modes_fit}
use Rattle.merc_order_laws.proofs.PredicatesApart.{predicates_have_types}
use Rattle.merc_order_laws.proofs.ProcedureHeads.{bodies_typed}
use Rattle.merc_order_laws.proofs.TreeTypes.{typed_is_sized}
use Rattle.merc_grading.specs.Faults.{Body, Procedure as ModuleProcedure, all_finished, procedures_of, with_modes}
use Rattle.merc_meaning.specs.Programs.{body_of, body_of_mode}
use Rattle.merc_meaning.specs.Truth.{Outside}
use Rattle.merc_check.specs.Accepted.{HasBody, bodies, query_answers}
use Rattle.merc_check.specs.Checked.{IsGoal}
use Rattle.merc_program_laws.specs.AcceptedLaws.{IsChecked}
use Rattle.merc_program_laws.specs.GoodPrograms.{program_of}
use Rattle.merc_program_laws.specs.KeptTruth.{AcceptedCallsKeepTruth, AcceptedGoalsKeepTruth, SameCalls, all_switched, clauses_program, switched, with_categories}
use Rattle.merc_program_laws.specs.Plain.{plain}
use Rattle.merc_program_laws.specs.Programs.{IsOrderedProcedure, IsOrderedProgram, IsThere}
use Rattle.merc_program_laws.specs.Switches.{AreSwitched, IsSwitched}
use Rattle.merc_program_laws.specs.TruthLaws.{SameTruth}
use Rattle.merc_program_laws.proofs.AcceptedGood.{accepted_becomes_good, accepted_goal_becomes_good}
use Rattle.merc_program_laws.proofs.GoodModules.{asked_is_ordered}
use Rattle.merc_program_laws.proofs.NumberedBodies.{trees, trees_behind}
use Rattle.merc_program_laws.proofs.OrderTruth.{calls_keep, queries_keep}
use Rattle.merc_program_laws.proofs.SwitchTruth.{switched_calls_keep, switched_goals_keep}
use Rattle.merc_program_laws.proofs.Values.{none_not, same_some}

mapped_length : {A B : Type 0} (f : A → B) (all : List A) → length (map f all) ≡ length all
mapped_length f [] = refl
mapped_length f (first ∷ rest) = ap suc (mapped_length f rest)

mapped_at : {A B : Type 0} (f : A → B) (all : List A) (number : ℕ) (one : A) (other : B) → slice_get all number ≡ Some one → slice_get (map f all) number ≡ Some other → f one ≡ other
mapped_at f [] number one other e k = absurd (none_not e)
mapped_at f (first ∷ rest) zero one other e k = ap f (sym (same_some e)) ∙ same_some k
mapped_at f (first ∷ rest) (suc number) one other e k = mapped_at f rest number one other e k

mapped_there : {A B : Type 0} (f : A → B) (all : List A) (number : ℕ) (one : A) → slice_get all number ≡ Some one → slice_get (map f all) number ≡ Some (f one)
mapped_there f [] number one e = absurd (none_not e)
mapped_there f (first ∷ rest) zero one e = ap (λ (some : _). Some (f some)) (same_some e)
mapped_there f (first ∷ rest) (suc number) one e = mapped_there f rest number one e

-- trees that are given switches and categories are given switches first
finished_are : (known : Module) (procedures : List ModuleProcedure) (all : List Body)
    → all_finished known.types known.preds procedures all ≡ map (with_categories known) (all_switched known.types procedures all)
finished_are known [] all = refl
finished_are known (procedure ∷ procedures) [] = refl
finished_are known (procedure ∷ procedures) (body ∷ all) =
    ap (λ (rest : List Node). with_categories known (switched known.types (bound_at procedure.mode.args) body) ∷ rest) (finished_are known procedures all)

-- Given are a module, the flat form of each clause, and bodies of its procedures in order.
module _ (known : Module) (form : Clause → FlatNode) (fit : ModesFit known.preds) where
  abbrev goal : PredDecl → FlatNode
  goal declared = goal_of form known.clauses declared

  abbrev Are : List ModuleProcedure → List Body → Type 0
  Are procedures all = AreBodiesOf known form procedures all

  abbrev procedure_of : PredDecl → ModeDecl → ModuleProcedure
  procedure_of declared mode = record { predicate = declared; mode = mode }

  are_behind : (declared : PredDecl) (own : List ModeDecl) (rest : List ModuleProcedure) (all : List Body) → Are (with_modes declared own ++ rest) all → Are rest (drop (length own) all)
  are_behind declared [] rest all are = are
  are_behind declared (mode ∷ own) rest [] are = absurd are
  are_behind declared (mode ∷ own) rest (body ∷ all) are = are_behind declared own rest all are.1

  -- each procedure is ordered

  ordered_mode : (declared : PredDecl) (own : List ModeDecl) (rest : List ModuleProcedure) (all : List Body) → Are (with_modes declared own ++ rest) all
      → (number : ℕ) (mode : ModeDecl) → slice_get own number ≡ Some mode → IsOrderedProcedure (modes_of known.preds) declared (goal declared) mode (body_of_mode own (trees all) number)
  ordered_mode declared [] rest all are number mode e = absurd (none_not e)
  ordered_mode declared (first ∷ own) rest [] are number mode e = absurd are
  ordered_mode declared (first ∷ own) rest (body ∷ all) are zero mode e =
      subst (λ (some : ModeDecl). IsOrderedProcedure (modes_of known.preds) declared (goal declared) some (Some (record { places = first.args; body = body.tree }))) (same_some e) (refl, are.0.tree)
  ordered_mode declared (first ∷ own) rest (body ∷ all) are (suc number) mode e = ordered_mode declared own rest all are.1 number mode e

  ordered_at : (predicates : List PredDecl) (all : List Body) → Are (procedures_of predicates) all → (predicate number : ℕ) (declared : PredDecl) (mode : ModeDecl)
      → slice_get predicates predicate ≡ Some declared → slice_get declared.modes number ≡ Some mode
      → IsOrderedProcedure (modes_of known.preds) declared (goal declared) mode (body_of predicates (trees all) predicate number)
  ordered_at [] all are predicate number declared mode e k = absurd (none_not e)
  ordered_at (first ∷ rest) all are zero number declared mode e k =
      subst (λ (some : PredDecl). IsOrderedProcedure (modes_of known.preds) some (goal some) mode (body_of_mode first.modes (trees all) number)) (same_some e)
      (ordered_mode first first.modes (procedures_of rest) all are number mode (subst (λ (some : PredDecl). slice_get some.modes number ≡ Some mode) (sym (same_some e)) k))
  ordered_at (first ∷ rest) all are (suc predicate) number declared mode e k =
      subst (λ (some : List Node). IsOrderedProcedure (modes_of known.preds) declared (goal declared) mode (body_of rest some predicate number)) (trees_behind (length first.modes) all)
      (ordered_at rest (drop (length first.modes) all) (are_behind first first.modes (procedures_of rest) all are) predicate number declared mode e k)

  ordered_program : (all : List Body) → Are (procedures_of known.preds) all → IsOrderedProgram known.preds (map goal known.preds) (program_of known.preds all)
  ordered_program all are = record {
    has_bodies = mapped_length goal known.preds;
    modes_fit = fit;
    is_ordered = λ procedure declared body mode there.
        subst (λ (some : FlatNode). IsOrderedProcedure (modes_of known.preds) declared some mode (program_of known.preds all procedure))
        (mapped_at goal known.preds procedure.predicate declared body there.has_predicate there.has_goal)
        (ordered_at known.preds all are procedure.predicate procedure.mode declared mode there.has_predicate there.has_mode);
  }

  -- and the same with its switches

  module _ (declared : PredDecl) (typed : HasTyping known declared.args (goal declared)) where
    is_good : (mode : ModeDecl) (body : Body) → length mode.args ≡ length declared.args → IsBodyOf known form (procedure_of declared mode) body
        → GoodNode (modes_of known.preds) (among (numbers_below (length mode.args))) (bound_at mode.args) body.tree
    is_good mode body long is =
        subst (λ (arity : ℕ). GoodNode (modes_of known.preds) (among (numbers_below arity)) (bound_at mode.args) body.tree) (sym long)
        (procedure_is_good (modes_of known.preds) (length declared.args) mode (goal declared) body.tree (typed_is_sized known typed.0 declared.args (goal declared) fit typed.1) long is.tree)

    switched_mode : (own : List ModeDecl) → AllByRecursion (λ mode. length mode.args ≡ length declared.args) own → (rest : List ModuleProcedure) (all : List Body)
        → Are (with_modes declared own ++ rest) all → (number : ℕ)
        → IsSwitched known.types (modes_of known.preds) (body_of_mode own (trees all) number) (body_of_mode own (trees (all_switched known.types (with_modes declared own ++ rest) all)) number)
    switched_mode [] long rest all are number = tt
    switched_mode (mode ∷ own) long rest [] are number = absurd are
    switched_mode (mode ∷ own) long rest (body ∷ all) are zero = (refl, is_good mode body long.0 are.0, (body.types, refl))
    switched_mode (mode ∷ own) long rest (body ∷ all) are (suc number) = switched_mode own long.1 rest all are.1 number

  switched_behind : (declared : PredDecl) (own : List ModeDecl) (rest : List ModuleProcedure) (all : List Body) → Are (with_modes declared own ++ rest) all
      → drop (length own) (trees (all_switched known.types (with_modes declared own ++ rest) all)) ≡ trees (all_switched known.types rest (drop (length own) all))
  switched_behind declared [] rest all are = refl
  switched_behind declared (mode ∷ own) rest [] are = absurd are
  switched_behind declared (mode ∷ own) rest (body ∷ all) are = switched_behind declared own rest all are.1

  switched_at : (predicates : List PredDecl) → AllByRecursion (λ declared. HasTyping known declared.args (goal declared)) predicates → ModesFit predicates
      → (all : List Body) → Are (procedures_of predicates) all → (predicate number : ℕ)
      → IsSwitched known.types (modes_of known.preds) (body_of predicates (trees all) predicate number) (body_of predicates (trees (all_switched known.types (procedures_of predicates) all)) predicate number)
  switched_at [] typed long all are predicate number = tt
  switched_at (first ∷ rest) typed long all are zero number = switched_mode first typed.0 first.modes long.0 (procedures_of rest) all are number
  switched_at (first ∷ rest) typed long all are (suc predicate) number =
      subst (λ (some : List Node). IsSwitched known.types (modes_of known.preds) (body_of rest some predicate number)
      (body_of rest (drop (length first.modes) (trees (all_switched known.types (procedures_of (first ∷ rest)) all))) predicate number)) (trees_behind (length first.modes) all)
      (subst (λ (some : List Node). IsSwitched known.types (modes_of known.preds) (body_of rest (trees (drop (length first.modes) all)) predicate number) (body_of rest some predicate number))
      (sym (switched_behind first first.modes (procedures_of rest) all are))
      (switched_at rest typed.1 long.1 (drop (length first.modes) all) (are_behind first first.modes (procedures_of rest) all are) predicate number))

  are_switched : AllByRecursion (λ declared. HasTyping known declared.args (goal declared)) known.preds → (all : List Body) → Are (procedures_of known.preds) all
      → AreSwitched known.types (modes_of known.preds) (program_of known.preds all) (program_of known.preds (all_switched known.types (procedures_of known.preds) all))
  are_switched typed all are procedure = switched_at known.preds typed fit all are procedure.predicate procedure.mode

both_ways : {A B C : Type 0} → A ↔ B → B ↔ C → A ↔ C
both_ways one other = (λ h. other.0 (one.0 h), λ h. one.1 (other.1 h))

-- Given is an accepted module, and bodies of its procedures in order.
module _ (before after : List (List ℕ)) (text : List ℕ) (items : List Term) (found : Module) (kept : List Node) (is : IsChecked before after text items found kept)
    (all : List Body) (are : AreBodiesOf found (clause_node after found) (procedures_of found.preds) all) where
  abbrev form : Clause → FlatNode
  form = clause_node after found

  fits : ModesFit found.preds
  fits = module_modes_fit before after text items found is.accepted.module_is

  is_ordered : IsOrderedProgram found.preds (bodies after found) (program_of found.preds all)
  is_ordered = ordered_program found form fits all are

  with_switches : AreSwitched found.types (modes_of found.preds) (program_of found.preds all) (program_of found.preds (all_switched found.types (procedures_of found.preds) all))
  with_switches =
      are_switched found form fits
      (bodies_typed found form is.accepted.clauses.typed found.preds (predicates_have_types before after text items found is.fixed is.distinct is.accepted.module_is)) all are

  same_calls : SameCalls found (clauses_program after found) (program_of found.preds (all_switched found.types (procedures_of found.preds) all))
  same_calls procedure declared mode there stage arguments values =
      let present : IsThere found.preds (bodies after found) procedure declared (goal_of form found.clauses declared) mode =
      record { has_predicate = there.predicate; has_goal = mapped_there (goal_of form found.clauses) found.preds procedure.predicate declared there.predicate; has_mode = there.mode_there } in
      let order = calls_keep found.preds (bodies after found) (program_of found.preds all) is_ordered procedure declared (goal_of form found.clauses declared) mode present stage arguments values in
      let switch =
      switched_calls_keep found.types (modes_of found.preds) (program_of found.preds all) (program_of found.preds (all_switched found.types (procedures_of found.preds) all)) with_switches stage procedure arguments values in
      (both_ways order.0 switch.0, both_ways order.1 switch.1)

  -- and a body of an accepted goal over it
  module _ (names : List (List ℕ)) (asked : List ℕ) (goal : Term) (accepted : IsGoal after names found asked goal) (body : Body) (has : HasBody names found goal body) where
    abbrev outside : Outside
    outside = among (query_answers names found goal)

    abbrev goal_form : FlatNode
    goal_form = asked_body (query_node names found (written 0 goal))

    same_goal : SameTruth (clauses_program after found) (program_of found.preds (all_switched found.types (procedures_of found.preds) all)) outside (plain goal_form) (switched found.types nothing body).tree
    same_goal stage values are_values =
        let ordered = asked_is_ordered after names asked goal found (query_answers names found goal) fits accepted.reads accepted.accepted.typed body has in
        let order = queries_keep found.preds (bodies after found) (program_of found.preds all) is_ordered (query_answers names found goal) goal_form body.tree has.tree stage values are_values in
        let switch =
        switched_goals_keep found.types (modes_of found.preds) (program_of found.preds all) (program_of found.preds (all_switched found.types (procedures_of found.preds) all)) with_switches body.types outside nothing
        body.tree (λ variable h. clash h refl) ordered.binds stage values are_values in
        (both_ways order.0 switch.0, both_ways order.1 switch.1)

pub accepted_calls_keep_truth : AcceptedCallsKeepTruth
accepted_calls_keep_truth before after text items found kept is =
    let becomes = accepted_becomes_good before after text items found is.fixed is.distinct is.accepted in (
      all_switched found.types (procedures_of found.preds) becomes.bodies,
      record {
        ordered = becomes.bodies;
        have = becomes.are;
        switches = refl;
        categories = is.graded becomes.bodies becomes.are ∙ finished_are found (procedures_of found.preds) becomes.bodies;
      },
      same_calls before after text items found kept is becomes.bodies becomes.are,
    )

pub accepted_goals_keep_truth : AcceptedGoalsKeepTruth
accepted_goals_keep_truth before after text items found kept is names asked goal accepted tree graded all are =
    let becomes = accepted_goal_becomes_good before after names text asked items found goal is.accepted accepted in (
      switched found.types nothing becomes.body,
      record { ordered = becomes.body; has = becomes.is; switches = refl; categories = graded becomes.body becomes.is },
      subst (λ (some : List Body). SameTruth (clauses_program after found) (program_of found.preds some) (among (query_answers names found goal)) (plain (asked_body (query_node names found (written 0 goal))))
          (switched found.types nothing becomes.body).tree) (sym are.switches)
          (same_goal before after text items found kept is are.ordered are.have names asked goal accepted becomes.body becomes.is),
    )
