-- What a text is as an accepted module, and another as a goal over it, is decided.
use Rattle.std.proofs.Common.{◌≡◌, ℕ, suc, List, [], ◌∷◌, length, None, refl, ap, sym, subst, ◌∙◌}
use Rattle.std.specs.List.{IsDistinct}
use Rattle.std.specs.Str.{bytes_eq}
use Rattle.merc_base.specs.declared.refusal.Refusal.{Refusal}
use Rattle.merc_tree.specs.Term.{Term}
use Rattle.merc_tree.specs.declared.declarations.Module.{Module}
use Rattle.merc_terms.specs.Texts.{ReadsGoal}
use Rattle.merc_terms.proofs.TextLaws.{ReadsItems-distinct, ReadsGoal-unique, RefusesGoalText-unique, RefusesGoalText-excludes}
use Rattle.merc_items.specs.ReadModule.{IsModule}
use Rattle.merc_items.proofs.ModuleLaws.{IsModule-unique, RefusesModule-excludes}
use Rattle.merc_items.proofs.RefusalLaws.{RefusesModule-unique}
use Rattle.merc_base.specs.Names.{HoldsFixed}
use Rattle.merc_goals.specs.Written.{written}
use Rattle.merc_graded_tree.specs.Nodes.{Node}
use Rattle.merc_flat.specs.Flat.{clause_node, query_node}
use Rattle.merc_order.specs.Ordered.{Ordered, Outcome, Ready, Stuck}
use Rattle.merc_modes.specs.Told.{fault_in}
use Rattle.merc_order.specs.Bound.{nothing}
use Rattle.merc_grading.specs.Faults.{Body, Procedure, all_finished, finished, procedures_of}
use Rattle.merc_order_laws.specs.ProcedureBodies.{AreBodiesOf}
use Rattle.merc_order_laws.proofs.AskedBodies.{asked_body_is_there}
use Rattle.merc_order_laws.proofs.ModesFitting.{module_modes_fit}
use Rattle.merc_order_laws.proofs.ProcedureHeads.{bodies_are_there}
use Rattle.merc_check.specs.Accepted.{AreGraded, HasBody, HaveBodies, IsGradedGoal, RefusesClauses, RefusesGoal, query_answers, query_order}
use Rattle.merc_check.specs.Checked.{IsAccepted, IsGoal, Refuses, RefusesQuery}
use Rattle.merc_check.specs.Checked.Refuses.{no_module, clauses as clauses_refused}
use Rattle.merc_check.specs.Checked.RefusesQuery.{no_term, goal as goal_refused}
use Rattle.merc_check.proofs.AcceptedLaws.{HasAllBodies, HasOneBody, RefusesClauses-unique, RefusesClauses-excludes, RefusesGoal-unique, RefusesGoal-excludes}

ready_of : (outcome : Outcome) → fault_in outcome ≡ None → (ordered : Ordered) × (outcome ≡ Ready ordered)
ready_of (Ready ordered) none = (ordered, refl)
ready_of (Stuck fault) none = cc

-- as many trees as procedures
finished_all : (names : List (List ℕ)) (known : Module) (procedures : List Procedure) (all : List Body) → AreBodiesOf known (clause_node names known) procedures all
    → length (all_finished known.types known.preds procedures all) ≡ length procedures
finished_all names known [] all are = refl
finished_all names known (first ∷ rest) [] are = absurd are
finished_all names known (first ∷ rest) (own ∷ others) are = ap suc (finished_all names known rest others are.1)

-- where the table of names before holds each name once,
module _ (before : List (List ℕ)) (text : List ℕ) (distinct : IsDistinct bytes_eq before) where
  -- so does the one behind a module and the units that it may import,
  pub IsModule-distinct : (after : List (List ℕ)) (items : List Term) (found : Module) → IsModule before after text items found → IsDistinct bytes_eq after
  IsModule-distinct after items found is =
      let units = is.is.units in
      let read = ReadsItems-distinct before text distinct is.read_names items is.reads in
      let list = ReadsItems-distinct is.read_names units.list.text read units.after_list _ units.list.reads in
      let bool = ReadsItems-distinct units.after_list units.bool.text list units.after_bool _ units.bool.reads in
      ReadsItems-distinct units.after_bool units.maybe.text bool after _ units.maybe.reads

  -- a text is one module at most,
  pub IsAccepted-unique : (after after' : List (List ℕ)) (items items' : List Term) (found found' : Module)
      → IsAccepted before after text items found → IsAccepted before after' text items' found' → (after ≡ after') × (items ≡ items') × (found ≡ found')
  IsAccepted-unique after after' items items' found found' is is' = IsModule-unique before after after' text items items' found found' distinct is.module_is is'.module_is

  -- the same module has the same clauses
  same_clauses : (after after' : List (List ℕ)) (items items' : List Term) (found found' : Module) (refusal : Refusal)
      → IsModule before after text items found → IsModule before after' text items' found' → RefusesClauses after' found' refusal → RefusesClauses after found refusal
  same_clauses after after' items items' found found' refusal is is' refuses =
      let same = IsModule-unique before after after' text items items' found found' distinct is is' in
      subst (λ (names : List (List ℕ)). RefusesClauses names found refusal) (sym same.0)
      (subst (λ (some : Module). RefusesClauses after' some refusal) (sym same.2) refuses)

  -- The fixed names come first in the table.
  module _ (fixed : HoldsFixed before) where
    -- The procedures of a module have bodies, where its clauses are typed and they have an order.
    has_bodies : (after : List (List ℕ)) (items : List Term) (found : Module) → IsModule before after text items found → HasAllBodies after found
    has_bodies after items found is typed ordered = bodies_are_there before after text items found (clause_node after found) fixed distinct is typed ordered

    -- A text is refused in one way,
    pub Refuses-unique : (one other : Refusal) → Refuses before text one → Refuses before text other → one ≡ other
    Refuses-unique _ _ (no_module one refuses) (no_module other refuses') = RefusesModule-unique before text one other distinct refuses refuses'
    Refuses-unique _ _ (no_module one refuses) (clauses_refused after items found other is refuses') = absurd (RefusesModule-excludes before after text one items found distinct refuses is)
    Refuses-unique _ _ (clauses_refused after items found one is refuses) (no_module other refuses') = absurd (RefusesModule-excludes before after text other items found distinct refuses' is)
    Refuses-unique _ _ (clauses_refused after items found one is refuses) (clauses_refused after' items' found' other is' refuses') =
        RefusesClauses-unique after found (has_bodies after items found is) one other refuses (same_clauses after after' items items' found found' other is is' refuses')

    -- and not where it is accepted.
    pub Refuses-excludes : (after : List (List ℕ)) (refusal : Refusal) (items : List Term) (found : Module) → Refuses before text refusal → IsAccepted before after text items found → ⊥
    Refuses-excludes after _ items found (no_module refusal refuses) is = RefusesModule-excludes before after text refusal items found distinct refuses is.module_is
    Refuses-excludes after _ items found (clauses_refused after' items' found' refusal is' refuses) is =
        RefusesClauses-excludes after found (has_bodies after items found is.module_is) refusal
        (same_clauses after after' items items' found found' refusal is.module_is is' refuses) is.clauses

    -- The procedures of an accepted module have bodies, and so trees with switches and categories, which are the only ones.
    module _ (after : List (List ℕ)) (items : List Term) (found : Module) (is : IsAccepted before after text items found) where
      pub IsAccepted-bodies : (all : List Body) × HaveBodies after found all
      IsAccepted-bodies = has_bodies after items found is.module_is is.clauses.typed is.clauses.ordered

      pub AreGraded-count : (trees : List Node) → AreGraded after found trees → length trees ≡ length (procedures_of found.preds)
      AreGraded-count trees graded =
          let all = IsAccepted-bodies in
          ap (λ (l : List Node). length l) (graded all.0 all.1) ∙ finished_all after found (procedures_of found.preds) all.0 all.1

      pub AreGraded-unique : (one other : List Node) → AreGraded after found one → AreGraded after found other → one ≡ other
      AreGraded-unique one other graded graded' = let all = IsAccepted-bodies in graded all.0 all.1 ∙ sym (graded' all.0 all.1)

  -- The same of goals over a module.
  module _ (found : Module) where
    pub IsGoal-unique : (after after' : List (List ℕ)) (term term' : Term) → IsGoal before after found text term → IsGoal before after' found text term' → (after ≡ after') × (term ≡ term')
    IsGoal-unique after after' term term' is is' = ReadsGoal-unique before text distinct after after' term term' is.reads is'.reads

    same_goal : (after after' : List (List ℕ)) (term term' : Term) (refusal : Refusal)
        → ReadsGoal before after text term → ReadsGoal before after' text term' → RefusesGoal after' found term' refusal → RefusesGoal after found term refusal
    same_goal after after' term term' refusal reads reads' refuses =
        let same = ReadsGoal-unique before text distinct after after' term term' reads reads' in
        subst (λ (names : List (List ℕ)). RefusesGoal names found term refusal) (sym same.0)
        (subst (λ (some : Term). RefusesGoal after' found some refusal) (sym same.1) refuses)

    -- The module is one that some text is, among these names.
    module _ (first known : List (List ℕ)) (source : List ℕ) (terms : List Term) (accepted : IsAccepted first known source terms found) where
      has_body : (after : List (List ℕ)) (goal : Term) → HasOneBody after found goal
      has_body after goal typed ordered =
          let ready = ready_of (query_order after found goal) ordered in
          asked_body_is_there found (query_answers after found goal) (query_node after found (written 0 goal)) ready.0 (module_modes_fit first known source terms found accepted.module_is)
          typed ready.1

      pub RefusesQuery-unique : (one other : Refusal) → RefusesQuery before found text one → RefusesQuery before found text other → one ≡ other
      RefusesQuery-unique _ _ (no_term one refuses) (no_term other refuses') = RefusesGoalText-unique before text distinct one other refuses refuses'
      RefusesQuery-unique _ _ (no_term one refuses) (goal_refused after term other reads refuses') = absurd (RefusesGoalText-excludes before text distinct one after term refuses reads)
      RefusesQuery-unique _ _ (goal_refused after term one reads refuses) (no_term other refuses') = absurd (RefusesGoalText-excludes before text distinct other after term refuses' reads)
      RefusesQuery-unique _ _ (goal_refused after term one reads refuses) (goal_refused after' term' other reads' refuses') =
          RefusesGoal-unique after found term (has_body after term) one other refuses (same_goal after after' term term' other reads reads' refuses')

      pub RefusesQuery-excludes : (after : List (List ℕ)) (refusal : Refusal) (term : Term) → RefusesQuery before found text refusal → IsGoal before after found text term → ⊥
      RefusesQuery-excludes after _ term (no_term refusal refuses) is = RefusesGoalText-excludes before text distinct refusal after term refuses is.reads
      RefusesQuery-excludes after _ term (goal_refused after' term' refusal reads refuses) is =
          RefusesGoal-excludes after found term (has_body after term) refusal (same_goal after after' term term' refusal is.reads reads refuses) is.accepted

      -- An accepted goal has one body, and so one tree with switches and categories, which is the only one.
      module _ (after : List (List ℕ)) (term : Term) (is : IsGoal before after found text term) where
        IsGoal-body : (body : Body) × HasBody after found term body
        IsGoal-body = has_body after term is.accepted.typed is.accepted.ordered

        pub IsGradedGoal-one : (trees : List Node) → IsGradedGoal after found term trees → (tree : Node) × (trees ≡ tree ∷ [])
        IsGradedGoal-one trees graded = let body = IsGoal-body in (finished found.types found.preds nothing body.0, graded body.0 body.1)

        pub IsGradedGoal-unique : (one other : List Node) → IsGradedGoal after found term one → IsGradedGoal after found term other → one ≡ other
        IsGradedGoal-unique one other graded graded' = let body = IsGoal-body in graded body.0 body.1 ∙ sym (graded' body.0 body.1)
