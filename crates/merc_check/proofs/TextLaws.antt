-- What the check of a text tells follows from what its parts tell.
use Rattle.std.proofs.Common.{◌≡◌, ℕ, List, sym, subst}
use Rattle.std.specs.List.{IsDistinct}
use Rattle.std.specs.Str.{bytes_eq}
use Rattle.merc_base.specs.Names.{HoldsFixed}
use Rattle.merc_base.specs.declared.refusal.Fault.{Fault}
use Rattle.merc_tree.specs.Term.{Term}
use Rattle.merc_tree.specs.declared.declarations.Module.{Module}
use Rattle.merc_terms.specs.Items.{IsRefusal}
use Rattle.merc_terms.specs.Texts.{ReadsItems, ReadsGoal, RefusesText, RefusesGoalText}
use Rattle.merc_items.specs.ReadModule.{IsModule, IsModuleOf, RefusesItemsOf, no_items, items as items_refused}
use Rattle.merc_graded_tree.specs.Nodes.{Node as OrderedNode}
use Rattle.merc_grading.specs.Fitting.{AreToldApart}
use Rattle.merc_order_laws.proofs.TypesApart.{types_are_told_apart}
use Rattle.merc_check.specs.Accepted.{AcceptsClauses, AcceptsGoal, IsGradedGoal, RefusesClauses, RefusesGoal, query_answers}
use Rattle.merc_check.specs.Checked.{IsAccepted, IsGoal, Refuses, RefusesQuery}
use Rattle.merc_check.specs.Checked.Refuses.{no_module, clauses as clauses_refused}
use Rattle.merc_check.specs.Checked.RefusesQuery.{no_term, goal as goal_refused}
use Rattle.merc_check.proofs.Refusals.{IsRefusal-weaker}

-- A text, and its bytes as they are read.
module _ (before : List (List ℕ)) (text bytes : List ℕ) (same : bytes ≡ text) where
  pub no_items-refused : (fault : Fault) → IsRefusal (RefusesText before bytes) fault → IsRefusal (Refuses before text) fault
  no_items-refused fault refuses =
      IsRefusal-weaker (RefusesText before text) (Refuses before text) fault (λ refusal is. no_module refusal (no_items refusal is))
      (subst (λ (some : List ℕ). IsRefusal (RefusesText before some) fault) same refuses)

  -- the text is these items
  module _ (names : List (List ℕ)) (items : List Term) (reads : ReadsItems before names bytes items) where
    read_items : ReadsItems before names text items
    read_items = subst (λ (some : List ℕ). ReadsItems before names some items) same reads

    pub no_module-refused : (fault : Fault) → IsRefusal (RefusesItemsOf names items) fault → IsRefusal (Refuses before text) fault
    no_module-refused fault refuses =
        IsRefusal-weaker (RefusesItemsOf names items) (Refuses before text) fault (λ refusal is. no_module refusal (items_refused names items refusal read_items is)) refuses

    -- which are this module, whose names are known
    module _ (after : List (List ℕ)) (found known : Module) (is : IsModuleOf names after items found) (knows : known ≡ found) where
      read_module : IsModule before after text items found
      read_module = record { read_names = names; reads = read_items; is = is }

      pub module-refused : (fault : Fault) → IsRefusal (RefusesClauses after known) fault → IsRefusal (Refuses before text) fault
      module-refused fault refuses =
          IsRefusal-weaker (RefusesClauses after found) (Refuses before text) fault (λ refusal wrong. clauses_refused after items found refusal read_module wrong)
          (subst (λ (some : Module). IsRefusal (RefusesClauses after some) fault) knows refuses)

      pub module-apart : HoldsFixed before → IsDistinct bytes_eq before → AreToldApart known.types
      module-apart fixed distinct =
          subst (λ (some : Module). AreToldApart some.types) (sym knows) (types_are_told_apart before after text items found fixed distinct read_module)

      pub module-accepted : AcceptsClauses after known → IsAccepted before after text items found
      module-accepted accepts = record { module_is = read_module; clauses = subst (AcceptsClauses after) knows accepts }

  -- The same of a goal over a module.
  module _ (found : Module) where
    pub no_term-refused : (fault : Fault) → IsRefusal (RefusesGoalText before bytes) fault → IsRefusal (RefusesQuery before found text) fault
    no_term-refused fault refuses =
        IsRefusal-weaker (RefusesGoalText before text) (RefusesQuery before found text) fault (λ refusal is. no_term refusal is)
        (subst (λ (some : List ℕ). IsRefusal (RefusesGoalText before some) fault) same refuses)

    -- the text is this term, which is looked at, and the module's names are known
    module _ (known : Module) (knows : known ≡ found) (after : List (List ℕ)) (term looked : Term) (reads : ReadsGoal before after bytes term) (seen : looked ≡ term) where
      read_goal : ReadsGoal before after text term
      read_goal = subst (λ (some : List ℕ). ReadsGoal before after some term) same reads

      pub goal-refused : (fault : Fault) → IsRefusal (RefusesGoal after known looked) fault → IsRefusal (RefusesQuery before found text) fault
      goal-refused fault refuses =
          IsRefusal-weaker (RefusesGoal after found term) (RefusesQuery before found text) fault (λ refusal wrong. goal_refused after term refusal read_goal wrong)
          (subst (λ (some : Module). IsRefusal (RefusesGoal after some term) fault) knows
          (subst (λ (some : Term). IsRefusal (RefusesGoal after known some) fault) seen refuses))

      pub goal-accepted : AcceptsGoal after known looked → IsGoal before after found text term
      goal-accepted accepts = record {
        reads = read_goal;
        accepted = subst (λ (some : Module). AcceptsGoal after some term) knows (subst (AcceptsGoal after known) seen accepts);
      }

      pub goal-graded : (trees : List OrderedNode) → IsGradedGoal after known looked trees → IsGradedGoal after found term trees
      goal-graded trees graded =
          subst (λ (some : Module). IsGradedGoal after some term trees) knows (subst (λ (some : Term). IsGradedGoal after known some trees) seen graded)

      pub goal-answers : (answers : List ℕ) → answers ≡ query_answers after known looked → answers ≡ query_answers after found term
      goal-answers answers is =
          subst (λ (some : Module). answers ≡ query_answers after some term) knows (subst (λ (some : Term). answers ≡ query_answers after known some) seen is)
