-- Which texts are accepted as modules, and as goals over a module, and what is wrong with the others.
use Rattle.std.specs.Prelude.{ℕ, List}
use Rattle.merc_base.specs.declared.refusal.Refusal.{Refusal}
use Rattle.merc_tree.specs.Term.{Term}
use Rattle.merc_tree.specs.declared.declarations.Module.{Module}
use Rattle.merc_graded_tree.specs.Nodes.{Node}
use Rattle.merc_terms.specs.Texts.{ReadsGoal, RefusesGoalText}
use Rattle.merc_items.specs.ReadModule.{IsModule, RefusesModule}
use Rattle.merc_check.specs.Accepted.{AcceptsClauses, AcceptsGoal, RefusesClauses, RefusesGoal}

-- What is kept of an accepted module: the items of its text, the module, and the trees of its procedures.
pub record CheckedModule : Type 0 where
  pub items : List Term
  pub «module» : Module
  pub trees : List Node

-- A text is a module of these items whose clauses are accepted. The table of names held the first before the text was read, and holds the second behind it.
pub record IsAccepted (before after : List (List ℕ)) (text : List ℕ) (items : List Term) (found : Module) : Type 0 where
  pub module_is : IsModule before after text items found
  pub clauses : AcceptsClauses after found

-- what is wrong with a text that is no accepted module: it is no module, or its clauses are not accepted
pub data Refuses (before : List (List ℕ)) (text : List ℕ) : Refusal → Type 0 where
  no_module : (refusal : Refusal) → RefusesModule before text refusal → Refuses before text refusal
  clauses : (after : List (List ℕ)) (items : List Term) (found : Module) (refusal : Refusal) → IsModule before after text items found → RefusesClauses after found refusal → Refuses before text refusal

-- a text is a goal that is accepted over a module
pub record IsGoal (before after : List (List ℕ)) (found : Module) (text : List ℕ) (term : Term) : Type 0 where
  pub reads : ReadsGoal before after text term
  pub accepted : AcceptsGoal after found term

-- what is wrong with a text that is no such goal: it is no term, or its term is not accepted
pub data RefusesQuery (before : List (List ℕ)) (found : Module) (text : List ℕ) : Refusal → Type 0 where
  no_term : (refusal : Refusal) → RefusesGoalText before text refusal → RefusesQuery before found text refusal
  goal : (after : List (List ℕ)) (term : Term) (refusal : Refusal) → ReadsGoal before after text term → RefusesGoal after found term refusal → RefusesQuery before found text refusal
