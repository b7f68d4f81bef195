-- When a variable is the one on which a disjunction is a switch.
use Rattle.std.specs.Prelude.{◌≡◌, ℕ, ◌≤◌, true, false, List, Some}
use Rattle.std.specs.List.{AllByRecursion}
use Rattle.merc_tree.specs.Types.{TypeExpr}
use Rattle.merc_tree.specs.declared.declarations.TypeDef.{TypeDef}
use Rattle.merc_goal_tree.specs.declared.goal.Symbol.{Symbol}
use Rattle.merc_graded_tree.specs.Nodes.{Node}
use Rattle.merc_order.specs.Bound.{Bound, among}
use Rattle.merc_grading.specs.Switches.{symbol_at, is_complete}

-- The variable is bound before, none of those by which the disjuncts came together, and each disjunct begins with a symbol of it.
pub record CanSwitch (bound : Bound) (used : List ℕ) (disjuncts : List Node) (variable : ℕ) : Type 0 where
  pub is_bound : bound variable ≡ true
  pub unused : among used variable ≡ false
  pub symbols : AllByRecursion (λ disjunct. (symbol : Symbol) × (symbol_at variable disjunct ≡ Some symbol)) disjuncts

-- Of those the variable is complete if any is, and among those that are as complete as it is it has the least number.
pub record IsChoice (declared : List TypeDef) (types : ℕ → TypeExpr) (bound : Bound) (used : List ℕ) (disjuncts : List Node) (variable : ℕ) : Type 0 where
  pub can : CanSwitch bound used disjuncts variable
  pub complete : (other : ℕ) → CanSwitch bound used disjuncts other → is_complete declared types disjuncts other ≡ true → is_complete declared types disjuncts variable ≡ true
  pub first : (other : ℕ) → CanSwitch bound used disjuncts other
      → is_complete declared types disjuncts other ≡ is_complete declared types disjuncts variable → variable ≤ other
