-- The variable on which disjuncts are a switch, by their symbols alone. That is the choice where the symbols fit the types of their variables.
use Rattle.std.specs.Prelude.{◌≡◌, ℕ, Bool, true, false, not, ◌&&◌, ◌||◌, List, [], ◌∷◌, Option, Some, None}
use Rattle.std.specs.List.{filter, flat_map, list_all}
use Rattle.merc_tree.specs.declared.declarations.TypeDef.{TypeDef}
use Rattle.merc_goal_tree.specs.declared.goal.Symbol.{Symbol}
use Rattle.merc_graded_tree.specs.Nodes.{Node}
use Rattle.merc_order.specs.Bound.{Bound, among}
use Rattle.merc_grading.specs.Known.{are_complete}
use Rattle.merc_grading.specs.Fitting.{fellows}
use Rattle.merc_grading.specs.Switches.{symbol_at, is_there, listed, split_variables, least, or_else}
use Rattle.merc_switch_choice.specs.declared.choosing.Candidates.{Candidates}

-- the symbols by which disjuncts split a variable
abbrev pub symbols_in : List Node → ℕ → List Symbol
symbols_in disjuncts variable = flat_map (λ disjunct. listed (symbol_at variable disjunct)) disjuncts

-- all symbols of the type to which the first of these belongs, none where they have no end
abbrev pub fellows_of : List TypeDef → List Symbol → Option (List Symbol)
fellows_of declared [] = None
fellows_of declared (first ∷ rest) = fellows declared first

-- the symbols of disjuncts are all of that type
abbrev pub is_covered : List TypeDef → List Node → ℕ → Bool
is_covered declared disjuncts variable = are_complete (fellows_of declared (symbols_in disjuncts variable)) (symbols_in disjuncts variable)

-- disjuncts can be a switch on a variable
abbrev pub is_open : Bound → List ℕ → List Node → ℕ → Bool
is_open bound used disjuncts variable = not (among used variable) && (bound variable && list_all (λ disjunct. is_there (symbol_at variable disjunct)) disjuncts)

-- those of the variables that disjuncts split on which they can be a switch
abbrev pub opened_in : Bound → List ℕ → List Node → List ℕ
opened_in bound used disjuncts = filter (λ variable. is_open bound used disjuncts variable) (split_variables disjuncts)

-- the least of them whose symbols are all of the type, else the least of all
abbrev pub chosen : List TypeDef → Bound → List ℕ → List Node → Option ℕ
chosen declared bound used disjuncts =
    let opened = opened_in bound used disjuncts in
    or_else (least (filter (λ variable. is_covered declared disjuncts variable) opened)) (least opened)

-- The variables on which disjuncts can be a switch are among those that were not tried and those that are known not to be covered.
pub record AreLeft (declared : List TypeDef) (bound : Bound) (used : List ℕ) (disjuncts : List Node) (untried uncovered : List ℕ) : Type 0 where
  pub all_are : (variable : ℕ) → (among untried variable || among uncovered variable) ≡ among (opened_in bound used disjuncts) variable
  pub uncovered_are : (variable : ℕ) → among uncovered variable ≡ true → is_covered declared disjuncts variable ≡ false

-- what is chosen is taken out of the candidates, and counts as used
pub record Takes (declared : List TypeDef) (disjuncts : List Node) (before after : Candidates) (choice : Option ℕ) : Type 0 where
  pub choice_is : (bound : Bound) (used : List ℕ) → AreLeft declared bound used disjuncts before.untried before.uncovered → choice ≡ chosen declared bound used disjuncts
  pub left_are : (bound : Bound) (used : List ℕ) (variable : ℕ) → AreLeft declared bound used disjuncts before.untried before.uncovered → choice ≡ Some variable
      → AreLeft declared bound (variable ∷ used) disjuncts after.untried after.uncovered
