-- Constructors by which none of several disjuncts splits a variable.
use Rattle.std.specs.Prelude.{◌≡◌, ℕ, true, false, nat_eq, List, Option, IfSome}
use Rattle.std.specs.List.{AllByRecursion}
use Rattle.indexmap.specs.IndexMap.{get}
use Rattle.merc_goal_tree.specs.declared.goal.Symbol.{Symbol}
use Rattle.merc_goal_tree.specs.declared.goal.Symbol.TheVariants.{Constructor}
use Rattle.merc_graded_tree.specs.Nodes.{Node}
use Rattle.merc_grading.specs.Known.{has_symbol}
use Rattle.merc_grading.specs.Switches.{symbol_at, listed}
use Rattle.merc_switch_choice.specs.declared.gaps.Gap.{Gap}
use Rattle.merc_switch_choice.specs.declared.gaps.Gaps.{Gaps}

-- the symbol that a gap is
abbrev pub symbol_of_gap : Gap → Symbol
symbol_of_gap gap = Constructor gap.name gap.arity

-- a disjunct does not split a variable by a symbol
abbrev pub Avoids : ℕ → Symbol → Node → Type 0
Avoids variable symbol disjunct = has_symbol (listed (symbol_at variable disjunct)) symbol ≡ false

-- one of all symbols that is none of these
pub record IsMissing (symbols all : List Symbol) (symbol : Symbol) : Type 0 where
  pub is_one : has_symbol all symbol ≡ true
  pub is_none : has_symbol symbols symbol ≡ false

-- the gap that is kept of a variable
abbrev pub gap_of : Gaps → ℕ → Option Gap
gap_of gaps variable = get nat_eq gaps.by_number variable

-- a disjunct splits no variable by what is kept of it
abbrev pub AvoidsAll : Gaps → Node → Type 0
AvoidsAll gaps disjunct = (variable : ℕ) → IfSome (gap_of gaps variable) (λ gap. Avoids variable (symbol_of_gap gap) disjunct)

-- the same of several
abbrev pub AreGaps : Gaps → List Node → Type 0
AreGaps gaps disjuncts = AllByRecursion (AvoidsAll gaps) disjuncts
