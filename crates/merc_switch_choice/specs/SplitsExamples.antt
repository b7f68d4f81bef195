-- What is kept of the beginning of `C = red`.
use Rattle.std.specs.Prelude.{◌≡◌, ℕ, nat_eq, Some, None, refl}
use Rattle.std.proofs.Common.{◌∙◌, sym}
use Rattle.indexmap.specs.IndexMap.{IndexMap, get}
use Rattle.merc_goal_tree.specs.declared.goal.Symbol.{Symbol}
use Rattle.merc_grading.specs.Switches.{symbol_at}
use Rattle.merc_grading.specs.GradingExamples.{red, c, is_red}
use Rattle.merc_switch_choice.specs.Splits.{Knows}

-- one split, and the symbol of each variable
one_split : {S : Type 0} (symbols : IndexMap ℕ Symbol S) → ((variable : ℕ) → get nat_eq symbols variable ≡ symbol_at variable (is_red c)) → Knows (is_red c) 1 symbols
one_split symbols are = record { count_is = refl; symbols_are = are }

-- two are too many
two_splits : {S : Type 0} (symbols : IndexMap ℕ Symbol S) → Knows (is_red c) 2 symbols → ⊥
two_splits symbols knows = let wrong : 2 ≡ 1 = knows.count_is in cc

-- a table in which C is not
without_symbol : {S : Type 0} (symbols : IndexMap ℕ Symbol S) → get nat_eq symbols c ≡ None → Knows (is_red c) 1 symbols → ⊥
without_symbol symbols none knows = let wrong : None ≡ Some red = sym none ∙ knows.symbols_are c in cc
