-- Sets of the variables that are counted.
use Rattle.std.specs.Prelude.{◌≡◌, ℕ, ◌==◌, nat_le, List, [], length}
use Rattle.std.specs.List.{filter, list_any}
use Rattle.std.specs.Ordering.{nat_cmp}
use Rattle.std.specs.BTreeSet.{BTreeSet, btree_set_len, contains}
use Rattle.merc_goal_tree.specs.declared.entries.Root.{Root}
use Rattle.merc_goal_tree.specs.declared.entries.Root.TheVariants.{Simple}
use Rattle.merc_goal_tree.specs.Variables.{distinct, variables_of}

abbrev pub root_variables : Root → List ℕ
root_variables (Simple goal) = variables_of goal
root_variables other = []

-- those that are no arguments
abbrev pub own : ℕ → List ℕ → List ℕ
own arity variables = filter (λ variable. nat_le arity variable) variables

-- a set has these numbers, each once
pub record HasThese (found : BTreeSet ℕ) (numbers : List ℕ) : Type 0 where
  pub has : (number : ℕ) → contains nat_cmp found number ≡ list_any (λ other. number == other) numbers
  pub count : btree_set_len found ≡ length (distinct numbers)
