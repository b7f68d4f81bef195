-- Which variables occur outside a goal, by the places of its occurrences.
use Rattle.std.specs.Prelude.{◌≡◌, ◌+◌, ◌||◌, ℕ, Bool, List, ◌++◌, length, take, drop}
use Rattle.merc_goal_tree.specs.Variables.{count}
use Rattle.merc_order.specs.Bound.{among}

-- a variable occurs before the one place, or at the other or behind it
abbrev pub occurs_outside : List ℕ → ℕ → ℕ → ℕ → Bool
occurs_outside all start end variable = among (take start all) variable || among (drop end all) variable

-- These stand from the one place to the other among all occurrences, which are as many as this in the whole.
pub record IsStretch (total : ℕ → ℕ) (all : List ℕ) (start end : ℕ) (inside : List ℕ) : Type 0 where
  pub before : List ℕ
  pub after : List ℕ
  pub whole : all ≡ before ++ (inside ++ after)
  pub start_is : length before ≡ start
  pub end_is : length before + length inside ≡ end
  pub total_is : (variable : ℕ) → total variable ≡ count variable all
