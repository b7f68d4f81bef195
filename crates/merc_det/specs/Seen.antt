-- Symbols that are known of variables, the last one first, and the table that finds them.
use Rattle.std.specs.Prelude.{◌≡◌, ℕ, ◌==◌, nat_lt, List, [], ◌∷◌, length, map, reverse, Option, Some, None, if◌then◌else◌}
use Rattle.std.specs.List.{slice_index_or}
use Rattle.merc_grading.specs.Known.{Known}
use Rattle.merc_det.specs.declared.seen.Entry.{Entry}

-- what entries tell
abbrev pub known_in : List Entry → Known
known_in entries = map (λ one. (one.variable, one.symbol)) (reverse entries)

-- what was known once so many symbols were
abbrev pub back_to : ℕ → Known → Known
back_to count [] = []
back_to count (first ∷ rest) = if nat_lt count (length (first ∷ rest)) then back_to count rest else first ∷ rest

-- The index of a variable's last entry. The entries stand the last one first.
abbrev pub latest : List Entry → ℕ → Option ℕ
latest [] variable = None
latest (first ∷ rest) variable = if first.variable == variable then Some (length rest) else latest rest variable

-- Each entry has the index of its variable's entry before it.
abbrev pub AreLinked : List Entry → Type 0
AreLinked [] = Unit {0}
AreLinked (first ∷ rest) = (first.before ≡ latest rest first.variable) × AreLinked rest

-- A table by the numbers of variables has their last entries.
pub record Finds (entries : List Entry) (table : List (Option ℕ)) : Type 0 where
  pub last : (variable : ℕ) → slice_index_or table variable None ≡ latest (reverse entries) variable
  pub linked : AreLinked (reverse entries)
