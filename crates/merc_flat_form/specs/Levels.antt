-- What names stand for, level by level.
use Rattle.std.specs.Prelude.{◌≡◌, ℕ, List, [], ◌∷◌, Option, Some, None}
use Rattle.std.specs.List.{flat_map}
use Rattle.std.specs.Ordering.{nat_cmp}
use Rattle.std.specs.BTreeMap.{BTreeMap, get}
use Rattle.merc_scopes.specs.declared.occurrence.Occurrence.{Occurrence}
use Rattle.merc_scopes.specs.Scopes.{at_of, occurrence}
use Rattle.merc_flat_form.specs.declared.scope_stack.Change.{Change}
use Rattle.merc_flat_form.specs.declared.scope_stack.Change.TheVariants.{Entered, Given}

abbrev pub or_else : Option ℕ → Option ℕ → Option ℕ
or_else (Some at) other = Some at
or_else None other = other

-- the names of all levels, from the top
abbrev pub scope_of : List (List Occurrence) → List Occurrence
scope_of levels = flat_map (λ level. level) levels

-- what a name stands for, where the first level that has it counts
abbrev pub shown : ℕ → List (List Occurrence) → Option ℕ
shown name levels = at_of name (scope_of levels)

-- a name more at the top level, where there is no level in one of its own
abbrev pub onto : Occurrence → List (List Occurrence) → List (List Occurrence)
onto one [] = (one ∷ []) ∷ []
onto one (level ∷ levels) = (one ∷ level) ∷ levels

-- the levels to which changes lead, of which the last comes first
abbrev pub levels_of : List Change → List (List Occurrence)
levels_of [] = []
levels_of (Entered ∷ earlier) = [] ∷ levels_of earlier
levels_of (Given name at before ∷ earlier) = onto (occurrence name at) (levels_of earlier)

-- each change keeps what its name meant before it
abbrev pub KeepMeanings : List Change → Type 0
KeepMeanings [] = Unit {0}
KeepMeanings (Entered ∷ earlier) = KeepMeanings earlier
KeepMeanings (Given name at before ∷ earlier) = (before ≡ shown name (levels_of earlier)) × KeepMeanings earlier

-- The map has the meanings to which the changes lead, and the changes have what undoes them.
pub record AreLevels (current : BTreeMap ℕ ℕ) (changes : List Change) : Type 0 where
  pub meanings : (name : ℕ) → get nat_cmp current name ≡ shown name (levels_of changes)
  pub earlier : KeepMeanings changes
