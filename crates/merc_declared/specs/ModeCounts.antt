-- The mode declarations of the file's predicates, counted by their keys.
use Rattle.std.specs.Prelude.{◌≡◌, ◌+◌, Bool, false, not, nat_lt, ◌||◌, ◌&&◌, List, [], ◌∷◌, Option, Some, None, is_some, is_none, if◌then◌else◌}
use Rattle.std.specs.List.{list_any, count_by}
use Rattle.std.specs.Option.{unwrap_or}
use Rattle.std.specs.Map.{lookup}
use Rattle.merc_base.specs.declared.place.Place.{Place}
use Rattle.merc_base.specs.declared.refusal.Rule.TheVariants.{MissingMode, LimitPassed}
use Rattle.merc_base.specs.declared.refusal.Detail.TheVariants.{Plain, Limit}
use Rattle.merc_base.specs.declared.refusal.LimitName.TheVariants.{Modes}
use Rattle.merc_base.specs.declared.refusal.Refusal.{Refusal}
use Rattle.merc_declared.specs.declared.mode_counts.ModeCount.{ModeCount}
use Rattle.merc_declared.specs.declared.mode_counts.ModeCounts.{ModeCounts}
use Rattle.merc_item_forms.specs.Items.{Item, PredicateItem}
use Rattle.merc_base.specs.declared.groups.Key.{Key}
use Rattle.merc_entries.specs.Entries.{Entry, key_of, has_mode, is_own, are_keys}
use Rattle.merc_declared.specs.ModeFaults.{is_mode_of, lacks_category_of, own_mode_count, mode_limit}

abbrev pub no_modes : ModeCount
no_modes = record { count = 0; lacks_category = false }

-- the modes counted at a key, none where there is no key
abbrev pub counted : ModeCounts → List Key → ModeCount
counted counts found = unwrap_or (lookup (λ key. are_keys found (key ∷ [])) counts.by_key.entries) no_modes

-- the counts are those of some entries
pub record HoldsModes (entries : List Entry) (counts : ModeCounts) : Type 0 where
  pub numbers : (found : List Key) → (counted counts found).count ≡ count_by (λ entry. is_own entry && is_mode_of found entry.item) entries
  pub lacking : (found : List Key) → (counted counts found).lacks_category ≡ list_any (λ entry. is_own entry && lacks_category_of found entry.item) entries

-- the counts with one more mode at a key
abbrev pub with_mode : ModeCount → Bool → ModeCount
with_mode modes lacks_category = record { count = modes.count + 1; lacks_category = modes.lacks_category || lacks_category }

-- what the counts say of a predicate
abbrev pub lacks_mode_by : ModeCounts → Item → Bool
lacks_mode_by counts (PredicateItem head category) =
    (if has_mode head category then is_none category else is_some category || not (nat_lt 0 (counted counts (key_of head)).count))
    || (counted counts (key_of head)).lacks_category
lacks_mode_by counts other = false

abbrev pub has_many_modes_by : ModeCounts → Item → Bool
has_many_modes_by counts (PredicateItem head category) = nat_lt mode_limit (own_mode_count (has_mode head category) + (counted counts (key_of head)).count)
has_many_modes_by counts other = false

abbrev pub too_few : Place → Refusal
too_few place = record { rule = MissingMode; place = place; detail = Plain }

abbrev pub too_many : Place → Refusal
too_many place = record { rule = LimitPassed; place = place; detail = Limit Modes }

-- the first of a predicate that lacks a mode and one that has too many
abbrev pub earlier : Option Place → Option Place → Option Refusal
earlier None None = None
earlier None (Some many) = Some (too_many many)
earlier (Some missing) None = Some (too_few missing)
earlier (Some missing) (Some many) = if nat_lt many.byte missing.byte then Some (too_many many) else Some (too_few missing)
