-- What is wrong with the modes of a file's predicates, at the predicate's declaration.
use Rattle.std.specs.Prelude.{ℕ, ◌+◌, Bool, true, false, ◌&&◌, ◌||◌, not, nat_lt, List, is_some, is_none, if◌then◌else◌}
use Rattle.std.specs.List.{list_any, count_by}
use Rattle.merc_base.specs.FirstPlace.{StandsAt}
use Rattle.merc_base.specs.declared.place.Place.{Place}
use Rattle.merc_base.specs.declared.refusal.Rule.{Rule}
use Rattle.merc_base.specs.declared.refusal.Rule.TheVariants.{MissingMode, LimitPassed}
use Rattle.merc_base.specs.declared.refusal.Detail.{Detail}
use Rattle.merc_base.specs.declared.refusal.Detail.TheVariants.{Plain, Limit}
use Rattle.merc_base.specs.declared.refusal.LimitName.TheVariants.{Modes}
use Rattle.merc_item_forms.specs.Items.{Item, PredicateItem, ModeItem}
use Rattle.merc_base.specs.declared.groups.Key.{Key}
use Rattle.merc_entries.specs.EntryValue.{place_at}
use Rattle.merc_entries.specs.Entries.{Entry, key_of, are_keys, has_mode, is_own}

-- whether an item is a mode of this predicate, and one without a category
abbrev pub is_mode_of : List Key → Item → Bool
is_mode_of predicate (ModeItem head category) = are_keys predicate (key_of head)
is_mode_of predicate other = false

abbrev pub lacks_category_of : List Key → Item → Bool
lacks_category_of predicate (ModeItem head category) = are_keys predicate (key_of head) && is_none category
lacks_category_of predicate other = false

-- whether a predicate with this declaration lacks a mode or one of its modes a category
abbrev pub lacks_mode : List Entry → Item → Bool
lacks_mode entries (PredicateItem head category) =
    (if has_mode head category then is_none category
    else is_some category || not (list_any (λ entry. is_own entry && is_mode_of (key_of head) entry.item) entries))
    || list_any (λ entry. is_own entry && lacks_category_of (key_of head) entry.item) entries
lacks_mode entries other = false

abbrev pub own_mode_count : Bool → ℕ
own_mode_count true = 1
own_mode_count false = 0

-- the most modes of a predicate
abbrev pub mode_limit : ℕ
mode_limit = 16

-- whether a predicate with this declaration has more
abbrev pub has_many_modes : List Entry → Item → Bool
has_many_modes entries (PredicateItem head category) =
    nat_lt mode_limit (own_mode_count (has_mode head category) + count_by (λ entry. is_own entry && is_mode_of (key_of head) entry.item) entries)
has_many_modes entries other = false

abbrev pub lacks_mode_here : List Entry → Entry → Bool
lacks_mode_here entries entry = is_own entry && lacks_mode entries entry.item

abbrev pub has_many_modes_here : List Entry → Entry → Bool
has_many_modes_here entries entry = is_own entry && has_many_modes entries entry.item

-- predicates of the file that lack a mode or a category, and those with too many modes, at their places
pub data HasModeFault (entries : List Entry) : Rule → Detail → Place → Type 0 where
  missing : (place : Place) → StandsAt place_at (lacks_mode_here entries) entries place → HasModeFault entries MissingMode Plain place
  many : (place : Place) → StandsAt place_at (has_many_modes_here entries) entries place → HasModeFault entries LimitPassed (Limit Modes) place
