-- Clauses and declarations of a file that do not go together.
use Rattle.std.specs.Prelude.{◌≡◌, ℕ, Bool, false, ◌&&◌, ◌||◌, not, List}
use Rattle.std.specs.List.{list_any}
use Rattle.merc_base.specs.FirstPlace.{StandsAt}
use Rattle.merc_base.specs.declared.groups.Key.{Key}
use Rattle.merc_base.specs.declared.place.Place.{Place}
use Rattle.merc_item_forms.specs.Items.{Item, PredicateItem, ModeItem, ClauseItem}
use Rattle.merc_item_forms.specs.Forms.{is_foreign}
use Rattle.merc_entries.specs.Entries.{Entry, key_of, are_keys, predicates_of, is_own}
use Rattle.merc_entries.specs.EntryValue.{place_at}

abbrev pub declares_predicate : List Entry → List Key → Bool
declares_predicate entries predicate = list_any (λ entry. is_own entry && are_keys predicate (predicates_of entry.item)) entries

-- a clause whose head has another module's name is no clause of the file's predicate
abbrev pub is_clause_of : ℕ → List Key → Item → Bool
is_clause_of own predicate (ClauseItem head body) = not (is_foreign own head) && are_keys predicate (key_of head)
is_clause_of own predicate other = false

abbrev pub has_clause : ℕ → List Entry → List Key → Bool
has_clause own entries predicate = list_any (λ entry. is_own entry && is_clause_of own predicate entry.item) entries

-- a clause or a mode without a declaration of its predicate, a clause whose head has another module's name, and a declaration without a clause
abbrev pub is_alone : ℕ → List Entry → Item → Bool
is_alone own entries (ClauseItem head body) = is_foreign own head || not (declares_predicate entries (key_of head))
is_alone own entries (ModeItem head category) = not (declares_predicate entries (key_of head))
is_alone own entries (PredicateItem head category) = not (has_clause own entries (key_of head))
is_alone own entries other = false

-- an item of the file that goes together with none, at its place
abbrev pub IsAlone : ℕ → List Entry → Place → Type 0
IsAlone own entries place = StandsAt place_at (λ entry. is_own entry && is_alone own entries entry.item) entries place
