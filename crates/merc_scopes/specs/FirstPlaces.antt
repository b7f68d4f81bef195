-- Where variables first occur, by their names.
use Rattle.std.specs.Prelude.{◌≡◌, ℕ, List, Option}
use Rattle.std.specs.BTreeMap.{get}
use Rattle.std.specs.Ordering.{nat_cmp}
use Rattle.merc_scopes.specs.declared.first_places.FirstPlaces.{FirstPlaces}
use Rattle.merc_scopes.specs.declared.listing.Listing.{Listing}
use Rattle.merc_scopes.specs.declared.occurrence.Occurrence.{Occurrence}
use Rattle.merc_scopes.specs.Scopes.{at_of}

abbrev pub place_in : FirstPlaces → ℕ → Option ℕ
place_in places name = get nat_cmp places.by_name name

-- Places are those of these occurrences.
abbrev pub Holds : FirstPlaces → List Occurrence → Type 0
Holds places found = (name : ℕ) → place_in places name ≡ at_of name found

-- A listing has the same places in its list as by name.
abbrev pub IsInStep : Listing → Type 0
IsInStep listing = (name : ℕ) → at_of name listing.list.items ≡ place_in listing.places name

-- A listing has these occurrences.
abbrev pub Lists : Listing → List Occurrence → Type 0
Lists listing found = IsInStep listing × Holds listing.places found
