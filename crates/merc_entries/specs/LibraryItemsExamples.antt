-- Which units have items.
use Rattle.std.specs.Prelude.{◌≡◌, [], ◌∷◌, length, refl}
use Rattle.merc_base.specs.Names.{bool_name, int_name, list_name, maybe_name}
use Rattle.merc_entries.specs.LibraryItems.{bool_items, bool_type, library_items, list_items, maybe_items}

pub library_items-list : length (library_items list_name) ≡ 19
unfolding list_items
library_items-list = refl

pub library_items-bool : library_items bool_name ≡ bool_type ∷ []
unfolding bool_items
library_items-bool = refl

pub library_items-maybe : library_items bool_name ≡ library_items maybe_name → ⊥
unfolding bool_items maybe_items
library_items-maybe same = cc

-- built in
pub library_items-int : library_items int_name ≡ []
library_items-int = refl
