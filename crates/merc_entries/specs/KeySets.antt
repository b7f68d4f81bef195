-- Sets of keys.
use Rattle.std.specs.Prelude.{Bool, List, [], ◌∷◌, Option, Some, None}
use Rattle.std.specs.List.{list_any}
use Rattle.merc_entries.specs.declared.key_set.KeySet.{KeySet}
use Rattle.merc_base.specs.declared.groups.Key.{Key}
use Rattle.merc_entries.specs.Entries.{are_keys}

-- the key of a head, if it has one
abbrev pub keys_at : Option Key → List Key
keys_at None = []
keys_at (Some key) = key ∷ []

-- whether a set has this key; where there is none, it has not
abbrev pub has_key : KeySet → List Key → Bool
has_key set found = list_any (λ key. are_keys found (key ∷ [])) set.keys.keys
