-- Items in groups, by names with numbers of arguments.
use Rattle.std.specs.Prelude.{ℕ, Bool, ◌==◌, ◌&&◌, List, [], Option, Some, None}
use Rattle.std.specs.Map.{lookup}
use Rattle.merc_base.specs.declared.groups.Key.{Key}
use Rattle.merc_base.specs.declared.groups.Groups.{Groups}

abbrev pub is_key : ℕ → ℕ → Key → Bool
is_key name arity key = (key.name == name) && (key.arity == arity)

abbrev pub listed : {T : Type 0} → Option (List T) → List T
listed None = []
listed (Some items) = items

-- the items that are kept for a key
abbrev pub kept : {T : Type 0} → Groups T → ℕ → ℕ → List T
kept groups name arity = listed (lookup (is_key name arity) groups.by_key.entries)
