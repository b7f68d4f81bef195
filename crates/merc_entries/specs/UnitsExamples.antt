-- The names of the library's units.
use Rattle.std.specs.Prelude.{◌≡◌, refl, [], length, codes}
use Rattle.merc_base.specs.Names.{list_name, fixed_names}
use Rattle.merc_entries.specs.Units.{constant_text}

pub constant_text-example : constant_text list_name ≡ codes "list"
unfolding fixed_names
constant_text-example = refl

-- a name behind the constants
pub constant_text-behind : constant_text (length fixed_names) ≡ []
unfolding fixed_names
constant_text-behind = refl
