use Rattle.std.proofs.Common.{◌≡◌, ℕ, Option, IfOk, subst}
use Rattle.merc_base.specs.FirstPlace.{first_place}
use Rattle.merc_base.specs.declared.place.Place.{Place}
use Rattle.merc_entries.specs.EntryValue.{entry_values, place_at}
use Rattle.merc_declared.specs.KnownTypes.{has_unknown_here}
use Rattle.merc_declared.proofs.known_types.unknown_place.Goals as goal

pub returns : goal.returns
returns c =
    subst (λ (name : ℕ). IfOk c.first_unknown-place.result (λ (place : Option Place). place ≡ first_place place_at (has_unknown_here c.args.names.now name (entry_values c.args.entries.now)) (entry_values c.args.entries.now)))
    c.in_ok-types.ensures.own_name c.first_unknown-place.ensures
