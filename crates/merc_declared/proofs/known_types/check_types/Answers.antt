use Rattle.std.proofs.Common.{◌≡◌, ℕ, List, Option, Some, None, sym, subst, ◌∙◌}
use Rattle.merc_base.specs.FirstPlace.{first_place, IsLeast}
use Rattle.merc_base.specs.declared.refusal.Rule.TheVariants.{UnknownType}
use Rattle.merc_base.specs.declared.place.Place.{Place}
use Rattle.merc_base.proofs.FirstFaultLaws.{none_at_places, first_at_places}
use Rattle.merc_base.proofs.FirstPlaceLaws.{first_place-least}
use Rattle.merc_entries.specs.Entries.{Entry}
use Rattle.merc_entries.specs.EntryValue.{entry_values, place_at, AreInOrder}
use Rattle.merc_declared.specs.UnknownTypes.{HasUnknownType}
use Rattle.merc_declared.specs.KnownTypes.{has_unknown_here}
use Rattle.merc_declared.proofs.known_types.check_types.Goals as goal

least : (names : List (List ℕ)) (own : ℕ) (entries : List Entry) (place : Option Place) → AreInOrder entries → first_place place_at (has_unknown_here names own entries) entries ≡ place → IsLeast (HasUnknownType names own entries) place
least names own entries place order is = subst (IsLeast (HasUnknownType names own entries)) is (first_place-least place_at (has_unknown_here names own entries) 0 entries order)

pub returns-in-None-clause-fine : goal.returns-in-None-clause-fine
returns-in-None-clause-fine c =
    let entries = entry_values c.args.entries.now in
    none_at_places UnknownType (HasUnknownType c.args.names.now c.args.own entries)
    (least c.args.names.now c.args.own entries None c.requires.order (sym c.in_ok-place.ensures ∙ c.in-None.is))

pub returns-in-Some-clause-refused : goal.returns-in-Some-clause-refused
returns-in-Some-clause-refused c =
    let entries = entry_values c.args.entries.now in
    first_at_places UnknownType (HasUnknownType c.args.names.now c.args.own entries) c.in-Some.place
    (least c.args.names.now c.args.own entries (Some c.in-Some.place) c.requires.order (sym c.in_ok-place.ensures ∙ c.in-Some.is))
