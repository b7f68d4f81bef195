use Rattle.std.proofs.Common.{None, Some, ◌∙◌, sym, subst}
use Rattle.merc_base.specs.FirstPlace.{IsLeast}
use Rattle.merc_base.specs.declared.refusal.Rule.TheVariants.{Undeclared}
use Rattle.merc_base.proofs.FirstFaultLaws.{none_at_places, first_at_places}
use Rattle.merc_base.proofs.FirstPlaceLaws.{first_place-least}
use Rattle.merc_entries.specs.EntryValue.{entry_values, place_at}
use Rattle.merc_declared.specs.AloneItems.{IsAlone}
use Rattle.merc_declared.specs.ClauseHeads.{is_alone_here}
use Rattle.merc_declared.proofs.clause_heads.check_clauses.Goals as goal

pub returns-in-None-clause-fine : goal.returns-in-None-clause-fine
returns-in-None-clause-fine c =
    let entries = entry_values c.args.entries.now in
    none_at_places Undeclared (IsAlone c.args.own entries)
    (subst (IsLeast (IsAlone c.args.own entries)) (sym c.in_ok-place.ensures ∙ c.in-None.is) (first_place-least place_at (is_alone_here c.args.own entries) 0 entries c.requires.order))

pub returns-in-Some-clause-refused : goal.returns-in-Some-clause-refused
returns-in-Some-clause-refused c =
    let entries = entry_values c.args.entries.now in
    first_at_places Undeclared (IsAlone c.args.own entries) c.in-Some.place
    (subst (IsLeast (IsAlone c.args.own entries)) (sym c.in_ok-place.ensures ∙ c.in-Some.is) (first_place-least place_at (is_alone_here c.args.own entries) 0 entries c.requires.order))
