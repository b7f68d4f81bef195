use Rattle.std.proofs.Common.{◌≡◌, ◌<◌, ◌∙◌, ◌++◌, ◌∷◌, [], ap, drop, length, subst, sym, take}
use Rattle.std.proofs.lemmas.Result.{on_ok_weaker}
use Rattle.std.specs.List.{slice_index_or, slice_set}
use Rattle.merc_switch_choice.proofs.ArmLaws.{Adds, arms_added, places_added, room_under, written_back}
use Rattle.merc_switch_choice.proofs.arms.put_under.Goals as goal

pub push_at-requires : goal.push_at-requires
push_at-requires c =
    subst (λ l. c.in-Ok.place < length l) (sym c.deref_mut.ensures.value)
    (room_under c.args.symbol c.in-Ok.place c.args.places.now c.args.groups.now.items c.open_arm.new.groups.items c.requires c.in-Ok.ensures.place c.in-Ok.ensures.groups)

pub returns-in-Ok-clause-arms : goal.returns-in-Ok-clause-arms
returns-in-Ok-clause-arms c =
    let symbols = c.args.symbols.now.items in
    let groups = c.args.groups.now.items in
    let opened = c.open_arm.new.groups.items in
    let place = c.in-Ok.place in
    let adds : Adds symbols groups c.args.places.now c.args.symbol place c.open_arm.new.symbols.items opened c.open_arm.new.places =
    record { place_is = c.in-Ok.ensures.place; places_are = c.in-Ok.ensures.places; symbols_are = c.in-Ok.ensures.symbols; groups_are = c.in-Ok.ensures.groups } in
    let more = slice_index_or opened place [] ++ c.args.disjunct ∷ [] in
    on_ok_weaker c.push_at.result (λ pushed arms known are.
    let put : c.push_at.new.groups ≡ slice_set opened place more = pushed ∙ ap (λ l. slice_set l place (slice_index_or l place [] ++ c.args.disjunct ∷ [])) c.deref_mut.ensures.value in
    let written = written_back opened c.push_at.new.groups c.open_arm.new.groups.len place more (sym (ap length c.deref_mut.ensures.value) ∙ c.deref_mut.ensures.len) put in
    arms_added arms symbols groups c.args.places.now c.args.symbol c.args.disjunct place c.open_arm.new.symbols.items opened c.open_arm.new.places are known adds
    (take c.open_arm.new.groups.len (c.push_at.new.groups ++ drop (length c.push_at.new.groups) opened)) (written ∙ put)) c.push_at.ensures

pub returns-in-Ok-clause-places : goal.returns-in-Ok-clause-places
returns-in-Ok-clause-places c =
    let symbols = c.args.symbols.now.items in
    let groups = c.args.groups.now.items in
    let adds : Adds symbols groups c.args.places.now c.args.symbol c.in-Ok.place c.open_arm.new.symbols.items c.open_arm.new.groups.items c.open_arm.new.places =
    record { place_is = c.in-Ok.ensures.place; places_are = c.in-Ok.ensures.places; symbols_are = c.in-Ok.ensures.symbols; groups_are = c.in-Ok.ensures.groups } in
    on_ok_weaker c.push_at.result (λ pushed arms known are.
    places_added arms symbols groups c.args.places.now c.args.symbol c.args.disjunct c.in-Ok.place c.open_arm.new.symbols.items c.open_arm.new.groups.items c.open_arm.new.places are known adds)
    c.push_at.ensures
