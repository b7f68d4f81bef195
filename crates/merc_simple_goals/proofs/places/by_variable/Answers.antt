use Rattle.std.proofs.Common.{◌+◌, sym, subst, take}
use Rattle.merc_simple_goals.specs.Places.{TellsPlaces}
use Rattle.merc_simple_goals.proofs.Within.{tells_next, tells_same}
use Rattle.merc_simple_goals.proofs.places.by_variable.Goals as goal
use Rattle.merc_simple_goals.proofs.places.by_variable.Goals.{in-Some+in_ok-put_place, in_default}

pub loop-place-preserved : goal.loop-place-preserved
loop-place-preserved c =
    let all = c.args.all.now in
    let place = c.loop-place.place in
    elim c.match-first_since.branch [
      | in-Some+in_ok-put_place w ↦
          subst (λ table. TellsPlaces table.items (take (place + 1) all)) (sym w.table-is)
          (tells_next all place w.in-Some.variable w.number.result c.loop-place.table.items w.put_place.new.table.items c.loop-place.invariant w.in-Some.ensures w.number.ensures w.in_ok-put_place.ensures)
      | in_default w ↦
          subst (λ table. TellsPlaces table.items (take (place + 1) all)) (sym w.table-is) (tells_same all place c.loop-place.table.items c.loop-place.invariant w.in_default.ensures)
    ]
