use Rattle.std.proofs.Common.{◌∙◌, ◌++◌, sym, subst, ap, ℕ, List, get_or, arith}
use Rattle.merc_type_graph.specs.Cells.{known_at, IsSound}
use Rattle.merc_type_graph.specs.Joining.{arguments_of, zipped, attached, Meets}
use Rattle.merc_type_graph.specs.declared.cell.Cell.{Cell}
use Rattle.merc_type_graph.proofs.Entries.{known_read}
use Rattle.merc_type_graph.proofs.Meeting.{IsMeeting, meet_none, meets_first, meets_second, one_root}
use Rattle.merc_type_graph.proofs.joining.join.Goals as goal

pub returns-in-None-clause-made : goal.returns-in-None-clause-made
returns-in-None-clause-made c =
    let m : IsMeeting c.args.store.now c.args.cells.now c.args.one c.args.other (get_or c.args.cells.now c.args.one c.index-cells-one.result).known (get_or c.args.cells.now c.args.other c.index-cells-other.result).known = record {
      sound = c.requires.sound;
      first = c.requires.one;
      second = c.requires.other;
      known_is = known_read c.args.cells.now c.args.one c.index-cells-one.result c.requires.one.here;
      known_is' = known_read c.args.cells.now c.args.other c.index-cells-other.result c.requires.other.here;
    } in
    meet_none c.args.store.now c.args.cells.now c.args.one c.args.other (get_or c.args.cells.now c.args.one c.index-cells-one.result).known (get_or c.args.cells.now c.args.other c.index-cells-other.result).known
    m (sym c.in-None.ensures)

pub attach-requires-else-cells-one-clause-room : goal.attach-requires-else-cells-one-clause-room
attach-requires-else-cells-one-clause-room c =
    let room = c.requires.sound.forest.room c.args.other c.requires.other.here in
    let some = one_root c.args.cells.now c.args.other c.requires.other.here c.requires.other.is_root in
    omega arith

pub returns-then-cells-one-clause-made : goal.returns-then-cells-one-clause-made
returns-then-cells-one-clause-made c =
    let m : IsMeeting c.args.store.now c.args.cells.now c.args.one c.args.other (get_or c.args.cells.now c.args.one c.index-cells-one.result).known (get_or c.args.cells.now c.args.other c.index-cells-other.result).known = record {
      sound = c.requires.sound;
      first = c.requires.one;
      second = c.requires.other;
      known_is = known_read c.args.cells.now c.args.one c.index-cells-one.result c.requires.one.here;
      known_is' = known_read c.args.cells.now c.args.other c.index-cells-other.result c.requires.other.here;
    } in
    let ones = c.arguments_at.ensures in
    let others = c.arguments_at-2.ensures in
    let pushed = c.in_ok-push_pairs.ensures
    ∙ ap (λ (l : List ℕ). c.args.pairs.now.items ++ zipped l c.arguments_at-2.result.now) ones
    ∙ ap (λ (l : List ℕ). c.args.pairs.now.items ++ zipped (arguments_of c.args.store.now (known_at c.args.cells.now c.args.one)) l) others in
    let met : Meets c.args.store.now c.args.cells.now (attached c.args.cells.now c.args.one c.args.other c.in-Some.both) c.args.pairs.now.items
    (c.args.pairs.now.items ++ zipped (arguments_of c.args.store.now (known_at c.args.cells.now c.args.one)) (arguments_of c.args.store.now (known_at c.args.cells.now c.args.other)))
    c.args.one c.args.other =
    meets_first c.args.store.now c.args.cells.now c.args.one c.args.other (get_or c.args.cells.now c.args.one c.index-cells-one.result).known (get_or c.args.cells.now c.args.other c.index-cells-other.result).known c.in-Some.both c.args.pairs.now.items m c.requires.apart (sym c.in-Some.ensures) c.requires.pairs in
    subst (λ (cells : List Cell). Meets c.args.store.now c.args.cells.now cells c.args.pairs.now.items c.push_pairs.new.pairs.items c.args.one c.args.other) (sym c.attach.ensures)
    (subst (λ (l : List (ℕ × ℕ)). Meets c.args.store.now c.args.cells.now (attached c.args.cells.now c.args.one c.args.other c.in-Some.both) c.args.pairs.now.items l c.args.one c.args.other) (sym pushed) met)

pub returns-then-cells-one-clause-sound : goal.returns-then-cells-one-clause-sound
returns-then-cells-one-clause-sound c =
    let m : IsMeeting c.args.store.now c.args.cells.now c.args.one c.args.other (get_or c.args.cells.now c.args.one c.index-cells-one.result).known (get_or c.args.cells.now c.args.other c.index-cells-other.result).known = record {
      sound = c.requires.sound;
      first = c.requires.one;
      second = c.requires.other;
      known_is = known_read c.args.cells.now c.args.one c.index-cells-one.result c.requires.one.here;
      known_is' = known_read c.args.cells.now c.args.other c.index-cells-other.result c.requires.other.here;
    } in
    let met : Meets c.args.store.now c.args.cells.now (attached c.args.cells.now c.args.one c.args.other c.in-Some.both) c.args.pairs.now.items
    (c.args.pairs.now.items ++ zipped (arguments_of c.args.store.now (known_at c.args.cells.now c.args.one)) (arguments_of c.args.store.now (known_at c.args.cells.now c.args.other)))
    c.args.one c.args.other =
    meets_first c.args.store.now c.args.cells.now c.args.one c.args.other (get_or c.args.cells.now c.args.one c.index-cells-one.result).known (get_or c.args.cells.now c.args.other c.index-cells-other.result).known c.in-Some.both c.args.pairs.now.items m c.requires.apart (sym c.in-Some.ensures) c.requires.pairs in
    subst (λ (cells : List Cell). IsSound c.args.store.now cells) (sym c.attach.ensures) met.sound

pub returns-else-cells-one-clause-made : goal.returns-else-cells-one-clause-made
returns-else-cells-one-clause-made c =
    let m : IsMeeting c.args.store.now c.args.cells.now c.args.one c.args.other (get_or c.args.cells.now c.args.one c.index-cells-one.result).known (get_or c.args.cells.now c.args.other c.index-cells-other.result).known = record {
      sound = c.requires.sound;
      first = c.requires.one;
      second = c.requires.other;
      known_is = known_read c.args.cells.now c.args.one c.index-cells-one.result c.requires.one.here;
      known_is' = known_read c.args.cells.now c.args.other c.index-cells-other.result c.requires.other.here;
    } in
    let ones = c.arguments_at.ensures in
    let others = c.arguments_at-2.ensures in
    let pushed = c.in_ok-push_pairs.ensures
    ∙ ap (λ (l : List ℕ). c.args.pairs.now.items ++ zipped l c.arguments_at-2.result.now) ones
    ∙ ap (λ (l : List ℕ). c.args.pairs.now.items ++ zipped (arguments_of c.args.store.now (known_at c.args.cells.now c.args.one)) l) others in
    let met : Meets c.args.store.now c.args.cells.now (attached c.args.cells.now c.args.other c.args.one c.in-Some.both) c.args.pairs.now.items
    (c.args.pairs.now.items ++ zipped (arguments_of c.args.store.now (known_at c.args.cells.now c.args.one)) (arguments_of c.args.store.now (known_at c.args.cells.now c.args.other)))
    c.args.one c.args.other =
    meets_second c.args.store.now c.args.cells.now c.args.one c.args.other (get_or c.args.cells.now c.args.one c.index-cells-one.result).known (get_or c.args.cells.now c.args.other c.index-cells-other.result).known c.in-Some.both c.args.pairs.now.items m c.requires.apart (sym c.in-Some.ensures) c.requires.pairs in
    subst (λ (cells : List Cell). Meets c.args.store.now c.args.cells.now cells c.args.pairs.now.items c.push_pairs.new.pairs.items c.args.one c.args.other) (sym c.attach-else-cells-one.ensures)
    (subst (λ (l : List (ℕ × ℕ)). Meets c.args.store.now c.args.cells.now (attached c.args.cells.now c.args.other c.args.one c.in-Some.both) c.args.pairs.now.items l c.args.one c.args.other) (sym pushed) met)

pub returns-else-cells-one-clause-sound : goal.returns-else-cells-one-clause-sound
returns-else-cells-one-clause-sound c =
    let m : IsMeeting c.args.store.now c.args.cells.now c.args.one c.args.other (get_or c.args.cells.now c.args.one c.index-cells-one.result).known (get_or c.args.cells.now c.args.other c.index-cells-other.result).known = record {
      sound = c.requires.sound;
      first = c.requires.one;
      second = c.requires.other;
      known_is = known_read c.args.cells.now c.args.one c.index-cells-one.result c.requires.one.here;
      known_is' = known_read c.args.cells.now c.args.other c.index-cells-other.result c.requires.other.here;
    } in
    let met : Meets c.args.store.now c.args.cells.now (attached c.args.cells.now c.args.other c.args.one c.in-Some.both) c.args.pairs.now.items
    (c.args.pairs.now.items ++ zipped (arguments_of c.args.store.now (known_at c.args.cells.now c.args.one)) (arguments_of c.args.store.now (known_at c.args.cells.now c.args.other)))
    c.args.one c.args.other =
    meets_second c.args.store.now c.args.cells.now c.args.one c.args.other (get_or c.args.cells.now c.args.one c.index-cells-one.result).known (get_or c.args.cells.now c.args.other c.index-cells-other.result).known c.in-Some.both c.args.pairs.now.items m c.requires.apart (sym c.in-Some.ensures) c.requires.pairs in
    subst (λ (cells : List Cell). IsSound c.args.store.now cells) (sym c.attach-else-cells-one.ensures) met.sound
