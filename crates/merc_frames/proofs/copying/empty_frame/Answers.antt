use Rattle.std.proofs.Common.{◌+◌, ◌-◌, ◌≤◌, length, drop, sym, ◌∙◌, arith}
use Rattle.std.proofs.lemmas.List.{length-drop, length-take-le}
use Rattle.std.proofs.lemmas.Slice.{drop-put_mid}
use Rattle.merc_frames.proofs.copying.empty_frame.Goals as goal

abbrev pub returns-clause-above : goal.returns-clause-above
returns-clause-above c =
    let room = c.requires in
    let count = c.args.base + c.args.size - c.args.base in
    let within : count ≤ length (drop c.args.base c.args.slots.now) = omega (arith, room, length-drop c.args.base c.args.slots.now) in
    sym (drop-put_mid c.args.base count c.args.slots.now c.fill.new.self (c.args.base + c.args.size) (omega arith) (omega (arith, room))
    (c.fill.ensures.len ∙ length-take-le count (drop c.args.base c.args.slots.now) within))
