use Rattle.std.proofs.Common.{◌+◌, take, if◌then◌else◌, sym, ap, ◌∙◌}
use Rattle.merc_frames.proofs.copying.cut_above.Goals as goal

abbrev pub returns-then-is_cut : goal.returns-then-is_cut
returns-then-is_cut c = c.truncate.ensures.items ∙ sym (ap (λ x. if x then take (c.args.base + c.args.size) c.args.slots.now.items else c.args.slots.now.items) c.if-is_cut.true)
