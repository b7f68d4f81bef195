use Rattle.std.proofs.Common.{refl, ap, ◌∙◌}
use Rattle.merc_heap.specs.Heap.{word_of}
use Rattle.merc_frames.specs.Slots.{holding}
use Rattle.merc_store.proofs.HeldLaws.{is_slot_below, step_held, word_passes}
use Rattle.merc_store.proofs.splitting.put.Goals as goal

pub returns-clause-held : goal.returns-clause-held
returns-clause-held c cells below held =
    step_held cells cells c.args.frames.now c.set.new.self
    (c.set.ensures.held is_slot_below cells refl (word_passes cells (word_of c.args.field.now) c.holding.result (c.holding.ensures ∙ ap holding c.word.ensures) below)) held
