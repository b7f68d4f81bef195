use Rattle.std.proofs.Common.{[], ◌∷◌}
use Rattle.merc_frames.proofs.Returning.{given_at_caller, slot_given}
use Rattle.merc_frames.proofs.frames.Frames.put_slot.Goals as goal

pub returns-in-len1-up-clause-ok : goal.returns-in-len1-up-clause-ok
returns-in-len1-up-clause-ok c = given_at_caller c.args.self.now.stacks c.set.new.self.stacks (c.args.slot ∷ []) c.args.outs.now c.in_ok-give_back.field-0
    (slot_given c.args.self.now.stacks c.give_back.new.self.stacks c.set.new.self.stacks c.args.outs.now c.number.result c.out-item.result c.args.slot c.in_ok-give_back.field-0
    c.in-len1-up.len_at_least c.number.ensures c.out-item.is c.in_ok-give_back.ensures.ok c.set.ensures.stacks)

pub returns-in-len1-up-clause-held : goal.returns-in-len1-up-clause-held
returns-in-len1-up-clause-held c = λ may_hold cells none may held. c.set.ensures.held may_hold cells none may (c.in_ok-give_back.ensures.held may_hold cells none held)
