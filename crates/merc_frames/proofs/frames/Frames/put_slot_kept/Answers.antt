use Rattle.merc_frames.proofs.Returning.{slot_given_there}
use Rattle.merc_frames.proofs.frames.Frames.put_slot_kept.Goals as goal

pub returns-in-len1-up-clause-ok : goal.returns-in-len1-up-clause-ok
returns-in-len1-up-clause-ok c = slot_given_there c.args.self.now.stacks c.return_kept.new.self.stacks c.set.new.self.stacks c.args.outs.now c.number.result c.out-item.result c.args.slot c.requires.there
    c.in-len1-up.len_at_least c.number.ensures c.out-item.is c.in_ok-return_kept.ensures.ok c.set.ensures.stacks

pub returns-in-len1-up-clause-held : goal.returns-in-len1-up-clause-held
returns-in-len1-up-clause-held c = λ may_hold cells none may held. c.set.ensures.held may_hold cells none may (c.in_ok-return_kept.ensures.held may_hold cells none held)
