-- A tap that is not over takes the event.
use Rattle.std.proofs.Common.{◌≡◌, ◌∙◌, false, sym}
use Rattle.merc_answers.proofs.TapEvents.{take_saw}
use Rattle.merc_answers.proofs.telling.tell_one.Goals as goal

pub returns-then-not-is_over : goal.returns-then-not-is_over
returns-then-not-is_over g c =
    let taken = c.take_event-answer.ensures in
    let listens = sym c.is_over.ensures ∙ c.if-not-is_over.true in
    record { same_kind = taken.kind; saw = take_saw c.args.event.now _ _ c.take_event-answer.result listens taken.taken; left_alone = λ over. absurd (cc (listens, over)) }
