use Rattle.std.proofs.Common.{refl}
use Rattle.std.proofs.lemmas.Result.{on_ok_weaker}
use Rattle.merc_answer_variables.proofs.TakingLaws.{decided_read}
use Rattle.merc_answer_variables.proofs.reader.Reader.decide.Goals as goal

pub returns-in_ok-push-in-Some : goal.returns-in_ok-push-in-Some
returns-in_ok-push-in-Some c =
    on_ok_weaker c.decide-answer.result
    (λ deciding blank goals span read.
    decided_read blank goals span c.in-Some.parts.condition c.in-Some.parts.then_part c.in-Some.parts.else_part c.decide-answer.new.self c.first_three.new.goals.items
    c.args.self.now (record { goals = c.push.new.goals; trail = c.args.self.now.trail })
    c.in-Some.ensures deciding c.in_ok-push-in-Some.ensures refl read)
    c.decide-answer.ensures
