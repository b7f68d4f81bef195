use Rattle.std.proofs.lemmas.Result.{on_ok_weaker}
use Rattle.merc_answer_variables.proofs.TakingLaws.{taken_read}
use Rattle.merc_answer_variables.proofs.reader.Reader.join.Goals as goal

pub returns : goal.returns
returns c =
    on_ok_weaker c.take_all-answer.result
    (λ taken blank goals written beside read.
    taken_read blank c.args.count goals written c.take_all-answer.new.goals.items c.take_all-answer.new.all (record { goals = c.push.new.goals; trail = c.args.self.now.trail })
    beside (taken blank goals read.each) c.in_ok-push.ensures read.all)
    c.take_all-answer.ensures
