use Rattle.std.proofs.lemmas.Result.{IfOk-weaker}
use Rattle.merc_type_check.proofs.Asked.{two_equal}
use Rattle.merc_type_check.proofs.checker.Checker.have_one_place.Goals as goal

pub returns : goal.returns
returns c =
    IfOk-weaker c.make_equal.result _ _
    (λ done equal. two_equal done c.args.self.now c.variable.new.self c.variable-2.new.self c.make_equal.new.self c.in_ok-place.place
    c.in_ok-other_place.other_place (λ types instance. types c.args.one) (λ types instance. types c.args.other) c.in_ok-place.ensures c.in_ok-other_place.ensures equal)
    c.make_equal.ensures
