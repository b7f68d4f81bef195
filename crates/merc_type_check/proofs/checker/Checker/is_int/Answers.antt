use Rattle.std.proofs.lemmas.Result.{IfOk-weaker}
use Rattle.merc_tree.specs.Types.{IntType}
use Rattle.merc_type_check.proofs.Numbers.{given_fixed, type_there}
use Rattle.merc_type_check.proofs.checker.Checker.is_int.Goals as goal

pub make_whole-requires-clause-declared : goal.make_whole-requires-clause-declared
make_whole-requires-clause-declared c = (type_there c.variable.new.self.graph.table c.int-number.result IntType c.int-number.ensures).0

pub returns : goal.returns
returns c =
    IfOk-weaker c.make_whole.result _ _
    (λ done takes. given_fixed done c.args.self.now c.variable.new.self c.make_whole.new.self c.in_ok-place.place c.args.variable c.int-number.result IntType
    c.variable.new.self.graph.table c.int-number.ensures c.in_ok-place.ensures takes) c.make_whole.ensures
