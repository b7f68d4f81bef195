use Rattle.std.proofs.lemmas.Result.{IfOk-weaker}
use Rattle.merc_tree.specs.Types.{TextType}
use Rattle.merc_type_check.proofs.Numbers.{given_fixed, type_there}
use Rattle.merc_type_check.proofs.checker.Checker.is_text.Goals as goal

pub make_whole-requires-clause-declared : goal.make_whole-requires-clause-declared
make_whole-requires-clause-declared c = (type_there c.variable.new.self.graph.table c.text-number.result TextType c.text-number.ensures).0

pub returns : goal.returns
returns c =
    IfOk-weaker c.make_whole.result _ _
    (λ done takes. given_fixed done c.args.self.now c.variable.new.self c.make_whole.new.self c.in_ok-place.place c.args.variable c.text-number.result TextType
    c.variable.new.self.graph.table c.text-number.ensures c.in_ok-place.ensures takes) c.make_whole.ensures
