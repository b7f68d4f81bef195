use Rattle.std.proofs.Common.{◌≡◌}
use Rattle.std.proofs.lemmas.Result.{IfOk-weaker}
use Rattle.merc_tree.specs.Types.{IntType}
use Rattle.merc_type_check.proofs.Steps.{step_takes}
use Rattle.merc_type_check.proofs.Asked.{refuses_more, refused, taken}
use Rattle.merc_type_check.proofs.checker.Checker.are_ints.Goals as goal

pub returns-then-not-done : goal.returns-then-not-done
returns-then-not-done c =
    refuses_more c.args.self.now (λ types instance. types c.args.left ≡ IntType) _ (λ types instance both. both.0)
    (refused c.in_ok-done.done c.args.self.now c.is_int.new.self (λ types instance. types c.args.left ≡ IntType) c.if-not-done.true c.in_ok-done.ensures)

pub returns : goal.returns
returns c =
    IfOk-weaker c.is_int-2.result _ _
    (λ done takes. step_takes done c.args.self.now c.is_int.new.self c.is_int-2.new.self (λ types instance. types c.args.left ≡ IntType)
    (λ types instance. types c.args.right ≡ IntType)
    (taken c.in_ok-done.done c.args.self.now c.is_int.new.self (λ types instance. types c.args.left ≡ IntType) c.if-not-done.false c.in_ok-done.ensures) takes)
    c.is_int-2.ensures
