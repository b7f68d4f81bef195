use Rattle.std.proofs.Common.{◌≡◌}
use Rattle.std.proofs.lemmas.Result.{IfOk-weaker}
use Rattle.merc_tree.specs.Types.{IntType}
use Rattle.merc_type_check.proofs.Steps.{step_takes, takes_as}
use Rattle.merc_type_check.proofs.Asked.{refuses_more, refused, taken}
use Rattle.merc_type_check.proofs.checker.Checker.are_all_ints.Goals as goal

pub returns-then-not-done : goal.returns-then-not-done
returns-then-not-done c =
    refuses_more c.args.self.now (λ types instance. types c.args.outcome ≡ IntType) _ (λ types instance both. both.0)
    (refused c.in_ok-done.done c.args.self.now c.is_int.new.self (λ types instance. types c.args.outcome ≡ IntType) c.if-not-done.true c.in_ok-done.ensures)

pub returns : goal.returns
returns c =
    IfOk-weaker c.are_ints.result _ _
    (λ done takes. takes_as done c.args.self.now c.are_ints.new.self
    (λ types instance. (types c.args.outcome ≡ IntType) × ((types c.args.left ≡ IntType) × (types c.args.right ≡ IntType)))
    (λ types instance. (types c.args.outcome ≡ IntType) × (types c.args.left ≡ IntType) × (types c.args.right ≡ IntType))
    (λ types instance all. (all.0, all.1.0, all.1.1)) (λ types instance all. (all.0, (all.1, all.2)))
    (step_takes done c.args.self.now c.is_int.new.self c.are_ints.new.self (λ types instance. types c.args.outcome ≡ IntType)
    (λ types instance. (types c.args.left ≡ IntType) × (types c.args.right ≡ IntType))
    (taken c.in_ok-done.done c.args.self.now c.is_int.new.self (λ types instance. types c.args.outcome ≡ IntType) c.if-not-done.false c.in_ok-done.ensures) takes))
    c.are_ints.ensures
