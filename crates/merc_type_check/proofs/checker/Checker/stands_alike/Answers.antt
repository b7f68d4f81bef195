use Rattle.std.proofs.Common.{◌≡◌, ◌≤◌, ℕ, sym, subst}
use Rattle.std.proofs.lemmas.Result.{IfOk-weaker}
use Rattle.merc_type_check.proofs.Steps.{grow_takes}
use Rattle.merc_type_check.proofs.checker.Checker.stands_alike.Goals as goal

pub stands_for-requires-clause-begun : goal.stands_for-requires-clause-begun
stands_for-requires-clause-begun c = subst (λ (n : ℕ). c.args.other ≤ n) (sym c.in_ok-place.ensures.placed.grows.same_part) c.requires.other

pub returns : goal.returns
returns c =
    IfOk-weaker c.stands_for.result _ _
    (λ done takes. grow_takes done c.args.self.now c.type_variable.new.self c.stands_for.new.self
    (λ types instance. instance c.args.one c.args.pair.one ≡ instance c.args.other c.args.pair.other) c.in_ok-place.ensures.placed.grows
    (takes (λ types instance. instance c.args.one c.args.pair.one) c.in_ok-place.ensures.placed.stands))
    c.stands_for.ensures
