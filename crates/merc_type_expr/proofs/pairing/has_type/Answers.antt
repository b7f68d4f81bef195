use Rattle.std.proofs.Common.{◌≡◌, subst, refl}
use Rattle.merc_type_expr.specs.Solving.{Has}
use Rattle.merc_type_expr.proofs.Lists.{has_at}
use Rattle.merc_type_expr.proofs.pairing.has_type.Goals as goal

pub returns-then-is_same : goal.returns-then-is_same
returns-then-is_same c =
    let same : c.found-item.result ≡ c.args.wanted.now = c.if-is_same.ensures.0 refl in
    (λ _. subst (λ t. Has t c.args.types.now) same (has_at c.args.types.now c.loop-found.found-index c.found-item.result c.loop-found-test.true c.found-item.is), λ _. refl)
