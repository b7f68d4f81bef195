use Rattle.std.proofs.Common.{◌≡◌, ℕ, ◌+◌, sym, subst, arith}
use Rattle.merc_board.specs.Going.{Ticked}
use Rattle.merc_pool.proofs.turn.report.Goals as goal

pub returns-clause-on : goal.returns-clause-on
returns-clause-on g c = λ _ at passed.
    let t = c.in-Ok.ensures in
    let u = c.used-used.ensures in
    let r = passed.reported in
    let same : passed.passed ≡ c.in-Ok.ticks = omega (arith, t, u, r) in
    c.go_on.ensures.own passed.from at passed.owned (subst (λ n. Ticked passed.from n at) same passed.ticked)
