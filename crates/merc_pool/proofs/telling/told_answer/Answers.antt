use Rattle.std.proofs.Common.{refl, suc, ◌≡◌, arith}
use Rattle.merc_pool.proofs.Told.{answer-told, is-behind}
use Rattle.merc_pool.proofs.telling.told_answer.Goals as goal

pub returns : goal.returns
returns g c =
    let is = is-behind c.checked_add.result _ _ c.args.branch.now.load.progress.given c.checked_add.ensures c.if-ne.ensures in
    let next : c.args.branch.now.load.progress.given ≡ suc c.args.given.now = omega (arith, is) in
    let at = c.requires.2 in (
      (at.values, answer-told g.M.Engine g.N.Asked g.B.Board c.requires.0 c.requires.1 c.args.branch.now c.args.given.now next at, c.in-Ok.ensures at.values at.answered),
      next,
      refl,
    )
