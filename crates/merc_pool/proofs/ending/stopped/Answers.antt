use Rattle.std.proofs.Common.{refl}
use Rattle.merc_pool.proofs.Ends.{can-end, root-came}
use Rattle.merc_pool.proofs.ending.stopped.Goals as goal

pub came-requires-after_bounds : goal.came-requires-after_bounds
came-requires-after_bounds g c κs within =
    let named = rw c.deref.ensures at c.if-is_root.ensures.named in (
      c.requires.0,
      c.requires.1,
      root-came g.M.Engine g.N.Asked g.B.Board c.requires.0 c.requires.1 c.args.branch.value c.args.stop c.requires.2 (λ at. named refl c.requires.0 c.requires.1 at),
    )

pub returns-then-is_root : goal.returns-then-is_root
returns-then-is_root g c = λ board seat come.
    let named = rw c.deref.ensures at c.if-is_root.ensures.named in
    c.came.ensures.hand board seat (root-came g.M.Engine g.N.Asked g.B.Board board seat c.args.branch.value c.args.stop come (λ at. named refl board seat at))

pub returns : goal.returns
returns g c = λ board seat come.
    let is = rw c.deref-2.ensures at c.outcome_of-outcome.ensures in
    can-end g.M.Engine g.N.Asked g.B.Board board seat c.args.branch.value c.args.stop c.outcome_of-outcome.result come is
