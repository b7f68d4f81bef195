use Rattle.merc_pool.proofs.Backs.{told_home}
use Rattle.merc_pool.proofs.session.run_on.Goals as goal

pub returns-in-Some-clause-home : goal.returns-in-Some-clause-home
returns-in-Some-clause-home g c = λ none.
    told_home g.M.Engine g.N.Asked g.B.Board c.args.shared.now.board c.args.given.now c.tell-next.new.given c.tell-next.result c.tell-next.new.slot c.tell-next.ensures.given
    (c.tell-next.ensures.home c.args.shared.now.board c.in-Some.ensures.back) none
