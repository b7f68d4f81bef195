use Rattle.merc_pool.proofs.turn.take.Goals as goal

pub returns-in-Some : goal.returns-in-Some
returns-in-Some g c = (c.found.ensures c.args.shared.now.board c.take.new.seat c.in-Some.ensures.some, λ yes. c.take.ensures.count.1 (c.requires.allowed yes))
