use Rattle.merc_pool.proofs.ending.end_branch.Goals as goal

pub returns-then-is_root : goal.returns-then-is_root
returns-then-is_root g c = (tt, c.requires.allowed)

pub returns-in-Some : goal.returns-in-Some
returns-in-Some g c = c.resume.ensures

pub returns-in-None : goal.returns-in-None
returns-in-None g c = (c.in-None.ensures.none, λ may. c.in-None.ensures.count.1 (c.requires.allowed may))
