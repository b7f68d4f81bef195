use Rattle.merc_join.proofs.Dealing.{opens_with}
use Rattle.merc_join.proofs.making.take_room.Goals as goal

pub new-requires : goal.new-requires
new-requires g c = opens_with g.P.Forked.ends _ _ _ _ c.requires.0 c.requires.2 c.in_ok-slots.ensures
