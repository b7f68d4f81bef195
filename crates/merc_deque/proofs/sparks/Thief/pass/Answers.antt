use Rattle.merc_deque.proofs.Keeping.{admits}
use Rattle.merc_deque.proofs.sparks.Thief.pass.Goals as goal

pub pass-requires : goal.pass-requires
pass-requires g c = admits
