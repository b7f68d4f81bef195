-- The others are lower.
use Rattle.std.proofs.lemmas.Option.{IfSome_then}
use Rattle.merc_segments.proofs.ReachLemmas.{taken_highest}
use Rattle.merc_segments.proofs.places.Places.pop_highest.Goals as goal

pub returns-clause-highest : goal.returns-clause-highest
returns-clause-highest c = IfSome_then c.pop_last.result c.pop_last.ensures.all_below (λ place below. taken_highest c.pop_last.new.self.keys place below)
