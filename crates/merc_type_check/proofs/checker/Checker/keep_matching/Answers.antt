use Rattle.merc_type_check.proofs.Places.{matchings_changed}
use Rattle.merc_type_check.proofs.checker.Checker.keep_matching.Goals as goal

pub returns : goal.returns
returns c =
    matchings_changed c.args.self.now c.keep.new.self c.requires.sound (c.in_ok-keep.ensures c.args.self.now.graph.table c.requires.sound.matchings c.requires.matched)
