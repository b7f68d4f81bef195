use Rattle.merc_terms.proofs.ReaderSteps.{starts}
use Rattle.merc_terms.proofs.reading.Reader.read_whole.Goals as goal

pub loop-state-init : goal.loop-state-init
loop-state-init c =
    let start = starts c.args.self.now.progress c.whole-self.result c.clear.new.self c.requires c.whole-self.ensures c.clear.ensures in
    record { stands = start.stands; leads = start.leads }
