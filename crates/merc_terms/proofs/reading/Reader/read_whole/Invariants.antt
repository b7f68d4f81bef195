use Rattle.merc_terms.specs.Reader.{whole_term}
use Rattle.merc_terms.specs.Standing.{Stands, Leads, work}
use Rattle.merc_terms.proofs.reading.Reader.read_whole.Given as goal

abbrev pub invariant-loop-state : goal.invariant-loop-state
invariant-loop-state l = record {
  stands : Stands l.state l.self;
  leads : Leads l.state l.self (whole_term l.fn.self.progress.built l.fn.self.progress.rest.now);
}

abbrev pub decreases-loop-state : goal.decreases-loop-state
decreases-loop-state l = work l.state l.self
