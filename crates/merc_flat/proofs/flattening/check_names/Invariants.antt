use Rattle.std.proofs.Common.{◌≡◌, drop}
use Rattle.merc_flat.specs.Flat.{fault_among}
use Rattle.merc_flat.specs.ClauseFaults.{name_fault_of}
use Rattle.merc_flat.proofs.flattening.check_names.Given as goal

abbrev pub invariant-loop-clause : goal.invariant-loop-clause
invariant-loop-clause l = fault_among (name_fault_of l.known) (drop l.clause-index l.clauses) ≡ fault_among (name_fault_of l.known) l.clauses
