use Rattle.std.proofs.Common.{◌≡◌, drop, map, take}
use Rattle.merc_flat.specs.Flat.{clause_form_fault, clause_node, fault_among}
use Rattle.merc_flat.proofs.flattening.clause_forms.Given as goal

abbrev pub invariant-loop-clause : goal.invariant-loop-clause
invariant-loop-clause l = record {
  fault : fault_among (clause_form_fault l.names l.known) (drop l.clause-index l.clauses) ≡ fault_among (clause_form_fault l.names l.known) l.clauses;
  forms : l.forms ≡ map (clause_node l.names l.known) (take l.clause-index l.clauses);
}
