use Rattle.std.proofs.Common.{◌≡◌, ◌++◌, length, map, drop}
use Rattle.merc_bodies.specs.Bodies.{joined_forms}
use Rattle.merc_bodies.specs.Grouping.{form_in}
use Rattle.merc_bodies.proofs.joining.put_numbered.Given as goal

abbrev pub invariant-loop-clause : goal.invariant-loop-clause
invariant-loop-clause l =
    l.nodes ++ joined_forms l.numbering.arity (length l.numbering.variables.items) (map form_in (drop l.clause-index l.clauses))
    ≡ l.fn.nodes ++ joined_forms l.fn.numbering.arity (length l.fn.numbering.variables.items) (map form_in l.clauses)
