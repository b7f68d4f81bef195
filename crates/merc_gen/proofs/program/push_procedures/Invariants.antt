use Rattle.std.proofs.Common.{◌≡◌, ◌++◌, drop, map}
use Rattle.merc_gen.specs.Generated.{procedure_code}
use Rattle.merc_gen.specs.Procedures.{program_bodies}
use Rattle.merc_gen.specs.Singles.{contained}
use Rattle.merc_gen.proofs.program.push_procedures.Given as goal

abbrev pub invariant-loop-declared : goal.invariant-loop-declared
invariant-loop-declared l =
    l.procedures ++ map (map (procedure_code (contained l.singles))) (program_bodies (drop l.declared-index l.predicates) l.left)
    ≡ map (map (procedure_code (contained l.singles))) (program_bodies l.predicates l.trees)
