use Rattle.std.proofs.Common.{◌≡◌, ◌++◌, drop, map}
use Rattle.merc_gen.specs.Procedures.{program_bodies, answer_once}
use Rattle.merc_gen.proofs.program.push_singles.Given as goal

abbrev pub invariant-loop-declared : goal.invariant-loop-declared
invariant-loop-declared l =
    l.singles ++ map answer_once (program_bodies (drop l.declared-index l.predicates) l.left) ≡ map answer_once (program_bodies l.predicates l.trees)
