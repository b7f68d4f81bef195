-- The text has the predicates up to this one.
use Rattle.std.proofs.Common.{◌≡◌, ◌++◌, codes}
use Rattle.merc_grow.specs.Grown.{predicates}
use Rattle.merc_grow.proofs.growing.grown.Given as goal

abbrev pub invariant-loop-before : goal.invariant-loop-before
invariant-loop-before l = l.text ≡ codes ":- module grown.\n:- import_module int.\n" ++ predicates l.count l.before
