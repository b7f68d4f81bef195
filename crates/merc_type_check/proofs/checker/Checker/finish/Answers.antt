use Rattle.std.proofs.Common.{sym, subst, length}
use Rattle.merc_type_graph.specs.Changes.{AllWithin}
use Rattle.merc_type_check.proofs.Built.{finished}
use Rattle.merc_type_check.proofs.checker.Checker.finish.Goals as goal

pub applied-requires-clause-within : goal.applied-requires-clause-within
applied-requires-clause-within c =
    subst (AllWithin (length c.args.self.now.graph.entries)) (sym c.deref.ensures.value) c.requires.within

pub returns-clause-finished : goal.returns-clause-finished
returns-clause-finished c = λ user built filled.
    finished user c.args.self.now c.applied.new.self c.args.built.now c.insert.new.self c.args.frame.now c.deref.result.now c.args.name c.in_ok-place.place
    c.deref.ensures.value built filled c.in_ok-place.ensures.placed c.in_ok-insert.ensures.updates.0
