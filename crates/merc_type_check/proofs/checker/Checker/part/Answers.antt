use Rattle.std.proofs.Common.{sym, ◌∙◌}
use Rattle.merc_type_check.proofs.Steps.{grow_nothing}
use Rattle.merc_type_check.proofs.Built.{found_built, found_closed, found_variable, found_none}
use Rattle.merc_type_check.proofs.checker.Checker.part.Goals as goal

pub returns-in-Some-clause-found : goal.returns-in-Some-clause-found
returns-in-Some-clause-found c =
    found_built c.args.user c.args.self.now c.args.built.now c.args.number c.in-Some.place (grow_nothing c.args.self.now c.requires.sound) c.requires.built
    (sym c.get.ensures.value ∙ sym c.in-Some.ensures)

pub returns-then-is_closed-clause-found : goal.returns-then-is_closed-clause-found
returns-then-is_closed-clause-found c =
    found_closed c.args.user c.args.self.now c.whole_place.new.self c.args.built.now c.insert.new.self c.args.number c.in_ok-place.place c.requires.built
    (sym c.is_closed.ensures ∙ c.if-is_closed.true) c.in_ok-place.ensures.placed c.in_ok-insert.ensures.updates.0

pub returns-in_ok-insert-in-Variable-clause-found : goal.returns-in_ok-insert-in-Variable-clause-found
returns-in_ok-insert-in-Variable-clause-found c =
    found_variable c.args.user c.args.self.now c.type_variable.new.self c.args.built.now c.insert-in-Variable.new.self c.args.number c.in_ok-place-in-Variable.place c.in-Variable.name c.requires.built
    c.in-Variable.ensures.is c.in_ok-place-in-Variable.ensures.placed c.in_ok-insert-in-Variable.ensures.updates.0

pub returns-in_default-node-clause-found : goal.returns-in_default-node-clause-found
returns-in_default-node-clause-found c =
    found_none c.args.user c.args.self.now c.args.built.now c.args.number c.node.result (grow_nothing c.args.self.now c.requires.sound) c.requires.built c.node.ensures.is
    c.node.ensures.complete (sym c.is_closed.ensures ∙ c.if-is_closed.false) c.in_default-node.not-Variable
