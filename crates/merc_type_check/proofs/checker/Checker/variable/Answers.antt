use Rattle.std.proofs.Common.{sym, ◌∙◌}
use Rattle.merc_type_check.proofs.Places.{variable_known, variable_given}
use Rattle.merc_type_check.proofs.checker.Checker.variable.Goals as goal

pub returns-in-Some : goal.returns-in-Some
returns-in-Some c = variable_known c.args.self.now c.args.variable c.in-Some.place c.requires (sym c.get.ensures.value ∙ sym c.in-Some.ensures)

pub new_place-requires-clause-none : goal.new_place-requires-clause-none
new_place-requires-clause-none c = sym c.get.ensures.value ∙ sym c.copied.ensures ∙ c.in_default.is

pub returns : goal.returns
returns c =
    variable_given c.args.self.now c.new_place.new.self c.insert.new.self c.args.variable c.in_ok-place.place c.in_ok-place.ensures c.in_ok-insert.ensures.updates.0
