use Rattle.std.proofs.Common.{◌≡◌, Some, None, sym, subst, ◌∙◌}
use Rattle.std.specs.BTreeMap.{get}
use Rattle.merc_type_matching.specs.declared.used.UsedVariable.{UsedVariable}
use Rattle.merc_type_matching.proofs.Maps.{Changes}
use Rattle.merc_type_check.specs.Progress.{compare_variables}
use Rattle.merc_type_check.proofs.Places.{type_variable_known, type_variable_placed}
use Rattle.merc_type_check.proofs.checker.Checker.type_variable.Goals as goal

pub returns-in-Some-clause-placed : goal.returns-in-Some-clause-placed
returns-in-Some-clause-placed c =
    type_variable_known c.args.self.now c.args.user c.args.name c.in-Some.place c.requires.sound
    (subst (λ (v : UsedVariable). get compare_variables c.args.self.now.instances v ≡ Some c.in-Some.place) c.new-variable.ensures
    (sym c.get.ensures.value ∙ sym c.in-Some.ensures))

pub returns-in_ok-insert-in-None-clause-placed : goal.returns-in_ok-insert-in-None-clause-placed
returns-in_ok-insert-in-None-clause-placed c =
    type_variable_placed c.args.self.now c.add_unknown.new.self c.insert.new.self c.args.user c.args.name c.in_ok-place-in-None.place c.requires.sound c.requires.begun c.add_unknown.ensures.table c.in_ok-place-in-None.ensures.place
    c.in_ok-place-in-None.ensures.count c.in_ok-place-in-None.ensures.solutions
    (subst (λ (v : UsedVariable). get compare_variables c.args.self.now.instances v ≡ None) c.new-variable.ensures
    (sym c.get.ensures.value ∙ sym c.in-None.ensures))
    (subst (λ (v : UsedVariable). Changes compare_variables c.args.self.now.instances c.insert.new.self v (Some c.in_ok-place-in-None.place)) c.new-variable.ensures
    c.in_ok-insert-in-None.ensures.updates.0)
