use Rattle.std.proofs.Common.{◌≡◌, Some, None, sym, subst, ◌∙◌}
use Rattle.std.proofs.lemmas.Result.{IfOk-weaker}
use Rattle.std.specs.BTreeMap.{get}
use Rattle.merc_type_matching.specs.declared.used.UsedVariable.{UsedVariable}
use Rattle.merc_type_matching.proofs.Maps.{Changes}
use Rattle.merc_type_check.specs.Progress.{compare_variables}
use Rattle.merc_type_check.proofs.Places.{type_variable_given, type_variable_known}
use Rattle.merc_type_check.proofs.checker.Checker.stands_for.Goals as goal

pub make_equal-requires-clause-other : goal.make_equal-requires-clause-other
make_equal-requires-clause-other c =
    (type_variable_known c.args.self.now c.args.user c.args.name c.in-Some.other c.requires.sound
    (subst (λ (v : UsedVariable). get compare_variables c.args.self.now.instances v ≡ Some c.in-Some.other) c.new-variable.ensures
    (sym c.get.ensures.value ∙ sym c.in-Some.ensures))).stands.there

pub returns-in-Some : goal.returns-in-Some
returns-in-Some c =
    IfOk-weaker c.make_equal.result _ _
    (λ done equal. λ Meant stands. equal Meant (λ types instance. instance c.args.user c.args.name) stands
    (type_variable_known c.args.self.now c.args.user c.args.name c.in-Some.other c.requires.sound
    (subst (λ (v : UsedVariable). get compare_variables c.args.self.now.instances v ≡ Some c.in-Some.other) c.new-variable.ensures
    (sym c.get.ensures.value ∙ sym c.in-Some.ensures))).stands)
    c.make_equal.ensures

pub returns-in_ok-insert-in-None : goal.returns-in_ok-insert-in-None
returns-in_ok-insert-in-None c = λ Meant stands.
    type_variable_given c.args.self.now c.insert.new.self c.args.user c.args.name c.args.place Meant c.requires.sound c.requires.begun
    (subst (λ (v : UsedVariable). get compare_variables c.args.self.now.instances v ≡ None) c.new-variable.ensures
    (sym c.get.ensures.value ∙ sym c.in-None.ensures))
    (subst (λ (v : UsedVariable). Changes compare_variables c.args.self.now.instances c.insert.new.self v (Some c.args.place)) c.new-variable.ensures
    c.in_ok-insert-in-None.ensures.updates.0)
    stands
