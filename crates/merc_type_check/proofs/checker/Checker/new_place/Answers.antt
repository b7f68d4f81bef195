use Rattle.std.proofs.Common.{sym, ◌∙◌}
use Rattle.merc_type_check.proofs.Places.{offers_built, offers_unknown, waits_there, without_sound}
use Rattle.merc_type_check.proofs.checker.Checker.new_place.Goals as goal

pub declared-requires-clause-sound : goal.declared-requires-clause-sound
declared-requires-clause-sound c = without_sound c.args.self.now c.remove.new.self c.args.variable c.requires.sound c.remove.ensures.updates.0

pub declared-requires-clause-there : goal.declared-requires-clause-there
declared-requires-clause-there c = (waits_there c.args.self.now c.args.variable c.in-Some.used c.requires.sound (sym c.remove.ensures.value ∙ c.in-Some.is)).0

pub declared-requires-clause-begun : goal.declared-requires-clause-begun
declared-requires-clause-begun c = (waits_there c.args.self.now c.args.variable c.in-Some.used c.requires.sound (sym c.remove.ensures.value ∙ c.in-Some.is)).1

pub returns-in-Some : goal.returns-in-Some
returns-in-Some c =
    offers_built c.declared.result c.args.self.now c.declared.new.self c.remove.new.self c.args.variable c.in-Some.used c.requires.sound c.requires.none
    (sym c.remove.ensures.value ∙ c.in-Some.is) c.remove.ensures.updates.0 c.declared.ensures.placed c.declared.ensures.kept

pub returns-in_ok-add_unknown-in-None : goal.returns-in_ok-add_unknown-in-None
returns-in_ok-add_unknown-in-None c =
    offers_unknown c.args.self.now c.remove.new.self c.add_unknown.new.self c.args.variable c.in_ok-add_unknown-in-None.field-0 c.requires.sound c.requires.none
    (sym c.remove.ensures.value ∙ c.in-None.is) c.remove.ensures.updates.0 c.add_unknown.ensures.table c.in_ok-add_unknown-in-None.ensures.place
    c.in_ok-add_unknown-in-None.ensures.count c.in_ok-add_unknown-in-None.ensures.solutions
