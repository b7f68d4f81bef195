use Rattle.std.proofs.Common.{◌∙◌}
use Rattle.merc_declared.proofs.TypeLaws.{type-agrees}
use Rattle.merc_declared.proofs.known_types.KnownTypes.has_wrong_member.Goals as goal

pub returns : goal.returns
returns c = λ own entries holds.
    c.has_wrong_constructor-answer.ensures
    ∙ type-agrees c.args.names.now own entries c.args.self.now c.args.head.now c.args.constructors.now c.in_ok-parameters_of.field-0 holds c.in_ok-parameters_of.ensures
