use Rattle.std.proofs.Common.{refl}
use Rattle.std.proofs.lemmas.Result.{on_ok_weaker}
use Rattle.merc_type_check.proofs.Numbers.{constructor_added}
use Rattle.merc_type_check.proofs.declared.number_constructor.Goals as goal

pub returns : goal.returns
returns c =
    on_ok_weaker c.add.result
    (λ h. constructor_added c.args.numbering.now c.number_types.new.numbering c.args.constructors.now c.add.new.self c.args.constructor.now
    (record { name = c.args.constructor.now.name; arity = c.len.result }) c.in_ok-numbers.numbers c.in_ok-numbers.ensures refl c.len.ensures h) c.add.ensures
