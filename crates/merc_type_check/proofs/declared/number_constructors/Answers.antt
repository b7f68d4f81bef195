use Rattle.std.proofs.Common.{length, refl}
use Rattle.std.proofs.lemmas.Option.{slice_get_read}
use Rattle.merc_type_check.proofs.Numbers.{grows_none, types_none, types_more, types_all}
use Rattle.merc_type_check.proofs.declared.number_constructors.Goals as goal

pub loop-declared-init : goal.loop-declared-init
loop-declared-init c = types_none c.args.numbering.now c.new-constructors.result (grows_none c.args.numbering.now c.requires)

pub loop-declared-preserved : goal.loop-declared-preserved
loop-declared-preserved c =
    types_more c.args.numbering.now c.loop-declared.numbering c.number_type.new.numbering c.new-constructors.result c.loop-declared.constructors c.number_type.new.constructors
    c.args.types.now c.loop-declared.declared-index c.declared-item.result
    (slice_get_read c.args.types.now (length c.args.types.now) c.loop-declared.declared-index c.declared-item.result refl c.loop-declared-test.true c.declared-item.is)
    c.loop-declared.invariant c.in_ok-number_type.ensures

pub returns : goal.returns
returns c =
    types_all c.args.numbering.now c.loop-declared.numbering c.new-constructors.result c.loop-declared.constructors c.args.types.now c.loop-declared.declared-index
    c.loop-declared-test.false c.new-constructors.ensures c.loop-declared.invariant
