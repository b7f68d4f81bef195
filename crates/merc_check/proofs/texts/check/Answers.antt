-- A text is refused where it is no items, its items are no module, or the clauses of the module are refused.
use Rattle.std.proofs.Common.{refl}
use Rattle.std.proofs.lemmas.Result.{err_from_is_err_and}
use Rattle.merc_items.proofs.ReadingLaws.{reads-rises}
use Rattle.merc_check.proofs.Growing.{grows_on}
use Rattle.merc_check.proofs.TextLaws.{no_items-refused, no_module-refused, module-apart, module-refused, module-accepted}
use Rattle.merc_check.proofs.texts.check.Goals as goal

pub returns-in_err-items-clause-refused : goal.returns-in_err-items-clause-refused
returns-in_err-items-clause-refused c =
    let p = err_from_is_err_and c.from_residual.result c.from_residual.ensures.1 in
    rw (p.1, p.2) (no_items-refused c.args.names.now c.args.text.now c.bytes.result.now c.bytes.ensures c.in_err-items.field-0.0 c.in_err-items.ensures.refused)

pub module_of_items-requires : goal.module_of_items-requires
module_of_items-requires c = reads-rises c.args.names.now c.read_text.new.names c.bytes.result.now c.in_ok-items.items c.in_ok-items.ensures.found

pub returns-in-Err-clause-refused : goal.returns-in-Err-clause-refused
returns-in-Err-clause-refused c =
    no_module-refused c.args.names.now c.args.text.now c.bytes.result.now c.bytes.ensures c.read_text.new.names c.in_ok-items.items c.in_ok-items.ensures.found
    c.in-Err.fault c.in-Err.ensures.refused

pub returns-in-Err-clause-grows : goal.returns-in-Err-clause-grows
returns-in-Err-clause-grows c = grows_on c.args.names.now c.read_text.new.names c.module_of_items.new.names c.read_text.ensures.grows c.module_of_items.ensures.grows

pub trees_of-requires : goal.trees_of-requires
trees_of-requires c =
    module-apart c.args.names.now c.args.text.now c.bytes.result.now c.bytes.ensures c.read_text.new.names c.in_ok-items.items c.in_ok-items.ensures.found
    c.module_of_items.new.names c.in-Ok.module c.in-Ok.module c.in-Ok.ensures.found refl c.requires.fixed c.requires.distinct

pub returns-in-Err-trees_of-clause-refused : goal.returns-in-Err-trees_of-clause-refused
returns-in-Err-trees_of-clause-refused c =
    module-refused c.args.names.now c.args.text.now c.bytes.result.now c.bytes.ensures c.read_text.new.names c.in_ok-items.items c.in_ok-items.ensures.found
    c.module_of_items.new.names c.in-Ok.module c.in-Ok.module c.in-Ok.ensures.found refl c.in-Err-trees_of.fault c.in-Err-trees_of.ensures.refused

pub returns-in-Err-trees_of-clause-grows : goal.returns-in-Err-trees_of-clause-grows
returns-in-Err-trees_of-clause-grows c = grows_on c.args.names.now c.read_text.new.names c.module_of_items.new.names c.read_text.ensures.grows c.module_of_items.ensures.grows

pub invariant_of-result : goal.invariant_of-result
invariant_of-result c =
    module-apart c.args.names.now c.args.text.now c.bytes.result.now c.bytes.ensures c.read_text.new.names c.in_ok-items.items c.in_ok-items.ensures.found
    c.module_of_items.new.names c.in-Ok.module c.in-Ok.module c.in-Ok.ensures.found refl c.requires.fixed c.requires.distinct

pub returns-in-Ok-trees_of-clause-accepted : goal.returns-in-Ok-trees_of-clause-accepted
returns-in-Ok-trees_of-clause-accepted c =
    module-accepted c.args.names.now c.args.text.now c.bytes.result.now c.bytes.ensures c.read_text.new.names c.in_ok-items.items c.in_ok-items.ensures.found
    c.module_of_items.new.names c.in-Ok.module c.in-Ok.module c.in-Ok.ensures.found refl c.in-Ok-trees_of.ensures.accepted

pub returns-in-Ok-trees_of-clause-grows : goal.returns-in-Ok-trees_of-clause-grows
returns-in-Ok-trees_of-clause-grows c = grows_on c.args.names.now c.read_text.new.names c.module_of_items.new.names c.read_text.ensures.grows c.module_of_items.ensures.grows
