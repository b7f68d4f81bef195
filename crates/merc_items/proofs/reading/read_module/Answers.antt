use Rattle.std.proofs.lemmas.Result.{IfOk-weaker, IfErr-weaker, err_from_is_err_and}
use Rattle.merc_items.proofs.ReadingLaws.{reads-rises, text-refused, items_of-refused, grows_twice}
use Rattle.merc_items.proofs.reading.read_module.Goals as goal

pub module_of_items-found-requires : goal.module_of_items-found-requires
module_of_items-found-requires c = reads-rises c.args.names.now c.read_text.new.names c.bytes.result.now c.in_ok-terms.terms c.in_ok-terms.ensures.found

pub returns-in_err-terms-clause-refused : goal.returns-in_err-terms-clause-refused
returns-in_err-terms-clause-refused c =
    let p = err_from_is_err_and c.from_residual.result c.from_residual.ensures.1 in
    rw (p.1, p.2) (text-refused c.args.names.now c.args.text.now c.in_err-terms.field-0.0 (rw c.bytes.ensures at c.in_err-terms.ensures.refused))

pub returns-clause-found : goal.returns-clause-found
returns-clause-found c =
    IfOk-weaker c.module_of_items-found.result _ _
    (λ found is. (c.in_ok-terms.terms, record { read_names = c.read_text.new.names; reads = rw c.bytes.ensures at c.in_ok-terms.ensures.found; is = is }))
    c.module_of_items-found.ensures.found

pub returns-clause-refused : goal.returns-clause-refused
returns-clause-refused c =
    IfErr-weaker c.module_of_items-found.result _ _
    (λ fault refuses. items_of-refused c.args.names.now c.read_text.new.names c.args.text.now c.in_ok-terms.terms fault (rw c.bytes.ensures at c.in_ok-terms.ensures.found) refuses)
    c.module_of_items-found.ensures.refused

pub returns-clause-grows : goal.returns-clause-grows
returns-clause-grows c =
    let read = c.in_ok-terms.ensures.grows in
    let units = c.module_of_items-found.ensures.grows in
    grows_twice c.args.names.now c.read_text.new.names c.module_of_items-found.new.names read.0 units.0 read.1 units.1
