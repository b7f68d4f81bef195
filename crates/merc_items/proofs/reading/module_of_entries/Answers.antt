use Rattle.std.proofs.lemmas.Result.{err_from_is_err_and}
use Rattle.merc_items.proofs.reading.module_of_entries.Goals as goal

pub returns-in_err-check_items-clause-refused : goal.returns-in_err-check_items-clause-refused
returns-in_err-check_items-clause-refused c =
    let p = err_from_is_err_and c.from_residual.result c.from_residual.ensures.1 in
    rw (p.1, p.2) c.in_err-check_items.ensures.refused
