use Rattle.std.proofs.lemmas.Result.{IfErr-weaker, IfOk-weaker, err_from_is_err_and}
use Rattle.merc_entries.specs.EntryValue.{entry_values}
use Rattle.merc_items.proofs.FirstFaults.{forms_refused, doubles_refused, types_refused, modes_refused, clauses_refused, no_fault}
use Rattle.merc_items.proofs.phases.check_items.Goals as goal

pub returns-in_err-check_forms-clause-refused : goal.returns-in_err-check_forms-clause-refused
returns-in_err-check_forms-clause-refused c =
    let p = err_from_is_err_and c.from_residual.result c.from_residual.ensures.1 in
    rw (p.1, p.2) (forms_refused c.args.names.now c.args.terms.now (entry_values c.args.entries.now) c.in_err-check_forms.field-0.0 c.in_err-check_forms.ensures.refused)

pub returns-in_err-check_doubles-clause-refused : goal.returns-in_err-check_doubles-clause-refused
returns-in_err-check_doubles-clause-refused c =
    let p = err_from_is_err_and c.from_residual-in_err-check_doubles.result c.from_residual-in_err-check_doubles.ensures.1 in
    rw (p.1, p.2)
    (doubles_refused c.args.names.now c.args.terms.now (entry_values c.args.entries.now) c.in_ok-check_forms.ensures.fine c.in_err-check_doubles.field-0.0 c.in_err-check_doubles.ensures.refused)

pub returns-in_err-check_types-clause-refused : goal.returns-in_err-check_types-clause-refused
returns-in_err-check_types-clause-refused c =
    let p = err_from_is_err_and c.from_residual-in_err-check_types.result c.from_residual-in_err-check_types.ensures.1 in
    rw (p.1, p.2)
    (types_refused c.args.names.now c.args.terms.now (entry_values c.args.entries.now) c.in_ok-check_forms.ensures.fine c.in_ok-check_doubles.ensures.fine c.in_err-check_types.field-0.0
    (rw c.own_name-own.ensures at c.in_err-check_types.ensures.refused))

pub returns-in_err-check_modes-clause-refused : goal.returns-in_err-check_modes-clause-refused
returns-in_err-check_modes-clause-refused c =
    let p = err_from_is_err_and c.from_residual-in_err-check_modes.result c.from_residual-in_err-check_modes.ensures.1 in
    rw (p.1, p.2)
    (modes_refused c.args.names.now c.args.terms.now (entry_values c.args.entries.now) c.in_ok-check_forms.ensures.fine c.in_ok-check_doubles.ensures.fine
    (rw c.own_name-own.ensures at c.in_ok-check_types.ensures.fine) c.in_err-check_modes.field-0.0 c.in_err-check_modes.ensures.refused)

pub returns-clause-refused : goal.returns-clause-refused
returns-clause-refused c =
    IfErr-weaker c.check_clauses.result _ _
    (λ fault least. clauses_refused c.args.names.now c.args.terms.now (entry_values c.args.entries.now) c.in_ok-check_forms.ensures.fine c.in_ok-check_doubles.ensures.fine
    (rw c.own_name-own.ensures at c.in_ok-check_types.ensures.fine) c.in_ok-check_modes.ensures.fine fault least)
    (rw c.own_name-own.ensures at c.check_clauses.ensures.refused)

pub returns-clause-fine : goal.returns-clause-fine
returns-clause-fine c =
    IfOk-weaker c.check_clauses.result _ _
    (λ _ clauses. no_fault c.args.names.now c.args.terms.now (entry_values c.args.entries.now) c.in_ok-check_forms.ensures.fine c.in_ok-check_doubles.ensures.fine
    (rw c.own_name-own.ensures at c.in_ok-check_types.ensures.fine) c.in_ok-check_modes.ensures.fine clauses)
    (rw c.own_name-own.ensures at c.check_clauses.ensures.fine)
