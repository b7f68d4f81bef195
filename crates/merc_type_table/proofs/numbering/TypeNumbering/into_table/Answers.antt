use Rattle.std.proofs.Common.{◌∙◌, ap, map}
use Rattle.merc_type_table.specs.Table.{is_closed, types_made}
use Rattle.merc_type_table.proofs.Distinct.{is_table}
use Rattle.merc_type_table.proofs.numbering.TypeNumbering.into_table.Goals as goal

pub invariant_of-result : goal.invariant_of-result
invariant_of-result c =
    is_table c.args.self c.in_ok-closed.closed.items c.requires
    (c.in_ok-closed.ensures ∙ ap (λ l. map is_closed (types_made l)) c.deref.ensures.value)
