use Rattle.std.proofs.Common.{◌∙◌, ap, [], ◌∷◌}
use Rattle.std.specs.Prelude.{Some}
use Rattle.merc_script.specs.Cells.{value_shown}
use Rattle.merc_tests.proofs.HandingOver.{lies-so}
use Rattle.merc_tests.proofs.executing.handing_over.Goals as goal

pub returns-in-Some : goal.returns-in-Some
returns-in-Some c =
    lies-so c.in-Some.script c.in_ok-items.items.items c.new-cell.result c.from_vec.result c.new-2.result (value_shown (Some c.in_ok-seven.field-0)) c.in-Some.ensures c.in_ok-items.ensures.items
    (c.from_vec.ensures ∙ c.in_ok-cells.ensures.items ∙ ap (λ cell. cell ∷ []) c.new.ensures) c.new-2.ensures c.new-cell.ensures c.in_ok-seven.ensures
