use Rattle.std.proofs.Common.{ap, sym, ◌∙◌}
use Rattle.std.proofs.lemmas.Result.{IfOk-weaker}
use Rattle.merc_goals.specs.Faults.{first_span}
use Rattle.merc_flat.specs.GoalFaults.{unknown_in}
use Rattle.merc_flat.specs.UnknownNames.{unknown_at}
use Rattle.merc_flat.proofs.UnknownLaws.{first_span-append}
use Rattle.merc_flat.proofs.unknown.first_at.Goals as goal

pub returns-in-Equal : goal.returns-in-Equal
returns-in-Equal c =
    rw (← c.entry.view_is)
    (IfOk-weaker c.first_of_sides.result _ _
    (λ first is. is
    ∙ sym (first_span-append (unknown_in c.args.known.now c.in-Equal.left) (unknown_in c.args.known.now c.in-Equal.right))
    ∙ ap (λ form. first_span (unknown_at c.args.known.now form c.entry.inside.span)) (sym c.in-Equal.is))
    c.first_of_sides.ensures)

pub returns-in-Compared : goal.returns-in-Compared
returns-in-Compared c =
    rw (← c.entry.view_is)
    (IfOk-weaker c.first_of_sides-in-Compared.result _ _
    (λ first is. is
    ∙ sym (first_span-append (unknown_in c.args.known.now c.in-Compared.left) (unknown_in c.args.known.now c.in-Compared.right))
    ∙ ap (λ form. first_span (unknown_at c.args.known.now form c.entry.inside.span)) (sym c.in-Compared.is))
    c.first_of_sides-in-Compared.ensures)
