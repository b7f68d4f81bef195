use Rattle.std.proofs.Common.{ap, sym, ◌∙◌}
use Rattle.merc_flat.specs.UnknownNames.{stacked}
use Rattle.merc_flat.proofs.UnknownLaws.{stacked-push}
use Rattle.merc_flat.proofs.unknown.push_arguments.Goals as goal

pub loop-last-preserved : goal.loop-last-preserved
loop-last-preserved c =
    ap (λ l. stacked l c.take_last.new.self) c.in_ok-push.ensures.items
    ∙ stacked-push c.loop-last.stack.items c.take_last.new.self c.in-Some.last
    ∙ ap (stacked c.loop-last.stack.items) (sym c.in-Some.ensures)
    ∙ c.loop-last.invariant
