use Rattle.std.proofs.Common.{ap, ◌∙◌}
use Rattle.std.proofs.lemmas.Result.{IfOk-weaker}
use Rattle.merc_tree.specs.Shape.{arguments_of}
use Rattle.merc_goals.specs.Faults.{first_span}
use Rattle.merc_flat.specs.UnknownNames.{stacked}
use Rattle.merc_flat.proofs.UnknownLaws.{walk_arguments}
use Rattle.merc_flat.proofs.unknown.first_in_arguments.Goals as goal

pub returns : goal.returns
returns c =
    let pushed = c.in_ok-push_arguments.ensures ∙ ap (λ l. stacked l (arguments_of c.args.term.now)) c.new-stack.ensures.items in
    IfOk-weaker c.first_on.result _ _
    (λ first is. is ∙ ap first_span (walk_arguments c.args.known.now c.push_arguments.new.stack.items c.args.term.now pushed))
    c.first_on.ensures
