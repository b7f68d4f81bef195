use Rattle.std.proofs.Common.{ap, ◌∙◌}
use Rattle.merc_goals.specs.Faults.{earlier, first_span}
use Rattle.merc_flat.specs.UnknownNames.{unknown_on}
use Rattle.merc_flat.proofs.UnknownLaws.{walk_size, walk_step}
use Rattle.merc_flat.proofs.unknown.first_on.Goals as goal

pub loop-term-smaller : goal.loop-term-smaller
loop-term-smaller c =
    walk_size c.args.known.now c.loop-term.stack.items c.pop.new.self.items c.push_arguments.new.stack.items c.in-Some.term c.in-Some.ensures.items c.in_ok-push_arguments.ensures

pub loop-term-preserved : goal.loop-term-preserved
loop-term-preserved c =
    ap (λ f. earlier f (first_span (unknown_on c.args.known.now c.push_arguments.new.stack.items))) (c.earlier-first.ensures ∙ ap (earlier c.loop-term.first) c.own_span.ensures)
    ∙ walk_step c.args.known.now c.loop-term.stack.items c.pop.new.self.items c.push_arguments.new.stack.items c.in-Some.term c.in-Some.ensures.items c.in_ok-push_arguments.ensures
    c.loop-term.first _ c.loop-term.invariant
