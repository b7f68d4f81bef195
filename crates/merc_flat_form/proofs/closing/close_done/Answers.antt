use Rattle.std.proofs.Common.{List, length, drop, ap, sym, subst, ◌∙◌}
use Rattle.merc_goal_tree.specs.Nodes.{Node}
use Rattle.merc_flat_form.specs.Frames.{AreComing, AreFilled, finished}
use Rattle.merc_flat_form.specs.declared.frames.Frame.{Frame}
use Rattle.merc_flat_form.proofs.FrameLaws.{coming_closed, enough_closed, filled_closed, finished_closed}
use Rattle.merc_flat_form.proofs.closing.close_done.Goals as goal

pub close-requires : goal.close-requires
close-requires c =
    let P : List Frame → Type 0 = λ l. AreFilled l (length c.loop-frame.nodes) in
    enough_closed c.in-Some.frame c.take_done.new.self (length c.loop-frame.nodes) c.in-Some.ensures.1 (subst P c.in-Some.ensures.0 c.loop-frame.invariant.filled)

pub loop-frame-preserved : goal.loop-frame-preserved
loop-frame-preserved c =
    let frame = c.in-Some.frame in
    let below = c.take_done.new.self in
    let here = c.in-Some.ensures.0 in
    let done = c.in-Some.ensures.1 in
    let P : List Frame → Type 0 = λ l. AreFilled l (length c.loop-frame.nodes) in
    let Q : List Node → Type 0 = λ l. AreFilled below (length l) in
    record {
      filled = subst Q (sym c.in_ok-close.ensures) (filled_closed frame below c.loop-frame.nodes done (subst P here c.loop-frame.invariant.filled));
      coming = λ coming before.
          let R : List Frame → Type 0 = λ l. AreComing l coming in
          coming_closed frame below coming done (subst R here (c.loop-frame.invariant.coming coming before));
      finished = λ blank callee coming.
          ap (λ l. finished blank callee below coming l c.close.new.nodes) c.leave.ensures
          ∙ ap (finished blank callee below coming (drop 1 c.loop-frame.stack)) c.in_ok-close.ensures
          ∙ finished_closed blank callee frame below coming c.loop-frame.stack c.loop-frame.nodes done
          ∙ ap (λ l. finished blank callee l coming c.loop-frame.stack c.loop-frame.nodes) (sym here)
          ∙ c.loop-frame.invariant.finished blank callee coming;
    }
