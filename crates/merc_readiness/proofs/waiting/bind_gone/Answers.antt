use Rattle.std.proofs.Common.{◌≡◌, ◌<◌, ◌+◌, ◌∙◌, suc, [], length, ap, sym, drop, subst, arith}
use Rattle.std.proofs.lemmas.List.{drop_all}
use Rattle.merc_goal_tree.specs.Nodes.{nodes_of}
use Rattle.merc_goal_tree.specs.Parts.{parts_of}
use Rattle.merc_order.specs.Bound.{among, with}
use Rattle.merc_readiness.specs.Sweeps.{marked_bind, IsPlaced, ArePlaced, BindsFrom, listed_if_left}
use Rattle.merc_readiness.specs.declared.waiting.Waiting.{Waiting}
use Rattle.merc_readiness.proofs.Asks.{rest_nodes, rest_length}
use Rattle.merc_readiness.proofs.Binding.{extends_same, extends_on, bound_at_first, bound_at_last}
use Rattle.merc_readiness.proofs.Listed.{all_parts_cut, placed_if_left}
use Rattle.merc_readiness.proofs.waiting.bind_gone.Goals.{then-not-branch+in_ok-push, else-not-branch}
use Rattle.merc_readiness.proofs.waiting.bind_gone.Goals as goal

pub bind_if_gone-requires-clause-known : goal.bind_if_gone-requires-clause-known
bind_if_gone-requires-clause-known c =
    let room : c.loop-index.index < length c.args.goals.now = omega (arith, c.loop-index-test.true) in
    let parts = rest_length c.args.goals.now c.loop-index.index c.index-goals-index.result room c.index-goals-index.is in
    omega (arith, parts, c.loop-index.invariant.at_is, c.requires.known)

pub bind_if_gone-requires-clause-marked : goal.bind_if_gone-requires-clause-marked
bind_if_gone-requires-clause-marked c =
    let room : c.loop-index.index < length c.args.goals.now = omega (arith, c.loop-index-test.true) in
    let parts = rest_length c.args.goals.now c.loop-index.index c.index-goals-index.result room c.index-goals-index.is in
    omega (arith, parts, c.loop-index.invariant.at_is, c.requires.marked)

pub loop-index-init : goal.loop-index-init
loop-index-init c = record {
  at_is = omega arith;
  placed = subst (λ l. ArePlaced c.args.goals.now l) (sym c.new-left.ensures.items) tt;
  extends = extends_same c.args.bound.now;
  binds = λ total modes target whole first.
      subst (λ l. BindsFrom total modes (nodes_of c.args.goals.now) c.args.facts.now c.args.marks.now 0 (among c.args.bound.now) target whole 0 l) (sym c.new-left.ensures.items) first;
}

pub returns-clause-extends : goal.returns-clause-extends
returns-clause-extends c = c.loop-index.invariant.extends

pub returns-clause-placed : goal.returns-clause-placed
returns-clause-placed c = c.loop-index.invariant.placed

pub returns-clause-binds : goal.returns-clause-binds
returns-clause-binds c = λ total modes marked fits same known.
    let target = with (among c.args.bound.now) (marked_bind total modes (nodes_of c.args.goals.now) marked) in
    let first = bound_at_first total modes (nodes_of c.args.goals.now) c.args.facts.now marked c.args.marks.now (among c.args.bound.now) fits same known in
    let last = c.loop-index.invariant.binds total modes target marked first in
    let none_left : drop c.loop-index.index c.args.goals.now ≡ [] = drop_all c.loop-index.index c.args.goals.now (omega arith) in
    bound_at_last total modes c.args.facts.now c.args.marks.now c.loop-index.at (among c.loop-index.bound) target marked c.loop-index.index c.loop-index.left.items
    (subst (λ l. BindsFrom total modes (nodes_of l) c.args.facts.now c.args.marks.now c.loop-index.at (among c.loop-index.bound) target marked c.loop-index.index c.loop-index.left.items) none_left last)

pub loop-index-preserved : goal.loop-index-preserved
loop-index-preserved c =
    let goals = c.args.goals.now in
    let index = c.loop-index.index in
    let room : index < length goals = omega (arith, c.loop-index-test.true) in
    let cut = rest_nodes goals index c.index-goals-index.result room c.index-goals-index.is in
    let here : Waiting = record { index = index; at = c.loop-index.at } in
    let placed : IsPlaced goals here = (room, omega (arith, c.loop-index.invariant.at_is, all_parts_cut goals index)) in
    let one = c.in_ok-bind_if_gone.ensures in
    let long = c.part_count.ensures in
    let listed : c.if-not-branch.left.items ≡ listed_if_left c.in_ok-bind_if_gone.field-0 here c.loop-index.left.items = elim c.if-not-branch.branch [
      | then-not-branch+in_ok-push w ↦
          ap (λ v. v.items) w.left-is ∙ w.in_ok-push.ensures.items ∙ sym (ap (λ b. listed_if_left b here c.loop-index.left.items) w.if-not-branch.true)
      | else-not-branch w ↦ ap (λ v. v.items) w.left-is ∙ sym (ap (λ b. listed_if_left b here c.loop-index.left.items) w.if-not-branch.false)
    ] in
    record {
      at_is = let parts = rest_length goals index c.index-goals-index.result room c.index-goals-index.is in omega (arith, parts, c.loop-index.invariant.at_is, long);
      placed = subst (λ l. ArePlaced goals l) (sym listed) (placed_if_left goals c.in_ok-bind_if_gone.field-0 here c.loop-index.left.items placed c.loop-index.invariant.placed);
      extends = extends_on c.args.bound.now c.loop-index.bound c.bind_if_gone.new.bound c.loop-index.invariant.extends one.extends;
      binds = λ total modes target whole first.
          let rest = nodes_of (drop (index + 1) goals) in
          let next = one.binds total modes rest target whole index c.loop-index.left.items
          (subst (λ n. BindsFrom total modes n c.args.facts.now c.args.marks.now c.loop-index.at (among c.loop-index.bound) target whole index c.loop-index.left.items) cut
          (c.loop-index.invariant.binds total modes target whole first)) in
          let further : suc index ≡ index + 1 = omega arith in
          subst (λ n. BindsFrom total modes rest c.args.facts.now c.args.marks.now (c.loop-index.at + n) (among c.bind_if_gone.new.bound) target whole (index + 1) c.if-not-branch.left.items) (sym long)
          (subst (λ l. BindsFrom total modes rest c.args.facts.now c.args.marks.now (c.loop-index.at + length (parts_of c.index-goals-index.result)) (among c.bind_if_gone.new.bound) target whole (index + 1) l) (sym listed)
          (subst (λ n. BindsFrom total modes rest c.args.facts.now c.args.marks.now (c.loop-index.at + length (parts_of c.index-goals-index.result)) (among c.bind_if_gone.new.bound) target whole n
          (listed_if_left c.in_ok-bind_if_gone.field-0 here c.loop-index.left.items)) further next));
    }
