use Rattle.std.proofs.Common.{◌≡◌, ◌≤◌, ◌<◌, ◌+◌, ◌∷◌, ℕ, List, ◌-◌, ◌∙◌, ◌&&◌, [], Some, true, false, drop, if◌then◌else◌, length, ap, sym, subst, arith}
use Rattle.std.proofs.lemmas.List.{drop_all, length-append, length-take-le}
use Rattle.std.specs.List.{slice_index_or}
use Rattle.merc_goal_tree.specs.Nodes.{Node, nodes_of}
use Rattle.merc_goal_tree.specs.Parts.{parts_of, all_parts}
use Rattle.merc_order.specs.Bound.{among, with}
use Rattle.merc_order.specs.Marks.{move_of}
use Rattle.merc_order.specs.Moves.{needed}
use Rattle.merc_order.specs.Order.{binds, from, moves}
use Rattle.merc_order.specs.Ordered.{is_ready}
use Rattle.merc_order.specs.Procedures.{modes_of}
use Rattle.merc_goal_facts.specs.Facts.{all_subgoals}
use Rattle.merc_readiness.specs.Sweeps.{AreKnownFrom}
use Rattle.merc_goal_order.proofs.Positions.{next_item, some_parts}
use Rattle.merc_goal_order.proofs.Beside.{facts_behind, facts_next, facts_of_first, needs_later}
use Rattle.merc_goal_order.proofs.Freeing.{still_stuck}
use Rattle.merc_goal_order.proofs.parallel.first_freeing.Goals as goal
use Rattle.merc_goal_order.proofs.parallel.first_freeing.Goals.{else-can_free-via-then-can_free+in_ok-is_freed_by+else-branch, else-can_free-via-else-can_free}

-- the next goal's parts, and what lies behind them
module _ (goals : List Node) (index : ℕ) (goal : Node) (at count size : ℕ) (room : index < length goals) (is : goal ≡ slice_index_or goals index goal) (counts : count ≡ length (parts_of goal))
    (lies : at + length (all_parts (nodes_of (drop index goals))) ≡ size) where
  lies_next : at + length (all_parts (nodes_of (goal ∷ drop (index + 1) goals))) ≡ size
  lies_next = subst (λ l. at + length (all_parts (nodes_of l)) ≡ size) (next_item goals index goal room is) lies

  ends_within : at + count ≤ size
  ends_within = omega (arith, counts, lies_next, length-append (parts_of goal) (all_parts (nodes_of (drop (index + 1) goals))))

  lies_behind : at + count + length (all_parts (nodes_of (drop (index + 1) goals))) ≡ size
  lies_behind = omega (arith, counts, lies_next, length-append (parts_of goal) (all_parts (nodes_of (drop (index + 1) goals))))

pub is_ready-requires-clause-known : goal.is_ready-requires-clause-known
is_ready-requires-clause-known c = length-take-le c.part_count-own.result c.args.waiting.now.facts.now (omega (arith, c.requires.known, c.part_count-own.ensures)) ∙ c.part_count-own.ensures

pub is_ready-requires-clause-marked : goal.is_ready-requires-clause-marked
is_ready-requires-clause-marked c = length-take-le c.part_count-own.result c.args.marks.now (omega (arith, c.requires.marked, c.part_count-own.ensures)) ∙ c.part_count-own.ensures

pub loop-index-init : goal.loop-index-init
loop-index-init c = record {
  first = omega (arith, c.part_count-own.ensures);
  at_is = ap (λ n. n + length (all_parts (nodes_of c.args.waiting.now.others.now))) c.part_count-own.ensures;
  same = c.in_ok-ready.ensures.same;
  needs = λ total known.
      let modes = modes_of c.args.setting.now.predicates.now in
      let number : c.args.waiting.now.number + 1 ≡ c.args.waiting.now.number + 1 + 0 = omega arith in (
        facts_behind total modes c.args.waiting.now.goal.now (nodes_of c.args.waiting.now.others.now) c.args.waiting.now.facts.now c.part_count-own.result known c.part_count-own.ensures,
        ap (λ n. needed n (move_of total modes c.args.waiting.now.goal.now) (moves total modes (nodes_of c.args.waiting.now.others.now)) (among c.args.bound.now)) number,
      );
}

pub loop-index-preserved : goal.loop-index-preserved
loop-index-preserved c =
    let later = c.index-others-index.result in
    let rest = drop (c.loop-index.index + 1) c.args.waiting.now.others.now in
    let next = next_item c.args.waiting.now.others.now c.loop-index.index later c.loop-index-test.true c.index-others-index.is in
    record {
      first = omega (arith, c.loop-index.invariant.first);
      at_is = lies_behind c.args.waiting.now.others.now c.loop-index.index later c.loop-index.at c.part_count.result (length (parts_of c.args.waiting.now.goal.now) + length (all_parts (nodes_of c.args.waiting.now.others.now))) c.loop-index-test.true
          c.index-others-index.is c.part_count.ensures c.loop-index.invariant.at_is;
      same = elim c.else-can_free.branch [
        | else-can_free-via-then-can_free+in_ok-is_freed_by+else-branch w ↦ w.bound-is ∙ w.in_ok-is_freed_by.ensures.same ∙ c.loop-index.invariant.same
        | else-can_free-via-else-can_free w ↦ w.bound-is ∙ c.loop-index.invariant.same
      ];
      needs = λ total known.
          let modes = modes_of c.args.setting.now.predicates.now in
          let goal = c.args.waiting.now.goal.now in
          let start = among c.args.bound.now in
          let number = c.args.waiting.now.number + 1 + c.loop-index.index in
          let all = subst (λ l. AreKnownFrom total modes (all_subgoals (nodes_of l)) c.args.waiting.now.facts.now c.loop-index.at
          × (needed (c.args.waiting.now.number + 1) (move_of total modes goal) (moves total modes (nodes_of c.args.waiting.now.others.now)) start ≡ needed number (move_of total modes goal) (moves total modes (nodes_of l)) start)) next
          (c.loop-index.invariant.needs total known) in
          let one = some_parts later c.part_count.result c.part_count.ensures in
          let first = facts_of_first total modes goal (nodes_of c.args.waiting.now.others.now) c.args.waiting.now.facts.now c.part_count-own.result known c.part_count-own.ensures in
          let freed : (is_ready (from total modes later start) && is_ready (from total modes goal (with start (binds total modes later)))) ≡ false =
          elim c.else-can_free.branch [
            | else-can_free-via-then-can_free+in_ok-is_freed_by+else-branch w ↦
                ap (λ b. is_ready (from total modes later (among b)) && is_ready (from total modes goal (with (among b) (binds total modes later)))) (sym c.loop-index.invariant.same)
                ∙ w.in_ok-is_freed_by.ensures.frees total (nodes_of c.args.waiting.now.others.now) (nodes_of rest) known all.0 ∙ w.if-branch.false
            | else-can_free-via-else-can_free w ↦
                still_stuck total modes goal later (nodes_of rest) c.args.waiting.now.facts.now c.loop-index.at (c.loop-index.at + c.part_count.result - 1) c.index-facts-end.result c.args.inside.now c.args.bound.now c.loop-index.bound
                c.in_ok-ready.ready c.can_free.result all.0 (omega (arith, one, c.part_count.ensures)) c.index-facts-end.is c.requires.occurs c.loop-index.invariant.same (c.in_ok-ready.ensures.tells total first)
                c.can_free.ensures w.if-can_free.false
          ] in (
            facts_next total modes later (nodes_of rest) c.args.waiting.now.facts.now c.loop-index.at (c.loop-index.at + c.part_count.result) all.0 (ap (λ n. c.loop-index.at + n) c.part_count.ensures),
            all.1 ∙ needs_later total modes goal later (nodes_of rest) start number (c.args.waiting.now.number + 1 + (c.loop-index.index + 1)) freed (omega arith),
          );
    }

pub overflow_sub-end : goal.overflow_sub-end
overflow_sub-end c = omega (arith, some_parts c.index-others-index.result c.part_count.result c.part_count.ensures)

pub bounds-facts-end : goal.bounds-facts-end
bounds-facts-end c =
    let within = ends_within c.args.waiting.now.others.now c.loop-index.index c.index-others-index.result c.loop-index.at c.part_count.result (length c.args.waiting.now.facts.now) c.loop-index-test.true c.index-others-index.is
    c.part_count.ensures (c.loop-index.invariant.at_is ∙ sym c.requires.known) in
    omega (arith, within, some_parts c.index-others-index.result c.part_count.result c.part_count.ensures)

pub is_freed_by-requires-clause-first : goal.is_freed_by-requires-clause-first
is_freed_by-requires-clause-first c = c.loop-index.invariant.first

pub is_freed_by-requires-clause-known : goal.is_freed_by-requires-clause-known
is_freed_by-requires-clause-known c =
    let within = ends_within c.args.waiting.now.others.now c.loop-index.index c.index-others-index.result c.loop-index.at c.part_count.result (length c.args.waiting.now.facts.now) c.loop-index-test.true c.index-others-index.is
    c.part_count.ensures (c.loop-index.invariant.at_is ∙ sym c.requires.known) in
    omega (arith, within, c.part_count.ensures)

pub is_freed_by-requires-clause-marked : goal.is_freed_by-requires-clause-marked
is_freed_by-requires-clause-marked c =
    let within = ends_within c.args.waiting.now.others.now c.loop-index.index c.index-others-index.result c.loop-index.at c.part_count.result (length c.args.waiting.now.facts.now) c.loop-index-test.true c.index-others-index.is
    c.part_count.ensures (c.loop-index.invariant.at_is ∙ sym c.requires.known) in
    omega (arith, within, c.part_count.ensures, c.requires.known, c.requires.marked, c.loop-index.auto.marks)

pub overflow_add-result : goal.overflow_add-result
overflow_add-result c = omega (arith, c.requires.fits, c.loop-index-test.true)

pub overflow_add-result-then-branch : goal.overflow_add-result-then-branch
overflow_add-result-then-branch c = omega (arith, c.requires.fits, c.loop-index-test.true)

pub returns-then-branch-clause-needs : goal.returns-then-branch-clause-needs
returns-then-branch-clause-needs c = λ total known.
    let modes = modes_of c.args.setting.now.predicates.now in
    let goal = c.args.waiting.now.goal.now in
    let later = c.index-others-index.result in
    let rest = drop (c.loop-index.index + 1) c.args.waiting.now.others.now in
    let start = among c.args.bound.now in
    let number = c.args.waiting.now.number + 1 + c.loop-index.index in
    let next = next_item c.args.waiting.now.others.now c.loop-index.index later c.loop-index-test.true c.index-others-index.is in
    let all = subst (λ l. AreKnownFrom total modes (all_subgoals (nodes_of l)) c.args.waiting.now.facts.now c.loop-index.at
    × (needed (c.args.waiting.now.number + 1) (move_of total modes goal) (moves total modes (nodes_of c.args.waiting.now.others.now)) start ≡ needed number (move_of total modes goal) (moves total modes (nodes_of l)) start)) next
    (c.loop-index.invariant.needs total known) in
    let freed : (is_ready (from total modes later start) && is_ready (from total modes goal (with start (binds total modes later)))) ≡ true =
    ap (λ b. is_ready (from total modes later (among b)) && is_ready (from total modes goal (with (among b) (binds total modes later)))) (sym c.loop-index.invariant.same)
    ∙ c.in_ok-is_freed_by.ensures.frees total (nodes_of c.args.waiting.now.others.now) (nodes_of rest) known all.0 ∙ c.if-branch.true in
    all.1 ∙ ap (λ b. if b then Some number else needed (number + 1) (move_of total modes goal) (moves total modes (nodes_of rest)) start) freed

pub returns-clause-same : goal.returns-clause-same
returns-clause-same c = c.loop-index.invariant.same

pub returns-clause-needs : goal.returns-clause-needs
returns-clause-needs c = λ total known.
    let modes = modes_of c.args.setting.now.predicates.now in
    let number = c.args.waiting.now.number + 1 + c.loop-index.index in
    let none : drop c.loop-index.index c.args.waiting.now.others.now ≡ [] = drop_all c.loop-index.index c.args.waiting.now.others.now (omega arith) in
    (c.loop-index.invariant.needs total known).1 ∙ ap (λ l. needed number (move_of total modes c.args.waiting.now.goal.now) (moves total modes (nodes_of l)) (among c.args.bound.now)) none
