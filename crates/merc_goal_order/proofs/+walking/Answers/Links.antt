-- The answers on chains of if-then-elses: those of the functions of `links` that take part in the walk.
use Rattle.std.proofs.Common.{◌≡◌, ◌+◌, ◌-◌, ◌≤◌, ◌∙◌, suc, true, false, [], Ok, Err, drop, length, length-append, reverse, ap, sym, subst, refl, arith}
use Rattle.std.proofs.lemmas.List.{take_rest, length-drop, length-take-le}
use Rattle.std.proofs.lemmas.Result.{err_from_is_err_and}
use Rattle.merc_base.specs.declared.refusal.Fault.TheVariants.{Refused}
use Rattle.merc_goal_tree.specs.Nodes.{span_of}
use Rattle.merc_goal_tree.specs.Parts.{parts_of}
use Rattle.merc_goal_tree.specs.Variables.{variables}
use Rattle.merc_order.specs.Bound.{among, are_bound, with}
use Rattle.merc_order.specs.Faults.{binds_outer}
use Rattle.merc_order.specs.Order.{binds, from}
use Rattle.merc_order.specs.Procedures.{modes_of}
use Rattle.merc_goal_facts.specs.Facts.{AreKnown, subgoals}
use Rattle.merc_goal_facts.specs.Bounds.{all_behind}
use Rattle.merc_simple_goals.specs.Writing.{Gives}
use Rattle.merc_readiness.specs.Sweeps.{Extends}
use Rattle.merc_goal_order.proofs.Positions.{some_parts}
use Rattle.merc_goal_order.proofs.Stretches.{stretch_front}
use Rattle.merc_goal_order.specs.Linked.{Guarded, GuardGives, Within, Closing}
use Rattle.merc_readiness.proofs.Binding.{extends_all, bound_behind}
use Rattle.merc_readiness.proofs.Lengths.{front_length}
use Rattle.merc_goal_order.proofs.Chaining.{condition_known, condition_own, condition_err, condition_outer, then_known, then_own, then_stretch, then_err, place_behind_is, guarded_by, first_within, pushed, guard_known, own_known, guard_stretch, chain_err, rest_err, rest_ready, conditional_parts}
use Rattle.merc_goal_order.proofs.Wholes.{undone_is}
use Rattle.merc_goal_order.proofs.+walking.Goals as goal

pub links::walk_guard-walk-requires : goal.links::walk_guard-walk-requires
links::walk_guard-walk-requires t c =
    let size = length (parts_of c.args.guard.now.condition.now) in
    let more = length (parts_of c.args.guard.now.then_part.now) in (
      omega arith,
      (
        front_length c.args.guard.now.facts.now c.part_count-count.result size more c.requires.known c.part_count-count.ensures,
        (front_length c.args.marks.now c.part_count-count.result size more c.requires.marked c.part_count-count.ensures, c.requires.seen),
      ),
    )

pub links::walk_chain-walk_guard-requires : goal.links::walk_chain-walk_guard-requires
links::walk_chain-walk_guard-requires t c =
    let first = c.in-Conditional.condition in
    let second = c.in-Conditional.then_part in
    let third = c.in-Conditional.else_part in
    let rest = c.loop-condition.rest in
    let some = conditional_parts rest first second third (span_of rest) c.in-Conditional.ensures in
    let count = c.part_count.result + c.part_count-in-Conditional.result in
    let counts : count ≡ length (parts_of first) + length (parts_of second) = omega (arith, c.part_count.ensures, c.part_count-in-Conditional.ensures) in
    let few : length (parts_of first) + length (parts_of second) ≤ length c.loop-condition.known.now = omega (arith, some, c.loop-condition.invariant.known_is) in
    let small : length (parts_of first) + length (parts_of second) ≤ length c.loop-condition.marks = omega (arith, some, c.loop-condition.invariant.smaller, c.requires.marked, c.loop-condition.auto.marks) in (
      omega (arith, some, c.loop-condition.invariant.smaller),
      (
        length-take-le count c.loop-condition.known.now (omega (arith, few, counts)) ∙ counts,
        (length-take-le count c.loop-condition.marks (omega (arith, small, counts)) ∙ counts, c.loop-condition.invariant.cleared),
      ),
    )

pub links::walk_chain-overflow_sub-last : goal.links::walk_chain-overflow_sub-last
links::walk_chain-overflow_sub-last t c =
    let first = c.in-Conditional.condition in
    let second = c.in-Conditional.then_part in
    let third = c.in-Conditional.else_part in
    let rest = c.loop-condition.rest in
    let some = conditional_parts rest first second third (span_of rest) c.in-Conditional.ensures in
    omega (arith, some, c.loop-condition.invariant.known_is)

pub links::walk_chain-bounds-known-last : goal.links::walk_chain-bounds-known-last
links::walk_chain-bounds-known-last t c =
    let first = c.in-Conditional.condition in
    let second = c.in-Conditional.then_part in
    let third = c.in-Conditional.else_part in
    let rest = c.loop-condition.rest in
    let some = conditional_parts rest first second third (span_of rest) c.in-Conditional.ensures in
    omega (arith, some, c.loop-condition.invariant.known_is)

pub links::walk_chain-close_links-requires : goal.links::walk_chain-close_links-requires
links::walk_chain-close_links-requires t c = record {
  enough = omega (arith, c.loop-condition.invariant.more, c.in_ok-walk.ensures.adds.more);
  seen = c.in_ok-walk.ensures.adds.cleared;
}

pub links::walk_guard-returns-in_err-walk-clause-guards : goal.links::walk_guard-returns-in_err-walk-clause-guards
links::walk_guard-returns-in_err-walk-clause-guards t c =
    let p = err_from_is_err_and c.from_residual.result c.from_residual.ensures.1 in
    rw (p.1, p.2) (λ total else_part span known own stretch.
    let modes = modes_of c.args.setting.now.predicates.now in
    let k = condition_known total modes c.args.guard.now.condition.now c.args.guard.now.then_part.now c.args.guard.now.facts.now c.part_count-count.result known c.part_count-count.ensures in
    let s = stretch_front total c.args.setting.now.all.now c.args.guard.now.start (variables c.args.guard.now.condition.now) (variables c.args.guard.now.then_part.now) stretch in
    condition_err total modes c.args.guard.now.condition.now c.args.guard.now.then_part.now (among c.args.bound.now) c.args.guard.now.start c.args.written.now c.walk.new.written c.walk.new.written c.in_err-walk.field-0.0
    (c.in_err-walk.ensures.orders total k s))

pub links::walk_guard-returns-then-not-are_bound-clause-guards : goal.links::walk_guard-returns-then-not-are_bound-clause-guards
links::walk_guard-returns-then-not-are_bound-clause-guards t c =
    let place : c.fault_at.result ≡ Refused (binds_outer (span_of c.args.guard.now.condition.now)) = c.fault_at.ensures ∙ ap (λ s. Refused (binds_outer s)) c.span.ensures in
    rw place (λ total else_part span known own stretch.
    let modes = modes_of c.args.setting.now.predicates.now in
    let k = condition_known total modes c.args.guard.now.condition.now c.args.guard.now.then_part.now c.args.guard.now.facts.now c.part_count-count.result known c.part_count-count.ensures in
    let s = stretch_front total c.args.setting.now.all.now c.args.guard.now.start (variables c.args.guard.now.condition.now) (variables c.args.guard.now.then_part.now) stretch in
    let owed : are_bound (among c.args.bound.now) c.args.guard.now.own.now.owed_by_condition ≡ false =
    ap (λ b. are_bound (among b) c.args.guard.now.own.now.owed_by_condition) (sym c.in_ok-walk.ensures.same) ∙ ap (λ l. are_bound (among c.walk.new.bound) l) (sym c.as_slice.ensures)
    ∙ sym c.are_bound.ensures ∙ c.if-not-are_bound.true in
    condition_outer total modes c.args.guard.now.condition.now c.args.guard.now.then_part.now (among c.args.bound.now) c.args.guard.now.own.now else_part span c.args.written.now c.walk.new.written c.in_ok-walk.field-0
    (c.in_ok-walk.ensures.orders total k s) own owed)

pub links::walk_guard-overflow_sub-last : goal.links::walk_guard-overflow_sub-last
links::walk_guard-overflow_sub-last t c = omega (arith, some_parts c.args.guard.now.condition.now c.part_count-count.result c.part_count-count.ensures)

pub links::walk_guard-bounds-facts-last : goal.links::walk_guard-bounds-facts-last
links::walk_guard-bounds-facts-last t c =
    let one = some_parts c.args.guard.now.condition.now c.part_count-count.result c.part_count-count.ensures in
    omega (arith, one, c.part_count-count.ensures, c.requires.known)

pub links::walk_guard-overflow_sub-end : goal.links::walk_guard-overflow_sub-end
links::walk_guard-overflow_sub-end t c =
    let one = some_parts c.args.guard.now.condition.now c.part_count-count.result c.part_count-count.ensures in
    omega (arith, one, c.part_count-count.ensures, c.requires.known)

pub links::walk_guard-bounds-facts-end : goal.links::walk_guard-bounds-facts-end
links::walk_guard-bounds-facts-end t c =
    let one = some_parts c.args.guard.now.condition.now c.part_count-count.result c.part_count-count.ensures in
    omega (arith, one, c.part_count-count.ensures, c.requires.known)

pub links::walk_guard-returns-clause-same : goal.links::walk_guard-returns-clause-same
links::walk_guard-returns-clause-same t c =
    undone_is c.args.bound.now c.walk-2.new.bound c.undo.new.self c.mark-before.result
    (subst (λ b. Extends b c.walk-2.new.bound) c.in_ok-walk.ensures.same
    (subst (λ b. Extends c.walk.new.bound b) (sym (c.in_ok-walk-2.ensures.same ∙ c.in_ok-bind_all.ensures)) (extends_all c.walk.new.bound c.as_slice-2.result.now)))
    (c.mark-before.ensures ∙ ap length c.in_ok-walk.ensures.same) c.undo.ensures

pub links::walk_guard-returns-clause-guards : goal.links::walk_guard-returns-clause-guards
links::walk_guard-returns-clause-guards t c = λ total else_part span known own stretch.
    let modes = modes_of c.args.setting.now.predicates.now in
    let first = c.args.guard.now.condition.now in
    let second = c.args.guard.now.then_part.now in
    let one = some_parts first c.part_count-count.result c.part_count-count.ensures in
    let k = condition_known total modes first second c.args.guard.now.facts.now c.part_count-count.result known c.part_count-count.ensures in
    let s = stretch_front total c.args.setting.now.all.now c.args.guard.now.start (variables first) (variables second) stretch in
    let owed : are_bound (among c.args.bound.now) c.args.guard.now.own.now.owed_by_condition ≡ true =
    ap (λ b. are_bound (among b) c.args.guard.now.own.now.owed_by_condition) (sym c.in_ok-walk.ensures.same) ∙ ap (λ l. are_bound (among c.walk.new.bound) l) (sym c.as_slice.ensures)
    ∙ sym c.are_bound.ensures ∙ c.if-not-are_bound.false in
    let f = condition_own total modes first second c.args.guard.now.facts.now (c.part_count-count.result - 1) c.index-facts-last.result known (omega (arith, one, c.part_count-count.ensures)) c.index-facts-last.is in
    let set : c.bind_all.new.self ≡ all_behind c.walk.new.bound c.index-facts-last.result.binds = c.in_ok-bind_all.ensures ∙ ap (λ l. all_behind c.walk.new.bound l) c.as_slice-2.ensures in
    let inner : among c.bind_all.new.self ≡ with (among c.args.bound.now) (binds total modes first) =
    ap among set ∙ bound_behind total modes first c.index-facts-last.result c.walk.new.bound f ∙ ap (λ b. with (among b) (binds total modes first)) c.in_ok-walk.ensures.same in
    let k2 = subst (λ l. AreKnown total modes (subgoals second) l) (sym (take_rest c.args.guard.now.facts.now c.part_count-count.result))
    (then_known total modes first second c.args.guard.now.facts.now c.part_count-count.result known c.part_count-count.ensures) in
    let s2 = then_stretch total modes first second c.args.setting.now.all.now c.args.guard.now.start c.place_behind-behind.result c.index-facts-last.result f stretch c.place_behind-behind.ensures.within in
    let gives = subst (λ b. Gives modes (from total modes second b) c.walk.new.written c.walk-2.new.written (Ok c.in_ok-walk-2.field-0)) inner (c.in_ok-walk-2.ensures.orders total k2 s2) in
    let g = then_own total modes first second c.args.guard.now.facts.now (length c.args.guard.now.facts.now - 1) c.index-facts-end.result known
    (omega (arith, one, c.requires.known, c.part_count-count.ensures)) c.index-facts-end.is in
    let next = place_behind_is total modes first second c.args.setting.now.all.now c.args.guard.now.start c.place_behind-behind.result c.place_behind-next.result c.index-facts-last.result c.index-facts-end.result f g stretch
    c.place_behind-behind.ensures.within c.place_behind-next.ensures.within in
    guarded_by total modes first second (among c.args.bound.now) c.args.guard.now.own.now else_part span c.args.guard.now.start c.place_behind-next.result c.args.written.now c.walk.new.written c.walk-2.new.written
    c.in_ok-walk.field-0 c.in_ok-walk-2.field-0 (c.in_ok-walk.ensures.orders total k s) own owed gives next

pub links::walk_guard-returns-in_err-walk-2-clause-guards : goal.links::walk_guard-returns-in_err-walk-2-clause-guards
links::walk_guard-returns-in_err-walk-2-clause-guards t c =
    let p = err_from_is_err_and c.from_residual-in_err-walk-2.result c.from_residual-in_err-walk-2.ensures.1 in
    rw (p.1, p.2) (λ total else_part span known own stretch.
    let modes = modes_of c.args.setting.now.predicates.now in
    let first = c.args.guard.now.condition.now in
    let second = c.args.guard.now.then_part.now in
    let one = some_parts first c.part_count-count.result c.part_count-count.ensures in
    let k = condition_known total modes first second c.args.guard.now.facts.now c.part_count-count.result known c.part_count-count.ensures in
    let s = stretch_front total c.args.setting.now.all.now c.args.guard.now.start (variables first) (variables second) stretch in
    let owed : are_bound (among c.args.bound.now) c.args.guard.now.own.now.owed_by_condition ≡ true =
    ap (λ b. are_bound (among b) c.args.guard.now.own.now.owed_by_condition) (sym c.in_ok-walk.ensures.same) ∙ ap (λ l. are_bound (among c.walk.new.bound) l) (sym c.as_slice.ensures)
    ∙ sym c.are_bound.ensures ∙ c.if-not-are_bound.false in
    let f = condition_own total modes first second c.args.guard.now.facts.now (c.part_count-count.result - 1) c.index-facts-last.result known (omega (arith, one, c.part_count-count.ensures)) c.index-facts-last.is in
    let set : c.bind_all.new.self ≡ all_behind c.walk.new.bound c.index-facts-last.result.binds = c.in_ok-bind_all.ensures ∙ ap (λ l. all_behind c.walk.new.bound l) c.as_slice-2.ensures in
    let inner : among c.bind_all.new.self ≡ with (among c.args.bound.now) (binds total modes first) =
    ap among set ∙ bound_behind total modes first c.index-facts-last.result c.walk.new.bound f ∙ ap (λ b. with (among b) (binds total modes first)) c.in_ok-walk.ensures.same in
    let k2 = subst (λ l. AreKnown total modes (subgoals second) l) (sym (take_rest c.args.guard.now.facts.now c.part_count-count.result))
    (then_known total modes first second c.args.guard.now.facts.now c.part_count-count.result known c.part_count-count.ensures) in
    let s2 = then_stretch total modes first second c.args.setting.now.all.now c.args.guard.now.start c.place_behind-behind.result c.index-facts-last.result f stretch c.place_behind-behind.ensures.within in
    let gives = subst (λ b. Gives modes (from total modes second b) c.walk.new.written c.walk-2.new.written (Err c.in_err-walk-2.field-0.0)) inner (c.in_err-walk-2.ensures.orders total k2 s2) in
    then_err total modes first second (among c.args.bound.now) c.args.guard.now.own.now else_part span c.args.guard.now.start c.args.written.now c.walk.new.written c.walk-2.new.written c.walk-2.new.written
    c.in_ok-walk.field-0 c.in_err-walk-2.field-0.0 (c.in_ok-walk.ensures.orders total k s) own owed gives)

pub links::walk_chain-returns-in_err-next-clause-orders : goal.links::walk_chain-returns-in_err-next-clause-orders
links::walk_chain-returns-in_err-next-clause-orders t c =
    let p = err_from_is_err_and c.from_residual.result c.from_residual.ensures.1 in
    rw (p.1, p.2) (λ total known stretch.
    let modes = modes_of c.args.setting.now.predicates.now in
    let all = c.args.setting.now.all.now in
    let first = c.in-Conditional.condition in
    let second = c.in-Conditional.then_part in
    let third = c.in-Conditional.else_part in
    let span = span_of c.loop-condition.rest in
    let links = reverse c.loop-condition.links.items in
    let w = subst (λ g. Within total modes all (among c.args.bound.now) c.args.placed.now.goal.now links g c.loop-condition.known.now c.loop-condition.place c.args.written.now c.loop-condition.written) (sym c.in-Conditional.ensures)
    (c.loop-condition.invariant.within total known stretch) in
    let count : c.part_count.result + c.part_count-in-Conditional.result ≡ length (parts_of first) + length (parts_of second) = omega (arith, c.part_count.ensures, c.part_count-in-Conditional.ensures) in
    let some = conditional_parts c.loop-condition.rest first second third span c.in-Conditional.ensures in
    let k = guard_known total modes all (among c.args.bound.now) c.args.placed.now.goal.now first second third span c.loop-condition.known.now (c.part_count.result + c.part_count-in-Conditional.result) w.known count in
    let o = own_known total modes all (among c.args.bound.now) c.args.placed.now.goal.now first second third span c.loop-condition.known.now (length c.loop-condition.known.now - 1) c.index-known-last.result w.known
    (omega (arith, some, c.loop-condition.invariant.known_is)) c.index-known-last.is in
    let s = guard_stretch total modes all (among c.args.bound.now) c.args.placed.now.goal.now first second third span c.loop-condition.place w.stretch in
    let gives = subst (λ b. GuardGives total modes first second (among b) c.loop-condition.place c.loop-condition.written c.walk_guard.new.written (Err c.in_err-next.field-0.0)) c.loop-condition.invariant.same
    (c.in_err-next.ensures.guards total third span k o s) in
    chain_err total modes all (among c.args.bound.now) c.args.placed.now.goal.now links first second third span c.loop-condition.known.now c.loop-condition.place c.args.written.now c.loop-condition.written c.walk_guard.new.written
    c.walk_guard.new.written c.in_err-next.field-0.0 w gives)

pub links::walk_chain-loop-condition-init : goal.links::walk_chain-loop-condition-init
links::walk_chain-loop-condition-init t c =
    let modes = modes_of c.args.setting.now.predicates.now in
    let all = c.args.setting.now.all.now in
    let same = c.copy-rest.ensures in
    let parts : length (parts_of c.copy-rest.result) ≡ length (parts_of c.args.placed.now.goal.now) = ap (λ g. length (parts_of g)) same in
    record {
      known_is = c.requires.known ∙ sym parts;
      smaller = omega (arith, parts);
      is_first = λ none. same;
      same = refl;
      more = omega arith;
      cleared = c.requires.seen;
      within = λ total known stretch. subst (λ l. Within total modes all (among c.args.bound.now) c.args.placed.now.goal.now (reverse l) c.copy-rest.result c.args.placed.now.facts.now c.args.placed.now.start c.args.written.now c.args.written.now)
          (sym c.new-links.ensures.items)
          (subst (λ g. Within total modes all (among c.args.bound.now) c.args.placed.now.goal.now [] g c.args.placed.now.facts.now c.args.placed.now.start c.args.written.now c.args.written.now) (sym same)
          (first_within total modes all (among c.args.bound.now) c.args.placed.now.goal.now c.args.placed.now.facts.now c.args.placed.now.start c.args.written.now known stretch));
    }

pub links::walk_chain-loop-condition-preserved : goal.links::walk_chain-loop-condition-preserved
links::walk_chain-loop-condition-preserved t c =
    let modes = modes_of c.args.setting.now.predicates.now in
    let all = c.args.setting.now.all.now in
    let whole = c.args.placed.now.goal.now in
    let first = c.in-Conditional.condition in
    let second = c.in-Conditional.then_part in
    let third = c.in-Conditional.else_part in
    let rest = c.loop-condition.rest in
    let facts = c.loop-condition.known.now in
    let count = c.part_count.result + c.part_count-in-Conditional.result in
    let items = c.in_ok-push.ensures.items in
    let long : length c.push.new.self.items ≡ length c.loop-condition.links.items + 1 = ap length items ∙ length-append c.loop-condition.links.items _ in
    let some = conditional_parts rest first second third (span_of rest) c.in-Conditional.ensures in
    let counts : count ≡ length (parts_of first) + length (parts_of second) = omega (arith, c.part_count.ensures, c.part_count-in-Conditional.ensures) in
    let end : suc (length facts - 1) ≡ length facts = omega (arith, some, c.loop-condition.invariant.known_is) in
    let few : length facts - 1 - count ≤ length (drop count facts) = omega (arith, length-drop count facts) in
    let else_parts : length facts - 1 - count ≡ length (parts_of third) = omega (arith, some, counts, c.loop-condition.invariant.known_is) in
    record {
      known_is = length-take-le (length facts - 1 - count) (drop count facts) few ∙ else_parts;
      smaller = omega (arith, some, long, c.loop-condition.invariant.smaller);
      is_first = λ none. absurd (omega (arith, none, long));
      same = c.in_ok-next.ensures.same ∙ c.loop-condition.invariant.same;
      more = omega (arith, long, c.loop-condition.invariant.more, c.in_ok-next.ensures.adds.more);
      cleared = c.in_ok-next.ensures.adds.cleared;
      within = λ total known stretch.
          let w = c.loop-condition.invariant.within total known stretch in
          let now = subst (λ g. Within total modes all (among c.args.bound.now) whole (reverse c.loop-condition.links.items) g facts c.loop-condition.place c.args.written.now c.loop-condition.written)
          (sym c.in-Conditional.ensures) w in
          let k = guard_known total modes all (among c.args.bound.now) whole first second third (span_of rest) facts count now.known counts in
          let o = own_known total modes all (among c.args.bound.now) whole first second third (span_of rest) facts (length facts - 1) c.index-known-last.result now.known end c.index-known-last.is in
          let s = guard_stretch total modes all (among c.args.bound.now) whole first second third (span_of rest) c.loop-condition.place now.stretch in
          let guarded = subst (λ b. Guarded total modes first second (among b) c.loop-condition.place c.in_ok-next.next c.loop-condition.written c.walk_guard.new.written) c.loop-condition.invariant.same
          (c.in_ok-next.ensures.guards total third (span_of rest) k o s) in
          pushed total modes all (among c.args.bound.now) whole c.loop-condition.links.items c.push.new.self.items _ first second third rest facts count (length facts - 1) c.in_ok-next.next
          c.args.written.now c.loop-condition.written c.walk_guard.new.written items c.in-Conditional.ensures c.span.ensures w guarded counts end c.index-known-last.is;
    }

pub links::walk_chain-returns-in_err-walk-clause-orders : goal.links::walk_chain-returns-in_err-walk-clause-orders
links::walk_chain-returns-in_err-walk-clause-orders t c =
    let p = err_from_is_err_and c.from_residual-in_err-walk.result c.from_residual-in_err-walk.ensures.1 in
    rw (p.1, p.2) (λ total known stretch.
    let modes = modes_of c.args.setting.now.predicates.now in
    let rest = c.loop-condition.rest in
    let links = reverse c.loop-condition.links.items in
    let w = c.loop-condition.invariant.within total known stretch in
    let gives = subst (λ b. Gives modes (from total modes rest (among b)) c.loop-condition.written c.walk.new.written (Err c.in_err-walk.field-0.0)) c.loop-condition.invariant.same
    (c.in_err-walk.ensures.orders total w.known w.stretch) in
    rest_err total modes c.args.setting.now.all.now (among c.args.bound.now) c.args.placed.now.goal.now links rest c.loop-condition.known.now c.loop-condition.place c.args.written.now c.loop-condition.written c.walk.new.written
    c.walk.new.written c.in_err-walk.field-0.0 w gives)

pub links::walk_chain-returns-clause-orders : goal.links::walk_chain-returns-clause-orders
links::walk_chain-returns-clause-orders t c = λ total known stretch.
    let modes = modes_of c.args.setting.now.predicates.now in
    let all = c.args.setting.now.all.now in
    let whole = c.args.placed.now.goal.now in
    let rest = c.loop-condition.rest in
    let links = reverse c.loop-condition.links.items in
    let w = c.loop-condition.invariant.within total known stretch in
    let same = c.in_ok-walk.ensures.same ∙ c.loop-condition.invariant.same in
    let gives = subst (λ b. Gives modes (from total modes rest (among b)) c.loop-condition.written c.walk.new.written (Ok c.in_ok-walk.field-0)) c.loop-condition.invariant.same
    (c.in_ok-walk.ensures.orders total w.known w.stretch) in
    let closing = rest_ready total modes all (among c.args.bound.now) whole links rest c.loop-condition.known.now c.loop-condition.place c.args.written.now c.loop-condition.written c.walk.new.written c.in_ok-walk.field-0 w gives in
    subst (λ b. Gives modes (from total modes whole (among b)) c.args.written.now c.close_links.new.written c.close_links.result) same
    (c.close_links.ensures.closes total whole c.args.written.now (subst (λ b. Closing total modes all (among b) whole links c.args.written.now c.walk.new.written) (sym same) closing))
