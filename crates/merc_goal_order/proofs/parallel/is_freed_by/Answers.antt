use Rattle.std.proofs.Common.{◌≡◌, ◌+◌, ◌-◌, ◌∙◌, ◌&&◌, suc, length, ap, sym, subst, arith}
use Rattle.std.proofs.lemmas.List.{length-take-le}
use Rattle.std.proofs.lemmas.Slice.{take-put_mid_below}
use Rattle.merc_goal_tree.specs.Parts.{parts_of}
use Rattle.merc_order.specs.Bound.{among, with}
use Rattle.merc_order.specs.Order.{binds, from}
use Rattle.merc_order.specs.Ordered.{is_ready}
use Rattle.merc_order.specs.Procedures.{modes_of}
use Rattle.merc_goal_facts.specs.Bounds.{all_behind}
use Rattle.merc_readiness.specs.Sweeps.{Extends}
use Rattle.merc_goal_order.proofs.Positions.{some_parts}
use Rattle.merc_goal_order.proofs.Beside.{facts_of_first}
use Rattle.merc_readiness.proofs.Binding.{extends_all}
use Rattle.merc_readiness.proofs.Stepping.{facts_of_next, bound_by_next}
use Rattle.merc_goal_order.proofs.Lengths.{part_length}
use Rattle.merc_goal_order.proofs.Wholes.{undone_is}
use Rattle.merc_goal_order.proofs.parallel.is_freed_by.Goals as goal

pub is_ready-requires-clause-known : goal.is_ready-requires-clause-known
is_ready-requires-clause-known c =
    part_length c.args.waiting.now.facts.now c.args.at c.part_count.result (length (parts_of c.args.later.now)) (omega (arith, c.requires.known, c.part_count.ensures)) c.part_count.ensures

pub is_ready-requires-clause-marked : goal.is_ready-requires-clause-marked
is_ready-requires-clause-marked c =
    part_length c.args.marks.now c.args.at c.part_count.result (length (parts_of c.args.later.now)) (omega (arith, c.requires.marked, c.part_count.ensures)) c.part_count.ensures

pub is_ready-requires-2-clause-known : goal.is_ready-requires-2-clause-known
is_ready-requires-2-clause-known c =
    length-take-le c.part_count-own.result c.args.waiting.now.facts.now (omega (arith, c.requires.first, c.requires.known, c.part_count-own.ensures)) ∙ c.part_count-own.ensures

pub is_ready-requires-2-clause-marked : goal.is_ready-requires-2-clause-marked
is_ready-requires-2-clause-marked c =
    let own = c.part_count-own.result in
    let front = take-put_mid_below c.args.at (c.args.at + c.part_count.result - c.args.at) c.args.marks.now c.is_ready.new.marks own (omega (arith, c.requires.first, c.part_count-own.ensures)) (omega (arith, c.requires.marked)) in
    ap length front ∙ length-take-le own c.args.marks.now (omega (arith, c.requires.first, c.requires.marked, c.part_count-own.ensures)) ∙ c.part_count-own.ensures

pub returns-then-not-branch-clause-frees : goal.returns-then-not-branch-clause-frees
returns-then-not-branch-clause-frees c = λ total others rest known from_here.
    let modes = modes_of c.args.setting.now.predicates.now in
    let end : c.args.at + c.part_count.result ≡ c.args.at + length (parts_of c.args.later.now) = ap (λ n. c.args.at + n) c.part_count.ensures in
    let k = facts_of_next total modes c.args.later.now rest c.args.waiting.now.facts.now c.args.at (c.args.at + c.part_count.result) from_here end in
    ap (λ b. b && is_ready (from total modes c.args.waiting.now.goal.now (with (among c.args.bound.now) (binds total modes c.args.later.now)))) (c.in_ok-is_ready.ensures.tells total k ∙ c.if-not-branch.true)

pub overflow_sub-found : goal.overflow_sub-found
overflow_sub-found c = omega (arith, some_parts c.args.later.now c.part_count.result c.part_count.ensures)

pub bounds-facts-end : goal.bounds-facts-end
bounds-facts-end c =
    let one = some_parts c.args.later.now c.part_count.result c.part_count.ensures in
    omega (arith, one, c.part_count.ensures, c.requires.known)

pub returns-clause-same : goal.returns-clause-same
returns-clause-same c =
    let set : c.bind_all.new.self ≡ all_behind c.is_ready.new.bound c.as_slice.result.now = c.in_ok-bind_all.ensures in
    let extends : Extends c.is_ready.new.bound c.is_ready-2.new.bound =
    subst (λ l. Extends c.is_ready.new.bound l) (sym (c.in_ok-freed.ensures.same ∙ set)) (extends_all c.is_ready.new.bound c.as_slice.result.now) in
    undone_is c.is_ready.new.bound c.is_ready-2.new.bound c.undo.new.self c.mark-known.result extends c.mark-known.ensures c.undo.ensures ∙ c.in_ok-is_ready.ensures.same

pub returns-clause-frees : goal.returns-clause-frees
returns-clause-frees c = λ total others rest known from_here.
    let modes = modes_of c.args.setting.now.predicates.now in
    let one = some_parts c.args.later.now c.part_count.result c.part_count.ensures in
    let own : suc (c.args.at + c.part_count.result - 1) ≡ c.args.at + length (parts_of c.args.later.now) = omega (arith, one, c.part_count.ensures) in
    let end : c.args.at + c.part_count.result ≡ c.args.at + length (parts_of c.args.later.now) = ap (λ n. c.args.at + n) c.part_count.ensures in
    let k = facts_of_next total modes c.args.later.now rest c.args.waiting.now.facts.now c.args.at (c.args.at + c.part_count.result) from_here end in
    let first = facts_of_first total modes c.args.waiting.now.goal.now others c.args.waiting.now.facts.now c.part_count-own.result known c.part_count-own.ensures in
    let set : c.bind_all.new.self ≡ all_behind c.args.bound.now c.index-facts-end.result.binds =
    c.in_ok-bind_all.ensures ∙ ap (λ l. all_behind c.is_ready.new.bound l) c.as_slice.ensures ∙ ap (λ b. all_behind b c.index-facts-end.result.binds) c.in_ok-is_ready.ensures.same in
    let now : among c.bind_all.new.self ≡ with (among c.args.bound.now) (binds total modes c.args.later.now) =
    ap among set ∙ bound_by_next total modes c.args.later.now rest c.args.waiting.now.facts.now c.args.at (c.args.at + c.part_count.result - 1) c.args.bound.now c.index-facts-end.result from_here own c.index-facts-end.is in
    ap (λ b. b && is_ready (from total modes c.args.waiting.now.goal.now (with (among c.args.bound.now) (binds total modes c.args.later.now)))) (c.in_ok-is_ready.ensures.tells total k ∙ c.if-not-branch.false)
    ∙ ap (λ s. is_ready (from total modes c.args.waiting.now.goal.now s)) (sym now) ∙ c.in_ok-freed.ensures.tells total first
