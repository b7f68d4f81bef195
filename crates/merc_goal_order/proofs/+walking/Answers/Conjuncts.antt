-- The answers on conjunctions: those of the functions of `conjuncts` that take part in the walk.
use Rattle.std.proofs.Common.{◌≡◌, ◌+◌, ◌-◌, ◌<◌, ◌∙◌, ℕ, suc, true, false, List, [], Ok, Err, inl, inr, drop, length, ap, sym, subst, refl, arith, slice_index_or}
use Rattle.std.proofs.lemmas.List.{drop_all}
use Rattle.std.proofs.lemmas.Result.{err_from_is_err_and}
use borrow.Rule.Slice.PartMut.{put_mid}
use Rattle.merc_goal_tree.specs.Nodes.{Node, Conjunction, nodes_of}
use Rattle.merc_goal_tree.specs.Parts.{parts_of, all_parts}
use Rattle.merc_graded_tree.specs.declared.entries.Root.TheVariants.{Conjunction as ConjunctionRoot}
use Rattle.merc_graded_tree.specs.declared.entries.Running.TheVariants.{Sequential}
use Rattle.merc_goal_tree.specs.Variables.{variables, all_variables}
use Rattle.merc_order.specs.Bound.{among, nothing}
use Rattle.merc_order.specs.Marks.{Marked, left}
use Rattle.merc_order.specs.Order.{from, moves, outputs_of}
use Rattle.merc_order.specs.Procedures.{modes_of}
use Rattle.merc_goal_facts.specs.Facts.{all_subgoals}
use Rattle.merc_readiness.specs.Asking.{Fits, flags_of}
use Rattle.merc_simple_goals.specs.Writing.{Gives}
use Rattle.merc_goal_facts.specs.Bounds.{all_behind}
use Rattle.std.specs.declared.alloc.Global.{Global}
use Rattle.std.specs.declared.vec.Vec.{Vec}
use Rattle.merc_simple_goals.specs.declared.written.Written.{Written}
use Rattle.merc_goal_order.proofs.Positions.{parts_within, known_from, stretch_from, within_goals, at_start, placed_start, next_item, some_parts}
use Rattle.merc_goal_order.proofs.Stretches.{stretch_front}
use Rattle.merc_goal_order.specs.Agenda.{start_at, StandAt, ArePlaced, awaits, AwaitsAgain}
use Rattle.merc_readiness.specs.Sweeps.{Extends}
use Rattle.merc_goal_order.specs.Conjuncts.{GoesIfReady, Passing, AskGives, NextGives}
use Rattle.merc_goal_order.specs.Watching.{AreWatches, watched_at}
use Rattle.merc_goal_order.specs.Positions.{IsPlaced}
use Rattle.merc_goal_order.specs.Walks.{all_settled}
use Rattle.merc_goal_order.specs.declared.agenda.Start.{Start}
use Rattle.merc_readiness.proofs.Binding.{extends_same, extends_on, extends_all}
use Rattle.merc_readiness.proofs.Lengths.{front_length}
use Rattle.merc_readiness.proofs.Marking.{all_subgoals_length}
use Rattle.merc_readiness.proofs.Stepping.{facts_of_next}
use Rattle.merc_goal_order.proofs.Lengths.{part_length, joined_length}
use Rattle.merc_goal_order.proofs.Stepped.{if_stays, if_goes, first_tells, passing_on, none_told, member_passes, member_waits, member_marks, member_asked, awaited_on, none_awaited, amid_at, end_told, next_err, rounds_first, fewer_by, rounds_err}
use Rattle.merc_goal_order.proofs.Watched.{none_watched, shut_stuck, watches_on, kept_or}
use Rattle.merc_goal_order.proofs.Wholes.{end_within, at_behind, undone_is, known_parts, known_own, conjunction_stuck, conjunction_ready}
use Rattle.merc_goal_order.proofs.+walking.Goals as goal
use Rattle.merc_goal_order.proofs.+walking.Goals.{conjuncts::walk_rounds-else-loop-round-test, conjuncts::walk_rounds-then-loop-round-test+in_ok-walk_next+then-not-branch}

-- conjunctions

pub conjuncts::walk_conjunction-overflow_sub-own : goal.conjuncts::walk_conjunction-overflow_sub-own
conjuncts::walk_conjunction-overflow_sub-own t c = omega (arith, c.requires.known)

pub conjuncts::walk_conjunction-bounds-facts-own : goal.conjuncts::walk_conjunction-bounds-facts-own
conjuncts::walk_conjunction-bounds-facts-own t c = omega (arith, c.requires.known)

pub conjuncts::walk_conjunction-walk_rounds-requires : goal.conjuncts::walk_conjunction-walk_rounds-requires
conjuncts::walk_conjunction-walk_rounds-requires t c =
    let size = length (all_parts (nodes_of c.args.goals.now)) in (
      omega arith,
      (
        front_length c.args.whole.now.facts.now (length c.args.whole.now.facts.now - 1) size 1 c.requires.known (omega (arith, c.requires.known)),
        (front_length c.args.marks.now (length c.args.whole.now.facts.now - 1) size 1 c.requires.marked (omega (arith, c.requires.known)), c.requires.seen),
      ),
    )

pub conjuncts::walk_conjunction-overflow_sub-count : goal.conjuncts::walk_conjunction-overflow_sub-count
conjuncts::walk_conjunction-overflow_sub-count t c = omega (arith, c.len.ensures, c.len-before.ensures, c.in_ok-walk_rounds.ensures.adds.more)

pub conjuncts::walk_conjunction-conjoin-requires : goal.conjuncts::walk_conjunction-conjoin-requires
conjuncts::walk_conjunction-conjoin-requires t c = omega (arith, c.len.ensures)

pub conjuncts::walk_conjunction-returns-clause-adds : goal.conjuncts::walk_conjunction-returns-clause-adds
conjuncts::walk_conjunction-returns-clause-adds t c = record {
  more =
      let count = c.len.result - c.len-before.result in
      let long : length c.conjoin.new.self + count ≡ length c.walk_rounds.new.written.nodes + 1 =
      joined_length (ConjunctionRoot Sequential count) c.in_ok-outputs.outputs c.args.whole.now.span c.walk_rounds.new.written.nodes c.conjoin.new.self (omega (arith, c.len.ensures)) c.in_ok-conjoin.ensures.ok in
      omega (arith, long, c.len.ensures, c.len-before.ensures, c.in_ok-walk_rounds.ensures.adds.more);
  cleared = c.in_ok-outputs.ensures.cleared;
}

pub conjuncts::walk_conjunction-returns-clause-same : goal.conjuncts::walk_conjunction-returns-clause-same
conjuncts::walk_conjunction-returns-clause-same t c = undone_is c.args.bound.now c.walk_rounds.new.bound c.undo.new.self c.mark-known.result c.in_ok-walk_rounds.ensures.extends c.mark-known.ensures c.undo.ensures

pub conjuncts::walk_conjunction-returns-in_err-walk_rounds-clause-orders : goal.conjuncts::walk_conjunction-returns-in_err-walk_rounds-clause-orders
conjuncts::walk_conjunction-returns-in_err-walk_rounds-clause-orders t c =
    let p = err_from_is_err_and c.from_residual.result c.from_residual.ensures.1 in
    rw (p.1, p.2) (λ total known stretch.
    let modes = modes_of c.args.setting.now.predicates.now in
    let goals = nodes_of c.args.goals.now in
    let own : length c.args.whole.now.facts.now - 1 ≡ length (all_subgoals goals) = omega (arith, c.requires.known, all_subgoals_length goals) in
    let k = known_parts total modes (all_subgoals goals) (Conjunction goals c.args.whole.now.span) c.args.whole.now.facts.now (length c.args.whole.now.facts.now - 1) known own in
    conjunction_stuck total modes goals c.args.whole.now.span (among c.args.bound.now) c.args.written.now c.walk_rounds.new.written c.walk_rounds.new.written c.in_err-walk_rounds.field-0.0
    (c.in_err-walk_rounds.ensures.orders total k stretch))

pub conjuncts::walk_conjunction-returns-clause-orders : goal.conjuncts::walk_conjunction-returns-clause-orders
conjuncts::walk_conjunction-returns-clause-orders t c = λ total known stretch.
    let modes = modes_of c.args.setting.now.predicates.now in
    let goals = nodes_of c.args.goals.now in
    let goal : Node = Conjunction goals c.args.whole.now.span in
    let own : length c.args.whole.now.facts.now - 1 ≡ length (all_subgoals goals) = omega (arith, c.requires.known, all_subgoals_length goals) in
    let k = known_parts total modes (all_subgoals goals) goal c.args.whole.now.facts.now (length c.args.whole.now.facts.now - 1) known own in
    let f = known_own total modes (all_subgoals goals) goal c.args.whole.now.facts.now (length c.args.whole.now.facts.now - 1) c.index-facts-own.result known own c.index-facts-own.is in
    let same : c.undo.new.self ≡ c.args.bound.now = undone_is c.args.bound.now c.walk_rounds.new.bound c.undo.new.self c.mark-known.result c.in_ok-walk_rounds.ensures.extends c.mark-known.ensures c.undo.ensures in
    let outs : c.in_ok-outputs.outputs ≡ outputs_of total modes (among c.args.bound.now) goal =
    c.in_ok-outputs.ensures.outputs total modes goal f stretch ∙ ap (λ b. outputs_of total modes (among b) goal) same in
    let new : Written = record { nodes = c.conjoin.new.self; fresh = c.walk_rounds.new.written.fresh; seen = c.outputs_of.new.seen } in
    conjunction_ready total modes goals c.args.whole.now.span (among c.args.bound.now) (c.len.result - c.len-before.result) c.in_ok-outputs.outputs c.args.written.now c.walk_rounds.new.written new
    c.in_ok-walk_rounds.field-0 (c.in_ok-walk_rounds.ensures.orders total k stretch) outs
    (ap (λ n. n - c.len-before.result) c.len.ensures ∙ ap (λ n. length c.walk_rounds.new.written.nodes - n) c.len-before.ensures)
    c.in_ok-conjoin.ensures.ok refl (c.in_ok-outputs.ensures.cleared ∙ sym c.in_ok-walk_rounds.ensures.adds.cleared)

pub conjuncts::walk_rounds-walk_next-requires : goal.conjuncts::walk_rounds-walk_next-requires
conjuncts::walk_rounds-walk_next-requires t c = (omega arith, (c.requires.known, (omega (arith, c.requires.marked, c.loop-round.auto.marks), (c.loop-round.invariant.adds.cleared, (c.loop-round.invariant.sound, c.loop-round.invariant.stands)))))

pub conjuncts::walk_rounds-loop-round-init : goal.conjuncts::walk_rounds-loop-round-init
conjuncts::walk_rounds-loop-round-init t c = record {
  extends = extends_same c.args.bound.now;
  adds = record { more = omega arith; cleared = c.requires.seen };
  sound = c.in_ok-agenda.ensures.sound;
  stands = c.in_ok-agenda.ensures.stands;
  placed = c.in_ok-agenda.ensures.placed;
  watches = λ total known. none_watched total (modes_of c.args.setting.now.predicates.now) c.args.placed.now.goals.now c.new-watches.result.variables.items c.new-watches.ensures;
  amid = λ total known stretch.
      let modes = modes_of c.args.setting.now.predicates.now in
      let goals = c.args.placed.now.goals.now in
      fewer_by total modes goals (all_settled (moves total modes (nodes_of goals)) (among c.args.bound.now)) (awaits c.in_ok-agenda.agenda) c.clear.new.marks (among c.args.bound.now) c.args.written.now c.args.written.now
      (length goals) (length goals + 1 - 1) (omega arith)
      (rounds_first total modes goals (awaits c.in_ok-agenda.agenda) c.clear.new.marks (among c.args.bound.now) c.args.written.now (length c.args.marks.now) c.clear.ensures c.requires.marked c.in_ok-agenda.ensures.fresh);
}

pub conjuncts::walk_rounds-returns-in_err-walk_next-clause-orders : goal.conjuncts::walk_rounds-returns-in_err-walk_next-clause-orders
conjuncts::walk_rounds-returns-in_err-walk_next-clause-orders t c =
    let p = err_from_is_err_and c.from_residual-in_err-walk_next.result c.from_residual-in_err-walk_next.ensures.1 in
    rw (p.1, p.2) (λ total known stretch.
    let modes = modes_of c.args.setting.now.predicates.now in
    let goals = c.args.placed.now.goals.now in
    let whole = all_settled (moves total modes (nodes_of goals)) (among c.args.bound.now) in
    let less = length goals - c.loop-round._round in
    let i = c.loop-round.invariant in
    let now = fewer_by total modes goals whole (awaits c.loop-round.agenda) c.loop-round.marks (among c.loop-round.bound) c.args.written.now c.loop-round.written (length goals + 1 - c.loop-round._round) (suc less)
    (omega (arith, c.loop-round-test.true)) (i.amid total known stretch) in
    rounds_err total modes goals whole (awaits c.walk_next.new.agenda) c.walk_next.new.marks (among c.walk_next.new.bound) c.args.written.now c.walk_next.new.written c.walk_next.new.written less c.in_err-walk_next.field-0.0
    (c.in_err-walk_next.ensures.next total c.args.placed.now.start whole c.args.written.now less known stretch i.placed (i.watches total known) now))

pub conjuncts::walk_rounds-loop-round-preserved : goal.conjuncts::walk_rounds-loop-round-preserved
conjuncts::walk_rounds-loop-round-preserved t c =
    let i = c.loop-round.invariant in
    let goals = c.args.placed.now.goals.now in
    let same = ap (λ (v : Vec Start Global). v.items) (sym c.in_ok-walk_next.ensures.starts) in
    record {
      extends = extends_on c.args.bound.now c.loop-round.bound c.walk_next.new.bound i.extends c.in_ok-walk_next.ensures.extends;
      adds = record { more = omega (arith, i.adds.more, c.in_ok-walk_next.ensures.adds.more); cleared = c.in_ok-walk_next.ensures.adds.cleared };
      sound = c.in_ok-walk_next.ensures.sound;
      stands = subst (λ l. StandAt goals l) same i.stands;
      placed = subst (λ l. ArePlaced c.args.placed.now.start goals c.args.placed.now.facts.now c.args.setting.now.all.now l) same i.placed;
      watches = λ total known. c.in_ok-walk_next.ensures.watches total known (i.watches total known);
      amid = λ total known stretch.
          let modes = modes_of c.args.setting.now.predicates.now in
          let whole = all_settled (moves total modes (nodes_of goals)) (among c.args.bound.now) in
          let less = length goals - c.loop-round._round in
          let now = fewer_by total modes goals whole (awaits c.loop-round.agenda) c.loop-round.marks (among c.loop-round.bound) c.args.written.now c.loop-round.written (length goals + 1 - c.loop-round._round) (suc less)
          (omega (arith, c.loop-round-test.true)) (i.amid total known stretch) in
          fewer_by total modes goals whole (awaits c.walk_next.new.agenda) c.walk_next.new.marks (among c.walk_next.new.bound) c.args.written.now c.walk_next.new.written less
          (length goals + 1 - (c.loop-round._round + 1)) (omega arith)
          (subst (λ b. NextGives total modes goals whole (awaits c.walk_next.new.agenda) c.walk_next.new.marks (among c.walk_next.new.bound) c.args.written.now c.walk_next.new.written less (Ok b)) c.if-not-branch.false
          (c.in_ok-walk_next.ensures.next total c.args.placed.now.start whole c.args.written.now less known stretch i.placed (i.watches total known) now));
    }

pub conjuncts::walk_rounds-returns-clause-orders : goal.conjuncts::walk_rounds-returns-clause-orders
conjuncts::walk_rounds-returns-clause-orders t c = λ total known stretch.
    let modes = modes_of c.args.setting.now.predicates.now in
    let goals = c.args.placed.now.goals.now in
    let whole = all_settled (moves total modes (nodes_of goals)) (among c.args.bound.now) in
    let i = c.loop-round.invariant in
    let tells = λ (marked : Marked) (fits : Fits (nodes_of goals) marked) (flags : c.loop-round-test.marks ≡ flags_of marked). c.walk_first_left.ensures.tells total marked fits flags known stretch in
    elim c.loop-round-test.branch [
      | conjuncts::walk_rounds-else-loop-round-test w ↦
          end_told total modes goals whole (awaits c.loop-round.agenda) c.loop-round-test.marks (among c.loop-round-test.bound) c.args.written.now c.loop-round-test.written c.walk_first_left.new.written
          (length goals + 1 - c.loop-round._round) c.walk_first_left.result
          (amid_at total modes goals whole (awaits c.loop-round.agenda) c.loop-round.marks c.loop-round-test.marks c.loop-round.bound c.loop-round-test.bound c.args.written.now c.loop-round.written c.loop-round-test.written
          (length goals + 1 - c.loop-round._round) w.marks-is w.bound-is w.written-is (i.amid total known stretch))
          (inl (omega (arith, w.loop-round-test.false))) tells
      | conjuncts::walk_rounds-then-loop-round-test+in_ok-walk_next+then-not-branch w ↦
          let less = length goals - c.loop-round._round in
          let now = fewer_by total modes goals whole (awaits c.loop-round.agenda) c.loop-round.marks (among c.loop-round.bound) c.args.written.now c.loop-round.written (length goals + 1 - c.loop-round._round) (suc less)
          (omega (arith, w.loop-round-test.true)) (i.amid total known stretch) in
          let none = subst (λ b. NextGives total modes goals whole (awaits w.walk_next.new.agenda) w.walk_next.new.marks (among w.walk_next.new.bound) c.args.written.now w.walk_next.new.written less (Ok b)) w.if-not-branch.true
          (w.in_ok-walk_next.ensures.next total c.args.placed.now.start whole c.args.written.now less known stretch i.placed (i.watches total known) now) in
          end_told total modes goals whole nothing c.loop-round-test.marks (among c.loop-round-test.bound) c.args.written.now c.loop-round-test.written c.walk_first_left.new.written (suc less) c.walk_first_left.result
          (amid_at total modes goals whole nothing w.walk_next.new.marks c.loop-round-test.marks w.walk_next.new.bound c.loop-round-test.bound c.args.written.now w.walk_next.new.written c.loop-round-test.written
          (suc less) w.marks-is w.bound-is w.written-is none)
          (inr (λ index. refl)) tells
    ]

-- the goals that are to be asked, up to one that goes

pub conjuncts::walk_next-loop-index-init : goal.conjuncts::walk_next-loop-index-init
conjuncts::walk_next-loop-index-init t c = record {
  extends = extends_same c.args.bound.now;
  adds = record { more = omega arith; cleared = c.requires.seen };
  sound = c.requires.sound;
  starts = refl;
  watches = λ total known watches. watches;
  amid = λ total start whole old count known stretch placed watches amid. amid;
}

pub conjuncts::walk_next-bounds-goals-index : goal.conjuncts::walk_next-bounds-goals-index
conjuncts::walk_next-bounds-goals-index t c =
    let stands = subst (λ (v : Vec Start Global). StandAt c.args.placed.now.goals.now v.items) (sym (c.take.ensures.starts ∙ c.loop-index.invariant.starts)) c.requires.stands in
    within_goals c.args.placed.now.goals.now c.take.new.self.starts.items c.in-Some.index c.take.new.self.asked stands c.in-Some.ensures.some c.take.ensures.sound.room

pub conjuncts::walk_next-start-here-requires : goal.conjuncts::walk_next-start-here-requires
conjuncts::walk_next-start-here-requires t c = omega (arith, c.in-Some.ensures.some, c.take.ensures.sound.room)

pub conjuncts::walk_next-walk_member-requires : goal.conjuncts::walk_next-walk_member-requires
conjuncts::walk_next-walk_member-requires t c =
    let goals = c.args.placed.now.goals.now in
    let index = c.in-Some.index in
    let stands = subst (λ (v : Vec Start Global). StandAt goals v.items) (sym (c.take.ensures.starts ∙ c.loop-index.invariant.starts)) c.requires.stands in
    let room = within_goals goals c.take.new.self.starts.items index c.take.new.self.asked stands c.in-Some.ensures.some c.take.ensures.sound.room in
    let there = next_item goals index c.index-goals-index.result room c.index-goals-index.is in
    let at = at_start goals c.take.new.self.starts.items index c.take.new.self.asked c.start-here.result stands c.in-Some.ensures.some c.take.ensures.sound.room c.start-here.ensures in
    let within = parts_within goals index c.start-here.result.at c.index-goals-index.result (drop (index + 1) goals) there at in
    (omega (arith, within), (omega (arith, within, c.requires.known), (omega (arith, within, c.requires.marked, c.loop-index.auto.marks), c.loop-index.invariant.adds.cleared)))

pub conjuncts::walk_next-loop-index-preserved : goal.conjuncts::walk_next-loop-index-preserved
conjuncts::walk_next-loop-index-preserved t c =
    let i = c.loop-index.invariant in
    let goals = c.args.placed.now.goals.now in
    let index = c.in-Some.index in
    let goal = c.index-goals-index.result in
    let starts = c.take.ensures.starts ∙ i.starts in
    let stands = subst (λ (v : Vec Start Global). StandAt goals v.items) (sym starts) c.requires.stands in
    let room = within_goals goals c.take.new.self.starts.items index c.take.new.self.asked stands c.in-Some.ensures.some c.take.ensures.sound.room in
    let there = next_item goals index goal room c.index-goals-index.is in
    let at = at_start goals c.take.new.self.starts.items index c.take.new.self.asked c.start-here.result stands c.in-Some.ensures.some c.take.ensures.sound.room c.start-here.ensures in
    record {
      extends = extends_on c.args.bound.now c.loop-index.bound c.walk_member.new.bound i.extends c.in_ok-walk_member.ensures.extends;
      adds = record { more = omega (arith, i.adds.more, c.in_ok-walk_member.ensures.adds.more); cleared = c.in_ok-walk_member.ensures.adds.cleared };
      sound = c.take.ensures.sound;
      starts = starts;
      watches = λ total known watches. c.in_ok-walk_member.ensures.watches goals (drop (index + 1) goals) there at total known (i.watches total known watches);
      amid = λ total start whole old count known stretch placed watches amid.
          let modes = modes_of c.args.setting.now.predicates.now in
          let places = subst (λ (v : Vec Start Global). (other : ℕ) → other < length v.items → IsPlaced start goals other (start_at v.items other).place) (sym starts) (placed total modes known stretch) in
          let here = placed_start goals c.take.new.self.starts.items start index c.take.new.self.asked c.start-here.result places c.in-Some.ensures.some c.take.ensures.sound.room c.start-here.ensures in
          subst (λ b. AskGives total modes goals whole index (awaits c.take.new.self) c.walk_member.new.marks (among c.loop-index.bound) (among c.walk_member.new.bound) old c.walk_member.new.written count (Ok b)) c.if-branch.false
          (c.in_ok-walk_member.ensures.asks total goals (drop (index + 1) goals) start index whole (awaits c.loop-index.agenda) (awaits c.take.new.self) old count known stretch there (i.watches total known watches index c.index-goals-index.result (drop (index + 1) goals) there) at here c.in-Some.ensures.taken
          (i.amid total start whole old count known stretch placed watches amid));
    }

pub conjuncts::walk_next-returns-in_err-walk_member-clause-next : goal.conjuncts::walk_next-returns-in_err-walk_member-clause-next
conjuncts::walk_next-returns-in_err-walk_member-clause-next t c =
    let p = err_from_is_err_and c.from_residual.result c.from_residual.ensures.1 in
    rw (p.1, p.2) (λ total start whole old less known stretch placed watches amid.
    let i = c.loop-index.invariant in
    let modes = modes_of c.args.setting.now.predicates.now in
    let goals = c.args.placed.now.goals.now in
    let index = c.in-Some.index in
    let goal = c.index-goals-index.result in
    let starts = c.take.ensures.starts ∙ i.starts in
    let stands = subst (λ (v : Vec Start Global). StandAt goals v.items) (sym starts) c.requires.stands in
    let room = within_goals goals c.take.new.self.starts.items index c.take.new.self.asked stands c.in-Some.ensures.some c.take.ensures.sound.room in
    let there = next_item goals index goal room c.index-goals-index.is in
    let at = at_start goals c.take.new.self.starts.items index c.take.new.self.asked c.start-here.result stands c.in-Some.ensures.some c.take.ensures.sound.room c.start-here.ensures in
    let places = subst (λ (v : Vec Start Global). (other : ℕ) → other < length v.items → IsPlaced start goals other (start_at v.items other).place) (sym starts) (placed total modes known stretch) in
    let here = placed_start goals c.take.new.self.starts.items start index c.take.new.self.asked c.start-here.result places c.in-Some.ensures.some c.take.ensures.sound.room c.start-here.ensures in
    next_err total modes goals whole index (awaits c.take.new.self) (awaits c.take.new.self) c.walk_member.new.marks c.walk_member.new.marks (among c.loop-index.bound) (among c.walk_member.new.bound) (among c.walk_member.new.bound)
    old c.walk_member.new.written c.walk_member.new.written less c.in_err-walk_member.field-0.0
    (c.in_err-walk_member.ensures.asks total goals (drop (index + 1) goals) start index whole (awaits c.loop-index.agenda) (awaits c.take.new.self) old less known stretch there (i.watches total known watches index c.index-goals-index.result (drop (index + 1) goals) there) at here c.in-Some.ensures.taken
    (i.amid total start whole old less known stretch placed watches amid)))

pub conjuncts::walk_next-returns-then-branch-clause-next : goal.conjuncts::walk_next-returns-then-branch-clause-next
conjuncts::walk_next-returns-then-branch-clause-next t c = λ total start whole old less known stretch placed watches amid.
    let i = c.loop-index.invariant in
    let modes = modes_of c.args.setting.now.predicates.now in
    let goals = c.args.placed.now.goals.now in
    let index = c.in-Some.index in
    let goal = c.index-goals-index.result in
    let starts = c.take.ensures.starts ∙ i.starts in
    let stands = subst (λ (v : Vec Start Global). StandAt goals v.items) (sym starts) c.requires.stands in
    let room = within_goals goals c.take.new.self.starts.items index c.take.new.self.asked stands c.in-Some.ensures.some c.take.ensures.sound.room in
    let there = next_item goals index goal room c.index-goals-index.is in
    let at = at_start goals c.take.new.self.starts.items index c.take.new.self.asked c.start-here.result stands c.in-Some.ensures.some c.take.ensures.sound.room c.start-here.ensures in
    let places = subst (λ (v : Vec Start Global). (other : ℕ) → other < length v.items → IsPlaced start goals other (start_at v.items other).place) (sym starts) (placed total modes known stretch) in
    let here = placed_start goals c.take.new.self.starts.items start index c.take.new.self.asked c.start-here.result places c.in-Some.ensures.some c.take.ensures.sound.room c.start-here.ensures in
    let step = subst (λ b. AskGives total modes goals whole index (awaits c.take.new.self) c.walk_member.new.marks (among c.loop-index.bound) (among c.walk_member.new.bound) old c.walk_member.new.written less (Ok b)) c.if-branch.true
    (c.in_ok-walk_member.ensures.asks total goals (drop (index + 1) goals) start index whole (awaits c.loop-index.agenda) (awaits c.take.new.self) old less known stretch there (i.watches total known watches index c.index-goals-index.result (drop (index + 1) goals) there) at here c.in-Some.ensures.taken
    (i.amid total start whole old less known stretch placed watches amid)) in
    let again = subst (λ l. AwaitsAgain c.args.setting.now.all.now index l c.take.new.self c.await_all.new.self) c.since.ensures c.in_ok-await_all.ensures.awaits in
    awaited_on total modes goals whole index start c.mark-known.result c.args.setting.now.all.now c.walk_member.new.marks c.loop-index.bound c.walk_member.new.bound c.take.new.self c.await_all.new.self
    old c.walk_member.new.written less stretch stands.0 places again c.in_ok-walk_member.ensures.extends c.mark-known.ensures step.0 step.1

pub conjuncts::walk_next-returns-clause-next : goal.conjuncts::walk_next-returns-clause-next
conjuncts::walk_next-returns-clause-next t c = λ total start whole old less known stretch placed watches amid.
    let i = c.loop-index.invariant in
    let goals = c.args.placed.now.goals.now in
    let long : length c.loop-index.agenda.starts.items ≡ suc (length goals) = ap (λ (v : Vec Start Global). length v.items) i.starts ∙ c.requires.stands.0 in
    none_awaited total (modes_of c.args.setting.now.predicates.now) goals whole (awaits c.loop-index.agenda) c.loop-index.marks (among c.loop-index.bound) old c.loop-index.written (suc less)
    (i.amid total start whole old less known stretch placed watches amid) (λ index h. c.in_default.ensures.none index (omega (arith, h, long)))

pub conjuncts::walk_next-returns-then-branch-clause-watches : goal.conjuncts::walk_next-returns-then-branch-clause-watches
conjuncts::walk_next-returns-then-branch-clause-watches t c =
    let i = c.loop-index.invariant in
    let goals = c.args.placed.now.goals.now in
    let index = c.in-Some.index in
    let goal = c.index-goals-index.result in
    let starts = c.take.ensures.starts ∙ i.starts in
    let stands = subst (λ (v : Vec Start Global). StandAt goals v.items) (sym starts) c.requires.stands in
    let room = within_goals goals c.take.new.self.starts.items index c.take.new.self.asked stands c.in-Some.ensures.some c.take.ensures.sound.room in
    let there = next_item goals index goal room c.index-goals-index.is in
    let at = at_start goals c.take.new.self.starts.items index c.take.new.self.asked c.start-here.result stands c.in-Some.ensures.some c.take.ensures.sound.room c.start-here.ensures in
    λ total known watches. c.in_ok-walk_member.ensures.watches goals (drop (index + 1) goals) there at total known (i.watches total known watches)

-- a goal that is asked

pub conjuncts::walk_member-walk_if_ready-requires : goal.conjuncts::walk_member-walk_if_ready-requires
conjuncts::walk_member-walk_if_ready-requires t c =
    let size = length (parts_of c.args.member.now.goal.now) in (
      omega arith,
      (
        part_length c.args.member.now.facts.now c.args.member.now.here.at c.part_count.result size (omega (arith, c.requires.known, c.part_count.ensures)) c.part_count.ensures,
        (part_length c.args.marks.now c.args.member.now.here.at c.part_count.result size (omega (arith, c.requires.marked, c.part_count.ensures)) c.part_count.ensures, c.requires.seen),
      ),
    )

pub conjuncts::walk_member-overflow_sub-own : goal.conjuncts::walk_member-overflow_sub-own
conjuncts::walk_member-overflow_sub-own t c = omega (arith, some_parts c.args.member.now.goal.now c.part_count.result c.part_count.ensures)

pub conjuncts::walk_member-bounds-marks-own : goal.conjuncts::walk_member-bounds-marks-own
conjuncts::walk_member-bounds-marks-own t c =
    let one = some_parts c.args.member.now.goal.now c.part_count.result c.part_count.ensures in
    omega (arith, one, c.part_count.ensures, c.requires.marked)

pub conjuncts::walk_member-returns-then-marks-own-clause-asks : goal.conjuncts::walk_member-returns-then-marks-own-clause-asks
conjuncts::walk_member-returns-then-marks-own-clause-asks t c = λ total goals rest start index whole awaited later old less known stretch there watch at placed taken amid.
    let one = some_parts c.args.member.now.goal.now c.part_count.result c.part_count.ensures in
    member_passes total (modes_of c.args.setting.now.predicates.now) goals whole c.args.member.now.goal.now rest index c.args.member.now.here.at (c.args.member.now.here.at + c.part_count.result - 1) awaited later c.args.marks.now (among c.args.bound.now)
    old c.args.written.now (suc less) there at taken amid (omega (arith, one, c.part_count.ensures)) c.if-marks-own.true

-- it surely is not ready

pub conjuncts::walk_member-returns-then-is_shut-clause-asks : goal.conjuncts::walk_member-returns-then-is_shut-clause-asks
conjuncts::walk_member-returns-then-is_shut-clause-asks t c = λ total goals rest start index whole awaited later old less known stretch there watch at placed taken amid.
    let modes = modes_of c.args.setting.now.predicates.now in
    let goal = c.args.member.now.goal.now in
    let shut = shut_stuck total modes goal (watched_at c.args.watches.now.variables.items c.args.member.now.index) c.args.bound.now watch (sym c.is_shut.ensures.shut ∙ c.if-is_shut.true) in
    member_waits total modes goals whole goal rest index awaited later c.args.marks.now (among c.args.bound.now) old c.args.written.now (suc less) there taken shut amid

-- it was asked

pub conjuncts::walk_member-returns-then-branch-clause-asks : goal.conjuncts::walk_member-returns-then-branch-clause-asks
conjuncts::walk_member-returns-then-branch-clause-asks t c = λ total goals rest start index whole awaited later old less known stretch there watch at placed taken amid.
    let modes = modes_of c.args.setting.now.predicates.now in
    let goal = c.args.member.now.goal.now in
    let one = some_parts goal c.part_count.result c.part_count.ensures in
    let own : suc (c.args.member.now.here.at + c.part_count.result - 1) ≡ c.args.member.now.here.at + length (parts_of goal) = omega (arith, one, c.part_count.ensures) in
    let end : c.args.member.now.here.at + c.part_count.result ≡ c.args.member.now.here.at + length (parts_of goal) = ap (λ n. c.args.member.now.here.at + n) c.part_count.ensures in
    let from = known_from total modes goals rest index c.args.member.now.here.at c.args.member.now.facts.now goal there at known in
    let k = facts_of_next total modes goal (nodes_of rest) c.args.member.now.facts.now c.args.member.now.here.at (c.args.member.now.here.at + c.part_count.result) from end in
    let s = stretch_from total c.args.setting.now.all.now start goals rest index c.args.member.now.here.place goal there placed stretch in
    let m = member_marks total modes goals whole goal rest index c.args.member.now.here.at (c.args.member.now.here.at + c.part_count.result - 1) (c.args.member.now.here.at + c.part_count.result) awaited c.args.marks.now (among c.args.bound.now)
    old c.args.written.now (suc less) there at amid own end c.if-marks-own.false in
    member_asked total modes goals whole goal rest index c.args.member.now.here.at (c.args.member.now.here.at + c.part_count.result - 1) (c.args.member.now.here.at + c.part_count.result - c.args.member.now.here.at) awaited later
    c.args.marks.now c.walk_if_ready.new.marks c.args.bound.now c.walk_if_ready.new.bound old c.args.written.now c.walk_if_ready.new.written less there at taken amid own c.if-marks-own.false
    (omega (arith, c.part_count.ensures)) (Ok true)
    (subst (λ b. GoesIfReady total modes goal c.walk_if_ready.new.marks c.args.bound.now c.walk_if_ready.new.bound c.args.written.now c.walk_if_ready.new.written (Ok b)) c.if-branch.true (c.in_ok-walk_if_ready.ensures.goes total k s m))

pub conjuncts::walk_member-returns-in_err-walk_if_ready-clause-asks : goal.conjuncts::walk_member-returns-in_err-walk_if_ready-clause-asks
conjuncts::walk_member-returns-in_err-walk_if_ready-clause-asks t c =
    let p = err_from_is_err_and c.from_residual.result c.from_residual.ensures.1 in
    rw (p.1, p.2) (λ total goals rest start index whole awaited later old less known stretch there watch at placed taken amid.
    let modes = modes_of c.args.setting.now.predicates.now in
    let goal = c.args.member.now.goal.now in
    let one = some_parts goal c.part_count.result c.part_count.ensures in
    let own : suc (c.args.member.now.here.at + c.part_count.result - 1) ≡ c.args.member.now.here.at + length (parts_of goal) = omega (arith, one, c.part_count.ensures) in
    let end : c.args.member.now.here.at + c.part_count.result ≡ c.args.member.now.here.at + length (parts_of goal) = ap (λ n. c.args.member.now.here.at + n) c.part_count.ensures in
    let from = known_from total modes goals rest index c.args.member.now.here.at c.args.member.now.facts.now goal there at known in
    let k = facts_of_next total modes goal (nodes_of rest) c.args.member.now.facts.now c.args.member.now.here.at (c.args.member.now.here.at + c.part_count.result) from end in
    let s = stretch_from total c.args.setting.now.all.now start goals rest index c.args.member.now.here.place goal there placed stretch in
    let m = member_marks total modes goals whole goal rest index c.args.member.now.here.at (c.args.member.now.here.at + c.part_count.result - 1) (c.args.member.now.here.at + c.part_count.result) awaited c.args.marks.now (among c.args.bound.now)
    old c.args.written.now (suc less) there at amid own end c.if-marks-own.false in
    member_asked total modes goals whole goal rest index c.args.member.now.here.at (c.args.member.now.here.at + c.part_count.result - 1) (c.args.member.now.here.at + c.part_count.result - c.args.member.now.here.at) awaited later
    c.args.marks.now c.walk_if_ready.new.marks c.args.bound.now c.walk_if_ready.new.bound old c.args.written.now c.walk_if_ready.new.written less there at taken amid own c.if-marks-own.false
    (omega (arith, c.part_count.ensures)) (Err c.in_err-walk_if_ready.field-0.0) (c.in_err-walk_if_ready.ensures.goes total k s m))

pub conjuncts::walk_member-returns-clause-watches : goal.conjuncts::walk_member-returns-clause-watches
conjuncts::walk_member-returns-clause-watches t c = λ goals rest there at total known watches.
    let modes = modes_of c.args.setting.now.predicates.now in
    let goal = c.args.member.now.goal.now in
    let end : c.args.member.now.here.at + c.part_count.result ≡ c.args.member.now.here.at + length (parts_of goal) = ap (λ n. c.args.member.now.here.at + n) c.part_count.ensures in
    let from = known_from total modes goals rest c.args.member.now.index c.args.member.now.here.at c.args.member.now.facts.now goal there at known in
    let k = facts_of_next total modes goal (nodes_of rest) c.args.member.now.facts.now c.args.member.now.here.at (c.args.member.now.here.at + c.part_count.result) from end in
    let before = subst (λ (v : Vec (List ℕ) Global). AreWatches total modes goals v.items) (sym c.is_shut.ensures.same) watches in
    watches_on total modes goals rest goal c.is_shut.new.self.variables.items c.watch.new.self.variables.items c.args.member.now.index there (λ other. kept_or (c.in_ok-watch.ensures.keeps other) (λ right. right total k)) before

pub conjuncts::walk_member-returns-clause-asks : goal.conjuncts::walk_member-returns-clause-asks
conjuncts::walk_member-returns-clause-asks t c = λ total goals rest start index whole awaited later old less known stretch there watch at placed taken amid.
    let modes = modes_of c.args.setting.now.predicates.now in
    let goal = c.args.member.now.goal.now in
    let one = some_parts goal c.part_count.result c.part_count.ensures in
    let own : suc (c.args.member.now.here.at + c.part_count.result - 1) ≡ c.args.member.now.here.at + length (parts_of goal) = omega (arith, one, c.part_count.ensures) in
    let end : c.args.member.now.here.at + c.part_count.result ≡ c.args.member.now.here.at + length (parts_of goal) = ap (λ n. c.args.member.now.here.at + n) c.part_count.ensures in
    let from = known_from total modes goals rest index c.args.member.now.here.at c.args.member.now.facts.now goal there at known in
    let k = facts_of_next total modes goal (nodes_of rest) c.args.member.now.facts.now c.args.member.now.here.at (c.args.member.now.here.at + c.part_count.result) from end in
    let s = stretch_from total c.args.setting.now.all.now start goals rest index c.args.member.now.here.place goal there placed stretch in
    let m = member_marks total modes goals whole goal rest index c.args.member.now.here.at (c.args.member.now.here.at + c.part_count.result - 1) (c.args.member.now.here.at + c.part_count.result) awaited c.args.marks.now (among c.args.bound.now)
    old c.args.written.now (suc less) there at amid own end c.if-marks-own.false in
    subst (λ b. AskGives total modes goals whole index later (put_mid c.args.member.now.here.at (c.args.member.now.here.at + c.part_count.result - c.args.member.now.here.at) c.args.marks.now c.walk_if_ready.new.marks) (among c.args.bound.now) (among b)
    old c.walk_if_ready.new.written less (Ok false)) (sym c.in_ok-watch.ensures.same)
    (member_asked total modes goals whole goal rest index c.args.member.now.here.at (c.args.member.now.here.at + c.part_count.result - 1) (c.args.member.now.here.at + c.part_count.result - c.args.member.now.here.at) awaited later
    c.args.marks.now c.walk_if_ready.new.marks c.args.bound.now c.walk_if_ready.new.bound old c.args.written.now c.walk_if_ready.new.written less there at taken amid own c.if-marks-own.false
    (omega (arith, c.part_count.ensures)) (Ok false)
    (subst (λ b. GoesIfReady total modes goal c.walk_if_ready.new.marks c.args.bound.now c.walk_if_ready.new.bound c.args.written.now c.walk_if_ready.new.written (Ok b)) c.if-branch.false (c.in_ok-walk_if_ready.ensures.goes total k s m)))

-- a goal that goes if it is ready

pub conjuncts::walk_if_ready-walk-requires : goal.conjuncts::walk_if_ready-walk-requires
conjuncts::walk_if_ready-walk-requires t c = (omega arith, (c.requires.known, (omega (arith, c.requires.marked, c.advance.auto.marks), c.requires.seen)))

pub conjuncts::walk_if_ready-returns-then-not-branch-clause-goes : goal.conjuncts::walk_if_ready-returns-then-not-branch-clause-goes
conjuncts::walk_if_ready-returns-then-not-branch-clause-goes t c = λ total known stretch marked.
    if_stays total (modes_of c.args.setting.now.predicates.now) c.args.placed.now.goal.now c.advance.new.marks c.args.bound.now c.advance.new.bound c.args.written.now c.in_ok-advance.field-0
    (c.in_ok-advance.ensures.asked total known marked) c.if-not-branch.true c.in_ok-advance.ensures.same

pub conjuncts::walk_if_ready-overflow_sub-own : goal.conjuncts::walk_if_ready-overflow_sub-own
conjuncts::walk_if_ready-overflow_sub-own t c = some_parts c.args.placed.now.goal.now c.part_count-own.result c.part_count-own.ensures

pub conjuncts::walk_if_ready-bounds-marks-own : goal.conjuncts::walk_if_ready-bounds-marks-own
conjuncts::walk_if_ready-bounds-marks-own t c =
    let one = some_parts c.args.placed.now.goal.now c.part_count-own.result c.part_count-own.ensures in
    omega (arith, one, c.part_count-own.ensures, c.requires.marked, c.walk.auto.marks, c.advance.auto.marks)

pub conjuncts::walk_if_ready-bounds-facts-own : goal.conjuncts::walk_if_ready-bounds-facts-own
conjuncts::walk_if_ready-bounds-facts-own t c =
    let one = some_parts c.args.placed.now.goal.now c.part_count-own.result c.part_count-own.ensures in
    omega (arith, one, c.part_count-own.ensures, c.requires.known)

pub conjuncts::walk_if_ready-returns-clause-extends : goal.conjuncts::walk_if_ready-returns-clause-extends
conjuncts::walk_if_ready-returns-clause-extends t c =
    subst (λ b. Extends b c.bind_all.new.self) (c.in_ok-walk.ensures.same ∙ c.in_ok-advance.ensures.same)
    (subst (λ l. Extends c.walk.new.bound l) (sym c.in_ok-bind_all.ensures) (extends_all c.walk.new.bound c.as_slice.result.now))

pub conjuncts::walk_if_ready-returns-clause-goes : goal.conjuncts::walk_if_ready-returns-clause-goes
conjuncts::walk_if_ready-returns-clause-goes t c = λ total known stretch marked.
    let modes = modes_of c.args.setting.now.predicates.now in
    let goal = c.args.placed.now.goal.now in
    let one = some_parts goal c.part_count-own.result c.part_count-own.ensures in
    let own : suc (c.part_count-own.result - 1) ≡ length (parts_of goal) = omega (arith, one, c.part_count-own.ensures) in
    let same = c.in_ok-walk.ensures.same ∙ c.in_ok-advance.ensures.same in
    let gives = subst (λ b. Gives modes (from total modes goal (among b)) c.args.written.now c.walk.new.written (Ok c.in_ok-walk.field-0)) (sym c.in_ok-walk.ensures.same)
    (c.in_ok-walk.ensures.orders total known stretch) in
    let set : c.bind_all.new.self ≡ all_behind c.walk.new.bound c.index-facts-own.result.binds = c.in_ok-bind_all.ensures ∙ ap (λ l. all_behind c.walk.new.bound l) c.as_slice.ensures in
    if_goes total modes goal c.args.placed.now.facts.now c.walk.new.marks c.args.bound.now c.walk.new.bound c.bind_all.new.self (c.part_count-own.result - 1) c.index-facts-own.result c.args.written.now c.walk.new.written
    c.in_ok-walk.field-0 gives same known own c.index-facts-own.is set (omega (arith, c.requires.marked, c.walk.auto.marks, c.advance.auto.marks))

-- the first goal that is left

pub conjuncts::walk_first_left-walk-requires : goal.conjuncts::walk_first_left-walk-requires
conjuncts::walk_first_left-walk-requires t c =
    let within = end_within c.args.placed.now.goals.now c.loop-goal.goal-index c.goal-item.result c.loop-goal.at c.part_count.result c.loop-goal-test.true c.goal-item.is c.part_count.ensures c.loop-goal.invariant.at_is in
    let size = length (parts_of c.goal-item.result) in
    let long : length c.loop-goal.marks ≡ length c.args.marks.now = ap length c.loop-goal.invariant.same_marks in (
      omega (arith, within, c.part_count.ensures),
      (
        part_length c.args.placed.now.facts.now c.loop-goal.at c.part_count.result size (omega (arith, within, c.requires.known)) c.part_count.ensures,
        (
          part_length c.loop-goal.marks c.loop-goal.at c.part_count.result size (omega (arith, within, long, c.requires.marked)) c.part_count.ensures,
          ap (λ (w : Written). w.seen) c.loop-goal.invariant.same_written ∙ c.requires.seen,
        ),
      ),
    )

pub conjuncts::walk_first_left-bounds-facts-own : goal.conjuncts::walk_first_left-bounds-facts-own
conjuncts::walk_first_left-bounds-facts-own t c =
    let within = end_within c.args.placed.now.goals.now c.loop-goal.goal-index c.goal-item.result c.loop-goal.at c.part_count.result c.loop-goal-test.true c.goal-item.is c.part_count.ensures c.loop-goal.invariant.at_is in
    let one = some_parts c.goal-item.result c.part_count.result c.part_count.ensures in
    omega (arith, one, within, c.requires.known)

pub conjuncts::walk_first_left-overflow_sub-own : goal.conjuncts::walk_first_left-overflow_sub-own
conjuncts::walk_first_left-overflow_sub-own t c = omega (arith, some_parts c.goal-item.result c.part_count.result c.part_count.ensures)

pub conjuncts::walk_first_left-bounds-marks-own : goal.conjuncts::walk_first_left-bounds-marks-own
conjuncts::walk_first_left-bounds-marks-own t c =
    let one = some_parts c.goal-item.result c.part_count.result c.part_count.ensures in
    let end = end_within c.args.placed.now.goals.now c.loop-goal.goal-index c.goal-item.result c.loop-goal.at c.part_count.result c.loop-goal-test.true c.goal-item.is c.part_count.ensures c.loop-goal.invariant.at_is in
    let long : length c.loop-goal.marks ≡ length c.args.marks.now = ap length c.loop-goal.invariant.same_marks in
    omega (arith, one, end, long, c.requires.marked)

pub conjuncts::walk_first_left-returns-then-not-marks-own-clause-tells : goal.conjuncts::walk_first_left-returns-then-not-marks-own-clause-tells
conjuncts::walk_first_left-returns-then-not-marks-own-clause-tells t c = λ total marked fits flags known stretch.
    let modes = modes_of c.args.setting.now.predicates.now in
    let goal = c.goal-item.result in
    let rest = drop (c.loop-goal.goal-index + 1) c.args.placed.now.goals.now in
    let those = left total modes (nodes_of c.args.placed.now.goals.now) marked in
    let one = some_parts goal c.part_count.result c.part_count.ensures in
    let p = subst (λ l. Passing total modes (nodes_of l) c.args.placed.now.facts.now c.args.marks.now c.loop-goal.at c.args.setting.now.all.now c.loop-goal.place those)
    (next_item c.args.placed.now.goals.now c.loop-goal.goal-index goal c.loop-goal-test.true c.goal-item.is) (c.loop-goal.invariant.passing total marked fits flags known stretch) in
    let k = facts_of_next total modes goal (nodes_of rest) c.args.placed.now.facts.now c.loop-goal.at (c.loop-goal.at + c.part_count.result) p.known (ap (λ n. c.loop-goal.at + n) c.part_count.ensures) in
    let s = stretch_front total c.args.setting.now.all.now c.loop-goal.place (variables goal) (all_variables (nodes_of rest)) p.stretch in
    let gives = subst (λ b. Gives modes (from total modes goal (among b)) c.args.written.now c.walk.new.written c.walk.result) c.loop-goal.invariant.same
    (subst (λ w. Gives modes (from total modes goal (among c.loop-goal.bound)) w c.walk.new.written c.walk.result) c.loop-goal.invariant.same_written (c.walk.ensures.orders total k s)) in
    first_tells total modes goal (nodes_of rest) c.args.placed.now.facts.now c.args.marks.now c.loop-goal.at (c.loop-goal.at + c.part_count.result - 1) c.args.setting.now.all.now c.loop-goal.place those (among c.args.bound.now)
    c.args.written.now c.walk.new.written c.walk.result p (omega (arith, one, c.part_count.ensures))
    (ap (λ l. slice_index_or l (c.loop-goal.at + c.part_count.result - 1) false) (sym c.loop-goal.invariant.same_marks) ∙ c.if-not-marks-own.true) gives

pub conjuncts::walk_first_left-loop-goal-preserved : goal.conjuncts::walk_first_left-loop-goal-preserved
conjuncts::walk_first_left-loop-goal-preserved t c = record {
  at_is = at_behind c.args.placed.now.goals.now c.loop-goal.goal-index c.goal-item.result c.loop-goal.at c.part_count.result c.loop-goal-test.true c.goal-item.is c.part_count.ensures c.loop-goal.invariant.at_is;
  same_marks = c.loop-goal.invariant.same_marks;
  same = c.loop-goal.invariant.same;
  same_written = c.loop-goal.invariant.same_written;
  passing = λ total marked fits flags known stretch.
      let modes = modes_of c.args.setting.now.predicates.now in
      let goal = c.goal-item.result in
      let rest = drop (c.loop-goal.goal-index + 1) c.args.placed.now.goals.now in
      let those = left total modes (nodes_of c.args.placed.now.goals.now) marked in
      let one = some_parts goal c.part_count.result c.part_count.ensures in
      let p = subst (λ l. Passing total modes (nodes_of l) c.args.placed.now.facts.now c.args.marks.now c.loop-goal.at c.args.setting.now.all.now c.loop-goal.place those)
      (next_item c.args.placed.now.goals.now c.loop-goal.goal-index goal c.loop-goal-test.true c.goal-item.is) (c.loop-goal.invariant.passing total marked fits flags known stretch) in
      passing_on total modes goal (nodes_of rest) c.args.placed.now.facts.now c.args.marks.now c.loop-goal.at (c.loop-goal.at + c.part_count.result - 1) (c.loop-goal.at + c.part_count.result) c.args.setting.now.all.now
      c.loop-goal.place c.place_behind-place.result c.index-facts-own.result those p (omega (arith, one, c.part_count.ensures)) (ap (λ n. c.loop-goal.at + n) c.part_count.ensures)
      (ap (λ l. slice_index_or l (c.loop-goal.at + c.part_count.result - 1) false) (sym c.loop-goal.invariant.same_marks) ∙ c.if-not-marks-own.false) c.index-facts-own.is c.place_behind-place.ensures.within;
}

pub conjuncts::walk_first_left-returns-clause-tells : goal.conjuncts::walk_first_left-returns-clause-tells
conjuncts::walk_first_left-returns-clause-tells t c = λ total marked fits flags known stretch.
    let modes = modes_of c.args.setting.now.predicates.now in
    let none : drop c.loop-goal.goal-index c.args.placed.now.goals.now ≡ [] = drop_all c.loop-goal.goal-index c.args.placed.now.goals.now (omega arith) in
    let those = left total modes (nodes_of c.args.placed.now.goals.now) marked in
    let p = subst (λ l. Passing total modes (nodes_of l) c.args.placed.now.facts.now c.args.marks.now c.loop-goal.at c.args.setting.now.all.now c.loop-goal.place those) none
    (c.loop-goal.invariant.passing total marked fits flags known stretch) in
    none_told total modes c.args.placed.now.facts.now c.args.marks.now c.loop-goal.at c.args.setting.now.all.now c.loop-goal.place those (among c.args.bound.now) c.args.written.now c.loop-goal.written tt p c.loop-goal.invariant.same_written
