use Rattle.std.proofs.Common.{◌≡◌, ◌+◌, ◌<◌, ◌∙◌, ◌++◌, ◌∷◌, ℕ, List, [], suc, length, drop, ap, sym, subst, arith}
use Rattle.std.proofs.lemmas.List.{length-append}
use Rattle.merc_goal_order.specs.Agenda.{start_at, StandAt}
use Rattle.merc_goal_order.specs.Positions.{IsAt, IsPlaced}
use Rattle.merc_goal_order.specs.declared.agenda.Start.{Start}
use Rattle.merc_goal_order.proofs.Awaiting.{pushed}
use Rattle.merc_goal_order.proofs.Positions.{at_next, parts_within, placed_next, next_item}
use Rattle.merc_goal_order.proofs.agenda.starts_of.Goals as goal

pub loop-goal-preserved : goal.loop-goal-preserved
loop-goal-preserved c =
    let i = c.loop-goal.invariant in
    let goals = c.args.goals.now in
    let index = c.loop-goal.goal-index in
    let here = c.loop-goal.here in
    let old = c.loop-goal.starts.items in
    let goal = c.goal-item.result in
    let rest = drop (index + 1) goals in
    let next : index + 1 ≡ suc index = omega arith in
    let items : c.push.new.self.items ≡ old ++ here ∷ [] = c.in_ok-push.ensures.items in
    let there = next_item goals index goal c.loop-goal-test.true c.goal-item.is in
    let at = subst (λ n. IsAt goals n c.start_behind-here.result.at) (sym next)
    (subst (λ n. IsAt goals (suc index) n) (sym c.start_behind-here.ensures.at) (at_next goals index here.at goal rest there i.here)) in
    record {
      long = ap (λ (l : List Start). length l) items ∙ length-append old (here ∷ []) ∙ ap (λ n. n + 1) i.long;
      here = at;
      each = subst (λ (l : List Start). (other : ℕ) → other < length l → IsAt goals other (start_at l other).at) (sym items)
          (pushed (λ other s. IsAt goals other s.at) old here i.each (subst (λ n. IsAt goals n here.at) (sym i.long) i.here));
      placed = λ total modes known stretch.
          let p = i.placed total modes known stretch in (
            placed_next total modes goals rest index here.at c.args.start here.place (index + 1) c.start_behind-here.result.place c.args.facts.now c.args.all.now goal there next i.here known stretch p.0
                c.start_behind-here.ensures.place,
            subst (λ (l : List Start). (other : ℕ) → other < length l → IsPlaced c.args.start goals other (start_at l other).place) (sym items)
                (pushed (λ other s. IsPlaced c.args.start goals other s.place) old here p.1 (subst (λ n. IsPlaced c.args.start goals n here.place) (sym i.long) p.0)),
          );
    }

pub start_behind-here-requires : goal.start_behind-here-requires
start_behind-here-requires c =
    let goals = c.args.goals.now in
    let index = c.loop-goal.goal-index in
    let there = next_item goals index c.goal-item.result c.loop-goal-test.true c.goal-item.is in
    omega (arith, c.requires.known, parts_within goals index c.loop-goal.here.at c.goal-item.result (drop (index + 1) goals) there c.loop-goal.invariant.here)

pub returns-clause-stands : goal.returns-clause-stands
returns-clause-stands c =
    let i = c.loop-goal.invariant in
    let goals = c.args.goals.now in
    let here = c.loop-goal.here in
    let old = c.loop-goal.starts.items in
    let long : length (old ++ here ∷ []) ≡ suc (length goals) = length-append old (here ∷ []) ∙ omega (arith, i.long) in
    subst (λ (l : List Start). StandAt goals l) (sym c.in_ok-push-2.ensures.items)
    (long, pushed (λ other s. IsAt goals other s.at) old here i.each (subst (λ n. IsAt goals n here.at) (sym i.long) i.here))

pub returns-clause-placed : goal.returns-clause-placed
returns-clause-placed c = λ total modes known stretch.
    let i = c.loop-goal.invariant in
    let goals = c.args.goals.now in
    let here = c.loop-goal.here in
    let old = c.loop-goal.starts.items in
    let p = i.placed total modes known stretch in
    subst (λ (l : List Start). (other : ℕ) → other < length l → IsPlaced c.args.start goals other (start_at l other).place) (sym c.in_ok-push-2.ensures.items)
    (pushed (λ other s. IsPlaced c.args.start goals other s.place) old here p.1 (subst (λ n. IsPlaced c.args.start goals n here.place) (sym i.long) p.0))
