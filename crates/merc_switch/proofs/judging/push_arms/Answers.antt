use Rattle.std.proofs.Common.{◌≡◌, ◌<◌, ◌∙◌, ◌∷◌, ◌++◌, [], ap, subst, length, arith, refl, rules}
use Rattle.std.specs.List.{slice_index_or}
use Rattle.merc_switch.specs.Plans.{arm_plan}
use Rattle.merc_switch.specs.Selections.{MayCount}
use Rattle.merc_switch.proofs.OutputCounts.{at_last, handed_on, one_more, planned_on}
use Rattle.merc_switch.proofs.judging.push_arms.Goals as goal

pub push_arm-requires : goal.push_arm-requires
push_arm-requires c =
    let whole = c.args.outer.now.whole in
    let before = c.loop-last.arms.items in
    let rest = c.pop.new.self.items in
    let last = c.in-Some.last in
    let index = c.len.result in
    let is : before ≡ rest ++ last ∷ [] = search rules in
    let place : index ≡ length rest = search rules in
    let there : slice_index_or before index [] ≡ last = ap (λ l. slice_index_or l index []) is ∙ ap (λ i. slice_index_or (rest ++ last ∷ []) i []) place ∙ at_last rest last in
    let within : index < length before = omega (arith, place, one_more rest before last is) in
    subst (λ d. MayCount whole c.take_counts-counts.result d) there (c.take_counts-counts.ensures.counts whole before c.loop-last.invariant.handed within)

pub loop-last-preserved : goal.loop-last-preserved
loop-last-preserved c =
    let before = c.loop-last.arms.items in
    let rest = c.pop.new.self.items in
    let last = c.in-Some.last in
    let outer = c.args.outer.now in
    let is : before ≡ rest ++ last ∷ [] = search rules in
    record {
      planned = planned_on (λ disjuncts. arm_plan outer.whole outer.used outer.left outer.variable disjuncts) rest before last _ c.push_arm.new.tasks c.loop-last.tasks _ is refl
          c.in_ok-push_arm.ensures c.loop-last.invariant.planned;
      handed = handed_on outer.whole c.take_counts-counts.new.handed rest before last is (c.take_counts-counts.ensures.handed outer.whole before c.loop-last.invariant.handed);
    }
