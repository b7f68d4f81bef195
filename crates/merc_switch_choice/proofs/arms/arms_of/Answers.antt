use Rattle.std.proofs.Common.{◌∙◌, ap, sym, subst, map}
use Rattle.std.specs.List.{AllByRecursion}
use Rattle.std.proofs.lemmas.Result.{IfOk-weaker}
use Rattle.merc_grading.specs.Switches.{grouped}
use Rattle.merc_switch_choice.specs.Arms.{AreArms}
use Rattle.merc_switch_choice.specs.Counting.{splits, all_splitting}
use Rattle.merc_switch_choice.specs.Gaps.{AreGaps}
use Rattle.merc_switch_choice.proofs.CountLaws.{grouped_counting}
use Rattle.merc_switch_choice.proofs.GapLaws.{group_gaps}
use Rattle.merc_switch_choice.proofs.arms.arms_of.Goals as goal

pub counted_arms-requires : goal.counted_arms-requires
counted_arms-requires c =
    let parts = c.into_parts-items.ensures in
    let gaps = c.into_parts-items.result.1.gaps in
    let disjuncts = c.args.disjuncts in
    record {
      counts_are = λ variable. parts.summary.counts_are variable ∙ sym (grouped_counting c.args.variable disjuncts (splits variable) c.requires)
          ∙ ap (λ l. all_splitting (map (λ group. group.1) (grouped c.args.variable l)) variable) (sym parts.items) ∙ ap (λ l. all_splitting l variable) (sym c.in-Ok.ensures.groups_are);
      gaps_are = subst (λ l. AllByRecursion (AreGaps gaps) l) (sym (c.in-Ok.ensures.groups_are ∙ ap (λ l. map (λ group. group.1) (grouped c.args.variable l)) parts.items))
          (group_gaps gaps c.args.variable disjuncts parts.summary.gaps_are);
    }

pub returns-in-Ok : goal.returns-in-Ok
returns-in-Ok c =
    let parts = c.in-Ok.parts in
    let arms = subst (λ l. AreArms parts.symbols.items parts.groups.items (grouped c.args.variable l)) c.into_parts-items.ensures.items c.in-Ok.ensures in
    IfOk-weaker c.counted_arms.result _ _ (λ made counted. counted (grouped c.args.variable c.args.disjuncts) arms) c.counted_arms.ensures
