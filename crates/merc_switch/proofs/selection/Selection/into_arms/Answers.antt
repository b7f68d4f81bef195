use Rattle.std.proofs.Common.{◌≡◌, sym, subst, true}
use Rattle.std.specs.List.{list_all}
use Rattle.std.proofs.lemmas.Result.{IfOk-weaker}
use Rattle.merc_grading.specs.Switches.{symbol_at, is_there, grouped}
use Rattle.merc_switch_choice.specs.Arms.{AreArms}
use Rattle.merc_switch.specs.Selections.{Selection}
use Rattle.merc_switch.proofs.OutputCounts.{counted_together}
use Rattle.merc_switch.proofs.selection.Selection.into_arms.Goals as goal

pub with_counts-requires : goal.with_counts-requires
with_counts-requires c =
    let inside = c.self.inside in
    let all : list_all (λ disjunct. is_there (symbol_at c.args.variable disjunct)) inside.disjuncts ≡ true =
    subst (λ (s : Selection). list_all (λ disjunct. is_there (symbol_at c.args.variable disjunct)) s.disjuncts ≡ true) (sym c.self.view_is) c.requires in
    counted_together inside.whole inside.counts c.args.variable inside.disjuncts c.in-Ok.arms.groups.items all c.in-Ok.ensures.groups_are c.self.invariant

pub returns-in-Ok-clause-arms : goal.returns-in-Ok-clause-arms
returns-in-Ok-clause-arms c =
    let made = c.in-Ok.arms in
    let those : AreArms made.symbols.items made.groups.items (grouped c.args.variable c.args.self.disjuncts) =
    subst (λ (s : Selection). AreArms made.symbols.items made.groups.items (grouped c.args.variable s.disjuncts)) c.self.view_is c.in-Ok.ensures in
    IfOk-weaker c.with_counts.result _ _ (λ arms kept. kept _ those) c.with_counts.ensures.arms
