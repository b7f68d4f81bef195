use Rattle.std.proofs.Common.{sym, ap, refl, true}
use Rattle.std.proofs.lemmas.Result.{IfOk-weaker}
use Rattle.merc_graded_tree.specs.Nodes.{Conjunction, Disjunction, Switch, Conditional, Quantified, nodes_of}
use Rattle.merc_graded_tree.specs.Roots.{arms_of}
use Rattle.merc_graded_tree.specs.Views.{viewed}
use Rattle.merc_gen.specs.Singles.{contained}
use Rattle.merc_gen.proofs.Quieting.{inner, seen}
use Rattle.merc_gen.proofs.quiet.spread.Goals as goal

pub returns-in-Conjunction : goal.returns-in-Conjunction
returns-in-Conjunction c =
    IfOk-weaker c.spread_conjuncts.result _ _
    (λ passes spreads. seen (contained c.args.singles.now) c.args.view (Conjunction c.in-Conjunction.field-0 (nodes_of c.in-Conjunction.goals)) passes passes c.args.left.now.items
    c.spread_conjuncts.new.left.items (sym (ap viewed c.in-Conjunction.is)) refl (spreads (contained c.args.singles.now) c.in-Conjunction.field-0))
    c.spread_conjuncts.ensures

pub returns-in-Disjunction : goal.returns-in-Disjunction
returns-in-Disjunction c =
    IfOk-weaker c.spread_disjuncts.result _ _
    (λ passes spreads. seen (contained c.args.singles.now) c.args.view (Disjunction (nodes_of c.in-Disjunction.goals)) passes passes c.args.left.now.items
    c.spread_disjuncts.new.left.items (sym (ap viewed c.in-Disjunction.is)) refl (spreads (contained c.args.singles.now)))
    c.spread_disjuncts.ensures

pub returns-in-Switch : goal.returns-in-Switch
returns-in-Switch c =
    IfOk-weaker c.spread_arms.result _ _
    (λ passes spreads. seen (contained c.args.singles.now) c.args.view (Switch c.in-Switch.field-0 (arms_of c.in-Switch.symbols.now c.in-Switch.arms)) passes passes c.args.left.now.items
    c.spread_arms.new.left.items (sym (ap viewed c.in-Switch.is)) refl (spreads (contained c.args.singles.now) c.in-Switch.field-0))
    c.spread_arms.ensures

pub returns-in-Conditional : goal.returns-in-Conditional
returns-in-Conditional c =
    IfOk-weaker c.spread_conditional.result _ _
    (λ passes spreads. seen (contained c.args.singles.now) c.args.view (Conditional c.in-Conditional.condition c.in-Conditional.then_part c.in-Conditional.else_part) passes passes
    c.args.left.now.items c.spread_conditional.new.left.items (sym (ap viewed c.in-Conditional.is)) refl (spreads (contained c.args.singles.now)))
    c.spread_conditional.ensures

pub returns-in_ok-push-in-Quantified : goal.returns-in_ok-push-in-Quantified
returns-in_ok-push-in-Quantified c =
    seen (contained c.args.singles.now) c.args.view (Quantified c.in-Quantified.field-0.now c.in-Quantified.inner) true true c.args.left.now.items c.push.new.self.items
    (sym (ap viewed c.in-Quantified.is)) refl (inner (contained c.args.singles.now) c.in-Quantified.field-0.now c.in-Quantified.inner c.args.left.now.items
    c.push.new.self.items c.in_ok-push-in-Quantified.ensures.items)
