use Rattle.std.proofs.Common.{◌∙◌, ap, sym}
use Rattle.std.proofs.lemmas.Result.{on_ok_weaker}
use Rattle.merc_graded_tree.specs.Nodes.{Conjunction, Disjunction, Switch, Conditional, Negation, Quantified, goal_of, nodes_of}
use Rattle.merc_graded_tree.specs.Roots.{arms_of}
use Rattle.merc_graded_tree.specs.Views.{viewed}
use Rattle.merc_gen.proofs.Performing.{performs_goal}
use Rattle.merc_gen.proofs.Parting.{conditional_start, quantified_start}
use Rattle.merc_gen.proofs.generating.emit_bare.Goals as goal

pub returns-in-Conjunction : goal.returns-in-Conjunction
returns-in-Conjunction c =
    on_ok_weaker c.start_conjunction.result (λ started single. performs_goal single (goal_of c.args.goal.now) (Conjunction c.in-Conjunction.running (nodes_of c.in-Conjunction.goals))
    c.args.mark c.args.tasks.now.items c.start_conjunction.new.tasks.items c.args.code.now c.start_conjunction.new.code (sym c.view.ensures ∙ ap viewed c.in-Conjunction.is) (started single))
    c.start_conjunction.ensures

pub returns-in-Conditional : goal.returns-in-Conditional
returns-in-Conditional c =
    on_ok_weaker c.emit_before.result (λ left single.
    performs_goal single (goal_of c.args.goal.now) (Conditional c.in-Conditional.condition c.in-Conditional.then_part c.in-Conditional.else_part) c.args.mark
    c.args.tasks.now.items c.emit_before.new.tasks.items c.args.code.now c.args.code.now (sym c.view.ensures ∙ ap viewed c.in-Conditional.is)
    (conditional_start single c.in-Conditional.condition c.in-Conditional.then_part c.in-Conditional.else_part c.args.mark c.len.result c.args.tasks.now.items
    c.emit_before.new.tasks.items c.args.code.now c.len.ensures left)) c.emit_before.ensures

pub returns-in-Quantified : goal.returns-in-Quantified
returns-in-Quantified c =
    on_ok_weaker c.leave.result (λ left single. performs_goal single (goal_of c.args.goal.now) (Quantified c.in-Quantified.field-0.now c.in-Quantified.inner) c.args.mark
    c.args.tasks.now.items c.leave.new.tasks.items c.args.code.now c.args.code.now (sym c.view.ensures ∙ ap viewed c.in-Quantified.is)
    (quantified_start single c.in-Quantified.field-0.now c.in-Quantified.inner c.args.mark c.args.tasks.now.items c.leave.new.tasks.items c.args.code.now left))
    c.leave.ensures

pub returns-in-Disjunction : goal.returns-in-Disjunction
returns-in-Disjunction c =
    on_ok_weaker c.start_disjunction.result (λ started single. performs_goal single (goal_of c.args.goal.now) (Disjunction (nodes_of c.in-Disjunction.goals)) c.args.mark c.args.tasks.now.items
    c.start_disjunction.new.tasks.items c.args.code.now c.start_disjunction.new.code (sym c.view.ensures ∙ ap viewed c.in-Disjunction.is) (started single)) c.start_disjunction.ensures

pub returns-in-Switch : goal.returns-in-Switch
returns-in-Switch c =
    on_ok_weaker c.start_switch.result (λ started single. performs_goal single (goal_of c.args.goal.now) (Switch c.in-Switch.variable (arms_of c.in-Switch.symbols.now c.in-Switch.arms))
    c.args.mark c.args.tasks.now.items c.start_switch.new.tasks.items c.args.code.now c.start_switch.new.code (sym c.view.ensures ∙ ap viewed c.in-Switch.is) (started single))
    c.start_switch.ensures

pub returns-in-Negation : goal.returns-in-Negation
returns-in-Negation c =
    on_ok_weaker c.emit_negation.result (λ put single. performs_goal single (goal_of c.args.goal.now) (Negation c.in-Negation.inner) c.args.mark c.args.tasks.now.items
    c.emit_negation.new.tasks.items c.args.code.now c.emit_negation.new.code (sym c.view.ensures ∙ ap viewed c.in-Negation.is) (put single)) c.emit_negation.ensures
