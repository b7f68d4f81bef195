use Rattle.std.proofs.Common.{◌∙◌, ◌++◌, [], ◌∷◌, length, ap, sym}
use Rattle.std.proofs.lemmas.Result.{on_ok_weaker}
use Rattle.merc_graded_tree.specs.declared.entries.Root.TheVariants.{Basic as BasicRoot, Disjunction as DisjunctionRoot, Negation as NegationRoot, Quantified as QuantifiedRoot}
use Rattle.merc_graded_tree.specs.Roots.{arms_of}
use Rattle.merc_graded_tree.specs.Views.{viewed}
use Rattle.merc_par_split.specs.Constructs.{whole_tasks, switch_tasks, conditional_tasks}
use Rattle.merc_par_split.specs.Tasks.{relabelled}
use Rattle.merc_par_split.specs.declared.tasks.Task.TheVariants.{Place, Close}
use Rattle.merc_par_split.proofs.Entering.{left, basic_performs, running_performs, disjunction_performs, switch_performs, conditional_performs, negation_performs, quantified_performs, lies-conjunction, lies-switch, lies-conditional}
use Rattle.merc_par_split.proofs.placing.leave_viewed.Goals as goal

pub leave_conjunction-requires : goal.leave_conjunction-requires
leave_conjunction-requires c =
    lies-conjunction c.args.occurrences.now c.args.placing.now.goal c.args.placing.now.first c.in-Conjunction.running c.in-Conjunction.goals (sym (ap viewed c.in-Conjunction.is) ∙ c.view.ensures) c.requires

pub leave_whole_switch-requires : goal.leave_whole_switch-requires
leave_whole_switch-requires c =
    lies-switch c.args.occurrences.now c.args.placing.now.goal c.args.placing.now.first c.in-Switch.variable (arms_of c.in-Switch.symbols.now c.in-Switch.arms)
    (sym (ap viewed c.in-Switch.is) ∙ c.view.ensures) c.requires

pub leave_conditional-requires : goal.leave_conditional-requires
leave_conditional-requires c =
    lies-conditional c.args.occurrences.now c.args.placing.now.goal c.args.placing.now.first c.in-Conditional.condition c.in-Conditional.then_part c.in-Conditional.else_part
    (sym (ap viewed c.in-Conditional.is) ∙ c.view.ensures) c.requires

pub returns-in-Basic : goal.returns-in-Basic
returns-in-Basic c =
    on_ok_weaker c.leave_basic.result
    (λ are goals. left c.args.occurrences.now c.args.placing.now goals c.args.sites.now.items c.args.tasks.now
    (whole_tasks c.args.placing.now (BasicRoot c.in-Basic.basic.now) [] ++ c.args.tasks.now) c.leave_basic.new.tasks are
    (basic_performs c.args.occurrences.now c.args.placing.now goals c.args.sites.now.items c.in-Basic.basic.now c.args.tasks.now (sym (ap viewed c.in-Basic.is) ∙ c.view.ensures)))
    c.leave_basic.ensures

pub returns-in-Conjunction : goal.returns-in-Conjunction
returns-in-Conjunction c =
    on_ok_weaker c.leave_conjunction.result
    (λ leaves goals. running_performs c.args.occurrences.now c.args.placing.now goals c.args.sites.now.items c.in-Conjunction.running c.in-Conjunction.goals c.leave_conjunction.new.sites.items
    c.args.tasks.now c.leave_conjunction.new.tasks (sym (ap viewed c.in-Conjunction.is) ∙ c.view.ensures) leaves)
    c.leave_conjunction.ensures

pub returns-in-Disjunction : goal.returns-in-Disjunction
returns-in-Disjunction c =
    on_ok_weaker c.leave_disjunction.result
    (λ are goals. left c.args.occurrences.now c.args.placing.now goals c.args.sites.now.items c.args.tasks.now
    (whole_tasks c.args.placing.now (DisjunctionRoot (length c.in-Disjunction.goals)) c.in-Disjunction.goals ++ c.args.tasks.now) c.leave_disjunction.new.tasks are
    (disjunction_performs c.args.occurrences.now c.args.placing.now goals c.args.sites.now.items c.in-Disjunction.goals c.args.tasks.now (sym (ap viewed c.in-Disjunction.is) ∙ c.view.ensures)))
    c.leave_disjunction.ensures

pub returns-in-Switch : goal.returns-in-Switch
returns-in-Switch c =
    on_ok_weaker c.leave_whole_switch.result
    (λ are goals. left c.args.occurrences.now c.args.placing.now goals c.args.sites.now.items c.args.tasks.now
    (switch_tasks c.args.placing.now c.in-Switch.variable c.in-Switch.symbols.now c.in-Switch.arms ++ c.args.tasks.now) c.leave_whole_switch.new.tasks are.1
    (switch_performs c.args.occurrences.now c.args.placing.now goals c.args.sites.now.items c.in-Switch.variable c.in-Switch.symbols.now c.in-Switch.arms c.args.tasks.now are.0 (sym (ap viewed c.in-Switch.is) ∙ c.view.ensures)))
    c.leave_whole_switch.ensures

pub returns-in-Conditional : goal.returns-in-Conditional
returns-in-Conditional c =
    on_ok_weaker c.leave_conditional.result
    (λ are goals. left c.args.occurrences.now c.args.placing.now goals c.args.sites.now.items c.args.tasks.now
    (conditional_tasks c.args.placing.now c.in-Conditional.condition c.in-Conditional.then_part c.in-Conditional.else_part ++ c.args.tasks.now) c.leave_conditional.new.tasks are
    (conditional_performs c.args.occurrences.now c.args.placing.now goals c.args.sites.now.items c.in-Conditional.condition c.in-Conditional.then_part c.in-Conditional.else_part c.args.tasks.now (sym (ap viewed c.in-Conditional.is) ∙ c.view.ensures)))
    c.leave_conditional.ensures

pub returns-in-Negation : goal.returns-in-Negation
returns-in-Negation c =
    on_ok_weaker c.leave_negation.result
    (λ are goals. left c.args.occurrences.now c.args.placing.now goals c.args.sites.now.items c.args.tasks.now
    (whole_tasks c.args.placing.now NegationRoot (c.in-Negation.inner ∷ []) ++ c.args.tasks.now) c.leave_negation.new.tasks are
    (negation_performs c.args.occurrences.now c.args.placing.now goals c.args.sites.now.items c.in-Negation.inner c.args.tasks.now (sym (ap viewed c.in-Negation.is) ∙ c.view.ensures)))
    c.leave_negation.ensures

pub returns-in-Quantified : goal.returns-in-Quantified
returns-in-Quantified c =
    on_ok_weaker c.leave_quantified.result
    (λ are goals. left c.args.occurrences.now c.args.placing.now goals c.args.sites.now.items c.args.tasks.now
    (Place (record { goal = c.in-Quantified.inner; first = c.args.placing.now.first; waits = c.args.placing.now.waits; signals = c.args.placing.now.signals })
    ∷ Close (relabelled c.args.placing.now.goal (QuantifiedRoot c.in-Quantified.own.now)) ∷ c.args.tasks.now) c.leave_quantified.new.tasks are
    (quantified_performs c.args.occurrences.now c.args.placing.now goals c.args.sites.now.items c.in-Quantified.own.now c.in-Quantified.inner c.args.tasks.now
    (sym (ap viewed c.in-Quantified.is) ∙ c.view.ensures)))
    c.leave_quantified.ensures
