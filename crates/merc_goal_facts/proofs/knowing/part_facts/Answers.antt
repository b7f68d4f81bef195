use Rattle.std.proofs.Common.{◌∙◌, ap, sym, subst, refl}
use Rattle.std.proofs.lemmas.Result.{IfOk-weaker}
use Rattle.merc_goal_tree.specs.declared.entries.Root.TheVariants.{Conditional, Negation, Quantified}
use Rattle.merc_goal_tree.specs.Nodes.{nodes_of}
use Rattle.merc_goal_tree.specs.Roots.{arity_of, goal_at, joining}
use Rattle.merc_order.specs.Procedures.{modes_of}
use Rattle.merc_goal_facts.specs.Complete.{AreKnown}
use Rattle.merc_goal_facts.specs.Facts.{AreFactsOf}
use Rattle.merc_goal_facts.proofs.PartFacts.{three_known, one_read, whole_stretch, conjunction_found}
use Rattle.merc_goal_facts.proofs.knowing.part_facts.Goals as goal

pub returns-in-Simple-clause-facts : goal.returns-in-Simple-clause-facts
returns-in-Simple-clause-facts c =
    IfOk-weaker c.simple_facts.result _ _ (λ found are total goals span known stretch.
    subst (λ r. AreFactsOf total (modes_of c.args.predicates.now) (joining r span goals) found) (sym c.in-Simple.is) (are total span)) c.simple_facts.ensures.facts

pub returns-in-Disjunction-clause-facts : goal.returns-in-Disjunction-clause-facts
returns-in-Disjunction-clause-facts c =
    let modes = modes_of c.args.predicates.now in
    IfOk-weaker c.disjunction_facts.result _ _ (λ found are total goals span known stretch.
    subst (λ r. AreFactsOf total modes (joining r span goals) found) (sym c.in-Disjunction.is)
    (are total modes (nodes_of goals) span (subst (λ l. AreKnown total modes l c.args.part.joined.now (nodes_of goals)) (sym c.deref.ensures.value) known) stretch)) c.disjunction_facts.ensures.facts

pub returns-in-Conditional-clause-facts : goal.returns-in-Conditional-clause-facts
returns-in-Conditional-clause-facts c =
    let modes = modes_of c.args.predicates.now in
    let many = c.requires.many ∙ ap arity_of c.in-Conditional.is in
    IfOk-weaker c.conditional_facts.result _ _ (λ found are total goals span known stretch.
    subst (λ r. AreFactsOf total modes (joining r span goals) found) (sym c.in-Conditional.is)
    (are total modes (goal_at goals 0) (goal_at goals 1) (goal_at goals 2) span (three_known total modes c.args.facts.now.items c.args.part.joined.now goals _ _ _ many known)
    (whole_stretch total modes Conditional span c.args.part.stretch.all.now c.args.part.stretch.start c.args.part.stretch.end c.args.facts.now.items c.args.part.joined.now goals refl many known stretch))) c.conditional_facts.ensures.facts

pub returns-in-Negation-clause-facts : goal.returns-in-Negation-clause-facts
returns-in-Negation-clause-facts c =
    let modes = modes_of c.args.predicates.now in
    let many = c.requires.many ∙ ap arity_of c.in-Negation.is in
    IfOk-weaker c.negation_facts.result _ _ (λ found are total goals span known stretch.
    subst (λ r. AreFactsOf total modes (joining r span goals) found) (sym c.in-Negation.is)
    (are total modes (goal_at goals 0) span
    (whole_stretch total modes Negation span c.args.part.stretch.all.now c.args.part.stretch.start c.args.part.stretch.end c.args.facts.now.items c.args.part.joined.now goals refl many known stretch)
    (one_read total modes c.args.facts.now.items c.args.part.joined.now goals _ c.index.result.now many known c.index.ensures))) c.negation_facts.ensures

pub returns-in-Quantified-clause-facts : goal.returns-in-Quantified-clause-facts
returns-in-Quantified-clause-facts c =
    let modes = modes_of c.args.predicates.now in
    let many = c.requires.many ∙ ap arity_of c.in-Quantified.is in
    IfOk-weaker c.quantified_facts.result _ _ (λ found are total goals span known stretch.
    subst (λ r. AreFactsOf total modes (joining r span goals) found) (sym c.in-Quantified.is)
    (are total modes c.in-Quantified.field-0 (goal_at goals 0) span
    (whole_stretch total modes (Quantified c.in-Quantified.field-0) span c.args.part.stretch.all.now c.args.part.stretch.start c.args.part.stretch.end c.args.facts.now.items c.args.part.joined.now goals refl many known stretch)
    (one_read total modes c.args.facts.now.items c.args.part.joined.now goals _ c.index-in-Quantified.result.now many known c.index-in-Quantified.ensures))) c.quantified_facts.ensures

pub returns-in-Conjunction-clause-facts : goal.returns-in-Conjunction-clause-facts
returns-in-Conjunction-clause-facts c =
    conjunction_found (modes_of c.args.predicates.now) c.args.part.root.now c.args.facts.now.items c.deref-in-Conjunction.result.now c.args.part.joined.now c.args.part.stretch.all.now c.args.part.stretch.start c.args.part.stretch.end c.saturating_sub-occurrences.result
    c.conjunction_facts.result c.in-Conjunction.is c.deref-in-Conjunction.ensures.value c.saturating_sub-occurrences.ensures c.conjunction_facts.ensures.sequence c.conjunction_facts.ensures.parallel
