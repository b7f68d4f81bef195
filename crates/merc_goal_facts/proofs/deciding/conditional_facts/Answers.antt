use Rattle.std.proofs.Common.{◌≡◌, ◌∙◌, ◌-◌, ◌++◌, ◌∷◌, [], length, slice_get, ap, sym, subst}
use Rattle.std.specs.List.{filter}
use Rattle.std.proofs.lemmas.Result.{IfOk-weaker}
use Rattle.merc_goal_tree.specs.Variables.{variables}
use Rattle.merc_goal_facts.specs.Complete.{AreKnown}
use Rattle.merc_goal_facts.specs.Outside.{occurs_outside}
use Rattle.merc_goal_facts.specs.declared.facts.Facts.{Facts}
use Rattle.merc_goal_facts.proofs.Decisions.{first_arm, two_arms, first_variables, first_stretch, stretch_length, decided_stretch, decided_known, conditional_are}
use Rattle.merc_goal_facts.proofs.deciding.conditional_facts.Goals as goal

pub returns-clause-facts : goal.returns-clause-facts
returns-clause-facts c =
    IfOk-weaker c.owing.result _ _ (λ found is total modes first second third span known stretch.
    let all = c.args.stretch.all.now in
    let then_end = c.saturating_sub-then_end.result in
    let one = known.0 in
    let last = known.1.1.0 in
    let taken = c.take_needs-needs.ensures c.args.facts.now.items c.in_ok-first_arm.first_arm c.in_ok-push_facts.ensures in
    let then_is : then_end ≡ c.args.stretch.end - length (variables third) =
    c.saturating_sub-then_end.ensures
    ∙ ap (λ n. c.args.stretch.end - n) (c.occurrences_at-else_count.ensures last.found (ap (λ l. slice_get l c.args.decision.else_part.part) c.deref.ensures.value ∙ last.there) ∙ last.are.occurrences_are) in
    let both = first_stretch total modes first second third span all c.args.stretch.start c.args.stretch.end then_end stretch then_is in
    let own = c.in_ok-first_arm.ensures.sequence total modes (first_arm first second) span
    (subst (λ l. AreKnown total modes l (c.args.decision.condition ∷ c.args.decision.then_part ∷ []) (first_arm first second)) (sym c.deref-2.ensures.value) (one, (known.1.0, tt)))
    (c.saturating_sub-occurrences.ensures ∙ stretch_length total modes all (variables first ++ variables second) c.args.stretch.start then_end both ∙ ap (λ l. length l) (sym (first_variables first second))) in
    let decided = c.in_ok-decided.ensures.facts total modes (two_arms first second third span) span
    (decided_known total modes c.args.facts.now.items c.deref-3.result.now c.in_ok-first_arm.first_arm c.len-part.result c.args.stretch.start c.args.decision.else_part first second third span
    (c.deref-3.ensures.value ∙ c.in_ok-push_facts.ensures) (c.len-part.ensures ∙ sym c.deref-2.ensures.len ∙ ap (λ l. length l) c.deref-2.ensures.value) own last)
    (decided_stretch total modes first second third span all c.args.stretch.start c.args.stretch.end stretch) in
    let condition_binds = c.binds_at-condition_binds.ensures one.found (ap (λ l. slice_get l c.args.decision.condition.part) (c.deref-4.ensures.value ∙ taken.0) ∙ one.there) in
    conditional_are total modes first second third span all c.args.stretch.start c.args.stretch.end then_end one.found c.in_ok-first_arm.first_arm c.in_ok-decided.decided found stretch then_is one.are own decided
    (ap (λ (f : Facts). f.reached) is) (ap (λ (f : Facts). f.binds) is) (ap (λ (f : Facts). f.owed) is) (ap (λ (f : Facts). f.needs) is ∙ taken.1) (ap (λ (f : Facts). f.occurrences) is)
    (ap (λ (f : Facts). f.owed_by_condition) is ∙ ap (filter (λ variable. occurs_outside all c.args.stretch.start then_end variable)) condition_binds)) c.owing.ensures

pub returns-clause-same : goal.returns-clause-same
returns-clause-same c =
    IfOk-weaker c.owing.result _ _ (λ found is. (c.take_needs-needs.ensures c.args.facts.now.items c.in_ok-first_arm.first_arm c.in_ok-push_facts.ensures).0) c.owing.ensures
