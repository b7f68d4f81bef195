use Rattle.std.proofs.Common.{◌≡◌, ◌∷◌, ◌++◌, true, false, if◌then◌else◌, map, Result, Ok, Err, OnOk, ap, subst, ◌∙◌}
use Rattle.merc_value.specs.Text.{is_blank}
use Rattle.merc_name_resolution.specs.Known.{callee_in}
use Rattle.merc_goals.specs.Entries.{GoalEntry}
use Rattle.merc_goals.specs.declared.goal.Form.TheVariants.{Parallel, Disjunction, Conditional, Negated, Quantified}
use Rattle.merc_flat_form.specs.Frames.{keeps_of}
use Rattle.merc_flat_form.specs.Steps.{frame_of, kept, simple_goals}
use Rattle.merc_flat_form.specs.FlatForm.{simple}
use Rattle.merc_flat_form.specs.declared.frames.Closing.TheVariants.{Keep, Join, JoinParallel, Disjoin, Negate, Quantify}
use Rattle.merc_flat_form.proofs.TakingUp.{parallel_up, disjunction_up, negated_up, conjunction_up, quantified_up, conditional_up, IsLeaf, is_leaf, leaf_placed, leaf_up, placed, placed_both}
use Rattle.merc_flat_form.proofs.flattening.take_up.Goals as goal

three_ok : {E P Q R S : Type 0} (r : Result (Unit {0}) E) → OnOk r P → OnOk r Q → OnOk r R → (P → Q → R → S) → OnOk r S
three_ok (Ok x) p q r f = f p q r
three_ok (Err e) p q r f = tt

two_ok : {E P Q S : Type 0} (r : Result (Unit {0}) E) → OnOk r P → OnOk r Q → (P → Q → S) → OnOk r S
two_ok (Ok x) p q f = f p q
two_ok (Err e) p q f = tt

pub returns-in-Conjunction : goal.returns-in-Conjunction
returns-in-Conjunction c =
    rw (← c.entry.view_is)
    (three_ok c.open.result c.open.ensures.frames c.open.ensures.below c.open.ensures.shown
    (λ put below names.
    placed (is_blank c.args.names.now) (callee_in c.args.known.now) c.entry.inside.at c.entry.inside.span c.args.found.now c.args.frames.now c.args.stack.now
    c.open.new.stack c.args.nodes.now c.requires _ _ _ _ _ _ c.in-Conjunction.is put
    (c.conjunction_frame-frame.ensures
    ∙ ap (λ k. frame_of (if k then Keep else Join) true c.entry.inside.span c.in-Conjunction.count c.len-start.result) c.keeps-keeps.ensures
    ∙ ap (frame_of (if keeps_of c.args.frames.now then Keep else Join) true c.entry.inside.span c.in-Conjunction.count) c.len-start.ensures) c.count_down.ensures
    (conjunction_up (is_blank c.args.names.now) (callee_in c.args.known.now) c.entry.inside.at c.entry.inside.span c.args.found.now c.args.frames.now c.args.stack.now
    c.open.new.stack c.args.nodes.now c.requires below names c.in-Conjunction.count)))

pub returns-in-Parallel : goal.returns-in-Parallel
returns-in-Parallel c =
    rw (← c.entry.view_is)
    (three_ok c.open-in-Parallel.result c.open-in-Parallel.ensures.frames c.open-in-Parallel.ensures.below c.open-in-Parallel.ensures.shown
    (λ put below names.
    placed (is_blank c.args.names.now) (callee_in c.args.known.now) c.entry.inside.at c.entry.inside.span c.args.found.now c.args.frames.now c.args.stack.now
    c.open-in-Parallel.new.stack c.args.nodes.now c.requires _ _ _ _ _ _ c.in-Parallel.is put
    (c.frame_of-frame.ensures ∙ ap (frame_of JoinParallel false c.entry.inside.span c.in-Parallel.count) c.len-start.ensures) c.count_down.ensures
    (parallel_up (is_blank c.args.names.now) (callee_in c.args.known.now) c.entry.inside.at c.entry.inside.span c.args.found.now c.args.frames.now c.args.stack.now
    c.open-in-Parallel.new.stack c.args.nodes.now c.requires below names c.in-Parallel.count)))

pub returns-in-Disjunction : goal.returns-in-Disjunction
returns-in-Disjunction c =
    rw (← c.entry.view_is)
    (three_ok c.open-in-Disjunction.result c.open-in-Disjunction.ensures.frames c.open-in-Disjunction.ensures.below c.open-in-Disjunction.ensures.shown
    (λ put below names.
    placed (is_blank c.args.names.now) (callee_in c.args.known.now) c.entry.inside.at c.entry.inside.span c.args.found.now c.args.frames.now c.args.stack.now
    c.open-in-Disjunction.new.stack c.args.nodes.now c.requires _ _ _ _ _ _ c.in-Disjunction.is put
    (c.frame_of-frame-in-Disjunction.ensures ∙ ap (frame_of Disjoin false c.entry.inside.span c.in-Disjunction.count) c.len-start.ensures) c.count_down.ensures
    (disjunction_up (is_blank c.args.names.now) (callee_in c.args.known.now) c.entry.inside.at c.entry.inside.span c.args.found.now c.args.frames.now c.args.stack.now
    c.open-in-Disjunction.new.stack c.args.nodes.now c.requires below names c.in-Disjunction.count)))

pub returns-in-Negated : goal.returns-in-Negated
returns-in-Negated c =
    rw (← c.entry.view_is)
    (three_ok c.open-in-Negated.result c.open-in-Negated.ensures.frames c.open-in-Negated.ensures.below c.open-in-Negated.ensures.shown
    (λ put below names.
    placed (is_blank c.args.names.now) (callee_in c.args.known.now) c.entry.inside.at c.entry.inside.span c.args.found.now c.args.frames.now c.args.stack.now
    c.open-in-Negated.new.stack c.args.nodes.now c.requires _ _ _ _ _ _ c.in-Negated.is put
    (c.frame_of-frame-in-Negated.ensures ∙ ap (frame_of Negate false c.entry.inside.span 1) c.len-start.ensures) c.count_down.ensures
    (negated_up (is_blank c.args.names.now) (callee_in c.args.known.now) c.entry.inside.at c.entry.inside.span c.args.found.now c.args.frames.now c.args.stack.now
    c.open-in-Negated.new.stack c.args.nodes.now c.requires below names)))

pub returns-in-Conditional : goal.returns-in-Conditional
returns-in-Conditional c =
    rw (← c.entry.view_is)
    (three_ok c.open_conditional.result c.open_conditional.ensures.frames c.open_conditional.ensures.below c.open_conditional.ensures.shown
    (λ put below names.
    placed_both (is_blank c.args.names.now) (callee_in c.args.known.now) c.entry.inside.at c.entry.inside.span c.args.found.now c.args.frames.now c.args.stack.now
    c.open_conditional.new.stack c.args.nodes.now c.requires c.entry.inside.form c.len-start.result _ _ c.in-Conditional.is put c.len-start.ensures c.count_down.ensures
    (conditional_up (is_blank c.args.names.now) (callee_in c.args.known.now) c.entry.inside.at c.entry.inside.span c.args.found.now c.args.frames.now c.args.stack.now
    c.open_conditional.new.stack c.args.nodes.now c.requires below names)))

pub returns-in-Quantified : goal.returns-in-Quantified
returns-in-Quantified c =
    rw (← c.entry.view_is)
    (three_ok c.open_quantified.result c.open_quantified.ensures.frames c.open_quantified.ensures.below c.open_quantified.ensures.shown
    (λ put below names.
    placed (is_blank c.args.names.now) (callee_in c.args.known.now) c.entry.inside.at c.entry.inside.span c.args.found.now c.args.frames.now c.args.stack.now
    c.open_quantified.new.stack c.args.nodes.now c.requires _ _ _ _ _ _ c.in-Quantified.is put
    (ap (frame_of (Quantify (map (λ one. one.at) c.args.found.now)) false c.entry.inside.span 1) c.len-start.ensures) c.count_down.ensures
    (quantified_up (is_blank c.args.names.now) (callee_in c.args.known.now) c.entry.inside.at c.entry.inside.span c.args.found.now c.args.frames.now c.args.stack.now
    c.open_quantified.new.stack c.args.nodes.now c.requires below names c.in-Quantified.field-0)))

pub returns-in_default : goal.returns-in_default
returns-in_default c =
    let leaf =
    subst (λ (e : GoalEntry). IsLeaf (is_blank c.args.names.now) (callee_in c.args.known.now) e.form) c.entry.view_is
    (is_leaf (is_blank c.args.names.now) (callee_in c.args.known.now) c.entry.inside.form c.in_default.not-Conjunction c.in_default.not-Parallel c.in_default.not-Disjunction
    c.in_default.not-Conditional c.in_default.not-Negated c.in_default.not-Quantified) in
    two_ok c.put_simple.result c.put_simple.ensures.same c.put_simple.ensures.nodes
    (λ same put.
    leaf_placed (is_blank c.args.names.now) (callee_in c.args.known.now) c.args.entry.now.form c.args.entry.now.at c.args.entry.now.span c.args.found.now c.args.frames.now
    c.count_down.new.self c.args.stack.now c.put_simple.new.stack c.args.nodes.now c.put_simple.new.nodes c.count_down.ensures same
    (leaf_up (is_blank c.args.names.now) (callee_in c.args.known.now) c.args.entry.now.form c.args.entry.now.at c.args.entry.now.span c.args.found.now c.args.frames.now
    c.args.stack.now c.args.nodes.now c.put_simple.new.nodes c.requires leaf
    (λ scope names.
    put scope names
    ∙ ap (λ k. c.args.nodes.now ++ kept k c.args.entry.now.span (simple c.args.entry.now.span (simple_goals (is_blank c.args.names.now) (callee_in c.args.known.now) c.args.entry.now.form c.args.entry.now.at scope)))
    c.keeps-keeps.ensures)))
