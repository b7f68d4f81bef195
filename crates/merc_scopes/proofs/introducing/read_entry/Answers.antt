use Rattle.std.proofs.Common.{◌≡◌, ◌≤◌, List, length, map, ap, subst, sym, ◌∙◌}
use Rattle.std.proofs.lemmas.Result.{IfOk-weaker}
use Rattle.merc_goals.specs.Entries.{GoalEntry}
use Rattle.merc_goals.specs.declared.goal.Form.TheVariants.{Quantified as QuantifiedForm}
use Rattle.merc_scopes.specs.declared.occurrence.Occurrence.{Occurrence}
use Rattle.merc_value.specs.Text.{is_blank}
use Rattle.merc_scopes.specs.Scopes.{free}
use Rattle.merc_scopes.specs.Standing.{needs}
use Rattle.merc_scopes.proofs.Reading.{read_called, read_conjunction, read_disjunction, read_conditional, read_quantified}
use Rattle.merc_scopes.proofs.introducing.read_entry.Goals as goal

pub returns-in_ok-listing-in-Called : goal.returns-in_ok-listing-in-Called
returns-in_ok-listing-in-Called c =
    let entry = c.entry.inside in
    rw (← c.entry.view_is)
    (IfOk-weaker c.push_leaf.result _ _
    (λ (found : List Occurrence) pushed. λ goals stands.
    read_called (is_blank c.args.names.now) entry.form _ c.in-Called.is entry.at entry.span c.args.stack.now.items c.push_leaf.new.stack.items c.in_ok-listing-in-Called.listing found goals
    pushed.1 pushed.0 c.in_ok-listing-in-Called.ensures stands)
    c.push_leaf.ensures)

pub returns-in_ok-join_first-in-Disjunction : goal.returns-in_ok-join_first-in-Disjunction
returns-in_ok-join_first-in-Disjunction c = λ goals stands.
    let entry = c.entry.inside in
    rw (← c.entry.view_is)
    (read_disjunction (is_blank c.args.names.now) entry.form _ c.in-Disjunction.is entry.at entry.span c.join_first.new.stack.items goals _ _
    (c.in_ok-join_first-in-Disjunction.ensures.joined (map (free (is_blank c.args.names.now)) goals) stands) c.new.ensures)

pub returns-in_ok-join_first-in-Conditional : goal.returns-in_ok-join_first-in-Conditional
returns-in_ok-join_first-in-Conditional c = λ goals stands.
    let entry = c.entry.inside in
    let enough : needs entry.form ≤ length c.args.stack.now.items = subst (λ (e : GoalEntry). needs e.form ≤ length c.args.stack.now.items) (sym c.entry.view_is) c.requires in
    rw (← c.entry.view_is)
    (read_conditional (is_blank c.args.names.now) entry.form c.in-Conditional.is entry.at c.args.stack.now.items c.join_first-in-Conditional.new.stack.items
    c.join_first-in-Conditional-2.new.stack.items entry.span c.in_ok-shared-in-Conditional.shared _ goals enough stands
    c.in_ok-shared-in-Conditional.ensures.joined c.in_ok-join_first-in-Conditional.ensures.joined)

pub returns-in-Quantified : goal.returns-in-Quantified
returns-in-Quantified c =
    let entry = c.entry.inside in
    let enough : needs entry.form ≤ length c.args.stack.now.items = subst (λ (e : GoalEntry). needs e.form ≤ length c.args.stack.now.items) (sym c.entry.view_is) c.requires in
    let is : entry.form ≡ QuantifiedForm c.as_slice.result.now = c.in-Quantified.is ∙ ap QuantifiedForm (sym c.as_slice.ensures) in
    rw (← c.entry.view_is)
    (IfOk-weaker c.quantify.result _ _
    (λ (list : List Occurrence) taken. λ goals stands.
    read_quantified (is_blank c.args.names.now) entry.form c.as_slice.result.now is entry.at c.args.stack.now.items c.quantify.new.stack.items entry.span list goals enough stands taken)
    c.quantify.ensures)

pub returns-in-Conjunction : goal.returns-in-Conjunction
returns-in-Conjunction c =
    let entry = c.entry.inside in
    rw (← c.entry.view_is)
    (IfOk-weaker c.join_first-in-Conjunction.result _ _
    (λ (found : List Occurrence) joined. λ goals stands.
    read_conjunction (is_blank c.args.names.now) entry.form _ c.in-Conjunction.is entry.at entry.span c.join_first-in-Conjunction.new.stack.items goals found
    (joined (map (free (is_blank c.args.names.now)) goals) stands))
    c.join_first-in-Conjunction.ensures.joined)
