use Rattle.std.proofs.Common.{◌++◌, ap, ◌∙◌}
use Rattle.std.proofs.lemmas.Result.{on_ok_weaker}
use Rattle.merc_goals.specs.Entries.{GoalEntry}
use Rattle.merc_value.specs.Text.{is_blank}
use Rattle.merc_name_resolution.specs.Known.{callee_in}
use Rattle.merc_flat_form.specs.FlatForm.{simple}
use Rattle.merc_flat_form.specs.Frames.{closed}
use Rattle.merc_flat_form.specs.Steps.{simple_goals}
use Rattle.merc_flat_form.specs.declared.frames.Closing.TheVariants.{Join}
use Rattle.merc_flat_form.proofs.FlatLaws.{simple-put}
use Rattle.merc_flat_form.proofs.FrameLaws.{closed_behind}
use Rattle.merc_flat_form.proofs.simple.put_simple.Goals as goal

pub returns-then-keeps-clause-nodes : goal.returns-then-keeps-clause-nodes
returns-then-keeps-clause-nodes c scope names =
    let span = ap (λ (e : GoalEntry). e.span) c.entry.view_is in
    let put_all = c.in_ok-put_all.ensures ∙ ap (λ s. c.args.nodes.now ++ simple s c.in_ok-goals.goals.items) span in
    rw c.if-keeps.true
    (simple-put (is_blank c.args.names.now) (callee_in c.args.known.now) c.args.entry.now.form c.args.entry.now.at c.args.entry.now.span c.args.found.now c.args.stack.now
    c.enter.new.stack c.args.nodes.now c.put_all.new.nodes c.in_ok-goals.goals.items c.in_ok-enter.ensures.shown c.in_ok-goals.ensures put_all scope names)

pub returns-clause-nodes : goal.returns-clause-nodes
returns-clause-nodes c =
    let span = ap (λ (e : GoalEntry). e.span) c.entry.view_is in
    let put_all = c.in_ok-put_all.ensures ∙ ap (λ s. c.args.nodes.now ++ simple s c.in_ok-goals.goals.items) span in
    on_ok_weaker c.make_one.result
    (λ made scope names.
    let goals = simple c.args.entry.now.span (simple_goals (is_blank c.args.names.now) (callee_in c.args.known.now) c.args.entry.now.form c.args.entry.now.at scope) in
    let put = simple-put (is_blank c.args.names.now) (callee_in c.args.known.now) c.args.entry.now.form c.args.entry.now.at c.args.entry.now.span c.args.found.now
    c.args.stack.now c.enter.new.stack c.args.nodes.now c.put_all.new.nodes c.in_ok-goals.goals.items c.in_ok-enter.ensures.shown c.in_ok-goals.ensures
    put_all scope names in
    rw c.if-keeps.false
    (made ∙ ap (λ s. closed Join s c.len-start.result c.put_all.new.nodes) span ∙ ap (closed Join c.args.entry.now.span c.len-start.result) put ∙ ap (λ n. closed Join c.args.entry.now.span n (c.args.nodes.now ++ goals)) c.len-start.ensures
    ∙ closed_behind Join c.args.entry.now.span c.args.nodes.now goals tt))
    c.make_one.ensures
