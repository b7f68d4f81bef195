use Rattle.std.proofs.lemmas.Result.{on_ok_weaker}
use Rattle.merc_goals.specs.Written.{written_span}
use Rattle.merc_name_resolution.specs.Known.{callee_in}
use Rattle.merc_value.specs.Text.{is_blank}
use Rattle.merc_flat_form.specs.Levels.{scope_of}
use Rattle.merc_flat_form.specs.FlatForm.{flat}
use Rattle.merc_flat_form.proofs.WholeGoals.{made_one}
use Rattle.merc_flat_form.proofs.flattening.put_whole.Goals as goal

pub returns : goal.returns
returns c =
    on_ok_weaker c.make_one.result
    (λ made.
    made_one (written_span c.args.goal.now) c.span.result c.len-start.result c.args.nodes.now
    (flat (is_blank c.args.names.now) (callee_in c.args.known.now) (scope_of c.args.stack.now) c.args.goal.now) c.put_goal.new.nodes c.make_one.new.nodes made
    c.span.ensures c.len-start.ensures c.in_ok-put_goal.ensures)
    c.make_one.ensures
