use Rattle.std.proofs.Common.{◌≡◌, length}
use Rattle.merc_value.specs.Text.{is_blank}
use Rattle.merc_flat_form.specs.Levels.{scope_of}
use Rattle.merc_flat_form.proofs.HeadLaws.{head_step}
use Rattle.merc_flat_form.proofs.heads.plan_head.Goals as goal

pub loop-last-preserved : goal.loop-last-preserved
loop-last-preserved c =
    let counting : c.len.result ≡ length c.pop.new.self.items = cc (c.len.ensures, c.pop.new.self.ok.0) in
    head_step (is_blank c.args.names.now) (scope_of c.args.stack.now) c.loop-last.tasks.items c.plan_argument.new.tasks.items
    c.loop-last.rest.items c.pop.new.self.items c.in-Some.last c.len.result _ c.in-Some.ensures.items counting c.in_ok-plan_argument.ensures c.loop-last.invariant
