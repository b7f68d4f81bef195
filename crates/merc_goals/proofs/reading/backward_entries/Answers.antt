use Rattle.std.proofs.Common.{◌≡◌, ◌+◌, ◌-◌, ◌∷◌, ◌++◌, [], length, ap, subst, sym}
use Rattle.merc_goals.specs.Plans.{plan}
use Rattle.merc_goals.specs.declared.planning.Task.TheVariants.{Read, Put}
use Rattle.merc_goals.proofs.NumberLaws.{TasksFit, fit_append, fit_popped, plan_fits}
use Rattle.merc_goals.proofs.Writing.{read_step, put_step}
use Rattle.merc_goals.proofs.PlanWriting.{writes_plan}
use Rattle.merc_goals.proofs.PlanSizes.{read_size, put_size}
use Rattle.merc_goals.proofs.reading.backward_entries.Goals as goal

pub loop-task-smaller-in-Continue-branch-2 : goal.loop-task-smaller-in-Continue-branch-2
loop-task-smaller-in-Continue-branch-2 c =
    let popping : c.loop-task.tasks.items ≡ c.pop.new.self.items ++ Read c.in-Read.numbered ∷ [] = cc (c.in-Some.ensures.items, c.in-Read.is) in
    read_size c.len.result c.loop-task.tasks.items c.pop.new.self.items c.plan.new.tasks.items c.in-Read.numbered popping c.in_ok-plan-in-Read.ensures

pub loop-task-preserved-in-Continue-branch-2 : goal.loop-task-preserved-in-Continue-branch-2
loop-task-preserved-in-Continue-branch-2 c =
    let popping : c.loop-task.tasks.items ≡ c.pop.new.self.items ++ Read c.in-Read.numbered ∷ [] = cc (c.in-Some.ensures.items, c.in-Read.is) in
    let starting : length c.loop-task.entries.items ≡ c.len.result = cc (c.loop-task.entries.ok.0, c.len.ensures) in
    let popped = fit_popped c.pop.new.self.items (Read c.in-Read.numbered) (subst TasksFit popping c.loop-task.invariant.fit) in
    record {
      written = read_step c.len.result c.loop-task.tasks.items c.pop.new.self.items c.plan.new.tasks.items (plan c.len.result c.in-Read.numbered) c.in-Read.numbered
          c.loop-task.entries.items starting popping c.in_ok-plan-in-Read.ensures (writes_plan c.len.result c.in-Read.numbered) _ c.loop-task.invariant.written;
      fit = subst TasksFit (sym c.in_ok-plan-in-Read.ensures) (fit_append c.pop.new.self.items (plan c.len.result c.in-Read.numbered) popped.0 (plan_fits c.len.result c.in-Read.numbered c.keeps_limit.ensures));
    }

pub loop-task-smaller : goal.loop-task-smaller
loop-task-smaller c =
    let popping : c.loop-task.tasks.items ≡ c.pop.new.self.items ++ Put c.in-Put.form c.in-Put.at c.in-Put.span c.in-Put.start ∷ [] = cc (c.in-Some.ensures.items, c.in-Put.is) in
    put_size c.loop-task.tasks.items c.pop.new.self.items c.in-Put.form c.in-Put.at c.in-Put.span c.in-Put.start popping

pub loop-task-preserved : goal.loop-task-preserved
loop-task-preserved c =
    let popping : c.loop-task.tasks.items ≡ c.pop.new.self.items ++ Put c.in-Put.form c.in-Put.at c.in-Put.span c.in-Put.start ∷ [] = cc (c.in-Some.ensures.items, c.in-Put.is) in
    let size : c.saturating_sub-size.result ≡ length c.loop-task.entries.items - c.in-Put.start = cc (c.loop-task.entries.ok.0, c.len-in-Put.ensures, c.saturating_sub-size.ensures) in
    record {
      written = put_step c.loop-task.tasks.items c.pop.new.self.items c.in-Put.form c.in-Put.at c.in-Put.span c.in-Put.start (c.saturating_sub-size.result + 1)
          c.loop-task.entries.items c.push-in-Put.new.self.items popping (ap (λ n. n + 1) size) c.in_ok-push-in-Put.ensures.items _ c.loop-task.invariant.written;
      fit = (fit_popped c.pop.new.self.items (Put c.in-Put.form c.in-Put.at c.in-Put.span c.in-Put.start) (subst TasksFit popping c.loop-task.invariant.fit)).0;
    }
