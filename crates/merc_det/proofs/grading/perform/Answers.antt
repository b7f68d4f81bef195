use Rattle.std.proofs.Common.{length, refl}
use Rattle.std.proofs.lemmas.Result.{on_ok_weaker}
use Rattle.merc_order.specs.Procedures.{modes_of}
use Rattle.merc_det.specs.declared.planning.Task.TheVariants.{Withhold, Recall, Learn, Forget, Close}
use Rattle.merc_det.proofs.Counting.{grade_enough, grade_fewer, beside_enough, beside_fewer, some_enough, recall_enough_left, recall_fewer, tells_enough, tells_fewer, done_enough, close_enough, rest_fewer}
use Rattle.merc_det.proofs.Keeping.{grade_keeps, beside_keeps, withhold_keeps, recall_keeps, tell_keeps, learn_keeps, forget_keeps, close_keeps, both_ok}
use Rattle.merc_det.specs.Tasks.{last_has_none}
use Rattle.merc_det.proofs.grading.perform.Goals as goal

pub close-requires : goal.close-requires
close-requires c = close_enough c.args.tasks.now.items c.args.task c.in-Close.goal (length c.args.nodes.now) c.in-Close.is c.requires

pub returns-in-Grade-clause-same : goal.returns-in-Grade-clause-same
returns-in-Grade-clause-same c =
    on_ok_weaker c.plan.result (λ planned types. grade_keeps c.args.known.now.types (modes_of c.args.known.now.preds) types c.args.tasks.now.items c.plan.new.tasks.items c.args.task
    c.len.result c.in-Grade.goal c.args.nodes.now c.args.seen.now c.in-Grade.is c.len.ensures planned) c.plan.ensures

pub returns-in-Grade-clause-enough : goal.returns-in-Grade-clause-enough
returns-in-Grade-clause-enough c =
    on_ok_weaker c.plan.result (λ planned. grade_enough c.args.tasks.now.items c.plan.new.tasks.items c.args.task c.len.result c.in-Grade.goal (length c.args.nodes.now)
    c.in-Grade.is planned c.requires) c.plan.ensures

pub returns-in-Grade-clause-fewer : goal.returns-in-Grade-clause-fewer
returns-in-Grade-clause-fewer c =
    on_ok_weaker c.plan.result (λ planned. grade_fewer c.args.tasks.now.items c.plan.new.tasks.items c.args.task c.len.result c.in-Grade.goal c.in-Grade.is planned) c.plan.ensures

pub returns-in-Beside-clause-same : goal.returns-in-Beside-clause-same
returns-in-Beside-clause-same c =
    on_ok_weaker c.plan_beside.result (λ planned types. beside_keeps c.args.known.now.types (modes_of c.args.known.now.preds) types c.args.tasks.now.items c.plan_beside.new.tasks.items c.args.task
    c.len-in-Beside.result c.in-Beside.goal c.args.nodes.now c.args.seen.now c.in-Beside.is c.len-in-Beside.ensures planned) c.plan_beside.ensures

pub returns-in-Beside-clause-enough : goal.returns-in-Beside-clause-enough
returns-in-Beside-clause-enough c =
    on_ok_weaker c.plan_beside.result (λ planned. beside_enough c.args.tasks.now.items c.plan_beside.new.tasks.items c.args.task c.len-in-Beside.result c.in-Beside.goal (length c.args.nodes.now)
    c.in-Beside.is planned c.requires) c.plan_beside.ensures

pub returns-in-Beside-clause-fewer : goal.returns-in-Beside-clause-fewer
returns-in-Beside-clause-fewer c =
    on_ok_weaker c.plan_beside.result (λ planned. beside_fewer c.args.tasks.now.items c.plan_beside.new.tasks.items c.args.task c.len-in-Beside.result c.in-Beside.goal c.in-Beside.is planned) c.plan_beside.ensures

pub withhold-requires : goal.withhold-requires
withhold-requires c = some_enough c.args.tasks.now.items c.args.task (Withhold c.in-Withhold.length) (length c.args.nodes.now) c.in-Withhold.is refl c.requires

pub returns-in-Withhold-clause-same : goal.returns-in-Withhold-clause-same
returns-in-Withhold-clause-same c = λ types.
    withhold_keeps c.args.known.now.types (modes_of c.args.known.now.preds) types c.args.tasks.now.items c.args.task c.in-Withhold.length c.args.nodes.now c.args.seen.now c.withhold.new.seen
    c.in-Withhold.is c.withhold.ensures

pub returns-in-Withhold-clause-enough : goal.returns-in-Withhold-clause-enough
returns-in-Withhold-clause-enough c =
    done_enough c.args.tasks.now.items c.args.task (Withhold c.in-Withhold.length) (length c.args.nodes.now) (length c.args.nodes.now) c.in-Withhold.is refl c.requires

pub returns-in-Withhold-clause-fewer : goal.returns-in-Withhold-clause-fewer
returns-in-Withhold-clause-fewer c = rest_fewer c.args.tasks.now.items c.args.task

pub recall-requires : goal.recall-requires
recall-requires c = some_enough c.args.tasks.now.items c.args.task (Recall c.in-Recall.goal) (length c.args.nodes.now) c.in-Recall.is refl c.requires

pub returns-in-Recall-clause-same : goal.returns-in-Recall-clause-same
returns-in-Recall-clause-same c =
    on_ok_weaker c.recall.result (λ left types. recall_keeps c.args.known.now.types (modes_of c.args.known.now.preds) types c.args.tasks.now.items c.recall.new.tasks.items c.args.task
    c.in-Recall.goal c.args.nodes.now c.args.seen.now c.in-Recall.is left) c.recall.ensures

pub returns-in-Recall-clause-enough : goal.returns-in-Recall-clause-enough
returns-in-Recall-clause-enough c =
    on_ok_weaker c.recall.result (λ left. recall_enough_left (last_has_none c.args.nodes.now) c.args.tasks.now.items c.recall.new.tasks.items c.args.task c.in-Recall.goal (length c.args.nodes.now)
    c.in-Recall.is left c.requires) c.recall.ensures

pub returns-in-Recall-clause-fewer : goal.returns-in-Recall-clause-fewer
returns-in-Recall-clause-fewer c =
    on_ok_weaker c.recall.result (λ left. recall_fewer (last_has_none c.args.nodes.now) c.args.tasks.now.items c.recall.new.tasks.items c.args.task c.in-Recall.goal c.in-Recall.is left) c.recall.ensures

pub returns-in-Tell-clause-same : goal.returns-in-Tell-clause-same
returns-in-Tell-clause-same c =
    both_ok c.tell.result (λ told left types. tell_keeps c.args.known.now.types (modes_of c.args.known.now.preds) types c.args.tasks.now.items c.tell.new.tasks.items c.args.task
    c.in-Tell.goal c.args.nodes.now c.args.seen.now c.tell.new.seen c.in-Tell.is told left) c.tell.ensures.known c.tell.ensures.tasks

pub returns-in-Tell-clause-enough : goal.returns-in-Tell-clause-enough
returns-in-Tell-clause-enough c =
    on_ok_weaker c.tell.result (λ left. tells_enough c.args.tasks.now.items c.tell.new.tasks.items c.args.task c.in-Tell.goal (length c.args.nodes.now) c.in-Tell.is left c.requires) c.tell.ensures.tasks

pub returns-in-Tell-clause-fewer : goal.returns-in-Tell-clause-fewer
returns-in-Tell-clause-fewer c =
    on_ok_weaker c.tell.result (λ left. tells_fewer c.args.tasks.now.items c.tell.new.tasks.items c.args.task c.in-Tell.goal c.in-Tell.is left) c.tell.ensures.tasks

pub returns-in-Learn-clause-same : goal.returns-in-Learn-clause-same
returns-in-Learn-clause-same c =
    on_ok_weaker c.learn.result (λ learned types. learn_keeps c.args.known.now.types (modes_of c.args.known.now.preds) types c.args.tasks.now.items c.args.task
    c.in-Learn.variable c.in-Learn.symbol c.args.nodes.now c.args.seen.now c.learn.new.self c.in-Learn.is learned) c.learn.ensures

pub returns-in-Learn-clause-enough : goal.returns-in-Learn-clause-enough
returns-in-Learn-clause-enough c =
    on_ok_weaker c.learn.result (λ learned. done_enough c.args.tasks.now.items c.args.task (Learn c.in-Learn.variable c.in-Learn.symbol) (length c.args.nodes.now) (length c.args.nodes.now)
    c.in-Learn.is refl c.requires) c.learn.ensures

pub returns-in-Learn-clause-fewer : goal.returns-in-Learn-clause-fewer
returns-in-Learn-clause-fewer c = on_ok_weaker c.learn.result (λ learned. rest_fewer c.args.tasks.now.items c.args.task) c.learn.ensures

pub returns-in-Forget-clause-same : goal.returns-in-Forget-clause-same
returns-in-Forget-clause-same c = λ types.
    forget_keeps c.args.known.now.types (modes_of c.args.known.now.preds) types c.args.tasks.now.items c.args.task c.in-Forget.length c.args.nodes.now c.args.seen.now c.forget.new.self
    c.in-Forget.is c.forget.ensures

pub returns-in-Forget-clause-enough : goal.returns-in-Forget-clause-enough
returns-in-Forget-clause-enough c =
    done_enough c.args.tasks.now.items c.args.task (Forget c.in-Forget.length) (length c.args.nodes.now) (length c.args.nodes.now) c.in-Forget.is refl c.requires

pub returns-in-Forget-clause-fewer : goal.returns-in-Forget-clause-fewer
returns-in-Forget-clause-fewer c = rest_fewer c.args.tasks.now.items c.args.task

pub returns-in-Close-clause-same : goal.returns-in-Close-clause-same
returns-in-Close-clause-same c =
    both_ok c.close.result (λ made known types. close_keeps c.args.known.now.types (modes_of c.args.known.now.preds) types c.args.tasks.now.items c.args.task c.in-Close.goal
    c.args.nodes.now c.close.new.graded c.args.seen.now c.close.new.seen c.in-Close.is (made types) known) c.close.ensures.goals c.close.ensures.known

pub returns-in-Close-clause-enough : goal.returns-in-Close-clause-enough
returns-in-Close-clause-enough c =
    on_ok_weaker c.close.result (λ count. done_enough c.args.tasks.now.items c.args.task (Close c.in-Close.goal) (length c.args.nodes.now) (length c.close.new.graded)
    c.in-Close.is count c.requires) c.close.ensures.count

pub returns-in-Close-clause-fewer : goal.returns-in-Close-clause-fewer
returns-in-Close-clause-fewer c = on_ok_weaker c.close.result (λ count. rest_fewer c.args.tasks.now.items c.args.task) c.close.ensures.count
