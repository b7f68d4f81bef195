-- A file that breaks a rule is refused by that rule; else the goal is looked at.
use Rattle.std.proofs.Common.{◌≤◌, arith, lit<, subst, List, ℕ, length}
use Rattle.merc_check.specs.Checked.{IsAccepted, Refuses}
use Rattle.merc_transfer.specs.Loading.{file_limit}
use Rattle.merc_transfer.specs.Statuses.{module_status}
use Rattle.merc_top.specs.Output.IsDue.{module_refused}
use Rattle.merc_top.proofs.Dues.{fault-goal}
use Rattle.merc_top.proofs.answering.find_run.Goals as goal

pub check-requires-clause-length : goal.check-requires-clause-length
unfolding file_limit
check-requires-clause-length c = let within : length c.args.text.now ≤ 1048576 = c.requires in omega (arith, within)

pub find_goal-found-requires : goal.find_goal-found-requires
find_goal-found-requires c = (
  c.args.text.now,
  subst (λ (names : List (List ℕ)). IsAccepted names c.check.new.names c.args.text.now c.in-Ok.checked.items c.in-Ok.checked.module) c.new-names.ensures c.in-Ok.ensures.accepted,
)

pub returns-in-Ok : goal.returns-in-Ok
returns-in-Ok c =
    c.find_goal-found.ensures c.args.name.now c.args.text.now
    (subst (λ (names : List (List ℕ)). IsAccepted names c.check.new.names c.args.text.now c.in-Ok.checked.items c.in-Ok.checked.module) c.new-names.ensures c.in-Ok.ensures.accepted)
    c.in-Ok.ensures.graded

pub returns-in_ok-due-in-Err : goal.returns-in_ok-due-in-Err
returns-in_ok-due-in-Err c =
    fault-goal c.args.name.now c.args.text.now c.args.goal.now c.bytes.result.now c.args.name.now c.args.steps c.args.most.now module_status c.in-Err.fault c.in_ok-due-in-Err.due
    (Refuses c.new-names.result c.args.text.now) c.bytes.ensures (lit< tt)
    (λ refusal refuses. module_refused refusal (subst (λ (names : List (List ℕ)). Refuses names c.args.text.now refusal) c.new-names.ensures refuses)) c.in-Err.ensures.refused c.in_ok-due-in-Err.ensures
