-- The line of each end, with its status.
use Rattle.std.proofs.Common.{◌≡◌, ℕ, subst, sym}
use Rattle.std.specs.Prelude.{IfOk}
use Rattle.merc_solving.proofs.RunLemmas.{end_status-limit, end_status-raised}
use Rattle.merc_solving.proofs.solving.put_stop.Goals as goal

pub returns-in-Ended : goal.returns-in-Ended
returns-in-Ended g c = rw c.in-Ended.is (
  c.put_end.ensures.writes _ (c.solutions_line.ensures c.args.names.now),
  subst (λ (status : ℕ). IfOk c.put_end.result (λ told. told ≡ status)) c.ended_status.ensures c.put_end.ensures.status,
)

pub returns-in-Raised : goal.returns-in-Raised
returns-in-Raised g c = rw c.in-Raised.is (
  c.put_end-in-Raised.ensures.writes _ (c.exception_line.ensures c.args.count),
  subst (λ (status : ℕ). IfOk c.put_end-in-Raised.result (λ told. told ≡ status)) (sym (end_status-raised c.args.count c.in-Raised.text)) c.put_end-in-Raised.ensures.status,
)

pub returns-in-LimitPassed : goal.returns-in-LimitPassed
returns-in-LimitPassed g c = rw c.in-LimitPassed.is (
  c.put_end-in-LimitPassed.ensures.writes _ (c.step_limit_line.ensures c.args.names.now c.args.count),
  subst (λ (status : ℕ). IfOk c.put_end-in-LimitPassed.result (λ told. told ≡ status)) (sym (end_status-limit c.args.count)) c.put_end-in-LimitPassed.ensures.status,
)
