-- What is asked of each fork: that its conjuncts' courses, one after the other, are like the trace of its goals.
use Rattle.std.proofs.Common.{◌≡◌, ℕ, true}
use Rattle.merc_graded_tree.specs.Variables.{in_nodes}
use Rattle.merc_meaning.specs.Trace.{Env}
use Rattle.merc_meaning.specs.Steps.{value_at}
use Rattle.merc_meaning.specs.Runs.{Program, all_trace, call_trace}
use Rattle.merc_plan.specs.Branch.{Hold, Fork, BranchCourses}
use Rattle.merc_plan.specs.EachFork.{value_before}
use Rattle.merc_plan.proofs.Flat.{Done, Answer, Like, events}
use Rattle.merc_plan.proofs.Judging.{flats}

pub record Shown (program : Program) (fork : Fork) (kids : BranchCourses) : Type 0 where
  pub env : Env
  pub begins : (variable : ℕ) → in_nodes fork.goals variable ≡ true → value_at env variable ≡ value_before fork.before variable
  pub depth : ℕ
  pub like : Like (λ (end : Hold) (found : Env). Unit {0}) (flats kids (Answer fork.before Done)) (events (all_trace program (call_trace program depth) fork.goals env))
