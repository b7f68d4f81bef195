use Rattle.std.proofs.Common.{◌≡◌, ◌||◌, ℕ, drop}
use Rattle.merc_order.specs.Bound.{among}
use Rattle.merc_readiness.specs.Sweeps.{Extends}
use Rattle.merc_goal_order.specs.Watching.{some_binds}
use Rattle.merc_goal_order.proofs.watching.unbound_in.Given as goal

abbrev pub invariant-loop-found : goal.invariant-loop-found
invariant-loop-found l = record {
  extends : Extends l.fn.bound l.bound;
  reach : (variable : ℕ) → (among l.fn.bound variable || some_binds l.facts variable) ≡ (among l.bound variable || some_binds (drop l.found-index l.facts) variable);
}
