-- No target so far is the one.
use Rattle.std.proofs.Common.{◌≡◌, drop}
use Rattle.merc_value.specs.Value.{Value}
use Rattle.merc_code.specs.Steps.{target_of}
use Rattle.merc_store.specs.Performing.{head_of}
use Rattle.merc_store.proofs.splitting.first_target.Given as goal

abbrev pub invariant-loop-target : goal.invariant-loop-target
invariant-loop-target l = (value : Value) → l.head ≡ head_of value → target_of value (drop l.target-index l.targets) ≡ target_of value l.targets
