use Rattle.std.proofs.Common.{◌≡◌, ◌++◌, drop}
use Rattle.merc_carried.specs.Sharing.{moves_given}
use Rattle.merc_pool.proofs.shares.given_of.Given as goal

abbrev pub invariant-loop-one : goal.invariant-loop-one
invariant-loop-one l = l.given.items ++ moves_given (drop l.one-index l.moves) ≡ moves_given l.moves
