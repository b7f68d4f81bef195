use Rattle.std.proofs.Common.{take}
use Rattle.merc_det.specs.Symbols.{AreKeys}
use Rattle.merc_det.proofs.symbols.keys_of.Given as goal

abbrev pub invariant-loop-symbol : goal.invariant-loop-symbol
invariant-loop-symbol l = AreKeys l.keys (take l.symbol-index l.symbols)
