use Rattle.std.proofs.Common.{◌≡◌, drop}
use Rattle.merc_switch_choice.specs.Choosing.{symbols_in}
use Rattle.merc_switch_choice.specs.Symbols.{all_symbols}
use Rattle.merc_switch_choice.proofs.covering.add_symbols.Given as goal

abbrev pub invariant-loop-disjunct : goal.invariant-loop-disjunct
invariant-loop-disjunct l = all_symbols l.symbols (symbols_in (drop l.disjunct-index l.disjuncts) l.variable) ≡ all_symbols l.fn.symbols (symbols_in l.disjuncts l.variable)
