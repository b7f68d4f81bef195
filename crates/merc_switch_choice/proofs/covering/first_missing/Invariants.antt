use Rattle.std.proofs.Common.{◌≡◌, drop, map}
use Rattle.std.specs.List.{list_all}
use Rattle.merc_grading.specs.Known.{has_symbol, symbol_of}
use Rattle.merc_switch_choice.proofs.covering.first_missing.Given as goal

abbrev pub invariant-loop-place : goal.invariant-loop-place
invariant-loop-place l =
    list_all (λ symbol. has_symbol l.symbols symbol) (map symbol_of (drop l.place l.constructors)) ≡ list_all (λ symbol. has_symbol l.symbols symbol) (map symbol_of l.constructors)
