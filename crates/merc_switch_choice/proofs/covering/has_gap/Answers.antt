use Rattle.merc_grading.specs.Known.{symbol_of}
use Rattle.merc_switch_choice.specs.Choosing.{symbols_in}
use Rattle.merc_switch_choice.specs.Gaps.{symbol_of_gap}
use Rattle.std.proofs.Common.{map}
use Rattle.merc_switch_choice.proofs.GapLaws.{none_in, not_all}
use Rattle.merc_switch_choice.proofs.covering.has_gap.Goals as goal

pub returns-in-Some : goal.returns-in-Some
returns-in-Some c = λ told.
    let disjuncts = c.args.disjuncts.now in
    let symbol = symbol_of_gap c.in-Some.gap in
    not_all (symbols_in disjuncts c.args.variable) (map symbol_of c.args.constructors.now) symbol (c.is_in.ensures told) (none_in disjuncts c.args.variable symbol c.in-Some.ensures)
