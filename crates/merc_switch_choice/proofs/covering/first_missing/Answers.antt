use Rattle.std.proofs.Common.{◌≡◌, ◌∙◌, ap, sym, rules}
use Rattle.std.specs.List.{slice_index_or}
use Rattle.merc_grading.specs.Known.{has_symbol}
use Rattle.merc_switch_choice.specs.Gaps.{symbol_of_gap}
use Rattle.merc_switch_choice.proofs.GapLaws.{symbol_there}
use Rattle.merc_switch_choice.proofs.covering.first_missing.Goals as goal

pub returns-then-not-contains : goal.returns-then-not-contains
returns-then-not-contains c =
    let found = c.index-constructors-place.result in
    let at : found ≡ slice_index_or c.args.constructors.now c.loop-place.place found = search rules in
    record {
      is_one = symbol_there c.args.constructors.now c.loop-place.place found (symbol_of_gap c.of-gap.result) c.loop-place-test.true at c.of-gap.ensures;
      is_none = ap (has_symbol c.args.symbols.now) (sym c.symbol.ensures) ∙ sym c.contains.ensures ∙ c.if-not-contains.true;
    }
