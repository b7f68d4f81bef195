use Rattle.std.proofs.Common.{◌∙◌, [], ap, map, sym}
use Rattle.merc_grading.specs.Known.{symbol_of}
use Rattle.merc_switch_choice.specs.Choosing.{symbols_in, fellows_of}
use Rattle.merc_switch_choice.specs.Gaps.{symbol_of_gap}
use Rattle.merc_switch_choice.specs.Symbols.{all_symbols}
use Rattle.merc_switch_choice.proofs.CoverLaws.{covered_by}
use Rattle.merc_switch_choice.proofs.GapLaws.{all_avoid, found_none, found_some, none_of_all, uncovered_by}
use Rattle.merc_switch_choice.proofs.covering.is_covered.Goals as goal

pub keep_gap-requires : goal.keep_gap-requires
keep_gap-requires c =
    let disjuncts = c.args.disjuncts.now in
    let v = c.args.variable in
    let s = symbol_of_gap c.in-Some-2.gap in
    let missing = found_some _ _ _ _ c.in_ok-gap.ensures c.in-Some-2.is in
    all_avoid disjuncts v s (none_of_all disjuncts v _ s (ap (λ d. all_symbols [] (symbols_in d v)) c.as_slice-2.ensures) missing.is_none)

pub returns-in_ok-keep_gap-in-Some-2-clause-covered : goal.returns-in_ok-keep_gap-in-Some-2-clause-covered
returns-in_ok-keep_gap-in-Some-2-clause-covered c =
    let declared = c.args.known.now.types in
    let disjuncts = c.args.disjuncts.now in
    let v = c.args.variable in
    let s = symbol_of_gap c.in-Some-2.gap in
    let missing = found_some _ _ _ _ c.in_ok-gap.ensures c.in-Some-2.is in
    uncovered_by declared disjuncts v (map symbol_of c.in-Some.constructors.now) s (c.in-Some.ensures ∙ ap (λ d. fellows_of declared (symbols_in d v)) c.as_slice.ensures) missing.is_one
    (none_of_all disjuncts v _ s (ap (λ d. all_symbols [] (symbols_in d v)) c.as_slice-2.ensures) missing.is_none)

pub returns-in-None-clause-covered : goal.returns-in-None-clause-covered
returns-in-None-clause-covered c =
    let declared = c.args.known.now.types in
    let disjuncts = c.args.disjuncts.now in
    let v = c.args.variable in
    covered_by declared disjuncts v _ (map symbol_of c.in-Some.constructors.now) _ (c.in-Some.ensures ∙ ap (λ d. fellows_of declared (symbols_in d v)) c.as_slice.ensures)
    (ap (λ d. all_symbols [] (symbols_in d v)) c.as_slice-2.ensures) (sym (found_none _ _ _ c.in_ok-gap.ensures c.in-None.is))
