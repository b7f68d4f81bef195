use Rattle.std.proofs.Common.{rules, FitsSigned, sym, ◌∙◌}
use Rattle.std.specs.Int.{w64}
use Rattle.merc_meaning.specs.Arithmetic.{comparison}
use Rattle.merc_store.proofs.KindLemmas.{compare_lacks, compare_wants, compare_tells}
use Rattle.merc_store.proofs.ReadingLemmas.{none_of, read_both}
use Rattle.merc_store.proofs.store.Store.compare_variables.Goals as goal

pub returns-in_default : goal.returns-in_default
returns-in_default c = compare_lacks c.args.self.now c.args.comparison c.args.one c.args.other (sym c.integer.ensures ∙ none_of c.integer.result c.in_default.not-Some)

pub returns-in_default-integer : goal.returns-in_default-integer
returns-in_default-integer c = compare_wants c.args.self.now c.args.comparison c.args.one c.args.other c.in-Some.left (sym c.integer.ensures ∙ c.in-Some.is)
    (sym c.integer-2.ensures ∙ none_of c.integer-2.result c.in_default-integer.not-Some)

pub returns : goal.returns
returns c =
    let fits : FitsSigned w64 c.in-Some.left = search rules in
    let fits' : FitsSigned w64 c.in-Some-integer.right = search rules in
    compare_tells c.args.self.now c.args.comparison c.args.one c.args.other c.in-Some.left c.in-Some-integer.right c.holds.result (sym c.integer.ensures ∙ c.in-Some.is)
    (sym c.integer-2.ensures ∙ c.in-Some-integer.is)
    (sym (read_both (comparison c.args.comparison) c.in-Some.left c.in-Some-integer.right fits fits') ∙ sym c.holds.ensures)
