use Rattle.std.proofs.Common.{rules, FitsSigned, sym, ◌∙◌}
use Rattle.std.specs.Int.{w64}
use Rattle.merc_store.proofs.KindLemmas.{integer_lacks, integer_tells}
use Rattle.merc_store.proofs.ReadingLemmas.{equal_bits}
use Rattle.merc_store.proofs.store.Store.has_integer.Goals as goal

pub returns-in-Some : goal.returns-in-Some
returns-in-Some c =
    let fits : FitsSigned w64 c.args.number = search rules in
    let fits' : FitsSigned w64 c.in-Some.found = search rules in
    integer_tells c.args.self.now c.args.whole c.args.number c.in-Some.found _ (sym c.integer.ensures ∙ c.in-Some.is) (equal_bits c.args.number c.in-Some.found fits fits')

pub returns-in-None : goal.returns-in-None
returns-in-None c = integer_lacks c.args.self.now c.args.whole c.args.number (sym c.integer.ensures ∙ c.in-None.is)
