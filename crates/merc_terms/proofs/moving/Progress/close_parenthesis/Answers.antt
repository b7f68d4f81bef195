use Rattle.std.proofs.Common.{ap, length, arith}
use Rattle.merc_terms.specs.declared.built.Built.{Built}
use Rattle.merc_terms.proofs.BuiltLaws.{length-enclosed}
use Rattle.merc_terms.proofs.moving.Progress.close_parenthesis.Goals as goal

pub returns-in-Close-clause-kept : goal.returns-in-Close-clause-kept
returns-in-Close-clause-kept c =
    let before = ap (λ (built : Built). length built.terms) c.in-Close.ensures.built in
    let after = ap (λ (built : Built). length built.terms) c.enclose.ensures in
    let same = length-enclosed c.joined-span.result c.take_delimiter.new.self.built.terms in
    record { built = omega arith; few = omega (arith, c.in-Close.ensures.taken); taken = omega (arith, c.in-Close.ensures.taken) }
