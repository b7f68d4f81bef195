use Rattle.std.proofs.Common.{◌≤◌, ap, length, arith}
use Rattle.merc_terms.specs.declared.built.Built.{Built}
use Rattle.merc_terms.proofs.BuiltLaws.{length-with_list}
use Rattle.merc_terms.proofs.moving.Progress.go_on_list.Goals as goal

pub returns-in_ok-apply_list-in-CloseList-clause-kept : goal.returns-in_ok-apply_list-in-CloseList-clause-kept
returns-in_ok-apply_list-in-CloseList-clause-kept c =
    let before = ap (λ (built : Built). length built.terms) c.in-CloseList.ensures.built in
    let after = ap (λ (built : Built). length built.terms) c.in_ok-apply_list-in-CloseList.ensures in
    let enough : c.args.count ≤ length c.take_delimiter.new.self.built.terms = omega arith in
    let fewer = length-with_list c.args.count c.joined-span.result c.take_delimiter.new.self.built enough in
    record { built = omega arith; few = omega (arith, c.in-CloseList.ensures.taken); taken = omega (arith, c.in-CloseList.ensures.taken) }
