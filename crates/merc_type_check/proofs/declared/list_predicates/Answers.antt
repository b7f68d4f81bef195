use Rattle.std.proofs.Common.{List, length, refl, sym, subst}
use Rattle.std.proofs.lemmas.Option.{slice_get_read}
use Rattle.merc_tree.specs.Types.{TypeExpr}
use Rattle.merc_type_matching.specs.Listed.{AreWithin}
use Rattle.merc_type_check.proofs.Numbers.{all_at}
use Rattle.merc_type_check.proofs.declared.list_predicates.Goals as goal

pub list_all-requires : goal.list_all-requires
list_all-requires c =
    subst (λ (t : List TypeExpr). AreWithin t c.as_slice.result.now) (sym c.loop-numbers.invariant)
    (subst (AreWithin c.args.listed.now) (sym c.as_slice.ensures)
    (all_at (AreWithin c.args.listed.now) c.args.predicates.now c.loop-numbers.numbers-index c.numbers-item.result c.requires
    (slice_get_read c.args.predicates.now (length c.args.predicates.now) c.loop-numbers.numbers-index c.numbers-item.result refl c.loop-numbers-test.true c.numbers-item.is)))
