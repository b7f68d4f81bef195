use Rattle.std.proofs.Common.{◌<◌, List, length, refl, sym, subst}
use Rattle.std.proofs.lemmas.Option.{slice_get_read}
use Rattle.merc_tree.specs.Types.{TypeExpr}
use Rattle.merc_type_matching.proofs.Parts.{within_at}
use Rattle.merc_type_matching.proofs.listed.ListedTypes.list_all.Goals as goal

pub list-requires : goal.list-requires
list-requires c =
    subst (λ (t : List TypeExpr). c.number-item.result < length t) (sym c.loop-number.invariant)
    (within_at c.args.self.now c.args.numbers.now c.loop-number.number-index c.number-item.result c.requires
    (slice_get_read c.args.numbers.now (length c.args.numbers.now) c.loop-number.number-index c.number-item.result refl c.loop-number-test.true c.number-item.is))
