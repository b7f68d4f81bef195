use Rattle.std.proofs.Common.{◌∷◌, [], ◌∙◌, sym, subst}
use Rattle.merc_simple_goals.specs.Places.{AreFirstPlaces}
use Rattle.merc_simple_goals.proofs.Firsts.{gathered_all, one_is}
use Rattle.merc_simple_goals.proofs.writing.in_order.Goals as goal

pub returns-in-len1 : goal.returns-in-len1
returns-in-len1 c =
    let seen = c.args.seen.now in
    let one = one_is c.since.result.now c.only-item.result c.in-len1.len_at_least c.in-len1.len_below c.only-item.is in
    gathered_all c.args.start c.args.end seen c.args.all.now c.occurrences.result.now (c.only-item.result ∷ []) c.first_alone-places.result.now c.found_at.result c.requires (one ∙ c.since.ensures)
    c.first_alone-places.ensures c.occurrences.ensures c.found_at.ensures

pub returns-in_ok-places-in_default : goal.returns-in_ok-places-in_default
returns-in_ok-places-in_default c =
    gathered_all c.args.start c.args.end c.args.seen.now c.args.all.now c.occurrences-in_default.result.now c.since.result.now c.deref.result.now c.found_at-in_default.result c.requires c.since.ensures
    (subst (AreFirstPlaces c.args.start c.args.end c.since.result.now c.args.all.now) (sym c.deref.ensures.value) c.in_ok-places-in_default.ensures) c.occurrences-in_default.ensures c.found_at-in_default.ensures
