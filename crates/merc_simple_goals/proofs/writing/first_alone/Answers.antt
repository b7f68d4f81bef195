use Rattle.std.proofs.Common.{◌∙◌, length, sym}
use Rattle.std.proofs.lemmas.Bool.{eqb-true}
use Rattle.merc_simple_goals.proofs.Firsts.{alone, none_alone}
use Rattle.merc_simple_goals.proofs.writing.first_alone.Goals as goal

pub returns-then-is_empty : goal.returns-then-is_empty
returns-then-is_empty c =
    none_alone c.args.start c.args.end c.args.variable c.args.all.now c.within-places.result.now c.within-places.ensures
    (eqb-true (length c.within-places.result.now) 0 (sym c.is_empty.ensures ∙ c.if-is_empty.true))

pub returns-else-is_empty : goal.returns-else-is_empty
returns-else-is_empty c = alone c.args.start c.args.end c.args.variable c.args.all.now c.within-places.result.now c.within-places.ensures
