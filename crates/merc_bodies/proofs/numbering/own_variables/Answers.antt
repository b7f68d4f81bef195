use Rattle.std.proofs.Common.{ap, ◌∙◌}
use Rattle.std.proofs.lemmas.List.Filters.{dedup_is}
use Rattle.merc_bodies.specs.Bodies.{rising}
use Rattle.merc_bodies.proofs.Rising.{sorted_once}
use Rattle.merc_bodies.proofs.numbering.own_variables.Goals as goal

pub returns : goal.returns
returns c =
    dedup_is _ _ _ c.dedup.ensures.filtered
    ∙ sorted_once c.in_ok-own.own.items c.sort.new.self.items c.in_ok-sort.ensures.permutation c.in_ok-sort.ensures.sorted
    ∙ ap rising c.in_ok-own.ensures
