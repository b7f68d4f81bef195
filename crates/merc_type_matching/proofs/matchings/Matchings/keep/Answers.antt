use Rattle.std.proofs.Common.{List, Some}
use Rattle.merc_type_table.specs.Table.{type_at}
use Rattle.merc_type_matching.specs.Kept.{compare_numbers}
use Rattle.merc_type_matching.specs.Matched.{AreMatched}
use Rattle.merc_type_matching.specs.declared.matching.NamePair.{NamePair}
use Rattle.merc_type_matching.specs.declared.matching.NumberPair.{NumberPair}
use Rattle.merc_type_matching.proofs.Maps.{all_changed, numbers-equal}
use Rattle.merc_type_matching.proofs.matchings.Matchings.keep.Goals as goal

pub returns : goal.returns
returns c = λ table kept matched.
    all_changed compare_numbers numbers-equal (λ (key : NumberPair) (pairs : List NamePair). AreMatched pairs (type_at table key.one) (type_at table key.other)) c.count_more.new.self.pairs
    c.insert.new.self c.args.types (Some c.args.pairs) c.in_ok-insert.ensures.updates.0 matched (c.count_more.ensures table kept)
