use Rattle.std.proofs.Common.{◌≡◌, List, Option, None, Some, sym, subst, ◌∙◌}
use Rattle.std.specs.BTreeMap.{BTreeMap, get}
use Rattle.std.specs.Option.{IfSome}
use Rattle.merc_type_table.specs.Table.{type_at}
use Rattle.merc_type_matching.specs.Kept.{compare_numbers}
use Rattle.merc_type_matching.specs.Matched.{AreMatched}
use Rattle.merc_type_matching.specs.declared.matching.NamePair.{NamePair}
use Rattle.merc_type_matching.specs.declared.matching.NumberPair.{NumberPair}
use Rattle.merc_type_matching.proofs.Maps.{all_changed, numbers-equal}
use Rattle.merc_type_matching.proofs.matchings.Matchings.take.Goals as goal

pub returns-in-Some-clause-kept : goal.returns-in-Some-clause-kept
returns-in-Some-clause-kept c =
    all_changed compare_numbers numbers-equal (λ (key : NumberPair) (pairs : List NamePair). AreMatched pairs (type_at c.args.table.now key.one) (type_at c.args.table.now key.other))
    c.args.self.now.pairs c.remove.new.self c.args.types None c.remove.ensures.updates.0 tt c.requires.kept

pub returns-in-Some-clause-matched : goal.returns-in-Some-clause-matched
returns-in-Some-clause-matched c =
    let found : get compare_numbers c.args.self.now.pairs c.args.types ≡ Some c.in-Some.pairs = sym c.remove.ensures.value ∙ c.in-Some.is in
    subst (λ (o : Option (List NamePair)). IfSome o (λ pairs. AreMatched pairs (type_at c.args.table.now c.args.types.one) (type_at c.args.table.now c.args.types.other)))
    found (c.requires.kept c.args.types)

pub returns-in-None-clause-kept : goal.returns-in-None-clause-kept
returns-in-None-clause-kept c =
    subst (λ (m : BTreeMap NumberPair (List NamePair)). (key : NumberPair)
    → IfSome (get compare_numbers m key) (λ pairs. AreMatched pairs (type_at c.args.table.now key.one) (type_at c.args.table.now key.other)))
    (sym c.find.ensures.same)
    (all_changed compare_numbers numbers-equal (λ (key : NumberPair) (pairs : List NamePair). AreMatched pairs (type_at c.args.table.now key.one) (type_at c.args.table.now key.other))
    c.args.self.now.pairs c.remove.new.self c.args.types None c.remove.ensures.updates.0 tt c.requires.kept)
