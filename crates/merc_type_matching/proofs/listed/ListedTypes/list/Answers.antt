use Rattle.std.proofs.Common.{ℕ, List, Option, Some, subst}
use Rattle.std.specs.Option.{IfSome}
use Rattle.std.specs.Ordering.{nat_cmp}
use Rattle.merc_type_table.specs.Table.{type_at}
use Rattle.merc_type_matching.specs.Matched.{AreMatched}
use Rattle.merc_type_matching.specs.declared.matching.NamePair.{NamePair}
use Rattle.merc_type_matching.proofs.Maps.{all_changed, number-equal}
use Rattle.merc_type_matching.proofs.listed.ListedTypes.list.Goals as goal

pub invariant_of-self-in_ok-insert-2 : goal.invariant_of-self-in_ok-insert-2
invariant_of-self-in_ok-insert-2 c =
    let matched : AreMatched c.in-Some.pairs (type_at c.self.inside.table c.args.number) (type_at c.self.inside.table c.args.number) =
    subst (λ (o : Option (List NamePair)). IfSome o (λ pairs. AreMatched pairs (type_at c.self.inside.table c.args.number) (type_at c.self.inside.table c.args.number)))
    c.in-Some.is c.in_ok-found.ensures in
    all_changed nat_cmp number-equal (λ (n : ℕ) (pairs : List NamePair). AreMatched pairs (type_at c.self.inside.table n) (type_at c.self.inside.table n)) c.self.inside.variables
    c.insert.new.self c.args.number (Some c.in-Some.pairs) c.in_ok-insert.ensures.updates.0 matched c.self.invariant
