use Rattle.std.proofs.Common.{◌≡◌, List, Option, Some, ap, sym, subst, ◌∙◌}
use Rattle.std.specs.Option.{IfSome, option_copied}
use Rattle.std.specs.Ordering.{nat_cmp}
use Rattle.std.specs.BTreeMap.{get}
use Rattle.merc_tree.specs.Types.{TypeExpr}
use Rattle.merc_type_table.specs.Table.{type_at}
use Rattle.merc_type_matching.specs.Matched.{AreMatched}
use Rattle.merc_type_matching.specs.declared.matching.NamePair.{NamePair}
use Rattle.merc_type_matching.proofs.listed.ListedTypes.variables_of.Goals as goal

pub returns-in-Some : goal.returns-in-Some
returns-in-Some c =
    let at : get nat_cmp c.self.inside.variables c.args.number ≡ Some c.in-Some.pairs.now = sym c.get.ensures.value ∙ ap option_copied c.in-Some.is in
    let listed : AreMatched c.in-Some.pairs.now (type_at c.self.inside.table c.args.number) (type_at c.self.inside.table c.args.number) =
    subst (λ (o : Option (List NamePair)). IfSome o (λ pairs. AreMatched pairs (type_at c.self.inside.table c.args.number) (type_at c.self.inside.table c.args.number))) at
    (c.self.invariant c.args.number) in
    subst (λ (l : List NamePair). AreMatched l (type_at c.args.self.now c.args.number) (type_at c.args.self.now c.args.number)) (sym c.as_slice.ensures)
    (subst (λ (t : List TypeExpr). AreMatched c.in-Some.pairs.now (type_at t c.args.number) (type_at t c.args.number)) c.self.view_is listed)
