use Rattle.std.proofs.Common.{◌≡◌, ℕ, List, Option, Some, ap, sym, subst, ◌∙◌}
use Rattle.std.specs.Prelude.{slice_get}
use Rattle.std.specs.Option.{IfSome}
use Rattle.merc_base.specs.Groups.{kept}
use Rattle.merc_tree.specs.Types.{TypeExpr}
use Rattle.merc_type_matching.specs.Listed.{AreWithin}
use Rattle.merc_type_check.proofs.declared.list_type.Goals as goal

pub list_all-requires : goal.list_all-requires
list_all-requires c =
    let found : slice_get (kept c.args.constructors.now c.constructor-item.result.name c.len.result) 0 ≡ Some c.in-Some.numbers.now =
    ap (λ (l : List (List ℕ)). slice_get l 0) (sym c.at.ensures) ∙ sym c.in-Some.ensures.value in
    subst (λ (t : List TypeExpr). AreWithin t c.as_slice.result.now) (sym c.loop-constructor.invariant)
    (subst (AreWithin c.args.listed.now) (sym c.as_slice.ensures)
    (subst (λ (o : Option (List ℕ)). IfSome o (AreWithin c.args.listed.now)) found (c.requires c.constructor-item.result.name c.len.result)))
