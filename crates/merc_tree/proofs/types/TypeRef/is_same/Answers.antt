use Rattle.std.proofs.Common.{sym, ◌∙◌}
use Rattle.merc_tree.proofs.TypeLaws.{same_kept}
use Rattle.merc_tree.proofs.types.TypeRef.is_same.Goals as goal

pub returns : goal.returns
returns c =
    let kept = same_kept c.self.inside.term c.other.inside.term c.self.invariant c.other.invariant in (
      λ yes. sym c.self.view_is ∙ kept.0 (c.is_same.ensures.0 yes) ∙ c.other.view_is,
      λ same. c.is_same.ensures.1 (kept.1 (c.self.view_is ∙ same ∙ sym c.other.view_is)),
    )
