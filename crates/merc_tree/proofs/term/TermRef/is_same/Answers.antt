use Rattle.std.proofs.Common.{ap, sym, ◌∙◌}
use Rattle.merc_tree.specs.Term.{bare}
use Rattle.merc_tree.proofs.SameTerms.{same_exactly}
use Rattle.merc_tree.proofs.term.TermRef.is_same.Goals as goal

pub returns : goal.returns
returns c =
    let exactly = same_exactly c.self.inside.nodes.now c.other.inside.nodes.now c.self.invariant c.other.invariant in (
      λ same. ap bare (sym c.self.view_is) ∙ exactly.0 (c.have_same_shapes.ensures.0 same) ∙ ap bare c.other.view_is,
      λ same. c.have_same_shapes.ensures.1 (exactly.1 (ap bare c.self.view_is ∙ same ∙ ap bare (sym c.other.view_is))),
    )
