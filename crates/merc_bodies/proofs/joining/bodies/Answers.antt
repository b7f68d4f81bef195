use Rattle.std.proofs.Common.{◌++◌, length, map, ap, ◌∙◌}
use Rattle.merc_base.specs.Groups.{kept}
use Rattle.merc_tree.specs.declared.declarations.PredDecl.{PredDecl}
use Rattle.merc_bodies.specs.Grouping.{body_of_pairs, formed_seen}
use Rattle.merc_bodies.proofs.Pairs.{bodies_by}
use Rattle.merc_bodies.proofs.joining.bodies.Goals as goal

pub returns-in-Ok : goal.returns-in-Ok
returns-in-Ok c = λ form each.
    let pairs = λ (declared : PredDecl). map formed_seen (kept c.in_ok-groups.groups declared.name (length declared.args)) in
    c.in-Ok.ensures
    ∙ ap (λ l. l ++ map (λ (declared : PredDecl). body_of_pairs (length declared.args) (pairs declared)) c.args.preds.now) c.new-bodies.ensures
    ∙ bodies_by form pairs c.args.clauses.now c.args.forms.now c.args.preds.now c.in_ok-groups.ensures each
