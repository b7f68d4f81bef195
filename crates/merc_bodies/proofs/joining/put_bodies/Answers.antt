use Rattle.std.proofs.Common.{◌∷◌, [], ◌++◌, length, map, ap, ◌∙◌}
use Rattle.merc_base.specs.Groups.{kept}
use Rattle.merc_tree.specs.declared.declarations.PredDecl.{PredDecl}
use Rattle.merc_bodies.specs.Grouping.{body_of_pairs, formed_seen}
use Rattle.merc_bodies.proofs.Parts.{item_left, one_mapped}
use Rattle.merc_bodies.proofs.joining.put_bodies.Goals as goal

pub loop-declared-preserved : goal.loop-declared-preserved
loop-declared-preserved c =
    let groups = c.args.groups.now in
    let declared = c.declared-item.result in
    one_mapped (λ (declared : PredDecl). body_of_pairs (length declared.args) (map formed_seen (kept groups declared.name (length declared.args)))) declared _ _
    c.loop-declared.nodes c.put_body.new.nodes _
    (item_left c.args.preds.now c.loop-declared.declared-index declared c.loop-declared-test.true c.declared-item.is)
    (c.in_ok-put_body.ensures
    ∙ ap (λ found. c.loop-declared.nodes ++ body_of_pairs c.len-arity.result (map formed_seen found) ∷ []) c.at-found.ensures
    ∙ ap (λ arity. c.loop-declared.nodes ++ body_of_pairs arity (map formed_seen (kept groups declared.name arity)) ∷ []) c.len-arity.ensures)
    c.loop-declared.invariant
