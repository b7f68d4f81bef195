-- The parts of a root's arguments stand last, and none is nested deeper than there are nodes so far.
use Rattle.std.proofs.Common.{◌≡◌, ◌-◌, ◌∷◌, ◌++◌, [], length, take, drop, ap, arith, ◌∙◌}
use Rattle.merc_tree.specs.Nodes.{arity_of}
use Rattle.merc_tree.specs.Parts.{deepest_part, part_of_root}
use Rattle.merc_tree.proofs.PartLaws.{rest_is, arguments_shallow, parts_step, shallow_step}
use Rattle.merc_tree.proofs.term.nesting.nesting_of.Goals as goal

pub root_part-part-requires : goal.root_part-part-requires
root_part-part-requires c =
    omega (
      arith,
      ap deepest_part (rest_is c.deref.result.now c.loop-node.parts.items c.saturating_sub-kept.result c.deref.ensures.value),
      arguments_shallow c.loop-node.parts.items c.saturating_sub-kept.result c.loop-node.node-index c.loop-node.invariant.shallow,
    )

pub loop-node-preserved : goal.loop-node-preserved
loop-node-preserved c =
    let parts = c.loop-node.parts.items in
    let kept = c.saturating_sub-kept.result in
    let node = c.node-item.result in
    let kept_is : kept ≡ length parts - arity_of node.shape = cc c.loop-node.parts.ok.0 in
    let root : c.root_part-part.result ≡ part_of_root node.shape (drop kept parts) =
    c.root_part-part.ensures ∙ ap (part_of_root node.shape) (rest_is c.deref.result.now parts kept c.deref.ensures.value) in
    let now : c.push.new.self.items ≡ take kept parts ++ part_of_root node.shape (drop kept parts) ∷ [] =
    c.in_ok-push.ensures.items ∙ ap (λ l. l ++ c.root_part-part.result ∷ []) c.truncate.ensures.items ∙ ap (λ p. take kept parts ++ p ∷ []) root in
    record {
      parts_are = now ∙ parts_step c.args.nodes.now c.loop-node.node-index node parts kept c.loop-node-test.true c.node-item.is c.loop-node.invariant.parts_are kept_is;
      shallow = rw now (shallow_step node.shape parts kept c.loop-node.node-index c.loop-node.invariant.shallow);
    }
