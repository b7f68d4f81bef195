use Rattle.std.proofs.Common.{sym, ◌∙◌, arith}
use Rattle.merc_tree.specs.PlacedParts.{placed_parts}
use Rattle.merc_items.proofs.TypeParts.{all_parts, built_whole, parts_counted, parts_done, part_fits, parts_left, types_left, no_parts_left, no_types_left}
use Rattle.merc_items.proofs.declared_types.push_type.Goals as goal
use Rattle.merc_items.proofs.declared_types.push_type.Goals.{in-Some+in_ok-push_part, in_default}

pub loop-index-init : goal.loop-index-init
loop-index-init c = record { parts = all_parts c.args.names.now c.args.term.now _; types = built_whole c.args.names.now c.args.term.now _ }

pub push_part-requires : goal.push_part-requires
push_part-requires c =
    part_fits c.args.names.now (placed_parts c.args.term.now) c.loop-index.index c.in-Some.shape c.in-Some.span _ (sym c.in-Some.ensures) c.loop-index.invariant.parts

pub loop-index-preserved : goal.loop-index-preserved
loop-index-preserved c =
    let names = c.args.names.now in
    let parts = placed_parts c.args.term.now in
    let i = c.loop-index.index in
    elim c.match-placed_part.branch [
      | in-Some+in_ok-push_part w ↦ record {
        parts = parts_left names parts i w.in-Some.shape w.in-Some.span c.loop-index.types (sym w.in-Some.ensures) _ (w.types-is ∙ w.in_ok-push_part.ensures) c.loop-index.invariant.parts;
        types = types_left names parts i w.in-Some.shape w.in-Some.span c.loop-index.types (sym w.in-Some.ensures) _ _ (w.types-is ∙ w.in_ok-push_part.ensures) c.loop-index.invariant.types;
      }
      | in_default w ↦ record {
        parts = no_parts_left names parts i c.loop-index.types _ (sym w.in_default.ensures) w.types-is c.loop-index.invariant.parts;
        types = no_types_left names parts i c.loop-index.types _ (sym w.in_default.ensures) w.types-is _ c.loop-index.invariant.types;
      }
    ]

pub returns : goal.returns
returns c =
    parts_done c.args.names.now (placed_parts c.args.term.now) c.loop-index.index c.loop-index.types _
    (omega (arith, parts_counted c.args.term.now, c.loop-index-test.false, c.part_count-index-end.ensures)) c.loop-index.invariant.types
