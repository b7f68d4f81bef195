use Rattle.std.proofs.Common.{length, sym, subst, arith}
use Rattle.std.proofs.lemmas.List.{drop_all}
use Rattle.merc_goal_tree.specs.Parts.{parts_of}
use Rattle.merc_order.specs.Procedures.{modes_of}
use Rattle.merc_goal_facts.specs.Knowing.{AreThere}
use Rattle.merc_goal_facts.proofs.Joins.{all_found_at}
use Rattle.merc_goal_facts.proofs.PartByPart.{is_there, first_left, next_found, rest_found, at_first, one_further, at_last}
use Rattle.merc_goal_facts.proofs.knowing.facts_of.Goals as goal

pub loop-index-init : goal.loop-index-init
loop-index-init c = record {
  cleared = c.new-set.ensures;
  there = subst (AreThere (length c.new.result.items)) (sym c.new-2.ensures.items) tt;
  found = all_found_at c.args.goal.now _;
  way = λ heads many whole. at_first (modes_of c.args.predicates.now) heads c.args.goal.now _ c.new.ensures.items c.new-2.ensures.items (sym many);
}

pub complete_part-requires-clause-many : goal.complete_part-requires-clause-many
complete_part-requires-clause-many c = next_found _ _ _ _ (first_left (parts_of c.args.goal.now) c.loop-index.index _ c.in-Some.ensures) c.loop-index.invariant.found

pub unreachable-requires : goal.unreachable-requires
unreachable-requires c = is_there _ c.loop-index.index c.part_count-index-end.result c.in-None.ensures c.loop-index-test.true c.part_count-index-end.ensures

pub loop-index-preserved : goal.loop-index-preserved
loop-index-preserved c =
    let next = first_left (parts_of c.args.goal.now) c.loop-index.index _ c.in-Some.ensures in
    let done = c.in_ok-complete_part-in-Some.ensures in
    record {
      cleared = done.cleared;
      there = done.there;
      found = rest_found _ _ _ _ _ next done.many c.loop-index.invariant.found;
      way = λ heads many whole.
          one_further (modes_of c.args.predicates.now) heads c.args.goal.now c.args.all.now c.in-Some.root.now c.in-Some.field-0-1 _ _ _ _ whole next
          (next_found _ _ _ _ next c.loop-index.invariant.found) done.completes (c.loop-index.invariant.way heads many whole);
    }

pub returns : goal.returns
returns c = λ heads many whole.
    at_last (modes_of c.args.predicates.now) heads c.args.goal.now _ _
    (drop_all c.loop-index.index (parts_of c.args.goal.now) (omega (arith, c.part_count-index-end.ensures, c.loop-index-test.false))) (c.loop-index.invariant.way heads many whole)
