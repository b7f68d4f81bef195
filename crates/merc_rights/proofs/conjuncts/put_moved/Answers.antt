use Rattle.std.proofs.Common.{◌∙◌, ◌++◌, ap}
use Rattle.std.specs.List.{flat_map}
use Rattle.merc_rights.specs.Members.{wait_shares}
use Rattle.merc_rights.proofs.FoundLaws.{moved_more, all_moved}
use Rattle.merc_rights.proofs.conjuncts.put_moved.Goals as goal

pub loop-pair-preserved : goal.loop-pair-preserved
loop-pair-preserved c =
    moved_more c.deref-pair-items.result.now c.loop-pair.pair-index c.pair-item.result c.args.found.now c.loop-pair.found c.put_moved_in.new.found
    c.pair-item.is c.loop-pair-test.true c.loop-pair.invariant c.in_ok-put_moved_in.ensures

pub returns : goal.returns
returns c =
    all_moved c.deref-pair-items.result.now (flat_map (wait_shares c.args.members.now.goals.items) c.args.inside.now) c.loop-pair.pair-index c.args.found.now c.loop-pair.found
    (c.deref-pair-items.ensures.value ∙ c.in_ok-put_shares.ensures ∙ ap (λ l. l ++ flat_map (wait_shares c.args.members.now.goals.items) c.args.inside.now) c.new-pairs.ensures.items)
    c.loop-pair-test.false c.loop-pair.invariant
