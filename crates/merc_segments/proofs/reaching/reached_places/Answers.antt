-- Each round gathers the highest place that is pending.
use Rattle.std.proofs.Common.{ℕ, List, reverse, sym, subst}
use Rattle.merc_segments.specs.Places.{Adds}
use Rattle.merc_segments.proofs.ReachLemmas.{IsReaching, reaching_none, was_pending, round_kept, round_smaller}
use Rattle.merc_segments.proofs.reaching.reached_places.Goals as goal

pub loop-place-init : goal.loop-place-init
loop-place-init c =
    subst (λ (ps : List ℕ). IsReaching c.args.heap.now c.args.words.now c.add_words.new.pending (reverse ps)) (sym c.new-places.ensures.items)
    (reaching_none c.args.heap.now c.args.words.now c.add_words.new.pending c.requires
    (subst (λ (ps : List ℕ). Adds c.args.words.now ps c.add_words.new.pending) c.new-pending.ensures c.in_ok-add_words.ensures))

pub add_fields-requires : goal.add_fields-requires
add_fields-requires c = c.loop-place.invariant.inside c.in-Some.place (was_pending c.loop-place.pending c.pop_highest.new.self c.in-Some.place c.in-Some.ensures.taken)

pub loop-place-smaller : goal.loop-place-smaller
loop-place-smaller c =
    round_smaller c.args.heap.now c.in_ok-add_fields.ensures.lower c.args.words.now c.loop-place.pending c.pop_highest.new.self c.add_fields.new.pending c.loop-place.places.items c.push.new.self.items c.in-Some.place
    c.in-Some.ensures.taken c.in-Some.ensures.highest c.in_ok-add_fields.ensures.added c.loop-place.invariant c.in_ok-push.ensures.items

pub loop-place-preserved : goal.loop-place-preserved
loop-place-preserved c =
    round_kept c.args.heap.now c.in_ok-add_fields.ensures.lower c.args.words.now c.loop-place.pending c.pop_highest.new.self c.add_fields.new.pending c.loop-place.places.items c.push.new.self.items c.in-Some.place
    c.in-Some.ensures.taken c.in-Some.ensures.highest c.in_ok-add_fields.ensures.added c.loop-place.invariant c.in_ok-push.ensures.items
