-- What a conjunct uses are slots of the frame that forks it and of its own, and its machine has its course before it.
use Rattle.std.proofs.Common.{List, ℕ, refl, sym, subst}
use Rattle.merc_frames.specs.Rooms.{AreSlots}
use Rattle.std.specs.Prelude.{length}
use Rattle.merc_store.specs.Frozen.{Freezes, frozen_in}
use Rattle.merc_machine.proofs.Forking.{child-means, forked-there, frozen-slots, not-unknown, used-slots}
use Rattle.merc_machine.proofs.machine.Machine.child.Goals as goal

pub freeze-requires : goal.freeze-requires
freeze-requires c = record {
  slots = subst (λ (used : List ℕ). AreSlots (length c.args.self.now.store.stacks.current) used) (sym c.as_slice.ensures)
      (used-slots c.args.self.now c.args.site c.requires.at c.requires.means.0 c.requires.means.1 c.args.number c.in-Some.known.now (sym c.in-Some.ensures));
}

pub open_with-requires : goal.open_with-requires
open_with-requires c = record {
  slots = frozen-slots c.args.self.now c.args.site c.requires.at c.requires.means.0 c.requires.means.1 c.args.number c.in-Some.known.now (sym c.in-Some.ensures)
      (frozen_in c.in_ok-frozen-in-Some.frozen) (subst (λ (used : List ℕ). Freezes c.args.self.now.store used (frozen_in c.in_ok-frozen-in-Some.frozen)) c.as_slice.ensures c.in_ok-frozen-in-Some.ensures);
}

pub unreachable-requires : goal.unreachable-requires
unreachable-requires c = not-unknown _ c.in-None.ensures c.requires.there

pub returns-in_err-frozen-in-Some-clause-forked : goal.returns-in_err-frozen-in-Some-clause-forked
returns-in_err-frozen-in-Some-clause-forked c = forked-there c.args.self.now c.args.site c.requires.at c.args.number c.in-Some.known.now (sym c.in-Some.ensures)

pub returns-in_err-open_with-in-Some-clause-forked : goal.returns-in_err-open_with-in-Some-clause-forked
returns-in_err-open_with-in-Some-clause-forked c = forked-there c.args.self.now c.args.site c.requires.at c.args.number c.in-Some.known.now (sym c.in-Some.ensures)

pub returns-clause-forked : goal.returns-clause-forked
returns-clause-forked c = forked-there c.args.self.now c.args.site c.requires.at c.args.number c.in-Some.known.now (sym c.in-Some.ensures)

pub returns-clause-means : goal.returns-clause-means
returns-clause-means c =
    let frozen = frozen_in c.in_ok-frozen-in-Some.frozen in
    let freezes = subst (λ (used : List ℕ). Freezes c.args.self.now.store used frozen) c.as_slice.ensures c.in_ok-frozen-in-Some.ensures in
    child-means c.args.self.now c.args.site c.requires.at c.args.number c.in-Some.known.now (sym c.in-Some.ensures) frozen freezes _ c.in_ok-open_with-in-Some.ensures refl refl refl refl refl
