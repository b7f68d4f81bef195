-- Each turn writes into the first variable that is left. The `zip` ends where no variable or no word is left, so that nothing more is written.
use Rattle.std.proofs.Common.{◌<◌, ℕ, ◌∷◌, ◌∙◌, length, slice_set, refl, sym, ap, subst}
use Rattle.std.specs.List.{All}
use Rattle.std.specs.Iterator.Adapters.{zip_first, zip_second}
use Rattle.std.specs.Slice.Iter.{iter_rest}
use Rattle.std.proofs.lemmas.List.{length-set}
use Rattle.std.proofs.lemmas.List.Elements.{All-head, All-tail}
use Rattle.std.proofs.lemmas.Slice.Zip.{Zip-more, either_empty_from_Zip}
use Rattle.merc_value.specs.Block.{IsBelow}
use Rattle.merc_frames.specs.Rooms.{AreSlots}
use Rattle.merc_frames.specs.Slots.{holding}
use Rattle.merc_frames.specs.Stacks.{Stacks}
use Rattle.merc_store.specs.Performing.{stored}
use Rattle.merc_store.proofs.CarryingLaws.{with_slots}
use Rattle.merc_store.proofs.HeldLaws.{is_slot_below, step_held, word_passes}
use Rattle.merc_store.proofs.ThawingLemmas.{stored_end}
use Rattle.merc_store.proofs.thawing.store_words.Goals as goal

pub returns-clause-stacks : goal.returns-clause-stacks
returns-clause-stacks c =
    ap (with_slots c.loop-variable.frames.stacks) (sym (stored_end _ _ c.loop-variable.frames.stacks.current (either_empty_from_Zip c.loop-variable.variable-iterator c.next.new.self _ c.in-None.is c.next.ensures.steps)))
    ∙ c.loop-variable.invariant.same

pub returns-clause-held : goal.returns-clause-held
returns-clause-held c cells below = (c.loop-variable.invariant.held cells below).1

pub set-requires : goal.set-requires
set-requires c =
    let size = length c.loop-variable.frames.stacks.current in
    let left = (Zip-more c.loop-variable.variable-iterator c.next.new.self c.next.result (c.in-Some.variable, c.in-Some.word) c.in-Some.is c.next.ensures.steps).0 in
    record {
      there = subst (λ n. n < size) (sym c.number.ensures)
          (All-head (λ (slot : ℕ). slot < size) c.in-Some.variable.now (iter_rest (zip_first c.next.new.self)) (subst (AreSlots size) left c.loop-variable.invariant.there));
    }

pub loop-variable-preserved : goal.loop-variable-preserved
loop-variable-preserved c =
    let frames = c.loop-variable.frames.stacks in
    let size = length frames.current in
    let variables = iter_rest (zip_first c.next.new.self) in
    let words = iter_rest (zip_second c.next.new.self) in
    let word = c.in-Some.word.now in
    let turn = Zip-more c.loop-variable.variable-iterator c.next.new.self c.next.result (c.in-Some.variable, c.in-Some.word) c.in-Some.is c.next.ensures.steps in
    record {
      there = subst (λ n. AreSlots n variables) (sym (ap (λ (s : Stacks). length s.current) c.set.ensures.stacks ∙ length-set frames.current c.number.result c.holding.result))
          (All-tail (λ (slot : ℕ). slot < size) c.in-Some.variable.now variables (subst (AreSlots size) turn.0 c.loop-variable.invariant.there));
      same = ap (λ (s : Stacks). with_slots s (stored variables words s.current)) c.set.ensures.stacks
          ∙ ap (λ n. with_slots frames (stored variables words (slice_set frames.current n c.holding.result))) c.number.ensures
          ∙ ap (λ slot. with_slots frames (stored variables words (slice_set frames.current c.in-Some.variable.now slot))) c.holding.ensures
          ∙ sym (ap (λ those. with_slots frames (stored those (word ∷ words) frames.current)) turn.0)
          ∙ sym (ap (λ those. with_slots frames (stored (iter_rest (zip_first c.loop-variable.variable-iterator)) those frames.current)) turn.1) ∙ c.loop-variable.invariant.same;
      held = λ cells below.
          let held = c.loop-variable.invariant.held cells below in
          let left : All (IsBelow cells) (word ∷ words) = subst (All (IsBelow cells)) turn.1 held.0 in
          let passes = word_passes cells word c.holding.result c.holding.ensures (All-head (IsBelow cells) word words left) in (
            All-tail (IsBelow cells) word words left,
            λ before. step_held cells cells c.loop-variable.frames c.set.new.self (c.set.ensures.held is_slot_below cells refl passes) (held.1 before),
          );
    }
