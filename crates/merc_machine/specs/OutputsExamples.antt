-- Worked examples of callers to which an instruction returns.
use Rattle.std.specs.Prelude.{◌≡◌, ℕ, zero, suc, ◌<◌, false, List, [], ◌∷◌, length, Some, pos, slice_get, refl}
use Rattle.std.proofs.Common.{ap, sym, ◌∙◌, subst, arith}
use Rattle.std.proofs.lemmas.List.Elements.{All-from_recursion}
use Rattle.merc_frames.specs.declared.passing.Pass.{Pass}
use Rattle.merc_frames.specs.declared.slot.Slot.{Slot}
use Rattle.merc_frames.specs.declared.slot.Slot.TheVariants.{Int as IntSlot}
use Rattle.merc_frames.specs.Rooms.{AreSlots}
use Rattle.merc_frames.specs.Stacks.{Caller}
use Rattle.merc_layout.specs.declared.entries.Entry.{Entry}
use Rattle.merc_load.specs.declared.loaded.Op.{Op}
use Rattle.merc_load.specs.declared.loaded.Op.TheVariants.{Call as CallOp, Fail as FailOp, Return as ReturnOp}
use Rattle.merc_machine.specs.Outputs.{FitsCallers, FollowsCall, HasCaller}

abbrev called : Entry
called = record { place = 2; size = 1; is_clean = false }

-- behind the call, which gives an output to the second slot, a caller goes on at place 1
abbrev ops : List Op
ops = CallOp called [] (1 ∷ []) ∷ FailOp ∷ []

abbrev waiting : ℕ → List Slot → List Caller
waiting place slots = record { place = place; slots = slots } ∷ []

abbrev two : List Slot
two = IntSlot (pos 5) ∷ IntSlot (pos 6) ∷ []

follows-example : FollowsCall ops 1
follows-example = record { before = 0; next = refl; entry = called; inputs = []; outs = 1 ∷ []; call = refl }

no_call : (before : ℕ) → 2 ≡ suc before → (entry : Entry) (inputs : List Pass) (outs : List ℕ) → slice_get ops before ≡ Some (CallOp entry inputs outs) → ⊥
no_call zero next entry inputs outs call = absurd cc
no_call (suc zero) next entry inputs outs call = absurd cc
no_call (suc (suc before)) next entry inputs outs call = absurd cc

-- the second instruction is no call
follows-not : FollowsCall ops 2 → ⊥
follows-not behind = no_call behind.before behind.next behind.entry behind.inputs behind.outs behind.call

-- nothing stands before the first place
follows-none : FollowsCall ops 0 → ⊥
follows-none behind = let e = behind.next in absurd cc

has-example : HasCaller ops (waiting 1 two)
has-example = record {
  newest = record { place = 1; slots = two };
  others = [];
  is = refl;
  behind = record { before = 0; next = refl; entry = called; inputs = []; outs = 1 ∷ []; call = refl };
  room = All-from_recursion (λ (slot : ℕ). slot < 2) (1 ∷ []) (omega arith, tt);
}

-- no caller is waiting
has-none : HasCaller ops [] → ⊥
has-none has = let e = has.is in absurd cc

same_caller : (one other : Caller) (others : List Caller) → one ∷ [] ≡ other ∷ others → one ≡ other
same_caller one other others e = cc

-- no call stands before the place of the caller
has-elsewhere : HasCaller ops (waiting 2 two) → ⊥
has-elsewhere has =
    let same = same_caller (record { place = 2; slots = two }) has.newest has.others has.is in
    let behind = has.behind in
    no_call behind.before (ap (λ (caller : Caller). caller.place) same ∙ behind.next) behind.entry behind.inputs behind.outs behind.call

outs_are : (before : ℕ) (entry : Entry) (inputs : List Pass) (outs : List ℕ) → 1 ≡ suc before → slice_get ops before ≡ Some (CallOp entry inputs outs) → outs ≡ 1 ∷ []
outs_are zero entry inputs outs next call = cc
outs_are (suc before) entry inputs outs next call = absurd cc

-- the caller's frame has one slot
has-no_room : HasCaller ops (waiting 1 (IntSlot (pos 5) ∷ [])) → ⊥
has-no_room has =
    let one : List Slot = IntSlot (pos 5) ∷ [] in
    let same = same_caller (record { place = 1; slots = one }) has.newest has.others has.is in
    let behind = has.behind in
    let is = outs_are behind.before behind.entry behind.inputs behind.outs (ap (λ (caller : Caller). caller.place) same ∙ behind.next) behind.call in
    let room : AreSlots 1 (1 ∷ []) = subst (AreSlots 1) is (subst (λ (caller : Caller). AreSlots (length caller.slots) behind.outs) (sym same) has.room) in
    let h : 1 < 1 = room 0 1 (omega arith) in
    absurd (omega (arith, h))

-- only an instruction that returns needs a caller
fits-example : FitsCallers ops [] FailOp
fits-example = tt

fits-not : FitsCallers ops [] (ReturnOp []) → ⊥
fits-not has = has-none has
