-- A branch that passes Ticks and Signals parks where it would have parked.
use Rattle.std.proofs.Common.{◌≡◌, ℕ, zero, suc, ◌+◌, ap, ◌∙◌, arith}
use Rattle.std.specs.Prelude.{Option, Some, None}
use Rattle.merc_script.specs.Script.{Script, Ends, TickThen, WaitThen, SignalThen, ForkThen}
use Rattle.merc_script.specs.Places.{Place, left_of, left_in, left_behind, script_named}
use Rattle.atomic_table.specs.Seated.{TableId}
use Rattle.merc_yard.specs.declared.spot.Spot.{Spot}
use Rattle.merc_held_branches.specs.declared.branch.Hold.{Hold}
use Rattle.merc_board.specs.Going.{next, ticks_before, Ticked}
use Rattle.merc_held_branches.specs.Spots.{parking, parking_in, Reaches}
use Rattle.merc_held_branches.specs.Owning.{Own}

parking_ticks : (made : ℕ) (rest : Script) → parking (ticks_before made rest) ≡ made + parking rest
parking_ticks zero rest = omega arith
parking_ticks (suc made) rest = let e = parking_ticks made rest in omega (arith, e)

pub ticks_reach : (root : Script) (o : Spot) (from : Place) (made : ℕ) (at : Place) → Reaches root o from → Ticked from made at → Reaches root o at
ticks_reach root o from made at r t =
    let before : parking_in (left_of from) ≡ made + parking t.rest = ap parking_in t.before ∙ parking_ticks made t.rest in
    let after : parking_in (left_of at) ≡ parking t.rest = ap parking_in t.after in
    record {
      same_root = t.same_root ∙ r.same_root;
      same_name = t.same_name ∙ r.same_name;
      same_end = omega (arith, before, after, t.passed, r.same_end);
    }

signal_behind : (n cell : ℕ) (s rest : Script) → left_behind n s ≡ Some (SignalThen cell rest) → left_behind (suc n) s ≡ Some rest
signal_behind zero cell s rest e = let is : s ≡ SignalThen cell rest = cc (e) in ap (left_behind 1) is
signal_behind (suc n) cell (Ends end) rest e = absurd (cc)
signal_behind (suc n) cell (TickThen s) rest e = signal_behind n cell s rest e
signal_behind (suc n) cell (WaitThen c s) rest e = signal_behind n cell s rest e
signal_behind (suc n) cell (SignalThen c s) rest e = signal_behind n cell s rest e
signal_behind (suc n) cell (ForkThen limit cells moves children s) rest e = signal_behind n cell s rest e

signal_in : (n cell : ℕ) (s : Option Script) (rest : Script) → left_in n s ≡ Some (SignalThen cell rest) → left_in (suc n) s ≡ Some rest
signal_in n cell None rest e = absurd (cc)
signal_in n cell (Some s) rest e = signal_behind n cell s rest e

pub signal_reaches : (root : Script) (o : Spot) (at : Place) (cell : ℕ) (rest : Script) → Reaches root o at → left_of at ≡ Some (SignalThen cell rest) → Reaches root o (next at)
signal_reaches root o at cell rest r left =
    let before : parking_in (left_of at) ≡ suc (parking rest) = ap parking_in left in
    let after : parking_in (left_of (next at)) ≡ parking rest = ap parking_in (signal_in at.passed cell (script_named at.name (Some at.root)) rest left) in
    record { same_root = r.same_root; same_name = r.same_name; same_end = omega (arith, before, after, r.same_end) }

module _ {L : Type 0} (root : Script) (table : TableId) where
  pub ticks_own : (hold : Hold L) (from : Place) (made : ℕ) (at : Place) → Own root table hold from → Ticked from made at → Own root table hold at
  ticks_own hold from made at own t = record { runs = own.runs; reaches = ticks_reach root _ from made at own.reaches t }

  pub signal_own : (hold : Hold L) (at : Place) (cell : ℕ) (rest : Script) → Own root table hold at → left_of at ≡ Some (SignalThen cell rest) → Own root table hold (next at)
  signal_own hold at cell rest own left = record { runs = own.runs; reaches = signal_reaches root _ at cell rest own.reaches left }
