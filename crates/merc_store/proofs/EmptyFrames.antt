-- A frame whose slots are all empty stands for no values.
use Rattle.std.proofs.Common.{◌≡◌, ℕ, zero, suc, ◌+◌, ◌≤◌, List, [], length, None, slice_get, refl, sym, ap, subst}
use Rattle.merc_value.specs.Block.{CellData}
use Rattle.merc_frames.specs.Handing.{empty_frame}
use Rattle.merc_store.specs.Fitting.{FitsFrame, slot_value, slot_mark}

pub empty_length : (size : ℕ) → length (empty_frame size) ≡ size
empty_length zero = refl
empty_length (suc size) = ap suc (empty_length size)

empty_value : (cells : List CellData) (size x : ℕ) → slot_value cells (slice_get (empty_frame size) x) ≡ None
empty_value cells zero x = refl
empty_value cells (suc size) zero = refl
empty_value cells (suc size) (suc x) = empty_value cells size x

empty_mark : (size x : ℕ) → slot_mark (slice_get (empty_frame size) x) ≡ 0
empty_mark zero x = refl
empty_mark (suc size) zero = refl
empty_mark (suc size) (suc x) = empty_mark size x

pub empty_fits : (cells : List CellData) (variables size : ℕ) → variables ≤ size → FitsFrame cells variables (empty_frame size) [] []
empty_fits cells variables size room = record {
  room = subst (λ n. variables ≤ n) (sym (empty_length size)) room;
  values = λ x within. sym (empty_value cells size x);
  others = λ x h. refl;
  numbers = λ m. sym (empty_mark size (variables + m));
}
