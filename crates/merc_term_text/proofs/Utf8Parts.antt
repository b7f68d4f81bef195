-- UTF-8 texts that are taken apart at an ASCII byte, and put together.
use Rattle.std.proofs.Common.{ℕ, zero, suc, ◌+◌, ◌<◌, List, [], ◌∷◌, ◌++◌, length, get_or, subst, arith, length-append, IsUtf8}
use Rattle.std.proofs.Math.Seq.{take-append_seam, drop-append_seam, drop-append-add, get_or-append_seam}
use Rattle.std.proofs.lemmas.Str.{IsUtf8-append, IsUtf8-take, IsUtf8-drop, IsUtf8-from_ascii, IsCharBoundary-before_ascii, IsCharBoundary-after_ascii}

within : (front rest : List ℕ) (byte : ℕ) → length front < length (front ++ byte ∷ rest)
within front rest byte = omega (arith, length-append front (byte ∷ rest))

-- what stands before an ASCII byte, and what stands from there on and behind it
pub before_ascii : (front rest : List ℕ) (byte : ℕ) → byte < 128 → IsUtf8 (front ++ byte ∷ rest) → IsUtf8 front
before_ascii front rest byte small text =
    let at : get_or (front ++ byte ∷ rest) (length front) 0 < 128 = rw (get_or-append_seam front byte rest 0) small in
    subst IsUtf8 (take-append_seam front (byte ∷ rest))
    (IsUtf8-take _ (length front) text (IsCharBoundary-before_ascii _ _ (within front rest byte) at))

pub from_ascii : (front rest : List ℕ) (byte : ℕ) → byte < 128 → IsUtf8 (front ++ byte ∷ rest) → IsUtf8 (byte ∷ rest)
from_ascii front rest byte small text =
    let at : get_or (front ++ byte ∷ rest) (length front) 0 < 128 = rw (get_or-append_seam front byte rest 0) small in
    subst IsUtf8 (drop-append_seam front (byte ∷ rest))
    (IsUtf8-drop _ (length front) text (IsCharBoundary-before_ascii _ _ (within front rest byte) at))

pub after_ascii : (front rest : List ℕ) (byte : ℕ) → byte < 128 → IsUtf8 (front ++ byte ∷ rest) → IsUtf8 rest
after_ascii front rest byte small text =
    let at : get_or (front ++ byte ∷ rest) (length front) 0 < 128 = rw (get_or-append_seam front byte rest 0) small in
    subst IsUtf8 (drop-append-add front (byte ∷ rest) 1)
    (IsUtf8-drop _ (length front + 1) text (IsCharBoundary-after_ascii _ _ text (within front rest byte) at))

only_ascii : (byte : ℕ) → byte < 128 → (i : ℕ) → get_or (byte ∷ []) i 0 < 128
only_ascii byte small zero = small
only_ascii byte small (suc i) = omega arith

-- ASCII bytes are UTF-8
pub ascii_byte : (byte : ℕ) → byte < 128 → IsUtf8 (byte ∷ [])
ascii_byte byte small = IsUtf8-from_ascii (byte ∷ []) (only_ascii byte small)

-- one ASCII byte may go in another's place
pub ascii_replaced : (front rest : List ℕ) (byte other : ℕ) → byte < 128 → other < 128 → IsUtf8 (front ++ byte ∷ rest) → IsUtf8 (front ++ other ∷ rest)
ascii_replaced front rest byte other small small' text =
    IsUtf8-append front (other ∷ rest) (before_ascii front rest byte small text)
    (IsUtf8-append (other ∷ []) rest (ascii_byte other small') (after_ascii front rest byte small text))
