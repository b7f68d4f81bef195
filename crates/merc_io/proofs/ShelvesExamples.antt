-- Worked examples of what the shelves in memory answer.
use Rattle.std.proofs.Common.{◌≡◌, [], ◌∷◌, Some, None, refl, arith}
use Rattle.merc_base.specs.declared.outside.Fetched.TheVariants.{Got, End, Absent, Failed}
use Rattle.merc_io.specs.Shelves.{next_piece, KeepsUnlessGot, failures, FailingShelfState, FileShelfState, stands_after, place_behind, last_place, HasLeft, BringsPiece}

-- of three bytes, two are left at place 1
pub next_piece-example : next_piece 8 (Some (7 ∷ 8 ∷ 9 ∷ [])) 1 ≡ Got 2
next_piece-example = refl

-- a piece has no more bytes than it may
pub next_piece-short : next_piece 2 (Some (7 ∷ 8 ∷ 9 ∷ [])) 0 ≡ Got 2
next_piece-short = refl

-- behind the last byte is the end
pub next_piece-end : next_piece 8 (Some (7 ∷ 8 ∷ 9 ∷ [])) 3 ≡ End
next_piece-end = refl

-- at the last byte is not the end
pub next_piece-counterexample : next_piece 8 (Some (7 ∷ 8 ∷ 9 ∷ [])) 2 ≡ End → ⊥
next_piece-counterexample end = cc

-- at the end the buffer stays as it was
pub KeepsUnlessGot-example : KeepsUnlessGot End (1 ∷ []) (1 ∷ [])
KeepsUnlessGot-example = refl

-- a failed call does not empty the buffer
pub KeepsUnlessGot-counterexample : KeepsUnlessGot Failed (1 ∷ []) [] → ⊥
KeepsUnlessGot-counterexample kept = cc

-- a failed call is one failure
pub failures-example : failures Failed ≡ 1
failures-example = refl

-- a file that is not there is no failure of a shelf that tells its files
pub failures-counterexample : failures Absent ≡ 1 → ⊥
failures-counterexample one = cc

-- a shelf with no files whose second call fails, before its first call
pub FailingShelfState-example : FailingShelfState
FailingShelfState-example = record { files = []; fail = 2 ∷ []; most = 1; next_call = 1; faults = 0 }

-- a shelf that does not tell its files, of which the file 1 stands open behind its first three bytes
pub FileShelfState-example : FileShelfState
FileShelfState-example = record { files = None; faults = 0; stands = Some (1 ∷ [], 3) }

-- behind two bytes from place 3 on stands place 5
pub stands_after-example : stands_after (Got 2) (1 ∷ []) 3 ≡ Some (1 ∷ [], 5)
stands_after-example = refl

-- after a failed read the file is not open any more
pub stands_after-counterexample : stands_after Failed (1 ∷ []) 3 ≡ Some (1 ∷ [], 3) → ⊥
stands_after-counterexample same = cc

-- the place behind the last one has no number
pub place_behind-past : place_behind (1 ∷ []) last_place 1 ≡ None
place_behind-past = refl

-- the last place has one
pub place_behind-last : place_behind (1 ∷ []) last_place 0 ≡ None → ⊥
place_behind-last none = cc

-- at place 1 of three bytes the last two are left
pub HasLeft-example : HasLeft (Some (7 ∷ 8 ∷ 9 ∷ [])) 1 (Some (8 ∷ 9 ∷ []))
HasLeft-example = refl

-- all three are not
pub HasLeft-counterexample : HasLeft (Some (7 ∷ 8 ∷ 9 ∷ [])) 1 (Some (7 ∷ 8 ∷ 9 ∷ [])) → ⊥
HasLeft-counterexample left = cc

-- one of the two bytes that are left at place 1
pub BringsPiece-example : BringsPiece (Some (7 ∷ 8 ∷ 9 ∷ [])) 1 (8 ∷ [])
BringsPiece-example = (9 ∷ [], refl, λ none. absurd (omega (arith, none)))

-- no piece is empty before the end
pub BringsPiece-counterexample : BringsPiece (Some (7 ∷ 8 ∷ 9 ∷ [])) 1 [] → ⊥
BringsPiece-counterexample (rest, whole, end) = let none = end refl in cc
