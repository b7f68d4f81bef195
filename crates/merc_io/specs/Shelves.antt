-- What the shelves in memory answer, and what a shelf whose calls fail as told is.
use Rattle.std.specs.Prelude.{◌≡◌, ℕ, ◌+◌, ◌-◌, ◌^◌, List, [], ◌++◌, length, drop, min, nat_le, Option, Some, None, if◌then◌else◌}
use Rattle.merc_base.specs.Outside.{Files}
use Rattle.merc_base.specs.declared.outside.Fetched.{Fetched}
use Rattle.merc_base.specs.declared.outside.Fetched.TheVariants.{Got, End, Absent, Failed, NoMemory}

-- the answer for this file, `None` for one that is not there, from a place on: as much as is left of it,
-- up to so many bytes
abbrev pub next_piece : ℕ → Option (List ℕ) → ℕ → Fetched
next_piece most None at = Absent
next_piece most (Some file) at = if nat_le (length file) at then End else Got (min most (length file - at))

-- an answer that brings no bytes leaves the buffer as it was
abbrev pub KeepsUnlessGot : Fetched → List ℕ → List ℕ → Type 0
KeepsUnlessGot (Got n) old new = Unit {0}
KeepsUnlessGot End old new = new ≡ old
KeepsUnlessGot Absent old new = new ≡ old
KeepsUnlessGot Failed old new = new ≡ old
KeepsUnlessGot NoMemory old new = new ≡ old

-- how many failures an answer is: one or none
abbrev pub failures : Fetched → ℕ
failures (Got n) = 0
failures End = 0
failures Absent = 0
failures Failed = 1
failures NoMemory = 0

-- its files, the numbers of the calls that fail, the most bytes of a piece, the number of the next call
-- (from 1), and how many calls have failed
pub record FailingShelfState : Type 0 where
  pub files : Files
  pub fail : List ℕ
  pub most : ℕ
  pub next_call : ℕ
  pub faults : ℕ

-- a shelf over files that are opened by name: its files, if they are told, how often it has failed, and the
-- name of the file that stands open with the place that it was read to, if there is one
pub record FileShelfState : Type 0 where
  pub files : Option Files
  pub faults : ℕ
  pub stands : Option (List ℕ × ℕ)

-- the last place of a file that has a number
abbrev pub last_place : ℕ
last_place = 2 ^ 64 - 1

-- the place behind so many bytes from this place of the file of this name on, where it has a number
abbrev pub place_behind : List ℕ → ℕ → ℕ → Option (List ℕ × ℕ)
place_behind name at n = if nat_le (at + n) last_place then Some (name, at + n) else None

-- what stands open after this answer, from this place of the file of this name; where a read fails
-- the file is closed
abbrev pub stands_after : Fetched → List ℕ → ℕ → Option (List ℕ × ℕ)
stands_after (Got n) name at = place_behind name at n
stands_after End name at = Some (name, at)
stands_after Absent name at = None
stands_after Failed name at = None
stands_after NoMemory name at = None

-- a reader has left what stands in this file, `None` for one that is not there, from this place on
abbrev pub HasLeft : Option (List ℕ) → ℕ → Option (List ℕ) → Type 0
HasLeft None at left = ⊥
HasLeft (Some file) at left = left ≡ Some (drop at file)

-- these bytes stand in this file from this place on, and they are none only at its end
abbrev pub BringsPiece : Option (List ℕ) → ℕ → List ℕ → Type 0
BringsPiece None at bytes = ⊥
BringsPiece (Some file) at bytes = (rest : List ℕ) × (drop at file ≡ bytes ++ rest) × (length bytes ≡ 0 → rest ≡ [])
