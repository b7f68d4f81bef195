-- Which of several rights is taken out.
use Rattle.std.specs.Prelude.{◌≡◌, ℕ, zero, suc, ◌+◌, ◌==◌, List, [], ◌∷◌, Option, Some, None, if◌then◌else◌}
use Rattle.atomic_table.specs.Seated.{TableId}
use Rattle.merc_board.specs.Rights.{is_sooner}
use Rattle.merc_held_branches.specs.declared.branch.HeldWait.{HeldWait}
use Rattle.merc_held_branches.specs.declared.branch.HeldSignal.{HeldSignal}
use Rattle.merc_held_branches.specs.declared.branch.Hold.{Hold}
use Rattle.merc_held_branches.specs.Lying.{AreNamed}

-- a place behind so many others
abbrev pub lifted : ℕ → Option ℕ → Option ℕ
lifted before None = None
lifted before (Some place) = Some (before + place)

-- .. behind one other
abbrev pub later : Option ℕ → Option ℕ
later None = None
later (Some place) = Some (suc place)

module _ {L : Type 0} where
  -- the place of the first right to wait for a variable, where the first of these has this place
  abbrev pub wait_place : ℕ → ℕ → List (HeldWait L) → Option ℕ
  wait_place place variable [] = None
  wait_place place variable (right ∷ rest) = if right.variable == variable then Some place else wait_place (suc place) variable rest

  abbrev pub consumer_at : List (HeldSignal L) → ℕ → ℕ
  consumer_at [] place = 0
  consumer_at (first ∷ rest) zero = first.consumer
  consumer_at (first ∷ rest) (suc place) = consumer_at rest place

  abbrev pub sooner_than : ℕ → List (HeldSignal L) → Option ℕ → ℕ
  sooner_than consumer rest None = 0
  sooner_than consumer rest (Some place) = if is_sooner (consumer_at rest place) consumer then suc place else 0

  -- the place of the right to signal a variable that is used
  abbrev pub signal_place : ℕ → List (HeldSignal L) → Option ℕ
  signal_place variable [] = None
  signal_place variable (right ∷ rest) = if right.variable == variable then Some (sooner_than right.consumer rest (signal_place variable rest)) else later (signal_place variable rest)

  -- a right may be taken out, and all else stays
  pub record IsKept (old new : Hold L) : Type 0 where
    pub berth : new.berth ≡ old.berth
    pub place : new.place ≡ old.place
    pub link : new.link ≡ old.link
    pub named : (table : TableId) → AreNamed table old → AreNamed table new
