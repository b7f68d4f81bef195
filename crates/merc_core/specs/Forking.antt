-- What the core makes at a Fork.
use Rattle.std.specs.Prelude.{ℕ, zero, suc, ◌+◌, List, ◌∷◌, length, Option, Some, None, slice_get}
use Rattle.merc_script.specs.declared.outcome.Outcome.{Outcome}
use Rattle.merc_script.specs.declared.cells.Move.{Move}
use Rattle.merc_script.specs.Script.{Cell}
use Rattle.merc_core.specs.declared.branch.Branch.{Branch}
use Rattle.merc_core.specs.Rights.{signals_at}

abbrev pub place_or : ℕ → Option ℕ → ℕ
place_or place None = place
place_or place (Some other) = other

-- the place past the script that starts at a place
abbrev pub past_script : List ℕ → ℕ → ℕ
past_script past place = place_or place (slice_get past place)

-- .. and past so many scripts
abbrev pub past_scripts : List ℕ → ℕ → ℕ → ℕ
past_scripts past place zero = place
past_scripts past place (suc n) = past_scripts past (past_script past place) n

abbrev pub newborn : ℕ → ℕ → ℕ → List ℕ → Branch
newborn join child place signals = record { join = join; child = child; at = place; ended = None; steps = 0; signals = signals }

-- so many children from this one on, whose scripts stand from a place on, each in front of those before
abbrev pub born_from : List ℕ → ℕ → List Cell → List Move → ℕ → ℕ → ℕ → List Branch → List Branch
born_from past join cells moves child place zero before = before
born_from past join cells moves child place (suc n) before =
    born_from past join cells moves (suc child) (past_script past place) n (newborn join child place (signals_at child cells moves) ∷ before)

-- the rights that so many children from this one on get
abbrev pub rights_wanted : List Cell → List Move → ℕ → ℕ → ℕ
rights_wanted cells moves child zero = 0
rights_wanted cells moves child (suc n) = length (signals_at child cells moves) + rights_wanted cells moves (suc child) n

-- so many outcomes that are not stored, in front of others
abbrev pub not_stored : ℕ → List (Option Outcome) → List (Option Outcome)
not_stored zero before = before
not_stored (suc n) before = not_stored n (None ∷ before)
