-- Two children at a Fork, whose scripts have two items and one.
use Rattle.std.proofs.Common.{◌≡◌, ℕ, List, [], ◌∷◌, refl}
use Rattle.merc_script.specs.Script.{Cell}
use Rattle.std.specs.Prelude.{None}
use Rattle.merc_core.specs.Forking.{past_scripts, newborn, born_from, rights_wanted}

abbrev past : List ℕ
past = 2 ∷ 2 ∷ 3 ∷ []

-- the first makes the cell 7, for which the second waits
abbrev cells : List Cell
cells = (record { cell = 7; producer = 1; consumer = 2; value = None }) ∷ []

-- what follows them stands behind both
behind_both : past_scripts past 0 2 ≡ 3
behind_both = refl

behind_one : past_scripts past 0 1 ≡ 2
behind_one = refl

-- the first child is the last in the list, and has the cell to signal
two : born_from past 4 cells [] 1 0 2 [] ≡ newborn 4 2 2 [] ∷ newborn 4 1 0 (7 ∷ []) ∷ []
two = refl

one_right : rights_wanted cells [] 1 2 ≡ 1
one_right = refl
