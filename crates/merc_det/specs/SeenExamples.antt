-- Symbols that became known one after the other: `red` of C, then `green` of D, then `green` of C.
use Rattle.std.specs.Prelude.{◌≡◌, ℕ, zero, suc, List, [], ◌∷◌, reverse, Option, Some, None, refl}
use Rattle.merc_goal_tree.specs.declared.goal.Symbol.{Symbol}
use Rattle.merc_grading.specs.GradingExamples.{red, green, c, d, n}
use Rattle.merc_grading.specs.Known.{known_of}
use Rattle.merc_det.specs.Seen.{known_in, back_to, latest, AreLinked, Finds}
use Rattle.merc_det.specs.declared.seen.Entry.{Entry}

abbrev entry : ℕ → Symbol → Option ℕ → Entry
entry variable symbol before = record { variable = variable; symbol = symbol; before = before }

abbrev entries : List Entry
entries = entry c red None ∷ entry d green None ∷ entry c green (Some 0) ∷ []

last_first : known_in entries ≡ (c, green) ∷ (d, green) ∷ (c, red) ∷ []
last_first = refl

last_counts : known_of (known_in entries) c ≡ Some green
last_counts = refl

none_of_n : known_of (known_in entries) n ≡ None
none_of_n = refl

some_of_d : known_of (known_in entries) d ≡ None → ⊥
some_of_d wrong = cc

back : back_to 1 (known_in entries) ≡ (c, red) ∷ []
back = refl

not_further_back : back_to 1 (known_in entries) ≡ [] → ⊥
not_further_back wrong = cc

-- there were never so many
no_way_back : back_to 4 (known_in entries) ≡ known_in entries
no_way_back = refl

latest_of_c : latest (reverse entries) c ≡ Some 2
latest_of_c = refl

latest_of_n : latest (reverse entries) n ≡ None
latest_of_n = refl

linked : AreLinked (reverse entries)
linked = (refl, (refl, (refl, tt)))

-- the second entry of C does not lead to the first
not_linked : AreLinked (reverse (entry c red None ∷ entry c green None ∷ [])) → ⊥
not_linked links = let wrong : None ≡ Some zero = links.0 in cc

-- the table has the last entry of D, or it has not
finds_not : Finds entries (Some 2 ∷ []) → ⊥
finds_not finds = let wrong : None ≡ Some (suc zero) = finds.last d in cc

finds_none : Finds [] []
finds_none = record { last = λ variable. refl; linked = tt }
