-- Variables are put behind others, each once.
use Rattle.std.specs.Prelude.{◌≡◌, ◌∷◌, [], refl}
use Rattle.merc_switch_choice.specs.Variables.{behind, all_behind}

one_more : behind (4 ∷ 2 ∷ []) 3 ≡ 4 ∷ 2 ∷ 3 ∷ []
one_more = refl

one_of_them : behind (4 ∷ 2 ∷ []) 2 ≡ 4 ∷ 2 ∷ []
one_of_them = refl

several : all_behind (4 ∷ []) (2 ∷ 4 ∷ 2 ∷ 7 ∷ []) ≡ 4 ∷ 2 ∷ 7 ∷ []
several = refl

not_twice : all_behind (4 ∷ []) (4 ∷ []) ≡ 4 ∷ 4 ∷ [] → ⊥
not_twice same = cc
