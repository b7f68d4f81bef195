-- Variables are bound each once, in order.
use Rattle.std.specs.Prelude.{◌≡◌, ◌∷◌, [], refl}
use Rattle.merc_goal_facts.specs.Bounds.{behind, all_behind, AreApart}

one_more : behind (4 ∷ 2 ∷ []) 3 ≡ 4 ∷ 2 ∷ 3 ∷ []
one_more = refl

one_of_them : behind (4 ∷ 2 ∷ []) 2 ≡ 4 ∷ 2 ∷ []
one_of_them = refl

several : all_behind (4 ∷ []) (2 ∷ 4 ∷ 2 ∷ 7 ∷ []) ≡ 4 ∷ 2 ∷ 7 ∷ []
several = refl

not_twice : all_behind (4 ∷ []) (4 ∷ []) ≡ 4 ∷ 4 ∷ [] → ⊥
not_twice same = cc

apart : AreApart (4 ∷ 2 ∷ 7 ∷ [])
apart = (refl, (refl, (refl, tt)))

not_apart : AreApart (4 ∷ 2 ∷ 4 ∷ []) → ⊥
not_apart all = let first = all.0 in cc
