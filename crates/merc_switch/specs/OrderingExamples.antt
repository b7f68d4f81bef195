-- Which of the outputs 4, 2 and 7 are among the variables 7, 9 and 4.
use Rattle.std.specs.Prelude.{◌≡◌, ◌∷◌, [], true, false, refl}
use Rattle.merc_switch.specs.Ordering.{is_kept}

the_first : is_kept (7 ∷ 9 ∷ 4 ∷ []) (4 ∷ 2 ∷ 7 ∷ []) 0 ≡ true
the_first = refl

not_the_second : is_kept (7 ∷ 9 ∷ 4 ∷ []) (4 ∷ 2 ∷ 7 ∷ []) 1 ≡ true → ⊥
not_the_second kept = cc

none_past_the_last : is_kept (7 ∷ 9 ∷ 4 ∷ []) (4 ∷ 2 ∷ 7 ∷ []) 3 ≡ false
none_past_the_last = refl
