-- Symbols are put behind others, each once.
use Rattle.std.specs.Prelude.{◌≡◌, [], ◌∷◌, refl}
use Rattle.merc_grading.specs.GradingExamples.{red, green, box}
use Rattle.merc_switch_choice.specs.Symbols.{with_symbol, all_symbols}

one_more : with_symbol (green ∷ red ∷ []) box ≡ green ∷ red ∷ box ∷ []
one_more = refl

one_of_them : with_symbol (green ∷ red ∷ []) red ≡ green ∷ red ∷ []
one_of_them = refl

several : all_symbols (red ∷ []) (green ∷ red ∷ green ∷ box ∷ []) ≡ red ∷ green ∷ box ∷ []
several = refl

not_twice : all_symbols (red ∷ []) (red ∷ []) ≡ red ∷ red ∷ [] → ⊥
not_twice same = cc
