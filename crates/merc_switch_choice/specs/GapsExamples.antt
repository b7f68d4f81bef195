-- Constructors that are missing in a few disjuncts, over the types and goals of the examples of categories.
use Rattle.std.specs.Prelude.{◌≡◌, true, false, [], ◌∷◌, Some, IfSome, refl}
use Rattle.std.proofs.Common.{subst}
use Rattle.merc_grading.specs.GradingExamples.{red, green, c, is_red, is_green}
use Rattle.merc_switch_choice.specs.declared.gaps.Gap.{Gap}
use Rattle.merc_switch_choice.specs.declared.gaps.Gaps.{Gaps}
use Rattle.merc_switch_choice.specs.Gaps.{symbol_of_gap, Avoids, IsMissing, gap_of, AvoidsAll}

avoided : Avoids c green (is_red c)
avoided = refl

avoided_not : Avoids c red (is_red c) → ⊥
avoided_not wrong = cc

missing : IsMissing (red ∷ []) (red ∷ green ∷ []) green
missing = record { is_one = refl; is_none = refl }

-- it is there
missing_not : IsMissing (red ∷ []) (red ∷ green ∷ []) red → ⊥
missing_not missing = let wrong : true ≡ false = missing.is_none in cc

-- green is kept, by which a disjunct splits C
gaps_not : (gaps : Gaps) (gap : Gap) → gap_of gaps c ≡ Some gap → symbol_of_gap gap ≡ green → AvoidsAll gaps (is_green c) → ⊥
gaps_not gaps gap kept is avoids =
    let one : Avoids c (symbol_of_gap gap) (is_green c) = subst (λ o. IfSome o (λ (gap : Gap). Avoids c (symbol_of_gap gap) (is_green c))) kept (avoids c) in
    let wrong : true ≡ false = subst (λ s. Avoids c s (is_green c)) is one in
    cc

gap_is : symbol_of_gap (record { name = 51; arity = 0; place = 0 }) ≡ red
gap_is = refl

gap_is_not : symbol_of_gap (record { name = 51; arity = 1; place = 0 }) ≡ red → ⊥
gap_is_not wrong = cc
