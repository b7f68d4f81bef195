-- Numbers above the variables that conjuncts use.
use Rattle.std.specs.Prelude.{◌≡◌, ◌+◌, ◌≤◌, ◌<◌, ◌||◌, ◌==◌, ℕ, zero, suc, Bool, true, false, List, [], ◌∷◌, ◌++◌, drop, length, take, slice_get, refl}
use Rattle.std.specs.List.{All, slice_index_or}
use Rattle.std.proofs.Common.{◌∙◌, ap, arith, subst, sym}
use Rattle.std.proofs.lemmas.List.{append-nil, append_assoc, drop_more, take_all, take_more}
use Rattle.std.proofs.lemmas.List.Elements.{All-append, All-nil}
use Rattle.merc_code.specs.Steps.{ConjunctCode}
use Rattle.merc_code.specs.ProgramCode.{forked_there}
use Rattle.merc_live.specs.Reads.{is_in, used_by}
use Rattle.merc_layout.specs.Entries.{Each}
use Rattle.merc_layout.specs.Sizes.{TellsLent}

abbrev pub AreBelow : ℕ → List ℕ → Type 0
AreBelow above variables = All (λ (variable : ℕ). variable < above) variables

used_by-append : (some others : List ConjunctCode) → used_by (some ++ others) ≡ used_by some ++ used_by others
used_by-append [] others = refl
used_by-append (conjunct ∷ some) others = ap (λ l. conjunct.used ++ l) (used_by-append some others) ∙ sym (append_assoc conjunct.used (used_by some) (used_by others))

-- one conjunct more
used_by-more : (conjuncts : List ConjunctCode) (index : ℕ) (conjunct : ConjunctCode) → index < length conjuncts → conjunct ≡ slice_index_or conjuncts index conjunct
    → used_by (take (index + 1) conjuncts) ≡ used_by (take index conjuncts) ++ conjunct.used
used_by-more conjuncts index conjunct inside is =
    ap used_by (take_more conjuncts index conjunct inside)
    ∙ ap (λ (one : ConjunctCode). used_by (take index conjuncts ++ one ∷ [])) (sym is)
    ∙ used_by-append (take index conjuncts) (conjunct ∷ [])
    ∙ ap (λ l. used_by (take index conjuncts) ++ l) (append-nil conjunct.used)

pub used_below-more : (conjuncts : List ConjunctCode) (index : ℕ) (conjunct : ConjunctCode) (before here most : ℕ) → index < length conjuncts → conjunct ≡ slice_index_or conjuncts index conjunct
    → before ≤ most → here ≤ most → AreBelow before (used_by (take index conjuncts)) → AreBelow here conjunct.used
    → AreBelow most (used_by (take (index + 1) conjuncts))
used_below-more conjuncts index conjunct before here most inside is fewer own all all_own =
    subst (AreBelow most) (sym (used_by-more conjuncts index conjunct inside is))
    (All-append (λ (variable : ℕ). variable < most) (used_by (take index conjuncts)) conjunct.used
    (λ k d h. let e = all k d h in omega (arith, e, fewer)) (λ k d h. let e = all_own k d h in omega (arith, e, own)))

pub used_below-all : (conjuncts : List ConjunctCode) (index most : ℕ) → length conjuncts ≤ index → AreBelow most (used_by (take index conjuncts))
    → AreBelow most (used_by conjuncts)
used_below-all conjuncts index most past all = subst (λ l. AreBelow most (used_by l)) (take_all index conjuncts past) all

-- The number is above the variables that the conjuncts use.
abbrev pub IsAbove : ℕ → List ConjunctCode → Type 0
IsAbove above conjuncts = AreBelow above (used_by conjuncts)

pub tells_lent : (numbers : List ℕ) (conjuncts : List (List ConjunctCode)) → Each IsAbove numbers conjuncts → TellsLent numbers (λ site. forked_there (slice_get conjuncts site))
tells_lent [] [] each site = All-nil (λ (variable : ℕ). variable < 0)
tells_lent [] (those ∷ conjuncts) each site = absurd each
tells_lent (number ∷ numbers) [] each site = absurd each
tells_lent (number ∷ numbers) (those ∷ conjuncts) each zero = each.0
tells_lent (number ∷ numbers) (those ∷ conjuncts) each (suc site) = tells_lent numbers conjuncts each.1 site

-- What conjuncts use the first of them uses, or one of the others.

in_either : (variable : ℕ) (some others : List ℕ) → is_in variable (some ++ others) ≡ (is_in variable some || is_in variable others)
in_either variable [] others = refl
in_either variable (first ∷ some) others =
    ap (λ b. (variable == first) || b) (in_either variable some others) ∙ regrouped (variable == first) (is_in variable some) (is_in variable others)
  where
    regrouped : (one other third : Bool) → (one || (other || third)) ≡ ((one || other) || third)
    regrouped true other third = refl
    regrouped false other third = refl

pub used_here : (variable : ℕ) (conjuncts : List ConjunctCode) (index : ℕ) (conjunct : ConjunctCode) → index < length conjuncts → conjunct ≡ slice_index_or conjuncts index conjunct
    → is_in variable (used_by (drop index conjuncts)) ≡ (is_in variable conjunct.used || is_in variable (used_by (drop (index + 1) conjuncts)))
used_here variable conjuncts index conjunct inside is =
    let rest = drop (index + 1) conjuncts in
    ap (λ l. is_in variable (used_by l)) (drop_more conjuncts index conjunct inside)
    ∙ ap (λ (one : ConjunctCode). is_in variable (used_by (one ∷ rest))) (sym is)
    ∙ in_either variable conjunct.used (used_by rest)
