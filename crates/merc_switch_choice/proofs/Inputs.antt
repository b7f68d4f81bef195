-- The arguments of a mode that are bound before, one after the other.
use Rattle.std.specs.Prelude.{◌≡◌, ◌<◌, ◌+◌, ◌==◌, ◌||◌, ◌&&◌, ℕ, zero, suc, Bool, true, false, List, [], ◌∷◌, length, take, refl}
use Rattle.std.specs.List.{slice_index_or}
use Rattle.std.proofs.Common.{◌∙◌, ap, sym, arith, add-one}
use Rattle.std.proofs.lemmas.Bool.Decides.{nat_tests}
use Rattle.merc_tree.specs.declared.declarations.Arg.{Arg}
use Rattle.merc_tree.specs.declared.declarations.Arg.TheVariants.{Input, Output}
use Rattle.merc_order.specs.Bound.{among}
use Rattle.merc_order.specs.Procedures.{bound_at}
use Rattle.merc_switch_choice.specs.Variables.{behind}
use Rattle.merc_switch_choice.proofs.Members.{or_false, among-behind}
use Rattle.merc_switch_choice.proofs.Tests.{next_eq, none_eq}

abbrev pub is_input : Arg → Bool
is_input Input = true
is_input Output = false

past_eq : (one : ℕ) → (suc one == zero) ≡ false
past_eq one = grind (arith, nat_tests)

input_on : (places : List Arg) (index variable : ℕ) (place : Arg) → index < length places → slice_index_or places index Input ≡ place
    → bound_at (take (suc index) places) variable ≡ (bound_at (take index places) variable || ((variable == index) && is_input place))
input_on [] index variable place within is = absurd (omega (arith, within))
input_on (Input ∷ rest) zero zero place within is = ap is_input is
input_on (Output ∷ rest) zero zero place within is = ap is_input is
input_on (Input ∷ rest) zero (suc variable) place within is = sym (ap (λ b. b && is_input place) (past_eq variable))
input_on (Output ∷ rest) zero (suc variable) place within is = sym (ap (λ b. b && is_input place) (past_eq variable))
input_on (Input ∷ rest) (suc index) zero place within is = refl
input_on (Output ∷ rest) (suc index) zero place within is = sym (ap (λ b. b && is_input place) (none_eq index))
input_on (Input ∷ rest) (suc index) (suc variable) place within is =
    input_on rest index variable place (omega (arith, within)) is ∙ ap (λ b. bound_at (take index rest) variable || (b && is_input place)) (sym (next_eq variable index))
input_on (Output ∷ rest) (suc index) (suc variable) place within is =
    input_on rest index variable place (omega (arith, within)) is ∙ ap (λ b. bound_at (take index rest) variable || (b && is_input place)) (sym (next_eq variable index))

and_true : (b : Bool) → (b && true) ≡ b
and_true true = refl
and_true false = refl

and_false : (b : Bool) → (b && false) ≡ false
and_false true = refl
and_false false = refl

pub input_bound : (places : List Arg) (index number variable : ℕ) (before after : List ℕ) → index < length places → slice_index_or places index Input ≡ Input → number ≡ index
    → after ≡ behind before number → among before variable ≡ bound_at (take index places) variable → among after variable ≡ bound_at (take (index + 1) places) variable
input_bound places index number variable before after within is number_is after_is same =
    ap (λ l. among l variable) (after_is ∙ ap (behind before) number_is) ∙ among-behind before index variable
    ∙ ap (λ b. b || (variable == index)) same ∙ ap (λ b. bound_at (take index places) variable || b) (sym (and_true (variable == index)))
    ∙ sym (input_on places index variable Input within is) ∙ ap (λ n. bound_at (take n places) variable) (sym (add-one index))

pub output_unbound : (places : List Arg) (index variable : ℕ) (before after : List ℕ) → index < length places → slice_index_or places index Input ≡ Output
    → after ≡ before → among before variable ≡ bound_at (take index places) variable → among after variable ≡ bound_at (take (index + 1) places) variable
output_unbound places index variable before after within is after_is same =
    ap (λ l. among l variable) after_is ∙ same ∙ sym (or_false (bound_at (take index places) variable))
    ∙ ap (λ b. bound_at (take index places) variable || b) (sym (and_false (variable == index)))
    ∙ sym (input_on places index variable Output within is) ∙ ap (λ n. bound_at (take n places) variable) (sym (add-one index))
