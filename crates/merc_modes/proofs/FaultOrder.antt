-- The first of faults, with one more behind them.
use Rattle.std.specs.Prelude.{◌≡◌, ◌==◌, ◌&&◌, ◌||◌, nat_le, nat_lt, ℕ, Bool, true, false, List, [], ◌∷◌, ◌++◌, Option, Some, None, refl, if◌then◌else◌}
use Rattle.std.proofs.Common.{◌∙◌, ap, sym, arith}
use Rattle.std.proofs.lemmas.Bool.Decides.{nat_tests}
use Rattle.merc_base.specs.FirstFault.{comes_first, earlier_fault, first_of_faults}
use Rattle.merc_base.specs.declared.refusal.Refusal.{Refusal}
use Rattle.merc_base.specs.Refusal.{rule_number}

abbrev before : ℕ → ℕ → ℕ → ℕ → Bool
before byte rule byte' rule' = nat_lt byte byte' || ((byte == byte') && nat_le rule rule')

before_both : (a b c d e f : ℕ) → before a b c d ≡ true → before c d e f ≡ true → before a b e f ≡ true
before_both a b c d e f h k = grind (arith, nat_tests)

before_neither : (a b c d e f : ℕ) → before a b c d ≡ false → before c d e f ≡ false → before a b e f ≡ false
before_neither a b c d e f h k = grind (arith, nat_tests)

kept_first : (one found fault : Refusal) (b c d : Bool) → comes_first one found ≡ b → comes_first found fault ≡ c → comes_first one fault ≡ d
    → earlier_fault one (Some (if c then found else fault)) ≡ (if comes_first (if b then one else found) fault then (if b then one else found) else fault)
kept_first one found fault true true d x y z =
    let t : d ≡ true = sym z ∙ before_both one.place.byte (rule_number one.rule) found.place.byte (rule_number found.rule) fault.place.byte (rule_number fault.rule) x y in
    ap (λ e. if e then one else found) x ∙ sym (ap (λ e. if e then one else fault) (z ∙ t))
kept_first one found fault true false d x y z = refl
kept_first one found fault false true d x y z = ap (λ e. if e then one else found) x ∙ sym (ap (λ e. if e then found else fault) y)
kept_first one found fault false false d x y z =
    let t : d ≡ false = sym z ∙ before_neither one.place.byte (rule_number one.rule) found.place.byte (rule_number found.rule) fault.place.byte (rule_number fault.rule) x y in
    ap (λ e. if e then one else fault) (z ∙ t) ∙ sym (ap (λ e. if e then found else fault) y)

abbrev with_last : Option Refusal → Refusal → Refusal
with_last None fault = fault
with_last (Some found) fault = if comes_first found fault then found else fault

last_earlier : (one fault : Refusal) (found : Option Refusal) → earlier_fault one (Some (with_last found fault)) ≡ with_last (Some (earlier_fault one found)) fault
last_earlier one fault None = refl
last_earlier one fault (Some found) = kept_first one found fault (comes_first one found) (comes_first found fault) (comes_first one fault) refl refl refl

pub first_with : (faults : List Refusal) (fault : Refusal) → first_of_faults (faults ++ fault ∷ []) ≡ Some (with_last (first_of_faults faults) fault)
first_with [] fault = refl
first_with (one ∷ rest) fault = ap (λ o. Some (earlier_fault one o)) (first_with rest fault) ∙ ap Some (last_earlier one fault (first_of_faults rest))

pub first_none : (faults : List Refusal) (fault : Refusal) → None ≡ first_of_faults faults → first_of_faults (faults ++ fault ∷ []) ≡ Some fault
first_none faults fault e = first_with faults fault ∙ ap (λ o. Some (with_last o fault)) (sym e)

pub first_some : (faults : List Refusal) (fault found : Refusal) (b : Bool) → Some found ≡ first_of_faults faults → comes_first found fault ≡ b
    → first_of_faults (faults ++ fault ∷ []) ≡ Some (if b then found else fault)
first_some faults fault found b e c = first_with faults fault ∙ ap (λ o. Some (with_last o fault)) (sym e) ∙ ap (λ x. Some (if x then found else fault)) c
