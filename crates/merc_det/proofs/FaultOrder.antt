-- The first of faults, and of others behind them.
use Rattle.std.specs.Prelude.{◌≡◌, ◌==◌, ◌&&◌, ◌||◌, nat_le, nat_lt, ℕ, Bool, true, false, List, [], ◌∷◌, ◌++◌, Option, Some, None, refl, if◌then◌else◌}
use Rattle.std.proofs.Common.{◌∙◌, ap, sym, arith}
use Rattle.std.proofs.lemmas.Bool.Decides.{nat_tests}
use Rattle.merc_base.specs.FirstFault.{comes_first, earlier_fault, first_of_faults}
use Rattle.merc_base.specs.declared.refusal.Refusal.{Refusal}
use Rattle.merc_base.specs.Refusal.{rule_number}

abbrev before : ℕ → ℕ → ℕ → ℕ → Bool
before byte rule byte' rule' = nat_lt byte byte' || ((byte == byte') && nat_le rule rule')

before_both : (a b c d e f : ℕ) → before a b c d ≡ true → before c d e f ≡ true → before a b e f ≡ true
before_both a b c d e f h k = grind (arith, nat_tests)

before_neither : (a b c d e f : ℕ) → before a b c d ≡ false → before c d e f ≡ false → before a b e f ≡ false
before_neither a b c d e f h k = grind (arith, nat_tests)

kept_first : (one found fault : Refusal) (b c d : Bool) → comes_first one found ≡ b → comes_first found fault ≡ c → comes_first one fault ≡ d
    → earlier_fault one (Some (if c then found else fault)) ≡ (if comes_first (if b then one else found) fault then (if b then one else found) else fault)
kept_first one found fault true true d x y z =
    let t : d ≡ true = sym z ∙ before_both one.place.byte (rule_number one.rule) found.place.byte (rule_number found.rule) fault.place.byte (rule_number fault.rule) x y in
    ap (λ e. if e then one else found) x ∙ sym (ap (λ e. if e then one else fault) (z ∙ t))
kept_first one found fault true false d x y z = refl
kept_first one found fault false true d x y z = ap (λ e. if e then one else found) x ∙ sym (ap (λ e. if e then found else fault) y)
kept_first one found fault false false d x y z =
    let t : d ≡ false = sym z ∙ before_neither one.place.byte (rule_number one.rule) found.place.byte (rule_number found.rule) fault.place.byte (rule_number fault.rule) x y in
    ap (λ e. if e then one else fault) (z ∙ t) ∙ sym (ap (λ e. if e then found else fault) y)

-- of two faults that were found
abbrev pub earlier_of : Option Refusal → Option Refusal → Option Refusal
earlier_of None other = other
earlier_of (Some one) other = Some (earlier_fault one other)

earlier_assoc : (one : Refusal) (found other : Option Refusal) → earlier_fault one (earlier_of found other) ≡ earlier_fault (earlier_fault one found) other
earlier_assoc one None other = refl
earlier_assoc one (Some found) None = refl
earlier_assoc one (Some found) (Some fault) = kept_first one found fault (comes_first one found) (comes_first found fault) (comes_first one fault) refl refl refl

pub first-append : (faults others : List Refusal) → first_of_faults (faults ++ others) ≡ earlier_of (first_of_faults faults) (first_of_faults others)
first-append [] others = refl
first-append (one ∷ rest) others =
    ap (λ o. Some (earlier_fault one o)) (first-append rest others) ∙ ap Some (earlier_assoc one (first_of_faults rest) (first_of_faults others))

pub first_either : (faults others : List Refusal) (one other : Option Refusal) → one ≡ first_of_faults faults → other ≡ first_of_faults others
    → earlier_of one other ≡ first_of_faults (faults ++ others)
first_either faults others one other e f = ap (λ o. earlier_of o other) e ∙ ap (earlier_of (first_of_faults faults)) f ∙ sym (first-append faults others)

-- by which of the two there are

pub first_kept : (faults others : List Refusal) (one other : Option Refusal) (a b : Refusal) → one ≡ Some a → other ≡ Some b → comes_first a b ≡ true
    → one ≡ first_of_faults faults → other ≡ first_of_faults others → Some a ≡ first_of_faults (faults ++ others)
first_kept faults others one other a b is is' t e f =
    sym (ap (λ x. Some (if x then a else b)) t) ∙ first_either faults others (Some a) (Some b) (sym is ∙ e) (sym is' ∙ f)

pub first_passed : (faults others : List Refusal) (one other : Option Refusal) (a b : Refusal) → one ≡ Some a → other ≡ Some b → comes_first a b ≡ false
    → one ≡ first_of_faults faults → other ≡ first_of_faults others → Some b ≡ first_of_faults (faults ++ others)
first_passed faults others one other a b is is' t e f =
    sym (ap (λ x. Some (if x then a else b)) t) ∙ first_either faults others (Some a) (Some b) (sym is ∙ e) (sym is' ∙ f)

pub first_alone : (faults others : List Refusal) (one other : Option Refusal) (a : Refusal) → one ≡ Some a → other ≡ None
    → one ≡ first_of_faults faults → other ≡ first_of_faults others → Some a ≡ first_of_faults (faults ++ others)
first_alone faults others one other a is is' e f = first_either faults others (Some a) None (sym is ∙ e) (sym is' ∙ f)

pub first_later : (faults others : List Refusal) (one other : Option Refusal) → one ≡ None → one ≡ first_of_faults faults → other ≡ first_of_faults others
    → other ≡ first_of_faults (faults ++ others)
first_later faults others one other is e f = first_either faults others None other (sym is ∙ e) f
