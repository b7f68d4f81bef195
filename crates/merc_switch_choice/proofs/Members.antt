-- Which variables are in lists of them.
use Rattle.std.specs.Prelude.{◌≡◌, ℕ, Bool, true, false, ◌||◌, ◌==◌, List, [], ◌∷◌, ◌++◌, if◌then◌else◌, refl}
use Rattle.std.proofs.Common.{◌∙◌, ap, sym}
use Rattle.std.proofs.lemmas.Bool.Decides.{Decides-eqb}
use Rattle.merc_order.specs.Bound.{among}
use Rattle.merc_switch_choice.specs.Variables.{behind, all_behind}

pub or_assoc : (a b c : Bool) → ((a || b) || c) ≡ (a || (b || c))
or_assoc true b c = refl
or_assoc false b c = refl

pub or_false : (a : Bool) → (a || false) ≡ a
or_false true = refl
or_false false = refl

pub or_true : (a : Bool) → (a || true) ≡ true
or_true true = refl
or_true false = refl

-- variables that are put behind others

pub among-append : (front back : List ℕ) (variable : ℕ) → among (front ++ back) variable ≡ (among front variable || among back variable)
among-append [] back variable = refl
among-append (first ∷ rest) back variable =
    ap (λ b. (variable == first) || b) (among-append rest back variable) ∙ sym (or_assoc (variable == first) (among rest variable) (among back variable))

-- variables that are put behind others where they are not there

member_if : (b : Bool) (bound : List ℕ) (v w : ℕ) → among bound v ≡ b → among (if b then bound else bound ++ v ∷ []) w ≡ (among bound w || (w == v))
member_if true bound v w h = already (w == v) refl
  where
    already : (c : Bool) → (w == v) ≡ c → among bound w ≡ (among bound w || c)
    already true same = ap (among bound) ((Decides-eqb w v).0 same) ∙ h ∙ sym (or_true (among bound w))
    already false same = sym (or_false (among bound w))
member_if false bound v w h = among-append bound (v ∷ []) w ∙ ap (λ c. among bound w || c) (or_false (w == v))

pub among-behind : (bound : List ℕ) (v w : ℕ) → among (behind bound v) w ≡ (among bound w || (w == v))
among-behind bound v w = member_if (among bound v) bound v w refl

pub among-all_behind : (bound more : List ℕ) (w : ℕ) → among (all_behind bound more) w ≡ (among bound w || among more w)
among-all_behind bound [] w = sym (or_false (among bound w))
among-all_behind bound (first ∷ rest) w =
    among-all_behind (behind bound first) rest w ∙ ap (λ b. b || among rest w) (among-behind bound first w) ∙ or_assoc (among bound w) (w == first) (among rest w)
