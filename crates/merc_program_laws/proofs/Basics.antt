-- Small facts on assignments.
use Rattle.std.proofs.Common.{◌≡◌, ◌⊎◌, inl, inr, ℕ, Bool, true, false, ◌==◌, if◌then◌else◌, List, [], ◌∷◌, refl, sym}
use Rattle.std.proofs.lemmas.Bool.Decides.{Decides-eqb}
use Rattle.merc_order.specs.Bound.{among}
use Rattle.merc_value.specs.Value.{Value, Values, IsValue, more}
use Rattle.merc_meaning.specs.Truth.{Assignment, IsAssignment, assigned}
use Rattle.merc_order_laws.proofs.Replacing.{first_among}
use Rattle.merc_program_laws.proofs.Values.{among_there, chosen_false, chosen_true, decide}

pub either : {A B C D : Type 0} → (A → C) → (B → D) → A ⊎ B → C ⊎ D
either f g (inl a) = inl (f a)
either f g (inr b) = inr (g b)

-- an assignment with one value changed
abbrev pub set_to : ℕ → Value → Assignment → Assignment
set_to f v s x = if x == f then v else s x

pub set_here : (f : ℕ) (v : Value) (s : Assignment) → set_to f v s f ≡ v
set_here f v s = chosen_true v (s f) ((Decides-eqb f f).1 refl)

pub set_there : (f : ℕ) (v : Value) (s : Assignment) (x : ℕ) → (x ≡ f → ⊥) → set_to f v s x ≡ s x
set_there f v s x h = elim (decide (x == f) (x ≡ f) (Decides-eqb x f)) as (λ _. set_to f v s x ≡ s x) [ inl p ↦ absurd (h p.1) | inr p ↦ chosen_false v (s x) p.0 ]

pub value_case : (b : Bool) (v w : Value) → IsValue v → IsValue w → IsValue (if b then v else w)
value_case true v w h k = h
value_case false v w h k = k

-- the values of the one for these variables, of the other for all others
abbrev pub mix : (ℕ → Bool) → Assignment → Assignment → Assignment
mix these s other x = if these x then s x else other x

pub mix_values : (these : ℕ → Bool) (s other : Assignment) → IsAssignment s → IsAssignment other → IsAssignment (mix these s other)
mix_values these s other v w x = value_case (these x) (s x) (other x) (v x) (w x)

pub mix_in : (these : ℕ → Bool) (s other : Assignment) (x : ℕ) → these x ≡ true → mix these s other x ≡ s x
mix_in these s other x m = chosen_true (s x) (other x) m

pub more_both : {v w : Value} {vs ws : Values} → v ≡ w → vs ≡ ws → more v vs ≡ more w ws
more_both p q = cc

pub first_same : {v w : Value} {vs ws : Values} → more v vs ≡ more w ws → v ≡ w
first_same h = cc

pub rest_same : {v w : Value} {vs ws : Values} → more v vs ≡ more w ws → vs ≡ ws
rest_same h = cc

pub assigned_same : (ys : List ℕ) (s s' : Assignment) → ((x : ℕ) → among ys x ≡ true → s' x ≡ s x) → assigned s ys ≡ assigned s' ys
assigned_same [] s s' a = refl
assigned_same (y ∷ ys) s s' a = more_both (sym (a y (first_among y ys))) (assigned_same ys s s' (λ x m. a x (among_there x y ys m)))
