-- Environments with which a call of `same(T, T)`, with the mode `(in, out)`, begins and ends.
use Rattle.std.specs.Prelude.{◌≡◌, Bool, false, ◌==◌, ◌||◌, ℕ, zero, suc, ◌<◌, true, is_some, List, [], ◌∷◌, Some, None, refl}
use Rattle.std.proofs.Common.{sym, subst, arith}
use Rattle.std.proofs.lemmas.Bool.Decides.{Decides-eqb}
use Rattle.merc_tree.specs.Types.{TypeExpr, TypeVariable, TextType, replaced}
use Rattle.merc_tree.specs.declared.declarations.Arg.TheVariants.{Input, Output}
use Rattle.merc_value.specs.Value.{Value, Text}
use Rattle.merc_meaning.specs.Trace.{Env}
use Rattle.merc_meaning.specs.Steps.{value_at}
use Rattle.merc_order.specs.Procedures.{bound_at}
use Rattle.merc_program_laws.specs.ValueTypes.{HasType}
use Rattle.merc_program_laws.specs.ValueTypesExamples.{declared, one_text}
use Rattle.merc_program_laws.specs.CategoryLaws.{AreTyped, Enters, Leaves, GivesAll}

abbrev of_texts : ℕ → TypeExpr
of_texts name = TextType

abbrev arguments : List TypeExpr
arguments = TypeVariable 84 ∷ TypeVariable 84 ∷ []

abbrev Before : Env → Type 0
Before env = Enters declared of_texts (Input ∷ Output ∷ []) arguments env

abbrev At : Env → Type 0
At answer = Leaves declared of_texts arguments (Some (Text 70) ∷ None ∷ []) answer

same_some : {A : Type 0} {x y : A} → Some x ≡ Some y → x ≡ y
same_some h = cc

-- a text where T stands for `string`
is_text : (type : TypeExpr) (value : Value) → Some (TypeVariable 84) ≡ Some type → Some (Text 70) ≡ Some value → HasType declared value (replaced of_texts type)
is_text type value p q = subst (λ (t : TypeExpr). HasType declared value (replaced of_texts t)) (same_some p) (subst (λ (v : Value). HasType declared v TextType) (same_some q) refl)

-- Before, the first is a text, and the second is free.

begins : Before (Some (Text 70) ∷ None ∷ [])
begins = record { bindings = bound; typed = typed } where
  bound : (v : ℕ) → is_some (value_at (Some (Text 70) ∷ None ∷ []) v) ≡ bound_at (Input ∷ Output ∷ []) v
  bound zero = refl
  bound (suc zero) = refl
  bound (suc (suc v)) = refl

  typed : AreTyped declared of_texts arguments (Some (Text 70) ∷ None ∷ [])
  typed zero type value p q = is_text type value p q
  typed (suc zero) type value p q = absurd cc
  typed (suc (suc v)) type value p q = absurd cc

output_bound : Before (Some (Text 70) ∷ Some (Text 71) ∷ []) → ⊥
output_bound h = cc (h.bindings 1)

input_free : Before [] → ⊥
input_free h = cc (h.bindings 0)

other_bound : Before (Some (Text 70) ∷ None ∷ Some (Text 71) ∷ []) → ⊥
other_bound h = cc (h.bindings 2)

wrong_type : Before (Some one_text ∷ None ∷ []) → ⊥
wrong_type h = cc (h.typed 0 (TypeVariable 84) one_text refl refl).3

-- At an answer the second is a text too.

ends : At (Some (Text 70) ∷ Some (Text 70) ∷ [])
ends = record { keeps = keeps; bindings = bound; typed = typed } where
  keeps : (v : ℕ) (value : Value) → value_at (Some (Text 70) ∷ None ∷ []) v ≡ Some value → value_at (Some (Text 70) ∷ Some (Text 70) ∷ []) v ≡ Some value
  keeps zero value q = q
  keeps (suc zero) value q = absurd cc
  keeps (suc (suc v)) value q = absurd cc

  bound : (v : ℕ) → v < 2 → is_some (value_at (Some (Text 70) ∷ Some (Text 70) ∷ []) v) ≡ true
  bound zero l = refl
  bound (suc zero) l = refl
  bound (suc (suc v)) l = absurd (omega (arith, l))

  typed : AreTyped declared of_texts arguments (Some (Text 70) ∷ Some (Text 70) ∷ [])
  typed zero type value p q = is_text type value p q
  typed (suc zero) type value p q = is_text type value p q
  typed (suc (suc v)) type value p q = absurd cc

output_free : At (Some (Text 70) ∷ []) → ⊥
output_free h = cc (h.bindings 1 (omega (arith)))

input_changed : At (Some one_text ∷ Some (Text 70) ∷ []) → ⊥
input_changed h = cc (h.keeps 0 (Text 70) refl)

other_type : At (Some (Text 70) ∷ Some one_text ∷ []) → ⊥
other_type h = cc (h.typed 1 (TypeVariable 84) one_text refl refl).3

-- An answer to a goal with Y as its answer variable, a text.

gives_all : GivesAll declared of_texts (λ variable. TextType) (1 ∷ []) (None ∷ Some (Text 70) ∷ [])
gives_all v h =
    subst (λ (x : ℕ). (value : Value) × (value_at (None ∷ Some (Text 70) ∷ []) x ≡ Some value) × HasType declared value TextType) (sym (only (v == 1) ((Decides-eqb v 1).0) h)) (Text 70, refl, refl) where
      only : {A : Type 0} (b : Bool) → (b ≡ true → A) → (b || false) ≡ true → A
      only true f h = f refl
      only false f h = absurd cc

gives_nothing : GivesAll declared of_texts (λ variable. TextType) (1 ∷ []) (Some (Text 70) ∷ []) → ⊥
gives_nothing h = let wrong : None ≡ Some (h 1 refl).0 = (h 1 refl).1 in cc

gives_list : GivesAll declared of_texts (λ variable. TextType) (0 ∷ []) (Some one_text ∷ []) → ⊥
gives_list h =
    let given : HasType declared one_text TextType = subst (λ (value : Value). HasType declared value TextType) (sym (same_some (h 0 refl).1)) (h 0 refl).2 in
    cc given.3
