-- The faults of the forms of a module's items, and the first of them.
use Rattle.std.specs.Prelude.{◌≡◌, ℕ, ◌<◌, Bool, true, false, List, [], ◌∷◌, ◌++◌}
use Rattle.merc_base.specs.Names.{division_by_zero_name}
use Rattle.merc_base.specs.declared.place.Place.{Place}
use Rattle.merc_base.specs.declared.refusal.Rule.{Rule}
use Rattle.merc_base.specs.declared.refusal.Rule.TheVariants.{WrongForm, OutsideProfile, LimitPassed}
use Rattle.merc_base.specs.declared.refusal.Construct.{Construct}
use Rattle.merc_base.specs.declared.refusal.Detail.{Detail}
use Rattle.merc_base.specs.declared.refusal.Detail.TheVariants.{Plain, Word, Limit}
use Rattle.merc_base.specs.declared.refusal.LimitName.TheVariants.{Arity}
use Rattle.merc_tree.specs.Term.{Term, span_of}
use Rattle.merc_item_forms.specs.Items.{Item, Opening, item_of, place_of}
use Rattle.merc_item_forms.specs.Forms.{IsWrong, words, is_too_wide}

abbrev pub is_nil : List Term → Bool
is_nil [] = true
is_nil (first ∷ rest) = false

-- the name of a module whose first item gives it; any name where it gives none
abbrev pub opened : Item → ℕ
opened (Opening name) = name
opened other = division_by_zero_name

abbrev pub own_name : List Term → ℕ
own_name [] = division_by_zero_name
own_name (first ∷ rest) = opened (item_of first)

-- Forms: each item by itself, at its first token; no item at all on line 1.
pub data HasFormFault (names : List (List ℕ)) (terms : List Term) : Rule → Detail → Place → Type 0 where
  no_item : terms ≡ [] → HasFormFault names terms WrongForm Plain (record { byte = 0; line = 1 })
  wrong : (front back : List Term) (term : Term) → terms ≡ front ++ term ∷ back → IsWrong names (own_name terms) (is_nil front) (is_nil back) (item_of term) → HasFormFault names terms WrongForm Plain (place_of term)
  outside : (front back : List Term) (term : Term) (word : Construct) (rest : List Construct) → terms ≡ front ++ term ∷ back → words (item_of term) ≡ word ∷ rest → HasFormFault names terms OutsideProfile (Word word) (place_of term)
  wide : (front back : List Term) (term : Term) → terms ≡ front ++ term ∷ back → is_too_wide (item_of term) ≡ true → HasFormFault names terms LimitPassed (Limit Arity) (place_of term)

-- each term begins before the next
abbrev pub Rises : List Term → Type 0
Rises [] = Unit {0}
Rises (only ∷ []) = Unit {0}
Rises (first ∷ next ∷ rest) = ((span_of first).first < (span_of next).first) × Rises (next ∷ rest)
