-- Worked examples of rights to signal that are together by variable.
use Rattle.std.specs.Prelude.{◌≡◌, ℕ, true, false, List, [], ◌∷◌, ◌++◌, length, map, refl}
use Rattle.std.proofs.Common.{◌∙◌, ap, sym, inl, inr}
use Rattle.merc_rights.specs.Groups.{in_order, rights_in, all_rights, AllFor, groups_of, numbered, numbered_with, AreBoth, shares_in, by_variable, held_if, held_in, held_variables, has_some, AreHeld, AreAt}
use Rattle.merc_rights.specs.Rights.{Right, right_to, with_rights}
use Rattle.merc_rights.specs.Rows.{row_of}
use Rattle.merc_rights.specs.declared.groups.Group.{Group}
use Rattle.merc_rights.specs.declared.groups.NumberedGroup.{NumberedGroup}

-- 0 is the last
in_order-example : in_order 7 (0 ∷ 3 ∷ 2 ∷ 3 ∷ []) ≡ right_to 2 7 ∷ right_to 3 7 ∷ right_to 3 7 ∷ right_to 0 7 ∷ []
in_order-example = refl

in_order-not : in_order 7 (0 ∷ 2 ∷ []) ≡ right_to 0 7 ∷ right_to 2 7 ∷ [] → ⊥
in_order-not first = cc

rights_in-example : (group : Group) → group.variable ≡ 7 → group.conjuncts.items ≡ 0 ∷ 2 ∷ [] → rights_in group ≡ right_to 2 7 ∷ right_to 0 7 ∷ []
rights_in-example group variable conjuncts = ap (λ v. in_order v group.conjuncts.items) variable ∙ ap (in_order 7) conjuncts

rights_in-not : (group : Group) → group.conjuncts.items ≡ [] → rights_in group ≡ right_to 2 7 ∷ [] → ⊥
rights_in-not group none one = let wrong : ◌≡◌ {A = List Right} [] (right_to 2 7 ∷ []) = sym (ap (in_order group.variable) none) ∙ one in cc

all_rights-example : all_rights [] ≡ []
all_rights-example = refl

all_rights-not : (group : Group) → group.variable ≡ 7 → group.conjuncts.items ≡ 0 ∷ [] → all_rights (group ∷ []) ≡ [] → ⊥
all_rights-not group variable conjuncts none =
    let is = ap (λ v. in_order v group.conjuncts.items) variable ∙ ap (in_order 7) conjuncts in
    let wrong : ◌≡◌ {A = List Right} (right_to 0 7 ∷ []) [] = sym (ap (λ l. l ++ []) is) ∙ none in cc

AllFor-example : AllFor 7 (right_to 2 7 ∷ right_to 0 7 ∷ [])
AllFor-example = (refl, (refl, tt))

AllFor-not : AllFor 7 (right_to 2 7 ∷ right_to 0 8 ∷ []) → ⊥
AllFor-not all = let wrong : ◌≡◌ {A = ℕ} 8 7 = all.1.0 in cc

-- the groups of a number, whose order stays

module _ (first second : Group) where
  abbrev three : List NumberedGroup
  three = record { number = 4; group = first } ∷ record { number = 5; group = first } ∷ record { number = 4; group = second } ∷ []

  groups_of-example : groups_of 4 three ≡ first ∷ second ∷ []
  groups_of-example = refl

  groups_of-not : groups_of 6 three ≡ first ∷ [] → ⊥
  groups_of-not one = cc

abbrev one : Group → List NumberedGroup
one group = record { number = 1; group = group } ∷ []

abbrev by_one : List Right → List (ℕ × Right)
by_one rights = map (λ right. (1, right)) rights ++ []

own : (group : Group) → group.variable ≡ 7 → group.conjuncts.items ≡ 3 ∷ [] → rights_in group ≡ right_to 3 7 ∷ []
own group variable conjuncts = ap (λ v. in_order v group.conjuncts.items) variable ∙ ap (in_order 7) conjuncts

numbered-example : (group : Group) → group.variable ≡ 7 → group.conjuncts.items ≡ 3 ∷ [] → numbered (one group) ≡ (1, right_to 3 7) ∷ []
numbered-example group variable conjuncts = ap by_one (own group variable conjuncts)

numbered-not : numbered [] ≡ (1, right_to 3 7) ∷ [] → ⊥
numbered-not some = cc

-- with what moves in, before or behind
numbered_with-example : (group : Group) → group.variable ≡ 7 → group.conjuncts.items ≡ 3 ∷ []
    → numbered_with ((7, right_to 2 7) ∷ (8, right_to 4 8) ∷ []) (one group) ≡ (1, right_to 2 7) ∷ (1, right_to 3 7) ∷ []
numbered_with-example group variable conjuncts =
    let moved = (7, right_to 2 7) ∷ (8, right_to 4 8) ∷ [] in
    ap (λ v. by_one (with_rights (row_of v moved) (rights_in group))) variable ∙ ap (λ r. by_one (with_rights (row_of 7 moved) r)) (own group variable conjuncts)

numbered_with-not : numbered_with ((7, right_to 2 7) ∷ []) [] ≡ (1, right_to 2 7) ∷ [] → ⊥
numbered_with-not some = cc

AreBoth-example : AreBoth (1 ∷ []) (2 ∷ []) (2 ∷ 1 ∷ [])
AreBoth-example = inr refl

AreBoth-not : AreBoth (1 ∷ []) (2 ∷ []) (1 ∷ []) → ⊥
AreBoth-not both = elim both as (λ _. ⊥) [
  | inl is ↦ cc
  | inr is ↦ cc
]

shares_in-example : shares_in ((7 ∷ []) ∷ (8 ∷ []) ∷ (8 ∷ 7 ∷ []) ∷ []) (right_to 2 7) ≡ (0, right_to 2 7) ∷ (2, right_to 2 7) ∷ []
shares_in-example = refl

shares_in-not : shares_in ((8 ∷ []) ∷ []) (right_to 2 7) ≡ (0, right_to 2 7) ∷ [] → ⊥
shares_in-not some = cc

by_variable-example : by_variable (right_to 2 7 ∷ []) ≡ (7, right_to 2 7) ∷ []
by_variable-example = refl

by_variable-not : by_variable (right_to 2 7 ∷ []) ≡ [] → ⊥
by_variable-not none = cc

-- which variables have rights

held_if-example : held_if 7 (2 ∷ 0 ∷ []) ≡ 7 ∷ []
held_if-example = refl

held_if-not : held_if 7 [] ≡ 7 ∷ [] → ⊥
held_if-not some = cc

has_some-example : has_some {X = ℕ} (1 ∷ []) ≡ true
has_some-example = refl

has_some-not : has_some {X = ℕ} [] ≡ true → ⊥
has_some-not some = cc

held_in-example : (group : Group) → group.variable ≡ 7 → group.conjuncts.items ≡ 3 ∷ [] → held_in group ≡ 7 ∷ []
held_in-example group variable conjuncts = ap (λ v. held_if v group.conjuncts.items) variable ∙ ap (held_if 7) conjuncts

held_variables-example : held_variables [] ≡ []
held_variables-example = refl

AreHeld-example : AreHeld [] []
AreHeld-example variable = refl

AreHeld-not : AreHeld (7 ∷ []) [] → ⊥
AreHeld-not held = let wrong : true ≡ false = held 7 in cc

-- the rights at the place of a group

abbrev variable_of : List NumberedGroup → ℕ
variable_of [] = 0
variable_of (first ∷ rest) = first.group.variable

at_one : (group : Group) → group.variable ≡ 7 → (front : List NumberedGroup) (item : NumberedGroup) (back : List NumberedGroup) → one group ≡ front ++ item ∷ back
    → row_of (length front) ((0, right_to 2 7) ∷ []) ≡ row_of item.group.variable (by_variable (right_to 2 7 ∷ []))
at_one group variable [] item back are =
    let same : group.variable ≡ item.group.variable = ap variable_of are in
    ap (λ v. row_of v (by_variable (right_to 2 7 ∷ []))) (sym variable ∙ same)
at_one group variable (first ∷ []) item back are = absurd cc
at_one group variable (first ∷ second ∷ rest) item back are = absurd cc

AreAt-example : (group : Group) → group.variable ≡ 7 → AreAt (one group) (right_to 2 7 ∷ []) ((0, right_to 2 7) ∷ [])
AreAt-example group variable = at_one group variable

AreAt-not : (group : Group) → group.variable ≡ 7 → AreAt (one group) (right_to 2 7 ∷ []) [] → ⊥
AreAt-not group variable at =
    let row = at [] (record { number = 1; group = group }) [] refl ∙ ap (λ v. row_of v (by_variable (right_to 2 7 ∷ []))) variable in
    let wrong : ◌≡◌ {A = List Right} [] (right_to 2 7 ∷ []) = row in cc
