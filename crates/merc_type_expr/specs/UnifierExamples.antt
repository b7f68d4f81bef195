-- Substitutions of types by examples.
use Rattle.std.specs.Prelude.{◌≡◌, ℕ, ◌==◌, true, false, [], ◌∷◌, Some, None, if◌then◌else◌, refl}
use Rattle.std.proofs.Common.{ap, sym, ◌∙◌, arith}
use Rattle.std.proofs.lemmas.Bool.Decides.{nat_tests}
use Rattle.merc_base.specs.Names.{list_name}
use Rattle.merc_tree.specs.Types.{TypeExpr, TypeVariable, IntType, TextType, TypeApplication, no_types, more_types, replaced}
use Rattle.merc_type_expr.specs.Unifier.{Bindings, IsMostGeneral, IsUnifier, HasNoUnifier}
use Rattle.merc_type_expr.specs.Solving.{size}

-- the type variables A and B, and a name `f`, behind the constants

abbrev a_name : ℕ
a_name = 110

abbrev b_name : ℕ
b_name = 111

abbrev f_name : ℕ
f_name = 112

abbrev list_of : TypeExpr → TypeExpr
list_of type = TypeApplication list_name (more_types type no_types)

abbrev f_of : TypeExpr → TypeExpr → TypeExpr
f_of one other = TypeApplication f_name (more_types one (more_types other no_types))

-- list(A) and A have no unifier: whatever A is, list(A) is larger
pub list_of_itself : HasNoUnifier (list_of (TypeVariable a_name)) (TypeVariable a_name) []
list_of_itself values unifies = omega (arith, ap size unifies.same)

-- list(A) and list(int) have one, which binds A to int
abbrev a_is_int : Bindings
a_is_int = (a_name, IntType) ∷ []

abbrev int_for_a : ℕ → TypeExpr
int_for_a name = if a_name == name then IntType else TypeVariable name

a_is_int_solvable : IsMostGeneral int_for_a a_is_int
a_is_int_solvable = record {
  solves = (refl, tt);
  free = λ name free.
      elim (a_name == name) as (λ b. (if b then Some IntType else None) ≡ None → (if b then IntType else TypeVariable name) ≡ TypeVariable name) [
        | true ↦ (λ e. absurd (cc))
        | false ↦ (λ e. refl)
      ] free;
  general = λ other solves name.
      elim (a_name == name) as (λ b. (a_name == name) ≡ b → replaced other (if b then IntType else TypeVariable name) ≡ other name) [
        | true ↦ (λ e. let same : a_name ≡ name = grind (arith, nat_tests) in sym solves.0 ∙ ap other same)
        | false ↦ (λ e. refl)
      ] refl;
}

pub lists_unify : IsUnifier a_is_int (list_of (TypeVariable a_name)) (list_of IntType) []
lists_unify = record {
  solvable = (int_for_a, a_is_int_solvable);
  solutions = λ values. (
    λ solves. record { solves = tt; same = ap list_of solves.0 },
    λ unifies. let same : list_of (values a_name) ≡ list_of IntType = unifies.same in let inner : values a_name ≡ IntType = cc in (inner, tt),
  );
}

-- What binds B in place of A does not unify them: A may still be a string.
pub other_variable : IsUnifier ((b_name, IntType) ∷ []) (list_of (TypeVariable a_name)) (list_of IntType) [] → ⊥
other_variable unifier =
    let values : ℕ → TypeExpr = λ name. if b_name == name then IntType else TextType in
    let same : list_of TextType ≡ list_of IntType = ((unifier.solutions values).0 (refl, tt)).same in
    cc

-- Nor does what binds A to string: it has other solutions.
pub other_type : IsUnifier ((a_name, TextType) ∷ []) (list_of (TypeVariable a_name)) (list_of IntType) [] → ⊥
other_type unifier =
    let values : ℕ → TypeExpr = λ name. TextType in
    let same : list_of TextType ≡ list_of IntType = ((unifier.solutions values).0 (refl, tt)).same in
    cc

-- f(A, B) and f(B, int) have one, which binds A to B and B to int
abbrev both_are_int : Bindings
both_are_int = (a_name, TypeVariable b_name) ∷ (b_name, IntType) ∷ []

abbrev int_for_both : ℕ → TypeExpr
int_for_both name = if a_name == name then IntType else if b_name == name then IntType else TypeVariable name

both_are_int_solvable : IsMostGeneral int_for_both both_are_int
both_are_int_solvable = record {
  solves = (refl, (refl, tt));
  free = λ name free.
      elim (a_name == name) as (λ b. (if b then Some (TypeVariable b_name) else if b_name == name then Some IntType else None) ≡ None
      → (if b then IntType else if b_name == name then IntType else TypeVariable name) ≡ TypeVariable name) [
        | true ↦ (λ e. absurd (cc))
        | false ↦ (λ e.
            elim (b_name == name) as (λ b. (if b then Some IntType else None) ≡ None → (if b then IntType else TypeVariable name) ≡ TypeVariable name) [
              | true ↦ (λ d. absurd (cc))
              | false ↦ (λ d. refl)
            ] e)
      ] free;
  general = λ other solves name.
      elim (a_name == name) as (λ b. (a_name == name) ≡ b → replaced other (if b then IntType else if b_name == name then IntType else TypeVariable name) ≡ other name) [
        | true ↦ (λ e. let same : a_name ≡ name = grind (arith, nat_tests) in sym (solves.0 ∙ solves.1.0) ∙ ap other same)
        | false ↦ (λ e.
            elim (b_name == name) as (λ b. (b_name == name) ≡ b → replaced other (if b then IntType else TypeVariable name) ≡ other name) [
              | true ↦ (λ d. let same : b_name ≡ name = grind (arith, nat_tests) in sym solves.1.0 ∙ ap other same)
              | false ↦ (λ d. refl)
            ] refl)
      ] refl;
}

pub swapped_arguments : IsUnifier both_are_int (f_of (TypeVariable a_name) (TypeVariable b_name)) (f_of (TypeVariable b_name) IntType) []
swapped_arguments = record {
  solvable = (int_for_both, both_are_int_solvable);
  solutions = λ values. (
    λ solves. record { solves = tt; same = ap (λ t. f_of t (values b_name)) solves.0 ∙ ap (f_of (values b_name)) solves.1.0 },
    λ unifies.
        let same : f_of (values a_name) (values b_name) ≡ f_of (values b_name) IntType = unifies.same in
        let first : values a_name ≡ values b_name = cc in
        let second : values b_name ≡ IntType = cc in
        (first, (second, tt)),
  );
}
