-- What holds of the types that terms keep.
use Rattle.std.specs.Prelude.{ℕ, ◌==◌, ◌&&◌, false, ◌↔◌, Option, Some, None}
use Rattle.std.proofs.Common.{◌≡◌, ◌-◌, ◌≤◌, List, [], ◌∷◌, ◌++◌, length, map, take, drop, ap, sym, subst, refl, ◌∙◌, arith}
use Rattle.std.proofs.lemmas.List.{map-append, take-map, drop-map, length-map, length-drop}
use Rattle.std.proofs.lemmas.Option.{slice_get-map}
use Rattle.std.specs.List.{slice_get}
use Rattle.std.specs.Option.{option_map}
use Rattle.merc_base.specs.Names.{int_name, string_name}
use Rattle.merc_tree.specs.declared.term.Shape.TheVariants.{Application as ApplicationShape}
use Rattle.merc_tree.specs.declared.types.TypeShape.TheVariants.{Application as TypeApplicationShape}
use Rattle.merc_tree.specs.Shape.{shape_of, arguments_of}
use Rattle.merc_tree.specs.Term.{Term, Terms, Variable, Integer, Text, Application, none, more, list_of, terms_of, applied, no_span, bare, bare_all}
use Rattle.merc_tree.specs.Types.{TypeExpr, TypeExprs, TypeApplication, TypeVariable, IntType, TextType, no_types, more_types, types_of, type_list}
use Rattle.merc_tree.specs.TypeShape.{type_shape_of, type_arguments_of, type_named, types_applied}
use Rattle.merc_tree.specs.TypeTerms.{type_of, all_types, term_for, terms_for, KeepsType, KeepTypes}

pub type_list-all_types : (terms : Terms) → map type_of (list_of terms) ≡ type_list (all_types terms)
type_list-all_types none = refl
type_list-all_types (more first rest) = ap (λ l. type_of first ∷ l) (type_list-all_types rest)

pub all_types-terms_of : (terms : List Term) → all_types (terms_of terms) ≡ types_of (map type_of terms)
all_types-terms_of [] = refl
all_types-terms_of (first ∷ rest) = ap (more_types (type_of first)) (all_types-terms_of rest)

pub kept_arguments : (term : Term) → map type_of (arguments_of term) ≡ type_arguments_of (type_of term)
kept_arguments (Variable name span) = refl
kept_arguments (Integer value span) = refl
kept_arguments (Text text span) = refl
kept_arguments (Application name qualifier arguments span) = type_list-all_types arguments

pub kept_shape : (term : Term) (name : ℕ) (qualifier : Option ℕ) (arity : ℕ) → ApplicationShape name qualifier arity ≡ shape_of term
    → TypeApplicationShape name arity ≡ type_shape_of (type_of term)
kept_shape (Variable other span) name qualifier arity same = cc
kept_shape (Integer value span) name qualifier arity same = cc
kept_shape (Text text span) name qualifier arity same = cc
kept_shape (Application other qualified arguments span) name qualifier arity same =
    let count : length (list_of arguments) ≡ length (type_list (all_types arguments)) =
    sym (length-map (list_of arguments) type_of) ∙ ap length (type_list-all_types arguments) in
    cc

-- a name with so many arguments, where it is not `int` or `string` alone
pub record IsPlain (name arity : ℕ) : Type 0 where
  pub int : ((arity == 0) && (name == int_name)) ≡ false
  pub text : ((arity == 0) && (name == string_name)) ≡ false

pub plain_named : (name : ℕ) (types : List TypeExpr) → IsPlain name (length types) → TypeApplication name (types_of types) ≡ type_named name types
plain_named name [] plain = rw (plain.int, plain.text) refl
plain_named name (first ∷ rest) plain = refl

pub kept_applied : (name arity : ℕ) (terms : List Term) → arity ≤ length terms → IsPlain name arity
    → map type_of (applied name None arity no_span terms) ≡ types_applied name arity (map type_of terms)
kept_applied name arity terms enough plain =
    let before = length terms - arity in
    let count : length (map type_of terms) - arity ≡ before = ap (λ n. n - arity) (length-map terms type_of) in
    let last = drop before terms in
    let size : length (map type_of last) ≡ arity = omega (arith, length-map last type_of, length-drop before terms) in
    let whole : IsPlain name (length (map type_of last)) = subst (IsPlain name) (sym size) plain in
    map-append type_of (take before terms) _
    ∙ ap (λ l. l ++ TypeApplication name (all_types (terms_of last)) ∷ []) (sym (take-map type_of before terms))
    ∙ ap (λ a. take before (map type_of terms) ++ TypeApplication name a ∷ []) (all_types-terms_of last)
    ∙ ap (λ t. take before (map type_of terms) ++ t ∷ []) (plain_named name (map type_of last) whole)
    ∙ ap (λ l. take before (map type_of terms) ++ type_named name l ∷ []) (sym (drop-map type_of before terms))
    ∙ ap (λ n. take n (map type_of terms) ++ type_named name (drop n (map type_of terms)) ∷ []) (sym count)

-- terms that keep types

pub kept_list : (terms : Terms) → map term_for (map type_of (list_of terms)) ≡ list_of (terms_for (all_types terms))
kept_list none = refl
kept_list (more first rest) = ap (λ l. term_for (type_of first) ∷ l) (kept_list rest)

pub kept_terms : (terms : List Term) → terms_for (all_types (terms_of terms)) ≡ terms_of (map term_for (map type_of terms))
kept_terms [] = refl
kept_terms (first ∷ rest) = ap (more (term_for (type_of first))) (kept_terms rest)

pub arguments_kept : (term : Term) → KeepsType term → KeepTypes (arguments_of term)
arguments_kept (Variable name span) kept = refl
arguments_kept (Integer value span) kept = refl
arguments_kept (Text text span) kept = refl
arguments_kept (Application name qualifier arguments span) kept =
    let same : terms_for (all_types arguments) ≡ arguments = cc in
    kept_list arguments ∙ ap list_of same

pub one_kept : (terms : List Term) (index : ℕ) (term : Term) → KeepTypes terms → slice_get terms index ≡ Some term → KeepsType term
one_kept terms index term kept found =
    let at : slice_get (map term_for (map type_of terms)) index ≡ Some (term_for (type_of term)) =
    slice_get-map term_for (map type_of terms) index
    ∙ ap (option_map term_for) (slice_get-map type_of terms index)
    ∙ ap (λ o. option_map term_for (option_map type_of o)) found in
    let same : Some (term_for (type_of term)) ≡ Some term = sym at ∙ ap (λ l. slice_get l index) kept ∙ found in
    cc

pub applied_kept : (name arity : ℕ) (terms : List Term) → KeepTypes terms → KeepTypes (applied name None arity no_span terms)
applied_kept name arity terms kept =
    let before = length terms - arity in
    let last = drop before terms in
    let front_kept : map term_for (map type_of (take before terms)) ≡ take before terms =
    ap (map term_for) (sym (take-map type_of before terms)) ∙ sym (take-map term_for before (map type_of terms)) ∙ ap (take before) kept in
    let last_kept : map term_for (map type_of last) ≡ last =
    ap (map term_for) (sym (drop-map type_of before terms)) ∙ sym (drop-map term_for before (map type_of terms)) ∙ ap (drop before) kept in
    ap (map term_for) (map-append type_of (take before terms) _)
    ∙ map-append term_for (map type_of (take before terms)) _
    ∙ ap (λ l. l ++ Application name None (terms_for (all_types (terms_of last))) no_span ∷ []) front_kept
    ∙ ap (λ a. take before terms ++ Application name None a no_span ∷ []) (kept_terms last ∙ ap terms_of last_kept)

mutual
  bare-term_for : (type : TypeExpr) → bare (term_for type) ≡ term_for type
  bare-term_for (TypeVariable name) = refl
  bare-term_for IntType = refl
  bare-term_for TextType = refl
  bare-term_for (TypeApplication name arguments) = ap (λ a. Application name None a no_span) (bare_all-terms_for arguments)

  bare_all-terms_for : (types : TypeExprs) → bare_all (terms_for types) ≡ terms_for types
  bare_all-terms_for no_types = refl
  bare_all-terms_for (more_types first rest) =
      ap (λ t. more t (bare_all (terms_for rest))) (bare-term_for first) ∙ ap (more (term_for first)) (bare_all-terms_for rest)

pub bare_kept : (term : Term) → KeepsType term → bare term ≡ term_for (type_of term)
bare_kept term kept = ap bare (sym kept) ∙ bare-term_for (type_of term)

pub same_kept : (a b : Term) → KeepsType a → KeepsType b → (bare a ≡ bare b) ↔ (type_of a ≡ type_of b)
same_kept a b one other = (
  λ same. ap type_of (sym one ∙ sym (bare_kept a one) ∙ same ∙ bare_kept b other ∙ other),
  λ same. bare_kept a one ∙ ap term_for same ∙ sym (bare_kept b other),
)
