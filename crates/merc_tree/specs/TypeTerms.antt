-- How types are kept as terms: `int` as an integer, `string` as a text, and no span anywhere.
use Rattle.std.specs.Prelude.{◌≡◌, List, map, None, pos, refl}
use Rattle.std.specs.Coded.{Coded, code_by, coded_list}
use Rattle.std.proofs.Common.{ap, ◌∙◌}
use Rattle.merc_base.specs.Names.{string_name}
use Rattle.merc_tree.specs.Term.{Term, Terms, Variable, Integer, Text, Application, none, more, no_span}
use Rattle.merc_tree.specs.TermCode.{term_code}
use Rattle.merc_tree.specs.Types.{TypeExpr, TypeExprs, TypeVariable, IntType, TextType, TypeApplication, no_types, more_types}

-- the type that a term keeps
abbrev mutual
  pub type_of : Term → TypeExpr
  type_of (Variable name span) = TypeVariable name
  type_of (Integer value span) = IntType
  type_of (Text name span) = TextType
  type_of (Application name qualifier arguments span) = TypeApplication name (all_types arguments)

  pub all_types : Terms → TypeExprs
  all_types none = no_types
  all_types (more first rest) = more_types (type_of first) (all_types rest)

-- the term that keeps a type
abbrev mutual
  pub term_for : TypeExpr → Term
  term_for (TypeVariable name) = Variable name no_span
  term_for IntType = Integer (pos 0) no_span
  term_for TextType = Text string_name no_span
  term_for (TypeApplication name arguments) = Application name None (terms_for arguments) no_span

  pub terms_for : TypeExprs → Terms
  terms_for no_types = none
  terms_for (more_types first rest) = more (term_for first) (terms_for rest)

mutual
  pub type_of-term_for : (type : TypeExpr) → type_of (term_for type) ≡ type
  type_of-term_for (TypeVariable name) = refl
  type_of-term_for IntType = refl
  type_of-term_for TextType = refl
  type_of-term_for (TypeApplication name arguments) = ap (TypeApplication name) (all_types-terms_for arguments)

  pub all_types-terms_for : (types : TypeExprs) → all_types (terms_for types) ≡ types
  all_types-terms_for no_types = refl
  all_types-terms_for (more_types first rest) =
      ap (λ t. more_types t (all_types (terms_for rest))) (type_of-term_for first) ∙ ap (more_types first) (all_types-terms_for rest)

-- Terms that keep types are those that `term_for` makes.
abbrev pub KeepsType : Term → Type 0
KeepsType term = term_for (type_of term) ≡ term

abbrev pub KeepTypes : List Term → Type 0
KeepTypes terms = map term_for (map type_of terms) ≡ terms

-- a type is stored as the term that keeps it
abbrev pub type_code : Coded TypeExpr
type_code = code_by Term term_code term_for type_of type_of-term_for

abbrev pub types_code : Coded (List TypeExpr)
types_code = coded_list type_code
