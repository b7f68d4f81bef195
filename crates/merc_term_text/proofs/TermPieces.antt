-- The pieces of a term by those of its arguments in a list.
use Rattle.std.proofs.Common.{◌≡◌, ℕ, suc, ◌+◌, Bool, Option, Some, None, length, map, List, [], ◌∷◌, ◌++◌, ◌==◌, ◌&&◌, ◌||◌, nat_lt, true, false, cond, refl, ap, sym, ◌∙◌, arith, ne_eqb}
use Rattle.std.proofs.Math.Bool.{and-false}
use Rattle.merc_base.specs.Names.{nil_name}
use Rattle.merc_terms.specs.Operators.{argument_most, argument_most}
use Rattle.merc_terms.proofs.Table.{quantifier_priority}
use Rattle.merc_tree.specs.Shape.{arguments_of, shape_of}
use Rattle.merc_tree.specs.declared.term.Shape.TheVariants.{Application as ApplicationShape}
use Rattle.merc_term_text.proofs.FormViews.{IsForm, is_list, is_infix, is_prefix, is_quantifier, is_plain, seen}
use Rattle.merc_tree.specs.Term.{Term, Terms, Variable, Integer, Text, Application, none, more, list_of}
use Rattle.merc_terms.specs.declared.operators.Operator.{Operator}
use Rattle.merc_term_text.specs.Written.{Form, ListForm, InfixForm, PrefixForm, QuantifierForm, PlainForm, form_of, term_form, part_of, parts_of, formed, infix_pieces, prefix_pieces, quantifier_pieces, plain_pieces, item_pieces, tail_pieces, bar_pieces, enclosed_if, is_enclosed, part_pieces, qualified_pieces, other_pieces, is_nil}
use Rattle.merc_term_text.specs.Pieces.{Blank, Token, name_piece}
use Rattle.merc_tokens.specs.declared.token.TokenKind.TheVariants.{OpenArgs, OpenList, CloseList, Comma}
use Rattle.merc_term_text.specs.Walking.{size, sizes, sizes_of, head_pieces, arguments_pieces, is_nil_term, is_nil_shape}

pub parts_is : (names : List (List ℕ)) (arguments : Terms) → parts_of names arguments ≡ map (part_of names) (list_of arguments)
parts_is names none = refl
parts_is names (more first rest) = ap (λ parts. part_of names first ∷ parts) (parts_is names rest)

sizes_is : (arguments : Terms) → sizes arguments ≡ sizes_of (list_of arguments)
sizes_is none = refl
sizes_is (more first rest) = ap (λ n. 1 + size first + n) (sizes_is rest)

pub size_is : (term : Term) → size term ≡ 1 + sizes_of (arguments_of term)
size_is (Variable name span) = refl
size_is (Integer value span) = refl
size_is (Text name span) = refl
size_is (Application name qualifier arguments span) = ap (λ n. 1 + n) (sizes_is arguments)

-- what is written in each form

module _ (names : List (List ℕ)) (commas : Bool) where
  pub infix_written : (term : Term) (operator : Operator) → InfixForm operator ≡ term_form term → (part_of names term).pieces commas ≡ infix_pieces commas operator (map (part_of names) (arguments_of term))
  infix_written (Variable name span) operator same = absurd (cc)
  infix_written (Integer value span) operator same = absurd (cc)
  infix_written (Text name span) operator same = absurd (cc)
  infix_written (Application name qualifier arguments span) operator same =
      ap (λ form. formed names commas form name qualifier (parts_of names arguments)) (sym same) ∙ ap (infix_pieces commas operator) (parts_is names arguments)

  pub prefix_written : (term : Term) (operator : Operator) → PrefixForm operator ≡ term_form term → (part_of names term).pieces commas ≡ prefix_pieces commas operator (map (part_of names) (arguments_of term))
  prefix_written (Variable name span) operator same = absurd (cc)
  prefix_written (Integer value span) operator same = absurd (cc)
  prefix_written (Text name span) operator same = absurd (cc)
  prefix_written (Application name qualifier arguments span) operator same =
      ap (λ form. formed names commas form name qualifier (parts_of names arguments)) (sym same) ∙ ap (prefix_pieces commas operator) (parts_is names arguments)

  pub quantifier_written : (term : Term) (operator : Operator) → QuantifierForm operator ≡ term_form term → (part_of names term).pieces commas ≡ quantifier_pieces commas operator (map (part_of names) (arguments_of term))
  quantifier_written (Variable name span) operator same = absurd (cc)
  quantifier_written (Integer value span) operator same = absurd (cc)
  quantifier_written (Text name span) operator same = absurd (cc)
  quantifier_written (Application name qualifier arguments span) operator same =
      ap (λ form. formed names commas form name qualifier (parts_of names arguments)) (sym same) ∙ ap (quantifier_pieces commas operator) (parts_is names arguments)

  pub list_written : (term : Term) → ListForm ≡ term_form term → (part_of names term).pieces commas ≡ Token OpenList ∷ (item_pieces (map (part_of names) (arguments_of term)) ++ Token CloseList ∷ [])
  list_written (Variable name span) same = absurd (cc)
  list_written (Integer value span) same = absurd (cc)
  list_written (Text name span) same = absurd (cc)
  list_written (Application name qualifier arguments span) same =
      ap (λ form. formed names commas form name qualifier (parts_of names arguments)) (sym same) ∙ ap (λ parts. Token OpenList ∷ (item_pieces parts ++ Token CloseList ∷ [])) (parts_is names arguments)

pub list_tail : (names : List (List ℕ)) (term : Term) → ListForm ≡ term_form term → (part_of names term).tail ≡ Token Comma ∷ Blank ∷ item_pieces (map (part_of names) (arguments_of term))
list_tail names (Variable name span) same = absurd (cc)
list_tail names (Integer value span) same = absurd (cc)
list_tail names (Text name span) same = absurd (cc)
list_tail names (Application name qualifier arguments span) same =
    ap (λ form. tail_pieces names form name qualifier (parts_of names arguments)) (sym same) ∙ ap (λ parts. Token Comma ∷ Blank ∷ item_pieces parts) (parts_is names arguments)

not_none : (count : ℕ) → (suc count == 0) ≡ false
not_none count = ne_eqb (suc count) 0 (λ same. absurd (omega arith))

head_written : (names : List (List ℕ)) (name : ℕ) (qualifier : Option ℕ) (arguments : Terms)
    → head_pieces names name qualifier (length (list_of arguments)) ++ arguments_pieces (map (part_of names) (list_of arguments)) ≡ plain_pieces names name qualifier (parts_of names arguments)
head_written names name None none = elim (name == nil_name) as (λ b. cond (b && true) (Token OpenList ∷ Token CloseList ∷ []) (name_piece names name ∷ []) ++ [] ≡ cond b (Token OpenList ∷ Token CloseList ∷ []) (name_piece names name ∷ [])) [ true ↦ refl | false ↦ refl ]
head_written names name (Some qualifier) none = refl
head_written names name None (more first rest) =
    ap (λ (b : Bool). cond (name == nil_name && b) (Token OpenList ∷ Token CloseList ∷ []) (name_piece names name ∷ []) ++ arguments_pieces (map (part_of names) (list_of (more first rest)))) (not_none (length (list_of rest)))
    ∙ ap (λ (b : Bool). cond b (Token OpenList ∷ Token CloseList ∷ []) (name_piece names name ∷ []) ++ arguments_pieces (map (part_of names) (list_of (more first rest)))) (and-false (name == nil_name)) ∙ ap (λ parts. name_piece names name ∷ Token OpenArgs ∷ (part_pieces argument_most false (part_of names first) ++ other_pieces parts)) (sym (parts_is names rest))
head_written names name (Some qualifier) (more first rest) =
    ap (λ parts. qualified_pieces names name (Some qualifier) ++ (Token OpenArgs ∷ (part_pieces argument_most false (part_of names first) ++ other_pieces parts))) (sym (parts_is names rest))

nil_parts : (names : List (List ℕ)) (name : ℕ) (arguments : Terms) → is_nil_shape name None (length (list_of arguments)) ≡ is_nil name None (parts_of names arguments)
nil_parts names name none = elim (name == nil_name) as (λ b. b && true ≡ b) [ true ↦ refl | false ↦ refl ]
nil_parts names name (more first rest) = ap (λ b. name == nil_name && b) (not_none (length (list_of rest))) ∙ and-false (name == nil_name)

tail_by : (names : List (List ℕ)) (name : ℕ) (arguments : Terms) (form : Form) → IsForm name arguments form → (form ≡ ListForm → ⊥) → is_nil name None (parts_of names arguments) ≡ false
    → bar_pieces (enclosed_if (is_enclosed argument_most false form) (formed names (is_enclosed argument_most false form) form name None (parts_of names arguments))) ≡ tail_pieces names form name None (parts_of names arguments)
tail_by names name arguments form (is_list head tail a f e) unlisted other = absurd (unlisted f)
tail_by names name arguments form (is_infix left right operator a f e) unlisted other = rw f refl
tail_by names name arguments form (is_prefix operand operator a f e t) unlisted other = rw f refl
tail_by names name arguments form (is_quantifier variables goal operator a f e t) unlisted other =
    let p = quantifier_priority name operator e t in
    rw f (ap (λ (n : ℕ). bar_pieces (enclosed_if (nat_lt 1199 n || false) (quantifier_pieces (nat_lt 1199 n || false) operator (parts_of names arguments)))) p)
tail_by names name arguments form (is_plain f) unlisted other =
    rw f (ap (λ (b : Bool). cond b [] (bar_pieces (plain_pieces names name None (parts_of names arguments)))) (sym other))

-- a name with its arguments

pub plain_written : (names : List (List ℕ)) (commas : Bool) (term : Term) (name : ℕ) (qualifier : Option ℕ) (arity : ℕ) → PlainForm ≡ term_form term → ApplicationShape name qualifier arity ≡ shape_of term
    → head_pieces names name qualifier arity ++ arguments_pieces (map (part_of names) (arguments_of term)) ≡ (part_of names term).pieces commas
plain_written names commas (Variable name' span) name qualifier arity same shape = absurd (cc)
plain_written names commas (Integer value span) name qualifier arity same shape = absurd (cc)
plain_written names commas (Text name' span) name qualifier arity same shape = absurd (cc)
plain_written names commas (Application name' qualifier' arguments span) name qualifier arity same shape =
    let e : name ≡ name' = cc in let f : qualifier ≡ qualifier' = cc in let g : arity ≡ length (list_of arguments) = cc in
    rw (e, f, g) (head_written names name' qualifier' arguments) ∙ ap (λ form. formed names commas form name' qualifier' (parts_of names arguments)) same

-- a tail that is no list

pub other_tail : (names : List (List ℕ)) (term : Term) → (term_form term ≡ ListForm → ⊥) → is_nil_term term ≡ false → bar_pieces (part_pieces argument_most false (part_of names term)) ≡ (part_of names term).tail
other_tail names (Variable name span) unlisted other = refl
other_tail names (Integer value span) unlisted other = refl
other_tail names (Text name span) unlisted other = refl
other_tail names (Application name (Some qualifier) arguments span) unlisted other = refl
other_tail names (Application name None arguments span) unlisted other =
    tail_by names name arguments (form_of name None arguments) (seen name arguments) unlisted (sym (nil_parts names name arguments) ∙ other)

-- a form that is no list

pub plain_not_list : PlainForm ≡ ListForm → ⊥
plain_not_list h = cc

pub infix_not_list : (operator : Operator) → InfixForm operator ≡ ListForm → ⊥
infix_not_list operator h = cc

pub prefix_not_list : (operator : Operator) → PrefixForm operator ≡ ListForm → ⊥
prefix_not_list operator h = cc

pub quantifier_not_list : (operator : Operator) → QuantifierForm operator ≡ ListForm → ⊥
quantifier_not_list operator h = cc

pub no_nil : (name : ℕ) (first : Term) (others : Terms) → is_nil_term (Application name None (more first others) record { first = 0; past = 0; line = 0 }) ≡ false
no_nil name first others = ap (λ b. name == nil_name && b) (ne_eqb (suc (length (list_of others))) 0 (λ same. absurd (omega arith))) ∙ and-false (name == nil_name)
