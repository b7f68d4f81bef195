-- The form of a term, by its name and the number of its arguments.
use Rattle.std.proofs.Common.{◌≡◌, ℕ, suc, ◌==◌, ◌&&◌, not, Bool, true, false, Option, Some, None, is_some, length, cond, refl, ap, sym, ◌∙◌, ne_eqb, arith}
use Rattle.merc_base.specs.Names.{cons_name}
use Rattle.merc_tree.specs.declared.term.Shape.TheVariants.{Application as ApplicationShape}
use Rattle.merc_tree.specs.Shape.{shape_of}
use Rattle.merc_tree.specs.Term.{Term, Terms, Variable, Integer, Text, Application, none, more, list_of}
use Rattle.merc_terms.specs.declared.operators.Operator.{Operator}
use Rattle.merc_terms.specs.Operators.{infix_named, prefix_named, takes_two}
use Rattle.merc_term_text.specs.Written.{Form, ListForm, PlainForm, QuantifierForm, PrefixForm, prefix_form, infix_form, form_of, term_form}
use Rattle.merc_term_text.specs.Walking.{arity_form, rest_form_of}

both_false : (test : Bool) (then else' : Form) → cond (test && false) then else' ≡ else'
both_false true then else' = refl
both_false false then else' = refl

both_true : (test : Bool) (then else' : Form) → cond (test && true) then else' ≡ cond test then else'
both_true true then else' = refl
both_true false then else' = refl

no_arguments : (found : Option Operator) → rest_form_of found 0 ≡ prefix_form false false found
no_arguments None = refl
no_arguments (Some operator) = elim (takes_two operator.fixity) as (λ b. cond b PlainForm PlainForm ≡ cond (b && false) (QuantifierForm operator) (cond (not b && false) (PrefixForm operator) PlainForm)) [ true ↦ refl | false ↦ refl ]

one_argument : (found : Option Operator) → rest_form_of found 1 ≡ prefix_form true false found
one_argument None = refl
one_argument (Some operator) = elim (takes_two operator.fixity) as (λ b. cond b PlainForm (PrefixForm operator) ≡ cond (b && false) (QuantifierForm operator) (cond (not b && true) (PrefixForm operator) PlainForm)) [ true ↦ refl | false ↦ refl ]

two_arguments : (found : Option Operator) → rest_form_of found 2 ≡ prefix_form false true found
two_arguments None = refl
two_arguments (Some operator) = elim (takes_two operator.fixity) as (λ b. cond b (QuantifierForm operator) PlainForm ≡ cond (b && true) (QuantifierForm operator) (cond (not b && false) (PrefixForm operator) PlainForm)) [ true ↦ refl | false ↦ refl ]

not_one : (count : ℕ) → (suc (suc (suc count)) == 1) ≡ false
not_one count = ne_eqb (suc (suc (suc count))) 1 (λ same. absurd (omega arith))

not_two : (count : ℕ) → (suc (suc (suc count)) == 2) ≡ false
not_two count = ne_eqb (suc (suc (suc count))) 2 (λ same. absurd (omega arith))

more_arguments : (found : Option Operator) (count : ℕ) → (count == 1) ≡ false → (count == 2) ≡ false → rest_form_of found count ≡ prefix_form false false found
more_arguments None count e f = refl
more_arguments (Some operator) count e f =
    ap (λ (b : Bool). cond (takes_two operator.fixity) (cond (count == 2) (QuantifierForm operator) PlainForm) (cond b (PrefixForm operator) PlainForm)) e
    ∙ ap (λ (b : Bool). cond (takes_two operator.fixity) (cond b (QuantifierForm operator) PlainForm) PlainForm) f
    ∙ elim (takes_two operator.fixity) as (λ b. cond b PlainForm PlainForm ≡ cond (b && false) (QuantifierForm operator) (cond (not b && false) (PrefixForm operator) PlainForm)) [ true ↦ refl | false ↦ refl ]

by_arguments : (name : ℕ) (arguments : Terms) → arity_form name (length (list_of arguments)) ≡ form_of name None arguments
by_arguments name none = no_arguments (prefix_named name) ∙ sym (both_false (name == cons_name) ListForm (prefix_form false false (prefix_named name)))
by_arguments name (more only none) = one_argument (prefix_named name) ∙ sym (both_false (name == cons_name) ListForm (prefix_form true false (prefix_named name)))
by_arguments name (more first (more second none)) =
    ap (λ f. cond (name == cons_name) ListForm (infix_form (infix_named name) f)) (two_arguments (prefix_named name)) ∙ sym (both_true (name == cons_name) ListForm (infix_form (infix_named name) (prefix_form false true (prefix_named name))))
by_arguments name (more first (more second (more third rest))) =
    ap (λ (b : Bool). cond (not b) (rest_form_of (prefix_named name) (suc (suc (suc (length (list_of rest)))))) (cond (name == cons_name) ListForm (infix_form (infix_named name) (rest_form_of (prefix_named name) (suc (suc (suc (length (list_of rest))))))))) (not_two (length (list_of rest)))
    ∙ more_arguments (prefix_named name) (suc (suc (suc (length (list_of rest))))) (not_one (length (list_of rest))) (not_two (length (list_of rest)))
    ∙ sym (both_false (name == cons_name) ListForm (prefix_form false false (prefix_named name)))

pub form_known : (term : Term) (name : ℕ) (qualifier : Option ℕ) (arity : ℕ) → ApplicationShape name qualifier arity ≡ shape_of term → is_some qualifier ≡ false → arity_form name arity ≡ term_form term
form_known (Variable name' span) name qualifier arity same other = absurd (cc)
form_known (Integer value span) name qualifier arity same other = absurd (cc)
form_known (Text name' span) name qualifier arity same other = absurd (cc)
form_known (Application name' (Some qualifier') arguments span) name qualifier arity same other = let e : qualifier ≡ Some qualifier' = cc in let f : true ≡ false = sym (ap is_some e) ∙ other in absurd (cc)
form_known (Application name' None arguments span) name qualifier arity same other =
    let e : name ≡ name' = cc in let f : arity ≡ length (list_of arguments) = cc in
    rw (e, f) (by_arguments name' arguments)
