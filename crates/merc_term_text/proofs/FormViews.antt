-- What the form of a term tells of its name and its arguments.
use Rattle.std.proofs.Common.{◌≡◌, ℕ, ◌==◌, ◌&&◌, not, Bool, true, false, Option, Some, None, length, cond, refl, ap, sym, subst, eqb-true}
use Rattle.merc_base.specs.Names.{cons_name}
use Rattle.merc_tree.specs.Shape.{arguments_of}
use Rattle.merc_tree.specs.Term.{Term, Terms, Variable, Integer, Text, Application, none, more, list_of}
use Rattle.merc_terms.specs.declared.operators.Operator.{Operator}
use Rattle.merc_terms.specs.Operators.{infix_named, prefix_named, takes_two}
use Rattle.merc_term_text.specs.Written.{Form, ListForm, InfixForm, PrefixForm, QuantifierForm, PlainForm, prefix_form, infix_form, form_of, term_form}

-- A name without a qualifier has this form with these arguments.
pub data IsForm (name : ℕ) (arguments : Terms) (form : Form) : Type 0 where
  is_list : (head tail : Term) → arguments ≡ more head (more tail none) → form ≡ ListForm → name ≡ 2 → IsForm name arguments form
  is_infix : (left right : Term) (operator : Operator) → arguments ≡ more left (more right none) → form ≡ InfixForm operator → infix_named name ≡ Some operator → IsForm name arguments form
  is_prefix : (operand : Term) (operator : Operator) → arguments ≡ more operand none → form ≡ PrefixForm operator → prefix_named name ≡ Some operator → takes_two operator.fixity ≡ false → IsForm name arguments form
  is_quantifier : (variables goal : Term) (operator : Operator) → arguments ≡ more variables (more goal none) → form ≡ QuantifierForm operator → prefix_named name ≡ Some operator → takes_two operator.fixity ≡ true → IsForm name arguments form
  is_plain : form ≡ PlainForm → IsForm name arguments form

module _ (name : ℕ) where
  one_row : (only : Term) (operator : Operator) → prefix_named name ≡ Some operator → (two : Bool) → takes_two operator.fixity ≡ two
      → IsForm name (more only none) (cond (two && false) (QuantifierForm operator) (cond (not two && true) (PrefixForm operator) PlainForm))
  one_row only operator e true f = is_plain refl
  one_row only operator e false f = is_prefix only operator refl refl e f

  of_one : (only : Term) (found : Option Operator) → prefix_named name ≡ found → IsForm name (more only none) (prefix_form true false found)
  of_one only None e = is_plain refl
  of_one only (Some operator) e = one_row only operator e (takes_two operator.fixity) refl

  two_row : (first second : Term) (operator : Operator) → prefix_named name ≡ Some operator → (two : Bool) → takes_two operator.fixity ≡ two
      → IsForm name (more first (more second none)) (cond (two && true) (QuantifierForm operator) (cond (not two && false) (PrefixForm operator) PlainForm))
  two_row first second operator e true f = is_quantifier first second operator refl refl e f
  two_row first second operator e false f = is_plain refl

  of_two : (first second : Term) (found : Option Operator) → prefix_named name ≡ found → IsForm name (more first (more second none)) (prefix_form false true found)
  of_two first second None e = is_plain refl
  of_two first second (Some operator) e = two_row first second operator e (takes_two operator.fixity) refl

  of_none : (arguments : Terms) (found : Option Operator) → IsForm name arguments (prefix_form false false found)
  of_none arguments None = is_plain refl
  of_none arguments (Some operator) = elim (takes_two operator.fixity) as (λ two. IsForm name arguments (cond (two && false) (QuantifierForm operator) (cond (not two && false) (PrefixForm operator) PlainForm))) [ true ↦ is_plain refl | false ↦ is_plain refl ]

  of_infix : (first second : Term) (found : Option Operator) → infix_named name ≡ found → IsForm name (more first (more second none)) (infix_form found (prefix_form false true (prefix_named name)))
  of_infix first second None e = of_two first second (prefix_named name) refl
  of_infix first second (Some operator) e = is_infix first second operator refl refl e

  unlisted : (arguments : Terms) (other : Form) (test : Bool) → IsForm name arguments other → IsForm name arguments (cond (test && false) ListForm other)
  unlisted arguments other true h = h
  unlisted arguments other false h = h

  listed : (first second : Term) (test : Bool) → (name == cons_name) ≡ test → IsForm name (more first (more second none)) (cond (test && true) ListForm (infix_form (infix_named name) (prefix_form false true (prefix_named name))))
  listed first second true e = is_list first second refl refl (eqb-true name 2 e)
  listed first second false e = of_infix first second (infix_named name) refl

  pub seen : (arguments : Terms) → IsForm name arguments (form_of name None arguments)
  seen none = unlisted none (prefix_form false false (prefix_named name)) (name == cons_name) (of_none none (prefix_named name))
  seen (more only none) = unlisted (more only none) (prefix_form true false (prefix_named name)) (name == cons_name) (of_one only (prefix_named name) refl)
  seen (more first (more second none)) = listed first second (name == cons_name) refl
  seen (more first (more second (more third rest))) = unlisted (more first (more second (more third rest))) (prefix_form false false (prefix_named name)) (name == cons_name) (of_none (more first (more second (more third rest))) (prefix_named name))

-- how many arguments a form has

abbrev pub HasTwo : Form → Type 0
HasTwo ListForm = Unit {0}
HasTwo (InfixForm operator) = Unit {0}
HasTwo (PrefixForm operator) = ⊥
HasTwo (QuantifierForm operator) = Unit {0}
HasTwo PlainForm = ⊥

two_by : (name : ℕ) (arguments : Terms) (form : Form) → IsForm name arguments form → HasTwo form → length (list_of arguments) ≡ 2
two_by name arguments form (is_list head tail a f e) two = ap (λ many. length (list_of many)) a
two_by name arguments form (is_infix left right operator a f e) two = ap (λ many. length (list_of many)) a
two_by name arguments form (is_prefix operand operator a f e t) two = absurd (subst HasTwo f two)
two_by name arguments form (is_quantifier variables goal operator a f e t) two = ap (λ many. length (list_of many)) a
two_by name arguments form (is_plain f) two = absurd (subst HasTwo f two)

one_by : (name : ℕ) (arguments : Terms) (form : Form) (operator : Operator) → IsForm name arguments form → form ≡ PrefixForm operator → length (list_of arguments) ≡ 1
one_by name arguments form operator (is_list head tail a f e) same = absurd (cc)
one_by name arguments form operator (is_infix left right operator' a f e) same = absurd (cc)
one_by name arguments form operator (is_prefix operand operator' a f e t) same = ap (λ many. length (list_of many)) a
one_by name arguments form operator (is_quantifier variables goal operator' a f e t) same = absurd (cc)
one_by name arguments form operator (is_plain f) same = absurd (cc)

pub two_arguments : (term : Term) (form : Form) → form ≡ term_form term → HasTwo form → length (arguments_of term) ≡ 2
two_arguments (Variable name span) form same two = absurd (subst HasTwo same two)
two_arguments (Integer value span) form same two = absurd (subst HasTwo same two)
two_arguments (Text name span) form same two = absurd (subst HasTwo same two)
two_arguments (Application name None arguments span) form same two = two_by name arguments (form_of name None arguments) (seen name arguments) (subst HasTwo same two)
two_arguments (Application name (Some qualifier) arguments span) form same two = absurd (subst HasTwo same two)

pub one_argument : (term : Term) (operator : Operator) → PrefixForm operator ≡ term_form term → length (arguments_of term) ≡ 1
one_argument (Variable name span) operator same = absurd (cc)
one_argument (Integer value span) operator same = absurd (cc)
one_argument (Text name span) operator same = absurd (cc)
one_argument (Application name None arguments span) operator same = one_by name arguments (form_of name None arguments) operator (seen name arguments) (sym same)
one_argument (Application name (Some qualifier) arguments span) operator same = absurd (cc)
