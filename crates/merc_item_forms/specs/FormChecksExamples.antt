-- Worked examples of how the forms are checked, which the prover computes, and false statements that it refutes.
use Rattle.std.specs.Prelude.{◌≡◌, ℕ, ◌+◌, ◌≤◌, true, false, List, [], ◌∷◌, ◌++◌, Option, Some, None, replicate, refl}
use Rattle.std.proofs.Common.{ap, sym, inr, lit<, arith}
use Rattle.merc_base.specs.declared.place.Place.{Place}
use Rattle.merc_base.specs.Refusal.{rule_number}
use Rattle.merc_base.specs.FirstFault.{AnswersFirst}
use Rattle.merc_base.specs.Names.{pragma_name, colon_minus_name, module_name, end_module_name, colon_colon_name, pred_name, in_name, char_name}
use Rattle.merc_base.specs.declared.refusal.Detail.{Detail}
use Rattle.merc_base.specs.declared.refusal.Detail.TheVariants.{Plain, Word, Limit}
use Rattle.merc_base.specs.declared.refusal.Construct.TheVariants.{Declaration, ModeName}
use Rattle.merc_base.specs.declared.refusal.Fault.TheVariants.{Refused}
use Rattle.merc_base.specs.declared.refusal.LimitName.TheVariants.{Arity}
use Rattle.merc_base.specs.declared.refusal.Refusal.{Refusal}
use Rattle.merc_base.specs.declared.refusal.Rule.{Rule}
use Rattle.merc_base.specs.declared.refusal.Rule.TheVariants.{WrongForm, OutsideProfile, LimitPassed}
use Rattle.merc_tree.specs.Term.{Term, Application, terms_of}
use Rattle.merc_tree.specs.declared.term.Shape.TheVariants.{Application as ApplicationShape}
use Rattle.merc_item_forms.specs.Forms.{second_opening}
use Rattle.merc_item_forms.specs.FormChecks.{fault_of, least_fault, first_refusal}
use Rattle.merc_item_forms.specs.FormFaults.{Rises, HasFormFault, no_item, wrong, outside, wide}
use Rattle.merc_item_forms.specs.FormsExamples.{names, blank, t_name, t, plain, m, f, p, apply, declared, int, moded}
use Rattle.merc_item_forms.specs.Parameters.{own_variables, has_double, has_equal_neighbors}
use Rattle.merc_item_forms.specs.Parts.{is_outside_shape, is_moded_shape, is_wide_shape}

-- parts

pub is_outside_shape-char : is_outside_shape (ApplicationShape char_name None 0) ≡ true
is_outside_shape-char = refl

-- `char` with an argument is a type of the file's own
pub is_outside_shape-argument : is_outside_shape (ApplicationShape char_name None 1) ≡ false
is_outside_shape-argument = refl

pub is_moded_shape-example : is_moded_shape (ApplicationShape colon_colon_name None 2) ≡ true
is_moded_shape-example = refl

pub is_wide_shape-example : is_wide_shape (ApplicationShape f None 65) ≡ true
is_wide_shape-example = refl

pub is_wide_shape-64 : is_wide_shape (ApplicationShape f None 64) ≡ false
is_wide_shape-64 = refl

-- parameters

pub own_variables-example : own_variables names (t ∷ blank ∷ int ∷ t ∷ []) ≡ t_name ∷ t_name ∷ []
own_variables-example = refl

pub has_double-example : has_double (7 ∷ 8 ∷ 7 ∷ []) ≡ true
has_double-example = refl

pub has_equal_neighbors-example : has_equal_neighbors (7 ∷ 7 ∷ 8 ∷ []) ≡ true
has_equal_neighbors-example = refl

pub has_equal_neighbors-apart : has_equal_neighbors (7 ∷ 8 ∷ 7 ∷ []) ≡ false
has_equal_neighbors-apart = refl

-- the fault of one item

pub fault_of-wrong : fault_of names m false false (declared module_name (plain m)) ≡ Some (WrongForm, Plain)
fault_of-wrong = refl

pub fault_of-outside : fault_of names m false false (declared pragma_name (plain f)) ≡ Some (OutsideProfile, Word Declaration)
fault_of-outside = refl

-- a wrong form comes before what the profile leaves out
pub fault_of-both : fault_of names m true false (declared pragma_name (plain f)) ≡ Some (WrongForm, Plain)
fault_of-both = refl

pub fault_of-none : fault_of names m false false (declared pred_name (plain p)) ≡ None
fault_of-none = refl

pub least_fault-wide : least_fault false None true ≡ Some (LimitPassed, Limit Arity)
least_fault-wide = refl

pub least_fault-outside : least_fault false (Some Declaration) true ≡ Some (OutsideProfile, Word Declaration)
least_fault-outside = refl

-- the faults of a module

abbrev from : ℕ → ℕ → List Term → Term
from first name arguments = Application name None (terms_of arguments) (record { first = first; past = first + 9; line = 1 })

-- `:- word argument.` from this byte on
abbrev declared_from : ℕ → ℕ → Term → Term
declared_from first word argument = from first colon_minus_name (apply word (argument ∷ []) ∷ [])

-- `:- module m.` from this byte on
abbrev opening : ℕ → Term
opening first = declared_from first module_name (plain m)

pub Rises-example : Rises (opening 0 ∷ opening 20 ∷ [])
Rises-example = (lit< tt, tt)

pub Rises-not : Rises (opening 20 ∷ opening 20 ∷ []) → ⊥
Rises-not up = omega (arith, up.0)

abbrev at_twenty : Place
at_twenty = record { byte = 20; line = 1 }

pub first_refusal-example : first_refusal names (opening 0 ∷ opening 20 ∷ []) ≡ Some (record { rule = WrongForm; place = at_twenty; detail = Plain })
first_refusal-example = refl

pub first_refusal-none : first_refusal names (opening 0 ∷ []) ≡ None
first_refusal-none = refl

-- the first of several items, whatever the rule

abbrev pragma : ℕ → Term
pragma first = declared_from first pragma_name (plain f)

abbrev at_byte_twenty : Rule → Detail → Option Refusal
at_byte_twenty rule detail = Some (record { rule = rule; place = at_twenty; detail = detail })

pub first_refusal-outside : first_refusal names (opening 0 ∷ pragma 20 ∷ opening 40 ∷ []) ≡ at_byte_twenty OutsideProfile (Word Declaration)
first_refusal-outside = refl

-- of several words the first, as in `:- pred p(int::f, char::in).`
pub first_refusal-words : first_refusal names (opening 0 ∷ declared_from 20 pred_name (apply p (moded int (plain f) ∷ moded (plain char_name) (plain in_name) ∷ [])) ∷ []) ≡ at_byte_twenty OutsideProfile (Word ModeName)
first_refusal-words = refl

-- `p(T, .., T).` with 65 arguments
abbrev wide_fact : Term
wide_fact = from 20 p (replicate 65 t)

pub first_refusal-wide : first_refusal names (opening 0 ∷ wide_fact ∷ pragma 40 ∷ []) ≡ at_byte_twenty LimitPassed (Limit Arity)
first_refusal-wide = refl

-- `:- end_module` has the name of the first item and stands last

pub first_refusal-ended : first_refusal names (opening 0 ∷ declared_from 20 end_module_name (plain m) ∷ []) ≡ None
first_refusal-ended = refl

pub first_refusal-other_end : first_refusal names (opening 0 ∷ declared_from 20 end_module_name (plain f) ∷ []) ≡ at_byte_twenty WrongForm Plain
first_refusal-other_end = refl

pub first_refusal-early_end : first_refusal names (opening 0 ∷ declared_from 20 end_module_name (plain m) ∷ from 40 p [] ∷ []) ≡ at_byte_twenty WrongForm Plain
first_refusal-early_end = refl

pub HasFormFault-outside : HasFormFault names (opening 0 ∷ pragma 20 ∷ []) OutsideProfile (Word Declaration) at_twenty
HasFormFault-outside = outside (opening 0 ∷ []) [] (pragma 20) Declaration [] refl refl

pub HasFormFault-wide : HasFormFault names (opening 0 ∷ wide_fact ∷ []) LimitPassed (Limit Arity) at_twenty
HasFormFault-wide = wide (opening 0 ∷ []) [] wide_fact refl refl

pub HasFormFault-example : HasFormFault names (opening 0 ∷ opening 20 ∷ []) WrongForm Plain at_twenty
HasFormFault-example = wrong (opening 0 ∷ []) [] (opening 20) refl (second_opening true m)

-- a module without items is refused at its front, and nowhere else

nothing : (front back : List Term) (term : Term) → [] ≡ front ++ term ∷ back → ⊥
nothing [] back term whole = cc
nothing (first ∷ front) back term whole = cc

no_item_only : {rule : Rule} {detail : Detail} {place : Place} → HasFormFault names [] rule detail place → (place ≡ record { byte = 0; line = 1 }) × (rule ≡ WrongForm)
no_item_only (no_item empty) = (refl, refl)
no_item_only (wrong front back term whole is) = absurd (nothing front back term whole)
no_item_only (outside front back term word rest whole is) = absurd (nothing front back term whole)
no_item_only (wide front back term whole is) = absurd (nothing front back term whole)

three_of : (rule : Rule) → rule ≡ WrongForm → 3 ≤ rule_number rule
three_of rule same = omega (arith, ap rule_number same)

pub AnswersFirst-example : AnswersFirst (HasFormFault names []) (Refused (record { rule = WrongForm; place = record { byte = 0; line = 1 }; detail = Plain }))
AnswersFirst-example =
    record { fault = no_item refl; first = λ rule detail place fault. let found = no_item_only fault in inr (ap (λ (p : Place). p.byte) (sym found.0), three_of rule found.1) }

pub AnswersFirst-not : AnswersFirst (HasFormFault names []) (Refused (record { rule = WrongForm; place = at_twenty; detail = Plain })) → ⊥
AnswersFirst-not refused = omega (arith, ap (λ place. place.byte) (no_item_only refused.fault).0)
