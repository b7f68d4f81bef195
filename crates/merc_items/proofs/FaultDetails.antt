-- A fault of one phase, rule and place has one detail, where the terms rise.
use Rattle.std.proofs.Common.{◌≡◌, ℕ, Bool, true, false, List, ◌∷◌, refl, sym, ap, ◌∙◌}
use Rattle.merc_base.specs.declared.place.Place.{Place}
use Rattle.merc_base.specs.declared.refusal.Rule.{Rule}
use Rattle.merc_base.specs.declared.refusal.Rule.TheVariants.{WrongForm, UnknownType, DeclaredTwice, Undeclared, MissingMode, OutsideProfile, LimitPassed}
use Rattle.merc_base.specs.declared.refusal.Construct.{Construct}
use Rattle.merc_base.specs.declared.refusal.Detail.{Detail}
use Rattle.merc_base.specs.declared.refusal.Detail.TheVariants.{Plain, Word, Limit}
use Rattle.merc_base.specs.declared.refusal.LimitName.TheVariants.{Arity, Modes}
use Rattle.merc_tree.specs.Term.{Term}
use Rattle.merc_item_forms.specs.Items.{item_of}
use Rattle.merc_item_forms.specs.Forms.{words}
use Rattle.merc_item_forms.specs.FormFaults.{Rises, HasFormFault, no_item, wrong, outside, wide}
use Rattle.merc_entries.specs.Entries.{Entry}
use Rattle.merc_declared.specs.ModeFaults.{HasModeFault, missing, many}
use Rattle.merc_items.specs.Phases.{forms_phase, doubles_phase, types_phase, modes_phase, clauses_phase, HasFault, form, double, unknown_type, mode, alone}
use Rattle.merc_items.proofs.FaultPlaces.{IsPlace, among-whole, term-of_places}

abbrev is_plain : Rule → Bool
is_plain OutsideProfile = false
is_plain LimitPassed = false
is_plain other = true

-- what a phase can say of a rule at a place
data Says (terms : List Term) (place : Place) : ℕ → Rule → Detail → Type 0 where
  plainly : (phase : ℕ) (rule : Rule) → is_plain rule ≡ true → Says terms place phase rule Plain
  word_there : (is : IsPlace terms place) (word : Construct) (rest : List Construct) → words (item_of is.term) ≡ word ∷ rest → Says terms place forms_phase OutsideProfile (Word word)
  arity : Says terms place forms_phase LimitPassed (Limit Arity)
  modes : Says terms place modes_phase LimitPassed (Limit Modes)

form-says : (names : List (List ℕ)) (terms : List Term) (rule : Rule) (detail : Detail) (place : Place) → HasFormFault names terms rule detail place → Says terms place forms_phase rule detail
form-says names terms _ _ _ (no_item empty) = plainly forms_phase WrongForm refl
form-says names terms _ _ _ (wrong front back term whole is) = plainly forms_phase WrongForm refl
form-says names terms _ _ _ (outside front back term word rest whole is) =
    word_there (record { term = term; among = among-whole front term back terms whole; there = refl }) word rest is
form-says names terms _ _ _ (wide front back term whole is) = arity

mode-says : (terms : List Term) (entries : List Entry) (rule : Rule) (detail : Detail) (place : Place) → HasModeFault entries rule detail place → Says terms place modes_phase rule detail
mode-says terms entries _ _ _ (missing place stands) = plainly modes_phase MissingMode refl
mode-says terms entries _ _ _ (many place stands) = modes

fault-says : (names : List (List ℕ)) (terms : List Term) (entries : List Entry) (phase : ℕ) (rule : Rule) (detail : Detail) (place : Place) → HasFault names terms entries phase rule detail place → Says terms place phase rule detail
fault-says names terms entries _ _ _ _ (form rule detail place fault) = form-says names terms rule detail place fault
fault-says names terms entries _ _ _ _ (double place fault) = plainly doubles_phase DeclaredTwice refl
fault-says names terms entries _ _ _ _ (unknown_type place fault) = plainly types_phase UnknownType refl
fault-says names terms entries _ _ _ _ (mode rule detail place fault) = mode-says terms entries rule detail place fault
fault-says names terms entries _ _ _ _ (alone place fault) = plainly clauses_phase Undeclared refl

says-one : (terms : List Term) (place : Place) (phase : ℕ) (rule : Rule) (detail detail' : Detail) → Rises terms → Says terms place phase rule detail → Says terms place phase rule detail' → detail ≡ detail'
says-one terms place _ _ _ _ rises (plainly phase rule is) (plainly _ _ is') = refl
says-one terms place _ _ _ _ rises (plainly _ _ is) (word_there there word rest first) = absurd (cc)
says-one terms place _ _ _ _ rises (plainly _ _ is) arity = absurd (cc)
says-one terms place _ _ _ _ rises (plainly _ _ is) modes = absurd (cc)
says-one terms place _ _ _ _ rises (word_there there word rest first) (plainly _ _ is) = absurd (cc)
says-one terms place _ _ _ _ rises (word_there there word rest first) (word_there there' word' rest' first') =
    let same = ap (λ (t : Term). words (item_of t)) (term-of_places terms place place there there' rises refl) in
    let e : word ∷ rest ≡ word' ∷ rest' = sym first ∙ same ∙ first' in
    cc
says-one terms place _ _ _ _ rises arity (plainly _ _ is) = absurd (cc)
says-one terms place _ _ _ _ rises arity arity = refl
says-one terms place _ _ _ _ rises modes (plainly _ _ is) = absurd (cc)
says-one terms place _ _ _ _ rises modes modes = refl

pub same_detail : (names : List (List ℕ)) (terms : List Term) (entries : List Entry) (phase : ℕ) (rule : Rule) (detail detail' : Detail) (place : Place)
    → Rises terms → HasFault names terms entries phase rule detail place → HasFault names terms entries phase rule detail' place → detail ≡ detail'
same_detail names terms entries phase rule detail detail' place rises fault fault' =
    says-one terms place phase rule detail detail' rises (fault-says names terms entries phase rule detail place fault) (fault-says names terms entries phase rule detail' place fault')
