-- What is kept of the variables that `X = Y, a(X)` and its conjuncts bring with them, and what the code computes on the way.
use Rattle.std.specs.Prelude.{◌≡◌, ℕ, Bool, true, false, ◌==◌, List, [], ◌∷◌, map, pos, Option, Some, None, refl, if◌then◌else◌}
use Rattle.std.proofs.Common.{ap, arith}
use Rattle.merc_tree.specs.Term.{Integer}
use Rattle.merc_goals.specs.Entries.{entries_of}
use Rattle.merc_goals.specs.Written.{Truth, Quantified}
use Rattle.merc_goals.specs.declared.goal.Form.TheVariants.{Truth as TruthForm, Conjunction as ConjunctionForm, Conditional as ConditionalForm, Negated as NegatedForm, Quantified as QuantifiedForm}
use Rattle.merc_scopes.specs.declared.occurrence.Occurrence.{Occurrence}
use Rattle.merc_scopes.specs.Scopes.{occurrence, has_name, without, first_of, occurrences, introduced}
use Rattle.merc_scopes.specs.Bindings.{Gives, AreBindings}
use Rattle.merc_scopes.specs.Standing.{needs, together}
use Rattle.merc_scopes.specs.Walking.{stacked}
use Rattle.merc_scopes.specs.ScopesExamples.{x_name, y_name, z_name, here, blank, variable, both}

-- where X and Y first stand, and X once more
abbrev x_first : Occurrence
x_first = occurrence x_name 4

abbrev y_first : Occurrence
y_first = occurrence y_name 6

abbrev x_later : Occurrence
x_later = occurrence x_name 10

has_name-each : has_name x_name (y_first ∷ x_first ∷ []) ∷ has_name z_name (y_first ∷ x_first ∷ []) ∷ [] ≡ true ∷ false ∷ []
has_name-each = refl

first_of-name : first_of x_name (y_first ∷ x_first ∷ x_later ∷ []) ≡ x_first ∷ []
first_of-name = refl

without-name : without (x_name ∷ z_name ∷ []) (x_first ∷ y_first ∷ x_later ∷ []) ≡ y_first ∷ []
without-name = refl

-- integers and `true` have no variables
occurrences-none : occurrences blank 4 (Integer (pos 3) here) ≡ []
occurrences-none = refl

introduced-none : introduced blank (Truth here) ≡ []
introduced-none = refl

-- the conjunction brings X, where it first stands, and not Y
Gives-conjunction : Gives blank both (x_first ∷ [])
Gives-conjunction = λ name. by (x_name == name)
  where
    by : (here : Bool) → ◌≡◌ {A = Option ℕ} (if here then Some 4 else None) (if here then Some 4 else if here then Some 10 else None)
    by true = refl
    by false = refl

Gives-later : Gives blank both (x_later ∷ []) → ⊥
Gives-later gives = let wrong : ◌≡◌ {A = Option ℕ} (Some 10) (Some 4) = gives x_name in let same : ◌≡◌ {A = ℕ} 10 4 = cc in omega arith

Gives-one_conjunct : Gives blank both (x_first ∷ y_first ∷ []) → ⊥
Gives-one_conjunct gives = let wrong : ◌≡◌ {A = Option ℕ} (Some 6) None = gives y_name in cc

Gives-nothing : Gives blank both [] → ⊥
Gives-nothing gives = let wrong : ◌≡◌ {A = Option ℕ} None (Some 4) = gives x_name in cc

-- `some [Y, X]` brings them in this order
Gives-quantified : Gives blank (Quantified (y_name ∷ x_name ∷ []) both here) (y_first ∷ x_first ∷ [])
Gives-quantified = refl

Gives-other_order : Gives blank (Quantified (y_name ∷ x_name ∷ []) both here) (x_first ∷ y_first ∷ []) → ⊥
Gives-other_order gives =
    let places : ◌≡◌ {A = List ℕ} (4 ∷ 6 ∷ []) (6 ∷ 4 ∷ []) = ap (λ (l : List Occurrence). map (λ (o : Occurrence). o.at) l) gives in
    let same : ◌≡◌ {A = ℕ} 4 6 = cc in omega arith

-- for the conjunction and for each conjunct, in the order of the text
AreBindings-each : AreBindings blank (entries_of both) ((x_first ∷ []) ∷ (x_first ∷ y_first ∷ []) ∷ (x_later ∷ []) ∷ [])
AreBindings-each = (Gives-conjunction, ((λ name. refl), ((λ name. refl), tt)))

AreBindings-exchanged : AreBindings blank (entries_of both) ((x_first ∷ []) ∷ (x_later ∷ []) ∷ (x_first ∷ y_first ∷ []) ∷ []) → ⊥
AreBindings-exchanged are = let wrong : ◌≡◌ {A = Option ℕ} None (Some 6) = are.1.0 y_name in cc

AreBindings-fewer : AreBindings blank (entries_of both) ((x_first ∷ []) ∷ (x_first ∷ y_first ∷ []) ∷ []) → ⊥
AreBindings-fewer are = are.1.1

AreBindings-more : AreBindings blank [] ((x_first ∷ []) ∷ []) → ⊥
AreBindings-more are = are

-- how many sub-goals forms have
needs-each : map needs (TruthForm ∷ ConjunctionForm 2 ∷ ConditionalForm ∷ NegatedForm ∷ QuantifiedForm (x_name ∷ y_name ∷ []) ∷ []) ≡ 0 ∷ 2 ∷ 3 ∷ 1 ∷ 1 ∷ []
needs-each = refl

together-order : together ((x_first ∷ y_first ∷ []) ∷ (x_later ∷ []) ∷ []) ≡ x_first ∷ y_first ∷ x_later ∷ []
together-order = refl

-- the term on top comes last
stacked-order : stacked blank (record { term = variable x_name; at = 10 } ∷ record { term = variable y_name; at = 6 } ∷ []) ≡ y_first ∷ x_later ∷ []
stacked-order = refl
