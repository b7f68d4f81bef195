-- Entries of goals without sub-goals, and of goals whose sub-goals stand beside each other.
use Rattle.std.proofs.Common.{◌≡◌, ℕ, ◌+◌, Bool, List, [], ◌∷◌, ◌⊎◌, inl, inr, refl, ap, sym, subst}
use Rattle.merc_base.specs.declared.place.Span.{Span}
use Rattle.merc_tree.specs.Term.{Term, Variable, Integer, Text, Application, terms_of}
use Rattle.merc_tree.specs.TermCode.{terms_of-list_of}
use Rattle.merc_tree.specs.Shape.{arguments_of}
use Rattle.merc_goals.specs.Written.{Written, WrittenGoals, Truth, Failure, Equal, Compared, Conjunction, Parallel, Disjunction, WrongForm, OutsideProfile}
use Rattle.merc_goals.specs.Entries.{called, with_form}
use Rattle.merc_goals.specs.declared.goal.Form.{Form}
use Rattle.merc_goals.specs.declared.goal.Form.TheVariants.{Truth as TruthForm, Failure as FailureForm, WrongForm as NoForm, OutsideProfile as OutsideForm}
use Rattle.merc_scopes.specs.declared.occurrence.Occurrence.{Occurrence}
use Rattle.merc_scopes.specs.Scopes.{free, occurrences_of}
use Rattle.merc_answer_variables.specs.Reading.{IsPlain, IsBeside}

module _ (blank : ℕ → Bool) where
  pub plain_truth : (span : Span) → IsPlain blank (Truth span)
  plain_truth span = record { all = λ behind. refl; status = λ name behind. refl }

  pub plain_failure : (span : Span) → IsPlain blank (Failure span)
  plain_failure span = record { all = λ behind. refl; status = λ name behind. refl }

  pub plain_wrong : (span : Span) → IsPlain blank (WrongForm span)
  plain_wrong span = record { all = λ behind. refl; status = λ name behind. refl }

  pub plain_outside : (span : Span) → IsPlain blank (OutsideProfile span)
  plain_outside span = record { all = λ behind. refl; status = λ name behind. refl }

  pub plain_equal : (at : ℕ) (left right : Term) (span : Span) → IsPlain blank (Equal at left right span)
  plain_equal at left right span = record { all = λ behind. refl; status = λ name behind. refl }

  pub plain_compared : (at name : ℕ) (left right : Term) (span : Span) → IsPlain blank (Compared at name left right span)
  plain_compared at name left right span = record { all = λ behind. refl; status = λ other behind. refl }

  pub plain_called : (at : ℕ) (term : Term) (span : Span) → IsPlain blank (called at term span)
  plain_called at (Variable name place) span = plain_wrong span
  plain_called at (Integer value place) span = plain_wrong span
  plain_called at (Text text place) span = plain_wrong span
  plain_called at (Application name qualifier arguments place) span = record { all = λ behind. refl; status = λ other behind. refl }

  pub free-called : (at : ℕ) (term : Term) (span : Span) → occurrences_of blank (at + 2) (terms_of (arguments_of term)) ≡ free blank (called at term span)
  free-called at (Variable name place) span = refl
  free-called at (Integer value place) span = refl
  free-called at (Text text place) span = refl
  free-called at (Application name qualifier arguments place) span = ap (occurrences_of blank (at + 2)) (terms_of-list_of arguments)

  pub beside_conjunction : (goals : WrittenGoals) (span : Span) → IsBeside blank goals (Conjunction goals span)
  beside_conjunction goals span = record { all = λ behind. refl; status = λ name behind. refl }

  pub beside_parallel : (goals : WrittenGoals) (span : Span) → IsBeside blank goals (Parallel goals span)
  beside_parallel goals span = record { all = λ behind. refl; status = λ name behind. refl }

  pub beside_disjunction : (goals : WrittenGoals) (span : Span) → IsBeside blank goals (Disjunction goals span)
  beside_disjunction goals span = record { all = λ behind. refl; status = λ name behind. refl }

  -- entries of goals without variables
  pub no_variables : (P : List Written → Type 0) (form : Form) (at : ℕ) (span : Span) (goals : List Written) (found : List Occurrence) → found ≡ []
      → ((form ≡ TruthForm) ⊎ ((form ≡ FailureForm) ⊎ ((form ≡ NoForm) ⊎ (form ≡ OutsideForm))))
      → ((goal : Written) → IsPlain blank goal → found ≡ free blank goal → P (goal ∷ goals)) → P (with_form form at span goals)
  no_variables P form at span goals found empty (inl is) put = subst (λ (f : Form). P (with_form f at span goals)) (sym is) (put (Truth span) (plain_truth span) empty)
  no_variables P form at span goals found empty (inr (inl is)) put = subst (λ (f : Form). P (with_form f at span goals)) (sym is) (put (Failure span) (plain_failure span) empty)
  no_variables P form at span goals found empty (inr (inr (inl is))) put = subst (λ (f : Form). P (with_form f at span goals)) (sym is) (put (WrongForm span) (plain_wrong span) empty)
  no_variables P form at span goals found empty (inr (inr (inr is))) put =
      subst (λ (f : Form). P (with_form f at span goals)) (sym is) (put (OutsideProfile span) (plain_outside span) empty)
