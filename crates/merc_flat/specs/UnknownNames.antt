-- Unknown names, term by term and entry by entry.
use Rattle.std.specs.Prelude.{ℕ, Bool, false, ◌==◌, ◌&&◌, ◌||◌, not, is_none, List, [], ◌∷◌, ◌++◌, length, Option, Some, None, if◌then◌else◌}
use Rattle.merc_base.specs.Names.{minus_name}
use Rattle.merc_base.specs.declared.place.Span.{Span}
use Rattle.merc_base.specs.declared.refusal.Refusal.{Refusal}
use Rattle.merc_base.specs.declared.refusal.Rule.TheVariants.{UnknownName}
use Rattle.merc_base.specs.declared.refusal.Detail.TheVariants.{Plain}
use Rattle.merc_tree.specs.Term.{Term, Variable, Integer, Text, Application, list_of, span_of}
use Rattle.merc_tree.specs.declared.declarations.Module.{Module}
use Rattle.merc_goals.specs.Entries.{GoalEntry}
use Rattle.merc_goals.specs.declared.goal.Form.{Form}
use Rattle.merc_goals.specs.declared.goal.Form.TheVariants.{Equal as EqualForm, Compared as ComparedForm, Called as CalledForm}
use Rattle.merc_base.specs.Places.{place_of}
use Rattle.merc_name_resolution.specs.Known.{callee_in, is_callee, is_constructor}
use Rattle.merc_flat_form.specs.FlatForm.{argument_terms, operation_of}
use Rattle.merc_flat.specs.GoalFaults.{unknown_in, unknown_among}

abbrev pub unknown_refusal : Span → Refusal
unknown_refusal span = record { rule = UnknownName; place = place_of span; detail = Plain }

-- arithmetic, by the number of arguments
abbrev pub is_arithmetic_name : ℕ → Option ℕ → ℕ → Bool
is_arithmetic_name name qualifier arity =
    is_none qualifier && (((arity == 2) && not (is_none (operation_of name))) || ((arity == 1) && (name == minus_name)))

-- terms that are put on a stack, the first at its top
abbrev pub stacked : List Term → List Term → List Term
stacked stack [] = stack
stacked stack (first ∷ rest) = stacked stack rest ++ first ∷ []

module _ (known : Module) where
  abbrev pub is_unknown : Term → Bool
  is_unknown (Application name qualifier arguments span) =
      not (is_arithmetic_name name qualifier (length (list_of arguments)) || is_constructor known name qualifier (length (list_of arguments)))
  is_unknown (Variable name span) = false
  is_unknown (Integer value span) = false
  is_unknown (Text text span) = false

  -- where a term begins that is unknown itself
  abbrev pub own_span : Term → Option Span
  own_span term = if is_unknown term then Some (span_of term) else None

  -- the unknown names in the terms of a stack, from its top
  abbrev pub unknown_on : List Term → List Span
  unknown_on [] = []
  unknown_on (term ∷ rest) = unknown_on rest ++ unknown_in known term

  -- a call of no predicate
  abbrev pub is_unknown_call : Term → Bool
  is_unknown_call (Application name qualifier arguments span) = not (is_callee known (callee_in known name qualifier (length (list_of arguments))))
  is_unknown_call (Variable name span) = false
  is_unknown_call (Integer value span) = false
  is_unknown_call (Text text span) = false

  abbrev pub call_span : Term → Span → Option Span
  call_span term span = if is_unknown_call term then Some span else None

  abbrev pub unknown_at : Form → Span → List Span
  unknown_at (EqualForm left right) span = unknown_in known left ++ unknown_in known right
  unknown_at (ComparedForm name left right) span = unknown_in known left ++ unknown_in known right
  unknown_at (CalledForm term) span = (if is_unknown_call term then span ∷ [] else []) ++ unknown_among known (argument_terms term)
  unknown_at other span = []

  abbrev pub entry_unknown : GoalEntry → List Span
  entry_unknown entry = unknown_at entry.form entry.span

  abbrev pub entries_unknown : List GoalEntry → List Span
  entries_unknown [] = []
  entries_unknown (entry ∷ rest) = entry_unknown entry ++ entries_unknown rest
