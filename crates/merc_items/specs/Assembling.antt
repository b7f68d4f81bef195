-- The parts of which a module is made.
use Rattle.std.specs.Prelude.{ℕ, List, [], ◌∷◌, map, Option}
use Rattle.merc_base.specs.declared.place.Span.{Span}
use Rattle.merc_tree.specs.Term.{Term}
use Rattle.merc_tree.specs.Shape.{arguments_of}
use Rattle.merc_tree.specs.declared.declarations.PredDecl.{PredDecl}
use Rattle.merc_tree.specs.declared.declarations.Clause.{Clause}
use Rattle.merc_items.specs.declared.declared_modes.ModeTable.{ModeTable}
use Rattle.merc_item_forms.specs.Items.{Item, PredicateItem}
use Rattle.merc_item_forms.specs.Forms.{argument_type}
use Rattle.merc_entries.specs.Entries.{Entry, key_of}
use Rattle.merc_items.specs.ModuleOf.{declared_type, head_name}
use Rattle.merc_items.specs.DeclaredModes.{kept_modes}

-- a predicate with the modes of a table
abbrev pub pred_decl_of : List (List ℕ) → ModeTable → Option ℕ → Span → Term → PredDecl
pred_decl_of names table unit span head = record {
  name = head_name head;
  args = map (λ argument. declared_type names (argument_type argument)) (arguments_of head);
  modes = kept_modes table (key_of head);
  span = span;
  unit = unit;
}

abbrev pub preds_in : List (List ℕ) → ModeTable → Option ℕ → Span → Item → List PredDecl
preds_in names table unit span (PredicateItem head category) = pred_decl_of names table unit span head ∷ []
preds_in names table unit span other = []

abbrev pub preds_by : List (List ℕ) → ModeTable → Entry → List PredDecl
preds_by names table entry = preds_in names table entry.unit entry.span entry.item

abbrev pub clause_of : Span → Term → Option Term → Clause
clause_of span head body = record { head = head; body = body; span = span }
