-- The entries of items whose places rise are in order.
use Rattle.std.proofs.Common.{ℕ, ◌≤◌, Bool, true, false, List, [], ◌∷◌, ◌++◌, append_assoc, map, arith, if◌then◌else◌}
use Rattle.merc_base.specs.FirstPlace.{NeverFalls}
use Rattle.merc_base.specs.declared.place.Place.{Place}
use Rattle.merc_tree.specs.Term.{Term, span_of}
use Rattle.merc_item_forms.specs.Forms.{is_in}
use Rattle.merc_item_forms.specs.FormFaults.{Rises}
use Rattle.merc_item_forms.specs.Items.{item_of, place_of}
use Rattle.merc_entries.specs.Entries.{Entry, entries, entries_from, imports, unit_entries, with_units}
use Rattle.merc_entries.specs.EntryValue.{place_at, AreInOrder}
use Rattle.merc_entries.specs.Joining.{unit_entry}

-- the items of a unit before others
unit_before : (place : Place) (unit : ℕ) (terms : List Term) (rest : List Entry) → NeverFalls place_at place.byte rest → NeverFalls place_at place.byte (map (unit_entry place unit) terms ++ rest)
unit_before place unit [] rest order = order
unit_before place unit (term ∷ terms) rest order = (omega arith, unit_before place unit terms rest order)

append_order : (byte : ℕ) (a b c : List Entry) → NeverFalls place_at byte (a ++ (b ++ c)) → NeverFalls place_at byte ((a ++ b) ++ c)
append_order byte a b c order = rw append_assoc order

units_before : (items : ℕ → List Term) (place : Place) (seen units : List ℕ) (rest : List Entry)
    → NeverFalls place_at place.byte rest → NeverFalls place_at place.byte (unit_entries items place seen units ++ rest)
units_before items place seen [] rest order = order
units_before items place seen (unit ∷ units) rest order =
    by_test (is_in unit seen) (units_before items place seen units rest order)
    (append_order place.byte (map (unit_entry place unit) (items unit)) (unit_entries items place (seen ++ unit ∷ []) units) rest
    (unit_before place unit (items unit) (unit_entries items place (seen ++ unit ∷ []) units ++ rest) (units_before items place (seen ++ unit ∷ []) units rest order)))
  where
    by_test : (b : Bool) → NeverFalls place_at place.byte (unit_entries items place seen units ++ rest)
        → NeverFalls place_at place.byte ((map (unit_entry place unit) (items unit) ++ unit_entries items place (seen ++ unit ∷ []) units) ++ rest)
        → NeverFalls place_at place.byte ((if b then unit_entries items place seen units else map (unit_entry place unit) (items unit) ++ unit_entries items place (seen ++ unit ∷ []) units) ++ rest)
    by_test true known new = known
    by_test false known new = new

abbrev FromTerm : ℕ → List Term → Type 0
FromTerm byte [] = Unit {0}
FromTerm byte (first ∷ rest) = byte ≤ (span_of first).first

in_order : (items : ℕ → List Term) (seen : List ℕ) (byte : ℕ) (terms : List Term) → Rises terms → FromTerm byte terms → NeverFalls place_at byte (entries_from items seen terms)
in_order items seen byte [] rises from = tt
in_order items seen byte (only ∷ []) rises from = (from, units_before items (place_of only) seen (imports (item_of only)) [] tt)
in_order items seen byte (term ∷ next ∷ rest) rises from =
    let others = in_order items (with_units seen (imports (item_of term))) (span_of term).first (next ∷ rest) rises.1 (omega (arith, rises.0)) in
    (from, units_before items (place_of term) seen (imports (item_of term)) (entries_from items (with_units seen (imports (item_of term))) (next ∷ rest)) others)

pub entries_in_order : (items : ℕ → List Term) (terms : List Term) → Rises terms → AreInOrder (entries items terms)
entries_in_order items [] rises = tt
entries_in_order items (term ∷ rest) rises = in_order items [] 0 (term ∷ rest) rises (omega arith)
