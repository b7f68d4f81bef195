-- The entries of small modules, and what items declare.
use Rattle.std.specs.Prelude.{◌≡◌, ℕ, ◌+◌, ◌==◌, Bool, true, false, List, [], ◌∷◌, map, length, Some, None, refl, if◌then◌else◌}
use Rattle.merc_base.specs.Names.{colon_colon_name, colon_minus_name, comma_name, import_module_name, in_name, out_name, int_name, list_name, bool_name, maybe_name, det_name}
use Rattle.merc_base.specs.declared.place.Place.{Place}
use Rattle.merc_base.specs.declared.place.Span.{Span}
use Rattle.merc_tree.specs.Term.{Term, Application, none, terms_of}
use Rattle.merc_item_forms.specs.Items.{Import, PredicateItem, ModeItem, ClauseItem, place_of}
use Rattle.merc_entries.specs.Entries.{Entry, Mode, entries, is_same_mode, key, modes_of, units_of}
use Rattle.merc_entries.specs.Joining.{own_entry, unit_entry}

abbrev span_at : ℕ → Span
span_at byte = record { first = byte; past = byte + 1; line = 1 }

-- a name with arguments, which begins at this byte
abbrev apply : ℕ → ℕ → List Term → Term
apply byte name arguments = Application name None (terms_of arguments) (span_at byte)

-- `:- import_module bool.`
abbrev import_bool : ℕ → Term
import_bool byte = apply byte colon_minus_name (apply byte import_module_name (apply byte bool_name [] ∷ []) ∷ [])

-- a fact, and a unit `bool` that is another fact

abbrev fact_name : ℕ
fact_name = 101

abbrev unit_fact_name : ℕ
unit_fact_name = 102

abbrev fact : ℕ → Term
fact byte = apply byte fact_name []

abbrev unit_fact : Term
unit_fact = apply 0 unit_fact_name []

abbrev unit_items : ℕ → List Term
unit_items name = if name == bool_name then unit_fact ∷ [] else []

-- the items of a unit stand behind its import
import_first : entries unit_items (import_bool 0 ∷ fact 30 ∷ []) ≡ own_entry (import_bool 0) ∷ unit_entry (place_of (import_bool 0)) bool_name unit_fact ∷ own_entry (fact 30) ∷ []
import_first = refl

-- and behind the first import alone
import_twice : entries unit_items (import_bool 0 ∷ import_bool 30 ∷ []) ≡ own_entry (import_bool 0) ∷ unit_entry (place_of (import_bool 0)) bool_name unit_fact ∷ own_entry (import_bool 30) ∷ []
import_twice = refl

import_alone : entries unit_items (import_bool 0 ∷ []) ≡ own_entry (import_bool 0) ∷ [] → ⊥
import_alone same = cc

-- Several units: `list` has facts on the lines 3 and 4 of its text, `bool` and `maybe` have one on line 5 and on line 6

abbrev on_line : ℕ → Span
on_line line = record { first = 10 + line; past = 20 + line; line = line }

abbrev fact_on : ℕ → Term
fact_on line = Application fact_name None none (on_line line)

abbrev facts_of : ℕ → List Term
facts_of unit =
    if unit == list_name then fact_on 3 ∷ fact_on 4 ∷ []
    else if unit == bool_name then fact_on 5 ∷ []
    else if unit == maybe_name then fact_on 6 ∷ []
    else []

-- `:- import_module first, second.`
abbrev import_two : ℕ → ℕ → ℕ → Term
import_two byte first second =
    apply byte colon_minus_name (apply byte import_module_name (apply byte comma_name (apply byte first [] ∷ apply byte second [] ∷ []) ∷ []) ∷ [])

abbrev from_byte : ℕ → Place
from_byte byte = record { byte = byte; line = 1 }

abbrev import_entry : ℕ → ℕ → ℕ → Entry
import_entry byte first second =
    record { item = Import (apply byte first [] ∷ apply byte second [] ∷ []); span = span_at byte; place = from_byte byte; unit = None }

-- a unit's fact has its own span, and stands where the unit is imported
abbrev fact_entry : ℕ → ℕ → ℕ → Entry
fact_entry byte unit line = record { item = ClauseItem (fact_on line) None; span = on_line line; place = from_byte byte; unit = Some unit }

abbrev two_imports : List Term
two_imports = import_two 20 list_name bool_name ∷ import_two 60 bool_name maybe_name ∷ []

-- each unit behind its first import, in the order in which they are named
import_several : entries facts_of two_imports
    ≡ import_entry 20 list_name bool_name ∷ fact_entry 20 list_name 3 ∷ fact_entry 20 list_name 4 ∷ fact_entry 20 bool_name 5
    ∷ import_entry 60 bool_name maybe_name ∷ fact_entry 60 maybe_name 6 ∷ []
import_several = refl

units_in_order : units_of two_imports ≡ list_name ∷ bool_name ∷ maybe_name ∷ []
units_in_order = refl

-- a unit that an import names twice
import_repeated : entries facts_of (import_two 20 bool_name bool_name ∷ []) ≡ import_entry 20 bool_name bool_name ∷ fact_entry 20 bool_name 5 ∷ []
import_repeated = refl

-- Modes

abbrev p_name : ℕ
p_name = 103

abbrev q_name : ℕ
q_name = 104

abbrev p : List Term → Term
p arguments = apply 0 p_name arguments

abbrev word : ℕ → Term
word name = apply 0 name []

-- `int::mode`
abbrev moded : ℕ → Term
moded mode = apply 0 colon_colon_name (word int_name ∷ word mode ∷ [])

abbrev mode : ℕ → List Bool → Mode
mode name outputs = record { predicate = key name (length outputs); outputs = outputs }

-- `:- mode p(in, out) is det.`
modes_of-mode : modes_of (ModeItem (p (word in_name ∷ word out_name ∷ [])) (Some (word det_name))) ≡ mode p_name (false ∷ true ∷ []) ∷ []
modes_of-mode = refl

-- `:- pred p(int::out, int::in) is det.`
modes_of-predicate : modes_of (PredicateItem (p (moded out_name ∷ moded in_name ∷ [])) (Some (word det_name))) ≡ mode p_name (true ∷ false ∷ []) ∷ []
modes_of-predicate = refl

-- `:- pred p is det.` has its mode with it
modes_of-plain : modes_of (PredicateItem (p []) (Some (word det_name))) ≡ mode p_name [] ∷ []
modes_of-plain = refl

-- and `:- pred p.` and `:- pred p(int).` have not
modes_of-bare : modes_of (PredicateItem (p []) None) ≡ []
modes_of-bare = refl

modes_of-split : modes_of (PredicateItem (p (word int_name ∷ [])) None) ≡ []
modes_of-split = refl

-- a mode is the same where its predicate and each of its outputs are
is_same_mode-each : map (is_same_mode (mode p_name (false ∷ true ∷ [])))
    (mode p_name (false ∷ true ∷ []) ∷ mode p_name (true ∷ false ∷ []) ∷ mode p_name (false ∷ false ∷ []) ∷ mode p_name (true ∷ true ∷ [])
    ∷ mode q_name (false ∷ true ∷ []) ∷ mode p_name (false ∷ []) ∷ [])
    ≡ true ∷ false ∷ false ∷ false ∷ false ∷ false ∷ []
is_same_mode-each = refl
