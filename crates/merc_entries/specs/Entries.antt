-- The items of a module in the order in which they stand, those of a library unit at its first import.
use Rattle.std.specs.Prelude.{ℕ, Bool, true, false, ◌==◌, ◌&&◌, not, List, [], ◌∷◌, ◌++◌, map, length, Option, Some, None, is_none, if◌then◌else◌}
use Rattle.std.specs.List.{list_all, flat_map}
use Rattle.merc_base.specs.Names.{out_name}
use Rattle.merc_base.specs.declared.groups.Key.{Key}
use Rattle.merc_base.specs.declared.place.Place.{Place}
use Rattle.merc_base.specs.declared.place.Span.{Span}
use Rattle.merc_tree.specs.Term.{Term, Application, span_of}
use Rattle.merc_tree.specs.Shape.{arguments_of}
use Rattle.merc_item_forms.specs.Items.{Item, Import, TypeItem, PredicateItem, ModeItem, item_of, place_of}
use Rattle.merc_operands.specs.Operands.{plain_name}
use Rattle.merc_item_forms.specs.Forms.{is_in, is_moded, argument_mode}

-- An item with its span in its own text, the place of the item of the file at which it stands, and the unit that it comes from, none for the file's own.
pub record Entry : Type 0 where
  pub item : Item
  pub span : Span
  pub place : Place
  pub unit : Option ℕ

abbrev pub name_before : Option ℕ → List ℕ → List ℕ
name_before None names = names
name_before (Some name) names = name ∷ names

abbrev pub names_of : List Term → List ℕ
names_of [] = []
names_of (term ∷ rest) = name_before (plain_name term) (names_of rest)

-- the units that an item imports
abbrev pub imports : Item → List ℕ
imports (Import units) = names_of units
imports other = []

-- these units with the new ones among others behind them, each once
abbrev pub with_units : List ℕ → List ℕ → List ℕ
with_units seen [] = seen
with_units seen (unit ∷ rest) = if is_in unit seen then with_units seen rest else with_units (seen ++ unit ∷ []) rest

-- the entries of new units among these
abbrev pub unit_entries : (ℕ → List Term) → Place → List ℕ → List ℕ → List Entry
unit_entries items place seen [] = []
unit_entries items place seen (unit ∷ rest) =
    if is_in unit seen then unit_entries items place seen rest
    else map (λ term. record { item = item_of term; span = span_of term; place = place; unit = Some unit }) (items unit) ++ unit_entries items place (seen ++ unit ∷ []) rest

-- The entries of a file's items, where these units were imported before. The items of each unit are given.
abbrev pub entries_from : (ℕ → List Term) → List ℕ → List Term → List Entry
entries_from items seen [] = []
entries_from items seen (term ∷ rest) =
    record { item = item_of term; span = span_of term; place = place_of term; unit = None } ∷
    (unit_entries items (place_of term) seen (imports (item_of term)) ++ entries_from items (with_units seen (imports (item_of term))) rest)

abbrev pub entries : (ℕ → List Term) → List Term → List Entry
entries items terms = entries_from items [] terms

-- the units that a file imports, in the order of their first imports
abbrev pub units_of : List Term → List ℕ
units_of terms = with_units [] (flat_map (λ term. imports (item_of term)) terms)

-- something declared at a place
pub record Declared (K : Type 0) : Type 0 where
  pub key : K
  pub place : Place

abbrev pub key_of : Term → List Key
key_of (Application name qualifier arguments span) = record { name = name; arity = length (arguments_of (Application name qualifier arguments span)) } ∷ []
key_of other = []

abbrev pub key : ℕ → ℕ → Key
key name arity = record { name = name; arity = arity }

abbrev pub is_key : Key → Key → Bool
is_key a b = (a.name == b.name) && (a.arity == b.arity)

abbrev pub are_keys : List Key → List Key → Bool
are_keys (a ∷ []) (b ∷ []) = is_key a b
are_keys some others = false

-- the type, the constructors and the predicate that an item declares

abbrev pub types_of : Item → List Key
types_of (TypeItem head constructors) = key_of head
types_of other = []

abbrev pub constructors_of : Item → List Key
constructors_of (TypeItem head constructors) = flat_map key_of constructors
constructors_of other = []

abbrev pub predicates_of : Item → List Key
predicates_of (PredicateItem head category) = key_of head
predicates_of other = []

-- A mode of a predicate: which arguments are outputs.
pub record Mode : Type 0 where
  pub predicate : Key
  pub outputs : List Bool

abbrev pub is_out : Option ℕ → Bool
is_out None = false
is_out (Some name) = name == out_name

abbrev pub outputs_of : List (Option Term) → List Bool
outputs_of [] = []
outputs_of (None ∷ rest) = outputs_of rest
outputs_of (Some term ∷ rest) = is_out (plain_name term) ∷ outputs_of rest

abbrev pub has_mode_among : List Term → Option Term → Bool
has_mode_among [] None = false
has_mode_among [] (Some category) = true
has_mode_among (first ∷ rest) category = list_all is_moded (first ∷ rest)

-- Whether a predicate's declaration has its mode with it: each argument has `::`, or there are none and a category stands behind.
abbrev pub has_mode : Term → Option Term → Bool
has_mode head category = has_mode_among (arguments_of head) category

abbrev pub modes_at : List Key → List Bool → List Mode
modes_at [] outputs = []
modes_at (key ∷ rest) outputs = record { predicate = key; outputs = outputs } ∷ []

abbrev pub modes_of : Item → List Mode
modes_of (PredicateItem head category) = if has_mode head category then modes_at (key_of head) (outputs_of (map argument_mode (arguments_of head))) else []
modes_of (ModeItem head category) = modes_at (key_of head) (outputs_of (map Some (arguments_of head)))
modes_of other = []

abbrev pub are_same : List Bool → List Bool → Bool
are_same [] [] = true
are_same [] (b ∷ bs) = false
are_same (a ∷ more_a) [] = false
are_same (true ∷ rest) (b ∷ bs) = b && are_same rest bs
are_same (false ∷ rest) (b ∷ bs) = not b && are_same rest bs

abbrev pub is_same_mode : Mode → Mode → Bool
is_same_mode a b = is_key a.predicate b.predicate && are_same a.outputs b.outputs

-- what entries declare, each with its place
abbrev pub declared_by : {K : Type 0} → (Item → List K) → List Entry → List (Declared K)
declared_by keys [] = []
declared_by keys (entry ∷ rest) = map (λ key. record { key = key; place = entry.place }) (keys entry.item) ++ declared_by keys rest

-- the file's own entries
abbrev pub is_own : Entry → Bool
is_own entry = is_none entry.unit

abbrev pub own_entries : List Entry → List Entry
own_entries [] = []
own_entries (entry ∷ rest) = if is_own entry then entry ∷ own_entries rest else own_entries rest
