-- What of a module comes from the unit `list`: its predicates with their modes, and their clauses.
use Rattle.std.proofs.Common.{◌≡◌, ℕ, inl, inr, ◌==◌, ◌||◌, ◌&&◌, not, Bool, true, false, List, [], ◌∷◌, ◌++◌, map, length, Option, Some, None, is_none, if◌then◌else◌, refl, sym, ap, ap₂, ◌∙◌, eqb-true}
use Rattle.std.proofs.lemmas.Bool.{and_parts}
use Rattle.std.proofs.lemmas.List.Elements.{filter-append}
use Rattle.std.proofs.lemmas.List.Folds.{find_at}
use Rattle.std.specs.List.{filter, find, flat_map, list_any}
use Rattle.merc_base.specs.Names.{append_name, division_by_zero_name, fixed_names, length_name, list_name, list_reverse_onto_name, member_name, reverse_name}
use Rattle.merc_base.specs.declared.groups.Key.{Key}
use Rattle.merc_base.specs.declared.place.Place.{Place}
use Rattle.merc_base.specs.declared.place.Span.{Span}
use Rattle.merc_base.specs.declared.refusal.Rule.TheVariants.{DeclaredTwice, Undeclared}
use Rattle.merc_base.specs.declared.refusal.Detail.TheVariants.{Plain}
use Rattle.merc_tree.specs.Term.{Term, Variable, Integer, Text, Application, list_of}
use Rattle.merc_tree.specs.Types.{TypeExpr, IntType}
use Rattle.merc_tree.specs.declared.declarations.Clause.{Clause}
use Rattle.merc_tree.specs.declared.declarations.ModeDecl.{ModeDecl}
use Rattle.merc_tree.specs.declared.declarations.PredDecl.{PredDecl}
use Rattle.merc_tree.specs.declared.declarations.Module.{Module}
use Rattle.merc_bodies.specs.Bodies.{clauses_of as clauses_for, is_head}
use Rattle.merc_order.specs.Procedures.{modes_of, modes_in as modes_found}
use Rattle.merc_name_resolution.specs.Known.{is_predicate}
use Rattle.merc_item_forms.specs.Forms.{is_foreign}
use Rattle.merc_item_forms.specs.FormFaults.{own_name}
use Rattle.merc_item_forms.specs.Items.{Item, Opening, Ending, Section, Import, TypeItem, PredicateItem, ModeItem, ClauseItem, OtherType, OtherFunction, OtherGrammar, OtherDeclaration, Formless, item_of}
use Rattle.merc_declared.specs.AloneItems.{declares_predicate, is_alone}
use Rattle.merc_entries.specs.DoubleFaults.{predicate_again}
use Rattle.merc_entries.specs.Entries.{Entry, are_keys, entries, is_key, is_own, key, key_of, own_entries, predicates_of}
use Rattle.merc_entries.specs.EntryValue.{place_at}
use Rattle.merc_entries.specs.LibraryItems.{append_declaration, append_mode, append_nil, bool_type, maybe_type, library_items, list_items, member_declaration, member_mode, length_declaration, reverse_declaration, onto_declaration}
use Rattle.merc_entries.specs.Joining.{unit_entry}
use Rattle.merc_items.specs.ModuleOf.{clauses_in, clauses_of, modes_in, module_of, pred_decls, pred_decls_of, unit_items}
use Rattle.merc_items.specs.Phases.{alone, clauses_phase, doubles_phase, double, HasNoFault}
use Rattle.merc_program_laws.specs.ClauseFaults.{IsAmong, file_clauses}
use Rattle.merc_program_laws.proofs.ListLookups.{list_of_t, number_of, predicate_key, t}
use Rattle.merc_program_laws.proofs.UnitEntries.{flat_mapped, own_among, unique}
use Rattle.merc_program_laws.proofs.ListOnce.{is_empty, list_there, listed_once, other_units}
use Rattle.merc_program_laws.proofs.ListOrders.{append_modes, member_modes, length_modes, reverse_modes, onto_modes}

-- look-ups in lists

split_at : {A : Type 0} (one : A) (all : List A) → IsAmong one all → (front : List A) × (back : List A) × (all ≡ front ++ one ∷ back)
split_at one [] among = absurd among
split_at one (first ∷ rest) (inl same) = ([], rest, ap (λ a. a ∷ rest) (sym same))
split_at one (first ∷ rest) (inr among) = let inner = split_at one rest among in (first ∷ inner.0, inner.1, ap (λ l. first ∷ l) inner.2)

none_pass : {A : Type 0} (test : A → Bool) (all : List A) → ((one : A) → IsAmong one all → test one ≡ false) → filter test all ≡ []
none_pass test [] none = refl
none_pass {A} test (first ∷ rest) none = by (test first) (none first (inl refl)) (none_pass test rest (λ one among. none one (inr among)))
  where
    by : (b : Bool) → b ≡ false → filter test rest ≡ [] → (if b then first ∷ filter test rest else filter test rest) ≡ []
    by true is inner = absurd cc
    by false is inner = inner

find_behind : {A : Type 0} (test : A → Bool) (some others : List A) → ((one : A) → IsAmong one some → test one ≡ false) → find test (some ++ others) ≡ find test others
find_behind test [] others none = refl
find_behind {A} test (first ∷ some) others none = by (test first) (none first (inl refl)) (find_behind test some others (λ one among. none one (inr among)))
  where
    by : (b : Bool) → b ≡ false → find test (some ++ others) ≡ find test others → (if b then Some first else find test (some ++ others)) ≡ find test others
    by true is inner = absurd cc
    by false is inner = inner

passes_one : {A : Type 0} (test : A → Bool) (all : List A) → list_any test all ≡ true → (one : A) × IsAmong one all × (test one ≡ true)
passes_one test [] is = absurd cc
passes_one {A} test (first ∷ rest) is = by (test first) refl (passes_one test rest) is
  where
    by : (b : Bool) → test first ≡ b → (list_any test rest ≡ true → (one : A) × IsAmong one rest × (test one ≡ true)) → (b || list_any test rest) ≡ true → (one : A) × IsAmong one (first ∷ rest) × (test one ≡ true)
    by true passes inner is' = (first, inl refl, passes)
    by false fails inner is' = let found = inner is' in (found.0, inr found.1, found.2)

never : (b : Bool) → (b ≡ true → ⊥) → b ≡ false
never true refuted = absurd (refuted refl)
never false refuted = refl

own_is : (one : Entry) (all : List Entry) → IsAmong one (own_entries all) → is_own one ≡ true
own_is one [] among = absurd among
own_is one (first ∷ rest) among = by (is_own first) refl (own_is one rest) among
  where
    by : (b : Bool) → is_own first ≡ b → (IsAmong one (own_entries rest) → is_own one ≡ true) → IsAmong one (if b then first ∷ own_entries rest else own_entries rest) → is_own one ≡ true
    by true is inner (inl same) = ap is_own same ∙ is
    by true is inner (inr there) = inner there
    by false is inner there = inner there

-- keys of heads

key_of-head : (declared : PredDecl) (head : Term) → is_head declared head ≡ true → key_of head ≡ key declared.name (length declared.args) ∷ []
key_of-head declared (Application name qualifier arguments span) is =
    let parts = and_parts (name == declared.name) (length (list_of arguments) == length declared.args) is in
    ap₂ (λ (n a : ℕ). key n a ∷ []) (eqb-true name declared.name parts.0) (eqb-true (length (list_of arguments)) (length declared.args) parts.1)
key_of-head declared (Variable name span) is = absurd cc
key_of-head declared (Integer value span) is = absurd cc
key_of-head declared (Text text span) is = absurd cc

are_keys-any : (one : Key) (keys : List Key) → are_keys (one ∷ []) keys ≡ true → list_any (is_key one) keys ≡ true
are_keys-any one [] is = absurd cc
are_keys-any one (other ∷ []) is = ap (λ (b : Bool). b || false) is
are_keys-any one (other ∷ second ∷ rest) is = absurd cc

-- the item that a clause is
clause_item : (clause : Clause) (span : Span) (item : Item) → IsAmong clause (clauses_of span item) → item ≡ ClauseItem clause.head clause.body
clause_item clause span (ClauseItem head body) (inl same) = ap₂ ClauseItem (sym (ap (λ (c : Clause). c.head) same)) (sym (ap (λ (c : Clause). c.body) same))
clause_item clause span (ClauseItem head body) (inr among) = absurd among
clause_item clause span (Opening found) among = absurd among
clause_item clause span (Ending found) among = absurd among
clause_item clause span Section among = absurd among
clause_item clause span (Import units) among = absurd among
clause_item clause span (TypeItem head constructors) among = absurd among
clause_item clause span (PredicateItem head category) among = absurd among
clause_item clause span (ModeItem head category) among = absurd among
clause_item clause span (OtherType head) among = absurd among
clause_item clause span OtherFunction among = absurd among
clause_item clause span OtherGrammar among = absurd among
clause_item clause span OtherDeclaration among = absurd among
clause_item clause span Formless among = absurd among

-- a predicate has the unit of the entry that declares it
declared_unit : (names : List (List ℕ)) (those : List Entry) (unit : Option ℕ) (span : Span) (item : Item) (one : PredDecl) → IsAmong one (pred_decls_of names those unit span item) → one.unit ≡ unit
declared_unit names those unit span (PredicateItem head category) one (inl same) = ap (λ (d : PredDecl). d.unit) same
declared_unit names those unit span (PredicateItem head category) one (inr among) = absurd among
declared_unit names those unit span (TypeItem head constructors) one among = absurd among
declared_unit names those unit span (Opening found) one among = absurd among
declared_unit names those unit span (Ending found) one among = absurd among
declared_unit names those unit span Section one among = absurd among
declared_unit names those unit span (Import units) one among = absurd among
declared_unit names those unit span (ModeItem head category) one among = absurd among
declared_unit names those unit span (ClauseItem head body) one among = absurd among
declared_unit names those unit span (OtherType head) one among = absurd among
declared_unit names those unit span OtherFunction one among = absurd among
declared_unit names those unit span OtherGrammar one among = absurd among
declared_unit names those unit span OtherDeclaration one among = absurd among
declared_unit names those unit span Formless one among = absurd among

second_true : (a b : Bool) → (a || not b) ≡ false → b ≡ true
second_true true b is = absurd cc
second_true false true is = refl
second_true false false is = absurd cc

-- the predicates that the unit declares

abbrev declared_as : ℕ → List TypeExpr → List ModeDecl → Span → PredDecl
declared_as name args modes span = record { name = name; args = args; modes = modes; span = span; unit = Some list_name }

abbrev at : ℕ → ℕ → ℕ → Span
at line first past = record { first = first; past = past; line = line }

abbrev lists : List TypeExpr
lists = list_of_t ∷ list_of_t ∷ list_of_t ∷ []

abbrev pub append_predicate : List ModeDecl → PredDecl
append_predicate modes = declared_as append_name lists modes (at 2 41 82)

abbrev pub member_predicate : List ModeDecl → PredDecl
member_predicate modes = declared_as member_name (t ∷ list_of_t ∷ []) modes (at 7 233 259)

abbrev pub length_predicate : List ModeDecl → PredDecl
length_predicate modes = declared_as length_name (list_of_t ∷ IntType ∷ []) modes (at 12 389 433)

abbrev pub reverse_predicate : List ModeDecl → PredDecl
reverse_predicate modes = declared_as reverse_name (list_of_t ∷ list_of_t ∷ []) modes (at 15 499 548)

abbrev pub onto_predicate : List ModeDecl → PredDecl
onto_predicate modes = declared_as list_reverse_onto_name lists modes (at 17 600 672)

abbrev five : (append member length reverse onto : List ModeDecl) → List PredDecl
five append member length reverse onto = append_predicate append ∷ member_predicate member ∷ length_predicate length ∷ reverse_predicate reverse ∷ onto_predicate onto ∷ []

abbrev pub list_predicates : List PredDecl
list_predicates = five append_modes member_modes length_modes reverse_modes onto_modes

-- What the unit's items declare, where its modes are those of all items of units.

module _ (behind : List (List ℕ)) (those : List Entry) (place : Place) where
  abbrev listed : {B : Type 0} → (Entry → List B) → List B
  listed made = flat_map made (map (unit_entry place list_name) list_items)

  abbrev modes_for : ℕ → ℕ → List ModeDecl
  modes_for name arity = flat_map (modes_in (key name arity ∷ [])) those

  listed_predicates : listed (pred_decls (fixed_names ++ behind) those) ≡ five (modes_for append_name 3) (modes_for member_name 2) (modes_for length_name 2) (modes_for reverse_name 2) (modes_for list_reverse_onto_name 3)
  unfolding fixed_names list_items
  listed_predicates = refl

  listed_append : listed (modes_in (key append_name 3 ∷ [])) ≡ append_modes
  unfolding list_items
  listed_append = refl

  listed_member : listed (modes_in (key member_name 2 ∷ [])) ≡ member_modes
  unfolding list_items
  listed_member = refl

  listed_length : listed (modes_in (key length_name 2 ∷ [])) ≡ length_modes
  unfolding list_items
  listed_length = refl

  listed_reverse : listed (modes_in (key reverse_name 2 ∷ [])) ≡ reverse_modes
  unfolding list_items
  listed_reverse = refl

  listed_onto : listed (modes_in (key list_reverse_onto_name 3 ∷ [])) ≡ onto_modes
  unfolding list_items
  listed_onto = refl

  listed_clauses : listed clauses_in ≡ file_clauses list_items
  unfolding list_items
  listed_clauses = refl

-- its declarations, a mode and a clause stand among its items

append_among : IsAmong append_declaration list_items
unfolding list_items
append_among = inr (inl refl)

append_mode-among : IsAmong append_mode list_items
unfolding list_items
append_mode-among = inr (inr (inl refl))

append_nil-among : IsAmong append_nil list_items
unfolding list_items
append_nil-among = inr (inr (inr (inr (inl refl))))

member_among : IsAmong member_declaration list_items
unfolding list_items
member_among = inr (inr (inr (inr (inr (inr (inl refl))))))

member_mode-among : IsAmong member_mode list_items
unfolding list_items
member_mode-among = inr (inr (inr (inr (inr (inr (inr (inr (inl refl))))))))

length_among : IsAmong length_declaration list_items
unfolding list_items
length_among = inr (inr (inr (inr (inr (inr (inr (inr (inr (inr (inr (inl refl)))))))))))

reverse_among : IsAmong reverse_declaration list_items
unfolding list_items
reverse_among = inr (inr (inr (inr (inr (inr (inr (inr (inr (inr (inr (inr (inr (inr (inl refl))))))))))))))

onto_among : IsAmong onto_declaration list_items
unfolding list_items
onto_among = inr (inr (inr (inr (inr (inr (inr (inr (inr (inr (inr (inr (inr (inr (inr (inr (inl refl))))))))))))))))

-- The clauses of a predicate in a module are those of the unit, and its number there has its modes.
pub record StandsInList (known : Module) (declared : PredDecl) : Type 0 where
  pub clauses : clauses_for known.clauses declared ≡ clauses_for (file_clauses list_items) declared
  pub modes : modes_of known.preds (number_of known declared.name (length declared.args)) ≡ declared.modes

-- a predicate of the file is of no unit
pub own_unit : (names : List (List ℕ)) (all : List Entry) (one : PredDecl) → IsAmong one (flat_map (pred_decls names (own_entries all)) (own_entries all)) → one.unit ≡ None
own_unit names all one among =
    let from = flat_mapped (pred_decls names (own_entries all)) one (own_entries all) among in
    declared_unit names (own_entries all) from.from.unit from.from.span from.from.item one from.inside ∙ none from.from.unit (own_is from.from all from.among)
  where
    none : (unit : Option ℕ) → is_none unit ≡ true → unit ≡ None
    none None is = refl
    none (Some found) is = absurd cc

-- A predicate of a unit comes from the unit `list`, all of whose items are entries.
pub predicate_there : (names : List (List ℕ)) (terms : List Term) (one : PredDecl) → IsAmong one (flat_map (pred_decls names (unit_items (entries library_items terms))) (unit_items (entries library_items terms)))
    → (place : Place) × ((term : Term) → IsAmong term list_items → IsAmong (unit_entry place list_name term) (entries library_items terms))
predicate_there names terms one among =
    let made = pred_decls names (unit_items (entries library_items terms)) in
    list_there made (λ place unit. other_units made place unit refl refl) terms one among

-- Given are names behind the constants and the items of a file without a fault, which imports the unit `list`.
module _ (behind : List (List ℕ)) (terms : List Term) (faultless : HasNoFault (fixed_names ++ behind) terms (entries library_items terms))
    (place : Place) (whole : (term : Term) → IsAmong term list_items → IsAmong (unit_entry place list_name term) (entries library_items terms)) where
  abbrev names : List (List ℕ)
  names = fixed_names ++ behind

  abbrev all : List Entry
  all = entries library_items terms

  abbrev known : Module
  known = module_of names terms all

  abbrev own_preds : List PredDecl
  own_preds = flat_map (pred_decls names (own_entries all)) (own_entries all)

  abbrev own_clauses : List Clause
  own_clauses = flat_map clauses_in (own_entries all)

  -- a clause of the file has its declaration in the file
  clause_declared : (clause : Clause) → IsAmong clause own_clauses → declares_predicate all (key_of clause.head) ≡ true
  clause_declared clause among =
      let from = flat_mapped clauses_in clause (own_entries all) among in
      let own = own_is from.from all from.among in
      let split = split_at from.from all (own_among from.from all from.among) in
      let kept : (is_own from.from && is_alone (own_name terms) all from.from.item) ≡ false =
      never (is_own from.from && is_alone (own_name terms) all from.from.item) (λ lonely.
      faultless clauses_phase Undeclared Plain (place_at from.from) (alone (place_at from.from)
      (record { front = split.0; item = from.from; back = split.1; whole = split.2; passes = lonely; there = refl })))
      in
      second_true (is_foreign (own_name terms) clause.head) (declares_predicate all (key_of clause.head))
      (ap (is_alone (own_name terms) all) (sym (clause_item clause from.from.span from.from.item from.inside))
      ∙ ap (λ (b : Bool). b && is_alone (own_name terms) all from.from.item) (sym own) ∙ kept)

  -- Given is a predicate that an item of the unit declares: the file has none of its name and number of arguments, and no clause for it.
  module _ (term : Term) (among : IsAmong term list_items) (declared : PredDecl)
      (has : list_any (is_key (key declared.name (length declared.args))) (predicates_of (item_of term)) ≡ true) where
    foreign : (entry : Entry) → IsAmong entry all → is_own entry ≡ true → list_any (is_key (key declared.name (length declared.args))) (predicates_of entry.item) ≡ true → ⊥
    foreign entry there own declares =
        let same = unique predicates_of (key declared.name (length declared.args)) all
        (λ at again. faultless doubles_phase DeclaredTwice Plain at (double at (predicate_again at again)))
        entry (unit_entry place list_name term) there (whole term among) declares has
        in
        let wrong : true ≡ false = sym own ∙ ap is_own same in
        cc

    no_predicate : (division_by_zero_name == declared.name) ≡ false → (one : PredDecl) → IsAmong one own_preds → is_predicate known.name declared.name None (length declared.args) one ≡ false
    no_predicate other one there = never (is_predicate known.name declared.name None (length declared.args) one) (λ passes.
        let from = flat_mapped (pred_decls names (own_entries all)) one (own_entries all) there in
        foreign from.from (own_among from.from all from.among) (own_is from.from all from.among)
        (predicate_key names known.name declared.name (length declared.args) other (own_entries all) from.from.unit from.from.span from.from.item one from.inside passes))

    no_clause : (clause : Clause) → IsAmong clause own_clauses → is_head declared clause.head ≡ false
    no_clause clause there = never (is_head declared clause.head) (λ is.
        let keys = key_of-head declared clause.head is in
        let found = passes_one (λ (entry : Entry). is_own entry && are_keys (key_of clause.head) (predicates_of entry.item)) all (clause_declared clause there) in
        let parts = and_parts (is_own found.0) (are_keys (key_of clause.head) (predicates_of found.0.item)) found.2 in
        foreign found.0 found.1 parts.0
        (are_keys-any (key declared.name (length declared.args)) (predicates_of found.0.item) (ap (λ (k : List Key). are_keys k (predicates_of found.0.item)) (sym keys) ∙ parts.1)))

  -- what all items of units declare is what those of the unit `list` declare

  abbrev those : List Entry
  those = unit_items all

  once : {B : Type 0} (made : Entry → List B) → ((at : Place) (unit : ℕ) → made (unit_entry at unit bool_type) ≡ []) → ((at : Place) (unit : ℕ) → made (unit_entry at unit maybe_type) ≡ [])
      → (term : Term) → IsAmong term list_items → is_empty (made (unit_entry place list_name term)) ≡ false → (one : List B)
      → ((at : Place) → flat_map made (map (unit_entry at list_name) list_items) ≡ one) → flat_map made those ≡ one
  once made bool maybe term among some one is =
      let found = listed_once made (λ at unit. other_units made at unit (bool at unit) (maybe at unit)) terms place whole term among some in
      found.1 ∙ is found.0

  abbrev declared_for : ℕ → ℕ → List ModeDecl
  declared_for name arity = flat_map (modes_in (key name arity ∷ [])) those

  append_is : declared_for append_name 3 ≡ append_modes
  append_is = once (modes_in (key append_name 3 ∷ [])) (λ at unit. refl) (λ at unit. refl) append_mode append_mode-among refl append_modes (listed_append behind those)

  member_is : declared_for member_name 2 ≡ member_modes
  member_is = once (modes_in (key member_name 2 ∷ [])) (λ at unit. refl) (λ at unit. refl) member_mode member_mode-among refl member_modes (listed_member behind those)

  length_is : declared_for length_name 2 ≡ length_modes
  length_is = once (modes_in (key length_name 2 ∷ [])) (λ at unit. refl) (λ at unit. refl) length_declaration length_among refl length_modes (listed_length behind those)

  reverse_is : declared_for reverse_name 2 ≡ reverse_modes
  reverse_is = once (modes_in (key reverse_name 2 ∷ [])) (λ at unit. refl) (λ at unit. refl) reverse_declaration reverse_among refl reverse_modes (listed_reverse behind those)

  onto_is : declared_for list_reverse_onto_name 3 ≡ onto_modes
  onto_is = once (modes_in (key list_reverse_onto_name 3 ∷ [])) (λ at unit. refl) (λ at unit. refl) onto_declaration onto_among refl onto_modes (listed_onto behind those)

  clauses_are : flat_map clauses_in those ≡ file_clauses list_items
  clauses_are = once clauses_in (λ at unit. refl) (λ at unit. refl) append_nil append_nil-among refl (file_clauses list_items) (listed_clauses behind those)

  pub predicates_are : flat_map (pred_decls names those) those ≡ list_predicates
  predicates_are =
      once (pred_decls names those) (λ at unit. refl) (λ at unit. refl) append_declaration append_among refl _ (listed_predicates behind those)
      ∙ ap (λ (m : List ModeDecl). five m (declared_for member_name 2) (declared_for length_name 2) (declared_for reverse_name 2) (declared_for list_reverse_onto_name 3)) append_is
      ∙ ap (λ (m : List ModeDecl). five append_modes m (declared_for length_name 2) (declared_for reverse_name 2) (declared_for list_reverse_onto_name 3)) member_is
      ∙ ap (λ (m : List ModeDecl). five append_modes member_modes m (declared_for reverse_name 2) (declared_for list_reverse_onto_name 3)) length_is
      ∙ ap (λ (m : List ModeDecl). five append_modes member_modes length_modes m (declared_for list_reverse_onto_name 3)) reverse_is
      ∙ ap (five append_modes member_modes length_modes reverse_modes) onto_is

  stands : (term : Term) → IsAmong term list_items → (declared : PredDecl) → list_any (is_key (key declared.name (length declared.args))) (predicates_of (item_of term)) ≡ true
      → (division_by_zero_name == declared.name) ≡ false → find (is_predicate known.name declared.name None (length declared.args)) list_predicates ≡ Some declared → StandsInList known declared
  stands term among declared has other found =
      let is_it = is_predicate known.name declared.name None (length declared.args) in
      record {
        clauses =
            filter-append (λ (clause : Clause). is_head declared clause.head) own_clauses (flat_map clauses_in those)
            ∙ ap₂ (λ (a b : List Clause). a ++ b) (none_pass (λ (clause : Clause). is_head declared clause.head) own_clauses (no_clause term among declared has))
            (ap (filter (λ (clause : Clause). is_head declared clause.head)) clauses_are);
        modes = ap modes_found (
            sym (find_at is_it known.preds)
            ∙ find_behind is_it own_preds (flat_map (pred_decls names those) those) (no_predicate term among declared has other)
            ∙ ap (find is_it) predicates_are
            ∙ found);
      }

  pub append_stands : StandsInList known (append_predicate append_modes)
  append_stands = stands append_declaration append_among (append_predicate append_modes) refl refl refl

  pub member_stands : StandsInList known (member_predicate member_modes)
  member_stands = stands member_declaration member_among (member_predicate member_modes) refl refl refl

  pub length_stands : StandsInList known (length_predicate length_modes)
  length_stands = stands length_declaration length_among (length_predicate length_modes) refl refl refl

  pub reverse_stands : StandsInList known (reverse_predicate reverse_modes)
  reverse_stands = stands reverse_declaration reverse_among (reverse_predicate reverse_modes) refl refl refl

  pub onto_stands : StandsInList known (onto_predicate onto_modes)
  onto_stands = stands onto_declaration onto_among (onto_predicate onto_modes) refl refl refl
