-- The clauses of library units have no fault.
use Rattle.std.proofs.Common.{◌≡◌, ℕ, zero, suc, ◌⊎◌, inl, inr, ◌==◌, Bool, true, false, List, [], ◌∷◌, ◌++◌, slice_get, Some, refl, sym, ap, ap₂, subst, ◌∙◌, eqb-true}
use Rattle.std.specs.Bool.{if◌then◌else◌}
use Rattle.std.specs.List.{flat_map}
use Rattle.merc_base.specs.Names.{bool_name, fixed_names, list_name, maybe_name, HoldsFixed}
use Rattle.merc_base.specs.declared.refusal.Refusal.{Refusal}
use Rattle.merc_base.specs.declared.refusal.Rule.TheVariants.{DeclaredTwice}
use Rattle.merc_base.specs.declared.refusal.Detail.TheVariants.{Plain}
use Rattle.merc_base.proofs.NameLaws.{slice_get-front}
use Rattle.merc_tree.specs.Term.{Term, span_of}
use Rattle.merc_tree.specs.declared.declarations.Clause.{Clause}
use Rattle.merc_tree.specs.declared.declarations.Module.{Module}
use Rattle.merc_terms.proofs.TextLaws.{ReadsItems-distinct, ReadsItems-grows}
use Rattle.merc_item_forms.specs.Items.{item_of}
use Rattle.merc_entries.specs.DoubleFaults.{constructor_again, predicate_again}
use Rattle.merc_entries.specs.Entries.{Entry, entries}
use Rattle.merc_entries.specs.LibraryItems.{bool_items, library_items, list_items, maybe_items}
use Rattle.merc_entries.specs.Joining.{unit_entry}
use Rattle.merc_entries.proofs.LibraryReads.{units_are-library}
use Rattle.merc_items.specs.ModuleOf.{clauses_in, clauses_of, module_of, unit_items}
use Rattle.merc_items.specs.Phases.{doubles_phase, double, HasNoFault}
use Rattle.merc_items.specs.ReadModule.{IsModule}
use Rattle.merc_program_laws.specs.ClauseFaults.{IsAmong, HasClauseFault, goal, names as names_fault, types, IsFirstClauseFault, IsProcedureFault, file_clauses}
use Rattle.merc_program_laws.specs.UnitClauses.{IsFaultless, IsFileFault, IsTable, TellsFileFault, UnitsAreFaultless}
use Rattle.merc_program_laws.proofs.ClausePlaces.{module_clauses}
use Rattle.merc_program_laws.proofs.FirstFaults.{all_at, among_either, goal_none, name_none, tells_first, type_none}
use Rattle.merc_program_laws.proofs.ListClauses.{list_faultless}
use Rattle.merc_program_laws.proofs.ListLookups.{knows_list}
use Rattle.merc_program_laws.proofs.UnitEntries.{ComesFrom, comes_from, flat_among, flat_mapped, unit_among}

-- a table that holds the constants begins with them
front_of : (front whole : List (List ℕ)) → ((number : ℕ) (text : List ℕ) → slice_get front number ≡ Some text → slice_get whole number ≡ Some text) → (back : List (List ℕ)) × (whole ≡ front ++ back)
front_of [] whole holds = (whole, refl)
front_of (text ∷ front) [] holds = let wrong = holds zero text refl in absurd cc
front_of (text ∷ front) (other ∷ whole) holds =
    let first = holds zero text refl in
    let same : other ≡ text = cc in
    let behind = front_of front whole (λ number kept is. holds (suc number) kept is) in
    (behind.0, ap₂ (λ (t : List ℕ) (l : List (List ℕ)). t ∷ l) same behind.1)

-- an item of a unit that is a clause is one of the unit `list`

clause_in : (term : Term) (clause : Clause) (all : List Term) → ((other : Term) → IsAmong other all → clauses_of (span_of other) (item_of other) ≡ []) → IsAmong term all
    → IsAmong clause (clauses_of (span_of term) (item_of term)) → ⊥
clause_in term clause all none among inside = subst (IsAmong clause) (none term among) inside

no_bool_clause : (other : Term) → IsAmong other bool_items → clauses_of (span_of other) (item_of other) ≡ []
unfolding bool_items
no_bool_clause other (inl same) = ap (λ (t : Term). clauses_of (span_of t) (item_of t)) same
no_bool_clause other (inr among) = absurd among

no_maybe_clause : (other : Term) → IsAmong other maybe_items → clauses_of (span_of other) (item_of other) ≡ []
unfolding maybe_items
no_maybe_clause other (inl same) = ap (λ (t : Term). clauses_of (span_of t) (item_of t)) same
no_maybe_clause other (inr among) = absurd among

of_list : (unit : ℕ) (term : Term) (clause : Clause) → IsAmong term (library_items unit) → IsAmong clause (clauses_of (span_of term) (item_of term)) → (unit ≡ list_name) × IsAmong term list_items
of_list unit term clause among inside = at_list (unit == list_name) refl among
  where
    at_maybe : (b : Bool) → IsAmong term (if b then maybe_items else []) → (unit ≡ list_name) × IsAmong term list_items
    at_maybe true there = absurd (clause_in term clause maybe_items no_maybe_clause there inside)
    at_maybe false there = absurd there

    at_bool : (b : Bool) → IsAmong term (if b then bool_items else if unit == maybe_name then maybe_items else []) → (unit ≡ list_name) × IsAmong term list_items
    at_bool true there = absurd (clause_in term clause bool_items no_bool_clause there inside)
    at_bool false there = at_maybe (unit == maybe_name) there

    at_list : (b : Bool) → (unit == list_name) ≡ b → IsAmong term (if b then list_items else if unit == bool_name then bool_items else if unit == maybe_name then maybe_items else []) → (unit ≡ list_name) × IsAmong term list_items
    at_list true is there = (eqb-true unit list_name is, there)
    at_list false is there = at_bool (unit == bool_name) there

-- Given are names behind the constants, and the items of a file and of the units, among which nothing is declared twice.
module _ (behind : List (List ℕ)) (terms : List Term) (items : ℕ → List Term) (same : (unit : ℕ) → library_items unit ≡ items unit)
    (faultless : HasNoFault (fixed_names ++ behind) terms (entries items terms)) where
  abbrev all : List Entry
  all = entries items terms

  abbrev Faultless : Clause → Type 0
  Faultless clause = IsFaultless (fixed_names ++ behind) (module_of (fixed_names ++ behind) terms all) clause

  of_entry : (entry : Entry) (from : ComesFrom items all entry) (clause : Clause) → IsAmong clause (clauses_in entry) → Faultless clause
  of_entry entry from clause inside =
      let stands = subst (λ (e : Entry). IsAmong clause (clauses_in e)) from.same inside in
      let list = of_list from.unit from.term clause (subst (IsAmong from.term) (sym (same from.unit)) from.among) stands in
      let whole : (term : Term) → IsAmong term list_items → IsAmong (unit_entry from.place list_name term) all =
      λ term among. subst (λ (unit : ℕ). IsAmong (unit_entry from.place unit term) all) list.0
      (from.whole term (subst (IsAmong term) (ap library_items (sym list.0) ∙ same from.unit) among))
      in
      let knows = knows_list behind terms all from.place whole
      (λ at again. faultless doubles_phase DeclaredTwice Plain at (double at (constructor_again at again)))
      (λ at again. faultless doubles_phase DeclaredTwice Plain at (double at (predicate_again at again)))
      in
      all_at Faultless clause (file_clauses list_items) (list_faultless behind (module_of (fixed_names ++ behind) terms all) knows)
      (flat_among (λ term. clauses_of (span_of term) (item_of term)) from.term clause list_items list.1 stands)

  of_units : (clause : Clause) → IsAmong clause (flat_map clauses_in (unit_items all)) → Faultless clause
  of_units clause among =
      let entry = flat_mapped clauses_in clause (unit_items all) among in
      let stands = unit_among entry.from all entry.among in
      of_entry entry.from (comes_from items all entry.from [] terms (λ other is. is) stands.1 stands.0) clause entry.inside

-- Behind the table are the constants first, and the units that a file imports are those of the library.
pub record HasLibrary (after : List (List ℕ)) (items : ℕ → List Term) : Type 0 where
  pub behind : List (List ℕ)
  pub front : after ≡ fixed_names ++ behind
  pub items_are : (unit : ℕ) → library_items unit ≡ items unit

pub has_library : (before after : List (List ℕ)) (text : List ℕ) (terms : List Term) (found : Module) → IsTable before → (is : IsModule before after text terms found) → HasLibrary after is.is.items
has_library before after text terms found table is =
    let grown = ReadsItems-grows before is.read_names text terms is.reads in
    let fixed : HoldsFixed is.read_names = record {
      text = λ number kept there. subst (λ (names : List (List ℕ)). slice_get names number ≡ Some kept) (sym grown.1) (slice_get-front before grown.0 number kept (table.fixed.text number kept there));
    } in
    let library = units_are-library is.read_names after is.is.items fixed (ReadsItems-distinct before text table.distinct is.read_names terms is.reads) is.is.units in
    let front = front_of fixed_names after (subst HoldsFixed library.same fixed).text in
    record { behind = front.0; front = front.1; items_are = library.items_are }

pub units_faultless : UnitsAreFaultless
units_faultless before after text terms found table is =
    let library = has_library before after text terms found table is in
    let faultless = subst (λ (names : List (List ℕ)). HasNoFault names terms (entries is.is.items terms)) library.front is.is.faultless in
    record {
      unit_clauses = flat_map clauses_in (unit_items (entries is.is.items terms));
      whole = module_clauses before after text terms found is;
      faultless = λ clause among.
          subst (λ (known : Module). IsFaultless after known clause) (sym is.is.same)
          (subst (λ (names : List (List ℕ)). IsFaultless names (module_of names terms (entries is.is.items terms)) clause) (sym library.front)
          (of_units library.behind terms is.is.items library.items_are faultless clause among));
    }

-- a faultless clause has no fault in any phase
no_fault : (names : List (List ℕ)) (known : Module) (clause : Clause) → IsFaultless names known clause → (phase : ℕ) (fault : Refusal) → HasClauseFault names known clause phase fault → ⊥
no_fault names known clause is _ fault (goal _ has) = goal_none names known clause is.form fault has
no_fault names known clause is _ fault (names_fault _ has) = name_none names known clause is.named fault has
no_fault names known clause is _ fault (types _ has) = type_none names known clause is.typed fault has

in_file : (before after : List (List ℕ)) (text : List ℕ) (terms : List Term) (found : Module) (told : Refusal) → IsTable before → IsModule before after text terms found
    → IsFirstClauseFault after terms found told → IsFileFault after terms found told
in_file before after text terms found told table is first =
    let units = units_faultless before after text terms found table is in
    elim (among_either first.clause (file_clauses terms) units.unit_clauses (subst (IsAmong first.clause) units.whole first.among)) as (λ _. IsFileFault after terms found told) [
      | inl own ↦ record { phase = first.phase; clause = first.clause; among = own; fault = first.fault }
      | inr unit ↦ absurd (no_fault after found first.clause (units.faultless first.clause unit) first.phase told first.fault)
    ]

pub tells_file_fault : TellsFileFault
tells_file_fault before after text terms found told table is refuses =
    elim (tells_first before after text terms found told is refuses) as (λ _. IsFileFault after terms found told ⊎ IsProcedureFault after terms found told) [
      | inl first ↦ inl (in_file before after text terms found told table is first)
      | inr procedures ↦ inr procedures
    ]
