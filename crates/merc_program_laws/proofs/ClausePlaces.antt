-- The clauses of a file stand one behind the other, the parts of each before the next, and before those of the units.
use Rattle.std.proofs.Common.{◌≡◌, ℕ, ◌≤◌, ◌<◌, Bool, true, false, List, [], ◌∷◌, ◌++◌, map, Option, Some, None, if◌then◌else◌, refl, ap, ◌∙◌, arith}
use Rattle.std.specs.List.{flat_map}
use Rattle.merc_base.specs.declared.place.Place.{Place}
use Rattle.merc_base.specs.declared.place.Span.{Span}
use Rattle.merc_tree.specs.Term.{Term, Variable, Integer, Text, Application, none, more, span_of}
use Rattle.merc_tree.specs.declared.declarations.Clause.{Clause}
use Rattle.merc_tree.specs.declared.declarations.Module.{Module}
use Rattle.merc_terms.specs.Texts.{ReadsItems}
use Rattle.merc_operands.specs.Operands.{plain_name}
use Rattle.merc_item_forms.specs.Items.{Item, Opening, Ending, Section, Import, TypeItem, PredicateItem, ModeItem, ClauseItem, OtherType, OtherFunction, OtherGrammar, OtherDeclaration, Formless, opening, ending, type_item, with_category, unary, wider, declaration, item_of, place_of}
use Rattle.merc_item_forms.specs.Forms.{is_in}
use Rattle.merc_entries.specs.Entries.{Entry, entries, entries_from, imports, own_entries, unit_entries, with_units}
use Rattle.merc_items.specs.ModuleOf.{clauses_in, clauses_of, unit_items}
use Rattle.merc_items.specs.ReadModule.{IsModule}
use Rattle.merc_items.proofs.Rising.{tokens-start}
use Rattle.merc_flat_form.specs.FlatForm.{argument_terms}
use Rattle.merc_program_laws.specs.ClauseFaults.{file_clauses}
use Rattle.merc_program_laws.proofs.TermPlaces.{Lies, LieAll, root_within, LieFrom, no_term, a_term, items_lie}

-- Given are the byte from which the parts of an item begin, and one before which they do.
module _ (from to : ℕ) where
  abbrev pub BodyLies : Option Term → Type 0
  BodyLies None = Unit {0}
  BodyLies (Some body) = Lies from to body

  -- the parts of a clause, where the item is one
  abbrev pub ItemLies : Item → Type 0
  ItemLies (ClauseItem head body) = Lies from to head × BodyLies body
  ItemLies other = Unit {0}

  either_item : (b : Bool) (one other : Item) → ItemLies one → ItemLies other → ItemLies (if b then one else other)
  either_item true one other lies lies' = lies
  either_item false one other lies lies' = lies'

  opening_lies : (name : Option ℕ) → ItemLies (opening name)
  opening_lies None = tt
  opening_lies (Some name) = tt

  ending_lies : (name : Option ℕ) → ItemLies (ending name)
  ending_lies None = tt
  ending_lies (Some name) = tt

  type_lies : (term : Term) → ItemLies (type_item term)
  type_lies (Application name None (more first (more second none)) span) = search either_item depth 10
  type_lies other = tt

  category_lies : (make : Term → Option Term → Item) → ((term : Term) (category : Option Term) → ItemLies (make term category)) → (term : Term) → ItemLies (with_category make term)
  category_lies make lies (Application name None (more first (more second none)) span) =
      let with = lies first (Some second) in
      let without = lies (Application name None (more first (more second none)) span) None in
      search (either_item, with, without)
  category_lies make lies other = lies _ None

  wider_lies : (word : ℕ) → ItemLies (wider word)
  wider_lies word = search either_item depth 10

  unary_lies : (word : ℕ) (argument : Term) → ItemLies (unary word argument)
  unary_lies word argument =
      let of_mode = category_lies ModeItem (λ term category. tt) argument in
      let of_predicate = category_lies PredicateItem (λ term category. tt) argument in
      search (either_item, opening_lies (plain_name argument), ending_lies (plain_name argument), type_lies argument, of_mode, of_predicate, wider_lies word) depth 20 fits 4000

  declaration_lies : (term : Term) → ItemLies (declaration term)
  declaration_lies (Application word None none span) = search (either_item, wider_lies word) depth 10
  declaration_lies (Application word None (more argument none) span) = unary_lies word argument
  declaration_lies (Application word None (more first (more second rest)) span) = wider_lies word
  declaration_lies (Application word (Some qualifier) arguments span) = tt
  declaration_lies (Variable name span) = tt
  declaration_lies (Integer value span) = tt
  declaration_lies (Text name span) = tt

  item_lies : (term : Term) → Lies from to term → ItemLies (item_of term)
  item_lies (Application name None (more only none) span) lies =
      let fact : Lies from to (Application name None (more only none) span) × Unit {0} = (lies, tt) in
      search (either_item, declaration_lies only, fact)
  item_lies (Application name None (more first (more second none)) span) lies =
      let rule : Lies from to first × Lies from to second = (lies.1.0, lies.1.1.0) in
      let fact : Lies from to (Application name None (more first (more second none)) span) × Unit {0} = (lies, tt) in
      search (either_item, rule, fact)
  item_lies (Application name None none span) lies = (lies, tt)
  item_lies (Application name None (more first (more second (more third rest))) span) lies = (lies, tt)
  item_lies (Application name (Some qualifier) arguments span) lies = (lies, tt)
  item_lies (Variable name span) lies = (lies, tt)
  item_lies (Integer value span) lies = (lies, tt)
  item_lies (Text name span) lies = (lies, tt)

  arguments_lie : (term : Term) → Lies from to term → LieAll from to (argument_terms term)
  arguments_lie (Application name qualifier arguments span) lies = lies.1
  arguments_lie (Variable name span) lies = tt
  arguments_lie (Integer value span) lies = tt
  arguments_lie (Text name span) lies = tt

-- a clause that begins at a byte, its parts before another
pub record ClauseLies (from to : ℕ) (clause : Clause) : Type 0 where
  pub begins : clause.span.first ≡ from
  pub ends : from < to
  pub head : LieAll from to (argument_terms clause.head)
  pub body : BodyLies from to clause.body

-- clauses one behind the other from a byte on, the parts of each before the next
pub data ClausesLie : ℕ → List Clause → Type 0 where
  no_clause : (at : ℕ) → ClausesLie at []
  a_clause : (at from to : ℕ) (first : Clause) (rest : List Clause) → at ≤ from → ClauseLies from to first → ClausesLie to rest → ClausesLie at (first ∷ rest)

clauses_later : (at from : ℕ) (clauses : List Clause) → from ≤ at → ClausesLie at clauses → ClausesLie from clauses
clauses_later at from _ less (no_clause _) = no_clause from
clauses_later at from _ less (a_clause _ first to clause rest least lies others) = a_clause from first to clause rest (omega (arith, less, least)) lies others

-- the clause of an item, if it is one, before others
item_clauses : (at to : ℕ) (span : Span) (item : Item) (others : List Clause) → at ≤ span.first → span.first < to → ItemLies span.first to item → ClausesLie to others → ClausesLie at (clauses_of span item ++ others)
item_clauses at to span (ClauseItem head body) others least below lies behind =
    a_clause at span.first to _ others least (record { begins = refl; ends = below; head = arguments_lie span.first to head lies.0; body = lies.1 }) behind
item_clauses at to span (Opening name) others least below lies behind = clauses_later to at others (omega (arith, least, below)) behind
item_clauses at to span (Ending name) others least below lies behind = clauses_later to at others (omega (arith, least, below)) behind
item_clauses at to span Section others least below lies behind = clauses_later to at others (omega (arith, least, below)) behind
item_clauses at to span (Import units) others least below lies behind = clauses_later to at others (omega (arith, least, below)) behind
item_clauses at to span (TypeItem head constructors) others least below lies behind = clauses_later to at others (omega (arith, least, below)) behind
item_clauses at to span (PredicateItem head category) others least below lies behind = clauses_later to at others (omega (arith, least, below)) behind
item_clauses at to span (ModeItem head category) others least below lies behind = clauses_later to at others (omega (arith, least, below)) behind
item_clauses at to span (OtherType head) others least below lies behind = clauses_later to at others (omega (arith, least, below)) behind
item_clauses at to span OtherFunction others least below lies behind = clauses_later to at others (omega (arith, least, below)) behind
item_clauses at to span OtherGrammar others least below lies behind = clauses_later to at others (omega (arith, least, below)) behind
item_clauses at to span OtherDeclaration others least below lies behind = clauses_later to at others (omega (arith, least, below)) behind
item_clauses at to span Formless others least below lies behind = clauses_later to at others (omega (arith, least, below)) behind

file_clauses-lie : (at : ℕ) (terms : List Term) → LieFrom at terms → ClausesLie at (file_clauses terms)
file_clauses-lie at _ (no_term _) = no_clause at
file_clauses-lie at _ (a_term _ to term rest least lies others) =
    let below = (root_within (span_of term).first to term lies).1 in
    item_clauses at to (span_of term) (item_of term) (file_clauses rest) least below (item_lies (span_of term).first to term lies) (file_clauses-lie to rest others)

-- the clauses of a file that is read
pub read_clauses-lie : (before after : List (List ℕ)) (text : List ℕ) (terms : List Term) → ReadsItems before after text terms → ClausesLie 0 (file_clauses terms)
read_clauses-lie before after text terms reads =
    file_clauses-lie 0 terms (items_lie 0 reads.tokens terms reads.items (tokens-start after text 0 _ reads.read.spelled reads.tokens reads.read.has.all reads.read.named))

-- The clauses of a module: those of the file, and behind them those of the units.

abbrev unit_list : Place → ℕ → List Term → List Entry
unit_list place unit terms = map (λ term. record { item = item_of term; span = span_of term; place = place; unit = Some unit }) terms

own_unit : (place : Place) (unit : ℕ) (terms : List Term) (behind others : List Entry) → own_entries ((unit_list place unit terms ++ behind) ++ others) ≡ own_entries (behind ++ others)
own_unit place unit [] behind others = refl
own_unit place unit (term ∷ terms) behind others = own_unit place unit terms behind others

own_units : (items : ℕ → List Term) (place : Place) (seen units : List ℕ) (others : List Entry) → own_entries (unit_entries items place seen units ++ others) ≡ own_entries others
own_units items place seen [] others = refl
own_units items place seen (unit ∷ rest) others = by (is_in unit seen) (own_units items place seen rest others) (own_units items place (seen ++ unit ∷ []) rest others)
  where
    by : (b : Bool) → own_entries (unit_entries items place seen rest ++ others) ≡ own_entries others → own_entries (unit_entries items place (seen ++ unit ∷ []) rest ++ others) ≡ own_entries others
        → own_entries ((if b then unit_entries items place seen rest else unit_list place unit (items unit) ++ unit_entries items place (seen ++ unit ∷ []) rest) ++ others) ≡ own_entries others
    by true known new = known
    by false known new = own_unit place unit (items unit) (unit_entries items place (seen ++ unit ∷ []) rest) others ∙ new

own_clauses : (items : ℕ → List Term) (seen : List ℕ) (terms : List Term) → flat_map clauses_in (own_entries (entries_from items seen terms)) ≡ file_clauses terms
own_clauses items seen [] = refl
own_clauses items seen (term ∷ rest) =
    ap (λ (l : List Clause). clauses_of (span_of term) (item_of term) ++ l)
    (ap (flat_map clauses_in) (own_units items (place_of term) seen (imports (item_of term)) (entries_from items (with_units seen (imports (item_of term))) rest))
    ∙ own_clauses items (with_units seen (imports (item_of term))) rest)

pub module_clauses : (before after : List (List ℕ)) (text : List ℕ) (terms : List Term) (found : Module) (is : IsModule before after text terms found)
    → found.clauses ≡ file_clauses terms ++ flat_map clauses_in (unit_items (entries is.is.items terms))
module_clauses before after text terms found is =
    ap (λ (m : Module). m.clauses) is.is.same
    ∙ ap (λ (l : List Clause). l ++ flat_map clauses_in (unit_items (entries is.is.items terms))) (own_clauses is.is.items [] terms)
