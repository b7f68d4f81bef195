-- Modes that are kept by the keys of their predicates.
use Rattle.std.proofs.Common.{◌≡◌, Bool, true, false, cond, ◌&&◌, Option, Some, None, List, [], ◌∷◌, ◌++◌, refl, sym, ap, ◌∙◌, if◌then◌else◌}
use Rattle.std.specs.BTreeMap.{get}
use Rattle.std.specs.Ordering.{is_eq}
use Rattle.std.proofs.lemmas.List.{append-nil}
use Rattle.merc_base.specs.declared.place.Span.{Span}
use Rattle.merc_tree.specs.declared.declarations.ModeDecl.{ModeDecl}
use Rattle.merc_items.specs.declared.declared_modes.ModeTable.{ModeTable}
use Rattle.merc_items.specs.DeclaredModes.{entry_modes, item_modes, kept_modes, listed, moded_predicate}
use Rattle.merc_base.specs.declared.groups.Key.{Key}
use Rattle.merc_entries.specs.Entries.{Entry, is_key, key_of, has_mode, are_keys}
use Rattle.merc_item_forms.specs.Items.{Item, Opening, Ending, Section, Import, TypeItem, PredicateItem, ModeItem, ClauseItem, OtherType, OtherFunction, OtherGrammar, OtherDeclaration, Formless}
use Rattle.merc_items.specs.ModuleOf.{modes_in, modes_in_item}
use Rattle.merc_entries.proofs.KeyLaws.{compare_keys, same-test, key-swap, test-equal, lookup-same, lookup-nothing, lookup-many}

abbrev Group : Type 0
Group = List ModeDecl

-- a group that is taken out and put back with more
at_key : (key found : Key) (group : Group) (more : List ModeDecl) (before middle after : Option Group) → middle ≡ cond (is_eq (compare_keys key found)) None before
    → after ≡ cond (is_eq (compare_keys key found)) (Some group) middle → (key ≡ found → group ≡ listed before ++ more)
    → (test : Bool) → is_eq (compare_keys key found) ≡ test → listed after ≡ (if test then listed before ++ more else listed before)
at_key key found group more before middle after removed inserted added true test =
    let now : after ≡ Some group = inserted ∙ rw test refl in
    rw now (added (test-equal key found test))
at_key key found group more before middle after removed inserted added false test =
    let now : after ≡ before = inserted ∙ rw test (removed ∙ rw test refl) in
    rw now refl

pub one_more : (before middle after : ModeTable) (key : Key) (more : List ModeDecl) (old new : Group)
    → ((other : Key) → get compare_keys middle.by_key other ≡ cond (is_eq (compare_keys key other)) None (get compare_keys before.by_key other))
    → ((other : Key) → get compare_keys after.by_key other ≡ cond (is_eq (compare_keys key other)) (Some new) (get compare_keys middle.by_key other))
    → old ≡ listed (get compare_keys before.by_key key) → new ≡ old ++ more
    → (found : List Key) → kept_modes after found ≡ (if are_keys found (key ∷ []) then kept_modes before found ++ more else kept_modes before found)
one_more before middle after key more old new removed inserted old_is new_is [] = rw (lookup-nothing after.by_key.entries, lookup-nothing before.by_key.entries) refl
one_more before middle after key more old new removed inserted old_is new_is (a ∷ b ∷ rest) = rw (lookup-many a b rest after.by_key.entries, lookup-many a b rest before.by_key.entries) refl
one_more before middle after key more old new removed inserted old_is new_is (a ∷ []) =
    let found : Key = record { name = a.name; arity = a.arity } in
    let there : Option Group = get compare_keys before.by_key found in
    let added : key ≡ found → new ≡ listed there ++ more = λ same.
    new_is ∙ ap (λ l. l ++ more) (old_is ∙ ap (λ (k : Key). listed (get compare_keys before.by_key k)) same) in
    let whole : listed (get compare_keys after.by_key found) ≡ (if is_key a key then listed there ++ more else listed there) =
    at_key key found new more there (get compare_keys middle.by_key found) (get compare_keys after.by_key found) (removed found) (inserted found) added
    (is_key a key) (same-test key found ∙ key-swap key a) in
    ap listed (sym (lookup-same found after.by_key.entries)) ∙ whole
    ∙ ap (λ (o : Option Group). if is_key a key then listed o ++ more else listed o) (lookup-same found before.by_key.entries)

-- what an item declares for a predicate

no_key : (predicate : List Key) → are_keys predicate [] ≡ false
no_key [] = refl
no_key (a ∷ []) = refl
no_key (a ∷ b ∷ rest) = refl

without_key : (predicate : List Key) (modes : List ModeDecl) → [] ≡ (if are_keys predicate [] then modes else [])
without_key predicate modes = ap (λ b. if b then modes else []) (sym (no_key predicate))

with_or_without : (predicate keys : List Key) (test : Bool) (modes : List ModeDecl) → (if are_keys predicate keys && test then modes else []) ≡ (if are_keys predicate (if test then keys else []) then modes else [])
with_or_without predicate keys true modes = ap (λ b. if b then modes else []) (and_true (are_keys predicate keys))
  where
    and_true : (b : Bool) → (b && true) ≡ b
    and_true true = refl
    and_true false = refl
with_or_without predicate keys false modes = ap (λ b. if b then modes else []) (and_false (are_keys predicate keys) ∙ sym (no_key predicate))
  where
    and_false : (b : Bool) → (b && false) ≡ false
    and_false true = refl
    and_false false = refl

pub modes_by_key : (predicate : List Key) (span : Span) (item : Item) → modes_in_item predicate span item ≡ (if are_keys predicate (moded_predicate item) then item_modes span item else [])
modes_by_key predicate span (PredicateItem head category) = with_or_without predicate (key_of head) (has_mode head category) (item_modes span (PredicateItem head category))
modes_by_key predicate span (ModeItem head category) = refl
modes_by_key predicate span (Opening name) = without_key predicate []
modes_by_key predicate span (Ending name) = without_key predicate []
modes_by_key predicate span Section = without_key predicate []
modes_by_key predicate span (Import units) = without_key predicate []
modes_by_key predicate span (TypeItem head constructors) = without_key predicate []
modes_by_key predicate span (ClauseItem head body) = without_key predicate []
modes_by_key predicate span (OtherType head) = without_key predicate []
modes_by_key predicate span OtherFunction = without_key predicate []
modes_by_key predicate span OtherGrammar = without_key predicate []
modes_by_key predicate span OtherDeclaration = without_key predicate []
modes_by_key predicate span Formless = without_key predicate []

-- one entry more of a part
if_more : (b : Bool) (before more now : List ModeDecl) → now ≡ (if b then before ++ more else before) → now ≡ before ++ (if b then more else [])
if_more true before more now now_is = now_is
if_more false before more now now_is = now_is ∙ sym (append-nil before)

pub modes_more : (predicate : List Key) (entry : Entry) (before now : List ModeDecl) → now ≡ (if are_keys predicate (moded_predicate entry.item) then before ++ entry_modes entry else before)
    → now ≡ before ++ modes_in predicate entry
modes_more predicate entry before now now_is = if_more _ before (entry_modes entry) now now_is ∙ ap (λ l. before ++ l) (sym (modes_by_key predicate entry.span entry.item))
