-- The modes counted by keys, against those that the entries declare.
use Rattle.std.proofs.Common.{◌≡◌, ℕ, ◌+◌, Bool, true, false, cond, not, ◌||◌, ◌&&◌, Option, Some, List, [], ◌∷◌, refl, sym, ◌∙◌, ap, arith, nat_lt, zero-add}
use Rattle.std.specs.Bool.{if◌then◌else◌}
use Rattle.std.specs.List.{list_any, count_by}
use Rattle.std.specs.Map.{lookup}
use Rattle.std.specs.Option.{unwrap_or, is_some, is_none}
use Rattle.std.specs.Ordering.{is_eq}
use Rattle.std.specs.BTreeMap.{get}
use Rattle.std.proofs.lemmas.List.Sums.{sum_by-cons}
use Rattle.std.proofs.lemmas.Bool.Decides.{nat_tests}
use Rattle.merc_declared.specs.declared.mode_counts.ModeCount.{ModeCount}
use Rattle.merc_declared.specs.declared.mode_counts.ModeCounts.{ModeCounts}
use Rattle.merc_item_forms.specs.Items.{Item, Opening, Ending, Section, Import, TypeItem, PredicateItem, ModeItem, ClauseItem, OtherType, OtherFunction, OtherGrammar, OtherDeclaration, Formless}
use Rattle.merc_base.specs.declared.groups.Key.{Key}
use Rattle.merc_entries.specs.Entries.{Entry, key_of, is_key, has_mode, is_own, are_keys}
use Rattle.merc_declared.specs.ModeFaults.{is_mode_of, lacks_mode}
use Rattle.merc_declared.specs.ModeCounts.{no_modes, counted, with_mode, HoldsModes, lacks_mode_by}
use Rattle.merc_entries.proofs.KeyLaws.{compare_keys, is_found, same-test, key-swap, test-equal, lookup-same, lookup-nothing, lookup-many}

-- what an insertion leaves at a key

at-key : (key found : Key) (modes : ModeCount) (before after : Option ModeCount) (lacks_category : Bool) → after ≡ cond (is_eq (compare_keys key found)) (Some modes) before → (key ≡ found → modes ≡ with_mode (unwrap_or before no_modes) lacks_category) → (test : Bool) → is_eq (compare_keys key found) ≡ test → unwrap_or after no_modes ≡ (if test then with_mode (unwrap_or before no_modes) lacks_category else unwrap_or before no_modes)
at-key key found modes before after lacks_category updated added true test =
    let now : after ≡ Some modes = updated ∙ rw test refl in
    rw now (added (test-equal key found test))
at-key key found modes before after lacks_category updated added false test =
    let now : after ≡ before = updated ∙ rw test refl in
    rw now refl

pub counted-insert : (before after : ModeCounts) (key : Key) (modes : ModeCount) (lacks_category : Bool) (found : List Key) → ((other : Key) → get compare_keys after.by_key other ≡ cond (is_eq (compare_keys key other)) (Some modes) (get compare_keys before.by_key other)) → modes ≡ with_mode (counted before (key ∷ [])) lacks_category → counted after found ≡ (if are_keys found (key ∷ []) then with_mode (counted before found) lacks_category else counted before found)
counted-insert before after key modes lacks_category [] updated added = rw (lookup-nothing after.by_key.entries, lookup-nothing before.by_key.entries) refl
counted-insert before after key modes lacks_category (a ∷ b ∷ more) updated added = rw (lookup-many a b more after.by_key.entries, lookup-many a b more before.by_key.entries) refl
counted-insert before after key modes lacks_category (a ∷ []) updated added =
    let found : Key = record { name = a.name; arity = a.arity } in
    let tests : is_eq (compare_keys key found) ≡ is_key a key = same-test key found ∙ key-swap key a in
    let now : lookup (is_found (a ∷ [])) after.by_key.entries ≡ cond (is_eq (compare_keys key found)) (Some modes) (lookup (is_found (a ∷ [])) before.by_key.entries) =
    sym (lookup-same found after.by_key.entries) ∙ updated found ∙ ap (λ (old : Option ModeCount). cond (is_eq (compare_keys key found)) (Some modes) old) (lookup-same found before.by_key.entries) in
    let same : key ≡ found → modes ≡ with_mode (counted before (a ∷ [])) lacks_category = λ equal. added ∙ ap (λ (other : Key). with_mode (counted before (other ∷ [])) lacks_category) equal in
    at-key key found modes (lookup (is_found (a ∷ [])) before.by_key.entries) (lookup (is_found (a ∷ [])) after.by_key.entries) lacks_category now same (is_key a key) tests

-- some pass a test where they are counted

any-by : (first : Bool) (count : ℕ) (rest : Bool) → nat_lt 0 count ≡ rest → nat_lt 0 (cond first 1 0 + count) ≡ (first || rest)
any-by true count rest hypothesis = grind (arith, nat_tests)
any-by false count rest hypothesis = rw zero-add hypothesis

count-any : (test : Entry → Bool) (entries : List Entry) → nat_lt 0 (count_by test entries) ≡ list_any test entries
count-any test [] = refl
count-any test (first ∷ rest) =
    ap (λ (n : ℕ). nat_lt 0 n) (sum_by-cons (λ (entry : Entry). cond (test entry) 1 0) first rest)
    ∙ any-by (test first) (count_by test rest) (list_any test rest) (count-any test rest)

pub lacks_agrees : (entries : List Entry) (counts : ModeCounts) (item : Item) → HoldsModes entries counts → lacks_mode_by counts item ≡ lacks_mode entries item
lacks_agrees entries counts (PredicateItem head category) holds =
    let some : nat_lt 0 (counted counts (key_of head)).count ≡ list_any (λ entry. is_own entry && is_mode_of (key_of head) entry.item) entries =
    ap (λ (n : ℕ). nat_lt 0 n) (holds.numbers (key_of head)) ∙ count-any (λ entry. is_own entry && is_mode_of (key_of head) entry.item) entries in
    ap (λ (has : Bool). (if has_mode head category then is_none category else is_some category || not has) || (counted counts (key_of head)).lacks_category) some
    ∙ ap (λ (lacking : Bool). (if has_mode head category then is_none category else is_some category || not (list_any (λ entry. is_own entry && is_mode_of (key_of head) entry.item) entries)) || lacking) (holds.lacking (key_of head))
lacks_agrees entries counts (Opening name) holds = refl
lacks_agrees entries counts (Ending name) holds = refl
lacks_agrees entries counts Section holds = refl
lacks_agrees entries counts (Import units) holds = refl
lacks_agrees entries counts (TypeItem head constructors) holds = refl
lacks_agrees entries counts (ModeItem head category) holds = refl
lacks_agrees entries counts (ClauseItem head body) holds = refl
lacks_agrees entries counts (OtherType head) holds = refl
lacks_agrees entries counts OtherFunction holds = refl
lacks_agrees entries counts OtherGrammar holds = refl
lacks_agrees entries counts OtherDeclaration holds = refl
lacks_agrees entries counts Formless holds = refl
