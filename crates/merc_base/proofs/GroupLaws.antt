-- Groups of items: what one item more leaves for each key.
use Rattle.std.proofs.Common.{◌≡◌, ℕ, ◌==◌, Bool, true, false, cond, ◌&&◌, Option, Some, None, List, [], ◌∷◌, ◌++◌, Ordering, Less, Equal, Greater, refl, sym, ◌∙◌, ap, arith, if◌then◌else◌}
use Rattle.std.specs.BTreeMap.{get}
use Rattle.std.specs.Map.{lookup}
use Rattle.std.specs.Ordering.{is_eq, nat_cmp, ordering_then}
use Rattle.std.proofs.lemmas.Bool.Decides.{nat_tests}
use Rattle.merc_base.specs.declared.groups.Key.{Key}
use Rattle.merc_base.specs.declared.groups.Groups.{Groups}
use Rattle.merc_base.specs.Groups.{is_key, kept, listed}

abbrev pub compare_keys : Key → Key → Ordering
compare_keys a b = ordering_then (nat_cmp a.name b.name) (nat_cmp a.arity b.arity)

number_equal : (a b : ℕ) → nat_cmp a b ≡ Equal → a ≡ b
number_equal a b same = grind (arith, nat_tests)

then_equal : (a b : Ordering) → ordering_then a b ≡ Equal → (a ≡ Equal) × (b ≡ Equal)
then_equal Less b same = cc
then_equal Equal b same = (refl, same)
then_equal Greater b same = cc

keys_equal : (a b : Key) → compare_keys a b ≡ Equal → a ≡ b
keys_equal a b same =
    let both = then_equal (nat_cmp a.name b.name) (nat_cmp a.arity b.arity) same in
    let names : a.name ≡ b.name = number_equal a.name b.name both.0 in
    let arities : a.arity ≡ b.arity = number_equal a.arity b.arity both.1 in
    let with_name : ℕ → Key = λ n. record { name = n; arity = a.arity } in
    let with_arity : ℕ → Key = λ n. record { name = b.name; arity = n } in
    ap with_name names ∙ ap with_arity arities

is_equal : (order : Ordering) → is_eq order ≡ true → order ≡ Equal
is_equal Less same = cc
is_equal Equal same = refl
is_equal Greater same = cc

then_both : (a b : Ordering) → is_eq (ordering_then a b) ≡ (is_eq a && is_eq b)
then_both Less b = refl
then_both Equal b = refl
then_both Greater b = refl

number_test : (a b : ℕ) → is_eq (nat_cmp a b) ≡ (b == a)
number_test a b = grind (arith, nat_tests)

same_test : (a b : Key) → is_eq (compare_keys a b) ≡ is_key a.name a.arity b
same_test a b =
    then_both (nat_cmp a.name b.name) (nat_cmp a.arity b.arity)
    ∙ ap (λ (test : Bool). test && is_eq (nat_cmp a.arity b.arity)) (number_test a.name b.name)
    ∙ ap (λ (test : Bool). (b.name == a.name) && test) (number_test a.arity b.arity)

number_swap : (a b : ℕ) → (a == b) ≡ (b == a)
number_swap a b = grind (arith, nat_tests)

test_swap : (a b : Key) → is_key a.name a.arity b ≡ is_key b.name b.arity a
test_swap a b =
    ap (λ (test : Bool). test && (b.arity == a.arity)) (number_swap b.name a.name)
    ∙ ap (λ (test : Bool). (a.name == b.name) && test) (number_swap b.arity a.arity)

lookup_by : {X : Type 0} (key : Key) (entry : Key × X) (rest : List (Key × X)) → lookup (λ other. is_eq (compare_keys key other)) rest ≡ lookup (is_key key.name key.arity) rest
    → lookup (λ other. is_eq (compare_keys key other)) (entry ∷ rest) ≡ lookup (is_key key.name key.arity) (entry ∷ rest)
lookup_by {X} key entry rest hypothesis =
    ap (λ (test : Bool). cond test (Some entry.1) (lookup (λ other. is_eq (compare_keys key other)) rest)) (same_test key entry.0)
    ∙ ap (λ (found : Option X). cond (is_key key.name key.arity entry.0) (Some entry.1) found) hypothesis

-- a look-up by the map's order is one by the key's parts
pub lookup_same : {X : Type 0} (key : Key) (entries : List (Key × X)) → lookup (λ other. is_eq (compare_keys key other)) entries ≡ lookup (is_key key.name key.arity) entries
lookup_same key [] = refl
lookup_same key (entry ∷ rest) = lookup_by key entry rest (lookup_same key rest)

-- a group that is taken out and put back with more
at_key : {T : Type 0} (key found : Key) (group more : List T) (before middle after : Option (List T)) → middle ≡ cond (is_eq (compare_keys key found)) None before
    → after ≡ cond (is_eq (compare_keys key found)) (Some group) middle → (key ≡ found → group ≡ listed before ++ more)
    → (test : Bool) → is_eq (compare_keys key found) ≡ test → listed after ≡ (if test then listed before ++ more else listed before)
at_key key found group more before middle after removed inserted added true test =
    let now : after ≡ Some group = inserted ∙ rw test refl in
    rw now (added (keys_equal key found (is_equal (compare_keys key found) test)))
at_key key found group more before middle after removed inserted added false test =
    let now : after ≡ before = inserted ∙ rw test (removed ∙ rw test refl) in
    rw now refl

pub one_more : {T : Type 0} (before middle after : Groups T) (key : Key) (more old new : List T)
    → ((other : Key) → get compare_keys middle.by_key other ≡ cond (is_eq (compare_keys key other)) None (get compare_keys before.by_key other))
    → ((other : Key) → get compare_keys after.by_key other ≡ cond (is_eq (compare_keys key other)) (Some new) (get compare_keys middle.by_key other))
    → old ≡ listed (get compare_keys before.by_key key) → new ≡ old ++ more
    → (name arity : ℕ) → kept after name arity ≡ (if is_key name arity key then kept before name arity ++ more else kept before name arity)
one_more {T} before middle after key more old new removed inserted old_is new_is name arity =
    let found : Key = record { name = name; arity = arity } in
    let there : Option (List T) = get compare_keys before.by_key found in
    let added : key ≡ found → new ≡ listed there ++ more = λ same.
    new_is ∙ ap (λ (l : List T). l ++ more) (old_is ∙ ap (λ (k : Key). listed (get compare_keys before.by_key k)) same) in
    let whole : listed (get compare_keys after.by_key found) ≡ (if is_key name arity key then listed there ++ more else listed there) =
    at_key key found new more there (get compare_keys middle.by_key found) (get compare_keys after.by_key found) (removed found) (inserted found) added
    (is_key name arity key) (same_test key found ∙ test_swap key found) in
    ap listed (sym (lookup_same found after.by_key.entries)) ∙ whole
    ∙ ap (λ (o : Option (List T)). if is_key name arity key then listed o ++ more else listed o) (lookup_same found before.by_key.entries)
