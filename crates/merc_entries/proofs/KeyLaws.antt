-- Sets of keys: what an insertion adds.
use Rattle.std.proofs.Common.{◌≡◌, ℕ, ◌==◌, Bool, true, false, cond, ◌||◌, ◌&&◌, Option, Some, None, List, [], ◌∷◌, Ordering, Less, Equal, Greater, refl, sym, ◌∙◌, ap, arith}
use Rattle.std.specs.List.{list_any}
use Rattle.std.specs.Map.{lookup}
use Rattle.std.specs.Ordering.{is_eq, nat_cmp, ordering_then, match_ordering}
use Rattle.std.specs.BTreeSet.{insert_key}
use Rattle.std.proofs.lemmas.Bool.Decides.{nat_tests}
use Rattle.merc_base.specs.declared.groups.Key.{Key}
use Rattle.merc_entries.specs.Entries.{is_key, are_keys}

abbrev pub compare_keys : Key → Key → Ordering
compare_keys a b = ordering_then (nat_cmp a.name b.name) (nat_cmp a.arity b.arity)

abbrev pub is_found : List Key → Key → Bool
is_found found key = are_keys found (key ∷ [])

pub number-equal : (a b : ℕ) → nat_cmp a b ≡ Equal → a ≡ b
number-equal a b same = grind (arith, nat_tests)

pub then-equal : (a b : Ordering) → ordering_then a b ≡ Equal → (a ≡ Equal) × (b ≡ Equal)
then-equal Less b same = cc
then-equal Equal b same = (refl, same)
then-equal Greater b same = cc

pub keys-equal : (a b : Key) → compare_keys a b ≡ Equal → a ≡ b
keys-equal a b same =
    let both = then-equal (nat_cmp a.name b.name) (nat_cmp a.arity b.arity) same in
    let names : a.name ≡ b.name = number-equal a.name b.name both.0 in
    let arities : a.arity ≡ b.arity = number-equal a.arity b.arity both.1 in
    let with_name : ℕ → Key = λ n. record { name = n; arity = a.arity } in
    let with_arity : ℕ → Key = λ n. record { name = b.name; arity = n } in
    ap with_name names ∙ ap with_arity arities

swap : (a b c : Bool) → (a || (b || c)) ≡ ((b || c) || a)
swap true true c = refl
swap true false true = refl
swap true false false = refl
swap false true c = refl
swap false false true = refl
swap false false false = refl

again : (a b : Bool) → (a || b) ≡ ((a || b) || a)
again true b = refl
again false true = refl
again false false = refl

regroup : (a b c : Bool) → (a || (b || c)) ≡ ((a || b) || c)
regroup true b c = refl
regroup false b c = refl

alone : (a : Bool) → (a || false) ≡ (false || a)
alone true = refl
alone false = refl

module _ {K : Type 0} (compare : K → K → Ordering) (test : K → Bool) (same : (a b : K) → compare a b ≡ Equal → test a ≡ test b) where
  any-insert-by : (first : K) (rest : List K) (key : K) → list_any test (insert_key compare rest key) ≡ (list_any test rest || test key) → (order : Ordering) → compare key first ≡ order → list_any test (match_ordering order (key ∷ first ∷ rest) (first ∷ rest) (first ∷ insert_key compare rest key)) ≡ (list_any test (first ∷ rest) || test key)
  any-insert-by first rest key hypothesis Less order = swap (test key) (test first) (list_any test rest)
  any-insert-by first rest key hypothesis Equal order = again (test first) (list_any test rest) ∙ ap (λ (b : Bool). list_any test (first ∷ rest) || b) (sym (same key first order))
  any-insert-by first rest key hypothesis Greater order = ap (λ (b : Bool). test first || b) hypothesis ∙ regroup (test first) (list_any test rest) (test key)

  -- a key is inserted among others
  pub any-insert : (keys : List K) (key : K) → list_any test (insert_key compare keys key) ≡ (list_any test keys || test key)
  any-insert [] key = alone (test key)
  any-insert (first ∷ rest) key = any-insert-by first rest key (any-insert rest key) (compare key first) refl

pub any-key : (found : List Key) (keys : List Key) (key : Key) → list_any (is_found found) (insert_key compare_keys keys key) ≡ (list_any (is_found found) keys || is_found found key)
any-key found = any-insert compare_keys (is_found found) (λ a b equal. ap (is_found found) (keys-equal a b equal))

pub none-found : (keys : List Key) → list_any (is_found []) keys ≡ false
none-found [] = refl
none-found (first ∷ rest) = none-found rest

-- Maps by keys: a look-up by a key in the definitions' sense is one by the code's key

pub then-both : (a b : Ordering) → is_eq (ordering_then a b) ≡ (is_eq a && is_eq b)
then-both Less b = refl
then-both Equal b = refl
then-both Greater b = refl

pub number-test : (a b : ℕ) → is_eq (nat_cmp a b) ≡ (a == b)
number-test a b = grind (arith, nat_tests)

pub same-test : (a b : Key) → is_eq (compare_keys a b) ≡ is_key a b
same-test a b =
    then-both (nat_cmp a.name b.name) (nat_cmp a.arity b.arity)
    ∙ ap (λ (test : Bool). test && is_eq (nat_cmp a.arity b.arity)) (number-test a.name b.name)
    ∙ ap (λ (test : Bool). (a.name == b.name) && test) (number-test a.arity b.arity)

lookup-by : {X : Type 0} (key : Key) (entry : Key × X) (rest : List (Key × X)) → lookup (λ other. is_eq (compare_keys key other)) rest ≡ lookup (is_found (key ∷ [])) rest → lookup (λ other. is_eq (compare_keys key other)) (entry ∷ rest) ≡ lookup (is_found (key ∷ [])) (entry ∷ rest)
lookup-by {X} key entry rest hypothesis =
    ap (λ (test : Bool). cond test (Some entry.1) (lookup (λ other. is_eq (compare_keys key other)) rest)) (same-test key entry.0)
    ∙ ap (λ (found : Option X). cond (is_found (key ∷ []) entry.0) (Some entry.1) found) hypothesis

pub lookup-same : {X : Type 0} (key : Key) (entries : List (Key × X)) → lookup (λ other. is_eq (compare_keys key other)) entries ≡ lookup (is_found (key ∷ [])) entries
lookup-same key [] = refl
lookup-same key (entry ∷ rest) = lookup-by key entry rest (lookup-same key rest)

pub lookup-nothing : {X : Type 0} (entries : List (Key × X)) → lookup (is_found []) entries ≡ None
lookup-nothing [] = refl
lookup-nothing (entry ∷ rest) = lookup-nothing rest

pub lookup-many : {X : Type 0} (a b : Key) (more : List Key) (entries : List (Key × X)) → lookup (is_found (a ∷ b ∷ more)) entries ≡ None
lookup-many a b more [] = refl
lookup-many a b more (entry ∷ rest) = lookup-many a b more rest

pub number-swap : (a b : ℕ) → (a == b) ≡ (b == a)
number-swap a b = grind (arith, nat_tests)

pub key-swap : (a b : Key) → is_key a b ≡ is_key b a
key-swap a b =
    ap (λ (test : Bool). test && (a.arity == b.arity)) (number-swap a.name b.name)
    ∙ ap (λ (test : Bool). (b.name == a.name) && test) (number-swap a.arity b.arity)

is-equal : (order : Ordering) → is_eq order ≡ true → order ≡ Equal
is-equal Less same = cc
is-equal Equal same = refl
is-equal Greater same = cc

pub test-equal : (a b : Key) → is_eq (compare_keys a b) ≡ true → a ≡ b
test-equal a b same = keys-equal a b (is-equal (compare_keys a b) same)
