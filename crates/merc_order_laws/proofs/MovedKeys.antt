-- Keys that are apart still are where those of a file stand before those of units.
use Rattle.std.proofs.Common.{◌≡◌, ℕ, Bool, true, false, ◌==◌, ◌&&◌, ◌||◌, List, [], ◌∷◌, ◌++◌, map, flat_map, if◌then◌else◌, refl, ap, ap₂, sym, subst, ◌∙◌, append_assoc, arith}
use Rattle.std.proofs.lemmas.Bool.Decides.{nat_tests}
use Rattle.std.proofs.lemmas.List.{map-append}
use Rattle.std.proofs.lemmas.List.Folds.{list_any-append}
use Rattle.std.specs.List.{list_any}
use Rattle.merc_base.specs.declared.groups.Key.{Key}
use Rattle.merc_base.specs.declared.place.Place.{Place}
use Rattle.merc_item_forms.specs.Items.{Item}
use Rattle.merc_entries.specs.Entries.{Declared, Entry, declared_by, is_key, is_own, own_entries}
use Rattle.merc_items.specs.ModuleOf.{unit_items}
use Rattle.merc_order_laws.proofs.ApartKeys.{AreKeysApart, declared_keys}

pub equal_turned : (a b : ℕ) → (a == b) ≡ (b == a)
equal_turned a b = grind (arith, nat_tests)

pub key_turned : (one other : Key) → is_key one other ≡ is_key other one
key_turned one other = ap₂ (λ (a b : Bool). a && b) (equal_turned one.name other.name) (equal_turned one.arity other.arity)

turned : (a b c : Bool) → (a || (b || c)) ≡ (b || (a || c))
turned true true c = refl
turned true false c = refl
turned false b c = refl

pub neither : (a b : Bool) → (a || b) ≡ false → (a ≡ false) × (b ≡ false)
neither true b is = absurd cc
neither false b is = (refl, is)

-- the same stand in a list where a part is moved
any_moved : (test : Key → Bool) (front moved back : List Key) → list_any test (front ++ (moved ++ back)) ≡ list_any test (moved ++ (front ++ back))
any_moved test front moved back =
    list_any-append test front (moved ++ back)
    ∙ ap (λ (b : Bool). list_any test front || b) (list_any-append test moved back)
    ∙ turned (list_any test front) (list_any test moved) (list_any test back)
    ∙ ap (λ (b : Bool). list_any test moved || b) (sym (list_any-append test front back))
    ∙ sym (list_any-append test moved (front ++ back))

apart_behind : (front back : List Key) → AreKeysApart (front ++ back) → AreKeysApart back
apart_behind [] back apart = apart
apart_behind (first ∷ front) back apart = apart_behind front back apart.1

-- whether another key is this one
abbrev is_this : Key → Key → Bool
is_this one other = is_key other one

-- a key goes between others
put_between : (one : Key) (front back : List Key) → list_any (is_this one) (front ++ back) ≡ false → AreKeysApart (front ++ back) → AreKeysApart (front ++ one ∷ back)
put_between one [] back none apart = (none, apart)
put_between one (first ∷ front) back none apart =
    let parts = neither (is_key first one) (list_any (is_this one) (front ++ back)) none in (
      any_moved (is_this first) front (one ∷ []) back
          ∙ ap (λ (b : Bool). b || list_any (is_this first) (front ++ back)) (key_turned one first ∙ parts.0)
          ∙ apart.0,
      put_between one front back parts.1 apart.1,
    )

apart_moved : (moved front back : List Key) → AreKeysApart (moved ++ (front ++ back)) → AreKeysApart (front ++ (moved ++ back))
apart_moved [] front back apart = apart
apart_moved (one ∷ moved) front back apart =
    put_between one front (moved ++ back) (any_moved (is_this one) front moved back ∙ apart.0) (apart_moved moved front back apart.1)

-- others go where the same stand in them
apart_replaced : (front some others : List Key) → ((test : Key → Bool) → list_any test some ≡ list_any test others) → AreKeysApart others → AreKeysApart (front ++ some)
    → AreKeysApart (front ++ others)
apart_replaced [] some others same others_apart apart = others_apart
apart_replaced (first ∷ front) some others same others_apart apart = (
  list_any-append (is_this first) front others
      ∙ ap (λ (b : Bool). list_any (is_this first) front || b) (sym (same (is_this first)))
      ∙ sym (list_any-append (is_this first) front some)
      ∙ apart.0,
  apart_replaced front some others same others_apart apart.1,
)

-- Given are the keys that an item declares.
module _ (keys : Item → List Key) where
  abbrev pub keys_in : List Entry → List Key
  keys_in all = flat_map (λ (entry : Entry). keys entry.item) all

  -- those of the file's entries, and behind them those of units
  abbrev pub parted : List Entry → List Key
  parted all = keys_in (own_entries all) ++ keys_in (unit_items all)

  -- They are in another order than they are declared in.

  pub parted_any : (test : Key → Bool) (all : List Entry) → list_any test (keys_in all) ≡ list_any test (parted all)
  parted_any test [] = refl
  parted_any test (first ∷ rest) =
      list_any-append test (keys first.item) (keys_in rest) ∙ ap (λ (b : Bool). list_any test (keys first.item) || b) (parted_any test rest)
      ∙ sym (list_any-append test (keys first.item) (parted rest)) ∙ by (is_own first)
    where
      by : (b : Bool) → list_any test (keys first.item ++ parted rest)
          ≡ list_any test (keys_in (if b then first ∷ own_entries rest else own_entries rest) ++ keys_in (if b then unit_items rest else first ∷ unit_items rest))
      by true = ap (list_any test) (sym (append_assoc (keys first.item) (keys_in (own_entries rest)) (keys_in (unit_items rest))))
      by false = sym (any_moved test (keys_in (own_entries rest)) (keys first.item) (keys_in (unit_items rest)))

  pub parted_apart : (all : List Entry) → AreKeysApart (keys_in all) → AreKeysApart (parted all)
  parted_apart [] apart = tt
  parted_apart (first ∷ rest) apart =
      by (is_own first)
      (apart_replaced (keys first.item) (keys_in rest) (parted rest) (λ test. parted_any test rest) (parted_apart rest (apart_behind (keys first.item) (keys_in rest) apart)) apart)
    where
      by : (b : Bool) → AreKeysApart (keys first.item ++ parted rest)
          → AreKeysApart (keys_in (if b then first ∷ own_entries rest else own_entries rest) ++ keys_in (if b then unit_items rest else first ∷ unit_items rest))
      by true whole = subst AreKeysApart (sym (append_assoc (keys first.item) (keys_in (own_entries rest)) (keys_in (unit_items rest)))) whole
      by false whole = apart_moved (keys first.item) (keys_in (own_entries rest)) (keys_in (unit_items rest)) whole

  keys_at : (place : Place) (some : List Key) → declared_keys (map (λ key. record { key = key; place = place }) some) ≡ some
  keys_at place [] = refl
  keys_at place (first ∷ rest) = ap (λ (l : List Key). first ∷ l) (keys_at place rest)

  pub keys_are : (all : List Entry) → declared_keys (declared_by keys all) ≡ keys_in all
  keys_are [] = refl
  keys_are (first ∷ rest) =
      map-append (λ (one : Declared Key). one.key) (map (λ key. record { key = key; place = first.place }) (keys first.item)) (declared_by keys rest)
      ∙ ap₂ (λ (some others : List Key). some ++ others) (keys_at first.place (keys first.item)) (keys_are rest)
