-- Where nothing is declared again, types with the declared keys are told apart.
use Rattle.std.proofs.Common.{◌≡◌, ℕ, Bool, true, false, ◌==◌, ◌&&◌, ◌||◌, List, [], ◌∷◌, ◌++◌, length, map, refl, ap, ap₂, sym, subst, ◌∙◌, arith, append_assoc, eqb-true}
use Rattle.std.proofs.Math.Bool.{or-true}
use Rattle.std.proofs.lemmas.Bool.{and_parts}
use Rattle.std.proofs.lemmas.Bool.Decides.{nat_tests}
use Rattle.std.proofs.lemmas.List.Folds.{list_any-append}
use Rattle.std.specs.List.{list_any}
use Rattle.merc_base.specs.declared.groups.Key.{Key}
use Rattle.merc_base.specs.declared.place.Place.{Place}
use Rattle.merc_tree.specs.declared.declarations.TypeDef.{TypeDef}
use Rattle.merc_entries.specs.DoubleFaults.{IsAgain}
use Rattle.merc_entries.specs.Entries.{Declared, is_key, key}
use Rattle.merc_grading.specs.Fitting.{AreToldApart}

abbrev pub key_of_type : TypeDef → Key
key_of_type declared = key declared.name (length declared.params)

abbrev pub declared_keys : List (Declared Key) → List Key
declared_keys declared = map (λ (one : Declared Key). one.key) declared

abbrev pub AreKeysApart : List Key → Type 0
AreKeysApart [] = Unit {0}
AreKeysApart (first ∷ rest) = (list_any (λ other. is_key other first) rest ≡ false) × AreKeysApart rest

any_mapped : {A B : Type 0} (test : B → Bool) (f : A → B) (all : List A) → list_any test (map f all) ≡ list_any (λ one. test (f one)) all
any_mapped test f [] = refl
any_mapped test f (first ∷ rest) = ap (λ (b : Bool). test (f first) || b) (any_mapped test f rest)

pub types_apart : (types : List TypeDef) → AreKeysApart (map key_of_type types) → AreToldApart types
types_apart [] apart = tt
types_apart (first ∷ rest) apart = (sym (any_mapped (λ other. is_key other (key_of_type first)) key_of_type rest) ∙ apart.0, types_apart rest apart.1)

equal_self : (a : ℕ) → (a == a) ≡ true
equal_self a = grind (arith, nat_tests)

pub key_self : (one : Key) → is_key one one ≡ true
key_self one = ap₂ (λ (a b : Bool). a && b) (equal_self one.name) (equal_self one.arity)

key_same : (one other : Key) → is_key one other ≡ true → one ≡ other
key_same one other is =
    let parts = and_parts (one.name == other.name) (one.arity == other.arity) is in
    ap₂ (λ (name arity : ℕ). key name arity) (eqb-true one.name other.name parts.0) (eqb-true one.arity other.arity parts.1)

abbrev is_declared : Key → List (Declared Key) → Bool
is_declared one all = list_any (λ other. is_key one other.key) all

declared_left : (one : Key) (some others : List (Declared Key)) → is_declared one some ≡ true → is_declared one (some ++ others) ≡ true
declared_left one some others is = list_any-append (λ other. is_key one other.key) some others ∙ ap (λ (b : Bool). b || is_declared one others) is

declared_last : (some : List (Declared Key)) (last : Declared Key) → is_declared last.key (some ++ last ∷ []) ≡ true
declared_last some last =
    list_any-append (λ other. is_key last.key other.key) some (last ∷ [])
    ∙ ap (λ (b : Bool). is_declared last.key some || (b || false)) (key_self last.key)
    ∙ or-true (is_declared last.key some)

-- something is declared again
pub record IsDeclaredAgain (declared : List (Declared Key)) : Type 0 where
  pub at : Place
  pub again : IsAgain is_key declared at

found_again : (one : Key) (seen rest : List (Declared Key)) → is_declared one seen ≡ true → list_any (λ other. is_key other one) (declared_keys rest) ≡ true → IsDeclaredAgain (seen ++ rest)
found_again one seen [] known is = absurd cc
found_again one seen (next ∷ rest) known is =
    by (is_key next.key one) refl (found_again one (seen ++ next ∷ []) rest (declared_left one seen (next ∷ []) known)) is
  where
    by : (b : Bool) → is_key next.key one ≡ b → (list_any (λ other. is_key other one) (declared_keys rest) ≡ true → IsDeclaredAgain ((seen ++ next ∷ []) ++ rest))
        → (b || list_any (λ other. is_key other one) (declared_keys rest)) ≡ true → IsDeclaredAgain (seen ++ next ∷ rest)
    by true same inner is' = record {
      at = next.place;
      again = record {
        front = seen;
        again = next;
        back = rest;
        whole = refl;
        before = subst (λ (k : Key). is_declared k seen ≡ true) (sym (key_same next.key one same)) known;
        there = refl;
      };
    }
    by false other inner is' = subst IsDeclaredAgain (append_assoc seen (next ∷ []) rest) (inner is')

-- Given are declarations, behind others, where none is declared again.
pub keys_apart : (seen rest : List (Declared Key)) → (IsDeclaredAgain (seen ++ rest) → ⊥) → AreKeysApart (declared_keys rest)
keys_apart seen [] never = tt
keys_apart seen (next ∷ rest) never = (by (list_any (λ other. is_key other next.key) (declared_keys rest)) refl, keys_apart (seen ++ next ∷ []) rest behind)
  where
    behind : IsDeclaredAgain ((seen ++ next ∷ []) ++ rest) → ⊥
    behind again = never (subst IsDeclaredAgain (append_assoc seen (next ∷ []) rest) again)

    by : (b : Bool) → list_any (λ other. is_key other next.key) (declared_keys rest) ≡ b → b ≡ false
    by true is = absurd (behind (found_again next.key (seen ++ next ∷ []) rest (declared_last seen next) is))
    by false is = refl
