-- The constructors that a module declares, and their types.
use Rattle.std.proofs.Common.{◌≡◌, inl, inr, ℕ, Bool, true, false, ◌==◌, ◌&&◌, cond, if◌then◌else◌, List, [], ◌∷◌, length, map, Option, Some, None, option_map, refl, ap, sym, ◌∙◌, subst}
use Rattle.std.specs.List.{AllByRecursion, list_any, find}
use Rattle.std.proofs.lemmas.Bool.Decides.{Decides-eqb}
use Rattle.merc_tree.specs.declared.declarations.Constructor.{Constructor}
use Rattle.merc_tree.specs.declared.declarations.TypeDef.{TypeDef}
use Rattle.merc_goal_tree.specs.declared.goal.Symbol.TheVariants.{Constructor as ConstructorSymbol}
use Rattle.merc_name_resolution.specs.Known.{has_name, constructor_in}
use Rattle.merc_grading.specs.Known.{same_symbol, symbol_of, symbols_named, has_symbol}
use Rattle.merc_grading.specs.Fitting.{are_alike, AreToldApart}
use Rattle.merc_order_laws.proofs.Facts.{clash, or_left, or_right}
use Rattle.merc_program_laws.specs.GoodPrograms.{MentionsOnly, IsScoped}
use Rattle.merc_program_laws.proofs.Values.{or_not_left, or_not_right, none_not, same_some, same_number, chosen_true, chosen_false, both, both_are}

pub equal_turned : (x y : ℕ) → (x == y) ≡ (y == x)
equal_turned x y = elim (same_number x y) as (λ _. (x == y) ≡ (y == x)) [
  | inl p ↦ p.0 ∙ sym ((Decides-eqb y x).1 (sym p.1))
  | inr p ↦ p.0 ∙ sym (other (y == x) (λ e. p.1 (sym ((Decides-eqb y x).0 e))))
] where
  other : (b : Bool) → (b ≡ true → ⊥) → b ≡ false
  other true f = absurd (f refl)
  other false f = refl

and_turned : (a b c d : Bool) → a ≡ c → b ≡ d → (a && b) ≡ (c && d)
and_turned a b c d p q = cc

-- what is found

find_case : {X : Type 0} (P : X → Type 0) (test : X → Bool) (y x : X) (xs : List X) (b : Bool) → test y ≡ b → cond b (Some y) (find test xs) ≡ Some x → P y → (find test xs ≡ Some x → P x × (test x ≡ true)) → P x × (test x ≡ true)
find_case P test y x xs true e h p f = (subst P (same_some h) p, ap test (sym (same_some h)) ∙ e)
find_case P test y x xs false e h p f = f h

pub find_is : {X : Type 0} (P : X → Type 0) (test : X → Bool) (xs : List X) (x : X) → find test xs ≡ Some x → AllByRecursion P xs → P x × (test x ≡ true)
find_is P test [] x h all = absurd (none_not h)
find_is P test (y ∷ ys) x h all = find_case P test y x ys (test y) refl h all.0 (λ k. find_is P test ys x k all.1)

mapped : (d : TypeDef) (o : Option Constructor) (found : TypeDef × Constructor) → option_map (λ c. (d, c)) o ≡ Some found → (d ≡ found.0) × (o ≡ Some found.1)
mapped d None found h = absurd (none_not h)
mapped d (Some c) found h = let e : (d, c) ≡ found = same_some h in (ap (λ (z : TypeDef × Constructor). z.0) e, ap (λ (z : TypeDef × Constructor). Some z.1) e)

-- the type of what is found is declared, and it is found among that type's constructors
abbrev IsFound : (TypeDef → Type 0) → ℕ → ℕ → TypeDef × Constructor → Type 0
IsFound P name arity found = P found.0 × (find (has_name name arity) found.0.constructors ≡ Some found.1)

found_case : (P : TypeDef → Type 0) (d : TypeDef) (o : Option (TypeDef × Constructor)) (name arity : ℕ) (found : TypeDef × Constructor) (b : Bool)
    → (if b then option_map (λ c. (d, c)) (find (has_name name arity) d.constructors) else o) ≡ Some found → P d → (o ≡ Some found → IsFound P name arity found) → IsFound P name arity found
found_case P d o name arity found true h p f =
    let r = mapped d (find (has_name name arity) d.constructors) found h in
    (subst P r.0 p, subst (λ (z : TypeDef). find (has_name name arity) z.constructors ≡ Some found.1) r.0 r.1)
found_case P d o name arity found false h p f = f h

pub found_is : (P : TypeDef → Type 0) (declared : List TypeDef) (name arity : ℕ) (found : TypeDef × Constructor) → constructor_in declared name arity ≡ Some found → AllByRecursion P declared → IsFound P name arity found
found_is P [] name arity found h all = absurd (none_not h)
found_is P (d ∷ ds) name arity found h all =
    found_case P d (constructor_in ds name arity) name arity found (list_any (has_name name arity) d.constructors) h all.0 (λ k. found_is P ds name arity found k all.1)

all_units : {X : Type 0} (xs : List X) → AllByRecursion (λ x. Unit {0}) xs
all_units [] = tt
all_units (x ∷ xs) = (tt, all_units xs)

-- it has as many arguments as it was asked for with
pub found_arity : (declared : List TypeDef) (name arity : ℕ) (found : TypeDef × Constructor) → constructor_in declared name arity ≡ Some found → length found.1.args ≡ arity
found_arity declared name arity found h =
    let r = found_is (λ d. Unit {0}) declared name arity found h (all_units declared) in
    let q = find_is (λ c. Unit {0}) (has_name name arity) found.0.constructors found.1 r.1 (all_units found.0.constructors) in
    (Decides-eqb (length found.1.args) arity).0 (both (found.1.name == name) (length found.1.args == arity) q.1).1

pub found_scoped : (declared : List TypeDef) (name arity : ℕ) (found : TypeDef × Constructor) → AllByRecursion IsScoped declared → constructor_in declared name arity ≡ Some found
    → AllByRecursion (MentionsOnly found.0.params) found.1.args
found_scoped declared name arity found all h =
    let r = found_is IsScoped declared name arity found h all in
    (find_is (λ c. AllByRecursion (MentionsOnly found.0.params) c.args) (has_name name arity) found.0.constructors found.1 r.1 r.0).0

-- the symbols of its type

any_false : {X : Type 0} (test : X → Bool) (xs : List X) → list_any test xs ≡ false → AllByRecursion (λ x. test x ≡ false) xs
any_false test [] h = tt
any_false test (x ∷ xs) h = (or_not_left (test x) (list_any test xs) h, any_false test xs (or_not_right (test x) (list_any test xs) h))

-- all symbols of a type stand under its name
abbrev IsNamed : List TypeDef → TypeDef → Type 0
IsNamed declared d = symbols_named declared d.name (length d.params) ≡ Some (map symbol_of d.constructors)

first_named : (d : TypeDef) (rest : List TypeDef) → IsNamed (d ∷ rest) d
first_named d rest =
    chosen_true (Some (map symbol_of d.constructors)) (symbols_named rest d.name (length d.params))
    (both_are (d.name == d.name) (length d.params == length d.params) ((Decides-eqb d.name d.name).1 refl) ((Decides-eqb (length d.params) (length d.params)).1 refl))

later_named : (first d : TypeDef) (rest : List TypeDef) → are_alike first d ≡ false → IsNamed rest d → IsNamed (first ∷ rest) d
later_named first d rest apart h =
    chosen_false (Some (map symbol_of first.constructors)) (symbols_named rest d.name (length d.params))
    (and_turned (first.name == d.name) (length first.params == length d.params) (d.name == first.name) (length d.params == length first.params)
    (equal_turned first.name d.name) (equal_turned (length first.params) (length d.params)) ∙ apart)
    ∙ h

named_case : (first : TypeDef) (rest : List TypeDef) (name arity : ℕ) (found : TypeDef × Constructor) (b : Bool)
    → (if b then option_map (λ c. (first, c)) (find (has_name name arity) first.constructors) else constructor_in rest name arity) ≡ Some found
    → list_any (are_alike first) rest ≡ false → (constructor_in rest name arity ≡ Some found → IsNamed rest found.0) → IsNamed (first ∷ rest) found.0
named_case first rest name arity found true h apart f =
    let r = mapped first (find (has_name name arity) first.constructors) found h in subst (λ (z : TypeDef). IsNamed (first ∷ rest) z) r.0 (first_named first rest)
named_case first rest name arity found false h apart f =
    later_named first found.0 rest (found_is (λ d. are_alike first d ≡ false) rest name arity found h (any_false (are_alike first) rest apart)).0 (f h)

pub found_named : (declared : List TypeDef) (name arity : ℕ) (found : TypeDef × Constructor) → AreToldApart declared → constructor_in declared name arity ≡ Some found → IsNamed declared found.0
found_named [] name arity found apart h = absurd (none_not h)
found_named (d ∷ ds) name arity found apart h =
    named_case d ds name arity found (list_any (has_name name arity) d.constructors) h apart.0 (λ k. found_named ds name arity found apart.1 k)

listed_case : (c : Constructor) (cs : List Constructor) (name arity : ℕ) (b : Bool) → has_name name arity c ≡ b → (b ≡ false → has_symbol (map symbol_of cs) (ConstructorSymbol name arity) ≡ true)
    → has_symbol (map symbol_of (c ∷ cs)) (ConstructorSymbol name arity) ≡ true
listed_case c cs name arity true e f =
    or_left (same_symbol (ConstructorSymbol name arity) (symbol_of c)) (has_symbol (map symbol_of cs) (ConstructorSymbol name arity))
    (and_turned (name == c.name) (arity == length c.args) (c.name == name) (length c.args == arity) (equal_turned name c.name) (equal_turned arity (length c.args)) ∙ e)
listed_case c cs name arity false e f =
    or_right (same_symbol (ConstructorSymbol name arity) (symbol_of c)) (has_symbol (map symbol_of cs) (ConstructorSymbol name arity)) (f refl)

else_found : {X : Type 0} (x y : X) (o : Option X) (b : Bool) → b ≡ false → cond b (Some x) o ≡ Some y → o ≡ Some y
else_found x y o true e h = clash refl e
else_found x y o false e h = h

listed : (cs : List Constructor) (name arity : ℕ) (c : Constructor) → find (has_name name arity) cs ≡ Some c → has_symbol (map symbol_of cs) (ConstructorSymbol name arity) ≡ true
listed [] name arity c h = absurd (none_not h)
listed (d ∷ ds) name arity c h =
    listed_case d ds name arity (has_name name arity d) refl (λ e. listed ds name arity c (else_found d c (find (has_name name arity) ds) (has_name name arity d) e h))

pub found_listed : (declared : List TypeDef) (name arity : ℕ) (found : TypeDef × Constructor) → constructor_in declared name arity ≡ Some found
    → has_symbol (map symbol_of found.0.constructors) (ConstructorSymbol name arity) ≡ true
found_listed declared name arity found h = listed found.0.constructors name arity found.1 (found_is (λ d. Unit {0}) declared name arity found h (all_units declared)).1
