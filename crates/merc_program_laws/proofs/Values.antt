-- Small facts on booleans, symbols, types and environments.
use Rattle.std.proofs.Common.{◌≡◌, ◌⊎◌, inl, inr, ℕ, ℤ, Bool, true, false, is_some, ◌==◌, ◌||◌, ◌&&◌, if◌then◌else◌, List, [], ◌∷◌, map, Option, Some, None, refl, ap, sym, ◌∙◌}
use Rattle.std.specs.Ordering.{int_eq}
use Rattle.std.specs.Bool.{Decides}
use Rattle.std.specs.List.{AllByRecursion}
use Rattle.std.proofs.lemmas.Bool.Decides.{Decides-eqb, Decides-int_eq}
use Rattle.merc_tree.specs.Types.{TypeExpr, TypeVariable, IntType, TextType, TypeApplication, TypeExprs, no_types, more_types, types_of, replaced, replaced_all}
use Rattle.merc_goal_tree.specs.declared.goal.Symbol.{Symbol}
use Rattle.merc_goal_tree.specs.declared.goal.Symbol.TheVariants.{Constructor, Integer, Text as TextSymbol}
use Rattle.merc_order.specs.Bound.{among}
use Rattle.merc_grading.specs.Known.{same_symbol}
use Rattle.merc_value.specs.Value.{Value, Int, Text, Con, Values, none}
use Rattle.merc_meaning.specs.Trace.{Env}
use Rattle.merc_meaning.specs.Values.{count, made, fields}
use Rattle.merc_meaning.specs.Steps.{value_at, bound}
use Rattle.merc_meaning.proofs.Environments.{entry_same, entry_other}
use Rattle.merc_order_laws.proofs.Facts.{clash, or_left, or_right, or_cases}
use Rattle.merc_program_laws.specs.GoodPrograms.{MentionsOnly, AllMentionOnly}

pub or_not_left : (a b : Bool) → (a || b) ≡ false → a ≡ false
or_not_left true b h = h
or_not_left false b h = refl

pub or_not_right : (a b : Bool) → (a || b) ≡ false → b ≡ false
or_not_right true b h = clash refl h
or_not_right false b h = h

pub or_false : (a : Bool) → (a || false) ≡ a
or_false true = refl
or_false false = refl

pub or_with : (a b c : Bool) → b ≡ c → (a || b) ≡ (a || c)
or_with a b c h = ap (λ (z : Bool). a || z) h

-- options

pub none_not : {A : Type 0} {v : A} → None ≡ Some v → ⊥
none_not h = absurd cc

pub same_some : {A : Type 0} {v w : A} → Some v ≡ Some w → v ≡ w
same_some h = cc

pub some_of : {A : Type 0} (o : Option A) → is_some o ≡ true → (v : A) × (o ≡ Some v)
some_of (Some v) h = (v, refl)
some_of None h = absurd cc

pub is_some_of : {A : Type 0} (o : Option A) (v : A) → o ≡ Some v → is_some o ≡ true
is_some_of (Some w) v h = refl
is_some_of None v h = absurd cc

-- A test either holds or does not.

pub decide : (b : Bool) (P : Type 0) → Decides b P → ((b ≡ true) × P) ⊎ ((b ≡ false) × (P → ⊥))
decide true P d = inl (refl, d.0 refl)
decide false P d = inr (refl, λ p. clash (d.1 p) refl)

pub same_number : (x y : ℕ) → ((x == y ≡ true) × (x ≡ y)) ⊎ ((x == y ≡ false) × (x ≡ y → ⊥))
same_number x y = decide (x == y) (x ≡ y) (Decides-eqb x y)

pub chosen_true : {A : Type 0} {b : Bool} (x y : A) → b ≡ true → (if b then x else y) ≡ x
chosen_true {b = true} x y h = refl
chosen_true {b = false} x y h = clash h refl

pub chosen_false : {A : Type 0} {b : Bool} (x y : A) → b ≡ false → (if b then x else y) ≡ y
chosen_false {b = true} x y h = clash refl h
chosen_false {b = false} x y h = refl

-- lists of variables

pub among_here : (x : ℕ) (ys : List ℕ) → among (x ∷ ys) x ≡ true
among_here x ys = or_left (x == x) (among ys x) ((Decides-eqb x x).1 refl)

pub among_there : (x y : ℕ) (ys : List ℕ) → among ys x ≡ true → among (y ∷ ys) x ≡ true
among_there x y ys h = or_right (x == y) (among ys x) h

pub not_here : (x y : ℕ) (ys : List ℕ) → among (y ∷ ys) x ≡ false → x ≡ y → ⊥
not_here x y ys h e = clash ((Decides-eqb x y).1 e) (or_not_left (x == y) (among ys x) h)

pub not_there : (x y : ℕ) (ys : List ℕ) → among (y ∷ ys) x ≡ false → among ys x ≡ false
not_there x y ys h = or_not_right (x == y) (among ys x) h

pub among_cases : (x y : ℕ) (ys : List ℕ) → among (y ∷ ys) x ≡ true → (x ≡ y) ⊎ (among ys x ≡ true)
among_cases x y ys h = elim (or_cases (x == y) (among ys x) h) as (λ _. (x ≡ y) ⊎ (among ys x ≡ true)) [
  | inl p ↦ inl ((Decides-eqb x y).0 p)
  | inr p ↦ inr p
]

pub among_one : (x y : ℕ) → among (y ∷ []) x ≡ true → x ≡ y
among_one x y h = elim (among_cases x y [] h) as (λ _. x ≡ y) [ inl p ↦ p | inr p ↦ clash p refl ]

-- symbols

pub both : (a b : Bool) → (a && b) ≡ true → (a ≡ true) × (b ≡ true)
both true b h = (refl, h)
both false b h = clash h refl

constructor_at : {c d n m : ℕ} → c ≡ d → n ≡ m → Constructor c n ≡ Constructor d m
constructor_at p q = cc

same_name : {c d n m : ℕ} → Constructor c n ≡ Constructor d m → c ≡ d
same_name h = cc

same_arity : {c d n m : ℕ} → Constructor c n ≡ Constructor d m → n ≡ m
same_arity h = cc

pub both_are : (a b : Bool) → a ≡ true → b ≡ true → (a && b) ≡ true
both_are true b p q = q
both_are false b p q = clash p refl

constructors : (c d n m : ℕ) → Decides ((c == d) && (n == m)) (Constructor c n ≡ Constructor d m)
constructors c d n m = (
  λ h. let r = both (c == d) (n == m) h in constructor_at ((Decides-eqb c d).0 r.0) ((Decides-eqb n m).0 r.1),
  λ h. both_are (c == d) (n == m) ((Decides-eqb c d).1 (same_name h)) ((Decides-eqb n m).1 (same_arity h)),
)

pub symbol_decides : (s t : Symbol) → Decides (same_symbol s t) (s ≡ t)
symbol_decides (Constructor c n) (Constructor d m) = constructors c d n m
symbol_decides (Constructor c n) (Integer d) = (λ h. absurd cc, λ h. absurd cc)
symbol_decides (Constructor c n) (TextSymbol d) = (λ h. absurd cc, λ h. absurd cc)
symbol_decides (Integer c) (Constructor d m) = (λ h. absurd cc, λ h. absurd cc)
symbol_decides (Integer c) (Integer d) = (λ h. ap Integer ((Decides-int_eq c d).0 h), λ h. (Decides-int_eq c d).1 cc)
symbol_decides (Integer c) (TextSymbol d) = (λ h. absurd cc, λ h. absurd cc)
symbol_decides (TextSymbol c) (Constructor d m) = (λ h. absurd cc, λ h. absurd cc)
symbol_decides (TextSymbol c) (Integer d) = (λ h. absurd cc, λ h. absurd cc)
symbol_decides (TextSymbol c) (TextSymbol d) = (λ h. ap TextSymbol ((Decides-eqb c d).0 h), λ h. (Decides-eqb c d).1 cc)

-- what has arguments for a constructor is made of it

given : (b : Bool) (ws vs : Values) → (if b then Some ws else None) ≡ Some vs → (b ≡ true) × (ws ≡ vs)
given true ws vs h = (refl, same_some h)
given false ws vs h = absurd (none_not h)

pub fields_constructor : (c n d : ℕ) (ws vs : Values) → fields (Constructor c n) (Con d ws) ≡ Some vs → (c ≡ d) × (n ≡ count ws) × (ws ≡ vs)
fields_constructor c n d ws vs h =
    let r = given ((c == d) && (n == count ws)) ws vs h in
    let q = both (c == d) (n == count ws) r.0 in
    ((Decides-eqb c d).0 q.0, (Decides-eqb n (count ws)).0 q.1, r.1)

pub fields_integer : (c d : ℤ) (vs : Values) → fields (Integer c) (Int d) ≡ Some vs → (c ≡ d) × (none ≡ vs)
fields_integer c d vs h = let r = given (int_eq c d) none vs h in ((Decides-int_eq c d).0 r.0, r.1)

pub fields_text : (c d : ℕ) (vs : Values) → fields (TextSymbol c) (Text d) ≡ Some vs → (c ≡ d) × (none ≡ vs)
fields_text c d vs h = let r = given (c == d) none vs h in ((Decides-eqb c d).0 r.0, r.1)

-- a value has one symbol
pub one_symbol : (s t : Symbol) (v : Value) (vs ws : Values) → fields s v ≡ Some vs → fields t v ≡ Some ws → s ≡ t
one_symbol (Constructor c n) (Constructor d m) (Con a as') vs ws h k =
    let p = fields_constructor c n a as' vs h in
    let q = fields_constructor d m a as' ws k in
    constructor_at (p.0 ∙ sym q.0) (p.1 ∙ sym q.1)
one_symbol (Constructor c n) (Integer d) (Con a as') vs ws h k = absurd (none_not k)
one_symbol (Constructor c n) (TextSymbol d) (Con a as') vs ws h k = absurd (none_not k)
one_symbol (Constructor c n) t (Int a) vs ws h k = absurd (none_not h)
one_symbol (Constructor c n) t (Text a) vs ws h k = absurd (none_not h)
one_symbol (Integer c) (Integer d) (Int a) vs ws h k = ap Integer ((fields_integer c a vs h).0 ∙ sym (fields_integer d a ws k).0)
one_symbol (Integer c) (Constructor d m) (Int a) vs ws h k = absurd (none_not k)
one_symbol (Integer c) (TextSymbol d) (Int a) vs ws h k = absurd (none_not k)
one_symbol (Integer c) t (Con a as') vs ws h k = absurd (none_not h)
one_symbol (Integer c) t (Text a) vs ws h k = absurd (none_not h)
one_symbol (TextSymbol c) (TextSymbol d) (Text a) vs ws h k = ap TextSymbol ((fields_text c a vs h).0 ∙ sym (fields_text d a ws k).0)
one_symbol (TextSymbol c) (Constructor d m) (Text a) vs ws h k = absurd (none_not k)
one_symbol (TextSymbol c) (Integer d) (Text a) vs ws h k = absurd (none_not k)
one_symbol (TextSymbol c) t (Con a as') vs ws h k = absurd (none_not h)
one_symbol (TextSymbol c) t (Int a) vs ws h k = absurd (none_not h)

-- what is made of a symbol has it, where it has as many arguments

abbrev pub IsMany : Symbol → Values → Type 0
IsMany (Constructor c n) vs = n ≡ count vs
IsMany (Integer c) vs = Unit {0}
IsMany (TextSymbol c) vs = Unit {0}

abbrev kept : Symbol → Values → Values
kept (Constructor c n) vs = vs
kept (Integer c) vs = none
kept (TextSymbol c) vs = none

pub fields_of_constructor : (c n : ℕ) (vs : Values) → n ≡ count vs → fields (Constructor c n) (Con c vs) ≡ Some vs
fields_of_constructor c n vs h = chosen_true (Some vs) None (both_are (c == c) (n == count vs) ((Decides-eqb c c).1 refl) ((Decides-eqb n (count vs)).1 h))

pub fields_of_made : (s : Symbol) (vs : Values) → IsMany s vs → fields s (made s vs) ≡ Some (kept s vs)
fields_of_made (Constructor c n) vs h = fields_of_constructor c n vs h
fields_of_made (Integer n) vs h = chosen_true (Some none) None ((Decides-int_eq n n).1 refl)
fields_of_made (TextSymbol t) vs h = chosen_true (Some none) None ((Decides-eqb t t).1 refl)

-- types

abbrev pub Instance : Type 0
Instance = ℕ → TypeExpr

abbrev pub composed : Instance → Instance → Instance
composed outer inner = λ name. replaced outer (inner name)

two : {a b : TypeExpr} {xs ys : TypeExprs} → a ≡ b → xs ≡ ys → more_types a xs ≡ more_types b ys
two p q = cc

mutual
  pub replaced_twice : (o i : Instance) (t : TypeExpr) → replaced o (replaced i t) ≡ replaced (composed o i) t
  replaced_twice o i (TypeVariable a) = refl
  replaced_twice o i IntType = refl
  replaced_twice o i TextType = refl
  replaced_twice o i (TypeApplication n ts) = ap (TypeApplication n) (all_replaced_twice o i ts)

  all_replaced_twice : (o i : Instance) (ts : TypeExprs) → replaced_all o (replaced_all i ts) ≡ replaced_all (composed o i) ts
  all_replaced_twice o i no_types = refl
  all_replaced_twice o i (more_types t ts) = two (replaced_twice o i t) (all_replaced_twice o i ts)

pub parameters_replaced : (o i : Instance) (ps : List ℕ) → replaced_all o (types_of (map i ps)) ≡ types_of (map (composed o i) ps)
parameters_replaced o i [] = refl
parameters_replaced o i (p ∷ ps) = ap (more_types (replaced o (i p))) (parameters_replaced o i ps)

pub same_type_name : {n m : ℕ} {xs ys : TypeExprs} → TypeApplication n xs ≡ TypeApplication m ys → n ≡ m
same_type_name h = cc

pub same_type_arguments : {n m : ℕ} {xs ys : TypeExprs} → TypeApplication n xs ≡ TypeApplication m ys → xs ≡ ys
same_type_arguments h = cc

pub application_not_int : {n : ℕ} {xs : TypeExprs} → TypeApplication n xs ≡ IntType → ⊥
application_not_int h = absurd cc

pub application_not_text : {n : ℕ} {xs : TypeExprs} → TypeApplication n xs ≡ TextType → ⊥
application_not_text h = absurd cc

-- what mentions parameters alone is the same where these stand for the same

same_first : {a b : TypeExpr} {xs ys : TypeExprs} → more_types a xs ≡ more_types b ys → a ≡ b
same_first h = cc

same_rest : {a b : TypeExpr} {xs ys : TypeExprs} → more_types a xs ≡ more_types b ys → xs ≡ ys
same_rest h = cc

same_parameter : (i j : Instance) (ps : List ℕ) → types_of (map i ps) ≡ types_of (map j ps) → (a : ℕ) → among ps a ≡ true → i a ≡ j a
same_parameter i j [] e a h = clash h refl
same_parameter i j (p ∷ ps) e a h = elim (among_cases a p ps h) as (λ _. i a ≡ j a) [
  | inl q ↦ ap i q ∙ same_first e ∙ ap j (sym q)
  | inr q ↦ same_parameter i j ps (same_rest e) a q
]

mutual
  same_mentioned : (i j : Instance) (ps : List ℕ) → ((a : ℕ) → among ps a ≡ true → i a ≡ j a) → (t : TypeExpr) → MentionsOnly ps t → replaced i t ≡ replaced j t
  same_mentioned i j ps f (TypeVariable a) h = f a h
  same_mentioned i j ps f IntType h = refl
  same_mentioned i j ps f TextType h = refl
  same_mentioned i j ps f (TypeApplication n ts) h = ap (TypeApplication n) (all_same_mentioned i j ps f ts h)

  all_same_mentioned : (i j : Instance) (ps : List ℕ) → ((a : ℕ) → among ps a ≡ true → i a ≡ j a) → (ts : TypeExprs) → AllMentionOnly ps ts → replaced_all i ts ≡ replaced_all j ts
  all_same_mentioned i j ps f no_types h = refl
  all_same_mentioned i j ps f (more_types t ts) h = two (same_mentioned i j ps f t h.0) (all_same_mentioned i j ps f ts h.1)

list_two : {a b : TypeExpr} {xs ys : List TypeExpr} → a ≡ b → xs ≡ ys → a ∷ xs ≡ b ∷ ys
list_two p q = cc

pub same_arguments : (i j : Instance) (ps : List ℕ) (ts : List TypeExpr) → AllByRecursion (MentionsOnly ps) ts → types_of (map i ps) ≡ types_of (map j ps) → map (replaced i) ts ≡ map (replaced j) ts
same_arguments i j ps [] h e = refl
same_arguments i j ps (t ∷ ts) h e = list_two (same_mentioned i j ps (same_parameter i j ps e) t h.0) (same_arguments i j ps ts h.1 e)

-- environments

pub at_same : (env : Env) (x : ℕ) (v : Value) → value_at (bound env x v) x ≡ Some v
at_same env x v = entry_same env x (Some v)

pub at_other : (env : Env) (x y : ℕ) (v : Value) → (y ≡ x → ⊥) → value_at (bound env x v) y ≡ value_at env y
at_other env x y v h = entry_other env x y (Some v) h
