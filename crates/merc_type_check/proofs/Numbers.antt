-- Declared types by numbers.
use Rattle.std.proofs.Common.{◌≡◌, ℕ, zero, suc, ◌+◌, ◌<◌, ◌≤◌, ◌⊎◌, inl, inr, Bool, true, false, Option, Some, None, List, [], ◌∷◌, ◌++◌, map, length, take, get_or, refl, sym, ap, subst, ◌∙◌, arith, append_assoc, add-one}
use Rattle.std.specs.Prelude.{slice_get, ◌==◌, ◌&&◌, if◌then◌else◌}
use Rattle.std.specs.List.{AllByRecursion, find, list_any}
use Rattle.std.specs.Option.{option_map, IfSome}
use Rattle.std.proofs.lemmas.List.{map-append, append-nil, take_all}
use Rattle.merc_base.specs.Groups.{kept, is_key}
use Rattle.merc_base.specs.declared.groups.Key.{Key}
use Rattle.merc_base.specs.declared.groups.Groups.{Groups}
use Rattle.merc_name_resolution.specs.Known.{constructor_in, has_name}
use Rattle.merc_tree.specs.declared.declarations.Constructor.{Constructor}
use Rattle.merc_tree.specs.declared.declarations.TypeDef.{TypeDef}
use Rattle.merc_tree.specs.declared.declarations.PredDecl.{PredDecl}
use Rattle.merc_tree.specs.declared.declarations.Module.{Module}
use Rattle.merc_tree.specs.Types.{TypeExpr, replaced}
use Rattle.merc_type_table.specs.Table.{type_at, types_made, is_closed}
use Rattle.merc_type_table.specs.Numbering.{Extends, IsNumbering}
use Rattle.merc_type_table.specs.declared.numbering.TypeNumbering.{TypeNumbering}
use Rattle.merc_type_matching.proofs.Parts.{replaced_closed}
use Rattle.merc_type_check.specs.Checked.{head_types}
use Rattle.merc_type_matching.specs.Listed.{AreWithin}
use Rattle.merc_type_check.specs.TypeNumbers.{AreDeclared, AreNumbers, NumberOf, numbers_found, Grows, Numbered, NumbersPredicates, NumbersFirst, Renumbers, NumbersConstructors}
use Rattle.merc_type_check.specs.declared.declared.DeclaredTypes.{DeclaredTypes}
use Rattle.merc_type_check.specs.Progress.{Types, Instances, Places, Stands, Takes}
use Rattle.merc_type_check.specs.declared.checker.Checker.{Checker}
use Rattle.merc_type_check.proofs.Steps.{grow_takes, takes_as}

same_some : {B : Type 0} {a b : B} → Some a ≡ Some b → a ≡ b
same_some e = cc

-- the type at a number
pub type_there : (table : List TypeExpr) (number : ℕ) (type : TypeExpr) → slice_get table number ≡ Some type → (number < length table) × (type_at table number ≡ type)
type_there [] number type e = absurd (cc)
type_there (t ∷ ts) zero type e = (omega arith, cc)
type_there (t ∷ ts) (suc number) type e = let rest = type_there ts number type e in (let less = rest.0 in omega arith, rest.1)

-- a variable is given a declared type that is the same in each instance
pub given_whole : (user : ℕ) (done : Bool) (first second third : Checker) (place variable number : ℕ) (table : List TypeExpr) → second.graph.table ≡ table
    → is_closed (type_at second.graph.table number) ≡ true → Places first second place (λ types instance. types variable)
    → ((Meant : Types → Instances → TypeExpr) → Stands second place Meant → Takes done second third (λ types instance. Meant types instance ≡ type_at second.graph.table number))
    → Takes done first third (λ types instance. types variable ≡ replaced (instance user) (type_at table number))
given_whole user done first second third place variable number table same closed placed takes =
    let whole : TypeExpr = type_at second.graph.table number in
    let at : whole ≡ type_at table number = ap (λ (t : List TypeExpr). type_at t number) same in
    subst (λ (t : TypeExpr). Takes done first third (λ types instance. types variable ≡ replaced (instance user) t)) at
    (takes_as done first third (λ types instance. types variable ≡ whole) (λ types instance. types variable ≡ replaced (instance user) whole)
    (λ types instance is. is ∙ sym (replaced_closed (instance user) whole closed)) (λ types instance is. is ∙ replaced_closed (instance user) whole closed)
    (grow_takes done first second third (λ types instance. types variable ≡ whole) placed.grows (takes (λ types instance. types variable) placed.stands)))

-- a variable has the declared type at a number
pub given_declared : (user : ℕ) (done : Bool) (old new : Checker) (table : List TypeExpr) (variable number : ℕ) (declared : TypeExpr) → old.graph.table ≡ table
    → slice_get table number ≡ Some declared → Takes done old new (λ types instance. types variable ≡ replaced (instance user) (type_at old.graph.table number))
    → Takes done old new (λ types instance. types variable ≡ replaced (instance user) declared)
given_declared user done old new table variable number declared same there takes =
    subst (λ (t : TypeExpr). Takes done old new (λ types instance. types variable ≡ replaced (instance user) t))
    (ap (λ (t : List TypeExpr). type_at t number) same ∙ (type_there table number declared there).1) takes

pub given_fixed : (done : Bool) (first second third : Checker) (place variable number : ℕ) (type : TypeExpr) (table : List TypeExpr) → slice_get table number ≡ Some type
    → Places first second place (λ types instance. types variable)
    → ((Meant : Types → Instances → TypeExpr) → Stands second place Meant → Takes done second third (λ types instance. Meant types instance ≡ type_at table number))
    → Takes done first third (λ types instance. types variable ≡ type)
given_fixed done first second third place variable number type table there placed takes =
    let at : type_at table number ≡ type = (type_there table number type there).1 in
    takes_as done first third (λ types instance. types variable ≡ type_at table number) (λ types instance. types variable ≡ type)
    (λ types instance same. same ∙ at) (λ types instance same. same ∙ sym at)
    (grow_takes done first second third (λ types instance. types variable ≡ type_at table number) placed.grows (takes (λ types instance. types variable) placed.stands))

-- numbers of types
stays_there : (types more : List TypeExpr) (i : ℕ) (type : TypeExpr) → slice_get types i ≡ Some type → slice_get (types ++ more) i ≡ Some type
stays_there [] more i type e = absurd (cc)
stays_there (t ∷ ts) more zero type e = e
stays_there (t ∷ ts) more (suc i) type e = stays_there ts more i type e

numbers_stay : (table more : List TypeExpr) (numbers : List ℕ) (types : List TypeExpr) → Extends table more → AreNumbers table numbers types → AreNumbers more numbers types
numbers_stay table more [] types extends are = are
numbers_stay table more (n ∷ ns) [] extends are = absurd (cc)
numbers_stay table more (n ∷ ns) (t ∷ ts) extends are =
    let first : slice_get table n ≡ Some t = cc in
    let others : map (slice_get table) ns ≡ map Some ts = cc in
    let here : slice_get more n ≡ Some t = ap (λ (l : List TypeExpr). slice_get l n) extends.1 ∙ stays_there table extends.0 n t first in
    let rest : map (slice_get more) ns ≡ map Some ts = numbers_stay table more ns ts extends others in
    ap (λ (o : Option TypeExpr). o ∷ map (slice_get more) ns) here ∙ ap (λ (l : List (Option TypeExpr)). Some t ∷ l) rest

numbers_push : (table : List TypeExpr) (numbers : List ℕ) (types : List TypeExpr) (number : ℕ) (type : TypeExpr) → slice_get table number ≡ Some type
    → AreNumbers table numbers types → AreNumbers table (numbers ++ number ∷ []) (types ++ type ∷ [])
numbers_push table numbers types number type here are =
    map-append (slice_get table) numbers (number ∷ [])
    ∙ ap (λ (l : List (Option TypeExpr)). l ++ slice_get table number ∷ []) are
    ∙ ap (λ (o : Option TypeExpr). map Some types ++ o ∷ []) here
    ∙ sym (map-append Some types (type ∷ []))

pub type_of_number : (table : List TypeExpr) (numbers : List ℕ) (types : List TypeExpr) (i d : ℕ) → AreNumbers table numbers types → i < length numbers
    → (type : TypeExpr) × ((slice_get types i ≡ Some type) × (slice_get table (get_or numbers i d) ≡ Some type))
type_of_number table [] types i d are less = absurd (omega arith)
type_of_number table (n ∷ ns) [] i d are less = absurd (cc)
type_of_number table (n ∷ ns) (t ∷ ts) zero d are less = let first : slice_get table n ≡ Some t = cc in (t, (refl, first))
type_of_number table (n ∷ ns) (t ∷ ts) (suc i) d are less =
    let others : map (slice_get table) ns ≡ map Some ts = cc in
    type_of_number table ns ts i d others (omega arith)

pub numbers_length : (table : List TypeExpr) (numbers : List ℕ) (types : List TypeExpr) → AreNumbers table numbers types → length numbers ≡ length types
numbers_length table [] [] are = refl
numbers_length table [] (t ∷ ts) are = absurd (cc)
numbers_length table (n ∷ ns) [] are = absurd (cc)
numbers_length table (n ∷ ns) (t ∷ ts) are =
    let others : map (slice_get table) ns ≡ map Some ts = cc in ap suc (numbers_length table ns ts others)

pub take_next : {A : Type 0} (xs : List A) (k : ℕ) (x : A) → slice_get xs k ≡ Some x → take (k + 1) xs ≡ take k xs ++ x ∷ []
take_next xs k x e = ap (λ (n : ℕ). take n xs) (add-one k) ∙ by xs k x e
  where
    by : {B : Type 0} (ys : List B) (i : ℕ) (y : B) → slice_get ys i ≡ Some y → take (suc i) ys ≡ take i ys ++ y ∷ []
    by [] i y e = absurd (cc)
    by (z ∷ zs) zero y e = ap (λ w. w ∷ []) (same_some e)
    by (z ∷ zs) (suc i) y e = ap (λ l. z ∷ l) (by zs i y e)

-- types that are added one after the other
grows_on : (one two three : TypeNumbering) → Grows one two → Grows two three → Grows one three
grows_on one two three a b = record {
  sound = b.sound;
  extends = (
    a.extends.0 ++ b.extends.0,
    b.extends.1 ∙ ap (λ (l : List TypeExpr). l ++ b.extends.0) a.extends.1 ∙ append_assoc (types_made one.nodes.items) a.extends.0 b.extends.0,
  );
}

-- one more type
pub numbered_more : (start old new : TypeNumbering) (numbers now : List ℕ) (declared : List TypeExpr) (k number : ℕ) (type : TypeExpr) → Numbered start old numbers (take k declared)
    → slice_get declared k ≡ Some type → Grows old new → slice_get (types_made new.nodes.items) number ≡ Some type → now ≡ numbers ++ number ∷ []
    → Numbered start new now (take (k + 1) declared)
numbered_more start old new numbers now declared k number type before is grows here now_is = record {
  grows = grows_on start old new before.grows grows;
  are =
      subst (λ (l : List ℕ). AreNumbers (types_made new.nodes.items) l (take (k + 1) declared)) (sym now_is)
      (subst (AreNumbers (types_made new.nodes.items) (numbers ++ number ∷ [])) (sym (take_next declared k type is))
      (numbers_push (types_made new.nodes.items) numbers (take k declared) number type here
      (numbers_stay (types_made old.nodes.items) (types_made new.nodes.items) numbers (take k declared) grows.extends before.are)));
}

pub numbered_all : (start now : TypeNumbering) (numbers : List ℕ) (declared : List TypeExpr) (k : ℕ) → length declared ≤ k → Numbered start now numbers (take k declared)
    → Numbered start now numbers declared
numbered_all start now numbers declared k past numbered =
    subst (Numbered start now numbers) (take_all k declared past) numbered

-- what is declared keeps its numbers
pub number_of_stays : {A : Type 0} (types : A → List TypeExpr) (table more : List TypeExpr) (numbers : Option (List ℕ)) (declared : Option A) → Extends table more
    → NumberOf types table numbers declared → NumberOf types more numbers declared
number_of_stays types table more None None extends is = tt
number_of_stays types table more None (Some d) extends is = absurd is
number_of_stays types table more (Some ns) None extends is = absurd is
number_of_stays types table more (Some ns) (Some d) extends is = numbers_stay table more ns (types d) extends is

-- one more predicate
each_push : {A : Type 0} (types : A → List TypeExpr) (table : List TypeExpr) (numbers : List (List ℕ)) (declared : List A) (last : List ℕ) (one : A)
    → ((i : ℕ) → NumberOf types table (slice_get numbers i) (slice_get declared i)) → AreNumbers table last (types one)
    → (i : ℕ) → NumberOf types table (slice_get (numbers ++ last ∷ []) i) (slice_get (declared ++ one ∷ []) i)
each_push types table [] [] last one each are zero = are
each_push types table [] [] last one each are (suc i) = tt
each_push types table [] (d ∷ ds) last one each are i = absurd (each zero)
each_push types table (n ∷ ns) [] last one each are i = absurd (each zero)
each_push types table (n ∷ ns) (d ∷ ds) last one each are zero = each zero
each_push types table (n ∷ ns) (d ∷ ds) last one each are (suc i) = each_push types table ns ds last one (λ j. each (suc j)) are i

pub predicates_more : (start old new : TypeNumbering) (predicates now : List (List ℕ)) (preds : List PredDecl) (k : ℕ) (declared : PredDecl) (numbers : List ℕ)
    → NumbersPredicates start old predicates (take k preds) → slice_get preds k ≡ Some declared → Numbered old new numbers declared.args → now ≡ predicates ++ numbers ∷ []
    → NumbersPredicates start new now (take (k + 1) preds)
predicates_more start old new predicates now preds k declared numbers before is numbered now_is =
    let types : PredDecl → List TypeExpr = λ (one : PredDecl). one.args in
    let table : List TypeExpr = types_made new.nodes.items in
    record {
      grows = grows_on start old new before.grows numbered.grows;
      each = λ i.
          subst (λ (l : List (List ℕ)). NumberOf types table (slice_get l i) (slice_get (take (k + 1) preds) i)) (sym now_is)
          (subst (λ (l : List PredDecl). NumberOf types table (slice_get (predicates ++ numbers ∷ []) i) (slice_get l i)) (sym (take_next preds k declared is))
          (each_push types table predicates (take k preds) numbers declared
          (λ j. number_of_stays types (types_made old.nodes.items) table (slice_get predicates j) (slice_get (take k preds) j) numbered.grows.extends (before.each j))
          numbered.are i));
    }

pub predicates_all : (start now : TypeNumbering) (predicates : List (List ℕ)) (preds : List PredDecl) (k : ℕ) → length preds ≤ k
    → NumbersPredicates start now predicates (take k preds) → NumbersPredicates start now predicates preds
predicates_all start now predicates preds k past numbers = subst (NumbersPredicates start now predicates) (take_all k preds past) numbers

-- the first one of a list with one more
find_last : {A : Type 0} (test : A → Bool) (xs : List A) (last : A)
    → ((x : A) × ((find test xs ≡ Some x) × (find test (xs ++ last ∷ []) ≡ Some x)))
    ⊎ ((find test xs ≡ None) × (find test (xs ++ last ∷ []) ≡ (if test last then Some last else None)))
find_last test [] last = inr (refl, refl)
find_last {A} test (x ∷ xs) last = by (test x) refl (find_last test xs last)
  where
    by : (b : Bool) → test x ≡ b
        → (((y : A) × ((find test xs ≡ Some y) × (find test (xs ++ last ∷ []) ≡ Some y)))
        ⊎ ((find test xs ≡ None) × (find test (xs ++ last ∷ []) ≡ (if test last then Some last else None))))
        → ((y : A) × ((find test (x ∷ xs) ≡ Some y) × (find test (x ∷ xs ++ last ∷ []) ≡ Some y)))
        ⊎ ((find test (x ∷ xs) ≡ None) × (find test (x ∷ xs ++ last ∷ []) ≡ (if test last then Some last else None)))
    by true e rest = inl (x, (rw e refl, rw e refl))
    by false e rest = elim rest [
      | inl w ↦ inl (w.0, (rw e w.1.0, rw e w.1.1))
      | inr w ↦ inr (rw e w.0, rw e w.1)
    ]

first_more : (table : List TypeExpr) (groups : List (List ℕ)) (declared : List Constructor) (test : Constructor → Bool) (numbers : List ℕ) (last : Constructor) (flag : Bool)
    → test last ≡ flag → AreNumbers table numbers last.args → NumberOf (λ (one : Constructor). one.args) table (slice_get groups 0) (find test declared)
    → NumberOf (λ (one : Constructor). one.args) table (slice_get (if flag then groups ++ numbers ∷ [] else groups) 0) (find test (declared ++ last ∷ []))
first_more table groups declared test numbers last flag flag_is are first =
    elim (find_last test declared last) [
      | inl w ↦
          let at : NumberOf (λ (one : Constructor). one.args) table (slice_get groups 0) (Some w.0) =
          subst (NumberOf (λ (one : Constructor). one.args) table (slice_get groups 0)) w.1.0 first in
          subst (NumberOf (λ (one : Constructor). one.args) table (slice_get (if flag then groups ++ numbers ∷ [] else groups) 0)) (sym w.1.1)
          (there groups flag w.0 at)
      | inr w ↦
          let at : NumberOf (λ (one : Constructor). one.args) table (slice_get groups 0) None =
          subst (NumberOf (λ (one : Constructor). one.args) table (slice_get groups 0)) w.0 first in
          subst (NumberOf (λ (one : Constructor). one.args) table (slice_get (if flag then groups ++ numbers ∷ [] else groups) 0))
          (ap (λ (b : Bool). if b then Some last else None) (sym flag_is) ∙ sym w.1)
          (new_one groups flag at)
    ]
  where
    there : (gs : List (List ℕ)) (b : Bool) (x : Constructor) → NumberOf (λ (one : Constructor). one.args) table (slice_get gs 0) (Some x)
        → NumberOf (λ (one : Constructor). one.args) table (slice_get (if b then gs ++ numbers ∷ [] else gs) 0) (Some x)
    there [] b x at = absurd at
    there (g ∷ gs) true x at = at
    there (g ∷ gs) false x at = at

    new_one : (gs : List (List ℕ)) (b : Bool) → NumberOf (λ (one : Constructor). one.args) table (slice_get gs 0) None
        → NumberOf (λ (one : Constructor). one.args) table (slice_get (if b then gs ++ numbers ∷ [] else gs) 0) (if b then Some last else None)
    new_one [] true at = are
    new_one [] false at = tt
    new_one (g ∷ gs) b at = absurd at

-- one more constructor
pub constructor_added : (old new : TypeNumbering) (before after : Groups (List ℕ)) (constructor : Constructor) (key : Key) (numbers : List ℕ) → Numbered old new numbers constructor.args
    → key.name ≡ constructor.name → key.arity ≡ length constructor.args
    → ((n a : ℕ) → kept after n a ≡ (if is_key n a key then kept before n a ++ numbers ∷ [] else kept before n a))
    → Renumbers old new before after (constructor ∷ [])
constructor_added old new before after constructor key numbers numbered name_is arity_is added = record {
  grows = numbered.grows;
  first = λ declared first name arity.
      let table : List TypeExpr = types_made new.nodes.items in
      let test : has_name name arity constructor ≡ is_key name arity key =
      ap (λ (n : ℕ). (n == name) && (length constructor.args == arity)) (sym name_is) ∙ ap (λ (n : ℕ). (key.name == name) && (n == arity)) (sym arity_is) in
      subst (λ (l : List (List ℕ)). NumberOf (λ (one : Constructor). one.args) table (slice_get l 0) (find (has_name name arity) (declared ++ constructor ∷ []))) (sym (added name arity))
      (first_more table (kept before name arity) declared (has_name name arity) numbers constructor (is_key name arity key) test numbered.are
      (number_of_stays (λ (one : Constructor). one.args) (types_made old.nodes.items) table (slice_get (kept before name arity) 0) (find (has_name name arity) declared)
      numbered.grows.extends (first name arity)));
}

pub renumbers_none : (old : TypeNumbering) (groups : Groups (List ℕ)) → Grows old old → Renumbers old old groups groups []
renumbers_none old groups grows = record {
  grows = grows;
  first = λ declared first. subst (NumbersFirst (types_made old.nodes.items) groups) (sym (append-nil declared)) first;
}

pub renumbers_on : (one two three : TypeNumbering) (a b c : Groups (List ℕ)) (xs ys : List Constructor) → Renumbers one two a b xs → Renumbers two three b c ys
    → Renumbers one three a c (xs ++ ys)
renumbers_on one two three a b c xs ys first second = record {
  grows = grows_on one two three first.grows second.grows;
  first = λ declared numbers.
      subst (NumbersFirst (types_made three.nodes.items) c) (append_assoc declared xs ys) (second.first (declared ++ xs) (first.first declared numbers));
}

pub renumbers_more : (start old new : TypeNumbering) (a b c : Groups (List ℕ)) (constructors : List Constructor) (k : ℕ) (constructor : Constructor)
    → slice_get constructors k ≡ Some constructor → Renumbers start old a b (take k constructors) → Renumbers old new b c (constructor ∷ [])
    → Renumbers start new a c (take (k + 1) constructors)
renumbers_more start old new a b c constructors k constructor is before one =
    subst (Renumbers start new a c) (sym (take_next constructors k constructor is))
    (renumbers_on start old new a b c (take k constructors) (constructor ∷ []) before one)

pub renumbers_all : (start now : TypeNumbering) (a b : Groups (List ℕ)) (constructors : List Constructor) (k : ℕ) → length constructors ≤ k
    → Renumbers start now a b (take k constructors) → Renumbers start now a b constructors
renumbers_all start now a b constructors k past numbers = subst (Renumbers start now a b) (take_all k constructors past) numbers

-- the constructors of types
pub all_constructors : List TypeDef → List Constructor
all_constructors [] = []
all_constructors (declared ∷ rest) = declared.constructors ++ all_constructors rest

constructors_next : (types : List TypeDef) (k : ℕ) (declared : TypeDef) → slice_get types k ≡ Some declared
    → all_constructors (take (suc k) types) ≡ all_constructors (take k types) ++ declared.constructors
unfolding all_constructors
constructors_next [] k declared e = absurd (cc)
constructors_next (t ∷ ts) zero declared e = ap (λ (d : TypeDef). d.constructors ++ []) (same_some e) ∙ append-nil declared.constructors
constructors_next (t ∷ ts) (suc k) declared e =
    ap (λ (l : List Constructor). t.constructors ++ l) (constructors_next ts k declared e)
    ∙ sym (append_assoc t.constructors (all_constructors (take k ts)) declared.constructors)

pub types_none : (old : TypeNumbering) (groups : Groups (List ℕ)) → Grows old old → Renumbers old old groups groups (all_constructors [])
unfolding all_constructors
types_none old groups grows = renumbers_none old groups grows

pub types_more : (start old new : TypeNumbering) (a b c : Groups (List ℕ)) (types : List TypeDef) (k : ℕ) (declared : TypeDef) → slice_get types k ≡ Some declared
    → Renumbers start old a b (all_constructors (take k types)) → Renumbers old new b c declared.constructors
    → Renumbers start new a c (all_constructors (take (k + 1) types))
types_more start old new a b c types k declared is before one =
    subst (Renumbers start new a c) (sym (ap (λ (n : ℕ). all_constructors (take n types)) (add-one k) ∙ constructors_next types k declared is))
    (renumbers_on start old new a b c (all_constructors (take k types)) declared.constructors before one)

find_front : (test : Constructor → Bool) (xs ys : List Constructor) (flag : Bool) → list_any test xs ≡ flag → find test (xs ++ ys) ≡ (if flag then find test xs else find test ys)
find_front test [] ys true e = absurd (cc)
find_front test [] ys false e = refl
find_front test (x ∷ xs) ys flag e = by (test x) refl (find_front test xs ys flag)
  where
    by : (b : Bool) → test x ≡ b → (list_any test xs ≡ flag → find test (xs ++ ys) ≡ (if flag then find test xs else find test ys))
        → find test (x ∷ xs ++ ys) ≡ (if flag then find test (x ∷ xs) else find test ys)
    by true t found =
        let one : list_any test (x ∷ xs) ≡ true = rw t refl in
        let all : flag ≡ true = sym e ∙ one in
        rw (all, t) refl
    by false t found =
        let one : list_any test (x ∷ xs) ≡ list_any test xs = rw t refl in
        rw t (found (sym one ∙ e))

-- the first constructor of all types is the one that is meant
constructor_first : (types : List TypeDef) (name arity : ℕ) → option_map (λ (found : TypeDef × Constructor). found.1) (constructor_in types name arity) ≡ find (has_name name arity) (all_constructors types)
unfolding all_constructors
constructor_first [] name arity = refl
constructor_first (t ∷ ts) name arity = by (list_any (has_name name arity) t.constructors) refl (constructor_first ts name arity)
  where
    once : (o : Option Constructor) → option_map (λ (found : TypeDef × Constructor). found.1) (option_map (λ constructor. (t, constructor)) o) ≡ o
    once None = refl
    once (Some c) = refl

    by : (b : Bool) → list_any (has_name name arity) t.constructors ≡ b
        → option_map (λ (found : TypeDef × Constructor). found.1) (constructor_in ts name arity) ≡ find (has_name name arity) (all_constructors ts)
        → option_map (λ (found : TypeDef × Constructor). found.1) (constructor_in (t ∷ ts) name arity) ≡ find (has_name name arity) (all_constructors (t ∷ ts))
    by true e rest =
        let found = find_front (has_name name arity) t.constructors (all_constructors ts) true e in
        rw e (once (find (has_name name arity) t.constructors) ∙ sym found)
    by false e rest =
        let found = find_front (has_name name arity) t.constructors (all_constructors ts) false e in
        rw e (rest ∙ sym found)

number_of_second : (table : List TypeExpr) (numbers : Option (List ℕ)) (found : Option (TypeDef × Constructor))
    → NumberOf (λ (one : Constructor). one.args) table numbers (option_map (λ (f : TypeDef × Constructor). f.1) found)
    → NumberOf (λ (f : TypeDef × Constructor). f.1.args) table numbers found
number_of_second table None None is = tt
number_of_second table None (Some f) is = absurd is
number_of_second table (Some ns) None is = absurd is
number_of_second table (Some ns) (Some f) is = is

pub types_all : (start now : TypeNumbering) (a b : Groups (List ℕ)) (types : List TypeDef) (k : ℕ) → length types ≤ k → ((n m : ℕ) → kept a n m ≡ [])
    → Renumbers start now a b (all_constructors (take k types)) → NumbersConstructors start now b types
types_all start now a b types k past empty numbers =
    let whole : Renumbers start now a b (all_constructors types) =
    subst (λ (l : List TypeDef). Renumbers start now a b (all_constructors l)) (take_all k types past) numbers in
    let none : NumbersFirst (types_made start.nodes.items) a [] =
    λ name arity. subst (λ (l : List (List ℕ)). NumberOf (λ (one : Constructor). one.args) (types_made start.nodes.items) (slice_get l 0) None) (sym (empty name arity)) tt in
    record {
      grows = whole.grows;
      each = λ name arity.
          number_of_second (types_made now.nodes.items) (slice_get (kept b name arity) 0) (constructor_in types name arity)
          (subst (NumberOf (λ (one : Constructor). one.args) (types_made now.nodes.items) (slice_get (kept b name arity) 0)) (sym (constructor_first types name arity))
          (whole.first [] none name arity));
    }

-- the numbers of what is there
pub numbers_are : {A : Type 0} (types : A → List TypeExpr) (table : List TypeExpr) (numbers : Option (List ℕ)) (declared : Option A) (one : A) → Some one ≡ declared
    → NumberOf types table numbers declared → AreNumbers table (numbers_found numbers) (types one)
numbers_are types table None None one is number = absurd (cc)
numbers_are types table None (Some d) one is number = absurd number
numbers_are types table (Some ns) None one is number = absurd (cc)
numbers_are types table (Some ns) (Some d) one is number = ap (λ l. l) number ∙ ap (λ x. map Some (types x)) (sym (same_some is))

-- all types at some numbers
pub numbers_types : (table : List TypeExpr) (numbers : List ℕ) (types : List TypeExpr) → AreNumbers table numbers types → map (type_at table) numbers ≡ types
numbers_types table [] [] are = refl
numbers_types table [] (t ∷ ts) are = absurd (cc)
numbers_types table (n ∷ ns) [] are = absurd (cc)
numbers_types table (n ∷ ns) (t ∷ ts) are =
    let first : slice_get table n ≡ Some t = cc in
    let others : map (slice_get table) ns ≡ map Some ts = cc in
    let here : type_at table n ≡ t = (type_there table n t first).1 in
    ap (λ (u : TypeExpr). u ∷ map (type_at table) ns) here ∙ ap (λ (l : List TypeExpr). t ∷ l) (numbers_types table ns ts others)

pub numbers_within : (table : List TypeExpr) (numbers : List ℕ) (types : List TypeExpr) → AreNumbers table numbers types → AreWithin table numbers
numbers_within table [] types are = tt
numbers_within table (n ∷ ns) [] are = absurd (cc)
numbers_within table (n ∷ ns) (t ∷ ts) are =
    let first : slice_get table n ≡ Some t = cc in
    let others : map (slice_get table) ns ≡ map Some ts = cc in
    ((type_there table n t first).0, numbers_within table ns ts others)

pub mapped_at : (table : List TypeExpr) (numbers : List ℕ) (i number : ℕ) → slice_get numbers i ≡ Some number → slice_get (map (type_at table) numbers) i ≡ Some (type_at table number)
mapped_at table [] i number e = absurd (cc)
mapped_at table (n ∷ ns) zero number e = ap (λ (k : ℕ). Some (type_at table k)) (same_some e)
mapped_at table (n ∷ ns) (suc i) number e = mapped_at table ns i number e

pub mapped_length : (table : List TypeExpr) (numbers : List ℕ) → length (map (type_at table) numbers) ≡ length numbers
mapped_length table [] = refl
mapped_length table (n ∷ ns) = ap suc (mapped_length table ns)

-- one of them is given
pub given_at : (done : Bool) (first second third : Checker) (place variable number : ℕ) (table : List TypeExpr) → second.graph.table ≡ table
    → Places first second place (λ types instance. types variable)
    → ((Meant : Types → Instances → TypeExpr) → Stands second place Meant → Takes done second third (λ types instance. Meant types instance ≡ type_at second.graph.table number))
    → Takes done first third (λ types instance. types variable ≡ type_at table number)
given_at done first second third place variable number table same placed takes =
    takes_as done first third (λ types instance. types variable ≡ type_at second.graph.table number) (λ types instance. types variable ≡ type_at table number)
    (λ types instance is. is ∙ ap (λ (t : List TypeExpr). type_at t number) same)
    (λ types instance is. is ∙ ap (λ (t : List TypeExpr). type_at t number) (sym same))
    (grow_takes done first second third (λ types instance. types variable ≡ type_at second.graph.table number) placed.grows (takes (λ types instance. types variable) placed.stands))

pub grows_none : (old : TypeNumbering) → IsNumbering old → Grows old old
grows_none old sound = record { sound = sound; extends = ([], sym (append-nil (types_made old.nodes.items))) }

pub declared_all : (known : Module) (declared : DeclaredTypes) (start first now : TypeNumbering) (preds : List PredDecl) (types : List TypeDef)
    → NumbersPredicates start first declared.predicates.items preds → NumbersConstructors first now declared.constructors types
    → declared.table ≡ types_made now.nodes.items → preds ≡ known.preds → types ≡ known.types → AreDeclared known declared
declared_all known declared start first now preds types predicates constructors table preds_are types_are = record {
  predicates = λ number.
      subst (λ (l : List PredDecl). NumberOf (λ (one : PredDecl). one.args) declared.table (slice_get declared.predicates.items number) (slice_get l number)) preds_are
      (subst (λ (t : List TypeExpr). NumberOf (λ (one : PredDecl). one.args) t (slice_get declared.predicates.items number) (slice_get preds number)) (sym table)
      (number_of_stays (λ (one : PredDecl). one.args) (types_made first.nodes.items) (types_made now.nodes.items) (slice_get declared.predicates.items number)
      (slice_get preds number) constructors.grows.extends (predicates.each number)));
  constructors = λ name arity.
      subst (λ (l : List TypeDef). NumberOf (λ (found : TypeDef × Constructor). found.1.args) declared.table (slice_get (kept declared.constructors name arity) 0) (constructor_in l name arity)) types_are
      (subst (λ (t : List TypeExpr). NumberOf (λ (found : TypeDef × Constructor). found.1.args) t (slice_get (kept declared.constructors name arity) 0) (constructor_in types name arity)) (sym table)
      (constructors.each name arity));
}

pub head_are : (table : List TypeExpr) (numbers : Option (List ℕ)) (declared : Option PredDecl) → NumberOf (λ (one : PredDecl). one.args) table numbers declared
    → AreNumbers table (numbers_found numbers) (head_types declared)
head_are table None None number = refl
head_are table None (Some d) number = absurd number
head_are table (Some ns) None number = absurd number
head_are table (Some ns) (Some d) number = number

-- the numbers of predicates' types are there
pub all_at : {A : Type 0} (P : A → Type 0) (xs : List A) (i : ℕ) (x : A) → AllByRecursion P xs → slice_get xs i ≡ Some x → P x
all_at P [] i x all e = absurd (cc)
all_at P (y ∷ ys) zero x all e = subst P (same_some e) all.0
all_at P (y ∷ ys) (suc i) x all e = all_at P ys i x all.1 e

number_within : {A : Type 0} (types : A → List TypeExpr) (table : List TypeExpr) (numbers : List ℕ) (declared : Option A) → NumberOf types table (Some numbers) declared
    → AreWithin table numbers
number_within types table numbers None number = absurd number
number_within types table numbers (Some d) number = numbers_within table numbers (types d) number

pub all_within : {A : Type 0} (types : A → List TypeExpr) (table : List TypeExpr) (numbers : List (List ℕ)) (declared : ℕ → Option A)
    → ((i : ℕ) → NumberOf types table (slice_get numbers i) (declared i)) → AllByRecursion (AreWithin table) numbers
all_within types table [] declared each = tt
all_within types table (first ∷ rest) declared each = (
  number_within types table first (declared zero) (each zero),
  all_within types table rest (λ i. declared (suc i)) (λ i. each (suc i)),
)

pub kept_within : {A : Type 0} (types : A → List TypeExpr) (table : List TypeExpr) (numbers : Option (List ℕ)) (declared : Option A) → NumberOf types table numbers declared
    → IfSome numbers (AreWithin table)
kept_within types table None declared number = tt
kept_within types table (Some ns) declared number = number_within types table ns declared number
