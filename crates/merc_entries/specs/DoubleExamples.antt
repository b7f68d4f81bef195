-- Doubled declarations: one of each kind, and two modules without any.
use Rattle.std.specs.Prelude.{◌≡◌, ℕ, ◌*◌, Bool, false, true, ◌||◌, List, [], ◌∷◌, ◌++◌, Some, None, refl}
use Rattle.std.specs.List.{list_any, list_all}
use Rattle.std.proofs.Common.{ap, ◌∙◌}
use Rattle.merc_base.specs.Names.{slash_name, less_name, plus_name, minus_name, star_name, slash_slash_name, div_name, mod_name, rem_name, error_name, in_name, out_name, int_name, string_name, list_name, bool_name, maybe_name, require_name, det_name, semidet_name, append_name, colon_colon_name}
use Rattle.merc_base.specs.declared.place.Place.{Place}
use Rattle.merc_base.specs.declared.place.Span.{Span}
use Rattle.merc_tree.specs.Term.{Term, Variable, Application, none, more}
use Rattle.merc_item_forms.specs.Items.{Item, Import, TypeItem, PredicateItem, ModeItem}
use Rattle.merc_entries.specs.Entries.{Entry, Declared, is_key, is_same_mode, constructors_of, key}
use Rattle.merc_entries.specs.DoubleFaults.{IsAgain, HasDouble, type_again, constructor_again, arithmetic, predicate_again, error_again, mode_again, bool_and_maybe, at_start, is_arithmetic, later}
use Rattle.merc_entries.specs.FirstPlaces.{first_double}

abbrev span : Span
span = record { first = 0; past = 1; line = 1 }

-- a place on a line of its own
abbrev line : ℕ → Place
line number = record { byte = 10 * number; line = number }

abbrev entry : Item → ℕ → Entry
entry item number = record { item = item; span = span; place = line number; unit = None }

-- a name alone, and with one and two arguments
abbrev plain : ℕ → Term
plain name = Application name None none span

abbrev with_one : ℕ → Term → Term
with_one name argument = Application name None (more argument none) span

abbrev with_two : ℕ → Term → Term → Term
with_two name first second = Application name None (more first (more second none)) span

-- names of the file

abbrev color_name : ℕ
color_name = 100

abbrev red_name : ℕ
red_name = 101

abbrev blue_name : ℕ
blue_name = 102

abbrev shade_name : ℕ
shade_name = 103

abbrev dark_name : ℕ
dark_name = 104

abbrev t_name : ℕ
t_name = 105

abbrev p_name : ℕ
p_name = 110

abbrev color : List Term → Item
color constructors = TypeItem (plain color_name) constructors

-- `:- type color ---> red.` and `:- type color ---> blue.`
pub type-example : HasDouble (entry (color (plain red_name ∷ [])) 1 ∷ entry (color (plain blue_name ∷ [])) 2 ∷ []) (line 2)
type-example = type_again (line 2) (record {
  front = at_start (key int_name 0) ∷ at_start (key string_name 0) ∷ record { key = key color_name 0; place = line 1 } ∷ [];
  again = record { key = key color_name 0; place = line 2 };
  back = [];
  whole = refl;
  before = refl;
  there = refl;
})

-- `:- type int ---> red.`
pub int-example : HasDouble (entry (TypeItem (plain int_name) (plain red_name ∷ [])) 1 ∷ []) (line 1)
int-example = type_again (line 1) (record {
  front = at_start (key int_name 0) ∷ at_start (key string_name 0) ∷ [];
  again = record { key = key int_name 0; place = line 1 };
  back = [];
  whole = refl;
  before = refl;
  there = refl;
})

-- `:- type color ---> red ; red.`
pub constructor-example : HasDouble (entry (color (plain red_name ∷ plain red_name ∷ [])) 1 ∷ []) (line 1)
constructor-example = constructor_again (line 1) (record {
  front = record { key = key red_name 0; place = line 1 } ∷ [];
  again = record { key = key red_name 0; place = line 1 };
  back = [];
  whole = refl;
  before = refl;
  there = refl;
})

-- `:- type color ---> red.` and `:- type shade ---> dark ; red.`
pub shared_constructor-example : HasDouble (entry (color (plain red_name ∷ [])) 1 ∷ entry (TypeItem (plain shade_name) (plain dark_name ∷ plain red_name ∷ [])) 2 ∷ []) (line 2)
shared_constructor-example = constructor_again (line 2) (record {
  front = record { key = key red_name 0; place = line 1 } ∷ record { key = key dark_name 0; place = line 2 } ∷ [];
  again = record { key = key red_name 0; place = line 2 };
  back = [];
  whole = refl;
  before = refl;
  there = refl;
})

-- `:- type color ---> -(int).`
pub arithmetic-example : HasDouble (entry (color (with_one minus_name (plain int_name) ∷ [])) 1 ∷ []) (line 1)
arithmetic-example = arithmetic [] [] (entry (color (with_one minus_name (plain int_name) ∷ [])) 1) refl refl

-- `:- pred p(int).`, and the same once more
pub predicate-example : HasDouble (entry (PredicateItem (with_one p_name (plain int_name)) None) 1 ∷ entry (PredicateItem (with_one p_name (plain int_name)) None) 3 ∷ []) (line 3)
predicate-example = predicate_again (line 3) (record {
  front = record { key = key p_name 1; place = line 1 } ∷ [];
  again = record { key = key p_name 1; place = line 3 };
  back = [];
  whole = refl;
  before = refl;
  there = refl;
})

-- `:- pred error(string).`, and `:- import_module require.` behind it
pub error-example : HasDouble (entry (PredicateItem (with_one error_name (plain string_name)) None) 1 ∷ entry (Import (plain require_name ∷ [])) 2 ∷ []) (line 2)
error-example =
    error_again [] (entry (Import (plain require_name ∷ [])) 2 ∷ []) (entry (PredicateItem (with_one error_name (plain string_name)) None) 1) (line 2) refl refl refl

-- `:- mode p(in) is det.`, and `:- mode p(in) is semidet.` behind it
pub mode-example : HasDouble (entry (ModeItem (with_one p_name (plain in_name)) (Some (plain det_name))) 1 ∷ entry (ModeItem (with_one p_name (plain in_name)) (Some (plain semidet_name))) 2 ∷ []) (line 2)
mode-example = mode_again (line 2) (record {
  front = record { key = record { predicate = key p_name 1; outputs = false ∷ [] }; place = line 1 } ∷ [];
  again = record { key = record { predicate = key p_name 1; outputs = false ∷ [] }; place = line 2 };
  back = [];
  whole = refl;
  before = refl;
  there = refl;
})

-- `:- import_module maybe.`, and `:- import_module list, bool.` behind it
pub units-example : HasDouble (entry (Import (plain maybe_name ∷ [])) 1 ∷ entry (Import (plain list_name ∷ plain bool_name ∷ [])) 2 ∷ []) (line 2)
units-example = bool_and_maybe (line 2) (line 1) refl refl

-- each arithmetic constructor

pub is_arithmetic-example : list_all is_arithmetic
    (key plus_name 2 ∷ key minus_name 2 ∷ key star_name 2 ∷ key slash_slash_name 2 ∷ key div_name 2 ∷ key mod_name 2 ∷ key rem_name 2 ∷ key minus_name 1 ∷ []) ≡ true
is_arithmetic-example = refl

pub is_arithmetic-not : list_any is_arithmetic (key plus_name 1 ∷ key minus_name 0 ∷ key star_name 3 ∷ key slash_name 2 ∷ key less_name 2 ∷ []) ≡ false
is_arithmetic-not = refl

-- how a list of two splits

no_split : {A : Type 0} (front : List A) (again : A) (back : List A) → [] ≡ front ++ again ∷ back → ⊥
no_split [] again back whole = cc
no_split (first ∷ front) again back whole = cc

or_false : (test : Bool) → (test || false) ≡ true → test ≡ true
or_false true is = refl
or_false false is = is

none_again : {K : Type 0} (same : K → K → Bool) (place : Place) → IsAgain same [] place → ⊥
none_again same place found = no_split found.front found.again found.back found.whole

two_split : {K : Type 0} (same : K → K → Bool) (a b : Declared K) (front : List (Declared K)) (again : Declared K) (back : List (Declared K))
    → same b.key a.key ≡ false → a ∷ b ∷ [] ≡ front ++ again ∷ back → list_any (λ other. same again.key other.key) front ≡ true → ⊥
two_split same a b [] again back apart whole before = cc
two_split same a b (first ∷ []) again back apart whole before = let e = or_false (same again.key first.key) before in cc
two_split {K} same a b (first ∷ second ∷ front) again back apart whole before =
    let e : [] ≡ front ++ again ∷ back = cc in no_split front again back e

two_apart : {K : Type 0} (same : K → K → Bool) (a b : Declared K) (place : Place) → same b.key a.key ≡ false → IsAgain same (a ∷ b ∷ []) place → ⊥
two_apart same a b place apart found = two_split same a b found.front found.again found.back apart found.whole found.before

-- `:- pred p(int).` and `:- pred p(int, int).`
abbrev two_arities : List Entry
two_arities = entry (PredicateItem (with_one p_name (plain int_name)) None) 1 ∷ entry (PredicateItem (with_two p_name (plain int_name) (plain int_name)) None) 2 ∷ []

no_constructor : (found known : Entry) → found ≡ known → constructors_of known.item ≡ [] → list_any is_arithmetic (constructors_of found.item) ≡ true → ⊥
no_constructor found known same without passes =
    let e : constructors_of found.item ≡ [] = ap (λ e. constructors_of e.item) same ∙ without in let t : false ≡ true = rw e at passes in cc

two_arities-arithmetic : (front : List Entry) (found : Entry) (back : List Entry) → two_arities ≡ front ++ found ∷ back → list_any is_arithmetic (constructors_of found.item) ≡ true → ⊥
two_arities-arithmetic [] found back whole passes =
    let same : found ≡ entry (PredicateItem (with_one p_name (plain int_name)) None) 1 = cc in no_constructor found (entry (PredicateItem (with_one p_name (plain int_name)) None) 1) same refl passes
two_arities-arithmetic (first ∷ []) found back whole passes =
    let same : found ≡ entry (PredicateItem (with_two p_name (plain int_name) (plain int_name)) None) 2 = cc in
    no_constructor found (entry (PredicateItem (with_two p_name (plain int_name) (plain int_name)) None) 2) same refl passes
two_arities-arithmetic (first ∷ second ∷ front) found back whole passes = let e : [] ≡ front ++ found ∷ back = cc in no_split front found back e

pub arity-counterexample : (place : Place) → HasDouble two_arities place → ⊥
arity-counterexample _ (type_again place found) = two_apart is_key (at_start (key int_name 0)) (at_start (key string_name 0)) place refl found
arity-counterexample _ (constructor_again place found) = none_again is_key place found
arity-counterexample _ (arithmetic front back found whole passes) = two_arities-arithmetic front found back whole passes
arity-counterexample _ (predicate_again place found) = two_apart is_key (record { key = key p_name 1; place = line 1 }) (record { key = key p_name 2; place = line 2 }) place refl found
arity-counterexample _ (error_again front back found place whole passes imported) = cc
arity-counterexample _ (mode_again place found) = none_again is_same_mode place found
arity-counterexample _ (bool_and_maybe bool maybe a b) = cc

-- `:- import_module bool.` twice
abbrev imported_twice : List Entry
imported_twice = entry (Import (plain bool_name ∷ [])) 1 ∷ entry (Import (plain bool_name ∷ [])) 2 ∷ []

imported_twice-arithmetic : (front : List Entry) (found : Entry) (back : List Entry) → imported_twice ≡ front ++ found ∷ back → list_any is_arithmetic (constructors_of found.item) ≡ true → ⊥
imported_twice-arithmetic [] found back whole passes =
    let same : found ≡ entry (Import (plain bool_name ∷ [])) 1 = cc in no_constructor found (entry (Import (plain bool_name ∷ [])) 1) same refl passes
imported_twice-arithmetic (first ∷ []) found back whole passes =
    let same : found ≡ entry (Import (plain bool_name ∷ [])) 2 = cc in no_constructor found (entry (Import (plain bool_name ∷ [])) 2) same refl passes
imported_twice-arithmetic (first ∷ second ∷ front) found back whole passes = let e : [] ≡ front ++ found ∷ back = cc in no_split front found back e

pub import-counterexample : (place : Place) → HasDouble imported_twice place → ⊥
import-counterexample _ (type_again place found) = two_apart is_key (at_start (key int_name 0)) (at_start (key string_name 0)) place refl found
import-counterexample _ (constructor_again place found) = none_again is_key place found
import-counterexample _ (arithmetic front back found whole passes) = imported_twice-arithmetic front found back whole passes
import-counterexample _ (predicate_again place found) = none_again is_key place found
import-counterexample _ (error_again front back found place whole passes imported) = cc
import-counterexample _ (mode_again place found) = none_again is_same_mode place found
import-counterexample _ (bool_and_maybe bool maybe a b) = cc

-- Where small modules first have something doubled

abbrev of_unit : ℕ → Item → ℕ → Entry
of_unit unit item number = record { item = item; span = span; place = line number; unit = Some unit }

abbrev import_on : ℕ → ℕ → Entry
import_on unit number = entry (Import (plain unit ∷ [])) number

-- of two places, whichever comes first, the later
pub later-second : later (line 1) (line 2) ≡ line 2
later-second = refl

pub later-first : later (line 2) (line 1) ≡ line 2
later-first = refl

-- `bool` on the lines 1 and 3, `maybe` on line 2: the later of their first imports
pub first_double-units : first_double (import_on bool_name 1 ∷ import_on maybe_name 2 ∷ import_on bool_name 3 ∷ []) ≡ Some (line 2)
first_double-units = refl

-- `:- pred error(string).`, behind `require`, and without it

abbrev error_with : Term → Entry
error_with head = entry (PredicateItem head None) 2

pub first_double-error : first_double (import_on require_name 1 ∷ error_with (with_one error_name (plain string_name)) ∷ []) ≡ Some (line 2)
first_double-error = refl

pub first_double-error_alone : first_double (import_on list_name 1 ∷ error_with (with_one error_name (plain string_name)) ∷ []) ≡ None
first_double-error_alone = refl

-- and with other numbers of arguments
pub first_double-error_arity : first_double (import_on require_name 1 ∷ error_with (plain error_name) ∷ error_with (with_two error_name (plain string_name) (plain int_name)) ∷ []) ≡ None
first_double-error_arity = refl

-- a type, constructors and predicates of one name, and those of other numbers of arguments
pub first_double-apart : first_double (
    entry (TypeItem (plain p_name) (plain p_name ∷ with_one p_name (plain int_name) ∷ [])) 1
    ∷ entry (TypeItem (with_one p_name (Variable t_name span)) (plain red_name ∷ [])) 2
    ∷ entry (PredicateItem (with_one p_name (plain int_name)) None) 3
    ∷ entry (PredicateItem (with_two p_name (plain int_name) (plain int_name)) None) 4
    ∷ []) ≡ None
first_double-apart = refl

abbrev mode_of : ℕ → ℕ → Item
mode_of first second = ModeItem (with_two p_name (plain first) (plain second)) (Some (plain det_name))

-- `:- pred p(int::in, int::out) is det.`
abbrev moded_p : Item
moded_p = PredicateItem (with_two p_name (with_two colon_colon_name (plain int_name) (plain in_name)) (with_two colon_colon_name (plain int_name) (plain out_name))) (Some (plain det_name))

-- the mode that stands with a predicate is one of its modes
pub first_double-mode : first_double (entry moded_p 1 ∷ entry (mode_of in_name out_name) 2 ∷ []) ≡ Some (line 2)
first_double-mode = refl

-- each argument tells modes apart
pub first_double-modes : first_double (entry moded_p 1 ∷ entry (mode_of out_name in_name) 2 ∷ entry (mode_of in_name in_name) 3 ∷ []) ≡ None
first_double-modes = refl

-- a mode for a unit's predicate is no second one
pub first_double-unit_mode : first_double (of_unit list_name (mode_of in_name out_name) 1 ∷ entry (mode_of in_name out_name) 2 ∷ []) ≡ None
first_double-unit_mode = refl

-- `:- import_module list.` and a predicate `append/2` of both: the one that stands later is told, the unit's at its import

abbrev append : Item
append = PredicateItem (with_two append_name (plain int_name) (plain int_name)) None

pub first_double-own_last : first_double (import_on list_name 1 ∷ of_unit list_name append 1 ∷ entry append 2 ∷ []) ≡ Some (line 2)
first_double-own_last = refl

pub first_double-own_first : first_double (entry append 1 ∷ import_on list_name 2 ∷ of_unit list_name append 2 ∷ []) ≡ Some (line 2)
first_double-own_first = refl
