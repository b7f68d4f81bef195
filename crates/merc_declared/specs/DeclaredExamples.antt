-- Declarations and clauses of a file `m`: which types are unknown, which modes are missing or too many, and which items stand alone.
use Rattle.std.specs.Prelude.{◌≡◌, ℕ, ◌*◌, Bool, true, false, List, [], ◌∷◌, ◌++◌, Option, Some, None, replicate, refl}
use Rattle.std.specs.List.{list_any}
use Rattle.std.proofs.Common.{ap, ◌∙◌, sym}
use Rattle.merc_base.specs.Names.{in_name, int_name, string_name, list_name, det_name}
use Rattle.merc_base.specs.FirstPlace.{StandsAt, first_place}
use Rattle.merc_base.specs.declared.place.Place.{Place}
use Rattle.merc_base.specs.declared.place.Span.{Span}
use Rattle.merc_base.specs.declared.refusal.Rule.{Rule}
use Rattle.merc_base.specs.declared.refusal.Rule.TheVariants.{MissingMode, LimitPassed}
use Rattle.merc_base.specs.declared.refusal.Detail.{Detail}
use Rattle.merc_base.specs.declared.refusal.Detail.TheVariants.{Plain, Limit}
use Rattle.merc_base.specs.declared.refusal.LimitName.TheVariants.{Modes}
use Rattle.merc_tree.specs.Term.{Term, Variable, Application, terms_of}
use Rattle.merc_item_forms.specs.Items.{Item, TypeItem, PredicateItem, ModeItem, ClauseItem}
use Rattle.merc_item_forms.specs.FormsExamples.{names, blank, t, plain, m, other, f, p, apply, int, moded}
use Rattle.merc_entries.specs.Entries.{Entry}
use Rattle.merc_entries.specs.EntryValue.{place_at}
use Rattle.merc_declared.specs.UnknownTypes.{has_unknown, HasUnknownType}
use Rattle.merc_declared.specs.ModeFaults.{lacks_mode, has_many_modes, lacks_mode_here, has_many_modes_here, HasModeFault, missing, many, mode_limit}
use Rattle.merc_declared.specs.AloneItems.{is_alone, IsAlone}
use Rattle.merc_declared.specs.ClauseHeads.{is_alone_here}
use Rattle.merc_declared.specs.KnownTypes.{has_unknown_here}
use Rattle.merc_declared.specs.ModeCounts.{earlier, no_modes, too_few, too_many, with_mode}

abbrev span : Span
span = record { first = 0; past = 1; line = 1 }

-- a place on a line of its own
abbrev line : ℕ → Place
line number = record { byte = 10 * number; line = number }

-- an item of the file on a line, and one of a unit that is imported there

abbrev entry : Item → ℕ → Entry
entry item number = record { item = item; span = span; place = line number; unit = None }

abbrev of_unit : ℕ → Item → ℕ → Entry
of_unit unit item number = record { item = item; span = span; place = line number; unit = Some unit }

-- `home.name(..)`
abbrev qualified : ℕ → ℕ → List Term → Term
qualified home name arguments = Application name (Some home) (terms_of arguments) span

-- what stands at a place in a list of one entry

no_split : (front : List Entry) (item : Entry) (back : List Entry) → [] ≡ front ++ item ∷ back → ⊥
no_split [] item back whole = cc
no_split (first ∷ front) item back whole = cc

is_only : (one : Entry) (front : List Entry) (item : Entry) (back : List Entry) → one ∷ [] ≡ front ++ item ∷ back → item ≡ one
is_only one [] item back whole = cc
is_only one (first ∷ front) item back whole = let e : [] ≡ front ++ item ∷ back = cc in absurd (no_split front item back e)

only_passes : (test : Entry → Bool) (one : Entry) (place : Place) → StandsAt place_at test (one ∷ []) place → test one ≡ true
only_passes test one place found = ap test (sym (is_only one found.front found.item found.back found.whole)) ∙ found.passes

-- Types: `:- type f ---> p.` of the file, and `:- type list(T) ---> p.` of the unit `list`

abbrev type_f : Entry
type_f = entry (TypeItem (plain f) (plain p ∷ [])) 1

abbrev type_list : Entry
type_list = of_unit list_name (TypeItem (apply list_name (t ∷ [])) (plain p ∷ [])) 2

abbrev types : List Entry
types = type_f ∷ type_list ∷ []

-- a predicate with an argument of this type, and a type `other(T)` with a constructor over it

abbrev predicate_over : Term → Item
predicate_over type = PredicateItem (apply p (type ∷ [])) None

abbrev type_over : Term → Item
type_over type = TypeItem (apply other (t ∷ [])) (apply p (type ∷ []) ∷ [])

pub known-int : has_unknown names m types (predicate_over int) ≡ false
known-int = refl

pub known-string : has_unknown names m types (predicate_over (plain string_name)) ≡ false
known-string = refl

pub known-own : has_unknown names m types (predicate_over (plain f)) ≡ false
known-own = refl

pub known-unit : has_unknown names m types (predicate_over (apply list_name (int ∷ []))) ≡ false
known-unit = refl

pub known-own_qualifier : has_unknown names m types (predicate_over (qualified m f [])) ≡ false
known-own_qualifier = refl

pub known-unit_qualifier : has_unknown names m types (predicate_over (qualified list_name list_name (int ∷ []))) ≡ false
known-unit_qualifier = refl

pub known-moded : has_unknown names m types (predicate_over (moded (plain f) (plain in_name))) ≡ false
known-moded = refl

-- any variable may stand in a predicate's declaration
pub known-variable : has_unknown names m types (PredicateItem (apply p (t ∷ blank ∷ blank ∷ [])) None) ≡ false
known-variable = refl

pub unknown-name : has_unknown names m types (predicate_over (plain other)) ≡ true
unknown-name = refl

pub unknown-inside : has_unknown names m types (predicate_over (apply list_name (plain other ∷ []))) ≡ true
unknown-inside = refl

pub unknown-arity : has_unknown names m types (predicate_over (plain list_name)) ≡ true
unknown-arity = refl

-- a qualifier tells whose type it is
pub unknown-own_qualifier : has_unknown names m types (predicate_over (qualified m list_name (int ∷ []))) ≡ true
unknown-own_qualifier = refl

pub unknown-unit_qualifier : has_unknown names m types (predicate_over (qualified list_name f [])) ≡ true
unknown-unit_qualifier = refl

pub unknown-int_qualifier : has_unknown names m types (predicate_over (qualified int_name int_name [])) ≡ true
unknown-int_qualifier = refl

-- `int` and `string` have no parameters
pub unknown-int_arity : has_unknown names m types (predicate_over (apply int_name (int ∷ []))) ≡ true
unknown-int_arity = refl

pub unknown-string_arity : has_unknown names m types (predicate_over (apply string_name (int ∷ []))) ≡ true
unknown-string_arity = refl

-- each argument is looked at
pub unknown-second : has_unknown names m types (PredicateItem (apply p (int ∷ plain other ∷ [])) None) ≡ true
unknown-second = refl

-- in a type's declaration each argument of each constructor, whose own name is no type
pub unknown-constructor : has_unknown names m types (TypeItem (plain other) (plain p ∷ apply p (int ∷ plain other ∷ []) ∷ [])) ≡ true
unknown-constructor = refl

pub known-constructor : has_unknown names m types (TypeItem (plain other) (plain p ∷ apply p (int ∷ plain f ∷ []) ∷ [])) ≡ false
known-constructor = refl

-- clauses and modes name no types
pub known-others : list_any (has_unknown names m types) (ClauseItem (apply p (plain other ∷ [])) None ∷ ModeItem (apply p (plain other ∷ [])) None ∷ []) ≡ false
known-others = refl

-- in a type's declaration variables are parameters
pub parameter-known : has_unknown names m types (type_over t) ≡ false
parameter-known = refl

-- and `_` is none
pub parameter-blank : has_unknown names m types (type_over blank) ≡ true
parameter-blank = refl

-- any of the parameters, inside of another type too: `:- type other(U, T) ---> p(list(T)).` and `:- type other(T) ---> p(list(U)).`

abbrev u : Term
u = Variable 2 span

pub parameter-second : has_unknown names m types (TypeItem (apply other (u ∷ t ∷ [])) (apply p (apply list_name (t ∷ []) ∷ []) ∷ [])) ≡ false
parameter-second = refl

pub parameter-inside : has_unknown names m types (type_over (apply list_name (u ∷ []))) ≡ true
parameter-inside = refl

pub parameter-other : has_unknown names m types (TypeItem (plain other) (apply p (t ∷ []) ∷ [])) ≡ true
parameter-other = refl

pub HasUnknownType-example : HasUnknownType names m (types ++ entry (predicate_over (plain other)) 3 ∷ []) (line 3)
HasUnknownType-example = record { front = types; item = entry (predicate_over (plain other)) 3; back = []; whole = refl; passes = refl; there = refl }

-- an unknown type of a unit's own is no fault of the file
pub HasUnknownType-unit : first_place place_at (has_unknown_here names m types) (of_unit list_name (predicate_over (plain other)) 1 ∷ []) ≡ None
HasUnknownType-unit = refl

pub HasUnknownType-known : HasUnknownType names m (entry (predicate_over int) 3 ∷ []) (line 3) → ⊥
HasUnknownType-known found = let t : false ≡ true = only_passes (has_unknown_here names m (entry (predicate_over int) 3 ∷ [])) (entry (predicate_over int) 3) (line 3) found in cc

pub HasUnknownType-of_unit : HasUnknownType names m (of_unit list_name (predicate_over (plain other)) 1 ∷ []) (line 1) → ⊥
HasUnknownType-of_unit found =
    let t : false ≡ true = only_passes (has_unknown_here names m (of_unit list_name (predicate_over (plain other)) 1 ∷ [])) (of_unit list_name (predicate_over (plain other)) 1) (line 1) found in cc

-- Modes

abbrev in_mode : Term
in_mode = plain in_name

abbrev det : Option Term
det = Some (plain det_name)

-- `:- mode p(in) is det.`, and the same without a category

abbrev mode_in : Entry
mode_in = entry (ModeItem (apply p (in_mode ∷ [])) det) 2

abbrev bare_mode : Entry
bare_mode = entry (ModeItem (apply p (in_mode ∷ [])) None) 2

-- `:- pred p(int).`, `:- pred p(int) is det.`, `:- pred p(int::in) is det.` and `:- pred p(int::in).`

abbrev split_p : Item
split_p = PredicateItem (apply p (int ∷ [])) None

abbrev categorized_p : Item
categorized_p = PredicateItem (apply p (int ∷ [])) det

abbrev moded_p : Item
moded_p = PredicateItem (apply p (moded int in_mode ∷ [])) det

abbrev bare_p : Item
bare_p = PredicateItem (apply p (moded int in_mode ∷ [])) None

pub lacks_mode-alone : lacks_mode [] split_p ≡ true
lacks_mode-alone = refl

pub lacks_mode-mode : lacks_mode (mode_in ∷ []) split_p ≡ false
lacks_mode-mode = refl

pub lacks_mode-category_alone : lacks_mode (mode_in ∷ []) categorized_p ≡ true
lacks_mode-category_alone = refl

pub lacks_mode-moded : lacks_mode [] moded_p ≡ false
lacks_mode-moded = refl

pub lacks_mode-bare : lacks_mode [] bare_p ≡ true
lacks_mode-bare = refl

pub lacks_mode-bare_mode : lacks_mode (mode_in ∷ bare_mode ∷ []) split_p ≡ true
lacks_mode-bare_mode = refl

-- a mode of another arity is another predicate's
pub lacks_mode-other : lacks_mode (entry (ModeItem (plain p) det) 2 ∷ []) split_p ≡ true
lacks_mode-other = refl

-- nor does a unit's mode count
pub lacks_mode-unit : lacks_mode (of_unit list_name (ModeItem (apply p (in_mode ∷ [])) det) 2 ∷ []) split_p ≡ true
lacks_mode-unit = refl

-- a predicate without arguments has its mode where a category stands behind
pub lacks_mode-plain : lacks_mode [] (PredicateItem (plain p) det) ≡ false
lacks_mode-plain = refl

-- `:- pred p.` has none but by `:- mode p is det.`

pub lacks_mode-plain_alone : lacks_mode [] (PredicateItem (plain p) None) ≡ true
lacks_mode-plain_alone = refl

pub lacks_mode-plain_mode : lacks_mode (entry (ModeItem (plain p) det) 2 ∷ []) (PredicateItem (plain p) None) ≡ false
lacks_mode-plain_mode = refl

-- a mode without a category beside the one that stands with the predicate
pub lacks_mode-second : lacks_mode (bare_mode ∷ []) moded_p ≡ true
lacks_mode-second = refl

-- but not one of another predicate or of a unit
pub lacks_mode-bare_others : lacks_mode (mode_in ∷ entry (ModeItem (plain p) None) 2 ∷ of_unit list_name (ModeItem (apply p (in_mode ∷ [])) None) 2 ∷ []) split_p ≡ false
lacks_mode-bare_others = refl

-- a mode without a predicate is no fault of modes
pub lacks_mode-mode_alone : lacks_mode (bare_mode ∷ []) (ModeItem (apply p (in_mode ∷ [])) None) ≡ false
lacks_mode-mode_alone = refl

-- nor is what a unit lacks
pub lacks_mode_here-unit : lacks_mode_here [] (of_unit list_name split_p 1) ≡ false
lacks_mode_here-unit = refl

pub mode_limit-is : mode_limit ≡ 16
mode_limit-is = refl

pub has_many_modes-at : has_many_modes (replicate 16 mode_in) split_p ≡ false
has_many_modes-at = refl

pub has_many_modes-above : has_many_modes (replicate 17 mode_in) split_p ≡ true
has_many_modes-above = refl

-- the mode that stands with the predicate is one of them
pub has_many_modes-own : has_many_modes (replicate 16 mode_in) moded_p ≡ true
has_many_modes-own = refl

pub has_many_modes-own_at : has_many_modes (replicate 15 mode_in) moded_p ≡ false
has_many_modes-own_at = refl

-- modes of another predicate and of a unit are none of them
pub has_many_modes-others : has_many_modes (entry (ModeItem (plain p) det) 2 ∷ of_unit list_name (ModeItem (apply p (in_mode ∷ [])) det) 2 ∷ replicate 16 mode_in) split_p ≡ false
has_many_modes-others = refl

pub has_many_modes_here-unit : has_many_modes_here (replicate 17 mode_in) (of_unit list_name split_p 1) ≡ false
has_many_modes_here-unit = refl

pub HasModeFault-missing : HasModeFault (entry split_p 1 ∷ []) MissingMode Plain (line 1)
HasModeFault-missing = missing (line 1) (record { front = []; item = entry split_p 1; back = []; whole = refl; passes = refl; there = refl })

pub HasModeFault-many : HasModeFault (entry split_p 1 ∷ replicate 17 mode_in) LimitPassed (Limit Modes) (line 1)
HasModeFault-many = many (line 1) (record { front = []; item = entry split_p 1; back = replicate 17 mode_in; whole = refl; passes = refl; there = refl })

-- of what is missing and what is too many that which stands first, and at one place what is missing

pub earlier-many : earlier (Some (line 2)) (Some (line 1)) ≡ Some (record { rule = LimitPassed; place = line 1; detail = Limit Modes })
earlier-many = refl

pub earlier-both : earlier (Some (line 1)) (Some (line 1)) ≡ Some (record { rule = MissingMode; place = line 1; detail = Plain })
earlier-both = refl

pub earlier-missing : earlier (Some (line 1)) (Some (line 2)) ≡ Some (too_few (line 1))
earlier-missing = refl

pub earlier-alone : earlier None (Some (line 2)) ≡ Some (too_many (line 2))
earlier-alone = refl

-- one mode without a category is enough
pub with_mode-example : with_mode (with_mode no_modes true) false ≡ record { count = 2; lacks_category = true }
with_mode-example = refl

pub HasModeFault-none : {rule : Rule} {detail : Detail} {place : Place} → HasModeFault (entry moded_p 1 ∷ []) rule detail place → ⊥
HasModeFault-none (missing place found) = let t : false ≡ true = only_passes (lacks_mode_here (entry moded_p 1 ∷ [])) (entry moded_p 1) place found in cc
HasModeFault-none (many place found) = let t : false ≡ true = only_passes (has_many_modes_here (entry moded_p 1 ∷ [])) (entry moded_p 1) place found in cc

-- Clauses and declarations

abbrev clause_p : Item
clause_p = ClauseItem (apply p (int ∷ [])) None

-- `other.p(int).` and `m.p(int).`

abbrev foreign_clause : Item
foreign_clause = ClauseItem (qualified other p (int ∷ [])) None

abbrev own_clause : Item
own_clause = ClauseItem (qualified m p (int ∷ [])) None

pub alone-clause : is_alone m [] clause_p ≡ true
alone-clause = refl

pub alone-declared : is_alone m (entry moded_p 1 ∷ []) clause_p ≡ false
alone-declared = refl

-- a library predicate has no clause in the file
pub alone-library : is_alone m (of_unit list_name moded_p 1 ∷ []) clause_p ≡ true
alone-library = refl

pub alone-foreign : is_alone m (entry moded_p 1 ∷ []) foreign_clause ≡ true
alone-foreign = refl

pub alone-own_qualifier : is_alone m (entry moded_p 1 ∷ []) own_clause ≡ false
alone-own_qualifier = refl

pub alone-mode : is_alone m [] (ModeItem (apply p (in_mode ∷ [])) det) ≡ true
alone-mode = refl

pub alone-mode_declared : is_alone m (entry split_p 1 ∷ []) (ModeItem (apply p (in_mode ∷ [])) det) ≡ false
alone-mode_declared = refl

pub alone-predicate : is_alone m [] moded_p ≡ true
alone-predicate = refl

pub alone-predicate_clause : is_alone m (entry clause_p 2 ∷ []) moded_p ≡ false
alone-predicate_clause = refl

pub alone-predicate_own_qualifier : is_alone m (entry own_clause 2 ∷ []) moded_p ≡ false
alone-predicate_own_qualifier = refl

-- a clause of another module is no clause of the file's predicate
pub alone-predicate_foreign : is_alone m (entry foreign_clause 2 ∷ []) moded_p ≡ true
alone-predicate_foreign = refl

-- nor is one of another arity, or of a unit
pub alone-predicate_arity : is_alone m (entry (ClauseItem (plain p) None) 2 ∷ of_unit list_name clause_p 2 ∷ []) moded_p ≡ true
alone-predicate_arity = refl

-- a mode and a clause declare no predicate, and a mode is no clause of one

pub alone-clause_only : is_alone m (mode_in ∷ entry clause_p 2 ∷ []) clause_p ≡ true
alone-clause_only = refl

pub alone-predicate_only : is_alone m (mode_in ∷ entry split_p 1 ∷ []) split_p ≡ true
alone-predicate_only = refl

-- nor does a predicate of another name, of another arity or of a unit

abbrev others : List Entry
others = entry (PredicateItem (apply f (int ∷ [])) None) 1 ∷ entry (PredicateItem (plain p) None) 1 ∷ of_unit list_name split_p 1 ∷ []

pub alone-clause_others : is_alone m others clause_p ≡ true
alone-clause_others = refl

pub alone-mode_others : is_alone m others (ModeItem (apply p (in_mode ∷ [])) det) ≡ true
alone-mode_others = refl

pub alone-type : is_alone m [] (TypeItem (plain f) (plain p ∷ [])) ≡ false
alone-type = refl

-- `:- pred p(int::in) is det.` on line 2 and `other.p(int).` on line 4: both stand alone, and the first of them decides

abbrev foreign_alone : List Entry
foreign_alone = entry moded_p 2 ∷ entry foreign_clause 4 ∷ []

pub IsAlone-predicate : IsAlone m foreign_alone (line 2)
IsAlone-predicate = record { front = []; item = entry moded_p 2; back = entry foreign_clause 4 ∷ []; whole = refl; passes = refl; there = refl }

pub IsAlone-clause : IsAlone m foreign_alone (line 4)
IsAlone-clause = record { front = entry moded_p 2 ∷ []; item = entry foreign_clause 4; back = []; whole = refl; passes = refl; there = refl }

pub IsAlone-first : first_place place_at (is_alone_here m foreign_alone) foreign_alone ≡ Some (line 2)
IsAlone-first = refl

-- a unit's predicate may have no clause
pub IsAlone-unit : IsAlone m (of_unit list_name moded_p 1 ∷ []) (line 1) → ⊥
IsAlone-unit found = let t : false ≡ true = only_passes (is_alone_here m (of_unit list_name moded_p 1 ∷ [])) (of_unit list_name moded_p 1) (line 1) found in cc
