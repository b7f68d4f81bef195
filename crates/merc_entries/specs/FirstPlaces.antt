-- First places among what is declared, as functions.
use Rattle.std.specs.Prelude.{Bool, List, [], ◌∷◌, ◌++◌, map, Option, Some, None, if◌then◌else◌}
use Rattle.std.specs.List.{list_any}
use Rattle.merc_base.specs.Names.{error_name, bool_name, maybe_name, require_name}
use Rattle.merc_base.specs.FirstPlace.{first_place, earlier}
use Rattle.merc_base.specs.declared.place.Place.{Place}
use Rattle.merc_entries.specs.declared.doubles.again.Declared.{Declared as CodeDeclared}
use Rattle.merc_entries.specs.Entries.{Entry, Declared, is_key, is_same_mode, constructors_of, predicates_of, modes_of, declared_by, key, own_entries}
use Rattle.merc_entries.specs.DoubleFaults.{type_keys, is_arithmetic, import_place, later}

-- what the code's declaration stands for, by what its key stands for
abbrev pub declared_value : {C K : Type 0} → (C → K) → CodeDeclared C → Declared K
declared_value value declared = record { key = value declared.key; place = declared.place }

-- keys that are declared at one place
abbrev pub declared_at : {K : Type 0} → Place → List K → List (Declared K)
declared_at place keys = map (λ key. record { key = key; place = place }) keys

-- the place at which something is first declared again, where some were declared before
abbrev pub again_from : {K : Type 0} → (K → K → Bool) → List (Declared K) → List (Declared K) → Option Place
again_from same seen [] = None
again_from same seen (next ∷ rest) =
    if list_any (λ other. same next.key other.key) seen then Some next.place else again_from same (seen ++ next ∷ []) rest

abbrev pub first_again : {K : Type 0} → (K → K → Bool) → List (Declared K) → Option Place
first_again same declared = again_from same [] declared

-- the place of the first whose key passes a test
abbrev pub first_such : {K : Type 0} → (K → Bool) → List (Declared K) → Option Place
first_such test declared = first_place (λ next. next.place) (λ next. test next.key) declared

-- the later of two places, where both are there
abbrev pub both_later : Option Place → Option Place → Option Place
both_later None b = None
both_later (Some a) None = None
both_later (Some a) (Some b) = Some (later a b)

-- the place of the first constructor that is declared again or is an arithmetic one
abbrev pub constructor_double : List Entry → Option Place
constructor_double entries = earlier (first_again is_key (declared_by constructors_of entries)) (first_such is_arithmetic (declared_by constructors_of entries))

-- the place of the first predicate that is declared again, or of `error/1` beside the unit `require`
abbrev pub predicate_double : List Entry → Option Place
predicate_double entries =
    earlier (first_again is_key (declared_by predicates_of entries))
    (both_later (import_place require_name entries) (first_such (is_key (key error_name 1)) (declared_by predicates_of entries)))

-- the place of the first doubled declaration
abbrev pub first_double : List Entry → Option Place
first_double entries =
    earlier (first_again is_key (type_keys entries))
    (earlier (constructor_double entries)
    (earlier (predicate_double entries)
    (earlier (first_again is_same_mode (declared_by modes_of (own_entries entries)))
    (both_later (import_place bool_name entries) (import_place maybe_name entries)))))
