-- The constructors of a heap's cells, which slots name by number.
use Rattle.std.specs.Prelude.{◌≡◌, ◌≤◌, ◌==◌, ◌&&◌, ℕ, Bool, List, ◌∷◌, ◌++◌, Option, Some, IfSome, slice_get, slice_index_or}
use Rattle.merc_base.specs.Names.{nil_name, cons_name}
use Rattle.merc_heap.specs.declared.functors.Functor.{Functor}
use Rattle.merc_heap.specs.declared.slot.TheConstants.{MOST}

-- what a field names at which no cell ends
abbrev pub no_functor : Functor
no_functor = record { symbol = nil_name; arity = 0 }

abbrev pub inner_number : ℕ
inner_number = 0

-- the constructor of lists, with an item and the rest
abbrev pub list_functor : Functor
list_functor = record { symbol = cons_name; arity = 2 }

abbrev pub list_number : ℕ
list_number = 1

-- the functors by number, where these are the others
abbrev pub numbered : List Functor → List Functor
numbered others = no_functor ∷ list_functor ∷ others

abbrev pub functor_numbered : List Functor → ℕ → Functor
functor_numbered others number = slice_index_or (numbered others) number no_functor

-- there may be more functors, behind those that there were
pub record Extends (old new : List Functor) : Type 0 where
  pub more : List Functor
  pub grown : new ≡ old ++ more

abbrev pub same_functor : Functor → Functor → Bool
same_functor one other = (one.symbol == other.symbol) && (one.arity == other.arity)

-- a number that is found for a functor is one that slots hold, and is its own
abbrev pub IsNumberOf : List Functor → Functor → Option ℕ → Type 0
IsNumberOf others functor found = IfSome found (λ number. number ≤ MOST × slice_get (numbered others) number ≡ Some functor)
