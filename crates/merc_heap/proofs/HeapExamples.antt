-- What the definitions of Heap say of a small heap: the pair of a text with itself, the pair of that pair with 7, and `yes` of that.
use Rattle.std.proofs.Common.{◌≡◌, true, false, Some, pos, List, [], ◌∷◌, refl, ap, arith}
use Rattle.merc_base.specs.Names.{cons_name, nil_name, yes_name}
use Rattle.merc_value.specs.Value.{Value, Int, Text, Con, none, more}
use Rattle.merc_value.specs.Block.{cell_values, value_of}
use Rattle.merc_value.specs.declared.word.Word.TheVariants.{Int as IntWord, Text as TextWord, Cell as CellWord}
use Rattle.merc_heap.specs.Functors.{functor_numbered, inner_number, list_functor, list_number, no_functor, same_functor, Extends, IsNumberOf}
use Rattle.merc_heap.specs.Heap.{cells_of, IsFlat, arguments_in}
use Rattle.merc_heap.specs.declared.functors.Functor.{Functor}
use Rattle.merc_heap.specs.Fields.{Field, field_with}

abbrev others : List Functor
others = record { symbol = yes_name; arity = 1 } ∷ []

abbrev small : List Field
small = field_with 0 (TextWord nil_name) ∷ field_with 1 (TextWord nil_name) ∷ field_with 0 (CellWord 1) ∷ field_with 1 (IntWord (pos 7)) ∷ field_with 2 (CellWord 3) ∷ []

abbrev pair : Value
pair = Con cons_name (more (Text nil_name) (more (Text nil_name) none))

pub value_of-example : value_of (cells_of others small) (CellWord 4) ≡ Con yes_name (more (Con cons_name (more pair (more (Int (pos 7)) none))) none)
unfolding cells_of cell_values
value_of-example = refl

pub arguments_in-example : arguments_in (cells_of others small) (CellWord 3) ≡ CellWord 1 ∷ IntWord (pos 7) ∷ []
unfolding cells_of
arguments_in-example = refl

-- no cell ends with the first field of one
pub arguments_in-inner : arguments_in (cells_of others small) (CellWord 2) ≡ []
unfolding cells_of
arguments_in-inner = refl

-- a cell does not stand for its field
pub value_of-counterexample : value_of (cells_of others small) (CellWord 3) ≡ Int (pos 7) → ⊥
unfolding cells_of cell_values
value_of-counterexample same = cc

-- a cell with more fields than there are up to its place
pub IsFlat-counterexample : IsFlat others (field_with 1 (IntWord (pos 7)) ∷ []) → ⊥
IsFlat-counterexample flat = omega (arith, flat.room 0 (field_with 1 (IntWord (pos 7))) refl)

-- a number that no constructor has
pub IsFlat-counterexample-known : IsFlat others (field_with 3 (IntWord (pos 7)) ∷ []) → ⊥
IsFlat-counterexample-known flat = omega (arith, flat.known 0 (field_with 3 (IntWord (pos 7))) refl)

pub functor_numbered-example : functor_numbered others 2 ≡ record { symbol = yes_name; arity = 1 }
functor_numbered-example = refl

pub functor_numbered-list : functor_numbered others list_number ≡ list_functor
functor_numbered-list = refl

pub functor_numbered-inner : functor_numbered others inner_number ≡ no_functor
functor_numbered-inner = refl

-- a number that no constructor has
pub functor_numbered-none : functor_numbered others 3 ≡ no_functor
functor_numbered-none = refl

abbrev yes_functor : Functor
yes_functor = record { symbol = yes_name; arity = 1 }

pub IsNumberOf-example : IsNumberOf others yes_functor (Some 2)
IsNumberOf-example = (omega arith, refl)

-- the number of another functor is not one of this
pub IsNumberOf-other : IsNumberOf others yes_functor (Some list_number) → ⊥
IsNumberOf-other known =
    let is : Some list_functor ≡ Some yes_functor = known.1 in
    let same : list_functor ≡ yes_functor = cc in
    let counts : 2 ≡ 1 = ap (λ (f : Functor). f.arity) same in
    omega (arith, counts)

pub same_functor-example : same_functor yes_functor yes_functor ≡ true
same_functor-example = refl

-- the same symbol with another number of arguments is another functor
pub same_functor-arity : same_functor yes_functor (record { symbol = yes_name; arity = 2 }) ≡ false
same_functor-arity = refl

-- another symbol with as many arguments is another functor
pub same_functor-symbol : same_functor yes_functor (record { symbol = nil_name; arity = 1 }) ≡ false
same_functor-symbol = refl

pub Extends-example : Extends [] others
Extends-example = record { more = others; grown = refl }

-- a functor is lost
pub Extends-counterexample : Extends others [] → ⊥
Extends-counterexample extends = let grown = extends.grown in cc
