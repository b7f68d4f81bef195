-- Types by numbers, by example: A is the type variable of the name 8, and 7 is a type's name.
use Rattle.std.proofs.Common.{◌≡◌, ℕ, zero, suc, ◌<◌, Bool, true, false, List, [], ◌∷◌, map, Option, Some, refl, sym, ap, subst, ◌∙◌, arith}
use Rattle.std.specs.Prelude.{slice_get}
use Rattle.merc_tree.specs.Types.{TypeExpr, TypeExprs, TypeVariable, IntType, TextType, TypeApplication, no_types, more_types}
use Rattle.merc_type_table.specs.declared.node.TypeNode.{TypeNode}
use Rattle.merc_type_table.specs.declared.node.TypeNode.TheVariants.{Variable, Int, Text, Name, With}
use Rattle.merc_type_table.specs.Table.{type_at, with_first, made, made_after, types_made, is_application, IsBefore, IsComplete, AreDistinct, is_closed, are_closed, IsTable}

abbrev pub a : TypeExpr
a = TypeVariable 8

abbrev pub bare : TypeExpr
bare = TypeApplication 7 no_types

abbrev pub over : TypeExpr → TypeExpr
over first = TypeApplication 7 (more_types first no_types)

abbrev pub over_two : TypeExpr → TypeExpr → TypeExpr
over_two first second = TypeApplication 7 (more_types first (more_types second no_types))

-- `int`, `string`, A, `7`, `7(A)` and `7(string, A)`
abbrev pub nodes : List TypeNode
nodes = Int ∷ Text ∷ Variable 8 ∷ Name 7 ∷ With 2 3 ∷ With 1 4 ∷ []

abbrev pub types : List TypeExpr
types = IntType ∷ TextType ∷ a ∷ bare ∷ over a ∷ over_two TextType a ∷ []

-- numbers begin with 0, and what is past the last is `int`
type_at-first : type_at (TextType ∷ a ∷ []) 0 ≡ TextType
type_at-first = refl

type_at-last : type_at (TextType ∷ a ∷ []) 1 ≡ a
type_at-last = refl

type_at-past : type_at (TextType ∷ a ∷ []) 2 ≡ IntType
type_at-past = refl

-- one more argument stands before the others, and only a type's name has arguments
with_first-before : with_first TextType (over a) ≡ over_two TextType a
with_first-before = refl

with_first-alone : map (with_first TextType) (IntType ∷ TextType ∷ a ∷ bare ∷ []) ≡ IntType ∷ TextType ∷ a ∷ over TextType ∷ []
with_first-alone = refl

made-each : map (made types) (Int ∷ Text ∷ Variable 9 ∷ Name 9 ∷ With 1 4 ∷ []) ≡ IntType ∷ TextType ∷ TypeVariable 9 ∷ TypeApplication 9 no_types ∷ over_two TextType a ∷ []
made-each = refl

-- types that were there keep their numbers
made_after-others : made_after (bare ∷ []) (Text ∷ With 1 0 ∷ []) ≡ bare ∷ TextType ∷ over TextType ∷ []
made_after-others = refl

types_made-each : types_made nodes ≡ types
types_made-each = refl

-- a node over one that stands behind it has `int` for it
types_made-behind : types_made (Name 7 ∷ With 2 0 ∷ Text ∷ []) ≡ bare ∷ over IntType ∷ TextType ∷ []
types_made-behind = refl

is_application-each : map is_application types ≡ false ∷ false ∷ false ∷ true ∷ true ∷ true ∷ []
is_application-each = refl

-- only types before a node's own number are there for it
IsBefore-yes : IsBefore 3 (With 1 2)
IsBefore-yes = (omega arith, omega arith)

IsBefore-itself_first : IsBefore 3 (With 3 2) → ⊥
IsBefore-itself_first before = let less : 3 < 3 = before.0 in omega arith

IsBefore-itself_rest : IsBefore 3 (With 2 3) → ⊥
IsBefore-itself_rest before = let less : 3 < 3 = before.1 in omega arith

IsBefore-later : IsBefore 3 (With 4 2) → ⊥
IsBefore-later before = let less : 4 < 3 = before.0 in omega arith

IsBefore-others : IsBefore 0 Int × IsBefore 0 Text × IsBefore 0 (Variable 8) × IsBefore 0 (Name 7)
IsBefore-others = (tt, tt, tt, tt)

-- an argument is added to `7` and to `7(A)`, and to none of the others
IsComplete-bare : IsComplete types (With 0 3)
IsComplete-bare = refl

IsComplete-more : IsComplete types (With 4 4)
IsComplete-more = refl

IsComplete-int : IsComplete types (With 3 0) → ⊥
IsComplete-int complete = let wrong : false ≡ true = complete in cc

IsComplete-text : IsComplete types (With 3 1) → ⊥
IsComplete-text complete = let wrong : false ≡ true = complete in cc

IsComplete-variable : IsComplete types (With 3 2) → ⊥
IsComplete-variable complete = let wrong : false ≡ true = complete in cc

IsComplete-others : IsComplete [] Int × IsComplete [] Text × IsComplete [] (Variable 8) × IsComplete [] (Name 7)
IsComplete-others = (tt, tt, tt, tt)

-- a type tells its number, and what is past the last does not count
abbrev count_of : TypeExprs → ℕ
count_of no_types = 3
count_of (more_types first no_types) = 4
count_of (more_types first (more_types second rest)) = 5

abbrev number_of : TypeExpr → ℕ
number_of (TypeVariable name) = 2
number_of IntType = 0
number_of TextType = 1
number_of (TypeApplication name arguments) = count_of arguments

number_told : (number : ℕ) → number < 6 → number_of (type_at types number) ≡ number
number_told zero less = refl
number_told (suc zero) less = refl
number_told (suc (suc zero)) less = refl
number_told (suc (suc (suc zero))) less = refl
number_told (suc (suc (suc (suc zero)))) less = refl
number_told (suc (suc (suc (suc (suc zero))))) less = refl
number_told (suc (suc (suc (suc (suc (suc number)))))) less = absurd (omega arith)

AreDistinct-yes : AreDistinct types
AreDistinct-yes = λ one other one_here other_here same. sym (number_told one one_here) ∙ ap number_of same ∙ number_told other other_here

AreDistinct-not : AreDistinct (IntType ∷ a ∷ IntType ∷ []) → ⊥
AreDistinct-not distinct =
    let one : 0 < 3 = omega arith in
    let other : 2 < 3 = omega arith in
    let same : ◌≡◌ {A = ℕ} 0 2 = distinct 0 2 one other refl in omega arith

-- a type variable is found wherever it stands
is_closed-each : map is_closed (IntType ∷ TextType ∷ a ∷ bare ∷ over IntType ∷ over a ∷ over_two a IntType ∷ over_two IntType a ∷ over (over a) ∷ [])
    ≡ true ∷ true ∷ false ∷ true ∷ true ∷ false ∷ false ∷ false ∷ false ∷ []
is_closed-each = refl

are_closed-each : map are_closed (no_types ∷ more_types TextType no_types ∷ more_types TextType (more_types a no_types) ∷ []) ≡ true ∷ true ∷ false ∷ []
are_closed-each = refl

-- what holds of each node and its number
abbrev pub AllAt : (ℕ → TypeNode → Type 0) → List TypeNode → Type 0
AllAt P [] = Unit {0}
AllAt P (node ∷ rest) = P 0 node × AllAt (λ number. P (suc number)) rest

pub each_at : (P : ℕ → TypeNode → Type 0) (all : List TypeNode) → AllAt P all → (number : ℕ) (node : TypeNode) → slice_get all number ≡ Some node → P number node
each_at P [] holds number node is = absurd (cc)
each_at P (first ∷ rest) holds zero node is = let same : first ≡ node = cc in subst (P 0) same holds.0
each_at P (first ∷ rest) holds (suc number) node is = each_at (λ n. P (suc n)) rest holds.1 number node is

pub nodes_before : (number : ℕ) (node : TypeNode) → slice_get nodes number ≡ Some node → IsBefore number node
nodes_before = each_at IsBefore nodes (tt, (tt, (tt, (tt, ((omega arith, omega arith), ((omega arith, omega arith), tt))))))

pub nodes_complete : (number : ℕ) (node : TypeNode) → slice_get nodes number ≡ Some node → IsComplete types node
nodes_complete = each_at (λ number. IsComplete types) nodes (tt, (tt, (tt, (tt, (refl, (refl, tt))))))

IsTable-yes : IsTable nodes (true ∷ true ∷ false ∷ true ∷ false ∷ false ∷ [])
IsTable-yes = record { before = nodes_before; complete = nodes_complete; distinct = AreDistinct-yes; int = refl; text = refl; closed_are = refl }

-- a node is over itself; a type stands at two numbers; `int` does not stand at 0; `string` does not stand at 1
IsTable-itself : (closed : List Bool) → IsTable (Int ∷ Text ∷ Name 7 ∷ With 3 2 ∷ []) closed → ⊥
IsTable-itself closed table = let less : 3 < 3 = (table.before 3 (With 3 2) refl).0 in omega arith

IsTable-twice : (closed : List Bool) → IsTable (Int ∷ Text ∷ Name 7 ∷ Name 7 ∷ []) closed → ⊥
IsTable-twice closed table =
    let one : 2 < 4 = omega arith in
    let other : 3 < 4 = omega arith in
    let same : ◌≡◌ {A = ℕ} 2 3 = table.distinct 2 3 one other refl in omega arith

IsTable-no_int : (closed : List Bool) → IsTable (Name 7 ∷ Text ∷ []) closed → ⊥
IsTable-no_int closed table = let wrong : ◌≡◌ {A = Option TypeNode} (Some (Name 7)) (Some Int) = table.int in cc

IsTable-no_text : (closed : List Bool) → IsTable (Int ∷ Name 7 ∷ []) closed → ⊥
IsTable-no_text closed table = let wrong : ◌≡◌ {A = Option TypeNode} (Some (Name 7)) (Some Text) = table.text in cc

-- a type variable is told to be none, or nothing is told of a type
IsTable-told_closed : IsTable (Int ∷ Text ∷ Variable 8 ∷ []) (true ∷ true ∷ true ∷ []) → ⊥
IsTable-told_closed table = let wrong : ◌≡◌ {A = List Bool} (true ∷ true ∷ true ∷ []) (true ∷ true ∷ false ∷ []) = table.closed_are in cc

IsTable-not_told : IsTable (Int ∷ Text ∷ Variable 8 ∷ []) (true ∷ true ∷ []) → ⊥
IsTable-not_told table = let wrong : ◌≡◌ {A = List Bool} (true ∷ true ∷ []) (true ∷ true ∷ false ∷ []) = table.closed_are in cc
