-- Calls of predicates `p(A)`, `q(int, A)` and `r(A, B)`, by the numbers of their declared types, and whether the type variables of an
-- earlier part of the goal serve for them.
use Rattle.std.specs.Prelude.{◌≡◌, ℕ, zero, suc, ◌⊎◌, [], ◌∷◌, List, Option, None, Some, slice_get}
use Rattle.std.specs.Option.{IfSome}
use Rattle.std.specs.Ordering.{nat_cmp}
use Rattle.std.specs.BTreeMap.{get}
use Rattle.std.proofs.Common.{inl, inr, refl, sym, ap, subst, ◌∙◌, arith}
use Rattle.merc_tree.specs.Types.{TypeExpr, TypeVariable, IntType, TextType, replaced}
use Rattle.merc_tree.specs.declared.declarations.Module.{Module}
use Rattle.merc_type_table.specs.Table.{type_at}
use Rattle.merc_type_check.specs.declared.checker.Checker.{Checker}
use Rattle.merc_type_check.specs.declared.checker.UsedType.{UsedType}
use Rattle.merc_type_check.specs.Progress.{used_type, Fits, Instances, Types}
use Rattle.merc_type_check.specs.Serving.{AreTold, IsClosedBut, IsGiven, Serves}

-- the declared types by numbers
abbrev types_declared : List TypeExpr
types_declared = IntType ∷ TypeVariable 8 ∷ TypeVariable 9 ∷ []

-- X is the variable 5, and waits with `A`, which part 2 gave it
abbrev Waits : Checker → Type 0
Waits checker = get nat_cmp checker.waiting 5 ≡ Some (record { number = 1; user = 2 })

abbrev user_of : Option UsedType → ℕ
user_of None = 0
user_of (Some used) = used.user

abbrev all_ints : Types
all_ints number = IntType

abbrev all_texts : Instances
all_texts user name = TextType

-- nothing is known of any variable
abbrev IsFree : Checker → Type 0
IsFree checker = (places types : Types) (instance : Instances) → Fits checker places types instance

-- `q(Y, X)`
IsGiven-second : (checker : Checker) → Waits checker → IsGiven checker (4 ∷ 5 ∷ []) (0 ∷ 1 ∷ []) 1 2
IsGiven-second checker waits = record { index = 1; variable = 5; variable_is = refl; number_is = refl; waits = waits }

-- `p(X)`: part 3 gave X nothing
IsGiven-another : (checker : Checker) → Waits checker → IsGiven checker (5 ∷ []) (1 ∷ []) 1 3 → ⊥
IsGiven-another checker waits given = by given.index given.variable given.variable_is given.waits
  where
    by : (index variable : ℕ) → slice_get (5 ∷ []) index ≡ Some variable → get nat_cmp checker.waiting variable ≡ Some (record { number = 1; user = 3 }) → ⊥
    by zero variable is has =
        let same : 5 ≡ variable = cc in
        let users : ◌≡◌ {A = ℕ} 2 3 = ap user_of (sym waits ∙ ap (get nat_cmp checker.waiting) same ∙ has) in
        omega arith
    by (suc index) variable is has = cc

-- `int`, and `A` itself
IsClosedBut-int : IsClosedBut types_declared 1 0
IsClosedBut-int = inl refl

IsClosedBut-itself : IsClosedBut types_declared 1 1
IsClosedBut-itself = inr refl

-- `B` has a type variable, and is not `A`
IsClosedBut-another : IsClosedBut types_declared 1 2 → ⊥
IsClosedBut-another (inl closed) = cc
IsClosedBut-another (inr same) = omega arith

-- `p(X)`: whatever A is there, X has the type that A is in part 2
AreTold-waits : (checker : Checker) → checker.graph.table ≡ types_declared → Waits checker → AreTold checker 2 (5 ∷ []) (TypeVariable 8 ∷ [])
AreTold-waits checker table waits = λ known places types instance fits own have.
    let had : types 5 ≡ replaced (instance 2) (type_at checker.graph.table 1) =
    subst (λ (o : Option UsedType). IfSome o (λ used. types 5 ≡ used_type checker.graph.table instance used)) waits (fits.waiting 5) in
    (had ∙ ap (λ (t : List TypeExpr). replaced (instance 2) (type_at t 1)) table, tt)

-- where nothing is known, X may be an `int`, and A be `string` in part 2
AreTold-free : (checker : Checker) → IsFree checker → Module → AreTold checker 2 (5 ∷ []) (TypeVariable 8 ∷ []) → ⊥
AreTold-free checker free known told =
    let same : IntType ≡ TextType = (told known all_ints all_ints all_texts (free all_ints all_ints all_texts) all_ints (refl, tt)).0 in cc

-- those of the part that is gone through serve in any case, and those of part 2 do not where it said nothing of X
Serves-own : (checker : Checker) → Serves checker checker.part (5 ∷ []) (TypeVariable 8 ∷ [])
Serves-own checker = record { of_part = omega arith; told = inl refl }

Serves-free : (checker : Checker) → checker.part ≡ 3 → IsFree checker → Module → Serves checker 2 (5 ∷ []) (TypeVariable 8 ∷ []) → ⊥
Serves-free checker part free known serves = by serves.told
  where
    by : (2 ≡ checker.part) ⊎ AreTold checker 2 (5 ∷ []) (TypeVariable 8 ∷ []) → ⊥
    by (inl own) = omega arith
    by (inr told) = AreTold-free checker free known told
