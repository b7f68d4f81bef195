-- Numbers of types that are kept for one constructor, `some(string)`.
use Rattle.std.specs.Prelude.{◌≡◌, ℕ, ◌<◌, Bool, true, false, cond, List, [], ◌∷◌, Some, None, slice_get}
use Rattle.std.specs.Map.{lookup}
use Rattle.std.specs.Option.{IfSome}
use Rattle.std.proofs.Common.{sym, subst, arith}
use Rattle.merc_base.specs.Groups.{is_key, listed}
use Rattle.merc_base.specs.declared.groups.Groups.{Groups}
use Rattle.merc_base.specs.declared.groups.Key.{Key}
use Rattle.merc_tree.specs.Types.{TypeExpr, IntType, TextType}
use Rattle.merc_type_matching.specs.Listed.{AreWithin}
use Rattle.merc_type_check.specs.TypeNumbers.{AreAllWithin}

-- its argument has the type at number 1
abbrev some_kept : List (Key × List (List ℕ))
some_kept = (record { name = 103; arity = 1 }, (1 ∷ []) ∷ []) ∷ []

-- what is to hold of the numbers that these entries have for a name with so many arguments
abbrev IsKept : List TypeExpr → ℕ → ℕ → List (Key × List (List ℕ)) → Type 0
IsKept table name arity entries = IfSome (slice_get (listed (lookup (is_key name arity) entries)) 0) (AreWithin table)

AreAllWithin-two : (constructors : Groups (List ℕ)) → constructors.by_key.entries ≡ some_kept → AreAllWithin (IntType ∷ TextType ∷ []) constructors
AreAllWithin-two constructors entries = λ name arity.
    subst (IsKept (IntType ∷ TextType ∷ []) name arity) (sym entries) (by (is_key name arity (record { name = 103; arity = 1 })))
  where
    less : 1 < 2
    less = omega arith

    by : (here : Bool) → IfSome (slice_get (listed (cond here (Some ((1 ∷ []) ∷ [])) None)) 0) (AreWithin (IntType ∷ TextType ∷ []))
    by true = (less, tt)
    by false = tt

-- where only `int` has a number, there is no type at 1
AreAllWithin-one : (constructors : Groups (List ℕ)) → constructors.by_key.entries ≡ some_kept → AreAllWithin (IntType ∷ []) constructors → ⊥
AreAllWithin-one constructors entries are =
    let within : AreWithin (IntType ∷ []) (1 ∷ []) = subst (IsKept (IntType ∷ []) 103 1) entries (are 103 1) in
    let less : 1 < 1 = within.0 in
    omega arith
