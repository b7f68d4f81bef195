-- Parts of a goal whose type variables serve for a call.
use Rattle.std.specs.Prelude.{◌≡◌, ℕ, ◌≤◌, ◌⊎◌, true, List, Some, slice_get}
use Rattle.std.specs.Ordering.{nat_cmp}
use Rattle.std.specs.BTreeMap.{get}
use Rattle.merc_tree.specs.Types.{TypeExpr}
use Rattle.merc_tree.specs.declared.declarations.Module.{Module}
use Rattle.merc_type_table.specs.Table.{is_closed, type_at}
use Rattle.merc_type_check.specs.declared.checker.Checker.{Checker}
use Rattle.merc_type_check.specs.Progress.{Fits, Instances, Types}
use Rattle.merc_type_check.specs.Typing.{HaveTypes}

-- an argument of a call waits with the declared type that the call gives it too, and this part gave it
pub record IsGiven (checker : Checker) (variables numbers : List ℕ) (number user : ℕ) : Type 0 where
  pub index : ℕ
  pub variable : ℕ
  pub variable_is : slice_get variables index ≡ Some variable
  pub number_is : slice_get numbers index ≡ Some number
  pub waits : get nat_cmp checker.waiting variable ≡ Some (record { number = number; user = user })

-- the type at a number has no type variables, or the number is this one
abbrev pub IsClosedBut : List TypeExpr → ℕ → ℕ → Type 0
IsClosedBut table only number = (is_closed (type_at table number) ≡ true) ⊎ (number ≡ only)

-- Whatever the type variables of a call stand for, its variables have the declared types with those of this part too.
abbrev pub AreTold : Checker → ℕ → List ℕ → List TypeExpr → Type 0
AreTold checker user variables declared =
    (known : Module) (places types : Types) (instance : Instances) → Fits checker places types instance → (own : Types) → HaveTypes known types own variables declared
    → HaveTypes known types (instance user) variables declared

-- the type variables are told, or they are those of the part that is gone through
pub record Serves (checker : Checker) (user : ℕ) (variables : List ℕ) (declared : List TypeExpr) : Type 0 where
  pub of_part : user ≤ checker.part
  pub told : (user ≡ checker.part) ⊎ AreTold checker user variables declared
