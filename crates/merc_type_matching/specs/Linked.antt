-- Names of two sides that are linked.
use Rattle.std.specs.Prelude.{◌≡◌, ◌↔◌, ℕ, zero, suc, ◌<◌, Bool, false, Option, Some, None}
use Rattle.std.specs.Option.{IfSome}
use Rattle.std.specs.Ordering.{nat_cmp}
use Rattle.std.specs.BTreeMap.{get}
use Rattle.std.proofs.Common.{refl, arith}
use Rattle.merc_tree.specs.Types.{TypeExpr, IntType, TextType}
use Rattle.merc_type_matching.specs.declared.linked.LinkedNames.{LinkedNames}

-- names have others that are less
abbrev pub IsFalling : (ℕ → Option ℕ) → Type 0
IsFalling found = (name : ℕ) → IfSome (found name) (λ other. other < name)

-- names have the types of others
abbrev pub HaveTypesOf : (ℕ → Option ℕ) → (ℕ → TypeExpr) → (ℕ → TypeExpr) → Type 0
HaveTypesOf found types others = (name : ℕ) → IfSome (found name) (λ other. others other ≡ types name)

-- the name 1 has the name 0, which is less, and whose type it has where both are `int`, and not where one is `string`
abbrev one_has_zero : ℕ → Option ℕ
one_has_zero zero = None
one_has_zero (suc zero) = Some 0
one_has_zero (suc (suc name)) = None

IsFalling-one : IsFalling one_has_zero
IsFalling-one zero = tt
IsFalling-one (suc zero) = omega arith
IsFalling-one (suc (suc name)) = tt

IsFalling-itself : IsFalling (λ name. Some name) → ⊥
IsFalling-itself is = let less = is 0 in omega arith

HaveTypesOf-ints : HaveTypesOf one_has_zero (λ name. IntType) (λ name. IntType)
HaveTypesOf-ints zero = tt
HaveTypesOf-ints (suc zero) = refl
HaveTypesOf-ints (suc (suc name)) = tt

HaveTypesOf-apart : HaveTypesOf one_has_zero (λ name. IntType) (λ name. TextType) → ⊥
HaveTypesOf-apart have = let same : TextType ≡ IntType = have 1 in cc

-- two instances, one for names of each side, have the same type for all names that are linked
pub record Agree (linked : LinkedNames) (one other : ℕ → TypeExpr) : Type 0 where
  pub lesser : HaveTypesOf (get nat_cmp linked.lesser) one one
  pub beside : HaveTypesOf (get nat_cmp linked.beside) other one

-- the same names are linked
pub record SameLinks (old new : LinkedNames) : Type 0 where
  pub falling : IsFalling (get nat_cmp new.lesser)
  pub least : (name : ℕ) → get nat_cmp old.lesser name ≡ None → get nat_cmp new.lesser name ≡ None
  pub agree : (one other : ℕ → TypeExpr) → Agree new one other ↔ Agree old one other

-- and a name is linked with the least one of its class
pub record LeadsTo (old new : LinkedNames) (name least : ℕ) : Type 0 where
  pub links : SameLinks old new
  pub is_least : get nat_cmp new.lesser least ≡ None
  pub same : (one other : ℕ → TypeExpr) → Agree old one other → one least ≡ one name

-- two names of the first side are linked, which is new or follows
pub record Joins (is_new : Bool) (old new : LinkedNames) (name name' : ℕ) : Type 0 where
  pub falling : IsFalling (get nat_cmp new.lesser)
  pub agree : (one other : ℕ → TypeExpr) → Agree new one other ↔ (Agree old one other × (one name ≡ one name'))
  pub follows : is_new ≡ false → (one other : ℕ → TypeExpr) → Agree old one other → one name ≡ one name'

-- the same of a name of the first side and one of the second
pub record Links (is_new : Bool) (old new : LinkedNames) (name name' : ℕ) : Type 0 where
  pub falling : IsFalling (get nat_cmp new.lesser)
  pub agree : (one other : ℕ → TypeExpr) → Agree new one other ↔ (Agree old one other × (one name ≡ other name'))
  pub follows : is_new ≡ false → (one other : ℕ → TypeExpr) → Agree old one other → one name ≡ other name'
