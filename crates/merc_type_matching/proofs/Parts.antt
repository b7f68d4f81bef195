-- Types and their parts.
use Rattle.std.proofs.Common.{◌≡◌, ℕ, zero, suc, ◌+◌, ◌<◌, ◌≤◌, Bool, true, false, Some, List, [], ◌∷◌, length, refl, ap, subst, arith}
use Rattle.std.specs.Prelude.{slice_get, ◌&&◌}
use Rattle.merc_tree.specs.Types.{TypeExpr, TypeExprs, TypeVariable, IntType, TextType, TypeApplication, no_types, more_types, replaced, replaced_all}
use Rattle.merc_type_table.specs.Table.{with_first, is_application, is_closed, are_closed}
use Rattle.merc_type_matching.specs.Listed.{AreWithin}
use Rattle.merc_type_matching.specs.Weights.{type_weight}

same_some : {B : Type 0} {a b : B} → Some a ≡ Some b → a ≡ b
same_some e = cc

and_true : (a b : Bool) → (a && b) ≡ true → (a ≡ true) × (b ≡ true)
and_true true b e = (refl, e)
and_true false b e = absurd (cc)

-- a type without type variables is the same in each instance
mutual
  pub replaced_closed : (instance : ℕ → TypeExpr) (type : TypeExpr) → is_closed type ≡ true → replaced instance type ≡ type
  replaced_closed instance (TypeVariable name) closed = absurd (cc)
  replaced_closed instance IntType closed = refl
  replaced_closed instance TextType closed = refl
  replaced_closed instance (TypeApplication name arguments) closed = ap (TypeApplication name) (replaced_all_closed instance arguments closed)

  pub replaced_all_closed : (instance : ℕ → TypeExpr) (arguments : TypeExprs) → are_closed arguments ≡ true → replaced_all instance arguments ≡ arguments
  replaced_all_closed instance no_types closed = refl
  replaced_all_closed instance (more_types first rest) closed =
      let both = and_true (is_closed first) (are_closed rest) closed in
      let a : replaced instance first ≡ first = replaced_closed instance first both.0 in
      let b : replaced_all instance rest ≡ rest = replaced_all_closed instance rest both.1 in cc

-- how much a type weighs
pub some_weight : (type : TypeExpr) → 1 ≤ type_weight type
some_weight (TypeVariable name) = omega arith
some_weight IntType = omega arith
some_weight TextType = omega arith
some_weight (TypeApplication name arguments) = omega arith

pub split_weight : (first rest : TypeExpr) → is_application rest ≡ true
    → type_weight (with_first first rest) ≡ type_weight first + 1 + type_weight rest
split_weight first (TypeVariable name) e = absurd (cc)
split_weight first IntType e = absurd (cc)
split_weight first TextType e = absurd (cc)
split_weight first (TypeApplication name arguments) e = omega arith

-- the types at numbers are there
pub within_at : (table : List TypeExpr) (numbers : List ℕ) (i number : ℕ) → AreWithin table numbers → slice_get numbers i ≡ Some number → number < length table
within_at table [] i number within e = absurd (cc)
within_at table (n ∷ ns) zero number within e = let same : n ≡ number = same_some e in subst (λ (k : ℕ). k < length table) same within.0
within_at table (n ∷ ns) (suc i) number within e = within_at table ns i number within.1 e
