-- Declared types that are alike but for their type variables.
use Rattle.std.specs.Prelude.{◌≡◌, ◌↔◌, ℕ, List, [], ◌∷◌}
use Rattle.std.specs.List.{AllByRecursion}
use Rattle.std.proofs.Common.{refl}
use Rattle.merc_tree.specs.Types.{TypeExpr, TypeVariable, IntType, TextType, replaced}
use Rattle.merc_type_matching.specs.declared.matching.NamePair.{NamePair}

-- two instances have the same type for both names of each pair
abbrev pub AgreeOn : (ℕ → TypeExpr) → (ℕ → TypeExpr) → List NamePair → Type 0
AgreeOn one other pairs = AllByRecursion (λ (pair : NamePair). one pair.one ≡ other pair.other) pairs

-- Instances of two types are the same exactly where they agree on these pairs.
abbrev pub AreMatched : List NamePair → TypeExpr → TypeExpr → Type 0
AreMatched pairs type another = (one other : ℕ → TypeExpr) → AgreeOn one other pairs ↔ (replaced one type ≡ replaced other another)

-- `A` and `B` are the same where A and B are, and not in any case; `A` and `int` are not whenever A and A are
AreMatched-one : AreMatched (record { one = 8; other = 9 } ∷ []) (TypeVariable 8) (TypeVariable 9)
AreMatched-one = λ one other. ((λ agree. agree.0), (λ same. (same, tt)))

AreMatched-few : AreMatched [] (TypeVariable 8) (TypeVariable 9) → ⊥
AreMatched-few are = let same : IntType ≡ TextType = (are (λ name. IntType) (λ name. TextType)).0 tt in cc

AreMatched-apart : AreMatched (record { one = 8; other = 8 } ∷ []) (TypeVariable 8) IntType → ⊥
AreMatched-apart are = let same : TextType ≡ IntType = (are (λ name. TextType) (λ name. TextType)).0 (refl, tt) in cc
