-- Types by numbers, with lists of their type variables.
use Rattle.std.specs.Prelude.{◌≡◌, ℕ, ◌<◌, Bool, true, false, cond, None, Some, List, [], ◌∷◌, length}
use Rattle.std.specs.Map.{lookup}
use Rattle.std.specs.Option.{IfSome}
use Rattle.std.specs.Ordering.{is_eq, nat_cmp}
use Rattle.std.specs.BTreeMap.{BTreeMap, get, is_at}
use Rattle.std.proofs.Common.{refl, subst, arith}
use Rattle.std.proofs.lemmas.Bool.Decides.{nat_tests}
use Rattle.merc_tree.specs.Types.{TypeExpr, TypeVariable, IntType, TextType}
use Rattle.merc_type_table.specs.Table.{type_at}
use Rattle.merc_type_matching.specs.Matched.{AreMatched}
use Rattle.merc_type_matching.specs.declared.matching.NamePair.{NamePair}

-- there are types at these numbers
abbrev pub AreWithin : List TypeExpr → List ℕ → Type 0
AreWithin table [] = Unit {0}
AreWithin table (number ∷ numbers) = (number < length table) × AreWithin table numbers

AreWithin-yes : AreWithin (IntType ∷ TextType ∷ []) (1 ∷ 0 ∷ 1 ∷ [])
AreWithin-yes = (omega arith, (omega arith, (omega arith, tt)))

AreWithin-not : AreWithin (IntType ∷ TextType ∷ []) (1 ∷ 2 ∷ []) → ⊥
AreWithin-not are = let less = are.1.0 in omega arith

-- each list is of the type variables of the type at its number, each beside itself
abbrev pub AreListed : List TypeExpr → BTreeMap ℕ (List NamePair) → Type 0
AreListed table lists = (number : ℕ) → IfSome (get nat_cmp lists number) (λ pairs. AreMatched pairs (type_at table number) (type_at table number))

-- of `A` the variable A is listed, or none
AreListed-one : (lists : BTreeMap ℕ (List NamePair)) → lists.entries ≡ (0, record { one = 8; other = 8 } ∷ []) ∷ [] → AreListed (TypeVariable 8 ∷ []) lists
AreListed-one lists is number = rw is (by (is_eq (nat_cmp number 0)) refl)
  where
    by : (here : Bool) → is_eq (nat_cmp number 0) ≡ here
        → IfSome (cond here (Some (record { one = 8; other = 8 } ∷ [])) None) (λ pairs. AreMatched pairs (type_at (TypeVariable 8 ∷ []) number) (type_at (TypeVariable 8 ∷ []) number))
    by true e = let same : number ≡ 0 = grind (arith, nat_tests) in rw same (λ one other. ((λ agree. agree.0), (λ same. (same, tt))))
    by false e = tt

AreListed-none : (lists : BTreeMap ℕ (List NamePair)) → lists.entries ≡ (0, []) ∷ [] → AreListed (TypeVariable 8 ∷ []) lists → ⊥
AreListed-none lists is are =
    let matched : AreMatched [] (TypeVariable 8) (TypeVariable 8) =
    subst (λ (es : List (ℕ × List NamePair)). IfSome (lookup (is_at (nat_cmp 0)) es) (λ pairs. AreMatched pairs (TypeVariable 8) (TypeVariable 8))) is (are 0) in
    let same : IntType ≡ TextType = (matched (λ name. IntType) (λ name. TextType)).0 tt in
    cc
