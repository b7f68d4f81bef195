-- Worked examples of the first arm of a symbol.
use Rattle.std.proofs.Common.{◌≡◌, ◌∙◌, ◌==◌, ℕ, Bool, true, false, cond, List, [], ◌∷◌, pos, Option, Some, None, Less, Equal, is_eq, nat_cmp, if◌then◌else◌, slice_get, arith, ap, sym, refl}
use Rattle.std.specs.BTreeMap.{BTreeMap, get}
use Rattle.std.specs.Map.{lookup}
use Rattle.std.proofs.lemmas.Bool.Decides.{nat_tests}
use Rattle.merc_goal_tree.specs.declared.goal.Symbol.{Symbol}
use Rattle.merc_goal_tree.specs.declared.goal.Symbol.TheVariants.{Constructor, Integer, Text}
use Rattle.merc_load.specs.declared.loaded.Arm.{Arm}
use Rattle.merc_load.specs.declared.arms.Key.{Key}
use Rattle.merc_load.specs.declared.arms.Key.TheVariants.{Constructor as ConstructorKey, Integer as IntegerKey, Text as TextKey}
use Rattle.merc_load.specs.Arms.{AreFirst, FindsFirst, arm_found, compare_keys, first_arm, key_of}

abbrev seven : Arm
seven = record { symbol = Integer (pos 7); fields = None; skipped = 0 }

abbrev pair : Arm
pair = record { symbol = Constructor 20 2; fields = Some (4 ∷ 5 ∷ []); skipped = 2 }

abbrev seven_again : Arm
seven_again = record { symbol = Integer (pos 7); fields = None; skipped = 9 }

abbrev skipped_at : Option Arm → ℕ
skipped_at None = 0
skipped_at (Some arm) = arm.skipped

first_arm-example : first_arm (Integer (pos 7)) (pair ∷ seven ∷ seven_again ∷ []) ≡ Some seven
first_arm-example = refl

-- one name with another number of arguments
first_arm-none : first_arm (Constructor 20 3) (pair ∷ seven ∷ seven_again ∷ []) ≡ None
first_arm-none = refl

-- an arm behind the first one of its symbol
first_arm-not : first_arm (Integer (pos 7)) (pair ∷ seven ∷ seven_again ∷ []) ≡ Some seven_again → ⊥
first_arm-not same = let skipped : ◌≡◌ {A = ℕ} 0 9 = ap skipped_at same in absurd (omega arith)

key_of-example : key_of (Constructor 20 2) ≡ ConstructorKey 20 2
key_of-example = refl

-- a number and the text of that number
key_of-not : key_of (Integer (pos 7)) ≡ TextKey 7 → ⊥
key_of-not same = absurd cc

compare_keys-example : (compare_keys (IntegerKey (pos 5)) (IntegerKey (pos 7)) ≡ Less) × (compare_keys (TextKey 7) (TextKey 7) ≡ Equal)
compare_keys-example = (refl, refl)

-- one name with two numbers of arguments
compare_keys-not : compare_keys (ConstructorKey 20 2) (ConstructorKey 20 3) ≡ Equal → ⊥
compare_keys-not same = absurd cc

arm_found-example : arm_found (pair ∷ seven ∷ []) (Some 1) ≡ Some seven
arm_found-example = refl

arm_found-none : (arm_found (pair ∷ seven ∷ []) (Some 2) ≡ None) × (arm_found (pair ∷ seven ∷ []) None ≡ None)
arm_found-none = (refl, refl)

arm_found-not : arm_found (pair ∷ seven ∷ []) (Some 0) ≡ Some seven → ⊥
arm_found-not same = let skipped : ◌≡◌ {A = ℕ} 2 0 = ap skipped_at same in absurd (omega arith)

-- an arm for the text 5

abbrev five : Arm
five = record { symbol = Text 5; fields = None; skipped = 3 }

is_five : (text : ℕ) → is_eq (nat_cmp text 5) ≡ (5 == text)
is_five text = grind (arith, nat_tests)

module _ (arms : List Arm) where
  chosen : (one other : Bool) → one ≡ other → slice_get arms 0 ≡ Some five → arm_found arms (cond one (Some 0) None) ≡ (if other then Some five else None)
  chosen true true same first = first
  chosen true false same first = absurd cc
  chosen false true same first = absurd cc
  chosen false false same first = refl

  five_found : slice_get arms 0 ≡ Some five → (symbol : Symbol) → arm_found arms (lookup (λ key. is_eq (compare_keys (key_of symbol) key)) ((TextKey 5, 0) ∷ [])) ≡ first_arm symbol (five ∷ [])
  five_found first (Constructor name arity) = refl
  five_found first (Integer number) = refl
  five_found first (Text text) = chosen (is_eq (nat_cmp text 5)) (5 == text) (is_five text) first

-- Given is a map by which it stands at the first place.
module _ (places : BTreeMap Key ℕ) (are : places.entries ≡ (TextKey 5, 0) ∷ []) where
  found : (arms : List Arm) (symbol : Symbol) → arm_found arms (get compare_keys places (key_of symbol)) ≡ arm_found arms (lookup (λ key. is_eq (compare_keys (key_of symbol) key)) ((TextKey 5, 0) ∷ []))
  found arms symbol = ap (λ entries. arm_found arms (lookup (λ key. is_eq (compare_keys (key_of symbol) key)) entries)) are

  finds_first-example : FindsFirst places (five ∷ seven ∷ []) (five ∷ [])
  finds_first-example symbol = found (five ∷ seven ∷ []) symbol ∙ five_found (five ∷ seven ∷ []) refl symbol

  -- another arm stands there
  finds_first-not : FindsFirst places (seven ∷ five ∷ []) (five ∷ []) → ⊥
  finds_first-not finds = let other : ◌≡◌ {A = Option Arm} (Some seven) (Some five) = sym (found (seven ∷ five ∷ []) (Text 5)) ∙ finds (Text 5) in let skipped : ◌≡◌ {A = ℕ} 0 3 = ap skipped_at other in absurd (omega arith)

  are_first-example : AreFirst places (five ∷ [])
  are_first-example symbol = found (five ∷ []) symbol ∙ five_found (five ∷ []) refl symbol

  -- an arm that the map does not find
  are_first-not : AreFirst places (five ∷ seven ∷ []) → ⊥
  are_first-not finds = let lacks : ◌≡◌ {A = Option Arm} None (Some seven) = sym (found (five ∷ seven ∷ []) (Integer (pos 7))) ∙ finds (Integer (pos 7)) in absurd cc
