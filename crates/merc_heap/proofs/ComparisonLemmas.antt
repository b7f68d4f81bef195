-- What is told of two words by what is told of their fields.
use Rattle.std.proofs.Common.{◌≡◌, ◌∙◌, ℕ, ◌+◌, ◌-◌, ◌≤◌, List, ◌∷◌, [], Some, ap, arith, length, map, slice_get, subst, sym, take}
use Rattle.std.specs.Option.{option_map}
use Rattle.std.proofs.lemmas.List.{take_all}
use Rattle.std.proofs.lemmas.Option.{slice_get-map}
use Rattle.merc_value.specs.Block.{CellData, AreLower, IsBelow, value_of}
use Rattle.merc_value.specs.declared.word.Word.{Word}
use Rattle.merc_value.specs.declared.word.Word.TheVariants.{Cell as CellWord}
use Rattle.merc_heap.specs.Fields.{Field}
use Rattle.merc_heap.specs.Heap.{word_of, symbol_of, arguments_in}
use Rattle.merc_heap.specs.Equality.{AreAlike, AreSame, pairs}
use Rattle.merc_heap.specs.Comparison.{Tells}
use Rattle.merc_heap.specs.declared.comparison.Outcome.{Outcome}
use Rattle.merc_heap.specs.declared.comparison.Outcome.TheVariants.{Same, Apart, Open}
use Rattle.merc_heap.proofs.EqualityLemmas.{pairs_next, same_both, split_pairs}

-- what is told of one of two facts that are the same, with a bound that is not larger
pub told_as : {F G : Type 0} (less bound : ℕ) (outcome : Outcome) → (F → G) → (G → F) → less ≤ bound → Tells F less outcome → Tells G bound outcome
told_as less bound (Same left) to from small tells = (to tells.0, omega (arith, small, tells.1))
told_as less bound Apart to from small tells = λ holds. tells (from holds)
told_as less bound Open to from small tells = tt

-- the same of equal words
pub told_again : (cells : List CellData) (one one' other other' : Word) (bound : ℕ) (outcome : Outcome) → one ≡ one' → other ≡ other'
    → Tells (value_of cells one ≡ value_of cells other) bound outcome → Tells (value_of cells one' ≡ value_of cells other') bound outcome
told_again cells one one' other other' bound outcome is is' tells =
    subst (λ (w : Word). Tells (value_of cells w ≡ value_of cells other') bound outcome) is
    (subst (λ (w : Word). Tells (value_of cells one ≡ value_of cells w) bound outcome) is' tells)

-- the word of a field that is read
pub word_read : (fields : List Field) (k : ℕ) (field : Field) (word : Word) → slice_get fields k ≡ Some field → word ≡ field.word
    → slice_get (map word_of fields) k ≡ Some word
word_read fields k field word found is = slice_get-map word_of fields k ∙ ap (option_map word_of) found ∙ ap Some (sym is)

-- cells whose constructors have one number
pub cells_alike : (cells : List CellData) (one other : Word) (place place' symbol : ℕ) → one ≡ CellWord place → other ≡ CellWord place'
    → symbol_of (value_of cells (CellWord place)) ≡ Some symbol → symbol_of (value_of cells (CellWord place)) ≡ symbol_of (value_of cells (CellWord place'))
    → length (arguments_in cells (CellWord place)) ≡ length (arguments_in cells (CellWord place')) → AreAlike cells one other
cells_alike cells one other place place' symbol is is' found same count = record {
  symbol = symbol;
  is_one = ap (λ (w : Word). symbol_of (value_of cells w)) is ∙ found;
  is_other = ap (λ (w : Word). symbol_of (value_of cells w)) is' ∙ sym same ∙ found;
  count = ap (λ (w : Word). length (arguments_in cells w)) is ∙ count ∙ sym (ap (λ (w : Word). length (arguments_in cells w)) is');
}

-- Two words of one constructor, whose fields are compared with one pair fewer.
pub told_of_fields : (cells : List CellData) → AreLower cells → (one other : Word) → IsBelow (length cells) one → IsBelow (length cells) other → AreAlike cells one other
    → (xs ys : List Word) (less bound : ℕ) (outcome : Outcome) → xs ≡ arguments_in cells one → ys ≡ arguments_in cells other → less ≤ bound
    → Tells (AreSame cells (pairs xs ys)) less outcome → Tells (value_of cells one ≡ value_of cells other) bound outcome
told_of_fields cells lower one other below below' alike xs ys less bound outcome is is' small tells =
    let split = split_pairs cells lower one other below below' alike in
    let parts : pairs xs ys ≡ pairs (arguments_in cells one) (arguments_in cells other) = ap (λ (ws : List Word). pairs ws ys) is ∙ ap (pairs (arguments_in cells one)) is' in
    told_as less bound outcome (λ same. split.whole (subst (AreSame cells) parts same)) (λ same. subst (AreSame cells) (sym parts) (split.each same)) small tells

-- the pairs so far are the same, and so are the next words
pub same_next : (cells : List CellData) (xs ys : List Word) (k : ℕ) (x y : Word) → slice_get xs k ≡ Some x → slice_get ys k ≡ Some y
    → AreSame cells (pairs (take k xs) (take k ys)) → value_of cells x ≡ value_of cells y → AreSame cells (pairs (take (k + 1) xs) (take (k + 1) ys))
same_next cells xs ys k x y found found' before same =
    subst (AreSame cells) (sym (pairs_next xs ys k x y found found')) (same_both cells (pairs (take k xs) (take k ys)) ((x, y) ∷ []) before (same, tt))

-- all pairs are the same
pub same_all : (cells : List CellData) (xs ys : List Word) (k : ℕ) → length xs ≤ k → length ys ≤ k → AreSame cells (pairs (take k xs) (take k ys)) → AreSame cells (pairs xs ys)
same_all cells xs ys k all all' same =
    subst (λ (ws : List Word). AreSame cells (pairs ws ys)) (take_all k xs all)
    (subst (λ (ws : List Word). AreSame cells (pairs (take k xs) ws)) (take_all k ys all') same)
