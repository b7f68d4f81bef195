-- Pairs of words whose values are compared.
use Rattle.std.proofs.Common.{◌≡◌, ℕ, zero, suc, ◌+◌, ◌<◌, ◌≤◌, List, [], ◌∷◌, ◌++◌, length, Option, Some, None, refl, sym, ap, subst, ◌∙◌, arith, slice_get, take}
use Rattle.std.specs.List.{All}
use Rattle.merc_value.specs.Value.{Value, Int, Text, Con, none}
use Rattle.merc_value.specs.Block.{CellData, AreLower, IsBelow, word_values, cell_values, value_of, no_value}
use Rattle.merc_value.specs.Writing.{arguments_of, arguments_at}
use Rattle.merc_value.specs.declared.word.Word.{Word}
use Rattle.merc_value.specs.declared.word.Word.TheVariants.{Int as IntWord, Text as TextWord, Atom as AtomWord, Cell as CellWord}
use Rattle.merc_value.proofs.Values.{All-first, All-rest, cell_value_at}
use Rattle.merc_value.proofs.BlockLaws.{all_raised, found_below}
use Rattle.merc_heap.specs.Heap.{symbol_of, arguments_in}
use Rattle.merc_heap.specs.Equality.{size, sizes, pairs, AreSame, weight, IsSplit, AreAlike}

size_some : (value : Value) → 0 < size value
size_some (Int number) = omega arith
size_some (Text text) = omega arith
size_some (Con symbol arguments) = omega arith

-- lists of pairs one behind the other

pub same_front : (cells : List CellData) (xs ys : List (Word × Word)) → AreSame cells (xs ++ ys) → AreSame cells xs
same_front cells [] ys same = tt
same_front cells (x ∷ xs) ys same = (same.0, same_front cells xs ys same.1)

pub same_back : (cells : List CellData) (xs ys : List (Word × Word)) → AreSame cells (xs ++ ys) → AreSame cells ys
same_back cells [] ys same = same
same_back cells (x ∷ xs) ys same = same_back cells xs ys same.1

pub same_both : (cells : List CellData) (xs ys : List (Word × Word)) → AreSame cells xs → AreSame cells ys → AreSame cells (xs ++ ys)
same_both cells [] ys one other = other
same_both cells (x ∷ xs) ys one other = (one.0, same_both cells xs ys one.1 other)

pub weight_both : (cells : List CellData) (xs ys : List (Word × Word)) → weight cells (xs ++ ys) ≡ weight cells xs + weight cells ys
weight_both cells [] ys = omega arith
weight_both cells (x ∷ xs) ys = omega (arith, weight_both cells xs ys)

-- A word whose value is a constructor's has the values of its arguments.
module _ (cells : List CellData) (lower : AreLower cells) where
  pub value_applied : (word : Word) (symbol : ℕ) → IsBelow (length cells) word → symbol_of (value_of cells word) ≡ Some symbol
      → value_of cells word ≡ Con symbol (word_values (cell_values cells) (arguments_in cells word))
  value_applied (IntWord number) symbol below is = absurd (cc)
  value_applied (TextWord name) symbol below is = absurd (cc)
  value_applied (AtomWord name) symbol below is = let same : name ≡ symbol = cc in ap (λ s. Con s none) same
  value_applied (CellWord place) symbol below is = by (found_below cells place below)
    where
      by : (at : CellData) × (slice_get cells place ≡ Some at) → value_of cells (CellWord place) ≡ Con symbol (word_values (cell_values cells) (arguments_at cells place))
      by found =
          let value = cell_value_at cells place found.0 no_value found.1 (lower place found.0 found.1) in
          let symbols : Some found.0.symbol ≡ Some symbol = ap symbol_of (sym value) ∙ is in
          let symbols' : found.0.symbol ≡ symbol = cc in
          value ∙ ap (λ s. Con s (word_values (cell_values cells) found.0.arguments)) symbols'
          ∙ ap (λ o. Con symbol (word_values (cell_values cells) (arguments_of o))) (sym found.1)

  pub arguments_below : (word : Word) → IsBelow (length cells) word → All (IsBelow (length cells)) (arguments_in cells word)
  arguments_below (IntWord number) below k d within = absurd (omega (arith, within))
  arguments_below (TextWord name) below k d within = absurd (omega (arith, within))
  arguments_below (AtomWord name) below k d within = absurd (omega (arith, within))
  arguments_below (CellWord place) below k d within = by (found_below cells place below) k d within
    where
      by : (at : CellData) × (slice_get cells place ≡ Some at) → All (IsBelow (length cells)) (arguments_at cells place)
      by found = subst (λ o. All (IsBelow (length cells)) (arguments_of o)) (sym found.1)
          (all_raised place (length cells) (omega (arith, below)) found.0.arguments (lower place found.0 found.1))

  -- words that are no constructors' are one where their values are
  pub plain_one : (one other : Word) → IsBelow (length cells) one → IsBelow (length cells) other → symbol_of (value_of cells one) ≡ None
      → value_of cells one ≡ value_of cells other → one ≡ other
  plain_one (AtomWord name) other below below' is same = absurd (cc)
  plain_one (CellWord place) other below below' is same = absurd (by (found_below cells place below))
    where
      by : (at : CellData) × (slice_get cells place ≡ Some at) → ⊥
      by found =
          let value = ap symbol_of (cell_value_at cells place found.0 no_value found.1 (lower place found.0 found.1)) in
          absurd (cc (value, is))
  plain_one (IntWord number) (IntWord number') below below' is same = cc
  plain_one (IntWord number) (TextWord name) below below' is same = absurd (cc)
  plain_one (IntWord number) (AtomWord name) below below' is same = absurd (cc)
  plain_one (IntWord number) (CellWord place) below below' is same = absurd (by (found_below cells place below'))
    where
      by : (at : CellData) × (slice_get cells place ≡ Some at) → ⊥
      by found = let value = cell_value_at cells place found.0 no_value found.1 (lower place found.0 found.1) in absurd (cc (value, same))
  plain_one (TextWord name) (IntWord number) below below' is same = absurd (cc)
  plain_one (TextWord name) (TextWord name') below below' is same = cc
  plain_one (TextWord name) (AtomWord name') below below' is same = absurd (cc)
  plain_one (TextWord name) (CellWord place) below below' is same = absurd (by (found_below cells place below'))
    where
      by : (at : CellData) × (slice_get cells place ≡ Some at) → ⊥
      by found = let value = cell_value_at cells place found.0 no_value found.1 (lower place found.0 found.1) in absurd (cc (value, same))

values_count : (values : List Value) (xs ys : List Word) → word_values values xs ≡ word_values values ys → length xs ≡ length ys
values_count values [] [] same = refl
values_count values [] (y ∷ ys) same = absurd (cc)
values_count values (x ∷ xs) [] same = absurd (cc)
values_count values (x ∷ xs) (y ∷ ys) same = let rest : word_values values xs ≡ word_values values ys = cc in ap suc (values_count values xs ys rest)

pairs_whole : (cells : List CellData) (xs ys : List Word) → length xs ≡ length ys → AreSame cells (pairs xs ys) → word_values (cell_values cells) xs ≡ word_values (cell_values cells) ys
pairs_whole cells [] [] count same = refl
pairs_whole cells [] (y ∷ ys) count same = absurd (cc)
pairs_whole cells (x ∷ xs) [] count same = absurd (cc)
pairs_whole cells (x ∷ xs) (y ∷ ys) count same =
    let rest = pairs_whole cells xs ys (omega (arith, count)) same.1 in
    let first = same.0 in
    cc (first, rest)

pairs_each : (cells : List CellData) (xs ys : List Word) → word_values (cell_values cells) xs ≡ word_values (cell_values cells) ys → AreSame cells (pairs xs ys)
pairs_each cells [] ys same = tt
pairs_each cells (x ∷ xs) [] same = tt
pairs_each cells (x ∷ xs) (y ∷ ys) same =
    let first : value_of cells x ≡ value_of cells y = cc in
    let rest : word_values (cell_values cells) xs ≡ word_values (cell_values cells) ys = cc in
    (first, pairs_each cells xs ys rest)

pairs_weight : (cells : List CellData) (xs ys : List Word) → weight cells (pairs xs ys) ≤ sizes (word_values (cell_values cells) xs)
pairs_weight cells [] ys = omega arith
pairs_weight cells (x ∷ xs) [] = omega arith
pairs_weight cells (x ∷ xs) (y ∷ ys) = omega (arith, pairs_weight cells xs ys)

-- two words of one constructor with as many arguments
pub split_pairs : (cells : List CellData) → AreLower cells → (one other : Word) → IsBelow (length cells) one → IsBelow (length cells) other
    → AreAlike cells one other → IsSplit cells one other (pairs (arguments_in cells one) (arguments_in cells other))
split_pairs cells lower one other below below' alike =
    let value = value_applied cells lower one alike.symbol below alike.is_one in
    let value' = value_applied cells lower other alike.symbol below' alike.is_other in
    record {
      whole = λ same. value ∙ ap (Con alike.symbol) (pairs_whole cells (arguments_in cells one) (arguments_in cells other) alike.count same) ∙ sym value';
      each = λ same.
          let con : Con alike.symbol (word_values (cell_values cells) (arguments_in cells one)) ≡ Con alike.symbol (word_values (cell_values cells) (arguments_in cells other)) = sym value ∙ same ∙ value' in
          pairs_each cells (arguments_in cells one) (arguments_in cells other) (cc);
      lighter = omega (arith, pairs_weight cells (arguments_in cells one) (arguments_in cells other), ap size value);
    }

-- words of constructors with other numbers of arguments
pub apart_count : (cells : List CellData) → AreLower cells → (one other : Word) (symbol : ℕ) → IsBelow (length cells) one → IsBelow (length cells) other
    → symbol_of (value_of cells one) ≡ Some symbol → symbol_of (value_of cells other) ≡ Some symbol → value_of cells one ≡ value_of cells other
    → length (arguments_in cells one) ≡ length (arguments_in cells other)
apart_count cells lower one other symbol below below' is is' same =
    let con : Con symbol (word_values (cell_values cells) (arguments_in cells one)) ≡ Con symbol (word_values (cell_values cells) (arguments_in cells other)) =
    sym (value_applied cells lower one symbol below is) ∙ same ∙ value_applied cells lower other symbol below' is' in
    values_count (cell_values cells) (arguments_in cells one) (arguments_in cells other) (cc)

-- the pairs so far and the next one
pub pairs_next : (xs ys : List Word) (k : ℕ) (x y : Word) → slice_get xs k ≡ Some x → slice_get ys k ≡ Some y
    → pairs (take (k + 1) xs) (take (k + 1) ys) ≡ pairs (take k xs) (take k ys) ++ (x, y) ∷ []
pairs_next [] ys k x y found found' = absurd (cc)
pairs_next (first ∷ xs) [] k x y found found' = absurd (cc)
pairs_next (first ∷ xs) (second ∷ ys) zero x y found found' =
    let one : first ≡ x = cc in
    let other : second ≡ y = cc in
    cc (one, other)
pairs_next (first ∷ xs) (second ∷ ys) (suc k) x y found found' =
    let next : suc k + 1 ≡ suc (k + 1) = omega arith in
    ap (λ (n : ℕ). pairs (take n (first ∷ xs)) (take n (second ∷ ys))) next
    ∙ ap (λ (ps : List (Word × Word)). (first, second) ∷ ps) (pairs_next xs ys k x y found found')

word_found : (xs : List Word) (k : ℕ) → k < length xs → (x : Word) × (slice_get xs k ≡ Some x)
word_found [] k within = absurd (omega (arith, within))
word_found (x ∷ xs) zero within = (x, refl)
word_found (x ∷ xs) (suc k) within = word_found xs k (omega (arith, within))

-- the next words of both lists
pub words_found : (xs ys : List Word) (k : ℕ) → k < length xs → length xs ≡ length ys
    → ((x : Word) × (slice_get xs k ≡ Some x)) × ((y : Word) × (slice_get ys k ≡ Some y))
words_found xs ys k within count = (word_found xs k within, word_found ys k (omega (arith, within, count)))

-- the words of one place
pub word_below : (place : ℕ) (xs : List Word) (k : ℕ) (x : Word) → All (IsBelow place) xs → slice_get xs k ≡ Some x → IsBelow place x
word_below place [] k x below found = absurd (cc)
word_below place (first ∷ xs) zero x below found = let one : first ≡ x = cc in subst (IsBelow place) one (All-first (IsBelow place) first xs below)
word_below place (first ∷ xs) (suc k) x below found = word_below place xs k x (All-rest (IsBelow place) first xs below) found

pub pairs_same : (cells : List CellData) (xs ys : List Word) (k : ℕ) (x y : Word) → slice_get xs k ≡ Some x → slice_get ys k ≡ Some y
    → AreSame cells (pairs xs ys) → value_of cells x ≡ value_of cells y
pairs_same cells [] ys k x y found found' same = absurd (cc)
pairs_same cells (first ∷ xs) [] k x y found found' same = absurd (cc)
pairs_same cells (first ∷ xs) (second ∷ ys) zero x y found found' same =
    let one : first ≡ x = cc in
    let other : second ≡ y = cc in
    ap (value_of cells) (sym one) ∙ same.0 ∙ ap (value_of cells) other
pairs_same cells (first ∷ xs) (second ∷ ys) (suc k) x y found found' same = pairs_same cells xs ys k x y found found' same.1

pub no_symbol : (found : Option ℕ) → ((symbol : ℕ) → found ≡ Some symbol → ⊥) → found ≡ None
no_symbol None apart = refl
no_symbol (Some symbol) apart = absurd (apart symbol refl)
