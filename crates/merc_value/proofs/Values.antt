-- The values of a block's cells, by place.
use Rattle.std.proofs.Common.{◌≡◌, ℕ, zero, suc, ◌+◌, ◌<◌, List, [], ◌∷◌, ◌++◌, length, Some, get_or, refl, sym, ap, subst, ◌∙◌, arith, slice_get, length-append}
use Rattle.std.specs.List.{All}
use Rattle.merc_value.specs.Value.{Value, Con}
use Rattle.merc_value.specs.Block.{CellData, IsBelow, word_value, word_values, cell_value, values_behind, cell_values, no_value}
use Rattle.merc_value.specs.declared.word.Word.{Word}
use Rattle.merc_value.specs.declared.word.Word.TheVariants.{Int as IntWord, Text as TextWord, Atom as AtomWord, Cell as CellWord}

-- what holds of each member holds of the first, and of each of the others
pub All-first : {X : Type 0} (P : X → Type 0) (x : X) (xs : List X) → All P (x ∷ xs) → P x
All-first P x xs all = all 0 x (omega arith)

pub All-rest : {X : Type 0} (P : X → Type 0) (x : X) (xs : List X) → All P (x ∷ xs) → All P xs
All-rest P x xs all k d below = all (suc k) d (omega (arith, below))

pub get_or-append_front : {A : Type 0} (vs ws : List A) (k : ℕ) (d : A) → k < length vs → get_or (vs ++ ws) k d ≡ get_or vs k d
get_or-append_front [] ws k d below = absurd (omega (arith, below))
get_or-append_front (v ∷ vs) ws zero d below = refl
get_or-append_front (v ∷ vs) ws (suc k) d below = get_or-append_front vs ws k d (omega (arith, below))

pub get_or-append_last : {A : Type 0} (vs : List A) (v d : A) → get_or (vs ++ v ∷ []) (length vs) d ≡ v
get_or-append_last [] v d = refl
get_or-append_last (w ∷ vs) v d = get_or-append_last vs v d

-- the values of the cells before stay in their places
kept : (vs : List Value) (cells : List CellData) (k : ℕ) (d : Value) → k < length vs → get_or (values_behind vs cells) k d ≡ get_or vs k d
kept vs [] k d below = refl
kept vs (at ∷ cells) k d below =
    kept (vs ++ cell_value vs at ∷ []) cells k d (omega (arith, below, length-append vs (cell_value vs at ∷ [])))
    ∙ get_or-append_front vs (cell_value vs at ∷ []) k d below

word_kept : (vs : List Value) (cells : List CellData) (word : Word) → IsBelow (length vs) word → word_value (values_behind vs cells) word ≡ word_value vs word
word_kept vs cells (IntWord number) below = refl
word_kept vs cells (TextWord name) below = refl
word_kept vs cells (AtomWord symbol) below = refl
word_kept vs cells (CellWord place) below = kept vs cells place no_value below

words_kept : (vs : List Value) (cells : List CellData) (words : List Word) → All (IsBelow (length vs)) words → word_values (values_behind vs cells) words ≡ word_values vs words
words_kept vs cells [] below = refl
words_kept vs cells (word ∷ words) below =
    let first = word_kept vs cells word (All-first (IsBelow (length vs)) word words below) in
    let rest = words_kept vs cells words (All-rest (IsBelow (length vs)) word words below) in
    cc (first, rest)

value_behind : (vs : List Value) (cells : List CellData) (k : ℕ) (at : CellData) (d : Value) → slice_get cells k ≡ Some at
    → All (IsBelow (length vs + k)) at.arguments → get_or (values_behind vs cells) (length vs + k) d ≡ cell_value (values_behind vs cells) at
value_behind vs [] k at d found below = absurd (cc)
value_behind vs (first ∷ cells) zero at d found below =
    let same : first ≡ at = cc in
    let place : length vs + 0 ≡ length vs = omega arith in
    let more_values = length-append vs (cell_value vs first ∷ []) in
    let here : get_or (values_behind vs (first ∷ cells)) (length vs + 0) d ≡ cell_value vs first =
    ap (λ p. get_or (values_behind vs (first ∷ cells)) p d) place
    ∙ kept (vs ++ cell_value vs first ∷ []) cells (length vs) d (omega (arith, more_values))
    ∙ get_or-append_last vs (cell_value vs first) d in
    let below' : All (IsBelow (length vs)) at.arguments = subst (λ (p : ℕ). All (IsBelow p) at.arguments) place below in
    let arguments = words_kept vs (first ∷ cells) at.arguments below' in
    here ∙ ap (cell_value vs) same ∙ ap (Con at.symbol) (sym arguments)
value_behind vs (first ∷ cells) (suc k) at d found below =
    let place : length vs + suc k ≡ length (vs ++ cell_value vs first ∷ []) + k = omega (arith, length-append vs (cell_value vs first ∷ [])) in
    ap (λ p. get_or (values_behind vs (first ∷ cells)) p d) place
    ∙ value_behind (vs ++ cell_value vs first ∷ []) cells k at d found (subst (λ (p : ℕ). All (IsBelow p) at.arguments) place below)

-- a cell's value is that of its constructor with its arguments' values
pub cell_value_at : (cells : List CellData) (place : ℕ) (at : CellData) (d : Value) → slice_get cells place ≡ Some at
    → All (IsBelow place) at.arguments → get_or (cell_values cells) place d ≡ cell_value (cell_values cells) at
unfolding cell_values
cell_value_at cells place at d found below =
    let same : 0 + place ≡ place = omega arith in
    ap (λ p. get_or (values_behind [] cells) p d) (sym same)
    ∙ value_behind [] cells place at d found (subst (λ (p : ℕ). All (IsBelow p) at.arguments) (sym same) below)

behind-snoc : (vs : List Value) (cells : List CellData) (at : CellData) → values_behind vs (cells ++ at ∷ []) ≡ values_behind vs cells ++ cell_value (values_behind vs cells) at ∷ []
behind-snoc vs [] at = refl
behind-snoc vs (first ∷ cells) at = behind-snoc (vs ++ cell_value vs first ∷ []) cells at

-- one cell more has a value of its own, and the others keep theirs
pub cell_values-snoc : (cells : List CellData) (at : CellData) → cell_values (cells ++ at ∷ []) ≡ cell_values cells ++ cell_value (cell_values cells) at ∷ []
unfolding cell_values
cell_values-snoc cells at = behind-snoc [] cells at

length-behind : (vs : List Value) (cells : List CellData) → length (values_behind vs cells) ≡ length vs + length cells
length-behind vs [] = omega arith
length-behind vs (at ∷ cells) = omega (arith, length-behind (vs ++ cell_value vs at ∷ []) cells, length-append vs (cell_value vs at ∷ []))

pub length-cell_values : (cells : List CellData) → length (cell_values cells) ≡ length cells
unfolding cell_values
length-cell_values cells = omega (arith, length-behind [] cells)
