-- Shared cells: words are equal where their values are, and one cell more keeps them so.
use Rattle.std.proofs.Common.{◌≡◌, ℕ, zero, suc, ◌<◌, ◌≤◌, ◌⊎◌, inl, inr, List, [], ◌∷◌, ◌++◌, length, map, Option, Some, refl, sym, ap, subst, ◌∙◌, arith, slice_get, get_or, length-append}
use Rattle.std.specs.Prelude.{IfSome}
use Rattle.std.specs.List.{All}
use Rattle.std.proofs.lemmas.Bool.{cases_lt}
use Rattle.merc_value.specs.Value.{Value, Con, none}
use Rattle.merc_value.specs.Block.{CellData, AreLower, IsBelow, word_values, cell_values, value_of, no_value}
use Rattle.merc_value.specs.Sharing.{AreShared, KeepsShared, IsWordFor, moved, AreMoved, no_word}
use Rattle.merc_value.specs.declared.word.Word.{Word}
use Rattle.merc_value.specs.declared.word.Word.TheVariants.{Int as IntWord, Text as TextWord, Atom as AtomWord, Cell as CellWord}
use Rattle.merc_value.proofs.Values.{get_or-append_front, get_or-append_last, All-first, All-rest, cell_value_at}
use Rattle.merc_value.proofs.BlockLaws.{raised, all_raised, found_below, found_within, value_of-with_cell, value_of-new_cell}

-- what is found in a list with one member more
snoc_found : (cells : List CellData) (last at : CellData) (place : ℕ) → slice_get (cells ++ last ∷ []) place ≡ Some at
    → (slice_get cells place ≡ Some at) ⊎ ((place ≡ length cells) × (last ≡ at))
snoc_found [] last at zero found = inr (refl, cc)
snoc_found [] last at (suc place) found = absurd (cc)
snoc_found (first ∷ cells) last at zero found = inl found
snoc_found (first ∷ cells) last at (suc place) found =
    elim (snoc_found cells last at place found) [ inl old ↦ inl old | inr new ↦ inr (ap suc new.0, new.1) ]

-- a cell that is none of the others is put behind them

more_lower : (cells : List CellData) (last : CellData) → AreLower cells → All (IsBelow (length cells)) last.arguments → AreLower (cells ++ last ∷ [])
more_lower cells last lower below place at found =
    elim (snoc_found cells last at place found) [
      | inl old ↦ lower place at old
      | inr new ↦ subst (λ (a : CellData). All (IsBelow place) a.arguments) new.1 (subst (λ (n : ℕ). All (IsBelow n) last.arguments) (sym new.0) below)
    ]

more_apart : (cells : List CellData) (last : CellData) → AreShared cells → ((place : ℕ) → slice_get cells place ≡ Some last → ⊥)
    → (one other : ℕ) (at : CellData) → slice_get (cells ++ last ∷ []) one ≡ Some at → slice_get (cells ++ last ∷ []) other ≡ Some at → one ≡ other
more_apart cells last shared absent one other at found found' = by (snoc_found cells last at one found) (snoc_found cells last at other found')
  where
    by : (slice_get cells one ≡ Some at) ⊎ ((one ≡ length cells) × (last ≡ at)) → (slice_get cells other ≡ Some at) ⊎ ((other ≡ length cells) × (last ≡ at)) → one ≡ other
    by (inl old) (inl old') = shared.apart one other at old old'
    by (inl old) (inr new) = absurd (absent one (old ∙ ap Some (sym new.1)))
    by (inr new) (inl old) = absurd (absent other (old ∙ ap Some (sym new.1)))
    by (inr new) (inr new') = new.0 ∙ sym new'.0

pub keeps_more : (cells : List CellData) (symbol : ℕ) (arguments : List Word) → AreShared cells → All (IsBelow (length cells)) arguments
    → ((place : ℕ) → slice_get cells place ≡ Some (record { symbol = symbol; arguments = arguments }) → ⊥) → (arguments ≡ [] → ⊥)
    → KeepsShared cells (cells ++ record { symbol = symbol; arguments = arguments } ∷ [])
keeps_more cells symbol arguments shared below absent some = record {
  shared = record {
    lower = more_lower cells _ shared.lower below;
    apart = more_apart cells _ shared absent;
    applied = λ place other found. elim (snoc_found cells _ _ place found) [ inl old ↦ shared.applied place other old | inr new ↦ some (ap (λ (a : CellData). a.arguments) new.1) ];
  };
  below = λ word under. raised (length cells) _ (omega (arith, length-append cells (record { symbol = symbol; arguments = arguments } ∷ []))) word under;
  same = λ word under. value_of-with_cell (record { cells = cells; roots = [] }) symbol arguments word under;
}

pub keeps_all : (cells : List CellData) → AreShared cells → KeepsShared cells cells
keeps_all cells shared = record { shared = shared; below = λ word under. under; same = λ word under. refl }

pub keeps_then : (old middle new : List CellData) → KeepsShared old middle → KeepsShared middle new → KeepsShared old new
keeps_then old middle new first second = record {
  shared = second.shared;
  below = λ word under. second.below word (first.below word under);
  same = λ word under. second.same word (first.below word under) ∙ first.same word under;
}

pub word_kept : (old new : List CellData) (value : Value) (word : Word) → KeepsShared old new → IsWordFor old value word → IsWordFor new value word
word_kept old new value word keeps is = record { below = keeps.below word is.below; same = keeps.same word is.below ∙ is.same }

pub new_word : (cells : List CellData) (symbol : ℕ) (arguments : List Word)
    → IsWordFor (cells ++ record { symbol = symbol; arguments = arguments } ∷ []) (Con symbol (word_values (cell_values cells) arguments)) (CellWord (length cells))
new_word cells symbol arguments = record {
  below = omega (arith, length-append cells (record { symbol = symbol; arguments = arguments } ∷ []));
  same = value_of-new_cell (record { cells = cells; roots = [] }) symbol arguments;
}

pub found_word : (cells : List CellData) (place symbol : ℕ) (arguments : List Word) → AreShared cells → slice_get cells place ≡ Some (record { symbol = symbol; arguments = arguments })
    → IsWordFor cells (Con symbol (word_values (cell_values cells) arguments)) (CellWord place)
found_word cells place symbol arguments shared found = record {
  below = found_within cells place _ found;
  same = cell_value_at cells place _ no_value found (shared.lower place _ found);
}

-- words moved

moved_word : (cells shared : List CellData) (words : List Word) → AreMoved cells shared words → (word : Word) → IsBelow (length words) word
    → IsWordFor shared (value_of cells word) (moved words word)
moved_word cells shared words are (IntWord number) below = record { below = tt; same = refl }
moved_word cells shared words are (TextWord name) below = record { below = tt; same = refl }
moved_word cells shared words are (AtomWord symbol) below = record { below = tt; same = refl }
moved_word cells shared words are (CellWord place) below = are place below

pub all_moved_below : (cells shared : List CellData) (words : List Word) → AreMoved cells shared words → (arguments : List Word) → All (IsBelow (length words)) arguments
    → All (IsBelow (length shared)) (map (moved words) arguments)
all_moved_below cells shared words are [] below k d within = absurd (omega (arith, within))
all_moved_below cells shared words are (word ∷ arguments) below zero d within = (moved_word cells shared words are word (All-first (IsBelow (length words)) word arguments below)).below
all_moved_below cells shared words are (word ∷ arguments) below (suc k) d within =
    all_moved_below cells shared words are arguments (All-rest (IsBelow (length words)) word arguments below) k d (omega (arith, within))

pub all_moved_same : (cells shared : List CellData) (words : List Word) → AreMoved cells shared words → (arguments : List Word) → All (IsBelow (length words)) arguments
    → word_values (cell_values shared) (map (moved words) arguments) ≡ word_values (cell_values cells) arguments
all_moved_same cells shared words are [] below = refl
all_moved_same cells shared words are (word ∷ arguments) below =
    let first = (moved_word cells shared words are word (All-first (IsBelow (length words)) word arguments below)).same in
    let rest = all_moved_same cells shared words are arguments (All-rest (IsBelow (length words)) word arguments below) in
    cc (first, rest)

same_cell : (one other : CellData) → one.symbol ≡ other.symbol → one.arguments ≡ other.arguments → one ≡ other
same_cell one other symbols arguments = λ i. record { symbol = symbols i; arguments = arguments i }

-- Words with one value are one, by induction on a place above all that they lead to.
module _ (cells : List CellData) (shared : AreShared cells) where
  each_one : (bound : ℕ) → ((x y : Word) → IsBelow bound x → IsBelow bound y → value_of cells x ≡ value_of cells y → x ≡ y)
      → (xs ys : List Word) → All (IsBelow bound) xs → All (IsBelow bound) ys → word_values (cell_values cells) xs ≡ word_values (cell_values cells) ys → xs ≡ ys
  each_one bound one [] [] below below' same = refl
  each_one bound one [] (y ∷ ys) below below' same = absurd (cc)
  each_one bound one (x ∷ xs) [] below below' same = absurd (cc)
  each_one bound one (x ∷ xs) (y ∷ ys) below below' same =
      let first : value_of cells x ≡ value_of cells y = cc in
      let others : word_values (cell_values cells) xs ≡ word_values (cell_values cells) ys = cc in
      let first' = one x y (All-first (IsBelow bound) x xs below) (All-first (IsBelow bound) y ys below') first in
      let others' = each_one bound one xs ys (All-rest (IsBelow bound) x xs below) (All-rest (IsBelow bound) y ys below') others in
      cc (first', others')

  same_cells : (bound p q : ℕ) (at at' : CellData) → slice_get cells p ≡ Some at → slice_get cells q ≡ Some at' → p ≤ bound → q ≤ bound
      → ((x y : Word) → IsBelow bound x → IsBelow bound y → value_of cells x ≡ value_of cells y → x ≡ y)
      → value_of cells (CellWord p) ≡ value_of cells (CellWord q) → CellWord p ≡ CellWord q
  same_cells bound p q at at' found found' under under' one same =
      let values : Con at.symbol (word_values (cell_values cells) at.arguments) ≡ Con at'.symbol (word_values (cell_values cells) at'.arguments) =
      sym (cell_value_at cells p at no_value found (shared.lower p at found)) ∙ same ∙ cell_value_at cells q at' no_value found' (shared.lower q at' found') in
      let symbols : at.symbol ≡ at'.symbol = cc in
      let inner : word_values (cell_values cells) at.arguments ≡ word_values (cell_values cells) at'.arguments = cc in
      let arguments : at.arguments ≡ at'.arguments =
      each_one bound one at.arguments at'.arguments (all_raised p bound under at.arguments (shared.lower p at found)) (all_raised q bound under' at'.arguments (shared.lower q at' found')) inner in
      let cell : at' ≡ at = same_cell at' at (sym symbols) (sym arguments) in
      ap CellWord (shared.apart p q at found (found' ∙ ap Some cell))

  atom_apart : (symbol p : ℕ) (at : CellData) → slice_get cells p ≡ Some at → Con symbol none ≡ value_of cells (CellWord p) → ⊥
  atom_apart symbol p at found same = with_arguments at.arguments refl
    where
      value : Con symbol none ≡ Con at.symbol (word_values (cell_values cells) at.arguments)
      value = same ∙ cell_value_at cells p at no_value found (shared.lower p at found)

      with_arguments : (words : List Word) → at.arguments ≡ words → ⊥
      with_arguments [] empty =
          let cell : at ≡ record { symbol = at.symbol; arguments = [] } = same_cell at (record { symbol = at.symbol; arguments = [] }) refl empty in
          shared.applied p at.symbol (found ∙ ap Some cell)
      with_arguments (word ∷ words) some =
          let value' : Con symbol none ≡ Con at.symbol (word_values (cell_values cells) (word ∷ words)) = value ∙ ap (λ ws. Con at.symbol (word_values (cell_values cells) ws)) some in
          cc

  one_below : (bound : ℕ) → bound ≤ length cells → (x y : Word) → IsBelow bound x → IsBelow bound y → value_of cells x ≡ value_of cells y → x ≡ y
  one_below bound within (IntWord x) (IntWord y) below below' same = cc
  one_below bound within (IntWord x) (TextWord y) below below' same = absurd (cc)
  one_below bound within (IntWord x) (AtomWord y) below below' same = absurd (cc)
  one_below bound within (IntWord x) (CellWord q) below below' same =
      let found : (at : CellData) × (slice_get cells q ≡ Some at) = found_below cells q (omega (arith, below', within)) in
      let value = cell_value_at cells q found.0 no_value found.1 (shared.lower q found.0 found.1) in
      absurd (cc (value, same))
  one_below bound within (TextWord x) (IntWord y) below below' same = absurd (cc)
  one_below bound within (TextWord x) (TextWord y) below below' same = cc
  one_below bound within (TextWord x) (AtomWord y) below below' same = absurd (cc)
  one_below bound within (TextWord x) (CellWord q) below below' same =
      let found : (at : CellData) × (slice_get cells q ≡ Some at) = found_below cells q (omega (arith, below', within)) in
      let value = cell_value_at cells q found.0 no_value found.1 (shared.lower q found.0 found.1) in
      absurd (cc (value, same))
  one_below bound within (AtomWord x) (IntWord y) below below' same = absurd (cc)
  one_below bound within (AtomWord x) (TextWord y) below below' same = absurd (cc)
  one_below bound within (AtomWord x) (AtomWord y) below below' same = cc
  one_below bound within (AtomWord x) (CellWord q) below below' same =
      let found : (at : CellData) × (slice_get cells q ≡ Some at) = found_below cells q (omega (arith, below', within)) in
      absurd (atom_apart x q found.0 found.1 same)
  one_below bound within (CellWord p) (IntWord y) below below' same =
      let found : (at : CellData) × (slice_get cells p ≡ Some at) = found_below cells p (omega (arith, below, within)) in
      let value = cell_value_at cells p found.0 no_value found.1 (shared.lower p found.0 found.1) in
      absurd (cc (value, same))
  one_below bound within (CellWord p) (TextWord y) below below' same =
      let found : (at : CellData) × (slice_get cells p ≡ Some at) = found_below cells p (omega (arith, below, within)) in
      let value = cell_value_at cells p found.0 no_value found.1 (shared.lower p found.0 found.1) in
      absurd (cc (value, same))
  one_below bound within (CellWord p) (AtomWord y) below below' same =
      let found : (at : CellData) × (slice_get cells p ≡ Some at) = found_below cells p (omega (arith, below, within)) in
      absurd (atom_apart y p found.0 found.1 (sym same))
  one_below zero within (CellWord p) (CellWord q) below below' same = absurd (omega (arith, below))
  one_below (suc bound) within (CellWord p) (CellWord q) below below' same =
      let found : (at : CellData) × (slice_get cells p ≡ Some at) = found_below cells p (omega (arith, below, within)) in
      let found' : (at : CellData) × (slice_get cells q ≡ Some at) = found_below cells q (omega (arith, below', within)) in
      same_cells bound p q found.0 found'.0 found.1 found'.1 (omega (arith, below)) (omega (arith, below')) (one_below bound (omega (arith, within))) same

  -- words with one value are one
  pub one_word : (x y : Word) → IsBelow (length cells) x → IsBelow (length cells) y → value_of cells x ≡ value_of cells y → x ≡ y
  one_word x y below below' same = one_below (length cells) (omega arith) x y below below' same

some_found : (values : List Value) (k : ℕ) → k < length values → (value : Value) × (slice_get values k ≡ Some value)
some_found [] k within = absurd (omega (arith, within))
some_found (value ∷ values) zero within = (value, refl)
some_found (value ∷ values) (suc k) within = some_found values k (omega (arith, within))

-- two words are one exactly where the values are that they are the words for
pub same_roots : (old new : List CellData) (values values' : List Value) (i j : ℕ) (one other : Word) → i < length values → j < length values'
    → IfSome (slice_get values i) (λ value. IsWordFor old value one) → KeepsShared old new → IfSome (slice_get values' j) (λ value. IsWordFor new value other)
    → (one ≡ other → slice_get values i ≡ slice_get values' j) × (slice_get values i ≡ slice_get values' j → one ≡ other)
same_roots old new values values' i j one other within within' is keeps is' =
    let found = some_found values i within in
    let found' = some_found values' j within' in
    by found.0 found'.0 found.1 found'.1
  where
    by : (value value' : Value) → slice_get values i ≡ Some value → slice_get values' j ≡ Some value'
        → (one ≡ other → slice_get values i ≡ slice_get values' j) × (slice_get values i ≡ slice_get values' j → one ≡ other)
    by value value' found found' =
        let old_word : IsWordFor old value one = subst (λ (o : Option Value). IfSome o (λ value. IsWordFor old value one)) found is in
        let word = word_kept old new value one keeps old_word in
        let word' : IsWordFor new value' other = subst (λ (o : Option Value). IfSome o (λ value. IsWordFor new value other)) found' is' in (
          (λ same. found ∙ ap Some (sym word.same ∙ ap (value_of new) same ∙ word'.same) ∙ sym found'),
          (λ same. let values_same : value ≡ value' = cc in one_word new keeps.shared one other word.below word'.below (word.same ∙ values_same ∙ sym word'.same)),
        )

-- a word more for the next cell
pub moved_more : (cells old new : List CellData) (words : List Word) (at : CellData) (word : Word) → AreLower cells → AreMoved cells old words → KeepsShared old new
    → slice_get cells (length words) ≡ Some at → IsWordFor new (Con at.symbol (word_values (cell_values old) (map (moved words) at.arguments))) word
    → AreMoved cells new (words ++ word ∷ [])
moved_more cells old new words at word lower are keeps found is place within = by (cases_lt place (length words))
  where
    by : (place < length words) ⊎ (length words ≤ place) → IsWordFor new (value_of cells (CellWord place)) (get_or (words ++ word ∷ []) place no_word)
    by (inl before) =
        subst (λ (w : Word). IsWordFor new (value_of cells (CellWord place)) w) (sym (get_or-append_front words (word ∷ []) place no_word before))
        (word_kept old new (value_of cells (CellWord place)) (get_or words place no_word) keeps (are place before))
    by (inr behind) =
        let here : length words ≡ place = omega (arith, within, behind, length-append words (word ∷ [])) in
        let here_word : word ≡ get_or (words ++ word ∷ []) place no_word =
        sym (get_or-append_last words word no_word) ∙ ap (λ (n : ℕ). get_or (words ++ word ∷ []) n no_word) here in
        let below = lower (length words) at found in
        let value : Con at.symbol (word_values (cell_values old) (map (moved words) at.arguments)) ≡ value_of cells (CellWord place) =
        ap (Con at.symbol) (all_moved_same cells old words are at.arguments below)
        ∙ sym (cell_value_at cells (length words) at no_value found below)
        ∙ ap (λ (n : ℕ). value_of cells (CellWord n)) here in
        subst (λ (w : Word). IsWordFor new (value_of cells (CellWord place)) w) here_word (subst (λ (v : Value). IsWordFor new v word) value is)

-- the arguments of the next cell, once the cells before it have their words

pub next_below : (cells : List CellData) (index : ℕ) (at : CellData) (words words' arguments : List Word) → AreLower cells → slice_get cells index ≡ Some at
    → length words ≡ index → words' ≡ words → arguments ≡ at.arguments → All (IsBelow (length words')) arguments
next_below cells index at words words' arguments lower found count same same' =
    let count' : index ≡ length words' = sym count ∙ ap length (sym same) in
    subst (λ (n : ℕ). All (IsBelow n) arguments) count' (subst (All (IsBelow index)) (sym same') (lower index at found))

pub next_moved_below : (cells shared : List CellData) (index : ℕ) (at : CellData) (words words' arguments moved_arguments : List Word) → AreLower cells → slice_get cells index ≡ Some at
    → length words ≡ index → words' ≡ words → arguments ≡ at.arguments → AreMoved cells shared words → moved_arguments ≡ map (moved words') arguments
    → All (IsBelow (length shared)) moved_arguments
next_moved_below cells shared index at words words' arguments moved_arguments lower found count same same' are is =
    subst (All (IsBelow (length shared))) (sym is)
    (all_moved_below cells shared words' (subst (AreMoved cells shared) (sym same) are) arguments (next_below cells index at words words' arguments lower found count same same'))
