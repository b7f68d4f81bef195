-- The words for the values of a block's cells, while these go onto a heap.
use Rattle.std.proofs.Common.{◌≡◌, ℕ, zero, suc, ◌<◌, ◌≤◌, ◌⊎◌, inl, inr, List, [], ◌∷◌, ◌++◌, length, map, take, Some, refl, sym, ap, subst, ◌∙◌, arith, slice_get, get_or, length-append}
use Rattle.std.specs.List.{All}
use Rattle.std.proofs.lemmas.Bool.{cases_lt}
use Rattle.merc_value.specs.Value.{Value, Con}
use Rattle.merc_value.specs.Block.{CellData, AreLower, IsBelow, word_values, cell_values, value_of, no_value}
use Rattle.merc_value.specs.Sharing.{IsWordFor, moved, AreMoved, no_word}
use Rattle.merc_value.specs.declared.word.Word.{Word}
use Rattle.merc_value.specs.declared.word.Word.TheVariants.{Int as IntWord, Text as TextWord, Atom as AtomWord, Cell as CellWord}
use Rattle.merc_value.proofs.Values.{get_or-append_front, get_or-append_last, All-first, All-rest, cell_value_at}
use Rattle.merc_value.proofs.SharingLemmas.{all_moved_same}
use Rattle.merc_heap.specs.Heap.{Keeps}
use Rattle.merc_segments.specs.Segments.{AreWordsFor}

pub All-none : {X : Type 0} (P : X → Type 0) → All P []
All-none P k d within = absurd (omega (arith, within))

pub All-both : {X : Type 0} (P : X → Type 0) (x : X) (xs : List X) → P x → All P xs → All P (x ∷ xs)
All-both P x xs first rest zero d within = first
All-both P x xs first rest (suc k) d within = rest k d (omega (arith, within))

word_kept : (old new : List CellData) (value : Value) (word : Word) → Keeps (length old) old new → IsWordFor old value word → IsWordFor new value word
word_kept old new value word keeps is = record { below = keeps.below word is.below; same = keeps.same word is.below ∙ is.same }

-- a word more for the next cell
pub moved_next : (cells old new : List CellData) (words : List Word) (at : CellData) (word : Word) → AreLower cells → AreMoved cells old words → Keeps (length old) old new
    → slice_get cells (length words) ≡ Some at → IsWordFor new (Con at.symbol (word_values (cell_values old) (map (moved words) at.arguments))) word
    → AreMoved cells new (words ++ word ∷ [])
moved_next cells old new words at word lower are keeps found is place within = by (cases_lt place (length words))
  where
    by : (place < length words) ⊎ (length words ≤ place) → IsWordFor new (value_of cells (CellWord place)) (get_or (words ++ word ∷ []) place no_word)
    by (inl before) =
        subst (λ (w : Word). IsWordFor new (value_of cells (CellWord place)) w) (sym (get_or-append_front words (word ∷ []) place no_word before))
        (word_kept old new (value_of cells (CellWord place)) (get_or words place no_word) keeps (are place before))
    by (inr behind) =
        let here : length words ≡ place = omega (arith, within, behind, length-append words (word ∷ [])) in
        let here_word : word ≡ get_or (words ++ word ∷ []) place no_word =
        sym (get_or-append_last words word no_word) ∙ ap (λ (n : ℕ). get_or (words ++ word ∷ []) n no_word) here in
        let below = lower (length words) at found in
        let value : Con at.symbol (word_values (cell_values old) (map (moved words) at.arguments)) ≡ value_of cells (CellWord place) =
        ap (Con at.symbol) (all_moved_same cells old words are at.arguments below)
        ∙ sym (cell_value_at cells (length words) at no_value found below)
        ∙ ap (λ (n : ℕ). value_of cells (CellWord n)) here in
        subst (λ (w : Word). IsWordFor new (value_of cells (CellWord place)) w) here_word (subst (λ (v : Value). IsWordFor new v word) value is)

moved_one : (cells heap : List CellData) (words : List Word) → AreMoved cells heap words → (word : Word) → IsBelow (length words) word
    → IsWordFor heap (value_of cells word) (moved words word)
moved_one cells heap words are (IntWord number) below = record { below = tt; same = refl }
moved_one cells heap words are (TextWord name) below = record { below = tt; same = refl }
moved_one cells heap words are (AtomWord symbol) below = record { below = tt; same = refl }
moved_one cells heap words are (CellWord place) below = are place below

-- the words for the roots
pub moved_roots : (cells heap : List CellData) (words : List Word) → AreMoved cells heap words → (roots : List Word) → All (IsBelow (length words)) roots
    → AreWordsFor heap (map (value_of cells) roots) (map (moved words) roots)
moved_roots cells heap words are [] below = record { below = All-none (IsBelow (length heap)); same = refl }
moved_roots cells heap words are (root ∷ roots) below =
    let first = moved_one cells heap words are root (All-first (IsBelow (length words)) root roots below) in
    let rest = moved_roots cells heap words are roots (All-rest (IsBelow (length words)) root roots below) in
    let one = first.same in
    let others = rest.same in
    record {
      below = All-both (IsBelow (length heap)) (moved words root) (map (moved words) roots) first.below rest.below;
      same = cc (one, others);
    }

pub keeps_more : (first old new : List CellData) → Keeps (length first) first old → Keeps (length old) old new → Keeps (length first) first new
keeps_more first old new keeps more = record {
  below = λ word under. more.below word (keeps.below word under);
  same = λ word under. more.same word (keeps.below word under) ∙ keeps.same word under;
}

-- a front of a front
pub front_more : (first old new : List CellData) → take (length first) old ≡ first → take (length old) new ≡ old → take (length first) new ≡ first
front_more [] old [] front more = refl
front_more [] old (at ∷ new) front more = refl
front_more (at ∷ first) [] new front more = absurd (cc)
front_more (at ∷ first) (next ∷ old) [] front more = absurd (cc)
front_more (at ∷ first) (next ∷ old) (new_first ∷ new) front more =
    let one : next ≡ at = cc in
    let other : new_first ≡ next = cc in
    let rest : take (length first) old ≡ first = cc in
    let rest' : take (length old) new ≡ old = cc in
    let ih = front_more first old new rest rest' in
    cc (one, other, ih)
