-- Variables with a value are those whose slots hold words, and their values are those of the words.
use Rattle.std.proofs.Common.{◌≡◌, ℕ, ◌+◌, ◌<◌, true, List, [], ◌∷◌, ◌++◌, length, map, take, cond, get_or, Option, Some, None, slice_get, refl, sym, ap, ◌∙◌, append_assoc}
use Rattle.std.specs.List.{All, cons_option}
use Rattle.std.specs.Option.{option_map, is_some}
use Rattle.std.proofs.lemmas.List.{take_more}
use Rattle.std.proofs.lemmas.List.Elements.{All-nil, All-cons, filter-append, filter_map-append}
use Rattle.merc_value.specs.Value.{Value}
use Rattle.merc_value.specs.Block.{BlockData, CellData, IsBelow, root_values, value_of}
use Rattle.merc_value.specs.declared.word.Word.{Word}
use Rattle.merc_meaning.specs.Trace.{Env}
use Rattle.merc_meaning.specs.Steps.{value_at}
use Rattle.merc_frames.specs.declared.slot.Slot.{Slot}
use Rattle.merc_segments.specs.Segments.{AreWordsFor}
use Rattle.merc_store.specs.Data.{StoreData, IsBelowIf, IsSlotBelow}
use Rattle.merc_store.specs.Fitting.{slot_value}
use Rattle.merc_store.specs.Frozen.{Freezes, FrozenData, frozen_of, held_variables, held_words, with_value}
use Rattle.merc_store.specs.Performing.{word_at}
use Rattle.merc_store.proofs.FrameLemmas.{HaveWords, have_words, slot_word}
use Rattle.merc_store.proofs.ReadingLemmas.{none_of}
use Rattle.merc_store.proofs.SoundLemmas.{word_below}

pub variables_more : (slots : List Slot) (xs : List ℕ) (i d : ℕ) (old held new : List ℕ) → i < length xs → held ≡ old ++ held_variables slots (take i xs)
    → new ≡ held ++ held_variables slots (get_or xs i d ∷ []) → new ≡ old ++ held_variables slots (take (i + 1) xs)
variables_more slots xs i d old held new within held_is new_is =
    new_is ∙ ap (λ those. those ++ held_variables slots (get_or xs i d ∷ [])) held_is
    ∙ append_assoc old (held_variables slots (take i xs)) (held_variables slots (get_or xs i d ∷ []))
    ∙ sym (ap (λ those. old ++ those)
    (ap (held_variables slots) (take_more xs i d within) ∙ filter-append (λ variable. is_some (word_at slots variable)) (take i xs) (get_or xs i d ∷ [])))

pub words_more : (slots : List Slot) (xs : List ℕ) (i d : ℕ) (old words new : List Word) → i < length xs → words ≡ old ++ held_words slots (take i xs)
    → new ≡ words ++ held_words slots (get_or xs i d ∷ []) → new ≡ old ++ held_words slots (take (i + 1) xs)
words_more slots xs i d old words new within words_are new_is =
    new_is ∙ ap (λ those. those ++ held_words slots (get_or xs i d ∷ [])) words_are
    ∙ append_assoc old (held_words slots (take i xs)) (held_words slots (get_or xs i d ∷ []))
    ∙ sym (ap (λ those. old ++ those) (ap (held_words slots) (take_more xs i d within) ∙ filter_map-append (word_at slots) (take i xs) (get_or xs i d ∷ [])))

-- the words lead to cells that are there

one_below : (place : ℕ) (word : Option Word) (words : List Word) → IsBelowIf place word → All (IsBelow place) words → All (IsBelow place) (cons_option word words)
one_below place None words below each = each
one_below place (Some word) words below each = All-cons (IsBelow place) word words below each

pub held_below : (place : ℕ) (slots : List Slot) (variables : List ℕ) → All (IsSlotBelow place) slots → All (IsBelow place) (held_words slots variables)
held_below place slots [] below = All-nil (IsBelow place)
held_below place slots (x ∷ xs) below = one_below place (word_at slots x) (held_words slots xs) (word_below place slots x below) (held_below place slots xs below)

-- their values

abbrev pub frozen_from : List ℕ → List Value → FrozenData
frozen_from variables values = record { variables = variables; values = values }

one_frozen : (cells : List CellData) (x : ℕ) (word : Option Word) (value : Option Value) → value ≡ option_map (value_of cells) word → (held : List ℕ) (words : List Word)
    → frozen_from (cond (is_some word) (x ∷ held) held) (map (value_of cells) (cons_option word words)) ≡ with_value x value (frozen_from held (map (value_of cells) words))
one_frozen cells x None value is held words = ap (λ v. with_value x v (frozen_from held (map (value_of cells) words))) (sym is)
one_frozen cells x (Some word) value is held words = ap (λ v. with_value x v (frozen_from held (map (value_of cells) words))) (sym is)

all_frozen : (cells : List CellData) (slots : List Slot) (env : Env) (variables : List ℕ) → HaveWords cells slots env variables
    → frozen_from (held_variables slots variables) (map (value_of cells) (held_words slots variables)) ≡ frozen_of variables env
all_frozen cells slots env [] has = refl
all_frozen cells slots env (x ∷ xs) has =
    one_frozen cells x (word_at slots x) (value_at env x) has.0 (held_variables slots xs) (held_words slots xs)
    ∙ ap (with_value x (value_at env x)) (all_frozen cells slots env xs has.1)

pub freezes : (store : StoreData) (variables held : List ℕ) (words : List Word) (values : List Value) → held ≡ held_variables store.stacks.current variables
    → words ≡ held_words store.stacks.current variables → values ≡ map (value_of store.cells) words → Freezes store variables (frozen_from held values)
freezes store variables held words values held_is words_are values_are = record {
  is = λ count env marks fits within.
      ap (λ those. frozen_from those values) held_is
      ∙ ap (frozen_from (held_variables store.stacks.current variables)) (values_are ∙ ap (map (value_of store.cells)) words_are)
      ∙ all_frozen store.cells store.stacks.current env variables (have_words store.cells count store.stacks.current env marks fits variables within);
}

-- one variable

value_told : (cells : List CellData) (word : Option Word) → is_some word ≡ is_some (option_map (value_of cells) word)
value_told cells None = refl
value_told cells (Some word) = refl

-- it has a value where its slot holds a word
pub held_tells : (cells : List CellData) (slots : List Slot) (x : ℕ) (word : Option Word) → word ≡ word_at slots x → is_some word ≡ is_some (slot_value cells (slice_get slots x))
held_tells cells slots x word is = ap is_some is ∙ value_told cells (word_at slots x) ∙ sym (ap is_some (slot_word cells (slice_get slots x)))

pub is_held : (cells : List CellData) (slots : List Slot) (x : ℕ) (word : Option Word) → word ≡ word_at slots x → is_some (slot_value cells (slice_get slots x)) ≡ true
    → ((found : Word) → word ≡ Some found → ⊥) → ⊥
is_held cells slots x word is has lacks = absurd (let never = sym (ap is_some (none_of word lacks)) ∙ held_tells cells slots x word is ∙ has in cc)

pub copied_one : (store : StoreData) (x : ℕ) (word : Word) (block : BlockData) → word_at store.stacks.current x ≡ Some word
    → AreWordsFor block.cells (map (value_of store.cells) (word ∷ [])) block.roots
    → (value : Value) → slot_value store.cells (slice_get store.stacks.current x) ≡ Some value → root_values block ≡ value ∷ []
copied_one store x word block found are value is =
    let same : Some (value_of store.cells word) ≡ Some value = sym (slot_word store.cells (slice_get store.stacks.current x) ∙ ap (option_map (value_of store.cells)) found) ∙ is in
    let one : value_of store.cells word ≡ value = cc in
    are.same ∙ ap (λ v. v ∷ []) one
