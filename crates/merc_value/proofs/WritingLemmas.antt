-- What is written, and what remains.
use Rattle.std.proofs.Common.{◌≡◌, ℕ, zero, suc, ◌+◌, ◌*◌, ◌<◌, true, false, cond, List, [], ◌∷◌, ◌++◌, length, drop, Some, None, refl, sym, ap, subst, ◌∙◌, arith, slice_get, get_or, eqb, append_assoc, length-append, codes}
use Rattle.std.proofs.lemmas.List.{append-nil}
use Rattle.std.proofs.lemmas.Result.{IfOk-weaker}
use Rattle.std.specs.Prelude.{Result, IfOk}
use Rattle.merc_base.specs.declared.memory.NoMemory.{NoMemory}
use Rattle.std.specs.List.{All}
use Rattle.merc_base.specs.Names.{cons_name, nil_name}
use Rattle.merc_base.specs.Characters.{quote_code}
use Rattle.merc_value.specs.Value.{Value, Values, Con, none, more}
use Rattle.merc_value.specs.Block.{CellData, AreLower, IsBelow, word_values, cell_values, value_of}
use Rattle.merc_value.specs.Text.{text_at, quoted, is_plain, name_text, is_nil, is_cons, symbol_text, value_text, tail_text, list_text, arguments_text}
use Rattle.merc_value.specs.Writing.{arguments_of, arguments_at, arguments_from, HasShape, todo_text, pending, IsTodoBelow, AreTodosBelow, piece_text, Takes}
use Rattle.merc_value.specs.declared.word.Word.{Word}
use Rattle.merc_value.specs.declared.shape.Shape.{Shape}
use Rattle.merc_value.specs.declared.shape.Shape.TheVariants.{Int as IntShape, Text as TextShape, Nil, Pair, Atom as AtomShape, Applied}
use Rattle.merc_value.specs.declared.writing.Todo.{Todo}
use Rattle.merc_value.specs.declared.writing.Todo.TheVariants.{Whole, Close}
use Rattle.merc_value.specs.declared.writing.Piece.{Piece}
use Rattle.merc_value.specs.declared.writing.Piece.TheVariants.{Bar}
use Rattle.merc_value.proofs.BlockLaws.{raised, found_below}
use Rattle.merc_value.proofs.Values.{All-first, All-rest}

pub pending-snoc : (names : List (List ℕ)) (cells : List CellData) (stack : List Todo) (todo : Todo)
    → pending names cells (stack ++ todo ∷ []) ≡ todo_text names cells todo ++ pending names cells stack
pending-snoc names cells [] todo = sym (append-nil (todo_text names cells todo))
pending-snoc names cells (first ∷ stack) todo =
    ap (λ t. t ++ todo_text names cells first) (pending-snoc names cells stack todo)
    ∙ append_assoc (todo_text names cells todo) (pending names cells stack) (todo_text names cells first)

pub below-snoc : (bound : ℕ) (stack : List Todo) (todo : Todo) → AreTodosBelow bound stack → IsTodoBelow bound todo → AreTodosBelow bound (stack ++ todo ∷ [])
below-snoc bound [] todo below last = (last, tt)
below-snoc bound (first ∷ stack) todo below last = (below.0, below-snoc bound stack todo below.1 last)

pub below-front : (bound : ℕ) (stack : List Todo) (todo : Todo) → AreTodosBelow bound (stack ++ todo ∷ []) → AreTodosBelow bound stack
below-front bound [] todo below = tt
below-front bound (first ∷ stack) todo below = (below.0, below-front bound stack todo below.1)

pub below-last : (bound : ℕ) (stack : List Todo) (todo : Todo) → AreTodosBelow bound (stack ++ todo ∷ []) → IsTodoBelow bound todo
below-last bound [] todo below = below.0
below-last bound (first ∷ stack) todo below = below-last bound stack todo below.1

-- nothing is put on the stack
pub takes_all : (cells : List CellData) (text : List (List ℕ) → List ℕ) (stack : List Todo) (piece : Piece)
    → ((names : List (List ℕ)) → piece_text names piece ≡ text names) → Takes cells text stack stack piece
takes_all cells text stack piece same = record {
  whole = λ names. ap (λ t. t ++ pending names cells stack) (same names);
  below = λ below. below;
  few = λ names. omega arith;
}

-- one entry is put on the stack
pub takes_one : (cells : List CellData) (text : List (List ℕ) → List ℕ) (stack new : List Todo) (todo : Todo) (piece : Piece)
    → new ≡ stack ++ todo ∷ [] → IsTodoBelow (length cells) todo
    → ((names : List (List ℕ)) → piece_text names piece ++ todo_text names cells todo ≡ text names)
    → ((names : List (List ℕ)) → 0 < length (piece_text names piece)) → Takes cells text stack new piece
takes_one cells text stack new todo piece pushed below same some = subst (λ (s : List Todo). Takes cells text stack s piece) (sym pushed) (record {
  whole = λ names. rw (pending-snoc names cells stack todo, ← append_assoc (piece_text names piece) (todo_text names cells todo) (pending names cells stack), same names) refl;
  below = λ old. below-snoc (length cells) stack todo old below;
  few = λ names. omega (arith, some names, length-append stack (todo ∷ []));
})

-- an entry is put on the stack, and then the value of a word
pub takes_two : (cells : List CellData) (text : List (List ℕ) → List ℕ) (stack new : List Todo) (later : Todo) (next : Word) (piece : Piece)
    → new ≡ (stack ++ later ∷ []) ++ Whole next ∷ [] → IsTodoBelow (length cells) later → IsBelow (length cells) next
    → ((names : List (List ℕ)) → piece_text names piece ++ (value_text names (value_of cells next) ++ todo_text names cells later) ≡ text names)
    → ((names : List (List ℕ)) → 0 < length (piece_text names piece)) → Takes cells text stack new piece
takes_two cells text stack new later next piece pushed below below' same some = subst (λ (s : List Todo). Takes cells text stack s piece) (sym pushed) (record {
  whole = λ names. rw (
    pending-snoc names cells (stack ++ later ∷ []) (Whole next),
    pending-snoc names cells stack later,
    ← append_assoc (value_text names (value_of cells next)) (todo_text names cells later) (pending names cells stack),
    ← append_assoc (piece_text names piece) (value_text names (value_of cells next) ++ todo_text names cells later) (pending names cells stack),
    same names,
  ) refl;
  below = λ old. below-snoc (length cells) (stack ++ later ∷ []) (Whole next) (below-snoc (length cells) stack later old below) below';
  few = λ names. omega (arith, some names, length-append stack (later ∷ []), length-append (stack ++ later ∷ []) (Whole next ∷ []));
})

-- a name's text is never empty
pub name_some : (text : List ℕ) → 0 < length (name_text text)
name_some [] = omega arith
name_some (byte ∷ bytes) = elim (is_plain (byte ∷ bytes)) as (λ b. 0 < length (cond b (byte ∷ bytes) (quoted quote_code (byte ∷ bytes)))) [ true ↦ omega arith | false ↦ omega arith ]

-- a constructor that is no list

pub named : (names : List (List ℕ)) (symbol : ℕ) (arguments : Values) → is_nil symbol arguments ≡ false → symbol_text names symbol arguments ≡ name_text (text_at names symbol)
named names symbol arguments other = ap (λ b. cond b (codes "[]") (name_text (text_at names symbol))) other

pub whole_applied : (names : List (List ℕ)) (symbol : ℕ) (arguments : Values) → is_nil symbol arguments ≡ false → is_cons symbol arguments ≡ false
    → name_text (text_at names symbol) ++ arguments_text names arguments ≡ value_text names (Con symbol arguments)
whole_applied names symbol arguments no_nil no_cons =
    ap (λ t. t ++ arguments_text names arguments) (sym (named names symbol arguments no_nil))
    ∙ ap (λ b. cond b (codes "[" ++ list_text names arguments ++ codes "]") (symbol_text names symbol arguments ++ arguments_text names arguments)) (sym no_cons)

pub whole_atom : (names : List (List ℕ)) (symbol : ℕ) → is_nil symbol none ≡ false → name_text (text_at names symbol) ≡ value_text names (Con symbol none)
whole_atom names symbol no_nil = sym (append-nil (name_text (text_at names symbol))) ∙ whole_applied names symbol none no_nil refl

tail_applied : (names : List (List ℕ)) (symbol : ℕ) (arguments : Values) → is_nil symbol arguments ≡ false → is_cons symbol arguments ≡ false
    → tail_text names (Con symbol arguments) ≡ codes " | " ++ value_text names (Con symbol arguments)
tail_applied names symbol arguments no_nil no_cons =
    let applied : List ℕ = symbol_text names symbol arguments ++ arguments_text names arguments in
    let listed : List ℕ = list_text names arguments in
    ap (λ b. cond b [] (cond (is_cons symbol arguments) (codes ", " ++ listed) (codes " | " ++ applied))) no_nil
    ∙ ap (λ b. cond b (codes ", " ++ listed) (codes " | " ++ applied)) no_cons
    ∙ ap (λ b. codes " | " ++ cond b (codes "[" ++ listed ++ codes "]") applied) (sym no_cons)

-- whether a shape is none of a list
abbrev pub IsOther : Shape → Type 0
IsOther (IntShape number) = Unit {0}
IsOther (TextShape name) = Unit {0}
IsOther Nil = ⊥
IsOther (Pair head tail) = ⊥
IsOther (AtomShape symbol) = Unit {0}
IsOther (Applied symbol place) = Unit {0}

pub other_shape : (shape : Shape) → (shape ≡ Nil → ⊥) → ((head tail : Word) → shape ≡ Pair head tail → ⊥) → IsOther shape
other_shape (IntShape number) no_nil no_pair = tt
other_shape (TextShape name) no_nil no_pair = tt
other_shape Nil no_nil no_pair = no_nil refl
other_shape (Pair head tail) no_nil no_pair = no_pair head tail refl
other_shape (AtomShape symbol) no_nil no_pair = tt
other_shape (Applied symbol place) no_nil no_pair = tt

-- a list's end that is no list stands behind a bar
pub tail_other : (cells : List CellData) (value : Value) (shape : Shape) → HasShape cells value shape → IsOther shape
    → (names : List (List ℕ)) → tail_text names value ≡ codes " | " ++ value_text names value
tail_other cells value (IntShape number) shaped other names = rw shaped refl
tail_other cells value (TextShape name) shaped other names = rw shaped refl
tail_other cells value Nil shaped other names = absurd other
tail_other cells value (Pair head tail) shaped other names = absurd other
tail_other cells value (AtomShape symbol) shaped other names =
    subst (λ v. tail_text names v ≡ codes " | " ++ value_text names v) (sym shaped.0) (tail_applied names symbol none shaped.1 refl)
tail_other cells value (Applied symbol place) shaped other names =
    subst (λ v. tail_text names v ≡ codes " | " ++ value_text names v) (sym shaped.0) (tail_applied names symbol (arguments_from cells place 0) shaped.1 shaped.2)

-- arguments from one on

from_found : (words : List Word) (k : ℕ) (word : Word) → slice_get words k ≡ Some word → drop k words ≡ word ∷ drop (k + 1) words
from_found [] k word found = absurd (cc)
from_found (first ∷ words) zero word found = let same : first ≡ word = cc in ap (λ w. w ∷ words) same
from_found (first ∷ words) (suc k) word found =
    let next : suc k + 1 ≡ suc (k + 1) = omega arith in
    from_found words k word found ∙ ap (λ (n : ℕ). word ∷ drop n (first ∷ words)) (sym next)

from_none : (words : List Word) (k : ℕ) → slice_get words k ≡ None → drop k words ≡ []
from_none [] zero found = refl
from_none [] (suc k) found = refl
from_none (first ∷ words) zero found = absurd (cc)
from_none (first ∷ words) (suc k) found = from_none words k found

pub arguments_from-found : (cells : List CellData) (place k : ℕ) (word : Word) → slice_get (arguments_at cells place) k ≡ Some word
    → arguments_from cells place k ≡ more (value_of cells word) (arguments_from cells place (k + 1))
arguments_from-found cells place k word found = ap (word_values (cell_values cells)) (from_found (arguments_at cells place) k word found)

pub arguments_from-none : (cells : List CellData) (place k : ℕ) → slice_get (arguments_at cells place) k ≡ None → arguments_from cells place k ≡ none
arguments_from-none cells place k found = ap (word_values (cell_values cells)) (from_none (arguments_at cells place) k found)

member : (bound : ℕ) (words : List Word) (k : ℕ) (word : Word) → All (IsBelow bound) words → slice_get words k ≡ Some word → IsBelow bound word
member bound [] k word all found = absurd (cc)
member bound (first ∷ words) zero word all found =
    let same : first ≡ word = cc in subst (IsBelow bound) same (All-first (IsBelow bound) first words all)
member bound (first ∷ words) (suc k) word all found = member bound words k word (All-rest (IsBelow bound) first words all) found

-- the arguments of a cell lead below each place that the cell is below
pub argument_below : (cells : List CellData) (place k : ℕ) (word : Word) → AreLower cells → place < length cells
    → slice_get (arguments_at cells place) k ≡ Some word → IsBelow (length cells) word
argument_below cells place k word lower within found =
    let cell : (at : CellData) × (slice_get cells place ≡ Some at) = found_below cells place within in
    let found' : slice_get cell.0.arguments k ≡ Some word = sym (ap (λ o. slice_get (arguments_of o) k) cell.1) ∙ found in
    raised place (length cells) (omega (arith, within)) word (member place cell.0.arguments k word (lower place cell.0 cell.1) found')

-- the shape of a cell with these arguments that is no list

no_nil : (values : List Value) (symbol : ℕ) (words : List Word) → (length words < 1 → eqb symbol nil_name ≡ false) → is_nil symbol (word_values values words) ≡ false
no_nil values symbol [] other = other (omega arith)
no_nil values symbol (word ∷ words) other = refl

no_cons : (values : List Value) (symbol : ℕ) (words : List Word) → (length words ≡ 2 → eqb symbol cons_name ≡ false) → is_cons symbol (word_values values words) ≡ false
no_cons values symbol [] other = refl
no_cons values symbol (one ∷ []) other = refl
no_cons values symbol (one ∷ two ∷ []) other = other refl
no_cons values symbol (one ∷ two ∷ three ∷ words) other = refl

pub applied_shape : (cells : List CellData) (symbol place : ℕ) (words : List Word) → arguments_at cells place ≡ words
    → (length words < 1 → eqb symbol nil_name ≡ false) → (length words ≡ 2 → eqb symbol cons_name ≡ false)
    → HasShape cells (Con symbol (word_values (cell_values cells) words)) (Applied symbol place)
applied_shape cells symbol place words at other other' =
    rw at (refl, no_nil (cell_values cells) symbol words other, no_cons (cell_values cells) symbol words other')

-- the cell at a place
pub cell_found : (cells : List CellData) (place : ℕ) (at : CellData) → place < length cells → at ≡ get_or cells place at → slice_get cells place ≡ Some at
cell_found [] place at within same = absurd (omega (arith, within))
cell_found (first ∷ cells) zero at within same = ap Some (sym same)
cell_found (first ∷ cells) (suc place) at within same = cell_found cells place at (omega (arith, within)) same

-- a bar, with the end of the list and the closing bracket still to be written
pub takes_bar : (cells : List CellData) (word : Word) (shape : Shape) (stack new : List Todo) (result : Result Piece NoMemory)
    → HasShape cells (value_of cells word) shape → IsOther shape → IsBelow (length cells) word
    → IfOk result (λ piece. (piece ≡ Bar) × (new ≡ (stack ++ Close ∷ []) ++ Whole word ∷ []))
    → IfOk result (Takes cells (λ names. tail_text names (value_of cells word) ++ 93 ∷ []) stack new)
takes_bar cells word shape stack new result shaped other below pushed =
    IfOk-weaker result _ _ (λ piece h. subst (Takes cells (λ names. tail_text names (value_of cells word) ++ 93 ∷ []) stack new) (sym h.0)
    (takes_two cells _ stack new Close word Bar h.1 tt below
    (λ names. ap (λ t. t ++ codes "]") (sym (tail_other cells (value_of cells word) shape shaped other names)))
    (λ names. omega arith))) pushed

pub no_words : (words : List Word) → length words < 1 → words ≡ []
no_words [] few = refl
no_words (word ∷ words) few = absurd (omega (arith, few))

-- What one round of the writer does, where the last entry is taken from the stack.
module _ (names : List (List ℕ)) (cells : List CellData) (old popped new : List Todo) (todo : Todo) (piece : Piece)
    (last : old ≡ popped ++ todo ∷ []) (takes : Takes cells (λ names. todo_text names cells todo) popped new piece) where
  pub round_whole : (front : List ℕ) → (front ++ piece_text names piece) ++ pending names cells new ≡ front ++ pending names cells old
  round_whole front =
      append_assoc front (piece_text names piece) (pending names cells new)
      ∙ ap (λ t. front ++ t) (takes.whole names ∙ sym (pending-snoc names cells popped todo))
      ∙ ap (λ (s : List Todo). front ++ pending names cells s) (sym last)

  pub round_below : AreTodosBelow (length cells) old → AreTodosBelow (length cells) new
  round_below below = takes.below (below-front (length cells) popped todo (subst (AreTodosBelow (length cells)) last below))

  pub round_falls : 2 * length (pending names cells new) + length new < 2 * length (pending names cells old) + length old
  round_falls =
      let texts : length (piece_text names piece) + length (pending names cells new) ≡ length (pending names cells old) =
      sym (length-append (piece_text names piece) (pending names cells new)) ∙ ap length (round_whole []) in
      let entries : length old ≡ length popped + 1 = ap length last ∙ length-append popped (todo ∷ []) in
      omega (arith, texts, entries, takes.few names)
