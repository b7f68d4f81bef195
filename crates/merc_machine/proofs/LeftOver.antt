-- A frame in which other slots than the inputs hold what was left there, and the values for which it stands.
use Rattle.std.proofs.Common.{◌≡◌, ℕ, zero, suc, ◌+◌, ◌<◌, ◌≤◌, ◌==◌, ◌||◌, Bool, true, false, List, [], ◌∷◌, length, drop, map, Some, None, slice_get, slice_set, refl, sym, ap, ◌∙◌, subst, arith}
use Rattle.std.specs.List.{All}
use Rattle.std.specs.Option.{option_map}
use Rattle.std.proofs.lemmas.Bool.Decides.{Decides-eqb}
use Rattle.std.proofs.lemmas.List.Elements.{All-head, All-tail}
use Rattle.merc_tree.specs.declared.declarations.Arg.{Arg}
use Rattle.merc_tree.specs.declared.declarations.Arg.TheVariants.{Input, Output}
use Rattle.merc_value.specs.Block.{CellData, value_of}
use Rattle.merc_meaning.specs.Trace.{Env}
use Rattle.merc_meaning.specs.Steps.{entered, value_at}
use Rattle.merc_code.specs.Steps.{Code, Codes, Caller, ChoicePoint, At, mark_at}
use Rattle.merc_live.specs.Agreeing.{Agrees}
use Rattle.merc_live.specs.Reads.{MayReadVariable, is_in, own_places}
use Rattle.merc_live.proofs.LeftOut.{same_where_read}
use Rattle.merc_live.proofs.Slots.{clash}
use Rattle.merc_frames.specs.declared.slot.Slot.{Slot}
use Rattle.merc_frames.specs.Handing.{passed, slot_or_empty}
use Rattle.merc_frames.specs.Slots.{word_in, mark_in}
use Rattle.merc_layout.specs.StartsClean.{StartsClean, own_inputs}
use Rattle.merc_load.specs.Loaded.{inputs}
use Rattle.merc_store.specs.Fitting.{FitsFrame, slot_value, slot_mark}
use Rattle.merc_machine.proofs.Passing.{passed_before}
use Rattle.merc_machine.proofs.Slots.{get_same, or_empty_value, set_length}

-- the values of the first variables, so many
abbrev pub values_in : List CellData → ℕ → List Slot → Env
values_in cells zero slots = []
values_in cells (suc count) [] = []
values_in cells (suc count) (slot ∷ slots) = option_map (value_of cells) (word_in slot) ∷ values_in cells count slots

-- the marks behind the variables
abbrev pub marks_in : ℕ → List Slot → List ℕ
marks_in variables slots = map mark_in (drop variables slots)

value_in : (cells : List CellData) (count : ℕ) (slots : List Slot) (x : ℕ) → x < count → value_at (values_in cells count slots) x ≡ slot_value cells (slice_get slots x)
value_in cells zero slots x h = absurd (omega (arith, h))
value_in cells (suc count) [] x h = refl
value_in cells (suc count) (slot ∷ slots) zero h = refl
value_in cells (suc count) (slot ∷ slots) (suc x) h = value_in cells count slots x (omega (arith, h))

none_behind : (cells : List CellData) (count : ℕ) (slots : List Slot) (x : ℕ) → count ≤ x → value_at (values_in cells count slots) x ≡ None
none_behind cells zero slots x h = refl
none_behind cells (suc count) [] x h = refl
none_behind cells (suc count) (slot ∷ slots) zero h = absurd (omega (arith, h))
none_behind cells (suc count) (slot ∷ slots) (suc x) h = none_behind cells count slots x (omega (arith, h))

first_mark : (slots : List Slot) (mark : ℕ) → mark_at (map mark_in slots) mark ≡ slot_mark (slice_get slots mark)
first_mark [] mark = refl
first_mark (slot ∷ slots) zero = refl
first_mark (slot ∷ slots) (suc mark) = first_mark slots mark

mark_in_slot : (variables : ℕ) (slots : List Slot) (mark : ℕ) → mark_at (marks_in variables slots) mark ≡ slot_mark (slice_get slots (variables + mark))
mark_in_slot zero slots mark = first_mark slots mark ∙ ap (λ m. slot_mark (slice_get slots m)) (let e : mark ≡ zero + mark = omega arith in e)
mark_in_slot (suc variables) [] mark = refl
mark_in_slot (suc variables) (slot ∷ slots) mark =
    mark_in_slot variables slots mark ∙ ap (λ m. slot_mark (slice_get (slot ∷ slots) m)) (let e : suc (variables + mark) ≡ suc variables + mark = omega arith in e)

-- its variables and marks are read off its slots
pub read_fits : (cells : List CellData) (variables : ℕ) (slots : List Slot) → variables ≤ length slots → FitsFrame cells variables slots (values_in cells variables slots) (marks_in variables slots)
read_fits cells variables slots room = record { room = room; values = value_in cells variables slots; others = none_behind cells variables slots; numbers = mark_in_slot variables slots }

differs : (x n : ℕ) → (x ≡ n → ⊥) → (x == n) ≡ false
differs x n apart = told (x == n) refl
  where
    told : (b : Bool) → (x == n) ≡ b → (x == n) ≡ false
    told true same = absurd (apart ((Decides-eqb x n).0 same))
    told false other = other

-- inputs are no variables before the first place's
not_before : (n x : ℕ) (places : List Arg) → x < n → is_in x (own_inputs n places) ≡ false
not_before n x [] h = refl
not_before n x (Input ∷ places) h = ap (λ b. b || is_in x (own_inputs (suc n) places)) (differs x n (λ e. absurd (omega (arith, h, e)))) ∙ not_before (suc n) x places (omega (arith, h))
not_before n x (Output ∷ places) h = not_before (suc n) x places (omega (arith, h))

-- .. nor past the last's
first_below : (n x : ℕ) (others : List ℕ) (bound : ℕ) → n < bound → (is_in x others ≡ true → x < bound) → is_in x (n ∷ others) ≡ true → x < bound
first_below n x others bound below others_below own = told (x == n) refl
  where
    told : (b : Bool) → (x == n) ≡ b → x < bound
    told true same = let e = (Decides-eqb x n).0 same in omega (arith, e, below)
    told false other = others_below (sym (ap (λ b. b || is_in x others) other) ∙ own)

own_below : (n x : ℕ) (places : List Arg) → is_in x (own_inputs n places) ≡ true → x < n + length places
own_below n x [] own = absurd cc
own_below n x (Input ∷ places) own =
    first_below n x (own_inputs (suc n) places) (n + suc (length places)) (omega arith) (λ behind. let h = own_below (suc n) x places behind in omega (arith, h)) own
own_below n x (Output ∷ places) own = let h = own_below (suc n) x places own in omega (arith, h)

-- Given is the frame of the caller.
module _ (cells : List CellData) (variables : ℕ) (slots : List Slot) (env : Env) (marks : List ℕ) (f : FitsFrame cells variables slots env marks) where
  -- an input has the value that was passed
  input_value : (n : ℕ) (places : List Arg) (arguments : List ℕ) → All (λ (variable : ℕ). variable < variables) arguments → (to : List Slot) → n + length places ≤ length to → length places ≤ length arguments
      → (x : ℕ) → is_in (n + x) (own_inputs n places) ≡ true → value_at (entered places arguments env) x ≡ slot_value cells (slice_get (passed (inputs n places arguments) slots to) (n + x))
  input_value n [] arguments below to room whole x own = absurd cc
  input_value n (place ∷ places) [] below to room whole x own = absurd (omega (arith, whole))
  input_value n (Input ∷ places) (argument ∷ arguments) below to room whole zero own =
      let slot : Slot = slot_or_empty (slice_get slots argument) in
      let first : n + zero ≡ n = omega arith in
      let there : slice_get (passed (inputs (suc n) places arguments) slots (slice_set to n slot)) n ≡ Some slot =
      passed_before (suc n) n places arguments slots (slice_set to n slot) (omega arith) ∙ get_same to n slot (omega (arith, room)) in
      f.values argument (All-head (λ (variable : ℕ). variable < variables) argument arguments below) ∙ sym (or_empty_value cells (slice_get slots argument)) ∙ ap (slot_value cells) (sym there)
      ∙ ap (λ y. slot_value cells (slice_get (passed (inputs (suc n) places arguments) slots (slice_set to n slot)) y)) (sym first)
  input_value n (Input ∷ places) (argument ∷ arguments) below to room whole (suc x) own =
      let slot : Slot = slot_or_empty (slice_get slots argument) in
      let next : suc n + x ≡ n + suc x = omega arith in
      let other : (n + suc x == n) ≡ false = differs (n + suc x) n (λ e. absurd (omega (arith, e))) in
      let own_behind : is_in (suc n + x) (own_inputs (suc n) places) ≡ true =
      ap (λ y. is_in y (own_inputs (suc n) places)) next ∙ sym (ap (λ b. b || is_in (n + suc x) (own_inputs (suc n) places)) other) ∙ own in
      input_value (suc n) places arguments (All-tail (λ (variable : ℕ). variable < variables) argument arguments below) (slice_set to n slot) (let same = set_length to n slot in omega (arith, room, same)) (omega (arith, whole)) x own_behind
      ∙ ap (λ y. slot_value cells (slice_get (passed (inputs (suc n) places arguments) slots (slice_set to n slot)) y)) next
  input_value n (Output ∷ places) (argument ∷ arguments) below to room whole zero own =
      let first : n + zero ≡ n = omega arith in
      let outside = not_before (suc n) (n + zero) places (omega (arith, first)) in absurd (clash (is_in (n + zero) (own_inputs (suc n) places)) own outside)
  input_value n (Output ∷ places) (argument ∷ arguments) below to room whole (suc x) own =
      let next : suc n + x ≡ n + suc x = omega arith in
      input_value (suc n) places arguments (All-tail (λ (variable : ℕ). variable < variables) argument arguments below) to (omega (arith, room)) (omega (arith, whole)) x (ap (λ y. is_in y (own_inputs (suc n) places)) next ∙ own)
      ∙ ap (λ y. slot_value cells (slice_get (passed (inputs (suc n) places arguments) slots to) y)) next

-- Given are the cells, and the code of the procedures.
module _ (cells : List CellData) (codes : Codes) where
  -- the state with what was left and the one behind the call agree, where the code looks at nothing else before it writes it
  pub left_agrees : (places : List Arg) (code : Code) → StartsClean codes places code → (variables : ℕ) (slots : List Slot) (env : Env) (marks : List ℕ) → FitsFrame cells variables slots env marks
      → (arguments : List ℕ) → All (λ (variable : ℕ). variable < variables) arguments → length places ≤ length arguments → (own : ℕ) → length places ≤ own → (to : List Slot) → own ≤ length to
      → (callers : List Caller) → own_places callers ≡ Some places → (choices : List ChoicePoint) (left : ℕ)
      → Agrees codes (At code (values_in cells own (passed (inputs zero places arguments) slots to)) (marks_in own (passed (inputs zero places arguments) slots to)) callers choices left)
      (At code (entered places arguments env) [] callers choices left)
  left_agrees places code clean variables slots env marks f arguments below whole own within to room callers is choices left =
      same_where_read codes code _ _ _ _ callers choices left
      (λ x read.
      let input = clean.variables x (subst (λ p. MayReadVariable codes p x code) is read) in
      let inside : x < own = let b = own_below zero x places input in omega (arith, b, within) in
      let first : x ≡ zero + x = omega arith in
      let there = subst (λ y. is_in y (own_inputs zero places) ≡ true) first input in
      let value = input_value cells variables slots env marks f zero places arguments below to (omega (arith, within, room)) whole x there in
      value_in cells own (passed (inputs zero places arguments) slots to) x inside
      ∙ ap (λ y. slot_value cells (slice_get (passed (inputs zero places arguments) slots to) y)) first ∙ sym value)
      (λ mark read. absurd (clean.marks mark read))
