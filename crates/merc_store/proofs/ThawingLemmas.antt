-- Frames whose variables were given values that stood alone.
use Rattle.std.proofs.Common.{◌≡◌, ◌⊎◌, inl, inr, ℕ, ◌<◌, List, [], ◌∷◌, ◌++◌, length, map, take, drop, Option, Some, None, slice_set, refl, sym, ap, subst, ◌∙◌}
use Rattle.std.specs.List.{All}
use Rattle.std.proofs.lemmas.List.{take-append-drop}
use Rattle.std.proofs.lemmas.List.Elements.{All-nil, All-cons, All-head, All-tail}
use Rattle.merc_value.specs.Value.{Value}
use Rattle.merc_value.specs.Block.{CellData, value_of}
use Rattle.merc_value.specs.declared.word.Word.{Word}
use Rattle.merc_meaning.specs.Trace.{Env}
use Rattle.merc_meaning.specs.Steps.{value_at, with_entry, bound}
use Rattle.merc_meaning.proofs.Environments.{entry_same, entry_other}
use Rattle.merc_course.specs.Variables.{only}
use Rattle.merc_code.specs.Steps.{Binds}
use Rattle.merc_frames.specs.declared.slot.Slot.{Slot}
use Rattle.merc_frames.specs.Handing.{empty_frame}
use Rattle.merc_frames.specs.Slots.{holding}
use Rattle.merc_heap.specs.Heap.{Keeps}
use Rattle.merc_segments.specs.Segments.{AreWordsFor}
use Rattle.merc_store.specs.Data.{StoreData, IsSlotBelow, with_current}
use Rattle.merc_store.specs.Fitting.{FitsFrame}
use Rattle.merc_store.specs.Frozen.{FrozenData, OpensWith, Thaws, frozen_of, given_all, with_value}
use Rattle.merc_store.specs.Performing.{DoesEffect, stored}
use Rattle.merc_store.specs.declared.store.Done.TheVariants.{Bound}
use Rattle.merc_store.proofs.EmptyFrames.{empty_fits, empty_length}
use Rattle.merc_store.proofs.FrameLemmas.{bound_fits, grown_fits, same_or_apart, stored_length}

-- variables are given words, one for one

-- where no variable or no word is left, nothing more is written
pub stored_end : (variables : List ℕ) (words : List Word) (slots : List Slot) → (variables ≡ []) ⊎ (words ≡ []) → stored variables words slots ≡ slots
stored_end [] words slots ended = refl
stored_end (variable ∷ variables) [] slots ended = refl
stored_end (variable ∷ variables) (word ∷ words) slots (inl none) = absurd cc
stored_end (variable ∷ variables) (word ∷ words) slots (inr none) = absurd cc

stored_given : (cells : List CellData) (count : ℕ) (marks : List ℕ) (variables : List ℕ) (words : List Word) (slots : List Slot) (env : Env) → FitsFrame cells count slots env marks
    → All (λ (variable : ℕ). variable < count) variables → FitsFrame cells count (stored variables words slots) (given_all variables (map (value_of cells) words) env) marks
stored_given cells count marks [] words slots env fits within = fits
stored_given cells count marks (x ∷ xs) [] slots env fits within = fits
stored_given cells count marks (x ∷ xs) (word ∷ words) slots env fits within =
    stored_given cells count marks xs words (slice_set slots x (holding word)) (bound env x (value_of cells word))
    (bound_fits cells count slots env marks fits x word (All-head (λ (variable : ℕ). variable < count) x xs within))
    (All-tail (λ (variable : ℕ). variable < count) x xs within)

pub thaws : (before : StoreData) (cells : List CellData) (variables : List ℕ) (words : List Word) (values : List Value) → AreWordsFor cells values words
    → Keeps (length before.cells) before.cells cells → take (length before.cells) cells ≡ before.cells → All (IsSlotBelow (length before.cells)) before.stacks.current
    → Thaws before (with_current (record before { cells = cells }) (stored variables words before.stacks.current)) variables values
thaws before cells variables words values are keeps front below = record {
  grows = record {
    room = stored_length variables words before.stacks.current;
    callers = refl;
    choices = refl;
    cells = (drop (length before.cells) cells, sym (take-append-drop (length before.cells) cells) ∙ ap (λ those. those ++ drop (length before.cells) cells) front);
  };
  fits = λ count env marks fits within.
      subst (λ those. FitsFrame cells count (stored variables words before.stacks.current) (given_all variables those env) marks) are.same
      (stored_given cells count marks variables words before.stacks.current env (grown_fits before.cells cells count before.stacks.current env marks keeps below fits) within);
}

-- one variable

pub gives_value : (before after : StoreData) (to : ℕ) (values : List Value) (value : Value) → values ≡ value ∷ [] → Thaws before after (to ∷ []) values
    → DoesEffect before after (to ∷ []) (λ env. Binds (bound env to value)) Bound
gives_value before after to values value is thawed = record {
  performs = λ count env marks fits within.
      (thawed.grows, subst (λ those. FitsFrame after.cells count after.stacks.current (given_all (to ∷ []) those env) marks) is (thawed.fits count env marks fits within));
}

-- a frame that begins

-- the first of two values that there is
chosen : Option Value → Option Value → Option Value
chosen None other = other
chosen (Some value) other = Some value

chosen_none : (entry : Option Value) → chosen entry None ≡ entry
unfolding chosen
chosen_none None = refl
chosen_none (Some value) = refl

chosen_both : (entry other : Option Value) (value : Value) → (entry ≡ None) ⊎ (entry ≡ Some value) → other ≡ Some value → chosen entry other ≡ Some value
unfolding chosen
chosen_both None other value of is = is
chosen_both (Some one) other value (inl none) is = absurd cc
chosen_both (Some one) other value (inr same) is = same

-- a variable has no other value among some than among all
only_at : (variables : List ℕ) (env : Env) (x : ℕ) → (value_at (only variables env) x ≡ None) ⊎ (value_at (only variables env) x ≡ value_at env x)
only_at [] env x = inl refl
only_at (y ∷ ys) env x = elim (same_or_apart x y) as (λ _. (value_at (only (y ∷ ys) env) x ≡ None) ⊎ (value_at (only (y ∷ ys) env) x ≡ value_at env x)) [
  | inl e ↦ inr (ap (value_at (only (y ∷ ys) env)) e ∙ entry_same (only ys env) y (value_at env y) ∙ sym (ap (value_at env) e))
  | inr apart ↦ subst (λ v. (v ≡ None) ⊎ (v ≡ value_at env x)) (sym (entry_other (only ys env) y x (value_at env y) apart)) (only_at ys env x)
]

-- one variable more in front, which has no value
none_more : (y : ℕ) (ys : List ℕ) (env : Env) (x : ℕ) → value_at env y ≡ None → value_at (only ys env) x ≡ value_at (with_entry (only ys env) y None) x
none_more y ys env x lacks = elim (same_or_apart x y) as (λ _. value_at (only ys env) x ≡ value_at (with_entry (only ys env) y None) x) [
  | inl e ↦ elim (only_at ys env x) as (λ _. value_at (only ys env) x ≡ None) [ inl none ↦ none | inr same ↦ same ∙ ap (value_at env) e ∙ lacks ]
      ∙ sym (ap (value_at (with_entry (only ys env) y None)) e ∙ entry_same (only ys env) y None)
  | inr apart ↦ sym (entry_other (only ys env) y x None apart)
]

either_at : (ys : List ℕ) (env : Env) (x y : ℕ) (value : Value) → x ≡ y → value_at env y ≡ Some value → (value_at (only ys env) x ≡ None) ⊎ (value_at (only ys env) x ≡ Some value)
either_at ys env x y value e has = elim (only_at ys env x) as (λ _. (value_at (only ys env) x ≡ None) ⊎ (value_at (only ys env) x ≡ Some value)) [
  | inl none ↦ inl none
  | inr same ↦ inr (same ∙ ap (value_at env) e ∙ has)
]

-- one that has a value
some_more : (y : ℕ) (ys : List ℕ) (env first : Env) (x : ℕ) (value : Value) → value_at env y ≡ Some value
    → chosen (value_at (only ys env) x) (value_at (bound first y value) x) ≡ chosen (value_at (bound (only ys env) y value) x) (value_at first x)
unfolding chosen
some_more y ys env first x value has =
    elim (same_or_apart x y) as (λ _. chosen (value_at (only ys env) x) (value_at (bound first y value) x) ≡ chosen (value_at (bound (only ys env) y value) x) (value_at first x)) [
      | inl e ↦ chosen_both (value_at (only ys env) x) (value_at (bound first y value) x) value (either_at ys env x y value e has)
          (ap (value_at (bound first y value)) e ∙ entry_same first y (Some value))
          ∙ sym (ap (λ v. chosen v (value_at first x)) (ap (value_at (bound (only ys env) y value)) e ∙ entry_same (only ys env) y (Some value)))
      | inr apart ↦ ap (chosen (value_at (only ys env) x)) (entry_other first y x (Some value) apart)
          ∙ sym (ap (λ v. chosen v (value_at first x)) (entry_other (only ys env) y x (Some value) apart))
    ]

abbrev given_frozen : FrozenData → Env → Env
given_frozen frozen env = given_all frozen.variables frozen.values env

one_given : (y : ℕ) (ys : List ℕ) (env first : Env) (x : ℕ) (entry : Option Value) → value_at env y ≡ entry
    → ((next : Env) → value_at (given_frozen (frozen_of ys env) next) x ≡ chosen (value_at (only ys env) x) (value_at next x))
    → value_at (given_frozen (with_value y entry (frozen_of ys env)) first) x ≡ chosen (value_at (with_entry (only ys env) y entry) x) (value_at first x)
one_given y ys env first x None at others = others first ∙ ap (λ v. chosen v (value_at first x)) (none_more y ys env x at)
one_given y ys env first x (Some value) at others = others (bound first y value) ∙ some_more y ys env first x value at

all_given : (variables : List ℕ) (env first : Env) (x : ℕ) → value_at (given_frozen (frozen_of variables env) first) x ≡ chosen (value_at (only variables env) x) (value_at first x)
unfolding chosen
all_given [] env first x = refl
all_given (y ∷ ys) env first x = one_given y ys env first x (value_at env y) refl (λ next. all_given ys env next x)

-- the values that were frozen are those of these variables alone
only_given : (variables : List ℕ) (env : Env) (x : ℕ) → value_at (given_frozen (frozen_of variables env) []) x ≡ value_at (only variables env) x
only_given variables env x = all_given variables env [] x ∙ chosen_none (value_at (only variables env) x)

one_held : (P : ℕ → Type 0) (y : ℕ) (entry : Option Value) (frozen : FrozenData) → P y → All P frozen.variables → All P (with_value y entry frozen).variables
one_held P y None frozen first others = others
one_held P y (Some value) frozen first others = All-cons P y frozen.variables first others

pub frozen_within : (P : ℕ → Type 0) (variables : List ℕ) (env : Env) → All P variables → All P (frozen_of variables env).variables
frozen_within P [] env within = All-nil P
frozen_within P (y ∷ ys) env within = one_held P y (value_at env y) (frozen_of ys env) (All-head P y ys within) (frozen_within P ys env (All-tail P y ys within))

-- a frame stands for the values of an environment alone
alike_fits : (cells : List CellData) (count : ℕ) (slots : List Slot) (env other : Env) (marks : List ℕ) → ((x : ℕ) → value_at env x ≡ value_at other x)
    → FitsFrame cells count slots env marks → FitsFrame cells count slots other marks
alike_fits cells count slots env other marks alike fits = record {
  room = fits.room;
  values = λ x within. sym (alike x) ∙ fits.values x within;
  others = λ x past. sym (alike x) ∙ fits.others x past;
  numbers = fits.numbers;
}

abbrev pub opened : ℕ → StoreData
opened size = record { cells = []; stacks = record { current = empty_frame size; callers = []; choices = [] } }

pub opens_with : (after : StoreData) (size : ℕ) (frozen : FrozenData) → Thaws (opened size) after frozen.variables frozen.values → OpensWith after size frozen
opens_with after size frozen thawed = record {
  room = thawed.grows.room ∙ empty_length size;
  callers = thawed.grows.callers;
  choices = thawed.grows.choices;
  fits = λ variables env is count under within.
      let inside : All (λ (x : ℕ). x < count) frozen.variables = subst (λ (f : FrozenData). All (λ (x : ℕ). x < count) f.variables) (sym is) (frozen_within (λ (x : ℕ). x < count) variables env within) in
      alike_fits after.cells count after.stacks.current (given_frozen frozen []) (only variables env) []
      (λ x. ap (λ f. value_at (given_frozen f []) x) is ∙ only_given variables env x)
      (thawed.fits count [] [] (empty_fits [] count size under) inside);
}
