-- Values of variables that go from one store to another.
use Rattle.std.specs.Prelude.{◌≡◌, ℕ, ◌<◌, ◌≤◌, List, [], ◌∷◌, length, filter, filter_map, Option, Some, None}
use Rattle.std.specs.List.{All}
use Rattle.std.specs.Option.{is_some}
use Rattle.merc_value.specs.Value.{Value}
use Rattle.merc_value.specs.Block.{root_values}
use Rattle.merc_value.specs.declared.word.Word.{Word}
use Rattle.merc_meaning.specs.Trace.{Env}
use Rattle.merc_meaning.specs.Steps.{value_at, bound}
use Rattle.merc_course.specs.Variables.{only}
use Rattle.merc_frames.specs.declared.slot.Slot.{Slot}
use Rattle.merc_store.specs.declared.freezing.Frozen.{Frozen}
use Rattle.merc_store.specs.Data.{StoreData}
use Rattle.merc_store.specs.Fitting.{FitsFrame}
use Rattle.merc_store.specs.Effects.{Grows}
use Rattle.merc_store.specs.Performing.{word_at}

-- variables, and the value of each
pub record FrozenData : Type 0 where
  pub variables : List ℕ
  pub values : List Value

-- the variables and the values of what was frozen
abbrev pub frozen_in : Frozen → FrozenData
frozen_in frozen = record { variables = frozen.variables.items; values = root_values frozen.values }

-- with one variable more in front, where it has a value
abbrev pub with_value : ℕ → Option Value → FrozenData → FrozenData
with_value variable None frozen = frozen
with_value variable (Some value) frozen = record { variables = variable ∷ frozen.variables; values = value ∷ frozen.values }

-- those of the variables that have a value, with their values
abbrev pub frozen_of : List ℕ → Env → FrozenData
frozen_of [] env = record { variables = []; values = [] }
frozen_of (variable ∷ variables) env = with_value variable (value_at env variable) (frozen_of variables env)

-- those of the variables whose slots hold words
abbrev pub held_variables : List Slot → List ℕ → List ℕ
held_variables slots variables = filter (λ variable. is_some (word_at slots variable)) variables

-- the words that the variables' slots hold
abbrev pub held_words : List Slot → List ℕ → List Word
held_words slots variables = filter_map (word_at slots) variables

-- These are the values of those of the variables that have one, for whatever values the slots stand.
pub record Freezes (store : StoreData) (variables : List ℕ) (frozen : FrozenData) : Type 0 where
  pub is : (count : ℕ) (env : Env) (marks : List ℕ) → FitsFrame store.cells count store.stacks.current env marks
      → All (λ (variable : ℕ). variable < count) variables → frozen ≡ frozen_of variables env

-- the environment with these values for the variables, one for one
abbrev pub given_all : List ℕ → List Value → Env → Env
given_all [] values env = env
given_all (variable ∷ variables) [] env = env
given_all (variable ∷ variables) (value ∷ values) env = given_all variables values (bound env variable value)

-- The variables were given these values, one for one, whatever values the slots stand for.
pub record Thaws (before after : StoreData) (variables : List ℕ) (values : List Value) : Type 0 where
  pub grows : Grows before after
  pub fits : (count : ℕ) (env : Env) (marks : List ℕ) → FitsFrame before.cells count before.stacks.current env marks
      → All (λ (variable : ℕ). variable < count) variables → FitsFrame after.cells count after.stacks.current (given_all variables values env) marks

-- A store that begins with one frame of this size. Where the values were those of some variables, the frame stands for these alone.
pub record OpensWith (store : StoreData) (size : ℕ) (frozen : FrozenData) : Type 0 where
  pub room : length store.stacks.current ≡ size
  pub callers : store.stacks.callers ≡ []
  pub choices : store.stacks.choices ≡ []
  pub fits : (variables : List ℕ) (env : Env) → frozen ≡ frozen_of variables env → (count : ℕ) → count ≤ size
      → All (λ (variable : ℕ). variable < count) variables → FitsFrame store.cells count store.stacks.current (only variables env) []
