-- Values of variables that go from one store to another.
use Rattle.std.proofs.Common.{◌≡◌, [], ◌∷◌, pos, Some, None, refl, ap}
use Rattle.merc_value.specs.Value.{Value, Int}
use Rattle.merc_value.specs.declared.word.Word.TheVariants.{Int as IntWord, Cell as CellWord}
use Rattle.merc_meaning.specs.Trace.{Env}
use Rattle.merc_meaning.specs.Steps.{value_at}
use Rattle.merc_frames.specs.declared.slot.Slot.TheVariants.{Empty, Int as IntSlot, Cell as CellSlot, Mark}
use Rattle.merc_store.specs.Frozen.{FrozenData, frozen_of, given_all, held_variables, held_words, with_value}

abbrev seven : Value
seven = Int (pos 7)

abbrev nine : Value
nine = Int (pos 9)

-- the variable 1 has no value
abbrev env : Env
env = Some seven ∷ None ∷ Some nine ∷ []

with_value-example : with_value 4 (Some nine) (record { variables = 0 ∷ []; values = seven ∷ [] }) ≡ record { variables = 4 ∷ 0 ∷ []; values = nine ∷ seven ∷ [] }
with_value-example = refl

with_value-none : with_value 4 None (record { variables = 0 ∷ []; values = seven ∷ [] }) ≡ record { variables = 0 ∷ []; values = seven ∷ [] }
with_value-none = refl

-- in the order in which they are listed, and as often
frozen_of-example : frozen_of (2 ∷ 1 ∷ 0 ∷ 2 ∷ 5 ∷ []) env ≡ record { variables = 2 ∷ 0 ∷ 2 ∷ []; values = nine ∷ seven ∷ nine ∷ [] }
frozen_of-example = refl

-- a variable that is not listed does not go
frozen_of-not : frozen_of (2 ∷ 1 ∷ []) env ≡ record { variables = 2 ∷ 0 ∷ []; values = nine ∷ seven ∷ [] } → ⊥
frozen_of-not same = absurd (let variables : 2 ∷ [] ≡ 2 ∷ 0 ∷ [] = ap (λ (f : FrozenData). f.variables) same in cc)

held_variables-example : held_variables (IntSlot (pos 7) ∷ Empty ∷ CellSlot 3 ∷ Mark 2 ∷ []) (3 ∷ 2 ∷ 1 ∷ 0 ∷ []) ≡ 2 ∷ 0 ∷ []
held_variables-example = refl

held_words-example : held_words (IntSlot (pos 7) ∷ Empty ∷ CellSlot 3 ∷ Mark 2 ∷ []) (3 ∷ 2 ∷ 1 ∷ 0 ∷ []) ≡ CellWord 3 ∷ IntWord (pos 7) ∷ []
held_words-example = refl

-- a slot without a word has none
held_words-not : held_words (Empty ∷ []) (0 ∷ []) ≡ IntWord (pos 0) ∷ [] → ⊥
held_words-not same = absurd (cc)

-- the later value of a variable that stands twice; where no value is left, none is given
given_all-example : given_all (2 ∷ 0 ∷ 2 ∷ 1 ∷ []) (seven ∷ nine ∷ nine ∷ []) [] ≡ Some nine ∷ None ∷ Some nine ∷ []
given_all-example = refl

given_all-not : given_all (0 ∷ []) (nine ∷ []) env ≡ env → ⊥
given_all-not same = absurd (let first : Some nine ≡ Some seven = ap (λ e. value_at e 0) same in cc)
