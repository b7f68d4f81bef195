-- What goals need: the variables without which they are not ready.
use Rattle.std.specs.Prelude.{◌≡◌, ℕ, true, not, ◌&&◌, List, [], ◌∷◌, ◌++◌, Option, Some, None, slice_get}
use Rattle.std.specs.List.{filter, list_any}
use Rattle.merc_tree.specs.declared.declarations.ModeDecl.{ModeDecl}
use Rattle.merc_goal_tree.specs.declared.goal.SimpleGoal.{SimpleGoal}
use Rattle.merc_goal_tree.specs.declared.goal.SimpleGoal.TheVariants.{True, Fail, Same, Shape, Arithmetic, Compare, Raise, Call}
use Rattle.merc_order.specs.Bound.{Bound, among}
use Rattle.merc_order.specs.CallModes.{inputs_of}
use Rattle.merc_goal_facts.specs.declared.complete.Complete.{Complete}
use Rattle.merc_goal_facts.specs.declared.facts.Facts.{Facts}

-- the inputs of a call whose predicate has these modes, where there is but one
abbrev pub only_inputs : List ModeDecl → List ℕ → List ℕ
only_inputs [] arguments = []
only_inputs (mode ∷ []) arguments = inputs_of mode.args arguments
only_inputs (mode ∷ other ∷ others) arguments = []

-- what a goal that holds no others reads, in whatever way it goes
abbrev pub reads : (ℕ → List ModeDecl) → SimpleGoal → List ℕ
reads modes True = []
reads modes Fail = []
reads modes (Same one other) = []
reads modes (Shape whole symbol arguments) = []
reads modes (Arithmetic operation result left right) = left ∷ right ∷ []
reads modes (Compare comparison left right) = left ∷ right ∷ []
reads modes (Raise text) = text ∷ []
reads modes (Call predicate arguments) = only_inputs (modes predicate) arguments

abbrev pub found_with : Option Facts → List Facts → List Facts
found_with None others = others
found_with (Some found) others = found ∷ others

-- the facts of goals that are complete
abbrev pub found_in : List Facts → List Complete → List Facts
found_in facts [] = []
found_in facts (complete ∷ others) = found_with (slice_get facts complete.part) (found_in facts others)

-- Some goal needs a variable.
abbrev pub is_needed : List Facts → Bound
is_needed all variable = list_any (λ found. among found.needs variable) all

-- What a goal brings: what it binds and does not need. It is put behind the others.
abbrev pub brought_with : List ℕ → Facts → List ℕ
brought_with brought found = brought ++ filter (λ variable. not (among found.needs variable)) found.binds

-- Some goal brings a variable.
abbrev pub is_brought : List Facts → Bound
is_brought all variable = list_any (λ found. among (brought_with [] found) variable) all

-- Goals need a variable together that one of them needs and none brings.
abbrev pub is_needed_together : List Facts → Bound
is_needed_together all variable = is_needed all variable && not (is_brought all variable)

-- The same is known of a goal, but of what it needs some may be left out.
pub record IsKept (old new : Facts) : Type 0 where
  pub reached_is : new.reached ≡ old.reached
  pub binds_are : new.binds ≡ old.binds
  pub owed_are : new.owed ≡ old.owed
  pub owed_by_condition_are : new.owed_by_condition ≡ old.owed_by_condition
  pub occurrences_are : new.occurrences ≡ old.occurrences
  pub fewer : (variable : ℕ) → among new.needs variable ≡ true → among old.needs variable ≡ true

abbrev pub AreKept : List Facts → List Facts → Type 0
AreKept [] [] = Unit {0}
AreKept [] (new ∷ others) = ⊥
AreKept (old ∷ rest) [] = ⊥
AreKept (old ∷ rest) (new ∷ others) = IsKept old new × AreKept rest others
