-- What is said of a trace's answers.
use Rattle.std.specs.Prelude.{◌≡◌, ◌⊎◌, false}
use Rattle.merc_base.specs.Category.{can_fail_of, most_of}
use Rattle.merc_base.specs.declared.category.Category.{Category}
use Rattle.merc_base.specs.declared.category.Most.{Most}
use Rattle.merc_base.specs.declared.category.Most.TheVariants.{Zero, One, Many}
use Rattle.merc_meaning.specs.Trace.{Env, Trace, Ends, Tick, Answer, Done, Raised, TooDeep}

-- each answer is so
abbrev pub Each : (Env → Type 0) → Trace → Type 0
Each Holds (Ends end) = Unit {0}
Each Holds (Tick rest) = Each Holds rest
Each Holds (Answer env rest) = Holds env × Each Holds rest

-- some answer is so
abbrev pub Has : (Env → Type 0) → Trace → Type 0
Has Holds (Ends end) = ⊥
Has Holds (Tick rest) = Has Holds rest
Has Holds (Answer env rest) = Holds env ⊎ Has Holds rest

abbrev pub Never : Env → Type 0
Never env = ⊥

abbrev pub Any : Env → Type 0
Any env = Unit {0}

-- the trace ends, with no exception and not too deep
abbrev pub IsDone : Trace → Type 0
IsDone (Ends Done) = Unit {0}
IsDone (Ends (Raised text)) = ⊥
IsDone (Ends TooDeep) = ⊥
IsDone (Tick rest) = IsDone rest
IsDone (Answer env rest) = IsDone rest

-- there is one answer at most, and behind it the end
abbrev pub Single : Trace → Type 0
Single (Ends end) = Unit {0}
Single (Tick rest) = Single rest
Single (Answer env rest) = rest ≡ Ends Done

-- no more answers than a maximum allows
abbrev pub AreAtMost : Most → Trace → Type 0
AreAtMost Zero trace = Each Never trace
AreAtMost One trace = Single trace
AreAtMost Many trace = Unit {0}

-- A trace has no more answers than its category allows, and where it ends Done it has one at least, unless the category can fail.
pub record KeepsTo (category : Category) (trace : Trace) : Type 0 where
  pub at_most : AreAtMost (most_of category) trace
  pub at_least : can_fail_of category ≡ false → IsDone trace → Has Any trace
