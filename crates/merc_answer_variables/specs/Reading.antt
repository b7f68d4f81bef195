-- What is kept of a goal while its entries are read from the last to the first.
use Rattle.std.specs.Prelude.{◌≡◌, ℕ, ◌+◌, Bool, false, ◌==◌, ◌&&◌, not, List, [], ◌∷◌, ◌++◌, Option, Some, None, length, reverse, take, drop, if◌then◌else◌}
use Rattle.std.specs.Ordering.{nat_cmp}
use Rattle.std.specs.BTreeMap.{get}
use Rattle.std.specs.BTreeSet.{contains}
use Rattle.merc_tree.specs.Term.{Term, Variable, Integer, Text, Application}
use Rattle.merc_goals.specs.Written.{Written, WrittenGoals, parts}
use Rattle.merc_goals.specs.Entries.{goals_of}
use Rattle.merc_scopes.specs.declared.occurrence.Occurrence.{Occurrence}
use Rattle.merc_scopes.specs.Scopes.{free, occurrence, occurrences}
use Rattle.merc_answer_variables.specs.declared.variables.Variables.{Variables}
use Rattle.merc_answer_variables.specs.declared.reader.Reader.{Reader}
use Rattle.merc_answer_variables.specs.AnswerVariables.{begins_with_underscore}
use Rattle.merc_answer_variables.specs.Statuses.{Status, all_before, each_before, status_of, each_status, plain_status}
use Rattle.merc_value.specs.Text.{text_at}

-- what the variables of a goal say of a name
abbrev pub status : Variables → ℕ → Status
status variables name = record { place = get nat_cmp variables.places name; shown = contains nat_cmp variables.shown name }

-- the variable that a term alone is, if any
abbrev pub own_occurrence : (ℕ → Bool) → ℕ → Term → List Occurrence
own_occurrence blank at (Variable name span) = if blank name then [] else occurrence name at ∷ []
own_occurrence blank at (Integer value span) = []
own_occurrence blank at (Text name span) = []
own_occurrence blank at (Application name qualifier arguments span) = []

-- the variables of terms, the first of which has this number
abbrev pub listed : (ℕ → Bool) → ℕ → List Term → List Occurrence
listed blank at [] = []
listed blank at (first ∷ rest) = occurrences blank at first ++ listed blank (at + parts first) rest

module _ (blank : ℕ → Bool) where
  -- the variables of goals in order, wherever they occur
  abbrev pub all_of : List Written → List Occurrence
  all_of [] = []
  all_of (goal ∷ goals) = all_before blank goal (all_of goals)

  -- Variables are those of a goal before some occurrences.
  abbrev pub Holds : Written → List Occurrence → Variables → Type 0
  Holds goal behind variables = (name : ℕ) → status variables name ≡ status_of blank name goal behind

  abbrev pub HoldEach : List Written → List Variables → Type 0
  HoldEach [] [] = Unit {0}
  HoldEach [] (first ∷ rest) = ⊥
  HoldEach (goal ∷ goals) [] = ⊥
  HoldEach (goal ∷ goals) (first ∷ rest) = Holds goal (all_of goals) first × HoldEach goals rest

  -- These goals have been read. The last variables are those of the first goal, and the last occurrence is the first one.
  pub record IsRead (goals : List Written) (reader : Reader) : Type 0 where
    pub each : HoldEach goals (reverse reader.goals.items)
    pub all : reverse reader.trail.items ≡ all_of goals

  -- The first goals, so many, have been taken from those that were read, and these are their variables.
  pub record AreTaken (count : ℕ) (goals : List Written) (left : List Variables) (taken : Variables) : Type 0 where
    pub each : HoldEach (drop count goals) (reverse left)
    pub joins : (name : ℕ) → status taken name ≡ each_status blank name (goals_of (take count goals)) (all_of (drop count goals))

  -- a goal without sub-goals
  pub record IsPlain (goal : Written) : Type 0 where
    pub all : (behind : List Occurrence) → all_before blank goal behind ≡ free blank goal ++ behind
    pub status : (name : ℕ) (behind : List Occurrence) → status_of blank name goal behind ≡ plain_status name (free blank goal) behind

  -- a goal of these sub-goals beside each other
  pub record IsBeside (goals : WrittenGoals) (goal : Written) : Type 0 where
    pub all : (behind : List Occurrence) → all_before blank goal behind ≡ each_before blank goals behind
    pub status : (name : ℕ) (behind : List Occurrence) → status_of blank name goal behind ≡ each_status blank name goals behind

abbrev pub is_place : Option ℕ → ℕ → Bool
is_place None place = false
is_place (Some found) place = found == place

-- whether an occurrence before so many others is an answer
abbrev pub is_chosen : List (List ℕ) → (ℕ → Status) → Occurrence → ℕ → Bool
is_chosen names statuses one place = not (begins_with_underscore (text_at names one.name)) && (is_place (statuses one.name).place place && (statuses one.name).shown)

-- the answers among some occurrences
abbrev pub chosen : List (List ℕ) → (ℕ → Status) → List Occurrence → List Occurrence
chosen names statuses [] = []
chosen names statuses (first ∷ rest) = if is_chosen names statuses first (length rest) then first ∷ chosen names statuses rest else chosen names statuses rest
