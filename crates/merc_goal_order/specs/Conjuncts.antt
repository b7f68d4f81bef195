-- How the goals of a conjunction go one after the other, each as the leftmost that is ready.
use Rattle.std.specs.Prelude.{◌≡◌, ◌≤◌, ◌+◌, ℕ, zero, suc, Bool, true, false, List, [], ◌∷◌, ◌++◌, length, drop, Result, Ok, Err}
use Rattle.merc_base.specs.declared.refusal.Fault.{Fault}
use Rattle.merc_base.specs.declared.refusal.Fault.TheVariants.{Refused, NoMemory}
use Rattle.merc_tree.specs.declared.declarations.ModeDecl.{ModeDecl}
use Rattle.merc_tree.specs.declared.declarations.PredDecl.{PredDecl}
use Rattle.merc_goal_tree.specs.Nodes.{Node, Nodes, nodes_of}
use Rattle.merc_goal_tree.specs.Variables.{variables, all_variables}
use Rattle.merc_order.specs.Bound.{Bound, nothing, among, with}
use Rattle.merc_order.specs.Marks.{Marked, no_marks, more_marks, left, SoundLeft}
use Rattle.merc_order.specs.Moves.{Move}
use Rattle.merc_order.specs.Order.{binds, from}
use Rattle.merc_order.specs.Ordered.{Ordered, Outcomes, Ready, is_ready}
use Rattle.merc_order.specs.Procedures.{modes_of}
use Rattle.merc_goal_facts.specs.Facts.{AreKnown, subgoals, all_subgoals}
use Rattle.merc_goal_facts.specs.Outside.{IsStretch}
use Rattle.merc_readiness.specs.Asking.{IsMarked, Fits, flags_of, joined_by}
use Rattle.merc_readiness.specs.Sweeps.{AreKnownFrom}
use Rattle.merc_simple_goals.specs.Writing.{IsWritten, Gives}
use Rattle.merc_simple_goals.specs.declared.written.Written.{Written}
use Rattle.merc_goal_order.specs.Agenda.{ArePlaced, awaits, IsTaken}
use Rattle.merc_goal_order.specs.Positions.{IsAt, IsPlaced}
use Rattle.merc_goal_order.specs.Walks.{behind_them, AreWritten, all_settled}
use Rattle.merc_goal_order.specs.Watching.{IsWatch, AreWatches, watched_at}
use Rattle.merc_goal_order.specs.declared.agenda.Agenda.{Agenda}
use Rattle.merc_goal_facts.specs.declared.facts.Facts.{Facts}
use Rattle.merc_goal_order.specs.declared.agenda.Start.{Start}

-- A goal that went: its own mark says so, those of its parts say nothing.
pub record HasGone (goal : Node) (flags : List Bool) : Type 0 where
  pub inner : Marked
  pub fits : Fits (joined_by goal) inner
  pub flags_are : flags ≡ flags_of inner ++ true ∷ []

-- A goal that is ready is written, and what it binds is bound.
pub record Goes (total : ℕ → ℕ) (modes : ℕ → List ModeDecl) (goal : Node) (flags : List Bool) (bound after : List ℕ) (old new : Written) : Type 0 where
  pub ordered : Ordered
  pub outcome : from total modes goal (among bound) ≡ Ready ordered
  pub written : IsWritten modes ordered old new
  pub bound_is : among after ≡ with (among bound) (binds total modes goal)
  pub gone : HasGone goal flags

-- One that is not ready has right marks.
pub record Stays (total : ℕ → ℕ) (modes : ℕ → List ModeDecl) (goal : Node) (flags : List Bool) (bound after : List ℕ) (old new : Written) : Type 0 where
  pub stuck : is_ready (from total modes goal (among bound)) ≡ false
  pub same : new ≡ old
  pub same_bound : after ≡ bound
  pub marked : IsMarked total modes goal flags (among bound)
  pub went_is : marked.went ≡ false

abbrev pub GoesIfReady : (ℕ → ℕ) → (ℕ → List ModeDecl) → Node → List Bool → List ℕ → List ℕ → Written → Written → Result Bool Fault → Type 0
GoesIfReady total modes goal flags bound after old new (Ok true) = Goes total modes goal flags bound after old new
GoesIfReady total modes goal flags bound after old new (Ok false) = Stays total modes goal flags bound after old new
GoesIfReady total modes goal flags bound after old new (Err (Refused refusal)) = ⊥
GoesIfReady total modes goal flags bound after old new (Err NoMemory) = Unit {0}

abbrev pub MayGo : List PredDecl → Node → List Facts → List ℕ → ℕ → List Bool → List Bool → List ℕ → List ℕ → Written → Written → Result Bool Fault → Type 0
MayGo predicates goal facts all start flags flags_after bound after old new result =
    (total : ℕ → ℕ) → AreKnown total (modes_of predicates) (subgoals goal) facts → IsStretch total all start (start + length (variables goal)) (variables goal)
    → IsMarked total (modes_of predicates) goal flags (among bound) → GoesIfReady total (modes_of predicates) goal flags_after bound after old new result

-- The first goal that is left is written in its order, or tells its fault; where none is left nothing is written.
abbrev pub TellsFirst : (ℕ → List ModeDecl) → List Move → Bound → Written → Written → Result (Unit {0}) Fault → Type 0
TellsFirst modes [] bound old new (Ok done) = new ≡ old
TellsFirst modes [] bound old new (Err (Refused refusal)) = ⊥
TellsFirst modes [] bound old new (Err NoMemory) = Unit {0}
TellsFirst modes (move ∷ moves) bound old new result = Gives modes (move.from bound) old new result

abbrev pub FirstTells : List PredDecl → Nodes → List Facts → List ℕ → ℕ → List Bool → List ℕ → Written → Written → Result (Unit {0}) Fault → Type 0
FirstTells predicates goals facts all start flags bound old new result =
    (total : ℕ → ℕ) (marked : Marked) → Fits goals marked → flags ≡ flags_of marked → AreKnown total (modes_of predicates) (all_subgoals goals) facts
    → IsStretch total all start (start + length (all_variables goals)) (all_variables goals)
    → TellsFirst (modes_of predicates) (left total (modes_of predicates) goals marked) (among bound) old new result

-- whether the goal of an index went
abbrev pub went_at : ℕ → Marked → Bool
went_at index no_marks = true
went_at zero (more_marks went inner others) = went
went_at (suc index) (more_marks went inner others) = went_at index others

module _ (total : ℕ → ℕ) (modes : ℕ → List ModeDecl) where
  -- The search for the first goal that is left: those before went.
  pub record Passing (rest : Nodes) (facts : List Facts) (flags : List Bool) (at : ℕ) (all : List ℕ) (place : ℕ) (those : List Move) : Type 0 where
    pub front : List Bool
    pub marked : Marked
    pub at_is : length front ≡ at
    pub flags_are : flags ≡ front ++ flags_of marked
    pub fits : Fits rest marked
    pub left_is : those ≡ left total modes rest marked
    pub known : AreKnownFrom total modes (all_subgoals rest) facts at
    pub stretch : IsStretch total all place (place + length (all_variables rest)) (all_variables rest)

  -- Of the goals that are left those that are not awaited are not ready.
  abbrev pub AskedAreStuck : (ℕ → Bool) → List Node → Marked → Bound → Type 0
  AskedAreStuck awaited goals marked bound =
      (index : ℕ) (goal : Node) (rest : List Node) → drop index goals ≡ goal ∷ rest → awaited index ≡ false → went_at index marked ≡ false → is_ready (from total modes goal bound) ≡ false

  -- Of all goals at most so many are left, and those of them that are not awaited were not ready from what was bound before. What becomes of all from what was
  -- bound first is what becomes from what is bound now of those that are left, behind those that are written.
  pub record Amid (goals : List Node) (whole : Outcomes) (awaited : ℕ → Bool) (flags : List Bool) (before now : Bound) (old written : Written) (count : ℕ) : Type 0 where
    pub marked : Marked
    pub done : List Ordered
    pub fits : Fits (nodes_of goals) marked
    pub flags_are : flags ≡ flags_of marked
    pub sound : SoundLeft total modes (nodes_of goals) marked now
    pub stuck : AskedAreStuck awaited goals marked before
    pub whole_is : whole ≡ behind_them done (all_settled (left total modes (nodes_of goals) marked) now)
    pub are_written : AreWritten modes done old written
    pub fewer : length (left total modes (nodes_of goals) marked) ≤ count

  -- The goal of this index was asked, and goes or is left.
  abbrev pub AskGives : List Node → Outcomes → ℕ → (ℕ → Bool) → List Bool → Bound → Bound → Written → Written → ℕ → Result Bool Fault → Type 0
  AskGives goals whole index awaited flags before now old written less (Ok true) = (amid : Amid goals whole awaited flags before now old written less) × (went_at index amid.marked ≡ true)
  AskGives goals whole index awaited flags before now old written less (Ok false) = Amid goals whole awaited flags now now old written (suc less)
  AskGives goals whole index awaited flags before now old written less (Err (Refused refusal)) = ⊥
  AskGives goals whole index awaited flags before now old written less (Err NoMemory) = Unit {0}

  -- The first that is ready of those that are awaited goes, or none is.
  abbrev pub NextGives : List Node → Outcomes → (ℕ → Bool) → List Bool → Bound → Written → Written → ℕ → Result Bool Fault → Type 0
  NextGives goals whole awaited flags now old written less (Ok true) = Amid goals whole awaited flags now now old written less
  NextGives goals whole awaited flags now old written less (Ok false) = Amid goals whole nothing flags now now old written (suc less)
  NextGives goals whole awaited flags now old written less (Err (Refused refusal)) = ⊥
  NextGives goals whole awaited flags now old written less (Err NoMemory) = Unit {0}

-- The first goal that is awaited is asked.
abbrev pub AsksOn : List PredDecl → Node → List Facts → List ℕ → Start → ℕ → List (List ℕ) → List Bool → List Bool → List ℕ → List ℕ → Written → Written → Result Bool Fault → Type 0
AsksOn predicates goal facts all here number watched flags flags_after bound after mid new result =
    (total : ℕ → ℕ) (goals rest : List Node) (start index : ℕ) (whole : Outcomes) (awaited later : ℕ → Bool) (old : Written) (less : ℕ) → AreKnown total (modes_of predicates) (all_subgoals (nodes_of goals)) facts
    → IsStretch total all start (start + length (all_variables (nodes_of goals))) (all_variables (nodes_of goals)) → drop index goals ≡ goal ∷ rest
    → IsWatch total (modes_of predicates) goal (watched_at watched number)
    → IsAt goals index here.at → IsPlaced start goals index here.place → IsTaken index awaited later
    → Amid total (modes_of predicates) goals whole awaited flags (among bound) (among bound) old mid (suc less)
    → AskGives total (modes_of predicates) goals whole index later flags_after (among bound) (among after) old new less result

-- Goals that are awaited are asked, up to one that goes.
abbrev pub NextOn : List PredDecl → List Node → List Facts → List ℕ → Agenda → Agenda → List (List ℕ) → List Bool → List Bool → List ℕ → List ℕ → Written → Written → Result Bool Fault → Type 0
NextOn predicates goals facts all agenda later watched flags flags_after bound after mid new result =
    (total : ℕ → ℕ) (start : ℕ) (whole : Outcomes) (old : Written) (less : ℕ) → AreKnown total (modes_of predicates) (all_subgoals (nodes_of goals)) facts
    → IsStretch total all start (start + length (all_variables (nodes_of goals))) (all_variables (nodes_of goals)) → ArePlaced start goals facts all agenda.starts.items
    → AreWatches total (modes_of predicates) goals watched
    → Amid total (modes_of predicates) goals whole (awaits agenda) flags (among bound) (among bound) old mid (suc less)
    → NextGives total (modes_of predicates) goals whole (awaits later) flags_after (among after) old new less result
