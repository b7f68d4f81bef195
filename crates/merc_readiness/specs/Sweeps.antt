-- How far one time over the goals of a conjunction, an `&` or a disjunction has come.
use Rattle.std.specs.Prelude.{◌≡◌, ◌==◌, ◌<◌, ◌+◌, ℕ, zero, suc, Bool, true, false, not, List, [], ◌∷◌, ◌++◌, ◌&&◌, ◌||◌, length, take, drop}
use Rattle.merc_tree.specs.declared.declarations.ModeDecl.{ModeDecl}
use Rattle.merc_tree.specs.declared.declarations.PredDecl.{PredDecl}
use Rattle.merc_base.specs.declared.place.Span.{Span}
use Rattle.merc_goal_tree.specs.Nodes.{Node, Nodes, Conjunction, no_nodes, more_nodes, nodes_of}
use Rattle.merc_goal_tree.specs.Parts.{parts_of, all_parts}
use Rattle.merc_order.specs.Bound.{Bound, with, among}
use Rattle.merc_order.specs.Marks.{Marked, no_marks, more_marks, left, SoundLeft, SoundEach, SoundBeside}
use Rattle.merc_order.specs.Moves.{beside, each_from}
use Rattle.merc_order.specs.Order.{binds, from, moves}
use Rattle.merc_order.specs.Ordered.{is_ready, are_ready}
use Rattle.merc_order.specs.Procedures.{modes_of}
use Rattle.merc_order.specs.Ways.{Went}
use Rattle.merc_goal_facts.specs.Facts.{AreKnown, all_subgoals}
use Rattle.merc_goal_facts.specs.declared.facts.Facts.{Facts}
use Rattle.merc_readiness.specs.Asking.{flags_of, Fits, AreMarked}
use Rattle.merc_readiness.specs.declared.waiting.Waiting.{Waiting}

-- what is bound behind others
abbrev pub Extends : List ℕ → List ℕ → Type 0
Extends old new = (more : List ℕ) × (new ≡ old ++ more)

abbrev pub new_one : Bool → ℕ
new_one true = 1
new_one false = 0

-- facts of these goals, from this index on
pub record AreKnownFrom (total : ℕ → ℕ) (modes : ℕ → List ModeDecl) (parts : List Node) (facts : List Facts) (at : ℕ) : Type 0 where
  pub front : List Facts
  pub back : List Facts
  pub at_is : length front ≡ at
  pub facts_are : facts ≡ front ++ back
  pub known : AreKnown total modes parts back

-- what the marked ones of goals bind
abbrev pub marked_bind : (ℕ → ℕ) → (ℕ → List ModeDecl) → Nodes → Marked → Bound
marked_bind total modes no_nodes marked variable = false
marked_bind total modes (more_nodes first rest) no_marks variable = false
marked_bind total modes (more_nodes first rest) (more_marks gone inner others) variable = (gone && binds total modes first variable) || marked_bind total modes rest others variable

-- There is a goal of this index, and its parts stand behind those of the goals before it.
abbrev pub IsPlaced : List Node → Waiting → Type 0
IsPlaced goals waiting = (waiting.index < length goals) × (waiting.at ≡ length (all_parts (nodes_of (take waiting.index goals))))

abbrev pub ArePlaced : List Node → List Waiting → Type 0
ArePlaced goals [] = Unit {0}
ArePlaced goals (waiting ∷ others) = IsPlaced goals waiting × ArePlaced goals others

-- how often a goal is listed
abbrev pub times : ℕ → List Waiting → ℕ
times index [] = 0
times index (waiting ∷ others) = new_one (waiting.index == index) + times index others

-- how often a goal has to be listed: once, where there is one that did not go
abbrev pub times_left : ℕ → Marked → ℕ
times_left index no_marks = 0
times_left zero (more_marks gone inner others) = new_one (not gone)
times_left (suc index) (more_marks gone inner others) = times_left index others

-- Listed are the goals that did not go, each once, in any order.
abbrev pub AreLeft : Marked → List Waiting → Type 0
AreLeft marked listed = (index : ℕ) → times index listed ≡ times_left index marked

abbrev pub listed_if_left : Bool → Waiting → List Waiting → List Waiting
listed_if_left true waiting listed = listed
listed_if_left false waiting listed = listed ++ waiting ∷ []

-- Of all goals those before this index are listed that did not go. The marks from there on are these.
pub record ListsBefore (whole : Marked) (index : ℕ) (marked : Marked) (listed : List Waiting) : Type 0 where
  pub before : (other : ℕ) → other < index → times other listed ≡ times_left other whole
  pub behind : (other : ℕ) → times (index + other) listed ≡ 0
  pub rest_is : (other : ℕ) → times_left (index + other) whole ≡ times_left other marked

-- From this index on goals are to be gone through, of all that are marked so. Where the marked ones are bound behind what is bound now, it is this.
pub record BindsFrom (total : ℕ → ℕ) (modes : ℕ → List ModeDecl) (rest : Nodes) (facts : List Facts) (flags : List Bool) (at : ℕ) (now target : Bound) (whole : Marked) (index : ℕ) (listed : List Waiting) : Type 0 where
  pub front : List Bool
  pub marked : Marked
  pub at_is : length front ≡ at
  pub flags_are : flags ≡ front ++ flags_of marked
  pub fits : Fits rest marked
  pub known : AreKnownFrom total modes (all_subgoals rest) facts at
  pub target_is : (variable : ℕ) → target variable ≡ (now variable || marked_bind total modes rest marked variable)
  pub lists : ListsBefore whole index marked listed

-- One more of them is bound, if it is marked, and is listed else.
abbrev pub BindsOne : Node → List Facts → List Bool → ℕ → List ℕ → List ℕ → Bool → Type 0
BindsOne goal facts flags at old new gone =
    (total : ℕ → ℕ) (modes : ℕ → List ModeDecl) (rest : Nodes) (target : Bound) (whole : Marked) (index : ℕ) (listed : List Waiting)
    → BindsFrom total modes (more_nodes goal rest) facts flags at (among old) target whole index listed
    → BindsFrom total modes rest facts flags (at + length (parts_of goal)) (among new) target whole (suc index) (listed_if_left gone (record { index = index; at = at }) listed)

-- The marked ones of goals are bound, and the others are listed.
abbrev pub BindsGone : Nodes → List Facts → List Bool → List ℕ → List ℕ → List Waiting → Type 0
BindsGone goals facts flags old new listed =
    (total : ℕ → ℕ) (modes : ℕ → List ModeDecl) (marked : Marked) → Fits goals marked → flags ≡ flags_of marked → AreKnown total modes (all_subgoals goals) facts
    → (among new ≡ with (among old) (marked_bind total modes goals marked)) × AreLeft marked listed

-- Of the goals of a conjunction from what was bound, those that are marked went, and this is bound now. The others are listed.
pub record AreGone (total : ℕ → ℕ) (modes : ℕ → List ModeDecl) (goals : Nodes) (bound : Bound) (flags : List Bool) (now : Bound) (listed : List Waiting) : Type 0 where
  pub marked : Marked
  pub fits : Fits goals marked
  pub flags_are : flags ≡ flags_of marked
  pub way : Went (moves total modes goals) bound (left total modes goals marked) now
  pub sound : SoundLeft total modes goals marked now
  pub are_left : AreLeft marked listed

-- None of the goals that are listed is ready.
abbrev pub AreStuck : (ℕ → ℕ) → (ℕ → List ModeDecl) → List Node → List Waiting → Bound → Type 0
AreStuck total modes goals [] now = Unit {0}
AreStuck total modes goals (waiting ∷ others) now =
    ((goal : Node) (rest : List Node) → drop waiting.index goals ≡ goal ∷ rest → is_ready (from total modes goal now) ≡ false) × AreStuck total modes goals others now

module _ (total : ℕ → ℕ) (modes : ℕ → List ModeDecl) (goals : Nodes) (bound : Bound) where
  -- Arms from here on are still to be asked; those before are ready.
  pub record DuringArms (rest : Nodes) (flags : List Bool) (at : ℕ) : Type 0 where
    pub front : List Bool
    pub marked : Marked
    pub at_is : length front ≡ at
    pub flags_are : flags ≡ front ++ flags_of marked
    pub fits : Fits rest marked
    pub sound : SoundEach total modes rest marked bound
    pub close : (others : Marked) → Fits rest others → SoundEach total modes rest others bound
        → (whole : Marked) × Fits goals whole × (flags_of whole ≡ front ++ flags_of others) × SoundEach total modes goals whole bound
    pub ready : are_ready (each_from (moves total modes goals) bound) ≡ are_ready (each_from (moves total modes rest) bound)

  -- The same of goals in parallel, of which those before have bound what they bind.
  pub record DuringBeside (rest : Nodes) (flags : List Bool) (at : ℕ) (now : Bound) : Type 0 where
    pub front : List Bool
    pub marked : Marked
    pub number : ℕ
    pub at_is : length front ≡ at
    pub flags_are : flags ≡ front ++ flags_of marked
    pub fits : Fits rest marked
    pub sound : SoundBeside total modes rest marked now
    pub close : (others : Marked) → Fits rest others → SoundBeside total modes rest others now
        → (whole : Marked) × Fits goals whole × (flags_of whole ≡ front ++ flags_of others) × SoundBeside total modes goals whole bound
    pub ready : are_ready (beside 1 (moves total modes goals) bound) ≡ are_ready (beside number (moves total modes rest) now)

-- What is so of the goals that are listed where one of them was asked: it went, or is not ready.
abbrev pub AskGives : (ℕ → ℕ) → (ℕ → List ModeDecl) → List Node → Node → Bound → List Bool → List ℕ → List ℕ → List Waiting → Waiting → List Waiting → Bool → Type 0
AskGives total modes goals goal start flags bound after before waiting behind true = AreGone total modes (nodes_of goals) start flags (among after) (before ++ behind)
AskGives total modes goals goal start flags bound after before waiting behind false =
    AreGone total modes (nodes_of goals) start flags (among after) (before ++ waiting ∷ behind) × (after ≡ bound) × (is_ready (from total modes goal (among after)) ≡ false)

-- One goal of a conjunction was asked that is listed.
abbrev pub AsksOne : List PredDecl → Node → List Facts → List Bool → List Bool → ℕ → List ℕ → List ℕ → Bool → Type 0
AsksOne predicates goal facts old new at bound after ready =
    (total : ℕ → ℕ) (goals rest : List Node) (start : Bound) (before behind : List Waiting) (waiting : Waiting) → AreKnown total (modes_of predicates) (all_subgoals (nodes_of goals)) facts
    → drop waiting.index goals ≡ goal ∷ rest → IsPlaced goals waiting → waiting.at ≡ at
    → AreGone total (modes_of predicates) (nodes_of goals) start old (among bound) (before ++ waiting ∷ behind)
    → AskGives total (modes_of predicates) goals goal start new bound after before waiting behind ready

-- All goals were asked that are listed, and those that did not go are listed again. Where none of them went none is ready.
abbrev pub Sweeps : List PredDecl → List Node → List Facts → List Bool → List Bool → List ℕ → List ℕ → List Waiting → List Waiting → Type 0
Sweeps predicates goals facts old new bound after listed kept =
    (total : ℕ → ℕ) (start : Bound) → AreKnown total (modes_of predicates) (all_subgoals (nodes_of goals)) facts
    → AreGone total (modes_of predicates) (nodes_of goals) start old (among bound) listed
    → AreGone total (modes_of predicates) (nodes_of goals) start new (among after) kept
    × (length kept ≡ length listed → AreStuck total (modes_of predicates) goals kept (among after))

-- The goals of a conjunction that are listed were asked, from what was bound, as often as one of them went.
abbrev pub SweepsAll : List PredDecl → List Node → List Facts → List Bool → List Bool → List ℕ → List ℕ → List Waiting → Bool → Type 0
SweepsAll predicates goals facts old new bound after listed ready =
    (total : ℕ → ℕ) (start : Bound) (span : Span) → AreKnown total (modes_of predicates) (all_subgoals (nodes_of goals)) facts
    → AreGone total (modes_of predicates) (nodes_of goals) start old (among bound) listed
    → (is_ready (from total (modes_of predicates) (Conjunction (nodes_of goals) span) start) ≡ ready)
    × AreMarked total (modes_of predicates) (Conjunction (nodes_of goals) span) new start
