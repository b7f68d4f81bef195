-- How far a chain of if-then-elses has come, of which each is the else part of the one before it.
use Rattle.std.specs.Prelude.{◌≡◌, ℕ, Bool, true, false, List, [], ◌∷◌, ◌++◌, length, Option, Some, None}
use Rattle.merc_base.specs.declared.place.Span.{Span}
use Rattle.merc_tree.specs.declared.declarations.ModeDecl.{ModeDecl}
use Rattle.merc_tree.specs.declared.declarations.PredDecl.{PredDecl}
use Rattle.merc_goal_tree.specs.Nodes.{Node, Conditional}
use Rattle.merc_order.specs.Bound.{Bound, with}
use Rattle.merc_order.specs.Order.{binds, from}
use Rattle.merc_order.specs.Ordered.{is_ready}
use Rattle.merc_order.specs.Procedures.{modes_of}
use Rattle.merc_goal_facts.specs.Facts.{AreKnown, AreFactsOf, subgoals}
use Rattle.merc_goal_facts.specs.Ready.{is_arm_ready}
use Rattle.merc_goal_facts.specs.declared.facts.Facts.{Facts}
use Rattle.merc_readiness.specs.Asking.{IsMarked}
use Rattle.merc_readiness.specs.Sweeps.{AreKnownFrom}

-- if-then-elses, each the else part of the next, from the innermost to the outermost
pub data Links : Type 0 where
  no_links : Links
  more_links : (condition then_part : Node) (span : Span) (outer : Links) → Links

-- the outermost, where a goal is the else part of the innermost
abbrev pub around : Links → Node → Node
around no_links goal = goal
around (more_links condition then_part span outer) goal = around outer (Conditional condition then_part goal span)

-- all of these if-then-elses, the innermost first
abbrev pub ends : Links → Node → List Node
ends no_links goal = []
ends (more_links condition then_part span outer) goal = Conditional condition then_part goal span ∷ ends outer (Conditional condition then_part goal span)

-- Given are how often each variable occurs in the whole, and the modes of each predicate.
module _ (total : ℕ → ℕ) (modes : ℕ → List ModeDecl) where
  -- A goal's marks are right, and its own tells that it is ready or not.
  abbrev pub Told : Node → List Bool → Bound → Bool → Type 0
  Told goal flags bound ready = (is_ready (from total modes goal bound) ≡ ready) × ((marked : IsMarked total modes goal flags bound) × (marked.went ≡ ready))

  -- the marks of a condition and of its then part
  pub record AreArmMarked (condition then_part : Node) (flags : List Bool) (bound : Bound) : Type 0 where
    pub first : List Bool
    pub second : List Bool
    pub flags_are : flags ≡ first ++ second
    pub condition_marked : IsMarked total modes condition first bound
    pub then_marked : IsMarked total modes then_part second (with bound (binds total modes condition))

  -- The marks before and behind those of the last else part: the conditions and then parts are ready, and no if-then-else is marked.
  pub data AreLinked : Links → List Bool → List Bool → Bound → Type 0 where
    none : (bound : Bound) → AreLinked no_links [] [] bound
    more : (condition then_part : Node) (span : Span) (outer : Links) (before own after : List Bool) (bound : Bound) → is_arm_ready total modes condition then_part bound ≡ true
        → AreArmMarked condition then_part own bound → AreLinked outer before after bound → AreLinked (more_links condition then_part span outer) (before ++ own) (false ∷ after) bound

  -- A goal is a chain that ends with this goal, which is to be asked. Its marks stand from this index on.
  pub record IsOpen (goal last : Node) (flags : List Bool) (facts : List Facts) (at : ℕ) (bound : Bound) : Type 0 where
    pub links : Links
    pub front : List Bool
    pub own : List Bool
    pub back : List Bool
    pub goal_is : goal ≡ around links last
    pub at_is : length front ≡ at
    pub flags_are : flags ≡ front ++ (own ++ back)
    pub linked : AreLinked links front back bound
    pub marked : IsMarked total modes last own bound
    pub known : AreKnownFrom total modes (subgoals last ++ ends links last) facts at

  -- A goal is a chain of which an else part is ready. Its marks end before this index.
  pub record IsReached (goal : Node) (flags : List Bool) (facts : List Facts) (end : ℕ) (bound : Bound) : Type 0 where
    pub links : Links
    pub last : Node
    pub front : List Bool
    pub own : List Bool
    pub back : List Bool
    pub goal_is : goal ≡ around links last
    pub end_is : length (front ++ own) ≡ end
    pub flags_are : flags ≡ front ++ (own ++ back)
    pub linked : AreLinked links front back bound
    pub told : Told last own bound true
    pub known : AreKnownFrom total modes (ends links last) facts end

-- A condition and its then part, asked with right marks. They are given the facts of the if-then-else.
abbrev pub AskedArm : List PredDecl → Node → Node → List Facts → Facts → List Bool → List Bool → Bound → Bool → Type 0
AskedArm predicates condition then_part facts own old new bound ready =
    (total : ℕ → ℕ) (else_part : Node) (span : Span) → AreKnown total (modes_of predicates) (subgoals condition ++ subgoals then_part) facts
    → AreFactsOf total (modes_of predicates) (Conditional condition then_part else_part span) own → AreArmMarked total (modes_of predicates) condition then_part old bound
    → (is_arm_ready total (modes_of predicates) condition then_part bound ≡ ready) × AreArmMarked total (modes_of predicates) condition then_part new bound

-- what is known where all parts of a chain were asked: one is not ready, or all are up to this index
abbrev pub found_by : (ℕ → ℕ) → (ℕ → List ModeDecl) → Node → List Facts → List Bool → Bound → Option ℕ → Type 0
found_by total modes goal facts new bound None = Told total modes goal new bound false
found_by total modes goal facts new bound (Some end) = IsReached total modes goal new facts end bound

-- The parts of a chain were asked, with right marks.
abbrev pub AskedLinks : List PredDecl → Node → List Facts → List Bool → List Bool → Bound → Option ℕ → Type 0
AskedLinks predicates goal facts old new bound end =
    (total : ℕ → ℕ) → AreKnown total (modes_of predicates) (subgoals goal) facts → IsMarked total (modes_of predicates) goal old bound
    → found_by total (modes_of predicates) goal facts new bound end

-- The if-then-elses of a chain were asked, from the innermost to the outermost.
abbrev pub Closes : List Facts → List Bool → List Bool → Bound → ℕ → Bool → Type 0
Closes facts old new bound end ready =
    (total : ℕ → ℕ) (modes : ℕ → List ModeDecl) (goal : Node) → IsReached total modes goal old facts end bound → Told total modes goal new bound ready
