-- How far the parts of a goal have come, where the goal itself cannot be ordered yet.
use Rattle.std.specs.Prelude.{◌≡◌, ℕ, Bool, true, false, List, [], ◌∷◌}
use Rattle.merc_tree.specs.declared.declarations.ModeDecl.{ModeDecl}
use Rattle.merc_goal_tree.specs.Nodes.{Node, Nodes, Simple, Conjunction, Parallel, Disjunction, Conditional, Negation, Quantified, no_nodes, more_nodes, span_of}
use Rattle.merc_order.specs.Bound.{Bound, with}
use Rattle.merc_order.specs.Moves.{Move}
use Rattle.merc_order.specs.Order.{binds, from, moves}
use Rattle.merc_order.specs.Ordered.{is_ready}
use Rattle.merc_order.specs.Ways.{Went}

-- for each part whether it went, and the marks of its own parts
pub data Marked : Type 0 where
  no_marks : Marked
  more_marks : (went : Bool) (inner rest : Marked) → Marked

-- a part that went can be ordered, of another its own parts are as far as they are marked
abbrev pub part : Bool → Type 0 → Type 0 → Type 0
part true ready sound = ready
part false ready sound = sound

-- of one that did not go
abbrev pub unless : Bool → Type 0 → Type 0
unless true sound = Unit {0}
unless false sound = sound

abbrev pub kept : Bool → Move → List Move → List Move
kept true move moves = moves
kept false move moves = move ∷ moves

abbrev pub move_of : (ℕ → ℕ) → (ℕ → List ModeDecl) → Node → Move
move_of total modes node = record { binds = binds total modes node; span = span_of node; from = λ bound. from total modes node bound }

-- Given are how often each variable occurs in the whole, and the modes of each predicate.
module _ (total : ℕ → ℕ) (modes : ℕ → List ModeDecl) where
  -- the goals of a conjunction that did not go
  abbrev pub left : Nodes → Marked → List Move
  left no_nodes marked = []
  left (more_nodes first rest) no_marks = moves total modes (more_nodes first rest)
  left (more_nodes first rest) (more_marks went inner others) = kept went (move_of total modes first) (left rest others)

  abbrev mutual
    pub IsSound : Node → Marked → Bound → Type 0
    IsSound (Simple goal span) marked bound = Unit {0}
    IsSound (Conjunction goals span) marked bound = (now : Bound) × Went (moves total modes goals) bound (left goals marked) now × SoundLeft goals marked now
    IsSound (Parallel goals span) marked bound = SoundBeside goals marked bound
    IsSound (Disjunction goals span) marked bound = SoundEach goals marked bound
    IsSound (Conditional condition then_part else_part span) (more_marks c ci (more_marks t ti (more_marks e ei no_marks))) bound =
        part c (is_ready (from total modes condition bound) ≡ true) (IsSound condition ci bound)
        × part t (is_ready (from total modes then_part (with bound (binds total modes condition))) ≡ true) (IsSound then_part ti (with bound (binds total modes condition)))
        × part e (is_ready (from total modes else_part bound) ≡ true) (IsSound else_part ei bound)
    IsSound (Conditional condition then_part else_part span) marked bound = ⊥
    IsSound (Negation goal span) (more_marks g gi no_marks) bound = part g (is_ready (from total modes goal bound) ≡ true) (IsSound goal gi bound)
    IsSound (Negation goal span) marked bound = ⊥
    IsSound (Quantified own goal span) (more_marks g gi no_marks) bound = part g (is_ready (from total modes goal bound) ≡ true) (IsSound goal gi bound)
    IsSound (Quantified own goal span) marked bound = ⊥

    pub SoundLeft : Nodes → Marked → Bound → Type 0
    SoundLeft no_nodes marked bound = Unit {0}
    SoundLeft (more_nodes first rest) no_marks bound = ⊥
    SoundLeft (more_nodes first rest) (more_marks went inner others) bound = unless went (IsSound first inner bound) × SoundLeft rest others bound

    pub SoundEach : Nodes → Marked → Bound → Type 0
    SoundEach no_nodes marked bound = Unit {0}
    SoundEach (more_nodes first rest) no_marks bound = ⊥
    SoundEach (more_nodes first rest) (more_marks went inner others) bound =
        part went (is_ready (from total modes first bound) ≡ true) (IsSound first inner bound) × SoundEach rest others bound

    pub SoundBeside : Nodes → Marked → Bound → Type 0
    SoundBeside no_nodes marked bound = Unit {0}
    SoundBeside (more_nodes first rest) no_marks bound = ⊥
    SoundBeside (more_nodes first rest) (more_marks went inner others) bound =
        part went (is_ready (from total modes first bound) ≡ true) (IsSound first inner bound) × SoundBeside rest others (with bound (binds total modes first))
