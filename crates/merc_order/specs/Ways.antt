-- The ways in which the goals of a conjunction can go.
use Rattle.std.specs.Prelude.{◌≡◌, true, false, List, [], ◌∷◌, ◌++◌}
use Rattle.merc_order.specs.Bound.{Bound, with}
use Rattle.merc_order.specs.Moves.{Move}
use Rattle.merc_order.specs.Ordered.{Ordered, Ordereds, no_goals, more_goals, Ready, is_ready}

-- one taken out of others
pub data Removed : Move → List Move → List Move → Type 0 where
  here : (move : Move) (others : List Move) → Removed move (move ∷ others) others
  later : (first move : Move) (all others : List Move) → Removed move all others → Removed move (first ∷ all) (first ∷ others)

abbrev pub IsReady : Move → Bound → Type 0
IsReady move bound = is_ready (move.from bound) ≡ true

-- All can go, in some order.
pub data CanAll : List Move → Bound → Type 0 where
  none : (bound : Bound) → CanAll [] bound
  take : (move : Move) (all others : List Move) (bound : Bound) → Removed move all others → IsReady move bound → CanAll others (with bound move.binds) → CanAll all bound

-- The order of a conjunction as it is read: each goal is the leftmost of those left that is ready behind those before it.

-- none of these is ready
abbrev pub AllStuck : List Move → Bound → Type 0
AllStuck [] bound = Unit {0}
AllStuck (move ∷ moves) bound = (is_ready (move.from bound) ≡ false) × AllStuck moves bound

pub data IsSequence : List Move → Bound → Ordereds → Type 0 where
  none_left : (bound : Bound) → IsSequence [] bound no_goals
  goes : (before others : List Move) (move : Move) (bound : Bound) (goal : Ordered) (rest : Ordereds) → AllStuck before bound → move.from bound ≡ Ready goal
      → IsSequence (before ++ others) (with bound move.binds) rest → IsSequence (before ++ move ∷ others) bound (more_goals goal rest)

-- Of all goals, from what was bound, these are left, and this is bound now.
pub data Went : List Move → Bound → List Move → Bound → Type 0 where
  start : (all : List Move) (bound : Bound) → Went all bound all bound
  went : (all left rest : List Move) (bound now : Bound) (move : Move) → Went all bound left now → Removed move left rest → IsReady move now → Went all bound rest (with now move.binds)

-- none of these is ready
abbrev pub NoneReady : List Move → Bound → Type 0
NoneReady all bound = (move : Move) (others : List Move) → Removed move all others → IsReady move bound → ⊥
