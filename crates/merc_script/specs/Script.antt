-- Scripts: items in order, and an end. What is left of a script behind an item is a script again.
use Rattle.std.specs.Prelude.{ℕ, suc, ◌+◌, Bool, List, [], ◌∷◌, Option}
use Rattle.merc_value.specs.Value.{Value}
use Rattle.merc_script.specs.declared.outcome.Outcome.{Outcome}

-- A cell of a fork: the child that may signal it, and the child that may wait for it, 0 for the parent behind the fork.
-- Its value is there exactly where a script signals it.
pub record Cell : Type 0 where
  pub cell : ℕ
  pub producer : ℕ
  pub consumer : ℕ
  pub value : Option Value

-- a right that a fork moves from the parent into a child: to signal the cell, or else to wait for it
pub record Move : Type 0 where
  pub cell : ℕ
  pub child : ℕ
  pub signal : Bool

-- a script ends, or has an item and then goes on
mutual
  pub data Script : Type 0 where
    Ends : (end : Outcome) → Script
    TickThen : (rest : Script) → Script
    WaitThen : (cell : ℕ) (rest : Script) → Script
    SignalThen : (cell : ℕ) (rest : Script) → Script
    ForkThen : (limit : ℕ) (cells : List Cell) (moves : List Move) (children : Children) (rest : Script) → Script

  -- the scripts of a fork's children, from the first on
  pub data Children : Type 0 where
    NoChild : Children
    Child : (first : Script) (others : Children) → Children

-- the outcome at a script's end
abbrev pub end_of : Script → Outcome
end_of (Ends end) = end
end_of (TickThen rest) = end_of rest
end_of (WaitThen cell rest) = end_of rest
end_of (SignalThen cell rest) = end_of rest
end_of (ForkThen limit cells moves children rest) = end_of rest

-- the outcomes at the children's ends
abbrev pub ends : Children → List Outcome
ends NoChild = []
ends (Child first others) = end_of first ∷ ends others

-- the number of children
abbrev pub count : Children → ℕ
count NoChild = 0
count (Child first others) = suc (count others)

-- all items of a script and of its descendants, and one for each of their ends
abbrev mutual
  pub size : Script → ℕ
  size (Ends end) = 1
  size (TickThen rest) = suc (size rest)
  size (WaitThen cell rest) = suc (size rest)
  size (SignalThen cell rest) = suc (size rest)
  size (ForkThen limit cells moves children rest) = suc (sizes children + size rest)

  pub sizes : Children → ℕ
  sizes NoChild = 0
  sizes (Child first others) = size first + sizes others
