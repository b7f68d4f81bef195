-- Scripts in which every right is used where it is held, and every end is as the Forks before it say.
use Rattle.std.specs.Prelude.{◌≡◌, ◌≢◌, ℕ, suc, ◌+◌, ◌≤◌, ◌<◌, ◌⊎◌, Bool, true, false, List, [], ◌∷◌, ◌++◌, Option, None, if◌then◌else◌, nat_eq}
use Rattle.std.specs.List.{AllByRecursion}
use Rattle.merc_script.specs.declared.outcome.Outcome.{Outcome}
use Rattle.merc_script.specs.declared.outcome.Outcome.TheVariants.{Ok as Fine, Raise, Limit, Starved, NoMemory}
use Rattle.merc_script.specs.declared.cells.Move.{Move}
use Rattle.merc_script.specs.Script.{Script, Ends, TickThen, WaitThen, SignalThen, ForkThen, Children, NoChild, Child, Cell, ends, count}
use Rattle.merc_script.specs.Joining.{joined, later}
use Rattle.merc_value.specs.Value.{Value}
use Rattle.merc_core.specs.Rights.{has, without, numbers_of, moved, signals_at, waits_at, signals_behind, waits_behind}

-- the most workers
abbrev pub most_workers : ℕ
most_workers = 64

-- the most children of a Fork
abbrev pub most_children : ℕ
most_children = 64

-- the greatest limit of a Fork, number of an end, and number of steps at a Fork
abbrev pub most_steps : ℕ
most_steps = 1000000000

abbrev pub AreDistinct : List ℕ → Type 0
AreDistinct [] = Unit {0}
AreDistinct (first ∷ rest) = (has first rest ≡ false) × AreDistinct rest

-- behind a Fork with this outcome comes this rest, after so many steps
abbrev pub Follows : ℕ → Outcome → Script → Type 0
Follows steps (Fine u) rest = Unit {0}
Follows steps (Raise e n) rest = rest ≡ Ends (later steps (Raise e n))
Follows steps Limit rest = rest ≡ Ends Limit
Follows steps Starved rest = rest ≡ Ends Starved
Follows steps NoMemory rest = ⊥

-- the steps that a Fork with this outcome brings its parent
abbrev pub gain : Outcome → ℕ
gain (Fine u) = u
gain (Raise e n) = 0
gain Limit = 0
gain Starved = 0
gain NoMemory = 0

-- an end of a script that still has these cells to signal
abbrev pub EndsWell : Outcome → List ℕ → Type 0
EndsWell (Fine n) left = (left ≡ []) × (n ≤ most_steps)
EndsWell (Raise e n) left = n ≤ most_steps
EndsWell Limit left = Unit {0}
EndsWell Starved left = Unit {0}
EndsWell NoMemory left = ⊥

-- A cell's producer is one of so many children, and its consumer the parent or a child to the right of the producer.
pub record CellFits (children : ℕ) (one : Cell) : Type 0 where
  pub from_one : 1 ≤ one.producer
  pub to_last : one.producer ≤ children
  pub right : (one.consumer ≡ 0) ⊎ (one.producer < one.consumer) × (one.consumer ≤ children)

abbrev pub held_of : Bool → List ℕ → List ℕ → List ℕ
held_of true signals waits = signals
held_of false signals waits = waits

-- A right moves into one of so many children, and is one that the branch held before the Fork.
pub record MoveFits (children : ℕ) (signals waits : List ℕ) (one : Move) : Type 0 where
  pub from_one : 1 ≤ one.child
  pub to_last : one.child ≤ children
  pub held : has one.cell (held_of one.signal signals waits) ≡ true

-- A Fork after so many steps, by a branch that holds these rights.
pub record ForkFits (steps : ℕ) (signals waits : List ℕ) (limit : ℕ) (cells : List Cell) (moves : List Move) (children : ℕ) : Type 0 where
  pub some : 1 ≤ children
  pub few : children ≤ most_children
  pub early : steps ≤ most_steps
  pub limited : limit ≤ most_steps
  pub each_cell : AllByRecursion (CellFits children) cells
  pub each_move : AllByRecursion (MoveFits children signals waits) moves
  pub signals_once : AreDistinct (moved true moves)
  pub waits_once : AreDistinct (moved false moves)

-- What is left of a script is well formed after so many steps, with the rights to signal and to wait for these cells, and the value of each cell. A cell is
-- signalled where it has a value, and a right to signal is left at an end where it has none. Behind a Wait for a cell without a value the script ends as
-- starved, and behind a Fork whose outcome is not Ok it ends with that outcome.
abbrev mutual
  pub Formed : {V : Type 0} → (ℕ → Option V) → ℕ → List ℕ → List ℕ → Script → Type 0
  Formed value steps signals waits (Ends o) = AllByRecursion (λ cell. value cell ≡ None) signals × EndsWell o signals
  Formed value steps signals waits (TickThen rest) = Formed value (suc steps) signals waits rest
  Formed value steps signals waits (WaitThen cell rest) =
      (has cell waits ≡ true) × (value cell ≡ None → rest ≡ Ends Starved) × Formed value steps signals (without (cell ∷ []) waits) rest
  Formed value steps signals waits (SignalThen cell rest) =
      (has cell signals ≡ true) × (value cell ≢ None) × Formed value steps (without (cell ∷ []) signals) waits rest
  Formed value steps signals waits (ForkThen limit cells moves children rest) =
      ForkFits steps signals waits limit cells moves (count children)
      × FormedAll value cells moves 1 children
      × Follows steps (joined limit (ends children)) rest
      × Formed value (steps + gain (joined limit (ends children))) (signals_behind signals moves) (waits_behind waits cells moves) rest

  pub FormedAll : {V : Type 0} → (ℕ → Option V) → List Cell → List Move → ℕ → Children → Type 0
  FormedAll value cells moves child NoChild = Unit {0}
  FormedAll value cells moves child (Child first more) =
      Formed value 0 (signals_at child cells moves) (waits_at child cells moves) first × FormedAll value cells moves (suc child) more

-- the cells of all Forks of a script and of its descendants
abbrev mutual
  pub cells_of : Script → List Cell
  cells_of (Ends o) = []
  cells_of (TickThen rest) = cells_of rest
  cells_of (WaitThen cell rest) = cells_of rest
  cells_of (SignalThen cell rest) = cells_of rest
  cells_of (ForkThen limit cells moves children rest) = cells ++ (cells_in children ++ cells_of rest)

  pub cells_in : Children → List Cell
  cells_in NoChild = []
  cells_in (Child first more) = cells_of first ++ cells_in more

-- the value that a cell is given
abbrev pub value_in : List Cell → ℕ → Option Value
value_in [] cell = None
value_in (first ∷ rest) cell = if nat_eq first.cell cell then first.value else value_in rest cell

-- A root script: its cells are distinct, and it holds no rights.
pub record WellFormed (root : Script) : Type 0 where
  pub distinct : AreDistinct (numbers_of (cells_of root))
  pub formed : Formed (value_in (cells_of root)) 0 [] [] root
