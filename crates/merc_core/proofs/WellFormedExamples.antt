-- Rights at a Fork, and scripts that are well formed and that are not, one for each condition.
use Rattle.std.proofs.Common.{◌≡◌, ℕ, zero, suc, Bool, true, false, List, [], ◌∷◌, Some, None, refl, pos, arith}
use Rattle.std.specs.Prelude.{Option}
use Rattle.merc_value.specs.Value.{Value, Int}
use Rattle.merc_script.specs.declared.outcome.Outcome.TheVariants.{Ok as Fine, Raise, Limit, Starved}
use Rattle.merc_script.specs.declared.cells.Move.{Move}
use Rattle.merc_script.specs.Script.{Script, Ends, TickThen, WaitThen, SignalThen, ForkThen, Children, NoChild, Child, Cell, count}
use Rattle.merc_core.specs.Rights.{signals_at, waits_at, signals_behind, waits_behind}
use Rattle.merc_core.specs.WellFormed.{WellFormed, ForkFits, FormedAll, cells_of, value_in}

-- a cell by its number, producer, consumer and value, and a right by its cell, child and kind
abbrev cell : ℕ → ℕ → ℕ → Option Value → Cell
cell number producer consumer value = record { cell = number; producer = producer; consumer = consumer; value = value }

abbrev moves_to : ℕ → ℕ → Bool → Move
moves_to number child signal = record { cell = number; child = child; signal = signal }

abbrev seven : Option Value
seven = Some (Int (pos 7))

-- Child 1 makes cells 5 and 6 and gets the right to signal 9, child 2 consumes 5 and gets the right to wait for 8, the parent consumes 6.
abbrev cells : List Cell
cells = cell 5 1 2 seven ∷ cell 6 1 0 seven ∷ []

abbrev moves : List Move
moves = moves_to 9 1 true ∷ moves_to 8 2 false ∷ []

first-signals : signals_at 1 cells moves ≡ 5 ∷ 6 ∷ 9 ∷ []
first-signals = refl

second-waits : waits_at 2 cells moves ≡ 5 ∷ 8 ∷ []
second-waits = refl

second-signals : signals_at 2 cells moves ≡ []
second-signals = refl

parent-signals : signals_behind (9 ∷ 3 ∷ []) moves ≡ 3 ∷ []
parent-signals = refl

parent-waits : waits_behind (8 ∷ 4 ∷ []) cells moves ≡ 6 ∷ 4 ∷ []
parent-waits = refl

-- a Fork with a limit of nine
abbrev fork : List Cell → List Move → Children → Script → Script
fork cells' moves' children rest = ForkThen 9 cells' moves' children rest

abbrev one : Script → Children
one first = Child first NoChild

abbrev two : Script → Script → Children
two first second = Child first (one second)

-- A right moves down: the root's Fork gives child 2 the right to wait for cell 5, which moves it into its own child; and child 1 moves the right to signal it.
abbrev moved : Script
moved = fork (cell 5 1 2 seven ∷ []) [] (two
    (fork [] (moves_to 5 1 true ∷ []) (one (SignalThen 5 (Ends (Fine 0)))) (Ends (Fine 0)))
    (fork [] (moves_to 5 1 false ∷ []) (one (WaitThen 5 (Ends (Fine 0)))) (Ends (Fine 0)))) (Ends (Fine 0))

moved-well : WellFormed moved
moved-well = record { distinct = Prim.search arith; formed = Prim.search arith }

-- The parent waits for what its child made.
abbrev consumed : Script
consumed = fork (cell 5 1 0 seven ∷ []) [] (one (SignalThen 5 (Ends (Fine 0)))) (WaitThen 5 (Ends (Fine 0)))

consumed-well : WellFormed consumed
consumed-well = record { distinct = Prim.search arith; formed = Prim.search arith }

-- A child that is starved, and the raise of the one to its left.
abbrev starving : Script
starving = fork (cell 5 1 2 None ∷ []) [] (two (Ends (Raise 40 0)) (WaitThen 5 (Ends Starved))) (Ends (Raise 40 0))

starving-well : WellFormed starving
starving-well = record { distinct = Prim.search arith; formed = Prim.search arith }

-- a Wait or a Signal without the right
not-wait : WellFormed (WaitThen 5 (Ends Starved)) → ⊥
not-wait well = absurd (let held = well.formed.0 in cc)

not-signal : WellFormed (SignalThen 5 (Ends (Fine 0))) → ⊥
not-signal well = absurd (let held = well.formed.0 in cc)

-- signalled twice
not-twice : WellFormed (fork (cell 5 1 0 seven ∷ []) [] (one (SignalThen 5 (SignalThen 5 (Ends (Fine 0))))) (Ends (Fine 0))) → ⊥
not-twice well = absurd (let held = well.formed.1.0.2.0 in cc)

-- signalled without a value, and a value that no script signals
not-valued : WellFormed (fork (cell 5 1 0 None ∷ []) [] (one (SignalThen 5 (Ends (Fine 0)))) (Ends (Fine 0))) → ⊥
not-valued well = well.formed.1.0.1 refl

not-given : WellFormed (fork (cell 5 1 0 seven ∷ []) [] (one (Ends Limit)) (Ends Limit)) → ⊥
not-given well = absurd (let left = well.formed.1.0.0.0 in cc)

-- an end Ok with a cell that is not signalled
not-left : WellFormed (fork (cell 5 1 0 None ∷ []) [] (one (Ends (Fine 0))) (Ends (Fine 0))) → ⊥
not-left well = absurd (let left = well.formed.1.0.1.0 in cc)

-- a Wait for what is not signalled, with more behind it
not-last : WellFormed (fork (cell 5 1 2 None ∷ []) [] (two (Ends (Raise 40 0)) (WaitThen 5 (TickThen (Ends Starved)))) (Ends (Raise 40 0))) → ⊥
not-last well = absurd (let last = well.formed.1.1.0.1 refl in cc)

-- a Fork that raises, and an end that lacks the step before it
not-behind : WellFormed (TickThen (fork [] [] (one (Ends (Raise 40 1))) (Ends (Raise 40 1)))) → ⊥
not-behind well = absurd (let end = well.formed.2 in cc)

-- a Fork past its limit that goes on
not-limited : WellFormed (fork [] [] (one (Ends (Fine 10))) (Ends (Fine 10))) → ⊥
not-limited well = absurd (let end = well.formed.2 in cc)

-- no child
not-some : WellFormed (fork [] [] NoChild (Ends (Fine 0))) → ⊥
not-some well = absurd (let some = well.formed.0.some in omega arith)

-- a producer that is no child, and a consumer that is not to its right
not-producer : WellFormed (fork (cell 5 2 0 None ∷ []) [] (one (Ends (Fine 0))) (Ends (Fine 0))) → ⊥
not-producer well = absurd (let last = well.formed.0.each_cell.0.to_last in omega arith)

not-right : WellFormed (fork (cell 5 1 1 seven ∷ []) [] (one (SignalThen 5 (WaitThen 5 (Ends (Fine 0))))) (Ends (Fine 0))) → ⊥
not-right well = absurd (let right = well.formed.0.each_cell.0.right in grind (arith, right))

-- a right that is not held, that moves into no child, or twice
not-held : WellFormed (fork [] (moves_to 5 1 true ∷ []) (one (Ends Limit)) (Ends Limit)) → ⊥
not-held well = absurd (let held = well.formed.0.each_move.0.held in cc)

-- of a cell of the Fork itself
not-own : WellFormed (fork (cell 5 1 0 seven ∷ []) (moves_to 5 1 false ∷ []) (one (SignalThen 5 (WaitThen 5 (Ends (Fine 0))))) (Ends (Fine 0))) → ⊥
not-own well = absurd (let held = well.formed.0.each_move.0.held in cc)

abbrev giving : List Move → Children → Script
giving moves' children = fork (cell 5 1 0 None ∷ []) [] (one (fork [] moves' children (Ends Limit))) (Ends Limit)

not-into : WellFormed (giving (moves_to 5 2 true ∷ []) (one (Ends Limit))) → ⊥
not-into well = absurd (let last = well.formed.1.0.0.each_move.0.to_last in omega arith)

not-once : WellFormed (giving (moves_to 5 1 true ∷ moves_to 5 2 true ∷ []) (two (Ends Limit) (Ends Limit))) → ⊥
not-once well = absurd (let once = well.formed.1.0.0.signals_once.0 in cc)

-- one cell in two Forks
not-distinct : WellFormed (fork (cell 5 1 0 None ∷ cell 5 1 0 None ∷ []) [] (one (Ends Limit)) (Ends Limit)) → ⊥
not-distinct well = absurd (let apart = well.distinct.0 in cc)

-- a limit, an end's number, or the steps at a Fork past the most
not-small : WellFormed (ForkThen 1000000001 [] [] (one (Ends (Fine 0))) (Ends (Fine 0))) → ⊥
not-small well = absurd (let limited = well.formed.0.limited in omega arith)

not-few-steps : WellFormed (Ends (Fine 1000000001)) → ⊥
not-few-steps well = absurd (let few = well.formed.1.1 in omega arith)

-- two Forks with the most steps are well formed, but a third would begin after too many
abbrev longest : Script → Script
longest rest = ForkThen 1000000000 [] [] (one (Ends (Fine 1000000000))) rest

long-well : WellFormed (longest (longest (Ends (Fine 1000000000))))
long-well = record { distinct = Prim.search arith; formed = Prim.search arith }

not-early : WellFormed (longest (longest (longest (Ends (Fine 1000000000))))) → ⊥
not-early well = absurd (let early = well.formed.3.3.0.early in omega arith)

-- 65 children
abbrev many : ℕ → Children
many zero = NoChild
many (suc n) = Child (Ends (Fine 0)) (many n)

not-many : WellFormed (fork [] [] (many 65) (Ends (Fine 0))) → ⊥
not-many well = absurd (let few = well.formed.0.few in omega arith)

-- 64 children are few enough
many-formed : (value : ℕ → Option Value) (child number : ℕ) → FormedAll value [] [] child (many number)
many-formed value child zero = tt
many-formed value child (suc number) = ((tt, (refl, omega arith)), many-formed value (suc child) number)

most-fit : ForkFits 0 [] [] 9 [] [] (count (many 64))
most-fit = record { some = omega arith; few = omega arith; early = omega arith; limited = omega arith; each_cell = tt; each_move = tt; signals_once = tt; waits_once = tt }

most-well : WellFormed (fork [] [] (many 64) (Ends (Fine 0)))
most-well = record { distinct = tt; formed = (most-fit, many-formed (value_in (cells_of (fork [] [] (many 64) (Ends (Fine 0))))) 1 64, tt, (tt, (refl, omega arith))) }
