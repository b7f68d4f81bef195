-- What the definitions of what a board holds of branches say.
use Rattle.std.proofs.Common.{◌≡◌, ℕ, false, List, [], ◌∷◌, refl, ap, arith}
use Rattle.std.specs.Prelude.{Some, None, if◌then◌else◌, ◌==◌}
use Rattle.atomic_table.specs.Seated.{TableId}
use Rattle.merc_value.specs.Block.{BlockData}
use Rattle.merc_script.specs.declared.outcome.Outcome.TheVariants.{Ok as Fine, Raise, Starved}
use Rattle.merc_script.specs.Script.{Script, Ends, TickThen, WaitThen, SignalThen, ForkThen, Child, NoChild}
use Rattle.merc_yard.specs.declared.spot.Spot.{Spot}
use Rattle.merc_yard.specs.declared.spot.Fill.TheVariants.{Filled}
use Rattle.merc_yard.specs.declared.spot.Purpose.TheVariants.{Ready, Waits, Forks}
use Rattle.merc_yard.specs.declared.berth.Berth.{Berth}
use Rattle.merc_yard.specs.Slots.{spot, label, no_table}
use Rattle.merc_board.specs.declared.branch.Woken.TheVariants.{No, Value}
use Rattle.merc_held_branches.specs.Spots.{place, parked, parked_for, after, child_spot, Reaches, fork_count}
use Rattle.merc_held_branches.specs.Beds.{cell_name, IsNamed, IsMoored, EndsAs}
use Rattle.merc_held_branches.specs.Lying.{MayWake}
use Rattle.merc_held_branches.specs.declared.branch.HeldWait.{HeldWait}
use Rattle.merc_held_branches.specs.Picking.{lifted, later, wait_place}
use Rattle.merc_held_branches.specs.Kids.{with_wait, with_waits, AreFor}
use Rattle.merc_held_branches.specs.Sharing.{cells_ahead, number_at, own_rights}
use Rattle.merc_board.specs.Rights.{Due, Rights, no_rights}
use Rattle.merc_board.specs.declared.fork.SharedCell.{SharedCell}
use Rattle.merc_board.specs.declared.fork.Handover.{Handover}

-- a root that makes a Tick, signals cell 6, makes a Tick and forks two children, and then waits for cell 7
abbrev root : Script
root = TickThen (SignalThen 6 (TickThen (ForkThen 10 [] [] (Child (Ends (Fine 1)) (Child (Ends (Raise 3 2)) NoChild)) (WaitThen 7 (Ends (Fine 5))))))

abbrev yard : TableId
yard = record { words = 1; slots = 2; views_name = 0; atom = 0; block = 0; offset = 0; slot_names = [] }

abbrev at : ℕ → Spot
at passed = spot yard [] passed Ready

-- from its beginning it parks at the fork, and from behind the fork at the wait
pub parks-there : (parked (place root (at 0)) ≡ 3) × (parked (place root (at 2)) ≡ 3) × (parked (place root (at 4)) ≡ 4)
parks-there = (refl, refl, refl)

pub parks-for : parked_for Forks root (at 1) ≡ spot yard [] 3 Forks
parks-for = refl

-- where it comes out of the berth it stands behind the fork; one that can be taken stands where it stood
pub comes-after : (after (spot yard [] 3 Forks) ≡ at 4) × (after (at 2) ≡ at 2)
comes-after = (refl, refl)

pub child-there : (child_spot (spot yard [] 3 Forks) 2 ≡ spot yard ((3, 2) ∷ []) 0 Ready) × (fork_count (Some root) ≡ 0)
child-there = (refl, refl)

-- it passes Ticks and a signal on the way to the fork, and no fork
pub reaches-fork : Reaches root (at 0) (place root (at 3))
reaches-fork = record { same_root = refl; same_name = refl; same_end = refl }

pub reaches-behind : Reaches root (at 0) (place root (at 4)) → ⊥
reaches-behind reaches = absurd (let same : ◌≡◌ {A = ℕ} 4 3 = reaches.same_end in omega (arith, same))

-- cell 7 of this yard, and of another
pub named-here : IsNamed yard (cell_name yard 7)
named-here = refl

pub named-elsewhere : IsNamed yard (cell_name no_table 7) → ⊥
named-elsewhere named = absurd (let words : ◌≡◌ {A = List ℕ} (cell_name no_table 7) (cell_name yard 7) = named in let first : ◌≡◌ {A = ℕ} 0 1 = cc (words) in omega (arith, first))

-- a berth in which a branch lies that can be taken, and not one that waits
abbrev berth : Berth
berth = record { slot = 1; badge = record { marker = record {}; table_id = yard; id = 1; views = label 1 Filled (at 2) ∷ [] } }

pub moored-ready : IsMoored yard Filled Ready berth
moored-ready = ((refl, omega arith, refl), refl, refl)

pub moored-waiting : IsMoored yard Filled Waits berth → ⊥
moored-waiting moored = absurd (let same : Ready ≡ Waits = moored.2 in cc (same))

-- the second child raises, and may starve, and does not come to its end
pub ends-raised : EndsAs root ((3, 2) ∷ []) (Raise 3 2) × EndsAs root ((3, 2) ∷ []) Starved
ends-raised = ((Ends (Raise 3 2), refl, refl), tt)

pub ends-fine : EndsAs root ((3, 2) ∷ []) (Fine 2) → ⊥
ends-fine end = absurd (let at = end.1 in let is = end.2 in let child : end.0 ≡ Ends (Raise 3 2) = cc (at) in cc (child, is))

-- at the wait a branch is woken with the value of its cell, and not with nothing
abbrev no_block : BlockData
no_block = record { cells = []; roots = [] }

pub wakes-given : MayWake root (λ cell value. cell ≡ 7) (at 4) (Value no_block)
wakes-given cell rest left = cc (left)

pub wakes-without : MayWake root (λ cell value. cell ≡ 7) (at 4) No → ⊥
wakes-without woken = woken

-- a place behind two others, and behind one more
pub lifted-places : (lifted 2 (Some 3) ≡ Some 5) × (later (Some 3) ≡ Some 4) × (later (lifted 2 None) ≡ None)
lifted-places = (refl, refl, refl)

-- of two rights to wait the one for variable 6 is the second, and none is for variable 7
pub wait-second : {L : Type 0} (first second : HeldWait L) → first.variable ≡ 5 → second.variable ≡ 6 → wait_place 0 6 (first ∷ second ∷ []) ≡ Some 1
wait-second first second a b = ap (λ (x : ℕ × ℕ). if x.0 == 6 then Some 0 else (if x.1 == 6 then Some 1 else None)) (λ i. (a i, b i))

pub wait-none : {L : Type 0} (first : HeldWait L) → first.variable ≡ 5 → wait_place 0 7 (first ∷ []) ≡ None
wait-none first a = ap (λ (x : ℕ). if x == 7 then Some 0 else None) a

-- child 2 is given a right, and child 1 is not
pub given-second : (with_wait 2 (record { variable = 5; cell = 7 }) (λ number. no_rights) 2 ≡ record { waits = record { variable = 5; cell = 7 } ∷ []; signals = [] }) × (with_wait 2 (record { variable = 5; cell = 7 }) (λ number. no_rights) 1 ≡ no_rights)
given-second = (refl, refl)

-- the fork of the root has no cells, and a list's place that is not there has number 0
pub cells-none : (cells_ahead root (at 0) ≡ []) × (number_at (4 ∷ 6 ∷ []) 1 ≡ 6) × (number_at (4 ∷ 6 ∷ []) 2 ≡ 0)
cells-none = (refl, refl, refl)

-- .. and one that shares cell 7, which child 1 signals and child 2 waits for, and cell 9 of child 2 for the parent
abbrev sharing : Script
sharing = TickThen (ForkThen 10 (record { cell = 7; producer = 1; consumer = 2; value = None } ∷ record { cell = 9; producer = 2; consumer = 0; value = None } ∷ []) [] (Child (Ends (Fine 1)) (Child (Ends (Fine 1)) NoChild)) (Ends (Fine 5)))

abbrev shared : List SharedCell
shared = record { variable = 5; producer = 1; consumer = 2 } ∷ record { variable = 6; producer = 2; consumer = 0 } ∷ []

pub cells-shared : cells_ahead sharing (at 0) ≡ 7 ∷ 9 ∷ []
cells-shared = refl

pub first-child : own_rights shared (7 ∷ 9 ∷ []) 1 ≡ record { waits = []; signals = record { variable = 5; consumer = 2; cell = 7 } ∷ [] }
first-child = refl

pub second-child : own_rights shared (7 ∷ 9 ∷ []) 2 ≡ record { waits = record { variable = 5; cell = 7 } ∷ []; signals = record { variable = 6; consumer = 0; cell = 9 } ∷ [] }
second-child = refl

pub parent-behind : own_rights shared (7 ∷ 9 ∷ []) 0 ≡ record { waits = record { variable = 6; cell = 9 } ∷ []; signals = [] }
parent-behind = refl

-- of the parent's rights to wait the one for variable 8 moves into child 2, and the one for variable 9 does not
abbrev moving : List Handover
moving = record { variable = 8; child = 2; signal = false } ∷ []

abbrev parents : List Due
parents = record { variable = 9; cell = 1 } ∷ record { variable = 8; cell = 3 } ∷ []

pub moved-second : (with_waits moving parents (λ number. no_rights) 2 ≡ record { waits = record { variable = 8; cell = 3 } ∷ []; signals = [] }) × (with_waits moving parents (λ number. no_rights) 1 ≡ no_rights)
moved-second = (refl, refl)

-- no branches for no loads, and not for one load
pub for-none : {L : Type 0} (has : ℕ → Rights) → AreFor {L = L} yard 0 [] has []
for-none has = record { count = refl; each = λ i kid there. absurd (cc (there)) }

pub for-one : {L : Type 0} (load : L) (has : ℕ → Rights) → AreFor {L = L} yard 0 (load ∷ []) has [] → ⊥
for-one load has are = absurd (let count = are.count in omega (arith, count))
