-- The rights of a branch to wait for values and to signal them, each under a variable, and how a fork hands them out.
use Rattle.std.specs.Prelude.{◌≡◌, ℕ, zero, suc, nat_lt, Bool, true, false, not, ◌==◌, ◌&&◌, List, [], ◌∷◌, ◌++◌, Option, Some, None, if◌then◌else◌}
use Rattle.std.specs.List.{filter}
use Rattle.merc_board.specs.declared.fork.SharedCell.{SharedCell}
use Rattle.merc_board.specs.declared.fork.Handover.{Handover}

-- the right to wait for the value of a cell
pub record Due : Type 0 where
  pub variable : ℕ
  pub cell : ℕ

-- the right to signal a cell, for which this child of the cell's fork waits, or the parent behind the fork, where it is 0
pub record Owed : Type 0 where
  pub variable : ℕ
  pub consumer : ℕ
  pub cell : ℕ

-- what a branch may wait for and signal, in the order in which it has the rights
pub record Rights : Type 0 where
  pub waits : List Due
  pub signals : List Owed

abbrev pub no_rights : Rights
no_rights = record { waits = []; signals = [] }

-- Taking a right out: what is found in a list, and the others

abbrev pub passed_over : {A B : Type 0} → A → Option (B × List A) → Option (B × List A)
passed_over first None = None
passed_over first (Some found) = Some (found.0, first ∷ found.1)

-- Of several rights to wait for one variable the first is used: its cell, and the others.
abbrev pub wait_for : ℕ → List Due → Option (ℕ × List Due)
wait_for variable [] = None
wait_for variable (first ∷ rest) = if first.variable == variable then Some (first.cell, rest) else passed_over first (wait_for variable rest)

-- the children come in order, and the parent behind them, which is 0
abbrev pub is_sooner : ℕ → ℕ → Bool
is_sooner zero other = false
is_sooner (suc child) zero = true
is_sooner (suc child) (suc other) = nat_lt child other

abbrev pub sooner_of : Owed → List Owed → Option (Owed × List Owed) → Owed × List Owed
sooner_of first rest None = (first, rest)
sooner_of first rest (Some found) = if is_sooner found.0.consumer first.consumer then (found.0, first ∷ found.1) else (first, rest)

-- Of several rights to signal one variable the one for the child that comes soonest is used, the parent last, and of these the first; and the others.
abbrev pub signal_for : ℕ → List Owed → Option (Owed × List Owed)
signal_for variable [] = None
signal_for variable (first ∷ rest) = if first.variable == variable then Some (sooner_of first rest (signal_for variable rest)) else passed_over first (signal_for variable rest)

-- of these rights the one to wait for a variable was taken out, which is for this cell
abbrev pub TookWait : ℕ → Rights → Rights → ℕ → Type 0
TookWait variable old new cell = (wait_for variable old.waits ≡ Some (cell, new.waits)) × (new.signals ≡ old.signals)

-- .. and the one to signal it
abbrev pub TookSignal : ℕ → Rights → Rights → ℕ → Type 0
TookSignal variable old new cell = (owed : Owed) × (signal_for variable old.signals ≡ Some (owed, new.signals)) × (owed.cell ≡ cell) × (new.waits ≡ old.waits)

-- Forking

-- the rights to wait for a fork's own cells that a child has, 0 for the parent behind it
abbrev pub own_waits : ℕ → List SharedCell → List ℕ → List Due
own_waits child [] cells = []
own_waits child (one ∷ others) [] = []
own_waits child (one ∷ others) (cell ∷ cells) =
    if one.consumer == child then record { variable = one.variable; cell = cell } ∷ own_waits child others cells else own_waits child others cells

-- the rights to signal own cells that it has
abbrev pub own_signals : ℕ → List SharedCell → List ℕ → List Owed
own_signals child [] cells = []
own_signals child (one ∷ others) [] = []
own_signals child (one ∷ others) (cell ∷ cells) =
    if one.producer == child then record { variable = one.variable; consumer = one.consumer; cell = cell } ∷ own_signals child others cells else own_signals child others cells

-- the child into which the rights of a kind for a variable move
abbrev pub child_for : Bool → ℕ → List Handover → Option ℕ
child_for signal variable [] = None
child_for true variable (first ∷ rest) = if (first.variable == variable) && first.signal then Some first.child else child_for true variable rest
child_for false variable (first ∷ rest) = if (first.variable == variable) && not first.signal then Some first.child else child_for false variable rest

abbrev pub goes_to : ℕ → Option ℕ → Bool
goes_to number None = false
goes_to number (Some child) = child == number

abbrev pub stays : Option ℕ → Bool
stays None = true
stays (Some child) = false

abbrev pub waits_into : ℕ → List Handover → List Due → List Due
waits_into child moves waits = filter (λ right. goes_to child (child_for false right.variable moves)) waits

abbrev pub signals_into : ℕ → List Handover → List Owed → List Owed
signals_into child moves signals = filter (λ right. goes_to child (child_for true right.variable moves)) signals

abbrev pub waits_kept : List Handover → List Due → List Due
waits_kept moves waits = filter (λ right. stays (child_for false right.variable moves)) waits

abbrev pub signals_kept : List Handover → List Owed → List Owed
signals_kept moves signals = filter (λ right. stays (child_for true right.variable moves)) signals

-- A child, numbered from 1, begins with its rights to the fork's own cells, and those of the parent that move in.
abbrev pub child_rights : List SharedCell → List Handover → List ℕ → Rights → ℕ → Rights
child_rights shared moves cells rights child = record {
  waits = own_waits child shared cells ++ waits_into child moves rights.waits;
  signals = own_signals child shared cells ++ signals_into child moves rights.signals;
}

-- Behind the fork the parent has what it kept, and may wait for the own cells that it consumes.
abbrev pub parent_rights : List SharedCell → List Handover → List ℕ → Rights → Rights
parent_rights shared moves cells rights = record {
  waits = own_waits 0 shared cells ++ waits_kept moves rights.waits;
  signals = signals_kept moves rights.signals;
}
