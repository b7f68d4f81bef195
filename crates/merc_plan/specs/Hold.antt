-- What branches have: the rights with which a conjunct begins, and those that a branch has behind a wait, a signal and a fork.
use Rattle.std.specs.Prelude.{ℕ, suc, ◌+◌, ◌==◌, ◌&&◌, Bool, true, false, not, List, [], ◌∷◌, ◌++◌, length, map, Option, Some, None, if◌then◌else◌}
use Rattle.std.specs.List.{filter, flat_map}
use Rattle.merc_graded_tree.specs.Nodes.{Node, Nodes}
use Rattle.merc_meaning.specs.Trace.{Env}
use Rattle.merc_script.specs.declared.cells.Move.{Move}
use Rattle.merc_course.specs.Variables.{node_variables, only}
use Rattle.merc_rights.specs.declared.sites.CellInfo.{CellInfo}
use Rattle.merc_rights.specs.declared.sites.Moved.{Moved}
use Rattle.merc_rights.specs.declared.sites.SiteInfo.{SiteInfo}
use Rattle.merc_rights.specs.Rights.{is_sooner}
use Rattle.merc_plan.specs.Branch.{HeldWait, HeldSignal, Hold, NamedCell, Fork, Gift, gift_at, value_given}

-- a branch that holds no rights
abbrev pub holding : Env → ℕ → Hold
holding env next = record { env = env; waits = []; signals = []; next = next }

-- the same rights, and other values
abbrev pub with_env : Hold → Env → Hold
with_env hold env = record { env = env; waits = hold.waits; signals = hold.signals; next = hold.next }

-- Waiting and signalling.

-- Of several rights to wait for one variable the one that came last is used.
abbrev pub wait_for : ℕ → List HeldWait → Option HeldWait
wait_for variable [] = None
wait_for variable (first ∷ rest) = if first.variable == variable then Some first else wait_for variable rest

abbrev pub without_wait : ℕ → List HeldWait → List HeldWait
without_wait variable [] = []
without_wait variable (first ∷ rest) = if first.variable == variable then rest else first ∷ without_wait variable rest

-- Of several rights to signal one variable the one for the conjunct that comes soonest is used, the goals behind the `&` last, and of these the first.
abbrev pub sooner : HeldSignal → Option HeldSignal → HeldSignal
sooner one None = one
sooner one (Some other) = if is_sooner other.conjunct one.conjunct then other else one

abbrev pub signal_for : ℕ → List HeldSignal → Option HeldSignal
signal_for variable [] = None
signal_for variable (first ∷ rest) = if first.variable == variable then Some (sooner first (signal_for variable rest)) else signal_for variable rest

abbrev pub without_signal : ℕ → List HeldSignal → List HeldSignal
without_signal cell rights = filter (λ right. not (right.cell == cell)) rights

-- Forking.

-- the cells of a site, by names from a number on
abbrev pub named : ℕ → List CellInfo → List NamedCell
named next [] = []
named next (first ∷ rest) =
    record { cell = next; variable = first.variable; producer = first.producer; consumer = first.consumer } ∷ named (suc next) rest

-- the rights to wait for a fork's own cells that a conjunct has, 0 for the goals behind it, where this was given
abbrev pub own_waits : ℕ → List Gift → List NamedCell → List HeldWait
own_waits number given cells =
    map (λ one. record { variable = one.variable; cell = one.cell; value = value_given (gift_at one.cell given) }) (filter (λ one. one.consumer == number) cells)

-- the rights to signal own cells that it has
abbrev pub own_signals : ℕ → List NamedCell → List HeldSignal
own_signals number cells =
    map (λ one. record { variable = one.variable; conjunct = one.consumer; cell = one.cell }) (filter (λ one. one.producer == number) cells)

-- the conjunct into which the rights of a kind for a variable move
abbrev pub child_for : Bool → ℕ → List Moved → Option ℕ
child_for signal variable [] = None
child_for true variable (first ∷ rest) = if (first.variable == variable) && first.signal then Some first.child else child_for true variable rest
child_for false variable (first ∷ rest) = if (first.variable == variable) && not first.signal then Some first.child else child_for false variable rest

abbrev pub moves_if : Bool → ℕ → Option ℕ → List Move
moves_if signal cell None = []
moves_if signal cell (Some child) = record { cell = cell; child = child; signal = signal } ∷ []

-- The moves of a fork, in the order in which the branch holds the rights, those to signal first.
abbrev pub moves_from : List Moved → Hold → List Move
moves_from moves hold =
    flat_map (λ right. moves_if true right.cell (child_for true right.variable moves)) hold.signals
    ++ flat_map (λ right. moves_if false right.cell (child_for false right.variable moves)) hold.waits

abbrev pub goes_to : ℕ → Option ℕ → Bool
goes_to number None = false
goes_to number (Some child) = child == number

-- the rights that move into a conjunct
abbrev pub waits_into : ℕ → List Moved → List HeldWait → List HeldWait
waits_into number moves waits = filter (λ right. goes_to number (child_for false right.variable moves)) waits

abbrev pub signals_into : ℕ → List Moved → List HeldSignal → List HeldSignal
signals_into number moves signals = filter (λ right. goes_to number (child_for true right.variable moves)) signals

abbrev pub stays : Option ℕ → Bool
stays None = true
stays (Some child) = false

abbrev pub waits_kept : List Moved → List HeldWait → List HeldWait
waits_kept moves waits = filter (λ right. stays (child_for false right.variable moves)) waits

abbrev pub signals_kept : List Moved → List HeldSignal → List HeldSignal
signals_kept moves signals = filter (λ right. stays (child_for true right.variable moves)) signals

abbrev pub fork_of : SiteInfo → Nodes → Hold → Fork
fork_of info goals hold = record { cells = named hold.next info.cells; moves = moves_from info.moves hold; goals = goals; before = hold }

-- A conjunct begins with the values of the variables that occur in it, and with its rights: to own cells, and those that move in.
abbrev pub conjunct_hold : SiteInfo → ℕ → Node → Hold → List Gift → Hold
conjunct_hold info number goal hold given = record {
  env = only (node_variables goal) hold.env;
  waits = own_waits number given (named hold.next info.cells) ++ waits_into number info.moves hold.waits;
  signals = own_signals number (named hold.next info.cells) ++ signals_into number info.moves hold.signals;
  next = hold.next + length info.cells;
}

-- Behind the fork the branch has the rights that it kept, and those to wait for what conjuncts bind. It uses these at once, so that the names of the fork's
-- cells can be taken again.
abbrev pub hold_behind : SiteInfo → Hold → List Gift → Hold
hold_behind info hold given = record {
  env = hold.env;
  waits = own_waits 0 given (named hold.next info.cells) ++ waits_kept info.moves hold.waits;
  signals = signals_kept info.moves hold.signals;
  next = hold.next;
}
