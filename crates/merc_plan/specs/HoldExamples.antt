-- Worked examples of what branches have.
use Rattle.std.specs.Prelude.{◌≡◌, ℕ, pos, true, false, List, [], ◌∷◌, map, Option, Some, None, refl}
use Rattle.std.proofs.Common.{ap}
use Rattle.merc_value.specs.Value.{Value, Int}
use Rattle.merc_base.specs.declared.category.Category.TheVariants.{Det}
use Rattle.merc_graded_tree.specs.declared.basic.BasicGoal.TheVariants.{Test}
use Rattle.merc_graded_tree.specs.Nodes.{Node, node, Basic}
use Rattle.merc_rights.specs.declared.sites.SiteInfo.{SiteInfo}
use Rattle.merc_plan.specs.Branch.{HeldWait, HeldSignal, Hold, NamedCell, Gift}
use Rattle.merc_plan.specs.Hold.{holding, with_env, wait_for, without_wait, sooner, signal_for, without_signal, named, own_waits, own_signals, child_for, moves_from, waits_into, signals_into, waits_kept, signals_kept, conjunct_hold, hold_behind}

abbrev one : Value
one = Int (pos 1)

abbrev wait : ℕ → ℕ → Option Value → HeldWait
wait variable cell value = record { variable = variable; cell = cell; value = value }

abbrev signal : ℕ → ℕ → ℕ → HeldSignal
signal variable conjunct cell = record { variable = variable; conjunct = conjunct; cell = cell }

holding-example : (holding (Some one ∷ []) 4).next ≡ 4
holding-example = refl

with_env-example : (with_env (holding [] 4) (Some one ∷ [])).env ≡ Some one ∷ []
with_env-example = refl

with_env-not : (with_env (holding [] 4) (Some one ∷ [])).env ≡ [] → ⊥
with_env-not kept = cc

-- of several rights to wait for a variable the one that came last is used, and it is used once

abbrev waits : List HeldWait
waits = wait 1 7 (Some one) ∷ wait 2 4 None ∷ wait 1 3 None ∷ []

wait_for-example : wait_for 1 waits ≡ Some (wait 1 7 (Some one))
wait_for-example = refl

wait_for-not : wait_for 3 waits ≡ Some (wait 1 7 (Some one)) → ⊥
wait_for-not any = cc

without_wait-example : without_wait 1 waits ≡ wait 2 4 None ∷ wait 1 3 None ∷ []
without_wait-example = refl

without_wait-not : without_wait 1 waits ≡ wait 2 4 None ∷ [] → ⊥
without_wait-not all = cc

-- of several rights to signal one the one for the least conjunct is used, 0 last, and of these the first

abbrev signals : List HeldSignal
signals = signal 1 0 5 ∷ signal 1 3 6 ∷ signal 2 2 7 ∷ signal 1 3 8 ∷ []

sooner-example : sooner (signal 1 0 5) (Some (signal 1 3 6)) ≡ signal 1 3 6
sooner-example = refl

sooner-equal : sooner (signal 1 3 6) (Some (signal 1 3 8)) ≡ signal 1 3 6
sooner-equal = refl

signal_for-example : signal_for 1 signals ≡ Some (signal 1 3 6)
signal_for-example = refl

signal_for-not : signal_for 3 signals ≡ Some (signal 2 2 7) → ⊥
signal_for-not any = cc

without_signal-example : without_signal 6 signals ≡ signal 1 0 5 ∷ signal 2 2 7 ∷ signal 1 3 8 ∷ []
without_signal-example = refl

without_signal-not : without_signal 6 signals ≡ signals → ⊥
without_signal-not kept = let cells : ◌≡◌ {A = List ℕ} (5 ∷ 7 ∷ 8 ∷ []) (5 ∷ 6 ∷ 7 ∷ 8 ∷ []) = ap (map (λ right. right.cell)) kept in cc

-- A fork of two conjuncts in a branch with these rights, whose cells are named from 20 on: conjunct 1 gives the variable 4 to conjunct 2 and to what is behind.
-- The rights to signal 1 move into conjunct 1, and that to wait for 2 into conjunct 2.

abbrev info : SiteInfo
info = record {
  children = 2;
  cells = record { variable = 4; producer = 1; consumer = 2 } ∷ record { variable = 4; producer = 1; consumer = 0 } ∷ [];
  moves = record { variable = 1; child = 1; signal = true } ∷ record { variable = 2; child = 2; signal = false } ∷ [];
}

abbrev parent : Hold
parent = record { env = Some one ∷ Some one ∷ []; waits = waits; signals = signals; next = 20 }

abbrev cells : List NamedCell
cells = record { cell = 20; variable = 4; producer = 1; consumer = 2 } ∷ record { cell = 21; variable = 4; producer = 1; consumer = 0 } ∷ []

named-example : named 20 info.cells ≡ cells
named-example = refl

named-not : named 20 info.cells ≡ [] → ⊥
named-not none = cc

abbrev given : List Gift
given = record { cell = 20; value = Some one } ∷ []

own_waits-example : own_waits 2 given cells ≡ wait 4 20 (Some one) ∷ []
own_waits-example = refl

own_waits-none_given : own_waits 0 given cells ≡ wait 4 21 None ∷ []
own_waits-none_given = refl

own_waits-not : own_waits 1 given cells ≡ wait 4 20 (Some one) ∷ [] → ⊥
own_waits-not producer = cc

own_signals-example : own_signals 1 cells ≡ signal 4 2 20 ∷ signal 4 0 21 ∷ []
own_signals-example = refl

own_signals-not : own_signals 2 cells ≡ signal 4 2 20 ∷ [] → ⊥
own_signals-not consumer = cc

child_for-example : child_for false 2 info.moves ≡ Some 2
child_for-example = refl

child_for-not : child_for true 2 info.moves ≡ Some 2 → ⊥
child_for-not other_kind = cc

moves_from-example : map (λ one. one.cell) (moves_from info.moves parent) ≡ 5 ∷ 6 ∷ 8 ∷ 4 ∷ []
moves_from-example = refl

moves_from-not : map (λ one. one.cell) (moves_from info.moves parent) ≡ 4 ∷ 5 ∷ 6 ∷ 8 ∷ [] → ⊥
moves_from-not waits_first = cc

signals_into-example : signals_into 1 info.moves signals ≡ signal 1 0 5 ∷ signal 1 3 6 ∷ signal 1 3 8 ∷ []
signals_into-example = refl

signals_into-not : signals_into 2 info.moves signals ≡ signals → ⊥
signals_into-not all = cc

waits_into-example : waits_into 2 info.moves waits ≡ wait 2 4 None ∷ []
waits_into-example = refl

waits_into-not : waits_into 1 info.moves waits ≡ wait 2 4 None ∷ [] → ⊥
waits_into-not first = cc

waits_kept-example : waits_kept info.moves waits ≡ wait 1 7 (Some one) ∷ wait 1 3 None ∷ []
waits_kept-example = refl

signals_kept-example : signals_kept info.moves signals ≡ signal 2 2 7 ∷ []
signals_kept-example = refl

signals_kept-not : signals_kept info.moves signals ≡ [] → ⊥
signals_kept-not all_move = cc

-- a conjunct that uses the variables 1 and 4
abbrev second : Node
second = node (Basic (Test 1 4)) [] (Some Det) (record { first = 0; past = 0; line = 1 })

conjunct_hold-example : conjunct_hold info 2 second parent given
    ≡ record { env = None ∷ Some one ∷ None ∷ None ∷ None ∷ []; waits = wait 4 20 (Some one) ∷ wait 2 4 None ∷ []; signals = []; next = 22 }
conjunct_hold-example = refl

conjunct_hold-not : (conjunct_hold info 2 second parent given).env ≡ parent.env → ⊥
conjunct_hold-not all = cc

hold_behind-example : hold_behind info parent given
    ≡ record { env = parent.env; waits = wait 4 21 None ∷ wait 1 7 (Some one) ∷ wait 1 3 None ∷ []; signals = signal 2 2 7 ∷ []; next = 20 }
hold_behind-example = refl

hold_behind-not : (hold_behind info parent given).waits ≡ waits → ⊥
hold_behind-not none_moved = cc
