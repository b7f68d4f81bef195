-- The start of a run of a root that forks into two children, of which the first signals cell 5 and the second waits for it.
use Rattle.std.proofs.Common.{◌≡◌, ℕ, true, false, List, [], ◌∷◌, Some, None, refl, ap, arith}
use Rattle.merc_script.specs.declared.outcome.Outcome.TheVariants.{Ok as Fine}
use Rattle.merc_script.specs.declared.items.Item.{Item}
use Rattle.merc_script.specs.declared.items.Item.TheVariants.{Tick, Wait, Signal, End}
use Rattle.merc_script.specs.Script.{Script, Ends, TickThen, WaitThen, SignalThen, ForkThen, NoChild, Child}
use Rattle.merc_script.specs.Items.{items_of}
use Rattle.merc_core.specs.declared.cell.Cell.{Cell}
use Rattle.merc_core.specs.Mirror.{branches_made, rights_made, joins_made}
use Rattle.merc_core.specs.Starting.{past_item, made_among, root_branch, worker_with, first_workers, open_cell, IsOpen, AreOpen, IsPast}
use Rattle.merc_core.proofs.StartPlaces.{past-nowhere, past-everywhere, past-more}

abbrev root : Script
root =
    ForkThen 9 ((record { cell = 5; producer = 1; consumer = 2; value = None }) ∷ []) []
    (Child (SignalThen 5 (Ends (Fine 0))) (Child (WaitThen 5 (Ends (Fine 0))) NoChild)) (Ends (Fine 0))

abbrev items : List Item
items = items_of root

-- the whole script goes to the end, the second child from the fourth place to the sixth
abbrev past : List ℕ
past = 6 ∷ 3 ∷ 3 ∷ 5 ∷ 5 ∷ 6 ∷ []

-- what a table says of a place, from what it says of the places behind
past_signal : past_item past (Signal 5) 2 ≡ 3
past_signal = refl

past_wait : past_item past (Wait 5) 4 ≡ 5
past_wait = refl

-- a script of one step
one_step : IsPast (items_of (TickThen (Ends (Fine 3)))) (2 ∷ 2 ∷ [])
one_step =
    let short = items_of (TickThen (Ends (Fine 3))) in
    past-everywhere short (2 ∷ 2 ∷ []) 0 (omega arith)
    (past-more short (0 ∷ 2 ∷ []) 0 1 Tick refl (omega arith) refl refl (past-more short (0 ∷ 0 ∷ []) 1 2 (End (Fine 3)) refl (omega arith) refl refl (past-nowhere short (0 ∷ 0 ∷ []) 2 (omega arith))))

-- where the first child were past only at the second's end, the table would be wrong
not_past : IsPast items (6 ∷ 5 ∷ 3 ∷ 5 ∷ 5 ∷ 6 ∷ []) → ⊥
not_past is = absurd (cc (is 1 (SignalThen 5 (Ends (Fine 0))) (_, refl)))

-- two branches, one right, and one join
two_branches : made_among branches_made items ≡ 2
two_branches = refl

one_right : made_among rights_made items ≡ 1
one_right = refl

one_join : made_among joins_made items ≡ 1
one_join = refl

-- the first of three workers runs
three : first_workers 3 ≡ worker_with (root_branch ∷ []) ∷ worker_with [] ∷ worker_with [] ∷ []
three = refl

-- without a cell for the Wait there are not enough
no_cells : AreOpen items (λ cell. None) → ⊥
no_cells opened = absurd (cc (opened.waits 3 5 refl))

-- an open cell, and one that is full
one_open : IsOpen (Some open_cell)
one_open = refl

full : IsOpen (Some (record { is_full = true; is_poisoned = false; waiting = [] })) → ⊥
full opened = let e : true ≡ false = ap (λ (c : Cell). c.is_full) opened in absurd (cc (e))
