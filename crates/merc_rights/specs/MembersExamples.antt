-- Worked examples of the goals that rights go to.
use Rattle.std.specs.Prelude.{◌≡◌, ℕ, true, false, List, [], ◌∷◌, ◌++◌, Some, None, refl}
use Rattle.std.proofs.Common.{◌∙◌, ap, sym, subst}
use Rattle.merc_base.specs.declared.category.Category.TheVariants.{Det}
use Rattle.merc_base.specs.declared.place.Span.{Span}
use Rattle.merc_graded_tree.specs.declared.basic.BasicGoal.TheVariants.{Test, Assign}
use Rattle.merc_graded_tree.specs.Labels.{labels_of, all_labels}
use Rattle.merc_graded_tree.specs.Nodes.{Node, node, Basic}
use Rattle.merc_rights.specs.declared.conjuncts.Found.{Found}
use Rattle.merc_rights.specs.declared.members.Members.{Members}
use Rattle.merc_rights.specs.declared.rights.Awaited.{Awaited}
use Rattle.merc_rights.specs.declared.sites.CellInfo.{CellInfo}
use Rattle.merc_rights.specs.Groups.{numbered}
use Rattle.merc_rights.specs.Members.{count_of, turn_wait, turn_signal, wait_shares, signal_shares, pass_shares, consumers_behind, cells_at, waits_at, signals_at, moves_at, move_of, Adds, Finds, IsLaid}
use Rattle.merc_rights.specs.Waits.{fresh}
use Rattle.merc_rights.specs.Rights.{Right, right_to}
use Rattle.merc_rights.specs.Places.{Lies, starts_of}

abbrev nowhere : Span
nowhere = record { first = 0; past = 0; line = 1 }

-- a goal that uses the variables 1 and 2 and binds 1, and one that uses 2 alone
abbrev copies : Node
copies = node (Basic (Assign 1 2)) (1 ∷ []) (Some Det) nowhere

abbrev tests : Node
tests = node (Basic (Test 2 2)) [] None nowhere

-- a right whose variable is used behind
abbrev lasting : Right → Awaited
lasting right = record { right = right; later = true }

abbrev cell : CellInfo
cell = record { variable = 1; producer = 1; consumer = 3 }

count_of-example : count_of 3 (0 ∷ 2 ∷ 3 ∷ 5 ∷ []) ≡ 3
count_of-example = refl

-- to the first goal that uses the variable, whether or not another one does behind it

turn_wait-example : turn_wait (tests ∷ copies ∷ copies ∷ []) (fresh (right_to 4 1)) ≡ (1, lasting (right_to 4 1)) ∷ []
turn_wait-example = refl

turn_wait-last : turn_wait (tests ∷ copies ∷ tests ∷ []) (fresh (right_to 4 1)) ≡ (1, fresh (right_to 4 1)) ∷ []
turn_wait-last = refl

turn_wait-not : turn_wait (tests ∷ []) (fresh (right_to 4 1)) ≡ (0, fresh (right_to 4 1)) ∷ [] → ⊥
turn_wait-not unused = cc

-- to the one that binds it

turn_signal-example : turn_signal (tests ∷ copies ∷ []) (right_to 4 1) ≡ (1, right_to 4 1) ∷ []
turn_signal-example = refl

turn_signal-not : turn_signal (tests ∷ copies ∷ []) (right_to 4 2) ≡ (0, right_to 4 2) ∷ [] → ⊥
turn_signal-not used_alone = cc

-- to all of them

wait_shares-example : wait_shares (copies ∷ tests ∷ copies ∷ []) (fresh (right_to 4 1)) ≡ (0, fresh (right_to 4 1)) ∷ (2, fresh (right_to 4 1)) ∷ []
wait_shares-example = refl

signal_shares-example : signal_shares (tests ∷ copies ∷ copies ∷ []) (right_to 4 1) ≡ (1, right_to 4 1) ∷ (2, right_to 4 1) ∷ []
signal_shares-example = refl

-- behind the goals that do not use the variable, where it is used later

pass_shares-example : pass_shares (copies ∷ tests ∷ []) (lasting (right_to 4 1)) ≡ (1, right_to 4 1) ∷ []
pass_shares-example = refl

pass_shares-not : pass_shares (copies ∷ tests ∷ []) (fresh (right_to 4 1)) ≡ (1, right_to 4 1) ∷ [] → ⊥
pass_shares-not not_later = cc

-- The first conjunct binds the variable, and the third uses it.

consumers_behind-example : consumers_behind (copies ∷ tests ∷ copies ∷ []) (1 ∷ []) 0 1 ≡ 3 ∷ 0 ∷ []
consumers_behind-example = refl

consumers_behind-not : consumers_behind (copies ∷ tests ∷ []) [] 0 1 ≡ 0 ∷ [] → ⊥
consumers_behind-not no_output = cc

cells_at-example : cells_at (copies ∷ tests ∷ copies ∷ []) [] 0 1 ≡ cell ∷ []
cells_at-example = refl

waits_at-example : waits_at (copies ∷ tests ∷ copies ∷ []) 0 1 ≡ (2, fresh (right_to 3 1)) ∷ []
waits_at-example = refl

-- with a right that moves in, in the order of the conjuncts
signals_at-example : signals_at (copies ∷ tests ∷ copies ∷ []) (1 ∷ []) ((1, right_to 2 1) ∷ []) 0 1
    ≡ (0, right_to 2 1) ∷ (0, right_to 3 1) ∷ (0, right_to 0 1) ∷ []
signals_at-example = refl

-- once for all rights for the variable
moves_at-example : moves_at ((1, right_to 2 1) ∷ (1, right_to 0 1) ∷ []) 0 1 ≡ record { variable = 1; child = 1; signal = true } ∷ []
moves_at-example = refl

moves_at-not : moves_at ((2, right_to 2 2) ∷ []) 0 1 ≡ record { variable = 1; child = 1; signal = true } ∷ [] → ⊥
moves_at-not other_variable = cc

move_of-example : move_of (2, fresh (right_to 4 1)) ≡ record { variable = 1; child = 3; signal = false }
move_of-example = refl

-- what is found

Adds-example : (old new : Found) → old.cells.items ≡ [] → new.cells.items ≡ cell ∷ [] → new.moves.items ≡ old.moves.items ++ []
    → new.waits.items ≡ old.waits.items ++ []
    → numbered new.signals.items ≡ numbered old.signals.items ++ [] → Adds [] old new (cell ∷ []) [] [] []
Adds-example old new none one moves waits signals =
    record { more_cells = one ∙ sym (ap (λ cells. cells ++ cell ∷ []) none); more_moves = moves; more_waits = waits; more_signals = signals }

ends_with_one : (cells : List CellInfo) → [] ≡ cells ++ cell ∷ [] → ⊥
ends_with_one [] none = cc
ends_with_one (first ∷ rest) none = cc

Adds-not : (old new : Found) → new.cells.items ≡ [] → Adds [] old new (cell ∷ []) [] [] [] → ⊥
Adds-not old new none adds = ends_with_one old.cells.items (sym none ∙ adds.more_cells)

Finds-example : (found : Found) → found.cells.items ≡ [] → found.moves.items ≡ [] → found.waits.items ≡ [] → numbered found.signals.items ≡ []
    → Finds (tests ∷ tests ∷ []) [] [] found
Finds-example found cells moves waits signals =
    record { moved = []; by_variable = λ variable. refl; are_cells = cells; are_moves = moves; are_waits = waits; are_signals = signals }

Finds-not : (found : Found) → found.cells.items ≡ [] → Finds (copies ∷ tests ∷ copies ∷ []) [] [] found → ⊥
Finds-not found none finds = let wrong : ◌≡◌ {A = List CellInfo} [] (cell ∷ []) = sym none ∙ finds.are_cells in cc

-- where goals start

IsLaid-example : (members : Members) → members.first ≡ 0 → members.goals.items ≡ copies ∷ [] → members.starts.items ≡ 0 ∷ 1 ∷ [] → IsLaid copies members
IsLaid-example members first goals starts =
    let at_nought : Lies (labels_of copies) 0 (all_labels (copies ∷ [])) = record { front = []; back = []; are = refl; count = refl } in
    let of_goals : Lies (labels_of copies) 0 (all_labels members.goals.items) = subst (λ list. Lies (labels_of copies) 0 (all_labels list)) (sym goals) at_nought in
    record {
      starts = starts ∙ sym (ap (λ start. starts_of start members.goals.items) first ∙ ap (λ list. starts_of 0 list) goals);
      lies = subst (λ start. Lies (labels_of copies) start (all_labels members.goals.items)) (sym first) of_goals;
    }

starts_somewhere : (start : ℕ) (goals : List Node) → [] ≡ starts_of start goals → ⊥
starts_somewhere start [] none = cc
starts_somewhere start (first ∷ rest) none = cc

IsLaid-not : (members : Members) → members.starts.items ≡ [] → IsLaid copies members → ⊥
IsLaid-not members none laid = starts_somewhere members.first members.goals.items (sym none ∙ laid.starts)
