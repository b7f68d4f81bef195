-- Which of the goals that a goal joins the rights go to that it has.
use Rattle.std.specs.Prelude.{◌≡◌, ℕ, suc, Bool, true, false, not, nat_le, length, List, [], ◌∷◌, ◌++◌, map, Option, Some, None, if◌then◌else◌}
use Rattle.std.specs.List.{filter, flat_map}
use Rattle.std.specs.Option.{is_some}
use Rattle.merc_graded_tree.specs.Nodes.{Node, outputs_of}
use Rattle.merc_graded_tree.specs.Labels.{labels_of, all_labels}
use Rattle.merc_graded_tree.specs.Variables.{among, in_node}
use Rattle.merc_rights.specs.Rights.{Right, right_to, with_rights}
use Rattle.merc_rights.specs.Rows.{row_of, next_from, numbers_from, each_from}
use Rattle.merc_rights.specs.Groups.{numbered, numbered_with}
use Rattle.merc_rights.specs.Waits.{fresh}
use Rattle.merc_rights.specs.Places.{Lies, starts_of}
use Rattle.merc_rights.specs.declared.conjuncts.Found.{Found}
use Rattle.merc_rights.specs.declared.members.Members.{Members}
use Rattle.merc_rights.specs.declared.rights.Awaited.{Awaited}
use Rattle.merc_rights.specs.declared.sites.CellInfo.{CellInfo}
use Rattle.merc_rights.specs.declared.sites.Moved.{Moved}

-- The parts of the goals stand in the whole where their starts say.
pub record IsLaid (whole : Node) (members : Members) : Type 0 where
  pub starts : members.starts.items ≡ starts_of members.first members.goals.items
  pub lies : Lies (labels_of whole) members.first (all_labels members.goals.items)

-- how many of the places where goals start are not behind a place
abbrev pub count_of : ℕ → List ℕ → ℕ
count_of place starts = length (filter (λ other. nat_le other place) starts)

abbrev pub uses_it : ℕ → Node → Bool
uses_it variable goal = in_node goal variable

abbrev pub binds_it : ℕ → Node → Bool
binds_it variable goal = among (outputs_of goal) variable

-- a right to the first goal that uses its variable, and whether the variable is used behind
abbrev pub turn_wait_at : List Node → Awaited → Option ℕ → List (ℕ × Awaited)
turn_wait_at goals wait None = []
turn_wait_at goals wait (Some user) =
    (user, record { right = wait.right; later = if wait.later then true else is_some (next_from (uses_it wait.right.variable) (suc user) 0 goals) }) ∷ []

abbrev pub turn_wait : List Node → Awaited → List (ℕ × Awaited)
turn_wait goals wait = turn_wait_at goals wait (next_from (uses_it wait.right.variable) 0 0 goals)

-- a right to the first goal that binds its variable
abbrev pub turn_signal_at : Right → Option ℕ → List (ℕ × Right)
turn_signal_at right None = []
turn_signal_at right (Some binder) = (binder, right) ∷ []

abbrev pub turn_signal : List Node → Right → List (ℕ × Right)
turn_signal goals right = turn_signal_at right (next_from (binds_it right.variable) 0 0 goals)

-- rights to all goals that use their variable, or bind it
abbrev pub wait_shares : List Node → Awaited → List (ℕ × Awaited)
wait_shares goals wait = map (λ number. (number, wait)) (numbers_from (uses_it wait.right.variable) 0 0 goals)

abbrev pub signal_shares : List Node → Right → List (ℕ × Right)
signal_shares goals right = map (λ number. (number, right)) (numbers_from (binds_it right.variable) 0 0 goals)

-- rights that are waited for behind the goals which do not use their variable
abbrev pub spared : ℕ → Node → Bool
spared variable goal = not (in_node goal variable)

abbrev pub pass_shares : List Node → Awaited → List (ℕ × Right)
pass_shares goals wait = if wait.later then map (λ number. (number, wait.right)) (numbers_from (spared wait.right.variable) 0 0 goals) else []

-- The conjuncts behind the one of this number that use a variable, all by their numbers from 0; and all who wait for its value, conjuncts by their numbers from 1.
abbrev pub users_behind : List Node → ℕ → ℕ → List ℕ
users_behind goals producer variable = numbers_from (uses_it variable) (suc producer) 0 goals

abbrev pub consumers_behind : List Node → List ℕ → ℕ → ℕ → List ℕ
consumers_behind goals outputs producer variable = map suc (users_behind goals producer variable) ++ (if among outputs variable then 0 ∷ [] else [])

abbrev pub cells_at : List Node → List ℕ → ℕ → ℕ → List CellInfo
cells_at goals outputs producer variable = map (λ consumer. record { variable = variable; producer = suc producer; consumer = consumer }) (consumers_behind goals outputs producer variable)

abbrev pub waits_at : List Node → ℕ → ℕ → List (ℕ × Awaited)
waits_at goals producer variable = map (λ user. (user, fresh (right_to (suc user) variable))) (users_behind goals producer variable)

abbrev pub signals_at : List Node → List ℕ → List (ℕ × Right) → ℕ → ℕ → List (ℕ × Right)
signals_at goals outputs moved producer variable =
    map (λ right. (producer, right)) (with_rights (row_of variable moved) (map (λ conjunct. right_to conjunct variable) (consumers_behind goals outputs producer variable)))

abbrev pub moves_if : List Right → ℕ → ℕ → List Moved
moves_if [] producer variable = []
moves_if (first ∷ rest) producer variable = record { variable = variable; child = suc producer; signal = true } ∷ []

abbrev pub moves_at : List (ℕ × Right) → ℕ → ℕ → List Moved
moves_at moved producer variable = moves_if (row_of variable moved) producer variable

-- what tells of a right to wait that moves into a conjunct
abbrev pub move_of : ℕ × Awaited → Moved
move_of pair = record { variable = pair.1.right.variable; child = suc pair.0; signal = false }

-- what is found at an `&` is put behind what was, where these rights to signal move in by their variables
pub record Adds (moved : List (ℕ × Right)) (old new : Found) (cells : List CellInfo) (moves : List Moved) (waits : List (ℕ × Awaited)) (signals : List (ℕ × Right)) : Type 0 where
  pub more_cells : new.cells.items ≡ old.cells.items ++ cells
  pub more_moves : new.moves.items ≡ old.moves.items ++ moves
  pub more_waits : new.waits.items ≡ old.waits.items ++ waits
  pub more_signals : numbered_with moved new.signals.items ≡ numbered_with moved old.signals.items ++ signals

-- .. for a variable that a conjunct binds, for those of a list, and for those of conjuncts from a number on
module _ (goals : List Node) (outputs : List ℕ) (moved : List (ℕ × Right)) where
  abbrev pub AddsVariable : ℕ → ℕ → Found → Found → Type 0
  AddsVariable producer variable old new =
      Adds moved old new (cells_at goals outputs producer variable) (moves_at moved producer variable) (waits_at goals producer variable) (signals_at goals outputs moved producer variable)

  abbrev pub AddsVariables : ℕ → List ℕ → Found → Found → Type 0
  AddsVariables producer variables old new =
      Adds moved old new (flat_map (cells_at goals outputs producer) variables) (flat_map (moves_at moved producer) variables)
      (flat_map (waits_at goals producer) variables) (flat_map (signals_at goals outputs moved producer) variables)

  abbrev pub AddsFrom : ℕ → List Node → Found → Found → Type 0
  AddsFrom number rest old new =
      Adds moved old new (each_from (λ n goal. flat_map (cells_at goals outputs n) (outputs_of goal)) number rest)
      (each_from (λ n goal. flat_map (moves_at moved n) (outputs_of goal)) number rest)
      (each_from (λ n goal. flat_map (waits_at goals n) (outputs_of goal)) number rest)
      (each_from (λ n goal. flat_map (signals_at goals outputs moved n) (outputs_of goal)) number rest)

-- all that is found before these rights to signal move in
pub record FindsWith (goals : List Node) (outputs : List ℕ) (moved : List (ℕ × Right)) (found : Found) : Type 0 where
  pub are_cells : found.cells.items ≡ each_from (λ n goal. flat_map (cells_at goals outputs n) (outputs_of goal)) 0 goals
  pub are_moves : found.moves.items ≡ each_from (λ n goal. flat_map (moves_at moved n) (outputs_of goal)) 0 goals
  pub are_waits : found.waits.items ≡ each_from (λ n goal. flat_map (waits_at goals n) (outputs_of goal)) 0 goals
  pub are_signals : numbered_with moved found.signals.items ≡ each_from (λ n goal. flat_map (signals_at goals outputs moved n) (outputs_of goal)) 0 goals

-- all that is found, where these rights to signal move in
pub record Finds (goals : List Node) (outputs : List ℕ) (signals : List Right) (found : Found) : Type 0 where
  pub moved : List (ℕ × Right)
  pub by_variable : (variable : ℕ) → row_of variable moved ≡ row_of variable (map (λ right. (right.variable, right)) signals)
  pub are_cells : found.cells.items ≡ each_from (λ n goal. flat_map (cells_at goals outputs n) (outputs_of goal)) 0 goals
  pub are_moves : found.moves.items ≡ each_from (λ n goal. flat_map (moves_at moved n) (outputs_of goal)) 0 goals
  pub are_waits : found.waits.items ≡ each_from (λ n goal. flat_map (waits_at goals n) (outputs_of goal)) 0 goals
  pub are_signals : numbered found.signals.items ≡ each_from (λ n goal. flat_map (signals_at goals outputs moved n) (outputs_of goal)) 0 goals
