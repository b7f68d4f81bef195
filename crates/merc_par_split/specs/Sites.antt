-- The sites of parallel conjunctions: how many conjuncts are forked at each, their cells, and which rights of the enclosing conjunct move into them.
use Rattle.std.specs.Prelude.{ℕ, suc, Bool, true, false, ◌==◌, ◌||◌, not, List, [], ◌∷◌, ◌++◌, map, if◌then◌else◌}
use Rattle.std.specs.List.{filter, flat_map, list_any}
use Rattle.merc_graded_tree.specs.declared.entries.Running.TheVariants.{Sequential, Parallel}
use Rattle.merc_graded_tree.specs.Nodes.{Node, node, Goal, Basic, Conjunction, Disjunction, Switch, Conditional, Negation, Quantified, Nodes, no_nodes, more_nodes, Arms, no_arms, more_arms, outputs_of}
use Rattle.merc_graded_tree.specs.Variables.{among, in_nodes}
use Rattle.merc_rights.specs.declared.sites.CellInfo.{CellInfo}
use Rattle.merc_rights.specs.declared.sites.Moved.{Moved}
use Rattle.merc_rights.specs.declared.sites.SiteInfo.{SiteInfo}
use Rattle.merc_rights.specs.Rights.{Right, right_to, those, used_in, unused_in, bound_in, unbound_in, users, signals_of}
use Rattle.merc_par_split.specs.Split.{may_fail, nothing, moves_in}

-- how many conjuncts there are
abbrev pub count : Nodes → ℕ
count no_nodes = 0
count (more_nodes first rest) = suc (count rest)

-- who waits for a variable: of the conjuncts to the right, the first of which has this number, those that use it, and the goals behind the `&`, by the number 0,
-- where it is an output of the `&`
abbrev pub consumers : ℕ → Nodes → List ℕ → ℕ → List ℕ
consumers next rest outputs variable = users next rest variable ++ (if among outputs variable then 0 ∷ [] else [])

-- The cells of an `&` with these outputs: by the conjunct that binds the variable, numbered from here on, then by variable, then by who waits for it.
abbrev pub cells_of : ℕ → List ℕ → Nodes → List CellInfo
cells_of number outputs no_nodes = []
cells_of number outputs (more_nodes first rest) =
    flat_map (λ variable. map (λ consumer. record { variable = variable; producer = number; consumer = consumer }) (consumers (suc number) rest outputs variable)) (outputs_of first)
    ++ cells_of (suc number) outputs rest

-- a right for a variable is among these
abbrev pub are_for : List Right → ℕ → Bool
are_for rights variable = list_any (λ right. right.variable == variable) rights

-- The rights to signal variables move into the conjuncts that bind them, those to wait into the conjuncts that use them.
abbrev pub signal_moves : (ℕ → Bool) → ℕ → Nodes → List Moved
signal_moves held number no_nodes = []
signal_moves held number (more_nodes first rest) =
    map (λ variable. record { variable = variable; child = number; signal = true }) (filter held (outputs_of first)) ++ signal_moves held (suc number) rest

abbrev pub wait_moves : List Right → Nodes → List Moved
wait_moves waits goals =
    flat_map (λ right. map (λ conjunct. record { variable = right.variable; child = conjunct; signal = false }) (users 1 goals right.variable)) waits

abbrev pub site_info : List ℕ → List Right → List Right → Nodes → SiteInfo
site_info outputs waits signals goals = record {
  children = count goals;
  cells = cells_of 1 outputs goals;
  moves = signal_moves (are_for signals) 1 goals ++ wait_moves waits goals;
}

-- The sites of a goal of a conjunct with these rights, in the order of their numbers. The rights go the ways of the split tree.
abbrev mutual
  pub planned : (ℕ → Bool) → List Right → List Right → Node → List SiteInfo
  planned later waits signals (node goal outputs category span) =
      if may_fail category then planned_goal later waits [] goal outputs else planned_goal later waits signals goal outputs

  pub planned_goal : (ℕ → Bool) → List Right → List Right → Goal → List ℕ → List SiteInfo
  planned_goal later waits signals (Basic goal) outputs = []
  planned_goal later waits signals (Conjunction Sequential goals) outputs = planned_in_turn later waits signals goals
  planned_goal later waits signals (Conjunction (Parallel unknown) goals) outputs =
      site_info outputs (those (moves_in later goals) waits) signals goals ∷ planned_conjuncts 1 outputs (those (moves_in later goals) waits) signals [] goals
  planned_goal later waits signals (Disjunction goals) outputs = planned_alone goals
  planned_goal later waits signals (Switch variable arms) outputs = planned_arms later (those (λ other. not (other == variable)) waits) signals arms
  planned_goal later waits signals (Conditional condition then_part else_part) outputs =
      let inner = unused_in condition waits in
      planned nothing [] [] condition
      ++ (planned later (used_in then_part inner) (bound_in then_part signals) then_part ++ planned later (used_in else_part inner) (bound_in else_part signals) else_part)
  planned_goal later waits signals (Negation goal) outputs = planned nothing [] [] goal
  planned_goal later waits signals (Quantified own goal) outputs = planned later waits signals goal

  pub planned_in_turn : (ℕ → Bool) → List Right → List Right → Nodes → List SiteInfo
  planned_in_turn later waits signals no_nodes = []
  planned_in_turn later waits signals (more_nodes first rest) =
      planned (λ variable. later variable || in_nodes rest variable) (used_in first waits) (bound_in first signals) first
      ++ planned_in_turn later (unused_in first waits) (unbound_in first signals) rest

  pub planned_conjuncts : ℕ → List ℕ → List Right → List Right → List ℕ → Nodes → List SiteInfo
  planned_conjuncts number outputs waits signals left no_nodes = []
  planned_conjuncts number outputs waits signals left (more_nodes first rest) =
      planned nothing (used_in first (map (right_to number) left ++ waits)) (flat_map (signals_of (suc number) rest outputs signals) (outputs_of first)) first
      ++ planned_conjuncts (suc number) outputs waits signals (left ++ outputs_of first) rest

  pub planned_arms : (ℕ → Bool) → List Right → List Right → Arms → List SiteInfo
  planned_arms later waits signals no_arms = []
  planned_arms later waits signals (more_arms symbol body rest) =
      planned later (used_in body waits) (bound_in body signals) body ++ planned_arms later waits signals rest

  pub planned_alone : Nodes → List SiteInfo
  planned_alone no_nodes = []
  planned_alone (more_nodes first rest) = planned nothing [] [] first ++ planned_alone rest

-- the sites of the split tree of a body or of a goal that is asked, and those of a program's trees in order
abbrev pub sites : Node → List SiteInfo
sites tree = planned nothing [] [] tree

abbrev pub all_sites : List Node → List SiteInfo
all_sites [] = []
all_sites (first ∷ rest) = sites first ++ all_sites rest
