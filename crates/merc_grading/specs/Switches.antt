-- Switches: disjunctions of which each disjunct begins with a symbol of one variable that is bound before.
use Rattle.std.specs.Prelude.{ℕ, zero, suc, Bool, true, false, not, ◌==◌, ◌&&◌, nat_le, List, [], ◌∷◌, ◌++◌, length, Option, Some, None, if◌then◌else◌}
use Rattle.std.specs.List.{filter, flat_map, list_all}
use Rattle.merc_base.specs.declared.place.Span.{Span}
use Rattle.merc_tree.specs.Types.{TypeExpr}
use Rattle.merc_tree.specs.declared.declarations.TypeDef.{TypeDef}
use Rattle.merc_goal_tree.specs.declared.goal.Symbol.{Symbol}
use Rattle.merc_graded_tree.specs.declared.basic.BasicGoal.{BasicGoal}
use Rattle.merc_graded_tree.specs.declared.basic.BasicGoal.TheVariants.{Assign, Test, Build, Split}
use Rattle.merc_graded_tree.specs.declared.entries.Running.TheVariants.{Sequential}
use Rattle.merc_graded_tree.specs.Nodes.{Node, node, Goal, Basic, Conjunction, Disjunction, Switch, Conditional, Negation, Quantified, Nodes, no_nodes, more_nodes, Arms, no_arms, more_arms, nodes_of, list_of, outputs_of}
use Rattle.merc_graded_tree.specs.Variables.{in_nodes}
use Rattle.merc_order.specs.Bound.{Bound, with, among}
use Rattle.merc_grading.specs.Known.{same_symbol, symbols_of_type, are_complete}

-- What a goal begins with: its splits, each a variable with a symbol, up to the first goal that is no unification; and whether it is unifications alone.
pub record Beginning : Type 0 where
  pub splits : List (ℕ × Symbol)
  pub goes_on : Bool

abbrev pub nothing_else : Beginning
nothing_else = record { splits = []; goes_on = true }

abbrev pub stops : Beginning
stops = record { splits = []; goes_on = false }

abbrev pub basic_beginning : BasicGoal → Beginning
basic_beginning (Assign to from) = nothing_else
basic_beginning (Test one other) = nothing_else
basic_beginning (Build whole symbol arguments) = nothing_else
basic_beginning (Split whole symbol arguments) = record { splits = (whole, symbol) ∷ []; goes_on = true }
basic_beginning other = stops

-- one beginning, and behind it another where it is unifications alone
abbrev pub followed : Beginning → Beginning → Beginning
followed first next = if first.goes_on then record { splits = first.splits ++ next.splits; goes_on = next.goes_on } else first

abbrev mutual
  pub beginning : Node → Beginning
  beginning (node goal outputs category span) = goal_beginning goal

  pub goal_beginning : Goal → Beginning
  goal_beginning (Basic goal) = basic_beginning goal
  goal_beginning (Conjunction Sequential goals) = all_beginning goals
  goal_beginning other = stops

  pub all_beginning : Nodes → Beginning
  all_beginning no_nodes = nothing_else
  all_beginning (more_nodes first rest) = followed (beginning first) (all_beginning rest)

-- the symbol of the first split of a variable
abbrev pub symbol_in : List (ℕ × Symbol) → ℕ → Option Symbol
symbol_in [] variable = None
symbol_in (first ∷ rest) variable = if first.0 == variable then Some first.1 else symbol_in rest variable

-- the symbol by which a disjunct splits a variable in its beginning
abbrev pub symbol_at : ℕ → Node → Option Symbol
symbol_at variable disjunct = symbol_in (beginning disjunct).splits variable

abbrev pub is_there : Option Symbol → Bool
is_there None = false
is_there (Some symbol) = true

abbrev pub listed : Option Symbol → List Symbol
listed None = []
listed (Some symbol) = symbol ∷ []

-- the variables that disjuncts split in their beginnings
abbrev pub split_variables : List Node → List ℕ
split_variables disjuncts = flat_map (λ disjunct. flat_map (λ one. one.0 ∷ []) (beginning disjunct).splits) disjuncts

-- Disjuncts by their symbols: each symbol where it comes first, the disjuncts of one in their order.

abbrev pub Group : Type 0
Group = Symbol × List Node

abbrev pub of_symbol : Symbol → List Group → List Node
of_symbol symbol [] = []
of_symbol symbol (group ∷ groups) = if same_symbol symbol group.0 then group.1 else of_symbol symbol groups

abbrev pub without_symbol : Symbol → List Group → List Group
without_symbol symbol groups = filter (λ group. not (same_symbol symbol group.0)) groups

abbrev pub with_disjunct : Option Symbol → Node → List Group → List Group
with_disjunct None first groups = groups
with_disjunct (Some symbol) first groups = (symbol, first ∷ of_symbol symbol groups) ∷ without_symbol symbol groups

abbrev pub grouped : ℕ → List Node → List Group
grouped variable [] = []
grouped variable (first ∷ rest) = with_disjunct (symbol_at variable first) first (grouped variable rest)

abbrev pub lesser : ℕ → Option ℕ → ℕ
lesser one None = one
lesser one (Some other) = if nat_le one other then one else other

abbrev pub least : List ℕ → Option ℕ
least [] = None
least (first ∷ rest) = Some (lesser first (least rest))

abbrev pub or_else : Option ℕ → Option ℕ → Option ℕ
or_else None other = other
or_else (Some one) other = Some one

-- Given are the declared types and the type of each variable.
module _ (declared : List TypeDef) (types : ℕ → TypeExpr) where
  -- a disjunction can be a switch on a variable: it is bound before, and each disjunct splits it in its beginning
  abbrev pub can_switch : Bound → List Node → ℕ → Bool
  can_switch bound disjuncts variable = bound variable && list_all (λ disjunct. is_there (symbol_at variable disjunct)) disjuncts

  -- the symbols of the disjuncts are all of the variable's type
  abbrev pub is_complete : List Node → ℕ → Bool
  is_complete disjuncts variable = are_complete (symbols_of_type declared (types variable)) (flat_map (λ disjunct. listed (symbol_at variable disjunct)) disjuncts)

  -- the variables on which a disjunction can be a switch, but for those by which its disjuncts came together
  abbrev pub candidates : Bound → List ℕ → List Node → List ℕ
  candidates bound used disjuncts = filter (λ variable. not (among used variable) && can_switch bound disjuncts variable) (split_variables disjuncts)

  -- Of several those whose symbols are complete go before the others, and of these the one that is first in the text is taken.
  abbrev pub choice : Bound → List ℕ → List Node → Option ℕ
  choice bound used disjuncts =
      or_else (least (filter (λ variable. is_complete disjuncts variable) (candidates bound used disjuncts))) (least (candidates bound used disjuncts))

  -- one disjunct is the arm itself; several are a disjunction, whose outputs are those that occur in it
  abbrev pub arm_body : List ℕ → Span → (List Node → Goal) → List Node → Node
  arm_body outputs span again (only ∷ []) = only
  arm_body outputs span again disjuncts = node (again disjuncts) (filter (λ variable. in_nodes (nodes_of disjuncts) variable) outputs) None span

  abbrev pub arms_of_groups : (List Node → Node) → List Group → Arms
  arms_of_groups body [] = no_arms
  arms_of_groups body (group ∷ groups) = more_arms group.0 (body group.1) (arms_of_groups body groups)

  abbrev pub switched : Option ℕ → (ℕ → Goal) → List Node → Goal
  switched None goal disjuncts = Disjunction (nodes_of disjuncts)
  switched (Some variable) goal disjuncts = goal variable

  -- A disjunction as a switch, whose arms of several disjuncts are judged again; at most so often.
  abbrev pub regrouped : ℕ → List ℕ → Span → Bound → List ℕ → List Node → Goal
  regrouped zero outputs span bound used disjuncts = Disjunction (nodes_of disjuncts)
  regrouped (suc left) outputs span bound used disjuncts =
      switched (choice bound used disjuncts) (λ variable. Switch variable (arms_of_groups
      (arm_body outputs span (λ several. regrouped left outputs span bound (variable ∷ used) several)) (grouped variable disjuncts))) disjuncts

  -- As each time one more variable is used, so many times are enough.
  abbrev pub as_switch : List ℕ → Span → Bound → List Node → Goal
  as_switch outputs span bound disjuncts = regrouped (length (split_variables disjuncts)) outputs span bound [] disjuncts

  abbrev pub bound_behind : Bound → Node → Bound
  bound_behind bound first = with bound (among (outputs_of first))

  abbrev mutual
    -- a goal with its switches, from what is bound before it; inner ones come first
    pub find : Bound → Node → Node
    find bound (node goal outputs category span) = node (find_goal bound outputs span goal) outputs category span

    pub find_goal : Bound → List ℕ → Span → Goal → Goal
    find_goal bound outputs span (Basic goal) = Basic goal
    find_goal bound outputs span (Conjunction running goals) = Conjunction running (find_all bound goals)
    find_goal bound outputs span (Disjunction goals) = as_switch outputs span bound (list_of (find_each bound goals))
    find_goal bound outputs span (Switch variable arms) = Switch variable arms
    find_goal bound outputs span (Conditional condition then_part else_part) =
        Conditional (find bound condition) (find (bound_behind bound condition) then_part) (find bound else_part)
    find_goal bound outputs span (Negation goal) = Negation (find bound goal)
    find_goal bound outputs span (Quantified own goal) = Quantified own (find bound goal)

    -- goals one after the other
    pub find_all : Bound → Nodes → Nodes
    find_all bound no_nodes = no_nodes
    find_all bound (more_nodes first rest) = more_nodes (find bound first) (find_all (bound_behind bound first) rest)

    -- goals of which each starts from what is bound before all
    pub find_each : Bound → Nodes → Nodes
    find_each bound no_nodes = no_nodes
    find_each bound (more_nodes first rest) = more_nodes (find bound first) (find_each bound rest)
