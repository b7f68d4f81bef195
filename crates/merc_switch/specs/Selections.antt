-- Some disjuncts of a disjunction, and in how many of them its outputs occur.
use Rattle.std.specs.Prelude.{◌≡◌, ℕ, Bool, ◌&&◌, List, Option, IfSome, refl}
use Rattle.std.specs.Coded.{Coded, code_by, coded×, coded_list}
use Rattle.merc_graded_tree.specs.LabelCode.{node_code}
use Rattle.merc_graded_tree.specs.Nodes.{Node, outputs_of}
use Rattle.merc_graded_tree.specs.Variables.{in_node}
use Rattle.merc_order.specs.Bound.{among}
use Rattle.merc_switch_choice.specs.declared.counts.VarCounts.{VarCounts}
use Rattle.merc_switch_choice.specs.Counting.{counting, all_counting, count_of}

-- disjuncts of a disjunction
pub record Selection : Type 0 where
  pub whole : Node
  pub disjuncts : List Node

-- a variable is one of the outputs, and occurs in a goal
abbrev pub has_output : List ℕ → ℕ → Node → Bool
has_output outputs variable goal = among outputs variable && in_node goal variable

-- The count of each output is that of the disjuncts in which it occurs; other variables have none.
abbrev pub CountsOutputs : List ℕ → VarCounts → List Node → Type 0
CountsOutputs outputs counts disjuncts = (variable : ℕ) → count_of counts variable ≡ counting (has_output outputs variable) disjuncts

-- the same where there are counts
abbrev pub MayCount : Node → Option VarCounts → List Node → Type 0
MayCount whole counts disjuncts = IfSome counts (λ counts. CountsOutputs (outputs_of whole) counts disjuncts)

-- the same of several lists of disjuncts, which have the counts together
abbrev pub MayCountAll : Node → Option VarCounts → List (List Node) → Type 0
MayCountAll whole counts groups = IfSome counts (λ counts. (variable : ℕ) → count_of counts variable ≡ all_counting (has_output (outputs_of whole) variable) groups)

-- a selection is stored as its parts
abbrev pub selection_code : Coded Selection
selection_code = code_by (Node × List Node) (coded× node_code (coded_list node_code)) (λ s. (s.whole, s.disjuncts)) (λ p. record { whole = p.0; disjuncts = p.1 }) (λ _. refl)
