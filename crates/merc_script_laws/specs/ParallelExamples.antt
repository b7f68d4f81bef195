-- Worked examples of outputs that parts have, and of the number of conjuncts.
use Rattle.std.specs.Prelude.{◌≡◌, ◌≤◌, ℕ, pos, List, [], ◌∷◌, Some, None, refl}
use Rattle.std.proofs.Common.{arith, inl, inr}
use Rattle.merc_base.specs.declared.category.Category.TheVariants.{Det, Failure}
use Rattle.merc_base.specs.declared.place.Span.{Span}
use Rattle.merc_tree.specs.declared.declarations.ModeDecl.{ModeDecl}
use Rattle.merc_goal_tree.specs.declared.goal.Symbol.TheVariants.{Integer}
use Rattle.merc_graded_tree.specs.declared.basic.BasicGoal.TheVariants.{Fail, Build}
use Rattle.merc_graded_tree.specs.declared.entries.Running.TheVariants.{Sequential, Parallel}
use Rattle.merc_graded_tree.specs.Nodes.{Node, node, Basic, Conjunction, Disjunction, Negation, nodes_of}
use Rattle.merc_script_laws.specs.Parallel.{all_outputs, ArmHas, KeepsOutputs, HasFew}

abbrev nowhere : Span
nowhere = record { first = 0; past = 0; line = 1 }

abbrev no_modes : ℕ → List ModeDecl
no_modes predicate = []

abbrev is_one : ℕ → Node
is_one variable = node (Basic (Build variable (Integer (pos 1)) [])) (variable ∷ []) (Some Det) nowhere

abbrev fails : Node
fails = node (Basic Fail) [] (Some Failure) nowhere

abbrev both : List ℕ → List Node → Node
both outputs goals = node (Conjunction Sequential (nodes_of goals)) outputs (Some Det) nowhere

abbrev beside : List ℕ → List Node → Node
beside outputs goals = node (Conjunction (Parallel None) (nodes_of goals)) outputs (Some Det) nowhere

abbrev either : List ℕ → List Node → Node
either outputs goals = node (Disjunction (nodes_of goals)) outputs (Some Det) nowhere

all_outputs-example : all_outputs (nodes_of (is_one 3 ∷ fails ∷ is_one 4 ∷ [])) ≡ 3 ∷ 4 ∷ []
all_outputs-example = refl

all_outputs-not : all_outputs (nodes_of (is_one 3 ∷ [])) ≡ [] → ⊥
all_outputs-not none = cc

-- outputs that the goals bind, and one that none does
keeps-example : KeepsOutputs no_modes (both (3 ∷ 4 ∷ []) (is_one 3 ∷ is_one 4 ∷ []))
keeps-example = ((tt, (tt, tt)), (λ variable is. is))

keeps-not : KeepsOutputs no_modes (both (5 ∷ []) (is_one 3 ∷ [])) → ⊥
keeps-not keeps = let wrong = keeps.1 5 refl in cc

-- an arm whose end cannot be reached owes nothing, and another one has the outputs
arm-example : ArmHas no_modes (3 ∷ []) fails
arm-example = inl refl

arm-not : KeepsOutputs no_modes (either (3 ∷ []) (is_one 3 ∷ is_one 4 ∷ [])) → ⊥
arm-not keeps = elim keeps.1.0.1 as (λ _. ⊥) [
  | inl unreached ↦ cc
  | inr within ↦ let wrong = within 3 refl in cc
]

-- a negation has no outputs
negation-not : KeepsOutputs no_modes (node (Negation (is_one 3)) (3 ∷ []) (Some Det) nowhere) → ⊥
negation-not keeps = let none = keeps.1 in cc

-- the number of conjuncts

few-example : HasFew (beside [] (is_one 3 ∷ is_one 4 ∷ []))
few-example = (omega (arith), (omega (arith), (tt, (tt, tt))))

few-sequential : HasFew (both [] [])
few-sequential = tt

few-not : HasFew (beside [] []) → ⊥
few-not few = let some : 1 ≤ 0 = few.0 in absurd (omega (arith, some))
