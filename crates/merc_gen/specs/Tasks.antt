-- What is still to be done for a goal's code, which is built from its end to its beginning. The last of a list of tasks comes first.
use Rattle.std.specs.Prelude.{◌≡◌, ◌≤◌, ◌+◌, ◌-◌, ℕ, suc, List, [], ◌∷◌, ◌++◌, length, reverse, Bool}
use Rattle.merc_goal_tree.specs.declared.goal.Symbol.{Symbol}
use Rattle.merc_graded_tree.specs.declared.basic.Procedure.{Procedure}
use Rattle.merc_graded_tree.specs.Nodes.{Node, goal_of}
use Rattle.merc_code.specs.Steps.{Code}
use Rattle.merc_code.specs.declared.instruction.Instruction.TheVariants.{Jump, Switch as SwitchTo, Try, Mark}
use Rattle.merc_code.specs.declared.instruction.Target.{Target}
use Rattle.merc_gen.specs.Generated.{node_code, goal_code, condition_code}
use Rattle.merc_gen.specs.Turns.{node_turns, goal_turns, list_turns}
use Rattle.merc_gen.specs.declared.tasks.Arms.{Arms}
use Rattle.merc_gen.specs.declared.tasks.Task.{Task}
use Rattle.merc_gen.specs.declared.tasks.Task.TheVariants.{Emit, Bare, Put, Branch, InTurn, Choose, Decide, Switch}

-- Given are symbols, where their arms begin and where the first begins, each by the number of instructions from there to the end.
abbrev pub targets_at : List Symbol → List ℕ → ℕ → List Target
targets_at [] starts first = []
targets_at (symbol ∷ symbols) [] first = []
targets_at (symbol ∷ symbols) (start ∷ starts) first = record { symbol = symbol; skipped = first - start } ∷ targets_at symbols starts first

module _ (single : Procedure → Bool) where
  -- an alternative before the others, behind which the code goes on where so many instructions are left
  abbrev pub arm_code : ℕ → ℕ → Node → Code → Code
  arm_code mark behind body others = node_code single body mark (Jump (length others - behind) ∷ others)

  abbrev pub disjunct_code : ℕ → ℕ → Node → Code → Code
  disjunct_code mark behind goal others = let own = arm_code mark behind goal others in Try (length own - length others) ∷ own

  abbrev pub disjuncts_code : ℕ → ℕ → List Node → Code → Code
  disjuncts_code mark behind [] others = others
  disjuncts_code mark behind (first ∷ rest) others = disjunct_code mark behind first (disjuncts_code mark behind rest others)

  abbrev pub arms_before : ℕ → ℕ → List Node → Code → Code
  arms_before mark behind [] others = others
  arms_before mark behind (first ∷ rest) others = arm_code mark behind first (arms_before mark behind rest others)

  -- where these begin
  abbrev pub starts_before : ℕ → ℕ → List Node → Code → List ℕ
  starts_before mark behind [] others = []
  starts_before mark behind (first ∷ rest) others = length (arms_before mark behind (first ∷ rest) others) ∷ starts_before mark behind rest others

  -- a condition and its then part before the else part
  abbrev pub decided_code : Node → Node → ℕ → ℕ → Code → Code
  decided_code condition then_part mark behind others =
      let own = condition_code single condition mark (arm_code mark behind then_part others) in Mark mark ∷ Try (length own - length others) ∷ own

  -- a switch whose last arms' code is there
  abbrev pub switched_code : Arms → Code → Code
  switched_code arms others =
      let whole = arms_before arms.mark arms.behind arms.left others in
      SwitchTo arms.variable
      (targets_at arms.symbols.now (starts_before arms.mark arms.behind arms.left others ++ length others ∷ reverse arms.starts.items) (length whole)) ∷ whole

  abbrev pub in_turn_code : ℕ → List Node → Code → Code
  in_turn_code mark [] rest = rest
  in_turn_code mark (first ∷ others) rest = node_code single first mark (in_turn_code mark others rest)

  -- the code once a task is done
  abbrev pub after : Task → Code → Code
  after (Emit goal mark) code = node_code single goal mark code
  after (Bare goal mark) code = goal_code single (goal_of goal) mark code
  after (Put instruction) code = instruction ∷ code
  after (Branch behind) code = Try (length code - behind) ∷ code
  after (InTurn goals mark) code = in_turn_code mark goals code
  after (Choose goals mark behind) code = disjuncts_code mark behind goals code
  after (Decide condition then_part mark behind) code = decided_code condition then_part mark behind code
  after (Switch arms) code = switched_code arms code

  abbrev pub after_all : List Task → Code → Code
  after_all [] code = code
  after_all (first ∷ rest) code = after first (after_all rest code)

-- how many tasks come of one at most
abbrev pub task_turns : Task → ℕ
task_turns (Emit goal mark) = node_turns goal
task_turns (Bare goal mark) = goal_turns (goal_of goal)
task_turns (Put instruction) = 0
task_turns (Branch behind) = 0
task_turns (InTurn goals mark) = list_turns goals
task_turns (Choose goals mark behind) = list_turns goals
task_turns (Decide condition then_part mark behind) = suc (suc (suc (node_turns condition + node_turns then_part)))
task_turns (Switch arms) = list_turns arms.left

abbrev pub all_turns : List Task → ℕ
all_turns [] = 0
all_turns (first ∷ rest) = suc (task_turns first + all_turns rest)

-- Tasks and code with which the same comes out as from others and code that is changed so, in no more than so many turns more.
pub record Performs (single : Procedure → Bool) (change : Code → Code) (turns : ℕ) (tasks : List Task) (code : Code) (later : List Task) (now : Code) : Type 0 where
  pub same : after_all single later now ≡ after_all single tasks (change code)
  pub within : all_turns later ≤ turns + all_turns tasks
