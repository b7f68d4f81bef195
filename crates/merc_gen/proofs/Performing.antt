-- What tasks leave to do leads to the same code.
use Rattle.std.specs.Prelude.{◌≡◌, ◌≤◌, ◌<◌, ◌+◌, ◌-◌, ℕ, suc, Bool, true, false, not, ◌&&◌, if◌then◌else◌, List, [], ◌∷◌, ◌++◌, length, refl}
use Rattle.std.proofs.Common.{◌∙◌, ap, sym, subst, arith}
use Rattle.std.proofs.lemmas.List.{append_assoc, length-append}
use Rattle.merc_graded_tree.specs.declared.basic.Procedure.{Procedure}
use Rattle.merc_graded_tree.specs.Nodes.{Node, node, Goal, goal_of}
use Rattle.merc_code.specs.declared.instruction.Instruction.{Instruction}
use Rattle.merc_code.specs.declared.instruction.Instruction.TheVariants.{Jump, Try, Mark, Commit}
use Rattle.merc_code.specs.Steps.{Code}
use Rattle.merc_gen.specs.Generated.{is_once, quiet, leaving, goal_code, node_code, condition_code}
use Rattle.merc_gen.specs.Tasks.{after, after_all, task_turns, all_turns, Performs, arm_code, decided_code}
use Rattle.merc_gen.specs.Turns.{node_turns, goal_turns}
use Rattle.merc_gen.specs.declared.tasks.Task.{Task}
use Rattle.merc_gen.specs.declared.tasks.Task.TheVariants.{Emit, Bare, Put, Branch}

-- one more behind others
pub one_more : {X : Type 0} (tasks between later : List X) (pushed : List X) (last : X) → between ≡ tasks ++ pushed → later ≡ between ++ last ∷ [] → later ≡ tasks ++ (pushed ++ last ∷ [])
one_more tasks between later pushed last e f = f ∙ ap (λ l. l ++ last ∷ []) e ∙ append_assoc tasks pushed (last ∷ [])

-- two more
pub two_more : {X : Type 0} (tasks between later : List X) (pushed : List X) (next last : X) → between ≡ tasks ++ pushed → later ≡ between ++ next ∷ last ∷ []
    → later ≡ tasks ++ (pushed ++ next ∷ last ∷ [])
two_more tasks between later pushed next last e f = f ∙ ap (λ l. l ++ next ∷ last ∷ []) e ∙ append_assoc tasks pushed (next ∷ last ∷ [])

pub turns-append : (front back : List Task) → all_turns (front ++ back) ≡ all_turns front + all_turns back
turns-append [] back = omega arith
turns-append (first ∷ rest) back = let h = turns-append rest back in omega (arith, h)

-- how many instructions a jump skips
pub skipped_is : (others front code : Code) → others ≡ front ++ code → length others - length code ≡ length front
skipped_is others front code e = omega (arith, ap length e, length-append front code)

module _ (single : Procedure → Bool) where
  pub after-append : (front back : List Task) (code : Code) → after_all single (front ++ back) code ≡ after_all single front (after_all single back code)
  after-append [] back code = refl
  after-append (first ∷ rest) back code = ap (after single first) (after-append rest back code)

  -- a task that leaves others
  pub performs : (change : Code → Code) (turns : ℕ) (tasks later pushed : List Task) (code now : Code) → later ≡ tasks ++ pushed → after_all single pushed now ≡ change code
      → all_turns pushed ≤ turns → Performs single change turns tasks code later now
  performs change turns tasks later pushed code now e same h = record {
    same = ap (λ l. after_all single l now) e ∙ after-append tasks pushed now ∙ ap (after_all single tasks) same;
    within = omega (arith, h, ap all_turns e, turns-append tasks pushed);
  }

  -- one that leaves none
  pub done : (change : Code → Code) (turns : ℕ) (tasks : List Task) (code now : Code) → now ≡ change code → Performs single change turns tasks code tasks now
  done change turns tasks code now e = record { same = ap (after_all single tasks) e; within = omega arith }

  pub performs_goal : (goal one : Goal) (mark : ℕ) (tasks later : List Task) (code now : Code) → goal ≡ one
      → Performs single (goal_code single one mark) (goal_turns one) tasks code later now → Performs single (goal_code single goal mark) (goal_turns goal) tasks code later now
  performs_goal goal one mark tasks later code now e = subst (λ g. Performs single (goal_code single g mark) (goal_turns g) tasks code later now) (sym e)

  -- the loop goes on
  pub goes_on : (tasks rest later : List Task) (task : Task) (code now whole : Code) → tasks ≡ rest ++ task ∷ [] → Performs single (after single task) (task_turns task) rest code later now
      → after_all single tasks code ≡ whole → after_all single later now ≡ whole
  goes_on tasks rest later task code now whole e step same =
      step.same ∙ sym (after-append rest (task ∷ []) code) ∙ ap (λ l. after_all single l code) (sym e) ∙ same

  pub fewer : (tasks rest later : List Task) (task : Task) (code now : Code) → tasks ≡ rest ++ task ∷ [] → Performs single (after single task) (task_turns task) rest code later now
      → all_turns later < all_turns tasks
  fewer tasks rest later task code now e step = let h = step.within in omega (arith, h, ap all_turns e, turns-append rest (task ∷ []))

  -- a goal

  pub emit_cut : (goal : Node) (mark inner : ℕ) (cut : Bool) (tasks between later : List Task) (code now : Code) → cut ≡ is_once goal && not (quiet single (goal_of goal)) → cut ≡ true
      → inner ≡ suc mark → now ≡ Commit mark ∷ code → between ≡ tasks ++ Put (Mark mark) ∷ [] → later ≡ between ++ Bare goal inner ∷ []
      → Performs single (node_code single goal mark) (node_turns goal) tasks code later now
  emit_cut (node goal outputs category span) mark inner cut tasks between later code now is cuts i n e f =
      let whole = node goal outputs category span in
      performs (node_code single whole mark) (node_turns whole) tasks later (Put (Mark mark) ∷ Bare whole inner ∷ []) code now
      (one_more tasks between later (Put (Mark mark) ∷ []) (Bare whole inner) e f)
      (ap (λ k. Mark mark ∷ goal_code single goal inner k) n ∙ ap (λ m. Mark mark ∷ goal_code single goal m (Commit mark ∷ code)) i
      ∙ ap (λ b. if b then Mark mark ∷ goal_code single goal (suc mark) (Commit mark ∷ code) else goal_code single goal mark code) (sym cuts ∙ is))
      (omega arith)

  pub emit_plain : (goal : Node) (mark : ℕ) (cut : Bool) (tasks later : List Task) (code : Code) → cut ≡ is_once goal && not (quiet single (goal_of goal)) → cut ≡ false
      → later ≡ tasks ++ Bare goal mark ∷ [] → Performs single (node_code single goal mark) (node_turns goal) tasks code later code
  emit_plain (node goal outputs category span) mark cut tasks later code is keeps e =
      let whole = node goal outputs category span in
      performs (node_code single whole mark) (node_turns whole) tasks later (Bare whole mark ∷ []) code code e
      (ap (λ b. if b then Mark mark ∷ goal_code single goal (suc mark) (Commit mark ∷ code) else goal_code single goal mark code) (sym keeps ∙ is))
      (omega arith)

  -- a condition

  condition_is : (condition : Node) (mark : ℕ) (once : Bool) (rest : Code) → once ≡ is_once condition
      → goal_code single (goal_of condition) (suc mark) (leaving once mark ∷ rest) ≡ condition_code single condition mark rest
  condition_is (node goal outputs category span) mark once rest o = ap (λ b. goal_code single goal (suc mark) (leaving b mark ∷ rest)) o

  bare_turns : (goal : Node) → suc (suc (goal_turns (goal_of goal))) ≡ node_turns goal
  bare_turns (node goal outputs category span) = refl

  pub emit_decided : (condition then_part : Node) (mark behind place : ℕ) (once : Bool) (left : Instruction) (tasks between later : List Task) (code now : Code)
      → once ≡ is_once condition → left ≡ leaving once mark → place ≡ length code → now ≡ Jump (length code - behind) ∷ code
      → between ≡ tasks ++ Put (Mark mark) ∷ Branch place ∷ Bare condition (suc mark) ∷ [] → later ≡ between ++ Put left ∷ Emit then_part mark ∷ []
      → Performs single (decided_code single condition then_part mark behind) (suc (suc (suc (node_turns condition + node_turns then_part)))) tasks code later now
  emit_decided condition then_part mark behind place once left tasks between later code now o l p n e f =
      let pushed = Put (Mark mark) ∷ Branch place ∷ Bare condition (suc mark) ∷ Put left ∷ Emit then_part mark ∷ [] in
      let inside = goal_code single (goal_of condition) (suc mark) in
      let then_code = node_code single then_part mark in
      let whole = λ (own : Code). Mark mark ∷ Try (length own - length code) ∷ own in
      let same = ap (λ k. inside (left ∷ then_code k)) n ∙ ap (λ x. inside (x ∷ arm_code single mark behind then_part code)) l
      ∙ condition_is condition mark once (arm_code single mark behind then_part code) o in
      performs (decided_code single condition then_part mark behind) (suc (suc (suc (node_turns condition + node_turns then_part)))) tasks later pushed code now
      (two_more tasks between later (Put (Mark mark) ∷ Branch place ∷ Bare condition (suc mark) ∷ []) (Put left) (Emit then_part mark) e f)
      (ap (λ m. Mark mark ∷ Try (length (inside (left ∷ then_code now)) - m) ∷ inside (left ∷ then_code now)) p ∙ ap whole same)
      (omega (arith, bare_turns condition))
