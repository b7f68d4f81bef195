-- Goals one after the other, disjuncts and negations, taken from the last to the first.
use Rattle.std.specs.Prelude.{◌≡◌, ◌+◌, ◌-◌, ℕ, suc, Bool, false, if◌then◌else◌, List, [], ◌∷◌, ◌++◌, length, Option, Some, None, refl}
use Rattle.std.proofs.Common.{◌∙◌, ap, sym, subst, arith}
use Rattle.std.proofs.lemmas.List.{append_assoc, length-append}
use Rattle.merc_graded_tree.specs.declared.basic.Procedure.{Procedure}
use Rattle.merc_graded_tree.specs.declared.basic.Site.{Site}
use Rattle.merc_graded_tree.specs.declared.entries.Running.{Running}
use Rattle.merc_graded_tree.specs.declared.entries.Running.TheVariants.{Sequential, Parallel}
use Rattle.merc_graded_tree.specs.Nodes.{Node, node, Conjunction, Disjunction, Conditional, Negation, Quantified, goal_of, nodes_of}
use Rattle.merc_code.specs.declared.instruction.Instruction.TheVariants.{Jump, Try, Mark, Commit, Fail}
use Rattle.merc_course.specs.Alone.{ForksNothing}
use Rattle.merc_code.specs.Steps.{Code}
use Rattle.merc_gen.specs.Generated.{are_none, goal_code, node_code, condition_code, negated_code, all_code, any_code}
use Rattle.merc_gen.specs.Tasks.{Performs, arm_code, disjunct_code, disjuncts_code, decided_code, in_turn_code}
use Rattle.merc_gen.specs.Turns.{node_turns, goal_turns, list_turns, joined_turns}
use Rattle.merc_gen.specs.declared.tasks.Task.{Task}
use Rattle.merc_gen.specs.declared.tasks.Task.TheVariants.{Emit, Bare, Put, Branch, InTurn, Choose, Decide}
use Rattle.merc_gen.proofs.Fronts.{front-then, node-front, condition-front, negated-front, disjuncts-front}
use Rattle.merc_gen.proofs.Performing.{two_more, performs, skipped_is}
use Rattle.merc_gen.proofs.Quieting.{turns-joined}
use Rattle.merc_gen.proofs.Quieting as quieting

some_left : (goals : List Node) (last : Node) → are_none (nodes_of (goals ++ last ∷ [])) ≡ false
some_left [] last = refl
some_left (first ∷ rest) last = refl

pub turns-last : (goals left : List Node) (last : Node) → goals ≡ left ++ last ∷ [] → list_turns goals ≡ suc (suc (suc (node_turns last + list_turns left)))
turns-last goals left last e = omega (arith, ap list_turns e, quieting.turns-append left (last ∷ []))

-- goals that are not forked

pub alone : (site : Option Site) → site ≡ None → ForksNothing (Parallel site)
alone site e = subst (λ s. ForksNothing (Parallel s)) (sym e) tt

pub in_order : (running : Running) → running ≡ Sequential → ForksNothing running
in_order running e = subst ForksNothing (sym e) tt

module _ (single : Procedure → Bool) where
  -- one after the other

  in_turn_is : (goals : List Node) (mark : ℕ) (code : Code) → in_turn_code single mark goals code ≡ all_code single (nodes_of goals) mark code
  in_turn_is [] mark code = refl
  in_turn_is (first ∷ rest) mark code = ap (node_code single first mark) (in_turn_is rest mark code)

  in_turn-last : (goals : List Node) (last : Node) (mark : ℕ) (code : Code) → in_turn_code single mark (goals ++ last ∷ []) code ≡ in_turn_code single mark goals (node_code single last mark code)
  in_turn-last [] last mark code = refl
  in_turn-last (first ∷ rest) last mark code = ap (node_code single first mark) (in_turn-last rest last mark code)

  in_turn_start : (goals : List Node) (mark : ℕ) (tasks later : List Task) (code : Code) → later ≡ tasks ++ InTurn goals mark ∷ []
      → Performs single (all_code single (nodes_of goals) mark) (suc (joined_turns (nodes_of goals))) tasks code later code
  in_turn_start goals mark tasks later code e =
      performs single (all_code single (nodes_of goals) mark) (suc (joined_turns (nodes_of goals))) tasks later (InTurn goals mark ∷ []) code code e
      (in_turn_is goals mark code) (omega (arith, turns-joined goals))

  -- goals that are not forked
  pub conjuncts_start : (running : Running) (goals : List Node) (mark : ℕ) (tasks later : List Task) (code : Code) → ForksNothing running → later ≡ tasks ++ InTurn goals mark ∷ []
      → Performs single (goal_code single (Conjunction running (nodes_of goals)) mark) (goal_turns (Conjunction running (nodes_of goals))) tasks code later code
  conjuncts_start Sequential goals mark tasks later code h e = in_turn_start goals mark tasks later code e
  conjuncts_start (Parallel None) goals mark tasks later code h e = in_turn_start goals mark tasks later code e
  conjuncts_start (Parallel (Some site)) goals mark tasks later code h e = absurd h

  pub in_turn_step : (goals left : List Node) (last : Node) (mark : ℕ) (tasks later : List Task) (code : Code) → goals ≡ left ++ last ∷ []
      → later ≡ tasks ++ InTurn left mark ∷ Emit last mark ∷ [] → Performs single (in_turn_code single mark goals) (list_turns goals) tasks code later code
  in_turn_step goals left last mark tasks later code g e =
      performs single (in_turn_code single mark goals) (list_turns goals) tasks later (InTurn left mark ∷ Emit last mark ∷ []) code code e
      (sym (in_turn-last left last mark code) ∙ ap (λ l. in_turn_code single mark l code) (sym g)) (omega (arith, turns-last goals left last g))

  -- disjuncts

  disjuncts-last : (goals : List Node) (last : Node) (mark behind : ℕ) (code : Code)
      → disjuncts_code single mark behind (goals ++ last ∷ []) code ≡ disjuncts_code single mark behind goals (disjunct_code single mark behind last code)
  disjuncts-last [] last mark behind code = refl
  disjuncts-last (first ∷ rest) last mark behind code = ap (disjunct_code single mark behind first) (disjuncts-last rest last mark behind code)

  -- a disjunct before others, of which its jump and its choice point are told
  disjunct_is : (goal : Node) (mark : ℕ) (front code others : Code) → others ≡ front ++ code
      → Try (suc (length (node_code single goal mark []))) ∷ node_code single goal mark (Jump (length front) ∷ others) ≡ disjunct_code single mark (length code) goal others
  disjunct_is goal mark front code others e =
      let own = node_code single goal mark (Jump (length front) ∷ others) in
      let jump = Jump (length front) ∷ [] in
      let parts : own ≡ (node_code single goal mark [] ++ jump) ++ others =
      node-front single goal mark (Jump (length front) ∷ others) ∙ sym (append_assoc (node_code single goal mark []) jump others) in
      let skip : suc (length (node_code single goal mark [])) ≡ length own - length others =
      omega (arith, length-append (node_code single goal mark []) jump, skipped_is own (node_code single goal mark [] ++ jump) others parts) in
      ap (λ n. Try n ∷ own) skip
      ∙ ap (λ n. let k = node_code single goal mark (Jump n ∷ others) in Try (length k - length others) ∷ k) (sym (skipped_is others front code e))

  any_is : (goals : List Node) (last : Node) (mark : ℕ) (code : Code)
      → any_code single (nodes_of (goals ++ last ∷ [])) mark code ≡ disjuncts_code single mark (length code) goals (node_code single last mark code)
  any_is [] last mark code = refl
  any_is (first ∷ rest) last mark code =
      let others = nodes_of (rest ++ last ∷ []) in
      let own = node_code single first mark in
      ap (λ b. if b then own code else Try (suc (length (own []))) ∷ own (Jump (length (any_code single others mark [])) ∷ any_code single others mark code)) (some_left rest last)
      ∙ disjunct_is first mark (any_code single others mark []) code (any_code single others mark code) (disjuncts-front single others mark code)
      ∙ ap (disjunct_code single mark (length code) first) (any_is rest last mark code)

  pub disjuncts_start : (goals left : List Node) (last : Node) (mark place : ℕ) (tasks later : List Task) (code : Code) → goals ≡ left ++ last ∷ [] → place ≡ length code
      → later ≡ tasks ++ Choose left mark place ∷ Emit last mark ∷ []
      → Performs single (goal_code single (Disjunction (nodes_of goals)) mark) (joined_turns (nodes_of goals)) tasks code later code
  disjuncts_start goals left last mark place tasks later code g p e =
      performs single (any_code single (nodes_of goals) mark) (joined_turns (nodes_of goals)) tasks later (Choose left mark place ∷ Emit last mark ∷ []) code code e
      (ap (λ n. disjuncts_code single mark n left (node_code single last mark code)) p ∙ sym (any_is left last mark code) ∙ ap (λ l. any_code single (nodes_of l) mark code) (sym g))
      (omega (arith, turns-joined goals, turns-last goals left last g))

  pub disjunct_step : (goals left : List Node) (last : Node) (mark behind place : ℕ) (tasks between later : List Task) (code now : Code) → goals ≡ left ++ last ∷ [] → place ≡ length code
      → between ≡ tasks ++ Choose left mark behind ∷ [] → later ≡ between ++ Branch place ∷ Emit last mark ∷ [] → now ≡ Jump (length code - behind) ∷ code
      → Performs single (disjuncts_code single mark behind goals) (list_turns goals) tasks code later now
  disjunct_step goals left last mark behind place tasks between later code now g p e f n =
      let own = node_code single last mark in
      performs single (disjuncts_code single mark behind goals) (list_turns goals) tasks later (Choose left mark behind ∷ Branch place ∷ Emit last mark ∷ []) code now
      (two_more tasks between later (Choose left mark behind ∷ []) (Branch place) (Emit last mark) e f)
      (ap (λ k. disjuncts_code single mark behind left (Try (length (own k) - place) ∷ own k)) n
      ∙ ap (λ m. disjuncts_code single mark behind left (Try (length (arm_code single mark behind last code) - m) ∷ arm_code single mark behind last code)) p
      ∙ sym (disjuncts-last left last mark behind code) ∙ ap (λ l. disjuncts_code single mark behind l code) (sym g))
      (omega (arith, turns-last goals left last g))

  -- a conditional

  decided_is : (condition then_part : Node) (mark : ℕ) (front code others : Code) → others ≡ front ++ code
      → decided_code single condition then_part mark (length code) others
      ≡ Mark mark ∷ Try (length (condition_code single condition mark (node_code single then_part mark (Jump (length front) ∷ []))))
      ∷ condition_code single condition mark (node_code single then_part mark (Jump (length front) ∷ others))
  decided_is condition then_part mark front code others e =
      let inside = condition_code single condition mark in
      let then_code = node_code single then_part mark in
      let chosen = λ (rest : Code). inside (then_code (Jump (length front) ∷ rest)) in
      let parts : chosen others ≡ chosen [] ++ others = front-then inside (λ r. then_code (Jump (length front) ∷ r)) (condition-front single condition mark)
      (front-then then_code (λ r. Jump (length front) ∷ r) (node-front single then_part mark) (λ r. refl)) others in
      ap (λ n. let own = inside (then_code (Jump n ∷ others)) in Mark mark ∷ Try (length own - length others) ∷ own) (skipped_is others front code e)
      ∙ ap (λ n. Mark mark ∷ Try n ∷ chosen others) (skipped_is (chosen others) (chosen []) others parts)

  pub conditional_start : (condition then_part else_part : Node) (mark place : ℕ) (tasks later : List Task) (code : Code) → place ≡ length code
      → later ≡ tasks ++ Decide condition then_part mark place ∷ Emit else_part mark ∷ []
      → Performs single (goal_code single (Conditional condition then_part else_part) mark) (goal_turns (Conditional condition then_part else_part)) tasks code later code
  conditional_start condition then_part else_part mark place tasks later code p e =
      let others = node_code single else_part mark code in
      performs single (goal_code single (Conditional condition then_part else_part) mark) (goal_turns (Conditional condition then_part else_part)) tasks later
      (Decide condition then_part mark place ∷ Emit else_part mark ∷ []) code code e
      (ap (λ n. decided_code single condition then_part mark n others) p
      ∙ decided_is condition then_part mark (node_code single else_part mark []) code others (node-front single else_part mark code))
      (omega arith)

  -- a negation

  negated_is : (goal : Node) (mark : ℕ) (code : Code) → goal_code single (goal_of goal) (suc mark) (Commit mark ∷ Fail ∷ code) ≡ negated_code single goal mark code
  negated_is (node goal outputs category span) mark code = refl

  bare_turns : (goal : Node) → suc (suc (goal_turns (goal_of goal))) ≡ node_turns goal
  bare_turns (node goal outputs category span) = refl

  pub emit_negated : (goal : Node) (mark place : ℕ) (tasks later : List Task) (code between now : Code) → place ≡ length code
      → later ≡ tasks ++ Put (Mark mark) ∷ Branch place ∷ Bare goal (suc mark) ∷ [] → between ≡ Fail ∷ code → now ≡ Commit mark ∷ between
      → Performs single (goal_code single (Negation goal) mark) (suc (node_turns goal)) tasks code later now
  emit_negated goal mark place tasks later code between now p e b n =
      let whole = negated_code single goal mark code in
      let bare = goal_code single (goal_of goal) (suc mark) in
      performs single (goal_code single (Negation goal) mark) (suc (node_turns goal)) tasks later (Put (Mark mark) ∷ Branch place ∷ Bare goal (suc mark) ∷ []) code now e
      (ap (λ own. Mark mark ∷ Try (length own - place) ∷ own) (ap bare (n ∙ ap (λ k. Commit mark ∷ k) b) ∙ negated_is goal mark code)
      ∙ ap (λ m. Mark mark ∷ Try (length whole - m) ∷ whole) p
      ∙ ap (λ m. Mark mark ∷ Try m ∷ whole) (skipped_is whole (negated_code single goal mark []) code (negated-front single goal mark code)))
      (omega (arith, bare_turns goal))

  pub quantified_start : (own : List ℕ) (goal : Node) (mark : ℕ) (tasks later : List Task) (code : Code) → later ≡ tasks ++ Emit goal mark ∷ []
      → Performs single (goal_code single (Quantified own goal) mark) (goal_turns (Quantified own goal)) tasks code later code
  quantified_start own goal mark tasks later code e =
      performs single (node_code single goal mark) (goal_turns (Quantified own goal)) tasks later (Emit goal mark ∷ []) code code e refl (omega arith)
