-- The arms of a switch, taken from the last to the first.
use Rattle.std.specs.Prelude.{◌≡◌, ◌≤◌, ◌+◌, ◌-◌, ℕ, suc, Bool, false, if◌then◌else◌, List, [], ◌∷◌, ◌++◌, length, reverse, refl}
use Rattle.std.proofs.Common.{◌∙◌, ap, sym, arith}
use Rattle.std.proofs.lemmas.List.{append_assoc, length-append}
use Rattle.merc_goal_tree.specs.declared.goal.Symbol.{Symbol}
use Rattle.merc_graded_tree.specs.declared.basic.Procedure.{Procedure}
use Rattle.merc_graded_tree.specs.Nodes.{Node, Switch}
use Rattle.merc_graded_tree.specs.Roots.{arms_of}
use Rattle.merc_code.specs.declared.instruction.Instruction.TheVariants.{Jump, Switch as SwitchTo}
use Rattle.merc_code.specs.Steps.{Code}
use Rattle.merc_gen.specs.Generated.{are_no_arms, goal_code, node_code, arms_code, targets}
use Rattle.merc_gen.specs.Tasks.{Performs, targets_at, arm_code, arms_before, starts_before, switched_code}
use Rattle.merc_gen.specs.Turns.{list_turns, arms_turns}
use Rattle.merc_gen.specs.declared.tasks.Arms.{Arms as LeftArms}
use Rattle.merc_gen.specs.declared.tasks.Task.{Task}
use Rattle.merc_gen.specs.declared.tasks.Task.TheVariants.{Emit, Switch as SwitchTask}
use Rattle.merc_gen.proofs.Fronts.{node-front, arms-front}
use Rattle.merc_graded_tree.proofs.JoinLaws.{arms_none}
use Rattle.merc_graded_tree.proofs.Reversed.{reverse-last}
use Rattle.merc_gen.proofs.Lists.{length-last, bodies_all}
use Rattle.merc_gen.proofs.Performing.{performs, done, skipped_is}
use Rattle.merc_gen.proofs.Parting.{turns-last}
use Rattle.merc_gen.proofs.Quieting.{turns-arms}

some_arms : (symbols : List Symbol) (goals : List Node) (last : Node) → suc (length goals) ≤ length symbols → are_no_arms (arms_of symbols (goals ++ last ∷ [])) ≡ false
some_arms [] goals last h = absurd (omega (arith, h))
some_arms (symbol ∷ symbols) [] last h = refl
some_arms (symbol ∷ symbols) (first ∷ rest) last h = refl

pub turns-some_arms : (symbols : List Symbol) (goals : List Node) → length goals ≤ length symbols → arms_turns (arms_of symbols goals) ≡ list_turns goals
turns-some_arms symbols goals h = turns-arms (arms_of symbols goals) ∙ ap list_turns (bodies_all symbols goals h)

module _ (single : Procedure → Bool) where
  arms-last : (goals : List Node) (last : Node) (mark behind : ℕ) (code : Code)
      → arms_before single mark behind (goals ++ last ∷ []) code ≡ arms_before single mark behind goals (arm_code single mark behind last code)
  arms-last [] last mark behind code = refl
  arms-last (first ∷ rest) last mark behind code = ap (arm_code single mark behind first) (arms-last rest last mark behind code)

  starts-last : (goals : List Node) (last : Node) (mark behind : ℕ) (code : Code)
      → starts_before single mark behind (goals ++ last ∷ []) code
      ≡ starts_before single mark behind goals (arm_code single mark behind last code) ++ length (arm_code single mark behind last code) ∷ []
  starts-last [] last mark behind code = refl
  starts-last (first ∷ rest) last mark behind code =
      ap (λ l. length (arm_code single mark behind first (arms_before single mark behind (rest ++ last ∷ []) code)) ∷ l) (starts-last rest last mark behind code)
      ∙ ap (λ k. length (arm_code single mark behind first k) ∷ (starts_before single mark behind rest (arm_code single mark behind last code) ++ length (arm_code single mark behind last code) ∷ []))
      (arms-last rest last mark behind code)

  arms_is : (symbols : List Symbol) (goals : List Node) (last : Node) (mark : ℕ) (code : Code) → suc (length goals) ≤ length symbols
      → arms_code single (arms_of symbols (goals ++ last ∷ [])) mark code ≡ arms_before single mark (length code) goals (node_code single last mark code)
  arms_is [] goals last mark code h = absurd (omega (arith, h))
  arms_is (symbol ∷ []) [] last mark code h = refl
  arms_is (symbol ∷ second ∷ symbols) [] last mark code h = refl
  arms_is (symbol ∷ symbols) (first ∷ rest) last mark code h =
      let k : suc (length rest) ≤ length symbols = omega (arith, h) in
      let others = arms_of symbols (rest ++ last ∷ []) in
      let own = node_code single first mark in
      ap (λ b. if b then own code else own (Jump (length (arms_code single others mark [])) ∷ arms_code single others mark code)) (some_arms symbols rest last k)
      ∙ ap (λ n. own (Jump n ∷ arms_code single others mark code))
      (sym (skipped_is (arms_code single others mark code) (arms_code single others mark []) code (arms-front single others mark code)))
      ∙ ap (arm_code single mark (length code) first) (arms_is symbols rest last mark code k)

  -- where the first of arms begins, and where those behind it
  arm_length : (first : Node) (mark behind : ℕ) (others : Code) → length (arm_code single mark behind first others) ≡ suc (length (node_code single first mark [])) + length others
  arm_length first mark behind others =
      let jump = Jump (length others - behind) ∷ others in
      omega (arith, ap length (node-front single first mark jump), length-append (node_code single first mark []) jump)

  targets_is : (symbols : List Symbol) (goals : List Node) (last : Node) (mark behind skipped first : ℕ) (code : Code) → suc (length goals) ≤ length symbols
      → first ≡ skipped + length (arms_before single mark behind goals code)
      → targets single (arms_of symbols (goals ++ last ∷ [])) mark skipped ≡ targets_at symbols (starts_before single mark behind goals code ++ length code ∷ []) first
  targets_is [] goals last mark behind skipped first code h e = absurd (omega (arith, h))
  targets_is (symbol ∷ []) [] last mark behind skipped first code h e =
      let skip : skipped ≡ first - length code = omega (arith, e) in ap (λ n. record { symbol = symbol; skipped = n } ∷ []) skip
  targets_is (symbol ∷ second ∷ symbols) [] last mark behind skipped first code h e =
      let skip : skipped ≡ first - length code = omega (arith, e) in ap (λ n. record { symbol = symbol; skipped = n } ∷ []) skip
  targets_is (symbol ∷ symbols) (one ∷ rest) last mark behind skipped first code h e =
      let k : suc (length rest) ≤ length symbols = omega (arith, h) in
      let others = arms_before single mark behind rest code in
      let next = skipped + suc (length (node_code single one mark [])) in
      let long = arm_length one mark behind others in
      let skip : skipped ≡ first - length (arm_code single mark behind one others) = omega (arith, e) in
      let same : first ≡ next + length others = omega (arith, e, long) in
      ap (λ n. record { symbol = symbol; skipped = n } ∷ targets single (arms_of symbols (rest ++ last ∷ [])) mark next) skip
      ∙ ap (λ l. record { symbol = symbol; skipped = first - length (arm_code single mark behind one others) } ∷ l) (targets_is symbols rest last mark behind next first code k same)

  -- a switch whose last arm's code is there
  pub switch_is : (variable : ℕ) (symbols : List Symbol) (goals : List Node) (last : Node) (mark : ℕ) (code : Code) → suc (length goals) ≤ length symbols
      → (let own = node_code single last mark code in let whole = arms_before single mark (length code) goals own in
      SwitchTo variable (targets_at symbols (starts_before single mark (length code) goals own ++ length own ∷ []) (length whole)) ∷ whole)
      ≡ goal_code single (Switch variable (arms_of symbols (goals ++ last ∷ []))) mark code
  switch_is variable symbols goals last mark code h =
      let own = node_code single last mark code in
      let whole = arms_before single mark (length code) goals own in
      ap (λ l. SwitchTo variable l ∷ whole) (sym (targets_is symbols goals last mark (length code) 0 (length whole) own h (omega arith)))
      ∙ ap (λ k. SwitchTo variable (targets single (arms_of symbols (goals ++ last ∷ [])) mark 0) ∷ k) (sym (arms_is symbols goals last mark code h))

  -- the code of a switch, of whose arms some are left
  abbrev switched : ℕ → List Symbol → List Node → ℕ → ℕ → List ℕ → Code → Code
  switched variable symbols left mark behind starts others =
      let whole = arms_before single mark behind left others in
      SwitchTo variable (targets_at symbols (starts_before single mark behind left others ++ length others ∷ reverse starts) (length whole)) ∷ whole

  known_arms : (arms : LeftArms) (variable : ℕ) (symbols : List Symbol) (left : List Node) (mark behind : ℕ) (starts : List ℕ) (others : Code) → arms.variable ≡ variable
      → arms.symbols.now ≡ symbols → arms.left ≡ left → arms.mark ≡ mark → arms.behind ≡ behind → arms.starts.items ≡ starts
      → switched_code single arms others ≡ switched variable symbols left mark behind starts others
  known_arms arms variable symbols left mark behind starts others v s l m b t =
      ap (λ x. switched x arms.symbols.now arms.left arms.mark arms.behind arms.starts.items others) v
      ∙ ap (λ x. switched variable x arms.left arms.mark arms.behind arms.starts.items others) s
      ∙ ap (λ x. switched variable symbols x arms.mark arms.behind arms.starts.items others) l
      ∙ ap (λ x. switched variable symbols left x arms.behind arms.starts.items others) m
      ∙ ap (λ x. switched variable symbols left mark x arms.starts.items others) b
      ∙ ap (λ x. switched variable symbols left mark behind x others) t

  arm_is : (variable : ℕ) (symbols : List Symbol) (left : List Node) (last : Node) (mark behind : ℕ) (starts : List ℕ) (code : Code)
      → switched variable symbols left mark behind (starts ++ length code ∷ []) (arm_code single mark behind last code) ≡ switched variable symbols (left ++ last ∷ []) mark behind starts code
  arm_is variable symbols left last mark behind starts code =
      let own = arm_code single mark behind last code in
      let whole = arms_before single mark behind left own in
      let before = starts_before single mark behind left own in
      ap (λ r. SwitchTo variable (targets_at symbols (before ++ length own ∷ r) (length whole)) ∷ whole) (reverse-last starts (length code))
      ∙ ap (λ l. SwitchTo variable (targets_at symbols l (length whole)) ∷ whole)
      (sym (append_assoc before (length own ∷ []) (length code ∷ reverse starts)) ∙ ap (λ l. l ++ length code ∷ reverse starts) (sym (starts-last left last mark behind code)))
      ∙ ap (λ w. SwitchTo variable (targets_at symbols (starts_before single mark behind (left ++ last ∷ []) code ++ length code ∷ reverse starts) (length w)) ∷ w)
      (sym (arms-last left last mark behind code))

  pub switch_start : (variable : ℕ) (symbols : List Symbol) (arms kept left : List Node) (last : Node) (mark : ℕ) (started : LeftArms) (tasks later : List Task) (code : Code)
      → length kept ≤ length symbols → arms_of symbols kept ≡ arms_of symbols arms → kept ≡ left ++ last ∷ [] → started.variable ≡ variable → started.symbols.now ≡ symbols
      → started.left ≡ left → started.mark ≡ mark → started.behind ≡ length code → started.starts.items ≡ []
      → later ≡ tasks ++ SwitchTask started ∷ Emit last mark ∷ []
      → Performs single (goal_code single (Switch variable (arms_of symbols arms)) mark) (arms_turns (arms_of symbols arms)) tasks code later code
  switch_start variable symbols arms kept left last mark started tasks later code h same k v s l m b t e =
      let own = node_code single last mark code in
      let room : suc (length left) ≤ length symbols = omega (arith, h, ap length k, length-last left last) in
      performs single (goal_code single (Switch variable (arms_of symbols arms)) mark) (arms_turns (arms_of symbols arms)) tasks later (SwitchTask started ∷ Emit last mark ∷ []) code code e
      (known_arms started variable symbols left mark (length code) [] own v s l m b t ∙ switch_is variable symbols left last mark code room
      ∙ ap (λ g. goal_code single (Switch variable g) mark code) (ap (arms_of symbols) (sym k) ∙ same))
      (omega (arith, ap list_turns l, turns-last kept left last k, turns-some_arms symbols kept h, ap arms_turns same))

  pub switch_none : (variable : ℕ) (symbols : List Symbol) (arms kept : List Node) (mark : ℕ) (tasks : List Task) (code now : Code) → arms_of symbols kept ≡ arms_of symbols arms → kept ≡ []
      → now ≡ SwitchTo variable [] ∷ code
      → Performs single (goal_code single (Switch variable (arms_of symbols arms)) mark) (arms_turns (arms_of symbols arms)) tasks code tasks now
  switch_none variable symbols arms kept mark tasks code now same k n =
      done single (goal_code single (Switch variable (arms_of symbols arms)) mark) (arms_turns (arms_of symbols arms)) tasks code now
      (n ∙ ap (λ g. goal_code single (Switch variable g) mark code) (sym (arms_none symbols) ∙ ap (arms_of symbols) (sym k) ∙ same))

  pub arm_step : (arms started : LeftArms) (left : List Node) (last : Node) (start : ℕ) (tasks later : List Task) (code now : Code) → arms.left ≡ left ++ last ∷ [] → start ≡ length code
      → started.variable ≡ arms.variable → started.symbols.now ≡ arms.symbols.now → started.left ≡ left → started.mark ≡ arms.mark → started.behind ≡ arms.behind
      → started.starts.items ≡ arms.starts.items ++ start ∷ [] → now ≡ Jump (length code - arms.behind) ∷ code
      → later ≡ tasks ++ SwitchTask started ∷ Emit last arms.mark ∷ [] → Performs single (switched_code single arms) (list_turns arms.left) tasks code later now
  arm_step arms started left last start tasks later code now k p v s l m b t n e =
      let own = node_code single last arms.mark in
      performs single (switched_code single arms) (list_turns arms.left) tasks later (SwitchTask started ∷ Emit last arms.mark ∷ []) code now e
      (known_arms started arms.variable arms.symbols.now left arms.mark arms.behind (arms.starts.items ++ length code ∷ []) (own now) v s l m b (t ∙ ap (λ x. arms.starts.items ++ x ∷ []) p)
      ∙ ap (λ x. switched arms.variable arms.symbols.now left arms.mark arms.behind (arms.starts.items ++ length code ∷ []) (own x)) n
      ∙ arm_is arms.variable arms.symbols.now left last arms.mark arms.behind arms.starts.items code
      ∙ ap (λ x. switched arms.variable arms.symbols.now x arms.mark arms.behind arms.starts.items code) (sym k))
      (omega (arith, ap list_turns l, turns-last arms.left left last k))
