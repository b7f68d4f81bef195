-- A goal's split tree hangs on what is used behind it only at the variables for which it waits.
use Rattle.std.specs.Prelude.{◌≡◌, ℕ, suc, ◌+◌, Bool, true, false, ◌==◌, ◌&&◌, ◌||◌, not, List, [], ◌∷◌, length, map, Option, Some, if◌then◌else◌, refl}
use Rattle.std.proofs.Common.{◌∙◌, ap}
use Rattle.merc_base.specs.declared.category.Category.{Category}
use Rattle.merc_base.specs.declared.place.Span.{Span}
use Rattle.merc_graded_tree.specs.declared.entries.Running.TheVariants.{Sequential, Parallel}
use Rattle.merc_graded_tree.specs.Nodes.{Node, node, Goal, Basic, Conjunction, Disjunction, Switch, Conditional, Negation, Quantified, Nodes, no_nodes, more_nodes, Arms, no_arms, more_arms}
use Rattle.merc_graded_tree.specs.Variables.{in_node, in_nodes}
use Rattle.merc_rights.specs.Rights.{Right, right_to, those, used_in, unused_in, passed_by, bound_in, unbound_in, wait_at, between, around, ahead_of, users}
use Rattle.merc_par_split.specs.Forks.{forks}
use Rattle.merc_par_split.specs.Split.{may_fail, nothing, moves_in, placed, placed_goal, placed_in_turn, placed_conjuncts, placed_arms}

-- two ways to say what is used behind, which are the same at the variables of rights
abbrev pub Agree : (ℕ → Bool) → (ℕ → Bool) → List Right → Type 0
Agree later other [] = Unit {0}
Agree later other (first ∷ rest) = (later first.variable ≡ other first.variable) × Agree later other rest

agree_if : (b : Bool) (later other : ℕ → Bool) (first : Right) (rest : List Right) → later first.variable ≡ other first.variable → Agree later other rest
    → Agree later other (if b then first ∷ rest else rest)
agree_if true later other first rest h k = (h, k)
agree_if false later other first rest h k = k

agree_those : (such : ℕ → Bool) (later other : ℕ → Bool) (rights : List Right) → Agree later other rights → Agree later other (those such rights)
agree_those such later other [] h = tt
agree_those such later other (first ∷ rest) (h, k) = agree_if (such first.variable) later other first (those such rest) h (agree_those such later other rest k)

agree_or : (such : ℕ → Bool) (later other : ℕ → Bool) (rights : List Right) → Agree later other rights → Agree (λ variable. later variable || such variable) (λ variable. other variable || such variable) rights
agree_or such later other [] h = tt
agree_or such later other (first ∷ rest) (h, k) = (ap (λ b. b || such first.variable) h, agree_or such later other rest k)

passed_same : (later other : ℕ → Bool) (goal : Node) (rights : List Right) → Agree later other rights → passed_by later goal rights ≡ passed_by other goal rights
passed_same later other goal [] h = refl
passed_same later other goal (first ∷ rest) (h, k) =
    ap (λ b. if b && not (in_node goal first.variable) then first ∷ passed_by later goal rest else passed_by later goal rest) h
    ∙ ap (λ l. if other first.variable && not (in_node goal first.variable) then first ∷ l else l) (passed_same later other goal rest k)

moving_same : (later other : ℕ → Bool) (goals : Nodes) (rights : List Right) → Agree later other rights → those (moves_in later goals) rights ≡ those (moves_in other goals) rights
moving_same later other goals [] h = refl
moving_same later other goals (first ∷ rest) (h, k) =
    ap (λ b. if not b && (length (users 1 goals first.variable) == 1) then first ∷ those (moves_in later goals) rest else those (moves_in later goals) rest) h
    ∙ ap (λ l. if moves_in other goals first.variable then first ∷ l else l) (moving_same later other goals rest k)

staying_same : (later other : ℕ → Bool) (goals : Nodes) (rights : List Right) → Agree later other rights
    → those (λ variable. not (moves_in later goals variable)) rights ≡ those (λ variable. not (moves_in other goals variable)) rights
staying_same later other goals [] h = refl
staying_same later other goals (first ∷ rest) (h, k) =
    ap (λ b. if not (not b && (length (users 1 goals first.variable) == 1)) then first ∷ those (λ variable. not (moves_in later goals variable)) rest
    else those (λ variable. not (moves_in later goals variable)) rest) h
    ∙ ap (λ l. if not (moves_in other goals first.variable) then first ∷ l else l) (staying_same later other goals rest k)

-- an arm, and a part of a conditional, with the waits at its end
arm_agrees : (body : Node) (site : ℕ) (later other : ℕ → Bool) (waits signals : List Right) → Agree later other waits
    → placed site later (used_in body waits) (bound_in body signals) body ≡ placed site other (used_in body waits) (bound_in body signals) body
    → ahead_of (placed site later (used_in body waits) (bound_in body signals) body) (passed_by later body waits)
    ≡ ahead_of (placed site other (used_in body waits) (bound_in body signals) body) (passed_by other body waits)
arm_agrees body site later other waits signals h same =
    ap (λ n. ahead_of n (passed_by later body waits)) same
    ∙ ap (λ l. ahead_of (placed site other (used_in body waits) (bound_in body signals) body) l) (passed_same later other body waits h)

mutual
  pub placed_agrees : (n : Node) (site : ℕ) (later other : ℕ → Bool) (waits signals : List Right) → Agree later other waits
      → placed site later waits signals n ≡ placed site other waits signals n
  placed_agrees (node g outputs category span) site later other waits signals h =
      ap (λ one. if may_fail category then around [] signals one else placed_goal site later waits signals g outputs category span) (goal_agrees g site later other waits [] outputs category span h)
      ∙ ap (λ two. if may_fail category then around [] signals (placed_goal site other waits [] g outputs category span) else two) (goal_agrees g site later other waits signals outputs category span h)

  goal_agrees : (g : Goal) (site : ℕ) (later other : ℕ → Bool) (waits signals : List Right) (outputs : List ℕ) (category : Option Category) (span : Span) → Agree later other waits
      → placed_goal site later waits signals g outputs category span ≡ placed_goal site other waits signals g outputs category span
  goal_agrees (Basic g) site later other waits signals outputs category span h = refl
  goal_agrees (Conjunction Sequential goals) site later other waits signals outputs category span h =
      ap (λ all. node (Conjunction Sequential all) outputs category span) (in_turn_agrees goals site later other waits signals h)
  goal_agrees (Conjunction (Parallel unknown) goals) site later other waits signals outputs category span h =
      let behind = map (λ variable. wait_at span (right_to 0 variable)) outputs in
      let fork : List Right → Node = λ moved. node (Conjunction (Parallel (Some (record { number = site }))) (placed_conjuncts (suc site) 1 outputs moved signals [] goals)) outputs category span in
      ap (λ staying. between staying (fork (those (moves_in later goals) waits)) behind) (staying_same later other goals waits h)
      ∙ ap (λ moved. between (those (λ variable. not (moves_in other goals variable)) waits) (fork moved) behind) (moving_same later other goals waits h)
  goal_agrees (Disjunction goals) site later other waits signals outputs category span h = refl
  goal_agrees (Switch variable arms) site later other waits signals outputs category span h =
      let is_other : ℕ → Bool = λ x. not (x == variable) in
      ap (λ all. around (those (λ x. x == variable) waits) [] (node (Switch variable all) outputs category span))
      (arms_agree arms site later other (those is_other waits) signals (agree_those is_other later other waits h))
  goal_agrees (Conditional condition then_part else_part) site later other waits signals outputs category span h =
      let inner = unused_in condition waits in
      let k = agree_those (λ variable. not (in_node condition variable)) later other waits h in
      let first = placed site nothing [] [] condition in
      let one = arm_agrees then_part (site + forks condition) later other inner signals k
      (placed_agrees then_part (site + forks condition) later other (used_in then_part inner) (bound_in then_part signals) (agree_those (in_node then_part) later other inner k)) in
      let two = arm_agrees else_part (site + forks condition + forks then_part) later other inner signals k
      (placed_agrees else_part (site + forks condition + forks then_part) later other (used_in else_part inner) (bound_in else_part signals)
      (agree_those (in_node else_part) later other inner k)) in
      ap (λ n. around (used_in condition waits) [] (node (Conditional first n
      (ahead_of (placed (site + forks condition + forks then_part) later (used_in else_part inner) (bound_in else_part signals) else_part) (passed_by later else_part inner))) outputs category span)) one
      ∙ ap (λ n. around (used_in condition waits) [] (node (Conditional first
      (ahead_of (placed (site + forks condition) other (used_in then_part inner) (bound_in then_part signals) then_part) (passed_by other then_part inner)) n) outputs category span)) two
  goal_agrees (Negation goal) site later other waits signals outputs category span h = refl
  goal_agrees (Quantified own goal) site later other waits signals outputs category span h =
      ap (λ n. node (Quantified own n) outputs category span) (placed_agrees goal site later other waits signals h)

  in_turn_agrees : (goals : Nodes) (site : ℕ) (later other : ℕ → Bool) (waits signals : List Right) → Agree later other waits
      → placed_in_turn site later waits signals goals ≡ placed_in_turn site other waits signals goals
  in_turn_agrees no_nodes site later other waits signals h = refl
  in_turn_agrees (more_nodes first rest) site later other waits signals h =
      let here : ℕ → Bool = λ variable. later variable || in_nodes rest variable in
      let there : ℕ → Bool = λ variable. other variable || in_nodes rest variable in
      let used = agree_or (in_nodes rest) later other (used_in first waits) (agree_those (in_node first) later other waits h) in
      ap (λ n. more_nodes n (placed_in_turn (site + forks first) later (unused_in first waits) (unbound_in first signals) rest))
      (placed_agrees first site here there (used_in first waits) (bound_in first signals) used)
      ∙ ap (λ l. more_nodes (placed site there (used_in first waits) (bound_in first signals) first) l)
      (in_turn_agrees rest (site + forks first) later other (unused_in first waits) (unbound_in first signals) (agree_those (λ variable. not (in_node first variable)) later other waits h))

  arms_agree : (arms : Arms) (site : ℕ) (later other : ℕ → Bool) (waits signals : List Right) → Agree later other waits
      → placed_arms site later waits signals arms ≡ placed_arms site other waits signals arms
  arms_agree no_arms site later other waits signals h = refl
  arms_agree (more_arms symbol body rest) site later other waits signals h =
      ap (λ n. more_arms symbol n (placed_arms (site + forks body) later waits signals rest))
      (arm_agrees body site later other waits signals h
      (placed_agrees body site later other (used_in body waits) (bound_in body signals) (agree_those (in_node body) later other waits h)))
      ∙ ap (λ a. more_arms symbol (ahead_of (placed site other (used_in body waits) (bound_in body signals) body) (passed_by other body waits)) a)
      (arms_agree rest (site + forks body) later other waits signals h)
