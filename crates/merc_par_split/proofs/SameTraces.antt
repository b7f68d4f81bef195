-- The split tree has the graded tree's trace.
use Rattle.std.specs.Prelude.{◌≡◌, ℕ, suc, zero, ◌+◌, Bool, true, false, ◌==◌, ◌||◌, not, List, [], ◌∷◌, ◌++◌, map, Option, Some, None, if◌then◌else◌, refl}
use Rattle.std.specs.Option.{option_map}
use Rattle.std.specs.List.{flat_map}
use Rattle.std.proofs.Common.{◌∙◌, ap}
use Rattle.std.proofs.Math.Path.{fun_ext}
use Rattle.merc_base.specs.declared.category.Category.{Category}
use Rattle.merc_base.specs.declared.place.Span.{Span}
use Rattle.merc_value.specs.Value.{Value, Values}
use Rattle.merc_graded_tree.specs.declared.basic.BasicGoal.{BasicGoal}
use Rattle.merc_graded_tree.specs.declared.basic.BasicGoal.TheVariants.{True, Fail, Assign, Test, Build, Split, Arithmetic, Compare, Raise, Call, Wait, Signal}
use Rattle.merc_graded_tree.specs.declared.basic.Procedure.{Procedure}
use Rattle.merc_graded_tree.specs.declared.entries.Running.TheVariants.{Sequential, Parallel}
use Rattle.merc_graded_tree.specs.Nodes.{Node, node, Goal, Basic, Conjunction, Disjunction, Switch, Conditional, Negation, Quantified, Nodes, no_nodes, more_nodes, Arms, no_arms, more_arms, nodes_of, outputs_of}
use Rattle.merc_graded_tree.specs.Variables.{in_nodes}
use Rattle.merc_meaning.specs.Values.{fields}
use Rattle.merc_meaning.specs.Trace.{Env, Trace, Ends, Tick, Answer, Done, Raised, TooDeep, one_answer, after, each, first_alone, choose, negated, cut}
use Rattle.merc_meaning.specs.Steps.{value_at}
use Rattle.merc_meaning.specs.Runs.{Program, ProcedureBody, answers_once, once_if, called, where_some, basic_trace, goal_trace, node_trace, all_trace, any_trace, arms_trace, body_trace, call_trace, run}
use Rattle.merc_rights.specs.Rights.{Right, right_to, those, used_in, unused_in, passed_by, bound_in, unbound_in, wait_at, signal_at, between, around, ahead_of, signals_of}
use Rattle.merc_par_split.specs.Forks.{forks}
use Rattle.merc_par_split.specs.Split.{may_fail, nothing, moves_in, placed, placed_goal, placed_in_turn, placed_conjuncts, placed_arms, placed_alone, split}
use Rattle.merc_par_split.specs.SplitLaws.{split_body, split_program}

after_done : (t : Trace) → after t (Ends Done) ≡ t
after_done (Ends Done) = refl
after_done (Ends (Raised x)) = refl
after_done (Ends TooDeep) = refl
after_done (Tick t) = ap Tick (after_done t)
after_done (Answer env t) = ap (λ u. Answer env u) (after_done t)

each_answer : (t : Trace) → each one_answer t ≡ t
each_answer (Ends e) = refl
each_answer (Tick t) = ap Tick (each_answer t)
each_answer (Answer env t) = ap (λ u. Answer env u) (each_answer t)

each_same : (f g : Env → Trace) → ((env : Env) → f env ≡ g env) → (t : Trace) → each f t ≡ each g t
each_same f g h (Ends e) = refl
each_same f g h (Tick t) = ap Tick (each_same f g h t)
each_same f g h (Answer env t) = ap (λ u. after u (each f t)) (h env) ∙ ap (λ u. after (g env) u) (each_same f g h t)

choose_same : (f g : Env → Trace) → ((env : Env) → f env ≡ g env) → (u t : Trace) → choose f u t ≡ choose g u t
choose_same f g h u (Ends Done) = refl
choose_same f g h u (Ends (Raised x)) = refl
choose_same f g h u (Ends TooDeep) = refl
choose_same f g h u (Tick t) = ap Tick (choose_same f g h u t)
choose_same f g h u (Answer env t) = each_same f g h (Answer env t)

first_twice : (t : Trace) → first_alone (first_alone t) ≡ first_alone t
first_twice (Ends e) = refl
first_twice (Tick t) = ap Tick (first_twice t)
first_twice (Answer env t) = refl

once_twice : (b : Bool) (t : Trace) → once_if b (once_if b t) ≡ once_if b t
once_twice true t = first_twice t
once_twice false t = refl

where_same : (o : Option Values) (t u t' u' : Trace) → t ≡ t' → u ≡ u' → where_some o t u ≡ where_some o t' u'
where_same None t u t' u' h k = k
where_same (Some vs) t u t' u' h k = h

-- Two programs in which calls go the same way.
module _ (program other : Program) (call : Procedure → Env → Trace) (calls : (p : Procedure) (arguments : List ℕ) (env : Env) → called (call p) (other p) arguments env ≡ called (call p) (program p) arguments env) where
  abbrev old : Node → Env → Trace
  old = node_trace program call

  abbrev new : Node → Env → Trace
  new = node_trace other call

  abbrev all : Nodes → Env → Trace
  all = all_trace other call

  -- goals that only pass
  abbrev AllPass : List Node → Type 0
  AllPass [] = Unit {0}
  AllPass (first ∷ rest) = ((env : Env) → new first env ≡ one_answer env) × AllPass rest

  passes : (goals : List Node) → AllPass goals → (env : Env) → all (nodes_of goals) env ≡ one_answer env
  passes [] h env = refl
  passes (first ∷ rest) (h, k) env = ap (each (λ inner. all (nodes_of rest) inner)) (h env) ∙ after_done (all (nodes_of rest) env) ∙ passes rest k env

  signals_pass : (span : Span) (signals : List Right) → AllPass (map (signal_at span) signals)
  signals_pass span [] = tt
  signals_pass span (first ∷ rest) = ((λ env. refl), signals_pass span rest)

  waits_pass : (span : Span) (waits : List Right) → AllPass (map (wait_at span) waits)
  waits_pass span [] = tt
  waits_pass span (first ∷ rest) = ((λ env. refl), waits_pass span rest)

  parent_waits_pass : (span : Span) (outputs : List ℕ) → AllPass (map (λ variable. wait_at span (right_to 0 variable)) outputs)
  parent_waits_pass span [] = tt
  parent_waits_pass span (first ∷ rest) = ((λ env. refl), parent_waits_pass span rest)

  behind_waits : (span : Span) (waits : List Right) (goals : List Node) (env : Env) → all (nodes_of (map (wait_at span) waits ++ goals)) env ≡ all (nodes_of goals) env
  behind_waits span [] goals env = refl
  behind_waits span (first ∷ rest) goals env = after_done (all (nodes_of (map (wait_at span) rest ++ goals)) env) ∙ behind_waits span rest goals env

  then_pass : (whole : Node) (behind : List Node) → AllPass behind → (env : Env) → all (nodes_of (whole ∷ behind)) env ≡ new whole env
  then_pass whole behind h env = each_same (λ inner. all (nodes_of behind) inner) one_answer (λ inner. passes behind h inner) (new whole env) ∙ each_answer (new whole env)

  between_same : (waits : List Right) (whole : Node) (behind : List Node) → AllPass behind → (env : Env) → new (between waits whole behind) env ≡ new whole env
  between_same [] whole [] h env = refl
  between_same [] (node g outputs category span) (next ∷ behind) h env =
      ap (once_if (answers_once outputs category)) (then_pass (node g outputs category span) (next ∷ behind) h env) ∙ once_twice (answers_once outputs category) (goal_trace other call g env)
  between_same (first ∷ waits) (node g outputs category span) behind h env =
      ap (once_if (answers_once outputs category)) (behind_waits span (first ∷ waits) (node g outputs category span ∷ behind) env ∙ then_pass (node g outputs category span) behind h env)
      ∙ once_twice (answers_once outputs category) (goal_trace other call g env)

  around_same : (waits signals : List Right) (g : Goal) (outputs : List ℕ) (category : Option Category) (span : Span) (env : Env)
      → new (around waits signals (node g outputs category span)) env ≡ new (node g outputs category span) env
  around_same waits signals g outputs category span env = between_same waits (node g outputs category span) (map (signal_at span) signals) (signals_pass span signals) env

  ahead_same : (whole : Node) (waits : List Right) (env : Env) → new (ahead_of whole waits) env ≡ new whole env
  ahead_same (node g outputs category span) waits env = between_same [] (node g outputs category span) (map (wait_at span) waits) (waits_pass span waits) env

  signals_same : (whole : Node) (signals : List Right) (env : Env) → new (around [] signals whole) env ≡ new whole env
  signals_same (node g outputs category span) signals env = around_same [] signals g outputs category span env

  either_same : (b : Bool) (one two : Node) (t : Trace) (env : Env) → new one env ≡ t → new two env ≡ t → new (if b then one else two) env ≡ t
  either_same true one two t env h k = h
  either_same false one two t env h k = k

  basic_same : (g : BasicGoal) (env : Env) → basic_trace other call g env ≡ basic_trace program call g env
  basic_same True env = refl
  basic_same Fail env = refl
  basic_same (Assign x y) env = refl
  basic_same (Test x y) env = refl
  basic_same (Build x s ys) env = refl
  basic_same (Split x s ys) env = refl
  basic_same (Arithmetic o z x y) env = refl
  basic_same (Compare o x y) env = refl
  basic_same (Raise x) env = refl
  basic_same (Call p arguments) env = calls p arguments env
  basic_same (Wait x n) env = refl
  basic_same (Signal x n) env = refl

  mutual
    pub placed_same : (n : Node) (site : ℕ) (later : ℕ → Bool) (waits signals : List Right) (env : Env) → new (placed site later waits signals n) env ≡ old n env
    placed_same (node g outputs category span) site later waits signals env =
        either_same (may_fail category) (around [] signals (placed_goal site later waits [] g outputs category span)) (placed_goal site later waits signals g outputs category span)
        (old (node g outputs category span) env) env
        (signals_same (placed_goal site later waits [] g outputs category span) signals env ∙ goal_same g site later waits [] outputs category span env)
        (goal_same g site later waits signals outputs category span env)

    goal_same : (g : Goal) (site : ℕ) (later : ℕ → Bool) (waits signals : List Right) (outputs : List ℕ) (category : Option Category) (span : Span) (env : Env)
        → new (placed_goal site later waits signals g outputs category span) env ≡ old (node g outputs category span) env
    goal_same (Basic g) site later waits signals outputs category span env =
        around_same waits signals (Basic g) outputs category span env ∙ ap (once_if (answers_once outputs category)) (basic_same g env)
    goal_same (Conjunction Sequential goals) site later waits signals outputs category span env =
        ap (once_if (answers_once outputs category)) (in_turn_same goals site later waits signals env)
    goal_same (Conjunction (Parallel unknown) goals) site later waits signals outputs category span env =
        between_same (those (λ variable. not (moves_in later goals variable)) waits)
        (node (Conjunction (Parallel (Some (record { number = site }))) (placed_conjuncts (suc site) 1 outputs (those (moves_in later goals) waits) signals [] goals)) outputs category span)
        (map (λ variable. wait_at span (right_to 0 variable)) outputs) (parent_waits_pass span outputs) env
        ∙ ap (once_if (answers_once outputs category)) (conjuncts_same goals (suc site) 1 outputs (those (moves_in later goals) waits) signals [] env)
    goal_same (Disjunction goals) site later waits signals outputs category span env =
        around_same waits signals (Disjunction (placed_alone site goals)) outputs category span env ∙ ap (once_if (answers_once outputs category)) (alone_same goals site env)
    goal_same (Switch variable arms) site later waits signals outputs category span env =
        let inner = those (λ other. not (other == variable)) waits in
        around_same (those (λ other. other == variable) waits) [] (Switch variable (placed_arms site later inner signals arms)) outputs category span env
        ∙ ap (once_if (answers_once outputs category)) (arms_same arms site later inner signals (value_at env variable) env)
    goal_same (Conditional condition then_part else_part) site later waits signals outputs category span env =
        let inner = unused_in condition waits in
        let first = placed site nothing [] [] condition in
        let second = ahead_of (placed (site + forks condition) later (used_in then_part inner) (bound_in then_part signals) then_part) (passed_by later then_part inner) in
        let third = ahead_of (placed (site + forks condition + forks then_part) later (used_in else_part inner) (bound_in else_part signals) else_part) (passed_by later else_part inner) in
        around_same (used_in condition waits) [] (Conditional first second third) outputs category span env
        ∙ ap (once_if (answers_once outputs category))
        (choose_same (λ answer. new second answer) (λ answer. old then_part answer)
        (λ answer. ahead_same (placed (site + forks condition) later (used_in then_part inner) (bound_in then_part signals) then_part) (passed_by later then_part inner) answer
        ∙ placed_same then_part (site + forks condition) later (used_in then_part inner) (bound_in then_part signals) answer)
        (new third env) (new first env)
        ∙ ap (λ u. choose (λ answer. old then_part answer) u (new first env))
        (ahead_same (placed (site + forks condition + forks then_part) later (used_in else_part inner) (bound_in else_part signals) else_part) (passed_by later else_part inner) env
        ∙ placed_same else_part (site + forks condition + forks then_part) later (used_in else_part inner) (bound_in else_part signals) env)
        ∙ ap (λ u. choose (λ answer. old then_part answer) (old else_part env) u) (placed_same condition site nothing [] [] env))
    goal_same (Negation goal) site later waits signals outputs category span env =
        around_same waits signals (Negation (placed site nothing [] [] goal)) outputs category span env
        ∙ ap (λ t. once_if (answers_once outputs category) (negated env t)) (placed_same goal site nothing [] [] env)
    goal_same (Quantified own goal) site later waits signals outputs category span env =
        ap (once_if (answers_once outputs category)) (placed_same goal site later waits signals env)

    in_turn_same : (goals : Nodes) (site : ℕ) (later : ℕ → Bool) (waits signals : List Right) (env : Env)
        → all (placed_in_turn site later waits signals goals) env ≡ all_trace program call goals env
    in_turn_same no_nodes site later waits signals env = refl
    in_turn_same (more_nodes first rest) site later waits signals env =
        let here : ℕ → Bool = λ variable. later variable || in_nodes rest variable in
        each_same (λ inner. all (placed_in_turn (site + forks first) later (unused_in first waits) (unbound_in first signals) rest) inner) (λ inner. all_trace program call rest inner)
        (λ inner. in_turn_same rest (site + forks first) later (unused_in first waits) (unbound_in first signals) inner)
        (new (placed site here (used_in first waits) (bound_in first signals) first) env)
        ∙ ap (each (λ inner. all_trace program call rest inner)) (placed_same first site here (used_in first waits) (bound_in first signals) env)

    conjuncts_same : (goals : Nodes) (site number : ℕ) (outputs : List ℕ) (waits signals : List Right) (left : List ℕ) (env : Env)
        → all (placed_conjuncts site number outputs waits signals left goals) env ≡ all_trace program call goals env
    conjuncts_same no_nodes site number outputs waits signals left env = refl
    conjuncts_same (more_nodes first rest) site number outputs waits signals left env =
        let awaited = used_in first (map (right_to number) left ++ waits) in
        let given = flat_map (signals_of (suc number) rest outputs signals) (outputs_of first) in
        each_same (λ inner. all (placed_conjuncts (site + forks first) (suc number) outputs waits signals (left ++ outputs_of first) rest) inner) (λ inner. all_trace program call rest inner)
        (λ inner. conjuncts_same rest (site + forks first) (suc number) outputs waits signals (left ++ outputs_of first) inner)
        (new (placed site nothing awaited given first) env)
        ∙ ap (each (λ inner. all_trace program call rest inner)) (placed_same first site nothing awaited given env)

    arms_same : (arms : Arms) (site : ℕ) (later : ℕ → Bool) (waits signals : List Right) (o : Option Value) (env : Env)
        → arms_trace other call (placed_arms site later waits signals arms) o env ≡ arms_trace program call arms o env
    arms_same no_arms site later waits signals o env = refl
    arms_same (more_arms symbol body rest) site later waits signals None env = refl
    arms_same (more_arms symbol body rest) site later waits signals (Some value) env =
        let inner = placed site later (used_in body waits) (bound_in body signals) body in
        where_same (fields symbol value) (new (ahead_of inner (passed_by later body waits)) env) (arms_trace other call (placed_arms (site + forks body) later waits signals rest) (Some value) env)
        (old body env) (arms_trace program call rest (Some value) env)
        (ahead_same inner (passed_by later body waits) env ∙ placed_same body site later (used_in body waits) (bound_in body signals) env)
        (arms_same rest (site + forks body) later waits signals (Some value) env)

    alone_same : (goals : Nodes) (site : ℕ) (env : Env) → any_trace other call (placed_alone site goals) env ≡ any_trace program call goals env
    alone_same no_nodes site env = refl
    alone_same (more_nodes first rest) site env =
        ap (λ t. after t (any_trace other call (placed_alone (site + forks first) rest) env)) (placed_same first site nothing [] [] env)
        ∙ ap (λ t. after (old first env) t) (alone_same rest (site + forks first) env)

pub split_trace : (program : Program) (call : Procedure → Env → Trace) (site : ℕ) (tree : Node) (env : Env) → node_trace program call (split site tree) env ≡ node_trace program call tree env
split_trace program call site tree env = placed_same program program call (λ p arguments inner. refl) tree site nothing [] [] env

-- a call takes from a program where the arguments go alone
called_split : (call : Env → Trace) (site : ℕ) (found : Option ProcedureBody) (arguments : List ℕ) (env : Env)
    → called call (option_map (split_body site) found) arguments env ≡ called call found arguments env
called_split call site None arguments env = refl
called_split call site (Some procedure) arguments env = refl

split_in : (program : Program) (sites : Procedure → ℕ) (call : Procedure → Env → Trace) (site : ℕ) (tree : Node) (env : Env)
    → node_trace (split_program sites program) call (split site tree) env ≡ node_trace program call tree env
split_in program sites call site tree env =
    placed_same program (split_program sites program) call (λ p arguments inner. called_split (call p) (sites p) (program p) arguments inner) tree site nothing [] [] env

body_split : (program : Program) (sites : Procedure → ℕ) (call : Procedure → Env → Trace) (site : ℕ) (found : Option ProcedureBody) (env : Env)
    → body_trace (split_program sites program) call (option_map (split_body site) found) env ≡ body_trace program call found env
body_split program sites call site None env = refl
body_split program sites call site (Some procedure) env = split_in program sites call site procedure.body env

calls_split : (program : Program) (sites : Procedure → ℕ) (depth : ℕ) → call_trace (split_program sites program) depth ≡ call_trace program depth
calls_split program sites zero = refl
calls_split program sites (suc depth) = fun_ext (λ p. fun_ext (λ env.
    ap Tick (body_split program sites (call_trace (split_program sites program) depth) (sites p) (program p) env
    ∙ ap (λ call. body_trace program call (program p) env) (calls_split program sites depth))))

pub split_call_trace : (program : Program) (sites : Procedure → ℕ) (depth : ℕ) (procedure : Procedure) (env : Env)
    → call_trace (split_program sites program) depth procedure env ≡ call_trace program depth procedure env
split_call_trace program sites depth procedure env = ap (λ call. call procedure env) (calls_split program sites depth)

pub split_run : (program : Program) (sites : Procedure → ℕ) (site : ℕ) (tree : Node) (limit : ℕ) → run (split_program sites program) (split site tree) limit ≡ run program tree limit
split_run program sites site tree limit =
    ap (cut limit) (split_in program sites (call_trace (split_program sites program) (suc limit)) site tree []
    ∙ ap (λ call. node_trace program call tree []) (calls_split program sites (suc limit)))
