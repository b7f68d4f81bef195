-- The course of each goal gives through its branch's rights to signal alone.
use Rattle.std.proofs.Common.{◌≡◌, ℕ, zero, suc, ◌≤◌, ◌⊎◌, inl, inr, Bool, true, false, not, if◌then◌else◌, List, [], ◌∷◌, ◌++◌, map, filter, flat_map, refl, ap, sym, ◌∙◌, arith}
use Rattle.std.specs.Prelude.{⊤, Option, Some, None, nat_eq, ◌==◌, ◌&&◌}
use Rattle.std.specs.List.{AllByRecursion}
use Rattle.merc_value.specs.Value.{Value, Values}
use Rattle.merc_goal_tree.specs.declared.goal.Symbol.{Symbol}
use Rattle.merc_graded_tree.specs.declared.basic.BasicGoal.{BasicGoal}
use Rattle.merc_graded_tree.specs.declared.basic.BasicGoal.TheVariants.{True, Fail, Assign, Test, Build, Split, Arithmetic, Compare, Raise, Call, Wait, Signal}
use Rattle.merc_graded_tree.specs.declared.basic.Procedure.{Procedure}
use Rattle.merc_graded_tree.specs.declared.entries.Running.TheVariants.{Sequential, Parallel}
use Rattle.merc_graded_tree.specs.Nodes.{Node, node, Goal, Basic, Conjunction, Disjunction, Switch, Conditional, Negation, Quantified, Nodes, no_nodes, more_nodes, Arms, no_arms, more_arms}
use Rattle.merc_meaning.specs.Values.{fields, same}
use Rattle.merc_meaning.specs.Arithmetic.{comparison_of}
use Rattle.merc_meaning.specs.Trace.{Trace, Ends, Tick, Answer, Done, Raised as RaisedEnd, TooDeep as TooDeepEnd}
use Rattle.merc_meaning.specs.Steps.{value_at, values_at, made_if, binds, compared, split, operated, raised, entered, brought_back}
use Rattle.merc_meaning.specs.Runs.{Program, ProcedureBody, answers_once}
use Rattle.merc_script.specs.declared.cells.Move.{Move}
use Rattle.merc_core.specs.Rights.{has, is_kind, moved_to}
use Rattle.merc_rights.specs.declared.sites.CellInfo.{CellInfo}
use Rattle.merc_rights.specs.declared.sites.Moved.{Moved}
use Rattle.merc_rights.specs.declared.sites.SiteInfo.{SiteInfo}
use Rattle.merc_rights.specs.Rights.{is_sooner}
use Rattle.merc_plan.specs.Branch.{HeldWait, HeldSignal, Hold, NamedCell, Gift, BranchCourse, names, gives}
use Rattle.merc_plan.specs.Hold.{holding, with_env, wait_for, sooner, signal_for, named, own_signals, child_for, moves_if, moves_from, goes_to, signals_into, stays, fork_of, conjunct_hold, hold_behind}
use Rattle.merc_plan.specs.Branches.{traced, awaited, signal_cell, signalled, called, where_some, taken_arm, info_of, Plan, basic_branch, goal_branch, node_branch, all_branch, any_branch, arms_branch, conjunct_branches, conjunct_gifts, body_branch, call_branch}
use Rattle.merc_plan.proofs.Judging.{makes, signals_to}
use Rattle.merc_plan.proofs.Gives.{Right, MoveWithin, SignalsWithin, HoldWithin, Within, AllWithin, within_after, within_each, within_taken, within_once, within_choose, within_negated}
use Rattle.merc_plan.proofs.Sets.{clash, first_in, rest_in, or_in, front_or, in_left, in_right, in_either, absent, each_true, each_more, picked, moved_to_move}

-- lists of rights

pub each_filter : {A : Type 0} (P : A → Type 0) (test : A → Bool) (xs : List A) → AllByRecursion P xs → AllByRecursion P (filter test xs)
each_filter P test [] h = tt
each_filter P test (x ∷ xs) h = on (test x) (each_filter P test xs h.1)
  where
    on : (b : Bool) → AllByRecursion P (filter test xs) → AllByRecursion P (if b then x ∷ filter test xs else filter test xs)
    on true k = (h.0, k)
    on false k = k

pub each_append : {A : Type 0} (P : A → Type 0) (xs ys : List A) → AllByRecursion P xs → AllByRecursion P ys → AllByRecursion P (xs ++ ys)
each_append P [] ys h k = k
each_append P (x ∷ xs) ys h k = (h.0, each_append P xs ys h.1 k)

-- a right to signal that is used is held
abbrev RightOf : (rights : ℕ → Bool) → Option HeldSignal → Type 0
RightOf rights None = ⊤
RightOf rights (Some one) = rights one.cell ≡ true

sooner_within : (rights : ℕ → Bool) (one : HeldSignal) (other : Option HeldSignal) → rights one.cell ≡ true → RightOf rights other → rights (sooner one other).cell ≡ true
sooner_within rights one None h k = h
sooner_within rights one (Some other) h k = on (is_sooner other.conjunct one.conjunct)
  where
    on : (b : Bool) → rights (if b then other else one).cell ≡ true
    on true = k
    on false = h

signal_within : (rights : ℕ → Bool) (variable : ℕ) (signals : List HeldSignal) → SignalsWithin rights signals → RightOf rights (signal_for variable signals)
signal_within rights variable [] w = tt
signal_within rights variable (first ∷ rest) w = on (first.variable == variable) (signal_within rights variable rest w.1)
  where
    on : (b : Bool) → RightOf rights (signal_for variable rest) → RightOf rights (if b then Some (sooner first (signal_for variable rest)) else signal_for variable rest)
    on true k = sooner_within rights first (signal_for variable rest) w.0 k
    on false k = k

cell_within : (rights : ℕ → Bool) (right : Option HeldSignal) → RightOf rights right → Right rights (signal_cell right)
cell_within rights None h = inl refl
cell_within rights (Some one) h = inr h

-- forks

pub named_low : (next : ℕ) (infos : List CellInfo) (c : ℕ) → has c (names (named next infos)) ≡ true → next ≤ c
named_low next [] c h = absurd (cc)
named_low next (info ∷ infos) c h = on (front_or c next (names (named (suc next) infos)) h) (λ k. named_low (suc next) infos c k)
  where
    on : (c ≡ next) ⊎ (has c (names (named (suc next) infos)) ≡ true) → (has c (names (named (suc next) infos)) ≡ true → suc next ≤ c) → next ≤ c
    on (inl e) rec = omega (arith, e)
    on (inr e) rec = let l = rec e in omega (arith, l)

-- the rights to signal own cells
own_within : (ys : List NamedCell)
    → AllByRecursion (λ (one : HeldSignal). has one.cell (names ys) ≡ true) (map (λ (one : NamedCell). record { variable = one.variable; conjunct = one.consumer; cell = one.cell }) ys)
own_within [] = tt
own_within (y ∷ ys) = (
  first_in y.cell (names ys),
  each_more (λ (one : HeldSignal). has one.cell (names ys) ≡ true) (λ one. has one.cell (names (y ∷ ys)) ≡ true) (λ one h. rest_in one.cell y.cell (names ys) h)
      (map (λ (one : NamedCell). record { variable = one.variable; conjunct = one.consumer; cell = one.cell }) ys) (own_within ys),
)

into_on : (k : ℕ) (to : Option ℕ) (right : HeldSignal) (rights : List HeldSignal) (ms : List Move) → AllByRecursion (λ (one : HeldSignal). has one.cell (moved_to k true ms) ≡ true) rights
    → AllByRecursion (λ (one : HeldSignal). has one.cell (moved_to k true (moves_if true right.cell to ++ ms)) ≡ true) (if goes_to k to then right ∷ rights else rights)
into_on k None right rights ms h = h
into_on k (Some child) right rights ms h = on (nat_eq child k)
  where
    rest : List Move
    rest = filter (λ (one : Move). nat_eq one.child k && is_kind true one) ms

    this : Move
    this = record { cell = right.cell; child = child; signal = true }

    on : (b : Bool) → AllByRecursion (λ (one : HeldSignal). has one.cell (map (λ (z : Move). z.cell) (if (b && true) then this ∷ rest else rest)) ≡ true) (if b then right ∷ rights else rights)
    on true = (
      first_in right.cell (moved_to k true ms),
      each_more (λ (one : HeldSignal). has one.cell (moved_to k true ms) ≡ true) (λ one. has one.cell (right.cell ∷ moved_to k true ms) ≡ true)
          (λ one i. rest_in one.cell right.cell (moved_to k true ms) i) rights h,
    )
    on false = h

into_within : (k : ℕ) (moves : List Moved) (signals : List HeldSignal)
    → AllByRecursion (λ (one : HeldSignal). has one.cell (moved_to k true (flat_map (λ (right : HeldSignal). moves_if true right.cell (child_for true right.variable moves)) signals)) ≡ true)
    (signals_into k moves signals)
into_within k moves [] = tt
into_within k moves (right ∷ signals) =
    into_on k (child_for true right.variable moves) right (signals_into k moves signals)
    (flat_map (λ (one : HeldSignal). moves_if true one.cell (child_for true one.variable moves)) signals) (into_within k moves signals)

moved_left : (k c : ℕ) (ms ns : List Move) → has c (moved_to k true ms) ≡ true → has c (moved_to k true (ms ++ ns)) ≡ true
moved_left k c [] ns h = absurd (cc)
moved_left k c (m ∷ ms) ns h = on (nat_eq m.child k && is_kind true m) h (λ i. moved_left k c ms ns i)
  where
    test : Move → Bool
    test one = nat_eq one.child k && is_kind true one

    front : (c ≡ m.cell) ⊎ (has c (moved_to k true ms) ≡ true) → (has c (moved_to k true ms) ≡ true → has c (moved_to k true (ms ++ ns)) ≡ true) → has c (m.cell ∷ moved_to k true (ms ++ ns)) ≡ true
    front (inl e) rec = or_in c m.cell (moved_to k true (ms ++ ns)) (inl e)
    front (inr e) rec = rest_in c m.cell (moved_to k true (ms ++ ns)) (rec e)

    on : (b : Bool) → has c (map (λ (z : Move). z.cell) (if b then m ∷ filter test ms else filter test ms)) ≡ true → (has c (moved_to k true ms) ≡ true → has c (moved_to k true (ms ++ ns)) ≡ true)
        → has c (map (λ (z : Move). z.cell) (if b then m ∷ filter test (ms ++ ns) else filter test (ms ++ ns))) ≡ true
    on true i rec = front (front_or c m.cell (moved_to k true ms) i) rec
    on false i rec = rec i

-- a conjunct's rights to signal are those that its fork gives it
conjunct_within : (info : SiteInfo) (k : ℕ) (goal : Node) (hold : Hold) (given : List Gift) → 1 ≤ hold.next → HoldWithin (λ c. has c (signals_to k (fork_of info no_nodes hold))) (conjunct_hold info k goal hold given)
conjunct_within info k goal hold given l = (
  each_append (λ (one : HeldSignal). has one.cell (signals_to k (fork_of info no_nodes hold)) ≡ true) (own_signals k (named hold.next info.cells)) (signals_into k info.moves hold.signals)
      (each_more (λ (one : HeldSignal). has one.cell own ≡ true) (λ one. has one.cell (signals_to k (fork_of info no_nodes hold)) ≡ true)
      (λ one h. in_left one.cell own (moved_to k true (moves_from info.moves hold)) h) (own_signals k (named hold.next info.cells))
      (own_within (filter (λ (one : NamedCell). nat_eq one.producer k) (named hold.next info.cells))))
      (each_more (λ (one : HeldSignal). has one.cell (moved_to k true before) ≡ true) (λ one. has one.cell (signals_to k (fork_of info no_nodes hold)) ≡ true)
      (λ one h. in_right one.cell own (moved_to k true (moves_from info.moves hold)) (moved_left k one.cell before behind h)) (signals_into k info.moves hold.signals)
      (into_within k info.moves hold.signals)),
  omega (arith, l),
)
  where
    own : List ℕ
    own = makes k (named hold.next info.cells)

    before : List Move
    before = flat_map (λ (right : HeldSignal). moves_if true right.cell (child_for true right.variable info.moves)) hold.signals

    behind : List Move
    behind = flat_map (λ (right : HeldWait). moves_if false right.cell (child_for false right.variable info.moves)) hold.waits

signal_moves : (rights : ℕ → Bool) (moves : List Moved) (signals : List HeldSignal) → SignalsWithin rights signals
    → AllByRecursion (MoveWithin rights) (flat_map (λ (right : HeldSignal). moves_if true right.cell (child_for true right.variable moves)) signals)
signal_moves rights moves [] w = tt
signal_moves rights moves (right ∷ signals) w =
    each_append (MoveWithin rights) (moves_if true right.cell (child_for true right.variable moves)) (flat_map (λ (one : HeldSignal). moves_if true one.cell (child_for true one.variable moves)) signals)
    (on (child_for true right.variable moves)) (signal_moves rights moves signals w.1)
  where
    on : (to : Option ℕ) → AllByRecursion (MoveWithin rights) (moves_if true right.cell to)
    on None = tt
    on (Some child) = ((λ e. w.0), tt)

wait_moves : (rights : ℕ → Bool) (moves : List Moved) (waits : List HeldWait)
    → AllByRecursion (MoveWithin rights) (flat_map (λ (right : HeldWait). moves_if false right.cell (child_for false right.variable moves)) waits)
wait_moves rights moves [] = tt
wait_moves rights moves (right ∷ waits) =
    each_append (MoveWithin rights) (moves_if false right.cell (child_for false right.variable moves)) (flat_map (λ (one : HeldWait). moves_if false one.cell (child_for false one.variable moves)) waits)
    (on (child_for false right.variable moves)) (wait_moves rights moves waits)
  where
    on : (to : Option ℕ) → AllByRecursion (MoveWithin rights) (moves_if false right.cell to)
    on None = tt
    on (Some child) = ((λ e. absurd (cc)), tt)

fork_moves : (rights : ℕ → Bool) (info : SiteInfo) (hold : Hold) → HoldWithin rights hold → AllByRecursion (MoveWithin rights) (moves_from info.moves hold)
fork_moves rights info hold w =
    each_append (MoveWithin rights) (flat_map (λ (right : HeldSignal). moves_if true right.cell (child_for true right.variable info.moves)) hold.signals)
    (flat_map (λ (right : HeldWait). moves_if false right.cell (child_for false right.variable info.moves)) hold.waits)
    (signal_moves rights info.moves hold.signals w.0) (wait_moves rights info.moves hold.waits)

-- no cell of a fork is 0
fork_none : (rights : ℕ → Bool) (info : SiteInfo) (hold : Hold) → rights 0 ≡ false → HoldWithin rights hold → (k : ℕ) → has 0 (signals_to k (fork_of info no_nodes hold)) ≡ false
fork_none rights info hold n w k = absent 0 (signals_to k (fork_of info no_nodes hold)) (λ h. on (in_either 0 own (moved_to k true (moves_from info.moves hold)) h))
  where
    own : List ℕ
    own = makes k (named hold.next info.cells)

    on : (has 0 own ≡ true) ⊎ (has 0 (moved_to k true (moves_from info.moves hold)) ≡ true) → ⊥
    on (inl h) =
        let p = picked (λ (one : NamedCell). one.cell) (λ (one : NamedCell). nat_eq one.producer k) (λ x. ⊤) 0 (named hold.next info.cells) (each_true (named hold.next info.cells)) h in
        let l = named_low hold.next info.cells 0 p.listed in
        let m = w.1 in
        absurd (omega (arith, l, m))
    on (inr h) =
        let m = moved_to_move (MoveWithin rights) k true 0 (moves_from info.moves hold) (fork_moves rights info hold w) h in
        clash (rights 0) (ap rights (sym m.1.1.0) ∙ m.1.0 m.1.1.1.1) n

behind_within : (rights : ℕ → Bool) (info : SiteInfo) (hold : Hold) (given : List Gift) → HoldWithin rights hold → HoldWithin rights (hold_behind info hold given)
behind_within rights info hold given w =
    (each_filter (λ (one : HeldSignal). rights one.cell ≡ true) (λ (right : HeldSignal). stays (child_for true right.variable info.moves)) hold.signals w.0, w.1)

-- goals that hold no others

traced_within : (rights : ℕ → Bool) (hold : Hold) → HoldWithin rights hold → (t : Trace) → Within rights (traced hold t)
traced_within rights hold w (Ends Done) = tt
traced_within rights hold w (Ends (RaisedEnd text)) = tt
traced_within rights hold w (Ends TooDeepEnd) = tt
traced_within rights hold w (Tick t) = traced_within rights hold w t
traced_within rights hold w (Answer env t) = (w, traced_within rights hold w t)

awaited_within : (rights : ℕ → Bool) (hold : Hold) (variable : ℕ) → HoldWithin rights hold → (right : Option HeldWait) → Within rights (awaited hold variable right)
awaited_within rights hold variable w None = tt
awaited_within rights hold variable w (Some right) = on right.value
  where
    on : (value : Option Value) → Within rights (awaited hold variable (Some (record { variable = right.variable; cell = right.cell; value = value })))
    on None = tt
    on (Some value) = (w, tt)

signalled_within : (rights : ℕ → Bool) (hold : Hold) (cell : ℕ) → HoldWithin rights hold → Right rights cell → (value : Option Value) → Within rights (signalled hold cell value)
signalled_within rights hold cell w r None = tt
signalled_within rights hold cell w r (Some value) = (r, ((each_filter (λ (one : HeldSignal). rights one.cell ≡ true) (λ (right : HeldSignal). not (right.cell == cell)) hold.signals w.0, w.1), tt))

arm_within : (rights : ℕ → Bool) (value : Option Value) (symbol : Symbol) (t u : BranchCourse) → Within rights t → Within rights u → Within rights (taken_arm value symbol t u)
arm_within rights None symbol t u w v = tt
arm_within rights (Some value) symbol t u w v = on (fields symbol value)
  where
    on : (found : Option Values) → Within rights (where_some found t u)
    on None = v
    on (Some arguments) = w

-- a branch's rights hold of the courses of calls
abbrev pub CallWithin : (Hold → BranchCourse) → Type 0
CallWithin call = (rights : ℕ → Bool) (hold : Hold) → rights 0 ≡ false → HoldWithin rights hold → Within rights (call hold)

called_within : (call : Hold → BranchCourse) → CallWithin call → (rights : ℕ → Bool) (procedure : Option ProcedureBody) (arguments : List ℕ) (hold : Hold) → rights 0 ≡ false → HoldWithin rights hold
    → Within rights (called call procedure arguments hold)
called_within call s rights None arguments hold n w = tt
called_within call s rights (Some procedure) arguments hold n w =
    within_taken rights (λ inner. with_env hold (brought_back procedure.places arguments (value_at inner.env) hold.env)) (λ inner. w) (call (holding (entered procedure.places arguments hold.env) hold.next))
    (s rights (holding (entered procedure.places arguments hold.env) hold.next) n (tt, w.1))

module _ (plan : Plan) (program : Program) (call : Procedure → Hold → BranchCourse) (calls : (procedure : Procedure) → CallWithin (call procedure)) where
  basic_within : (goal : BasicGoal) (rights : ℕ → Bool) (hold : Hold) → rights 0 ≡ false → HoldWithin rights hold → Within rights (basic_branch plan program call goal hold)
  basic_within True rights hold n w = (w, tt)
  basic_within Fail rights hold n w = tt
  basic_within (Assign to from) rights hold n w = traced_within rights hold w (binds hold.env to (value_at hold.env from))
  basic_within (Test one other) rights hold n w = traced_within rights hold w (compared hold.env same (value_at hold.env one) (value_at hold.env other))
  basic_within (Build root symbol arguments) rights hold n w = traced_within rights hold w (binds hold.env root (made_if symbol (values_at hold.env arguments)))
  basic_within (Split root symbol arguments) rights hold n w = traced_within rights hold w (split hold.env symbol arguments (value_at hold.env root))
  basic_within (Arithmetic operation result left right) rights hold n w = traced_within rights hold w (operated hold.env operation result (value_at hold.env left) (value_at hold.env right))
  basic_within (Compare test left right) rights hold n w = traced_within rights hold w (compared hold.env (comparison_of test) (value_at hold.env left) (value_at hold.env right))
  basic_within (Raise text) rights hold n w = traced_within rights hold w (raised (value_at hold.env text))
  basic_within (Call procedure arguments) rights hold n w = called_within (call procedure) (calls procedure) rights (program procedure) arguments hold n w
  basic_within (Wait variable conjunct) rights hold n w = awaited_within rights hold variable w (wait_for variable hold.waits)
  basic_within (Signal variable conjunct) rights hold n w =
      signalled_within rights hold (signal_cell (signal_for variable hold.signals)) w (cell_within rights (signal_for variable hold.signals) (signal_within rights variable hold.signals w.0))
      (value_at hold.env variable)

  mutual
    goal_within : (goal : Goal) (rights : ℕ → Bool) (hold : Hold) → rights 0 ≡ false → HoldWithin rights hold → Within rights (goal_branch plan program call goal hold)
    goal_within (Basic goal) rights hold n w = basic_within goal rights hold n w
    goal_within (Conjunction Sequential goals) rights hold n w = all_within goals rights hold n w
    goal_within (Conjunction (Parallel None) goals) rights hold n w = all_within goals rights hold n w
    goal_within (Conjunction (Parallel (Some site)) goals) rights hold n w =
        let info = info_of (plan site.number) in
        let none = fork_none rights info hold n w in (
          fork_moves rights info hold w,
          (none, (conjuncts_within goals goals info hold 1 [] none w.1, (behind_within rights info hold (conjunct_gifts plan program call info hold 1 goals []) w, tt))),
        )
    goal_within (Disjunction goals) rights hold n w = any_within goals rights hold n w
    goal_within (Switch variable arms) rights hold n w = arms_within arms (value_at hold.env variable) rights hold n w
    goal_within (Conditional condition then_part else_part) rights hold n w =
        within_choose rights (λ inner. node_branch plan program call then_part inner) (node_branch plan program call else_part hold)
        (λ inner v. node_within then_part rights inner n v) (node_within else_part rights hold n w) (node_branch plan program call condition hold) (node_within condition rights hold n w)
    goal_within (Negation goal) rights hold n w = within_negated rights hold w (node_branch plan program call goal hold) (node_within goal rights hold n w)
    goal_within (Quantified own goal) rights hold n w = node_within goal rights hold n w

    pub node_within : (goal : Node) (rights : ℕ → Bool) (hold : Hold) → rights 0 ≡ false → HoldWithin rights hold → Within rights (node_branch plan program call goal hold)
    node_within (node goal outputs category span) rights hold n w =
        within_once rights (answers_once outputs category) (goal_branch plan program call goal hold) (goal_within goal rights hold n w)

    all_within : (goals : Nodes) (rights : ℕ → Bool) (hold : Hold) → rights 0 ≡ false → HoldWithin rights hold → Within rights (all_branch plan program call goals hold)
    all_within no_nodes rights hold n w = (w, tt)
    all_within (more_nodes first rest) rights hold n w =
        within_each rights (λ inner. all_branch plan program call rest inner) (λ inner v. all_within rest rights inner n v) (node_branch plan program call first hold) (node_within first rights hold n w)

    any_within : (goals : Nodes) (rights : ℕ → Bool) (hold : Hold) → rights 0 ≡ false → HoldWithin rights hold → Within rights (any_branch plan program call goals hold)
    any_within no_nodes rights hold n w = tt
    any_within (more_nodes first rest) rights hold n w =
        within_after rights (node_branch plan program call first hold) (any_branch plan program call rest hold) (node_within first rights hold n w) (any_within rest rights hold n w)

    arms_within : (arms : Arms) (value : Option Value) (rights : ℕ → Bool) (hold : Hold) → rights 0 ≡ false → HoldWithin rights hold → Within rights (arms_branch plan program call arms value hold)
    arms_within no_arms value rights hold n w = tt
    arms_within (more_arms symbol body rest) value rights hold n w =
        arm_within rights value symbol (node_branch plan program call body hold) (arms_branch plan program call rest value hold) (node_within body rights hold n w)
        (arms_within rest value rights hold n w)

    conjuncts_within : (all goals : Nodes) (info : SiteInfo) (hold : Hold) (k : ℕ) (given : List Gift) → ((j : ℕ) → has 0 (signals_to j (fork_of info no_nodes hold)) ≡ false) → 1 ≤ hold.next
        → AllWithin (fork_of info all hold) k (conjunct_branches plan program call info hold k goals given)
    conjuncts_within all no_nodes info hold k given z l = tt
    conjuncts_within all (more_nodes first rest) info hold k given z l = (
      node_within first (λ c. has c (signals_to k (fork_of info no_nodes hold))) (conjunct_hold info k first hold given) (z k) (conjunct_within info k first hold given l),
      conjuncts_within all rest info hold (suc k) (given ++ gives (node_branch plan program call first (conjunct_hold info k first hold given))) z l,
    )

body_within : (plan : Plan) (program : Program) (call : Procedure → Hold → BranchCourse) → ((procedure : Procedure) → CallWithin (call procedure)) → (body : Option ProcedureBody)
    → CallWithin (body_branch plan program call body)
body_within plan program call calls None rights hold n w = tt
body_within plan program call calls (Some procedure) rights hold n w = node_within plan program call calls procedure.body rights hold n w

pub call_within : (plan : Plan) (program : Program) (depth : ℕ) (procedure : Procedure) → CallWithin (call_branch plan program depth procedure)
call_within plan program zero procedure rights hold n w = tt
call_within plan program (suc depth) procedure rights hold n w =
    body_within plan program (call_branch plan program depth) (λ other. call_within plan program depth other) (program procedure) rights hold n w

-- a branch that holds nothing, in which names are from `next` on, and no cell is 0
pub branch_within : (plan : Plan) (program : Program) (depth : ℕ) (goal : Node) (next : ℕ) → 1 ≤ next
    → Within (λ c. false) (node_branch plan program (call_branch plan program depth) goal (holding [] next))
branch_within plan program depth goal next l =
    node_within plan program (call_branch plan program depth) (λ procedure. call_within plan program depth procedure) goal (λ c. false) (holding [] next) refl (tt, l)
