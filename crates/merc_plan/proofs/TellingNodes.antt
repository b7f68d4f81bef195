-- Each goal is told what is known, where rights to wait for a fork's own cells are used directly behind it.
use Rattle.std.proofs.Common.{◌≡◌, ℕ, zero, suc, ◌+◌, ◌<◌, ◌⊎◌, inl, inr, Bool, true, false, if◌then◌else◌, List, [], ◌∷◌, ◌++◌, length, map, filter, refl, ap, sym, subst, ◌∙◌, arith}
use Rattle.std.specs.Prelude.{⊤, Option, Some, None, ◌==◌}
use Rattle.std.specs.List.{AllByRecursion}
use Rattle.merc_base.specs.declared.category.Category.{Category}
use Rattle.merc_base.specs.declared.place.Span.{Span}
use Rattle.merc_value.specs.Value.{Value, Values}
use Rattle.merc_goal_tree.specs.declared.goal.Symbol.{Symbol}
use Rattle.merc_graded_tree.specs.declared.basic.BasicGoal.{BasicGoal}
use Rattle.merc_graded_tree.specs.declared.basic.BasicGoal.TheVariants.{True, Fail, Assign, Test, Build, Split, Arithmetic, Compare, Raise, Call, Wait, Signal}
use Rattle.merc_graded_tree.specs.declared.basic.Procedure.{Procedure}
use Rattle.merc_graded_tree.specs.declared.entries.Running.TheVariants.{Sequential, Parallel}
use Rattle.merc_graded_tree.specs.declared.basic.Site.{Site}
use Rattle.merc_graded_tree.specs.Nodes.{Node, node, Goal, Basic, Conjunction, Disjunction, Switch, Conditional, Negation, Quantified, Nodes, no_nodes, more_nodes, Arms, no_arms, more_arms}
use Rattle.merc_meaning.specs.Values.{fields, same}
use Rattle.merc_meaning.specs.Arithmetic.{comparison_of}
use Rattle.merc_meaning.specs.Trace.{Trace, Ends, Tick, Answer, Done, Raised as RaisedEnd, TooDeep as TooDeepEnd}
use Rattle.merc_meaning.specs.Steps.{value_at, with_entry, values_at, made_if, binds, compared, split, operated, raised, entered, brought_back}
use Rattle.merc_meaning.specs.Runs.{Program, ProcedureBody, answers_once}
use Rattle.merc_core.specs.Rights.{has}
use Rattle.merc_rights.specs.declared.sites.CellInfo.{CellInfo}
use Rattle.merc_rights.specs.declared.sites.SiteInfo.{SiteInfo}
use Rattle.merc_plan.specs.Branch.{HeldWait, Hold, NamedCell, Fork, Gift, gift_at, value_given, BranchCourse, BranchCourses, Over, Forks, names, gives, all_give, each}
use Rattle.merc_plan.specs.Hold.{holding, with_env, wait_for, without_wait, signal_for, named, own_waits, child_for, goes_to, waits_into, stays, waits_kept, fork_of, conjunct_hold, hold_behind}
use Rattle.merc_plan.specs.Branches.{first_name, one_answer, traced, awaited, signal_cell, signalled, once_if, called, where_some, taken_arm, info_of, Plan, basic_branch, goal_branch, node_branch, all_branch, any_branch, arms_branch, conjunct_branches, conjunct_gifts, body_branch, call_branch, root_branch}
use Rattle.merc_plan.proofs.Sets.{first_in, rest_in, front_or, each_more, append_all, append_none}
use Rattle.merc_plan.proofs.Givers.{each_filter, each_append, named_low}
use Rattle.merc_plan.proofs.Telling.{known_anew, IsKnown, IsLow, Begins, HoldKnown, Agree, AreHigh, Tells, AllTell, agree_anew, low_agree, begins_agree, hold_agree, tells_after, tells_each, tells_taken, tells_once, tells_choose, tells_negated}

-- the variables that a fork's conjuncts bind for the goals behind it
abbrev pub bound_behind : List CellInfo → List ℕ
bound_behind infos = map (λ info. info.variable) (filter (λ info. info.consumer == 0) infos)

abbrev pub removed : ℕ → List ℕ → List ℕ
removed x [] = []
removed x (y ∷ ys) = if y == x then ys else y ∷ removed x ys

-- Behind each fork waits for what its conjuncts bind stand directly, so that no branch holds own cells of one fork at another, or when it has answered.
module _ (plan : Plan) where
  mutual
    pub data Prompt : Node → Type 0 where
      prompt : (goal : Goal) (outputs : List ℕ) (category : Option Category) (span : Span) → PromptGoal goal → Prompt (node goal outputs category span)

    pub data PromptGoal : Goal → Type 0 where
      basic : (goal : BasicGoal) → PromptGoal (Basic goal)
      in_turn : (goals : Nodes) → AllPrompt [] goals → PromptGoal (Conjunction Sequential goals)
      unplanned : (goals : Nodes) → AllPrompt [] goals → PromptGoal (Conjunction (Parallel None) goals)
      forked : (site : Site) (goals : Nodes) → EachPrompt goals → bound_behind (info_of (plan site.number)).cells ≡ [] → PromptGoal (Conjunction (Parallel (Some site)) goals)
      any_of : (goals : Nodes) → EachPrompt goals → PromptGoal (Disjunction goals)
      switched : (variable : ℕ) (arms : Arms) → ArmsPrompt arms → PromptGoal (Switch variable arms)
      conditional : (condition then_part else_part : Node) → Prompt condition → Prompt then_part → Prompt else_part → PromptGoal (Conditional condition then_part else_part)
      negation : (goal : Node) → Prompt goal → PromptGoal (Negation goal)
      quantified : (own : List ℕ) (goal : Node) → Prompt goal → PromptGoal (Quantified own goal)

    -- goals of a conjunction where these variables are to be waited for first
    pub data AllPrompt : List ℕ → Nodes → Type 0 where
      all_none : AllPrompt [] no_nodes
      all_first : (first : Node) (rest : Nodes) → Prompt first → AllPrompt [] rest → AllPrompt [] (more_nodes first rest)
      all_fork : (site : Site) (goals : Nodes) (outputs : List ℕ) (category : Option Category) (span : Span) (rest : Nodes) → EachPrompt goals
          → AllPrompt (bound_behind (info_of (plan site.number)).cells) rest → AllPrompt [] (more_nodes (node (Conjunction (Parallel (Some site)) goals) outputs category span) rest)
      all_wait : (variable conjunct : ℕ) (outputs : List ℕ) (category : Option Category) (span : Span) (pending : List ℕ) (rest : Nodes)
          → AllPrompt (removed variable pending) rest → AllPrompt pending (more_nodes (node (Basic (Wait variable conjunct)) outputs category span) rest)

    pub data EachPrompt : Nodes → Type 0 where
      each_none : EachPrompt no_nodes
      each_first : (first : Node) (rest : Nodes) → Prompt first → EachPrompt rest → EachPrompt (more_nodes first rest)

    pub data ArmsPrompt : Arms → Type 0 where
      arms_none : ArmsPrompt no_arms
      arms_first : (symbol : Symbol) (body : Node) (rest : Arms) → Prompt body → ArmsPrompt rest → ArmsPrompt (more_arms symbol body rest)

-- rights to wait for own cells that are pending, and the others

pub record Pends (next : ℕ) (known : ℕ → Option Value) (pending : List ℕ) (waits : List HeldWait) : Type 0 where
  pub own : List HeldWait
  pub low : List HeldWait
  pub are : waits ≡ own ++ low
  pub for_these : map (λ (right : HeldWait). right.variable) own ≡ pending
  pub own_known : AllByRecursion (IsKnown known) own
  pub low_known : AllByRecursion (IsLow next known) low

none_pending : (next : ℕ) (known : ℕ → Option Value) (waits own low : List HeldWait) → waits ≡ own ++ low → map (λ (right : HeldWait). right.variable) own ≡ [] → AllByRecursion (IsLow next known) low
    → AllByRecursion (IsLow next known) waits
none_pending next known waits [] low e f l = subst (λ w. AllByRecursion (IsLow next known) w) (sym e) l
none_pending next known waits (one ∷ own) low e f l = absurd (cc)

all_low : (next : ℕ) (known : ℕ → Option Value) (waits : List HeldWait) → Pends next known [] waits → AllByRecursion (IsLow next known) waits
all_low next known waits p = none_pending next known waits p.own p.low p.are p.for_these p.low_known

low_pends : (next : ℕ) (known : ℕ → Option Value) (waits : List HeldWait) → AllByRecursion (IsLow next known) waits → Pends next known [] waits
low_pends next known waits l = record { own = []; low = waits; are = refl; for_these = refl; own_known = tt; low_known = l }

all_known : (next : ℕ) (known : ℕ → Option Value) (waits : List HeldWait) (pending : List ℕ) → Pends next known pending waits → AllByRecursion (IsKnown known) waits
all_known next known waits pending p =
    subst (λ w. AllByRecursion (IsKnown known) w) (sym p.are)
    (each_append (IsKnown known) p.own p.low p.own_known (each_more (IsLow next known) (IsKnown known) (λ right h. h.1) p.low p.low_known))

-- one right less
more_pends : (next : ℕ) (known : ℕ → Option Value) (pending : List ℕ) (right : HeldWait) (waits : List HeldWait) → IsKnown known right → Pends next known pending waits
    → Pends next known (right.variable ∷ pending) (right ∷ waits)
more_pends next known pending right waits k p = record {
  own = right ∷ p.own;
  low = p.low;
  are = ap (λ w. right ∷ w) p.are;
  for_these = ap (λ w. right.variable ∷ w) p.for_these;
  own_known = (k, p.own_known);
  low_known = p.low_known;
}

low_without : (next : ℕ) (known : ℕ → Option Value) (x : ℕ) (low : List HeldWait) → AllByRecursion (IsLow next known) low → AllByRecursion (IsLow next known) (without_wait x low)
low_without next known x [] l = tt
low_without next known x (right ∷ low) l = on (right.variable == x) (low_without next known x low l.1)
  where
    on : (b : Bool) → AllByRecursion (IsLow next known) (without_wait x low) → AllByRecursion (IsLow next known) (if b then low else right ∷ without_wait x low)
    on true k = l.1
    on false k = (l.0, k)

split_without : (next : ℕ) (known : ℕ → Option Value) (x : ℕ) (own low : List HeldWait) → AllByRecursion (IsKnown known) own → AllByRecursion (IsLow next known) low
    → Pends next known (removed x (map (λ (right : HeldWait). right.variable) own)) (without_wait x (own ++ low))
split_without next known x [] low k l = low_pends next known (without_wait x low) (low_without next known x low l)
split_without next known x (right ∷ own) low k l = on (right.variable == x) (split_without next known x own low k.1 l)
  where
    variables : List ℕ
    variables = map (λ (one : HeldWait). one.variable) own

    on : (b : Bool) → Pends next known (removed x variables) (without_wait x (own ++ low))
        → Pends next known (if b then variables else right.variable ∷ removed x variables) (if b then own ++ low else right ∷ without_wait x (own ++ low))
    on true p = record { own = own; low = low; are = refl; for_these = refl; own_known = k.1; low_known = l }
    on false p = more_pends next known (removed x variables) right (without_wait x (own ++ low)) k.0 p

pends_without : (next : ℕ) (known : ℕ → Option Value) (x : ℕ) (pending : List ℕ) (waits : List HeldWait) → Pends next known pending waits
    → Pends next known (removed x pending) (without_wait x waits)
pends_without next known x pending waits p =
    subst (λ w. Pends next known (removed x pending) (without_wait x w)) (sym p.are)
    (subst (λ v. Pends next known (removed x v) (without_wait x (p.own ++ p.low))) p.for_these (split_without next known x p.own p.low p.own_known p.low_known))

-- a right that is found is known
abbrev RightKnown : (ℕ → Option Value) → Option HeldWait → Type 0
RightKnown known None = ⊤
RightKnown known (Some right) = IsKnown known right

wait_known : (known : ℕ → Option Value) (x : ℕ) (waits : List HeldWait) → AllByRecursion (IsKnown known) waits → RightKnown known (wait_for x waits)
wait_known known x [] w = tt
wait_known known x (right ∷ waits) w = on (right.variable == x) (wait_known known x waits w.1)
  where
    on : (b : Bool) → RightKnown known (wait_for x waits) → RightKnown known (if b then Some right else wait_for x waits)
    on true k = w.0
    on false k = k

-- the rights of conjuncts, and those behind a fork

own_known_of : (known : ℕ → Option Value) (k : ℕ) (gs : List Gift) (cells : List NamedCell) → ((c : ℕ) → has c (names cells) ≡ true → value_given (gift_at c gs) ≡ known c)
    → AllByRecursion (IsKnown known) (own_waits k gs cells)
own_known_of known k gs [] h = tt
own_known_of known k gs (one ∷ cells) h = on (one.consumer == k) (own_known_of known k gs cells (λ c i. h c (rest_in c one.cell (names cells) i)))
  where
    right : NamedCell → HeldWait
    right cell = record { variable = cell.variable; cell = cell.cell; value = value_given (gift_at cell.cell gs) }

    on : (b : Bool) → AllByRecursion (IsKnown known) (own_waits k gs cells)
        → AllByRecursion (IsKnown known) (map right (if b then one ∷ filter (λ cell. cell.consumer == k) cells else filter (λ cell. cell.consumer == k) cells))
    on true r = (h one.cell (first_in one.cell (names cells)), r)
    on false r = r

own_below : (k : ℕ) (gs : List Gift) (high : ℕ) (cells : List NamedCell) → ((c : ℕ) → has c (names cells) ≡ true → c < high) → AllByRecursion (λ (right : HeldWait). right.cell < high) (own_waits k gs cells)
own_below k gs high [] h = tt
own_below k gs high (one ∷ cells) h = on (one.consumer == k) (own_below k gs high cells (λ c i. h c (rest_in c one.cell (names cells) i)))
  where
    right : NamedCell → HeldWait
    right cell = record { variable = cell.variable; cell = cell.cell; value = value_given (gift_at cell.cell gs) }

    on : (b : Bool) → AllByRecursion (λ (right : HeldWait). right.cell < high) (own_waits k gs cells)
        → AllByRecursion (λ (right : HeldWait). right.cell < high) (map right (if b then one ∷ filter (λ cell. cell.consumer == k) cells else filter (λ cell. cell.consumer == k) cells))
    on true r = (h one.cell (first_in one.cell (names cells)), r)
    on false r = r

named_high : (next : ℕ) (infos : List CellInfo) (c : ℕ) → has c (names (named next infos)) ≡ true → c < next + length infos
named_high next [] c h = absurd (cc)
named_high next (info ∷ infos) c h = on (front_or c next (names (named (suc next) infos)) h) (λ k. named_high (suc next) infos c k)
  where
    on : (c ≡ next) ⊎ (has c (names (named (suc next) infos)) ≡ true) → (has c (names (named (suc next) infos)) ≡ true → c < suc next + length infos) → c < next + suc (length infos)
    on (inl e) rec = omega (arith, e)
    on (inr e) rec = let l = rec e in omega (arith, l)

both_known : (next : ℕ) (known : ℕ → Option Value) (waits : List HeldWait) → AllByRecursion (λ (right : HeldWait). right.cell < next) waits → AllByRecursion (IsKnown known) waits
    → AllByRecursion (IsLow next known) waits
both_known next known [] l k = tt
both_known next known (right ∷ waits) l k = ((l.0, k.0), both_known next known waits l.1 k.1)

own_variables : (gs : List Gift) (next : ℕ) (infos : List CellInfo) → map (λ (right : HeldWait). right.variable) (own_waits 0 gs (named next infos)) ≡ bound_behind infos
own_variables gs next [] = refl
own_variables gs next (info ∷ infos) = on (info.consumer == 0) (own_variables gs (suc next) infos)
  where
    right : NamedCell → HeldWait
    right cell = record { variable = cell.variable; cell = cell.cell; value = value_given (gift_at cell.cell gs) }

    this : NamedCell
    this = record { cell = next; variable = info.variable; producer = info.producer; consumer = info.consumer }

    rest : List NamedCell
    rest = filter (λ (cell : NamedCell). cell.consumer == 0) (named (suc next) infos)

    on : (b : Bool) → map (λ (one : HeldWait). one.variable) (own_waits 0 gs (named (suc next) infos)) ≡ bound_behind infos
        → map (λ (one : HeldWait). one.variable) (map right (if b then this ∷ rest else rest))
        ≡ map (λ (one : CellInfo). one.variable) (if b then info ∷ filter (λ one. one.consumer == 0) infos else filter (λ one. one.consumer == 0) infos)
    on true e = ap (λ l. info.variable ∷ l) e
    on false e = e

fork_high : (info : SiteInfo) (hold : Hold) (next : ℕ) → hold.next ≡ next → AreHigh next (fork_of info no_nodes hold)
fork_high info hold next e c h = let l = named_low hold.next info.cells c h in omega (arith, e, l)

own_anew : (known : ℕ → Option Value) (x : Fork) (gs : List Gift) (c : ℕ) → has c (names x.cells) ≡ true → value_given (gift_at c gs) ≡ known_anew known x gs c
own_anew known x gs c h = sym (ap (λ (b : Bool). if b then value_given (gift_at c gs) else known c) h)

conjunct_known : (next : ℕ) (known : ℕ → Option Value) (info : SiteInfo) (k : ℕ) (goal : Node) (hold : Hold) (gs : List Gift) → HoldKnown next known hold
    → HoldKnown (hold.next + length info.cells) (known_anew known (fork_of info no_nodes hold) gs) (conjunct_hold info k goal hold gs)
conjunct_known next known info k goal hold gs w = (
  each_append (IsLow (hold.next + length info.cells) anew) (own_waits k gs (named hold.next info.cells)) (waits_into k info.moves hold.waits)
      (both_known (hold.next + length info.cells) anew (own_waits k gs (named hold.next info.cells))
      (own_below k gs (hold.next + length info.cells) (named hold.next info.cells) (λ c h. named_high hold.next info.cells c h))
      (own_known_of anew k gs (named hold.next info.cells) (λ c h. own_anew known (fork_of info no_nodes hold) gs c h)))
      (each_filter (IsLow (hold.next + length info.cells) anew) (λ (right : HeldWait). goes_to k (child_for false right.variable info.moves)) hold.waits
      (each_more (IsLow next known) (IsLow (hold.next + length info.cells) anew)
      (λ right h. ((let l = h.0 in let e = w.1.0 in omega (arith, l, e)), h.1 ∙ sym (below right.cell h.0))) hold.waits w.0)),
  (refl, ((let l = w.1.1.0 in let e = w.1.0 in omega (arith, l, e)), (let l = w.1.1.0 in below 0 (omega (arith, l))) ∙ w.1.1.1)),
)
  where
    anew : ℕ → Option Value
    anew = known_anew known (fork_of info no_nodes hold) gs

    below : Agree next known anew
    below = agree_anew next known (fork_of info no_nodes hold) gs (fork_high info hold next w.1.0)

behind_pends : (next : ℕ) (known : ℕ → Option Value) (info : SiteInfo) (hold : Hold) (gs : List Gift) → HoldKnown next known hold
    → Pends next (known_anew known (fork_of info no_nodes hold) gs) (bound_behind info.cells) (hold_behind info hold gs).waits
behind_pends next known info hold gs w = record {
  own = own_waits 0 gs (named hold.next info.cells);
  low = waits_kept info.moves hold.waits;
  are = refl;
  for_these = own_variables gs hold.next info.cells;
  own_known = own_known_of anew 0 gs (named hold.next info.cells) (λ c h. own_anew known (fork_of info no_nodes hold) gs c h);
  low_known =
      each_filter (IsLow next anew) (λ (right : HeldWait). stays (child_for false right.variable info.moves)) hold.waits
      (low_agree next known anew (agree_anew next known (fork_of info no_nodes hold) gs (fork_high info hold next w.1.0)) hold.waits w.0);
}
  where
    anew : ℕ → Option Value
    anew = known_anew known (fork_of info no_nodes hold) gs

behind_begins : (next : ℕ) (known : ℕ → Option Value) (info : SiteInfo) (hold : Hold) (gs hs : List Gift) → HoldKnown next known hold
    → Begins next (known_anew known (fork_of info no_nodes hold) hs) (hold_behind info hold gs)
behind_begins next known info hold gs hs w =
    begins_agree next known (known_anew known (fork_of info no_nodes hold) hs) hold (agree_anew next known (fork_of info no_nodes hold) hs (fork_high info hold next w.1.0)) w.1

-- goals that meet nobody, waits and signals

traced_tells : (next : ℕ) (known : ℕ → Option Value) (hold : Hold) → HoldKnown next known hold → (t : Trace) → Tells next known (traced hold t)
traced_tells next known hold w (Ends Done) = tt
traced_tells next known hold w (Ends (RaisedEnd text)) = tt
traced_tells next known hold w (Ends TooDeepEnd) = tt
traced_tells next known hold w (Tick t) = traced_tells next known hold w t
traced_tells next known hold w (Answer env t) = (w, λ other a. traced_tells next other hold (hold_agree next known other hold a w) t)

awaited_tells : (next : ℕ) (known : ℕ → Option Value) (hold : Hold) (variable : ℕ) → HoldKnown next known hold → (right : Option HeldWait) → RightKnown known right
    → Tells next known (awaited hold variable right)
awaited_tells next known hold variable w None r = (sym w.1.1.1, tt)
awaited_tells next known hold variable w (Some right) r = on right.value r
  where
    on : (value : Option Value) → value ≡ known right.cell → Tells next known (awaited hold variable (Some (record { variable = right.variable; cell = right.cell; value = value })))
    on None e = (e, tt)
    on (Some value) e = (e, ((low_without next known variable hold.waits w.0, w.1), λ other a. tt))

signalled_tells : (next : ℕ) (known : ℕ → Option Value) (hold : Hold) (cell : ℕ) → HoldKnown next known hold → (value : Option Value) → Tells next known (signalled hold cell value)
signalled_tells next known hold cell w None = tt
signalled_tells next known hold cell w (Some value) = (w, λ other a. tt)

arm_tells : (next : ℕ) (known : ℕ → Option Value) (value : Option Value) (symbol : Symbol) (t u : BranchCourse) → Tells next known t → Tells next known u → Tells next known (taken_arm value symbol t u)
arm_tells next known None symbol t u w v = tt
arm_tells next known (Some value) symbol t u w v = on (fields symbol value)
  where
    on : (found : Option Values) → Tells next known (where_some found t u)
    on None = v
    on (Some arguments) = w

-- a goal directly behind a wait, and behind a fork

wait_each : (next : ℕ) (known : ℕ → Option Value) (f : Hold → BranchCourse) (hold : Hold) (variable : ℕ) (b : Bool) → known 0 ≡ None → (right : Option HeldWait) → RightKnown known right
    → ((value : Value) → Tells next known (f (record { env = with_entry hold.env variable (Some value); waits = without_wait variable hold.waits; signals = hold.signals; next = hold.next })))
    → Tells next known (each f (once_if b (awaited hold variable right)))
wait_each next known f hold variable b z None r s = on b
  where
    on : (b : Bool) → Tells next known (each f (once_if b (awaited hold variable None)))
    on true = (sym z, tt)
    on false = (sym z, tt)
wait_each next known f hold variable b z (Some right) r s = on b right.value r
  where
    on : (b : Bool) (value : Option Value) → value ≡ known right.cell
        → Tells next known (each f (once_if b (awaited hold variable (Some (record { variable = right.variable; cell = right.cell; value = value })))))
    on true None e = (e, tt)
    on false None e = (e, tt)
    on true (Some value) e = (e, tells_after next (f (behind value)) Over known (s value) (λ other a. tt))
      where
        behind : Value → Hold
        behind value = record { env = with_entry hold.env variable (Some value); waits = without_wait variable hold.waits; signals = hold.signals; next = hold.next }
    on false (Some value) e = (e, tells_after next (f (behind value)) Over known (s value) (λ other a. tt))
      where
        behind : Value → Hold
        behind value = record { env = with_entry hold.env variable (Some value); waits = without_wait variable hold.waits; signals = hold.signals; next = hold.next }

fork_each : (next : ℕ) (known : ℕ → Option Value) (f : Hold → BranchCourse) (b : Bool) (i : ℕ) (x : Fork) (ks : BranchCourses) (hold : Hold) → AreHigh next x → AllTell known x [] ks
    → Tells next (known_anew known x (all_give ks)) (f hold) → Tells next known (each f (once_if b (Forks i x ks (one_answer hold))))
fork_each next known f true i x ks hold h a s = (h, (a, tells_after next (f hold) Over (known_anew known x (all_give ks)) s (λ other q. tt)))
fork_each next known f false i x ks hold h a s = (h, (a, tells_after next (f hold) Over (known_anew known x (all_give ks)) s (λ other q. tt)))

-- what is known does not bear on the courses of calls
abbrev pub CallTells : (Hold → BranchCourse) → Type 0
CallTells call = (next : ℕ) (known : ℕ → Option Value) (hold : Hold) → HoldKnown next known hold → Tells next known (call hold)

called_tells : (call : Hold → BranchCourse) → CallTells call → (next : ℕ) (known : ℕ → Option Value) (procedure : Option ProcedureBody) (arguments : List ℕ) (hold : Hold) → HoldKnown next known hold
    → Tells next known (called call procedure arguments hold)
called_tells call s next known None arguments hold w = tt
called_tells call s next known (Some procedure) arguments hold w =
    tells_taken next (λ inner. with_env hold (brought_back procedure.places arguments (value_at inner.env) hold.env)) (call (holding (entered procedure.places arguments hold.env) hold.next)) known
    (λ other a inner. hold_agree next known other hold a w) (s next known (holding (entered procedure.places arguments hold.env) hold.next) (tt, w.1))

module _ (plan : Plan) (program : Program) (call : Procedure → Hold → BranchCourse) (calls : (procedure : Procedure) → CallTells (call procedure)) where
  gifts_are : (goals : Nodes) (info : SiteInfo) (hold : Hold) (k : ℕ) (given : List Gift)
      → conjunct_gifts plan program call info hold k goals given ≡ given ++ all_give (conjunct_branches plan program call info hold k goals given)
  gifts_are no_nodes info hold k given = sym (append_none given)
  gifts_are (more_nodes first rest) info hold k given =
      let t = node_branch plan program call first (conjunct_hold info k first hold given) in
      gifts_are rest info hold (suc k) (given ++ gives t) ∙ append_all given (gives t) (all_give (conjunct_branches plan program call info hold (suc k) rest (given ++ gives t)))

  basic_tells : (goal : BasicGoal) (next : ℕ) (known : ℕ → Option Value) (hold : Hold) → HoldKnown next known hold → Tells next known (basic_branch plan program call goal hold)
  basic_tells True next known hold w = (w, λ other a. tt)
  basic_tells Fail next known hold w = tt
  basic_tells (Assign to from) next known hold w = traced_tells next known hold w (binds hold.env to (value_at hold.env from))
  basic_tells (Test one other) next known hold w = traced_tells next known hold w (compared hold.env same (value_at hold.env one) (value_at hold.env other))
  basic_tells (Build root symbol arguments) next known hold w = traced_tells next known hold w (binds hold.env root (made_if symbol (values_at hold.env arguments)))
  basic_tells (Split root symbol arguments) next known hold w = traced_tells next known hold w (split hold.env symbol arguments (value_at hold.env root))
  basic_tells (Arithmetic operation result left right) next known hold w =
      traced_tells next known hold w (operated hold.env operation result (value_at hold.env left) (value_at hold.env right))
  basic_tells (Compare test left right) next known hold w = traced_tells next known hold w (compared hold.env (comparison_of test) (value_at hold.env left) (value_at hold.env right))
  basic_tells (Raise text) next known hold w = traced_tells next known hold w (raised (value_at hold.env text))
  basic_tells (Call procedure arguments) next known hold w = called_tells (call procedure) (calls procedure) next known (program procedure) arguments hold w
  basic_tells (Wait variable conjunct) next known hold w =
      awaited_tells next known hold variable w (wait_for variable hold.waits)
      (wait_known known variable hold.waits (each_more (IsLow next known) (IsKnown known) (λ right h. h.1) hold.waits w.0))
  basic_tells (Signal variable conjunct) next known hold w = signalled_tells next known hold (signal_cell (signal_for variable hold.signals)) w (value_at hold.env variable)

  mutual
    goal_tells : (goal : Goal) → PromptGoal plan goal → (next : ℕ) (known : ℕ → Option Value) (hold : Hold) → HoldKnown next known hold → Tells next known (goal_branch plan program call goal hold)
    goal_tells goal (basic one) next known hold w = basic_tells one next known hold w
    goal_tells goal (in_turn goals p) next known hold w = all_tells [] goals p next known hold (low_pends next known hold.waits w.0) w.1
    goal_tells goal (unplanned goals p) next known hold w = all_tells [] goals p next known hold (low_pends next known hold.waits w.0) w.1
    goal_tells goal (forked site goals p e) next known hold w =
        let info = info_of (plan site.number) in
        let x = fork_of info goals hold in
        let ks = conjunct_branches plan program call info hold 1 goals [] in
        let gs = conjunct_gifts plan program call info hold 1 goals [] in
        let anew = known_anew known x (all_give ks) in (
          fork_high info hold next w.1.0,
          (
            each_tells goals goals p info next known hold w 1 [],
            (
              (
                all_low next anew (hold_behind info hold gs).waits
                    (subst (λ v. Pends next anew v (hold_behind info hold gs).waits) e
                    (subst (λ g. Pends next (known_anew known x g) (bound_behind info.cells) (hold_behind info hold gs).waits) (gifts_are goals info hold 1 []) (behind_pends next known info hold gs w))),
                behind_begins next known info hold gs (all_give ks) w,
              ),
              λ other a. tt,
            ),
          ),
        )
    goal_tells goal (any_of goals p) next known hold w = any_tells goals p next known hold w
    goal_tells goal (switched variable arms p) next known hold w = arms_tells arms p (value_at hold.env variable) next known hold w
    goal_tells goal (conditional condition then_part else_part pc pt pe) next known hold w =
        tells_choose next (λ inner. node_branch plan program call then_part inner) (node_branch plan program call else_part hold)
        (λ other inner v. node_tells then_part pt next other inner v) (node_branch plan program call condition hold) known
        (λ other a. node_tells else_part pe next other hold (hold_agree next known other hold a w)) (node_tells condition pc next known hold w)
    goal_tells goal (negation inner p) next known hold w = tells_negated next hold (node_branch plan program call inner hold) known w (node_tells inner p next known hold w)
    goal_tells goal (quantified own inner p) next known hold w = node_tells inner p next known hold w

    pub node_tells : (goal : Node) → Prompt plan goal → (next : ℕ) (known : ℕ → Option Value) (hold : Hold) → HoldKnown next known hold → Tells next known (node_branch plan program call goal hold)
    node_tells whole (prompt goal outputs category span p) next known hold w =
        tells_once next (answers_once outputs category) (goal_branch plan program call goal hold) known (goal_tells goal p next known hold w)

    all_tells : (pending : List ℕ) (goals : Nodes) → AllPrompt plan pending goals → (next : ℕ) (known : ℕ → Option Value) (hold : Hold) → Pends next known pending hold.waits → Begins next known hold
        → Tells next known (all_branch plan program call goals hold)
    all_tells pending goals all_none next known hold w b = ((all_low next known hold.waits w, b), λ other a. tt)
    all_tells pending goals (all_first first rest p ps) next known hold w b =
        tells_each next (λ inner. all_branch plan program call rest inner)
        (λ other inner v. all_tells [] rest ps next other inner (low_pends next other inner.waits v.0) v.1) (node_branch plan program call first hold) known
        (node_tells first p next known hold (all_low next known hold.waits w, b))
    all_tells pending goals (all_fork site conjuncts outputs category span rest p ps) next known hold w b =
        let info = info_of (plan site.number) in
        let x = fork_of info conjuncts hold in
        let ks = conjunct_branches plan program call info hold 1 conjuncts [] in
        let gs = conjunct_gifts plan program call info hold 1 conjuncts [] in
        let held : HoldKnown next known hold = (all_low next known hold.waits w, b) in
        fork_each next known (λ inner. all_branch plan program call rest inner) (answers_once outputs category) site.number x ks (hold_behind info hold gs) (fork_high info hold next b.0)
        (each_tells conjuncts conjuncts p info next known hold held 1 [])
        (all_tells (bound_behind info.cells) rest ps next (known_anew known x (all_give ks)) (hold_behind info hold gs)
        (subst (λ g. Pends next (known_anew known x g) (bound_behind info.cells) (hold_behind info hold gs).waits) (gifts_are conjuncts info hold 1 []) (behind_pends next known info hold gs held))
        (behind_begins next known info hold gs (all_give ks) held))
    all_tells pending goals (all_wait variable conjunct outputs category span before rest ps) next known hold w b =
        wait_each next known (λ inner. all_branch plan program call rest inner) hold variable (answers_once outputs category) b.1.1 (wait_for variable hold.waits)
        (wait_known known variable hold.waits (all_known next known hold.waits pending w))
        (λ value. all_tells (removed variable pending) rest ps next known
        (record { env = with_entry hold.env variable (Some value); waits = without_wait variable hold.waits; signals = hold.signals; next = hold.next })
        (pends_without next known variable pending hold.waits w) b)

    any_tells : (goals : Nodes) → EachPrompt plan goals → (next : ℕ) (known : ℕ → Option Value) (hold : Hold) → HoldKnown next known hold → Tells next known (any_branch plan program call goals hold)
    any_tells goals each_none next known hold w = tt
    any_tells goals (each_first first rest p ps) next known hold w =
        tells_after next (node_branch plan program call first hold) (any_branch plan program call rest hold) known (node_tells first p next known hold w)
        (λ other a. any_tells rest ps next other hold (hold_agree next known other hold a w))

    arms_tells : (arms : Arms) → ArmsPrompt plan arms → (value : Option Value) (next : ℕ) (known : ℕ → Option Value) (hold : Hold) → HoldKnown next known hold
        → Tells next known (arms_branch plan program call arms value hold)
    arms_tells arms arms_none value next known hold w = tt
    arms_tells arms (arms_first symbol body rest p ps) value next known hold w =
        arm_tells next known value symbol (node_branch plan program call body hold) (arms_branch plan program call rest value hold) (node_tells body p next known hold w)
        (arms_tells rest ps value next known hold w)

    each_tells : (all goals : Nodes) → EachPrompt plan goals → (info : SiteInfo) (next : ℕ) (known : ℕ → Option Value) (hold : Hold) → HoldKnown next known hold → (k : ℕ) (given : List Gift)
        → AllTell known (fork_of info all hold) given (conjunct_branches plan program call info hold k goals given)
    each_tells all goals each_none info next known hold w k given = tt
    each_tells all goals (each_first first rest p ps) info next known hold w k given = (
      (
        hold.next + length info.cells,
        node_tells first p (hold.next + length info.cells) (known_anew known (fork_of info all hold) given) (conjunct_hold info k first hold given) (conjunct_known next known info k first hold given w),
      ),
      each_tells all rest ps info next known hold w (suc k) (given ++ gives (node_branch plan program call first (conjunct_hold info k first hold given))),
    )

-- each body uses its forks' cells directly behind them
abbrev pub ArePrompt : Plan → Program → Type 0
ArePrompt plan program = (procedure : Procedure) (body : ProcedureBody) → program procedure ≡ Some body → Prompt plan body.body

body_tells : (plan : Plan) (program : Program) (call : Procedure → Hold → BranchCourse) → ((procedure : Procedure) → CallTells (call procedure)) → (body : Option ProcedureBody)
    → ((one : ProcedureBody) → body ≡ Some one → Prompt plan one.body) → CallTells (body_branch plan program call body)
body_tells plan program call calls None p next known hold w = tt
body_tells plan program call calls (Some procedure) p next known hold w = node_tells plan program call calls procedure.body (p procedure refl) next known hold w

pub call_tells : (plan : Plan) (program : Program) → ArePrompt plan program → (depth : ℕ) (procedure : Procedure) → CallTells (call_branch plan program depth procedure)
call_tells plan program p zero procedure next known hold w = tt
call_tells plan program p (suc depth) procedure next known hold w =
    body_tells plan program (call_branch plan program depth) (λ other. call_tells plan program p depth other) (program procedure) (λ one e. p procedure one e) next known hold w

-- a branch that holds nothing
pub root_tells : (plan : Plan) (program : Program) → ArePrompt plan program → (depth : ℕ) (goal : Node) → Prompt plan goal → Tells first_name (λ c. None) (root_branch plan program depth goal)
root_tells plan program p depth goal q =
    node_tells plan program (call_branch plan program depth) (λ procedure. call_tells plan program p depth procedure) goal q first_name (λ c. None) (holding [] first_name) (tt, (refl, (omega arith, refl)))
