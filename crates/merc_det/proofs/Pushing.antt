-- Goals that are taken from the last to the first, and what is pushed for them.
use Rattle.std.specs.Prelude.{◌≡◌, ◌<◌, ◌≤◌, ◌⊎◌, nat_lt, ℕ, true, false, List, [], ◌∷◌, ◌++◌, length, reverse, Option, Some, None, refl, if◌then◌else◌}
use Rattle.std.specs.List.{slice_get}
use Rattle.std.proofs.Common.{◌∙◌, ap, sym, arith, inl, inr}
use Rattle.std.proofs.lemmas.Bool.{cases_lt}
use Rattle.std.proofs.lemmas.Bool.Decides.{nat_tests}
use Rattle.std.proofs.lemmas.List.{append_assoc, append-nil}
use Rattle.merc_goal_tree.specs.declared.goal.Symbol.{Symbol}
use Rattle.merc_graded_tree.specs.Views.{viewed}
use Rattle.merc_graded_tree.specs.declared.entries.Running.{Running}
use Rattle.merc_graded_tree.specs.declared.node_ref.NodeView.{NodeView}
use Rattle.merc_graded_tree.specs.declared.node_ref.NodeView.TheVariants.{Conjunction as ConjunctionView, Disjunction as DisjunctionView}
use Rattle.merc_graded_tree.specs.Nodes.{Node, nodes_of}
use Rattle.merc_graded_tree.specs.Roots.{arms_of, bodies_of, goals_in}
use Rattle.merc_graded_tree.proofs.JoinLaws.{arms_none, arms_past, list_of-nodes_of}
use Rattle.merc_graded_tree.proofs.Reversed.{reversed_step}
use Rattle.merc_det.specs.Tasks.{conjunct_task, tasks_in_turn, tell_tasks, choice_tasks, arm_task, arm_tasks}
use Rattle.merc_det.specs.declared.planning.Task.{Task}
use Rattle.merc_det.specs.declared.planning.Task.TheVariants.{Grade, Tell, Learn, Forget}

-- what is to come loses what is pushed
pub step : {X : Type 0} (old new pushed later rest whole : List X) → new ≡ old ++ pushed → later ≡ pushed ++ rest → old ++ later ≡ whole → new ++ rest ≡ whole
step old new pushed later rest whole e f same =
    ap (λ l. l ++ rest) e ∙ append_assoc old pushed rest ∙ ap (λ l. old ++ l) (sym f) ∙ same

-- goals one after the other, or beside one another

in_turn-last : (running : Running) (goals : List Node) (last : Node) → tasks_in_turn running (nodes_of (goals ++ last ∷ [])) ≡ conjunct_task running last ∷ tasks_in_turn running (nodes_of goals)
in_turn-last running [] last = refl
in_turn-last running (first ∷ rest) last = ap (λ l. l ++ conjunct_task running first ∷ []) (in_turn-last running rest last)

pub in_turn_step : (running : Running) (old new : List Task) (goals left : List Node) (last : Node) (task : Task) (whole : List Task) → goals ≡ left ++ last ∷ [] → task ≡ conjunct_task running last
    → new ≡ old ++ task ∷ [] → old ++ tasks_in_turn running (nodes_of goals) ≡ whole → new ++ tasks_in_turn running (nodes_of left) ≡ whole
in_turn_step running old new goals left last task whole e t f same =
    step old new (task ∷ []) (tasks_in_turn running (nodes_of goals)) (tasks_in_turn running (nodes_of left)) whole f
    (ap (λ l. tasks_in_turn running (nodes_of l)) e ∙ in_turn-last running left last ∙ ap (λ one. one ∷ tasks_in_turn running (nodes_of left)) (sym t)) same

-- goals that tell again what they tell

tell-last : (goals : List Node) (last : Node) → tell_tasks (nodes_of (goals ++ last ∷ [])) ≡ Tell last ∷ tell_tasks (nodes_of goals)
tell-last [] last = refl
tell-last (first ∷ rest) last = ap (λ l. l ++ Tell first ∷ []) (tell-last rest last)

pub tell_step : (old new : List Task) (goals left : List Node) (last : Node) (whole : List Task) → goals ≡ left ++ last ∷ [] → new ≡ old ++ Tell last ∷ []
    → old ++ tell_tasks (nodes_of goals) ≡ whole → new ++ tell_tasks (nodes_of left) ≡ whole
tell_step old new goals left last whole e f same =
    step old new (Tell last ∷ []) (tell_tasks (nodes_of goals)) (tell_tasks (nodes_of left)) whole f
    (ap (λ l. tell_tasks (nodes_of l)) e ∙ tell-last left last) same

-- disjuncts

choices-last : (known : ℕ) (goals : List Node) (last : Node) → choice_tasks known (nodes_of (goals ++ last ∷ [])) ≡ Forget known ∷ Grade last ∷ choice_tasks known (nodes_of goals)
choices-last known [] last = refl
choices-last known (first ∷ rest) last = ap (λ l. l ++ Forget known ∷ Grade first ∷ []) (choices-last known rest last)

pub choices_step : (known : ℕ) (old new : List Task) (goals left : List Node) (last : Node) (whole : List Task) → goals ≡ left ++ last ∷ []
    → new ≡ old ++ Forget known ∷ Grade last ∷ [] → old ++ choice_tasks known (nodes_of goals) ≡ whole → new ++ choice_tasks known (nodes_of left) ≡ whole
choices_step known old new goals left last whole e f same =
    step old new (Forget known ∷ Grade last ∷ []) (choice_tasks known (nodes_of goals)) (choice_tasks known (nodes_of left)) whole f
    (ap (λ l. choice_tasks known (nodes_of l)) e ∙ choices-last known left last) same

-- arms

arms-last : (known variable : ℕ) (symbols : List Symbol) (goals : List Node) (last : Node)
    → arm_tasks known variable (arms_of symbols (goals ++ last ∷ [])) ≡ arm_task known variable (slice_get symbols (length goals)) last ++ arm_tasks known variable (arms_of symbols goals)
arms-last known variable [] [] last = refl
arms-last known variable [] (goal ∷ goals) last = refl
arms-last known variable (first ∷ []) [] last = refl
arms-last known variable (first ∷ second ∷ rest) [] last = refl
arms-last known variable (first ∷ rest) (goal ∷ goals) last =
    let one = arm_task known variable (Some first) goal in
    ap (λ l. l ++ one) (arms-last known variable rest goals last)
    ∙ append_assoc (arm_task known variable (slice_get rest (length goals)) last) (arm_tasks known variable (arms_of rest goals)) one

pub arm_step : (known variable : ℕ) (symbols : List Symbol) (old new : List Task) (goals left : List Node) (last : Node) (index : ℕ) (whole : List Task) → goals ≡ left ++ last ∷ []
    → index ≡ length left → new ≡ old ++ arm_task known variable (slice_get symbols index) last
    → old ++ arm_tasks known variable (arms_of symbols goals) ≡ whole → new ++ arm_tasks known variable (arms_of symbols left) ≡ whole
arm_step known variable symbols old new goals left last index whole e i f same =
    step old new (arm_task known variable (slice_get symbols index) last) (arm_tasks known variable (arms_of symbols goals)) (arm_tasks known variable (arms_of symbols left)) whole f
    (ap (λ l. arm_tasks known variable (arms_of symbols l)) e ∙ arms-last known variable symbols left last
    ∙ ap (λ n. arm_task known variable (slice_get symbols n) last ++ arm_tasks known variable (arms_of symbols left)) (sym i)) same

pub arms_end : (known variable : ℕ) (symbols : List Symbol) (tasks : List Task) (left : List Node) (whole : List Task) → left ≡ []
    → tasks ++ arm_tasks known variable (arms_of symbols left) ≡ whole → tasks ≡ whole
arms_end known variable symbols tasks left whole e same =
    sym (append-nil tasks) ∙ sym (ap (λ l. tasks ++ arm_tasks known variable (arms_of symbols l)) e ∙ ap (λ a. tasks ++ arm_tasks known variable a) (arms_none symbols)) ∙ same

bodies-last : (symbols : List Symbol) (goals : List Node) (last : Node) → length goals < length symbols
    → bodies_of (arms_of symbols (goals ++ last ∷ [])) ≡ bodies_of (arms_of symbols goals) ++ last ∷ []
bodies-last [] goals last h = absurd (omega (arith, h))
bodies-last (first ∷ []) [] last h = refl
bodies-last (first ∷ second ∷ rest) [] last h = refl
bodies-last (first ∷ rest) (goal ∷ goals) last h =
    let k : length goals < length rest = omega (arith, h) in ap (λ l. goal ∷ l) (bodies-last rest goals last k)

bodies_kept : (symbols : List Symbol) (old new goals left : List Node) (last : Node) (whole : List Node) → goals ≡ left ++ last ∷ [] → length left < length symbols
    → new ≡ old ++ last ∷ [] → old ++ reverse (bodies_of (arms_of symbols goals)) ≡ whole → new ++ reverse (bodies_of (arms_of symbols left)) ≡ whole
bodies_kept symbols old new goals left last whole e h f same =
    reversed_step old new (bodies_of (arms_of symbols goals)) (bodies_of (arms_of symbols left)) last whole
    (ap (λ l. bodies_of (arms_of symbols l)) e ∙ bodies-last symbols left last h) f same

bodies_passed : (symbols : List Symbol) (old new goals left : List Node) (last : Node) (whole : List Node) → goals ≡ left ++ last ∷ [] → length symbols ≤ length left
    → new ≡ old → old ++ reverse (bodies_of (arms_of symbols goals)) ≡ whole → new ++ reverse (bodies_of (arms_of symbols left)) ≡ whole
bodies_passed symbols old new goals left last whole e h f same =
    ap (λ a. a ++ reverse (bodies_of (arms_of symbols left))) f
    ∙ ap (λ a. old ++ reverse (bodies_of a)) (sym (ap (arms_of symbols) e ∙ arms_past symbols left last h)) ∙ same

pub bodies_step : (symbols : List Symbol) (old new goals left : List Node) (last : Node) (index count : ℕ) (whole : List Node) → goals ≡ left ++ last ∷ []
    → index ≡ length left → count ≡ length symbols → new ≡ (if nat_lt index count then old ++ last ∷ [] else old)
    → old ++ reverse (bodies_of (arms_of symbols goals)) ≡ whole → new ++ reverse (bodies_of (arms_of symbols left)) ≡ whole
bodies_step symbols old new goals left last index count whole e i n f same = elim (cases_lt index count) as (λ _. new ++ reverse (bodies_of (arms_of symbols left)) ≡ whole) [
  | inl less ↦
      let yes : nat_lt index count ≡ true = grind (arith, nat_tests, less) in
      bodies_kept symbols old new goals left last whole e (omega (arith, less, i, n)) (f ∙ ap (λ b. if b then old ++ last ∷ [] else old) yes) same
  | inr past ↦
      let no : nat_lt index count ≡ false = grind (arith, nat_tests, past) in
      bodies_passed symbols old new goals left last whole e (omega (arith, past, i, n)) (f ∙ ap (λ b. if b then old ++ last ∷ [] else old) no) same
]

pub arm_put : (known variable : ℕ) (old between new : List Task) (found : Option Symbol) (symbol : Symbol) (body : Node) (at : Option Symbol) → found ≡ at → found ≡ Some symbol
    → between ≡ old ++ Forget known ∷ Grade body ∷ [] → new ≡ between ++ Learn variable symbol ∷ [] → new ≡ old ++ arm_task known variable at body
arm_put known variable old between new found symbol body at e s f g =
    g ∙ ap (λ l. l ++ Learn variable symbol ∷ []) f ∙ append_assoc old (Forget known ∷ Grade body ∷ []) (Learn variable symbol ∷ [])
    ∙ ap (λ o. old ++ arm_task known variable o body) (sym s ∙ e)

pub no_arm : (known variable : ℕ) (old : List Task) (found : Option Symbol) (body : Node) (at : Option Symbol) → found ≡ at → found ≡ None → old ≡ old ++ arm_task known variable at body
no_arm known variable old found body at e s = sym (append-nil old) ∙ ap (λ o. old ++ arm_task known variable o body) (sym s ∙ e)

pub bodies_end : (symbols : List Symbol) (pushed left whole : List Node) → left ≡ [] → pushed ++ reverse (bodies_of (arms_of symbols left)) ≡ whole → pushed ≡ whole
bodies_end symbols pushed left whole e same =
    sym (append-nil pushed) ∙ sym (ap (λ l. pushed ++ reverse (bodies_of (arms_of symbols l))) e ∙ ap (λ a. pushed ++ reverse (bodies_of a)) (arms_none symbols)) ∙ same

pub either_pushed : (view : NodeView) (goals old new : List Node) → ((running : Running) × (view ≡ ConjunctionView running goals)) ⊎ (view ≡ DisjunctionView goals)
    → new ≡ old ++ reverse goals → new ≡ old ++ reverse (goals_in (viewed view))
either_pushed view goals old new (inl (running, e)) f = f ∙ ap (λ l. old ++ reverse l) (sym (ap (λ v. goals_in (viewed v)) e ∙ list_of-nodes_of goals))
either_pushed view goals old new (inr e) f = f ∙ ap (λ l. old ++ reverse l) (sym (ap (λ v. goals_in (viewed v)) e ∙ list_of-nodes_of goals))
