-- What is left to do when a task has been done.
use Rattle.std.specs.Prelude.{◌≡◌, ◌≤◌, ◌<◌, ◌+◌, ◌-◌, ℕ, zero, suc, Bool, true, false, List, [], ◌∷◌, ◌++◌, length, map, take, drop, Option, refl, if◌then◌else◌}
use Rattle.std.proofs.Common.{◌∙◌, ap, sym, subst, arith}
use Rattle.std.proofs.lemmas.List.{append_assoc, append-nil, length-append, length-map, length-take-le}
use Rattle.merc_base.specs.declared.category.Category.{Category}
use Rattle.merc_base.specs.declared.place.Span.{Span}
use Rattle.merc_graded_tree.specs.declared.entries.Label.{Label}
use Rattle.merc_graded_tree.specs.Labels.{labels_of}
use Rattle.merc_graded_tree.specs.Nodes.{Node, node, category_of, span_of}
use Rattle.merc_graded_tree.specs.Roots.{arity_of, last_joined, labelled}
use Rattle.merc_rights.specs.Rights.{Right, wait_at, signal_at, around}
use Rattle.merc_par_split.specs.Split.{may_fail, split}
use Rattle.merc_par_split.specs.Sites.{sites}
use Rattle.merc_par_split.specs.Outcomes.{outcome, entered}
use Rattle.merc_par_split.specs.Tasks.{Progress, with_goals, with_outcome, node_entered, after, after_all, HaveEnough, effort, total, LiesTask, AllLie, Performs, wraps, placed_tasks}
use Rattle.merc_rights.specs.Places.{Lies}
use Rattle.merc_rights.specs.declared.rights.Awaited.{Awaited}
use Rattle.merc_rights.specs.declared.sites.SiteInfo.{SiteInfo}
use Rattle.merc_par_split.specs.declared.tasks.Placing.{Placing}
use Rattle.merc_par_split.specs.declared.tasks.Task.{Task}
use Rattle.merc_par_split.specs.declared.tasks.Task.TheVariants.{Place, Enter, Waits, Signals, Close}
use Rattle.merc_par_split.proofs.OutcomeLaws.{split_is}
use Rattle.merc_par_split.proofs.StepLaws.{at_with, after-append, frame, outcome-frame, wrapped}

-- A goal without rights to signal comes out as one into which they go.
entered_frame : (site : ℕ) (waits : List Awaited) (whole : Node) → frame (node_entered site waits [] whole).0 ≡ frame whole
entered_frame site waits (node g outputs category span) =
    sym (ap (λ (p : Node × List SiteInfo). frame p.0) (by (may_fail category))) ∙ outcome-frame site waits [] (node g outputs category span)
  where
    by : (b : Bool) → ◌≡◌ {A = Node × List SiteInfo}
        (if b then (around [] [] (entered site waits [] g outputs category span).0, (entered site waits [] g outputs category span).1) else entered site waits [] g outputs category span)
        (entered site waits [] g outputs category span)
    by true = refl
    by false = refl

-- what is left of a goal, where signals do not go into it, and where they do
abbrev placed_if : Bool → Placing → List Task
placed_if true placing =
    Enter (record { goal = placing.goal; first = placing.first; waits = placing.waits; signals = [] }) ∷ Signals placing.signals (span_of placing.goal) ∷ wraps (length placing.signals) placing.goal
placed_if false placing = Enter placing ∷ []

placed_either : (b : Bool) (placing : Placing)
    → (if b then Enter (record { goal = placing.goal; first = placing.first; waits = placing.waits; signals = [] }) ∷ Signals placing.signals (span_of placing.goal) ∷ wraps (length placing.signals) placing.goal
    else Enter placing ∷ []) ≡ placed_if b placing
placed_either true placing = refl
placed_either false placing = refl

apart_done : (placing : Placing) (at : Progress)
    → after_all (placed_if true placing) at
    ≡ with_outcome at (around [] placing.signals (node_entered (length at.sites) placing.waits [] placing.goal).0, (node_entered (length at.sites) placing.waits [] placing.goal).1)
apart_done placing at =
    let e = node_entered (length at.sites) placing.waits [] placing.goal in
    let count = length placing.signals in
    let same = entered_frame (length at.sites) placing.waits placing.goal in
    let size : length (map (signal_at (span_of e.0)) placing.signals) ≡ length placing.signals = length-map placing.signals (signal_at (span_of e.0)) in
    ap (λ g. after_all (wraps count placing.goal) (at_with g (at.sites ++ e.1)))
    (append_assoc at.goals (e.0 ∷ []) (map (signal_at (span_of placing.goal)) placing.signals)
    ∙ ap (λ (f : List ℕ × (Option Category × Span)). at.goals ++ e.0 ∷ map (signal_at f.1.1) placing.signals) (sym same))
    ∙ wrapped (at_with at.goals (at.sites ++ e.1)) e.0 placing.goal [] (map (signal_at (span_of e.0)) placing.signals) count same (omega (arith, size))

place_done : (goal : Node) (first : ℕ) (waits : List Awaited) (signals : List Right) (at : Progress)
    → after_all (placed_if (may_fail (category_of goal)) (record { goal = goal; first = first; waits = waits; signals = signals })) at
    ≡ with_outcome at (outcome (length at.sites) waits signals goal)
place_done (node g outputs category span) first waits signals at = by (may_fail category)
  where
    site : ℕ
    site = length at.sites

    by : (b : Bool) → after_all (placed_if b (record { goal = node g outputs category span; first = first; waits = waits; signals = signals })) at
        ≡ with_outcome at (if b then (around [] signals (entered (length at.sites) waits [] g outputs category span).0, (entered (length at.sites) waits [] g outputs category span).1)
        else entered (length at.sites) waits signals g outputs category span)
    by true = apart_done (record { goal = node g outputs category span; first = first; waits = waits; signals = signals }) at
    by false = refl

wraps_enough : (others count : ℕ) (goal : Node) (rest : List Task) → HaveEnough (suc count) rest → HaveEnough (suc count + others) (wraps others goal ++ rest)
wraps_enough zero count goal rest h = let e : suc count ≡ suc count + 0 = omega arith in subst (λ n. HaveEnough n rest) e h
wraps_enough (suc others) count goal rest h =
    let small : suc (suc others) ≤ suc count + suc others = omega arith in
    let e : suc count ≡ suc (suc count + suc others - suc (suc others)) = omega arith in
    (small, subst (λ n. HaveEnough n rest) e h)

wraps_total : (others : ℕ) (goal : Node) (rest : List Task) → total (wraps others goal ++ rest) ≤ 1 + total rest
wraps_total zero goal rest = omega arith
wraps_total (suc others) goal rest = omega arith

wraps_lie : (others : ℕ) (whole goal : Node) (rest : List Task) → AllLie whole rest → AllLie whole (wraps others goal ++ rest)
wraps_lie zero whole goal rest h = h
wraps_lie (suc others) whole goal rest h = (tt, h)

placed_enough : (b : Bool) (placing : Placing) (rest : List Task) (count : ℕ) → HaveEnough (suc count) rest → HaveEnough count (placed_if b placing ++ rest)
placed_enough true placing rest count h = wraps_enough (length placing.signals) count placing.goal rest h
placed_enough false placing rest count h = h

placed_smaller : (b : Bool) (placing : Placing) (rest : List Task) → total (placed_if b placing ++ rest) < total (Place placing ∷ rest)
placed_smaller true placing rest = let small = wraps_total (length placing.signals) placing.goal rest in omega (arith, small)
placed_smaller false placing rest = omega arith

placed_lie : (b : Bool) (whole : Node) (placing : Placing) (rest : List Task) → AllLie whole (Place placing ∷ rest) → AllLie whole (placed_if b placing ++ rest)
placed_lie true whole placing rest h = (h.0, (tt, wraps_lie (length placing.signals) whole placing.goal rest h.1))
placed_lie false whole placing rest h = h

place_performs : (whole : Node) (placing : Placing) (rest tasks : List Task) (at : Progress) → tasks ≡ placed_tasks placing ++ rest → Performs whole (Place placing) rest at tasks at
place_performs whole placing rest tasks at is =
    let b = may_fail (category_of placing.goal) in
    let e : placed_if b placing ++ rest ≡ tasks = sym (is ∙ ap (λ l. l ++ rest) (placed_either b placing)) in
    subst (λ l. Performs whole (Place placing) rest at l at) e (record {
      same = after-append (placed_if b placing) rest at ∙ ap (λ p. after_all rest p) (place_done placing.goal placing.first placing.waits placing.signals at);
      enough = λ h. placed_enough b placing rest (length at.goals) h;
      smaller = placed_smaller b placing rest;
      lie = λ h. placed_lie b whole placing rest h;
    })

pub place_step : (whole : Node) (task : Task) (placing : Placing) (rest tasks : List Task) (at : Progress) → task ≡ Place placing → tasks ≡ placed_tasks placing ++ rest
    → Performs whole task rest at tasks at
place_step whole task placing rest tasks at is h = subst (λ t. Performs whole t rest at tasks at) (sym is) (place_performs whole placing rest tasks at h)

pub enter_step : (whole : Node) (task : Task) (placing : Placing) (rest tasks : List Task) (goals : List Node) (before now : List SiteInfo) → task ≡ Enter placing
    → ((all : List Node) → Performs whole (Enter placing) rest (at_with all before) tasks (at_with all now)) → Performs whole task rest (at_with goals before) tasks (at_with goals now)
enter_step whole task placing rest tasks goals before now is h = subst (λ t. Performs whole t rest (at_with goals before) tasks (at_with goals now)) (sym is) (h goals)

-- what a task asks for
pub enter_lies : (whole : Node) (task : Task) (placing : Placing) → task ≡ Enter placing → LiesTask whole task → Lies (labels_of whole) placing.first (labels_of placing.goal)
enter_lies whole task placing is h = subst (λ t. LiesTask whole t) is h

pub close_enough : (task : Task) (label : Label) (rest : List Task) (count : ℕ) → task ≡ Close label → HaveEnough count (task ∷ rest) → arity_of label.root ≤ count
close_enough task label rest count is h = (enough_of (subst (λ t. HaveEnough count (t ∷ rest)) is h)).0
  where
    enough_of : HaveEnough count (Close label ∷ rest) → (arity_of label.root ≤ count) × HaveEnough (suc (count - arity_of label.root)) rest
    enough_of k = k

-- goals are put
put_performs : (whole : Node) (task : Task) (rest : List Task) (puts goals goals' : List Node) (sites : List SiteInfo) → after task (at_with goals sites) ≡ with_goals (at_with goals sites) puts
    → (HaveEnough (length goals) (task ∷ rest) → HaveEnough (length goals + length puts) rest) → effort task ≡ 1 → goals' ≡ goals ++ puts
    → Performs whole task rest (at_with goals sites) rest (at_with goals' sites)
put_performs whole task rest puts goals goals' sites does enough small is =
    subst (λ l. Performs whole task rest (at_with goals sites) rest (at_with l sites)) (sym is) (record {
      same = ap (λ p. after_all rest p) (sym does);
      enough = λ h. subst (λ n. HaveEnough n rest) (sym (length-append goals puts)) (enough h);
      smaller = omega (arith, small);
      lie = λ h. h.1;
    })

waits_performs : (whole : Node) (rights : List Right) (span : Span) (rest : List Task) (goals goals' : List Node) (sites : List SiteInfo) → goals' ≡ goals ++ map (wait_at span) rights
    → Performs whole (Waits rights span) rest (at_with goals sites) rest (at_with goals' sites)
waits_performs whole rights span rest goals goals' sites is =
    put_performs whole (Waits rights span) rest (map (wait_at span) rights) goals goals' sites refl
    (λ h. subst (λ n. HaveEnough (length goals + n) rest) (sym (length-map rights (wait_at span))) h) refl is

signals_performs : (whole : Node) (rights : List Right) (span : Span) (rest : List Task) (goals goals' : List Node) (sites : List SiteInfo) → goals' ≡ goals ++ map (signal_at span) rights
    → Performs whole (Signals rights span) rest (at_with goals sites) rest (at_with goals' sites)
signals_performs whole rights span rest goals goals' sites is =
    put_performs whole (Signals rights span) rest (map (signal_at span) rights) goals goals' sites refl
    (λ h. subst (λ n. HaveEnough (length goals + n) rest) (sym (length-map rights (signal_at span))) h) refl is

-- how many goals there are when the last ones have become one
joined_count : (label : Label) (goals : List Node) → length (last_joined label goals) ≡ suc (length goals - arity_of label.root)
joined_count label goals =
    let kept = length goals - arity_of label.root in
    let below : kept ≤ length goals = omega arith in
    let front = length-take-le kept goals below in
    let sum = length-append (take kept goals) (labelled label (drop kept goals) ∷ []) in
    omega (arith, front, sum)

close_performs : (whole : Node) (label : Label) (rest : List Task) (goals goals' : List Node) (sites : List SiteInfo) → goals' ≡ last_joined label goals
    → Performs whole (Close label) rest (at_with goals sites) rest (at_with goals' sites)
close_performs whole label rest goals goals' sites is =
    subst (λ l. Performs whole (Close label) rest (at_with goals sites) rest (at_with l sites)) (sym is) (record {
      same = refl;
      enough = λ h. subst (λ n. HaveEnough n rest) (sym (joined_count label goals)) h.1;
      smaller = omega arith;
      lie = λ h. h.1;
    })

pub waits_step : (whole : Node) (task : Task) (rights list : List Right) (span : Span) (rest : List Task) (goals goals' : List Node) (sites : List SiteInfo) → task ≡ Waits rights span
    → list ≡ rights → goals' ≡ goals ++ map (wait_at span) list → Performs whole task rest (at_with goals sites) rest (at_with goals' sites)
waits_step whole task rights list span rest goals goals' sites is e h =
    subst (λ t. Performs whole t rest (at_with goals sites) rest (at_with goals' sites)) (sym is)
    (waits_performs whole rights span rest goals goals' sites (h ∙ ap (λ l. goals ++ map (wait_at span) l) e))

pub signals_step : (whole : Node) (task : Task) (rights list : List Right) (span : Span) (rest : List Task) (goals goals' : List Node) (sites : List SiteInfo) → task ≡ Signals rights span
    → list ≡ rights → goals' ≡ goals ++ map (signal_at span) list → Performs whole task rest (at_with goals sites) rest (at_with goals' sites)
signals_step whole task rights list span rest goals goals' sites is e h =
    subst (λ t. Performs whole t rest (at_with goals sites) rest (at_with goals' sites)) (sym is)
    (signals_performs whole rights span rest goals goals' sites (h ∙ ap (λ l. goals ++ map (signal_at span) l) e))

pub close_step : (whole : Node) (task : Task) (label : Label) (rest : List Task) (goals goals' : List Node) (sites : List SiteInfo) → task ≡ Close label
    → goals' ≡ last_joined label goals → Performs whole task rest (at_with goals sites) rest (at_with goals' sites)
close_step whole task label rest goals goals' sites is h =
    subst (λ t. Performs whole t rest (at_with goals sites) rest (at_with goals' sites)) (sym is) (close_performs whole label rest goals goals' sites h)

-- What a goal without rights leads to is its split tree and its sites.
pub all_performed : (whole : Node) (tasks : List Task) (goals goals' : List Node) (before now : List SiteInfo) → tasks ≡ []
    → after_all tasks (at_with goals' now) ≡ with_outcome (at_with goals before) (outcome (length before) [] [] whole)
    → (goals' ≡ goals ++ split (length before) whole ∷ []) × (now ≡ before ++ sites whole)
all_performed whole tasks goals goals' before now none h =
    let e = sym (ap (λ l. after_all l (at_with goals' now)) none) ∙ h ∙ ap (λ (p : Node × List SiteInfo). with_outcome (at_with goals before) p) (split_is (length before) whole) in
    (ap (λ (p : Progress). p.goals) e, ap (λ (p : Progress). p.sites) e)

pub first_performed : (whole : Node) (tasks : List Task) (goals goals' : List Node) (before now : List SiteInfo)
    → tasks ≡ Place (record { goal = whole; first = 0; waits = []; signals = [] }) ∷ [] → after_all tasks (at_with goals before) ≡ at_with goals' now
    → (goals' ≡ goals ++ split (length before) whole ∷ []) × (now ≡ before ++ sites whole)
first_performed whole tasks goals goals' before now is h =
    all_performed whole [] goals goals' before now refl (sym h ∙ ap (λ l. after_all l (at_with goals before)) is)

-- the first task

pub first_lies : (whole : Node) (tasks : List Task) → tasks ≡ Place (record { goal = whole; first = 0; waits = []; signals = [] }) ∷ [] → AllLie whole tasks
first_lies whole tasks is =
    subst (λ l. AllLie whole l) (sym is) (record { front = []; back = []; are = sym (append-nil (labels_of whole)); count = refl }, tt)

pub first_enough : (whole : Node) (tasks : List Task) (count : ℕ) → tasks ≡ Place (record { goal = whole; first = 0; waits = []; signals = [] }) ∷ [] → HaveEnough count tasks
first_enough whole tasks count is = subst (λ l. HaveEnough count l) (sym is) tt
