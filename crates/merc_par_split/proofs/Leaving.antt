-- Tasks that are left for the goals which a goal joins.
use Rattle.std.specs.Prelude.{◌≡◌, ◌==◌, ◌+◌, ℕ, suc, List, [], ◌∷◌, ◌++◌, length, take, slice_index_or, Result, Ok, Err, OnOk, refl}
use Rattle.std.specs.List.{filter, flat_map}
use Rattle.std.proofs.Common.{◌∙◌, ap, sym, subst, arith}
use Rattle.std.proofs.Math.Seq.{take-append_seam}
use Rattle.std.proofs.lemmas.List.{append_assoc, append-nil, length-append, length-map}
use Rattle.merc_base.specs.declared.place.Span.{Span}
use Rattle.merc_graded_tree.specs.declared.entries.Label.{Label}
use Rattle.merc_goal_tree.specs.declared.goal.Symbol.{Symbol}
use Rattle.merc_graded_tree.specs.declared.entries.Root.{Root}
use Rattle.merc_graded_tree.specs.declared.entries.Root.TheVariants.{Conjunction, Conditional, Switch}
use Rattle.merc_graded_tree.specs.declared.entries.Running.TheVariants.{Sequential}
use Rattle.merc_graded_tree.specs.Nodes.{Node, span_of, nodes_of}
use Rattle.merc_graded_tree.specs.Labels.{labels_of, all_labels}
use Rattle.merc_graded_tree.specs.Variables.{in_node}
use Rattle.merc_rights.specs.Rights.{Right}
use Rattle.merc_rights.specs.Rows.{row_of}
use Rattle.merc_rights.specs.Groups.{numbered}
use Rattle.merc_rights.specs.Members.{turn_wait, turn_signal, wait_shares, signal_shares, pass_shares}
use Rattle.merc_rights.specs.Waits.{rights_of, those_waits, others, moves, stays}
use Rattle.merc_par_split.specs.Constructs.{whole_tasks, turn_tasks, arm_tasks, switch_tasks, conditional_tasks, site_tasks, FindsMoved, LeavesConjuncts}
use Rattle.merc_par_split.specs.Tasks.{Share, shares_of, relabelled, wraps, passing, member_tasks, closed}
use Rattle.merc_rights.specs.Places.{Lies, starts_of}
use Rattle.merc_rights.specs.declared.conjuncts.Found.{Found}
use Rattle.merc_rights.specs.declared.rights.Awaited.{Awaited}
use Rattle.merc_rights.specs.declared.sites.SiteInfo.{SiteInfo}
use Rattle.merc_par_split.specs.declared.tasks.Placing.{Placing}
use Rattle.merc_par_split.specs.declared.tasks.Task.{Task}
use Rattle.merc_par_split.specs.declared.tasks.Task.TheVariants.{Place, Waits, Signals, Close}
use Rattle.merc_rights.proofs.MemberLaws.{all_labels-append, start_at}

pub ok_weaker : {X Y : Type 0} (result : Result X Y) (P Q : Type 0) → (P → Q) → OnOk result P → OnOk result Q
ok_weaker (Ok x) P Q f holds = f holds
ok_weaker (Err e) P Q f holds = holds

pub ok_both : {X Y : Type 0} (result : Result X Y) (P Q R : Type 0) → (P → Q → R) → OnOk result P → OnOk result Q → OnOk result R
ok_both (Ok x) P Q R f one other = f one other
ok_both (Err e) P Q R f one other = one

abbrev placed : Node → ℕ → List Awaited → List Right → Task
placed goal first waits signals = Place (record { goal = goal; first = first; waits = waits; signals = signals })

abbrev share : Node → List Awaited → List Right → List Right → Share
share goal waits signals passed = record { goal = goal; waits = waits; signals = signals; passed = passed }

-- the loop over the members, from the last on

pub start_here : (first : ℕ) (goals front back : List Node) (starts : List ℕ) (number begin : ℕ) → goals ≡ front ++ back → starts ≡ starts_of first goals → number ≡ length front
    → begin ≡ slice_index_or starts number 0 → begin ≡ first + length (all_labels front)
start_here first goals front back starts number begin are s n b =
    b ∙ ap (λ l. slice_index_or l number 0) (s ∙ ap (starts_of first) are)
    ∙ start_at first number 0 (front ++ back) (omega (arith, n, length-append front back))
    ∙ ap (λ k. first + length (all_labels (take k (front ++ back)))) n
    ∙ ap (λ l. first + length (all_labels l)) (take-append_seam front back)

module _ (first : ℕ) (front rest : List Node) (goal : Node) (waits : List (ℕ × Awaited)) (signals passed : List (ℕ × Right)) where
  abbrev begin : ℕ
  begin = first + length (all_labels front)

  past_it : first + length (all_labels (front ++ goal ∷ [])) ≡ begin + length (labels_of goal)
  past_it =
      let size = length-append (all_labels front) (labels_of goal ++ []) in
      ap (λ l. first + length l) (all_labels-append front (goal ∷ []))
      ∙ ap (λ n. first + n) size ∙ ap (λ l. first + (length (all_labels front) + length l)) (append-nil (labels_of goal))
      ∙ (let n = length (all_labels front) in let k = length (labels_of goal) in let e : first + (n + k) ≡ (first + n) + k = omega arith in e)

  one_more : length (front ++ goal ∷ []) ≡ suc (length front)
  one_more = let e = length-append front (goal ∷ []) in omega (arith, e)

  pub next_member : (whole : List Node) (number start : ℕ) (own : List Awaited) (binds behind : List Right) (base old left now : List Task)
      → whole ≡ front ++ goal ∷ [] → number ≡ length front → start ≡ begin → own ≡ row_of number waits → binds ≡ row_of number signals → behind ≡ row_of number passed
      → old ≡ member_tasks (first + length (all_labels whole)) (shares_of (length whole) rest waits signals passed) ++ base
      → left ≡ passing goal behind ++ old → now ≡ placed goal start own binds ∷ left
      → now ≡ member_tasks begin (shares_of (length front) (goal ∷ rest) waits signals passed) ++ base
  next_member whole number start own binds behind base old left now are n s w g p o l e =
      e
      ∙ ap (λ k. placed goal k own binds ∷ left) s
      ∙ ap (λ r. placed goal begin r binds ∷ left) (w ∙ ap (λ k. row_of k waits) n)
      ∙ ap (λ r. placed goal begin (row_of (length front) waits) r ∷ left) (g ∙ ap (λ k. row_of k signals) n)
      ∙ ap (λ t. placed goal begin (row_of (length front) waits) (row_of (length front) signals) ∷ t)
      (l ∙ ap (λ r. passing goal r ++ old) (p ∙ ap (λ k. row_of k passed) n)
      ∙ ap (λ t. passing goal (row_of (length front) passed) ++ t)
      (o ∙ ap (λ g. member_tasks (first + length (all_labels g)) (shares_of (length g) rest waits signals passed) ++ base) are
      ∙ ap (λ k. member_tasks k (shares_of (length (front ++ goal ∷ [])) rest waits signals passed) ++ base) past_it
      ∙ ap (λ k. member_tasks (begin + length (labels_of goal)) (shares_of k rest waits signals passed) ++ base) one_more)
      ∙ sym (append_assoc (passing goal (row_of (length front) passed)) (member_tasks (begin + length (labels_of goal)) (shares_of (suc (length front)) rest waits signals passed)) base))

-- rights that agree by number lead to the same

pub shares_same : (number : ℕ) (goals : List Node) (waits waits' : List (ℕ × Awaited)) (signals signals' passed passed' : List (ℕ × Right))
    → ((n : ℕ) → row_of n waits ≡ row_of n waits') → ((n : ℕ) → row_of n signals ≡ row_of n signals') → ((n : ℕ) → row_of n passed ≡ row_of n passed')
    → shares_of number goals waits signals passed ≡ shares_of number goals waits' signals' passed'
shares_same number [] waits waits' signals signals' passed passed' w s p = refl
shares_same number (first ∷ rest) waits waits' signals signals' passed passed' w s p =
    ap (λ r. share first r (row_of number signals) (row_of number passed) ∷ shares_of (suc number) rest waits signals passed) (w number)
    ∙ ap (λ r. share first (row_of number waits') r (row_of number passed) ∷ shares_of (suc number) rest waits signals passed) (s number)
    ∙ ap (λ r. share first (row_of number waits') (row_of number signals') r ∷ shares_of (suc number) rest waits signals passed) (p number)
    ∙ ap (λ l. share first (row_of number waits') (row_of number signals') (row_of number passed') ∷ l) (shares_same (suc number) rest waits waits' signals signals' passed passed' w s p)

pub members_left : (first start : ℕ) (goals listed : List Node) (waits waits' : List (ℕ × Awaited)) (signals signals' passed passed' : List (ℕ × Right)) (base now : List Task)
    → start ≡ first → listed ≡ goals
    → ((n : ℕ) → row_of n waits' ≡ row_of n waits) → ((n : ℕ) → row_of n signals' ≡ row_of n signals) → ((n : ℕ) → row_of n passed' ≡ row_of n passed)
    → now ≡ member_tasks start (shares_of 0 listed waits' signals' passed') ++ base → now ≡ member_tasks first (shares_of 0 goals waits signals passed) ++ base
members_left first start goals listed waits waits' signals signals' passed passed' base now f g w s p is =
    is
    ∙ ap (λ k. member_tasks k (shares_of 0 listed waits' signals' passed') ++ base) f
    ∙ ap (λ l. member_tasks first (shares_of 0 l waits' signals' passed') ++ base) g
    ∙ ap (λ l. member_tasks first l ++ base) (shares_same 0 goals waits' waits signals' signals passed' passed w s p)

-- one after the other
pub turns_left : (placing : Placing) (goals listed : List Node) (start count : ℕ) (own : List Awaited) (binds : List Right) (waits : List (ℕ × Awaited)) (signals passed : List (ℕ × Right))
    (label : Label) (tasks last now : List Task) → listed ≡ goals → start ≡ placing.first → own ≡ placing.waits → binds ≡ placing.signals
    → ((n : ℕ) → row_of n waits ≡ row_of n (flat_map (turn_wait listed) own)) → ((n : ℕ) → row_of n signals ≡ row_of n (flat_map (turn_signal listed) binds)) → passed ≡ []
    → label ≡ relabelled placing.goal (Conjunction Sequential count) → count ≡ length goals → last ≡ Close label ∷ tasks
    → now ≡ member_tasks start (shares_of 0 listed waits signals passed) ++ last → now ≡ turn_tasks placing goals ++ tasks
turns_left placing goals listed start count own binds waits signals passed label tasks last now g f w s ws ss p l k e is =
    let inner = member_tasks placing.first (shares_of 0 goals (flat_map (turn_wait goals) placing.waits) (flat_map (turn_signal goals) placing.signals) []) in
    let root = relabelled placing.goal (Conjunction Sequential (length goals)) in
    members_left placing.first start goals listed (flat_map (turn_wait goals) placing.waits) waits (flat_map (turn_signal goals) placing.signals) signals [] passed last now f g
    (λ n. ws n ∙ ap (λ l. row_of n (flat_map (turn_wait l) own)) g ∙ ap (λ l. row_of n (flat_map (turn_wait goals) l)) w)
    (λ n. ss n ∙ ap (λ l. row_of n (flat_map (turn_signal l) binds)) g ∙ ap (λ l. row_of n (flat_map (turn_signal goals) l)) s)
    (λ n. ap (λ l. row_of n l) p) is
    ∙ ap (λ l. inner ++ l) (e ∙ ap (λ b. Close b ∷ tasks) (l ∙ ap (λ n. relabelled placing.goal (Conjunction Sequential n)) k))
    ∙ sym (append_assoc inner (Close root ∷ []) tasks)

-- goals of which one is chosen
pub arms_left : (goals listed : List Node) (first start : ℕ) (own : List Awaited) (binds : List Right) (waits : List (ℕ × Awaited)) (signals passed : List (ℕ × Right)) (tasks now : List Task)
    → listed ≡ goals → start ≡ first → ((n : ℕ) → row_of n waits ≡ row_of n (flat_map (wait_shares listed) own))
    → ((n : ℕ) → row_of n signals ≡ row_of n (flat_map (signal_shares listed) binds)) → ((n : ℕ) → row_of n passed ≡ row_of n (flat_map (pass_shares listed) own))
    → now ≡ member_tasks start (shares_of 0 listed waits signals passed) ++ tasks → now ≡ arm_tasks goals first own binds ++ tasks
arms_left goals listed first start own binds waits signals passed tasks now g f ws ss ps is =
    members_left first start goals listed (flat_map (wait_shares goals) own) waits (flat_map (signal_shares goals) binds) signals (flat_map (pass_shares goals) own) passed tasks now f g
    (λ n. ws n ∙ ap (λ l. row_of n (flat_map (wait_shares l) own)) g)
    (λ n. ss n ∙ ap (λ l. row_of n (flat_map (signal_shares l) binds)) g)
    (λ n. ps n ∙ ap (λ l. row_of n (flat_map (pass_shares l) own)) g) is

-- what stands around a goal whose rights stay there
pub whole_left : (placing placing' : Placing) (root : Root) (goals : List Node) (before : ℕ) (tasks t1 t2 t3 now : List Task)
    → placing' ≡ record { goal = placing.goal; first = placing.first; waits = placing.waits; signals = [] } → before ≡ length placing.waits
    → t1 ≡ Signals placing.signals (span_of placing.goal) ∷ (wraps (before + length placing.signals) placing.goal ++ tasks) → t2 ≡ Close (relabelled placing'.goal root) ∷ t1
    → t3 ≡ member_tasks placing'.first (shares_of 0 goals [] [] []) ++ t2 → now ≡ Waits (rights_of placing'.waits) (span_of placing'.goal) ∷ t3 → now ≡ whole_tasks placing root goals ++ tasks
whole_left placing placing' root goals before tasks t1 t2 t3 now same count e1 e2 e3 e =
    let inner = member_tasks placing.first (shares_of 0 goals [] [] []) in
    let behind = Signals placing.signals (span_of placing.goal) in
    let end = closed placing.goal root (length (rights_of placing.waits)) behind (length placing.signals) in
    let ends : t2 ≡ end ++ tasks =
    e2 ∙ ap (λ (p : Placing). Close (relabelled p.goal root) ∷ t1) same
    ∙ ap (λ t. Close (relabelled placing.goal root) ∷ t) (e1 ∙ ap (λ n. behind ∷ (wraps (n + length placing.signals) placing.goal ++ tasks)) (count ∙ sym (length-map placing.waits (λ (w : Awaited). w.right)))) in
    e ∙ ap (λ (p : Placing). Waits (rights_of p.waits) (span_of p.goal) ∷ t3) same
    ∙ ap (λ t. Waits (rights_of placing.waits) (span_of placing.goal) ∷ t)
    (e3 ∙ ap (λ (p : Placing). member_tasks p.first (shares_of 0 goals [] [] []) ++ t2) same ∙ ap (λ t. inner ++ t) ends ∙ sym (append_assoc inner end tasks))

-- a switch
pub switch_left : (placing : Placing) (variable : ℕ) (symbols : List Symbol) (goals : List Node) (before : List Right) (inside : List Awaited) (at : Span) (tasks t2 now : List Task)
    → before ≡ rights_of (those_waits (λ other. other == variable) placing.waits) → inside ≡ those_waits (others (λ other. other == variable)) placing.waits → at ≡ span_of placing.goal
    → t2 ≡ arm_tasks goals placing.first inside placing.signals ++ (closed placing.goal (Switch variable symbols) (length before) (Signals [] (span_of placing.goal)) 0 ++ tasks) → now ≡ Waits before at ∷ t2
    → now ≡ switch_tasks placing variable symbols goals ++ tasks
switch_left placing variable symbols goals before inside at tasks t2 now b i v e2 e =
    let own = rights_of (those_waits (λ other. other == variable) placing.waits) in
    let rest = those_waits (others (λ other. other == variable)) placing.waits in
    let inner = arm_tasks goals placing.first rest placing.signals in
    let end = closed placing.goal (Switch variable symbols) (length own) (Signals [] (span_of placing.goal)) 0 in
    e ∙ ap (λ l. Waits l at ∷ t2) b ∙ ap (λ w. Waits own w ∷ t2) v
    ∙ ap (λ t. Waits own (span_of placing.goal) ∷ t)
    (e2 ∙ ap (λ l. arm_tasks goals placing.first l placing.signals ++ (closed placing.goal (Switch variable symbols) (length before) (Signals [] (span_of placing.goal)) 0 ++ tasks)) i
    ∙ ap (λ l. inner ++ (closed placing.goal (Switch variable symbols) (length l) (Signals [] (span_of placing.goal)) 0 ++ tasks)) b ∙ sym (append_assoc inner end tasks))

-- behind a condition
pub lie_past : (all : List Label) (condition then_part else_part : Node) (first past size : ℕ) (arms : List Node)
    → Lies all first (labels_of condition ++ (labels_of then_part ++ labels_of else_part)) → past ≡ first + size → size ≡ length (labels_of condition) → arms ≡ then_part ∷ else_part ∷ []
    → Lies all past (all_labels arms)
lie_past all condition then_part else_part first past size arms lies p s are = record {
  front = lies.front ++ labels_of condition;
  back = lies.back;
  are =
      lies.are ∙ ap (λ l. lies.front ++ l) (append_assoc (labels_of condition) (labels_of then_part ++ labels_of else_part) lies.back)
      ∙ sym (append_assoc lies.front (labels_of condition) ((labels_of then_part ++ labels_of else_part) ++ lies.back))
      ∙ ap (λ l. (lies.front ++ labels_of condition) ++ ((labels_of then_part ++ l) ++ lies.back)) (sym (append-nil (labels_of else_part)))
      ∙ ap (λ l. (lies.front ++ labels_of condition) ++ (all_labels l ++ lies.back)) (sym are);
  count = length-append lies.front (labels_of condition) ∙ ap (λ n. n + length (labels_of condition)) lies.count ∙ sym (p ∙ ap (λ n. first + n) s);
}

pub conditional_left : (placing : Placing) (condition then_part else_part : Node) (before : List Right) (inside : List Awaited) (at : Span) (tasks t3 now : List Task)
    → before ≡ rights_of (those_waits (in_node condition) placing.waits) → inside ≡ those_waits (others (in_node condition)) placing.waits → at ≡ span_of placing.goal
    → t3 ≡ placed condition placing.first [] [] ∷ (arm_tasks (then_part ∷ else_part ∷ []) (placing.first + length (labels_of condition)) inside placing.signals
    ++ (closed placing.goal Conditional (length before) (Signals [] (span_of placing.goal)) 0 ++ tasks))
    → now ≡ Waits before at ∷ t3
    → now ≡ conditional_tasks placing condition then_part else_part ++ tasks
conditional_left placing condition then_part else_part before inside at tasks t3 now b i v e3 e =
    let own = rights_of (those_waits (in_node condition) placing.waits) in
    let rest = those_waits (others (in_node condition)) placing.waits in
    let behind = placing.first + length (labels_of condition) in
    let pair = then_part ∷ else_part ∷ [] in
    let inner = arm_tasks pair behind rest placing.signals in
    let end = closed placing.goal Conditional (length own) (Signals [] (span_of placing.goal)) 0 in
    e ∙ ap (λ l. Waits l at ∷ t3) b ∙ ap (λ w. Waits own w ∷ t3) v
    ∙ ap (λ t. Waits own (span_of placing.goal) ∷ t) (e3
    ∙ ap (λ t. placed condition placing.first [] [] ∷ t)
    (ap (λ l. arm_tasks pair behind l placing.signals ++ (closed placing.goal Conditional (length before) (Signals [] (span_of placing.goal)) 0 ++ tasks)) i
    ∙ ap (λ l. inner ++ (closed placing.goal Conditional (length l) (Signals [] (span_of placing.goal)) 0 ++ tasks)) b ∙ sym (append_assoc inner end tasks)))

pub asked_left : (placing taken : Placing) (condition then_part else_part : Node) (past size : ℕ) (inside : List Awaited) (binds : List Right) (arms : List Node) (asked : Task) (tasks t2 now : List Task)
    → taken ≡ record { goal = placing.goal; first = placing.first; waits = placing.waits; signals = [] } → past ≡ placing.first + size → size ≡ length (labels_of condition)
    → arms ≡ then_part ∷ else_part ∷ [] → binds ≡ placing.signals → asked ≡ placed condition taken.first [] [] → t2 ≡ arm_tasks arms past inside binds ++ tasks → now ≡ asked ∷ t2
    → now ≡ placed condition placing.first [] [] ∷ (arm_tasks (then_part ∷ else_part ∷ []) (placing.first + length (labels_of condition)) inside placing.signals ++ tasks)
asked_left placing taken condition then_part else_part past size inside binds arms asked tasks t2 now same p s a g q e2 e =
    let pair = then_part ∷ else_part ∷ [] in
    let behind = placing.first + length (labels_of condition) in
    e ∙ ap (λ t. t ∷ t2) (q ∙ ap (λ (p : Placing). placed condition p.first [] []) same)
    ∙ ap (λ t. placed condition placing.first [] [] ∷ t)
    (e2 ∙ ap (λ l. arm_tasks l past inside binds ++ tasks) a ∙ ap (λ n. arm_tasks pair n inside binds ++ tasks) (p ∙ ap (λ n. placing.first + n) s) ∙ ap (λ l. arm_tasks pair behind inside l ++ tasks) g)

pub conditional_inside : (placing : Placing) (condition then_part else_part : Node) (count behind : ℕ) (before : List Right) (inside inside' : List Awaited) (tasks t1 t2 now : List Task)
    → inside' ≡ inside → count ≡ length before → t1 ≡ Signals [] (span_of placing.goal) ∷ (wraps (count + 0) placing.goal ++ tasks) → t2 ≡ Close (relabelled placing.goal Conditional) ∷ t1
    → now ≡ placed condition placing.first [] [] ∷ (arm_tasks (then_part ∷ else_part ∷ []) behind inside' placing.signals ++ t2)
    → now ≡ placed condition placing.first [] [] ∷ (arm_tasks (then_part ∷ else_part ∷ []) behind inside placing.signals
    ++ (closed placing.goal Conditional (length before) (Signals [] (span_of placing.goal)) 0 ++ tasks))
conditional_inside placing condition then_part else_part count behind before inside inside' tasks t1 t2 now i k e1 e2 e =
    let pair = then_part ∷ else_part ∷ [] in
    let asked = placed condition placing.first [] [] in
    e ∙ ap (λ l. asked ∷ (arm_tasks pair behind l placing.signals ++ t2)) i
    ∙ ap (λ t. asked ∷ (arm_tasks pair behind inside placing.signals ++ t))
    (e2 ∙ ap (λ t. Close (relabelled placing.goal Conditional) ∷ t) (e1 ∙ ap (λ n. Signals [] (span_of placing.goal) ∷ (wraps (n + 0) placing.goal ++ tasks)) k))

pub switch_inside : (placing taken : Placing) (goals listed : List Node) (inside inside' : List Awaited) (binds : List Right) (end t1 now : List Task)
    → taken ≡ record { goal = placing.goal; first = placing.first; waits = placing.waits; signals = [] } → listed ≡ goals → inside' ≡ inside → binds ≡ placing.signals → t1 ≡ end
    → now ≡ arm_tasks listed taken.first inside' binds ++ t1 → now ≡ arm_tasks goals placing.first inside placing.signals ++ end
switch_inside placing taken goals listed inside inside' binds end t1 now same g i s e1 e =
    e ∙ ap (λ (p : Placing). arm_tasks listed p.first inside' binds ++ t1) same ∙ ap (λ l. arm_tasks l placing.first inside' binds ++ t1) g
    ∙ ap (λ l. arm_tasks goals placing.first l binds ++ t1) i ∙ ap (λ l. arm_tasks goals placing.first inside l ++ t1) s ∙ ap (λ l. arm_tasks goals placing.first inside placing.signals ++ l) e1

-- side by side

abbrev site_of : ℕ → Found → SiteInfo
site_of children found = record { children = children; cells = found.cells.items; moves = found.moves.items }

pub conjuncts_left : (placing : Placing) (goals listed : List Node) (start : ℕ) (inside : List Awaited) (before : List Right) (found : Found) (at : Span) (sites sites' : List SiteInfo) (tasks t2 now : List Task)
    → listed ≡ goals → start ≡ placing.first → at ≡ span_of placing.goal
    → before ≡ rights_of (filter (stays (nodes_of listed)) placing.waits) → inside ≡ filter (moves (nodes_of listed)) placing.waits → FindsMoved listed placing inside found
    → sites' ≡ sites ++ site_of (length listed) found ∷ []
    → t2 ≡ member_tasks start (shares_of 0 listed found.waits.items (numbered found.signals.items) []) ++ (site_tasks placing.goal (length listed) (length sites) (length before) ++ tasks) → now ≡ Waits before at ∷ t2
    → LeavesConjuncts placing goals sites sites' tasks now
conjuncts_left placing goals listed start inside before found at sites sites' tasks t2 now g f v be i finds told e2 e =
    let stay = rights_of (filter (stays (nodes_of goals)) placing.waits) in
    let stay_is = be ∙ ap (λ l. rights_of (filter (stays (nodes_of l)) placing.waits)) g in
    let inside_is = i ∙ ap (λ l. filter (moves (nodes_of l)) placing.waits) g in
    let members = member_tasks placing.first (shares_of 0 goals found.waits.items (numbered found.signals.items) []) in
    let members_are : member_tasks start (shares_of 0 listed found.waits.items (numbered found.signals.items) []) ≡ members =
    ap (λ k. member_tasks k (shares_of 0 listed found.waits.items (numbered found.signals.items) [])) f ∙ ap (λ l. member_tasks placing.first (shares_of 0 l found.waits.items (numbered found.signals.items) [])) g in
    let site_is : site_tasks placing.goal (length listed) (length sites) (length before) ≡ site_tasks placing.goal (length goals) (length sites) (length stay) =
    ap (λ k. site_tasks placing.goal k (length sites) (length before)) (ap length g) ∙ ap (λ k. site_tasks placing.goal (length goals) (length sites) k) (ap length stay_is) in
    let all : FindsMoved goals placing (filter (moves (nodes_of goals)) placing.waits) found =
    subst (λ l. FindsMoved goals placing l found) inside_is (subst (λ l. FindsMoved l placing inside found) g finds) in
    record {
      found = all.own;
      with_moved = found;
      finds = all.finds;
      adds = all.adds;
      told = told ∙ ap (λ l. sites ++ site_of (length l) found ∷ []) g;
      left =
          e ∙ ap (λ l. Waits l at ∷ t2) stay_is ∙ ap (λ s. Waits stay s ∷ t2) v
          ∙ ap (λ t. Waits stay (span_of placing.goal) ∷ t)
          (e2 ∙ ap (λ l. l ++ (site_tasks placing.goal (length listed) (length sites) (length before) ++ tasks)) members_are ∙ ap (λ l. members ++ (l ++ tasks)) site_is);
    }
