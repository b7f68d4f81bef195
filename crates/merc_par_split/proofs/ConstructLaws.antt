-- What is left to do for a goal that joins others leads to what comes of it.
use Rattle.std.specs.Prelude.{◌≡◌, ◌==◌, ◌+◌, ℕ, suc, List, [], ◌∷◌, ◌++◌, length, map, refl}
use Rattle.std.specs.List.{filter, flat_map}
use Rattle.std.proofs.Common.{◌∙◌, ap, sym, arith}
use Rattle.std.proofs.lemmas.List.{append_assoc, append-nil, length-append, length-map}
use Rattle.merc_goal_tree.specs.declared.goal.Symbol.{Symbol}
use Rattle.merc_graded_tree.specs.declared.basic.BasicGoal.{BasicGoal}
use Rattle.merc_graded_tree.specs.declared.entries.Root.{Root}
use Rattle.merc_graded_tree.specs.declared.entries.Root.TheVariants.{Conjunction as ConjunctionRoot, Disjunction as DisjunctionRoot, Switch as SwitchRoot, Conditional as ConditionalRoot, Negation as NegationRoot, Quantified as QuantifiedRoot, Basic as BasicRoot}
use Rattle.merc_graded_tree.specs.declared.entries.Running.TheVariants.{Sequential}
use Rattle.merc_graded_tree.specs.Nodes.{Node, node, Goal, Basic, Conjunction, Disjunction, Switch, Conditional, Negation, Quantified, Nodes, Arms, more_arms, nodes_of, list_of, outputs_of, category_of, span_of}
use Rattle.merc_graded_tree.specs.Roots.{arity_of, arms_of, labelled, last_joined}
use Rattle.merc_graded_tree.specs.RootLaws.{last_joined_is, nodes_of-list_of}
use Rattle.merc_graded_tree.specs.Labels.{labels_of}
use Rattle.merc_graded_tree.specs.Variables.{in_node}
use Rattle.merc_par_split.specs.Constructs.{whole_tasks, turn_tasks, arm_tasks, switch_tasks, conditional_tasks}
use Rattle.merc_rights.specs.Members.{turn_wait, turn_signal, wait_shares, signal_shares, pass_shares}
use Rattle.merc_par_split.specs.Outcomes.{is_passed, outcome, entered, in_turn, armed, alone}
use Rattle.merc_rights.specs.Waits.{rights_of, those_waits, others}
use Rattle.merc_rights.specs.Rights.{Right, wait_at, signal_at, bound_in, around, ahead_of}
use Rattle.merc_rights.specs.Rows.{row_of}
use Rattle.merc_par_split.specs.Tasks.{Progress, with_goals, with_outcome, after_all, shares_of, shared, member_tasks, relabelled, framed}
use Rattle.merc_rights.specs.declared.rights.Awaited.{Awaited}
use Rattle.merc_rights.specs.declared.sites.SiteInfo.{SiteInfo}
use Rattle.merc_par_split.specs.declared.tasks.Placing.{Placing}
use Rattle.merc_par_split.specs.declared.tasks.Task.TheVariants.{Place, Signals, Close}
use Rattle.merc_par_split.proofs.ShareLaws.{turns, chosen, choices, alones}
use Rattle.merc_par_split.proofs.StepLaws.{at_with, after-append, members_done, framed_done}

pub list-nodes : (list : List Node) → list_of (nodes_of list) ≡ list
list-nodes [] = refl
list-nodes (first ∷ rest) = ap (λ l. first ∷ l) (list-nodes rest)

pub share-count : (number site : ℕ) (goals : List Node) (waits : List (ℕ × Awaited)) (signals passed : List (ℕ × Right))
    → length (shared site (shares_of number goals waits signals passed)).0 ≡ length goals
share-count number site [] waits signals passed = refl
share-count number site (first ∷ rest) waits signals passed =
    ap suc (share-count (suc number) (site + length (outcome site (row_of number waits) (row_of number signals) first).1) rest waits signals passed)

pub from-zero : {X : Type 0} (rows : List (ℕ × X)) (k : ℕ) → row_of (0 + k) rows ≡ row_of k rows
from-zero rows k = let e : 0 + k ≡ k = omega arith in ap (λ n. row_of n rows) e

-- what comes of a goal in the place of another
abbrev pub entered_as : Placing → Goal → ℕ → Node × List SiteInfo
entered_as placing goal site = entered site placing.waits placing.signals goal (outputs_of placing.goal) (category_of placing.goal) (span_of placing.goal)

-- one after the other

turn-nodes : (placing : Placing) (goals : Nodes) (at : Progress)
    → after_all (turn_tasks placing (list_of goals)) at ≡ with_outcome at (entered_as placing (Conjunction Sequential goals) (length at.sites))
turn-nodes placing goals at =
    let waits = flat_map (turn_wait (list_of goals)) placing.waits in
    let signals = flat_map (turn_signal (list_of goals)) placing.signals in
    let shares = shares_of 0 (list_of goals) waits signals [] in
    let label = relabelled placing.goal (ConjunctionRoot Sequential (length (list_of goals))) in
    let inner = in_turn (length at.sites) placing.waits placing.signals goals in
    let is = turns goals 0 (length at.sites) waits signals placing.waits placing.signals (from-zero waits) (from-zero signals) in
    after-append (member_tasks placing.first shares) (Close label ∷ []) at
    ∙ ap (λ p. after_all (Close label ∷ []) p) (members_done placing.first shares at)
    ∙ ap (λ (m : List Node × List SiteInfo). at_with (last_joined label (at.goals ++ m.0)) (at.sites ++ m.1)) is
    ∙ ap (λ g. at_with g (at.sites ++ inner.1))
    (last_joined_is label at.goals (list_of inner.0) (sym (share-count 0 (length at.sites) (list_of goals) waits signals []) ∙ ap (λ (m : List Node × List SiteInfo). length m.0) is)
    ∙ ap (λ n. at.goals ++ node (Conjunction Sequential n) (outputs_of placing.goal) (category_of placing.goal) (span_of placing.goal) ∷ []) (nodes_of-list_of inner.0))

pub turn_same : (placing : Placing) (list : List Node) (at : Progress)
    → after_all (turn_tasks placing list) at ≡ with_outcome at (entered_as placing (Conjunction Sequential (nodes_of list)) (length at.sites))
turn_same placing list at = ap (λ l. after_all (turn_tasks placing l) at) (sym (list-nodes list)) ∙ turn-nodes placing (nodes_of list) at

-- goals without rights

pub whole_same : (placing : Placing) (root : Root) (list : List Node) (at : Progress) → arity_of root ≡ length list
    → after_all (whole_tasks placing root list) at
    ≡ with_outcome at (
      around (rights_of placing.waits) placing.signals (labelled (relabelled placing.goal root) (shared (length at.sites) (shares_of 0 list [] [] [])).0),
      (shared (length at.sites) (shares_of 0 list [] [] [])).1,
    )
whole_same placing root list at size =
    let span = span_of placing.goal in
    let shares = shares_of 0 list [] [] [] in
    let puts = map (signal_at span) placing.signals in
    let come = shared (length at.sites) shares in
    ap (λ n. after_all (framed placing.goal root (rights_of placing.waits) (member_tasks placing.first shares) (Signals placing.signals span) n) at) (sym (length-map placing.signals (signal_at span)))
    ∙ framed_done placing.goal root (rights_of placing.waits) (member_tasks placing.first shares) (Signals placing.signals span) puts come.0 come.1 at
    (members_done placing.first shares (with_goals at (map (wait_at span) (rights_of placing.waits)))) (λ p. refl) (size ∙ sym (share-count 0 (length at.sites) list [] [] []))

basic-outcome : (placing : Placing) (goal : Goal) (at : Progress) (come come' : List Node × List SiteInfo) (root : Root) → come ≡ come'
    → entered_as placing goal (length at.sites) ≡ (around (rights_of placing.waits) placing.signals (labelled (relabelled placing.goal root) come'.0), come'.1)
    → with_outcome at (around (rights_of placing.waits) placing.signals (labelled (relabelled placing.goal root) come.0), come.1) ≡ with_outcome at (entered_as placing goal (length at.sites))
basic-outcome placing goal at come come' root are is =
    ap (λ (m : List Node × List SiteInfo). with_outcome at (around (rights_of placing.waits) placing.signals (labelled (relabelled placing.goal root) m.0), m.1)) are ∙ ap (λ o. with_outcome at o) (sym is)

pub basic_same : (placing : Placing) (goal : BasicGoal) (at : Progress)
    → after_all (whole_tasks placing (BasicRoot goal) []) at ≡ with_outcome at (entered_as placing (Basic goal) (length at.sites))
basic_same placing goal at = whole_same placing (BasicRoot goal) [] at refl

pub disjunction_same : (placing : Placing) (list : List Node) (at : Progress)
    → after_all (whole_tasks placing (DisjunctionRoot (length list)) list) at ≡ with_outcome at (entered_as placing (Disjunction (nodes_of list)) (length at.sites))
disjunction_same placing list at =
    let inner = alone (length at.sites) (nodes_of list) in
    whole_same placing (DisjunctionRoot (length list)) list at refl
    ∙ basic-outcome placing (Disjunction (nodes_of list)) at (shared (length at.sites) (shares_of 0 list [] [] [])) (list_of inner.0, inner.1) (DisjunctionRoot (length list))
    (ap (λ l. shared (length at.sites) (shares_of 0 l [] [] [])) (sym (list-nodes list)) ∙ alones (nodes_of list) 0 (length at.sites))
    (ap (λ n. (around (rights_of placing.waits) placing.signals (node (Disjunction n) (outputs_of placing.goal) (category_of placing.goal) (span_of placing.goal)), inner.1)) (sym (nodes_of-list_of inner.0)))

pub negation_same : (placing : Placing) (goal : Node) (at : Progress)
    → after_all (whole_tasks placing NegationRoot (goal ∷ [])) at ≡ with_outcome at (entered_as placing (Negation goal) (length at.sites))
negation_same placing goal at =
    let one = outcome (length at.sites) [] [] goal in
    whole_same placing NegationRoot (goal ∷ []) at refl
    ∙ basic-outcome placing (Negation goal) at (shared (length at.sites) (shares_of 0 (goal ∷ []) [] [] [])) (one.0 ∷ [], one.1) NegationRoot (ap (λ s. (one.0 ∷ [], s)) (append-nil one.1)) refl

pub quantified_same : (placing : Placing) (own : List ℕ) (goal : Node) (at : Progress)
    → after_all (Place (record { goal = goal; first = placing.first; waits = placing.waits; signals = placing.signals }) ∷ Close (relabelled placing.goal (QuantifiedRoot own)) ∷ []) at
    ≡ with_outcome at (entered_as placing (Quantified own goal) (length at.sites))
quantified_same placing own goal at =
    let one = outcome (length at.sites) placing.waits placing.signals goal in
    ap (λ g. at_with g (at.sites ++ one.1)) (last_joined_is (relabelled placing.goal (QuantifiedRoot own)) at.goals (one.0 ∷ []) refl)

-- goals of which one is chosen

arms_done : (goals : List Node) (first : ℕ) (waits : List Awaited) (signals : List Right) (at : Progress)
    → after_all (arm_tasks goals first waits signals) at
    ≡ at_with (at.goals ++ (chosen (length at.sites) waits signals goals).0) (at.sites ++ (chosen (length at.sites) waits signals goals).1)
arms_done goals first waits signals at =
    let rows = flat_map (wait_shares goals) waits in
    let signal_rows = flat_map (signal_shares goals) signals in
    let passed = flat_map (pass_shares goals) waits in
    members_done first (shares_of 0 goals rows signal_rows passed) at
    ∙ ap (λ (m : List Node × List SiteInfo). at_with (at.goals ++ m.0) (at.sites ++ m.1))
    (choices goals 0 (length at.sites) rows signal_rows passed waits signals (from-zero rows) (from-zero signal_rows) (from-zero passed))

chosen-count : (site : ℕ) (waits : List Awaited) (signals : List Right) (goals : List Node) → length (chosen site waits signals goals).0 ≡ length goals
chosen-count site waits signals [] = refl
chosen-count site waits signals (first ∷ rest) =
    ap suc (chosen-count (site + length (outcome site (those_waits (in_node first) waits) (bound_in first signals) first).1) waits signals rest)

armed-arms : (site : ℕ) (waits : List Awaited) (signals : List Right) (symbols : List Symbol) (goals : List Node) → length symbols ≡ length goals
    → (arms_of symbols (chosen site waits signals goals).0, (chosen site waits signals goals).1) ≡ armed site waits signals (arms_of symbols goals)
armed-arms site waits signals [] [] size = refl
armed-arms site waits signals [] (first ∷ rest) size = absurd (omega (arith, size))
armed-arms site waits signals (symbol ∷ symbols) [] size = absurd (omega (arith, size))
armed-arms site waits signals (symbol ∷ symbols) (first ∷ rest) size =
    let one = outcome site (those_waits (in_node first) waits) (bound_in first signals) first in
    ap (λ (m : Arms × List SiteInfo). (more_arms symbol (ahead_of one.0 (rights_of (filter (is_passed first) waits))) m.0, one.1 ++ m.1))
    (armed-arms (site + length one.1) waits signals symbols rest (omega (arith, size)))

pub switch_same : (placing : Placing) (variable : ℕ) (symbols : List Symbol) (goals : List Node) (at : Progress) → length symbols ≡ length goals
    → after_all (switch_tasks placing variable symbols goals) at ≡ with_outcome at (entered_as placing (Switch variable (arms_of symbols goals)) (length at.sites))
switch_same placing variable symbols goals at size =
    let span = span_of placing.goal in
    let before = rights_of (those_waits (λ other. other == variable) placing.waits) in
    let inside = those_waits (others (λ other. other == variable)) placing.waits in
    let come = chosen (length at.sites) inside placing.signals goals in
    framed_done placing.goal (SwitchRoot variable symbols) before (arm_tasks goals placing.first inside placing.signals) (Signals [] span) [] come.0 come.1 at
    (arms_done goals placing.first inside placing.signals (with_goals at (map (wait_at span) before))) (λ p. refl) (size ∙ sym (chosen-count (length at.sites) inside placing.signals goals))
    ∙ ap (λ (m : Arms × List SiteInfo). with_outcome at (around before [] (node (Switch variable m.0) (outputs_of placing.goal) (category_of placing.goal) span), m.1))
    (armed-arms (length at.sites) inside placing.signals symbols goals size)

pub conditional_same : (placing : Placing) (condition then_part else_part : Node) (at : Progress)
    → after_all (conditional_tasks placing condition then_part else_part) at ≡ with_outcome at (entered_as placing (Conditional condition then_part else_part) (length at.sites))
conditional_same placing condition then_part else_part at =
    let span = span_of placing.goal in
    let before = rights_of (those_waits (in_node condition) placing.waits) in
    let inside = those_waits (others (in_node condition)) placing.waits in
    let arms = then_part ∷ else_part ∷ [] in
    let later = placing.first + length (labels_of condition) in
    let site = length at.sites in
    let one = outcome site [] [] condition in
    let two = outcome (site + length one.1) (those_waits (in_node then_part) inside) (bound_in then_part placing.signals) then_part in
    let three = outcome (site + length one.1 + length two.1) (those_waits (in_node else_part) inside) (bound_in else_part placing.signals) else_part in
    let waits = map (wait_at span) before in
    let come = chosen (site + length one.1) inside placing.signals arms in
    let asked : Placing = record { goal = condition; first = placing.first; waits = []; signals = [] } in
    framed_done placing.goal ConditionalRoot before (Place asked ∷ arm_tasks arms later inside placing.signals) (Signals [] span) [] (one.0 ∷ come.0) (one.1 ++ come.1) at
    (arms_done arms later inside placing.signals (at_with ((at.goals ++ waits) ++ one.0 ∷ []) (at.sites ++ one.1))
    ∙ ap (λ n. at_with (((at.goals ++ waits) ++ one.0 ∷ []) ++ (chosen n inside placing.signals arms).0) ((at.sites ++ one.1) ++ (chosen n inside placing.signals arms).1)) (length-append at.sites one.1)
    ∙ ap (λ g. at_with g ((at.sites ++ one.1) ++ come.1)) (append_assoc (at.goals ++ waits) (one.0 ∷ []) come.0)
    ∙ ap (λ s. at_with ((at.goals ++ waits) ++ one.0 ∷ come.0) s) (append_assoc at.sites one.1 come.1))
    (λ p. refl) refl
    ∙ ap (λ s. with_outcome at (
      around before []
          (node (Conditional one.0 (ahead_of two.0 (rights_of (filter (is_passed then_part) inside))) (ahead_of three.0 (rights_of (filter (is_passed else_part) inside))))
          (outputs_of placing.goal) (category_of placing.goal) span),
      one.1 ++ (two.1 ++ s),
    )) (append-nil three.1)
