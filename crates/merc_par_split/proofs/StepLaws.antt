-- What tasks lead to.
use Rattle.std.specs.Prelude.{◌≡◌, ◌==◌, ◌+◌, ℕ, zero, suc, Bool, true, false, List, [], ◌∷◌, ◌++◌, length, map, Option, Some, refl, if◌then◌else◌}
use Rattle.std.specs.List.{filter}
use Rattle.std.proofs.Common.{◌∙◌, ap, sym, arith}
use Rattle.std.proofs.lemmas.List.{append_assoc, append-nil, length-append, length-map}
use Rattle.merc_base.specs.declared.category.Category.{Category}
use Rattle.merc_base.specs.declared.place.Span.{Span}
use Rattle.merc_graded_tree.specs.declared.entries.Root.{Root}
use Rattle.merc_graded_tree.specs.declared.entries.Root.TheVariants.{Conjunction as ConjunctionRoot}
use Rattle.merc_graded_tree.specs.declared.entries.Running.TheVariants.{Sequential, Parallel}
use Rattle.merc_graded_tree.specs.Nodes.{Node, node, Goal, Basic, Conjunction, Disjunction, Switch, Conditional, Negation, Quantified, nodes_of, outputs_of, category_of, span_of}
use Rattle.merc_graded_tree.specs.Labels.{labels_of}
use Rattle.merc_graded_tree.specs.Roots.{arity_of, last_joined, labelled}
use Rattle.merc_graded_tree.specs.RootLaws.{last_joined_is}
use Rattle.merc_rights.specs.Rights.{Right, right_to, wait_at, signal_at, between, around, ahead_of, bound_in, in_place_of}
use Rattle.merc_graded_tree.specs.Variables.{in_node}
use Rattle.merc_par_split.specs.Split.{may_fail}
use Rattle.merc_par_split.specs.Outcomes.{is_passed, outcome, entered, side_by_side, armed, alone}
use Rattle.merc_rights.specs.Waits.{rights_of, those_waits, others, moves, stays}
use Rattle.merc_par_split.specs.Tasks.{Progress, with_goals, after, after_all, Share, shared, relabelled, wraps, passing, member_tasks, framed}
use Rattle.merc_rights.specs.declared.rights.Awaited.{Awaited}
use Rattle.merc_rights.specs.declared.sites.SiteInfo.{SiteInfo}
use Rattle.merc_par_split.specs.declared.tasks.Task.{Task}
use Rattle.merc_par_split.specs.declared.tasks.Task.TheVariants.{Close}

abbrev pub at_with : List Node → List SiteInfo → Progress
at_with goals sites = record { goals = goals; sites = sites }

pub after-append : (one other : List Task) (at : Progress) → after_all (one ++ other) at ≡ after_all other (after_all one at)
after-append [] other at = refl
after-append (first ∷ rest) other at = after-append rest other (after first at)

-- what a goal has besides what it is
abbrev pub frame : Node → List ℕ × (Option Category × Span)
frame whole = (outputs_of whole, (category_of whole, span_of whole))

between-frame : (waits : List Right) (whole : Node) (behind : List Node) → frame (between waits whole behind) ≡ frame whole
between-frame [] whole [] = refl
between-frame [] whole (next ∷ behind) = refl
between-frame (first ∷ waits) whole behind = refl

entered-frame : (site : ℕ) (waits : List Awaited) (signals : List Right) (goal : Goal) (outputs : List ℕ) (category : Option Category) (span : Span)
    → frame (entered site waits signals goal outputs category span).0 ≡ (outputs, (category, span))
entered-frame site waits signals (Basic goal) outputs category span = between-frame (rights_of waits) (node (Basic goal) outputs category span) (map (signal_at span) signals)
entered-frame site waits signals (Conjunction Sequential goals) outputs category span = refl
entered-frame site waits signals (Conjunction (Parallel unknown) goals) outputs category span =
    between-frame (rights_of (filter (stays goals) waits))
    (node (Conjunction (Parallel (Some (record { number = site }))) (side_by_side (suc site) 1 outputs (rights_of (filter (moves goals) waits)) signals [] goals).0) outputs category span)
    (map (λ variable. wait_at span (right_to 0 variable)) outputs)
entered-frame site waits signals (Disjunction goals) outputs category span =
    between-frame (rights_of waits) (node (Disjunction (alone site goals).0) outputs category span) (map (signal_at span) signals)
entered-frame site waits signals (Switch variable arms) outputs category span =
    between-frame (rights_of (those_waits (λ other. other == variable) waits))
    (node (Switch variable (armed site (those_waits (others (λ other. other == variable)) waits) signals arms).0) outputs category span) []
entered-frame site waits signals (Conditional condition then_part else_part) outputs category span =
    let inner = those_waits (others (in_node condition)) waits in
    let one = outcome site [] [] condition in
    let two = outcome (site + length one.1) (those_waits (in_node then_part) inner) (bound_in then_part signals) then_part in
    let three = outcome (site + length one.1 + length two.1) (those_waits (in_node else_part) inner) (bound_in else_part signals) else_part in
    between-frame (rights_of (those_waits (in_node condition) waits))
    (node (Conditional one.0 (ahead_of two.0 (rights_of (filter (is_passed then_part) inner))) (ahead_of three.0 (rights_of (filter (is_passed else_part) inner)))) outputs category span) []
entered-frame site waits signals (Negation goal) outputs category span =
    between-frame (rights_of waits) (node (Negation (outcome site [] [] goal).0) outputs category span) (map (signal_at span) signals)
entered-frame site waits signals (Quantified own goal) outputs category span = refl

pub outcome-frame : (site : ℕ) (waits : List Awaited) (signals : List Right) (whole : Node) → frame (outcome site waits signals whole).0 ≡ frame whole
outcome-frame site waits signals (node goal outputs category span) = by (may_fail category)
  where
    by : (b : Bool) → frame (if b then (around [] signals (entered site waits [] goal outputs category span).0, (entered site waits [] goal outputs category span).1)
        else entered site waits signals goal outputs category span).0 ≡ (outputs, (category, span))
    by true =
        let inner = (entered site waits [] goal outputs category span).0 in
        between-frame [] inner (map (signal_at (span_of inner)) signals) ∙ entered-frame site waits [] goal outputs category span
    by false = entered-frame site waits signals goal outputs category span

-- goals become a conjunction in the place of one
conjoined : (goals last : List Node) (whole self : Node) (count : ℕ) → frame whole ≡ frame self → count ≡ length last
    → last_joined (relabelled self (ConjunctionRoot Sequential count)) (goals ++ last) ≡ goals ++ in_place_of whole last ∷ []
conjoined goals last whole self count same size =
    last_joined_is (relabelled self (ConjunctionRoot Sequential count)) goals last size
    ∙ ap (λ (f : List ℕ × (Option Category × Span)). goals ++ node (Conjunction Sequential (nodes_of last)) f.0 f.1.0 f.1.1 ∷ []) (sym same)

pub wrapped : (at : Progress) (whole self : Node) (waits : List Right) (behind : List Node) (count : ℕ) → frame whole ≡ frame self → count ≡ length waits + length behind
    → after_all (wraps count self) (with_goals at (map (wait_at (span_of whole)) waits ++ whole ∷ behind)) ≡ with_goals at (between waits whole behind ∷ [])
wrapped at whole self [] [] zero same size = refl
wrapped at whole self [] [] (suc count) same size = absurd (omega (arith, size))
wrapped at whole self [] (next ∷ behind) zero same size = absurd (omega (arith, size))
wrapped at whole self [] (next ∷ behind) (suc count) same size =
    ap (λ g. at_with g at.sites) (conjoined at.goals (whole ∷ next ∷ behind) whole self (suc (suc count)) same (omega (arith, size)))
wrapped at whole self (first ∷ waits) behind zero same size = absurd (omega (arith, size))
wrapped at whole self (first ∷ waits) behind (suc count) same size =
    let list = map (wait_at (span_of whole)) (first ∷ waits) in
    ap (λ g. at_with g at.sites) (conjoined at.goals (list ++ whole ∷ behind) whole self (suc (suc count)) same
    (omega (arith, size, length-append list (whole ∷ behind), length-map waits (wait_at (span_of whole)))))

span-same : (whole self : Node) → frame whole ≡ frame self → span_of whole ≡ span_of self
span-same whole self same = ap (λ (f : List ℕ × (Option Category × Span)). f.1.1) same

-- rights that are waited for behind a goal
pub passed_on : (at : Progress) (whole self : Node) (rights : List Right) → frame whole ≡ frame self
    → after_all (passing self rights) (with_goals at (whole ∷ [])) ≡ with_goals at (ahead_of whole rights ∷ [])
passed_on at whole self [] same = refl
passed_on at whole self (first ∷ rest) same =
    let rights = first ∷ rest in
    ap (λ g. after_all (wraps (length rights) self) (at_with g at.sites))
    (append_assoc at.goals (whole ∷ []) (map (wait_at (span_of self)) rights) ∙ ap (λ s. at.goals ++ whole ∷ map (wait_at s) rights) (sym (span-same whole self same)))
    ∙ wrapped at whole self [] (map (wait_at (span_of whole)) rights) (length rights) same (let e = length-map rights (wait_at (span_of whole)) in omega (arith, e))

-- members
pub members_done : (start : ℕ) (shares : List Share) (at : Progress)
    → after_all (member_tasks start shares) at ≡ at_with (at.goals ++ (shared (length at.sites) shares).0) (at.sites ++ (shared (length at.sites) shares).1)
members_done start [] at = ap (λ g. at_with g at.sites) (sym (append-nil at.goals)) ∙ ap (λ s. at_with (at.goals ++ []) s) (sym (append-nil at.sites))
members_done start (first ∷ rest) at =
    let one = outcome (length at.sites) first.waits first.signals first.goal in
    let later = start + length (labels_of first.goal) in
    let now = at_with (at.goals ++ ahead_of one.0 first.passed ∷ []) (at.sites ++ one.1) in
    let more = shared (length at.sites + length one.1) rest in
    after-append (passing first.goal first.passed) (member_tasks later rest) (at_with (at.goals ++ one.0 ∷ []) (at.sites ++ one.1))
    ∙ ap (λ p. after_all (member_tasks later rest) p)
    (passed_on (at_with at.goals (at.sites ++ one.1)) one.0 first.goal first.passed (outcome-frame (length at.sites) first.waits first.signals first.goal))
    ∙ members_done later rest now
    ∙ ap (λ n. at_with (now.goals ++ (shared n rest).0) (now.sites ++ (shared n rest).1)) (length-append at.sites one.1)
    ∙ ap (λ g. at_with g (now.sites ++ more.1)) (append_assoc at.goals (ahead_of one.0 first.passed ∷ []) more.0)
    ∙ ap (λ s. at_with (at.goals ++ ahead_of one.0 first.passed ∷ more.0) s) (append_assoc at.sites one.1 more.1)

-- a goal is closed, with what stands around it
pub framed_done : (whole : Node) (root : Root) (before : List Right) (inner : List Task) (behind : Task) (puts goals : List Node) (sites : List SiteInfo) (at : Progress)
    → after_all inner (with_goals at (map (wait_at (span_of whole)) before)) ≡ at_with ((at.goals ++ map (wait_at (span_of whole)) before) ++ goals) (at.sites ++ sites)
    → ((p : Progress) → after behind p ≡ with_goals p puts) → arity_of root ≡ length goals
    → after_all (framed whole root before inner behind (length puts)) at
    ≡ at_with (at.goals ++ between before (labelled (relabelled whole root) goals) puts ∷ []) (at.sites ++ sites)
framed_done whole root before inner behind puts goals sites at does is size =
    let waits = map (wait_at (span_of whole)) before in
    let closing = Close (relabelled whole root) ∷ behind ∷ wraps (length before + length puts) whole in
    let self = labelled (relabelled whole root) goals in
    let all = at.sites ++ sites in
    after-append inner closing (with_goals at waits)
    ∙ ap (λ p. after_all closing p) does
    ∙ ap (λ g. after_all (behind ∷ wraps (length before + length puts) whole) (at_with g all)) (last_joined_is (relabelled whole root) (at.goals ++ waits) goals size)
    ∙ ap (λ p. after_all (wraps (length before + length puts) whole) p) (is (at_with ((at.goals ++ waits) ++ self ∷ []) all))
    ∙ ap (λ g. after_all (wraps (length before + length puts) whole) (at_with g all))
    (append_assoc (at.goals ++ waits) (self ∷ []) puts ∙ append_assoc at.goals waits (self ∷ puts))
    ∙ wrapped (at_with at.goals all) self whole before puts (length before + length puts) refl refl
