-- What stands at the sites of split trees: each is planned, with as many conjuncts as it has, and nothing moves at those that stand in no conjunct.
use Rattle.std.proofs.Common.{◌≡◌, ℕ, suc, ◌+◌, Bool, true, false, not, if◌then◌else◌, List, [], ◌∷◌, ◌++◌, map, filter, flat_map, refl, ap, ◌∙◌}
use Rattle.std.specs.Prelude.{⊤, Option, Some, None, ◌==◌, ◌||◌}
use Rattle.std.specs.List.{AllByRecursion}
use Rattle.merc_base.specs.declared.category.Category.{Category}
use Rattle.merc_base.specs.declared.place.Span.{Span}
use Rattle.merc_graded_tree.specs.declared.basic.Site.{Site}
use Rattle.merc_graded_tree.specs.declared.entries.Running.TheVariants.{Sequential, Parallel}
use Rattle.merc_graded_tree.specs.Nodes.{Node, node, Goal, Basic, Conjunction, Disjunction, Switch, Conditional, Negation, Quantified, Nodes, no_nodes, more_nodes, Arms, no_arms, more_arms, nodes_of, outputs_of, span_of}
use Rattle.merc_graded_tree.specs.Variables.{in_node, in_nodes}
use Rattle.merc_rights.specs.declared.sites.Moved.{Moved}
use Rattle.merc_rights.specs.declared.sites.SiteInfo.{SiteInfo}
use Rattle.merc_rights.specs.Rights.{Right, right_to, those, used_in, unused_in, passed_by, bound_in, unbound_in, wait_at, signal_at, between, around, ahead_of, signals_of}
use Rattle.merc_par_split.specs.Forks.{forks}
use Rattle.merc_par_split.specs.Split.{may_fail, nothing, moves_in, placed, placed_goal, placed_in_turn, placed_conjuncts, placed_arms, placed_alone, split, all_split}
use Rattle.merc_par_split.specs.Sites.{count, are_for, signal_moves, site_info, planned, planned_goal, planned_in_turn, planned_conjuncts, planned_arms, planned_alone, sites, all_sites}
use Rattle.merc_par_split.proofs.PlannedCounts.{planned_count}
use Rattle.merc_plan.specs.Branches.{Plan}
use Rattle.merc_plan.proofs.Placing.{HasSites, has_front, has_back, first_site, more_sites}

-- inside: the goal stands in a conjunct
pub record IsPlanned (plan : Plan) (inside : Bool) (site : Site) (goals : Nodes) : Type 0 where
  pub info : SiteInfo
  pub is : plan site.number ≡ Some info
  pub counted : info.children ≡ count goals
  pub still : inside ≡ false → info.moves ≡ []

module _ (plan : Plan) where
  abbrev mutual
    pub Sited : Bool → Node → Type 0
    Sited inside (node goal outputs category span) = GoalSited inside goal

    pub GoalSited : Bool → Goal → Type 0
    GoalSited inside (Basic goal) = ⊤
    GoalSited inside (Conjunction Sequential goals) = AllSited inside goals
    GoalSited inside (Conjunction (Parallel None) goals) = AllSited inside goals
    GoalSited inside (Conjunction (Parallel (Some site)) goals) = IsPlanned plan inside site goals × AllSited true goals
    GoalSited inside (Disjunction goals) = AllSited inside goals
    GoalSited inside (Switch variable arms) = ArmsSited inside arms
    GoalSited inside (Conditional condition then_part else_part) = Sited inside condition × (Sited inside then_part × Sited inside else_part)
    GoalSited inside (Negation goal) = Sited inside goal
    GoalSited inside (Quantified own goal) = Sited inside goal

    pub AllSited : Bool → Nodes → Type 0
    AllSited inside no_nodes = ⊤
    AllSited inside (more_nodes first rest) = Sited inside first × AllSited inside rest

    pub ArmsSited : Bool → Arms → Type 0
    ArmsSited inside no_arms = ⊤
    ArmsSited inside (more_arms symbol body rest) = Sited inside body × ArmsSited inside rest

  -- goals with others before them and behind them

  waits_sited : (inside : Bool) (span : Span) (waits : List Right) (rest : List Node) → AllSited inside (nodes_of rest) → AllSited inside (nodes_of (map (wait_at span) waits ++ rest))
  waits_sited inside span [] rest s = s
  waits_sited inside span (right ∷ waits) rest s = (tt, waits_sited inside span waits rest s)

  waits_last : (inside : Bool) (span : Span) (waits : List Right) → AllSited inside (nodes_of (map (wait_at span) waits))
  waits_last inside span [] = tt
  waits_last inside span (right ∷ waits) = (tt, waits_last inside span waits)

  signals_last : (inside : Bool) (span : Span) (signals : List Right) → AllSited inside (nodes_of (map (signal_at span) signals))
  signals_last inside span [] = tt
  signals_last inside span (right ∷ signals) = (tt, signals_last inside span signals)

  between_sited : (inside : Bool) (waits : List Right) (whole : Node) (behind : List Node) → Sited inside whole → AllSited inside (nodes_of behind) → Sited inside (between waits whole behind)
  between_sited inside [] whole [] s b = s
  between_sited inside [] whole (next ∷ behind) s b = (s, b)
  between_sited inside (first ∷ waits) whole behind s b = waits_sited inside (span_of whole) (first ∷ waits) (whole ∷ behind) (s, b)

  around_sited : (inside : Bool) (waits signals : List Right) (whole : Node) → Sited inside whole → Sited inside (around waits signals whole)
  around_sited inside waits signals whole s = between_sited inside waits whole (map (signal_at (span_of whole)) signals) s (signals_last inside (span_of whole) signals)

  ahead_sited : (inside : Bool) (whole : Node) (waits : List Right) → Sited inside whole → Sited inside (ahead_of whole waits)
  ahead_sited inside whole waits s = between_sited inside [] whole (map (wait_at (span_of whole)) waits) s (waits_last inside (span_of whole) waits)

  behind_last : (inside : Bool) (span : Span) (outputs : List ℕ) → AllSited inside (nodes_of (map (λ (variable : ℕ). wait_at span (right_to 0 variable)) outputs))
  behind_last inside span [] = tt
  behind_last inside span (variable ∷ outputs) = (tt, behind_last inside span outputs)

  -- outside of conjuncts there are no rights
  abbrev IsFree : Bool → List Right → List Right → Type 0
  IsFree inside waits signals = inside ≡ false → (waits ≡ []) × (signals ≡ [])

  free_those : (inside : Bool) (waits signals : List Right) (p q : ℕ → Bool) → IsFree inside waits signals → IsFree inside (those p waits) (those q signals)
  free_those inside waits signals p q free e = let f = free e in (ap (those p) f.0, ap (those q) f.1)

  free_first : (inside : Bool) (waits signals : List Right) → IsFree inside waits signals → IsFree inside waits []
  free_first inside waits signals free e = ((free e).0, refl)

  free_those_first : (inside : Bool) (waits signals : List Right) (p : ℕ → Bool) → IsFree inside waits signals → IsFree inside (those p waits) signals
  free_those_first inside waits signals p free e = let f = free e in (ap (those p) f.0, f.1)

  held : (waits signals : List Right) → IsFree true waits signals
  held waits signals e = absurd (cc (e))

  none_for : (xs : List ℕ) → filter (λ (x : ℕ). false) xs ≡ []
  none_for [] = refl
  none_for (x ∷ xs) = none_for xs

  no_signals : (k : ℕ) (goals : Nodes) → signal_moves (are_for []) k goals ≡ []
  no_signals k no_nodes = refl
  no_signals k (more_nodes first rest) =
      ap (λ (l : List ℕ). map (λ (variable : ℕ). record { variable = variable; child = k; signal = true }) l ++ signal_moves (are_for []) (suc k) rest) (none_for (outputs_of first)) ∙ no_signals (suc k) rest

  still_info : (outputs : List ℕ) (later : ℕ → Bool) (waits signals : List Right) (goals : Nodes) → (waits ≡ []) × (signals ≡ []) → (site_info outputs (those (moves_in later goals) waits) signals goals).moves ≡ []
  still_info outputs later waits signals goals free =
      ap (λ (w : List Right). (site_info outputs (those (moves_in later goals) w) signals goals).moves) free.0
      ∙ ap (λ (s : List Right). (site_info outputs [] s goals).moves) free.1
      ∙ ap (λ (l : List Moved). l ++ []) (no_signals 1 goals)

  same_count : (goals : Nodes) (site number : ℕ) (outputs : List ℕ) (w s : List Right) (left : List ℕ) → count goals ≡ count (placed_conjuncts site number outputs w s left goals)
  same_count no_nodes site number outputs w s left = refl
  same_count (more_nodes first rest) site number outputs w s left = ap suc (same_count rest (site + forks first) (suc number) outputs w s (left ++ outputs_of first))

  mutual
    pub placed_sited : (n : Node) (inside : Bool) (site : ℕ) (later : ℕ → Bool) (w s : List Right) → IsFree inside w s → HasSites plan site (planned later w s n) → Sited inside (placed site later w s n)
    placed_sited (node goal outputs category span) inside site later w s free h =
        on (may_fail category) (λ s' f k. goal_sited goal inside site later w s' outputs category span f k) h
      where
        on : (b : Bool) → ((s' : List Right) → IsFree inside w s' → HasSites plan site (planned_goal later w s' goal outputs) → Sited inside (placed_goal site later w s' goal outputs category span))
            → HasSites plan site (if b then planned_goal later w [] goal outputs else planned_goal later w s goal outputs)
            → Sited inside (if b then around [] s (placed_goal site later w [] goal outputs category span) else placed_goal site later w s goal outputs category span)
        on true p h = around_sited inside [] s (placed_goal site later w [] goal outputs category span) (p [] (free_first inside w s free) h)
        on false p h = p s free h

    goal_sited : (goal : Goal) (inside : Bool) (site : ℕ) (later : ℕ → Bool) (w s : List Right) (outputs : List ℕ) (category : Option Category) (span : Span) → IsFree inside w s
        → HasSites plan site (planned_goal later w s goal outputs) → Sited inside (placed_goal site later w s goal outputs category span)
    goal_sited (Basic goal) inside site later w s outputs category span free h = around_sited inside w s (node (Basic goal) outputs category span) tt
    goal_sited (Conjunction Sequential goals) inside site later w s outputs category span free h = turn_sited goals inside site later w s free h
    goal_sited (Conjunction (Parallel unknown) goals) inside site later w s outputs category span free h =
        let moving = those (moves_in later goals) w in
        let info = site_info outputs moving s goals in
        let infos = planned_conjuncts 1 outputs moving s [] goals in
        let there : IsPlanned plan inside (record { number = site }) (placed_conjuncts (suc site) 1 outputs moving s [] goals) = record {
          info = info;
          is = first_site plan site info infos h;
          counted = same_count goals (suc site) 1 outputs moving s [];
          still = λ e. still_info outputs later w s goals (free e);
        } in
        between_sited inside (those (λ variable. not (moves_in later goals variable)) w)
        (node (Conjunction (Parallel (Some (record { number = site }))) (placed_conjuncts (suc site) 1 outputs moving s [] goals)) outputs category span)
        (map (λ (variable : ℕ). wait_at span (right_to 0 variable)) outputs)
        (there, conjuncts_sited goals (suc site) 1 outputs moving s [] (more_sites plan site info infos h))
        (behind_last inside span outputs)
    goal_sited (Disjunction goals) inside site later w s outputs category span free h =
        around_sited inside w s (node (Disjunction (placed_alone site goals)) outputs category span) (alone_sited goals inside site h)
    goal_sited (Switch variable arms) inside site later w s outputs category span free h =
        let inner = those (λ other. not (other == variable)) w in
        around_sited inside (those (λ other. other == variable) w) [] (node (Switch variable (placed_arms site later inner s arms)) outputs category span)
        (arms_sited arms inside site later inner s (free_those_first inside w s (λ other. not (other == variable)) free) h)
    goal_sited (Conditional condition then_part else_part) inside site later w s outputs category span free h =
        let inner = unused_in condition w in
        let one = planned nothing [] [] condition in
        let two = planned later (used_in then_part inner) (bound_in then_part s) then_part in
        let three = planned later (used_in else_part inner) (bound_in else_part s) else_part in
        let behind = has_back plan site (forks condition) one (two ++ three) (planned_count condition nothing [] []) h in
        let first = placed site nothing [] [] condition in
        let second = placed (site + forks condition) later (used_in then_part inner) (bound_in then_part s) then_part in
        let third = placed (site + forks condition + forks then_part) later (used_in else_part inner) (bound_in else_part s) else_part in
        let free_inner : IsFree inside inner s = free_those_first inside w s (λ variable. not (in_node condition variable)) free in
        around_sited inside (used_in condition w) [] (node (Conditional first (ahead_of second (passed_by later then_part inner)) (ahead_of third (passed_by later else_part inner))) outputs category span) (
          placed_sited condition inside site nothing [] [] (λ e. (refl, refl)) (has_front plan site one (two ++ three) h),
          (
            ahead_sited inside second (passed_by later then_part inner)
                (placed_sited then_part inside (site + forks condition) later (used_in then_part inner) (bound_in then_part s) (λ e. let f = free_inner e in (ap (used_in then_part) f.0, ap (bound_in then_part) f.1))
                (has_front plan (site + forks condition) two three behind)),
            ahead_sited inside third (passed_by later else_part inner)
                (placed_sited else_part inside (site + forks condition + forks then_part) later (used_in else_part inner) (bound_in else_part s)
                (λ e. let f = free_inner e in (ap (used_in else_part) f.0, ap (bound_in else_part) f.1))
                (has_back plan (site + forks condition) (forks then_part) two three (planned_count then_part later (used_in then_part inner) (bound_in then_part s)) behind)),
          ),
        )
    goal_sited (Negation goal) inside site later w s outputs category span free h =
        around_sited inside w s (node (Negation (placed site nothing [] [] goal)) outputs category span) (placed_sited goal inside site nothing [] [] (λ e. (refl, refl)) h)
    goal_sited (Quantified own goal) inside site later w s outputs category span free h = placed_sited goal inside site later w s free h

    turn_sited : (goals : Nodes) (inside : Bool) (site : ℕ) (later : ℕ → Bool) (w s : List Right) → IsFree inside w s → HasSites plan site (planned_in_turn later w s goals)
        → AllSited inside (placed_in_turn site later w s goals)
    turn_sited no_nodes inside site later w s free h = tt
    turn_sited (more_nodes first rest) inside site later w s free h =
        let after : (ℕ → Bool) = λ variable. later variable || in_nodes rest variable in
        let one = planned after (used_in first w) (bound_in first s) first in
        let others = planned_in_turn later (unused_in first w) (unbound_in first s) rest in (
          placed_sited first inside site after (used_in first w) (bound_in first s) (λ e. let f = free e in (ap (used_in first) f.0, ap (bound_in first) f.1)) (has_front plan site one others h),
          turn_sited rest inside (site + forks first) later (unused_in first w) (unbound_in first s) (λ e. let f = free e in (ap (unused_in first) f.0, ap (unbound_in first) f.1))
              (has_back plan site (forks first) one others (planned_count first after (used_in first w) (bound_in first s)) h),
        )

    conjuncts_sited : (goals : Nodes) (site number : ℕ) (outputs : List ℕ) (w s : List Right) (left : List ℕ) → HasSites plan site (planned_conjuncts number outputs w s left goals)
        → AllSited true (placed_conjuncts site number outputs w s left goals)
    conjuncts_sited no_nodes site number outputs w s left h = tt
    conjuncts_sited (more_nodes first rest) site number outputs w s left h =
        let waits = used_in first (map (right_to number) left ++ w) in
        let signals = flat_map (signals_of (suc number) rest outputs s) (outputs_of first) in
        let one = planned nothing waits signals first in
        let others = planned_conjuncts (suc number) outputs w s (left ++ outputs_of first) rest in (
          placed_sited first true site nothing waits signals (held waits signals) (has_front plan site one others h),
          conjuncts_sited rest (site + forks first) (suc number) outputs w s (left ++ outputs_of first) (has_back plan site (forks first) one others (planned_count first nothing waits signals) h),
        )

    arms_sited : (arms : Arms) (inside : Bool) (site : ℕ) (later : ℕ → Bool) (w s : List Right) → IsFree inside w s → HasSites plan site (planned_arms later w s arms)
        → ArmsSited inside (placed_arms site later w s arms)
    arms_sited no_arms inside site later w s free h = tt
    arms_sited (more_arms symbol body rest) inside site later w s free h =
        let one = planned later (used_in body w) (bound_in body s) body in
        let others = planned_arms later w s rest in (
          ahead_sited inside (placed site later (used_in body w) (bound_in body s) body) (passed_by later body w)
              (placed_sited body inside site later (used_in body w) (bound_in body s) (λ e. let f = free e in (ap (used_in body) f.0, ap (bound_in body) f.1)) (has_front plan site one others h)),
          arms_sited rest inside (site + forks body) later w s free (has_back plan site (forks body) one others (planned_count body later (used_in body w) (bound_in body s)) h),
        )

    alone_sited : (goals : Nodes) (inside : Bool) (site : ℕ) → HasSites plan site (planned_alone goals) → AllSited inside (placed_alone site goals)
    alone_sited no_nodes inside site h = tt
    alone_sited (more_nodes first rest) inside site h =
        let one = planned nothing [] [] first in
        let others = planned_alone rest in (
          placed_sited first inside site nothing [] [] (λ e. (refl, refl)) (has_front plan site one others h),
          alone_sited rest inside (site + forks first) (has_back plan site (forks first) one others (planned_count first nothing [] []) h),
        )

  -- a body, or a goal that is asked
  pub split_sited : (site : ℕ) (tree : Node) → HasSites plan site (sites tree) → Sited false (split site tree)
  split_sited site tree h = placed_sited tree false site nothing [] [] (λ e. (refl, refl)) h

  pub all_split_sited : (site : ℕ) (trees : List Node) → HasSites plan site (all_sites trees) → AllByRecursion (Sited false) (all_split site trees)
  all_split_sited site [] h = tt
  all_split_sited site (tree ∷ trees) h = (
    split_sited site tree (has_front plan site (sites tree) (all_sites trees) h),
    all_split_sited (site + forks tree) trees (has_back plan site (forks tree) (sites tree) (all_sites trees) (planned_count tree nothing [] []) h),
  )
