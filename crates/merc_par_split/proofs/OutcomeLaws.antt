-- What comes of a goal is its split tree and its sites.
use Rattle.std.specs.Prelude.{◌≡◌, ℕ, suc, ◌+◌, Bool, true, false, ◌==◌, ◌||◌, not, List, [], ◌∷◌, ◌++◌, length, map, Option, Some, if◌then◌else◌, refl}
use Rattle.std.specs.List.{filter, flat_map}
use Rattle.std.proofs.Common.{◌∙◌, ap}
use Rattle.std.proofs.lemmas.List.{length-append}
use Rattle.merc_base.specs.declared.category.Category.{Category}
use Rattle.merc_base.specs.declared.place.Span.{Span}
use Rattle.merc_graded_tree.specs.declared.entries.Running.TheVariants.{Sequential, Parallel}
use Rattle.merc_graded_tree.specs.Nodes.{Node, node, Goal, Basic, Conjunction, Disjunction, Switch, Conditional, Negation, Quantified, Nodes, no_nodes, more_nodes, Arms, no_arms, more_arms, outputs_of}
use Rattle.merc_graded_tree.specs.Variables.{in_node, in_nodes}
use Rattle.merc_rights.specs.declared.rights.Awaited.{Awaited}
use Rattle.merc_rights.specs.declared.sites.SiteInfo.{SiteInfo}
use Rattle.merc_rights.specs.Rights.{Right, right_to, those, used_in, unused_in, passed_by, bound_in, unbound_in, wait_at, between, around, ahead_of, signals_of}
use Rattle.merc_par_split.specs.Forks.{forks, goal_forks, all_forks, arm_forks}
use Rattle.merc_par_split.specs.Split.{may_fail, nothing, moves_in, placed, placed_goal, placed_in_turn, placed_conjuncts, placed_arms, placed_alone, split}
use Rattle.merc_par_split.specs.Sites.{site_info, planned, planned_goal, planned_in_turn, planned_conjuncts, planned_arms, planned_alone, sites}
use Rattle.merc_par_split.specs.Outcomes.{turned, is_passed, outcome, entered, in_turn, side_by_side, armed, alone}
use Rattle.merc_rights.specs.Waits.{rights_of, those_waits, others, moves, stays}

-- There are as many sites as parallel conjunctions.
both_counts : (one other : List SiteInfo) (count more : ℕ) → length one ≡ count → length other ≡ more → length (one ++ other) ≡ count + more
both_counts one other count more h k = length-append one other ∙ ap (λ n. n + length other) h ∙ ap (λ n. count + n) k

either_count : (b : Bool) (one other : List SiteInfo) (count : ℕ) → length one ≡ count → length other ≡ count → length (if b then one else other) ≡ count
either_count true one other count h k = h
either_count false one other count h k = k

mutual
  pub planned_count : (n : Node) (later : ℕ → Bool) (waits signals : List Right) → length (planned later waits signals n) ≡ forks n
  planned_count (node g outputs category span) later waits signals =
      either_count (may_fail category) (planned_goal later waits [] g outputs) (planned_goal later waits signals g outputs) (goal_forks g)
      (goal_count g later waits [] outputs) (goal_count g later waits signals outputs)

  goal_count : (g : Goal) (later : ℕ → Bool) (waits signals : List Right) (outputs : List ℕ) → length (planned_goal later waits signals g outputs) ≡ goal_forks g
  goal_count (Basic g) later waits signals outputs = refl
  goal_count (Conjunction Sequential goals) later waits signals outputs = in_turn_count goals later waits signals
  goal_count (Conjunction (Parallel unknown) goals) later waits signals outputs = ap suc (conjuncts_count goals 1 outputs (those (moves_in later goals) waits) signals [])
  goal_count (Disjunction goals) later waits signals outputs = alone_count goals
  goal_count (Switch variable arms) later waits signals outputs = arms_count arms later (those (λ other. not (other == variable)) waits) signals
  goal_count (Conditional condition then_part else_part) later waits signals outputs =
      let inner = unused_in condition waits in
      let two = planned later (used_in then_part inner) (bound_in then_part signals) then_part in
      let three = planned later (used_in else_part inner) (bound_in else_part signals) else_part in
      both_counts (planned nothing [] [] condition) (two ++ three) (forks condition) (forks then_part + forks else_part) (planned_count condition nothing [] [])
      (both_counts two three (forks then_part) (forks else_part)
      (planned_count then_part later (used_in then_part inner) (bound_in then_part signals)) (planned_count else_part later (used_in else_part inner) (bound_in else_part signals)))
  goal_count (Negation goal) later waits signals outputs = planned_count goal nothing [] []
  goal_count (Quantified own goal) later waits signals outputs = planned_count goal later waits signals

  in_turn_count : (goals : Nodes) (later : ℕ → Bool) (waits signals : List Right) → length (planned_in_turn later waits signals goals) ≡ all_forks goals
  in_turn_count no_nodes later waits signals = refl
  in_turn_count (more_nodes first rest) later waits signals =
      let here : ℕ → Bool = λ variable. later variable || in_nodes rest variable in
      both_counts (planned here (used_in first waits) (bound_in first signals) first) (planned_in_turn later (unused_in first waits) (unbound_in first signals) rest) (forks first) (all_forks rest)
      (planned_count first here (used_in first waits) (bound_in first signals)) (in_turn_count rest later (unused_in first waits) (unbound_in first signals))

  conjuncts_count : (goals : Nodes) (number : ℕ) (outputs : List ℕ) (waits signals : List Right) (left : List ℕ) → length (planned_conjuncts number outputs waits signals left goals) ≡ all_forks goals
  conjuncts_count no_nodes number outputs waits signals left = refl
  conjuncts_count (more_nodes first rest) number outputs waits signals left =
      let awaited = used_in first (map (right_to number) left ++ waits) in
      let given = flat_map (signals_of (suc number) rest outputs signals) (outputs_of first) in
      both_counts (planned nothing awaited given first) (planned_conjuncts (suc number) outputs waits signals (left ++ outputs_of first) rest) (forks first) (all_forks rest)
      (planned_count first nothing awaited given) (conjuncts_count rest (suc number) outputs waits signals (left ++ outputs_of first))

  arms_count : (arms : Arms) (later : ℕ → Bool) (waits signals : List Right) → length (planned_arms later waits signals arms) ≡ arm_forks arms
  arms_count no_arms later waits signals = refl
  arms_count (more_arms symbol body rest) later waits signals =
      both_counts (planned later (used_in body waits) (bound_in body signals) body) (planned_arms later waits signals rest) (forks body) (arm_forks rest)
      (planned_count body later (used_in body waits) (bound_in body signals)) (arms_count rest later waits signals)

  alone_count : (goals : Nodes) → length (planned_alone goals) ≡ all_forks goals
  alone_count no_nodes = refl
  alone_count (more_nodes first rest) =
      both_counts (planned nothing [] [] first) (planned_alone rest) (forks first) (all_forks rest) (planned_count first nothing [] []) (alone_count rest)

-- a right to wait that tells whether its variable is used behind
abbrev pub tagged : (ℕ → Bool) → Right → Awaited
tagged later right = record { right = right; later = later right.variable }

tagged_if : (b : Bool) (later : ℕ → Bool) (first : Right) (rest : List Awaited) (rights : List Right) → rest ≡ map (tagged later) rights
    → (if b then tagged later first ∷ rest else rest) ≡ map (tagged later) (if b then first ∷ rights else rights)
tagged_if true later first rest rights h = ap (λ l. tagged later first ∷ l) h
tagged_if false later first rest rights h = h

filter_tagged : (such : Awaited → Bool) (later : ℕ → Bool) (rights : List Right) → filter such (map (tagged later) rights) ≡ map (tagged later) (filter (λ right. such (tagged later right)) rights)
filter_tagged such later [] = refl
filter_tagged such later (first ∷ rest) =
    tagged_if (such (tagged later first)) later first (filter such (map (tagged later) rest)) (filter (λ right. such (tagged later right)) rest) (filter_tagged such later rest)

untagged : (later : ℕ → Bool) (rights : List Right) → rights_of (map (tagged later) rights) ≡ rights
untagged later [] = refl
untagged later (first ∷ rest) = ap (λ l. first ∷ l) (untagged later rest)

rights_tagged : (such : Awaited → Bool) (later : ℕ → Bool) (rights : List Right) → rights_of (filter such (map (tagged later) rights)) ≡ filter (λ right. such (tagged later right)) rights
rights_tagged such later rights = ap (λ l. rights_of l) (filter_tagged such later rights) ∙ untagged later (filter (λ right. such (tagged later right)) rights)

turned_tagged : (rest : Nodes) (later : ℕ → Bool) (rights : List Right)
    → map (turned rest) (map (tagged later) rights) ≡ map (tagged (λ variable. later variable || in_nodes rest variable)) rights
turned_tagged rest later [] = refl
turned_tagged rest later (first ∷ more) = ap (λ l. turned rest (tagged later first) ∷ l) (turned_tagged rest later more)

those_tagged : (such : ℕ → Bool) (later : ℕ → Bool) (rights : List Right) → those_waits such (map (tagged later) rights) ≡ map (tagged later) (those such rights)
those_tagged such later rights = filter_tagged (λ wait. such wait.right.variable) later rights

-- what comes of a goal and then of others, whose sites have the numbers behind its own
chained : {Z R : Type 0} (f : Node → Z → R) (site : ℕ) (one : Node × List SiteInfo) (more : ℕ → Z × List SiteInfo) (first : Node) (here : List SiteInfo) (count : ℕ) (rest : Z) (behind : List SiteInfo)
    → one ≡ (first, here) → length here ≡ count → more (site + count) ≡ (rest, behind)
    → ◌≡◌ {A = R × List SiteInfo} (f one.0 (more (site + length one.1)).0, one.1 ++ (more (site + length one.1)).1) (f first rest, here ++ behind)
chained {Z} {R} f site one more first here count rest behind h size k =
    ap (λ (p : Node × List SiteInfo). (f p.0 (more (site + length p.1)).0, p.1 ++ (more (site + length p.1)).1)) h
    ∙ ap (λ (n : ℕ). (f first (more (site + n)).0, here ++ (more (site + n)).1)) size
    ∙ ap (λ (p : Z × List SiteInfo). (f first p.0, here ++ p.1)) k

either_outcome : (b : Bool) (signals : List Right) (one other : Node × List SiteInfo) (first second : Node) (here there : List SiteInfo) → one ≡ (first, here) → other ≡ (second, there)
    → ◌≡◌ {A = Node × List SiteInfo} (if b then (around [] signals one.0, one.1) else other) ((if b then around [] signals first else second), (if b then here else there))
either_outcome true signals one other first second here there h k = ap (λ (p : Node × List SiteInfo). (around [] signals p.0, p.1)) h
either_outcome false signals one other first second here there h k = k

-- what comes of an arm, with the waits behind it
abbrev pub arm_outcome : ℕ → List Awaited → List Right → Node → Node × List SiteInfo
arm_outcome site waits signals body =
    let one = outcome site (those_waits (in_node body) waits) (bound_in body signals) body in
    (ahead_of one.0 (rights_of (filter (is_passed body) waits)), one.1)

-- what comes of two
abbrev pub arms_outcome : ℕ → List Awaited → List Right → Node → Node → (Node × Node) × List SiteInfo
arms_outcome site waits signals then_part else_part =
    let two = arm_outcome site waits signals then_part in
    let three = arm_outcome (site + length two.1) waits signals else_part in
    ((two.0, three.0), two.1 ++ three.1)

arm_is : (body : Node) (site : ℕ) (later : ℕ → Bool) (waits signals : List Right)
    → outcome site (map (tagged later) (used_in body waits)) (bound_in body signals) body
    ≡ (placed site later (used_in body waits) (bound_in body signals) body, planned later (used_in body waits) (bound_in body signals) body)
    → arm_outcome site (map (tagged later) waits) signals body
    ≡ (ahead_of (placed site later (used_in body waits) (bound_in body signals) body) (passed_by later body waits), planned later (used_in body waits) (bound_in body signals) body)
arm_is body site later waits signals h =
    let tags = map (tagged later) waits in
    let last = rights_of (filter (is_passed body) tags) in
    ap (λ (l : List Awaited). (ahead_of (outcome site l (bound_in body signals) body).0 last, (outcome site l (bound_in body signals) body).1)) (those_tagged (in_node body) later waits)
    ∙ ap (λ (p : Node × List SiteInfo). (ahead_of p.0 last, p.1)) h
    ∙ ap (λ (l : List Right). (ahead_of (placed site later (used_in body waits) (bound_in body signals) body) l, planned later (used_in body waits) (bound_in body signals) body))
    (rights_tagged (is_passed body) later waits)

abbrev no_sites : List SiteInfo
no_sites = []

abbrev conditional_outcome : (site : ℕ) (before : List Right) (waits : List Awaited) (signals : List Right) (condition then_part else_part : Node) (outputs : List ℕ) (category : Option Category) (span : Span)
    → Node × List SiteInfo
conditional_outcome site before waits signals condition then_part else_part outputs category span =
    let one = outcome site [] [] condition in
    let more = arms_outcome (site + length one.1) waits signals then_part else_part in
    (around before [] (node (Conditional one.0 more.0.0 more.0.1) outputs category span), one.1 ++ more.1)

abbrev parallel_outcome : (site : ℕ) (before moved signals : List Right) (goals : Nodes) (outputs : List ℕ) (category : Option Category) (span : Span) → Node × List SiteInfo
parallel_outcome site before moved signals goals outputs category span =
    let inner = side_by_side (suc site) 1 outputs moved signals [] goals in (
      between before (node (Conjunction (Parallel (Some (record { number = site }))) inner.0) outputs category span) (map (λ variable. wait_at span (right_to 0 variable)) outputs),
      site_info outputs moved signals goals ∷ inner.1,
    )

mutual
  pub outcome_is : (n : Node) (site : ℕ) (later : ℕ → Bool) (waits signals : List Right)
      → outcome site (map (tagged later) waits) signals n ≡ (placed site later waits signals n, planned later waits signals n)
  outcome_is (node g outputs category span) site later waits signals =
      either_outcome (may_fail category) signals (entered site (map (tagged later) waits) [] g outputs category span) (entered site (map (tagged later) waits) signals g outputs category span)
      (placed_goal site later waits [] g outputs category span) (placed_goal site later waits signals g outputs category span)
      (planned_goal later waits [] g outputs) (planned_goal later waits signals g outputs)
      (entered_is g site later waits [] outputs category span) (entered_is g site later waits signals outputs category span)

  entered_is : (g : Goal) (site : ℕ) (later : ℕ → Bool) (waits signals : List Right) (outputs : List ℕ) (category : Option Category) (span : Span)
      → entered site (map (tagged later) waits) signals g outputs category span ≡ (placed_goal site later waits signals g outputs category span, planned_goal later waits signals g outputs)
  entered_is (Basic g) site later waits signals outputs category span =
      ap (λ (l : List Right). (around l signals (node (Basic g) outputs category span), no_sites)) (untagged later waits)
  entered_is (Conjunction Sequential goals) site later waits signals outputs category span =
      ap (λ (p : Nodes × List SiteInfo). (node (Conjunction Sequential p.0) outputs category span, p.1)) (in_turn_is goals site later waits signals)
  entered_is (Conjunction (Parallel unknown) goals) site later waits signals outputs category span =
      let tags = map (tagged later) waits in
      let moved = those (moves_in later goals) waits in
      let staying = those (λ variable. not (moves_in later goals variable)) waits in
      ap (λ l. parallel_outcome site (rights_of (filter (stays goals) tags)) l signals goals outputs category span) (rights_tagged (moves goals) later waits)
      ∙ ap (λ l. parallel_outcome site l moved signals goals outputs category span) (rights_tagged (stays goals) later waits)
      ∙ ap (λ (p : Nodes × List SiteInfo). (
        between staying (node (Conjunction (Parallel (Some (record { number = site }))) p.0) outputs category span) (map (λ variable. wait_at span (right_to 0 variable)) outputs),
        site_info outputs moved signals goals ∷ p.1,
      )) (side_by_side_is goals (suc site) 1 outputs moved signals [])
  entered_is (Disjunction goals) site later waits signals outputs category span =
      ap (λ (l : List Right). (around l signals (node (Disjunction (alone site goals).0) outputs category span), (alone site goals).1)) (untagged later waits)
      ∙ ap (λ (p : Nodes × List SiteInfo). (around waits signals (node (Disjunction p.0) outputs category span), p.1)) (alone_is goals site)
  entered_is (Switch variable arms) site later waits signals outputs category span =
      let tags = map (tagged later) waits in
      let is_it = λ (other : ℕ). other == variable in
      let inner = those (others is_it) waits in
      ap (λ (l : List Awaited). (around (rights_of (those_waits is_it tags)) [] (node (Switch variable (armed site l signals arms).0) outputs category span), (armed site l signals arms).1))
      (those_tagged (others is_it) later waits)
      ∙ ap (λ (l : List Right). (around l [] (node (Switch variable (armed site (map (tagged later) inner) signals arms).0) outputs category span), (armed site (map (tagged later) inner) signals arms).1))
      (rights_tagged (λ wait. is_it wait.right.variable) later waits)
      ∙ ap (λ (p : Arms × List SiteInfo). (around (those is_it waits) [] (node (Switch variable p.0) outputs category span), p.1)) (armed_is arms site later inner signals)
  entered_is (Conditional condition then_part else_part) site later waits signals outputs category span =
      let tags = map (tagged later) waits in
      let inner = unused_in condition waits in
      ap (λ l. conditional_outcome site (rights_of (those_waits (in_node condition) tags)) l signals condition then_part else_part outputs category span) (those_tagged (others (in_node condition)) later waits)
      ∙ ap (λ l. conditional_outcome site l (map (tagged later) inner) signals condition then_part else_part outputs category span)
      (rights_tagged (λ wait. in_node condition wait.right.variable) later waits)
      ∙ chained (λ one (more : Node × Node). around (used_in condition waits) [] (node (Conditional one more.0 more.1) outputs category span)) site (outcome site [] [] condition)
      (λ s. arms_outcome s (map (tagged later) inner) signals then_part else_part) (placed site nothing [] [] condition) (planned nothing [] [] condition) (forks condition) (
        ahead_of (placed (site + forks condition) later (used_in then_part inner) (bound_in then_part signals) then_part) (passed_by later then_part inner),
        ahead_of (placed (site + forks condition + forks then_part) later (used_in else_part inner) (bound_in else_part signals) else_part) (passed_by later else_part inner),
      )
      (planned later (used_in then_part inner) (bound_in then_part signals) then_part ++ planned later (used_in else_part inner) (bound_in else_part signals) else_part)
      (outcome_is condition site nothing [] []) (planned_count condition nothing [] [])
      (chained (λ one (more : Node). (one, more)) (site + forks condition) (arm_outcome (site + forks condition) (map (tagged later) inner) signals then_part)
      (λ s. arm_outcome s (map (tagged later) inner) signals else_part)
      (ahead_of (placed (site + forks condition) later (used_in then_part inner) (bound_in then_part signals) then_part) (passed_by later then_part inner))
      (planned later (used_in then_part inner) (bound_in then_part signals) then_part) (forks then_part)
      (ahead_of (placed (site + forks condition + forks then_part) later (used_in else_part inner) (bound_in else_part signals) else_part) (passed_by later else_part inner))
      (planned later (used_in else_part inner) (bound_in else_part signals) else_part)
      (arm_is then_part (site + forks condition) later inner signals (outcome_is then_part (site + forks condition) later (used_in then_part inner) (bound_in then_part signals))) (planned_count then_part later (used_in then_part inner) (bound_in then_part signals))
      (arm_is else_part (site + forks condition + forks then_part) later inner signals
      (outcome_is else_part (site + forks condition + forks then_part) later (used_in else_part inner) (bound_in else_part signals))))
  entered_is (Negation goal) site later waits signals outputs category span =
      ap (λ (l : List Right). (around l signals (node (Negation (outcome site [] [] goal).0) outputs category span), (outcome site [] [] goal).1)) (untagged later waits)
      ∙ ap (λ (p : Node × List SiteInfo). (around waits signals (node (Negation p.0) outputs category span), p.1)) (outcome_is goal site nothing [] [])
  entered_is (Quantified own goal) site later waits signals outputs category span =
      ap (λ (p : Node × List SiteInfo). (node (Quantified own p.0) outputs category span, p.1)) (outcome_is goal site later waits signals)

  in_turn_is : (goals : Nodes) (site : ℕ) (later : ℕ → Bool) (waits signals : List Right)
      → in_turn site (map (tagged later) waits) signals goals ≡ (placed_in_turn site later waits signals goals, planned_in_turn later waits signals goals)
  in_turn_is no_nodes site later waits signals = refl
  in_turn_is (more_nodes first rest) site later waits signals =
      let here : ℕ → Bool = λ variable. later variable || in_nodes rest variable in
      let tags = map (tagged later) waits in
      chained (λ one (more : Nodes). more_nodes one more) site (outcome site (map (turned rest) (those_waits (in_node first) tags)) (bound_in first signals) first)
      (λ s. in_turn s (those_waits (others (in_node first)) tags) (unbound_in first signals) rest)
      (placed site here (used_in first waits) (bound_in first signals) first) (planned here (used_in first waits) (bound_in first signals) first) (forks first)
      (placed_in_turn (site + forks first) later (unused_in first waits) (unbound_in first signals) rest) (planned_in_turn later (unused_in first waits) (unbound_in first signals) rest)
      (ap (λ l. outcome site (map (turned rest) l) (bound_in first signals) first) (those_tagged (in_node first) later waits)
      ∙ ap (λ l. outcome site l (bound_in first signals) first) (turned_tagged rest later (used_in first waits))
      ∙ outcome_is first site here (used_in first waits) (bound_in first signals))
      (planned_count first here (used_in first waits) (bound_in first signals))
      (ap (λ l. in_turn (site + forks first) l (unbound_in first signals) rest) (those_tagged (others (in_node first)) later waits)
      ∙ in_turn_is rest (site + forks first) later (unused_in first waits) (unbound_in first signals))

  side_by_side_is : (goals : Nodes) (site number : ℕ) (outputs : List ℕ) (waits signals : List Right) (left : List ℕ)
      → side_by_side site number outputs waits signals left goals ≡ (placed_conjuncts site number outputs waits signals left goals, planned_conjuncts number outputs waits signals left goals)
  side_by_side_is no_nodes site number outputs waits signals left = refl
  side_by_side_is (more_nodes first rest) site number outputs waits signals left =
      let awaited = used_in first (map (right_to number) left ++ waits) in
      let given = flat_map (signals_of (suc number) rest outputs signals) (outputs_of first) in
      chained (λ one (more : Nodes). more_nodes one more) site (outcome site (map (tagged nothing) awaited) given first)
      (λ s. side_by_side s (suc number) outputs waits signals (left ++ outputs_of first) rest)
      (placed site nothing awaited given first) (planned nothing awaited given first) (forks first)
      (placed_conjuncts (site + forks first) (suc number) outputs waits signals (left ++ outputs_of first) rest) (planned_conjuncts (suc number) outputs waits signals (left ++ outputs_of first) rest)
      (outcome_is first site nothing awaited given) (planned_count first nothing awaited given)
      (side_by_side_is rest (site + forks first) (suc number) outputs waits signals (left ++ outputs_of first))

  armed_is : (arms : Arms) (site : ℕ) (later : ℕ → Bool) (waits signals : List Right)
      → armed site (map (tagged later) waits) signals arms ≡ (placed_arms site later waits signals arms, planned_arms later waits signals arms)
  armed_is no_arms site later waits signals = refl
  armed_is (more_arms symbol body rest) site later waits signals =
      chained (λ one (more : Arms). more_arms symbol one more) site (arm_outcome site (map (tagged later) waits) signals body) (λ s. armed s (map (tagged later) waits) signals rest)
      (ahead_of (placed site later (used_in body waits) (bound_in body signals) body) (passed_by later body waits)) (planned later (used_in body waits) (bound_in body signals) body) (forks body)
      (placed_arms (site + forks body) later waits signals rest) (planned_arms later waits signals rest)
      (arm_is body site later waits signals (outcome_is body site later (used_in body waits) (bound_in body signals)))
      (planned_count body later (used_in body waits) (bound_in body signals)) (armed_is rest (site + forks body) later waits signals)

  alone_is : (goals : Nodes) (site : ℕ) → alone site goals ≡ (placed_alone site goals, planned_alone goals)
  alone_is no_nodes site = refl
  alone_is (more_nodes first rest) site =
      chained (λ one (more : Nodes). more_nodes one more) site (outcome site [] [] first) (λ s. alone s rest) (placed site nothing [] [] first) (planned nothing [] [] first) (forks first)
      (placed_alone (site + forks first) rest) (planned_alone rest) (outcome_is first site nothing [] []) (planned_count first nothing [] []) (alone_is rest (site + forks first))

pub split_is : (site : ℕ) (tree : Node) → outcome site [] [] tree ≡ (split site tree, sites tree)
split_is site tree = outcome_is tree site nothing [] []
