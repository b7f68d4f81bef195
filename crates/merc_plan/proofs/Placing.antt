-- In a split tree waits for what conjuncts bind stand directly behind their fork.
use Rattle.std.proofs.Common.{◌≡◌, ℕ, zero, suc, ◌+◌, ◌⊎◌, inl, inr, Bool, true, false, not, if◌then◌else◌, List, [], ◌∷◌, ◌++◌, length, map, filter, flat_map, slice_get, refl, ap, sym, subst, ◌∙◌, arith}
use Rattle.std.specs.Prelude.{⊤, Option, Some, nat_eq, ◌==◌, ◌||◌}
use Rattle.std.specs.List.{AllByRecursion}
use Rattle.merc_base.specs.declared.category.Category.{Category}
use Rattle.merc_base.specs.declared.category.Category.TheVariants.{Det}
use Rattle.merc_base.specs.declared.place.Span.{Span}
use Rattle.merc_graded_tree.specs.declared.basic.BasicGoal.TheVariants.{Wait, Signal}
use Rattle.merc_graded_tree.specs.declared.basic.Site.{Site}
use Rattle.merc_graded_tree.specs.declared.entries.Running.TheVariants.{Sequential, Parallel}
use Rattle.merc_graded_tree.specs.Nodes.{Node, node, Goal, Basic, Conjunction, Disjunction, Switch, Conditional, Negation, Quantified, Nodes, no_nodes, more_nodes, Arms, no_arms, more_arms, nodes_of, outputs_of, category_of, span_of}
use Rattle.merc_graded_tree.specs.Variables.{among, in_node, in_nodes}
use Rattle.merc_core.specs.Rights.{has}
use Rattle.merc_core.specs.WellFormed.{AreDistinct}
use Rattle.merc_rights.specs.declared.sites.CellInfo.{CellInfo}
use Rattle.merc_rights.specs.declared.sites.SiteInfo.{SiteInfo}
use Rattle.merc_rights.specs.Rights.{Right, right_to, those, used_in, unused_in, passed_by, bound_in, unbound_in, wait_at, signal_at, in_place_of, between, around, ahead_of, users, signals_of}
use Rattle.merc_par_split.specs.Forks.{forks}
use Rattle.merc_par_split.specs.Split.{may_fail, nothing, moves_in, placed, placed_goal, placed_in_turn, placed_conjuncts, placed_arms, placed_alone, split}
use Rattle.merc_par_split.specs.Sites.{consumers, cells_of, site_info, planned, planned_goal, planned_in_turn, planned_conjuncts, planned_arms, planned_alone, sites}
use Rattle.merc_par_split.proofs.PlannedCounts.{planned_count}
use Rattle.merc_plan.specs.Branches.{info_of, Plan}
use Rattle.merc_plan.proofs.Sets.{clash, absent, or_either, same_number, front_or, or_in, rest_in}
use Rattle.merc_plan.proofs.Givers.{each_append}
use Rattle.merc_plan.proofs.TellingNodes.{bound_behind, removed, Prompt, prompt, basic, in_turn, forked, any_of, switched, conditional, negation, quantified, AllPrompt, all_none, all_first, all_fork, all_wait, EachPrompt, each_none, each_first, ArmsPrompt, arms_none, arms_first}

-- the conjuncts of each parallel conjunction bind a variable once at most for the goals behind it
abbrev mutual
  pub BindsOnce : Node → Type 0
  BindsOnce (node goal outputs category span) = GoalBindsOnce outputs goal

  pub GoalBindsOnce : List ℕ → Goal → Type 0
  GoalBindsOnce outputs (Basic goal) = ⊤
  GoalBindsOnce outputs (Conjunction Sequential goals) = AllBindOnce goals
  GoalBindsOnce outputs (Conjunction (Parallel unknown) goals) = AreDistinct (bound_behind (cells_of 1 outputs goals)) × AllBindOnce goals
  GoalBindsOnce outputs (Disjunction goals) = AllBindOnce goals
  GoalBindsOnce outputs (Switch variable arms) = ArmsBindOnce arms
  GoalBindsOnce outputs (Conditional condition then_part else_part) = BindsOnce condition × (BindsOnce then_part × BindsOnce else_part)
  GoalBindsOnce outputs (Negation goal) = BindsOnce goal
  GoalBindsOnce outputs (Quantified own goal) = BindsOnce goal

  pub AllBindOnce : Nodes → Type 0
  AllBindOnce no_nodes = ⊤
  AllBindOnce (more_nodes first rest) = BindsOnce first × AllBindOnce rest

  pub ArmsBindOnce : Arms → Type 0
  ArmsBindOnce no_arms = ⊤
  ArmsBindOnce (more_arms symbol body rest) = BindsOnce body × ArmsBindOnce rest

-- the plan has these at the sites from a number on
abbrev pub HasSites : Plan → ℕ → List SiteInfo → Type 0
HasSites plan site infos = (number : ℕ) (info : SiteInfo) → slice_get infos number ≡ Some info → plan (site + number) ≡ Some info

slice_front : (xs ys : List SiteInfo) (number : ℕ) (info : SiteInfo) → slice_get xs number ≡ Some info → slice_get (xs ++ ys) number ≡ Some info
slice_front [] ys number info h = absurd (cc)
slice_front (x ∷ xs) ys zero info h = h
slice_front (x ∷ xs) ys (suc number) info h = slice_front xs ys number info h

pub none_plus : (n : ℕ) → 0 + n ≡ n
none_plus n = omega arith

suc_plus : (m n : ℕ) → suc m + n ≡ suc (m + n)
suc_plus m n = omega arith

plus_suc : (m n : ℕ) → suc m + n ≡ m + suc n
plus_suc m n = omega arith

plus_none : (n : ℕ) → n ≡ n + 0
plus_none n = omega arith

plus_both : (site count some number : ℕ) → some ≡ count → site + count + number ≡ site + (some + number)
plus_both site count some number e = omega (arith, e)

slice_back : (xs ys : List SiteInfo) (number : ℕ) (info : SiteInfo) → slice_get ys number ≡ Some info → slice_get (xs ++ ys) (length xs + number) ≡ Some info
slice_back [] ys number info h = ap (λ (k : ℕ). slice_get ys k) (none_plus number) ∙ h
slice_back (x ∷ xs) ys number info h = ap (λ (k : ℕ). slice_get (x ∷ (xs ++ ys)) k) (suc_plus (length xs) number) ∙ slice_back xs ys number info h

pub has_front : (plan : Plan) (site : ℕ) (xs ys : List SiteInfo) → HasSites plan site (xs ++ ys) → HasSites plan site xs
has_front plan site xs ys h number info e = h number info (slice_front xs ys number info e)

pub has_back : (plan : Plan) (site count : ℕ) (xs ys : List SiteInfo) → length xs ≡ count → HasSites plan site (xs ++ ys) → HasSites plan (site + count) ys
has_back plan site count xs ys l h number info e = ap plan (plus_both site count (length xs) number l) ∙ h (length xs + number) info (slice_back xs ys number info e)

pub first_site : (plan : Plan) (site : ℕ) (first : SiteInfo) (infos : List SiteInfo) → HasSites plan site (first ∷ infos) → plan site ≡ Some first
first_site plan site first infos h = ap plan (plus_none site) ∙ h 0 first refl

pub more_sites : (plan : Plan) (site : ℕ) (first : SiteInfo) (infos : List SiteInfo) → HasSites plan site (first ∷ infos) → HasSites plan (suc site) infos
more_sites plan site first infos h number info e = ap plan (plus_suc site number) ∙ h (suc number) info e

-- waiting for each of some variables

abbrev removed_all : List ℕ → List ℕ → List ℕ
removed_all [] pending = pending
removed_all (x ∷ xs) pending = removed_all xs (removed x pending)

removed_in : (x c : ℕ) (ys : List ℕ) → has c (removed x ys) ≡ true → has c ys ≡ true
removed_in x c [] h = h
removed_in x c (y ∷ ys) h = on (y == x) h (λ k. removed_in x c ys k)
  where
    on : (b : Bool) → has c (if b then ys else y ∷ removed x ys) ≡ true → (has c (removed x ys) ≡ true → has c ys ≡ true) → has c (y ∷ ys) ≡ true
    on true h rec = rest_in c y ys h
    on false h rec = further (front_or c y (removed x ys) h)
      where
        further : (c ≡ y) ⊎ (has c (removed x ys) ≡ true) → has c (y ∷ ys) ≡ true
        further (inl e) = or_in c y ys (inl e)
        further (inr e) = rest_in c y ys (rec e)

removed_distinct : (x : ℕ) (ys : List ℕ) → AreDistinct ys → AreDistinct (removed x ys)
removed_distinct x [] d = d
removed_distinct x (y ∷ ys) d = on (y == x) (removed_distinct x ys d.1)
  where
    on : (b : Bool) → AreDistinct (removed x ys) → AreDistinct (if b then ys else y ∷ removed x ys)
    on true rec = d.1
    on false rec = (absent y (removed x ys) (λ h. clash (has y ys) (removed_in x y ys h) d.0), rec)

differs : (z x : ℕ) (more : Bool) → (nat_eq z x ≡ true → ⊥) → (nat_eq z x || more) ≡ true → more ≡ true
differs z x more n h = on (or_either (nat_eq z x) more h)
  where
    on : (nat_eq z x ≡ true) ⊎ (more ≡ true) → more ≡ true
    on (inl e) = absurd (n e)
    on (inr e) = e

rest_among : (x : ℕ) (xs ys : List ℕ) → has x ys ≡ false → AllByRecursion (λ z. among (x ∷ xs) z ≡ true) ys → AllByRecursion (λ z. among xs z ≡ true) ys
rest_among x xs [] n a = tt
rest_among x xs (y ∷ ys) n a = (
  differs y x (among xs y) (λ e. clash (has x (y ∷ ys)) (or_in x y ys (inl (sym (same_number y x e)))) n) a.0,
  rest_among x xs ys (absent x ys (λ h. clash (has x (y ∷ ys)) (rest_in x y ys h) n)) a.1,
)

removed_among : (x : ℕ) (xs ys : List ℕ) → AreDistinct ys → AllByRecursion (λ z. among (x ∷ xs) z ≡ true) ys → AllByRecursion (λ z. among xs z ≡ true) (removed x ys)
removed_among x xs [] d a = tt
removed_among x xs (y ∷ ys) d a = on (y == x) refl (removed_among x xs ys d.1 a.1)
  where
    on : (b : Bool) → nat_eq y x ≡ b → AllByRecursion (λ z. among xs z ≡ true) (removed x ys) → AllByRecursion (λ z. among xs z ≡ true) (if b then ys else y ∷ removed x ys)
    on true e rec = rest_among x xs ys (subst (λ z. has z ys ≡ false) (same_number y x e) d.0) a.1
    on false e rec = (differs y x (among xs y) (λ q. clash (nat_eq y x) q e) a.0, rec)

all_removed : (xs ys : List ℕ) → AreDistinct ys → AllByRecursion (λ z. among xs z ≡ true) ys → removed_all xs ys ≡ []
all_removed [] [] d a = refl
all_removed [] (y ∷ ys) d a = absurd (clash false a.0 refl)
all_removed (x ∷ xs) ys d a = all_removed xs (removed x ys) (removed_distinct x ys d) (removed_among x xs ys d a)

-- what conjuncts bind for the goals behind them are outputs

abbrev IfBehind : List ℕ → CellInfo → Type 0
IfBehind outputs info = nat_eq info.consumer 0 ≡ true → among outputs info.variable ≡ true

users_ahead : (next : ℕ) (goals : Nodes) (variable : ℕ) (P : Type 0) → AllByRecursion (λ (k : ℕ). nat_eq k 0 ≡ true → P) (users (suc next) goals variable)
users_ahead next no_nodes variable P = tt
users_ahead next (more_nodes first rest) variable P = on (in_node first variable) (users_ahead (suc next) rest variable P)
  where
    on : (b : Bool) → AllByRecursion (λ (k : ℕ). nat_eq k 0 ≡ true → P) (users (suc (suc next)) rest variable)
        → AllByRecursion (λ (k : ℕ). nat_eq k 0 ≡ true → P) (if b then suc next ∷ users (suc (suc next)) rest variable else users (suc (suc next)) rest variable)
    on true rec = ((λ e. absurd (omega (arith, same_number (suc next) 0 e))), rec)
    on false rec = rec

parent_last : (b : Bool) → AllByRecursion (λ (k : ℕ). nat_eq k 0 ≡ true → b ≡ true) (if b then 0 ∷ [] else [])
parent_last true = ((λ e. refl), tt)
parent_last false = tt

cells_behind_on : (at : ℕ) (outputs : List ℕ) (variable : ℕ) (ks : List ℕ) → AllByRecursion (λ (k : ℕ). nat_eq k 0 ≡ true → among outputs variable ≡ true) ks
    → AllByRecursion (IfBehind outputs) (map (λ (consumer : ℕ). record { variable = variable; producer = at; consumer = consumer }) ks)
cells_behind_on at outputs variable [] h = tt
cells_behind_on at outputs variable (k ∷ ks) h = (h.0, cells_behind_on at outputs variable ks h.1)

cells_behind_of : (at : ℕ) (outputs : List ℕ) (rest : Nodes) (variables : List ℕ)
    → AllByRecursion (IfBehind outputs)
    (flat_map (λ (variable : ℕ). map (λ (consumer : ℕ). record { variable = variable; producer = at; consumer = consumer }) (consumers (suc at) rest outputs variable)) variables)
cells_behind_of at outputs rest [] = tt
cells_behind_of at outputs rest (variable ∷ variables) =
    each_append (IfBehind outputs) (map (λ (consumer : ℕ). record { variable = variable; producer = at; consumer = consumer }) (consumers (suc at) rest outputs variable))
    (flat_map (λ (one : ℕ). map (λ (consumer : ℕ). record { variable = one; producer = at; consumer = consumer }) (consumers (suc at) rest outputs one)) variables)
    (cells_behind_on at outputs variable (consumers (suc at) rest outputs variable)
    (each_append (λ (k : ℕ). nat_eq k 0 ≡ true → among outputs variable ≡ true) (users (suc at) rest variable) (if among outputs variable then 0 ∷ [] else [])
    (users_ahead at rest variable (among outputs variable ≡ true)) (parent_last (among outputs variable))))
    (cells_behind_of at outputs rest variables)

cells_behind : (at : ℕ) (outputs : List ℕ) (goals : Nodes) → AllByRecursion (IfBehind outputs) (cells_of at outputs goals)
cells_behind at outputs no_nodes = tt
cells_behind at outputs (more_nodes first rest) =
    each_append (IfBehind outputs)
    (flat_map (λ (variable : ℕ). map (λ (consumer : ℕ). record { variable = variable; producer = at; consumer = consumer }) (consumers (suc at) rest outputs variable)) (outputs_of first))
    (cells_of (suc at) outputs rest) (cells_behind_of at outputs rest (outputs_of first)) (cells_behind (suc at) outputs rest)

bound_among : (outputs : List ℕ) (infos : List CellInfo) → AllByRecursion (IfBehind outputs) infos → AllByRecursion (λ z. among outputs z ≡ true) (bound_behind infos)
bound_among outputs [] h = tt
bound_among outputs (info ∷ infos) h = on (info.consumer == 0) h.0 (bound_among outputs infos h.1)
  where
    on : (b : Bool) → (b ≡ true → among outputs info.variable ≡ true) → AllByRecursion (λ z. among outputs z ≡ true) (bound_behind infos)
        → AllByRecursion (λ z. among outputs z ≡ true)
        (map (λ (one : CellInfo). one.variable) (if b then info ∷ filter (λ (one : CellInfo). one.consumer == 0) infos else filter (λ (one : CellInfo). one.consumer == 0) infos))
    on true f rec = (f refl, rec)
    on false f rec = rec

module _ (plan : Plan) where
  -- goals with others before them and behind them

  wait_prompt : (span : Span) (right : Right) → Prompt plan (wait_at span right)
  wait_prompt span right = prompt (Basic (Wait right.variable right.conjunct)) [] (Some Det) span (basic (Wait right.variable right.conjunct))

  signal_prompt : (span : Span) (right : Right) → Prompt plan (signal_at span right)
  signal_prompt span right = prompt (Basic (Signal right.variable right.conjunct)) [] (Some Det) span (basic (Signal right.variable right.conjunct))

  in_place_prompt : (whole : Node) (goals : List Node) → AllPrompt plan [] (nodes_of goals) → Prompt plan (in_place_of whole goals)
  in_place_prompt whole goals p = prompt (Conjunction Sequential (nodes_of goals)) (outputs_of whole) (category_of whole) (span_of whole) (in_turn (nodes_of goals) p)

  waits_before : (span : Span) (waits : List Right) (rest : List Node) → AllPrompt plan [] (nodes_of rest) → AllPrompt plan [] (nodes_of (map (wait_at span) waits ++ rest))
  waits_before span [] rest p = p
  waits_before span (right ∷ waits) rest p =
      all_first (wait_at span right) (nodes_of (map (wait_at span) waits ++ rest)) (wait_prompt span right) (waits_before span waits rest p)

  signals_last : (span : Span) (signals : List Right) → AllPrompt plan [] (nodes_of (map (signal_at span) signals))
  signals_last span [] = all_none
  signals_last span (right ∷ signals) = all_first (signal_at span right) (nodes_of (map (signal_at span) signals)) (signal_prompt span right) (signals_last span signals)

  between_prompt : (waits : List Right) (whole : Node) (behind : List Node) → Prompt plan whole → AllPrompt plan [] (nodes_of behind) → Prompt plan (between waits whole behind)
  between_prompt [] whole [] p b = p
  between_prompt [] whole (next ∷ behind) p b = in_place_prompt whole (whole ∷ next ∷ behind) (all_first whole (nodes_of (next ∷ behind)) p b)
  between_prompt (first ∷ waits) whole behind p b =
      in_place_prompt whole (map (wait_at (span_of whole)) (first ∷ waits) ++ whole ∷ behind)
      (waits_before (span_of whole) (first ∷ waits) (whole ∷ behind) (all_first whole (nodes_of behind) p b))

  around_prompt : (waits signals : List Right) (whole : Node) → Prompt plan whole → Prompt plan (around waits signals whole)
  around_prompt waits signals whole p = between_prompt waits whole (map (signal_at (span_of whole)) signals) p (signals_last (span_of whole) signals)

  waits_last : (span : Span) (waits : List Right) → AllPrompt plan [] (nodes_of (map (wait_at span) waits))
  waits_last span [] = all_none
  waits_last span (right ∷ waits) = all_first (wait_at span right) (nodes_of (map (wait_at span) waits)) (wait_prompt span right) (waits_last span waits)

  ahead_prompt : (whole : Node) (waits : List Right) → Prompt plan whole → Prompt plan (ahead_of whole waits)
  ahead_prompt whole waits p = between_prompt [] whole (map (wait_at (span_of whole)) waits) p (waits_last (span_of whole) waits)

  -- a fork

  waits_behind_fork : (span : Span) (outputs pending : List ℕ) → removed_all outputs pending ≡ [] → AllPrompt plan pending (nodes_of (map (λ (variable : ℕ). wait_at span (right_to 0 variable)) outputs))
  waits_behind_fork span [] pending e = subst (λ p. AllPrompt plan p no_nodes) (sym e) all_none
  waits_behind_fork span (variable ∷ outputs) pending e =
      all_wait variable 0 [] (Some Det) span pending (nodes_of (map (λ (one : ℕ). wait_at span (right_to 0 one)) outputs)) (waits_behind_fork span outputs (removed variable pending) e)

  fork_prompt : (waits : List Right) (site : Site) (goals : Nodes) (outputs : List ℕ) (category : Option Category) (span : Span) → EachPrompt plan goals
      → removed_all outputs (bound_behind (info_of (plan site.number)).cells) ≡ []
      → Prompt plan (between waits (node (Conjunction (Parallel (Some site)) goals) outputs category span) (map (λ (variable : ℕ). wait_at span (right_to 0 variable)) outputs))
  fork_prompt [] site goals [] category span p e = prompt (Conjunction (Parallel (Some site)) goals) [] category span (forked site goals p e)
  fork_prompt [] site goals (variable ∷ outputs) category span p e =
      let whole = node (Conjunction (Parallel (Some site)) goals) (variable ∷ outputs) category span in
      let behind = map (λ (one : ℕ). wait_at span (right_to 0 one)) (variable ∷ outputs) in
      in_place_prompt whole (whole ∷ behind)
      (all_fork site goals (variable ∷ outputs) category span (nodes_of behind) p (waits_behind_fork span (variable ∷ outputs) (bound_behind (info_of (plan site.number)).cells) e))
  fork_prompt (first ∷ waits) site goals outputs category span p e =
      let whole = node (Conjunction (Parallel (Some site)) goals) outputs category span in
      let behind = map (λ (one : ℕ). wait_at span (right_to 0 one)) outputs in
      in_place_prompt whole (map (wait_at span) (first ∷ waits) ++ whole ∷ behind)
      (waits_before span (first ∷ waits) (whole ∷ behind)
      (all_fork site goals outputs category span (nodes_of behind) p (waits_behind_fork span outputs (bound_behind (info_of (plan site.number)).cells) e)))

  -- the split tree

  mutual
    pub placed_prompt : (n : Node) (site : ℕ) (later : ℕ → Bool) (w s : List Right) → BindsOnce n → HasSites plan site (planned later w s n) → Prompt plan (placed site later w s n)
    placed_prompt (node goal outputs category span) site later w s b h = on (may_fail category) (λ s' k. goal_prompt goal site later w s' outputs category span b k) h
      where
        on : (f : Bool) → ((s' : List Right) → HasSites plan site (planned_goal later w s' goal outputs) → Prompt plan (placed_goal site later w s' goal outputs category span)) → HasSites plan site (if f then planned_goal later w [] goal outputs else planned_goal later w s goal outputs)
            → Prompt plan (if f then around [] s (placed_goal site later w [] goal outputs category span) else placed_goal site later w s goal outputs category span)
        on true p h = around_prompt [] s (placed_goal site later w [] goal outputs category span) (p [] h)
        on false p h = p s h

    goal_prompt : (goal : Goal) (site : ℕ) (later : ℕ → Bool) (w s : List Right) (outputs : List ℕ) (category : Option Category) (span : Span) → GoalBindsOnce outputs goal
        → HasSites plan site (planned_goal later w s goal outputs) → Prompt plan (placed_goal site later w s goal outputs category span)
    goal_prompt (Basic goal) site later w s outputs category span b h = around_prompt w s (node (Basic goal) outputs category span) (prompt (Basic goal) outputs category span (basic goal))
    goal_prompt (Conjunction Sequential goals) site later w s outputs category span b h =
        prompt (Conjunction Sequential (placed_in_turn site later w s goals)) outputs category span (in_turn (placed_in_turn site later w s goals) (turn_prompt goals site later w s b h))
    goal_prompt (Conjunction (Parallel unknown) goals) site later w s outputs category span b h =
        let moving = those (moves_in later goals) w in
        let info = site_info outputs moving s goals in
        let infos = planned_conjuncts 1 outputs moving s [] goals in
        fork_prompt (those (λ variable. not (moves_in later goals variable)) w) (record { number = site }) (placed_conjuncts (suc site) 1 outputs moving s [] goals) outputs category span
        (conjuncts_prompt goals (suc site) 1 outputs moving s [] b.1 (more_sites plan site info infos h))
        (ap (λ (o : Option SiteInfo). removed_all outputs (bound_behind (info_of o).cells)) (first_site plan site info infos h)
        ∙ all_removed outputs (bound_behind (cells_of 1 outputs goals)) b.0 (bound_among outputs (cells_of 1 outputs goals) (cells_behind 1 outputs goals)))
    goal_prompt (Disjunction goals) site later w s outputs category span b h =
        around_prompt w s (node (Disjunction (placed_alone site goals)) outputs category span)
        (prompt (Disjunction (placed_alone site goals)) outputs category span (any_of (placed_alone site goals) (alone_prompt goals site b h)))
    goal_prompt (Switch variable arms) site later w s outputs category span b h =
        let inner = those (λ other. not (other == variable)) w in
        around_prompt (those (λ other. other == variable) w) [] (node (Switch variable (placed_arms site later inner s arms)) outputs category span)
        (prompt (Switch variable (placed_arms site later inner s arms)) outputs category span (switched variable (placed_arms site later inner s arms) (arms_prompt arms site later inner s b h)))
    goal_prompt (Conditional condition then_part else_part) site later w s outputs category span b h =
        let inner = unused_in condition w in
        let one = planned nothing [] [] condition in
        let two = planned later (used_in then_part inner) (bound_in then_part s) then_part in
        let three = planned later (used_in else_part inner) (bound_in else_part s) else_part in
        let behind = has_back plan site (forks condition) one (two ++ three) (planned_count condition nothing [] []) h in
        let first = placed site nothing [] [] condition in
        let second = placed (site + forks condition) later (used_in then_part inner) (bound_in then_part s) then_part in
        let third = placed (site + forks condition + forks then_part) later (used_in else_part inner) (bound_in else_part s) else_part in
        let second' = ahead_of second (passed_by later then_part inner) in
        let third' = ahead_of third (passed_by later else_part inner) in
        around_prompt (used_in condition w) [] (node (Conditional first second' third') outputs category span)
        (prompt (Conditional first second' third') outputs category span
        (conditional first second' third' (placed_prompt condition site nothing [] [] b.0 (has_front plan site one (two ++ three) h))
        (ahead_prompt second (passed_by later then_part inner)
        (placed_prompt then_part (site + forks condition) later (used_in then_part inner) (bound_in then_part s) b.1.0 (has_front plan (site + forks condition) two three behind)))
        (ahead_prompt third (passed_by later else_part inner)
        (placed_prompt else_part (site + forks condition + forks then_part) later (used_in else_part inner) (bound_in else_part s) b.1.1
        (has_back plan (site + forks condition) (forks then_part) two three (planned_count then_part later (used_in then_part inner) (bound_in then_part s)) behind)))))
    goal_prompt (Negation goal) site later w s outputs category span b h =
        around_prompt w s (node (Negation (placed site nothing [] [] goal)) outputs category span)
        (prompt (Negation (placed site nothing [] [] goal)) outputs category span (negation (placed site nothing [] [] goal) (placed_prompt goal site nothing [] [] b h)))
    goal_prompt (Quantified own goal) site later w s outputs category span b h =
        prompt (Quantified own (placed site later w s goal)) outputs category span (quantified own (placed site later w s goal) (placed_prompt goal site later w s b h))

    turn_prompt : (goals : Nodes) (site : ℕ) (later : ℕ → Bool) (w s : List Right) → AllBindOnce goals → HasSites plan site (planned_in_turn later w s goals)
        → AllPrompt plan [] (placed_in_turn site later w s goals)
    turn_prompt no_nodes site later w s b h = all_none
    turn_prompt (more_nodes first rest) site later w s b h =
        let after : (ℕ → Bool) = λ variable. later variable || in_nodes rest variable in
        let one = planned after (used_in first w) (bound_in first s) first in
        let others = planned_in_turn later (unused_in first w) (unbound_in first s) rest in
        all_first (placed site after (used_in first w) (bound_in first s) first) (placed_in_turn (site + forks first) later (unused_in first w) (unbound_in first s) rest)
        (placed_prompt first site after (used_in first w) (bound_in first s) b.0 (has_front plan site one others h))
        (turn_prompt rest (site + forks first) later (unused_in first w) (unbound_in first s) b.1
        (has_back plan site (forks first) one others (planned_count first after (used_in first w) (bound_in first s)) h))

    conjuncts_prompt : (goals : Nodes) (site number : ℕ) (outputs : List ℕ) (w s : List Right) (left : List ℕ) → AllBindOnce goals → HasSites plan site (planned_conjuncts number outputs w s left goals)
        → EachPrompt plan (placed_conjuncts site number outputs w s left goals)
    conjuncts_prompt no_nodes site number outputs w s left b h = each_none
    conjuncts_prompt (more_nodes first rest) site number outputs w s left b h =
        let waits = used_in first (map (right_to number) left ++ w) in
        let signals = flat_map (signals_of (suc number) rest outputs s) (outputs_of first) in
        let one = planned nothing waits signals first in
        let others = planned_conjuncts (suc number) outputs w s (left ++ outputs_of first) rest in
        each_first (placed site nothing waits signals first) (placed_conjuncts (site + forks first) (suc number) outputs w s (left ++ outputs_of first) rest)
        (placed_prompt first site nothing waits signals b.0 (has_front plan site one others h))
        (conjuncts_prompt rest (site + forks first) (suc number) outputs w s (left ++ outputs_of first) b.1
        (has_back plan site (forks first) one others (planned_count first nothing waits signals) h))

    arms_prompt : (arms : Arms) (site : ℕ) (later : ℕ → Bool) (w s : List Right) → ArmsBindOnce arms → HasSites plan site (planned_arms later w s arms) → ArmsPrompt plan (placed_arms site later w s arms)
    arms_prompt no_arms site later w s b h = arms_none
    arms_prompt (more_arms symbol body rest) site later w s b h =
        let one = planned later (used_in body w) (bound_in body s) body in
        let others = planned_arms later w s rest in
        arms_first symbol (ahead_of (placed site later (used_in body w) (bound_in body s) body) (passed_by later body w)) (placed_arms (site + forks body) later w s rest)
        (ahead_prompt (placed site later (used_in body w) (bound_in body s) body) (passed_by later body w)
        (placed_prompt body site later (used_in body w) (bound_in body s) b.0 (has_front plan site one others h)))
        (arms_prompt rest (site + forks body) later w s b.1 (has_back plan site (forks body) one others (planned_count body later (used_in body w) (bound_in body s)) h))

    alone_prompt : (goals : Nodes) (site : ℕ) → AllBindOnce goals → HasSites plan site (planned_alone goals) → EachPrompt plan (placed_alone site goals)
    alone_prompt no_nodes site b h = each_none
    alone_prompt (more_nodes first rest) site b h =
        let one = planned nothing [] [] first in
        let others = planned_alone rest in
        each_first (placed site nothing [] [] first) (placed_alone (site + forks first) rest) (placed_prompt first site nothing [] [] b.0 (has_front plan site one others h))
        (alone_prompt rest (site + forks first) b.1 (has_back plan site (forks first) one others (planned_count first nothing [] []) h))

  pub split_prompt : (site : ℕ) (tree : Node) → BindsOnce tree → HasSites plan site (sites tree) → Prompt plan (split site tree)
  split_prompt site tree b h = placed_prompt tree site nothing [] [] b h
