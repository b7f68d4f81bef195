-- A goal has as many sites as parallel conjunctions.
use Rattle.std.proofs.Common.{◌≡◌, ℕ, zero, suc, add-one, drop, slice_get, Some, ◌+◌, Bool, true, false, if◌then◌else◌, List, [], ◌∷◌, ◌++◌, length, map, refl, ap, ap₂, ◌∙◌, sym, arith}
use Rattle.std.specs.List.{flat_map}
use Rattle.std.proofs.lemmas.List.{length-append, append_assoc}
use Rattle.merc_graded_tree.specs.declared.entries.Running.TheVariants.{Sequential, Parallel}
use Rattle.merc_graded_tree.specs.Nodes.{Node, node, Goal, Basic, Conjunction, Disjunction, Switch, Conditional, Negation, Quantified, Nodes, no_nodes, more_nodes, Arms, no_arms, more_arms, outputs_of}
use Rattle.merc_rights.specs.declared.sites.SiteInfo.{SiteInfo}
use Rattle.merc_par_split.specs.Forks.{forks, goal_forks, all_forks, arm_forks}
use Rattle.merc_rights.specs.Rights.{Right, right_to, those, used_in, unused_in, bound_in, unbound_in, signals_of}
use Rattle.merc_par_split.specs.Split.{may_fail, nothing, moves_in, split, all_split}
use Rattle.merc_par_split.specs.Sites.{planned, planned_goal, planned_in_turn, planned_conjuncts, planned_arms, planned_alone, sites, all_sites}

both : (one other : List SiteInfo) (a b : ℕ) → length one ≡ a → length other ≡ b → length (one ++ other) ≡ a + b
both one other a b h k = length-append one other ∙ ap₂ (λ (x y : ℕ). x + y) h k

either_way : (b : Bool) (one other : List SiteInfo) (n : ℕ) → length one ≡ n → length other ≡ n → length (if b then one else other) ≡ n
either_way true one other n h k = h
either_way false one other n h k = k

mutual
  pub planned_count : (n : Node) (later : ℕ → Bool) (w s : List Right) → length (planned later w s n) ≡ forks n
  planned_count (node g outs cat span) later w s =
      either_way (may_fail cat) (planned_goal later w [] g outs) (planned_goal later w s g outs) (goal_forks g) (goal_count g later w [] outs) (goal_count g later w s outs)

  goal_count : (g : Goal) (later : ℕ → Bool) (w s : List Right) (outs : List ℕ) → length (planned_goal later w s g outs) ≡ goal_forks g
  goal_count (Basic g) later w s outs = refl
  goal_count (Conjunction Sequential ns) later w s outs = turn_count ns later w s
  goal_count (Conjunction (Parallel unknown) ns) later w s outs = ap suc (conjunct_count ns 1 outs (those (moves_in later ns) w) s [])
  goal_count (Disjunction ns) later w s outs = alone_count ns
  goal_count (Switch x arms) later w s outs = arms_count arms later _ s
  goal_count (Conditional c t e) later w s outs =
      let inner : List Right = unused_in c w in
      both (planned nothing [] [] c) (planned later (used_in t inner) (bound_in t s) t ++ planned later (used_in e inner) (bound_in e s) e) (forks c) (forks t + forks e)
      (planned_count c nothing [] [])
      (both (planned later (used_in t inner) (bound_in t s) t) (planned later (used_in e inner) (bound_in e s) e) (forks t) (forks e)
      (planned_count t later (used_in t inner) (bound_in t s)) (planned_count e later (used_in e inner) (bound_in e s)))
  goal_count (Negation n) later w s outs = planned_count n nothing [] []
  goal_count (Quantified own n) later w s outs = planned_count n later w s

  turn_count : (ns : Nodes) (later : ℕ → Bool) (w s : List Right) → length (planned_in_turn later w s ns) ≡ all_forks ns
  turn_count no_nodes later w s = refl
  turn_count (more_nodes n ns) later w s =
      both (planned _ (used_in n w) (bound_in n s) n) (planned_in_turn later (unused_in n w) (unbound_in n s) ns) (forks n) (all_forks ns)
      (planned_count n _ (used_in n w) (bound_in n s)) (turn_count ns later (unused_in n w) (unbound_in n s))

  conjunct_count : (ns : Nodes) (k : ℕ) (outs : List ℕ) (w s : List Right) (left : List ℕ) → length (planned_conjuncts k outs w s left ns) ≡ all_forks ns
  conjunct_count no_nodes k outs w s left = refl
  conjunct_count (more_nodes n ns) k outs w s left =
      both (planned nothing (used_in n (map (right_to k) left ++ w)) (flat_map (signals_of (suc k) ns outs s) (outputs_of n)) n) (planned_conjuncts (suc k) outs w s (left ++ outputs_of n) ns)
      (forks n) (all_forks ns)
      (planned_count n nothing (used_in n (map (right_to k) left ++ w)) (flat_map (signals_of (suc k) ns outs s) (outputs_of n))) (conjunct_count ns (suc k) outs w s (left ++ outputs_of n))

  arms_count : (arms : Arms) (later : ℕ → Bool) (w s : List Right) → length (planned_arms later w s arms) ≡ arm_forks arms
  arms_count no_arms later w s = refl
  arms_count (more_arms sym n arms) later w s =
      both (planned later (used_in n w) (bound_in n s) n) (planned_arms later w s arms) (forks n) (arm_forks arms)
      (planned_count n later (used_in n w) (bound_in n s)) (arms_count arms later w s)

  alone_count : (ns : Nodes) → length (planned_alone ns) ≡ all_forks ns
  alone_count no_nodes = refl
  alone_count (more_nodes n ns) = both (planned nothing [] [] n) (planned_alone ns) (forks n) (all_forks ns) (planned_count n nothing [] []) (alone_count ns)

-- trees one after the other

pub split_append : (site : ℕ) (ns ms : List Node) → all_split site (ns ++ ms) ≡ all_split site ns ++ all_split (site + length (all_sites ns)) ms
split_append site [] ms = ap (λ (k : ℕ). all_split k ms) (omega (arith))
split_append site (n ∷ ns) ms =
    ap (λ l. split site n ∷ l) (split_append (site + forks n) ns ms
    ∙ ap (λ (k : ℕ). all_split (site + forks n) ns ++ all_split k ms)
    (let e = both (sites n) (all_sites ns) (forks n) (length (all_sites ns)) (planned_count n nothing [] []) refl in omega (arith, e)))

pub sites_append : (ns ms : List Node) → all_sites (ns ++ ms) ≡ all_sites ns ++ all_sites ms
sites_append [] ms = refl
sites_append (n ∷ ns) ms = ap (λ l. sites n ++ l) (sites_append ns ms) ∙ sym (append_assoc (sites n) (all_sites ns) (all_sites ms))

-- one tree more

first_left-suc : {A : Type 0} (items : List A) (index : ℕ) (item : A) → Some item ≡ slice_get items index → drop index items ≡ item ∷ drop (suc index) items
first_left-suc [] index item is = absurd cc
first_left-suc (first ∷ rest) zero item is = cc
first_left-suc (first ∷ rest) (suc index) item is = first_left-suc rest index item is

pub first_left : {A : Type 0} (items : List A) (index : ℕ) (item : A) → Some item ≡ slice_get items index → drop index items ≡ item ∷ drop (index + 1) items
first_left items index item is = first_left-suc items index item is ∙ ap (λ n. item ∷ drop n items) (sym (add-one index))

pub trees_more : (n : Node) (left rest all trees trees' : List Node) (infos infos' : List SiteInfo) → left ≡ n ∷ rest → trees' ≡ trees ++ split (length infos) n ∷ [] → infos' ≡ infos ++ sites n
    → trees ++ all_split (length infos) left ≡ all → trees' ++ all_split (length infos') rest ≡ all
trees_more n left rest all trees trees' infos infos' l t s h =
    ap (λ (k : List Node). k ++ all_split (length infos') rest) t
    ∙ append_assoc trees (split (length infos) n ∷ []) (all_split (length infos') rest)
    ∙ ap (λ (k : ℕ). trees ++ split (length infos) n ∷ all_split k rest)
    (ap length s ∙ both infos (sites n) (length infos) (forks n) refl (planned_count n nothing [] []))
    ∙ ap (λ (k : List Node). trees ++ all_split (length infos) k) (sym l) ∙ h

pub sites_more : (n : Node) (left rest : List Node) (all infos infos' : List SiteInfo) → left ≡ n ∷ rest → infos' ≡ infos ++ sites n → infos ++ all_sites left ≡ all → infos' ++ all_sites rest ≡ all
sites_more n left rest all infos infos' l s h =
    ap (λ (k : List SiteInfo). k ++ all_sites rest) s
    ∙ append_assoc infos (sites n) (all_sites rest)
    ∙ ap (λ (k : List Node). infos ++ all_sites k) (sym l) ∙ h
