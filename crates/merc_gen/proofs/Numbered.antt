-- The conjuncts of split trees stand at their sites, since these are numbered in order.
use Rattle.std.specs.Prelude.{◌≡◌, ℕ, zero, suc, ◌+◌, List, [], ◌∷◌, ◌++◌, length, drop, slice_get, Option, Some, None, refl}
use Rattle.std.proofs.Common.{◌∙◌, ap, sym, subst, arith}
use Rattle.std.proofs.lemmas.List.{append_assoc, append-nil, length-append}
use Rattle.merc_tree.specs.declared.declarations.ModeDecl.{ModeDecl}
use Rattle.merc_tree.specs.declared.declarations.PredDecl.{PredDecl}
use Rattle.merc_graded_tree.specs.declared.basic.Site.{Site}
use Rattle.merc_graded_tree.specs.declared.entries.Running.TheVariants.{Sequential, Parallel}
use Rattle.merc_graded_tree.specs.Nodes.{Node, node, Goal, Basic, Conjunction, Disjunction, Switch, Conditional, Negation, Quantified, Nodes, no_nodes, more_nodes, Arms, no_arms, more_arms, nodes_of}
use Rattle.merc_meaning.specs.Programs.{body_of_mode, body_of, program_with}
use Rattle.merc_par_split.specs.Forks.{forks}
use Rattle.merc_par_split.specs.Split.{nothing, split, all_split}
use Rattle.merc_par_split.specs.Sites.{sites, all_sites as all_infos}
use Rattle.merc_par_split.specs.SplitLaws.{sites_of, goal_sites, all_sites, arm_sites, sites_from}
use Rattle.merc_par_split.proofs.Numbering.{split_sites}
use Rattle.merc_par_split.proofs.PlannedCounts.{planned_count}
use Rattle.merc_gen.specs.Sites.{Sites, forked_in, forked_in_goal, forked_in_all, forked_in_arms, forked_with, conjuncts_at, nodes_there}
use Rattle.merc_gen.specs.Sited.{IsSitedGoal, IsSited, AreSited, AreSitedArms, IsSitedBody, IsSitedProgram}

-- sites whose numbers follow one another from this one on
abbrev Follow : ℕ → List (Option Site) → Type 0
Follow number [] = Unit {0}
Follow number (None ∷ places) = ⊥
Follow number (Some site ∷ places) = (site.number ≡ number) × Follow (suc number) places

follow_from : (number count : ℕ) → Follow number (sites_from number count)
follow_from number zero = tt
follow_from number (suc count) = (refl, follow_from (suc number) count)

count_from : (number count : ℕ) → length (sites_from number count) ≡ count
count_from number zero = refl
count_from number (suc count) = ap suc (count_from (suc number) count)

follow_first : (number : ℕ) (one other : List (Option Site)) → Follow number (one ++ other) → Follow number one
follow_first number [] other f = tt
follow_first number (None ∷ one) other f = absurd f
follow_first number (Some site ∷ one) other f = (f.0, follow_first (suc number) one other f.1)

follow_then : (number : ℕ) (one other : List (Option Site)) → Follow number (one ++ other) → Follow (number + length one) other
follow_then number [] other f = let e : number ≡ number + 0 = omega arith in subst (λ n. Follow n other) e f
follow_then number (None ∷ one) other f = absurd f
follow_then number (Some site ∷ one) other f =
    let e : suc number + length one ≡ number + suc (length one) = omega arith in subst (λ n. Follow n other) e (follow_then (suc number) one other f.1)

follow_both : (number : ℕ) (one other : List (Option Site)) → Follow number one → Follow (number + length one) other → Follow number (one ++ other)
follow_both number [] other f g = let e : number + 0 ≡ number = omega arith in subst (λ n. Follow n other) e g
follow_both number (None ∷ one) other f g = absurd f
follow_both number (Some site ∷ one) other f g =
    let e : number + suc (length one) ≡ suc number + length one = omega arith in (f.0, follow_both (suc number) one other f.1 (subst (λ n. Follow n other) e g))

-- as many conjunctions are forked as there are sites

two_counts : {X Y : Type 0} (xs ys : List X) (zs ws : List Y) → length xs ≡ length zs → length ys ≡ length ws → length (xs ++ ys) ≡ length (zs ++ ws)
two_counts xs ys zs ws h k = omega (arith, h, k, length-append xs ys, length-append zs ws)

mutual
  goal-count : (g : Goal) (number : ℕ) → Follow number (goal_sites g) → length (forked_in_goal g) ≡ length (goal_sites g)
  goal-count (Basic g) number f = refl
  goal-count (Conjunction Sequential ns) number f = all-count ns number f
  goal-count (Conjunction (Parallel None) ns) number f = absurd f
  goal-count (Conjunction (Parallel (Some site)) ns) number f = ap suc (all-count ns (suc number) f.1)
  goal-count (Disjunction ns) number f = all-count ns number f
  goal-count (Switch x arms) number f = arms-count arms number f
  goal-count (Conditional c t e) number f =
      let rest = follow_then number (sites_of c) (sites_of t ++ sites_of e) f in
      let m = number + length (sites_of c) in
      two_counts (forked_in c) (forked_in t ++ forked_in e) (sites_of c) (sites_of t ++ sites_of e) (node-count c number (follow_first number (sites_of c) (sites_of t ++ sites_of e) f))
      (two_counts (forked_in t) (forked_in e) (sites_of t) (sites_of e) (node-count t m (follow_first m (sites_of t) (sites_of e) rest))
      (node-count e (m + length (sites_of t)) (follow_then m (sites_of t) (sites_of e) rest)))
  goal-count (Negation n) number f = node-count n number f
  goal-count (Quantified own n) number f = node-count n number f

  node-count : (n : Node) (number : ℕ) → Follow number (sites_of n) → length (forked_in n) ≡ length (sites_of n)
  node-count (node g outputs category span) number f = goal-count g number f

  all-count : (ns : Nodes) (number : ℕ) → Follow number (all_sites ns) → length (forked_in_all ns) ≡ length (all_sites ns)
  all-count no_nodes number f = refl
  all-count (more_nodes n ns) number f =
      two_counts (forked_in n) (forked_in_all ns) (sites_of n) (all_sites ns) (node-count n number (follow_first number (sites_of n) (all_sites ns) f))
      (all-count ns (number + length (sites_of n)) (follow_then number (sites_of n) (all_sites ns) f))

  arms-count : (arms : Arms) (number : ℕ) → Follow number (arm_sites arms) → length (forked_in_arms arms) ≡ length (arm_sites arms)
  arms-count no_arms number f = refl
  arms-count (more_arms s n arms) number f =
      two_counts (forked_in n) (forked_in_arms arms) (sites_of n) (arm_sites arms) (node-count n number (follow_first number (sites_of n) (arm_sites arms) f))
      (arms-count arms (number + length (sites_of n)) (follow_then number (sites_of n) (arm_sites arms) f))

-- What is forked in a goal stands in a list of all conjunctions behind as many as the number of its first site.

-- in a list that is this one, behind others and before others
record Stands (all own : List Nodes) (number : ℕ) : Type 0 where
  before : List Nodes
  behind : List Nodes
  as_many : length before ≡ number
  whole : all ≡ before ++ (own ++ behind)

first_stands : (all one other : List Nodes) (number : ℕ) → Stands all (one ++ other) number → Stands all one number
first_stands all one other number s = record {
  before = s.before;
  behind = other ++ s.behind;
  as_many = s.as_many;
  whole = s.whole ∙ ap (λ l. s.before ++ l) (append_assoc one other s.behind);
}

then_stands : (all one other : List Nodes) (number count : ℕ) → length one ≡ count → Stands all (one ++ other) number → Stands all other (number + count)
then_stands all one other number count c s = record {
  before = s.before ++ one;
  behind = s.behind;
  as_many = length-append s.before one ∙ omega (arith, c, s.as_many);
  whole = s.whole ∙ (ap (λ l. s.before ++ l) (append_assoc one other s.behind) ∙ sym (append_assoc s.before one (other ++ s.behind)));
}

at_length : {X : Type 0} (before behind : List X) (x : X) → slice_get (before ++ x ∷ behind) (length before) ≡ Some x
at_length [] behind x = refl
at_length (y ∷ before) behind x = at_length before behind x

module _ (all : List Nodes) where
  found : (ns : Nodes) (rest : List Nodes) (number at : ℕ) → at ≡ number → Stands all (ns ∷ rest) number → conjuncts_at all at ≡ ns
  found ns rest number at e s =
      ap (λ n. nodes_there (slice_get all n)) (e ∙ sym s.as_many) ∙ (ap (λ l. nodes_there (slice_get l (length s.before))) s.whole ∙ ap nodes_there (at_length s.before (rest ++ s.behind) ns))

  mutual
    goal-sited : (g : Goal) (number : ℕ) → Follow number (goal_sites g) → Stands all (forked_in_goal g) number → IsSitedGoal (conjuncts_at all) g
    goal-sited (Basic g) number f s = tt
    goal-sited (Conjunction Sequential ns) number f s = all-sited ns number f s
    goal-sited (Conjunction (Parallel None) ns) number f s = absurd f
    goal-sited (Conjunction (Parallel (Some site)) ns) number f s =
        let e : number + 1 ≡ suc number = omega arith in (
          found ns (forked_in_all ns) number site.number f.0 s,
          all-sited ns (suc number) f.1 (subst (λ n. Stands all (forked_in_all ns) n) e (then_stands all (ns ∷ []) (forked_in_all ns) number 1 refl s)),
        )
    goal-sited (Disjunction ns) number f s = all-sited ns number f s
    goal-sited (Switch x arms) number f s = arms-sited arms number f s
    goal-sited (Conditional c t e) number f s =
        let first = follow_first number (sites_of c) (sites_of t ++ sites_of e) f in
        let rest = follow_then number (sites_of c) (sites_of t ++ sites_of e) f in
        let m = number + length (sites_of c) in
        let then = follow_first m (sites_of t) (sites_of e) rest in
        let behind = then_stands all (forked_in c) (forked_in t ++ forked_in e) number (length (sites_of c)) (node-count c number first) s in (
          node-sited c number first (first_stands all (forked_in c) (forked_in t ++ forked_in e) number s),
          node-sited t m then (first_stands all (forked_in t) (forked_in e) m behind),
          node-sited e (m + length (sites_of t)) (follow_then m (sites_of t) (sites_of e) rest)
              (then_stands all (forked_in t) (forked_in e) m (length (sites_of t)) (node-count t m then) behind),
        )
    goal-sited (Negation n) number f s = node-sited n number f s
    goal-sited (Quantified own n) number f s = node-sited n number f s

    node-sited : (n : Node) (number : ℕ) → Follow number (sites_of n) → Stands all (forked_in n) number → IsSited (conjuncts_at all) n
    node-sited (node g outputs category span) number f s = goal-sited g number f s

    all-sited : (ns : Nodes) (number : ℕ) → Follow number (all_sites ns) → Stands all (forked_in_all ns) number → AreSited (conjuncts_at all) ns
    all-sited no_nodes number f s = tt
    all-sited (more_nodes n ns) number f s =
        let first = follow_first number (sites_of n) (all_sites ns) f in (
          node-sited n number first (first_stands all (forked_in n) (forked_in_all ns) number s),
          all-sited ns (number + length (sites_of n)) (follow_then number (sites_of n) (all_sites ns) f)
              (then_stands all (forked_in n) (forked_in_all ns) number (length (sites_of n)) (node-count n number first) s),
        )

    arms-sited : (arms : Arms) (number : ℕ) → Follow number (arm_sites arms) → Stands all (forked_in_arms arms) number → AreSitedArms (conjuncts_at all) arms
    arms-sited no_arms number f s = tt
    arms-sited (more_arms symbol n arms) number f s =
        let first = follow_first number (sites_of n) (arm_sites arms) f in (
          node-sited n number first (first_stands all (forked_in n) (forked_in_arms arms) number s),
          arms-sited arms (number + length (sites_of n)) (follow_then number (sites_of n) (arm_sites arms) f)
              (then_stands all (forked_in n) (forked_in_arms arms) number (length (sites_of n)) (node-count n number first) s),
        )

-- the split trees of a program, and of a goal behind them

split-follows : (number : ℕ) (tree : Node) → Follow number (sites_of (split number tree))
split-follows number tree = subst (λ l. Follow number l) (sym (split_sites number tree)) (follow_from number (forks tree))

split-count : (number : ℕ) (tree : Node) → length (sites_of (split number tree)) ≡ forks tree
split-count number tree = ap length (split_sites number tree) ∙ count_from number (forks tree)

trees-follow : (number : ℕ) (trees : List Node) → Follow number (all_sites (nodes_of (all_split number trees)))
trees-follow number [] = tt
trees-follow number (tree ∷ trees) =
    let rest = all_sites (nodes_of (all_split (number + forks tree) trees)) in
    follow_both number (sites_of (split number tree)) rest (split-follows number tree)
    (subst (λ n. Follow n rest) (ap (λ c. number + c) (sym (split-count number tree))) (trees-follow (number + forks tree) trees))

trees-count : (number : ℕ) (trees : List Node) → length (forked_in_all (nodes_of (all_split number trees))) ≡ length (all_infos trees)
trees-count number [] = refl
trees-count number (tree ∷ trees) =
    two_counts (forked_in (split number tree)) (forked_in_all (nodes_of (all_split (number + forks tree) trees))) (sites tree) (all_infos trees)
    (node-count (split number tree) number (split-follows number tree) ∙ (split-count number tree ∙ sym (planned_count tree nothing [] [])))
    (trees-count (number + forks tree) trees)

-- bodies that are found among sited trees are so

module _ (there : Sites) where
  mode-sited : (modes : List ModeDecl) (trees : List Node) (mode : ℕ) → AreSited there (nodes_of trees) → IsSitedBody there (body_of_mode modes trees mode)
  mode-sited [] trees mode s = tt
  mode-sited (first ∷ modes) [] mode s = tt
  mode-sited (first ∷ modes) (tree ∷ trees) zero s = s.0
  mode-sited (first ∷ modes) (tree ∷ trees) (suc mode) s = mode-sited modes trees mode s.1

  dropped-sited : (count : ℕ) (trees : List Node) → AreSited there (nodes_of trees) → AreSited there (nodes_of (drop count trees))
  dropped-sited zero trees s = s
  dropped-sited (suc count) [] s = tt
  dropped-sited (suc count) (tree ∷ trees) s = dropped-sited count trees s.1

  body-sited : (predicates : List PredDecl) (trees : List Node) (predicate mode : ℕ) → AreSited there (nodes_of trees) → IsSitedBody there (body_of predicates trees predicate mode)
  body-sited [] trees predicate mode s = tt
  body-sited (declared ∷ rest) trees zero mode s = mode-sited declared.modes trees mode s
  body-sited (declared ∷ rest) trees (suc predicate) mode s =
      body-sited rest (drop (length declared.modes) trees) predicate mode (dropped-sited (length declared.modes) trees s)

pub program-sited : (predicates : List PredDecl) (trees : List Node) (goal : Node) →
    let asked = split (length (all_infos trees)) goal in
    IsSitedProgram (conjuncts_at (forked_with (all_split 0 trees) asked)) (program_with predicates (all_split 0 trees))
program-sited predicates trees goal =
    let asked = split (length (all_infos trees)) goal in
    let all = forked_with (all_split 0 trees) asked in
    let sited = all-sited all (nodes_of (all_split 0 trees)) 0 (trees-follow 0 trees) (record { before = []; behind = forked_in asked; as_many = refl; whole = refl }) in
    record { bodies = λ p. body-sited (conjuncts_at all) predicates (all_split 0 trees) p.predicate p.mode sited }

pub goal-behind-sited : (trees : List Node) (goal : Node) →
    let asked = split (length (all_infos trees)) goal in IsSited (conjuncts_at (forked_with (all_split 0 trees) asked)) asked
goal-behind-sited trees goal =
    let number = length (all_infos trees) in
    let asked = split number goal in
    let before = forked_in_all (nodes_of (all_split 0 trees)) in
    node-sited (before ++ forked_in asked) asked number (split-follows number goal)
    (record { before = before; behind = []; as_many = trees-count 0 trees; whole = ap (λ l. before ++ l) (sym (append-nil (forked_in asked))) })
