-- Facts of which less is told of what goals need are facts of the same goals.
use Rattle.std.specs.Prelude.{◌≡◌, ℕ, zero, suc, not, List, [], ◌∷◌, ◌++◌, length, take, drop, map, Some, slice_get, refl}
use Rattle.std.specs.List.{filter, slice_index_or}
use Rattle.std.proofs.Common.{◌∙◌, ap, sym, subst, set, arith}
use Rattle.std.proofs.lemmas.List.{take_at, drop_all}
use Rattle.std.proofs.lemmas.Option.{get_or_from_slice_get}
use Rattle.merc_tree.specs.declared.declarations.ModeDecl.{ModeDecl}
use Rattle.merc_goal_tree.specs.Nodes.{Node, nodes_of}
use Rattle.merc_order.specs.Bound.{among, are_bound}
use Rattle.merc_goal_facts.specs.declared.facts.Facts.{Facts}
use Rattle.merc_goal_facts.specs.declared.complete.Complete.{Complete}
use Rattle.merc_goal_facts.specs.declared.knowing.Known.{Known}
use Rattle.merc_goal_facts.specs.Facts.{AreKnown as AllAreKnown, AreFactsOf, all_subgoals}
use Rattle.merc_goal_facts.specs.Complete.{AreKnown, IsKnown}
use Rattle.merc_goal_facts.specs.Knowing.{starts_from, AreComplete}
use Rattle.merc_goal_facts.specs.Needs.{IsKept, AreKept}
use Rattle.merc_goal_facts.proofs.Found.{all_to, all_from, both_true, among-filter}

kept_same : (found : Facts) → IsKept found found
kept_same found = record { reached_is = refl; binds_are = refl; owed_are = refl; owed_by_condition_are = refl; occurrences_are = refl; fewer = λ variable is. is }

kept_on : (one other last : Facts) → IsKept one other → IsKept other last → IsKept one last
kept_on one other last k l = record {
  reached_is = l.reached_is ∙ k.reached_is;
  binds_are = l.binds_are ∙ k.binds_are;
  owed_are = l.owed_are ∙ k.owed_are;
  owed_by_condition_are = l.owed_by_condition_are ∙ k.owed_by_condition_are;
  occurrences_are = l.occurrences_are ∙ k.occurrences_are;
  fewer = λ variable is. k.fewer variable (l.fewer variable is);
}

pub all_same : (facts : List Facts) → AreKept facts facts
all_same [] = tt
all_same (found ∷ rest) = (kept_same found, all_same rest)

pub all_on : (one other last : List Facts) → AreKept one other → AreKept other last → AreKept one last
all_on [] [] [] k l = tt
all_on [] [] (c ∷ cs) k l = absurd l
all_on [] (b ∷ bs) last k l = absurd k
all_on (a ∷ as') [] last k l = absurd k
all_on (a ∷ as') (b ∷ bs) [] k l = absurd l
all_on (a ∷ as') (b ∷ bs) (c ∷ cs) (k, ks) (l, ls) = (kept_on a b c k l, all_on as' bs cs ks ls)

pub all_set : (facts : List Facts) (part : ℕ) (new : Facts) → ((old : Facts) → slice_get facts part ≡ Some old → IsKept old new) → AreKept facts (set facts part new)
all_set [] zero new kept = tt
all_set [] (suc part) new kept = tt
all_set (found ∷ rest) zero new kept = (kept found refl, all_same rest)
all_set (found ∷ rest) (suc part) new kept = (kept_same found, all_set rest part new kept)

-- Of what one needs some are left out.
pub left_kept : (facts : List Facts) (part : ℕ) (read other : Facts) (left slice those : List ℕ) → read ≡ slice_index_or facts part read → slice ≡ read.needs
    → left ≡ filter (λ variable. not (among those variable)) slice
    → AreKept facts (set facts part (record {
      reached = (slice_index_or facts part other).reached;
      binds = (slice_index_or facts part other).binds;
      owed = (slice_index_or facts part other).owed;
      owed_by_condition = (slice_index_or facts part other).owed_by_condition;
      needs = left;
      occurrences = (slice_index_or facts part other).occurrences;
    }))
left_kept facts part read other left slice those is same left_is = all_set facts part _ (λ old there.
    let same_old : slice_index_or facts part other ≡ old = get_or_from_slice_get facts part old other there in
    let needs : slice ≡ old.needs = same ∙ ap (λ (f : Facts). f.needs) (is ∙ get_or_from_slice_get facts part old read there) in
    record {
      reached_is = ap (λ (f : Facts). f.reached) same_old;
      binds_are = ap (λ (f : Facts). f.binds) same_old;
      owed_are = ap (λ (f : Facts). f.owed) same_old;
      owed_by_condition_are = ap (λ (f : Facts). f.owed_by_condition) same_old;
      occurrences_are = ap (λ (f : Facts). f.occurrences) same_old;
      fewer = λ variable known. sym (ap (λ l. among l variable) needs)
          ∙ (both_true (among slice variable) (not (among those variable)) (sym (ap (λ l. among l variable) left_is ∙ among-filter (λ v. not (among those v)) slice variable) ∙ known)).0;
    })

pub kept_length : (facts new : List Facts) → AreKept facts new → length new ≡ length facts
kept_length [] [] kept = refl
kept_length [] (b ∷ bs) kept = absurd kept
kept_length (a ∷ as') [] kept = absurd kept
kept_length (a ∷ as') (b ∷ bs) (one, kept) = ap suc (kept_length as' bs kept)

-- They are written back into the list.
pub written_kept : (items now new : List Facts) (count : ℕ) → now ≡ items → count ≡ length items → AreKept now new → AreKept items (take count (new ++ drop (length new) items))
written_kept items now new count same long known =
    let kept : AreKept items new = subst (λ l. AreKept l new) same known in
    let as_many : length new ≡ length items = kept_length items new kept in
    subst (λ l. AreKept items l) (sym (ap (λ l. take count (new ++ l)) (drop_all (length new) items (omega (arith, as_many))) ∙ take_at new [] count (as_many ∙ sym long))) kept

record KeptAt (facts : List Facts) (part : ℕ) (found : Facts) : Type 0 where
  new : Facts
  there : slice_get facts part ≡ Some new
  kept : IsKept found new

kept_at : (facts new : List Facts) (part : ℕ) (found : Facts) → AreKept facts new → slice_get facts part ≡ Some found → KeptAt new part found
kept_at [] [] part found kept there = cc
kept_at [] (b ∷ bs) part found kept there = absurd kept
kept_at (a ∷ as') [] part found kept there = absurd kept
kept_at (a ∷ as') (b ∷ bs) zero found (one, kept) there = record { new = b; there = refl; kept = subst (λ f. IsKept f b) (some_is a found there) one }
  where
    some_is : (one other : Facts) → Some one ≡ Some other → one ≡ other
    some_is one other h = cc
kept_at (a ∷ as') (b ∷ bs) (suc part) found (one, kept) there = let k = kept_at as' bs part found kept there in record { new = k.new; there = k.there; kept = k.kept }

module _ (total : ℕ → ℕ) (modes : ℕ → List ModeDecl) where
  facts_kept : (goal : Node) (found new : Facts) → AreFactsOf total modes goal found → IsKept found new → AreFactsOf total modes goal new
  facts_kept goal found new are kept = record {
    reached_is = kept.reached_is ∙ are.reached_is;
    binds_are = λ variable. ap (λ l. among l variable) kept.binds_are ∙ are.binds_are variable;
    owed_are = λ bound. ap (are_bound bound) kept.owed_are ∙ are.owed_are bound;
    owed_by_condition_are = λ bound. ap (are_bound bound) kept.owed_by_condition_are ∙ are.owed_by_condition_are bound;
    needed = λ bound ready. all_to bound new.needs (λ variable is. all_from bound found.needs (are.needed bound ready) variable (kept.fewer variable is));
    occurrences_are = kept.occurrences_are ∙ are.occurrences_are;
  }

  all_known : (goals : List Node) (facts new : List Facts) → AllAreKnown total modes goals facts → AreKept facts new → AllAreKnown total modes goals new
  all_known [] [] [] known kept = tt
  all_known [] [] (b ∷ bs) known kept = absurd kept
  all_known [] (a ∷ as') new known kept = absurd known
  all_known (goal ∷ goals) [] new known kept = absurd known
  all_known (goal ∷ goals) (a ∷ as') [] known kept = absurd kept
  all_known (goal ∷ goals) (a ∷ as') (b ∷ bs) (one, known) (own, kept) = (facts_kept goal a b one own, all_known goals as' bs known kept)

  one_known : (facts new : List Facts) (complete : Complete) (goal : Node) → IsKnown total modes facts complete goal → AreKept facts new → IsKnown total modes new complete goal
  one_known facts new complete goal one kept =
      let k = kept_at facts new complete.part one.found kept one.there in
      record { found = k.new; there = k.there; are = facts_kept goal one.found k.new one.are k.kept }

  still_complete : (facts new : List Facts) (complete : List Complete) (goals : List Node) → AreKnown total modes facts complete (nodes_of goals) → AreKept facts new
      → AreKnown total modes new complete (nodes_of goals)
  still_complete facts new [] [] known kept = tt
  still_complete facts new [] (goal ∷ goals) known kept = absurd known
  still_complete facts new (first ∷ rest) [] known kept = absurd known
  still_complete facts new (first ∷ rest) (goal ∷ goals) (one, known) kept = (one_known facts new first goal one kept, still_complete facts new rest goals known kept)

  pub complete_kept : (heads : List ℕ) (goals : List Node) (known new : Known) → AreComplete total modes heads goals known → AreKept known.facts.items new.facts.items
      → new.complete ≡ known.complete → new.end ≡ known.end → AreComplete total modes heads goals new
  complete_kept heads goals known new are kept same end = record {
    facts_are = all_known (all_subgoals (nodes_of goals)) known.facts.items new.facts.items are.facts_are kept;
    complete_are = subst (λ c. AreKnown total modes new.facts.items c.items (nodes_of goals)) (sym same)
        (still_complete known.facts.items new.facts.items known.complete.items goals are.complete_are kept);
    starts_are = subst (λ c. map (λ complete. complete.start) c.items ≡ starts_from (length heads) goals) (sym same) are.starts_are;
    end_is = end ∙ are.end_is;
  }
