-- What a goal is asked with, and what is told of it.
use Rattle.std.specs.Prelude.{◌≡◌, ◌≤◌, ◌<◌, ◌+◌, ℕ, suc, Bool, List, [], ◌∷◌, length, take, drop}
use Rattle.std.specs.List.{slice_index_or}
use Rattle.std.proofs.Common.{◌∙◌, ap, sym, subst, arith}
use Rattle.std.proofs.lemmas.List.{length-append, take_at, get_or_at, drop_more, drop_all}
use Rattle.merc_base.specs.declared.place.Span.{Span}
use Rattle.merc_tree.specs.declared.declarations.ModeDecl.{ModeDecl}
use Rattle.merc_goal_tree.specs.Nodes.{Node, Conjunction, no_nodes, more_nodes, nodes_of}
use Rattle.merc_goal_tree.specs.Parts.{parts_of, all_parts}
use Rattle.merc_order.specs.Bound.{among}
use Rattle.merc_goal_facts.specs.Facts.{AreKnown, subgoals, all_subgoals, AreFactsOf}
use Rattle.merc_goal_facts.specs.declared.facts.Facts.{Facts}
use Rattle.merc_readiness.specs.Asking.{joined_by, AreMarked}
use Rattle.merc_readiness.specs.Sweeps.{Extends, BindsGone, AreGone}
use Rattle.merc_readiness.specs.declared.waiting.Waiting.{Waiting}
use Rattle.merc_readiness.proofs.Conjunctions.{gone_of}
use Rattle.merc_readiness.proofs.Marking.{known_goal, known_length, all_subgoals_length, parts_length}

-- What was bound since is unbound.
pub undone : (old new : List ℕ) (mark : ℕ) → Extends old new → mark ≡ length old → take mark new ≡ old
undone old new mark (more, same) h = ap (λ l. take mark l) same ∙ take_at old more mark (sym h)

-- the goals from this index on
pub rest_nodes : (goals : List Node) (index : ℕ) (goal : Node) → index < length goals → goal ≡ slice_index_or goals index goal
    → nodes_of (drop index goals) ≡ more_nodes goal (nodes_of (drop (index + 1) goals))
rest_nodes goals index goal room is = ap nodes_of (drop_more goals index goal room ∙ ap (λ g. g ∷ drop (index + 1) goals) (sym is))

pub rest_length : (goals : List Node) (index : ℕ) (goal : Node) → index < length goals → goal ≡ slice_index_or goals index goal
    → length (all_parts (nodes_of (drop index goals))) ≡ length (parts_of goal) + length (all_parts (nodes_of (drop (index + 1) goals)))
rest_length goals index goal room is =
    ap (λ n. length (all_parts n)) (rest_nodes goals index goal room is) ∙ length-append (parts_of goal) (all_parts (nodes_of (drop (index + 1) goals)))

pub no_rest : (goals : List Node) (index : ℕ) → length goals ≤ index → nodes_of (drop index goals) ≡ no_nodes
no_rest goals index h = ap nodes_of (drop_all index goals h)

module _ (total : ℕ → ℕ) (modes : ℕ → List ModeDecl) where
  -- the facts of a goal's parts, and its own
  pub record OwnKnown (goal : Node) (facts : List Facts) (own : ℕ) (found : Facts) : Type 0 where
    pub parts_known : AreKnown total modes (all_subgoals (joined_by goal)) (take own facts)
    pub own_known : AreFactsOf total modes goal found

  pub own_known : (goal : Node) (facts : List Facts) (own : ℕ) (found : Facts) → AreKnown total modes (subgoals goal) facts → suc own ≡ length (parts_of goal)
      → found ≡ slice_index_or facts own found → OwnKnown goal facts own found
  own_known goal facts own found known h is =
      let g = known_goal total modes goal facts known in
      let place : length g.inner ≡ own =
      let one = known_length total modes (all_subgoals (joined_by goal)) g.inner g.inner_known in
      let two = all_subgoals_length (joined_by goal) in
      let three = parts_length goal in
      omega arith in
      let same : found ≡ g.own = is ∙ ap (λ l. slice_index_or l own found) g.facts_are ∙ get_or_at g.inner g.own [] found own place in
      record {
        parts_known = subst (λ l. AreKnown total modes (all_subgoals (joined_by goal)) l) (sym (ap (λ l. take own l) g.facts_are ∙ take_at g.inner (g.own ∷ []) own place)) g.inner_known;
        own_known = subst (λ f. AreFactsOf total modes goal f) (sym same) g.own_known;
      }

  -- the goals of a conjunction, where those that are marked are bound
  pub gone_at_first : (goals : List Node) (span : Span) (facts : List Facts) (flags : List Bool) (old now : List ℕ) (listed : List Waiting) → AreKnown total modes (all_subgoals (nodes_of goals)) facts
      → AreMarked total modes (Conjunction (nodes_of goals) span) flags (among old) → BindsGone (nodes_of goals) facts flags old now listed
      → AreGone total modes (nodes_of goals) (among old) flags (among now) listed
  gone_at_first goals span facts flags old now listed known m binds =
      let (then, way, sound) = m.sound in
      let (set, are) = binds total modes m.inner m.fits m.flags_are known in
      gone_of total modes (nodes_of goals) (among old) flags (among now) listed m.inner then m.fits m.flags_are way sound set are
