-- The goals that a part joins, where they are three or one.
use Rattle.std.specs.Prelude.{◌≡◌, ◌-◌, ℕ, List, [], ◌∷◌, ◌++◌, length, Result, Ok, Err, IfOk}
use Rattle.std.specs.List.{slice_index_or}
use Rattle.std.proofs.Common.{◌∙◌, ◌⊎◌, inl, inr, ap, sym, subst, arith}
use Rattle.std.proofs.lemmas.List.{append-nil}
use Rattle.std.proofs.lemmas.Option.{get_or_from_slice_get}
use Rattle.merc_base.specs.declared.memory.NoMemory.{NoMemory}
use Rattle.merc_base.specs.declared.place.Span.{Span}
use Rattle.merc_tree.specs.declared.declarations.ModeDecl.{ModeDecl}
use Rattle.merc_goal_tree.specs.declared.entries.Root.{Root}
use Rattle.merc_goal_tree.specs.declared.entries.Root.TheVariants.{Conjunction as ConjunctionRoot, Parallel as ParallelRoot}
use Rattle.merc_goal_tree.specs.Nodes.{Node, Nodes, Conjunction, Parallel, nodes_of, no_nodes, more_nodes}
use Rattle.merc_goal_tree.specs.Roots.{arity_of, goal_at, joining}
use Rattle.merc_goal_tree.specs.Variables.{variables, all_variables}
use Rattle.merc_goal_facts.specs.declared.facts.Facts.{Facts}
use Rattle.merc_goal_facts.specs.declared.complete.Complete.{Complete}
use Rattle.merc_goal_facts.specs.Complete.{AreKnown, IsKnown}
use Rattle.merc_goal_facts.specs.Facts.{AreFactsOf}
use Rattle.merc_goal_facts.specs.Knowing.{variables_of_all}
use Rattle.merc_goal_facts.specs.Occurring.{root_variables}
use Rattle.merc_goal_facts.specs.Outside.{IsStretch}
use Rattle.merc_goal_facts.proofs.CompleteGoals.{counted}
use Rattle.merc_goal_facts.proofs.Decisions.{stretch_length}
use Rattle.merc_goal_facts.proofs.Joins.{joining_variables}

module _ (total : ℕ → ℕ) (modes : ℕ → List ModeDecl) where
  pub three_known : (facts : List Facts) (joined : List Complete) (goals : List Node) (one two three : Complete) → length joined ≡ 3 → AreKnown total modes facts joined (nodes_of goals)
      → AreKnown total modes facts (slice_index_or joined 0 one ∷ slice_index_or joined 1 two ∷ slice_index_or joined 2 three ∷ [])
      (more_nodes (goal_at goals 0) (more_nodes (goal_at goals 1) (more_nodes (goal_at goals 2) no_nodes)))
  three_known facts [] goals one two three many known = absurd (omega arith)
  three_known facts (a ∷ []) goals one two three many known = absurd (omega arith)
  three_known facts (a ∷ b ∷ []) goals one two three many known = absurd (omega arith)
  three_known facts (a ∷ b ∷ c ∷ []) [] one two three many known = absurd known
  three_known facts (a ∷ b ∷ c ∷ []) (first ∷ []) one two three many known = absurd known.1
  three_known facts (a ∷ b ∷ c ∷ []) (first ∷ second ∷ []) one two three many known = absurd known.1.1
  three_known facts (a ∷ b ∷ c ∷ []) (first ∷ second ∷ third ∷ []) one two three many known = known
  three_known facts (a ∷ b ∷ c ∷ []) (first ∷ second ∷ third ∷ fourth ∷ rest) one two three many known = absurd known.1.1.1
  three_known facts (a ∷ b ∷ c ∷ d ∷ others) goals one two three many known = absurd (omega arith)

  one_known : (facts : List Facts) (joined : List Complete) (goals : List Node) (one : Complete) → length joined ≡ 1 → AreKnown total modes facts joined (nodes_of goals)
      → IsKnown total modes facts (slice_index_or joined 0 one) (goal_at goals 0)
  one_known facts [] goals one many known = absurd (omega arith)
  one_known facts (a ∷ []) [] one many known = absurd known
  one_known facts (a ∷ []) (first ∷ rest) one many known = known.0
  one_known facts (a ∷ b ∷ others) goals one many known = absurd (omega arith)

  -- the facts that are read where the one goal's part is
  pub one_read : (facts : List Facts) (joined : List Complete) (goals : List Node) (one : Complete) (read : Facts) → length joined ≡ 1 → AreKnown total modes facts joined (nodes_of goals)
      → read ≡ slice_index_or facts (slice_index_or joined 0 one).part read → AreFactsOf total modes (goal_at goals 0) read
  one_read facts joined goals one read many known is =
      let found = one_known facts joined goals one many known in
      subst (AreFactsOf total modes (goal_at goals 0)) (sym (is ∙ get_or_from_slice_get facts (slice_index_or joined 0 one).part found.found read found.there)) found.are

  -- A goal whose root has no variables has those of the goals that it joins.
  pub whole_stretch : (root : Root) (span : Span) (all : List ℕ) (start end : ℕ) (facts : List Facts) (joined : List Complete) (goals : List Node) → root_variables root ≡ [] → length joined ≡ arity_of root
      → AreKnown total modes facts joined (nodes_of goals) → IsStretch total all start end (variables_of_all goals) → IsStretch total all start end (variables (joining root span goals))
  whole_stretch root span all start end facts joined goals none many known stretch =
      subst (IsStretch total all start end)
      (sym (joining_variables root span goals (sym many ∙ counted total modes facts joined goals known) ∙ ap (λ l. variables_of_all goals ++ l) none ∙ append-nil (variables_of_all goals))) stretch

module _ (modes : ℕ → List ModeDecl) (root : Root) (facts read : List Facts) (joined : List Complete) (all : List ℕ) (start end occurrences : ℕ) where
  abbrev JoinsBy : ((goals : Nodes) (span : Span) → Node) → Facts → Type 0
  JoinsBy whole found = (total : ℕ → ℕ) (modes : ℕ → List ModeDecl) (goals : Nodes) (span : Span) → AreKnown total modes read joined goals → occurrences ≡ length (all_variables goals) → AreFactsOf total modes (whole goals span) found

  joined_found : (found : Facts) (whole : (goals : Nodes) (span : Span) → Node) → ((goals : List Node) (span : Span) → whole (nodes_of goals) span ≡ joining root span goals) → read ≡ facts → occurrences ≡ end - start
      → JoinsBy whole found → (total : ℕ → ℕ) (goals : List Node) (span : Span) → AreKnown total modes facts joined (nodes_of goals) → IsStretch total all start end (variables_of_all goals)
      → AreFactsOf total modes (joining root span goals) found
  joined_found found whole same read_is count are total goals span known stretch =
      subst (λ n. AreFactsOf total modes n found) (same goals span)
      (are total modes (nodes_of goals) span (subst (λ l. AreKnown total modes l joined (nodes_of goals)) (sym read_is) known)
      (count ∙ stretch_length total modes all (variables_of_all goals) start end stretch))

  -- the facts of a conjunction, be it in sequence or side by side
  pub conjunction_found : (result : Result Facts NoMemory) → ((many : ℕ) × (root ≡ ConjunctionRoot many)) ⊎ ((many : ℕ) × (root ≡ ParallelRoot many)) → read ≡ facts → occurrences ≡ end - start
      → IfOk result (JoinsBy Conjunction) → IfOk result (JoinsBy Parallel)
      → IfOk result (λ found. (total : ℕ → ℕ) (goals : List Node) (span : Span) → AreKnown total modes facts joined (nodes_of goals) → IsStretch total all start end (variables_of_all goals)
      → AreFactsOf total modes (joining root span goals) found)
  conjunction_found (Ok found) (inl is) read_is count sequence parallel = joined_found found Conjunction (λ goals span. ap (λ r. joining r span goals) (sym is.1)) read_is count sequence
  conjunction_found (Ok found) (inr is) read_is count sequence parallel = joined_found found Parallel (λ goals span. ap (λ r. joining r span goals) (sym is.1)) read_is count parallel
  conjunction_found (Err fault) is read_is count sequence parallel = tt
