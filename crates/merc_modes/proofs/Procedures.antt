-- The faults and trees of procedures, one after the other.
use Rattle.std.specs.Prelude.{◌≡◌, ◌<◌, ◌≤◌, ◌+◌, ℕ, zero, suc, List, [], ◌∷◌, ◌++◌, length, take, Some, None, Result, Ok, Err, slice_get}
use Rattle.std.specs.List.{flat_map, slice_index_or}
use Rattle.std.proofs.Common.{◌∙◌, ap, sym, subst, arith, add-one}
use Rattle.std.proofs.lemmas.List.{append-nil, append_assoc, flat_map_more, take_all, take_more}
use Rattle.merc_base.specs.FirstFault.{first_of_faults}
use Rattle.merc_base.specs.declared.place.Span.{Span}
use Rattle.merc_base.specs.declared.refusal.Fault.{Fault}
use Rattle.merc_base.specs.declared.refusal.Fault.TheVariants.{Refused, NoMemory}
use Rattle.merc_base.specs.declared.refusal.Refusal.{Refusal}
use Rattle.merc_tree.specs.declared.declarations.ModeDecl.{ModeDecl}
use Rattle.merc_tree.specs.declared.declarations.PredDecl.{PredDecl}
use Rattle.merc_goal_tree.specs.Nodes.{Node, span_of}
use Rattle.merc_graded_tree.specs.Nodes.{Node as OrderedNode}
use Rattle.merc_order.specs.Bound.{among}
use Rattle.merc_order.specs.Ordered.{Outcome, Stuck}
use Rattle.merc_order.specs.Procedures.{IsQuery, body_from, bound_at, fault_of, mode_faults, mode_trees, numbers_below, procedure_faults, procedure_from, procedure_trees, query_from, tree_of}
use Rattle.merc_modes.specs.Bodies.{AreFound, PutsTree}
use Rattle.merc_modes.specs.Told.{IsTold, fault_in}
use Rattle.merc_modes.specs.declared.ordering.Found.{Found}

module _ (modes : ℕ → List ModeDecl) where
  -- one body more

  pub tree_found : (heads : List ℕ) (goal : Node) (outcome : Outcome) (faults : List Refusal) (trees : List OrderedNode) (old new : Found) (done : Unit {0})
      → PutsTree modes heads goal outcome old.written.nodes new.written.nodes (Ok done) → new.fault ≡ old.fault → AreFound faults trees old
      → AreFound (faults ++ fault_of outcome) (trees ++ tree_of modes heads goal outcome) new
  tree_found heads goal outcome faults trees old new done (tree, (ordered, ready, is), put) same found = record {
    fault_is = same ∙ found.fault_is ∙ ap first_of_faults (sym (append-nil faults) ∙ ap (λ o. faults ++ fault_of o) (sym ready));
    trees_are = λ none. put ∙ ap (λ l. l ++ tree ∷ []) (found.trees_are (sym same ∙ none)) ∙ ap (λ t. trees ++ t ∷ []) is ∙ ap (λ o. trees ++ tree_of modes heads goal o) (sym ready);
  }

  pub fault_found : (heads : List ℕ) (goal : Node) (outcome : Outcome) (faults : List Refusal) (trees : List OrderedNode) (old new : Found) (refusal first : Refusal)
      → outcome ≡ Stuck refusal → ((faults : List Refusal) → old.fault ≡ first_of_faults faults → first_of_faults (faults ++ refusal ∷ []) ≡ Some first) → new.fault ≡ Some first
      → AreFound faults trees old → AreFound (faults ++ fault_of outcome) (trees ++ tree_of modes heads goal outcome) new
  fault_found heads goal outcome faults trees old new refusal first stuck first_is same found = record {
    fault_is = same ∙ sym (first_is faults found.fault_is) ∙ ap (λ o. first_of_faults (faults ++ fault_of o)) (sym stuck);
    trees_are = λ none. let no : Some first ≡ None = sym same ∙ none in absurd cc;
  }

  -- one mode more

  mapped_on : {X Y : Type 0} (f : X → List Y) (front : List Y) (items : List X) (index : ℕ) (item : X) → index < length items → item ≡ slice_index_or items index item
      → front ++ flat_map f (take (index + 1) items) ≡ (front ++ flat_map f (take index items)) ++ f item
  mapped_on f front items index item within is =
      ap (λ l. front ++ flat_map f l) (take_more items index item within ∙ ap (λ x. take index items ++ x ∷ []) (sym is)) ∙ sym (flat_map_more f front (take index items) item)

  module _ (arity : ℕ) (own : List ModeDecl) (goal : Node) where
    pub next_mode : (faults : List Refusal) (trees : List OrderedNode) (index : ℕ) (mode : ModeDecl) (heads : List ℕ) (old new : Found) → index < length own → mode ≡ slice_index_or own index mode
        → heads ≡ numbers_below arity
        → AreFound (faults ++ mode_faults modes arity (take index own) goal) (trees ++ mode_trees modes arity (take index own) goal) old
        → ((faults : List Refusal) (trees : List OrderedNode) → AreFound faults trees old
        → AreFound (faults ++ fault_of (body_from modes heads (bound_at mode.args) mode.span goal)) (trees ++ tree_of modes heads goal (body_from modes heads (bound_at mode.args) mode.span goal)) new)
        → AreFound (faults ++ mode_faults modes arity (take (index + 1) own) goal) (trees ++ mode_trees modes arity (take (index + 1) own) goal) new
    next_mode faults trees index mode heads old new within is heads_are found more =
        subst (λ l. AreFound l (trees ++ mode_trees modes arity (take (index + 1) own) goal) new)
        (sym (mapped_on (λ one. fault_of (procedure_from modes arity one goal)) faults own index mode within is))
        (subst (λ l. AreFound ((faults ++ mode_faults modes arity (take index own) goal) ++ fault_of (procedure_from modes arity mode goal)) l new)
        (sym (mapped_on (λ one. tree_of modes (numbers_below arity) goal (procedure_from modes arity one goal)) trees own index mode within is))
        (subst (λ l. AreFound ((faults ++ mode_faults modes arity (take index own) goal) ++ fault_of (body_from modes l (bound_at mode.args) mode.span goal))
        ((trees ++ mode_trees modes arity (take index own) goal) ++ tree_of modes l goal (body_from modes l (bound_at mode.args) mode.span goal)) new) heads_are (more _ _ found)))

    pub all_modes : (faults : List Refusal) (trees : List OrderedNode) (index : ℕ) (found : Found) → length own ≤ index
        → AreFound (faults ++ mode_faults modes arity (take index own) goal) (trees ++ mode_trees modes arity (take index own) goal) found
        → AreFound (faults ++ mode_faults modes arity own goal) (trees ++ mode_trees modes arity own goal) found
    all_modes faults trees index found past are =
        subst (λ l. AreFound (faults ++ mode_faults modes arity l goal) (trees ++ mode_trees modes arity l goal) found) (take_all index own past) are

  -- one predicate more

  faults_on : (predicates : List PredDecl) (goals : List Node) (index : ℕ) (declared : PredDecl) (goal : Node) → index < length predicates → declared ≡ slice_index_or predicates index declared
      → Some goal ≡ slice_get goals index
      → procedure_faults modes (take (suc index) predicates) goals ≡ procedure_faults modes (take index predicates) goals ++ mode_faults modes (length declared.args) declared.modes goal
  faults_on [] goals index declared goal within is there = absurd (omega (arith, within))
  faults_on (first ∷ rest) [] zero declared goal within is there = absurd cc
  faults_on (first ∷ rest) [] (suc index) declared goal within is there = absurd cc
  faults_on (first ∷ rest) (one ∷ goals) zero declared goal within is there =
      let same : goal ≡ one = cc in
      append-nil (mode_faults modes (length first.args) first.modes one) ∙ ap (λ d. mode_faults modes (length d.args) d.modes one) (sym is) ∙ ap (λ g. mode_faults modes (length declared.args) declared.modes g) (sym same)
  faults_on (first ∷ rest) (one ∷ goals) (suc index) declared goal within is there =
      ap (λ l. mode_faults modes (length first.args) first.modes one ++ l) (faults_on rest goals index declared goal (omega (arith, within)) is there)
      ∙ sym (append_assoc (mode_faults modes (length first.args) first.modes one) (procedure_faults modes (take index rest) goals) (mode_faults modes (length declared.args) declared.modes goal))

  trees_on : (predicates : List PredDecl) (goals : List Node) (index : ℕ) (declared : PredDecl) (goal : Node) → index < length predicates → declared ≡ slice_index_or predicates index declared
      → Some goal ≡ slice_get goals index
      → procedure_trees modes (take (suc index) predicates) goals ≡ procedure_trees modes (take index predicates) goals ++ mode_trees modes (length declared.args) declared.modes goal
  trees_on [] goals index declared goal within is there = absurd (omega (arith, within))
  trees_on (first ∷ rest) [] zero declared goal within is there = absurd cc
  trees_on (first ∷ rest) [] (suc index) declared goal within is there = absurd cc
  trees_on (first ∷ rest) (one ∷ goals) zero declared goal within is there =
      let same : goal ≡ one = cc in
      append-nil (mode_trees modes (length first.args) first.modes one) ∙ ap (λ d. mode_trees modes (length d.args) d.modes one) (sym is) ∙ ap (λ g. mode_trees modes (length declared.args) declared.modes g) (sym same)
  trees_on (first ∷ rest) (one ∷ goals) (suc index) declared goal within is there =
      ap (λ l. mode_trees modes (length first.args) first.modes one ++ l) (trees_on rest goals index declared goal (omega (arith, within)) is there)
      ∙ sym (append_assoc (mode_trees modes (length first.args) first.modes one) (procedure_trees modes (take index rest) goals) (mode_trees modes (length declared.args) declared.modes goal))

  pub next_predicate : (predicates : List PredDecl) (goals : List Node) (index : ℕ) (declared : PredDecl) (goal : Node) (old new : Found) → index < length predicates
      → declared ≡ slice_index_or predicates index declared → Some goal ≡ slice_get goals index
      → AreFound (procedure_faults modes (take index predicates) goals) (procedure_trees modes (take index predicates) goals) old
      → ((faults : List Refusal) (trees : List OrderedNode) → AreFound faults trees old
      → AreFound (faults ++ mode_faults modes (length declared.args) declared.modes goal) (trees ++ mode_trees modes (length declared.args) declared.modes goal) new)
      → AreFound (procedure_faults modes (take (index + 1) predicates) goals) (procedure_trees modes (take (index + 1) predicates) goals) new
  next_predicate predicates goals index declared goal old new within is there found more =
      subst (λ n. AreFound (procedure_faults modes (take n predicates) goals) (procedure_trees modes (take n predicates) goals) new) (sym (add-one index))
      (subst (λ l. AreFound l (procedure_trees modes (take (suc index) predicates) goals) new) (sym (faults_on predicates goals index declared goal within is there))
      (subst (λ l. AreFound (procedure_faults modes (take index predicates) goals ++ mode_faults modes (length declared.args) declared.modes goal) l new)
      (sym (trees_on predicates goals index declared goal within is there)) (more _ _ found)))

  -- a goal that is asked

  pub query_is : (answers : List ℕ) (goal : Node) (bound : List ℕ) (span : Span) → bound ≡ [] → span ≡ span_of goal
      → body_from modes answers (among bound) span goal ≡ query_from modes answers goal
  query_is answers goal bound span nothing span_is =
      ap (λ l. body_from modes answers (among l) span goal) nothing ∙ ap (λ s. body_from modes answers (among []) s goal) span_is

  told_of_fault : (T : Type 0) (answers : List ℕ) (goal : Node) (outcome : Outcome) (old new : List OrderedNode) (fault : Fault) → PutsTree modes answers goal outcome old new (Err fault)
      → IsTold {T = T} (fault_in outcome) (Err fault)
  told_of_fault T answers goal outcome old new (Refused refusal) stuck = ap fault_in stuck
  told_of_fault T answers goal outcome old new NoMemory stuck = tt

  pub query_fault : (T : Type 0) (answers : List ℕ) (goal : Node) (outcome : Outcome) (old new : List OrderedNode) (fault : Fault) (result : Result T Fault)
      → outcome ≡ query_from modes answers goal → PutsTree modes answers goal outcome old new (Err fault) → result ≡ Err fault
      → IsTold (fault_in (query_from modes answers goal)) result
  query_fault T answers goal outcome old new fault result is stuck result_is =
      subst (λ r. IsTold (fault_in (query_from modes answers goal)) r) (sym result_is)
      (subst (λ o. IsTold {T = T} (fault_in o) (Err fault)) is (told_of_fault T answers goal outcome old new fault stuck))

  pub query_told : (answers : List ℕ) (goal : Node) (outcome : Outcome) (old new : List OrderedNode) (done : Unit {0}) → outcome ≡ query_from modes answers goal
      → PutsTree modes answers goal outcome old new (Ok done) → fault_in (query_from modes answers goal) ≡ None
  query_told answers goal outcome old new done is (tree, (ordered, ready, spells), put) = ap fault_in (sym is ∙ ready)

  pub query_tree : (answers : List ℕ) (goal : Node) (outcome : Outcome) (old new : List OrderedNode) (done : Unit {0}) → outcome ≡ query_from modes answers goal → old ≡ []
      → PutsTree modes answers goal outcome old new (Ok done) → (tree : OrderedNode) × (new ≡ tree ∷ []) × IsQuery modes answers goal tree
  query_tree answers goal outcome old new done is nothing (tree, (ordered, ready, spells), put) =
      (tree, put ∙ ap (λ l. l ++ tree ∷ []) nothing, (ordered, sym is ∙ ready, spells))
