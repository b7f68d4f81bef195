-- Goals side by side are ordered each from what those before it bind.
use Rattle.std.specs.Prelude.{◌≡◌, ◌≤◌, ◌+◌, ◌-◌, ◌&&◌, ◌++◌, ℕ, Bool, true, false, List, [], length, take, drop, replicate, Option, Some, Result, Ok, Err, IfOk, refl, if◌then◌else◌}
use Rattle.std.specs.List.{slice_range}
use Rattle.std.proofs.Common.{◌∙◌, ap, sym, subst, arith}
use Rattle.std.proofs.lemmas.List.{length-append, length-drop, length-replicate, take_at, drop_at}
use Rattle.std.proofs.lemmas.List.Folds.{drop_split}
use Rattle.std.proofs.lemmas.Slice.{between-put_mid}
use borrow.Rule.Slice.PartMut.{put_mid}
use Rattle.merc_base.specs.declared.place.Span.{Span}
use Rattle.merc_base.specs.declared.refusal.Fault.{Fault}
use Rattle.merc_base.specs.declared.refusal.Fault.TheVariants.{Refused, NoMemory}
use Rattle.merc_base.specs.declared.refusal.Refusal.{Refusal}
use Rattle.merc_tree.specs.declared.declarations.ModeDecl.{ModeDecl}
use Rattle.merc_tree.specs.declared.declarations.PredDecl.{PredDecl}
use Rattle.merc_goal_tree.specs.Nodes.{Node, Nodes, more_nodes, span_of}
use Rattle.merc_goal_tree.specs.Parts.{parts_of}
use Rattle.merc_order.specs.Bound.{Bound, among, with}
use Rattle.merc_order.specs.Marks.{move_of}
use Rattle.merc_order.specs.Faults.{conjunct_fault}
use Rattle.merc_order.specs.Moves.{needed, beside, beside_next}
use Rattle.merc_order.specs.Order.{binds, from, moves}
use Rattle.merc_order.specs.Ordered.{Ordered, Ready, Stuck, is_ready, Outcomes, OneStuck, then_all}
use Rattle.merc_order.specs.Procedures.{modes_of}
use Rattle.merc_goal_facts.specs.Facts.{AreKnown, subgoals, all_subgoals}
use Rattle.merc_readiness.specs.Asking.{Asked, IsMarked}
use Rattle.merc_simple_goals.specs.Writing.{Gives}
use Rattle.merc_simple_goals.specs.declared.written.Written.{Written}
use Rattle.merc_readiness.specs.Sweeps.{AreKnownFrom}
use Rattle.merc_goal_order.specs.Beside.{TellsReady, TellsStuck}
use Rattle.merc_goal_order.specs.Conjuncts.{GoesIfReady}
use Rattle.merc_goal_facts.specs.declared.facts.Facts.{Facts}
use Rattle.merc_goal_order.specs.Walks.{behind_them, GivesAll, Walked}
use Rattle.merc_readiness.proofs.Binding.{next_known}
use Rattle.merc_readiness.proofs.Blank.{marked_blank}
use Rattle.merc_goal_order.proofs.Emitted.{behind_stuck}
use Rattle.merc_readiness.proofs.Marking.{known_split, known_length, subgoals_length}

none_before : (n : ℕ) → n ≡ 0 + n
none_before n = omega arith

-- asked with no marks

pub asked_blank : {E : Type 0} (predicates : List PredDecl) (goal : Node) (facts : List Facts) (old new : List Bool) (bound : List ℕ) (size : ℕ) (result : Result Bool E) → old ≡ replicate size false
    → size ≡ length (parts_of goal) → IfOk result (λ ready. Asked predicates goal facts old new (among bound) ready) → IfOk result (λ ready. TellsReady predicates goal facts bound ready)
asked_blank predicates goal facts old new bound size (Ok ready) h s asked =
    λ total known. (asked total known (marked_blank total (modes_of predicates) goal old (among bound) size h s)).0
asked_blank predicates goal facts old new bound size (Err none) h s asked = tt

module _ (total : ℕ → ℕ) (modes : ℕ → List ModeDecl) where
  -- the facts of the first goal, and those of the others

  pub facts_of_first : (goal : Node) (others : Nodes) (facts : List Facts) (own : ℕ) → AreKnown total modes (all_subgoals (more_nodes goal others)) facts → own ≡ length (parts_of goal)
      → AreKnown total modes (subgoals goal) (take own facts)
  facts_of_first goal others facts own known h =
      let k = known_split total modes (subgoals goal) (all_subgoals others) facts known in
      subst (λ l. AreKnown total modes (subgoals goal) l)
      (sym (ap (λ l. take own l) k.facts_are ∙ take_at k.front k.back own (known_length total modes (subgoals goal) k.front k.first_known ∙ subgoals_length goal ∙ sym h))) k.first_known

  pub facts_behind : (goal : Node) (others : Nodes) (facts : List Facts) (at : ℕ) → AreKnown total modes (all_subgoals (more_nodes goal others)) facts → at ≡ length (parts_of goal)
      → AreKnownFrom total modes (all_subgoals others) facts at
  facts_behind goal others facts at known h =
      let k = next_known total modes goal others facts 0 (record { front = []; back = facts; at_is = refl; facts_are = refl; known = known }) in
      subst (λ n. AreKnownFrom total modes (all_subgoals others) facts n) (sym (h ∙ none_before (length (parts_of goal)))) k.others_known

  pub facts_next : (goal : Node) (rest : Nodes) (facts : List Facts) (at end : ℕ) → AreKnownFrom total modes (all_subgoals (more_nodes goal rest)) facts at → end ≡ at + length (parts_of goal)
      → AreKnownFrom total modes (all_subgoals rest) facts end
  facts_next goal rest facts at end known h = subst (λ n. AreKnownFrom total modes (all_subgoals rest) facts n) (sym h) (next_known total modes goal rest facts at known).others_known

  -- which other one a goal needs

  pub needs_later : (goal later : Node) (rest : Nodes) (bound : Bound) (number next : ℕ)
      → (is_ready (from total modes later bound) && is_ready (from total modes goal (with bound (binds total modes later)))) ≡ false → next ≡ number + 1
      → needed number (move_of total modes goal) (moves total modes (more_nodes later rest)) bound ≡ needed next (move_of total modes goal) (moves total modes rest) bound
  needs_later goal later rest bound number next h n =
      ap (λ b. if b then Some number else needed (number + 1) (move_of total modes goal) (moves total modes rest) bound) h
      ∙ ap (λ k. needed k (move_of total modes goal) (moves total modes rest) bound) (sym n)

  -- A goal is asked with no marks among those of all.

  mid_length : (flags : List Bool) (at end : ℕ) → at ≤ end → end ≤ length flags → length (slice_range flags at end) ≡ end - at
  mid_length flags at end ordered within =
      let cut : length (drop at flags) ≡ length (slice_range flags at end ++ drop end flags) = ap length (drop_split flags at end ordered) in
      omega (arith, cut, ordered, within, length-append (slice_range flags at end) (drop end flags), length-drop at flags, length-drop end flags)

  pub blank_there : (goal : Node) (flags new : List Bool) (at end : ℕ) (bound : Bound) → end ≤ length flags → end ≡ at + length (parts_of goal) → new ≡ replicate (length (slice_range flags at end)) false
      → IsMarked total modes goal (slice_range (put_mid at (end - at) flags new) at end) bound
  blank_there goal flags new at end bound within h blank =
      let ordered : at ≤ end = omega (arith, h) in
      let long = mid_length flags at end ordered within in
      let there : length new ≡ end - at = ap length blank ∙ length-replicate (length (slice_range flags at end)) false ∙ long in
      marked_blank total modes goal (slice_range (put_mid at (end - at) flags new) at end) bound (length (slice_range flags at end))
      (between-put_mid at (end - at) flags new end (omega (arith, ordered, within)) there ∙ blank) (omega (arith, long, h))

  -- what becomes of goals side by side

  pub facts_from : (parts : List Node) (facts : List Facts) (at : ℕ) → AreKnownFrom total modes parts facts at → AreKnown total modes parts (drop at facts)
  facts_from parts facts at k = subst (λ l. AreKnown total modes parts l) (sym (ap (λ l. drop at l) k.facts_are ∙ drop_at k.front k.back at k.at_is)) k.known

  pub beside_goes : (goal : Node) (rest : Nodes) (bound after : Bound) (number : ℕ) (ordered : Ordered) → from total modes goal bound ≡ Ready ordered → after ≡ with bound (binds total modes goal)
      → beside number (moves total modes (more_nodes goal rest)) bound ≡ then_all ordered (beside (number + 1) (moves total modes rest) after)
  beside_goes goal rest bound after number ordered is behind =
      ap (λ o. beside_next number (move_of total modes goal) (moves total modes rest) bound o (beside (number + 1) (moves total modes rest) (with bound (binds total modes goal)))) is
      ∙ ap (λ b. then_all ordered (beside (number + 1) (moves total modes rest) b)) (sym behind)

  pub beside_stuck : (goal : Node) (others : Nodes) (bound : Bound) (number : ℕ) (other : Option ℕ) (span : Span) (fault told : Refusal) → from total modes goal bound ≡ Stuck fault
      → needed (number + 1) (move_of total modes goal) (moves total modes others) bound ≡ other → span ≡ span_of goal → told ≡ conjunct_fault number span other fault
      → beside number (moves total modes (more_nodes goal others)) bound ≡ OneStuck told
  beside_stuck goal others bound number other span fault told is needs at told_is =
      ap (λ o. beside_next number (move_of total modes goal) (moves total modes others) bound o (beside (number + 1) (moves total modes others) (with bound (binds total modes goal)))) is
      ∙ ap (λ n. OneStuck (conjunct_fault number (span_of goal) n fault)) needs
      ∙ ap (λ s. OneStuck (conjunct_fault number s other fault)) (sym at)
      ∙ ap OneStuck (sym told_is)

  pub beside_err : (goal : Node) (flags : List Bool) (bound after : List ℕ) (whole : Outcomes) (old mid late new : Written) (fault : Fault) → GoesIfReady total modes goal flags bound after mid late (Err fault)
      → GivesAll modes whole old new (Err fault)
  beside_err goal flags bound after whole old mid late new (Refused refusal) goes = absurd goes
  beside_err goal flags bound after whole old mid late new NoMemory goes = tt

  -- the first that is not ready tells
  pub walked_tells : (facts : List Facts) (at : ℕ) (all : List ℕ) (place : ℕ) (whole now : Outcomes) (old mid new : Written) (rest : Nodes) (result : Result (Unit {0}) Fault)
      → Walked total modes rest facts at all place whole now old mid → TellsStuck now result → GivesAll modes whole old new result
  walked_tells facts at all place whole now old mid new rest (Ok done) w tells = absurd tells
  walked_tells facts at all place whole now old mid new rest (Err (Refused refusal)) w tells = w.whole_is ∙ ap (λ o. behind_them w.done o) tells ∙ behind_stuck w.done refusal
  walked_tells facts at all place whole now old mid new rest (Err NoMemory) w tells = tt

  pub never_stuck : (goal : Node) (bound : Bound) (old new : Written) (done : Unit {0}) → Gives modes (from total modes goal bound) old new (Ok done) → is_ready (from total modes goal bound) ≡ false → ⊥
  never_stuck goal bound old new done (ordered, is, w) not = let no : true ≡ false = sym (ap is_ready is) ∙ not in cc
