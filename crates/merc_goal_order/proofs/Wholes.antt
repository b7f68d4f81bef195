-- What becomes of a goal where the goals that it joins are ordered.
use Rattle.std.specs.Prelude.{◌≡◌, ◌≤◌, ◌<◌, ◌+◌, ◌-◌, ℕ, true, false, List, [], ◌∷◌, ◌++◌, length, take, drop, None, Ok, Err, if◌then◌else◌}
use Rattle.std.specs.List.{slice_index_or}
use Rattle.std.proofs.Common.{◌∙◌, ap, sym, subst, arith}
use Rattle.std.proofs.lemmas.List.{length-append, take_at, get_or_at}
use Rattle.merc_base.specs.declared.place.Span.{Span}
use Rattle.merc_base.specs.declared.refusal.Fault.{Fault}
use Rattle.merc_base.specs.declared.refusal.Fault.TheVariants.{Refused, NoMemory}
use Rattle.merc_tree.specs.declared.declarations.ModeDecl.{ModeDecl}
use Rattle.merc_goal_tree.specs.Nodes.{Node, Nodes, Conjunction, Parallel, Disjunction, Negation, Quantified, nodes_of}
use Rattle.merc_goal_tree.specs.Parts.{parts_of, all_parts}
use Rattle.merc_goal_tree.specs.Variables.{variables, all_variables}
use Rattle.merc_graded_tree.specs.declared.entries.Root.TheVariants.{Conjunction as ConjunctionRoot, Disjunction as DisjunctionRoot, Negation as NegationRoot, Quantified as QuantifiedRoot}
use Rattle.merc_graded_tree.specs.declared.entries.Running.TheVariants.{Sequential, Parallel as Beside}
use Rattle.merc_graded_tree.specs.Roots.{joined}
use Rattle.merc_order.specs.Bound.{Bound, are_bound}
use Rattle.merc_order.specs.Faults.{binds_outer, unbound_output}
use Rattle.merc_order.specs.Moves.{each_from, beside}
use Rattle.merc_order.specs.Order.{agree, arms, binds, binds_inside, from, moves, outputs_of}
use Rattle.merc_order.specs.Ordered.{put, Sequence, Beside as BesideStep, Choice, Denial, Within, Outcome, Ready, Stuck, Outcomes, if_ready, if_all_ready}
use Rattle.merc_goal_facts.specs.Facts.{AreKnown, AreFactsOf}
use Rattle.merc_readiness.specs.Sweeps.{Extends}
use Rattle.merc_simple_goals.specs.Writing.{Gives}
use Rattle.merc_simple_goals.specs.declared.written.Written.{Written}
use Rattle.merc_goal_facts.specs.declared.facts.Facts.{Facts}
use Rattle.merc_goal_order.proofs.Positions.{next_item}
use Rattle.merc_goal_order.specs.Walks.{GivesAll, ordereds_of, all_settled}
use Rattle.merc_goal_order.proofs.Emitted.{choice_written, sequence_written, beside_written, denial_written, within_written}
use Rattle.merc_readiness.proofs.Marking.{known_split, known_length}

module _ (goals : List Node) (index : ℕ) (goal : Node) (at count : ℕ) (room : index < length goals) (is : goal ≡ slice_index_or goals index goal) (counts : count ≡ length (parts_of goal))
    (lies : at + length (all_parts (nodes_of (drop index goals))) ≡ length (all_parts (nodes_of goals))) where
  lies_next : at + length (all_parts (nodes_of (goal ∷ drop (index + 1) goals))) ≡ length (all_parts (nodes_of goals))
  lies_next = subst (λ l. at + length (all_parts (nodes_of l)) ≡ length (all_parts (nodes_of goals))) (next_item goals index goal room is) lies

  pub end_within : at + count ≤ length (all_parts (nodes_of goals))
  end_within = omega (arith, counts, lies_next, length-append (parts_of goal) (all_parts (nodes_of (drop (index + 1) goals))))

  pub at_behind : at + count + length (all_parts (nodes_of (drop (index + 1) goals))) ≡ length (all_parts (nodes_of goals))
  at_behind = omega (arith, counts, lies_next, length-append (parts_of goal) (all_parts (nodes_of (drop (index + 1) goals))))

pub undone_is : (old new undone : List ℕ) (mark : ℕ) → Extends old new → mark ≡ length old → undone ≡ take mark new → undone ≡ old
undone_is old new undone mark (extra, is) h u = u ∙ ap (λ l. take mark l) is ∙ take_at old extra mark (sym h)

module _ (total : ℕ → ℕ) (modes : ℕ → List ModeDecl) where
  -- the facts of the parts, and of the goal itself

  pub known_parts : (parts : List Node) (goal : Node) (facts : List Facts) (own : ℕ) → AreKnown total modes (parts ++ goal ∷ []) facts → own ≡ length parts → AreKnown total modes parts (take own facts)
  known_parts parts goal facts own known h =
      let k = known_split total modes parts (goal ∷ []) facts known in
      subst (λ l. AreKnown total modes parts l)
      (sym (ap (λ l. take own l) k.facts_are ∙ take_at k.front k.back own (known_length total modes parts k.front k.first_known ∙ sym h))) k.first_known

  own_at : (goal : Node) (front back : List Facts) (own : ℕ) (found : Facts) → AreKnown total modes (goal ∷ []) back → length front ≡ own → found ≡ slice_index_or (front ++ back) own found
      → AreFactsOf total modes goal found
  own_at goal front [] own found known h is = elim known [ ]
  own_at goal front (last ∷ []) own found (known, none) h is =
      subst (λ f. AreFactsOf total modes goal f) (sym (is ∙ get_or_at front last [] found own h)) known
  own_at goal front (last ∷ second ∷ rest) own found (known, none) h is = elim none [ ]

  pub known_own : (parts : List Node) (goal : Node) (facts : List Facts) (own : ℕ) (found : Facts) → AreKnown total modes (parts ++ goal ∷ []) facts → own ≡ length parts
      → found ≡ slice_index_or facts own found → AreFactsOf total modes goal found
  known_own parts goal facts own found known h is =
      let k = known_split total modes parts (goal ∷ []) facts known in
      own_at goal k.front k.back own found k.rest_known (known_length total modes parts k.front k.first_known ∙ sym h) (is ∙ ap (λ l. slice_index_or l own found) k.facts_are)

  -- a negation

  abbrev negated : Bound → Node → Span → Outcome → Outcome
  negated bound goal span outcome =
      if_ready outcome (λ inner. if binds_inside total modes bound (variables goal) (variables goal) (binds total modes goal) then Ready (put (Denial inner) [] span) else Stuck (binds_outer span))

  pub negation_stuck : (goal : Node) (span : Span) (bound : Bound) (old mid new : Written) (fault : Fault) → Gives modes (from total modes goal bound) old mid (Err fault)
      → Gives modes (from total modes (Negation goal span) bound) old new (Err fault)
  negation_stuck goal span bound old mid new (Refused refusal) gives = ap (λ o. negated bound goal span o) gives
  negation_stuck goal span bound old mid new NoMemory gives = tt

  pub negation_binds : (goal : Node) (span : Span) (bound : Bound) (own : Facts) (old mid : Written) (done : Unit {0}) → Gives modes (from total modes goal bound) old mid (Ok done)
      → AreFactsOf total modes (Negation goal span) own → are_bound bound own.owed ≡ false → from total modes (Negation goal span) bound ≡ Stuck (binds_outer span)
  negation_binds goal span bound own old mid done (inner, is, w) known h =
      ap (λ o. negated bound goal span o) is ∙ ap (λ b. if b then Ready (put (Denial inner) [] span) else Stuck (binds_outer span)) (sym (known.owed_are bound) ∙ h)

  pub negation_ready : (goal : Node) (span : Span) (bound : Bound) (own : Facts) (outputs : List ℕ) (old mid new : Written) (done : Unit {0}) → Gives modes (from total modes goal bound) old mid (Ok done)
      → AreFactsOf total modes (Negation goal span) own → are_bound bound own.owed ≡ true → outputs ≡ []
      → new.nodes ≡ joined NegationRoot outputs span mid.nodes → new.fresh ≡ mid.fresh → new.seen ≡ mid.seen
      → Gives modes (from total modes (Negation goal span) bound) old new (Ok done)
  negation_ready goal span bound own outputs old mid new done (inner, is, w) known h none nodes fresh seen = (
    put (Denial inner) [] span,
    ap (λ o. negated bound goal span o) is ∙ ap (λ b. if b then Ready (put (Denial inner) [] span) else Stuck (binds_outer span)) (sym (known.owed_are bound) ∙ h),
    denial_written modes inner span old mid new w (nodes ∙ ap (λ l. joined NegationRoot l span mid.nodes) none) fresh seen,
  )

  -- a goal with variables of its own

  abbrev quantified : Bound → List ℕ → Node → Span → Outcome → Outcome
  quantified bound own goal span outcome = if_ready outcome (λ inner. Ready (put (Within own inner) (outputs_of total modes bound (Quantified own goal span)) span))

  pub quantified_stuck : (own : List ℕ) (goal : Node) (span : Span) (bound : Bound) (old mid new : Written) (fault : Fault) → Gives modes (from total modes goal bound) old mid (Err fault)
      → Gives modes (from total modes (Quantified own goal span) bound) old new (Err fault)
  quantified_stuck own goal span bound old mid new (Refused refusal) gives = ap (λ o. quantified bound own goal span o) gives
  quantified_stuck own goal span bound old mid new NoMemory gives = tt

  pub quantified_ready : (own : List ℕ) (goal : Node) (span : Span) (bound : Bound) (copy outputs : List ℕ) (old mid new : Written) (done : Unit {0}) → Gives modes (from total modes goal bound) old mid (Ok done)
      → copy ≡ own → outputs ≡ outputs_of total modes bound (Quantified own goal span)
      → new.nodes ≡ joined (QuantifiedRoot copy) outputs span mid.nodes → new.fresh ≡ mid.fresh → new.seen ≡ mid.seen
      → Gives modes (from total modes (Quantified own goal span) bound) old new (Ok done)
  quantified_ready own goal span bound copy outputs old mid new done (inner, is, w) same outs nodes fresh seen = (
    put (Within own inner) outputs span,
    ap (λ o. quantified bound own goal span o) is ∙ ap (λ o. Ready (put (Within own inner) o span)) (sym outs),
    within_written modes own inner outputs span old mid new w (nodes ∙ ap (λ l. joined (QuantifiedRoot l) outputs span mid.nodes) same) fresh seen,
  )

  -- a disjunction

  abbrev chosen : Bound → Nodes → Span → Outcomes → Outcome
  chosen bound goals span outcomes =
      if_all_ready outcomes (λ all. if agree total modes bound (all_variables goals) (arms total modes goals) then Ready (put (Choice all) (outputs_of total modes bound (Disjunction goals span)) span)
      else Stuck (unbound_output span))

  pub disjunction_stuck : (goals : Nodes) (span : Span) (bound : Bound) (old mid new : Written) (fault : Fault) → GivesAll modes (each_from (moves total modes goals) bound) old mid (Err fault)
      → Gives modes (from total modes (Disjunction goals span) bound) old new (Err fault)
  disjunction_stuck goals span bound old mid new (Refused refusal) gives = ap (λ o. chosen bound goals span o) gives
  disjunction_stuck goals span bound old mid new NoMemory gives = tt

  pub disjunction_differs : (goals : Nodes) (span : Span) (bound : Bound) (own : Facts) (old mid : Written) (done : Unit {0}) → GivesAll modes (each_from (moves total modes goals) bound) old mid (Ok done)
      → AreFactsOf total modes (Disjunction goals span) own → are_bound bound own.owed ≡ false → from total modes (Disjunction goals span) bound ≡ Stuck (unbound_output span)
  disjunction_differs goals span bound own old mid done (all, is, w) known h =
      ap (λ o. chosen bound goals span o) is
      ∙ ap (λ b. if b then Ready (put (Choice (ordereds_of all)) (outputs_of total modes bound (Disjunction goals span)) span) else Stuck (unbound_output span)) (sym (known.owed_are bound) ∙ h)

  pub disjunction_ready : (goals : Nodes) (span : Span) (bound : Bound) (own : Facts) (count : ℕ) (outputs : List ℕ) (old mid new : Written) (done : Unit {0})
      → GivesAll modes (each_from (moves total modes goals) bound) old mid (Ok done)
      → AreFactsOf total modes (Disjunction goals span) own → are_bound bound own.owed ≡ true → outputs ≡ outputs_of total modes bound (Disjunction goals span) → count ≡ length mid.nodes - length old.nodes
      → new.nodes ≡ joined (DisjunctionRoot count) outputs span mid.nodes → new.fresh ≡ mid.fresh → new.seen ≡ mid.seen
      → Gives modes (from total modes (Disjunction goals span) bound) old new (Ok done)
  disjunction_ready goals span bound own count outputs old mid new done (all, is, w) known h outs c nodes fresh seen = (
    put (Choice (ordereds_of all)) outputs span,
    ap (λ o. chosen bound goals span o) is
        ∙ ap (λ b. if b then Ready (put (Choice (ordereds_of all)) (outputs_of total modes bound (Disjunction goals span)) span) else Stuck (unbound_output span)) (sym (known.owed_are bound) ∙ h)
        ∙ ap (λ o. Ready (put (Choice (ordereds_of all)) o span)) (sym outs),
    choice_written modes all count outputs span old mid new w c nodes fresh seen,
  )

  -- a conjunction

  abbrev conjoined : Bound → Nodes → Span → Outcomes → Outcome
  conjoined bound goals span outcomes = if_all_ready outcomes (λ all. Ready (put (Sequence all) (outputs_of total modes bound (Conjunction goals span)) span))

  pub conjunction_stuck : (goals : Nodes) (span : Span) (bound : Bound) (old mid new : Written) (fault : Fault) → GivesAll modes (all_settled (moves total modes goals) bound) old mid (Err fault)
      → Gives modes (from total modes (Conjunction goals span) bound) old new (Err fault)
  conjunction_stuck goals span bound old mid new (Refused refusal) gives = ap (λ o. conjoined bound goals span o) gives
  conjunction_stuck goals span bound old mid new NoMemory gives = tt

  pub conjunction_ready : (goals : Nodes) (span : Span) (bound : Bound) (count : ℕ) (outputs : List ℕ) (old mid new : Written) (done : Unit {0})
      → GivesAll modes (all_settled (moves total modes goals) bound) old mid (Ok done) → outputs ≡ outputs_of total modes bound (Conjunction goals span) → count ≡ length mid.nodes - length old.nodes
      → new.nodes ≡ joined (ConjunctionRoot Sequential count) outputs span mid.nodes → new.fresh ≡ mid.fresh → new.seen ≡ mid.seen
      → Gives modes (from total modes (Conjunction goals span) bound) old new (Ok done)
  conjunction_ready goals span bound count outputs old mid new done (all, is, w) outs c nodes fresh seen = (
    put (Sequence (ordereds_of all)) outputs span,
    ap (λ o. conjoined bound goals span o) is ∙ ap (λ o. Ready (put (Sequence (ordereds_of all)) o span)) (sym outs),
    sequence_written modes all count outputs span old mid new w c nodes fresh seen,
  )

  -- goals side by side

  abbrev parallel : Bound → Nodes → Span → Outcomes → Outcome
  parallel bound goals span outcomes = if_all_ready outcomes (λ all. Ready (put (BesideStep all) (outputs_of total modes bound (Parallel goals span)) span))

  pub parallel_stuck : (goals : Nodes) (span : Span) (bound : Bound) (old mid new : Written) (fault : Fault) → GivesAll modes (beside 1 (moves total modes goals) bound) old mid (Err fault)
      → Gives modes (from total modes (Parallel goals span) bound) old new (Err fault)
  parallel_stuck goals span bound old mid new (Refused refusal) gives = ap (λ o. parallel bound goals span o) gives
  parallel_stuck goals span bound old mid new NoMemory gives = tt

  pub parallel_ready : (goals : Nodes) (span : Span) (bound : Bound) (count : ℕ) (outputs : List ℕ) (old mid new : Written) (done : Unit {0})
      → GivesAll modes (beside 1 (moves total modes goals) bound) old mid (Ok done) → outputs ≡ outputs_of total modes bound (Parallel goals span) → count ≡ length mid.nodes - length old.nodes
      → new.nodes ≡ joined (ConjunctionRoot (Beside None) count) outputs span mid.nodes → new.fresh ≡ mid.fresh → new.seen ≡ mid.seen
      → Gives modes (from total modes (Parallel goals span) bound) old new (Ok done)
  parallel_ready goals span bound count outputs old mid new done (all, is, w) outs c nodes fresh seen = (
    put (BesideStep (ordereds_of all)) outputs span,
    ap (λ o. parallel bound goals span o) is ∙ ap (λ o. Ready (put (BesideStep (ordereds_of all)) o span)) (sym outs),
    beside_written modes all count outputs span old mid new w c nodes fresh seen,
  )
