-- If-then-elses of which each is the else part of the one before are ordered.
use Rattle.std.specs.Prelude.{◌≡◌, ◌≤◌, ◌+◌, ℕ, suc, Bool, true, false, List, [], ◌∷◌, ◌++◌, length, take, drop, reverse, Ok, Err, refl, if◌then◌else◌}
use Rattle.std.specs.List.{slice_range, slice_index_or}
use Rattle.std.proofs.Common.{◌∙◌, ap, sym, subst, arith}
use Rattle.std.proofs.lemmas.List.{length-append, append_assoc, append-nil, reverse-append, take_at, drop_at, get_or_at}
use Rattle.merc_base.specs.declared.place.Span.{Span}
use Rattle.merc_base.specs.declared.refusal.Fault.{Fault}
use Rattle.merc_base.specs.declared.refusal.Fault.TheVariants.{Refused, NoMemory}
use Rattle.merc_base.specs.declared.refusal.Refusal.{Refusal}
use Rattle.merc_tree.specs.declared.declarations.ModeDecl.{ModeDecl}
use Rattle.merc_goal_tree.specs.declared.entries.Root.TheVariants.{Conditional as FlatConditional}
use Rattle.merc_goal_tree.specs.Nodes.{Node, Conditional, span_of, no_nodes, more_nodes}
use Rattle.merc_goal_tree.specs.Parts.{parts_of}
use Rattle.merc_goal_tree.specs.Variables.{variables}
use Rattle.merc_graded_tree.specs.declared.entries.Root.TheVariants.{Conditional as ConditionalRoot}
use Rattle.merc_graded_tree.specs.Roots.{joined}
use Rattle.merc_order.specs.Bound.{Bound, with, are_bound}
use Rattle.merc_order.specs.Faults.{binds_outer, unbound_output}
use Rattle.merc_order.specs.Order.{agree, binds, binds_inside, decision_arms, from, outputs_of}
use Rattle.merc_order.specs.Ordered.{Ordered, put, Decision, Outcome, Ready, Stuck, if_ready}
use Rattle.merc_goal_facts.specs.Facts.{AreKnown, AreFactsOf, subgoals, all_subgoals}
use Rattle.merc_simple_goals.specs.Writing.{IsWritten, Gives}
use Rattle.merc_goal_facts.specs.Outside.{IsStretch}
use Rattle.merc_readiness.specs.Sweeps.{AreKnownFrom}
use Rattle.merc_simple_goals.specs.declared.written.Written.{Written}
use Rattle.merc_goal_order.proofs.Stretches.{stretch_front, stretch_back, known_next, next_stretch, place_is}
use Rattle.merc_goal_order.specs.Linked.{ending, Guarded, GuardGives, Chain, outermost, inside, Within, Closing, CloseGives}
use Rattle.merc_goal_order.specs.Walks.{AreWritten}
use Rattle.merc_goal_facts.specs.declared.facts.Facts.{Facts}
use Rattle.merc_goal_order.specs.declared.links.Link.{Link}
use Rattle.merc_readiness.proofs.Binding.{next_known}
use Rattle.merc_goal_order.proofs.Emitted.{decision_written, none_written, written_on, written_one, one_written, all_written}
use Rattle.merc_readiness.proofs.Marking.{known_split, known_length, subgoals_length}

-- the condition and the then part

module _ (total : ℕ → ℕ) (modes : ℕ → List ModeDecl) (bound : Bound) (condition then_part else_part : Node) (span : Span) where
  abbrev decided : Ordered → Ordered → Ordered → Outcome
  decided first second third =
      if agree total modes bound (variables (Conditional condition then_part else_part span)) (decision_arms total modes condition then_part else_part)
      then Ready (put (Decision first second third) (outputs_of total modes bound (Conditional condition then_part else_part span)) span) else Stuck (unbound_output span)

  abbrev behind_condition : Ordered → Outcome
  behind_condition first = if_ready (from total modes then_part (with bound (binds total modes condition))) (λ second. if_ready (from total modes else_part bound) (λ third. decided first second third))

  abbrev keeps : Bool
  keeps = binds_inside total modes bound (variables condition ++ variables then_part) (variables condition) (binds total modes condition)

  abbrev guarded : Outcome → Outcome
  guarded outcome = if_ready outcome (λ first. if keeps then behind_condition first else Stuck (binds_outer (span_of condition)))

  pub guard_ends : (first second : Ordered) → from total modes condition bound ≡ Ready first → keeps ≡ true → from total modes then_part (with bound (binds total modes condition)) ≡ Ready second
      → from total modes (Conditional condition then_part else_part span) bound ≡ ending total modes bound condition then_part else_part span first second (from total modes else_part bound)
  guard_ends first second one inner two =
      ap guarded one ∙ ap (λ b. if b then behind_condition first else Stuck (binds_outer (span_of condition))) inner
      ∙ ap (λ o. if_ready o (λ second. if_ready (from total modes else_part bound) (λ third. decided first second third))) two

  pub condition_stuck : (refusal : Refusal) → from total modes condition bound ≡ Stuck refusal → from total modes (Conditional condition then_part else_part span) bound ≡ Stuck refusal
  condition_stuck refusal one = ap guarded one

  pub condition_binds : (first : Ordered) → from total modes condition bound ≡ Ready first → keeps ≡ false
      → from total modes (Conditional condition then_part else_part span) bound ≡ Stuck (binds_outer (span_of condition))
  condition_binds first one inner = ap guarded one ∙ ap (λ b. if b then behind_condition first else Stuck (binds_outer (span_of condition))) inner

  pub then_stuck : (first : Ordered) (refusal : Refusal) → from total modes condition bound ≡ Ready first → keeps ≡ true → from total modes then_part (with bound (binds total modes condition)) ≡ Stuck refusal
      → from total modes (Conditional condition then_part else_part span) bound ≡ Stuck refusal
  then_stuck first refusal one inner two =
      ap guarded one ∙ ap (λ b. if b then behind_condition first else Stuck (binds_outer (span_of condition))) inner
      ∙ ap (λ o. if_ready o (λ second. if_ready (from total modes else_part bound) (λ third. decided first second third))) two

-- the chain

module _ (total : ℕ → ℕ) (modes : ℕ → List ModeDecl) (all : List ℕ) (bound : Bound) (whole : Node) where
  -- the fault of an else part is that of the whole
  pub chain_stuck : (links : List Link) (rest : Node) (done : List Ordered) (refusal : Refusal) → Chain total modes all bound whole links rest done → from total modes rest bound ≡ Stuck refusal
      → from total modes whole bound ≡ Stuck refusal
  chain_stuck links rest done refusal outermost h = h
  chain_stuck links rest done refusal (inside link others condition then_part else_part first second before known stretch ends chain) h =
      chain_stuck others (Conditional condition then_part else_part link.span) before refusal chain
      (ends ∙ ap (λ o. ending total modes bound condition then_part else_part link.span first second o) h)

  pub first_within : (facts : List Facts) (start : ℕ) (old : Written) → AreKnown total modes (subgoals whole) facts → IsStretch total all start (start + length (variables whole)) (variables whole)
      → Within total modes all bound whole [] whole facts start old old
  first_within facts start old known stretch = record { done = []; chain = outermost; known = known; stretch = stretch; are_written = none_written modes old }

  -- the facts of an if-then-else: those of the condition and the then part, of the else part, and its own
  pub record Divided (condition then_part else_part : Node) (span : Span) (facts : List Facts) : Type 0 where
    pub front : List Facts
    pub middle : List Facts
    pub own : Facts
    pub facts_are : facts ≡ (front ++ middle) ++ own ∷ []
    pub front_known : AreKnown total modes (subgoals condition ++ subgoals then_part) front
    pub middle_known : AreKnown total modes (subgoals else_part) middle
    pub own_known : AreFactsOf total modes (Conditional condition then_part else_part span) own
    pub front_length : length front ≡ length (parts_of condition) + length (parts_of then_part)
    pub middle_length : length middle ≡ length (parts_of else_part)

  last_known : (goal : Node) (back : List Facts) → AreKnown total modes (goal ∷ []) back → (own : Facts) × (back ≡ own ∷ []) × AreFactsOf total modes goal own
  last_known goal [] known = elim known [ ]
  last_known goal (found ∷ []) (own, last) = (found, refl, own)
  last_known goal (found ∷ second ∷ rest) (own, last) = elim last [ ]

  pub divided : (condition then_part else_part : Node) (span : Span) (facts : List Facts) → AreKnown total modes (subgoals (Conditional condition then_part else_part span)) facts
      → Divided condition then_part else_part span facts
  divided condition then_part else_part span facts known =
      let one = known_split total modes ((subgoals condition ++ subgoals then_part) ++ subgoals else_part) (Conditional condition then_part else_part span ∷ []) facts known in
      let two = known_split total modes (subgoals condition ++ subgoals then_part) (subgoals else_part) one.front one.first_known in
      let (own, is, own_known) = last_known (Conditional condition then_part else_part span) one.back one.rest_known in
      record {
        front = two.front;
        middle = two.back;
        own = own;
        facts_are = one.facts_are ∙ ap (λ l. l ++ one.back) two.facts_are ∙ ap (λ l. (two.front ++ two.back) ++ l) is;
        front_known = two.first_known;
        middle_known = two.rest_known;
        own_known = own_known;
        front_length = known_length total modes (subgoals condition ++ subgoals then_part) two.front two.first_known ∙ length-append (subgoals condition) (subgoals then_part)
            ∙ ap (λ n. n + length (subgoals then_part)) (subgoals_length condition) ∙ ap (λ n. length (parts_of condition) + n) (subgoals_length then_part);
        middle_length = known_length total modes (subgoals else_part) two.back two.rest_known ∙ subgoals_length else_part;
      }

  front_is : (condition then_part else_part : Node) (span : Span) (facts : List Facts) (count : ℕ) (d : Divided condition then_part else_part span facts)
      → count ≡ length (parts_of condition) + length (parts_of then_part) → take count facts ≡ d.front
  front_is condition then_part else_part span facts count d h =
      ap (λ l. take count l) (d.facts_are ∙ append_assoc d.front d.middle (d.own ∷ [])) ∙ take_at d.front (d.middle ++ d.own ∷ []) count (d.front_length ∙ sym h)

  own_is : (condition then_part else_part : Node) (span : Span) (facts : List Facts) (index : ℕ) (default : Facts) (d : Divided condition then_part else_part span facts) → suc index ≡ length facts
      → slice_index_or facts index default ≡ d.own
  own_is condition then_part else_part span facts index default d h =
      let one : length facts ≡ length ((d.front ++ d.middle) ++ d.own ∷ []) = ap length d.facts_are in
      ap (λ l. slice_index_or l index default) d.facts_are ∙ get_or_at (d.front ++ d.middle) d.own [] default index (let two = length-append (d.front ++ d.middle) (d.own ∷ []) in omega (arith, one, two, h))

  middle_is : (condition then_part else_part : Node) (span : Span) (facts : List Facts) (count index : ℕ) (d : Divided condition then_part else_part span facts)
      → count ≡ length (parts_of condition) + length (parts_of then_part) → suc index ≡ length facts → slice_range facts count index ≡ d.middle
  middle_is condition then_part else_part span facts count index d c h =
      let one : length facts ≡ length ((d.front ++ d.middle) ++ d.own ∷ []) = ap length d.facts_are in
      let two = length-append (d.front ++ d.middle) (d.own ∷ []) in
      let three = length-append d.front d.middle in
      ap (λ l. slice_range l count index) (d.facts_are ∙ append_assoc d.front d.middle (d.own ∷ []))
      ∙ Rattle.merc_readiness.proofs.Marking.middle d.front d.middle (d.own ∷ []) count index (d.front_length ∙ sym c) (omega (arith, one, two, three, h, c, d.front_length))

  -- what is handed on to the condition and the then part
  pub guard_known : (condition then_part else_part : Node) (span : Span) (facts : List Facts) (count : ℕ) → AreKnown total modes (subgoals (Conditional condition then_part else_part span)) facts
      → count ≡ length (parts_of condition) + length (parts_of then_part) → AreKnown total modes (subgoals condition ++ subgoals then_part) (take count facts)
  guard_known condition then_part else_part span facts count known h =
      let d = divided condition then_part else_part span facts known in
      subst (λ l. AreKnown total modes (subgoals condition ++ subgoals then_part) l) (sym (front_is condition then_part else_part span facts count d h)) d.front_known

  pub own_known : (condition then_part else_part : Node) (span : Span) (facts : List Facts) (index : ℕ) (found : Facts) → AreKnown total modes (subgoals (Conditional condition then_part else_part span)) facts
      → suc index ≡ length facts → found ≡ slice_index_or facts index found → AreFactsOf total modes (Conditional condition then_part else_part span) found
  own_known condition then_part else_part span facts index found known h is =
      let d = divided condition then_part else_part span facts known in
      subst (λ f. AreFactsOf total modes (Conditional condition then_part else_part span) f) (sym (is ∙ own_is condition then_part else_part span facts index found d h)) d.own_known

  pub guard_stretch : (condition then_part else_part : Node) (span : Span) (start : ℕ)
      → IsStretch total all start (start + length (variables (Conditional condition then_part else_part span))) (variables (Conditional condition then_part else_part span))
      → IsStretch total all start (start + length (variables condition ++ variables then_part)) (variables condition ++ variables then_part)
  guard_stretch condition then_part else_part span start s =
      stretch_front total all start (variables condition ++ variables then_part) (variables else_part)
      (subst (λ l. IsStretch total all start (start + length l) l) (sym (append_assoc (variables condition) (variables then_part) (variables else_part))) s)

  else_stretch : (condition then_part else_part : Node) (span : Span) (start next : ℕ) → next ≡ start + length (variables condition ++ variables then_part)
      → IsStretch total all start (start + length (variables (Conditional condition then_part else_part span))) (variables (Conditional condition then_part else_part span))
      → IsStretch total all next (next + length (variables else_part)) (variables else_part)
  else_stretch condition then_part else_part span start next h s =
      subst (λ n. IsStretch total all n (n + length (variables else_part)) (variables else_part)) (sym h)
      (stretch_back total all start (variables condition ++ variables then_part) (variables else_part)
      (subst (λ l. IsStretch total all start (start + length l) l) (sym (append_assoc (variables condition) (variables then_part) (variables else_part))) s))

  -- one link more
  pub linked : (links : List Link) (link : Link) (condition then_part else_part : Node) (facts : List Facts) (count index next : ℕ) (old mid new : Written)
      → Within total modes all bound whole links (Conditional condition then_part else_part link.span) facts link.start old mid
      → Guarded total modes condition then_part bound link.start next mid new → count ≡ length (parts_of condition) + length (parts_of then_part) → suc index ≡ length facts
      → link.own.now ≡ slice_index_or facts index link.own.now
      → Within total modes all bound whole (link ∷ links) else_part (slice_range facts count index) next old new
  linked links link condition then_part else_part facts count index next old mid new w g c h is =
      let d = divided condition then_part else_part link.span facts w.known in
      record {
        done = w.done ++ g.first ∷ g.second ∷ [];
        chain = inside link links condition then_part else_part g.first g.second w.done (own_known condition then_part else_part link.span facts index link.own.now w.known h is) w.stretch
            (g.ends else_part link.span) w.chain;
        known = subst (λ l. AreKnown total modes (subgoals else_part) l) (sym (middle_is condition then_part else_part link.span facts count index d c h)) d.middle_known;
        stretch = else_stretch condition then_part else_part link.span link.start next g.next_is w.stretch;
        are_written = all_written modes w.done (g.first ∷ g.second ∷ []) old mid new w.are_written g.are_written;
      }

  -- the same, as the code keeps them: the last of them last
  pub pushed : (links after : List Link) (link : Link) (condition then_part else_part rest : Node) (facts : List Facts) (count index next : ℕ) (old mid new : Written)
      → after ≡ links ++ link ∷ [] → Conditional condition then_part else_part (span_of rest) ≡ rest → link.span ≡ span_of rest
      → Within total modes all bound whole (reverse links) rest facts link.start old mid
      → Guarded total modes condition then_part bound link.start next mid new → count ≡ length (parts_of condition) + length (parts_of then_part) → suc index ≡ length facts
      → link.own.now ≡ slice_index_or facts index link.own.now
      → Within total modes all bound whole (reverse after) else_part (slice_range facts count index) next old new
  pushed links after link condition then_part else_part rest facts count index next old mid new after_is rest_is span_is w g c h is =
      let now = subst (λ n. Within total modes all bound whole (reverse links) n facts link.start old mid) (sym rest_is ∙ ap (λ s. Conditional condition then_part else_part s) (sym span_is)) w in
      subst (λ l. Within total modes all bound whole l else_part (slice_range facts count index) next old new) (sym (ap reverse after_is ∙ reverse-append links (link ∷ [])))
      (linked (reverse links) link condition then_part else_part facts count index next old mid new now g c h is)

  -- the else part of the last link
  pub closing : (links : List Link) (rest : Node) (facts : List Facts) (place : ℕ) (old mid new : Written) (ordered : Ordered) → Within total modes all bound whole links rest facts place old mid
      → from total modes rest bound ≡ Ready ordered → IsWritten modes ordered mid new → Closing total modes all bound whole links old new
  closing links rest facts place old mid new ordered w is written = record {
    done = w.done;
    rest = rest;
    chain = w.chain;
    ordered = ordered;
    outcome = is;
    are_written = written_on modes w.done ordered old mid new w.are_written written;
  }

  -- A link is closed.

  pub record Last (link : Link) (links : List Link) (rest : Node) (done : List Ordered) : Type 0 where
    pub condition : Node
    pub then_part : Node
    pub first : Ordered
    pub second : Ordered
    pub before : List Ordered
    pub done_is : done ≡ before ++ first ∷ second ∷ []
    pub known : AreFactsOf total modes (Conditional condition then_part rest link.span) link.own.now
    pub stretch : IsStretch total all link.start (link.start + length (variables (Conditional condition then_part rest link.span))) (variables (Conditional condition then_part rest link.span))
    pub ends : from total modes (Conditional condition then_part rest link.span) bound ≡ ending total modes bound condition then_part rest link.span first second (from total modes rest bound)
    pub chain : Chain total modes all bound whole links (Conditional condition then_part rest link.span) before

  pub last : (link : Link) (links : List Link) (rest : Node) (done : List Ordered) → Chain total modes all bound whole (link ∷ links) rest done → Last link links rest done
  last link links rest done (inside l o condition then_part else_part first second before known stretch ends chain) = record {
    condition = condition;
    then_part = then_part;
    first = first;
    second = second;
    before = before;
    done_is = refl;
    known = known;
    stretch = stretch;
    ends = ends;
    chain = chain;
  }

  pub closed_stuck : (link : Link) (links : List Link) (old mid : Written) → Closing total modes all bound whole (link ∷ links) old mid → are_bound bound link.own.now.owed ≡ false
      → from total modes whole bound ≡ Stuck (unbound_output link.span)
  closed_stuck link links old mid c h =
      let l = last link links c.rest c.done c.chain in
      let not : agree total modes bound (variables (Conditional l.condition l.then_part c.rest link.span)) (decision_arms total modes l.condition l.then_part c.rest) ≡ false = sym (l.known.owed_are bound) ∙ h in
      chain_stuck links (Conditional l.condition l.then_part c.rest link.span) l.before (unbound_output link.span) l.chain
      (l.ends ∙ ap (λ o. ending total modes bound l.condition l.then_part c.rest link.span l.first l.second o) c.outcome
      ∙ ap (λ b. if b then Ready (put (Decision l.first l.second c.ordered) (outputs_of total modes bound (Conditional l.condition l.then_part c.rest link.span)) link.span) else Stuck (unbound_output link.span)) not)

  pub closed_one : (link : Link) (links : List Link) (outputs : List ℕ) (old mid new : Written) → Closing total modes all bound whole (link ∷ links) old mid → are_bound bound link.own.now.owed ≡ true
      → ((goal : Node) → AreFactsOf total modes goal link.own.now → IsStretch total all link.start (link.start + length (variables goal)) (variables goal) → outputs ≡ outputs_of total modes bound goal)
      → new.nodes ≡ joined ConditionalRoot outputs link.span mid.nodes → new.fresh ≡ mid.fresh → new.seen ≡ mid.seen → Closing total modes all bound whole links old new
  closed_one link links outputs old mid new c h outputs_is nodes fresh seen =
      let l = last link links c.rest c.done c.chain in
      let goal : Node = Conditional l.condition l.then_part c.rest link.span in
      let outs : outputs ≡ outputs_of total modes bound goal = outputs_is goal l.known l.stretch in
      let yes : agree total modes bound (variables goal) (decision_arms total modes l.condition l.then_part c.rest) ≡ true = sym (l.known.owed_are bound) ∙ h in
      record {
        done = l.before;
        rest = goal;
        chain = l.chain;
        ordered = put (Decision l.first l.second c.ordered) outputs link.span;
        outcome = l.ends ∙ ap (λ o. ending total modes bound l.condition l.then_part c.rest link.span l.first l.second o) c.outcome
            ∙ ap (λ b. if b then Ready (put (Decision l.first l.second c.ordered) (outputs_of total modes bound goal) link.span) else Stuck (unbound_output link.span)) yes
            ∙ ap (λ o. Ready (put (Decision l.first l.second c.ordered) o link.span)) (sym outs);
        are_written = decision_written modes l.before l.first l.second c.ordered outputs link.span old mid new
            (subst (λ d. AreWritten modes d old mid) (ap (λ d. d ++ c.ordered ∷ []) l.done_is ∙ append_assoc l.before (l.first ∷ l.second ∷ []) (c.ordered ∷ [])) c.are_written) nodes fresh seen;
      }

  -- all are closed
  at_first : (rest : Node) (done : List Ordered) → Chain total modes all bound whole [] rest done → (rest ≡ whole) × (done ≡ [])
  at_first rest done outermost = (refl, refl)

  pub closed_all : (old new : Written) → Closing total modes all bound whole [] old new → Gives modes (from total modes whole bound) old new (Ok tt)
  closed_all old new c =
      let (same, none) = at_first c.rest c.done c.chain in
      (c.ordered, ap (λ g. from total modes g bound) (sym same) ∙ c.outcome, written_one modes c.ordered old new (subst (λ d. AreWritten modes (d ++ c.ordered ∷ []) old new) none c.are_written))

  pub close_err : (links : List Link) (old mid late : Written) (fault : Fault) → CloseGives total modes all bound whole links old mid (Err fault) → Gives modes (from total modes whole bound) old late (Err fault)
  close_err links old mid late (Refused refusal) gives = gives
  close_err links old mid late NoMemory gives = tt

-- the condition and the then part, by the facts of their parts

module _ (total : ℕ → ℕ) (modes : ℕ → List ModeDecl) (condition then_part : Node) where
  from_first : (facts : List Facts) → AreKnown total modes (subgoals condition ++ subgoals then_part) facts
      → AreKnownFrom total modes (all_subgoals (more_nodes condition (more_nodes then_part no_nodes))) facts 0
  from_first facts known = record {
    front = [];
    back = facts;
    at_is = refl;
    facts_are = refl;
    known = subst (λ l. AreKnown total modes (subgoals condition ++ l) facts) (sym (append-nil (subgoals then_part))) known;
  }

  pub condition_known : (facts : List Facts) (count : ℕ) → AreKnown total modes (subgoals condition ++ subgoals then_part) facts → count ≡ length (parts_of condition)
      → AreKnown total modes (subgoals condition) (take count facts)
  condition_known facts count known h =
      let k = known_split total modes (subgoals condition) (subgoals then_part) facts known in
      let long : length k.front ≡ count = known_length total modes (subgoals condition) k.front k.first_known ∙ subgoals_length condition ∙ sym h in
      subst (λ l. AreKnown total modes (subgoals condition) l) (sym (ap (λ l. take count l) k.facts_are ∙ take_at k.front k.back count long)) k.first_known

  pub then_known : (facts : List Facts) (count : ℕ) → AreKnown total modes (subgoals condition ++ subgoals then_part) facts → count ≡ length (parts_of condition)
      → AreKnown total modes (subgoals then_part) (drop count facts)
  then_known facts count known h =
      let k = known_split total modes (subgoals condition) (subgoals then_part) facts known in
      let long : length k.front ≡ count = known_length total modes (subgoals condition) k.front k.first_known ∙ subgoals_length condition ∙ sym h in
      subst (λ l. AreKnown total modes (subgoals then_part) l) (sym (ap (λ l. drop count l) k.facts_are ∙ drop_at k.front k.back count long)) k.rest_known

  pub condition_own : (facts : List Facts) (index : ℕ) (found : Facts) → AreKnown total modes (subgoals condition ++ subgoals then_part) facts → suc index ≡ length (parts_of condition)
      → found ≡ slice_index_or facts index found → AreFactsOf total modes condition found
  condition_own facts index found known h is =
      known_next total modes condition (more_nodes then_part no_nodes) facts 0 index found (from_first facts known) (let same : suc index ≡ 0 + length (parts_of condition) = omega (arith, h) in same) is

  pub then_own : (facts : List Facts) (index : ℕ) (found : Facts) → AreKnown total modes (subgoals condition ++ subgoals then_part) facts → suc index ≡ length facts
      → found ≡ slice_index_or facts index found → AreFactsOf total modes then_part found
  then_own facts index found known h is =
      let long : length facts ≡ length (parts_of condition) + length (parts_of then_part) =
      known_length total modes (subgoals condition ++ subgoals then_part) facts known ∙ length-append (subgoals condition) (subgoals then_part)
      ∙ ap (λ n. n + length (subgoals then_part)) (subgoals_length condition) ∙ ap (λ n. length (parts_of condition) + n) (subgoals_length then_part) in
      known_next total modes then_part no_nodes facts (0 + length (parts_of condition)) index found
      (next_known total modes condition (more_nodes then_part no_nodes) facts 0 (from_first facts known)).others_known (omega (arith, h, long)) is

  pub then_stretch : (all : List ℕ) (start behind : ℕ) (found : Facts) → AreFactsOf total modes condition found
      → IsStretch total all start (start + length (variables condition ++ variables then_part)) (variables condition ++ variables then_part)
      → (start + found.occurrences ≤ length all → behind ≡ start + found.occurrences) → IsStretch total all behind (behind + length (variables then_part)) (variables then_part)
  then_stretch all start behind found known s is = next_stretch total modes condition all start behind (variables then_part) found known s is

  pub place_behind_is : (all : List ℕ) (start behind next : ℕ) (found last : Facts) → AreFactsOf total modes condition found → AreFactsOf total modes then_part last
      → IsStretch total all start (start + length (variables condition ++ variables then_part)) (variables condition ++ variables then_part)
      → (start + found.occurrences ≤ length all → behind ≡ start + found.occurrences) → (behind + last.occurrences ≤ length all → next ≡ behind + last.occurrences)
      → next ≡ start + length (variables condition ++ variables then_part)
  place_behind_is all start behind next found last one two s is late =
      let first = place_is total modes condition all start behind (variables then_part) found one s is in
      let t = then_stretch all start behind found one s is in
      let second = place_is total modes then_part all behind next [] last two (subst (λ l. IsStretch total all behind (behind + length l) l) (sym (append-nil (variables then_part))) t) late in
      omega (arith, first, second, length-append (variables condition) (variables then_part))

  pub condition_err : (bound : Bound) (start : ℕ) (old mid new : Written) (fault : Fault) → Gives modes (from total modes condition bound) old mid (Err fault)
      → GuardGives total modes condition then_part bound start old new (Err fault)
  condition_err bound start old mid new (Refused refusal) gives = λ else_part span. condition_stuck total modes bound condition then_part else_part span refusal gives
  condition_err bound start old mid new NoMemory gives = tt

  pub condition_outer : (bound : Bound) (own : Facts) (else_part : Node) (span : Span) (old mid : Written) (done : Unit {0}) → Gives modes (from total modes condition bound) old mid (Ok done)
      → AreFactsOf total modes (Conditional condition then_part else_part span) own → are_bound bound own.owed_by_condition ≡ false
      → (other : Node) (place : Span) → from total modes (Conditional condition then_part other place) bound ≡ Stuck (binds_outer (span_of condition))
  condition_outer bound own else_part span old mid done (first, is, w) known h other place =
      condition_binds total modes bound condition then_part other place first is (sym (known.owed_by_condition_are bound) ∙ h)

  pub then_err : (bound : Bound) (own : Facts) (else_part : Node) (span : Span) (start : ℕ) (old mid late new : Written) (done : Unit {0}) (fault : Fault) → Gives modes (from total modes condition bound) old mid (Ok done)
      → AreFactsOf total modes (Conditional condition then_part else_part span) own → are_bound bound own.owed_by_condition ≡ true
      → Gives modes (from total modes then_part (with bound (binds total modes condition))) mid late (Err fault) → GuardGives total modes condition then_part bound start old new (Err fault)
  then_err bound own else_part span start old mid late new done (Refused refusal) (first, is, w) known h gives =
      λ other place. then_stuck total modes bound condition then_part other place first refusal is (sym (known.owed_by_condition_are bound) ∙ h) gives
  then_err bound own else_part span start old mid other new done NoMemory gives known h last = tt

  pub guarded_by : (bound : Bound) (own : Facts) (else_part : Node) (span : Span) (start next : ℕ) (old mid new : Written) (done end : Unit {0}) → Gives modes (from total modes condition bound) old mid (Ok done)
      → AreFactsOf total modes (Conditional condition then_part else_part span) own → are_bound bound own.owed_by_condition ≡ true
      → Gives modes (from total modes then_part (with bound (binds total modes condition))) mid new (Ok end) → next ≡ start + length (variables condition ++ variables then_part)
      → Guarded total modes condition then_part bound start next old new
  guarded_by bound own else_part span start next old mid new done end (first, is, w) known h (second, too, v) n = record {
    first = first;
    second = second;
    ends = λ other place. guard_ends total modes bound condition then_part other place first second is (sym (known.owed_by_condition_are bound) ∙ h) too;
    are_written = written_on modes (first ∷ []) second old mid new (one_written modes first old mid w) v;
    next_is = n;
  }

-- the fault of a link, or of the last else part

module _ (total : ℕ → ℕ) (modes : ℕ → List ModeDecl) (all : List ℕ) (bound : Bound) (whole : Node) where
  pub chain_err : (links : List Link) (condition then_part else_part : Node) (span : Span) (facts : List Facts) (place : ℕ) (old mid late new : Written) (fault : Fault)
      → Within total modes all bound whole links (Conditional condition then_part else_part span) facts place old mid → GuardGives total modes condition then_part bound place mid late (Err fault)
      → Gives modes (from total modes whole bound) old new (Err fault)
  chain_err links condition then_part else_part span facts place old mid late new (Refused refusal) w gives =
      chain_stuck total modes all bound whole links (Conditional condition then_part else_part span) w.done refusal w.chain (gives else_part span)
  chain_err links condition then_part else_part span facts place old mid late new NoMemory w gives = tt

  pub rest_err : (links : List Link) (rest : Node) (facts : List Facts) (place : ℕ) (old mid late new : Written) (fault : Fault) → Within total modes all bound whole links rest facts place old mid
      → Gives modes (from total modes rest bound) mid late (Err fault) → Gives modes (from total modes whole bound) old new (Err fault)
  rest_err links rest facts place old mid late new (Refused refusal) w gives = chain_stuck total modes all bound whole links rest w.done refusal w.chain gives
  rest_err links rest facts place old mid late new NoMemory w gives = tt

  pub rest_ready : (links : List Link) (rest : Node) (facts : List Facts) (place : ℕ) (old mid new : Written) (done : Unit {0}) → Within total modes all bound whole links rest facts place old mid
      → Gives modes (from total modes rest bound) mid new (Ok done) → Closing total modes all bound whole links old new
  rest_ready links rest facts place old mid new done w (ordered, is, written) = closing total modes all bound whole links rest facts place old mid new ordered w is written

-- the parts of an if-then-else
pub conditional_parts : (rest condition then_part else_part : Node) (span : Span) → Conditional condition then_part else_part span ≡ rest
    → length (parts_of rest) ≡ length (parts_of condition) + length (parts_of then_part) + length (parts_of else_part) + 1
conditional_parts rest condition then_part else_part span is =
    sym (ap (λ g. length (parts_of g)) is)
    ∙ length-append ((parts_of condition ++ parts_of then_part) ++ parts_of else_part) ((FlatConditional, span) ∷ [])
    ∙ ap (λ n. n + 1) (length-append (parts_of condition ++ parts_of then_part) (parts_of else_part) ∙ ap (λ n. n + length (parts_of else_part)) (length-append (parts_of condition) (parts_of then_part)))
