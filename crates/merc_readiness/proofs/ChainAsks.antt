-- One if-then-else: whether it is ready, and its marks by those of its parts.
use Rattle.std.specs.Prelude.{◌≡◌, ◌+◌, ◌&&◌, ℕ, Bool, true, false, List, [], ◌∷◌, ◌++◌, length, take, drop, refl}
use Rattle.std.specs.List.{slice_range, slice_index_or}
use Rattle.std.proofs.Common.{◌∙◌, ap, sym, subst, arith}
use Rattle.std.proofs.lemmas.List.{length-append, append_assoc, append-nil, take_at, drop_at, get_or_at}
use Rattle.merc_base.specs.declared.place.Span.{Span}
use Rattle.merc_tree.specs.declared.declarations.ModeDecl.{ModeDecl}
use Rattle.merc_goal_tree.specs.Nodes.{Node, Conditional, no_nodes, more_nodes}
use Rattle.merc_goal_tree.specs.Parts.{parts_of}
use Rattle.merc_goal_tree.specs.Variables.{variables}
use Rattle.merc_order.specs.Bound.{Bound, with, among}
use Rattle.merc_order.specs.Marks.{Marked, no_marks, more_marks, IsSound}
use Rattle.merc_order.specs.Order.{binds, binds_inside, from}
use Rattle.merc_order.specs.Ordered.{is_ready}
use Rattle.merc_goal_facts.specs.Facts.{AreKnown, subgoals, all_subgoals, AreFactsOf}
use Rattle.merc_goal_facts.specs.Bounds.{all_behind}
use Rattle.merc_goal_facts.specs.Ready.{is_arm_ready}
use Rattle.merc_goal_facts.specs.declared.facts.Facts.{Facts}
use Rattle.merc_readiness.specs.Asking.{flags_of, Fits, none, more, IsMarked, AreMarked}
use Rattle.merc_readiness.specs.Chains.{AreArmMarked, Told}
use Rattle.merc_readiness.specs.Sweeps.{AreKnownFrom}
use Rattle.merc_goal_facts.proofs.Ready.{and_true, arms_agree, conditional_ready}
use Rattle.merc_readiness.proofs.Asked.{part_by}
use Rattle.merc_readiness.proofs.Binding.{bound_behind}
use Rattle.merc_readiness.proofs.Marking.{marks_length, middle, known_split, known_length, known_goal, subgoals_length}

pub and_false : (a : Bool) → (a && false) ≡ false
and_false true = refl
and_false false = refl

three : {X : Type 0} (a : List X) (x : X) (b : List X) (y : X) (rest : List X) → a ++ x ∷ (b ++ y ∷ rest) ≡ ((a ++ x ∷ []) ++ (b ++ y ∷ [])) ++ rest
three a x b y rest =
    sym (append_assoc (a ++ x ∷ []) (b ++ y ∷ []) rest ∙ append_assoc a (x ∷ []) ((b ++ y ∷ []) ++ rest) ∙ ap (λ l. a ++ x ∷ l) (append_assoc b (y ∷ []) rest))

module _ (total : ℕ → ℕ) (modes : ℕ → List ModeDecl) where
  -- marks of an arm, and how many they are

  pub flags_length : (goal : Node) (flags : List Bool) (bound : Bound) → IsMarked total modes goal flags bound → length flags ≡ length (parts_of goal)
  flags_length goal flags bound m = ap length m.flags_are ∙ marks_length goal m.inner m.went m.fits

  pub arm_length : (condition then_part : Node) (flags : List Bool) (bound : Bound) → AreArmMarked total modes condition then_part flags bound
      → length flags ≡ length (parts_of condition) + length (parts_of then_part)
  arm_length condition then_part flags bound a =
      let one = flags_length condition a.first bound a.condition_marked in
      let two = flags_length then_part a.second (with bound (binds total modes condition)) a.then_marked in
      let both = ap length a.flags_are ∙ length-append a.first a.second in
      omega arith

  pub record LinkMarked (condition then_part else_part : Node) (flags : List Bool) (bound : Bound) : Type 0 where
    pub arm : List Bool
    pub rest : List Bool
    pub flags_are : flags ≡ arm ++ rest
    pub arm_marked : AreArmMarked total modes condition then_part arm bound
    pub else_marked : IsMarked total modes else_part rest bound

  cut_marks : (condition then_part else_part : Node) (span : Span) (flags : List Bool) (bound : Bound) (inner : Marked)
      → Fits (more_nodes condition (more_nodes then_part (more_nodes else_part no_nodes))) inner → flags ≡ flags_of inner
      → IsSound total modes (Conditional condition then_part else_part span) inner bound → LinkMarked condition then_part else_part flags bound
  cut_marks condition then_part else_part span flags bound inner (more c r cw ci cs cf (more t s tw ti ts tf (more e u ew ei es ef none))) same (one, two, last) = record {
    arm = (flags_of ci ++ cw ∷ []) ++ (flags_of ti ++ tw ∷ []);
    rest = flags_of ei ++ ew ∷ [];
    flags_are = same ∙ three (flags_of ci) cw (flags_of ti) tw (flags_of ei ++ ew ∷ []);
    arm_marked = record {
      first = flags_of ci ++ cw ∷ [];
      second = flags_of ti ++ tw ∷ [];
      flags_are = refl;
      condition_marked = record { inner = ci; went = cw; fits = cf; flags_are = refl; sound = one };
      then_marked = record { inner = ti; went = tw; fits = tf; flags_are = refl; sound = two };
    };
    else_marked = record { inner = ei; went = ew; fits = ef; flags_are = refl; sound = last };
  }

  pub link_marked : (condition then_part else_part : Node) (span : Span) (flags : List Bool) (bound : Bound) → AreMarked total modes (Conditional condition then_part else_part span) flags bound
      → LinkMarked condition then_part else_part flags bound
  link_marked condition then_part else_part span flags bound m = cut_marks condition then_part else_part span flags bound m.inner m.fits m.flags_are m.sound

  -- and back
  pub marked_link : (condition then_part else_part : Node) (span : Span) (arm rest : List Bool) (bound : Bound) → AreArmMarked total modes condition then_part arm bound
      → IsMarked total modes else_part rest bound → AreMarked total modes (Conditional condition then_part else_part span) (arm ++ rest) bound
  marked_link condition then_part else_part span arm rest bound a m =
      let c = a.condition_marked in
      let t = a.then_marked in
      record {
        inner = more_marks c.went c.inner (more_marks t.went t.inner (more_marks m.went m.inner no_marks));
        fits = more condition (more_nodes then_part (more_nodes else_part no_nodes)) c.went c.inner (more_marks t.went t.inner (more_marks m.went m.inner no_marks)) c.fits
            (more then_part (more_nodes else_part no_nodes) t.went t.inner (more_marks m.went m.inner no_marks) t.fits (more else_part no_nodes m.went m.inner no_marks m.fits none));
        flags_are = ap (λ l. l ++ rest) (a.flags_are ∙ ap (λ l. l ++ a.second) c.flags_are ∙ ap (λ l. (flags_of c.inner ++ c.went ∷ []) ++ l) t.flags_are)
            ∙ ap (λ l. ((flags_of c.inner ++ c.went ∷ []) ++ (flags_of t.inner ++ t.went ∷ [])) ++ l) m.flags_are
            ∙ sym (three (flags_of c.inner) c.went (flags_of t.inner) t.went (flags_of m.inner ++ m.went ∷ []));
        sound = (c.sound, t.sound, m.sound);
      }

  -- It is marked as it is found to be.
  pub told_link : (condition then_part else_part : Node) (span : Span) (arm rest : List Bool) (bound : Bound) (ready : Bool) → AreArmMarked total modes condition then_part arm bound
      → IsMarked total modes else_part rest bound → is_ready (from total modes (Conditional condition then_part else_part span) bound) ≡ ready
      → Told total modes (Conditional condition then_part else_part span) (arm ++ (rest ++ ready ∷ [])) bound ready
  told_link condition then_part else_part span arm rest bound ready a m is =
      let both = marked_link condition then_part else_part span arm rest bound a m in (
        is,
        (
          record {
            inner = both.inner;
            went = ready;
            fits = both.fits;
            flags_are = sym (append_assoc arm rest (ready ∷ [])) ∙ ap (λ l. l ++ ready ∷ []) both.flags_are;
            sound = part_by total modes (Conditional condition then_part else_part span) both.inner bound ready is both.sound;
          },
          refl,
        ),
      )

  -- What its parts tell of it.

  pub not_by_arm : (condition then_part else_part : Node) (span : Span) (bound : Bound) → is_arm_ready total modes condition then_part bound ≡ false
      → is_ready (from total modes (Conditional condition then_part else_part span) bound) ≡ false
  not_by_arm condition then_part else_part span bound h =
      conditional_ready total modes condition then_part else_part span bound
      ∙ ap (λ b. b && (is_ready (from total modes else_part bound) && arms_agree total modes condition then_part else_part span bound)) h

  pub not_by_else : (condition then_part else_part : Node) (span : Span) (bound : Bound) → is_ready (from total modes else_part bound) ≡ false
      → is_ready (from total modes (Conditional condition then_part else_part span) bound) ≡ false
  not_by_else condition then_part else_part span bound h =
      conditional_ready total modes condition then_part else_part span bound
      ∙ ap (λ b. is_arm_ready total modes condition then_part bound && (b && arms_agree total modes condition then_part else_part span bound)) h
      ∙ and_false (is_arm_ready total modes condition then_part bound)

  pub not_by_agreement : (condition then_part else_part : Node) (span : Span) (bound : Bound) → arms_agree total modes condition then_part else_part span bound ≡ false
      → is_ready (from total modes (Conditional condition then_part else_part span) bound) ≡ false
  not_by_agreement condition then_part else_part span bound h =
      conditional_ready total modes condition then_part else_part span bound
      ∙ ap (λ b. is_arm_ready total modes condition then_part bound && (is_ready (from total modes else_part bound) && b)) h
      ∙ ap (λ b. is_arm_ready total modes condition then_part bound && b) (and_false (is_ready (from total modes else_part bound)))
      ∙ and_false (is_arm_ready total modes condition then_part bound)

  pub by_else : (condition then_part else_part : Node) (span : Span) (bound : Bound) (ready : Bool) → is_arm_ready total modes condition then_part bound ≡ true
      → is_ready (from total modes else_part bound) ≡ ready → arms_agree total modes condition then_part else_part span bound ≡ true
      → is_ready (from total modes (Conditional condition then_part else_part span) bound) ≡ ready
  by_else condition then_part else_part span bound ready arm last h =
      conditional_ready total modes condition then_part else_part span bound
      ∙ ap (λ b. b && (is_ready (from total modes else_part bound) && arms_agree total modes condition then_part else_part span bound)) arm
      ∙ ap (λ b. is_ready (from total modes else_part bound) && b) h ∙ and_true (is_ready (from total modes else_part bound)) ∙ last

  pub by_agreement : (condition then_part else_part : Node) (span : Span) (bound : Bound) (ready : Bool) → is_arm_ready total modes condition then_part bound ≡ true
      → is_ready (from total modes else_part bound) ≡ true → arms_agree total modes condition then_part else_part span bound ≡ ready
      → is_ready (from total modes (Conditional condition then_part else_part span) bound) ≡ ready
  by_agreement condition then_part else_part span bound ready arm last h =
      conditional_ready total modes condition then_part else_part span bound
      ∙ ap (λ b. b && (is_ready (from total modes else_part bound) && arms_agree total modes condition then_part else_part span bound)) arm
      ∙ ap (λ b. b && arms_agree total modes condition then_part else_part span bound) last ∙ h

  -- the two parts of an arm

  pub arm_first : (condition then_part : Node) (flags : List Bool) (bound : Bound) (first : ℕ) → AreArmMarked total modes condition then_part flags bound → first ≡ length (parts_of condition)
      → IsMarked total modes condition (take first flags) bound
  arm_first condition then_part flags bound first a h =
      subst (λ l. IsMarked total modes condition l bound)
      (sym (ap (λ l. take first l) a.flags_are ∙ take_at a.first a.second first (flags_length condition a.first bound a.condition_marked ∙ sym h))) a.condition_marked

  pub arm_second : (condition then_part : Node) (flags : List Bool) (bound : Bound) (first : ℕ) → AreArmMarked total modes condition then_part flags bound → first ≡ length (parts_of condition)
      → IsMarked total modes then_part (drop first flags) (with bound (binds total modes condition))
  arm_second condition then_part flags bound first a h =
      subst (λ l. IsMarked total modes then_part l (with bound (binds total modes condition)))
      (sym (ap (λ l. drop first l) a.flags_are ∙ drop_at a.first a.second first (flags_length condition a.first bound a.condition_marked ∙ sym h))) a.then_marked

  pub both_marked : (condition then_part : Node) (one two : List Bool) (bound : Bound) → IsMarked total modes condition one bound
      → IsMarked total modes then_part two (with bound (binds total modes condition)) → AreArmMarked total modes condition then_part (one ++ two) bound
  both_marked condition then_part one two bound c t = record { first = one; second = two; flags_are = refl; condition_marked = c; then_marked = t }

  -- facts from an index on

  pub record KnownOn (first rest : List Node) (facts : List Facts) (at end : ℕ) : Type 0 where
    pub first_known : AreKnown total modes first (slice_range facts at end)
    pub rest_known : AreKnownFrom total modes rest facts end

  pub known_on : (first rest : List Node) (facts : List Facts) (at end : ℕ) → AreKnownFrom total modes (first ++ rest) facts at → end ≡ at + length first → KnownOn first rest facts at end
  known_on first rest facts at end k h =
      let cut = known_split total modes first rest k.back k.known in
      let long = known_length total modes first cut.front cut.first_known in
      let all : facts ≡ k.front ++ (cut.front ++ cut.back) = k.facts_are ∙ ap (λ l. k.front ++ l) cut.facts_are in
      record {
        first_known = subst (λ l. AreKnown total modes first l)
            (sym (ap (λ l. slice_range l at end) all ∙ middle k.front cut.front cut.back at end k.at_is (ap (λ n. at + n) long ∙ sym h))) cut.first_known;
        rest_known = record {
          front = k.front ++ cut.front;
          back = cut.back;
          at_is = length-append k.front cut.front ∙ ap (λ n. n + length cut.front) k.at_is ∙ ap (λ n. at + n) long ∙ sym h;
          facts_are = all ∙ sym (append_assoc k.front cut.front cut.back);
          known = cut.rest_known;
        };
      }

  pub record KnownHere (goal : Node) (rest : List Node) (facts : List Facts) (at : ℕ) (found : Facts) : Type 0 where
    pub found_known : AreFactsOf total modes goal found
    pub rest_known : AreKnownFrom total modes rest facts (at + 1)

  here_by : (goal : Node) (rest : List Node) (facts front back : List Facts) (at : ℕ) (found : Facts) → length front ≡ at → facts ≡ front ++ back → AreKnown total modes (goal ∷ rest) back
      → found ≡ slice_index_or facts at found → KnownHere goal rest facts at found
  here_by goal rest facts front [] at found h are known is = elim known [ ]
  here_by goal rest facts front (own ∷ back) at found h are (one, known) is =
      let same : found ≡ own = is ∙ ap (λ l. slice_index_or l at found) are ∙ get_or_at front own back found at h in
      record {
        found_known = subst (λ f. AreFactsOf total modes goal f) (sym same) one;
        rest_known = record {
          front = front ++ own ∷ [];
          back = back;
          at_is = length-append front (own ∷ []) ∙ ap (λ n. n + 1) h;
          facts_are = are ∙ sym (append_assoc front (own ∷ []) back);
          known = known;
        };
      }

  pub known_here : (goal : Node) (rest : List Node) (facts : List Facts) (at : ℕ) (found : Facts) → AreKnownFrom total modes (goal ∷ rest) facts at → found ≡ slice_index_or facts at found
      → KnownHere goal rest facts at found
  known_here goal rest facts at found k is = here_by goal rest facts k.front k.back at found k.at_is k.facts_are k.known is

  -- facts of two, from the first on

  pub record KnownBoth (first rest : List Node) (facts : List Facts) (at : ℕ) : Type 0 where
    pub first_known : AreKnown total modes first (take at facts)
    pub rest_known : AreKnown total modes rest (drop at facts)

  pub known_both : (first rest : List Node) (facts : List Facts) (at : ℕ) → AreKnown total modes (first ++ rest) facts → at ≡ length first → KnownBoth first rest facts at
  known_both first rest facts at known h =
      let cut = known_split total modes first rest facts known in
      let long : length cut.front ≡ at = known_length total modes first cut.front cut.first_known ∙ sym h in
      record {
        first_known = subst (λ l. AreKnown total modes first l) (sym (ap (λ l. take at l) cut.facts_are ∙ take_at cut.front cut.back at long)) cut.first_known;
        rest_known = subst (λ l. AreKnown total modes rest l) (sym (ap (λ l. drop at l) cut.facts_are ∙ drop_at cut.front cut.back at long)) cut.rest_known;
      }

  -- What is bound behind the first of two.
  pub bound_by_first : (goal : Node) (rest : List Node) (facts : List Facts) (own : ℕ) (old : List ℕ) (found : Facts) → AreKnown total modes (subgoals goal ++ rest) facts
      → own + 1 ≡ length (parts_of goal) → found ≡ slice_index_or facts own found → among (all_behind old found.binds) ≡ with (among old) (binds total modes goal)
  bound_by_first goal rest facts own old found known h is =
      let cut = known_split total modes (subgoals goal) rest facts known in
      let g = known_goal total modes goal cut.front cut.first_known in
      let long : length cut.front ≡ length (parts_of goal) = known_length total modes (subgoals goal) cut.front cut.first_known ∙ subgoals_length goal in
      let place : length g.inner ≡ own = let one = ap length g.facts_are ∙ length-append g.inner (g.own ∷ []) in omega arith in
      let same : found ≡ g.own =
      is ∙ ap (λ l. slice_index_or l own found) (cut.facts_are ∙ ap (λ l. l ++ cut.back) g.facts_are ∙ append_assoc g.inner (g.own ∷ []) cut.back)
      ∙ get_or_at g.inner g.own cut.back found own place in
      ap (λ (f : Facts). among (all_behind old f.binds)) same ∙ bound_behind total modes goal g.own old g.own_known

  -- An if-then-else that is not marked, with the marks and facts of its two arms.

  pub arm_parts : (condition then_part : Node) (n : ℕ) → n ≡ length (parts_of condition) + length (parts_of then_part) → n ≡ length (subgoals condition ++ subgoals then_part)
  arm_parts condition then_part n h =
      let one = subgoals_length condition in
      let two = subgoals_length then_part in
      let both = length-append (subgoals condition) (subgoals then_part) in
      omega arith

  pub decision_known : (condition then_part else_part : Node) (facts : List Facts) (first : ℕ)
      → AreKnown total modes (all_subgoals (more_nodes condition (more_nodes then_part (more_nodes else_part no_nodes)))) facts
      → first ≡ length (parts_of condition) + length (parts_of then_part) → KnownBoth (subgoals condition ++ subgoals then_part) (subgoals else_part) facts first
  decision_known condition then_part else_part facts first known h =
      known_both (subgoals condition ++ subgoals then_part) (subgoals else_part) facts first
      (subst (λ l. AreKnown total modes l facts)
      (ap (λ l. subgoals condition ++ (subgoals then_part ++ l)) (append-nil (subgoals else_part)) ∙ sym (append_assoc (subgoals condition) (subgoals then_part) (subgoals else_part))) known)
      (arm_parts condition then_part first h)

  pub record DecisionMarked (condition then_part else_part : Node) (flags : List Bool) (first : ℕ) (bound : Bound) : Type 0 where
    pub arm_marked : AreArmMarked total modes condition then_part (take first flags) bound
    pub else_marked : IsMarked total modes else_part (drop first flags) bound

  pub decision_marked : (condition then_part else_part : Node) (span : Span) (flags : List Bool) (first : ℕ) (bound : Bound)
      → AreMarked total modes (Conditional condition then_part else_part span) flags bound → first ≡ length (parts_of condition) + length (parts_of then_part)
      → DecisionMarked condition then_part else_part flags first bound
  decision_marked condition then_part else_part span flags first bound m h =
      let l = link_marked condition then_part else_part span flags bound m in
      let long : length l.arm ≡ first = arm_length condition then_part l.arm bound l.arm_marked ∙ sym h in
      record {
        arm_marked = subst (λ k. AreArmMarked total modes condition then_part k bound) (sym (ap (λ k. take first k) l.flags_are ∙ take_at l.arm l.rest first long)) l.arm_marked;
        else_marked = subst (λ k. IsMarked total modes else_part k bound) (sym (ap (λ k. drop first k) l.flags_are ∙ drop_at l.arm l.rest first long)) l.else_marked;
      }

  -- The condition or the then part is not ready.
  pub decision_by_arm : (condition then_part else_part : Node) (span : Span) (arm rest : List Bool) (bound : Bound) → is_arm_ready total modes condition then_part bound ≡ false
      → AreArmMarked total modes condition then_part arm bound → IsMarked total modes else_part rest bound
      → (is_ready (from total modes (Conditional condition then_part else_part span) bound) ≡ false) × AreMarked total modes (Conditional condition then_part else_part span) (arm ++ rest) bound
  decision_by_arm condition then_part else_part span arm rest bound h a m =
      (not_by_arm condition then_part else_part span bound h, marked_link condition then_part else_part span arm rest bound a m)

  -- They agree: it is ready where the else part is.
  pub decision_by_else : (condition then_part else_part : Node) (span : Span) (arm rest : List Bool) (bound : Bound) (ready : Bool) → is_arm_ready total modes condition then_part bound ≡ true
      → is_ready (from total modes else_part bound) ≡ ready → arms_agree total modes condition then_part else_part span bound ≡ true
      → AreArmMarked total modes condition then_part arm bound → IsMarked total modes else_part rest bound
      → (is_ready (from total modes (Conditional condition then_part else_part span) bound) ≡ ready) × AreMarked total modes (Conditional condition then_part else_part span) (arm ++ rest) bound
  decision_by_else condition then_part else_part span arm rest bound ready arm_is else_is agrees a m =
      (by_else condition then_part else_part span bound ready arm_is else_is agrees, marked_link condition then_part else_part span arm rest bound a m)

  -- where a condition and a then part stand

  pub arm_by_condition : (condition then_part : Node) (bound : Bound) → is_ready (from total modes condition bound) ≡ false → is_arm_ready total modes condition then_part bound ≡ false
  arm_by_condition condition then_part bound h =
      ap (λ b. b && (binds_inside total modes bound (variables condition ++ variables then_part) (variables condition) (binds total modes condition)
      && is_ready (from total modes then_part (with bound (binds total modes condition))))) h

  pub arm_by_owed : (condition then_part : Node) (bound : Bound)
      → binds_inside total modes bound (variables condition ++ variables then_part) (variables condition) (binds total modes condition) ≡ false
      → is_arm_ready total modes condition then_part bound ≡ false
  arm_by_owed condition then_part bound h =
      ap (λ b. is_ready (from total modes condition bound) && (b && is_ready (from total modes then_part (with bound (binds total modes condition))))) h
      ∙ and_false (is_ready (from total modes condition bound))

  pub arm_by_then : (condition then_part : Node) (bound : Bound) (ready : Bool) → is_ready (from total modes condition bound) ≡ true
      → binds_inside total modes bound (variables condition ++ variables then_part) (variables condition) (binds total modes condition) ≡ true
      → is_ready (from total modes then_part (with bound (binds total modes condition))) ≡ ready → is_arm_ready total modes condition then_part bound ≡ ready
  arm_by_then condition then_part bound ready one two h =
      ap (λ b. b && (binds_inside total modes bound (variables condition ++ variables then_part) (variables condition) (binds total modes condition)
      && is_ready (from total modes then_part (with bound (binds total modes condition))))) one
      ∙ ap (λ b. b && is_ready (from total modes then_part (with bound (binds total modes condition)))) two ∙ h
