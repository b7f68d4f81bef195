-- A chain of if-then-elses: from the first to the last, and back.
use Rattle.std.specs.Prelude.{◌≡◌, ◌≤◌, ◌<◌, ◌+◌, ◌-◌, ℕ, suc, Bool, true, false, List, [], ◌∷◌, ◌++◌, length, refl}
use Rattle.std.specs.List.{slice_range, slice_index_or}
use Rattle.std.proofs.Common.{◌∙◌, ap, sym, subst, arith, set}
use Rattle.std.proofs.lemmas.List.{length-append, append_assoc, append-nil, set_at}
use borrow.Rule.Slice.PartMut.{put_mid}
use Rattle.merc_base.specs.declared.place.Span.{Span}
use Rattle.merc_tree.specs.declared.declarations.ModeDecl.{ModeDecl}
use Rattle.merc_goal_tree.specs.Nodes.{Node, Conditional}
use Rattle.merc_goal_tree.specs.Parts.{parts_of}
use Rattle.merc_order.specs.Bound.{Bound, are_bound}
use Rattle.merc_order.specs.Marks.{part, IsSound}
use Rattle.merc_order.specs.Order.{from}
use Rattle.merc_order.specs.Ordered.{is_ready}
use Rattle.merc_goal_facts.specs.Facts.{AreKnown, subgoals, AreFactsOf}
use Rattle.merc_goal_facts.specs.Ready.{is_arm_ready}
use Rattle.merc_goal_facts.specs.declared.facts.Facts.{Facts}
use Rattle.merc_readiness.specs.Asking.{flags_of, IsMarked}
use Rattle.merc_readiness.specs.Chains.{Links, no_links, more_links, around, ends, AreArmMarked, AreLinked, none, more, Told, IsOpen, IsReached}
use Rattle.merc_readiness.specs.Sweeps.{AreKnownFrom}
use Rattle.merc_goal_facts.proofs.Ready.{arms_agree}
use Rattle.merc_readiness.proofs.ChainAsks.{arm_parts, link_marked, told_link, not_by_arm, not_by_else, by_agreement, arm_length, flags_length, KnownOn, known_on, known_here}
use Rattle.merc_readiness.proofs.Marking.{marks_length, middle, put_middle, own_mark, subgoals_length}

regroup : {X : Type 0} (before arm own : List X) (x : X) (after : List X) → before ++ ((arm ++ (own ++ x ∷ [])) ++ after) ≡ (before ++ arm) ++ (own ++ x ∷ after)
regroup before arm own x after =
    ap (λ l. before ++ l) (append_assoc arm (own ++ x ∷ []) after ∙ ap (λ l. arm ++ l) (append_assoc own (x ∷ []) after)) ∙ sym (append_assoc before arm (own ++ x ∷ after))

pub conditional_length : (condition then_part else_part : Node) (span : Span) → length (parts_of (Conditional condition then_part else_part span))
    ≡ suc (length (parts_of condition) + length (parts_of then_part) + length (parts_of else_part))
conditional_length condition then_part else_part span = simp length-append (omega arith)

module _ (total : ℕ → ℕ) (modes : ℕ → List ModeDecl) where
  -- Where the last else part is not ready, none of the chain is.
  pub close_stuck : (links : Links) (last : Node) (front own back : List Bool) (bound : Bound) → AreLinked total modes links front back bound → Told total modes last own bound false
      → Told total modes (around links last) (front ++ (own ++ back)) bound false
  close_stuck links last front own back bound (none b) told = subst (λ l. Told total modes last l bound false) (sym (append-nil own)) told
  close_stuck links last front own back bound (more condition then_part span outer before arm after b ready marked linked) (is, (m, went)) =
      subst (λ l. Told total modes (around outer (Conditional condition then_part last span)) l bound false) (regroup before arm own false after)
      (close_stuck outer (Conditional condition then_part last span) before (arm ++ (own ++ false ∷ [])) after bound linked
      (told_link total modes condition then_part last span arm own bound false marked m (not_by_else total modes condition then_part last span bound is)))

  -- the chain at its first goal
  pub begin_chain : (goal : Node) (flags : List Bool) (facts : List Facts) (bound : Bound) → AreKnown total modes (subgoals goal) facts → IsMarked total modes goal flags bound
      → IsOpen total modes goal goal flags facts 0 bound
  begin_chain goal flags facts bound known m = record {
    links = no_links;
    front = [];
    own = flags;
    back = [];
    goal_is = refl;
    at_is = refl;
    flags_are = sym (append-nil flags);
    linked = none bound;
    marked = m;
    known = record { front = []; back = facts; at_is = refl; facts_are = refl; known = subst (λ l. AreKnown total modes l facts) (sym (append-nil (subgoals goal))) known };
  }

  -- The goal that is to be asked is an if-then-else that is not marked, with its parts' marks and facts taken apart.
  pub record OpenLink (goal condition then_part else_part : Node) (span : Span) (flags : List Bool) (facts : List Facts) (at next : ℕ) (bound : Bound) : Type 0 where
    pub links : Links
    pub front : List Bool
    pub arm : List Bool
    pub rest : List Bool
    pub back : List Bool
    pub goal_is : goal ≡ around links (Conditional condition then_part else_part span)
    pub at_is : length front ≡ at
    pub flags_are : flags ≡ front ++ (arm ++ (rest ++ false ∷ back))
    pub linked : AreLinked total modes links front back bound
    pub arm_marked : AreArmMarked total modes condition then_part arm bound
    pub arm_is : at + length arm ≡ next
    pub else_marked : IsMarked total modes else_part rest bound
    pub arm_known : AreKnown total modes (subgoals condition ++ subgoals then_part) (slice_range facts at next)
    pub rest_known : AreKnownFrom total modes (subgoals else_part ++ Conditional condition then_part else_part span ∷ ends links (Conditional condition then_part else_part span)) facts next

  link_parts : (condition then_part else_part : Node) (span : Span) (others : List Node)
      → subgoals (Conditional condition then_part else_part span) ++ others ≡ (subgoals condition ++ subgoals then_part) ++ (subgoals else_part ++ Conditional condition then_part else_part span ∷ others)
  link_parts condition then_part else_part span others =
      append_assoc (subgoals condition ++ subgoals then_part ++ subgoals else_part) (Conditional condition then_part else_part span ∷ []) others
      ∙ append_assoc (subgoals condition ++ subgoals then_part) (subgoals else_part) (Conditional condition then_part else_part span ∷ others)

  opened : (goal condition then_part else_part : Node) (span : Span) (flags : List Bool) (facts : List Facts) (at end next : ℕ) (bound : Bound)
      → IsOpen total modes goal (Conditional condition then_part else_part span) flags facts at bound
      → end ≡ at + length (parts_of (Conditional condition then_part else_part span)) → slice_index_or flags (end - 1) false ≡ false
      → next ≡ at + length (parts_of condition) + length (parts_of then_part) → OpenLink goal condition then_part else_part span flags facts at next bound
  opened goal condition then_part else_part span flags facts at end next bound o end_is mark next_is =
      let link = Conditional condition then_part else_part span in
      let m = o.marked in
      let long = marks_length link m.inner m.went m.fits in
      let split = length-append (flags_of m.inner) (m.went ∷ []) in
      let whole : flags ≡ o.front ++ ((flags_of m.inner ++ m.went ∷ []) ++ o.back) = o.flags_are ∙ ap (λ l. o.front ++ (l ++ o.back)) m.flags_are in
      let front_is = o.at_is in
      let place : length o.front + length (flags_of m.inner) ≡ end - 1 = omega arith in
      let went : m.went ≡ false =
      sym (ap (λ l. slice_index_or l (end - 1) false) whole ∙ own_mark o.front (flags_of m.inner) m.went o.back (end - 1) false place) ∙ mark in
      let parts = link_marked total modes condition then_part else_part span (flags_of m.inner) bound (record {
        inner = m.inner;
        fits = m.fits;
        flags_are = refl;
        sound = subst (λ b. part b (is_ready (from total modes link bound) ≡ true) (IsSound total modes link m.inner bound)) went m.sound;
      }) in
      let arm_long = arm_length total modes condition then_part parts.arm bound parts.arm_marked in
      let known = known_on total modes (subgoals condition ++ subgoals then_part) (subgoals else_part ++ link ∷ ends o.links link) facts at next
      (subst (λ l. AreKnownFrom total modes l facts at) (link_parts condition then_part else_part span (ends o.links link)) o.known)
      (let total_is = arm_parts total modes condition then_part (length (parts_of condition) + length (parts_of then_part)) refl in omega arith) in
      record {
        links = o.links;
        front = o.front;
        arm = parts.arm;
        rest = parts.rest;
        back = o.back;
        goal_is = o.goal_is;
        at_is = o.at_is;
        flags_are = whole ∙ ap (λ b. o.front ++ ((flags_of m.inner ++ b ∷ []) ++ o.back)) went
            ∙ ap (λ l. o.front ++ ((l ++ false ∷ []) ++ o.back)) parts.flags_are
            ∙ ap (λ l. o.front ++ l) (append_assoc (parts.arm ++ parts.rest) (false ∷ []) o.back ∙ append_assoc parts.arm parts.rest (false ∷ o.back));
        linked = o.linked;
        arm_marked = parts.arm_marked;
        arm_is = omega arith;
        else_marked = parts.else_marked;
        arm_known = known.first_known;
        rest_known = known.rest_known;
      }

  pub open_link : (goal last condition then_part else_part : Node) (span : Span) (flags : List Bool) (facts : List Facts) (at end next : ℕ) (bound : Bound)
      → IsOpen total modes goal last flags facts at bound → last ≡ Conditional condition then_part else_part span
      → end ≡ at + length (parts_of last) → slice_index_or flags (end - 1) false ≡ false
      → next ≡ at + length (parts_of condition) + length (parts_of then_part) → OpenLink goal condition then_part else_part span flags facts at next bound
  open_link goal last condition then_part else_part span flags facts at end next bound o last_is end_is mark next_is =
      opened goal condition then_part else_part span flags facts at end next bound (subst (λ n. IsOpen total modes goal n flags facts at bound) last_is o)
      (end_is ∙ ap (λ n. at + length (parts_of n)) last_is) mark next_is

  -- what is handed on of it, and its own facts

  pub arm_marks : (goal condition then_part else_part : Node) (span : Span) (flags : List Bool) (facts : List Facts) (at next : ℕ) (bound : Bound)
      → OpenLink goal condition then_part else_part span flags facts at next bound → AreArmMarked total modes condition then_part (slice_range flags at next) bound
  arm_marks goal condition then_part else_part span flags facts at next bound o =
      subst (λ l. AreArmMarked total modes condition then_part l bound)
      (sym (ap (λ l. slice_range l at next) o.flags_are ∙ middle o.front o.arm (o.rest ++ false ∷ o.back) at next o.at_is o.arm_is)) o.arm_marked

  pub link_facts : (goal condition then_part else_part : Node) (span : Span) (flags : List Bool) (facts : List Facts) (at next own : ℕ) (bound : Bound) (found : Facts)
      → OpenLink goal condition then_part else_part span flags facts at next bound → own ≡ next + length (parts_of else_part) → found ≡ slice_index_or facts own found
      → AreFactsOf total modes (Conditional condition then_part else_part span) found
  link_facts goal condition then_part else_part span flags facts at next own bound found o own_is is =
      let link = Conditional condition then_part else_part span in
      let k = known_on total modes (subgoals else_part) (link ∷ ends o.links link) facts next own o.rest_known (let same = subgoals_length else_part in omega arith) in
      (known_here total modes link (ends o.links link) facts own found k.rest_known is).found_known

  -- all marks, where those of the arm are these
  arm_put : (goal condition then_part else_part : Node) (span : Span) (flags : List Bool) (facts : List Facts) (at next size : ℕ) (bound : Bound) (new : List Bool)
      (o : OpenLink goal condition then_part else_part span flags facts at next bound) → next ≡ at + size
      → put_mid at size flags new ≡ o.front ++ (new ++ (o.rest ++ false ∷ o.back))
  arm_put goal condition then_part else_part span flags facts at next size bound new o h =
      let arm = o.arm_is in
      ap (λ l. put_mid at size l new) o.flags_are ∙ put_middle o.front o.arm (o.rest ++ false ∷ o.back) new at size o.at_is (omega arith)

  -- The arm is not ready.
  pub link_stuck : (goal condition then_part else_part : Node) (span : Span) (flags : List Bool) (facts : List Facts) (at next size : ℕ) (bound : Bound) (new : List Bool)
      → OpenLink goal condition then_part else_part span flags facts at next bound → next ≡ at + size → is_arm_ready total modes condition then_part bound ≡ false
      → AreArmMarked total modes condition then_part new bound → Told total modes goal (put_mid at size flags new) bound false
  link_stuck goal condition then_part else_part span flags facts at next size bound new o h not_ready marked =
      let link = Conditional condition then_part else_part span in
      let told = told_link total modes condition then_part else_part span new o.rest bound false marked o.else_marked (not_by_arm total modes condition then_part else_part span bound not_ready) in
      let all = close_stuck o.links link o.front (new ++ (o.rest ++ false ∷ [])) o.back bound o.linked told in
      let same : o.front ++ ((new ++ (o.rest ++ false ∷ [])) ++ o.back) ≡ put_mid at size flags new =
      ap (λ l. o.front ++ l) (append_assoc new (o.rest ++ false ∷ []) o.back ∙ ap (λ l. new ++ l) (append_assoc o.rest (false ∷ []) o.back))
      ∙ sym (arm_put goal condition then_part else_part span flags facts at next size bound new o h) in
      subst (λ l. Told total modes goal l bound false) same
      (subst (λ n. Told total modes n (o.front ++ ((new ++ (o.rest ++ false ∷ [])) ++ o.back)) bound false) (sym o.goal_is) all)

  -- The arm is ready: the else part is next.
  pub link_on : (goal condition then_part else_part : Node) (span : Span) (flags : List Bool) (facts : List Facts) (at next size : ℕ) (bound : Bound) (new : List Bool)
      → OpenLink goal condition then_part else_part span flags facts at next bound → next ≡ at + size → is_arm_ready total modes condition then_part bound ≡ true
      → AreArmMarked total modes condition then_part new bound → IsOpen total modes goal else_part (put_mid at size flags new) facts next bound
  link_on goal condition then_part else_part span flags facts at next size bound new o h ready marked =
      let new_length = arm_length total modes condition then_part new bound marked in
      let old_length = arm_length total modes condition then_part o.arm bound o.arm_marked in
      let front_is = o.at_is in
      let arm = o.arm_is in
      record {
        links = more_links condition then_part span o.links;
        front = o.front ++ new;
        own = o.rest;
        back = false ∷ o.back;
        goal_is = o.goal_is;
        at_is = length-append o.front new ∙ omega arith;
        flags_are = arm_put goal condition then_part else_part span flags facts at next size bound new o h ∙ sym (append_assoc o.front new (o.rest ++ false ∷ o.back));
        linked = more condition then_part span o.links o.front new o.back bound ready marked o.linked;
        marked = o.else_marked;
        known = o.rest_known;
      }

  -- The last else part: what is handed on of it, and what becomes of the chain.

  pub last_marks : (goal last : Node) (flags : List Bool) (facts : List Facts) (at end : ℕ) (bound : Bound) → IsOpen total modes goal last flags facts at bound → end ≡ at + length (parts_of last)
      → IsMarked total modes last (slice_range flags at end) bound
  last_marks goal last flags facts at end bound o h =
      let long = flags_length total modes last o.own bound o.marked in
      subst (λ l. IsMarked total modes last l bound)
      (sym (ap (λ l. slice_range l at end) o.flags_are ∙ middle o.front o.own o.back at end o.at_is (ap (λ n. at + n) long ∙ sym h))) o.marked

  pub last_facts : (goal last : Node) (flags : List Bool) (facts : List Facts) (at end : ℕ) (bound : Bound) (o : IsOpen total modes goal last flags facts at bound) → end ≡ at + length (parts_of last)
      → KnownOn total modes (subgoals last) (ends o.links last) facts at end
  last_facts goal last flags facts at end bound o h =
      known_on total modes (subgoals last) (ends o.links last) facts at end o.known (let same = subgoals_length last in omega arith)

  last_put : (goal last : Node) (flags : List Bool) (facts : List Facts) (at size : ℕ) (bound : Bound) (new : List Bool) (o : IsOpen total modes goal last flags facts at bound)
      → size ≡ length (parts_of last) → put_mid at size flags new ≡ o.front ++ (new ++ o.back)
  last_put goal last flags facts at size bound new o h =
      let long = flags_length total modes last o.own bound o.marked in
      ap (λ l. put_mid at size l new) o.flags_are ∙ put_middle o.front o.own o.back new at size o.at_is (long ∙ sym h)

  pub last_stuck : (goal last : Node) (flags : List Bool) (facts : List Facts) (at size : ℕ) (bound : Bound) (new : List Bool) → IsOpen total modes goal last flags facts at bound
      → size ≡ length (parts_of last) → Told total modes last new bound false → Told total modes goal (put_mid at size flags new) bound false
  last_stuck goal last flags facts at size bound new o h told =
      subst (λ l. Told total modes goal l bound false) (sym (last_put goal last flags facts at size bound new o h))
      (subst (λ n. Told total modes n (o.front ++ (new ++ o.back)) bound false) (sym o.goal_is) (close_stuck o.links last o.front new o.back bound o.linked told))

  pub last_ready : (goal last : Node) (flags : List Bool) (facts : List Facts) (at end size : ℕ) (bound : Bound) (new : List Bool) → IsOpen total modes goal last flags facts at bound
      → end ≡ at + length (parts_of last) → size ≡ length (parts_of last) → Told total modes last new bound true → IsReached total modes goal (put_mid at size flags new) facts end bound
  last_ready goal last flags facts at end size bound new o end_is h (is, (m, went)) =
      let long = flags_length total modes last new bound m in
      let front_is = o.at_is in
      record {
        links = o.links;
        last = last;
        front = o.front;
        own = new;
        back = o.back;
        goal_is = o.goal_is;
        end_is = length-append o.front new ∙ omega arith;
        flags_are = last_put goal last flags facts at size bound new o h;
        linked = o.linked;
        told = (is, (m, went));
        known = (last_facts goal last flags facts at end bound o end_is).rest_known;
      }

  -- Back: the if-then-else around an else part that is ready.

  on_by : (links : Links) (last : Node) (front own back : List Bool) (facts : List Facts) (at : ℕ) (bound : Bound) (found : Facts) → AreLinked total modes links front back bound
      → Told total modes last own bound true → AreKnownFrom total modes (ends links last) facts at → length (front ++ own) ≡ at → at < length (front ++ (own ++ back))
      → found ≡ slice_index_or facts at found → are_bound bound found.owed ≡ true → IsReached total modes (around links last) (set (front ++ (own ++ back)) at true) facts (at + 1) bound
  on_by links last front own back facts at bound found (none b) told known end_is room is owed =
      absurd (let same = ap length (append-nil own) in omega arith)
  on_by links last front own back facts at bound found (more condition then_part span outer before arm after b ready marked linked) (last_is, (m, went)) known end_is room is owed =
      let link = Conditional condition then_part last span in
      let k = known_here total modes link (ends outer link) facts at found known is in
      let agrees : arms_agree total modes condition then_part last span bound ≡ true = sym (k.found_known.owed_are bound) ∙ owed in
      record {
        links = outer;
        last = link;
        front = before;
        own = arm ++ (own ++ true ∷ []);
        back = after;
        goal_is = refl;
        end_is = ap length (sym (append_assoc before arm (own ++ true ∷ [])) ∙ sym (append_assoc (before ++ arm) own (true ∷ [])))
            ∙ length-append ((before ++ arm) ++ own) (true ∷ []) ∙ ap (λ n. n + 1) end_is;
        flags_are = ap (λ l. set l at true) (sym (append_assoc (before ++ arm) own (false ∷ after)))
            ∙ set_at ((before ++ arm) ++ own) false after true at end_is
            ∙ append_assoc (before ++ arm) own (true ∷ after) ∙ sym (regroup before arm own true after);
        linked = linked;
        told = told_link total modes condition then_part last span arm own bound true marked m (by_agreement total modes condition then_part last span bound true ready last_is agrees);
        known = k.rest_known;
      }

  pub reached_on : (goal : Node) (flags : List Bool) (facts : List Facts) (at : ℕ) (bound : Bound) (found : Facts) → IsReached total modes goal flags facts at bound → at < length flags
      → found ≡ slice_index_or facts at found → are_bound bound found.owed ≡ true → IsReached total modes goal (set flags at true) facts (at + 1) bound
  reached_on goal flags facts at bound found r room is owed =
      subst (λ n. IsReached total modes n (set flags at true) facts (at + 1) bound) (sym r.goal_is)
      (subst (λ l. IsReached total modes (around r.links r.last) (set l at true) facts (at + 1) bound) (sym r.flags_are)
      (on_by r.links r.last r.front r.own r.back facts at bound found r.linked r.told r.known r.end_is (subst (λ l. at < length l) r.flags_are room) is owed))

  stuck_by : (links : Links) (last : Node) (front own back : List Bool) (facts : List Facts) (at : ℕ) (bound : Bound) (found : Facts) → AreLinked total modes links front back bound
      → Told total modes last own bound true → AreKnownFrom total modes (ends links last) facts at → length (front ++ own) ≡ at → at < length (front ++ (own ++ back))
      → found ≡ slice_index_or facts at found → are_bound bound found.owed ≡ false → Told total modes (around links last) (front ++ (own ++ back)) bound false
  stuck_by links last front own back facts at bound found (none b) told known end_is room is owed =
      absurd (let same = ap length (append-nil own) in omega arith)
  stuck_by links last front own back facts at bound found (more condition then_part span outer before arm after b ready marked linked) (last_is, (m, went)) known end_is room is owed =
      let link = Conditional condition then_part last span in
      let k = known_here total modes link (ends outer link) facts at found known is in
      let differs : arms_agree total modes condition then_part last span bound ≡ false = sym (k.found_known.owed_are bound) ∙ owed in
      subst (λ l. Told total modes (around outer link) l bound false) (regroup before arm own false after)
      (close_stuck outer link before (arm ++ (own ++ false ∷ [])) after bound linked
      (told_link total modes condition then_part last span arm own bound false marked m (by_agreement total modes condition then_part last span bound false ready last_is differs)))

  pub reached_stuck : (goal : Node) (flags : List Bool) (facts : List Facts) (at : ℕ) (bound : Bound) (found : Facts) → IsReached total modes goal flags facts at bound → at < length flags
      → found ≡ slice_index_or facts at found → are_bound bound found.owed ≡ false → Told total modes goal flags bound false
  reached_stuck goal flags facts at bound found r room is owed =
      subst (λ n. Told total modes n flags bound false) (sym r.goal_is)
      (subst (λ l. Told total modes (around r.links r.last) l bound false) (sym r.flags_are)
      (stuck_by r.links r.last r.front r.own r.back facts at bound found r.linked r.told r.known r.end_is (subst (λ l. at < length l) r.flags_are room) is owed))

  all_by : (links : Links) (last : Node) (front own back : List Bool) (bound : Bound) → AreLinked total modes links front back bound → Told total modes last own bound true
      → length (front ++ (own ++ back)) ≤ length (front ++ own) → Told total modes (around links last) (front ++ (own ++ back)) bound true
  all_by links last front own back bound (none b) told h = subst (λ l. Told total modes last l bound true) (sym (append-nil own)) told
  all_by links last front own back bound (more condition then_part span outer before arm after b ready marked linked) told h =
      absurd (let one = length-append (before ++ arm) own in let two = length-append (before ++ arm) (own ++ false ∷ after) in let three = length-append own (false ∷ after) in omega arith)

  -- No mark is left.
  pub reached_end : (goal : Node) (flags : List Bool) (facts : List Facts) (at : ℕ) (bound : Bound) → IsReached total modes goal flags facts at bound → length flags ≤ at → Told total modes goal flags bound true
  reached_end goal flags facts at bound r h =
      let end_is = r.end_is in
      subst (λ n. Told total modes n flags bound true) (sym r.goal_is)
      (subst (λ l. Told total modes (around r.links r.last) l bound true) (sym r.flags_are)
      (all_by r.links r.last r.front r.own r.back bound r.linked r.told (let same = ap length r.flags_are in omega arith)))
