-- Arms, and goals in parallel, that are asked from the left.
use Rattle.std.specs.Prelude.{◌≡◌, ◌+◌, ◌&&◌, ℕ, Bool, true, false, List, [], ◌∷◌, ◌++◌, length, refl}
use Rattle.std.specs.List.{slice_range}
use Rattle.std.proofs.Common.{◌∙◌, ap, sym}
use Rattle.std.proofs.lemmas.List.{length-append, append_assoc}
use borrow.Rule.Slice.PartMut.{put_mid}
use Rattle.merc_base.specs.declared.place.Span.{Span}
use Rattle.merc_tree.specs.declared.declarations.ModeDecl.{ModeDecl}
use Rattle.merc_goal_tree.specs.Nodes.{Node, Nodes, Parallel, Disjunction, no_nodes, more_nodes}
use Rattle.merc_goal_tree.specs.Parts.{parts_of}
use Rattle.merc_goal_tree.specs.Variables.{all_variables}
use Rattle.merc_order.specs.Bound.{Bound, with}
use Rattle.merc_order.specs.Faults.{unbound_output}
use Rattle.merc_order.specs.Marks.{Marked, more_marks, part, move_of, IsSound, SoundEach, SoundBeside}
use Rattle.merc_order.specs.Moves.{Move, beside, beside_next, each_from}
use Rattle.merc_order.specs.Order.{agree, arms, binds, from, moves}
use Rattle.merc_order.specs.Ordered.{Ordereds, Outcome, Ready, Stuck, is_ready, Outcomes, AllReady, OneStuck, are_ready, and_all, if_all_ready}
use Rattle.merc_order.proofs.MoveLaws.{then_all-ready}
use Rattle.merc_readiness.specs.Asking.{flags_of, joined_by, Fits, more, IsMarked, AreMarked}
use Rattle.merc_readiness.specs.Sweeps.{DuringArms, DuringBeside}
use Rattle.merc_goal_facts.proofs.Ready.{ready_if, and_true}
use Rattle.merc_readiness.proofs.Marking.{marks_length, middle, put_middle}

first_ready : (outcome : Outcome) (others : Outcomes) → is_ready outcome ≡ true → are_ready (and_all outcome others) ≡ are_ready others
first_ready (Ready goal) others h = then_all-ready goal others
first_ready (Stuck fault) others h = cc

first_stuck : (outcome : Outcome) (others : Outcomes) → is_ready outcome ≡ false → are_ready (and_all outcome others) ≡ false
first_stuck (Ready goal) others h = cc
first_stuck (Stuck fault) others h = refl

beside_ready : (number : ℕ) (move : Move) (rest : List Move) (bound : Bound) (outcome : Outcome) (others : Outcomes) → is_ready outcome ≡ true
    → are_ready (beside_next number move rest bound outcome others) ≡ are_ready others
beside_ready number move rest bound (Ready goal) others h = then_all-ready goal others
beside_ready number move rest bound (Stuck fault) others h = cc

beside_stuck : (number : ℕ) (move : Move) (rest : List Move) (bound : Bound) (outcome : Outcome) (others : Outcomes) → is_ready outcome ≡ false
    → are_ready (beside_next number move rest bound outcome others) ≡ false
beside_stuck number move rest bound (Ready goal) others h = cc
beside_stuck number move rest bound (Stuck fault) others h = refl

ready_all : (outcomes : Outcomes) (made : Ordereds → Outcome) (b : Bool) → ((goals : Ordereds) → is_ready (made goals) ≡ b) → is_ready (if_all_ready outcomes made) ≡ (are_ready outcomes && b)
ready_all (AllReady goals) made b h = h goals
ready_all (OneStuck fault) made b h = refl

and_false : (one : Bool) → (one && false) ≡ false
and_false true = refl
and_false false = refl

module _ (total : ℕ → ℕ) (modes : ℕ → List ModeDecl) where
  disjunction_ready : (goals : Nodes) (span : Span) (bound : Bound) → is_ready (from total modes (Disjunction goals span) bound)
      ≡ (are_ready (each_from (moves total modes goals) bound) && agree total modes bound (all_variables goals) (arms total modes goals))
  disjunction_ready goals span bound =
      ready_all (each_from (moves total modes goals) bound) _ (agree total modes bound (all_variables goals) (arms total modes goals))
      (λ all. ready_if (agree total modes bound (all_variables goals) (arms total modes goals)) _ (unbound_output span))

  parallel_ready : (goals : Nodes) (span : Span) (bound : Bound) → is_ready (from total modes (Parallel goals span) bound) ≡ are_ready (beside 1 (moves total modes goals) bound)
  parallel_ready goals span bound = ready_all (beside 1 (moves total modes goals) bound) _ true (λ all. refl) ∙ and_true (are_ready (beside 1 (moves total modes goals) bound))

  -- The marks of the next goal, taken apart: how they lie.
  pub record NextMarks (goal : Node) (rest : Nodes) (flags : List Bool) (at : ℕ) : Type 0 where
    pub front : List Bool
    pub gone : Bool
    pub inner : Marked
    pub others : Marked
    pub at_is : length front ≡ at
    pub flags_are : flags ≡ front ++ ((flags_of inner ++ gone ∷ []) ++ flags_of others)
    pub fits_inner : Fits (joined_by goal) inner
    pub fits_others : Fits rest others

  abbrev next_marks : (goal : Node) (rest : Nodes) (flags front : List Bool) (at : ℕ) (inner others : Marked) (gone : Bool) → length front ≡ at → flags ≡ front ++ flags_of (more_marks gone inner others)
      → Fits (joined_by goal) inner → Fits rest others → NextMarks goal rest flags at
  next_marks goal rest flags front at inner others gone at_is flags_are f o = record {
    front = front;
    gone = gone;
    inner = inner;
    others = others;
    at_is = at_is;
    flags_are = flags_are ∙ ap (λ l. front ++ l) (sym (append_assoc (flags_of inner) (gone ∷ []) (flags_of others)));
    fits_inner = f;
    fits_others = o;
  }

  next_range : (goal : Node) (rest : Nodes) (flags : List Bool) (at end : ℕ) (n : NextMarks goal rest flags at) → end ≡ at + length (parts_of goal)
      → slice_range flags at end ≡ flags_of n.inner ++ n.gone ∷ []
  next_range goal rest flags at end n h =
      ap (λ l. slice_range l at end) n.flags_are
      ∙ middle n.front (flags_of n.inner ++ n.gone ∷ []) (flags_of n.others) at end n.at_is (ap (λ k. at + k) (marks_length goal n.inner n.gone n.fits_inner) ∙ sym h)

  marked_range : (goal : Node) (rest : Nodes) (flags : List Bool) (at end : ℕ) (bound : Bound) (n : NextMarks goal rest flags at) → end ≡ at + length (parts_of goal)
      → part n.gone (is_ready (from total modes goal bound) ≡ true) (IsSound total modes goal n.inner bound) → IsMarked total modes goal (slice_range flags at end) bound
  marked_range goal rest flags at end bound n h sound =
      record { inner = n.inner; went = n.gone; fits = n.fits_inner; flags_are = next_range goal rest flags at end n h; sound = sound }

  -- all marks, where those of the next goal are these
  next_put : (goal : Node) (rest : Nodes) (flags : List Bool) (at size : ℕ) (new : List Bool) (n : NextMarks goal rest flags at) → size ≡ length (parts_of goal)
      → put_mid at size flags new ≡ n.front ++ (new ++ flags_of n.others)
  next_put goal rest flags at size new n h =
      ap (λ l. put_mid at size l new) n.flags_are
      ∙ put_middle n.front (flags_of n.inner ++ n.gone ∷ []) (flags_of n.others) new at size n.at_is (marks_length goal n.inner n.gone n.fits_inner ∙ sym h)

  -- its marks before those of others
  put_before : (goal : Node) (new : List Bool) (bound : Bound) (m : IsMarked total modes goal new bound) (front : List Bool) (others : Marked)
      → front ++ flags_of (more_marks m.went m.inner others) ≡ front ++ (new ++ flags_of others)
  put_before goal new bound m front others =
      ap (λ l. front ++ l) (sym (append_assoc (flags_of m.inner) (m.went ∷ []) (flags_of others)) ∙ ap (λ l. l ++ flags_of others) (sym m.flags_are))

  new_length : (goal : Node) (new : List Bool) (bound : Bound) (front : List Bool) (at : ℕ) → IsMarked total modes goal new bound → length front ≡ at → length (front ++ new) ≡ at + length (parts_of goal)
  new_length goal new bound front at m h =
      length-append front new ∙ ap (λ n. n + length new) h ∙ ap (λ n. at + n) (ap length m.flags_are ∙ marks_length goal m.inner m.went m.fits)

  -- the arms of a disjunction

  pub record NextArm (goals : Nodes) (bound : Bound) (goal : Node) (rest : Nodes) (flags : List Bool) (at : ℕ) : Type 0 where
    pub next : NextMarks goal rest flags at
    pub sound : part next.gone (is_ready (from total modes goal bound) ≡ true) (IsSound total modes goal next.inner bound)
    pub sound_others : SoundEach total modes rest next.others bound
    pub close : (others : Marked) → Fits (more_nodes goal rest) others → SoundEach total modes (more_nodes goal rest) others bound
        → (whole : Marked) × Fits goals whole × (flags_of whole ≡ next.front ++ flags_of others) × SoundEach total modes goals whole bound
    pub ready : are_ready (each_from (moves total modes goals) bound) ≡ are_ready (each_from (moves total modes (more_nodes goal rest)) bound)

  arm_by : (goals : Nodes) (bound : Bound) (goal : Node) (rest : Nodes) (flags front : List Bool) (at : ℕ) (marked : Marked) → Fits (more_nodes goal rest) marked → length front ≡ at
      → flags ≡ front ++ flags_of marked → SoundEach total modes (more_nodes goal rest) marked bound
      → ((others : Marked) → Fits (more_nodes goal rest) others → SoundEach total modes (more_nodes goal rest) others bound
      → (whole : Marked) × Fits goals whole × (flags_of whole ≡ front ++ flags_of others) × SoundEach total modes goals whole bound)
      → are_ready (each_from (moves total modes goals) bound) ≡ are_ready (each_from (moves total modes (more_nodes goal rest)) bound) → NextArm goals bound goal rest flags at
  arm_by goals bound goal rest flags front at marked (more g r gone inner others f o) at_is flags_are (one, sound) close ready = record {
    next = next_marks goal rest flags front at inner others gone at_is flags_are f o;
    sound = one;
    sound_others = sound;
    close = close;
    ready = ready;
  }

  pub next_arm : (goals : Nodes) (bound : Bound) (goal : Node) (rest : Nodes) (flags : List Bool) (at : ℕ) → DuringArms total modes goals bound (more_nodes goal rest) flags at
      → NextArm goals bound goal rest flags at
  next_arm goals bound goal rest flags at d = arm_by goals bound goal rest flags d.front at d.marked d.fits d.at_is d.flags_are d.sound d.close d.ready

  pub arm_marked : (goals : Nodes) (bound : Bound) (goal : Node) (rest : Nodes) (flags : List Bool) (at end : ℕ) → DuringArms total modes goals bound (more_nodes goal rest) flags at
      → end ≡ at + length (parts_of goal) → IsMarked total modes goal (slice_range flags at end) bound
  arm_marked goals bound goal rest flags at end d h = let n = next_arm goals bound goal rest flags at d in marked_range goal rest flags at end bound n.next h n.sound

  pub arm_on : (goals : Nodes) (bound : Bound) (goal : Node) (rest : Nodes) (flags : List Bool) (at size : ℕ) (new : List Bool) → DuringArms total modes goals bound (more_nodes goal rest) flags at
      → size ≡ length (parts_of goal) → is_ready (from total modes goal bound) ≡ true → IsMarked total modes goal new bound
      → DuringArms total modes goals bound rest (put_mid at size flags new) (at + length (parts_of goal))
  arm_on goals bound goal rest flags at size new d h is m =
      let n = next_arm goals bound goal rest flags at d in
      record {
        front = n.next.front ++ new;
        marked = n.next.others;
        at_is = new_length goal new bound n.next.front at m n.next.at_is;
        flags_are = next_put goal rest flags at size new n.next h ∙ sym (append_assoc n.next.front new (flags_of n.next.others));
        fits = n.next.fits_others;
        sound = n.sound_others;
        close = λ others fits sound.
            let (whole, whole_fits, whole_flags, whole_sound) = n.close (more_marks m.went m.inner others) (more goal rest m.went m.inner others m.fits fits) (m.sound, sound) in
            (whole, whole_fits, whole_flags ∙ put_before goal new bound m n.next.front others ∙ sym (append_assoc n.next.front new (flags_of others)), whole_sound);
        ready = n.ready ∙ first_ready (from total modes goal bound) (each_from (moves total modes rest) bound) is;
      }

  pub arm_stuck : (goals : Nodes) (span : Span) (bound : Bound) (goal : Node) (rest : Nodes) (flags : List Bool) (at size : ℕ) (new : List Bool)
      → DuringArms total modes goals bound (more_nodes goal rest) flags at → size ≡ length (parts_of goal) → is_ready (from total modes goal bound) ≡ false → IsMarked total modes goal new bound
      → (is_ready (from total modes (Disjunction goals span) bound) ≡ false) × AreMarked total modes (Disjunction goals span) (put_mid at size flags new) bound
  arm_stuck goals span bound goal rest flags at size new d h is m =
      let n = next_arm goals bound goal rest flags at d in
      let (whole, whole_fits, whole_flags, whole_sound) =
      n.close (more_marks m.went m.inner n.next.others) (more goal rest m.went m.inner n.next.others m.fits n.next.fits_others) (m.sound, n.sound_others) in (
        disjunction_ready goals span bound
            ∙ ap (λ b. b && agree total modes bound (all_variables goals) (arms total modes goals)) (n.ready ∙ first_stuck (from total modes goal bound) (each_from (moves total modes rest) bound) is),
        record {
          inner = whole;
          fits = whole_fits;
          flags_are = next_put goal rest flags at size new n.next h ∙ sym (whole_flags ∙ put_before goal new bound m n.next.front n.next.others);
          sound = whole_sound;
        },
      )

  pub not_by_arms : (goals : Nodes) (span : Span) (bound : Bound) → agree total modes bound (all_variables goals) (arms total modes goals) ≡ false
      → is_ready (from total modes (Disjunction goals span) bound) ≡ false
  not_by_arms goals span bound h =
      disjunction_ready goals span bound ∙ ap (λ b. are_ready (each_from (moves total modes goals) bound) && b) h ∙ and_false (are_ready (each_from (moves total modes goals) bound))

  pub end_arms : (goals : Nodes) (span : Span) (bound : Bound) (flags : List Bool) (at : ℕ) → DuringArms total modes goals bound no_nodes flags at
      → (is_ready (from total modes (Disjunction goals span) bound) ≡ agree total modes bound (all_variables goals) (arms total modes goals))
      × AreMarked total modes (Disjunction goals span) flags bound
  end_arms goals span bound flags at d =
      let (whole, whole_fits, whole_flags, whole_sound) = d.close d.marked d.fits d.sound in (
        disjunction_ready goals span bound ∙ ap (λ b. b && agree total modes bound (all_variables goals) (arms total modes goals)) d.ready,
        record { inner = whole; fits = whole_fits; flags_are = d.flags_are ∙ sym whole_flags; sound = whole_sound },
      )

  -- goals in parallel

  pub begin_beside : (goals : Nodes) (span : Span) (flags : List Bool) (bound : Bound) → AreMarked total modes (Parallel goals span) flags bound → DuringBeside total modes goals bound goals flags 0 bound
  begin_beside goals span flags bound m = record {
    front = [];
    marked = m.inner;
    number = 1;
    at_is = refl;
    flags_are = m.flags_are;
    fits = m.fits;
    sound = m.sound;
    close = λ others fits sound. (others, fits, refl, sound);
    ready = refl;
  }

  pub record NextBeside (goals : Nodes) (bound : Bound) (goal : Node) (rest : Nodes) (flags : List Bool) (at : ℕ) (now : Bound) : Type 0 where
    pub next : NextMarks goal rest flags at
    pub number : ℕ
    pub sound : part next.gone (is_ready (from total modes goal now) ≡ true) (IsSound total modes goal next.inner now)
    pub sound_others : SoundBeside total modes rest next.others (with now (binds total modes goal))
    pub close : (others : Marked) → Fits (more_nodes goal rest) others → SoundBeside total modes (more_nodes goal rest) others now
        → (whole : Marked) × Fits goals whole × (flags_of whole ≡ next.front ++ flags_of others) × SoundBeside total modes goals whole bound
    pub ready : are_ready (beside 1 (moves total modes goals) bound) ≡ are_ready (beside number (moves total modes (more_nodes goal rest)) now)

  beside_by : (goals : Nodes) (bound : Bound) (goal : Node) (rest : Nodes) (flags front : List Bool) (at number : ℕ) (now : Bound) (marked : Marked) → Fits (more_nodes goal rest) marked
      → length front ≡ at → flags ≡ front ++ flags_of marked → SoundBeside total modes (more_nodes goal rest) marked now
      → ((others : Marked) → Fits (more_nodes goal rest) others → SoundBeside total modes (more_nodes goal rest) others now
      → (whole : Marked) × Fits goals whole × (flags_of whole ≡ front ++ flags_of others) × SoundBeside total modes goals whole bound)
      → are_ready (beside 1 (moves total modes goals) bound) ≡ are_ready (beside number (moves total modes (more_nodes goal rest)) now) → NextBeside goals bound goal rest flags at now
  beside_by goals bound goal rest flags front at number now marked (more g r gone inner others f o) at_is flags_are (one, sound) close ready = record {
    next = next_marks goal rest flags front at inner others gone at_is flags_are f o;
    number = number;
    sound = one;
    sound_others = sound;
    close = close;
    ready = ready;
  }

  pub next_beside : (goals : Nodes) (bound : Bound) (goal : Node) (rest : Nodes) (flags : List Bool) (at : ℕ) (now : Bound) → DuringBeside total modes goals bound (more_nodes goal rest) flags at now
      → NextBeside goals bound goal rest flags at now
  next_beside goals bound goal rest flags at now d = beside_by goals bound goal rest flags d.front at d.number now d.marked d.fits d.at_is d.flags_are d.sound d.close d.ready

  pub beside_marked : (goals : Nodes) (bound : Bound) (goal : Node) (rest : Nodes) (flags : List Bool) (at end : ℕ) (now : Bound) → DuringBeside total modes goals bound (more_nodes goal rest) flags at now
      → end ≡ at + length (parts_of goal) → IsMarked total modes goal (slice_range flags at end) now
  beside_marked goals bound goal rest flags at end now d h = let n = next_beside goals bound goal rest flags at now d in marked_range goal rest flags at end now n.next h n.sound

  pub beside_on : (goals : Nodes) (bound : Bound) (goal : Node) (rest : Nodes) (flags : List Bool) (at size : ℕ) (now : Bound) (new : List Bool)
      → DuringBeside total modes goals bound (more_nodes goal rest) flags at now → size ≡ length (parts_of goal) → is_ready (from total modes goal now) ≡ true → IsMarked total modes goal new now
      → DuringBeside total modes goals bound rest (put_mid at size flags new) (at + length (parts_of goal)) (with now (binds total modes goal))
  beside_on goals bound goal rest flags at size now new d h is m =
      let n = next_beside goals bound goal rest flags at now d in
      record {
        front = n.next.front ++ new;
        marked = n.next.others;
        number = n.number + 1;
        at_is = new_length goal new now n.next.front at m n.next.at_is;
        flags_are = next_put goal rest flags at size new n.next h ∙ sym (append_assoc n.next.front new (flags_of n.next.others));
        fits = n.next.fits_others;
        sound = n.sound_others;
        close = λ others fits sound.
            let (whole, whole_fits, whole_flags, whole_sound) = n.close (more_marks m.went m.inner others) (more goal rest m.went m.inner others m.fits fits) (m.sound, sound) in
            (whole, whole_fits, whole_flags ∙ put_before goal new now m n.next.front others ∙ sym (append_assoc n.next.front new (flags_of others)), whole_sound);
        ready = n.ready
            ∙ beside_ready n.number (move_of total modes goal) (moves total modes rest) now (from total modes goal now) (beside (n.number + 1) (moves total modes rest) (with now (binds total modes goal))) is;
      }

  pub stuck_beside : (goals : Nodes) (span : Span) (bound : Bound) (goal : Node) (rest : Nodes) (flags : List Bool) (at size : ℕ) (now : Bound) (new : List Bool)
      → DuringBeside total modes goals bound (more_nodes goal rest) flags at now → size ≡ length (parts_of goal) → is_ready (from total modes goal now) ≡ false → IsMarked total modes goal new now
      → (is_ready (from total modes (Parallel goals span) bound) ≡ false) × AreMarked total modes (Parallel goals span) (put_mid at size flags new) bound
  stuck_beside goals span bound goal rest flags at size now new d h is m =
      let n = next_beside goals bound goal rest flags at now d in
      let (whole, whole_fits, whole_flags, whole_sound) =
      n.close (more_marks m.went m.inner n.next.others) (more goal rest m.went m.inner n.next.others m.fits n.next.fits_others) (m.sound, n.sound_others) in (
        parallel_ready goals span bound ∙ n.ready
            ∙ beside_stuck n.number (move_of total modes goal) (moves total modes rest) now (from total modes goal now) (beside (n.number + 1) (moves total modes rest) (with now (binds total modes goal))) is,
        record {
          inner = whole;
          fits = whole_fits;
          flags_are = next_put goal rest flags at size new n.next h ∙ sym (whole_flags ∙ put_before goal new now m n.next.front n.next.others);
          sound = whole_sound;
        },
      )

  pub end_beside : (goals : Nodes) (span : Span) (bound : Bound) (flags : List Bool) (at : ℕ) (now : Bound) → DuringBeside total modes goals bound no_nodes flags at now
      → (is_ready (from total modes (Parallel goals span) bound) ≡ true) × AreMarked total modes (Parallel goals span) flags bound
  end_beside goals span bound flags at now d =
      let (whole, whole_fits, whole_flags, whole_sound) = d.close d.marked d.fits d.sound in
      (parallel_ready goals span bound ∙ d.ready, record { inner = whole; fits = whole_fits; flags_are = d.flags_are ∙ sym whole_flags; sound = whole_sound })
