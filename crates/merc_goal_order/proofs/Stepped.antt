-- What is said of each function that lets the goals of a conjunction go.
use Rattle.std.specs.Prelude.{◌≡◌, ◌≤◌, ◌<◌, ◌+◌, ℕ, zero, suc, Bool, true, false, List, [], ◌∷◌, ◌++◌, length, take, drop, replicate, Result, Ok, Err, refl}
use Rattle.std.specs.List.{slice_range, slice_index_or}
use Rattle.std.proofs.Common.{◌∙◌, ◌⊎◌, ap, sym, subst, arith, set, inl, inr}
use Rattle.std.proofs.lemmas.List.{length-append, append_assoc, drop_at, set_at}
use borrow.Rule.Slice.PartMut.{put_mid}
use Rattle.merc_base.specs.declared.refusal.Fault.{Fault}
use Rattle.merc_base.specs.declared.refusal.Fault.TheVariants.{Refused, NoMemory}
use Rattle.merc_tree.specs.declared.declarations.ModeDecl.{ModeDecl}
use Rattle.merc_goal_tree.specs.Nodes.{Node, Nodes, no_nodes, more_nodes, nodes_of}
use Rattle.merc_goal_tree.specs.Parts.{parts_of, all_parts}
use Rattle.merc_goal_tree.specs.Variables.{variables, all_variables}
use Rattle.merc_order.specs.Bound.{Bound, nothing, with, among}
use Rattle.merc_order.specs.Marks.{Marked, part, unless, kept, move_of, left, IsSound}
use Rattle.merc_order.specs.Moves.{Move}
use Rattle.merc_order.specs.Order.{binds, from, moves}
use Rattle.merc_order.specs.Ordered.{is_ready, Outcomes}
use Rattle.merc_order.specs.Ways.{AllStuck}
use Rattle.merc_order.proofs.MoveLaws.{or_left}
use Rattle.merc_goal_facts.specs.Facts.{AreKnown, AreFactsOf, subgoals, all_subgoals}
use Rattle.merc_goal_facts.specs.Bounds.{all_behind}
use Rattle.merc_goal_facts.specs.Outside.{IsStretch}
use Rattle.merc_goal_facts.specs.declared.facts.Facts.{Facts}
use Rattle.merc_readiness.specs.Asking.{flags_of, joined_by, Fits, more, IsMarked}
use Rattle.merc_readiness.specs.Sweeps.{Extends, AreKnownFrom}
use Rattle.merc_simple_goals.specs.Writing.{Gives}
use Rattle.merc_simple_goals.specs.declared.written.Written.{Written}
use Rattle.merc_goal_order.specs.Agenda.{start_at, Ascends, inside, awaits, IsTaken, AwaitsAgain}
use Rattle.merc_readiness.proofs.Rounds.{head_is}
use Rattle.merc_goal_order.proofs.Positions.{at_is, index_within, variables_next, variables_longer, rest_from}
use Rattle.merc_goal_order.proofs.Stretches.{known_next, next_stretch}
use Rattle.merc_goal_order.specs.Conjuncts.{HasGone, Goes, Stays, GoesIfReady, TellsFirst, Passing, went_at, AskedAreStuck, Amid, AskGives, NextGives}
use Rattle.merc_goal_order.specs.Positions.{variables_before, IsAt, IsPlaced}
use Rattle.merc_goal_order.specs.Walks.{GivesAll, behind_them, all_settled}
use Rattle.merc_goal_order.specs.declared.agenda.Agenda.{Agenda}
use Rattle.merc_goal_order.specs.declared.agenda.Start.{Start}
use Rattle.merc_readiness.proofs.Binding.{next_known, bound_behind}
use Rattle.merc_readiness.proofs.Blank.{inner_marks, all_blank, all_blank_fits, all_blank_flags, all_left, left_sound}
use Rattle.merc_readiness.proofs.Conjunctions.{left_length}
use Rattle.merc_readiness.proofs.Marking.{marks_length, own_mark, middle, put_middle, parts_length, subgoals_end, all_subgoals_length}
use Rattle.merc_goal_order.proofs.Agreeing.{from_same}
use Rattle.merc_goal_order.proofs.Emitted.{none_written, behind_on, written_on}
use Rattle.merc_goal_order.proofs.Resuming.{own_is, agrees, left_before, stuck_before, Apart, apart}
use Rattle.merc_goal_order.proofs.Settling.{settled_goes, told_fault, told_ready}
use Rattle.merc_goal_order.proofs.Wholes.{known_own}

-- a goal's own mark is set
own_by : (goal : Node) (flags front back : List Bool) (own : Bool) (index : ℕ) → flags ≡ front ++ own ∷ back → length front ≡ index → length flags ≡ suc index → length flags ≡ length (parts_of goal)
    → HasGone goal (set flags index true)
own_by goal flags front (first ∷ rest) own index is f l h =
    let one : length flags ≡ length (front ++ own ∷ first ∷ rest) = ap length is in
    absurd (omega (arith, one, f, l, length-append front (own ∷ first ∷ rest)))
own_by goal flags front [] own index is f l h =
    let m = inner_marks goal front (let one = parts_length goal in omega (arith, one, f, l, h)) in
    record {
      inner = m.marked;
      fits = m.fits;
      flags_are = ap (λ k. set k index true) is ∙ set_at front own [] true index f ∙ ap (λ k. k ++ true ∷ []) m.flags_are;
    }

record LastOf (flags : List Bool) (index : ℕ) : Type 0 where
  pub front : List Bool
  pub own : Bool
  pub back : List Bool
  pub is : flags ≡ front ++ own ∷ back
  pub long : length front ≡ index

last_of : (flags : List Bool) (index : ℕ) → index < length flags → LastOf flags index
last_of [] index h = absurd (omega arith)
last_of (first ∷ rest) zero h = record { front = []; own = first; back = rest; is = refl; long = refl }
last_of (first ∷ rest) (suc index) h =
    let l = last_of rest index (omega arith) in
    record { front = first ∷ l.front; own = l.own; back = l.back; is = ap (λ k. first ∷ k) l.is; long = ap suc l.long }

pub gone_by : (goal : Node) (flags : List Bool) (index : ℕ) → length flags ≡ length (parts_of goal) → suc index ≡ length (parts_of goal) → HasGone goal (set flags index true)
gone_by goal flags index h own =
    let l = last_of flags index (omega (arith, h, own)) in
    own_by goal flags l.front l.back l.own index l.is l.long (h ∙ sym own) h

module _ (total : ℕ → ℕ) (modes : ℕ → List ModeDecl) where
  pub own_of : (goal : Node) (facts : List Facts) (own : ℕ) (found : Facts) → AreKnown total modes (subgoals goal) facts → suc own ≡ length (parts_of goal) → found ≡ slice_index_or facts own found
      → AreFactsOf total modes goal found
  own_of goal facts own found known h is =
      let one = parts_length goal in
      let two = all_subgoals_length (joined_by goal) in
      known_own total modes (all_subgoals (joined_by goal)) goal facts own found (subst (λ l. AreKnown total modes l facts) (subgoals_end goal) known) (omega (arith, one, two, h)) is

  -- asked, and not ready
  pub if_stays : (goal : Node) (new : List Bool) (bound after : List ℕ) (written : Written) (ready : Bool)
      → (is_ready (from total modes goal (among bound)) ≡ ready) × ((marked : IsMarked total modes goal new (among bound)) × (marked.went ≡ ready)) → ready ≡ false → after ≡ bound
      → Stays total modes goal new bound after written written
  if_stays goal new bound after written ready (is, (m, went)) not same = record { stuck = is ∙ not; same = refl; same_bound = same; marked = m; went_is = went ∙ not }

  -- asked and ready: it can't be stuck
  pub not_stuck : (goal : Node) (flags : List Bool) (bound after : List ℕ) (ready : Bool) (old mid new : Written) (fault : Fault) → is_ready (from total modes goal (among bound)) ≡ ready → ready ≡ true
      → Gives modes (from total modes goal (among bound)) old mid (Err fault) → GoesIfReady total modes goal flags bound after old new (Err fault)
  not_stuck goal flags bound after ready old mid new (Refused refusal) is told gives = let no : true ≡ false = sym told ∙ sym is ∙ ap is_ready gives in cc
  not_stuck goal flags bound after ready old mid new NoMemory is told gives = tt

  pub if_goes : (goal : Node) (facts : List Facts) (flags : List Bool) (bound mid after : List ℕ) (own : ℕ) (found : Facts) (old new : Written) (done : Unit {0})
      → Gives modes (from total modes goal (among mid)) old new (Ok done) → mid ≡ bound → AreKnown total modes (subgoals goal) facts → suc own ≡ length (parts_of goal)
      → found ≡ slice_index_or facts own found → after ≡ all_behind mid found.binds → length flags ≡ length (parts_of goal)
      → Goes total modes goal (set flags own true) bound after old new
  if_goes goal facts flags bound mid after own found old new done (ordered, is, w) same known h found_is after_is long =
      let k = own_of goal facts own found known h found_is in
      record {
        ordered = ordered;
        outcome = ap (λ b. from total modes goal (among b)) (sym same) ∙ is;
        written = w;
        bound_is = ap among after_is ∙ bound_behind total modes goal found mid k ∙ ap (λ b. with (among b) (binds total modes goal)) same;
        gone = gone_by goal flags own long h;
      }

  -- the first that is left

  record PassApart (goal : Node) (rest : Nodes) (flags : List Bool) (at : ℕ) (those : List Move) : Type 0 where
    pub front : List Bool
    pub gone : Bool
    pub inner : Marked
    pub others : Marked
    pub at_is : length front ≡ at
    pub flags_are : flags ≡ front ++ ((flags_of inner ++ gone ∷ []) ++ flags_of others)
    pub fits_inner : Fits (joined_by goal) inner
    pub fits_others : Fits rest others
    pub left_is : those ≡ kept gone (move_of total modes goal) (left total modes rest others)

  pass_apart_by : (goal : Node) (rest : Nodes) (flags front : List Bool) (at : ℕ) (those : List Move) (marked : Marked) → Fits (more_nodes goal rest) marked → length front ≡ at → flags ≡ front ++ flags_of marked
      → those ≡ left total modes (more_nodes goal rest) marked → PassApart goal rest flags at those
  pass_apart_by goal rest flags front at those marked (more g r gone i o f s) at_is flags_are left_is = record {
    front = front;
    gone = gone;
    inner = i;
    others = o;
    at_is = at_is;
    flags_are = flags_are ∙ ap (λ l. front ++ l) (sym (append_assoc (flags_of i) (gone ∷ []) (flags_of o)));
    fits_inner = f;
    fits_others = s;
    left_is = left_is;
  }

  pass_apart : (goal : Node) (rest : Nodes) (facts : List Facts) (flags : List Bool) (at : ℕ) (all : List ℕ) (place : ℕ) (those : List Move)
      → Passing total modes (more_nodes goal rest) facts flags at all place those → PassApart goal rest flags at those
  pass_apart goal rest facts flags at all place those p = pass_apart_by goal rest flags p.front at those p.marked p.fits p.at_is p.flags_are p.left_is

  pass_mark : (goal : Node) (rest : Nodes) (flags : List Bool) (at own : ℕ) (those : List Move) (o : PassApart goal rest flags at those) → suc own ≡ at + length (parts_of goal)
      → slice_index_or flags own false ≡ o.gone
  pass_mark goal rest flags at own those o h =
      let long = marks_length goal o.inner o.gone o.fits_inner in
      let two = length-append (flags_of o.inner) (o.gone ∷ []) in
      let front = o.at_is in
      ap (λ l. slice_index_or l own false) o.flags_are ∙ own_mark o.front (flags_of o.inner) o.gone (flags_of o.others) own false (omega (arith, long, two, front, h))

  pub first_tells : (goal : Node) (rest : Nodes) (facts : List Facts) (flags : List Bool) (at own : ℕ) (all : List ℕ) (place : ℕ) (those : List Move) (bound : Bound) (old new : Written) (result : Result (Unit {0}) Fault)
      → Passing total modes (more_nodes goal rest) facts flags at all place those → suc own ≡ at + length (parts_of goal) → slice_index_or flags own false ≡ false
      → Gives modes (from total modes goal bound) old new result → TellsFirst modes those bound old new result
  first_tells goal rest facts flags at own all place those bound old new result p h mark gives =
      let o = pass_apart goal rest facts flags at all place those p in
      let gone : o.gone ≡ false = sym (pass_mark goal rest flags at own those o h) ∙ mark in
      subst (λ l. TellsFirst modes l bound old new result) (sym (o.left_is ∙ ap (λ b. kept b (move_of total modes goal) (left total modes rest o.others)) gone)) gives

  pub passing_on : (goal : Node) (rest : Nodes) (facts : List Facts) (flags : List Bool) (at own end : ℕ) (all : List ℕ) (place next : ℕ) (found : Facts) (those : List Move)
      → Passing total modes (more_nodes goal rest) facts flags at all place those → suc own ≡ at + length (parts_of goal) → end ≡ at + length (parts_of goal) → slice_index_or flags own false ≡ true
      → found ≡ slice_index_or facts own found → (place + found.occurrences ≤ length all → next ≡ place + found.occurrences) → Passing total modes rest facts flags end all next those
  passing_on goal rest facts flags at own end all place next found those p h e mark is next_is =
      let o = pass_apart goal rest facts flags at all place those p in
      let gone : o.gone ≡ true = sym (pass_mark goal rest flags at own those o h) ∙ mark in
      let known = known_next total modes goal rest facts at own found p.known h is in
      record {
        front = o.front ++ (flags_of o.inner ++ o.gone ∷ []);
        marked = o.others;
        at_is = length-append o.front (flags_of o.inner ++ o.gone ∷ []) ∙ ap (λ n. n + length (flags_of o.inner ++ o.gone ∷ [])) o.at_is ∙ ap (λ n. at + n) (marks_length goal o.inner o.gone o.fits_inner) ∙ sym e;
        flags_are = o.flags_are ∙ sym (append_assoc o.front (flags_of o.inner ++ o.gone ∷ []) (flags_of o.others));
        fits = o.fits_others;
        left_is = o.left_is ∙ ap (λ b. kept b (move_of total modes goal) (left total modes rest o.others)) gone;
        known = subst (λ n. AreKnownFrom total modes (all_subgoals rest) facts n) (sym e) (next_known total modes goal rest facts at p.known).others_known;
        stretch = next_stretch total modes goal all place next (all_variables rest) found known p.stretch next_is;
      }

  -- none is left

  pub none_told : (facts : List Facts) (flags : List Bool) (at : ℕ) (all : List ℕ) (place : ℕ) (those : List Move) (bound : Bound) (old new : Written) (unit : Unit {0})
      → Passing total modes no_nodes facts flags at all place those → new ≡ old → TellsFirst modes those bound old new (Ok unit)
  none_told facts flags at all place those bound old new unit p same = subst (λ l. TellsFirst modes l bound old new (Ok unit)) (sym p.left_is) same

  -- what is bound behind what was

  since_is : (old new : List ℕ) (mark : ℕ) → Extends old new → mark ≡ length old → new ≡ old ++ drop mark new
  since_is old new mark (extra, is) h = is ∙ ap (λ l. old ++ l) (sym (ap (λ l. drop mark l) is ∙ drop_at old extra mark (sym h)))

  -- the goal of an index is asked

  module _ (goals : List Node) (whole : Outcomes) where
    apart_at : (goal : Node) (rest : List Node) (index at : ℕ) (awaited : ℕ → Bool) (flags : List Bool) (now : Bound) (old written : Written) (count : ℕ) → drop index goals ≡ goal ∷ rest → IsAt goals index at
        → (d : Amid total modes goals whole awaited flags now now old written count) → Apart total modes (nodes_of goals) d.marked index goal at now
    apart_at goal rest index at awaited flags now old written count there is d =
        subst (λ n. Apart total modes (nodes_of goals) d.marked index goal n now) (sym (at_is goals index at is)) (apart total modes goals index goal rest d.marked now there d.fits d.sound)

    mark_is : (goal : Node) (index at own : ℕ) (flags : List Bool) (now : Bound) (marked : Marked) (o : Apart total modes (nodes_of goals) marked index goal at now) → flags ≡ flags_of marked
        → suc own ≡ at + length (parts_of goal) → slice_index_or flags own false ≡ o.gone
    mark_is goal index at own flags now marked o is h =
        let long = marks_length goal o.inner o.gone o.fits in
        let two = length-append (flags_of o.inner) (o.gone ∷ []) in
        let front = o.front_long in
        ap (λ l. slice_index_or l own false) (is ∙ o.flags_are) ∙ own_mark o.front (flags_of o.inner) o.gone o.back own false (omega (arith, long, two, front, h))

    same_goal : (goal other : Node) (rest others : List Node) (index : ℕ) → drop index goals ≡ goal ∷ rest → drop index goals ≡ other ∷ others → goal ≡ other
    same_goal goal other rest others index there is = head_is goal other rest others (sym there ∙ is)

    -- Those that are not awaited are stuck where the goal that was asked is, and the others are as they were.
    stuck_on : (goal : Node) (rest : List Node) (index : ℕ) (awaited later : ℕ → Bool) (marked marks : Marked) (now : Bound) → drop index goals ≡ goal ∷ rest → IsTaken index awaited later
        → AskedAreStuck total modes awaited goals marked now → ((other : ℕ) → (other ≡ index) ⊎ (went_at other marks ≡ went_at other marked))
        → (went_at index marks ≡ false → is_ready (from total modes goal now) ≡ false) → AskedAreStuck total modes later goals marks now
    stuck_on goal rest index awaited later marked marks now there taken stuck same own = λ other one others here not left. by other one others here left (same other) (taken.others other not)
      where
        asked : (other : ℕ) (one : Node) (others : List Node) → drop other goals ≡ one ∷ others → went_at other marks ≡ false → other ≡ index → is_ready (from total modes one now) ≡ false
        asked other one others here left is =
            ap (λ g. is_ready (from total modes g now)) (sym (same_goal goal one rest others index there (ap (λ n. drop n goals) (sym is) ∙ here))) ∙ own (ap (λ n. went_at n marks) (sym is) ∙ left)

        by : (other : ℕ) (one : Node) (others : List Node) → drop other goals ≡ one ∷ others → went_at other marks ≡ false → (other ≡ index) ⊎ (went_at other marks ≡ went_at other marked)
            → (other ≡ index) ⊎ (awaited other ≡ false) → is_ready (from total modes one now) ≡ false
        by other one others here left (inl is) before = asked other one others here left is
        by other one others here left (inr kept_so) (inl is) = asked other one others here left is
        by other one others here left (inr kept_so) (inr before) = stuck other one others here before (sym kept_so ∙ left)

    -- It went before.
    pub member_passes : (goal : Node) (rest : List Node) (index at own : ℕ) (awaited later : ℕ → Bool) (flags : List Bool) (now : Bound) (old written : Written) (count : ℕ) → drop index goals ≡ goal ∷ rest → IsAt goals index at
        → IsTaken index awaited later → Amid total modes goals whole awaited flags now now old written count → suc own ≡ at + length (parts_of goal) → slice_index_or flags own false ≡ true
        → Amid total modes goals whole later flags now now old written count
    member_passes goal rest index at own awaited later flags now old written count there is taken d h mark =
        let o = apart_at goal rest index at awaited flags now old written count there is d in
        let gone : o.gone ≡ true = sym (mark_is goal index at own flags now d.marked o d.flags_are h) ∙ mark in
        record {
          marked = d.marked;
          done = d.done;
          fits = d.fits;
          flags_are = d.flags_are;
          sound = d.sound;
          stuck = stuck_on goal rest index awaited later d.marked d.marked now there taken d.stuck (λ other. inr refl) (λ left. let no : true ≡ false = sym gone ∙ sym o.own ∙ left in cc);
          whole_is = d.whole_is;
          are_written = d.are_written;
          fewer = d.fewer;
        }

    -- It is not asked, since it surely is not ready.
    pub member_waits : (goal : Node) (rest : List Node) (index : ℕ) (awaited later : ℕ → Bool) (flags : List Bool) (now : Bound) (old written : Written) (count : ℕ) → drop index goals ≡ goal ∷ rest
        → IsTaken index awaited later → is_ready (from total modes goal now) ≡ false → Amid total modes goals whole awaited flags now now old written count → Amid total modes goals whole later flags now now old written count
    member_waits goal rest index awaited later flags now old written count there taken stuck d = record {
      marked = d.marked;
      done = d.done;
      fits = d.fits;
      flags_are = d.flags_are;
      sound = d.sound;
      stuck = stuck_on goal rest index awaited later d.marked d.marked now there taken d.stuck (λ other. inr refl) (λ left. stuck);
      whole_is = d.whole_is;
      are_written = d.are_written;
      fewer = d.fewer;
    }

    -- its marks, as they are handed on
    pub member_marks : (goal : Node) (rest : List Node) (index at own end : ℕ) (awaited : ℕ → Bool) (flags : List Bool) (now : Bound) (old written : Written) (count : ℕ) → drop index goals ≡ goal ∷ rest → IsAt goals index at
        → Amid total modes goals whole awaited flags now now old written count → suc own ≡ at + length (parts_of goal) → end ≡ at + length (parts_of goal) → slice_index_or flags own false ≡ false
        → IsMarked total modes goal (slice_range flags at end) now
    member_marks goal rest index at own end awaited flags now old written count there is d h e mark =
        let o = apart_at goal rest index at awaited flags now old written count there is d in
        let gone : o.gone ≡ false = sym (mark_is goal index at own flags now d.marked o d.flags_are h) ∙ mark in
        let long = marks_length goal o.inner o.gone o.fits in
        record {
          inner = o.inner;
          went = o.gone;
          fits = o.fits;
          flags_are = ap (λ l. slice_range l at end) (d.flags_are ∙ o.flags_are) ∙ middle o.front (flags_of o.inner ++ o.gone ∷ []) o.back at end o.front_long (ap (λ n. at + n) long ∙ sym e);
          sound = subst (λ b. part b (is_ready (from total modes goal now) ≡ true) (IsSound total modes goal o.inner now)) (sym gone)
              (subst (λ b. unless b (IsSound total modes goal o.inner now)) gone o.sound);
        }

    -- all marks, where those of the goal are these
    put_there : (goal : Node) (index at size : ℕ) (flags new : List Bool) (now : Bound) (marked inner : Marked) (ready : Bool) (o : Apart total modes (nodes_of goals) marked index goal at now) → flags ≡ flags_of marked
        → size ≡ length (parts_of goal) → new ≡ flags_of inner ++ ready ∷ [] → o.front ++ ((flags_of inner ++ ready ∷ []) ++ o.back) ≡ put_mid at size flags new
    put_there goal index at size flags new now marked inner ready o is s n =
        let long = marks_length goal o.inner o.gone o.fits in
        sym (ap (λ l. put_mid at size l new) (is ∙ o.flags_are)
        ∙ put_middle o.front (flags_of o.inner ++ o.gone ∷ []) o.back new at size o.front_long (long ∙ sym s)
        ∙ ap (λ l. o.front ++ (l ++ o.back)) n)

    -- what is left, where the goal did not go before
    left_with : (goal : Node) (index at : ℕ) (now : Bound) (marked : Marked) (o : Apart total modes (nodes_of goals) marked index goal at now) → o.gone ≡ false
        → left total modes (nodes_of goals) marked ≡ left_before total modes index (nodes_of goals) marked ++ move_of total modes goal ∷ o.others
    left_with goal index at now marked o gone = o.left_is ∙ ap (λ b. left_before total modes index (nodes_of goals) marked ++ kept b (move_of total modes goal) o.others) gone

    -- It was asked and is not ready.
    member_stays : (goal : Node) (rest : List Node) (index at own size : ℕ) (awaited later : ℕ → Bool) (flags new : List Bool) (bound after : List ℕ) (old mid late : Written) (count : ℕ) → drop index goals ≡ goal ∷ rest
        → IsAt goals index at → IsTaken index awaited later → Amid total modes goals whole awaited flags (among bound) (among bound) old mid count → suc own ≡ at + length (parts_of goal) → slice_index_or flags own false ≡ false
        → size ≡ length (parts_of goal) → Stays total modes goal new bound after mid late → Amid total modes goals whole later (put_mid at size flags new) (among after) (among after) old late count
    member_stays goal rest index at own size awaited later flags new bound after old mid late count there is taken d h mark s y =
        let now = among bound in
        let o = apart_at goal rest index at awaited flags now old mid count there is d in
        let gone : o.gone ≡ false = sym (mark_is goal index at own flags now d.marked o d.flags_are h) ∙ mark in
        let m = y.marked in
        let own_sound : IsSound total modes goal m.inner now = subst (λ b. part b (is_ready (from total modes goal now) ≡ true) (IsSound total modes goal m.inner now)) y.went_is m.sound in
        let p = o.put m.inner false m.fits in
        let those : left total modes (nodes_of goals) d.marked ≡ left total modes (nodes_of goals) p.marks = left_with goal index at now d.marked o gone ∙ sym p.left_is in
        subst (λ w. Amid total modes goals whole later (put_mid at size flags new) (among after) (among after) old w count) (sym y.same)
        (subst (λ b. Amid total modes goals whole later (put_mid at size flags new) (among b) (among b) old mid count) (sym y.same_bound)
        (record {
          marked = p.marks;
          done = d.done;
          fits = p.fits;
          flags_are = sym (p.flags_are ∙ put_there goal index at size flags new now d.marked m.inner false o d.flags_are s (m.flags_are ∙ ap (λ b. flags_of m.inner ++ b ∷ []) y.went_is));
          sound = p.sound now (λ variable b. b) own_sound;
          stuck = stuck_on goal rest index awaited later d.marked p.marks now there taken d.stuck p.same (λ left. y.stuck);
          whole_is = subst (λ l. whole ≡ behind_them d.done (all_settled l now)) those d.whole_is;
          are_written = d.are_written;
          fewer = subst (λ l. length l ≤ count) those d.fewer;
        }))

    -- It was asked and is ready: it goes.
    member_goes : (goal : Node) (rest : List Node) (index at own size : ℕ) (awaited later : ℕ → Bool) (flags new : List Bool) (bound after : List ℕ) (old mid late : Written) (less : ℕ) → drop index goals ≡ goal ∷ rest
        → IsAt goals index at → IsTaken index awaited later → Amid total modes goals whole awaited flags (among bound) (among bound) old mid (suc less) → suc own ≡ at + length (parts_of goal)
        → slice_index_or flags own false ≡ false → size ≡ length (parts_of goal) → Goes total modes goal new bound after mid late
        → (amid : Amid total modes goals whole later (put_mid at size flags new) (among bound) (among after) old late less) × (went_at index amid.marked ≡ true)
    member_goes goal rest index at own size awaited later flags new bound after old mid late less there is taken d h mark s y =
        let now = among bound in
        let o = apart_at goal rest index at awaited flags now old mid (suc less) there is d in
        let gone : o.gone ≡ false = sym (mark_is goal index at own flags now d.marked o d.flags_are h) ∙ mark in
        let p = o.put y.gone.inner true y.gone.fits in
        let before = left_before total modes index (nodes_of goals) d.marked in
        let those = left_with goal index at now d.marked o gone in
        let later_left : left total modes (nodes_of goals) p.marks ≡ before ++ o.others = p.left_is in
        let fewer : length (before ++ move_of total modes goal ∷ o.others) ≤ suc less = subst (λ l. length l ≤ suc less) those d.fewer in
        let left_now : length (left total modes (nodes_of goals) p.marks) ≡ length (before ++ o.others) = ap length later_left in
        let stuck = stuck_before total modes index goals d.marked awaited now d.stuck taken.first in (
          record {
            marked = p.marks;
            done = d.done ++ y.ordered ∷ [];
            fits = p.fits;
            flags_are = sym (p.flags_are ∙ put_there goal index at size flags new now d.marked y.gone.inner true o d.flags_are s y.gone.flags_are);
            sound = p.sound (among after) (λ variable b. ap (λ (l : Bound). l variable) y.bound_is ∙ or_left (among bound variable) (binds total modes goal variable) b) tt;
            stuck = stuck_on goal rest index awaited later d.marked p.marks now there taken d.stuck p.same (λ left. let no : true ≡ false = sym p.own ∙ left in cc);
            whole_is = subst (λ l. whole ≡ behind_them d.done (all_settled l now)) those d.whole_is
                ∙ ap (λ x. behind_them d.done x) (settled_goes before o.others (move_of total modes goal) now y.ordered stuck y.outcome)
                ∙ behind_on d.done y.ordered (all_settled (before ++ o.others) (with now (binds total modes goal)))
                ∙ ap (λ b. behind_them (d.done ++ y.ordered ∷ []) (all_settled (before ++ o.others) b)) (sym y.bound_is)
                ∙ ap (λ l. behind_them (d.done ++ y.ordered ∷ []) (all_settled l (among after))) (sym later_left);
            are_written = written_on modes d.done y.ordered old mid late d.are_written y.written;
            fewer = omega (arith, fewer, left_now, length-append before (move_of total modes goal ∷ o.others), length-append before o.others);
          },
          p.own,
        )

    pub member_asked : (goal : Node) (rest : List Node) (index at own size : ℕ) (awaited later : ℕ → Bool) (flags new : List Bool) (bound after : List ℕ) (old mid late : Written) (less : ℕ) → drop index goals ≡ goal ∷ rest
        → IsAt goals index at → IsTaken index awaited later → Amid total modes goals whole awaited flags (among bound) (among bound) old mid (suc less) → suc own ≡ at + length (parts_of goal)
        → slice_index_or flags own false ≡ false → size ≡ length (parts_of goal) → (result : Result Bool Fault) → GoesIfReady total modes goal new bound after mid late result
        → AskGives total modes goals whole index later (put_mid at size flags new) (among bound) (among after) old late less result
    member_asked goal rest index at own size awaited later flags new bound after old mid late less there is taken d h mark s (Ok true) y =
        member_goes goal rest index at own size awaited later flags new bound after old mid late less there is taken d h mark s y
    member_asked goal rest index at own size awaited later flags new bound after old mid late less there is taken d h mark s (Ok false) y =
        member_stays goal rest index at own size awaited later flags new bound after old mid late (suc less) there is taken d h mark s y
    member_asked goal rest index at own size awaited later flags new bound after old mid late less there is taken d h mark s (Err (Refused refusal)) y = y
    member_asked goal rest index at own size awaited later flags new bound after old mid late less there is taken d h mark s (Err NoMemory) y = tt

    -- Those in which a variable occurs that is new are awaited: all others that are left are as stuck as they were.

    awaited_from : (binding start mark : ℕ) (all : List ℕ) (bound after : List ℕ) (agenda new : Agenda) (marked : Marked) → IsStretch total all start (start + length (all_variables (nodes_of goals))) (all_variables (nodes_of goals))
        → length agenda.starts.items ≡ suc (length goals) → ((index : ℕ) → index < length agenda.starts.items → IsPlaced start goals index (start_at agenda.starts.items index).place)
        → AwaitsAgain all binding (drop mark after) agenda new → Extends bound after → mark ≡ length bound → AskedAreStuck total modes (awaits agenda) goals marked (among bound) → went_at binding marked ≡ true
        → AskedAreStuck total modes (awaits new) goals marked (among after)
    awaited_from binding start mark all bound after agenda new marked stretch long placed again extends mark_is stuck gone = λ index goal rest there not left.
        sym (ap is_ready (from_same total modes goal (among bound) (among after)
        (agrees (variables goal) bound (drop mark after) after (since_is bound after mark extends mark_is)
        (λ variable fresh inner. none index goal rest there not left (again.each ascends index variable fresh (ap (λ l. among l variable) (inside_is index goal rest there) ∙ inner))))))
        ∙ stuck index goal rest there (before index (awaits agenda index) refl not) left
      where
        starts : List Start
        starts = agenda.starts.items

        ascends : Ascends starts
        ascends = λ index other h room.
            let one : (start_at starts index).place ≡ start + length (variables_before goals index) = placed index (omega (arith, h, room)) in
            let two : (start_at starts other).place ≡ start + length (variables_before goals other) = placed other room in
            omega (arith, one, two, variables_longer goals index other h)

        inside_is : (index : ℕ) (goal : Node) (rest : List Node) → drop index goals ≡ goal ∷ rest → inside all starts index ≡ variables goal
        inside_is index goal rest there =
            let within = index_within goals index goal rest there in
            let here : (start_at starts index).place ≡ start + length (variables_before goals index) = placed index (omega (arith, within, long)) in
            let next : (start_at starts (suc index)).place ≡ start + length (variables_before goals (suc index)) = placed (suc index) (omega (arith, within, long)) in
            let longer : length (variables_before goals (suc index)) ≡ length (variables_before goals index) + length (variables goal) =
            ap (λ l. length l) (variables_next goals index goal rest there) ∙ length-append (variables_before goals index) (variables goal) in
            let end : (start_at starts (suc index)).place ≡ (start_at starts index).place + length (variables goal) = omega (arith, here, next, longer) in
            ap (λ n. drop (start_at starts index).place (take n all)) end
            ∙ own_is total all (start_at starts index).place goal (all_variables (nodes_of rest)) (rest_from total all start goals rest index (start_at starts index).place goal there here stretch)

        none : (index : ℕ) (goal : Node) (rest : List Node) → drop index goals ≡ goal ∷ rest → awaits new index ≡ false → went_at index marked ≡ false → (index ≡ binding) ⊎ (awaits new index ≡ true) → ⊥
        none index goal rest there not left (inl is) = let no : true ≡ false = sym gone ∙ ap (λ n. went_at n marked) (sym is) ∙ left in cc
        none index goal rest there not left (inr again_so) = let no : true ≡ false = sym again_so ∙ not in cc

        before : (index : ℕ) (was : Bool) → awaits agenda index ≡ was → awaits new index ≡ false → awaits agenda index ≡ false
        before index true is not = let no : true ≡ false = sym (again.more index is) ∙ not in cc
        before index false is not = is

    pub awaited_on : (binding start mark : ℕ) (all : List ℕ) (flags : List Bool) (bound after : List ℕ) (agenda new : Agenda) (old written : Written) (less : ℕ)
        → IsStretch total all start (start + length (all_variables (nodes_of goals))) (all_variables (nodes_of goals))
        → length agenda.starts.items ≡ suc (length goals) → ((index : ℕ) → index < length agenda.starts.items → IsPlaced start goals index (start_at agenda.starts.items index).place)
        → AwaitsAgain all binding (drop mark after) agenda new → Extends bound after → mark ≡ length bound
        → (d : Amid total modes goals whole (awaits agenda) flags (among bound) (among after) old written less) → went_at binding d.marked ≡ true
        → Amid total modes goals whole (awaits new) flags (among after) (among after) old written less
    awaited_on binding start mark all flags bound after agenda new old written less stretch long placed again extends mark_is d gone = record {
      marked = d.marked;
      done = d.done;
      fits = d.fits;
      flags_are = d.flags_are;
      sound = d.sound;
      stuck = awaited_from binding start mark all bound after agenda new d.marked stretch long placed again extends mark_is d.stuck gone;
      whole_is = d.whole_is;
      are_written = d.are_written;
      fewer = d.fewer;
    }

    -- none is awaited

    pub none_awaited : (awaited : ℕ → Bool) (flags : List Bool) (now : Bound) (old written : Written) (count : ℕ) → Amid total modes goals whole awaited flags now now old written count
        → ((index : ℕ) → index < length goals → awaited index ≡ false) → Amid total modes goals whole nothing flags now now old written count
    none_awaited awaited flags now old written count d none = record {
      marked = d.marked;
      done = d.done;
      fits = d.fits;
      flags_are = d.flags_are;
      sound = d.sound;
      stuck = λ index goal rest there not left. d.stuck index goal rest there (none index (index_within goals index goal rest there)) left;
      whole_is = d.whole_is;
      are_written = d.are_written;
      fewer = d.fewer;
    }

    all_before : (those : List Node) (index : ℕ) (marked : Marked) → length those ≤ index → Fits (nodes_of those) marked → left_before total modes index (nodes_of those) marked ≡ left total modes (nodes_of those) marked
    all_before [] zero marked h fits = refl
    all_before [] (suc index) marked h fits = refl
    all_before (first ∷ rest) zero marked h fits = absurd (omega (arith, h))
    all_before (first ∷ rest) (suc index) marked h (more f r went inner others fi fo) = ap (λ l. kept went (move_of total modes first) l) (all_before rest index others (omega (arith, h)) fo)

    none_ready : (awaited : ℕ → Bool) (flags : List Bool) (now : Bound) (old written : Written) (count : ℕ) (d : Amid total modes goals whole awaited flags now now old written count)
        → ((index : ℕ) → awaited index ≡ false) → AllStuck (left total modes (nodes_of goals) d.marked) now
    none_ready awaited flags now old written count d none =
        subst (λ l. AllStuck l now) (all_before goals (length goals) d.marked (omega arith) d.fits) (stuck_before total modes (length goals) goals d.marked awaited now d.stuck (λ other h. none other))

    last_or_stuck : (awaited : ℕ → Bool) (flags : List Bool) (now : Bound) (old written : Written) (count : ℕ) (d : Amid total modes goals whole awaited flags now now old written count)
        → (count ≤ 1) ⊎ ((index : ℕ) → awaited index ≡ false) → (length (left total modes (nodes_of goals) d.marked) ≤ 1) ⊎ AllStuck (left total modes (nodes_of goals) d.marked) now
    last_or_stuck awaited flags now old written count d (inl few) = inl (omega (arith, few, d.fewer))
    last_or_stuck awaited flags now old written count d (inr none) = inr (none_ready awaited flags now old written count d none)

    -- the same, where marks, bound and written are these
    pub amid_at : (awaited : ℕ → Bool) (flags marks : List Bool) (bound known : List ℕ) (old written new : Written) (count : ℕ) → marks ≡ flags → known ≡ bound → new ≡ written
        → Amid total modes goals whole awaited flags (among bound) (among bound) old written count → Amid total modes goals whole awaited marks (among known) (among known) old new count
    amid_at awaited flags marks bound known old written new count flags_is bound_is written_is d =
        subst (λ l. Amid total modes goals whole awaited l (among known) (among known) old new count) (sym flags_is)
        (subst (λ l. Amid total modes goals whole awaited flags (among l) (among l) old new count) (sym bound_is)
        (subst (λ w. Amid total modes goals whole awaited flags (among bound) (among bound) old w count) (sym written_is) d))

    pub end_told : (awaited : ℕ → Bool) (flags : List Bool) (now : Bound) (old mid new : Written) (count : ℕ) (result : Result (Unit {0}) Fault) → Amid total modes goals whole awaited flags now now old mid count
        → (count ≤ 1) ⊎ ((index : ℕ) → awaited index ≡ false)
        → ((marked : Marked) → Fits (nodes_of goals) marked → flags ≡ flags_of marked → TellsFirst modes (left total modes (nodes_of goals) marked) now mid new result) → GivesAll modes whole old new result
    end_told awaited flags now old mid new count (Ok unit) d end tells =
        told_ready modes whole (left total modes (nodes_of goals) d.marked) d.done now unit old mid new (last_or_stuck awaited flags now old mid count d end) (tells d.marked d.fits d.flags_are) d.whole_is d.are_written
    end_told awaited flags now old mid new count (Err fault) d end tells =
        told_fault modes whole (left total modes (nodes_of goals) d.marked) d.done now fault mid new old new (last_or_stuck awaited flags now old mid count d end) (tells d.marked d.fits d.flags_are) d.whole_is

    -- faults that cannot be

    pub next_err : (index : ℕ) (awaited later : ℕ → Bool) (marks flags : List Bool) (before now then : Bound) (old new late : Written) (less : ℕ) (fault : Fault)
        → AskGives total modes goals whole index awaited marks before now old new less (Err fault) → NextGives total modes goals whole later flags then old late less (Err fault)
    next_err index awaited later marks flags before now then old new late less (Refused refusal) gives = absurd gives
    next_err index awaited later marks flags before now then old new late less NoMemory gives = tt

    pub rounds_err : (awaited : ℕ → Bool) (flags : List Bool) (now : Bound) (old new late : Written) (less : ℕ) (fault : Fault) → NextGives total modes goals whole awaited flags now old new less (Err fault)
        → GivesAll modes whole old late (Err fault)
    rounds_err awaited flags now old new late less (Refused refusal) gives = absurd gives
    rounds_err awaited flags now old new late less NoMemory gives = tt

  -- one goal goes each time

  pub rounds_first : (goals : List Node) (awaited : ℕ → Bool) (flags : List Bool) (bound : Bound) (old : Written) (size : ℕ) → flags ≡ replicate size false → size ≡ length (all_parts (nodes_of goals))
      → ((index : ℕ) → awaited index ≡ true) → Amid total modes goals (all_settled (moves total modes (nodes_of goals)) bound) awaited flags bound bound old old (length goals)
  rounds_first goals awaited flags bound old size is s all = record {
    marked = all_blank (nodes_of goals);
    done = [];
    fits = all_blank_fits (nodes_of goals);
    flags_are = is ∙ ap (λ n. replicate n false) s ∙ sym (all_blank_flags (nodes_of goals));
    sound = left_sound total modes (nodes_of goals) bound;
    stuck = λ index goal rest there not left. let no : true ≡ false = sym (all index) ∙ not in cc;
    whole_is = ap (λ l. all_settled l bound) (sym (all_left total modes (nodes_of goals)));
    are_written = none_written modes old;
    fewer = left_length total modes goals (all_blank (nodes_of goals)) (all_blank_fits (nodes_of goals));
  }

  pub fewer_by : (goals : List Node) (whole : Outcomes) (awaited : ℕ → Bool) (flags : List Bool) (now : Bound) (old written : Written) (count other : ℕ) → count ≡ other
      → Amid total modes goals whole awaited flags now now old written count → Amid total modes goals whole awaited flags now now old written other
  fewer_by goals whole awaited flags now old written count other same p = subst (λ n. Amid total modes goals whole awaited flags now now old written n) same p
