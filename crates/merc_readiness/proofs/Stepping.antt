-- A goal of a conjunction is asked that did not go, whichever it is.
use Rattle.std.specs.Prelude.{◌≡◌, ◌==◌, ◌+◌, ℕ, suc, Bool, true, false, not, List, [], ◌∷◌, ◌++◌, length, drop, refl}
use Rattle.std.specs.List.{slice_range, slice_index_or}
use Rattle.std.proofs.Common.{◌∙◌, ap, sym, subst, arith, eqb-true}
use Rattle.std.proofs.lemmas.Bool.{eqb-false}
use borrow.Rule.Slice.PartMut.{put_mid}
use Rattle.merc_tree.specs.declared.declarations.ModeDecl.{ModeDecl}
use Rattle.merc_goal_tree.specs.Nodes.{Node, Nodes, more_nodes, nodes_of}
use Rattle.merc_goal_tree.specs.Parts.{parts_of}
use Rattle.merc_order.specs.Bound.{Bound, with, among, Holds}
use Rattle.merc_order.specs.Marks.{Marked, part, unless, kept, move_of, left, IsSound}
use Rattle.merc_order.specs.Moves.{Move}
use Rattle.merc_order.specs.Order.{binds, from, moves}
use Rattle.merc_order.specs.Ordered.{is_ready}
use Rattle.merc_order.specs.Ways.{Removed, here, later, Went, went}
use Rattle.merc_order.proofs.MoveLaws.{or_left}
use Rattle.merc_goal_facts.specs.Facts.{AreKnown, subgoals, all_subgoals}
use Rattle.merc_goal_facts.specs.Bounds.{all_behind}
use Rattle.merc_goal_facts.specs.declared.facts.Facts.{Facts}
use Rattle.merc_readiness.specs.Asking.{flags_of, IsMarked}
use Rattle.merc_readiness.specs.Sweeps.{AreGone, AreKnownFrom, new_one, IsPlaced, times, times_left}
use Rattle.merc_readiness.specs.declared.waiting.Waiting.{Waiting}
use Rattle.merc_readiness.proofs.Binding.{next_known, own_facts, bound_behind}
use Rattle.merc_readiness.proofs.Marking.{marks_length, middle, put_middle}
use Rattle.merc_readiness.proofs.Rounds.{Apart, apart}
use Rattle.merc_readiness.proofs.Listed.{times-append, new_same, new_other, one_more}

removed_middle : (before others : List Move) (move : Move) → Removed move (before ++ move ∷ others) (before ++ others)
removed_middle [] others move = here move others
removed_middle (first ∷ before) others move = later first move (before ++ move ∷ others) (before ++ others) (removed_middle before others move)

-- those that are listed are left where one of them is asked again, or went

left_still_by : (marked marks : Marked) (index other : ℕ) (same : Bool) → (index == other) ≡ same → times_left index marks ≡ times_left index marked
    → ((another : ℕ) → (index ≡ another → ⊥) → times_left another marks ≡ times_left another marked) → times_left other marks ≡ times_left other marked
left_still_by marked marks index other true is own others = subst (λ n. times_left n marks ≡ times_left n marked) (eqb-true index other is) own
left_still_by marked marks index other false is own others = others other (eqb-false index other is)

left_less_by : (marks : Marked) (listed : List Waiting) (index other : ℕ) (same : Bool) → (index == other) ≡ same → times index listed ≡ times_left index marks
    → ((index ≡ other → ⊥) → times other listed ≡ times_left other marks) → times other listed ≡ times_left other marks
left_less_by marks listed index other true is own others = subst (λ n. times n listed ≡ times_left n marks) (eqb-true index other is) own
left_less_by marks listed index other false is own others = others (eqb-false index other is)

times_middle : (index : ℕ) (before behind : List Waiting) (waiting : Waiting) → times index (before ++ waiting ∷ behind) ≡ times index (waiting ∷ []) + times index (before ++ behind)
times_middle index before behind waiting = omega (arith, times-append index before (waiting ∷ behind), times-append index before behind)

module _ (total : ℕ → ℕ) (modes : ℕ → List ModeDecl) (goals : List Node) (start : Bound) (waiting : Waiting) (goal : Node) where
  -- all marks and those of the goal that is asked, which is listed between others
  pub record Asking (flags : List Bool) (now : Bound) (before behind : List Waiting) (at : ℕ) : Type 0 where
    pub gone : AreGone total modes (nodes_of goals) start flags now (before ++ waiting ∷ behind)
    pub own : Apart total modes (nodes_of goals) gone.marked waiting.index goal at now
    pub not_gone : own.gone ≡ false
    pub no_other : times waiting.index (before ++ behind) ≡ 0

  pub asking : (rest : List Node) (flags : List Bool) (now : Bound) (before behind : List Waiting) (at : ℕ) → drop waiting.index goals ≡ goal ∷ rest → IsPlaced goals waiting → waiting.at ≡ at
      → AreGone total modes (nodes_of goals) start flags now (before ++ waiting ∷ behind) → Asking flags now before behind at
  asking rest flags now before behind at there (room, placed) at_is g =
      let a = subst (λ n. Apart total modes (nodes_of goals) g.marked waiting.index goal n now) (sym placed ∙ at_is) (apart total modes goals waiting.index goal rest g.marked now there g.fits g.sound) in
      let one = one_more a.gone (times waiting.index (before ++ behind))
      (omega (arith, times_middle waiting.index before behind waiting, new_same waiting.index waiting.index refl, g.are_left waiting.index, a.own_is)) in
      record { gone = g; own = a; not_gone = one.0; no_other = one.1 }

  -- its marks, as they are handed on
  pub marks_of : (flags : List Bool) (now : Bound) (before behind : List Waiting) (at end : ℕ) (a : Asking flags now before behind at) → end ≡ at + length (parts_of goal)
      → IsMarked total modes goal (slice_range flags at end) now
  marks_of flags now before behind at end a e =
      let o = a.own in
      let long = marks_length goal o.inner o.gone o.fits in
      record {
        inner = o.inner;
        went = o.gone;
        fits = o.fits;
        flags_are = ap (λ l. slice_range l at end) (a.gone.flags_are ∙ o.flags_are) ∙ middle o.front (flags_of o.inner ++ o.gone ∷ []) o.back at end o.front_long (ap (λ n. at + n) long ∙ sym e);
        sound = subst (λ b. part b (is_ready (from total modes goal now) ≡ true) (IsSound total modes goal o.inner now)) (sym a.not_gone)
            (subst (λ b. unless b (IsSound total modes goal o.inner now)) a.not_gone o.sound);
      }

  -- all marks, where those of the goal are these
  put_there : (flags new : List Bool) (now : Bound) (before behind : List Waiting) (at size : ℕ) (a : Asking flags now before behind at) (m : IsMarked total modes goal new now) (ready : Bool)
      → size ≡ length (parts_of goal) → m.went ≡ ready → put_mid at size flags new ≡ a.own.front ++ ((flags_of m.inner ++ ready ∷ []) ++ a.own.back)
  put_there flags new now before behind at size a m ready s went_is =
      let o = a.own in
      let long = marks_length goal o.inner o.gone o.fits in
      ap (λ l. put_mid at size l new) (a.gone.flags_are ∙ o.flags_are)
      ∙ put_middle o.front (flags_of o.inner ++ o.gone ∷ []) o.back new at size o.front_long (long ∙ sym s)
      ∙ ap (λ l. o.front ++ (l ++ o.back)) (m.flags_are ∙ ap (λ b. flags_of m.inner ++ b ∷ []) went_is)

  sound_by : (inner : Marked) (now : Bound) (gone : Bool) → gone ≡ false → part gone (is_ready (from total modes goal now) ≡ true) (IsSound total modes goal inner now) → IsSound total modes goal inner now
  sound_by inner now gone h sound = subst (λ b. part b (is_ready (from total modes goal now) ≡ true) (IsSound total modes goal inner now)) h sound

  moves_are : (flags : List Bool) (now : Bound) (before behind : List Waiting) (at : ℕ) (a : Asking flags now before behind at)
      → left total modes (nodes_of goals) a.gone.marked ≡ a.own.before ++ move_of total modes goal ∷ a.own.behind
  moves_are flags now before behind at a = a.own.left_is ∙ ap (λ b. a.own.before ++ kept b (move_of total modes goal) a.own.behind) a.not_gone

  -- It is not ready: it is left as it was.
  pub stays_there : (flags new : List Bool) (now : Bound) (before behind : List Waiting) (at size : ℕ) (a : Asking flags now before behind at) (m : IsMarked total modes goal new now)
      → size ≡ length (parts_of goal) → m.went ≡ false → AreGone total modes (nodes_of goals) start (put_mid at size flags new) now (before ++ waiting ∷ behind)
  stays_there flags new now before behind at size a m s went_is =
      let p = a.own.put m.inner false m.fits in
      record {
        marked = p.marks;
        fits = p.fits;
        flags_are = put_there flags new now before behind at size a m false s went_is ∙ sym p.flags_are;
        way = subst (λ l. Went (moves total modes (nodes_of goals)) start l now) (moves_are flags now before behind at a ∙ sym p.left_is) a.gone.way;
        sound = p.sound now (λ variable h. h) (sound_by m.inner now m.went went_is m.sound);
        are_left = λ other. a.gone.are_left other
            ∙ sym (left_still_by a.gone.marked p.marks waiting.index other (waiting.index == other) refl
            (p.own_is ∙ sym (a.own.own_is ∙ ap (λ b. new_one (not b)) a.not_gone)) p.same);
      }

  -- It is ready: it goes.
  pub goes_there : (flags new : List Bool) (now : Bound) (before behind : List Waiting) (at size : ℕ) (a : Asking flags now before behind at) (m : IsMarked total modes goal new now)
      → size ≡ length (parts_of goal) → m.went ≡ true → is_ready (from total modes goal now) ≡ true
      → AreGone total modes (nodes_of goals) start (put_mid at size flags new) (with now (binds total modes goal)) (before ++ behind)
  goes_there flags new now before behind at size a m s went_is ready =
      let p = a.own.put m.inner true m.fits in
      let holds_now : Holds now (with now (binds total modes goal)) = λ variable h. or_left (now variable) (binds total modes goal variable) h in
      record {
        marked = p.marks;
        fits = p.fits;
        flags_are = put_there flags new now before behind at size a m true s went_is ∙ sym p.flags_are;
        way = subst (λ l. Went (moves total modes (nodes_of goals)) start l (with now (binds total modes goal))) (sym p.left_is)
            (went (moves total modes (nodes_of goals)) (a.own.before ++ move_of total modes goal ∷ a.own.behind) (a.own.before ++ a.own.behind) start now (move_of total modes goal)
            (subst (λ l. Went (moves total modes (nodes_of goals)) start l now) (moves_are flags now before behind at a) a.gone.way)
            (removed_middle a.own.before a.own.behind (move_of total modes goal)) ready);
        sound = p.sound (with now (binds total modes goal)) holds_now tt;
        are_left = λ other. left_less_by p.marks (before ++ behind) waiting.index other (waiting.index == other) refl (a.no_other ∙ sym p.own_is)
            (λ not_same. omega (arith, times_middle other before behind waiting, new_other waiting.index other not_same, a.gone.are_left other, p.same other not_same));
      }

-- the facts of the next goal, as they are handed on
pub facts_of_next : (total : ℕ → ℕ) (modes : ℕ → List ModeDecl) (goal : Node) (rest : Nodes) (facts : List Facts) (at end : ℕ) → AreKnownFrom total modes (all_subgoals (more_nodes goal rest)) facts at
    → end ≡ at + length (parts_of goal) → AreKnown total modes (subgoals goal) (slice_range facts at end)
facts_of_next total modes goal rest facts at end known e =
    let k = next_known total modes goal rest facts at known in
    subst (λ l. AreKnown total modes (subgoals goal) l)
    (sym (ap (λ l. slice_range l at end) k.facts_are ∙ middle k.front (k.inner ++ k.own ∷ []) k.back at end k.at_is (ap (λ n. at + n) k.goal_length ∙ sym e))) k.goal_known

-- what is bound behind the next goal
pub bound_by_next : (total : ℕ → ℕ) (modes : ℕ → List ModeDecl) (goal : Node) (rest : Nodes) (facts : List Facts) (at own : ℕ) (old : List ℕ) (found : Facts)
    → AreKnownFrom total modes (all_subgoals (more_nodes goal rest)) facts at → suc own ≡ at + length (parts_of goal) → found ≡ slice_index_or facts own found
    → among (all_behind old found.binds) ≡ with (among old) (binds total modes goal)
bound_by_next total modes goal rest facts at own old found known own_is found_is =
    let k = next_known total modes goal rest facts at known in
    let same : found ≡ k.own = found_is ∙ own_facts total modes goal rest facts at own found k own_is in
    ap (λ (f : Facts). among (all_behind old f.binds)) same ∙ bound_behind total modes goal k.own old k.own_known
