-- The goals of a conjunction by their index: the marks of one among those of all, and which stay stuck when another goes.
use Rattle.std.specs.Prelude.{◌≡◌, ◌<◌, ◌+◌, ◌||◌, ℕ, zero, suc, Bool, true, false, List, [], ◌∷◌, ◌++◌, length, take, drop, refl}
use Rattle.std.proofs.Common.{◌∙◌, ◌⊎◌, ap, sym, subst, arith, inl, inr}
use Rattle.std.proofs.Math.Seq.{take-append_seam, drop-append_seam}
use Rattle.std.proofs.lemmas.List.{length-append, append_assoc}
use Rattle.merc_tree.specs.declared.declarations.ModeDecl.{ModeDecl}
use Rattle.merc_goal_tree.specs.Nodes.{Node, Nodes, no_nodes, more_nodes, nodes_of}
use Rattle.merc_goal_tree.specs.Parts.{parts_of, all_parts}
use Rattle.merc_goal_tree.specs.Variables.{variables}
use Rattle.merc_order.specs.Bound.{Bound, Holds, among}
use Rattle.merc_order.specs.Marks.{Marked, no_marks, more_marks, unless, kept, move_of, left, IsSound, SoundLeft}
use Rattle.merc_order.specs.Moves.{Move}
use Rattle.merc_order.specs.Ordered.{is_ready}
use Rattle.merc_order.specs.Ways.{AllStuck}
use Rattle.merc_order.proofs.Marks.{left-more}
use Rattle.merc_goal_facts.specs.Outside.{IsStretch}
use Rattle.merc_readiness.specs.Asking.{flags_of, joined_by, Fits, more}
use Rattle.merc_goal_facts.proofs.Bounds.{among-append, or_false}
use Rattle.merc_readiness.proofs.Marking.{marks_length}
use Rattle.merc_readiness.proofs.Rounds.{deeper, head_is, kept_front, unless_more}
use Rattle.merc_goal_order.proofs.Stretches.{stretch_front}
use Rattle.merc_goal_order.specs.Conjuncts.{went_at, AskedAreStuck}
use Rattle.merc_goal_order.proofs.Agreeing.{Agree}

-- the occurrences in the front of a stretch
front_is : (total : ℕ → ℕ) (all : List ℕ) (start : ℕ) (front : List ℕ) → IsStretch total all start (start + length front) front → drop start (take (start + length front) all) ≡ front
front_is total all start front s =
    let long : start + length front ≡ length (s.before ++ front) = ap (λ n. n + length front) (sym s.start_is) ∙ sym (length-append s.before front) in
    ap (λ l. drop start (take (start + length front) l)) (s.whole ∙ sym (append_assoc s.before front s.after))
    ∙ ap (λ n. drop start (take n ((s.before ++ front) ++ s.after))) long
    ∙ ap (λ l. drop start l) (take-append_seam (s.before ++ front) s.after)
    ∙ ap (λ n. drop n (s.before ++ front)) (sym s.start_is)
    ∙ drop-append_seam s.before front

pub own_is : (total : ℕ → ℕ) (all : List ℕ) (place : ℕ) (goal : Node) (behind : List ℕ) → IsStretch total all place (place + length (variables goal ++ behind)) (variables goal ++ behind)
    → drop place (take (place + length (variables goal)) all) ≡ variables goal
own_is total all place goal behind stretch = front_is total all place (variables goal) (stretch_front total all place (variables goal) behind stretch)

-- The same of these variables is bound, where the new ones do not occur in them.

agree_by : (inside bound new : List ℕ) (variable : ℕ) (fresh : Bool) → among new variable ≡ fresh → ((variable : ℕ) → among new variable ≡ true → among inside variable ≡ true → ⊥)
    → among inside variable ≡ true → among bound variable ≡ (among bound variable || among new variable)
agree_by inside bound new variable true f apart inner = absurd (apart variable f inner)
agree_by inside bound new variable false f apart inner = sym (ap (λ b. among bound variable || b) f ∙ or_false (among bound variable))

pub agrees : (inside bound new after : List ℕ) → after ≡ bound ++ new → ((variable : ℕ) → among new variable ≡ true → among inside variable ≡ true → ⊥) → Agree inside (among bound) (among after)
agrees inside bound new after longer apart = λ variable inner.
    agree_by inside bound new variable (among new variable) refl apart inner ∙ sym (among-append bound new variable) ∙ ap (λ l. among l variable) (sym longer)

module _ (total : ℕ → ℕ) (modes : ℕ → List ModeDecl) where
  -- those that are left of the goals before the one of this index
  abbrev pub left_before : ℕ → Nodes → Marked → List Move
  left_before zero goals marked = []
  left_before (suc index) no_nodes marked = []
  left_before (suc index) (more_nodes first rest) no_marks = []
  left_before (suc index) (more_nodes first rest) (more_marks went inner others) = kept went (move_of total modes first) (left_before index rest others)

  kept_stuck : (went : Bool) (move : Move) (moves : List Move) (now : Bound) → (went ≡ false → is_ready (move.from now) ≡ false) → AllStuck moves now → AllStuck (kept went move moves) now
  kept_stuck true move moves now own stuck = stuck
  kept_stuck false move moves now own stuck = (own refl, stuck)

  -- none of them is ready, where none is awaited
  pub stuck_before : (index : ℕ) (goals : List Node) (marked : Marked) (awaited : ℕ → Bool) (now : Bound) → AskedAreStuck total modes awaited goals marked now → ((other : ℕ) → other < index → awaited other ≡ false)
      → AllStuck (left_before index (nodes_of goals) marked) now
  stuck_before zero goals marked awaited now stuck none = tt
  stuck_before (suc index) [] marked awaited now stuck none = tt
  stuck_before (suc index) (goal ∷ goals) no_marks awaited now stuck none = tt
  stuck_before (suc index) (goal ∷ goals) (more_marks went inner others) awaited now stuck none =
      kept_stuck went (move_of total modes goal) (left_before index (nodes_of goals) others) now (λ left. stuck 0 goal goals refl (none 0 (omega arith)) left)
      (stuck_before index goals others (λ other. awaited (suc other)) now (λ other later rest there not left. stuck (suc other) later rest there not left) (λ other less. none (suc other) (omega (arith, less))))

  -- all marks, where those of the goal of an index are these
  pub record Put (goals : Nodes) (marked : Marked) (index : ℕ) (goal : Node) (front back : List Bool) (others : List Move) (now : Bound) (inner : Marked) (gone : Bool) : Type 0 where
    pub marks : Marked
    pub fits : Fits goals marks
    pub flags_are : flags_of marks ≡ front ++ ((flags_of inner ++ gone ∷ []) ++ back)
    pub left_is : left total modes goals marks ≡ left_before index goals marked ++ kept gone (move_of total modes goal) others
    pub own : went_at index marks ≡ gone
    pub same : (other : ℕ) → (other ≡ index) ⊎ (went_at other marks ≡ went_at other marked)
    pub sound : (later : Bound) → Holds now later → unless gone (IsSound total modes goal inner later) → SoundLeft total modes goals marks later

  -- the marks of the goal of an index taken apart from those before and behind
  pub record Apart (goals : Nodes) (marked : Marked) (index : ℕ) (goal : Node) (at : ℕ) (now : Bound) : Type 0 where
    pub front : List Bool
    pub gone : Bool
    pub inner : Marked
    pub back : List Bool
    pub others : List Move
    pub front_long : length front ≡ at
    pub flags_are : flags_of marked ≡ front ++ ((flags_of inner ++ gone ∷ []) ++ back)
    pub fits : Fits (joined_by goal) inner
    pub sound : unless gone (IsSound total modes goal inner now)
    pub left_is : left total modes goals marked ≡ left_before index goals marked ++ kept gone (move_of total modes goal) others
    pub own : went_at index marked ≡ gone
    pub put : (marks : Marked) (went : Bool) → Fits (joined_by goal) marks → Put goals marked index goal front back others now marks went

  same_behind : (other : ℕ) (one went : Bool) (marks inner behind : Marked) → (other ≡ 0) ⊎ (went_at other (more_marks one marks behind) ≡ went_at other (more_marks went inner behind))
  same_behind zero one went marks inner behind = inl refl
  same_behind (suc other) one went marks inner behind = inr refl

  apart_here : (goal : Node) (rest : Nodes) (now : Bound) (marked : Marked) → Fits (more_nodes goal rest) marked → SoundLeft total modes (more_nodes goal rest) marked now → Apart (more_nodes goal rest) marked 0 goal 0 now
  apart_here goal rest now marked (more g r gone inner behind f fits) (one, sound) = record {
    front = [];
    gone = gone;
    inner = inner;
    back = flags_of behind;
    others = left total modes rest behind;
    front_long = refl;
    flags_are = sym (append_assoc (flags_of inner) (gone ∷ []) (flags_of behind));
    fits = f;
    sound = one;
    left_is = refl;
    own = refl;
    put = λ marks went those. record {
      marks = more_marks went marks behind;
      fits = more goal rest went marks behind those fits;
      flags_are = sym (append_assoc (flags_of marks) (went ∷ []) (flags_of behind));
      left_is = refl;
      own = refl;
      same = λ other. same_behind other went gone marks inner behind;
      sound = λ later holds own. (own, left-more total modes rest behind now later holds sound);
    };
  }

  same_later : (other index : ℕ) (went : Bool) (inner marks behind : Marked) → ((another : ℕ) → (another ≡ index) ⊎ (went_at another marks ≡ went_at another behind))
      → (other ≡ suc index) ⊎ (went_at other (more_marks went inner marks) ≡ went_at other (more_marks went inner behind))
  same_later zero index went inner marks behind same = inr refl
  same_later (suc other) index went inner marks behind same = by (same other)
    where
      by : (other ≡ index) ⊎ (went_at other marks ≡ went_at other behind) → (suc other ≡ suc index) ⊎ (went_at other marks ≡ went_at other behind)
      by (inl is) = inl (ap suc is)
      by (inr is) = inr is

  apart_later : (first goal : Node) (rest : Nodes) (index at all : ℕ) (now : Bound) (went : Bool) (inner behind : Marked) → Fits (joined_by first) inner → unless went (IsSound total modes first inner now)
      → Apart rest behind index goal at now → all ≡ length (parts_of first) + at → Apart (more_nodes first rest) (more_marks went inner behind) (suc index) goal all now
  apart_later first goal rest index at all now went inner behind f sound a all_is = record {
    front = flags_of inner ++ went ∷ a.front;
    gone = a.gone;
    inner = a.inner;
    back = a.back;
    others = a.others;
    front_long = omega (arith, all_is, a.front_long, marks_length first inner went f, length-append (flags_of inner) (went ∷ a.front), length-append (flags_of inner) (went ∷ []));
    flags_are = deeper (flags_of inner) went a.front (flags_of behind) ((flags_of a.inner ++ a.gone ∷ []) ++ a.back) a.flags_are;
    fits = a.fits;
    sound = a.sound;
    left_is = ap (λ l. kept went (move_of total modes first) l) a.left_is ∙ kept_front went (move_of total modes first) (left_before index rest behind) (kept a.gone (move_of total modes goal) a.others);
    own = a.own;
    put = λ marks gone those. let p = a.put marks gone those in record {
      marks = more_marks went inner p.marks;
      fits = more first rest went inner p.marks f p.fits;
      flags_are = deeper (flags_of inner) went a.front (flags_of p.marks) ((flags_of marks ++ gone ∷ []) ++ a.back) p.flags_are;
      left_is = ap (λ l. kept went (move_of total modes first) l) p.left_is ∙ kept_front went (move_of total modes first) (left_before index rest behind) (kept gone (move_of total modes goal) a.others);
      own = p.own;
      same = λ other. same_later other index went inner p.marks behind p.same;
      sound = λ later holds own. (unless_more total modes went first inner now later holds sound, p.sound later holds own);
    };
  }

  pub apart : (goals : List Node) (index : ℕ) (goal : Node) (rest : List Node) (marked : Marked) (now : Bound) → drop index goals ≡ goal ∷ rest → Fits (nodes_of goals) marked
      → SoundLeft total modes (nodes_of goals) marked now → Apart (nodes_of goals) marked index goal (length (all_parts (nodes_of (take index goals)))) now
  apart [] zero goal rest marked now there fits sound = cc
  apart [] (suc index) goal rest marked now there fits sound = cc
  apart (first ∷ others) zero goal rest marked now there fits sound =
      subst (λ g. Apart (nodes_of (first ∷ others)) marked 0 g 0 now) (head_is first goal others rest there) (apart_here first (nodes_of others) now marked fits sound)
  apart (first ∷ others) (suc index) goal rest marked now there (more f r went inner behind fits_inner fits) (one, sound) =
      apart_later first goal (nodes_of others) index (length (all_parts (nodes_of (take index others)))) (length (all_parts (nodes_of (first ∷ take index others)))) now went inner behind fits_inner one
      (apart others index goal rest behind now there fits sound) (length-append (parts_of first) (all_parts (nodes_of (take index others))))
