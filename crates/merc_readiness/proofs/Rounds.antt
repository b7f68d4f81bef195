-- The marks of a conjunction's goals, of which one is taken apart.
use Rattle.std.specs.Prelude.{◌≡◌, ◌+◌, ℕ, zero, suc, Bool, true, false, not, List, [], ◌∷◌, ◌++◌, length, take, drop, refl}
use Rattle.std.proofs.Common.{◌∙◌, ap, sym, subst, arith}
use Rattle.std.proofs.lemmas.List.{length-append, append_assoc}
use Rattle.merc_tree.specs.declared.declarations.ModeDecl.{ModeDecl}
use Rattle.merc_goal_tree.specs.Nodes.{Node, Nodes, more_nodes, nodes_of}
use Rattle.merc_goal_tree.specs.Parts.{parts_of, all_parts}
use Rattle.merc_order.specs.Bound.{Bound, Holds}
use Rattle.merc_order.specs.Marks.{Marked, more_marks, unless, kept, move_of, left, IsSound, SoundLeft}
use Rattle.merc_order.specs.Moves.{Move}
use Rattle.merc_order.proofs.Marks.{sound-more, left-more}
use Rattle.merc_readiness.specs.Asking.{flags_of, joined_by, Fits, more}
use Rattle.merc_readiness.specs.Sweeps.{new_one, times_left}
use Rattle.merc_readiness.proofs.Marking.{marks_length}

pub head_is : (one other : Node) (rest others : List Node) → one ∷ rest ≡ other ∷ others → one ≡ other
head_is one other rest others same = cc

pub kept_front : (went : Bool) (move : Move) (front back : List Move) → kept went move (front ++ back) ≡ kept went move front ++ back
kept_front true move front back = refl
kept_front false move front back = refl

pub deeper : (front : List Bool) (went : Bool) (those flags back : List Bool) → flags ≡ those ++ back → front ++ went ∷ flags ≡ (front ++ went ∷ those) ++ back
deeper front went those flags back is = ap (λ l. front ++ went ∷ l) is ∙ sym (append_assoc front (went ∷ those) back)

module _ (total : ℕ → ℕ) (modes : ℕ → List ModeDecl) where
  -- all marks, where those of the goal of an index are these
  pub record Put (goals : Nodes) (marked : Marked) (index : ℕ) (goal : Node) (front back : List Bool) (before behind : List Move) (now : Bound) (inner : Marked) (gone : Bool) : Type 0 where
    pub marks : Marked
    pub fits : Fits goals marks
    pub flags_are : flags_of marks ≡ front ++ ((flags_of inner ++ gone ∷ []) ++ back)
    pub left_is : left total modes goals marks ≡ before ++ kept gone (move_of total modes goal) behind
    pub own_is : times_left index marks ≡ new_one (not gone)
    pub same : (other : ℕ) → (index ≡ other → ⊥) → times_left other marks ≡ times_left other marked
    pub sound : (later : Bound) → Holds now later → unless gone (IsSound total modes goal inner later) → SoundLeft total modes goals marks later

  -- the marks of the goal of an index taken apart from those before and behind
  pub record Apart (goals : Nodes) (marked : Marked) (index : ℕ) (goal : Node) (at : ℕ) (now : Bound) : Type 0 where
    pub front : List Bool
    pub gone : Bool
    pub inner : Marked
    pub back : List Bool
    pub before : List Move
    pub behind : List Move
    pub front_long : length front ≡ at
    pub flags_are : flags_of marked ≡ front ++ ((flags_of inner ++ gone ∷ []) ++ back)
    pub fits : Fits (joined_by goal) inner
    pub sound : unless gone (IsSound total modes goal inner now)
    pub left_is : left total modes goals marked ≡ before ++ kept gone (move_of total modes goal) behind
    pub own_is : times_left index marked ≡ new_one (not gone)
    pub put : (marks : Marked) (went : Bool) → Fits (joined_by goal) marks → Put goals marked index goal front back before behind now marks went

  same_behind : (gone went : Bool) (inner marks others : Marked) (other : ℕ) → (0 ≡ other → ⊥) → times_left other (more_marks went marks others) ≡ times_left other (more_marks gone inner others)
  same_behind gone went inner marks others zero not_same = absurd (not_same refl)
  same_behind gone went inner marks others (suc other) not_same = refl

  apart_here : (goal : Node) (rest : Nodes) (now : Bound) (marked : Marked) → Fits (more_nodes goal rest) marked → SoundLeft total modes (more_nodes goal rest) marked now
      → Apart (more_nodes goal rest) marked 0 goal 0 now
  apart_here goal rest now marked (more g r gone inner others f fits) (one, sound) = record {
    front = [];
    gone = gone;
    inner = inner;
    back = flags_of others;
    before = [];
    behind = left total modes rest others;
    front_long = refl;
    flags_are = sym (append_assoc (flags_of inner) (gone ∷ []) (flags_of others));
    fits = f;
    sound = one;
    left_is = refl;
    own_is = refl;
    put = λ marks went those. record {
      marks = more_marks went marks others;
      fits = more goal rest went marks others those fits;
      flags_are = sym (append_assoc (flags_of marks) (went ∷ []) (flags_of others));
      left_is = refl;
      own_is = refl;
      same = λ other not_same. same_behind gone went inner marks others other not_same;
      sound = λ later holds own. (own, left-more total modes rest others now later holds sound);
    };
  }

  pub unless_more : (went : Bool) (goal : Node) (inner : Marked) (now later : Bound) → Holds now later → unless went (IsSound total modes goal inner now) → unless went (IsSound total modes goal inner later)
  unless_more true goal inner now later holds sound = tt
  unless_more false goal inner now later holds sound = sound-more total modes goal inner now later holds sound

  same_deeper : (went : Bool) (inner one others : Marked) (index other : ℕ) → (suc index ≡ other → ⊥) → ((another : ℕ) → (index ≡ another → ⊥) → times_left another one ≡ times_left another others)
      → times_left other (more_marks went inner one) ≡ times_left other (more_marks went inner others)
  same_deeper went inner one others index zero not_same same = refl
  same_deeper went inner one others index (suc other) not_same same = same other (λ e. not_same (ap suc e))

  apart_later : (first goal : Node) (rest : Nodes) (index at all : ℕ) (now : Bound) (went : Bool) (inner others : Marked) → Fits (joined_by first) inner → unless went (IsSound total modes first inner now)
      → Apart rest others index goal at now → all ≡ length (parts_of first) + at → Apart (more_nodes first rest) (more_marks went inner others) (suc index) goal all now
  apart_later first goal rest index at all now went inner others f sound a all_is = record {
    front = flags_of inner ++ went ∷ a.front;
    gone = a.gone;
    inner = a.inner;
    back = a.back;
    before = kept went (move_of total modes first) a.before;
    behind = a.behind;
    front_long = omega (arith, all_is, a.front_long, marks_length first inner went f, length-append (flags_of inner) (went ∷ a.front), length-append (flags_of inner) (went ∷ []));
    flags_are = deeper (flags_of inner) went a.front (flags_of others) ((flags_of a.inner ++ a.gone ∷ []) ++ a.back) a.flags_are;
    fits = a.fits;
    sound = a.sound;
    left_is = ap (λ l. kept went (move_of total modes first) l) a.left_is ∙ kept_front went (move_of total modes first) a.before (kept a.gone (move_of total modes goal) a.behind);
    own_is = a.own_is;
    put = λ marks gone those. let p = a.put marks gone those in record {
      marks = more_marks went inner p.marks;
      fits = more first rest went inner p.marks f p.fits;
      flags_are = deeper (flags_of inner) went a.front (flags_of p.marks) ((flags_of marks ++ gone ∷ []) ++ a.back) p.flags_are;
      left_is = ap (λ l. kept went (move_of total modes first) l) p.left_is ∙ kept_front went (move_of total modes first) a.before (kept gone (move_of total modes goal) a.behind);
      own_is = p.own_is;
      same = λ other not_same. same_deeper went inner p.marks others index other not_same p.same;
      sound = λ later holds own. (unless_more went first inner now later holds sound, p.sound later holds own);
    };
  }

  pub apart : (goals : List Node) (index : ℕ) (goal : Node) (rest : List Node) (marked : Marked) (now : Bound) → drop index goals ≡ goal ∷ rest → Fits (nodes_of goals) marked
      → SoundLeft total modes (nodes_of goals) marked now → Apart (nodes_of goals) marked index goal (length (all_parts (nodes_of (take index goals)))) now
  apart [] zero goal rest marked now there fits sound = cc
  apart [] (suc index) goal rest marked now there fits sound = cc
  apart (first ∷ others) zero goal rest marked now there fits sound =
      subst (λ g. Apart (nodes_of (first ∷ others)) marked 0 g 0 now) (head_is first goal others rest there) (apart_here first (nodes_of others) now marked fits sound)
  apart (first ∷ others) (suc index) goal rest marked now there (more f r went inner behind fits_inner fits) (one, sound) =
      apart_later first goal (nodes_of others) index (length (all_parts (nodes_of (take index others)))) (length (all_parts (nodes_of (first ∷ take index others)))) now went inner behind fits_inner one
      (apart others index goal rest behind now there fits sound) (length-append (parts_of first) (all_parts (nodes_of (take index others))))
