-- What the goals of a conjunction that are left tell of it.
use Rattle.std.specs.Prelude.{◌≡◌, ◌≤◌, ◌<◌, ℕ, suc, Bool, true, false, List, [], ◌∷◌, length, refl}
use Rattle.std.proofs.Common.{◌∙◌, sym, subst, arith}
use Rattle.merc_base.specs.declared.place.Span.{Span}
use Rattle.merc_tree.specs.declared.declarations.ModeDecl.{ModeDecl}
use Rattle.merc_goal_tree.specs.Nodes.{Node, Nodes, Conjunction, nodes_of}
use Rattle.merc_order.specs.Bound.{Bound, with}
use Rattle.merc_order.specs.Marks.{Marked, kept, move_of, left, SoundLeft}
use Rattle.merc_order.specs.Moves.{Move}
use Rattle.merc_order.specs.Order.{from, moves}
use Rattle.merc_order.specs.Ordered.{is_ready}
use Rattle.merc_order.specs.Ways.{here, later, Went, AllStuck, NoneReady}
use Rattle.merc_order.proofs.Marks.{conjunction-ready, conjunction-stuck}
use Rattle.merc_readiness.specs.Asking.{flags_of, Fits, more, AreMarked}
use Rattle.merc_readiness.specs.Sweeps.{AreGone, AreLeft, AreStuck, marked_bind}
use Rattle.merc_readiness.specs.declared.waiting.Waiting.{Waiting}
use Rattle.merc_readiness.proofs.Listed.{none_listed, some_listed, listed_stuck}
use Rattle.merc_readiness.proofs.Ways.{now_is}

none_ready : (all : List Move) (now : Bound) → AllStuck all now → NoneReady all now
none_ready all now stuck move others (here m o) ready = let one = stuck.0 in cc
none_ready all now stuck move others (later f m a o r) ready = none_ready a now stuck.1 m o r ready

not_true : (b : Bool) → (b ≡ true → ⊥) → b ≡ false
not_true true never = absurd (never refl)
not_true false never = refl

module _ (total : ℕ → ℕ) (modes : ℕ → List ModeDecl) (goals : Nodes) (start : Bound) where
  stuck_by : (span : Span) (now : Bound) (rest : List Move) → Went (moves total modes goals) start rest now → AllStuck rest now → 0 < length rest
      → is_ready (from total modes (Conjunction goals span) start) ≡ false
  stuck_by span now [] way stuck some = absurd (omega arith)
  stuck_by span now (move ∷ rest) way stuck some =
      not_true (is_ready (from total modes (Conjunction goals span) start)) (λ ready. conjunction-stuck total modes goals span move rest start now way (none_ready (move ∷ rest) now stuck) ready)

  -- the marks of a conjunction's goals, where what the marked ones bind is bound
  pub gone_of : (flags : List Bool) (now : Bound) (listed : List Waiting) (marked : Marked) (then : Bound) → Fits goals marked → flags ≡ flags_of marked
      → Went (moves total modes goals) start (left total modes goals marked) then → SoundLeft total modes goals marked then
      → now ≡ with start (marked_bind total modes goals marked) → AreLeft marked listed → AreGone total modes goals start flags now listed
  gone_of flags now listed marked then fits same way sound set are =
      let is : then ≡ now = now_is total modes goals marked start then way ∙ sym set in
      record {
        marked = marked;
        fits = fits;
        flags_are = same;
        way = subst (λ b. Went (moves total modes goals) start (left total modes goals marked) b) is way;
        sound = subst (λ b. SoundLeft total modes goals marked b) is sound;
        are_left = are;
      }

  marked_of_gone : (flags : List Bool) (now : Bound) (listed : List Waiting) (span : Span) → AreGone total modes goals start flags now listed → AreMarked total modes (Conjunction goals span) flags start
  marked_of_gone flags now listed span g = record { inner = g.marked; fits = g.fits; flags_are = g.flags_are; sound = (now, g.way, g.sound) }

  -- All went.
  pub all_went : (flags : List Bool) (now : Bound) (span : Span) → AreGone total modes goals start flags now []
      → (is_ready (from total modes (Conjunction goals span) start) ≡ true) × AreMarked total modes (Conjunction goals span) flags start
  all_went flags now span g = (
    conjunction-ready total modes goals span start now (subst (λ l. Went (moves total modes goals) start l now) (none_listed total modes goals g.marked g.fits g.are_left) g.way),
    marked_of_gone flags now [] span g,
  )

none_by : (total : ℕ → ℕ) (modes : ℕ → List ModeDecl) (goals : List Node) (start : Bound) (flags : List Bool) (now : Bound) (waiting : Waiting) (others : List Waiting) (span : Span)
    → AreGone total modes (nodes_of goals) start flags now (waiting ∷ others) → AreStuck total modes goals (waiting ∷ others) now
    → (is_ready (from total modes (Conjunction (nodes_of goals) span) start) ≡ false) × AreMarked total modes (Conjunction (nodes_of goals) span) flags start
none_by total modes goals start flags now waiting others span g stuck = (
  stuck_by total modes (nodes_of goals) start span now (left total modes (nodes_of goals) g.marked) g.way (listed_stuck total modes goals g.marked (waiting ∷ others) now g.fits g.are_left stuck)
      (some_listed total modes (nodes_of goals) g.marked waiting others g.fits g.are_left),
  marked_of_gone total modes (nodes_of goals) start flags now (waiting ∷ others) span g,
)

-- Some are left, and none of them went.
pub none_went : (total : ℕ → ℕ) (modes : ℕ → List ModeDecl) (goals : List Node) (start : Bound) (flags : List Bool) (now : Bound) (listed : List Waiting) (span : Span) → 0 < length listed
    → AreGone total modes (nodes_of goals) start flags now listed → AreStuck total modes goals listed now
    → (is_ready (from total modes (Conjunction (nodes_of goals) span) start) ≡ false) × AreMarked total modes (Conjunction (nodes_of goals) span) flags start
none_went total modes goals start flags now [] span some g stuck = absurd (omega (arith, some))
none_went total modes goals start flags now (waiting ∷ others) span some g stuck = none_by total modes goals start flags now waiting others span g stuck

-- whether none is left

pub is_empty : (listed : List Waiting) → length listed ≡ 0 → listed ≡ []
is_empty [] none = refl
is_empty (waiting ∷ others) none = absurd (omega (arith, none))

kept_length : (gone : Bool) (move : Move) (rest : List Move) → length (kept gone move rest) ≤ suc (length rest)
kept_length true move rest = omega arith
kept_length false move rest = omega arith

pub left_length : (total : ℕ → ℕ) (modes : ℕ → List ModeDecl) (goals : List Node) (marked : Marked) → Fits (nodes_of goals) marked → length (left total modes (nodes_of goals) marked) ≤ length goals
left_length total modes [] marked fits = omega arith
left_length total modes (goal ∷ goals) marked (more first rest gone inner others f o) =
    let one = kept_length gone (move_of total modes goal) (left total modes (nodes_of goals) others) in
    let two = left_length total modes goals others o in
    omega arith
