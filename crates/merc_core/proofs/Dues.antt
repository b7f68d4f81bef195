-- Each cell of a root script is due at one place: behind its producer's script.
use Rattle.std.proofs.Common.{◌≡◌, ℕ, zero, suc, ◌+◌, inl, inr, true, false, List, [], ◌∷◌, ◌++◌, refl, ap, arith}
use Rattle.std.proofs.lemmas.Bool.Decides.{nat_tests}
use Rattle.std.specs.Prelude.{if◌then◌else◌, nat_eq, map, Option, Some, slice_get, ◌≤◌}
use Rattle.std.specs.List.{AllByRecursion}
use Rattle.merc_value.specs.Value.{Value}
use Rattle.merc_script.specs.Script.{Script, Ends, TickThen, WaitThen, SignalThen, ForkThen, Children, NoChild, Child, Cell, size, sizes, count}
use Rattle.merc_core.specs.declared.event.Event.{Event}
use Rattle.merc_core.specs.Rights.{has, numbers_of}
use Rattle.merc_core.specs.World.{spot, Runs, first_branch, Join, World, start, outermost}
use Rattle.merc_core.specs.WellFormed.{AreDistinct, WellFormed, cells_of, cells_in, value_in}
use Rattle.merc_core.specs.Laws.{LeadsTo, NeverStuck}
use Rattle.merc_core.proofs.Pool.{each_way, each-front, each-back, each-always}
use Rattle.merc_core.proofs.Steps.{Step, run-keeps}
use Rattle.merc_core.proofs.Truth.{Truth, truth-start}
use Rattle.merc_core.proofs.TruthSteps.{truth-step, MayLose, is_same}
use Rattle.merc_core.proofs.Losses.{Excused, Spoiled, excuses, lost-may}
use Rattle.merc_core.proofs.Live.{AnyOf, InPlace, behind_child, Timed, TimedAll, Live}
use Rattle.merc_core.proofs.LiveSteps.{live-step}
use Rattle.merc_core.proofs.Progress.{goes-on}

-- all cells, each with the place where it is due
abbrev cell_due : ℕ → Children → Cell → ℕ × ℕ
cell_due at children one = (one.cell, behind_child at 1 one.producer children)

abbrev mutual
  dues_of : ℕ → Script → List (ℕ × ℕ)
  dues_of at (Ends o) = []
  dues_of at (TickThen rest) = dues_of (suc at) rest
  dues_of at (WaitThen cell rest) = dues_of (suc at) rest
  dues_of at (SignalThen cell rest) = dues_of (suc at) rest
  dues_of at (ForkThen limit cells moves children rest) = map (cell_due (suc at) children) cells ++ (dues_in (suc at) children ++ dues_of (suc at + sizes children) rest)

  dues_in : ℕ → Children → List (ℕ × ℕ)
  dues_in at NoChild = []
  dues_in at (Child first others) = dues_of at first ++ dues_in (at + size first) others

abbrev due_among : List (ℕ × ℕ) → ℕ → ℕ
due_among [] cell = 0
due_among (one ∷ rest) cell = if nat_eq one.0 cell then one.1 else due_among rest cell

map-append : {A B : Type 0} (f : A → B) (xs ys : List A) → map f (xs ++ ys) ≡ map f xs ++ map f ys
map-append f [] ys = refl
map-append f (x ∷ xs) ys = ap (λ (zs : List _). f x ∷ zs) (map-append f xs ys)

abbrev firsts : List (ℕ × ℕ) → List ℕ
firsts dues = map (λ one. one.0) dues

firsts-cells : (at : ℕ) (children : Children) (cells : List Cell) → firsts (map (cell_due at children) cells) ≡ numbers_of cells
firsts-cells at children [] = refl
firsts-cells at children (one ∷ cells) = ap (λ (zs : List ℕ). one.cell ∷ zs) (firsts-cells at children cells)

mutual
  firsts-of : (at : ℕ) (s : Script) → firsts (dues_of at s) ≡ numbers_of (cells_of s)
  firsts-of at (Ends o) = refl
  firsts-of at (TickThen rest) = firsts-of (suc at) rest
  firsts-of at (WaitThen cell rest) = firsts-of (suc at) rest
  firsts-of at (SignalThen cell rest) = firsts-of (suc at) rest
  firsts-of at (ForkThen limit cells moves children rest) =
      rw (
        map-append (λ (one : ℕ × ℕ). one.0) (map (cell_due (suc at) children) cells) (dues_in (suc at) children ++ dues_of (suc at + sizes children) rest),
        map-append (λ (one : ℕ × ℕ). one.0) (dues_in (suc at) children) (dues_of (suc at + sizes children) rest),
        map-append (λ (one : Cell). one.cell) cells (cells_in children ++ cells_of rest),
        map-append (λ (one : Cell). one.cell) (cells_in children) (cells_of rest),
        firsts-cells (suc at) children cells,
        firsts-in (suc at) children,
        firsts-of (suc at + sizes children) rest,
      ) refl

  firsts-in : (at : ℕ) (all : Children) → firsts (dues_in at all) ≡ numbers_of (cells_in all)
  firsts-in at NoChild = refl
  firsts-in at (Child first others) =
      rw (
        map-append (λ (one : ℕ × ℕ). one.0) (dues_of at first) (dues_in (at + size first) others),
        map-append (λ (one : Cell). one.cell) (cells_of first) (cells_in others),
        firsts-of at first,
        firsts-in (at + size first) others,
      ) refl

-- among distinct cells each is found
abbrev Meets : (ℕ → ℕ) → ℕ × ℕ → Type 0
Meets due one = due one.0 ≡ one.1

apart : (cell : ℕ) (place : ℕ) (dues some : List (ℕ × ℕ)) → has cell (firsts some) ≡ false → AllByRecursion (Meets (due_among dues)) some → AllByRecursion (Meets (due_among ((cell, place) ∷ dues))) some
apart cell place dues [] none all = tt
apart cell place dues (one ∷ some) none all = elim (each_way (nat_eq one.0 cell)) [
  | inl same ↦ absurd (let yes' : has cell (firsts (one ∷ some)) ≡ true = rw same refl in cc)
  | inr other ↦ (let no' : nat_eq cell one.0 ≡ false = grind (arith, nat_tests, other) in rw no' all.0, apart cell place dues some (rw other at none) all.1)
]

each-meets : (dues : List (ℕ × ℕ)) → AreDistinct (firsts dues) → AllByRecursion (Meets (due_among dues)) dues
each-meets [] distinct = tt
each-meets (one ∷ dues) distinct = (rw (is_same one.0) refl, apart one.0 one.1 dues dues distinct.0 (each-meets dues distinct.1))

each-cell : (due : ℕ → ℕ) (at : ℕ) (children : Children) (cells : List Cell) → AllByRecursion (Meets due) (map (cell_due at children) cells) → AllByRecursion (λ one. due one.cell ≡ behind_child at 1 one.producer children) cells
each-cell due at children [] all = tt
each-cell due at children (one ∷ cells) all = (all.0, each-cell due at children cells all.1)

mutual
  timed-of : (due : ℕ → ℕ) (at : ℕ) (s : Script) → AllByRecursion (Meets due) (dues_of at s) → Timed due at s
  timed-of due at (Ends o) all = tt
  timed-of due at (TickThen rest) all = timed-of due (suc at) rest all
  timed-of due at (WaitThen cell rest) all = timed-of due (suc at) rest all
  timed-of due at (SignalThen cell rest) all = timed-of due (suc at) rest all
  timed-of due at (ForkThen limit cells moves children rest) all =
      let mine = map (cell_due (suc at) children) cells in
      let theirs = dues_in (suc at) children in
      let later = dues_of (suc at + sizes children) rest in
      let others = each-back (Meets due) mine (theirs ++ later) all in (
        each-cell due (suc at) children cells (each-front (Meets due) mine (theirs ++ later) all),
        timed-in due (suc at) children (each-front (Meets due) theirs later others),
        timed-of due (suc at + sizes children) rest (each-back (Meets due) theirs later others),
      )

  timed-in : (due : ℕ → ℕ) (at : ℕ) (all : Children) → AllByRecursion (Meets due) (dues_in at all) → TimedAll due at all
  timed-in due at NoChild every = tt
  timed-in due at (Child first others) every = (
    timed-of due at first (each-front (Meets due) (dues_of at first) (dues_in (at + size first) others) every),
    timed-in due (at + size first) others (each-back (Meets due) (dues_of at first) (dues_in (at + size first) others) every),
  )

abbrev pub due_in : Script → ℕ → ℕ
due_in root = due_among (dues_of 0 root)

pub timed : (root : Script) → AreDistinct (numbers_of (cells_of root)) → Timed (due_in root) 0 root
timed root distinct = timed-of (due_in root) 0 root (each-meets (dues_of 0 root) (rw (firsts-of 0 root) distinct))

-- at the start, and after every list of events

start-placed : (root : Script) (number k : ℕ) (join : Join) → slice_get (outermost root ∷ []) number ≡ Some join → 1 ≤ k → k ≤ count join.children → AnyOf (InPlace number k) (spot (Runs 0) (first_branch root) ∷ [])
start-placed root zero k join is one last =
    let same : outermost root ≡ join = cc in
    let all : k ≤ 1 = rw (← same) at last in
    inl (refl, omega arith)
start-placed root (suc number) k join is one last = absurd (cc)

live-start : (root : Script) (workers : ℕ) → 1 ≤ workers → AreDistinct (numbers_of (cells_of root)) → Live (due_in root) root (start root workers)
live-start root workers some distinct = record {
  on_time = (
    record {
      in_range = (let more = some in grind (arith, nat_tests, more));
      needs_before = tt;
      owes_behind = tt;
      ends_before = omega arith;
      begins = tt;
      timed = timed root distinct;
    },
    tt,
  );
  served = (tt, tt);
  stuck = (tt, tt);
  placed = λ number k join is one last none. start-placed root number k join is one last;
  numbered = tt;
  outermost_is = refl;
}

module _ (root : Script) where
  abbrev value : ℕ → Option Value
  value = value_in (cells_of root)

  abbrev Both : World → Type 0
  Both w = Truth value (Excused (Unit {0})) (Spoiled (Unit {0})) root w × Live (due_in root) root w

  abbrev Allows : Event → Type 0
  Allows = MayLose value (Excused (Unit {0})) (Spoiled (Unit {0})) (excuses (Unit {0}))

  both-step : (w : World) (e : Event) (w' : World) → Step w e w' → Allows e → Both w → Both w'
  both-step w e w' step may both = (
    truth-step value (Excused (Unit {0})) (Spoiled (Unit {0})) (excuses (Unit {0})) root w e w' step may both.0,
    live-step (due_in root) root value (Excused (Unit {0})) (Spoiled (Unit {0})) w e w' step both.0 both.1,
  )

  pub live-after : (workers : ℕ) (events : List Event) (w : World) → WellFormed root → 1 ≤ workers → LeadsTo root workers events w → Live (due_in root) root w
  live-after workers events w well some leads =
      (run-keeps Allows Both both-step events (start root workers) w leads (each-always Allows (lost-may value) events)
      (truth-start value (Excused (Unit {0})) (Spoiled (Unit {0})) root workers well.formed, live-start root workers some well.distinct)).1

pub never_stuck : NeverStuck
never_stuck root workers events w well some leads none = goes-on (due_in root) root w (live-after root workers events w well some leads) none
