-- The children of a Fork, and its parent behind it, come behind what they need and before where what they owe is due.
use Rattle.std.proofs.Common.{◌≡◌, ℕ, suc, ◌+◌, ◌≤◌, ◌<◌, inl, inr, Bool, true, false, not, List, [], ◌∷◌, Some, refl, sym, ◌∙◌, subst, arith}
use Rattle.std.proofs.lemmas.Bool.Decides.{nat_tests}
use Rattle.std.specs.Prelude.{slice_get, if◌then◌else◌, nat_eq, nat_lt, ◌&&◌}
use Rattle.std.specs.List.{AllByRecursion}
use Rattle.merc_script.specs.declared.cells.Move.{Move}
use Rattle.merc_script.specs.Script.{Script, ForkThen, Children, NoChild, Child, Cell, size, sizes, count}
use Rattle.merc_core.specs.Rights.{has, without, made_by, used_by, is_kind, moved, moved_to}
use Rattle.merc_core.specs.World.{Branch, Listed, Runs, AtJoin, spot, Join}
use Rattle.merc_core.specs.Events.{spawned, listed_backwards, placed, parent_behind}
use Rattle.merc_core.specs.WellFormed.{CellFits, MoveFits}
use Rattle.merc_core.proofs.Pool.{each_way, each-append, each-filter, each-changed, each-weaker}
use Rattle.merc_core.proofs.TruthSteps.{test_same, is_same, has-holds}
use Rattle.merc_core.proofs.Times.{before-less}
use Rattle.merc_core.proofs.Live.{behind_child, Timed, TimedAll, BeforeIn, Timely, OnTime}

pub behind-most : (at from child : ℕ) (all : Children) → behind_child at from child all ≤ at + sizes all
behind-most at from child NoChild = omega arith
behind-most at from child (Child first others) = either (nat_eq child from) (behind-most (at + size first) (suc from) child others)
  where
    either : (b : Bool) → behind_child (at + size first) (suc from) child others ≤ at + size first + sizes others
        → (if b then at + size first else behind_child (at + size first) (suc from) child others) ≤ at + (size first + sizes others)
    either true less = omega arith
    either false less = omega arith

behind-here : (at from : ℕ) (first : Script) (others : Children) → behind_child at from from (Child first others) ≡ at + size first
behind-here at from first others = rw (is_same from)

behind-later : (at from child : ℕ) (first : Script) (others : Children) → from < child → behind_child at from child (Child first others) ≡ behind_child (at + size first) (suc from) child others
behind-later at from child first others less = let other : nat_eq child from ≡ false = grind (arith, nat_tests) in rw other

-- the children from this one on, of all
record Part (base : ℕ) (all : Children) (at from : ℕ) (rest : Children) : Type 0 where
  starts : base ≤ at
  one : 1 ≤ from
  whole : at + sizes rest ≡ base + sizes all
  later : (child : ℕ) → from ≤ child → behind_child base 1 child all ≡ behind_child at from child rest
  earlier : (child : ℕ) → 1 ≤ child → child < from → behind_child base 1 child all ≤ at

part-all : (base : ℕ) (all : Children) → Part base all base 1 all
part-all base all = record { starts = omega arith; one = omega arith; whole = refl; later = λ child from. refl; earlier = λ child one less. absurd (omega arith) }

earlier-next : (base at from : ℕ) (all others : Children) (first : Script) → Part base all at from (Child first others) → (child : ℕ) → 1 ≤ child → child < suc from → behind_child base 1 child all ≤ at + size first
earlier-next base at from all others first part child one less =
    elim (each_way (nat_eq child from)) [
      | inl same ↦
          let e : child ≡ from = test_same child from same in
          let k = part.later child (omega arith) in
          let m = behind-here at from first others in
          let n : behind_child at from child (Child first others) ≡ at + size first = subst (λ (c : ℕ). behind_child at from c (Child first others) ≡ at + size first) (sym e) m in
          omega arith
      | inr other ↦ let k = part.earlier child one (grind (arith, nat_tests, less, other)) in omega arith
    ]

part-next : (base at from : ℕ) (all others : Children) (first : Script) → Part base all at from (Child first others) → Part base all (at + size first) (suc from) others
part-next base at from all others first part = record {
  starts = let k = part.starts in omega arith;
  one = omega arith;
  whole = let k = part.whole in omega arith;
  later = λ child less. part.later child (omega arith) ∙ behind-later at from child first others (omega arith);
  earlier = earlier-next base at from all others first part;
}

module _ (due : ℕ → ℕ) (workers : ℕ) (b : Branch) (limit : ℕ) (cells : List Cell) (moves : List Move) (all : Children) (rest : Script) where
  abbrev pub base : ℕ
  base = suc b.at

  abbrev pub CellDue : Cell → Type 0
  CellDue one = (due one.cell ≡ behind_child base 1 one.producer all) × CellFits (count all) one

  -- what is known of the parent and of the Fork
  pub record Forking : Type 0 where
    pub each_cell : AllByRecursion CellDue cells
    pub each_move : AllByRecursion (MoveFits (count all) b.signals b.waits) moves
    pub needs_before : AllByRecursion (λ cell. due cell ≤ b.at) b.waits
    pub owes_behind : AllByRecursion (λ cell. b.at + size (ForkThen limit cells moves all rest) ≤ due cell) b.signals

  module _ (forking : Forking) where
    used-before : (at from : ℕ) (more : Children) → Part base all at from more → AllByRecursion (λ cell. due cell ≤ at) (used_by from cells)
    used-before at from more part = each-changed CellDue (λ cell. due cell ≤ at) (λ one. nat_eq one.consumer from) (λ one. one.cell) before cells forking.each_cell
      where
        before : (one : Cell) → nat_eq one.consumer from ≡ true → CellDue one → due one.cell ≤ at
        before one is fact =
            let same = test_same one.consumer from is in
            elim fact.1.right [
              | inl none ↦ absurd (let k = part.one in omega arith)
              | inr right ↦ let k = part.earlier one.producer fact.1.from_one (let k = right.0 in omega arith) in let m = fact.0 in omega arith
            ]

    moved-wait : (one : Move) → is_kind false one ≡ true → MoveFits (count all) b.signals b.waits one → has one.cell b.waits ≡ true
    moved-wait one kind fits = let none : one.signal ≡ false = not-true one.signal kind in rw none at fits.held
      where
        not-true : (b' : Bool) → not b' ≡ true → b' ≡ false
        not-true true is = absurd (cc)
        not-true false is = refl

    moved-signal : (one : Move) → is_kind true one ≡ true → MoveFits (count all) b.signals b.waits one → has one.cell b.signals ≡ true
    moved-signal one kind fits = let some : one.signal ≡ true = kind in rw some at fits.held

    both-true : (a c : Bool) → (a && c) ≡ true → (a ≡ true) × (c ≡ true)
    both-true true c is = (refl, is)
    both-true false c is = absurd (cc)

    moved-before : (at from : ℕ) (more : Children) → Part base all at from more → AllByRecursion (λ cell. due cell ≤ at) (moved_to from false moves)
    moved-before at from more part = each-changed (MoveFits (count all) b.signals b.waits) (λ cell. due cell ≤ at) (λ one. nat_eq one.child from && is_kind false one) (λ one. one.cell)
        (λ one is fits.
        let k = has-holds (λ cell. due cell ≤ b.at) one.cell b.waits forking.needs_before (moved-wait one (both-true (nat_eq one.child from) (is_kind false one) is).1 fits) in
        let m = part.starts in omega arith)
        moves forking.each_move

    made-behind : (at from : ℕ) (first : Script) (others : Children) → Part base all at from (Child first others) → AllByRecursion (λ cell. at + size first ≤ due cell) (made_by from cells)
    made-behind at from first others part = each-changed CellDue (λ cell. at + size first ≤ due cell) (λ one. nat_eq one.producer from) (λ one. one.cell) behind cells forking.each_cell
      where
        behind : (one : Cell) → nat_eq one.producer from ≡ true → CellDue one → at + size first ≤ due one.cell
        behind one is fact =
            let same = test_same one.producer from is in
            let k = part.later from (omega arith) in
            let m = behind-here at from first others in
            let n : due one.cell ≡ behind_child base 1 from all = subst (λ (c : ℕ). due one.cell ≡ behind_child base 1 c all) same fact.0 in
            omega arith

    moved-behind : (at from : ℕ) (first : Script) (others : Children) → Part base all at from (Child first others) → AllByRecursion (λ cell. at + size first ≤ due cell) (moved_to from true moves)
    moved-behind at from first others part = each-changed (MoveFits (count all) b.signals b.waits) (λ cell. at + size first ≤ due cell) (λ one. nat_eq one.child from && is_kind true one) (λ one. one.cell)
        (λ one is fits.
        let k = has-holds (λ cell. b.at + size (ForkThen limit cells moves all rest) ≤ due cell) one.cell b.signals forking.owes_behind (moved-signal one (both-true (nat_eq one.child from) (is_kind true one) is).1 fits) in
        let m = part.whole in omega arith)
        moves forking.each_move

    module _ (joins : List Join) (number : ℕ) (new : Join) (is : slice_get joins number ≡ Some new) (behind-is : new.behind ≡ base + sizes all) (v : ℕ) (worker : nat_lt v workers ≡ true) where
      abbrev Kid : Branch → Type 0
      Kid kid = Timely due workers joins (Runs v) kid.join kid.at kid.signals kid.waits kid.rest

      before-new : (at : ℕ) → at ≤ base + sizes all → BeforeIn at (slice_get joins number)
      before-new at less = rw is (omega arith)

      kids-time : (at from : ℕ) (more : Children) → Part base all at from more → TimedAll due at more → AllByRecursion Kid (spawned number b cells moves from at more)
      kids-time at from NoChild part timed = tt
      kids-time at from (Child first others) part timed = (
        record {
          in_range = worker;
          needs_before = each-append (λ cell. due cell ≤ at) (used_by from cells) (moved_to from false moves) (used-before at from (Child first others) part) (moved-before at from (Child first others) part);
          owes_behind = each-append (λ cell. at + size first ≤ due cell) (made_by from cells) (moved_to from true moves) (made-behind at from first others part) (moved-behind at from first others part);
          ends_before = before-new (at + size first) (let m = part.whole in omega arith);
          begins = tt;
          timed = timed.0;
        },
        kids-time (at + size first) (suc from) others (part-next base at from all others first part) timed.1,
      )

      listed-kid : (kid : Branch) → Kid kid → OnTime due workers joins (spot (Listed v) kid)
      listed-kid kid time = record { in_range = time.in_range; needs_before = time.needs_before; owes_behind = time.owes_behind; ends_before = time.ends_before; begins = tt; timed = time.timed }

      backwards-time : (kids : List Branch) → AllByRecursion Kid kids → AllByRecursion (OnTime due workers joins) (listed_backwards v kids)
      backwards-time [] times = tt
      backwards-time (kid ∷ kids) times = each-append (OnTime due workers joins) (listed_backwards v kids) (spot (Listed v) kid ∷ []) (backwards-time kids times.1) (listed-kid kid times.0, tt)

      placed-time : (kids : List Branch) → AllByRecursion Kid kids → AllByRecursion (OnTime due workers joins) (placed v kids)
      placed-time [] times = tt
      placed-time (kid ∷ kids) times = (times.0, backwards-time kids times.1)

      pub children-time : TimedAll due base all → AllByRecursion (OnTime due workers joins) (placed v (spawned number b cells moves 1 base all))
      children-time timed = placed-time (spawned number b cells moves 1 base all) (kids-time base 1 all (part-all base all) timed)

      consumed-before : AllByRecursion (λ cell. due cell ≤ base + sizes all) (used_by 0 cells)
      consumed-before = each-changed CellDue (λ cell. due cell ≤ base + sizes all) (λ one. nat_eq one.consumer 0) (λ one. one.cell)
          (λ one is' fact. let k = behind-most base 1 one.producer all in let m = fact.0 in omega arith) cells forking.each_cell

      kept-before : AllByRecursion (λ cell. due cell ≤ base + sizes all) (without (moved false moves) b.waits)
      kept-before = each-filter (λ cell. due cell ≤ base + sizes all) (λ one. not (has one (moved false moves))) b.waits
          (each-weaker (λ cell. due cell ≤ b.at) (λ cell. due cell ≤ base + sizes all) (λ cell less. omega arith) b.waits forking.needs_before)

      pub parent-time : BeforeIn (b.at + size (ForkThen limit cells moves all rest)) (slice_get joins b.join) → Timed due (base + sizes all) rest → OnTime due workers joins (spot (AtJoin number) (parent_behind b cells moves all rest))
      parent-time before timed = record {
        in_range = tt;
        needs_before = each-append (λ cell. due cell ≤ base + sizes all) (used_by 0 cells) (without (moved false moves) b.waits) consumed-before kept-before;
        owes_behind = each-filter (λ cell. base + sizes all + size rest ≤ due cell) (λ one. not (has one (moved true moves))) b.signals
            (each-weaker (λ cell. b.at + size (ForkThen limit cells moves all rest) ≤ due cell) (λ cell. base + sizes all + size rest ≤ due cell) (λ cell less. omega arith) b.signals forking.owes_behind);
        ends_before = before-less (b.at + size (ForkThen limit cells moves all rest)) (base + sizes all + size rest) (slice_get joins b.join) (omega arith) before;
        begins = rw is (omega arith);
        timed = timed;
      }
