-- What a worker's fork leaves.
use Rattle.std.proofs.Common.{◌≡◌, ℕ, zero, suc, ◌+◌, ◌-◌, ◌^◌, ◌≤◌, ◌<◌, inl, inr, Bool, false, List, [], ◌∷◌, ◌++◌, Some, None, refl, ap, sym, ◌∙◌, subst, arith, length, length-set, length-append, append_assoc, take, drop}
use Rattle.std.proofs.Math.ListN.{set}
use Rattle.std.proofs.Math.Seq.{take-append_seam, drop-append_seam}
use Rattle.std.proofs.lemmas.Option.{slice_get_past}
use Rattle.std.proofs.lemmas.Bool.Decides.{nat_tests}
use Rattle.std.specs.Prelude.{Option, Ok, Err, slice_get, if◌then◌else◌, nat_eq, ◌&&◌, IsSome, filter}
use Rattle.std.specs.List.{AllByRecursion}
use Rattle.merc_script.specs.declared.outcome.Outcome.{Outcome}
use Rattle.merc_script.specs.declared.items.Item.{Item}
use Rattle.merc_script.specs.declared.items.Fork.{Fork as ForkData}
use Rattle.merc_script.specs.Script.{Script, Ends, TickThen, WaitThen, SignalThen, ForkThen, Children, NoChild, Child, Cell, Move, count, size, sizes}
use Rattle.merc_core.specs.declared.branch.Branch.{Branch as CoreBranch}
use Rattle.merc_core.specs.declared.cell.Cell.{Cell as CoreCell}
use Rattle.merc_core.specs.declared.join.Join.{Join as CoreJoin}
use Rattle.merc_core.specs.declared.worker.Worker.{Worker}
use Rattle.merc_core.specs.declared.course.Next.{Next}
use Rattle.merc_core.specs.declared.course.Next.TheVariants.{Tick as TickNext, Wait as WaitNext, Signal as SignalNext, Fork as ForkNext, End as EndNext}
use Rattle.merc_core.specs.declared.event.Event.TheVariants.{Fork}
use Rattle.merc_core.specs.declared.event.NotNow.TheVariants.{WrongItem}
use Rattle.merc_core.specs.World.{Branch, Location, Runs, AtJoin, Spot, spot, Stored, stored_at, Join, World}
use Rattle.merc_core.specs.Events.{forked, fork_on, parent_behind, spawned, placed, happens}
use Rattle.merc_core.specs.Rights.{signals_at}
use Rattle.merc_script.specs.Items.{script_of}
use Rattle.merc_script.specs.Places.{left_in, script_named}
use Rattle.merc_core.specs.Laws.{Carries, Stands}
use Rattle.merc_core.specs.Given.{given, given_by}
use Rattle.merc_core.specs.Standing.{StandsAt, StandAt, LeftAt, IsLeft, IsNext, IsFork}
use Rattle.merc_core.specs.Forking.{past_scripts, newborn, born_from, not_stored}
use Rattle.merc_core.specs.Mirror.{stands_in, Key, Hand, Row, Waiting, Parent, queue, held, held_of, hand_of, row_of, parents_of, in_hand_at, Parts, Shows, ShowsPool, IsCourse, Mirrors, AreFit, IsFit, IsFitAt, ShowsCell, ShowsJoin, FewIf, still_made, made, made_in, branches_made, rights_made, joins_made}
use Rattle.merc_core.specs.Stepping.{RunsNext, IsForkNext}
use Rattle.merc_core.proofs.Pool.{each_way, takes-one}
use Rattle.merc_core.proofs.PoolShows.{key-runs, key-at-join, with_queue, queue-same, same-queues, show-length, put}
use Rattle.merc_core.proofs.Rooms.{still-append, still-takes, takes-length}
use Rattle.merc_core.proofs.Acting.{with_worker, Acting, acting, runs-on, replaced, held-there, held-here, nat-is, worker-there}
use Rattle.merc_core.proofs.Simple.{not-ended, stands-within}
use Rattle.merc_core.proofs.WaitingAt.{filter-length}
use Rattle.merc_core.proofs.ForkParts.{born-before}
use Rattle.merc_core.proofs.Givings.{given-last}
use Rattle.merc_core.proofs.ForkedAt.{grown-together, none-stored, still-listed, length-listed, past-is, past-all, put-children, shows-newborn, first-stands, more-stand}

nat-less : (a n : ℕ) → a < n → nat_eq a n ≡ false
nat-less a n less = grind (arith, nat_tests)

fresh-none : (n : ℕ) (ss : List Stored) (child : ℕ) → AllByRecursion (λ one. one.join < n) ss → stored_at n child ss ≡ None
fresh-none n [] child all = refl
fresh-none n (s ∷ ss) child all = ap (λ t. if (t && nat_eq s.child child) then Some s.outcome else stored_at n child ss) (nat-less s.join n all.0) ∙ fresh-none n ss child all.1

few-none : (n : ℕ) (before : List (Option Outcome)) → AllByRecursion FewIf before → AllByRecursion FewIf (not_stored n before)
few-none zero before all = all
few-none (suc n) before all = few-none n (None ∷ before) (tt, all)

placed-made : (each : ℕ → List Cell → List Move → ℕ) (v join : ℕ) (b : Branch) (cells : List Cell) (moves : List Move) (at : ℕ) (children : Children)
    → still_made each (placed v (spawned join b cells moves 1 at children)) ≡ made_in each children
placed-made each v join b cells moves at NoChild = refl
placed-made each v join b cells moves at (Child first more) = ap (λ i. made each first + i) (still-listed each v join b cells moves 2 (at + size first) more)

placed-length : (v join : ℕ) (b : Branch) (cells : List Cell) (moves : List Move) (at : ℕ) (children : Children) → length (placed v (spawned join b cells moves 1 at children)) ≡ count children
placed-length v join b cells moves at NoChild = refl
placed-length v join b cells moves at (Child first more) = ap suc (length-listed v join b cells moves 2 (at + size first) more)

family-of : (children : Children) → 1 ≤ count children → (first : Script) × (more : Children) × (children ≡ Child first more)
family-of NoChild some = absurd (omega (arith, some))
family-of (Child first more) some = (first, more, refl)

zero-apart : (i : ℕ) → nat_eq 0 (suc i) ≡ false
zero-apart i = grind (arith, nat_tests)

suc-apart : (n : ℕ) → nat_eq (suc n) 0 ≡ false
suc-apart n = grind (arith, nat_tests)

suc-both : (n i : ℕ) → nat_eq (suc n) (suc i) ≡ nat_eq n i
suc-both n i = grind (arith, nat_tests)

pushed-parent : (xs : List CoreJoin) (x : CoreJoin) (n i : ℕ) → n ≡ length xs → (if nat_eq n i then x.parent else parents_of (slice_get xs i)) ≡ parents_of (slice_get (xs ++ (x ∷ [])) i)
pushed-parent [] x zero zero is = refl
pushed-parent [] x zero (suc i) is = ap (λ (t : Bool). if t then x.parent else []) (zero-apart i)
pushed-parent [] x (suc n) i is = absurd (omega (arith, is))
pushed-parent (y ∷ ys) x zero i is = absurd (omega (arith, is))
pushed-parent (y ∷ ys) x (suc n) zero is = ap (λ (t : Bool). if t then x.parent else y.parent) (suc-apart n)
pushed-parent (y ∷ ys) x (suc n) (suc i) is = ap (λ (t : Bool). if t then x.parent else parents_of (slice_get ys i)) (suc-both n i) ∙ pushed-parent ys x n i (omega (arith, is))

back-at : {A : Type 0} (xs : List A) (x : A) → length (xs ++ (x ∷ [])) - 1 ≡ length xs
back-at xs x = let a = length-append xs (x ∷ []) in omega (arith, a)

last-is : {A : Type 0} (l xs : List A) (x : A) → l ≡ xs ++ (x ∷ []) → drop (length l - 1) l ≡ x ∷ []
last-is l xs x is = ap (λ k. drop (length k - 1) k) is ∙ ap (λ n. drop n (xs ++ (x ∷ []))) (back-at xs x) ∙ drop-append_seam xs (x ∷ [])

front-is : {A : Type 0} (l xs : List A) (x : A) → l ≡ xs ++ (x ∷ []) → take (length l - 1) l ≡ xs
front-is l xs x is = ap (λ k. take (length k - 1) k) is ∙ ap (λ n. take n (xs ++ (x ∷ []))) (back-at xs x) ∙ take-append_seam xs (x ∷ [])

module _ (items : List Item) (parts : Parts) (w : World) (mirrors : Mirrors items parts w) (fit : AreFit items w) (v : ℕ) (k : Worker) (stands : slice_get parts.workers v ≡ Some k) where
  -- the branch is at a fork
  pub record Forks (fork : ForkData) : Type 0 where
    pub c : CoreBranch
    pub free : k.held ≡ None
    pub acts : Acting items parts w mirrors v k stands None c
    pub children : Children
    pub rest : Script
    pub is : acts.gone.x.branch.rest ≡ ForkThen fork.limit fork.cells fork.moves children rest
    pub many : fork.children ≡ count children
    pub stand : StandAt items (suc c.at) children
    pub behind : StandsAt items (suc c.at + sizes children) rest
    pub none : c.ended ≡ None
    pub fits : IsFit acts.gone.x.branch.steps (ForkThen fork.limit fork.cells fork.moves children rest)

  forks-by : (fork : ForkData) (c : CoreBranch) (free : k.held ≡ None) (a : Acting items parts w mirrors v k stands None c) (left : Script) → a.gone.x.branch.rest ≡ left → IsLeft items c left → IsFork fork c.at items left → Forks fork
  forks-by fork c free a (ForkThen limit cells moves children rest) is left at =
      let same : a.gone.x.branch.rest ≡ ForkThen fork.limit fork.cells fork.moves children rest =
      is ∙ ap (λ (f : ForkData). ForkThen f.limit f.cells f.moves children rest) (sym at.0) in
      record {
        c = c;
        free = free;
        acts = a;
        children = children;
        rest = rest;
        is = same;
        many = ap (λ (f : ForkData). f.children) at.0;
        stand = at.1;
        behind = at.2;
        none = not-ended items c.at c.ended (ForkThen limit cells moves children rest) left (λ o e. cc);
        fits = subst (λ (s : Script). IsFit a.gone.x.branch.steps s) same (subst (λ (l : Location). IsFitAt l a.gone.x.branch.steps a.gone.x.branch.rest) a.location a.fit);
      }
  forks-by fork c free a (Ends o) is left at = absurd at
  forks-by fork c free a (TickThen rest) is left at = absurd at
  forks-by fork c free a (SignalThen other rest) is left at = absurd at
  forks-by fork c free a (WaitThen other rest) is left at = absurd at

  next-fork-at : (fork : ForkData) (next : Next) (c : CoreBranch) (left : Script) → IsForkNext next fork → IsNext items c.at next left → IsFork fork c.at items left
  next-fork-at fork (ForkNext here) c left is at = subst (λ (f : ForkData). IsFork f c.at items left) is at
  next-fork-at fork TickNext c left is at = absurd is
  next-fork-at fork (WaitNext cell) c left is at = absurd is
  next-fork-at fork (SignalNext cell) c left is at = absurd is
  next-fork-at fork (EndNext o) c left is at = absurd is

  pub forks : (fork : ForkData) (next : Next) → RunsNext items k next → IsForkNext next fork → Forks fork
  forks fork next runs is =
      let a = acting items parts w mirrors v k stands None runs.branch runs.more runs.free runs.hand fit in
      forks-by fork runs.branch runs.free a a.gone.x.branch.rest refl a.gone.one.left (next-fork-at fork next runs.branch a.gone.x.branch.rest is (runs.comes a.gone.x.branch.rest a.gone.one.left))

  no-fork : (place : ℕ) (next : Next) (left : Script) (b : Branch) (others : List Spot) → ((fork : _) → next ≡ ForkNext fork → ⊥) → IsNext items place next left → fork_on w v left b others ≡ Err WrongItem
  no-fork place next (Ends o) b others apart at = refl
  no-fork place next (TickThen rest) b others apart at = refl
  no-fork place next (SignalThen cell rest) b others apart at = refl
  no-fork place next (WaitThen cell rest) b others apart at = refl
  no-fork place (ForkNext fork) (ForkThen limit cells moves children rest) b others apart at = absurd (apart fork refl)
  no-fork place TickNext (ForkThen limit cells moves children rest) b others apart at = absurd at
  no-fork place (SignalNext cell) (ForkThen limit cells moves children rest) b others apart at = absurd at
  no-fork place (WaitNext cell) (ForkThen limit cells moves children rest) b others apart at = absurd at
  no-fork place (EndNext o) (ForkThen limit cells moves children rest) b others apart at = absurd at

  pub fork-refused : (next : Next) → RunsNext items k next → ((fork : _) → next ≡ ForkNext fork → ⊥) → happens w (Fork v) ≡ Err WrongItem
  fork-refused next runs apart =
      let a = acting items parts w mirrors v k stands None runs.branch runs.more runs.free runs.hand fit in
      runs-on items parts w mirrors v k stands runs.branch a _
      ∙ no-fork runs.branch.at next a.gone.x.branch.rest a.gone.x.branch a.gone.others apart (runs.comes a.gone.x.branch.rest a.gone.one.left)

  pub fork-room : (fork : ForkData) → Forks fork → (fork.children ≤ length parts.branches) × (fork.children ≤ length parts.outcomes) × (length fork.cells + length fork.moves ≤ length parts.rights) × (1 ≤ fork.children)
  fork-room fork f =
      let t = λ (each : ℕ → List Cell → List Move → ℕ). still-takes each f.acts.gone.takes in
      let e = λ (each : ℕ → List Cell → List Move → ℕ). ap (made each) f.is in
      let r = mirrors.has_room in let m = f.many in (
        (let a = t branches_made in let b = e branches_made in let d = r.branches in omega (arith, a, b, d, m)),
        (let a = t branches_made in let b = e branches_made in let d = r.outcomes in omega (arith, a, b, d, m)),
        (let a = t rights_made in let b = e rights_made in let d = r.rights in omega (arith, a, b, d)),
        (let s = f.fits.2 in omega (arith, s, m)),
      )

  module _ (past : List ℕ) (root : Script) (course : IsCourse items past root) (fork : ForkData) (f : Forks fork) (k' : Worker) (held-same : k'.held ≡ k.held) where
    abbrev n : ℕ
    n = length w.joins

    abbrev b : Branch
    b = f.acts.gone.x.branch

    -- its name leads to the fork
    named-at : (s : Script) → s ≡ ForkThen fork.limit fork.cells fork.moves f.children f.rest → Carries (script_of items) (record b { rest = s })
        → left_in b.passed (script_named b.name (Some (script_of items))) ≡ Some (ForkThen fork.limit fork.cells fork.moves f.children f.rest)
    named-at s is (inl at) = at ∙ ap (λ (t : Script). Some t) is
    named-at s is (inr end) = absurd (let e : ForkThen fork.limit fork.cells fork.moves f.children f.rest ≡ Ends end.0 = sym is ∙ end.1 in cc)

    gives : (child : ℕ) → given (script_of items) (b.name ++ ((b.passed, child) ∷ [])) ≡ signals_at child fork.cells fork.moves
    gives child =
        given-last [] b.name b.passed child (Some (script_of items))
        ∙ ap (given_by child) (named-at b.rest f.is (takes-one (λ x. Stands (script_of items) w.joins x.branch) f.acts.gone.takes fit.stand.each_branch).carries)

    at-is : f.c.at + 1 ≡ suc b.at
    at-is = let e = f.acts.gone.one.at in omega (arith, e)

    stand' : StandAt items (suc b.at) f.children
    stand' = subst (λ i. StandAt items (suc i) f.children) f.acts.gone.one.at f.stand

    same-held : (u : ℕ) → held parts u ≡ held (with_worker parts v k') u
    same-held u = elim (each_way (nat_eq v u)) [
      | inl is ↦ (let e : v ≡ u = nat-is v u is in
          subst (λ (i : ℕ). held parts i ≡ held (with_worker parts v k') i) e
          (ap (λ o. held_of o) stands ∙ sym (held-here parts v k' (worker-there items parts w mirrors v k stands) ∙ held-same)))
      | inr apart ↦ held-there parts v u k' apart
    ]

    abbrev parent' : CoreBranch
    parent' = record f.c { at = past_scripts past (f.c.at + 1) (count f.children) }

    parent-at : past_scripts past (f.c.at + 1) (count f.children) ≡ suc b.at + sizes f.children
    parent-at = ap (λ p. past_scripts past p (count f.children)) at-is ∙ past-all items past root course (suc b.at) f.children stand'

    behind' : StandsAt items (past_scripts past (f.c.at + 1) (count f.children)) f.rest
    behind' = subst (λ p. StandsAt items p f.rest) (ap (λ i. suc i + sizes f.children) f.acts.gone.one.at ∙ sym parent-at) f.behind

    parent-shows : Shows items parent' (parent_behind b fork.cells fork.moves f.children f.rest)
    parent-shows = let one = f.acts.gone.one in record {
      join = one.join;
      child = one.child;
      at = parent-at;
      steps = one.steps;
      signals = one.signals;
      left = subst (λ (o : Option Outcome). LeftAt items (past_scripts past (f.c.at + 1) (count f.children)) o f.rest) (sym f.none) behind';
      within = stands-within items (past_scripts past (f.c.at + 1) (count f.children)) f.rest behind';
      few = let e = one.few in let a = one.at in let p = parent-at in omega (arith, e, a, p);
    }

    module _ (first : Script) (more : Children) (family : f.children ≡ Child first more) (born : List CoreBranch) (born-is : born ≡ born_from past (length parts.joins) fork.cells fork.moves 1 (f.c.at + 1) fork.children [])
        (hand : k'.hand ≡ drop (length born - 1) born) (list : k'.list ≡ k.list ++ take (length born - 1) born) (j' : CoreJoin) (parent-is : j'.parent ≡ parent' ∷ []) where
      stands-all : StandAt items (suc b.at) (Child first more)
      stands-all = subst (StandAt items (suc b.at)) family stand'

      abbrev oldest : CoreBranch
      oldest = newborn n 1 (suc b.at) (signals_at 1 fork.cells fork.moves)

      abbrev back : List CoreBranch
      back = born_from past n fork.cells fork.moves 2 (suc b.at + size first) (count more) []

      all-born : born ≡ back ++ (oldest ∷ [])
      all-born =
          born-is ∙ ap (λ i. born_from past i fork.cells fork.moves 1 (f.c.at + 1) fork.children []) mirrors.count
          ∙ ap (λ p. born_from past n fork.cells fork.moves 1 p fork.children []) at-is
          ∙ ap (λ i. born_from past n fork.cells fork.moves 1 (suc b.at) i []) (f.many ∙ ap count family)
          ∙ ap (λ p. born_from past n fork.cells fork.moves 2 p (count more) (oldest ∷ [])) (past-is items past root course (suc b.at) first (first-stands items (suc b.at) first more stands-all))
          ∙ born-before past n fork.cells fork.moves 2 (suc b.at + size first) (count more) (oldest ∷ [])

      hand-is : k'.hand ≡ oldest ∷ []
      hand-is = hand ∙ last-is born back oldest all-born

      list-is : k'.list ≡ k.list ++ back
      list-is = list ∙ ap (λ l. k.list ++ l) (front-is born back oldest all-born)

      abbrev q0 : Key → List CoreBranch
      q0 = with_queue (Hand v) [] (queue parts)

      abbrev q1 : Key → List CoreBranch
      q1 = with_queue (Parent n) (q0 (Parent n) ++ (parent' ∷ [])) q0

      abbrev q2 : Key → List CoreBranch
      q2 = with_queue (Hand v) (q1 (Hand v) ++ (oldest ∷ [])) q1

      abbrev q3 : Key → List CoreBranch
      q3 = with_queue (Row v) (q2 (Row v) ++ back) q2

      abbrev pool' : List Spot
      pool' = f.acts.gone.others ++ (spot (AtJoin n) (parent_behind b fork.cells fork.moves f.children f.rest) ∷ placed v (spawned n b fork.cells fork.moves 1 (suc b.at) (Child first more)))

      nobody : q0 (Parent n) ≡ []
      nobody = ap (λ o. parents_of o) (slice_get_past parts.joins n (let e = mirrors.count in omega (arith, e)))

      free-hand : q1 (Hand v) ≡ []
      free-hand = queue-same (Hand v) [] (queue parts)

      abbrev holds : ℕ → Option ℕ
      holds u = held_of (slice_get parts.workers u)

      shows-queues : ShowsPool items q3 holds pool'
      shows-queues =
          let one = put items q0 holds f.acts.gone.others f.acts.gone.rest (Parent n) (AtJoin n) parent' (parent_behind b fork.cells fork.moves f.children f.rest) (key-at-join n) parent-shows
          f.fits.0 (λ _. nobody) (λ u e. absurd (cc)) in
          let two = put items q1 holds (f.acts.gone.others ++ (spot (AtJoin n) (parent_behind b fork.cells fork.moves f.children f.rest) ∷ [])) one (Hand v) (Runs v) oldest _ (key-runs v)
          (shows-newborn items past root course v n b fork.cells fork.moves gives holds 1 (suc b.at) first (first-stands items (suc b.at) first more stands-all)) tt (λ _. free-hand)
          (λ u e. subst (λ (i : ℕ). Runs v ≡ in_hand_at i (holds i)) (cc) (sym (ap (in_hand_at v) (ap (λ o. held_of o) stands ∙ f.free)))) in
          let three = put-children items past root course v n b fork.cells fork.moves gives holds q2 _ two 2 (suc b.at + size first) more (more-stand items (suc b.at) first more stands-all) in
          subst (λ (p : List Spot). ShowsPool items q3 holds p)
          (append_assoc (f.acts.gone.others ++ (spot (AtJoin n) (parent_behind b fork.cells fork.moves f.children f.rest) ∷ [])) (_ ∷ []) _
          ∙ append_assoc f.acts.gone.others (_ ∷ []) _) three

      new-queue : (parts' : Parts) → parts'.workers ≡ set parts.workers v k' → parts'.cells ≡ parts.cells → parts'.joins ≡ parts.joins ++ (j' ∷ []) → (key : Key) → q3 key ≡ queue parts' key
      new-queue parts' workers cells joins (Hand u) =
          elim (each_way (nat_eq v u)) [
            | inl same ↦ ap (λ t. if t then q1 (Hand v) ++ (oldest ∷ []) else q1 (Hand u)) same ∙ ap (λ l. l ++ (oldest ∷ [])) free-hand ∙ sym hand-is
                ∙ sym (ap (λ t. if t then k'.hand else queue parts (Hand u)) same)
            | inr apart ↦ ap (λ t. if t then q1 (Hand v) ++ (oldest ∷ []) else q1 (Hand u)) apart ∙ ap (λ t. if t then [] else queue parts (Hand u)) apart
                ∙ sym (ap (λ t. if t then k'.hand else queue parts (Hand u)) apart)
          ]
          ∙ replaced parts v k' (worker-there items parts w mirrors v k stands) (Hand u) ∙ sym (ap (λ ws. hand_of (slice_get ws u)) workers)
      new-queue parts' workers cells joins (Row u) =
          elim (each_way (nat_eq v u)) [
            | inl same ↦ ap (λ t. if t then queue parts (Row v) ++ back else queue parts (Row u)) same ∙ ap (λ o. row_of o ++ back) stands ∙ sym list-is
                ∙ sym (ap (λ t. if t then k'.list else queue parts (Row u)) same)
            | inr apart ↦ ap (λ t. if t then queue parts (Row v) ++ back else queue parts (Row u)) apart
                ∙ sym (ap (λ t. if t then k'.list else queue parts (Row u)) apart)
          ]
          ∙ replaced parts v k' (worker-there items parts w mirrors v k stands) (Row u) ∙ sym (ap (λ ws. row_of (slice_get ws u)) workers)
      new-queue parts' workers cells joins (Waiting cell) = sym (ap (λ cs. Rattle.merc_core.specs.Queues.waiting_of (cs cell)) cells)
      new-queue parts' workers cells joins (Parent j) =
          ap (λ l. if nat_eq n j then l else queue parts (Parent j)) (ap (λ l. l ++ (parent' ∷ [])) nobody ∙ sym parent-is)
          ∙ pushed-parent parts.joins j' n j (sym mirrors.count) ∙ sym (ap (λ js. parents_of (slice_get js j)) joins)

      abbrev new-join : Join
      new-join = record { limit = fork.limit; children = f.children; behind = suc b.at + sizes f.children; parent = Some (record { join = b.join; child = b.child; name = b.name; passed = b.passed }) }

      abbrev grown : List Spot
      grown = f.acts.gone.others ++ (spot (AtJoin n) (parent_behind b fork.cells fork.moves f.children f.rest) ∷ placed v (spawned n b fork.cells fork.moves 1 (suc b.at) f.children))

      makes : (each : ℕ → List Cell → List Move → ℕ) → still_made each grown + each (count f.children) fork.cells fork.moves ≡ still_made each w.pool
      makes each =
          let t = still-takes each f.acts.gone.takes in let e = ap (made each) f.is in
          let a = still-append each f.acts.gone.others (spot (AtJoin n) (parent_behind b fork.cells fork.moves f.children f.rest) ∷ placed v (spawned n b fork.cells fork.moves 1 (suc b.at) f.children)) in
          let p = placed-made each v n b fork.cells fork.moves (suc b.at) f.children in omega (arith, t, e, a, p)

      long : length grown ≡ length w.pool + count f.children
      long =
          let t = takes-length f.acts.gone.takes in
          let a = length-append f.acts.gone.others (spot (AtJoin n) (parent_behind b fork.cells fork.moves f.children f.rest) ∷ placed v (spawned n b fork.cells fork.moves 1 (suc b.at) f.children)) in
          let p = placed-length v n b fork.cells fork.moves (suc b.at) f.children in omega (arith, t, a, p)

      pub forked-shows : j'.limit ≡ fork.limit → j'.outcomes ≡ not_stored fork.children []
          → (parts' : Parts) → parts'.workers ≡ set parts.workers v k' → parts'.cells ≡ parts.cells → parts'.joins ≡ parts.joins ++ (j' ∷ []) → parts.room ≤ parts'.room
          → length parts'.branches + fork.children ≡ length parts.branches → length parts'.outcomes + fork.children ≡ length parts.outcomes → length parts.rights ≤ length parts'.rights + (length fork.cells + length fork.moves) → length parts'.rights ≤ length parts.rights
          → Mirrors items parts' (forked w v b f.acts.gone.others fork.limit fork.cells fork.moves f.children f.rest)
      forked-shows limit outcomes parts' workers cells joins room branches-left outcomes-left rights-left rights-less = record {
        workers = ap (λ (ws : List Worker). length ws) workers ∙ length-set parts.workers v k' ∙ mirrors.workers;
        pool = same-queues items _ _ _ _ _ (new-queue parts' workers cells joins) (λ u. same-held u ∙ sym (ap (λ (ws : List Worker). held_of (slice_get ws u)) workers))
            (subst (λ (ch : Children). ShowsPool items q3 holds (f.acts.gone.others ++ (spot (AtJoin n) (parent_behind b fork.cells fork.moves f.children f.rest) ∷ placed v (spawned n b fork.cells fork.moves 1 (suc b.at) ch)))) (sym family) shows-queues);
        cells = λ cell. subst (λ (cs : ℕ → Option CoreCell). ShowsCell cell w.full w.poisoned (cs cell)) (sym cells) (mirrors.cells cell);
        waits = λ place cell item. subst (λ (cs : ℕ → Option CoreCell). IsSome (cs cell)) (sym cells) (mirrors.waits place cell item);
        joins = λ number. subst (λ (js : List CoreJoin). ShowsJoin w.stored number (slice_get js number) (slice_get (w.joins ++ (new-join ∷ [])) number)) (sym joins)
            (grown-together (λ i. ShowsJoin w.stored i) parts.joins w.joins j' new-join mirrors.count mirrors.joins (record {
              limit = limit;
              small = f.fits.1;
              outcomes = outcomes ∙ ap (λ i. not_stored i []) f.many ∙ none-stored w.stored n (λ child. fresh-none n w.stored child fit.stored) 1 f.children;
              few = subst (AllByRecursion FewIf) (sym outcomes) (few-none fork.children [] tt);
              children = f.fits.3;
            }) number);
        count = (let a = ap (λ (js : List CoreJoin). length js) joins in let c = length-append parts.joins (j' ∷ []) in let d = length-append w.joins (new-join ∷ []) in let e = mirrors.count in omega (arith, a, c, d, e));
        has_room = let r = mirrors.has_room in let m = f.many in record {
          branches = (let a = makes branches_made in let d = r.branches in omega (arith, a, d, m, branches-left));
          outcomes = (let a = makes branches_made in let d = r.outcomes in omega (arith, a, d, m, outcomes-left));
          rights = (let a = makes rights_made in let d = r.rights in omega (arith, a, d, rights-left));
          joins = (let a = makes joins_made in let d = r.joins in let e = length-append w.joins (new-join ∷ []) in omega (arith, a, d, e, room));
          crowd = (let a = long in let d = r.crowd in omega (arith, a, d, m, branches-left));
          many = (let d = r.many in omega (arith, d, rights-less));
        };
      }

  pub joins-room : (fork : ForkData) → Forks fork → length parts.joins < parts.room
  joins-room fork f =
      let t = still-takes joins_made f.acts.gone.takes in let e = ap (made joins_made) f.is in let r = mirrors.has_room.joins in let m = mirrors.count in omega (arith, t, e, r, m)

  -- there is room behind the list of the worker for the children
  pub row-room : (fork : ForkData) → Forks fork → length k.list + fork.children < 2 ^ 63
  row-room fork f =
      let a = show-length items (queue parts (Row v)) (filter (stands_in (Row v)) w.pool) (mirrors.pool.each (Row v)) in
      let e = ap (λ o. length (row_of o)) stands in let l = filter-length (stands_in (Row v)) w.pool in
      let r = (fork-room fork f).0 in let d = mirrors.has_room.crowd in omega (arith, a, e, l, r, d)

  pub fork-done : (past : List ℕ) (root : Script) (course : IsCourse items past root) (fork : ForkData) (f : Forks fork) (k' : Worker) → k'.held ≡ k.held → (born : List CoreBranch)
      → born ≡ born_from past (length parts.joins) fork.cells fork.moves 1 (f.c.at + 1) fork.children [] → k'.hand ≡ drop (length born - 1) born → k'.list ≡ k.list ++ take (length born - 1) born
      → (j' : CoreJoin) → j'.parent ≡ (record f.c { at = past_scripts past (f.c.at + 1) fork.children }) ∷ [] → j'.limit ≡ fork.limit → j'.outcomes ≡ not_stored fork.children []
      → (parts' : Parts) → parts'.workers ≡ set parts.workers v k' → parts'.cells ≡ parts.cells → parts'.joins ≡ parts.joins ++ (j' ∷ []) → parts.room ≤ parts'.room
      → length parts'.branches + fork.children ≡ length parts.branches → length parts'.outcomes + fork.children ≡ length parts.outcomes → length parts.rights ≤ length parts'.rights + (length fork.cells + length fork.moves) → length parts'.rights ≤ length parts.rights
      → (after : World) × (happens w (Fork v) ≡ Ok after) × Mirrors items parts' after
  fork-done past root course fork f k' held-same born born-is hand list j' parent-is limit outcomes parts' workers cells joins room branches-left outcomes-left rights-left rights-less =
      let g = family-of f.children f.fits.2 in (
        forked w v f.acts.gone.x.branch f.acts.gone.others fork.limit fork.cells fork.moves f.children f.rest,
        runs-on items parts w mirrors v k stands f.c f.acts _ ∙ ap (λ s. fork_on w v s f.acts.gone.x.branch f.acts.gone.others) f.is,
        forked-shows past root course fork f k' held-same g.0 g.1 g.2 born born-is hand list j'
            (parent-is ∙ ap (λ i. (record f.c { at = past_scripts past (f.c.at + 1) i }) ∷ []) f.many)
            limit outcomes parts' workers cells joins room branches-left outcomes-left rights-left rights-less,
      )
