-- The course of a goal belongs to the course of a branch, and the rights that are left to the branch find the cells that its course has. Rights that were used stay used,
-- where a branch's course goes back to what it held before.
use Rattle.std.proofs.Common.{◌≡◌, ℕ, suc, ◌+◌, ◌≤◌, ◌<◌, Bool, true, false, if◌then◌else◌, List, [], ◌∷◌, ◌++◌, length, refl, ap, sym, subst}
use Rattle.std.specs.Prelude.{Some, None, ◌==◌, not}
use Rattle.merc_value.specs.Value.{Value}
use Rattle.merc_meaning.specs.Trace.{Env, End, Done, Raised as RaisedEnd, TooDeep as TooDeepEnd}
use Rattle.merc_core.specs.Rights.{has}
use Rattle.merc_core.specs.WellFormed.{AreDistinct}
use Rattle.merc_course.specs.Course.{GoalCourse, Ends, Tick, Answer, Meets, AtWait, AtSignal, AtFork, Reply, Given, Passed, Joined, Courses, no_courses, more_courses, after, each, taken_back, first_alone, choose, negated, closed}
use Rattle.merc_course.specs.Courses.{once_if}
use Rattle.merc_rights.specs.declared.sites.SiteInfo.{SiteInfo}
use Rattle.merc_board.specs.Rights.{Due, Owed, Rights, own_waits, child_for, stays, waits_kept, signals_kept, child_rights}
use Rattle.merc_plan.specs.Branch.{Hold, Fork, BranchCourse, BranchCourses, Over, Breaks, Steps, Finds, Awaits, Gives, Forks, no_branches, more_branches, Raised, TooDeep, Starving, after as b_after, each as b_each, taken_back as b_taken, first_alone as b_first, choose as b_choose, negated as b_negated, closed as b_closed}
use Rattle.merc_plan.specs.Hold.{named}
use Rattle.merc_plan.specs.Branches.{Plan, once_if as b_once_if}
use Rattle.merc_plan.proofs.Judging.{kid_count}
use Rattle.merc_carried.specs.Sharing.{shared_of, given_of}
use Rattle.merc_branch_laws.proofs.Parts.{Part, part_same, part_both, part_filter, filter_part}
use Rattle.merc_branch_laws.proofs.Finding.{due_cells, owed_cells, first_for, rest_for, rest_part, rest_more, dues, best_for, without_owed, owing}
use Rattle.merc_branch_laws.proofs.Handing.{names_from, HandsOver}

-- What is left of rights.

abbrev pub ArePart : Rights → Rights → Type 0
ArePart fewer rights = Part Due fewer.waits rights.waits × Part Owed fewer.signals rights.signals

pub are_same : (rights : Rights) → ArePart rights rights
are_same rights = (part_same rights.waits, part_same rights.signals)

pub are_both : (one other third : Rights) → ArePart one other → ArePart other third → ArePart one third
are_both one other third p q = (part_both one.waits other.waits third.waits p.0 q.0, part_both one.signals other.signals third.signals p.1 q.1)

-- Behind a wait that looks among pending rights first: those behind the pending ones.
abbrev pub past : ℕ → List Due → List Due → List Due
past x [] waits = rest_for x waits
past x (first ∷ pending) waits = if first.variable == x then waits else past x pending waits

pub past_part : (x : ℕ) (pending waits : List Due) → Part Due (past x pending waits) waits
past_part x [] waits = rest_part x waits
past_part x (first ∷ pending) waits = on (first.variable == x) (past_part x pending waits)
  where
    on : (b : Bool) → Part Due (past x pending waits) waits → Part Due (if b then waits else past x pending waits) waits
    on true p = part_same waits
    on false p = p

pub past_more : (x : ℕ) (pending fewer waits : List Due) → Part Due fewer waits → Part Due (past x pending fewer) (past x pending waits)
past_more x [] fewer waits p = rest_more x fewer waits p
past_more x (first ∷ pending) fewer waits p = on (first.variable == x) (past_more x pending fewer waits p)
  where
    on : (b : Bool) → Part Due (past x pending fewer) (past x pending waits) → Part Due (if b then fewer else past x pending fewer) (if b then waits else past x pending waits)
    on true q = p
    on false q = q

pub rest_past : (x : ℕ) (pending waits : List Due) → rest_for x (pending ++ waits) ≡ rest_for x pending ++ past x pending waits
rest_past x [] waits = refl
rest_past x (first ∷ pending) waits = on (first.variable == x) (rest_past x pending waits)
  where
    on : (b : Bool) → rest_for x (pending ++ waits) ≡ rest_for x pending ++ past x pending waits
        → (if b then pending ++ waits else first ∷ rest_for x (pending ++ waits)) ≡ (if b then pending else first ∷ rest_for x pending) ++ (if b then waits else past x pending waits)
    on true e = refl
    on false e = ap (λ (l : List Due). first ∷ l) e

abbrev pub behind_wait : ℕ → List Due → Rights → Rights
behind_wait x pending left = record { waits = past x pending left.waits; signals = left.signals }

abbrev pub behind_signal : ℕ → Rights → Rights
behind_signal c left = record { waits = left.waits; signals = without_owed c left.signals }

abbrev pub behind_fork : SiteInfo → Rights → Rights
behind_fork info left = record { waits = waits_kept (given_of info) left.waits; signals = signals_kept (given_of info) left.signals }

wait_less : (x : ℕ) (pending : List Due) (left : Rights) → ArePart (behind_wait x pending left) left
wait_less x pending left = (past_part x pending left.waits, part_same left.signals)

signal_less : (c : ℕ) (left : Rights) → ArePart (behind_signal c left) left
signal_less c left = (part_same left.waits, filter_part (λ (one : Owed). not (one.cell == c)) left.signals)

fork_less : (info : SiteInfo) (left : Rights) → ArePart (behind_fork info left) left
fork_less info left = (
  filter_part (λ (right : Due). stays (child_for false right.variable (given_of info))) left.waits,
  filter_part (λ (right : Owed). stays (child_for true right.variable (given_of info))) left.signals,
)

wait_more : (x : ℕ) (pending : List Due) (fewer left : Rights) → ArePart fewer left → ArePart (behind_wait x pending fewer) (behind_wait x pending left)
wait_more x pending fewer left p = (past_more x pending fewer.waits left.waits p.0, p.1)

signal_more : (c : ℕ) (fewer left : Rights) → ArePart fewer left → ArePart (behind_signal c fewer) (behind_signal c left)
signal_more c fewer left p = (p.0, part_filter (λ (one : Owed). not (one.cell == c)) fewer.signals left.signals p.1)

pub fork_more : (info : SiteInfo) (fewer left : Rights) → ArePart fewer left → ArePart (behind_fork info fewer) (behind_fork info left)
fork_more info fewer left p = (
  part_filter (λ (right : Due). stays (child_for false right.variable (given_of info))) fewer.waits left.waits p.0,
  part_filter (λ (right : Owed). stays (child_for true right.variable (given_of info))) fewer.signals left.signals p.1,
)

-- What a branch holds covers what is left to it, where these are rights of the goals that it holds them for; in the body of a called procedure it holds none but pending ones.
abbrev pub Covers : (A : Type 0) → Bool → List A → List A → Type 0
Covers A true left held = Part A left held
Covers A false left held = held ≡ []

pub covers_less : {A : Type 0} (frame : Bool) (fewer left held : List A) → Part A fewer left → Covers A frame left held → Covers A frame fewer held
covers_less true fewer left held p q = part_both fewer left held p q
covers_less false fewer left held p q = q

-- next: names of own cells of a fork are from this number on; pending: own cells of a fork just before, for which it is to wait first; left: the other rights.
pub record Holds (next : ℕ) (frame : Bool) (pending : List Due) (left : Rights) (hold : Hold) : Type 0 where
  pub begins : hold.next ≡ next
  pub some : 1 ≤ next
  pub others : List Due
  pub waits : dues hold.waits ≡ pending ++ others
  pub covers_waits : Covers Due frame left.waits others
  pub covers_signals : Covers Owed frame left.signals (owing hold.signals)
  pub wait_cells : AreDistinct (due_cells (pending ++ others))
  pub signal_cells : AreDistinct (owed_cells (owing hold.signals))
  pub low_waits : (c : ℕ) → has c (due_cells others) ≡ true → c < next
  pub low_signals : (c : ℕ) → has c (owed_cells (owing hold.signals)) ≡ true → c < next

pub holds_less : (next : ℕ) (frame : Bool) (pending : List Due) (fewer left : Rights) (hold : Hold) → ArePart fewer left → Holds next frame pending left hold → Holds next frame pending fewer hold
holds_less next frame pending fewer left hold p h = record {
  begins = h.begins;
  some = h.some;
  others = h.others;
  waits = h.waits;
  covers_waits = covers_less frame fewer.waits left.waits h.others p.0 h.covers_waits;
  covers_signals = covers_less frame fewer.signals left.signals (owing hold.signals) p.1 h.covers_signals;
  wait_cells = h.wait_cells;
  signal_cells = h.signal_cells;
  low_waits = h.low_waits;
  low_signals = h.low_signals;
}

-- Among all that is left of the rights, if the cell is still there, its right is the one that is found. Cell 0 is none.
abbrev pub SeesWait : List Due → List Due → ℕ → ℕ → Type 0
SeesWait pending waits x c =
    (fewer : List Due) → Part Due fewer waits → has 0 (due_cells (pending ++ fewer)) ≡ false → has c (due_cells (pending ++ fewer)) ≡ true → first_for x (pending ++ fewer) ≡ Some c

abbrev pub SeesSignal : List Owed → ℕ → ℕ → Type 0
SeesSignal signals x c =
    (fewer : List Owed) → Part Owed fewer signals → has 0 (owed_cells fewer) ≡ false → has c (owed_cells fewer) ≡ true → (o : Owed) × ((best_for x fewer ≡ Some o) × (o.cell ≡ c))

module _ (plan : Plan) where
  mutual
    pub data Looks : ℕ → Bool → List Due → Rights → GoalCourse → BranchCourse → Type 0 where
      looks_done : (next : ℕ) (frame : Bool) (left : Rights) → Looks next frame [] left (Ends Done) Over
      looks_raised : (next : ℕ) (frame : Bool) (pending : List Due) (left : Rights) (text : ℕ) → Looks next frame pending left (Ends (RaisedEnd text)) (Breaks (Raised text))
      looks_deep : (next : ℕ) (frame : Bool) (pending : List Due) (left : Rights) → Looks next frame pending left (Ends TooDeepEnd) (Breaks TooDeep)
      looks_step : (next : ℕ) (frame : Bool) (left : Rights) (t : GoalCourse) (t' : BranchCourse) → Looks next frame [] left t t' → Looks next frame [] left (Tick t) (Steps t')
      looks_found : (next : ℕ) (frame : Bool) (left : Rights) (hold : Hold) (t : GoalCourse) (t' : BranchCourse)
          → Holds next frame [] left hold → Looks next frame [] left t t' → Looks next frame [] left (Answer hold.env t) (Finds hold t')
      looks_wait : (next : ℕ) (frame : Bool) (pending : List Due) (left : Rights) (x c : ℕ) (v : Value) (ks : Courses End) (f : Reply → GoalCourse) (t' : BranchCourse)
          → SeesWait pending left.waits x c → Looks next frame (rest_for x pending) (behind_wait x pending left) (f (Given v)) t'
          → Looks next frame pending left (Meets (AtWait x) ks f) (Awaits c (Some v) t')
      looks_starve : (next : ℕ) (frame : Bool) (pending : List Due) (left : Rights) (x c : ℕ) (ks : Courses End) (f : Reply → GoalCourse)
          → SeesWait pending left.waits x c → Looks next frame pending left (Meets (AtWait x) ks f) (Awaits c None (Breaks Starving))
      looks_signal : (next : ℕ) (frame : Bool) (left : Rights) (x c : ℕ) (v : Value) (ks : Courses End) (f : Reply → GoalCourse) (t' : BranchCourse)
          → SeesSignal left.signals x c → Looks next frame [] (behind_signal c left) (f Passed) t'
          → Looks next frame [] left (Meets (AtSignal x v) ks f) (Gives c v t')
      looks_fork : (next : ℕ) (frame : Bool) (left : Rights) (site : ℕ) (info : SiteInfo) (y : Fork) (ks : Courses End) (f : Reply → GoalCourse) (kids : BranchCourses) (t' : BranchCourse)
          → plan site ≡ Some info → info.children ≡ kid_count kids → y.cells ≡ named next info.cells → ((fewer : Rights) → ArePart fewer left → HandsOver (given_of info) y.moves fewer)
          → LookAll info next left 1 ks kids
          → ((steps : ℕ) → Looks next frame (own_waits 0 (shared_of info) (names_from next info.cells)) (behind_fork info left) (f (Joined steps)) t')
          → Looks next frame [] left (Meets (AtFork site) ks f) (Forks site y kids t')

    -- the conjuncts from this number on, each with what it is dealt of all that may be left
    pub data LookAll : SiteInfo → ℕ → Rights → ℕ → Courses End → BranchCourses → Type 0 where
      look_none : (info : SiteInfo) (next : ℕ) (left : Rights) (k : ℕ) → LookAll info next left k no_courses no_branches
      look_more : (info : SiteInfo) (next : ℕ) (left : Rights) (k : ℕ) (t : GoalCourse) (ts : Courses End) (t' : BranchCourse) (more : BranchCourses)
          → ((fewer : Rights) → ArePart fewer left
          → Looks (next + length info.cells) true [] (child_rights (shared_of info) (given_of info) (names_from next info.cells) fewer k) t (b_closed t'))
          → LookAll info next left (suc k) ts more → LookAll info next left k (more_courses t ts) (more_branches t' more)

  look_less : (info : SiteInfo) (next : ℕ) (fewer left : Rights) (k : ℕ) (ts : Courses End) (kids : BranchCourses) → ArePart fewer left → LookAll info next left k ts kids → LookAll info next fewer k ts kids
  look_less info next fewer left k ts kids p (look_none _ _ _ _) = look_none info next fewer k
  look_less info next fewer left k _ _ p (look_more _ _ _ _ t ts t' more s ss) =
      look_more info next fewer k t ts t' more (λ less q. s less (are_both less fewer left q p)) (look_less info next fewer left (suc k) ts more p ss)

  pub looks_less : (next : ℕ) (frame : Bool) (pending : List Due) (fewer left : Rights) (t : GoalCourse) (t' : BranchCourse) → ArePart fewer left → Looks next frame pending left t t'
      → Looks next frame pending fewer t t'
  looks_less next frame pending fewer left t t' p (looks_done _ _ _) = looks_done next frame fewer
  looks_less next frame pending fewer left t t' p (looks_raised _ _ _ _ text) = looks_raised next frame pending fewer text
  looks_less next frame pending fewer left t t' p (looks_deep _ _ _ _) = looks_deep next frame pending fewer
  looks_less next frame pending fewer left t t' p (looks_step _ _ _ t1 t2 s) = looks_step next frame fewer t1 t2 (looks_less next frame [] fewer left t1 t2 p s)
  looks_less next frame pending fewer left t t' p (looks_found _ _ _ hold t1 t2 h s) =
      looks_found next frame fewer hold t1 t2 (holds_less next frame [] fewer left hold p h) (looks_less next frame [] fewer left t1 t2 p s)
  looks_less next frame pending fewer left t t' p (looks_wait _ _ _ _ x c v ks f t2 sees s) =
      looks_wait next frame pending fewer x c v ks f t2 (λ less q. sees less (part_both less fewer.waits left.waits q p.0))
      (looks_less next frame (rest_for x pending) (behind_wait x pending fewer) (behind_wait x pending left) (f (Given v)) t2 (wait_more x pending fewer left p) s)
  looks_less next frame pending fewer left t t' p (looks_starve _ _ _ _ x c ks f sees) =
      looks_starve next frame pending fewer x c ks f (λ less q. sees less (part_both less fewer.waits left.waits q p.0))
  looks_less next frame pending fewer left t t' p (looks_signal _ _ _ x c v ks f t2 sees s) =
      looks_signal next frame fewer x c v ks f t2 (λ less q. sees less (part_both less fewer.signals left.signals q p.1))
      (looks_less next frame [] (behind_signal c fewer) (behind_signal c left) (f Passed) t2 (signal_more c fewer left p) s)
  looks_less next frame pending fewer left t t' p (looks_fork _ _ _ site info y ks f kids t2 is counted cells hands all s) =
      looks_fork next frame fewer site info y ks f kids t2 is counted cells (λ less q. hands less (are_both less fewer left q p)) (look_less info next fewer left 1 ks kids p all)
      (λ n. looks_less next frame (own_waits 0 (shared_of info) (names_from next info.cells)) (behind_fork info fewer) (behind_fork info left) (f (Joined n)) t2 (fork_more info fewer left p) (s n))

  -- under the combinators

  pub looks_after : (next : ℕ) (frame : Bool) (pending : List Due) (left : Rights) (t u : GoalCourse) (t' u' : BranchCourse) → Looks next frame pending left t t'
      → ((fewer : Rights) → ArePart fewer left → Looks next frame [] fewer u u') → Looks next frame pending left (after t u) (b_after t' u')
  looks_after next frame pending left t u t' u' (looks_done _ _ _) q = q left (are_same left)
  looks_after next frame pending left t u t' u' (looks_raised _ _ _ _ text) q = looks_raised next frame pending left text
  looks_after next frame pending left t u t' u' (looks_deep _ _ _ _) q = looks_deep next frame pending left
  looks_after next frame pending left t u t' u' (looks_step _ _ _ t1 t2 s) q = looks_step next frame left _ _ (looks_after next frame [] left t1 u t2 u' s q)
  looks_after next frame pending left t u t' u' (looks_found _ _ _ hold t1 t2 h s) q = looks_found next frame left hold _ _ h (looks_after next frame [] left t1 u t2 u' s q)
  looks_after next frame pending left t u t' u' (looks_wait _ _ _ _ x c v ks f t2 sees s) q =
      looks_wait next frame pending left x c v ks _ _ sees
      (looks_after next frame (rest_for x pending) (behind_wait x pending left) (f (Given v)) u t2 u' s (λ fewer p. q fewer (are_both fewer (behind_wait x pending left) left p (wait_less x pending left))))
  looks_after next frame pending left t u t' u' (looks_starve _ _ _ _ x c ks f sees) q = looks_starve next frame pending left x c ks _ sees
  looks_after next frame pending left t u t' u' (looks_signal _ _ _ x c v ks f t2 sees s) q =
      looks_signal next frame left x c v ks _ _ sees
      (looks_after next frame [] (behind_signal c left) (f Passed) u t2 u' s (λ fewer p. q fewer (are_both fewer (behind_signal c left) left p (signal_less c left))))
  looks_after next frame pending left t u t' u' (looks_fork _ _ _ site info y ks f kids t2 is counted cells hands all s) q =
      looks_fork next frame left site info y ks _ kids _ is counted cells hands all
      (λ n. looks_after next frame (own_waits 0 (shared_of info) (names_from next info.cells)) (behind_fork info left) (f (Joined n)) u t2 u' (s n)
      (λ fewer p. q fewer (are_both fewer (behind_fork info left) left p (fork_less info left))))

  pub looks_each : (next : ℕ) (frame : Bool) (F : Env → GoalCourse) (F' : Hold → BranchCourse)
      → ((hold : Hold) (left : Rights) → Holds next frame [] left hold → Looks next frame [] left (F hold.env) (F' hold))
      → (pending : List Due) (left : Rights) (t : GoalCourse) (t' : BranchCourse) → Looks next frame pending left t t' → Looks next frame pending left (each F t) (b_each F' t')
  looks_each next frame F F' h pending left t t' (looks_done _ _ _) = looks_done next frame left
  looks_each next frame F F' h pending left t t' (looks_raised _ _ _ _ text) = looks_raised next frame pending left text
  looks_each next frame F F' h pending left t t' (looks_deep _ _ _ _) = looks_deep next frame pending left
  looks_each next frame F F' h pending left t t' (looks_step _ _ _ t1 t2 s) = looks_step next frame left _ _ (looks_each next frame F F' h [] left t1 t2 s)
  looks_each next frame F F' h pending left t t' (looks_found _ _ _ hold t1 t2 is s) =
      looks_after next frame [] left (F hold.env) (each F t1) (F' hold) (b_each F' t2) (h hold left is)
      (λ fewer p. looks_less next frame [] fewer left (each F t1) (b_each F' t2) p (looks_each next frame F F' h [] left t1 t2 s))
  looks_each next frame F F' h pending left t t' (looks_wait _ _ _ _ x c v ks f t2 sees s) =
      looks_wait next frame pending left x c v ks _ _ sees (looks_each next frame F F' h (rest_for x pending) (behind_wait x pending left) (f (Given v)) t2 s)
  looks_each next frame F F' h pending left t t' (looks_starve _ _ _ _ x c ks f sees) = looks_starve next frame pending left x c ks _ sees
  looks_each next frame F F' h pending left t t' (looks_signal _ _ _ x c v ks f t2 sees s) =
      looks_signal next frame left x c v ks _ _ sees (looks_each next frame F F' h [] (behind_signal c left) (f Passed) t2 s)
  looks_each next frame F F' h pending left t t' (looks_fork _ _ _ site info y ks f kids t2 is counted cells hands all s) =
      looks_fork next frame left site info y ks _ kids _ is counted cells hands all
      (λ n. looks_each next frame F F' h (own_waits 0 (shared_of info) (names_from next info.cells)) (behind_fork info left) (f (Joined n)) t2 (s n))

  -- of a called procedure's body
  pub looks_taken : (next : ℕ) (frame other : Bool) (F : Env → Env) (F' : Hold → Hold) → ((hold : Hold) → F hold.env ≡ (F' hold).env)
      → (pending : List Due) (left : Rights) (t : GoalCourse) (t' : BranchCourse) → ((fewer : Rights) → ArePart fewer left → (hold : Hold) → Holds next other [] fewer (F' hold))
      → Looks next frame pending left t t' → Looks next other pending left (taken_back F t) (b_taken F' t')
  looks_taken next frame other F F' same pending left t t' h (looks_done _ _ _) = looks_done next other left
  looks_taken next frame other F F' same pending left t t' h (looks_raised _ _ _ _ text) = looks_raised next other pending left text
  looks_taken next frame other F F' same pending left t t' h (looks_deep _ _ _ _) = looks_deep next other pending left
  looks_taken next frame other F F' same pending left t t' h (looks_step _ _ _ t1 t2 s) = looks_step next other left _ _ (looks_taken next frame other F F' same [] left t1 t2 h s)
  looks_taken next frame other F F' same pending left t t' h (looks_found _ _ _ hold t1 t2 is s) =
      subst (λ (env : Env). Looks next other [] left (Answer env (taken_back F t1)) (Finds (F' hold) (b_taken F' t2))) (sym (same hold))
      (looks_found next other left (F' hold) _ _ (h left (are_same left) hold) (looks_taken next frame other F F' same [] left t1 t2 h s))
  looks_taken next frame other F F' same pending left t t' h (looks_wait _ _ _ _ x c v ks f t2 sees s) =
      looks_wait next other pending left x c v ks _ _ sees
      (looks_taken next frame other F F' same (rest_for x pending) (behind_wait x pending left) (f (Given v)) t2 (λ fewer p. h fewer (are_both fewer (behind_wait x pending left) left p (wait_less x pending left))) s)
  looks_taken next frame other F F' same pending left t t' h (looks_starve _ _ _ _ x c ks f sees) = looks_starve next other pending left x c ks _ sees
  looks_taken next frame other F F' same pending left t t' h (looks_signal _ _ _ x c v ks f t2 sees s) =
      looks_signal next other left x c v ks _ _ sees
      (looks_taken next frame other F F' same [] (behind_signal c left) (f Passed) t2 (λ fewer p. h fewer (are_both fewer (behind_signal c left) left p (signal_less c left))) s)
  looks_taken next frame other F F' same pending left t t' h (looks_fork _ _ _ site info y ks f kids t2 is counted cells hands all s) =
      looks_fork next other left site info y ks _ kids _ is counted cells hands all
      (λ n. looks_taken next frame other F F' same (own_waits 0 (shared_of info) (names_from next info.cells)) (behind_fork info left) (f (Joined n)) t2
      (λ fewer p. h fewer (are_both fewer (behind_fork info left) left p (fork_less info left))) (s n))

  looks_first : (next : ℕ) (frame : Bool) (pending : List Due) (left : Rights) (t : GoalCourse) (t' : BranchCourse) → Looks next frame pending left t t'
      → Looks next frame pending left (first_alone t) (b_first t')
  looks_first next frame pending left t t' (looks_done _ _ _) = looks_done next frame left
  looks_first next frame pending left t t' (looks_raised _ _ _ _ text) = looks_raised next frame pending left text
  looks_first next frame pending left t t' (looks_deep _ _ _ _) = looks_deep next frame pending left
  looks_first next frame pending left t t' (looks_step _ _ _ t1 t2 s) = looks_step next frame left _ _ (looks_first next frame [] left t1 t2 s)
  looks_first next frame pending left t t' (looks_found _ _ _ hold t1 t2 h s) = looks_found next frame left hold _ _ h (looks_done next frame left)
  looks_first next frame pending left t t' (looks_wait _ _ _ _ x c v ks f t2 sees s) =
      looks_wait next frame pending left x c v ks _ _ sees (looks_first next frame (rest_for x pending) (behind_wait x pending left) (f (Given v)) t2 s)
  looks_first next frame pending left t t' (looks_starve _ _ _ _ x c ks f sees) = looks_starve next frame pending left x c ks _ sees
  looks_first next frame pending left t t' (looks_signal _ _ _ x c v ks f t2 sees s) = looks_signal next frame left x c v ks _ _ sees (looks_first next frame [] (behind_signal c left) (f Passed) t2 s)
  looks_first next frame pending left t t' (looks_fork _ _ _ site info y ks f kids t2 is counted cells hands all s) =
      looks_fork next frame left site info y ks _ kids _ is counted cells hands all
      (λ n. looks_first next frame (own_waits 0 (shared_of info) (names_from next info.cells)) (behind_fork info left) (f (Joined n)) t2 (s n))

  pub looks_once : (b : Bool) (next : ℕ) (frame : Bool) (pending : List Due) (left : Rights) (t : GoalCourse) (t' : BranchCourse) → Looks next frame pending left t t'
      → Looks next frame pending left (once_if b t) (b_once_if b t')
  looks_once true next frame pending left t t' s = looks_first next frame pending left t t' s
  looks_once false next frame pending left t t' s = s

  pub looks_choose : (next : ℕ) (frame : Bool) (F : Env → GoalCourse) (F' : Hold → BranchCourse)
      → ((hold : Hold) (left : Rights) → Holds next frame [] left hold → Looks next frame [] left (F hold.env) (F' hold))
      → (u : GoalCourse) (u' : BranchCourse) (pending : List Due) (left : Rights) → ((fewer : Rights) → ArePart fewer left → Looks next frame [] fewer u u')
      → (t : GoalCourse) (t' : BranchCourse) → Looks next frame pending left t t' → Looks next frame pending left (choose F u t) (b_choose F' u' t')
  looks_choose next frame F F' h u u' pending left q t t' (looks_done _ _ _) = q left (are_same left)
  looks_choose next frame F F' h u u' pending left q t t' (looks_raised _ _ _ _ text) = looks_raised next frame pending left text
  looks_choose next frame F F' h u u' pending left q t t' (looks_deep _ _ _ _) = looks_deep next frame pending left
  looks_choose next frame F F' h u u' pending left q t t' (looks_step _ _ _ t1 t2 s) = looks_step next frame left _ _ (looks_choose next frame F F' h u u' [] left q t1 t2 s)
  looks_choose next frame F F' h u u' pending left q t t' (looks_found _ _ _ hold t1 t2 is s) =
      looks_after next frame [] left (F hold.env) (each F t1) (F' hold) (b_each F' t2) (h hold left is)
      (λ fewer p. looks_less next frame [] fewer left (each F t1) (b_each F' t2) p (looks_each next frame F F' h [] left t1 t2 s))
  looks_choose next frame F F' h u u' pending left q t t' (looks_wait _ _ _ _ x c v ks f t2 sees s) =
      looks_wait next frame pending left x c v ks _ _ sees
      (looks_choose next frame F F' h u u' (rest_for x pending) (behind_wait x pending left) (λ fewer p. q fewer (are_both fewer (behind_wait x pending left) left p (wait_less x pending left))) (f (Given v)) t2 s)
  looks_choose next frame F F' h u u' pending left q t t' (looks_starve _ _ _ _ x c ks f sees) = looks_starve next frame pending left x c ks _ sees
  looks_choose next frame F F' h u u' pending left q t t' (looks_signal _ _ _ x c v ks f t2 sees s) =
      looks_signal next frame left x c v ks _ _ sees
      (looks_choose next frame F F' h u u' [] (behind_signal c left) (λ fewer p. q fewer (are_both fewer (behind_signal c left) left p (signal_less c left))) (f Passed) t2 s)
  looks_choose next frame F F' h u u' pending left q t t' (looks_fork _ _ _ site info y ks f kids t2 is counted cells hands all s) =
      looks_fork next frame left site info y ks _ kids _ is counted cells hands all
      (λ n. looks_choose next frame F F' h u u' (own_waits 0 (shared_of info) (names_from next info.cells)) (behind_fork info left)
      (λ fewer p. q fewer (are_both fewer (behind_fork info left) left p (fork_less info left))) (f (Joined n)) t2 (s n))

  pub looks_negated : (next : ℕ) (frame : Bool) (hold : Hold) (pending : List Due) (left : Rights) → ((fewer : Rights) → ArePart fewer left → Holds next frame [] fewer hold)
      → (t : GoalCourse) (t' : BranchCourse) → Looks next frame pending left t t' → Looks next frame pending left (negated hold.env t) (b_negated hold t')
  looks_negated next frame hold pending left h t t' (looks_done _ _ _) = looks_found next frame left hold _ _ (h left (are_same left)) (looks_done next frame left)
  looks_negated next frame hold pending left h t t' (looks_raised _ _ _ _ text) = looks_raised next frame pending left text
  looks_negated next frame hold pending left h t t' (looks_deep _ _ _ _) = looks_deep next frame pending left
  looks_negated next frame hold pending left h t t' (looks_step _ _ _ t1 t2 s) = looks_step next frame left _ _ (looks_negated next frame hold [] left h t1 t2 s)
  looks_negated next frame hold pending left h t t' (looks_found _ _ _ found t1 t2 is s) = looks_done next frame left
  looks_negated next frame hold pending left h t t' (looks_wait _ _ _ _ x c v ks f t2 sees s) =
      looks_wait next frame pending left x c v ks _ _ sees
      (looks_negated next frame hold (rest_for x pending) (behind_wait x pending left) (λ fewer p. h fewer (are_both fewer (behind_wait x pending left) left p (wait_less x pending left))) (f (Given v)) t2 s)
  looks_negated next frame hold pending left h t t' (looks_starve _ _ _ _ x c ks f sees) = looks_starve next frame pending left x c ks _ sees
  looks_negated next frame hold pending left h t t' (looks_signal _ _ _ x c v ks f t2 sees s) =
      looks_signal next frame left x c v ks _ _ sees
      (looks_negated next frame hold [] (behind_signal c left) (λ fewer p. h fewer (are_both fewer (behind_signal c left) left p (signal_less c left))) (f Passed) t2 s)
  looks_negated next frame hold pending left h t t' (looks_fork _ _ _ site info y ks f kids t2 is counted cells hands all s) =
      looks_fork next frame left site info y ks _ kids _ is counted cells hands all
      (λ n. looks_negated next frame hold (own_waits 0 (shared_of info) (names_from next info.cells)) (behind_fork info left)
      (λ fewer p. h fewer (are_both fewer (behind_fork info left) left p (fork_less info left))) (f (Joined n)) t2 (s n))

  -- of a conjunct, which ends at its first answer
  pub looks_closed : (next : ℕ) (frame : Bool) (pending : List Due) (left : Rights) (t : GoalCourse) (t' : BranchCourse) → Looks next frame pending left t t'
      → Looks next frame pending left (closed t) (b_closed t')
  looks_closed next frame pending left t t' (looks_done _ _ _) = looks_done next frame left
  looks_closed next frame pending left t t' (looks_raised _ _ _ _ text) = looks_raised next frame pending left text
  looks_closed next frame pending left t t' (looks_deep _ _ _ _) = looks_deep next frame pending left
  looks_closed next frame pending left t t' (looks_step _ _ _ t1 t2 s) = looks_step next frame left _ _ (looks_closed next frame [] left t1 t2 s)
  looks_closed next frame pending left t t' (looks_found _ _ _ hold t1 t2 h s) = looks_done next frame left
  looks_closed next frame pending left t t' (looks_wait _ _ _ _ x c v ks f t2 sees s) =
      looks_wait next frame pending left x c v ks _ _ sees (looks_closed next frame (rest_for x pending) (behind_wait x pending left) (f (Given v)) t2 s)
  looks_closed next frame pending left t t' (looks_starve _ _ _ _ x c ks f sees) = looks_starve next frame pending left x c ks _ sees
  looks_closed next frame pending left t t' (looks_signal _ _ _ x c v ks f t2 sees s) = looks_signal next frame left x c v ks _ _ sees (looks_closed next frame [] (behind_signal c left) (f Passed) t2 s)
  looks_closed next frame pending left t t' (looks_fork _ _ _ site info y ks f kids t2 is counted cells hands all s) =
      looks_fork next frame left site info y ks _ kids _ is counted cells hands all
      (λ n. looks_closed next frame (own_waits 0 (shared_of info) (names_from next info.cells)) (behind_fork info left) (f (Joined n)) t2 (s n))
