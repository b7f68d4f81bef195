-- What a course gives goes through cells that its branch has the right to signal, even behind a fork whose conjuncts do not answer.
use Rattle.std.proofs.Common.{◌≡◌, ℕ, suc, ◌≤◌, ◌⊎◌, inl, inr, Bool, true, false, if◌then◌else◌, List, [], refl, ap, sym, ◌∙◌}
use Rattle.std.specs.Prelude.{⊤, Some, None}
use Rattle.std.specs.List.{AllByRecursion}
use Rattle.merc_script.specs.declared.cells.Move.{Move}
use Rattle.merc_core.specs.Rights.{has, moved}
use Rattle.merc_plan.specs.Branch.{all_do_answer, HeldSignal, Fork, Hold, BranchCourse, Over, Breaks, Steps, Finds, Awaits, Gives, Forks, BranchCourses, no_branches, more_branches, gift_at, gifts_through, gives, all_give, after, each, taken_back, first_alone, choose, negated}
use Rattle.merc_plan.specs.Branches.{once_if}
use Rattle.merc_plan.proofs.Answering.{none_behind}
use Rattle.merc_plan.proofs.Judging.{signals_to}
use Rattle.merc_plan.proofs.Sets.{clash, look_past, gifts_out, given_other, moved_move, each_more}

-- the right to signal a cell, or no cell: no cell's name is 0
abbrev pub Right : (ℕ → Bool) → ℕ → Type 0
Right rights c = (c ≡ 0) ⊎ (rights c ≡ true)

abbrev pub MoveWithin : (ℕ → Bool) → Move → Type 0
MoveWithin rights m = m.signal ≡ true → rights m.cell ≡ true

-- the rights that an answer leaves
abbrev pub SignalsWithin : (ℕ → Bool) → List HeldSignal → Type 0
SignalsWithin rights signals = AllByRecursion (λ one. rights one.cell ≡ true) signals

abbrev pub HoldWithin : (ℕ → Bool) → Hold → Type 0
HoldWithin rights hold = SignalsWithin rights hold.signals × (1 ≤ hold.next)

abbrev mutual
  pub Within : (ℕ → Bool) → BranchCourse → Type 0
  Within rights Over = ⊤
  Within rights (Breaks h) = ⊤
  Within rights (Steps t) = Within rights t
  Within rights (Finds hold t) = HoldWithin rights hold × Within rights t
  Within rights (Awaits c v t) = Within rights t
  Within rights (Gives c v t) = Right rights c × Within rights t
  Within rights (Forks i x kids t) =
      AllByRecursion (MoveWithin rights) x.moves × (((k : ℕ) → has 0 (signals_to k x) ≡ false) × (AllWithin x 1 kids × Within rights t))

  pub AllWithin : Fork → ℕ → BranchCourses → Type 0
  AllWithin x k no_branches = ⊤
  AllWithin x k (more_branches t more) = Within (λ c. has c (signals_to k x)) t × AllWithin x (suc k) more

moved_within : (rights : ℕ → Bool) (ms : List Move) (c : ℕ) → AllByRecursion (MoveWithin rights) ms → has c (moved true ms) ≡ true → rights c ≡ true
moved_within rights ms c w h = let m = moved_move (MoveWithin rights) true c ms w h in ap rights (sym m.1.1.0) ∙ m.1.0 m.1.1.1

not_given : (rights : ℕ → Bool) (c d : ℕ) → Right rights d → rights c ≡ false → (c ≡ 0 → ⊥) → c ≡ d → ⊥
not_given rights c d (inl z) r n e = n (e ∙ z)
not_given rights c d (inr y) r n e = clash (rights c) (ap rights e ∙ y) r

-- nothing is given through other cells
pub within_gives : (t : BranchCourse) (rights : ℕ → Bool) → Within rights t → (c : ℕ) → rights c ≡ false → (c ≡ 0 → ⊥) → gift_at c (gives t) ≡ None
within_gives Over rights w c r n = refl
within_gives (Breaks h) rights w c r n = refl
within_gives (Steps t) rights w c r n = within_gives t rights w c r n
within_gives (Finds hold t) rights w c r n = refl
within_gives (Awaits d v t) rights w c r n = within_gives t rights w c r n
within_gives (Gives d v t) rights w c r n = given_other c d (Some v) (gives t) (λ e. not_given rights c d w.0 r n e) ∙ within_gives t rights w.1 c r n
within_gives (Forks i x ks t) rights w c r n =
    look_past c (gifts_through (moved true x.moves) (all_give ks)) (if all_do_answer ks then gives t else [])
    (gifts_out c (moved true x.moves) (all_give ks) (λ q. clash (rights c) (moved_within rights x.moves c w.0 q) r))
    ∙ none_behind (all_do_answer ks) (gives t) c (within_gives t rights w.1.1.1 c r n)

-- under the combinators

right_more : (rights more : ℕ → Bool) (c : ℕ) → ((d : ℕ) → rights d ≡ true → more d ≡ true) → Right rights c → Right more c
right_more rights more c s (inl z) = inl z
right_more rights more c s (inr y) = inr (s c y)

pub within_more : (t : BranchCourse) (rights more : ℕ → Bool) → ((d : ℕ) → rights d ≡ true → more d ≡ true) → Within rights t → Within more t
within_more Over rights more s w = tt
within_more (Breaks h) rights more s w = tt
within_more (Steps t) rights more s w = within_more t rights more s w
within_more (Finds hold t) rights more s w =
    ((each_more (λ (one : HeldSignal). rights one.cell ≡ true) (λ one. more one.cell ≡ true) (λ one h. s one.cell h) hold.signals w.0.0, w.0.1), within_more t rights more s w.1)
within_more (Awaits c v t) rights more s w = within_more t rights more s w
within_more (Gives c v t) rights more s w = (right_more rights more c s w.0, within_more t rights more s w.1)
within_more (Forks i x ks t) rights more s w =
    (each_more (MoveWithin rights) (MoveWithin more) (λ m h e. s m.cell (h e)) x.moves w.0, (w.1.0, (w.1.1.0, within_more t rights more s w.1.1.1)))

module _ (rights : ℕ → Bool) where
  pub within_after : (t u : BranchCourse) → Within rights t → Within rights u → Within rights (after t u)
  within_after Over u w v = v
  within_after (Breaks h) u w v = tt
  within_after (Steps t) u w v = within_after t u w v
  within_after (Finds hold t) u w v = (w.0, within_after t u w.1 v)
  within_after (Awaits c o t) u w v = within_after t u w v
  within_after (Gives c o t) u w v = (w.0, within_after t u w.1 v)
  within_after (Forks i x ks t) u w v = (w.0, (w.1.0, (w.1.1.0, within_after t u w.1.1.1 v)))

  pub within_each : (f : Hold → BranchCourse) → ((hold : Hold) → HoldWithin rights hold → Within rights (f hold)) → (t : BranchCourse) → Within rights t → Within rights (each f t)
  within_each f s Over w = tt
  within_each f s (Breaks h) w = tt
  within_each f s (Steps t) w = within_each f s t w
  within_each f s (Finds hold t) w = within_after (f hold) (each f t) (s hold w.0) (within_each f s t w.1)
  within_each f s (Awaits c o t) w = within_each f s t w
  within_each f s (Gives c o t) w = (w.0, within_each f s t w.1)
  within_each f s (Forks i x ks t) w = (w.0, (w.1.0, (w.1.1.0, within_each f s t w.1.1.1)))

  pub within_taken : (f : Hold → Hold) → ((hold : Hold) → HoldWithin rights (f hold)) → (t : BranchCourse) → Within rights t → Within rights (taken_back f t)
  within_taken f s Over w = tt
  within_taken f s (Breaks h) w = tt
  within_taken f s (Steps t) w = within_taken f s t w
  within_taken f s (Finds hold t) w = (s hold, within_taken f s t w.1)
  within_taken f s (Awaits c o t) w = within_taken f s t w
  within_taken f s (Gives c o t) w = (w.0, within_taken f s t w.1)
  within_taken f s (Forks i x ks t) w = (w.0, (w.1.0, (w.1.1.0, within_taken f s t w.1.1.1)))

  within_first : (t : BranchCourse) → Within rights t → Within rights (first_alone t)
  within_first Over w = tt
  within_first (Breaks h) w = tt
  within_first (Steps t) w = within_first t w
  within_first (Finds hold t) w = (w.0, tt)
  within_first (Awaits c o t) w = within_first t w
  within_first (Gives c o t) w = (w.0, within_first t w.1)
  within_first (Forks i x ks t) w = (w.0, (w.1.0, (w.1.1.0, within_first t w.1.1.1)))

  pub within_once : (b : Bool) (t : BranchCourse) → Within rights t → Within rights (once_if b t)
  within_once true t w = within_first t w
  within_once false t w = w

  pub within_choose : (f : Hold → BranchCourse) (u : BranchCourse) → ((hold : Hold) → HoldWithin rights hold → Within rights (f hold)) → Within rights u
      → (t : BranchCourse) → Within rights t → Within rights (choose f u t)
  within_choose f u s v Over w = v
  within_choose f u s v (Breaks h) w = tt
  within_choose f u s v (Steps t) w = within_choose f u s v t w
  within_choose f u s v (Finds hold t) w = within_after (f hold) (each f t) (s hold w.0) (within_each f s t w.1)
  within_choose f u s v (Awaits c o t) w = within_choose f u s v t w
  within_choose f u s v (Gives c o t) w = (w.0, within_choose f u s v t w.1)
  within_choose f u s v (Forks i x ks t) w = (w.0, (w.1.0, (w.1.1.0, within_choose f u s v t w.1.1.1)))

  pub within_negated : (hold : Hold) → HoldWithin rights hold → (t : BranchCourse) → Within rights t → Within rights (negated hold t)
  within_negated hold s Over w = (s, tt)
  within_negated hold s (Breaks h) w = tt
  within_negated hold s (Steps t) w = within_negated hold s t w
  within_negated hold s (Finds found t) w = tt
  within_negated hold s (Awaits c o t) w = within_negated hold s t w
  within_negated hold s (Gives c o t) w = (w.0, within_negated hold s t w.1)
  within_negated hold s (Forks i x ks t) w = (w.0, (w.1.0, (w.1.1.0, within_negated hold s t w.1.1.1)))
