-- What a branch is told: the value with which each wait goes on is the one that is known of its cell.
use Rattle.std.proofs.Common.{◌≡◌, ℕ, ◌≤◌, ◌<◌, Bool, true, false, if◌then◌else◌, List, [], ◌++◌, refl, ap, sym, ◌∙◌, arith}
use Rattle.std.specs.Prelude.{⊤, Option, None}
use Rattle.std.specs.List.{AllByRecursion}
use Rattle.merc_value.specs.Value.{Value}
use Rattle.merc_core.specs.Rights.{has}
use Rattle.merc_plan.specs.Branch.{HeldWait, Hold, Fork, BranchCourse, BranchCourses, Over, Breaks, Steps, Finds, Awaits, Gives, Forks, no_branches, more_branches, names, Gift, gift_at, value_given, gives, all_give, after, each, taken_back, first_alone, choose, negated}
use Rattle.merc_plan.specs.Branches.{once_if}
use Rattle.merc_plan.proofs.Sets.{absent, each_more}

-- in a conjunct or behind a fork, where these were given, own cells are known anew
abbrev pub known_anew : (ℕ → Option Value) → Fork → List Gift → ℕ → Option Value
known_anew known x gs c = if has c (names x.cells) then value_given (gift_at c gs) else known c

abbrev pub IsKnown : (ℕ → Option Value) → HeldWait → Type 0
IsKnown known right = right.value ≡ known right.cell

abbrev pub IsLow : ℕ → (ℕ → Option Value) → HeldWait → Type 0
IsLow next known right = (right.cell < next) × IsKnown known right

-- no cell is 0
abbrev pub Begins : ℕ → (ℕ → Option Value) → Hold → Type 0
Begins next known hold = (hold.next ≡ next) × ((1 ≤ next) × (known 0 ≡ None))

-- the rights of a branch that holds no own cells of a fork
abbrev pub HoldKnown : ℕ → (ℕ → Option Value) → Hold → Type 0
HoldKnown next known hold = AllByRecursion (IsLow next known) hold.waits × Begins next known hold

-- what is known of cells below the names of a branch's own
abbrev pub Agree : ℕ → (ℕ → Option Value) → (ℕ → Option Value) → Type 0
Agree next known other = (c : ℕ) → c < next → other c ≡ known c

-- names of own cells are from `next` on
abbrev pub AreHigh : ℕ → Fork → Type 0
AreHigh next x = (c : ℕ) → has c (names x.cells) ≡ true → next ≤ c

abbrev mutual
  pub Tells : ℕ → (ℕ → Option Value) → BranchCourse → Type 0
  Tells next known Over = ⊤
  Tells next known (Breaks h) = ⊤
  Tells next known (Steps t) = Tells next known t
  Tells next known (Finds hold t) = HoldKnown next known hold × ((other : ℕ → Option Value) → Agree next known other → Tells next other t)
  Tells next known (Awaits c o t) = (o ≡ known c) × Tells next known t
  Tells next known (Gives c v t) = Tells next known t
  Tells next known (Forks i x kids t) = AreHigh next x × (AllTell known x [] kids × Tells next (known_anew known x (all_give kids)) t)

  pub AllTell : (ℕ → Option Value) → Fork → List Gift → BranchCourses → Type 0
  AllTell known x given no_branches = ⊤
  AllTell known x given (more_branches t more) = ((next : ℕ) × Tells next (known_anew known x given) t) × AllTell known x (given ++ gives t) more

-- what is known below a number

pub agree_same : (next : ℕ) (known : ℕ → Option Value) → Agree next known known
agree_same next known c l = refl

pub agree_both : (next : ℕ) (known other third : ℕ → Option Value) → Agree next known other → Agree next other third → Agree next known third
agree_both next known other third a b c l = b c l ∙ a c l

pub not_own : (next : ℕ) (x : Fork) → AreHigh next x → (c : ℕ) → c < next → has c (names x.cells) ≡ false
not_own next x h c l = absent c (names x.cells) (λ e. let q = h c e in absurd (omega (arith, q, l)))

pub agree_anew : (next : ℕ) (known : ℕ → Option Value) (x : Fork) (gs : List Gift) → AreHigh next x → Agree next known (known_anew known x gs)
agree_anew next known x gs h c l = ap (λ (b : Bool). if b then value_given (gift_at c gs) else known c) (not_own next x h c l)

pub low_agree : (next : ℕ) (known other : ℕ → Option Value) → Agree next known other → (waits : List HeldWait) → AllByRecursion (IsLow next known) waits → AllByRecursion (IsLow next other) waits
low_agree next known other a waits w = each_more (IsLow next known) (IsLow next other) (λ right h. (h.0, h.1 ∙ sym (a right.cell h.0))) waits w

pub begins_agree : (next : ℕ) (known other : ℕ → Option Value) (hold : Hold) → Agree next known other → Begins next known hold → Begins next other hold
begins_agree next known other hold a b = (b.0, (b.1.0, (let l = b.1.0 in a 0 (omega (arith, l))) ∙ b.1.1))

pub hold_agree : (next : ℕ) (known other : ℕ → Option Value) (hold : Hold) → Agree next known other → HoldKnown next known hold → HoldKnown next other hold
hold_agree next known other hold a w = (low_agree next known other a hold.waits w.0, begins_agree next known other hold a w.1)

-- under the combinators

module _ (next : ℕ) where
  pub tells_after : (t u : BranchCourse) (known : ℕ → Option Value) → Tells next known t → ((other : ℕ → Option Value) → Agree next known other → Tells next other u)
      → Tells next known (after t u)
  tells_after Over u known w s = s known (agree_same next known)
  tells_after (Breaks h) u known w s = tt
  tells_after (Steps t) u known w s = tells_after t u known w s
  tells_after (Finds hold t) u known w s = (w.0, λ other a. tells_after t u other (w.1 other a) (λ third b. s third (agree_both next known other third a b)))
  tells_after (Awaits c o t) u known w s = (w.0, tells_after t u known w.1 s)
  tells_after (Gives c v t) u known w s = tells_after t u known w s
  tells_after (Forks i x ks t) u known w s = (
    w.0,
    (
      w.1.0,
      tells_after t u (known_anew known x (all_give ks)) w.1.1
          (λ third b. s third (agree_both next known (known_anew known x (all_give ks)) third (agree_anew next known x (all_give ks) w.0) b)),
    ),
  )

  pub tells_each : (f : Hold → BranchCourse) → ((known : ℕ → Option Value) (hold : Hold) → HoldKnown next known hold → Tells next known (f hold)) → (t : BranchCourse) (known : ℕ → Option Value)
      → Tells next known t → Tells next known (each f t)
  tells_each f s Over known w = tt
  tells_each f s (Breaks h) known w = tt
  tells_each f s (Steps t) known w = tells_each f s t known w
  tells_each f s (Finds hold t) known w = tells_after (f hold) (each f t) known (s known hold w.0) (λ other a. tells_each f s t other (w.1 other a))
  tells_each f s (Awaits c o t) known w = (w.0, tells_each f s t known w.1)
  tells_each f s (Gives c v t) known w = tells_each f s t known w
  tells_each f s (Forks i x ks t) known w = (w.0, (w.1.0, tells_each f s t (known_anew known x (all_give ks)) w.1.1))

  pub tells_taken : (f : Hold → Hold) (t : BranchCourse) (known : ℕ → Option Value) → ((other : ℕ → Option Value) → Agree next known other → (hold : Hold) → HoldKnown next other (f hold))
      → Tells next known t → Tells next known (taken_back f t)
  tells_taken f Over known s w = tt
  tells_taken f (Breaks h) known s w = tt
  tells_taken f (Steps t) known s w = tells_taken f t known s w
  tells_taken f (Finds hold t) known s w =
      (s known (agree_same next known) hold, λ other a. tells_taken f t other (λ third b. s third (agree_both next known other third a b)) (w.1 other a))
  tells_taken f (Awaits c o t) known s w = (w.0, tells_taken f t known s w.1)
  tells_taken f (Gives c v t) known s w = tells_taken f t known s w
  tells_taken f (Forks i x ks t) known s w = (
    w.0,
    (
      w.1.0,
      tells_taken f t (known_anew known x (all_give ks))
          (λ third b. s third (agree_both next known (known_anew known x (all_give ks)) third (agree_anew next known x (all_give ks) w.0) b)) w.1.1,
    ),
  )

  tells_first : (t : BranchCourse) (known : ℕ → Option Value) → Tells next known t → Tells next known (first_alone t)
  tells_first Over known w = tt
  tells_first (Breaks h) known w = tt
  tells_first (Steps t) known w = tells_first t known w
  tells_first (Finds hold t) known w = (w.0, λ other a. tt)
  tells_first (Awaits c o t) known w = (w.0, tells_first t known w.1)
  tells_first (Gives c v t) known w = tells_first t known w
  tells_first (Forks i x ks t) known w = (w.0, (w.1.0, tells_first t (known_anew known x (all_give ks)) w.1.1))

  pub tells_once : (b : Bool) (t : BranchCourse) (known : ℕ → Option Value) → Tells next known t → Tells next known (once_if b t)
  tells_once true t known w = tells_first t known w
  tells_once false t known w = w

  pub tells_choose : (f : Hold → BranchCourse) (u : BranchCourse) → ((known : ℕ → Option Value) (hold : Hold) → HoldKnown next known hold → Tells next known (f hold)) → (t : BranchCourse)
      (known : ℕ → Option Value) → ((other : ℕ → Option Value) → Agree next known other → Tells next other u) → Tells next known t → Tells next known (choose f u t)
  tells_choose f u s Over known v w = v known (agree_same next known)
  tells_choose f u s (Breaks h) known v w = tt
  tells_choose f u s (Steps t) known v w = tells_choose f u s t known v w
  tells_choose f u s (Finds hold t) known v w = tells_after (f hold) (each f t) known (s known hold w.0) (λ other a. tells_each f s t other (w.1 other a))
  tells_choose f u s (Awaits c o t) known v w = (w.0, tells_choose f u s t known v w.1)
  tells_choose f u s (Gives c o t) known v w = tells_choose f u s t known v w
  tells_choose f u s (Forks i x ks t) known v w = (
    w.0,
    (
      w.1.0,
      tells_choose f u s t (known_anew known x (all_give ks))
          (λ third b. v third (agree_both next known (known_anew known x (all_give ks)) third (agree_anew next known x (all_give ks) w.0) b)) w.1.1,
    ),
  )

  pub tells_negated : (hold : Hold) (t : BranchCourse) (known : ℕ → Option Value) → HoldKnown next known hold → Tells next known t → Tells next known (negated hold t)
  tells_negated hold Over known h w = (h, λ other a. tt)
  tells_negated hold (Breaks g) known h w = tt
  tells_negated hold (Steps t) known h w = tells_negated hold t known h w
  tells_negated hold (Finds found t) known h w = tt
  tells_negated hold (Awaits c o t) known h w = (w.0, tells_negated hold t known h w.1)
  tells_negated hold (Gives c v t) known h w = tells_negated hold t known h w
  tells_negated hold (Forks i x ks t) known h w =
      (w.0, (w.1.0, tells_negated hold t (known_anew known x (all_give ks)) (hold_agree next known (known_anew known x (all_give ks)) hold (agree_anew next known x (all_give ks) w.0) h) w.1.1))
