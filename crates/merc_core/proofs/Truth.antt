-- What holds of the branches, cells and outcomes of a well-formed script after every list of events. A parameter says which outcomes may be stored although a
-- child's script ends otherwise, and another which cells may be poisoned although a script signals them.
use Rattle.std.proofs.Common.{◌≡◌, ℕ, suc, ◌+◌, ◌⊎◌, inl, false, List, [], ◌∷◌, Some, None, refl}
use Rattle.std.specs.Prelude.{Option, slice_get, if◌then◌else◌, nat_eq}
use Rattle.std.specs.List.{AllByRecursion}
use Rattle.merc_script.specs.declared.outcome.Outcome.{Outcome}
use Rattle.merc_script.specs.declared.outcome.Outcome.TheVariants.{Starved}
use Rattle.merc_script.specs.Script.{Script, Ends, Children, NoChild, Child, end_of, ends}
use Rattle.merc_script.specs.Joining.{joined, lacks_memory}
use Rattle.merc_core.specs.World.{Branch, Location, Listed, Runs, Holds, AtCell, AtJoin, Spot, Join, Stored, World, outermost, start}
use Rattle.merc_core.specs.WellFormed.{Formed, Follows, gain}
use Rattle.merc_core.specs.Laws.{IsCutEnd}

-- the end of a child, where the children are numbered from this number on
abbrev pub end_at : ℕ → ℕ → Children → Option Outcome
end_at from child NoChild = None
end_at from child (Child first more) = if nat_eq child from then Some (end_of first) else end_at (suc from) child more

-- it is the end of that child of a join
abbrev pub EndIn : ℕ → Outcome → Option Join → Type 0
EndIn child o None = ⊥
EndIn child o (Some join) = end_at 1 child join.children ≡ Some o

-- outcomes of a join's children from this child on, each of which is its script's end or excused
abbrev pub Near : (ℕ → ℕ → Outcome → Type 0) → ℕ → ℕ → List Outcome → Children → Type 0
Near Excused join child [] NoChild = Unit {0}
Near Excused join child (o ∷ os) (Child first others) = ((o ≡ end_of first) ⊎ Excused join child o) × Near Excused join (suc child) os others
Near Excused join child [] (Child first others) = ⊥
Near Excused join child (o ∷ os) NoChild = ⊥

-- What the excuses have to meet: a branch that waits for a spoiled cell is excused if it starves, the cells of an excused branch are spoiled, and outcomes that
-- are near the true ones join to the true outcome or to an excused one.
pub record Excuses (Excused : ℕ → ℕ → Outcome → Type 0) (Spoiled : ℕ → Type 0) : Type 0 where
  pub only : (join child : ℕ) (o : Outcome) → Excused join child o → IsCutEnd o
  pub starved : (join child cell : ℕ) → Spoiled cell → Excused join child Starved
  pub spoilt : (join child : ℕ) (o : Outcome) (cell : ℕ) → Excused join child o → Spoiled cell
  pub joins : (join above child limit : ℕ) (os : List Outcome) (all : Children) → Near Excused join 1 os all → lacks_memory (ends all) ≡ false
      → (joined limit os ≡ joined limit (ends all)) ⊎ Excused above child (joined limit os)

module _ {V : Type 0} (value : ℕ → Option V) (Excused : ℕ → ℕ → Outcome → Type 0) (Spoiled : ℕ → Type 0) where
  -- What is left is well formed, and leads to the end of the branch's script.
  pub record Honest (joins : List Join) (join child steps : ℕ) (signals waits : List ℕ) (s : Script) : Type 0 where
    pub formed : Formed value steps signals waits s
    pub goal : EndIn child (end_of s) (slice_get joins join)

  -- the branch ends early
  pub record IsCut (join child : ℕ) (s : Script) : Type 0 where
    pub end : Outcome
    pub is : s ≡ Ends end
    pub excused : Excused join child end

  -- a parent as it goes on behind its Fork
  abbrev pub BehindIn : List Join → Branch → Script → Option Join → Type 0
  BehindIn joins b s None = ⊥
  BehindIn joins b s (Some join) =
      Follows b.steps (joined join.limit (ends join.children)) s
      × Honest joins b.join b.child (b.steps + gain (joined join.limit (ends join.children))) b.signals b.waits s

  abbrev pub StateAt : List Join → Location → Branch → Script → Type 0
  StateAt joins (Listed v) b s = Honest joins b.join b.child b.steps b.signals b.waits s ⊎ IsCut b.join b.child s
  StateAt joins (Runs v) b s = Honest joins b.join b.child b.steps b.signals b.waits s ⊎ IsCut b.join b.child s
  StateAt joins (Holds v number) b s = BehindIn joins b s (slice_get joins number)
  StateAt joins (AtCell cell) b s = (value cell ≡ None → s ≡ Ends Starved) × Honest joins b.join b.child b.steps b.signals b.waits s
  StateAt joins (AtJoin number) b s = BehindIn joins b s (slice_get joins number)

  abbrev pub Good : List Join → Spot → Type 0
  Good joins x = StateAt joins x.location x.branch x.branch.rest

  abbrev pub StoredOk : List Join → Stored → Type 0
  StoredOk joins s = EndIn s.child s.outcome (slice_get joins s.join) ⊎ Excused s.join s.child s.outcome

  abbrev pub MayPoison : ℕ → Type 0
  MayPoison cell = (value cell ≡ None) ⊎ Spoiled cell

  pub record Truth (root : Script) (w : World) : Type 0 where
    pub spots : AllByRecursion (Good w.joins) w.pool
    pub full_known : AllByRecursion (λ cell. value cell ≡ None → ⊥) w.full
    pub poison_known : AllByRecursion (AllByRecursion MayPoison) w.poisoned
    pub ends_stored : AllByRecursion (StoredOk w.joins) w.stored
    pub outermost_is : slice_get w.joins 0 ≡ Some (outermost root)

  -- at the start
  pub truth-start : (root : Script) (workers : ℕ) → Formed value 0 [] [] root → Truth root (start root workers)
  truth-start root workers formed = record {
    spots = (inl (record { formed = formed; goal = refl }), tt);
    full_known = tt;
    poison_known = tt;
    ends_stored = tt;
    outermost_is = refl;
  }
