-- Outcomes of which some are lost, joined, and what follows for every list of events.
use Rattle.std.proofs.Common.{◌≡◌, ℕ, suc, ◌+◌, ◌⊎◌, inl, inr, Bool, true, false, List, [], ◌∷◌, Some, refl, ap, sym, subst}
use Rattle.std.specs.Prelude.{Option, if◌then◌else◌, nat_le, ◌||◌}
use Rattle.std.specs.List.{AllByRecursion}
use Rattle.merc_value.specs.Value.{Value}
use Rattle.merc_script.specs.declared.outcome.Outcome.{Outcome}
use Rattle.merc_script.specs.declared.outcome.Outcome.TheVariants.{Ok as Fine, Raise, Limit, Starved, NoMemory}
use Rattle.merc_script.specs.Script.{Script, Children, NoChild, Child, end_of, ends}
use Rattle.merc_script.specs.Joining.{joined, walk, lacks_memory}
use Rattle.merc_core.specs.declared.event.Event.{Event}
use Rattle.merc_core.specs.declared.event.Event.TheVariants.{Tick, Fork, Pop, Steal, Signal, Wait, End, Resume, Lost}
use Rattle.merc_core.specs.World.{World, start, outcome}
use Rattle.merc_core.specs.WellFormed.{WellFormed, value_in, cells_of}
use Rattle.merc_core.specs.Laws.{LeadsTo, IsCutEnd, IsItsEnd, IsKept, EveryInterleaving, EveryLoss}
use Rattle.merc_core.proofs.Pool.{each-weaker, each-always, each_way}
use Rattle.merc_core.proofs.Steps.{run-keeps}
use Rattle.merc_core.proofs.Truth.{EndIn, Near, Excuses, StoredOk, Truth, truth-start}
use Rattle.merc_core.proofs.Names.{all_stand, its-end}
use Rattle.merc_core.proofs.TruthSteps.{truth-step, MayLose, stored-near}

abbrev not_fine : Outcome → Bool
not_fine (Fine n) = false
not_fine (Raise e n) = true
not_fine Limit = true
not_fine Starved = true
not_fine NoMemory = true

-- each outcome is the true one, or Starved with an excuse that may depend on whether a true outcome to the left is not Ok
abbrev pub NearTo : (Bool → Type 0) → Bool → List Outcome → List Outcome → Type 0
NearTo Excuse bad [] [] = Unit {0}
NearTo Excuse bad (o ∷ os) (e ∷ es) = ((o ≡ e) ⊎ ((o ≡ Starved) × Excuse bad)) × NearTo Excuse (bad || not_fine e) os es
NearTo Excuse bad [] (e ∷ es) = ⊥
NearTo Excuse bad (o ∷ os) [] = ⊥

unless_bad : (bad : Bool) → (bad || false) ≡ bad
unless_bad true = refl
unless_bad false = refl

module _ (Excuse : Bool → Type 0) where
  abbrev Walks : Bool → ℕ → ℕ → List Outcome → List Outcome → Type 0
  Walks bad limit sum os es = (walk limit sum os ≡ walk limit sum es) ⊎ ((walk limit sum os ≡ Starved) × Excuse bad)

  walk-on : (bad : Bool) (limit sum : ℕ) (os es : List Outcome) (within : Bool) → Walks bad limit sum os es
      → ((if within then walk limit sum os else Limit) ≡ (if within then walk limit sum es else Limit)) ⊎ (((if within then walk limit sum os else Limit) ≡ Starved) × Excuse bad)
  walk-on bad limit sum os es true walks = walks
  walk-on bad limit sum os es false walks = inl refl

  -- at one and the same outcome, where the walk over the others is near
  walk-same : (bad : Bool) (limit sum : ℕ) (o : Outcome) (os es : List Outcome) → NearTo Excuse (bad || not_fine o) os es
      → ((sum' : ℕ) → NearTo Excuse bad os es → Walks bad limit sum' os es) → Walks bad limit sum (o ∷ os) (o ∷ es)
  walk-same bad limit sum (Fine n) os es near next =
      walk-on bad limit (sum + n) os es (nat_le (sum + n) limit) (next (sum + n) (subst (λ (b : Bool). NearTo Excuse b os es) (unless_bad bad) near))
  walk-same bad limit sum (Raise e n) os es near next = inl refl
  walk-same bad limit sum Limit os es near next = inl refl
  walk-same bad limit sum Starved os es near next = inl refl
  walk-same bad limit sum NoMemory os es near next = inl refl

  -- the walk gives the true outcome, or Starved with the excuse of the first
  pub walk-near : (bad : Bool) (limit sum : ℕ) (os es : List Outcome) → NearTo Excuse bad os es → Walks bad limit sum os es
  walk-near bad limit sum [] [] near = inl refl
  walk-near bad limit sum [] (e ∷ es) near = absurd near
  walk-near bad limit sum (o ∷ os) [] near = absurd near
  walk-near bad limit sum (o ∷ os) (e ∷ es) near = elim near.0 [
    | inl same ↦ subst (λ (x : Outcome). Walks bad limit sum (x ∷ os) (e ∷ es)) (sym same)
        (walk-same bad limit sum e os es near.1 (λ sum' near'. walk-near bad limit sum' os es near'))
    | inr starved ↦ inr (ap (λ (x : Outcome). walk limit sum (x ∷ os)) starved.0, starved.1)
  ]

-- where something was lost
module _ (lost : Type 0) where
  abbrev pub Excused : ℕ → ℕ → Outcome → Type 0
  Excused join child o = lost × IsCutEnd o

  abbrev pub Spoiled : ℕ → Type 0
  Spoiled cell = lost

  -- an outcome NoMemory is none of the true ones
  lost-one : (o : Outcome) (os : List Outcome) (e : Outcome) (es : List Outcome) → (o ≡ e) ⊎ (lost × IsCutEnd o) → lacks_memory (o ∷ os) ≡ true → lacks_memory (e ∷ es) ≡ false
      → lost ⊎ ((lacks_memory os ≡ true) × (lacks_memory es ≡ false))
  lost-one o os e es (inr cut) lacks has = inl cut.0
  lost-one o os (Fine n) es (inl same) lacks has = inr (rw same at lacks, has)
  lost-one o os (Raise t n) es (inl same) lacks has = inr (rw same at lacks, has)
  lost-one o os Limit es (inl same) lacks has = inr (rw same at lacks, has)
  lost-one o os Starved es (inl same) lacks has = inr (rw same at lacks, has)
  lost-one o os NoMemory es (inl same) lacks has = absurd (cc)

  lost-memory : (j k : ℕ) (os : List Outcome) (all : Children) → Near Excused j k os all → lacks_memory os ≡ true → lacks_memory (ends all) ≡ false → lost
  lost-memory j k [] all near lacks has = absurd (cc)
  lost-memory j k (o ∷ os) NoChild near lacks has = absurd near
  lost-memory j k (o ∷ os) (Child first others) near lacks has = elim (lost-one o os (end_of first) (ends others) near.0 lacks has) [
    | inl here ↦ here
    | inr later ↦ lost-memory j (suc k) os others near.1 later.0 later.1
  ]

  starved-one : (o : Outcome) (os : List Outcome) → IsCutEnd o → lacks_memory (o ∷ os) ≡ false → o ≡ Starved
  starved-one (Fine n) os cut has = absurd cut
  starved-one (Raise e n) os cut has = absurd cut
  starved-one Limit os cut has = absurd cut
  starved-one Starved os cut has = refl
  starved-one NoMemory os cut has = absurd (cc)

  has-others : (o : Outcome) (os : List Outcome) → lacks_memory (o ∷ os) ≡ false → lacks_memory os ≡ false
  has-others (Fine n) os has = has
  has-others (Raise e n) os has = has
  has-others Limit os has = has
  has-others Starved os has = has
  has-others NoMemory os has = absurd (cc)

  near-to : (j k : ℕ) (bad : Bool) (os : List Outcome) (all : Children) → Near Excused j k os all → lacks_memory os ≡ false → NearTo (λ b. lost) bad os (ends all)
  near-to j k bad [] NoChild near has = tt
  near-to j k bad [] (Child first others) near has = absurd near
  near-to j k bad (o ∷ os) NoChild near has = absurd near
  near-to j k bad (o ∷ os) (Child first others) near has =
      (elim near.0 [ inl same ↦ inl same | inr cut ↦ inr (starved-one o os cut.1 has, cut.0) ], near-to j (suc k) (bad || not_fine (end_of first)) os others near.1 (has-others o os has))

  joins-near : (j above child limit : ℕ) (os : List Outcome) (all : Children) → Near Excused j 1 os all → lacks_memory (ends all) ≡ false
      → (joined limit os ≡ joined limit (ends all)) ⊎ Excused above child (joined limit os)
  joins-near j above child limit os all near true-has = elim (each_way (lacks_memory os)) [
    | inl lacks ↦ inr (rw lacks (lost-memory j 1 os all near lacks true-has, tt))
    | inr has ↦ elim (walk-near (λ b. lost) false limit 0 os (ends all) (near-to j 1 false os all near has)) [
      | inl same ↦ inl (rw (has, true-has) same)
      | inr starved ↦ inr (rw has (starved.1, subst IsCutEnd (sym starved.0) tt))
    ]
  ]

  pub excuses : Excuses Excused Spoiled
  excuses = record {
    only = λ join child o excused. excused.1;
    starved = λ join child cell spoiled. (spoiled, tt);
    spoilt = λ join child o cell excused. excused.0;
    joins = joins-near;
  }

-- for every list of events

module _ (root : Script) where
  abbrev value : ℕ → Option Value
  value = value_in (cells_of root)

  truth-at : (lost : Type 0) (workers : ℕ) (events : List Event) (w : World) → WellFormed root → AllByRecursion (MayLose value (Excused lost) (Spoiled lost) (excuses lost)) events → LeadsTo root workers events w
      → Truth value (Excused lost) (Spoiled lost) root w
  truth-at lost workers events w well may leads =
      run-keeps (MayLose value (Excused lost) (Spoiled lost) (excuses lost)) (Truth value (Excused lost) (Spoiled lost) root) (truth-step value (Excused lost) (Spoiled lost) (excuses lost) root)
      events (start root workers) w leads may (truth-start value (Excused lost) (Spoiled lost) root workers well.formed)

  module _ (lost : Type 0) where
    abbrev Always : World → Type 0
    Always = Truth value (Excused lost) (Spoiled lost) root

    -- the outcome of the outermost join
    whole-near : (w : World) → Always w → (o : Outcome) → outcome w ≡ Some o → (o ≡ end_of root) ⊎ (lost × IsCutEnd o)
    whole-near w truth o is = elim (stored-near value (Excused lost) (Spoiled lost) (excuses lost) w.joins 0 1 w.stored o truth.ends_stored is) [
      | inl end ↦ inl (let at : Some (end_of root) ≡ Some o = subst (EndIn 1 o) truth.outermost_is end in cc)
      | inr excused ↦ inr excused
    ]

kept-may : (e : Event) → IsKept e → (value : ℕ → Option Value) → MayLose value (Excused ⊥) (Spoiled ⊥) (excuses ⊥) e
kept-may (Tick v) kept value = tt
kept-may (Fork v) kept value = tt
kept-may (Pop v) kept value = tt
kept-may (Steal v victim) kept value = tt
kept-may (Signal v) kept value = tt
kept-may (Wait v) kept value = tt
kept-may (End v) kept value = tt
kept-may (Resume v) kept value = tt
kept-may (Lost v) kept value = absurd kept

pub lost-may : (value : ℕ → Option Value) (e : Event) → MayLose value (Excused (Unit {0})) (Spoiled (Unit {0})) (excuses (Unit {0})) e
lost-may value (Tick v) = tt
lost-may value (Fork v) = tt
lost-may value (Pop v) = tt
lost-may value (Steal v victim) = tt
lost-may value (Signal v) = tt
lost-may value (Wait v) = tt
lost-may value (End v) = tt
lost-may value (Resume v) = tt
lost-may value (Lost v) = λ join child. (tt, tt)

-- what is true where nothing was lost
pub truth-kept : (root : Script) (workers : ℕ) (events : List Event) (w : World) → WellFormed root → AllByRecursion IsKept events → LeadsTo root workers events w
    → Truth (value_in (cells_of root)) (Excused ⊥) (Spoiled ⊥) root w
truth-kept root workers events w well kept leads = truth-at root ⊥ workers events w well
    (each-weaker IsKept (MayLose (value_in (cells_of root)) (Excused ⊥) (Spoiled ⊥) (excuses ⊥)) (λ e is. kept-may e is (value_in (cells_of root))) events kept) leads

-- what is true in any case
pub truth-lost : (root : Script) (workers : ℕ) (events : List Event) (w : World) → WellFormed root → LeadsTo root workers events w
    → Truth (value_in (cells_of root)) (Excused (Unit {0})) (Spoiled (Unit {0})) root w
truth-lost root workers events w well leads = truth-at root (Unit {0}) workers events w well
    (each-always (MayLose (value_in (cells_of root)) (Excused (Unit {0})) (Spoiled (Unit {0})) (excuses (Unit {0}))) (lost-may (value_in (cells_of root))) events) leads

pub every_interleaving : EveryInterleaving
every_interleaving root workers events w well kept leads =
    let truth = truth-kept root workers events w well kept leads in
    record {
      each_end = each-weaker (StoredOk (value root) (Excused ⊥) (Spoiled ⊥) w.joins) (IsItsEnd root w.joins) (λ one stores. elim stores [ inl end ↦ its-end root w (all_stand root workers events w leads) one end | inr lost ↦ absurd lost.0 ]) w.stored truth.ends_stored;
      each_value = truth.full_known;
      whole = λ o is. elim (whole-near root ⊥ w truth o is) [ inl same ↦ same | inr lost ↦ absurd lost.0 ];
    }

pub every_loss : EveryLoss
every_loss root workers events w well leads =
    let truth = truth-lost root workers events w well leads in
    record {
      each_end = each-weaker (StoredOk (value root) (Excused (Unit {0})) (Spoiled (Unit {0})) w.joins) (λ one. IsItsEnd root w.joins one ⊎ IsCutEnd one.outcome)
          (λ one stores. elim stores [ inl end ↦ inl (its-end root w (all_stand root workers events w leads) one end) | inr lost ↦ inr lost.1 ]) w.stored truth.ends_stored;
      each_value = truth.full_known;
      whole = λ o is. elim (whole-near root (Unit {0}) w truth o is) [ inl same ↦ inl same | inr lost ↦ inr lost.1 ];
    }
