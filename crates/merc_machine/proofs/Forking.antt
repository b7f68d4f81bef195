-- The machine of a conjunct that is forked.
use Rattle.std.proofs.Common.{◌≡◌, ℕ, zero, suc, ◌<◌, true, List, [], ◌∷◌, ◌++◌, length, Option, Some, None, slice_get, refl, sym, ◌∙◌, subst, arith}
use Rattle.std.specs.List.{All}
use Rattle.std.specs.Option.{is_some}
use Rattle.std.proofs.lemmas.List.Elements.{All-nil, All-cons, All-head, All-tail, All-weaker}
use Rattle.merc_graded_tree.specs.declared.basic.Site.{Site}
use Rattle.merc_meaning.specs.Trace.{Env, RunEnd}
use Rattle.merc_course.specs.Course.{AtFork, Reply, RunCourse, Meets, Courses}
use Rattle.merc_course.specs.Variables.{only}
use Rattle.merc_code.specs.declared.instruction.Instruction.{Instruction}
use Rattle.merc_code.specs.declared.instruction.Instruction.TheVariants.{Fork}
use Rattle.merc_code.specs.Steps.{ConjunctCode, Codes, State, At, forked_at}
use Rattle.merc_last_calls.specs.LeanMeaning.{YieldsLean, YieldAllLean, yield_none, yield_more}
use Rattle.merc_live.specs.Reads.{used_by}
use Rattle.merc_layout.specs.Frames.{lent_to}
use Rattle.merc_layout.specs.KnownConjuncts.{conjunct_at}
use Rattle.merc_layout.specs.declared.conjuncts.KnownConjunct.{KnownConjunct}
use Rattle.merc_frames.specs.Rooms.{AreSlots}
use Rattle.merc_load.specs.declared.loaded.Loaded.{Loaded}
use Rattle.merc_load.specs.Loaded.{IsConjunctEntry, IsLoaded, StandsAt}
use Rattle.merc_store.specs.Fitting.{FitsFrame}
use Rattle.merc_store.specs.Frozen.{FrozenData, Freezes, OpensWith, frozen_of}
use Rattle.merc_store.proofs.ThawingLemmas.{frozen_within}
use Rattle.merc_machine.specs.declared.machine.Machine.{Machine}
use Rattle.merc_machine.specs.declared.machine.Phase.TheVariants.{Running}
use Rattle.merc_machine.specs.Standing.{CallersStand, ChoicesStand, Runs, Stands, none}
use Rattle.merc_machine.specs.Coming.{MeetsAt, all_left}
use Rattle.merc_machine.specs.Running.{Means, course_at}
use Rattle.merc_machine.proofs.MetAt.{Met, conjunct-at, met-at, met-fork}

same-some : {A : Type 0} (one other : A) → Some one ≡ Some other → one ≡ other
same-some one other e = cc

-- What is true of all variables that conjuncts use is true of those that one uses.
all-left-of : (P : ℕ → Type 0) (xs ys : List ℕ) → All P (xs ++ ys) → All P xs
all-left-of P [] ys all = All-nil P
all-left-of P (x ∷ xs) ys all = All-cons P x xs (All-head P x (xs ++ ys) all) (all-left-of P xs ys (All-tail P x (xs ++ ys) all))

all-right-of : (P : ℕ → Type 0) (xs ys : List ℕ) → All P (xs ++ ys) → All P ys
all-right-of P [] ys all = all
all-right-of P (x ∷ xs) ys all = all-right-of P xs ys (All-tail P x (xs ++ ys) all)

lent-of : (P : ℕ → Type 0) (conjuncts : List ConjunctCode) (number : ℕ) (conjunct : ConjunctCode) → slice_get conjuncts number ≡ Some conjunct → All P (used_by conjuncts) → All P conjunct.used
lent-of P [] number conjunct found all = absurd cc
lent-of P (first ∷ rest) zero conjunct found all = subst (λ (c : ConjunctCode). All P c.used) (same-some first conjunct found) (all-left-of P first.used (used_by rest) all)
lent-of P (first ∷ rest) (suc number) conjunct found all = lent-of P rest number conjunct found (all-right-of P first.used (used_by rest) all)

-- Given is a machine that stands at a fork, and a conjunct of it that is known.
module _ (machine : Machine) (site : Site) (ahead : RunCourse) (m : Met machine (Fork site) ahead) (number : ℕ) (conjunct : ConjunctCode) (listed : slice_get (m.codes.conjuncts site.number) number ≡ Some conjunct)
    (known : KnownConjunct) (found : conjunct_at machine.program.now.conjuncts site.number number ≡ Some known) where
  entry-is : IsConjunctEntry machine.program.now m.codes m.entry_of known conjunct
  entry-is =
      let has = m.loaded.conjuncts site.number number conjunct listed in
      subst (λ (k : KnownConjunct). IsConjunctEntry machine.program.now m.codes m.entry_of k conjunct) (same-some has.known known (sym has.found ∙ found)) has.is

  -- What it uses are variables of the frame that forks it ..
  used-within : All (λ (variable : ℕ). variable < m.runs.stands.variables) known.used
  used-within =
      let below = λ (variable : ℕ). variable < m.runs.stands.variables in
      let own = λ (instruction : Instruction). All below (lent_to m.codes.conjuncts instruction) in
      let lends : All below (used_by (m.codes.conjuncts site.number)) = All-head own (Fork site) m.rest m.runs.stands.position.lends in
      subst (All below) (sym entry-is.used_are) (lent-of below (m.codes.conjuncts site.number) number conjunct listed lends)

  used-have-slots : AreSlots (length machine.store.stacks.current) known.used
  used-have-slots =
      let room = m.runs.stands.frame.room in
      All-weaker (λ (variable : ℕ). variable < m.runs.stands.variables) (λ (slot : ℕ). slot < length machine.store.stacks.current) (λ variable below. omega (arith, below, room)) known.used used-within

  module _ (frozen : FrozenData) (freezes : Freezes machine.store known.used frozen) where
    frozen-is : frozen ≡ frozen_of known.used m.env
    frozen-is = freezes.is m.runs.stands.variables m.env m.marks m.runs.stands.frame used-within

    -- .. and of its own.
    used-has-room : All (λ (variable : ℕ). variable < entry-is.variables) known.used
    used-has-room = subst (All (λ (variable : ℕ). variable < entry-is.variables)) (sym entry-is.used_are) entry-is.used_are_there

    frozen-have-slots : AreSlots known.entry.size frozen.variables
    frozen-have-slots =
        let room = entry-is.room in
        let size = known.entry.size in
        let below = λ (variable : ℕ). variable < entry-is.variables in
        subst (λ (f : FrozenData). AreSlots size f.variables) (sym frozen-is)
        (All-weaker below (λ (slot : ℕ). slot < size) (λ variable h. omega (arith, h, room)) (frozen_of known.used m.env).variables (frozen_within below known.used m.env used-has-room))

    -- Its machine has before it the course that its code makes.
    means-course : (child : Machine) → OpensWith child.store known.entry.size frozen → child.program.now ≡ machine.program.now → child.phase ≡ Running known.entry.place
        → child.left ≡ 0 → child.later ≡ all_left machine → child.over ≡ None → (course : RunCourse) → YieldsLean m.codes (At conjunct.code (only conjunct.used m.env) [] [] [] (all_left machine)) course
        → Means child course
    means-course child opens program phase left later over course yields =
        let is = entry-is in
        let ops = child.program.now.ops.items in
        let cells = child.store.cells in
        let slots = child.store.stacks.current in
        let env = only conjunct.used m.env in
        let state = At conjunct.code env [] [] [] (all_left machine) in
        let stands = subst (λ (p : Loaded). StandsAt p.ops.items m.codes m.entry_of known.entry.place known.entry.size is.variables None conjunct.code) (sym program) is.stands in
        let frame = opens.fits known.used m.env frozen-is is.variables is.room used-has-room in
        let runs : Runs ops m.codes m.entry_of known.entry.place child.store conjunct.code env [] [] [] = record {
          own = None;
          stands = record {
            variables = is.variables;
            position = subst (λ n. StandsAt ops m.codes m.entry_of known.entry.place n is.variables None conjunct.code) (sym opens.room) stands;
            frame = subst (λ (used : List ℕ). FitsFrame cells is.variables slots (only used m.env) []) is.used_are frame;
          };
          callers_stand = subst (λ frames. CallersStand ops m.codes m.entry_of cells None frames []) (sym opens.callers) none;
          choices_stand = subst (λ frames. ChoicesStand ops m.codes m.entry_of cells frames []) (sym opens.choices) (none cells);
        } in
        record {
          stands_before = record {
            codes = m.codes;
            query = m.query;
            entry_of = m.entry_of;
            loaded = subst (λ (p : Loaded). IsLoaded p m.codes m.entry_of m.query) (sym program) m.loaded;
            state = state;
            stands = subst (λ p. Stands ops m.codes m.entry_of p child.store (all_left child) state) (sym phase) (runs, omega (arith, left, later));
            yields = yields;
          };
          over = over;
          rests = left;
        }

-- Given is a machine that stands at a fork, with a course before it, and a conjunct that is known.
module _ (machine : Machine) (site : Site) (at : MeetsAt machine (Fork site)) (ahead : RunCourse) (means : Means machine ahead) (number : ℕ) (known : KnownConjunct)
    (found : conjunct_at machine.program.now.conjuncts site.number number ≡ Some known) where
  -- What it uses has slots ..
  pub used-slots : AreSlots (length machine.store.stacks.current) known.used
  used-slots =
      let m = met-at machine (Fork site) ahead means.stands_before at in
      let listed = m.loaded.no_others site.number number known found in
      used-have-slots machine site ahead m number listed.0 listed.1 known found

  -- .. and so has what was copied.
  pub frozen-slots : (frozen : FrozenData) → Freezes machine.store known.used frozen → AreSlots known.entry.size frozen.variables
  frozen-slots frozen freezes =
      let m = met-at machine (Fork site) ahead means.stands_before at in
      let listed = m.loaded.no_others site.number number known found in
      frozen-have-slots machine site ahead m number listed.0 listed.1 known found frozen freezes

-- A course is forked for each conjunct.

course-there : (codes : Codes) (states : List State) (forked : Courses RunEnd) → YieldAllLean codes states forked → (number : ℕ) (state : State) → slice_get states number ≡ Some state
    → (course : RunCourse) × (course_at forked number ≡ Some course)
course-there codes _ _ yield_none number state found = absurd cc
course-there codes _ _ (yield_more state states course courses yields all) zero other found = (course, refl)
course-there codes _ _ (yield_more state states course courses yields all) (suc number) other found = course-there codes states courses all number other found

state-there : (conjuncts : List ConjunctCode) (env : Env) (left number : ℕ) (conjunct : ConjunctCode) → slice_get conjuncts number ≡ Some conjunct
    → (state : State) × (slice_get (forked_at conjuncts env left) number ≡ Some state)
state-there [] env left number conjunct found = absurd cc
state-there (first ∷ rest) env left zero conjunct found = (At first.code (only first.used env) [] [] [] left, refl)
state-there (first ∷ rest) env left (suc number) conjunct found = state-there rest env left number conjunct found

pub forked-there : (machine : Machine) (site : Site) → MeetsAt machine (Fork site) → (number : ℕ) (known : KnownConjunct) → conjunct_at machine.program.now.conjuncts site.number number ≡ Some known
    → (forked : Courses RunEnd) (next : Reply → RunCourse) → Means machine (Meets (AtFork site.number) forked next) → (course : RunCourse) × (course_at forked number ≡ Some course)
forked-there machine site at number known found forked next means =
    let m = met-at machine (Fork site) (Meets (AtFork site.number) forked next) means.stands_before at in
    let conjuncts = m.codes.conjuncts site.number in
    let listed = m.loaded.no_others site.number number known found in
    let state = state-there conjuncts m.env (all_left machine) number listed.0 listed.1 in
    course-there m.codes (forked_at conjuncts m.env (all_left machine)) forked (met-fork machine site forked next m).0 number state.0 state.1

-- A conjunct that is there is known.
pub not-unknown : (known : Option KnownConjunct) → None ≡ known → is_some known ≡ true → ⊥
not-unknown None is there = absurd cc
not-unknown (Some known) is there = absurd cc

-- A conjunct's machine has its course before it.
pub child-means : (machine : Machine) (site : Site) → MeetsAt machine (Fork site) → (number : ℕ) (known : KnownConjunct) → conjunct_at machine.program.now.conjuncts site.number number ≡ Some known
    → (frozen : FrozenData) → Freezes machine.store known.used frozen → (child : Machine) → OpensWith child.store known.entry.size frozen → child.program.now ≡ machine.program.now
    → child.phase ≡ Running known.entry.place → child.left ≡ 0 → child.later ≡ machine.later → child.over ≡ None
    → (forked : Courses RunEnd) (next : Reply → RunCourse) → Means machine (Meets (AtFork site.number) forked next) → (course : RunCourse) → course_at forked number ≡ Some course → Means child course
child-means machine site at number known found frozen freezes child opens program phase left later over forked next means course there =
    let ahead = Meets (AtFork site.number) forked next in
    let m = met-at machine (Fork site) ahead means.stands_before at in
    let conjuncts = m.codes.conjuncts site.number in
    let c = conjunct-at m.codes conjuncts m.env (all_left machine) forked (met-fork machine site forked next m).0 number course there in
    let rests = means.rests in
    means-course machine site ahead m number c.0 c.1 known found frozen freezes child opens program phase left (omega (arith, later, rests)) over course c.2
