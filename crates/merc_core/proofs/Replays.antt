-- What the core's parts say of the events so far, and what one event more makes of them.
use Rattle.std.proofs.Common.{◌≡◌, ℕ, ◌*◌, ◌≤◌, ◌<◌, ◌⊎◌, true, false, List, [], ◌∷◌, ◌++◌, Some, None, refl, ap, sym, ◌∙◌, subst, arith, length}
use Rattle.std.specs.Prelude.{Option, Result, Ok, Err, IfSome, is_some, slice_get}
use Rattle.std.specs.Option.{is_none}
use Rattle.std.specs.List.{AllByRecursion}
use Rattle.merc_script.specs.declared.outcome.Outcome.{Outcome}
use Rattle.merc_script.specs.declared.items.Item.{Item}
use Rattle.merc_script.specs.Script.{Script, size, end_of}
use Rattle.merc_script.specs.Items.{script_of}
use Rattle.merc_script.specs.ScriptCode.{script_of-items_of}
use Rattle.merc_core.specs.declared.event.Event.{Event}
use Rattle.merc_core.specs.declared.event.NotNow.{NotNow}
use Rattle.merc_core.specs.declared.join.Join.{Join as CoreJoin}
use Rattle.merc_core.specs.declared.state.State.{State}
use Rattle.merc_core.specs.World.{Join, Stored, World, start, outermost, outcome}
use Rattle.merc_core.specs.Events.{Answer, happens, run}
use Rattle.merc_core.specs.WellFormed.{WellFormed, most_workers}
use Rattle.merc_core.specs.Laws.{IsKept, IsCutEnd, GoesOn}
use Rattle.merc_core.specs.Mirror.{Parts, Mirrors, IsCourse, AreFit, ShowsJoin}
use Rattle.merc_core.specs.Stepping.{parts_of, IsKept as IsKeptState, Answers, Keeps}
use Rattle.merc_core.specs.Execution.{Execution, state_of, with_event, told, outcome_of, IsAccepted}
use Rattle.merc_core.specs.Outcomes.{stored_first, outermost_outcome}
use Rattle.merc_core.specs.Replaying.{Replays, IsFirstTurn, first_pop}
use Rattle.merc_core.proofs.Steps.{Step, ticked, forks, signals, passes, starves, parks, finishes, takes_up, resumes, step_of}
use Rattle.merc_core.proofs.StandingLaws.{length-items_of}
use Rattle.merc_core.proofs.Measure.{bounded}
use Rattle.merc_core.proofs.Live.{Live}
use Rattle.merc_core.proofs.Losses.{every_interleaving, every_loss}
use Rattle.merc_core.proofs.Dues.{due_in, live-after, never_stuck}
use Rattle.merc_core.proofs.Fits.{are-fit}
use Rattle.merc_core.proofs.Progress.{Accepted}
use Rattle.merc_core.proofs.Simple.{hand-within}
use Rattle.merc_core.proofs.Turns.{all-of, kept-pop, turn-ok, pop-ok, none-goes-on}

-- one event more
pub run-on : (events : List Event) (event : Event) (answer : Answer) (w : World) → run events answer ≡ Ok w → run (events ++ event ∷ []) answer ≡ happens w event
run-on [] event answer w is = ap (run (event ∷ [])) is
run-on (e ∷ es) event (Err refused) w is = absurd (cc)
run-on (e ∷ es) event (Ok u) w is = run-on es event (happens u e) w is

same-workers : (w : World) (e : Event) (w' : World) → Step w e w' → w'.workers ≡ w.workers
same-workers w _ _ (ticked v b rest others worker takes) = refl
same-workers w _ _ (forks v b limit cells moves children rest others worker takes) = refl
same-workers w _ _ (signals v b cell rest others worker takes) = refl
same-workers w _ _ (passes v b cell rest others worker takes full) = refl
same-workers w _ _ (starves v b cell rest others worker takes poisoned) = refl
same-workers w _ _ (parks v b cell rest others worker takes full poisoned) = refl
same-workers w _ _ (finishes e v b o others worker takes how) = refl
same-workers w _ _ (takes_up e v u b others worker takes-up free takes) = refl
same-workers w _ _ (resumes v b number join outcomes others worker takes is all) = refl

-- what is seen of items, events and so many workers
abbrev shown : List Item → List Event → ℕ → Execution
shown items events workers = record { root = script_of items; workers = workers; events = events }

module _ (items : List Item) (past : List ℕ) (parts : Parts) (events : List Event) (space : ℕ) (replays : Replays items past parts events space) where
  abbrev root : Script
  root = script_of items

  abbrev workers : ℕ
  workers = length parts.workers

  pub fit : AreFit items replays.world
  fit = are-fit items workers events replays.world replays.well replays.some replays.leads

  pub kept : IsKeptState items past parts
  kept = record { root = root; world = replays.world; course = replays.course; mirrors = replays.mirrors; fit = fit }

  pub live : Live (due_in root) root replays.world
  live = live-after root workers events replays.world replays.well replays.some replays.leads

  pub few-events : length events < 2 * size root
  few-events = bounded root workers events replays.world replays.leads

  -- the outcome is what is stored first at the first join

  of-outermost : (stored : List Stored) (one : CoreJoin) (join : Option Join) → join ≡ Some (outermost root) → ShowsJoin stored 0 (Some one) join → ShowsJoin stored 0 (Some one) (Some (outermost root))
  of-outermost stored one join is shows = subst (ShowsJoin stored 0 (Some one)) is shows

  first-outcomes : (joins : List CoreJoin) → parts.joins ≡ joins → outermost_outcome joins ≡ outcome replays.world
  first-outcomes [] is =
      let shows = subst (λ (l : List CoreJoin). ShowsJoin replays.world.stored 0 (slice_get l 0) (slice_get replays.world.joins 0)) is (replays.mirrors.joins 0) in
      absurd (subst (ShowsJoin replays.world.stored 0 None) live.outermost_is shows)
  first-outcomes (one ∷ more) is =
      let shows = subst (λ (l : List CoreJoin). ShowsJoin replays.world.stored 0 (slice_get l 0) (slice_get replays.world.joins 0)) is (replays.mirrors.joins 0) in
      ap stored_first (of-outermost replays.world.stored one (slice_get replays.world.joins 0) live.outermost_is shows).outcomes

  -- an execution that is seen so

  abbrev pub seen : Execution
  seen = record { root = root; workers = workers; events = events }

  module _ (e : Execution) (is : seen ≡ e) where
    pub state-is : state_of e ≡ Ok replays.world
    state-is = ap state_of (sym is) ∙ replays.leads

    pub outcome-is : outermost_outcome parts.joins ≡ outcome_of (state_of e)
    outcome-is = first-outcomes parts.joins refl ∙ sym (ap outcome_of state-is)

    pub accepted-so : IsAccepted e
    accepted-so = (replays.world, state-is)

    pub well-so : WellFormed e.root
    well-so = subst (λ (x : Execution). WellFormed x.root) is replays.well

    whole-at : (o : Option Outcome) → outcome replays.world ≡ o → IfSome o (λ end. AllByRecursion IsKept e.events → end ≡ end_of e.root)
    whole-at None there = tt
    whole-at (Some end) there = subst (λ (x : Execution). AllByRecursion IsKept x.events → end ≡ end_of x.root) is
        (λ all-kept. (every_interleaving root workers events replays.world replays.well all-kept replays.leads).whole end there)

    pub whole-so : (o : Option Outcome) → o ≡ outcome_of (state_of e) → IfSome o (λ end. AllByRecursion IsKept e.events → end ≡ end_of e.root)
    whole-so o there = whole-at o (sym (there ∙ ap outcome_of state-is))

    nearly-at : (o : Option Outcome) → outcome replays.world ≡ o → IfSome o (λ end. (end ≡ end_of e.root) ⊎ IsCutEnd end)
    nearly-at None there = tt
    nearly-at (Some end) there = subst (λ (x : Execution). (end ≡ end_of x.root) ⊎ IsCutEnd end) is
        ((every_loss root workers events replays.world replays.well replays.leads).whole end there)

    pub nearly-so : (o : Option Outcome) → o ≡ outcome_of (state_of e) → IfSome o (λ end. (end ≡ end_of e.root) ⊎ IsCutEnd end)
    nearly-so o there = nearly-at o (sym (there ∙ ap outcome_of state-is))

    -- one event more

    pub next-is : (event : Event) → state_of (with_event event e) ≡ happens replays.world event
    next-is event = ap (λ (x : Execution). state_of (with_event event x)) (sym is) ∙ run-on events event (Ok (start root workers)) replays.world replays.leads

    told-at : (event : Event) (old new : State) (result : Result (Unit {0}) NotNow) → Answers items event replays.world old result new → result ≡ told (happens replays.world event)
    told-at event old new (Ok done) answer = ap told (sym answer.1)
    told-at event old new (Err refused) answer = ap told (sym answer.0)

    pub told-so : (event : Event) (old new : State) (result : Result (Unit {0}) NotNow) → parts_of old ≡ parts → Keeps items past event old result new → result ≡ told (state_of (with_event event e))
    told-so event old new result same keeps =
        told-at event old new result (keeps root replays.world replays.course (rw same replays.mirrors) fit) ∙ ap told (sym (next-is event))

    pub few-so : length e.events < 2 * size e.root
    few-so = subst (λ (x : Execution). length x.events < 2 * size x.root) is few-events

    -- an event that is ready

    pub accepts : (event : Event) → Accepted replays.world event → IsAccepted (with_event event e)
    accepts event accepted = (accepted.next, next-is event ∙ accepted.is)

    pub turn-accepted : (event : Event) → IsFirstTurn items 0 parts.workers (Some event) → IsAccepted (with_event event e)
    turn-accepted event turn = accepts event (turn-ok items parts replays.world replays.mirrors fit (due_in root) root live event turn)

    pub pop-accepted : (event : Event) → IsFirstTurn items 0 parts.workers None → first_pop 0 parts.workers ≡ Some event → IsAccepted (with_event event e)
    pop-accepted event free pop = accepts event (pop-ok items parts replays.world replays.mirrors fit (due_in root) root live free event pop)

    pub pops-accepted : (found : Option Event) → IsFirstTurn items 0 parts.workers None → first_pop 0 parts.workers ≡ found → IfSome found (λ event. IsAccepted (with_event event e))
    pops-accepted None free is = tt
    pops-accepted (Some event) free is = pop-accepted event free is

    pub pops-kept : (found : Option Event) → first_pop 0 parts.workers ≡ found → IfSome found IsKept
    pops-kept None is = tt
    pops-kept (Some event) is = kept-pop parts.workers event is

    -- no event is ready, so the outcome is there
    none-so : (o : Option Outcome) → outcome replays.world ≡ o → (outcome replays.world ≡ None → GoesOn replays.world) → (GoesOn replays.world → ⊥) → is_some o ≡ true
    none-so (Some end) there on none = refl
    none-so None there on none = absurd (none (on there))

    pub done-so : IsFirstTurn items 0 parts.workers None → first_pop 0 parts.workers ≡ None → is_some (outcome_of (state_of e)) ≡ true
    done-so free none = ap (λ (a : Answer). is_some (outcome_of a)) state-is
        ∙ none-so (outcome replays.world) refl (never_stuck root workers events replays.world replays.well replays.some replays.leads)
        (none-goes-on items parts replays.world replays.mirrors fit (due_in root) root live free none)

  -- an event more

  pub workers-kept : (old new : State) (event : Event) → parts_of old ≡ parts → Keeps items past event old (Ok tt) new → length (parts_of new).workers ≡ workers
  workers-kept old new event is keeps =
      let answer = keeps root replays.world replays.course (rw is replays.mirrors) fit in
      answer.2.workers ∙ same-workers replays.world event answer.0 (step_of replays.world event answer.0 answer.1) ∙ sym replays.mirrors.workers

  pub one-more : (old new : State) (event : Event) → parts_of old ≡ parts → Keeps items past event old (Ok tt) new → Replays items past (parts_of new) (events ++ event ∷ []) space
  one-more old new event is keeps =
      let answer = keeps root replays.world replays.course (rw is replays.mirrors) fit in
      let same = workers-kept old new event is keeps in
      record {
        world = answer.0;
        well = replays.well;
        course = replays.course;
        some = rw same replays.some;
        few = rw same replays.few;
        leads = rw same (run-on events event (Ok (start root workers)) replays.world replays.leads ∙ answer.1);
        mirrors = answer.2;
        roomy = replays.roomy;
      }

module _ (items : List Item) (past : List ℕ) (parts : Parts) (events : List Event) (space : ℕ) (replays : Replays items past parts events space) where
  -- an event that is refused leaves all as it was
  pub unchanged : (event : Event) (refused : NotNow) (old new : State) → parts_of old ≡ parts → Keeps items past event old (Err refused) new → new ≡ old
  unchanged event refused old new same keeps = (keeps (script_of items) replays.world replays.course (rw same replays.mirrors) (fit items past parts events space replays)).1

  -- all branches in hands stand at items
  pub within : AllByRecursion (λ k. AllByRecursion (λ b. b.at < length items) k.hand) parts.workers
  within = all-of (λ k. AllByRecursion (λ b. b.at < length items) k.hand) parts.workers
      (λ number worker stands. hand-within items parts replays.world replays.mirrors (fit items past parts events space replays) number worker stands)

  -- a pop is found exactly where the outcome is not there
  pub pops-none : (e : Execution) → seen items past parts events space replays ≡ e → (found : Option Event) → IsFirstTurn items 0 parts.workers None → first_pop 0 parts.workers ≡ found
      → is_some (outcome_of (state_of e)) ≡ false → is_none found ≡ is_some (outcome_of (state_of e))
  pops-none e is None free pop not-done = sym (done-so items past parts events space replays e is free pop)
  pops-none e is (Some event) free pop not-done = sym not-done

  -- what is seen of the core after an event

  pub seen-more : (e : Execution) → seen items past parts events space replays ≡ e → (old new : State) (event : Event) → parts_of old ≡ parts → Keeps items past event old (Ok tt) new
      → shown items (events ++ event ∷ []) (length (parts_of new).workers) ≡ with_event event e
  seen-more e is old new event same keeps =
      ap (shown items (events ++ event ∷ [])) (workers-kept items past parts events space replays old new event same keeps) ∙ ap (with_event event) is

  pub seen-same : (e : Execution) → seen items past parts events space replays ≡ e → (old new : State) (event : Event) (refused : NotNow) → parts_of old ≡ parts
      → Keeps items past event old (Err refused) new → shown items events (length (parts_of new).workers) ≡ e
  seen-same e is old new event refused same keeps =
      ap (λ (s : State). shown items events (length (parts_of s).workers)) (unchanged event refused old new same keeps)
      ∙ ap (λ (p : Parts). shown items events (length p.workers)) same ∙ is

-- the start

pub root-is : (items : List Item) (past : List ℕ) (root : Script) → IsCourse items past root → script_of items ≡ root
root-is items past root course = ap script_of course.whole ∙ script_of-items_of root

pub at-start : (items : List Item) (past : List ℕ) (parts : Parts) (root : Script) (workers : ℕ) → WellFormed root → 1 ≤ workers → workers ≤ most_workers → IsCourse items past root
    → Mirrors items parts (start root workers) → (space : ℕ) → space ≡ 2 * length items → Replays items past parts [] space
at-start items past parts root workers well some few course mirrors space exact =
    let is : root ≡ script_of items = sym (root-is items past root course) in
    let same : workers ≡ length parts.workers = sym mirrors.workers in
    let long : length items ≡ size root = ap length course.whole ∙ length-items_of root in
    record {
      world = start root workers;
      well = subst WellFormed is well;
      course = subst (IsCourse items past) is course;
      some = subst (λ (n : ℕ). 1 ≤ n) same some;
      few = subst (λ (n : ℕ). n ≤ most_workers) same few;
      leads = ap (λ (r : Script). Ok (start r (length parts.workers))) (sym is) ∙ ap (λ (n : ℕ). Ok (start root n)) (sym same);
      mirrors = mirrors;
      roomy = subst (λ (r : Script). 2 * size r ≤ space) is (omega (arith, long, exact));
    }
