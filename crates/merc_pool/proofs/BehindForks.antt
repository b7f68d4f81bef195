-- Behind a fork a machine goes on through its course, or has stopped as its conjuncts say.
use Rattle.std.proofs.Common.{◌≡◌, ℕ, zero, suc, ◌+◌, ◌-◌, ◌≤◌, List, [], Option, Some, refl, ap, sym, ◌∙◌, subst, arith, slice_get}
use Rattle.merc_value.specs.Value.{Value}
use Rattle.merc_meaning.specs.Trace.{Run, RunEnd, RunRaised, LimitPassed as PastLimit, Ends as RunEnds}
use Rattle.merc_script.specs.declared.outcome.Outcome.{Outcome}
use Rattle.merc_script.specs.declared.outcome.Outcome.TheVariants.{Ok as Fine, Raise, Limit, Starved, NoMemory}
use Rattle.merc_script.specs.declared.cells.Move.{Move}
use Rattle.merc_script.specs.Script.{Script, Ends, TickThen, WaitThen, SignalThen, ForkThen, Children, Cell, ends}
use Rattle.merc_script.specs.Joining.{joined, later}
use Rattle.merc_script.specs.Places.{Place, left_behind, left_in, left_of, script_named}
use Rattle.merc_core.specs.WellFormed.{cells_of, value_in}
use Rattle.merc_course.specs.Course.{RunCourse, Meets, AtFork, Reply, Joined, Courses}
use Rattle.merc_rights.specs.declared.sites.SiteInfo.{SiteInfo}
use Rattle.merc_graded_tree.specs.declared.basic.Site.{Site}
use Rattle.merc_machine.specs.declared.machine.Machine.{Machine}
use Rattle.merc_machine.specs.declared.running.Stop.{Stop}
use Rattle.merc_machine.specs.declared.running.Stop.TheVariants.{Raised, LimitPassed, AtFork as AtForkStop}
use Rattle.merc_machine.specs.Coming.{all_left}
use Rattle.merc_machine.specs.Running.{Means, steps_in, stop_by}
use Rattle.merc_board.specs.Rights.{Rights}
use Rattle.merc_board.specs.Going.{next as place_behind}
use Rattle.merc_carried.specs.Sharing.{rights_behind}
use Rattle.merc_carried.specs.Runs.{behind_steps, IsLeftOf}
use Rattle.merc_carried.specs.KeepsTo.{KeepsTo, ShowsEnd, goes_on as fork_goes_on, ends_there}
use Rattle.merc_pool.specs.declared.engine.Engine as Engine
use Rattle.merc_pool.specs.declared.load.Progress.{Progress}
use Rattle.merc_carried.specs.Plain.{IsPlain}
use Rattle.merc_pool.specs.Carrying.{made_by, IsCounted, IsOn, HasStopped, goes_on, has_stopped, StandsAt}
use Rattle.merc_pool.specs.Ending.{IsJoinedFork}
use Rattle.merc_carried.proofs.Conjuncts.{joined_within, steps_of}
use Rattle.merc_carried.proofs.Left.{left_steps}
use Rattle.merc_carried.proofs.Places.{left_next}

-- What a course that keeps to its script at a fork comes to.
module _ (sites : List SiteInfo) (values : ℕ → Option Value) where
  pub data ForkComes (rights : Rights) (left made : ℕ) (run : Run) (site limit : ℕ) (cells : List Cell) (children : Children) (next : Reply → RunCourse) (rest : Script) : Type 0 where
    comes_well : (steps : ℕ) (behind : Run) (info : SiteInfo) → slice_get sites site ≡ Some info → joined limit (ends children) ≡ Fine steps → run ≡ behind_steps steps behind
        → KeepsTo sites values (rights_behind info cells rights) (left - steps) (made + steps) behind (next (Joined steps)) rest → ForkComes rights left made run site limit cells children next rest
    comes_badly : (end : Outcome) → ((steps : ℕ) → joined limit (ends children) ≡ Fine steps → ⊥) → end ≡ later made (joined limit (ends children)) → ShowsEnd (joined limit (ends children)) run
        → rest ≡ Ends end → ForkComes rights left made run site limit cells children next rest

  pub fork-comes : (rights : Rights) (left made : ℕ) (run : Run) (site limit : ℕ) (cells : List Cell) (moves : List Move) (children : Children) (forked : Courses RunEnd) (next : Reply → RunCourse) (rest : Script)
      → KeepsTo sites values rights left made run (Meets (AtFork site) forked next) (ForkThen limit cells moves children rest)
      → ForkComes rights left made run site limit cells children next rest
  fork-comes _ _ _ _ _ _ _ _ _ _ _ _ (fork_goes_on rights left made steps run behind site info cells moves forked next children rest found is_fork all joins is keeps) =
      comes_well steps behind info found joins is keeps
  fork-comes _ _ _ _ _ _ _ _ _ _ _ _ (ends_there rights left made run site info cells moves forked next children end found is_fork all not_fine is shows) =
      comes_badly end not_fine is shows refl

  -- its limit is the steps that are left
  pub limit-left : (rights : Rights) (left made : ℕ) (run : Run) (site limit : ℕ) (cells : List Cell) (moves : List Move) (children : Children) (forked : Courses RunEnd) (next : Reply → RunCourse) (rest : Script)
      → KeepsTo sites values rights left made run (Meets (AtFork site) forked next) (ForkThen limit cells moves children rest) → limit ≡ left
  limit-left _ _ _ _ _ _ _ _ _ _ _ _ (fork_goes_on rights left made steps run behind site info cells moves forked next children rest found is_fork all joins is keeps) = refl
  limit-left _ _ _ _ _ _ _ _ _ _ _ _ (ends_there rights left made run site info cells moves forked next children end found is_fork all not_fine is shows) = refl

plain-behind : (passed limit : ℕ) (cells : List Cell) (moves : List Move) (children : Children) (rest s : Script) → IsPlain s → left_behind passed s ≡ Some (ForkThen limit cells moves children rest) → ⊥
plain-behind zero limit cells moves children rest (Ends end) plain is = absurd (cc)
plain-behind zero limit cells moves children rest (TickThen more) plain is = absurd (cc)
plain-behind passed limit cells moves children rest (WaitThen cell more) plain is = plain
plain-behind passed limit cells moves children rest (SignalThen cell more) plain is = plain
plain-behind passed limit cells moves children rest (ForkThen limit' cells' moves' children' more) plain is = plain
plain-behind (suc passed) limit cells moves children rest (Ends end) plain is = absurd (cc)
plain-behind (suc passed) limit cells moves children rest (TickThen more) plain is = plain-behind passed limit cells moves children rest more plain is

-- nothing is forked in a plain root
pub plain-forks : (at : Place) (root : Script) (limit : ℕ) (cells : List Cell) (moves : List Move) (children : Children) (rest : Script) → at.root ≡ root → at.name ≡ []
    → left_of at ≡ Some (ForkThen limit cells moves children rest) → IsPlain root → ⊥
plain-forks at root limit cells moves children rest rooted named left plain =
    plain-behind at.passed limit cells moves children rest root plain
    (sym (ap (λ (r : Script). left_in at.passed (script_named [] (Some r))) rooted) ∙ sym (ap (λ name. left_in at.passed (script_named name (Some at.root))) named) ∙ left)

-- so many steps are made once conjuncts have joined
made-more : (left left' steps limit : ℕ) → left ≤ limit → left' + steps ≡ left → limit - left' ≡ (limit - left) + steps
made-more left left' steps limit within spent = omega (arith, within, spent)

-- What the call says that takes a machine past its fork.
pub record HasRejoined (old machine : Machine) (site : ℕ) (outcome : Outcome) : Type 0 where
  pub on : (steps : ℕ) → outcome ≡ Fine steps → (forked : Courses RunEnd) (next : Reply → RunCourse) → Means old (Meets (AtFork site) forked next) → Means machine (next (Joined steps))
  pub over : (stop : Stop) → stop_by outcome ≡ Some stop → machine.over ≡ Some stop
  pub spent : all_left machine + steps_in outcome ≡ all_left old
  pub limit : machine.limit ≡ old.limit

same-steps : (outcome : Outcome) → steps_in outcome ≡ steps_of outcome
same-steps (Fine steps) = refl
same-steps (Raise text steps) = refl
same-steps Limit = refl
same-steps Starved = refl
same-steps NoMemory = refl

site-same : (stop : Stop) (one other : Site) → stop ≡ AtForkStop one → stop ≡ AtForkStop other → one.number ≡ other.number
site-same stop one other is also = let same : AtForkStop one ≡ AtForkStop other = sym is ∙ also in let site : one ≡ other = cc in ap (λ (s : Site). s.number) site

pub has-rejoined : (old machine : Machine) (stop : Stop) (site there : Site) (outcome : Outcome) → stop ≡ AtForkStop site → stop ≡ AtForkStop there
    → ((steps : ℕ) → outcome ≡ Fine steps → (forked : Courses RunEnd) (next : Reply → RunCourse) → Means old (Meets (AtFork site.number) forked next) → Means machine (next (Joined steps)))
    → ((by : Stop) → stop_by outcome ≡ Some by → machine ≡ record old { later = all_left old - steps_in outcome; over = Some by })
    → (all_left machine + steps_in outcome ≡ all_left old) × (machine.limit ≡ old.limit) → HasRejoined old machine there.number outcome
has-rejoined old machine stop site there outcome is also well badly spends = record {
  on = λ steps fine forked next means. well steps fine forked next (subst (λ (n : ℕ). Means old (Meets (AtFork n) forked next)) (site-same stop there site also is) means);
  over = λ by stops. ap (λ (m : Machine). m.over) (badly by stops);
  spent = spends.0;
  limit = spends.1;
}

module _ {M : Type 0} (m : Engine.Ghosts M) (sites : List SiteInfo) (root : Script) (whole : Run) where
  pub steps-left-there : (progress : Progress M) (rights : Rights) (at : Place) (outcome : Outcome) → IsJoinedFork m sites root whole progress rights at outcome → steps_in outcome ≤ all_left (m.seen progress.machine)
  steps-left-there progress rights at outcome joins =
      let f = joins.fork in
      let limit = limit-left sites (value_in (cells_of root)) f.before (all_left (m.seen progress.machine)) (made_by (m.seen progress.machine)) f.on.run f.site.number f.limit f.cells f.moves f.children f.forked f.next f.rest f.on.keeps in
      let within = joined_within f.limit (ends f.children) in
      let counts = same-steps (joined f.limit (ends f.children)) in
      let steps = ap steps_in joins.joins in
      omega (arith, within, steps, limit, counts)

  abbrev behind_it : Progress M → M → ℕ → Progress M
  behind_it progress machine reported = record progress { machine = machine; reported = reported }

  counted-behind : (progress : Progress M) (machine : M) (site : ℕ) (outcome : Outcome) → IsCounted (m.seen progress.machine) → HasRejoined (m.seen progress.machine) (m.seen machine) site outcome → IsCounted (m.seen machine)
  counted-behind progress machine site outcome counted rejoined =
      let spent = rejoined.spent in
      let limit = rejoined.limit in
      let within = counted.within in
      let few = counted.few in
      record { within = omega (arith, spent, limit, within); few = omega (arith, limit, few) }

  made-behind : (progress : Progress M) (machine : M) (site : ℕ) (outcome : Outcome) → IsCounted (m.seen progress.machine) → HasRejoined (m.seen progress.machine) (m.seen machine) site outcome → made_by (m.seen machine) ≡ made_by (m.seen progress.machine) + steps_in outcome
  made-behind progress machine site outcome counted rejoined =
      ap (λ limit. limit - all_left (m.seen machine)) rejoined.limit ∙ made-more (all_left (m.seen progress.machine)) (all_left (m.seen machine)) (steps_in outcome) (m.seen progress.machine).limit counted.within rejoined.spent

  left-there : (progress : Progress M) (rights : Rights) (at : Place) (outcome : Outcome) → (joins : IsJoinedFork m sites root whole progress rights at outcome) → left_of (place_behind at) ≡ Some joins.fork.rest
  left-there progress rights at outcome joins =
      let f = joins.fork in
      left_next at (ForkThen f.limit f.cells f.moves f.children f.rest) f.on.left

  -- it goes on, where they ended well
  goes-well : (progress : Progress M) (rights : Rights) (at : Place) (outcome : Outcome) (machine : M) (reported steps : ℕ) (behind : Run) (info : SiteInfo)
      → (joins : IsJoinedFork m sites root whole progress rights at outcome) → HasRejoined (m.seen progress.machine) (m.seen machine) joins.fork.site.number outcome → outcome ≡ Fine steps
      → slice_get sites joins.fork.site.number ≡ Some info → joins.fork.on.run ≡ behind_steps steps behind
      → KeepsTo sites (value_in (cells_of root)) (rights_behind info joins.fork.cells joins.fork.before) (all_left (m.seen progress.machine) - steps) (made_by (m.seen progress.machine) + steps) behind (joins.fork.next (Joined steps)) joins.fork.rest
      → IsOn m sites root whole (behind_it progress machine reported) rights (place_behind at) (joins.fork.next (Joined steps)) joins.fork.rest
  goes-well progress rights at outcome machine reported steps behind info joins rejoined fine found is keeps =
      let f = joins.fork in
      let steps_are : steps_in outcome ≡ steps = ap steps_in fine in
      let made : made_by (m.seen machine) ≡ made_by (m.seen progress.machine) + steps = made-behind progress machine f.site.number outcome f.on.counted rejoined ∙ ap (λ n. made_by (m.seen progress.machine) + n) steps_are in
      let spent = rejoined.spent in
      let left : all_left (m.seen progress.machine) - steps ≡ all_left (m.seen machine) = omega (arith, spent, steps_are) in
      let same : Some info ≡ Some f.info = sym found ∙ f.found in
      let handed : rights_behind info f.cells f.before ≡ rights = (let i : info ≡ f.info = cc in ap (λ (i : SiteInfo). rights_behind i f.cells f.before) i ∙ sym f.handed) in
      record {
        rooted = f.on.rooted;
        left = left-there progress rights at outcome joins;
        run = behind;
        keeps = subst (λ (r : Rights). KeepsTo sites (value_in (cells_of root)) r (all_left (m.seen machine)) (made_by (m.seen machine)) behind (f.next (Joined steps)) f.rest) handed
            (subst (λ (n : ℕ). KeepsTo sites (value_in (cells_of root)) (rights_behind info f.cells f.before) n (made_by (m.seen machine)) behind (f.next (Joined steps)) f.rest) left
            (subst (λ (n : ℕ). KeepsTo sites (value_in (cells_of root)) (rights_behind info f.cells f.before) (all_left (m.seen progress.machine) - steps) n behind (f.next (Joined steps)) f.rest) (sym made) keeps));
        means = rejoined.on steps fine f.forked f.next f.on.means;
        counted = counted-behind progress machine f.site.number outcome f.on.counted rejoined;
        tells = λ named. subst (λ (n : ℕ). IsLeftOf whole progress.given n behind) (sym made)
            (left_steps whole progress.given (made_by (m.seen progress.machine)) steps behind (subst (λ (r : Run). IsLeftOf whole progress.given (made_by (m.seen progress.machine)) r) is (f.on.tells named)));
      }

  -- it has stopped, where they did not
  goes-badly : (progress : Progress M) (rights : Rights) (at : Place) (outcome : Outcome) (machine : M) (reported : ℕ) (end : Outcome) → (joins : IsJoinedFork m sites root whole progress rights at outcome)
      → HasRejoined (m.seen progress.machine) (m.seen machine) joins.fork.site.number outcome → ((steps : ℕ) → outcome ≡ Fine steps → ⊥) → end ≡ later (made_by (m.seen progress.machine)) outcome → ShowsEnd outcome joins.fork.on.run
      → joins.fork.rest ≡ Ends end → (stop : Stop) × HasStopped m sites root whole (behind_it progress machine reported) stop end (place_behind at)
  goes-badly progress rights at (Fine steps) machine reported end joins rejoined not_fine is shows there = absurd (not_fine steps refl)
  goes-badly progress rights at Starved machine reported end joins rejoined not_fine is shows there = absurd (joins.is_fed refl)
  goes-badly progress rights at NoMemory machine reported end joins rejoined not_fine is shows there = absurd (joins.has_memory refl)
  goes-badly progress rights at (Raise text steps) machine reported end joins rejoined not_fine is shows there =
      let f = joins.fork in
      let made = made-behind progress machine f.site.number (Raise text steps) f.on.counted rejoined in (
        Raised text,
        record {
          over = rejoined.over (Raised text) refl;
          rooted = f.on.rooted;
          left = left-there progress rights at (Raise text steps) joins ∙ ap (λ s. Some s) there;
          ends = is ∙ ap (Raise text) (sym made);
          counted = counted-behind progress machine f.site.number (Raise text steps) f.on.counted rejoined;
          tells = λ named. record {
            made = made_by (m.seen machine);
            end = RunRaised text;
            left = subst (λ (n : ℕ). IsLeftOf whole progress.given n (RunEnds (RunRaised text))) (sym made)
                (left_steps whole progress.given (made_by (m.seen progress.machine)) steps (RunEnds (RunRaised text)) (subst (λ (r : Run). IsLeftOf whole progress.given (made_by (m.seen progress.machine)) r) shows (f.on.tells named)));
            shows = refl;
            plain = λ plain. refl;
          };
        },
      )
  goes-badly progress rights at Limit machine reported end joins rejoined not_fine is shows there =
      let f = joins.fork in (
        LimitPassed,
        record {
          over = rejoined.over LimitPassed refl;
          rooted = f.on.rooted;
          left = left-there progress rights at Limit joins ∙ ap (λ s. Some s) there;
          ends = is;
          counted = counted-behind progress machine f.site.number Limit f.on.counted rejoined;
          tells = λ named. record {
            made = made_by (m.seen progress.machine) + shows.0;
            end = PastLimit;
            left = left_steps whole progress.given (made_by (m.seen progress.machine)) shows.0 (RunEnds PastLimit) (subst (λ (r : Run). IsLeftOf whole progress.given (made_by (m.seen progress.machine)) r) shows.1 (f.on.tells named));
            shows = refl;
            plain = λ plain. absurd (plain-forks at root f.limit f.cells f.moves f.children f.rest f.on.rooted named f.on.left plain);
          };
        },
      )

  pub stands-behind : (progress : Progress M) (rights : Rights) (at : Place) (outcome : Outcome) (machine : M) (reported : ℕ) → (joins : IsJoinedFork m sites root whole progress rights at outcome)
      → HasRejoined (m.seen progress.machine) (m.seen machine) joins.fork.site.number outcome → reported ≡ made_by (m.seen machine) → StandsAt m sites root whole (behind_it progress machine reported) rights (place_behind at)
  stands-behind progress rights at outcome machine reported joins rejoined reports =
      let f = joins.fork in
      let comes = fork-comes sites (value_in (cells_of root)) f.before (all_left (m.seen progress.machine)) (made_by (m.seen progress.machine)) f.on.run f.site.number f.limit f.cells f.moves f.children f.forked f.next f.rest f.on.keeps in (
        sym reports,
        elim comes [
          | comes_well steps behind info found fine is keeps ↦
              goes_on (f.next (Joined steps)) f.rest (goes-well progress rights at outcome machine reported steps behind info joins rejoined (sym joins.joins ∙ fine) found is keeps)
          | comes_badly end not_fine is shows there ↦ (
              let stopped = goes-badly progress rights at outcome machine reported end joins rejoined (λ steps fine. not_fine steps (joins.joins ∙ fine))
              (is ∙ ap (later (made_by (m.seen progress.machine))) joins.joins) (subst (λ (o : Outcome). ShowsEnd o f.on.run) joins.joins shows) there in
              has_stopped stopped.0 end stopped.1)
        ],
      )
