-- What a slice of a branch comes to, from what a run of its machine comes to.
use Rattle.std.proofs.Common.{◌≡◌, ◌≢◌, ℕ, zero, suc, ◌+◌, ◌-◌, ◌<◌, ◌≤◌, List, [], ◌∷◌, Option, Some, None, slice_get, refl, ap, sym, ◌∙◌, subst, arith}
use Rattle.merc_meaning.specs.Counting.{counted}
use Rattle.merc_value.specs.Value.{Value}
use Rattle.merc_meaning.specs.Trace.{Env, Run, RunEnd, RunDone, RunRaised, LimitPassed as PastLimit, Ends as RunEnds, Tick as RunTick, Answer as RunAnswer}
use Rattle.merc_script.specs.declared.outcome.Outcome.{Outcome}
use Rattle.merc_script.specs.declared.outcome.Outcome.TheVariants.{Ok as Fine, Raise, Limit}
use Rattle.merc_script.specs.Script.{Script, Ends, TickThen}
use Rattle.merc_script.specs.Places.{Place, left_of}
use Rattle.merc_core.specs.WellFormed.{cells_of, value_in, most_steps}
use Rattle.merc_course.specs.Course.{Meeting, RunCourse, Ends as CourseEnds, Tick, Answer as AnswerOf, Meets, AtWait, AtFork, AtSignal, Reply, Courses}
use Rattle.merc_rights.specs.declared.sites.SiteInfo.{SiteInfo}
use Rattle.merc_code.specs.declared.instruction.Instruction.{Instruction}
use Rattle.merc_machine.specs.declared.machine.Machine.{Machine}
use Rattle.merc_machine.specs.declared.running.Stop.{Stop}
use Rattle.merc_machine.specs.declared.running.Stop.TheVariants.{Answer, Ended, Raised, LimitPassed, Starved as StarvedStop, AtFork as AtForkStop, AtWait as AtWaitStop, AtSignal as AtSignalStop, SliceOver, NoMemory as NoMemoryStop}
use Rattle.merc_machine.specs.Coming.{MeetsAt, all_left}
use Rattle.merc_machine.specs.Running.{Means, HasAnswered, RanTo, CameTo, Ran, behind_steps, last_stop}
use Rattle.merc_board.specs.Rights.{Rights}
use Rattle.merc_board.specs.Going.{Ticked, ticks_before}
use Rattle.merc_carried.specs.Runs.{IsLeftOf, answered, answers_of, behind_steps as run_behind}
use Rattle.merc_carried.specs.KeepsTo.{KeepsTo}
use Rattle.merc_carried.proofs.Left.{left_steps}
use Rattle.merc_carried.proofs.Places.{further, left_past, ticked_on, not_ticked}
use Rattle.merc_carried.proofs.Keeping.{tick_keeps, answer_keeps, done_keeps, raised_keeps, limited_keeps}
use Rattle.merc_pool.specs.declared.engine.Engine as Engine
use Rattle.merc_pool.specs.declared.load.Progress.{Progress}
use Rattle.merc_carried.specs.Plain.{IsPlain}
use Rattle.merc_pool.specs.Carrying.{made_by, IsCounted, IsOn, IsToldEnd, HasStopped, EndsAs, ShowsAs, Stands, goes_on, has_stopped}
use Rattle.merc_pool.specs.Running.{CountsSlice, HasRun, IsAnswering, IsMeeting, RunsTo, StoppedAt}

none_more : (n : ℕ) → n + zero ≡ n
none_more n = omega arith

suc_more : (n k : ℕ) → n + suc k ≡ suc n + k
suc_more n k = omega arith

minus_suc : (n k before left : ℕ) → n + suc k ≡ left → left ≡ suc before → n + k ≡ before
minus_suc n k before left e f = omega (arith, e, f)

-- A course behind so many steps.
module _ (sites : List SiteInfo) (values : ℕ → Option Value) where
  record Passes (rights : Rights) (left made steps : ℕ) (run : Run) (course : RunCourse) (script : Script) : Type 0 where
    pub rest : Script
    pub shown : Run
    pub is_script : script ≡ ticks_before steps rest
    pub is_run : run ≡ run_behind steps shown
    pub keeps : KeepsTo sites values rights left made shown course rest

  passes : (steps : ℕ) (rights : Rights) (left left' made made' : ℕ) (run : Run) (course : RunCourse) (script : Script) → left' + steps ≡ left → made' ≡ made + steps
      → KeepsTo sites values rights left made run (behind_steps steps course) script → Passes rights left' made' steps run course script
  passes zero rights left left' made made' run course script e f keeps = record {
    rest = script;
    shown = run;
    is_script = refl;
    is_run = refl;
    keeps = subst (λ l. KeepsTo sites values rights l made' run course script) (sym e ∙ none_more left')
        (subst (λ n. KeepsTo sites values rights left n run course script) (sym (f ∙ none_more made)) keeps);
  }
  passes (suc steps) rights left left' made made' run course script e f keeps =
      let t = tick_keeps sites values rights left made run (behind_steps steps course) script keeps in
      let p = passes steps rights t.before left' (suc made) made' t.shown course t.rest (minus_suc left' steps t.before left e t.is_left) (f ∙ suc_more made steps) t.keeps in
      record {
        rest = p.rest;
        shown = p.shown;
        is_script = t.is_script ∙ ap TickThen p.is_script;
        is_run = t.is_run ∙ ap RunTick p.is_run;
        keeps = p.keeps;
      }

more_made : (limit left before made : ℕ) → left + made ≡ before → before ≤ limit → limit - left ≡ (limit - before) + made
more_made limit left before made e less = omega (arith, e, less)

still_within : (limit left before made : ℕ) → left + made ≡ before → before ≤ limit → left ≤ limit
still_within limit left before made e less = omega (arith, e, less)

less_within : (made slice : ℕ) → made < slice → made ≤ slice
less_within made slice less = omega (arith, less)

none_made : (n : ℕ) → n ≡ n + zero
none_made n = omega arith

module _ {M : Type 0} (m : Engine.Ghosts M) (sites : List SiteInfo) (root : Script) (whole : Run) (old now : Progress M) (same_given : now.given ≡ old.given) (same_reported : now.reported ≡ old.reported) where
  abbrev values : ℕ → Option Value
  values = value_in (cells_of root)

  abbrev before : Machine
  before = m.seen old.machine

  abbrev after : Machine
  after = m.seen now.machine

  record HasGone (rights : Rights) (from : Place) (made : ℕ) (course : RunCourse) : Type 0 where
    pub rest : Script
    pub run : Run
    pub ticked : Ticked from made (further made from)
    pub left : left_of (further made from) ≡ Some rest
    pub keeps : KeepsTo sites values rights (all_left after) (made_by after) run course rest
    pub more : made_by after ≡ made_by before + made
    pub counted : IsCounted after
    pub rooted : from.root ≡ root
    pub tells : from.name ≡ [] → IsLeftOf whole now.given (made_by after) run

  has_gone : (rights : Rights) (from : Place) (course next : RunCourse) (script : Script) (made t t' : ℕ) → IsOn m sites root whole old rights from course script → RanTo course next before after t t' made
      → HasGone rights from made next
  has_gone rights from course next script made t t' on ran =
      let less : all_left before ≤ after.limit = subst (λ l. all_left before ≤ l) (sym ran.limit) on.counted.within in
      let more : made_by after ≡ made_by before + made =
      more_made after.limit (all_left after) (all_left before) made ran.spends less ∙ ap (λ l. (l - all_left before) + made) ran.limit in
      let p = passes sites values made rights (all_left before) (all_left after) (made_by before) (made_by after) on.run next script ran.spends more
      (subst (λ c. KeepsTo sites values rights (all_left before) (made_by before) on.run c script) ran.whole on.keeps) in
      let there = on.left ∙ ap Some p.is_script in
      record {
        rest = p.rest;
        run = p.shown;
        ticked = ticked_on from made p.rest there;
        left = left_past from made p.rest there;
        keeps = p.keeps;
        more = more;
        counted = record {
          within = still_within after.limit (all_left after) (all_left before) made ran.spends less;
          few = subst (λ l. l ≤ most_steps) (sym ran.limit) on.counted.few;
        };
        rooted = on.rooted;
        tells = λ named. subst (λ g. IsLeftOf whole g (made_by after) p.shown) (sym same_given)
            (subst (λ n. IsLeftOf whole old.given n p.shown) (sym more)
            (left_steps whole old.given (made_by before) made p.shown (subst (λ r. IsLeftOf whole old.given (made_by before) r) p.is_run (on.tells named))));
      }

  -- where it stands behind them
  is_on : (rights : Rights) (from : Place) (made : ℕ) (course : RunCourse) → (gone : HasGone rights from made course) → Means after course → IsOn m sites root whole now rights (further made from) course gone.rest
  is_on rights from made course gone means =
      record { rooted = gone.rooted; left = gone.left; run = gone.run; keeps = gone.keeps; means = means; counted = gone.counted; tells = gone.tells }

  -- where it has stopped
  has_stopped_so : (rights : Rights) (from : Place) (made : ℕ) (course : RunCourse) (stop : Stop) (end : Outcome) (run_end : RunEnd) → (gone : HasGone rights from made course)
      → after.over ≡ Some stop → gone.run ≡ RunEnds run_end → gone.rest ≡ Ends end → EndsAs stop (made_by after) end → ShowsAs stop run_end
      → HasStopped m sites root whole now stop end (further made from)
  has_stopped_so rights from made course stop end run_end gone over is_run is_script ends shows = record {
    over = over;
    rooted = gone.rooted;
    left = gone.left ∙ ap Some is_script;
    ends = ends;
    counted = gone.counted;
    tells = λ named. record {
      made = made_by after;
      end = run_end;
      left = subst (λ r. IsLeftOf whole now.given (made_by after) r) is_run (gone.tells named);
      shows = shows;
      plain = λ _. refl;
    };
  }

  run_so : (slice : ℕ) (rights : Rights) (from : Place) (made : ℕ) (course : RunCourse) (stop : Stop) → (gone : HasGone rights from made course) → made ≤ slice
      → StoppedAt m sites root whole now rights (further made from) stop → HasRun m sites root whole slice old now rights from stop
  run_so slice rights from made course stop gone within stopped =
      record { at = further made from; made = made; ticked = gone.ticked; more = gone.more; within = within; reported = same_reported; stopped = stopped }

  is_meeting : (rights : Rights) (from : Place) (slice t t' : ℕ) (course : RunCourse) (script : Script) (what : Meeting) (instruction : Instruction) → IsOn m sites root whole old rights from course script
      → (came : CameTo what instruction course before after t t' slice) → IsMeeting m sites root whole now rights (further came.made from) what instruction
  is_meeting rights from slice t t' course script what instruction on came =
      let gone = has_gone rights from course (Meets what came.forked came.next) script came.made t t' on came.ran in
      record { forked = came.forked; next = came.next; rest = gone.rest; meets = came.at; on = is_on rights from came.made (Meets what came.forked came.next) gone came.means }

  -- what a machine that goes on comes to
  pub ran_to : (slice t t' : ℕ) (rights : Rights) (from : Place) (course : RunCourse) (script : Script) (stop : Stop) → IsOn m sites root whole old rights from course script
      → Ran stop course before after t t' slice → after.over ≡ last_stop stop → now.stop ≡ stop → RunsTo m sites root whole slice old now rights from stop
  ran_to slice t t' rights from course script Answer on ran over is = λ _.
      let made = ran.0 in
      let values' = ran.1 in
      let rest = ran.2 in
      let gone = has_gone rights from course (AnswerOf values' rest) script made t t' on ran.4 in
      let a = answer_keeps sites values rights (all_left after) (made_by after) gone.run values' rest gone.rest gone.keeps in
      let left : from.name ≡ [] → IsLeftOf whole now.given (made_by after) (RunAnswer values' a.0) = λ named. subst (λ r. IsLeftOf whole now.given (made_by after) r) a.1 (gone.tells named) in
      run_so slice rights from made (AnswerOf values' rest) Answer gone (less_within made slice ran.3) (record {
        values = values';
        course = rest;
        rest = gone.rest;
        answered = ran.6;
        is_next = λ named. (a.0, left named);
        on = record {
          rooted = gone.rooted;
          left = gone.left;
          run = a.0;
          keeps = a.2;
          means = ran.5;
          counted = gone.counted;
          tells = λ named. answered now.given (made_by after) values' a.0 (left named);
        };
      })
  ran_to slice t t' rights from course script Ended on ran over is = λ _.
      let gone = has_gone rights from course (CourseEnds RunDone) script ran.0 t t' on ran.2 in
      let d = done_keeps sites values rights (all_left after) (made_by after) gone.run gone.rest gone.keeps in
      run_so slice rights from ran.0 (CourseEnds RunDone) Ended gone (less_within ran.0 slice ran.1)
      (Fine (made_by after), has_stopped_so rights from ran.0 (CourseEnds RunDone) Ended (Fine (made_by after)) RunDone gone over d.0 d.1 refl refl)
  ran_to slice t t' rights from course script (Raised text) on ran over is = λ _.
      let gone = has_gone rights from course (CourseEnds (RunRaised text)) script ran.0 t t' on ran.2 in
      let d = raised_keeps sites values rights (all_left after) (made_by after) text gone.run gone.rest gone.keeps in
      run_so slice rights from ran.0 (CourseEnds (RunRaised text)) (Raised text) gone (less_within ran.0 slice ran.1)
      (Raise text (made_by after), has_stopped_so rights from ran.0 (CourseEnds (RunRaised text)) (Raised text) (Raise text (made_by after)) (RunRaised text) gone over d.0 d.1 refl refl)
  ran_to slice t t' rights from course script LimitPassed on ran over is = λ _.
      let gone = has_gone rights from course (CourseEnds PastLimit) script ran.0 t t' on ran.2 in
      let d = limited_keeps sites values rights (all_left after) (made_by after) gone.run gone.rest gone.keeps in
      run_so slice rights from ran.0 (CourseEnds PastLimit) LimitPassed gone (less_within ran.0 slice ran.1)
      (Limit, has_stopped_so rights from ran.0 (CourseEnds PastLimit) LimitPassed Limit PastLimit gone over d.0 d.1 refl refl)
  ran_to slice t t' rights from course script StarvedStop on ran over is = λ _. absurd ran
  ran_to slice t t' rights from course script (AtForkStop site) on ran over is = λ _.
      let gone = has_gone rights from course (Meets (AtFork site.number) ran.forked ran.next) script ran.made t t' on ran.ran in
      run_so slice rights from ran.made (Meets (AtFork site.number) ran.forked ran.next) (AtForkStop site) gone (less_within ran.made slice ran.within)
      (is, is_meeting rights from slice t t' course script (AtFork site.number) _ on ran)
  ran_to slice t t' rights from course script (AtWaitStop variable) on ran over is = λ _.
      let gone = has_gone rights from course (Meets (AtWait variable) ran.forked ran.next) script ran.made t t' on ran.ran in
      run_so slice rights from ran.made (Meets (AtWait variable) ran.forked ran.next) (AtWaitStop variable) gone (less_within ran.made slice ran.within)
      (is, is_meeting rights from slice t t' course script (AtWait variable) _ on ran)
  ran_to slice t t' rights from course script (AtSignalStop variable) on ran over is = λ _.
      let came = ran.1 in
      let gone = has_gone rights from course (Meets (AtSignal variable ran.0) came.forked came.next) script came.made t t' on came.ran in
      run_so slice rights from came.made (Meets (AtSignal variable ran.0) came.forked came.next) (AtSignalStop variable) gone (less_within came.made slice came.within)
      (ran.0, is_meeting rights from slice t t' course script (AtSignal variable ran.0) _ on came)
  ran_to slice t t' rights from course script SliceOver on ran over is = λ _.
      let gone = has_gone rights from course ran.0 script slice t t' on ran.1 in
      run_so slice rights from slice ran.0 SliceOver gone (omega arith) (goes_on ran.0 gone.rest (is_on rights from slice ran.0 gone ran.2))
  ran_to slice t t' rights from course script NoMemoryStop on ran over is = λ not. absurd (not refl)

  -- a machine that has stopped stops again
  pub stopped_again : (slice : ℕ) (rights : Rights) (from : Place) (stop : Stop) (end : Outcome) → HasStopped m sites root whole old stop end from → after ≡ before → RunsTo m sites root whole slice old now rights from stop
  stopped_again slice rights from stop end stopped same = λ _.
      let again : HasStopped m sites root whole now stop end from = record {
        over = ap (λ (x : Machine). x.over) same ∙ stopped.over;
        rooted = stopped.rooted;
        left = stopped.left;
        ends = subst (λ (x : Machine). EndsAs stop (made_by x) end) (sym same) stopped.ends;
        counted = subst IsCounted (sym same) stopped.counted;
        tells = λ named. let t = stopped.tells named in record {
          made = t.made;
          end = t.end;
          left = subst (λ g. IsLeftOf whole g t.made (RunEnds t.end)) (sym same_given) t.left;
          shows = t.shows;
          plain = λ is. t.plain is ∙ sym (ap made_by same);
        };
      } in
      record {
        at = from;
        made = zero;
        ticked = not_ticked from (Ends end) stopped.left;
        more = ap made_by same ∙ none_made (made_by before);
        within = omega arith;
        reported = same_reported;
        stopped = so stop again;
      }
    where
      so : (stop : Stop) → HasStopped m sites root whole now stop end from → StoppedAt m sites root whole now rights from stop
      so Ended is = (end, is)
      so (Raised text) is = (end, is)
      so LimitPassed is = (end, is)
      so Answer is = absurd is.ends
      so StarvedStop is = absurd is.ends
      so (AtForkStop site) is = absurd is.ends
      so (AtWaitStop variable) is = absurd is.ends
      so (AtSignalStop variable) is = absurd is.ends
      so SliceOver is = absurd is.ends
      so NoMemoryStop is = absurd is.ends

  -- From a run of the machine, whichever way it stood.
  pub runs_to : (slice t t' : ℕ) (rights : Rights) (from : Place) (stop : Stop) → Stands m sites root whole old rights from
      → ((course : RunCourse) → Means before course → Ran stop course before after t t' slice)
      → ((other : Stop) → before.over ≡ Some other → (stop ≡ other) × (after ≡ before) × (t' ≡ t))
      → (before.over ≡ None → after.over ≡ last_stop stop) → now.stop ≡ stop → RunsTo m sites root whole slice old now rights from stop
  runs_to slice t t' rights from stop (goes_on course rest on) ran again over is =
      ran_to slice t t' rights from course rest stop on (ran course on.means) (over on.means.over) is
  runs_to slice t t' rights from stop (has_stopped other end stopped) ran again over is =
      let same = again other stopped.over in
      subst (λ s. RunsTo m sites root whole slice old now rights from s) (sym same.0) (stopped_again slice rights from other end stopped same.1)

  minus_made : (a b made : ℕ) → a ≡ b + made → made ≡ a - b
  minus_made a b made e = omega (arith, e)

  gone_counts : (course next : RunCourse) (made t t' : ℕ) → IsCounted before → RanTo course next before after t t' made → t' ≡ counted t (made_by after - made_by before)
  gone_counts course next made t t' is ran =
      let less : all_left before ≤ after.limit = subst (λ l. all_left before ≤ l) (sym ran.limit) is.within in
      let more : made_by after ≡ made_by before + made =
      more_made after.limit (all_left after) (all_left before) made ran.spends less ∙ ap (λ l. (l - all_left before) + made) ran.limit in
      ran.counts ∙ ap (counted t) (minus_made (made_by after) (made_by before) made more)

  ran_counts : (slice t t' : ℕ) (course : RunCourse) (stop : Stop) → IsCounted before → stop ≢ NoMemoryStop → Ran stop course before after t t' slice → t' ≡ counted t (made_by after - made_by before)
  ran_counts slice t t' course Answer is not ran = gone_counts course (AnswerOf ran.1 ran.2) ran.0 t t' is ran.4
  ran_counts slice t t' course Ended is not ran = gone_counts course (CourseEnds RunDone) ran.0 t t' is ran.2
  ran_counts slice t t' course (Raised text) is not ran = gone_counts course (CourseEnds (RunRaised text)) ran.0 t t' is ran.2
  ran_counts slice t t' course LimitPassed is not ran = gone_counts course (CourseEnds PastLimit) ran.0 t t' is ran.2
  ran_counts slice t t' course StarvedStop is not ran = absurd ran
  ran_counts slice t t' course (AtForkStop site) is not ran = gone_counts course (Meets (AtFork site.number) ran.forked ran.next) ran.made t t' is ran.ran
  ran_counts slice t t' course (AtWaitStop variable) is not ran = gone_counts course (Meets (AtWait variable) ran.forked ran.next) ran.made t t' is ran.ran
  ran_counts slice t t' course (AtSignalStop variable) is not ran = let came = ran.1 in gone_counts course (Meets (AtSignal variable ran.0) came.forked came.next) came.made t t' is came.ran
  ran_counts slice t t' course SliceOver is not ran = gone_counts course ran.0 slice t t' is ran.1
  ran_counts slice t t' course NoMemoryStop is not ran = absurd (not refl)

  none_left : (n : ℕ) → zero ≡ n - n
  none_left n = omega arith

  pub runs_counted : (slice t t' : ℕ) (rights : Rights) (from : Place) (stop : Stop) → Stands m sites root whole old rights from
      → ((course : RunCourse) → Means before course → Ran stop course before after t t' slice)
      → ((other : Stop) → before.over ≡ Some other → (stop ≡ other) × (after ≡ before) × (t' ≡ t)) → CountsSlice before after t t' stop
  runs_counted slice t t' rights from stop (goes_on course rest on) ran again = λ not. ran_counts slice t t' course stop on.counted not (ran course on.means)
  runs_counted slice t t' rights from stop (has_stopped other end stopped) ran again = λ _.
      let same = again other stopped.over in
      same.2 ∙ ap (counted t) (none_left (made_by before) ∙ ap (λ x. made_by x - made_by before) (sym same.1))
