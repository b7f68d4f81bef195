-- What finds its cells keeps to its script, with the run that it shows, or with some run.
use Rattle.std.proofs.Common.{◌≡◌, ◌⊎◌, inl, inr, ℕ, suc, ◌+◌, ◌-◌, List, Option, Some, refl, sym, subst}
use Rattle.merc_value.specs.Value.{Value}
use Rattle.merc_meaning.specs.Trace.{Run, RunEnd, RunDone, RunRaised, LimitPassed, Ends as RunEnds, Tick as RunTick, Answer as RunAnswer}
use Rattle.merc_script.specs.declared.outcome.Outcome.{Outcome}
use Rattle.merc_script.specs.declared.outcome.Outcome.TheVariants.{Ok as Fine, Raise, Limit, Starved, NoMemory}
use Rattle.merc_script.specs.declared.cells.Move.{Move}
use Rattle.merc_script.specs.Script.{Script, Ends, ForkThen, Children, Cell, ends}
use Rattle.merc_script.specs.Joining.{joined}
use Rattle.merc_course.specs.Course.{RunCourse, Ends as CourseEnds, Meets, AtFork, Reply, Given, Passed, Joined, Courses}
use Rattle.merc_course.specs.Shown.{shown}
use Rattle.merc_rights.specs.declared.sites.SiteInfo.{SiteInfo}
use Rattle.merc_board.specs.Rights.{Rights}
use Rattle.merc_carried.specs.Sharing.{rights_of_child, rights_behind}
use Rattle.merc_carried.specs.Runs.{behind_steps}
use Rattle.merc_carried.specs.KeepsTo.{KeepsTo, AllKeepTo, ShowsEnd, with_waits, with_signals, done as k_done, raised as k_raised, limited as k_limited, ticks as k_ticks, answers as k_answers, waits as k_waits, starves as k_starves, hands as k_hands, goes_on as k_goes_on, ends_there as k_ends_there, keep_none, keep_more}
use Rattle.merc_shown_laws.specs.Shows.{Shows, done as s_done, raised as s_raised, limited as s_limited, ticks as s_ticks, answers as s_answers, waits as s_waits, starves as s_starves, hands as s_hands, goes_on as s_goes_on, ends_there as s_ends_there}
use Rattle.merc_branch_laws.specs.Dealing.{Deals, done, raised, limited, ticks, answers, waits, starves, hands, goes_on, ends_there, DealAll, deal_none, deal_more}

module _ (sites : List SiteInfo) (values : ℕ → Option Value) where
  -- some run that ends as this outcome has it
  some_end : (o : Outcome) → (run : Run) × ShowsEnd o run
  some_end (Fine n) = (RunEnds RunDone, tt)
  some_end (Raise text n) = (behind_steps n (RunEnds (RunRaised text)), refl)
  some_end Limit = (RunEnds LimitPassed, (0, refl))
  some_end Starved = (RunEnds RunDone, tt)
  some_end NoMemory = (RunEnds RunDone, tt)

  same_value : (a b : Value) (o : Option Value) → o ≡ Some a → o ≡ Some b → a ≡ b
  same_value a b o p q = cc

  same_steps : (a b : ℕ) (o : Outcome) → o ≡ Fine a → o ≡ Fine b → a ≡ b
  same_steps a b o p q = cc

  mutual
    pub some_run : (rights : Rights) (left made : ℕ) (course : RunCourse) (script : Script) → Deals sites values rights left made course script
        → (run : Run) × KeepsTo sites values rights left made run course script
    some_run _ _ _ _ _ (done rights left made) = (RunEnds RunDone, k_done rights left made)
    some_run _ _ _ _ _ (raised rights left made text) = (RunEnds (RunRaised text), k_raised rights left made text)
    some_run _ _ _ _ _ (limited rights left made) = (RunEnds LimitPassed, k_limited rights left made)
    some_run _ _ _ _ _ (ticks rights left made course rest d) =
        let r = some_run rights left (suc made) course rest d in (RunTick r.0, k_ticks rights left made r.0 course rest r.1)
    some_run _ _ _ _ _ (answers rights left made env course rest d) =
        let r = some_run rights left made course rest d in (RunAnswer env r.0, k_answers rights left made env r.0 course rest r.1)
    some_run _ _ _ _ _ (waits rights left made x c others v ks next rest w h d) =
        let r = some_run (with_waits others rights) left made (next (Given v)) rest d in (r.0, k_waits rights left made r.0 x c others v ks next rest w h r.1)
    some_run _ _ _ _ _ (starves rights left made x c others ks next w h) = (RunEnds RunDone, k_starves rights left made (RunEnds RunDone) x c others ks next w h)
    some_run _ _ _ _ _ (hands rights left made x owed others v ks next rest w h d) =
        let r = some_run (with_signals others rights) left made (next Passed) rest d in (r.0, k_hands rights left made r.0 x owed others v ks next rest w h r.1)
    some_run _ _ _ _ _ (goes_on rights left made n site info cells moves ks next children rest is fork m ds j d) =
        let r = some_run (rights_behind info cells rights) (left - n) (made + n) (next (Joined n)) rest d in
        (behind_steps n r.0, k_goes_on rights left made n (behind_steps n r.0) r.0 site info cells moves ks next children rest is fork (some_runs info cells rights left 1 ks children ds) j refl r.1)
    some_run _ _ _ _ _ (ends_there rights left made site info cells moves ks next children end is fork m ds u e) =
        let r = some_end (joined left (ends children)) in
        (r.0, k_ends_there rights left made r.0 site info cells moves ks next children end is fork (some_runs info cells rights left 1 ks children ds) u e r.1)

    some_runs : (info : SiteInfo) (cells : List Cell) (rights : Rights) (left number : ℕ) (courses : Courses RunEnd) (children : Children) → DealAll sites values info cells rights left number courses children
        → AllKeepTo sites values info cells rights left number courses children
    some_runs _ _ _ _ _ _ _ (deal_none info cells rights left number) = keep_none info cells rights left number
    some_runs _ _ _ _ _ _ _ (deal_more info cells rights left number course courses first others d ds) =
        let r = some_run (rights_of_child info cells rights number) left 0 course first d in
        keep_more info cells rights left number r.0 course courses first others r.1 (some_runs info cells rights left (suc number) courses others ds)

  raised_run : (left text : ℕ) (run : Run) (script : Script) → Shows values left run (CourseEnds (RunRaised text)) script → run ≡ RunEnds (RunRaised text)
  raised_run left text run script (s_raised _ _ _) = refl

  record GoesOn (left : ℕ) (run : Run) (next : Reply → RunCourse) (children : Children) (rest : Script) : Type 0 where
    pub steps : ℕ
    pub behind : Run
    pub joins : joined left (ends children) ≡ Fine steps
    pub run_is : run ≡ behind_steps steps behind
    pub shows : Shows values (left - steps) behind (next (Joined steps)) rest

  fork_shown : (left limit : ℕ) (run : Run) (site : ℕ) (cells : List Cell) (moves : List Move) (forked : Courses RunEnd) (next : Reply → RunCourse) (children : Children) (rest : Script)
      → Shows values left run (Meets (AtFork site) forked next) (ForkThen limit cells moves children rest)
      → GoesOn left run next children rest ⊎ (((steps : ℕ) → joined left (ends children) ≡ Fine steps → ⊥) × ShowsEnd (joined left (ends children)) run)
  fork_shown left limit run site cells moves forked next children rest (s_goes_on _ n _ behind _ _ _ _ _ _ _ j e s) = inl (record { steps = n; behind = behind; joins = j; run_is = e; shows = s })
  fork_shown left limit run site cells moves forked next children rest (s_ends_there _ _ _ _ _ _ _ _ _ u e) = inr (u, e)

  pub keeps : (rights : Rights) (left made : ℕ) (run : Run) (course : RunCourse) (script : Script) → Deals sites values rights left made course script → Shows values left run course script
      → KeepsTo sites values rights left made run course script
  keeps _ _ _ _ _ _ (done rights left made) (s_done _ _) = k_done rights left made
  keeps _ _ _ run _ _ (raised rights left made text) s =
      subst (λ (r : Run). KeepsTo sites values rights left made r (CourseEnds (RunRaised text)) (Ends (Raise text made))) (sym (raised_run left text run (Ends (Raise text made)) s)) (k_raised rights left made text)
  keeps _ _ _ _ _ _ (limited rights left made) (s_limited _) = k_limited rights left made
  keeps _ _ _ _ _ _ (ticks rights left made course rest d) (s_ticks _ run _ _ s) = k_ticks rights left made run course rest (keeps rights left (suc made) run course rest d s)
  keeps _ _ _ _ _ _ (answers rights left made env course rest d) (s_answers _ _ run _ _ s) = k_answers rights left made env run course rest (keeps rights left made run course rest d s)
  keeps _ _ _ _ _ _ (waits rights left made x c others v ks next rest w h d) (s_waits _ run _ _ v1 _ _ _ k s) =
      k_waits rights left made run x c others v ks next rest w h
      (keeps (with_waits others rights) left made run (next (Given v)) rest d (subst (λ z. Shows values left run (next (Given z)) rest) (same_value v1 v (values c) k h) s))
  keeps _ _ _ _ _ _ (waits rights left made x c others v ks next _ w h d) (s_starves _ run _ _ _ _ k) = absurd cc
  keeps _ _ _ _ _ _ (starves rights left made x c others ks next w h) (s_waits _ run _ _ v1 _ _ _ k s) = absurd cc
  keeps _ _ _ _ _ _ (starves rights left made x c others ks next w h) (s_starves _ run _ _ _ _ k) = k_starves rights left made run x c others ks next w h
  keeps _ _ _ _ _ _ (hands rights left made x owed others v ks next rest w h d) (s_hands _ run _ _ _ _ _ _ k s) =
      k_hands rights left made run x owed others v ks next rest w h (keeps (with_signals others rights) left made run (next Passed) rest d s)
  keeps _ _ _ run _ _ (goes_on rights left made n site info cells moves ks next children rest is fork m ds j d) s =
      elim (fork_shown left left run site cells moves ks next children rest s) as (λ _. KeepsTo sites values rights left made run (Meets (AtFork site) ks next) (ForkThen left cells moves children rest)) [
        | inl f ↦ (let same : f.steps ≡ n = same_steps f.steps n (joined left (ends children)) f.joins j in
            k_goes_on rights left made n run f.behind site info cells moves ks next children rest is fork (some_runs info cells rights left 1 ks children ds) j
            (subst (λ (z : ℕ). run ≡ behind_steps z f.behind) same f.run_is)
            (keeps (rights_behind info cells rights) (left - n) (made + n) f.behind (next (Joined n)) rest d (subst (λ (z : ℕ). Shows values (left - z) f.behind (next (Joined z)) rest) same f.shows)))
        | inr f ↦ absurd (f.0 n j)
      ]
  keeps _ _ _ run _ _ (ends_there rights left made site info cells moves ks next children end is fork m ds u e) s =
      elim (fork_shown left left run site cells moves ks next children (Ends end) s) as (λ _. KeepsTo sites values rights left made run (Meets (AtFork site) ks next) (ForkThen left cells moves children (Ends end))) [
        | inl f ↦ absurd (u f.steps f.joins)
        | inr f ↦ k_ends_there rights left made run site info cells moves ks next children end is fork (some_runs info cells rights left 1 ks children ds) u e f.1
      ]

  -- what answers show of variables does not bear on rights
  pub deals_shown : (variables : List ℕ) (rights : Rights) (left made : ℕ) (course : RunCourse) (script : Script) → Deals sites values rights left made course script
      → Deals sites values rights left made (shown variables course) script
  deals_shown variables _ _ _ _ _ (done rights left made) = done rights left made
  deals_shown variables _ _ _ _ _ (raised rights left made text) = raised rights left made text
  deals_shown variables _ _ _ _ _ (limited rights left made) = limited rights left made
  deals_shown variables _ _ _ _ _ (ticks rights left made course rest d) = ticks rights left made _ rest (deals_shown variables rights left (suc made) course rest d)
  deals_shown variables _ _ _ _ _ (answers rights left made env course rest d) = answers rights left made _ _ rest (deals_shown variables rights left made course rest d)
  deals_shown variables _ _ _ _ _ (waits rights left made x c others v ks next rest w h d) =
      waits rights left made x c others v ks _ rest w h (deals_shown variables (with_waits others rights) left made (next (Given v)) rest d)
  deals_shown variables _ _ _ _ _ (starves rights left made x c others ks next w h) = starves rights left made x c others ks _ w h
  deals_shown variables _ _ _ _ _ (hands rights left made x owed others v ks next rest w h d) =
      hands rights left made x owed others v ks _ rest w h (deals_shown variables (with_signals others rights) left made (next Passed) rest d)
  deals_shown variables _ _ _ _ _ (goes_on rights left made n site info cells moves ks next children rest is fork m ds j d) =
      goes_on rights left made n site info cells moves ks _ children rest is fork m ds j (deals_shown variables (rights_behind info cells rights) (left - n) (made + n) (next (Joined n)) rest d)
  deals_shown variables _ _ _ _ _ (ends_there rights left made site info cells moves ks next children end is fork m ds u e) =
      ends_there rights left made site info cells moves ks _ children end is fork m ds u e
