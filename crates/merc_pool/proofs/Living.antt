-- Branches in hand, from step to step.
use Rattle.std.proofs.Common.{◌≡◌, ◌≢◌, ◌⊎◌, inl, inr, ℕ, zero, suc, ◌+◌, ◌-◌, ◌≤◌, Bool, true, false, List, [], ◌∷◌, Option, Some, None, refl, ap, sym, ◌∙◌, subst, arith}
use Rattle.merc_meaning.specs.Trace.{Run}
use Rattle.merc_script.specs.Script.{Script, Ends}
use Rattle.merc_script.specs.Places.{Place, left_of}
use Rattle.merc_rights.specs.declared.sites.SiteInfo.{SiteInfo}
use Rattle.merc_machine.specs.declared.machine.Machine.{Machine}
use Rattle.merc_machine.specs.declared.running.Stop.{Stop}
use Rattle.merc_machine.specs.declared.running.Stop.TheVariants.{Answer, Ended, Raised, LimitPassed, Starved as StarvedStop, AtFork as AtForkStop, AtWait as AtWaitStop, AtSignal as AtSignalStop, SliceOver, NoMemory as NoMemoryStop}
use Rattle.merc_script.specs.declared.outcome.Outcome.TheVariants.{NoMemory, Starved}
use Rattle.merc_board.specs.declared.board.Board as Board
use Rattle.merc_board.specs.declared.branch.Branch.{Branch}
use Rattle.merc_board.specs.Rights.{Rights}
use Rattle.merc_board.specs.Going.{Ticked}
use Rattle.merc_board.specs.Boarding.{MayReport, lost_at, starves}
use Rattle.merc_carried.proofs.Places.{not_ticked, ticked_more}
use Rattle.merc_pool.specs.declared.engine.Engine as Engine
use Rattle.merc_pool.specs.declared.load.Asked as Asked
use Rattle.merc_pool.specs.declared.load.Carried.{Carried}
use Rattle.merc_pool.specs.declared.load.Progress.{Progress}
use Rattle.merc_pool.specs.declared.shared.Worker.{Worker}
use Rattle.merc_pool.specs.Carrying.{made_by, IsCounted, IsOn, IsReported, IsToldEnd, HasStopped, Stands, StandsAt, goes_on, has_stopped, unreported}
use Rattle.merc_pool.specs.Running.{HasRun, IsAnswering, IsMeeting, RunsTo, StoppedAt}
use Rattle.merc_pool.specs.Hands.{CanEnd, HasComeTo, HasPassed, IsAllowed, IsLive, MayRun}

none_more : (n : ℕ) → n ≡ n + zero
none_more n = omega arith

nothing_more : (made reported : ℕ) → made ≡ reported → made - reported ≡ zero
nothing_more made reported e = omega (arith, e)

within_slice : (made reported steps : ℕ) → made ≡ reported + steps → steps ≤ 255 → made - reported ≤ 255
within_slice made reported steps e less = omega (arith, e, less)

module _ {M : Type 0} (m : Engine.Ghosts M) (sites : List SiteInfo) (root : Script) (whole : Run) (progress : Progress M) where
  -- where a machine stands there is a place
  pub stands_left : (rights : Rights) (at : Place) → Stands m sites root whole progress rights at → (rest : Script) × (left_of at ≡ Some rest)
  stands_left rights at (goes_on course rest on) = (rest, on.left)
  stands_left rights at (has_stopped stop end stopped) = (Ends end, stopped.left)

  pub stands_counted : (rights : Rights) (at : Place) → Stands m sites root whole progress rights at → IsCounted (m.seen progress.machine)
  stands_counted rights at (goes_on course rest on) = on.counted
  stands_counted rights at (has_stopped stop end stopped) = stopped.counted

  pub stopped_counted : (rights : Rights) (at : Place) (stop : Stop) → stop ≢ NoMemoryStop → StoppedAt m sites root whole progress rights at stop → IsCounted (m.seen progress.machine)
  stopped_counted rights at Answer not s = s.on.counted
  stopped_counted rights at Ended not s = s.1.counted
  stopped_counted rights at (Raised text) not s = s.1.counted
  stopped_counted rights at LimitPassed not s = s.1.counted
  stopped_counted rights at StarvedStop not s = absurd s
  stopped_counted rights at (AtForkStop site) not s = s.1.on.counted
  stopped_counted rights at (AtWaitStop variable) not s = s.1.on.counted
  stopped_counted rights at (AtSignalStop variable) not s = s.1.on.counted
  stopped_counted rights at SliceOver not s = stands_counted rights at s
  stopped_counted rights at NoMemoryStop not s = absurd (not refl)

  -- What was told to the board counts nothing there.
  module _ (told : ℕ) where
    abbrev pub reported_so : Progress M
    reported_so = record progress { reported = told }

    told_on : (rights : Rights) (at : Place) (course : _) (rest : Script) → IsOn m sites root whole progress rights at course rest → IsOn m sites root whole reported_so rights at course rest
    told_on rights at course rest on =
        record { rooted = on.rooted; left = on.left; run = on.run; keeps = on.keeps; means = on.means; counted = on.counted; tells = on.tells }

    told_end : (stop : Stop) → IsToldEnd m sites root whole progress stop → IsToldEnd m sites root whole reported_so stop
    told_end stop e = record { made = e.made; end = e.end; left = e.left; shows = e.shows; plain = e.plain }

    told_stopped : (stop : Stop) (end : _) (at : Place) → HasStopped m sites root whole progress stop end at → HasStopped m sites root whole reported_so stop end at
    told_stopped stop end at s =
        record { over = s.over; rooted = s.rooted; left = s.left; ends = s.ends; counted = s.counted; tells = λ named. told_end stop (s.tells named) }

    pub told_stands : (rights : Rights) (at : Place) → Stands m sites root whole progress rights at → Stands m sites root whole reported_so rights at
    told_stands rights at (goes_on course rest on) = goes_on course rest (told_on rights at course rest on)
    told_stands rights at (has_stopped stop end stopped) = has_stopped stop end (told_stopped stop end at stopped)

    told_meeting : (rights : Rights) (at : Place) (what : _) (instruction : _) → IsMeeting m sites root whole progress rights at what instruction → IsMeeting m sites root whole reported_so rights at what instruction
    told_meeting rights at what instruction s = record { forked = s.forked; next = s.next; rest = s.rest; meets = s.meets; on = told_on rights at _ s.rest s.on }

    pub told_stop : (rights : Rights) (at : Place) (stop : Stop) → StoppedAt m sites root whole progress rights at stop → StoppedAt m sites root whole reported_so rights at stop
    told_stop rights at Answer s = record {
      values = s.values;
      course = s.course;
      rest = s.rest;
      answered = s.answered;
      is_next = s.is_next;
      on = let on = s.on in record { rooted = on.rooted; left = on.left; run = on.run; keeps = on.keeps; means = on.means; counted = on.counted; tells = on.tells };
    }
    told_stop rights at Ended s = (s.0, told_stopped Ended s.0 at s.1)
    told_stop rights at (Raised text) s = (s.0, told_stopped (Raised text) s.0 at s.1)
    told_stop rights at LimitPassed s = (s.0, told_stopped LimitPassed s.0 at s.1)
    told_stop rights at StarvedStop s = s
    told_stop rights at (AtForkStop site) s = (s.0, told_meeting rights at _ _ s.1)
    told_stop rights at (AtWaitStop variable) s = (s.0, told_meeting rights at _ _ s.1)
    told_stop rights at (AtSignalStop variable) s = (s.0, told_meeting rights at _ _ s.1)
    told_stop rights at SliceOver s = told_stands rights at s
    told_stop rights at NoMemoryStop s = s

module _ {M N B H S W G C : Type 0} (m : Engine.Ghosts M) (n : Asked.Ghosts N) (b : Board.Ghosts B (Carried M N) H S W G C) (board : B) where
  abbrev branch_of : Carried M N → H → Branch (Carried M N) H
  branch_of load hold = record { load = load; hold = hold }

  -- nothing was passed of which the board was not told
  pub live_passed : (seat : S) (load : Carried M N) (hold : H) → (live : IsLive m n b board seat (branch_of load hold)) → HasPassed m n b board seat (branch_of load hold) live.0
  live_passed seat load hold live = record {
    from = live.0;
    passed = zero;
    owned = live.1;
    ticked = let l = stands_left m n.sites n.root n.run load.progress (b.rights hold) live.0 live.2.1 in not_ticked live.0 l.0 l.1;
    reported = live.2.0 ∙ none_more load.progress.reported;
  }

  pub live_counted : (seat : S) (load : Carried M N) (hold : H) → IsLive m n b board seat (branch_of load hold) → IsCounted (m.seen load.progress.machine)
  live_counted seat load hold live = stands_counted m n.sites n.root n.run load.progress (b.rights hold) live.0 live.2.1

  pub live_may : (seat : S) (load : Carried M N) (hold : H) → IsLive m n b board seat (branch_of load hold)
      → MayReport (b.may_run seat) (b.of_root hold) (unreported (m.seen load.progress.machine) load.progress.reported) (unreported (m.seen load.progress.machine) load.progress.reported)
  live_may seat load hold live = record { within = omega arith; allowed = inr (inl (nothing_more _ _ live.2.0)) }

  -- the board was told
  pub live_told : (seat seat' : S) (load load' : Carried M N) (hold hold' : H) → (live : IsLive m n b board seat (branch_of load hold)) → b.own board seat' hold' live.0 → b.rights hold' ≡ b.rights hold
      → load'.progress ≡ reported_so m n.sites n.root n.run load.progress (made_by (m.seen load.progress.machine)) → IsLive m n b board seat' (branch_of load' hold')
  live_told seat seat' load load' hold hold' live owned same is = (
    live.0,
    owned,
    subst (λ (p : Progress M). StandsAt m n.sites n.root n.run p (b.rights hold') live.0) (sym is) (
      refl,
      subst (λ r. Stands m n.sites n.root n.run (reported_so m n.sites n.root n.run load.progress (made_by (m.seen load.progress.machine))) r live.0) (sym same)
          (told_stands m n.sites n.root n.run load.progress (made_by (m.seen load.progress.machine)) (b.rights hold) live.0 live.2.1),
    ),
  )

  -- A slice was run, of which the board is not told yet.

  still_reported : (now old before reported made : ℕ) → now ≡ old + made → old ≡ before → reported ≡ before → now ≡ reported + made
  still_reported now old before reported made e f h = omega (arith, e, f, h)

  pub ran_passed : (seat : S) (slice : ℕ) (old now : Carried M N) (hold : H) (stop : Stop) → (live : IsLive m n b board seat (branch_of old hold))
      → (ran : HasRun m n.sites n.root n.run slice old.progress now.progress (b.rights hold) live.0 stop) → HasPassed m n b board seat (branch_of now hold) ran.at
  ran_passed seat slice old now hold stop live ran = record {
    from = live.0;
    passed = ran.made;
    owned = live.1;
    ticked = ran.ticked;
    reported = still_reported _ _ _ _ ran.made ran.more live.2.0 ran.reported;
  }

  pub ran_may : (seat : S) (may_run : Bool) (old now : Carried M N) (hold : H) (stop : Stop) → (may_run ≡ true → b.may_run seat) → (live : IsLive m n b board seat (branch_of old hold))
      → HasRun m n.sites n.root n.run 255 old.progress now.progress (b.rights hold) live.0 stop → (b.of_root hold ≡ true) ⊎ (may_run ≡ true)
      → MayReport (b.may_run seat) (b.of_root hold) (unreported (m.seen now.progress.machine) now.progress.reported) (unreported (m.seen now.progress.machine) now.progress.reported)
  ran_may seat may_run old now hold stop allowed live ran may = record {
    within = omega arith;
    allowed = elim may as (λ _. (b.of_root hold ≡ true) ⊎ ((unreported (m.seen now.progress.machine) now.progress.reported ≡ 0)
        ⊎ ((unreported (m.seen now.progress.machine) now.progress.reported ≤ 255) × b.may_run seat))) [
          | inl is ↦ inl is
          | inr is ↦ inr (inr (within_slice _ _ ran.made (still_reported _ _ _ _ ran.made ran.more live.2.0 ran.reported) ran.within, allowed is))
        ];
  }

  -- .. and the board was told of it
  pub ran_told : (seat seat' : S) (slice : ℕ) (old now load' : Carried M N) (hold hold' : H) (stop : Stop) → (live : IsLive m n b board seat (branch_of old hold))
      → (ran : HasRun m n.sites n.root n.run slice old.progress now.progress (b.rights hold) live.0 stop) → b.own board seat' hold' ran.at → b.rights hold' ≡ b.rights hold
      → load'.progress ≡ reported_so m n.sites n.root n.run now.progress (made_by (m.seen now.progress.machine)) → HasComeTo m n b board seat' (branch_of load' hold') stop
  ran_told seat seat' slice old now load' hold hold' stop live ran owned same is = (
    ran.at,
    owned,
    ap (λ (p : Progress M). made_by (m.seen p.machine)) is ∙ sym (ap (λ (p : Progress M). p.reported) is),
    subst (λ (p : Progress M). StoppedAt m n.sites n.root n.run p (b.rights hold') ran.at stop) (sym is)
        (subst (λ r. StoppedAt m n.sites n.root n.run (reported_so m n.sites n.root n.run now.progress (made_by (m.seen now.progress.machine))) r ran.at stop) (sym same)
        (told_stop m n.sites n.root n.run now.progress (made_by (m.seen now.progress.machine)) (b.rights hold) ran.at stop ran.stopped)),
  )
