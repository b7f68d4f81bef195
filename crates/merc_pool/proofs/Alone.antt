-- The root on the calling thread, slice by slice.
use Rattle.std.proofs.Common.{◌≡◌, ◌≢◌, ℕ, zero, suc, ◌+◌, ◌-◌, ◌≤◌, ◌==◌, Bool, true, false, if◌then◌else◌, List, [], Option, Some, None, refl, ap, sym, ◌∙◌, subst, arith}
use Rattle.std.proofs.lemmas.Bool.{eqb-true}
use Rattle.merc_value.specs.Value.{Value}
use Rattle.merc_meaning.specs.Counting.{counted}
use Rattle.merc_meaning.specs.Trace.{Run, RunEnd}
use Rattle.merc_core.specs.WellFormed.{most_steps}
use Rattle.merc_script.specs.Script.{Script, Ends, TickThen, WaitThen, SignalThen, ForkThen}
use Rattle.merc_script.specs.Places.{Name, Place, left_behind, left_in, left_of, script_named}
use Rattle.merc_course.specs.Course.{Meeting, RunCourse, Meets, Reply, Courses}
use Rattle.merc_rights.specs.declared.sites.SiteInfo.{SiteInfo}
use Rattle.merc_machine.specs.declared.machine.Machine.{Machine}
use Rattle.merc_machine.specs.declared.running.Stop.{Stop}
use Rattle.merc_machine.specs.declared.running.Stop.TheVariants.{SliceOver, AtFork as AtForkStop, AtWait as AtWaitStop, AtSignal as AtSignalStop, NoMemory as NoMemoryStop}
use Rattle.merc_board.specs.declared.board.Board as Board
use Rattle.merc_board.specs.declared.branch.Branch.{Branch}
use Rattle.merc_board.specs.Rights.{Rights}
use Rattle.merc_carried.specs.KeepsTo.{KeepsTo, goes_on as keeps_on, ends_there, waits, starves, hands}
use Rattle.merc_carried.proofs.Places.{ticked_more}
use Rattle.merc_pool.specs.declared.engine.Engine as Engine
use Rattle.merc_pool.specs.declared.load.Asked as Asked
use Rattle.merc_pool.specs.declared.load.Carried.{Carried}
use Rattle.merc_pool.specs.declared.load.Progress.{Progress}
use Rattle.merc_pool.specs.declared.hand.Hand.{Hand}
use Rattle.merc_pool.specs.declared.hand.Hand.TheVariants.{Empty, Runs, Given, Ends as EndsHand, Came}
use Rattle.merc_carried.specs.Plain.{IsPlain}
use Rattle.merc_pool.specs.Carrying.{made_by, Stands, StandsAt, goes_on}
use Rattle.merc_pool.specs.Running.{CountsSlice, HasRun, IsMeeting, StoppedAt}
use Rattle.merc_pool.specs.Hands.{HandIs, HasPassed, IsLive, IsRooted, RootCameTo}
use Rattle.merc_pool.specs.Sessions.{AloneHand, IsCame, IsTallied, RootHand}
use Rattle.merc_pool.proofs.Living.{reported_so, stopped_counted, told_stands}

abbrev IfPlain : Option Script → Type 0
IfPlain None = Unit {0}
IfPlain (Some script) = IsPlain script

-- what is left of a plain script is plain
plain_behind : (passed : ℕ) (script rest : Script) → IsPlain script → left_behind passed script ≡ Some rest → IsPlain rest
plain_behind zero script rest plain is = subst (λ (o : Option Script). IfPlain o) is plain
plain_behind (suc passed) (Ends end) rest plain is = absurd cc
plain_behind (suc passed) (TickThen script) rest plain is = plain_behind passed script rest plain is
plain_behind (suc passed) (WaitThen cell script) rest plain is = absurd plain
plain_behind (suc passed) (SignalThen cell script) rest plain is = absurd plain
plain_behind (suc passed) (ForkThen limit cells moves children script) rest plain is = absurd plain

plain_left : (at : Place) (rest : Script) → IsPlain at.root → at.name ≡ [] → left_of at ≡ Some rest → IsPlain rest
plain_left at rest plain named is =
    plain_behind at.passed at.root rest plain (subst (λ (name : Name). left_in at.passed (script_named name (Some at.root)) ≡ Some rest) named is)

ends_not : (sites : List SiteInfo) (values : ℕ → Option Value) (rights : Rights) (left made : ℕ) (run : Run) (what : Meeting) (forked : Courses RunEnd) (next : Reply → RunCourse) (end : _)
    → KeepsTo sites values rights left made run (Meets what forked next) (Ends end) → ⊥
ends_not sites values rights left made run what forked next end keeps = elim keeps [ ]

ticks_not : (sites : List SiteInfo) (values : ℕ → Option Value) (rights : Rights) (left made : ℕ) (run : Run) (what : Meeting) (forked : Courses RunEnd) (next : Reply → RunCourse) (rest : Script)
    → KeepsTo sites values rights left made run (Meets what forked next) (TickThen rest) → ⊥
ticks_not sites values rights left made run what forked next rest keeps = elim keeps [ ]

-- who meets others does not keep to a plain script
not_plain : (sites : List SiteInfo) (values : ℕ → Option Value) (rights : Rights) (left made : ℕ) (run : Run) (what : Meeting) (forked : Courses RunEnd) (next : Reply → RunCourse) (rest : Script)
    → KeepsTo sites values rights left made run (Meets what forked next) rest → IsPlain rest → ⊥
not_plain sites values rights left made run what forked next (Ends end) keeps plain = absurd (ends_not sites values rights left made run what forked next end keeps)
not_plain sites values rights left made run what forked next (TickThen rest) keeps plain = absurd (ticks_not sites values rights left made run what forked next rest keeps)
not_plain sites values rights left made run what forked next (WaitThen cell rest) keeps plain = plain
not_plain sites values rights left made run what forked next (SignalThen cell rest) keeps plain = plain
not_plain sites values rights left made run what forked next (ForkThen limit cells moves children rest) keeps plain = plain

-- a counter that is far from its bound counts all
count_next : (before made : ℕ) (most : Bool) → (before == 18446744073709551615) ≡ most → before + suc made ≤ most_steps → ((k : ℕ) → k + made ≤ most_steps → counted k made ≡ k + made)
    → counted (if most then before else suc before) made ≡ before + suc made
count_next before made true e less rest = let is = eqb-true before 18446744073709551615 e in absurd (omega (arith, is, less))
count_next before made false e less rest = let there = rest (suc before) (omega (arith, less)) in omega (arith, there)

count_small : (made before : ℕ) → before + made ≤ most_steps → counted before made ≡ before + made
count_small zero before less = omega arith
count_small (suc made) before less = count_next before made (before == 18446744073709551615) refl less (λ k small. count_small made k small)

count_slice : (ticks after old now made limit : ℕ) → ticks ≡ old → after ≡ counted ticks (now - old) → now ≡ old + made → now ≤ limit → limit ≤ most_steps → after ≡ now
count_slice ticks after old now made limit same is more within few =
    let all = count_small (now - old) ticks (omega (arith, same, more, within, few)) in
    omega (arith, all, is, same, more)

less_left : (limit left : ℕ) → limit - left ≤ limit
less_left limit left = omega arith

still_told : (now old before reported passed made : ℕ) → now ≡ old + made → old ≡ before + passed → reported ≡ before → now ≡ reported + (passed + made)
still_told now old before reported passed made e f h = omega (arith, e, f, h)

module _ {M N B H S W G C : Type 0} (m : Engine.Ghosts M) (n : Asked.Ghosts N) (b : Board.Ghosts B (Carried M N) H S W G C) (board : B) (seat : S) where
  abbrev branch_of : Carried M N → H → Branch (Carried M N) H
  branch_of load hold = record { load = load; hold = hold }

  module _ (slice : ℕ) (old now : Carried M N) (hold : H) (stop : Stop) (rooted : IsRooted m n b board seat (branch_of old hold))
      (ran : HasRun m n.sites n.root n.run slice old.progress now.progress (b.rights hold) rooted.at stop) where
    pub slice_named : ran.at.name ≡ []
    slice_named = ran.ticked.same_name ∙ rooted.named

    slice_passed : HasPassed m n b board seat (branch_of now hold) ran.at
    slice_passed =
        let passed = rooted.passed in
        record {
          from = passed.from;
          passed = passed.passed + ran.made;
          owned = passed.owned;
          ticked = ticked_more passed.from rooted.at ran.at passed.passed ran.made passed.ticked ran.ticked;
          reported = still_told _ _ _ _ passed.passed ran.made ran.more passed.reported ran.reported;
        }

    slice_rooted : Stands m n.sites n.root n.run now.progress (b.rights hold) ran.at → IsRooted m n b board seat (branch_of now hold)
    slice_rooted stands = record { at = ran.at; named = slice_named; passed = slice_passed; stands = stands }

    stops_so : (other : Stop) → stop ≡ other → StoppedAt m n.sites n.root n.run now.progress (b.rights hold) ran.at other
    stops_so other is = subst (λ (s : Stop). StoppedAt m n.sites n.root n.run now.progress (b.rights hold) ran.at s) is ran.stopped

    pub slice_over : stop ≡ SliceOver → IsRooted m n b board seat (branch_of now hold)
    slice_over is = slice_rooted (stops_so SliceOver is)

    pub slice_forks : (site : _) → stop ≡ AtForkStop site → IsRooted m n b board seat (branch_of now hold)
    slice_forks site is = let s = stops_so (AtForkStop site) is in slice_rooted (goes_on _ s.1.rest s.1.on)

    pub slice_waits : (variable : _) → stop ≡ AtWaitStop variable → IsRooted m n b board seat (branch_of now hold)
    slice_waits variable is = let s = stops_so (AtWaitStop variable) is in slice_rooted (goes_on _ s.1.rest s.1.on)

    pub slice_signals : (variable : _) → stop ≡ AtSignalStop variable → IsRooted m n b board seat (branch_of now hold)
    slice_signals variable is = let s = stops_so (AtSignalStop variable) is in slice_rooted (goes_on _ s.1.rest s.1.on)

    never_meets : (what : Meeting) (instruction : _) → IsPlain n.root → IsMeeting m n.sites n.root n.run now.progress (b.rights hold) ran.at what instruction → ⊥
    never_meets what instruction plain s =
        let on = s.on in
        not_plain _ _ _ _ _ _ _ _ _ _ on.keeps (plain_left ran.at s.rest (subst (λ (r : Script). IsPlain r) (sym on.rooted) plain) slice_named on.left)

    pub plain_forks : (site : _) → stop ≡ AtForkStop site → IsPlain n.root → ⊥
    plain_forks site is plain = never_meets _ _ plain (stops_so (AtForkStop site) is).1

    pub plain_waits : (variable : _) → stop ≡ AtWaitStop variable → IsPlain n.root → ⊥
    plain_waits variable is plain = never_meets _ _ plain (stops_so (AtWaitStop variable) is).1

    pub plain_signals : (variable : _) → stop ≡ AtSignalStop variable → IsPlain n.root → ⊥
    plain_signals variable is plain = never_meets _ _ plain (stops_so (AtSignalStop variable) is).1

    pub slice_came : RootCameTo m n b board seat (branch_of now hold) stop
    slice_came = (ran.at, slice_named, (λ _. slice_passed), ran.stopped)

    pub slice_tallied : stop ≢ NoMemoryStop → old.ticks ≡ made_by (m.seen old.progress.machine) → CountsSlice (m.seen old.progress.machine) (m.seen now.progress.machine) old.ticks now.ticks stop
        → now.ticks ≡ made_by (m.seen now.progress.machine)
    slice_tallied not tallied counts =
        let is = stopped_counted m n.sites n.root n.run now.progress (b.rights hold) ran.at stop not ran.stopped in
        count_slice old.ticks now.ticks _ _ ran.made (m.seen now.progress.machine).limit tallied (counts not) ran.more (less_left _ _) is.few

  -- who has the root alone, which has come to a stop
  pub alone_came : (hand : Hand (Carried M N) H) → IsCame hand → HandIs m n b board seat hand → AloneHand m n b board seat hand
  alone_came Empty came is = absurd came
  alone_came (Runs branch) came is = absurd came
  alone_came (Given branch value) came is = absurd came
  alone_came (EndsHand branch outcome) came is = absurd came
  alone_came (Came branch stop) came is = is

  pub root_in_hand : (hand : Hand (Carried M N) H) (branch : _) → hand ≡ Runs branch → RootHand m n b board seat hand → IsRooted m n b board seat branch.value
  root_in_hand hand branch is root = subst (λ h. RootHand m n b board seat h) is root

  pub no_root_in_hand : {X : Type 0} (hand : Hand (Carried M N) H) → ((branch : _) → hand ≡ Runs branch → ⊥) → RootHand m n b board seat hand → X
  no_root_in_hand Empty not root = absurd root
  no_root_in_hand (Runs branch) not root = absurd (not branch refl)
  no_root_in_hand (Given branch value) not root = absurd root
  no_root_in_hand (EndsHand branch outcome) not root = absurd root
  no_root_in_hand (Came branch stop) not root = absurd root

module _ {M N H : Type 0} (m : Engine.Ghosts M) where
  pub tallied_in_hand : (hand : Hand (Carried M N) H) (branch : _) → hand ≡ Runs branch → IsTallied m hand → branch.value.load.ticks ≡ made_by (m.seen branch.value.load.progress.machine)
  tallied_in_hand hand branch is tallied = subst (λ h. IsTallied m h) is tallied

-- none of these is want of memory
pub not_over : (stop : Stop) → stop ≡ SliceOver → stop ≢ NoMemoryStop
not_over stop is none = absurd cc

pub not_forks : (stop : Stop) (site : _) → stop ≡ AtForkStop site → stop ≢ NoMemoryStop
not_forks stop site is none = absurd cc

pub not_waits : (stop : Stop) (variable : _) → stop ≡ AtWaitStop variable → stop ≢ NoMemoryStop
not_waits stop variable is none = absurd cc

pub not_signals : (stop : Stop) (variable : _) → stop ≡ AtSignalStop variable → stop ≢ NoMemoryStop
not_signals stop variable is none = absurd cc

module _ {M N B H S W G C : Type 0} (m : Engine.Ghosts M) (n : Asked.Ghosts N) (b : Board.Ghosts B (Carried M N) H S W G C) (board : B) where
  -- the board was told of all steps of the root
  pub rooted_told : (seat seat' : S) (load load' : Carried M N) (hold hold' : H) → (rooted : IsRooted m n b board seat (record { load = load; hold = hold })) → b.own board seat' hold' rooted.at
      → b.rights hold' ≡ b.rights hold → load'.progress ≡ reported_so m n.sites n.root n.run load.progress (made_by (m.seen load.progress.machine))
      → IsLive m n b board seat' (record { load = load'; hold = hold' })
  rooted_told seat seat' load load' hold hold' rooted owned same is = (
    rooted.at,
    owned,
    subst (λ (p : Progress M). StandsAt m n.sites n.root n.run p (b.rights hold') rooted.at) (sym is) (
      refl,
      subst (λ r. Stands m n.sites n.root n.run (reported_so m n.sites n.root n.run load.progress (made_by (m.seen load.progress.machine))) r rooted.at) (sym same)
          (told_stands m n.sites n.root n.run load.progress (made_by (m.seen load.progress.machine)) (b.rights hold) rooted.at rooted.stands),
    ),
  )
