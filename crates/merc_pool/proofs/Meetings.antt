-- Branches that are found, that wait, and that signal.
use Rattle.std.proofs.Common.{◌≡◌, ℕ, zero, suc, ◌+◌, ◌-◌, ◌≤◌, List, [], ◌∷◌, length, map, Option, Some, None, refl, ap, sym, ◌∙◌, subst, arith}
use Rattle.merc_value.specs.Value.{Value}
use Rattle.merc_value.specs.Block.{BlockData, root_values}
use Rattle.merc_meaning.specs.Trace.{Run, RunEnd}
use Rattle.merc_script.specs.Script.{Script, WaitThen, SignalThen}
use Rattle.merc_script.specs.Places.{Place, left_of, left_behind}
use Rattle.merc_core.specs.WellFormed.{cells_of, value_in, most_steps}
use Rattle.merc_course.specs.Course.{RunCourse, Meets, AtWait, AtSignal, Reply, Given, Passed, Courses}
use Rattle.merc_rights.specs.declared.sites.SiteInfo.{SiteInfo}
use Rattle.merc_code.specs.declared.instruction.Instruction.TheVariants.{Wait, Signal}
use Rattle.merc_machine.specs.declared.machine.Machine.{Machine}
use Rattle.merc_machine.specs.declared.running.Stop.{Stop}
use Rattle.merc_machine.specs.declared.running.Stop.TheVariants.{AtWait as AtWaitStop, AtSignal as AtSignalStop}
use Rattle.merc_machine.specs.Coming.{MeetsAt, all_left}
use Rattle.merc_machine.specs.Running.{Means}
use Rattle.merc_machine.specs.Meetings.{IsGiven as MachineGiven}
use Rattle.merc_board.specs.declared.board.Board as Board
use Rattle.merc_board.specs.declared.branch.Branch.{Branch}
use Rattle.merc_board.specs.declared.branch.Woken.{Woken}
use Rattle.merc_board.specs.declared.branch.Woken.TheVariants.{No, Value as WokenValue, Starved as WokenStarved}
use Rattle.merc_board.specs.Rights.{Due, Owed, Rights, TookWait, TookSignal}
use Rattle.merc_board.specs.Going.{next}
use Rattle.merc_board.specs.Boarding.{IsFound, IsGiven}
use Rattle.merc_carried.specs.Runs.{IsLeftOf}
use Rattle.merc_carried.specs.KeepsTo.{KeepsTo, with_waits, with_signals}
use Rattle.merc_carried.proofs.Places.{left_next}
use Rattle.merc_carried.proofs.Keeping.{wait_keeps, signal_keeps}
use Rattle.merc_pool.specs.declared.engine.Engine as Engine
use Rattle.merc_pool.specs.declared.load.Asked as Asked
use Rattle.merc_pool.specs.declared.load.Carried.{Carried}
use Rattle.merc_pool.specs.declared.load.Progress.{Progress}
use Rattle.merc_pool.specs.Carrying.{made_by, AwaitsAt, IsCounted, IsOn, IsShown, StandsAt, goes_on}
use Rattle.merc_pool.specs.Running.{IsMeeting}
use Rattle.merc_pool.specs.Forking.{IsFoundBranch}
use Rattle.merc_pool.specs.Hands.{BranchStands, HasComeTo, HasValue, IsLive}

same_wait : {one other : ℕ} {rest behind : Script} → Some (WaitThen one rest) ≡ Some (WaitThen other behind) → (one ≡ other) × (rest ≡ behind)
same_wait e = (cc, cc)

some_wait : {one other : ℕ × List Due} → Some one ≡ Some other → one ≡ other
some_wait e = cc

some_owed : {one other : Owed × List Owed} → Some one ≡ Some other → one ≡ other
some_owed e = cc

same_found : {one other : ℕ × List Due} → Some one ≡ Some other → (one.0 ≡ other.0) × (one.1 ≡ other.1)
same_found e = let f = some_wait e in (ap (λ pair. pair.0) f, ap (λ pair. pair.1) f)

same_owed : {one other : Owed × List Owed} → Some one ≡ Some other → (one.0 ≡ other.0) × (one.1 ≡ other.1)
same_owed e = let f = some_owed e in (ap (λ pair. pair.0) f, ap (λ pair. pair.1) f)

waits_are : (rights before : Rights) (others : List Due) → rights.waits ≡ others → rights.signals ≡ before.signals → with_waits others before ≡ rights
waits_are rights before others e f = ap (λ w. with_waits w before) (sym e) ∙ ap (λ s. record { waits = rights.waits; signals = s }) (sym f)

signals_are : (rights before : Rights) (others : List Owed) → rights.signals ≡ others → rights.waits ≡ before.waits → with_signals others before ≡ rights
signals_are rights before others e f = ap (λ s. with_signals s before) (sym e) ∙ ap (λ w. record { waits = w; signals = rights.signals }) (sym f)

module _ {M : Type 0} (m : Engine.Ghosts M) (sites : List SiteInfo) (root : Script) (whole : Run) where
  abbrev values : ℕ → Option Value
  values = value_in (cells_of root)

  -- Behind one item, at which the machine made no step.
  pub past_item : (progress : Progress M) (machine : M) (rights rights' : Rights) (at : Place) (course course' : RunCourse) (item rest : Script) → (on : IsOn m sites root whole progress rights at course item)
      → left_behind 1 item ≡ Some rest → all_left (m.seen machine) ≡ all_left (m.seen progress.machine) → (m.seen machine).limit ≡ (m.seen progress.machine).limit → Means (m.seen machine) course'
      → KeepsTo sites values rights' (all_left (m.seen progress.machine)) (made_by (m.seen progress.machine)) on.run course' rest
      → IsOn m sites root whole (record progress { machine = machine }) rights' (next at) course' rest
  past_item progress machine rights rights' at course course' item rest on is left limit means keeps =
      let made : made_by (m.seen machine) ≡ made_by (m.seen progress.machine) = ap (λ l. l - all_left (m.seen machine)) limit ∙ ap (λ l. (m.seen progress.machine).limit - l) left in
      record {
        rooted = on.rooted;
        left = left_next at item on.left ∙ is;
        run = on.run;
        keeps = subst (λ l. KeepsTo sites values rights' l (made_by (m.seen machine)) on.run course' rest) (sym left)
            (subst (λ n. KeepsTo sites values rights' (all_left (m.seen progress.machine)) n on.run course' rest) (sym made) keeps);
        means = means;
        counted = record {
          within = subst (λ l. l ≤ (m.seen machine).limit) (sym left) (subst (λ l. all_left (m.seen progress.machine) ≤ l) (sym limit) on.counted.within);
          few = subst (λ l. l ≤ most_steps) (sym limit) on.counted.few;
        };
        tells = λ named. subst (λ n. IsLeftOf whole progress.given n on.run) (sym made) (on.tells named);
      }

module _ {M N B H S W G C : Type 0} (m : Engine.Ghosts M) (n : Asked.Ghosts N) (b : Board.Ghosts B (Carried M N) H S W G C) (board : B) (seat : S) where
  abbrev branch_of : Carried M N → H → Branch (Carried M N) H
  branch_of load hold = record { load = load; hold = hold }

  abbrev Found : Carried M N → H → Woken → Type 0
  Found load hold woken =
      IsFound (b.own board seat hold) (BranchStands m n b (branch_of load hold)) (AwaitsAt m n.sites n.root n.run load.progress (b.rights hold)) (IsShown n.root) (b.starved board seat hold) woken

  -- A branch that is found, behind the question with what it was woken.

  pub found_live : (load : Carried M N) (hold hold' : H) → No ≡ b.woke hold → IsFoundBranch m n b board seat (branch_of load hold)
      → ((at : Place) → b.own board seat hold at → b.own board seat hold' at) → b.rights hold' ≡ b.rights hold → IsLive m n b board seat (branch_of load hold')
  found_live load hold hold' woke found own same =
      let f = subst (Found load hold) (sym woke) found in
      (f.0, own f.0 f.1, subst (λ r. StandsAt m n.sites n.root n.run load.progress r f.0) (sym same) f.2)

  pub found_value : (load : Carried M N) (hold hold' : H) (value : BlockData) → WokenValue value ≡ b.woke hold → IsFoundBranch m n b board seat (branch_of load hold)
      → ((at : Place) → b.own board seat hold at → b.own board seat hold' at) → b.rights hold' ≡ b.rights hold → HasValue m n b board seat (branch_of load hold') value
  found_value load hold hold' value woke found own same =
      let f = subst (Found load hold) (sym woke) found in
      record {
        at = f.at;
        cell = f.cell;
        rest = f.rest;
        left = f.left;
        owned = own (next f.at) f.owned;
        waiting = subst (λ r. AwaitsAt m n.sites n.root n.run load.progress r f.at) (sym same) f.waiting;
        shown = f.shown;
      }

  pub found_starved : (load : Carried M N) (hold hold' : H) → WokenStarved ≡ b.woke hold → IsFoundBranch m n b board seat (branch_of load hold)
      → (b.starved board seat hold → b.starved board seat hold') → b.starved board seat hold'
  found_starved load hold hold' woke found starved = starved (subst (Found load hold) (sym woke) found)

  -- A wait: what the board asks.
  pub wait_asks : (load : Carried M N) (hold hold' : H) (variable cell : ℕ) → HasComeTo m n b board seat (branch_of load hold) (AtWaitStop variable)
      → TookWait variable (b.rights hold) (b.rights hold') cell → ((at : Place) → b.own board seat hold at → b.own board seat hold' at)
      → (at : Place) × (rest : Script) × b.own board seat hold' at × (left_of at ≡ Some (WaitThen cell rest)) × AwaitsAt m n.sites n.root n.run load.progress (b.rights hold') at
  wait_asks load hold hold' variable cell come took own =
      let at = come.0 in
      let s = come.3.1 in
      let on = s.on in
      let k = wait_keeps n.sites (value_in (cells_of n.root)) (b.rights hold) _ _ on.run variable s.forked s.next s.rest on.keeps in
      let same = same_found (sym k.found ∙ took.0) in
      let is : s.rest ≡ WaitThen cell k.rest = k.is_script ∙ ap (λ c. WaitThen c k.rest) same.0 in (
        at,
        k.rest,
        own at come.1,
        on.left ∙ ap Some is,
        record {
          variable = variable;
          before = b.rights hold;
          cell = cell;
          forked = s.forked;
          next = s.next;
          rest = k.rest;
          took = took;
          stopped = come.3.0;
          meets = s.meets;
          on = subst (λ r. IsOn m n.sites n.root n.run load.progress (b.rights hold) at (Meets (AtWait variable) s.forked s.next) r) is on;
          reported = come.2;
        },
      )

  -- .. and the branch behind it, which was given the cell's value
  pub wait_past : (load : Carried M N) (hold : H) (machine : M) (variable : ℕ) (value : BlockData) → (given : HasValue m n b board seat (branch_of load hold) value) → load.progress.stop ≡ AtWaitStop variable
      → all_left (m.seen machine) ≡ all_left (m.seen load.progress.machine) → (m.seen machine).limit ≡ (m.seen load.progress.machine).limit
      → ((v : Value) → root_values value ≡ v ∷ [] → MachineGiven (m.seen load.progress.machine) variable v (m.seen machine))
      → IsLive m n b board seat (branch_of (record load { progress = record load.progress { machine = machine } }) hold)
  wait_past load hold machine variable value given stopped left limit gives =
      let a = given.waiting in
      let old = m.seen load.progress.machine in
      let there = same_wait (sym given.left ∙ a.on.left) in
      let k = wait_keeps n.sites (value_in (cells_of n.root)) a.before (all_left old) (made_by old) a.on.run a.variable a.forked a.next (WaitThen a.cell a.rest) a.on.keeps in
      let script = same_wait (ap Some k.is_script) in
      let v = given.shown.0 in
      let valued : value_in (cells_of n.root) k.cell ≡ Some v = ap (value_in (cells_of n.root)) (sym script.0 ∙ sym there.0) ∙ given.shown.1 in
      let found = same_found (sym k.found ∙ a.took.0) in
      let same : a.variable ≡ variable = same_variable (sym a.stopped ∙ stopped) in
      let means : Means (m.seen machine) (a.next (Given v)) =
      gives v given.shown.2 a.forked a.next (subst (λ x. Means old (Meets (AtWait x) a.forked a.next)) same a.on.means) in
      let keeps = subst (λ r. KeepsTo n.sites (value_in (cells_of n.root)) r (all_left old) (made_by old) a.on.run (a.next (Given v)) k.rest) (waits_are (b.rights hold) a.before k.others (sym found.1) a.took.1)
      (k.keeps v valued) in
      let made : made_by (m.seen machine) ≡ made_by old = ap (λ l. l - all_left (m.seen machine)) limit ∙ ap (λ l. old.limit - l) left in (
        next given.at,
        given.owned,
        (
          made ∙ a.reported,
          goes_on (a.next (Given v)) k.rest
              (past_item m n.sites n.root n.run load.progress machine a.before (b.rights hold) given.at (Meets (AtWait a.variable) a.forked a.next) (a.next (Given v)) (WaitThen a.cell a.rest) k.rest a.on (ap Some script.1) left limit
              means keeps),
        ),
      )
    where
      same_variable : {one other : ℕ} → AtWaitStop one ≡ AtWaitStop other → one ≡ other
      same_variable e = cc

  -- A signal: what the board asks.
  pub signal_asks : (load : Carried M N) (hold hold' : H) (variable cell : ℕ) (block : BlockData) → (come : HasComeTo m n b board seat (branch_of load hold) (AtSignalStop variable))
      → TookSignal variable (b.rights hold) (b.rights hold') cell → ((at : Place) → b.own board seat hold at → b.own board seat hold' at)
      → root_values block ≡ come.3.0 ∷ []
      → (at : Place) × (rest : Script) × b.own board seat hold' at × (left_of at ≡ Some (SignalThen cell rest)) × IsShown n.root cell block
  signal_asks load hold hold' variable cell block come took own shown =
      let s = come.3.1 in
      let on = s.on in
      let k = signal_keeps n.sites (value_in (cells_of n.root)) (b.rights hold) _ _ on.run variable come.3.0 s.forked s.next s.rest on.keeps in
      let same : k.owed.cell ≡ cell = ap (λ (o : Owed). o.cell) (same_owed (sym k.found ∙ took.1)).0 ∙ took.2 in
      (come.0, k.rest, own come.0 come.1, on.left ∙ ap Some (k.is_script ∙ ap (λ c. SignalThen c k.rest) same), (come.3.0, ap (value_in (cells_of n.root)) (sym same) ∙ k.valued, shown))

  -- .. and the branch behind it
  pub signal_past : (seat' : S) (load : Carried M N) (hold hold' : H) (machine : M) (variable cell : ℕ) → (come : HasComeTo m n b board seat (branch_of load hold) (AtSignalStop variable))
      → TookSignal variable (b.rights hold) (b.rights hold') cell → ((at : Place) → b.own board seat hold at → b.own board seat hold' at)
      → all_left (m.seen machine) ≡ all_left (m.seen load.progress.machine) → (m.seen machine).limit ≡ (m.seen load.progress.machine).limit
      → Means (m.seen machine) (come.3.1.next Passed)
      → ((h : H) (at : Place) (rest : Script) → b.own board seat h at → left_of at ≡ Some (SignalThen cell rest) → b.own board seat' h (next at))
      → IsLive m n b board seat' (branch_of (record load { progress = record load.progress { machine = machine } }) hold')
  signal_past seat' load hold hold' machine variable cell come took own left limit means moves =
      let s = come.3.1 in
      let on = s.on in
      let old = m.seen load.progress.machine in
      let k = signal_keeps n.sites (value_in (cells_of n.root)) (b.rights hold) (all_left old) (made_by old) on.run variable come.3.0 s.forked s.next s.rest on.keeps in
      let found = same_owed (sym k.found ∙ took.1) in
      let same : k.owed.cell ≡ cell = ap (λ (o : Owed). o.cell) found.0 ∙ took.2 in
      let keeps = subst (λ r. KeepsTo n.sites (value_in (cells_of n.root)) r (all_left old) (made_by old) on.run (s.next Passed) k.rest) (signals_are (b.rights hold') (b.rights hold) k.others (sym found.1) took.3) k.keeps in
      let made : made_by (m.seen machine) ≡ made_by old = ap (λ l. l - all_left (m.seen machine)) limit ∙ ap (λ l. old.limit - l) left in (
        next come.0,
        moves hold' come.0 k.rest (own come.0 come.1) (on.left ∙ ap Some (k.is_script ∙ ap (λ c. SignalThen c k.rest) same)),
        (
          made ∙ come.2,
          goes_on (s.next Passed) k.rest
              (past_item m n.sites n.root n.run load.progress machine (b.rights hold) (b.rights hold') come.0 (Meets (AtSignal variable come.3.0) s.forked s.next) (s.next Passed) s.rest k.rest on
              (ap (left_behind 1) k.is_script) left limit means keeps),
        ),
      )
