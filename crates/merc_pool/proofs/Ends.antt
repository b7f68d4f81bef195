-- How branches end, and how their parents go on.
use Rattle.std.proofs.Common.{◌≡◌, ◌≢◌, ℕ, suc, true, false, List, [], Some, refl, ap, sym, ◌∙◌, subst, arith}
use Rattle.merc_meaning.specs.Trace.{Run}
use Rattle.merc_script.specs.declared.outcome.Outcome.{Outcome}
use Rattle.merc_script.specs.declared.outcome.Outcome.TheVariants.{Ok as Fine, Raise, Limit, Starved, NoMemory}
use Rattle.merc_script.specs.declared.cells.Move.{Move}
use Rattle.merc_script.specs.Script.{Script, ForkThen, Children, Cell, ends}
use Rattle.merc_script.specs.Joining.{joined}
use Rattle.merc_script.specs.Places.{Place, left_of}
use Rattle.merc_rights.specs.declared.sites.SiteInfo.{SiteInfo}
use Rattle.merc_machine.specs.declared.running.Stop.{Stop}
use Rattle.merc_machine.specs.declared.running.Stop.TheVariants.{Answer, Ended, Raised, LimitPassed, Starved as StarvedStop, AtFork, AtWait, AtSignal, SliceOver, NoMemory as NoMemoryStop}
use Rattle.merc_board.specs.declared.board.Board as Board
use Rattle.merc_board.specs.declared.branch.Branch.{Branch}
use Rattle.merc_board.specs.Rights.{Rights}
use Rattle.merc_board.specs.Going.{next}
use Rattle.merc_board.specs.Boarding.{at_end, lost, lost_at, starves, IsJoined}
use Rattle.merc_carried.proofs.Places.{not_ticked}
use Rattle.merc_pool.specs.declared.engine.Engine as Engine
use Rattle.merc_pool.specs.declared.load.Asked as Asked
use Rattle.merc_pool.specs.declared.load.Carried.{Carried}
use Rattle.merc_pool.specs.declared.load.Progress.{Progress}
use Rattle.merc_pool.specs.Carrying.{IsCounted, Stands, StandsAt, goes_on, has_stopped}
use Rattle.merc_pool.specs.Running.{StoppedAt}
use Rattle.merc_pool.specs.Ending.{IsOutcomeOf, IsJoinedFork}
use Rattle.merc_pool.specs.Hands.{CanEnd, CameTo, HasComeTo, IsAtAnswer, IsParent, RootCameTo}

module _ {M : Type 0} (m : Engine.Ghosts M) (sites : List SiteInfo) (root : Script) (whole : Run) where
  stands-counted : (progress : Progress M) (rights : Rights) (at : Place) → Stands m sites root whole progress rights at → IsCounted (m.seen progress.machine)
  stands-counted progress rights at (goes_on course rest on) = on.counted
  stands-counted progress rights at (has_stopped stop end stopped) = stopped.counted

  stands-left : (progress : Progress M) (rights : Rights) (at : Place) → Stands m sites root whole progress rights at → (rest : Script) × (left_of at ≡ Some rest)
  stands-left progress rights at (goes_on course rest on) = (rest, on.left)
  stands-left progress rights at (has_stopped stop end stopped) = (_, stopped.left)

  -- wherever it has stopped its steps are counted
  pub stopped-counted : (progress : Progress M) (rights : Rights) (at : Place) (stop : Stop) → StoppedAt m sites root whole progress rights at stop → IsCounted (m.seen progress.machine)
  stopped-counted progress rights at Answer there = there.on.counted
  stopped-counted progress rights at Ended there = there.1.counted
  stopped-counted progress rights at (Raised text) there = there.1.counted
  stopped-counted progress rights at LimitPassed there = there.1.counted
  stopped-counted progress rights at StarvedStop there = absurd there
  stopped-counted progress rights at (AtFork site) there = there.1.on.counted
  stopped-counted progress rights at (AtWait variable) there = there.1.on.counted
  stopped-counted progress rights at (AtSignal variable) there = there.1.on.counted
  stopped-counted progress rights at SliceOver there = stands-counted progress rights at there
  stopped-counted progress rights at NoMemoryStop there = absurd there

  -- .. and something of its script is left
  pub stopped-left : (progress : Progress M) (rights : Rights) (at : Place) (stop : Stop) → StoppedAt m sites root whole progress rights at stop → (rest : Script) × (left_of at ≡ Some rest)
  stopped-left progress rights at Answer there = (there.rest, there.on.left)
  stopped-left progress rights at Ended there = (_, there.1.left)
  stopped-left progress rights at (Raised text) there = (_, there.1.left)
  stopped-left progress rights at LimitPassed there = (_, there.1.left)
  stopped-left progress rights at StarvedStop there = absurd there
  stopped-left progress rights at (AtFork site) there = (_, there.1.on.left)
  stopped-left progress rights at (AtWait variable) there = (_, there.1.on.left)
  stopped-left progress rights at (AtSignal variable) there = (_, there.1.on.left)
  stopped-left progress rights at SliceOver there = stands-left progress rights at there
  stopped-left progress rights at NoMemoryStop there = absurd there

-- a worker of which is not known that it may run
pub never-allowed : {A : Type 0} → false ≡ true → A
never-allowed is = absurd (cc)

-- an outcome that is neither want of memory nor starving is the one of the conjuncts
pub joined-truly : (own : Place → Type 0) (runs starved : Type 0) (at : Place) (limit : ℕ) (children : Children) (outcome : Outcome) → outcome ≢ NoMemory → outcome ≢ Starved
    → IsJoined own runs starved at limit children outcome → (joined limit (ends children) ≡ outcome) × own (next at)
joined-truly own runs starved at limit children NoMemory kept fed came = absurd (kept refl)
joined-truly own runs starved at limit children Starved kept fed came = absurd (fed refl)
joined-truly own runs starved at limit children (Fine steps) kept fed came = came
joined-truly own runs starved at limit children (Raise text steps) kept fed came = came
joined-truly own runs starved at limit children Limit kept fed came = came

module _ {M N B H S W G C : Type 0} (m : Engine.Ghosts M) (n : Asked.Ghosts N) (b : Board.Ghosts B (Carried M N) H S W G C) (board : B) (seat : S) where
  lost-there : (branch : Branch (Carried M N) H) (stop : Stop) (outcome : Outcome) → HasComeTo m n b board seat branch stop → outcome ≡ NoMemory → CanEnd m n b board seat branch outcome
  lost-there branch stop outcome come is = subst (λ (o : Outcome). CanEnd m n b board seat branch o) (sym is) (lost_at come.0 come.1)

  -- a branch may end as its machine has stopped
  pub can-end : (branch : Branch (Carried M N) H) (stop : Stop) (outcome : Outcome) → HasComeTo m n b board seat branch stop → IsOutcomeOf (m.seen branch.load.progress.machine) stop outcome → CanEnd m n b board seat branch outcome
  can-end branch Ended outcome come is =
      let stopped = come.3.1 in
      subst (λ (o : Outcome). CanEnd m n b board seat branch o) (stopped.ends ∙ sym is) (at_end come.0 come.3.0 come.1 stopped.left (come.2, has_stopped Ended come.3.0 stopped))
  can-end branch (Raised text) outcome come is =
      let stopped = come.3.1 in
      subst (λ (o : Outcome). CanEnd m n b board seat branch o) (stopped.ends ∙ sym is) (at_end come.0 come.3.0 come.1 stopped.left (come.2, has_stopped (Raised text) come.3.0 stopped))
  can-end branch LimitPassed outcome come is =
      let stopped = come.3.1 in
      subst (λ (o : Outcome). CanEnd m n b board seat branch o) (stopped.ends ∙ sym is) (at_end come.0 come.3.0 come.1 stopped.left (come.2, has_stopped LimitPassed come.3.0 stopped))
  can-end branch Answer outcome come is = lost-there branch Answer outcome come is
  can-end branch StarvedStop outcome come is = lost-there branch StarvedStop outcome come is
  can-end branch (AtFork site) outcome come is = lost-there branch (AtFork site) outcome come is
  can-end branch (AtWait variable) outcome come is = lost-there branch (AtWait variable) outcome come is
  can-end branch (AtSignal variable) outcome come is = lost-there branch (AtSignal variable) outcome come is
  can-end branch SliceOver outcome come is = lost-there branch SliceOver outcome come is
  can-end branch NoMemoryStop outcome come is = lost-there branch NoMemoryStop outcome come is

  pub come-counted : (branch : Branch (Carried M N) H) (stop : Stop) → HasComeTo m n b board seat branch stop → IsCounted (m.seen branch.load.progress.machine)
  come-counted branch stop come = stopped-counted m n.sites n.root n.run branch.load.progress (b.rights branch.hold) come.0 stop come.3

  -- the root has come so, of which its board was told all
  pub root-came : (branch : Branch (Carried M N) H) (stop : Stop) → HasComeTo m n b board seat branch stop → ((at : Place) → b.own board seat branch.hold at → at.name ≡ []) → RootCameTo m n b board seat branch stop
  root-came branch stop come named =
      let left = stopped-left m n.sites n.root n.run branch.load.progress (b.rights branch.hold) come.0 stop come.3 in
      let reported = come.2 in (
        come.0,
        named come.0 come.1,
        λ _. record { from = come.0; passed = 0; owned = come.1; ticked = not_ticked come.0 left.0 left.1; reported = omega (arith, reported) },
        come.3,
      )

  -- an answer of the root, counted
  pub has-answer : (branch : Branch (Carried M N) H) (given : ℕ) → given ≡ suc branch.load.progress.given → RootCameTo m n b board seat branch Answer
      → IsAtAnswer m n b board seat (record branch { load = record branch.load { progress = record branch.load.progress { given = given } } })
  has-answer branch given is came =
      let there = came.3 in
      let passed = came.2 refl in
      record {
        rooted = record {
          at = came.0;
          named = came.1;
          passed = record { from = passed.from; passed = passed.passed; owned = passed.owned; ticked = passed.ticked; reported = passed.reported };
          stands = subst (λ (k : ℕ). Stands m n.sites n.root n.run (record branch.load.progress { given = k }) (b.rights branch.hold) came.0) (sym is) (goes_on there.course there.rest there.on);
        };
        values = there.values;
        before = branch.load.progress.given;
        answered = there.answered;
        counted = is;
        is_next = there.is_next came.1;
      }

  -- another stop of the root
  pub came-to : (branch : Branch (Carried M N) H) (stop : Stop) → stop ≢ Answer → RootCameTo m n b board seat branch stop → CameTo m n b board seat branch stop
  came-to branch Answer other came = absurd (other refl)
  came-to branch Ended other came = came.3.1.tells came.1
  came-to branch (Raised text) other came = came.3.1.tells came.1
  came-to branch LimitPassed other came = came.3.1.tells came.1
  came-to branch StarvedStop other came = tt
  came-to branch (AtFork site) other came = tt
  came-to branch (AtWait variable) other came = tt
  came-to branch (AtSignal variable) other came = tt
  came-to branch SliceOver other came = tt
  came-to branch NoMemoryStop other came = tt

  -- What the call says that hands out what the conjuncts of a parent came to.
  abbrev pub HandsOut : S → Branch (Carried M N) H → H → Outcome → Type 0
  HandsOut before parent hold outcome =
      (at : Place) (limit : ℕ) (cells : List Cell) (moves : List Move) (children : Children) (rest : Script) → b.holds board before parent.hold at → left_of at ≡ Some (ForkThen limit cells moves children rest)
      → IsJoined (b.own board seat hold) (b.runs board seat hold) (b.starved board seat hold) at limit children outcome

  handed-out : (before : S) (parent now : Branch (Carried M N) H) (hold : H) (outcome : Outcome) → (is : IsParent m n b board before parent) → now ≡ parent → HandsOut before now hold outcome
      → IsJoined (b.own board seat hold) (b.runs board seat hold) (b.starved board seat hold) is.0 is.2.limit is.2.children outcome
  handed-out before parent now hold outcome is same out =
      let f = is.2 in
      out is.0 f.limit f.cells f.moves f.children f.rest (subst (λ (p : Branch (Carried M N) H). b.holds board before p.hold is.0) (sym same) is.1) f.on.left

  -- Behind it the parent ends for want of memory, or as one that starved.
  pub parent-lost : (before : S) (parent now : Branch (Carried M N) H) (hold : H) (outcome : Outcome) → IsParent m n b board before parent → now ≡ parent → HandsOut before now hold outcome
      → outcome ≡ NoMemory → CanEnd m n b board seat (record now { hold = hold }) NoMemory
  parent-lost before parent now hold outcome is same out lacks =
      lost (subst (λ (o : Outcome). IsJoined (b.own board seat hold) (b.runs board seat hold) (b.starved board seat hold) is.0 is.2.limit is.2.children o) lacks (handed-out before parent now hold outcome is same out))

  pub parent-starves : (before : S) (parent now : Branch (Carried M N) H) (hold : H) (outcome : Outcome) → IsParent m n b board before parent → now ≡ parent → HandsOut before now hold outcome
      → outcome ≡ Starved → CanEnd m n b board seat (record now { hold = hold }) Starved
  parent-starves before parent now hold outcome is same out lacks =
      starves (subst (λ (o : Outcome). IsJoined (b.own board seat hold) (b.runs board seat hold) (b.starved board seat hold) is.0 is.2.limit is.2.children o) lacks (handed-out before parent now hold outcome is same out))

  -- .. or is to run its conjuncts again, which nobody does
  pub parent-restarts : (before : S) (parent now : Branch (Carried M N) H) (hold : H) → IsParent m n b board before parent → now ≡ parent
      → ((at : Place) (limit : ℕ) (cells : List Cell) (moves : List Move) (children : Children) (rest : Script) → b.holds board before now.hold at → left_of at ≡ Some (ForkThen limit cells moves children rest) → b.runs board seat hold)
      → CanEnd m n b board seat (record now { hold = hold }) NoMemory
  parent-restarts before parent now hold is same out =
      let f = is.2 in
      lost (out is.0 f.limit f.cells f.moves f.children f.rest (subst (λ (p : Branch (Carried M N) H). b.holds board before p.hold is.0) (sym same) is.1) f.on.left)

  -- .. or goes on
  record GoesOn (load : Carried M N) (hold : H) (outcome : Outcome) : Type 0 where
    pub at : Place
    pub joins : IsJoinedFork m n.sites n.root n.run load.progress (b.rights hold) at outcome
    pub owned : b.own board seat hold (next at)

  goes-on-there : (before : S) (parent : Branch (Carried M N) H) (hold : H) (outcome : Outcome) → (is : IsParent m n b board before parent) → b.rights hold ≡ b.rights parent.hold
      → IsJoined (b.own board seat hold) (b.runs board seat hold) (b.starved board seat hold) is.0 is.2.limit is.2.children outcome → outcome ≢ NoMemory → outcome ≢ Starved → GoesOn parent.load hold outcome
  goes-on-there before parent hold outcome is rights came kept fed =
      let f = is.2 in
      let joins = joined-truly (b.own board seat hold) (b.runs board seat hold) (b.starved board seat hold) is.0 f.limit f.children outcome kept fed came in
      record {
        at = is.0;
        joins = record {
          fork = record {
            site = f.site;
            info = f.info;
            before = f.before;
            limit = f.limit;
            cells = f.cells;
            moves = f.moves;
            children = f.children;
            forked = f.forked;
            next = f.next;
            rest = f.rest;
            found = f.found;
            handed = rights ∙ f.handed;
            stopped = f.stopped;
            meets = f.meets;
            on = f.on;
            reported = f.reported;
          };
          joins = joins.0;
          has_memory = kept;
          is_fed = fed;
        };
        owned = joins.1;
      }

  goes-on : (before : S) (parent now behind : Branch (Carried M N) H) (hold : H) (outcome : Outcome) → IsParent m n b board before parent → now ≡ parent → behind ≡ record now { hold = hold }
      → b.rights hold ≡ b.rights now.hold → HandsOut before now hold outcome → outcome ≢ NoMemory → outcome ≢ Starved → GoesOn behind.load behind.hold outcome
  goes-on before parent now behind hold outcome is same then rights out kept fed =
      let there = goes-on-there before parent hold outcome is (rights ∙ ap (λ (p : Branch (Carried M N) H). b.rights p.hold) same) (handed-out before parent now hold outcome is same out) kept fed in
      subst (λ (p : Branch (Carried M N) H). GoesOn p.load p.hold outcome) (sym then) (subst (λ (p : Branch (Carried M N) H). GoesOn p.load hold outcome) (sym same) there)

  pub parent-joins : (before : S) (parent now behind : Branch (Carried M N) H) (hold : H) (outcome : Outcome) → IsParent m n b board before parent → now ≡ parent → behind ≡ record now { hold = hold }
      → b.rights hold ≡ b.rights now.hold → HandsOut before now hold outcome → outcome ≢ NoMemory → outcome ≢ Starved
      → (rights : Rights) × (at : Place) × IsJoinedFork m n.sites n.root n.run behind.load.progress rights at outcome
  parent-joins before parent now behind hold outcome is same then rights out kept fed =
      let there = goes-on before parent now behind hold outcome is same then rights out kept fed in
      (b.rights behind.hold, there.at, there.joins)

  pub parent-goes-on : (before : S) (parent now behind : Branch (Carried M N) H) (hold : H) (outcome : Outcome) (progress : Progress M) → IsParent m n b board before parent → now ≡ parent → behind ≡ record now { hold = hold }
      → b.rights hold ≡ b.rights now.hold → HandsOut before now hold outcome → outcome ≢ NoMemory → outcome ≢ Starved
      → ((rights : Rights) (at : Place) → IsJoinedFork m n.sites n.root n.run behind.load.progress rights at outcome → StandsAt m n.sites n.root n.run progress rights (next at))
      → (at : Place) × b.own board seat behind.hold at × StandsAt m n.sites n.root n.run progress (b.rights behind.hold) at
  parent-goes-on before parent now behind hold outcome progress is same then rights out kept fed stands =
      let there = goes-on before parent now behind hold outcome is same then rights out kept fed in
      (next there.at, there.owned, stands (b.rights behind.hold) there.at there.joins)
