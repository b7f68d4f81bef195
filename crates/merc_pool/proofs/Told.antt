-- What the stops of the root say to the asker.
use Rattle.std.proofs.Common.{◌≡◌, ◌≢◌, ℕ, suc, Bool, true, false, not, eqb, List, Option, Some, None, SomeIff, refl, ap, sym, ◌∙◌, subst, arith, slice_get}
use Rattle.std.proofs.lemmas.Bool.Decides.{nat_tests}
use Rattle.std.specs.Option.{option_eq}
use Rattle.std.specs.declared.boxed.Box.{Box}
use Rattle.std.specs.declared.alloc.Global.{Global}
use Rattle.merc_meaning.specs.Trace.{Run, RunEnd, RunDone, RunRaised, LimitPassed as PastLimit}
use Rattle.merc_script.specs.Script.{Script}
use Rattle.merc_rights.specs.declared.sites.SiteInfo.{SiteInfo}
use Rattle.merc_machine.specs.declared.running.Stop.{Stop}
use Rattle.merc_machine.specs.declared.running.Stop.TheVariants.{Answer as AnswerStop, Ended, Raised as RaisedStop, LimitPassed as LimitStop, NoMemory as NoMemoryStop}
use Rattle.merc_carried.specs.Runs.{answers_of, steps_before, HasEnded}
use Rattle.merc_board.specs.declared.board.Board as Board
use Rattle.merc_board.specs.declared.branch.Branch.{Branch}
use Rattle.merc_pool.specs.declared.engine.Engine as Engine
use Rattle.merc_pool.specs.declared.load.Asked as Asked
use Rattle.merc_pool.specs.declared.load.Carried.{Carried}
use Rattle.merc_pool.specs.declared.load.Progress.{Progress}
use Rattle.merc_pool.specs.declared.hand.Hand.{Hand}
use Rattle.merc_pool.specs.declared.hand.Hand.TheVariants.{Empty, Came}
use Rattle.merc_pool.specs.declared.next.Next.{Next}
use Rattle.merc_pool.specs.declared.next.Next.TheVariants.{Answer, Done, Raised, LimitPassed, NoMemory}
use Rattle.merc_pool.specs.declared.shared.Slot.{Slot}
use Rattle.merc_carried.specs.Plain.{IsPlain}
use Rattle.merc_pool.specs.Carrying.{made_by, IsToldEnd}
use Rattle.merc_pool.specs.Hands.{CameTo, IsAtAnswer}
use Rattle.merc_pool.specs.Sessions.{BackHand, IsTallied, IsToldHome, steps_of}
use Rattle.merc_pool.specs.Telling.{CountsNext, EndSays, NextIs}
use Rattle.merc_carried.proofs.Left.{ended_there, next_answer, steps_to_answer, steps_to_end}

not-false : (b : Bool) → false ≡ not b → b ≡ true
not-false true is = refl
not-false false is = absurd (cc)

-- the number that comes behind those that were told is the root's
pub is-behind : (sum : Option ℕ) (P : Type 0) (next given : ℕ) → SomeIff sum P next → false ≡ not (option_eq eqb sum (Some given)) → given ≡ next
is-behind None P next given added is = absurd (cc)
is-behind (Some other) P next given added is =
    let same : eqb other given ≡ true = not-false (eqb other given) is in
    let equal : other ≡ given = grind (arith, nat_tests, same) in
    sym equal ∙ added.1

module _ {M N H : Type 0} where
  pub empty-steps : (put_by : ℕ) (hand : Hand (Carried M N) H) → hand ≡ Empty → steps_of put_by hand ≡ put_by
  empty-steps put_by hand is = ap (λ (h : Hand (Carried M N) H). steps_of put_by h) is

module _ {M N H : Type 0} (m : Engine.Ghosts M) where
  -- the counter of a root that has come to an answer, or an end
  pub tallied-there : (hand : Hand (Carried M N) H) (branch : Box (Branch (Carried M N) H) Global) (stop : Stop) → hand ≡ Came branch stop → stop ≢ NoMemoryStop → IsTallied m hand → branch.value.load.ticks ≡ made_by (m.seen branch.value.load.progress.machine)
  tallied-there hand branch stop is not_lost tallied = (subst (λ (h : Hand (Carried M N) H). IsTallied m h) is tallied) not_lost

  pub answer-tallied : (hand : Hand (Carried M N) H) (branch : Box (Branch (Carried M N) H) Global) (stop : Stop) → hand ≡ Came branch stop → stop ≡ AnswerStop → IsTallied m hand → branch.value.load.ticks ≡ made_by (m.seen branch.value.load.progress.machine)
  answer-tallied hand branch stop is answers tallied = tallied-there hand branch stop is (λ lost. absurd (let none : AnswerStop ≡ NoMemoryStop = sym answers ∙ lost in cc)) tallied

  pub empty-tallied : (hand : Hand (Carried M N) H) → hand ≡ Empty → IsTallied m hand
  empty-tallied hand is = subst (λ (h : Hand (Carried M N) H). IsTallied m h) (sym is) tt

module _ {M : Type 0} (m : Engine.Ghosts M) (sites : List SiteInfo) (root : Script) (whole : Run) where
  has-told : (progress : Progress M) (stop : Stop) (told : ℕ) (end : RunEnd) → told ≡ progress.given → (t : IsToldEnd m sites root whole progress stop) → t.end ≡ end → HasEnded whole told end
  has-told progress stop told end same t is =
      subst (λ (k : ℕ). HasEnded whole k end) (sym same) (subst (λ (e : RunEnd). HasEnded whole progress.given e) is (ended_there whole progress.given t.made t.end t.left))

  told-steps : (progress : Progress M) (stop : Stop) (told steps : ℕ) → told ≡ progress.given → IsPlain root → steps ≡ made_by (m.seen progress.machine) → IsToldEnd m sites root whole progress stop → steps ≡ steps_before (suc told) whole
  told-steps progress stop told steps same plain counted t =
      counted ∙ sym (t.plain plain) ∙ steps_to_end whole progress.given t.made t.end t.left ∙ ap (λ k. steps_before (suc k) whole) (sym same)

module _ {M N B H S W G C : Type 0} (m : Engine.Ghosts M) (n : Asked.Ghosts N) (b : Board.Ghosts B (Carried M N) H S W G C) (board : B) (seat : S) where
  pub came-back : (hand : Hand (Carried M N) H) (branch : Box (Branch (Carried M N) H) Global) (stop : Stop) → hand ≡ Came branch stop → BackHand m n b board seat hand → CameTo m n b board seat branch.value stop
  came-back hand branch stop is back = subst (λ (h : Hand (Carried M N) H). BackHand m n b board seat h) is back

  -- .. where that is an answer
  pub at-answer : (hand : Hand (Carried M N) H) (branch : Box (Branch (Carried M N) H) Global) (stop : Stop) (now : Branch (Carried M N) H) → hand ≡ Came branch stop → stop ≡ AnswerStop → now ≡ branch.value
      → BackHand m n b board seat hand → IsAtAnswer m n b board seat now
  at-answer hand branch stop now is answers same back =
      subst (λ (x : Branch (Carried M N) H). IsAtAnswer m n b board seat x) (sym same) (subst (λ (s : Stop). CameTo m n b board seat branch.value s) answers (came-back hand branch stop is back))

  before-told : (branch : Branch (Carried M N) H) (told : ℕ) → branch.load.progress.given ≡ suc told → (at : IsAtAnswer m n b board seat branch) → at.before ≡ told
  before-told branch told is at = let counted = at.counted in omega (arith, counted, is)

  -- the answer at which the root stands is the one behind those that were told
  pub answer-told : (branch : Branch (Carried M N) H) (told : ℕ) → branch.load.progress.given ≡ suc told → (at : IsAtAnswer m n b board seat branch) → slice_get (answers_of n.run) told ≡ Some at.values
  answer-told branch told is at =
      ap (slice_get (answers_of n.run)) (sym (before-told branch told is at)) ∙ next_answer n.run at.before (made_by (m.seen branch.load.progress.machine)) at.values at.is_next.0 at.is_next.1

  pub answer-steps : (branch : Branch (Carried M N) H) (told : ℕ) → branch.load.progress.given ≡ suc told → IsAtAnswer m n b board seat branch → made_by (m.seen branch.load.progress.machine) ≡ steps_before (suc told) n.run
  answer-steps branch told is at =
      steps_to_answer n.run at.before (made_by (m.seen branch.load.progress.machine)) at.values at.is_next.0 at.is_next.1 ∙ ap (λ k. steps_before (suc k) n.run) (before-told branch told is at)

  -- an end that is told is the next of the run
  pub end-next : (branch : Branch (Carried M N) H) (stop : Stop) (told : ℕ) (next : Next) → EndSays told branch.load.progress.given stop next → CameTo m n b board seat branch stop → NextIs n.run told next
  end-next branch stop told (Answer block) says came = absurd says
  end-next branch stop told Done says came =
      let t = subst (λ (s : Stop). CameTo m n b board seat branch s) says.1 came in
      has-told m n.sites n.root n.run branch.load.progress Ended told RunDone says.0 t t.shows
  end-next branch stop told (Raised text) says came =
      let t = subst (λ (s : Stop). CameTo m n b board seat branch s) says.1 came in
      has-told m n.sites n.root n.run branch.load.progress (RaisedStop text) told (RunRaised text) says.0 t t.shows
  end-next branch stop told LimitPassed says came =
      let t = subst (λ (s : Stop). CameTo m n b board seat branch s) says.1 came in
      has-told m n.sites n.root n.run branch.load.progress LimitStop told PastLimit says.0 t t.shows
  end-next branch stop told NoMemory says came = tt

  -- .. with the steps before it counted
  pub end-counts : (branch : Branch (Carried M N) H) (stop : Stop) (told steps : ℕ) (next : Next) → EndSays told branch.load.progress.given stop next → CameTo m n b board seat branch stop → IsPlain n.root
      → (stop ≢ NoMemoryStop → steps ≡ made_by (m.seen branch.load.progress.machine)) → CountsNext n.run told steps next
  end-counts branch stop told steps (Answer block) says came plain tallied = absurd says
  end-counts branch stop told steps Done says came plain tallied =
      told-steps m n.sites n.root n.run branch.load.progress Ended told steps says.0 plain (tallied (λ e. absurd (cc))) (subst (λ (s : Stop). CameTo m n b board seat branch s) says.1 came)
  end-counts branch stop told steps (Raised text) says came plain tallied =
      told-steps m n.sites n.root n.run branch.load.progress (RaisedStop text) told steps says.0 plain (tallied (λ e. absurd (cc))) (subst (λ (s : Stop). CameTo m n b board seat branch s) says.1 came)
  end-counts branch stop told steps LimitPassed says came plain tallied =
      told-steps m n.sites n.root n.run branch.load.progress LimitStop told steps says.0 plain (tallied (λ e. absurd (cc))) (subst (λ (s : Stop). CameTo m n b board seat branch s) says.1 came)
  end-counts branch stop told steps NoMemory says came plain tallied = tt

-- behind no end the root is in hand
module _ {M N B H S W G C : Type 0} (m : Engine.Ghosts M) (n : Asked.Ghosts N) (b : Board.Ghosts B (Carried M N) H S W G C) where
  pub end-home : {P : Type 0} (board : B) (told given : ℕ) (stop : Stop) (next : Next) (slot : Slot (Carried M N) H S P) → EndSays told given stop next → IsToldHome m n b board told next slot
  end-home board told given stop (Answer block) slot says = absurd says
  end-home board told given stop Done slot says = tt
  end-home board told given stop (Raised text) slot says = tt
  end-home board told given stop LimitPassed slot says = tt
  end-home board told given stop NoMemory slot says = tt
