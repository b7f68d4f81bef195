-- What the definitions of tellings, endings and shares say.
use Rattle.std.proofs.Common.{◌≡◌, ℕ, zero, suc, List, [], ◌∷◌, Some, None, refl, ap, sym, subst, ◌∙◌, map}
use Rattle.std.specs.Prelude.{slice_get, unwrap_or}
use Rattle.merc_base.specs.Names.{nil_name}
use Rattle.merc_meaning.specs.Trace.{Env, Run, RunDone, Ends as RunEnds, Tick as RunTick, Answer as RunAnswer}
use Rattle.merc_value.specs.Value.{Con, none}
use Rattle.merc_value.specs.Block.{BlockData, no_value}
use Rattle.merc_value.specs.declared.word.Word.TheVariants.{Atom as AtomWord}
use Rattle.merc_script.specs.declared.outcome.Outcome.TheVariants.{Ok as Fine, Raise, NoMemory as LackedMemory}
use Rattle.merc_script.specs.Joining.{joined}
use Rattle.merc_script.specs.Places.{Place}
use Rattle.merc_script.specs.Script.{Script, ends}
use Rattle.merc_rights.specs.declared.sites.SiteInfo.{SiteInfo}
use Rattle.merc_machine.specs.declared.machine.Machine.{Machine}
use Rattle.merc_machine.specs.declared.running.Stop.TheVariants.{Answer as AnswerStop, Ended, Raised as RaisedStop, LimitPassed as LimitStop, SliceOver}
use Rattle.merc_board.specs.Rights.{Rights}
use Rattle.merc_pool.specs.declared.engine.Engine as Engine
use Rattle.merc_pool.specs.declared.load.Progress.{Progress}
use Rattle.merc_pool.specs.declared.next.Next.TheVariants.{Answer, Done, LimitPassed, NoMemory}
use Rattle.merc_pool.specs.declared.shares.Share.{Share}
use Rattle.merc_pool.specs.Carrying.{made_by, ForkedAt}
use Rattle.merc_pool.specs.Ending.{IsOutcomeOf, IsJoinedFork}
use Rattle.merc_pool.specs.Shares.{AreShares, IsShare}
use Rattle.merc_pool.specs.Telling.{ShowsAnswer, NextIs, given_after, last_of, CountsNext, IsLast, Tells, EndSays}

-- A run of two answers, each behind a step: of the first the variable is atom 3, of the second it is atom 4.
abbrev first : Env
first = Some (Con 3 none) ∷ []

abbrev second : Env
second = Some (Con 4 none) ∷ []

abbrev run : Run
run = RunTick (RunAnswer first (RunTick (RunAnswer second (RunEnds RunDone))))

abbrev block : ℕ → BlockData
block atom = record { cells = []; roots = AtomWord atom ∷ [] }

pub shows-first : ShowsAnswer first (block 3)
shows-first = refl

pub shows-other : ShowsAnswer first (block 4) → ⊥
shows-other shown = absurd cc

-- a variable without a value is shown as the empty list
pub shows-none : ShowsAnswer (None ∷ []) (block nil_name)
shows-none = refl

pub next-first : NextIs run 0 (Answer (block 3))
next-first = (first, refl, refl)

pub next-second : NextIs run 1 (Answer (block 4))
next-second = (second, refl, refl)

-- .. and no other answer, and no end before both are given
pub next-skipped : NextIs run 0 (Answer (block 4)) → ⊥
next-skipped told = absurd (let is = told.1 in let shown = told.2 in let same : first ≡ told.0 = cc in let other : ShowsAnswer first (block 4) = shown ∙ sym (ap (map (λ value. unwrap_or value no_value)) same) in cc)

pub next-early : NextIs run 1 Done → ⊥
next-early told = absurd (let all = told.all in cc)

pub next-done : NextIs run 2 Done
next-done = record { all = refl; is_end = refl }

pub next-limit : NextIs run 2 LimitPassed → ⊥
next-limit told = absurd (let end = told.is_end in cc)

pub next-lost : NextIs run 1 NoMemory
next-lost = tt

pub given-more : given_after 1 (Answer (block 4)) ≡ 2
given-more = refl

pub given-same : given_after 2 Done ≡ 2
given-same = refl

-- two steps are counted at the second answer, and at the end
pub counts-second : CountsNext run 1 2 (Answer (block 4))
counts-second = refl

pub counts-done : CountsNext run 2 2 Done
counts-done = refl

pub counts-less : CountsNext run 1 1 (Answer (block 4)) → ⊥
counts-less counted = absurd cc

-- an end is told again, an answer is not
pub last-done : last_of Done ≡ Some Ended
last-done = refl

pub last-answer : last_of (Answer (block 3)) ≡ None
last-answer = refl

pub is-last : IsLast Ended
is-last = tt

pub answers-go-on : IsLast AnswerStop → ⊥
answers-go-on last = last

pub tells-done : Tells Ended Done
tells-done = refl

pub tells-other : Tells Ended LimitPassed → ⊥
tells-other told = absurd cc

-- where an answer was not told memory was refused, and no end is told
pub end-said : EndSays 2 2 Ended Done
end-said = (refl, refl)

pub end-early : EndSays 1 2 Ended Done → ⊥
end-early said = absurd (let same = said.0 in cc)

pub end-other : EndSays 2 2 LimitStop Done → ⊥
end-other said = absurd (let same = said.1 in cc)

pub end-lost : EndSays 1 2 Ended NoMemory
end-lost = tt

-- a branch ends with the steps that its machine has made
pub outcome-fine : (machine : Machine) → made_by machine ≡ 7 → IsOutcomeOf machine Ended (Fine 7)
outcome-fine machine made = ap Fine (sym made)

pub outcome-raised : (machine : Machine) → made_by machine ≡ 7 → IsOutcomeOf machine (RaisedStop 3) (Raise 3 7)
outcome-raised machine made = ap (Raise 3) (sym made)

pub outcome-limit : (machine : Machine) → IsOutcomeOf machine LimitStop LackedMemory → ⊥
outcome-limit machine is = absurd cc

pub outcome-over : (machine : Machine) → IsOutcomeOf machine SliceOver LackedMemory
outcome-over machine = refl

-- a machine goes on behind a fork whose conjuncts end well, and not where memory was refused
pub joins-fine : {M : Type 0} (m : Engine.Ghosts M) (sites : List SiteInfo) (root : Script) (whole : Run) (progress : Progress M) (rights : Rights) (at : Place) (fork : ForkedAt m sites root whole progress rights at)
    → joined fork.limit (ends fork.children) ≡ Fine 3 → IsJoinedFork m sites root whole progress rights at (Fine 3)
joins-fine m sites root whole progress rights at fork fine = record { fork = fork; joins = fine; has_memory = λ is. absurd cc; is_fed = λ is. absurd cc }

pub joins-lost : {M : Type 0} (m : Engine.Ghosts M) (sites : List SiteInfo) (root : Script) (whole : Run) (progress : Progress M) (rights : Rights) (at : Place)
    → IsJoinedFork m sites root whole progress rights at LackedMemory → ⊥
joins-lost m sites root whole progress rights at joins = joins.has_memory refl

-- a site of two conjuncts without cells, and what is made ready for it
abbrev info : SiteInfo
info = record { children = 2; cells = []; moves = [] }

pub share-is : (share : Share) → share.children ≡ 2 → share.shared.items ≡ [] → share.given.items ≡ [] → IsShare info share
share-is share count shared given = record { same_count = count; shared = shared; given = given }

pub share-other : (share : Share) → share.children ≡ 3 → IsShare info share → ⊥
share-other share count is = absurd (let same = is.same_count in cc)

pub shares-none : AreShares [] []
shares-none = record { same_length = refl; each = λ site info share found has. absurd cc }

pub shares-one : (share : Share) → IsShare info share → AreShares (info ∷ []) (share ∷ [])
shares-one share is = record { same_length = refl; each = each }
  where
    each : (site : ℕ) (other : SiteInfo) (one : Share) → slice_get (info ∷ []) site ≡ Some other → slice_get (share ∷ []) site ≡ Some one → IsShare other one
    each zero other one found has =
        let same : info ≡ other = cc in
        let also : share ≡ one = cc in
        subst (λ (i : SiteInfo). IsShare i one) same (subst (λ (s : Share). IsShare info s) also is)
    each (suc site) other one found has = absurd cc

pub shares-more : (share : Share) → AreShares [] (share ∷ []) → ⊥
shares-more share are = absurd (let same = are.same_length in cc)
