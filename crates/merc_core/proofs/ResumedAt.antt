-- A parent goes on behind its fork.
use Rattle.std.proofs.Common.{◌≡◌, ℕ, suc, ◌+◌, ◌≤◌, ◌<◌, Bool, true, false, List, [], ◌∷◌, Some, None, refl, ap, sym, ◌∙◌, subst, arith, length}
use Rattle.std.proofs.lemmas.Bool.Decides.{nat_tests}
use Rattle.std.proofs.lemmas.Option.{slice_get_past}
use Rattle.std.specs.Prelude.{Option, Ok, Err, slice_get, if◌then◌else◌, nat_le}
use Rattle.merc_script.specs.declared.outcome.Outcome.{Outcome}
use Rattle.merc_script.specs.declared.outcome.Outcome.TheVariants.{Ok as Fine, Raise, Limit, Starved, NoMemory}
use Rattle.merc_script.specs.declared.items.Item.{Item}
use Rattle.merc_script.specs.Script.{Ends, Children, NoChild, Child, Cell as ScriptCell, Move}
use Rattle.merc_script.specs.Joining.{joined, walk, lacks_memory, HasFewSteps}
use Rattle.merc_core.specs.declared.branch.Branch.{Branch as CoreBranch}
use Rattle.merc_core.specs.declared.join.Join.{Join as CoreJoin}
use Rattle.merc_core.specs.declared.worker.Worker.{Worker}
use Rattle.merc_core.specs.declared.event.Event.TheVariants.{Resume}
use Rattle.merc_core.specs.declared.event.NotNow.TheVariants.{NoWorker, NotHolding}
use Rattle.merc_core.specs.World.{Branch, Location, Runs, Join, Stored, World, stored_at, gathered, outcomes_of}
use Rattle.merc_core.specs.Events.{in_hand, if_held, if_holds, resume_on, run_on, go_behind, happens}
use Rattle.merc_core.specs.WellFormed.{most_steps}
use Rattle.merc_core.specs.Outcomes.{with_first, all_stored, joined_if, joined_at}
use Rattle.merc_core.specs.Queues.{behind_with}
use Rattle.merc_core.specs.Mirror.{Hand, queue, held_of, hand_of, in_hand_at, stored_for, IsJoin, ShowsJoin, Parts, Shows, IsEarly, Mirrors, AreFit, made}
use Rattle.merc_core.proofs.Pool.{takes-one}
use Rattle.merc_core.proofs.Steps.{put_back}
use Rattle.merc_core.proofs.Acting.{with_worker, Acting, acting, knows, back-in-hand}
use Rattle.merc_core.proofs.PoolShows.{gone-none}

-- the steps of a join are few where the limit is

few-raise : (b : Bool) (text n limit : ℕ) → nat_le n limit ≡ b → limit ≤ most_steps → HasFewSteps (if b then Raise text n else Limit)
few-raise true text n limit is few = let e : n ≤ limit = grind (arith, nat_tests) in omega (arith, e, few)
few-raise false text n limit is few = tt

few-walk-if : (b : Bool) (n limit : ℕ) (os : List Outcome) → nat_le n limit ≡ b → (n ≤ limit → HasFewSteps (walk limit n os)) → HasFewSteps (if b then walk limit n os else Limit)
few-walk-if true n limit os is rest = rest (let e : n ≤ limit = grind (arith, nat_tests) in e)
few-walk-if false n limit os is rest = tt

few-walk : (limit sum : ℕ) (os : List Outcome) → limit ≤ most_steps → sum ≤ limit → HasFewSteps (walk limit sum os)
few-walk limit sum [] few at = omega (arith, few, at)
few-walk limit sum (Fine n ∷ os) few at = few-walk-if (nat_le (sum + n) limit) (sum + n) limit os refl (λ less. few-walk limit (sum + n) os few less)
few-walk limit sum (Raise text n ∷ os) few at = few-raise (nat_le (sum + n) limit) text (sum + n) limit refl few
few-walk limit sum (Limit ∷ os) few at = tt
few-walk limit sum (Starved ∷ os) few at = tt
few-walk limit sum (NoMemory ∷ os) few at = tt

few-either : (b : Bool) (o : Outcome) → HasFewSteps o → HasFewSteps (if b then NoMemory else o)
few-either true o few = tt
few-either false o few = few

few-joined : (limit : ℕ) (os : List Outcome) → limit ≤ most_steps → HasFewSteps (joined limit os)
few-joined limit os few = few-either (lacks_memory os) (walk limit 0 os) (few-walk limit 0 os few (omega arith))

-- what is stored for all children

gathered-is : (stored : List Stored) (number child : ℕ) (all : Children) → gathered stored number child all ≡ all_stored (stored_for stored number child all)
gathered-is stored number child NoChild = refl
gathered-is stored number child (Child first more) = ap (with_first (stored_at number child stored)) (gathered-is stored number (suc child) more)

joined-some : (limit : ℕ) (all : Option (List Outcome)) (o : Outcome) → Some o ≡ joined_if limit all → (os : List Outcome) × (all ≡ Some os) × (o ≡ joined limit os)
joined-some limit None o is = absurd (cc)
joined-some limit (Some os) o is = (os, refl, cc)

joined-none : (limit : ℕ) (all : Option (List Outcome)) → None ≡ joined_if limit all → all ≡ None
joined-none limit None is = refl
joined-none limit (Some os) is = absurd (cc)

module _ (items : List Item) (parts : Parts) (w : World) (mirrors : Mirrors items parts w) (fit : AreFit items w) (v : ℕ) (k : Worker) (stands : slice_get parts.workers v ≡ Some k) where
  pub resume-empty : k.hand ≡ [] → happens w (Resume v) ≡ Err NotHolding
  resume-empty none =
      ap (λ t. if t then if_held w v (in_hand v w.pool) else Err NoWorker) (knows items parts w mirrors v k stands)
      ∙ ap (if_held w v) (gone-none items (queue parts) (λ u. held_of (slice_get parts.workers u)) w.pool mirrors.pool (Hand v) (ap (λ o. hand_of o) stands ∙ none))

  at-hand : (o : Option ℕ) (c : CoreBranch) (a : Acting items parts w mirrors v k stands o c) → happens w (Resume v) ≡ if_holds w v (in_hand_at v o) a.gone.x.branch a.gone.others
  at-hand o c a =
      ap (λ t. if t then if_held w v (in_hand v w.pool) else Err NoWorker) (knows items parts w mirrors v k stands)
      ∙ ap (if_held w v) a.gone.is ∙ ap (λ l. if_holds w v l a.gone.x.branch a.gone.others) a.location

  pub resume-free : (l : List CoreBranch) → k.hand ≡ l → 0 < length l → k.held ≡ None → happens w (Resume v) ≡ Err NotHolding
  resume-free [] is some free = absurd (omega arith)
  resume-free (c ∷ more) is some free = let a = acting items parts w mirrors v k stands None c more free is fit in at-hand None c a

  shows-none : (number : ℕ) (one : Option CoreJoin) (join : Option Join) → ShowsJoin w.stored number one join → one ≡ None → join ≡ None
  shows-none number None None shows is = refl
  shows-none number None (Some join) shows is = absurd shows
  shows-none number (Some one) join shows is = absurd (cc)

  shows-some : (number : ℕ) (one : Option CoreJoin) (join : Option Join) (j : CoreJoin) → ShowsJoin w.stored number one join → one ≡ Some j → (spec : Join) × (join ≡ Some spec) × IsJoin w.stored number j spec
  shows-some number None join j shows is = absurd (cc)
  shows-some number (Some one) None j shows is = absurd shows
  shows-some number (Some one) (Some join) j shows is = (join, refl, (let same : one ≡ j = cc in subst (λ (x : CoreJoin). IsJoin w.stored number x join) same shows))

  pub resume-past : (l : List CoreBranch) → k.hand ≡ l → 0 < length l → (number : ℕ) → k.held ≡ Some number → length parts.joins ≤ number → happens w (Resume v) ≡ Err NotHolding
  resume-past [] is some number holds beyond = absurd (omega arith)
  resume-past (c ∷ more) is some number holds beyond =
      let a = acting items parts w mirrors v k stands (Some number) c more holds is fit in
      let none : slice_get w.joins number ≡ None = shows-none number _ _ (mirrors.joins number) (slice_get_past parts.joins number beyond) in
      at-hand (Some number) c a ∙ ap (λ o. resume_on w v a.gone.x.branch a.gone.others o (outcomes_of w.stored number o)) none

  pub resume-waits : (l : List CoreBranch) → k.hand ≡ l → 0 < length l → (number : ℕ) → k.held ≡ Some number → (j : CoreJoin) → slice_get parts.joins number ≡ Some j → None ≡ joined_at j → happens w (Resume v) ≡ Err NotHolding
  resume-waits [] is some number holds j at none = absurd (omega arith)
  resume-waits (c ∷ more) is some number holds j at none =
      let a = acting items parts w mirrors v k stands (Some number) c more holds is fit in
      let s = shows-some number _ _ j (mirrors.joins number) at in
      let lacking : gathered w.stored number 1 s.0.children ≡ None = gathered-is w.stored number 1 s.0.children ∙ ap all_stored (sym s.2.outcomes) ∙ joined-none j.limit (all_stored j.outcomes) none in
      at-hand (Some number) c a ∙ ap (λ o. resume_on w v a.gone.x.branch a.gone.others o (outcomes_of w.stored number o)) s.1
      ∙ ap (λ o. resume_on w v a.gone.x.branch a.gone.others (Some s.0) o) lacking

  -- the parent that a worker holds
  pub record Resumes (number : ℕ) (j : CoreJoin) (o : Outcome) : Type 0 where
    pub c : CoreBranch
    pub only : k.hand ≡ c ∷ []
    pub acts : Acting items parts w mirrors v k stands (Some number) c
    pub early : c.steps ≤ most_steps
    pub few : HasFewSteps o
    pub is : happens w (Resume v) ≡ run_on w v (go_behind o acts.gone.x.branch) acts.gone.others

  pub resumes : (l : List CoreBranch) → k.hand ≡ l → 0 < length l → (number : ℕ) → k.held ≡ Some number → (j : CoreJoin) → slice_get parts.joins number ≡ Some j → (o : Outcome) → Some o ≡ joined_at j → Resumes number j o
  resumes [] is some number holds j at o given = absurd (omega arith)
  resumes (c ∷ more) is some number holds j at o given =
      let a = acting items parts w mirrors v k stands (Some number) c more holds is fit in
      let s = shows-some number _ _ j (mirrors.joins number) at in
      let all = joined-some j.limit (all_stored j.outcomes) o given in
      let there : gathered w.stored number 1 s.0.children ≡ Some all.0 = gathered-is w.stored number 1 s.0.children ∙ ap all_stored (sym s.2.outcomes) ∙ all.1 in
      let limits : joined s.0.limit all.0 ≡ o = ap (λ n. joined n all.0) (sym s.2.limit) ∙ sym all.2 in
      let early : a.gone.x.branch.steps ≤ most_steps = subst (λ (l : Location). IsEarly l a.gone.x.branch.steps) a.location (takes-one (λ one. IsEarly one.location one.branch.steps) a.gone.takes mirrors.pool.early) in
      record {
        c = c;
        only = a.only;
        acts = a;
        early = let e = a.gone.one.steps in omega (arith, e, early);
        few = subst HasFewSteps limits (few-joined s.0.limit all.0 s.2.small);
        is = at-hand (Some number) c a ∙ ap (λ o. resume_on w v a.gone.x.branch a.gone.others o (outcomes_of w.stored number o)) s.1
            ∙ ap (λ o. resume_on w v a.gone.x.branch a.gone.others (Some s.0) o) there ∙ ap (λ o. run_on w v (go_behind o a.gone.x.branch) a.gone.others) limits;
      }

  shows-behind : (o : Outcome) (c : CoreBranch) (b : Branch) → Shows items c b → c.steps ≤ most_steps → HasFewSteps o → Shows items (behind_with o c) (go_behind o b)
  shows-behind (Fine n) c b one early few = record {
    join = one.join;
    child = one.child;
    at = one.at;
    steps = (let e = one.steps in omega (arith, e));
    signals = one.signals;
    left = one.left;
    within = one.within;
    few = omega (arith, early, few);
  }
  shows-behind (Raise text n) c b one early few = record {
    join = one.join;
    child = one.child;
    at = one.at;
    steps = one.steps;
    signals = one.signals;
    left = ap (λ m. Ends (Raise text (m + n))) (sym one.steps);
    within = one.within;
    few = one.few;
  }
  shows-behind Limit c b one early few = record { join = one.join; child = one.child; at = one.at; steps = one.steps; signals = one.signals; left = refl; within = one.within; few = one.few }
  shows-behind Starved c b one early few = record { join = one.join; child = one.child; at = one.at; steps = one.steps; signals = one.signals; left = refl; within = one.within; few = one.few }
  shows-behind NoMemory c b one early few = record { join = one.join; child = one.child; at = one.at; steps = one.steps; signals = one.signals; left = refl; within = one.within; few = one.few }

  makes-less : (each : ℕ → List ScriptCell → List Move → ℕ) (o : Outcome) (b : Branch) → made each (go_behind o b).rest ≤ made each b.rest
  makes-less each (Fine n) b = omega arith
  makes-less each (Raise text n) b = omega arith
  makes-less each Limit b = omega arith
  makes-less each Starved b = omega arith
  makes-less each NoMemory b = omega arith

  pub resume-done : (number : ℕ) (j : CoreJoin) (o : Outcome) (r : Resumes number j o) (k' : Worker) → ((b : CoreBranch) → k.hand ≡ b ∷ [] → k'.hand ≡ behind_with o b ∷ []) → k'.held ≡ None → k'.list ≡ k.list
      → (after : World) × (happens w (Resume v) ≡ Ok after) × Mirrors items (with_worker parts v k') after
  resume-done number j o r k' hand free list = (
    put_back w (Runs v) (go_behind o r.acts.gone.x.branch) r.acts.gone.others,
    r.is,
    back-in-hand items parts w mirrors v k stands (Some number) None r.c (behind_with o r.c) r.acts k' (go_behind o r.acts.gone.x.branch) (hand r.c r.only) list free
        (shows-behind o r.c r.acts.gone.x.branch r.acts.gone.one r.early r.few) (λ each. makes-less each o r.acts.gone.x.branch),
  )
