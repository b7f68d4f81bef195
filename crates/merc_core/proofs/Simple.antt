-- Events after which a branch goes on by itself.
use Rattle.std.proofs.Common.{◌≡◌, ℕ, suc, ◌+◌, ◌-◌, ◌^◌, ◌<◌, List, [], ◌∷◌, Some, None, refl, ap, sym, ◌∙◌, subst, arith, length, length-append}
use Rattle.std.specs.Prelude.{Option, Ok, Err, slice_get, filter}
use Rattle.std.specs.List.{AllByRecursion}
use Rattle.std.proofs.lemmas.List.{length-drop}
use Rattle.merc_script.specs.declared.outcome.Outcome.{Outcome}
use Rattle.merc_script.specs.declared.items.Item.{Item}
use Rattle.merc_script.specs.Script.{Script, Ends, TickThen, WaitThen, SignalThen, ForkThen}
use Rattle.merc_script.specs.Items.{items_of}
use Rattle.merc_core.specs.declared.branch.Branch.{Branch as CoreBranch}
use Rattle.merc_core.specs.declared.worker.Worker.{Worker}
use Rattle.merc_core.specs.declared.course.Next.{Next}
use Rattle.merc_core.specs.declared.course.Next.TheVariants.{Tick as TickNext, Wait as WaitNext, Signal as SignalNext, Fork as ForkNext, End as EndNext}
use Rattle.merc_core.specs.declared.event.Event.TheVariants.{Tick}
use Rattle.merc_core.specs.declared.event.NotNow.TheVariants.{WrongItem}
use Rattle.merc_core.specs.World.{Branch, Runs, Spot, World}
use Rattle.merc_core.specs.Events.{tick_on, past_tick, happens}
use Rattle.merc_core.specs.Standing.{StandsAt, LeftAt, IsLeft, IsNext, IsTick}
use Rattle.merc_core.specs.Mirror.{Hand, queue, hand_of, stands_in, Parts, AllShow, Mirrors, AreFit, made}
use Rattle.merc_core.specs.Stepping.{RunsNext}
use Rattle.merc_core.proofs.StandingLaws.{length-items_of, size-some}
use Rattle.merc_core.proofs.Steps.{put_back}
use Rattle.merc_core.proofs.Acting.{with_worker, Acting, acting, runs-on, back-in-hand}

-- where something stands there are items
pub stands-within : (items : List Item) (place : ℕ) (script : Script) → StandsAt items place script → place < length items
stands-within items place script stands =
    let a = length-drop place items in let b = ap length stands.1 in let c = length-append (items_of script) stands.0 in
    let d = length-items_of script in let e = size-some script in omega arith

-- an early end is no item
pub not-ended : (items : List Item) (place : ℕ) (ended : Option Outcome) (left : Script) → LeftAt items place ended left → ((o : Outcome) → left ≡ Ends o → ⊥) → ended ≡ None
not-ended items place None left at apart = refl
not-ended items place (Some o) left at apart = absurd (apart o at)

-- a branch that is at a place goes on one further
pub left-on : (items : List Item) (place : ℕ) (ended : Option Outcome) (left : Script) → ended ≡ None → StandsAt items (suc place) left → LeftAt items (place + 1) ended left
left-on items place ended left none stands =
    subst (λ (o : Option Outcome). LeftAt items (place + 1) o left) (sym none) (let e : suc place ≡ place + 1 = omega arith in subst (λ n. StandsAt items n left) e stands)

module _ (items : List Item) (parts : Parts) (w : World) (mirrors : Mirrors items parts w) (fit : AreFit items w) (v : ℕ) (k : Worker) (stands : slice_get parts.workers v ≡ Some k) where
  tick-goes : (c : CoreBranch) (a : Acting items parts w mirrors v k stands None c) (k' : Worker) → k'.hand ≡ (record c { at = c.at + 1; steps = c.steps + 1 }) ∷ [] → k'.held ≡ None → k'.list ≡ k.list
      → (left : Script) → a.gone.x.branch.rest ≡ left → IsLeft items c left → IsTick c.at items left
      → (after : World) × (happens w (Tick v) ≡ Ok after) × Mirrors items (with_worker parts v k') after
  tick-goes c a k' hand held list (TickThen rest) is left next =
      let b = a.gone.x.branch in (
        put_back w (Runs v) (past_tick b rest) a.gone.others,
        runs-on items parts w mirrors v k stands c a _ ∙ ap (λ s. tick_on w v s b a.gone.others) is,
        back-in-hand items parts w mirrors v k stands None None c (record c { at = c.at + 1; steps = c.steps + 1 }) a k' (past_tick b rest) hand list held
            (record {
              join = a.gone.one.join;
              child = a.gone.one.child;
              at = let e = a.gone.one.at in omega arith;
              steps = let e = a.gone.one.steps in omega arith;
              signals = a.gone.one.signals;
              left = left-on items c.at c.ended rest (not-ended items c.at c.ended (TickThen rest) left (λ o e. cc)) next;
              within = (let e : suc c.at ≡ c.at + 1 = omega arith in subst (λ n. n < length items) e (stands-within items (suc c.at) rest next));
              few = let e = a.gone.one.few in omega arith;
            })
            (λ each. let e = ap (made each) is in omega (arith, e)),
      )
  tick-goes c a k' hand held list (Ends o) is left next = absurd next
  tick-goes c a k' hand held list (WaitThen cell rest) is left next = absurd next
  tick-goes c a k' hand held list (SignalThen cell rest) is left next = absurd next
  tick-goes c a k' hand held list (ForkThen limit cells moves children rest) is left next = absurd next

  pub tick-done : (next : Next) → RunsNext items k next → next ≡ TickNext → (k' : Worker)
      → ((b : CoreBranch) → k.hand ≡ b ∷ [] → k'.hand ≡ (record b { at = b.at + 1; steps = b.steps + 1 }) ∷ []) → k'.held ≡ k.held → k'.list ≡ k.list
      → (after : World) × (happens w (Tick v) ≡ Ok after) × Mirrors items (with_worker parts v k') after
  tick-done next runs is k' hand held list =
      let a = acting items parts w mirrors v k stands None runs.branch runs.more runs.free runs.hand fit in
      let comes : IsTick runs.branch.at items a.gone.x.branch.rest = subst (λ (n : Next). IsNext items runs.branch.at n a.gone.x.branch.rest) is (runs.comes a.gone.x.branch.rest a.gone.one.left) in
      tick-goes runs.branch a k' (hand runs.branch a.only) (held ∙ runs.free) list a.gone.x.branch.rest refl a.gone.one.left comes

  no-tick : (place : ℕ) (next : Next) (left : Script) (b : Branch) (others : List Spot) → (next ≡ TickNext → ⊥) → IsNext items place next left → tick_on w v left b others ≡ Err WrongItem
  no-tick place next (Ends o) b others apart at = refl
  no-tick place next (WaitThen cell rest) b others apart at = refl
  no-tick place next (SignalThen cell rest) b others apart at = refl
  no-tick place next (ForkThen limit cells moves children rest) b others apart at = refl
  no-tick place TickNext (TickThen rest) b others apart at = absurd (apart refl)
  no-tick place (WaitNext cell) (TickThen rest) b others apart at = absurd at
  no-tick place (SignalNext cell) (TickThen rest) b others apart at = absurd at
  no-tick place (ForkNext fork) (TickThen rest) b others apart at = absurd at
  no-tick place (EndNext o) (TickThen rest) b others apart at = absurd at

  pub tick-refused : (next : Next) → RunsNext items k next → (next ≡ TickNext → ⊥) → happens w (Tick v) ≡ Err WrongItem
  tick-refused next runs apart =
      let a = acting items parts w mirrors v k stands None runs.branch runs.more runs.free runs.hand fit in
      runs-on items parts w mirrors v k stands runs.branch a _
      ∙ no-tick runs.branch.at next a.gone.x.branch.rest a.gone.x.branch a.gone.others apart (runs.comes a.gone.x.branch.rest a.gone.one.left)

  -- what a hand shows lies within the items
  pub hand-within : AllByRecursion (λ (b : CoreBranch). b.at < length items) k.hand
  hand-within = subst (AllByRecursion (λ (b : CoreBranch). b.at < length items)) (ap (λ o. hand_of o) stands) (within (queue parts (Hand v)) (filter (stands_in (Hand v)) w.pool) (mirrors.pool.each (Hand v)))
    where
      within : (cs : List CoreBranch) (xs : List Spot) → AllShow items cs xs → AllByRecursion (λ (b : CoreBranch). b.at < length items) cs
      within [] xs all = tt
      within (c ∷ cs) (x ∷ xs) all = (all.0.within, within cs xs all.1)
      within (c ∷ cs) [] all = absurd all

  -- and a branch that runs has not made too many steps for one more
  pub hand-room : (next : Next) → RunsNext items k next → length items < 2 ^ 63 → (b : CoreBranch) × (k.hand ≡ b ∷ []) × (b.at < 2 ^ 63) × (b.steps < 2 ^ 64 - 1)
  hand-room next runs small =
      let a = acting items parts w mirrors v k stands None runs.branch runs.more runs.free runs.hand fit in
      (runs.branch, a.only, (let e = a.gone.one.within in omega arith), (let e = a.gone.one.within in let f = a.gone.one.few in omega arith))
