-- A branch is at its end, or is lost.
use Rattle.std.proofs.Common.{◌≡◌, ℕ, List, Some, None, refl, ap, sym, ◌∙◌, subst}
use Rattle.std.specs.Prelude.{Ok, Err, slice_get}
use Rattle.merc_script.specs.declared.outcome.Outcome.{Outcome}
use Rattle.merc_script.specs.declared.outcome.Outcome.TheVariants.{NoMemory}
use Rattle.merc_script.specs.declared.items.Item.{Item}
use Rattle.merc_script.specs.Script.{Script, Ends, TickThen, WaitThen, SignalThen, ForkThen}
use Rattle.merc_script.specs.Joining.{HasFewSteps}
use Rattle.merc_core.specs.declared.worker.Worker.{Worker}
use Rattle.merc_core.specs.declared.course.Next.{Next}
use Rattle.merc_core.specs.declared.course.Next.TheVariants.{Tick as TickNext, Wait as WaitNext, Signal as SignalNext, Fork as ForkNext, End as EndNext}
use Rattle.merc_core.specs.declared.event.Event.TheVariants.{End, Lost}
use Rattle.merc_core.specs.declared.event.NotNow.TheVariants.{NotAtEnd}
use Rattle.merc_core.specs.World.{Branch, Location, Spot, World}
use Rattle.merc_core.specs.Events.{end_on, finished, happens}
use Rattle.merc_core.specs.Standing.{IsNext, IsEnd}
use Rattle.merc_core.specs.Mirror.{Parts, Mirrors, AreFit, IsFit, IsFitAt}
use Rattle.merc_core.specs.Stepping.{RunsNext, Finishes}
use Rattle.merc_core.proofs.Acting.{acting, runs-on}

module _ (items : List Item) (parts : Parts) (w : World) (mirrors : Mirrors items parts w) (fit : AreFit items w) (v : ℕ) (k : Worker) (stands : slice_get parts.workers v ≡ Some k) where
  at-end : (o : Outcome) (rest : Script) → IsEnd o rest → rest ≡ Ends o
  at-end o (Ends other) is = ap Ends (sym is)
  at-end o (TickThen rest) is = absurd is
  at-end o (WaitThen cell rest) is = absurd is
  at-end o (SignalThen cell rest) is = absurd is
  at-end o (ForkThen limit cells moves children rest) is = absurd is

  pub end-few : (next : Next) (o : Outcome) → RunsNext items k next → next ≡ EndNext o → HasFewSteps o
  end-few next o runs is =
      let a = acting items parts w mirrors v k stands None runs.branch runs.more runs.free runs.hand fit in
      let comes : IsEnd o a.gone.x.branch.rest = subst (λ (n : Next). IsNext items runs.branch.at n a.gone.x.branch.rest) is (runs.comes a.gone.x.branch.rest a.gone.one.left) in
      let fits : IsFit a.gone.x.branch.steps a.gone.x.branch.rest = subst (λ (l : Location). IsFitAt l a.gone.x.branch.steps a.gone.x.branch.rest) a.location a.fit in
      subst (λ (s : Script). IsFit a.gone.x.branch.steps s) (at-end o a.gone.x.branch.rest comes) fits

  pub end-done : (next : Next) (o : Outcome) → RunsNext items k next → next ≡ EndNext o → (new : Parts) → Finishes items v o parts new → (after : World) × (happens w (End v) ≡ Ok after) × Mirrors items new after
  end-done next o runs is new finishes =
      let a = acting items parts w mirrors v k stands None runs.branch runs.more runs.free runs.hand fit in
      let comes : IsEnd o a.gone.x.branch.rest = subst (λ (n : Next). IsNext items runs.branch.at n a.gone.x.branch.rest) is (runs.comes a.gone.x.branch.rest a.gone.one.left) in (
        finished w v a.gone.x.branch a.gone.others o,
        runs-on items parts w mirrors v k stands runs.branch a _ ∙ ap (λ s. end_on w v s a.gone.x.branch a.gone.others) (at-end o a.gone.x.branch.rest comes),
        finishes w a.gone.x a.gone.others mirrors fit a.gone.is,
      )

  pub lose-done : (next : Next) → RunsNext items k next → (new : Parts) → Finishes items v NoMemory parts new → (after : World) × (happens w (Lost v) ≡ Ok after) × Mirrors items new after
  lose-done next runs new finishes =
      let a = acting items parts w mirrors v k stands None runs.branch runs.more runs.free runs.hand fit in
      (finished w v a.gone.x.branch a.gone.others NoMemory, runs-on items parts w mirrors v k stands runs.branch a _, finishes w a.gone.x a.gone.others mirrors fit a.gone.is)

  no-end : (place : ℕ) (next : Next) (left : Script) (b : Branch) (others : List Spot) → ((o : Outcome) → next ≡ EndNext o → ⊥) → IsNext items place next left → end_on w v left b others ≡ Err NotAtEnd
  no-end place next (TickThen rest) b others apart at = refl
  no-end place next (WaitThen cell rest) b others apart at = refl
  no-end place next (SignalThen cell rest) b others apart at = refl
  no-end place next (ForkThen limit cells moves children rest) b others apart at = refl
  no-end place (EndNext o) (Ends other) b others apart at = absurd (apart o refl)
  no-end place TickNext (Ends other) b others apart at = absurd at
  no-end place (WaitNext cell) (Ends other) b others apart at = absurd at
  no-end place (SignalNext cell) (Ends other) b others apart at = absurd at
  no-end place (ForkNext fork) (Ends other) b others apart at = absurd at

  pub end-refused : (next : Next) → RunsNext items k next → ((o : Outcome) → next ≡ EndNext o → ⊥) → happens w (End v) ≡ Err NotAtEnd
  end-refused next runs apart =
      let a = acting items parts w mirrors v k stands None runs.branch runs.more runs.free runs.hand fit in
      runs-on items parts w mirrors v k stands runs.branch a _
      ∙ no-end runs.branch.at next a.gone.x.branch.rest a.gone.x.branch a.gone.others apart (runs.comes a.gone.x.branch.rest a.gone.one.left)
