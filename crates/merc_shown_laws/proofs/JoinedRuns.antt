-- What a run shows at a fork is told by the outcome to which the conjuncts' scripts join: the steps of a good end, and then what is behind the fork; an exception
-- behind its steps; or the limit.
use Rattle.std.proofs.Common.{◌≡◌, ℕ, zero, suc, ◌+◌, ◌-◌, false, List, refl, ap, sym, subst, ◌∙◌, arith}
use Rattle.std.specs.Prelude.{⊤}
use Rattle.merc_meaning.specs.Trace.{Run, Ends, Tick as EventTick, RunRaised, LimitPassed}
use Rattle.merc_script.specs.declared.outcome.Outcome.{Outcome}
use Rattle.merc_script.specs.declared.outcome.Outcome.TheVariants.{Ok as Fine, Raise, Limit, Starved, NoMemory}
use Rattle.merc_script.specs.Script.{ends}
use Rattle.merc_script.specs.Joining.{joined}
use Rattle.merc_plan.specs.Branch.{Hold, Fork, BranchCourses, no_branches, more_branches, Raised, TooDeep, Starving}
use Rattle.merc_plan.specs.BranchScript.{scripts}
use Rattle.merc_plan.proofs.Flat.{Flat, Done, Halts, Tick, Answer, Det, Answers, behind, seen}
use Rattle.merc_plan.proofs.Judging.{flat, flats, AllServed, AllSure}
use Rattle.merc_plan.proofs.Joins.{joined_law}
use Rattle.merc_carried.specs.Runs.{behind_steps}
use Rattle.merc_shown_laws.proofs.RunOf.{run_of}

-- conjuncts that go one behind the other, and what is behind them

behind_twice : (t u w : Flat Hold) → behind (behind t u) w ≡ behind t (behind u w)
behind_twice Done u w = refl
behind_twice (Halts halt) u w = refl
behind_twice (Tick t) u w = ap (λ x. Tick x) (behind_twice t u w)
behind_twice (Answer hold t) u w = refl

flats_behind : (kids : BranchCourses) (hold : Hold) (w : Flat Hold) → flats kids w ≡ behind (flats kids (Answer hold Done)) w
flats_behind no_branches hold w = refl
flats_behind (more_branches t more) hold w = ap (λ x. behind (flat t) x) (flats_behind more hold w) ∙ sym (behind_twice (flat t) (flats more (Answer hold Done)) w)

det_behind : (t u : Flat Hold) → Det t → (Answers t → Det u) → Det (behind t u)
det_behind Done u d h = d
det_behind (Halts halt) u d h = d
det_behind (Tick t) u d h = det_behind t u d h
det_behind (Answer hold t) u d h = h tt

det_flats : (Holds : Fork → BranchCourses → Type 0) (kids : BranchCourses) (u : Flat Hold) → AllSure Holds kids → Det u → Det (flats kids u)
det_flats Holds no_branches u su d = d
det_flats Holds (more_branches t more) u su d = det_behind (flat t) (flats more u) su.1.0 (λ a. det_flats Holds more u (su.1.1 a) d)

-- Given are the variables of which answers show the values.
module _ (variables : List ℕ) where
  -- With l steps left, after s that conjuncts made: what the run has where they join to this outcome, and behind them stands this.
  abbrev pub RunsOn : Outcome → ℕ → ℕ → Flat Hold → Run → Type 0
  RunsOn (Fine n) l s w run = (d : ℕ) × ((n ≡ s + d) × (run ≡ behind_steps d (run_of variables (l - d) w)))
  RunsOn (Raise text n) l s w run = (d : ℕ) × ((n ≡ s + d) × (run ≡ behind_steps d (Ends (RunRaised text))))
  RunsOn Limit l s w run = (d : ℕ) × (run ≡ behind_steps d (Ends LimitPassed))
  RunsOn Starved l s w run = ⊤
  RunsOn NoMemory l s w run = ⊤

  one_more : (o : Outcome) (l s : ℕ) (w : Flat Hold) (run : Run) → RunsOn o l (suc s) w run → RunsOn o (suc l) s w (EventTick run)
  one_more (Fine n) l s w run h =
      (suc h.0, (h.1.0 ∙ omega arith, ap (λ r. EventTick r) h.1.1 ∙ ap (λ k. behind_steps (suc h.0) (run_of variables k w)) (omega arith)))
  one_more (Raise text n) l s w run h = (suc h.0, (h.1.0 ∙ omega arith, ap (λ r. EventTick r) h.1.1))
  one_more Limit l s w run h = (suc h.0, ap (λ r. EventTick r) h.1)
  one_more Starved l s w run h = tt
  one_more NoMemory l s w run h = tt

  seen_runs : (u w : Flat Hold) → Det u → (l s : ℕ) → RunsOn (seen false l s u) l s w (run_of variables l (behind u w))
  seen_runs Done w d l s = absurd d
  seen_runs (Halts (Raised text)) w d l s = (0, (omega arith, refl))
  seen_runs (Halts TooDeep) w d l s = (0, refl)
  seen_runs (Halts Starving) w d l s = absurd d
  seen_runs (Tick u) w d zero s = (0, refl)
  seen_runs (Tick u) w d (suc l) s = one_more (seen false l (suc s) u) l s w (run_of variables l (behind u w)) (seen_runs u w d l (suc s))
  seen_runs (Answer hold u) w d l s = (0, (omega arith, ap (λ k. run_of variables k w) (omega arith)))

  -- Holds is what may be asked of each fork; hold is any.
  pub joined_runs : (Holds : Fork → BranchCourses → Type 0) (kids : BranchCourses) (l : ℕ) (g : List ℕ) (hold : Hold) → AllServed g kids → AllSure Holds kids → (w : Flat Hold)
      → RunsOn (joined l (ends (scripts l g kids))) l 0 w (run_of variables l (flats kids w))
  joined_runs Holds kids l g hold sv su w =
      subst (λ o. RunsOn o l 0 w (run_of variables l (flats kids w))) (sym (joined_law Holds kids l g hold sv su))
      (subst (λ f. RunsOn (seen false l 0 (flats kids (Answer hold Done))) l 0 w (run_of variables l f)) (sym (flats_behind kids hold w))
      (seen_runs (flats kids (Answer hold Done)) w (det_flats Holds kids (Answer hold Done) su refl) l 0))
