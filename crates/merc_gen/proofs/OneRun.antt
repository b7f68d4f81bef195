-- A state yields one run, since a state has one step.
use Rattle.std.proofs.Common.{◌≡◌, refl, List, [], sym, ap, ◌∙◌, subst}
use Rattle.merc_meaning.specs.Trace.{Env, RunEnd, RunDone}
use Rattle.merc_course.specs.Course.{RunCourse as Run, Ends, Tick, Answer, Meets, Meeting, Reply, Courses, more_courses}
use mathlib.Core.Path.{fun_ext}
use Rattle.merc_code.specs.Steps.{Codes, State, Step, Stops, Moves, Ticks, Answers, Asks, Stuck}
use Rattle.merc_code.specs.Meaning.{Yields, YieldAll, stops, moves, ticks, answers, asks, yield_none, yield_more}

state-of : Step → State → State
state-of (Stops e) s = s
state-of (Moves s') s = s'
state-of (Ticks s') s = s'
state-of (Answers values s') s = s'
state-of (Asks what ks f) s = s
state-of Stuck s = s

end-of : Step → RunEnd
end-of (Stops e) = e
end-of (Moves s') = RunDone
end-of (Ticks s') = RunDone
end-of (Answers values s') = RunDone
end-of (Asks what ks f) = RunDone
end-of Stuck = RunDone

values-of : Step → Env
values-of (Stops e) = []
values-of (Moves s') = []
values-of (Ticks s') = []
values-of (Answers values s') = values
values-of (Asks what ks f) = []
values-of Stuck = []

what-of : Step → Meeting → Meeting
what-of (Stops e) w = w
what-of (Moves s') w = w
what-of (Ticks s') w = w
what-of (Answers values s') w = w
what-of (Asks what ks f) w = what
what-of Stuck w = w

forked-of : Step → List State
forked-of (Stops e) = []
forked-of (Moves s') = []
forked-of (Ticks s') = []
forked-of (Answers values s') = []
forked-of (Asks what ks f) = ks
forked-of Stuck = []

next-of : Step → (Reply → State) → Reply → State
next-of (Stops e) g = g
next-of (Moves s') g = g
next-of (Ticks s') g = g
next-of (Answers values s') g = g
next-of (Asks what ks f) g = f
next-of Stuck g = g

mutual
  unfolding state-of end-of values-of what-of forked-of next-of

  pub one-run : (codes : Codes) (s : State) (t u : Run) → Yields codes s t → Yields codes s u → t ≡ u
  one-run codes s t u (stops s0 e q) (stops s1 e1 q1) = ap (λ x. Ends (end-of x)) (sym q ∙ q1)
  one-run codes s t u (stops s0 e q) (moves s1 s2 u' q1 y1) = absurd cc
  one-run codes s t u (stops s0 e q) (ticks s1 s2 u' q1 y1) = absurd cc
  one-run codes s t u (stops s0 e q) (answers s1 s2 vs u' q1 y1) = absurd cc
  one-run codes s t u (moves s0 s' t' q y) (stops s1 e1 q1) = absurd cc
  one-run codes s t u (moves s0 s' t' q y) (moves s1 s2 u' q1 y1) =
      one-run codes s' t' u' y (subst (λ x. Yields codes x u') (ap (λ x. state-of x s') (sym q1 ∙ q)) y1)
  one-run codes s t u (moves s0 s' t' q y) (ticks s1 s2 u' q1 y1) = absurd cc
  one-run codes s t u (moves s0 s' t' q y) (answers s1 s2 vs u' q1 y1) = absurd cc
  one-run codes s t u (ticks s0 s' t' q y) (stops s1 e1 q1) = absurd cc
  one-run codes s t u (ticks s0 s' t' q y) (moves s1 s2 u' q1 y1) = absurd cc
  one-run codes s t u (ticks s0 s' t' q y) (ticks s1 s2 u' q1 y1) =
      ap Tick (one-run codes s' t' u' y (subst (λ x. Yields codes x u') (ap (λ x. state-of x s') (sym q1 ∙ q)) y1))
  one-run codes s t u (ticks s0 s' t' q y) (answers s1 s2 vs u' q1 y1) = absurd cc
  one-run codes s t u (answers s0 s' vs t' q y) (stops s1 e1 q1) = absurd cc
  one-run codes s t u (answers s0 s' vs t' q y) (moves s1 s2 u' q1 y1) = absurd cc
  one-run codes s t u (answers s0 s' vs t' q y) (ticks s1 s2 u' q1 y1) = absurd cc
  one-run codes s t u (answers s0 s' vs t' q y) (answers s1 s2 vs1 u' q1 y1) =
      ap (λ x. Answer (values-of x) t') (sym q ∙ q1)
      ∙ ap (λ x. Answer vs1 x) (one-run codes s' t' u' y (subst (λ x. Yields codes x u') (ap (λ x. state-of x s') (sym q1 ∙ q)) y1))
  one-run codes s t u (stops s0 e q) (asks s1 w ks f us v q1 ys z) = absurd cc
  one-run codes s t u (moves s0 s' t' q y) (asks s1 w ks f us v q1 ys z) = absurd cc
  one-run codes s t u (ticks s0 s' t' q y) (asks s1 w ks f us v q1 ys z) = absurd cc
  one-run codes s t u (answers s0 s' vs t' q y) (asks s1 w ks f us v q1 ys z) = absurd cc
  one-run codes s t u (asks s0 w ks f us v q ys z) (stops s1 e1 q1) = absurd cc
  one-run codes s t u (asks s0 w ks f us v q ys z) (moves s1 s2 u' q1 y1) = absurd cc
  one-run codes s t u (asks s0 w ks f us v q ys z) (ticks s1 s2 u' q1 y1) = absurd cc
  one-run codes s t u (asks s0 w ks f us v q ys z) (answers s1 s2 vs1 u' q1 y1) = absurd cc
  one-run codes s t u (asks s0 w ks f us v q ys z) (asks s1 w1 ks1 f1 us1 v1 q1 ys1 z1) =
      ap (λ x. Meets (what-of x w) us v) (sym q ∙ q1)
      ∙ (ap (λ x. Meets w1 x v) (all-runs-one codes ks us us1 ys (subst (λ x. YieldAll codes x us1) (ap forked-of (sym q1 ∙ q)) ys1))
      ∙ ap (λ x. Meets w1 us1 x) (fun_ext (λ (r : Reply). one-run codes (f r) (v r) (v1 r) (z r) (subst (λ x. Yields codes x (v1 r)) (ap (λ x. next-of x f r) (sym q1 ∙ q)) (z1 r)))))

  pub all-runs-one : (codes : Codes) (ss : List State) (ts us : Courses RunEnd) → YieldAll codes ss ts → YieldAll codes ss us → ts ≡ us
  all-runs-one codes ss ts us yield_none yield_none = refl
  all-runs-one codes ss ts us (yield_more s ss' t ts' y ys) (yield_more s1 ss1 u us1 y1 ys1) =
      ap (λ x. more_courses x ts') (one-run codes s t u y y1) ∙ ap (λ x. more_courses u x) (all-runs-one codes ss' ts' us1 ys ys1)
