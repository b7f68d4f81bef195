-- The landed combinators of traces, and those of traces in the form of courses.
use Rattle.std.proofs.Common.{◌≡◌, Bool, true, false, refl, ap, ◌∙◌}
use Rattle.merc_meaning.specs.Trace.{Env, Trace, Ends, Tick as TraceTick, Answer as TraceAnswer, Done as TraceDone, Raised as TraceRaised, TooDeep as TraceTooDeep, after as t_after, each as t_each, taken_back as t_taken, first_alone as t_first, choose as t_choose, negated as t_negated}
use Rattle.merc_meaning.specs.Runs.{once_if as t_once}
use Rattle.merc_plan.proofs.Flat.{Tick, Answer, after, each, taken, first_alone, choose, negated, once_if, events}

pub events_after : (t u : Trace) → events (t_after t u) ≡ after (events t) (events u)
events_after (Ends TraceDone) u = refl
events_after (Ends (TraceRaised text)) u = refl
events_after (Ends TraceTooDeep) u = refl
events_after (TraceTick t) u = ap (λ x. Tick x) (events_after t u)
events_after (TraceAnswer env t) u = ap (λ x. Answer env x) (events_after t u)

pub events_each : (f : Env → Trace) (t : Trace) → events (t_each f t) ≡ each (λ env. events (f env)) (events t)
events_each f (Ends TraceDone) = refl
events_each f (Ends (TraceRaised text)) = refl
events_each f (Ends TraceTooDeep) = refl
events_each f (TraceTick t) = ap (λ x. Tick x) (events_each f t)
events_each f (TraceAnswer env t) = events_after (f env) (t_each f t) ∙ ap (λ x. after (events (f env)) x) (events_each f t)

pub events_taken : (f : Env → Env) (t : Trace) → events (t_taken f t) ≡ taken f (events t)
events_taken f (Ends TraceDone) = refl
events_taken f (Ends (TraceRaised text)) = refl
events_taken f (Ends TraceTooDeep) = refl
events_taken f (TraceTick t) = ap (λ x. Tick x) (events_taken f t)
events_taken f (TraceAnswer env t) = ap (λ x. Answer (f env) x) (events_taken f t)

pub events_first : (t : Trace) → events (t_first t) ≡ first_alone (events t)
events_first (Ends TraceDone) = refl
events_first (Ends (TraceRaised text)) = refl
events_first (Ends TraceTooDeep) = refl
events_first (TraceTick t) = ap (λ x. Tick x) (events_first t)
events_first (TraceAnswer env t) = refl

pub events_choose : (f : Env → Trace) (u t : Trace) → events (t_choose f u t) ≡ choose (λ env. events (f env)) (events u) (events t)
events_choose f u (Ends TraceDone) = refl
events_choose f u (Ends (TraceRaised text)) = refl
events_choose f u (Ends TraceTooDeep) = refl
events_choose f u (TraceTick t) = ap (λ x. Tick x) (events_choose f u t)
events_choose f u (TraceAnswer env t) = events_each f (TraceAnswer env t)

pub events_negated : (env : Env) (t : Trace) → events (t_negated env t) ≡ negated env (events t)
events_negated env (Ends TraceDone) = refl
events_negated env (Ends (TraceRaised text)) = refl
events_negated env (Ends TraceTooDeep) = refl
events_negated env (TraceTick t) = ap (λ x. Tick x) (events_negated env t)
events_negated env (TraceAnswer answer t) = refl

pub events_once : (b : Bool) (t : Trace) → events (t_once b t) ≡ once_if b (events t)
events_once true t = events_first t
events_once false t = refl
