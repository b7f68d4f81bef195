-- Courses with their conjuncts one behind the other: steps and answers in order, and how they end. A is what an answer gives.
use Rattle.std.proofs.Common.{◌≡◌, ℕ, zero, suc, Bool, true, false}
use Rattle.std.specs.Prelude.{⊤}
use Rattle.merc_meaning.specs.Trace.{Env, Trace, Ends as TraceEnds, Tick as TraceTick, Answer as TraceAnswer, Done as TraceDone, Raised as TraceRaised, TooDeep as TraceTooDeep}
use Rattle.merc_script.specs.declared.outcome.Outcome.{Outcome}
use Rattle.merc_script.specs.declared.outcome.Outcome.TheVariants.{Ok as Fine, Raise, Limit, Starved}
use Rattle.merc_plan.specs.Branch.{Halt, Raised, TooDeep, Starving}

pub data Flat (A : Type 0) : Type 0 where
  Done : Flat A
  Halts : (h : Halt) → Flat A
  Tick : (t : Flat A) → Flat A
  Answer : (a : A) (t : Flat A) → Flat A

abbrev pub after : {A : Type 0} → Flat A → Flat A → Flat A
after Done u = u
after (Halts h) u = Halts h
after (Tick t) u = Tick (after t u)
after (Answer a t) u = Answer a (after t u)

abbrev pub each : {A B : Type 0} → (A → Flat B) → Flat A → Flat B
each f Done = Done
each f (Halts h) = Halts h
each f (Tick t) = Tick (each f t)
each f (Answer a t) = after (f a) (each f t)

abbrev pub taken : {A B : Type 0} → (A → B) → Flat A → Flat B
taken f Done = Done
taken f (Halts h) = Halts h
taken f (Tick t) = Tick (taken f t)
taken f (Answer a t) = Answer (f a) (taken f t)

abbrev pub first_alone : {A : Type 0} → Flat A → Flat A
first_alone Done = Done
first_alone (Halts h) = Halts h
first_alone (Tick t) = Tick (first_alone t)
first_alone (Answer a t) = Answer a Done

abbrev pub choose : {A B : Type 0} → (A → Flat B) → Flat B → Flat A → Flat B
choose f u Done = u
choose f u (Halts h) = Halts h
choose f u (Tick t) = Tick (choose f u t)
choose f u (Answer a t) = after (f a) (each f t)

abbrev pub negated : {A B : Type 0} → B → Flat A → Flat B
negated b Done = Answer b Done
negated b (Halts h) = Halts h
negated b (Tick t) = Tick (negated b t)
negated b (Answer a t) = Done

abbrev pub once_if : {A : Type 0} → Bool → Flat A → Flat A
once_if true t = first_alone t
once_if false t = t

-- t's steps, and u in place of its first answer
abbrev pub behind : {A B : Type 0} → Flat A → Flat B → Flat B
behind Done u = Done
behind (Halts h) u = Halts h
behind (Tick t) u = Tick (behind t u)
behind (Answer a t) u = u

-- what the category law says of a det goal's trace: one answer and then the end, or no answer and no Done
abbrev pub Det : {A : Type 0} → Flat A → Type 0
Det Done = ⊥
Det (Halts (Raised v)) = ⊤
Det (Halts TooDeep) = ⊤
Det (Halts Starving) = ⊥
Det (Tick t) = Det t
Det (Answer a t) = t ≡ Done

-- each answer is so
abbrev pub Each : {A : Type 0} → (A → Type 0) → Flat A → Type 0
Each P Done = ⊤
Each P (Halts h) = ⊤
Each P (Tick t) = Each P t
Each P (Answer a t) = P a × Each P t

abbrev pub Answers : {A : Type 0} → Flat A → Type 0
Answers Done = ⊥
Answers (Halts h) = ⊥
Answers (Tick t) = Answers t
Answers (Answer a t) = ⊤

-- it does not end Done before its first answer
abbrev pub NotDone : {A : Type 0} → Flat A → Type 0
NotDone Done = ⊥
NotDone (Halts h) = ⊤
NotDone (Tick t) = NotDone t
NotDone (Answer a t) = ⊤

-- it does not starve
abbrev pub Fed : {A : Type 0} → Flat A → Type 0
Fed Done = ⊤
Fed (Halts (Raised v)) = ⊤
Fed (Halts TooDeep) = ⊤
Fed (Halts Starving) = ⊥
Fed (Tick t) = Fed t
Fed (Answer a t) = Fed t

-- the same steps and the same end, and answers that are alike one by one
abbrev pub Like : {A B : Type 0} → (A → B → Type 0) → Flat A → Flat B → Type 0
Like R Done Done = ⊤
Like R Done (Halts h) = ⊥
Like R Done (Tick u) = ⊥
Like R Done (Answer b u) = ⊥
Like R (Halts g) Done = ⊥
Like R (Halts g) (Halts h) = g ≡ h
Like R (Halts g) (Tick u) = ⊥
Like R (Halts g) (Answer b u) = ⊥
Like R (Tick t) Done = ⊥
Like R (Tick t) (Halts h) = ⊥
Like R (Tick t) (Tick u) = Like R t u
Like R (Tick t) (Answer b u) = ⊥
Like R (Answer a t) Done = ⊥
Like R (Answer a t) (Halts h) = ⊥
Like R (Answer a t) (Tick u) = ⊥
Like R (Answer a t) (Answer b u) = R a b × Like R t u

-- no TooDeep before step l + 1
abbrev pub Enough : {A : Type 0} → ℕ → Flat A → Type 0
Enough l Done = ⊤
Enough l (Halts (Raised v)) = ⊤
Enough l (Halts TooDeep) = ⊥
Enough l (Halts Starving) = ⊤
Enough zero (Tick t) = ⊤
Enough (suc l) (Tick t) = Enough l t
Enough l (Answer a t) = Enough l t

-- a trace in this form
abbrev pub events : Trace → Flat Env
events (TraceEnds TraceDone) = Done
events (TraceEnds (TraceRaised text)) = Halts (Raised text)
events (TraceEnds TraceTooDeep) = Halts TooDeep
events (TraceTick t) = Tick (events t)
events (TraceAnswer env t) = Answer env (events t)

-- the outcome that it shows with l steps left, s made: of a conjunct up to its first answer, and of the root of all behind its answers
abbrev pub seen : {A : Type 0} → Bool → ℕ → ℕ → Flat A → Outcome
seen root l s Done = Fine s
seen root l s (Halts (Raised e)) = Raise e s
seen root l s (Halts TooDeep) = Limit
seen root l s (Halts Starving) = Starved
seen root zero s (Tick t) = Limit
seen root (suc l) s (Tick t) = seen root l (suc s) t
seen true l s (Answer a t) = seen true l s t
seen false l s (Answer a t) = Fine s
