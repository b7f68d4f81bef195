-- What a run does, as a list: its steps and answers in order, and how it ends.
use Rattle.std.specs.Prelude.{ℕ, suc, zero, List, Option}
use Rattle.merc_value.specs.Value.{Value}

-- The variables of a body by number, each with its value where it has one.
abbrev pub Env : Type 0
Env = List (Option Value)

-- A list of steps and answers with an end. A Tick is one entry into a procedure; an Answer gives the variables' values.
pub data Events (E : Type 0) : Type 0 where
  Ends : (end : E) → Events E
  Tick : (rest : Events E) → Events E
  Answer : (env : Env) (rest : Events E) → Events E

-- how a trace ends: with no further answer, with an exception of this text, or because calls nest deeper than the trace follows them
pub data End : Type 0 where
  Done : End
  Raised : (text : ℕ) → End
  TooDeep : End

abbrev pub Trace : Type 0
Trace = Events End

-- how a run ends: with no further answer, with an exception of this text, or at its step limit
pub data RunEnd : Type 0 where
  RunDone : RunEnd
  RunRaised : (text : ℕ) → RunEnd
  LimitPassed : RunEnd

abbrev pub Run : Type 0
Run = Events RunEnd

-- one answer and no more
abbrev pub one_answer : Env → Trace
one_answer env = Answer env (Ends Done)

-- one trace and, where it ends with no further answer, then another
abbrev pub after : Trace → Trace → Trace
after (Ends Done) next = next
after (Ends (Raised text)) next = Ends (Raised text)
after (Ends TooDeep) next = Ends TooDeep
after (Tick rest) next = Tick (after rest next)
after (Answer env rest) next = Answer env (after rest next)

-- each answer is replaced by the trace that goes on from it, up to the first end that is not Done
abbrev pub each : (Env → Trace) → Trace → Trace
each go_on (Ends end) = Ends end
each go_on (Tick rest) = Tick (each go_on rest)
each go_on (Answer env rest) = after (go_on env) (each go_on rest)

-- each answer is changed in this way
abbrev pub taken_back : (Env → Env) → Trace → Trace
taken_back change (Ends end) = Ends end
taken_back change (Tick rest) = Tick (taken_back change rest)
taken_back change (Answer env rest) = Answer (change env) (taken_back change rest)

-- the trace up to its first answer, which ends it
abbrev pub first_alone : Trace → Trace
first_alone (Ends end) = Ends end
first_alone (Tick rest) = Tick (first_alone rest)
first_alone (Answer env rest) = one_answer env

-- of a condition's trace: with an answer, each is replaced by the trace that goes on from it; with none where it ends Done, its steps and the other trace
abbrev pub choose : (Env → Trace) → Trace → Trace → Trace
choose go_on other (Ends Done) = other
choose go_on other (Ends (Raised text)) = Ends (Raised text)
choose go_on other (Ends TooDeep) = Ends TooDeep
choose go_on other (Tick rest) = Tick (choose go_on other rest)
choose go_on other (Answer env rest) = each go_on (Answer env rest)

-- of a goal's trace: with an answer, the steps before it; with none where it ends Done, its steps and one answer
abbrev pub negated : Env → Trace → Trace
negated env (Ends Done) = one_answer env
negated env (Ends (Raised text)) = Ends (Raised text)
negated env (Ends TooDeep) = Ends TooDeep
negated env (Tick rest) = Tick (negated env rest)
negated env (Answer answer rest) = Ends Done

-- The trace up to its first `limit` steps, ended where one step more would come. At a depth of more calls than `limit` a trace is too deep only
-- behind a step past the limit.
abbrev pub cut : ℕ → Trace → Run
cut limit (Ends Done) = Ends RunDone
cut limit (Ends (Raised text)) = Ends (RunRaised text)
cut limit (Ends TooDeep) = Ends LimitPassed
cut zero (Tick rest) = Ends LimitPassed
cut (suc limit) (Tick rest) = Tick (cut limit rest)
cut limit (Answer env rest) = Answer env (cut limit rest)
