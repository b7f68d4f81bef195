-- Worked examples of last calls.
use Rattle.std.specs.Prelude.{◌≡◌, ℕ, zero, pos, true, false, List, [], ◌∷◌, None, slice_get, refl}
use Rattle.std.proofs.Common.{arith}
use Rattle.merc_tree.specs.declared.declarations.Arg.{Arg}
use Rattle.merc_tree.specs.declared.declarations.Arg.TheVariants.{Input, Output}
use Rattle.merc_meaning.specs.Trace.{RunDone, LimitPassed}
use Rattle.merc_course.specs.Course.{Reply, AtWait, AtFork, Ends, Tick, Answer as AnswerOf, Meets, no_courses, more_courses, left_after}
use Rattle.merc_course.specs.Courses.{given_by}
use Rattle.merc_code.specs.declared.instruction.Instruction.TheVariants.{Integer, Copy, Jump, Commit, Call, Return, Fail, Answer, Fork, Wait, Close}
use Rattle.merc_code.specs.Steps.{Code, Codes, Caller, caller, Dead, GoesOn, State, At, Back, Stops, Moves, Ticks, Asks, step}
use Rattle.merc_code.specs.StepsExamples.{int, procedure, site}
use Rattle.merc_code.specs.Meaning.{Goes, stays as stays_too, moves as moves_too, ticks as ticks_too, start}
use Rattle.merc_last_calls.specs.LastCalls.{comes_to_return, outputs, own_outputs, arguments_with, are_same, is_last, handed_to, with_call, step_lean}
use Rattle.merc_last_calls.specs.LeanMeaning.{YieldsLean, stops, moves, ticks, answers, asks, yield_none, yield_more, GoesLean, stays}
use Rattle.merc_last_calls.specs.Standing.{Stands, bottom, kept, handed, ChoicesStand, none as no_choices, dead, goes_on, Matches, at, back, Ahead, moves as moves_ahead, asks as asks_ahead, behind, Follows, FollowsAnswer, FollowsAsk, FollowsStop}

comes_to_return-jumps : comes_to_return 0 (Jump 1 ∷ Fail ∷ Jump 0 ∷ Return ∷ []) ≡ true
comes_to_return-jumps = refl

comes_to_return-behind : comes_to_return 1 (Fail ∷ Return ∷ []) ≡ true
comes_to_return-behind = refl

comes_to_return-commit : comes_to_return 0 (Commit 0 ∷ Return ∷ []) ≡ false
comes_to_return-commit = refl

comes_to_return-nowhere : comes_to_return 0 (Jump 2 ∷ Return ∷ []) ≡ false
comes_to_return-nowhere = refl

-- `p(in, out, out)` calls `q(out, in, out)`; its own outputs are the variables 1 and 2

abbrev p_places : List Arg
p_places = Input ∷ Output ∷ Output ∷ []

abbrev q_places : List Arg
q_places = Output ∷ Input ∷ Output ∷ []

outputs-example : outputs q_places (1 ∷ 5 ∷ 2 ∷ []) ≡ 1 ∷ 2 ∷ []
outputs-example = refl

own_outputs-example : own_outputs 0 p_places ≡ 1 ∷ 2 ∷ []
own_outputs-example = refl

arguments_with-example : arguments_with (8 ∷ 9 ∷ []) q_places ≡ 8 ∷ 0 ∷ 9 ∷ []
arguments_with-example = refl

are_same-example : are_same (1 ∷ 2 ∷ []) (1 ∷ 2 ∷ []) ≡ true
are_same-example = refl

are_same-shorter : are_same (1 ∷ []) (1 ∷ 2 ∷ []) ≡ false
are_same-shorter = refl

abbrev returning : Code
returning = Jump 1 ∷ Fail ∷ Return ∷ []

is_last-example : is_last returning (outputs q_places (1 ∷ 5 ∷ 2 ∷ [])) p_places ≡ true
is_last-example = refl

-- not where the outputs are taken the other way round, or one is no output of `p`, or something is left to do

is_last-exchanged : is_last returning (outputs q_places (2 ∷ 5 ∷ 1 ∷ [])) p_places ≡ false
is_last-exchanged = refl

is_last-other : is_last returning (outputs q_places (1 ∷ 5 ∷ 3 ∷ [])) p_places ≡ false
is_last-other = refl

is_last-copied : is_last (Copy 1 0 ∷ Return ∷ []) (outputs q_places (1 ∷ 5 ∷ 2 ∷ [])) p_places ≡ false
is_last-copied = refl

-- `p` was called with the arguments 7, 8 and 9

abbrev outer : Caller
outer = caller (Answer (8 ∷ []) ∷ []) (int 3 ∷ []) (4 ∷ []) p_places (7 ∷ 8 ∷ 9 ∷ [])

handed_to-example : handed_to q_places outer ≡ caller (Answer (8 ∷ []) ∷ []) (int 3 ∷ []) (4 ∷ []) q_places (8 ∷ 0 ∷ 9 ∷ [])
handed_to-example = refl

with_call-last : with_call returning (int 5 ∷ []) [] q_places (1 ∷ 5 ∷ 2 ∷ []) (outer ∷ []) ≡ caller (Answer (8 ∷ []) ∷ []) (int 3 ∷ []) (4 ∷ []) q_places (8 ∷ 0 ∷ 9 ∷ []) ∷ []
with_call-last = refl

with_call-not_last : with_call (Commit 0 ∷ Return ∷ []) (int 5 ∷ []) [] q_places (1 ∷ 5 ∷ 2 ∷ []) (outer ∷ []) ≡ caller (Commit 0 ∷ Return ∷ []) (int 5 ∷ []) [] q_places (1 ∷ 5 ∷ 2 ∷ []) ∷ outer ∷ []
with_call-not_last = refl

with_call-no_caller : with_call returning [] [] [] [] [] ≡ caller returning [] [] [] [] ∷ []
with_call-no_caller = refl

-- The first procedure calls the second, as its last call; the second gives 7.

abbrev one_output : List Arg
one_output = Output ∷ []

abbrev calling : Codes
calling = record {
  procedures = λ called. slice_get
      (record { places = one_output; code = Call (procedure 1) (0 ∷ []) ∷ Return ∷ [] } ∷ record { places = one_output; code = Integer 0 (pos 7) ∷ Return ∷ [] } ∷ [])
      called.predicate;
  conjuncts = λ site. record { used = 0 ∷ []; code = Call (procedure 0) (0 ∷ []) ∷ Close ∷ [] } ∷ [];
}

abbrev asking : Code
asking = Call (procedure 0) (0 ∷ []) ∷ Answer (0 ∷ []) ∷ []

abbrev waiting : Caller
waiting = caller (Answer (0 ∷ []) ∷ []) [] [] one_output (0 ∷ [])

abbrev passed_through : Caller
passed_through = caller (Return ∷ []) (None ∷ []) [] one_output (0 ∷ [])

abbrev second_with : List Caller → State
second_with callers = At (Integer 0 (pos 7) ∷ Return ∷ []) (None ∷ []) [] callers [] 0

-- a last call makes a step, if one is left; one of a procedure that is not there fails
step_lean-call : step_lean calling (At (Call (procedure 1) (0 ∷ []) ∷ Return ∷ []) (None ∷ []) [] (waiting ∷ []) [] 1) ≡ Ticks (second_with (waiting ∷ []))
step_lean-call = refl

step_lean-limit : step_lean calling (At (Call (procedure 1) (0 ∷ []) ∷ Return ∷ []) (None ∷ []) [] (waiting ∷ []) [] 0) ≡ Stops LimitPassed
step_lean-limit = refl

step_lean-unknown : step_lean calling (At (Call (procedure 2) (0 ∷ []) ∷ Return ∷ []) (None ∷ []) [] (waiting ∷ []) (Dead ∷ []) 1) ≡ Moves (Back (Dead ∷ []) 1)
step_lean-unknown = refl

lean_run : YieldsLean calling (start asking 2) (Tick (Tick (AnswerOf (int 7 ∷ []) (Ends RunDone))))
lean_run = ticks _ _ _ refl (ticks _ _ _ refl (moves _ _ _ refl (moves _ _ _ refl (answers _ _ _ _ refl (stops _ _ refl)))))

lean_run-not : YieldsLean calling (start asking 2) (AnswerOf (int 7 ∷ []) (Ends RunDone)) → ⊥
lean_run-not (moves _ next course e later) = absurd cc
lean_run-not (answers _ next values course e later) = absurd cc

-- a conjunct that is forked makes its last call so too
lean_fork : YieldsLean calling (start (Fork (site 4) ∷ Answer [] ∷ []) 1)
    (Meets (AtFork 4) (more_courses (Tick (Ends LimitPassed)) no_courses) (λ reply. AnswerOf [] (Ends RunDone)))
lean_fork = asks _ _ _ _ _ _ refl (yield_more _ _ _ _ (ticks _ _ _ refl (stops _ _ refl)) yield_none) (λ reply. answers _ _ _ _ refl (stops _ _ refl))

one_frame : GoesLean calling 2 (start asking 2) (second_with (waiting ∷ []))
one_frame = ticks _ _ _ _ refl (ticks _ _ _ _ refl (stays _))

two_frames : Goes calling 2 (start asking 2) (second_with (passed_through ∷ waiting ∷ []))
two_frames = ticks_too _ _ _ _ refl (ticks_too _ _ _ _ refl (stays_too _))

-- one stands for two

stands-example : Stands (waiting ∷ []) (passed_through ∷ waiting ∷ [])
stands-example = handed _ _ _ _ _ _ _ _ _ _ _ _ refl (kept waiting [] [] bottom)

stands-not : (lean : List Caller) → lean ≡ waiting ∷ [] → Stands lean (caller (Commit 0 ∷ Return ∷ []) (None ∷ []) [] one_output (0 ∷ []) ∷ waiting ∷ []) → ⊥
stands-not lean e (kept _ _ _ s) = absurd cc
stands-not lean e (handed _ _ _ _ _ _ _ _ _ _ _ _ last s) = absurd cc

-- choice points one for one, each with its callers
choices_stand-example : ChoicesStand (Dead ∷ GoesOn (Return ∷ []) [] [] (waiting ∷ []) ∷ []) (Dead ∷ GoesOn (Return ∷ []) [] [] (passed_through ∷ waiting ∷ []) ∷ [])
choices_stand-example = dead _ _ (goes_on _ _ _ _ _ _ _ stands-example no_choices)

matches-example : Matches (second_with (waiting ∷ [])) (second_with (passed_through ∷ waiting ∷ []))
matches-example = at _ _ _ _ _ _ _ _ stands-example no_choices

-- as many steps are left
matches-steps : (lean state : State) → lean ≡ Back [] 1 → state ≡ Back [] 2 → Matches lean state → ⊥
matches-steps lean state is are (at _ _ _ _ _ _ _ _ _ _) = absurd cc
matches-steps lean state is are (back _ _ left _) = let one : ◌≡◌ {A = ℕ} left 1 = cc in let two : ◌≡◌ {A = ℕ} left 2 = cc in absurd (omega arith)

-- one return where code without last calls makes two
abbrev returned : List Caller → State
returned callers = At (Return ∷ []) (int 7 ∷ []) [] callers [] 0

abbrev answering : State
answering = At (Answer (0 ∷ []) ∷ []) (int 7 ∷ []) [] [] [] 0

ahead-example : Ahead calling (Moves answering) (returned (passed_through ∷ waiting ∷ []))
ahead-example = behind _ _ _ refl (moves_ahead _ _ _ refl (at _ _ _ _ _ _ _ _ bottom no_choices))

follows-example : Follows calling 2 (second_with (waiting ∷ [])) (start asking 2)
follows-example = record { there = second_with (passed_through ∷ waiting ∷ []); goes = two_frames; matches = matches-example }

follows_answer-example : FollowsAnswer calling (int 7 ∷ []) (Back [] 0) (returned (passed_through ∷ waiting ∷ []))
follows_answer-example = record {
  before = answering;
  there = Back [] 0;
  goes = moves_too _ _ _ _ refl (moves_too _ _ _ _ refl (stays_too _));
  answers = refl;
  matches = back _ _ _ no_choices;
}

-- the same before code that waits
abbrev waiting_behind : Code
waiting_behind = Wait 0 ∷ Answer (0 ∷ []) ∷ []

abbrev waits_behind : Caller
waits_behind = caller waiting_behind [] [] one_output (0 ∷ [])

abbrev given_behind : Reply → State
given_behind reply = At (Answer (0 ∷ []) ∷ []) (given_by reply ∷ []) [] [] [] (left_after 0 reply)

follows_ask-example : FollowsAsk calling (AtWait 0) [] given_behind (returned (passed_through ∷ waits_behind ∷ []))
follows_ask-example = record {
  before = At waiting_behind (int 7 ∷ []) [] [] [] 0;
  there = given_behind;
  goes = moves_too _ _ _ _ refl (moves_too _ _ _ _ refl (stays_too _));
  asks = refl;
  matches = λ reply. at _ _ _ _ _ _ _ _ bottom no_choices;
}

ahead_ask-example : Ahead calling (Asks (AtWait 0) [] given_behind) (At waiting_behind (int 7 ∷ []) [] [] [] 0)
ahead_ask-example = asks_ahead _ _ _ _ _ refl (λ reply. at _ _ _ _ _ _ _ _ bottom no_choices)

follows_stop-example : FollowsStop calling RunDone (Back (Dead ∷ []) 0)
follows_stop-example = record { before = Back [] 0; goes = moves_too _ _ _ _ refl (stays_too _); stops = refl }

-- the run does not end otherwise
follows_stop-not : FollowsStop calling LimitPassed (Back [] 0) → ⊥
follows_stop-not follows = by follows.before follows.goes follows.stops
  where
    by : (before : State) → Goes calling zero (Back [] 0) before → step calling before ≡ Stops LimitPassed → ⊥
    by before (stays_too _) e = absurd cc
    by before (moves_too _ _ next _ made later) e = absurd cc
