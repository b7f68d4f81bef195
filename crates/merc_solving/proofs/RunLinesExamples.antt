-- Worked examples of the lines of a run: what holds, and what does not.
use Rattle.std.specs.Prelude.{◌≡◌, ◌<◌, ℕ, pos, negsuc, true, List, [], ◌∷◌, length, Some, None, codes, refl, false}
use Rattle.std.proofs.Common.{arith, slice_index, ap, sym}
use Rattle.std.specs.Fmt.{digits}
use Rattle.merc_value.specs.Value.{Value, Int}
use Rattle.merc_value.specs.Block.{no_value}
use Rattle.merc_meaning.specs.Trace.{Run, Ends, Tick, Answer, RunDone, RunRaised, LimitPassed}
use Rattle.merc_transfer.specs.Writing.{text_of}
use Rattle.merc_transfer.specs.Statuses.{solved_status, unsolved_status, raised_status, limit_status}
use Rattle.merc_solving.specs.Runs.{answers_of, answers_told, end_of, is_stopped, steps_before, steps_made, steps_of}
use Rattle.merc_solving.specs.Lines.{line, behind_commas, comma_list, joined}
use Rattle.merc_solving.specs.RunLines.{binding, bindings, solution_line, end_line, end_status, run_status, run_lines, last_line, stopped_line}

differ : (m n : ℕ) → m < n → m ≡ n → ⊥
differ m n less same = omega arith

-- ---- lines

pub line-example : line (codes "true") ≡ codes "true\n"
line-example = refl

pub line-counterexample : line (codes "true") ≡ codes "true" → ⊥
line-counterexample same = cc

-- texts of names
abbrev pub names : List (List ℕ)
names = codes "X" ∷ codes "Y" ∷ codes "no row" ∷ []

abbrev x : ℕ
x = 0

abbrev pub y : ℕ
y = 1

abbrev pub no_row : ℕ
no_row = 2

abbrev int : ℕ → Value
int number = Int (pos number)

pub binding-example : binding names x (int 5) ≡ codes "X = 5"
unfolding digits
binding-example = refl

pub binding-negative : binding names y (Int (negsuc 11)) ≡ codes "Y = -12"
unfolding digits
binding-negative = refl

pub binding-counterexample : binding names x (int 5) ≡ codes "X=5" → ⊥
unfolding digits
binding-counterexample same = cc

pub bindings-example : bindings names (y ∷ x ∷ []) (int 4 ∷ int 8 ∷ []) ≡ codes "Y = 4" ∷ codes "X = 8" ∷ []
unfolding digits
bindings-example = refl

-- each variable has its own value
pub bindings-counterexample : bindings names (y ∷ x ∷ []) (int 4 ∷ int 8 ∷ []) ≡ codes "Y = 4" ∷ codes "X = 4" ∷ [] → ⊥
unfolding digits
bindings-counterexample same = differ 52 56 (omega arith) (sym (ap (λ (texts : List (List ℕ)). slice_index (text_of texts) 9) same))

pub behind_commas-example : behind_commas (codes "a" ∷ codes "b" ∷ []) ≡ codes ", a, b"
behind_commas-example = refl

pub behind_commas-counterexample : behind_commas (codes "a" ∷ codes "b" ∷ []) ≡ codes "a, b" → ⊥
behind_commas-counterexample same = cc

pub comma_list-example : comma_list (codes "a" ∷ codes "b" ∷ codes "c" ∷ []) ≡ codes "a, b, c"
comma_list-example = refl

pub comma_list-counterexample : comma_list (codes "a" ∷ codes "b" ∷ []) ≡ codes "a, b, " → ⊥
comma_list-counterexample same = cc

pub joined-example : joined (codes "a" ∷ codes "b" ∷ []) ≡ codes "a, b"
joined-example = refl

pub joined-counterexample : joined [] ≡ codes "true" → ⊥
joined-counterexample same = cc

pub solution_line-example : solution_line names (x ∷ []) (Some (int 5) ∷ []) ≡ codes "X = 5\n"
unfolding digits
solution_line-example = refl

pub solution_line-two : solution_line names (y ∷ x ∷ []) (Some (int 4) ∷ Some (int 8) ∷ []) ≡ codes "Y = 4, X = 8\n"
unfolding digits
solution_line-two = refl

-- a goal without answer variables
pub solution_line-no_variables : solution_line names [] [] ≡ codes "true\n"
solution_line-no_variables = refl

-- a variable without a value
pub solution_line-no_value : solution_line names (x ∷ []) (None ∷ []) ≡ solution_line names (x ∷ []) (Some no_value ∷ [])
solution_line-no_value = refl

pub solution_line-no_line_end : solution_line names (x ∷ []) (Some (int 5) ∷ []) ≡ codes "X = 5" → ⊥
unfolding digits
solution_line-no_line_end same = cc

pub end_line-example : end_line names 12 RunDone ≡ codes "solutions 12\n"
unfolding digits
end_line-example = refl

pub end_line-raised : end_line names 2 (RunRaised no_row) ≡ codes "uncaught exception: no row\n"
end_line-raised = refl

pub end_line-limit : end_line names 2 LimitPassed ≡ codes "step limit passed\n"
end_line-limit = refl

pub end_line-no_line_end : end_line names 1 RunDone ≡ codes "solutions 1" → ⊥
unfolding digits
end_line-no_line_end same = differ 11 12 (omega arith) (sym (ap (λ (text : List ℕ). length text) same))

-- the exception's text is no value in quotes
pub end_line-no_quotes : end_line names 1 (RunRaised no_row) ≡ codes "uncaught exception: \"no row\"\n" → ⊥
end_line-no_quotes same = differ 27 29 (omega arith) (ap (λ (text : List ℕ). length text) same)

pub end_status-example : end_status 2 RunDone ≡ solved_status
end_status-example = refl

pub end_status-no_solution : end_status 0 RunDone ≡ unsolved_status
end_status-no_solution = refl

pub end_status-raised : end_status 2 (RunRaised no_row) ≡ raised_status
end_status-raised = refl

pub end_status-limit : end_status 2 LimitPassed ≡ limit_status
end_status-limit = refl

pub end_status-counterexample : end_status 0 RunDone ≡ solved_status → ⊥
end_status-counterexample same = cc

-- ---- runs

-- two steps and two answers
abbrev pub two_answers : Run
two_answers = Tick (Answer (Some (int 4) ∷ []) (Tick (Answer (Some (int 8) ∷ []) (Ends RunDone))))

pub answers_of-example : answers_of two_answers ≡ (Some (int 4) ∷ []) ∷ (Some (int 8) ∷ []) ∷ []
answers_of-example = refl

pub answers_of-counterexample : answers_of two_answers ≡ (Some (int 8) ∷ []) ∷ (Some (int 4) ∷ []) ∷ [] → ⊥
answers_of-counterexample same = cc

pub end_of-example : end_of two_answers ≡ RunDone
end_of-example = refl

pub end_of-counterexample : end_of two_answers ≡ LimitPassed → ⊥
end_of-counterexample same = cc

pub steps_of-example : steps_of two_answers ≡ 2
steps_of-example = refl

-- an answer is no step
pub steps_of-counterexample : steps_of (Answer [] (Ends RunDone)) ≡ 1 → ⊥
steps_of-counterexample same = cc

pub run_lines-example : run_lines names (y ∷ []) None two_answers ≡ codes "Y = 4\n" ∷ codes "Y = 8\n" ∷ codes "solutions 2\n" ∷ []
unfolding digits
run_lines-example = refl

pub run_status-example : run_status None two_answers ≡ solved_status
run_status-example = refl

pub run_lines-none : run_lines names (y ∷ []) None (Tick (Ends RunDone)) ≡ codes "solutions 0\n" ∷ []
unfolding digits
run_lines-none = refl

pub run_status-none : run_status None (Tick (Ends RunDone)) ≡ unsolved_status
run_status-none = refl

-- an exception behind an answer
pub run_lines-raised : run_lines names (y ∷ []) None (Answer (Some (int 4) ∷ []) (Ends (RunRaised no_row))) ≡ codes "Y = 4\n" ∷ codes "uncaught exception: no row\n" ∷ []
unfolding digits
run_lines-raised = refl

pub run_status-raised : run_status None (Answer (Some (int 4) ∷ []) (Ends (RunRaised no_row))) ≡ raised_status
run_status-raised = refl

-- the step limit behind an answer
pub run_lines-limit : run_lines names (y ∷ []) None (Answer (Some (int 4) ∷ []) (Ends LimitPassed)) ≡ codes "Y = 4\n" ∷ codes "step limit passed\n" ∷ []
unfolding digits
run_lines-limit = refl

pub run_status-counterexample : run_status None (Answer (Some (int 4) ∷ []) (Ends LimitPassed)) ≡ solved_status → ⊥
run_status-counterexample same = cc

-- the line that ends the run is missing
pub run_lines-counterexample : run_lines names (y ∷ []) None (Answer (Some (int 4) ∷ []) (Ends LimitPassed)) ≡ codes "Y = 4\n" ∷ [] → ⊥
unfolding digits
run_lines-counterexample same = cc

-- ---- runs that are stopped behind an answer

pub answers_told-example : answers_told (Some 1) two_answers ≡ (Some (int 4) ∷ []) ∷ []
answers_told-example = refl

-- all, where there is no bound, or a greater one
pub answers_told-all : answers_told None two_answers ≡ answers_of two_answers
answers_told-all = refl

pub answers_told-fewer : answers_told (Some 3) two_answers ≡ answers_of two_answers
answers_told-fewer = refl

pub answers_told-counterexample : answers_told (Some 1) two_answers ≡ (Some (int 8) ∷ []) ∷ [] → ⊥
answers_told-counterexample same = cc

-- a run is stopped at its last answer too
pub is_stopped-example : is_stopped (Some 2) two_answers ≡ true
is_stopped-example = refl

pub is_stopped-fewer : is_stopped (Some 3) two_answers ≡ false
is_stopped-fewer = refl

pub is_stopped-counterexample : is_stopped None two_answers ≡ true → ⊥
is_stopped-counterexample same = cc

pub stopped_line-example : stopped_line names 12 ≡ codes "stopped after 12\n"
unfolding digits
stopped_line-example = refl

pub last_line-example : last_line names (Some 2) two_answers ≡ codes "stopped after 2\n"
unfolding digits
last_line-example = refl

-- the search was not completed
pub last_line-counterexample : last_line names (Some 2) two_answers ≡ codes "solutions 2\n" → ⊥
unfolding digits
last_line-counterexample same = differ 12 16 (omega arith) (sym (ap (λ (text : List ℕ). length text) same))

pub run_lines-stopped : run_lines names (y ∷ []) (Some 2) two_answers ≡ codes "Y = 4\n" ∷ codes "Y = 8\n" ∷ codes "stopped after 2\n" ∷ []
unfolding digits
run_lines-stopped = refl

pub run_status-stopped : run_status (Some 2) two_answers ≡ solved_status
run_status-stopped = refl

-- a bound that is not reached
pub run_lines-within : run_lines names (y ∷ []) (Some 3) two_answers ≡ codes "Y = 4\n" ∷ codes "Y = 8\n" ∷ codes "solutions 2\n" ∷ []
unfolding digits
run_lines-within = refl

-- an exception behind the first answer, which nothing looks for
abbrev raising : Run
raising = Tick (Answer (Some (int 4) ∷ []) (Tick (Tick (Ends (RunRaised no_row)))))

pub run_lines-before : run_lines names (y ∷ []) (Some 1) raising ≡ codes "Y = 4\n" ∷ codes "stopped after 1\n" ∷ []
unfolding digits
run_lines-before = refl

pub run_status-before : run_status (Some 1) raising ≡ solved_status
run_status-before = refl

-- and which comes before a second one
pub run_status-raised_within : run_status (Some 2) raising ≡ raised_status
run_status-raised_within = refl

pub run_status-before_raised : run_status (Some 1) raising ≡ raised_status → ⊥
run_status-before_raised same = cc

pub steps_before-example : steps_before 1 raising ≡ 1
steps_before-example = refl

-- a run with fewer answers makes all its steps
pub steps_before-all : steps_before 2 raising ≡ steps_of raising
steps_before-all = refl

pub steps_before-counterexample : steps_before 1 raising ≡ 3 → ⊥
steps_before-counterexample same = cc

pub steps_made-example : steps_made (Some 1) raising ≡ 1
steps_made-example = refl

pub steps_made-counterexample : steps_made None raising ≡ 1 → ⊥
steps_made-counterexample same = cc
