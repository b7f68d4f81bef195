-- Each status that is due has its cause, and each cause its status.
use Rattle.std.proofs.Common.{◌≡◌, ◌<◌, ◌≤◌, ◌⊎◌, ◌↔◌, ℕ, zero, suc, List, [], ◌∷◌, ◌∙◌, ap, sym, refl, subst, inl, inr, length, arith, lit<, codes}
use Rattle.std.specs.Prelude.{Bool, true, false, Option, Some, None, if◌then◌else◌}
use Rattle.merc_base.specs.Outside.{Files, file_named}
use Rattle.merc_tree.specs.Term.{Term}
use Rattle.merc_base.specs.Names.{fixed_names}
use Rattle.merc_base.specs.declared.refusal.Refusal.{Refusal}
use Rattle.merc_tree.specs.declared.declarations.Module.{Module}
use Rattle.merc_graded_tree.specs.Nodes.{Node}
use Rattle.merc_check.specs.Accepted.{AreGraded}
use Rattle.merc_check.specs.Checked.{IsAccepted, Refuses, RefusesQuery}
use Rattle.merc_meaning.specs.Trace.{Run, RunEnd, RunDone, RunRaised, LimitPassed}
use Rattle.merc_transfer.specs.Loading.{file_limit}
use Rattle.merc_transfer.specs.Statuses.{accepted_status, solved_status, unsolved_status, raised_status, limit_status, module_status, goal_status, usage_status, unread_status, too_long_status}
use Rattle.merc_top.specs.declared.words.Request.{Request}
use Rattle.merc_top.specs.declared.words.Request.TheVariants.{Solve, Check}
use Rattle.merc_top.specs.Words.{IsRequest, IsSolve, IsCheck, IsNoRequest, file_of, usage_line}
use Rattle.merc_top.specs.Checking.{check_lines}
use Rattle.merc_solving.specs.Runs.{answers_of, end_of, is_stopped}
use Rattle.merc_solving.specs.RunLines.{end_status, run_lines, run_status}
use Rattle.merc_top.specs.Output.{IsDue, IsCheckDue, IsRequestDue, IsOutput, FileOutput, refusal_line, too_long_line}
use Rattle.merc_top.specs.Output.IsDue.{module_refused as due_module_refused, goal_refused as due_goal_refused, runs as due_runs}
use Rattle.merc_top.specs.Output.IsCheckDue.{check_refused as due_check_refused, check_accepted as due_check_accepted}
use Rattle.merc_top.specs.Answer.{IsStatusDue, NamesAbsent}
use Rattle.merc_top.specs.Asking.{AsksRun}
use Rattle.merc_solving.proofs.RunLemmas.{end_status-limit, end_status-raised}
use Rattle.merc_top.proofs.Requests.{shown, solve-no_check}
use Rattle.merc_top.proofs.OutputLaws.{IsOutput-unique}

-- the words name a file of more bytes than the limit
pub record NamesTooLong (words : List (List ℕ)) (files : Files) : Type 0 where
  pub request : Request
  pub text : List ℕ
  pub asked : IsRequest words request
  pub content : file_named (file_of request) files ≡ Some text
  pub past : file_limit < length text

-- the words name a file with this text, within the limit, and a goal with that text
pub record Names (words : List (List ℕ)) (files : Files) (text goal : List ℕ) : Type 0 where
  pub file : List ℕ
  pub steps : ℕ
  pub most : Option ℕ
  pub request : IsSolve words file goal steps most
  pub content : file_named file files ≡ Some text
  pub within : length text ≤ file_limit

-- the words name a file with this text, within the limit, to be checked
pub record NamesChecked (words : List (List ℕ)) (files : Files) (text : List ℕ) : Type 0 where
  pub file : List ℕ
  pub request : IsCheck words file
  pub content : file_named file files ≡ Some text
  pub within : length text ≤ file_limit

-- the named file breaks a rule, where a goal is asked or it is checked
pub data BreaksModule (words : List (List ℕ)) (files : Files) : Type 0 where
  module_rule : (text goal : List ℕ) (refusal : Refusal) → Names words files text goal → Refuses fixed_names text refusal → BreaksModule words files
  checked_rule : (text : List ℕ) (refusal : Refusal) → NamesChecked words files text → Refuses fixed_names text refusal → BreaksModule words files

-- the named file is checked, and is an accepted module with these trees
pub record IsCheckedModule (words : List (List ℕ)) (files : Files) : Type 0 where
  pub text : List ℕ
  pub request : NamesChecked words files text
  pub names : List (List ℕ)
  pub items : List Term
  pub found : Module
  pub trees : List Node
  pub accepted : IsAccepted fixed_names names text items found
  pub graded : AreGraded names found trees

-- the named file is an accepted module, and the goal breaks a rule
pub record BreaksGoal (words : List (List ℕ)) (files : Files) : Type 0 where
  pub text : List ℕ
  pub goal : List ℕ
  pub request : Names words files text goal
  pub names : List (List ℕ)
  pub items : List Term
  pub found : Module
  pub refusal : Refusal
  pub accepted : IsAccepted fixed_names names text items found
  pub refuses : RefusesQuery names found goal refusal

-- module and goal are accepted, and the goal's run is such
pub record RunsTo (words : List (List ℕ)) (files : Files) (Fits : Option ℕ → Run → Type 0) : Type 0 where
  pub names : List (List ℕ)
  pub variables : List ℕ
  pub most : Option ℕ
  pub asked : Run
  pub asks : AsksRun words files names variables most asked
  pub fits : Fits most asked

-- this is the status of the run
abbrev pub HasStatus : ℕ → Option ℕ → Run → Type 0
HasStatus status most run = status ≡ run_status most run

-- the run is stopped behind as many answers as are wanted, or has answers and ends with no further one
abbrev pub IsSolved : Option ℕ → Run → Type 0
IsSolved most run = (is_stopped most run ≡ true) ⊎ ((is_stopped most run ≡ false) × (0 < length (answers_of run)) × (end_of run ≡ RunDone))

-- the run ends with no answer
abbrev pub IsUnsolved : Option ℕ → Run → Type 0
IsUnsolved most run = (is_stopped most run ≡ false) × (length (answers_of run) ≡ 0) × (end_of run ≡ RunDone)

-- the run ends with an exception
abbrev pub IsRaised : Option ℕ → Run → Type 0
IsRaised most run = (is_stopped most run ≡ false) × ((text : ℕ) × (end_of run ≡ RunRaised text))

-- the run passes its step limit
abbrev pub IsCutAtLimit : Option ℕ → Run → Type 0
IsCutAtLimit most run = (is_stopped most run ≡ false) × (end_of run ≡ LimitPassed)

-- a goal is asked and its run has answers, or a module is checked and accepted
abbrev pub Succeeds : List (List ℕ) → Files → Type 0
Succeeds words files = RunsTo words files IsSolved ⊎ IsCheckedModule words files

data Cause (words : List (List ℕ)) (files : Files) (status : ℕ) : Type 0 where
  usage_cause : (why : IsNoRequest words) (is : status ≡ usage_status) → Cause words files status
  absent_cause : (is : status ≡ unread_status) → Cause words files status
  too_long_cause : (why : NamesTooLong words files) (is : status ≡ too_long_status) → Cause words files status
  module_cause : (why : BreaksModule words files) (is : status ≡ module_status) → Cause words files status
  goal_cause : (why : BreaksGoal words files) (is : status ≡ goal_status) → Cause words files status
  run_cause : (why : RunsTo words files (HasStatus status)) → Cause words files status
  checked_cause : (why : IsCheckedModule words files) (is : status ≡ accepted_status) → Cause words files status

due-cause : (words : List (List ℕ)) (files : Files) (name text goal : List ℕ) (lines : List (List ℕ)) (status : ℕ)
    → (request : Names words files text goal) → IsDue name text goal request.steps request.most lines status → Cause words files status
due-cause words files name text goal _ _ request (due_module_refused refusal refuses) =
    module_cause (module_rule text goal refusal request refuses) refl
due-cause words files name text goal _ _ request (due_goal_refused names items found refusal is refuses) =
    goal_cause (record { text = text; goal = goal; request = request; names = names; items = items; found = found; refusal = refusal; accepted = is; refuses = refuses }) refl
due-cause words files name text goal _ _ request (due_runs names variables asked is) =
    run_cause (record {
      names = names;
      variables = variables;
      most = request.most;
      asked = asked;
      asks = record { file = request.file; goal = goal; text = text; steps = request.steps; request = request.request; content = request.content; within = request.within; run_is = is };
      fits = refl;
    })

check_due-cause : (words : List (List ℕ)) (files : Files) (name text : List ℕ) (lines : List (List ℕ)) (status : ℕ)
    → NamesChecked words files text → IsCheckDue name text lines status → Cause words files status
check_due-cause words files name text _ _ request (due_check_refused refusal refuses) =
    module_cause (checked_rule text refusal request refuses) refl
check_due-cause words files name text _ _ request (due_check_accepted names items found trees is graded) =
    checked_cause (record { text = text; request = request; names = names; items = items; found = found; trees = trees; accepted = is; graded = graded }) refl

request_due-cause : (words : List (List ℕ)) (files : Files) (request : Request) (text : List ℕ) (lines : List (List ℕ)) (status : ℕ)
    → IsRequest words request → file_named (file_of request) files ≡ Some text → length text ≤ file_limit → IsRequestDue request text lines status → Cause words files status
request_due-cause words files (Solve file goal steps most) text lines status asked content within due =
    due-cause words files file.now text goal.now lines status (record { file = file.now; steps = steps; most = most; request = asked; content = content; within = within }) due
request_due-cause words files (Check file) text lines status asked content within due =
    check_due-cause words files file.now text lines status (record { file = file.now; request = asked; content = content; within = within }) due

file_output-cause : (words : List (List ℕ)) (files : Files) (request : Request) (content : Option (List ℕ)) (lines : List (List ℕ)) (status : ℕ)
    → IsRequest words request → file_named (file_of request) files ≡ content → FileOutput request content lines status → Cause words files status
file_output-cause words files request None lines status asked same absent = absent_cause absent.1
file_output-cause words files request (Some text) lines status asked same (inl long) =
    too_long_cause (record { request = request; text = text; asked = asked; content = same; past = long.0 }) long.2
file_output-cause words files request (Some text) lines status asked same (inr due) =
    request_due-cause words files request text lines status asked same due.0 due.1

cause_of : (words : List (List ℕ)) (files : Files) (lines : List (List ℕ)) (status : ℕ) → IsOutput words files lines status → Cause words files status
cause_of words files lines status (inl usage) = usage_cause usage.0 usage.2
cause_of words files lines status (inr request) =
    file_output-cause words files request.0 (file_named (file_of request.0) files) lines status request.1 refl request.2

end_status-zero : (count : ℕ) (end : RunEnd) → solved_status ≡ end_status count end → (0 < count) × (end ≡ RunDone)
end_status-zero zero RunDone is = absurd (omega (arith, is))
end_status-zero (suc count) RunDone is = (omega arith, refl)
end_status-zero zero (RunRaised text) is = absurd (omega (arith, is))
end_status-zero (suc count) (RunRaised text) is = absurd (omega (arith, is))
end_status-zero zero LimitPassed is = absurd (omega (arith, is))
end_status-zero (suc count) LimitPassed is = absurd (omega (arith, is))

end_status-solved : (count : ℕ) (end : RunEnd) → 0 < count → end ≡ RunDone → end_status count end ≡ solved_status
end_status-solved zero end some done = absurd (omega arith)
end_status-solved (suc count) end some done = ap (λ e. end_status (suc count) e) done

end_status-one : (count : ℕ) (end : RunEnd) → unsolved_status ≡ end_status count end → (count ≡ 0) × (end ≡ RunDone)
end_status-one zero RunDone is = (refl, refl)
end_status-one (suc count) RunDone is = absurd (omega (arith, is))
end_status-one zero (RunRaised text) is = absurd (omega (arith, is))
end_status-one (suc count) (RunRaised text) is = absurd (omega (arith, is))
end_status-one zero LimitPassed is = absurd (omega (arith, is))
end_status-one (suc count) LimitPassed is = absurd (omega (arith, is))

end_status-two : (count : ℕ) (end : RunEnd) → raised_status ≡ end_status count end → (text : ℕ) × (end ≡ RunRaised text)
end_status-two zero RunDone is = absurd (omega (arith, is))
end_status-two (suc count) RunDone is = absurd (omega (arith, is))
end_status-two zero (RunRaised text) is = (text, refl)
end_status-two (suc count) (RunRaised text) is = (text, refl)
end_status-two zero LimitPassed is = absurd (omega (arith, is))
end_status-two (suc count) LimitPassed is = absurd (omega (arith, is))

end_status-three : (count : ℕ) (end : RunEnd) → limit_status ≡ end_status count end → end ≡ LimitPassed
end_status-three zero RunDone is = absurd (omega (arith, is))
end_status-three (suc count) RunDone is = absurd (omega (arith, is))
end_status-three zero (RunRaised text) is = absurd (omega (arith, is))
end_status-three (suc count) (RunRaised text) is = absurd (omega (arith, is))
end_status-three zero LimitPassed is = refl
end_status-three (suc count) LimitPassed is = refl

end_status-low : (count : ℕ) (end : RunEnd) → end_status count end < module_status
end_status-low zero RunDone = lit< tt
end_status-low (suc count) RunDone = lit< tt
end_status-low zero (RunRaised text) = lit< tt
end_status-low (suc count) (RunRaised text) = lit< tt
end_status-low zero LimitPassed = lit< tt
end_status-low (suc count) LimitPassed = lit< tt

stopped-low : (stopped : Bool) (count : ℕ) (end : RunEnd) → (if stopped then solved_status else end_status count end) < module_status
stopped-low true count end = lit< tt
stopped-low false count end = end_status-low count end

-- the status of a run that may be stopped
stopped-zero : (stopped : Bool) (count : ℕ) (end : RunEnd) → solved_status ≡ (if stopped then solved_status else end_status count end)
    → (stopped ≡ true) ⊎ ((stopped ≡ false) × (0 < count) × (end ≡ RunDone))
stopped-zero true count end is = inl refl
stopped-zero false count end is = let found = end_status-zero count end is in inr (refl, found.0, found.1)

stopped-one : (stopped : Bool) (count : ℕ) (end : RunEnd) → unsolved_status ≡ (if stopped then solved_status else end_status count end) → (stopped ≡ false) × (count ≡ 0) × (end ≡ RunDone)
stopped-one true count end is = absurd (omega (arith, is))
stopped-one false count end is = let found = end_status-one count end is in (refl, found.0, found.1)

stopped-two : (stopped : Bool) (count : ℕ) (end : RunEnd) → raised_status ≡ (if stopped then solved_status else end_status count end) → (stopped ≡ false) × ((text : ℕ) × (end ≡ RunRaised text))
stopped-two true count end is = absurd (omega (arith, is))
stopped-two false count end is = (refl, end_status-two count end is)

stopped-three : (stopped : Bool) (count : ℕ) (end : RunEnd) → limit_status ≡ (if stopped then solved_status else end_status count end) → (stopped ≡ false) × (end ≡ LimitPassed)
stopped-three true count end is = absurd (omega (arith, is))
stopped-three false count end is = (refl, end_status-three count end is)

unstopped : (stopped : Bool) (count : ℕ) (end : RunEnd) (status : ℕ) → stopped ≡ false → end_status count end ≡ status → status ≡ (if stopped then solved_status else end_status count end)
unstopped stopped count end status is same = sym (ap (λ (some : Bool). if some then solved_status else end_status count end) is ∙ same)

stopped-solved : (stopped : Bool) (count : ℕ) (end : RunEnd) → (stopped ≡ true) ⊎ ((stopped ≡ false) × (0 < count) × (end ≡ RunDone)) → solved_status ≡ (if stopped then solved_status else end_status count end)
stopped-solved stopped count end (inl is) = sym (ap (λ (some : Bool). if some then solved_status else end_status count end) is)
stopped-solved stopped count end (inr is) = unstopped stopped count end solved_status is.0 (end_status-solved count end is.1 is.2)

runs_low : (words : List (List ℕ)) (files : Files) (status : ℕ) → RunsTo words files (HasStatus status) → status < module_status
runs_low words files status runs =
    subst (λ n. n < module_status) (sym runs.fits) (stopped-low (is_stopped runs.most runs.asked) (length (answers_of runs.asked)) (end_of runs.asked))

refit : (words : List (List ℕ)) (files : Files) (P Q : Option ℕ → Run → Type 0) → ((most : Option ℕ) (run : Run) → P most run → Q most run) → RunsTo words files P → RunsTo words files Q
refit words files P Q turns runs = record {
  names = runs.names;
  variables = runs.variables;
  most = runs.most;
  asked = runs.asked;
  asks = runs.asks;
  fits = turns runs.most runs.asked runs.fits;
}

run_by : (words : List (List ℕ)) (files : Files) (status : ℕ) → Cause words files status → status < module_status → RunsTo words files (HasStatus status) ⊎ (IsCheckedModule words files × (status ≡ accepted_status))
run_by words files status (usage_cause why is) low = absurd (omega (arith, is, low))
run_by words files status (absent_cause is) low = absurd (omega (arith, is, low))
run_by words files status (too_long_cause why is) low = absurd (omega (arith, is, low))
run_by words files status (module_cause why is) low = absurd (omega (arith, is, low))
run_by words files status (goal_cause why is) low = absurd (omega (arith, is, low))
run_by words files status (run_cause why) low = inl why
run_by words files status (checked_cause why is) low = inr (why, is)

-- a status of a run alone
run_alone : (words : List (List ℕ)) (files : Files) (status : ℕ) → RunsTo words files (HasStatus status) ⊎ (IsCheckedModule words files × (status ≡ accepted_status)) → accepted_status < status → RunsTo words files (HasStatus status)
run_alone words files status (inl why) high = why
run_alone words files status (inr checked) high = absurd (omega (arith, checked.1, high))

module_refused_by : (words : List (List ℕ)) (files : Files) (status : ℕ) → Cause words files status → status ≡ module_status → BreaksModule words files
module_refused_by words files status (usage_cause why is) four = absurd (omega (arith, is, four))
module_refused_by words files status (absent_cause is) four = absurd (omega (arith, is, four))
module_refused_by words files status (too_long_cause why is) four = absurd (omega (arith, is, four))
module_refused_by words files status (module_cause why is) four = why
module_refused_by words files status (goal_cause why is) four = absurd (omega (arith, is, four))
module_refused_by words files status (run_cause why) four = absurd (omega (arith, four, runs_low words files status why))
module_refused_by words files status (checked_cause why is) four = absurd (omega (arith, is, four))

goal_refused_by : (words : List (List ℕ)) (files : Files) (status : ℕ) → Cause words files status → status ≡ goal_status → BreaksGoal words files
goal_refused_by words files status (usage_cause why is) five = absurd (omega (arith, is, five))
goal_refused_by words files status (absent_cause is) five = absurd (omega (arith, is, five))
goal_refused_by words files status (too_long_cause why is) five = absurd (omega (arith, is, five))
goal_refused_by words files status (module_cause why is) five = absurd (omega (arith, is, five))
goal_refused_by words files status (goal_cause why is) five = why
goal_refused_by words files status (run_cause why) five = absurd (omega (arith, five, runs_low words files status why))
goal_refused_by words files status (checked_cause why is) five = absurd (omega (arith, is, five))

usage_by : (words : List (List ℕ)) (files : Files) (status : ℕ) → Cause words files status → status ≡ usage_status → IsNoRequest words
usage_by words files status (usage_cause why is) six = why
usage_by words files status (absent_cause is) six = absurd (omega (arith, is, six))
usage_by words files status (too_long_cause why is) six = absurd (omega (arith, is, six))
usage_by words files status (module_cause why is) six = absurd (omega (arith, is, six))
usage_by words files status (goal_cause why is) six = absurd (omega (arith, is, six))
usage_by words files status (run_cause why) six = absurd (omega (arith, six, runs_low words files status why))
usage_by words files status (checked_cause why is) six = absurd (omega (arith, is, six))

too_long_by : (words : List (List ℕ)) (files : Files) (status : ℕ) → Cause words files status → status ≡ too_long_status → NamesTooLong words files
too_long_by words files status (usage_cause why is) ten = absurd (omega (arith, is, ten))
too_long_by words files status (absent_cause is) ten = absurd (omega (arith, is, ten))
too_long_by words files status (too_long_cause why is) ten = why
too_long_by words files status (module_cause why is) ten = absurd (omega (arith, is, ten))
too_long_by words files status (goal_cause why is) ten = absurd (omega (arith, is, ten))
too_long_by words files status (run_cause why) ten = absurd (omega (arith, ten, runs_low words files status why))
too_long_by words files status (checked_cause why is) ten = absurd (omega (arith, is, ten))

-- what is due for a file that the words name, with this text
named_output : (words : List (List ℕ)) (files : Files) (text goal : List ℕ) (lines : List (List ℕ)) (status : ℕ) (request : Names words files text goal)
    → IsDue request.file text goal request.steps request.most lines status → IsOutput words files lines status
named_output words files text goal lines status request due =
    inr (
      Solve (shown request.file) (shown goal) request.steps request.most,
      request.request,
      subst (λ content. FileOutput (Solve (shown request.file) (shown goal) request.steps request.most) content lines status) (sym request.content) (inr (request.within, due)),
    )

checked_output : (words : List (List ℕ)) (files : Files) (text : List ℕ) (lines : List (List ℕ)) (status : ℕ) (request : NamesChecked words files text)
    → IsCheckDue request.file text lines status → IsOutput words files lines status
checked_output words files text lines status request due =
    inr (
      Check (shown request.file),
      request.request,
      subst (λ content. FileOutput (Check (shown request.file)) content lines status) (sym request.content) (inr (request.within, due)),
    )

-- what is due for the run that words ask for
pub asked_output : (words : List (List ℕ)) (files : Files) (names : List (List ℕ)) (variables : List ℕ) (most : Option ℕ) (asked : Run) → AsksRun words files names variables most asked
    → IsOutput words files (run_lines names variables most asked) (run_status most asked)
asked_output words files names variables most asked asks =
    named_output words files asks.text asks.goal (run_lines names variables most asked) (run_status most asked)
    (record { file = asks.file; steps = asks.steps; most = most; request = asks.request; content = asks.content; within = asks.within }) (due_runs names variables asked asks.run_is)

runs_output : (words : List (List ℕ)) (files : Files) (status : ℕ) → RunsTo words files (HasStatus status) → (lines : List (List ℕ)) × IsOutput words files lines status
runs_output words files status runs =
    let lines = run_lines runs.names runs.variables runs.most runs.asked in
    (lines, subst (λ (n : ℕ). IsOutput words files lines n) (sym runs.fits) (asked_output words files runs.names runs.variables runs.most runs.asked runs.asks))

breaks_module_output : (words : List (List ℕ)) (files : Files) → BreaksModule words files → (lines : List (List ℕ)) × IsOutput words files lines module_status
breaks_module_output words files (module_rule text goal refusal request refuses) =
    (refusal_line request.file refusal ∷ [], named_output words files text goal _ module_status request (due_module_refused refusal refuses))
breaks_module_output words files (checked_rule text refusal request refuses) =
    (refusal_line request.file refusal ∷ [], checked_output words files text _ module_status request (due_check_refused refusal refuses))

breaks_goal_output : (words : List (List ℕ)) (files : Files) → BreaksGoal words files → (lines : List (List ℕ)) × IsOutput words files lines goal_status
breaks_goal_output words files breaks =
    let lines = refusal_line (codes "goal") breaks.refusal ∷ [] in (
      lines,
      named_output words files breaks.text breaks.goal lines goal_status breaks.request (due_goal_refused breaks.names breaks.items breaks.found breaks.refusal breaks.accepted breaks.refuses),
    )

checked_module_output : (words : List (List ℕ)) (files : Files) → IsCheckedModule words files → (lines : List (List ℕ)) × IsOutput words files lines accepted_status
checked_module_output words files checked =
    let lines = check_lines checked.names checked.found checked.trees in (
      lines,
      checked_output words files checked.text lines accepted_status checked.request
          (due_check_accepted checked.names checked.items checked.found checked.trees checked.accepted checked.graded),
    )

too_long_output : (words : List (List ℕ)) (files : Files) → NamesTooLong words files → (lines : List (List ℕ)) × IsOutput words files lines too_long_status
too_long_output words files names =
    let lines = too_long_line (file_of names.request) ∷ [] in (
      lines,
      inr (
        names.request,
        names.asked,
        subst (λ content. FileOutput names.request content lines too_long_status) (sym names.content) (inl (names.past, refl, refl)),
      ),
    )

usage_output : (words : List (List ℕ)) (files : Files) → IsNoRequest words → (lines : List (List ℕ)) × IsOutput words files lines usage_status
usage_output words files none = (usage_line ∷ [], inl (none, refl, refl))

-- a status that is due is the one that its cause gives
status_is : (words : List (List ℕ)) (files : Files) (lines : List (List ℕ)) (status due : ℕ) → IsOutput words files lines status
    → IsStatusDue words files due → status ≡ due
status_is words files lines status due output other = (IsOutput-unique words files lines other.0 status due output other.1).1

runs-exactly : (words : List (List ℕ)) (files : Files) (lines : List (List ℕ)) (status due : ℕ) (Fits : Option ℕ → Run → Type 0) → IsOutput words files lines status
    → accepted_status < due → due < module_status
    → ((most : Option ℕ) (run : Run) → HasStatus due most run → Fits most run) → ((most : Option ℕ) (run : Run) → Fits most run → HasStatus due most run) → (status ≡ due) ↔ RunsTo words files Fits
runs-exactly words files lines status due Fits output high low to from = (
  λ is.
      refit words files (HasStatus due) Fits to
      (subst (λ n. RunsTo words files (HasStatus n)) is
      (run_alone words files status (run_by words files status (cause_of words files lines status output) (subst (λ n. n < module_status) (sym is) low))
      (subst (λ n. accepted_status < n) (sym is) high))),
  λ why. status_is words files lines status due output (runs_output words files due (refit words files Fits (HasStatus due) from why)),
)

-- the run that has this status, or the module that is checked
succeeds_by : (words : List (List ℕ)) (files : Files) (status : ℕ) → status ≡ solved_status
    → RunsTo words files (HasStatus status) ⊎ (IsCheckedModule words files × (status ≡ accepted_status)) → Succeeds words files
succeeds_by words files status is (inl why) =
    inl (refit words files (HasStatus solved_status) IsSolved (λ most run has. stopped-zero (is_stopped most run) (length (answers_of run)) (end_of run) has) (subst (λ n. RunsTo words files (HasStatus n)) is why))
succeeds_by words files status is (inr checked) = inr checked.0

succeeds_output : (words : List (List ℕ)) (files : Files) → Succeeds words files → (lines : List (List ℕ)) × IsOutput words files lines solved_status
succeeds_output words files (inl why) =
    runs_output words files solved_status (refit words files IsSolved (HasStatus solved_status) (λ most run fits. stopped-solved (is_stopped most run) (length (answers_of run)) (end_of run) fits) why)
succeeds_output words files (inr checked) = checked_module_output words files checked

-- Status by status, where it is due and so comes without a fault: the run of a goal has solutions, or a module that is checked is accepted;
pub solved-exactly : (words : List (List ℕ)) (files : Files) (lines : List (List ℕ)) (status : ℕ) → IsOutput words files lines status → (status ≡ solved_status) ↔ Succeeds words files
solved-exactly words files lines status output = (
  λ is.
      succeeds_by words files status is
      (run_by words files status (cause_of words files lines status output) (subst (λ n. n < module_status) (sym is) (lit< tt))),
  λ why. status_is words files lines status solved_status output (succeeds_output words files why),
)

-- where words ask for a check, that alone;
checked_alone : (words : List (List ℕ)) (files : Files) (text : List ℕ) → NamesChecked words files text → Succeeds words files → IsCheckedModule words files
checked_alone words files text names (inl runs) = absurd (solve-no_check words runs.asks.file runs.asks.goal names.file runs.asks.steps runs.most runs.asks.request names.request)
checked_alone words files text names (inr checked) = checked

pub checked-exactly : (words : List (List ℕ)) (files : Files) (lines : List (List ℕ)) (status : ℕ) → IsOutput words files lines status
    → (text : List ℕ) → NamesChecked words files text → (status ≡ accepted_status) ↔ IsCheckedModule words files
checked-exactly words files lines status output text names = (
  λ is. checked_alone words files text names ((solved-exactly words files lines status output).0 is),
  λ why. (solved-exactly words files lines status output).1 (inr why),
)

-- or the run has none,
pub unsolved-exactly : (words : List (List ℕ)) (files : Files) (lines : List (List ℕ)) (status : ℕ) → IsOutput words files lines status → (status ≡ unsolved_status) ↔ RunsTo words files IsUnsolved
unsolved-exactly words files lines status output =
    runs-exactly words files lines status unsolved_status IsUnsolved output (lit< tt) (lit< tt) (λ most run is. stopped-one (is_stopped most run) (length (answers_of run)) (end_of run) is)
    (λ most run fits. unstopped (is_stopped most run) (length (answers_of run)) (end_of run) unsolved_status fits.0 (rw (fits.1, fits.2) refl))

-- or ends with an exception,
pub raised-exactly : (words : List (List ℕ)) (files : Files) (lines : List (List ℕ)) (status : ℕ) → IsOutput words files lines status → (status ≡ raised_status) ↔ RunsTo words files IsRaised
raised-exactly words files lines status output =
    runs-exactly words files lines status raised_status IsRaised output (lit< tt) (lit< tt) (λ most run is. stopped-two (is_stopped most run) (length (answers_of run)) (end_of run) is)
    (λ most run fits. unstopped (is_stopped most run) (length (answers_of run)) (end_of run) raised_status fits.0 (rw fits.1.1 (end_status-raised (length (answers_of run)) fits.1.0)))

-- or passes the step limit;
pub limit-exactly : (words : List (List ℕ)) (files : Files) (lines : List (List ℕ)) (status : ℕ) → IsOutput words files lines status → (status ≡ limit_status) ↔ RunsTo words files IsCutAtLimit
limit-exactly words files lines status output =
    runs-exactly words files lines status limit_status IsCutAtLimit output (lit< tt) (lit< tt) (λ most run is. stopped-three (is_stopped most run) (length (answers_of run)) (end_of run) is)
    (λ most run fits. unstopped (is_stopped most run) (length (answers_of run)) (end_of run) limit_status fits.0 (rw fits.1 (end_status-limit (length (answers_of run)))))

-- or the module breaks a rule, or the goal, or the words ask for nothing, or the file is too long.
pub module_refused-exactly : (words : List (List ℕ)) (files : Files) (lines : List (List ℕ)) (status : ℕ) → IsOutput words files lines status → (status ≡ module_status) ↔ BreaksModule words files
module_refused-exactly words files lines status output = (
  module_refused_by words files status (cause_of words files lines status output),
  λ why. status_is words files lines status module_status output (breaks_module_output words files why),
)

pub goal_refused-exactly : (words : List (List ℕ)) (files : Files) (lines : List (List ℕ)) (status : ℕ) → IsOutput words files lines status → (status ≡ goal_status) ↔ BreaksGoal words files
goal_refused-exactly words files lines status output = (
  goal_refused_by words files status (cause_of words files lines status output),
  λ why. status_is words files lines status goal_status output (breaks_goal_output words files why),
)

pub usage-exactly : (words : List (List ℕ)) (files : Files) (lines : List (List ℕ)) (status : ℕ) → IsOutput words files lines status → (status ≡ usage_status) ↔ IsNoRequest words
usage-exactly words files lines status output = (
  usage_by words files status (cause_of words files lines status output),
  λ why. status_is words files lines status usage_status output (usage_output words files why),
)

pub too_long-exactly : (words : List (List ℕ)) (files : Files) (lines : List (List ℕ)) (status : ℕ) → IsOutput words files lines status → (status ≡ too_long_status) ↔ NamesTooLong words files
too_long-exactly words files lines status output = (
  too_long_by words files status (cause_of words files lines status output),
  λ why. status_is words files lines status too_long_status output (too_long_output words files why),
)

pub absent-exactly : (words : List (List ℕ)) (files : Files) (lines : List (List ℕ)) (status : ℕ) → IsOutput words files lines status → NamesAbsent words (Some files) → status ≡ 7
absent-exactly words files lines status output absent =
    status_is words files lines status unread_status output
    ([], inr (absent.0, absent.1, subst (λ content. FileOutput absent.0 content [] unread_status) (sym absent.2) (refl, refl)))

-- a status is the one that is due exactly where it is due
pub status-exactly : (words : List (List ℕ)) (files : Files) (lines : List (List ℕ)) (status due : ℕ) → IsOutput words files lines status → (status ≡ due) ↔ IsStatusDue words files due
status-exactly words files lines status due output = (λ is. (lines, subst (λ n. IsOutput words files lines n) is output), λ other. status_is words files lines status due output other)
