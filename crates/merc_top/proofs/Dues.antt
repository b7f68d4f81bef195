-- What is due, over the files that a shelf tells, or over files that fit what was read.
use Rattle.std.proofs.Common.{◌≡◌, ◌<◌, ◌≤◌, ◌⊎◌, ◌∙◌, ℕ, suc, zero, List, [], ◌∷◌, ap, sym, refl, subst, inl, inr, length, arith, lit<}
use Rattle.std.proofs.lemmas.List.{length-replicate}
use Rattle.std.specs.Prelude.{Bool, true, false, Option, Some, None, Ok, Err, IfSome, replicate, if◌then◌else◌}
use Rattle.std.proofs.lemmas.Slice.Eq.{bytes_eq-Decides}
use Rattle.merc_base.specs.Outside.{Files, file_named}
use Rattle.merc_base.specs.Names.{fixed_names}
use Rattle.merc_base.specs.declared.refusal.Refusal.{Refusal}
use Rattle.merc_base.specs.declared.refusal.Fault.{Fault}
use Rattle.merc_base.specs.declared.refusal.Fault.TheVariants.{Refused, NoMemory}
use Rattle.merc_tree.specs.Term.{Term}
use Rattle.merc_tree.specs.declared.declarations.Module.{Module}
use Rattle.merc_graded_tree.specs.Nodes.{Node}
use Rattle.merc_meaning.specs.Programs.{program_with}
use Rattle.merc_meaning.specs.Runs.{run}
use Rattle.merc_meaning.specs.Shown.{shown}
use Rattle.merc_course.specs.Alone.{MeetsNobody, ProgramMeetsNobody}
use Rattle.merc_check.specs.Accepted.{AreGraded, IsGradedGoal, query_answers, query_names}
use Rattle.merc_terms.specs.Items.{IsRefusal}
use Rattle.merc_check.specs.Checked.{IsAccepted, IsGoal, Refuses}
use Rattle.merc_check.proofs.CheckedLaws.{IsGradedGoal-one}
use Rattle.merc_meaning.specs.Trace.{Run, RunEnd, RunDone, RunRaised, LimitPassed}
use Rattle.merc_top.specs.declared.words.Request.{Request}
use Rattle.merc_top.specs.declared.words.Request.TheVariants.{Solve, Check}
use Rattle.merc_top.specs.Words.{IsRequest, IsNoRequest, file_of, usage_line}
use Rattle.merc_transfer.specs.Statuses.{limit_status, module_status, solved_status, usage_status, unread_status, too_long_status}
use Rattle.merc_transfer.specs.Loading.{Loads, file_limit, IsTooLong}
use Rattle.merc_solving.specs.RunLines.{end_status, run_status}
use Rattle.merc_top.specs.Output.{IsOutput, IsDue, IsCheckDue, IsRequestDue, FileOutput, refusal_line, too_long_line}
use Rattle.merc_top.specs.Output.IsDue.{module_refused, goal_refused, runs}
use Rattle.merc_top.specs.Output.IsCheckDue.{check_refused, check_accepted}
use Rattle.merc_solving.specs.Runs.{answers_of, end_of, is_stopped}
use Rattle.merc_top.specs.Answer.{AreFiles}
use Rattle.merc_transfer.specs.declared.due.Due.{Due}
use Rattle.merc_transfer.specs.declared.loading.LoadFault.TheVariants.{Unread as LoadUnread}
use Rattle.merc_top.specs.declared.answering.Trouble.TheVariants.{Unread}
use Rattle.merc_top.specs.declared.answering.Found.{Found}
use Rattle.merc_top.specs.declared.answering.Found.TheVariants.{Lines, Run as Runs}
use Rattle.merc_solving.specs.declared.solving.Ready.{Ready}
use Rattle.merc_solving.specs.Ready.{IsReady}
use Rattle.merc_top.specs.Due.{Finds, IsFaultDue, IsRequestFound, IsSolveFound}
use Rattle.merc_top.proofs.Requests.{solve-no_check}
use Rattle.merc_top.proofs.AloneModules.{goal_alone, module_alone, program_alone}
use Rattle.merc_top.proofs.OutputLaws.{module-distinct}

-- the status of a text that is due
abbrev pub IsDueStatus : ℕ → Type 0
IsDueStatus status = (status < unread_status) ⊎ (status ≡ too_long_status)

pub end_status-small : (count : ℕ) (end : RunEnd) → end_status count end < unread_status
end_status-small zero RunDone = lit< tt
end_status-small (suc count) RunDone = lit< tt
end_status-small zero (RunRaised text) = lit< tt
end_status-small (suc count) (RunRaised text) = lit< tt
end_status-small zero LimitPassed = lit< tt
end_status-small (suc count) LimitPassed = lit< tt

stopped-small : (stopped : Bool) (count : ℕ) (end : RunEnd) → (if stopped then solved_status else end_status count end) < unread_status
stopped-small true count end = lit< tt
stopped-small false count end = end_status-small count end

pub run_status-small : (most : Option ℕ) (asked : Run) → run_status most asked < unread_status
run_status-small most asked = stopped-small (is_stopped most asked) (length (answers_of asked)) (end_of asked)

due_status-small : (name file goal : List ℕ) (steps : ℕ) (most : Option ℕ) (lines : List (List ℕ)) (status : ℕ) → IsDue name file goal steps most lines status → status < unread_status
due_status-small name file goal steps most _ _ (module_refused _ _) = lit< tt
due_status-small name file goal steps most _ _ (goal_refused _ _ _ _ _ _) = lit< tt
due_status-small name file goal steps most _ _ (runs _ _ asked _) = run_status-small most asked

check_status-small : (name file : List ℕ) (lines : List (List ℕ)) (status : ℕ) → IsCheckDue name file lines status → status < unread_status
check_status-small name file _ _ (check_refused _ _) = lit< tt
check_status-small name file _ _ (check_accepted _ _ _ _ _ _) = lit< tt

-- what is due, by its lines and its status
due_by : (name file goal : List ℕ) (steps : ℕ) (most : Option ℕ) (lines lines' : List (List ℕ)) (status status' : ℕ) → lines ≡ lines' → status ≡ status' → IsDue name file goal steps most lines' status'
    → IsDue name file goal steps most lines status
due_by name file goal steps most lines lines' status status' same same' due =
    subst (λ (ls : List (List ℕ)). IsDue name file goal steps most ls status) (sym same) (subst (λ (n : ℕ). IsDue name file goal steps most lines' n) (sym same') due)

-- the same of a check
pub check_due_by : (name file : List ℕ) (lines lines' : List (List ℕ)) (status status' : ℕ) → lines ≡ lines' → status ≡ status' → IsCheckDue name file lines' status' → IsCheckDue name file lines status
check_due_by name file lines lines' status status' same same' due =
    subst (λ (ls : List (List ℕ)). IsCheckDue name file ls status) (sym same) (subst (λ (n : ℕ). IsCheckDue name file lines' n) (sym same') due)

named_alone : (file text : List ℕ) → file_named file ((file, text) ∷ []) ≡ Some text
named_alone file text = ap (λ b. if b then Some text else None) ((bytes_eq-Decides file file).1 refl)

-- a file of one byte more than the limit
longer : List ℕ
longer = replicate (suc file_limit) 32

longer-past : file_limit < length longer
unfolding longer
longer-past = omega (arith, length-replicate {A = ℕ} (suc file_limit) 32)

pub some_files : (told : Option Files) → (files : Files) × AreFiles told files
some_files None = ([], tt)
some_files (Some files) = (files, refl)

-- the files that are told, or some, where a file has this text
files_with : (told : Option Files) (name text : List ℕ) → IfSome told (λ files. file_named name files ≡ Some text) → (files : Files) × AreFiles told files × (file_named name files ≡ Some text)
files_with None name text content = ((name, text) ∷ [], tt, named_alone name text)
files_with (Some files) name text content = (files, refl, content)

-- Words that ask for nothing.
pub usage-found : (words : List (List ℕ)) (told : Option Files) (before : ℕ) (due : Due) → IsNoRequest words → due.lines ≡ usage_line ∷ [] → due.status ≡ usage_status
    → Finds words told before before (Ok (Lines due))
usage-found words told before due none same is =
    let files = some_files told in
    (refl, inl (omega (arith, is)), (files.0, files.1, inl (none, same, is), λ _ _ _ _ _. omega (arith, is)))

-- A file that was read.
module _ (words : List (List ℕ)) (told : Option Files) (before now : ℕ) (text : List ℕ) (same : now ≡ before) (within : length text ≤ file_limit) where
  output : (request : Request) (files : Files) (lines : List (List ℕ)) (status : ℕ) → IsRequest words request → file_named (file_of request) files ≡ Some text
      → IsRequestDue request text lines status → IsOutput words files lines status
  output request files lines status asked content due =
      inr (request, asked, subst (λ (some : Option (List ℕ)). FileOutput request some lines status) (sym content) (inr (within, due)))

  pub file-found : (request : Request) (found : Found) → IsRequest words request → IfSome told (λ files. file_named (file_of request) files ≡ Some text)
      → IsRequestFound request text found → Finds words told before now (Ok found)
  file-found (Solve file goal steps most) (Lines due) asked content found =
      let files = files_with told file.now text content in (
        same,
        inl (due_status-small file.now text goal.now steps most due.lines due.status found.1),
        (files.0, files.1, output (Solve file goal steps most) files.0 due.lines due.status asked files.2 found.1, λ _ _ _ _ _. found.0),
      )
  file-found (Solve file goal steps most) (Runs ready) asked content (names, variables, run, run_is, is_ready) =
      let files = files_with told file.now text content in (
        same,
        (
          files.0,
          files.1,
          names,
          variables,
          most,
          run,
          record { file = file.now; goal = goal.now; text = text; steps = steps; request = asked; content = files.2; within = within; run_is = run_is },
          is_ready,
        ),
      )
  file-found (Check file) (Lines due) asked content found =
      let files = files_with told file.now text content in (
        same,
        inl (check_status-small file.now text due.lines due.status found),
        (
          files.0,
          files.1,
          output (Check file) files.0 due.lines due.status asked files.2 found,
          λ _ _ most _ other. absurd (solve-no_check words other.file other.goal file.now other.steps most other.request asked),
        ),
      )
  file-found (Check file) (Runs ready) asked content found = absurd found

-- A file that could not be read.
pub unread-found : (words : List (List ℕ)) (told : Option Files) (before now : ℕ) (request : Request) → IsRequest words request → Loads told (file_of request) before now (Err LoadUnread)
    → Finds words told before now (Err Unread)
unread-found words None before now request asked read = inl read
unread-found words (Some files) before now request asked (inl read) = inl read
unread-found words (Some files) before now request asked (inr absent) = inr (absent.0, (request, asked, absent.1))

too_long_content : (content : Option (List ℕ)) → IsTooLong content → (text : List ℕ) × (content ≡ Some text) × (file_limit < length text)
too_long_content None long = absurd long
too_long_content (Some text) long = (text, refl, long)

files_too_long : (told : Option Files) (name : List ℕ) → IfSome told (λ files. IsTooLong (file_named name files))
    → (files : Files) × AreFiles told files × ((text : List ℕ) × (file_named name files ≡ Some text) × (file_limit < length text))
files_too_long None name long = ((name, longer) ∷ [], tt, (longer, named_alone name longer, longer-past))
files_too_long (Some files) name long = (files, refl, too_long_content (file_named name files) long)

-- A file that is too long.
pub too_long-found : (words : List (List ℕ)) (told : Option Files) (before now : ℕ) (request : Request) (due : Due) → now ≡ before
    → IsRequest words request → IfSome told (λ files. IsTooLong (file_named (file_of request) files))
    → due.lines ≡ too_long_line (file_of request) ∷ [] → due.status ≡ too_long_status → Finds words told before now (Ok (Lines due))
too_long-found words told before now request due same asked long lines is =
    let files = files_too_long told (file_of request) long in (
      same,
      inr is,
      (
        files.0,
        files.1,
        inr (
          request,
          asked,
          subst (λ (some : Option (List ℕ)). FileOutput request some due.lines due.status) (sym files.2.1) (inl (files.2.2, lines, is)),
        ),
        λ _ _ _ _ _. omega (arith, is),
      ),
    )

-- ---- the run that is asked

-- Given are an accepted file and an accepted goal over it, with their trees.
module _ (text goal : List ℕ) (file_names names : List (List ℕ)) (items : List Term) (found : Module) (trees : List Node) (term : Term) (goals : List Node)
    (module_is : IsAccepted fixed_names file_names text items found) (goal_is : IsGoal file_names names found goal term) (goal_trees : IsGradedGoal names found term goals) where
  one_tree : (tree : Node) × (goals ≡ tree ∷ [])
  one_tree =
      IsGradedGoal-one file_names goal (module-distinct file_names text items found module_is) found fixed_names file_names text items module_is names term goal_is goals goal_trees

  pub one-goal : length goals ≡ 1
  one-goal = ap (λ (some : List Node). length some) one_tree.1

  graded_alone : IsGradedGoal names found term (one_tree.0 ∷ [])
  graded_alone = subst (λ (some : List Node). IsGradedGoal names found term some) one_tree.1 goal_trees

  pub run-found : (name : List ℕ) (steps : ℕ) (most : Option ℕ) (variables answers : List ℕ) (ready : Ready) → AreGraded file_names found trees → variables ≡ query_names names term → answers ≡ query_answers names found term
      → ((tree : Node) → goals ≡ tree ∷ [] → ProgramMeetsNobody (program_with found.preds trees) → MeetsNobody tree → IsReady names variables most (shown answers (run (program_with found.preds trees) tree steps)) ready)
      → IsSolveFound name text goal steps most (Runs ready)
  run-found name steps most variables answers ready graded variables_are answers_are is_ready = (
    names,
    variables,
    shown answers (run (program_with found.preds trees) one_tree.0 steps),
    record {
      file_names = file_names;
      items = items;
      found = found;
      trees = trees;
      term = term;
      tree = one_tree.0;
      module_is = module_is;
      module_trees = graded;
      goal_is = goal_is;
      goal_tree = graded_alone;
      variables_are = variables_are;
      run_is = ap (λ (some : List ℕ). shown some (run (program_with found.preds trees) one_tree.0 steps)) answers_are;
    },
    is_ready one_tree.0 one_tree.1 (program_alone found.preds trees (module_alone text file_names items found module_is trees graded))
        (goal_alone text file_names items found module_is goal names term one_tree.0 goal_is graded_alone),
  )

-- What is wrong with the file, or with the goal, is said by a status that no run has.
refused-found : (name text goal : List ℕ) (steps : ℕ) (most : Option ℕ) (due : Due) (lines : List (List ℕ)) (status : ℕ) → due.lines ≡ lines → due.status ≡ status → limit_status < status → IsDue name text goal steps most lines status
    → IsSolveFound name text goal steps most (Lines due)
refused-found name text goal steps most due lines status same same' above is =
    (subst (λ (n : ℕ). limit_status < n) (sym same') above, due_by name text goal steps most due.lines lines due.status status same same' is)

pub fault-goal : (name text goal said line : List ℕ) (steps : ℕ) (most : Option ℕ) (status : ℕ) (fault : Fault) (due : Due) (Breaks : Refusal → Type 0) → said ≡ line → limit_status < status
    → ((refusal : Refusal) → Breaks refusal → IsDue name text goal steps most (refusal_line line refusal ∷ []) status) → IsRefusal Breaks fault → IsFaultDue status said fault due
    → IsSolveFound name text goal steps most (Lines due)
fault-goal name text goal said line steps most status (Refused refusal) due Breaks same above told breaks (lines, is) =
    refused-found name text goal steps most due (refusal_line line refusal ∷ []) status (lines ∙ ap (λ (some : List ℕ). refusal_line some refusal ∷ []) same) is above (told refusal breaks)
fault-goal name text goal said line steps most status NoMemory due Breaks same above told breaks other = absurd other

-- the same of the check of a file
pub fault-check : (name text said : List ℕ) (fault : Fault) (due : Due) (Breaks : Refusal → Type 0) → said ≡ name
    → ((refusal : Refusal) → Breaks refusal → Refuses fixed_names text refusal) → IsRefusal Breaks fault → IsFaultDue module_status said fault due → IsCheckDue name text due.lines due.status
fault-check name text said (Refused refusal) due Breaks same told breaks (lines, is) =
    check_due_by name text due.lines (refusal_line name refusal ∷ []) due.status module_status (lines ∙ ap (λ (some : List ℕ). refusal_line some refusal ∷ []) same) is
    (check_refused refusal (told refusal breaks))
fault-check name text said NoMemory due Breaks same told breaks other = absurd other
