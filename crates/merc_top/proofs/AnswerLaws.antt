-- What a call shows of each status by itself, and of what was written.
use Rattle.std.proofs.Common.{◌≡◌, ◌≢◌, ◌↔◌, ℕ, List, sym, subst, inl, inr}
use Rattle.std.specs.Prelude.{Option, Some, None, IfSome}
use Rattle.merc_base.specs.Outside.{Files, SinkState}
use Rattle.merc_transfer.specs.Statuses.{accepted_status, solved_status, unsolved_status, raised_status, limit_status, module_status, goal_status, usage_status, too_long_status, no_memory_status}
use Rattle.merc_top.specs.Words.{IsNoRequest}
use Rattle.merc_transfer.specs.Writing.{PutsFront}
use Rattle.merc_top.specs.Output.{IsOutput}
use Rattle.merc_top.specs.Answer.{Answers, AreFiles, WroteFront}
use Rattle.merc_transfer.proofs.WritingLemmas.{puts_front-none}
use Rattle.merc_top.proofs.OutputLaws.{IsOutput-unique}
use Rattle.merc_top.proofs.Causes.{NamesChecked, IsCheckedModule, RunsTo, Succeeds, IsUnsolved, IsRaised, IsCutAtLimit, BreaksModule, BreaksGoal, NamesTooLong, solved-exactly, checked-exactly, unsolved-exactly, raised-exactly, limit-exactly, module_refused-exactly, goal_refused-exactly, usage-exactly, too_long-exactly}

-- a status that is due over files that are told has its cause over them
over_told : (words : List (List ℕ)) (told : Option Files) (status due : ℕ) (Why : Files → Type 0)
    → ((files : Files) (lines : List (List ℕ)) → IsOutput words files lines status → (status ≡ due) ↔ Why files)
    → (files : Files) → AreFiles told files → (lines : List (List ℕ)) → IsOutput words files lines status → IfSome told (λ files. (status ≡ due) ↔ Why files)
over_told words None status due Why exactly files fit lines output = tt
over_told words (Some told) status due Why exactly files fit lines output =
    exactly told lines (subst (λ some. IsOutput words some lines status) fit output)

-- the same of a file that is checked
checked_told : (words : List (List ℕ)) (told : Option Files) (status : ℕ) (files : Files) → AreFiles told files → (lines : List (List ℕ)) → IsOutput words files lines status
    → IfSome told (λ files. (text : List ℕ) → NamesChecked words files text → (status ≡ accepted_status) ↔ IsCheckedModule words files)
checked_told words None status files fit lines output = tt
checked_told words (Some told) status files fit lines output =
    checked-exactly words told lines status (subst (λ some. IsOutput words some lines status) fit output)

-- what was written is a front of whatever is due over files that are told
front_of_due : (words : List (List ℕ)) (told : Option Files) (files : Files) → AreFiles told files → (old new : SinkState) → WroteFront words files old new
    → (lines : List (List ℕ)) (due : ℕ) → IfSome told (λ files. IsOutput words files lines due → PutsFront lines old new)
front_of_due words None files fit old new wrote lines due = tt
front_of_due words (Some told) files fit old new (lines', due', output, front) lines due = λ also.
    let same = IsOutput-unique words told lines' lines due' due (subst (λ (some : Files). IsOutput words some lines' due') fit output) also in
    subst (λ (some : List (List ℕ)). PutsFront some old new) same.0 front

nothing_of_due : (words : List (List ℕ)) (told : Option Files) (old new : SinkState) → new ≡ old
    → (lines : List (List ℕ)) (due : ℕ) → IfSome told (λ files. IsOutput words files lines due → PutsFront lines old new)
nothing_of_due words None old new same lines due = tt
nothing_of_due words (Some told) old new same lines due = λ _. subst (λ (sink : SinkState). PutsFront lines old sink) (sym same) (puts_front-none lines old)

-- one call without a fault
module _ (words : List (List ℕ)) (told : Option Files) (reads reads' : ℕ) (old new : SinkState) (count status : ℕ)
    (answers : Answers words told reads reads' old new count status) where
  -- Whatever is due over the files that are told, what was written is a front of it.
  pub Answers-front : (lines : List (List ℕ)) (due : ℕ) → IfSome told (λ files. IsOutput words files lines due → PutsFront lines old new)
  Answers-front lines due = elim answers.front as (λ _. IfSome told (λ files. IsOutput words files lines due → PutsFront lines old new)) [
    | inl same ↦ nothing_of_due words told old new same lines due
    | inr wrote ↦ front_of_due words told answers.files answers.files_are old new wrote lines due
  ]

  module _ (read : reads' ≡ reads) (wrote : new.faults ≡ old.faults) (free : status ≢ no_memory_status) where
    exactly : (due : ℕ) (Why : Files → Type 0) → ((files : Files) (lines : List (List ℕ)) → IsOutput words files lines status → (status ≡ due) ↔ Why files)
        → IfSome told (λ files. (status ≡ due) ↔ Why files)
    exactly due Why cause =
        let output = answers.output read wrote free in
        over_told words told status due Why cause answers.files answers.files_are output.0 output.1

    pub Answers-solved : IfSome told (λ files. (status ≡ solved_status) ↔ Succeeds words files)
    Answers-solved = exactly solved_status (λ files. Succeeds words files) (λ files lines. solved-exactly words files lines status)

    -- where the words ask for a check
    pub Answers-checked : IfSome told (λ files. (text : List ℕ) → NamesChecked words files text → (status ≡ accepted_status) ↔ IsCheckedModule words files)
    Answers-checked =
        let output = answers.output read wrote free in
        checked_told words told status answers.files answers.files_are output.0 output.1

    pub Answers-unsolved : IfSome told (λ files. (status ≡ unsolved_status) ↔ RunsTo words files IsUnsolved)
    Answers-unsolved = exactly unsolved_status (λ files. RunsTo words files IsUnsolved) (λ files lines. unsolved-exactly words files lines status)

    pub Answers-raised : IfSome told (λ files. (status ≡ raised_status) ↔ RunsTo words files IsRaised)
    Answers-raised = exactly raised_status (λ files. RunsTo words files IsRaised) (λ files lines. raised-exactly words files lines status)

    pub Answers-limit : IfSome told (λ files. (status ≡ limit_status) ↔ RunsTo words files IsCutAtLimit)
    Answers-limit = exactly limit_status (λ files. RunsTo words files IsCutAtLimit) (λ files lines. limit-exactly words files lines status)

    pub Answers-module_refused : IfSome told (λ files. (status ≡ module_status) ↔ BreaksModule words files)
    Answers-module_refused = exactly module_status (λ files. BreaksModule words files) (λ files lines. module_refused-exactly words files lines status)

    pub Answers-goal_refused : IfSome told (λ files. (status ≡ goal_status) ↔ BreaksGoal words files)
    Answers-goal_refused = exactly goal_status (λ files. BreaksGoal words files) (λ files lines. goal_refused-exactly words files lines status)

    -- of any shelf
    pub Answers-usage : (status ≡ usage_status) ↔ IsNoRequest words
    Answers-usage = let output = answers.output read wrote free in usage-exactly words answers.files output.0 status output.1

    pub Answers-too_long : IfSome told (λ files. (status ≡ too_long_status) ↔ NamesTooLong words files)
    Answers-too_long = exactly too_long_status (λ files. NamesTooLong words files) (λ files lines. too_long-exactly words files lines status)
