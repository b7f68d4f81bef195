-- What a call has done, in each of its ends.
use Rattle.std.proofs.Common.{◌≡◌, ◌<◌, ◌≤◌, ◌⊎◌, ◌∙◌, ℕ, List, [], ap, sym, refl, subst, inl, inr, arith}
use Rattle.std.specs.Prelude.{Option, Some, None, Result, Ok, Err, IfOk}
use Rattle.std.proofs.lemmas.Option.{same_Some}
use Rattle.merc_base.specs.Outside.{Files, SinkState, file_named}
use Rattle.merc_meaning.specs.Trace.{Run}
use Rattle.merc_meaning.specs.Counting.{counted}
use Rattle.merc_transfer.specs.declared.writing.Cut.{Cut}
use Rattle.merc_transfer.specs.declared.writing.Cut.TheVariants.{Unwritten, NoMemory}
use Rattle.merc_transfer.specs.Writing.{PutsAll, PutsFront, Writes}
use Rattle.merc_solving.specs.Runs.{steps_made}
use Rattle.merc_solving.specs.RunLines.{run_lines, run_status}
use Rattle.merc_top.specs.Output.{IsAskedRun, IsOutput, FileOutput}
use Rattle.merc_transfer.specs.Statuses.{limit_status, unread_status, unwritten_status, no_memory_status, status_told}
use Rattle.merc_top.specs.Answer.{Answers, AreFiles, CountsSteps, NamesAbsent}
use Rattle.merc_top.specs.Asking.{AsksRun}
use Rattle.merc_solving.specs.Solving.{Solves}
use Rattle.merc_top.proofs.Requests.{solve-unique}
use Rattle.merc_top.proofs.OutputLaws.{IsAskedRun-unique}
use Rattle.merc_top.proofs.Dues.{IsDueStatus, run_status-small}
use Rattle.merc_top.proofs.Causes.{absent-exactly, asked_output, status-exactly}
use Rattle.merc_top.proofs.Truthful.{truthful}
use Rattle.merc_transfer.proofs.WritingLemmas.{puts_all-none, puts_front-all}

-- where the words name a file that is absent it counts as unread
absent_due : (words : List (List ℕ)) (told : Option Files) (files : Files) → AreFiles told files → (lines : List (List ℕ)) (status : ℕ) → IsOutput words files lines status
    → NamesAbsent words told → status ≡ unread_status
absent_due words None files fit lines status due absent = absurd absent
absent_due words (Some told) files fit lines status due absent = absent-exactly words told lines status (subst (λ (some : Files). IsOutput words some lines status) fit due) absent

absent_is_due : (words : List (List ℕ)) (told : Option Files) (files : Files) → AreFiles told files → NamesAbsent words told → IsOutput words files [] unread_status
absent_is_due words None files fit absent = absurd absent
absent_is_due words (Some told) files fit absent =
    subst (λ (some : Files). IsOutput words some [] unread_status) (sym fit)
    (inr (absent.0, absent.1, subst (λ (content : Option (List ℕ)). FileOutput absent.0 content [] unread_status) (sym absent.2) (refl, refl)))

not_below : (n m : ℕ) → m ≡ n → n < m → ⊥
not_below n m same below = omega (arith, same, below)

not_less : (n m : ℕ) → m ≡ n → n ≤ m
not_less n m same = omega (arith, same)

-- One call over some of the files that a shelf tells.
module _ (words : List (List ℕ)) (told : Option Files) (files : Files) (fit : AreFiles told files) (reads reads' : ℕ) (old new : SinkState) (count : ℕ) where
  -- The whole text was written.
  pub answers-done : (lines : List (List ℕ)) (status : ℕ) → reads' ≡ reads → IsDueStatus status → IsOutput words files lines status → PutsAll lines old new
      → (status ≤ limit_status → CountsSteps words files count) → Answers words told reads reads' old new count status
  answers-done lines status read small due puts steps =
      let not_unread : status ≡ unread_status → ⊥ = λ is. elim small as (λ _. ⊥) [ inl low ↦ omega (arith, low, is) | inr ten ↦ omega (arith, ten, is) ] in
      let not_unwritten : status ≡ unwritten_status → ⊥ = λ is. elim small as (λ _. ⊥) [ inl low ↦ omega (arith, low, is) | inr ten ↦ omega (arith, ten, is) ] in
      record {
        files = files;
        files_are = fit;
        reads_rise = not_less reads reads' read;
        writes_rise = not_less old.faults new.faults puts.faults;
        output = λ _ _ _. (lines, due, puts);
        exact = λ _ _ _ other. status-exactly words files lines status other due;
        counts = λ _ _ low. steps low;
        unread = λ is. absurd (not_unread is);
        read_failed = λ rose. absurd (not_below reads reads' read rose);
        absent = λ absent _. absent_due words told files fit lines status due absent;
        nothing_written = λ is. absurd (not_unread is);
        write_failed = (λ is. absurd (not_unwritten is), λ rose. absurd (not_below old.faults new.faults puts.faults rose));
        cut_short = λ is. absurd (not_unwritten is);
        front = inr (lines, status, due, puts_front-all lines old new puts);
        truth = truthful words files;
      }

  -- A write failed.
  pub answers-cut_short : (lines : List (List ℕ)) (due_status : ℕ) → reads' ≡ reads → IsDueStatus due_status → IsOutput words files lines due_status → PutsFront lines old new → old.faults < new.faults
      → Answers words told reads reads' old new count unwritten_status
  answers-cut_short lines due_status read small due front rose =
      let not_quiet : new.faults ≡ old.faults → ⊥ = λ same. not_below old.faults new.faults same rose in
      let not_unread : due_status ≡ unread_status → ⊥ = λ is. elim small as (λ _. ⊥) [ inl low ↦ omega (arith, low, is) | inr ten ↦ omega (arith, ten, is) ] in
      record {
        files = files;
        files_are = fit;
        reads_rise = not_less reads reads' read;
        writes_rise = omega (arith, rose);
        output = λ _ same _. absurd (not_quiet same);
        exact = λ _ same _. absurd (not_quiet same);
        counts = λ _ same _. absurd (not_quiet same);
        unread = λ is. absurd (omega (arith, is));
        read_failed = λ failed. absurd (not_below reads reads' read failed);
        absent = λ absent _. absurd (not_unread (absent_due words told files fit lines due_status due absent));
        nothing_written = λ is. absurd (omega (arith, is));
        write_failed = (λ _. rose, λ _. refl);
        cut_short = λ _. (lines, due_status, due, front);
        front = inr (lines, due_status, due, front);
        truth = truthful words files;
      }

  -- where no read failed, the file was not there
  quiet_due : (reads < reads') ⊎ ((reads' ≡ reads) × NamesAbsent words told) → reads' ≡ reads → IsOutput words files [] unread_status
  quiet_due (inl rose) read = absurd (not_below reads reads' read rose)
  quiet_due (inr absent) read = absent_is_due words told files fit absent.1

  unread_why : (reads < reads') ⊎ ((reads' ≡ reads) × NamesAbsent words told) → (reads < reads') ⊎ NamesAbsent words told
  unread_why (inl rose) = inl rose
  unread_why (inr absent) = inr absent.1

  unread_rises : (reads < reads') ⊎ ((reads' ≡ reads) × NamesAbsent words told) → reads ≤ reads'
  unread_rises (inl rose) = omega (arith, rose)
  unread_rises (inr absent) = not_less reads reads' absent.0

  -- The file was not read.
  pub answers-unread : (reads < reads') ⊎ ((reads' ≡ reads) × NamesAbsent words told) → new ≡ old → Answers words told reads reads' old new count unread_status
  answers-unread why same =
      let wrote : new.faults ≡ old.faults = ap (λ (sink : SinkState). sink.faults) same in
      record {
        files = files;
        files_are = fit;
        reads_rise = unread_rises why;
        writes_rise = not_less old.faults new.faults wrote;
        output = λ read _ _. ([], quiet_due why read, subst (λ (sink : SinkState). PutsAll [] old sink) (sym same) (puts_all-none old));
        exact = λ read _ _ other. status-exactly words files [] unread_status other (quiet_due why read);
        counts = λ _ _ low. absurd (omega (arith, low));
        unread = λ _. unread_why why;
        read_failed = λ _. refl;
        absent = λ _ _. refl;
        nothing_written = λ _. same;
        write_failed = (λ is. absurd (omega (arith, is)), λ rose. absurd (not_below old.faults new.faults wrote rose));
        cut_short = λ is. absurd (omega (arith, is));
        front = inl same;
        truth = truthful words files;
      }

  -- Memory was refused before anything was written.
  pub answers-no_memory : reads' ≡ reads → new ≡ old → Answers words told reads reads' old new count no_memory_status
  answers-no_memory read same =
      let wrote : new.faults ≡ old.faults = ap (λ (sink : SinkState). sink.faults) same in
      record {
        files = files;
        files_are = fit;
        reads_rise = not_less reads reads' read;
        writes_rise = not_less old.faults new.faults wrote;
        output = λ _ _ free. absurd (free refl);
        exact = λ _ _ free. absurd (free refl);
        counts = λ _ _ low. absurd (omega (arith, low));
        unread = λ is. absurd (omega (arith, is));
        read_failed = λ rose. absurd (not_below reads reads' read rose);
        absent = λ _ free. absurd (free refl);
        nothing_written = λ is. absurd (omega (arith, is));
        write_failed = (λ is. absurd (omega (arith, is)), λ rose. absurd (not_below old.faults new.faults wrote rose));
        cut_short = λ is. absurd (omega (arith, is));
        front = inl same;
        truth = truthful words files;
      }

  -- Memory was refused behind a front of what is due.
  pub answers-broken_off : (lines : List (List ℕ)) (due_status : ℕ) → reads' ≡ reads → IsOutput words files lines due_status → PutsFront lines old new → new.faults ≡ old.faults
      → Answers words told reads reads' old new count no_memory_status
  answers-broken_off lines due_status read due front wrote = record {
    files = files;
    files_are = fit;
    reads_rise = not_less reads reads' read;
    writes_rise = not_less old.faults new.faults wrote;
    output = λ _ _ free. absurd (free refl);
    exact = λ _ _ free. absurd (free refl);
    counts = λ _ _ low. absurd (omega (arith, low));
    unread = λ is. absurd (omega (arith, is));
    read_failed = λ rose. absurd (not_below reads reads' read rose);
    absent = λ _ free. absurd (free refl);
    nothing_written = λ is. absurd (omega (arith, is));
    write_failed = (λ is. absurd (omega (arith, is)), λ rose. absurd (not_below old.faults new.faults wrote rose));
    cut_short = λ is. absurd (omega (arith, is));
    front = inr (lines, due_status, due, front);
    truth = truthful words files;
  }

  -- What is due was written to its end or was not.
  pub answers-told : (lines : List (List ℕ)) (due_status : ℕ) (written : Result ℕ Cut) → reads' ≡ reads → IsDueStatus due_status → IsOutput words files lines due_status → Writes lines old new written
      → IfOk written (λ status. status ≡ due_status) → IfOk written (λ status. due_status ≤ limit_status → CountsSteps words files count)
      → Answers words told reads reads' old new count (status_told written)
  answers-told lines due_status (Ok status) read small due puts same steps =
      subst (λ (n : ℕ). Answers words told reads reads' old new count n) (sym same) (answers-done lines due_status read small due puts steps)
  answers-told lines due_status (Err Unwritten) read small due puts same steps = answers-cut_short lines due_status read small due puts.0 puts.1
  answers-told lines due_status (Err NoMemory) read small due puts same steps = answers-broken_off lines due_status read due puts.0 puts.1

  -- Where no run is asked nothing is said of the steps.
  steps-lines : (due_status : ℕ) (written : Result ℕ Cut)
      → ((names : List (List ℕ)) (variables : List ℕ) (most : Option ℕ) (asked : Run) → AsksRun words files names variables most asked → limit_status < due_status)
      → IfOk written (λ status. due_status ≤ limit_status → CountsSteps words files count)
  steps-lines due_status (Ok status) none = λ low names variables most asked asks. absurd (omega (arith, low, none names variables most asked asks))
  steps-lines due_status (Err cut) none = tt

  pub answers-lines : (lines : List (List ℕ)) (due_status : ℕ) (written : Result ℕ Cut) → reads' ≡ reads → IsDueStatus due_status → IsOutput words files lines due_status
      → ((names : List (List ℕ)) (variables : List ℕ) (most : Option ℕ) (asked : Run) → AsksRun words files names variables most asked → limit_status < due_status)
      → Writes lines old new written → IfOk written (λ status. status ≡ due_status) → Answers words told reads reads' old new count (status_told written)
  answers-lines lines due_status written read small due none puts same = answers-told lines due_status written read small due puts same (steps-lines due_status written none)

-- ---- runs

-- the words ask for one run, and for so many of its answers
pub asked-unique : (words : List (List ℕ)) (files : Files) (names names' : List (List ℕ)) (variables variables' : List ℕ) (most most' : Option ℕ) (asked asked' : Run)
    → AsksRun words files names variables most asked → AsksRun words files names' variables' most' asked' → (most ≡ most') × (asked ≡ asked')
asked-unique words files names names' variables variables' most most' asked asked' one other =
    let same = solve-unique words one.file one.goal other.file other.goal one.steps other.steps most most' one.request other.request in
    let text : one.text ≡ other.text = same_Some _ _ (sym one.content ∙ ap (λ (file : List ℕ). file_named file files) same.0 ∙ other.content) in
    let other_run =
    subst (λ (some : List ℕ). IsAskedRun some one.goal one.steps names' variables' asked') (sym text)
    (subst (λ (some : List ℕ). IsAskedRun other.text some one.steps names' variables' asked') (sym same.1)
    (subst (λ (some : ℕ). IsAskedRun other.text other.goal some names' variables' asked') (sym same.2) other.run_is)) in
    (same.3, (IsAskedRun-unique one.text one.goal one.steps names names' variables variables' asked asked' one.run_is other_run).2)

-- what is written of a run is written of its lines
solves-writes : (names : List (List ℕ)) (variables : List ℕ) (most : Option ℕ) (asked : Run) (old new : SinkState) (ticks ticks' : ℕ) (written : Result ℕ Cut)
    → Solves names variables most asked old new ticks ticks' written → Writes (run_lines names variables most asked) old new written × IfOk written (λ status. status ≡ run_status most asked)
solves-writes names variables most asked old new ticks ticks' (Ok status) solves = (solves.1, solves.0)
solves-writes names variables most asked old new ticks ticks' (Err cut) solves = (solves, tt)

-- each step of it is counted, and there is no other run
solves-steps : (words : List (List ℕ)) (files : Files) (names : List (List ℕ)) (variables : List ℕ) (most : Option ℕ) (asked : Run) (old new : SinkState) (ticks' : ℕ) (written : Result ℕ Cut)
    → AsksRun words files names variables most asked → Solves names variables most asked old new 0 ticks' written
    → IfOk written (λ status. run_status most asked ≤ limit_status → CountsSteps words files ticks')
solves-steps words files names variables most asked old new ticks' (Ok status) asks solves = λ low names' variables' most' other asks_other.
    let same = asked-unique words files names names' variables variables' most most' asked other asks asks_other in
    solves.2 ∙ ap (λ (some : Option ℕ). counted 0 (steps_made some asked)) same.0 ∙ ap (λ (run : Run). counted 0 (steps_made most' run)) same.1
solves-steps words files names variables most asked old new ticks' (Err cut) asks solves = tt

pub answers-run : (words : List (List ℕ)) (told : Option Files) (files : Files) → AreFiles told files → (reads reads' : ℕ) (old new : SinkState)
    (names : List (List ℕ)) (variables : List ℕ) (most : Option ℕ) (asked : Run) (ticks' : ℕ) (written : Result ℕ Cut) → reads' ≡ reads → AsksRun words files names variables most asked
    → Solves names variables most asked old new 0 ticks' written → Answers words told reads reads' old new ticks' (status_told written)
answers-run words told files fit reads reads' old new names variables most asked ticks' written read asks solves =
    let writes = solves-writes names variables most asked old new 0 ticks' written solves in
    answers-told words told files fit reads reads' old new ticks' (run_lines names variables most asked) (run_status most asked) written read
    (inl (run_status-small most asked)) (asked_output words files names variables most asked asks) writes.0 writes.1
    (solves-steps words files names variables most asked old new ticks' written asks solves)
