-- Worked examples of whole calls: what holds of them, and what does not.
use Rattle.std.specs.Prelude.{◌≡◌, ◌≢◌, ◌<◌, ◌≤◌, ◌++◌, ℕ, IsUtf8, replicate, List, [], ◌∷◌, length, Option, Some, None, Ok, Err, codes, refl}
use Rattle.std.proofs.Common.{◌∙◌, arith, lit<, slice_index, ap, sym, subst, inl, inr}
use Rattle.std.proofs.Math.Utf8.{encode}
use Rattle.std.proofs.lemmas.List.{append-nil, length-replicate}
use Rattle.merc_base.specs.Outside.{Files, SinkState, file_named}
use Rattle.merc_base.specs.Names.{fixed_names}
use Rattle.merc_base.specs.declared.category.Category.TheVariants.{Det}
use Rattle.merc_tree.specs.Term.{Term}
use Rattle.merc_tree.specs.declared.declarations.Clause.{Clause}
use Rattle.merc_tree.specs.declared.declarations.PredDecl.{PredDecl}
use Rattle.merc_tree.specs.declared.declarations.TypeDef.{TypeDef}
use Rattle.merc_graded_tree.specs.Nodes.{Node}
use Rattle.merc_check.specs.Accepted.{AreGraded}
use Rattle.merc_check.specs.Checked.{IsAccepted}
use Rattle.merc_meaning.specs.Trace.{Run, Ends, RunDone}
use Rattle.merc_meaning.specs.Counting.{counted}
use Rattle.merc_top.specs.declared.words.Request.{Request}
use Rattle.merc_top.specs.declared.words.Request.TheVariants.{Solve, Check}
use Rattle.merc_top.specs.Words.{IsSolve, IsCheck, IsRequest, default_steps, file_of, usage_line}
use Rattle.merc_transfer.specs.Loading.{file_limit}
use Rattle.merc_transfer.specs.Writing.{Gives, PutsFront, text_of}
use Rattle.merc_transfer.specs.Writing.Gives.{stops, piece}
use Rattle.merc_transfer.proofs.WritingExamples.{puts_whole, told}
use Rattle.merc_transfer.proofs.WritingLemmas.{puts_front-all}
use Rattle.merc_top.specs.Output.{IsAskedRun, IsOutput}
use Rattle.merc_transfer.specs.Statuses.{accepted_status, solved_status, limit_status, module_status, goal_status, usage_status, unread_status, unwritten_status, no_memory_status, too_long_status}
use Rattle.merc_top.specs.Answer.{AreFiles, NamesAbsent, IsStatusDue, WroteFront, CountsSteps, Answers}
use Rattle.merc_top.specs.Asking.{AsksRun}
use Rattle.merc_top.specs.declared.answering.Found.TheVariants.{Lines}
use Rattle.merc_top.specs.declared.answering.Trouble.TheVariants.{Unread, NoMemory}
use Rattle.merc_top.specs.Due.{Finds}
use Rattle.merc_solving.specs.Runs.{steps_made}
use Rattle.merc_top.proofs.Causes.{NamesTooLong, Names, NamesChecked, BreaksModule, BreaksGoal, IsCheckedModule, RunsTo, IsSolved, Succeeds}
use Rattle.merc_top.proofs.Causes.BreaksModule.{module_rule, checked_rule}
use Rattle.merc_top.proofs.AnswerLaws.{Answers-front, Answers-checked, Answers-goal_refused}
use Rattle.merc_top.proofs.CallEnds.{answers-cut_short, answers-done, answers-no_memory, answers-unread, asked-unique}
use Rattle.merc_top.proofs.Truthful.{truthful}
use Rattle.merc_top.proofs.OutputLaws.{IsOutput-unique}
use Rattle.merc_top.proofs.Causes.{solved-exactly, module_refused-exactly, goal_refused-exactly, absent-exactly, status-exactly}
use Rattle.merc_top.proofs.OutputExamples.{one_answer}
use Rattle.merc_top.proofs.CheckingExamples.{tree}
use Rattle.merc_top.proofs.DueExamples.{bad_token, lone_byte-refused, one_text, one_names, one_module, one_lines, run_names, first_output, IsDue-module_refused, IsDue-runs, IsCheckDue-refused, IsCheckDue-accepted}
use Rattle.merc_top.proofs.Requests.{differ, shown, solve-no_check, solve-unique}
use Rattle.merc_top.proofs.WordsExamples.{IsNoRequest-nothing, check_words, check-plain, solve-plain, utf8-goal, utf8-one, IsSolve-example, IsCheck-example}

abbrev words_for : List ℕ → List ℕ → List (List ℕ)
words_for file goal = codes "solve" ∷ file ∷ goal ∷ []

-- a module that runs, and a text of one byte that begins no token
abbrev files : Files
files = (codes "one.m", one_text) ∷ (codes "bad.m", 255 ∷ []) ∷ []

abbrev first_words : List (List ℕ)
first_words = words_for (codes "one.m") (codes "add(2, 3, X)")

abbrev closed_words : List (List ℕ)
closed_words = words_for (codes "one.m") (codes "add(2, 3, 5)")

abbrev two_words : List (List ℕ)
two_words = words_for (codes "two.m") (codes "add(2, 3, X)")

abbrev bad_words : List (List ℕ)
bad_words = words_for (codes "bad.m") (codes "add(2, 3, X)")

utf8-bad : IsUtf8 (codes "bad.m")
unfolding encode
utf8-bad = (codes "bad.m", (refl, refl))

utf8-two : IsUtf8 (codes "two.m")
unfolding encode
utf8-two = (codes "two.m", (refl, refl))

utf8-closed : IsUtf8 (codes "add(2, 3, 5)")
unfolding encode
utf8-closed = (codes "add(2, 3, 5)", (refl, refl))

bad_request : IsSolve bad_words (codes "bad.m") (codes "add(2, 3, X)") default_steps None
bad_request = solve-plain (codes "bad.m") (codes "add(2, 3, X)") refl refl utf8-bad utf8-goal

two_request : IsSolve (words_for (codes "two.m") (codes "add(2, 3, X)")) (codes "two.m") (codes "add(2, 3, X)") default_steps None
two_request = solve-plain (codes "two.m") (codes "add(2, 3, X)") refl refl utf8-two utf8-goal

closed_request : IsSolve closed_words (codes "one.m") (codes "add(2, 3, 5)") default_steps None
closed_request = solve-plain (codes "one.m") (codes "add(2, 3, 5)") refl refl utf8-one utf8-closed

one_within : length one_text ≤ file_limit
unfolding file_limit
one_within = omega arith

bad_within : 1 ≤ file_limit
unfolding file_limit
bad_within = omega arith

-- ---- what is due

abbrev bad_output : List (List ℕ)
bad_output = codes "bad.m:1: rule 1: bad token\n" ∷ []

pub IsOutput-refused : IsOutput bad_words files bad_output module_status
IsOutput-refused = inr (Solve (shown (codes "bad.m")) (shown (codes "add(2, 3, X)")) default_steps None, bad_request, inr (bad_within, IsDue-module_refused (codes "add(2, 3, X)") default_steps None))

pub IsOutput-refused_no_run : (lines : List (List ℕ)) → IsOutput bad_words files lines solved_status → ⊥
IsOutput-refused_no_run lines due = differ solved_status module_status (omega arith) (IsOutput-unique bad_words files lines bad_output solved_status module_status due IsOutput-refused).1

-- the same file is checked
abbrev checked_bad_words : List (List ℕ)
checked_bad_words = codes "check" ∷ codes "bad.m" ∷ []

checked_bad : IsCheck checked_bad_words (codes "bad.m")
checked_bad = check-plain (codes "bad.m") refl utf8-bad

pub IsOutput-check_refused : IsOutput checked_bad_words files bad_output module_status
IsOutput-check_refused = inr (Check (shown (codes "bad.m")), checked_bad, inr (bad_within, IsCheckDue-refused))

pub IsOutput-check_refused_alone : (lines : List (List ℕ)) → IsOutput checked_bad_words files lines accepted_status → ⊥
IsOutput-check_refused_alone lines due =
    differ accepted_status module_status (omega arith) (IsOutput-unique checked_bad_words files lines bad_output accepted_status module_status due IsOutput-check_refused).1

pub IsOutput-absent : IsOutput (words_for (codes "two.m") (codes "add(2, 3, X)")) files [] unread_status
IsOutput-absent = inr (Solve (shown (codes "two.m")) (shown (codes "add(2, 3, X)")) default_steps None, two_request, (refl, refl))

pub IsOutput-too_long : (n : ℕ) → file_limit < n → IsOutput first_words ((codes "one.m", replicate n 10) ∷ []) (codes "one.m: longer than 1048576 bytes\n" ∷ []) too_long_status
IsOutput-too_long n long =
    inr (Solve (shown (codes "one.m")) (shown (codes "add(2, 3, X)")) default_steps None, IsSolve-example, inl (subst (λ m. file_limit < m) (sym (length-replicate n 10)) long, refl, refl))

pub IsOutput-usage : IsOutput [] files (usage_line ∷ []) usage_status
IsOutput-usage = inl (IsNoRequest-nothing, refl, refl)

pub IsStatusDue-example : IsStatusDue bad_words files module_status
IsStatusDue-example = (bad_output, IsOutput-refused)

pub IsStatusDue-counterexample : IsStatusDue bad_words files solved_status → ⊥
IsStatusDue-counterexample due = IsOutput-refused_no_run due.0 due.1

-- ---- files and names

pub AreFiles-example : AreFiles (Some files) files
AreFiles-example = refl

pub AreFiles-untold : AreFiles None files
AreFiles-untold = tt

pub AreFiles-counterexample : AreFiles (Some files) [] → ⊥
AreFiles-counterexample same = cc

-- a file that these words name is the one named here
first_file : (request : Request) → IsRequest first_words request → file_of request ≡ codes "one.m"
first_file (Solve file goal steps most) request = (solve-unique first_words file.now goal.now (codes "one.m") (codes "add(2, 3, X)") steps default_steps most None request IsSolve-example).0
first_file (Check file) request = absurd (solve-no_check first_words (codes "one.m") (codes "add(2, 3, X)") file.now default_steps None IsSolve-example request)

some_injective : (text other : List ℕ) → Some text ≡ Some other → text ≡ other
some_injective text other same = cc

-- so the content that it has is the text above
first_content : (request : Request) (text : List ℕ) → IsRequest first_words request → file_named (file_of request) files ≡ Some text → text ≡ one_text
first_content request text asked content =
    let found : file_named (codes "one.m") files ≡ Some text = subst (λ name. file_named name files ≡ Some text) (first_file request asked) content in
    sym (some_injective one_text text found)

pub NamesAbsent-example : NamesAbsent (words_for (codes "two.m") (codes "add(2, 3, X)")) (Some files)
NamesAbsent-example = (Solve (shown (codes "two.m")) (shown (codes "add(2, 3, X)")) default_steps None, two_request, refl)

pub NamesAbsent-counterexample : NamesAbsent first_words (Some files) → ⊥
NamesAbsent-counterexample (request, asked, absent) =
    let found : Some one_text ≡ None = subst (λ name. file_named name files ≡ None) (first_file request asked) absent in cc

pub NamesTooLong-example : (n : ℕ) → file_limit < n → NamesTooLong first_words ((codes "one.m", replicate n 10) ∷ [])
NamesTooLong-example n long = record {
  request = Solve (shown (codes "one.m")) (shown (codes "add(2, 3, X)")) default_steps None;
  text = replicate n 10;
  asked = IsSolve-example;
  content = refl;
  past = subst (λ m. file_limit < m) (sym (length-replicate n 10)) long;
}

pub NamesTooLong-counterexample : NamesTooLong first_words files → ⊥
NamesTooLong-counterexample names =
    let same = first_content names.request names.text names.asked names.content in
    let past : file_limit < length one_text = subst (λ text. file_limit < length text) same names.past in
    omega (arith, one_within)

pub Names-example : Names first_words files one_text (codes "add(2, 3, X)")
Names-example = record { file = codes "one.m"; steps = default_steps; most = None; request = IsSolve-example; content = refl; within = one_within }

pub NamesChecked-example : NamesChecked check_words files one_text
NamesChecked-example = record { file = codes "one.m"; request = IsCheck-example; content = refl; within = one_within }

-- who asks for a goal asks for no check
pub NamesChecked-counterexample : (text : List ℕ) → NamesChecked first_words files text → ⊥
NamesChecked-counterexample text names = solve-no_check first_words (codes "one.m") (codes "add(2, 3, X)") names.file default_steps None IsSolve-example names.request

NamesChecked-bad : NamesChecked checked_bad_words files (255 ∷ [])
NamesChecked-bad = record { file = codes "bad.m"; request = checked_bad; content = refl; within = bad_within }

Names-bad : Names bad_words files (255 ∷ []) (codes "add(2, 3, X)")
Names-bad = record { file = codes "bad.m"; steps = default_steps; most = None; request = bad_request; content = refl; within = bad_within }

-- the other file's text
pub Names-counterexample : Names first_words files (255 ∷ []) (codes "add(2, 3, X)") → ⊥
Names-counterexample names =
    let same : 255 ∷ [] ≡ one_text = first_content (Solve (shown names.file) (shown (codes "add(2, 3, X)")) names.steps names.most) (255 ∷ []) names.request names.content in
    differ 58 255 (omega arith) (sym (ap (λ (text : List ℕ). slice_index text 0) same))

-- ---- why a status is due

pub BreaksModule-example : BreaksModule bad_words files
BreaksModule-example = module_rule (255 ∷ []) (codes "add(2, 3, X)") bad_token Names-bad lone_byte-refused

pub BreaksModule-check : BreaksModule checked_bad_words files
BreaksModule-check = checked_rule (255 ∷ []) bad_token NamesChecked-bad lone_byte-refused

-- so it is not accepted
pub IsCheckedModule-counterexample : IsCheckedModule checked_bad_words files → ⊥
IsCheckedModule-counterexample checked =
    differ accepted_status module_status (omega arith) (sym ((solved-exactly checked_bad_words files bad_output module_status IsOutput-check_refused).1 (inr checked)))

pub BreaksGoal-counterexample : BreaksGoal bad_words files → ⊥
BreaksGoal-counterexample breaks = differ module_status goal_status (omega arith) ((goal_refused-exactly bad_words files bad_output module_status IsOutput-refused).1 breaks)

pub Succeeds-counterexample : Succeeds bad_words files → ⊥
Succeeds-counterexample succeeds = differ solved_status module_status (omega arith) (sym ((solved-exactly bad_words files bad_output module_status IsOutput-refused).1 succeeds))

pub RunsTo-counterexample : RunsTo bad_words files IsSolved → ⊥
RunsTo-counterexample solves = Succeeds-counterexample (inl solves)

-- Where the goal asks for the run that has one step and one answer,
module _ (asked : IsAskedRun one_text (codes "add(2, 3, X)") default_steps run_names (0 ∷ []) one_answer) where
  pub AsksRun-example : AsksRun first_words files run_names (0 ∷ []) None one_answer
  AsksRun-example = record { file = codes "one.m"; goal = codes "add(2, 3, X)"; text = one_text; steps = default_steps; request = IsSolve-example; content = refl; within = one_within; run_is = asked }

  -- it asks for no other;
  pub AsksRun-counterexample : AsksRun first_words files run_names (0 ∷ []) None (Ends RunDone) → ⊥
  AsksRun-counterexample other =
      let same : one_answer ≡ Ends RunDone = (asked-unique first_words files run_names run_names (0 ∷ []) (0 ∷ []) None None one_answer (Ends RunDone) AsksRun-example other).1 in cc

  pub RunsTo-example : RunsTo first_words files IsSolved
  RunsTo-example = record { names = run_names; variables = 0 ∷ []; most = None; asked = one_answer; asks = AsksRun-example; fits = inr (refl, omega arith, refl) }

  pub Succeeds-example : Succeeds first_words files
  Succeeds-example = inl RunsTo-example

  pub IsOutput-runs : IsOutput first_words files first_output solved_status
  IsOutput-runs = inr (Solve (shown (codes "one.m")) (shown (codes "add(2, 3, X)")) default_steps None, IsSolve-example, inr (one_within, IsDue-runs (codes "add(2, 3, X)") default_steps asked))

  pub BreaksModule-counterexample : BreaksModule first_words files → ⊥
  BreaksModule-counterexample breaks =
      differ solved_status module_status (omega arith) ((module_refused-exactly first_words files first_output solved_status IsOutput-runs).1 breaks)

  -- and one step is counted.
  pub CountsSteps-example : CountsSteps first_words files 1
  CountsSteps-example = λ names variables most other asks.
      let same = asked-unique first_words files run_names names (0 ∷ []) variables None most one_answer other AsksRun-example asks in
      ap (λ (some : Option ℕ). counted 0 (steps_made some one_answer)) same.0 ∙ ap (λ (run : Run). counted 0 (steps_made most run)) same.1

  pub CountsSteps-counterexample : CountsSteps first_words files 2 → ⊥
  CountsSteps-counterexample counts = let same : 2 ≡ 1 = counts run_names (0 ∷ []) None one_answer AsksRun-example in omega (arith, same)

  -- So a call that counts another number is refused.
  pub Answers-miscounted : (new : List ℕ) (pieces : List (List ℕ)) → Answers first_words (Some files) 3 3 (told [] [] 2) (told new pieces 2) 2 solved_status → ⊥
  Answers-miscounted new pieces answers =
      CountsSteps-counterexample (subst (λ (some : Files). CountsSteps first_words some 2) answers.files_are (answers.counts refl refl (omega arith)))

not_unread : ◌≡◌ {A = ℕ} module_status unread_status → ⊥
not_unread same = omega arith

-- ---- what is found before anything is written

pub Finds-example : Finds bad_words (Some files) 3 3 (Ok (Lines (record { status = 4; lines = bad_output })))
Finds-example = (refl, inl (lit< tt), (files, refl, IsOutput-refused, λ _ _ _ _ _. lit< tt))

-- a read failed
pub Finds-counterexample : Finds bad_words (Some files) 3 4 (Ok (Lines (record { status = 4; lines = bad_output }))) → ⊥
Finds-counterexample found = differ 3 4 (omega arith) (sym found.0)

pub Finds-absent : Finds two_words (Some files) 3 3 (Err Unread)
Finds-absent = inr (refl, NamesAbsent-example)

pub Finds-not_absent : Finds bad_words (Some files) 3 3 (Err Unread) → ⊥
Finds-not_absent (inl failed) = omega arith
Finds-not_absent (inr absent) = not_unread (absent-exactly bad_words files bad_output module_status IsOutput-refused absent.1)

pub Finds-no_memory : Finds bad_words (Some files) 3 3 (Err NoMemory)
Finds-no_memory = refl

-- ---- what one call has done

abbrev bad_line : List ℕ
bad_line = codes "bad.m:1: rule 1: bad token\n"

no_run : (status : ℕ) → status ≡ module_status → status ≤ limit_status → CountsSteps bad_words files 0
no_run status same low = absurd (omega (arith, same, low))

pub Answers-example : Answers bad_words (Some files) 3 3 (told (codes ">") [] 2) (told (codes ">bad.m:1: rule 1: bad token\n") (bad_line ∷ []) 2) 0 module_status
Answers-example = record {
  files = files;
  files_are = refl;
  reads_rise = omega arith;
  writes_rise = omega arith;
  output = λ _ _ _. (bad_output, IsOutput-refused, puts_whole bad_output (told (codes ">") [] 2) (omega arith, tt));
  exact = λ _ _ _ due. status-exactly bad_words files bad_output module_status due IsOutput-refused;
  counts = λ _ _ low. no_run module_status refl low;
  unread = λ same. absurd (not_unread same);
  read_failed = λ failed. absurd (omega arith);
  absent = λ absent _. absent-exactly bad_words files bad_output module_status IsOutput-refused absent;
  nothing_written = λ same. absurd (not_unread same);
  write_failed = (λ same. absurd (omega arith), λ failed. absurd (omega arith));
  cut_short = λ same. absurd (omega arith);
  front = inr (bad_output, module_status, IsOutput-refused, puts_front-all bad_output _ _ (puts_whole bad_output (told (codes ">") [] 2) (omega arith, tt)));
  truth = truthful bad_words files;
}

-- a sink that took five bytes of the line
abbrev cut_sink : ℕ → SinkState
cut_sink faults = told (codes "bad.m") (bad_line ∷ []) faults

cut_gives : Gives bad_output (bad_line ∷ []) (codes ":1: rule 1: bad token\n")
cut_gives = piece bad_line [] [] (codes ":1: rule 1: bad token\n") 5 (omega arith) (omega arith) (stops (codes ":1: rule 1: bad token\n" ∷ []))

cut_puts : (faults : ℕ) → PutsFront bad_output (told [] [] 2) (cut_sink faults)
cut_puts faults = record { left = codes ":1: rule 1: bad token\n"; puts = record { front = codes "bad.m"; whole = refl; written = refl; pieces = bad_line ∷ []; gives = cut_gives; given = refl } }

-- the file's name alone
pub WroteFront-example : WroteFront bad_words files (told [] [] 2) (cut_sink 3)
WroteFront-example = (bad_output, module_status, IsOutput-refused, cut_puts 3)

-- of another line
pub WroteFront-counterexample : WroteFront bad_words files (told [] [] 2) (told (codes "one.m") (bad_line ∷ []) 3) → ⊥
WroteFront-counterexample (lines, due, output, front) =
    let same = IsOutput-unique bad_words files lines bad_output due module_status output IsOutput-refused in
    let puts : PutsFront bad_output (told [] [] 2) (told (codes "one.m") (bad_line ∷ []) 3) = subst (λ (some : List (List ℕ)). PutsFront some (told [] [] 2) (told (codes "one.m") (bad_line ∷ []) 3)) same.0 front in
    let written = some_injective (codes "one.m") puts.puts.front puts.puts.written in
    let whole : codes "one.m" ++ puts.left ≡ text_of bad_output = subst (λ (front : List ℕ). front ++ puts.left ≡ text_of bad_output) (sym written) puts.puts.whole in
    differ 98 111 (omega arith) (sym (ap (λ (text : List ℕ). slice_index text 0) whole))

-- a write failed behind the file's name
pub Answers-cut_short : Answers bad_words (Some files) 3 3 (told [] [] 2) (cut_sink 3) 0 unwritten_status
Answers-cut_short = answers-cut_short bad_words (Some files) files refl 3 3 (told [] [] 2) (cut_sink 3) 0 bad_output module_status refl (inl (omega arith)) IsOutput-refused (cut_puts 3) (omega arith)

-- the file is not there, or a read failed
pub Answers-absent : (sink : SinkState) → Answers two_words (Some files) 3 3 sink sink 0 unread_status
Answers-absent sink = answers-unread two_words (Some files) files refl 3 3 sink sink 0 (inr (refl, NamesAbsent-example)) refl

pub Answers-read_failed : (sink : SinkState) → Answers bad_words (Some files) 3 4 sink sink 0 unread_status
Answers-read_failed sink = answers-unread bad_words (Some files) files refl 3 4 sink sink 0 (inl (omega arith)) refl

-- then nothing is written, and there is no other status
pub Answers-unread_writes : Answers two_words (Some files) 3 3 (told (codes ">") [] 2) (told (codes ">two.m") (codes "two.m" ∷ []) 2) 0 unread_status → ⊥
Answers-unread_writes answers =
    let nothing : Some (codes ">two.m") ≡ Some (codes ">") = ap (λ (sink : SinkState). sink.written) (answers.nothing_written refl) in cc

pub Answers-read_failed_alone : (old new : SinkState) → Answers bad_words (Some files) 3 4 old new 0 module_status → ⊥
Answers-read_failed_alone old new answers = not_unread (answers.read_failed (omega arith))

pub Answers-absent_solved : (old new : SinkState) → Answers two_words (Some files) 3 3 old new 0 solved_status → ⊥
Answers-absent_solved old new answers = differ solved_status unread_status (omega arith) (answers.absent NamesAbsent-example (λ same. absurd (omega arith)))

-- the file is there, and no read failed
pub Answers-not_unread : (old new : SinkState) → Answers bad_words (Some files) 3 3 old new 0 unread_status → ⊥
Answers-not_unread old new answers = elim (answers.unread refl) [ inl failed ↦ omega (arith, failed) | inr absent ↦ not_unread (absent-exactly bad_words files bad_output module_status IsOutput-refused absent) ]

-- memory may be refused at any time
pub Answers-no_memory : (sink : SinkState) → Answers bad_words (Some files) 3 3 sink sink 0 no_memory_status
Answers-no_memory sink = answers-no_memory bad_words (Some files) files refl 3 3 sink sink 0 refl refl

-- a write failed, and the status does not say so
pub Answers-unsaid : Answers bad_words (Some files) 3 3 (told [] [] 2) (cut_sink 3) 0 module_status → ⊥
Answers-unsaid answers = let said : module_status ≡ unwritten_status = answers.write_failed.1 (omega arith) in omega (arith, said)

-- a count of faults fell
pub Answers-reads_fell : (old new : SinkState) (count status : ℕ) → Answers bad_words (Some files) 3 2 old new count status → ⊥
Answers-reads_fell old new count status answers = let rise : 3 ≤ 2 = answers.reads_rise in omega (arith, rise)

pub Answers-writes_fell : (status : ℕ) → Answers bad_words (Some files) 3 3 (told [] [] 2) (cut_sink 1) 0 status → ⊥
Answers-writes_fell status answers = let rise : 2 ≤ 1 = answers.writes_rise in omega (arith, rise)

-- the answers are of other files than those that are told
pub Answers-other_files : (old new : SinkState) (status : ℕ) (answers : Answers bad_words (Some files) 3 3 old new 0 status) → answers.files ≡ [] → ⊥
Answers-other_files old new status answers none = let same : ◌≡◌ {A = Files} [] files = sym none ∙ answers.files_are in cc

-- another line was written
pub Answers-counterexample : (pieces : List (List ℕ)) (status : ℕ) → Answers bad_words (Some files) 3 3 (told [] [] 2) (told (codes "bad.m:2: rule 1: bad token\n") pieces 2) 0 status → ⊥
Answers-counterexample pieces status answers =
    let puts : PutsFront bad_output (told [] [] 2) (told (codes "bad.m:2: rule 1: bad token\n") pieces 2) = Answers-front bad_words (Some files) 3 3 (told [] [] 2) (told (codes "bad.m:2: rule 1: bad token\n") pieces 2) 0 status answers bad_output module_status IsOutput-refused in
    let written = some_injective (codes "bad.m:2: rule 1: bad token\n") puts.puts.front puts.puts.written in
    let whole : codes "bad.m:2: rule 1: bad token\n" ++ puts.left ≡ text_of bad_output =
    subst (λ (front : List ℕ). front ++ puts.left ≡ text_of bad_output) (sym written) puts.puts.whole in
    differ 49 50 (omega arith) (sym (ap (λ (text : List ℕ). slice_index text 6) whole))

-- the last line was left, and no write failed
pub Answers-uncounted : Answers bad_words (Some files) 3 3 (told [] [] 2) (cut_sink 2) 0 unwritten_status → ⊥
Answers-uncounted answers = let failed : 2 < 2 = answers.write_failed.0 refl in omega arith

-- a bad text is the file's fault and not the goal's
pub Answers-of_the_goal : (bytes : List ℕ) (pieces : List (List ℕ)) → Answers bad_words (Some files) 3 3 (told [] [] 2) (told bytes pieces 2) 0 goal_status → ⊥
Answers-of_the_goal bytes pieces answers =
    BreaksGoal-counterexample ((Answers-goal_refused bad_words (Some files) 3 3 (told [] [] 2) (told bytes pieces 2) 0 goal_status answers refl refl (λ same. absurd (omega arith))).0 refl)

-- a check of a bad text comes to no good end
pub Answers-check_refused : (bytes : List ℕ) (pieces : List (List ℕ)) → Answers checked_bad_words (Some files) 3 3 (told [] [] 2) (told bytes pieces 2) 0 accepted_status → ⊥
Answers-check_refused bytes pieces answers =
    IsCheckedModule-counterexample ((Answers-checked checked_bad_words (Some files) 3 3 (told [] [] 2) (told bytes pieces 2) 0 accepted_status answers refl refl (λ same. absurd (omega arith)) (255 ∷ []) NamesChecked-bad).0 refl)

-- ---- a module that is checked and accepted

-- where the file is checked, and its procedure has a tree that is `det`
module _ (others : List (List ℕ)) (items : List Term) (library : List PredDecl) (types : List TypeDef) (clauses : List Clause) (trees : List Node)
    (is : IsAccepted fixed_names (one_names others) one_text items (one_module library types clauses))
    (graded : AreGraded (one_names others) (one_module library types clauses) (tree Det ∷ trees)) where
  pub IsCheckedModule-example : IsCheckedModule check_words files
  IsCheckedModule-example = record {
    text = one_text;
    request = NamesChecked-example;
    names = one_names others;
    items = items;
    found = one_module library types clauses;
    trees = tree Det ∷ trees;
    accepted = is;
    graded = graded;
  }

  pub Succeeds-check : Succeeds check_words files
  Succeeds-check = inr IsCheckedModule-example

  pub IsOutput-check : IsOutput check_words files one_lines accepted_status
  IsOutput-check = inr (Check (shown (codes "one.m")), IsCheck-example, inr (one_within, IsCheckDue-accepted others items library types clauses trees is graded))

  -- it breaks no rule
  pub BreaksModule-not_checked : BreaksModule check_words files → ⊥
  BreaksModule-not_checked breaks =
      differ accepted_status module_status (omega arith) ((module_refused-exactly check_words files one_lines accepted_status IsOutput-check).1 breaks)

  pub Answers-check : Answers check_words (Some files) 3 3 (told (codes ">") [] 2) (told (codes ">add(in, in, out) is det, inferred det\nprocedures 1\n") one_lines 2) 0 accepted_status
  Answers-check =
      answers-done check_words (Some files) files refl 3 3 (told (codes ">") [] 2) (told (codes ">add(in, in, out) is det, inferred det\nprocedures 1\n") one_lines 2) 0 one_lines accepted_status
      refl (inl (omega arith)) IsOutput-check (puts_whole one_lines (told (codes ">") [] 2) (omega arith, (omega arith, tt))) (λ _ names variables most asked asks. absurd (solve-no_check check_words asks.file asks.goal (codes "one.m") asks.steps most asks.request IsCheck-example))

  -- the count was left out
  pub Answers-uncounted_procedures : (status : ℕ) → Answers check_words (Some files) 3 3 (told [] [] 2) (told (codes "add(in, in, out) is det, inferred det\n") (codes "add(in, in, out) is det, inferred det\n" ∷ []) 2) 0 status → status ≢ no_memory_status → ⊥
  Answers-uncounted_procedures status answers free =
      let output = answers.output refl refl free in
      let same = IsOutput-unique check_words files output.0 one_lines status accepted_status (subst (λ (some : Files). IsOutput check_words some output.0 status) answers.files_are output.1) IsOutput-check in
      let puts = output.2.puts in
      let written : codes "add(in, in, out) is det, inferred det\n" ≡ puts.front = some_injective (codes "add(in, in, out) is det, inferred det\n") puts.front puts.written in
      let whole : puts.front ≡ text_of one_lines = sym (append-nil puts.front) ∙ puts.whole ∙ ap (λ (lines : List (List ℕ)). text_of lines) same.0 in
      differ 38 51 (omega arith) (ap (λ (text : List ℕ). length text) (written ∙ whole))
