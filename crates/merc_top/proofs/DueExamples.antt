-- Worked examples of what is due for a file and a goal: what holds, and what does not.
use Rattle.std.specs.Prelude.{◌≡◌, ◌<◌, ◌≤◌, ◌++◌, ℕ, suc, zero, false, List, [], ◌∷◌, length, Option, Some, None, codes, refl}
use Rattle.std.proofs.Common.{arith, lit<, lit≤, slice_index, ap, sym, subst, inl, inr}
use Rattle.std.specs.Fmt.{digits}
use Rattle.std.specs.Str.{IsUtf8, is_utf8, chars}
use Rattle.std.proofs.lemmas.Bool.{false≢true}
use Rattle.std.proofs.lemmas.Str.{is_utf8-from_IsUtf8}
use Rattle.merc_base.specs.Names.{fixed_names, int_name}
use Rattle.merc_base.specs.Refusal.{rule_number}
use Rattle.merc_base.specs.declared.category.Category.TheVariants.{Det}
use Rattle.merc_base.specs.declared.refusal.Refusal.{Refusal}
use Rattle.merc_base.specs.declared.refusal.Fault.TheVariants.{Refused, NoMemory}
use Rattle.merc_base.specs.declared.refusal.Rule.{Rule}
use Rattle.merc_base.specs.declared.refusal.Rule.TheVariants.{BadToken, NoTerm, WrongForm, UnknownType, DeclaredTwice, Undeclared, UnknownName, TypeMismatch, MissingMode, NeverReady, BindsOuter, UnboundOutput, WrongCategory, ParallelCategory, OutsideProfile, LimitPassed}
use Rattle.merc_base.specs.declared.refusal.Detail.TheVariants.{Plain}
use Rattle.merc_base.proofs.NameLaws.{fixed_names-distinct}
use Rattle.merc_tokens.specs.Faults.{ComesFirst, RefusesRightly}
use Rattle.merc_tokens.specs.Faults.HasFaultFrom.{here}
use Rattle.merc_tokens.specs.Faults.IsFaulty.{no_token}
use Rattle.merc_tree.specs.Term.{Term}
use Rattle.merc_tree.specs.declared.declarations.Arg.TheVariants.{Input, Output}
use Rattle.merc_tree.specs.declared.declarations.Clause.{Clause}
use Rattle.merc_tree.specs.declared.declarations.Module.{Module}
use Rattle.merc_tree.specs.declared.declarations.PredDecl.{PredDecl}
use Rattle.merc_tree.specs.declared.declarations.TypeDef.{TypeDef}
use Rattle.merc_value.specs.Text.{word_operators}
use Rattle.merc_graded_tree.specs.Nodes.{Node}
use Rattle.merc_terms.specs.Items.{refusal_at}
use Rattle.merc_terms.specs.Texts.{RefusesGoalText, goal_limit}
use Rattle.merc_terms.specs.Texts.RefusesText.{tokens as bad_tokens}
use Rattle.merc_terms.specs.Texts.RefusesGoalText.{tokens as bad_goal_tokens}
use Rattle.merc_items.specs.ReadModule.RefusesModule.{no_items}
use Rattle.merc_check.specs.Accepted.{AreGraded}
use Rattle.merc_check.specs.Checked.{IsAccepted, Refuses}
use Rattle.merc_check.specs.Checked.Refuses.{no_module}
use Rattle.merc_check.specs.Checked.RefusesQuery.{no_term}
use Rattle.merc_base.proofs.NameExamples.{HoldsFixed-fixed}
use Rattle.merc_check.proofs.CheckedLaws.{Refuses-excludes}
use Rattle.merc_meaning.specs.Trace.{Run}
use Rattle.merc_top.specs.declared.words.Request.TheVariants.{Solve, Check}
use Rattle.merc_transfer.specs.declared.due.Due.{Due}
use Rattle.merc_top.specs.declared.answering.Found.TheVariants.{Lines, Run as Runs}
use Rattle.merc_top.specs.Due.{IsFaultDue, IsSolveFound, IsCheckFound}
use Rattle.merc_transfer.specs.Statuses.{accepted_status, solved_status, module_status, goal_status}
use Rattle.merc_top.specs.Checking.{check_lines}
use Rattle.merc_transfer.specs.Writing.{text_of}
use Rattle.merc_solving.specs.declared.solving.Ready.{Ready}
use Rattle.merc_solving.specs.RunLines.{run_lines}
use Rattle.merc_top.specs.Output.{IsAskedRun, IsDue, IsCheckDue, IsRequestDue, refusal_line}
use Rattle.merc_top.specs.Output.IsDue.{module_refused, goal_refused, runs}
use Rattle.merc_top.specs.Output.IsCheckDue.{check_refused, check_accepted}
use Rattle.merc_top.proofs.OutputLaws.{IsDue-unique, IsCheckDue-unique}
use Rattle.merc_top.proofs.CheckingExamples.{mode, predicate, tree}
use Rattle.merc_top.proofs.OutputExamples.{one_answer}
use Rattle.merc_top.proofs.Requests.{differ, shown}

-- ---- a text that breaks a rule

at_least_one : (rule : Rule) → 1 ≤ rule_number rule
at_least_one BadToken = lit≤ tt
at_least_one NoTerm = lit≤ tt
at_least_one WrongForm = lit≤ tt
at_least_one UnknownType = lit≤ tt
at_least_one DeclaredTwice = lit≤ tt
at_least_one Undeclared = lit≤ tt
at_least_one UnknownName = lit≤ tt
at_least_one TypeMismatch = lit≤ tt
at_least_one MissingMode = lit≤ tt
at_least_one NeverReady = lit≤ tt
at_least_one BindsOuter = lit≤ tt
at_least_one UnboundOutput = lit≤ tt
at_least_one WrongCategory = lit≤ tt
at_least_one ParallelCategory = lit≤ tt
at_least_one OutsideProfile = lit≤ tt
at_least_one LimitPassed = lit≤ tt

first_of_all : (other : ℕ) (rule : Rule) → ComesFirst 0 BadToken other rule
first_of_all zero rule = inr (refl, at_least_one rule)
first_of_all (suc other) rule = inl (omega arith)

no_text : IsUtf8 (255 ∷ []) → ⊥
unfolding is_utf8 chars
no_text utf8 = false≢true (is_utf8-from_IsUtf8 (255 ∷ []) utf8)

abbrev pub bad_token : Refusal
bad_token = refusal_at BadToken Plain (record { byte = 0; line = 1 })

-- a text of one byte that begins no token, and no text of the language at all
lone_byte : RefusesRightly (255 ∷ []) (Refused bad_token)
lone_byte = (
  record { fault = inl (here 0 false refl (no_token 255 [] refl)); line = refl; least = λ other rule detail fault. first_of_all other rule },
  λ tokens has. no_text has.utf8,
)

pub lone_byte-refused : Refuses fixed_names (255 ∷ []) bad_token
lone_byte-refused = no_module bad_token (no_items bad_token (bad_tokens bad_token lone_byte))

-- so no run is asked over it
pub IsAskedRun-counterexample : (goal : List ℕ) (steps : ℕ) (names : List (List ℕ)) (variables : List ℕ) (asked : Run) → IsAskedRun (255 ∷ []) goal steps names variables asked → ⊥
IsAskedRun-counterexample goal steps names variables asked is =
    Refuses-excludes fixed_names (255 ∷ []) fixed_names-distinct HoldsFixed-fixed is.file_names bad_token is.items is.found lone_byte-refused is.module_is

lone_byte-refused_goal : (names : List (List ℕ)) → RefusesGoalText names (255 ∷ []) bad_token
unfolding goal_limit
lone_byte-refused_goal names = bad_goal_tokens bad_token (lit≤ tt) lone_byte

pub IsDue-module_refused : (goal : List ℕ) (steps : ℕ) (most : Option ℕ) → IsDue (codes "bad.m") (255 ∷ []) goal steps most (codes "bad.m:1: rule 1: bad token\n" ∷ []) module_status
unfolding digits
IsDue-module_refused _ _ _ = module_refused bad_token lone_byte-refused

-- behind a module that is read
pub IsDue-goal_refused : (names : List (List ℕ)) (items : List Term) (file : List ℕ) (found : Module) → IsAccepted fixed_names names file items found
    → (steps : ℕ) (most : Option ℕ) → IsDue (codes "one.m") file (255 ∷ []) steps most (codes "goal:1: rule 1: bad token\n" ∷ []) goal_status
unfolding digits
IsDue-goal_refused names items file found is _ _ = goal_refused names items found bad_token is (no_term bad_token (lone_byte-refused_goal names))

-- where both break a rule it is the file's
pub IsDue-file_first : (lines : List (List ℕ)) (steps : ℕ) (most : Option ℕ) → IsDue (codes "bad.m") (255 ∷ []) (255 ∷ []) steps most lines goal_status → ⊥
IsDue-file_first lines steps most due =
    let same = IsDue-unique _ _ _ _ _ _ _ _ _ due (IsDue-module_refused (255 ∷ []) steps most) in
    differ module_status goal_status (omega arith) (sym same.1)

-- a file that breaks a rule has no run
pub IsDue-refused_no_run : (name file goal : List ℕ) (steps : ℕ) (most : Option ℕ) (refusal : Refusal) (lines : List (List ℕ)) → Refuses fixed_names file refusal → IsDue name file goal steps most lines solved_status → ⊥
IsDue-refused_no_run name file goal steps most refusal lines refuses due =
    let same = IsDue-unique name file goal steps most lines (refusal_line name refusal ∷ []) solved_status module_status due (module_refused refusal refuses) in
    differ solved_status module_status (omega arith) same.1

-- what is due for a request is what is due for its kind
pub IsRequestDue-solve : IsRequestDue (Solve (shown (codes "bad.m")) (shown (codes "p")) 7 (Some 1)) (255 ∷ []) (codes "bad.m:1: rule 1: bad token\n" ∷ []) module_status
IsRequestDue-solve = IsDue-module_refused (codes "p") 7 (Some 1)

-- a fault is told in one line, and want of memory in none
pub IsFaultDue-example : IsFaultDue goal_status (codes "goal") (Refused bad_token) (record { status = 5; lines = codes "goal:1: rule 1: bad token\n" ∷ [] })
unfolding digits
IsFaultDue-example = (refl, refl)

pub IsFaultDue-counterexample : (due : Due) → IsFaultDue goal_status (codes "goal") NoMemory due → ⊥
IsFaultDue-counterexample due is = is

-- lines are found for what is refused, not for a run
pub IsSolveFound-example : IsSolveFound (codes "bad.m") (255 ∷ []) (codes "p") 7 None (Lines (record { status = 4; lines = codes "bad.m:1: rule 1: bad token\n" ∷ [] }))
IsSolveFound-example = (lit< tt, IsDue-module_refused (codes "p") 7 None)

pub IsSolveFound-counterexample : (lines : List (List ℕ)) → IsSolveFound (codes "one.m") (codes ":- module one.") (codes "p") 7 None (Lines (record { status = 3; lines = lines })) → ⊥
IsSolveFound-counterexample lines found = let past : 3 < 3 = found.0 in omega (arith, past)

-- a check refuses it too
pub IsCheckDue-refused : IsCheckDue (codes "bad.m") (255 ∷ []) (codes "bad.m:1: rule 1: bad token\n" ∷ []) module_status
unfolding digits
IsCheckDue-refused = check_refused bad_token lone_byte-refused

pub IsRequestDue-check : IsRequestDue (Check (shown (codes "bad.m"))) (255 ∷ []) (codes "bad.m:1: rule 1: bad token\n" ∷ []) module_status
IsRequestDue-check = IsCheckDue-refused

pub IsCheckFound-example : IsCheckFound (codes "bad.m") (255 ∷ []) (Lines (record { status = 4; lines = codes "bad.m:1: rule 1: bad token\n" ∷ [] }))
IsCheckFound-example = IsCheckDue-refused

pub IsCheckFound-counterexample : (ready : Ready) → IsCheckFound (codes "bad.m") (255 ∷ []) (Runs ready) → ⊥
IsCheckFound-counterexample ready is = is

-- and does not accept it
pub IsCheckDue-counterexample : (lines : List (List ℕ)) → IsCheckDue (codes "bad.m") (255 ∷ []) lines accepted_status → ⊥
IsCheckDue-counterexample lines due =
    let same = IsCheckDue-unique _ _ _ _ _ _ due IsCheckDue-refused in
    differ accepted_status module_status (omega arith) same.1

-- ---- a module that runs

abbrev pub one_text : List ℕ
one_text =
    text_of (codes ":- module one.\n"
    ∷ codes ":- import_module int.\n"
    ∷ codes ":- pred add(int::in, int::in, int::out) is det.\n"
    ∷ codes "add(X, Y, Z) :- Z = X + Y.\n"
    ∷ [])

abbrev pub first_output : List (List ℕ)
first_output = codes "X = 5\n" ∷ codes "solutions 1\n" ∷ []

-- a table of names in which the goal's variable has number 0; only the lines of the run look at it
abbrev pub run_names : List (List ℕ)
run_names = codes "X" ∷ []

first_lines : run_lines run_names (0 ∷ []) None one_answer ≡ first_output
unfolding digits
first_lines = refl

first_stopped : run_lines run_names (0 ∷ []) (Some 1) one_answer ≡ codes "X = 5\n" ∷ codes "stopped after 1\n" ∷ []
unfolding digits
first_stopped = refl

-- What follows is said where a goal asks for the run that has one step and one answer over that text.
module _ (goal : List ℕ) (steps : ℕ) (asked : IsAskedRun one_text goal steps run_names (0 ∷ []) one_answer) where
  pub IsDue-runs : IsDue (codes "one.m") one_text goal steps None first_output solved_status
  IsDue-runs = subst (λ (lines : List (List ℕ)). IsDue (codes "one.m") one_text goal steps None lines solved_status) first_lines (runs run_names (0 ∷ []) one_answer asked)

  -- stopped behind its one answer
  pub IsDue-stopped : IsDue (codes "one.m") one_text goal steps (Some 1) (codes "X = 5\n" ∷ codes "stopped after 1\n" ∷ []) solved_status
  IsDue-stopped =
      subst (λ (lines : List (List ℕ)). IsDue (codes "one.m") one_text goal steps (Some 1) lines solved_status) first_stopped (runs run_names (0 ∷ []) one_answer asked)

  pub IsDue-other_answer : (status : ℕ) → IsDue (codes "one.m") one_text goal steps None (codes "X = 6\n" ∷ codes "solutions 1\n" ∷ []) status → ⊥
  IsDue-other_answer status due =
      let same = IsDue-unique _ _ _ _ _ _ _ _ _ due IsDue-runs in
      differ 53 54 (omega arith) (sym (ap (λ (texts : List (List ℕ)). slice_index (text_of texts) 4) same.0))

  -- nor is the goal refused
  pub IsDue-not_refused : (lines : List (List ℕ)) → IsDue (codes "one.m") one_text goal steps None lines goal_status → ⊥
  IsDue-not_refused lines due =
      let same = IsDue-unique _ _ _ _ _ _ _ _ _ due IsDue-runs in
      differ solved_status goal_status (omega arith) (sym same.1)

-- its name and its predicate's behind the constants, and others behind those
abbrev pub one_names : List (List ℕ) → List (List ℕ)
one_names others = fixed_names ++ codes "one" ∷ codes "add" ∷ others

-- its predicate, and behind it those of the library
abbrev pub one_module : List PredDecl → List TypeDef → List Clause → Module
one_module library types clauses = record {
  name = length fixed_names;
  units = int_name ∷ [];
  types = types;
  preds = predicate (suc (length fixed_names)) (mode (Input ∷ Input ∷ Output ∷ []) Det ∷ []) ∷ library;
  own = 1;
  clauses = clauses;
}

abbrev pub one_lines : List (List ℕ)
one_lines = codes "add(in, in, out) is det, inferred det\n" ∷ codes "procedures 1\n" ∷ []

one_check_lines : (others : List (List ℕ)) (library : List PredDecl) (types : List TypeDef) (clauses : List Clause) (trees : List Node)
    → check_lines (one_names others) (one_module library types clauses) (tree Det ∷ trees) ≡ one_lines
unfolding fixed_names word_operators digits
one_check_lines others library types clauses trees = refl

-- where its procedure has a tree that is `det`
module _ (others : List (List ℕ)) (items : List Term) (library : List PredDecl) (types : List TypeDef) (clauses : List Clause) (trees : List Node)
    (is : IsAccepted fixed_names (one_names others) one_text items (one_module library types clauses))
    (graded : AreGraded (one_names others) (one_module library types clauses) (tree Det ∷ trees)) where
  pub IsCheckDue-accepted : IsCheckDue (codes "one.m") one_text one_lines accepted_status
  IsCheckDue-accepted =
      subst (λ (lines : List (List ℕ)). IsCheckDue (codes "one.m") one_text lines accepted_status) (one_check_lines others library types clauses trees)
      (check_accepted (one_names others) items (one_module library types clauses) (tree Det ∷ trees) is graded)

  -- no other line is due
  pub IsCheckDue-other_line : (status : ℕ) → IsCheckDue (codes "one.m") one_text (codes "add(in, in, out) is det, inferred semidet\n" ∷ codes "procedures 1\n" ∷ []) status → ⊥
  IsCheckDue-other_line status due =
      let same = IsCheckDue-unique _ _ _ _ _ _ due IsCheckDue-accepted in
      differ 100 115 (omega arith) (sym (ap (λ (texts : List (List ℕ)). slice_index (text_of texts) 34) same.0))

  -- and the file is not refused
  pub IsCheckDue-not_refused : (lines : List (List ℕ)) → IsCheckDue (codes "one.m") one_text lines module_status → ⊥
  IsCheckDue-not_refused lines due =
      let same = IsCheckDue-unique _ _ _ _ _ _ due IsCheckDue-accepted in
      differ accepted_status module_status (omega arith) (sym same.1)
