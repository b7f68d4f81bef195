-- For given words and files one text and one status are due.
use Rattle.std.proofs.Common.{◌≡◌, ◌∙◌, ℕ, List, [], ◌∷◌, refl, sym, ap, subst, inl, inr, arith, codes}
use Rattle.std.specs.Prelude.{Option, Some, None}
use Rattle.std.specs.List.{IsDistinct}
use Rattle.std.specs.Str.{bytes_eq}
use Rattle.merc_base.specs.Names.{fixed_names}
use Rattle.merc_base.specs.Outside.{Files, file_named}
use Rattle.merc_base.specs.declared.refusal.Refusal.{Refusal}
use Rattle.merc_base.proofs.NameLaws.{fixed_names-distinct}
use Rattle.merc_tree.specs.Term.{Term}
use Rattle.merc_tree.specs.declared.declarations.Module.{Module}
use Rattle.merc_graded_tree.specs.Nodes.{Node}
use Rattle.merc_check.specs.Accepted.{AreGraded, IsGradedGoal, query_answers, query_names}
use Rattle.merc_check.specs.Checked.{IsAccepted, IsGoal, Refuses, RefusesQuery}
use Rattle.merc_base.proofs.NameExamples.{HoldsFixed-fixed}
use Rattle.merc_check.proofs.CheckedLaws.{AreGraded-unique, IsAccepted-unique, IsGoal-unique, IsGradedGoal-unique, IsModule-distinct, Refuses-excludes, Refuses-unique, RefusesQuery-excludes, RefusesQuery-unique}
use Rattle.merc_meaning.specs.Trace.{Run}
use Rattle.merc_meaning.specs.Programs.{program_with}
use Rattle.merc_meaning.specs.Runs.{run}
use Rattle.merc_meaning.specs.Shown.{shown}
use Rattle.merc_transfer.specs.Statuses.{module_status, goal_status}
use Rattle.merc_top.specs.declared.words.Request.{Request}
use Rattle.merc_top.specs.declared.words.Request.TheVariants.{Solve, Check}
use Rattle.merc_top.specs.Words.{IsRequest, file_of}
use Rattle.merc_top.specs.Checking.{check_lines}
use Rattle.merc_solving.specs.RunLines.{run_lines, run_status}
use Rattle.merc_top.specs.Output.{IsAskedRun, IsDue, IsCheckDue, IsRequestDue, IsOutput, FileOutput, refusal_line, too_long_line}
use Rattle.merc_top.specs.Output.IsDue.{module_refused, goal_refused, runs}
use Rattle.merc_top.specs.Output.IsCheckDue.{check_refused, check_accepted}
use Rattle.merc_top.proofs.Requests.{solve-unique, check-unique, solve-no_check, request_file-unique}

-- the same lines and the same status
abbrev pub Agree : List (List ℕ) → ℕ → List (List ℕ) → ℕ → Type 0
Agree lines status lines' status' = (lines ≡ lines') × (status ≡ status')

both : {A : Type 0} {x y z : A} → x ≡ z → y ≡ z → x ≡ y
both p q = p ∙ sym q

-- a text is due because the file breaks a rule, or the goal does, or it is the run's
data Cases (name file goal : List ℕ) (steps : ℕ) (most : Option ℕ) (lines : List (List ℕ)) (status : ℕ) : Type 0 where
  broken_module : (refusal : Refusal) → Refuses fixed_names file refusal → lines ≡ refusal_line name refusal ∷ [] → status ≡ module_status → Cases name file goal steps most lines status
  broken_goal : (names : List (List ℕ)) (items : List Term) (found : Module) (refusal : Refusal) → IsAccepted fixed_names names file items found → RefusesQuery names found goal refusal → lines ≡ refusal_line (codes "goal") refusal ∷ [] → status ≡ goal_status → Cases name file goal steps most lines status
  both_run : (names : List (List ℕ)) (variables : List ℕ) (asked : Run) → IsAskedRun file goal steps names variables asked → lines ≡ run_lines names variables most asked → status ≡ run_status most asked → Cases name file goal steps most lines status

cases_of : (name file goal : List ℕ) (steps : ℕ) (most : Option ℕ) (lines : List (List ℕ)) (status : ℕ) → IsDue name file goal steps most lines status → Cases name file goal steps most lines status
cases_of name file goal steps most _ _ (module_refused refusal refuses) = broken_module refusal refuses refl refl
cases_of name file goal steps most _ _ (goal_refused names items found refusal is refuses) = broken_goal names items found refusal is refuses refl refl
cases_of name file goal steps most _ _ (runs names variables asked is) = both_run names variables asked is refl refl

-- behind an accepted module no two names are one
pub module-distinct : (names : List (List ℕ)) (file : List ℕ) (items : List Term) (found : Module) → IsAccepted fixed_names names file items found → IsDistinct bytes_eq names
module-distinct names file items found is = IsModule-distinct fixed_names file fixed_names-distinct names items found is.module_is

-- a goal over a module is one over the same module with the same names
goal_moved : {A : Type 0} (P : List (List ℕ) → Module → A → Type 0) (names names' : List (List ℕ)) (found found' : Module) (what : A) → names ≡ names' → found ≡ found' → P names' found' what → P names found what
goal_moved P names names' found found' what same_names same_found holds =
    subst (λ (some : List (List ℕ)). P some found what) (sym same_names) (subst (λ (some : Module). P names' some what) (sym same_found) holds)

-- the first of a list of one
head_is : (one other : Node) → one ∷ [] ≡ other ∷ [] → one ≡ other
head_is one other same = cc

-- A file and a goal ask for one run.
module _ (file goal : List ℕ) (steps : ℕ) (names names' : List (List ℕ)) (variables variables' : List ℕ) (asked asked' : Run)
    (one : IsAskedRun file goal steps names variables asked) (other : IsAskedRun file goal steps names' variables' asked') where
  modules : (one.file_names ≡ other.file_names) × (one.items ≡ other.items) × (one.found ≡ other.found)
  modules = IsAccepted-unique fixed_names file fixed_names-distinct one.file_names other.file_names one.items other.items one.found other.found one.module_is other.module_is

  distinct : IsDistinct bytes_eq one.file_names
  distinct = module-distinct one.file_names file one.items one.found one.module_is

  goals : (names ≡ names') × (one.term ≡ other.term)
  goals =
      IsGoal-unique one.file_names goal distinct one.found names names' one.term other.term one.goal_is
      (goal_moved (λ some found term. IsGoal some names' found goal term) one.file_names other.file_names one.found other.found other.term modules.0 modules.2 other.goal_is)

  trees : one.trees ≡ other.trees
  trees =
      AreGraded-unique fixed_names file fixed_names-distinct HoldsFixed-fixed one.file_names one.items one.found one.module_is one.trees other.trees one.module_trees
      (goal_moved AreGraded one.file_names other.file_names one.found other.found other.trees modules.0 modules.2 other.module_trees)

  tree : one.tree ≡ other.tree
  tree =
      head_is one.tree other.tree
      (IsGradedGoal-unique one.file_names goal distinct one.found fixed_names one.file_names file one.items one.module_is names one.term one.goal_is (one.tree ∷ []) (other.tree ∷ []) one.goal_tree
      (goal_moved (λ some found trees. IsGradedGoal some found one.term trees) names names' one.found other.found (other.tree ∷ []) goals.0 modules.2
      (subst (λ (term : Term). IsGradedGoal names' other.found term (other.tree ∷ [])) (sym goals.1) other.goal_tree)))

  variables_same : variables ≡ variables'
  variables_same =
      one.variables_are ∙ ap (λ (some : List (List ℕ)). query_names some one.term) goals.0 ∙ ap (λ (term : Term). query_names names' term) goals.1 ∙ sym other.variables_are

  asked_same : asked ≡ asked'
  asked_same =
      one.run_is
      ∙ ap (λ (answers : List ℕ). shown answers (run (program_with one.found.preds one.trees) one.tree steps))
      (ap (λ (some : List (List ℕ)). query_answers some one.found one.term) goals.0
      ∙ ap (λ (found : Module). query_answers names' found one.term) modules.2
      ∙ ap (λ (term : Term). query_answers names' other.found term) goals.1)
      ∙ ap (λ (found : Module). shown (query_answers names' other.found other.term) (run (program_with found.preds one.trees) one.tree steps)) modules.2
      ∙ ap (λ (some : List Node). shown (query_answers names' other.found other.term) (run (program_with other.found.preds some) one.tree steps)) trees
      ∙ ap (λ (some : Node). shown (query_answers names' other.found other.term) (run (program_with other.found.preds other.trees) some steps)) tree
      ∙ sym other.run_is

  pub IsAskedRun-unique : (names ≡ names') × (variables ≡ variables') × (asked ≡ asked')
  IsAskedRun-unique = (goals.0, variables_same, asked_same)

-- a file that is accepted breaks no rule
module_not_broken : (file : List ℕ) (refusal : Refusal) (names : List (List ℕ)) (items : List Term) (found : Module) → Refuses fixed_names file refusal → IsAccepted fixed_names names file items found → ⊥
module_not_broken file refusal names items found refuses is = Refuses-excludes fixed_names file fixed_names-distinct HoldsFixed-fixed names refusal items found refuses is

-- nor does a goal that is accepted behind it
goal_not_broken : (file goal : List ℕ) (steps : ℕ) (names names' : List (List ℕ)) (items : List Term) (found : Module) (refusal : Refusal) (variables : List ℕ) (asked : Run)
    → IsAccepted fixed_names names file items found → RefusesQuery names found goal refusal → IsAskedRun file goal steps names' variables asked → ⊥
goal_not_broken file goal steps names names' items found refusal variables asked is refuses both =
    let same = IsAccepted-unique fixed_names file fixed_names-distinct names both.file_names items both.items found both.found is both.module_is in
    let distinct = module-distinct names file items found is in
    let reads = goal_moved (λ some over what. IsGoal some names' over goal what) names both.file_names found both.found both.term same.0 same.2 both.goal_is in
    RefusesQuery-excludes names goal distinct found fixed_names names file items is names' refusal both.term refuses reads

one_goal_refusal : (file goal : List ℕ) (names names' : List (List ℕ)) (items items' : List Term) (found found' : Module) (one other : Refusal)
    → IsAccepted fixed_names names file items found → IsAccepted fixed_names names' file items' found' → RefusesQuery names found goal one → RefusesQuery names' found' goal other → one ≡ other
one_goal_refusal file goal names names' items items' found found' one other is is' refuses refuses' =
    let same = IsAccepted-unique fixed_names file fixed_names-distinct names names' items items' found found' is is' in
    RefusesQuery-unique names goal (module-distinct names file items found is) found fixed_names names file items is one other refuses
    (goal_moved (λ some over what. RefusesQuery some over goal what) names names' found found' other same.0 same.2 refuses')

same_line : (name : List ℕ) (one other : Refusal) (lines lines' : List (List ℕ)) → one ≡ other → lines ≡ refusal_line name one ∷ [] → lines' ≡ refusal_line name other ∷ [] → lines ≡ lines'
same_line name one other lines lines' same is is' = is ∙ subst (λ (refusal : Refusal). refusal_line name one ∷ [] ≡ refusal_line name refusal ∷ []) same refl ∙ sym is'

cases-unique : (name file goal : List ℕ) (steps : ℕ) (most : Option ℕ) (lines lines' : List (List ℕ)) (status status' : ℕ)
    → Cases name file goal steps most lines status → Cases name file goal steps most lines' status' → Agree lines status lines' status'
cases-unique name file goal steps most lines lines' status status' (broken_module one refuses is four) (broken_module other refuses' is' four') =
    (same_line name one other lines lines' (Refuses-unique fixed_names file fixed_names-distinct HoldsFixed-fixed one other refuses refuses') is is', both four four')
cases-unique name file goal steps most lines lines' status status' (broken_module one refuses is four) (broken_goal names items found other module_is refuses' is' five) =
    absurd (module_not_broken file one names items found refuses module_is)
cases-unique name file goal steps most lines lines' status status' (broken_module one refuses is four) (both_run names variables asked both_are is' status_is) =
    absurd (module_not_broken file one both_are.file_names both_are.items both_are.found refuses both_are.module_is)
cases-unique name file goal steps most lines lines' status status' (broken_goal names items found one module_is refuses is five) (broken_module other refuses' is' four) =
    absurd (module_not_broken file other names items found refuses' module_is)
cases-unique name file goal steps most lines lines' status status' (broken_goal names items found one module_is refuses is five) (broken_goal names' items' found' other module_is' refuses' is' five') =
    (same_line (codes "goal") one other lines lines' (one_goal_refusal file goal names names' items items' found found' one other module_is module_is' refuses refuses') is is', both five five')
cases-unique name file goal steps most lines lines' status status' (broken_goal names items found one module_is refuses is five) (both_run names' variables asked both_are is' status_is) =
    absurd (goal_not_broken file goal steps names names' items found one variables asked module_is refuses both_are)
cases-unique name file goal steps most lines lines' status status' (both_run names variables asked both_are is status_is) (broken_module other refuses is' four) =
    absurd (module_not_broken file other both_are.file_names both_are.items both_are.found refuses both_are.module_is)
cases-unique name file goal steps most lines lines' status status' (both_run names variables asked both_are is status_is) (broken_goal names' items' found other module_is refuses is' five) =
    absurd (goal_not_broken file goal steps names' names items' found other variables asked module_is refuses both_are)
cases-unique name file goal steps most lines lines' status status' (both_run names variables asked one is status_is) (both_run names' variables' asked' other is' status_is') =
    let same = IsAskedRun-unique file goal steps names names' variables variables' asked asked' one other in (
      is ∙ ap (λ (some : List (List ℕ)). run_lines some variables most asked) same.0 ∙ ap (λ (some : List ℕ). run_lines names' some most asked) same.1
          ∙ ap (λ (some : Run). run_lines names' variables' most some) same.2 ∙ sym is',
      status_is ∙ ap (λ (some : Run). run_status most some) same.2 ∙ sym status_is',
    )

pub IsDue-unique : (name file goal : List ℕ) (steps : ℕ) (most : Option ℕ) (lines lines' : List (List ℕ)) (status status' : ℕ)
    → IsDue name file goal steps most lines status → IsDue name file goal steps most lines' status' → Agree lines status lines' status'
IsDue-unique name file goal steps most lines lines' status status' due also =
    cases-unique name file goal steps most lines lines' status status' (cases_of name file goal steps most lines status due) (cases_of name file goal steps most lines' status' also)

-- the check of a file has one result
pub IsCheckDue-unique : (name file : List ℕ) (lines lines' : List (List ℕ)) (status status' : ℕ)
    → IsCheckDue name file lines status → IsCheckDue name file lines' status' → Agree lines status lines' status'
IsCheckDue-unique name file _ _ _ _ (check_refused one refuses) (check_refused other refuses') =
    (ap (λ (refusal : Refusal). refusal_line name refusal ∷ []) (Refuses-unique fixed_names file fixed_names-distinct HoldsFixed-fixed one other refuses refuses'), refl)
IsCheckDue-unique name file _ _ _ _ (check_refused refusal refuses) (check_accepted names items found trees is graded) =
    absurd (module_not_broken file refusal names items found refuses is)
IsCheckDue-unique name file _ _ _ _ (check_accepted names items found trees is graded) (check_refused refusal refuses) =
    absurd (module_not_broken file refusal names items found refuses is)
IsCheckDue-unique name file _ _ _ _ (check_accepted names items found trees is graded) (check_accepted names' items' found' trees' is' graded') =
    let same = IsAccepted-unique fixed_names file fixed_names-distinct names names' items items' found found' is is' in
    let also = goal_moved AreGraded names names' found found' trees' same.0 same.2 graded' in
    let one_trees = AreGraded-unique fixed_names file fixed_names-distinct HoldsFixed-fixed names items found is trees trees' graded also in (
      ap (λ (some : List Node). check_lines names found some) one_trees
          ∙ ap (λ (some : List (List ℕ)). check_lines some found trees') same.0
          ∙ ap (λ (some : Module). check_lines names' some trees') same.2,
      refl,
    )

request_due-unique : (request : Request) (text : List ℕ) (lines lines' : List (List ℕ)) (status status' : ℕ)
    → IsRequestDue request text lines status → IsRequestDue request text lines' status' → Agree lines status lines' status'
request_due-unique (Solve file goal steps most) text lines lines' status status' due also = IsDue-unique file.now text goal.now steps most lines lines' status status' due also
request_due-unique (Check file) text lines lines' status status' due also = IsCheckDue-unique file.now text lines lines' status status' due also

file_output-unique : (request : Request) (content : Option (List ℕ)) (lines lines' : List (List ℕ)) (status status' : ℕ)
    → FileOutput request content lines status → FileOutput request content lines' status' → Agree lines status lines' status'
file_output-unique request None lines lines' status status' absent also = (both absent.0 also.0, both absent.1 also.1)
file_output-unique request (Some text) lines lines' status status' (inl long) (inl also) = (both long.1 also.1, both long.2 also.2)
file_output-unique request (Some text) lines lines' status status' (inl long) (inr due) = absurd (omega (arith, long.0, due.0))
file_output-unique request (Some text) lines lines' status status' (inr due) (inl long) = absurd (omega (arith, long.0, due.0))
file_output-unique request (Some text) lines lines' status status' (inr due) (inr also) =
    request_due-unique request text lines lines' status status' due.1 also.1

-- what is due for one request of some words is due for another
request_due-moved : (words : List (List ℕ)) (one other : Request) (text : List ℕ) (lines : List (List ℕ)) (status : ℕ)
    → IsRequest words one → IsRequest words other → IsRequestDue other text lines status → IsRequestDue one text lines status
request_due-moved words (Solve file goal steps most) (Solve file' goal' steps' most') text lines status asks also due =
    let same = solve-unique words file.now goal.now file'.now goal'.now steps steps' most most' asks also in
    subst (λ (some : List ℕ). IsDue some text goal.now steps most lines status) (sym same.0)
    (subst (λ (some : List ℕ). IsDue file'.now text some steps most lines status) (sym same.1)
    (subst (λ (some : ℕ). IsDue file'.now text goal'.now some most lines status) (sym same.2)
    (subst (λ (some : Option ℕ). IsDue file'.now text goal'.now steps' some lines status) (sym same.3) due)))
request_due-moved words (Solve file goal steps most) (Check file') text lines status asks also due = absurd (solve-no_check words file.now goal.now file'.now steps most asks also)
request_due-moved words (Check file) (Solve file' goal' steps most) text lines status asks also due = absurd (solve-no_check words file'.now goal'.now file.now steps most also asks)
request_due-moved words (Check file) (Check file') text lines status asks also due =
    subst (λ (some : List ℕ). IsCheckDue some text lines status) (sym (check-unique words file.now file'.now asks also)) due

file_output-moved : (words : List (List ℕ)) (one other : Request) (content : Option (List ℕ)) (lines : List (List ℕ)) (status : ℕ)
    → IsRequest words one → IsRequest words other → FileOutput other content lines status → FileOutput one content lines status
file_output-moved words one other None lines status asks also absent = absent
file_output-moved words one other (Some text) lines status asks also (inl long) =
    inl (long.0, long.1 ∙ ap (λ (name : List ℕ). too_long_line name ∷ []) (request_file-unique words other one also asks), long.2)
file_output-moved words one other (Some text) lines status asks also (inr due) =
    inr (due.0, request_due-moved words one other text lines status asks also due.1)

pub IsOutput-unique : (words : List (List ℕ)) (files : Files) (lines lines' : List (List ℕ)) (status status' : ℕ)
    → IsOutput words files lines status → IsOutput words files lines' status' → Agree lines status lines' status'
IsOutput-unique words files lines lines' status status' (inl usage) (inl also) = (both usage.1 also.1, both usage.2 also.2)
IsOutput-unique words files lines lines' status status' (inl usage) (inr request) = absurd (usage.0 request.0 request.1)
IsOutput-unique words files lines lines' status status' (inr request) (inl usage) = absurd (usage.0 request.0 request.1)
IsOutput-unique words files lines lines' status status' (inr request) (inr also) =
    let name = request_file-unique words also.0 request.0 also.1 request.1 in
    file_output-unique request.0 (file_named (file_of request.0) files) lines lines' status status' request.2
    (file_output-moved words request.0 also.0 (file_named (file_of request.0) files) lines' status' request.1 also.1
    (subst (λ (file : List ℕ). FileOutput also.0 (file_named file files) lines' status') name also.2))
