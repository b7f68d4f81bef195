-- The truth law of runs.
use Rattle.std.proofs.Common.{◌≡◌, ◌⊎◌, inl, inr, ℕ, zero, suc, ◌<◌, true, List, [], Some, ap, sym, ◌∙◌, arith}
use Rattle.merc_tree.specs.Types.{TypeVariable}
use Rattle.merc_tree.specs.declared.declarations.Module.{Module}
use Rattle.merc_graded_tree.specs.Nodes.{outputs_of}
use Rattle.merc_graded_tree.specs.Variables.{in_node}
use Rattle.merc_order.specs.Bound.{nothing, with, among}
use Rattle.merc_order_laws.proofs.Facts.{either_way}
use Rattle.merc_grading.specs.Known.{known_behind}
use Rattle.merc_grading.specs.Faults.{Body}
use Rattle.merc_value.specs.Value.{Value}
use Rattle.merc_meaning.specs.Trace.{Env, Trace, Ends, Tick, Answer, Done, Raised, TooDeep, cut}
use Rattle.merc_meaning.specs.Steps.{value_at}
use Rattle.merc_meaning.specs.Runs.{Program, node_trace, call_trace, run}
use Rattle.merc_meaning.specs.Truth.{Assignment, IsAssignment, YesCall, NoCall, YesAt, NoAt}
use Rattle.merc_program_laws.specs.Answers.{Each, Has, IsDone}
use Rattle.merc_program_laws.specs.GoodPrograms.{IsGoodProgram, IsGoodQuery, program_of}
use Rattle.merc_program_laws.specs.CategoryLaws.{GivesAll}
use Rattle.merc_program_laws.proofs.Traces.{each_map, has_map, has_each}
use Rattle.merc_program_laws.proofs.Values.{Instance, none_not, same_some, is_some_of}
use Rattle.merc_program_laws.proofs.Lawful.{Goes}
use Rattle.merc_program_laws.proofs.TreeCategories.{node_law}
use Rattle.merc_program_laws.proofs.Programs.{lawful_calls, query_fits, query_graded, query_parts, query_type_law}
use Rattle.merc_program_laws.specs.Instances.{IsAnswer, EachOfRun, HasOfRun, EndsFreely}
use Rattle.merc_program_laws.specs.AnswerLaws.{AnswersAreWhole, RunAnswersAreYes, RunOthersAreNo, RunAnswersLaw, RunOthersLaw, WholeAnswersLaw}
use Rattle.merc_program_laws.proofs.Truthful.{IsInstance, Truthful, each_both, overridden, overridden_out, overridden_in, overridden_values, typed_value}
use Rattle.merc_program_laws.proofs.JoinedTruth.{yes_same}
use Rattle.merc_program_laws.proofs.TreeTruth.{node_truth}
use Rattle.merc_program_laws.proofs.CallLaw.{truthful_calls}

-- Traces and runs.

pub cut_each : (P : Env → Type 0) (limit : ℕ) (t : Trace) → Each P t → EachOfRun P (cut limit t)
cut_each P limit (Ends Done) h = tt
cut_each P limit (Ends (Raised x)) h = tt
cut_each P limit (Ends TooDeep) h = tt
cut_each P zero (Tick t) h = tt
cut_each P (suc limit) (Tick t) h = cut_each P limit t h
cut_each P limit (Answer env t) h = (h.0, cut_each P limit t h.1)

cut_done : (limit : ℕ) (t : Trace) → EndsFreely (cut limit t) → IsDone t
cut_done limit (Ends Done) h = tt
cut_done limit (Ends (Raised x)) h = h
cut_done limit (Ends TooDeep) h = h
cut_done zero (Tick t) h = absurd h
cut_done (suc limit) (Tick t) h = cut_done limit t h
cut_done limit (Answer env t) h = cut_done limit t h

cut_has : (P : Env → Type 0) (limit : ℕ) (t : Trace) → EndsFreely (cut limit t) → Has P t → HasOfRun P (cut limit t)
cut_has P limit (Ends e) d h = absurd h
cut_has P zero (Tick t) d h = absurd d
cut_has P (suc limit) (Tick t) d h = cut_has P limit t d h
cut_has P limit (Answer env t) d (inl h) = inl h
cut_has P limit (Answer env t) d (inr h) = inr (cut_has P limit t d h)

-- Given are a good program and a good goal.
module _ (known : Module) (bodies : List Body) (good : IsGoodProgram known bodies) (answers : List ℕ) (query : Body) (asked : IsGoodQuery known answers query) where
  abbrev program : Program
  program = program_of known.preds bodies

  -- a type variable stands for itself
  abbrev itself : Instance
  itself name = TypeVariable name

  module _ (limit stage : ℕ) (later : limit < stage) where
    abbrev trace : Trace
    trace = node_trace program (call_trace program (suc limit)) query.tree []

    abbrev Behind : Env → Type 0
    Behind answer = Goes known query.types itself (among answers) (with nothing (among (outputs_of query.tree))) (in_node query.tree) (known_behind query.tree []) [] answer

    query_goes : Each Behind trace
    query_goes =
        (node_law known good.good_types program (call_trace program (suc limit)) (lawful_calls known bodies good (suc limit)) query.types itself query.tree (among answers) nothing [] [] asked.binds
        (query_graded known bodies good answers query asked itself) (query_parts known bodies good answers query asked itself) (query_fits known bodies good answers query asked itself)).goes

    query_truth : Truthful (among answers) (in_node query.tree) (λ s. YesAt program stage (among answers) query.tree s) (λ s. NoAt program stage (among answers) query.tree s) [] trace
    query_truth =
        node_truth known good.good_types program (YesCall program stage) (NoCall program stage) (call_trace program (suc limit)) (lawful_calls known bodies good (suc limit)) (truthful_calls known bodies good (suc limit) stage (omega (arith, later)))
        query.types itself query.tree (among answers) nothing [] [] asked.binds (query_graded known bodies good answers query asked itself) asked.guarded (query_parts known bodies good answers query asked itself) (query_fits known bodies good answers query asked itself)

    query_gives : Each (GivesAll known.types itself query.types answers) trace
    query_gives = query_type_law known bodies good answers query asked itself (suc limit)

    whole : AnswersAreWhole answers (run program query.tree limit)
    whole = cut_each _ limit trace (each_map _ _ trace (λ answer h variable o. let r = h variable o in is_some_of (value_at answer variable) r.0 r.1) query_gives)

    -- an answer's values for the goal's own variables
    yes_at : (answer : Env) → Behind answer → ((s : Assignment) → IsAssignment s → ((x : ℕ) → in_node query.tree x ≡ true → (v : Value) → value_at answer x ≡ Some v → s x ≡ v) → YesAt program stage (among answers) query.tree s)
        → (s : Assignment) → IsAssignment s → IsAnswer answers s answer → YesAt program stage (among answers) query.tree s
    yes_at answer goes right s vals h =
        let s' : Assignment = overridden (among answers) answer s in
        let vals' : IsAssignment s' = overridden_values (among answers) answer s vals (λ x v e. typed_value known.types v _ (goes.typed x v e)) in
        yes_same (YesCall program stage) (NoCall program stage) query.tree (among answers) s s' (overridden_out (among answers) answer s)
        (right s' vals' (λ x o v e. overridden_in (among answers) answer s x v e (λ m. same_some (sym (h x m) ∙ e))))

    answers_yes : RunAnswersAreYes program stage answers query.tree (run program query.tree limit)
    answers_yes = cut_each _ limit trace (each_map _ _ trace (λ answer h. yes_at answer h.0 h.1) (each_both _ _ trace query_goes query_truth.answers_yes))

    -- an instance of an answer has its values for all answer variables
    is_answer : (answer : Env) (s : Assignment) → GivesAll known.types itself query.types answers answer → Behind answer → IsInstance (among answers) (in_node query.tree) s answer → IsAnswer answers s answer
    is_answer answer s gives goes instance x o =
        let r = gives x o in
        elim (either_way (in_node query.tree x)) as (λ _. value_at answer x ≡ Some (s x)) [
          | inl p ↦ r.1 ∙ ap Some (sym (instance x p o r.0 r.1))
          | inr p ↦ absurd (none_not (sym (goes.own x p) ∙ r.1))
        ]

    others_no : RunOthersAreNo program stage answers query.tree (run program query.tree limit)
    others_no free s vals = elim (query_truth.others_no (cut_done limit trace free) s vals (λ x o v e. absurd (none_not e)))
        as (λ _. NoAt program stage (among answers) query.tree s ⊎ HasOfRun (IsAnswer answers s) (run program query.tree limit)) [
          | inl k ↦ inl k
          | inr k ↦ inr (cut_has _ limit trace free (has_map _ _ trace (λ answer h. is_answer answer s h.0.0 h.0.1 h.1) (has_each _ _ trace (each_both _ _ trace query_gives query_goes) k)))
        ]

pub whole_answers_law : WholeAnswersLaw
whole_answers_law known bodies good answers query asked limit stage later = whole known bodies good answers query asked limit stage later

pub run_answers_law : RunAnswersLaw
run_answers_law known bodies good answers query asked limit stage later = answers_yes known bodies good answers query asked limit stage later

pub run_others_law : RunOthersLaw
run_others_law known bodies good answers query asked limit stage later = others_no known bodies good answers query asked limit stage later
