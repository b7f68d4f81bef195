-- A course stands at the same scripts where its answers give other values: answers are passed over.
use Rattle.std.proofs.Common.{ℕ, List, Option, map}
use Rattle.merc_value.specs.Value.{Value}
use Rattle.merc_meaning.specs.Steps.{value_at}
use Rattle.merc_script.specs.Script.{Script}
use Rattle.merc_course.specs.Course.{RunCourse, Given, Passed, Joined}
use Rattle.merc_course.specs.Shown.{shown}
use Rattle.merc_plan.specs.Stands.{Stands, done, raised, limited, ticks, answers, waits, starves, hands, goes_on, ends_there}

pub shown_stands : (values : ℕ → Option Value) (variables : List ℕ) (course : RunCourse) (script : Script) → Stands values course script → Stands values (shown variables course) script
shown_stands values variables _ _ (done made) = done made
shown_stands values variables _ _ (raised text made) = raised text made
shown_stands values variables _ _ limited = limited
shown_stands values variables _ _ (ticks course rest s) = ticks (shown variables course) rest (shown_stands values variables course rest s)
shown_stands values variables _ _ (answers env course rest s) = answers (map (value_at env) variables) (shown variables course) rest (shown_stands values variables course rest s)
shown_stands values variables _ _ (waits variable cell value forked next rest has s) =
    waits variable cell value forked (λ reply. shown variables (next reply)) rest has (shown_stands values variables (next (Given value)) rest s)
shown_stands values variables _ _ (starves variable cell forked next none) = starves variable cell forked (λ reply. shown variables (next reply)) none
shown_stands values variables _ _ (hands variable cell value forked next rest has s) =
    hands variable cell value forked (λ reply. shown variables (next reply)) rest has (shown_stands values variables (next Passed) rest s)
shown_stands values variables _ _ (goes_on site limit steps cells moves forked next children rest joins all s) =
    goes_on site limit steps cells moves forked (λ reply. shown variables (next reply)) children rest joins all (shown_stands values variables (next (Joined steps)) rest s)
shown_stands values variables _ _ (ends_there site limit cells moves forked next children end bad all) =
    ends_there site limit cells moves forked (λ reply. shown variables (next reply)) children end bad all
