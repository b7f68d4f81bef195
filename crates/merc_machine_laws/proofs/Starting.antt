-- A machine that is started for an accepted goal stands at the goal's script.
use Rattle.merc_core.specs.WellFormed.{cells_of, value_in}
use Rattle.merc_course.specs.Course.{RunCourse}
use Rattle.merc_course.specs.Courses.{course}
use Rattle.merc_course.specs.Shown.{shown}
use Rattle.merc_par_split.specs.Split.{all_split}
use Rattle.merc_code.specs.Meaning.{start}
use Rattle.merc_gen.specs.Generated.{query_code}
use Rattle.merc_gen.specs.Sites.{conjuncts_at, forked_with}
use Rattle.merc_gen.proofs.Numbered.{goal-behind-sited, program-sited}
use Rattle.merc_gen.proofs.Theorem.{same-code-follows}
use Rattle.merc_last_calls.proofs.Runs.{starts, with_last_calls}
use Rattle.merc_script_laws.specs.ScriptLaws.{goal_script, split_goal, split_program}
use Rattle.merc_script_laws.proofs.AcceptedScripts.{goals_stand}
use Rattle.merc_machine_laws.specs.AtScripts.{GoalsStartAtScripts}
use Rattle.merc_machine_laws.proofs.ShownStands.{shown_stands}

pub goals_start : GoalsStartAtScripts
goals_start before after text items found trees is names asked goal accepted tree graded limit few variables codes code program loaded machine started =
    let predicates = found.preds in
    let whole = split_goal trees tree in
    let all = split_program predicates trees in
    let script = goal_script predicates trees tree limit in
    let sites = conjuncts_at (forked_with (all_split 0 trees) whole) in
    let query = query_code all whole variables in
    let follows = same-code-follows all sites (program-sited predicates trees tree) whole (goal-behind-sited trees tree) variables codes code.procedures code.conjuncts in
    let goes : RunCourse = shown variables (course all whole limit) in
    let yields = with_last_calls codes (start query limit) (start query limit) goes (starts query limit) (follows.each_limit limit) in
    record {
      course = goes;
      means = started codes query loaded goes yields;
      stands = shown_stands (value_in (cells_of script)) variables (course all whole limit) script
          (goals_stand before after text items found trees is names asked goal accepted tree graded limit few);
    }
