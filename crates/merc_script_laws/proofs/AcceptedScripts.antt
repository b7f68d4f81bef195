-- The scripts of accepted goals are well formed and show their runs, and the scripts of conjuncts join to what their goals show.
use Rattle.std.proofs.Common.{suc, true, List, [], refl}
use Rattle.merc_tree.specs.Types.{IntType}
use Rattle.merc_tree.specs.declared.declarations.Module.{Module}
use Rattle.merc_graded_tree.specs.Nodes.{Node}
use Rattle.merc_order.specs.Bound.{nothing, among}
use Rattle.merc_order.specs.Procedures.{modes_of}
use Rattle.merc_meaning.specs.Runs.{call_trace}
use Rattle.merc_meaning.specs.Programs.{program_with}
use Rattle.merc_program_laws.proofs.Values.{Instance}
use Rattle.merc_plan.specs.Branches.{root_branch}
use Rattle.merc_plan.specs.BranchScript.{no_numbers}
use Rattle.merc_plan.proofs.ScriptForks.{script_forks}
use Rattle.merc_plan.proofs.Valuing.{split_stands}
use Rattle.merc_script_laws.specs.ScriptLaws.{ScriptsAreWellFormed, ScriptsShowRuns, GoalsStandAtScripts, JoinsShowTraces, ScriptsJoin, split_goal, split_plan, split_program}
use Rattle.merc_script_laws.proofs.AcceptedSound.{IsSoundGoal, IsSoundProgram, accepted_sound, accepted_goal_sound}
use Rattle.merc_script_laws.proofs.BindingOnce.{binds_once}
use Rattle.merc_script_laws.proofs.CallTrees.{AllGo}
use Rattle.merc_script_laws.proofs.Top.{alone_quiet, alone_joins, alone_shows, alone_well_formed}
use Rattle.merc_script_laws.proofs.Trees.{goes_node}

-- what type variables stand for is not seen
abbrev pub any : Instance
any x = IntType

pub all_go : (known : Module) (trees : List Node) (sound : IsSoundProgram known trees) (tree : Node) → AllGo known (program_with known.preds trees) (split_plan trees tree) (split_program known.preds trees)
all_go known trees sound tree types i depth lawful course go n site =
    let program = program_with known.preds trees in
    goes_node known types i sound.good_types program (call_trace program depth) lawful (split_plan trees tree) (split_program known.preds trees) course go (depth, refl) n site

pub scripts_formed : ScriptsAreWellFormed
scripts_formed before after text items found trees is names asked goal accepted tree graded limit few =
    let sound = accepted_sound before after text items found trees is in
    let g : IsSoundGoal found tree = accepted_goal_sound before after text items found trees is names asked goal accepted tree graded in
    alone_well_formed found trees sound g.types any (among g.answers) nothing [] tree (g.sound any) (g.fits any) (all_go found trees sound tree) limit few

pub scripts_show : ScriptsShowRuns
scripts_show before after text items found trees is names asked goal accepted tree graded limit few =
    let sound = accepted_sound before after text items found trees is in
    let g : IsSoundGoal found tree = accepted_goal_sound before after text items found trees is names asked goal accepted tree graded in
    alone_shows found trees sound g.types any (among g.answers) nothing [] tree (g.sound any) (g.fits any) (all_go found trees sound tree) limit

pub goals_stand : GoalsStandAtScripts
goals_stand before after text items found trees is names asked goal accepted tree graded limit few =
    let sound = accepted_sound before after text items found trees is in
    let g : IsSoundGoal found tree = accepted_goal_sound before after text items found trees is names asked goal accepted tree graded in
    split_stands found.preds trees tree sound.once (binds_once (modes_of found.preds) tree (among g.answers) nothing (g.sound any).good) limit few
    (alone_quiet found trees sound g.types any (among g.answers) nothing [] tree (g.sound any) (g.fits any) (all_go found trees sound tree) limit)

pub joins_are_traces : JoinsShowTraces
joins_are_traces before after text items found trees is names asked goal accepted tree graded limit few =
    let sound = accepted_sound before after text items found trees is in
    let g : IsSoundGoal found tree = accepted_goal_sound before after text items found trees is names asked goal accepted tree graded in
    alone_joins found trees sound g.types any (among g.answers) nothing [] tree (g.sound any) (g.fits any) (all_go found trees sound tree) limit

pub scripts_join : ScriptsJoin
scripts_join before after text items found trees is names asked goal accepted tree graded limit few =
    script_forks (program_with found.preds trees) true (root_branch (split_plan trees tree) (split_program found.preds trees) (suc limit) (split_goal trees tree)) limit 0 [] no_numbers 0
    (joins_are_traces before after text items found trees is names asked goal accepted tree graded limit few)
