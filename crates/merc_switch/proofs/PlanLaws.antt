-- The plan of a goal by what the goal joins.
use Rattle.std.specs.Prelude.{◌≡◌, ℕ, List, [], ◌∷◌, ◌++◌, length}
use Rattle.std.proofs.Common.{◌∙◌, ap, sym}
use Rattle.std.proofs.lemmas.List.{append_assoc}
use Rattle.merc_graded_tree.specs.declared.entries.Label.{Label}
use Rattle.merc_graded_tree.specs.declared.entries.Root.{Root}
use Rattle.merc_graded_tree.specs.declared.entries.Root.TheVariants.{Conjunction as ConjunctionRoot}
use Rattle.merc_graded_tree.specs.declared.entries.Running.{Running}
use Rattle.merc_graded_tree.specs.Nodes.{Node, Goal, Conjunction, Disjunction, nodes_of, list_of, goal_of, outputs_of, category_of, span_of}
use Rattle.merc_graded_tree.specs.Roots.{root_of, label_of}
use Rattle.merc_graded_tree.proofs.JoinLaws.{list_of-nodes_of}
use Rattle.merc_switch.specs.declared.tasks.Task.{Task}
use Rattle.merc_switch.specs.declared.tasks.Task.TheVariants.{Close}
use Rattle.merc_switch.specs.Plans.{in_turn, disjoined, plan_of, plan}

-- a goal's label by its root
abbrev pub with_root : Node → Root → Label
with_root whole root = record { root = root; outputs = outputs_of whole; category = category_of whole; span = span_of whole }

planned : (mark : ℕ) (whole : Node) (goal : Goal) (rest tasks : List Task) → goal ≡ goal_of whole → tasks ≡ plan_of mark whole goal ++ rest → tasks ≡ plan mark whole ++ rest
planned mark whole goal rest tasks is put = put ∙ ap (λ g. plan_of mark whole g ++ rest) is

label_is : (whole : Node) (goal : Goal) (root : Root) (label : Label) → goal ≡ goal_of whole → root ≡ root_of goal → label ≡ with_root whole root → label ≡ label_of whole
label_is whole goal root label is rooted made = made ∙ ap (with_root whole) (rooted ∙ ap root_of is)

pub plans_conjunction : (mark : ℕ) (whole : Node) (running : Running) (goals : List Node) (label : Label) (rest closed tasks : List Task) → Conjunction running (nodes_of goals) ≡ goal_of whole
    → label ≡ with_root whole (ConjunctionRoot running (length goals)) → closed ≡ Close label ∷ rest → tasks ≡ in_turn mark goals ++ closed → tasks ≡ plan mark whole ++ rest
plans_conjunction mark whole running goals label rest closed tasks is made first put =
    let same = list_of-nodes_of goals in
    let labelled = label_is whole (Conjunction running (nodes_of goals)) (ConjunctionRoot running (length goals)) label is (ap (λ l. ConjunctionRoot running (length l)) (sym same)) made in
    planned mark whole (Conjunction running (nodes_of goals)) rest tasks is
    (put ∙ ap (λ l. in_turn mark goals ++ l) (first ∙ ap (λ l. Close l ∷ rest) labelled)
    ∙ ap (λ l. in_turn mark l ++ Close (label_of whole) ∷ rest) (sym same)
    ∙ sym (append_assoc (in_turn mark (list_of (nodes_of goals))) (Close (label_of whole) ∷ []) rest))

pub plans_disjunction : (mark : ℕ) (whole : Node) (goals : List Node) (rest tasks : List Task) → Disjunction (nodes_of goals) ≡ goal_of whole → tasks ≡ disjoined whole goals ∷ rest
    → tasks ≡ plan mark whole ++ rest
plans_disjunction mark whole goals rest tasks is put =
    planned mark whole (Disjunction (nodes_of goals)) rest tasks is (put ∙ ap (λ l. disjoined whole l ∷ rest) (sym (list_of-nodes_of goals)))
