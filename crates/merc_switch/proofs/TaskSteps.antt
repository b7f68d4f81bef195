-- A task by what it is: what it leaves.
use Rattle.std.specs.Prelude.{◌≡◌, ◌≤◌, ℕ, List, [], ◌∷◌, ◌++◌, length, take}
use Rattle.std.proofs.Common.{◌∙◌, ap, sym, subst}
use Rattle.merc_tree.specs.declared.declarations.TypeDef.{TypeDef}
use Rattle.merc_graded_tree.specs.declared.entries.Label.{Label}
use Rattle.merc_graded_tree.specs.Nodes.{Node, outputs_of}
use Rattle.merc_graded_tree.specs.Roots.{arity_of, last_joined}
use Rattle.merc_switch.specs.declared.tasks.Group.{Group}
use Rattle.merc_switch.specs.declared.tasks.Task.{Task}
use Rattle.merc_switch.specs.declared.tasks.Task.TheVariants.{Find, Keep, Bind, Unbind, Judge, Close}
use Rattle.merc_switch_choice.specs.Variables.{all_behind}
use Rattle.merc_switch.specs.Tasks.{HaveEnough, Performs}
use Rattle.merc_switch.specs.Plans.{plan}
use Rattle.merc_switch.proofs.Steps.{finds_goal, keeps_goal, binds_goal, unbinds, closes}

module _ (declared : List TypeDef) (task : Task) (rest : List Task) (goals : List Node) (bound : List ℕ) where
  whole_task : (other : Task) (tasks : List Task) (now : List Node) (after : List ℕ) → task ≡ other → Performs declared (other ∷ rest) goals bound tasks now after
      → Performs declared (task ∷ rest) goals bound tasks now after
  whole_task other tasks now after is performs = subst (λ t. Performs declared (t ∷ rest) goals bound tasks now after) (sym is) performs

  pub performs_find : (whole : Node) (mark : ℕ) (tasks : List Task) → task ≡ Find whole → mark ≡ length bound → tasks ≡ plan mark whole ++ rest → Performs declared (task ∷ rest) goals bound tasks goals bound
  performs_find whole mark tasks is marked put =
      whole_task (Find whole) tasks goals bound is (finds_goal declared whole rest tasks goals bound (put ∙ ap (λ m. plan m whole ++ rest) marked))

  pub performs_keep : (whole : Node) (now : List Node) → task ≡ Keep whole → now ≡ goals ++ whole ∷ [] → Performs declared (task ∷ rest) goals bound rest now bound
  performs_keep whole now is put = whole_task (Keep whole) rest now bound is (keeps_goal declared whole rest goals now bound put)

  pub performs_bind : (whole : Node) (outputs listed after : List ℕ) → task ≡ Bind whole → outputs ≡ outputs_of whole → listed ≡ outputs → after ≡ all_behind bound listed
      → Performs declared (task ∷ rest) goals bound rest goals after
  performs_bind whole outputs listed after is are same put =
      whole_task (Bind whole) rest goals after is (binds_goal declared whole rest goals bound after (put ∙ ap (all_behind bound) (same ∙ are)))

  pub performs_unbind : (mark : ℕ) (after : List ℕ) → task ≡ Unbind mark → after ≡ take mark bound → Performs declared (task ∷ rest) goals bound rest goals after
  performs_unbind mark after is put = whole_task (Unbind mark) rest goals after is (unbinds declared mark rest goals bound after put)

  pub performs_judge : (group : Group) (tasks : List Task) → task ≡ Judge group
      → ((before : List Node) → Performs declared (Judge group ∷ rest) before bound tasks before bound) → Performs declared (task ∷ rest) goals bound tasks goals bound
  performs_judge group tasks is performs = whole_task (Judge group) tasks goals bound is (performs goals)

  pub performs_close : (label : Label) (now : List Node) → task ≡ Close label → now ≡ last_joined label goals → Performs declared (task ∷ rest) goals bound rest now bound
  performs_close label now is put = whole_task (Close label) rest now bound is (closes declared label rest goals now bound put)

-- what is closed joins no more goals than there are
pub close_enough : (task : Task) (rest : List Task) (goals : List Node) (label : Label) → task ≡ Close label → HaveEnough (length goals) (task ∷ rest) → arity_of label.root ≤ length goals
close_enough task rest goals label is enough = (subst (λ t. HaveEnough (length goals) (t ∷ rest)) is enough).0
