-- The search task by task.
use Rattle.std.specs.Prelude.{◌≡◌, ℕ, List, [], ◌∷◌, ◌++◌, length, refl}
use Rattle.std.specs.List.{AllByRecursion}
use Rattle.std.proofs.Common.{◌∙◌, ap, sym, subst, ◌<◌}
use Rattle.merc_tree.specs.Types.{TypeExpr}
use Rattle.merc_tree.specs.declared.declarations.TypeDef.{TypeDef}
use Rattle.merc_graded_tree.specs.Nodes.{Node}
use Rattle.merc_order.specs.Bound.{Bound, among}
use Rattle.merc_grading.specs.Fitting.{Fits}
use Rattle.merc_grading.specs.Switches.{find}
use Rattle.merc_switch.specs.declared.tasks.Task.{Task}
use Rattle.merc_switch.specs.declared.tasks.Task.TheVariants.{Find}
use Rattle.merc_switch.specs.Tasks.{HaveEnough, FitsTask, done, total, Performs}

-- what is left to do leads to the goal with its switches
pub record Leads (declared : List TypeDef) (start : Bound) (goal : Node) (before : List Node) (tasks : List Task) (found : List Node) (bound : List ℕ) : Type 0 where
  pub enough : HaveEnough (length found) tasks
  pub fits : (types : ℕ → TypeExpr) → Fits declared types goal → AllByRecursion (FitsTask declared types) tasks
  pub same : (types : ℕ → TypeExpr) → Fits declared types goal → done declared types tasks found bound ≡ before ++ find declared types start goal ∷ []

pub leads_first : (declared : List TypeDef) (goal copy : Node) (found : List Node) (none tasks : List Task) (bound : List ℕ) → copy ≡ goal → none ≡ [] → tasks ≡ Find copy ∷ none
    → Leads declared (among bound) goal found tasks found bound
leads_first declared goal copy found none tasks bound same is put =
    subst (λ l. Leads declared (among bound) goal found l found bound) (sym (put ∙ ap (λ l. Find copy ∷ l) is ∙ ap (λ n. Find n ∷ []) same)) (record {
      enough = tt;
      fits = λ types fits. (fits, tt);
      same = λ types fits. refl;
    })

pub leads_on : (declared : List TypeDef) (start : Bound) (goal : Node) (before : List Node) (all rest tasks : List Task) (task : Task) (found found' : List Node) (bound bound' : List ℕ)
    → all ≡ task ∷ rest → Performs declared (task ∷ rest) found bound tasks found' bound' → Leads declared start goal before all found bound → Leads declared start goal before tasks found' bound'
leads_on declared start goal before all rest tasks task found found' bound bound' popped performs leads =
    let now = subst (λ l. Leads declared start goal before l found bound) popped leads in
    record {
      enough = performs.enough now.enough;
      fits = λ types fits. performs.fits types (now.fits types fits);
      same = λ types fits. sym (performs.same types (now.fits types fits)) ∙ now.same types fits;
    }

pub enough_now : (all rest : List Task) (task : Task) (count : ℕ) → all ≡ task ∷ rest → HaveEnough count all → HaveEnough count (task ∷ rest)
enough_now all rest task count popped enough = subst (λ l. HaveEnough count l) popped enough

pub less_left : (declared : List TypeDef) (all rest tasks : List Task) (task : Task) (found found' : List Node) (bound bound' : List ℕ) → all ≡ task ∷ rest
    → Performs declared (task ∷ rest) found bound tasks found' bound' → total tasks < total all
less_left declared all rest tasks task found found' bound bound' popped performs = subst (λ l. total tasks < total l) (sym popped) performs.smaller

pub leads_last : (declared : List TypeDef) (start : Bound) (goal : Node) (before : List Node) (tasks : List Task) (found : List Node) (bound : List ℕ) → tasks ≡ []
    → Leads declared start goal before tasks found bound → (types : ℕ → TypeExpr) → Fits declared types goal → found ≡ before ++ find declared types start goal ∷ []
leads_last declared start goal before tasks found bound none leads types fits = sym (ap (λ l. done declared types l found bound) none) ∙ leads.same types fits
