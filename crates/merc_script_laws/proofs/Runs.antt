-- What a goal does into which nothing is pushed, between its waits and its signals.
use Rattle.std.proofs.Common.{◌≡◌, ℕ, ◌<◌, Bool, List, [], ◌∷◌, Option, refl, ap, sym, subst, ◌∙◌}
use Rattle.merc_base.specs.Category.{most_of}
use Rattle.merc_base.specs.declared.category.Category.{Category}
use Rattle.merc_base.specs.declared.category.Most.TheVariants.{Zero}
use Rattle.merc_base.specs.declared.place.Span.{Span}
use Rattle.merc_tree.specs.declared.declarations.Module.{Module}
use Rattle.merc_graded_tree.specs.declared.basic.Procedure.{Procedure}
use Rattle.merc_graded_tree.specs.Nodes.{Node, node, Goal, outputs_of, category_of}
use Rattle.merc_graded_tree.specs.Variables.{in_goal}
use Rattle.merc_grading.specs.Known.{known_behind}
use Rattle.merc_grading.specs.Grading.{category_at}
use Rattle.merc_order.specs.Bound.{Bound}
use Rattle.merc_meaning.specs.Trace.{Env, Trace}
use Rattle.merc_meaning.specs.Runs.{Program, answers_once, once_if as t_once, goal_trace, node_trace}
use Rattle.merc_program_laws.specs.GoodPrograms.{AreGoodTypes}
use Rattle.merc_program_laws.proofs.Values.{Instance}
use Rattle.merc_program_laws.proofs.Calls.{LawfulCalls}
use Rattle.merc_rights.specs.Rights.{Right, around}
use Rattle.merc_par_split.specs.Split.{nothing}
use Rattle.merc_plan.specs.Branch.{Hold, BranchCourse}
use Rattle.merc_plan.specs.Branches.{Plan, node_branch}
use Rattle.merc_plan.proofs.Flat.{once_if, events}
use Rattle.merc_plan.proofs.Judging.{flat}
use Rattle.merc_plan.proofs.Shown.{Shown}
use Rattle.merc_plan.proofs.Likes.{like_more, once_twice}
use Rattle.merc_plan.proofs.Events.{events_once}
use Rattle.merc_script_laws.proofs.Bonds.{Set, Fit, Ends, here_or, Goes}
use Rattle.merc_script_laws.proofs.Steps.{Waits, fit_waited, match_waited, ready_waited, fine_waited}
use Rattle.merc_script_laws.proofs.Holding.{waitable}
use Rattle.merc_script_laws.proofs.Sides.{divides_first, around_along, around_uses}
use Rattle.merc_script_laws.proofs.Leaf.{Leaf}
use Rattle.merc_script_laws.proofs.LeafUses.{moves_later, leaf_keeps}

pub category_around : (w s : List Right) (n : Node) → category_of (around w s n) ≡ category_of n
category_around [] [] n = refl
category_around [] (r ∷ s) n = refl
category_around (r ∷ w) s n = refl

pub outputs_around : (w s : List Right) (n : Node) → outputs_of (around w s n) ≡ outputs_of n
outputs_around [] [] n = refl
outputs_around [] (r ∷ s) n = refl
outputs_around (r ∷ w) s n = refl

-- a goal that is entered once at most has a trace that is so
pub once_same : (b : Bool) (t : Trace) → once_if b (events (t_once b t)) ≡ events (t_once b t)
once_same b t = ap (once_if b) (events_once b t) ∙ once_twice b (events t) ∙ sym (events_once b t)

-- behind waits for all that a goal waits for
pub fit_behind : (b : Bound) (here : Set) (w : List Right) (hold hold1 : Hold) → Fit b here w hold → Waits here w hold hold1 → Fit b (here_or here w) [] hold1
fit_behind b here w hold hold1 f p =
    let d = divides_first w in
    fit_waited b here w w [] hold hold1 d.parts d.in1 d.in2 d.apart tt f p.moves

-- Given are the module, the types of the variables, and what type variables stand for; the program of the graded trees, whose calls are lawful; and the plan and
-- the program of the split trees, with the courses of its calls.
module _ (known : Module) (types i : Instance) (declared : AreGoodTypes known.types) (program : Program) (calls : Procedure → Env → Trace) (lawful : LawfulCalls known program calls)
    (plan : Plan) (split : Program) (course : Procedure → Hold → BranchCourse) where
  pub goes_leaf : (g m : Goal) (outs : List ℕ) (category : Option Category) (span : Span) (fits : (ℕ → Bool) → List Right → List Right → Type 0)
      → ((later : ℕ → Bool) (w s : List Right) → fits later w s → Leaf known types i program calls plan split course g m outs category span)
      → Goes known types i program calls plan split course (node g outs category span) (λ later w s. around w s (node m outs category span)) fits
  goes_leaf g m outs category span fits leaf = record {
    along = λ later w s out b seen here hold full fit all within sound there f t r names counted.
        let one = leaf later w s fit in
        let d = divides_first w in
        around_along plan split course m outs category span here w w [] s s [] later hold d (divides_first s) (Shown program) names counted (λ x h. refl) b full (events (node_trace program calls whole full)) within
        (once_same (answers_once outs category) (goal_trace program calls g full)) (waitable hold names) f f.once t
        (λ hold1 p.
        let a = one.along out b seen (here_or here w) hold1 full sound there (fit_behind b here w hold hold1 f p) (match_waited b here w w [] hold hold1 d.parts d.in1 d.in2 d.apart full f t p)
        (ready_waited b here w w [] hold hold1 d.parts d.in1 d.in2 d.apart (in_goal g) r) (p.moves.names names) in (
          like_more (Ends full (here_or here w) [] [] nothing outs hold1) (Ends full (here_or here w) [] [] later outs hold1) (λ e q k. (moves_later (here_or here w) nothing later outs hold1 e k.0, k.1))
              (flat (node_branch plan split course (node m outs category span) hold1)) (events (node_trace program calls whole full)) a.0,
          a.1,
        ))
        w s refl refl;
    uses = λ later w s out b seen here hold rights held gifts proper is_proper fit all sound sure fine f r names q.
        let d = divides_first w in
        around_uses plan split course m outs category span here w w [] s s [] later hold d (divides_first s) known types i out b (in_goal g) seen (known_behind whole seen)
        (most_of (category_at whole) ≡ Zero) proper rights held gifts names f q all f.once (λ x h. refl)
        (λ x c v e h k at a reached. is_proper x c v h k (a.typed x v at) (λ unreached sy is_known. a.knows x sy v is_known at))
        (λ hold1 held1 p still.
        leaf_keeps known types i declared program calls lawful plan split course g m outs category span (leaf later w s fit) later out b seen (here_or here w) hold1 proper rights held1 gifts sound sure
        (fine_waited b here w w [] hold hold1 d.parts d.in1 d.in2 d.apart known types i out (in_goal g) seen all f p fine) (fit_behind b here w hold hold1 f p)
        (ready_waited b here w w [] hold hold1 d.parts d.in1 d.in2 d.apart (in_goal g) r) (p.moves.names names) (λ c h. subst (λ n. c < n) (sym p.moves.next) (q.low c h)))
        w s refl refl;
    quiet = λ later out b seen here hold fit sound fine f r names. (leaf later [] [] fit).quiet out b seen here hold sound fine f r names;
    rated = λ later w s. category_around w s (node m outs category span);
    shaped = λ later w s. outputs_around w s (node m outs category span);
  } where
    whole : Node
    whole = node g outs category span
