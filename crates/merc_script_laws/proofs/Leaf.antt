-- Goals into which no rights are pushed.
use Rattle.std.proofs.Common.{◌≡◌, ℕ, Bool, true, List, [], Option, Some, refl, sym, subst, ◌∙◌}
use Rattle.merc_base.specs.declared.category.Category.{Category}
use Rattle.merc_base.specs.declared.place.Span.{Span}
use Rattle.merc_tree.specs.declared.declarations.Module.{Module}
use Rattle.merc_graded_tree.specs.declared.basic.Procedure.{Procedure}
use Rattle.merc_graded_tree.specs.Nodes.{node, Goal}
use Rattle.merc_graded_tree.specs.Variables.{in_goal}
use Rattle.merc_order.specs.Bound.{Bound, among}
use Rattle.merc_order_laws.specs.Bindings.{Variables}
use Rattle.merc_order_laws.proofs.Facts.{clash}
use Rattle.merc_grading.specs.Known.{Known}
use Rattle.merc_value.specs.Value.{Value}
use Rattle.merc_meaning.specs.Trace.{Env, Trace, Ends as TraceEnds, Tick as TraceTick, Answer as TraceAnswer, Done as TraceDone, Raised as TraceRaised, TooDeep as TraceTooDeep}
use Rattle.merc_meaning.specs.Steps.{value_at}
use Rattle.merc_meaning.specs.Runs.{Program, once_if as t_once, node_trace}
use Rattle.merc_program_laws.proofs.Values.{Instance}
use Rattle.merc_program_laws.proofs.Lawful.{Fits}
use Rattle.merc_par_split.specs.Split.{nothing}
use Rattle.merc_plan.specs.Branch.{Hold, Fork, BranchCourse, BranchCourses}
use Rattle.merc_plan.specs.Hold.{with_env}
use Rattle.merc_plan.specs.Branches.{Plan, once_if as c_once, traced, node_branch}
use Rattle.merc_plan.proofs.Flat.{Flat, Done, Halts, Tick, Answer, Like, once_if, events}
use Rattle.merc_plan.proofs.Judging.{flat, Sure, Quiet}
use Rattle.merc_plan.proofs.Shown.{Shown}
use Rattle.merc_plan.proofs.Likes.{like_once}
use Rattle.merc_plan.proofs.Flats.{flat_once, sure_once}
use Rattle.merc_plan.proofs.Events.{events_once}
use Rattle.merc_script_laws.proofs.Bonds.{Set, Owed, Fit, Fine, Match, Names, Moves, Ends, Ready, Sound}

-- Given are the program of the graded trees with the traces of its calls, and the plan and the program of the split trees with the courses of its calls.
module _ (known : Module) (types i : Instance) (program : Program) (calls : Procedure → Env → Trace) (plan : Plan) (split : Program) (course : Procedure → Hold → BranchCourse) where
  -- what such a goal does, and the goal of the split tree that stands for it: along the trace, and with no use of rights from before
  pub record Leaf (g m : Goal) (outs : List ℕ) (category : Option Category) (span : Span) : Type 1 where
    pub along : (out : Variables) (b : Bound) (seen : Known) (here : Set) (hold : Hold) (full : Env) → Sound known types i out b seen (node g outs category span) → Fits known types i out b (in_goal g) seen full
        → Fit b here [] hold → Match [] hold full → Ready here [] b (in_goal g) → Names hold
        → Like (Ends full here [] [] nothing outs hold) (flat (node_branch plan split course (node m outs category span) hold)) (events (node_trace program calls (node g outs category span) full))
        × Sure (Shown program) (node_branch plan split course (node m outs category span) hold)
    pub quiet : (out : Variables) (b : Bound) (seen : Known) (here : Set) (hold : Hold) → Sound known types i out b seen (node g outs category span) → Fine known types i out b (in_goal g) seen hold
        → Fit b here [] hold → Ready here [] b (in_goal g) → Names hold → Quiet hold.next [] (node_branch plan split course (node m outs category span) hold)

-- What a goal answers that only gives variables values: its rights stay as they are.

owed_in : (hold : Hold) (e : Env) (x c : ℕ) (o : Option Value) → Owed hold x c o → Owed (with_env hold e) x c o
owed_in hold e x c o p = record { right = p.right; found = p.found; at = p.at; gives = p.gives }

owed_out : (hold : Hold) (e : Env) (x c : ℕ) (o : Option Value) → Owed (with_env hold e) x c o → Owed hold x c o
owed_out hold e x c o p = record { right = p.right; found = p.found; at = p.at; gives = p.gives }

names_env : (hold : Hold) (e : Env) → ((x c : ℕ) (o : Option Value) → Owed hold x c o → value_at e x ≡ value_at hold.env x) → Names hold → Names (with_env hold e)
names_env hold e older n = record {
  low = n.low;
  apart = n.apart;
  low_owed = λ x c o p. n.low_owed x c o (owed_out hold e x c o p);
  apart_owed = λ x y c o q p r. n.apart_owed x y c o q (owed_out hold e x c o p) (owed_out hold e y c q r);
  single = n.single;
  kinds = λ x y c o h p. n.kinds x y c o h (owed_out hold e y c o p);
  cells = n.cells;
  wait_cells = n.wait_cells;
  wait_variables = n.wait_variables;
  valueless = λ x c o v p h. n.valueless x c o v (owed_out hold e x c o p) (sym (older x c o (owed_out hold e x c o p)) ∙ h);
}

pub moves_env : (b : Bound) (here : Set) (later : ℕ → Bool) (outs : List ℕ) (hold : Hold) (e : Env) → Fit b here [] hold → ((x : ℕ) → b x ≡ true → value_at e x ≡ value_at hold.env x)
    → ((x : ℕ) → among outs x ≡ true → (v : Value) × (value_at e x ≡ Some v)) → Moves here [] [] later outs hold (with_env hold e)
moves_env b here later outs hold e f older fresh = record {
  keep = λ x v h p. older x (f.below x h) ∙ p;
  fresh = fresh;
  got = λ x c o h l p. clash h refl;
  rest = λ x c o h p. owed_in hold e x c o p;
  old = λ x c o p. owed_out hold e x c o p;
  next = refl;
  names = λ n. names_env hold e (λ x c o p. older x (f.known x c o p)) n;
  signed = λ x c h. h;
  still = λ h. refl;
  unsigned = λ x h. refl;
}

pub moves_none : (here : Set) (later : ℕ → Bool) (outs : List ℕ) (hold : Hold) → ((x : ℕ) → among outs x ≡ true → ⊥) → Moves here [] [] later outs hold hold
moves_none here later outs hold none = record {
  keep = λ x v h p. p;
  fresh = λ x h. absurd (none x h);
  got = λ x c o h l p. clash h refl;
  rest = λ x c o h p. p;
  old = λ x c o p. p;
  next = refl;
  names = λ n. n;
  signed = λ x c h. h;
  still = λ h. refl;
  unsigned = λ x h. refl;
}

-- goals that are entered once at most
pub wrap : (Holds : Fork → BranchCourses → Type 0) (R : Hold → Env → Type 0) (once : Bool) (t : BranchCourse) (u : Trace) → Like R (flat t) (events u) → Sure Holds t
    → Like R (flat (c_once once t)) (events (t_once once u)) × Sure Holds (c_once once t)
wrap Holds R once t u h s = (
  subst (λ (z : Flat Hold). Like R z (events (t_once once u))) (sym (flat_once Holds once t s))
      (subst (λ (z : Flat Env). Like R (once_if once (flat t)) z) (sym (events_once once u)) (like_once R once (flat t) (events u) h)),
  sure_once Holds once t s,
)

-- The course of a goal that meets nobody.

pub traced_like : (R : Hold → Env → Type 0) (hold : Hold) (t : Trace) (u : Flat Env) → Like (λ e q. R (with_env hold e) q) (events t) u → Like R (flat (traced hold t)) u
traced_like R hold (TraceEnds TraceDone) Done h = tt
traced_like R hold (TraceEnds TraceDone) (Halts g) h = absurd h
traced_like R hold (TraceEnds TraceDone) (Tick u) h = absurd h
traced_like R hold (TraceEnds TraceDone) (Answer q u) h = absurd h
traced_like R hold (TraceEnds (TraceRaised text)) (Halts g) h = h
traced_like R hold (TraceEnds (TraceRaised text)) Done h = absurd h
traced_like R hold (TraceEnds (TraceRaised text)) (Tick u) h = absurd h
traced_like R hold (TraceEnds (TraceRaised text)) (Answer q u) h = absurd h
traced_like R hold (TraceEnds TraceTooDeep) (Halts g) h = h
traced_like R hold (TraceEnds TraceTooDeep) Done h = absurd h
traced_like R hold (TraceEnds TraceTooDeep) (Tick u) h = absurd h
traced_like R hold (TraceEnds TraceTooDeep) (Answer q u) h = absurd h
traced_like R hold (TraceTick t) (Tick u) h = traced_like R hold t u h
traced_like R hold (TraceTick t) Done h = absurd h
traced_like R hold (TraceTick t) (Halts g) h = absurd h
traced_like R hold (TraceTick t) (Answer q u) h = absurd h
traced_like R hold (TraceAnswer e t) (Answer q u) h = (h.0, traced_like R hold t u h.1)
traced_like R hold (TraceAnswer e t) Done h = absurd h
traced_like R hold (TraceAnswer e t) (Halts g) h = absurd h
traced_like R hold (TraceAnswer e t) (Tick u) h = absurd h

pub traced_sure : (Holds : Fork → BranchCourses → Type 0) (hold : Hold) (t : Trace) → Sure Holds (traced hold t)
traced_sure Holds hold (TraceEnds TraceDone) = tt
traced_sure Holds hold (TraceEnds (TraceRaised text)) = tt
traced_sure Holds hold (TraceEnds TraceTooDeep) = tt
traced_sure Holds hold (TraceTick t) = traced_sure Holds hold t
traced_sure Holds hold (TraceAnswer e t) = traced_sure Holds hold t

pub traced_quiet : (next : ℕ) (hold : Hold) (t : Trace) → Quiet next [] (traced hold t)
traced_quiet next hold (TraceEnds TraceDone) = tt
traced_quiet next hold (TraceEnds (TraceRaised text)) = tt
traced_quiet next hold (TraceEnds TraceTooDeep) = tt
traced_quiet next hold (TraceTick t) = traced_quiet next hold t
traced_quiet next hold (TraceAnswer e t) = traced_quiet next hold t
