-- Goals behind which signals stand where they may fail, and what the plan has for the parts of a goal.
use Rattle.std.proofs.Common.{◌≡◌, ℕ, zero, suc, ◌+◌, Bool, true, false, if◌then◌else◌, List, [], ◌∷◌, ◌++◌, length, Option, Some, None, slice_get, refl, ap, sym, subst, ◌∙◌, arith}
use Rattle.merc_base.specs.Category.{can_fail_of, most_of}
use Rattle.merc_base.specs.declared.category.Category.{Category}
use Rattle.merc_base.specs.declared.category.Most.TheVariants.{Zero}
use Rattle.merc_base.specs.declared.place.Span.{Span}
use Rattle.merc_tree.specs.declared.declarations.Module.{Module}
use Rattle.merc_graded_tree.specs.declared.basic.Procedure.{Procedure}
use Rattle.merc_graded_tree.specs.Nodes.{Node, node, Goal, outputs_of, category_of}
use Rattle.merc_graded_tree.specs.Variables.{in_goal}
use Rattle.merc_grading.specs.Known.{Known, known_behind}
use Rattle.merc_grading.specs.Grading.{given, category_at}
use Rattle.merc_order.specs.Bound.{Bound}
use Rattle.merc_order_laws.specs.Bindings.{Variables}
use Rattle.merc_order_laws.proofs.Facts.{clash}
use Rattle.merc_meaning.specs.Trace.{Env, Trace}
use Rattle.merc_meaning.specs.Runs.{Program, answers_once, goal_trace, node_trace}
use Rattle.merc_program_laws.proofs.Values.{Instance}
use Rattle.merc_program_laws.proofs.Lawful.{Fits}
use Rattle.merc_rights.specs.Rights.{Right, around}
use Rattle.merc_par_split.specs.Split.{may_fail}
use Rattle.merc_rights.specs.declared.sites.SiteInfo.{SiteInfo}
use Rattle.merc_plan.specs.Branch.{Hold, BranchCourse}
use Rattle.merc_plan.specs.Branches.{Plan, node_branch}
use Rattle.merc_plan.proofs.Flat.{Flat, Like, once_if, events}
use Rattle.merc_plan.proofs.Judging.{flat, Sure, Keeps, Quiet}
use Rattle.merc_plan.proofs.Shown.{Shown}
use Rattle.merc_script_laws.proofs.Bonds.{Counted, Set, Within, AllUsed, Fit, Fine, After, Match, Names, Ends, Ready, here_or, Used, Planned, Sound, Goes}
use Rattle.merc_script_laws.proofs.Steps.{Waits, fit_waited, match_waited, ready_waited}
use Rattle.merc_script_laws.proofs.Holding.{waitable}
use Rattle.merc_script_laws.proofs.Sides.{divides_first, divides_second, around_along}
use Rattle.merc_script_laws.proofs.Runs.{category_around, outputs_around, once_same}

-- Plans.

front_there : (xs ys : List SiteInfo) (number : ℕ) (info : SiteInfo) → slice_get xs number ≡ Some info → slice_get (xs ++ ys) number ≡ Some info
front_there [] ys number info e = absurd (cc)
front_there (x ∷ xs) ys zero info e = e
front_there (x ∷ xs) ys (suc number) info e = front_there xs ys number info e

back_there : (xs ys : List SiteInfo) (number at : ℕ) (info : SiteInfo) → at ≡ length xs + number → slice_get ys number ≡ Some info → slice_get (xs ++ ys) at ≡ Some info
back_there [] ys number at info p e = ap (slice_get ys) (omega (arith, p)) ∙ e
back_there (x ∷ xs) ys number zero info p e = absurd (omega (arith, p))
back_there (x ∷ xs) ys number (suc at) info p e = back_there xs ys number at info (omega (arith, p)) e

pub planned_front : (plan : Plan) (site : ℕ) (xs ys : List SiteInfo) → Planned plan site (xs ++ ys) → Planned plan site xs
planned_front plan site xs ys h number info e = h number info (front_there xs ys number info e)

pub planned_back : (plan : Plan) (site count : ℕ) (xs ys : List SiteInfo) → length xs ≡ count → Planned plan site (xs ++ ys) → Planned plan (site + count) ys
planned_back plan site count xs ys c h number info e =
    subst (λ (k : ℕ). plan k ≡ Some info) (omega (arith, c)) (h (length xs + number) info (back_there xs ys number (length xs + number) info refl e))

-- Given are the module, the types of the variables, and what type variables stand for; the program of the graded trees with the traces of its calls, and the plan
-- and the program of the split trees with the courses of its calls.
module _ (known : Module) (types i : Instance) (program : Program) (calls : Procedure → Env → Trace) (plan : Plan) (split : Program) (course : Procedure → Hold → BranchCourse) where
  -- the plan is asked for no less
  pub goes_fewer : (n : Node) (make : (ℕ → Bool) → List Right → List Right → Node) (fits fits1 : (ℕ → Bool) → List Right → List Right → Type 0) → ((later : ℕ → Bool) (w s : List Right) → fits1 later w s → fits later w s)
      → Goes known types i program calls plan split course n make fits → Goes known types i program calls plan split course n make fits1
  goes_fewer n make fits fits1 more goes = record {
    along = λ later w s out b seen here hold full fit. goes.along later w s out b seen here hold full (more later w s fit);
    uses = λ later w s out b seen here hold rights held g proper is_proper fit. goes.uses later w s out b seen here hold rights held g proper is_proper (more later w s fit);
    quiet = λ later out b seen here hold fit. goes.quiet later out b seen here hold (more later [] [] fit);
    rated = goes.rated;
    shaped = goes.shaped;
  }

  -- a goal that is entered once at most has a trace that is so
  pub once_node : (n : Node) (full : Env) → once_if (answers_once (outputs_of n) (category_of n)) (events (node_trace program calls n full)) ≡ events (node_trace program calls n full)
  once_node (node g outs cat span) full = once_same (answers_once outs cat) (goal_trace program calls g full)

  pub once_made : (n m : Node) (full : Env) → outputs_of m ≡ outputs_of n → category_of m ≡ category_of n
      → once_if (answers_once (outputs_of m) (category_of m)) (events (node_trace program calls n full)) ≡ events (node_trace program calls n full)
  once_made n m full o c =
      let u : Flat Env = events (node_trace program calls n full) in
      subst (λ (outs : List ℕ). once_if (answers_once outs (category_of m)) u ≡ u) (sym o) (subst (λ (cat : Option Category). once_if (answers_once (outputs_of n) cat) u ≡ u) (sym c) (once_node n full))

  -- signals behind a goal
  signals_along : (m : Node) (here : Set) (w s : List Right) (later : ℕ → Bool) (hold : Hold) (b : Bound) (full : Env) (u : Flat Env) → Within s (outputs_of m) → once_if (answers_once (outputs_of m) (category_of m)) u ≡ u → Names hold → Counted s hold
      → Fit b here w hold → Match w hold full
      → ((hold1 : Hold) → Waits here [] hold hold1 → Like (Ends full (here_or here []) w [] later (outputs_of m) hold1) (flat (node_branch plan split course m hold1)) u × Sure (Shown program) (node_branch plan split course m hold1))
      → Like (Ends full here w s later (outputs_of m) hold) (flat (node_branch plan split course (around [] s m) hold)) u × Sure (Shown program) (node_branch plan split course (around [] s m) hold)
  signals_along (node g outs cat span) here w s later hold b full u within o names counted f t goes =
      around_along plan split course g outs cat span here w [] w s s [] later hold (divides_second w) (divides_first s) (Shown program) names counted (λ x h. refl) b full u within o (waitable hold names) f tt t goes [] s refl refl

  -- Signals go into goals that cannot fail.
  module _ (site : ℕ) (g : Goal) (outs : List ℕ) (cat : Option Category) (span : Span) (make : (ℕ → Bool) → List Right → List Right → Node) (infos : (ℕ → Bool) → List Right → List Right → List SiteInfo) where
    abbrev whole : Node
    whole = node g outs cat span

    abbrev made : Bool → (ℕ → Bool) → List Right → List Right → Node
    made z later w s = if z then around [] s (make later w []) else make later w s

    abbrev due : Bool → (ℕ → Bool) → List Right → List Right → Type 0
    due z later w s = Planned plan site (if z then infos later w [] else infos later w s)

    module _ (goes : Goes known types i program calls plan split course whole make (λ later w s. Planned plan site (infos later w s))) where
      rated : (z : Bool) (later : ℕ → Bool) (w s : List Right) → category_of (made z later w s) ≡ cat
      rated true later w s = category_around [] s (make later w []) ∙ goes.rated later w []
      rated false later w s = goes.rated later w s

      shaped : (z : Bool) (later : ℕ → Bool) (w s : List Right) → outputs_of (made z later w s) ≡ outs
      shaped true later w s = outputs_around [] s (make later w []) ∙ goes.shaped later w []
      shaped false later w s = goes.shaped later w s

      along : (z : Bool) (later : ℕ → Bool) (w s : List Right) (out : Variables) (b : Bound) (seen : Known) (here : Set) (hold : Hold) (full : Env) → due z later w s → AllUsed w (in_goal g) → Within s outs
          → Sound known types i out b seen whole → Fits known types i out b (in_goal g) seen full → Fit b here w hold → Match w hold full → Ready here w b (in_goal g) → Names hold → Counted s hold
          → Like (Ends full here w s later outs hold) (flat (node_branch plan split course (made z later w s) hold)) (events (node_trace program calls whole full)) × Sure (Shown program) (node_branch plan split course (made z later w s) hold)
      along true later w s out b seen here hold full fit all within sound there f t r names counted =
          let m = make later w [] in
          let u : Flat Env = events (node_trace program calls whole full) in
          let d = divides_second w in
          subst (λ (o : List ℕ). Like (Ends full here w s later o hold) (flat (node_branch plan split course (around [] s m) hold)) u × Sure (Shown program) (node_branch plan split course (around [] s m) hold)) (goes.shaped later w [])
          (signals_along m here w s later hold b full u (subst (λ (o : List ℕ). Within s o) (sym (goes.shaped later w [])) within) (once_made whole m full (goes.shaped later w []) (goes.rated later w [])) names counted f t
          (λ hold1 p.
          subst (λ (o : List ℕ). Like (Ends full (here_or here []) w [] later o hold1) (flat (node_branch plan split course m hold1)) u × Sure (Shown program) (node_branch plan split course m hold1)) (sym (goes.shaped later w []))
          (goes.along later w [] out b seen (here_or here []) hold1 full fit all (λ x h. clash h refl) sound there (fit_waited b here w [] w hold hold1 d.parts d.in1 d.in2 d.apart f.once f p.moves)
          (match_waited b here w [] w hold hold1 d.parts d.in1 d.in2 d.apart full f t p) (ready_waited b here w [] w hold hold1 d.parts d.in1 d.in2 d.apart (in_goal g) r) (p.moves.names names) (λ x h. clash h refl))))
      along false later w s out b seen here hold full fit all within sound there f t r names counted = goes.along later w s out b seen here hold full fit all within sound there f t r names counted

      quiet : (z : Bool) (later : ℕ → Bool) (out : Variables) (b : Bound) (seen : Known) (here : Set) (hold : Hold) → due z later [] [] → Sound known types i out b seen whole → Fine known types i out b (in_goal g) seen hold
          → Fit b here [] hold → Ready here [] b (in_goal g) → Names hold → Quiet hold.next [] (node_branch plan split course (made z later [] []) hold)
      quiet true later out b seen here hold fit sound fine f r names = goes.quiet later out b seen here hold fit sound fine f r names
      quiet false later out b seen here hold fit sound fine f r names = goes.quiet later out b seen here hold fit sound fine f r names

      sure_cat : (c : Option Category) → can_fail_of (given c) ≡ false → may_fail c ≡ false
      sure_cat None h = clash refl h
      sure_cat (Some c) h = h

      pub goes_place : Goes known types i program calls plan split course whole (λ later w s. made (may_fail cat) later w s) (λ later w s. due (may_fail cat) later w s)
      goes_place = record {
        along = λ later w s. along (may_fail cat) later w s;
        quiet = λ later. quiet (may_fail cat) later;
        rated = λ later w s. rated (may_fail cat) later w s;
        shaped = λ later w s. shaped (may_fail cat) later w s;
        uses = λ later w s out b seen here hold rights held gifts proper is_proper fit all sound sure fine f r names q.
            let z : may_fail cat ≡ false = sure_cat cat sure in
            subst
            (λ (z : Bool). Keeps proper (Used (After known types i out b outs (in_goal g) seen (known_behind whole seen) hold) (most_of (category_at whole) ≡ Zero) here w s later outs hold held gifts) rights held gifts
            (node_branch plan split course (made z later w s) hold)) (sym z)
            (goes.uses later w s out b seen here hold rights held gifts proper is_proper (subst (λ (z : Bool). due z later w s) z fit) all sound sure fine f r names q);
      }
