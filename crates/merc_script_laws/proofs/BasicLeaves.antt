-- Goals that hold no others, calls aside, beside other branches: where what they read is here, they do what they do in the trace.
use Rattle.std.proofs.Common.{◌≡◌, inl, inr, ℕ, Bool, true, false, is_some, List, [], ◌∷◌, Option, Some, None, refl, ap, sym, ◌∙◌, subst}
use Rattle.merc_tree.specs.declared.declarations.Module.{Module}
use Rattle.merc_base.specs.declared.category.Category.{Category}
use Rattle.merc_base.specs.declared.place.Span.{Span}
use Rattle.merc_goal_tree.specs.declared.goal.Operation.{Operation}
use Rattle.merc_graded_tree.specs.declared.basic.BasicGoal.{BasicGoal}
use Rattle.merc_graded_tree.specs.declared.basic.BasicGoal.TheVariants.{True, Fail, Assign, Test, Build, Split, Arithmetic, Compare, Raise, Call, Wait, Signal}
use Rattle.merc_graded_tree.specs.declared.basic.Procedure.{Procedure}
use Rattle.merc_graded_tree.specs.Nodes.{Node, node, Basic}
use Rattle.merc_graded_tree.specs.Variables.{variables_of, in_goal}
use Rattle.merc_order.specs.Bound.{Bound, among}
use Rattle.merc_order_laws.specs.Bindings.{Variables, AreBound}
use Rattle.merc_order_laws.proofs.Facts.{clash}
use Rattle.merc_grading.specs.Known.{Known}
use Rattle.merc_value.specs.Value.{Value, Int, Text, Con, Values, none, more}
use Rattle.merc_meaning.specs.Trace.{Env, Trace}
use Rattle.merc_meaning.specs.Values.{fields, same}
use Rattle.merc_meaning.specs.Arithmetic.{Result, Gives, ZeroDivisor, arithmetic, comparison_of}
use Rattle.merc_meaning.specs.Steps.{value_at, bound, binds, tested, compared, joined, values_at, made_if, filled, filled_if, split, computed, operated, raised}
use Rattle.merc_meaning.specs.Runs.{Program, answers_once, basic_trace}
use Rattle.merc_program_laws.specs.GoodPrograms.{AreGoodTypes}
use Rattle.merc_program_laws.proofs.Values.{Instance, none_not, some_of, same_number, among_here, among_there, among_cases, at_same, at_other}
use Rattle.merc_program_laws.proofs.Steps.{filled_other, filled_bound, fields_typed, free_not}
use Rattle.merc_program_laws.proofs.Lawful.{Fits}
use Rattle.merc_par_split.specs.Split.{nothing}
use Rattle.merc_plan.specs.Branch.{Hold, BranchCourse}
use Rattle.merc_plan.specs.Hold.{with_env}
use Rattle.merc_plan.specs.Branches.{Plan, traced, basic_branch}
use Rattle.merc_plan.proofs.Flat.{Like, events}
use Rattle.merc_plan.proofs.Judging.{flat, Sure, Quiet}
use Rattle.merc_plan.proofs.Shown.{Shown}
use Rattle.merc_plan.proofs.Holds.{quiet_once}
use Rattle.merc_script_laws.proofs.Bonds.{Set, Fit, Match, Ends as EndsAlike, Ready, Sound}
use Rattle.merc_script_laws.proofs.HoldLaw.{is_here}
use Rattle.merc_script_laws.proofs.Leaf.{Leaf, moves_env, moves_none, wrap, traced_like, traced_sure, traced_quiet}

-- what a goal reads is here, and the same in the trace
pub read : (here : Set) (b : Bound) (uses : ℕ → Bool) (hold : Hold) (full : Env) → Fit b here [] hold → Match [] hold full → Ready here [] b uses → (x : ℕ) → uses x ≡ true → b x ≡ true
    → value_at hold.env x ≡ value_at full x
read here b uses hold full f t r x u h = let v = is_here here b uses hold f r x u h in v.1.1 ∙ sym (t.same x v.0 v.1.1)

joined_same : (o p : Option Value) (os ps : Option Values) → o ≡ p → os ≡ ps → joined o os ≡ joined p ps
joined_same o p os ps e h = ap (λ (z : Option Value). joined z os) e ∙ ap (joined p) h

values_same : (b : Bound) (env full : Env) (ys : List ℕ) → AreBound b ys → ((y : ℕ) → among ys y ≡ true → b y ≡ true → value_at env y ≡ value_at full y) → values_at env ys ≡ values_at full ys
values_same b env full [] h k = refl
values_same b env full (y ∷ ys) h k =
    joined_same (value_at env y) (value_at full y) (values_at env ys) (values_at full ys) (k y (among_here y ys) h.0) (values_same b env full ys h.1 (λ x m p. k x (among_there x y ys m) p))

pub are_bound_in : (b : Bound) (ys : List ℕ) → AreBound b ys → (x : ℕ) → among ys x ≡ true → b x ≡ true
are_bound_in b [] h x m = clash m refl
are_bound_in b (y ∷ ys) h x m = elim (among_cases x y ys m) as (λ _. b x ≡ true) [
  | inl p ↦ ap b p ∙ h.0
  | inr p ↦ are_bound_in b ys h.1 x p
]

-- what has a value here has it there
abbrev pub Under : Env → Env → Type 0
Under e q = (x : ℕ) (v : Value) → value_at e x ≡ Some v → value_at q x ≡ Some v

bound_under : (e q : Env) (x : ℕ) (v : Value) → Under e q → Under (bound e x v) (bound q x v)
bound_under e q x v h y w k = elim (same_number y x) as (λ _. value_at (bound q x v) y ≡ Some w) [
  | inl p ↦ ap (value_at (bound q x v)) p.1 ∙ at_same q x v ∙ sym (at_same e x v) ∙ sym (ap (value_at (bound e x v)) p.1) ∙ k
  | inr p ↦ at_other q x y v p.1 ∙ h y w (sym (at_other e x y v p.1) ∙ k)
]

filled_under : (e q : Env) (ys : List ℕ) (vs : Values) → Under e q → Under (filled e ys vs) (filled q ys vs)
filled_under e q [] vs h = h
filled_under e q (y ∷ ys) none h = h
filled_under e q (y ∷ ys) (more v vs) h = filled_under (bound e y v) (bound q y v) ys vs (bound_under e q y v h)

none_of : (o : Option Value) → is_some o ≡ false → o ≡ None
none_of None h = refl
none_of (Some v) h = clash refl h

valued_not : (full : Env) (x y : ℕ) (w : Value) → value_at full x ≡ None → value_at full y ≡ Some w → y ≡ x → ⊥
valued_not full x y w n p e = none_not (sym n ∙ ap (value_at full) (sym e) ∙ p)

pub not_valued : (full : Env) (ys : List ℕ) → ((y : ℕ) → among ys y ≡ true → value_at full y ≡ None) → (x : ℕ) (w : Value) → value_at full x ≡ Some w → among ys x ≡ false
not_valued full ys n x w p = on (among ys x) (n x) where
  on : (z : Bool) → (z ≡ true → value_at full x ≡ None) → z ≡ false
  on true k = absurd (none_not (sym (k refl) ∙ p))
  on false k = refl

-- a variable that occurs in a goal and is not bound before it has no value in the trace
pub unset : (b : Bound) (occurs : ℕ → Bool) (full : Env) → ((x : ℕ) → occurs x ≡ true → is_some (value_at full x) ≡ b x) → (x : ℕ) → occurs x ≡ true → b x ≡ false → value_at full x ≡ None
unset b occurs full k x o n = none_of (value_at full x) (k x o ∙ n)

bound_not : (b : Bound) (x y : ℕ) → b x ≡ false → b y ≡ true → y ≡ x → ⊥
bound_not b x y n p e = clash p (ap b e ∙ n)

pub among_not : (b : Bound) (ys : List ℕ) (x : ℕ) → ((y : ℕ) → among ys y ≡ true → b y ≡ false) → b x ≡ true → among ys x ≡ false
among_not b ys x n p = on (among ys x) (n x) where
  on : (z : Bool) → (z ≡ true → b x ≡ false) → z ≡ false
  on true k = clash p (k refl)
  on false k = refl

-- Given are what is bound and here, what a goal has for outputs, what the branch has, and the environment of the trace.
module _ (b : Bound) (here : Set) (outs : List ℕ) (hold : Hold) (full : Env) (f : Fit b here [] hold) (t : Match [] hold full) (free : (x : ℕ) → among outs x ≡ true → b x ≡ false) where
  abbrev R : Hold → Env → Type 0
  R = EndsAlike full here [] [] nothing outs hold

  abbrev Q : Env → Env → Type 0
  Q e q = R (with_env hold e) q

  stays_put : ((x : ℕ) → among outs x ≡ true → ⊥) → Q hold.env full
  stays_put empty = (moves_env b here nothing outs hold hold.env f (λ x h. refl) (λ x h. absurd (empty x h)), (t.same, λ x v p. p))

  pub stays : ((x : ℕ) → among outs x ≡ true → ⊥) → R hold full
  stays empty = (moves_none here nothing outs hold empty, (t.same, λ x v p. p))

  puts : (x : ℕ) (v : Value) → b x ≡ false → value_at full x ≡ None → ((y : ℕ) → among outs y ≡ true → y ≡ x) → Q (bound hold.env x v) (bound full x v)
  puts x v n m own = (
    moves_env b here nothing outs hold (bound hold.env x v) f
        (λ y h. at_other hold.env x y v (bound_not b x y n h))
        (λ y h. (v, ap (value_at (bound hold.env x v)) (own y h) ∙ at_same hold.env x v)),
    (bound_under hold.env full x v t.same, λ y w p. at_other full x y v (valued_not full x y w m p) ∙ p),
  )

  binds_alike : (x : ℕ) (o : Option Value) → b x ≡ false → value_at full x ≡ None → ((y : ℕ) → among outs y ≡ true → y ≡ x) → Like Q (events (binds hold.env x o)) (events (binds full x o))
  binds_alike x None n m own = tt
  binds_alike x (Some v) n m own = (puts x v n m own, tt)

  tested_alike : (z : Bool) → ((x : ℕ) → among outs x ≡ true → ⊥) → Like Q (events (tested z hold.env)) (events (tested z full))
  tested_alike true empty = (stays_put empty, tt)
  tested_alike false empty = tt

  compared_alike : (holds : Value → Value → Bool) (o p : Option Value) → ((x : ℕ) → among outs x ≡ true → ⊥) → Like Q (events (compared hold.env holds o p)) (events (compared full holds o p))
  compared_alike holds None p empty = tt
  compared_alike holds (Some v) None empty = tt
  compared_alike holds (Some v) (Some w) empty = tested_alike (holds v w) empty

  computed_alike : (x : ℕ) (r : Result) → b x ≡ false → value_at full x ≡ None → ((y : ℕ) → among outs y ≡ true → y ≡ x) → Like Q (events (computed hold.env x r)) (events (computed full x r))
  computed_alike x (Gives k) n m own = (puts x (Int k) n m own, tt)
  computed_alike x ZeroDivisor n m own = refl

  operated_alike : (op : Operation) (x : ℕ) (o p : Option Value) → b x ≡ false → value_at full x ≡ None → ((y : ℕ) → among outs y ≡ true → y ≡ x) → Like Q (events (operated hold.env op x o p)) (events (operated full op x o p))
  operated_alike op x (Some (Int l)) (Some (Int r)) n m own = computed_alike x (arithmetic op l r) n m own
  operated_alike op x (Some (Int l)) (Some (Text w)) n m own = tt
  operated_alike op x (Some (Int l)) (Some (Con c vs)) n m own = tt
  operated_alike op x (Some (Int l)) None n m own = tt
  operated_alike op x (Some (Text w)) p n m own = tt
  operated_alike op x (Some (Con c vs)) p n m own = tt
  operated_alike op x None p n m own = tt

  raised_alike : (o : Option Value) → Like Q (events (raised o)) (events (raised o))
  raised_alike (Some (Text w)) = refl
  raised_alike (Some (Int n)) = tt
  raised_alike (Some (Con c vs)) = tt
  raised_alike None = tt

  filled_alike : (ys : List ℕ) (o : Option Values) → ((y : ℕ) → among ys y ≡ true → b y ≡ false) → ((y : ℕ) → among ys y ≡ true → value_at full y ≡ None) → ((y : ℕ) → among outs y ≡ true → among ys y ≡ true)
      → ((vs : Values) → o ≡ Some vs → (y : ℕ) → among ys y ≡ true → is_some (value_at (filled hold.env ys vs) y) ≡ true) → Like Q (events (filled_if hold.env ys o)) (events (filled_if full ys o))
  filled_alike ys None n m own all = tt
  filled_alike ys (Some vs) n m own all = (
    (
      moves_env b here nothing outs hold (filled hold.env ys vs) f
          (λ y h. filled_other hold.env ys vs y (among_not b ys y n h))
          (λ y h. some_of (value_at (filled hold.env ys vs) y) (all vs refl y (own y h))),
      (filled_under hold.env full ys vs t.same, λ y w p. filled_other full ys vs y (not_valued full ys m y w p) ∙ p),
    ),
    tt,
  )

-- a goal of which all variables but one are bound has that one alone for an output
only_one : (b : Bound) (outs : List ℕ) (x : ℕ) (ys : List ℕ) → ((y : ℕ) → among outs y ≡ true → among (x ∷ ys) y ≡ true) → ((y : ℕ) → among outs y ≡ true → b y ≡ false) → ((y : ℕ) → among ys y ≡ true → b y ≡ true)
    → (y : ℕ) → among outs y ≡ true → y ≡ x
only_one b outs x ys within free all y h = elim (among_cases y x ys (within y h)) as (λ _. y ≡ x) [
  | inl p ↦ p
  | inr p ↦ clash (all y p) (free y h)
]

-- one of which all are bound has none
no_output : (b : Bound) (outs ys : List ℕ) → ((y : ℕ) → among outs y ≡ true → among ys y ≡ true) → ((y : ℕ) → among outs y ≡ true → b y ≡ false) → ((y : ℕ) → among ys y ≡ true → b y ≡ true)
    → (y : ℕ) → among outs y ≡ true → ⊥
no_output b outs ys within free all y h = clash (all y (within y h)) (free y h)

two_bound : (b : Bound) (x y : ℕ) → b x ≡ true → b y ≡ true → (z : ℕ) → among (x ∷ y ∷ []) z ≡ true → b z ≡ true
two_bound b x y p q z m = are_bound_in b (x ∷ y ∷ []) (p, (q, tt)) z m

-- calls aside
abbrev pub IsPlain : BasicGoal → Type 0
IsPlain (Call p args) = ⊥
IsPlain other = Unit {0}

-- Given are the module, the types of the variables, and what type variables stand for.
module _ (known : Module) (types i : Instance) (declared : AreGoodTypes known.types) (program : Program) (calls : Procedure → Env → Trace) (plan : Plan) (split_program : Program) (course : Procedure → Hold → BranchCourse) where
  module _ (outs : List ℕ) (category : Option Category) (span : Span) where
    abbrev whole : BasicGoal → Node
    whole g = node (Basic g) outs category span

    module _ (out : Variables) (b : Bound) (seen : Known) (here : Set) (hold : Hold) (full : Env) (f : Fit b here [] hold) (t : Match [] hold full) where
      abbrev Alike : BasicGoal → Type 0
      Alike g = Like (EndsAlike full here [] [] nothing outs hold) (flat (basic_branch plan split_program course g hold)) (events (basic_trace program calls g full)) × Sure (Shown program) (basic_branch plan split_program course g hold)

      -- a goal whose course is a trace
      of_trace : (u w : Trace) → Like (λ e q. EndsAlike full here [] [] nothing outs hold (with_env hold e) q) (events u) (events w)
          → Like (EndsAlike full here [] [] nothing outs hold) (flat (traced hold u)) (events w) × Sure (Shown program) (traced hold u)
      of_trace u w h = (traced_like (EndsAlike full here [] [] nothing outs hold) hold u (events w) h, traced_sure (Shown program) hold u)

      module _ (g : BasicGoal) (sound : Sound known types i out b seen (whole g)) (fits : Fits known types i out b (in_goal (Basic g)) seen full) (r : Ready here [] b (in_goal (Basic g))) where
        abbrev free : (x : ℕ) → among outs x ≡ true → b x ≡ false
        free = free_not b outs sound.good.1

        empty : (x : ℕ) → among (variables_of g) x ≡ true → b x ≡ false → value_at full x ≡ None
        empty = unset b (among (variables_of g)) full fits.bounds

        same_value : (x : ℕ) → among (variables_of g) x ≡ true → b x ≡ true → value_at hold.env x ≡ value_at full x
        same_value = read here b (in_goal (Basic g)) hold full f t r

      basic_alike : (g : BasicGoal) → IsPlain g → Sound known types i out b seen (whole g) → Fits known types i out b (in_goal (Basic g)) seen full → Ready here [] b (in_goal (Basic g)) → Alike g
      basic_alike True plain sound fits r = ((stays b here outs hold full f t (free True sound fits r) (λ x h. clash (sound.good.0 x h) refl), tt), tt)
      basic_alike Fail plain sound fits r = (tt, tt)
      basic_alike (Assign x y) plain sound fits r =
          let good = sound.good.2 in
          of_trace (binds hold.env x (value_at hold.env y)) (binds full x (value_at full y))
          (subst (λ (o : Option Value). Like (λ e q. EndsAlike full here [] [] nothing outs hold (with_env hold e) q) (events (binds hold.env x o)) (events (binds full x (value_at full y))))
          (sym (same_value (Assign x y) sound fits r y (among_there y x (y ∷ []) (among_here y [])) good.0))
          (binds_alike b here outs hold full f t (free (Assign x y) sound fits r) x (value_at full y) good.1 (empty (Assign x y) sound fits r x (among_here x (y ∷ [])) good.1)
          (only_one b outs x (y ∷ []) sound.good.0 (free (Assign x y) sound fits r) (are_bound_in b (y ∷ []) (good.0, tt)))))
      basic_alike (Test x y) plain sound fits r =
          let good = sound.good.2 in
          of_trace (compared hold.env same (value_at hold.env x) (value_at hold.env y)) (compared full same (value_at full x) (value_at full y))
          (subst (λ (o : Option Value). Like (λ e q. EndsAlike full here [] [] nothing outs hold (with_env hold e) q) (events (compared hold.env same o (value_at hold.env y))) (events (compared full same (value_at full x) (value_at full y))))
          (sym (same_value (Test x y) sound fits r x (among_here x (y ∷ [])) good.0))
          (subst (λ (o : Option Value). Like (λ e q. EndsAlike full here [] [] nothing outs hold (with_env hold e) q) (events (compared hold.env same (value_at full x) o)) (events (compared full same (value_at full x) (value_at full y))))
          (sym (same_value (Test x y) sound fits r y (among_there y x (y ∷ []) (among_here y [])) good.1))
          (compared_alike b here outs hold full f t (free (Test x y) sound fits r) same (value_at full x) (value_at full y)
          (no_output b outs (x ∷ y ∷ []) sound.good.0 (free (Test x y) sound fits r) (two_bound b x y good.0 good.1)))))
      basic_alike (Build x s ys) plain sound fits r =
          let good = sound.good.2 in
          of_trace (binds hold.env x (made_if s (values_at hold.env ys))) (binds full x (made_if s (values_at full ys)))
          (subst (λ (o : Option Values). Like (λ e q. EndsAlike full here [] [] nothing outs hold (with_env hold e) q) (events (binds hold.env x (made_if s o))) (events (binds full x (made_if s (values_at full ys)))))
          (sym (values_same b hold.env full ys good.0 (λ y m p. same_value (Build x s ys) sound fits r y (among_there y x ys m) p)))
          (binds_alike b here outs hold full f t (free (Build x s ys) sound fits r) x (made_if s (values_at full ys)) good.1 (empty (Build x s ys) sound fits r x (among_here x ys) good.1)
          (only_one b outs x ys sound.good.0 (free (Build x s ys) sound fits r) (are_bound_in b ys good.0))))
      basic_alike (Split x s ys) plain sound fits r =
          let good = sound.good.2 in
          let at = same_value (Split x s ys) sound fits r x (among_here x ys) good.0 in
          let v = some_of (value_at full x) (fits.bounds x (among_here x ys) ∙ good.0) in
          of_trace (split hold.env s ys (value_at hold.env x)) (split full s ys (value_at full x))
          (subst (λ (o : Option Value). Like (λ e q. EndsAlike full here [] [] nothing outs hold (with_env hold e) q) (events (split hold.env s ys o)) (events (split full s ys (value_at full x)))) (sym at)
          (subst (λ (o : Option Value). Like (λ e q. EndsAlike full here [] [] nothing outs hold (with_env hold e) q) (events (split hold.env s ys o)) (events (split full s ys o))) (sym v.1)
          (filled_alike b here outs hold full f t (free (Split x s ys) sound fits r) ys (fields s v.0) (free_not b ys good.1)
          (λ y m. empty (Split x s ys) sound fits r y (among_there y x ys m) (free_not b ys good.1 y m)) (in_arguments good.0) (all v.0 v.1))))
        where
          in_arguments : b x ≡ true → (y : ℕ) → among outs y ≡ true → among ys y ≡ true
          in_arguments p y h = elim (among_cases y x ys (sound.good.0 y h)) as (λ _. among ys y ≡ true) [
            | inl e ↦ clash (ap b e ∙ p) (free (Split x s ys) sound fits r y h)
            | inr m ↦ m
          ]

          all : (v : Value) → value_at full x ≡ Some v → (vs : Values) → fields s v ≡ Some vs → (y : ℕ) → among ys y ≡ true → is_some (value_at (filled hold.env ys vs) y) ≡ true
          all v e vs d y m =
              let q = fields_typed known types i declared x s ys v vs (fits.typed x v e) sound.parts.0.0 sound.parts.0.1 d in
              filled_bound known types i q.0 hold.env ys q.1 vs q.2 q.3 y (inl m)
      basic_alike (Arithmetic op z x y) plain sound fits r =
          let good = sound.good.2 in
          let at_x = same_value (Arithmetic op z x y) sound fits r x (among_there x z (x ∷ y ∷ []) (among_here x (y ∷ []))) good.0 in
          let at_y = same_value (Arithmetic op z x y) sound fits r y (among_there y z (x ∷ y ∷ []) (among_there y x (y ∷ []) (among_here y []))) good.1 in
          of_trace (operated hold.env op z (value_at hold.env x) (value_at hold.env y)) (operated full op z (value_at full x) (value_at full y))
          (subst (λ (o : Option Value). Like (λ e q. EndsAlike full here [] [] nothing outs hold (with_env hold e) q) (events (operated hold.env op z o (value_at hold.env y))) (events (operated full op z (value_at full x) (value_at full y)))) (sym at_x)
          (subst (λ (o : Option Value). Like (λ e q. EndsAlike full here [] [] nothing outs hold (with_env hold e) q) (events (operated hold.env op z (value_at full x) o)) (events (operated full op z (value_at full x) (value_at full y)))) (sym at_y)
          (operated_alike b here outs hold full f t (free (Arithmetic op z x y) sound fits r) op z (value_at full x) (value_at full y) good.2
          (empty (Arithmetic op z x y) sound fits r z (among_here z (x ∷ y ∷ [])) good.2)
          (only_one b outs z (x ∷ y ∷ []) sound.good.0 (free (Arithmetic op z x y) sound fits r) (two_bound b x y good.0 good.1)))))
      basic_alike (Compare test x y) plain sound fits r =
          let good = sound.good.2 in
          of_trace (compared hold.env (comparison_of test) (value_at hold.env x) (value_at hold.env y)) (compared full (comparison_of test) (value_at full x) (value_at full y))
          (subst (λ (o : Option Value). Like (λ e q. EndsAlike full here [] [] nothing outs hold (with_env hold e) q) (events (compared hold.env (comparison_of test) o (value_at hold.env y))) (events (compared full (comparison_of test) (value_at full x) (value_at full y))))
          (sym (same_value (Compare test x y) sound fits r x (among_here x (y ∷ [])) good.0))
          (subst (λ (o : Option Value). Like (λ e q. EndsAlike full here [] [] nothing outs hold (with_env hold e) q) (events (compared hold.env (comparison_of test) (value_at full x) o)) (events (compared full (comparison_of test) (value_at full x) (value_at full y))))
          (sym (same_value (Compare test x y) sound fits r y (among_there y x (y ∷ []) (among_here y [])) good.1))
          (compared_alike b here outs hold full f t (free (Compare test x y) sound fits r) (comparison_of test) (value_at full x) (value_at full y)
          (no_output b outs (x ∷ y ∷ []) sound.good.0 (free (Compare test x y) sound fits r) (two_bound b x y good.0 good.1)))))
      basic_alike (Raise x) plain sound fits r =
          let good = sound.good.2 in
          of_trace (raised (value_at hold.env x)) (raised (value_at full x))
          (subst (λ (o : Option Value). Like (λ e q. EndsAlike full here [] [] nothing outs hold (with_env hold e) q) (events (raised o)) (events (raised (value_at full x))))
          (sym (same_value (Raise x) sound fits r x (among_here x []) good)) (raised_alike b here outs hold full f t (free (Raise x) sound fits r) (value_at full x)))
      basic_alike (Call p args) plain sound fits r = absurd plain
      basic_alike (Wait x n) plain sound fits r = absurd sound.good.2
      basic_alike (Signal x n) plain sound fits r = absurd sound.good.2

    basic_quiet : (g : BasicGoal) → IsPlain g → (out : Variables) (b : Bound) (seen : Known) (hold : Hold) → Sound known types i out b seen (whole g) → Quiet hold.next [] (basic_branch plan split_program course g hold)
    basic_quiet True plain out b seen hold sound = tt
    basic_quiet Fail plain out b seen hold sound = tt
    basic_quiet (Assign x y) plain out b seen hold sound = traced_quiet hold.next hold (binds hold.env x (value_at hold.env y))
    basic_quiet (Test x y) plain out b seen hold sound = traced_quiet hold.next hold (compared hold.env same (value_at hold.env x) (value_at hold.env y))
    basic_quiet (Build x s ys) plain out b seen hold sound = traced_quiet hold.next hold (binds hold.env x (made_if s (values_at hold.env ys)))
    basic_quiet (Split x s ys) plain out b seen hold sound = traced_quiet hold.next hold (split hold.env s ys (value_at hold.env x))
    basic_quiet (Arithmetic op z x y) plain out b seen hold sound = traced_quiet hold.next hold (operated hold.env op z (value_at hold.env x) (value_at hold.env y))
    basic_quiet (Compare test x y) plain out b seen hold sound = traced_quiet hold.next hold (compared hold.env (comparison_of test) (value_at hold.env x) (value_at hold.env y))
    basic_quiet (Raise x) plain out b seen hold sound = traced_quiet hold.next hold (raised (value_at hold.env x))
    basic_quiet (Call p args) plain out b seen hold sound = absurd plain
    basic_quiet (Wait x n) plain out b seen hold sound = absurd sound.good.2
    basic_quiet (Signal x n) plain out b seen hold sound = absurd sound.good.2

    pub leaf_plain : (g : BasicGoal) → IsPlain g → Leaf known types i program calls plan split_program course (Basic g) (Basic g) outs category span
    leaf_plain g plain = record {
      along = λ out b seen here hold full sound fits f t r names.
          let a = basic_alike out b seen here hold full f t g plain sound fits r in
          wrap (Shown program) (EndsAlike full here [] [] nothing outs hold) (answers_once outs category) (basic_branch plan split_program course g hold) (basic_trace program calls g full) a.0 a.1;
      quiet = λ out b seen here hold sound fine f r names. quiet_once hold.next (answers_once outs category) (basic_branch plan split_program course g hold) [] (basic_quiet g plain out b seen hold sound);
    }
