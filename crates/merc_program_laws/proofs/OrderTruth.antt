-- Ordering keeps truth, stage by stage.
use Rattle.std.proofs.Common.{◌≡◌, inl, inr, ℕ, zero, suc, ◌<◌, ◌≤◌, true, false, ◌==◌, if◌then◌else◌, max, List, [], ◌∷◌, ◌++◌, length, Option, Some, None, refl, ap, sym, subst, ◌∙◌, arith}
use Rattle.std.specs.Prelude.{◌↔◌, slice_get, replicate}
use Rattle.std.specs.List.{AllByRecursion}
use Rattle.std.proofs.lemmas.Bool.Decides.{Decides-eqb}
use mathlib.Core.Path.{fun_ext}
use Rattle.merc_base.specs.declared.place.Span.{Span}
use Rattle.merc_tree.specs.declared.declarations.Arg.{Arg}
use Rattle.merc_tree.specs.declared.declarations.Arg.TheVariants.{Input, Output}
use Rattle.merc_tree.specs.declared.declarations.ModeDecl.{ModeDecl}
use Rattle.merc_tree.specs.declared.declarations.PredDecl.{PredDecl}
use Rattle.merc_goal_tree.specs.Nodes.{Node, span_of}
use Rattle.merc_goal_tree.specs.Variables.{variables}
use Rattle.merc_graded_tree.specs.declared.basic.Procedure.{Procedure}
use Rattle.merc_graded_tree.specs.Nodes.{Node as OrderedNode}
use Rattle.merc_graded_tree.specs.Variables.{in_node}
use Rattle.merc_order.specs.Bound.{Bound, nothing, among}
use Rattle.merc_order.specs.Faults.{unbound_output}
use Rattle.merc_order.specs.Order.{from}
use Rattle.merc_order.specs.Ordered.{Ordered, Ready, Stuck}
use Rattle.merc_order.specs.Procedures.{bound_at, numbers_below, total_of, beyond, first_fresh, are_bound_behind, body_from, modes_in, modes_of, IsBody, IsProcedure}
use Rattle.merc_order.specs.Spelt.{spelt, twins}
use Rattle.merc_meaning.specs.Runs.{Program, ProcedureBody}
use Rattle.merc_meaning.specs.Truth.{Assignment, Outside, is_argument, Judgement, IsEntered, assigned, YesBody, NoBody, YesCall, NoCall, Yes, No}
use Rattle.merc_order_laws.proofs.Facts.{clash, or_left, or_right, or_cases, among_append}
use Rattle.merc_order_laws.proofs.Bodies.{below_are}
use Rattle.merc_order_laws.proofs.Ordering.{if_ready_is, if_is}
use Rattle.merc_program_laws.specs.Plain.{plain}
use Rattle.merc_program_laws.specs.Programs.{flat_procedure, flat_program, IsThere, IsOrderedProcedure, IsOrderedProgram}
use Rattle.merc_program_laws.specs.TruthLaws.{SameTruth, CallsKeepTruth, BodiesKeepTruth, QueriesKeepTruth}
use Rattle.merc_program_laws.proofs.Basics.{first_same, rest_same}
use Rattle.merc_program_laws.proofs.Local.{IsByValues}
use Rattle.merc_program_laws.proofs.Keeping.{Within, Misses, KeepsAt}
use Rattle.merc_program_laws.proofs.Grouping.{fresh}
use Rattle.merc_program_laws.proofs.Whole.{whole, Tests}
use Rattle.merc_program_laws.proofs.Spelled.{Below, spelt_law, misses_fresh}
use Rattle.merc_program_laws.proofs.Plains.{plain_in}
use Rattle.merc_program_laws.proofs.Ordering.{IsMode, procedure, from_fits}

-- What is entered is the values of the arguments.

entered_same : (args args' : List ℕ) (s s' inner : Assignment) → assigned s args ≡ assigned s' args' → IsEntered args s inner → IsEntered args' s' inner
entered_same [] [] s s' inner e h = tt
entered_same [] (a ∷ args') s s' inner e h = absurd cc
entered_same (a ∷ args) [] s s' inner e h = tt
entered_same (a ∷ args) (b ∷ args') s s' inner e h = (h.0 ∙ first_same e, entered_same args args' s s' (λ x. inner (suc x)) (rest_same e) h.1)

yes_values : (y n : Judgement) (o : Option ProcedureBody) (args args' : List ℕ) (s s' : Assignment) → assigned s args ≡ assigned s' args' → YesBody y n o args s → YesBody y n o args' s'
yes_values y n None args args' s s' e h = h
yes_values y n (Some p) args args' s s' e h = (h.0, h.1, entered_same args args' s s' h.0 e h.2, h.3)

no_values : (y n : Judgement) (o : Option ProcedureBody) (args args' : List ℕ) (s s' : Assignment) → assigned s args ≡ assigned s' args' → NoBody y n o args s → NoBody y n o args' s'
no_values y n None args args' s s' e h = h
no_values y n (Some p) args args' s s' e h = λ inner v k. h inner v (entered_same args' args s' s inner (sym e) k)

pub yes_by_values : (program : Program) (k : ℕ) → IsByValues (YesCall program k)
yes_by_values program zero p args args' s s' e h = h
yes_by_values program (suc k) p args args' s s' e h = yes_values (YesCall program k) (NoCall program k) (program p) args args' s s' e h

pub no_by_values : (program : Program) (k : ℕ) → IsByValues (NoCall program k)
no_by_values program zero p args args' s s' e h = h
no_by_values program (suc k) p args args' s s' e h = no_values (YesCall program k) (NoCall program k) (program p) args args' s s' e h

-- Places and numbers.

pub argument_below : (places : List Arg) (v : ℕ) → is_argument places v ≡ true → v < length places
argument_below [] v h = clash h refl
argument_below (place ∷ places) zero h = omega (arith)
argument_below (place ∷ places) (suc v) h = omega (arith, argument_below places v h)

pub inputs_are : (places : List Arg) → Within (bound_at places) (is_argument places)
inputs_are [] v h = clash h refl
inputs_are (Input ∷ places) zero h = refl
inputs_are (Output ∷ places) zero h = refl
inputs_are (Input ∷ places) (suc v) h = inputs_are places v h
inputs_are (Output ∷ places) (suc v) h = inputs_are places v h

suc_is : (a b : ℕ) → suc a ≡ suc b → a ≡ b
suc_is a b h = cc

-- an argument is told by how many places there are
flat_argument : (count : ℕ) (places : List Arg) → length places ≡ count → (v : ℕ) → is_argument (replicate count Output) v ≡ is_argument places v
flat_argument zero [] e v = refl
flat_argument zero (place ∷ places) e v = absurd cc
flat_argument (suc count) [] e v = absurd cc
flat_argument (suc count) (place ∷ places) e zero = refl
flat_argument (suc count) (place ∷ places) e (suc v) = flat_argument count places (suc_is (length places) count e) v

max_left : (a b : ℕ) → a ≤ max a b
max_left a b = omega (arith)

max_right : (a b : ℕ) → b ≤ max a b
max_right a b = omega (arith)

beyond_all : (xs : List ℕ) → Below (beyond xs) (among xs)
beyond_all [] v h = clash h refl
beyond_all (x ∷ xs) v h = elim (or_cases (v == x) (among xs v) h) as (λ _. v < beyond (x ∷ xs)) [
  | inl k ↦ omega (arith, (Decides-eqb v x).0 k, max_left (suc x) (beyond xs))
  | inr k ↦ omega (arith, beyond_all xs v k, max_right (suc x) (beyond xs))
]

-- Elements of lists.

some_is : {T : Type 0} (one other : T) → Some one ≡ Some other → one ≡ other
some_is one other h = cc

length_is : {A B : Type 0} (x : A) (xs : List A) (z : B) (zs : List B) → length (z ∷ zs) ≡ length (x ∷ xs) → length zs ≡ length xs
length_is x xs z zs h = cc

all_get : {A : Type 0} (P : A → Type 0) (xs : List A) (i : ℕ) (x : A) → AllByRecursion P xs → slice_get xs i ≡ Some x → P x
all_get P [] i x h e = absurd cc
all_get P (z ∷ zs) zero x h e = subst P (some_is z x e) h.0
all_get P (z ∷ zs) (suc i) x h e = all_get P zs i x h.1 e

same_place : {A B : Type 0} (xs : List A) (zs : List B) (i : ℕ) (x : A) → length zs ≡ length xs → slice_get xs i ≡ Some x → (z : B) × (slice_get zs i ≡ Some z)
same_place [] zs i x l e = absurd cc
same_place (x ∷ xs) [] i w l e = absurd cc
same_place (x ∷ xs) (z ∷ zs) zero w l e = (z, refl)
same_place (x ∷ xs) (z ∷ zs) (suc i) w l e = same_place xs zs i w (length_is x xs z zs l) e

predicate_is : (o : Option PredDecl) (mode : ℕ) (m : ModeDecl) → slice_get (modes_in o) mode ≡ Some m → (d : PredDecl) × (o ≡ Some d) × (slice_get d.modes mode ≡ Some m)
predicate_is None mode m h = absurd cc
predicate_is (Some d) mode m h = (d, refl, h)

-- A goal is ordered from what is bound, which occurs outside, and its fresh variables have numbers behind all others.
record IsOrdered (modes : ℕ → List ModeDecl) (out : Outside) (goal : Node) (tree : OrderedNode) : Type 0 where
  total : ℕ → ℕ
  bound : Bound
  occurs : Within bound out
  ordered : Ordered
  ready : from total modes goal bound ≡ Ready ordered
  number : ℕ
  own_below : Below number (among (variables goal))
  out_below : Below number out
  is_tree : tree ≡ spelt modes number ordered

body_is : (modes : ℕ → List ModeDecl) (heads : List ℕ) (bound : Bound) (span : Span) (goal : Node) (tree : OrderedNode) (out : Outside) → Within bound out → Within out (among heads)
    → IsBody modes heads (body_from modes heads bound span goal) goal tree → IsOrdered modes out goal tree
body_is modes heads bound span goal tree out w u (ordered, ready, is_tree) =
    let (o, p, q) = if_ready_is (from (total_of heads goal) modes goal bound) (λ found. if are_bound_behind modes heads bound goal then Ready found else Stuck (unbound_output span)) ordered ready in
    let k = if_is (are_bound_behind modes heads bound goal) o ordered (unbound_output span) q in
    record {
      total = total_of heads goal;
      bound = bound;
      occurs = w;
      ordered = ordered;
      ready = p ∙ ap (λ (z : Ordered). Ready z) k.1;
      number = first_fresh heads goal;
      own_below = λ v h. beyond_all (heads ++ variables goal) v (among_append v heads (variables goal) ∙ or_right (among heads v) (among (variables goal) v) h);
      out_below = λ v h. beyond_all (heads ++ variables goal) v (among_append v heads (variables goal) ∙ or_left (among heads v) (among (variables goal) v) (u v h));
      is_tree = is_tree;
    }

procedure_is : (modes : ℕ → List ModeDecl) (arity : ℕ) (mode : ModeDecl) (goal : Node) (tree : OrderedNode) → length mode.args ≡ arity → IsProcedure modes arity mode goal tree → IsOrdered modes (is_argument mode.args) goal tree
procedure_is modes arity mode goal tree l is =
    body_is modes (numbers_below arity) (bound_at mode.args) mode.span goal tree (is_argument mode.args) (inputs_are mode.args) (λ v h. below_are arity v (omega (arith, l, argument_below mode.args v h))) is

module _ (predicates : List PredDecl) (goals : List Node) (program : Program) (is_ordered : IsOrderedProgram predicates goals program) where
  abbrev pub flat : Program
  flat = flat_program predicates goals

  abbrev pub CallsThere : ℕ → Type 0
  CallsThere k = (p mode : ℕ) (args : List ℕ) (s : Assignment) → IsMode (modes_of predicates) p mode
      → (YesCall flat k (procedure p 0) args s → YesCall program k (procedure p mode) args s) × (NoCall flat k (procedure p 0) args s → NoCall program k (procedure p mode) args s)

  abbrev pub CallsReturn : ℕ → Type 0
  CallsReturn k = (p mode : ℕ) (args : List ℕ) (s : Assignment) → IsMode (modes_of predicates) p mode
      → (YesCall program k (procedure p mode) args s → YesCall flat k (procedure p 0) args s) × (NoCall program k (procedure p mode) args s → NoCall flat k (procedure p 0) args s)

  -- a goal, where calls are the same
  goal_same : (k : ℕ) (out : Outside) (goal : Node) (tree : OrderedNode) → IsOrdered (modes_of predicates) out goal tree → CallsThere k → CallsReturn k
      → KeepsAt (YesCall flat k) (NoCall flat k) (YesCall program k) (NoCall program k) out (plain goal) out tree
      × KeepsAt (YesCall program k) (NoCall program k) (YesCall flat k) (NoCall flat k) out tree out (plain goal)
  goal_same k out goal tree o there return =
      let y : Judgement = YesCall flat k in
      let n : Judgement = NoCall flat k in
      let y' : Judgement = YesCall program k in
      let n' : Judgement = NoCall program k in
      let fits = from_fits o.total (modes_of predicates) y n y' n' (yes_by_values flat k) (no_by_values flat k) (yes_by_values program k) (no_by_values program k) there return goal o.bound o.ordered o.ready in
      let below : Below o.number (in_node (whole o.ordered)) = λ v h. elim (fits.0.grown.0 v h) as (λ _. v < o.number) [ inl j ↦ o.own_below v (sym (plain_in goal v) ∙ j) | inr j ↦ clash j refl ] in
      let spell = spelt_law (modes_of predicates) y' n' (yes_by_values program k) (no_by_values program k) o.ordered o.number below in
      let misses : Misses (fresh o.number (twins o.ordered)) out = misses_fresh (twins o.ordered) o.number out o.out_below in
      let tests : Tests out o.ordered = fits.1 out o.occurs in
      let never : Misses (λ v. false) out = λ v h. clash h refl in
      subst (λ (t : OrderedNode). KeepsAt y n y' n' out (plain goal) out t × KeepsAt y' n' y n out t out (plain goal)) (sym o.is_tree) (
        λ s v. (λ h. (spell.there out misses tests s v).0 ((fits.0.there out never tt s v).0 h), λ h. (spell.there out misses tests s v).1 ((fits.0.there out never tt s v).1 h)),
        λ s v. (λ h. (fits.0.return out never tt s v).0 ((spell.return out misses tests s v).0 h), λ h. (fits.0.return out never tt s v).1 ((spell.return out misses tests s v).1 h)),
      )

  -- a body, where calls are the same

  abbrev pub BodyThere : ℕ → Option ProcedureBody → Option ProcedureBody → Type 0
  BodyThere k o o' = (args : List ℕ) (s : Assignment) → (YesBody (YesCall flat k) (NoCall flat k) o args s → YesBody (YesCall program k) (NoCall program k) o' args s)
      × (NoBody (YesCall flat k) (NoCall flat k) o args s → NoBody (YesCall program k) (NoCall program k) o' args s)

  abbrev pub BodyReturn : ℕ → Option ProcedureBody → Option ProcedureBody → Type 0
  BodyReturn k o o' = (args : List ℕ) (s : Assignment) → (YesBody (YesCall program k) (NoCall program k) o' args s → YesBody (YesCall flat k) (NoCall flat k) o args s)
      × (NoBody (YesCall program k) (NoCall program k) o' args s → NoBody (YesCall flat k) (NoCall flat k) o args s)

  body_same : (k : ℕ) (d : PredDecl) (g : Node) (m : ModeDecl) (o : Option ProcedureBody) → length m.args ≡ length d.args → IsOrderedProcedure (modes_of predicates) d g m o → CallsThere k → CallsReturn k
      → BodyThere k (flat_procedure (Some d) (Some g)) o × BodyReturn k (flat_procedure (Some d) (Some g)) o
  body_same k d g m None l h there return = absurd h
  body_same k d g m (Some proc) l h there return =
      let same = goal_same k (is_argument m.args) g proc.body (procedure_is (modes_of predicates) (length d.args) m g proc.body l h.1) there return in
      let e : is_argument (replicate (length d.args) Output) ≡ is_argument m.args = fun_ext (λ v. flat_argument (length d.args) m.args l v) in
      let f : is_argument m.args ≡ is_argument proc.places = ap (λ (l : List Arg). is_argument l) (sym h.0) in (
        λ args s. (
          λ h. (h.0, h.1, h.2, subst (λ (out : Outside). Yes (YesCall program k) (NoCall program k) out proc.body h.0) f ((same.0 h.0 h.1).0 (subst (λ (out : Outside). Yes (YesCall flat k) (NoCall flat k) out (plain g) h.0) e h.3))),
          λ h inner v i. subst (λ (out : Outside). No (YesCall program k) (NoCall program k) out proc.body inner) f ((same.0 inner v).1 (subst (λ (out : Outside). No (YesCall flat k) (NoCall flat k) out (plain g) inner) e (h inner v i))),
        ),
        λ args s. (
          λ h. (h.0, h.1, h.2, subst (λ (out : Outside). Yes (YesCall flat k) (NoCall flat k) out (plain g) h.0) (sym e) ((same.1 h.0 h.1).0 (subst (λ (out : Outside). Yes (YesCall program k) (NoCall program k) out proc.body h.0) (sym f) h.3))),
          λ h inner v i. subst (λ (out : Outside). No (YesCall flat k) (NoCall flat k) out (plain g) inner) (sym e) ((same.1 inner v).1 (subst (λ (out : Outside). No (YesCall program k) (NoCall program k) out proc.body inner) (sym f) (h inner v i))),
        ),
      )

  places_fit : (p : Procedure) (d : PredDecl) (g : Node) (m : ModeDecl) → IsThere predicates goals p d g m → length m.args ≡ length d.args
  places_fit p d g m i =
      all_get (λ mode. length mode.args ≡ length d.args) d.modes p.mode m
      (all_get (λ declared. AllByRecursion (λ mode. length mode.args ≡ length declared.args) declared.modes) predicates p.predicate d is_ordered.modes_fit i.has_predicate) i.has_mode

  there_is : (p mode : ℕ) → IsMode (modes_of predicates) p mode → (d : PredDecl) × (g : Node) × (m : ModeDecl) × IsThere predicates goals (procedure p mode) d g m
  there_is p mode i =
      let (d, e, f) = predicate_is (slice_get predicates p) mode i.0 i.1 in
      let (g, q) = same_place predicates goals p d is_ordered.has_bodies e in
      (d, g, i.0, record { has_predicate = e; has_goal = q; has_mode = f })

  bodies_same : (k p mode : ℕ) → IsMode (modes_of predicates) p mode → CallsThere k → CallsReturn k → BodyThere k (flat (procedure p 0)) (program (procedure p mode)) × BodyReturn k (flat (procedure p 0)) (program (procedure p mode))
  bodies_same k p mode i there return =
      let (d, g, m, is) = there_is p mode i in
      let e : flat (procedure p 0) ≡ flat_procedure (Some d) (Some g) =
      ap (λ (o : Option PredDecl). flat_procedure o (slice_get goals p)) is.has_predicate ∙ ap (λ (o : Option Node). flat_procedure (Some d) o) is.has_goal in
      subst (λ (o : Option ProcedureBody). BodyThere k o (program (procedure p mode)) × BodyReturn k o (program (procedure p mode))) (sym e)
      (body_same k d g m (program (procedure p mode)) (places_fit (procedure p mode) d g m is) (is_ordered.is_ordered (procedure p mode) d g m is) there return)

  mutual
    call_there : (k : ℕ) → CallsThere k
    call_there zero p mode args s i = (λ h. h, λ h. h)
    call_there (suc k) p mode args s i = (bodies_same k p mode i (λ q m a t j. call_there k q m a t j) (λ q m a t j. call_return k q m a t j)).0 args s

    call_return : (k : ℕ) → CallsReturn k
    call_return zero p mode args s i = (λ h. h, λ h. h)
    call_return (suc k) p mode args s i = (bodies_same k p mode i (λ q m a t j. call_there k q m a t j) (λ q m a t j. call_return k q m a t j)).1 args s

  -- all modes have one body in flat form
  calls_same : (k p mode : ℕ) (args : List ℕ) (s : Assignment) → IsMode (modes_of predicates) p mode
      → (YesCall flat k (procedure p mode) args s ↔ YesCall program k (procedure p mode) args s) × (NoCall flat k (procedure p mode) args s ↔ NoCall program k (procedure p mode) args s)
  calls_same zero p mode args s i = ((λ h. h, λ h. h), (λ h. h, λ h. h))
  calls_same (suc k) p mode args s i =
      let there = call_there (suc k) p mode args s i in
      let return = call_return (suc k) p mode args s i in
      ((there.0, return.0), (there.1, return.1))

  goals_same : (out : Outside) (goal : Node) (tree : OrderedNode) → IsOrdered (modes_of predicates) out goal tree → SameTruth flat program out (plain goal) tree
  goals_same out goal tree o k s v =
      let same = goal_same k out goal tree o (call_there k) (call_return k) in
      (((same.0 s v).0, (same.1 s v).0), ((same.0 s v).1, (same.1 s v).1))

pub calls_keep : CallsKeepTruth
calls_keep predicates goals program o p d g m i k args s =
    calls_same predicates goals program o k p.predicate p.mode args s (m, ap (λ (o : Option PredDecl). slice_get (modes_in o) p.mode) i.has_predicate ∙ i.has_mode)

pub bodies_keep : BodiesKeepTruth
bodies_keep predicates goals program o p d g m i tree is =
    goals_same predicates goals program o (is_argument m.args) g tree (procedure_is (modes_of predicates) (length d.args) m g tree (places_fit predicates goals program o p d g m i) is)

pub queries_keep : QueriesKeepTruth
queries_keep predicates goals program o answers goal tree is =
    goals_same predicates goals program o (among answers) goal tree (body_is (modes_of predicates) answers nothing (span_of goal) goal tree (among answers) (λ v h. clash h refl) (λ v h. h) is)
