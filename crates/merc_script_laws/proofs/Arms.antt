-- Arms: goals with the waits for what they use, and at their end those for what is used behind the whole alone.
use Rattle.std.proofs.Common.{◌≡◌, ◌⊎◌, inl, inr, ℕ, ◌==◌, Bool, true, false, not, ◌&&◌, List, [], ◌∷◌, length, map, Option, Some, refl, ap, sym, subst, ◌∙◌}
use Rattle.std.specs.List.{filter}
use Rattle.std.proofs.lemmas.List.{append-nil}
use Rattle.merc_base.specs.Category.{can_fail_of, most_of}
use Rattle.merc_base.specs.declared.category.Most.TheVariants.{Zero}
use Rattle.merc_base.specs.declared.place.Span.{Span}
use Rattle.merc_tree.specs.Types.{replaced}
use Rattle.merc_tree.specs.declared.declarations.Module.{Module}
use Rattle.merc_graded_tree.specs.declared.basic.Procedure.{Procedure}
use Rattle.merc_graded_tree.specs.Nodes.{Node, outputs_of, category_of, span_of}
use Rattle.merc_graded_tree.specs.Variables.{in_node}
use Rattle.merc_grading.specs.Known.{Known, known_behind}
use Rattle.merc_grading.specs.Grading.{category_at}
use Rattle.merc_order.specs.Bound.{Bound, with, among}
use Rattle.merc_order.specs.Procedures.{modes_of}
use Rattle.merc_order_laws.specs.Bindings.{Variables}
use Rattle.merc_order_laws.proofs.Facts.{clash, either_way}
use Rattle.merc_value.specs.Value.{Value, Values}
use Rattle.merc_meaning.specs.Trace.{Env, Trace}
use Rattle.merc_meaning.specs.Values.{fields}
use Rattle.merc_meaning.specs.Steps.{value_at}
use Rattle.merc_meaning.specs.Runs.{Program, answers_once, node_trace}
use Rattle.merc_program_laws.specs.ValueTypes.{HasType}
use Rattle.merc_program_laws.specs.GoodPrograms.{AreGoodTypes}
use Rattle.merc_program_laws.proofs.Values.{Instance}
use Rattle.merc_program_laws.proofs.Lawful.{Fits}
use Rattle.merc_program_laws.proofs.Calls.{LawfulCalls}
use Rattle.merc_program_laws.proofs.Graded.{ends_zero}
use Rattle.merc_core.specs.Rights.{has}
use Rattle.merc_rights.specs.Rights.{Right, those, used_in, passed_by, bound_in, wait_at, ahead_of}
use Rattle.merc_par_split.specs.Sites.{are_for}
use Rattle.merc_plan.specs.Branch.{HeldSignal, Hold, Gift, BranchCourse, each as c_each}
use Rattle.merc_plan.specs.Branches.{Plan, once_if as c_once, node_branch}
use Rattle.merc_plan.proofs.Flat.{Flat, Done, Answer, Each, Like, each, once_if, events}
use Rattle.merc_plan.proofs.Judging.{flat, Sure, Keeps}
use Rattle.merc_plan.proofs.Shown.{Shown}
use Rattle.merc_plan.proofs.Likes.{like_each, like_once, like_more, like_answers, each_more, each_answer}
use Rattle.merc_plan.proofs.Flats.{flat_each, sure_each, flat_once, sure_once}
use Rattle.merc_plan.proofs.Holds.{keeps_each, keeps_once, keeps_end}
use Rattle.merc_script_laws.specs.Parallel.{ArmHas}
use Rattle.merc_script_laws.proofs.Bonds.{Counted, Set, Here, Owed, signs, AllUsed, Fit, Fine, After, Match, Names, Moves, Kept, Ends, Ready, here_behind, Used, Rightful, Sound, Proper, Goes}
use Rattle.merc_script_laws.proofs.RightLists.{not_not, those_in, in_those, not_those, those_within, those_once, not_for, for_those}
use Rattle.merc_script_laws.proofs.Steps.{Waits, IsIn, joins_left, joins_right, match_waited, moves_closed}
use Rattle.merc_script_laws.proofs.Holding.{waitable}
use Rattle.merc_script_laws.proofs.Around.{waits_none, in_turn, waiting, Waited, waits_flat, StillWaits, waits_keeps}
use Rattle.merc_script_laws.proofs.Sides.{divides_first, fit_less, match_less}
use Rattle.merc_script_laws.proofs.JoinedLeaves.{fewer_outputs, fine_less, arm_answers}
use Rattle.merc_script_laws.proofs.Placing.{once_made}

-- a goal that is made with the rights that go into an arm, as this arm
abbrev pub armed : Node → ((ℕ → Bool) → List Right → List Right → Node) → (ℕ → Bool) → List Right → List Right → Node
armed n make later w s = ahead_of (make later (used_in n w) (bound_in n s)) (passed_by later n w)

-- what is used behind the whole and not in the goal of the arm
abbrev pub passed : (ℕ → Bool) → (ℕ → Bool) → ℕ → Bool
passed uses later x = later x && not (uses x)

-- from before an arm to the waits at its end, where uses is what the goal of the arm uses
module _ (uses later : ℕ → Bool) (b : Bound) (here : Set) (w s : List Right) (outs : List ℕ) (hold hold1 : Hold) where
  abbrev Inner : Type 0
  Inner = Moves here (those uses w) (those (among outs) s) later outs hold hold1

  abbrev Inside : Set
  Inside = here_behind here (those uses w) later outs

  at_end : (x : ℕ) → are_for (those (passed uses later) w) x ≡ true → (are_for w x ≡ true) × (uses x ≡ false)
  at_end x h = let i = those_in (passed uses later) w x h in (i.0, not_not (uses x) (second (later x) i.1)) where
    second : (l : Bool) {u : Bool} → (l && u) ≡ true → u ≡ true
    second true h = h
    second false h = clash h refl

  -- what is waited for at the end is still owed there
  still_owed : Fit b here w hold → Inner → (x : ℕ) → are_for (those (passed uses later) w) x ≡ true → (c : ℕ) × ((o : Option Value) × (Owed hold x c o × Owed hold1 x c o))
  still_owed f m x h =
      let i = at_end x h in
      let e = f.owed x i.0 in
      (e.0, (e.1.0, (e.1.1, m.rest x e.0 e.1.0 (not_those uses w x (λ j k. clash k i.1)) e.1.1)))

  fit_end : Fit b here w hold → Inner → Fit (with b (among outs)) Inside (those (passed uses later) w) hold1
  fit_end f m = record {
    held = held;
    below = below;
    owed = λ x h. let e = still_owed f m x h in (e.0, (e.1.0, e.1.1.1));
    known = λ x c o e. joins_left b outs x (f.known x c o (m.old x c o e));
    once = those_once (passed uses later) w f.once;
  } where
    held : (x : ℕ) → Inside x → (v : Value) × Here hold1 x v
    held x (inl h) = ((f.held x h).0, m.keep x (f.held x h).0 h (f.held x h).1)
    held x (inr (inl h)) = m.fresh x h
    held x (inr (inr h)) =
        let e = f.owed x (those_in uses w x h.0).0 in
        let g = m.got x e.0 e.1.0 h.0 h.1 e.1.1 in
        (g.0, g.1.1)

    below : (x : ℕ) → Inside x → with b (among outs) x ≡ true
    below x (inl h) = joins_left b outs x (f.below x h)
    below x (inr (inl h)) = joins_right b outs x h
    below x (inr (inr h)) = let e = f.owed x (those_in uses w x h.0).0 in joins_left b outs x (f.known x e.0 e.1.0 e.1.1)

  match_end : (full full1 : Env) → Match w hold full → Inner → ((x : ℕ) (v : Value) → Here hold1 x v → value_at full1 x ≡ Some v) → Kept full full1 → Match (those (passed uses later) w) hold1 full1
  match_end full full1 t m same kept = record {
    same = same;
    comes = λ x c o h e. let g = t.comes x c o (at_end x h).0 (m.old x c o e) in (g.0, (g.1.0, kept x g.0 g.1.1));
  }

  -- What is so of variables behind the arm, of all that occur in the whole.
  module _ (known : Module) (types i : Instance) (out whole : Variables) (seen seen1 : Known) (hold2 : Hold) (sub : (x : ℕ) → uses x ≡ true → whole x ≡ true) (used : AllUsed w whole) (f : Fit b here w hold)
      (fine : Fine known types i out b whole seen hold) (m : Inner) (p : Waits Inside (those (passed uses later) w) hold1 hold2) (a : After known types i out b outs uses seen seen1 hold hold1) where
    abbrev Late : ℕ → Type 0
    Late x = are_for (those (passed uses later) w) x ≡ true

    -- what has come is what was owed
    came : (x : ℕ) (v : Value) (h : Late x) → Here hold2 x v → Owed hold x (still_owed f m x h).0 (Some v)
    came x v h k =
        let e = still_owed f m x h in
        let g = p.moves.got x e.0 e.1.0 h refl e.1.1.1 in
        subst (λ (o : Option Value). Owed hold x e.0 o) (g.1.0 ∙ sym g.1.1 ∙ k) e.1.1.0

    before : (x : ℕ) (v : Value) → are_for (those (passed uses later) w) x ≡ false → Here hold2 x v → Here hold1 x v
    before x v h k = sym (p.other x h) ∙ k

    unused_here : (x : ℕ) → whole x ≡ false → uses x ≡ false
    unused_here x h = elim (either_way (uses x)) as (λ _. uses x ≡ false) [ inl k ↦ clash (sub x k) h | inr k ↦ k ]

    never_late : (x : ℕ) → whole x ≡ false → are_for (those (passed uses later) w) x ≡ false
    never_late x h = not_for (those (passed uses later) w) x (λ k. clash (used x (at_end x k).0) h)

    pub after_end : After known types i out b outs whole seen seen1 hold hold2
    after_end = record {
      own = λ x v o h. a.own x v (unused_here x o) (before x v (never_late x o) h);
      exact = λ x v o q h. exact x v o q h (either_way (are_for (those (passed uses later) w) x)) (either_way (uses x));
      typed = λ x v h. elim (either_way (are_for (those (passed uses later) w) x)) as (λ _. HasType known.types v (replaced i (types x))) [
        | inl k ↦ fine.typed_owed x (still_owed f m x k).0 v (came x v k h)
        | inr k ↦ a.typed x v (before x v k h)
      ];
      bound = λ x s o q e. elim (either_way (uses x)) as (λ _. with b (among outs) x ≡ true) [
        | inl k ↦ a.bound x s k q e
        | inr k ↦ joins_left b outs x (fine.bound x s o (sym (a.same x k) ∙ e))
      ];
      knows = λ x s v e h. elim (either_way (are_for (those (passed uses later) w) x)) as (λ _. (vs : Values) × (fields s v ≡ Some vs)) [
        | inl k ↦ fine.knows_owed x (still_owed f m x k).0 s v (used x (at_end x k).0) (sym (a.same x (at_end x k).1) ∙ e) (came x v k h)
        | inr k ↦ a.knows x s v e (before x v k h)
      ];
      same = λ x o. a.same x (unused_here x o);
    } where
      exact : (x : ℕ) (v : Value) → whole x ≡ true → out x ≡ true → Here hold2 x v → Late x ⊎ (are_for (those (passed uses later) w) x ≡ false) → (uses x ≡ true) ⊎ (uses x ≡ false) → with b (among outs) x ≡ true
      exact x v o q h (inl k) z = let e = still_owed f m x k in joins_left b outs x (f.known x e.0 e.1.0 e.1.1.0)
      exact x v o q h (inr k) (inl z) = a.exact x v z q (before x v k h)
      exact x v o q h (inr k) (inr z) = joins_left b outs x (fine.exact x v o (a.own x v z (before x v k h)))

-- behind signals that are fewer the rights to signal stay where there are none
more_signals : (here : Set) (w s s1 : List Right) (later : ℕ → Bool) (outs : List ℕ) (hold hold1 : Hold) → IsIn s1 s → Moves here w s1 later outs hold hold1 → Moves here w s later outs hold hold1
more_signals here w s s1 later outs hold hold1 i m =
    record { keep = m.keep; fresh = m.fresh; got = m.got; rest = m.rest; old = m.old; next = m.next; names = m.names; signed = m.signed; still = λ k. m.still (λ x. not_for s1 x (λ h. clash (i x h) (k x))); unsigned = λ x k. m.unsigned x (not_for s1 x (λ h. clash (i x h) k)) }

-- Given are the module, the types of the variables, and what type variables stand for; the program of the graded trees, whose calls are lawful; and the plan and
-- the program of the split trees, with the courses of its calls.
module _ (known : Module) (types i : Instance) (declared : AreGoodTypes known.types) (program : Program) (calls : Procedure → Env → Trace) (lawful : LawfulCalls known program calls)
    (plan : Plan) (split : Program) (course : Procedure → Hold → BranchCourse) where
  module _ (n : Node) (make : (ℕ → Bool) → List Right → List Right → Node) (fits : (ℕ → Bool) → List Right → List Right → Type 0) (goes : Goes known types i program calls plan split course n make fits) (later : ℕ → Bool) (w s : List Right)
      (fit : fits later (used_in n w) (bound_in n s)) (out : Variables) (b : Bound) (seen : Known) (here : Set) (hold : Hold) (sound : Sound known types i out b seen n) (f : Fit b here w hold) (r : Ready here w b (in_node n))
      (names : Names hold) where
    abbrev inner : Node
    inner = make later (used_in n w) (bound_in n s)

    abbrev outs : List ℕ
    outs = outputs_of n

    abbrev Behind : Set
    Behind = here_behind here (used_in n w) later outs

    abbrev First : Hold → Type 0
    First e = Moves here (used_in n w) (bound_in n s) later outs hold e

    abbrev part : Hold → BranchCourse
    part e = node_branch plan split course inner e

    abbrev ended : List Right → Hold → BranchCourse
    ended v e = node_branch plan split course (ahead_of inner v) e

    abbrev span : Span
    span = span_of inner

    abbrev tail : List Right → Hold → BranchCourse
    tail v e = waiting plan split course span v [] e

    abbrev once : Bool
    once = answers_once (outputs_of inner) (category_of inner)

    fit_in : Fit b here (used_in n w) hold
    fit_in = fit_less b here w (used_in n w) hold (λ x h. (those_in (in_node n) w x h).0) (those_once (in_node n) w f.once) f

    ready_in : Ready here (used_in n w) b (in_node n)
    ready_in x h k = elim (r x h k) as (λ _. here x ⊎ (are_for (used_in n w) x ≡ true)) [ inl p ↦ inl p | inr p ↦ inr (in_those (in_node n) w x p h) ]

    closing : (e e1 : Hold) → First e → Waits Behind (passed_by later n w) e e1 → Moves here w s later outs hold e1
    closing e e1 m p = moves_closed (in_node n) later here w s (bound_in n s) outs hold e e1 (λ x k. those_within (among outs) s x k) m p.moves

    -- a goal with waits at its end goes on with them, once where it is answered once
    with_tail : (P : BranchCourse → Type 0) (r : Right) (v : List Right) → P (c_once once (c_each (λ e. tail (r ∷ v) e) (part hold))) → P (ended (r ∷ v) hold)
    with_tail P r v h = subst (λ (goals : List Node). P (c_once once (c_each (λ e. in_turn plan split course span goals e) (part hold)))) (append-nil (map (wait_at span) (r ∷ v))) h

    module _ (full : Env) (there : Fits known types i out b (in_node n) seen full) (t : Match w hold full) (counted : Counted s hold) where
      abbrev trace : Flat Env
      trace = events (node_trace program calls n full)

      abbrev R : Hold → Env → Type 0
      R = Ends full here (used_in n w) (bound_in n s) later outs hold

      abbrev Q : Hold → Env → Type 0
      Q = Ends full here w s later outs hold

      along_inner : Like R (flat (part hold)) trace × Sure (Shown program) (part hold)
      along_inner =
          goes.along later (used_in n w) (bound_in n s) out b seen here hold full fit (λ x h. (those_in (in_node n) w x h).1) (λ x h. (those_in (among outs) s x h).1) sound there fit_in
          (match_less w (used_in n w) hold full (λ x h. (those_in (in_node n) w x h).0) t) ready_in names
          (λ x h. let k = those_in (among outs) s x h in ap length (for_those (among outs) x s k.1) ∙ counted x k.0)

      waited : (v : List Right) → v ≡ passed_by later n w → (e : Hold) (q : Env) → R e q → Waited plan split course span Behind v e []
      waited v is e q k =
          waits_flat plan split course span v (with b (among outs)) Behind e q [] (waitable e (k.0.names names)) (subst (λ z. Fit (with b (among outs)) Behind z e) (sym is) (fit_end (in_node n) later b here w s outs hold e f k.0))
          (subst (λ z. Match z e q) (sym is) (match_end (in_node n) later b here w s outs hold e full q t k.0 k.1.0 k.1.1))

      one_end : (v : List Right) (is : v ≡ passed_by later n w) (e : Hold) (q : Env) → R e q → Like Q (flat (tail v e)) (Answer q Done)
      one_end v is e q k =
          let g = waited v is e q k in
          let d = divides_first v in
          let m = match_waited (with b (among outs)) Behind v v [] e g.hold1 d.parts d.in1 d.in2 d.apart q (subst (λ z. Fit (with b (among outs)) Behind z e) (sym is) (fit_end (in_node n) later b here w s outs hold e f k.0))
          (subst (λ z. Match z e q) (sym is) (match_end (in_node n) later b here w s outs hold e full q t k.0 k.1.0 k.1.1)) g.waits in
          subst (λ z. Like Q z (Answer q Done)) (sym g.is_flat) ((closing e g.hold1 k.0 (subst (λ z. Waits Behind z e g.hold1) is g.waits), (m.same, k.1.1)), tt)

      closed_along : (v : List Right) → v ≡ passed_by later n w → Like Q (flat (ended v hold)) trace × Sure (Shown program) (ended v hold)
      closed_along [] is =
          let a = along_inner in
          (like_more R Q (λ e q k. (closing e e k.0 (subst (λ z. Waits Behind z e e) is (waits_none Behind e)), k.1)) (flat (part hold)) trace a.0, a.1)
      closed_along (r ∷ v) is =
          let a = along_inner in
          let go : Hold → BranchCourse = λ e. tail (r ∷ v) e in
          let all : Each (λ e. Sure (Shown program) (go e)) (flat (part hold)) = each_more (λ e. (q : Env) × R e q) (λ e. Sure (Shown program) (go e)) (λ e k. (waited (r ∷ v) is e k.0 k.1).is_sure (Shown program) tt) (flat (part hold)) (like_answers R (flat (part hold)) trace a.0) in
          let all_sure : Sure (Shown program) (c_each go (part hold)) = sure_each (Shown program) go (part hold) all a.1 in
          let alike : Like Q (flat (c_each go (part hold))) trace
          = subst (λ z. Like Q z trace) (sym (flat_each (Shown program) go (part hold) all a.1))
          (subst (λ z. Like Q (each (λ e. flat (go e)) (flat (part hold))) z) (each_answer trace)
          (like_each R Q (λ e. flat (go e)) (λ q. Answer q Done) (λ e q k. one_end (r ∷ v) is e q k) (flat (part hold)) trace a.0)) in
          with_tail (λ z. Like Q (flat z) trace × Sure (Shown program) z) r v (
            subst (λ z. Like Q z trace) (sym (flat_once (Shown program) once (c_each go (part hold)) all_sure))
                (subst (λ z. Like Q (once_if once (flat (c_each go (part hold)))) z) (once_made known types i program calls plan split course n inner full (goes.shaped later (used_in n w) (bound_in n s)) (goes.rated later (used_in n w) (bound_in n s)))
                (like_once Q once (flat (c_each go (part hold))) trace alike)),
            sure_once (Shown program) once (c_each go (part hold)) all_sure,
          )

      -- an arm along the trace of its goal
      pub arm_along : (whole_outs : List ℕ) → ArmHas (modes_of known.preds) whole_outs n
          → Like (Ends full here w s later whole_outs hold) (flat (node_branch plan split course (armed n make later w s) hold)) trace × Sure (Shown program) (node_branch plan split course (armed n make later w s) hold)
      arm_along whole_outs has =
          let a = closed_along (passed_by later n w) refl in
          (arm_answers known types i declared program calls lawful n whole_outs out b seen here w s later hold full sound there has (flat (ended (passed_by later n w) hold)) a.0, a.1)

    -- Of a whole with these variables and outputs.
    module _ (whole : Variables) (whole_outs : List ℕ) (proper : ℕ → Value → Type 0) (rights : ℕ → Bool) (held : List ℕ) (g : List Gift) (is_proper : Proper known types i seen n (bound_in n s) hold proper) (can : can_fail_of (category_at n) ≡ false)
        (sub : (x : ℕ) → in_node n x ≡ true → whole x ≡ true) (used : AllUsed w whole) (fine : Fine known types i out b whole seen hold) (q : Rightful w s whole_outs rights held g hold) where
      abbrev never : Type 0
      never = most_of (category_at n) ≡ Zero

      abbrev Gone : Hold → Type 0
      Gone e = After known types i out b outs whole seen (known_behind n seen) hold e

      abbrev UsedInside : List ℕ → List Gift → Hold → Type 0
      UsedInside = Used (After known types i out b outs (in_node n) seen (known_behind n seen) hold) never here (used_in n w) (bound_in n s) later outs hold held g

      abbrev UsedEnd : List ℕ → List Gift → Hold → Type 0
      UsedEnd = Used Gone never here w (bound_in n s) later outs hold held g

      abbrev UsedWhole : List ℕ → List Gift → Hold → Type 0
      UsedWhole = Used Gone never here w s later whole_outs hold held g

      rightful_in : Rightful (used_in n w) (bound_in n s) outs rights held g hold
      rightful_in = record {
        to_signal = λ x c h. q.to_signal x c (those_in (among outs) s x h).0;
        counts = λ x h. let k = those_in (among outs) s x h in ap length (for_those (among outs) x s k.1) ∙ q.counts x k.0;
        to_wait = λ x c o h e. q.to_wait x c o (those_in (in_node n) w x h).0 e;
        within = λ x h. (those_in (among outs) s x h).1;
        low = q.low;
      }

      uses_inner : Keeps proper UsedInside rights held g (part hold)
      uses_inner =
          goes.uses later (used_in n w) (bound_in n s) out b seen here hold rights held g proper is_proper fit (λ x h. (those_in (in_node n) w x h).1) sound can (fine_less known types i out b whole (in_node n) seen hold sub fine) fit_in
          ready_in names rightful_in

      used_end : (held1 : List ℕ) (g1 : List Gift) (e : Hold) → UsedInside held1 g1 e → (held2 : List ℕ) (e1 : Hold) → Waits Behind (passed_by later n w) e e1 → StillWaits plan split course span (passed_by later n w) e held1 held2
          → UsedEnd held2 g1 e1
      used_end held1 g1 e u held2 e1 p still = record {
        moves = moves_closed (in_node n) later here w (bound_in n s) (bound_in n s) outs hold e e1 (λ x k. k) u.moves p.moves;
        kept = λ c l h no. still c (u.kept c l h (λ x o j k. no x o (those_in (in_node n) w x j).0 k)) (λ x o j k. no x o (at_end (in_node n) later b here w s outs hold e x j).0 (u.moves.old x c o k));
        gave = λ x c h k. let v = u.gave x c h k in (v.0, (v.1.0, p.moves.keep x v.0 (inr (inl (those_in (among outs) s x h).1)) v.1.1));
        left = u.left;
        signed = λ x h. same x ∙ u.signed x h;
        unsigned = λ x h. same x ∙ u.unsigned x h;
        behind = after_end (in_node n) later b here w s outs hold e known types i out whole seen (known_behind n seen) e1 sub used f fine u.moves p u.behind;
        reached = u.reached;
      } where
        same : (x : ℕ) → signs x e1 ≡ signs x e
        same x = ap (λ (l : List HeldSignal). map (λ (right : HeldSignal). right.cell) (filter (λ (right : HeldSignal). right.variable == x) l)) p.signals

      closed_uses : (v : List Right) → v ≡ passed_by later n w → Keeps proper UsedEnd rights held g (ended v hold)
      closed_uses [] is =
          keeps_end proper UsedEnd UsedInside rights
          (λ held1 g1 e u. used_end held1 g1 e u held1 e (subst (λ z. Waits Behind z e e) is (waits_none Behind e)) (λ c h k. h)) (part hold) held g uses_inner
      closed_uses (r ∷ v) is =
          with_tail (λ z. Keeps proper UsedEnd rights held g z) r v
          (keeps_once proper UsedEnd rights once (c_each (λ e. tail (r ∷ v) e) (part hold)) held g
          (keeps_each proper UsedEnd rights UsedInside (λ e. tail (r ∷ v) e)
          (λ held1 g1 e u.
          waits_keeps plan split course span proper UsedEnd rights (r ∷ v) (with b (among outs)) Behind e [] held1 g1 (waitable e (u.moves.names names))
          (subst (λ z. Fit (with b (among outs)) Behind z e) (sym is) (fit_end (in_node n) later b here w s outs hold e f u.moves))
          (λ x c o h k. owed_held held1 g1 e u x c o (subst (λ z. are_for z x ≡ true) is h) k)
          (λ e1 held2 p still. used_end held1 g1 e u held2 e1 (subst (λ z. Waits Behind z e e1) is p) (subst (λ z. StillWaits plan split course span z e held1 held2) is still)))
          (part hold) held g uses_inner)) where
            owed_held : (held1 : List ℕ) (g1 : List Gift) (e : Hold) → UsedInside held1 g1 e → (x c : ℕ) (o : Option Value) → are_for (passed_by later n w) x ≡ true → Owed e x c o → has c held1 ≡ true
            owed_held held1 g1 e u x c o h k =
                let j = at_end (in_node n) later b here w s outs hold e x h in
                let l = u.moves.old x c o k in
                u.kept c (names.low_owed x c o l) (q.to_wait x c o j.0 l)
                (λ y p m y_owed. clash (ap (in_node n) (names.apart_owed x y c o p l y_owed) ∙ (those_in (in_node n) w y m).1) j.1)

      -- an arm keeps to its rights
      pub arm_uses : ArmHas (modes_of known.preds) whole_outs n → Keeps proper UsedWhole rights held g (node_branch plan split course (armed n make later w s) hold)
      arm_uses has =
          keeps_end proper UsedWhole UsedEnd rights (λ held1 g1 e u. on held1 g1 e u has) (node_branch plan split course (armed n make later w s) hold) held g (closed_uses (passed_by later n w) refl) where
            on : (held1 : List ℕ) (g1 : List Gift) (e : Hold) → UsedEnd held1 g1 e → ArmHas (modes_of known.preds) whole_outs n → UsedWhole held1 g1 e
            on held1 g1 e u (inl ends) = absurd (u.reached (ends_zero known.types (modes_of known.preds) types n seen out b sound.good sound.graded ends))
            on held1 g1 e u (inr all) =
                let mine : (x : ℕ) → are_for s x ≡ true → are_for (bound_in n s) x ≡ true = λ x h. in_those (among outs) s x h (all x (q.within x h)) in
                record {
                  moves = fewer_outputs here w s later outs whole_outs hold e all (more_signals here w s (bound_in n s) later outs hold e (λ x h. (those_in (among outs) s x h).0) u.moves);
                  kept = u.kept;
                  gave = λ x c h k. u.gave x c (mine x h) k;
                  left = λ c l no. u.left c l (λ x h k. no x (those_in (among outs) s x h).0 k);
                  signed = λ x h. u.signed x (mine x h);
                  unsigned = λ x h. u.unsigned x (those_within (among outs) s x h);
                  behind = u.behind;
                  reached = u.reached;
                }
