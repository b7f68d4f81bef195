-- The waits behind a fork: their course from what the branch has there.
use Rattle.std.proofs.Common.{◌≡◌, inl, inr, ℕ, ◌≤◌, Bool, true, false, not, ◌==◌, ◌||◌, ◌&&◌, if◌then◌else◌, List, [], ◌∷◌, ◌++◌, map, filter, Option, Some, None, refl, ap, sym, subst, ◌∙◌}
use Rattle.merc_base.specs.declared.place.Span.{Span}
use Rattle.merc_graded_tree.specs.declared.basic.Procedure.{Procedure}
use Rattle.merc_graded_tree.specs.Nodes.{Node, Nodes, nodes_of}
use Rattle.merc_graded_tree.specs.Variables.{among}
use Rattle.merc_order.specs.Bound.{Bound, with}
use Rattle.merc_order_laws.specs.Bindings.{AreFree}
use Rattle.merc_order_laws.proofs.Facts.{clash, either_way}
use Rattle.merc_value.specs.Value.{Value}
use Rattle.merc_meaning.specs.Trace.{Env}
use Rattle.merc_meaning.specs.Steps.{value_at}
use Rattle.merc_meaning.specs.Runs.{Program}
use Rattle.merc_core.specs.Rights.{has, without}
use Rattle.merc_core.specs.WellFormed.{AreDistinct}
use Rattle.merc_rights.specs.Rights.{Right, right_to, wait_at}
use Rattle.merc_par_split.specs.Sites.{are_for}
use Rattle.merc_plan.specs.Branch.{HeldWait, Hold, NamedCell, Fork, Gift, gift_at, BranchCourse, BranchCourses, Breaks, Awaits, Starving, each, first_alone}
use Rattle.merc_plan.specs.Hold.{wait_for, without_wait, own_waits, waits_kept}
use Rattle.merc_plan.specs.Branches.{Plan, awaited, all_branch}
use Rattle.merc_plan.proofs.Flat.{Flat, Done, Answer}
use Rattle.merc_plan.proofs.Judging.{flat, uses, Sure, Keeps, Quiet}
use Rattle.merc_plan.proofs.Sets.{in_left, minus_keeps, not_one}
use Rattle.merc_script_laws.specs.Parallel.{all_outputs}
use Rattle.merc_script_laws.proofs.Bonds.{Set, Here, Owed, Fit, Names}
use Rattle.merc_script_laws.proofs.RightLists.{equal_is, equal_same, is_not, variables_of, right_first, right_rest, right_only, listed, not_for}
use Rattle.merc_script_laws.proofs.Members.{Member, number_in, filter_both, filter_none, filter_all}
use Rattle.merc_script_laws.proofs.Counts.{filter_twice}
use Rattle.merc_script_laws.proofs.Steps.{Waits}
use Rattle.merc_script_laws.proofs.Holding.{Waitable, wait_variables_of, waitable_on, taken, taken_waits}
use Rattle.merc_script_laws.proofs.Around.{after_over, waiting, in_turn, StillWaits, waits_flat, waits_keeps}
use Rattle.merc_script_laws.proofs.Behind.{rights_among, among_rights, all_moves, own_cells, forked, Own, own_of, kept_of, held_owed, not_output, owed_cases, forked_waitable, forked_fit, forked_match}

-- one wait of a branch that has the right for it
awaited_owed : (hold : Hold) (x c : ℕ) (o : Option Value) → Owed hold x c o → awaited hold x (wait_for x hold.waits) ≡ awaited hold x (Some (record { variable = x; cell = c; value = o }))
awaited_owed hold x c o e =
    ap (λ z. awaited hold x z) e.found
    ∙ ap (λ z. awaited hold x (Some (record { variable = x; cell = z; value = e.right.value }))) e.at
    ∙ ap (λ z. awaited hold x (Some (record { variable = x; cell = c; value = z }))) e.gives

wait_answered : (f : Hold → BranchCourse) (hold : Hold) (x c : ℕ) (v : Value) → Owed hold x c (Some v) → each f (first_alone (awaited hold x (wait_for x hold.waits))) ≡ Awaits c (Some v) (f (taken hold x v))
wait_answered f hold x c v e = ap (λ z. each f (first_alone z)) (awaited_owed hold x c (Some v) e) ∙ ap (λ t. Awaits c (Some v) t) (after_over (f (taken hold x v)))

wait_starves : (f : Hold → BranchCourse) (hold : Hold) (x c : ℕ) → Owed hold x c None → each f (first_alone (awaited hold x (wait_for x hold.waits))) ≡ Awaits c None (Breaks Starving)
wait_starves f hold x c e = ap (λ z. each f (first_alone z)) (awaited_owed hold x c None e)

-- Which rights are left behind waits.

abbrev not_waited : List Right → HeldWait → Bool
not_waited w right = not (are_for w right.variable)

filter_same : {A : Type 0} (p q : A → Bool) (xs : List A) → ((a : A) → p a ≡ q a) → filter p xs ≡ filter q xs
filter_same p q [] h = refl
filter_same p q (x ∷ xs) h = ap (λ (b : Bool). if b then x ∷ filter p xs else filter p xs) (h x) ∙ ap (λ l. if q x then x ∷ l else l) (filter_same p q xs h)

equal_turned : (x y : ℕ) → (x == y) ≡ (y == x)
equal_turned x y = elim (either_way (x == y)) as (λ _. (x == y) ≡ (y == x)) [
  | inl p ↦ p ∙ sym (subst (λ z. (z == x) ≡ true) (equal_is x y p) (equal_same x))
  | inr p ↦ elim (either_way (y == x)) as (λ _. (x == y) ≡ (y == x)) [
    | inl q ↦ clash (subst (λ z. (z == y) ≡ true) (equal_is y x q) (equal_same y)) p
    | inr q ↦ p ∙ sym q
  ]
]

neither : (a b : Bool) → (not a && not b) ≡ not (a || b)
neither true b = refl
neither false b = refl

none_of_case : (x : ℕ) (b : Bool) (r : HeldWait) (ws : List HeldWait) → (r.variable == x) ≡ b → has r.variable (wait_variables_of ws) ≡ false → without_wait x ws ≡ filter (λ (right : HeldWait). not (right.variable == x)) ws
    → (if b then ws else r ∷ without_wait x ws) ≡ (if not b then r ∷ filter (λ (right : HeldWait). not (right.variable == x)) ws else filter (λ (right : HeldWait). not (right.variable == x)) ws)
none_of_case x true r ws e d h = sym (filter_all (λ (right : HeldWait). not (right.variable == x)) ws (λ right m. elim (either_way (right.variable == x)) as (λ _. not (right.variable == x) ≡ true) [
  | inl p ↦ clash (number_in (λ (z : HeldWait). z.variable) right r.variable ws m (equal_is right.variable x p ∙ sym (equal_is r.variable x e))) d
  | inr p ↦ is_not (right.variable == x) p
]))
none_of_case x false r ws e d h = ap (λ l. r ∷ l) h

without_those : (x : ℕ) (ws : List HeldWait) → AreDistinct (wait_variables_of ws) → without_wait x ws ≡ filter (λ (right : HeldWait). not (right.variable == x)) ws
without_those x [] d = refl
without_those x (r ∷ ws) d = none_of_case x (r.variable == x) r ws refl d.0 (without_those x ws d.1)

left_more : (r : Right) (w : List Right) (ws : List HeldWait) → AreDistinct (wait_variables_of ws) → filter (not_waited w) (without_wait r.variable ws) ≡ filter (not_waited (r ∷ w)) ws
left_more r w ws d =
    ap (filter (not_waited w)) (without_those r.variable ws d)
    ∙ filter_twice (not_waited w) (λ (right : HeldWait). not (right.variable == r.variable)) ws
    ∙ filter_same (λ (right : HeldWait). not (right.variable == r.variable) && not_waited w right) (not_waited (r ∷ w)) ws
    (λ right. neither (right.variable == r.variable) (are_for w right.variable) ∙ ap (λ (b : Bool). not (b || are_for w right.variable)) (equal_turned right.variable r.variable))

nothing_waited : (ws : List HeldWait) → filter (not_waited []) ws ≡ ws
nothing_waited ws = filter_all (not_waited []) ws (λ right m. refl)

-- Given are the plan and the program, with the courses of its calls, and the span of the goals that are put in.
module _ (plan : Plan) (program : Program) (call : Procedure → Hold → BranchCourse) (span : Span) where
  -- of rights of which each is owed: the others are so too behind the first wait
  owed_next : {P : Option Value → Type 0} (r : Right) (w : List Right) (hold : Hold) (c : ℕ) (v : Value) → Waitable hold → AreDistinct (variables_of (r ∷ w)) → Owed hold r.variable c (Some v)
      → ((x : ℕ) → are_for (r ∷ w) x ≡ true → (d : ℕ) × ((o : Option Value) × (P o × Owed hold x d o)))
      → (x : ℕ) → are_for w x ≡ true → (d : ℕ) × ((o : Option Value) × (P o × Owed (taken hold r.variable v) x d o))
  owed_next r w hold c v can d e owed x h =
      let q = taken_waits (λ x. Unit {0}) r c v hold can e in
      let f = owed x (right_rest r w x h) in
      (f.0, (f.1.0, (f.1.1.0, q.moves.rest x f.0 f.1.0 (not_for (r ∷ []) x (λ k. clash (listed w r.variable (subst (λ y. are_for w y ≡ true) (sym (right_only r x k)) h)) d.0)) f.1.1.1)))

  waitable_next : (r : Right) (hold : Hold) (c : ℕ) (v : Value) → Waitable hold → Owed hold r.variable c (Some v) → Waitable (taken hold r.variable v)
  waitable_next r hold c v can e = waitable_on (λ x. Unit {0}) (r ∷ []) hold (taken hold r.variable v) (taken_waits (λ x. Unit {0}) r c v hold can e) can

  abbrev IsGiven : Option Value → Type 0
  IsGiven o = (v : Value) × (o ≡ Some v)

  -- waits that are all answered use their rights, and no others
  waits_left : (w : List Right) (hold : Hold) → Waitable hold → AreDistinct (variables_of w) → ((x : ℕ) → are_for w x ≡ true → (c : ℕ) × ((o : Option Value) × (IsGiven o × Owed hold x c o)))
      → (hold1 : Hold) × ((hold1.waits ≡ filter (not_waited w) hold.waits) × (flat (waiting plan program call span w [] hold) ≡ Answer hold1 Done))
  waits_left [] hold can d owed = (hold, (sym (nothing_waited hold.waits), refl))
  waits_left (r ∷ w) hold can d owed =
      let e = owed r.variable (right_first r w) in
      let v = e.1.1.0.0 in
      let o = subst (λ z. Owed hold r.variable e.0 z) e.1.1.0.1 e.1.1.1 in
      let rest = waits_left w (taken hold r.variable v) (waitable_next r hold e.0 v can o) d.1 (owed_next {P = IsGiven} r w hold e.0 v can d o owed) in
      (rest.0, (rest.1.0 ∙ left_more r w hold.waits can.variables, ap flat (wait_answered (λ inner. waiting plan program call span w [] inner) hold r.variable e.0 v o) ∙ rest.1.1))

  -- waits hold no conjuncts
  pub waits_sure : (Holds : Fork → BranchCourses → Type 0) (w : List Right) (goals : List Node) → ((hold : Hold) → Sure Holds (in_turn plan program call span goals hold)) → (hold : Hold) → Sure Holds (waiting plan program call span w goals hold)
  waits_sure Holds [] goals h hold = h hold
  waits_sure Holds (r ∷ w) goals h hold = on (wait_for r.variable hold.waits) (λ inner. waits_sure Holds w goals h inner) where
    rest : Hold → BranchCourse
    rest inner = waiting plan program call span w goals inner

    with_value : (c : ℕ) (o : Option Value) → ((inner : Hold) → Sure Holds (rest inner)) → Sure Holds (each rest (first_alone (awaited hold r.variable (Some (record { variable = r.variable; cell = c; value = o })))))
    with_value c None k = tt
    with_value c (Some v) k = subst (λ t. Sure Holds t) (sym (after_over (rest (taken hold r.variable v)))) (k (taken hold r.variable v))

    on : (o : Option HeldWait) → ((inner : Hold) → Sure Holds (rest inner)) → Sure Holds (each rest (first_alone (awaited hold r.variable o)))
    on None k = tt
    on (Some right) k = with_value right.cell right.value k

  -- waits for own cells of a fork, which are named from next on
  pub waits_quiet : (next : ℕ) (w : List Right) (hold : Hold) (pending : List ℕ) → Waitable hold → AreDistinct (variables_of w)
      → ((x : ℕ) → are_for w x ≡ true → (c : ℕ) × ((o : Option Value) × (Unit {0} × Owed hold x c o)))
      → ((x c : ℕ) (o : Option Value) → are_for w x ≡ true → Owed hold x c o → (has c pending ≡ true) × (next ≤ c)) → Quiet next pending (waiting plan program call span w [] hold)
  waits_quiet next [] hold pending can d owed i = tt
  waits_quiet next (r ∷ w) hold pending can d owed i =
      let e = owed r.variable (right_first r w) in
      on e.0 e.1.0 e.1.1.1 (λ v o p k. waits_quiet next w (taken hold r.variable v) p (waitable_next r hold e.0 v can o) d.1 (owed_next {P = λ o. Unit {0}} r w hold e.0 v can d o owed) k)
    where
      on : (c : ℕ) (o : Option Value) → Owed hold r.variable c o
          → ((v : Value) → Owed hold r.variable c (Some v) → (p : List ℕ) → ((x d : ℕ) (o : Option Value) → are_for w x ≡ true → Owed (taken hold r.variable v) x d o → (has d p ≡ true) × (next ≤ d))
          → Quiet next p (waiting plan program call span w [] (taken hold r.variable v)))
          → Quiet next pending (waiting plan program call span (r ∷ w) [] hold)
      on c None e rest =
          let k = i r.variable c None (right_first r w) e in
          subst (λ z. Quiet next pending z) (sym (wait_starves (λ inner. waiting plan program call span w [] inner) hold r.variable c e)) (k.0, (k.1, tt))
      on c (Some v) e rest =
          let k = i r.variable c (Some v) (right_first r w) e in
          let q = taken_waits (λ x. Unit {0}) r c v hold can e in
          subst (λ z. Quiet next pending z) (sym (wait_answered (λ inner. waiting plan program call span w [] inner) hold r.variable c v e)) (
            k.0,
            (
              k.1,
              rest v e (without (c ∷ []) pending)
                  (λ x f o h u.
                  let old = q.moves.old x f o u in
                  let j = i x f o (right_rest r w x h) old in
                  (minus_keeps f (c ∷ []) pending (not_one f c (λ s. clash (listed w r.variable (subst (λ y. are_for w y ≡ true) (sym (can.apart r.variable x c (Some v) o e (subst (λ z. Owed hold x z o) s old))) h)) d.0)) j.0, j.1)),
            ),
          )

  -- the waits for the outputs of a parallel conjunction
  abbrev pub output_waits : List ℕ → Hold → BranchCourse
  output_waits outputs hold = all_branch plan program call (nodes_of (map (λ x. wait_at span (right_to 0 x)) outputs)) hold

  same_goals : (outputs : List ℕ) → map (wait_at span) (map (right_to 0) outputs) ++ [] ≡ map (λ x. wait_at span (right_to 0 x)) outputs
  same_goals [] = refl
  same_goals (x ∷ outputs) = ap (λ l. wait_at span (right_to 0 x) ∷ l) (same_goals outputs)

  same_waits : (outputs : List ℕ) (hold : Hold) → waiting plan program call span (map (right_to 0) outputs) [] hold ≡ output_waits outputs hold
  same_waits outputs hold = ap (λ l. all_branch plan program call (nodes_of l) hold) (same_goals outputs)

  pub behind_sure : (Holds : Fork → BranchCourses → Type 0) (outputs : List ℕ) (hold : Hold) → Sure Holds (output_waits outputs hold)
  behind_sure Holds outputs hold = subst (λ z. Sure Holds z) (same_waits outputs hold) (waits_sure Holds (map (right_to 0) outputs) [] (λ inner. tt) hold)

  -- A fork of a parallel conjunction with these outputs, into which these rights move, by a branch that has this.
  module _ (outputs : List ℕ) (w s : List Right) (goals : Nodes) (hold : Hold) (given : List Gift) (b : Bound) (here : Set) (fit : Fit b here w hold) (names : Names hold) (distinct : AreDistinct (all_outputs goals))
      (covered : (x : ℕ) → among outputs x ≡ true → has x (all_outputs goals) ≡ true) (free : AreFree b outputs) (empty : (x : ℕ) (v : Value) → among outputs x ≡ true → Here hold x v → ⊥) where
    abbrev before : Hold
    before = forked outputs w s goals hold given

    abbrev cells : List NamedCell
    cells = own_cells outputs w s goals hold given

    can : Waitable before
    can = forked_waitable outputs w s goals hold given b here fit names distinct covered free empty

    fits : Fit (with b (among outputs)) here (map (right_to 0) outputs) before
    fits = forked_fit outputs w s goals hold given b here fit names distinct covered free empty

    owned : (x c : ℕ) (o : Option Value) → are_for (map (right_to 0) outputs) x ≡ true → Owed before x c o → Own outputs w s goals hold given x c o
    owned x c o h e = elim (owed_cases outputs w s goals hold given b here fit names distinct covered free empty x c o e) as (λ _. Own outputs w s goals hold given x c o) [
      | inl p ↦ p
      | inr p ↦ not_output outputs w s goals hold given b here fit names distinct covered free empty x (rights_among outputs x h) (fit.known x c o p.0)
    ]

    -- the waits lead to one answer, behind which the branch has the values that came, and the rights that did not move
    pub record Led : Type 0 where
      pub hold2 : Hold
      pub waits : Waits here (map (right_to 0) outputs) before hold2
      pub left : hold2.waits ≡ waits_kept (all_moves outputs w s goals hold given) hold.waits
      pub is_flat : flat (output_waits outputs before) ≡ Answer hold2 Done

    same_answer : (h k : Hold) (t : Flat Hold) → t ≡ Answer h Done → t ≡ Answer k Done → h ≡ k
    same_answer h k t p q = cc

    kept_left : filter (not_waited (map (right_to 0) outputs)) before.waits ≡ waits_kept (all_moves outputs w s goals hold given) hold.waits
    kept_left =
        let test = not_waited (map (right_to 0) outputs) in
        let own = own_waits 0 given cells in
        let kept = waits_kept (all_moves outputs w s goals hold given) hold.waits in
        filter_both test own kept
        ∙ ap (λ l. l ++ filter test kept) (filter_none test own (λ r m. ap not (among_rights outputs r.variable (own_of outputs w s goals hold given r m).output)))
        ∙ filter_all test kept (λ r m.
        let e = held_owed outputs w s goals hold given b here fit names distinct covered free empty r (kept_of outputs w s goals hold given r m).0 in
        is_not (are_for (map (right_to 0) outputs) r.variable) (not_for (map (right_to 0) outputs) r.variable
        (λ h. not_output outputs w s goals hold given b here fit names distinct covered free empty r.variable (rights_among outputs r.variable h) (fit.known r.variable r.cell r.value e))))

    pub behind_along : (full : Env) → ((x : ℕ) (v : Value) → Here hold x v → value_at full x ≡ Some v)
        → ((one : NamedCell) → Member one cells → one.consumer ≡ 0 → (v : Value) × ((gift_at one.cell given ≡ Some (Some v)) × (value_at full one.variable ≡ Some v))) → Led
    behind_along full same gives =
        let matches = forked_match outputs w s goals hold given b here fit names distinct covered free empty full same gives in
        let z = waits_flat plan program call span (map (right_to 0) outputs) (with b (among outputs)) here before full [] can fits matches in
        let u = waits_left (map (right_to 0) outputs) before can fits.once (λ x h. let e = fits.owed x h in let v = matches.comes x e.0 e.1.0 h e.1.1 in (e.0, (e.1.0, ((v.0, v.1.0), e.1.1)))) in
        record {
          hold2 = z.hold1;
          waits = z.waits;
          left = ap (λ (k : Hold). k.waits) (same_answer z.hold1 u.0 (flat (waiting plan program call span (map (right_to 0) outputs) [] before)) z.is_flat u.1.1) ∙ u.1.0 ∙ kept_left;
          is_flat = ap flat (sym (same_waits outputs before)) ∙ z.is_flat;
        }

    pub behind_keeps : (proper : ℕ → Value → Type 0) (end : List ℕ → List Gift → Hold → Type 0) (rights : ℕ → Bool) (held : List ℕ) (g : List Gift)
        → ((hold2 : Hold) (held2 : List ℕ) → Waits here (map (right_to 0) outputs) before hold2 → StillWaits plan program call span (map (right_to 0) outputs) before (uses 0 cells ++ held) held2 → end held2 g hold2)
        → Keeps proper end rights (uses 0 cells ++ held) g (output_waits outputs before)
    behind_keeps proper end rights held g ends =
        subst (λ z. Keeps proper end rights (uses 0 cells ++ held) g z) (same_waits outputs before)
        (waits_keeps plan program call span proper end rights (map (right_to 0) outputs) (with b (among outputs)) here before [] (uses 0 cells ++ held) g can fits
        (λ x c o h e. in_left c (uses 0 cells) held (owned x c o h e).used) ends)

    pub behind_quiet : (pending : List ℕ) → Quiet hold.next (uses 0 cells ++ pending) (output_waits outputs before)
    behind_quiet pending =
        subst (λ z. Quiet hold.next (uses 0 cells ++ pending) z) (same_waits outputs before)
        (waits_quiet hold.next (map (right_to 0) outputs) before (uses 0 cells ++ pending) can fits.once (λ x h. let e = fits.owed x h in (e.0, (e.1.0, (tt, e.1.1))))
        (λ x c o h e. let q = owned x c o h e in (in_left c (uses 0 cells) pending q.used, q.low)))
