-- Behind a fork: what the branch has there, and the waits for the outputs of the parallel conjunction, each of which comes through an own cell of the fork.
use Rattle.std.proofs.Common.{◌≡◌, ◌⊎◌, inl, inr, ℕ, ◌≤◌, ◌<◌, Bool, true, false, not, ◌==◌, if◌then◌else◌, List, [], ◌∷◌, ◌++◌, length, map, filter, Option, Some, None, refl, ap, sym, subst, ◌∙◌, arith}
use Rattle.merc_tree.specs.declared.declarations.Module.{Module}
use Rattle.merc_graded_tree.specs.Nodes.{Node, Nodes, outputs_of}
use Rattle.merc_graded_tree.specs.Variables.{among, in_node}
use Rattle.merc_order.specs.Bound.{Bound, with}
use Rattle.merc_order.specs.Procedures.{modes_of}
use Rattle.merc_grading.specs.Known.{Known}
use Rattle.merc_order_laws.specs.Bindings.{Variables, AreFree}
use Rattle.merc_order_laws.specs.GoodTree.{GoodNode}
use Rattle.merc_order_laws.proofs.Facts.{clash, or_left, or_right, or_cases, either_way, and_left}
use Rattle.merc_value.specs.Value.{Value}
use Rattle.merc_meaning.specs.Trace.{Env}
use Rattle.merc_meaning.specs.Steps.{value_at}
use Rattle.merc_core.specs.Rights.{has, moved, without}
use Rattle.merc_core.specs.WellFormed.{AreDistinct}
use Rattle.merc_rights.specs.declared.sites.Moved.{Moved}
use Rattle.merc_rights.specs.declared.sites.CellInfo.{CellInfo}
use Rattle.merc_rights.specs.Rights.{Right, right_to, users}
use Rattle.merc_par_split.specs.Sites.{are_for, cells_of, site_info}
use Rattle.merc_par_split.specs.Split.{moves_in}
use Rattle.merc_plan.specs.Branch.{HeldWait, HeldSignal, Hold, NamedCell, Gift, gift_at, value_given, names as cell_names}
use Rattle.merc_plan.specs.Hold.{named, own_waits, child_for, moves_from, stays, waits_kept, signals_kept, hold_behind}
use Rattle.merc_plan.proofs.Judging.{uses}
use Rattle.merc_plan.proofs.Sets.{absent, in_right, minus_keeps, same_number}
use Rattle.merc_program_laws.proofs.Values.{Instance, none_not, is_some_of}
use Rattle.merc_program_laws.proofs.Lawful.{Fits}
use Rattle.merc_script_laws.specs.Parallel.{all_outputs}
use Rattle.merc_script_laws.proofs.Bonds.{Set, Here, Owed, signs, Within, Fit, Fine, Match, Names, Moves}
use Rattle.merc_script_laws.proofs.RightLists.{not_not, equal_is, equal_same, variables_of, right_first, right_rest, right_cases, not_for}
use Rattle.merc_script_laws.proofs.Members.{Member, member_left, member_right, member_either, passing, passes, made_from, is_made, numbered, number_in, distinct_same, distinct_passing, distinct_both, map_both, filter_none, filter_all}
use Rattle.merc_script_laws.proofs.Cells.{goes, own_wait_cells, own_wait_variables, same_variables, of_info, name_of, names_distinct, name_apart, waits_moved, goes_some, wait_found, finds_wait}
use Rattle.merc_script_laws.proofs.Sites.{nth, among_has, maker_of, output_cell, fact, waited_distinct}
use Rattle.merc_script_laws.proofs.SiteMoves.{wait_child, child_signal, no_signal, no_wait_moves, free_distinct, is_free, good_free, good_occurs}
use Rattle.merc_script_laws.proofs.Steps.{joins_left, joins_right, Waits}
use Rattle.merc_script_laws.proofs.Holding.{Waitable, wait_variables_of, wait_cells_of}

-- Rights to wait for these variables.

pub rights_among : (outputs : List ℕ) (x : ℕ) → are_for (map (right_to 0) outputs) x ≡ true → among outputs x ≡ true
rights_among [] x h = clash h refl
rights_among (y ∷ outputs) x h = elim (right_cases (right_to 0 y) (map (right_to 0) outputs) x h) as (λ _. among (y ∷ outputs) x ≡ true) [
  | inl p ↦ or_left (x == y) (among outputs x) (subst (λ z. (z == y) ≡ true) p (equal_same y))
  | inr p ↦ or_right (x == y) (among outputs x) (rights_among outputs x p)
]

pub among_rights : (outputs : List ℕ) (x : ℕ) → among outputs x ≡ true → are_for (map (right_to 0) outputs) x ≡ true
among_rights [] x h = clash h refl
among_rights (y ∷ outputs) x h = elim (or_cases (x == y) (among outputs x) h) as (λ _. are_for (map (right_to 0) (y ∷ outputs)) x ≡ true) [
  | inl p ↦ subst (λ z. are_for (map (right_to 0) (y ∷ outputs)) z ≡ true) (sym (equal_is x y p)) (right_first (right_to 0 y) (map (right_to 0) outputs))
  | inr p ↦ right_rest (right_to 0 y) (map (right_to 0) outputs) x (among_rights outputs x p)
]

pub rights_variables : (outputs : List ℕ) → variables_of (map (right_to 0) outputs) ≡ outputs
rights_variables [] = refl
rights_variables (y ∷ outputs) = ap (λ l. y ∷ l) (rights_variables outputs)

stays_none : (o : Option ℕ) → stays o ≡ true → o ≡ None
stays_none None h = refl
stays_none (Some k) h = clash h refl

none_stays : (o : Option ℕ) → o ≡ None → stays o ≡ true
none_stays None h = refl
none_stays (Some k) h = absurd cc

-- Outputs have no values before their goal.
module _ (known : Module) (types i : Instance) (out : Variables) (b : Bound) (n : Node) (good : GoodNode (modes_of known.preds) out b n) (seen : Known) (hold : Hold) where
  output_free : (x : ℕ) → among (outputs_of n) x ≡ true → b x ≡ false
  output_free x h = is_free b x (outputs_of n) (good_free (modes_of known.preds) out b n good) (among_has x (outputs_of n) h)

  pub empty_fine : Fine known types i out b (in_node n) seen hold → (x : ℕ) (v : Value) → among (outputs_of n) x ≡ true → Here hold x v → ⊥
  empty_fine fine x v h e = clash (fine.exact x v (good_occurs (modes_of known.preds) out b n good x h) e) (output_free x h)

  pub empty_fits : (w : List Right) (full : Env) → Fits known types i out b (in_node n) seen full → Match w hold full → (x : ℕ) (v : Value) → among (outputs_of n) x ≡ true → Here hold x v → ⊥
  empty_fits w full fits t x v h e =
      clash (is_some_of (value_at full x) v (t.same x v e)) (fits.bounds x (good_occurs (modes_of known.preds) out b n good x h) ∙ output_free x h)

-- those of a kind stay where each of this kind passes
agree_case : {A : Type 0} (p q : A → Bool) (x : A) (xs : List A) (c d : Bool) → p x ≡ c → q x ≡ d → (c ≡ true → d ≡ true) → filter p (filter q xs) ≡ filter p xs
    → filter p (if d then x ∷ filter q xs else filter q xs) ≡ (if c then x ∷ filter p xs else filter p xs)
agree_case p q x xs true true e f h k = ap (λ (b : Bool). if b then x ∷ filter p (filter q xs) else filter p (filter q xs)) e ∙ ap (λ l. x ∷ l) k
agree_case p q x xs false true e f h k = ap (λ (b : Bool). if b then x ∷ filter p (filter q xs) else filter p (filter q xs)) e ∙ k
agree_case p q x xs true false e f h k = clash (h refl) refl
agree_case p q x xs false false e f h k = k

filter_agrees : {A : Type 0} (p q : A → Bool) (xs : List A) → ((a : A) → p a ≡ true → q a ≡ true) → filter p (filter q xs) ≡ filter p xs
filter_agrees p q [] h = refl
filter_agrees p q (x ∷ xs) h = agree_case p q x xs (p x) (q x) refl refl (h x) (filter_agrees p q xs h)

-- A fork of a parallel conjunction with these outputs, into which these rights move, by a branch that has this.
module _ (outputs : List ℕ) (w s : List Right) (goals : Nodes) (hold : Hold) (given : List Gift) where
  abbrev pub infos : List CellInfo
  infos = cells_of 1 outputs goals

  abbrev pub all_moves : List Moved
  all_moves = (site_info outputs w s goals).moves

  abbrev pub own_cells : List NamedCell
  own_cells = named hold.next infos

  -- what the branch has behind the fork, before the waits
  abbrev pub forked : Hold
  forked = hold_behind (site_info outputs w s goals) hold given

  abbrev is_awaited : NamedCell → Bool
  is_awaited one = one.consumer == 0

  abbrev own_wait : NamedCell → HeldWait
  own_wait one = record { variable = one.variable; cell = one.cell; value = value_given (gift_at one.cell given) }

  abbrev wait_stays : HeldWait → Bool
  wait_stays right = stays (child_for false right.variable all_moves)

  abbrev signal_stays : HeldSignal → Bool
  signal_stays right = stays (child_for true right.variable all_moves)

  -- the right to wait for an own cell
  pub record Own (x c : ℕ) (o : Option Value) : Type 0 where
    pub output : among outputs x ≡ true
    pub low : hold.next ≤ c
    pub used : has c (uses 0 own_cells) ≡ true
    pub cell : NamedCell
    pub there : Member cell own_cells
    pub consumer : cell.consumer ≡ 0
    pub variable : cell.variable ≡ x
    pub name : cell.cell ≡ c
    pub value : o ≡ value_given (gift_at c given)

  own_case : (one : NamedCell) → Member one (filter is_awaited own_cells) → Own one.variable one.cell (value_given (gift_at one.cell given))
  own_case one m =
      let p = passing is_awaited one own_cells m in
      let i = of_info hold.next infos one p.0 in
      let f = fact 1 outputs goals i.info i.there in
      record {
        output = subst (λ z. among outputs z ≡ true) (sym i.variable) (on i.info (sym i.consumer ∙ same_number one.consumer 0 p.1) f.user);
        low = i.low;
        used = number_in (λ (z : NamedCell). z.cell) one one.cell (filter is_awaited own_cells) m refl;
        cell = one;
        there = p.0;
        consumer = same_number one.consumer 0 p.1;
        variable = refl;
        name = refl;
        value = refl;
      } where
        on : (info : CellInfo) → info.consumer ≡ 0
            → ((info.consumer ≡ 0) × (among outputs info.variable ≡ true)) ⊎ ((info.producer < info.consumer) × ((m : Node) × ((nth 1 info.consumer goals ≡ Some m) × (in_node m info.variable ≡ true))))
            → among outputs info.variable ≡ true
        on info e (inl h) = h.1
        on info e (inr h) = let l = h.0 in absurd (omega (arith, l, e))

  pub own_of : (r : HeldWait) → Member r (own_waits 0 given own_cells) → Own r.variable r.cell r.value
  own_of r h =
      let q = made_from own_wait r (filter is_awaited own_cells) h in
      subst (λ (z : HeldWait). Own z.variable z.cell z.value) (sym q.1.1) (own_case q.0 q.1.0)

  pub kept_of : (r : HeldWait) → Member r (waits_kept all_moves hold.waits) → Member r hold.waits × (child_for false r.variable all_moves ≡ None)
  kept_of r h = let q = passing wait_stays r hold.waits h in (q.0, stays_none (child_for false r.variable all_moves) q.1)

  module _ (b : Bound) (here : Set) (fit : Fit b here w hold) (names : Names hold) (distinct : AreDistinct (all_outputs goals)) (covered : (x : ℕ) → among outputs x ≡ true → has x (all_outputs goals) ≡ true)
      (free : AreFree b outputs) (empty : (x : ℕ) (v : Value) → among outputs x ≡ true → Here hold x v → ⊥) where
    pub held_owed : (r : HeldWait) → Member r hold.waits → Owed hold r.variable r.cell r.value
    held_owed r m = record { right = r; found = finds_wait r.variable r hold.waits names.wait_variables m refl; at = refl; gives = refl }

    -- what is bound before is no output
    pub not_output : {A : Type 0} (x : ℕ) → among outputs x ≡ true → b x ≡ true → A
    not_output x h k = clash k (is_free b x outputs free (among_has x outputs h))

    pub forked_variables : AreDistinct (wait_variables_of forked.waits)
    forked_variables = subst (λ l. AreDistinct l) (sym (map_both variable (own_waits 0 given own_cells) (waits_kept all_moves hold.waits)))
        (distinct_both (map variable (own_waits 0 given own_cells)) (map variable (waits_kept all_moves hold.waits))
        (subst (λ l. AreDistinct l) (sym (own_wait_variables 0 given own_cells ∙ same_variables (λ v p c. c == 0) hold.next infos)) (waited_distinct 1 0 outputs goals distinct))
        (distinct_passing variable wait_stays hold.waits names.wait_variables)
        (λ x h k. apart x (numbered variable x (own_waits 0 given own_cells) h) (numbered variable x (waits_kept all_moves hold.waits) k))) where
          variable : HeldWait → ℕ
          variable right = right.variable

          apart : (x : ℕ) → (r : HeldWait) × (Member r (own_waits 0 given own_cells) × (r.variable ≡ x)) → (r : HeldWait) × (Member r (waits_kept all_moves hold.waits) × (r.variable ≡ x)) → ⊥
          apart x p q =
              let e = held_owed q.0 (kept_of q.0 q.1.0).0 in
              not_output x (subst (λ z. among outputs z ≡ true) p.1.1 (own_of p.0 p.1.0).output) (subst (λ z. b z ≡ true) q.1.1 (fit.known q.0.variable q.0.cell q.0.value e))

    pub forked_cells : AreDistinct (wait_cells_of forked.waits)
    forked_cells = subst (λ l. AreDistinct l) (sym (map_both cell (own_waits 0 given own_cells) (waits_kept all_moves hold.waits)))
        (distinct_both (map cell (own_waits 0 given own_cells)) (map cell (waits_kept all_moves hold.waits))
        (subst (λ l. AreDistinct l) (sym (own_wait_cells 0 given own_cells)) (distinct_passing (λ (z : NamedCell). z.cell) is_awaited own_cells (names_distinct hold.next infos)))
        (distinct_passing cell wait_stays hold.waits names.wait_cells)
        (λ c h k. apart c (numbered cell c (own_waits 0 given own_cells) h) (numbered cell c (waits_kept all_moves hold.waits) k))) where
          cell : HeldWait → ℕ
          cell right = right.cell

          apart : (c : ℕ) → (r : HeldWait) × (Member r (own_waits 0 given own_cells) × (r.cell ≡ c)) → (r : HeldWait) × (Member r (waits_kept all_moves hold.waits) × (r.cell ≡ c)) → ⊥
          apart c p q =
              let l = (own_of p.0 p.1.0).low in
              let e = p.1.1 in
              let m = names.low_owed q.0.variable q.0.cell q.0.value (held_owed q.0 (kept_of q.0 q.1.0).0) in
              let f = q.1.1 in
              absurd (omega (arith, l, e, m, f))

    same_right : (P : ℕ → ℕ → Option Value → Type 0) (r : HeldWait) (x c : ℕ) (o : Option Value) → r.variable ≡ x → r.cell ≡ c → r.value ≡ o → P r.variable r.cell r.value → P x c o
    same_right P r x c o p q u h = subst (λ z. P x c z) u (subst (λ z. P x z r.value) q (subst (λ z. P z r.cell r.value) p h))

    -- What is owed behind the fork comes through an own cell, or was owed before and did not move.
    pub owed_cases : (x c : ℕ) (o : Option Value) → Owed forked x c o → Own x c o ⊎ (Owed hold x c o × (child_for false x all_moves ≡ None))
    owed_cases x c o e =
        let q = wait_found x e.right forked.waits e.found in
        on (member_either e.right (own_waits 0 given own_cells) (waits_kept all_moves hold.waits) q.0) q.1 where
          on : Member e.right (own_waits 0 given own_cells) ⊎ Member e.right (waits_kept all_moves hold.waits) → e.right.variable ≡ x → Own x c o ⊎ (Owed hold x c o × (child_for false x all_moves ≡ None))
          on (inl h) p = inl (same_right Own e.right x c o p e.at e.gives (own_of e.right h))
          on (inr h) p =
              let k = kept_of e.right h in
              inr (same_right (Owed hold) e.right x c o p e.at e.gives (held_owed e.right k.0), ap (λ z. child_for false z all_moves) (sym p) ∙ k.1)

    pub own_owed : (x : ℕ) → among outputs x ≡ true → (c : ℕ) × Owed forked x c (value_given (gift_at c given))
    own_owed x h =
        let m = maker_of 1 x goals (covered x h) in
        let n = name_of hold.next infos (record { variable = x; producer = m.0; consumer = 0 }) (output_cell outputs 1 m.0 x m.1.0 goals m.1.1.0 m.1.1.1 h) in
        let one = n.one in (
          one.cell,
          record {
            right = own_wait one;
            found = finds_wait x (own_wait one) forked.waits forked_variables
                (member_left (own_wait one) (own_waits 0 given own_cells) (waits_kept all_moves hold.waits)
                (is_made own_wait one (filter is_awaited own_cells) (passes is_awaited one own_cells n.there (subst (λ z. (z == 0) ≡ true) (sym n.consumer) refl)))) n.variable;
            at = refl;
            gives = refl;
          },
        )

    pub kept_owed : (x c : ℕ) (o : Option Value) → Owed hold x c o → child_for false x all_moves ≡ None → Owed forked x c o
    kept_owed x c o e k =
        let q = wait_found x e.right hold.waits e.found in
        record {
          right = e.right;
          found = finds_wait x e.right forked.waits forked_variables
              (member_right e.right (own_waits 0 given own_cells) (waits_kept all_moves hold.waits)
              (passes wait_stays e.right hold.waits q.0 (none_stays (child_for false e.right.variable all_moves) (ap (λ z. child_for false z all_moves) q.1 ∙ k)))) q.1;
          at = e.at;
          gives = e.gives;
        }

    pub forked_waitable : Waitable forked
    forked_waitable = record {
      variables = forked_variables;
      apart = apart;
      valueless = λ x c o v e h. elim (owed_cases x c o e) as (λ _. ⊥) [
        | inl p ↦ empty x v p.output h
        | inr p ↦ names.valueless x c o v p.0 h
      ];
    } where
      apart : (x y c : ℕ) (o q : Option Value) → Owed forked x c o → Owed forked y c q → x ≡ y
      apart x y c o q e f =
          let m = wait_found x e.right forked.waits e.found in
          let n = wait_found y f.right forked.waits f.found in
          sym m.1 ∙ ap (λ (z : HeldWait). z.variable) (distinct_same (λ (z : HeldWait). z.cell) e.right f.right forked.waits forked_cells m.0 n.0 (e.at ∙ sym f.at)) ∙ n.1

    pub forked_fit : Fit (with b (among outputs)) here (map (right_to 0) outputs) forked
    forked_fit = record {
      held = fit.held;
      below = λ x h. joins_left b outputs x (fit.below x h);
      owed = λ x h. let z = own_owed x (rights_among outputs x h) in (z.0, (value_given (gift_at z.0 given), z.1));
      known = λ x c o e. elim (owed_cases x c o e) as (λ _. with b (among outputs) x ≡ true) [
        | inl p ↦ joins_right b outputs x p.output
        | inr p ↦ joins_left b outputs x (fit.known x c o p.0)
      ];
      once = subst (λ l. AreDistinct l) (sym (rights_variables outputs)) (free_distinct b outputs free);
    }

    -- where values are given as the trace has them
    module _ (full : Env) (same : (x : ℕ) (v : Value) → Here hold x v → value_at full x ≡ Some v)
        (gives : (one : NamedCell) → Member one own_cells → one.consumer ≡ 0 → (v : Value) × ((gift_at one.cell given ≡ Some (Some v)) × (value_at full one.variable ≡ Some v))) where
      comes : (x c : ℕ) (o : Option Value) → among outputs x ≡ true → Owed forked x c o → (v : Value) × ((o ≡ Some v) × (value_at full x ≡ Some v))
      comes x c o h e = on (owed_cases x c o e) where
        on : Own x c o ⊎ (Owed hold x c o × (child_for false x all_moves ≡ None)) → (v : Value) × ((o ≡ Some v) × (value_at full x ≡ Some v))
        on (inl p) =
            let g = gives p.cell p.there p.consumer in
            (g.0, (p.value ∙ ap value_given (ap (λ z. gift_at z given) (sym p.name) ∙ g.1.0), ap (value_at full) (sym p.variable) ∙ g.1.1))
        on (inr p) = not_output x h (fit.known x c o p.0)

      pub forked_match : Match (map (right_to 0) outputs) forked full
      forked_match = record { same = same; comes = λ x c o h e. comes x c o (rights_among outputs x h) e }

      pub news_behind : (hold2 : Hold) → Waits here (map (right_to 0) outputs) forked hold2 → (x : ℕ) (v : Value) → Here hold2 x v → value_at full x ≡ Some v
      news_behind hold2 p x v h = elim (either_way (are_for (map (right_to 0) outputs) x)) as (λ _. value_at full x ≡ Some v) [
        | inl k ↦ let e = own_owed x (rights_among outputs x k) in
            let o = value_given (gift_at e.0 given) in
            let g = p.moves.got x e.0 o k refl e.1 in
            let c = comes x e.0 o (rights_among outputs x k) e.1 in
            c.1.1 ∙ sym c.1.0 ∙ g.1.0 ∙ sym g.1.1 ∙ h
        | inr k ↦ same x v (sym (p.other x k) ∙ h)
      ]

    -- From before the fork to behind the waits.
    module _ (hold2 : Hold) (p : Waits here (map (right_to 0) outputs) forked hold2) where
      -- the values that come through own cells
      pub given_behind : (one : NamedCell) → Member one own_cells → one.consumer ≡ 0 → (v : Value) × ((value_given (gift_at one.cell given) ≡ Some v) × Here hold2 one.variable v)
      given_behind one m e =
          let i = passes is_awaited one own_cells m (subst (λ z. (z == 0) ≡ true) (sym e) refl) in
          let o = own_case one i in
          let f : Owed forked one.variable one.cell (value_given (gift_at one.cell given)) = record {
            right = own_wait one;
            found = finds_wait one.variable (own_wait one) forked.waits forked_variables (member_left (own_wait one) (own_waits 0 given own_cells) (waits_kept all_moves hold.waits) (is_made own_wait one (filter is_awaited own_cells) i)) refl;
            at = refl;
            gives = refl;
          } in
          p.moves.got one.variable one.cell (value_given (gift_at one.cell given)) (among_rights outputs one.variable o.output) refl f

      pub others_behind : (x : ℕ) → among outputs x ≡ false → value_at hold2.env x ≡ value_at hold.env x
      others_behind x h = p.other x (not_for (map (right_to 0) outputs) x (λ k. clash (rights_among outputs x k) h))

      pub old_behind : (x c : ℕ) (o : Option Value) → Owed hold2 x c o → Owed hold x c o × (child_for false x all_moves ≡ None)
      old_behind x c o e = elim (owed_cases x c o (p.moves.old x c o e)) as (λ _. Owed hold x c o × (child_for false x all_moves ≡ None)) [
        | inl q ↦ absurd (p.gone x c o (among_rights outputs x q.output) e)
        | inr q ↦ q
      ]

      pub rest_behind : (x c : ℕ) (o : Option Value) → are_for w x ≡ false → Owed hold x c o → Owed hold2 x c o
      rest_behind x c o h e =
          p.moves.rest x c o (not_for (map (right_to 0) outputs) x (λ k. not_output x (rights_among outputs x k) (fit.known x c o e))) (kept_owed x c o e (no_wait_moves outputs w s goals x h))

      pub signed_behind : (x c : ℕ) → has c (signs x hold2) ≡ true → has c (signs x hold) ≡ true
      signed_behind x c h =
          let is_for : HeldSignal → Bool = λ right. right.variable == x in
          let k = subst (λ l. has c (map (λ (right : HeldSignal). right.cell) (filter is_for l)) ≡ true) p.signals h in
          let r = numbered (λ (right : HeldSignal). right.cell) c (filter is_for (signals_kept all_moves hold.signals)) k in
          let q = passing is_for r.0 (signals_kept all_moves hold.signals) r.1.0 in
          number_in (λ (right : HeldSignal). right.cell) r.0 c (filter is_for hold.signals) (passes is_for r.0 hold.signals (passing signal_stays r.0 hold.signals q.0).0 q.1) r.1.1

      -- rights to signal that do not move stay, and others are gone
      pub unsigned_behind : (x : ℕ) → are_for s x ≡ false → signs x hold2 ≡ signs x hold
      unsigned_behind x h =
          let is_for : HeldSignal → Bool = λ right. right.variable == x in
          ap (λ l. map (λ (right : HeldSignal). right.cell) (filter is_for l)) p.signals
          ∙ ap (map (λ (right : HeldSignal). right.cell)) (filter_agrees is_for signal_stays hold.signals
          (λ right e. none_stays (child_for true right.variable all_moves) (ap (λ z. child_for true z all_moves) (equal_is right.variable x e) ∙ no_signal outputs w s goals x h)))

      pub gone_behind : Within s outputs → (x : ℕ) → are_for s x ≡ true → signs x hold2 ≡ []
      gone_behind within x h =
          let is_for : HeldSignal → Bool = λ right. right.variable == x in
          let m = maker_of 1 x goals (covered x (within x h)) in
          let k = child_signal outputs w s goals distinct x m.0 m.1.0 m.1.1.0 m.1.1.1 h in
          ap (λ l. map (λ (right : HeldSignal). right.cell) (filter is_for l)) p.signals
          ∙ ap (map (λ (right : HeldSignal). right.cell)) (filter_none is_for (signals_kept all_moves hold.signals)
          (λ right i. elim (either_way (is_for right)) as (λ _. is_for right ≡ false) [
            | inl e ↦ absurd (none_not (sym (stays_none (child_for true right.variable all_moves) (passing signal_stays right hold.signals i).1) ∙ ap (λ z. child_for true z all_moves) (equal_is right.variable x e) ∙ k))
            | inr e ↦ e
          ]))

      pub names_behind : Names hold2
      names_behind = record {
        low = λ x c h. subst (λ n. c < n) (sym p.moves.next) (names.low x c (signed_behind x c h));
        apart = λ x y c h k. names.apart x y c (signed_behind x c h) (signed_behind y c k);
        low_owed = λ x c o e. subst (λ n. c < n) (sym p.moves.next) (names.low_owed x c o (old_behind x c o e).0);
        apart_owed = λ x y c o q e f. names.apart_owed x y c o q (old_behind x c o e).0 (old_behind y c q f).0;
        single = λ x. distinct_passing cell (λ (right : HeldSignal). right.variable == x) hold2.signals cells;
        kinds = λ x y c o h e. names.kinds x y c o (signed_behind x c h) (old_behind y c o e).0;
        cells = cells;
        wait_cells = p.cells forked_cells;
        wait_variables = p.variables forked_variables;
        valueless = λ x c o v e h. elim (either_way (are_for (map (right_to 0) outputs) x)) as (λ _. ⊥) [
          | inl k ↦ p.gone x c o k e
          | inr k ↦ names.valueless x c o v (old_behind x c o e).0 (sym (p.other x k) ∙ h)
        ];
      } where
        cell : HeldSignal → ℕ
        cell right = right.cell

        cells : AreDistinct (map cell hold2.signals)
        cells = subst (λ l. AreDistinct (map cell l)) (sym p.signals) (distinct_passing cell signal_stays hold.signals names.cells)

      -- What moved in is used behind the `&` nowhere.
      pub moves_behind : (later : ℕ → Bool) → ((x : ℕ) → are_for w x ≡ true → moves_in later goals x ≡ true) → Moves here w s later outputs hold hold2
      moves_behind later moving = record {
        keep = λ x v h e. p.moves.keep x v h e;
        fresh = λ x h. let z = own_owed x h in let g = p.moves.got x z.0 (value_given (gift_at z.0 given)) (among_rights outputs x h) refl z.1 in (g.0, g.1.1);
        got = λ x c o h l e. clash l (not_not (later x) (and_left (not (later x)) (length (users 1 goals x) == 1) (moving x h)));
        rest = rest_behind;
        old = λ x c o e. (old_behind x c o e).0;
        next = p.moves.next;
        names = λ n. names_behind;
        signed = signed_behind;
        unsigned = unsigned_behind;
        still = λ k. p.signals ∙ filter_all signal_stays hold.signals (λ right i. none_stays (child_for true right.variable all_moves) (no_signal outputs w s goals right.variable (k right.variable)));
      }

      -- rights to wait that do not move stay
      pub kept_behind : (held held1 : List ℕ)
          → ((c : ℕ) → has c (uses 0 own_cells ++ without (cell_names own_cells) (without (moved false (moves_from all_moves hold)) held)) ≡ true
          → ((x : ℕ) (o : Option Value) → are_for (map (right_to 0) outputs) x ≡ true → Owed forked x c o → ⊥) → has c held1 ≡ true)
          → (c : ℕ) → c < hold.next → has c held ≡ true → ((x : ℕ) (o : Option Value) → are_for w x ≡ true → Owed hold x c o → ⊥) → has c held1 ≡ true
      kept_behind held held1 still c l h n =
          let past = without (moved false (moves_from all_moves hold)) held in
          still c (in_right c (uses 0 own_cells) (without (cell_names own_cells) past)
          (minus_keeps c (cell_names own_cells) past (name_apart hold.next infos c l) (minus_keeps c (moved false (moves_from all_moves hold)) held (absent c (moved false (moves_from all_moves hold)) not_moved) h)))
          (λ x o i e. elim (owed_cases x c o e) as (λ _. ⊥) [
            | inl q ↦ let m = q.low in absurd (omega (arith, l, m))
            | inr q ↦ not_output x (rights_among outputs x i) (fit.known x c o q.0)
          ]) where
            not_moved : has c (moved false (moves_from all_moves hold)) ≡ true → ⊥
            not_moved i =
                let goes_on : HeldWait → Bool = λ right. goes (child_for false right.variable all_moves) in
                let r = numbered (λ (right : HeldWait). right.cell) c (filter goes_on hold.waits) (subst (λ z. has c z ≡ true) (waits_moved all_moves hold) i) in
                let q = passing goes_on r.0 hold.waits r.1.0 in
                let k = goes_some (child_for false r.0.variable all_moves) q.1 in
                n r.0.variable r.0.value (wait_child outputs w s goals r.0.variable k.0 k.1).0 (subst (λ z. Owed hold r.0.variable z r.0.value) r.1.1 (held_owed r.0 q.0))
