-- The rights of a conjunct: to own cells of the fork, or of those that its parent holds.
use Rattle.std.proofs.Common.{◌≡◌, ◌⊎◌, inl, inr, ℕ, ◌+◌, ◌≤◌, ◌<◌, Bool, true, false, ◌==◌, if◌then◌else◌, nat_eq, List, ◌++◌, length, map, filter, Option, Some, None, refl, ap, sym, subst, ◌∙◌, arith}
use Rattle.merc_value.specs.Value.{Value}
use Rattle.merc_graded_tree.specs.Nodes.{Node, Nodes}
use Rattle.merc_graded_tree.specs.Variables.{among, in_node}
use Rattle.merc_meaning.specs.Steps.{value_at}
use Rattle.merc_core.specs.Rights.{has}
use Rattle.merc_core.specs.WellFormed.{AreDistinct}
use Rattle.merc_course.proofs.Beginnings.{beginning}
use Rattle.merc_rights.specs.declared.sites.CellInfo.{CellInfo}
use Rattle.merc_rights.specs.declared.sites.SiteInfo.{SiteInfo}
use Rattle.merc_rights.specs.Rights.{Right}
use Rattle.merc_par_split.specs.Sites.{cells_of, site_info}
use Rattle.merc_plan.specs.Branch.{HeldWait, HeldSignal, Hold, NamedCell, names, Gift, gift_at, value_given}
use Rattle.merc_plan.specs.Hold.{named, own_waits, own_signals, child_for, goes_to, waits_into, signals_into, conjunct_hold}
use Rattle.merc_plan.proofs.Judging.{makes, uses}
use Rattle.merc_plan.proofs.Sets.{same_number, is_same, in_either}
use Rattle.merc_script_laws.specs.Parallel.{all_outputs}
use Rattle.merc_script_laws.proofs.Bonds.{Here, Owed, signs, Names}
use Rattle.merc_script_laws.proofs.Members.{Member, member_left, member_right, member_either, passing, passes, made_from, is_made, numbered, number_in, distinct_same, distinct_passing, distinct_both, map_both}
use Rattle.merc_script_laws.proofs.Cells.{of_info, names_distinct, same_variables, own_wait_cells, own_wait_variables, own_signal_cells, goes_there, there_goes, wait_found, finds_wait}
use Rattle.merc_script_laws.proofs.Sites.{Fact, fact, nth, bound_by, waited_by, waited_distinct, waited_bound}

abbrev pub signal_cells : Hold → List ℕ
signal_cells hold = map (λ (right : HeldSignal). right.cell) hold.signals

abbrev pub wait_cells : Hold → List ℕ
wait_cells hold = map (λ (right : HeldWait). right.cell) hold.waits

-- rights as members

pub signs_member : (hold : Hold) (x c : ℕ) → has c (signs x hold) ≡ true → (r : HeldSignal) × (Member r hold.signals × ((r.variable ≡ x) × (r.cell ≡ c)))
signs_member hold x c h =
    let r = numbered (λ (right : HeldSignal). right.cell) c (filter (λ (right : HeldSignal). right.variable == x) hold.signals) h in
    let p = passing (λ (right : HeldSignal). right.variable == x) r.0 hold.signals r.1.0 in
    (r.0, (p.0, (same_number r.0.variable x p.1, r.1.1)))

pub member_signs : (hold : Hold) (x c : ℕ) (r : HeldSignal) → Member r hold.signals → r.variable ≡ x → r.cell ≡ c → has c (signs x hold) ≡ true
member_signs hold x c r m v e =
    number_in (λ (right : HeldSignal). right.cell) r c (filter (λ (right : HeldSignal). right.variable == x) hold.signals)
    (passes (λ (right : HeldSignal). right.variable == x) r hold.signals m (subst (λ z. (z == x) ≡ true) (sym v) (is_same x))) e

pub signs_cell : (hold : Hold) (x c : ℕ) → has c (signs x hold) ≡ true → has c (signal_cells hold) ≡ true
signs_cell hold x c h = let r = signs_member hold x c h in number_in (λ (right : HeldSignal). right.cell) r.0 c hold.signals r.1.0 r.1.1.1

pub owed_member : (hold : Hold) (x c : ℕ) (o : Option Value) → Owed hold x c o → (r : HeldWait) × (Member r hold.waits × ((r.variable ≡ x) × ((r.cell ≡ c) × (r.value ≡ o))))
owed_member hold x c o e = let p = wait_found x e.right hold.waits e.found in (e.right, (p.0, (p.1, (e.at, e.gives))))

pub member_owed : (hold : Hold) (r : HeldWait) → AreDistinct (map (λ (right : HeldWait). right.variable) hold.waits) → Member r hold.waits → Owed hold r.variable r.cell r.value
member_owed hold r d m = record { right = r; found = finds_wait r.variable r hold.waits d m refl; at = refl; gives = refl }

pub owed_cell : (hold : Hold) (x c : ℕ) (o : Option Value) → Owed hold x c o → has c (wait_cells hold) ≡ true
owed_cell hold x c o e = let r = owed_member hold x c o e in number_in (λ (right : HeldWait). right.cell) r.0 c hold.waits r.1.0 r.1.1.1.0

-- names from the lists of rights
pub record Listed (hold : Hold) : Type 0 where
  pub cells : AreDistinct (signal_cells hold)
  pub waits : AreDistinct (wait_cells hold)
  pub variables : AreDistinct (map (λ (right : HeldWait). right.variable) hold.waits)
  pub kinds : (c : ℕ) → has c (signal_cells hold) ≡ true → has c (wait_cells hold) ≡ true → ⊥
  pub low : (c : ℕ) → has c (signal_cells hold) ≡ true → c < hold.next
  pub low_waits : (c : ℕ) → has c (wait_cells hold) ≡ true → c < hold.next
  pub valueless : (x c : ℕ) (o : Option Value) (v : Value) → Owed hold x c o → Here hold x v → ⊥

pub names_listed : (hold : Hold) → Listed hold → Names hold
names_listed hold l = record {
  low = λ x c h. l.low c (signs_cell hold x c h);
  apart = λ x y c h k.
      let p = signs_member hold x c h in
      let q = signs_member hold y c k in
      sym p.1.1.0 ∙ ap (λ (r : HeldSignal). r.variable) (distinct_same (λ (right : HeldSignal). right.cell) p.0 q.0 hold.signals l.cells p.1.0 q.1.0 (p.1.1.1 ∙ sym q.1.1.1)) ∙ q.1.1.0;
  low_owed = λ x c o e. l.low_waits c (owed_cell hold x c o e);
  apart_owed = λ x y c o q e f.
      let p = owed_member hold x c o e in
      let r = owed_member hold y c q f in
      sym p.1.1.0 ∙ ap (λ (z : HeldWait). z.variable) (distinct_same (λ (right : HeldWait). right.cell) p.0 r.0 hold.waits l.waits p.1.0 r.1.0 (p.1.1.1.0 ∙ sym r.1.1.1.0)) ∙ r.1.1.0;
  single = λ x. distinct_passing (λ (right : HeldSignal). right.cell) (λ (right : HeldSignal). right.variable == x) hold.signals l.cells;
  kinds = λ x y c o h e. l.kinds c (signs_cell hold x c h) (owed_cell hold y c o e);
  cells = l.cells;
  wait_cells = l.waits;
  wait_variables = l.variables;
  valueless = l.valueless;
}

pub low_signals : (hold : Hold) → Names hold → (r : HeldSignal) → Member r hold.signals → r.cell < hold.next
low_signals hold names r m = names.low r.variable r.cell (member_signs hold r.variable r.cell r m refl refl)

pub low_waits : (hold : Hold) → Names hold → (r : HeldWait) → Member r hold.waits → r.cell < hold.next
low_waits hold names r m = names.low_owed r.variable r.cell r.value (member_owed hold r names.wait_variables m)

-- a fork with these conjuncts, of a branch that moves these rights
module _ (goals : Nodes) (outputs : List ℕ) (w s : List Right) (hold : Hold) where
  abbrev pub info : SiteInfo
  info = site_info outputs w s goals

  abbrev pub cells : List CellInfo
  cells = cells_of 1 outputs goals

  abbrev pub own : List NamedCell
  own = named hold.next cells

  -- the fact of an own cell
  pub fact_of : (one : NamedCell) → Member one own → (z : CellInfo) × (Fact 1 outputs goals z × ((one.variable ≡ z.variable) × ((one.producer ≡ z.producer) × (one.consumer ≡ z.consumer))))
  fact_of one m = let q = of_info hold.next cells one m in (q.info, (fact 1 outputs goals q.info q.there, (q.variable, (q.producer, q.consumer))))

  pub own_bound : (one : NamedCell) → Member one own → has one.variable (all_outputs goals) ≡ true
  own_bound one m =
      let q = fact_of one m in
      subst (λ z. has z (all_outputs goals) ≡ true) (sym q.1.1.0) (bound_by 1 q.0.producer q.0.variable q.1.0.maker goals q.1.0.is_maker q.1.0.binds)

  pub own_low : (one : NamedCell) → Member one own → hold.next ≤ one.cell
  own_low one m = (of_info hold.next cells one m).low

  pub own_high : (one : NamedCell) → Member one own → one.cell < hold.next + length cells
  own_high one m = (of_info hold.next cells one m).high

  pub same_own : (one other : NamedCell) → Member one own → Member other own → one.cell ≡ other.cell → one ≡ other
  same_own one other m n e = distinct_same (λ (z : NamedCell). z.cell) one other own (names_distinct hold.next cells) m n e

  -- conjunct k, 0 for what is behind
  module _ (k : ℕ) (goal : Node) (given : List Gift) where
    abbrev pub kid : Hold
    kid = conjunct_hold info k goal hold given

    pub record OwnWait (x c : ℕ) (o : Option Value) : Type 0 where
      pub one : NamedCell
      pub there : Member one own
      pub consumer : one.consumer ≡ k
      pub variable : one.variable ≡ x
      pub cell : one.cell ≡ c
      pub value : o ≡ value_given (gift_at c given)

    pub record OwnSign (x c : ℕ) : Type 0 where
      pub one : NamedCell
      pub there : Member one own
      pub producer : one.producer ≡ k
      pub variable : one.variable ≡ x
      pub cell : one.cell ≡ c

    abbrev wait_of : NamedCell → HeldWait
    wait_of one = record { variable = one.variable; cell = one.cell; value = value_given (gift_at one.cell given) }

    abbrev signal_of : NamedCell → HeldSignal
    signal_of one = record { variable = one.variable; conjunct = one.consumer; cell = one.cell }

    own_wait_of : (r : HeldWait) → Member r (own_waits k given own) → (one : NamedCell) × (Member one own × ((one.consumer ≡ k) × (r ≡ wait_of one)))
    own_wait_of r m =
        let q = made_from wait_of r (filter (λ (one : NamedCell). one.consumer == k) own) m in
        let p = passing (λ (one : NamedCell). one.consumer == k) q.0 own q.1.0 in
        (q.0, (p.0, (same_number q.0.consumer k p.1, q.1.1)))

    own_signal_of : (r : HeldSignal) → Member r (own_signals k own) → (one : NamedCell) × (Member one own × ((one.producer ≡ k) × (r ≡ signal_of one)))
    own_signal_of r m =
        let q = made_from signal_of r (filter (λ (one : NamedCell). one.producer == k) own) m in
        let p = passing (λ (one : NamedCell). one.producer == k) q.0 own q.1.0 in
        (q.0, (p.0, (same_number q.0.producer k p.1, q.1.1)))

    is_own_wait : (one : NamedCell) → Member one own → one.consumer ≡ k → Member (wait_of one) (own_waits k given own)
    is_own_wait one m e = is_made wait_of one (filter (λ (z : NamedCell). z.consumer == k) own) (passes (λ (z : NamedCell). z.consumer == k) one own m (subst (λ z. (z == k) ≡ true) (sym e) (is_same k)))

    is_own_signal : (one : NamedCell) → Member one own → one.producer ≡ k → Member (signal_of one) (own_signals k own)
    is_own_signal one m e = is_made signal_of one (filter (λ (z : NamedCell). z.producer == k) own) (passes (λ (z : NamedCell). z.producer == k) one own m (subst (λ z. (z == k) ≡ true) (sym e) (is_same k)))

    pub owed_cases : Names hold → (x c : ℕ) (o : Option Value) → Owed kid x c o → OwnWait x c o ⊎ ((child_for false x info.moves ≡ Some k) × Owed hold x c o)
    owed_cases names x c o e = on (owed_member kid x c o e) where
      on : (r : HeldWait) × (Member r kid.waits × ((r.variable ≡ x) × ((r.cell ≡ c) × (r.value ≡ o)))) → OwnWait x c o ⊎ ((child_for false x info.moves ≡ Some k) × Owed hold x c o)
      on (r, (m, (v, (at, gives)))) = side (member_either r (own_waits k given own) (waits_into k info.moves hold.waits) m) where
        side : Member r (own_waits k given own) ⊎ Member r (waits_into k info.moves hold.waits) → OwnWait x c o ⊎ ((child_for false x info.moves ≡ Some k) × Owed hold x c o)
        side (inl h) =
            let q = own_wait_of r h in
            inl (record {
              one = q.0;
              there = q.1.0;
              consumer = q.1.1.0;
              variable = ap (λ (z : HeldWait). z.variable) (sym q.1.1.1) ∙ v;
              cell = ap (λ (z : HeldWait). z.cell) (sym q.1.1.1) ∙ at;
              value = sym gives ∙ ap (λ (z : HeldWait). z.value) q.1.1.1 ∙ ap (λ z. value_given (gift_at z given)) (ap (λ (z : HeldWait). z.cell) (sym q.1.1.1) ∙ at);
            })
        side (inr h) =
            let p = passing (λ (right : HeldWait). goes_to k (child_for false right.variable info.moves)) r hold.waits h in
            inr (
              subst (λ z. child_for false z info.moves ≡ Some k) v (goes_there k (child_for false r.variable info.moves) p.1),
              record { right = r; found = finds_wait x r hold.waits names.wait_variables p.0 v; at = at; gives = gives },
            )

    pub sign_cases : (x c : ℕ) → has c (signs x kid) ≡ true → OwnSign x c ⊎ ((child_for true x info.moves ≡ Some k) × (has c (signs x hold) ≡ true))
    sign_cases x c h = on (signs_member kid x c h) where
      on : (r : HeldSignal) × (Member r kid.signals × ((r.variable ≡ x) × (r.cell ≡ c))) → OwnSign x c ⊎ ((child_for true x info.moves ≡ Some k) × (has c (signs x hold) ≡ true))
      on (r, (m, (v, at))) = side (member_either r (own_signals k own) (signals_into k info.moves hold.signals) m) where
        side : Member r (own_signals k own) ⊎ Member r (signals_into k info.moves hold.signals) → OwnSign x c ⊎ ((child_for true x info.moves ≡ Some k) × (has c (signs x hold) ≡ true))
        side (inl h) =
            let q = own_signal_of r h in
            inl (record { one = q.0; there = q.1.0; producer = q.1.1.0; variable = ap (λ (z : HeldSignal). z.variable) (sym q.1.1.1) ∙ v; cell = ap (λ (z : HeldSignal). z.cell) (sym q.1.1.1) ∙ at })
        side (inr h) =
            let p = passing (λ (right : HeldSignal). goes_to k (child_for true right.variable info.moves)) r hold.signals h in
            inr (subst (λ z. child_for true z info.moves ≡ Some k) v (goes_there k (child_for true r.variable info.moves) p.1), member_signs hold x c r p.0 v at)

    pub own_sign : (one : NamedCell) → Member one own → one.producer ≡ k → has one.cell (signs one.variable kid) ≡ true
    own_sign one m e = member_signs kid one.variable one.cell (signal_of one) (member_left (signal_of one) (own_signals k own) (signals_into k info.moves hold.signals) (is_own_signal one m e)) refl refl

    pub moved_sign : (x c : ℕ) → child_for true x info.moves ≡ Some k → has c (signs x hold) ≡ true → has c (signs x kid) ≡ true
    moved_sign x c e h =
        let r = signs_member hold x c h in
        member_signs kid x c r.0
        (member_right r.0 (own_signals k own) (signals_into k info.moves hold.signals) (passes (λ (right : HeldSignal). goes_to k (child_for true right.variable info.moves)) r.0 hold.signals r.1.0
        (there_goes k (child_for true r.0.variable info.moves) (subst (λ z. child_for true z info.moves ≡ Some k) (sym r.1.1.0) e))))
        r.1.1.0 r.1.1.1

    -- Where what is bound before is not bound by conjuncts.
    module _ (distinct : AreDistinct (all_outputs goals)) (names : Names hold) (apart : (x c : ℕ) (o : Option Value) → Owed hold x c o → has x (all_outputs goals) ≡ true → ⊥) where
      abbrev own_variables : List ℕ
      own_variables = map (λ (one : NamedCell). one.variable) (filter (λ (one : NamedCell). one.consumer == k) own)

      own_waited : own_variables ≡ waited_by k cells
      own_waited = same_variables (λ v p c. c == k) hold.next cells

      pub variables_distinct : AreDistinct (map (λ (right : HeldWait). right.variable) kid.waits)
      variables_distinct = subst AreDistinct (sym (map_both (λ (right : HeldWait). right.variable) (own_waits k given own) (waits_into k info.moves hold.waits)))
          (distinct_both (map (λ (right : HeldWait). right.variable) (own_waits k given own)) (map (λ (right : HeldWait). right.variable) (waits_into k info.moves hold.waits))
          (subst AreDistinct (sym (own_wait_variables k given own ∙ own_waited)) (waited_distinct 1 k outputs goals distinct))
          (distinct_passing (λ (right : HeldWait). right.variable) (λ (right : HeldWait). goes_to k (child_for false right.variable info.moves)) hold.waits names.wait_variables)
          (λ x h i.
          let r = numbered (λ (right : HeldWait). right.variable) x (waits_into k info.moves hold.waits) i in
          let m = (passing (λ (right : HeldWait). goes_to k (child_for false right.variable info.moves)) r.0 hold.waits r.1.0).0 in
          apart x r.0.cell r.0.value (subst (λ z. Owed hold z r.0.cell r.0.value) r.1.1 (member_owed hold r.0 names.wait_variables m))
          (waited_bound 1 k outputs goals x (subst (λ l. has x l ≡ true) (own_wait_variables k given own ∙ own_waited) h))))

      pub own_owed : (one : NamedCell) → Member one own → one.consumer ≡ k → Owed kid one.variable one.cell (value_given (gift_at one.cell given))
      own_owed one m e = member_owed kid (wait_of one) variables_distinct (member_left (wait_of one) (own_waits k given own) (waits_into k info.moves hold.waits) (is_own_wait one m e))

      pub moved_owed : (x c : ℕ) (o : Option Value) → child_for false x info.moves ≡ Some k → Owed hold x c o → Owed kid x c o
      moved_owed x c o e h =
          let r = owed_member hold x c o h in
          let m = member_right r.0 (own_waits k given own) (waits_into k info.moves hold.waits) (passes (λ (right : HeldWait). goes_to k (child_for false right.variable info.moves)) r.0 hold.waits r.1.0
          (there_goes k (child_for false r.0.variable info.moves) (subst (λ z. child_for false z info.moves ≡ Some k) (sym r.1.1.0) e))) in
          record { right = r.0; found = finds_wait x r.0 kid.waits variables_distinct m r.1.1.0; at = r.1.1.1.0; gives = r.1.1.1.1 }

      into_signal : (c : ℕ) → has c (map (λ (right : HeldSignal). right.cell) (signals_into k info.moves hold.signals)) ≡ true → (r : HeldSignal) × (Member r hold.signals × (r.cell ≡ c))
      into_signal c h =
          let r = numbered (λ (right : HeldSignal). right.cell) c (signals_into k info.moves hold.signals) h in
          (r.0, ((passing (λ (right : HeldSignal). goes_to k (child_for true right.variable info.moves)) r.0 hold.signals r.1.0).0, r.1.1))

      into_wait : (c : ℕ) → has c (map (λ (right : HeldWait). right.cell) (waits_into k info.moves hold.waits)) ≡ true → (r : HeldWait) × (Member r hold.waits × (r.cell ≡ c))
      into_wait c h =
          let r = numbered (λ (right : HeldWait). right.cell) c (waits_into k info.moves hold.waits) h in
          (r.0, ((passing (λ (right : HeldWait). goes_to k (child_for false right.variable info.moves)) r.0 hold.waits r.1.0).0, r.1.1))

      made_own : (c : ℕ) → has c (makes k own) ≡ true → (one : NamedCell) × (Member one own × ((one.producer ≡ k) × (one.cell ≡ c)))
      made_own c h =
          let r = numbered (λ (z : NamedCell). z.cell) c (filter (λ (z : NamedCell). nat_eq z.producer k) own) h in
          let p = passing (λ (z : NamedCell). nat_eq z.producer k) r.0 own r.1.0 in
          (r.0, (p.0, (same_number r.0.producer k p.1, r.1.1)))

      used_own : (c : ℕ) → has c (uses k own) ≡ true → (one : NamedCell) × (Member one own × ((one.consumer ≡ k) × (one.cell ≡ c)))
      used_own c h =
          let r = numbered (λ (z : NamedCell). z.cell) c (filter (λ (z : NamedCell). nat_eq z.consumer k) own) h in
          let p = passing (λ (z : NamedCell). nat_eq z.consumer k) r.0 own r.1.0 in
          (r.0, (p.0, (same_number r.0.consumer k p.1, r.1.1)))

      -- its cells are those of both lists
      abbrev Either : List ℕ → List ℕ → ℕ → Type 0
      Either xs ys c = (has c xs ≡ true) ⊎ (has c ys ≡ true)

      pub signal_sides : (c : ℕ) → has c (signal_cells kid) ≡ true → Either (makes k own) (map (λ (right : HeldSignal). right.cell) (signals_into k info.moves hold.signals)) c
      signal_sides c h = in_either c (makes k own) (map (λ (right : HeldSignal). right.cell) (signals_into k info.moves hold.signals))
          (subst (λ l. has c l ≡ true) (map_both (λ (right : HeldSignal). right.cell) (own_signals k own) (signals_into k info.moves hold.signals)
          ∙ ap (λ l. l ++ map (λ (right : HeldSignal). right.cell) (signals_into k info.moves hold.signals)) (own_signal_cells k own)) h)

      pub wait_sides : (c : ℕ) → has c (wait_cells kid) ≡ true → Either (uses k own) (map (λ (right : HeldWait). right.cell) (waits_into k info.moves hold.waits)) c
      wait_sides c h = in_either c (uses k own) (map (λ (right : HeldWait). right.cell) (waits_into k info.moves hold.waits))
          (subst (λ l. has c l ≡ true) (map_both (λ (right : HeldWait). right.cell) (own_waits k given own) (waits_into k info.moves hold.waits)
          ∙ ap (λ l. l ++ map (λ (right : HeldWait). right.cell) (waits_into k info.moves hold.waits)) (own_wait_cells k given own)) h)

      low_of : (c : ℕ) → Either (makes k own) (map (λ (right : HeldSignal). right.cell) (signals_into k info.moves hold.signals)) c → c < hold.next + length cells
      low_of c (inl h) = let q = made_own c h in let l = own_high q.0 q.1.0 in let e = q.1.1.1 in omega (arith, l, e)
      low_of c (inr h) = let q = into_signal c h in let l = low_signals hold names q.0 q.1.0 in let e = q.1.1 in omega (arith, l, e)

      low_wait_of : (c : ℕ) → Either (uses k own) (map (λ (right : HeldWait). right.cell) (waits_into k info.moves hold.waits)) c → c < hold.next + length cells
      low_wait_of c (inl h) = let q = used_own c h in let l = own_high q.0 q.1.0 in let e = q.1.1.1 in omega (arith, l, e)
      low_wait_of c (inr h) = let q = into_wait c h in let l = low_waits hold names q.0 q.1.0 in let e = q.1.1 in omega (arith, l, e)

      -- an own cell is made to its left
      not_itself : (one : NamedCell) → Member one own → 1 ≤ k → one.producer ≡ k → one.consumer ≡ k → ⊥
      not_itself one m l p c = let q = fact_of one m in on q.0 q.1.0 q.1.1.1.0 q.1.1.1.1 where
        on : (z : CellInfo) → Fact 1 outputs goals z → one.producer ≡ z.producer → one.consumer ≡ z.consumer → ⊥
        on z f e g = side f.user where
          side : ((z.consumer ≡ 0) × (among outputs z.variable ≡ true)) ⊎ ((z.producer < z.consumer) × ((m : Node) × ((nth 1 z.consumer goals ≡ Some m) × (in_node m z.variable ≡ true)))) → ⊥
          side (inl h) = let a = h.0 in absurd (omega (arith, a, g, c, l))
          side (inr h) = let a = h.0 in absurd (omega (arith, a, e, g, p, c))

      kinds_of : 1 ≤ k → (c : ℕ) → Either (makes k own) (map (λ (right : HeldSignal). right.cell) (signals_into k info.moves hold.signals)) c
          → Either (uses k own) (map (λ (right : HeldWait). right.cell) (waits_into k info.moves hold.waits)) c → ⊥
      kinds_of l c (inl h) (inl i) =
          let p = made_own c h in
          let q = used_own c i in
          not_itself p.0 p.1.0 l p.1.1.0 (ap (λ (z : NamedCell). z.consumer) (same_own p.0 q.0 p.1.0 q.1.0 (p.1.1.1 ∙ sym q.1.1.1)) ∙ q.1.1.0)
      kinds_of l c (inl h) (inr i) =
          let p = made_own c h in
          let q = into_wait c i in
          let a = own_low p.0 p.1.0 in let d = low_waits hold names q.0 q.1.0 in let e = p.1.1.1 in let f = q.1.1 in absurd (omega (arith, a, d, e, f))
      kinds_of l c (inr h) (inl i) =
          let p = into_signal c h in
          let q = used_own c i in
          let a = own_low q.0 q.1.0 in let d = low_signals hold names p.0 p.1.0 in let e = p.1.1 in let f = q.1.1.1 in absurd (omega (arith, a, d, e, f))
      kinds_of l c (inr h) (inr i) =
          let p = into_signal c h in
          let q = into_wait c i in
          names.kinds p.0.variable q.0.variable c q.0.value (member_signs hold p.0.variable c p.0 p.1.0 refl p.1.1)
          (subst (λ z. Owed hold q.0.variable z q.0.value) q.1.1 (member_owed hold q.0 names.wait_variables q.1.0))

      pub kid_listed : 1 ≤ k → ((x c : ℕ) (o : Option Value) (v : Value) → Owed kid x c o → Here kid x v → ⊥) → Listed kid
      kid_listed l valueless = record {
        cells = subst AreDistinct (sym (map_both (λ (right : HeldSignal). right.cell) (own_signals k own) (signals_into k info.moves hold.signals)
            ∙ ap (λ l. l ++ map (λ (right : HeldSignal). right.cell) (signals_into k info.moves hold.signals)) (own_signal_cells k own)))
            (distinct_both (makes k own) (map (λ (right : HeldSignal). right.cell) (signals_into k info.moves hold.signals))
            (distinct_passing (λ (z : NamedCell). z.cell) (λ (z : NamedCell). nat_eq z.producer k) own (names_distinct hold.next cells))
            (distinct_passing (λ (right : HeldSignal). right.cell) (λ (right : HeldSignal). goes_to k (child_for true right.variable info.moves)) hold.signals names.cells)
            (λ c h i. let p = made_own c h in let q = into_signal c i in
            let a = own_low p.0 p.1.0 in let d = low_signals hold names q.0 q.1.0 in let e = p.1.1.1 in let f = q.1.1 in absurd (omega (arith, a, d, e, f))));
        waits = subst AreDistinct (sym (map_both (λ (right : HeldWait). right.cell) (own_waits k given own) (waits_into k info.moves hold.waits)
            ∙ ap (λ l. l ++ map (λ (right : HeldWait). right.cell) (waits_into k info.moves hold.waits)) (own_wait_cells k given own)))
            (distinct_both (uses k own) (map (λ (right : HeldWait). right.cell) (waits_into k info.moves hold.waits))
            (distinct_passing (λ (z : NamedCell). z.cell) (λ (z : NamedCell). nat_eq z.consumer k) own (names_distinct hold.next cells))
            (distinct_passing (λ (right : HeldWait). right.cell) (λ (right : HeldWait). goes_to k (child_for false right.variable info.moves)) hold.waits names.wait_cells)
            (λ c h i. let p = used_own c h in let q = into_wait c i in
            let a = own_low p.0 p.1.0 in let d = low_waits hold names q.0 q.1.0 in let e = p.1.1.1 in let f = q.1.1 in absurd (omega (arith, a, d, e, f))));
        variables = variables_distinct;
        kinds = λ c h i. kinds_of l c (signal_sides c h) (wait_sides c i);
        low = λ c h. low_of c (signal_sides c h);
        low_waits = λ c h. low_wait_of c (wait_sides c h);
        valueless = valueless;
      }

    -- what is here of it
    at_case : (x : ℕ) (v : Value) (b : Bool) → (if b then value_at hold.env x else None) ≡ Some v → (b ≡ true) × Here hold x v
    at_case x v true h = (refl, h)
    at_case x v false h = absurd (cc)

    pub kid_here : (x : ℕ) (v : Value) → Here kid x v → (in_node goal x ≡ true) × Here hold x v
    kid_here x v h = at_case x v (in_node goal x) (sym (beginning goal hold.env x) ∙ h)

    pub here_kid : (x : ℕ) (v : Value) → in_node goal x ≡ true → Here hold x v → Here kid x v
    here_kid x v i h = beginning goal hold.env x ∙ ap (λ (b : Bool). if b then value_at hold.env x else None) i ∙ h
