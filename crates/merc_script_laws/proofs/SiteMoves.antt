-- Which rights move into which conjuncts, and that outputs of good goals are told apart.
use Rattle.std.proofs.Common.{◌≡◌, ◌⊎◌, inl, inr, ℕ, suc, Bool, true, false, ◌==◌, if◌then◌else◌, nat_eq, List, [], ◌∷◌, ◌++◌, length, map, filter, Option, Some, None, refl, ap, sym, subst, ◌∙◌}
use Rattle.merc_tree.specs.declared.declarations.ModeDecl.{ModeDecl}
use Rattle.merc_graded_tree.specs.Nodes.{Node, node, Nodes, no_nodes, more_nodes, outputs_of}
use Rattle.merc_graded_tree.specs.Variables.{among, in_node, in_nodes}
use Rattle.merc_order.specs.Bound.{Bound, with}
use Rattle.merc_order_laws.specs.Bindings.{Variables, AreFree}
use Rattle.merc_order_laws.specs.GoodTree.{GoodNode, GoodNodes}
use Rattle.merc_core.specs.Rights.{has}
use Rattle.merc_core.specs.WellFormed.{AreDistinct}
use Rattle.merc_rights.specs.declared.sites.Moved.{Moved}
use Rattle.merc_rights.specs.Rights.{Right, users}
use Rattle.merc_par_split.specs.Sites.{are_for, signal_moves, wait_moves, site_info}
use Rattle.merc_plan.specs.Hold.{child_for}
use Rattle.merc_plan.proofs.Sets.{clash, tell, absent, same_number, front_or, in_either, or_left, or_right}
use Rattle.merc_script_laws.specs.Parallel.{all_outputs}
use Rattle.merc_script_laws.proofs.RightLists.{right_cases, right_first, right_rest}
use Rattle.merc_script_laws.proofs.Members.{Member, member_left, member_right, member_either, passing, passes, made_from, is_made, joined_from, is_joined, has_member, member_has, distinct_both}
use Rattle.merc_script_laws.proofs.Cells.{signal_move, wait_move, signal_goes, wait_goes}
use Rattle.merc_script_laws.proofs.Sites.{among_has, has_among, nth, same_some, later_nth, first_nth, one_binder, user_of, is_user, one_user}

-- rights for a variable are among rights
pub right_of : (w : List Right) (x : ℕ) → are_for w x ≡ true → (r : Right) × (Member r w × (r.variable ≡ x))
right_of [] x h = absurd (cc)
right_of (r ∷ w) x h = on (right_cases r w x h) (λ k. right_of w x k) where
  on : (r.variable ≡ x) ⊎ (are_for w x ≡ true) → (are_for w x ≡ true → (q : Right) × (Member q w × (q.variable ≡ x))) → (q : Right) × (Member q (r ∷ w) × (q.variable ≡ x))
  on (inl e) rec = (r, (inl refl, e))
  on (inr k) rec = let q = rec k in (q.0, (inr q.1.0, q.1.1))

pub is_right : (w : List Right) (x : ℕ) (r : Right) → Member r w → r.variable ≡ x → are_for w x ≡ true
is_right [] x r h e = absurd h
is_right (q ∷ w) x r (inl p) e = subst (λ z. are_for (q ∷ w) z ≡ true) (ap (λ (z : Right). z.variable) (sym p) ∙ e) (right_first q w)
is_right (q ∷ w) x r (inr h) e = right_rest q w x (is_right w x r h e)

-- Moves of rights to signal.

abbrev pub move_to : Bool → ℕ → ℕ → Moved
move_to signal x child = record { variable = x; child = child; signal = signal }

pub record SignalMove (held : ℕ → Bool) (at : ℕ) (ns : Nodes) (m : Moved) : Type 0 where
  pub kind : m.signal ≡ true
  pub allowed : held m.variable ≡ true
  pub maker : Node
  pub is_maker : nth at m.child ns ≡ Some maker
  pub binds : among (outputs_of maker) m.variable ≡ true

pub signal_move_of : (held : ℕ → Bool) (at : ℕ) (ns : Nodes) (m : Moved) → Member m (signal_moves held at ns) → SignalMove held at ns m
signal_move_of held at no_nodes m h = absurd h
signal_move_of held at (more_nodes n ns) m h =
    on (member_either m (map (λ x. move_to true x at) (filter held (outputs_of n))) (signal_moves held (suc at) ns) h) (λ k. signal_move_of held (suc at) ns m k) where
      on : Member m (map (λ x. move_to true x at) (filter held (outputs_of n))) ⊎ Member m (signal_moves held (suc at) ns) → (Member m (signal_moves held (suc at) ns) → SignalMove held (suc at) ns m) → SignalMove held at (more_nodes n ns) m
      on (inl k) rec =
          let r = made_from (λ x. move_to true x at) m (filter held (outputs_of n)) k in
          let p = passing held r.0 (outputs_of n) r.1.0 in
          subst (λ z. SignalMove held at (more_nodes n ns) z) (sym r.1.1)
          (record { kind = refl; allowed = p.1; maker = n; is_maker = first_nth at n ns; binds = has_among r.0 (outputs_of n) (member_has r.0 (outputs_of n) p.0) })
      on (inr k) rec = let r = rec k in record { kind = r.kind; allowed = r.allowed; maker = r.maker; is_maker = later_nth at m.child n r.maker ns r.is_maker; binds = r.binds }

there_case : (b : Bool) (held : ℕ → Bool) (at j x : ℕ) (n m : Node) (ns : Nodes) → nat_eq j at ≡ b → (if b then Some n else nth (suc at) j ns) ≡ Some m → among (outputs_of m) x ≡ true → held x ≡ true
    → (nth (suc at) j ns ≡ Some m → Member (move_to true x j) (signal_moves held (suc at) ns)) → Member (move_to true x j) (signal_moves held at (more_nodes n ns))
there_case true held at j x n m ns e p o h rec =
    let own : List Moved = map (λ y. move_to true y at) (filter held (outputs_of n)) in
    subst (λ z. Member (move_to true x z) (own ++ signal_moves held (suc at) ns)) (sym (same_number j at e))
    (member_left (move_to true x at) own (signal_moves held (suc at) ns)
    (is_made (λ y. move_to true y at) x (filter held (outputs_of n)) (passes held x (outputs_of n) (has_member x (outputs_of n) (among_has x (outputs_of n) (subst (λ z. among (outputs_of z) x ≡ true) (sym (same_some n m p)) o))) h)))
there_case false held at j x n m ns e p o h rec = member_right (move_to true x j) (map (λ y. move_to true y at) (filter held (outputs_of n))) (signal_moves held (suc at) ns) (rec p)

pub signal_moves_there : (held : ℕ → Bool) (at j x : ℕ) (m : Node) (ns : Nodes) → nth at j ns ≡ Some m → among (outputs_of m) x ≡ true → held x ≡ true → Member (move_to true x j) (signal_moves held at ns)
signal_moves_there held at j x m no_nodes p o h = absurd (cc)
signal_moves_there held at j x m (more_nodes n ns) p o h = there_case (nat_eq j at) held at j x n m ns refl p o h (λ q. signal_moves_there held (suc at) j x m ns q o h)

-- Moves of rights to wait.

pub wait_move_of : (w : List Right) (ns : Nodes) (m : Moved) → Member m (wait_moves w ns) → (m.signal ≡ false) × ((are_for w m.variable ≡ true) × Member m.child (users 1 ns m.variable))
wait_move_of w ns m h =
    let r = joined_from (λ (right : Right). map (λ conjunct. move_to false right.variable conjunct) (users 1 ns right.variable)) m w h in
    let q = made_from (λ conjunct. move_to false r.0.variable conjunct) m (users 1 ns r.0.variable) r.1.1 in (
      ap (λ (z : Moved). z.signal) q.1.1,
      (
        is_right w m.variable r.0 r.1.0 (ap (λ (z : Moved). z.variable) (sym q.1.1)),
        subst (λ (z : Moved). Member z.child (users 1 ns z.variable)) (sym q.1.1) q.1.0,
      ),
    )

pub wait_moves_there : (w : List Right) (ns : Nodes) (x k : ℕ) → are_for w x ≡ true → Member k (users 1 ns x) → Member (move_to false x k) (wait_moves w ns)
wait_moves_there w ns x k h u =
    let r = right_of w x h in
    subst (λ z. Member (move_to false z k) (wait_moves w ns)) r.1.1
    (is_joined (λ (right : Right). map (λ conjunct. move_to false right.variable conjunct) (users 1 ns right.variable)) (move_to false r.0.variable k) r.0 w r.1.0
    (is_made (λ conjunct. move_to false r.0.variable conjunct) k (users 1 ns r.0.variable) (subst (λ z. Member k (users 1 ns z)) (sym r.1.1) u)))

-- The conjunct into which rights for a variable move.
module _ (outputs : List ℕ) (w s : List Right) (goals : Nodes) where
  abbrev all_moves : List Moved
  all_moves = (site_info outputs w s goals).moves

  pub signal_child : (x k : ℕ) → child_for true x all_moves ≡ Some k → (are_for s x ≡ true) × ((n : Node) × ((nth 1 k goals ≡ Some n) × (among (outputs_of n) x ≡ true)))
  signal_child x k h =
      let r = signal_move x k all_moves h in
      on r.move r.variable r.child r.kind (member_either r.move (signal_moves (are_for s) 1 goals) (wait_moves w goals) r.there) where
        on : (m : Moved) → m.variable ≡ x → m.child ≡ k → m.signal ≡ true → Member m (signal_moves (are_for s) 1 goals) ⊎ Member m (wait_moves w goals)
            → (are_for s x ≡ true) × ((n : Node) × ((nth 1 k goals ≡ Some n) × (among (outputs_of n) x ≡ true)))
        on m e c t (inl i) =
            let f = signal_move_of (are_for s) 1 goals m i in
            (subst (λ z. are_for s z ≡ true) e f.allowed, (f.maker, (subst (λ z. nth 1 z goals ≡ Some f.maker) c f.is_maker, subst (λ z. among (outputs_of f.maker) z ≡ true) e f.binds)))
        on m e c t (inr i) = clash m.signal t (wait_move_of w goals m i).0

  pub wait_child : (x k : ℕ) → child_for false x all_moves ≡ Some k → (are_for w x ≡ true) × ((n : Node) × ((nth 1 k goals ≡ Some n) × (in_node n x ≡ true)))
  wait_child x k h =
      let r = wait_move x k all_moves h in
      on r.move r.variable r.child r.kind (member_either r.move (signal_moves (are_for s) 1 goals) (wait_moves w goals) r.there) where
        on : (m : Moved) → m.variable ≡ x → m.child ≡ k → m.signal ≡ false → Member m (signal_moves (are_for s) 1 goals) ⊎ Member m (wait_moves w goals)
            → (are_for w x ≡ true) × ((n : Node) × ((nth 1 k goals ≡ Some n) × (in_node n x ≡ true)))
        on m e c t (inl i) = clash m.signal (signal_move_of (are_for s) 1 goals m i).kind t
        on m e c t (inr i) =
            let f = wait_move_of w goals m i in (
              subst (λ z. are_for w z ≡ true) e f.1.0,
              subst (λ z. (n : Node) × ((nth 1 k goals ≡ Some n) × (in_node n z ≡ true))) e
                  (subst (λ z. (n : Node) × ((nth 1 z goals ≡ Some n) × (in_node n m.variable ≡ true))) c (user_of 1 m.child m.variable goals f.1.1)),
            )

  pub child_signal : AreDistinct (all_outputs goals) → (x k : ℕ) (n : Node) → nth 1 k goals ≡ Some n → among (outputs_of n) x ≡ true → are_for s x ≡ true → child_for true x all_moves ≡ Some k
  child_signal d x k n p o h =
      let m = member_left (move_to true x k) (signal_moves (are_for s) 1 goals) (wait_moves w goals) (signal_moves_there (are_for s) 1 k x n goals p o h) in
      let c = signal_goes x (move_to true x k) all_moves m refl refl in
      let f = signal_child x c.0 c.1 in
      c.1 ∙ ap (λ z. Some z) (one_binder 1 c.0 k x f.1.0 n goals d f.1.1.0 f.1.1.1 p o)

  pub child_wait : (x k : ℕ) (n : Node) → (length (users 1 goals x) == 1) ≡ true → nth 1 k goals ≡ Some n → in_node n x ≡ true → are_for w x ≡ true → child_for false x all_moves ≡ Some k
  child_wait x k n one p u h =
      let i = is_user 1 k x n goals p u in
      let m = member_right (move_to false x k) (signal_moves (are_for s) 1 goals) (wait_moves w goals) (wait_moves_there w goals x k h i) in
      let c = wait_goes x (move_to false x k) all_moves m refl refl in
      let f = wait_child x c.0 c.1 in
      c.1 ∙ ap (λ z. Some z) (one_user c.0 k (users 1 goals x) one (is_user 1 c.0 x f.1.0 goals f.1.1.0 f.1.1.1) i)

  no_child : (o : Option ℕ) → ((k : ℕ) → o ≡ Some k → ⊥) → o ≡ None
  no_child None h = refl
  no_child (Some k) h = absurd (h k refl)

  pub no_signal : (x : ℕ) → are_for s x ≡ false → child_for true x all_moves ≡ None
  no_signal x h = no_child (child_for true x all_moves) (λ k e. clash (are_for s x) (signal_child x k e).0 h)

  pub no_wait_moves : (x : ℕ) → are_for w x ≡ false → child_for false x all_moves ≡ None
  no_wait_moves x h = no_child (child_for false x all_moves) (λ k e. clash (are_for w x) (wait_child x k e).0 h)

-- Outputs of good goals.

pub free_distinct : (b : Bound) (xs : List ℕ) → AreFree b xs → AreDistinct xs
free_distinct b [] f = tt
free_distinct b (x ∷ xs) f = (absent x xs (λ h. clash (among xs x) (has_among x xs h) f.1), free_distinct b xs f.2)

pub is_free : (b : Bound) (x : ℕ) (xs : List ℕ) → AreFree b xs → has x xs ≡ true → b x ≡ false
is_free b x [] f h = absurd (cc)
is_free b x (y ∷ xs) f h = on (front_or x y xs h) (λ k. is_free b x xs f.2 k) where
  on : (x ≡ y) ⊎ (has x xs ≡ true) → (has x xs ≡ true → b x ≡ false) → b x ≡ false
  on (inl e) rec = ap b e ∙ f.0
  on (inr k) rec = rec k

module _ (modes : ℕ → List ModeDecl) where
  pub good_free : (out : Variables) (b : Bound) (n : Node) → GoodNode modes out b n → AreFree b (outputs_of n)
  good_free out b (node goal outputs category span) g = g.1

  pub good_occurs : (out : Variables) (b : Bound) (n : Node) → GoodNode modes out b n → (x : ℕ) → among (outputs_of n) x ≡ true → in_node n x ≡ true
  good_occurs out b (node goal outputs category span) g = g.0

  not_more : (b : Bound) (xs : List ℕ) (x : ℕ) → with b (among xs) x ≡ false → b x ≡ false
  not_more b xs x h = on (tell (b x)) where
    on : (b x ≡ true) ⊎ (b x ≡ false) → b x ≡ false
    on (inl e) = clash (with b (among xs) x) (or_left (b x) (among xs x) e) h
    on (inr e) = e

  pub outputs_free : (out : Variables) (b : Bound) (ns : Nodes) → GoodNodes modes out b ns → (x : ℕ) → has x (all_outputs ns) ≡ true → b x ≡ false
  outputs_free out b no_nodes g x h = absurd (cc)
  outputs_free out b (more_nodes n ns) g x h =
      on (in_either x (outputs_of n) (all_outputs ns) h) (λ k. outputs_free (with out (in_node n)) (with b (among (outputs_of n))) ns g.1 x k) where
        on : (has x (outputs_of n) ≡ true) ⊎ (has x (all_outputs ns) ≡ true) → (has x (all_outputs ns) ≡ true → with b (among (outputs_of n)) x ≡ false) → b x ≡ false
        on (inl k) rec = is_free b x (outputs_of n) (good_free (with out (in_nodes ns)) b n g.0) k
        on (inr k) rec = not_more b (outputs_of n) x (rec k)

  pub outputs_distinct : (out : Variables) (b : Bound) (ns : Nodes) → GoodNodes modes out b ns → AreDistinct (all_outputs ns)
  outputs_distinct out b no_nodes g = tt
  outputs_distinct out b (more_nodes n ns) g =
      let f = good_free (with out (in_nodes ns)) b n g.0 in
      distinct_both (outputs_of n) (all_outputs ns) (free_distinct b (outputs_of n) f) (outputs_distinct (with out (in_node n)) (with b (among (outputs_of n))) ns g.1)
      (λ c h i. clash (with b (among (outputs_of n)) c) (or_right (b c) (among (outputs_of n) c) (has_among c (outputs_of n) h))
      (outputs_free (with out (in_node n)) (with b (among (outputs_of n))) ns g.1 c i))
