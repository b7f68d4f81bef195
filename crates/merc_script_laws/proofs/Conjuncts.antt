-- The conjuncts of a parallel conjunction, one by one: what they have, wait for and signal.
use Rattle.std.proofs.Common.{◌≡◌, ◌⊎◌, inl, inr, ℕ, suc, ◌+◌, ◌≤◌, ◌<◌, true, false, ◌==◌, ◌||◌, nat_eq, List, [], ◌∷◌, ◌++◌, length, map, Option, Some, refl, ap, sym, subst, ◌∙◌, arith}
use Rattle.std.proofs.lemmas.Bool.Decides.{nat_tests}
use Rattle.merc_value.specs.Value.{Value}
use Rattle.merc_graded_tree.specs.Nodes.{Node, Nodes, more_nodes, outputs_of}
use Rattle.merc_graded_tree.specs.Variables.{among, in_node, in_nodes}
use Rattle.merc_order.specs.Bound.{Bound, with}
use Rattle.merc_meaning.specs.Trace.{Env}
use Rattle.merc_meaning.specs.Steps.{value_at}
use Rattle.merc_core.specs.Rights.{has}
use Rattle.merc_core.specs.WellFormed.{AreDistinct}
use Rattle.merc_rights.specs.declared.sites.CellInfo.{CellInfo}
use Rattle.merc_rights.specs.Rights.{Right, right_to, used_in, users}
use Rattle.merc_par_split.specs.Sites.{count, are_for, consumers, cells_of}
use Rattle.merc_plan.specs.Branch.{HeldSignal, Hold, NamedCell, Fork, Gift, gift_at, value_given}
use Rattle.merc_plan.specs.Hold.{child_for, fork_of}
use Rattle.merc_plan.proofs.Judging.{signals_to, waits_to}
use Rattle.merc_plan.proofs.Sets.{clash, tell, same_number, or_left, or_right, or_either, in_left, in_right, in_either}
use Rattle.merc_script_laws.specs.Parallel.{all_outputs}
use Rattle.merc_script_laws.proofs.Bonds.{Set, Here, Owed, signs, rights_for, Within, Fit, Match, Names, Kept, Ready, Rightful}
use Rattle.merc_script_laws.proofs.RightLists.{variables_of, unlisted, those_in, in_those, those_once, none_for}
use Rattle.merc_script_laws.proofs.Holding.{none_in}
use Rattle.merc_script_laws.proofs.Members.{Member, member_left, member_right, member_either, made_from, is_made, numbered, has_member, member_has, distinct_both, distinct_left, distinct_right, map_both}
use Rattle.merc_script_laws.proofs.Cells.{name_of, rights_signal, rights_wait}
use Rattle.merc_script_laws.proofs.Sites.{among_has, has_among, nth, bound_by, same_some, nth_low, later_nth, first_nth, past_nth, nth_in, different, Fact, cell_for, used_cell}
use Rattle.merc_script_laws.proofs.SiteMoves.{right_of, is_right, signal_child, wait_child, child_signal, child_wait, no_signal}
use Rattle.merc_script_laws.proofs.Counts.{all_signals, signals_within, signals_counted, owned, owned_later, owned_here, signs_moved, signs_own}
use Rattle.merc_script_laws.proofs.Kids.{member_signs, signs_cell, owed_cell, Listed, names_listed, info, cells, own, fact_of, own_bound, kid, OwnWait, OwnSign, owed_cases, sign_cases, own_owed, moved_owed, kid_listed, kid_here, here_kid}

-- rights for these variables
abbrev pub rights_to : ℕ → List ℕ → List Right
rights_to k left = map (right_to k) left

pub left_right : (k : ℕ) (left : List ℕ) (w : List Right) (x : ℕ) → has x left ≡ true → are_for (rights_to k left ++ w) x ≡ true
left_right k left w x h = is_right (rights_to k left ++ w) x (right_to k x) (member_left (right_to k x) (rights_to k left) w (is_made (right_to k) x left (has_member x left h))) refl

pub more_right : (k : ℕ) (left : List ℕ) (w : List Right) (x : ℕ) → are_for w x ≡ true → are_for (rights_to k left ++ w) x ≡ true
more_right k left w x h = let r = right_of w x h in is_right (rights_to k left ++ w) x r.0 (member_right r.0 (rights_to k left) w r.1.0) r.1.1

pub right_sides : (k : ℕ) (left : List ℕ) (w : List Right) (x : ℕ) → are_for (rights_to k left ++ w) x ≡ true → (has x left ≡ true) ⊎ (are_for w x ≡ true)
right_sides k left w x h = let r = right_of (rights_to k left ++ w) x h in on r.0 r.1.1 (member_either r.0 (rights_to k left) w r.1.0) where
  on : (r : Right) → r.variable ≡ x → Member r (rights_to k left) ⊎ Member r w → (has x left ≡ true) ⊎ (are_for w x ≡ true)
  on r e (inl m) = let q = made_from (right_to k) r left m in inl (subst (λ z. has z left ≡ true) (ap (λ (z : Right). z.variable) (sym q.1.1) ∙ e) (member_has q.0 left q.1.0))
  on r e (inr m) = inr (is_right w x r m e)

same_numbers : (k : ℕ) (left : List ℕ) → variables_of (rights_to k left) ≡ left
same_numbers k [] = refl
same_numbers k (x ∷ left) = ap (λ l. x ∷ l) (same_numbers k left)

is_some_right : (x c : ℕ) (xs : List ℕ) (rights : List Right) → has c xs ≡ true → length (rights_for x rights) ≡ length xs → are_for rights x ≡ true
is_some_right x c xs rights h e = on (tell (are_for rights x)) where
  on : (are_for rights x ≡ true) ⊎ (are_for rights x ≡ false) → are_for rights x ≡ true
  on (inl i) = i
  on (inr i) = absurd (none_in c xs (sym e ∙ ap length (none_for x rights i)) h)

append_assoc : (xs ys zs : List ℕ) → (xs ++ ys) ++ zs ≡ xs ++ (ys ++ zs)
append_assoc [] ys zs = refl
append_assoc (x ∷ xs) ys zs = ap (λ l. x ∷ l) (append_assoc xs ys zs)

smaller : (j k : ℕ) → nat_eq j k ≡ false → j < suc k → j < k
smaller j k e l = grind (arith, nat_tests, e, l)

-- The conjuncts are these; w has one right for each variable, and moves in.
module _ (goals : Nodes) (outputs : List ℕ) (w s : List Right) (b : Bound) (here : Set) (hold : Hold) (distinct : AreDistinct (all_outputs goals)) (free : (x : ℕ) → has x (all_outputs goals) ≡ true → b x ≡ false)
    (fit : Fit b here w hold) (ready : Ready here w b (in_nodes goals)) (names : Names hold) (single : (x : ℕ) → are_for w x ≡ true → (length (users 1 goals x) == 1) ≡ true)
    (exact : (x : ℕ) (v : Value) → in_nodes goals x ≡ true → Here hold x v → b x ≡ true) where
  pub apart : (x c : ℕ) (o : Option Value) → Owed hold x c o → has x (all_outputs goals) ≡ true → ⊥
  apart x c o e h = clash (b x) (fit.known x c o e) (free x h)

  abbrev pub fork : Fork
  fork = fork_of (info goals outputs w s hold) goals hold

  -- the conjuncts from k on are ns; those before bind left
  pub record At (k : ℕ) (left : List ℕ) (bk : Bound) (ns : Nodes) : Type 0 where
    pub nths : (j : ℕ) (m : Node) → nth k j ns ≡ Some m → nth 1 j goals ≡ Some m
    pub backs : (j : ℕ) (m : Node) → k ≤ j → nth 1 j goals ≡ Some m → nth k j ns ≡ Some m
    pub grows : (x : ℕ) → b x ≡ true → bk x ≡ true
    pub lefts : (x : ℕ) → has x left ≡ true → bk x ≡ true
    pub either : (x : ℕ) → bk x ≡ true → (b x ≡ true) ⊎ (has x left ≡ true)
    pub made_left : (j : ℕ) (m : Node) (x : ℕ) → j < k → nth 1 j goals ≡ Some m → among (outputs_of m) x ≡ true → has x left ≡ true
    pub left_made : (x : ℕ) → has x left ≡ true → (j : ℕ) × ((m : Node) × ((j < k) × ((nth 1 j goals ≡ Some m) × (among (outputs_of m) x ≡ true))))
    pub left_bound : (x : ℕ) → has x left ≡ true → has x (all_outputs goals) ≡ true
    pub from_one : 1 ≤ k
    pub counted : k + count ns ≡ 1 + count goals
    pub split : AreDistinct (left ++ all_outputs ns)
    pub tails : (j x : ℕ) → k ≤ j → owned j x (cells_of 1 outputs goals) ≡ owned j x (cells_of k outputs ns)

  pub at_first : At 1 [] b goals
  at_first = record {
    nths = λ j m h. h;
    backs = λ j m l h. h;
    grows = λ x h. h;
    lefts = λ x h. absurd (cc);
    either = λ x h. inl h;
    made_left = λ j m x l p h. let q = nth_low 1 j m goals p in absurd (omega (arith, q, l));
    left_made = λ x h. absurd (cc);
    left_bound = λ x h. absurd (cc);
    from_one = omega (arith);
    counted = refl;
    split = distinct;
    tails = λ j x l. refl;
  }

  pub at_next : (k : ℕ) (left : List ℕ) (bk : Bound) (n : Node) (ns : Nodes) → At k left bk (more_nodes n ns) → At (suc k) (left ++ outputs_of n) (with bk (among (outputs_of n))) ns
  at_next k left bk n ns a = record {
    nths = λ j m h. a.nths j m (later_nth k j n m ns h);
    backs = back;
    grows = λ x h. or_left (bk x) (among (outputs_of n) x) (a.grows x h);
    lefts = λ x h. lefts x (in_either x left (outputs_of n) h);
    either = λ x h. either x (or_either (bk x) (among (outputs_of n) x) h);
    made_left = λ j m x l p h. made_left j m x p h (tell (nat_eq j k)) l;
    left_made = λ x h. left_made x (in_either x left (outputs_of n) h);
    left_bound = λ x h. left_bound x (in_either x left (outputs_of n) h);
    from_one = omega (arith);
    counted = let q = a.counted in omega (arith, q);
    split = subst AreDistinct (sym (append_assoc left (outputs_of n) (all_outputs ns))) a.split;
    tails = λ j x l. a.tails j x (omega (arith, l)) ∙ owned_later k j x outputs n ns l;
  } where
    this : nth 1 k goals ≡ Some n
    this = a.nths k n (first_nth k n ns)

    back : (j : ℕ) (m : Node) → suc k ≤ j → nth 1 j goals ≡ Some m → nth (suc k) j ns ≡ Some m
    back j m l h = sym (past_nth k j n ns (different j k (omega (arith, l)))) ∙ a.backs j m (omega (arith, l)) h

    lefts : (x : ℕ) → (has x left ≡ true) ⊎ (has x (outputs_of n) ≡ true) → (bk x || among (outputs_of n) x) ≡ true
    lefts x (inl h) = or_left (bk x) (among (outputs_of n) x) (a.lefts x h)
    lefts x (inr h) = or_right (bk x) (among (outputs_of n) x) (has_among x (outputs_of n) h)

    before : (x : ℕ) → (b x ≡ true) ⊎ (has x left ≡ true) → (b x ≡ true) ⊎ (has x (left ++ outputs_of n) ≡ true)
    before x (inl h) = inl h
    before x (inr h) = inr (in_left x left (outputs_of n) h)

    either : (x : ℕ) → (bk x ≡ true) ⊎ (among (outputs_of n) x ≡ true) → (b x ≡ true) ⊎ (has x (left ++ outputs_of n) ≡ true)
    either x (inl h) = before x (a.either x h)
    either x (inr h) = inr (in_right x left (outputs_of n) (among_has x (outputs_of n) h))

    made_left : (j : ℕ) (m : Node) (x : ℕ) → nth 1 j goals ≡ Some m → among (outputs_of m) x ≡ true → (nat_eq j k ≡ true) ⊎ (nat_eq j k ≡ false) → j < suc k → has x (left ++ outputs_of n) ≡ true
    made_left j m x p h (inl e) l =
        in_right x left (outputs_of n) (among_has x (outputs_of n) (subst (λ z. among (outputs_of z) x ≡ true) (same_some m n (sym p ∙ ap (λ z. nth 1 z goals) (same_number j k e) ∙ this)) h))
    made_left j m x p h (inr e) l = in_left x left (outputs_of n) (a.made_left j m x (smaller j k e l) p h)

    left_made : (x : ℕ) → (has x left ≡ true) ⊎ (has x (outputs_of n) ≡ true) → (j : ℕ) × ((m : Node) × ((j < suc k) × ((nth 1 j goals ≡ Some m) × (among (outputs_of m) x ≡ true))))
    left_made x (inl h) = let q = a.left_made x h in let l = q.1.1.0 in (q.0, (q.1.0, (omega (arith, l), q.1.1.1)))
    left_made x (inr h) = (k, (n, (omega (arith), (this, has_among x (outputs_of n) h))))

    left_bound : (x : ℕ) → (has x left ≡ true) ⊎ (has x (outputs_of n) ≡ true) → has x (all_outputs goals) ≡ true
    left_bound x (inl h) = a.left_bound x h
    left_bound x (inr h) = bound_by 1 k x n goals this (has_among x (outputs_of n) h)

  -- conjunct k, of the split tree, where the conjuncts to its left have given this
  module _ (k : ℕ) (left : List ℕ) (bk : Bound) (n : Node) (ns : Nodes) (a : At k left bk (more_nodes n ns)) (goal : Node) (same : (x : ℕ) → in_node goal x ≡ in_node n x) (given : List Gift) where
    abbrev pub wk : List Right
    wk = used_in n (rights_to k left ++ w)

    abbrev pub sk : List Right
    sk = all_signals (suc k) ns outputs s n

    abbrev pub here_k : Set
    here_k x = here x × (in_node n x ≡ true)

    abbrev pub hold_k : Hold
    hold_k = kid goals outputs w s hold k goal given

    pub this_one : nth 1 k goals ≡ Some n
    this_one = a.nths k n (first_nth k n ns)

    pub in_all : (x : ℕ) → in_node n x ≡ true → in_nodes goals x ≡ true
    in_all x h = nth_in 1 k x n goals this_one h

    abbrev pub Cases : ℕ → ℕ → Option Value → Type 0
    Cases x c o = OwnWait goals outputs w s hold k goal given x c o ⊎ ((child_for false x (info goals outputs w s hold).moves ≡ Some k) × Owed hold x c o)

    pub cases_k : (x c : ℕ) (o : Option Value) → Owed hold_k x c o → Cases x c o
    cases_k x c o e = owed_cases goals outputs w s hold k goal given names x c o e

    -- an own cell that it waits for is made to its left
    pub producer_left : (one : NamedCell) → Member one (own goals outputs w s hold) → one.consumer ≡ k → (one.producer < k) × (has one.variable left ≡ true)
    producer_left one m c = let q = fact_of goals outputs w s hold one m in on q.0 q.1.0 q.1.1.0 q.1.1.1.0 q.1.1.1.1 where
      on : (z : CellInfo) → Fact 1 outputs goals z → one.variable ≡ z.variable → one.producer ≡ z.producer → one.consumer ≡ z.consumer → (one.producer < k) × (has one.variable left ≡ true)
      on z f ev ep ec = side f.user where
        behind : one.producer < k → (one.producer < k) × (has one.variable left ≡ true)
        behind l = (l, subst (λ y. has y left ≡ true) (sym ev) (a.made_left z.producer f.maker z.variable (subst (λ y. y < k) ep l) f.is_maker f.binds))

        side : ((z.consumer ≡ 0) × (among outputs z.variable ≡ true)) ⊎ ((z.producer < z.consumer) × ((m : Node) × ((nth 1 z.consumer goals ≡ Some m) × (in_node m z.variable ≡ true)))) → (one.producer < k) × (has one.variable left ≡ true)
        side (inl h) = let i = h.0 in let o = a.from_one in absurd (omega (arith, i, c, ec, o))
        side (inr h) = let i = h.0 in behind (omega (arith, i, ep, ec, c))

    -- what is bound to its left and used in it is owed
    pub left_owed : (x : ℕ) → has x left ≡ true → in_node n x ≡ true → (c : ℕ) × ((o : Option Value) × Owed hold_k x c o)
    left_owed x h i =
        let q = a.left_made x h in
        let z = used_cell outputs 1 q.0 k x q.1.0 n goals q.1.1.1.0 q.1.1.1.1 this_one i q.1.1.0 in
        let o = name_of hold.next (cells goals outputs w s hold) (cell_for x q.0 k) z in (
          o.one.cell,
          (
            value_given (gift_at o.one.cell given),
            subst (λ y. Owed hold_k y o.one.cell (value_given (gift_at o.one.cell given))) o.variable
                (own_owed goals outputs w s hold k goal given distinct names apart o.one o.there o.consumer),
          ),
        )

    pub moves_here : (x : ℕ) → are_for w x ≡ true → in_node n x ≡ true → child_for false x (info goals outputs w s hold).moves ≡ Some k
    moves_here x h i = child_wait outputs w s goals x k n (single x h) this_one i h

    valueless : (x c : ℕ) (o : Option Value) (v : Value) → Owed hold_k x c o → Here hold_k x v → ⊥
    valueless x c o v e h = on (cases_k x c o e) (kid_here goals outputs w s hold k goal given x v h) where
      on : Cases x c o → (in_node goal x ≡ true) × Here hold x v → ⊥
      on (inl q) i = clash (b x) (exact x v (in_all x (sym (same x) ∙ i.0)) i.1) (free x (subst (λ z. has z (all_outputs goals) ≡ true) q.variable (own_bound goals outputs w s hold q.one q.there)))
      on (inr q) i = names.valueless x c o v q.1 i.1

    pub listed_k : Listed hold_k
    listed_k = kid_listed goals outputs w s hold k goal given distinct names apart a.from_one valueless

    pub names_k : Names hold_k
    names_k = names_listed hold_k listed_k

    pub known_k : (x c : ℕ) (o : Option Value) → Owed hold_k x c o → bk x ≡ true
    known_k x c o e = on (cases_k x c o e) where
      on : Cases x c o → bk x ≡ true
      on (inl q) = a.lefts x (subst (λ z. has z left ≡ true) q.variable (producer_left q.one q.there q.consumer).1)
      on (inr q) = a.grows x (fit.known x c o q.1)

    once_k : AreDistinct (variables_of wk)
    once_k = those_once (in_node n) (rights_to k left ++ w) (subst AreDistinct (sym (map_both (λ (right : Right). right.variable) (rights_to k left) w ∙ ap (λ l. l ++ variables_of w) (same_numbers k left)))
        (distinct_both left (variables_of w) (distinct_left left (all_outputs (more_nodes n ns)) a.split) fit.once (λ x h i.
        let e = fit.owed x (unlisted w x i) in apart x e.0 e.1.0 e.1.1 (a.left_bound x h))))

    pub fit_k : Fit bk here_k wk hold_k
    fit_k = record {
      held = λ x h. let v = fit.held x h.0 in (v.0, here_kid goals outputs w s hold k goal given x v.0 (same x ∙ h.1) v.1);
      below = λ x h. a.grows x (fit.below x h.0);
      owed = λ x h. let i = those_in (in_node n) (rights_to k left ++ w) x h in owed x i.1 (right_sides k left w x i.0);
      known = known_k;
      once = once_k;
    } where
      owed : (x : ℕ) → in_node n x ≡ true → (has x left ≡ true) ⊎ (are_for w x ≡ true) → (c : ℕ) × ((o : Option Value) × Owed hold_k x c o)
      owed x i (inl h) = left_owed x h i
      owed x i (inr h) = let e = fit.owed x h in (e.0, (e.1.0, moved_owed goals outputs w s hold k goal given distinct names apart x e.0 e.1.0 (moves_here x h i) e.1.1))

    pub ready_k : Ready here_k wk bk (in_node n)
    ready_k x i p = on (a.either x p) where
      there : here x ⊎ (are_for w x ≡ true) → here_k x ⊎ (are_for wk x ≡ true)
      there (inl h) = inl (h, i)
      there (inr h) = inr (in_those (in_node n) (rights_to k left ++ w) x (more_right k left w x h) i)

      on : (b x ≡ true) ⊎ (has x left ≡ true) → here_k x ⊎ (are_for wk x ≡ true)
      on (inl h) = there (ready x (in_all x i) h)
      on (inr h) = inr (in_those (in_node n) (rights_to k left ++ w) x (left_right k left w x h) i)

    -- the trace's environment at this conjunct
    pub match_k : (full fullk : Env) → Match w hold full → Kept full fullk
        → ((one : NamedCell) → Member one (own goals outputs w s hold) → one.producer < k → (v : Value) × ((gift_at one.cell given ≡ Some (Some v)) × (value_at fullk one.variable ≡ Some v))) → Match wk hold_k fullk
    match_k full fullk t kept gave = record {
      same = λ x v h. kept x v (t.same x v (kid_here goals outputs w s hold k goal given x v h).1);
      comes = λ x c o h e. comes x c o (cases_k x c o e);
    } where
      comes : (x c : ℕ) (o : Option Value) → Cases x c o → (v : Value) × ((o ≡ Some v) × (value_at fullk x ≡ Some v))
      comes x c o (inl q) =
          let v = gave q.one q.there (producer_left q.one q.there q.consumer).0 in
          (v.0, (q.value ∙ ap (λ z. value_given (gift_at z given)) (sym q.cell) ∙ ap value_given v.1.0, ap (value_at fullk) (sym q.variable) ∙ v.1.1))
      comes x c o (inr q) = let v = t.comes x c o (wait_child outputs w s goals x k q.0).0 q.1 in (v.0, (v.1.0, kept x v.0 v.1.1))

    -- Its rights.

    pub binds_sign : (x c : ℕ) → has c (signs x hold_k) ≡ true → has x (outputs_of n) ≡ true
    binds_sign x c h = on (sign_cases goals outputs w s hold k goal given x c h) where
      on : OwnSign goals outputs w s hold k goal given x c ⊎ ((child_for true x (info goals outputs w s hold).moves ≡ Some k) × (has c (signs x hold) ≡ true)) → has x (outputs_of n) ≡ true
      on (inl q) = let f = fact_of goals outputs w s hold q.one q.there in
          among_has x (outputs_of n) (subst (λ z. among (outputs_of n) z ≡ true) (sym f.1.1.0 ∙ q.variable)
          (subst (λ m. among (outputs_of m) f.0.variable ≡ true) (same_some f.1.0.maker n (sym f.1.0.is_maker ∙ ap (λ z. nth 1 z goals) (sym f.1.1.1.0 ∙ q.producer) ∙ this_one)) f.1.0.binds))
      on (inr q) = let f = signal_child outputs w s goals x k q.0 in
          among_has x (outputs_of n) (subst (λ m. among (outputs_of m) x ≡ true) (same_some f.1.0 n (sym f.1.1.0 ∙ this_one)) f.1.1.1)

    counts_own : (x : ℕ) → has x (outputs_of n) ≡ true → owned k x (cells goals outputs w s hold) ≡ length (consumers (suc k) ns outputs x)
    counts_own x h = a.tails k x (omega (arith)) ∙ owned_here k x outputs n ns (distinct_left (outputs_of n) (all_outputs ns) (distinct_right left (all_outputs (more_nodes n ns)) a.split)) h

    turned : (p q : ℕ) → p + q ≡ q + p
    turned p q = omega (arith)

    -- as many as it signals
    pub counts_k : ((x : ℕ) → are_for s x ≡ true → length (rights_for x s) ≡ length (signs x hold)) → (x : ℕ) → has x (outputs_of n) ≡ true → length (rights_for x sk) ≡ length (signs x hold_k)
    counts_k counts x h =
        signals_counted (suc k) ns outputs s n x (distinct_left (outputs_of n) (all_outputs ns) (distinct_right left (all_outputs (more_nodes n ns)) a.split)) h
        ∙ turned (length (rights_for x s)) (length (consumers (suc k) ns outputs x)) ∙ ap (λ z. z + length (rights_for x s)) (sym (counts_own x h)) ∙ on (tell (are_for s x)) where
          on : (are_for s x ≡ true) ⊎ (are_for s x ≡ false) → owned k x (cells goals outputs w s hold) + length (rights_for x s) ≡ length (signs x hold_k)
          on (inl i) = ap (λ z. owned k x (cells goals outputs w s hold) + z) (counts x i)
              ∙ sym (signs_moved (info goals outputs w s hold) k goal hold given x (child_signal outputs w s goals distinct x k n this_one (has_among x (outputs_of n) h) i))
          on (inr i) = ap (λ (l : List Right). owned k x (cells goals outputs w s hold) + length l) (none_for x s i) ∙ sym (signs_own (info goals outputs w s hold) k goal hold given x (no_signal outputs w s goals x i))

    pub within_k : Within sk (outputs_of n)
    within_k x h = has_among x (outputs_of n) (signals_within (suc k) ns outputs s n x h)

    pub rightful_k : ((x : ℕ) → are_for s x ≡ true → length (rights_for x s) ≡ length (signs x hold)) → Rightful wk sk (outputs_of n) (λ c. has c (signals_to k fork)) (waits_to k fork) [] hold_k
    rightful_k counts = record {
      to_signal = λ x c h i. (subst (λ l. has c l ≡ true) (sym (rights_signal (info goals outputs w s hold) goals k goal hold given)) (signs_cell hold_k x c i), refl);
      counts = λ x h. counts_k counts x (signals_within (suc k) ns outputs s n x h);
      to_wait = λ x c o h e. subst (λ l. has c l ≡ true) (sym (rights_wait (info goals outputs w s hold) goals k goal hold given)) (owed_cell hold_k x c o e);
      within = within_k;
      low = λ c h. listed_k.low c (subst (λ l. has c l ≡ true) (rights_signal (info goals outputs w s hold) goals k goal hold given) h);
    }

    -- each cell that it has to signal is of a variable that it signals
    pub own_right : ((x : ℕ) → are_for s x ≡ true → length (rights_for x s) ≡ length (signs x hold)) → (c : ℕ) → has c (signals_to k fork) ≡ true → (x : ℕ) × ((are_for sk x ≡ true) × (has c (signs x hold_k) ≡ true))
    own_right counts c h =
        let r = numbered (λ (right : HeldSignal). right.cell) c hold_k.signals (subst (λ l. has c l ≡ true) (rights_signal (info goals outputs w s hold) goals k goal hold given) h) in
        let i = member_signs hold_k r.0.variable c r.0 r.1.0 refl r.1.1 in
        (r.0.variable, (is_some_right r.0.variable c (signs r.0.variable hold_k) sk i (counts_k counts r.0.variable (binds_sign r.0.variable c i)), i))
