-- The cells and moves of an `&`: who binds, who uses, and that each is there once.
use Rattle.std.proofs.Common.{◌≡◌, ◌⊎◌, inl, inr, ℕ, suc, ◌+◌, ◌≤◌, ◌<◌, Bool, true, false, ◌==◌, ◌||◌, if◌then◌else◌, nat_eq, List, [], ◌∷◌, ◌++◌, length, map, filter, flat_map, Option, Some, None, refl, ap, sym, subst, ◌∙◌, arith}
use Rattle.std.proofs.lemmas.Bool.Decides.{nat_tests}
use Rattle.merc_graded_tree.specs.Nodes.{Node, Nodes, no_nodes, more_nodes, outputs_of}
use Rattle.merc_graded_tree.specs.Variables.{among, in_node, in_nodes}
use Rattle.merc_core.specs.Rights.{has}
use Rattle.merc_core.specs.WellFormed.{AreDistinct}
use Rattle.merc_rights.specs.declared.sites.CellInfo.{CellInfo}
use Rattle.merc_rights.specs.Rights.{users}
use Rattle.merc_par_split.specs.Sites.{count, consumers, cells_of}
use Rattle.merc_plan.proofs.Sets.{clash, tell, absent, same_number, is_same, first_in, rest_in, front_or, in_left, in_right, in_either, or_either, or_left, or_right}
use Rattle.merc_script_laws.specs.Parallel.{all_outputs}
use Rattle.merc_script_laws.proofs.Members.{Member, member_left, member_right, member_either, passing, made_from, is_made, joined_from, is_joined, numbered, has_member, member_has, distinct_filter, distinct_both, distinct_left, distinct_right, distinct_apart, map_both, filter_both}

pub among_has : (x : ℕ) (xs : List ℕ) → among xs x ≡ true → has x xs ≡ true
among_has x [] h = absurd (cc)
among_has x (y ∷ xs) h = on (or_either (x == y) (among xs x) h) (λ k. among_has x xs k) where
  on : ((x == y) ≡ true) ⊎ (among xs x ≡ true) → (among xs x ≡ true → has x xs ≡ true) → has x (y ∷ xs) ≡ true
  on (inl e) rec = subst (λ z. has x (z ∷ xs) ≡ true) (same_number x y e) (first_in x xs)
  on (inr k) rec = rest_in x y xs (rec k)

pub has_among : (x : ℕ) (xs : List ℕ) → has x xs ≡ true → among xs x ≡ true
has_among x [] h = absurd (cc)
has_among x (y ∷ xs) h = on (front_or x y xs h) (λ k. has_among x xs k) where
  on : (x ≡ y) ⊎ (has x xs ≡ true) → (has x xs ≡ true → among xs x ≡ true) → ((x == y) || among xs x) ≡ true
  on (inl e) rec = or_left (x == y) (among xs x) (subst (λ z. (x == z) ≡ true) e (is_same x))
  on (inr k) rec = or_right (x == y) (among xs x) (rec k)

-- The conjunct of a number.

abbrev pub nth : ℕ → ℕ → Nodes → Option Node
nth at k no_nodes = None
nth at k (more_nodes n ns) = if nat_eq k at then Some n else nth (suc at) k ns

pub same_some : {A : Type 0} (a b : A) → Some a ≡ Some b → a ≡ b
same_some a b e = cc

pub different : (k at : ℕ) → at < k → nat_eq k at ≡ false
different k at l = grind (arith, nat_tests, l)

low_case : (b : Bool) (at k : ℕ) (n m : Node) (ns : Nodes) → nat_eq k at ≡ b → (nth (suc at) k ns ≡ Some m → suc at ≤ k) → (if b then Some n else nth (suc at) k ns) ≡ Some m → at ≤ k
low_case true at k n m ns e h p = let q = same_number k at e in omega (arith, q)
low_case false at k n m ns e h p = let q = h p in omega (arith, q)

pub nth_low : (at k : ℕ) (m : Node) (ns : Nodes) → nth at k ns ≡ Some m → at ≤ k
nth_low at k m no_nodes p = absurd (cc)
nth_low at k m (more_nodes n ns) p = low_case (nat_eq k at) at k n m ns refl (λ q. nth_low (suc at) k m ns q) p

high_case : (b : Bool) (at k : ℕ) (n m : Node) (ns : Nodes) → nat_eq k at ≡ b → (nth (suc at) k ns ≡ Some m → k < suc at + count ns) → (if b then Some n else nth (suc at) k ns) ≡ Some m → k < at + suc (count ns)
high_case true at k n m ns e h p = let q = same_number k at e in omega (arith, q)
high_case false at k n m ns e h p = let q = h p in omega (arith, q)

pub nth_high : (at k : ℕ) (m : Node) (ns : Nodes) → nth at k ns ≡ Some m → k < at + count ns
nth_high at k m no_nodes p = absurd (cc)
nth_high at k m (more_nodes n ns) p = high_case (nat_eq k at) at k n m ns refl (λ q. nth_high (suc at) k m ns q) p

pub later_nth : (at k : ℕ) (n m : Node) (ns : Nodes) → nth (suc at) k ns ≡ Some m → nth at k (more_nodes n ns) ≡ Some m
later_nth at k n m ns p = ap (λ (b : Bool). if b then Some n else nth (suc at) k ns) (different k at (nth_low (suc at) k m ns p)) ∙ p

pub first_nth : (at : ℕ) (n : Node) (ns : Nodes) → nth at at (more_nodes n ns) ≡ Some n
first_nth at n ns = ap (λ (b : Bool). if b then Some n else nth (suc at) at ns) (is_same at)

pub past_nth : (at k : ℕ) (n : Node) (ns : Nodes) → nat_eq k at ≡ false → nth at k (more_nodes n ns) ≡ nth (suc at) k ns
past_nth at k n ns e = ap (λ (b : Bool). if b then Some n else nth (suc at) k ns) e

in_case : (b : Bool) (at k x : ℕ) (n m : Node) (ns : Nodes) → (if b then Some n else nth (suc at) k ns) ≡ Some m → in_node m x ≡ true → (nth (suc at) k ns ≡ Some m → in_nodes ns x ≡ true) → (in_node n x || in_nodes ns x) ≡ true
in_case true at k x n m ns p h rec = or_left (in_node n x) (in_nodes ns x) (subst (λ z. in_node z x ≡ true) (sym (same_some n m p)) h)
in_case false at k x n m ns p h rec = or_right (in_node n x) (in_nodes ns x) (rec p)

pub nth_in : (at k x : ℕ) (m : Node) (ns : Nodes) → nth at k ns ≡ Some m → in_node m x ≡ true → in_nodes ns x ≡ true
nth_in at k x m no_nodes p h = absurd (cc)
nth_in at k x m (more_nodes n ns) p h = in_case (nat_eq k at) at k x n m ns p h (λ q. nth_in (suc at) k x m ns q h)

-- The conjunct that binds a variable.

pub maker_of : (at x : ℕ) (ns : Nodes) → has x (all_outputs ns) ≡ true → (j : ℕ) × ((m : Node) × ((nth at j ns ≡ Some m) × (among (outputs_of m) x ≡ true)))
maker_of at x no_nodes h = absurd (cc)
maker_of at x (more_nodes n ns) h = on (in_either x (outputs_of n) (all_outputs ns) h) (λ i. maker_of (suc at) x ns i) where
  on : (has x (outputs_of n) ≡ true) ⊎ (has x (all_outputs ns) ≡ true) → (has x (all_outputs ns) ≡ true → (j : ℕ) × ((m : Node) × ((nth (suc at) j ns ≡ Some m) × (among (outputs_of m) x ≡ true))))
      → (j : ℕ) × ((m : Node) × ((nth at j (more_nodes n ns) ≡ Some m) × (among (outputs_of m) x ≡ true)))
  on (inl i) rec = (at, (n, (first_nth at n ns, has_among x (outputs_of n) i)))
  on (inr i) rec = let q = rec i in (q.0, (q.1.0, (later_nth at q.0 n q.1.0 ns q.1.1.0, q.1.1.1)))

bound_case : (b : Bool) (at j x : ℕ) (n m : Node) (ns : Nodes) → (if b then Some n else nth (suc at) j ns) ≡ Some m → among (outputs_of m) x ≡ true → (nth (suc at) j ns ≡ Some m → has x (all_outputs ns) ≡ true)
    → has x (outputs_of n ++ all_outputs ns) ≡ true
bound_case true at j x n m ns p h rec = in_left x (outputs_of n) (all_outputs ns) (among_has x (outputs_of n) (subst (λ z. among (outputs_of z) x ≡ true) (sym (same_some n m p)) h))
bound_case false at j x n m ns p h rec = in_right x (outputs_of n) (all_outputs ns) (rec p)

pub bound_by : (at j x : ℕ) (m : Node) (ns : Nodes) → nth at j ns ≡ Some m → among (outputs_of m) x ≡ true → has x (all_outputs ns) ≡ true
bound_by at j x m no_nodes p h = absurd (cc)
bound_by at j x m (more_nodes n ns) p h = bound_case (nat_eq j at) at j x n m ns p h (λ q. bound_by (suc at) j x m ns q h)

-- one alone binds it, where outputs are told apart
pub one_binder : (at i j x : ℕ) (m k : Node) (ns : Nodes) → AreDistinct (all_outputs ns) → nth at i ns ≡ Some m → among (outputs_of m) x ≡ true → nth at j ns ≡ Some k → among (outputs_of k) x ≡ true → i ≡ j
one_binder at i j x m k no_nodes d p o q u = absurd (cc)
one_binder at i j x m k (more_nodes n ns) d p o q u =
    on (tell (nat_eq i at)) (tell (nat_eq j at)) (λ r t. one_binder (suc at) i j x m k ns (distinct_right (outputs_of n) (all_outputs ns) d) r o t u) where
      front : (l : ℕ) (y : Node) → nat_eq l at ≡ true → nth at l (more_nodes n ns) ≡ Some y → among (outputs_of y) x ≡ true → has x (outputs_of n) ≡ true
      front l y e r h = among_has x (outputs_of n) (subst (λ z. among (outputs_of z) x ≡ true) (same_some y n (sym r ∙ ap (λ (b : Bool). if b then Some n else nth (suc at) l ns) e)) h)

      behind : (l : ℕ) (y : Node) → nat_eq l at ≡ false → nth at l (more_nodes n ns) ≡ Some y → nth (suc at) l ns ≡ Some y
      behind l y e r = sym (past_nth at l n ns e) ∙ r

      on : (nat_eq i at ≡ true) ⊎ (nat_eq i at ≡ false) → (nat_eq j at ≡ true) ⊎ (nat_eq j at ≡ false) → (nth (suc at) i ns ≡ Some m → nth (suc at) j ns ≡ Some k → i ≡ j) → i ≡ j
      on (inl e) (inl f) rec = same_number i at e ∙ sym (same_number j at f)
      on (inl e) (inr f) rec = absurd (distinct_apart x (outputs_of n) (all_outputs ns) d (front i m e p o) (bound_by (suc at) j x k ns (behind j k f q) u))
      on (inr e) (inl f) rec = absurd (distinct_apart x (outputs_of n) (all_outputs ns) d (front j k f q u) (bound_by (suc at) i x m ns (behind i m e p) o))
      on (inr e) (inr f) rec = rec (behind i m e p) (behind j k f q)

-- The conjuncts that use a variable.

user_case : (b : Bool) (at k x : ℕ) (n : Node) (ns : Nodes) → in_node n x ≡ b → Member k (if b then at ∷ users (suc at) ns x else users (suc at) ns x)
    → (Member k (users (suc at) ns x) → (m : Node) × ((nth (suc at) k ns ≡ Some m) × (in_node m x ≡ true))) → (m : Node) × ((nth at k (more_nodes n ns) ≡ Some m) × (in_node m x ≡ true))
user_case true at k x n ns e (inl q) rec = (n, (subst (λ z. nth at z (more_nodes n ns) ≡ Some n) (sym q) (first_nth at n ns), e))
user_case true at k x n ns e (inr q) rec = let r = rec q in (r.0, (later_nth at k n r.0 ns r.1.0, r.1.1))
user_case false at k x n ns e q rec = let r = rec q in (r.0, (later_nth at k n r.0 ns r.1.0, r.1.1))

pub user_of : (at k x : ℕ) (ns : Nodes) → Member k (users at ns x) → (m : Node) × ((nth at k ns ≡ Some m) × (in_node m x ≡ true))
user_of at k x no_nodes h = absurd h
user_of at k x (more_nodes n ns) h = user_case (in_node n x) at k x n ns refl h (λ q. user_of (suc at) k x ns q)

uses_case : (b d : Bool) (at k x : ℕ) (n m : Node) (ns : Nodes) → nat_eq k at ≡ b → in_node n x ≡ d → (if b then Some n else nth (suc at) k ns) ≡ Some m → in_node m x ≡ true
    → (nth (suc at) k ns ≡ Some m → Member k (users (suc at) ns x)) → Member k (if d then at ∷ users (suc at) ns x else users (suc at) ns x)
uses_case true true at k x n m ns e i p h rec = inl (same_number k at e)
uses_case true false at k x n m ns e i p h rec = clash (in_node n x) (subst (λ z. in_node z x ≡ true) (sym (same_some n m p)) h) i
uses_case false true at k x n m ns e i p h rec = inr (rec p)
uses_case false false at k x n m ns e i p h rec = rec p

pub is_user : (at k x : ℕ) (m : Node) (ns : Nodes) → nth at k ns ≡ Some m → in_node m x ≡ true → Member k (users at ns x)
is_user at k x m no_nodes p h = absurd (cc)
is_user at k x m (more_nodes n ns) p h = uses_case (nat_eq k at) (in_node n x) at k x n m ns refl refl p h (λ q. is_user (suc at) k x m ns q h)

pub users_low : (at k x : ℕ) (ns : Nodes) → Member k (users at ns x) → at ≤ k
users_low at k x ns h = let r = user_of at k x ns h in nth_low at k r.0 ns r.1.0

distinct_case : (b : Bool) (at x : ℕ) (ns : Nodes) → AreDistinct (users (suc at) ns x) → AreDistinct (if b then at ∷ users (suc at) ns x else users (suc at) ns x)
distinct_case true at x ns d = (absent at (users (suc at) ns x) (λ h. let l = users_low (suc at) at x ns (has_member at (users (suc at) ns x) h) in absurd (omega (arith, l))), d)
distinct_case false at x ns d = d

pub users_distinct : (at x : ℕ) (ns : Nodes) → AreDistinct (users at ns x)
users_distinct at x no_nodes = tt
users_distinct at x (more_nodes n ns) = distinct_case (in_node n x) at x ns (users_distinct (suc at) x ns)

-- where there is one user, it is this one
pub one_user : (j k : ℕ) (ks : List ℕ) → (length ks == 1) ≡ true → Member j ks → Member k ks → j ≡ k
one_user j k [] e h i = absurd h
one_user j k (a ∷ []) e (inl h) (inl i) = h ∙ sym i
one_user j k (a ∷ []) e (inl h) (inr i) = absurd i
one_user j k (a ∷ []) e (inr h) i = absurd h
one_user j k (a ∷ b ∷ ks) e h i = let l = same_number (length (a ∷ b ∷ ks)) 1 e in absurd (omega (arith, l))

-- who waits for it
abbrev pub behind_too : List ℕ → ℕ → List ℕ
behind_too outputs x = if among outputs x then 0 ∷ [] else []

behind_case : (b : Bool) (k : ℕ) → Member k (if b then 0 ∷ [] else []) → (b ≡ true) × (k ≡ 0)
behind_case true k (inl e) = (refl, e)
behind_case true k (inr e) = absurd e
behind_case false k e = absurd e

is_behind : (b : Bool) → b ≡ true → Member {A = ℕ} 0 (if b then 0 ∷ [] else [])
is_behind true e = inl refl
is_behind false e = absurd (cc)

behind_distinct : (b : Bool) → AreDistinct (if b then 0 ∷ [] else [])
behind_distinct true = (refl, tt)
behind_distinct false = tt

-- the goals behind the `&`, or a conjunct from this number on
abbrev pub Waiter : ℕ → List ℕ → Nodes → ℕ → ℕ → Type 0
Waiter at outputs ns x k = ((k ≡ 0) × (among outputs x ≡ true)) ⊎ ((at ≤ k) × ((m : Node) × ((nth at k ns ≡ Some m) × (in_node m x ≡ true))))

pub waiter_of : (at : ℕ) (outputs : List ℕ) (ns : Nodes) (x k : ℕ) → Member k (consumers at ns outputs x) → Waiter at outputs ns x k
waiter_of at outputs ns x k h = on (member_either k (users at ns x) (behind_too outputs x) h) where
  on : Member k (users at ns x) ⊎ Member k (behind_too outputs x) → Waiter at outputs ns x k
  on (inl i) = inr (users_low at k x ns i, user_of at k x ns i)
  on (inr i) = let q = behind_case (among outputs x) k i in inl (q.1, q.0)

pub is_waiter : (at k x : ℕ) (outputs : List ℕ) (m : Node) (ns : Nodes) → nth at k ns ≡ Some m → in_node m x ≡ true → Member k (consumers at ns outputs x)
is_waiter at k x outputs m ns p h = member_left k (users at ns x) (behind_too outputs x) (is_user at k x m ns p h)

pub waits_behind : (at x : ℕ) (outputs : List ℕ) (ns : Nodes) → among outputs x ≡ true → Member {A = ℕ} 0 (consumers at ns outputs x)
waits_behind at x outputs ns h = member_right 0 (users at ns x) (behind_too outputs x) (is_behind (among outputs x) h)

pub consumers_distinct : (at x : ℕ) (outputs : List ℕ) (ns : Nodes) → AreDistinct (consumers (suc at) ns outputs x)
consumers_distinct at x outputs ns = distinct_both (users (suc at) ns x) (behind_too outputs x) (users_distinct (suc at) x ns) (behind_distinct (among outputs x)) (λ c h i.
    let l = users_low (suc at) c x ns (has_member c (users (suc at) ns x) h) in
    let z = (behind_case (among outputs x) c (has_member c (behind_too outputs x) i)).1 in
    absurd (omega (arith, l, z)))

-- The cells of an `&`.

abbrev pub cell_for : ℕ → ℕ → ℕ → CellInfo
cell_for x producer consumer = record { variable = x; producer = producer; consumer = consumer }

abbrev pub cells_for : ℕ → List ℕ → Nodes → ℕ → List CellInfo
cells_for at outputs ns x = map (λ consumer. cell_for x at consumer) (consumers (suc at) ns outputs x)

-- the conjunct that binds the variable, and who waits for it
pub record Fact (at : ℕ) (outputs : List ℕ) (ns : Nodes) (info : CellInfo) : Type 0 where
  pub maker : Node
  pub is_maker : nth at info.producer ns ≡ Some maker
  pub binds : among (outputs_of maker) info.variable ≡ true
  pub user : ((info.consumer ≡ 0) × (among outputs info.variable ≡ true)) ⊎ ((info.producer < info.consumer) × ((m : Node) × ((nth at info.consumer ns ≡ Some m) × (in_node m info.variable ≡ true))))

pub fact : (at : ℕ) (outputs : List ℕ) (ns : Nodes) (info : CellInfo) → Member info (cells_of at outputs ns) → Fact at outputs ns info
fact at outputs no_nodes info h = absurd h
fact at outputs (more_nodes n ns) info h =
    on (member_either info (flat_map (cells_for at outputs ns) (outputs_of n)) (cells_of (suc at) outputs ns) h) (λ i. fact (suc at) outputs ns info i) where
      own_user : (x c : ℕ) → Waiter (suc at) outputs ns x c → ((c ≡ 0) × (among outputs x ≡ true)) ⊎ ((at < c) × ((m : Node) × ((nth at c (more_nodes n ns) ≡ Some m) × (in_node m x ≡ true))))
      own_user x c (inl e) = inl e
      own_user x c (inr e) = let l = e.0 in inr (omega (arith, l), (e.1.0, (later_nth at c n e.1.0 ns e.1.1.0, e.1.1.1)))

      later_user : (i : CellInfo) → ((i.consumer ≡ 0) × (among outputs i.variable ≡ true)) ⊎ ((i.producer < i.consumer) × ((m : Node) × ((nth (suc at) i.consumer ns ≡ Some m) × (in_node m i.variable ≡ true))))
          → ((i.consumer ≡ 0) × (among outputs i.variable ≡ true)) ⊎ ((i.producer < i.consumer) × ((m : Node) × ((nth at i.consumer (more_nodes n ns) ≡ Some m) × (in_node m i.variable ≡ true))))
      later_user i (inl e) = inl e
      later_user i (inr e) = inr (e.0, (e.1.0, (later_nth at i.consumer n e.1.0 ns e.1.1.0, e.1.1.1)))

      on : Member info (flat_map (cells_for at outputs ns) (outputs_of n)) ⊎ Member info (cells_of (suc at) outputs ns) → (Member info (cells_of (suc at) outputs ns) → Fact (suc at) outputs ns info) → Fact at outputs (more_nodes n ns) info
      on (inl i) rec =
          let r = joined_from (cells_for at outputs ns) info (outputs_of n) i in
          let t = made_from (λ consumer. cell_for r.0 at consumer) info (consumers (suc at) ns outputs r.0) r.1.1 in
          subst (λ z. Fact at outputs (more_nodes n ns) z) (sym t.1.1)
          (record { maker = n; is_maker = first_nth at n ns; binds = has_among r.0 (outputs_of n) (member_has r.0 (outputs_of n) r.1.0); user = own_user r.0 t.0 (waiter_of (suc at) outputs ns r.0 t.0 t.1.0) })
      on (inr i) rec = let f = rec i in record { maker = f.maker; is_maker = later_nth at info.producer n f.maker ns f.is_maker; binds = f.binds; user = later_user info f.user }

-- each use has its cell
there_case : (b : Bool) (outputs : List ℕ) (at j k x : ℕ) (n m : Node) (ns : Nodes) → nat_eq j at ≡ b → (if b then Some n else nth (suc at) j ns) ≡ Some m → among (outputs_of m) x ≡ true
    → (nat_eq j at ≡ true → Member k (consumers (suc at) ns outputs x)) → (nth (suc at) j ns ≡ Some m → Member (cell_for x j k) (cells_of (suc at) outputs ns)) → Member (cell_for x j k) (cells_of at outputs (more_nodes n ns))
there_case true outputs at j k x n m ns e p o here rec =
    let f : List CellInfo = flat_map (cells_for at outputs ns) (outputs_of n) in
    subst (λ z. Member (cell_for x z k) (f ++ cells_of (suc at) outputs ns)) (sym (same_number j at e))
    (member_left (cell_for x at k) f (cells_of (suc at) outputs ns)
    (is_joined (cells_for at outputs ns) (cell_for x at k) x (outputs_of n) (has_member x (outputs_of n) (among_has x (outputs_of n) (subst (λ z. among (outputs_of z) x ≡ true) (sym (same_some n m p)) o)))
    (is_made (λ consumer. cell_for x at consumer) k (consumers (suc at) ns outputs x) (here e))))
there_case false outputs at j k x n m ns e p o here rec = member_right (cell_for x j k) (flat_map (cells_for at outputs ns) (outputs_of n)) (cells_of (suc at) outputs ns) (rec p)

pub used_cell : (outputs : List ℕ) (at j k x : ℕ) (n m : Node) (ns : Nodes) → nth at j ns ≡ Some n → among (outputs_of n) x ≡ true → nth at k ns ≡ Some m → in_node m x ≡ true → j < k → Member (cell_for x j k) (cells_of at outputs ns)
used_cell outputs at j k x n m no_nodes p o q u l = absurd (cc)
used_cell outputs at j k x n m (more_nodes h ns) p o q u l =
    there_case (nat_eq j at) outputs at j k x h n ns refl p o
    (λ e. is_waiter (suc at) k x outputs m ns (sym (past_nth at k h ns (different k at (subst (λ z. z < k) (same_number j at e) l))) ∙ q) u)
    (λ r. used_cell outputs (suc at) j k x n m ns r o (let i = nth_low (suc at) j n ns r in sym (past_nth at k h ns (different k at (omega (arith, i, l)))) ∙ q) u l)

pub output_cell : (outputs : List ℕ) (at j x : ℕ) (n : Node) (ns : Nodes) → nth at j ns ≡ Some n → among (outputs_of n) x ≡ true → among outputs x ≡ true → Member (cell_for x j 0) (cells_of at outputs ns)
output_cell outputs at j x n no_nodes p o h = absurd (cc)
output_cell outputs at j x n (more_nodes m ns) p o h = there_case (nat_eq j at) outputs at j 0 x m n ns refl p o (λ e. waits_behind (suc at) x outputs ns h) (λ r. output_cell outputs (suc at) j x n ns r o h)

-- Each consumer has one cell for a variable.

one_case : (x at k c : ℕ) (cs : List ℕ) (b : Bool) → (c == k) ≡ b → has c cs ≡ false
    → map (λ (z : CellInfo). z.variable) (filter (λ (z : CellInfo). z.consumer == k) (map (λ consumer. cell_for x at consumer) cs)) ≡ (if has k cs then x ∷ [] else [])
    → map (λ (z : CellInfo). z.variable) (if b then cell_for x at c ∷ filter (λ (z : CellInfo). z.consumer == k) (map (λ consumer. cell_for x at consumer) cs) else filter (λ (z : CellInfo). z.consumer == k) (map (λ consumer. cell_for x at consumer) cs))
    ≡ (if (b || has k cs) then x ∷ [] else [])
one_case x at k c cs true e d h = ap (λ l. x ∷ l) (h ∙ ap (λ (b : Bool). if b then x ∷ [] else []) (subst (λ z. has z cs ≡ false) (same_number c k e) d))
one_case x at k c cs false e d h = h

one_for : (x at k : ℕ) (cs : List ℕ) → AreDistinct cs
    → map (λ (z : CellInfo). z.variable) (filter (λ (z : CellInfo). z.consumer == k) (map (λ consumer. cell_for x at consumer) cs)) ≡ (if has k cs then x ∷ [] else [])
one_for x at k [] d = refl
one_for x at k (c ∷ cs) d = one_case x at k c cs (c == k) refl d.0 (one_for x at k cs d.1)

block_case : (x : ℕ) (b : Bool) (xs ys : List ℕ) → xs ≡ ys → (if b then x ∷ [] else []) ++ xs ≡ (if b then x ∷ ys else ys)
block_case x true xs ys h = ap (λ l. x ∷ l) h
block_case x false xs ys h = h

block_variables : (at k : ℕ) (outputs : List ℕ) (ns : Nodes) (xs : List ℕ)
    → map (λ (z : CellInfo). z.variable) (filter (λ (z : CellInfo). z.consumer == k) (flat_map (cells_for at outputs ns) xs)) ≡ filter (λ x. has k (consumers (suc at) ns outputs x)) xs
block_variables at k outputs ns [] = refl
block_variables at k outputs ns (x ∷ xs) =
    ap (map (λ (z : CellInfo). z.variable)) (filter_both (λ (z : CellInfo). z.consumer == k) (cells_for at outputs ns x) (flat_map (cells_for at outputs ns) xs))
    ∙ map_both (λ (z : CellInfo). z.variable) (filter (λ (z : CellInfo). z.consumer == k) (cells_for at outputs ns x)) (filter (λ (z : CellInfo). z.consumer == k) (flat_map (cells_for at outputs ns) xs))
    ∙ ap (λ l. l ++ map (λ (z : CellInfo). z.variable) (filter (λ (z : CellInfo). z.consumer == k) (flat_map (cells_for at outputs ns) xs))) (one_for x at k (consumers (suc at) ns outputs x) (consumers_distinct at x outputs ns))
    ∙ block_case x (has k (consumers (suc at) ns outputs x)) (map (λ (z : CellInfo). z.variable) (filter (λ (z : CellInfo). z.consumer == k) (flat_map (cells_for at outputs ns) xs)))
    (filter (λ x. has k (consumers (suc at) ns outputs x)) xs) (block_variables at k outputs ns xs)

-- the variables for which a conjunct, or what is behind, waits
abbrev pub waited_by : ℕ → List CellInfo → List ℕ
waited_by k infos = map (λ (z : CellInfo). z.variable) (filter (λ (z : CellInfo). z.consumer == k) infos)

waited_parts : (at k : ℕ) (outputs : List ℕ) (n : Node) (ns : Nodes) → waited_by k (cells_of at outputs (more_nodes n ns)) ≡ filter (λ x. has k (consumers (suc at) ns outputs x)) (outputs_of n) ++ waited_by k (cells_of (suc at) outputs ns)
waited_parts at k outputs n ns =
    ap (map (λ (z : CellInfo). z.variable)) (filter_both (λ (z : CellInfo). z.consumer == k) (flat_map (cells_for at outputs ns) (outputs_of n)) (cells_of (suc at) outputs ns))
    ∙ map_both (λ (z : CellInfo). z.variable) (filter (λ (z : CellInfo). z.consumer == k) (flat_map (cells_for at outputs ns) (outputs_of n))) (filter (λ (z : CellInfo). z.consumer == k) (cells_of (suc at) outputs ns))
    ∙ ap (λ l. l ++ waited_by k (cells_of (suc at) outputs ns)) (block_variables at k outputs ns (outputs_of n))

pub waited_bound : (at k : ℕ) (outputs : List ℕ) (ns : Nodes) (x : ℕ) → has x (waited_by k (cells_of at outputs ns)) ≡ true → has x (all_outputs ns) ≡ true
waited_bound at k outputs ns x h =
    let r = numbered (λ (z : CellInfo). z.variable) x (filter (λ (z : CellInfo). z.consumer == k) (cells_of at outputs ns)) h in
    let f = fact at outputs ns r.0 (passing (λ (z : CellInfo). z.consumer == k) r.0 (cells_of at outputs ns) r.1.0).0 in
    subst (λ z. has z (all_outputs ns) ≡ true) r.1.1 (bound_by at r.0.producer r.0.variable f.maker ns f.is_maker f.binds)

pub waited_distinct : (at k : ℕ) (outputs : List ℕ) (ns : Nodes) → AreDistinct (all_outputs ns) → AreDistinct (waited_by k (cells_of at outputs ns))
waited_distinct at k outputs no_nodes d = tt
waited_distinct at k outputs (more_nodes n ns) d = subst AreDistinct (sym (waited_parts at k outputs n ns))
    (distinct_both (filter (λ x. has k (consumers (suc at) ns outputs x)) (outputs_of n)) (waited_by k (cells_of (suc at) outputs ns))
    (distinct_filter (λ x. has k (consumers (suc at) ns outputs x)) (outputs_of n) (distinct_left (outputs_of n) (all_outputs ns) d))
    (waited_distinct (suc at) k outputs ns (distinct_right (outputs_of n) (all_outputs ns) d))
    (λ c h i. distinct_apart c (outputs_of n) (all_outputs ns) d
    (member_has c (outputs_of n) (passing (λ x. has k (consumers (suc at) ns outputs x)) c (outputs_of n) (has_member c (filter (λ x. has k (consumers (suc at) ns outputs x)) (outputs_of n)) h)).0)
    (waited_bound (suc at) k outputs ns c i)))
