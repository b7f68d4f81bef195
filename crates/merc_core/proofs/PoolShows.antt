-- The core's lists show the pool still, where a branch is taken out or put in.
use Rattle.std.proofs.Common.{◌≡◌, ℕ, suc, ◌≤◌, inl, inr, Bool, true, false, List, [], ◌∷◌, ◌++◌, Some, None, refl, ap, sym, ◌∙◌, subst, arith, length, length-append}
use Rattle.std.proofs.lemmas.List.{append-nil}
use Rattle.std.proofs.lemmas.Bool.Decides.{nat_tests}
use Rattle.std.specs.Prelude.{Option, filter, map, if◌then◌else◌, nat_eq}
use Rattle.std.specs.List.{AllByRecursion}
use Rattle.merc_script.specs.declared.items.Item.{Item}
use Rattle.merc_core.specs.declared.branch.Branch.{Branch as CoreBranch}
use Rattle.merc_core.specs.World.{Branch, Location, Listed, Runs, Holds, AtCell, AtJoin, Spot, spot}
use Rattle.merc_core.specs.Events.{first_from, last_from, taken}
use Rattle.merc_core.specs.Mirror.{Key, Hand, Row, Waiting, Parent, same_key, stands_in, in_hand_at, Shows, AllShow, IsEarly, IsSingle, ShowsPool}
use Rattle.merc_core.proofs.Pool.{Takes, here, there, each_way, each-append, each-back, takes-others}
use Rattle.merc_core.proofs.Filters.{filter-yes, filter-no, filter-append, takes-filter, Out, takes-first, takes-last, takes-none, takes-no-last}

-- Keys

pub key_of : Location → Key
key_of (Listed worker) = Row worker
key_of (Runs worker) = Hand worker
key_of (Holds worker join) = Hand worker
key_of (AtCell cell) = Waiting cell
key_of (AtJoin join) = Parent join

pub stands-key : (key : Key) (location : Location) (b : Branch) → stands_in key (spot location b) ≡ same_key (key_of location) key
unfolding key_of
stands-key (Hand v) (Listed u) b = refl
stands-key (Hand v) (Runs u) b = refl
stands-key (Hand v) (Holds u j) b = refl
stands-key (Hand v) (AtCell c) b = refl
stands-key (Hand v) (AtJoin j) b = refl
stands-key (Row v) (Listed u) b = refl
stands-key (Row v) (Runs u) b = refl
stands-key (Row v) (Holds u j) b = refl
stands-key (Row v) (AtCell c) b = refl
stands-key (Row v) (AtJoin j) b = refl
stands-key (Waiting d) (Listed u) b = refl
stands-key (Waiting d) (Runs u) b = refl
stands-key (Waiting d) (Holds u j) b = refl
stands-key (Waiting d) (AtCell c) b = refl
stands-key (Waiting d) (AtJoin j) b = refl
stands-key (Parent i) (Listed u) b = refl
stands-key (Parent i) (Runs u) b = refl
stands-key (Parent i) (Holds u j) b = refl
stands-key (Parent i) (AtCell c) b = refl
stands-key (Parent i) (AtJoin j) b = refl

nat-same : (a b : ℕ) → nat_eq a b ≡ true → a ≡ b
nat-same a b same = grind (arith, nat_tests)

pub nat-self : (a : ℕ) → nat_eq a a ≡ true
nat-self a = grind (arith, nat_tests)

pub same-key-is : (a b : Key) → same_key a b ≡ true → a ≡ b
same-key-is (Hand a) (Hand b) same = ap Hand (nat-same a b same)
same-key-is (Row a) (Row b) same = ap Row (nat-same a b same)
same-key-is (Waiting a) (Waiting b) same = ap Waiting (nat-same a b same)
same-key-is (Parent a) (Parent b) same = ap Parent (nat-same a b same)
same-key-is (Hand a) (Row b) same = absurd (cc)
same-key-is (Hand a) (Waiting b) same = absurd (cc)
same-key-is (Hand a) (Parent b) same = absurd (cc)
same-key-is (Row a) (Hand b) same = absurd (cc)
same-key-is (Row a) (Waiting b) same = absurd (cc)
same-key-is (Row a) (Parent b) same = absurd (cc)
same-key-is (Waiting a) (Hand b) same = absurd (cc)
same-key-is (Waiting a) (Row b) same = absurd (cc)
same-key-is (Waiting a) (Parent b) same = absurd (cc)
same-key-is (Parent a) (Hand b) same = absurd (cc)
same-key-is (Parent a) (Row b) same = absurd (cc)
same-key-is (Parent a) (Waiting b) same = absurd (cc)

pub same-key-self : (a : Key) → same_key a a ≡ true
same-key-self (Hand a) = nat-self a
same-key-self (Row a) = nat-self a
same-key-self (Waiting a) = nat-self a
same-key-self (Parent a) = nat-self a

-- a branch that is in one list is in another only if they are the same
pub stands-apart : (key other : Key) (x : Spot) → stands_in key x ≡ true → same_key key other ≡ false → stands_in other x ≡ false
stands-apart key other x stands apart =
    let is : key_of x.location ≡ key = same-key-is (key_of x.location) key (sym (stands-key key x.location x.branch) ∙ stands) in
    stands-key other x.location x.branch ∙ ap (λ k. same_key k other) is ∙ apart

-- lists of which one is replaced
abbrev pub with_queue : Key → List CoreBranch → (Key → List CoreBranch) → Key → List CoreBranch
with_queue key list queues other = if same_key key other then list else queues other

pub queue-same : (key : Key) (list : List CoreBranch) (queues : Key → List CoreBranch) → with_queue key list queues key ≡ list
queue-same key list queues = ap (λ b. if b then list else queues key) (same-key-self key)

-- Lists that show branches

module _ (items : List Item) where
  pub show-append : (cs ds : List CoreBranch) (xs ys : List Spot) → AllShow items cs xs → AllShow items ds ys → AllShow items (cs ++ ds) (xs ++ ys)
  show-append [] ds [] ys all others = others
  show-append (c ∷ cs) ds (x ∷ xs) ys all others = (all.0, show-append cs ds xs ys all.1 others)
  show-append [] ds (x ∷ xs) ys all others = absurd all
  show-append (c ∷ cs) ds [] ys all others = absurd all

  pub show-length : (cs : List CoreBranch) (xs : List Spot) → AllShow items cs xs → length cs ≡ length xs
  show-length [] [] all = refl
  show-length (c ∷ cs) (x ∷ xs) all = ap suc (show-length cs xs all.1)
  show-length [] (x ∷ xs) all = absurd all
  show-length (c ∷ cs) [] all = absurd all

  pub show-none : (xs : List Spot) → AllShow items [] xs → xs ≡ []
  show-none [] all = refl
  show-none (x ∷ xs) all = absurd all

  pub record First (c : CoreBranch) (cs : List CoreBranch) (ys : List Spot) : Type 0 where
    pub x : Spot
    pub xs : List Spot
    pub is : ys ≡ x ∷ xs
    pub one : Shows items c x.branch
    pub rest : AllShow items cs xs

  pub show-first : (c : CoreBranch) (cs : List CoreBranch) (ys : List Spot) → AllShow items (c ∷ cs) ys → First c cs ys
  show-first c cs [] all = absurd all
  show-first c cs (x ∷ xs) all = record { x = x; xs = xs; is = refl; one = all.0; rest = all.1 }

  pub record Last (cs : List CoreBranch) (c : CoreBranch) (ys : List Spot) : Type 0 where
    pub x : Spot
    pub xs : List Spot
    pub is : ys ≡ xs ++ (x ∷ [])
    pub one : Shows items c x.branch
    pub rest : AllShow items cs xs

  pub show-last : (cs : List CoreBranch) (c : CoreBranch) (ys : List Spot) → AllShow items (cs ++ (c ∷ [])) ys → Last cs c ys
  show-last [] c [] all = absurd all
  show-last [] c (x ∷ []) all = record { x = x; xs = []; is = refl; one = all.0; rest = tt }
  show-last [] c (x ∷ y ∷ ys) all = absurd all.1
  show-last (d ∷ ds) c [] all = absurd all
  show-last (d ∷ ds) c (x ∷ xs) all =
      let l : Last ds c xs = show-last ds c xs all.1 in
      record { x = l.x; xs = x ∷ l.xs; is = ap (λ k. x ∷ k) l.is; one = l.one; rest = (all.0, l.rest) }

  pub show-changed : (f : CoreBranch → CoreBranch) (change : Spot → Spot) → ((c : CoreBranch) (x : Spot) → Shows items c x.branch → Shows items (f c) (change x).branch)
      → (cs : List CoreBranch) (xs : List Spot) → AllShow items cs xs → AllShow items (map f cs) (map change xs)
  show-changed f change kept [] [] all = tt
  show-changed f change kept (c ∷ cs) (x ∷ xs) all = (kept c x all.0, show-changed f change kept cs xs all.1)
  show-changed f change kept [] (x ∷ xs) all = absurd all
  show-changed f change kept (c ∷ cs) [] all = absurd all

  -- The pool

  pub same-queues : (queues queues' : Key → List CoreBranch) (holds holds' : ℕ → Option ℕ) (pool : List Spot) → ((key : Key) → queues key ≡ queues' key) → ((v : ℕ) → holds v ≡ holds' v)
      → ShowsPool items queues holds pool → ShowsPool items queues' holds' pool
  same-queues queues queues' holds holds' pool same held shows = record {
    each = λ key. subst (λ (l : List CoreBranch). AllShow items l (filter (stands_in key) pool)) (same key) (shows.each key);
    hands = λ v. subst (λ (o : Option ℕ). AllByRecursion (λ one. one.location ≡ in_hand_at v o) (filter (stands_in (Hand v)) pool)) (held v) (shows.hands v);
    single = λ key is. subst (λ (l : List CoreBranch). length l ≤ 1) (same key) (shows.single key is);
    early = shows.early;
  }

  -- one is taken out of a list
  pub record Gone (queues : Key → List CoreBranch) (holds : ℕ → Option ℕ) (pool : List Spot) (found : Option (Spot × List Spot)) (key : Key) (c : CoreBranch) (left : List CoreBranch) : Type 0 where
    pub x : Spot
    pub others : List Spot
    pub is : found ≡ Some (x, others)
    pub takes : Takes pool x others
    pub stands : stands_in key x ≡ true
    pub one : Shows items c x.branch
    pub rest : ShowsPool items (with_queue key left queues) holds others

  passing : (test : Spot → Bool) (ys : List Spot) → AllByRecursion (λ y. test y ≡ true) (filter test ys)
  passing test [] = tt
  passing test (y ∷ ys) = elim (each_way (test y)) [
    | inl p ↦ subst (AllByRecursion (λ z. test z ≡ true)) (sym (filter-yes test y ys p)) (p, passing test ys)
    | inr f ↦ subst (AllByRecursion (λ z. test z ≡ true)) (sym (filter-no test y ys f)) (passing test ys)
  ]

  -- of those that pass a test, what holds of each holds where one is taken out
  each-left : (Fact : Spot → Type 0) (test : Spot → Bool) {pool : List Spot} {x : Spot} {others : List Spot} → Takes pool x others
      → AllByRecursion Fact (filter test pool) → AllByRecursion Fact (filter test others)
  each-left Fact test (here x xs) all = elim (each_way (test x)) [
    | inl p ↦ (let both : AllByRecursion Fact (x ∷ filter test xs) = subst (AllByRecursion Fact) (filter-yes test x xs p) all in both.1)
    | inr f ↦ subst (AllByRecursion Fact) (filter-no test x xs f) all
  ]
  each-left Fact test (there x y xs ys takes) all = elim (each_way (test x)) [
    | inl p ↦ (let both : AllByRecursion Fact (x ∷ filter test xs) = subst (AllByRecursion Fact) (filter-yes test x xs p) all in
        subst (AllByRecursion Fact) (sym (filter-yes test x ys p)) (both.0, each-left Fact test takes both.1))
    | inr f ↦ subst (AllByRecursion Fact) (sym (filter-no test x ys f)) (each-left Fact test takes (subst (AllByRecursion Fact) (filter-no test x xs f) all))
  ]

  module _ (queues : Key → List CoreBranch) (holds : ℕ → Option ℕ) (pool : List Spot) (shows : ShowsPool items queues holds pool) where
    gone : (key : Key) (found : Option (Spot × List Spot)) (c : CoreBranch) (left : List CoreBranch) (x : Spot) (xs : List Spot) → Out pool found (stands_in key) x xs
        → stands_in key x ≡ true → Shows items c x.branch → AllShow items left xs → length left ≤ length (queues key) → Gone queues holds pool found key c left
    gone key found c left x xs out stands one rest fewer = record {
      x = x;
      others = out.others;
      is = out.is;
      takes = out.takes;
      stands = stands;
      one = one;
      rest = record {
        each = λ other. elim (each_way (same_key key other)) [
          | inl same ↦ (let is : key ≡ other = same-key-is key other same in
              subst (λ (l : List CoreBranch). AllShow items l (filter (stands_in other) out.others)) (sym (ap (λ b. if b then left else queues other) same))
              (subst (AllShow items left) (sym out.rest ∙ ap (λ k. filter (stands_in k) out.others) is) rest))
          | inr apart ↦
              subst (λ (l : List CoreBranch). AllShow items l (filter (stands_in other) out.others)) (sym (ap (λ b. if b then left else queues other) apart))
              (subst (AllShow items (queues other)) (sym (takes-filter (stands_in other) out.takes (stands-apart key other x stands apart))) (shows.each other))
        ];
        hands = λ v. each-left (λ one. one.location ≡ in_hand_at v (holds v)) (stands_in (Hand v)) out.takes (shows.hands v);
        single = λ other is. elim (each_way (same_key key other)) [
          | inl same ↦ (let e = same-key-is key other same in
              let few : length (queues key) ≤ 1 = shows.single key (subst IsSingle (sym e) is) in
              let k = ap (λ b. length (if b then left else queues other)) same in omega (arith, k, few, fewer))
          | inr apart ↦ (let few = shows.single other is in let k = ap (λ b. length (if b then left else queues other)) apart in omega (arith, k, few))
        ];
        early = takes-others (λ one. IsEarly one.location one.branch.steps) out.takes shows.early;
      };
    }

    -- the first of a list is the first in the pool that stands in it
    pub gone-first : (key : Key) (c : CoreBranch) (cs : List CoreBranch) → queues key ≡ c ∷ cs → Gone queues holds pool (taken pool (first_from 0 (stands_in key) pool)) key c cs
    gone-first key c cs is =
        let f : First c cs (filter (stands_in key) pool) = show-first c cs (filter (stands_in key) pool) (subst (λ (l : List CoreBranch). AllShow items l (filter (stands_in key) pool)) is (shows.each key)) in
        let stands : AllByRecursion (λ y. stands_in key y ≡ true) (f.x ∷ f.xs) = subst (AllByRecursion (λ y. stands_in key y ≡ true)) f.is (passing (stands_in key) pool) in
        let e = ap length is in
        gone key (taken pool (first_from 0 (stands_in key) pool)) c cs f.x f.xs (takes-first (stands_in key) pool f.x f.xs f.is) stands.0 f.one f.rest (omega (arith, e))

    -- .. and the last the last
    pub gone-last : (key : Key) (cs : List CoreBranch) (c : CoreBranch) → queues key ≡ cs ++ (c ∷ []) → Gone queues holds pool (taken pool (last_from 0 None (stands_in key) pool)) key c cs
    gone-last key cs c is =
        let f : Last cs c (filter (stands_in key) pool) = show-last cs c (filter (stands_in key) pool) (subst (λ (l : List CoreBranch). AllShow items l (filter (stands_in key) pool)) is (shows.each key)) in
        let all : AllByRecursion (λ y. stands_in key y ≡ true) (f.xs ++ (f.x ∷ [])) = subst (AllByRecursion (λ y. stands_in key y ≡ true)) f.is (passing (stands_in key) pool) in
        let e = ap length is in let m = length-append cs (c ∷ []) in
        gone key (taken pool (last_from 0 None (stands_in key) pool)) c cs f.x f.xs (takes-last (stands_in key) pool f.xs f.x f.is) (each-back (λ y. stands_in key y ≡ true) f.xs (f.x ∷ []) all).0 f.one f.rest (omega (arith, e, m))

    pub gone-none : (key : Key) → queues key ≡ [] → taken pool (first_from 0 (stands_in key) pool) ≡ None
    gone-none key is = takes-none (stands_in key) pool (show-none (filter (stands_in key) pool) (subst (λ (l : List CoreBranch). AllShow items l (filter (stands_in key) pool)) is (shows.each key)))

    pub gone-no-last : (key : Key) → queues key ≡ [] → taken pool (last_from 0 None (stands_in key) pool) ≡ None
    gone-no-last key is = takes-no-last (stands_in key) pool (show-none (filter (stands_in key) pool) (subst (λ (l : List CoreBranch). AllShow items l (filter (stands_in key) pool)) is (shows.each key)))

    -- one is put behind a list
    pub put : (key : Key) (location : Location) (c : CoreBranch) (b : Branch) → key_of location ≡ key → Shows items c b → IsEarly location b.steps
        → (IsSingle key → queues key ≡ []) → ((v : ℕ) → key ≡ Hand v → location ≡ in_hand_at v (holds v))
        → ShowsPool items (with_queue key (queues key ++ (c ∷ [])) queues) holds (pool ++ (spot location b ∷ []))
    put key location c b is one early empty hand = record {
      each = λ other. elim (each_way (same_key key other)) [
        | inl same ↦ (let e : key ≡ other = same-key-is key other same in
            let stands : stands_in key (spot location b) ≡ true = stands-key key location b ∙ ap (λ k. same_key k key) is ∙ same-key-self key in
            let new : filter (stands_in key) (pool ++ (spot location b ∷ [])) ≡ filter (stands_in key) pool ++ (spot location b ∷ []) =
            filter-append (stands_in key) pool (spot location b ∷ []) ∙ ap (λ l. filter (stands_in key) pool ++ l) (filter-yes (stands_in key) (spot location b) [] stands) in
            subst (λ (l : List CoreBranch). AllShow items l (filter (stands_in other) (pool ++ (spot location b ∷ [])))) (sym (ap (λ t. if t then queues key ++ (c ∷ []) else queues other) same))
            (subst (λ (k : Key). AllShow items (queues key ++ (c ∷ [])) (filter (stands_in k) (pool ++ (spot location b ∷ [])))) e
            (subst (AllShow items (queues key ++ (c ∷ []))) (sym new) (show-append (queues key) (c ∷ []) (filter (stands_in key) pool) (spot location b ∷ []) (shows.each key) (one, tt)))))
        | inr apart ↦ (let stands : stands_in other (spot location b) ≡ false = stands-key other location b ∙ ap (λ k. same_key k other) is ∙ apart in
            let new : filter (stands_in other) (pool ++ (spot location b ∷ [])) ≡ filter (stands_in other) pool =
            filter-append (stands_in other) pool (spot location b ∷ []) ∙ ap (λ l. filter (stands_in other) pool ++ l) (filter-no (stands_in other) (spot location b) [] stands) ∙ append-nil (filter (stands_in other) pool) in
            subst (λ (l : List CoreBranch). AllShow items l (filter (stands_in other) (pool ++ (spot location b ∷ [])))) (sym (ap (λ t. if t then queues key ++ (c ∷ []) else queues other) apart))
            (subst (AllShow items (queues other)) (sym new) (shows.each other)))
      ];
      hands = λ v. subst (AllByRecursion (λ one. one.location ≡ in_hand_at v (holds v))) (sym (filter-append (stands_in (Hand v)) pool (spot location b ∷ [])))
          (each-append (λ one. one.location ≡ in_hand_at v (holds v)) (filter (stands_in (Hand v)) pool) (filter (stands_in (Hand v)) (spot location b ∷ [])) (shows.hands v)
          (elim (each_way (stands_in (Hand v) (spot location b))) [
            | inl p ↦ subst (AllByRecursion (λ one. one.location ≡ in_hand_at v (holds v))) (sym (filter-yes (stands_in (Hand v)) (spot location b) [] p))
                (hand v (sym is ∙ same-key-is (key_of location) (Hand v) (sym (stands-key (Hand v) location b) ∙ p)), tt)
            | inr f ↦ subst (AllByRecursion (λ one. one.location ≡ in_hand_at v (holds v))) (sym (filter-no (stands_in (Hand v)) (spot location b) [] f)) tt
          ]));
      single = λ other single. elim (each_way (same_key key other)) [
        | inl same ↦ (let e = same-key-is key other same in
            let none : queues key ≡ [] = empty (subst IsSingle (sym e) single) in
            let k = ap (λ t. length (if t then queues key ++ (c ∷ []) else queues other)) same in let m = ap (λ l. length (l ++ (c ∷ []))) none in omega (arith, k, m))
        | inr apart ↦ (let few = shows.single other single in let k = ap (λ t. length (if t then queues key ++ (c ∷ []) else queues other)) apart in omega (arith, k, few))
      ];
      early = each-append (λ one. IsEarly one.location one.branch.steps) pool (spot location b ∷ []) shows.early (early, tt);
    }

    -- what an empty hand holds may change
    pub held-changed : (v : ℕ) (holds' : ℕ → Option ℕ) → queues (Hand v) ≡ [] → ((u : ℕ) → nat_eq v u ≡ false → holds u ≡ holds' u) → ShowsPool items queues holds' pool
    held-changed v holds' none same = record {
      each = shows.each;
      hands = λ u. elim (each_way (nat_eq v u)) [
        | inl is ↦ (let e : v ≡ u = nat-same v u is in
            let nobody : filter (stands_in (Hand v)) pool ≡ [] = show-none (filter (stands_in (Hand v)) pool) (subst (λ (l : List CoreBranch). AllShow items l (filter (stands_in (Hand v)) pool)) none (shows.each (Hand v))) in
            subst (λ (k : ℕ). AllByRecursion (λ one. one.location ≡ in_hand_at k (holds' k)) (filter (stands_in (Hand k)) pool)) e
            (subst (AllByRecursion (λ one. one.location ≡ in_hand_at v (holds' v))) (sym nobody) tt))
        | inr apart ↦ subst (λ (o : Option ℕ). AllByRecursion (λ one. one.location ≡ in_hand_at u o) (filter (stands_in (Hand u)) pool)) (same u apart) (shows.hands u)
      ];
      single = shows.single;
      early = shows.early;
    }

pub key-listed : (v : ℕ) → key_of (Listed v) ≡ Row v
unfolding key_of
key-listed v = refl

pub key-runs : (v : ℕ) → key_of (Runs v) ≡ Hand v
unfolding key_of
key-runs v = refl

pub key-holds : (v join : ℕ) → key_of (Holds v join) ≡ Hand v
unfolding key_of
key-holds v join = refl

pub key-at-cell : (cell : ℕ) → key_of (AtCell cell) ≡ Waiting cell
unfolding key_of
key-at-cell cell = refl

pub key-at-join : (join : ℕ) → key_of (AtJoin join) ≡ Parent join
unfolding key_of
key-at-join join = refl
