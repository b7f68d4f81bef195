-- The core's lists show the pool still, where branches are woken or a parent is held.
use Rattle.std.proofs.Common.{◌≡◌, ℕ, ◌≤◌, inl, inr, Bool, true, false, not, List, [], ◌∷◌, ◌++◌, Some, refl, ap, sym, ◌∙◌, subst, arith, length}
use Rattle.std.proofs.lemmas.List.{append-nil}
use Rattle.std.specs.Prelude.{Option, filter, map, if◌then◌else◌}
use Rattle.std.specs.List.{AllByRecursion}
use Rattle.merc_script.specs.declared.items.Item.{Item}
use Rattle.merc_core.specs.declared.branch.Branch.{Branch as CoreBranch}
use Rattle.merc_core.specs.World.{Branch, Location, Listed, Runs, Holds, AtCell, AtJoin, Spot, spot}
use Rattle.merc_core.specs.Events.{parked, awaits, woken, wake, hold, hold_one}
use Rattle.merc_core.specs.WellFormed.{most_steps}
use Rattle.merc_core.specs.Mirror.{Key, Hand, Row, Waiting, Parent, same_key, stands_in, in_hand_at, Shows, AllShow, IsEarly, IsSingle, ShowsPool}
use Rattle.merc_core.proofs.Pool.{each_way, each-append, each-filter, each-mapped, each-always}
use Rattle.merc_core.proofs.Filters.{filter-yes, filter-no, filter-append}
use Rattle.merc_core.proofs.PoolShows.{key-listed, key-holds, stands-key, stands-apart, same-key-is, same-key-self, with_queue, show-append, show-changed, show-none}

filter-stay : (test gone : Spot → Bool) → ((x : Spot) → gone x ≡ true → test x ≡ false) → (xs : List Spot) → filter test (filter (λ x. not (gone x)) xs) ≡ filter test xs
filter-stay test gone apart [] = refl
filter-stay test gone apart (x ∷ xs) =
    elim (each_way (gone x)) [
      | inl is ↦ ap (filter test) (filter-no (λ y. not (gone y)) x xs (ap not is)) ∙ filter-stay test gone apart xs ∙ sym (filter-no test x xs (apart x is))
      | inr is ↦ ap (filter test) (filter-yes (λ y. not (gone y)) x xs (ap not is)) ∙ ap (λ l. if test x then x ∷ l else l) (filter-stay test gone apart xs)
    ]

filter-stay-none : (gone : Spot → Bool) (xs : List Spot) → filter gone (filter (λ x. not (gone x)) xs) ≡ []
filter-stay-none gone [] = refl
filter-stay-none gone (x ∷ xs) =
    elim (each_way (gone x)) [
      | inl is ↦ ap (filter gone) (filter-no (λ y. not (gone y)) x xs (ap not is)) ∙ filter-stay-none gone xs
      | inr is ↦ ap (filter gone) (filter-yes (λ y. not (gone y)) x xs (ap not is)) ∙ filter-no gone x (filter (λ y. not (gone y)) xs) is ∙ filter-stay-none gone xs
    ]

filter-all : (test : Spot → Bool) (change : Spot → Spot) → ((x : Spot) → test (change x) ≡ true) → (xs : List Spot) → filter test (map change xs) ≡ map change xs
filter-all test change all [] = refl
filter-all test change all (x ∷ xs) = filter-yes test (change x) (map change xs) (all x) ∙ ap (λ l. change x ∷ l) (filter-all test change all xs)

filter-nothing : (test : Spot → Bool) (change : Spot → Spot) → ((x : Spot) → test (change x) ≡ false) → (xs : List Spot) → filter test (map change xs) ≡ []
filter-nothing test change none [] = refl
filter-nothing test change none (x ∷ xs) = filter-no test (change x) (map change xs) (none x) ∙ filter-nothing test change none xs

module _ (v : ℕ) (change : Branch → Branch) where
  woken-yes : (key : Key) → same_key (Row v) key ≡ true → (x : Spot) → stands_in key (woken v change x) ≡ true
  woken-yes key same x = stands-key key (Listed v) (change x.branch) ∙ ap (λ k. same_key k key) (key-listed v) ∙ same

  woken-no : (key : Key) → same_key (Row v) key ≡ false → (x : Spot) → stands_in key (woken v change x) ≡ false
  woken-no key same x = stands-key key (Listed v) (change x.branch) ∙ ap (λ k. same_key k key) (key-listed v) ∙ same

module _ (cell v : ℕ) (change : Branch → Branch) (pool : List Spot) where
  wake-row : (key : Key) → same_key (Row v) key ≡ true → filter (stands_in key) (wake cell v change pool) ≡ filter (stands_in key) pool ++ map (woken v change) (filter (parked cell) pool)
  wake-row key same =
      filter-append (stands_in key) (filter (λ x. not (parked cell x)) pool) (map (woken v change) (filter (parked cell) pool))
      ∙ ap (λ l. l ++ filter (stands_in key) (map (woken v change) (filter (parked cell) pool)))
      (filter-stay (stands_in key) (parked cell) (λ x stands. stands-apart (Waiting cell) key x stands (apart-from-row key same)) pool)
      ∙ ap (λ l. filter (stands_in key) pool ++ l) (filter-all (stands_in key) (woken v change) (woken-yes v change key same) (filter (parked cell) pool))
    where
      apart-from-row : (k : Key) → same_key (Row v) k ≡ true → same_key (Waiting cell) k ≡ false
      apart-from-row (Hand w) same = absurd (cc)
      apart-from-row (Row w) same = refl
      apart-from-row (Waiting w) same = absurd (cc)
      apart-from-row (Parent w) same = absurd (cc)

  wake-other : (key : Key) → same_key (Row v) key ≡ false → same_key (Waiting cell) key ≡ false → filter (stands_in key) (wake cell v change pool) ≡ filter (stands_in key) pool
  wake-other key other apart =
      filter-append (stands_in key) (filter (λ x. not (parked cell x)) pool) (map (woken v change) (filter (parked cell) pool))
      ∙ ap (λ l. l ++ filter (stands_in key) (map (woken v change) (filter (parked cell) pool)))
      (filter-stay (stands_in key) (parked cell) (λ x stands. stands-apart (Waiting cell) key x stands apart) pool)
      ∙ ap (λ l. filter (stands_in key) pool ++ l) (filter-nothing (stands_in key) (woken v change) (woken-no v change key other) (filter (parked cell) pool))
      ∙ append-nil (filter (stands_in key) pool)

  wake-none : filter (stands_in (Waiting cell)) (wake cell v change pool) ≡ []
  wake-none =
      filter-append (parked cell) (filter (λ x. not (parked cell x)) pool) (map (woken v change) (filter (parked cell) pool))
      ∙ ap (λ l. l ++ filter (parked cell) (map (woken v change) (filter (parked cell) pool))) (filter-stay-none (parked cell) pool)
      ∙ filter-nothing (stands_in (Waiting cell)) (woken v change) (woken-no v change (Waiting cell) refl) (filter (parked cell) pool)

-- those that are parked at a cell go to a worker's list, changed
abbrev pub woken_queues : ℕ → ℕ → (CoreBranch → CoreBranch) → (Key → List CoreBranch) → Key → List CoreBranch
woken_queues cell v f queues = with_queue (Row v) (queues (Row v) ++ map f (queues (Waiting cell))) (with_queue (Waiting cell) [] queues)

-- the parent at a join goes to a worker's hand
abbrev pub held_queues : ℕ → ℕ → (Key → List CoreBranch) → Key → List CoreBranch
held_queues v join queues = with_queue (Hand v) (queues (Parent join)) (with_queue (Parent join) [] queues)

single-row : (v : ℕ) (key : Key) → IsSingle key → same_key (Row v) key ≡ false
single-row v (Hand w) is = refl
single-row v (Row w) is = absurd is
single-row v (Waiting w) is = absurd is
single-row v (Parent w) is = refl

single-cell : (cell : ℕ) (key : Key) → IsSingle key → same_key (Waiting cell) key ≡ false
single-cell cell (Hand w) is = refl
single-cell cell (Row w) is = absurd is
single-cell cell (Waiting w) is = absurd is
single-cell cell (Parent w) is = refl

module _ (items : List Item) (queues : Key → List CoreBranch) (holds : ℕ → Option ℕ) (pool : List Spot) (shows : ShowsPool items queues holds pool) where
  pub wake-shows : (cell v : ℕ) (f : CoreBranch → CoreBranch) (change : Branch → Branch) → ((c : CoreBranch) (b : Branch) → Shows items c b → Shows items (f c) (change b))
      → ShowsPool items (woken_queues cell v f queues) holds (wake cell v change pool)
  wake-shows cell v f change kept = record {
    each = λ key. elim (each_way (same_key (Row v) key)) [
      | inl row ↦ (let is : Row v ≡ key = same-key-is (Row v) key row in
          let here : AllShow items (queues (Row v)) (filter (stands_in key) pool) = subst (λ (k : Key). AllShow items (queues (Row v)) (filter (stands_in k) pool)) is (shows.each (Row v)) in
          let went : AllShow items (map f (queues (Waiting cell))) (map (woken v change) (filter (parked cell) pool)) =
          show-changed items f (woken v change) (λ c x one. kept c x.branch one) (queues (Waiting cell)) (filter (parked cell) pool) (shows.each (Waiting cell)) in
          subst (λ (l : List CoreBranch). AllShow items l (filter (stands_in key) (wake cell v change pool)))
          (sym (ap (λ t. if t then queues (Row v) ++ map f (queues (Waiting cell)) else with_queue (Waiting cell) [] queues key) row))
          (subst (AllShow items (queues (Row v) ++ map f (queues (Waiting cell)))) (sym (wake-row cell v change pool key row))
          (show-append items (queues (Row v)) (map f (queues (Waiting cell))) (filter (stands_in key) pool) (map (woken v change) (filter (parked cell) pool)) here went)))
      | inr row ↦ (
          let tail : AllShow items (with_queue (Waiting cell) [] queues key) (filter (stands_in key) (wake cell v change pool)) =
          elim (each_way (same_key (Waiting cell) key)) [
            | inl at ↦ (let is : Waiting cell ≡ key = same-key-is (Waiting cell) key at in
                subst (λ (l : List CoreBranch). AllShow items l (filter (stands_in key) (wake cell v change pool))) (sym (ap (λ t. if t then [] else queues key) at))
                (subst (λ (k : Key). AllShow items [] (filter (stands_in k) (wake cell v change pool))) is (subst (AllShow items []) (sym (wake-none cell v change pool)) tt)))
            | inr at ↦
                subst (λ (l : List CoreBranch). AllShow items l (filter (stands_in key) (wake cell v change pool))) (sym (ap (λ t. if t then [] else queues key) at))
                (subst (AllShow items (queues key)) (sym (wake-other cell v change pool key row at)) (shows.each key))
          ] in
          subst (λ (l : List CoreBranch). AllShow items l (filter (stands_in key) (wake cell v change pool)))
          (sym (ap (λ t. if t then queues (Row v) ++ map f (queues (Waiting cell)) else with_queue (Waiting cell) [] queues key) row)) tail)
    ];
    hands = λ u. subst (AllByRecursion (λ one. one.location ≡ in_hand_at u (holds u))) (sym (wake-other cell v change pool (Hand u) refl refl)) (shows.hands u);
    single = λ key is.
        let few = shows.single key is in
        let a = ap (λ t. length (if t then queues (Row v) ++ map f (queues (Waiting cell)) else with_queue (Waiting cell) [] queues key)) (single-row v key is) in
        let b = ap (λ t. length (if t then [] else queues key)) (single-cell cell key is) in omega (arith, a, b, few);
    early = each-append (λ one. IsEarly one.location one.branch.steps) (filter (λ x. not (parked cell x)) pool) (map (woken v change) (filter (parked cell) pool))
        (each-filter (λ one. IsEarly one.location one.branch.steps) (λ x. not (parked cell x)) pool shows.early)
        (each-mapped (λ _. Unit {0}) (λ one. IsEarly one.location one.branch.steps) (woken v change) (λ x _. tt) (filter (parked cell) pool) (each-always (λ _. Unit {0}) (λ _. tt) (filter (parked cell) pool)));
  }

-- Holding

map-same : (cs : List CoreBranch) → map (λ c. c) cs ≡ cs
map-same [] = refl
map-same (c ∷ cs) = ap (λ l. c ∷ l) (map-same cs)

hold-yes : (v join : ℕ) (x : Spot) → awaits join x ≡ true → hold_one v join x ≡ spot (Holds v join) x.branch
hold-yes v join x is = ap (λ t. if t then spot (Holds v join) x.branch else x) is

hold-no : (v join : ℕ) (x : Spot) → awaits join x ≡ false → hold_one v join x ≡ x
hold-no v join x is = ap (λ t. if t then spot (Holds v join) x.branch else x) is

module _ (v join : ℕ) where
  holds-key : (key : Key) (x : Spot) (b : Bool) → same_key (Hand v) key ≡ b → stands_in key (spot (Holds v join) x.branch) ≡ b
  holds-key key x b same = stands-key key (Holds v join) x.branch ∙ ap (λ k. same_key k key) (key-holds v join) ∙ same

  hold-other : (key : Key) → same_key (Hand v) key ≡ false → same_key (Parent join) key ≡ false → (xs : List Spot) → filter (stands_in key) (hold v join xs) ≡ filter (stands_in key) xs
  hold-other key hand at [] = refl
  hold-other key hand at (x ∷ xs) =
      elim (each_way (awaits join x)) [
        | inl is ↦
            ap (λ y. filter (stands_in key) (y ∷ hold v join xs)) (hold-yes v join x is)
            ∙ filter-no (stands_in key) (spot (Holds v join) x.branch) (hold v join xs) (holds-key key x false hand)
            ∙ hold-other key hand at xs ∙ sym (filter-no (stands_in key) x xs (stands-apart (Parent join) key x is at))
        | inr is ↦ ap (λ y. filter (stands_in key) (y ∷ hold v join xs)) (hold-no v join x is) ∙ ap (λ l. if stands_in key x then x ∷ l else l) (hold-other key hand at xs)
      ]

  hold-parent : (xs : List Spot) → filter (stands_in (Parent join)) (hold v join xs) ≡ []
  hold-parent [] = refl
  hold-parent (x ∷ xs) =
      elim (each_way (awaits join x)) [
        | inl is ↦
            ap (λ y. filter (stands_in (Parent join)) (y ∷ hold v join xs)) (hold-yes v join x is)
            ∙ filter-no (stands_in (Parent join)) (spot (Holds v join) x.branch) (hold v join xs) refl ∙ hold-parent xs
        | inr is ↦ ap (λ y. filter (stands_in (Parent join)) (y ∷ hold v join xs)) (hold-no v join x is) ∙ filter-no (stands_in (Parent join)) x (hold v join xs) is ∙ hold-parent xs
      ]

  hold-hand : (xs : List Spot) → filter (stands_in (Hand v)) xs ≡ [] → filter (stands_in (Hand v)) (hold v join xs) ≡ map (λ x. spot (Holds v join) x.branch) (filter (awaits join) xs)
  hold-hand [] none = refl
  hold-hand (x ∷ xs) none =
      elim (each_way (stands_in (Hand v) x)) [
        | inl acting ↦ absurd (let e : x ∷ filter (stands_in (Hand v)) xs ≡ [] = sym (filter-yes (stands_in (Hand v)) x xs acting) ∙ none in cc)
        | inr idle ↦ (let rest = hold-hand xs (sym (filter-no (stands_in (Hand v)) x xs idle) ∙ none) in
            elim (each_way (awaits join x)) [
              | inl is ↦
                  ap (λ y. filter (stands_in (Hand v)) (y ∷ hold v join xs)) (hold-yes v join x is)
                  ∙ filter-yes (stands_in (Hand v)) (spot (Holds v join) x.branch) (hold v join xs) (holds-key (Hand v) x true (same-key-self (Hand v)))
                  ∙ ap (λ l. spot (Holds v join) x.branch ∷ l) rest ∙ sym (ap (map (λ y. spot (Holds v join) y.branch)) (filter-yes (awaits join) x xs is))
              | inr is ↦
                  ap (λ y. filter (stands_in (Hand v)) (y ∷ hold v join xs)) (hold-no v join x is)
                  ∙ filter-no (stands_in (Hand v)) x (hold v join xs) idle ∙ rest ∙ sym (ap (map (λ y. spot (Holds v join) y.branch)) (filter-no (awaits join) x xs is))
            ])
      ]

  early-parent : (location : Location) (b : Branch) → awaits join (spot location b) ≡ true → IsEarly location b.steps → b.steps ≤ most_steps
  early-parent (AtJoin other) b is early = early
  early-parent (Listed w) b is early = absurd (cc)
  early-parent (Runs w) b is early = absurd (cc)
  early-parent (Holds w other) b is early = absurd (cc)
  early-parent (AtCell cell) b is early = absurd (cc)

  early-held : (x : Spot) → IsEarly x.location x.branch.steps → IsEarly (hold_one v join x).location (hold_one v join x).branch.steps
  early-held x early =
      elim (each_way (awaits join x)) [
        | inl is ↦ subst (λ (y : Spot). IsEarly y.location y.branch.steps) (sym (hold-yes v join x is)) (early-parent x.location x.branch is early)
        | inr is ↦ subst (λ (y : Spot). IsEarly y.location y.branch.steps) (sym (hold-no v join x is)) early
      ]

module _ (items : List Item) (queues : Key → List CoreBranch) (holds : ℕ → Option ℕ) (pool : List Spot) (shows : ShowsPool items queues holds pool) where
  pub hold-shows : (v join : ℕ) → queues (Hand v) ≡ [] → holds v ≡ Some join → ShowsPool items (held_queues v join queues) holds (hold v join pool)
  hold-shows v join none held =
      let nobody : filter (stands_in (Hand v)) pool ≡ [] = show-none items (filter (stands_in (Hand v)) pool) (subst (λ (l : List CoreBranch). AllShow items l (filter (stands_in (Hand v)) pool)) none (shows.each (Hand v))) in
      record {
        each = λ key. elim (each_way (same_key (Hand v) key)) [
          | inl hand ↦ (let is : Hand v ≡ key = same-key-is (Hand v) key hand in
              let all : AllShow items (map (λ c. c) (queues (Parent join))) (map (λ x. spot (Holds v join) x.branch) (filter (awaits join) pool)) =
              show-changed items (λ c. c) (λ x. spot (Holds v join) x.branch) (λ c x one. one) (queues (Parent join)) (filter (awaits join) pool) (shows.each (Parent join)) in
              subst (λ (l : List CoreBranch). AllShow items l (filter (stands_in key) (hold v join pool)))
              (sym (ap (λ t. if t then queues (Parent join) else with_queue (Parent join) [] queues key) hand))
              (subst (λ (k : Key). AllShow items (queues (Parent join)) (filter (stands_in k) (hold v join pool))) is
              (subst (AllShow items (queues (Parent join))) (sym (hold-hand v join pool nobody))
              (subst (λ (l : List CoreBranch). AllShow items l (map (λ x. spot (Holds v join) x.branch) (filter (awaits join) pool))) (map-same (queues (Parent join))) all))))
          | inr hand ↦ (
              let tail : AllShow items (with_queue (Parent join) [] queues key) (filter (stands_in key) (hold v join pool)) =
              elim (each_way (same_key (Parent join) key)) [
                | inl at ↦ (let is : Parent join ≡ key = same-key-is (Parent join) key at in
                    subst (λ (l : List CoreBranch). AllShow items l (filter (stands_in key) (hold v join pool))) (sym (ap (λ t. if t then [] else queues key) at))
                    (subst (λ (k : Key). AllShow items [] (filter (stands_in k) (hold v join pool))) is (subst (AllShow items []) (sym (hold-parent v join pool)) tt)))
                | inr at ↦
                    subst (λ (l : List CoreBranch). AllShow items l (filter (stands_in key) (hold v join pool))) (sym (ap (λ t. if t then [] else queues key) at))
                    (subst (AllShow items (queues key)) (sym (hold-other v join key hand at pool)) (shows.each key))
              ] in
              subst (λ (l : List CoreBranch). AllShow items l (filter (stands_in key) (hold v join pool)))
              (sym (ap (λ t. if t then queues (Parent join) else with_queue (Parent join) [] queues key) hand)) tail)
        ];
        hands = λ u. elim (each_way (same_key (Hand v) (Hand u))) [
          | inl same ↦ (let is : Hand v ≡ Hand u = same-key-is (Hand v) (Hand u) same in let e : v ≡ u = cc in
              subst (λ (w : ℕ). AllByRecursion (λ one. one.location ≡ in_hand_at w (holds w)) (filter (stands_in (Hand w)) (hold v join pool))) e
              (subst (AllByRecursion (λ one. one.location ≡ in_hand_at v (holds v))) (sym (hold-hand v join pool nobody))
              (each-mapped (λ _. Unit {0}) (λ one. one.location ≡ in_hand_at v (holds v)) (λ x. spot (Holds v join) x.branch) (λ x _. sym (ap (in_hand_at v) held))
              (filter (awaits join) pool) (each-always (λ _. Unit {0}) (λ _. tt) (filter (awaits join) pool)))))
          | inr same ↦ subst (AllByRecursion (λ one. one.location ≡ in_hand_at u (holds u))) (sym (hold-other v join (Hand u) same refl pool)) (shows.hands u)
        ];
        single = λ key is. elim (each_way (same_key (Hand v) key)) [
          | inl hand ↦ (let few = shows.single (Parent join) tt in
              let a = ap (λ t. length (if t then queues (Parent join) else with_queue (Parent join) [] queues key)) hand in omega (arith, a, few))
          | inr hand ↦ (
              let a = ap (λ t. length (if t then queues (Parent join) else with_queue (Parent join) [] queues key)) hand in
              let few = shows.single key is in
              elim (each_way (same_key (Parent join) key)) [
                | inl at ↦ (let b = ap (λ t. length (if t then [] else queues key)) at in omega (arith, a, b))
                | inr at ↦ (let b = ap (λ t. length (if t then [] else queues key)) at in omega (arith, a, b, few))
              ])
        ];
        early = each-mapped (λ one. IsEarly one.location one.branch.steps) (λ one. IsEarly one.location one.branch.steps) (hold_one v join) (early-held v join) pool shows.early;
      }
