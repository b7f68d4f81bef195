-- One of a list of which something holds.
use Rattle.std.proofs.Common.{◌≡◌, ℕ, ◌⊎◌, inl, inr, Bool, true, false, not, List, [], ◌∷◌, ◌++◌, Some, None, refl}
use Rattle.std.specs.Prelude.{Option, if◌then◌else◌, nat_eq, filter, map, ◌||◌}
use Rattle.std.specs.List.{AllByRecursion}
use Rattle.merc_script.specs.declared.outcome.Outcome.{Outcome}
use Rattle.merc_script.specs.declared.outcome.Outcome.TheVariants.{Starved}
use Rattle.merc_script.specs.Script.{Script, Ends}
use Rattle.merc_core.specs.Rights.{has, has_in, without}
use Rattle.merc_core.specs.World.{Branch, Location, Listed, Runs, Holds, Spot, spot}
use Rattle.merc_core.specs.Events.{parked, awaits, ended, listed_backwards, placed, woken, wake, unchanged, poison, hold_one, hold_if}
use Rattle.merc_core.proofs.Pool.{Takes, here, there, each_way}
use Rattle.merc_core.proofs.TruthSteps.{either_true, is_same, test_same}
use Rattle.merc_core.proofs.Live.{AnyOf}

pub any-weaker : {A : Type 0} (Is Each Also : A → Type 0) → ((x : A) → Is x → Each x → Also x) → (xs : List A) → AnyOf Is xs → AllByRecursion Each xs → AnyOf Also xs
any-weaker Is Each Also weaker [] any all = any
any-weaker Is Each Also weaker (x ∷ xs) (inl one) all = inl (weaker x one all.0)
any-weaker Is Each Also weaker (x ∷ xs) (inr later) all = inr (any-weaker Is Each Also weaker xs later all.1)

pub any-with : {A : Type 0} (Is Each : A → Type 0) (So : Type 0) → ((x : A) → Is x → Each x → So) → (xs : List A) → AnyOf Is xs → AllByRecursion Each xs → So
any-with Is Each So so [] any all = absurd any
any-with Is Each So so (x ∷ xs) (inl one) all = so x one all.0
any-with Is Each So so (x ∷ xs) (inr later) all = any-with Is Each So so xs later all.1

pub any-front : {A : Type 0} (Is : A → Type 0) (xs ys : List A) → AnyOf Is xs → AnyOf Is (xs ++ ys)
any-front Is [] ys any = absurd any
any-front Is (x ∷ xs) ys (inl one) = inl one
any-front Is (x ∷ xs) ys (inr later) = inr (any-front Is xs ys later)

pub any-back : {A : Type 0} (Is : A → Type 0) (xs ys : List A) → AnyOf Is ys → AnyOf Is (xs ++ ys)
any-back Is [] ys any = any
any-back Is (x ∷ xs) ys any = inr (any-back Is xs ys any)

pub any-takes : (Is : Spot → Type 0) {xs : List Spot} {y : Spot} {ys : List Spot} → Takes xs y ys → AnyOf Is xs → Is y ⊎ AnyOf Is ys
any-takes Is (here x xs) any = any
any-takes Is (there x y xs ys takes) (inl here') = inr (inl here')
any-takes Is (there x y xs ys takes) (inr later) = elim (any-takes Is takes later) [ inl one ↦ inl one | inr other ↦ inr (inr other) ]

-- one that was taken and is put back, changed
pub any-put : (Is : Spot → Type 0) {xs : List Spot} {y : Spot} {ys : List Spot} (z : Spot) → Takes xs y ys → (Is y → Is z) → AnyOf Is xs → AnyOf Is (ys ++ (z ∷ []))
any-put Is {xs} {y} {ys} z takes keeps any = elim (any-takes Is takes any) [ inl one ↦ any-back Is ys (z ∷ []) (inl (keeps one)) | inr other ↦ any-front Is ys (z ∷ []) other ]

pub any-mapped : {A : Type 0} (Is : A → Type 0) (change : A → A) → ((x : A) → Is x → Is (change x)) → (xs : List A) → AnyOf Is xs → AnyOf Is (map change xs)
any-mapped Is change keeps [] any = any
any-mapped Is change keeps (x ∷ xs) (inl one) = inl (keeps x one)
any-mapped Is change keeps (x ∷ xs) (inr later) = inr (any-mapped Is change keeps xs later)

either-list : {A : Type 0} (Is : A → Type 0) (at : Bool) (x : A) (stay go : List A) (change : A → A) → ((x : A) → Is x → Is (change x)) → Is x ⊎ (AnyOf Is stay ⊎ AnyOf Is (map change go))
    → AnyOf Is (if not at then x ∷ stay else stay) ⊎ AnyOf Is (map change (if at then x ∷ go else go))
either-list Is true x stay go change keeps (inl one) = inr (inl (keeps x one))
either-list Is true x stay go change keeps (inr (inl any)) = inl any
either-list Is true x stay go change keeps (inr (inr any)) = inr (inr any)
either-list Is false x stay go change keeps (inl one) = inl (inl one)
either-list Is false x stay go change keeps (inr (inl any)) = inl (inr any)
either-list Is false x stay go change keeps (inr (inr any)) = inr any

any-split : {A : Type 0} (Is : A → Type 0) (test : A → Bool) (change : A → A) → ((x : A) → Is x → Is (change x)) → (xs : List A) → AnyOf Is xs
    → AnyOf Is (filter (λ x. not (test x)) xs) ⊎ AnyOf Is (map change (filter test xs))
any-split Is test change keeps [] any = absurd any
any-split Is test change keeps (x ∷ xs) (inl one) = either-list Is (test x) x (filter (λ y. not (test y)) xs) (filter test xs) change keeps (inl one)
any-split Is test change keeps (x ∷ xs) (inr later) = either-list Is (test x) x (filter (λ y. not (test y)) xs) (filter test xs) change keeps (inr (any-split Is test change keeps xs later))

pub any-moved : {A : Type 0} (Is : A → Type 0) (test : A → Bool) (change : A → A) → ((x : A) → Is x → Is (change x)) → (xs : List A) → AnyOf Is xs
    → AnyOf Is (filter (λ x. not (test x)) xs ++ map change (filter test xs))
any-moved Is test change keeps xs any = elim (any-split Is test change keeps xs any) [
  | inl stay ↦ any-front Is (filter (λ x. not (test x)) xs) (map change (filter test xs)) stay
  | inr go ↦ any-back Is (filter (λ x. not (test x)) xs) (map change (filter test xs)) go
]

-- what does not depend on where a branch is and on what is left of its script is kept by waking, poisoning and holding
module _ (Is : Spot → Type 0) (keeps : (location : Location) (rest : Script) (x : Spot) → Is x → Is (spot location (record x.branch { rest = rest }))) where
  pub any-wake : (cell v : ℕ) (xs : List Spot) → AnyOf Is xs → AnyOf Is (wake cell v unchanged xs)
  any-wake cell v xs any = any-moved Is (parked cell) (woken v unchanged) (λ x is. keeps (Listed v) x.branch.rest x is) xs any

  pub any-poison : (cells : List ℕ) (v : ℕ) (xs : List Spot) → AnyOf Is xs → AnyOf Is (poison cells v xs)
  any-poison [] v xs any = any
  any-poison (cell ∷ cells) v xs any = any-poison cells v (wake cell v (ended Starved) xs) (any-moved Is (parked cell) (woken v (ended Starved)) (λ x is. keeps (Listed v) (Ends Starved) x is) xs any)

  hold-keeps : (v number : ℕ) (x : Spot) (at : Bool) → Is x → Is (if at then spot (Holds v number) x.branch else x)
  hold-keeps v number x true is = keeps (Holds v number) x.branch.rest x is
  hold-keeps v number x false is = is

  pub any-hold : (v number : ℕ) (xs : List Spot) (outcomes : Option (List Outcome)) → AnyOf Is xs → AnyOf Is (hold_if v number xs outcomes)
  any-hold v number xs None any = any
  any-hold v number xs (Some outcomes) any = any-mapped Is (hold_one v number) (λ x is. hold-keeps v number x (awaits number x) is) xs any

-- among branches that are placed
any-backwards : (Is : Spot → Type 0) (v : ℕ) (kids : List Branch) → AnyOf (λ kid. (location : Location) → Is (spot location kid)) kids → AnyOf Is (listed_backwards v kids)
any-backwards Is v [] any = any
any-backwards Is v (kid ∷ kids) (inl one) = any-back Is (listed_backwards v kids) (spot (Listed v) kid ∷ []) (inl (one (Listed v)))
any-backwards Is v (kid ∷ kids) (inr later) = any-front Is (listed_backwards v kids) (spot (Listed v) kid ∷ []) (any-backwards Is v kids later)

pub any-placed : (Is : Spot → Type 0) (v : ℕ) (kids : List Branch) → AnyOf (λ kid. (location : Location) → Is (spot location kid)) kids → AnyOf Is (placed v kids)
any-placed Is v [] any = any
any-placed Is v (kid ∷ kids) (inl one) = inl (one (Runs v))
any-placed Is v (kid ∷ kids) (inr later) = inr (any-backwards Is v kids later)

-- numbers

pub has-append : (c : ℕ) (xs ys : List ℕ) → has c (xs ++ ys) ≡ (has c xs || has c ys)
has-append c [] ys = refl
has-append c (x ∷ xs) ys = rw (has-append c xs ys) (or-assoc (nat_eq x c) (has c xs) (has c ys))
  where
    or-assoc : (a b d : Bool) → (a || (b || d)) ≡ ((a || b) || d)
    or-assoc true b d = refl
    or-assoc false b d = refl

pub or-left : (a b : Bool) → a ≡ true → (a || b) ≡ true
or-left a b is = rw is refl

pub or-right : (a b : Bool) → b ≡ true → (a || b) ≡ true
or-right true b is = refl
or-right false b is = is

pub has-front : (c : ℕ) (xs ys : List ℕ) → has c xs ≡ true → has c (xs ++ ys) ≡ true
has-front c xs ys is = rw (has-append c xs ys) (or-left (has c xs) (has c ys) is)

pub has-back : (c : ℕ) (xs ys : List ℕ) → has c ys ≡ true → has c (xs ++ ys) ≡ true
has-back c xs ys is = rw (has-append c xs ys) (or-right (has c xs) (has c ys) is)

pub has-in-front : (c : ℕ) (xs ys : List (List ℕ)) → has_in c xs ≡ true → has_in c (xs ++ ys) ≡ true
has-in-front c [] ys is = absurd (cc)
has-in-front c (x ∷ xs) ys is = elim (either_true (has c x) (has_in c xs) is) [
  | inl one ↦ or-left (has c x) (has_in c (xs ++ ys)) one
  | inr later ↦ or-right (has c x) (has_in c (xs ++ ys)) (has-in-front c xs ys later)
]

pub has-in-last : (c : ℕ) (xs : List (List ℕ)) (last : List ℕ) → has c last ≡ true → has_in c (xs ++ (last ∷ [])) ≡ true
has-in-last c [] last is = or-left (has c last) false is
has-in-last c (x ∷ xs) last is = or-right (has c x) (has_in c (xs ++ (last ∷ []))) (has-in-last c xs last is)

-- what has not gone is still there
pub has-without : (c : ℕ) (gone xs : List ℕ) → has c xs ≡ true → has c gone ≡ false → has c (without gone xs) ≡ true
has-without c gone [] is none = absurd (cc)
has-without c gone (x ∷ xs) is none = elim (either_true (nat_eq x c) (has c xs) is) [
  | inl one ↦ kept (test_same x c one)
  | inr later ↦ after (has x gone) (has-without c gone xs later none)
]
  where
    kept : x ≡ c → has c (if not (has x gone) then x ∷ without gone xs else without gone xs) ≡ true
    kept same = rw (same, none, is_same c) refl

    after : (b : Bool) → has c (without gone xs) ≡ true → has c (if not b then x ∷ without gone xs else without gone xs) ≡ true
    after true there' = there'
    after false there' = or-right (nat_eq x c) (has c (without gone xs)) there'

-- one that passes a test has its number among those of the ones that pass
pub among : {A : Type 0} (number : A → ℕ) (test : A → Bool) (x : A) (xs : List A) → AnyOf (λ y. y ≡ x) xs → test x ≡ true → has (number x) (map number (filter test xs)) ≡ true
among number test x [] any passes = absurd any
among number test x (y ∷ xs) (inl same) passes = rw (same, passes, is_same (number x)) refl
among number test x (y ∷ xs) (inr later) passes = after (test y) (among number test x xs later passes)
  where
    after : (b : Bool) → has (number x) (map number (filter test xs)) ≡ true → has (number x) (map number (if b then y ∷ filter test xs else filter test xs)) ≡ true
    after true there' = or-right (nat_eq (number y) (number x)) (has (number x) (map number (filter test xs))) there'
    after false there' = there'

pub from-among : {A : Type 0} (number : A → ℕ) (test : A → Bool) (c : ℕ) (xs : List A) → has c (map number (filter test xs)) ≡ true → AnyOf (λ x. (number x ≡ c) × (test x ≡ true)) xs
from-among number test c [] is = absurd (cc)
from-among number test c (x ∷ xs) is = elim (each_way (test x)) [
  | inl passes ↦ elim (either_true (nat_eq (number x) c) (has c (map number (filter test xs))) (rw passes at is)) [
    | inl one ↦ inl (test_same (number x) c one, passes)
    | inr later ↦ inr (from-among number test c xs later)
  ]
  | inr fails ↦ inr (from-among number test c xs (rw fails at is))
]

-- each is one of them
in-more : {A : Type 0} (x : A) (all some : List A) → AllByRecursion (λ y. AnyOf (λ z. z ≡ y) all) some → AllByRecursion (λ y. AnyOf (λ z. z ≡ y) (x ∷ all)) some
in-more x all [] is = tt
in-more x all (y ∷ some) is = (inr is.0, in-more x all some is.1)

pub each-in : {A : Type 0} (xs : List A) → AllByRecursion (λ x. AnyOf (λ y. y ≡ x) xs) xs
each-in [] = tt
each-in (x ∷ xs) = (inl refl, in-more x xs xs (each-in xs))
