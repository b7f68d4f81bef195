-- A worker runs or holds one branch at most, and a join has one parent at most.
use Rattle.std.proofs.Common.{◌≡◌, ℕ, suc, ◌+◌, ◌≤◌, inl, inr, Bool, true, false, List, [], ◌∷◌, ◌++◌, Some, None, refl, ap, sym, ◌∙◌, subst, arith, length}
use Rattle.std.proofs.lemmas.List.{length-append}
use Rattle.std.proofs.lemmas.Bool.Decides.{nat_tests}
use Rattle.std.specs.Prelude.{Option, slice_get, if◌then◌else◌, nat_eq, filter, map, find}
use Rattle.merc_script.specs.declared.outcome.Outcome.{Outcome}
use Rattle.merc_script.specs.declared.outcome.Outcome.TheVariants.{Starved}
use Rattle.merc_script.specs.Script.{Script, TickThen, WaitThen, SignalThen, ForkThen, Children, sizes}
use Rattle.merc_script.specs.Joining.{joined}
use Rattle.merc_core.specs.declared.event.Event.{Event}
use Rattle.merc_core.specs.World.{Branch, Location, Listed, Runs, Holds, AtCell, AtJoin, Spot, spot, Join, World, start, outcomes_of}
use Rattle.merc_core.specs.Events.{acts, acts_at, parked, awaits, in_hand, past_tick, past_signal, past_wait, ended, go_behind, spawned, listed_backwards, placed, parent_behind, woken, wake, unchanged, poison, hold_one, hold_if, forked, signalled, finished, stored_with}
use Rattle.merc_core.specs.Laws.{LeadsTo, spot_of, is_parent_at, is_parent, EachSingle}
use Rattle.merc_core.proofs.Pool.{Takes, chosen, each_way, each-always}
use Rattle.merc_core.proofs.Steps.{
  with_rest,
  put_back,
  Step,
  ticked,
  forks,
  signals as signals_it,
  passes,
  starves,
  parks,
  finishes,
  takes_up,
  resumes,
  run-keeps,
}
use Rattle.merc_core.proofs.TruthSteps.{test_same}
use Rattle.merc_core.proofs.Measure.{total, total-takes, total-append, total-back, total-changed, total-mapped}
use Rattle.merc_core.proofs.Hands.{hand-found}

abbrev pub one_if : Bool → ℕ
one_if true = 1
one_if false = 0

-- it is acted on by a worker
abbrev pub acting : ℕ → Spot → ℕ
acting v x = one_if (acts v x)

abbrev pub parent_of : ℕ → Spot → ℕ
parent_of number x = one_if (is_parent_at number x.location)

pub record Single (w : World) : Type 0 where
  pub one_hand : (v : ℕ) → total (acting v) w.pool ≤ 1
  pub one_parent : (number : ℕ) → total (parent_of number) w.pool ≤ 1
  pub fresh : (number : ℕ) → length w.joins ≤ number → total (parent_of number) w.pool ≡ 0

-- what depends on the location alone, where a listed branch counts for nothing
module _ (f : Location → ℕ) (listed-none : (v : ℕ) → f (Listed v) ≡ 0) where
  abbrev At : Spot → ℕ
  At x = f x.location

  wake-total : (cell v : ℕ) (change : Branch → Branch) (xs : List Spot) → total At (wake cell v change xs) ≤ total At xs
  wake-total cell v change xs = total-changed At (parked cell) (woken v change) (λ x is. let none = listed-none v in omega arith) xs

  poison-total : (cells : List ℕ) (v : ℕ) (xs : List Spot) → total At (poison cells v xs) ≤ total At xs
  poison-total [] v xs = omega arith
  poison-total (cell ∷ cells) v xs = let k = poison-total cells v (wake cell v (ended Starved) xs) in let m = wake-total cell v (ended Starved) xs in omega arith

  backwards-total : (v : ℕ) (kids : List Branch) → total At (listed_backwards v kids) ≡ 0
  backwards-total v [] = refl
  backwards-total v (kid ∷ kids) = let k = backwards-total v kids in let m = total-back At (listed_backwards v kids) (spot (Listed v) kid) in let none = listed-none v in omega arith

  placed-total : (v : ℕ) (kids : List Branch) → total At (placed v kids) ≤ f (Runs v)
  placed-total v [] = omega arith
  placed-total v (kid ∷ kids) = let k = backwards-total v kids in omega arith

abbrev acting_at : ℕ → Location → ℕ
acting_at v location = one_if (acts_at v location)

abbrev parent_at : ℕ → Location → ℕ
parent_at number location = one_if (is_parent_at number location)

-- holding moves the parents of a join into a hand

one-most : (at : Bool) → one_if at ≤ 1
one-most true = omega arith
one-most false = omega arith

held-other : (v u number : ℕ) (x : Spot) (at : Bool) → nat_eq u v ≡ false → acting v (if at then spot (Holds u number) x.branch else x) ≤ acting v x
held-other v u number x true other = rw other (omega arith)
held-other v u number x false other = omega arith

held-one : (v u number : ℕ) (location : Location) (b : Branch) → acting v (hold_one u number (spot location b)) ≤ acting v (spot location b) + parent_of number (spot location b)
held-one v u number (AtJoin other) b = by-test (nat_eq other number)
  where
    by-test : (at : Bool) → acting v (if at then spot (Holds u number) b else spot (AtJoin other) b) ≤ 0 + one_if at
    by-test true = let k = one-most (nat_eq u v) in omega arith
    by-test false = omega arith
held-one v u number (Listed w) b = omega arith
held-one v u number (Runs w) b = omega arith
held-one v u number (Holds w other) b = omega arith
held-one v u number (AtCell cell) b = omega arith

held-parent : (k u number : ℕ) (location : Location) (b : Branch) → parent_of k (hold_one u number (spot location b)) ≤ parent_of k (spot location b)
held-parent k u number (AtJoin other) b = by-test (nat_eq other number) refl
  where
    by-test : (at : Bool) → nat_eq other number ≡ at → parent_of k (if at then spot (Holds u number) b else spot (AtJoin other) b) ≤ one_if (nat_eq other k)
    by-test true is = let same = test_same other number is in subst (λ (n : ℕ). one_if (nat_eq n k) ≤ one_if (nat_eq other k)) same (omega arith)
    by-test false is = omega arith
held-parent k u number (Listed w) b = omega arith
held-parent k u number (Runs w) b = omega arith
held-parent k u number (Holds w other) b = omega arith
held-parent k u number (AtCell cell) b = omega arith

total-both : (f g : Spot → ℕ) (change : Spot → Spot) → ((x : Spot) → f (change x) ≤ f x + g x) → (xs : List Spot) → total f (map change xs) ≤ total f xs + total g xs
total-both f g change less [] = omega arith
total-both f g change less (x ∷ xs) = let k = total-both f g change less xs in let one = less x in omega arith

hold-other : (v u number : ℕ) (xs : List Spot) (outcomes : Option (List Outcome)) → nat_eq u v ≡ false → total (acting v) (hold_if u number xs outcomes) ≤ total (acting v) xs
hold-other v u number xs None other = omega arith
hold-other v u number xs (Some outcomes) other = total-mapped (acting v) (hold_one u number) (λ x. held-other v u number x (awaits number x) other) xs

hold-one : (v u number : ℕ) (xs : List Spot) (outcomes : Option (List Outcome)) → total (acting v) (hold_if u number xs outcomes) ≤ total (acting v) xs + total (parent_of number) xs
hold-one v u number xs None = omega arith
hold-one v u number xs (Some outcomes) = total-both (acting v) (parent_of number) (hold_one u number) (λ x. held-one v u number x.location x.branch) xs

hold-parent : (k u number : ℕ) (xs : List Spot) (outcomes : Option (List Outcome)) → total (parent_of k) (hold_if u number xs outcomes) ≤ total (parent_of k) xs
hold-parent k u number xs None = omega arith
hold-parent k u number xs (Some outcomes) = total-mapped (parent_of k) (hold_one u number) (λ x. held-parent k u number x.location x.branch) xs

-- a worker that is free acts on nothing
none-total : (v : ℕ) (xs : List Spot) → find (acts v) xs ≡ None → total (acting v) xs ≡ 0
none-total v [] none = refl
none-total v (x ∷ xs) none = elim (chosen (acts v x) (Some x) (find (acts v) xs) None none) [
  | inl now ↦ absurd (let e = now.1 in cc)
  | inr later ↦ let k = none-total v xs later.1 in rw later.0 (omega arith)
]

free-total : (v : ℕ) (w : World) → in_hand v w.pool ≡ None → total (acting v) w.pool ≡ 0
free-total v w free = none-total v w.pool (sym (hand-found (acts v) w.pool) ∙ ap spot_of free)

-- a branch that was taken is put back
back-single : (w : World) (x : Spot) (to : Location) (b : Branch) (others : List Spot) → Takes w.pool x others
    → ((v : ℕ) → acting_at v to ≤ acting v x) → ((number : ℕ) → parent_at number to ≤ parent_of number x) → Single w → Single (put_back w to b others)
back-single w x to b others takes hand parent single = record {
  one_hand = λ v. let t = total-takes (acting v) takes in let k = total-back (acting v) others (spot to b) in let less = hand v in let one = single.one_hand v in omega arith;
  one_parent = λ number. let t = total-takes (parent_of number) takes in let k = total-back (parent_of number) others (spot to b) in let less = parent number in let one = single.one_parent number in omega arith;
  fresh = λ number more. let t = total-takes (parent_of number) takes in let k = total-back (parent_of number) others (spot to b) in let less = parent number in let none = single.fresh number more in omega arith;
}

up-hand : (v u : ℕ) (pool others : List Spot) (at : Bool) → nat_eq u v ≡ at → total (acting u) pool ≡ 0 → total (acting v) others ≤ total (acting v) pool → total (acting v) pool ≤ 1 → total (acting v) others + one_if at ≤ 1
up-hand v u pool others true is free less one = let same = test_same u v is in let none : total (acting v) pool ≡ 0 = rw (← same) free in omega arith
up-hand v u pool others false is free less one = omega arith

up-single : (w : World) (u from : ℕ) (b : Branch) (others : List Spot) → in_hand u w.pool ≡ None → Takes w.pool (spot (Listed from) b) others → Single w → Single (put_back w (Runs u) b others)
up-single w u from b others free takes single = record {
  one_hand = λ v.
      let t = total-takes (acting v) takes in let k = total-back (acting v) others (spot (Runs u) b) in
      let most = up-hand v u w.pool others (nat_eq u v) refl (free-total u w free) (omega arith) (single.one_hand v) in omega arith;
  one_parent = λ number. let t = total-takes (parent_of number) takes in let k = total-back (parent_of number) others (spot (Runs u) b) in let one = single.one_parent number in omega arith;
  fresh = λ number more. let t = total-takes (parent_of number) takes in let k = total-back (parent_of number) others (spot (Runs u) b) in let none = single.fresh number more in omega arith;
}

signal-single : (w : World) (u cell : ℕ) (b : Branch) (rest : Script) (others : List Spot) → Takes w.pool (spot (Runs u) (with_rest b (SignalThen cell rest))) others → Single w → Single (signalled w u b others cell rest)
signal-single w u cell b rest others takes single = record {
  one_hand = λ v.
      let t = total-takes (acting v) takes in let k = total-back (acting v) (wake cell u unchanged others) (spot (Runs u) (past_signal cell b rest)) in
      let m = wake-total (acting_at v) (λ n. refl) cell u unchanged others in let one = single.one_hand v in omega arith;
  one_parent = λ number.
      let t = total-takes (parent_of number) takes in let k = total-back (parent_of number) (wake cell u unchanged others) (spot (Runs u) (past_signal cell b rest)) in
      let m = wake-total (parent_at number) (λ n. refl) cell u unchanged others in let one = single.one_parent number in omega arith;
  fresh = λ number more.
      let t = total-takes (parent_of number) takes in let k = total-back (parent_of number) (wake cell u unchanged others) (spot (Runs u) (past_signal cell b rest)) in
      let m = wake-total (parent_at number) (λ n. refl) cell u unchanged others in let none = single.fresh number more in omega arith;
}

finish-single : (w : World) (u : ℕ) (b : Branch) (o : Outcome) (others : List Spot) → Takes w.pool (spot (Runs u) b) others → Single w → Single (finished w u b others o)
finish-single w u b o others takes single =
    let after = poison b.signals u others in
    let outcomes = outcomes_of (stored_with w b o) b.join (slice_get w.joins b.join) in
    record {
      one_hand = λ v.
          let t = total-takes (acting v) takes in
          let p = poison-total (acting_at v) (λ n. refl) b.signals u others in
          let one = single.one_hand v in
          elim (each_way (nat_eq u v)) [
            | inl same ↦
                let mine : acting v (spot (Runs u) b) ≡ 1 = rw same refl in
                let h = hold-one v u b.join after outcomes in
                let q = poison-total (parent_at b.join) (λ n. refl) b.signals u others in
                let r = total-takes (parent_of b.join) takes in
                let most = single.one_parent b.join in omega arith
            | inr other ↦ let h = hold-other v u b.join after outcomes other in omega arith
          ];
      one_parent = λ number.
          let t = total-takes (parent_of number) takes in let p = poison-total (parent_at number) (λ n. refl) b.signals u others in
          let h = hold-parent number u b.join after outcomes in let one = single.one_parent number in omega arith;
      fresh = λ number more.
          let t = total-takes (parent_of number) takes in let p = poison-total (parent_at number) (λ n. refl) b.signals u others in
          let h = hold-parent number u b.join after outcomes in let none = single.fresh number more in omega arith;
    }

fork-parent : (number k : ℕ) (at : Bool) (sum : ℕ) → nat_eq number k ≡ at → (number ≤ k → sum ≡ 0) → sum ≤ 1 → one_if at + sum ≤ 1
fork-parent number k true sum is none one = let same = test_same number k is in let zero' = none (omega arith) in omega arith
fork-parent number k false sum is none one = omega arith

fork-fresh : (number k : ℕ) → suc number ≤ k → nat_eq number k ≡ false
fork-fresh number k less = grind (arith, nat_tests)

more-joins : (joins : List Join) (new : Join) (n : ℕ) → length (joins ++ (new ∷ [])) ≤ n → suc (length joins) ≤ n
more-joins joins new n more = let l = length-append joins (new ∷ []) in omega arith

fork-single : (w : World) (u : ℕ) (b : Branch) (limit : ℕ) (cells : List _) (moves : List _) (children : Children) (rest : Script) (others : List Spot)
    → Takes w.pool (spot (Runs u) (with_rest b (ForkThen limit cells moves children rest))) others → Single w → Single (forked w u b others limit cells moves children rest)
fork-single w u b limit cells moves children rest others takes single =
    let number = length w.joins in
    let kids = spawned number b cells moves 1 (suc b.at) children in
    let mine = spot (AtJoin number) (parent_behind b cells moves children rest) in
    let new : Join = record { limit = limit; children = children; behind = suc b.at + sizes children; parent = Some (record { join = b.join; child = b.child; name = b.name; passed = b.passed }) } in
    record {
      one_hand = λ v.
          let t = total-takes (acting v) takes in let k = total-append (acting v) others (mine ∷ placed u kids) in let p = placed-total (acting_at v) (λ n. refl) u kids in
          let one = single.one_hand v in omega arith;
      one_parent = λ n.
          let t = total-takes (parent_of n) takes in let k = total-append (parent_of n) others (mine ∷ placed u kids) in let p = placed-total (parent_at n) (λ m. refl) u kids in
          let one = single.one_parent n in
          let most = fork-parent number n (nat_eq number n) (total (parent_of n) others) refl (λ more. let none = single.fresh n more in omega arith) (omega arith) in omega arith;
      fresh = λ n more.
          let t = total-takes (parent_of n) takes in let k = total-append (parent_of n) others (mine ∷ placed u kids) in let p = placed-total (parent_at n) (λ m. refl) u kids in
          let l = more-joins w.joins new n more in
          let none = single.fresh n (omega arith) in
          let apart : parent_of n mine ≡ 0 = rw (fork-fresh number n (omega arith)) refl in omega arith;
    }

pub single-step : (w : World) (e : Event) (w' : World) → Step w e w' → Unit {0} → Single w → Single w'
single-step w _ _ (ticked u b rest others worker takes) may single = back-single w (spot (Runs u) (with_rest b (TickThen rest))) (Runs u) (past_tick b rest) others takes (λ v. omega arith) (λ n. omega arith) single
single-step w _ _ (forks u b limit cells moves children rest others worker takes) may single = fork-single w u b limit cells moves children rest others takes single
single-step w _ _ (signals_it u b cell rest others worker takes) may single = signal-single w u cell b rest others takes single
single-step w _ _ (passes u b cell rest others worker takes full) may single = back-single w (spot (Runs u) (with_rest b (WaitThen cell rest))) (Runs u) (past_wait cell b rest) others takes (λ v. omega arith) (λ n. omega arith) single
single-step w _ _ (starves u b cell rest others worker takes poisoned) may single = back-single w (spot (Runs u) (with_rest b (WaitThen cell rest))) (Runs u) (ended Starved b) others takes (λ v. omega arith) (λ n. omega arith) single
single-step w _ _ (parks u b cell rest others worker takes full poisoned) may single = back-single w (spot (Runs u) (with_rest b (WaitThen cell rest))) (AtCell cell) (past_wait cell b rest) others takes (λ v. omega arith) (λ n. omega arith) single
single-step w _ _ (finishes e u b o others worker takes how) may single = finish-single w u b o others takes single
single-step w _ _ (takes_up e u from b others worker takes-up free takes) may single = up-single w u from b others free takes single
single-step w _ _ (resumes u b number join os others worker takes is all) may single = back-single w (spot (Holds u number) b) (Runs u) (go_behind (joined join.limit os) b) others takes (λ v. omega arith) (λ n. omega arith) single

pub single-start : (root : Script) (workers : ℕ) → Single (start root workers)
single-start root workers = record {
  one_hand = λ v. let k = one-most (nat_eq 0 v) in omega arith;
  one_parent = λ number. omega arith;
  fresh = λ number more. refl;
}

pub single-after : (root : Script) (workers : ℕ) (events : List Event) (w : World) → LeadsTo root workers events w → Single w
single-after root workers events w leads = run-keeps (λ e. Unit {0}) Single single-step events (start root workers) w leads (each-always (λ e. Unit {0}) (λ e. tt) events) (single-start root workers)

-- as numbers of those that pass a test
pub total-passing : (test : Spot → Bool) (xs : List Spot) → total (λ x. one_if (test x)) xs ≡ length (filter test xs)
total-passing test [] = refl
total-passing test (x ∷ xs) = by-test (test x) (total-passing test xs)
  where
    by-test : (at : Bool) → total (λ y. one_if (test y)) xs ≡ length (filter test xs) → one_if at + total (λ y. one_if (test y)) xs ≡ length (if at then x ∷ filter test xs else filter test xs)
    by-test true same = omega arith
    by-test false same = omega arith

pub each_single : EachSingle
each_single root workers events w leads =
    let single = single-after root workers events w leads in
    record {
      one_hand = λ worker. let same = total-passing (acts worker) w.pool in let one = single.one_hand worker in omega arith;
      one_parent = λ number. let same = total-passing (is_parent number) w.pool in let one = single.one_parent number in omega arith;
    }
