-- No right is forgotten: each accepted event keeps what is said of the rights that branches were given.
use Rattle.std.proofs.Common.{◌≡◌, ℕ, suc, ◌+◌, ◌≤◌, ◌<◌, inl, inr, true, not, List, [], ◌∷◌, ◌++◌, Some, None, refl, ap, sym, ◌∙◌, subst, arith, length}
use Rattle.std.proofs.lemmas.Bool.Decides.{nat_tests}
use Rattle.std.specs.Prelude.{Option, slice_get, if◌then◌else◌, nat_eq, filter, map, ◌&&◌}
use Rattle.std.specs.List.{AllByRecursion}
use Rattle.merc_value.specs.Value.{Value}
use Rattle.merc_script.specs.declared.outcome.Outcome.{Outcome}
use Rattle.merc_script.specs.declared.outcome.Outcome.TheVariants.{Ok as Fine, Raise, Limit, Starved, NoMemory}
use Rattle.merc_script.specs.declared.cells.Move.{Move}
use Rattle.merc_script.specs.Script.{Script, SignalThen, ForkThen, Children, NoChild, Child, Cell, count, size, sizes}
use Rattle.merc_script.specs.Places.{left_in, script_named}
use Rattle.merc_script.specs.Joining.{joined}
use Rattle.merc_core.specs.Outcomes.{with_first}
use Rattle.merc_core.specs.declared.event.Event.{Event}
use Rattle.merc_core.specs.World.{Branch, Location, Listed, Runs, Holds, AtCell, AtJoin, Spot, spot, Join, Stored, World, start, stored_at, gathered, outcomes_of}
use Rattle.merc_core.specs.Events.{parked, parked_at, awaits, awaits_at, past_tick, past_signal, past_wait, ended, go_behind, spawned, listed_backwards, placed, parent_behind, woken, wake, unchanged, poison, hold_one, hold_if, forked, signalled, finished, stored_with}
use Rattle.merc_core.specs.Rights.{has, moved, moved_to, made_by, signals_at}
use Rattle.merc_core.specs.WellFormed.{WellFormed, MoveFits, value_in, cells_of}
use Rattle.merc_core.specs.Laws.{LeadsTo, child_name, IsNamedIn, Carries, Stands, AllStand}
use Rattle.merc_core.specs.Given.{given, IsSettled, IsPassedOn, IsGone, AreLeft, nothing, HasLeft, AllSettled, KeepsRights}
use Rattle.merc_core.proofs.Pool.{Takes, chosen, each_way, each-append, each-filter, each-mapped, each-changed, each-weaker, each-always, takes-one, takes-others}
use Rattle.merc_core.proofs.Steps.{
  with_rest,
  put_back,
  Step,
  ticked,
  forks,
  signals as signals_it,
  passes,
  starves,
  parks,
  finishes,
  takes_up,
  resumes,
  run-keeps,
}
use Rattle.merc_core.proofs.Truth.{Truth, truth-start}
use Rattle.merc_core.proofs.TruthSteps.{truth-step, MayLose, get-front, get-last, grown, has-holds, test_same}
use Rattle.merc_core.proofs.Losses.{Excused, Spoiled, excuses, lost-may}
use Rattle.merc_core.proofs.Names.{stand-step}
use Rattle.merc_core.proofs.LiveSteps.{formed-at}
use Rattle.merc_core.proofs.Anys.{has-front, has-back, has-in-front, has-in-last}
use Rattle.merc_core.proofs.Givings.{left-weaker, all-left, left-without, all-hold, given-last, goes-to}

-- the children of a join that is done have outcomes that are stored

stored-each : (ss : List Stored) (j from : ℕ) (all : Children) (os : List Outcome) → gathered ss j from all ≡ Some os → (k : ℕ) → from ≤ k → k < from + count all → (o : Outcome) × (stored_at j k ss ≡ Some o)
stored-each ss j from NoChild os is k low high = absurd (omega arith)
stored-each ss j from (Child first others) os is k low high =
    by-first (stored_at j from ss) (gathered ss j (suc from) others) refl refl is (λ more later above. stored-each ss j (suc from) others more later k above (omega (arith, high)))
  where
    by-first : (one : Option Outcome) (rest : Option (List Outcome)) → stored_at j from ss ≡ one → gathered ss j (suc from) others ≡ rest → with_first one rest ≡ Some os
        → ((more : List Outcome) → gathered ss j (suc from) others ≡ Some more → suc from ≤ k → (o : Outcome) × (stored_at j k ss ≡ Some o)) → (o : Outcome) × (stored_at j k ss ≡ Some o)
    by-first None rest e f is' next = absurd (cc)
    by-first (Some o) None e f is' next = absurd (cc)
    by-first (Some o) (Some more) e f is' next = elim (each_way (nat_eq from k)) [
      | inl here ↦ (o, subst (λ (n : ℕ). stored_at j n ss ≡ Some o) (test_same from k here) e)
      | inr other ↦ next more f (let apart : from ≡ k → ⊥ = λ same. grind (arith, nat_tests, other, same) in grind (arith, nat_tests, other, low))
    ]

stored-is : (Is : ℕ → ℕ → Type 0) (j k : ℕ) (ss : List Stored) (o : Outcome) → AllByRecursion (λ s. Is s.join s.child) ss → stored_at j k ss ≡ Some o → Is j k
stored-is Is j k [] o all is = absurd (cc)
stored-is Is j k (s ∷ ss) o all is =
    elim (chosen (nat_eq s.join j && nat_eq s.child k) (Some s.outcome) (stored_at j k ss) (Some o) is) [
      | inl p ↦ (let join : s.join ≡ j = grind (arith, nat_tests, p.0) in let child : s.child ≡ k = grind (arith, nat_tests, p.0) in
          subst (λ (n : ℕ). Is n k) join (subst (λ (n : ℕ). Is s.join n) child all.0))
      | inr p ↦ stored-is Is j k ss o all.1 p.1
    ]

module _ (root : Script) where
  -- what is gone stays gone
  module _ (full : List ℕ) (poisoned : List (List ℕ)) (joins : List Join) (full' : List ℕ) (poisoned' : List (List ℕ)) (joins' : List Join)
      (settles : (c : ℕ) → IsSettled full poisoned c → IsSettled full' poisoned' c) (passed : (number c : ℕ) → IsPassedOn root joins number c → IsPassedOn root joins' number c) where
    gone-still : (location : Location) (c : ℕ) → IsGone root full poisoned joins location c → IsGone root full' poisoned' joins' location c
    gone-still (Listed v) c gone = settles c gone
    gone-still (Runs v) c gone = settles c gone
    gone-still (Holds v number) c gone = settles c gone
    gone-still (AtCell cell) c gone = settles c gone
    gone-still (AtJoin number) c (inl settled) = inl (settles c settled)
    gone-still (AtJoin number) c (inr one) = inr (passed number c one)

    right-still : (x : Spot) → HasLeft root full poisoned joins x → HasLeft root full' poisoned' joins' x
    right-still x lies = left-weaker (IsGone root full poisoned joins x.location) (IsGone root full' poisoned' joins' x.location) (gone-still x.location) lies

  passed-grown : (joins more : List Join) (number c : ℕ) → IsPassedOn root joins number c → IsPassedOn root (joins ++ more) number c
  passed-grown joins more number c one =
      record { join = one.join; is = get-front joins more number one.join one.is; child = one.child; from_one = one.from_one; to_last = one.to_last; holds = one.holds }

  full-more : (full : List ℕ) (poisoned : List (List ℕ)) (more : List ℕ) (c : ℕ) → IsSettled full poisoned c → IsSettled (full ++ more) poisoned c
  full-more full poisoned more c (inl is) = inl (has-front c full more is)
  full-more full poisoned more c (inr is) = inr is

  poisoned-more : (full : List ℕ) (poisoned more : List (List ℕ)) (c : ℕ) → IsSettled full poisoned c → IsSettled full (poisoned ++ more) c
  poisoned-more full poisoned more c (inl is) = inl is
  poisoned-more full poisoned more c (inr is) = inr (has-in-front c poisoned more is)

  settled-still : (full full' : List ℕ) (poisoned poisoned' : List (List ℕ)) → ((c : ℕ) → IsSettled full poisoned c → IsSettled full' poisoned' c)
      → (child : ℕ) (join : Option Join) → AllSettled root full poisoned child join → AllSettled root full' poisoned' child join
  settled-still full full' poisoned poisoned' more child None settled = absurd settled
  settled-still full full' poisoned poisoned' more child (Some join) settled = each-weaker (IsSettled full poisoned) (IsSettled full' poisoned') more (given root (child_name child join.parent)) settled

  module _ (full : List ℕ) (poisoned : List (List ℕ)) (joins : List Join) where
    abbrev Right : Spot → Type 0
    Right x = HasLeft root full poisoned joins x

    abbrev Settled : ℕ → Type 0
    Settled c = IsSettled full poisoned c

    abbrev Ended : Stored → Type 0
    Ended s = AllSettled root full poisoned s.child (slice_get joins s.join)

    -- waking

    parked-settled : (cell : ℕ) (location : Location) → parked_at cell location ≡ true → (c : ℕ) → IsGone root full poisoned joins location c → Settled c
    parked-settled cell (Listed v) at c gone = gone
    parked-settled cell (Runs v) at c gone = gone
    parked-settled cell (Holds v number) at c gone = gone
    parked-settled cell (AtCell other) at c gone = gone
    parked-settled cell (AtJoin number) at c gone = absurd (cc)

    module _ (change : Branch → Branch) (keeps : (Gone : ℕ → Type 0) (b : Branch) → AreLeft Gone (given root b.name) b.signals → AreLeft Gone (given root (change b).name) (change b).signals) where
      woken-right : (cell v : ℕ) (x : Spot) → parked cell x ≡ true → Right x → Right (woken v change x)
      woken-right cell v x at lies = keeps (IsGone root full poisoned joins (Listed v)) x.branch
          (left-weaker (IsGone root full poisoned joins x.location) (IsGone root full poisoned joins (Listed v)) (λ c gone. parked-settled cell x.location at c gone) lies)

      wake-rights : (cell v : ℕ) (xs : List Spot) → AllByRecursion Right xs → AllByRecursion Right (wake cell v change xs)
      wake-rights cell v xs all = each-append Right (filter (λ x. not (parked cell x)) xs) (map (woken v change) (filter (parked cell) xs))
          (each-filter Right (λ x. not (parked cell x)) xs all) (each-changed Right Right (parked cell) (woken v change) (woken-right cell v) xs all)

    poison-rights : (cells : List ℕ) (v : ℕ) (xs : List Spot) → AllByRecursion Right xs → AllByRecursion Right (poison cells v xs)
    poison-rights [] v xs all = all
    poison-rights (cell ∷ cells) v xs all = poison-rights cells v (wake cell v (ended Starved) xs) (wake-rights (ended Starved) (λ Gone b lies. lies) cell v xs all)

    -- holding: behind a join that is done all that was passed on is settled

    passed-settled : (stored : List Stored) → AllByRecursion Ended stored → (number : ℕ) (os : List Outcome) → outcomes_of stored number (slice_get joins number) ≡ Some os → (c : ℕ) → IsPassedOn root joins number c → Settled c
    passed-settled stored all number os done c one =
        let every : gathered stored number 1 one.join.children ≡ Some os = sym (ap (outcomes_of stored number) one.is) ∙ done in
        let high = one.to_last in
        let found = stored-each stored number 1 one.join.children os every one.child one.from_one (omega (arith, high)) in
        let settled : AllSettled root full poisoned one.child (slice_get joins number) = stored-is (λ j k. AllSettled root full poisoned k (slice_get joins j)) number one.child stored found.0 all found.1 in
        has-holds Settled c (given root (child_name one.child one.join.parent)) (subst (AllSettled root full poisoned one.child) one.is settled) one.holds

    held-settled : (stored : List Stored) → AllByRecursion Ended stored → (number : ℕ) (os : List Outcome) → outcomes_of stored number (slice_get joins number) ≡ Some os
        → (location : Location) → awaits_at number location ≡ true → (c : ℕ) → IsGone root full poisoned joins location c → Settled c
    held-settled stored all number os done (Listed v) at c gone = gone
    held-settled stored all number os done (Runs v) at c gone = gone
    held-settled stored all number os done (Holds v other) at c gone = gone
    held-settled stored all number os done (AtCell cell) at c gone = gone
    held-settled stored all number os done (AtJoin other) at c (inl settled) = settled
    held-settled stored all number os done (AtJoin other) at c (inr one) = passed-settled stored all number os done c (subst (λ (n : ℕ). IsPassedOn root joins n c) (test_same other number at) one)

    held-right : (stored : List Stored) → AllByRecursion Ended stored → (v number : ℕ) (os : List Outcome) → outcomes_of stored number (slice_get joins number) ≡ Some os → (x : Spot) → Right x → Right (hold_one v number x)
    held-right stored all v number os done x lies = elim (each_way (awaits number x)) [
      | inl at ↦ subst Right (sym (ap (λ t. if t then spot (Holds v number) x.branch else x) at))
          (left-weaker (IsGone root full poisoned joins x.location) (IsGone root full poisoned joins (Holds v number)) (λ c gone. held-settled stored all number os done x.location at c gone) lies)
      | inr other ↦ subst Right (sym (ap (λ t. if t then spot (Holds v number) x.branch else x) other)) lies
    ]

    hold-rights : (stored : List Stored) → AllByRecursion Ended stored → (v number : ℕ) (xs : List Spot) (done : Option (List Outcome)) → outcomes_of stored number (slice_get joins number) ≡ done
        → AllByRecursion Right xs → AllByRecursion Right (hold_if v number xs done)
    hold-rights stored ended' v number xs None is all = all
    hold-rights stored ended' v number xs (Some os) is all = each-mapped Right Right (hold_one v number) (held-right stored ended' v number os is) xs all

    -- the children of a Fork

    module _ (number : ℕ) (b : Branch) (limit : ℕ) (cells : List Cell) (moves : List Move) (children : Children) (rest : Script)
        (at : left_in b.passed (script_named b.name (Some root)) ≡ Some (ForkThen limit cells moves children rest)) where
      kid-given : (child : ℕ) → given root (b.name ++ ((b.passed, child) ∷ [])) ≡ signals_at child cells moves
      kid-given child = given-last [] b.name b.passed child (Some root) ∙ ap (Rattle.merc_core.specs.Given.given_by child) at

      abbrev Has : Branch → Type 0
      Has kid = AreLeft Settled (given root kid.name) kid.signals

      kids-rights : (from t : ℕ) (more : Children) → AllByRecursion Has (spawned number b cells moves from t more)
      kids-rights from t NoChild = tt
      kids-rights from t (Child first others) =
          (subst (λ (l : List ℕ). AreLeft Settled l (signals_at from cells moves)) (sym (kid-given from)) (all-left Settled (signals_at from cells moves)), kids-rights (suc from) (t + size first) others)

      backwards-rights : (v : ℕ) (kids : List Branch) → AllByRecursion Has kids → AllByRecursion Right (listed_backwards v kids)
      backwards-rights v [] every = tt
      backwards-rights v (kid ∷ kids) every = each-append Right (listed_backwards v kids) (spot (Listed v) kid ∷ []) (backwards-rights v kids every.1) (every.0, tt)

      placed-rights : (v : ℕ) (kids : List Branch) → AllByRecursion Has kids → AllByRecursion Right (placed v kids)
      placed-rights v [] every = tt
      placed-rights v (kid ∷ kids) every = (every.0, backwards-rights v kids every.1)

  abbrev Rights : World → Type 0
  Rights = KeepsRights root

  abbrev RightIn : World → Spot → Type 0
  RightIn w x = HasLeft root w.full w.poisoned w.joins x

  back-rights : (w : World) {x : Spot} (to : Location) (b : Branch) (others : List Spot) → Takes w.pool x others → (RightIn w x → RightIn w (spot to b)) → Rights w → Rights (put_back w to b others)
  back-rights w to b others takes keeps all = record {
    each = each-append (RightIn w) others (spot to b ∷ []) (takes-others (RightIn w) takes all.each) (keeps (takes-one (RightIn w) takes all.each), tt);
    ended = all.ended;
  }

  signal-rights : (w : World) (v : ℕ) (b : Branch) (cell : ℕ) (rest : Script) (others : List Spot) → Takes w.pool (spot (Runs v) (with_rest b (SignalThen cell rest))) others → Rights w → Rights (signalled w v b others cell rest)
  signal-rights w v b cell rest others takes all =
      let full' : List ℕ = w.full ++ (cell ∷ []) in
      let more = full-more w.full w.poisoned (cell ∷ []) in
      let still = right-still w.full w.poisoned w.joins full' w.poisoned w.joins more (λ number c one. one) in
      let mine = still (spot (Runs v) (with_rest b (SignalThen cell rest))) (takes-one (RightIn w) takes all.each) in
      record {
        each = each-append (HasLeft root full' w.poisoned w.joins) (wake cell v unchanged others) (spot (Runs v) (past_signal cell b rest) ∷ [])
            (wake-rights full' w.poisoned w.joins unchanged (λ Gone b' lies. lies) cell v others (each-weaker (RightIn w) (HasLeft root full' w.poisoned w.joins) still others (takes-others (RightIn w) takes all.each)))
            (left-without (IsGone root full' w.poisoned w.joins (Runs v)) (cell ∷ []) (λ c is. inl (has-back c w.full (cell ∷ []) is)) mine, tt);
        ended = each-weaker (λ s. AllSettled root w.full w.poisoned s.child (slice_get w.joins s.join)) (λ s. AllSettled root full' w.poisoned s.child (slice_get w.joins s.join))
            (λ s settled. settled-still w.full full' w.poisoned w.poisoned more s.child (slice_get w.joins s.join) settled) w.stored all.ended;
      }

  -- all that a branch was given is settled where what it has left is
  ended-settled : (full : List ℕ) (poisoned : List (List ℕ)) (b : Branch) (joins : List Join) → AreLeft (IsSettled full poisoned) (given root b.name) b.signals → (join : Option Join) → IsNamedIn b join
      → AllSettled root full (poisoned ++ (b.signals ∷ [])) b.child join
  ended-settled full poisoned b joins lies None named = absurd named
  ended-settled full poisoned b joins lies (Some join) named =
      subst (λ name. AllByRecursion (IsSettled full (poisoned ++ (b.signals ∷ []))) (given root name)) named
      (all-hold (IsSettled full poisoned) (IsSettled full (poisoned ++ (b.signals ∷ []))) (poisoned-more full poisoned (b.signals ∷ [])) lies (λ c is. inr (has-in-last c poisoned b.signals is)))

  finish-rights : (w : World) (v : ℕ) (b : Branch) (o : Outcome) (others : List Spot) → Takes w.pool (spot (Runs v) b) others → AllStand root w → Rights w → Rights (finished w v b others o)
  finish-rights w v b o others takes stand all =
      let poisoned' : List (List ℕ) = w.poisoned ++ (b.signals ∷ []) in
      let more = poisoned-more w.full w.poisoned (b.signals ∷ []) in
      let new : Stored = record { join = b.join; child = b.child; outcome = o } in
      let Was : Stored → Type 0 = λ s. AllSettled root w.full w.poisoned s.child (slice_get w.joins s.join) in
      let Is : Stored → Type 0 = λ s. AllSettled root w.full poisoned' s.child (slice_get w.joins s.join) in
      let named = (takes-one (λ x. Stands root w.joins x.branch) takes stand.each_branch).named in
      let all-ended : AllByRecursion Is (w.stored ++ (new ∷ [])) =
      each-append Is w.stored (new ∷ []) (each-weaker Was Is (λ s settled. settled-still w.full w.full w.poisoned poisoned' more s.child (slice_get w.joins s.join) settled) w.stored all.ended)
      (ended-settled w.full w.poisoned b w.joins (takes-one (RightIn w) takes all.each) (slice_get w.joins b.join) named, tt) in
      let left = each-weaker (RightIn w) (HasLeft root w.full poisoned' w.joins) (right-still w.full w.poisoned w.joins w.full poisoned' w.joins more (λ number c one. one)) others (takes-others (RightIn w) takes all.each) in
      record {
        each = hold-rights w.full poisoned' w.joins (stored_with w b o) all-ended v b.join (poison b.signals v others) (outcomes_of (stored_with w b o) b.join (slice_get w.joins b.join)) refl
            (poison-rights w.full poisoned' w.joins b.signals v others left);
        ended = all-ended;
      }

  fork-rights : (w : World) (v : ℕ) (b : Branch) (limit : ℕ) (cells : List Cell) (moves : List Move) (children : Children) (rest : Script) (others : List Spot)
      → Takes w.pool (spot (Runs v) (with_rest b (ForkThen limit cells moves children rest))) others → Carries root (with_rest b (ForkThen limit cells moves children rest))
      → AllByRecursion (MoveFits (count children) b.signals b.waits) moves → Rights w → Rights (forked w v b others limit cells moves children rest)
  fork-rights w v b limit cells moves children rest others takes (inr end) fit all = absurd (let e = end.1 in cc)
  fork-rights w v b limit cells moves children rest others takes (inl at) fit all =
      let new : Join = record { limit = limit; children = children; behind = suc b.at + sizes children; parent = Some (record { join = b.join; child = b.child; name = b.name; passed = b.passed }) } in
      let joins : List Join = w.joins ++ (new ∷ []) in
      let n = length w.joins in
      let still = right-still w.full w.poisoned w.joins w.full w.poisoned joins (λ c settled. settled) (passed-grown w.joins (new ∷ [])) in
      let Behind : ℕ → Type 0 = IsGone root w.full w.poisoned joins (AtJoin n) in
      let mine : AreLeft Behind (given root b.name) b.signals = left-weaker (IsGone root w.full w.poisoned w.joins (Runs v)) Behind (λ c settled. inl settled) (takes-one (RightIn w) takes all.each) in
      let passed : (c : ℕ) → has c (moved true moves) ≡ true → IsPassedOn root joins n c = λ c is.
      let to = goes-to (count children) b.signals b.waits moves fit c is in
      record {
        join = new;
        is = get-last w.joins new;
        child = to.child;
        from_one = to.from_one;
        to_last = to.to_last;
        holds = ap (has c) (kid-given w.full w.poisoned joins n b limit cells moves children rest at to.child) ∙ has-back c (made_by to.child cells) (moved_to to.child true moves) to.is;
      } in
      let kids = spawned n b cells moves 1 (suc b.at) children in
      record {
        each = each-append (HasLeft root w.full w.poisoned joins) others (spot (AtJoin n) (parent_behind b cells moves children rest) ∷ placed v kids)
            (each-weaker (RightIn w) (HasLeft root w.full w.poisoned joins) still others (takes-others (RightIn w) takes all.each)) (
              left-without Behind (moved true moves) (λ c is. inr (passed c is)) mine,
              placed-rights w.full w.poisoned joins n b limit cells moves children rest at v kids (kids-rights w.full w.poisoned joins n b limit cells moves children rest at 1 (suc b.at) children),
            );
        ended = each-weaker (λ s. AllSettled root w.full w.poisoned s.child (slice_get w.joins s.join)) (λ s. AllSettled root w.full w.poisoned s.child (slice_get joins s.join))
            (λ s settled. grown (AllSettled root w.full w.poisoned s.child) (λ none. none) w.joins (new ∷ []) s.join settled) w.stored all.ended;
      }

  behind-rights : (w : World) (v number : ℕ) (o : Outcome) (b : Branch) → RightIn w (spot (Holds v number) b) → RightIn w (spot (Runs v) (go_behind o b))
  behind-rights w v number (Fine u) b lies = lies
  behind-rights w v number (Raise e n) b lies = lies
  behind-rights w v number Limit b lies = lies
  behind-rights w v number Starved b lies = lies
  behind-rights w v number NoMemory b lies = lies

  abbrev value : ℕ → Option Value
  value = value_in (cells_of root)

  abbrev True : World → Type 0
  True = Truth value (Excused (Unit {0})) (Spoiled (Unit {0})) root

  rights-step : (w : World) (e : Event) (w' : World) → Step w e w' → True w → AllStand root w → Rights w → Rights w'
  rights-step w _ _ (ticked v b rest others worker takes) truth stand all = back-rights w (Runs v) (past_tick b rest) others takes (λ lies. lies) all
  rights-step w _ _ (forks v b limit cells moves children rest others worker takes) truth stand all =
      let formed = formed-at (λ c. 0) root value (Excused (Unit {0})) (Spoiled (Unit {0})) w v b (ForkThen limit cells moves children rest) others truth takes (λ o is. absurd (cc)) in
      fork-rights w v b limit cells moves children rest others takes (takes-one (λ x. Stands root w.joins x.branch) takes stand.each_branch).carries formed.0.each_move all
  rights-step w _ _ (signals_it v b cell rest others worker takes) truth stand all = signal-rights w v b cell rest others takes all
  rights-step w _ _ (passes v b cell rest others worker takes full) truth stand all = back-rights w (Runs v) (past_wait cell b rest) others takes (λ lies. lies) all
  rights-step w _ _ (starves v b cell rest others worker takes poisoned) truth stand all = back-rights w (Runs v) (ended Starved b) others takes (λ lies. lies) all
  rights-step w _ _ (parks v b cell rest others worker takes full poisoned) truth stand all = back-rights w (AtCell cell) (past_wait cell b rest) others takes (λ lies. lies) all
  rights-step w _ _ (finishes e v b o others worker takes how) truth stand all = finish-rights w v b o others takes stand all
  rights-step w _ _ (takes_up e v u b others worker takes-up free takes) truth stand all = back-rights w (Runs v) b others takes (λ lies. lies) all
  rights-step w _ _ (resumes v b number join os others worker takes is every) truth stand all =
      back-rights w (Runs v) (go_behind (joined join.limit os) b) others takes (behind-rights w v number (joined join.limit os) b) all

  abbrev Whole : World → Type 0
  Whole w = True w × AllStand root w × Rights w

  abbrev Allows : Event → Type 0
  Allows = MayLose value (Excused (Unit {0})) (Spoiled (Unit {0})) (excuses (Unit {0}))

  whole-step : (w : World) (e : Event) (w' : World) → Step w e w' → Allows e → Whole w → Whole w'
  whole-step w e w' step may whole = (
    truth-step value (Excused (Unit {0})) (Spoiled (Unit {0})) (excuses (Unit {0})) root w e w' step may whole.0,
    stand-step root w e w' step tt whole.1,
    rights-step w e w' step whole.0 whole.1 whole.2,
  )

  pub keeps-rights : (workers : ℕ) (events : List Event) (w : World) → WellFormed root → LeadsTo root workers events w → Rights w
  keeps-rights workers events w well leads =
      (run-keeps Allows Whole whole-step events (start root workers) w leads (each-always Allows (lost-may value) events) (
        truth-start value (Excused (Unit {0})) (Spoiled (Unit {0})) root workers well.formed,
        record { each_branch = (record { carries = inl refl; named = refl }, tt); each_join = (refl, tt) },
        record { each = (nothing, tt); ended = tt },
      )).2
