-- What each branch carries is what is left at its name in the root script, and each join's children are those of a Fork there.
use Rattle.std.proofs.Common.{◌≡◌, ℕ, zero, suc, ◌+◌, ◌⊎◌, inl, inr, Bool, true, false, not, List, [], ◌∷◌, ◌++◌, Some, None, refl, ap, sym, ◌∙◌, subst, arith, length}
use Rattle.std.proofs.lemmas.Bool.Decides.{nat_tests}
use Rattle.std.specs.Prelude.{Option, slice_get, if◌then◌else◌, nat_eq, filter, map}
use Rattle.std.specs.List.{AllByRecursion}
use Rattle.merc_script.specs.declared.outcome.Outcome.{Outcome}
use Rattle.merc_script.specs.declared.outcome.Outcome.TheVariants.{Ok as Fine, Raise, Limit, Starved, NoMemory}
use Rattle.merc_script.specs.declared.cells.Move.{Move}
use Rattle.merc_script.specs.Script.{Script, Ends, TickThen, WaitThen, SignalThen, ForkThen, Children, NoChild, Child, Cell, end_of, size, sizes}
use Rattle.merc_script.specs.Places.{Name, left_behind, child_at, child_of, left_in, script_named}
use Rattle.merc_script.specs.Joining.{joined}
use Rattle.merc_core.specs.declared.event.Event.{Event}
use Rattle.merc_core.specs.World.{Branch, Location, Listed, Runs, Holds, AtCell, AtJoin, Spot, spot, Parent, Join, Stored, World, start, outcomes_of}
use Rattle.merc_core.specs.Events.{parked, awaits, past, past_tick, past_signal, past_wait, ended, go_behind, spawned, listed_backwards, placed, parent_behind, woken, wake, unchanged, poison, hold_one, hold_if, forked, stored_with}
use Rattle.merc_core.specs.Laws.{LeadsTo, child_name, IsNamedIn, Stands, IsMadeBy, AllStand, child_script, IsEndOf, IsItsEnd}
use Rattle.merc_core.proofs.Pool.{Takes, each-append, each-filter, each-mapped, each-changed, each-weaker, each-always, takes-one, takes-others}
use Rattle.merc_core.proofs.Steps.{
  with_rest,
  put_back,
  Step,
  ticked,
  forks,
  signals as signals_it,
  passes,
  starves,
  parks,
  finishes,
  takes_up,
  resumes,
  run-keeps,
}
use Rattle.merc_core.proofs.Truth.{end_at, EndIn}
use Rattle.merc_core.proofs.ForkServing.{kid}
use Rattle.merc_core.proofs.TruthSteps.{get-last, grown, end-above}

-- behind one more item

next-behind : (passed : ℕ) (s item : Script) → left_behind passed s ≡ Some item → left_behind (suc passed) s ≡ left_behind 1 item
next-behind zero s item is = let same : s ≡ item = cc in ap (left_behind 1) same
next-behind (suc passed) (Ends o) item is = absurd (cc)
next-behind (suc passed) (TickThen rest) item is = next-behind passed rest item is
next-behind (suc passed) (WaitThen cell rest) item is = next-behind passed rest item is
next-behind (suc passed) (SignalThen cell rest) item is = next-behind passed rest item is
next-behind (suc passed) (ForkThen limit cells moves children rest) item is = next-behind passed rest item is

pub next-in : (passed : ℕ) (s : Option Script) (item : Script) → left_in passed s ≡ Some item → left_in (suc passed) s ≡ left_behind 1 item
next-in passed None item is = absurd (cc)
next-in passed (Some s) item is = next-behind passed s item is

named-last : (name : Name) (passed child : ℕ) (s : Option Script) → script_named (name ++ ((passed, child) ∷ [])) s ≡ child_of child (left_in passed (script_named name s))
named-last [] passed child s = refl
named-last (step ∷ name) passed child s = named-last name passed child (child_of step.1 (left_in step.0 s))

module _ (root : Script) where
  abbrev At : Name → ℕ → Option Script
  At name passed = left_in passed (script_named name (Some root))

  abbrev CarriesAs : Name → ℕ → Script → Type 0
  CarriesAs name passed s = (At name passed ≡ Some s) ⊎ (end : Outcome) × (s ≡ Ends end)

  -- past an item
  carries-past : (name : Name) (passed : ℕ) (item rest : Script) → ((o : Outcome) → item ≡ Ends o → ⊥) → left_behind 1 item ≡ Some rest → CarriesAs name passed item → CarriesAs name (suc passed) rest
  carries-past name passed item rest none one (inl is) = inl (next-in passed (script_named name (Some root)) item is ∙ one)
  carries-past name passed item rest none one (inr end) = absurd (none end.0 end.1)

  abbrev Right : List Join → Spot → Type 0
  Right joins x = Stands root joins x.branch

  -- where a branch is does not matter, and it may carry an end
  stands-ended : (joins : List Join) (b : Branch) (o : Outcome) → Stands root joins b → Stands root joins (ended o b)
  stands-ended joins b o stands = record { carries = inr (o, refl); named = stands.named }

  stands-behind : (joins : List Join) (b : Branch) (o : Outcome) → Stands root joins b → Stands root joins (go_behind o b)
  stands-behind joins b (Fine u) stands = record { carries = stands.carries; named = stands.named }
  stands-behind joins b (Raise e n) stands = record { carries = inr (_, refl); named = stands.named }
  stands-behind joins b Limit stands = record { carries = inr (_, refl); named = stands.named }
  stands-behind joins b Starved stands = record { carries = inr (_, refl); named = stands.named }
  stands-behind joins b NoMemory stands = record { carries = inr (_, refl); named = stands.named }

  stands-past : (joins : List Join) (b : Branch) (item rest : Script) → ((o : Outcome) → item ≡ Ends o → ⊥) → left_behind 1 item ≡ Some rest → Stands root joins (with_rest b item) → Stands root joins (past b rest)
  stands-past joins b item rest none one stands = record { carries = carries-past b.name b.passed item rest none one stands.carries; named = stands.named }

  stands-grown : (joins more : List Join) (x : Spot) → Right joins x → Right (joins ++ more) x
  stands-grown joins more x stands = record { carries = stands.carries; named = grown (IsNamedIn x.branch) (λ none. none) joins more x.branch.join stands.named }

  -- waking and holding

  wake-stands : (joins : List Join) (cell v : ℕ) (change : Branch → Branch) → ((b : Branch) → Stands root joins b → Stands root joins (change b)) → (xs : List Spot) → AllByRecursion (Right joins) xs
      → AllByRecursion (Right joins) (wake cell v change xs)
  wake-stands joins cell v change keeps xs all = each-append (Right joins) (filter (λ x. not (parked cell x)) xs) (map (woken v change) (filter (parked cell) xs))
      (each-filter (Right joins) (λ x. not (parked cell x)) xs all)
      (each-changed (Right joins) (Right joins) (parked cell) (woken v change) (λ x is stands. keeps x.branch stands) xs all)

  poison-stands : (joins : List Join) (cells : List ℕ) (v : ℕ) (xs : List Spot) → AllByRecursion (Right joins) xs → AllByRecursion (Right joins) (poison cells v xs)
  poison-stands joins [] v xs all = all
  poison-stands joins (cell ∷ cells) v xs all = poison-stands joins cells v (wake cell v (ended Starved) xs) (wake-stands joins cell v (ended Starved) (λ b stands. stands-ended joins b Starved stands) xs all)

  held-stands : (joins : List Join) (v number : ℕ) (x : Spot) (at : Bool) → Right joins x → Right joins (if at then spot (Holds v number) x.branch else x)
  held-stands joins v number x true stands = stands
  held-stands joins v number x false stands = stands

  hold-stands : (joins : List Join) (v number : ℕ) (xs : List Spot) (outcomes : Option (List Outcome)) → AllByRecursion (Right joins) xs → AllByRecursion (Right joins) (hold_if v number xs outcomes)
  hold-stands joins v number xs None all = all
  hold-stands joins v number xs (Some outcomes) all = each-mapped (Right joins) (Right joins) (hold_one v number) (λ x stands. held-stands joins v number x (awaits number x) stands) xs all

  -- the children of a Fork begin at the beginnings of its scripts
  module _ (b : Branch) (limit : ℕ) (cells : List Cell) (moves : List Move) (all : Children) (rest : Script) (at : At b.name b.passed ≡ Some (ForkThen limit cells moves all rest)) where
    child-left : (child : ℕ) (s : Script) → child_at child all ≡ Some s → At (b.name ++ ((b.passed, child) ∷ [])) 0 ≡ Some s
    child-left child s there' =
        let named : script_named (b.name ++ ((b.passed, child) ∷ [])) (Some root) ≡ Some s = named-last b.name b.passed child (Some root) ∙ ap (child_of child) at ∙ there' in
        ap (left_in 0) named

    kids-left-from : (number from t : ℕ) (more : Children) → ((i : ℕ) → child_at (from + i) all ≡ child_at (suc i) more) → AllByRecursion (λ kid'. At kid'.name kid'.passed ≡ Some kid'.rest) (spawned number b cells moves from t more)
    kids-left-from number from t NoChild leads = tt
    kids-left-from number from t (Child first others) leads = (
      child-left from first (let e : from ≡ from + 0 = omega arith in ap (λ (k : ℕ). child_at k all) e ∙ leads 0),
      kids-left-from number (suc from) (t + size first) others (λ i. let e : suc from + i ≡ from + suc i = omega arith in ap (λ (k : ℕ). child_at k all) e ∙ leads (suc i)),
    )

    pub kids-left : (number : ℕ) → AllByRecursion (λ kid'. At kid'.name kid'.passed ≡ Some kid'.rest) (spawned number b cells moves 1 (suc b.at) all)
    kids-left number = kids-left-from number 1 (suc b.at) all (λ i. let e : 1 + i ≡ suc i = omega arith in ap (λ (k : ℕ). child_at k all) e)

  -- the children of a Fork
  module _ (joins : List Join) (number : ℕ) (new : Join) (is : slice_get joins number ≡ Some new) (b : Branch) (limit : ℕ) (cells : List Cell) (moves : List Move) (all : Children) (rest : Script)
      (at : At b.name b.passed ≡ Some (ForkThen limit cells moves all rest)) (parent-is : new.parent ≡ Some (record { join = b.join; child = b.child; name = b.name; passed = b.passed })) where
    name-in : (kid : Branch) → kid.join ≡ number → kid.name ≡ b.name ++ ((b.passed, kid.child) ∷ []) → IsNamedIn kid (slice_get joins kid.join)
    name-in kid join name =
        let there : slice_get joins kid.join ≡ Some new = ap (slice_get joins) join ∙ is in
        subst (IsNamedIn kid) (sym there) (name ∙ ap (child_name kid.child) (sym parent-is))

    kids-stand : (from t : ℕ) (more : Children) → ((i : ℕ) → child_at (from + i) all ≡ child_at (suc i) more) → AllByRecursion (Stands root joins) (spawned number b cells moves from t more)
    kids-stand from t NoChild leads = tt
    kids-stand from t (Child first others) leads = (
      record {
        carries = inl (child-left b limit cells moves all rest at from first (let e : from ≡ from + 0 = omega arith in ap (λ (k : ℕ). child_at k all) e ∙ leads 0));
        named = name-in (kid number b cells moves from t first) refl refl;
      },
      kids-stand (suc from) (t + size first) others (λ i. let e : suc from + i ≡ from + suc i = omega arith in ap (λ (k : ℕ). child_at k all) e ∙ leads (suc i)),
    )

    backwards-stand : (v : ℕ) (kids : List Branch) → AllByRecursion (Stands root joins) kids → AllByRecursion (Right joins) (listed_backwards v kids)
    backwards-stand v [] every = tt
    backwards-stand v (kid ∷ kids) every = each-append (Right joins) (listed_backwards v kids) (spot (Listed v) kid ∷ []) (backwards-stand v kids every.1) (every.0, tt)

    placed-stand : (v : ℕ) (kids : List Branch) → AllByRecursion (Stands root joins) kids → AllByRecursion (Right joins) (placed v kids)
    placed-stand v [] every = tt
    placed-stand v (kid ∷ kids) every = (every.0, backwards-stand v kids every.1)

  abbrev All : World → Type 0
  All = AllStand root

  abbrev Made : Join → Type 0
  Made join = IsMadeBy root join.limit join.children join.parent

  back-stands : (w : World) {x : Spot} (to : Location) (b : Branch) (others : List Spot) → Takes w.pool x others → (Right w.joins x → Stands root w.joins b) → All w → All (put_back w to b others)
  back-stands w to b others takes stands all = record {
    each_branch = each-append (Right w.joins) others (spot to b ∷ []) (takes-others (Right w.joins) takes all.each_branch) (stands (takes-one (Right w.joins) takes all.each_branch), tt);
    each_join = all.each_join;
  }

  fork-stands : (w : World) (v : ℕ) (b : Branch) (limit : ℕ) (cells : List Cell) (moves : List Move) (children : Children) (rest : Script) (others : List Spot)
      → Takes w.pool (spot (Runs v) (with_rest b (ForkThen limit cells moves children rest))) others → CarriesAs b.name b.passed (ForkThen limit cells moves children rest)
      → All w → All (forked w v b others limit cells moves children rest)
  fork-stands w v b limit cells moves children rest others takes (inr end) all = absurd (let e = end.1 in cc)
  fork-stands w v b limit cells moves children rest others takes (inl at) all =
      let parent : Parent = record { join = b.join; child = b.child; name = b.name; passed = b.passed } in
      let new : Join = record { limit = limit; children = children; behind = suc b.at + sizes children; parent = Some parent } in
      let joins : List Join = w.joins ++ (new ∷ []) in
      let is : slice_get joins (length w.joins) ≡ Some new = get-last w.joins new in
      let mine = stands-grown w.joins (new ∷ []) (spot (Runs v) (with_rest b (ForkThen limit cells moves children rest))) (takes-one (Right w.joins) takes all.each_branch) in
      let kids = spawned (length w.joins) b cells moves 1 (suc b.at) children in
      record {
        each_branch = each-append (Right joins) others (spot (AtJoin (length w.joins)) (parent_behind b cells moves children rest) ∷ placed v kids)
            (each-weaker (Right w.joins) (Right joins) (stands-grown w.joins (new ∷ [])) others (takes-others (Right w.joins) takes all.each_branch)) (
              record { carries = carries-past b.name b.passed (ForkThen limit cells moves children rest) rest (λ o none. absurd (cc)) refl (inl at); named = mine.named },
              placed-stand joins (length w.joins) new is b limit cells moves children rest at refl v kids
                  (kids-stand joins (length w.joins) new is b limit cells moves children rest at refl 1 (suc b.at) children (λ i. let e : 1 + i ≡ suc i = omega arith in ap (λ (k : ℕ). child_at k children) e)),
            );
        each_join = each-append Made w.joins (new ∷ []) all.each_join (record { cells = cells; moves = moves; rest = rest; is = at }, tt);
      }

  pub stand-step : (w : World) (e : Event) (w' : World) → Step w e w' → Unit {0} → All w → All w'
  stand-step w _ _ (ticked v b rest others worker takes) may all =
      back-stands w (Runs v) (past_tick b rest) others takes (λ stands. let next = stands-past w.joins b (TickThen rest) rest (λ o is. absurd (cc)) refl stands in record { carries = next.carries; named = next.named }) all
  stand-step w _ _ (forks v b limit cells moves children rest others worker takes) may all =
      fork-stands w v b limit cells moves children rest others takes (takes-one (Right w.joins) takes all.each_branch).carries all
  stand-step w _ _ (signals_it v b cell rest others worker takes) may all = record {
    each_branch = each-append (Right w.joins) (wake cell v unchanged others) (spot (Runs v) (past_signal cell b rest) ∷ [])
        (wake-stands w.joins cell v unchanged (λ b' stands. stands) others (takes-others (Right w.joins) takes all.each_branch))
        (let next = stands-past w.joins b (SignalThen cell rest) rest (λ o is. absurd (cc)) refl (takes-one (Right w.joins) takes all.each_branch) in record { carries = next.carries; named = next.named }, tt);
    each_join = all.each_join;
  }
  stand-step w _ _ (passes v b cell rest others worker takes full) may all =
      back-stands w (Runs v) (past_wait cell b rest) others takes (λ stands. let next = stands-past w.joins b (WaitThen cell rest) rest (λ o is. absurd (cc)) refl stands in record { carries = next.carries; named = next.named }) all
  stand-step w _ _ (starves v b cell rest others worker takes poisoned) may all =
      back-stands w (Runs v) (ended Starved b) others takes (λ stands. record { carries = inr (Starved, refl); named = stands.named }) all
  stand-step w _ _ (parks v b cell rest others worker takes full poisoned) may all =
      back-stands w (AtCell cell) (past_wait cell b rest) others takes (λ stands. let next = stands-past w.joins b (WaitThen cell rest) rest (λ o is. absurd (cc)) refl stands in record { carries = next.carries; named = next.named }) all
  stand-step w _ _ (finishes e v b o others worker takes how) may all = record {
    each_branch = hold-stands w.joins v b.join (poison b.signals v others) (outcomes_of (stored_with w b o) b.join (slice_get w.joins b.join)) (poison-stands w.joins b.signals v others (takes-others (Right w.joins) takes all.each_branch));
    each_join = all.each_join;
  }
  stand-step w _ _ (takes_up e v u b others worker takes-up free takes) may all = back-stands w (Runs v) b others takes (λ stands. stands) all
  stand-step w _ _ (resumes v b number join os others worker takes is every) may all = back-stands w (Runs v) (go_behind (joined join.limit os) b) others takes (λ stands. stands-behind w.joins b (joined join.limit os) stands) all

  pub all_stand : (workers : ℕ) (events : List Event) (w : World) → LeadsTo root workers events w → All w
  all_stand workers events w leads =
      run-keeps (λ e. Unit {0}) All stand-step events (start root workers) w leads (each-always (λ e. Unit {0}) (λ e. tt) events)
      (record { each_branch = (record { carries = inl refl; named = refl }, tt); each_join = (refl, tt) })

  -- the end of a child is that of its script in the root

  end-of-child : (from i : ℕ) (all : Children) (o : Outcome) → end_at from (from + i) all ≡ Some o → (s : Script) × (child_at (suc i) all ≡ Some s) × (o ≡ end_of s)
  end-of-child from i NoChild o is = absurd (cc)
  end-of-child from i (Child first others) o is = by-index i is (λ k later. end-of-child (suc from) k others o later)
    where
      by-index : (k : ℕ) → end_at from (from + k) (Child first others) ≡ Some o → ((j : ℕ) → end_at (suc from) (suc from + j) others ≡ Some o → (s : Script) × (child_at (suc j) others ≡ Some s) × (o ≡ end_of s))
          → (s : Script) × (child_at (suc k) (Child first others) ≡ Some s) × (o ≡ end_of s)
      by-index zero at next =
          let same : nat_eq (from + 0) from ≡ true = grind (arith, nat_tests) in
          (first, refl, let there : Some (end_of first) ≡ Some o = rw same at at in cc)
      by-index (suc k) at next =
          let other : nat_eq (from + suc k) from ≡ false = grind (arith, nat_tests) in
          let e : from + suc k ≡ suc from + k = omega arith in
          next k (subst (λ (n : ℕ). end_at (suc from) n others ≡ Some o) e (rw other at at))

  end-at-child : (child : ℕ) (all : Children) (o : Outcome) → end_at 1 child all ≡ Some o → (s : Script) × (child_at child all ≡ Some s) × (o ≡ end_of s)
  end-at-child zero all o is = absurd (let k = end-above 1 zero all o is in omega arith)
  end-at-child (suc i) all o is = end-of-child 1 i all o (let e : suc i ≡ 1 + i = omega arith in rw (← e) is)

  only-child : (child : ℕ) (s : Script) → child_at child (Child root NoChild) ≡ Some s → root ≡ s
  only-child zero s is = absurd (cc)
  only-child (suc zero) s is = cc
  only-child (suc (suc i)) s is = absurd (cc)

  ends-so : (child : ℕ) (o : Outcome) (limit : ℕ) (children : Children) (parent : Option Parent) → IsMadeBy root limit children parent → (s : Script) → child_at child children ≡ Some s → o ≡ end_of s
      → IsEndOf o (script_named (child_name child parent) (Some root))
  ends-so child o limit children None made s there end =
      let is : root ≡ s = only-child child s (rw (← made) there) in end ∙ ap end_of (sym is)
  ends-so child o limit children (Some parent) made s there end =
      let named : script_named (parent.name ++ ((parent.passed, child) ∷ [])) (Some root) ≡ Some s = named-last parent.name parent.passed child (Some root) ∙ ap (child_of child) made.is ∙ there in
      subst (IsEndOf o) (sym named) end

  abbrev MadeIn : Option Join → Type 0
  MadeIn None = Unit {0}
  MadeIn (Some join) = Made join

  made-in : (joins : List Join) (number : ℕ) → AllByRecursion Made joins → MadeIn (slice_get joins number)
  made-in [] number all = tt
  made-in (join ∷ joins) zero all = all.0
  made-in (join ∷ joins) (suc number) all = made-in joins number all.1

  ends-in : (child : ℕ) (o : Outcome) (join : Option Join) → MadeIn join → EndIn child o join → IsEndOf o (child_script root child join)
  ends-in child o None made end = absurd end
  ends-in child o (Some join) made end = let found = end-at-child child join.children o end in ends-so child o join.limit join.children join.parent made found.0 found.1 found.2

  pub its-end : (w : World) → All w → (one : Stored) → EndIn one.child one.outcome (slice_get w.joins one.join) → IsItsEnd root w.joins one
  its-end w all one end = ends-in one.child one.outcome (slice_get w.joins one.join) (made-in w.joins one.join all.each_join) end
