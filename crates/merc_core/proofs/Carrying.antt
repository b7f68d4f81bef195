-- In a well-formed script an end that a branch was given early is Starved or NoMemory.
use Rattle.std.proofs.Common.{◌≡◌, ℕ, suc, ◌+◌, ◌⊎◌, inl, inr, Bool, true, false, not, List, [], ◌∷◌, Some, None, refl, ap, sym, ◌∙◌, subst, length}
use Rattle.std.specs.Prelude.{Option, slice_get, if◌then◌else◌, filter, map}
use Rattle.std.specs.List.{AllByRecursion}
use Rattle.merc_value.specs.Value.{Value}
use Rattle.merc_script.specs.declared.outcome.Outcome.{Outcome}
use Rattle.merc_script.specs.declared.outcome.Outcome.TheVariants.{Ok as Fine, Raise, Limit, Starved, NoMemory}
use Rattle.merc_script.specs.declared.cells.Move.{Move}
use Rattle.merc_script.specs.Script.{Script, Ends, TickThen, WaitThen, SignalThen, ForkThen, Children, Cell, ends}
use Rattle.merc_script.specs.Places.{left_behind, left_of}
use Rattle.merc_script.specs.Joining.{joined}
use Rattle.merc_core.specs.declared.event.Event.{Event}
use Rattle.merc_core.specs.World.{Branch, Location, Listed, Runs, Holds, AtCell, AtJoin, Spot, spot, Join, World, start, outcomes_of}
use Rattle.merc_core.specs.Events.{parked, awaits, past, past_tick, past_signal, past_wait, ended, go_behind, spawned, listed_backwards, placed, parent_behind, woken, wake, unchanged, poison, hold_one, hold_if, forked, stored_with}
use Rattle.merc_core.specs.WellFormed.{WellFormed, Follows, value_in, cells_of}
use Rattle.merc_core.specs.Laws.{LeadsTo, IsCutEnd, CarriesIts, EachCarries}
use Rattle.merc_core.proofs.Pool.{Takes, each-append, each-filter, each-mapped, each-changed, each-weaker, each-always, takes-one, takes-others}
use Rattle.merc_core.proofs.Steps.{
  with_rest,
  put_back,
  Step,
  ticked,
  forks,
  signals as signals_it,
  passes,
  starves,
  parks,
  finishes,
  takes_up,
  resumes,
  run-keeps,
}
use Rattle.merc_core.proofs.Truth.{Good, BehindIn, Truth, truth-start}
use Rattle.merc_core.proofs.TruthSteps.{truth-step, MayLose, gathered-near, has-memory}
use Rattle.merc_core.proofs.Names.{next-in, kids-left}
use Rattle.merc_core.proofs.Losses.{Excused, Spoiled, excuses, lost-may}

module _ (root : Script) where
  abbrev Right : Spot → Type 0
  Right x = CarriesIts root x.branch

  its-end : (b : Branch) (o : Outcome) → IsCutEnd o → CarriesIts root (ended o b)
  its-end b o cut = inr (o, refl, cut)

  carries-on : (b : Branch) (item rest : Script) → ((o : Outcome) → item ≡ Ends o → ⊥) → left_behind 1 item ≡ Some rest → CarriesIts root (with_rest b item) → CarriesIts root (past b rest)
  carries-on b item rest none one (inl is) = inl (next-in b.passed _ item is ∙ one)
  carries-on b item rest none one (inr cut) = absurd (none cut.0 cut.1)

  wake-carries : (cell v : ℕ) (change : Branch → Branch) → ((b : Branch) → CarriesIts root b → CarriesIts root (change b)) → (xs : List Spot) → AllByRecursion Right xs → AllByRecursion Right (wake cell v change xs)
  wake-carries cell v change keeps xs all = each-append Right (filter (λ x. not (parked cell x)) xs) (map (woken v change) (filter (parked cell) xs))
      (each-filter Right (λ x. not (parked cell x)) xs all)
      (each-changed Right Right (parked cell) (woken v change) (λ x is carries. keeps x.branch carries) xs all)

  poison-carries : (cells : List ℕ) (v : ℕ) (xs : List Spot) → AllByRecursion Right xs → AllByRecursion Right (poison cells v xs)
  poison-carries [] v xs all = all
  poison-carries (cell ∷ cells) v xs all = poison-carries cells v (wake cell v (ended Starved) xs) (wake-carries cell v (ended Starved) (λ b carries. its-end b Starved tt) xs all)

  held-carries : (v number : ℕ) (x : Spot) (at : Bool) → Right x → Right (if at then spot (Holds v number) x.branch else x)
  held-carries v number x true carries = carries
  held-carries v number x false carries = carries

  hold-carries : (v number : ℕ) (xs : List Spot) (outcomes : Option (List Outcome)) → AllByRecursion Right xs → AllByRecursion Right (hold_if v number xs outcomes)
  hold-carries v number xs None all = all
  hold-carries v number xs (Some outcomes) all = each-mapped Right Right (hold_one v number) (λ x carries. held-carries v number x (awaits number x) carries) xs all

  backwards-carry : (v : ℕ) (kids : List Branch) → AllByRecursion (CarriesIts root) kids → AllByRecursion Right (listed_backwards v kids)
  backwards-carry v [] all = tt
  backwards-carry v (kid ∷ kids) all = each-append Right (listed_backwards v kids) (spot (Listed v) kid ∷ []) (backwards-carry v kids all.1) (all.0, tt)

  placed-carry : (v : ℕ) (kids : List Branch) → AllByRecursion (CarriesIts root) kids → AllByRecursion Right (placed v kids)
  placed-carry v [] all = tt
  placed-carry v (kid ∷ kids) all = (all.0, backwards-carry v kids all.1)

  abbrev All : World → Type 0
  All w = AllByRecursion Right w.pool

  back-carries : (w : World) {x : Spot} (to : Location) (b : Branch) (others : List Spot) → Takes w.pool x others → (Right x → CarriesIts root b) → All w → All (put_back w to b others)
  back-carries w to b others takes carries all = each-append Right others (spot to b ∷ []) (takes-others Right takes all) (carries (takes-one Right takes all), tt)

  fork-carries : (w : World) (v : ℕ) (b : Branch) (limit : ℕ) (cells : List Cell) (moves : List Move) (children : Children) (rest : Script) (others : List Spot)
      → Takes w.pool (spot (Runs v) (with_rest b (ForkThen limit cells moves children rest))) others → CarriesIts root (with_rest b (ForkThen limit cells moves children rest)) → All w → All (forked w v b others limit cells moves children rest)
  fork-carries w v b limit cells moves children rest others takes (inr cut) all = absurd (let e = cut.1 in cc)
  fork-carries w v b limit cells moves children rest others takes (inl at) all =
      let kids = spawned (length w.joins) b cells moves 1 (suc b.at) children in
      each-append Right others (spot (AtJoin (length w.joins)) (parent_behind b cells moves children rest) ∷ placed v kids) (takes-others Right takes all) (
        carries-on b (ForkThen limit cells moves children rest) rest (λ o is. absurd (cc)) refl (inl at),
        placed-carry v kids (each-weaker (λ kid. left_of (record { root = root; name = kid.name; passed = kid.passed }) ≡ Some kid.rest) (CarriesIts root) (λ kid left. inl left) kids (kids-left root b limit cells moves children rest at (length w.joins))),
      )

  same-end : (b : Branch) (o : Outcome) → b.rest ≡ Ends o → CarriesIts root b → CarriesIts root (ended o b)
  same-end b o is (inl left) = inl (left ∙ ap Some is)
  same-end b o is (inr cut) = inr (cut.0, sym is ∙ cut.1, cut.2)

  -- a parent goes on: its script ends as its Fork's outcome says, or is cut short
  behind-carries : (b : Branch) (o true-o : Outcome) → (o ≡ true-o) ⊎ IsCutEnd o → Follows b.steps true-o b.rest → CarriesIts root b → CarriesIts root (go_behind o b)
  behind-carries b (Fine u) true-o how follows carries = carries
  behind-carries b Starved true-o how follows carries = its-end b Starved tt
  behind-carries b NoMemory true-o how follows carries = its-end b NoMemory tt
  behind-carries b (Raise e n) true-o (inr cut) follows carries = absurd cut
  behind-carries b Limit true-o (inr cut) follows carries = absurd cut
  behind-carries b Limit true-o (inl same) follows carries = same-end b Limit (subst (λ (x : Outcome). Follows b.steps x b.rest) (sym same) follows) carries
  behind-carries b (Raise e n) true-o (inl same) follows carries = same-end b (Raise e (b.steps + n)) (subst (λ (x : Outcome). Follows b.steps x b.rest) (sym same) follows) carries

  abbrev value : ℕ → Option Value
  value = value_in (cells_of root)

  abbrev Lossy : ℕ → ℕ → Outcome → Type 0
  Lossy = Excused (Unit {0})

  abbrev Spoilt : ℕ → Type 0
  Spoilt = Spoiled (Unit {0})

  resume-carries : (w : World) (number : ℕ) (b : Branch) (join : Join) (os : List Outcome) → Truth value Lossy Spoilt root w → BehindIn value Lossy Spoilt w.joins b b.rest (Some join) → slice_get w.joins number ≡ Some join
      → outcomes_of w.stored number (Some join) ≡ Some os → CarriesIts root b → CarriesIts root (go_behind (joined join.limit os) b)
  resume-carries w number b join os truth behind is every carries =
      let near = gathered-near value Lossy Spoilt (excuses (Unit {0})) w.joins number join w.stored is truth.ends_stored 1 join.children os (λ child o end. end) every in
      let memory = has-memory value Lossy Spoilt (excuses (Unit {0})) join.limit b.steps (ends join.children) b.rest behind.0 in
      let how = (excuses (Unit {0})).joins number b.join b.child join.limit os join.children near memory in
      behind-carries b (joined join.limit os) (joined join.limit (ends join.children)) (elim how [ inl same ↦ inl same | inr cut ↦ inr cut.1 ]) behind.0 carries

  carry-step : (w : World) (e : Event) (w' : World) → Step w e w' → Truth value Lossy Spoilt root w → All w → All w'
  carry-step w _ _ (ticked v b rest others worker takes) truth all = back-carries w (Runs v) (past_tick b rest) others takes (λ carries. carries-on b (TickThen rest) rest (λ o is. absurd (cc)) refl carries) all
  carry-step w _ _ (forks v b limit cells moves children rest others worker takes) truth all = fork-carries w v b limit cells moves children rest others takes (takes-one Right takes all) all
  carry-step w _ _ (signals_it v b cell rest others worker takes) truth all =
      each-append Right (wake cell v unchanged others) (spot (Runs v) (past_signal cell b rest) ∷ []) (wake-carries cell v unchanged (λ b' carries. carries) others (takes-others Right takes all))
      (carries-on b (SignalThen cell rest) rest (λ o is. absurd (cc)) refl (takes-one Right takes all), tt)
  carry-step w _ _ (passes v b cell rest others worker takes full) truth all = back-carries w (Runs v) (past_wait cell b rest) others takes (λ carries. carries-on b (WaitThen cell rest) rest (λ o is. absurd (cc)) refl carries) all
  carry-step w _ _ (starves v b cell rest others worker takes poisoned) truth all = back-carries w (Runs v) (ended Starved b) others takes (λ carries. its-end b Starved tt) all
  carry-step w _ _ (parks v b cell rest others worker takes full poisoned) truth all = back-carries w (AtCell cell) (past_wait cell b rest) others takes (λ carries. carries-on b (WaitThen cell rest) rest (λ o is. absurd (cc)) refl carries) all
  carry-step w _ _ (finishes e v b o others worker takes how) truth all =
      hold-carries v b.join (poison b.signals v others) (outcomes_of (stored_with w b o) b.join (slice_get w.joins b.join)) (poison-carries b.signals v others (takes-others Right takes all))
  carry-step w _ _ (takes_up e v u b others worker takes-up free takes) truth all = back-carries w (Runs v) b others takes (λ carries. carries) all
  carry-step w _ _ (resumes v b number join os others worker takes is every) truth all =
      back-carries w (Runs v) (go_behind (joined join.limit os) b) others takes
      (λ carries. resume-carries w number b join os truth (subst (BehindIn value Lossy Spoilt w.joins b b.rest) is (takes-one (Good value Lossy Spoilt w.joins) takes truth.spots)) is every carries) all

  abbrev Both : World → Type 0
  Both w = Truth value Lossy Spoilt root w × All w

  abbrev Allows : Event → Type 0
  Allows = MayLose value Lossy Spoilt (excuses (Unit {0}))

  both-step : (w : World) (e : Event) (w' : World) → Step w e w' → Allows e → Both w → Both w'
  both-step w e w' step may both = (truth-step value Lossy Spoilt (excuses (Unit {0})) root w e w' step may both.0, carry-step w e w' step both.0 both.1)

  pub each_carries-in : (workers : ℕ) (events : List Event) (w : World) → WellFormed root → LeadsTo root workers events w → All w
  each_carries-in workers events w well leads =
      (run-keeps Allows Both both-step events (start root workers) w leads (each-always Allows (lost-may value) events) (truth-start value Lossy Spoilt root workers well.formed, (inl refl, tt))).1

pub each_carries : EachCarries
each_carries root workers events w well leads = each_carries-in root workers events w well leads
