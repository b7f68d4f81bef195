-- What is known of the root before its first step.
use Rattle.std.proofs.Common.{◌≡◌, ℕ, zero, ◌+◌, ◌-◌, ◌≤◌, Bool, true, false, Some, None, [], refl, ap, sym, ◌∙◌, subst, arith}
use Rattle.merc_meaning.specs.Trace.{Run}
use Rattle.merc_core.specs.WellFormed.{cells_of, value_in, most_steps}
use Rattle.merc_script.specs.Script.{Script}
use Rattle.merc_script.specs.Places.{Place}
use Rattle.merc_rights.specs.declared.sites.SiteInfo.{SiteInfo}
use Rattle.merc_machine.specs.declared.machine.Machine.{Machine}
use Rattle.merc_machine.specs.Coming.{all_left}
use Rattle.merc_machine.specs.Running.{Means}
use Rattle.merc_board.specs.declared.board.Board as Board
use Rattle.merc_board.specs.declared.branch.Branch.{Branch}
use Rattle.merc_board.specs.Rights.{Rights, no_rights}
use Rattle.merc_board.specs.Going.{start}
use Rattle.merc_carried.specs.KeepsTo.{KeepsTo}
use Rattle.merc_carried.specs.Runs.{IsLeftOf, begins}
use Rattle.merc_pool.specs.declared.engine.Engine as Engine
use Rattle.merc_pool.specs.declared.load.Asked as Asked
use Rattle.merc_pool.specs.declared.load.Carried.{Carried}
use Rattle.merc_pool.specs.declared.load.Progress.{Progress}
use Rattle.merc_pool.specs.declared.hand.Hand.{Hand}
use Rattle.merc_pool.specs.declared.hand.Hand.TheVariants.{Runs}
use Rattle.merc_pool.specs.declared.shared.Slot.{Slot}
use Rattle.merc_pool.specs.Asking.{Asks}
use Rattle.merc_pool.specs.Carrying.{made_by, IsCounted, IsOn, IsReported, Stands, StandsAt, goes_on}
use Rattle.merc_pool.specs.Hands.{HasPassed, IsRooted}
use Rattle.merc_pool.specs.Sessions.{HasGiven, IsHome, IsTallied, RootHand}

none_made : (left limit : ℕ) → left ≡ limit → limit - left ≡ zero
none_made left limit is = omega (arith, is)

module _ (sites : _) (root : Script) (whole : Run) where
  asked_none : (machine : Machine) → Asks machine sites root whole → made_by machine ≡ zero
  asked_none machine asks = none_made (all_left machine) machine.limit asks.begins

  asked_counted : (machine : Machine) → Asks machine sites root whole → IsCounted machine
  asked_counted machine asks = let is = asks.begins in record { within = omega (arith, is); few = asks.few }

  asked_keeps : (machine : Machine) (asks : Asks machine sites root whole) → KeepsTo sites (value_in (cells_of root)) no_rights (all_left machine) (made_by machine) whole asks.course root
  asked_keeps machine asks =
      subst (λ k. KeepsTo sites (value_in (cells_of root)) no_rights k (made_by machine) whole asks.course root) (sym asks.begins)
      (subst (λ k. KeepsTo sites (value_in (cells_of root)) no_rights machine.limit k whole asks.course root) (sym (asked_none machine asks)) asks.keeps)

  module _ {M : Type 0} (m : Engine.Ghosts M) where
    begins_on : (progress : Progress M) → Asks (m.seen progress.machine) sites root whole → progress.given ≡ 0 → (asks : Asks (m.seen progress.machine) sites root whole)
        → IsOn m sites root whole progress no_rights (start root) asks.course root
    begins_on progress a none asks = record {
      rooted = refl;
      left = refl;
      run = whole;
      keeps = asked_keeps (m.seen progress.machine) asks;
      means = asks.means;
      counted = asked_counted (m.seen progress.machine) asks;
      tells = λ named. subst (λ g. IsLeftOf whole g (made_by (m.seen progress.machine)) whole) (sym none)
          (subst (λ k. IsLeftOf whole 0 k whole) (sym (asked_none (m.seen progress.machine) asks)) begins);
    }

    pub begins_at : (progress : Progress M) (machine : M) → progress.machine ≡ machine → progress.given ≡ 0 → progress.reported ≡ 0 → Asks (m.seen machine) sites root whole
        → StandsAt m sites root whole progress no_rights (start root)
    begins_at progress machine same none unreported asked =
        let asks : Asks (m.seen progress.machine) sites root whole = subst (λ k. Asks (m.seen k) sites root whole) (sym same) asked in
        (asked_none (m.seen progress.machine) asks ∙ sym unreported, goes_on asks.course root (begins_on progress asks none asks))

module _ {M N B H S W G C : Type 0} (m : Engine.Ghosts M) (n : Asked.Ghosts N) (b : Board.Ghosts B (Carried M N) H S W G C) where
  begins_rooted : (board : B) (seat : S) (branch : Branch (Carried M N) H) → b.own board seat branch.hold (start n.root) → b.rights branch.hold ≡ no_rights
      → StandsAt m n.sites n.root n.run branch.load.progress no_rights (start n.root) → IsRooted m n b board seat branch
  begins_rooted board seat branch owned none stands = record {
    at = start n.root;
    named = refl;
    passed = record {
      from = start n.root;
      passed = 0;
      owned = owned;
      ticked = record { same_root = refl; same_name = refl; passed = refl; rest = n.root; before = refl; after = refl };
      reported = let is = stands.0 in omega (arith, is);
    };
    stands = subst (λ r. Stands m n.sites n.root n.run branch.load.progress r (start n.root)) (sym none) stands.1;
  }

  root_hand : (board : B) (seat : S) (hand : Hand (Carried M N) H) (branch : _) → hand ≡ Runs branch → IsRooted m n b board seat branch.value → RootHand m n b board seat hand
  root_hand board seat hand branch is rooted = subst (λ h. RootHand m n b board seat h) (sym is) rooted

  -- the worker that has the root before its first step
  pub begins_home : {P : Type 0} (board : B) (slot : Slot (Carried M N) H S P) (seat : S) (branch : _) → slot.worker.seat ≡ seat → slot.worker.may_run ≡ false → slot.hand ≡ Runs branch
      → b.own board seat branch.value.hold (start n.root) → b.rights branch.value.hold ≡ no_rights → branch.value.load.progress.given ≡ 0
      → StandsAt m n.sites n.root n.run branch.value.load.progress no_rights (start n.root) → IsHome m n b board 0 (Some slot)
  begins_home board slot seat branch same may in_hand owned none given stands = (
    root_hand board slot.worker.seat slot.hand branch in_hand (begins_rooted board slot.worker.seat branch.value (subst (λ s. b.own board s branch.value.hold (start n.root)) (sym same) owned) none stands),
    subst (λ h. HasGiven 0 h) (sym in_hand) given,
    λ allowed. absurd cc,
  )

  pub begins_tallied : {P : Type 0} (slot : Slot (Carried M N) H S P) (branch : _) → slot.hand ≡ Runs branch → branch.value.load.ticks ≡ 0 → branch.value.load.progress.reported ≡ 0
      → StandsAt m n.sites n.root n.run branch.value.load.progress no_rights (start n.root) → IsTallied m slot.hand
  begins_tallied slot branch in_hand none unreported stands = subst (λ h. IsTallied m h) (sym in_hand) (none ∙ sym (stands.0 ∙ unreported))
