-- Events whose worker is not there.
use Rattle.std.proofs.Common.{◌≡◌, ℕ, ◌≤◌, Bool, true, false, List, refl, ap, ◌∙◌, arith, length}
use Rattle.std.proofs.lemmas.Bool.Decides.{nat_tests}
use Rattle.std.specs.Prelude.{Err, if◌then◌else◌, nat_eq, nat_lt}
use Rattle.merc_script.specs.declared.items.Item.{Item}
use Rattle.merc_core.specs.declared.event.Event.{Event}
use Rattle.merc_core.specs.declared.event.Event.TheVariants.{Tick, Fork, Pop, Steal, Signal, Wait, End, Resume, Lost}
use Rattle.merc_core.specs.declared.event.NotNow.TheVariants.{NoWorker, SameWorker}
use Rattle.merc_core.specs.World.{World}
use Rattle.merc_core.specs.Events.{Answer, worker_of, happens, in_hand, if_free, take_up, front_of}
use Rattle.merc_core.specs.Mirror.{Parts, Mirrors}

refused : (known : Bool) (answer : Answer) → known ≡ false → (if known then answer else Err NoWorker) ≡ Err NoWorker
refused true answer is = absurd (cc)
refused false answer is = refl

no-worker : (w : World) (event : Event) → nat_lt (worker_of event) w.workers ≡ false → happens w event ≡ Err NoWorker
no-worker w (Tick v) is = refused (nat_lt v w.workers) _ is
no-worker w (Fork v) is = refused (nat_lt v w.workers) _ is
no-worker w (Pop v) is = refused (nat_lt v w.workers) _ is
no-worker w (Steal v u) is = refused (nat_lt v w.workers) _ is
no-worker w (Signal v) is = refused (nat_lt v w.workers) _ is
no-worker w (Wait v) is = refused (nat_lt v w.workers) _ is
no-worker w (End v) is = refused (nat_lt v w.workers) _ is
no-worker w (Resume v) is = refused (nat_lt v w.workers) _ is
no-worker w (Lost v) is = refused (nat_lt v w.workers) _ is

not-less : (v n m : ℕ) → n ≤ v → n ≡ m → nat_lt v m ≡ false
not-less v n m past same = grind (arith, nat_tests)

module _ (items : List Item) (parts : Parts) (w : World) (mirrors : Mirrors items parts w) where
  pub unknown-worker : (event : Event) → length parts.workers ≤ worker_of event → happens w event ≡ Err NoWorker
  unknown-worker event past = no-worker w event (not-less (worker_of event) (length parts.workers) w.workers past mirrors.workers)

  pub unknown-victim : (v u : ℕ) → nat_lt v w.workers ≡ true → length parts.workers ≤ u → happens w (Steal v u) ≡ Err NoWorker
  unknown-victim v u known past =
      let answer = if_free (in_hand v w.pool) (if nat_eq v u then Err SameWorker else take_up w v (front_of u w.pool)) in
      ap (λ t. if t then (if nat_lt u w.workers then answer else Err NoWorker) else Err NoWorker) known
      ∙ refused (nat_lt u w.workers) answer (not-less u (length parts.workers) w.workers past mirrors.workers)
