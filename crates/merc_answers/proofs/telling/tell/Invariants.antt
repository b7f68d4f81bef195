-- The taps before this one were told, and the others are as they were.
use Rattle.std.proofs.Common.{◌≡◌, [], ◌∷◌}
use Rattle.merc_answers.specs.Taps.{TapSaw}
use Rattle.merc_answers.proofs.ChangedLists.{Reached}
use Rattle.merc_answers.proofs.telling.tell.Given as goal

abbrev pub invariant-loop-tap : goal.invariant-loop-tap
invariant-loop-tap g l =
    Reached
    (λ old new.
    TapSaw (λ tap. tap.vtable)
    (λ tap. record {
      seen = (goal.Tap-dyn g (tap.vtable, tap.value)).seen tap.value;
      count = (goal.Tap-dyn g (tap.vtable, tap.value)).seen_count tap.value;
      is_over = (goal.Tap-dyn g (tap.vtable, tap.value)).is_over tap.value;
      faults = (goal.Tap-dyn g (tap.vtable, tap.value)).tap_faults tap.value;
    })
    (l.event ∷ []) old new)
    l.fn.taps.items l.tap-items l.tap-index
