-- The taps saw the events so far.
use Rattle.std.proofs.Common.{◌≡◌, ◌<◌, take, All, false}
use Rattle.merc_answers.specs.Taps.{TapsSaw}
use Rattle.merc_tests.proofs.taps.tell_all.Given as goal

abbrev pub invariant-loop-event : goal.invariant-loop-event
invariant-loop-event g l =
    TapsSaw (λ tap. tap.vtable)
    (λ tap. record {
      seen = (goal.Tap-dyn g (tap.vtable, tap.value)).seen tap.value;
      count = (goal.Tap-dyn g (tap.vtable, tap.value)).seen_count tap.value;
      is_over = (goal.Tap-dyn g (tap.vtable, tap.value)).is_over tap.value;
      faults = (goal.Tap-dyn g (tap.vtable, tap.value)).tap_faults tap.value;
    })
    (take l.event-index l.events) l.fn.taps.items l.taps.items
