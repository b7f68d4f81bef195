-- One tap more is told.
use Rattle.std.proofs.Common.{◌≡◌, ◌∙◌, ◌<◌, false, arith, sym, subst}
use Rattle.merc_answers.proofs.ChangedLists.{reached_none, reached_holds, reached_more, reached_all, changed_whole}
use Rattle.merc_answers.proofs.telling.tell.Goals as goal

pub loop-tap-init : goal.loop-tap-init
loop-tap-init g c = reached_none _ _ _ 0 c.deref_mut-tap-items.ensures.value

pub tell_one-requires : goal.tell_one-requires
tell_one-requires g c = record {
  room =
      reached_holds _ _ _ _
      (λ tap. (goal.Tap-dyn g (tap.vtable, tap.value)).is_over tap.value ≡ false → (goal.Tap-dyn g (tap.vtable, tap.value)).tap_faults tap.value < 18446744073709551615)
      c.tap-item.result c.requires.room (omega (arith, c.loop-tap-test.true, c.loop-tap.auto.tap-items)) c.loop-tap.invariant;
}

pub loop-tap-preserved : goal.loop-tap-preserved
loop-tap-preserved g c =
    reached_more _ _ _ _ c.tap-item.result c.tell_one.new.tap (omega (arith, c.loop-tap-test.true, c.loop-tap.auto.tap-items)) c.loop-tap.invariant c.tell_one.ensures

pub returns : goal.returns
returns g c =
    let kept = c.loop-tap.invariant in
    let told = reached_all _ _ _ _ (omega (arith, c.loop-tap-test.false, c.loop-tap.auto.tap-items)) kept in
    let whole = changed_whole c.args.taps.now.items c.loop-tap.tap-items c.args.taps.now.len (c.loop-tap.auto.tap-items ∙ c.deref_mut-tap-items.ensures.len) in
    rw whole told
