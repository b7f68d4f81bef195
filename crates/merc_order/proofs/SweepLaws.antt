-- How far goals of a conjunction have come, in whatever order they went, and what that tells.
use Rattle.std.specs.Prelude.{◌≡◌, true, List, [], ◌∷◌, length, refl}
use Rattle.merc_order.specs.Bound.{Bound, with, Holds}
use Rattle.merc_order.specs.Ways.{CanAll, none, take, Went, start, went, NoneReady}
use Rattle.merc_order.specs.Moves.{Move, settled}
use Rattle.merc_order.specs.Ordered.{are_ready}
use Rattle.merc_order.proofs.MoveLaws.{holds_with, AreMonotone, monotone_one, monotone_rest, can_all-without, settled-all, all-settled}

left_monotone : (all left : List Move) (bound now : Bound) → Went all bound left now → AreMonotone all → AreMonotone left
left_monotone all left bound now (start a k) mono = mono
left_monotone all left bound now (went a l r k n m w t ready) mono = monotone_rest m l r t (left_monotone a l k n w mono)

went-can : (all left : List Move) (bound now : Bound) → Went all bound left now → CanAll left now → CanAll all bound
went-can all left bound now (start a k) can = can
went-can all left bound now (went a l r k n m w t ready) can = went-can a l k n w (take m l r n t ready can)

-- where none is left, all can go
pub all_went : (all : List Move) (bound now : Bound) → AreMonotone all → Went all bound [] now → are_ready (settled (length all) all bound) ≡ true
all_went all bound now mono w = settled-all (length all) all bound refl mono (went-can all [] bound now w (none now))

went-left : (all left : List Move) (bound now : Bound) → AreMonotone all → Went all bound left now → CanAll all bound → CanAll left now
went-left all left bound now mono (start a k) can = can
went-left all left bound now mono (went a l r k n m w t ready) can =
    can_all-without m l r n (left_monotone a l k n w mono) t (went-left a l k n mono w can)

no_way : (m : Move) (ms : List Move) (now : Bound) → NoneReady (m ∷ ms) now → CanAll (m ∷ ms) now → ⊥
no_way m ms now stuck (take move a o k r ready rest) = stuck move o r ready

-- Where some are left and none of them is ready, there is no order, in whatever order the others went.
pub some_left : (all : List Move) (m : Move) (ms : List Move) (bound now : Bound) → AreMonotone all → Went all bound (m ∷ ms) now → NoneReady (m ∷ ms) now → are_ready (settled (length all) all bound) ≡ true → ⊥
some_left all m ms bound now mono w stuck h = no_way m ms now stuck (went-left all (m ∷ ms) bound now mono w (all-settled (length all) all bound refl h))

-- Where more is bound, as far as before can be gone at once.
pub record WentOn (all left : List Move) (more now : Bound) : Type 0 where
  pub at_last : Bound
  pub went_to : Went all more left at_last
  pub more_holds : Holds now at_last

pub went-more : (all left : List Move) (bound more now : Bound) → AreMonotone all → Holds bound more → Went all bound left now → WentOn all left more now
went-more all left bound more now mono h (start a k) = record { at_last = more; went_to = start a more; more_holds = h }
went-more all left bound more now mono h (went a l r k n m w t ready) =
    let i = went-more a l k more n mono h w in
    record {
      at_last = with i.at_last m.binds;
      went_to = went a l r more i.at_last m i.went_to t (monotone_one m l r t (left_monotone a l k n w mono) n i.at_last i.more_holds ready);
      more_holds = holds_with n i.at_last m.binds i.more_holds;
    }

-- Two ways to go that both come to an end leave the same goals.
pub same_left : (all : List Move) (m : Move) (ms : List Move) (bound now then : Bound) → AreMonotone all → Went all bound [] now → Went all bound (m ∷ ms) then → NoneReady (m ∷ ms) then → ⊥
same_left all m ms bound now then mono w v stuck = some_left all m ms bound then mono v stuck (all_went all bound now mono w)
