-- The passes of a new deque.
use Rattle.std.specs.Prelude.{◌≡◌, List, All}
use Rattle.crossbeam_deque.specs.declared.handles.Stealer.{Stealer}
use Rattle.crossbeam_deque.specs.Handles.{Pass, view, IsPassOf, stealer_deque}
use Rattle.merc_deque.specs.declared.moves.Known.{Known}
use Rattle.merc_deque.specs.History.{newcomer}

module _ {T A P : Type 0} where
  -- a pass of this deque, which has seen nothing
  abbrev pub IsNew : Stealer T A (Known T) P → Pass T (Known T) A → Type 0
  IsNew stealer pass = IsPassOf (stealer_deque stealer) pass × (view pass ≡ newcomer)

  abbrev pub AreNew : Stealer T A (Known T) P → List (Pass T (Known T) A) → Type 0
  AreNew stealer passes = All (IsNew stealer) passes
