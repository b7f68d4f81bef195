-- What a worker that steals has seen.
use Rattle.std.proofs.Common.{◌≡◌, ◌≢◌, ◌<◌, ℕ, ◌+◌, List, sym, ap, ◌∙◌, subst, arith}
use Rattle.std.specs.Prelude.{Some, slice_get}
use Rattle.std.specs.declared.alloc.Global.{Global}
use Rattle.crossbeam_deque.specs.Handles.{Pass, view}
use Rattle.merc_deque.specs.declared.moves.Known.{Known}
use Rattle.merc_deque.specs.History.{HeldFew}
use mathlib.Core.Logic.{dite}
use native.Mathlib.Decide.{ℕ_discrete}
use Rattle.merc_stealing.specs.Stolen.{StoleNone}

-- one worker more was looked at
pub few_more : {T : Type 0} (other number : ℕ) (old new : List (Pass T (Known T) Global)) → ((i : ℕ) (pass : Pass T (Known T) Global) → i < other → i ≢ number → slice_get old i ≡ Some pass → HeldFew (view pass))
    → StoleNone other number old new → (i : ℕ) (pass : Pass T (Known T) Global) → i < other + 1 → i ≢ number → slice_get new i ≡ Some pass → HeldFew (view pass)
few_more other number old new few none i pass below apart at = dite (ℕ_discrete i other)
    (λ same. none.here pass (subst (λ n. n ≢ number) same apart) (ap (slice_get new) (sym same) ∙ at))
    (λ differs. few i pass (omega (arith, below, differs)) apart (sym (none.else_same i differs) ∙ at))
