-- What a steal answers.
use Rattle.std.specs.Prelude.{◌≡◌, ◌<◌, ◌⊎◌}
use Rattle.crossbeam_deque.specs.Handles.{Pass, view, taken}
use Rattle.merc_deque.specs.declared.moves.Kind.TheVariants.{Stole}
use Rattle.merc_deque.specs.declared.moves.Known.{Known}
use Rattle.merc_deque.specs.declared.history.Stolen.{Stolen}
use Rattle.merc_deque.specs.declared.history.Stolen.TheVariants.{Got, Few, Again}
use Rattle.merc_deque.specs.History.{Made, HeldFew}

-- the spark at the front; one spark lay there at most; another took a spark since the step before, or one lay there at most
abbrev pub IsStolen : {T A : Type 0} → Pass T (Known T) A → Pass T (Known T) A → Stolen T → Type 0
IsStolen old new (Got spark) = Made Stole (view old) spark (view new)
IsStolen old new Few = (view new ≡ view old) × HeldFew (view old)
IsStolen old new Again = (view new ≡ view old) × ((taken old < taken new) ⊎ HeldFew (view old))
