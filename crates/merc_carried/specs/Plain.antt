-- Scripts of branches that meet nobody.
use Rattle.merc_script.specs.Script.{Script, Ends, TickThen, WaitThen, SignalThen, ForkThen}

-- a script forks nothing, waits for nothing and signals nothing
abbrev pub IsPlain : Script → Type 0
IsPlain (Ends end) = Unit {0}
IsPlain (TickThen rest) = IsPlain rest
IsPlain (WaitThen cell rest) = ⊥
IsPlain (SignalThen cell rest) = ⊥
IsPlain (ForkThen limit cells moves children rest) = ⊥
