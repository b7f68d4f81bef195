-- Worked examples of scripts that are plain, and of those that are not.
use Rattle.std.specs.Prelude.{[]}
use Rattle.merc_script.specs.declared.outcome.Outcome.TheVariants.{Ok as Fine, Limit}
use Rattle.merc_script.specs.Script.{Ends, TickThen, WaitThen, SignalThen, ForkThen, NoChild}
use Rattle.merc_carried.specs.Plain.{IsPlain}

plain-end : IsPlain (Ends Limit)
plain-end = tt

plain-ticks : IsPlain (TickThen (TickThen (Ends (Fine 2))))
plain-ticks = tt

plain-not-wait : IsPlain (TickThen (WaitThen 5 (Ends (Fine 1)))) → ⊥
plain-not-wait plain = plain

plain-not-signal : IsPlain (SignalThen 5 (Ends (Fine 0))) → ⊥
plain-not-signal plain = plain

plain-not-fork : IsPlain (ForkThen 3 [] [] NoChild (Ends (Fine 0))) → ⊥
plain-not-fork plain = plain
