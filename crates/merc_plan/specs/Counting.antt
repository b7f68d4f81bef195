-- Which steps the items of a script account for.
use Rattle.std.specs.Prelude.{◌≡◌, ℕ, suc, ◌+◌, ◌≤◌}
use Rattle.merc_script.specs.declared.outcome.Outcome.TheVariants.{Ok as Fine}
use Rattle.merc_script.specs.Script.{Script, Ends, TickThen, WaitThen, SignalThen, ForkThen, ends, end_of}
use Rattle.merc_script.specs.Joining.{joined}
use Rattle.merc_core.specs.WellFormed.{gain}

-- a script's own steps, with those of its forks that end well
abbrev pub gained : Script → ℕ
gained (Ends end) = 0
gained (TickThen rest) = suc (gained rest)
gained (WaitThen cell rest) = gained rest
gained (SignalThen cell rest) = gained rest
gained (ForkThen limit cells moves children rest) = gain (joined limit (ends children)) + gained rest

-- Of a script with so many steps left, after so many that were made: they never pass the limit, and where the script ends well its number has all of them.
abbrev pub Accounts : ℕ → ℕ → Script → Type 0
Accounts left made script = (gained script ≤ left) × ((number : ℕ) → end_of script ≡ Fine number → number ≡ made + gained script)
