-- Places in a root script: at an item of the root's script or of one below it, or at its end.
use Rattle.std.specs.Prelude.{ℕ, zero, suc, List, [], ◌∷◌, Option, Some, None}
use Rattle.merc_script.specs.Script.{Script, Ends, TickThen, WaitThen, SignalThen, ForkThen, Children, NoChild, Child}

-- The way from a root script to one below it: for each Fork on the way the number of items before it in its script, and
-- the child, numbered from 1.
abbrev pub Name : Type 0
Name = List (ℕ × ℕ)

-- so many items of the script with this name are passed
pub record Place : Type 0 where
  pub root : Script
  pub name : Name
  pub passed : ℕ

-- what is left of a script behind so many items, if it has so many
abbrev pub left_behind : ℕ → Script → Option Script
left_behind zero script = Some script
left_behind (suc passed) (Ends end) = None
left_behind (suc passed) (TickThen rest) = left_behind passed rest
left_behind (suc passed) (WaitThen cell rest) = left_behind passed rest
left_behind (suc passed) (SignalThen cell rest) = left_behind passed rest
left_behind (suc passed) (ForkThen limit cells moves children rest) = left_behind passed rest

-- the script of this child, where the first has the number 1
abbrev pub child_at : ℕ → Children → Option Script
child_at zero children = None
child_at (suc before) NoChild = None
child_at (suc zero) (Child first others) = Some first
child_at (suc (suc before)) (Child first others) = child_at (suc before) others

-- the script of this child of the Fork with which a script begins
abbrev pub child_of : ℕ → Option Script → Option Script
child_of child None = None
child_of child (Some (Ends end)) = None
child_of child (Some (TickThen rest)) = None
child_of child (Some (WaitThen cell rest)) = None
child_of child (Some (SignalThen cell rest)) = None
child_of child (Some (ForkThen limit cells moves children rest)) = child_at child children

abbrev pub left_in : ℕ → Option Script → Option Script
left_in passed None = None
left_in passed (Some script) = left_behind passed script

-- the script to which a name leads
abbrev pub script_named : Name → Option Script → Option Script
script_named [] script = script
script_named (step ∷ steps) script = script_named steps (child_of step.1 (left_in step.0 script))

-- what is left of the script at a place, if there is such a place
abbrev pub left_of : Place → Option Script
left_of place = left_in place.passed (script_named place.name (Some place.root))
