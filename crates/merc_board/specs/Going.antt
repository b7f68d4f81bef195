-- How branches go on through their scripts.
use Rattle.std.specs.Prelude.{◌≡◌, ℕ, zero, suc, ◌+◌, List, [], ◌∷◌, ◌++◌, Some}
use Rattle.merc_script.specs.Script.{Script, TickThen}
use Rattle.merc_script.specs.Places.{Place, left_of}

-- the beginning of the root
abbrev pub start : Script → Place
start root = record { root = root; name = []; passed = 0 }

-- behind the item at a place
abbrev pub next : Place → Place
next at = record { root = at.root; name = at.name; passed = suc at.passed }

-- the beginning of a child of the fork at a place; children are numbered from 1
abbrev pub child_place : Place → ℕ → Place
child_place at child = record { root = at.root; name = at.name ++ (at.passed, child) ∷ []; passed = 0 }

-- this many Ticks, and then a script
abbrev pub ticks_before : ℕ → Script → Script
ticks_before zero script = script
ticks_before (suc made) script = TickThen (ticks_before made script)

-- A place lies behind another, and this many Ticks stand between them and nothing else.
pub record Ticked (from : Place) (made : ℕ) (at : Place) : Type 0 where
  pub same_root : at.root ≡ from.root
  pub same_name : at.name ≡ from.name
  pub passed : at.passed ≡ from.passed + made
  pub rest : Script
  pub before : left_of from ≡ Some (ticks_before made rest)
  pub after : left_of at ≡ Some rest
