-- How a script lies in a list of items: each Fork before its children, the children one after the other, each up to its
-- end, and then what follows the Fork. So the place of an item says how many items and ends come before it where the
-- children of each Fork run before what follows.
use Rattle.std.specs.Prelude.{◌≡◌, ℕ, List, [], ◌∷◌, ◌++◌, take, drop}
use Rattle.merc_script.specs.declared.outcome.Outcome.TheVariants.{Starved}
use Rattle.merc_script.specs.declared.items.Fork.{Fork}
use Rattle.merc_script.specs.declared.items.Item.{Item}
use Rattle.merc_script.specs.declared.items.Item.TheVariants.{Tick, Wait, Signal, Fork as ForkItem, End}
use Rattle.merc_script.specs.Script.{Script, Ends, TickThen, WaitThen, SignalThen, ForkThen, Children, NoChild, Child, count}

-- the items of a script, and of children
abbrev mutual
  pub items_of : Script → List Item
  items_of (Ends end) = End end ∷ []
  items_of (TickThen rest) = Tick ∷ items_of rest
  items_of (WaitThen cell rest) = Wait cell ∷ items_of rest
  items_of (SignalThen cell rest) = Signal cell ∷ items_of rest
  items_of (ForkThen limit cells moves children rest) =
      ForkItem (record { limit = limit; children = count children; cells = cells; moves = moves }) ∷ (items_in children ++ items_of rest)

  pub items_in : Children → List Item
  items_in NoChild = []
  items_in (Child first others) = items_of first ++ items_in others

-- scripts as children, and back
abbrev pub children_of : List Script → Children
children_of [] = NoChild
children_of (first ∷ others) = Child first (children_of others)

abbrev pub scripts_of : Children → List Script
scripts_of NoChild = []
scripts_of (Child first others) = first ∷ scripts_of others

-- the first of these scripts, or one that is never asked for
abbrev pub first_of : List Script → Script
first_of [] = Ends Starved
first_of (first ∷ others) = first

-- what scripts become where an item is read before them
abbrev pub opened : Item → List Script → List Script
opened (End end) scripts = Ends end ∷ scripts
opened Tick scripts = TickThen (first_of scripts) ∷ drop 1 scripts
opened (Wait cell) scripts = WaitThen cell (first_of scripts) ∷ drop 1 scripts
opened (Signal cell) scripts = SignalThen cell (first_of scripts) ∷ drop 1 scripts
opened (ForkItem fork) scripts =
    ForkThen fork.limit fork.cells fork.moves (children_of (take fork.children scripts)) (first_of (drop fork.children scripts))
    ∷ drop 1 (drop fork.children scripts)

-- the scripts that stand one after the other in a list of items
abbrev pub scripts_in : List Item → List Script
scripts_in [] = []
scripts_in (item ∷ items) = opened item (scripts_in items)

-- the script that items stand for
abbrev pub script_of : List Item → Script
script_of items = first_of (scripts_in items)

-- items are those of the one script that they stand for
abbrev pub IsScript : List Item → Type 0
IsScript items = items_of (script_of items) ≡ items
