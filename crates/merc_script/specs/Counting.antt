-- How many scripts stand one after the other in a list of items.
use Rattle.std.specs.Prelude.{ℕ, ◌+◌, ◌-◌, List, [], ◌∷◌, Option, Some, None, if◌then◌else◌, nat_lt, nat_eq}
use Rattle.merc_script.specs.declared.items.Item.{Item}
use Rattle.merc_script.specs.declared.items.Item.TheVariants.{Tick, Wait, Signal, Fork, End}

-- there is a script for the item to be put before
abbrev pub unless_none : ℕ → Option ℕ
unless_none scripts = if nat_eq scripts 0 then None else Some scripts

-- how many there are where an item is read before so many: a Fork wants its children and what follows them
abbrev pub opened_count : Item → ℕ → Option ℕ
opened_count (End end) scripts = Some (scripts + 1)
opened_count Tick scripts = unless_none scripts
opened_count (Wait cell) scripts = unless_none scripts
opened_count (Signal cell) scripts = unless_none scripts
opened_count (Fork fork) scripts = if nat_lt fork.children scripts then Some (scripts - fork.children) else None

abbrev pub count_opened : Item → Option ℕ → Option ℕ
count_opened item None = None
count_opened item (Some scripts) = opened_count item scripts

-- how many scripts items are, if they are nothing else
abbrev pub count_in : List Item → Option ℕ
count_in [] = Some 0
count_in (item ∷ items) = count_opened item (count_in items)
