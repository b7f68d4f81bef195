-- Places that no visit has come to.
use Rattle.std.specs.Prelude.{◌≡◌, ℕ, List}
use Rattle.merc_type_graph.specs.Visiting.{mark_at}
use Rattle.merc_type_graph.specs.declared.visiting.Mark.{Mark}
use Rattle.merc_type_graph.specs.declared.visiting.Mark.TheVariants.{New}

abbrev pub AreNew : List Mark → Type 0
AreNew marks = (i : ℕ) → mark_at marks i ≡ New
