-- That the categories which library units declare allow those that are inferred of their bodies.
use Rattle.std.specs.Prelude.{ℕ, List}
use Rattle.std.specs.List.{IsDistinct}
use Rattle.std.specs.Str.{bytes_eq}
use Rattle.merc_base.specs.Names.{HoldsFixed}
use Rattle.merc_tree.specs.Term.{Term}
use Rattle.merc_tree.specs.declared.declarations.Module.{Module}
use Rattle.merc_flat.specs.Flat.{clause_node}
use Rattle.merc_items.specs.ReadModule.{IsModule}
use Rattle.merc_grading.specs.Faults.{Body, procedures_of}
use Rattle.merc_order_laws.specs.ProcedureBodies.{AreBodiesOf}
use Rattle.merc_program_laws.specs.ProgramBodies.{UnitsAllow}

-- In each module that a text is, the declared categories of procedures of library units allow those of their bodies. The table of names is as each is: the
-- constants come first, and each text stands once.
abbrev pub UnitsAreAllowed : Type 0
UnitsAreAllowed = (before after : List (List ℕ)) (text : List ℕ) (terms : List Term) (found : Module) (bodies : List Body)
    → HoldsFixed before → IsDistinct bytes_eq before → IsModule before after text terms found
    → AreBodiesOf found (clause_node after found) (procedures_of found.preds) bodies
    → UnitsAllow found (procedures_of found.preds) bodies
