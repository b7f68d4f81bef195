-- What stands at the place of code is what stands for its first instruction.
use Rattle.std.specs.Prelude.{◌≡◌, ℕ, zero, suc, List, [], ◌∷◌, ◌++◌, drop, Option, Some, slice_get, refl}
use Rattle.std.proofs.Common.{◌∙◌, ap, subst, sym}
use Rattle.merc_tree.specs.declared.declarations.Arg.{Arg}
use Rattle.merc_graded_tree.specs.declared.basic.Procedure.{Procedure}
use Rattle.merc_code.specs.declared.instruction.Instruction.{Instruction}
use Rattle.merc_code.specs.Steps.{Code, Codes}
use Rattle.merc_layout.specs.declared.entries.Entry.{Entry}
use Rattle.merc_load.specs.Combined.{AreCombined, StandsThere, next, none}
use Rattle.merc_load.specs.Loaded.{StandsAt, op_of, ops_of}
use Rattle.merc_load.specs.declared.loaded.Op.{Op}
use Rattle.merc_layout.proofs.Lists.{some_same}

item_behind : (ops : List Op) (place : ℕ) → slice_get (drop place ops) 0 ≡ slice_get ops place
item_behind ops zero = refl
item_behind [] (suc place) = refl
item_behind (op ∷ ops) (suc place) = item_behind ops place

module _ (codes : Codes) (own : Option (List Arg)) where
  abbrev FirstStands : Code → List Op → Op → Type 0
  FirstStands [] listed new = Unit {0}
  FirstStands (instruction ∷ rest) [] new = ⊥
  FirstStands (instruction ∷ rest) (op ∷ ops) new = StandsThere codes own instruction rest op ops new

  first_stands : (code : Code) (listed here behind : List Op) (new : Op) → AreCombined codes own code listed here → slice_get (here ++ behind) 0 ≡ Some new → FirstStands code listed new
  first_stands _ _ _ behind new none found = tt
  first_stands _ _ _ behind new (next instruction rest op ops first here stands others) found = subst (StandsThere codes own instruction rest op ops) (some_same first new found) stands

pub standing_first : (ops : List Op) (codes : Codes) (entry_of : Procedure → Entry) (place size variables : ℕ) (own : Option (List Arg)) (instruction : Instruction) (rest : Code) (new : Op)
    → StandsAt ops codes entry_of place size variables own (instruction ∷ rest) → slice_get ops place ≡ Some new
    → StandsThere codes own instruction rest (op_of codes entry_of variables own instruction rest) (ops_of codes entry_of variables own rest) new
standing_first ops codes entry_of place size variables own instruction rest new stands found =
    first_stands codes own (instruction ∷ rest) (ops_of codes entry_of variables own (instruction ∷ rest)) stands.here stands.behind new stands.combined
    (ap (λ listed. slice_get listed 0) (sym stands.there) ∙ item_behind ops place ∙ found)
