-- The items of the script in which the first child hands a value to the second.
use Rattle.std.proofs.Common.{◌≡◌, ◌∙◌, ℕ, List, [], ◌∷◌, Some, refl, ap, sym, subst, pos}
use Rattle.std.specs.Prelude.{Option}
use Rattle.merc_value.specs.Value.{Value, Int}
use Rattle.merc_script.specs.declared.cells.Move.{Move}
use Rattle.merc_script.specs.declared.items.Item.{Item}
use Rattle.merc_script.specs.declared.items.Item.TheVariants.{Tick, Wait, Signal, Fork, End}
use Rattle.merc_script.specs.declared.outcome.Outcome.TheVariants.{Ok}
use Rattle.merc_script.specs.Items.{items_of, script_of}
use Rattle.merc_script.specs.Script.{Script, Cell}
use Rattle.merc_script.specs.ScriptCode.{script_of-items_of}
use Rattle.merc_core.specs.WellFormed.{WellFormed}
use Rattle.merc_core.proofs.CoreExamples.{root, root-well}

-- a script that lies in memory so is well formed
abbrev items_with : ℕ → List Cell → List Move → List Item
items_with cell cells moves =
    Fork (record { limit = 9; children = 2; cells = cells; moves = moves }) ∷ Tick ∷ Signal cell ∷ End (Ok 1) ∷ Wait cell ∷ Tick ∷ End (Ok 1) ∷ End (Ok 2) ∷ []

pub lies-so : (script : Script) (items : List Item) (number : ℕ) (cells : List Cell) (moves : List Move) (value : Option Value) → items_of script ≡ items → items ≡ items_with number cells moves
    → cells ≡ record { cell = number; producer = 1; consumer = 2; value = value } ∷ [] → moves ≡ [] → number ≡ 5 → value ≡ Some (Int (pos 7)) → WellFormed script
lies-so script items number cells moves value lies is made none five valued =
    let same : script_of (items_with number cells moves) ≡ root = rw (made, none, five, valued) refl in
    subst WellFormed (sym (sym (script_of-items_of script) ∙ ap script_of (lies ∙ is) ∙ same)) root-well
