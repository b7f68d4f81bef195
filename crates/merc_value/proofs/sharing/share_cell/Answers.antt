-- A cell that is there has its word, and one that is not goes behind the others.
use Rattle.std.proofs.Common.{◌≡◌, ◌∙◌, ap, sym, subst, List, ℕ, length, slice_get, Some, eqb, eq-eqb, true, vec_len}
use Rattle.merc_value.specs.Value.{Con}
use Rattle.merc_value.specs.Block.{CellData, word_values, cell_values}
use Rattle.merc_value.specs.Sharing.{KeepsShared, IsWordFor}
use Rattle.merc_value.specs.declared.word.Word.{Word}
use Rattle.merc_value.specs.declared.word.Word.TheVariants.{Cell}
use Rattle.merc_value.proofs.SharingLemmas.{found_word, keeps_more, new_word}
use Rattle.merc_value.proofs.sharing.share_cell.Goals as goal

-- what is found in what the code reads is found in the vectors
in_vectors : (cells cells' : List CellData) (words words' : List Word) (symbol place : ℕ) → cells ≡ cells' → words ≡ words'
    → slice_get cells place ≡ Some (record { symbol = symbol; arguments = words }) → slice_get cells' place ≡ Some (record { symbol = symbol; arguments = words' })
in_vectors cells cells' words words' symbol place same same' found =
    subst (λ (ws : List Word). slice_get cells' place ≡ Some (record { symbol = symbol; arguments = ws })) same'
    (subst (λ (cs : List CellData). slice_get cs place ≡ Some (record { symbol = symbol; arguments = words })) same found)

pub returns-in-Some-clause-word : goal.returns-in-Some-clause-word
returns-in-Some-clause-word c =
    found_word c.args.shared.now.items c.in-Some.place c.args.symbol c.args.arguments.items c.requires.shared
    (in_vectors _ _ _ _ c.args.symbol c.in-Some.place c.deref.ensures.value c.deref-2.ensures.value c.in-Some.ensures.found)

pub returns-clause-kept : goal.returns-clause-kept
returns-clause-kept c =
    subst (KeepsShared c.args.shared.now.items) (sym c.in_ok-push.ensures.items)
    (keeps_more c.args.shared.now.items c.args.symbol c.args.arguments.items c.requires.shared c.requires.below
    (λ place found. c.in_default.ensures.none place (in_vectors _ _ _ _ c.args.symbol place (sym c.deref.ensures.value) (sym c.deref-2.ensures.value) found))
    (λ empty. let none : eqb (vec_len c.args.arguments) 0 ≡ true = eq-eqb _ 0 (sym c.deref-2.ensures.len ∙ ap length (c.deref-2.ensures.value ∙ empty)) in
    let test = c.is_empty.ensures in
    let some = c.if-is_empty.false in
    absurd (cc (none, test, some))))

pub returns-clause-word : goal.returns-clause-word
returns-clause-word c =
    let place : length c.args.shared.now.items ≡ c.len-place.result = ap length (sym c.deref.ensures.value) ∙ c.deref.ensures.len ∙ sym c.len-place.ensures in
    subst (λ (n : ℕ). IsWordFor c.push.new.self.items (Con c.args.symbol (word_values (cell_values c.args.shared.now.items) c.args.arguments.items)) (Cell n)) place
    (subst (λ (cs : List CellData). IsWordFor cs (Con c.args.symbol (word_values (cell_values c.args.shared.now.items) c.args.arguments.items)) (Cell (length c.args.shared.now.items)))
    (sym c.in_ok-push.ensures.items) (new_word c.args.shared.now.items c.args.symbol c.args.arguments.items))
