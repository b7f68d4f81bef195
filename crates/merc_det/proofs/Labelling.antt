-- A goal's label is that of its last part.
use Rattle.std.specs.Prelude.{◌≡◌, ◌≤◌, ◌-◌, ℕ, [], ◌∷◌, length, Some}
use Rattle.std.specs.List.{slice_get}
use Rattle.std.proofs.Common.{◌∙◌, ap, arith}
use Rattle.std.proofs.lemmas.List.{length-append}
use Rattle.merc_graded_tree.specs.LabelCode.{labels_are}
use Rattle.merc_graded_tree.specs.Labels.{labels_of, all_labels}
use Rattle.merc_graded_tree.specs.Nodes.{Node}
use Rattle.merc_graded_tree.specs.Roots.{goals_of, label_of}
use Rattle.merc_det.proofs.SeenLaws.{slice_get-last}

pub some_label : (whole : Node) → 1 ≤ length (labels_of whole)
some_label whole = omega (arith, ap length (labels_are whole), length-append (all_labels (goals_of whole)) (label_of whole ∷ []))

pub label_last : (whole : Node) (count : ℕ) → count ≡ length (labels_of whole) → slice_get (labels_of whole) (count - 1) ≡ Some (label_of whole)
label_last whole count e =
    let at : count - 1 ≡ length (all_labels (goals_of whole)) =
    omega (arith, e, ap length (labels_are whole), length-append (all_labels (goals_of whole)) (label_of whole ∷ [])) in
    ap (λ l. slice_get l (count - 1)) (labels_are whole) ∙ slice_get-last (all_labels (goals_of whole)) (label_of whole) (count - 1) at
