-- Texts whose items are computed, and texts that have none, by the computation of TextsRead.
use Rattle.std.proofs.Common.{◌≡◌, [], ◌∷◌, Some, None, refl}
use Rattle.std.specs.Prelude.{codes}
use Rattle.merc_base.specs.Names.{fixed_names, append_name, nil_name}
use Rattle.merc_tree.specs.Term.{Application, none, more}
use Rattle.merc_terms.specs.Operators.{operators}
use Rattle.merc_terms.specs.Reader.{reading}
use Rattle.merc_terms.proofs.TextsRead.{items_of_text}

pub items_of_text-example : items_of_text 9 1 (codes "append([]).\n")
    ≡ Some (Application append_name None (more (Application nil_name None none (record { first = 7; past = 9; line = 1 })) none) (record { first = 0; past = 10; line = 1 }) ∷ [])
unfolding fixed_names operators reading
items_of_text-example = refl

-- an item without its full stop
pub items_of_text-unstopped : items_of_text 9 1 (codes "append([])\n") ≡ None
unfolding fixed_names operators reading
items_of_text-unstopped = refl

-- no operator stands between the terms
pub items_of_text-operator : items_of_text 9 1 (codes "no yes.") ≡ None
unfolding fixed_names operators reading
items_of_text-operator = refl

-- a word that is no constant
pub items_of_text-word : items_of_text 9 1 (codes "appended([]).\n") ≡ None
unfolding fixed_names operators reading
items_of_text-word = refl
