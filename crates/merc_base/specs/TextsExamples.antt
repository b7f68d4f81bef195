-- What the definitions of Texts say of short lists.
use Rattle.std.specs.Prelude.{◌≡◌, refl, ℕ, true, Some, None, List, [], ◌∷◌, codes}
use Rattle.merc_base.specs.Texts.{is_among, place_among, with_text, number_among}

abbrev pub two_texts : List (List ℕ)
two_texts = codes "X" ∷ codes "Total" ∷ []

pub is_among-example : is_among (codes "Total") two_texts ≡ true
is_among-example = refl

-- a front of a text is another text
pub is_among-counterexample : is_among (codes "Tot") two_texts ≡ true → ⊥
is_among-counterexample wrong = cc

pub place_among-example : place_among two_texts (codes "Total") ≡ 1
place_among-example = refl

-- what is not there has the place behind the last
pub place_among-example-absent : place_among two_texts (codes "Y") ≡ 2
place_among-example-absent = refl

pub place_among-counterexample : place_among two_texts (codes "X") ≡ 1 → ⊥
place_among-counterexample wrong = cc

pub with_text-example : with_text two_texts (codes "Y") ≡ codes "X" ∷ codes "Total" ∷ codes "Y" ∷ []
with_text-example = refl

pub with_text-example-present : with_text two_texts (codes "X") ≡ two_texts
with_text-example-present = refl

-- it goes behind the others
pub with_text-counterexample : with_text two_texts (codes "Y") ≡ codes "Y" ∷ two_texts → ⊥
with_text-counterexample wrong = cc

pub number_among-example : number_among two_texts (codes "Total") ≡ Some 1
number_among-example = refl

pub number_among-example-absent : number_among two_texts (codes "Y") ≡ None
number_among-example-absent = refl
