-- What `==` says of two words.
use Rattle.std.proofs.Common.{◌≡◌, ap}
use Rattle.std.specs.Bool.{Decides}
use Rattle.std.proofs.lemmas.Bool.Decides.{Decides-eqb, Decides-int_eq}
use Rattle.merc_value.specs.contracts.word.WordPartialEq.TheImpl.{eq-value}
use Rattle.merc_value.specs.declared.word.Word.{Word}
use Rattle.merc_value.specs.declared.word.Word.TheVariants.{Int, Text, Atom, Cell}

pub word_eq : (x y : Word) → Decides (eq-value.it x y) (x ≡ y)
word_eq (Int x) (Int y) = (λ t. ap Int ((Decides-int_eq x y).0 t), λ e. let same : x ≡ y = cc in (Decides-int_eq x y).1 same)
word_eq (Int x) (Text y) = (λ t. absurd (cc), λ e. absurd (cc))
word_eq (Int x) (Atom y) = (λ t. absurd (cc), λ e. absurd (cc))
word_eq (Int x) (Cell y) = (λ t. absurd (cc), λ e. absurd (cc))
word_eq (Text x) (Int y) = (λ t. absurd (cc), λ e. absurd (cc))
word_eq (Text x) (Text y) = (λ t. ap Text ((Decides-eqb x y).0 t), λ e. let same : x ≡ y = cc in (Decides-eqb x y).1 same)
word_eq (Text x) (Atom y) = (λ t. absurd (cc), λ e. absurd (cc))
word_eq (Text x) (Cell y) = (λ t. absurd (cc), λ e. absurd (cc))
word_eq (Atom x) (Int y) = (λ t. absurd (cc), λ e. absurd (cc))
word_eq (Atom x) (Text y) = (λ t. absurd (cc), λ e. absurd (cc))
word_eq (Atom x) (Atom y) = (λ t. ap Atom ((Decides-eqb x y).0 t), λ e. let same : x ≡ y = cc in (Decides-eqb x y).1 same)
word_eq (Atom x) (Cell y) = (λ t. absurd (cc), λ e. absurd (cc))
word_eq (Cell x) (Int y) = (λ t. absurd (cc), λ e. absurd (cc))
word_eq (Cell x) (Text y) = (λ t. absurd (cc), λ e. absurd (cc))
word_eq (Cell x) (Atom y) = (λ t. absurd (cc), λ e. absurd (cc))
word_eq (Cell x) (Cell y) = (λ t. ap Cell ((Decides-eqb x y).0 t), λ e. let same : x ≡ y = cc in (Decides-eqb x y).1 same)
