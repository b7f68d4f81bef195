-- A list is mapped one item after the other.
use Rattle.std.proofs.Common.{◌≡◌, ℕ, ◌+◌, ◌<◌, List, [], ◌∷◌, ◌++◌, ap, sym, ◌∙◌, length, drop, get_or}
use Rattle.std.proofs.lemmas.List.{append_assoc, drop_more}
use Rattle.std.specs.Prelude.{map}

pub mapped-on : {A B : Type 0} (f : A → B) (xs : List A) (index : ℕ) (x : A) (before now whole : List B) → index < length xs → x ≡ get_or xs index x
    → now ≡ before ++ f x ∷ [] → before ++ map f (drop index xs) ≡ whole → now ++ map f (drop (index + 1) xs) ≡ whole
mapped-on f xs index x before now whole within item put is =
    let next : drop index xs ≡ x ∷ drop (index + 1) xs = drop_more xs index x within ∙ ap (λ y. y ∷ drop (index + 1) xs) (sym item) in
    ap (λ l. l ++ map f (drop (index + 1) xs)) put ∙ append_assoc before (f x ∷ []) (map f (drop (index + 1) xs)) ∙ ap (λ l. before ++ map f l) (sym next) ∙ is
