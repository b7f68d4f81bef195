-- Where a list begins with an element from an index on.
use Rattle.std.proofs.Common.{◌≡◌, ℕ, suc, ◌+◌, ◌-◌, ◌<◌, ◌≤◌, List, ◌∷◌, ◌++◌, [], length, get_or, take, drop, refl, ap, sym, ◌∙◌, arith, add-one, length-drop}
use Rattle.std.proofs.Math.Seq.{take-suc, drop-cons}

begins_less : {X : Type 0} (index : ℕ) (l : List X) (first : X) (rest : List X) → drop index l ≡ first ∷ rest → index < length l
begins_less index l first rest is = omega (arith, ap length is, length-drop index l)

pub take-begins : {X : Type 0} (index : ℕ) (l : List X) (first : X) (rest : List X) → drop index l ≡ first ∷ rest → take (index + 1) l ≡ take index l ++ first ∷ []
take-begins index l first rest is =
    let less : index < length l = begins_less index l first rest is in
    let from = drop-cons l index first less in
    let same : get_or l index first ≡ first = cc in
    rw (add-one, take-suc l index first less, same) refl

pub drop-begins : {X : Type 0} (index : ℕ) (l : List X) (first : X) (rest : List X) → drop index l ≡ first ∷ rest → drop (index + 1) l ≡ rest
drop-begins index l first rest is =
    let less : index < length l = begins_less index l first rest is in
    let from = drop-cons l index first less in
    rw add-one cc

-- the element before an index
pub begins_before : {X : Type 0} (index : ℕ) (l : List X) (first : X) → 0 < index → index ≤ length l → first ≡ get_or l (index - 1) first → drop (index - 1) l ≡ first ∷ drop index l
begins_before index l first some within is =
    let less : index - 1 < length l = omega arith in
    let next : suc (index - 1) ≡ index = omega arith in
    drop-cons l (index - 1) first less ∙ ap (λ x. x ∷ drop (suc (index - 1)) l) (sym is) ∙ ap (λ n. first ∷ drop n l) next
