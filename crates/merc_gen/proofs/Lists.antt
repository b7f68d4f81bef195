-- Goals that are taken from the last to the first, and from the first to the last.
use Rattle.std.specs.Prelude.{◌≡◌, ◌≤◌, ◌<◌, ◌+◌, ℕ, zero, suc, List, [], ◌∷◌, ◌++◌, length, drop, slice_get, refl, Option, Some, None, MatchOption}
use Rattle.std.proofs.Common.{◌∙◌, ap, sym, subst, add-one, arith}
use Rattle.merc_goal_tree.specs.declared.goal.Symbol.{Symbol}
use Rattle.merc_graded_tree.specs.Nodes.{Node}
use Rattle.merc_graded_tree.specs.Roots.{arms_of, bodies_of}
use Rattle.merc_graded_tree.proofs.JoinLaws.{arms_past}

pub length-last : {X : Type 0} (items : List X) (last : X) → length (items ++ last ∷ []) ≡ suc (length items)
length-last [] last = refl
length-last (first ∷ rest) last = ap suc (length-last rest last)

-- one arm that has no symbol less
pub arms_taken : (symbols : List Symbol) (goals left : List Node) (last : Node) (count : ℕ) (whole : _) → goals ≡ left ++ last ∷ [] → count < length goals → length symbols ≡ count
    → arms_of symbols goals ≡ whole → arms_of symbols left ≡ whole
arms_taken symbols goals left last count whole e h n same =
    sym (arms_past symbols left last (omega (arith, h, n, ap length e, length-last left last))) ∙ ap (arms_of symbols) (sym e) ∙ same

pub bodies_all : (symbols : List Symbol) (goals : List Node) → length goals ≤ length symbols → bodies_of (arms_of symbols goals) ≡ goals
bodies_all [] [] h = refl
bodies_all [] (goal ∷ goals) h = absurd (omega (arith, h))
bodies_all (first ∷ rest) [] h = refl
bodies_all (first ∷ rest) (goal ∷ goals) h = let k : length goals ≤ length rest = omega (arith, h) in ap (λ l. goal ∷ l) (bodies_all rest goals k)

-- the same of what may have been there
pub arms_cut : (symbols : List Symbol) (goals left : List Node) (last : Option Node) (length_is count : ℕ) (whole : _) → length_is ≡ length goals → count < length_is → length symbols ≡ count
    → MatchOption last ((goals ≡ []) × (left ≡ [])) (λ one. goals ≡ left ++ one ∷ []) → arms_of symbols goals ≡ whole → arms_of symbols left ≡ whole
arms_cut symbols goals left None length_is count whole l h n (e, f) same = absurd (omega (arith, l, h, ap length e))
arms_cut symbols goals left (Some last) length_is count whole l h n e same = arms_taken symbols goals left last count whole e (omega (arith, l, h)) n same

taken_at : {X : Type 0} (xs : List X) (n : ℕ) → n < length xs → MatchOption (slice_get xs n) ((drop n xs ≡ []) × (drop (suc n) xs ≡ [])) (λ first. drop n xs ≡ first ∷ drop (suc n) xs)
taken_at [] n h = absurd (omega (arith, h))
taken_at (x ∷ xs) zero h = refl
taken_at (x ∷ xs) (suc n) h = taken_at xs n (omega (arith, h))

-- the first of those that are left
pub first_taken : {X : Type 0} (xs : List X) (n : ℕ) (found : Option X) (left : List X) → drop n xs ≡ left → n < length xs → found ≡ slice_get xs n
    → MatchOption found ((left ≡ []) × (drop (n + 1) xs ≡ [])) (λ first. left ≡ first ∷ drop (n + 1) xs)
first_taken {X} xs n found left view h e =
    subst (λ (m : ℕ). MatchOption found ((left ≡ []) × (drop m xs ≡ [])) (λ first. left ≡ first ∷ drop m xs)) (sym (add-one n))
    (subst (λ (l : List X). MatchOption found ((l ≡ []) × (drop (suc n) xs ≡ [])) (λ first. l ≡ first ∷ drop (suc n) xs)) view
    (subst (λ (o : Option X). MatchOption o ((drop n xs ≡ []) × (drop (suc n) xs ≡ [])) (λ first. drop n xs ≡ first ∷ drop (suc n) xs)) (sym e) (taken_at xs n h)))
