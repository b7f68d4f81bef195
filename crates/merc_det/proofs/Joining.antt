-- The category of goals that are joined, one by one from the last.
use Rattle.std.specs.Prelude.{◌≡◌, ◌≤◌, ◌<◌, ℕ, zero, suc, List, [], ◌∷◌, length, drop, refl}
use Rattle.std.specs.List.{slice_get}
use Rattle.std.proofs.Common.{◌∙◌, ap, sym, arith}
use Rattle.merc_base.specs.declared.category.Category.{Category}
use Rattle.merc_graded_tree.specs.Nodes.{Node}
use Rattle.merc_grading.specs.Grading.{categories}
use Rattle.merc_det.specs.Folding.{category_in, joined_category}
use Rattle.merc_det.specs.declared.folding.Joint.{Joint}

pub categories_from : (goals : List Node) (index : ℕ) → index < length goals → categories (drop index goals) ≡ category_in (slice_get goals index) ∷ categories (drop (suc index) goals)
categories_from [] index h = absurd (omega (arith, h))
categories_from (first ∷ rest) zero h = refl
categories_from (first ∷ rest) (suc index) h = let k : index < length rest = omega (arith, h) in categories_from rest index k

pub one_more : (joint : Joint) (goals : List Node) (at index : ℕ) (category first result : Category) → index ≡ suc at → index ≤ length goals → category ≡ joined_category joint (categories (drop index goals))
    → first ≡ category_in (slice_get goals at) → ((others : List Category) → category ≡ joined_category joint others → result ≡ joined_category joint (first ∷ others))
    → result ≡ joined_category joint (categories (drop at goals))
one_more joint goals at index category first result n k e f step =
    let j : at < length goals = omega (arith, n, k) in
    step (categories (drop (suc at) goals)) (e ∙ ap (λ m. joined_category joint (categories (drop m goals))) n)
    ∙ ap (λ c. joined_category joint (c ∷ categories (drop (suc at) goals))) f
    ∙ ap (joined_category joint) (sym (categories_from goals at j))
