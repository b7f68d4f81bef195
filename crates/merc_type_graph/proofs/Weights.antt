-- What falls along the needs of places.
use Rattle.std.proofs.Common.{◌≡◌, ℕ, zero, suc, ◌+◌, ◌-◌, ◌*◌, ◌<◌, ◌≤◌, List, [], ◌∷◌, map, length, refl, ap, subst, ◌∙◌, arith, Some}
use Rattle.std.specs.Prelude.{slice_get}
use Rattle.std.proofs.Math.Nat.{mul-le-mul_right}
use Rattle.merc_tree.specs.Types.{TypeExpr, types_of}
use Rattle.merc_type_graph.specs.declared.store.Store.{Store}
use Rattle.merc_type_graph.specs.Solutions.{Agrees, Solves}
use Rattle.merc_type_graph.specs.Cells.{entry_of, entries_of, needs_of, known_at, rank_at, IsForest, IsSound}
use Rattle.merc_type_graph.specs.Visiting.{size, sizes, needs_at, weight}
use Rattle.merc_type_graph.specs.declared.cell.Known.{Known}
use Rattle.merc_type_graph.specs.declared.cell.Known.TheVariants.{Nothing, Whole, Named, SameAs}
use Rattle.merc_type_graph.specs.declared.cell.Cell.{Cell}
use Rattle.merc_type_graph.proofs.Entries.{solves_at}

argument_smaller : (types : ℕ → TypeExpr) (arguments : List ℕ) (number place : ℕ) → slice_get arguments number ≡ Some place
    → size (types place) ≤ sizes (types_of (map types arguments))
argument_smaller types [] number place e = absurd (cc)
argument_smaller types (first ∷ rest) zero place e =
    let same : first ≡ place = cc in subst (λ (p : ℕ). size (types p) ≤ size (types first) + sizes (types_of (map types rest))) same (omega arith)
argument_smaller types (first ∷ rest) (suc number) place e = let less = argument_smaller types rest number place e in omega arith

one_need : (place number found : ℕ) → slice_get (place ∷ []) number ≡ Some found → place ≡ found
one_need place zero found e = cc
one_need place (suc number) found e = absurd (cc)

-- less by size, or by rank where the size is the same
by_size : (width a b p q : ℕ) → a < b → p < width → a * width + p < b * width + q
by_size width a b p q less few =
    let next : a + 1 ≤ b = omega arith in
    let most : (a + 1) * width ≤ b * width = mul-le-mul_right width next in omega arith

less_known : (store : Store) (cells : List Cell) (types : ℕ → TypeExpr) (i place number : ℕ) (known : Known) → IsForest cells → known_at cells i ≡ known
    → Agrees types i (entry_of store known) → slice_get (needs_of (entry_of store known)) number ≡ Some place
    → size (types place) * suc (length cells) + (length cells - rank_at cells place) < size (types i) * suc (length cells) + (length cells - rank_at cells i)
less_known store cells types i place number Nothing forest e agrees need = absurd (cc)
less_known store cells types i place number (Whole whole) forest e agrees need = absurd (cc)
less_known store cells types i place number (Named name first count) forest e agrees need =
    let inner = argument_smaller types (needs_of (entry_of store (Named name first count))) number place need in
    let whole : size (types i) ≡ suc (sizes (types_of (map types (needs_of (entry_of store (Named name first count)))))) = ap size agrees in
    by_size (suc (length cells)) (size (types place)) (size (types i)) (length cells - rank_at cells place) (length cells - rank_at cells i) (omega arith) (omega arith)
less_known store cells types i place number (SameAs to) forest e agrees need =
    let same : to ≡ place = one_need to number place need in
    let link : known_at cells i ≡ SameAs place = e ∙ ap SameAs same in
    let up = forest.rising i place link in
    let near = forest.near i place link in
    let room = forest.room place near in
    let equal : size (types i) * suc (length cells) ≡ size (types place) * suc (length cells) = ap (λ (t : TypeExpr). size t * suc (length cells)) (agrees ∙ ap types same) in
    omega arith

-- a need is lighter than what needs it
pub lighter : (store : Store) (cells : List Cell) (types : ℕ → TypeExpr) (i place number : ℕ) → IsSound store cells → Solves (entries_of store cells) types
    → slice_get (needs_at store cells i) number ≡ Some place → weight cells types place < weight cells types i
unfolding weight
lighter store cells types i place number sound solves need =
    less_known store cells types i place number (known_at cells i) sound.forest refl (solves_at store cells types solves i) need
