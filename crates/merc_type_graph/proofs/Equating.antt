-- Pairs made equal one after another.
use Rattle.std.proofs.Common.{◌≡◌, ℕ, ◌<◌, List, [], ◌∷◌, ◌++◌, length, Bool, true, false, sym, ap, subst, ◌∙◌, arith, length-append}
use Rattle.std.specs.Prelude.{◌↔◌}
use Rattle.merc_tree.specs.Types.{TypeExpr}
use Rattle.merc_type_graph.specs.declared.store.Store.{Store}
use Rattle.merc_type_graph.specs.Solutions.{Solves}
use Rattle.merc_type_graph.specs.Cells.{entries_of, IsSound}
use Rattle.merc_type_graph.specs.Joining.{AllSame, AllBelow, work, MeetsOrDiffers}
use Rattle.merc_type_graph.specs.declared.cell.Cell.{Cell}
use Rattle.merc_type_graph.proofs.Meeting.{all_same-append, append-all_same, all_below-append}

-- what is equal so far: what solves the equations and makes the pairs equal is what solved them at the start and makes the two places equal
pub record IsEquating (store : Store) (start cells : List Cell) (pairs : List (ℕ × ℕ)) (one other : ℕ) : Type 0 where
  pub sound : IsSound store cells
  pub count : length cells ≡ length start
  pub below : AllBelow (length cells) pairs
  pub equal : (types : ℕ → TypeExpr) → (Solves (entries_of store cells) types × AllSame types pairs)
      ↔ (Solves (entries_of store start) types × (types one ≡ types other))

pub last_below : (bound : ℕ) (pairs rest : List (ℕ × ℕ)) (pair : ℕ × ℕ) → pairs ≡ rest ++ pair ∷ [] → AllBelow bound pairs
    → AllBelow bound rest × AllBelow bound (pair ∷ [])
last_below bound pairs rest pair popped below = all_below-append bound rest (pair ∷ []) (subst (AllBelow bound) popped below)

pub equating_differs : (store : Store) (start cells new : List Cell) (pairs rest pairs' : List (ℕ × ℕ)) (pair : ℕ × ℕ) (one other : ℕ) (met : Bool)
    → IsEquating store start cells pairs one other → pairs ≡ rest ++ pair ∷ [] → met ≡ false → MeetsOrDiffers met store cells new rest pairs' pair.0 pair.1
    → (types : ℕ → TypeExpr) → Solves (entries_of store start) types → types one ≡ types other → ⊥
equating_differs store start cells new pairs rest pairs' pair one other true equating popped e differs types solves same = absurd (cc)
equating_differs store start cells new pairs rest pairs' pair one other false equating popped e differs types solves same =
    let now = (equating.equal types).1 (solves, same) in
    let all = all_same-append types rest (pair ∷ []) (subst (AllSame types) popped now.1) in
    differs types now.0 all.1.0

pub equating_on : (store : Store) (start cells new : List Cell) (pairs rest pairs' : List (ℕ × ℕ)) (pair : ℕ × ℕ) (one other : ℕ) (met : Bool)
    → IsEquating store start cells pairs one other → pairs ≡ rest ++ pair ∷ [] → met ≡ true → MeetsOrDiffers met store cells new rest pairs' pair.0 pair.1
    → IsEquating store start new pairs' one other × (work store new pairs' < work store cells pairs)
equating_on store start cells new pairs rest pairs' pair one other false equating popped e meets = absurd (cc)
equating_on store start cells new pairs rest pairs' pair one other true equating popped e meets = (
  record {
    sound = meets.sound;
    count = meets.count ∙ equating.count;
    below = meets.below;
    equal = λ types. (
      (λ h.
          let before = (meets.equal types).0 h in
          (equating.equal types).0 (before.0, subst (AllSame types) (sym popped) (append-all_same types rest (pair ∷ []) before.1 (before.2, tt)))),
      (λ h.
          let now = (equating.equal types).1 h in
          let all = all_same-append types rest (pair ∷ []) (subst (AllSame types) popped now.1) in
          (meets.equal types).1 (now.0, all.0, all.1.0)),
    );
  },
  (let less = meets.less in let longer = ap length popped in omega (arith, length-append rest (pair ∷ []))),
)
