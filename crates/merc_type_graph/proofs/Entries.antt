-- Entries by place.
use Rattle.std.proofs.Common.{◌≡◌, ℕ, zero, suc, ◌+◌, ◌<◌, List, [], ◌∷◌, ◌++◌, length, get_or, refl, sym, ap, subst, ◌∙◌, arith, add-zero}
use Rattle.std.proofs.Math.ListN.{get_or-map}
use Rattle.merc_tree.specs.Types.{TypeExpr}
use Rattle.merc_type_graph.specs.declared.store.Store.{Store}
use Rattle.merc_type_graph.specs.Solutions.{Entry, Unknown, Agrees, Solves, SolvesFrom}
use Rattle.merc_type_graph.specs.Cells.{entry_of, entries_of, known_at, blank}
use Rattle.merc_type_graph.specs.declared.cell.Cell.{Cell}
use Rattle.merc_type_graph.specs.declared.cell.Known.{Known}

solves_from_at : (place : ℕ) (entries : List Entry) (types : ℕ → TypeExpr) → SolvesFrom place types entries → (i : ℕ)
    → Agrees types (place + i) (get_or entries i Unknown)
solves_from_at place [] types solves i = tt
solves_from_at place (first ∷ rest) types solves zero = subst (λ (p : ℕ). Agrees types p first) (sym (add-zero place)) solves.0
solves_from_at place (first ∷ rest) types solves (suc i) =
    let e : place + 1 + i ≡ place + suc i = omega arith in
    subst (λ (p : ℕ). Agrees types p (get_or rest i Unknown)) e (solves_from_at (place + 1) rest types solves.1 i)

solves_from_all : (place : ℕ) (entries : List Entry) (types : ℕ → TypeExpr)
    → ((i : ℕ) → Agrees types (place + i) (get_or entries i Unknown)) → SolvesFrom place types entries
solves_from_all place [] types agree = tt
solves_from_all place (first ∷ rest) types agree = (
  subst (λ (p : ℕ). Agrees types p first) (add-zero place) (agree zero),
  solves_from_all (place + 1) rest types (λ i.
      let e : place + suc i ≡ place + 1 + i = omega arith in
      subst (λ (p : ℕ). Agrees types p (get_or rest i Unknown)) e (agree (suc i))),
)

entry_at : (store : Store) (cells : List Cell) (i : ℕ) → get_or (entries_of store cells) i Unknown ≡ entry_of store (known_at cells i)
entry_at store cells i = get_or-map (λ (c : Cell). entry_of store c.known) cells i blank

-- a solution agrees with what is known at each place
pub solves_at : (store : Store) (cells : List Cell) (types : ℕ → TypeExpr) → Solves (entries_of store cells) types → (i : ℕ)
    → Agrees types i (entry_of store (known_at cells i))
solves_at store cells types solves i =
    let zero_i : 0 + i ≡ i = omega arith in
    subst (Agrees types i) (entry_at store cells i)
    (subst (λ (p : ℕ). Agrees types p (get_or (entries_of store cells) i Unknown)) zero_i (solves_from_at 0 (entries_of store cells) types solves i))

-- and types that agree with all of them are a solution
pub solves_all : (store : Store) (cells : List Cell) (types : ℕ → TypeExpr)
    → ((i : ℕ) → Agrees types i (entry_of store (known_at cells i))) → Solves (entries_of store cells) types
solves_all store cells types agree =
    solves_from_all 0 (entries_of store cells) types (λ i.
    let zero_i : i ≡ 0 + i = omega arith in
    subst (λ (p : ℕ). Agrees types p (get_or (entries_of store cells) i Unknown)) zero_i
    (subst (Agrees types i) (sym (entry_at store cells i)) (agree i)))

-- one more entry at the end
pub solves_from-append : (place : ℕ) (entries : List Entry) (entry : Entry) (types : ℕ → TypeExpr)
    → SolvesFrom place types (entries ++ entry ∷ []) → SolvesFrom place types entries × Agrees types (place + length entries) entry
solves_from-append place [] entry types solves = (tt, subst (λ (p : ℕ). Agrees types p entry) (sym (add-zero place)) solves.0)
solves_from-append place (first ∷ rest) entry types solves =
    let both = solves_from-append (place + 1) rest entry types solves.1 in
    let e : place + 1 + length rest ≡ place + suc (length rest) = omega arith in
    ((solves.0, both.0), subst (λ (p : ℕ). Agrees types p entry) e both.1)

pub append-solves_from : (place : ℕ) (entries : List Entry) (entry : Entry) (types : ℕ → TypeExpr)
    → SolvesFrom place types entries → Agrees types (place + length entries) entry → SolvesFrom place types (entries ++ entry ∷ [])
append-solves_from place [] entry types solves agrees = (subst (λ (p : ℕ). Agrees types p entry) (add-zero place) agrees, tt)
append-solves_from place (first ∷ rest) entry types solves agrees =
    let e : place + suc (length rest) ≡ place + 1 + length rest = omega arith in
    (solves.0, append-solves_from (place + 1) rest entry types solves.1 (subst (λ (p : ℕ). Agrees types p entry) e agrees))

-- what stands at a place, whatever stands for the places that are not there
pub any_default : (cells : List Cell) (i : ℕ) (d e : Cell) → i < length cells → get_or cells i d ≡ get_or cells i e
any_default [] i d e here = absurd (omega arith)
any_default (first ∷ rest) zero d e here = refl
any_default (first ∷ rest) (suc i) d e here = any_default rest i d e (omega arith)

pub known_any : (cells : List Cell) (i : ℕ) (d : Cell) (known : Known) → i < length cells → (get_or cells i d).known ≡ known → known_at cells i ≡ known
known_any cells i d known here e = ap (λ (c : Cell). c.known) (any_default cells i blank d here) ∙ e

pub known_is : (cells : List Cell) (i : ℕ) (cell : Cell) → i < length cells → cell ≡ get_or cells i cell → cell.known ≡ known_at cells i
known_is cells i cell here e = ap (λ (c : Cell). c.known) (e ∙ any_default cells i cell blank here)

pub known_read : (cells : List Cell) (i : ℕ) (d : Cell) → i < length cells → (get_or cells i d).known ≡ known_at cells i
known_read cells i d here = ap (λ (c : Cell). c.known) (any_default cells i d blank here)
