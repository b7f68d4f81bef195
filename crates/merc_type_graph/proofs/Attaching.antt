-- One root attached to another.
use Rattle.std.proofs.Common.{◌≡◌, ◌≢◌, ℕ, zero, suc, ◌+◌, ◌<◌, ◌≤◌, max, ◌⊎◌, inl, inr, List, [], ◌∷◌, length, get_or, set, refl, sym, ap, subst, ◌∙◌, arith, Some, length-set, get_or-set_same, get_or-set_other}
use Rattle.std.specs.Prelude.{slice_get}
use Rattle.std.proofs.lemmas.Bool.{cases_lt}
use Rattle.merc_tree.specs.Types.{TypeExpr}
use Rattle.merc_type_graph.specs.declared.store.Store.{Store}
use Rattle.merc_type_graph.specs.Solutions.{Agrees, Solves}
use Rattle.merc_type_graph.specs.Cells.{entry_of, entries_of, needs_of, known_at, rank_at, blank, root_mark, roots, IsStored, IsForest, IsSound}
use Rattle.merc_type_graph.specs.Joining.{AllSame, attached}
use Rattle.merc_type_graph.specs.declared.cell.Known.{Known}
use Rattle.merc_type_graph.specs.declared.cell.Known.TheVariants.{SameAs}
use Rattle.merc_type_graph.specs.declared.cell.Cell.{Cell}
use Rattle.merc_type_graph.proofs.Entries.{solves_at, solves_all}
use Rattle.merc_type_graph.specs.Fixing.{Fits}
use Rattle.merc_type_graph.proofs.Joins.{fits, agrees_by, fits_at}

pub same_or_not : (i j : ℕ) → (i ≡ j) ⊎ (i ≢ j)
same_or_not i j =
    elim (cases_lt i j) [
      | inl less ↦ inr (λ e. absurd (omega arith))
      | inr more ↦ elim (cases_lt j i) [ inl less' ↦ inr (λ e. absurd (omega arith)) | inr more' ↦ inl (omega arith) ]
    ]

abbrev pub child_cell : List Cell → ℕ → ℕ → Cell
child_cell cells child parent = record { known = SameAs parent; rank = rank_at cells child }

abbrev pub parent_cell : List Cell → ℕ → ℕ → Known → Cell
parent_cell cells child parent known = record { known = known; rank = max (rank_at cells parent) (rank_at cells child + 1) }

-- what stands at a place then
pub data AttachedAt (cells : List Cell) (child parent : ℕ) (known : Known) (i : ℕ) : Type 0 where
  at_child : i ≡ child → get_or (attached cells child parent known) i blank ≡ child_cell cells child parent → AttachedAt cells child parent known i
  at_parent : i ≡ parent → get_or (attached cells child parent known) i blank ≡ parent_cell cells child parent known → AttachedAt cells child parent known i
  elsewhere : i ≢ child → i ≢ parent → get_or (attached cells child parent known) i blank ≡ get_or cells i blank → AttachedAt cells child parent known i

pub length-attached : (cells : List Cell) (child parent : ℕ) (known : Known) → length (attached cells child parent known) ≡ length cells
length-attached cells child parent known =
    length-set (set cells parent (parent_cell cells child parent known)) child (child_cell cells child parent)
    ∙ length-set cells parent (parent_cell cells child parent known)

pub attached_at : (cells : List Cell) (child parent : ℕ) (known : Known) → child < length cells → parent < length cells → child ≢ parent → (i : ℕ)
    → AttachedAt cells child parent known i
attached_at cells child parent known child_here parent_here apart i =
    let first : List Cell = set cells parent (parent_cell cells child parent known) in
    let first_length : length first ≡ length cells = length-set cells parent (parent_cell cells child parent known) in
    let child_first : child < length first = omega arith in
    elim (same_or_not i child) [
      | inl e ↦ at_child e (ap (λ (k : ℕ). get_or (attached cells child parent known) k blank) e ∙ get_or-set_same first child (child_cell cells child parent) blank child_first)
      | inr ne ↦ elim (same_or_not i parent) [
        | inl e ↦ at_parent e
            (get_or-set_other first child i (child_cell cells child parent) blank ne
            ∙ ap (λ (k : ℕ). get_or first k blank) e ∙ get_or-set_same cells parent (parent_cell cells child parent known) blank parent_here)
        | inr ne' ↦ elsewhere ne ne'
            (get_or-set_other first child i (child_cell cells child parent) blank ne ∙ get_or-set_other cells parent i (parent_cell cells child parent known) blank ne')
      ]
    ]

known_by : (cells : List Cell) (i : ℕ) (cell : Cell) → get_or cells i blank ≡ cell → known_at cells i ≡ cell.known
known_by cells i cell e = ap (λ (c : Cell). c.known) e

rank_by : (cells : List Cell) (i : ℕ) (cell : Cell) → get_or cells i blank ≡ cell → rank_at cells i ≡ cell.rank
rank_by cells i cell e = ap (λ (c : Cell). c.rank) e

-- the number of roots
pub roots-set : (cells : List Cell) (i : ℕ) (cell : Cell) → i < length cells → roots (set cells i cell) + root_mark (known_at cells i) ≡ roots cells + root_mark cell.known
roots-set [] i cell here = absurd (omega arith)
roots-set (first ∷ rest) zero cell here = omega arith
roots-set (first ∷ rest) (suc i) cell here = let e = roots-set rest i cell (omega arith) in omega arith

pub roots-attached : (cells : List Cell) (child parent : ℕ) (known : Known) → child < length cells → parent < length cells → child ≢ parent
    → root_mark (known_at cells child) ≡ 1 → root_mark (known_at cells parent) ≡ 1 → root_mark known ≡ 1
    → roots (attached cells child parent known) + 1 ≡ roots cells
roots-attached cells child parent known child_here parent_here apart child_root parent_root known_root =
    let first : List Cell = set cells parent (parent_cell cells child parent known) in
    let first_length : length first ≡ length cells = length-set cells parent (parent_cell cells child parent known) in
    let child_first : child < length first = omega arith in
    let one : roots first + root_mark (known_at cells parent) ≡ roots cells + root_mark known = roots-set cells parent (parent_cell cells child parent known) parent_here in
    let two : roots (attached cells child parent known) + root_mark (known_at first child) ≡ roots first + 0 = roots-set first child (child_cell cells child parent) child_first in
    let same : known_at first child ≡ known_at cells child = ap (λ (c : Cell). c.known) (get_or-set_other cells parent child (parent_cell cells child parent known) blank apart) in
    let mark : root_mark (known_at first child) ≡ 1 = ap root_mark same ∙ child_root in
    omega arith

-- what is asked of the places and of what is known then
pub record MayAttach (store : Store) (cells : List Cell) (child parent : ℕ) (known : Known) : Type 0 where
  pub sound : IsSound store cells
  pub child_here : child < length cells
  pub parent_here : parent < length cells
  pub apart : child ≢ parent
  pub child_root : root_mark (known_at cells child) ≡ 1
  pub parent_root : root_mark (known_at cells parent) ≡ 1
  pub known_root : root_mark known ≡ 1
  pub known_stored : IsStored store known
  pub known_within : (number place : ℕ) → slice_get (needs_of (entry_of store known)) number ≡ Some place → place < length cells

ranks_rise : (store : Store) (cells : List Cell) (child parent : ℕ) (known : Known) → MayAttach store cells child parent known → (i : ℕ)
    → rank_at cells i ≤ rank_at (attached cells child parent known) i
ranks_rise store cells child parent known may i =
    elim (attached_at cells child parent known may.child_here may.parent_here may.apart i) [
      | at_child e is ↦
          let r : rank_at (attached cells child parent known) i ≡ rank_at cells child = rank_by (attached cells child parent known) i (child_cell cells child parent) is in
          let s : rank_at cells i ≡ rank_at cells child = ap (rank_at cells) e in
          omega arith
      | at_parent e is ↦
          let r : rank_at (attached cells child parent known) i ≡ max (rank_at cells parent) (rank_at cells child + 1) = rank_by (attached cells child parent known) i (parent_cell cells child parent known) is in
          let s : rank_at cells i ≡ rank_at cells parent = ap (rank_at cells) e in
          omega arith
      | elsewhere ne ne' is ↦
          let r : rank_at (attached cells child parent known) i ≡ rank_at cells i = ap (λ (c : Cell). c.rank) is in
          omega arith
    ]

no_link : (known : Known) (j : ℕ) → root_mark known ≡ 1 → known ≡ SameAs j → ⊥
no_link known j root e = let z : root_mark known ≡ 0 = ap root_mark e in absurd (omega arith)

link_place : (i j : ℕ) → SameAs i ≡ SameAs j → i ≡ j
link_place i j e = cc

forest-attached : (store : Store) (cells : List Cell) (child parent : ℕ) (known : Known) → MayAttach store cells child parent known
    → IsForest (attached cells child parent known)
forest-attached store cells child parent known may =
    let after : List Cell = attached cells child parent known in
    let count : length after ≡ length cells = length-attached cells child parent known in
    let fewer : roots after + 1 ≡ roots cells = roots-attached cells child parent known may.child_here may.parent_here may.apart may.child_root may.parent_root may.known_root in
    let child_room = may.sound.forest.room child may.child_here in
    let parent_room = may.sound.forest.room parent may.parent_here in
    record {
      rising = λ i j link.
          elim (attached_at cells child parent known may.child_here may.parent_here may.apart i) [
            | at_child e is ↦
                let to : parent ≡ j = link_place parent j (sym (known_by after i (child_cell cells child parent) is) ∙ link) in
                let r : rank_at after i ≡ rank_at cells child = rank_by after i (child_cell cells child parent) is in
                elim (attached_at cells child parent known may.child_here may.parent_here may.apart parent) [
                  | at_child e' is' ↦ absurd (may.apart (sym e'))
                  | at_parent e' is' ↦
                      let s : rank_at after parent ≡ max (rank_at cells parent) (rank_at cells child + 1) = rank_by after parent (parent_cell cells child parent known) is' in
                      let t : rank_at after j ≡ rank_at after parent = ap (rank_at after) (sym to) in
                      omega arith
                  | elsewhere ne ne' is' ↦ absurd (ne' refl)
                ]
            | at_parent e is ↦ absurd (no_link known j may.known_root (sym (known_by after i (parent_cell cells child parent known) is) ∙ link))
            | elsewhere ne ne' is ↦
                let old : known_at cells i ≡ SameAs j = sym (ap (λ (c : Cell). c.known) is) ∙ link in
                let less = may.sound.forest.rising i j old in
                let r : rank_at after i ≡ rank_at cells i = ap (λ (c : Cell). c.rank) is in
                let s = ranks_rise store cells child parent known may j in
                omega arith
          ];
      near = λ i j link.
          elim (attached_at cells child parent known may.child_here may.parent_here may.apart i) [
            | at_child e is ↦
                let to : parent ≡ j = link_place parent j (sym (known_by after i (child_cell cells child parent) is) ∙ link) in
                let here = may.parent_here in omega arith
            | at_parent e is ↦ absurd (no_link known j may.known_root (sym (known_by after i (parent_cell cells child parent known) is) ∙ link))
            | elsewhere ne ne' is ↦
                let old : known_at cells i ≡ SameAs j = sym (ap (λ (c : Cell). c.known) is) ∙ link in
                let less = may.sound.forest.near i j old in omega arith
          ];
      room = λ i here.
          elim (attached_at cells child parent known may.child_here may.parent_here may.apart i) [
            | at_child e is ↦ let r : rank_at after i ≡ rank_at cells child = rank_by after i (child_cell cells child parent) is in omega arith
            | at_parent e is ↦
                let r : rank_at after i ≡ max (rank_at cells parent) (rank_at cells child + 1) = rank_by after i (parent_cell cells child parent known) is in omega arith
            | elsewhere ne ne' is ↦
                let r : rank_at after i ≡ rank_at cells i = ap (λ (c : Cell). c.rank) is in
                let old_here : i < length cells = omega arith in
                let old = may.sound.forest.room i old_here in omega arith
          ];
    }

one_need : (place number found : ℕ) → slice_get (place ∷ []) number ≡ Some found → place ≡ found
one_need place zero found e = cc
one_need place (suc number) found e = absurd (cc)

pub sound-attached : (store : Store) (cells : List Cell) (child parent : ℕ) (known : Known) → MayAttach store cells child parent known
    → IsSound store (attached cells child parent known)
sound-attached store cells child parent known may =
    let after : List Cell = attached cells child parent known in
    let count : length after ≡ length cells = length-attached cells child parent known in
    record {
      forest = forest-attached store cells child parent known may;
      stored = λ i.
          elim (attached_at cells child parent known may.child_here may.parent_here may.apart i) [
            | at_child e is ↦ subst (IsStored store) (sym (known_by after i (child_cell cells child parent) is)) tt
            | at_parent e is ↦ subst (IsStored store) (sym (known_by after i (parent_cell cells child parent known) is)) may.known_stored
            | elsewhere ne ne' is ↦ subst (IsStored store) (sym (ap (λ (c : Cell). c.known) is)) (may.sound.stored i)
          ];
      within = λ i number place need.
          elim (attached_at cells child parent known may.child_here may.parent_here may.apart i) [
            | at_child e is ↦
                let to : parent ≡ place = one_need parent number place
                (sym (ap (λ (k : Known). slice_get (needs_of (entry_of store k)) number) (known_by after i (child_cell cells child parent) is)) ∙ need) in
                let here = may.parent_here in omega arith
            | at_parent e is ↦
                let less = may.known_within number place
                (sym (ap (λ (k : Known). slice_get (needs_of (entry_of store k)) number) (known_by after i (parent_cell cells child parent known) is)) ∙ need) in omega arith
            | elsewhere ne ne' is ↦
                let less = may.sound.within i number place
                (sym (ap (λ (c : Cell). slice_get (needs_of (entry_of store c.known)) number) is) ∙ need) in omega arith
          ];
    }

-- A type fits what is known now where it fits what was known of both, and the added pairs are equal.
pub record Splits (types : ℕ → TypeExpr) (store : Store) (child parent both : Known) (added : List (ℕ × ℕ)) : Type 0 where
  pub apart : (type : TypeExpr) → Fits types type (entry_of store both) → AllSame types added
      → Fits types type (entry_of store child) × Fits types type (entry_of store parent)
  pub together : (type : TypeExpr) → Fits types type (entry_of store child) → Fits types type (entry_of store parent)
      → Fits types type (entry_of store both) × AllSame types added

pub attached_before : (store : Store) (cells : List Cell) (child parent : ℕ) (known : Known) (added : List (ℕ × ℕ)) → MayAttach store cells child parent known
    → (types : ℕ → TypeExpr) → Splits types store (known_at cells child) (known_at cells parent) known added
    → Solves (entries_of store (attached cells child parent known)) types → AllSame types added
    → Solves (entries_of store cells) types × (types child ≡ types parent)
attached_before store cells child parent known added may types splits solves same =
    let after : List Cell = attached cells child parent known in
    let link : types child ≡ types parent = elim (attached_at cells child parent known may.child_here may.parent_here may.apart child) [
      | at_child e is ↦ subst (λ (k : Known). Agrees types child (entry_of store k)) (known_by after child (child_cell cells child parent) is) (solves_at store after types solves child)
      | at_parent e is ↦ absurd (may.apart e)
      | elsewhere ne ne' is ↦ absurd (ne refl)
    ] in
    let both : Fits types (types parent) (entry_of store known) = elim (attached_at cells child parent known may.child_here may.parent_here may.apart parent) [
      | at_child e is ↦ absurd (may.apart (sym e))
      | at_parent e is ↦ fits types parent (entry_of store known)
          (subst (λ (k : Known). Agrees types parent (entry_of store k)) (known_by after parent (parent_cell cells child parent known) is) (solves_at store after types solves parent))
      | elsewhere ne ne' is ↦ absurd (ne' refl)
    ] in
    let parts = splits.apart (types parent) both same in (
      solves_all store cells types (λ i.
          elim (attached_at cells child parent known may.child_here may.parent_here may.apart i) [
            | at_child e is ↦ subst (λ (k : ℕ). Agrees types k (entry_of store (known_at cells k))) (sym e)
                (agrees_by types child (entry_of store (known_at cells child)) (fits_at types (entry_of store (known_at cells child)) (types parent) (types child) (sym link) parts.0))
            | at_parent e is ↦ subst (λ (k : ℕ). Agrees types k (entry_of store (known_at cells k))) (sym e)
                (agrees_by types parent (entry_of store (known_at cells parent)) parts.1)
            | elsewhere ne ne' is ↦ subst (λ (c : Cell). Agrees types i (entry_of store c.known)) is (solves_at store after types solves i)
          ]),
      link,
    )

pub attached_after : (store : Store) (cells : List Cell) (child parent : ℕ) (known : Known) (added : List (ℕ × ℕ)) → MayAttach store cells child parent known
    → (types : ℕ → TypeExpr) → Splits types store (known_at cells child) (known_at cells parent) known added
    → Solves (entries_of store cells) types → types child ≡ types parent
    → Solves (entries_of store (attached cells child parent known)) types × AllSame types added
attached_after store cells child parent known added may types splits solves link =
    let after : List Cell = attached cells child parent known in
    let child_fit : Fits types (types parent) (entry_of store (known_at cells child)) =
    fits_at types (entry_of store (known_at cells child)) (types child) (types parent) link (fits types child (entry_of store (known_at cells child)) (solves_at store cells types solves child)) in
    let parent_fit : Fits types (types parent) (entry_of store (known_at cells parent)) =
    fits types parent (entry_of store (known_at cells parent)) (solves_at store cells types solves parent) in
    let both = splits.together (types parent) child_fit parent_fit in (
      solves_all store after types (λ i.
          elim (attached_at cells child parent known may.child_here may.parent_here may.apart i) [
            | at_child e is ↦ subst (λ (k : Known). Agrees types i (entry_of store k)) (sym (known_by after i (child_cell cells child parent) is))
                (ap types e ∙ link)
            | at_parent e is ↦ subst (λ (k : Known). Agrees types i (entry_of store k)) (sym (known_by after i (parent_cell cells child parent known) is))
                (subst (λ (k : ℕ). Agrees types k (entry_of store known)) (sym e) (agrees_by types parent (entry_of store known) both.0))
            | elsewhere ne ne' is ↦ subst (λ (c : Cell). Agrees types i (entry_of store c.known)) (sym is) (solves_at store cells types solves i)
          ]),
      both.1,
    )
