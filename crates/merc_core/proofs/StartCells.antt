-- Cells for the Waits among items.
use Rattle.std.proofs.Common.{◌≡◌, ℕ, suc, ◌≤◌, ◌<◌, inl, inr, cond, true, false, Bool, List, Some, None, refl, ap, sym, ◌∙◌, subst, arith, length}
use Rattle.std.specs.Prelude.{Option, slice_get, IsSome}
use Rattle.std.proofs.lemmas.Option.{slice_get_within}
use Rattle.merc_script.specs.declared.items.Item.{Item}
use Rattle.merc_script.specs.declared.items.Item.TheVariants.{Wait}
use Rattle.merc_core.specs.declared.cell.Cell.{Cell}
use Rattle.merc_core.specs.Starting.{open_cell, IsOpen, AreOpen}
use Rattle.merc_core.proofs.StartPlaces.{here-or-behind}

-- cells for the Waits before a place
pub record AreOpenTo (to : ℕ) (items : List Item) (cells : ℕ → Option Cell) : Type 0 where
  pub each : (cell : ℕ) → IsOpen (cells cell)
  pub waits : (place cell : ℕ) → place < to → slice_get items place ≡ Some (Wait cell) → IsSome (cells cell)

pub all-open : (to : ℕ) (items : List Item) (cells : ℕ → Option Cell) → length items ≤ to → AreOpenTo to items cells → AreOpen items cells
all-open to items cells all opened = record {
  each = opened.each;
  waits = λ place cell at. let e = slice_get_within items place (Wait cell) at in opened.waits place cell (omega (arith, all, e)) at;
}

pub none-opened : (items : List Item) (cells : ℕ → Option Cell) → ((cell : ℕ) → cells cell ≡ None) → AreOpenTo 0 items cells
none-opened items cells none = record {
  each = λ cell. subst IsOpen (sym (none cell)) tt;
  waits = λ place cell near at. absurd (omega (arith, near));
}

still-opened : (b : Bool) (new : Cell) (old : Option Cell) → new ≡ open_cell → IsOpen old → IsOpen (cond b (Some new) old)
still-opened true new old is opened = is
still-opened false new old is opened = opened

still-some : (b : Bool) (new : Cell) (old : Option Cell) → IsSome old → IsSome (cond b (Some new) old)
still-some true new old some = refl
still-some false new old some = some

module _ (to next : ℕ) (is_next : next ≡ suc to) (items : List Item) (cells cells' : ℕ → Option Cell) (opened : AreOpenTo to items cells) where
  -- a cell is put in for a Wait
  pub open-more : (test : ℕ → Bool) (cell : ℕ) (new : Cell) → slice_get items to ≡ Some (Wait cell) → new ≡ open_cell → ((other : ℕ) → cells' other ≡ cond (test other) (Some new) (cells other))
      → cells' cell ≡ Some new → AreOpenTo next items cells'
  open-more test cell new waits is put there = record {
    each = λ other. subst IsOpen (sym (put other)) (still-opened (test other) new (cells other) is (opened.each other));
    waits = λ place other near at. elim (here-or-behind place to (omega (arith, near, is_next))) [
      | inl same ↦
          (let e : Some (Wait cell) ≡ Some (Wait other) = sym waits ∙ ap (slice_get items) (sym same) ∙ at in
          let f : cell ≡ other = cc (e) in
          subst (λ c. IsSome (cells' c)) f (subst IsSome (sym there) refl))
      | inr less ↦ subst IsSome (sym (put other)) (still-some (test other) new (cells other) (opened.waits place other less at))
    ];
  }

  -- no cell is wanted for an item that is no Wait
  pub open-still : (item : Item) → slice_get items to ≡ Some item → ((cell : ℕ) → item ≡ Wait cell → ⊥) → cells' ≡ cells → AreOpenTo next items cells'
  open-still item at apart same = record {
    each = λ other. subst (λ (cs : ℕ → Option Cell). IsOpen (cs other)) (sym same) (opened.each other);
    waits = λ place other near waits. elim (here-or-behind place to (omega (arith, near, is_next))) [
      | inl here ↦
          (let e : Some item ≡ Some (Wait other) = sym at ∙ ap (slice_get items) (sym here) ∙ waits in
          absurd (apart other (cc (e))))
      | inr less ↦ subst (λ (cs : ℕ → Option Cell). IsSome (cs other)) (sym same) (opened.waits place other less waits)
    ];
  }
