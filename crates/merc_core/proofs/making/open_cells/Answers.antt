use Rattle.std.proofs.Common.{◌≡◌, ℕ, suc, ◌+◌, length, Some, refl, ap, ◌∙◌, sym, subst, arith}
use Rattle.std.specs.Prelude.{slice_get}
use Rattle.std.specs.Ordering.{nat_cmp, is_eq}
use Rattle.std.specs.BTreeMap.{BTreeMap, get}
use Rattle.std.proofs.lemmas.Option.{slice_get_read}
use Rattle.merc_script.specs.declared.items.Item.{Item}
use Rattle.merc_core.specs.declared.cell.Cell.{Cell}
use Rattle.merc_core.proofs.StartCells.{AreOpenTo, open-more, open-still, all-open}
use Rattle.merc_core.proofs.making.open_cells.Goals as goal
use Rattle.merc_core.proofs.making.open_cells.Goals.{in-Wait+in_ok-insert+in-Some-1, in-Wait+in_ok-insert+in-None-1, in_default}

pub loop-item-preserved : goal.loop-item-preserved
loop-item-preserved c =
    let i = c.loop-item.item-index in
    let items = c.args.items.now in
    let is_next : i + 1 ≡ suc i = omega arith in
    let at : slice_get items i ≡ Some c.item-item.result = slice_get_read items (length items) i c.item-item.result refl c.loop-item-test.true c.item-item.is in
    elim c.match-item.branch [
      | in-Wait+in_ok-insert+in-Some-1 w ↦
          subst (λ (cells : BTreeMap ℕ Cell). AreOpenTo (i + 1) items (λ cell. get nat_cmp cells cell)) (sym w.cells-is)
          (open-more i (i + 1) is_next items (λ cell. get nat_cmp c.loop-item.cells cell) (λ cell. get nat_cmp w.insert.new.self cell) c.loop-item.invariant
          (λ other. is_eq (nat_cmp w.in-Wait.cell other)) w.in-Wait.cell w.open_cell.result (at ∙ ap (λ (x : Item). Some x) w.in-Wait.is) w.open_cell.ensures
          w.in_ok-insert.ensures.updates.0 w.in_ok-insert.ensures.updates.1)
      | in-Wait+in_ok-insert+in-None-1 w ↦
          subst (λ (cells : BTreeMap ℕ Cell). AreOpenTo (i + 1) items (λ cell. get nat_cmp cells cell)) (sym w.cells-is)
          (open-more i (i + 1) is_next items (λ cell. get nat_cmp c.loop-item.cells cell) (λ cell. get nat_cmp w.insert.new.self cell) c.loop-item.invariant
          (λ other. is_eq (nat_cmp w.in-Wait.cell other)) w.in-Wait.cell w.open_cell.result (at ∙ ap (λ (x : Item). Some x) w.in-Wait.is) w.open_cell.ensures
          w.in_ok-insert.ensures.updates.0 w.in_ok-insert.ensures.updates.1)
      | in_default w ↦
          subst (λ (cells : BTreeMap ℕ Cell). AreOpenTo (i + 1) items (λ cell. get nat_cmp cells cell)) (sym w.cells-is)
          (open-still i (i + 1) is_next items (λ cell. get nat_cmp c.loop-item.cells cell) (λ cell. get nat_cmp c.loop-item.cells cell) c.loop-item.invariant
          c.item-item.result at w.in_default.not-Wait refl)
    ]

pub returns : goal.returns
returns c = all-open c.loop-item.item-index c.args.items.now (λ cell. get nat_cmp c.loop-item.cells cell) (omega (arith, c.loop-item-test.false)) c.loop-item.invariant
