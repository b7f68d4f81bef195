use Rattle.std.proofs.Common.{◌≡◌, ◌<◌, sym, refl, ap, subst, ◌∙◌, length, map}
use Rattle.std.specs.Option.{is_some}
use Rattle.merc_value.specs.Block.{value_of}
use Rattle.merc_value.specs.declared.word.Word.TheVariants.{Cell}
use Rattle.merc_heap.specs.Heap.{word_of}
use Rattle.merc_meaning.specs.Values.{fields}
use Rattle.merc_code.specs.declared.instruction.Instruction.TheVariants.{Split}
use Rattle.merc_store.specs.Data.{StoreData, with_current}
use Rattle.merc_store.specs.Performing.{Does, stored, word_at}
use Rattle.merc_store.specs.declared.store.Done.TheVariants.{Bound}
use Rattle.merc_store.proofs.SoundLemmas.{fields_below}
use Rattle.merc_store.proofs.Stores.{store_of}
use Rattle.merc_store.proofs.KindLemmas.{does_same, split_plain, split_fails, split_does}
use Rattle.merc_store.proofs.store.Store.split.Goals as goal

pub returns-in_default : goal.returns-in_default
returns-in_default c = split_plain c.args.self.now c.args.whole c.args.symbol.now c.args.variables.now c.in_default.ensures.none c.args.self.now c.literal_apart.result c.literal_apart.ensures

pub invariant_of-self : goal.invariant_of-self
invariant_of-self c =
    let seen : c.self.inside.heap ≡ c.args.self.now.cells = ap (λ s. s.cells) c.self.view_is in
    c.fill.ensures.held (length c.self.inside.heap)
    (fields_below c.self.inside.heap (map word_of c.cell_in-head.result.1.now) c.cell_in-head.ensures.lower c.in-Some.place
    (subst (λ cells. c.in-Some.place < length cells) (sym seen) c.in-Some.ensures.below) c.cell_in-head.ensures.fields) c.self.invariant

pub returns-then-is_head : goal.returns-then-is_head
returns-then-is_head c =
    let seen : c.self.inside.heap ≡ c.args.self.now.cells = ap (λ s. s.cells) c.self.view_is in
    let found = ap (λ (s : StoreData). s.stacks.current) c.self.view_is in
    subst (λ s. Does s (store_of c.self.inside.heap c.fill.new.frames.stacks) (Split c.args.whole c.args.symbol.now c.args.variables.now) Bound) c.self.view_is
    (does_same _ _ _ _ _ _
    (ap (store_of c.self.inside.heap) c.fill.ensures.stacks
    ∙ ap (λ words. with_current (store_of c.self.inside.heap c.self.inside.frames.stacks) (stored c.args.variables.now words c.self.inside.frames.stacks.current)) c.cell_in-head.ensures.fields) refl
    (split_does (store_of c.self.inside.heap c.self.inside.frames.stacks) c.args.whole c.args.symbol.now c.args.variables.now (Cell c.in-Some.place) c.cell_in-head.ensures.lower
    (subst (λ cells. c.in-Some.place < length cells) (sym seen) c.in-Some.ensures.below)
    (ap (λ slots. word_at slots c.args.whole) found ∙ c.in-Some.ensures.found)
    (sym (c.is_head.ensures (value_of c.self.inside.heap (Cell c.in-Some.place)) c.cell_in-head.ensures.symbol) ∙ c.if-is_head.true)))

pub returns-else-is_head : goal.returns-else-is_head
returns-else-is_head c =
    let seen : c.self.inside.heap ≡ c.args.self.now.cells = ap (λ s. s.cells) c.self.view_is in
    split_fails c.args.self.now c.args.whole c.args.symbol.now c.args.variables.now (Cell c.in-Some.place)
    (c.in-Some.ensures.found)
    (ap (λ cells. is_some (fields c.args.symbol.now (value_of cells (Cell c.in-Some.place)))) (sym seen)
    ∙ sym (c.is_head.ensures (value_of c.self.inside.heap (Cell c.in-Some.place)) c.cell_in-head.ensures.symbol) ∙ c.if-is_head.false)
