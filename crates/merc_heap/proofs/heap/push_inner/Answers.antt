-- The next field stands behind those so far.
use Rattle.std.proofs.Common.{◌≡◌, ◌<◌, ◌+◌, ◌++◌, ◌∷◌, ◌∙◌, [], ℕ, List, ap, append_assoc, arith, get_or, length, map, sym, take}
use Rattle.std.proofs.lemmas.List.{append-nil, map-append, take_all, take_more}
use Rattle.merc_value.specs.declared.word.Word.{Word}
use Rattle.merc_heap.specs.Fields.{Field, field_with}
use Rattle.merc_heap.specs.Functors.{inner_number}
use Rattle.merc_heap.proofs.heap.push_inner.Goals as goal

put_more : (before after longer : List Field) (fields : List Word) (index : ℕ) (field : Word) → index < length fields → field ≡ get_or fields index field
    → after ≡ before ++ map (field_with inner_number) (take index fields) → longer ≡ after ++ field_with inner_number field ∷ []
    → longer ≡ before ++ map (field_with inner_number) (take (index + 1) fields)
put_more before after longer fields index field within is so_far put =
    put ∙ ap (λ l. l ++ field_with inner_number field ∷ []) so_far
    ∙ append_assoc before (map (field_with inner_number) (take index fields)) (field_with inner_number field ∷ [])
    ∙ ap (λ l. before ++ l) (sym (map-append (field_with inner_number) (take index fields) (field ∷ [])))
    ∙ ap (λ l. before ++ map (field_with inner_number) l) (sym (take_more fields index field within ∙ ap (λ w. take index fields ++ w ∷ []) (sym is)))

pub loop-field-init : goal.loop-field-init
loop-field-init c = record { items = sym (append-nil c.args.slots.now.items); room = omega (arith, c.requires) }

pub push_reserved-requires : goal.push_reserved-requires
push_reserved-requires c = omega (arith, c.loop-field.invariant.room, c.loop-field-test.true)

pub loop-field-preserved : goal.loop-field-preserved
loop-field-preserved c = record {
  items = put_more c.args.slots.now.items c.loop-field.slots.items c.push_reserved.new.self.items c.args.fields.now c.loop-field.field-index c.field-item.result c.loop-field-test.true c.field-item.is
      c.loop-field.invariant.items (c.push_reserved.ensures.items ∙ ap (λ s. c.loop-field.slots.items ++ s ∷ []) c.ending.ensures);
  room = omega (arith, c.loop-field.invariant.room, c.push_reserved.ensures.len, c.push_reserved.ensures.capacity);
}

pub returns-clause-items : goal.returns-clause-items
returns-clause-items c =
    c.loop-field.invariant.items
    ∙ ap (λ l. c.args.slots.now.items ++ map (field_with inner_number) l) (take_all c.loop-field.field-index c.args.fields.now c.loop-field-test.false)
