-- A new text stands behind the others, and its number with it.
use Rattle.std.proofs.Common.{◌≡◌, ap, ◌∙◌, ◌++◌, ◌∷◌, [], subst, sym, map, length, arith, cond, ℕ, List, Some, None, false}
use Rattle.std.proofs.lemmas.List.{length-map, map-append}
use Rattle.std.specs.List.{IsDistinct}
use Rattle.std.specs.Map.{lookup}
use Rattle.std.specs.Str.{bytes_eq}
use Rattle.merc_base.specs.Texts.{is_among, number_among, place_among}
use Rattle.merc_base.proofs.TextTables.{lookup_after, number_known, number_within, number-pushed, new_place, pushed-distinct}
use Rattle.merc_base.proofs.text_table.TextTable.add.Goals as goal

pub returns-in-Some-clause-small : goal.returns-in-Some-clause-small
returns-in-Some-clause-small c =
    let within = number_within (map (λ text. text.items) c.self.inside.texts.items) c.args.text.now c.in-Some.place.now (c.in-Some.ensures.value ∙ c.self.invariant.0 c.args.text.now) in
    omega (arith, within, length-map c.self.inside.texts.items (λ text. text.items), c.self.inside.texts.small, c.self.inside.texts.ok, c.len-count.ensures)

module _ (c : goal.After-push_reserved) where
  abbrev texts : List (List ℕ)
  texts = map (λ text. text.items) c.self.inside.texts.items

  fresh : is_among c.args.text.now texts ≡ false
  fresh = sym (number_known texts c.args.text.now None (c.in_default.ensures.value ∙ c.self.invariant.0 c.args.text.now))

  stored : map (λ text. text.items) c.push_reserved.new.self.items ≡ texts ++ c.args.text.now ∷ []
  stored = ap (map (λ text. text.items)) (c.push_reserved.ensures.items ∙ ap (λ l. l ++ c.in_ok-text.text ∷ []) c.in_ok-reserve.ensures.items)
      ∙ map-append (λ text. text.items) c.self.inside.texts.items (c.in_ok-text.text ∷ [])
      ∙ ap (λ t. texts ++ t ∷ []) c.in_ok-text.ensures.items

  counted : c.len-count.result ≡ length texts
  counted = omega (arith, c.len-count.ensures, c.self.inside.texts.ok, length-map c.self.inside.texts.items (λ text. text.items))

pub invariant_of-self-2 : goal.invariant_of-self-2
invariant_of-self-2 c =
    let new = c.args.text.now in
    let updates = c.in_ok-insert.ensures.updates in (
      λ text.
          let before = lookup (λ key. bytes_eq text key.items) c.self.inside.numbers.entries in
          lookup_after (λ key. key.items) c.in_ok-key.key.items text c.self.inside.numbers.entries c.insert.new.self.entries (Some c.len-count.result) updates.3 updates.1
          ∙ ap (λ t. cond (bytes_eq t text) (Some c.len-count.result) before) c.in_ok-key.ensures.items
          ∙ ap (λ n. cond (bytes_eq new text) (Some n) before) (counted c)
          ∙ number-pushed (texts c) new (fresh c) text before (c.self.invariant.0 text)
          ∙ ap (λ l. number_among l text) (sym (stored c)),
      subst (λ l. IsDistinct bytes_eq l) (sym (stored c)) (pushed-distinct (texts c) new (fresh c) c.self.invariant.1),
    )

pub returns-clause-place : goal.returns-clause-place
returns-clause-place c = counted c ∙ new_place (texts c) c.args.text.now (fresh c) ∙ ap (λ now. place_among now c.args.text.now) (ap (λ b. cond b (texts c) (texts c ++ c.args.text.now ∷ [])) (fresh c) ∙ sym (stored c))
