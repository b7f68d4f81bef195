-- Type variables of declarations: named ones are apart where their names are, and each `_` is apart from all others.
use Rattle.std.proofs.Common.{◌≡◌, ℕ, ◌+◌, ◌<◌, Bool, true, false, List, length, if◌then◌else◌, ap, sym, ◌∙◌, arith}
use Rattle.merc_base.specs.declared.place.Span.{Span}
use Rattle.merc_value.specs.Text.{is_blank}
use Rattle.merc_items.specs.ModuleOf.{type_variable}

module _ (names : List (List ℕ)) (name other : ℕ) (span place : Span) where
  blank_is : (name : ℕ) (span : Span) → is_blank names name ≡ true → type_variable names name span ≡ length names + span.first
  blank_is name span is = ap (λ (b : Bool). if b then length names + span.first else name) is

  named_is : (name : ℕ) (span : Span) → is_blank names name ≡ false → type_variable names name span ≡ name
  named_is name span is = ap (λ (b : Bool). if b then length names + span.first else name) is

  -- two named variables are one where their names are
  pub named_apart : is_blank names name ≡ false → is_blank names other ≡ false → type_variable names name span ≡ type_variable names other place → name ≡ other
  named_apart named named' same = sym (named_is name span named) ∙ same ∙ named_is other place named'

  -- two `_` are one where they stand at one byte
  pub blank_apart : is_blank names name ≡ true → is_blank names other ≡ true → type_variable names name span ≡ type_variable names other place → span.first ≡ place.first
  blank_apart blank blank' same =
      let sums : length names + span.first ≡ length names + place.first = sym (blank_is name span blank) ∙ same ∙ blank_is other place blank' in
      omega (arith, sums)

  -- and no `_` is a variable with a name of the table
  pub blank_not_named : is_blank names name ≡ true → is_blank names other ≡ false → other < length names → type_variable names name span ≡ type_variable names other place → ⊥
  blank_not_named blank named within same =
      let sums : length names + span.first ≡ other = sym (blank_is name span blank) ∙ same ∙ named_is other place named in
      omega (arith, sums, within)
