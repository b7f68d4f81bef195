-- The terms of the items of a text begin one behind the other.
use Rattle.std.proofs.Common.{◌≡◌, ℕ, suc, ◌+◌, ◌≤◌, Bool, true, false, List, [], ◌∷◌, map, drop, Option, Some, None, refl, sym, ap, subst, arith}
use Rattle.std.specs.Option.{option_map}
use Rattle.merc_base.specs.declared.place.Span.{Span}
use Rattle.merc_tokens.specs.declared.token.Token.{Token}
use Rattle.merc_tokens.specs.declared.pieces.Spelling.{Spelling}
use Rattle.merc_tokens.specs.Tokens.{SpelledToken, HasTokensFrom, spelling_in, with_texts, is_name, token_at}
use Rattle.merc_tokens.specs.Tokens.HasTokensFrom.{ends, gap, token as next_token}
use Rattle.merc_tree.specs.Term.{Term, Terms, Variable, Integer, Text, Application, span_of, with_span}
use Rattle.merc_terms.specs.Reading.{token, joined, Spells, SpellsArguments, SpellsItems}
use Rattle.merc_terms.specs.Reading.Spells.{variable, integer, negative, text, constant, qualified, application, qualified_application, empty_list, list, parenthesis, before, quantifier, between}
use Rattle.merc_terms.specs.Reading.SpellsArguments.{last_argument, argument}
use Rattle.merc_terms.specs.Reading.SpellsItems.{last_item, items_tail, item as next_item}
use Rattle.merc_terms.specs.Items.{HasItems, none, item}
use Rattle.merc_item_forms.specs.FormFaults.{Rises}
use Rattle.merc_items.proofs.TokenLengths.{token-long}

-- tokens begin at this byte or behind it, one behind the other
abbrev pub StartFrom : ℕ → List Token → Type 0
StartFrom at [] = Unit {0}
StartFrom at (first ∷ rest) = (at ≤ first.span.first) × StartFrom (suc first.span.first) rest

pub earlier : (at from : ℕ) (tokens : List Token) → from ≤ at → StartFrom at tokens → StartFrom from tokens
earlier at from [] le starts = tt
earlier at from (first ∷ rest) le starts = (omega (arith, starts.0, le), starts.1)

same_span : (names : List (List ℕ)) (found : Token) (kind : Option Spelling) (spelled : SpelledToken) → option_map (λ (kind : Spelling). record { kind = kind; span = found.span }) kind ≡ Some spelled → found.span.first ≡ spelled.span.first
same_span names found None spelled e = cc
same_span names found (Some kind) spelled e = let e' : record { kind = kind; span = found.span } ≡ spelled = cc in ap (λ (s : SpelledToken). s.span.first) e'

pub tokens-start : (names : List (List ℕ)) (bytes : List ℕ) (at : ℕ) (after : Bool) (spelled : List SpelledToken) (tokens : List Token) → HasTokensFrom bytes at after spelled → map (with_texts names) tokens ≡ map Some spelled → StartFrom at tokens
tokens-start names bytes at after _ [] has e = tt
tokens-start names bytes at after _ (first ∷ rest) (ends _ _ ended) e = absurd (cc)
tokens-start names bytes at after spelled (first ∷ rest) (gap _ len _ _ is on) e =
    earlier (at + len) at (first ∷ rest) (omega arith) (tokens-start names bytes (at + len) _ spelled (first ∷ rest) on e)
tokens-start names bytes at after _ (first ∷ rest) (next_token _ len _ spelling others is on) e =
    let head : with_texts names first ≡ Some (token_at bytes at len spelling) = cc in
    let tail : map (with_texts names) rest ≡ map Some others = cc in
    let place : first.span.first ≡ at = same_span names first (spelling_in names first.kind) (token_at bytes at len spelling) head in
    let long = token-long after (drop at bytes) spelling len is in
    (omega (arith, place), earlier (at + len) (suc first.span.first) rest (omega (arith, place, long)) (tokens-start names bytes (at + len) (is_name spelling) others rest on tail))

pub with_span-first : (span : Span) (term : Term) → span_of (with_span span term) ≡ span
with_span-first span (Variable name old) = refl
with_span-first span (Integer value old) = refl
with_span-first span (Text name old) = refl
with_span-first span (Application name qualifier arguments old) = refl

abbrev Begins : ℕ → Term → List Token → Type 0
Begins at term rest = (at ≤ (span_of term).first) × StartFrom (suc (span_of term).first) rest

mutual
  term-starts : (at : ℕ) (commas : Bool) (term : Term) (priority : ℕ) (tokens rest : List Token) → Spells commas term priority tokens rest → StartFrom at tokens → Begins at term rest
  term-starts at commas _ priority _ rest (variable _ name span _) starts = starts
  term-starts at commas _ priority _ rest (integer _ value span _) starts = starts
  term-starts at commas _ priority _ rest (negative _ value sign span _) starts =
      (starts.0, earlier (suc span.first) (suc sign.first) rest (omega (arith, starts.1.0)) starts.1.1)
  term-starts at commas _ priority _ rest (text _ name span _) starts = starts
  term-starts at commas _ priority _ rest (constant _ kind name span _ is not_on) starts = starts
  term-starts at commas _ priority _ rest (qualified _ kind kind' qualifier name span mark span' _ is is' not_on) starts =
      (starts.0, earlier (suc span'.first) (suc span.first) rest (omega (arith, starts.1.0, starts.1.1.0)) starts.1.1.1)
  term-starts at commas _ priority _ rest (application _ kind name arguments span open' close inner _ is spelt) starts =
      (starts.0, earlier (suc open'.first) (suc span.first) rest (omega (arith, starts.1.0)) (arguments-start (suc open'.first) arguments close inner rest spelt starts.1.1))
  term-starts at commas _ priority _ rest (qualified_application _ kind kind' qualifier name arguments span mark span' open' close inner _ is is' spelt) starts =
      (starts.0, earlier (suc open'.first) (suc span.first) rest (omega (arith, starts.1.0, starts.1.1.0, starts.1.1.1.0)) (arguments-start (suc open'.first) arguments close inner rest spelt starts.1.1.1.1))
  term-starts at commas _ priority _ rest (empty_list _ open' close _) starts =
      (starts.0, earlier (suc close.first) (suc open'.first) rest (omega (arith, starts.1.0)) starts.1.1)
  term-starts at commas term priority _ rest (list _ _ open' close inner _ spelt) starts =
      let items = items-start (suc open'.first) (joined open' close) term close inner rest spelt starts.1 in
      subst (λ (span : Span). (at ≤ span.first) × StartFrom (suc span.first) rest) (sym items.0) (starts.0, items.1)
  term-starts at commas _ _ _ rest (parenthesis _ kind term priority open' close inner _ is spelt most) starts =
      let inside = term-starts (suc open'.first) true term priority inner (token _ close ∷ rest) spelt starts.1 in
      subst (λ (span : Span). (at ≤ span.first) × StartFrom (suc span.first) rest) (sym (with_span-first (joined open' close) term))
      (starts.0, earlier (suc close.first) (suc open'.first) rest (omega (arith, inside.0, inside.1.0)) inside.1.1)
  term-starts at commas _ _ _ rest (before _ name priority operator operand span inner _ is one spelt most) starts =
      let inside = term-starts (suc span.first) commas operand priority inner rest spelt starts.1 in
      (starts.0, earlier (suc (span_of operand).first) (suc span.first) rest (omega (arith, inside.0)) inside.1)
  term-starts at commas _ _ _ rest (quantifier _ name priority priority' operator variables goal span inner middle _ is two spelt most no_infix spelt' most') starts =
      let first = term-starts (suc span.first) commas variables priority inner middle spelt starts.1 in
      let second = term-starts (suc (span_of variables).first) commas goal priority' middle rest spelt' first.1 in
      (starts.0, earlier (suc (span_of goal).first) (suc span.first) rest (omega (arith, first.0, second.0)) second.1)
  term-starts at commas _ _ tokens rest (between _ kind priority priority' operator left right span _ middle _ spelt is most spelt' most') starts =
      let first = term-starts at commas left priority tokens (token kind span ∷ middle) spelt starts in
      let second = term-starts (suc span.first) commas right priority' middle rest spelt' first.1.1 in
      (first.0, earlier (suc (span_of right).first) (suc (span_of left).first) rest (omega (arith, first.1.0, second.0)) second.1)

  arguments-start : (at : ℕ) (terms : Terms) (close : Span) (tokens rest : List Token) → SpellsArguments terms close tokens rest → StartFrom at tokens → StartFrom at rest
  arguments-start at _ close tokens rest (last_argument term priority _ _ _ spelt most) starts =
      let inside = term-starts at _ term priority tokens (token _ close ∷ rest) spelt starts in
      earlier (suc close.first) at rest (omega (arith, inside.0, inside.1.0)) inside.1.1
  arguments-start at _ close tokens rest (argument term terms priority comma _ _ middle _ spelt most spelt') starts =
      let inside = term-starts at _ term priority tokens (token _ comma ∷ middle) spelt starts in
      arguments-start at terms close middle rest spelt' (earlier (suc comma.first) at middle (omega (arith, inside.0, inside.1.0)) inside.1.1)

  items-start : (at : ℕ) (whole : Span) (term : Term) (close : Span) (tokens rest : List Token) → SpellsItems whole term close tokens rest → StartFrom at tokens → (span_of term ≡ whole) × StartFrom at rest
  items-start at whole _ close tokens rest (last_item _ term priority _ _ _ spelt most) starts =
      let inside = term-starts at _ term priority tokens (token _ close ∷ rest) spelt starts in
      (refl, earlier (suc close.first) at rest (omega (arith, inside.0, inside.1.0)) inside.1.1)
  items-start at whole _ close tokens rest (items_tail _ term end priority priority' bar _ _ middle _ spelt most spelt' most') starts =
      let first = term-starts at _ term priority tokens (token _ bar ∷ middle) spelt starts in
      let second = term-starts (suc bar.first) _ end priority' middle (token _ close ∷ rest) spelt' first.1.1 in
      (refl, earlier (suc close.first) at rest (omega (arith, first.0, first.1.0, second.0, second.1.0)) second.1.1)
  items-start at whole _ close tokens rest (next_item _ term others priority comma _ _ middle _ spelt most spelt') starts =
      let inside = term-starts at _ term priority tokens (token _ comma ∷ middle) spelt starts in
      (refl, (items-start at whole others close middle rest spelt' (earlier (suc comma.first) at middle (omega (arith, inside.0, inside.1.0)) inside.1.1)).1)

-- terms begin at this byte or behind it, one behind the other
abbrev RiseFrom : ℕ → List Term → Type 0
RiseFrom at [] = Unit {0}
RiseFrom at (first ∷ rest) = (at ≤ (span_of first).first) × RiseFrom (suc (span_of first).first) rest

items-rise : (at : ℕ) (tokens : List Token) (terms : List Term) → HasItems tokens terms → StartFrom at tokens → RiseFrom at terms
items-rise at _ _ none starts = tt
items-rise at tokens _ (item term terms _ rest spelt allowed more) starts =
    let first = term-starts at true term spelt.priority tokens (token _ spelt.stop ∷ rest) spelt.spelled starts in
    (first.0, items-rise (suc (span_of term).first) rest terms more (earlier (suc spelt.stop.first) (suc (span_of term).first) rest (omega (arith, first.1.0)) first.1.1))

rises : (at : ℕ) (terms : List Term) → RiseFrom at terms → Rises terms
rises at [] rise = tt
rises at (only ∷ []) rise = tt
rises at (first ∷ next ∷ rest) rise = (omega (arith, rise.1.0), rises (suc (span_of first).first) (next ∷ rest) rise.1)

-- the items of a text rise
pub items-rises : (names : List (List ℕ)) (bytes : List ℕ) (spelled : List SpelledToken) (tokens : List Token) (terms : List Term)
    → HasTokensFrom bytes 0 false spelled → map (with_texts names) tokens ≡ map Some spelled → HasItems tokens terms → Rises terms
items-rises names bytes spelled tokens terms has e items = rises 0 terms (items-rise 0 tokens terms items (tokens-start names bytes 0 _ spelled tokens has e))
