-- A text whose words are constants is read the same whatever names the table holds behind the constants, and its words add none.
use Rattle.std.proofs.Common.{◌≡◌, ℕ, zero, suc, Bool, true, false, nat_lt, List, [], ◌∷◌, ◌++◌, map, fold, slice_get, Option, Some, None, refl, sym, ap, ap₂, subst, ◌∙◌, ltb-true, arith}
use Rattle.std.proofs.lemmas.Bool.{and_parts}
use Rattle.std.proofs.lemmas.Str.{IsUtf8-from_ascii}
use Rattle.std.specs.Bool.{if◌then◌else◌}
use Rattle.std.specs.List.{list_all, flat_map}
use Rattle.std.specs.Option.{option_map}
use Rattle.std.specs.Str.{IsAscii}
use Rattle.merc_base.specs.Names.{fixed_names, HoldsFixed}
use Rattle.merc_base.specs.Texts.{is_among, place_among, with_text}
use Rattle.merc_base.proofs.NameLaws.{with_text-known}
use Rattle.merc_base.proofs.TextTables.{with_text-present, place_has_text}
use Rattle.merc_tokens.specs.declared.token.Token.{Token}
use Rattle.merc_tokens.specs.declared.token.TokenKind.{TokenKind}
use Rattle.merc_tokens.specs.declared.token.TokenKind.TheVariants.{Name as NameKind, Quoted as QuotedKind, Var as VarKind, Int as IntKind, Text as TextKind, OpenArgs as OpenArgsKind, Open as OpenKind, Close as CloseKind, OpenList as OpenListKind, CloseList as CloseListKind, Comma as CommaKind, Bar as BarKind, Dot as DotKind, Stop as StopKind}
use Rattle.merc_tokens.specs.declared.pieces.Spelling.{Spelling}
use Rattle.merc_tokens.specs.declared.pieces.Spelling.TheVariants.{Name, Quoted, Var, Int, Text, OpenArgs, Open, Close, OpenList, CloseList, Comma, Bar, Dot, Stop}
use Rattle.merc_tokens.specs.Tokens.{SpelledToken, named_text, spelling_in, with_names, with_texts}
use Rattle.merc_tokens.proofs.Deciding.{spelled_of, spelled_of-right}
use Rattle.merc_tree.specs.Term.{Term}
use Rattle.merc_terms.specs.Texts.{ReadsItems}
use Rattle.merc_terms.proofs.Deciding.{items_in, items_in-right}

-- a kind of token with the constants' numbers for the names
abbrev constant_kind : Spelling → TokenKind
constant_kind (Name name) = NameKind (place_among fixed_names name)
constant_kind (Quoted name) = QuotedKind (place_among fixed_names name)
constant_kind (Var name) = VarKind (place_among fixed_names name)
constant_kind (Int value) = IntKind value
constant_kind (Text content) = TextKind (place_among fixed_names content)
constant_kind OpenArgs = OpenArgsKind
constant_kind Open = OpenKind
constant_kind Close = CloseKind
constant_kind OpenList = OpenListKind
constant_kind CloseList = CloseListKind
constant_kind Comma = CommaKind
constant_kind Bar = BarKind
constant_kind Dot = DotKind
constant_kind Stop = StopKind

abbrev constant_tokens : List SpelledToken → List Token
constant_tokens spelled = map (λ token. record { kind = constant_kind token.kind; span = token.span }) spelled

abbrev are_constants : List (List ℕ) → Bool
are_constants texts = list_all (λ text. is_among text fixed_names) texts

abbrev have_constants : List SpelledToken → Bool
have_constants spelled = list_all (λ token. are_constants (named_text token.kind)) spelled

-- the items of tokens whose names are constants
abbrev constant_items : ℕ → Option (List SpelledToken) → Option (List Term)
constant_items items None = None
constant_items items (Some spelled) = if have_constants spelled then items_in items (constant_tokens spelled) else None

-- The items of a text of ASCII characters, of at most so many pieces and items, whose names are constants.
abbrev pub items_of_text : ℕ → ℕ → List ℕ → Option (List Term)
items_of_text pieces items text = if list_all (λ byte. nat_lt byte 128) text then constant_items items (spelled_of pieces text) else None

-- a constant stands at its place, in each table that holds the constants

constant_placed : (text : List ℕ) → is_among text fixed_names ≡ true → slice_get fixed_names (place_among fixed_names text) ≡ Some text
constant_placed text among =
    subst (λ (names : List (List ℕ)). slice_get names (place_among names text) ≡ Some text) (sym (with_text-present fixed_names text (sym among))) (place_has_text fixed_names text)

module _ (names : List (List ℕ)) (fixed : HoldsFixed names) where
  placed : (text : List ℕ) → is_among text fixed_names ≡ true → slice_get names (place_among fixed_names text) ≡ Some text
  placed text among = fixed.text (place_among fixed_names text) text (constant_placed text among)

  -- constants add no names
  known : (texts others : List (List ℕ)) → are_constants texts ≡ true → fold with_text names (texts ++ others) ≡ fold with_text names others
  known [] others constants = refl
  known (text ∷ texts) others constants =
      let parts = and_parts (is_among text fixed_names) (are_constants texts) constants in
      ap (λ (those : List (List ℕ)). fold with_text those (texts ++ others)) (sym (with_text-known names text (place_among fixed_names text) (placed text parts.0)))
      ∙ known texts others parts.1

  one_placed : (text : List ℕ) → are_constants (text ∷ []) ≡ true → slice_get names (place_among fixed_names text) ≡ Some text
  one_placed text constants = placed text (and_parts (is_among text fixed_names) true constants).0

  kind_named : (spelling : Spelling) → are_constants (named_text spelling) ≡ true → spelling_in names (constant_kind spelling) ≡ Some spelling
  kind_named (Name name) is = ap (option_map Name) (one_placed name is)
  kind_named (Quoted name) is = ap (option_map Quoted) (one_placed name is)
  kind_named (Var name) is = ap (option_map Var) (one_placed name is)
  kind_named (Int value) is = refl
  kind_named (Text content) is = ap (option_map Text) (one_placed content is)
  kind_named OpenArgs is = refl
  kind_named Open is = refl
  kind_named Close is = refl
  kind_named OpenList is = refl
  kind_named CloseList is = refl
  kind_named Comma is = refl
  kind_named Bar is = refl
  kind_named Dot is = refl
  kind_named Stop is = refl

  -- tokens whose names are constants, with their texts, and what they put into the table
  tokens_named : (spelled : List SpelledToken) → have_constants spelled ≡ true → (map (with_texts names) (constant_tokens spelled) ≡ map Some spelled) × (names ≡ with_names names spelled)
  tokens_named [] constants = (refl, refl)
  tokens_named (first ∷ rest) constants =
      let parts = and_parts (are_constants (named_text first.kind)) (have_constants rest) constants in
      let others = tokens_named rest parts.1 in (
        ap₂ (λ (s : Option SpelledToken) (l : List (Option SpelledToken)). s ∷ l)
            (ap (option_map (λ (kind : Spelling). record { kind = kind; span = first.span })) (kind_named first.kind parts.0)) others.0,
        others.1 ∙ sym (known (named_text first.kind) (flat_map (λ token. named_text token.kind) rest) parts.0),
      )

ascii : (text : List ℕ) → list_all (λ byte. nat_lt byte 128) text ≡ true → IsAscii text
ascii [] all at = omega arith
ascii (byte ∷ text) all zero = ltb-true byte 128 (and_parts (nat_lt byte 128) (list_all (λ b. nat_lt b 128) text) all).0
ascii (byte ∷ text) all (suc at) = ascii text (and_parts (nat_lt byte 128) (list_all (λ b. nat_lt b 128) text) all).1 at

if_some : {A : Type 0} (test : Bool) (found : Option A) (one : A) → (if test then found else None) ≡ Some one → (test ≡ true) × (found ≡ Some one)
if_some true found one is = (refl, is)
if_some false found one is = absurd cc

by_tokens : (names : List (List ℕ)) → HoldsFixed names → (text : List ℕ) → IsAscii text → (pieces items : ℕ) (found : Option (List SpelledToken)) → spelled_of pieces text ≡ found
    → (terms : List Term) → constant_items items found ≡ Some terms → ReadsItems names names text terms
by_tokens names fixed text plain pieces items None is terms are = absurd cc
by_tokens names fixed text plain pieces items (Some spelled) is terms are =
    let parts = if_some (have_constants spelled) (items_in items (constant_tokens spelled)) terms are in
    let tokens = tokens_named names fixed spelled parts.0 in
    record {
      tokens = constant_tokens spelled;
      read = record {
        spelled = spelled;
        has = record { utf8 = IsUtf8-from_ascii text plain; all = spelled_of-right pieces text spelled is };
        named = tokens.0;
        table = tokens.1;
      };
      items = items_in-right items (constant_tokens spelled) terms parts.1;
    }

-- The computed items are those of the text over each table that holds the constants, and no name is added.
pub items_of_text-right : (pieces items : ℕ) (text : List ℕ) (terms : List Term) → items_of_text pieces items text ≡ Some terms → (names : List (List ℕ)) → HoldsFixed names
    → ReadsItems names names text terms
items_of_text-right pieces items text terms is names fixed =
    let parts = if_some (list_all (λ byte. nat_lt byte 128) text) (constant_items items (spelled_of pieces text)) terms is in
    by_tokens names fixed text (ascii text parts.0) pieces items (spelled_of pieces text) refl terms parts.1
