use Rattle.std.proofs.Common.{◌≡◌, List, ℕ, None, ◌∙◌, ap, refl}
use Rattle.std.proofs.lemmas.Bool.{cond_both}
use Rattle.std.specs.Prelude.{slice_get}
use Rattle.std.specs.Str.{is_utf8, chars, IsUtf8}
use Rattle.std.proofs.lemmas.Str.{is_utf8-from_IsUtf8, IsUtf8-from_is_utf8}
use Rattle.merc_tokens.specs.Integers.{first_character}
use Rattle.merc_tokens.proofs.integers.first_character.Goals as goal

first_character-text : (bytes : List ℕ) → IsUtf8 bytes → slice_get (chars bytes) 0 ≡ first_character bytes
first_character-text bytes text = rw (is_utf8-from_IsUtf8 bytes text)

first_character-other : (bytes : List ℕ) → (IsUtf8 bytes → ⊥) → None ≡ first_character bytes
first_character-other bytes other =
    cond_both (is_utf8 bytes) (slice_get (chars bytes) 0) None (λ found. None ≡ found)
    (λ yes. absurd (other (IsUtf8-from_is_utf8 bytes yes)))
    (λ _. refl)

pub returns-in-Ok : goal.returns-in-Ok
returns-in-Ok c =
    c.first_of.ensures ∙ ap (λ (bytes : List ℕ). slice_get (chars bytes) 0) c.in-Ok.ensures.cases.0
    ∙ first_character-text c.args.bytes.now c.in-Ok.ensures.cases.1

pub returns-in-Err : goal.returns-in-Err
returns-in-Err c = first_character-other c.args.bytes.now c.in-Err.ensures.cases.0
