-- Occurrences are put before others one by one, the last of them first.
use Rattle.std.proofs.Common.{◌≡◌, ℕ, Bool, true, false, ◌==◌, ◌||◌, List, [], ◌∷◌, ◌++◌, Option, Some, None, is_some, length, reverse, if◌then◌else◌, refl, ap, sym, ◌∙◌}
use Rattle.std.specs.Option.{option_or}
use Rattle.std.proofs.lemmas.List.{append_assoc, reverse-append, length-reverse}
use Rattle.merc_scopes.specs.declared.occurrence.Occurrence.{Occurrence}
use Rattle.merc_answer_variables.specs.Statuses.{place_among}

or-if : (t : Bool) (place : Option ℕ) (other more : Option ℕ) → option_or (if t then place else other) more ≡ (if t then option_or place more else option_or other more)
or-if true place other more = refl
or-if false place other more = refl

place-last : (name : ℕ) (front : List Occurrence) (last : Occurrence) (behind : List Occurrence)
    → place_among name (front ++ last ∷ []) behind ≡ option_or (place_among name front (last ∷ behind)) (if last.name == name then Some (length behind) else None)
place-last name [] last behind = refl
place-last name (first ∷ front) last behind =
    ap (λ l. if first.name == name then Some (length l) else place_among name (front ++ last ∷ []) behind) (append_assoc front (last ∷ []) behind)
    ∙ ap (λ o. if first.name == name then Some (length (front ++ last ∷ behind)) else o) (place-last name front last behind)
    ∙ sym (or-if (first.name == name) (Some (length (front ++ last ∷ behind))) (place_among name front (last ∷ behind)) (if last.name == name then Some (length behind) else None))

pushed_reversed : (trail pushed : List Occurrence) (last : Occurrence) → pushed ≡ trail ++ last ∷ [] → reverse pushed ≡ last ∷ reverse trail
pushed_reversed trail pushed last pushing = ap reverse pushing ∙ reverse-append trail (last ∷ [])

pub trail_step : (found popped trail pushed : List Occurrence) (last : Occurrence) (whole : List Occurrence)
    → found ≡ popped ++ last ∷ [] → pushed ≡ trail ++ last ∷ [] → found ++ reverse trail ≡ whole → popped ++ reverse pushed ≡ whole
trail_step found popped trail pushed last whole popping pushing is =
    ap (λ l. popped ++ l) (pushed_reversed trail pushed last pushing)
    ∙ sym (append_assoc popped (last ∷ []) (reverse trail))
    ∙ ap (λ l. l ++ reverse trail) (sym popping)
    ∙ is

options : (a : Option ℕ) (t : Bool) (place : ℕ) (old : Option ℕ) → option_or a (if t then Some place else old) ≡ option_or (option_or a (if t then Some place else None)) old
options None true place old = refl
options None false place old = refl
options (Some at) t place old = refl

pub place_step : (name : ℕ) (found popped trail pushed : List Occurrence) (last : Occurrence) (place : ℕ) (old now whole : Option ℕ)
    → found ≡ popped ++ last ∷ [] → pushed ≡ trail ++ last ∷ [] → place ≡ length trail → now ≡ (if last.name == name then Some place else old)
    → option_or (place_among name found (reverse trail)) old ≡ whole → option_or (place_among name popped (reverse pushed)) now ≡ whole
place_step name found popped trail pushed last place old now whole popping pushing placing putting is =
    ap (λ l. option_or (place_among name popped l) now) (pushed_reversed trail pushed last pushing)
    ∙ ap (λ o. option_or (place_among name popped (last ∷ reverse trail)) o) putting
    ∙ options (place_among name popped (last ∷ reverse trail)) (last.name == name) place old
    ∙ ap (λ n. option_or (option_or (place_among name popped (last ∷ reverse trail)) (if last.name == name then Some n else None)) old) (placing ∙ sym (length-reverse trail))
    ∙ ap (λ o. option_or o old) (sym (place-last name popped last (reverse trail)))
    ∙ ap (λ l. option_or (place_among name l (reverse trail)) old) (sym popping)
    ∙ is

bools : (a : Option ℕ) (t : Bool) (place : ℕ) (old : Bool) → (is_some a || (t || old)) ≡ (is_some (option_or a (if t then Some place else None)) || old)
bools None true place old = refl
bools None false place old = refl
bools (Some at) t place old = refl

pub shown_step : (name : ℕ) (found popped trail pushed : List Occurrence) (last : Occurrence) (old now whole : Bool)
    → found ≡ popped ++ last ∷ [] → pushed ≡ trail ++ last ∷ [] → now ≡ ((last.name == name) || old)
    → (is_some (place_among name found (reverse trail)) || old) ≡ whole → (is_some (place_among name popped (reverse pushed)) || now) ≡ whole
shown_step name found popped trail pushed last old now whole popping pushing putting is =
    ap (λ l. is_some (place_among name popped l) || now) (pushed_reversed trail pushed last pushing)
    ∙ ap (λ b. is_some (place_among name popped (last ∷ reverse trail)) || b) putting
    ∙ bools (place_among name popped (last ∷ reverse trail)) (last.name == name) (length (reverse trail)) old
    ∙ ap (λ o. is_some o || old) (sym (place-last name popped last (reverse trail)))
    ∙ ap (λ l. is_some (place_among name l (reverse trail)) || old) (sym popping)
    ∙ is
