-- The first of the code's entries that passes a test, step by step.
use Rattle.std.proofs.Common.{◌≡◌, ℕ, ◌+◌, ◌<◌, length, drop, get_or, add-one, drop-cons, Bool, true, false, List, Some, refl, sym, ◌∙◌, ap}
use Rattle.std.specs.Bool.{if◌then◌else◌}
use Rattle.merc_base.specs.FirstPlace.{first_place}
use Rattle.merc_entries.specs.Entries.{Entry}
use Rattle.merc_entries.specs.declared.entry.Entry.{Entry as CodeEntry}
use Rattle.merc_entries.specs.EntryValue.{entry_value, entry_values, place_at}

first-more : (test : Entry → Bool) (entries : List CodeEntry) (i : ℕ) (other : CodeEntry) → i < length entries → first_place place_at test (entry_values (drop i entries)) ≡ (if test (entry_value (get_or entries i other)) then Some (get_or entries i other).place else first_place place_at test (entry_values (drop (i + 1) entries)))
first-more test entries i other within = rw (add-one, drop-cons entries i other) refl

pub first-here : (test : Entry → Bool) (entries : List CodeEntry) (i : ℕ) (here : CodeEntry) → i < length entries → here ≡ get_or entries i here → test (entry_value here) ≡ true → first_place place_at test (entry_values (drop i entries)) ≡ first_place place_at test (entry_values entries) → Some here.place ≡ first_place place_at test (entry_values entries)
first-here test entries i here within is passes walked =
    let same : test (entry_value (get_or entries i here)) ≡ true = ap (λ (entry : CodeEntry). test (entry_value entry)) (sym is) ∙ passes in
    ap (λ (entry : CodeEntry). Some entry.place) is ∙ sym (first-more test entries i here within ∙ rw same refl) ∙ walked

pub first-later : (test : Entry → Bool) (entries : List CodeEntry) (i : ℕ) (here : CodeEntry) → i < length entries → here ≡ get_or entries i here → test (entry_value here) ≡ false → first_place place_at test (entry_values (drop i entries)) ≡ first_place place_at test (entry_values entries) → first_place place_at test (entry_values (drop (i + 1) entries)) ≡ first_place place_at test (entry_values entries)
first-later test entries i here within is fails walked =
    let same : test (entry_value (get_or entries i here)) ≡ false = ap (λ (entry : CodeEntry). test (entry_value entry)) (sym is) ∙ fails in
    sym (first-more test entries i here within ∙ rw same refl) ∙ walked
