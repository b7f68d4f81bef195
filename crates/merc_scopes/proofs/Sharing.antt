-- What some lists of occurrences have together, and what two of them share.
use Rattle.std.proofs.Common.{◌≡◌, ℕ, ◌+◌, nat_le, Bool, true, false, cond, List, [], ◌∷◌, ◌++◌, Option, Some, None, count_by, if◌then◌else◌, refl, ap, sym, ◌∙◌, arith}
use Rattle.std.specs.Option.{is_some, option_or, option_and}
use Rattle.std.proofs.lemmas.Bool.Decides.{nat_tests}
use Rattle.std.proofs.lemmas.Grind.{flat_map-append}
use Rattle.std.proofs.lemmas.List.{append-nil}
use Rattle.std.proofs.lemmas.List.Sums.{sum_by-append}
use Rattle.merc_scopes.specs.declared.occurrence.Occurrence.{Occurrence}
use Rattle.merc_scopes.specs.Scopes.{at_of, has_name, shared}
use Rattle.merc_scopes.specs.Standing.{together}
use Rattle.merc_scopes.proofs.PlaceLaws.{option_or-none, at_of-append}
use Rattle.merc_scopes.proofs.Filtering.{has_name-at_of, either_way, at_of-kept}

pub together-push : (front : List (List Occurrence)) (list : List Occurrence) → together (front ++ list ∷ []) ≡ together front ++ list
together-push front list = flat_map-append (λ (l : List Occurrence). l) front (list ∷ []) ∙ ap (λ l. together front ++ l) (append-nil list)

abbrev times : ℕ → List (List Occurrence) → ℕ
times name lists = count_by (has_name name) lists

times-push : (name : ℕ) (front : List (List Occurrence)) (list : List Occurrence) → times name (front ++ list ∷ []) ≡ times name front + cond (is_some (at_of name list)) 1 0
times-push name front list =
    sum_by-append (λ (l : List Occurrence). cond (has_name name l) 1 0) front (list ∷ [])
    ∙ ap (λ (b : Bool). times name front + (0 + cond b 1 0)) (has_name-at_of name list)
    ∙ (let e : times name front + (0 + cond (is_some (at_of name list)) 1 0) ≡ times name front + cond (is_some (at_of name list)) 1 0 = omega arith in e)

once_more : (first rest : Option ℕ) (count : ℕ) → is_some rest ≡ nat_le 1 count → is_some (option_or first rest) ≡ nat_le 1 (0 + cond (is_some first) 1 0 + count)
once_more None rest count is = is ∙ ap (nat_le 1) (let e : count ≡ 0 + 0 + count = omega arith in e)
once_more (Some at) rest count is = let e : nat_le 1 (0 + 1 + count) ≡ true = grind (arith, nat_tests) in sym e

-- a name occurs in all of them together where it occurs in one at least
occurs : (name : ℕ) (lists : List (List Occurrence)) → is_some (at_of name (together lists)) ≡ nat_le 1 (times name lists)
occurs name [] = refl
occurs name (list ∷ rest) =
    ap is_some (at_of-append name list (together rest))
    ∙ once_more (at_of name list) (at_of name (together rest)) (times name rest) (occurs name rest)
    ∙ ap (λ (b : Bool). nat_le 1 (0 + cond b 1 0 + times name rest)) (sym (has_name-at_of name list))
    ∙ ap (nat_le 1) (sym (sum_by-append (λ (l : List Occurrence). cond (has_name name l) 1 0) (list ∷ []) rest))

shared-at : (name : ℕ) (lists : List (List Occurrence)) → at_of name (shared lists) ≡ (if nat_le 2 (times name lists) then at_of name (together lists) else None)
shared-at name lists = at_of-kept (λ n. nat_le 2 (times n lists)) name (together lists)

same_again : (test : Bool) (at : ℕ) → Some at ≡ option_or (if test then Some at else None) (Some at)
same_again true at = refl
same_again false at = refl

-- one list more: what it shares with those before it
second_time : (before here : Option ℕ) (count : ℕ) → is_some before ≡ nat_le 1 count
    → (if nat_le 2 (count + cond (is_some here) 1 0) then option_or before here else None) ≡ option_or (if nat_le 2 count then before else None) (option_and here before)
second_time None None count is = either_way _ None ∙ sym (ap (λ (o : Option ℕ). option_or o None) (either_way (nat_le 2 count) None))
second_time None (Some again) count is =
    let few : nat_le 2 (count + 1) ≡ false = grind (arith, nat_tests) in
    rw few (sym (ap (λ (o : Option ℕ). option_or o None) (either_way (nat_le 2 count) None)))
second_time (Some first) None count is =
    ap (λ n. if nat_le 2 n then Some first else None) (let e : count + 0 ≡ count = omega arith in e) ∙ sym (option_or-none (if nat_le 2 count then Some first else None))
second_time (Some first) (Some again) count is =
    let many : nat_le 2 (count + 1) ≡ true = grind (arith, nat_tests) in
    rw many (same_again (nat_le 2 count) first)

pub shared-push : (name : ℕ) (front : List (List Occurrence)) (list : List Occurrence)
    → at_of name (shared (front ++ list ∷ [])) ≡ option_or (at_of name (shared front)) (option_and (at_of name list) (at_of name (together front)))
shared-push name front list =
    shared-at name (front ++ list ∷ [])
    ∙ ap (λ n. if nat_le 2 n then at_of name (together (front ++ list ∷ [])) else None) (times-push name front list)
    ∙ ap (λ (o : Option ℕ). if nat_le 2 (times name front + cond (is_some (at_of name list)) 1 0) then o else None)
    (ap (at_of name) (together-push front list) ∙ at_of-append name (together front) list)
    ∙ second_time (at_of name (together front)) (at_of name list) (times name front) (occurs name front)
    ∙ ap (λ (o : Option ℕ). option_or o (option_and (at_of name list) (at_of name (together front)))) (sym (shared-at name front))
