-- The text of a module that is grown: how it goes on, how long it is, and that each of its bytes is a character.
use Rattle.std.proofs.Common.{◌≡◌, ◌∙◌, ℕ, zero, suc, ◌+◌, ◌*◌, ◌^◌, ◌<◌, ◌≤◌, true, List, ◌++◌, length, codes, arith, append_assoc, add-one, length-append, ap, sym, subst, refl}
use Rattle.std.specs.Fmt.{decimal}
use Rattle.std.specs.List.{list_all}
use Rattle.std.specs.Str.{IsAscii}
use Rattle.std.proofs.Math.Dec.{ltb}
use Rattle.std.proofs.lemmas.Bool.{ltb-true}
use Rattle.std.proofs.lemmas.Fmt.{length-decimal-le, IsAscii-decimal}
use Rattle.std.proofs.lemmas.List.Sums.{AllPass-from_list_all}
use Rattle.std.proofs.lemmas.Str.{IsAscii-append}
use Rattle.std.proofs.lemmas.Str.Ascii.{IsAscii-nil, IsAscii-from_all}
use Rattle.merc_transfer.specs.Loading.{file_limit}
use Rattle.merc_grow.specs.Grown.{predicate_limit, first_called, second_called, seed, declaration, clause, predicates, grown}
use Rattle.merc_grow.specs.GrownLaws.{GrownFits, GrownIsAscii}

-- behind the first predicates stands the next one
pub predicates-more : (front : List ℕ) (count before : ℕ) → front ++ predicates count before ++ declaration (before + 1) ++ clause count (before + 1) ≡ front ++ predicates count (before + 1)
predicates-more front count before =
    let own = declaration (suc before) in
    let body = clause count (suc before) in
    subst (λ (number : ℕ). front ++ predicates count before ++ declaration number ++ clause count number ≡ front ++ predicates count number) (sym (add-one before))
    (ap (λ (text : List ℕ). text ++ body) (append_assoc front (predicates count before) own) ∙ append_assoc front (predicates count before ++ own) body)

-- the parts of a clause, each up to a number
abbrev name_part : ℕ → List ℕ
name_part number = codes "p" ++ decimal number ++ codes "(X, Y) :- ( if X =< 0 then Y = "

abbrev seed_part : ℕ → List ℕ
seed_part number = name_part number ++ decimal (seed number) ++ codes " else ( p"

abbrev first_part : ℕ → ℕ → List ℕ
first_part count number = seed_part number ++ decimal (first_called count number) ++ codes "(X - 1, A) & p"

-- ---- its length

-- a text, a number of at most four digits behind it, and words behind that
length-numbered : (front : List ℕ) (number : ℕ) (words : List ℕ) → number < 10 ^ 4 → length (front ++ decimal number ++ words) ≤ length front + 4 + length words
length-numbered front number words small =
    let digits : length (decimal number) ≤ 4 = length-decimal-le 4 number (omega arith) small (omega arith) in
    omega (arith, digits, length-append (front ++ decimal number) words, length-append front (decimal number))

length-declaration : (number : ℕ) → number ≤ predicate_limit → length (declaration number) ≤ 60
length-declaration number most =
    let whole = length-numbered (codes ":- pred p") number (codes "(int::in, int::out) is det.\n") (omega arith) in
    omega (arith, whole)

length-clause : (count number : ℕ) → 1 ≤ count → count ≤ predicate_limit → number ≤ count → length (clause count number) ≤ 140
length-clause count number some most within =
    let name = length-numbered (codes "p") number (codes "(X, Y) :- ( if X =< 0 then Y = ") (omega arith) in
    let constant = length-numbered (name_part number) (seed number) (codes " else ( p") (omega arith) in
    let first = length-numbered (seed_part number) (first_called count number) (codes "(X - 1, A) & p") (omega arith) in
    let second = length-numbered (first_part count number) (second_called count number) (codes "(X - 1, B) ), Y = (A + B) mod 1000000 ).\n") (omega arith) in
    omega (arith, name, constant, first, second)

length-predicates : (count number : ℕ) → count ≤ predicate_limit → number ≤ count → length (predicates count number) ≤ number * 200
length-predicates count zero most within = omega arith
length-predicates count (suc number) most within =
    let before = length-predicates count number most (omega arith) in
    let own = length-declaration (suc number) (omega arith) in
    let body = length-clause count (suc number) (omega arith) most within in
    omega (
      arith,
      before,
      own,
      body,
      length-append (predicates count number ++ declaration (suc number)) (clause count (suc number)),
      length-append (predicates count number) (declaration (suc number)),
    )

pub grown_fits : GrownFits
unfolding grown file_limit
grown_fits count most =
    let all = length-predicates count count most (omega arith) in
    omega (arith, all, length-append (codes ":- module grown.\n:- import_module int.\n") (predicates count count))

-- ---- its characters

-- a text that was written out
words_are_ascii : (words : List ℕ) → list_all (λ (byte : ℕ). ltb byte 128) words ≡ true → IsAscii words
words_are_ascii words all = IsAscii-from_all words (λ place other below. ltb-true _ 128 (AllPass-from_list_all (λ (byte : ℕ). ltb byte 128) words all place other below))

numbered_is_ascii : (front : List ℕ) (number : ℕ) (words : List ℕ) → IsAscii front → number < 10 ^ 4 → list_all (λ (byte : ℕ). ltb byte 128) words ≡ true → IsAscii (front ++ decimal number ++ words)
numbered_is_ascii front number words first small all =
    IsAscii-append (front ++ decimal number) words (IsAscii-append front (decimal number) first (IsAscii-decimal number (omega arith))) (words_are_ascii words all)

declaration_is_ascii : (number : ℕ) → number ≤ predicate_limit → IsAscii (declaration number)
declaration_is_ascii number most = numbered_is_ascii (codes ":- pred p") number (codes "(int::in, int::out) is det.\n") (words_are_ascii (codes ":- pred p") refl) (omega arith) refl

clause_is_ascii : (count number : ℕ) → 1 ≤ count → count ≤ predicate_limit → number ≤ count → IsAscii (clause count number)
clause_is_ascii count number some most within =
    let name : IsAscii (name_part number) =
    numbered_is_ascii (codes "p") number (codes "(X, Y) :- ( if X =< 0 then Y = ") (words_are_ascii (codes "p") refl) (omega arith) refl in
    let constant : IsAscii (seed_part number) = numbered_is_ascii (name_part number) (seed number) (codes " else ( p") name (omega arith) refl in
    let first : IsAscii (first_part count number) = numbered_is_ascii (seed_part number) (first_called count number) (codes "(X - 1, A) & p") constant (omega arith) refl in
    numbered_is_ascii (first_part count number) (second_called count number) (codes "(X - 1, B) ), Y = (A + B) mod 1000000 ).\n") first (omega arith) refl

predicates_are_ascii : (count number : ℕ) → count ≤ predicate_limit → number ≤ count → IsAscii (predicates count number)
predicates_are_ascii count zero most within = IsAscii-nil
predicates_are_ascii count (suc number) most within =
    IsAscii-append (predicates count number ++ declaration (suc number)) (clause count (suc number))
    (IsAscii-append (predicates count number) (declaration (suc number)) (predicates_are_ascii count number most (omega arith)) (declaration_is_ascii (suc number) (omega arith)))
    (clause_is_ascii count (suc number) (omega arith) most within)

pub grown_is_ascii : GrownIsAscii
unfolding grown
grown_is_ascii count most =
    IsAscii-append (codes ":- module grown.\n:- import_module int.\n") (predicates count count)
    (words_are_ascii (codes ":- module grown.\n:- import_module int.\n") refl) (predicates_are_ascii count count most (omega arith))
