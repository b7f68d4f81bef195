-- The module that is grown from a number: so many predicates of one form, each of which calls two of them side by side.
use Rattle.std.specs.Prelude.{ℕ, zero, suc, ◌+◌, ◌*◌, ◌%◌, List, [], ◌++◌, codes}
use Rattle.std.specs.Fmt.{decimal}

-- the most predicates
abbrev pub predicate_limit : ℕ
predicate_limit = 2000

-- Of so many predicates, by their numbers from 1, the one that is called first by the one of this number,
abbrev pub first_called : ℕ → ℕ → ℕ
first_called count number = 1 + (7 * number + 3) % count

-- and the one that is called beside it.
abbrev pub second_called : ℕ → ℕ → ℕ
second_called count number = 1 + (5 * number + 1) % count

-- what a predicate answers where its input is not positive
abbrev pub seed : ℕ → ℕ
seed number = (37 * number + 11) % 1000

abbrev pub declaration : ℕ → List ℕ
declaration number = codes ":- pred p" ++ decimal number ++ codes "(int::in, int::out) is det.\n"

abbrev pub clause : ℕ → ℕ → List ℕ
clause count number =
    codes "p" ++ decimal number ++ codes "(X, Y) :- ( if X =< 0 then Y = " ++ decimal (seed number)
    ++ codes " else ( p" ++ decimal (first_called count number) ++ codes "(X - 1, A) & p" ++ decimal (second_called count number)
    ++ codes "(X - 1, B) ), Y = (A + B) mod 1000000 ).\n"

-- of so many predicates, those from the first to the one of this number
abbrev pub predicates : ℕ → ℕ → List ℕ
predicates count zero = []
predicates count (suc number) = predicates count number ++ declaration (suc number) ++ clause count (suc number)

-- the text of the module with so many predicates
unfoldable pub grown : ℕ → List ℕ
grown count = codes ":- module grown.\n:- import_module int.\n" ++ predicates count count
