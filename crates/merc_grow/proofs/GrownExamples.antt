-- Worked examples of the module that is grown from a number: what holds, and what does not.
use Rattle.std.proofs.Common.{◌≡◌, ℕ, List, ◌++◌, codes, slice_index, arith, ap, refl}
use Rattle.std.specs.Fmt.{digits}
use Rattle.merc_grow.specs.Grown.{predicate_limit, first_called, second_called, seed, declaration, clause, predicates, grown}

pub predicate_limit-example : predicate_limit ≡ 2000
predicate_limit-example = refl

pub predicate_limit-counterexample : predicate_limit ≡ 200 → ⊥
predicate_limit-counterexample same = omega (arith, same)

-- of three predicates the second calls the third, since 17 leaves 2
pub first_called-example : first_called 3 2 ≡ 3
first_called-example = refl

-- numbers are from 1
pub first_called-counterexample : first_called 3 2 ≡ 2 → ⊥
first_called-counterexample same = omega (arith, same)

-- beside it the third again, since 11 leaves 2
pub second_called-example : second_called 3 2 ≡ 3
second_called-example = refl

pub second_called-counterexample : second_called 3 3 ≡ 3 → ⊥
second_called-counterexample same = omega (arith, same)

-- a thousand is left out
pub seed-example : seed 27 ≡ 10
seed-example = refl

pub seed-counterexample : seed 1 ≡ 37 → ⊥
seed-counterexample same = omega (arith, same)

pub declaration-example : declaration 12 ≡ codes ":- pred p12(int::in, int::out) is det.\n"
unfolding digits
declaration-example = refl

-- the line has its end
pub declaration-counterexample : declaration 1 ≡ codes ":- pred p1(int::in, int::out) is det." → ⊥
unfolding digits
declaration-counterexample same = let last : ◌≡◌ {A = ℕ} 10 0 = ap (λ (text : List ℕ). slice_index text 37) same in omega (arith, last)

pub clause-example : clause 3 2 ≡ codes "p2(X, Y) :- ( if X =< 0 then Y = 85 else ( p3(X - 1, A) & p3(X - 1, B) ), Y = (A + B) mod 1000000 ).\n"
unfolding digits
clause-example = refl

-- the predicate's own number does not stand for the seed
pub clause-counterexample : clause 3 2 ≡ codes "p2(X, Y) :- ( if X =< 0 then Y = 2 else ( p3(X - 1, A) & p3(X - 1, B) ), Y = (A + B) mod 1000000 ).\n" → ⊥
unfolding digits
clause-counterexample same = let number : ◌≡◌ {A = ℕ} 56 50 = ap (λ (text : List ℕ). slice_index text 33) same in omega (arith, number)

-- the first of three predicates alone
pub predicates-example : predicates 3 1
    ≡ codes ":- pred p1(int::in, int::out) is det.\np1(X, Y) :- ( if X =< 0 then Y = 48 else ( p2(X - 1, A) & p1(X - 1, B) ), Y = (A + B) mod 1000000 ).\n"
unfolding digits
predicates-example = refl

-- a module of one predicate is another
pub predicates-counterexample : predicates 1 1 ≡ predicates 3 1 → ⊥
unfolding digits
predicates-counterexample same = let called : ◌≡◌ {A = ℕ} 49 50 = ap (λ (text : List ℕ). slice_index text 82) same in omega (arith, called)

-- the whole module of one predicate
pub grown-one : grown 1
    ≡ codes ":- module grown.\n"
    ++ codes ":- import_module int.\n"
    ++ codes ":- pred p1(int::in, int::out) is det.\n"
    ++ codes "p1(X, Y) :- ( if X =< 0 then Y = 48 else ( p1(X - 1, A) & p1(X - 1, B) ), Y = (A + B) mod 1000000 ).\n"
unfolding digits grown
grown-one = refl

-- the whole module of three predicates
pub grown-three : grown 3
    ≡ codes ":- module grown.\n"
    ++ codes ":- import_module int.\n"
    ++ codes ":- pred p1(int::in, int::out) is det.\n"
    ++ codes "p1(X, Y) :- ( if X =< 0 then Y = 48 else ( p2(X - 1, A) & p1(X - 1, B) ), Y = (A + B) mod 1000000 ).\n"
    ++ codes ":- pred p2(int::in, int::out) is det.\n"
    ++ codes "p2(X, Y) :- ( if X =< 0 then Y = 85 else ( p3(X - 1, A) & p3(X - 1, B) ), Y = (A + B) mod 1000000 ).\n"
    ++ codes ":- pred p3(int::in, int::out) is det.\n"
    ++ codes "p3(X, Y) :- ( if X =< 0 then Y = 122 else ( p1(X - 1, A) & p2(X - 1, B) ), Y = (A + B) mod 1000000 ).\n"
unfolding digits grown
grown-three = refl

-- the two modules are not one
pub grown-counterexample : grown 1 ≡ grown 3 → ⊥
unfolding digits grown
grown-counterexample same = let called : ◌≡◌ {A = ℕ} 49 50 = ap (λ (text : List ℕ). slice_index text 121) same in omega (arith, called)
