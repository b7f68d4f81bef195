-- Choice points lie with the oldest first, and are seen with the newest first.
use Rattle.std.proofs.Common.{◌≡◌, ℕ, zero, suc, ◌-◌, ◌==◌, Bool, true, false, if◌then◌else◌, List, [], ◌∷◌, ◌++◌, length, take, drop, map, reverse, slice_set, refl, sym, ap, ◌∙◌, arith}
use Rattle.std.proofs.lemmas.List.{length-append, length-drop, length-reverse, map-append, reverse-append, take-append-drop, drop_at}
use Rattle.std.proofs.lemmas.Bool.Decides.{nat_tests}
use Rattle.merc_frames.specs.Stacks.{ChoicePoint, Dead, softened}

pub reversed_last : {A B : Type 0} (g : A → B) (xs : List A) (x : A) → reverse (map g (xs ++ x ∷ [])) ≡ g x ∷ reverse (map g xs)
reversed_last g xs x = ap reverse (map-append g xs (x ∷ [])) ∙ reverse-append (map g xs) (g x ∷ [])

pub reversed_take : {A : Type 0} (n : ℕ) (xs : List A) → drop (length (reverse xs) - n) (reverse xs) ≡ reverse (take n xs)
reversed_take n xs =
    ap (λ x. drop (length (reverse xs) - n) x) (ap reverse (sym (take-append-drop n xs)) ∙ reverse-append (take n xs) (drop n xs))
    ∙ drop_at (reverse (drop n xs)) (reverse (take n xs)) (length (reverse xs) - n)
    (length-reverse (drop n xs) ∙ length-drop n xs ∙ ap (λ x. x - n) (sym (length-reverse xs)))

length_last : {A : Type 0} (xs : List A) (x : A) → length (xs ++ x ∷ []) ≡ suc (length xs)
length_last xs x = omega (arith, length-append xs (x ∷ []))

other_than : (n : ℕ) → (zero == suc n) ≡ false
other_than n = grind (arith, nat_tests)

more_than : (n : ℕ) → (suc n == zero) ≡ false
more_than n = grind (arith, nat_tests)

equal_more : (n m : ℕ) → (suc n == suc m) ≡ (n == m)
equal_more n m = grind (arith, nat_tests)

softened_last : (ys : List ChoicePoint) (x : ChoicePoint) → softened zero (ys ++ x ∷ []) ≡ ys ++ Dead ∷ []
softened_last [] x = refl
softened_last (y ∷ ys) x = ap (λ n. if zero == n then Dead ∷ (ys ++ x ∷ []) else y ∷ softened zero (ys ++ x ∷ [])) (length_last ys x)
    ∙ ap (λ b. if b then Dead ∷ (ys ++ x ∷ []) else y ∷ softened zero (ys ++ x ∷ [])) (other_than (length ys)) ∙ ap (λ t. y ∷ t) (softened_last ys x)

either_more : (b : Bool) (y x : ChoicePoint) (ys zs : List ChoicePoint) → (if b then Dead ∷ (ys ++ x ∷ []) else y ∷ (zs ++ x ∷ [])) ≡ (if b then Dead ∷ ys else y ∷ zs) ++ x ∷ []
either_more true y x ys zs = refl
either_more false y x ys zs = refl

softened_more : (count : ℕ) (ys : List ChoicePoint) (x : ChoicePoint) → softened (suc count) (ys ++ x ∷ []) ≡ softened count ys ++ x ∷ []
softened_more count [] x = ap (λ b. if b then Dead ∷ [] else x ∷ []) (more_than count)
softened_more count (y ∷ ys) x =
    ap (λ n. if suc count == n then Dead ∷ (ys ++ x ∷ []) else y ∷ softened (suc count) (ys ++ x ∷ [])) (length_last ys x)
    ∙ ap (λ b. if b then Dead ∷ (ys ++ x ∷ []) else y ∷ softened (suc count) (ys ++ x ∷ [])) (equal_more count (length ys))
    ∙ ap (λ t. if count == length ys then Dead ∷ (ys ++ x ∷ []) else y ∷ t) (softened_more count ys x)
    ∙ either_more (count == length ys) y x ys (softened count ys)

reversed_first : (x : ChoicePoint) (xs : List ChoicePoint) → reverse (x ∷ xs) ≡ reverse xs ++ x ∷ []
reversed_first x xs = reverse-append (x ∷ []) xs

pub softened_reverse : (count : ℕ) (xs : List ChoicePoint) → softened count (reverse xs) ≡ reverse (slice_set xs count Dead)
softened_reverse zero [] = refl
softened_reverse (suc count) [] = refl
softened_reverse zero (x ∷ xs) = ap (λ v. softened zero v) (reversed_first x xs) ∙ softened_last (reverse xs) x ∙ sym (reversed_first Dead xs)
softened_reverse (suc count) (x ∷ xs) =
    ap (λ v. softened (suc count) v) (reversed_first x xs) ∙ softened_more count (reverse xs) x ∙ ap (λ v. v ++ x ∷ []) (softened_reverse count xs) ∙ sym (reversed_first x (slice_set xs count Dead))
