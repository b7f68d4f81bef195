-- Fresh variables at the places that are tested.
use Rattle.std.proofs.Common.{◌≡◌, inl, inr, ℕ, suc, ◌<◌, ◌≤◌, ◌+◌, Bool, true, false, ◌==◌, ◌||◌, List, [], ◌∷◌, ◌++◌, length, refl, ap, sym, ◌∙◌, arith}
use Rattle.std.proofs.lemmas.Bool.Decides.{Decides-eqb}
use Rattle.merc_tree.specs.declared.declarations.Arg.{Arg}
use Rattle.merc_tree.specs.declared.declarations.Arg.TheVariants.{Input, Output}
use Rattle.merc_order.specs.Bound.{among}
use Rattle.merc_order.specs.CallModes.{inputs_of}
use Rattle.merc_order.specs.Spelt.{replaced, tested_places, untested_places, written, numbered}
use Rattle.merc_order_laws.specs.Bindings.{Variables, AreFree}
use Rattle.merc_order_laws.specs.GoodOrdered.{FitPlaces}
use Rattle.merc_order_laws.specs.GoodTree.{written_by}
use Rattle.merc_order_laws.proofs.Facts.{clash, or_left, or_right, or_cases, not_true, or_assoc, among_append}

pub right_false : (a : Bool) → (a || false) ≡ a
right_false true = refl
right_false false = refl

swap_in : (r u n e : Bool) → r ≡ (u || n) → (e || r) ≡ (u || (e || n))
swap_in r true n true h = refl
swap_in r true n false h = h
swap_in r false n e h = ap (λ (k : Bool). e || k) h

pass_by : (r u n e : Bool) → r ≡ (u || n) → (e || r) ≡ ((e || u) || n)
pass_by r u n true h = refl
pass_by r u n false h = h

pub first_among : (x : ℕ) (xs : List ℕ) → among (x ∷ xs) x ≡ true
first_among x xs = or_left (x == x) (among xs x) ((Decides-eqb x x).1 refl)

pub among_replaced : (at : ℕ) (xs : List ℕ) (ts : List Bool) (v : ℕ) → among (replaced at xs ts) v ≡ (among (untested_places xs ts) v || among (numbered at (tested_places xs ts)) v)
among_replaced at [] ts v = refl
among_replaced at (x ∷ xs) [] v = sym (right_false (among (x ∷ xs) v))
among_replaced at (x ∷ xs) (true ∷ ts) v =
    swap_in (among (replaced (suc at) xs ts) v) (among (untested_places xs ts) v) (among (numbered (suc at) (tested_places xs ts)) v) (v == at) (among_replaced (suc at) xs ts v)
among_replaced at (x ∷ xs) (false ∷ ts) v =
    pass_by (among (replaced at xs ts) v) (among (untested_places xs ts) v) (among (numbered at (tested_places xs ts)) v) (v == x) (among_replaced at xs ts v)

pub among_places : (xs : List ℕ) (ts : List Bool) (v : ℕ) → among xs v ≡ (among (untested_places xs ts) v || among (tested_places xs ts) v)
among_places [] ts v = refl
among_places (x ∷ xs) [] v = sym (right_false (among (x ∷ xs) v))
among_places (x ∷ xs) (true ∷ ts) v = swap_in (among xs v) (among (untested_places xs ts) v) (among (tested_places xs ts) v) (v == x) (among_places xs ts v)
among_places (x ∷ xs) (false ∷ ts) v = pass_by (among xs v) (among (untested_places xs ts) v) (among (tested_places xs ts) v) (v == x) (among_places xs ts v)

-- Numbers of fresh variables.

pub numbered_from : (at : ℕ) (ys : List ℕ) (v : ℕ) → among (numbered at ys) v ≡ true → at ≤ v
numbered_from at [] v h = clash h refl
numbered_from at (y ∷ ys) v h = elim (or_cases (v == at) (among (numbered (suc at) ys) v) h) as (λ _. at ≤ v) [
  | inl k ↦ omega (arith, (Decides-eqb v at).0 k)
  | inr k ↦ omega (arith, numbered_from (suc at) ys v k)
]

pub numbered_to : (at : ℕ) (ys : List ℕ) (v : ℕ) → among (numbered at ys) v ≡ true → v < at + length ys
numbered_to at [] v h = clash h refl
numbered_to at (y ∷ ys) v h = elim (or_cases (v == at) (among (numbered (suc at) ys) v) h) as (λ _. v < at + length (y ∷ ys)) [
  | inl k ↦ omega (arith, (Decides-eqb v at).0 k)
  | inr k ↦ omega (arith, numbered_to (suc at) ys v k)
]

pub not_numbered : (at : ℕ) (ys : List ℕ) (v : ℕ) → v < at → among (numbered at ys) v ≡ false
not_numbered at ys v l = not_true (among (numbered at ys) v) (λ h. absurd (omega (arith, l, numbered_from at ys v h)))

pub free_numbered : (b : Variables) (at : ℕ) (ys : List ℕ) → ((v : ℕ) → at ≤ v → b v ≡ false) → AreFree b (numbered at ys)
free_numbered b at [] f = tt
free_numbered b at (y ∷ ys) f = (f at (omega (arith)), not_numbered (suc at) ys at (omega (arith)), free_numbered b (suc at) ys (λ v l. f v (omega (arith, l))))

pub free_append : (b : Variables) (xs ys : List ℕ) → AreFree b xs → AreFree b ys → ((v : ℕ) → among xs v ≡ true → among ys v ≡ false) → AreFree b (xs ++ ys)
free_append b [] ys f g h = g
free_append b (x ∷ xs) ys f g h = (
  f.0,
  among_append x xs ys ∙ or_neither (among xs x) (among ys x) f.1 (h x (first_among x xs)),
  free_append b xs ys f.2 g (λ v k. h v (or_right (v == x) (among xs v) k)),
) where
  or_neither : (a c : Bool) → a ≡ false → c ≡ false → (a || c) ≡ false
  or_neither a c p q = cc

-- A place that is written is free, and what stands there is fresh or was there.

pub or_neither : (a c : Bool) → a ≡ false → c ≡ false → (a || c) ≡ false
or_neither a c p q = cc

-- a fresh variable in front of what was free
fresh_free : (b : Variables) (at : ℕ) (rest kept ys : List ℕ) → ((v : ℕ) → at ≤ v → b v ≡ false) → ((v : ℕ) → among kept v ≡ true → v < at)
    → ((v : ℕ) → among rest v ≡ (among kept v || among (numbered (suc at) ys) v)) → AreFree b rest → AreFree b (at ∷ rest)
fresh_free b at rest kept ys f below is free = (
  f at (omega (arith)),
  is at ∙ or_neither (among kept at) (among (numbered (suc at) ys) at) (not_true (among kept at) (λ h. absurd (omega (arith, below at h)))) (not_numbered (suc at) ys at (omega (arith))),
  free,
)

-- one that was there
old_free : (b : Variables) (at x : ℕ) (rest kept ys : List ℕ) → b x ≡ false → among kept x ≡ false → x < at → ((v : ℕ) → among rest v ≡ (among kept v || among (numbered at ys) v)) → AreFree b rest → AreFree b (x ∷ rest)
old_free b at x rest kept ys f apart below is free = (f, is x ∙ or_neither (among kept x) (among (numbered at ys) x) apart (not_numbered at ys x below), free)

pub free_replaced : (b : Variables) (at : ℕ) (xs : List ℕ) (ts : List Bool) → ((v : ℕ) → at ≤ v → b v ≡ false) → ((v : ℕ) → among (untested_places xs ts) v ≡ true → v < at) → AreFree b (untested_places xs ts) → AreFree b (replaced at xs ts)
free_replaced b at [] ts f below free = tt
free_replaced b at (x ∷ xs) [] f below free = free
free_replaced b at (x ∷ xs) (true ∷ ts) f below free =
    fresh_free b at (replaced (suc at) xs ts) (untested_places xs ts) (tested_places xs ts) f below (among_replaced (suc at) xs ts)
    (free_replaced b (suc at) xs ts (λ v l. f v (omega (arith, l))) (λ v h. omega (arith, below v h)) free)
free_replaced b at (x ∷ xs) (false ∷ ts) f below free =
    old_free b at x (replaced at xs ts) (untested_places xs ts) (tested_places xs ts) free.0 free.1 (below x (first_among x (untested_places xs ts))) (among_replaced at xs ts)
    (free_replaced b at xs ts f (λ v h. below v (or_right (v == x) (among (untested_places xs ts) v) h)) free.2)

-- Calls.

pub data Placed : List Arg → List ℕ → List Bool → Type 0 where
  no_place : Placed [] [] []
  input : (is : List Arg) (xs : List ℕ) (ts : List Bool) (x : ℕ) → Placed is xs ts → Placed (Input ∷ is) (x ∷ xs) (false ∷ ts)
  output : (is : List Arg) (xs : List ℕ) (ts : List Bool) (x : ℕ) (t : Bool) → Placed is xs ts → Placed (Output ∷ is) (x ∷ xs) (t ∷ ts)

pub placed : (is : List Arg) (xs : List ℕ) (ts : List Bool) → FitPlaces is xs ts → Placed is xs ts
placed [] [] [] h = no_place
placed [] [] (t ∷ ts) h = absurd h
placed [] (x ∷ xs) ts h = absurd h
placed (Input ∷ is) [] ts h = absurd h
placed (Input ∷ is) (x ∷ xs) [] h = absurd h
placed (Input ∷ is) (x ∷ xs) (true ∷ ts) h = absurd h
placed (Input ∷ is) (x ∷ xs) (false ∷ ts) h = input is xs ts x (placed is xs ts h)
placed (Output ∷ is) [] ts h = absurd h
placed (Output ∷ is) (x ∷ xs) [] h = absurd h
placed (Output ∷ is) (x ∷ xs) (t ∷ ts) h = output is xs ts x t (placed is xs ts h)

pub replaced_length : (at : ℕ) (is : List Arg) (xs : List ℕ) (ts : List Bool) → Placed is xs ts → length is ≡ length (replaced at xs ts)
replaced_length at is xs ts no_place = refl
replaced_length at is xs ts (input js ys us y p) = ap suc (replaced_length at js ys us p)
replaced_length at is xs ts (output js ys us y true p) = ap suc (replaced_length (suc at) js ys us p)
replaced_length at is xs ts (output js ys us y false p) = ap suc (replaced_length at js ys us p)

pub inputs_replaced : (at : ℕ) (is : List Arg) (xs : List ℕ) (ts : List Bool) → Placed is xs ts → inputs_of is (replaced at xs ts) ≡ inputs_of is xs
inputs_replaced at is xs ts no_place = refl
inputs_replaced at is xs ts (input js ys us y p) = ap (λ (l : List ℕ). y ∷ l) (inputs_replaced at js ys us p)
inputs_replaced at is xs ts (output js ys us y true p) = inputs_replaced (suc at) js ys us p
inputs_replaced at is xs ts (output js ys us y false p) = inputs_replaced at js ys us p

pub among_written : (at : ℕ) (is : List Arg) (xs : List ℕ) (ts : List Bool) → Placed is xs ts → (v : ℕ) → among (written_by is (replaced at xs ts)) v ≡ (among (written is xs ts) v || among (numbered at (tested_places xs ts)) v)
among_written at is xs ts no_place v = refl
among_written at is xs ts (input js ys us y p) v = among_written at js ys us p v
among_written at is xs ts (output js ys us y true p) v =
    swap_in (among (written_by js (replaced (suc at) ys us)) v) (among (written js ys us) v) (among (numbered (suc at) (tested_places ys us)) v) (v == at) (among_written (suc at) js ys us p v)
among_written at is xs ts (output js ys us y false p) v =
    pass_by (among (written_by js (replaced at ys us)) v) (among (written js ys us) v) (among (numbered at (tested_places ys us)) v) (v == y) (among_written at js ys us p v)

-- an argument is an input, or what the call writes, or fresh
pub among_arguments : (at : ℕ) (is : List Arg) (xs : List ℕ) (ts : List Bool) → Placed is xs ts → (v : ℕ) → among (replaced at xs ts) v ≡ (among (inputs_of is xs) v || among (written_by is (replaced at xs ts)) v)
among_arguments at is xs ts no_place v = refl
among_arguments at is xs ts (input js ys us y p) v = pass_by (among (replaced at ys us) v) (among (inputs_of js ys) v) (among (written_by js (replaced at ys us)) v) (v == y) (among_arguments at js ys us p v)
among_arguments at is xs ts (output js ys us y true p) v =
    swap_in (among (replaced (suc at) ys us) v) (among (inputs_of js ys) v) (among (written_by js (replaced (suc at) ys us)) v) (v == at) (among_arguments (suc at) js ys us p v)
among_arguments at is xs ts (output js ys us y false p) v =
    swap_in (among (replaced at ys us) v) (among (inputs_of js ys) v) (among (written_by js (replaced at ys us)) v) (v == y) (among_arguments at js ys us p v)

swap_late : (r i w t e : Bool) → r ≡ (i || (w || t)) → (e || r) ≡ (i || (w || (e || t)))
swap_late r true w t true h = refl
swap_late r true w t false h = h
swap_late r false true t true h = refl
swap_late r false true t false h = h
swap_late r false false t e h = ap (λ (k : Bool). e || k) h

pub among_kinds : (is : List Arg) (xs : List ℕ) (ts : List Bool) → Placed is xs ts → (v : ℕ) → among xs v ≡ (among (inputs_of is xs) v || (among (written is xs ts) v || among (tested_places xs ts) v))
among_kinds is xs ts no_place v = refl
among_kinds is xs ts (input js ys us y p) v =
    pass_by (among ys v) (among (inputs_of js ys) v) (among (written js ys us) v || among (tested_places ys us) v) (v == y) (among_kinds js ys us p v)
among_kinds is xs ts (output js ys us y true p) v =
    swap_late (among ys v) (among (inputs_of js ys) v) (among (written js ys us) v) (among (tested_places ys us) v) (v == y) (among_kinds js ys us p v)
among_kinds is xs ts (output js ys us y false p) v =
    swap_in (among ys v) (among (inputs_of js ys) v) (among (written js ys us) v || among (tested_places ys us) v) (v == y) (among_kinds js ys us p v)
    ∙ ap (λ (k : Bool). among (inputs_of js ys) v || k) (sym (or_assoc (v == y) (among (written js ys us) v) (among (tested_places ys us) v)))

pub free_written_by : (b : Variables) (at : ℕ) (is : List Arg) (xs : List ℕ) (ts : List Bool) → Placed is xs ts → ((v : ℕ) → at ≤ v → b v ≡ false) → ((v : ℕ) → among (written is xs ts) v ≡ true → v < at) → AreFree b (written is xs ts)
    → AreFree b (written_by is (replaced at xs ts))
free_written_by b at is xs ts no_place f below free = tt
free_written_by b at is xs ts (input js ys us y p) f below free = free_written_by b at js ys us p f below free
free_written_by b at is xs ts (output js ys us y true p) f below free =
    fresh_free b at (written_by js (replaced (suc at) ys us)) (written js ys us) (tested_places ys us) f below (among_written (suc at) js ys us p)
    (free_written_by b (suc at) js ys us p (λ v l. f v (omega (arith, l))) (λ v h. omega (arith, below v h)) free)
free_written_by b at is xs ts (output js ys us y false p) f below free =
    old_free b at y (written_by js (replaced at ys us)) (written js ys us) (tested_places ys us) free.0 free.1 (below y (first_among y (written js ys us))) (among_written at js ys us p)
    (free_written_by b at js ys us p f (λ v h. below v (or_right (v == y) (among (written js ys us) v) h)) free.2)
