-- A tested variable is bound before, or stands at a place before that is not tested; and the modes that calls take.
use Rattle.std.proofs.Common.{◌≡◌, inl, inr, ℕ, Bool, true, false, ◌==◌, ◌||◌, List, [], ◌∷◌, Some, refl, sym, subst, arith}
use Rattle.std.specs.Prelude.{⊤, slice_get}
use Rattle.std.specs.List.{AllByRecursion}
use Rattle.std.proofs.lemmas.Bool.Decides.{Decides-eqb}
use Rattle.merc_tree.specs.declared.declarations.Arg.{Arg}
use Rattle.merc_tree.specs.declared.declarations.Arg.TheVariants.{Input, Output}
use Rattle.merc_tree.specs.declared.declarations.ModeDecl.{ModeDecl}
use Rattle.merc_order.specs.Bound.{Bound, among}
use Rattle.merc_order.specs.CallModes.{taken_from, tested, call_tested}
use Rattle.merc_order.specs.Spelt.{tested_places, untested_places}
use Rattle.merc_meaning.specs.Truth.{Outside}
use Rattle.merc_order_laws.proofs.Facts.{clash, or_cases, either_way}
use Rattle.merc_order_laws.proofs.Groups.{taken_takes}
use Rattle.merc_order_laws.proofs.Replacing.{first_among}
use Rattle.merc_program_laws.proofs.Values.{among_there}
use Rattle.merc_program_laws.proofs.Keeping.{Within}
use Rattle.merc_program_laws.proofs.Grouping.{IsHeld, AreHeld}

kept_first : (b : Bool) (x : ℕ) (xs : List ℕ) (ts : List Bool) → b ≡ false → among (untested_places (x ∷ xs) (b ∷ ts)) x ≡ true
kept_first true x xs ts h = clash refl h
kept_first false x xs ts h = first_among x (untested_places xs ts)

kept_rest : (b : Bool) (x : ℕ) (xs : List ℕ) (ts : List Bool) (v : ℕ) → among (untested_places xs ts) v ≡ true → among (untested_places (x ∷ xs) (b ∷ ts)) v ≡ true
kept_rest true x xs ts v h = h
kept_rest false x xs ts v h = among_there v x (untested_places xs ts) h

tested_first : (P : ℕ → Type 0) (b : Bool) (x : ℕ) (xs : List ℕ) (ts : List Bool) → P x → AllByRecursion P (tested_places xs ts) → AllByRecursion P (tested_places (x ∷ xs) (b ∷ ts))
tested_first P true x xs ts h k = (h, k)
tested_first P false x xs ts h k = k

seen_is : (P : ℕ → Type 0) (seen : Bound) (x : ℕ) (xs : List ℕ) (ts : List Bool) → ((v : ℕ) → seen v ≡ true → P v) → ((v : ℕ) → among (untested_places (x ∷ xs) (seen x ∷ ts)) v ≡ true → P v) → P x
seen_is P seen x xs ts p q = elim (either_way (seen x)) as (λ _. P x) [ inl h ↦ p x h | inr h ↦ q x (kept_first (seen x) x xs ts h) ]

or_seen : (P : ℕ → Type 0) (seen : Bound) (x v : ℕ) → ((v : ℕ) → seen v ≡ true → P v) → P x → (seen v || (v == x)) ≡ true → P v
or_seen P seen x v p h k = elim (or_cases (seen v) (v == x) k) as (λ _. P v) [ inl j ↦ p v j | inr j ↦ subst (λ (z : ℕ). P z) (sym ((Decides-eqb v x).0 j)) h ]

tested_each : (P : ℕ → Type 0) (args : List ℕ) (seen : Bound) → ((v : ℕ) → seen v ≡ true → P v) → ((v : ℕ) → among (untested_places args (tested seen args)) v ≡ true → P v) → AllByRecursion P (tested_places args (tested seen args))
tested_each P [] seen p q = tt
tested_each P (x ∷ xs) seen p q =
    let h : P x = seen_is P seen x xs (tested (λ other. seen other || (other == x)) xs) p q in
    tested_first P (seen x) x xs (tested (λ other. seen other || (other == x)) xs) h
    (tested_each P xs (λ other. seen other || (other == x)) (λ v k. or_seen P seen x v p h k) (λ v k. q v (kept_rest (seen x) x xs (tested (λ other. seen other || (other == x)) xs) v k)))

no_tests : (P : ℕ → Type 0) (args : List ℕ) → AllByRecursion P (tested_places args [])
no_tests P [] = tt
no_tests P (x ∷ xs) = tt

call_tested_each : (P : ℕ → Type 0) (places : List Arg) (args : List ℕ) (seen : Bound) → ((v : ℕ) → seen v ≡ true → P v) → ((v : ℕ) → among (untested_places args (call_tested seen places args)) v ≡ true → P v)
    → AllByRecursion P (tested_places args (call_tested seen places args))
call_tested_each P [] args seen p q = no_tests P args
call_tested_each P (i ∷ is) [] seen p q = tt
call_tested_each P (Input ∷ is) (x ∷ xs) seen p q = call_tested_each P is xs seen p (λ v k. q v (among_there v x (untested_places xs (call_tested seen is xs)) k))
call_tested_each P (Output ∷ is) (x ∷ xs) seen p q =
    let h : P x = seen_is P seen x xs (call_tested (λ other. seen other || (other == x)) is xs) p q in
    tested_first P (seen x) x xs (call_tested (λ other. seen other || (other == x)) is xs) h
    (call_tested_each P is xs (λ other. seen other || (other == x)) (λ v k. or_seen P seen x v p h k) (λ v k. q v (kept_rest (seen x) x xs (call_tested (λ other. seen other || (other == x)) is xs) v k)))

pub held_by : (args : List ℕ) (bound out : Outside) → Within bound out → AreHeld args (tested bound args) out
held_by args bound out w = tested_each (IsHeld args (tested bound args) out) args bound (λ v h. inl (w v h)) (λ v h. inr h)

pub call_held : (places : List Arg) (args : List ℕ) (bound out : Outside) → Within bound out → AreHeld args (call_tested bound places args) out
call_held places args bound out w = call_tested_each (IsHeld args (call_tested bound places args) out) places args bound (λ v h. inl (w v h)) (λ v h. inr h)

-- A call takes a mode of its predicate.

all_are : (ms : List ModeDecl) → AllByRecursion (λ m. ⊤) ms
all_are [] = tt
all_are (m ∷ ms) = (tt, all_are ms)

pub taken_is : (ms : List ModeDecl) (bound : Bound) (args : List ℕ) (t : ℕ × ModeDecl) → taken_from 0 bound args ms ≡ Some t → slice_get ms t.0 ≡ Some t.1
taken_is ms bound args t h =
    let k = taken_takes ms 0 bound args (λ m. ⊤) (all_are ms) t h in
    subst (λ (i : ℕ). slice_get ms i ≡ Some t.1) (omega (arith, k.number_is)) k.is_mode
