-- Outputs, and what goals that hold no others write.
use Rattle.std.proofs.Common.{◌≡◌, inl, inr, ℕ, suc, Bool, true, false, not, ◌==◌, ◌||◌, ◌&&◌, if◌then◌else◌, List, [], ◌∷◌, length, filter, Option, Some, None, nat_lt, slice_get, ◌+◌, arith, refl, ap, sym, subst, ◌∙◌}
use Rattle.std.proofs.lemmas.Bool.Decides.{Decides-eqb}
use Rattle.std.specs.List.{AllByRecursion}
use Rattle.merc_tree.specs.declared.declarations.Arg.{Arg}
use Rattle.merc_tree.specs.declared.declarations.Arg.TheVariants.{Input, Output}
use Rattle.merc_tree.specs.declared.declarations.ModeDecl.{ModeDecl}
use Rattle.merc_order.specs.Bound.{among, are_bound}
use Rattle.merc_order.specs.CallModes.{tested, call_tested, inputs_of, width, wider, taken_from}
use Rattle.merc_order.specs.Order.{outside, outputs}
use Rattle.merc_order.specs.Spelt.{tested_places, untested_places, written}
use Rattle.merc_order_laws.specs.Bindings.{Variables, AreBound, AreFree, Binds}
use Rattle.merc_order_laws.specs.GoodOrdered.{FitPlaces}
use Rattle.merc_order_laws.specs.Laws.{Outer}
use Rattle.merc_order_laws.proofs.Facts.{clash, or_left, or_right, or_cases, and_left, and_right, not_true, or_assoc, among_filter, among_once, free_once}

behind_case : (h bd k o b : Bool) → (bd ≡ true → h ≡ true) → (h ≡ true → o ≡ true) → k ≡ b → (b || (h && (bd && (not k && o)))) ≡ (k || bd)
behind_case h bd k o true p q e = cc
behind_case true true k o false p q e = let i : o ≡ true = q refl in cc
behind_case true false k o false p q e = cc
behind_case false true k o false p q e = clash (p refl) refl
behind_case false false k o false p q e = cc

module _ (total : ℕ → ℕ) (modes : ℕ → List ModeDecl) where
  pub among_outputs : (bound : Variables) (inside : List ℕ) (binding : Variables) (v : ℕ) → among (outputs total modes bound inside binding) v ≡ (among inside v && (binding v && (not (bound v) && outside total modes inside v)))
  among_outputs bound inside binding v =
      among_once v (filter (λ variable. binding variable && (not (bound variable) && outside total modes inside variable)) inside)
      ∙ among_filter v (λ variable. binding variable && (not (bound variable) && outside total modes inside variable)) inside

  free_case : (b f o : Bool) → (b && (not f && o)) ≡ true → f ≡ false
  free_case true false o h = refl
  free_case true true o h = clash h refl
  free_case false f o h = clash h refl

  -- outputs are free before, and stand once each
  pub outs_free : (bound b : Variables) (inside : List ℕ) (binding : Variables) → ((v : ℕ) → among inside v ≡ true → bound v ≡ b v) → AreFree b (outputs total modes bound inside binding)
  outs_free bound b inside binding e = free_once b (filter (λ variable. binding variable && (not (bound variable) && outside total modes inside variable)) inside) (λ v h.
      let q : (among inside v && (binding v && (not (bound v) && outside total modes inside v))) ≡ true =
      sym (among_filter v (λ variable. binding variable && (not (bound variable) && outside total modes inside variable)) inside) ∙ h in
      sym (e v (and_left (among inside v) (binding v && (not (bound v) && outside total modes inside v)) q))
      ∙ free_case (binding v) (bound v) (outside total modes inside v) (and_right (among inside v) (binding v && (not (bound v) && outside total modes inside v)) q))

  pub outs_in : (bound : Variables) (inside : List ℕ) (binding : Variables) (v : ℕ) → among (outputs total modes bound inside binding) v ≡ true → among inside v ≡ true
  outs_in bound inside binding v h =
      and_left (among inside v) (binding v && (not (bound v) && outside total modes inside v)) (sym (among_outputs bound inside binding v) ∙ h)

  -- behind a goal with these outputs all is binding that was, or that it binds, where it occurs outside
  pub behind_node : (bound out b : Variables) (inside : List ℕ) (binding : Variables) → Outer total out inside → ((v : ℕ) → binding v ≡ true → among inside v ≡ true)
      → (v : ℕ) → out v ≡ true → bound v ≡ b v → (b v || among (outputs total modes bound inside binding) v) ≡ (bound v || binding v)
  behind_node bound out b inside binding o w v i e =
      ap (λ (k : Bool). b v || k) (among_outputs bound inside binding v)
      ∙ behind_case (among inside v) (binding v) (bound v) (outside total modes inside v) (b v) (w v) (λ h. sym (o.0 v h) ∙ i) e

  -- a goal that binds all its variables
  pub binds_all : (bound out b b' : Variables) (inside : List ℕ) → Outer total out inside → ((v : ℕ) → among inside v ≡ true → bound v ≡ b v) → ((v : ℕ) → among inside v ≡ true → b' v ≡ true)
      → Binds out (λ v. among inside v) b (outputs total modes bound inside (λ v. among inside v)) b'
  binds_all bound out b b' inside o e f v h i =
      f v h ∙ sym (behind_node bound out b inside (λ v. among inside v) o (λ v h. h) v i (e v h) ∙ or_right (bound v) (among inside v) h)

-- Tested places.

here : (x : ℕ) → (x == x) ≡ true
here x = (Decides-eqb x x).1 refl

pub places_bound : (b : Variables) (ys : List ℕ) (ts : List Bool) → ((v : ℕ) → among ys v ≡ true → b v ≡ true) → AreBound b (tested_places ys ts)
places_bound b [] ts f = tt
places_bound b (x ∷ xs) [] f = tt
places_bound b (x ∷ xs) (true ∷ ts) f = (f x (or_left (x == x) (among xs x) (here x)), places_bound b xs ts (λ v h. f v (or_right (v == x) (among xs v) h)))
places_bound b (x ∷ xs) (false ∷ ts) f = places_bound b xs ts (λ v h. f v (or_right (v == x) (among xs v) h))

seen_same : (seen : Variables) (b : Bool) (v x : ℕ) → seen x ≡ b → (v == x) ≡ true → seen v ≡ b
seen_same seen b v x e h = subst (λ (z : ℕ). seen z ≡ b) (sym ((Decides-eqb v x).0 h)) e

all_case : (s e k r : Bool) → ((s || e) || k) ≡ ((s || e) || r) → (s || (e || k)) ≡ (s || (e || r))
all_case s e k r h = sym (or_assoc s e k) ∙ h ∙ or_assoc s e r

all_known : (s e k r : Bool) → (e ≡ true → s ≡ true) → ((s || e) || k) ≡ ((s || e) || r) → (s || k) ≡ (s || (e || r))
all_known true e k r f h = refl
all_known false true k r f h = clash (f refl) refl
all_known false false k r f h = h

tested_all_case : (b : Bool) (x : ℕ) (xs : List ℕ) (ts : List Bool) (seen : Variables) (v : ℕ) → seen x ≡ b → ((seen v || (v == x)) || among (untested_places xs ts) v) ≡ ((seen v || (v == x)) || among xs v)
    → (seen v || among (untested_places (x ∷ xs) (b ∷ ts)) v) ≡ (seen v || ((v == x) || among xs v))
tested_all_case true x xs ts seen v e h = all_known (seen v) (v == x) (among (untested_places xs ts) v) (among xs v) (seen_same seen true v x e) h
tested_all_case false x xs ts seen v e h = all_case (seen v) (v == x) (among (untested_places xs ts) v) (among xs v) h

pub tested_all : (ys : List ℕ) (seen : Variables) (v : ℕ) → (seen v || among (untested_places ys (tested seen ys)) v) ≡ (seen v || among ys v)
tested_all [] seen v = refl
tested_all (x ∷ xs) seen v = tested_all_case (seen x) x xs (tested (λ other. seen other || (other == x)) xs) seen v refl (tested_all xs (λ other. seen other || (other == x)) v)

or_not_left : (a b : Bool) → (a || b) ≡ false → a ≡ false
or_not_left true b h = h
or_not_left false b h = refl

new_case : (b : Bool) (x : ℕ) (xs : List ℕ) (ts : List Bool) (seen : Variables) (v : ℕ) → seen x ≡ b → (among (untested_places xs ts) v ≡ true → (seen v || (v == x)) ≡ false) → among (untested_places (x ∷ xs) (b ∷ ts)) v ≡ true → seen v ≡ false
new_case true x xs ts seen v e f h = or_not_left (seen v) (v == x) (f h)
new_case false x xs ts seen v e f h = elim (or_cases (v == x) (among (untested_places xs ts) v) h) as (λ _. seen v ≡ false) [
  | inl k ↦ seen_same seen false v x e k
  | inr k ↦ or_not_left (seen v) (v == x) (f k)
]

tested_new : (ys : List ℕ) (seen : Variables) (v : ℕ) → among (untested_places ys (tested seen ys)) v ≡ true → seen v ≡ false
tested_new [] seen v h = clash h refl
tested_new (x ∷ xs) seen v h = new_case (seen x) x xs (tested (λ other. seen other || (other == x)) xs) seen v refl (tested_new xs (λ other. seen other || (other == x)) v) h

new_free : (s : Bool) (b : Variables) (x : ℕ) (xs : List ℕ) (ts : List Bool) → (s ≡ false → b x ≡ false) → among (untested_places xs ts) x ≡ false → AreFree b (untested_places xs ts) → AreFree b (untested_places (x ∷ xs) (s ∷ ts))
new_free true b x xs ts f g h = h
new_free false b x xs ts f g h = (f refl, g, h)

pub tested_free : (ys : List ℕ) (seen b : Variables) → ((v : ℕ) → among ys v ≡ true → seen v ≡ false → b v ≡ false) → AreFree b (untested_places ys (tested seen ys))
tested_free [] seen b f = tt
tested_free (x ∷ xs) seen b f =
    let ts : List Bool = tested (λ other. seen other || (other == x)) xs in
    new_free (seen x) b x xs (tested (λ other. seen other || (other == x)) xs) (f x (or_left (x == x) (among xs x) (here x)))
    (not_true (among (untested_places xs (tested (λ other. seen other || (other == x)) xs)) x) (λ h. clash (or_right (seen x) (x == x) (here x)) (tested_new xs (λ other. seen other || (other == x)) x h)))
    (tested_free xs (λ other. seen other || (other == x)) b (λ v h k. f v (or_right (v == x) (among xs v) h) (or_not_left (seen v) (v == x) k)))

-- Calls: as many arguments and tests as places.

-- as many arguments as places
abbrev pub SameLength : List Arg → List ℕ → Type 0
SameLength [] [] = Unit {0}
SameLength [] (x ∷ xs) = ⊥
SameLength (place ∷ places) [] = ⊥
SameLength (place ∷ places) (x ∷ xs) = SameLength places xs

suc_is : (a b : ℕ) → suc a ≡ suc b → a ≡ b
suc_is a b h = cc

pub same_length : (is : List Arg) (ys : List ℕ) → length is ≡ length ys → SameLength is ys
same_length [] [] h = tt
same_length [] (x ∷ xs) h = absurd cc
same_length (i ∷ is) [] h = absurd cc
same_length (i ∷ is) (x ∷ xs) h = same_length is xs (suc_is (length is) (length xs) h)

pub call_fits_places : (is : List Arg) (ys : List ℕ) (seen : Variables) → SameLength is ys → FitPlaces is ys (call_tested seen is ys)
call_fits_places [] [] seen l = tt
call_fits_places [] (x ∷ xs) seen l = absurd l
call_fits_places (i ∷ is) [] seen l = absurd l
call_fits_places (Input ∷ is) (x ∷ xs) seen l = call_fits_places is xs seen l
call_fits_places (Output ∷ is) (x ∷ xs) seen l = call_fits_places is xs (λ other. seen other || (other == x)) l

written_all_case : (b : Bool) (is : List Arg) (x : ℕ) (xs : List ℕ) (ts : List Bool) (seen : Variables) (v : ℕ) → seen x ≡ b → ((seen v || (v == x)) || among (written is xs ts) v) ≡ ((seen v || (v == x)) || among xs v)
    → (seen v || among (written (Output ∷ is) (x ∷ xs) (b ∷ ts)) v) ≡ (seen v || ((v == x) || among xs v))
written_all_case true is x xs ts seen v e h = all_known (seen v) (v == x) (among (written is xs ts) v) (among xs v) (seen_same seen true v x e) h
written_all_case false is x xs ts seen v e h = all_case (seen v) (v == x) (among (written is xs ts) v) (among xs v) h

input_case : (s e k r : Bool) → (e ≡ true → s ≡ true) → (s || k) ≡ (s || r) → (s || k) ≡ (s || (e || r))
input_case true e k r f h = refl
input_case false true k r f h = clash (f refl) refl
input_case false false k r f h = h

pub written_all : (is : List Arg) (ys : List ℕ) (seen : Variables) (v : ℕ) → SameLength is ys → ((x : ℕ) → among (inputs_of is ys) x ≡ true → seen x ≡ true)
    → (seen v || among (written is ys (call_tested seen is ys)) v) ≡ (seen v || among ys v)
written_all [] [] seen v l f = refl
written_all [] (x ∷ xs) seen v l f = absurd l
written_all (i ∷ is) [] seen v l f = absurd l
written_all (Input ∷ is) (x ∷ xs) seen v l f =
    input_case (seen v) (v == x) (among (written is xs (call_tested seen is xs)) v) (among xs v) (λ h. seen_same seen true v x (f x (or_left (x == x) (among (inputs_of is xs) x) (here x))) h)
    (written_all is xs seen v l (λ z h. f z (or_right (z == x) (among (inputs_of is xs) z) h)))
written_all (Output ∷ is) (x ∷ xs) seen v l f =
    written_all_case (seen x) is x xs (call_tested (λ other. seen other || (other == x)) is xs) seen v refl
    (written_all is xs (λ other. seen other || (other == x)) v l (λ z h. or_left (seen z) (z == x) (f z h)))

written_new_case : (b : Bool) (is : List Arg) (x : ℕ) (xs : List ℕ) (ts : List Bool) (seen : Variables) (v : ℕ) → seen x ≡ b → (among (written is xs ts) v ≡ true → (seen v || (v == x)) ≡ false) → among (written (Output ∷ is) (x ∷ xs) (b ∷ ts)) v ≡ true → seen v ≡ false
written_new_case true is x xs ts seen v e f h = or_not_left (seen v) (v == x) (f h)
written_new_case false is x xs ts seen v e f h = elim (or_cases (v == x) (among (written is xs ts) v) h) as (λ _. seen v ≡ false) [
  | inl k ↦ seen_same seen false v x e k
  | inr k ↦ or_not_left (seen v) (v == x) (f k)
]

written_new : (is : List Arg) (ys : List ℕ) (seen : Variables) (v : ℕ) → among (written is ys (call_tested seen is ys)) v ≡ true → seen v ≡ false
written_new [] ys seen v h = clash h refl
written_new (i ∷ is) [] seen v h = clash h refl
written_new (Input ∷ is) (x ∷ xs) seen v h = written_new is xs seen v h
written_new (Output ∷ is) (x ∷ xs) seen v h = written_new_case (seen x) is x xs (call_tested (λ other. seen other || (other == x)) is xs) seen v refl (written_new is xs (λ other. seen other || (other == x)) v) h

written_free_case : (s : Bool) (is : List Arg) (b : Variables) (x : ℕ) (xs : List ℕ) (ts : List Bool) → (s ≡ false → b x ≡ false) → among (written is xs ts) x ≡ false → AreFree b (written is xs ts) → AreFree b (written (Output ∷ is) (x ∷ xs) (s ∷ ts))
written_free_case true is b x xs ts f g h = h
written_free_case false is b x xs ts f g h = (f refl, g, h)

pub written_free : (is : List Arg) (ys : List ℕ) (seen b : Variables) → ((v : ℕ) → among ys v ≡ true → seen v ≡ false → b v ≡ false) → AreFree b (written is ys (call_tested seen is ys))
written_free [] ys seen b f = tt
written_free (i ∷ is) [] seen b f = tt
written_free (Input ∷ is) (x ∷ xs) seen b f = written_free is xs seen b (λ v h k. f v (or_right (v == x) (among xs v) h) k)
written_free (Output ∷ is) (x ∷ xs) seen b f =
    written_free_case (seen x) is b x xs (call_tested (λ other. seen other || (other == x)) is xs) (f x (or_left (x == x) (among xs x) (here x)))
    (not_true (among (written is xs (call_tested (λ other. seen other || (other == x)) is xs)) x) (λ h. clash (or_right (seen x) (x == x) (here x)) (written_new is xs (λ other. seen other || (other == x)) x h)))
    (written_free is xs (λ other. seen other || (other == x)) b (λ v h k. f v (or_right (v == x) (among xs v) h) (or_not_left (seen v) (v == x) k)))

pub all_bound : (bound b : Variables) (ys : List ℕ) → are_bound bound ys ≡ true → ((v : ℕ) → among ys v ≡ true → bound v ≡ b v) → AreBound b ys
all_bound bound b [] h f = tt
all_bound bound b (y ∷ ys) h f =
    (sym (f y (or_left (y == y) (among ys y) (here y))) ∙ and_left (bound y) (are_bound bound ys) h, all_bound bound b ys (and_right (bound y) (are_bound bound ys) h) (λ v k. f v (or_right (v == y) (among ys v) k)))

pub bound_in : (bound : Variables) (ys : List ℕ) → are_bound bound ys ≡ true → (v : ℕ) → among ys v ≡ true → bound v ≡ true
bound_in bound [] h v k = clash k refl
bound_in bound (y ∷ ys) h v k = elim (or_cases (v == y) (among ys v) k) as (λ _. bound v ≡ true) [
  | inl j ↦ subst (λ (z : ℕ). bound z ≡ true) (sym ((Decides-eqb v y).0 j)) (and_left (bound y) (are_bound bound ys) h)
  | inr j ↦ bound_in bound ys (and_right (bound y) (are_bound bound ys) h) v j
]

pub inputs_in : (is : List Arg) (ys : List ℕ) (v : ℕ) → among (inputs_of is ys) v ≡ true → among ys v ≡ true
inputs_in [] ys v h = clash h refl
inputs_in (i ∷ is) [] v h = clash h refl
inputs_in (Input ∷ is) (x ∷ xs) v h = elim (or_cases (v == x) (among (inputs_of is xs) v) h) as (λ _. among (x ∷ xs) v ≡ true) [
  | inl k ↦ or_left (v == x) (among xs v) k
  | inr k ↦ or_right (v == x) (among xs v) (inputs_in is xs v k)
]
inputs_in (Output ∷ is) (x ∷ xs) v h = or_right (v == x) (among xs v) (inputs_in is xs v h)

-- The mode that a call takes is the one of its number, and has its inputs bound and what all modes have.

pub record Takes (bound : Variables) (args : List ℕ) (P : ModeDecl → Type 0) (ms : List ModeDecl) (number : ℕ) (t : ℕ × ModeDecl) : Type 0 where
  pub offset : ℕ
  pub number_is : t.0 ≡ number + offset
  pub is_mode : slice_get ms offset ≡ Some t.1
  pub inputs_bound : are_bound bound (inputs_of t.1.args args) ≡ true
  pub has_all : P t.1

takes_later : (bound : Variables) (args : List ℕ) (P : ModeDecl → Type 0) (m : ModeDecl) (ms : List ModeDecl) (number : ℕ) (t : ℕ × ModeDecl) → Takes bound args P ms (suc number) t → Takes bound args P (m ∷ ms) number t
takes_later bound args P m ms number t k = record {
  offset = suc k.offset;
  number_is = k.number_is ∙ omega (arith);
  is_mode = k.is_mode;
  inputs_bound = k.inputs_bound;
  has_all = k.has_all;
}

wider_takes : (Q : ℕ × ModeDecl → Type 0) (number : ℕ) (m : ModeDecl) (o : Option (ℕ × ModeDecl)) → Q (number, m) → ((t : ℕ × ModeDecl) → o ≡ Some t → Q t) → Q (wider number m o)
wider_takes Q number m None h f = h
wider_takes Q number m (Some other) h f = pick (nat_lt (width m.args) (width other.1.args)) where
  pick : (b : Bool) → Q (if b then other else (number, m))
  pick true = f other refl
  pick false = h

some_same : (a b : ℕ × ModeDecl) → Some a ≡ Some b → a ≡ b
some_same a b h = cc

pick_mode : (Q : ℕ × ModeDecl → Type 0) (b : Bool) (number : ℕ) (m : ModeDecl) (o : Option (ℕ × ModeDecl)) (t : ℕ × ModeDecl) → (b ≡ true → Q (number, m)) → ((u : ℕ × ModeDecl) → o ≡ Some u → Q u) → (if b then Some (wider number m o) else o) ≡ Some t → Q t
pick_mode Q true number m o t k f h = subst (λ (z : ℕ × ModeDecl). Q z) (some_same (wider number m o) t h) (wider_takes Q number m o (k refl) f)
pick_mode Q false number m o t k f h = f t h

pub taken_takes : (ms : List ModeDecl) (number : ℕ) (bound : Variables) (args : List ℕ) (P : ModeDecl → Type 0) → AllByRecursion P ms → (t : ℕ × ModeDecl) → taken_from number bound args ms ≡ Some t → Takes bound args P ms number t
taken_takes [] number bound args P e t h = absurd cc
taken_takes (m ∷ ms) number bound args P e t h =
    pick_mode (Takes bound args P (m ∷ ms) number) (are_bound bound (inputs_of m.args args)) number m (taken_from (suc number) bound args ms) t
    (λ k. record { offset = 0; number_is = omega (arith); is_mode = refl; inputs_bound = k; has_all = e.0 })
    (λ u q. takes_later bound args P m ms number u (taken_takes ms (suc number) bound args P e.1 u q)) h
