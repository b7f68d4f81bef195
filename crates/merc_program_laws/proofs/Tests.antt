-- The tests of fresh variables: what they say of values, and how values pass them.
use Rattle.std.proofs.Common.{◌≡◌, ◌⊎◌, inl, inr, ℕ, suc, ◌<◌, Bool, true, false, ◌==◌, ◌||◌, List, [], ◌∷◌, None, refl, sym, ◌∙◌, arith}
use Rattle.std.proofs.lemmas.Bool.Decides.{Decides-eqb}
use Rattle.std.specs.List.{AllByRecursion}
use Rattle.merc_base.specs.declared.place.Span.{Span}
use Rattle.merc_graded_tree.specs.declared.basic.BasicGoal.TheVariants.{Test}
use Rattle.merc_graded_tree.specs.Nodes.{Node, node, Basic}
use Rattle.merc_graded_tree.specs.Variables.{in_node, in_nodes}
use Rattle.merc_order.specs.Bound.{among}
use Rattle.merc_order.specs.Spelt.{replaced, tested_places, numbered, tests_of}
use Rattle.merc_meaning.specs.Values.{same}
use Rattle.merc_meaning.specs.Truth.{Assignment, IsAssignment, Outside, with, Judgement, assigned, YesAll, NoAny}
use Rattle.merc_meaning.proofs.ValueLaws.{same-decides}
use Rattle.merc_order_laws.proofs.Facts.{clash, or_left}
use Rattle.merc_order_laws.proofs.Replacing.{first_among, numbered_from, not_numbered}
use Rattle.merc_program_laws.proofs.Values.{among_there, decide}
use Rattle.merc_program_laws.proofs.Basics.{set_to, set_here, set_there, value_case, more_both}

-- of each test its fresh variable and the one for which it stands
abbrev pub Each : (ℕ → ℕ → Type 0) → ℕ → List ℕ → Type 0
Each P at [] = Unit {0}
Each P at (x ∷ xs) = P at x × Each P (suc at) xs

pub each_map : (P Q : ℕ → ℕ → Type 0) (at : ℕ) (xs : List ℕ) → ((f x : ℕ) → P f x → Q f x) → Each P at xs → Each Q at xs
each_map P Q at [] w h = tt
each_map P Q at (x ∷ xs) w h = (w at x h.0, each_map P Q (suc at) xs w h.1)

pub each_both : (P Q : ℕ → ℕ → Type 0) (at : ℕ) (xs : List ℕ) → Each P at xs → Each Q at xs → Each (λ f x. P f x × Q f x) at xs
each_both P Q at [] h k = tt
each_both P Q at (x ∷ xs) h k = ((h.0, k.0), each_both P Q (suc at) xs h.1 k.1)

pub each_of : (P : ℕ → Type 0) (at : ℕ) (xs : List ℕ) → AllByRecursion P xs → Each (λ f x. P x) at xs
each_of P at [] h = tt
each_of P at (x ∷ xs) h = (h.0, each_of P (suc at) xs h.1)

-- in a set that has all fresh ones, and in one that has all

pub each_fresh : (all : Outside) (at : ℕ) (xs : List ℕ) → ((v : ℕ) → among (numbered at xs) v ≡ true → all v ≡ true) → Each (λ f x. all f ≡ true) at xs
each_fresh all at [] w = tt
each_fresh all at (x ∷ xs) w = (w at (first_among at (numbered (suc at) xs)), each_fresh all (suc at) xs (λ v h. w v (among_there v at (numbered (suc at) xs) h)))

pub each_in : (all : Outside) (at : ℕ) (xs : List ℕ) → ((v : ℕ) → among (numbered at xs) v ≡ true → all v ≡ true) → ((v : ℕ) → among xs v ≡ true → all v ≡ true) → Each (λ f x. (all f ≡ true) × (all x ≡ true)) at xs
each_in all at [] w u = tt
each_in all at (x ∷ xs) w u = (
  (w at (first_among at (numbered (suc at) xs)), u x (first_among x xs)),
  each_in all (suc at) xs (λ v h. w v (among_there v at (numbered (suc at) xs) h)) (λ v h. u v (among_there v x xs h)),
)

-- each fresh variable has the value of the other
abbrev pub Equal : Assignment → ℕ → List ℕ → Type 0
Equal t at xs = Each (λ f x. t f ≡ t x) at xs

pub equal_assigned : (t : Assignment) (at : ℕ) (xs : List ℕ) (ts : List Bool) → Equal t at (tested_places xs ts) → assigned t (replaced at xs ts) ≡ assigned t xs
equal_assigned t at [] ts h = refl
equal_assigned t at (x ∷ xs) [] h = refl
equal_assigned t at (x ∷ xs) (true ∷ ts) h = more_both h.0 (equal_assigned t (suc at) xs ts h.1)
equal_assigned t at (x ∷ xs) (false ∷ ts) h = more_both refl (equal_assigned t at xs ts h)

-- the fresh variables have the values of the others
abbrev pub twin : ℕ → List ℕ → Assignment → Assignment
twin at [] s = s
twin at (x ∷ xs) s = set_to at (s x) (twin (suc at) xs s)

pub twin_values : (at : ℕ) (xs : List ℕ) (s : Assignment) → IsAssignment s → IsAssignment (twin at xs s)
twin_values at [] s v z = v z
twin_values at (x ∷ xs) s v z = value_case (z == at) (s x) (twin (suc at) xs s z) (v x) (twin_values (suc at) xs s v z)

or_neither : (a b : Bool) → (a || b) ≡ false → (a ≡ false) × (b ≡ false)
or_neither true b h = clash refl h
or_neither false b h = (refl, h)

pub twin_other : (at : ℕ) (xs : List ℕ) (s : Assignment) (v : ℕ) → among (numbered at xs) v ≡ false → twin at xs s v ≡ s v
twin_other at [] s v h = refl
twin_other at (x ∷ xs) s v h =
    set_there at (s x) (twin (suc at) xs s) v (λ e. clash ((Decides-eqb v at).1 e) (or_neither (v == at) (among (numbered (suc at) xs) v) h).0)
    ∙ twin_other (suc at) xs s v (or_neither (v == at) (among (numbered (suc at) xs) v) h).1

equal_from : (s t : Assignment) (at : ℕ) (xs : List ℕ) → ((v : ℕ) → among (numbered at xs) v ≡ true → t v ≡ twin at xs s v) → ((x : ℕ) → among xs x ≡ true → t x ≡ s x) → Equal t at xs
equal_from s t at [] w e = tt
equal_from s t at (x ∷ xs) w e = (
  w at (first_among at (numbered (suc at) xs)) ∙ set_here at (s x) (twin (suc at) xs s) ∙ sym (e x (first_among x xs)),
  equal_from s t (suc at) xs (λ v h. w v (among_there v at (numbered (suc at) xs) h)
      ∙ set_there at (s x) (twin (suc at) xs s) v (λ k. omega (arith, k, numbered_from (suc at) xs v h))) (λ z h. e z (among_there z x xs h)),
)

pub twin_equal : (s : Assignment) (at : ℕ) (xs : List ℕ) → ((x : ℕ) → among xs x ≡ true → x < at) → Equal (twin at xs s) at xs
twin_equal s at xs small = equal_from s (twin at xs s) at xs (λ v h. refl) (λ x h. twin_other at xs s x (not_numbered at xs x (small x h)))

-- both variables of each test occur outside
abbrev pub Held : Outside → ℕ → List ℕ → Type 0
Held o at xs = Each (λ f x. (o f ≡ true) × (o x ≡ true)) at xs

held_more : (o p : Outside) (at : ℕ) (xs : List ℕ) → Held o at xs → Held (with o p) at xs
held_more o p at xs h = each_map (λ f x. (o f ≡ true) × (o x ≡ true)) (λ f x. (with o p f ≡ true) × (with o p x ≡ true)) at xs (λ f x k. (or_left (o f) (p f) k.0, or_left (o x) (p x) k.1)) h

abbrev pub test : ℕ → ℕ → Span → Node
test at x span = node (Basic (Test at x)) [] None span

module _ (y n : Judgement) (span : Span) where
  pub tests_yes : (o : Outside) (at : ℕ) (xs : List ℕ) (t : Assignment) → IsAssignment t → Equal t at xs → YesAll y n o (tests_of at xs span) t
  tests_yes o at [] t v e = tt
  tests_yes o at (x ∷ xs) t v e = ((λ z. z, (t, v, (λ z m. refl), e.0)), tests_yes (with o (in_node (test at x span))) (suc at) xs t v e.1)

  pub tests_equal : (o : Outside) (at : ℕ) (xs : List ℕ) (t : Assignment) → Held o at xs → YesAll y n o (tests_of at xs span) t → Equal t at xs
  tests_equal o at [] t l h = tt
  tests_equal o at (x ∷ xs) t l h = (
    sym (h.0.1.2 at (or_left (o at) (in_nodes (tests_of (suc at) xs span) at) l.0.0)) ∙ h.0.1.3 ∙ h.0.1.2 x (or_left (o x) (in_nodes (tests_of (suc at) xs span) x) l.0.1),
    tests_equal (with o (in_node (test at x span))) (suc at) xs t (held_more o (in_node (test at x span)) (suc at) xs l.1) h.1,
  )

  pub tests_not : (o : Outside) (at : ℕ) (xs : List ℕ) (t : Assignment) → IsAssignment t → Equal t at xs → NoAny y n o (tests_of at xs span) t → ⊥
  tests_not o at [] t v e h = h
  tests_not o at (x ∷ xs) t v e (inl (inl z)) = z
  tests_not o at (x ∷ xs) t v e (inl (inr w)) = w t v (λ z m. refl) e.0
  tests_not o at (x ∷ xs) t v e (inr h) = tests_not (with o (in_node (test at x span))) (suc at) xs t v e.1 h

  decide_step : (o : Outside) (at x : ℕ) (xs : List ℕ) (t : Assignment) → o at ≡ true → o x ≡ true → ((same (t at) (t x) ≡ true) × (t at ≡ t x)) ⊎ ((same (t at) (t x) ≡ false) × (t at ≡ t x → ⊥))
      → Equal t (suc at) xs ⊎ NoAny y n (with o (in_node (test at x span))) (tests_of (suc at) xs span) t
      → Equal t at (x ∷ xs) ⊎ NoAny y n o (tests_of at (x ∷ xs) span) t
  decide_step o at x xs t p q (inl e) (inl r) = inl (e.1, r)
  decide_step o at x xs t p q (inl e) (inr r) = inr (inr r)
  decide_step o at x xs t p q (inr e) r =
      inr (inl (inr (λ u w a k. e.1 (sym (a at (or_left (o at) (in_nodes (tests_of (suc at) xs span) at) p)) ∙ k ∙ a x (or_left (o x) (in_nodes (tests_of (suc at) xs span) x) q)))))

  -- all tests hold, or one is no
  pub decide_tests : (o : Outside) (at : ℕ) (xs : List ℕ) (t : Assignment) → Held o at xs → Equal t at xs ⊎ NoAny y n o (tests_of at xs span) t
  decide_tests o at [] t l = inl tt
  decide_tests o at (x ∷ xs) t l =
      decide_step o at x xs t l.0.0 l.0.1 (decide (same (t at) (t x)) (t at ≡ t x) (same-decides (t at) (t x)))
      (decide_tests (with o (in_node (test at x span))) (suc at) xs t (held_more o (in_node (test at x span)) (suc at) xs l.1))
