-- What is put in the place of a goal and has its truth: it may have fresh variables beside the goal's own.
use Rattle.std.proofs.Common.{◌≡◌, ◌⊎◌, inl, inr, ℕ, true, false, ◌||◌, List, None, refl, ap, sym}
use Rattle.merc_base.specs.declared.place.Span.{Span}
use Rattle.merc_graded_tree.specs.declared.entries.Running.{Running}
use Rattle.merc_graded_tree.specs.Nodes.{Node, node, Goal, Conjunction, Disjunction, Conditional, Negation, Quantified, Nodes, no_nodes, more_nodes}
use Rattle.merc_graded_tree.specs.Variables.{in_goal, in_node, in_nodes}
use Rattle.merc_meaning.specs.Truth.{Assignment, IsAssignment, Outside, with, Judgement, Yes, No, YesGoal, NoGoal, YesAll, NoAll, YesAny, NoAny}
use Rattle.merc_order_laws.proofs.Facts.{clash, or_left, or_right, or_cases, not_true, same_bool}
use Rattle.merc_program_laws.proofs.Basics.{either}
use Rattle.merc_program_laws.proofs.Local.{IsByValues, Around, yes_local, no_local, yes_all, no_any}

-- all of the one is in the other
abbrev pub Within : Outside → Outside → Type 0
Within these those = (v : ℕ) → these v ≡ true → those v ≡ true

-- what may be asked of the variables that occur outside: it stays where there are more
abbrev pub Stays : (Outside → Type 0) → Type 0
Stays ok = (out out' : Outside) → Within out out' → ok out → ok out'

abbrev pub Always : Outside → Type 0
Always out = Unit {0}

pub within_with : (out a b : Outside) → Within a b → Within (with out a) (with out b)
within_with out a b w v m = elim (or_cases (out v) (a v) m) as (λ _. with out b v ≡ true) [ inl h ↦ or_left (out v) (b v) h | inr h ↦ or_right (out v) (b v) (w v h) ]

-- no variable is in both
abbrev pub Misses : Outside → Outside → Type 0
Misses fresh these = (v : ℕ) → fresh v ≡ true → these v ≡ false

-- these with fresh ones
abbrev pub Grown : Outside → Outside → Outside → Type 0
Grown fresh these those = ((v : ℕ) → those v ≡ true → (these v ≡ true) ⊎ (fresh v ≡ true)) × ((v : ℕ) → these v ≡ true → those v ≡ true)

pub misses_with : (f a b : Outside) → Misses f a → Misses f b → Misses f (with a b)
misses_with f a b p q v m = not_true (a v || b v) (λ h. elim (or_cases (a v) (b v) h) as (λ _. ⊥) [ inl k ↦ clash k (p v m) | inr k ↦ clash k (q v m) ])

pub misses_left : (f g a : Outside) → Misses (with f g) a → Misses f a
misses_left f g a p v m = p v (or_left (f v) (g v) m)

pub misses_right : (f g a : Outside) → Misses (with f g) a → Misses g a
misses_right f g a p v m = p v (or_right (f v) (g v) m)

pub misses_turned : (f a : Outside) → Misses f a → Misses a f
misses_turned f a p v m = not_true (f v) (λ h. clash m (p v h))

pub misses_grown : (f g a b : Outside) → Grown g a b → Misses f a → Misses f g → Misses f b
misses_grown f g a b w p q v m = not_true (b v) (λ h. elim (w.0 v h) as (λ _. ⊥) [ inl k ↦ clash k (p v m) | inr k ↦ clash k (q v m) ])

pub grown_with : (f g a b c d : Outside) → Grown f a b → Grown g c d → Grown (with f g) (with a c) (with b d)
grown_with f g a b c d p q = (
  λ v m. elim (or_cases (b v) (d v) m) as (λ _. (with a c v ≡ true) ⊎ (with f g v ≡ true)) [
    | inl h ↦ either (λ k. or_left (a v) (c v) k) (λ k. or_left (f v) (g v) k) (p.0 v h)
    | inr h ↦ either (λ k. or_right (a v) (c v) k) (λ k. or_right (f v) (g v) k) (q.0 v h)
  ],
  λ v m. elim (or_cases (a v) (c v) m) as (λ _. with b d v ≡ true) [ inl h ↦ or_left (b v) (d v) (p.1 v h) | inr h ↦ or_right (b v) (d v) (q.1 v h) ],
)

pub grown_more : (f f' a b : Outside) → Within f f' → Grown f a b → Grown f' a b
grown_more f f' a b w g = (λ v m. either (λ k. k) (λ k. w v k) (g.0 v m), g.1)

around_grown : (out m g a b : Outside) → Grown g a b → Misses m g → Around m (with out a) (with out b)
around_grown out m g a b w p x i = ap (λ c. out x || c) (same_bool (b x) (a x)
    (λ h. elim (w.0 x h) as (λ _. a x ≡ true) [ inl k ↦ k | inr k ↦ clash k (p x i) ]) (λ h. w.1 x h))

-- One way: yes stays yes, and no stays no. Negation turns both round.
module _ (y n y' n' : Judgement) where
  abbrev pub KeepsAt : Outside → Node → Outside → Node → Type 0
  KeepsAt out m out' m' = (s : Assignment) → IsAssignment s → (Yes y n out m s → Yes y' n' out' m' s) × (No y n out m s → No y' n' out' m' s)

  -- of the members of a conjunction, and of a disjunction

  abbrev pub KeepsAllAt : Outside → Nodes → Outside → Nodes → Type 0
  KeepsAllAt out ms out' ms' = (s : Assignment) → IsAssignment s → (YesAll y n out ms s → YesAll y' n' out' ms' s) × (NoAny y n out ms s → NoAny y' n' out' ms' s)

  abbrev pub KeepsEachAt : Outside → Nodes → Nodes → Type 0
  KeepsEachAt out ms ms' = (s : Assignment) → IsAssignment s → (YesAny y n out ms s → YesAny y' n' out ms' s) × (NoAll y n out ms s → NoAll y' n' out ms' s)

  abbrev pub KeepsGoal : Outside → Goal → Goal → Type 0
  KeepsGoal out g g' = (s : Assignment) → IsAssignment s → (YesGoal y n out g s → YesGoal y' n' out g' s) × (NoGoal y n out g s → NoGoal y' n' out g' s)

  pub node_keeps : (g g' : Goal) (outs outs' : List ℕ) (at at' : Span) (out : Outside) → KeepsGoal out g g' → KeepsAt out (node g outs None at) out (node g' outs' None at')
  node_keeps g g' outs outs' at at' out k s v = (
    λ h. (h.0, (h.1.0, h.1.1, h.1.2, (k h.1.0 h.1.1).0 h.1.3)),
    λ h. elim h as (λ _. No y' n' out (node g' outs' None at') s) [ inl z ↦ inl z | inr f ↦ inr (λ t w a. (k t w).1 (f t w a)) ],
  )

  -- a goal among neighbours that grow
  pub member_keeps : IsByValues y → IsByValues n → (m m' : Node) (out a b : Outside) → Around (in_node m) (with out a) (with out b) → KeepsAt (with out b) m (with out b) m' → KeepsAt (with out a) m (with out b) m'
  member_keeps by_y by_n m m' out a b o k s v = (
    λ h. (k s v).0 (yes_local y n by_y by_n m (with out a) (with out b) s s v v o (λ x i j. refl) h),
    λ h. (k s v).1 (no_local y n by_y by_n m (with out a) (with out b) s s v v o (λ x i j. refl) h),
  )

  pub rest_keeps : IsByValues y → IsByValues n → (ms ms' : Nodes) (out a b : Outside) → Around (in_nodes ms) (with out a) (with out b) → KeepsAllAt (with out b) ms (with out b) ms' → KeepsAllAt (with out a) ms (with out b) ms'
  rest_keeps by_y by_n ms ms' out a b o k s v = (
    λ h. (k s v).0 (yes_all y n by_y by_n ms (with out a) (with out b) s s v v o (λ x i. refl) h),
    λ h. (k s v).1 (no_any y n by_y by_n ms (with out a) (with out b) s s v v o (λ x i. refl) h),
  )

  pub more_keeps : (m m' : Node) (ms ms' : Nodes) (out : Outside) → KeepsAt (with out (in_nodes ms)) m (with out (in_nodes ms')) m' → KeepsAllAt (with out (in_node m)) ms (with out (in_node m')) ms' → KeepsAllAt out (more_nodes m ms) out (more_nodes m' ms')
  more_keeps m m' ms ms' out k l s v = (λ h. ((k s v).0 h.0, (l s v).0 h.1), λ h. either ((k s v).1) ((l s v).1) h)

  pub each_keeps : (m m' : Node) (ms ms' : Nodes) (out : Outside) → KeepsAt out m out m' → KeepsEachAt out ms ms' → KeepsEachAt out (more_nodes m ms) (more_nodes m' ms')
  each_keeps m m' ms ms' out k l s v = (λ h. either ((k s v).0) ((l s v).0) h, λ h. ((k s v).1 h.0, (l s v).1 h.1))

  pub if_keeps : (c t e c' t' e' : Node) (out : Outside) → KeepsAt (with out (with (in_node t) (in_node e))) c (with out (with (in_node t') (in_node e'))) c'
      → KeepsAt (with out (with (in_node c) (in_node e))) t (with out (with (in_node c') (in_node e'))) t'
      → KeepsAt (with out (with (in_node c) (in_node t))) e (with out (with (in_node c') (in_node t'))) e'
      → KeepsAt (with out (in_node e)) c (with out (in_node e')) c'
      → KeepsGoal out (Conditional c t e) (Conditional c' t' e')
  if_keeps c t e c' t' e' out kc kt ke kn s v = (
    λ h. either (λ p. ((kc s v).0 p.0, (kt s v).0 p.1)) (λ p. ((ke s v).0 p.0, (kn s v).1 p.1)) h,
    λ h. (either ((kc s v).1) ((kt s v).1) h.0, either ((ke s v).1) ((kn s v).0) h.1),
  )

-- Both ways, where no fresh variable occurs outside, and those do that have to.
module _ (y n y' n' : Judgement) where
  pub record Law (fresh : Outside) (ok : Outside → Type 0) (m m' : Node) : Type 0 where
    pub grown : Grown fresh (in_node m) (in_node m')
    pub there : (out : Outside) → Misses fresh out → ok out → KeepsAt y n y' n' out m out m'
    pub return : (out : Outside) → Misses fresh out → ok out → KeepsAt y' n' y n out m' out m

  pub record LawAll (fresh : Outside) (ok : Outside → Type 0) (ms ms' : Nodes) : Type 0 where
    pub grown : Grown fresh (in_nodes ms) (in_nodes ms')
    pub there : (out : Outside) → Misses fresh out → ok out → KeepsAllAt y n y' n' out ms out ms'
    pub return : (out : Outside) → Misses fresh out → ok out → KeepsAllAt y' n' y n out ms' out ms

  pub record LawEach (fresh : Outside) (ok : Outside → Type 0) (ms ms' : Nodes) : Type 0 where
    pub grown : Grown fresh (in_nodes ms) (in_nodes ms')
    pub there : (out : Outside) → Misses fresh out → ok out → KeepsEachAt y n y' n' out ms ms'
    pub return : (out : Outside) → Misses fresh out → ok out → KeepsEachAt y' n' y n out ms' ms

  pub law_goal : (f : Outside) (ok : Outside → Type 0) (g g' : Goal) (outs outs' : List ℕ) (at at' : Span) → Grown f (in_goal g) (in_goal g') → ((out : Outside) → Misses f out → ok out → KeepsGoal y n y' n' out g g')
      → ((out : Outside) → Misses f out → ok out → KeepsGoal y' n' y n out g' g) → Law f ok (node g outs None at) (node g' outs' None at')
  law_goal f ok g g' outs outs' at at' w t b = record {
    grown = w;
    there = λ out p o. node_keeps y n y' n' g g' outs outs' at at' out (t out p o);
    return = λ out p o. node_keeps y' n' y n g' g outs' outs at' at out (b out p o);
  }

  -- with more fresh variables

  pub law_fresh : (f f' : Outside) (ok : Outside → Type 0) (m m' : Node) → Within f f' → Law f ok m m' → Law f' ok m m'
  law_fresh f f' ok m m' w l = record {
    grown = grown_more f f' (in_node m) (in_node m') w l.grown;
    there = λ out p o. l.there out (λ v k. p v (w v k)) o;
    return = λ out p o. l.return out (λ v k. p v (w v k)) o;
  }

  pub law_all_fresh : (f f' : Outside) (ok : Outside → Type 0) (ms ms' : Nodes) → Within f f' → LawAll f ok ms ms' → LawAll f' ok ms ms'
  law_all_fresh f f' ok ms ms' w l = record {
    grown = grown_more f f' (in_nodes ms) (in_nodes ms') w l.grown;
    there = λ out p o. l.there out (λ v k. p v (w v k)) o;
    return = λ out p o. l.return out (λ v k. p v (w v k)) o;
  }

  pub law_each_fresh : (f f' : Outside) (ok : Outside → Type 0) (ms ms' : Nodes) → Within f f' → LawEach f ok ms ms' → LawEach f' ok ms ms'
  law_each_fresh f f' ok ms ms' w l = record {
    grown = grown_more f f' (in_nodes ms) (in_nodes ms') w l.grown;
    there = λ out p o. l.there out (λ v k. p v (w v k)) o;
    return = λ out p o. l.return out (λ v k. p v (w v k)) o;
  }

  pub law_conjunction : (f : Outside) (ok : Outside → Type 0) (r r' : Running) (ms ms' : Nodes) (outs outs' : List ℕ) (at at' : Span) → LawAll f ok ms ms' → Law f ok (node (Conjunction r ms) outs None at) (node (Conjunction r' ms') outs' None at')
  law_conjunction f ok r r' ms ms' outs outs' at at' l = law_goal f ok (Conjunction r ms) (Conjunction r' ms') outs outs' at at' l.grown (λ out i o s v. l.there out i o s v) (λ out i o s v. l.return out i o s v)

  pub law_disjunction : (f : Outside) (ok : Outside → Type 0) (ms ms' : Nodes) (outs outs' : List ℕ) (at at' : Span) → LawEach f ok ms ms' → Law f ok (node (Disjunction ms) outs None at) (node (Disjunction ms') outs' None at')
  law_disjunction f ok ms ms' outs outs' at at' l = law_goal f ok (Disjunction ms) (Disjunction ms') outs outs' at at' l.grown (λ out i o s v. l.there out i o s v) (λ out i o s v. l.return out i o s v)

  pub law_negation : (f : Outside) (ok : Outside → Type 0) (m m' : Node) (outs outs' : List ℕ) (at at' : Span) → Law f ok m m' → Law f ok (node (Negation m) outs None at) (node (Negation m') outs' None at')
  law_negation f ok m m' outs outs' at at' l =
      law_goal f ok (Negation m) (Negation m') outs outs' at at' l.grown (λ out i o s v. ((l.there out i o s v).1, (l.there out i o s v).0)) (λ out i o s v. ((l.return out i o s v).1, (l.return out i o s v).0))

  pub law_quantified : (f : Outside) (ok : Outside → Type 0) (own own' : List ℕ) (m m' : Node) (outs outs' : List ℕ) (at at' : Span) → Law f ok m m' → Law f ok (node (Quantified own m) outs None at) (node (Quantified own' m') outs' None at')
  law_quantified f ok own own' m m' outs outs' at at' l =
      law_goal f ok (Quantified own m) (Quantified own' m') outs outs' at at' l.grown (λ out i o s v. l.there out i o s v) (λ out i o s v. l.return out i o s v)

  pub law_none : (f : Outside) (ok : Outside → Type 0) → LawAll f ok no_nodes no_nodes
  law_none f ok = record { grown = (λ v h. inl h, λ v h. h); there = λ out p o s v. (λ h. h, λ h. h); return = λ out p o s v. (λ h. h, λ h. h) }

  pub law_no_arm : (f : Outside) (ok : Outside → Type 0) → LawEach f ok no_nodes no_nodes
  law_no_arm f ok = record { grown = (λ v h. inl h, λ v h. h); there = λ out p o s v. (λ h. h, λ h. h); return = λ out p o s v. (λ h. h, λ h. h) }

  -- an arm sees nothing of the others
  pub law_each : (f g : Outside) (ok1 ok2 ok : Outside → Type 0) (m m' : Node) (ms ms' : Nodes) → ((out : Outside) → ok out → ok1 out) → ((out : Outside) → ok out → ok2 out)
      → Law f ok1 m m' → LawEach g ok2 ms ms' → LawEach (with f g) ok (more_nodes m ms) (more_nodes m' ms')
  law_each f g ok1 ok2 ok m m' ms ms' o1 o2 l ls = record {
    grown = grown_with f g (in_node m) (in_node m') (in_nodes ms) (in_nodes ms') l.grown ls.grown;
    there = λ out i o. each_keeps y n y' n' m m' ms ms' out (l.there out (misses_left f g out i) (o1 out o)) (ls.there out (misses_right f g out i) (o2 out o));
    return = λ out i o. each_keeps y' n' y n m' m ms' ms out (l.return out (misses_left f g out i) (o1 out o)) (ls.return out (misses_right f g out i) (o2 out o));
  }

  module _ (by_y : IsByValues y) (by_n : IsByValues n) (by_y' : IsByValues y') (by_n' : IsByValues n') where
    member_there : (f g a b : Outside) (ok : Outside → Type 0) (m m' : Node) → Law f ok m m' → Grown g a b → Misses g (in_node m) → Misses f b → (out : Outside) → Misses f out → ok (with out b) → KeepsAt y n y' n' (with out a) m (with out b) m'
    member_there f g a b ok m m' l w p q out i o =
        member_keeps y n y' n' by_y by_n m m' out a b (around_grown out (in_node m) g a b w (misses_turned g (in_node m) p)) (l.there (with out b) (misses_with f out b i q) o)

    member_return : (f g a b : Outside) (ok : Outside → Type 0) (m m' : Node) → Law f ok m m' → Grown g a b → Misses g (in_node m') → Misses f a → (out : Outside) → Misses f out → ok (with out a) → KeepsAt y' n' y n (with out b) m' (with out a) m
    member_return f g a b ok m m' l w p q out i o =
        member_keeps y' n' y n by_y' by_n' m' m out b a (λ x j. sym (around_grown out (in_node m') g a b w (misses_turned g (in_node m') p) x j)) (l.return (with out a) (misses_with f out a i q) o)

    rest_there : (f g a b : Outside) (ok : Outside → Type 0) (ms ms' : Nodes) → LawAll f ok ms ms' → Grown g a b → Misses g (in_nodes ms) → Misses f b → (out : Outside) → Misses f out → ok (with out b) → KeepsAllAt y n y' n' (with out a) ms (with out b) ms'
    rest_there f g a b ok ms ms' l w p q out i o =
        rest_keeps y n y' n' by_y by_n ms ms' out a b (around_grown out (in_nodes ms) g a b w (misses_turned g (in_nodes ms) p)) (l.there (with out b) (misses_with f out b i q) o)

    rest_return : (f g a b : Outside) (ok : Outside → Type 0) (ms ms' : Nodes) → LawAll f ok ms ms' → Grown g a b → Misses g (in_nodes ms') → Misses f a → (out : Outside) → Misses f out → ok (with out a) → KeepsAllAt y' n' y n (with out b) ms' (with out a) ms
    rest_return f g a b ok ms ms' l w p q out i o =
        rest_keeps y' n' y n by_y' by_n' ms' ms out b a (λ x j. sym (around_grown out (in_nodes ms') g a b w (misses_turned g (in_nodes ms') p) x j)) (l.return (with out a) (misses_with f out a i q) o)

    -- fresh variables of the one are apart from all of the other
    pub law_more : (f g : Outside) (ok1 ok2 ok : Outside → Type 0) (m m' : Node) (ms ms' : Nodes) → Misses f (in_nodes ms) → Misses g (in_node m) → Misses f g → Stays ok1 → Stays ok2
        → ((out : Outside) → ok out → ok1 (with out (in_nodes ms))) → ((out : Outside) → ok out → ok2 (with out (in_node m))) → Law f ok1 m m' → LawAll g ok2 ms ms' → LawAll (with f g) ok (more_nodes m ms) (more_nodes m' ms')
    law_more f g ok1 ok2 ok m m' ms ms' p q r st1 st2 o1 o2 l ls =
        let p' : Misses f (in_nodes ms') = misses_grown f g (in_nodes ms) (in_nodes ms') ls.grown p r in
        let q' : Misses g (in_node m') = misses_grown g f (in_node m) (in_node m') l.grown q (misses_turned f g r) in
        record {
          grown = grown_with f g (in_node m) (in_node m') (in_nodes ms) (in_nodes ms') l.grown ls.grown;
          there = λ out i o. more_keeps y n y' n' m m' ms ms' out
              (member_there f g (in_nodes ms) (in_nodes ms') ok1 m m' l ls.grown q p' out (misses_left f g out i)
              (st1 (with out (in_nodes ms)) (with out (in_nodes ms')) (within_with out (in_nodes ms) (in_nodes ms') ls.grown.1) (o1 out o)))
              (rest_there g f (in_node m) (in_node m') ok2 ms ms' ls l.grown p q' out (misses_right f g out i)
              (st2 (with out (in_node m)) (with out (in_node m')) (within_with out (in_node m) (in_node m') l.grown.1) (o2 out o)));
          return = λ out i o. more_keeps y' n' y n m' m ms' ms out
              (member_return f g (in_nodes ms) (in_nodes ms') ok1 m m' l ls.grown q' p out (misses_left f g out i) (o1 out o))
              (rest_return g f (in_node m) (in_node m') ok2 ms ms' ls l.grown p' q out (misses_right f g out i) (o2 out o));
        }

    pub law_conditional : (f g h : Outside) (okc okt oke ok : Outside → Type 0) (c t e c' t' e' : Node) (outs outs' : List ℕ) (at at' : Span) → Misses f (in_node t) → Misses f (in_node e) → Misses g (in_node c) → Misses g (in_node e) → Misses h (in_node c) → Misses h (in_node t)
        → Misses f g → Misses f h → Misses g h → Stays okc → Stays okt → Stays oke
        → ((out : Outside) → ok out → okc (with out (in_node e))) → ((out : Outside) → ok out → okt (with out (with (in_node c) (in_node e)))) → ((out : Outside) → ok out → oke (with out (with (in_node c) (in_node t))))
        → Law f okc c c' → Law g okt t t' → Law h oke e e' → Law (with f (with g h)) ok (node (Conditional c t e) outs None at) (node (Conditional c' t' e') outs' None at')
    law_conditional f g h okc okt oke ok c t e c' t' e' outs outs' at at' ft fe gc ge hc ht fg fh gh stc stt ste oc ot oe lc lt le =
        let C : Outside = in_node c in
        let T : Outside = in_node t in
        let E : Outside = in_node e in
        let C' : Outside = in_node c' in
        let T' : Outside = in_node t' in
        let E' : Outside = in_node e' in
        let ft' : Misses f T' = misses_grown f g T T' lt.grown ft fg in
        let fe' : Misses f E' = misses_grown f h E E' le.grown fe fh in
        let gc' : Misses g C' = misses_grown g f C C' lc.grown gc (misses_turned f g fg) in
        let ge' : Misses g E' = misses_grown g h E E' le.grown ge gh in
        let hc' : Misses h C' = misses_grown h f C C' lc.grown hc (misses_turned f h fh) in
        let ht' : Misses h T' = misses_grown h g T T' lt.grown ht (misses_turned g h gh) in
        let te : Grown (with g h) (with T E) (with T' E') = grown_with g h T T' E E' lt.grown le.grown in
        let ce : Grown (with f h) (with C E) (with C' E') = grown_with f h C C' E E' lc.grown le.grown in
        let ct : Grown (with f g) (with C T) (with C' T') = grown_with f g C C' T T' lc.grown lt.grown in
        law_goal (with f (with g h)) ok (Conditional c t e) (Conditional c' t' e') outs outs' at at' (grown_with f (with g h) C C' (with T E) (with T' E') lc.grown te)
        (λ out i o. if_keeps y n y' n' c t e c' t' e' out
        (member_there f (with g h) (with T E) (with T' E') okc c c' lc te (misses_turned C (with g h) (misses_with C g h (misses_turned g C gc) (misses_turned h C hc))) (misses_with f T' E' ft' fe') out (misses_left f (with g h) out i)
        (stc (with out E) (with out (with T' E')) (within_with out E (with T' E') (λ v k. or_right (T' v) (E' v) (le.grown.1 v k))) (oc out o)))
        (member_there g (with f h) (with C E) (with C' E') okt t t' lt ce (misses_turned T (with f h) (misses_with T f h (misses_turned f T ft) (misses_turned h T ht))) (misses_with g C' E' gc' ge') out (misses_left g h out (misses_right f (with g h) out i))
        (stt (with out (with C E)) (with out (with C' E')) (within_with out (with C E) (with C' E') ce.1) (ot out o)))
        (member_there h (with f g) (with C T) (with C' T') oke e e' le ct (misses_turned E (with f g) (misses_with E f g (misses_turned f E fe) (misses_turned g E ge))) (misses_with h C' T' hc' ht') out (misses_right g h out (misses_right f (with g h) out i))
        (ste (with out (with C T)) (with out (with C' T')) (within_with out (with C T) (with C' T') ct.1) (oe out o)))
        (member_there f h E E' okc c c' lc le.grown hc fe' out (misses_left f (with g h) out i)
        (stc (with out E) (with out E') (within_with out E E' le.grown.1) (oc out o))))
        (λ out i o. if_keeps y' n' y n c' t' e' c t e out
        (member_return f (with g h) (with T E) (with T' E') okc c c' lc te (misses_turned C' (with g h) (misses_with C' g h (misses_turned g C' gc') (misses_turned h C' hc'))) (misses_with f T E ft fe) out (misses_left f (with g h) out i)
        (stc (with out E) (with out (with T E)) (within_with out E (with T E) (λ v k. or_right (T v) (E v) k)) (oc out o)))
        (member_return g (with f h) (with C E) (with C' E') okt t t' lt ce (misses_turned T' (with f h) (misses_with T' f h (misses_turned f T' ft') (misses_turned h T' ht'))) (misses_with g C E gc ge) out (misses_left g h out (misses_right f (with g h) out i)) (ot out o))
        (member_return h (with f g) (with C T) (with C' T') oke e e' le ct (misses_turned E' (with f g) (misses_with E' f g (misses_turned f E' fe') (misses_turned g E' ge'))) (misses_with h C T hc ht) out (misses_right g h out (misses_right f (with g h) out i)) (oe out o))
        (member_return f h E E' okc c c' lc le.grown hc' fe out (misses_left f (with g h) out i) (oc out o)))
