-- What a piece of code does over every list of choice points of one length, and how such pieces are joined.
use Rattle.std.proofs.Common.{◌≡◌, ℕ, zero, suc, ◌+◌, ◌<◌, ◌≤◌, Bool, true, false, ◌&&◌, List, [], ◌∷◌, ◌++◌, length, refl, sym, ap, ◌∙◌, subst, arith}
use Rattle.std.proofs.lemmas.List.{append_assoc, length-append}
use Rattle.merc_meaning.specs.Trace.{Env, Done, Raised, TooDeep, RunEnd, RunRaised, LimitPassed}
use Rattle.merc_course.specs.Course.{GoalCourse as Trace, RunCourse as Run, Ends, Tick, Answer, after, each, first_alone, Meets, Meeting, Reply, Courses, cut_all, left_after}
use Rattle.merc_gen.proofs.Depths.{ReachesAll}
use Rattle.merc_code.specs.Steps.{Code, Codes, Caller, ChoicePoint, State, At, Back, Moves, step, mark_at, marked}
use Rattle.merc_code.specs.Meaning.{Yields, YieldAll, moves}

-- so many steps before a run
abbrev pub bulk : ℕ → Run → Run
bulk zero run = run
bulk (suc count) run = bulk count (Tick run)

-- from one state to another with so many steps that count
pub record Comes (codes : Codes) (count : ℕ) (state next : State) : Type 0 where
  pub by : (run : Run) → Yields codes next run → Yields codes state (bulk count run)

-- from one state to a place at which it meets others, with so many steps that count
pub record ComesTo (codes : Codes) (count : ℕ) (state : State) (what : Meeting) (forked : List State) (next : Reply → State) : Type 0 where
  pub by : (courses : Courses RunEnd) (runs : Reply → Run) → YieldAll codes forked courses → ((r : Reply) → Yields codes (next r) (runs r)) → Yields codes state (bulk count (Meets what courses runs))

-- the state behind a goal: values, marks, choice points, steps that are left
abbrev pub Exit : Type 0
Exit = Env → List ℕ → List ChoicePoint → ℕ → State

abbrev pub behind : Code → List Caller → Exit
behind rest callers env marks choices left = At rest env marks callers choices left

-- From the state over any n choice points the machine does what the trace says, j steps being made already. Each answer comes to the exit with new choice points,
-- and going back to these does the rest, with any number of steps that are left.
abbrev pub Runs : Codes → Exit → (List ℕ → Type 0) → (List ChoicePoint → Type 0) → Trace → ℕ → ℕ → ℕ → (List ChoicePoint → State) → Type 0
Runs codes out Ok Left (Ends Done) l n j st = (B : List ChoicePoint) → length B ≡ n → Comes codes j (st B) (Back B l)
Runs codes out Ok Left (Ends (Raised text)) l n j st = (B : List ChoicePoint) → length B ≡ n → Yields codes (st B) (bulk j (Ends (RunRaised text)))
Runs codes out Ok Left (Ends TooDeep) l n j st = Unit {0}
Runs codes out Ok Left (Tick t) zero n j st = (B : List ChoicePoint) → length B ≡ n → Yields codes (st B) (bulk j (Ends LimitPassed))
Runs codes out Ok Left (Tick t) (suc l) n j st = Runs codes out Ok Left t l n (suc j) st
Runs codes out Ok Left (Answer env t) l n j st =
    (X : List ChoicePoint) × (marks : List ℕ) × Left X × Ok marks × ((B : List ChoicePoint) → length B ≡ n → Comes codes j (st B) (out env marks (X ++ B) l))
    × ((l' : ℕ) → Runs codes out Ok Left t l' n 0 (λ B. Back (X ++ B) l'))
Runs codes out Ok Left (Meets what ks f) l n j st =
    (forked : List State) × (next : Reply → List ChoicePoint → State) × (ReachesAll (suc l) ks → YieldAll codes forked (cut_all l ks))
    × ((B : List ChoicePoint) → length B ≡ n → ComesTo codes j (st B) what forked (λ r. next r B))
    × ((r : Reply) → Runs codes out Ok Left (f r) (left_after l r) n 0 (next r))

-- the marks below this one are as before
pub record Keeps (m : ℕ) (before now : List ℕ) : Type 0 where
  pub at : (d : ℕ) → d < m → mark_at now d ≡ mark_at before d

abbrev pub LeavesNone : Bool → List ChoicePoint → Type 0
LeavesNone true X = X ≡ []
LeavesNone false X = Unit {0}

pub keeps-same : (m : ℕ) (before : List ℕ) → Keeps m before before
keeps-same m before = record { at = λ d q. refl }

pub keeps-more : (m m' : ℕ) (a b c : List ℕ) → m ≤ m' → Keeps m a b → Keeps m' b c → Keeps m a c
keeps-more m m' a b c l h g = record { at = λ d q. g.at d (omega (arith, l, q)) ∙ h.at d q }

pub none-if : (b : Bool) (X : List ChoicePoint) → X ≡ [] → LeavesNone b X
none-if true X e = e
none-if false X e = tt

pub both-none : (a b : Bool) (Y X : List ChoicePoint) → LeavesNone b Y → LeavesNone a X → LeavesNone (a && b) (Y ++ X)
both-none true true Y X e f = ap (λ Z. Z ++ X) e ∙ f
both-none true false Y X e f = tt
both-none false b Y X e f = tt

pub none-left : (a b : Bool) (X : List ChoicePoint) → LeavesNone a X → LeavesNone (a && b) X
none-left true true X e = e
none-left true false X e = tt
none-left false b X e = tt

pub none-right : (a b : Bool) (X : List ChoicePoint) → LeavesNone b X → LeavesNone (a && b) X
none-right true b X e = e
none-right false b X e = tt

pub mark_at-marked : (ms : List ℕ) (d n : ℕ) → mark_at (marked ms d n) d ≡ n
mark_at-marked [] zero n = refl
mark_at-marked [] (suc d) n = mark_at-marked [] d n
mark_at-marked (m ∷ ms) zero n = refl
mark_at-marked (m ∷ ms) (suc d) n = mark_at-marked ms d n

pub mark_at-other : (ms : List ℕ) (m n d : ℕ) → d < m → mark_at (marked ms m n) d ≡ mark_at ms d
mark_at-other [] zero n d l = absurd (omega (arith, l))
mark_at-other [] (suc m) n zero l = refl
mark_at-other [] (suc m) n (suc d) l = mark_at-other [] m n d (omega (arith, l))
mark_at-other (x ∷ ms) zero n d l = absurd (omega (arith, l))
mark_at-other (x ∷ ms) (suc m) n zero l = refl
mark_at-other (x ∷ ms) (suc m) n (suc d) l = mark_at-other ms m n d (omega (arith, l))

-- what is kept behind a mark that was set
pub keeps-marked : (m n : ℕ) (marks now : List ℕ) → Keeps (suc m) (marked marks m n) now → Keeps m marks now
keeps-marked m n marks now o = record { at = λ d l. o.at d (omega (arith, l)) ∙ mark_at-other marks m n d l }

pub bulk-bulk : (i j m : ℕ) (t : Run) → m ≡ j + i → bulk j (bulk i t) ≡ bulk m t
bulk-bulk zero j m t e = ap (λ x. bulk x t) (let f : j ≡ m = omega (arith, e) in f)
bulk-bulk (suc i) j m t e =
    bulk-bulk i j (j + i) (Tick t) refl ∙ ap (λ x. bulk x t) (let f : suc (j + i) ≡ m = omega (arith, e) in f)

pub same-state : (codes : Codes) (s s' : State) → s ≡ s' → Comes codes 0 s s'
same-state codes s s' e = record { by = λ t y. subst (λ x. Yields codes x t) (sym e) y }

pub silent : (codes : Codes) (s s' : State) → step codes s ≡ Moves s' → Comes codes 0 s s'
silent codes s s' e = record { by = λ t y. moves s s' t e y }

module _ (codes : Codes) (out : Exit) (Ok : List ℕ → Type 0) where
  -- what comes first, with its steps
  pub late : (Left : List ChoicePoint → Type 0) (t : Trace) (l n i j m : ℕ) (st st' : List ChoicePoint → State) → m ≡ j + i
      → ((B : List ChoicePoint) → length B ≡ n → Comes codes j (st B) (st' B)) → Runs codes out Ok Left t l n i st' → Runs codes out Ok Left t l n m st
  late Left (Ends Done) l n i j m st st' e c r = λ B q. record { by = λ t y. subst (λ x. Yields codes (st B) x) (bulk-bulk i j m t e) ((c B q).by _ ((r B q).by t y)) }
  late Left (Ends (Raised v)) l n i j m st st' e c r = λ B q. subst (λ x. Yields codes (st B) x) (bulk-bulk i j m (Ends (RunRaised v)) e) ((c B q).by _ (r B q))
  late Left (Ends TooDeep) l n i j m st st' e c r = tt
  late Left (Tick t) zero n i j m st st' e c r = λ B q. subst (λ x. Yields codes (st B) x) (bulk-bulk i j m (Ends LimitPassed) e) ((c B q).by _ (r B q))
  late Left (Tick t) (suc l) n i j m st st' e c r = late Left t l n (suc i) j (suc m) st st' (omega (arith, e)) c r
  late Left (Answer env t) l n i j m st st' e c r =
      (r.0, r.1, r.2, r.3, (λ B q. record { by = λ u y. subst (λ x. Yields codes (st B) x) (bulk-bulk i j m u e) ((c B q).by _ ((r.4 B q).by u y)) }), r.5)
  late Left (Meets what ks f) l n i j m st st' e c r =
      (r.0, r.1, r.2, (λ B q. record { by = λ u v y z. subst (λ x. Yields codes (st B) x) (bulk-bulk i j m (Meets what u v) e) ((c B q).by _ ((r.3 B q).by u v y z)) }), r.4)

  -- one answer, and no choice point
  pub one-runs : (Left : List ChoicePoint → Type 0) (env : Env) (marks : List ℕ) (l n j : ℕ) (st : List ChoicePoint → State) → Left [] → Ok marks
      → ((B : List ChoicePoint) → length B ≡ n → Comes codes j (st B) (out env marks B l)) → Runs codes out Ok Left (Answer env (Ends Done)) l n j st
  one-runs Left env marks l n j st w o c = ([], marks, w, o, c, λ l' B q. same-state codes _ _ refl)

  -- t, and behind it u: t runs over X and the rest, u begins at X
  pub after-runs : (L1 L : List ChoicePoint → Type 0) (t u : Trace) (X : List ChoicePoint) (l n n' j : ℕ) (st : List ChoicePoint → State) → n' ≡ length X + n → ((Y : List ChoicePoint) → L1 Y → L (Y ++ X))
      → Runs codes out Ok L1 t l n' j st → ((l' : ℕ) → Runs codes out Ok L u l' n 0 (λ B. Back (X ++ B) l')) → Runs codes out Ok L (after t u) l n j (λ B. st (X ++ B))
  after-runs L1 L (Ends Done) u X l n n' j st e h r g =
      late L u l n 0 j j (λ B. st (X ++ B)) (λ B. Back (X ++ B) l) (omega arith) (λ B q. r (X ++ B) (omega (arith, e, q, length-append X B))) (g l)
  after-runs L1 L (Ends (Raised v)) u X l n n' j st e h r g = λ B q. r (X ++ B) (omega (arith, e, q, length-append X B))
  after-runs L1 L (Ends TooDeep) u X l n n' j st e h r g = tt
  after-runs L1 L (Tick t) u X zero n n' j st e h r g = λ B q. r (X ++ B) (omega (arith, e, q, length-append X B))
  after-runs L1 L (Tick t) u X (suc l) n n' j st e h r g = after-runs L1 L t u X l n n' (suc j) st e h r g
  after-runs L1 L (Answer env t) u X l n n' j st e h r g =
      let Y = r.0 in (
        Y ++ X,
        r.1,
        h Y r.2,
        r.3,
        (λ B q. subst (λ Z. Comes codes j (st (X ++ B)) (out env r.1 Z l)) (sym (append_assoc Y X B)) (r.4 (X ++ B) (omega (arith, e, q, length-append X B)))),
        λ l'. late L (after t u) l' n 0 0 0 (λ B. Back ((Y ++ X) ++ B) l') (λ B. Back (Y ++ (X ++ B)) l') (omega arith)
            (λ B q. same-state codes _ _ (ap (λ Z. Back Z l') (append_assoc Y X B)))
            (after-runs L1 L t u X l' n n' 0 (λ C. Back (Y ++ C) l') e h (r.5 l') g),
      )
  after-runs L1 L (Meets what ks f) u X l n n' j st e h r g =
      (r.0, (λ x B. r.1 x (X ++ B)), r.2, (λ B q. r.3 (X ++ B) (omega (arith, e, q, length-append X B))), λ x. after-runs L1 L (f x) u X (left_after l x) n n' 0 (r.1 x) e h (r.4 x) g)

  -- Of a goal that leaves no choice point the answers after the first are cut by nobody, and no one comes back for them.
  pub alone-runs : (Left : List ChoicePoint → Type 0) → ((X : List ChoicePoint) → Left X → X ≡ []) → (t : Trace) (l n j : ℕ) (st : List ChoicePoint → State)
      → Runs codes out Ok Left t l n j st → Runs codes out Ok Left (first_alone t) l n j st
  alone-runs Left h (Ends Done) l n j st r = r
  alone-runs Left h (Ends (Raised v)) l n j st r = r
  alone-runs Left h (Ends TooDeep) l n j st r = tt
  alone-runs Left h (Tick t) zero n j st r = r
  alone-runs Left h (Tick t) (suc l) n j st r = alone-runs Left h t l n (suc j) st r
  alone-runs Left h (Answer env t) l n j st r =
      (r.0, r.1, r.2, r.3, r.4, λ l' B q. same-state codes _ _ (ap (λ X. Back (X ++ B) l') (h r.0 r.2)))
  alone-runs Left h (Meets what ks f) l n j st r = (r.0, r.1, r.2, r.3, λ x. alone-runs Left h (f x) (left_after l x) n 0 (r.1 x) (r.4 x))

-- behind the goal comes something silent, and less is asked of marks and choice points
pub exit-runs : (codes : Codes) (out1 out : Exit) (Ok1 Ok : List ℕ → Type 0) (L1 L : List ChoicePoint → Type 0)
    → ((env : Env) (marks : List ℕ) (C : List ChoicePoint) (l : ℕ) → Comes codes 0 (out1 env marks C l) (out env marks C l)) → ((marks : List ℕ) → Ok1 marks → Ok marks) → ((X : List ChoicePoint) → L1 X → L X)
    → (t : Trace) (l n j : ℕ) (st : List ChoicePoint → State) → Runs codes out1 Ok1 L1 t l n j st → Runs codes out Ok L t l n j st
exit-runs codes out1 out Ok1 Ok L1 L c o w (Ends Done) l n j st r = r
exit-runs codes out1 out Ok1 Ok L1 L c o w (Ends (Raised v)) l n j st r = r
exit-runs codes out1 out Ok1 Ok L1 L c o w (Ends TooDeep) l n j st r = tt
exit-runs codes out1 out Ok1 Ok L1 L c o w (Tick t) zero n j st r = r
exit-runs codes out1 out Ok1 Ok L1 L c o w (Tick t) (suc l) n j st r = exit-runs codes out1 out Ok1 Ok L1 L c o w t l n (suc j) st r
exit-runs codes out1 out Ok1 Ok L1 L c o w (Answer env t) l n j st r =
    (r.0, r.1, w r.0 r.2, o r.1 r.3, (λ B q. record { by = λ u y. (r.4 B q).by u ((c env r.1 (r.0 ++ B) l).by u y) }), λ l'. exit-runs codes out1 out Ok1 Ok L1 L c o w t l' n 0 _ (r.5 l'))
exit-runs codes out1 out Ok1 Ok L1 L c o w (Meets what ks f) l n j st r =
    (r.0, r.1, r.2, r.3, λ x. exit-runs codes out1 out Ok1 Ok L1 L c o w (f x) (left_after l x) n 0 (r.1 x) (r.4 x))

-- the same exit, and less is asked
pub weaker-runs : (codes : Codes) (out : Exit) (Ok1 Ok : List ℕ → Type 0) (L1 L : List ChoicePoint → Type 0) → ((marks : List ℕ) → Ok1 marks → Ok marks) → ((X : List ChoicePoint) → L1 X → L X)
    → (t : Trace) (l n j : ℕ) (st : List ChoicePoint → State) → Runs codes out Ok1 L1 t l n j st → Runs codes out Ok L t l n j st
weaker-runs codes out Ok1 Ok L1 L o w t l n j st r = exit-runs codes out out Ok1 Ok L1 L (λ env marks C l'. same-state codes _ _ refl) o w t l n j st r

-- each answer is followed by another goal
pub each-runs : (codes : Codes) (out1 out : Exit) (Ok1 Ok : List ℕ → Type 0) (L1 L2 L : List ChoicePoint → Type 0) (f : Env → Trace)
    → ((Y X : List ChoicePoint) → L2 Y → L1 X → L (Y ++ X))
    → ((env : Env) (marks : List ℕ) (l n : ℕ) → Ok1 marks → Runs codes out Ok L2 (f env) l n 0 (λ B. out1 env marks B l))
    → (t : Trace) (l n j : ℕ) (st : List ChoicePoint → State) → Runs codes out1 Ok1 L1 t l n j st → Runs codes out Ok L (each f t) l n j st
each-runs codes out1 out Ok1 Ok L1 L2 L f h g (Ends Done) l n j st r = r
each-runs codes out1 out Ok1 Ok L1 L2 L f h g (Ends (Raised v)) l n j st r = r
each-runs codes out1 out Ok1 Ok L1 L2 L f h g (Ends TooDeep) l n j st r = tt
each-runs codes out1 out Ok1 Ok L1 L2 L f h g (Tick t) zero n j st r = r
each-runs codes out1 out Ok1 Ok L1 L2 L f h g (Tick t) (suc l) n j st r = each-runs codes out1 out Ok1 Ok L1 L2 L f h g t l n (suc j) st r
each-runs codes out1 out Ok1 Ok L1 L2 L f h g (Answer env t) l n j st r =
    late codes out Ok L (after (f env) (each f t)) l n 0 j j st (λ B. out1 env r.1 (r.0 ++ B) l) (omega arith) r.4
    (after-runs codes out Ok L2 L (f env) (each f t) r.0 l n (length r.0 + n) 0 (λ C. out1 env r.1 C l) refl (λ Y a. h Y r.0 a r.2) (g env r.1 l (length r.0 + n) r.3)
    (λ l'. each-runs codes out1 out Ok1 Ok L1 L2 L f h g t l' n 0 (λ B. Back (r.0 ++ B) l') (r.5 l')))
each-runs codes out1 out Ok1 Ok L1 L2 L f h g (Meets what ks t) l n j st r =
    (r.0, r.1, r.2, r.3, λ x. each-runs codes out1 out Ok1 Ok L1 L2 L f h g (t x) (left_after l x) n 0 (r.1 x) (r.4 x))
