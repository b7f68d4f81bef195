-- What a placed goal does, from what the goal between its waits and its signals does.
use Rattle.std.proofs.Common.{◌≡◌, ◌⊎◌, inl, inr, ℕ, ◌<◌, Bool, true, false, ◌==◌, List, [], ◌∷◌, length, map, filter, Option, Some, None, refl, ap, sym, subst, ◌∙◌}
use Rattle.merc_base.specs.declared.category.Category.{Category}
use Rattle.merc_base.specs.declared.place.Span.{Span}
use Rattle.merc_tree.specs.declared.declarations.Module.{Module}
use Rattle.merc_graded_tree.specs.declared.basic.Procedure.{Procedure}
use Rattle.merc_graded_tree.specs.Nodes.{Node, node, Goal}
use Rattle.merc_order.specs.Bound.{Bound}
use Rattle.merc_grading.specs.Known.{Known}
use Rattle.merc_order_laws.specs.Bindings.{Variables}
use Rattle.merc_order_laws.proofs.Facts.{clash}
use Rattle.merc_value.specs.Value.{Value}
use Rattle.merc_meaning.specs.Trace.{Env}
use Rattle.merc_meaning.specs.Steps.{value_at}
use Rattle.merc_meaning.specs.Runs.{Program, answers_once}
use Rattle.merc_program_laws.proofs.Values.{Instance}
use Rattle.merc_core.specs.Rights.{has}
use Rattle.merc_core.specs.WellFormed.{AreDistinct}
use Rattle.merc_rights.specs.Rights.{Right, those, signal_at, around}
use Rattle.merc_par_split.specs.Sites.{are_for}
use Rattle.merc_plan.specs.Branch.{HeldSignal, Hold, Fork, Gift, gift_at, BranchCourse, BranchCourses}
use Rattle.merc_plan.specs.Branches.{Plan, once_if as c_once, node_branch}
use Rattle.merc_plan.proofs.Flat.{Flat, Done, Answer, Each, Like, each, once_if}
use Rattle.merc_plan.proofs.Judging.{flat, Sure, Keeps}
use Rattle.merc_plan.proofs.Likes.{like_each, like_once, like_more, each_all, each_answer}
use Rattle.merc_plan.proofs.Flats.{flat_each, sure_each, flat_once, sure_once}
use Rattle.merc_plan.proofs.Holds.{keeps_each, keeps_once, keeps_end}
use Rattle.merc_script_laws.proofs.Bonds.{Set, Counted, Here, signs, rights_for, Within, AllUsed, Fit, After, Match, Names, Moves, Ends, here_or, Parts, Used, Rightful}
use Rattle.merc_script_laws.proofs.RightLists.{variables_of, not_not, not_for, those_in, those_parts}
use Rattle.merc_script_laws.proofs.Steps.{always, unused, Waits, IsIn, AreApart, not_in_more, moves_waited, after_waited, after_same}
use Rattle.merc_script_laws.proofs.Holding.{Waitable, waitable, Sends, sends_none, moves_sent}
use Rattle.merc_script_laws.proofs.Around.{waits_none, in_turn, waiting, sending, waits_flat, StillWaits, waits_keeps, AreHere, signals_flat, signals_sure, Counts, Sent, signals_keeps}

-- rights in two parts, which have no variable in common
pub record Divides (w w1 w2 : List Right) : Type 0 where
  pub parts : Parts w w1 w2
  pub in1 : IsIn w1 w
  pub in2 : IsIn w2 w
  pub apart : AreApart w1 w2

pub divides_first : (w : List Right) → Divides w w []
divides_first w = record { parts = λ x h. inl h; in1 = λ x h. h; in2 = λ x h. clash h refl; apart = λ x h k. clash k refl }

pub divides_second : (w : List Right) → Divides w [] w
divides_second w = record { parts = λ x h. inr h; in1 = λ x h. clash h refl; in2 = λ x h. h; apart = λ x h k. clash h refl }

pub divides_those : (p : ℕ → Bool) (w : List Right) → Divides w (those p w) (those (unused p) w)
divides_those p w = record {
  parts = those_parts p w;
  in1 = λ x h. (those_in p w x h).0;
  in2 = λ x h. (those_in (unused p) w x h).0;
  apart = λ x h k. clash (those_in p w x h).1 (not_not (p x) (those_in (unused p) w x k).1);
}

none_of : (s some : List Right) → IsIn some s → ((x : ℕ) → are_for s x ≡ false) → (x : ℕ) → are_for some x ≡ false
none_of s some i k x = not_in_more x some s i (k x)

pub fit_less : (b : Bound) (here : Set) (w some : List Right) (hold : Hold) → IsIn some w → AreDistinct (variables_of some) → Fit b here w hold → Fit b here some hold
fit_less b here w some hold i d f = record { held = f.held; below = f.below; owed = λ x h. f.owed x (i x h); known = f.known; once = d }

pub match_less : (w some : List Right) (hold : Hold) (full : Env) → IsIn some w → Match w hold full → Match some hold full
match_less w some hold full i t = record { same = t.same; comes = λ x c o h e. t.comes x c o (i x h) e }

-- Given are the plan and the program, with the courses of its calls.
module _ (plan : Plan) (program : Program) (call : Procedure → Hold → BranchCourse) where
  -- a goal of these outputs, which is answered once where its category is so
  module _ (goal : Goal) (outs : List ℕ) (category : Option Category) (span : Span) where
    abbrev inner : Node
    inner = node goal outs category span

    abbrev once : Bool
    once = answers_once outs category

    abbrev course : Hold → BranchCourse
    course hold = node_branch plan program call inner hold

    abbrev then_signals : List Right → Hold → BranchCourse
    then_signals s hold = in_turn plan program call span (inner ∷ map (signal_at span) s) hold

    -- The waits w1 stand before it and the rights to wait w2 go into it; the signals s1 stand behind it and the rights to signal s2 go into it.
    module _ (here : Set) (w w1 w2 s s1 s2 : List Right) (later : ℕ → Bool) (hold : Hold) (wd : Divides w w1 w2) (sd : Divides s s1 s2) where
      abbrev Answers : Env → Hold → Env → Type 0
      Answers full = Ends full here w s later outs hold

      abbrev Inside : Env → Hold → Hold → Env → Type 0
      Inside full hold1 = Ends full (here_or here w1) w2 s2 later outs hold1

      moves_inside : (hold1 e e1 : Hold) → Moves here w1 [] always [] hold hold1 → Moves (here_or here w1) w2 s2 later outs hold1 e → Sends e e1 → (((x : ℕ) → are_for s1 x ≡ false) → e1.signals ≡ e.signals) → ((x : ℕ) → are_for s1 x ≡ false → signs x e1 ≡ signs x e)
          → Moves here w s later outs hold e1
      moves_inside hold1 e e1 m n p still others =
          moves_sent here w s s2 later outs hold e e1 (λ k. (none_of s s2 sd.in2 k, still (none_of s s1 sd.in1 k))) (λ x h. (not_in_more x s2 s sd.in2 h, others x (not_in_more x s1 s sd.in1 h)))
          (moves_waited_by m n) p where
            moves_waited_by : Moves here w1 [] always [] hold hold1 → Moves (here_or here w1) w2 s2 later outs hold1 e → Moves here w s2 later outs hold e
            moves_waited_by m n = moves_waited (λ x. false) here w w1 w2 hold hold1 wd.parts wd.in1 wd.in2 wd.apart s2 later outs e m n

      ends_inside : (full : Env) (hold1 e e1 : Hold) (f : Env) → Moves here w1 [] always [] hold hold1 → Sends e e1 → (((x : ℕ) → are_for s1 x ≡ false) → e1.signals ≡ e.signals) → ((x : ℕ) → are_for s1 x ≡ false → signs x e1 ≡ signs x e) → Inside full hold1 e f → Answers full e1 f
      ends_inside full hold1 e e1 f m p still others k = (moves_inside hold1 e e1 m k.0 p still others, ((λ x v h. k.1.0 x v (sym (ap (λ n. value_at n x) p.env) ∙ h)), k.1.1))

      wrapped : (Holds : Fork → BranchCourses → Type 0) (full : Env) (u : Flat Env) → once_if once u ≡ u → (t : BranchCourse) → Like (Answers full) (flat t) u × Sure Holds t → Like (Answers full) (flat (c_once once t)) u × Sure Holds (c_once once t)
      wrapped Holds full u o t h = (
        subst (λ x. Like (Answers full) x u) (sym (flat_once Holds once t h.1)) (subst (λ x. Like (Answers full) (once_if once (flat t)) x) o (like_once (Answers full) once (flat t) u h.0)),
        sure_once Holds once t h.1,
      )

      -- signals behind change neither steps nor answers
      signalled : (Holds : Fork → BranchCourses → Type 0) → Names hold → Counted s hold → ((x : ℕ) → are_for s1 x ≡ true → rights_for x s1 ≡ rights_for x s) → (full : Env) (u : Flat Env) → Within s outs → (hold1 : Hold) → Moves here w1 [] always [] hold hold1 → Like (Inside full hold1) (flat (course hold1)) u × Sure Holds (course hold1)
          → Like (Answers full) (flat (then_signals s1 hold1)) u × Sure Holds (then_signals s1 hold1)
      signalled Holds names counted all full u within hold1 m a = (
        subst (λ z. Like (Answers full) z u) (sym (flat_each Holds (λ e. sending plan program call span s1 e) (course hold1) all_sure a.1))
            (subst (λ z. Like (Answers full) (each (λ e. flat (sending plan program call span s1 e)) (flat (course hold1))) z) (each_answer u)
            (like_each (Inside full hold1) (Answers full) (λ e. flat (sending plan program call span s1 e)) (λ f. Answer f Done) one (flat (course hold1)) u a.0)),
        sure_each Holds (λ e. sending plan program call span s1 e) (course hold1) all_sure a.1,
      ) where
        all_sure : Each (λ e. Sure Holds (sending plan program call span s1 e)) (flat (course hold1))
        all_sure = each_all (λ e. Sure Holds (sending plan program call span s1 e)) (λ e. signals_sure plan program call span Holds s1 e) (flat (course hold1))

        one : (e : Hold) (f : Env) → Inside full hold1 e f → Like (Answers full) (flat (sending plan program call span s1 e)) (Answer f Done)
        one e f k =
            let g = signals_flat plan program call span s1 e (k.0.names (m.names names))
            (λ x h. ap length (all x h) ∙ counted x (sd.in1 x h) ∙ ap length (sym (k.0.unsigned x (not_for s2 x (λ j. sd.apart x h j)) ∙ m.unsigned x refl))) (λ x h. k.0.fresh x (within x (sd.in1 x h))) in
            subst (λ z. Like (Answers full) z (Answer f Done)) (sym g.is_flat) (ends_inside full hold1 e g.hold1 f m g.sends g.still g.unsigned k, tt)

      pub around_along : (Holds : Fork → BranchCourses → Type 0) → Names hold → Counted s hold → ((x : ℕ) → are_for s1 x ≡ true → rights_for x s1 ≡ rights_for x s) → (b : Bound) (full : Env) (u : Flat Env) → Within s outs → once_if once u ≡ u → Waitable hold → Fit b here w hold → AreDistinct (variables_of w1) → Match w hold full
          → ((hold1 : Hold) → Waits here w1 hold hold1 → Like (Inside full hold1) (flat (course hold1)) u × Sure Holds (course hold1))
          → (v z : List Right) → v ≡ w1 → z ≡ s1
          → Like (Answers full) (flat (node_branch plan program call (around v z inner) hold)) u × Sure Holds (node_branch plan program call (around v z inner) hold)
      around_along Holds names counted all b full u within o can f d t goes [] [] p q =
          let m = subst (λ n. Waits here n hold hold) p (waits_none here hold) in
          let a = goes hold m in
          (like_more (Inside full hold) (Answers full) (λ e g k. ends_inside full hold e e g m.moves (sends_none e) (λ n. refl) (λ x h. refl) k) (flat (course hold)) u a.0, a.1)
      around_along Holds names counted all b full u within o can f d t goes [] (r ∷ z) p q =
          let m = subst (λ n. Waits here n hold hold) p (waits_none here hold) in
          subst (λ n. Like (Answers full) (flat (c_once once (then_signals n hold))) u × Sure Holds (c_once once (then_signals n hold))) (sym q)
          (wrapped Holds full u o (then_signals s1 hold) (signalled Holds names counted all full u within hold m.moves (goes hold m)))
      around_along Holds names counted all b full u within o can f d t goes (r ∷ v) z p q =
          let f1 = subst (λ n. Fit b here n hold) (sym p) (fit_less b here w w1 hold wd.in1 d f) in
          let t1 = subst (λ n. Match n hold full) (sym p) (match_less w w1 hold full wd.in1 t) in
          let a = waits_flat plan program call span (r ∷ v) b here hold full (inner ∷ map (signal_at span) z) can f1 t1 in
          let m = subst (λ n. Waits here n hold a.hold1) p a.waits in
          let k = subst (λ n. Like (Answers full) (flat (then_signals n a.hold1)) u × Sure Holds (then_signals n a.hold1)) (sym q) (signalled Holds names counted all full u within a.hold1 m.moves (goes a.hold1 m)) in
          wrapped Holds full u o (waiting plan program call span (r ∷ v) (inner ∷ map (signal_at span) z) hold)
          (subst (λ y. Like (Answers full) y u) (sym a.is_flat) k.0, a.is_sure Holds k.1)

      -- What is so of variables behind it, where these occur in it.
      module _ (known : Module) (types i : Instance) (out : Variables) (b : Bound) (occurs : Variables) (seen seen1 : Known) (never : Type 0) (proper : ℕ → Value → Type 0) (rights : ℕ → Bool) (held : List ℕ) (g : List Gift)
          (names : Names hold) (f : Fit b here w hold) (q : Rightful w s outs rights held g hold) (used : AllUsed w1 occurs) (d : AreDistinct (variables_of w1)) (whole : (x : ℕ) → are_for s1 x ≡ true → rights_for x s1 ≡ rights_for x s)
          (is_proper : (x c : ℕ) (v : Value) (e : Hold) → are_for s x ≡ true → has c (signs x hold) ≡ true → Here e x v → After known types i out b outs occurs seen seen1 hold e → (never → ⊥) → proper c v) where
        abbrev Gone : Hold → Hold → Type 0
        Gone = After known types i out b outs occurs seen seen1

        abbrev Result : List ℕ → List Gift → Hold → Type 0
        Result = Used (Gone hold) never here w s later outs hold held g

        abbrev Within1 : Hold → List ℕ → List ℕ → List Gift → Hold → Type 0
        Within1 hold1 held1 = Used (Gone hold1) never (here_or here w1) w2 s2 later outs hold1 held1 g

        -- the rights to signal are as they were before the waits
        signs_before : (hold1 : Hold) → Waits here w1 hold hold1 → (x : ℕ) → signs x hold1 ≡ signs x hold
        signs_before hold1 p x = ap (λ (l : List HeldSignal). map (λ (right : HeldSignal). right.cell) (filter (λ (right : HeldSignal). right.variable == x) l)) p.signals

        module _ (hold1 : Hold) (held1 : List ℕ) (p : Waits here w1 hold hold1) (still : StillWaits plan program call span w1 hold held held1) (held2 : List ℕ) (g2 : List Gift) (e : Hold) (u : Within1 hold1 held1 held2 g2 e) where
          low : (c : ℕ) → c < hold.next → c < hold1.next
          low c l = subst (λ n. c < n) (sym p.moves.next) l

          signs_first : (x : ℕ) → are_for s1 x ≡ true → signs x e ≡ signs x hold
          signs_first x h = u.unsigned x (not_for s2 x (λ k. sd.apart x h k)) ∙ signs_before hold1 p x

          signs_back : (x c : ℕ) → has c (signs x e) ≡ true → has c (signs x hold) ≡ true
          signs_back x c h = subst (λ l. has c l ≡ true) (signs_before hold1 p x) (u.moves.signed x c h)

          not_inside : (x c : ℕ) → are_for s1 x ≡ true → has c (signs x hold) ≡ true → (y : ℕ) → are_for s2 y ≡ true → has c (signs y hold1) ≡ true → ⊥
          not_inside x c h k y j l = sd.apart x h (subst (λ n. are_for s2 n ≡ true) (sym (names.apart x y c k (subst (λ m. has c m ≡ true) (signs_before hold1 p y) l))) j)

          are_here : AreHere plan program call span s1 e
          are_here x h = u.moves.fresh x (q.within x (sd.in1 x h))

          counts : Counts plan program call span s1 e
          counts x h = ap length (whole x h) ∙ q.counts x (sd.in1 x h) ∙ ap length (sym (signs_first x h))

          may : (x c : ℕ) → are_for s1 x ≡ true → has c (signs x e) ≡ true → (rights c ≡ true) × (gift_at c g2 ≡ None)
          may x c h k =
              let j = signs_back x c k in
              let r = q.to_signal x c (sd.in1 x h) j in
              (r.0, u.left c (low c (names.low x c j)) (λ y i l. not_inside x c h j y i l) ∙ r.1)

          behind : Gone hold e
          behind = after_waited b here w w1 w2 hold hold1 wd.parts wd.in1 wd.in2 wd.apart known types i out occurs seen used outs seen1 e p u.behind

          results : (e1 : Hold) (g3 : List Gift) → Sent plan program call span s1 e g2 e1 g3 → Result held2 g3 e1
          results e1 g3 z = record {
            moves = moves_inside hold1 e e1 p.moves u.moves z.sends z.still z.unsigned;
            kept = λ c l h n. u.kept c (low c l) (still c h (λ x o j k. n x o (wd.in1 x j) k)) (λ x o j k. n x o (wd.in2 x j) (p.moves.old x c o k));
            gave = λ x c h k. gave x c (sd.parts x h) k;
            left = λ c l n. z.left c (λ x j k. n x (sd.in1 x j) (signs_back x c k)) ∙ u.left c (low c l) (λ x j k. n x (sd.in2 x j) (subst (λ m. has c m ≡ true) (signs_before hold1 p x) k));
            signed = λ x h. signed x (sd.parts x h);
            unsigned = λ x h. z.unsigned x (not_in_more x s1 s sd.in1 h) ∙ u.unsigned x (not_in_more x s2 s sd.in2 h) ∙ signs_before hold1 p x;
            behind = after_same known types i out b outs occurs seen seen1 hold e e1 z.sends.env behind;
            reached = u.reached;
          } where
            at : (x : ℕ) (v : Value) → Here e x v → Here e1 x v
            at x v h = ap (λ n. value_at n x) z.sends.env ∙ h

            gave : (x c : ℕ) → (are_for s1 x ≡ true) ⊎ (are_for s2 x ≡ true) → has c (signs x hold) ≡ true → (v : Value) × ((gift_at c g3 ≡ Some (Some v)) × Here e1 x v)
            gave x c (inl h) k = let v = z.gave x c h (subst (λ m. has c m ≡ true) (sym (signs_first x h)) k) in (v.0, (v.1.0, at x v.0 v.1.1))
            gave x c (inr h) k =
                let v = u.gave x c h (subst (λ m. has c m ≡ true) (sym (signs_before hold1 p x)) k) in
                (v.0, (z.left c (λ y j l. not_inside y c j (signs_back y c l) x h (subst (λ m. has c m ≡ true) (sym (signs_before hold1 p x)) k)) ∙ v.1.0, at x v.0 v.1.1))

            signed : (x : ℕ) → (are_for s1 x ≡ true) ⊎ (are_for s2 x ≡ true) → signs x e1 ≡ []
            signed x (inl h) = z.signed x h
            signed x (inr h) = z.unsigned x (not_for s1 x (λ k. sd.apart x k h)) ∙ u.signed x h

        with_signals : (hold1 : Hold) (held1 : List ℕ) → Waits here w1 hold hold1 → StillWaits plan program call span w1 hold held held1 → Keeps proper (Within1 hold1 held1) rights held1 g (course hold1)
            → Keeps proper Result rights held1 g (then_signals s1 hold1)
        with_signals hold1 held1 p still k =
            keeps_each proper Result rights (Within1 hold1 held1) (λ e. sending plan program call span s1 e)
            (λ held2 g2 e u. signals_keeps plan program call span proper Result rights held2 s1 e g2 (u.moves.names (p.moves.names names)) (are_here hold1 held1 p still held2 g2 e u) (counts hold1 held1 p still held2 g2 e u)
            (λ x c v h j l. is_proper x c v e (sd.in1 x h) (signs_back hold1 held1 p still held2 g2 e u x c j) l (behind hold1 held1 p still held2 g2 e u) u.reached)
            (may hold1 held1 p still held2 g2 e u) (λ e1 g3 z. results hold1 held1 p still held2 g2 e u e1 g3 z))
            (course hold1) held1 g k

        pub around_uses : ((hold1 : Hold) (held1 : List ℕ) → Waits here w1 hold hold1 → StillWaits plan program call span w1 hold held held1 → Keeps proper (Within1 hold1 held1) rights held1 g (course hold1))
            → (v z : List Right) → v ≡ w1 → z ≡ s1 → Keeps proper Result rights held g (node_branch plan program call (around v z inner) hold)
        around_uses goes [] [] m n =
            let p = subst (λ y. Waits here y hold hold) m (waits_none here hold) in
            let still : StillWaits plan program call span w1 hold held held = λ c h k. h in
            keeps_end proper Result (Within1 hold held) rights
            (λ held2 g2 e u. results hold held p still held2 g2 e u e g2 (subst (λ y. Sent plan program call span y e g2 e g2) n (sent_none e g2)))
            (course hold) held g (goes hold held p still) where
              sent_none : (e : Hold) (g2 : List Gift) → Sent plan program call span [] e g2 e g2
              sent_none e g2 = record { sends = sends_none e; gave = λ x c h k. clash h refl; left = λ c k. refl; signed = λ x h. clash h refl; unsigned = λ x h. refl; still = λ k. refl }
        around_uses goes [] (r ∷ z) m n =
            let p = subst (λ y. Waits here y hold hold) m (waits_none here hold) in
            let still : StillWaits plan program call span w1 hold held held = λ c h k. h in
            keeps_once proper Result rights once (then_signals (r ∷ z) hold) held g
            (subst (λ y. Keeps proper Result rights held g (then_signals y hold)) (sym n) (with_signals hold held p still (goes hold held p still)))
        around_uses goes (r ∷ v) z m n =
            keeps_once proper Result rights once (waiting plan program call span (r ∷ v) (inner ∷ map (signal_at span) z) hold) held g
            (waits_keeps plan program call span proper Result rights (r ∷ v) b here hold (inner ∷ map (signal_at span) z) held g (waitable hold names)
            (subst (λ y. Fit b here y hold) (sym m) (fit_less b here w w1 hold wd.in1 d f))
            (λ x c o h e. q.to_wait x c o (wd.in1 x (subst (λ y. are_for y x ≡ true) m h)) e)
            (λ hold1 held1 p still.
            let p1 = subst (λ y. Waits here y hold hold1) m p in
            let still1 = subst (λ y. StillWaits plan program call span y hold held held1) m still in
            subst (λ y. Keeps proper Result rights held1 g (then_signals y hold1)) (sym n) (with_signals hold1 held1 p1 still1 (goes hold1 held1 p1 still1))))
