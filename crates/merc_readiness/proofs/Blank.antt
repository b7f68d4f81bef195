-- Any marks of the right number are marks of a goal's parts, and those that say of nothing that it went are right.
use Rattle.std.specs.Prelude.{◌≡◌, ◌<◌, ◌+◌, ℕ, zero, suc, Bool, false, List, [], ◌∷◌, ◌++◌, length, replicate, refl}
use Rattle.std.proofs.Common.{◌∙◌, ap, sym, subst, arith}
use Rattle.std.proofs.lemmas.List.{length-append, replicate-append-replicate}
use Rattle.merc_tree.specs.declared.declarations.ModeDecl.{ModeDecl}
use Rattle.merc_goal_tree.specs.Nodes.{Node, Nodes, Simple, Conjunction, Parallel, Disjunction, Conditional, Negation, Quantified, no_nodes, more_nodes}
use Rattle.merc_goal_tree.specs.Parts.{parts_of, all_parts}
use Rattle.merc_order.specs.Bound.{Bound, with}
use Rattle.merc_order.specs.Marks.{Marked, no_marks, more_marks, move_of, left, IsSound, SoundLeft, SoundEach, SoundBeside}
use Rattle.merc_order.specs.Order.{binds, moves}
use Rattle.merc_order.specs.Ways.{Went, start}
use Rattle.merc_readiness.specs.Asking.{flags_of, joined_by, Fits, none, more, IsMarked}
use Rattle.merc_readiness.proofs.Marking.{parts_length}

-- any marks

record Cut (size : ℕ) (flags : List Bool) : Type 0 where
  pub front : List Bool
  pub own : Bool
  pub back : List Bool
  pub flags_are : flags ≡ front ++ own ∷ back
  pub front_length : length front ≡ size

cut : (size : ℕ) (flags : List Bool) → size < length flags → Cut size flags
cut size [] h = absurd (omega arith)
cut zero (first ∷ rest) h = record { front = []; own = first; back = rest; flags_are = refl; front_length = refl }
cut (suc size) (first ∷ rest) h =
    let c = cut size rest (omega arith) in
    record { front = first ∷ c.front; own = c.own; back = c.back; flags_are = ap (λ l. first ∷ l) c.flags_are; front_length = ap suc c.front_length }

pub record MarksFor (goals : Nodes) (flags : List Bool) : Type 0 where
  pub marked : Marked
  pub fits : Fits goals marked
  pub flags_are : flags ≡ flags_of marked

no_flags : (flags : List Bool) → length flags ≡ 0 → MarksFor no_nodes flags
no_flags [] h = record { marked = no_marks; fits = none; flags_are = refl }
no_flags (first ∷ rest) h = absurd (omega (arith, h))

joined_marks : (first : Node) (rest : Nodes) (flags : List Bool) → length flags ≡ length (all_parts (more_nodes first rest))
    → ((inner : List Bool) → length inner ≡ length (all_parts (joined_by first)) → MarksFor (joined_by first) inner)
    → ((others : List Bool) → length others ≡ length (all_parts rest) → MarksFor rest others) → MarksFor (more_nodes first rest) flags
joined_marks first rest flags h one other =
    let size = parts_length first in
    let whole = length-append (parts_of first) (all_parts rest) in
    let c = cut (length (all_parts (joined_by first))) flags (omega (arith, h, size, whole)) in
    let long : length flags ≡ length (c.front ++ c.own ∷ c.back) = ap length c.flags_are in
    let split = length-append c.front (c.own ∷ c.back) in
    let i = one c.front c.front_length in
    let o = other c.back (omega (arith, h, size, whole, long, split, c.front_length)) in
    record {
      marked = more_marks c.own i.marked o.marked;
      fits = more first rest c.own i.marked o.marked i.fits o.fits;
      flags_are = c.flags_are ∙ ap (λ l. l ++ c.own ∷ c.back) i.flags_are ∙ ap (λ l. flags_of i.marked ++ c.own ∷ l) o.flags_are;
    }

mutual
  pub inner_marks : (goal : Node) (flags : List Bool) → length flags ≡ length (all_parts (joined_by goal)) → MarksFor (joined_by goal) flags
  inner_marks (Simple goal span) flags h = no_flags flags h
  inner_marks (Conjunction goals span) flags h = all_marks goals flags h
  inner_marks (Parallel goals span) flags h = all_marks goals flags h
  inner_marks (Disjunction goals span) flags h = all_marks goals flags h
  inner_marks (Conditional condition then_part else_part span) flags h =
      joined_marks condition (more_nodes then_part (more_nodes else_part no_nodes)) flags h (λ f g. inner_marks condition f g)
      (λ f g. joined_marks then_part (more_nodes else_part no_nodes) f g (λ f g. inner_marks then_part f g)
      (λ f g. joined_marks else_part no_nodes f g (λ f g. inner_marks else_part f g) (λ f g. no_flags f g)))
  inner_marks (Negation goal span) flags h = joined_marks goal no_nodes flags h (λ f g. inner_marks goal f g) (λ f g. no_flags f g)
  inner_marks (Quantified own goal span) flags h = joined_marks goal no_nodes flags h (λ f g. inner_marks goal f g) (λ f g. no_flags f g)

  pub all_marks : (goals : Nodes) (flags : List Bool) → length flags ≡ length (all_parts goals) → MarksFor goals flags
  all_marks no_nodes flags h = no_flags flags h
  all_marks (more_nodes first rest) flags h = joined_marks first rest flags h (λ f g. inner_marks first f g) (λ f g. all_marks rest f g)

-- no marks

abbrev mutual
  pub blank : Node → Marked
  blank (Simple goal span) = no_marks
  blank (Conjunction goals span) = all_blank goals
  blank (Parallel goals span) = all_blank goals
  blank (Disjunction goals span) = all_blank goals
  blank (Conditional condition then_part else_part span) = more_marks false (blank condition) (more_marks false (blank then_part) (more_marks false (blank else_part) no_marks))
  blank (Negation goal span) = more_marks false (blank goal) no_marks
  blank (Quantified own goal span) = more_marks false (blank goal) no_marks

  pub all_blank : Nodes → Marked
  all_blank no_nodes = no_marks
  all_blank (more_nodes first rest) = more_marks false (blank first) (all_blank rest)

mutual
  pub blank_fits : (goal : Node) → Fits (joined_by goal) (blank goal)
  blank_fits (Simple goal span) = none
  blank_fits (Conjunction goals span) = all_blank_fits goals
  blank_fits (Parallel goals span) = all_blank_fits goals
  blank_fits (Disjunction goals span) = all_blank_fits goals
  blank_fits (Conditional condition then_part else_part span) =
      more condition (more_nodes then_part (more_nodes else_part no_nodes)) false (blank condition) (more_marks false (blank then_part) (more_marks false (blank else_part) no_marks)) (blank_fits condition)
      (more then_part (more_nodes else_part no_nodes) false (blank then_part) (more_marks false (blank else_part) no_marks) (blank_fits then_part)
      (more else_part no_nodes false (blank else_part) no_marks (blank_fits else_part) none))
  blank_fits (Negation goal span) = more goal no_nodes false (blank goal) no_marks (blank_fits goal) none
  blank_fits (Quantified own goal span) = more goal no_nodes false (blank goal) no_marks (blank_fits goal) none

  pub all_blank_fits : (goals : Nodes) → Fits goals (all_blank goals)
  all_blank_fits no_nodes = none
  all_blank_fits (more_nodes first rest) = more first rest false (blank first) (all_blank rest) (blank_fits first) (all_blank_fits rest)

two_blank : (a b c d : ℕ) (one other : List Bool) → one ≡ replicate a false → other ≡ replicate b false → c ≡ suc a → d ≡ c + b → one ++ false ∷ other ≡ replicate d false
two_blank a b c d one other e f g h =
    let same : a + suc b ≡ d = omega (arith, g, h) in
    ap (λ l. l ++ false ∷ other) e ∙ ap (λ l. replicate a false ++ false ∷ l) f ∙ replicate-append-replicate a (suc b) false ∙ ap (λ n. replicate n false) same

more_blank : (first : Node) (rest : Nodes) (marks : Marked) → flags_of (blank first) ≡ replicate (length (all_parts (joined_by first))) false → flags_of marks ≡ replicate (length (all_parts rest)) false
    → flags_of (more_marks false (blank first) marks) ≡ replicate (length (all_parts (more_nodes first rest))) false
more_blank first rest marks one other =
    two_blank (length (all_parts (joined_by first))) (length (all_parts rest)) (length (parts_of first)) (length (all_parts (more_nodes first rest))) (flags_of (blank first)) (flags_of marks) one other
    (parts_length first) (length-append (parts_of first) (all_parts rest))

mutual
  pub blank_flags : (goal : Node) → flags_of (blank goal) ≡ replicate (length (all_parts (joined_by goal))) false
  blank_flags (Simple goal span) = refl
  blank_flags (Conjunction goals span) = all_blank_flags goals
  blank_flags (Parallel goals span) = all_blank_flags goals
  blank_flags (Disjunction goals span) = all_blank_flags goals
  blank_flags (Conditional condition then_part else_part span) =
      more_blank condition (more_nodes then_part (more_nodes else_part no_nodes)) (more_marks false (blank then_part) (more_marks false (blank else_part) no_marks)) (blank_flags condition)
      (more_blank then_part (more_nodes else_part no_nodes) (more_marks false (blank else_part) no_marks) (blank_flags then_part) (more_blank else_part no_nodes no_marks (blank_flags else_part) refl))
  blank_flags (Negation goal span) = more_blank goal no_nodes no_marks (blank_flags goal) refl
  blank_flags (Quantified own goal span) = more_blank goal no_nodes no_marks (blank_flags goal) refl

  pub all_blank_flags : (goals : Nodes) → flags_of (all_blank goals) ≡ replicate (length (all_parts goals)) false
  all_blank_flags no_nodes = refl
  all_blank_flags (more_nodes first rest) = more_blank first rest (all_blank rest) (blank_flags first) (all_blank_flags rest)

module _ (total : ℕ → ℕ) (modes : ℕ → List ModeDecl) where
  pub all_left : (goals : Nodes) → left total modes goals (all_blank goals) ≡ moves total modes goals
  all_left no_nodes = refl
  all_left (more_nodes first rest) = ap (λ l. move_of total modes first ∷ l) (all_left rest)

  mutual
    pub blank_sound : (goal : Node) (bound : Bound) → IsSound total modes goal (blank goal) bound
    blank_sound (Simple goal span) bound = tt
    blank_sound (Conjunction goals span) bound =
        (bound, subst (λ l. Went (moves total modes goals) bound l bound) (sym (all_left goals)) (start (moves total modes goals) bound), left_sound goals bound)
    blank_sound (Parallel goals span) bound = beside_sound goals bound
    blank_sound (Disjunction goals span) bound = each_sound goals bound
    blank_sound (Conditional condition then_part else_part span) bound =
        (blank_sound condition bound, blank_sound then_part (with bound (binds total modes condition)), blank_sound else_part bound)
    blank_sound (Negation goal span) bound = blank_sound goal bound
    blank_sound (Quantified own goal span) bound = blank_sound goal bound

    pub left_sound : (goals : Nodes) (bound : Bound) → SoundLeft total modes goals (all_blank goals) bound
    left_sound no_nodes bound = tt
    left_sound (more_nodes first rest) bound = (blank_sound first bound, left_sound rest bound)

    each_sound : (goals : Nodes) (bound : Bound) → SoundEach total modes goals (all_blank goals) bound
    each_sound no_nodes bound = tt
    each_sound (more_nodes first rest) bound = (blank_sound first bound, each_sound rest bound)

    beside_sound : (goals : Nodes) (bound : Bound) → SoundBeside total modes goals (all_blank goals) bound
    beside_sound no_nodes bound = tt
    beside_sound (more_nodes first rest) bound = (blank_sound first bound, beside_sound rest (with bound (binds total modes first)))

  -- a goal of whose parts nothing is known to have gone
  pub marked_blank : (goal : Node) (flags : List Bool) (bound : Bound) (size : ℕ) → flags ≡ replicate size false → size ≡ length (parts_of goal) → IsMarked total modes goal flags bound
  marked_blank goal flags bound size h s = record {
    inner = blank goal;
    went = false;
    fits = blank_fits goal;
    flags_are = h ∙ sym (two_blank (length (all_parts (joined_by goal))) 0 (length (parts_of goal)) size (flags_of (blank goal)) [] (blank_flags goal) refl (parts_length goal)
        (let n : size ≡ length (parts_of goal) + 0 = omega (arith, s) in n));
    sound = blank_sound goal bound;
  }
