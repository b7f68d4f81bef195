-- How marks and facts of parts lie: those of a goal's parts in a row, the goal's own the last.
use Rattle.std.specs.Prelude.{◌≡◌, ◌+◌, ◌-◌, ℕ, suc, Bool, List, [], ◌∷◌, ◌++◌, length, take, drop, refl}
use Rattle.std.specs.List.{slice_range, slice_index_or}
use Rattle.std.proofs.Common.{◌∙◌, ap, sym, subst, arith}
use Rattle.std.proofs.lemmas.List.{length-append, append_assoc, append-nil, take_at, drop_at, get_or_at}
use borrow.Rule.Slice.PartMut.{put_mid}
use Rattle.merc_tree.specs.declared.declarations.ModeDecl.{ModeDecl}
use Rattle.merc_goal_tree.specs.Nodes.{Node, Nodes, Simple, Conjunction, Parallel, Disjunction, Conditional, Negation, Quantified, no_nodes, more_nodes}
use Rattle.merc_goal_tree.specs.Parts.{parts_of, all_parts}
use Rattle.merc_order.specs.Marks.{Marked}
use Rattle.merc_goal_facts.specs.Facts.{AreKnown, subgoals, all_subgoals, AreFactsOf}
use Rattle.merc_goal_facts.specs.declared.facts.Facts.{Facts}
use Rattle.merc_readiness.specs.Asking.{flags_of, joined_by, Fits, none, more}

pub parts_length : (goal : Node) → length (parts_of goal) ≡ suc (length (all_parts (joined_by goal)))
parts_length (Simple goal span) = refl
parts_length (Conjunction goals span) = simp length-append (omega arith)
parts_length (Parallel goals span) = simp length-append (omega arith)
parts_length (Disjunction goals span) = simp length-append (omega arith)
parts_length (Conditional condition then_part else_part span) = simp length-append (omega arith)
parts_length (Negation goal span) = simp length-append (omega arith)
parts_length (Quantified own goal span) = simp length-append (omega arith)

pub fits_length : (goals : Nodes) (marked : Marked) → Fits goals marked → length (flags_of marked) ≡ length (all_parts goals)
fits_length goals marked none = refl
fits_length goals marked (more first rest went inner others f o) =
    let one = fits_length (joined_by first) inner f in
    let two = fits_length rest others o in
    let own = parts_length first in
    simp length-append (omega arith)

-- the marks of a goal are as many as its parts
pub marks_length : (goal : Node) (inner : Marked) (went : Bool) → Fits (joined_by goal) inner → length (flags_of inner ++ went ∷ []) ≡ length (parts_of goal)
marks_length goal inner went fits =
    let one = fits_length (joined_by goal) inner fits in
    let own = parts_length goal in
    simp length-append (omega arith)

pub subgoals_end : (goal : Node) → subgoals goal ≡ all_subgoals (joined_by goal) ++ goal ∷ []
subgoals_end (Simple goal span) = refl
subgoals_end (Conjunction goals span) = refl
subgoals_end (Parallel goals span) = refl
subgoals_end (Disjunction goals span) = refl
subgoals_end (Conditional condition then_part else_part span) =
    ap (λ l. l ++ Conditional condition then_part else_part span ∷ [])
    (append_assoc (subgoals condition) (subgoals then_part) (subgoals else_part) ∙ ap (λ l. subgoals condition ++ (subgoals then_part ++ l)) (sym (append-nil (subgoals else_part))))
subgoals_end (Negation goal span) = ap (λ l. l ++ Negation goal span ∷ []) (sym (append-nil (subgoals goal)))
subgoals_end (Quantified own goal span) = ap (λ l. l ++ Quantified own goal span ∷ []) (sym (append-nil (subgoals goal)))

mutual
  pub subgoals_length : (goal : Node) → length (subgoals goal) ≡ length (parts_of goal)
  subgoals_length (Simple goal span) = refl
  subgoals_length (Conjunction goals span) = let same = all_subgoals_length goals in simp length-append (omega arith)
  subgoals_length (Parallel goals span) = let same = all_subgoals_length goals in simp length-append (omega arith)
  subgoals_length (Disjunction goals span) = let same = all_subgoals_length goals in simp length-append (omega arith)
  subgoals_length (Conditional condition then_part else_part span) =
      let one = subgoals_length condition in
      let two = subgoals_length then_part in
      let three = subgoals_length else_part in
      simp length-append (omega arith)
  subgoals_length (Negation goal span) = let same = subgoals_length goal in simp length-append (omega arith)
  subgoals_length (Quantified own goal span) = let same = subgoals_length goal in simp length-append (omega arith)

  pub all_subgoals_length : (goals : Nodes) → length (all_subgoals goals) ≡ length (all_parts goals)
  all_subgoals_length no_nodes = refl
  all_subgoals_length (more_nodes first rest) =
      let one = subgoals_length first in
      let others = all_subgoals_length rest in
      simp length-append (omega arith)

-- a stretch in the middle

pub middle : {X : Type 0} (front mid back : List X) (start end : ℕ) → length front ≡ start → start + length mid ≡ end → slice_range (front ++ (mid ++ back)) start end ≡ mid
middle front mid back start end f m = ap (λ l. take (end - start) l) (drop_at front (mid ++ back) start f) ∙ take_at mid back (end - start) (omega arith)

pub put_middle : {X : Type 0} (front mid back new : List X) (start size : ℕ) → length front ≡ start → length mid ≡ size
    → put_mid start size (front ++ (mid ++ back)) new ≡ front ++ (new ++ back)
put_middle front mid back new start size f m =
    ap (λ l. l ++ (new ++ drop size (drop start (front ++ (mid ++ back))))) (take_at front (mid ++ back) start f)
    ∙ ap (λ l. front ++ (new ++ drop size l)) (drop_at front (mid ++ back) start f)
    ∙ ap (λ l. front ++ (new ++ l)) (drop_at mid back size m)

pub own_mark : (front inner : List Bool) (went : Bool) (back : List Bool) (at : ℕ) (default : Bool) → length front + length inner ≡ at
    → slice_index_or (front ++ ((inner ++ went ∷ []) ++ back)) at default ≡ went
own_mark front inner went back at default h =
    ap (λ l. slice_index_or (front ++ l) at default) (append_assoc inner (went ∷ []) back)
    ∙ ap (λ l. slice_index_or l at default) (sym (append_assoc front inner (went ∷ back)))
    ∙ get_or_at (front ++ inner) went back default at (length-append front inner ∙ h)

-- facts of the parts, cut as the parts are

module _ (total : ℕ → ℕ) (modes : ℕ → List ModeDecl) where
  pub record KnownParts (first rest : List Node) (facts : List Facts) : Type 0 where
    pub front : List Facts
    pub back : List Facts
    pub facts_are : facts ≡ front ++ back
    pub first_known : AreKnown total modes first front
    pub rest_known : AreKnown total modes rest back

  pub known_split : (first rest : List Node) (facts : List Facts) → AreKnown total modes (first ++ rest) facts → KnownParts first rest facts
  known_split [] rest facts known = record { front = []; back = facts; facts_are = refl; first_known = tt; rest_known = known }
  known_split (part ∷ parts) rest [] known = elim known [ ]
  known_split (part ∷ parts) rest (found ∷ others) (one, known) =
      let k = known_split parts rest others known in
      record { front = found ∷ k.front; back = k.back; facts_are = ap (λ l. found ∷ l) k.facts_are; first_known = (one, k.first_known); rest_known = k.rest_known }

  pub known_length : (parts : List Node) (facts : List Facts) → AreKnown total modes parts facts → length facts ≡ length parts
  known_length [] [] known = refl
  known_length [] (found ∷ rest) known = elim known [ ]
  known_length (part ∷ parts) [] known = elim known [ ]
  known_length (part ∷ parts) (found ∷ rest) (one, known) = ap suc (known_length parts rest known)

  -- the facts of a goal: those of its parts, and its own
  pub record KnownGoal (goal : Node) (facts : List Facts) : Type 0 where
    pub inner : List Facts
    pub own : Facts
    pub facts_are : facts ≡ inner ++ own ∷ []
    pub inner_known : AreKnown total modes (all_subgoals (joined_by goal)) inner
    pub own_known : AreFactsOf total modes goal own

  one_known : (goal : Node) (facts inner back : List Facts) → facts ≡ inner ++ back → AreKnown total modes (all_subgoals (joined_by goal)) inner → AreKnown total modes (goal ∷ []) back → KnownGoal goal facts
  one_known goal facts inner [] are known own = elim own [ ]
  one_known goal facts inner (found ∷ []) are known (own, last) = record { inner = inner; own = found; facts_are = are; inner_known = known; own_known = own }
  one_known goal facts inner (found ∷ second ∷ rest) are known (own, last) = elim last [ ]

  pub known_goal : (goal : Node) (facts : List Facts) → AreKnown total modes (subgoals goal) facts → KnownGoal goal facts
  known_goal goal facts known =
      let k = known_split (all_subgoals (joined_by goal)) (goal ∷ []) facts (subst (λ l. AreKnown total modes l facts) (subgoals_end goal) known) in
      one_known goal facts k.front k.back k.facts_are k.first_known k.rest_known
