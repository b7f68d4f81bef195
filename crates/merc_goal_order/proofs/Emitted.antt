-- Goals that are written one behind the other, and joined.
use Rattle.std.specs.Prelude.{◌≡◌, ◌+◌, ◌-◌, ℕ, suc, List, [], ◌∷◌, ◌++◌, length, drop, None, Result, Ok, Err, OnOk, refl}
use Rattle.std.proofs.Common.{◌∙◌, ap, sym, arith}
use Rattle.std.proofs.lemmas.List.{length-append, append_assoc, append-nil, take_at, drop_at}
use Rattle.merc_base.specs.declared.place.Span.{Span}
use Rattle.merc_base.specs.declared.refusal.Fault.{Fault}
use Rattle.merc_base.specs.declared.refusal.Fault.TheVariants.{Refused, NoMemory}
use Rattle.merc_base.specs.declared.refusal.Refusal.{Refusal}
use Rattle.merc_tree.specs.declared.declarations.ModeDecl.{ModeDecl}
use Rattle.merc_graded_tree.specs.declared.entries.Root.{Root}
use Rattle.merc_graded_tree.specs.declared.entries.Root.TheVariants.{Conjunction as ConjunctionRoot, Disjunction as DisjunctionRoot, Conditional as ConditionalRoot, Negation as NegationRoot, Quantified as QuantifiedRoot}
use Rattle.merc_graded_tree.specs.declared.entries.Running.TheVariants.{Sequential, Parallel}
use Rattle.merc_graded_tree.specs.Nodes.{Node, node, Conjunction, Disjunction, more_nodes, nodes_of}
use Rattle.merc_graded_tree.specs.Roots.{arity_of, labelled, joined}
use Rattle.merc_order.specs.Ordered.{Ordered, put, Sequence, Beside, Choice, Decision, Denial, Within, Outcome, Outcomes, no_goals, AllReady, OneStuck, then_all}
use Rattle.merc_order.specs.Spelt.{spelt, spelt_all, twins, all_twins}
use Rattle.merc_simple_goals.specs.Writing.{IsWritten, Gives}
use Rattle.merc_simple_goals.specs.declared.written.Written.{Written}
use Rattle.merc_goal_order.specs.Walks.{ordereds_of, behind_them, twins_in, spelt_list, AreWritten, AddsOne}

-- outcomes behind goals

pub behind_on : (done : List Ordered) (goal : Ordered) (others : Outcomes) → behind_them done (then_all goal others) ≡ behind_them (done ++ goal ∷ []) others
behind_on [] goal others = refl
behind_on (first ∷ rest) goal others = ap (λ o. then_all first o) (behind_on rest goal others)

pub behind_ready : (done : List Ordered) → behind_them done (AllReady no_goals) ≡ AllReady (ordereds_of done)
behind_ready [] = refl
behind_ready (first ∷ rest) = ap (λ o. then_all first o) (behind_ready rest)

pub behind_stuck : (done : List Ordered) (fault : Refusal) → behind_them done (OneStuck fault) ≡ OneStuck fault
behind_stuck [] fault = refl
behind_stuck (first ∷ rest) fault = ap (λ o. then_all first o) (behind_stuck rest fault)

-- what they are

twins-append : (front back : List Ordered) → twins_in (front ++ back) ≡ twins_in front ++ twins_in back
twins-append [] back = refl
twins-append (first ∷ rest) back = ap (λ l. twins first ++ l) (twins-append rest back) ∙ sym (append_assoc (twins first) (twins_in rest) (twins_in back))

twins_all : (done : List Ordered) → all_twins (ordereds_of done) ≡ twins_in done
twins_all [] = refl
twins_all (first ∷ rest) = ap (λ l. twins first ++ l) (twins_all rest)

module _ (modes : ℕ → List ModeDecl) where
  spelt_length : (at : ℕ) (done : List Ordered) → length (spelt_list modes at done) ≡ length done
  spelt_length at [] = refl
  spelt_length at (first ∷ rest) = ap suc (spelt_length (at + length (twins first)) rest)

  spelt-append : (at : ℕ) (front back : List Ordered) → spelt_list modes at (front ++ back) ≡ spelt_list modes at front ++ spelt_list modes (at + length (twins_in front)) back
  spelt-append at [] back = let same : at ≡ at + 0 = omega arith in ap (λ n. spelt_list modes n back) same
  spelt-append at (first ∷ rest) back =
      let same : at + length (twins first) + length (twins_in rest) ≡ at + length (twins first ++ twins_in rest) = omega (arith, length-append (twins first) (twins_in rest)) in
      ap (λ l. spelt modes at first ∷ l)
      (spelt-append (at + length (twins first)) rest back ∙ ap (λ n. spelt_list modes (at + length (twins first)) rest ++ spelt_list modes n back) same)

  spelt_all_is : (at : ℕ) (done : List Ordered) → spelt_all modes at (ordereds_of done) ≡ nodes_of (spelt_list modes at done)
  spelt_all_is at [] = refl
  spelt_all_is at (first ∷ rest) = ap (λ l. more_nodes (spelt modes at first) l) (spelt_all_is (at + length (twins first)) rest)

  -- none is written
  pub none_written : (old : Written) → AreWritten modes [] old old
  none_written old = record { nodes = sym (append-nil old.nodes); fresh = omega arith; seen = refl }

  -- one more is written
  pub written_on : (done : List Ordered) (goal : Ordered) (old mid new : Written) → AreWritten modes done old mid → IsWritten modes goal mid new → AreWritten modes (done ++ goal ∷ []) old new
  written_on done goal old mid new a w = record {
    nodes = w.nodes ∙ ap (λ l. l ++ spelt modes mid.fresh goal ∷ []) a.nodes ∙ append_assoc old.nodes (spelt_list modes old.fresh done) (spelt modes mid.fresh goal ∷ [])
        ∙ ap (λ n. old.nodes ++ (spelt_list modes old.fresh done ++ spelt modes n goal ∷ [])) a.fresh
        ∙ ap (λ l. old.nodes ++ l) (sym (spelt-append old.fresh done (goal ∷ [])));
    fresh = let one = w.fresh in let two = a.fresh in let three = length-append (twins_in done) (twins goal ++ []) in
        let four : length (twins_in (done ++ goal ∷ [])) ≡ length (twins_in done ++ (twins goal ++ [])) = ap length (twins-append done (goal ∷ [])) in
        let five : length (twins goal ++ []) ≡ length (twins goal) = ap length (append-nil (twins goal)) in
        omega arith;
    seen = w.seen ∙ a.seen;
  }

  -- several more
  pub all_written : (done others : List Ordered) (old mid new : Written) → AreWritten modes done old mid → AreWritten modes others mid new → AreWritten modes (done ++ others) old new
  all_written done others old mid new a b = record {
    nodes = b.nodes ∙ ap (λ l. l ++ spelt_list modes mid.fresh others) a.nodes ∙ append_assoc old.nodes (spelt_list modes old.fresh done) (spelt_list modes mid.fresh others)
        ∙ ap (λ n. old.nodes ++ (spelt_list modes old.fresh done ++ spelt_list modes n others)) a.fresh
        ∙ ap (λ l. old.nodes ++ l) (sym (spelt-append old.fresh done others));
    fresh = let one = b.fresh in let two = a.fresh in
        let three : length (twins_in (done ++ others)) ≡ length (twins_in done ++ twins_in others) = ap length (twins-append done others) in
        omega (arith, one, two, three, length-append (twins_in done) (twins_in others));
    seen = b.seen ∙ a.seen;
  }

  pub written_one : (goal : Ordered) (old new : Written) → AreWritten modes (goal ∷ []) old new → IsWritten modes goal old new
  written_one goal old new a = record { nodes = a.nodes; fresh = a.fresh ∙ ap (λ l. old.fresh + length l) (append-nil (twins goal)); seen = a.seen }

  pub one_written : (goal : Ordered) (old new : Written) → IsWritten modes goal old new → AreWritten modes (goal ∷ []) old new
  one_written goal old new w = record { nodes = w.nodes; fresh = w.fresh ∙ sym (ap (λ l. old.fresh + length l) (append-nil (twins goal))); seen = w.seen }

  joined_is : (root : Root) (outputs : List ℕ) (span : Span) (front last : List Node) → arity_of root ≡ length last
      → joined root outputs span (front ++ last) ≡ front ++ labelled (record { root = root; outputs = outputs; category = None; span = span }) last ∷ []
  joined_is root outputs span front last h =
      let place : length front ≡ length (front ++ last) - arity_of root = omega (arith, h, length-append front last) in
      ap (λ l. l ++ labelled (record { root = root; outputs = outputs; category = None; span = span }) (drop (length (front ++ last) - arity_of root) (front ++ last)) ∷ []) (take_at front last _ place)
      ∙ ap (λ l. front ++ labelled (record { root = root; outputs = outputs; category = None; span = span }) l ∷ []) (drop_at front last _ place)

  -- the last ones are joined
  pub joined_on : (front done : List Ordered) (goal : Ordered) (root : Root) (outputs : List ℕ) (span : Span) (old mid new : Written) → AreWritten modes (front ++ done) old mid
      → new.nodes ≡ joined root outputs span mid.nodes → new.fresh ≡ mid.fresh → new.seen ≡ mid.seen → arity_of root ≡ length done
      → ((at : ℕ) → labelled (record { root = root; outputs = outputs; category = None; span = span }) (spelt_list modes at done) ≡ spelt modes at goal) → twins_in done ≡ twins goal
      → AreWritten modes (front ++ goal ∷ []) old new
  joined_on front done goal root outputs span old mid new a nodes fresh seen arity same twin = record {
    nodes =
        let at : ℕ = old.fresh + length (twins_in front) in
        let lies : mid.nodes ≡ (old.nodes ++ spelt_list modes old.fresh front) ++ spelt_list modes at done =
        a.nodes ∙ ap (λ l. old.nodes ++ l) (spelt-append old.fresh front done) ∙ sym (append_assoc old.nodes (spelt_list modes old.fresh front) (spelt_list modes at done)) in
        nodes ∙ ap (λ l. joined root outputs span l) lies
        ∙ joined_is root outputs span (old.nodes ++ spelt_list modes old.fresh front) (spelt_list modes at done) (arity ∙ sym (spelt_length at done))
        ∙ ap (λ n. (old.nodes ++ spelt_list modes old.fresh front) ++ n ∷ []) (same at)
        ∙ append_assoc old.nodes (spelt_list modes old.fresh front) (spelt modes at goal ∷ [])
        ∙ ap (λ l. old.nodes ++ l) (sym (spelt-append old.fresh front (goal ∷ [])));
    fresh = fresh ∙ a.fresh ∙ ap (λ l. old.fresh + length l) (twins-append front done ∙ ap (λ l. twins_in front ++ l) (twin ∙ sym (append-nil (twins goal))) ∙ sym (twins-append front (goal ∷ [])));
    seen = seen ∙ a.seen;
  }

  -- how many were written
  count_is : (done : List Ordered) (old mid : Written) → AreWritten modes done old mid → length mid.nodes - length old.nodes ≡ length done
  count_is done old mid a =
      let one : length mid.nodes ≡ length (old.nodes ++ spelt_list modes old.fresh done) = ap length a.nodes in
      omega (arith, one, length-append old.nodes (spelt_list modes old.fresh done), spelt_length old.fresh done)

  -- They are joined by a goal of each kind.

  pub choice_written : (done : List Ordered) (count : ℕ) (outputs : List ℕ) (span : Span) (old mid new : Written) → AreWritten modes done old mid → count ≡ length mid.nodes - length old.nodes
      → new.nodes ≡ joined (DisjunctionRoot count) outputs span mid.nodes → new.fresh ≡ mid.fresh → new.seen ≡ mid.seen → IsWritten modes (put (Choice (ordereds_of done)) outputs span) old new
  choice_written done count outputs span old mid new a c nodes fresh seen =
      written_one (put (Choice (ordereds_of done)) outputs span) old new
      (joined_on [] done (put (Choice (ordereds_of done)) outputs span) (DisjunctionRoot count) outputs span old mid new a nodes fresh seen (c ∙ count_is done old mid a)
      (λ at. ap (λ l. node (Disjunction l) outputs None span) (sym (spelt_all_is at done))) (sym (twins_all done)))

  pub sequence_written : (done : List Ordered) (count : ℕ) (outputs : List ℕ) (span : Span) (old mid new : Written) → AreWritten modes done old mid → count ≡ length mid.nodes - length old.nodes
      → new.nodes ≡ joined (ConjunctionRoot Sequential count) outputs span mid.nodes → new.fresh ≡ mid.fresh → new.seen ≡ mid.seen → IsWritten modes (put (Sequence (ordereds_of done)) outputs span) old new
  sequence_written done count outputs span old mid new a c nodes fresh seen =
      written_one (put (Sequence (ordereds_of done)) outputs span) old new
      (joined_on [] done (put (Sequence (ordereds_of done)) outputs span) (ConjunctionRoot Sequential count) outputs span old mid new a nodes fresh seen (c ∙ count_is done old mid a)
      (λ at. ap (λ l. node (Conjunction Sequential l) outputs None span) (sym (spelt_all_is at done))) (sym (twins_all done)))

  pub beside_written : (done : List Ordered) (count : ℕ) (outputs : List ℕ) (span : Span) (old mid new : Written) → AreWritten modes done old mid → count ≡ length mid.nodes - length old.nodes
      → new.nodes ≡ joined (ConjunctionRoot (Parallel None) count) outputs span mid.nodes → new.fresh ≡ mid.fresh → new.seen ≡ mid.seen → IsWritten modes (put (Beside (ordereds_of done)) outputs span) old new
  beside_written done count outputs span old mid new a c nodes fresh seen =
      written_one (put (Beside (ordereds_of done)) outputs span) old new
      (joined_on [] done (put (Beside (ordereds_of done)) outputs span) (ConjunctionRoot (Parallel None) count) outputs span old mid new a nodes fresh seen (c ∙ count_is done old mid a)
      (λ at. ap (λ l. node (Conjunction (Parallel None) l) outputs None span) (sym (spelt_all_is at done))) (sym (twins_all done)))

  pub denial_written : (inner : Ordered) (span : Span) (old mid new : Written) → IsWritten modes inner old mid
      → new.nodes ≡ joined NegationRoot [] span mid.nodes → new.fresh ≡ mid.fresh → new.seen ≡ mid.seen → IsWritten modes (put (Denial inner) [] span) old new
  denial_written inner span old mid new w nodes fresh seen =
      written_one (put (Denial inner) [] span) old new
      (joined_on [] (inner ∷ []) (put (Denial inner) [] span) NegationRoot [] span old mid new (one_written inner old mid w) nodes fresh seen refl (λ at. refl) (append-nil (twins inner)))

  pub within_written : (own : List ℕ) (inner : Ordered) (outputs : List ℕ) (span : Span) (old mid new : Written) → IsWritten modes inner old mid
      → new.nodes ≡ joined (QuantifiedRoot own) outputs span mid.nodes → new.fresh ≡ mid.fresh → new.seen ≡ mid.seen → IsWritten modes (put (Within own inner) outputs span) old new
  within_written own inner outputs span old mid new w nodes fresh seen =
      written_one (put (Within own inner) outputs span) old new
      (joined_on [] (inner ∷ []) (put (Within own inner) outputs span) (QuantifiedRoot own) outputs span old mid new (one_written inner old mid w) nodes fresh seen refl (λ at. refl) (append-nil (twins inner)))

  -- an if-then-else behind others
  pub decision_written : (front : List Ordered) (first second third : Ordered) (outputs : List ℕ) (span : Span) (old mid new : Written) → AreWritten modes (front ++ first ∷ second ∷ third ∷ []) old mid
      → new.nodes ≡ joined ConditionalRoot outputs span mid.nodes → new.fresh ≡ mid.fresh → new.seen ≡ mid.seen
      → AreWritten modes (front ++ put (Decision first second third) outputs span ∷ []) old new
  decision_written front first second third outputs span old mid new a nodes fresh seen =
      joined_on front (first ∷ second ∷ third ∷ []) (put (Decision first second third) outputs span) ConditionalRoot outputs span old mid new a nodes fresh seen refl (λ at. refl)
      (ap (λ l. twins first ++ (twins second ++ l)) (append-nil (twins third)))

-- The set to look up variables in is empty before and after.

pub gives_from : (modes : ℕ → List ModeDecl) (outcome : Outcome) (old mid new : Written) (result : Result (Unit {0}) Fault) → mid.nodes ≡ old.nodes → mid.fresh ≡ old.fresh → mid.seen ≡ old.seen
    → Gives modes outcome mid new result → Gives modes outcome old new result
gives_from modes outcome old mid new (Ok done) nodes fresh seen (ordered, is, w) = (
  ordered,
  is,
  record {
    nodes = w.nodes ∙ ap (λ l. l ++ spelt modes mid.fresh ordered ∷ []) nodes ∙ ap (λ n. old.nodes ++ spelt modes n ordered ∷ []) fresh;
    fresh = w.fresh ∙ ap (λ n. n + length (twins ordered)) fresh;
    seen = w.seen ∙ seen;
  },
)
gives_from modes outcome old mid new (Err (Refused refusal)) nodes fresh seen gives = gives
gives_from modes outcome old mid new (Err NoMemory) nodes fresh seen gives = gives

pub adds_one : (modes : ℕ → List ModeDecl) (outcome : Outcome) (old mid new : Written) (result : Result (Unit {0}) Fault) → mid.nodes ≡ old.nodes → mid.seen ≡ []
    → Gives modes outcome mid new result → OnOk result (AddsOne old new)
adds_one modes outcome old mid new (Ok done) nodes seen (ordered, is, w) = record {
  more = ap length (w.nodes ∙ ap (λ l. l ++ spelt modes mid.fresh ordered ∷ []) nodes) ∙ length-append old.nodes (spelt modes mid.fresh ordered ∷ []);
  cleared = w.seen ∙ seen;
}
adds_one modes outcome old mid new (Err fault) nodes seen gives = tt
