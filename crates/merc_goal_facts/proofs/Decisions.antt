-- Facts of an if-then-else: those of a disjunction of the condition and the then part together and the else part.
use Rattle.std.specs.Prelude.{◌≡◌, ◌+◌, ◌-◌, ◌||◌, ◌&&◌, ℕ, Bool, true, false, List, [], ◌∷◌, ◌++◌, length, refl}
use Rattle.std.specs.List.{filter}
use Rattle.std.proofs.Common.{◌∙◌, ap, sym, subst, arith}
use Rattle.std.proofs.lemmas.List.{append_assoc, append-nil, length-append}
use mathlib.Core.Path.{fun_ext}
use Rattle.merc_base.specs.declared.place.Span.{Span}
use Rattle.merc_tree.specs.declared.declarations.ModeDecl.{ModeDecl}
use Rattle.merc_goal_tree.specs.Nodes.{Node, Nodes, Conjunction, Disjunction, Conditional, no_nodes, more_nodes}
use Rattle.merc_goal_tree.specs.Variables.{variables, all_variables}
use Rattle.merc_order.specs.Bound.{among, are_bound, with}
use Rattle.merc_order.specs.Order.{Arm, arms, arms_bind, agree, decision_arms, shared, reached, binds}
use Rattle.merc_goal_facts.specs.declared.facts.Facts.{Facts}
use Rattle.merc_goal_facts.specs.declared.complete.Complete.{Complete}
use Rattle.merc_goal_facts.specs.Complete.{AreKnown, IsKnown}
use Rattle.merc_goal_facts.specs.Facts.{AreFactsOf}
use Rattle.merc_goal_facts.specs.Outside.{occurs_outside, IsStretch}
use Rattle.merc_goal_facts.proofs.Bounds.{or_false}
use Rattle.merc_goal_facts.proofs.CompleteGoals.{is_last, still_known}
use Rattle.merc_goal_facts.proofs.Found.{owed_by, binds_within}
use Rattle.merc_goal_facts.proofs.Needs.{conditional_needed}

and_true : (one : Bool) → (one && true) ≡ one
and_true true = refl
and_true false = refl

-- the condition and the then part together
abbrev pub first_arm : Node → Node → Nodes
first_arm condition then_part = more_nodes condition (more_nodes then_part no_nodes)

abbrev pub two_arms : Node → Node → Node → Span → Nodes
two_arms condition then_part else_part span = more_nodes (Conjunction (first_arm condition then_part) span) (more_nodes else_part no_nodes)

pub first_variables : (condition then_part : Node) → all_variables (first_arm condition then_part) ≡ variables condition ++ variables then_part
first_variables condition then_part = ap (λ l. variables condition ++ l) (append-nil (variables then_part))

pub two_variables : (condition then_part else_part : Node) (span : Span)
    → all_variables (two_arms condition then_part else_part span) ≡ variables (Conditional condition then_part else_part span)
two_variables condition then_part else_part span =
    ap (λ l. l ++ (variables else_part ++ [])) (first_variables condition then_part)
    ∙ ap (λ l. (variables condition ++ variables then_part) ++ l) (append-nil (variables else_part))
    ∙ append_assoc (variables condition) (variables then_part) (variables else_part)

module _ (total : ℕ → ℕ) (modes : ℕ → List ModeDecl) where
  arms_same : (condition then_part else_part : Node) (span : Span) → arms total modes (two_arms condition then_part else_part span) ≡ decision_arms total modes condition then_part else_part
  arms_same condition then_part else_part span =
      let last : List Arm = record { binds = binds total modes else_part; reached = reached total modes else_part } ∷ [] in
      ap (λ b. record { binds = b; reached = reached total modes condition && (reached total modes then_part && true) } ∷ last)
      (fun_ext (λ variable. ap (λ t. binds total modes condition variable || t) (or_false (binds total modes then_part variable))))
      ∙ ap (λ r. record { binds = with (binds total modes condition) (binds total modes then_part); reached = reached total modes condition && r } ∷ last) (and_true (reached total modes then_part))

  -- the stretch of the condition and the then part
  pub first_stretch : (condition then_part else_part : Node) (span : Span) (all : List ℕ) (start end then_end : ℕ) → IsStretch total all start end (variables (Conditional condition then_part else_part span))
      → then_end ≡ end - length (variables else_part) → IsStretch total all start then_end (variables condition ++ variables then_part)
  first_stretch condition then_part else_part span all start end then_end stretch then_end_is =
      let one = variables condition ++ variables then_part in
      let other = variables else_part in
      record {
        before = stretch.before;
        after = other ++ stretch.after;
        whole = stretch.whole ∙ ap (λ l. stretch.before ++ (l ++ stretch.after)) (sym (append_assoc (variables condition) (variables then_part) other))
            ∙ ap (λ l. stretch.before ++ l) (append_assoc one other stretch.after);
        start_is = stretch.start_is;
        end_is =
            let whole_end = stretch.end_is in
            let sum = length-append (variables condition) (variables then_part ++ other) in
            let two = length-append (variables then_part) other in
            let three = length-append (variables condition) (variables then_part) in
            omega arith;
        total_is = stretch.total_is;
      }

  pub stretch_length : (all inside : List ℕ) (start end : ℕ) → IsStretch total all start end inside → end - start ≡ length inside
  stretch_length all inside start end stretch = let start_is = stretch.start_is in let end_is = stretch.end_is in omega arith

  pub decided_stretch : (condition then_part else_part : Node) (span : Span) (all : List ℕ) (start end : ℕ) → IsStretch total all start end (variables (Conditional condition then_part else_part span))
      → IsStretch total all start end (all_variables (two_arms condition then_part else_part span))
  decided_stretch condition then_part else_part span all start end stretch =
      let same = sym (two_variables condition then_part else_part span) in
      record {
        before = stretch.before;
        after = stretch.after;
        whole = stretch.whole ∙ ap (λ l. stretch.before ++ (l ++ stretch.after)) same;
        start_is = stretch.start_is;
        end_is = ap (λ l. length stretch.before + length l) (sym same) ∙ stretch.end_is;
        total_is = stretch.total_is;
      }

  -- The facts of the condition and the then part together stand behind the others.
  pub decided_known : (facts more : List Facts) (own : Facts) (part start : ℕ) (last : Complete) (condition then_part else_part : Node) (span : Span) → more ≡ facts ++ own ∷ [] → part ≡ length facts
      → AreFactsOf total modes (Conjunction (first_arm condition then_part) span) own → IsKnown total modes facts last else_part
      → AreKnown total modes more (record { part = part; start = start } ∷ last ∷ []) (two_arms condition then_part else_part span)
  decided_known facts more own part start last condition then_part else_part span is part_is are known =
      let goals = two_arms condition then_part else_part span in
      subst (λ l. AreKnown total modes l (record { part = part; start = start } ∷ last ∷ []) goals) (sym is)
      (subst (λ n. AreKnown total modes (facts ++ own ∷ []) (record { part = n; start = start } ∷ last ∷ []) goals) (sym part_is)
      (is_last total modes facts own start (Conjunction (first_arm condition then_part) span) are, (still_known total modes facts own last else_part known, tt)))

  pub conditional_are : (condition then_part else_part : Node) (span : Span) (all : List ℕ) (start end then_end : ℕ) (own arm decided found : Facts)
      → IsStretch total all start end (variables (Conditional condition then_part else_part span)) → then_end ≡ end - length (variables else_part)
      → AreFactsOf total modes condition own → AreFactsOf total modes (Conjunction (first_arm condition then_part) span) arm → AreFactsOf total modes (Disjunction (two_arms condition then_part else_part span) span) decided
      → found.reached ≡ decided.reached → found.binds ≡ decided.binds → found.owed ≡ decided.owed → found.needs ≡ arm.needs → found.occurrences ≡ decided.occurrences
      → found.owed_by_condition ≡ filter (λ variable. occurs_outside all start then_end variable) own.binds → AreFactsOf total modes (Conditional condition then_part else_part span) found
  conditional_are condition then_part else_part span all start end then_end own arm decided found stretch then_end_is own_are arm_are are r b o s n c =
      let one = variables condition ++ variables then_part in
      let goals = two_arms condition then_part else_part span in
      let inside = variables (Conditional condition then_part else_part span) in
      let same = two_variables condition then_part else_part span in
      let arms_are = arms_same condition then_part else_part span in
      record {
        reached_is = r ∙ are.reached_is
            ∙ ap (λ t. (reached total modes condition && t) || (reached total modes else_part || false)) (and_true (reached total modes then_part))
            ∙ ap (λ t. (reached total modes condition && reached total modes then_part) || t) (or_false (reached total modes else_part));
        binds_are = λ variable. ap (λ l. among l variable) b ∙ are.binds_are variable
            ∙ ap (λ l. shared total modes l variable && arms_bind (arms total modes goals) variable) same
            ∙ ap (λ a. shared total modes inside variable && arms_bind a variable) arms_are;
        owed_are = λ bound. ap (are_bound bound) o ∙ are.owed_are bound
            ∙ ap (λ l. agree total modes bound l (arms total modes goals)) same
            ∙ ap (λ a. agree total modes bound inside a) arms_are;
        owed_by_condition_are = λ bound. ap (are_bound bound) c
            ∙ owed_by total modes all start then_end one (variables condition) own.binds (binds total modes condition) bound
            (first_stretch condition then_part else_part span all start end then_end stretch then_end_is) own_are.binds_are (binds_within total modes condition);
        needed = conditional_needed total modes condition then_part else_part span arm found.needs arm_are s;
        occurrences_are = n ∙ are.occurrences_are ∙ ap (λ l. length l) same;
      }
