-- A goal is put together from the labels of its parts.
use Rattle.std.specs.Prelude.{◌≡◌, ◌≤◌, ◌<◌, ℕ, zero, suc, ◌+◌, ◌-◌, List, [], ◌∷◌, ◌++◌, length, take, drop, slice_get, Option, Some, None, refl}
use Rattle.std.specs.Option.{option_map}
use Rattle.std.specs.Borrow.{Bor}
use Rattle.std.proofs.Common.{◌∙◌, ap, sym, subst, arith, add-one}
use Rattle.std.proofs.lemmas.List.{append-nil, append_assoc, length-append}
use Rattle.merc_graded_tree.specs.declared.entries.Label.{Label}
use Rattle.merc_graded_tree.specs.Nodes.{Node, node, Basic, Conjunction, Disjunction, Switch, Conditional, Negation, Quantified, Nodes, no_nodes, more_nodes, Arms, no_arms, more_arms, list_of}
use Rattle.merc_graded_tree.specs.Roots.{label_of, labelled, last_joined, arity_of, bodies_of}
use Rattle.merc_graded_tree.specs.RootLaws.{arity_is}
use Rattle.merc_graded_tree.specs.Labels.{labels_of, joined_labels, arm_labels, built}
use Rattle.merc_graded_tree.specs.LabelCode.{built-all_labels}

-- each label finds as many goals as it joins, where there are so many at first
abbrev pub AreFound : List Label → ℕ → Type 0
AreFound [] count = Unit {0}
AreFound (label ∷ labels) count = (arity_of label.root ≤ count) × AreFound labels (suc (count - arity_of label.root))

closing : (label : Label) (arity count : ℕ) (rest : List Label) → arity_of label.root ≡ arity → AreFound rest (suc count) → AreFound (label ∷ rest) (count + arity)
closing label arity count rest is found = (omega arith, subst (λ n. AreFound rest n) (omega arith) found)

whole_found : (inner : List Label) (label : Label) (arity count : ℕ) (rest : List Label) → arity_of label.root ≡ arity → AreFound rest (suc count)
    → (AreFound (label ∷ rest) (count + arity) → AreFound (inner ++ label ∷ rest) count) → AreFound ((inner ++ label ∷ []) ++ rest) count
whole_found inner label arity count rest is found before =
    subst (λ l. AreFound l count) (sym (append_assoc inner (label ∷ []) rest)) (before (closing label arity count rest is found))

mutual
  are_found : (whole : Node) (rest : List Label) (count : ℕ) → AreFound rest (suc count) → AreFound (labels_of whole ++ rest) count
  are_found (node (Basic goal) outputs category span) rest count found = (omega arith, subst (λ n. AreFound rest n) (omega arith) found)
  are_found (node (Conjunction running goals) outputs category span) rest count found =
      whole_found (joined_labels goals) (label_of (node (Conjunction running goals) outputs category span)) (length (list_of goals)) count rest refl found
      (λ k. joined_found goals (label_of (node (Conjunction running goals) outputs category span) ∷ rest) count k)
  are_found (node (Disjunction goals) outputs category span) rest count found =
      whole_found (joined_labels goals) (label_of (node (Disjunction goals) outputs category span)) (length (list_of goals)) count rest refl found
      (λ k. joined_found goals (label_of (node (Disjunction goals) outputs category span) ∷ rest) count k)
  are_found (node (Switch variable arms) outputs category span) rest count found =
      whole_found (arm_labels arms) (label_of (node (Switch variable arms) outputs category span)) (length (bodies_of arms)) count rest (arity_is (Switch variable arms)) found
      (λ k. arms_found arms (label_of (node (Switch variable arms) outputs category span) ∷ rest) count k)
  are_found (node (Conditional condition then_part else_part) outputs category span) rest count found =
      let label = label_of (node (Conditional condition then_part else_part) outputs category span) in
      whole_found (labels_of condition ++ (labels_of then_part ++ labels_of else_part)) label 3 count rest refl found
      (λ k. subst (λ l. AreFound l count)
      (sym (append_assoc (labels_of condition) (labels_of then_part ++ labels_of else_part) (label ∷ rest) ∙ ap (λ l. labels_of condition ++ l) (append_assoc (labels_of then_part) (labels_of else_part) (label ∷ rest))))
      (are_found condition (labels_of then_part ++ (labels_of else_part ++ label ∷ rest)) count
      (are_found then_part (labels_of else_part ++ label ∷ rest) (suc count) (are_found else_part (label ∷ rest) (suc (suc count)) (subst (λ n. AreFound (label ∷ rest) n) (omega arith) k)))))
  are_found (node (Negation goal) outputs category span) rest count found =
      whole_found (labels_of goal) (label_of (node (Negation goal) outputs category span)) 1 count rest refl found
      (λ k. are_found goal (label_of (node (Negation goal) outputs category span) ∷ rest) count (subst (λ n. AreFound (label_of (node (Negation goal) outputs category span) ∷ rest) n) (omega arith) k))
  are_found (node (Quantified own goal) outputs category span) rest count found =
      whole_found (labels_of goal) (label_of (node (Quantified own goal) outputs category span)) 1 count rest refl found
      (λ k. are_found goal (label_of (node (Quantified own goal) outputs category span) ∷ rest) count (subst (λ n. AreFound (label_of (node (Quantified own goal) outputs category span) ∷ rest) n) (omega arith) k))

  joined_found : (goals : Nodes) (rest : List Label) (count : ℕ) → AreFound rest (count + length (list_of goals)) → AreFound (joined_labels goals ++ rest) count
  joined_found no_nodes rest count found = subst (λ n. AreFound rest n) (omega arith) found
  joined_found (more_nodes first others) rest count found =
      subst (λ l. AreFound l count) (sym (append_assoc (labels_of first) (joined_labels others) rest))
      (are_found first (joined_labels others ++ rest) count (joined_found others rest (suc count) (subst (λ n. AreFound rest n) (omega arith) found)))

  arms_found : (arms : Arms) (rest : List Label) (count : ℕ) → AreFound rest (count + length (bodies_of arms)) → AreFound (arm_labels arms ++ rest) count
  arms_found no_arms rest count found = subst (λ n. AreFound rest n) (omega arith) found
  arms_found (more_arms symbol body others) rest count found =
      subst (λ l. AreFound l count) (sym (append_assoc (labels_of body) (arm_labels others) rest))
      (are_found body (arm_labels others ++ rest) count (arms_found others rest (suc count) (subst (λ n. AreFound rest n) (omega arith) found)))

pub all_found : (whole : Node) (count : ℕ) → AreFound (labels_of whole) count
all_found whole count = subst (λ l. AreFound l count) (append-nil (labels_of whole)) (are_found whole [] count tt)

pub builds : (whole : Node) (before : List Node) → built (labels_of whole) before ≡ before ++ whole ∷ []
builds whole before = ap (λ l. built l before) (sym (append-nil (labels_of whole))) ∙ built-all_labels (whole ∷ []) before

-- one label after the other

no_label : {A : Type 0} {l : Label} → ◌≡◌ {A = Option Label} None (Some l) → A
no_label h = absurd (cc)

first_at : (labels : List Label) (index : ℕ) (label : Label) → slice_get labels index ≡ Some label → drop index labels ≡ label ∷ drop (suc index) labels
first_at [] index label h = no_label h
first_at (first ∷ rest) zero label h = let same : first ≡ label = cc in ap (λ l. l ∷ rest) same
first_at (first ∷ rest) (suc index) label h = first_at rest index label h

pub first_left : (labels : List Label) (index : ℕ) (label : Bor Label) → option_map (λ (l : Bor Label). l.now) (Some label) ≡ slice_get labels index
    → drop index labels ≡ label.now ∷ drop (index + 1) labels
first_left labels index label h = first_at labels index label.now (sym h) ∙ ap (λ n. label.now ∷ drop n labels) (sym (add-one index))

there_at : (labels : List Label) (index : ℕ) → slice_get labels index ≡ None → index < length labels → ⊥
there_at [] index h within = omega (arith, within)
there_at (first ∷ rest) zero h within = absurd (cc)
there_at (first ∷ rest) (suc index) h within = there_at rest index h (omega (arith, within))

pub is_there : (labels : List Label) (index count : ℕ) → option_map (λ (l : Bor Label). l.now) None ≡ slice_get labels index → index < count → count ≡ length labels → ⊥
is_there labels index count h within size = there_at labels index (sym h) (omega (arith, within, size))

take_size : {X : Type 0} (xs : List X) (n : ℕ) → n ≤ length xs → length (take n xs) ≡ n
take_size xs zero h = refl
take_size [] (suc n) h = absurd (omega (arith, h))
take_size (x ∷ xs) (suc n) h = ap suc (take_size xs n (omega (arith, h)))

joined_length : (label : Label) (goals : List Node) → length (last_joined label goals) ≡ suc (length goals - arity_of label.root)
joined_length label goals =
    let before = length goals - arity_of label.root in
    let size = take_size goals before (omega arith) in
    omega (arith, size, length-append (take before goals) (labelled label (drop before goals) ∷ []))

pub next_found : (left : List Label) (label copy : Label) (count : ℕ) (rest : List Label) → copy ≡ label → left ≡ label ∷ rest → AreFound left count → arity_of copy.root ≤ count
next_found left label copy count rest same is found = subst (λ (l : Label). arity_of l.root ≤ count) (sym same) (subst (λ l. AreFound l count) is found).0

pub rest_found : (left : List Label) (label copy : Label) (rest : List Label) (goals now : List Node) → copy ≡ label → left ≡ label ∷ rest → now ≡ last_joined copy goals
    → AreFound left (length goals) → AreFound rest (length now)
rest_found left label copy rest goals now same is put found =
    subst (AreFound rest) (sym (ap length (put ∙ ap (λ (l : Label). last_joined l goals) same) ∙ joined_length label goals)) (subst (λ l. AreFound l (length goals)) is found).1

pub rest_built : (left : List Label) (label copy : Label) (rest : List Label) (goals now whole : List Node) → copy ≡ label → left ≡ label ∷ rest → now ≡ last_joined copy goals
    → built left goals ≡ whole → built rest now ≡ whole
rest_built left label copy rest goals now whole equal is put same = ap (built rest) (put ∙ ap (λ (l : Label). last_joined l goals) equal) ∙ ap (λ l. built l goals) (sym is) ∙ same
