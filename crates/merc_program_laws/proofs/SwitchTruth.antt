-- Switches keep truth.
use Rattle.std.proofs.Common.{◌≡◌, inl, inr, ℕ, zero, suc, true, false, ◌||◌, List, [], Option, Some, None, length, refl, ap, sym, subst, ◌∙◌}
use Rattle.std.specs.Prelude.{◌↔◌}
use Rattle.merc_tree.specs.Types.{TypeExpr}
use Rattle.merc_tree.specs.declared.declarations.Arg.{Arg}
use Rattle.merc_tree.specs.declared.declarations.ModeDecl.{ModeDecl}
use Rattle.merc_tree.specs.declared.declarations.TypeDef.{TypeDef}
use Rattle.merc_graded_tree.specs.declared.basic.Procedure.{Procedure}
use Rattle.merc_graded_tree.specs.Nodes.{Node, node, Basic, Conjunction, Disjunction, Switch, Conditional, Negation, Quantified, Nodes, no_nodes, more_nodes, list_of}
use Rattle.merc_graded_tree.specs.RootLaws.{nodes_of-list_of}
use Rattle.merc_graded_tree.specs.Variables.{in_node, in_nodes}
use Rattle.merc_order.specs.Bound.{Bound, among}
use Rattle.merc_order.specs.Procedures.{bound_at, numbers_below}
use Rattle.merc_order_laws.specs.GoodTree.{GoodNode, GoodNodes, GoodDisjuncts}
use Rattle.merc_grading.specs.Switches.{split_variables, bound_behind, as_switch, find, find_all, find_each}
use Rattle.merc_meaning.specs.Runs.{Program, ProcedureBody}
use Rattle.merc_meaning.specs.Truth.{Assignment, Outside, with, is_argument, Judgement, YesBody, NoBody, YesCall, NoCall}
use Rattle.merc_order_laws.proofs.Facts.{clash, or_left, or_right, or_cases}
use Rattle.merc_program_laws.specs.TruthLaws.{SameTruth}
use Rattle.merc_program_laws.specs.Switches.{IsSwitched, AreSwitched, SwitchedCallsKeepTruth, SwitchedGoalsKeepTruth}
use Rattle.merc_program_laws.proofs.Local.{IsByValues}
use Rattle.merc_program_laws.proofs.Keeping.{Within, Stays, Misses, KeepsAt, LawAll, LawEach, law_conjunction, law_disjunction, law_negation, law_quantified, law_none, law_no_arm, law_each, law_more, law_conditional}
use Rattle.merc_program_laws.proofs.OrderTruth.{yes_by_values, no_by_values, inputs_are}
use Rattle.merc_program_laws.proofs.Carried.{yes_carried, no_carried}
use Rattle.merc_program_laws.proofs.Switching.{Kept, kept_self, node_kept, then_kept, regrouped_kept}

never : (a : Outside) → Misses (λ v. false) a
never a v h = clash h refl

stays : (bound : Outside) → Stays (λ out. Within bound out)
stays bound out out' w o v h = w v (o v h)

wider : (bound out a : Outside) → Within bound out → Within bound (with out a)
wider bound out a w v h = or_left (out v) (a v) (w v h)

module _ (declared : List TypeDef) (types : ℕ → TypeExpr) (modes : ℕ → List ModeDecl) where
  -- outputs occur in their goal
  behind_in : (m : Node) (out b bound : Outside) → GoodNode modes out b m → (v : ℕ) → bound_behind declared types bound m v ≡ true → (bound v || in_node m v) ≡ true
  behind_in (node g outs cat at) out b bound good v h = elim (or_cases (bound v) (among outs v) h) as (λ _. (bound v || in_node (node g outs cat at) v) ≡ true) [
    | inl k ↦ or_left (bound v) (in_node (node g outs cat at) v) k
    | inr k ↦ or_right (bound v) (in_node (node g outs cat at) v) (good.0 v k)
  ]

  behind_out : (m : Node) (out b bound now a : Outside) → GoodNode modes out b m → Within bound now → ((v : ℕ) → in_node m v ≡ true → a v ≡ true) → Within (bound_behind declared types bound m) (with now a)
  behind_out m out b bound now a good w i v h = elim (or_cases (bound v) (in_node m v) (behind_in m out b bound good v h)) as (λ _. with now a v ≡ true) [
    | inl k ↦ or_left (now v) (a v) (w v k)
    | inr k ↦ or_right (now v) (a v) (i v k)
  ]

  module _ (y n : Judgement) (by_y : IsByValues y) (by_n : IsByValues n) where
    abbrev pub found : Bound → Node → Node
    found bound m = find declared types bound m

    mutual
      pub find_kept : (m : Node) (bound out b : Outside) → GoodNode modes out b m → Kept y n bound m (found bound m)
      find_kept (node (Basic g) outs cat at) bound out b good = kept_self y n bound (node (Basic g) outs cat at)
      find_kept (node (Conjunction r ms) outs cat at) bound out b good =
          node_kept y n bound (Conjunction r ms) (Conjunction r (find_all declared types bound ms)) outs outs cat at at
          (law_conjunction y n y n (λ v. false) (λ out. Within bound out) r r ms (find_all declared types bound ms) [] [] at at (all_kept ms bound out b good.2.0))
      find_kept (node (Disjunction ms) outs cat at) bound out b good =
          node_kept y n bound (Disjunction ms) (as_switch declared types outs at bound (list_of (find_each declared types bound ms))) outs outs cat at at
          (then_kept y n bound (node (Disjunction ms) [] None at) (node (Disjunction (find_each declared types bound ms)) [] None at) (node (as_switch declared types outs at bound (list_of (find_each declared types bound ms))) [] None at)
          (law_disjunction y n y n (λ v. false) (λ out. Within bound out) ms (find_each declared types bound ms) [] [] at at (each_kept ms bound out b good.2.0))
          (subst (λ (ks : Nodes). Kept y n bound (node (Disjunction ks) [] None at) (node (as_switch declared types outs at bound (list_of (find_each declared types bound ms))) [] None at)) (nodes_of-list_of (find_each declared types bound ms))
          (regrouped_kept y n declared types bound at (length (split_variables (list_of (find_each declared types bound ms)))) outs [] (list_of (find_each declared types bound ms)))))
      find_kept (node (Switch x arms) outs cat at) bound out b good = kept_self y n bound (node (Switch x arms) outs cat at)
      find_kept (node (Conditional c t e) outs cat at) bound out b good =
          node_kept y n bound (Conditional c t e) (Conditional (found bound c) (found (bound_behind declared types bound c) t) (found bound e)) outs outs cat at at
          (law_conditional y n y n by_y by_n by_y by_n (λ v. false) (λ v. false) (λ v. false)
          (λ out. Within bound out) (λ out. Within (bound_behind declared types bound c) out) (λ out. Within bound out) (λ out. Within bound out)
          c t e (found bound c) (found (bound_behind declared types bound c) t) (found bound e) [] [] at at
          (never (in_node t)) (never (in_node e)) (never (in_node c)) (never (in_node e)) (never (in_node c)) (never (in_node t)) (never (λ v. false)) (never (λ v. false)) (never (λ v. false))
          (stays bound) (stays (bound_behind declared types bound c)) (stays bound) (λ now o. wider bound now (in_node e) o)
          (λ now o. behind_out c _ _ bound now (with (in_node c) (in_node e)) good.2.0 o (λ v h. or_left (in_node c v) (in_node e v) h))
          (λ now o. wider bound now (with (in_node c) (in_node t)) o)
          (find_kept c bound _ _ good.2.0) (find_kept t (bound_behind declared types bound c) _ _ good.2.2) (find_kept e bound _ _ good.2.4))
      find_kept (node (Negation m) outs cat at) bound out b good =
          node_kept y n bound (Negation m) (Negation (found bound m)) outs outs cat at at
          (law_negation y n y n (λ v. false) (λ out. Within bound out) m (found bound m) [] [] at at (find_kept m bound out b good.2.0))
      find_kept (node (Quantified own m) outs cat at) bound out b good =
          node_kept y n bound (Quantified own m) (Quantified own (found bound m)) outs outs cat at at
          (law_quantified y n y n (λ v. false) (λ out. Within bound out) own own m (found bound m) [] [] at at (find_kept m bound out b good.2.0))

      all_kept : (ms : Nodes) (bound out b : Outside) → GoodNodes modes out b ms → LawAll y n y n (λ v. false) (λ out. Within bound out) ms (find_all declared types bound ms)
      all_kept no_nodes bound out b good = law_none y n y n (λ v. false) (λ out. Within bound out)
      all_kept (more_nodes m ms) bound out b good =
          law_more y n y n by_y by_n by_y by_n (λ v. false) (λ v. false) (λ out. Within bound out) (λ out. Within (bound_behind declared types bound m) out) (λ out. Within bound out)
          m (found bound m) ms (find_all declared types (bound_behind declared types bound m) ms) (never (in_nodes ms)) (never (in_node m)) (never (λ v. false))
          (stays bound) (stays (bound_behind declared types bound m)) (λ now o. wider bound now (in_nodes ms) o) (λ now o. behind_out m _ _ bound now (in_node m) good.0 o (λ v h. h))
          (find_kept m bound _ _ good.0) (all_kept ms (bound_behind declared types bound m) _ _ good.1)

      each_kept : (ms : Nodes) (bound out b : Outside) → GoodDisjuncts modes out b ms → LawEach y n y n (λ v. false) (λ out. Within bound out) ms (find_each declared types bound ms)
      each_kept no_nodes bound out b good = law_no_arm y n y n (λ v. false) (λ out. Within bound out)
      each_kept (more_nodes m ms) bound out b good =
          law_each y n y n (λ v. false) (λ v. false) (λ out. Within bound out) (λ out. Within bound out) (λ out. Within bound out)
          m (found bound m) ms (find_each declared types bound ms) (λ now o. o) (λ now o. o) (find_kept m bound out b good.0) (each_kept ms bound out b good.1)

-- Stage by stage.
module _ (declared : List TypeDef) (modes : ℕ → List ModeDecl) (program other : Program) (are : AreSwitched declared modes program other) where
  abbrev pub CallsThere : ℕ → Type 0
  CallsThere k = (p : Procedure) (args : List ℕ) (s : Assignment) → (YesCall program k p args s → YesCall other k p args s) × (NoCall program k p args s → NoCall other k p args s)

  abbrev pub CallsReturn : ℕ → Type 0
  CallsReturn k = (p : Procedure) (args : List ℕ) (s : Assignment) → (YesCall other k p args s → YesCall program k p args s) × (NoCall other k p args s → NoCall program k p args s)

  goal_same : (k : ℕ) (types : ℕ → TypeExpr) (out now bound : Outside) (tree : Node) → Within bound out → GoodNode modes now bound tree → CallsThere k → CallsReturn k
      → KeepsAt (YesCall program k) (NoCall program k) (YesCall other k) (NoCall other k) out tree out (find declared types bound tree)
      × KeepsAt (YesCall other k) (NoCall other k) (YesCall program k) (NoCall program k) out (find declared types bound tree) out tree
  goal_same k types out now bound tree w good there return =
      let y : Judgement = YesCall program k in
      let n : Judgement = NoCall program k in
      let y' : Judgement = YesCall other k in
      let n' : Judgement = NoCall other k in
      let l = find_kept declared types modes y' n' (yes_by_values other k) (no_by_values other k) tree bound now bound good in (
        λ s v. (
          λ h. (l.there out (never out) w s v).0 (yes_carried y n y' n' (λ p a t. (there p a t).0) (λ p a t. (there p a t).1) tree out s h),
          λ h. (l.there out (never out) w s v).1 (no_carried y n y' n' (λ p a t. (there p a t).0) (λ p a t. (there p a t).1) tree out s h),
        ),
        λ s v. (
          λ h. yes_carried y' n' y n (λ p a t. (return p a t).0) (λ p a t. (return p a t).1) tree out s ((l.return out (never out) w s v).0 h),
          λ h. no_carried y' n' y n (λ p a t. (return p a t).0) (λ p a t. (return p a t).1) tree out s ((l.return out (never out) w s v).1 h),
        ),
      )

  abbrev pub BodyThere : ℕ → Option ProcedureBody → Option ProcedureBody → Type 0
  BodyThere k o o' = (args : List ℕ) (s : Assignment) → (YesBody (YesCall program k) (NoCall program k) o args s → YesBody (YesCall other k) (NoCall other k) o' args s)
      × (NoBody (YesCall program k) (NoCall program k) o args s → NoBody (YesCall other k) (NoCall other k) o' args s)

  abbrev pub BodyReturn : ℕ → Option ProcedureBody → Option ProcedureBody → Type 0
  BodyReturn k o o' = (args : List ℕ) (s : Assignment) → (YesBody (YesCall other k) (NoCall other k) o' args s → YesBody (YesCall program k) (NoCall program k) o args s)
      × (NoBody (YesCall other k) (NoCall other k) o' args s → NoBody (YesCall program k) (NoCall program k) o args s)

  body_same : (k : ℕ) (o o' : Option ProcedureBody) → IsSwitched declared modes o o' → CallsThere k → CallsReturn k → BodyThere k o o' × BodyReturn k o o'
  body_same k None None h there return = (λ args s. (λ h. h, λ h. h), λ args s. (λ h. h, λ h. h))
  body_same k None (Some q) h there return = absurd h
  body_same k (Some p) None h there return = absurd h
  body_same k (Some p) (Some q) h there return =
      let same = goal_same k h.2.0 (is_argument p.places) (among (numbers_below (length p.places))) (bound_at p.places) p.body (inputs_are p.places) h.1 there return in
      subst (λ (b : ProcedureBody). BodyThere k (Some p) (Some b) × BodyReturn k (Some p) (Some b)) (body_is p q h.2.0 h.0 h.2.1) (
        λ args s. (λ j. (j.0, j.1, j.2, (same.0 j.0 j.1).0 j.3), λ j inner v i. (same.0 inner v).1 (j inner v i)),
        λ args s. (λ j. (j.0, j.1, j.2, (same.1 j.0 j.1).0 j.3), λ j inner v i. (same.1 inner v).1 (j inner v i)),
      ) where
        body_is : (p q : ProcedureBody) (types : ℕ → TypeExpr) → q.places ≡ p.places → q.body ≡ find declared types (bound_at p.places) p.body
            → record { places = p.places; body = find declared types (bound_at p.places) p.body } ≡ q
        body_is p q types e f = ap (λ (l : List Arg). record { places = l; body = find declared types (bound_at p.places) p.body }) (sym e) ∙ ap (λ (m : Node). record { places = q.places; body = m }) (sym f)

  mutual
    calls_there : (k : ℕ) → CallsThere k
    calls_there zero p args s = (λ h. h, λ h. h)
    calls_there (suc k) p args s = (body_same k (program p) (other p) (are p) (calls_there k) (calls_return k)).0 args s

    calls_return : (k : ℕ) → CallsReturn k
    calls_return zero p args s = (λ h. h, λ h. h)
    calls_return (suc k) p args s = (body_same k (program p) (other p) (are p) (calls_there k) (calls_return k)).1 args s

  calls_same : (k : ℕ) (p : Procedure) (args : List ℕ) (s : Assignment) → (YesCall program k p args s ↔ YesCall other k p args s) × (NoCall program k p args s ↔ NoCall other k p args s)
  calls_same k p args s =
      let there = calls_there k p args s in
      let return = calls_return k p args s in
      ((there.0, return.0), (there.1, return.1))

  goals_same : (types : ℕ → TypeExpr) (out : Outside) (bound : Bound) (tree : Node) → Within bound out → GoodNode modes out bound tree → SameTruth program other out tree (find declared types bound tree)
  goals_same types out bound tree w good k s v =
      let same = goal_same k types out out bound tree w good (calls_there k) (calls_return k) in
      (((same.0 s v).0, (same.1 s v).0), ((same.0 s v).1, (same.1 s v).1))

pub switched_calls_keep : SwitchedCallsKeepTruth
switched_calls_keep declared modes program other are k p args s = calls_same declared modes program other are k p args s

pub switched_goals_keep : SwitchedGoalsKeepTruth
switched_goals_keep declared modes program other are types out bound tree w good = goals_same declared modes program other are types out bound tree w good
