-- What is asked of a fork: its conjuncts' courses, one after the other, are like the trace of its goals, from the values that the branch has there or is owed.
use Rattle.std.proofs.Common.{◌≡◌, ◌⊎◌, inl, inr, ℕ, suc, ◌+◌, true, false, List, [], ◌++◌, map, flat_map, Option, Some, None, refl, ap, sym, subst, ◌∙◌}
use Rattle.std.proofs.Math.Path.{fun_ext}
use Rattle.merc_tree.specs.declared.declarations.Module.{Module}
use Rattle.merc_graded_tree.specs.declared.basic.Procedure.{Procedure}
use Rattle.merc_graded_tree.specs.Nodes.{Node, Nodes, no_nodes, more_nodes, outputs_of}
use Rattle.merc_graded_tree.specs.Variables.{in_nodes}
use Rattle.merc_order.specs.Bound.{Bound}
use Rattle.merc_order.specs.Procedures.{modes_of}
use Rattle.merc_order_laws.specs.Bindings.{Variables}
use Rattle.merc_order_laws.specs.GoodTree.{GoodNodes}
use Rattle.merc_order_laws.proofs.Facts.{clash, either_way}
use Rattle.merc_grading.specs.Known.{Known}
use Rattle.merc_value.specs.Value.{Value}
use Rattle.merc_meaning.specs.Trace.{Env, Trace, each}
use Rattle.merc_meaning.specs.Steps.{value_at}
use Rattle.merc_meaning.specs.Runs.{Program, node_trace, all_trace, call_trace}
use Rattle.merc_program_laws.proofs.Values.{Instance, none_not, is_some_of}
use Rattle.merc_program_laws.proofs.Lawful.{Fits}
use Rattle.merc_rights.specs.declared.sites.SiteInfo.{SiteInfo}
use Rattle.merc_par_split.specs.Forks.{forks}
use Rattle.merc_rights.specs.Rights.{Right, right_to, used_in, signals_of}
use Rattle.merc_par_split.specs.Sites.{are_for}
use Rattle.merc_par_split.specs.Split.{nothing, placed, placed_conjuncts}
use Rattle.merc_par_split.proofs.SameTraces.{placed_same}
use Rattle.merc_plan.specs.Branch.{Hold, BranchCourses}
use Rattle.merc_plan.specs.Hold.{wait_for, fork_of}
use Rattle.merc_plan.specs.EachFork.{value_owed, value_or, value_before}
use Rattle.merc_plan.proofs.Flat.{Done, Answer, Like, events}
use Rattle.merc_plan.proofs.Judging.{flats}
use Rattle.merc_plan.proofs.Shown.{Shown}
use Rattle.merc_script_laws.proofs.Bonds.{Set, Here, Owed, Fit, Match, Names, Ready}
use Rattle.merc_script_laws.proofs.Placed.{in_split_conjuncts}

-- the traces of calls are those up to some depth
abbrev pub AtDepth : Program → (Procedure → Env → Trace) → Type 0
AtDepth program calls = (depth : ℕ) × (calls ≡ call_trace program depth)

-- conjuncts with their waits and signals have the trace of the conjuncts
conjuncts_traced : (program : Program) (calls : Procedure → Env → Trace) (ns : Nodes) (site number : ℕ) (outputs : List ℕ) (w s : List Right) (left : List ℕ) (env : Env)
    → all_trace program calls (placed_conjuncts site number outputs w s left ns) env ≡ all_trace program calls ns env
conjuncts_traced program calls no_nodes site number outputs w s left env = refl
conjuncts_traced program calls (more_nodes n ns) site number outputs w s left env =
    let waits : List Right = used_in n (map (right_to number) left ++ w) in
    let signals : List Right = flat_map (signals_of (suc number) ns outputs s) (outputs_of n) in
    let first : Node = placed site nothing waits signals n in
    ap (λ (f : Env → Trace). each f (node_trace program calls first env)) (fun_ext (λ inner. conjuncts_traced program calls ns (site + forks n) (suc number) outputs w s (left ++ outputs_of n) inner))
    ∙ ap (λ (t : Trace). each (λ inner. all_trace program calls ns inner) t) (placed_same program program calls (λ p arguments inner. refl) n site nothing waits signals env)

is_none : {A : Type 0} (o : Option A) → ((a : A) → o ≡ Some a → ⊥) → o ≡ None
is_none None h = refl
is_none (Some a) h = absurd (h a refl)

-- The value of a variable where a branch forks: here, owed, or none.

before_here : (hold : Hold) (x : ℕ) (v : Value) → Here hold x v → value_before hold x ≡ Some v
before_here hold x v h = ap (λ (o : Option Value). value_or o (value_owed (wait_for x hold.waits))) h

before_owed : (hold : Hold) (x c : ℕ) (v : Value) → value_at hold.env x ≡ None → Owed hold x c (Some v) → value_before hold x ≡ Some v
before_owed hold x c v n e = ap (λ (o : Option Value). value_or o (value_owed (wait_for x hold.waits))) n ∙ ap value_owed e.found ∙ e.gives

before_none : (hold : Hold) (x : ℕ) → value_at hold.env x ≡ None → wait_for x hold.waits ≡ None → value_before hold x ≡ None
before_none hold x n e = ap (λ (o : Option Value). value_or o (value_owed (wait_for x hold.waits))) n ∙ ap value_owed e

-- Given are the module, the types of the variables, and what type variables stand for; and goals in the trace's environment, before which a branch has this.
module _ (known : Module) (types i : Instance) (goals : Nodes) (out : Variables) (b : Bound) (seen : Known) (here : Set) (w : List Right) (hold : Hold) (full : Env) (fits : Fits known types i out b (in_nodes goals) seen full) (fit : Fit b here w hold)
    (match : Match w hold full) (ready : Ready here w b (in_nodes goals)) (names : Names hold) where
  bound_before : (x : ℕ) → here x ⊎ (are_for w x ≡ true) → value_at full x ≡ value_before hold x
  bound_before x (inl h) = let v = fit.held x h in match.same x v.0 v.1 ∙ sym (before_here hold x v.0 v.1)
  bound_before x (inr h) =
      let e = fit.owed x h in
      let v = match.comes x e.0 e.1.0 h e.1.1 in
      v.1.1 ∙ sym (before_owed hold x e.0 v.0 (is_none (value_at hold.env x) (λ u k. names.valueless x e.0 e.1.0 u e.1.1 k)) (subst (λ (o : Option Value). Owed hold x e.0 o) v.1.0 e.1.1))

  free_before : (x : ℕ) → in_nodes goals x ≡ true → b x ≡ false → value_at full x ≡ value_before hold x
  free_before x occurs free =
      let none : value_at full x ≡ None = is_none (value_at full x) (λ v e. clash (is_some_of (value_at full x) v e) (fits.bounds x occurs ∙ free)) in
      none
      ∙ sym (before_none hold x (is_none (value_at hold.env x) (λ v e. none_not (sym none ∙ match.same x v e)))
      (is_none (wait_for x hold.waits) (λ right e. clash (fit.known x right.cell right.value (record { right = right; found = e; at = refl; gives = refl })) free)))

  -- the trace has what the branch has or is owed
  value_there : (x : ℕ) → in_nodes goals x ≡ true → value_at full x ≡ value_before hold x
  value_there x occurs = elim (either_way (b x)) as (λ _. value_at full x ≡ value_before hold x) [
    | inl bound ↦ bound_before x (ready x occurs bound)
    | inr free ↦ free_before x occurs free
  ]

  -- The goals go into a fork with the rights of the branch.
  pub fork_shown : (program : Program) (calls : Procedure → Env → Trace) → AtDepth program calls → GoodNodes (modes_of known.preds) out b goals → (site : ℕ) (outputs : List ℕ) (v s : List Right) (info : SiteInfo) (kids : BranchCourses)
      → Like (λ (end : Hold) (found : Env). Unit {0}) (flats kids (Answer hold Done)) (events (all_trace program calls goals full)) → Shown program (fork_of info (placed_conjuncts site 1 outputs v s [] goals) hold) kids
  fork_shown program calls deep good site outputs v s info kids like = record {
    env = full;
    begins = λ x h. value_there x (in_split_conjuncts (modes_of known.preds) goals out b good site 1 outputs v s [] x h);
    depth = deep.0;
    like = subst (λ (t : Trace). Like (λ (end : Hold) (found : Env). Unit {0}) (flats kids (Answer hold Done)) (events t)) same like;
  } where
    same : all_trace program calls goals full ≡ all_trace program (call_trace program deep.0) (placed_conjuncts site 1 outputs v s [] goals) full
    same =
        ap (λ (c : Procedure → Env → Trace). all_trace program c goals full) deep.1
        ∙ sym (conjuncts_traced program (call_trace program deep.0) goals site 1 outputs v s [] full)
