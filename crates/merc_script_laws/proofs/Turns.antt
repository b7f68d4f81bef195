-- Conjunctions and quantified goals beside other branches.
use Rattle.std.proofs.Common.{◌≡◌, ℕ, Bool, false, List, [], Option, refl, ap, sym, ◌∙◌}
use Rattle.merc_base.specs.Category.{can_fail_of, most_of}
use Rattle.merc_base.specs.declared.category.Category.{Category}
use Rattle.merc_base.specs.declared.category.Most.TheVariants.{Zero}
use Rattle.merc_base.specs.declared.place.Span.{Span}
use Rattle.merc_tree.specs.declared.declarations.Module.{Module}
use Rattle.merc_graded_tree.specs.declared.basic.Procedure.{Procedure}
use Rattle.merc_graded_tree.specs.declared.entries.Running.TheVariants.{Sequential}
use Rattle.merc_graded_tree.specs.Nodes.{Node, node, Goal, Conjunction, Quantified, Nodes, no_nodes, more_nodes, outputs_of}
use Rattle.merc_graded_tree.specs.Variables.{in_node, in_nodes}
use Rattle.merc_grading.specs.Known.{Known, known_behind, known_behind_all}
use Rattle.merc_grading.specs.Grading.{given, category_at, rule}
use Rattle.merc_order.specs.Bound.{Bound, with, among}
use Rattle.merc_order.specs.Procedures.{modes_of}
use Rattle.merc_order_laws.specs.Bindings.{Variables}
use Rattle.merc_order_laws.specs.GoodTree.{behind_nodes}
use Rattle.merc_meaning.specs.Trace.{Env, Trace}
use Rattle.merc_meaning.specs.Runs.{Program, answers_once, node_trace, all_trace}
use Rattle.merc_program_laws.specs.GoodPrograms.{AreGoodTypes}
use Rattle.merc_program_laws.proofs.Values.{Instance, or_false}
use Rattle.merc_program_laws.proofs.Calls.{LawfulCalls}
use Rattle.merc_program_laws.proofs.Maxima.{capped_fail, capped_zero, capped_is_zero}
use Rattle.merc_rights.specs.Rights.{Right}
use Rattle.merc_plan.specs.Branch.{Hold, Gift, BranchCourse}
use Rattle.merc_plan.specs.Branches.{Plan, node_branch, all_branch}
use Rattle.merc_plan.proofs.Flat.{events}
use Rattle.merc_plan.proofs.Judging.{flat}
use Rattle.merc_plan.proofs.Shown.{Shown}
use Rattle.merc_plan.proofs.Likes.{like_more}
use Rattle.merc_plan.proofs.Holds.{keeps_once, keeps_end, quiet_once}
use Rattle.merc_script_laws.specs.Parallel.{AreWithin, all_outputs}
use Rattle.merc_script_laws.proofs.Bonds.{Set, After, Ends, Used, Rightful, Sound, Goes}
use Rattle.merc_script_laws.proofs.RightLists.{bound_both}
use Rattle.merc_script_laws.proofs.Steps.{after_binds}
use Rattle.merc_script_laws.proofs.Leaf.{wrap}
use Rattle.merc_script_laws.proofs.JoinedLeaves.{fewer_outputs}
use Rattle.merc_script_laws.proofs.InTurn.{Joined, SoundAll, ListGoes}

-- what goals bind one after the other
pub behind_all : (ns : Nodes) (b : Bound) (x : ℕ) → behind_nodes b ns x ≡ with b (among (all_outputs ns)) x
behind_all no_nodes b x = sym (or_false (b x))
behind_all (more_nodes n ns) b x = behind_all ns (with b (among (outputs_of n))) x ∙ sym (bound_both b (outputs_of n) (all_outputs ns) x)

-- Rights used up by a part that binds all that the whole does, and reaches its end where this does.
pub used_whole : (Behind Behind1 : Hold → Type 0) (never never1 : Type 0) (here : Set) (w s : List Right) (later : ℕ → Bool) (outs outs1 : List ℕ) (hold : Hold) (held : List ℕ) (g : List Gift) (held1 : List ℕ) (g1 : List Gift) (hold1 : Hold)
    → AreWithin outs outs1 → (never → never1) → (Behind1 hold1 → Behind hold1) → Used Behind1 never1 here w s later outs1 hold held g held1 g1 hold1 → Used Behind never here w s later outs hold held g held1 g1 hold1
used_whole Behind Behind1 never never1 here w s later outs outs1 hold held g held1 g1 hold1 all less behind u = record {
  moves = fewer_outputs here w s later outs1 outs hold hold1 all u.moves;
  kept = u.kept;
  gave = u.gave;
  left = u.left;
  signed = u.signed;
  unsigned = u.unsigned;
  behind = behind u.behind;
  reached = λ z. u.reached (less z);
}

pub rightful_whole : (w s : List Right) (outs outs1 : List ℕ) (rights : ℕ → Bool) (held : List ℕ) (g : List Gift) (hold : Hold) → AreWithin outs outs1 → Rightful w s outs rights held g hold → Rightful w s outs1 rights held g hold
rightful_whole w s outs outs1 rights held g hold all q = record { to_signal = q.to_signal; counts = q.counts; to_wait = q.to_wait; within = λ x h. all x (q.within x h); low = q.low }

-- Given are the module and the types of the variables.
module _ (known : Module) (types i : Instance) where
  -- the category of a sound goal is that of its rule
  module _ (g : Goal) (outs : List ℕ) (cat : Option Category) (span : Span) (out : Variables) (b : Bound) (seen : Known) (sound : Sound known types i out b seen (node g outs cat span)) where
    abbrev Rule : Category
    Rule = rule known.types (modes_of known.preds) types seen g

    pub rule_sure : can_fail_of (given cat) ≡ false → can_fail_of Rule ≡ false
    rule_sure h = sym (capped_fail outs Rule) ∙ sym (ap (λ (c : Option Category). can_fail_of (given c)) sound.graded.0) ∙ h

    pub rule_zero : most_of (given cat) ≡ Zero → most_of Rule ≡ Zero
    rule_zero z = capped_zero outs Rule (sym (ap (λ (c : Option Category). most_of (given c)) sound.graded.0) ∙ z)

    pub zero_rule : most_of Rule ≡ Zero → most_of (given cat) ≡ Zero
    zero_rule z = ap (λ (c : Option Category). most_of (given c)) sound.graded.0 ∙ capped_is_zero outs Rule z

  sound_all : (out : Variables) (b : Bound) (seen : Known) (ns : Nodes) (outs : List ℕ) (cat : Option Category) (span : Span) → Sound known types i out b seen (node (Conjunction Sequential ns) outs cat span) → SoundAll known types i out b seen ns
  sound_all out b seen ns outs cat span sound =
      record { good = sound.good.2.0; graded = sound.graded.1; parts = sound.parts; outputs = sound.parallel.outputs.0; beside = sound.parallel.beside; few = sound.parallel.few }

  sound_inner : (out : Variables) (b : Bound) (seen : Known) (own : List ℕ) (n : Node) (outs : List ℕ) (cat : Option Category) (span : Span) → Sound known types i out b seen (node (Quantified own n) outs cat span) → Sound known types i out b seen n
  sound_inner out b seen own n outs cat span sound = record {
    good = sound.good.2.0;
    graded = sound.graded.1;
    parts = sound.parts;
    parallel = record { outputs = sound.parallel.outputs.0; beside = sound.parallel.beside; few = sound.parallel.few };
  }

-- Given are the module, the types of the variables, and what type variables stand for; the program of the graded trees, whose calls are lawful; and the plan and
-- the program of the split trees, with the courses of its calls.
module _ (known : Module) (types i : Instance) (declared : AreGoodTypes known.types) (program : Program) (calls : Procedure → Env → Trace) (lawful : LawfulCalls known program calls)
    (plan : Plan) (split : Program) (course : Procedure → Hold → BranchCourse) (outs : List ℕ) (cat : Option Category) (span : Span) where
  pub goes_conj : (ns : Nodes) (makes : (ℕ → Bool) → List Right → List Right → Nodes) (fits : (ℕ → Bool) → List Right → List Right → Type 0)
      → ListGoes known types i declared program calls lawful plan split course ns makes fits
      → Goes known types i program calls plan split course (node (Conjunction Sequential ns) outs cat span) (λ later w s. node (Conjunction Sequential (makes later w s)) outs cat span) fits
  goes_conj ns makes fits list = record {
    along = λ later w s out b seen here hold full fit all within sound there f t r names counted.
        let wider : AreWithin outs (all_outputs ns) = sound.parallel.outputs.1 in
        let a = list.along later w s out b seen here hold full fit all (λ x h. wider x (within x h)) (sound_all known types i out b seen ns outs cat span sound) there f t r names counted in
        let go : BranchCourse = all_branch plan split course (makes later w s) hold in
        wrap (Shown program) (Ends full here w s later outs hold) (answers_once outs cat) go (all_trace program calls ns full)
        (like_more (Ends full here w s later (all_outputs ns) hold) (Ends full here w s later outs hold) (λ e q k. (fewer_outputs here w s later (all_outputs ns) outs hold e wider k.0, k.1)) (flat go) (events (all_trace program calls ns full)) a.0)
        a.1;
    uses = λ later w s out b seen here hold rights held g proper is_proper fit all sound can fine f r names q.
        let wider : AreWithin outs (all_outputs ns) = sound.parallel.outputs.1 in
        let whole : Node = node (Conjunction Sequential ns) outs cat span in
        let go : BranchCourse = all_branch plan split course (makes later w s) hold in
        let Gone : Hold → Type 0 = λ e. After known types i out b outs (in_nodes ns) seen (known_behind_all ns seen) hold e in
        let Gone1 : Hold → Type 0 = λ e. After known types i out b (all_outputs ns) (in_nodes ns) seen (known_behind_all ns seen) hold e in
        let end : List ℕ → List Gift → Hold → Type 0 = Used Gone (most_of (category_at whole) ≡ Zero) here w s later outs hold held g in
        let end1 : List ℕ → List Gift → Hold → Type 0 = Used Gone1 (most_of (Joined ns) ≡ Zero) here w s later (all_outputs ns) hold held g in
        keeps_once proper end rights (answers_once outs cat) go held g
        (keeps_end proper end end1 rights
        (λ held1 g1 e u.
        used_whole Gone Gone1 (most_of (category_at whole) ≡ Zero) (most_of (Joined ns) ≡ Zero) here w s later outs (all_outputs ns) hold held g held1 g1 e wider
        (rule_zero known types i (Conjunction Sequential ns) outs cat span out b seen sound)
        (after_binds known types i out b (behind_nodes b ns) (all_outputs ns) outs (in_nodes ns) seen (known_behind_all ns seen) hold e (behind_all ns b) sound.good.2.1) u)
        go held g
        (list.uses later w s out b seen here hold rights held g proper
        (λ x c v h k ty had. is_proper x c v h k ty (λ some sy e. had (λ z. some (zero_rule known types i (Conjunction Sequential ns) outs cat span out b seen sound z)) sy e)) fit all
        (sound_all known types i out b seen ns outs cat span sound) (rule_sure known types i (Conjunction Sequential ns) outs cat span out b seen sound can) fine f r names
        (rightful_whole w s outs (all_outputs ns) rights held g hold wider q)));
    quiet = λ later out b seen here hold fit sound fine f r names.
        quiet_once hold.next (answers_once outs cat) (all_branch plan split course (makes later [] []) hold) []
        (list.quiet later out b seen here hold fit (sound_all known types i out b seen ns outs cat span sound) fine f r names);
    rated = λ later w s. refl;
    shaped = λ later w s. refl;
  }

  pub goes_quantified : (own : List ℕ) (n : Node) (make : (ℕ → Bool) → List Right → List Right → Node) (fits : (ℕ → Bool) → List Right → List Right → Type 0) → Goes known types i program calls plan split course n make fits
      → Goes known types i program calls plan split course (node (Quantified own n) outs cat span) (λ later w s. node (Quantified own (make later w s)) outs cat span) fits
  goes_quantified own n make fits goes = record {
    along = λ later w s out b seen here hold full fit all within sound there f t r names counted.
        let wider : AreWithin outs (outputs_of n) = sound.parallel.outputs.1 in
        let a = goes.along later w s out b seen here hold full fit all (λ x h. wider x (within x h)) (sound_inner known types i out b seen own n outs cat span sound) there f t r names counted in
        let go : BranchCourse = node_branch plan split course (make later w s) hold in
        wrap (Shown program) (Ends full here w s later outs hold) (answers_once outs cat) go (node_trace program calls n full)
        (like_more (Ends full here w s later (outputs_of n) hold) (Ends full here w s later outs hold) (λ e q k. (fewer_outputs here w s later (outputs_of n) outs hold e wider k.0, k.1)) (flat go) (events (node_trace program calls n full)) a.0)
        a.1;
    uses = λ later w s out b seen here hold rights held g proper is_proper fit all sound can fine f r names q.
        let wider : AreWithin outs (outputs_of n) = sound.parallel.outputs.1 in
        let whole : Node = node (Quantified own n) outs cat span in
        let go : BranchCourse = node_branch plan split course (make later w s) hold in
        let Gone : Hold → Type 0 = λ e. After known types i out b outs (in_node n) seen (known_behind n seen) hold e in
        let Gone1 : Hold → Type 0 = λ e. After known types i out b (outputs_of n) (in_node n) seen (known_behind n seen) hold e in
        let end : List ℕ → List Gift → Hold → Type 0 = Used Gone (most_of (category_at whole) ≡ Zero) here w s later outs hold held g in
        let end1 : List ℕ → List Gift → Hold → Type 0 = Used Gone1 (most_of (category_at n) ≡ Zero) here w s later (outputs_of n) hold held g in
        keeps_once proper end rights (answers_once outs cat) go held g
        (keeps_end proper end end1 rights
        (λ held1 g1 e u.
        used_whole Gone Gone1 (most_of (category_at whole) ≡ Zero) (most_of (category_at n) ≡ Zero) here w s later outs (outputs_of n) hold held g held1 g1 e wider
        (rule_zero known types i (Quantified own n) outs cat span out b seen sound)
        (after_binds known types i out b (with b (among (outputs_of n))) (outputs_of n) outs (in_node n) seen (known_behind n seen) hold e (λ x. refl) sound.good.2.1) u)
        go held g
        (goes.uses later w s out b seen here hold rights held g proper
        (λ x c v h k ty had. is_proper x c v h k ty (λ some sy e. had (λ z. some (zero_rule known types i (Quantified own n) outs cat span out b seen sound z)) sy e)) fit all
        (sound_inner known types i out b seen own n outs cat span sound) (rule_sure known types i (Quantified own n) outs cat span out b seen sound can) fine f r names
        (rightful_whole w s outs (outputs_of n) rights held g hold wider q)));
    quiet = λ later out b seen here hold fit sound fine f r names.
        quiet_once hold.next (answers_once outs cat) (node_branch plan split course (make later [] []) hold) []
        (goes.quiet later out b seen here hold fit (sound_inner known types i out b seen own n outs cat span sound) fine f r names);
    rated = λ later w s. refl;
    shaped = λ later w s. refl;
  }
