-- What a branch has of variables and rights, before a goal and behind it.
use Rattle.std.proofs.Common.{◌≡◌, ℕ, ◌+◌, ◌<◌, ◌⊎◌, Bool, true, false, ◌==◌, List, [], length, map, Option, Some, None, slice_get}
use Rattle.std.specs.List.{AllByRecursion, filter}
use Rattle.merc_base.specs.Category.{can_fail_of, most_of}
use Rattle.merc_base.specs.declared.category.Most.TheVariants.{Zero}
use Rattle.merc_tree.specs.Types.{replaced}
use Rattle.merc_tree.specs.declared.declarations.Module.{Module}
use Rattle.merc_goal_tree.specs.declared.goal.Symbol.{Symbol}
use Rattle.merc_graded_tree.specs.declared.basic.Procedure.{Procedure}
use Rattle.merc_graded_tree.specs.Nodes.{Node, outputs_of, category_of}
use Rattle.merc_graded_tree.specs.Variables.{in_node}
use Rattle.merc_order.specs.Bound.{Bound, with, among}
use Rattle.merc_order.specs.Procedures.{modes_of}
use Rattle.merc_grading.specs.Known.{Known, known_of, known_behind}
use Rattle.merc_grading.specs.Grading.{category_at}
use Rattle.merc_order_laws.specs.Bindings.{Variables}
use Rattle.merc_order_laws.specs.GoodTree.{GoodNode}
use Rattle.merc_order_laws.specs.WrittenGoals.{basic_goals}
use Rattle.merc_value.specs.Value.{Value, Values}
use Rattle.merc_meaning.specs.Trace.{Env, Trace}
use Rattle.merc_meaning.specs.Values.{fields}
use Rattle.merc_meaning.specs.Steps.{value_at}
use Rattle.merc_meaning.specs.Runs.{Program, node_trace}
use Rattle.merc_program_laws.specs.ValueTypes.{HasType}
use Rattle.merc_program_laws.proofs.Values.{Instance}
use Rattle.merc_program_laws.proofs.Lawful.{Fits}
use Rattle.merc_program_laws.proofs.Graded.{Graded}
use Rattle.merc_program_laws.proofs.TreeCategories.{IsPart}
use Rattle.merc_core.specs.Rights.{has}
use Rattle.merc_core.specs.WellFormed.{AreDistinct}
use Rattle.merc_rights.specs.Rights.{Right}
use Rattle.merc_par_split.specs.Sites.{are_for}
use Rattle.merc_rights.specs.declared.sites.SiteInfo.{SiteInfo}
use Rattle.merc_plan.specs.Branch.{HeldWait, HeldSignal, Hold, Gift, gift_at, BranchCourse}
use Rattle.merc_plan.specs.Hold.{wait_for}
use Rattle.merc_plan.specs.Branches.{Plan, node_branch}
use Rattle.merc_plan.proofs.Flat.{Like, events}
use Rattle.merc_plan.proofs.Judging.{flat, Sure, Keeps, Quiet}
use Rattle.merc_plan.proofs.Shown.{Shown}
use Rattle.merc_script_laws.specs.Parallel.{IsParallelTree}

abbrev pub Set : Type 1
Set = ℕ → Type 0

-- a variable's value is here
abbrev pub Here : Hold → ℕ → Value → Type 0
Here hold x v = value_at hold.env x ≡ Some v

-- a variable's value is owed: the branch may wait for it at this cell, through which this comes
pub record Owed (hold : Hold) (x c : ℕ) (o : Option Value) : Type 0 where
  pub right : HeldWait
  pub found : wait_for x hold.waits ≡ Some right
  pub at : right.cell ≡ c
  pub gives : right.value ≡ o

-- the cells of its rights to signal a variable
abbrev pub signs : ℕ → Hold → List ℕ
signs x hold = map (λ right. right.cell) (filter (λ right. right.variable == x) hold.signals)

-- the number of rights for a variable
abbrev pub rights_for : ℕ → List Right → List Right
rights_for x rights = filter (λ right. right.variable == x) rights

-- as many rights to signal each variable as it is signalled
abbrev pub Counted : List Right → Hold → Type 0
Counted s hold = (x : ℕ) → are_for s x ≡ true → length (rights_for x s) ≡ length (signs x hold)

abbrev pub Within : List Right → List ℕ → Type 0
Within s outs = (x : ℕ) → are_for s x ≡ true → among outs x ≡ true

abbrev pub AllUsed : List Right → (ℕ → Bool) → Type 0
AllUsed w uses = (x : ℕ) → are_for w x ≡ true → uses x ≡ true

-- owed: each variable in w is owed, since nobody waits without a right; known: what is owed is bound, as the trace has it; once: w has one right for each variable
pub record Fit (b : Bound) (here : Set) (w : List Right) (hold : Hold) : Type 0 where
  pub held : (x : ℕ) → here x → (v : Value) × Here hold x v
  pub below : (x : ℕ) → here x → b x ≡ true
  pub owed : (x : ℕ) → are_for w x ≡ true → (c : ℕ) × ((o : Option Value) × Owed hold x c o)
  pub known : (x c : ℕ) (o : Option Value) → Owed hold x c o → b x ≡ true
  pub once : AreDistinct (map (λ (right : Right). right.variable) w)

-- the values that are here are of their types and symbols, and so are those that are owed; what occurs in a goal and has a value is bound
module _ (known : Module) (types i : Instance) where
  pub record Fine (out : Variables) (b : Bound) (occurs : Variables) (seen : Known) (hold : Hold) : Type 0 where
    pub exact : (x : ℕ) (v : Value) → occurs x ≡ true → Here hold x v → b x ≡ true
    pub outer : (x : ℕ) → occurs x ≡ true → b x ≡ true → out x ≡ true
    pub typed : (x : ℕ) (v : Value) → Here hold x v → HasType known.types v (replaced i (types x))
    pub typed_owed : (x c : ℕ) (v : Value) → Owed hold x c (Some v) → HasType known.types v (replaced i (types x))
    pub bound : (x : ℕ) (s : Symbol) → occurs x ≡ true → known_of seen x ≡ Some s → b x ≡ true
    pub knows : (x : ℕ) (s : Symbol) (v : Value) → known_of seen x ≡ Some s → Here hold x v → (vs : Values) × (fields s v ≡ Some vs)
    pub knows_owed : (x c : ℕ) (s : Symbol) (v : Value) → occurs x ≡ true → known_of seen x ≡ Some s → Owed hold x c (Some v) → (vs : Values) × (fields s v ≡ Some vs)

  -- behind a goal with these outputs
  pub record After (out : Variables) (b : Bound) (outs : List ℕ) (occurs : Variables) (seen seen' : Known) (hold hold' : Hold) : Type 0 where
    pub own : (x : ℕ) (v : Value) → occurs x ≡ false → Here hold' x v → Here hold x v
    pub exact : (x : ℕ) (v : Value) → occurs x ≡ true → out x ≡ true → Here hold' x v → with b (among outs) x ≡ true
    pub typed : (x : ℕ) (v : Value) → Here hold' x v → HasType known.types v (replaced i (types x))
    pub bound : (x : ℕ) (s : Symbol) → occurs x ≡ true → out x ≡ true → known_of seen' x ≡ Some s → with b (among outs) x ≡ true
    pub knows : (x : ℕ) (s : Symbol) (v : Value) → known_of seen' x ≡ Some s → Here hold' x v → (vs : Values) × (fields s v ≡ Some vs)
    pub same : (x : ℕ) → occurs x ≡ false → known_of seen' x ≡ known_of seen x

-- the trace's environment has the same, and what is owed comes
pub record Match (w : List Right) (hold : Hold) (full : Env) : Type 0 where
  pub same : (x : ℕ) (v : Value) → Here hold x v → value_at full x ≡ Some v
  pub comes : (x c : ℕ) (o : Option Value) → are_for w x ≡ true → Owed hold x c o → (v : Value) × ((o ≡ Some v) × (value_at full x ≡ Some v))

-- The names of cells: below next, each with one right. What is owed has no value yet.
pub record Names (hold : Hold) : Type 0 where
  pub low : (x c : ℕ) → has c (signs x hold) ≡ true → c < hold.next
  pub apart : (x y c : ℕ) → has c (signs x hold) ≡ true → has c (signs y hold) ≡ true → x ≡ y
  pub low_owed : (x c : ℕ) (o : Option Value) → Owed hold x c o → c < hold.next
  pub apart_owed : (x y c : ℕ) (o q : Option Value) → Owed hold x c o → Owed hold y c q → x ≡ y
  pub single : (x : ℕ) → AreDistinct (signs x hold)
  pub kinds : (x y c : ℕ) (o : Option Value) → has c (signs x hold) ≡ true → Owed hold y c o → ⊥
  pub cells : AreDistinct (map (λ (right : HeldSignal). right.cell) hold.signals)
  pub wait_cells : AreDistinct (map (λ (right : HeldWait). right.cell) hold.waits)
  pub wait_variables : AreDistinct (map (λ (right : HeldWait). right.variable) hold.waits)
  pub valueless : (x c : ℕ) (o : Option Value) (v : Value) → Owed hold x c o → Here hold x v → ⊥

-- From before a goal to one of its answers. later: the variables that are used behind the goal on its path. still: where nothing is signalled the rights to signal
-- stay.
pub record Moves (here : Set) (w s : List Right) (later : ℕ → Bool) (outs : List ℕ) (hold hold' : Hold) : Type 0 where
  pub keep : (x : ℕ) (v : Value) → here x → Here hold x v → Here hold' x v
  pub fresh : (x : ℕ) → among outs x ≡ true → (v : Value) × Here hold' x v
  pub got : (x c : ℕ) (o : Option Value) → are_for w x ≡ true → later x ≡ true → Owed hold x c o → (v : Value) × ((o ≡ Some v) × Here hold' x v)
  pub rest : (x c : ℕ) (o : Option Value) → are_for w x ≡ false → Owed hold x c o → Owed hold' x c o
  pub old : (x c : ℕ) (o : Option Value) → Owed hold' x c o → Owed hold x c o
  pub next : hold'.next ≡ hold.next
  pub names : Names hold → Names hold'
  pub signed : (x c : ℕ) → has c (signs x hold') ≡ true → has c (signs x hold) ≡ true
  pub still : ((x : ℕ) → are_for s x ≡ false) → hold'.signals ≡ hold.signals
  pub unsigned : (x : ℕ) → are_for s x ≡ false → signs x hold' ≡ signs x hold

abbrev pub Kept : Env → Env → Type 0
Kept full full' = (x : ℕ) (v : Value) → value_at full x ≡ Some v → value_at full' x ≡ Some v

-- at an answer: what is here is what the trace has, and the trace has kept what it had
abbrev pub Ends : Env → Set → List Right → List Right → (ℕ → Bool) → List ℕ → Hold → Hold → Env → Type 0
Ends full here w s later outs hold hold' full' =
    Moves here w s later outs hold hold' × (((x : ℕ) (v : Value) → Here hold' x v → value_at full' x ≡ Some v) × Kept full full')

-- each variable that a goal uses and that is bound before it is here or waited for
abbrev pub Ready : Set → List Right → Bound → (ℕ → Bool) → Type 0
Ready here w b uses = (x : ℕ) → uses x ≡ true → b x ≡ true → here x ⊎ (are_for w x ≡ true)

-- behind a goal that had these rights to wait
abbrev pub here_behind : Set → List Right → (ℕ → Bool) → List ℕ → Set
here_behind here w later outs x = here x ⊎ ((among outs x ≡ true) ⊎ ((are_for w x ≡ true) × (later x ≡ true)))

-- waits, and then a goal
abbrev pub here_or : Set → List Right → Set
here_or here w x = here x ⊎ (are_for w x ≡ true)

abbrev pub Parts : List Right → List Right → List Right → Type 0
Parts w first second = (x : ℕ) → are_for w x ≡ true → (are_for first x ≡ true) ⊎ (are_for second x ≡ true)

-- Rights used up: w waited for, s signalled. held: the cells for which the branch may wait; g: what it gave. Values are of their types behind it.
pub record Used (Behind : Hold → Type 0) (never : Type 0) (here : Set) (w s : List Right) (later : ℕ → Bool) (outs : List ℕ) (hold : Hold) (held : List ℕ) (g : List Gift)
    (held' : List ℕ) (g' : List Gift) (hold' : Hold) : Type 0 where
  pub moves : Moves here w s later outs hold hold'
  pub kept : (c : ℕ) → c < hold.next → has c held ≡ true → ((x : ℕ) (o : Option Value) → are_for w x ≡ true → Owed hold x c o → ⊥) → has c held' ≡ true
  pub gave : (x c : ℕ) → are_for s x ≡ true → has c (signs x hold) ≡ true → (v : Value) × ((gift_at c g' ≡ Some (Some v)) × Here hold' x v)
  pub left : (c : ℕ) → c < hold.next → ((x : ℕ) → are_for s x ≡ true → has c (signs x hold) ≡ true → ⊥) → gift_at c g' ≡ gift_at c g
  pub signed : (x : ℕ) → are_for s x ≡ true → signs x hold' ≡ []
  pub unsigned : (x : ℕ) → are_for s x ≡ false → signs x hold' ≡ signs x hold
  pub behind : Behind hold'
  pub reached : never → ⊥

-- the rights that a goal is to use: of each variable that it signals as many as there are
pub record Rightful (w s : List Right) (outs : List ℕ) (rights : ℕ → Bool) (held : List ℕ) (g : List Gift) (hold : Hold) : Type 0 where
  pub to_signal : (x c : ℕ) → are_for s x ≡ true → has c (signs x hold) ≡ true → (rights c ≡ true) × (gift_at c g ≡ None)
  pub counts : (x : ℕ) → are_for s x ≡ true → length (rights_for x s) ≡ length (signs x hold)
  pub to_wait : (x c : ℕ) (o : Option Value) → are_for w x ≡ true → Owed hold x c o → has c held ≡ true
  pub within : Within s outs
  pub low : (c : ℕ) → rights c ≡ true → c < hold.next

-- the plan has these at the sites from a number on
abbrev pub Planned : Plan → ℕ → List SiteInfo → Type 0
Planned plan site infos = (number : ℕ) (info : SiteInfo) → slice_get infos number ≡ Some info → plan (site + number) ≡ Some info

-- A sound goal: good, with its categories and types, and with what parallel conjunctions need.
module _ (known : Module) (types i : Instance) where
  pub record Sound (out : Variables) (b : Bound) (seen : Known) (n : Node) : Type 0 where
    pub good : GoodNode (modes_of known.preds) out b n
    pub graded : Graded known.types (modes_of known.preds) types seen n
    pub parts : AllByRecursion (IsPart known types i) (basic_goals n)
    pub parallel : IsParallelTree (modes_of known.preds) n

  -- What is given is proper if it is of its variable's type and has the symbol that is known of it behind the goal, where that can answer.
  abbrev pub Proper : Known → Node → List Right → Hold → (ℕ → Value → Type 0) → Type 0
  Proper seen n s hold proper = (x c : ℕ) (v : Value) → are_for s x ≡ true → has c (signs x hold) ≡ true → HasType known.types v (replaced i (types x))
      → ((most_of (category_at n) ≡ Zero → ⊥) → (sy : Symbol) → known_of (known_behind n seen) x ≡ Some sy → (vs : Values) × (fields sy v ≡ Some vs)) → proper c v

  -- Given are the program of the graded trees with the traces of its calls, and the plan and the program of the split trees with the courses of its calls.
  module _ (program : Program) (calls : Procedure → Env → Trace) (plan : Plan) (split : Program) (course : Procedure → Hold → BranchCourse) where
    -- What a goal does that is made of another by putting rights into it, where the plan has what is due for these rights: along the trace of the other, up to its
    -- first answer, and where there are no rights.
    pub record Goes (n : Node) (make : (ℕ → Bool) → List Right → List Right → Node) (fits : (ℕ → Bool) → List Right → List Right → Type 0) : Type 1 where
      pub along : (later : ℕ → Bool) (w s : List Right) (out : Variables) (b : Bound) (seen : Known) (here : Set) (hold : Hold) (full : Env) → fits later w s → AllUsed w (in_node n) → Within s (outputs_of n)
          → Sound out b seen n → Fits known types i out b (in_node n) seen full → Fit b here w hold → Match w hold full → Ready here w b (in_node n) → Names hold → Counted s hold
          → Like (Ends full here w s later (outputs_of n) hold) (flat (node_branch plan split course (make later w s) hold)) (events (node_trace program calls n full))
          × Sure (Shown program) (node_branch plan split course (make later w s) hold)
      pub uses : (later : ℕ → Bool) (w s : List Right) (out : Variables) (b : Bound) (seen : Known) (here : Set) (hold : Hold) (rights : ℕ → Bool) (held : List ℕ) (g : List Gift)
          (proper : ℕ → Value → Type 0) → Proper seen n s hold proper → fits later w s → AllUsed w (in_node n)
          → Sound out b seen n → can_fail_of (category_at n) ≡ false → Fine known types i out b (in_node n) seen hold → Fit b here w hold → Ready here w b (in_node n) → Names hold
          → Rightful w s (outputs_of n) rights held g hold
          → Keeps proper (Used (After known types i out b (outputs_of n) (in_node n) seen (known_behind n seen) hold) (most_of (category_at n) ≡ Zero) here w s later (outputs_of n) hold held g) rights held g
          (node_branch plan split course (make later w s) hold)
      pub quiet : (later : ℕ → Bool) (out : Variables) (b : Bound) (seen : Known) (here : Set) (hold : Hold) → fits later [] [] → Sound out b seen n → Fine known types i out b (in_node n) seen hold → Fit b here [] hold
          → Ready here [] b (in_node n) → Names hold → Quiet hold.next [] (node_branch plan split course (make later [] []) hold)
      pub rated : (later : ℕ → Bool) (w s : List Right) → category_of (make later w s) ≡ category_of n
      pub shaped : (later : ℕ → Bool) (w s : List Right) → outputs_of (make later w s) ≡ outputs_of n
