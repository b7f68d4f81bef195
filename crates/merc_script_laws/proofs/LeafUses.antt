-- A goal into which nothing is pushed keeps to the rights of its branch: it leaves them as they are.
use Rattle.std.proofs.Common.{◌≡◌, ℕ, ◌<◌, ◌==◌, Bool, true, false, List, [], map, Option, refl, ap}
use Rattle.std.specs.List.{filter}
use Rattle.merc_base.specs.Category.{can_fail_of, most_of}
use Rattle.merc_base.specs.declared.category.Category.{Category}
use Rattle.merc_base.specs.declared.category.Most.TheVariants.{Zero}
use Rattle.merc_base.specs.declared.place.Span.{Span}
use Rattle.merc_tree.specs.declared.declarations.Module.{Module}
use Rattle.merc_graded_tree.specs.declared.basic.Procedure.{Procedure}
use Rattle.merc_graded_tree.specs.Nodes.{Node, node, Goal, outputs_of}
use Rattle.merc_graded_tree.specs.Variables.{in_goal, in_node}
use Rattle.merc_order.specs.Bound.{Bound}
use Rattle.merc_order.specs.Procedures.{modes_of}
use Rattle.merc_order_laws.specs.Bindings.{Variables}
use Rattle.merc_order_laws.proofs.Facts.{clash}
use Rattle.merc_grading.specs.Known.{Known, known_behind}
use Rattle.merc_grading.specs.Grading.{category_at}
use Rattle.merc_value.specs.Value.{Value}
use Rattle.merc_meaning.specs.Trace.{Env, Trace}
use Rattle.merc_meaning.specs.Runs.{Program, node_trace}
use Rattle.merc_program_laws.specs.GoodPrograms.{AreGoodTypes}
use Rattle.merc_program_laws.proofs.Values.{Instance}
use Rattle.merc_program_laws.proofs.Calls.{LawfulCalls}
use Rattle.merc_par_split.specs.Split.{nothing}
use Rattle.merc_plan.specs.Branch.{HeldSignal, Hold, Gift, BranchCourse}
use Rattle.merc_plan.specs.Branches.{Plan, node_branch}
use Rattle.merc_plan.proofs.Flat.{Like, events}
use Rattle.merc_plan.proofs.Judging.{flat, Keeps, Quiet}
use Rattle.merc_plan.proofs.Likes.{like_notdone, each_more}
use Rattle.merc_plan.proofs.Holds.{StillHeld, quiet_ends}
use Rattle.merc_script_laws.proofs.Bonds.{Set, Fit, Fine, After, Match, Names, Moves, Ends, Ready, Used, Sound}
use Rattle.merc_script_laws.proofs.Seen.{graded_same, occurring, occurring_agrees}
use Rattle.merc_script_laws.proofs.HoldLaw.{hold_fits, hold_not_done, leaf_answers, Answered}
use Rattle.merc_script_laws.proofs.Leaf.{Leaf}

-- what a branch has is the same as itself
pub match_self : (hold : Hold) → Match [] hold hold.env
match_self hold = record { same = λ x v h. h; comes = λ x c o h p. clash h refl }

pub moves_later : (here : Set) (l1 l2 : ℕ → Bool) (outs : List ℕ) (hold hold' : Hold) → Moves here [] [] l1 outs hold hold' → Moves here [] [] l2 outs hold hold'
moves_later here l1 l2 outs hold hold' m =
    record { keep = m.keep; fresh = m.fresh; got = λ x c o h l p. clash h refl; rest = m.rest; old = m.old; next = m.next; names = m.names; signed = m.signed; still = m.still; unsigned = m.unsigned }

-- Given are the module, the types of the variables, and what type variables stand for.
module _ (known : Module) (types i : Instance) where
  -- a sound goal is so with what is known of its variables alone
  pub sound_occurring : (out : Variables) (b : Bound) (seen : Known) (n : Node) → Sound known types i out b seen n → Sound known types i out b (occurring n seen) n
  sound_occurring out b seen n sound = record {
    good = sound.good;
    graded = graded_same known.types (modes_of known.preds) types n seen (occurring n seen) (occurring_agrees n seen) sound.graded;
    parts = sound.parts;
    parallel = sound.parallel;
  }

  module _ (declared : AreGoodTypes known.types) (program : Program) (calls : Procedure → Env → Trace) (lawful : LawfulCalls known program calls) (plan : Plan) (split : Program) (course : Procedure → Hold → BranchCourse) where
    -- a course that goes as the goal's trace from what the branch has, with no use of rights from before, keeps to the rights of the branch
    pub quiet_keeps : (n : Node) (t : BranchCourse) (later l : ℕ → Bool) (out : Variables) (b : Bound) (seen : Known) (here : Set) (hold : Hold) (proper : ℕ → Value → Type 0) (rights : ℕ → Bool) (held : List ℕ) (g : List Gift) → Sound known types i out b seen n
        → can_fail_of (category_at n) ≡ false → Fine known types i out b (in_node n) seen hold → Fit b here [] hold → Ready here [] b (in_node n) → ((c : ℕ) → rights c ≡ true → c < hold.next)
        → Like (Ends hold.env here [] [] l (outputs_of n) hold) (flat t) (events (node_trace program calls n hold.env)) → Quiet hold.next [] t
        → Keeps proper (Used (After known types i out b (outputs_of n) (in_node n) seen (known_behind n seen) hold) (most_of (category_at n) ≡ Zero) here [] [] later (outputs_of n) hold held g) rights held g t
    quiet_keeps n t later l out b seen here hold proper rights held g sound sure fine f r low like quiet =
        let end : List ℕ → List Gift → Hold → Type 0
        = Used (After known types i out b (outputs_of n) (in_node n) seen (known_behind n seen) hold) (most_of (category_at n) ≡ Zero) here [] [] later (outputs_of n) hold held g in
        let P : Hold → Type 0 = Answered known types i declared program calls lawful out b seen n here hold sound fine f r l in
        quiet_ends proper end rights hold.next held g low t [] held g quiet (λ c h. clash h refl) (λ c k h. h) (λ c. refl)
        (like_notdone (Ends hold.env here [] [] l (outputs_of n) hold) (flat t) (events (node_trace program calls n hold.env)) like (hold_not_done known types i declared program calls lawful out b seen n here hold sound fine f r sure))
        (each_more P (λ hold'. (held' : List ℕ) (g' : List Gift) → StillHeld hold.next held g held' g' → end held' g' hold')
        (λ hold' k held' g' still. record {
          moves = moves_later here l later (outputs_of n) hold hold' k.0;
          kept = λ c m h no. still.still c m h;
          gave = λ x c h m. clash h refl;
          left = λ c m no. still.gifts_same c;
          signed = λ x h. clash h refl;
          unsigned = λ x h. ap (λ (rights : List HeldSignal). map (λ (right : HeldSignal). right.cell) (filter (λ (right : HeldSignal). right.variable == x) rights)) (k.0.still (λ y. refl));
          behind = k.1.0;
          reached = k.1.1;
        })
        (flat t)
        (leaf_answers known types i declared program calls lawful out b seen n here hold sound fine f r l (flat t) like))

    pub leaf_keeps : (g m : Goal) (outs : List ℕ) (category : Option Category) (span : Span) → Leaf known types i program calls plan split course g m outs category span → (later : ℕ → Bool) (out : Variables) (b : Bound) (seen : Known)
        (here : Set) (hold : Hold) (proper : ℕ → Value → Type 0) (rights : ℕ → Bool) (held : List ℕ) (gifts : List Gift) → Sound known types i out b seen (node g outs category span) → can_fail_of (category_at (node g outs category span)) ≡ false
        → Fine known types i out b (in_goal g) seen hold → Fit b here [] hold → Ready here [] b (in_goal g) → Names hold → ((c : ℕ) → rights c ≡ true → c < hold.next)
        → Keeps proper (Used (After known types i out b outs (in_goal g) seen (known_behind (node g outs category span) seen) hold) (most_of (category_at (node g outs category span)) ≡ Zero) here [] [] later outs hold held gifts) rights held gifts
        (node_branch plan split course (node m outs category span) hold)
    leaf_keeps g m outs category span leaf later out b seen here hold proper rights held gifts sound sure fine f r names low =
        let n = node g outs category span in
        let a = leaf.along out b (occurring n seen) here hold hold.env (sound_occurring out b seen n sound) (hold_fits known types i out b seen n here hold fine f r) f (match_self hold) r names in
        quiet_keeps n (node_branch plan split course (node m outs category span) hold) later nothing out b seen here hold proper rights held gifts sound sure fine f r low a.0
        (leaf.quiet out b seen here hold sound fine f r names)
