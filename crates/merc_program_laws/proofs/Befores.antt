-- What holds before the parts of a goal.
use Rattle.std.proofs.Common.{◌≡◌, inl, inr, ℕ, true, false, is_some, List, ◌∷◌, Some, ap, sym, ◌∙◌}
use Rattle.merc_tree.specs.declared.declarations.Module.{Module}
use Rattle.merc_goal_tree.specs.declared.goal.Symbol.{Symbol}
use Rattle.merc_order.specs.Bound.{Bound, with, among}
use Rattle.merc_order_laws.specs.Bindings.{Variables}
use Rattle.merc_order_laws.proofs.Facts.{or_right, or_cases, either_way}
use Rattle.merc_grading.specs.Known.{Known}
use Rattle.merc_value.specs.Value.{Value, Values}
use Rattle.merc_meaning.specs.Trace.{Env}
use Rattle.merc_meaning.specs.Values.{fields}
use Rattle.merc_meaning.specs.Steps.{value_at}
use Rattle.merc_program_laws.proofs.Values.{Instance, or_false, or_with}
use Rattle.merc_program_laws.proofs.Lawful.{Fits, Goes}
use Rattle.merc_program_laws.proofs.Knowing.{knows_more}
use Rattle.merc_program_laws.proofs.TreeCategories.{not_in}

-- Given are the module, the types of the variables, and what type variables stand for.
module _ (known : Module) (types i : Instance) where
  pub narrow : (out out1 : Variables) (b : Bound) (occurs whole : Variables) (seen : Known) (env : Env) → Fits known types i out b whole seen env → ((x : ℕ) → occurs x ≡ true → whole x ≡ true) → ((x : ℕ) → out x ≡ true → out1 x ≡ true)
      → Fits known types i out1 b occurs seen env
  narrow out out1 b occurs whole seen env fits sub more_out =
      record { bounds = λ x o. fits.bounds x (sub x o); outer = λ x o h. more_out x (fits.outer x (sub x o) h); typed = fits.typed; knows = fits.knows }

  -- before the arm of a value's symbol
  pub narrow_arm : (out out1 : Variables) (b : Bound) (occurs whole : Variables) (seen : Known) (env : Env) (x : ℕ) (s : Symbol) (v : Value) (vs : Values) → Fits known types i out b whole seen env → ((y : ℕ) → occurs y ≡ true → whole y ≡ true)
      → ((y : ℕ) → out y ≡ true → out1 y ≡ true) → value_at env x ≡ Some v → fields s v ≡ Some vs → Fits known types i out1 b occurs ((x, s) ∷ seen) env
  narrow_arm out out1 b occurs whole seen env x s v vs fits sub more_out at e =
      record { bounds = λ y o. fits.bounds y (sub y o); outer = λ y o h. more_out y (fits.outer y (sub y o) h); typed = fits.typed; knows = knows_more seen env x s v vs fits.knows at e }

  -- before the second of two goals, at an answer of the first
  pub behind_first : (out out1 out2 : Variables) (b : Bound) (occ1 occ2 : Variables) (outs : List ℕ) (seen seen1 : Known) (env env1 : Env) → ((x : ℕ) → among outs x ≡ true → occ1 x ≡ true)
      → ((x : ℕ) → occ2 x ≡ true → out1 x ≡ true) → ((x : ℕ) → occ1 x ≡ true → out2 x ≡ true) → ((x : ℕ) → out x ≡ true → out2 x ≡ true)
      → Fits known types i out b (with occ1 occ2) seen env → Goes known types i out1 (with b (among outs)) occ1 seen1 env env1 → Fits known types i out2 (with b (among outs)) occ2 seen1 env1
  behind_first out out1 out2 b occ1 occ2 outs seen seen1 env env1 sub in1 in2 out_in fits goes = record {
    bounds = λ x o. elim (either_way (occ1 x)) as (λ _. is_some (value_at env1 x) ≡ with b (among outs) x) [
      | inl p ↦ goes.bounds x p (in1 x o)
      | inr p ↦ ap is_some (goes.own x p) ∙ fits.bounds x (or_right (occ1 x) (occ2 x) o) ∙ sym (or_false (b x)) ∙ sym (or_with (b x) (among outs x) false (not_in known types i (among outs) occ1 sub x p))
    ];
    outer = λ x o h. elim (or_cases (b x) (among outs x) h) as (λ _. out2 x ≡ true) [
      | inl p ↦ out_in x (fits.outer x (or_right (occ1 x) (occ2 x) o) p)
      | inr p ↦ in2 x (sub x p)
    ];
    typed = goes.typed;
    knows = goes.knows;
  }
