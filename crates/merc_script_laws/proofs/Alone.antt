-- A branch that holds no rights has what its goal uses.
use Rattle.std.proofs.Common.{◌≡◌, inl, ℕ, true, is_some, [], Option, Some, refl, ap, sym, ◌∙◌}
use Rattle.merc_tree.specs.declared.declarations.Module.{Module}
use Rattle.merc_order.specs.Bound.{Bound}
use Rattle.merc_order_laws.specs.Bindings.{Variables}
use Rattle.merc_order_laws.proofs.Facts.{clash}
use Rattle.merc_grading.specs.Known.{Known}
use Rattle.merc_value.specs.Value.{Value}
use Rattle.merc_meaning.specs.Trace.{Env}
use Rattle.merc_meaning.specs.Values.{fields}
use Rattle.merc_meaning.specs.Steps.{value_at}
use Rattle.merc_program_laws.proofs.Values.{Instance, none_not, same_some, some_of, is_some_of}
use Rattle.merc_program_laws.proofs.Lawful.{Fits}
use Rattle.merc_plan.specs.Hold.{holding}
use Rattle.merc_script_laws.proofs.Bonds.{Set, Owed, Fit, Fine, Match, Names, Ready}

-- what is bound and has a value is here
abbrev pub bound_here : Bound → Env → Set
bound_here b env x = (b x ≡ true) × (is_some (value_at env x) ≡ true)

none_owed : (env : Env) (next x c : ℕ) (o : Option Value) → Owed (holding env next) x c o → ⊥
none_owed env next x c o p = none_not p.found

pub alone_fit : (b : Bound) (env : Env) (next : ℕ) → Fit b (bound_here b env) [] (holding env next)
alone_fit b env next = record {
  held = λ x h. some_of (value_at env x) h.1;
  below = λ x h. h.0;
  owed = λ x h. clash h refl;
  known = λ x c o p. absurd (none_owed env next x c o p);
  once = tt;
}

pub alone_match : (env : Env) (next : ℕ) → Match [] (holding env next) env
alone_match env next = record { same = λ x v h. h; comes = λ x c o h p. clash h refl }

pub alone_names : (env : Env) (next : ℕ) → Names (holding env next)
alone_names env next = record {
  low = λ x c h. clash h refl;
  apart = λ x y c h k. clash h refl;
  low_owed = λ x c o p. absurd (none_owed env next x c o p);
  apart_owed = λ x y c o q p k. absurd (none_owed env next x c o p);
  single = λ x. tt;
  kinds = λ x y c o h p. clash h refl;
  cells = tt;
  wait_cells = tt;
  wait_variables = tt;
  valueless = λ x c o v p h. absurd (none_owed env next x c o p);
}

-- Given are the module, the types of the variables, and what type variables stand for.
module _ (known : Module) (types i : Instance) where
  pub alone_ready : (out : Variables) (b : Bound) (occurs : Variables) (seen : Known) (env : Env) → Fits known types i out b occurs seen env → Ready (bound_here b env) [] b occurs
  alone_ready out b occurs seen env fits x u h = inl (h, fits.bounds x u ∙ h)

  pub alone_fine : (out : Variables) (b : Bound) (occurs : Variables) (seen : Known) (env : Env) (next : ℕ) → Fits known types i out b occurs seen env → Fine known types i out b occurs seen (holding env next)
  alone_fine out b occurs seen env next fits = record {
    exact = λ x v o h. sym (fits.bounds x o) ∙ is_some_of (value_at env x) v h;
    outer = fits.outer;
    typed = λ x v h. fits.typed x v h;
    typed_owed = λ x c v p. absurd (none_owed env next x c (Some v) p);
    bound = λ x s o e. let k = fits.knows x s e in sym (fits.bounds x o) ∙ is_some_of (value_at env x) k.0 k.2;
    knows = λ x s v e h. let k = fits.knows x s e in (k.1, ap (fields s) (same_some (sym h ∙ k.2)) ∙ k.3);
    knows_owed = λ x c s v o e p. absurd (none_owed env next x c (Some v) p);
  }
