-- The mode that a call takes, by its number.
use Rattle.std.specs.Prelude.{◌≡◌, ◌<◌, ◌+◌, ℕ, suc, Bool, true, false, nat_lt, List, ◌∷◌, length, drop, Option, Some, None, is_some, refl, if◌then◌else◌}
use Rattle.std.specs.List.{slice_index_or}
use Rattle.std.specs.Option.{option_map}
use Rattle.std.proofs.Common.{◌∙◌, ap, sym, subst, add-one}
use Rattle.std.proofs.lemmas.List.{drop_more}
use Rattle.merc_tree.specs.declared.declarations.ModeDecl.{ModeDecl}
use Rattle.merc_order.specs.Bound.{Bound, are_bound}
use Rattle.merc_order.specs.CallModes.{inputs_of, width, wider, taken_from}
use Rattle.merc_readiness.specs.CallModeCode.{wider_of, in_short}

picked : (b : Bool) (one other : ℕ × ModeDecl) → in_short (Some (if b then other else one)) ≡ Some (if b then (other.0, width other.1.args) else (one.0, width one.1.args))
picked true one other = refl
picked false one other = refl

short_wider : (number : ℕ) (mode : ModeDecl) (taken : Option (ℕ × ModeDecl)) → in_short (Some (wider number mode taken)) ≡ Some (wider_of number (width mode.args) (in_short taken))
short_wider number mode None = refl
short_wider number mode (Some other) = picked (nat_lt (width mode.args) (width other.1.args)) (number, mode) other

short_if : (b : Bool) (number : ℕ) (mode : ModeDecl) (taken : Option (ℕ × ModeDecl))
    → in_short (if b then Some (wider number mode taken) else taken) ≡ (if b then Some (wider_of number (width mode.args) (in_short taken)) else in_short taken)
short_if true number mode taken = short_wider number mode taken
short_if false number mode taken = refl

-- one mode more, to the left of those that were looked at
pub taken_step : (index before : ℕ) (bound : Bound) (arguments : List ℕ) (modes : List ModeDecl) (mode : ModeDecl) (best : Option (ℕ × ℕ)) → before < length modes → index ≡ suc before
    → mode ≡ slice_index_or modes before mode → best ≡ in_short (taken_from index bound arguments (drop index modes))
    → (if are_bound bound (inputs_of mode.args arguments) then Some (wider_of before (width mode.args) best) else best) ≡ in_short (taken_from before bound arguments (drop before modes))
taken_step index before bound arguments modes mode best room i m b =
    let d : drop before modes ≡ mode ∷ drop (suc before) modes = drop_more modes before mode room ∙ ap (λ x. x ∷ drop (before + 1) modes) (sym m) ∙ ap (λ n. mode ∷ drop n modes) (add-one before) in
    let e : best ≡ in_short (taken_from (suc before) bound arguments (drop (suc before) modes)) = subst (λ n. best ≡ in_short (taken_from n bound arguments (drop n modes))) i b in
    ap (λ x. if are_bound bound (inputs_of mode.args arguments) then Some (wider_of before (width mode.args) x) else x) e
    ∙ sym (short_if (are_bound bound (inputs_of mode.args arguments)) before mode (taken_from (suc before) bound arguments (drop (suc before) modes)))
    ∙ ap (λ l. in_short (taken_from before bound arguments l)) (sym d)

number_of : (taken : Option (ℕ × ModeDecl)) → option_map (λ short. short.0) (in_short taken) ≡ option_map (λ mode. mode.0) taken
number_of None = refl
number_of (Some mode) = refl

pub taken_number : (best : Option (ℕ × ℕ)) (taken : Option (ℕ × ModeDecl)) → best ≡ in_short taken → option_map (λ short. short.0) best ≡ option_map (λ mode. mode.0) taken
taken_number best taken same = ap (λ b. option_map (λ short. short.0) b) same ∙ number_of taken

pub some_number : (taken : Option (ℕ × ModeDecl)) → is_some (option_map (λ mode. mode.0) taken) ≡ is_some taken
some_number None = refl
some_number (Some mode) = refl
