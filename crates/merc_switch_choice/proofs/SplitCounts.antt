-- How many splits there are at the beginnings of disjuncts, and which variables they split.
use Rattle.std.specs.Prelude.{◌≡◌, ◌≤◌, ℕ, ◌+◌, ◌==◌, ◌||◌, Bool, true, false, nat_eq, List, [], ◌∷◌, length, drop, Option, Some, refl}
use Rattle.std.specs.List.{flat_map}
use Rattle.std.specs.Map.{lookup, keys_of}
use Rattle.std.proofs.Common.{◌∙◌, ap, sym, cond, arith}
use Rattle.std.proofs.lemmas.List.{length-append, drop_all}
use Rattle.merc_goal_tree.specs.declared.goal.Symbol.{Symbol}
use Rattle.merc_graded_tree.specs.Nodes.{Node}
use Rattle.merc_order.specs.Bound.{among}
use Rattle.merc_grading.specs.Switches.{beginning, is_there, split_variables}

abbrev pub split_total : List Node → ℕ
split_total [] = 0
split_total (first ∷ rest) = length (beginning first).splits + split_total rest

variables_length : (splits : List (ℕ × Symbol)) → length (flat_map (λ one. one.0 ∷ []) splits) ≡ length splits
variables_length [] = refl
variables_length (first ∷ rest) = let h = variables_length rest in omega (arith, h)

pub split_total_is : (disjuncts : List Node) → split_total disjuncts ≡ length (split_variables disjuncts)
split_total_is [] = refl
split_total_is (first ∷ rest) =
    let h = split_total_is rest in
    omega (arith, h, variables_length (beginning first).splits, length-append (flat_map (λ one. one.0 ∷ []) (beginning first).splits) (split_variables rest))

there_if : (b : Bool) (symbol : Symbol) (other : Option Symbol) → is_there (cond b (Some symbol) other) ≡ (b || is_there other)
there_if true symbol other = refl
there_if false symbol other = refl

-- a variable has a symbol where it is among the keys
pub key_there : (variable : ℕ) (entries : List (ℕ × Symbol)) → among (keys_of entries) variable ≡ is_there (lookup (nat_eq variable) entries)
key_there variable [] = refl
key_there variable (first ∷ rest) = ap (λ b. (variable == first.0) || b) (key_there variable rest) ∙ sym (there_if (variable == first.0) first.1 (lookup (nat_eq variable) rest))

pub counted : (disjuncts : List Node) (count index : ℕ) → length disjuncts ≤ index → count + split_total (drop index disjuncts) ≡ split_total disjuncts → count ≡ length (split_variables disjuncts)
counted disjuncts count index past same =
    let none : split_total (drop index disjuncts) ≡ 0 = ap split_total (drop_all index disjuncts past) in
    omega (arith, none, same, split_total_is disjuncts)
