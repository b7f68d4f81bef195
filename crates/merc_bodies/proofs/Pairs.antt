-- Clauses with their forms are the clauses, where each has the form that a function gives.
use Rattle.std.proofs.Common.{◌≡◌, ℕ, zero, suc, ◌+◌, ◌≤◌, Bool, true, false, cond, List, [], ◌∷◌, ◌++◌, length, map, Option, Some, None, slice_get, refl, sym, ◌∙◌, ap, drop, arith}
use Rattle.std.proofs.lemmas.List.{append_assoc, drop_all}
use Rattle.std.proofs.lemmas.List.Elements.{filter-append}
use Rattle.merc_tree.specs.declared.declarations.Clause.{Clause}
use Rattle.merc_tree.specs.declared.declarations.PredDecl.{PredDecl}
use Rattle.merc_goal_tree.specs.Nodes.{Node}
use Rattle.merc_bodies.specs.Bodies.{as_one, body_of, clauses_of, is_head, joined_forms}
use Rattle.merc_bodies.specs.Grouping.{body_of_pairs, headed, paired, paired_with}
use Rattle.merc_bodies.proofs.Parts.{first_left}

module _ (form : Clause → Node) where
  paired_all : (clauses : List Clause) → paired clauses (map form clauses) ≡ map (λ clause. (clause, form clause)) clauses
  paired_all [] = refl
  paired_all (first ∷ rest) = ap (λ l. (first, form first) ∷ l) (paired_all rest)

  kept : (keeps : Bool) (first : Clause) (whole : List (Clause × Node)) (rest : List Clause) → whole ≡ map (λ clause. (clause, form clause)) rest
      → cond keeps ((first, form first) ∷ whole) whole ≡ map (λ clause. (clause, form clause)) (cond keeps (first ∷ rest) rest)
  kept true first whole rest is = ap (λ l. (first, form first) ∷ l) is
  kept false first whole rest is = is

  headed_all : (declared : PredDecl) (clauses : List Clause) → headed declared (map (λ clause. (clause, form clause)) clauses) ≡ map (λ clause. (clause, form clause)) (clauses_of clauses declared)
  headed_all declared [] = refl
  headed_all declared (first ∷ rest) = kept (is_head declared first.head) first _ (clauses_of rest declared) (headed_all declared rest)

  clauses_in : (clauses : List Clause) → map (λ (pair : Clause × Node). pair.0) (map (λ clause. (clause, form clause)) clauses) ≡ clauses
  clauses_in [] = refl
  clauses_in (first ∷ rest) = ap (λ l. first ∷ l) (clauses_in rest)

  forms_in : (clauses : List Clause) → map (λ (pair : Clause × Node). pair.1) (map (λ clause. (clause, form clause)) clauses) ≡ map form clauses
  forms_in [] = refl
  forms_in (first ∷ rest) = ap (λ l. form first ∷ l) (forms_in rest)

  body_is : (clauses : List Clause) (forms : List Node) (declared : PredDecl) → forms ≡ map form clauses
      → body_of_pairs (length declared.args) (headed declared (paired clauses forms)) ≡ body_of form clauses declared
  body_is clauses forms declared each =
      let arity = length declared.args in
      let found = clauses_of clauses declared in
      ap (λ l. body_of_pairs arity (headed declared (paired clauses l))) each
      ∙ ap (λ l. body_of_pairs arity (headed declared l)) (paired_all clauses)
      ∙ ap (body_of_pairs arity) (headed_all declared clauses)
      ∙ ap (λ l. as_one l (joined_forms arity arity (map (λ (pair : Clause × Node). pair.1) (map (λ clause. (clause, form clause)) found)))) (clauses_in found)
      ∙ ap (λ l. as_one found (joined_forms arity arity l)) (forms_in found)

  -- where each predicate has its clauses with their forms
  pub bodies_by : (pairs : PredDecl → List (Clause × Node)) (clauses : List Clause) (forms : List Node) (preds : List PredDecl)
      → ((declared : PredDecl) → pairs declared ≡ headed declared (paired clauses forms)) → forms ≡ map form clauses
      → map (λ declared. body_of_pairs (length declared.args) (pairs declared)) preds ≡ map (body_of form clauses) preds
  bodies_by pairs clauses forms [] grouped each = refl
  bodies_by pairs clauses forms (first ∷ rest) grouped each =
      ap (λ body. body ∷ map (λ declared. body_of_pairs (length declared.args) (pairs declared)) rest)
      (ap (body_of_pairs (length first.args)) (grouped first) ∙ body_is clauses forms first each)
      ∙ ap (λ l. body_of form clauses first ∷ l) (bodies_by pairs clauses forms rest grouped each)

-- the next clause with its form

none_paired : (clauses : List Clause) → paired clauses [] ≡ []
none_paired [] = refl
none_paired (first ∷ rest) = refl

next_pair : (form : Option Node) (clause : Clause) (left later : List Clause) (forms : List Node) (index : ℕ) → form ≡ slice_get forms index → left ≡ clause ∷ later
    → paired left (drop index forms) ≡ paired_with clause form ++ paired later (drop (index + 1) forms)
next_pair (Some form) clause left later forms index is next = ap (λ l. paired l (drop index forms)) next ∙ ap (paired (clause ∷ later)) (first_left forms index form is)
next_pair None clause left later forms index is next =
    ap (λ l. paired l (drop index forms)) next
    ∙ ap (paired (clause ∷ later)) (drop_all index forms (past forms index is))
    ∙ sym (none_paired later)
    ∙ ap (paired later) (sym (drop_all (index + 1) forms (omega (arith, past forms index is))))
  where
    past : (forms : List Node) (index : ℕ) → None ≡ slice_get forms index → length forms ≤ index
    past [] index is = omega arith
    past (first ∷ rest) zero is = absurd cc
    past (first ∷ rest) (suc index) is = omega (arith, past rest index is)

-- put into its group
pub one_more : (declared : PredDecl) (form : Option Node) (clause : Clause) (left later : List Clause) (forms : List Node) (index : ℕ) (before now whole : List (Clause × Node)) → form ≡ slice_get forms index → left ≡ clause ∷ later
    → now ≡ before ++ headed declared (paired_with clause form) → before ++ headed declared (paired left (drop index forms)) ≡ whole
    → now ++ headed declared (paired later (drop (index + 1) forms)) ≡ whole
one_more declared form clause left later forms index before now whole is next put same =
    ap (λ l. l ++ headed declared (paired later (drop (index + 1) forms))) put
    ∙ append_assoc before (headed declared (paired_with clause form)) (headed declared (paired later (drop (index + 1) forms)))
    ∙ ap (λ l. before ++ l) (sym (filter-append (λ (pair : Clause × Node). is_head declared pair.0.head) (paired_with clause form) (paired later (drop (index + 1) forms))))
    ∙ ap (λ l. before ++ headed declared l) (sym (next_pair form clause left later forms index is next))
    ∙ same
