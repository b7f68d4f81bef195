-- A clause whose own variables are put behind others is in hand.
use Rattle.std.proofs.Common.{◌≡◌, List, [], ◌∷◌, ◌++◌, length, map, drop, ap, sym, ◌∙◌, subst, arith}
use Rattle.std.specs.Prelude.{nat_le}
use Rattle.std.specs.List.{filter}
use Rattle.std.specs.List.Sorted.{IsStrictlyIncreasing}
use Rattle.std.proofs.Math.Seq.{drop-append_seam}
use Rattle.std.proofs.lemmas.List.{append_assoc, length-append}
use Rattle.merc_goal_tree.specs.Nodes.{Node}
use Rattle.merc_goal_tree.specs.Variables.{variables}
use Rattle.merc_bodies.specs.Bodies.{joined_forms, numbered, own_variables}
use Rattle.merc_bodies.specs.Renamed.{renamed}
use Rattle.merc_bodies.specs.Grouping.{form_in}
use Rattle.merc_bodies.specs.Numbering.{new_number, own_of, IsInHand, GoesOn}
use Rattle.merc_bodies.specs.declared.grouping.Formed.{Formed}
use Rattle.merc_bodies.specs.declared.numbering.Numbering.{Numbering}
use Rattle.merc_bodies.proofs.Rising.{rising_increases}

pub own_is : (before after : Numbering) (form : Node) → GoesOn before form after → own_of after ≡ own_variables before.arity form
own_is before after form goes =
    ap (λ n. drop n after.variables.items) goes.starts_behind
    ∙ ap (drop (length before.variables.items)) goes.with_own
    ∙ drop-append_seam before.variables.items (own_variables before.arity form)

pub in_hand : (before after : Numbering) (form : Node) → GoesOn before form after → IsInHand after
in_hand before after form goes = record {
  starts = omega (arith, goes.starts_behind, ap length goes.with_own, length-append before.variables.items (own_variables before.arity form));
  rises = subst IsStrictlyIncreasing (sym (own_is before after form goes)) (rising_increases (filter (λ variable. nat_le before.arity variable) (variables form)));
}

-- Its form is joined to those before, where the others are joined behind it.
pub one_joined : (before after : Numbering) (formed : Formed) (left later : List Formed) (nodes now whole : List Node) → left ≡ formed ∷ later → GoesOn before formed.form after
    → now ≡ nodes ++ renamed (new_number after) formed.form ∷ [] → nodes ++ joined_forms before.arity (length before.variables.items) (map form_in left) ≡ whole
    → now ++ joined_forms after.arity (length after.variables.items) (map form_in later) ≡ whole
one_joined before after formed left later nodes now whole next goes put is =
    let form = formed.form in
    let forms = map form_in later in
    let own = own_variables before.arity form in
    let starts = length before.variables.items in
    let ends = length after.variables.items in
    ap (λ l. l ++ joined_forms after.arity ends forms) put
    ∙ append_assoc nodes (renamed (new_number after) form ∷ []) (joined_forms after.arity ends forms)
    ∙ ap (λ n. nodes ++ renamed (numbered n after.at (own_of after)) form ∷ joined_forms n ends forms) goes.same
    ∙ ap (λ n. nodes ++ renamed (numbered before.arity n (own_of after)) form ∷ joined_forms before.arity ends forms) goes.starts_behind
    ∙ ap (λ l. nodes ++ renamed (numbered before.arity starts l) form ∷ joined_forms before.arity ends forms) (own_is before after form goes)
    ∙ ap (λ n. nodes ++ renamed (numbered before.arity starts own) form ∷ joined_forms before.arity n forms) (ap length goes.with_own ∙ length-append before.variables.items own)
    ∙ ap (λ l. nodes ++ joined_forms before.arity starts (map form_in l)) (sym next)
    ∙ is

-- A goal that is asked has no arguments.
pub asked_numbers : (before after : Numbering) (form : Node) → GoesOn before form after → before.arity ≡ 0 → length before.variables.items ≡ 0
    → new_number after ≡ numbered 0 0 (own_variables 0 form)
asked_numbers before after form goes none empty =
    ap (λ n. numbered n after.at (own_of after)) (goes.same ∙ none)
    ∙ ap (λ n. numbered 0 n (own_of after)) (goes.starts_behind ∙ empty)
    ∙ ap (numbered 0 0) (own_is before after form goes ∙ ap (λ n. own_variables n form) none)

pub only_goal : (goal made : Node) (nodes before : List Node) → before ≡ [] → nodes ≡ before ++ made ∷ [] → nodes ≡ goal ∷ [] → goal ≡ made
only_goal goal made nodes before none put only =
    let same : goal ∷ [] ≡ made ∷ [] = sym only ∙ put ∙ ap (λ l. l ++ made ∷ []) none in
    cc
