-- Texts that are accepted as a module and as a goal over it, and texts that are not. Their words are constants, so that what is read of them is computed.
use Rattle.std.proofs.Common.{◌≡◌, ℕ, pos, true, false, List, [], ◌∷◌, ◌++◌, Some, None, codes, refl, sym, subst, ap, ◌∙◌, arith}
use Rattle.std.specs.Char.{encode_utf8}
use Rattle.merc_base.specs.FirstPlace.{first_place, IsLeast}
use Rattle.merc_base.specs.Names.{append_name, colon_minus_name, det_name, equal_name, fixed_names, is_name, member_name, module_name, pred_name, reverse_name, semicolon_name, true_name}
use Rattle.merc_base.specs.declared.category.Category.TheVariants.{Det}
use Rattle.merc_base.specs.declared.place.Span.{Span}
use Rattle.merc_base.specs.declared.refusal.Detail.TheVariants.{Plain}
use Rattle.merc_base.specs.declared.refusal.Fault.TheVariants.{Refused}
use Rattle.merc_base.specs.declared.refusal.Refusal.{Refusal}
use Rattle.merc_base.specs.declared.refusal.Rule.TheVariants.{DeclaredTwice, NoTerm, Undeclared, UnknownType, WrongForm}
use Rattle.merc_base.proofs.FirstFaultLaws.{none_at_places}
use Rattle.merc_base.proofs.FirstPlaceLaws.{first_place-least}
use Rattle.merc_base.proofs.NameExamples.{HoldsFixed-fixed}
use Rattle.merc_base.proofs.NameLaws.{fixed_names-distinct}
use Rattle.merc_tokens.specs.declared.token.Token.{Token}
use Rattle.merc_tokens.specs.declared.token.TokenKind.TheVariants.{Name as NameKind, Var as VarKind, Int as IntKind, Stop as StopKind}
use Rattle.merc_tokens.specs.declared.pieces.Spelling.TheVariants.{Name, Var, Int, Stop}
use Rattle.merc_tokens.specs.Tokens.{SpelledToken}
use Rattle.merc_tokens.specs.Tokens.HasTokensFrom.{ends, token as spelled_token}
use Rattle.merc_tokens.proofs.Deciding.{spelled_of-right}
use Rattle.merc_tree.specs.Term.{Term, Variable, Integer, Application, terms_of}
use Rattle.merc_tree.specs.Types.{IntType}
use Rattle.merc_tree.specs.declared.declarations.Clause.{Clause}
use Rattle.merc_tree.specs.declared.declarations.Module.{Module}
use Rattle.merc_tree.specs.declared.declarations.PredDecl.{PredDecl}
use Rattle.merc_terms.specs.Items.{HasGoal, HasItems, at_once, item, none as no_items, refusal_at, stopped}
use Rattle.merc_terms.specs.Operators.{operators}
use Rattle.merc_terms.specs.Reader.{reading}
use Rattle.merc_terms.specs.Reading.{token}
use Rattle.merc_terms.specs.Reading.IsName.{left_plain}
use Rattle.merc_terms.specs.Reading.Spells.{constant}
use Rattle.merc_terms.specs.Texts.{ReadsGoal, goal_limit}
use Rattle.merc_terms.proofs.Deciding.{items_in, items_in-right}
use Rattle.merc_terms.proofs.TextExamples.{goal-example, no_goal-counterexample, no_goal-example, nothing-example}
use Rattle.merc_terms.proofs.TextsRead.{items_of_text, items_of_text-right}
use Rattle.merc_item_forms.specs.FormChecks.{first_refusal}
use Rattle.merc_item_forms.specs.FormFaults.{Rises, own_name}
use Rattle.merc_item_forms.proofs.FormLaws.{no_fault as no_form_fault, first_fault}
use Rattle.merc_entries.specs.DoubleFaults.{HasDouble}
use Rattle.merc_entries.specs.Entries.{Entry, entries}
use Rattle.merc_entries.specs.EntryValue.{AreInOrder, place_at}
use Rattle.merc_entries.specs.FirstPlaces.{first_double}
use Rattle.merc_entries.specs.LibraryItems.{library_items}
use Rattle.merc_entries.proofs.EntryOrder.{entries_in_order}
use Rattle.merc_entries.proofs.FirstDoubles.{first_double-least}
use Rattle.merc_entries.proofs.LibraryReads.{are_units}
use Rattle.merc_declared.specs.AloneItems.{IsAlone}
use Rattle.merc_declared.specs.ClauseHeads.{is_alone_here}
use Rattle.merc_declared.specs.KnownTypes.{has_unknown_here}
use Rattle.merc_declared.specs.ModeFaults.{has_many_modes_here, lacks_mode_here}
use Rattle.merc_declared.specs.UnknownTypes.{HasUnknownType}
use Rattle.merc_declared.proofs.ModeFaultLaws.{lacks_least, many_least, no_mode_fault}
use Rattle.merc_items.specs.ModuleOf.{module_of}
use Rattle.merc_items.specs.ReadModule.{IsModule}
use Rattle.merc_items.specs.ReadModule.RefusesItemsOf.{first as first_refused}
use Rattle.merc_items.specs.ReadModule.RefusesModule.{items as items_refused}
use Rattle.merc_items.proofs.FirstFaults.{forms_refused, no_fault}
use Rattle.merc_goals.specs.Faults.{outside_profile}
use Rattle.merc_flat.specs.GoalFaults.{unknown_name}
use Rattle.merc_graded_tree.specs.Nodes.{Node as OrderedNode}
use Rattle.merc_order.specs.Faults.{unbound_output}
use Rattle.merc_order.specs.Procedures.{modes_of}
use Rattle.merc_grading.specs.Faults.{Body, category_fault, query_category_fault}
use Rattle.merc_check.specs.Accepted.{AcceptsGoal, HasBody, HaveBodies}
use Rattle.merc_check.specs.Accepted.RefusesClauses.{fault as clauses_faulty}
use Rattle.merc_check.specs.Accepted.RefusesGoal.{fault as goal_faulty}
use Rattle.merc_check.specs.Checked.{IsAccepted, IsGoal, Refuses, RefusesQuery}
use Rattle.merc_check.specs.Checked.Refuses.{no_module, clauses as clauses_refused}
use Rattle.merc_check.specs.Checked.RefusesQuery.{no_term, goal as goal_refused}
use Rattle.merc_check.proofs.AcceptedExamples.{tree_from}
use Rattle.merc_check.proofs.CheckedLaws.{Refuses-excludes, RefusesQuery-excludes}

abbrev span : ℕ → ℕ → ℕ → Span
span line first past = record { first = first; past = past; line = line }

abbrev apply : ℕ → ℕ → ℕ → ℕ → List Term → Term
apply line name first past arguments = Application name None (terms_of arguments) (span line first past)

-- a text of three lines, of which the third is a clause of member/0, and its items
abbrev text : List ℕ → List ℕ
text clause = codes ":- module append.\n" ++ (codes ":- pred member is det.\n" ++ clause)

abbrev items : Term → List Term
items clause =
    apply 1 colon_minus_name 0 16 (apply 1 module_name 3 16 (apply 1 append_name 10 16 [] ∷ []) ∷ []) ∷
    apply 2 colon_minus_name 18 39 (apply 2 pred_name 21 39 (apply 2 is_name 26 39 (apply 2 member_name 26 32 [] ∷ apply 2 det_name 36 39 [] ∷ []) ∷ []) ∷ []) ∷
    clause ∷ []

abbrev member : PredDecl
member = record { name = member_name; args = []; modes = record { args = []; category = Det; span = span 2 18 39 } ∷ []; span = span 2 18 39; unit = None }

abbrev found : Clause → Module
found clause = record { name = append_name; units = []; types = []; preds = member ∷ []; own = 1; clauses = clause ∷ [] }

-- Items in which no phase computes a fault are a module, among those of the library.

abbrev all : List Term → List Entry
all terms = entries library_items terms

is_module : (bytes : List ℕ) (terms : List Term) (known : Module) → items_of_text 40 3 bytes ≡ Some terms → Rises terms → None ≡ first_refusal fixed_names terms
    → first_double (all terms) ≡ None → first_place place_at (has_unknown_here fixed_names (own_name terms) (all terms)) (all terms) ≡ None
    → None ≡ first_place place_at (lacks_mode_here (all terms)) (all terms) → None ≡ first_place place_at (has_many_modes_here (all terms)) (all terms)
    → first_place place_at (is_alone_here (own_name terms) (all terms)) (all terms) ≡ None → known ≡ module_of fixed_names terms (all terms)
    → IsModule fixed_names fixed_names bytes terms known
is_module bytes terms known read rises forms doubles types lacking many alone same =
    let order : AreInOrder (all terms) = entries_in_order library_items terms rises in
    record {
      read_names = fixed_names;
      reads = items_of_text-right 40 3 bytes terms read fixed_names HoldsFixed-fixed;
      is = record {
        items = library_items;
        units = are_units fixed_names HoldsFixed-fixed;
        faultless =
            no_fault fixed_names terms (all terms) (no_form_fault fixed_names terms rises forms)
            (none_at_places DeclaredTwice (HasDouble (all terms)) (subst (IsLeast (HasDouble (all terms))) doubles (first_double-least (all terms) order)))
            (none_at_places UnknownType (HasUnknownType fixed_names (own_name terms) (all terms))
            (subst (IsLeast (HasUnknownType fixed_names (own_name terms) (all terms))) types (first_place-least place_at (has_unknown_here fixed_names (own_name terms) (all terms)) 0 (all terms) order)))
            (no_mode_fault (all terms) None None (lacks_least (all terms) None order lacking) (many_least (all terms) None order many) refl)
            (none_at_places Undeclared (IsAlone (own_name terms) (all terms))
            (subst (IsLeast (IsAlone (own_name terms) (all terms))) alone (first_place-least place_at (is_alone_here (own_name terms) (all terms)) 0 (all terms) order)));
        same = same;
      };
    }

-- ---- a module that is accepted: `member.`

abbrev fact_text : List ℕ
fact_text = text (codes "member.\n")

abbrev fact : Term
fact = apply 3 member_name 41 47 []

abbrev fact_found : Module
fact_found = found (record { head = fact; body = None; span = span 3 41 47 })

fact_read : items_of_text 40 3 fact_text ≡ Some (items fact)
unfolding fixed_names operators reading
fact_read = refl

fact_module : IsModule fixed_names fixed_names fact_text (items fact) fact_found
fact_module = is_module fact_text (items fact) fact_found fact_read (omega arith, (omega arith, tt)) refl refl refl refl refl refl refl

fact_category : (own : List Body) → HaveBodies fixed_names fact_found own → category_fault [] (member ∷ []) own ≡ None
fact_category [] are = absurd are
fact_category (body ∷ []) are =
    ap (λ (tree : OrderedNode). category_fault [] (member ∷ []) (record { types = body.types; tree = tree } ∷ [])) (are.0.tree.2 ∙ ap (tree_from (modes_of (member ∷ [])) 0) (sym are.0.tree.1))
fact_category (body ∷ other ∷ rest) are = absurd are.1

fact_accepted : IsAccepted fixed_names fixed_names fact_text (items fact) fact_found
fact_accepted = record {
  module_is = fact_module;
  clauses = record { flat = refl; typed = (((λ variable. IntType), record { head = tt; parts = (tt, tt) }), tt); ordered = refl; categories = fact_category };
}

fact_accepted-unrefused : (refusal : Refusal) → Refuses fixed_names fact_text refusal → ⊥
fact_accepted-unrefused refusal refuses = Refuses-excludes fixed_names fact_text fixed_names-distinct HoldsFixed-fixed fixed_names refusal (items fact) fact_found refuses fact_accepted

-- ---- a module whose clause is refused: `member :- reverse.`, where there is no reverse/0

abbrev rule_text : List ℕ
rule_text = text (codes "member :- reverse.\n")

abbrev rule : Term
rule = apply 3 colon_minus_name 41 58 (fact ∷ apply 3 reverse_name 51 58 [] ∷ [])

abbrev rule_found : Module
rule_found = found (record { head = fact; body = Some (apply 3 reverse_name 51 58 []); span = span 3 41 58 })

rule_read : items_of_text 40 3 rule_text ≡ Some (items rule)
unfolding fixed_names operators reading
rule_read = refl

rule_module : IsModule fixed_names fixed_names rule_text (items rule) rule_found
rule_module = is_module rule_text (items rule) rule_found rule_read (omega arith, (omega arith, tt)) refl refl refl refl refl refl refl

abbrev no_reverse : Refusal
no_reverse = unknown_name rule_found (span 3 51 58)

rule_refused : Refuses fixed_names rule_text no_reverse
rule_refused = clauses_refused fixed_names (items rule) rule_found no_reverse rule_module (clauses_faulty no_reverse refl)

rule_refused-unaccepted : (after : List (List ℕ)) (terms : List Term) (known : Module) → IsAccepted fixed_names after rule_text terms known → ⊥
rule_refused-unaccepted after terms known is = Refuses-excludes fixed_names rule_text fixed_names-distinct HoldsFixed-fixed after no_reverse terms known rule_refused is

-- ---- a text that is no module: the empty one has no items

abbrev empty_told : Refusal
empty_told = refusal_at WrongForm Plain (record { byte = 0; line = 1 })

empty_refused : Refuses fixed_names [] empty_told
empty_refused =
    no_module empty_told (items_refused fixed_names [] empty_told (nothing-example fixed_names)
    (first_refused fixed_names library_items empty_told (are_units fixed_names HoldsFixed-fixed)
    (forms_refused fixed_names [] (all []) (Refused empty_told) (first_fault fixed_names [] empty_told tt refl))))

empty_refused-unaccepted : (after : List (List ℕ)) (terms : List Term) (known : Module) → IsAccepted fixed_names after [] terms known → ⊥
empty_refused-unaccepted after terms known is = Refuses-excludes fixed_names [] fixed_names-distinct HoldsFixed-fixed after empty_told terms known empty_refused is

-- ---- goals over the module that is accepted

-- `member`
abbrev asked : Term
asked = apply 1 member_name 0 6 []

asked_read : ReadsGoal fixed_names fixed_names (codes "member") asked
unfolding goal_limit encode_utf8 fixed_names
asked_read = record {
  within = omega arith;
  tokens = token (NameKind member_name) (span 1 0 6) ∷ [];
  read = record {
    spelled = record { kind = Name (codes "member"); span = span 1 0 6 } ∷ [];
    has = record { utf8 = (codes "member", (refl, refl)); all = spelled_token 0 6 false (Name (codes "member")) [] refl (ends 6 true refl) };
    named = refl;
    table = refl;
  };
  goal = record {
    spelled = record {
      priority = 0;
      rest = [];
      within = omega arith;
      spelled = constant true (NameKind member_name) member_name (span 1 0 6) [] (left_plain member_name [] refl) refl;
      ends = at_once;
    };
    allowed = record { words = tt; nested = omega arith };
  };
}

asked_category : (body : Body) → HasBody fixed_names fact_found asked body → query_category_fault [] (member ∷ []) body ≡ None
asked_category body is =
    ap (λ (tree : OrderedNode). query_category_fault [] (member ∷ []) (record { types = body.types; tree = tree })) (is.tree.2 ∙ ap (tree_from (modes_of (member ∷ [])) 0) (sym is.tree.1))

asked_accepted : IsGoal fixed_names fixed_names fact_found (codes "member") asked
asked_accepted = record {
  reads = asked_read;
  accepted = record {
    flat = refl;
    typed = ((λ variable. IntType), record { head = tt; parts = (((λ name. IntType), tt), tt) });
    ordered = refl;
    categories = asked_category;
  };
}

asked_accepted-unrefused : (refusal : Refusal) → RefusesQuery fixed_names fact_found (codes "member") refusal → ⊥
asked_accepted-unrefused refusal refuses =
    RefusesQuery-excludes fixed_names (codes "member") fixed_names-distinct fact_found fixed_names fixed_names fact_text (items fact) fact_accepted fixed_names refusal asked refuses asked_accepted

-- `_Y = 1 ; true.`, which puts `_Y` into the table. By that name its variable is no answer variable, and so need not be bound by both disjuncts.

abbrev hidden_text : List ℕ
hidden_text = codes "_Y = 1 ; true."

abbrev hidden_names : List (List ℕ)
hidden_names = fixed_names ++ codes "_Y" ∷ []

abbrev hidden : Term
hidden = apply 1 semicolon_name 0 13 (apply 1 equal_name 0 6 (Variable 98 (span 1 0 2) ∷ Integer (pos 1) (span 1 5 6) ∷ []) ∷ apply 1 true_name 9 13 [] ∷ [])

abbrev hidden_spelled : List SpelledToken
hidden_spelled =
    record { kind = Var (codes "_Y"); span = span 1 0 2 } ∷ record { kind = Name (codes "="); span = span 1 3 4 } ∷ record { kind = Int 1; span = span 1 5 6 } ∷
    record { kind = Name (codes ";"); span = span 1 7 8 } ∷ record { kind = Name (codes "true"); span = span 1 9 13 } ∷ record { kind = Stop; span = span 1 13 14 } ∷ []

abbrev hidden_tokens : List Token
hidden_tokens =
    token (VarKind 98) (span 1 0 2) ∷ token (NameKind equal_name) (span 1 3 4) ∷ token (IntKind 1) (span 1 5 6) ∷
    token (NameKind semicolon_name) (span 1 7 8) ∷ token (NameKind true_name) (span 1 9 13) ∷ token StopKind (span 1 13 14) ∷ []

hidden_items : items_in 1 hidden_tokens ≡ Some (hidden ∷ [])
unfolding operators reading
hidden_items = refl

-- what is one item is a goal, with its full stop
item_is_goal : (tokens : List Token) (term : Term) → HasItems tokens (term ∷ []) → HasGoal tokens term
item_is_goal _ _ (item term _ tokens _ spelled allowed no_items) = record {
  spelled = record { priority = spelled.priority; rest = token StopKind spelled.stop ∷ []; within = spelled.within; spelled = spelled.spelled; ends = stopped spelled.stop };
  allowed = allowed;
}

hidden_read : ReadsGoal fixed_names hidden_names hidden_text hidden
unfolding goal_limit encode_utf8 fixed_names
hidden_read = record {
  within = omega arith;
  tokens = hidden_tokens;
  read = record {
    spelled = hidden_spelled;
    has = record { utf8 = (hidden_text, (refl, refl)); all = spelled_of-right 12 hidden_text hidden_spelled refl };
    named = refl;
    table = refl;
  };
  goal = item_is_goal hidden_tokens hidden (items_in-right 1 hidden_tokens (hidden ∷ []) hidden_items);
}

hidden_category : (body : Body) → HasBody hidden_names fact_found hidden body → query_category_fault [] (member ∷ []) body ≡ None
unfolding fixed_names
hidden_category body is =
    ap (λ (tree : OrderedNode). query_category_fault [] (member ∷ []) (record { types = body.types; tree = tree })) (is.tree.2 ∙ ap (tree_from (modes_of (member ∷ [])) 1) (sym is.tree.1))

hidden_accepted : IsGoal fixed_names hidden_names fact_found hidden_text hidden
unfolding fixed_names
hidden_accepted = record {
  reads = hidden_read;
  accepted = record {
    flat = refl;
    typed = ((λ variable. IntType), record { head = tt; parts = (refl, (tt, (tt, tt))) });
    ordered = refl;
    categories = hidden_category;
  };
}

-- by the table as it was before
hidden_accepted-before : AcceptsGoal fixed_names fact_found hidden → ⊥
unfolding fixed_names
hidden_accepted-before accepts = let wrong : Some (unbound_output (span 1 0 13)) ≡ None = accepts.ordered in cc

-- `X`, a term that is no goal
abbrev lone : Term
lone = Variable 0 (span 1 0 1)

lone_refused : RefusesQuery [] fact_found (codes "X") (outside_profile (span 1 0 1))
lone_refused = goal_refused (codes "X" ∷ []) lone (outside_profile (span 1 0 1)) goal-example (goal_faulty (outside_profile (span 1 0 1)) refl)

lone_refused-unaccepted : IsGoal [] (codes "X" ∷ []) fact_found (codes "X") lone → ⊥
lone_refused-unaccepted is = let wrong : Some (outside_profile (span 1 0 1)) ≡ None = is.accepted.flat in cc

-- the empty text, which is no term
empty_goal_refused : (names : List (List ℕ)) → RefusesQuery names fact_found [] (refusal_at NoTerm Plain (record { byte = 0; line = 1 }))
empty_goal_refused names = no_term (refusal_at NoTerm Plain (record { byte = 0; line = 1 })) (no_goal-example names)

empty_goal_refused-unaccepted : (after : List (List ℕ)) (term : Term) → IsGoal fixed_names after fact_found [] term → ⊥
empty_goal_refused-unaccepted after term is = no_goal-counterexample fixed_names after term fixed_names-distinct is.reads
