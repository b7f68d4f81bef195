-- What is kept by name of the module of `KnownExamples`.
use Rattle.std.specs.Prelude.{◌≡◌, ℕ, Bool, true, false, List, [], ◌∷◌, map, Some, None, refl}
use Rattle.std.specs.Borrow.{Bor}
use Rattle.std.proofs.Common.{subst}
use Rattle.merc_base.specs.Groups.{kept}
use Rattle.merc_base.specs.Names.{list_name, require_name}
use Rattle.merc_base.specs.declared.groups.Groups.{Groups}
use Rattle.merc_tree.specs.declared.declarations.Constructor.{Constructor}
use Rattle.merc_tree.specs.declared.declarations.TypeDef.{TypeDef}
use Rattle.merc_tree.specs.declared.declarations.PredDecl.{PredDecl}
use Rattle.merc_name_resolution.specs.Indexing.{is_named, predicates_from, first_allowed, any_allowed, constructors_among, constructors_of, predicate_seen, constructor_seen, Indexes}
use Rattle.merc_name_resolution.specs.KnownExamples.{m, p, q, c, d, predicate, plain_constructor, own, of_list, example}

is_named-each : is_named p 1 (predicate p None) ∷ is_named q 1 (predicate p None) ∷ is_named p 2 (predicate p None) ∷ [] ≡ true ∷ false ∷ false ∷ []
is_named-each = refl

-- p/1 of the module, whose number is 0, and that of `list`
abbrev both : List (ℕ × PredDecl)
both = (0, predicate p None) ∷ (2, predicate p (Some list_name)) ∷ []

predicates_from-both : predicates_from 0 example.preds p 1 ≡ both
predicates_from-both = refl

predicates_from-later : predicates_from 5 example.preds q 1 ≡ (6, predicate q (Some list_name)) ∷ []
predicates_from-later = refl

-- any, one of `list`, and one of `require`, of which there is none
first_allowed-each : first_allowed m None both 3 ∷ first_allowed m (Some list_name) both 3 ∷ first_allowed m (Some require_name) both 3 ∷ [] ≡ 0 ∷ 2 ∷ 3 ∷ []
first_allowed-each = refl

constructors_among-name : constructors_among of_list of_list.constructors c 0 ≡ (of_list, plain_constructor) ∷ []
constructors_among-name = refl

-- c/0 of both types
abbrev both_constructors : List (TypeDef × Constructor)
both_constructors = (own, plain_constructor) ∷ (of_list, plain_constructor) ∷ []

constructors_of-order : constructors_of example.types c 0 ≡ both_constructors
constructors_of-order = refl

constructors_of-arity : constructors_of example.types c 1 ≡ []
constructors_of-arity = refl

any_allowed-later : any_allowed m (Some list_name) (constructors_of example.types c 0) ≡ true
any_allowed-later = refl

any_allowed-none : any_allowed m (Some m) (constructors_of example.types d 1) ≡ false
any_allowed-none = refl

-- `require` is imported; p/1 and c/0 are kept
Indexes-require : (predicates : Groups (ℕ × Bor PredDecl)) (constructors : Groups (Bor TypeDef × Bor Constructor)) → Indexes example false predicates constructors → ⊥
Indexes-require predicates constructors is = let wrong : false ≡ true = is.requires_is in cc

Indexes-predicates : (requires : Bool) (predicates : Groups (ℕ × Bor PredDecl)) (constructors : Groups (Bor TypeDef × Bor Constructor)) → kept predicates p 1 ≡ []
    → Indexes example requires predicates constructors → ⊥
Indexes-predicates requires predicates constructors none is =
    let wrong : ◌≡◌ {A = List (ℕ × PredDecl)} [] both =
    subst (λ (l : List (ℕ × Bor PredDecl)). map predicate_seen l ≡ both) none (is.predicates_are p 1) in cc

Indexes-constructors : (requires : Bool) (predicates : Groups (ℕ × Bor PredDecl)) (constructors : Groups (Bor TypeDef × Bor Constructor)) → kept constructors c 0 ≡ []
    → Indexes example requires predicates constructors → ⊥
Indexes-constructors requires predicates constructors none is =
    let wrong : ◌≡◌ {A = List (TypeDef × Constructor)} [] both_constructors =
    subst (λ (l : List (Bor TypeDef × Bor Constructor)). map constructor_seen l ≡ both_constructors) none (is.constructors_are c 0) in cc
