-- Steps of the check of procedures.
use Rattle.std.proofs.Common.{◌≡◌, ◌<◌, ◌≤◌, ◌+◌, ◌-◌, ℕ, zero, suc, List, [], ◌∷◌, ◌++◌, length, Option, Some, slice_get, take, get_or, refl, sym, ap, ap₂, subst, arith, ◌∙◌}
use Rattle.std.proofs.lemmas.List.{append_assoc, append-nil, length-append, length-map}
use Rattle.std.proofs.lemmas.Option.{same_Some}
use Rattle.merc_base.specs.FirstFault.{first_of_faults}
use Rattle.merc_base.specs.declared.refusal.Refusal.{Refusal}
use Rattle.merc_tree.specs.Types.{TypeExpr}
use Rattle.merc_tree.specs.declared.declarations.Module.{Module}
use Rattle.merc_tree.specs.declared.declarations.ModeDecl.{ModeDecl}
use Rattle.merc_tree.specs.declared.declarations.PredDecl.{PredDecl}
use Rattle.merc_tree.specs.declared.declarations.TypeDef.{TypeDef}
use Rattle.merc_graded_tree.specs.Nodes.{Node}
use Rattle.merc_order.specs.Procedures.{bound_at}
use Rattle.merc_grading.specs.Faults.{Body, Procedure, all_finished, finished, mode_faults, procedure_faults, procedures_of, with_modes}
use Rattle.merc_grading.specs.Fitting.{Fits}
use Rattle.merc_categories.specs.declared.checking.Progress.{Progress}
use Rattle.merc_categories.specs.Fitted.{AreFitted, typed_as}
use Rattle.merc_categories.specs.Progress.{IsDone}

-- The body of the tree at an index.
pub record IsBodyAt (declared : List TypeDef) (bodies : List Body) (index : ℕ) (tree : Node) (body : Body) : Type 0 where
  pub there : slice_get bodies index ≡ Some body
  pub is : body ≡ typed_as body.types tree
  pub fits : Fits declared body.types tree

pub body_at : (declared : List TypeDef) (bodies : List Body) (trees : List Node) (index : ℕ) (tree : Node) → AreFitted declared bodies trees → slice_get trees index ≡ Some tree
    → (body : Body) × IsBodyAt declared bodies index tree body
body_at declared [] [] index tree fitted there = cc
body_at declared [] (first ∷ trees) index tree fitted there = absurd fitted
body_at declared (body ∷ bodies) [] index tree fitted there = absurd fitted
body_at declared (body ∷ bodies) (first ∷ trees) zero tree fitted there =
    let same : body.tree ≡ tree = fitted.0 ∙ same_Some first tree there in
    (body, record { there = refl; is = ap (λ t. typed_as body.types t) same; fits = subst (λ t. Fits declared body.types t) (same_Some first tree there) fitted.1 })
body_at declared (body ∷ bodies) (first ∷ trees) (suc index) tree fitted there =
    let found = body_at declared bodies trees index tree fitted.2 there in
    (found.0, record { there = found.1.there; is = found.1.is; fits = found.1.fits })

module _ (declared : List TypeDef) (predicates : List PredDecl) where
  pub finished_more : (procedures : List Procedure) (one : Procedure) (bodies : List Body) (body : Body) → slice_get bodies (length procedures) ≡ Some body
      → all_finished declared predicates (procedures ++ one ∷ []) bodies
      ≡ all_finished declared predicates procedures bodies ++ finished declared predicates (bound_at one.mode.args) body ∷ []
  finished_more [] one [] body there = cc
  finished_more [] one (first ∷ bodies) body there = ap (λ b. finished declared predicates (bound_at one.mode.args) b ∷ []) (same_Some first body there)
  finished_more (first ∷ procedures) one [] body there = cc
  finished_more (first ∷ procedures) one (own ∷ bodies) body there =
      ap (λ l. finished declared predicates (bound_at first.mode.args) own ∷ l) (finished_more procedures one bodies body there)

  pub finished_count : (procedures : List Procedure) (bodies : List Body) (body : Body) → slice_get bodies (length procedures) ≡ Some body
      → length (all_finished declared predicates procedures bodies) ≡ length procedures
  finished_count [] bodies body there = refl
  finished_count (first ∷ procedures) [] body there = cc
  finished_count (first ∷ procedures) (own ∷ bodies) body there = ap suc (finished_count procedures bodies body there)

pub faults_more : (procedures : List Procedure) (one : Procedure) (trees : List Node) (tree : Node) → length trees ≡ length procedures
    → procedure_faults (procedures ++ one ∷ []) (trees ++ tree ∷ []) ≡ procedure_faults procedures trees ++ mode_faults one.predicate.unit one.mode tree
faults_more [] one [] tree same = append-nil (mode_faults one.predicate.unit one.mode tree)
faults_more [] one (first ∷ trees) tree same = cc
faults_more (first ∷ procedures) one [] tree same = cc
faults_more (first ∷ procedures) one (other ∷ trees) tree same =
    ap (λ l. mode_faults first.predicate.unit first.mode other ++ l) (faults_more procedures one trees tree (cc))
    ∙ sym (append_assoc (mode_faults first.predicate.unit first.mode other) (procedure_faults procedures trees) (mode_faults one.predicate.unit one.mode tree))

last_there : (trees : List Node) (last : Node) (count : ℕ) → length trees ≡ count → slice_get (trees ++ last ∷ []) count ≡ Some last
last_there [] last zero same = refl
last_there [] last (suc count) same = cc
last_there (first ∷ trees) last zero same = cc
last_there (first ∷ trees) last (suc count) same = last_there trees last count (cc)

-- Of procedures some are done, and one more is: its tree stands at an index, and is finished where its symbols fit.
module _ (known : Module) (trees : List Node) (procedures : List Procedure) (one : Procedure) (old new : Progress) (index : ℕ) (tree : Node) (found : Option Refusal)
    (done : IsDone known trees procedures old) (some_left : 0 < old.left) (index_is : index ≡ length trees - old.left) (there : slice_get trees index ≡ Some tree)
    (finishes : (types : ℕ → TypeExpr) → Fits known.types types tree
    → new.graded ≡ old.graded ++ finished known.types known.preds (bound_at one.mode.args) (typed_as types tree) ∷ [])
    (finds : (tree : Node) → slice_get new.graded index ≡ Some tree → found ≡ first_of_faults (mode_faults one.predicate.unit one.mode tree))
    (first : (faults others : List Refusal) → old.fault ≡ first_of_faults faults → found ≡ first_of_faults others → new.fault ≡ first_of_faults (faults ++ others))
    (one_less : new.left ≡ old.left - 1) where
  at : index ≡ length procedures
  at = omega (arith, index_is, done.left)

  module _ (bodies : List Body) (fitted : AreFitted known.types bodies trees) where
    own : (body : Body) × IsBodyAt known.types bodies (length procedures) tree body
    own = body_at known.types bodies trees (length procedures) tree fitted (subst (λ (n : ℕ). slice_get trees n ≡ Some tree) at there)

    abbrev before : List Node
    before = all_finished known.types known.preds procedures bodies

    abbrev whole : Node
    whole = finished known.types known.preds (bound_at one.mode.args) own.0

    more : new.graded ≡ before ++ whole ∷ []
    more =
        finishes own.0.types own.1.fits
        ∙ ap₂ (λ (front : List Node) (body : Body). front ++ finished known.types known.preds (bound_at one.mode.args) body ∷ []) (done.graded bodies fitted) (sym own.1.is)

    all : all_finished known.types known.preds (procedures ++ one ∷ []) bodies ≡ before ++ whole ∷ []
    all = finished_more known.types known.preds procedures one bodies own.0 own.1.there

    count : length before ≡ length procedures
    count = finished_count known.types known.preds procedures bodies own.0 own.1.there

    whole_there : slice_get new.graded index ≡ Some whole
    whole_there = ap₂ (λ (l : List Node) (n : ℕ). slice_get l n) more at ∙ last_there before whole (length procedures) count

    fault_more : new.fault ≡ first_of_faults (procedure_faults (procedures ++ one ∷ []) (all_finished known.types known.preds (procedures ++ one ∷ []) bodies))
    fault_more =
        first (procedure_faults procedures before) (mode_faults one.predicate.unit one.mode whole) (done.fault bodies fitted) (finds whole whole_there)
        ∙ ap first_of_faults (sym (faults_more procedures one before whole count))
        ∙ ap (λ (l : List Node). first_of_faults (procedure_faults (procedures ++ one ∷ []) l)) (sym all)

  pub next_done : IsDone known trees (procedures ++ one ∷ []) new
  next_done = record {
    left = omega (arith, done.left, some_left, one_less, length-append procedures (one ∷ []));
    graded = λ bodies fitted. more bodies fitted ∙ sym (all bodies fitted);
    fault = fault_more;
  }

-- A predicate's modes are among all procedures behind those of the predicates before it.
pub modes_within : (predicates : List PredDecl) (index : ℕ) (declared : PredDecl) → index < length predicates
    → length (procedures_of (take index predicates)) + length (get_or predicates index declared).modes ≤ length (procedures_of predicates)
modes_within [] index declared within = absurd (omega (arith, within))
modes_within (first ∷ rest) zero declared within =
    omega (arith, length-append (with_modes first first.modes) (procedures_of rest), length-map {B = Procedure} first.modes (λ (mode : ModeDecl). record { predicate = first; mode = mode }))
modes_within (first ∷ rest) (suc index) declared within =
    omega (
      arith,
      modes_within rest index declared (omega (arith, within)),
      length-append (with_modes first first.modes) (procedures_of rest),
      length-append (with_modes first first.modes) (procedures_of (take index rest)),
    )

pub enough_left : (known : Module) (trees : List Node) (items : List PredDecl) (index : ℕ) (declared : PredDecl) (progress : Progress) → items ≡ known.preds → index < length items
    → declared ≡ get_or items index declared → length trees ≡ length (procedures_of known.preds) → IsDone known trees (procedures_of (take index known.preds)) progress
    → length declared.modes ≤ progress.left
enough_left known trees items index declared progress same within is count done =
    let there : declared ≡ get_or known.preds index declared = is ∙ ap (λ (l : List PredDecl). get_or l index declared) same in
    omega (arith, modes_within known.preds index declared (omega (arith, within, ap (λ (l : List PredDecl). length l) same)), ap (λ (d : PredDecl). length d.modes) there, count, done.left)
