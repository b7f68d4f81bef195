-- The text of each rule, of each word for what stands outside the profile, and of each limit.
use Rattle.std.proofs.Common.{◌≡◌, codes, refl}
use Rattle.std.specs.Fmt.{digits}
use Rattle.merc_base.specs.Refusal.{refusal_text, construct_word, limit_word}
use Rattle.merc_base.specs.declared.category.Category.TheVariants.{Det, Semidet, Multi, Nondet, Erroneous, Failure}
use Rattle.merc_base.specs.declared.refusal.Construct.TheVariants.{Character, Float, IntegerSuffix, Declaration, Import, ModeName, Category, «Type» as TypeWord, Function, GrammarRule, Goal}
use Rattle.merc_base.specs.declared.refusal.Detail.{Detail}
use Rattle.merc_base.specs.declared.refusal.Detail.TheVariants.{Plain, Word, Limit, Pair, Categories, Conjunct}
use Rattle.merc_base.specs.declared.refusal.LimitName.TheVariants.{GoalText, Name, Integer, Nesting, Arity, Variables, Conjuncts, Modes}
use Rattle.merc_base.specs.declared.refusal.Refusal.{Refusal}
use Rattle.merc_base.specs.declared.refusal.Rule.{Rule}
use Rattle.merc_base.specs.declared.refusal.Rule.TheVariants.{BadToken, NoTerm, WrongForm, UnknownType, DeclaredTwice, Undeclared, UnknownName, TypeMismatch, MissingMode, NeverReady, BindsOuter, UnboundOutput, WrongCategory, ParallelCategory, OutsideProfile, LimitPassed}

-- a refusal at the first byte of a text
abbrev refused : Rule → Detail → Refusal
refused rule detail = record { rule = rule; place = record { byte = 0; line = 1 }; detail = detail }

pub text-bad_token : refusal_text (refused BadToken Plain) ≡ codes "rule 1: bad token"
unfolding digits
text-bad_token = refl

pub text-no_term : refusal_text (refused NoTerm Plain) ≡ codes "rule 2: no term can be read here"
unfolding digits
text-no_term = refl

pub text-wrong_form : refusal_text (refused WrongForm Plain) ≡ codes "rule 3: not a declaration, clause or goal of this form"
unfolding digits
text-wrong_form = refl

pub text-unknown_type : refusal_text (refused UnknownType Plain) ≡ codes "rule 4: unknown type"
unfolding digits
text-unknown_type = refl

pub text-declared_twice : refusal_text (refused DeclaredTwice Plain) ≡ codes "rule 5: declared twice"
unfolding digits
text-declared_twice = refl

pub text-undeclared : refusal_text (refused Undeclared Plain) ≡ codes "rule 6: a clause and its declaration do not go together"
unfolding digits
text-undeclared = refl

pub text-unknown_name : refusal_text (refused UnknownName Plain) ≡ codes "rule 7: unknown predicate or constructor"
unfolding digits
text-unknown_name = refl

pub text-type_mismatch : refusal_text (refused TypeMismatch Plain) ≡ codes "rule 8: types do not agree"
unfolding digits
text-type_mismatch = refl

pub text-missing_mode : refusal_text (refused MissingMode Plain) ≡ codes "rule 9: mode or category is missing"
unfolding digits
text-missing_mode = refl

pub text-never_ready : refusal_text (refused NeverReady Plain) ≡ codes "rule 10: conjunct is never ready"
unfolding digits
text-never_ready = refl

pub text-binds_outer : refusal_text (refused BindsOuter Plain) ≡ codes "rule 11: a negated goal or condition binds an outer variable"
unfolding digits
text-binds_outer = refl

pub text-unbound_output : refusal_text (refused UnboundOutput Plain) ≡ codes "rule 12: outputs are unbound or arms differ"
unfolding digits
text-unbound_output = refl

pub text-never_ready_before : refusal_text (refused NeverReady (Pair 2 3)) ≡ codes "rule 10: parallel conjunct 2 needs conjunct 3"
unfolding digits
text-never_ready_before = refl

pub text-wrong_category : refusal_text (refused WrongCategory (Categories Multi Nondet)) ≡ codes "rule 13: declared multi, inferred nondet"
unfolding digits
text-wrong_category = refl

pub text-erroneous : refusal_text (refused WrongCategory (Categories Failure Erroneous)) ≡ codes "rule 13: declared failure, inferred erroneous"
unfolding digits
text-erroneous = refl

pub text-det : refusal_text (refused WrongCategory (Categories Det Semidet)) ≡ codes "rule 13: declared det, inferred semidet"
unfolding digits
text-det = refl

pub text-parallel : refusal_text (refused ParallelCategory (Conjunct 3 Nondet)) ≡ codes "rule 14: parallel conjunct 3 is nondet"
unfolding digits
text-parallel = refl

pub text-outside : refusal_text (refused OutsideProfile (Word Float)) ≡ codes "rule 15: outside the profile: float"
unfolding digits
text-outside = refl

pub text-limit : refusal_text (refused LimitPassed (Limit GoalText)) ≡ codes "rule 16: limit: goal text"
unfolding digits
text-limit = refl

pub word-character : construct_word Character ≡ codes "character"
word-character = refl

pub word-float : construct_word Float ≡ codes "float"
word-float = refl

pub word-integer_suffix : construct_word IntegerSuffix ≡ codes "integer suffix"
word-integer_suffix = refl

pub word-declaration : construct_word Declaration ≡ codes "declaration"
word-declaration = refl

pub word-import : construct_word Import ≡ codes "import"
word-import = refl

pub word-mode_name : construct_word ModeName ≡ codes "mode name"
word-mode_name = refl

pub word-category : construct_word Category ≡ codes "category"
word-category = refl

pub word-type : construct_word TypeWord ≡ codes "type"
word-type = refl

pub word-function : construct_word Function ≡ codes "function"
word-function = refl

pub word-grammar_rule : construct_word GrammarRule ≡ codes "grammar rule"
word-grammar_rule = refl

pub word-goal : construct_word Goal ≡ codes "goal"
word-goal = refl

pub limit-goal_text : limit_word GoalText ≡ codes "goal text"
limit-goal_text = refl

pub limit-name : limit_word Name ≡ codes "name"
limit-name = refl

pub limit-integer : limit_word Integer ≡ codes "integer"
limit-integer = refl

pub limit-nesting : limit_word Nesting ≡ codes "nesting"
limit-nesting = refl

pub limit-arity : limit_word Arity ≡ codes "arity"
limit-arity = refl

pub limit-variables : limit_word Variables ≡ codes "variables"
limit-variables = refl

pub limit-conjuncts : limit_word Conjuncts ≡ codes "conjuncts"
limit-conjuncts = refl

pub limit-modes : limit_word Modes ≡ codes "modes"
limit-modes = refl
