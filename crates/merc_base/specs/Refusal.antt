-- What a refusal says: `rule`, the rule's number, and a text that the rule and the detail determine.
use Rattle.std.specs.Prelude.{ℕ, List, ◌++◌, codes}
use Rattle.std.specs.Fmt.{decimal}
use Rattle.merc_base.specs.Category.{category_name}
use Rattle.merc_base.specs.declared.refusal.Rule.{Rule}
use Rattle.merc_base.specs.declared.refusal.Rule.TheVariants.{BadToken, NoTerm, WrongForm, UnknownType, DeclaredTwice, Undeclared, UnknownName, TypeMismatch, MissingMode, NeverReady, BindsOuter, UnboundOutput, WrongCategory, ParallelCategory, OutsideProfile, LimitPassed}
use Rattle.merc_base.specs.declared.refusal.Construct.{Construct}
use Rattle.merc_base.specs.declared.refusal.Construct.TheVariants.{Character, Float, IntegerSuffix, Declaration, Import, ModeName, Category, «Type» as TypeWord, Function, GrammarRule, Goal}
use Rattle.merc_base.specs.declared.refusal.LimitName.{LimitName}
use Rattle.merc_base.specs.declared.refusal.LimitName.TheVariants.{GoalText, Name, Integer, Nesting, Arity, Variables, Conjuncts, Modes}
use Rattle.merc_base.specs.declared.refusal.Detail.{Detail}
use Rattle.merc_base.specs.declared.refusal.Detail.TheVariants.{Plain, Word, Limit, Pair, Categories, Conjunct}
use Rattle.merc_base.specs.declared.refusal.Refusal.{Refusal}

-- the number of a rule
abbrev pub rule_number : Rule → ℕ
rule_number BadToken = 1
rule_number NoTerm = 2
rule_number WrongForm = 3
rule_number UnknownType = 4
rule_number DeclaredTwice = 5
rule_number Undeclared = 6
rule_number UnknownName = 7
rule_number TypeMismatch = 8
rule_number MissingMode = 9
rule_number NeverReady = 10
rule_number BindsOuter = 11
rule_number UnboundOutput = 12
rule_number WrongCategory = 13
rule_number ParallelCategory = 14
rule_number OutsideProfile = 15
rule_number LimitPassed = 16

-- what is said where a rule is broken; for the last four the front, which a detail follows
abbrev pub rule_text : Rule → List ℕ
rule_text BadToken = codes "bad token"
rule_text NoTerm = codes "no term can be read here"
rule_text WrongForm = codes "not a declaration, clause or goal of this form"
rule_text UnknownType = codes "unknown type"
rule_text DeclaredTwice = codes "declared twice"
rule_text Undeclared = codes "a clause and its declaration do not go together"
rule_text UnknownName = codes "unknown predicate or constructor"
rule_text TypeMismatch = codes "types do not agree"
rule_text MissingMode = codes "mode or category is missing"
rule_text NeverReady = codes "conjunct is never ready"
rule_text BindsOuter = codes "a negated goal or condition binds an outer variable"
rule_text UnboundOutput = codes "outputs are unbound or arms differ"
rule_text WrongCategory = codes "declared"
rule_text ParallelCategory = codes "parallel conjunct"
rule_text OutsideProfile = codes "outside the profile"
rule_text LimitPassed = codes "limit"

-- the words for what stands outside the supported part of the language
abbrev pub construct_word : Construct → List ℕ
construct_word Character = codes "character"
construct_word Float = codes "float"
construct_word IntegerSuffix = codes "integer suffix"
construct_word Declaration = codes "declaration"
construct_word Import = codes "import"
construct_word ModeName = codes "mode name"
construct_word Category = codes "category"
construct_word TypeWord = codes "type"
construct_word Function = codes "function"
construct_word GrammarRule = codes "grammar rule"
construct_word Goal = codes "goal"

-- the words for what the compiler limits
abbrev pub limit_word : LimitName → List ℕ
limit_word GoalText = codes "goal text"
limit_word Name = codes "name"
limit_word Integer = codes "integer"
limit_word Nesting = codes "nesting"
limit_word Arity = codes "arity"
limit_word Variables = codes "variables"
limit_word Conjuncts = codes "conjuncts"
limit_word Modes = codes "modes"

-- what is said of a detail; of a plain one, the rule's own text
abbrev pub detail_text : Rule → Detail → List ℕ
detail_text rule Plain = rule_text rule
detail_text rule (Word construct) = codes "outside the profile: " ++ construct_word construct
detail_text rule (Limit limit) = codes "limit: " ++ limit_word limit
detail_text rule (Pair one other) = codes "parallel conjunct " ++ decimal one ++ codes " needs conjunct " ++ decimal other
detail_text rule (Categories declared inferred) = codes "declared " ++ category_name declared ++ codes ", inferred " ++ category_name inferred
detail_text rule (Conjunct number category) = codes "parallel conjunct " ++ decimal number ++ codes " is " ++ category_name category

-- the whole text of a refusal
abbrev pub refusal_text : Refusal → List ℕ
refusal_text refusal = codes "rule " ++ decimal (rule_number refusal.rule) ++ codes ": " ++ detail_text refusal.rule refusal.detail
