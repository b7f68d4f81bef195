-- Each row of the operator table: its priority, how a chain of its operators is read, and which operators are looser and
-- tighter than they are.
use Rattle.std.proofs.Common.{◌≡◌, ℕ, pos, negsuc, List, [], ◌∷◌, false, length, map, Option, Some, None, refl}
use Rattle.std.specs.List.{AllByRecursion}
use Rattle.std.specs.Option.{option_map}
use Rattle.merc_base.specs.Names.{all_name, ampersand_name, arrow_name, at_least_name, at_most_name, colon_colon_name, colon_minus_name, comma_name, cons_name, div_name, else_name, end_module_name, equal_equal_name, equal_name, equivalent_name, func_name, grammar_arrow_name, greater_name, if_name, implies_name, import_module_name, is_name, less_name, minus_name, mod_name, mode_name, module_name, nil_name, not_equal_name, not_name, not_provable_name, plus_name, pred_name, rem_name, semicolon_name, slash_slash_name, some_name, star_name, then_name, type_arrow_name, type_name}
use Rattle.merc_tokens.specs.declared.token.TokenKind.{TokenKind}
use Rattle.merc_tokens.specs.declared.token.TokenKind.TheVariants.{Name, Quoted, Int, Text as TextToken, OpenArgs, Open, Close, OpenList, CloseList, Comma, Bar, Dot, Stop}
use Rattle.merc_tree.specs.Term.{Term, Integer, Text, Application, none, more, no_span}
use Rattle.merc_terms.specs.declared.operators.Operator.{Operator}
use Rattle.merc_terms.specs.Operators.{operators, infix_named, prefix_named}
use Rattle.merc_terms.specs.Reader.{reading}
use Rattle.merc_terms.proofs.ReadingExamples.{Reads, Unread, answer, reads, unread, a_name, b_name, a, b, c, a', b', c', apply}

-- priorities

abbrev infix_priorities : List ℕ → List (Option ℕ)
infix_priorities names = map (λ name. option_map (λ (operator : Operator). operator.priority) (infix_named name)) names

abbrev prefix_priorities : List ℕ → List (Option ℕ)
prefix_priorities names = map (λ name. option_map (λ (operator : Operator). operator.priority) (prefix_named name)) names

infix_1200 : infix_priorities (colon_minus_name ∷ grammar_arrow_name ∷ []) ≡ Some 1200 ∷ Some 1200 ∷ []
unfolding operators
infix_1200 = refl

infix_to_1000 : infix_priorities (type_arrow_name ∷ colon_colon_name ∷ equal_equal_name ∷ else_name ∷ then_name ∷ semicolon_name ∷ arrow_name ∷ ampersand_name ∷ comma_name ∷ [])
    ≡ Some 1179 ∷ Some 1175 ∷ Some 1175 ∷ Some 1170 ∷ Some 1150 ∷ Some 1100 ∷ Some 1050 ∷ Some 1025 ∷ Some 1000 ∷ []
unfolding operators
infix_to_1000 = refl

infix_to_701 : infix_priorities (implies_name ∷ equivalent_name ∷ is_name ∷ []) ≡ Some 920 ∷ Some 920 ∷ Some 701 ∷ []
unfolding operators
infix_to_701 = refl

infix_700 : infix_priorities (equal_name ∷ not_equal_name ∷ less_name ∷ greater_name ∷ at_most_name ∷ at_least_name ∷ []) ≡ Some 700 ∷ Some 700 ∷ Some 700 ∷ Some 700 ∷ Some 700 ∷ Some 700 ∷ []
unfolding operators
infix_700 = refl

infix_to_400 : infix_priorities (plus_name ∷ minus_name ∷ star_name ∷ slash_slash_name ∷ div_name ∷ mod_name ∷ rem_name ∷ [])
    ≡ Some 500 ∷ Some 500 ∷ Some 400 ∷ Some 400 ∷ Some 400 ∷ Some 400 ∷ Some 400 ∷ []
unfolding operators
infix_to_400 = refl

prefix_to_1160 : prefix_priorities (colon_minus_name ∷ module_name ∷ end_module_name ∷ import_module_name ∷ mode_name ∷ type_name ∷ if_name ∷ [])
    ≡ Some 1200 ∷ Some 1199 ∷ Some 1199 ∷ Some 1199 ∷ Some 1199 ∷ Some 1180 ∷ Some 1160 ∷ []
unfolding operators
prefix_to_1160 = refl

prefix_to_200 : prefix_priorities (some_name ∷ all_name ∷ not_name ∷ not_provable_name ∷ pred_name ∷ func_name ∷ minus_name ∷ [])
    ≡ Some 950 ∷ Some 950 ∷ Some 900 ∷ Some 900 ∷ Some 800 ∷ Some 800 ∷ Some 200 ∷ []
unfolding operators
prefix_to_200 = refl

-- these are all rows

row_count : length operators ≡ 41
unfolding operators
row_count = refl

-- other names are no operators

infix_none : infix_priorities (module_name ∷ if_name ∷ some_name ∷ not_name ∷ pred_name ∷ []) ≡ None ∷ None ∷ None ∷ None ∷ None ∷ []
unfolding operators
infix_none = refl

prefix_none : prefix_priorities (type_arrow_name ∷ else_name ∷ then_name ∷ equal_name ∷ plus_name ∷ rem_name ∷ []) ≡ None ∷ None ∷ None ∷ None ∷ None ∷ None ∷ []
unfolding operators
prefix_none = refl

-- what holds of each of these

each : {A B : Type 0} (left right : A → B) (P : A → Type 0) → ((x : A) → left x ≡ right x → P x) → (xs : List A) → map left xs ≡ map right xs → AllByRecursion P xs
each left right P of [] same = tt
each left right P of (x ∷ xs) same =
    let first : left x ≡ right x = cc in
    let others : map left xs ≡ map right xs = cc in
    (of x first, each left right P of xs others)

each_reads : {A : Type 0} (kinds : A → List TokenKind) (shape : A → Term) (xs : List A) → map (λ x. answer (kinds x)) xs ≡ map (λ x. Some (shape x ∷ [], false)) xs
    → AllByRecursion (λ x. Reads (kinds x) (shape x)) xs
each_reads kinds shape xs same = each (λ x. answer (kinds x)) (λ x. Some (shape x ∷ [], false)) (λ x. Reads (kinds x) (shape x)) (λ x e. reads (kinds x) (shape x) e) xs same

none_reads : {A : Type 0} (kinds : A → List TokenKind) (xs : List A) → map (λ x. answer (kinds x)) xs ≡ map (λ x. None) xs → AllByRecursion (λ x. Unread (kinds x)) xs
none_reads kinds xs same = each (λ x. answer (kinds x)) (λ x. None) (λ x. Unread (kinds x)) (λ x e. unread (kinds x) e) xs same

-- `a O b P c`, and what it may be read as

abbrev two : ℕ × ℕ → List TokenKind
two pair = a' ∷ Name pair.0 ∷ b' ∷ Name pair.1 ∷ c' ∷ []

abbrev first_outside : ℕ × ℕ → Term
first_outside pair = apply pair.0 (a ∷ apply pair.1 (b ∷ c ∷ []) ∷ [])

abbrev second_outside : ℕ × ℕ → Term
second_outside pair = apply pair.1 (apply pair.0 (a ∷ b ∷ []) ∷ c ∷ [])

abbrev twice : ℕ → ℕ × ℕ
twice name = (name, name)

abbrev turned : ℕ × ℕ → ℕ × ℕ
turned pair = (pair.1, pair.0)

-- chains that go on to the right

abbrev right_ones : List ℕ
right_ones = type_arrow_name ∷ else_name ∷ semicolon_name ∷ arrow_name ∷ ampersand_name ∷ implies_name ∷ equivalent_name ∷ []

chains_to_the_right : AllByRecursion (λ pair. Reads (two pair) (first_outside pair)) (map twice right_ones)
unfolding reading operators
chains_to_the_right = each_reads two first_outside (map twice right_ones) refl

-- chains that go on to the left

abbrev left_ones : List ℕ
left_ones = plus_name ∷ minus_name ∷ star_name ∷ slash_slash_name ∷ div_name ∷ []

chains_to_the_left : AllByRecursion (λ pair. Reads (two pair) (second_outside pair)) (map twice left_ones)
unfolding reading operators
chains_to_the_left = each_reads two second_outside (map twice left_ones) refl

-- no chains

abbrev single_ones : List ℕ
single_ones =
    colon_minus_name ∷ grammar_arrow_name ∷ colon_colon_name ∷ equal_equal_name ∷ then_name ∷ is_name ∷ equal_name ∷ not_equal_name ∷ less_name ∷ greater_name ∷
    at_most_name ∷ at_least_name ∷ mod_name ∷ rem_name ∷ []

no_chains : AllByRecursion (λ pair. Unread (two pair)) (map twice single_ones)
unfolding reading operators
no_chains = none_reads two (map twice single_ones) refl

-- of two neighbours the looser one is read outside, in both orders

abbrev loose_neighbours : List (ℕ × ℕ)
loose_neighbours =
    (colon_minus_name, type_arrow_name) ∷ (grammar_arrow_name, type_arrow_name) ∷ (type_arrow_name, colon_colon_name) ∷ (type_arrow_name, equal_equal_name) ∷
    (colon_colon_name, else_name) ∷ (equal_equal_name, else_name) ∷ (else_name, then_name) ∷ (then_name, semicolon_name) ∷ (semicolon_name, arrow_name) ∷
    (arrow_name, ampersand_name) ∷ (ampersand_name, implies_name) ∷ (ampersand_name, equivalent_name) ∷ (implies_name, is_name) ∷ (equivalent_name, is_name) ∷ []

abbrev tight_neighbours : List (ℕ × ℕ)
tight_neighbours =
    (is_name, equal_name) ∷ (is_name, not_equal_name) ∷ (is_name, less_name) ∷ (is_name, greater_name) ∷ (is_name, at_most_name) ∷ (is_name, at_least_name) ∷
    (equal_name, plus_name) ∷ (not_equal_name, plus_name) ∷ (less_name, minus_name) ∷ (greater_name, minus_name) ∷ (at_most_name, plus_name) ∷ (at_least_name, minus_name) ∷
    (plus_name, star_name) ∷ (minus_name, slash_slash_name) ∷ (plus_name, div_name) ∷ (minus_name, mod_name) ∷ (plus_name, rem_name) ∷ []

loose_first : AllByRecursion (λ pair. Reads (two pair) (first_outside pair)) loose_neighbours
unfolding reading operators
loose_first = each_reads two first_outside loose_neighbours refl

loose_second : AllByRecursion (λ pair. Reads (two pair) (second_outside pair)) (map turned loose_neighbours)
unfolding reading operators
loose_second = each_reads two second_outside (map turned loose_neighbours) refl

tight_first : AllByRecursion (λ pair. Reads (two pair) (first_outside pair)) tight_neighbours
unfolding reading operators
tight_first = each_reads two first_outside tight_neighbours refl

tight_second : AllByRecursion (λ pair. Reads (two pair) (second_outside pair)) (map turned tight_neighbours)
unfolding reading operators
tight_second = each_reads two second_outside (map turned tight_neighbours) refl

-- the comma between its neighbours: `a & b , c`, `a , b & c`, `a , b => c` and `a => b , c`

comma_inside : Reads (a' ∷ Name ampersand_name ∷ b' ∷ Comma ∷ c' ∷ []) (apply ampersand_name (a ∷ apply comma_name (b ∷ c ∷ []) ∷ []))
unfolding reading operators
comma_inside = reads _ _ refl

comma_inside_before : Reads (a' ∷ Comma ∷ b' ∷ Name ampersand_name ∷ c' ∷ []) (apply ampersand_name (apply comma_name (a ∷ b ∷ []) ∷ c ∷ []))
unfolding reading operators
comma_inside_before = reads _ _ refl

comma_outside : Reads (a' ∷ Comma ∷ b' ∷ Name implies_name ∷ c' ∷ []) (apply comma_name (a ∷ apply implies_name (b ∷ c ∷ []) ∷ []))
unfolding reading operators
comma_outside = reads _ _ refl

comma_outside_behind : Reads (a' ∷ Name equivalent_name ∷ b' ∷ Comma ∷ c' ∷ []) (apply comma_name (apply equivalent_name (a ∷ b ∷ []) ∷ c ∷ []))
unfolding reading operators
comma_outside_behind = reads _ _ refl

-- operators of one row, in both orders

abbrev equal_single_ones : List (ℕ × ℕ)
equal_single_ones =
    (colon_minus_name, grammar_arrow_name) ∷ (colon_colon_name, equal_equal_name) ∷ (equal_name, not_equal_name) ∷ (equal_name, less_name) ∷ (equal_name, greater_name) ∷
    (equal_name, at_most_name) ∷ (equal_name, at_least_name) ∷ (mod_name, rem_name) ∷ []

equal_single : AllByRecursion (λ pair. Unread (two pair)) equal_single_ones
unfolding reading operators
equal_single = none_reads two equal_single_ones refl

equal_single_turned : AllByRecursion (λ pair. Unread (two pair)) (map turned equal_single_ones)
unfolding reading operators
equal_single_turned = none_reads two (map turned equal_single_ones) refl

equal_right : AllByRecursion (λ pair. Reads (two pair) (first_outside pair)) ((implies_name, equivalent_name) ∷ (equivalent_name, implies_name) ∷ [])
unfolding reading operators
equal_right = each_reads two first_outside ((implies_name, equivalent_name) ∷ (equivalent_name, implies_name) ∷ []) refl

equal_left : AllByRecursion (λ pair. Reads (two pair) (second_outside pair))
    ((plus_name, minus_name) ∷ (minus_name, plus_name) ∷ (star_name, slash_slash_name) ∷ (slash_slash_name, star_name) ∷ (star_name, div_name) ∷ (div_name, star_name) ∷ (mod_name, star_name) ∷ (rem_name, div_name) ∷ [])
unfolding reading operators
equal_left = each_reads two second_outside ((plus_name, minus_name) ∷ (minus_name, plus_name) ∷ (star_name, slash_slash_name) ∷ (slash_slash_name, star_name) ∷ (star_name, div_name) ∷ (div_name, star_name) ∷ (mod_name, star_name) ∷ (rem_name, div_name) ∷ []) refl

-- `a * b mod c` and `a div b rem c`
equal_mixed : AllByRecursion (λ pair. Unread (two pair)) ((star_name, mod_name) ∷ (div_name, rem_name) ∷ [])
unfolding reading operators
equal_mixed = none_reads two ((star_name, mod_name) ∷ (div_name, rem_name) ∷ []) refl

-- prefix operators: `O P a`

abbrev prefixes : ℕ × ℕ → List TokenKind
prefixes pair = Name pair.0 ∷ Name pair.1 ∷ a' ∷ []

abbrev prefixed : ℕ × ℕ → Term
prefixed pair = apply pair.0 (apply pair.1 (a ∷ []) ∷ [])

abbrev one_prefix : ℕ → List TokenKind
one_prefix name = Name name ∷ a' ∷ []

abbrev single_prefixes : List ℕ
single_prefixes =
    colon_minus_name ∷ module_name ∷ end_module_name ∷ import_module_name ∷ mode_name ∷ type_name ∷ if_name ∷ pred_name ∷ func_name ∷ minus_name ∷ []

prefixes_once : AllByRecursion (λ name. Reads (one_prefix name) (apply name (a ∷ []))) single_prefixes
unfolding reading operators
prefixes_once = each_reads one_prefix (λ name. apply name (a ∷ [])) single_prefixes refl

prefixes_not_twice : AllByRecursion (λ pair. Unread (prefixes pair)) (map twice single_prefixes)
unfolding reading operators
prefixes_not_twice = none_reads prefixes (map twice single_prefixes) refl

prefixes_twice : AllByRecursion (λ pair. Reads (prefixes pair) (prefixed pair)) (map twice (not_name ∷ not_provable_name ∷ []))
unfolding reading operators
prefixes_twice = each_reads prefixes prefixed (map twice (not_name ∷ not_provable_name ∷ [])) refl

-- of two of them the looser one is read outside, and the tighter one is not

abbrev prefix_neighbours : List (ℕ × ℕ)
prefix_neighbours =
    (colon_minus_name, module_name) ∷ (colon_minus_name, end_module_name) ∷ (colon_minus_name, import_module_name) ∷ (colon_minus_name, mode_name) ∷
    (module_name, type_name) ∷ (end_module_name, type_name) ∷ (import_module_name, type_name) ∷ (mode_name, type_name) ∷ (type_name, if_name) ∷
    (if_name, not_name) ∷ (if_name, not_provable_name) ∷ (not_name, pred_name) ∷ (not_provable_name, func_name) ∷ (pred_name, minus_name) ∷ (func_name, minus_name) ∷ []

prefix_loose_outside : AllByRecursion (λ pair. Reads (prefixes pair) (prefixed pair)) prefix_neighbours
unfolding reading operators
prefix_loose_outside = each_reads prefixes prefixed prefix_neighbours refl

prefix_tight_inside : AllByRecursion (λ pair. Unread (prefixes pair)) (map turned prefix_neighbours)
unfolding reading operators
prefix_tight_inside = none_reads prefixes (map turned prefix_neighbours) refl

-- `O a P b`, where the infix operator is tighter, and where it is looser

abbrev prefix_before : ℕ × ℕ → List TokenKind
prefix_before pair = Name pair.0 ∷ a' ∷ Name pair.1 ∷ b' ∷ []

abbrev prefix_outside : ℕ × ℕ → Term
prefix_outside pair = apply pair.0 (apply pair.1 (a ∷ b ∷ []) ∷ [])

abbrev prefix_inside : ℕ × ℕ → Term
prefix_inside pair = apply pair.1 (apply pair.0 (a ∷ []) ∷ b ∷ [])

infix_tighter : AllByRecursion (λ pair. Reads (prefix_before pair) (prefix_outside pair))
    ((mode_name, type_arrow_name) ∷ (type_name, type_arrow_name) ∷ (if_name, then_name) ∷ (not_name, is_name) ∷ (not_provable_name, is_name) ∷ (pred_name, is_name) ∷ (func_name, is_name) ∷ [])
unfolding reading operators
infix_tighter = each_reads prefix_before prefix_outside ((mode_name, type_arrow_name) ∷ (type_name, type_arrow_name) ∷ (if_name, then_name) ∷ (not_name, is_name) ∷ (not_provable_name, is_name) ∷ (pred_name, is_name) ∷ (func_name, is_name) ∷ []) refl

infix_looser : AllByRecursion (λ pair. Reads (prefix_before pair) (prefix_inside pair))
    ((module_name, colon_minus_name) ∷ (type_name, colon_minus_name) ∷ (if_name, else_name) ∷ (not_name, implies_name) ∷ (not_provable_name, equivalent_name) ∷ (pred_name, implies_name) ∷ (func_name, implies_name) ∷ (minus_name, star_name) ∷ [])
unfolding reading operators
infix_looser = each_reads prefix_before prefix_inside ((module_name, colon_minus_name) ∷ (type_name, colon_minus_name) ∷ (if_name, else_name) ∷ (not_name, implies_name) ∷ (not_provable_name, equivalent_name) ∷ (pred_name, implies_name) ∷ (func_name, implies_name) ∷ (minus_name, star_name) ∷ []) refl

-- quantifiers, between `,` and `=>`: `O a b P c`, `O a P b c`, and not `O P a b c`

abbrev quantifier : ℕ × ℕ → List TokenKind
quantifier pair = Name pair.0 ∷ a' ∷ b' ∷ Name pair.1 ∷ c' ∷ []

quantifier_outside : AllByRecursion (λ pair. Reads (quantifier pair) (apply pair.0 (a ∷ apply pair.1 (b ∷ c ∷ []) ∷ []))) ((some_name, implies_name) ∷ (all_name, equivalent_name) ∷ [])
unfolding reading operators
quantifier_outside = each_reads quantifier (λ pair. apply pair.0 (a ∷ apply pair.1 (b ∷ c ∷ []) ∷ [])) ((some_name, implies_name) ∷ (all_name, equivalent_name) ∷ []) refl

quantifier_inside : AllByRecursion (λ name. Reads (Name name ∷ a' ∷ b' ∷ Comma ∷ c' ∷ []) (apply comma_name (apply name (a ∷ b ∷ []) ∷ c ∷ []))) (some_name ∷ all_name ∷ [])
unfolding reading operators
quantifier_inside = each_reads (λ name. Name name ∷ a' ∷ b' ∷ Comma ∷ c' ∷ []) (λ name. apply comma_name (apply name (a ∷ b ∷ []) ∷ c ∷ [])) (some_name ∷ all_name ∷ []) refl

abbrev nested_quantifiers : ℕ × ℕ → List TokenKind
nested_quantifiers pair = Name pair.0 ∷ a' ∷ Name pair.1 ∷ b' ∷ c' ∷ []

quantifiers_nest : AllByRecursion (λ pair. Reads (nested_quantifiers pair) (apply pair.0 (a ∷ apply pair.1 (b ∷ c ∷ []) ∷ []))) ((some_name, all_name) ∷ (all_name, some_name) ∷ [])
unfolding reading operators
quantifiers_nest = each_reads nested_quantifiers (λ pair. apply pair.0 (a ∷ apply pair.1 (b ∷ c ∷ []) ∷ [])) ((some_name, all_name) ∷ (all_name, some_name) ∷ []) refl

abbrev two_quantifiers : ℕ × ℕ → List TokenKind
two_quantifiers pair = Name pair.0 ∷ Name pair.1 ∷ a' ∷ b' ∷ c' ∷ []

quantifiers_do_not_begin : AllByRecursion (λ pair. Unread (two_quantifiers pair)) ((some_name, all_name) ∷ (all_name, some_name) ∷ [])
unfolding reading operators
quantifiers_do_not_begin = none_reads two_quantifiers ((some_name, all_name) ∷ (all_name, some_name) ∷ []) refl

-- tokens, and what they are read as

abbrev Reading : Type 0
Reading = List TokenKind × Term

all_read : (all : List Reading) → map (λ (one : Reading). answer one.0) all ≡ map (λ (one : Reading). Some (one.1 ∷ [], false)) all → AllByRecursion (λ (one : Reading). Reads one.0 one.1) all
all_read all same = each_reads (λ (one : Reading). one.0) (λ (one : Reading). one.1) all same

none_read : (all : List (List TokenKind)) → map answer all ≡ map (λ (one : List TokenKind). None) all → AllByRecursion Unread all
none_read all same = none_reads (λ (one : List TokenKind). one) all same

-- A prefix operator's name is a plain name at the end, `a = not`, before a comma, a bar and a bracket that closes, `a(not, mode)` and `[not | mode]`, before a
-- parenthesis directly behind it, `not(a, b)`, and before an infix operator's name that is no prefix operator, `not = a`.

abbrev plain_names : List Reading
plain_names =
    (a' ∷ Name equal_name ∷ Name not_name ∷ [], apply equal_name (a ∷ apply not_name [] ∷ []))
    ∷ (a' ∷ OpenArgs ∷ Name not_name ∷ Comma ∷ Name mode_name ∷ Close ∷ [], apply a_name (apply not_name [] ∷ apply mode_name [] ∷ []))
    ∷ (OpenList ∷ Name not_name ∷ Bar ∷ Name mode_name ∷ CloseList ∷ [], apply cons_name (apply not_name [] ∷ apply mode_name [] ∷ []))
    ∷ (Name not_name ∷ OpenArgs ∷ a' ∷ Comma ∷ b' ∷ Close ∷ [], apply not_name (a ∷ b ∷ []))
    ∷ (Name not_name ∷ Name equal_name ∷ a' ∷ [], apply equal_name (apply not_name [] ∷ a ∷ []))
    ∷ []

plain_names_read : AllByRecursion (λ (one : Reading). Reads one.0 one.1) plain_names
unfolding reading operators
plain_names_read = all_read plain_names refl

-- Before anything else it is the operator: `not (a, b)`, `not []`, `not 'b'`, `not - a`, `not 5` and `not "b"`.

abbrev operands : List Reading
operands =
    (Name not_name ∷ Open ∷ a' ∷ Comma ∷ b' ∷ Close ∷ [], apply not_name (apply comma_name (a ∷ b ∷ []) ∷ []))
    ∷ (Name not_name ∷ OpenList ∷ CloseList ∷ [], apply not_name (apply nil_name [] ∷ []))
    ∷ (Name not_name ∷ Quoted b_name ∷ [], apply not_name (b ∷ []))
    ∷ (Name not_name ∷ Name minus_name ∷ a' ∷ [], apply not_name (apply minus_name (a ∷ []) ∷ []))
    ∷ (Name not_name ∷ Int 5 ∷ [], apply not_name (Integer (pos 5) no_span ∷ []))
    ∷ (Name not_name ∷ TextToken b_name ∷ [], apply not_name (Text b_name no_span ∷ []))
    ∷ []

operands_read : AllByRecursion (λ (one : Reading). Reads one.0 one.1) operands
unfolding reading operators
operands_read = all_read operands refl

-- An infix operator's name is a plain name where a term must begin: `a = +`, `a(+)`, `[mod]` and `+(a, b)`. Behind one a term may begin with a parenthesis
-- that stands directly there, `a =(b ; c)`, and with a sign, `a - - 5`.

abbrev infix_names : List Reading
infix_names =
    (a' ∷ Name equal_name ∷ Name plus_name ∷ [], apply equal_name (a ∷ apply plus_name [] ∷ []))
    ∷ (a' ∷ OpenArgs ∷ Name plus_name ∷ Close ∷ [], apply a_name (apply plus_name [] ∷ []))
    ∷ (OpenList ∷ Name mod_name ∷ CloseList ∷ [], apply cons_name (apply mod_name [] ∷ apply nil_name [] ∷ []))
    ∷ (Name plus_name ∷ OpenArgs ∷ a' ∷ Comma ∷ b' ∷ Close ∷ [], apply plus_name (a ∷ b ∷ []))
    ∷ (a' ∷ Name equal_name ∷ OpenArgs ∷ b' ∷ Name semicolon_name ∷ c' ∷ Close ∷ [], apply equal_name (a ∷ apply semicolon_name (b ∷ c ∷ []) ∷ []))
    ∷ (a' ∷ Name minus_name ∷ Name minus_name ∷ Int 5 ∷ [], apply minus_name (a ∷ Integer (negsuc 4) no_span ∷ []))
    ∷ []

infix_names_read : AllByRecursion (λ (one : Reading). Reads one.0 one.1) infix_names
unfolding reading operators
infix_names_read = all_read infix_names refl

-- A quoted name is a name like any other, `'-'(5)` and `some a ';'`, and behind a qualifier mark each name is one: `a.not`, `a.mod`, `'a'.'b'` and
-- `a.not(b)`.

abbrev other_names : List Reading
other_names =
    (Quoted minus_name ∷ OpenArgs ∷ Int 5 ∷ Close ∷ [], apply minus_name (Integer (pos 5) no_span ∷ []))
    ∷ (Name some_name ∷ a' ∷ Quoted semicolon_name ∷ [], apply some_name (a ∷ apply semicolon_name [] ∷ []))
    ∷ (a' ∷ Dot ∷ Name not_name ∷ [], Application not_name (Some a_name) none no_span)
    ∷ (a' ∷ Dot ∷ Name mod_name ∷ [], Application mod_name (Some a_name) none no_span)
    ∷ (Quoted a_name ∷ Dot ∷ Quoted b_name ∷ [], Application b_name (Some a_name) none no_span)
    ∷ (a' ∷ Dot ∷ Name not_name ∷ OpenArgs ∷ b' ∷ Close ∷ [], Application not_name (Some a_name) (more b none) no_span)
    ∷ []

other_names_read : AllByRecursion (λ (one : Reading). Reads one.0 one.1) other_names
unfolding reading operators
other_names_read = all_read other_names refl

-- Arguments, list items and a list's tail are read at 1199, `a(mode b, c)` and `[mode a | mode b]`. Commas end them behind an operator too, `a(b ; c, a)`,
-- but are operators in parentheses, `a((b, c))`.

abbrev arguments : List Reading
arguments =
    (a' ∷ OpenArgs ∷ Name mode_name ∷ b' ∷ Comma ∷ c' ∷ Close ∷ [], apply a_name (apply mode_name (b ∷ []) ∷ c ∷ []))
    ∷ (OpenList ∷ Name mode_name ∷ a' ∷ Bar ∷ Name mode_name ∷ b' ∷ CloseList ∷ [], apply cons_name (apply mode_name (a ∷ []) ∷ apply mode_name (b ∷ []) ∷ []))
    ∷ (a' ∷ OpenArgs ∷ b' ∷ Name semicolon_name ∷ c' ∷ Comma ∷ a' ∷ Close ∷ [], apply a_name (apply semicolon_name (b ∷ c ∷ []) ∷ a ∷ []))
    ∷ (a' ∷ OpenArgs ∷ Open ∷ b' ∷ Comma ∷ c' ∷ Close ∷ Close ∷ [], apply a_name (apply comma_name (b ∷ c ∷ []) ∷ []))
    ∷ []

arguments_read : AllByRecursion (λ (one : Reading). Reads one.0 one.1) arguments
unfolding reading operators
arguments_read = all_read arguments refl

-- Nothing is `'-' 5`, `+ 5`, `:- module mod.`, `not.b`, `module.b`, `a.[]`, `[](a)`, `some a - 5`, where the first operand is as long as can be, and `some a ;`.

abbrev wrong_names : List (List TokenKind)
wrong_names =
    (Quoted minus_name ∷ Int 5 ∷ []) ∷ (Name plus_name ∷ Int 5 ∷ []) ∷ (Name colon_minus_name ∷ Name module_name ∷ Name mod_name ∷ Stop ∷ [])
    ∷ (Name not_name ∷ Dot ∷ b' ∷ []) ∷ (Name module_name ∷ Dot ∷ b' ∷ []) ∷ (a' ∷ Dot ∷ OpenList ∷ CloseList ∷ []) ∷ (OpenList ∷ CloseList ∷ Open ∷ a' ∷ Close ∷ [])
    ∷ (Name some_name ∷ a' ∷ Name minus_name ∷ Int 5 ∷ []) ∷ (Name some_name ∷ a' ∷ Name semicolon_name ∷ []) ∷ []

wrong_names_unread : AllByRecursion Unread wrong_names
unfolding reading operators
wrong_names_unread = none_read wrong_names refl

-- Nor is `a()`, `a(b,)`, `[a,]`, `[a :- b]`, `[a | b :- c]`, `(a | b)`, `a b` and `a. b`.

abbrev wrong_brackets : List (List TokenKind)
wrong_brackets =
    (a' ∷ OpenArgs ∷ Close ∷ []) ∷ (a' ∷ OpenArgs ∷ b' ∷ Comma ∷ Close ∷ []) ∷ (OpenList ∷ a' ∷ Comma ∷ CloseList ∷ [])
    ∷ (OpenList ∷ a' ∷ Name colon_minus_name ∷ b' ∷ CloseList ∷ []) ∷ (OpenList ∷ a' ∷ Bar ∷ b' ∷ Name colon_minus_name ∷ c' ∷ CloseList ∷ [])
    ∷ (Open ∷ a' ∷ Bar ∷ b' ∷ Close ∷ []) ∷ (a' ∷ b' ∷ []) ∷ (a' ∷ Stop ∷ b' ∷ []) ∷ []

wrong_brackets_unread : AllByRecursion Unread wrong_brackets
unfolding reading operators
wrong_brackets_unread = none_read wrong_brackets refl
