-- What is built of the terms that were read.
use Rattle.std.proofs.Common.{◌≡◌, ℕ, zero, suc, ◌+◌, ◌-◌, ℤ, pos, negsuc, neg_ℤ, Bool, true, false, ◌||◌, not, nat_lt, List, [], ◌∷◌, ◌++◌, length, take, drop, Option, None, refl, sym, ap, ◌∙◌, arith, append_assoc, append-nil, length-append}
use Rattle.std.specs.Bool.{if◌then◌else◌}
use Rattle.merc_base.specs.declared.place.Span.{Span}
use Rattle.merc_tokens.specs.Integers.{integer_limit}
use Rattle.merc_tree.specs.Term.{Term, Terms, Variable, Integer, Text, Application, none, more, terms_of, list_of, span_of, with_span, applied, enclosed}
use Rattle.merc_tree.specs.TermCode.{terms_of-list_of}
use Rattle.merc_terms.specs.declared.built.Built.{Built}
use Rattle.merc_terms.specs.Reader.{fits, with_term, with_integer, clipped, clipped_all, is_great, are_great, pushed, with_application, with_cells, with_list, with_enclosed}
use Rattle.merc_terms.specs.Reading.{cell, nil}

-- the terms and the mark of what is built decide it
pub built_is : {built other : Built} → built.terms ≡ other.terms → built.is_great ≡ other.is_great → built ≡ other
built_is terms great = λ i. record { terms = terms i; is_great = great i }

pub or_false : (b : Bool) → (b || false) ≡ b
or_false true = refl
or_false false = refl

or_assoc : (a b c : Bool) → ((a || b) || c) ≡ (a || (b || c))
or_assoc true b c = refl
or_assoc false b c = refl

pub pushed_fitting : (term : Term) (built : Built) → clipped term ≡ term → is_great term ≡ false → with_term term built ≡ pushed term built
pushed_fitting term built same fits = built_is (ap (λ t. built.terms ++ t ∷ []) (sym same)) (sym (ap (λ b. built.is_great || b) fits ∙ or_false built.is_great))

pub pushed_variable : (name : ℕ) (span : Span) (built : Built) → with_term (Variable name span) built ≡ pushed (Variable name span) built
pushed_variable name span built = pushed_fitting (Variable name span) built refl refl

pub pushed_text : (name : ℕ) (span : Span) (built : Built) → with_term (Text name span) built ≡ pushed (Text name span) built
pushed_text name span built = pushed_fitting (Text name span) built refl refl

pub pushed_constant : (name : ℕ) (qualifier : Option ℕ) (span : Span) (built : Built)
    → with_term (Application name qualifier none span) built ≡ pushed (Application name qualifier none span) built
pushed_constant name qualifier span built = pushed_fitting (Application name qualifier none span) built refl refl

by_fit : (b : Bool) (value : ℤ) (span : Span) (built : Built)
    → (if b then with_term (Integer value span) built else record { terms = built.terms ++ Integer (pos 0) span ∷ []; is_great = true })
    ≡ record { terms = built.terms ++ Integer (if b then value else pos 0) span ∷ []; is_great = built.is_great || not b }
by_fit true value span built = built_is refl (sym (or_false built.is_great))
by_fit false value span built = built_is refl (or_true built.is_great)
  where
    or_true : (b : Bool) → true ≡ (b || true)
    or_true true = refl
    or_true false = refl

pub pushed_integer : (value : ℕ) (span : Span) (built : Built) → with_integer false value span built ≡ pushed (Integer (pos value) span) built
pushed_integer value span built = by_fit (nat_lt value integer_limit) (pos value) span built

pub pushed_negative : (value : ℕ) (span : Span) (built : Built) → with_integer true value span built ≡ pushed (Integer (neg_ℤ (pos value)) span) built
pushed_negative zero span built = pushed_fitting (Integer (pos 0) span) built refl refl
pushed_negative (suc value) span built = by_fit (nat_lt value integer_limit) (negsuc value) span built

-- terms that were read one after the other, the newest first

abbrev pub pushed_back : List Term → Built → Built
pushed_back [] built = built
pushed_back (term ∷ before) built = pushed term (pushed_back before built)

-- these terms before those
abbrev pub behind : List Term → Terms → Terms
behind [] terms = terms
behind (term ∷ before) terms = behind before (more term terms)

abbrev pub pushed_all : Terms → Built → Built
pushed_all terms built = record { terms = built.terms ++ list_of (clipped_all terms); is_great = built.is_great || are_great terms }

pub pushed_all-behind : (before : List Term) (terms : Terms) (built : Built) → pushed_all terms (pushed_back before built) ≡ pushed_all (behind before terms) built
pushed_all-behind [] terms built = refl
pushed_all-behind (term ∷ before) terms built =
    let inner = pushed_back before built in
    built_is (append_assoc inner.terms (clipped term ∷ []) (list_of (clipped_all terms))) (or_assoc inner.is_great (is_great term) (are_great terms))
    ∙ pushed_all-behind before (more term terms) built

pub pushed_back-all : (before : List Term) (built : Built) → pushed_back before built ≡ pushed_all (behind before none) built
pushed_back-all before built =
    let inner = pushed_back before built in
    built_is (sym (append-nil inner.terms)) (sym (or_false inner.is_great)) ∙ pushed_all-behind before none built

length-clipped : (terms : Terms) → length (list_of (clipped_all terms)) ≡ length (list_of terms)
length-clipped none = refl
length-clipped (more first rest) = ap suc (length-clipped rest)

pub length-behind : (before : List Term) (terms : Terms) → length (list_of (behind before terms)) ≡ length before + length (list_of terms)
length-behind [] terms = omega arith
length-behind (term ∷ before) terms = length-behind before (more term terms) ∙ omega arith

take_front : {A : Type 0} (front back : List A) → take (length front) (front ++ back) ≡ front
take_front [] back = refl
take_front (a ∷ front) back = ap (λ l. a ∷ l) (take_front front back)

drop_front : {A : Type 0} (front back : List A) → drop (length front) (front ++ back) ≡ back
drop_front [] back = refl
drop_front (a ∷ front) back = drop_front front back

applied_last : (name : ℕ) (qualifier : Option ℕ) (arity : ℕ) (span : Span) (front back : List Term) → arity ≡ length back
    → applied name qualifier arity span (front ++ back) ≡ front ++ Application name qualifier (terms_of back) span ∷ []
applied_last name qualifier arity span front back is =
    let before : length (front ++ back) - arity ≡ length front = omega (arith, length-append front back) in
    rw (before, take_front, drop_front) refl

-- the last terms become the arguments of one
pub pushed_application : (name : ℕ) (qualifier : Option ℕ) (arity : ℕ) (span : Span) (before : List Term) (built : Built) → arity ≡ length before
    → with_application name qualifier arity span (pushed_back before built) ≡ pushed (Application name qualifier (behind before none) span) built
pushed_application name qualifier arity span before built is =
    let terms = behind before none in
    let count : arity ≡ length (list_of (clipped_all terms)) = omega (arith, length-clipped terms, length-behind before none, is) in
    ap (with_application name qualifier arity span) (pushed_back-all before built)
    ∙ built_is (applied_last name qualifier arity span built.terms (list_of (clipped_all terms)) count
    ∙ ap (λ t. built.terms ++ Application name qualifier t span ∷ []) (terms_of-list_of (clipped_all terms))) refl

-- a list of these items, the newest first, and this tail
abbrev pub cells : Span → List Term → Term → Term
cells whole [] end = end
cells whole (term ∷ before) end = cells whole before (cell whole term end)

pub pushed_cells : (span : Span) (before : List Term) (end : Term) (built : Built)
    → with_cells (length before) span (pushed end (pushed_back before built)) ≡ pushed (cells span before end) built
pushed_cells span [] end built = refl
pushed_cells span (term ∷ before) end built =
    ap (with_cells (length before) span) (pushed_application 2 None 2 span (end ∷ term ∷ []) (pushed_back before built) refl)
    ∙ pushed_cells span before (cell span term end) built

pub pushed_list : (span : Span) (before : List Term) (built : Built)
    → with_list (length before) span (pushed_back before built) ≡ pushed (cells span before (nil span)) built
pushed_list span before built =
    ap (with_cells (length before) span) (pushed_constant 1 None span (pushed_back before built)) ∙ pushed_cells span before (nil span) built

enclosed_last : (span : Span) (terms : List Term) (term : Term) → enclosed span (terms ++ term ∷ []) ≡ terms ++ with_span span term ∷ []
enclosed_last span [] term = refl
enclosed_last span (first ∷ []) term = refl
enclosed_last span (first ∷ next ∷ rest) term = ap (λ l. first ∷ l) (enclosed_last span (next ∷ rest) term)

clipped-with_span : (span : Span) (term : Term) → with_span span (clipped term) ≡ clipped (with_span span term)
clipped-with_span span (Variable name old) = refl
clipped-with_span span (Integer value old) = refl
clipped-with_span span (Text name old) = refl
clipped-with_span span (Application name qualifier arguments old) = refl

is_great-with_span : (span : Span) (term : Term) → is_great term ≡ is_great (with_span span term)
is_great-with_span span (Variable name old) = refl
is_great-with_span span (Integer value old) = refl
is_great-with_span span (Text name old) = refl
is_great-with_span span (Application name qualifier arguments old) = refl

pub span_of-with_span : (span : Span) (term : Term) → span_of (with_span span term) ≡ span
span_of-with_span span (Variable name old) = refl
span_of-with_span span (Integer value old) = refl
span_of-with_span span (Text name old) = refl
span_of-with_span span (Application name qualifier arguments old) = refl

pub pushed_enclosed : (span : Span) (term : Term) (built : Built) → with_enclosed span (pushed term built) ≡ pushed (with_span span term) built
pushed_enclosed span term built =
    built_is (enclosed_last span built.terms (clipped term) ∙ ap (λ t. built.terms ++ t ∷ []) (clipped-with_span span term))
    (ap (λ b. built.is_great || b) (is_great-with_span span term))
