-- Terms, as they are read from a text. Names are numbers in a table of names.
use Rattle.std.specs.Prelude.{ℕ, ◌-◌, ℤ, List, [], ◌∷◌, ◌++◌, length, take, drop, Option, FitsSigned}
use Rattle.std.specs.Int.{w64}
use Rattle.merc_base.specs.declared.place.Span.{Span}

-- a term is a variable, an integer, a text, or a name with arguments and perhaps a qualifier
mutual
  pub data Term : Type 0 where
    Variable : (name : ℕ) (span : Span) → Term
    Integer : (value : ℤ) (span : Span) → Term
    Text : (name : ℕ) (span : Span) → Term
    Application : (name : ℕ) (qualifier : Option ℕ) (arguments : Terms) (span : Span) → Term

  pub data Terms : Type 0 where
    none : Terms
    more : (first : Term) (rest : Terms) → Terms

-- a list of terms as arguments, and back
abbrev pub terms_of : List Term → Terms
terms_of [] = none
terms_of (first ∷ rest) = more first (terms_of rest)

abbrev pub list_of : Terms → List Term
list_of none = []
list_of (more first rest) = first ∷ list_of rest

-- where a term stands
abbrev pub span_of : Term → Span
span_of (Variable name span) = span
span_of (Integer value span) = span
span_of (Text name span) = span
span_of (Application name qualifier arguments span) = span

-- the same term at another span
abbrev pub with_span : Span → Term → Term
with_span span (Variable name old) = Variable name span
with_span span (Integer value old) = Integer value span
with_span span (Text name old) = Text name span
with_span span (Application name qualifier arguments old) = Application name qualifier arguments span

-- no span: what terms are compared by, spans aside
abbrev pub no_span : Span
no_span = record { first = 0; past = 0; line = 0 }

-- a term without its spans
abbrev mutual
  pub bare : Term → Term
  bare (Variable name span) = Variable name no_span
  bare (Integer value span) = Integer value no_span
  bare (Text name span) = Text name no_span
  bare (Application name qualifier arguments span) = Application name qualifier (bare_all arguments) no_span

  pub bare_all : Terms → Terms
  bare_all none = none
  bare_all (more first rest) = more (bare first) (bare_all rest)

-- each integer of a term has 64 bits
abbrev mutual
  pub HasWords : Term → Type 0
  HasWords (Variable name span) = Unit {0}
  HasWords (Integer value span) = FitsSigned w64 value
  HasWords (Text name span) = Unit {0}
  HasWords (Application name qualifier arguments span) = HaveWords arguments

  pub HaveWords : Terms → Type 0
  HaveWords none = Unit {0}
  HaveWords (more first rest) = HasWords first × HaveWords rest

-- The last terms of a list, so many, become the arguments of one application.
abbrev pub applied : ℕ → Option ℕ → ℕ → Span → List Term → List Term
applied name qualifier arity span terms =
    let before = length terms - arity in
    take before terms ++ Application name qualifier (terms_of (drop before terms)) span ∷ []

-- The last term of a list takes another span.
abbrev pub enclosed : Span → List Term → List Term
enclosed span [] = []
enclosed span (only ∷ []) = with_span span only ∷ []
enclosed span (first ∷ next ∷ rest) = first ∷ enclosed span (next ∷ rest)
