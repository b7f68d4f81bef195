-- What words ask for, and requests of given texts.
use Rattle.std.proofs.Common.{◌≡◌, ◌∙◌, ◌<◌, ℕ, List, [], ◌∷◌, ap, sym, refl, arith, codes, slice_index, Bor}
use Rattle.std.specs.Prelude.{Option}
use Rattle.merc_words.specs.declared.words.Request.TheVariants.{Solve as SolveWords, Check as CheckWords}
use Rattle.merc_words.specs.Words.{IsCode, IsGrow, IsNoRequest as AsksNothing}
use Rattle.merc_words.proofs.Requests as words_laws
use Rattle.merc_top.specs.declared.words.Request.{Request}
use Rattle.merc_top.specs.declared.words.Request.TheVariants.{Solve, Check}
use Rattle.merc_top.specs.Words.{IsCheck, IsNoRequest, IsRequest, IsSolve, file_of}

-- two numbers of which one is less than the other
pub differ : (m n : ℕ) → m < n → m ≡ n → ⊥
differ m n less same = omega arith

-- a reference to a text; where it lies says nothing
abbrev pub shown : List ℕ → Bor (List ℕ)
shown text = record { ref_ptr = (0, 0); now = text }

-- words ask for one thing at most
pub solve-unique : (words : List (List ℕ)) (file goal file' goal' : List ℕ) (steps steps' : ℕ) (most most' : Option ℕ) → IsSolve words file goal steps most → IsSolve words file' goal' steps' most'
    → (file ≡ file') × (goal ≡ goal') × (steps ≡ steps') × (most ≡ most')
solve-unique words file goal file' goal' steps steps' most most' asks also = words_laws.solve-unique words file goal file' goal' asks.0 also.0 steps steps' most most' asks.1 also.1

pub check-unique : (words : List (List ℕ)) (file file' : List ℕ) → IsCheck words file → IsCheck words file' → file ≡ file'
check-unique = words_laws.check-unique

pub solve-no_check : (words : List (List ℕ)) (file goal file' : List ℕ) (steps : ℕ) (most : Option ℕ) → IsSolve words file goal steps most → IsCheck words file' → ⊥
solve-no_check words file goal file' steps most asks also = words_laws.solve-no_check words file goal file' asks.0 steps most asks.1 also

-- words name one file
pub request_file-unique : (words : List (List ℕ)) (one other : Request) → IsRequest words one → IsRequest words other → file_of one ≡ file_of other
request_file-unique words (Solve file goal steps most) (Solve file' goal' steps' most') asks also = (solve-unique words file.now goal.now file'.now goal'.now steps steps' most most' asks also).0
request_file-unique words (Solve file goal steps most) (Check file') asks also = absurd (solve-no_check words file.now goal.now file'.now steps most asks also)
request_file-unique words (Check file) (Solve file' goal' steps most) asks also = absurd (solve-no_check words file'.now goal'.now file.now steps most also asks)
request_file-unique words (Check file) (Check file') asks also = check-unique words file.now file'.now asks also

-- ---- what is not answered

-- words that ask for nothing ask for nothing that is answered
pub none-answered : (words : List (List ℕ)) → AsksNothing words → IsNoRequest words
none-answered words none (Solve file goal steps most) asks = none (SolveWords file.now goal.now asks.0 steps most) asks.1
none-answered words none (Check file) asks = none (CheckWords file.now) asks

-- commands differ in a letter
letters : (words behind behind' : List (List ℕ)) (one other : List ℕ) (at m n : ℕ) → words ≡ one ∷ behind → words ≡ other ∷ behind' → slice_index one at ≡ m → slice_index other at ≡ n → m < n → ⊥
letters words behind behind' one other at m n is is' letter letter' less =
    let both : one ∷ behind ≡ other ∷ behind' = sym is ∙ is' in
    let same : one ≡ other = cc in
    differ m n less (sym letter ∙ ap (λ (text : List ℕ). slice_index text at) same ∙ letter')

pub code-unanswered : (words : List (List ℕ)) (file : List ℕ) → IsCode words file → IsNoRequest words
code-unanswered words file code (Solve file' goal steps most) asks = letters words code.behind asks.1.behind (codes "code") (codes "solve") 0 99 115 code.spelled asks.1.spelled refl refl (omega arith)
code-unanswered words file code (Check file') asks = letters words asks.behind code.behind (codes "check") (codes "code") 1 104 111 asks.spelled code.spelled refl refl (omega arith)

pub grow-unanswered : (words : List (List ℕ)) (count workers : ℕ) → IsGrow words count workers → IsNoRequest words
grow-unanswered words count workers grow (Solve file' goal steps most) asks = letters words grow.behind asks.1.behind (codes "grow") (codes "solve") 0 103 115 grow.spelled asks.1.spelled refl refl (omega arith)
grow-unanswered words count workers grow (Check file') asks = letters words asks.behind grow.behind (codes "check") (codes "grow") 0 99 103 asks.spelled grow.spelled refl refl (omega arith)
