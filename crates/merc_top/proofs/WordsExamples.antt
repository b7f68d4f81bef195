-- Worked examples of what is answered: what holds, and what does not.
use Rattle.std.specs.Prelude.{◌≡◌, ◌++◌, ℕ, IsUtf8, List, [], ◌∷◌, Some, None, false, codes, refl, take}
use Rattle.std.proofs.Common.{Bor, arith, ap, sym, slice_index}
use Rattle.merc_words.specs.Words.{is_option}
pub use Rattle.merc_words.proofs.WordsExamples.{IsCheck-example, check_words, check-plain, utf8-goal, utf8-one}
use Rattle.merc_words.proofs.WordsExamples as words_examples
use Rattle.merc_top.specs.declared.words.Request.TheVariants.{Solve, Check}
use Rattle.merc_top.specs.Words.{IsNoRequest, IsRequest, IsSolve, default_steps, file_of, usage_line}
use Rattle.merc_top.proofs.Requests.{code-unanswered, differ, grow-unanswered, none-answered, shown, solve-no_check, solve-unique}

pub solve-plain : (file goal : List ℕ) → is_option file ≡ false → is_option goal ≡ false → IsUtf8 file → IsUtf8 goal → IsSolve (codes "solve" ∷ file ∷ goal ∷ []) file goal default_steps None
solve-plain file goal plain plain' utf8 utf8' = (4, words_examples.solve-plain file goal plain plain' utf8 utf8')

abbrev solve_words : List (List ℕ)
solve_words = codes "solve" ∷ codes "one.m" ∷ codes "add(2, 3, X)" ∷ []

pub IsSolve-example : IsSolve solve_words (codes "one.m") (codes "add(2, 3, X)") default_steps None
IsSolve-example = solve-plain (codes "one.m") (codes "add(2, 3, X)") refl refl utf8-one utf8-goal

-- file and goal change places
pub IsSolve-counterexample : IsSolve solve_words (codes "add(2, 3, X)") (codes "one.m") default_steps None → ⊥
IsSolve-counterexample request =
    let same = solve-unique solve_words (codes "one.m") (codes "add(2, 3, X)") (codes "add(2, 3, X)") (codes "one.m") default_steps default_steps None None IsSolve-example request in
    differ 97 111 (omega arith) (sym (ap (λ (text : List ℕ). slice_index text 0) same.0))

pub IsRequest-example : IsRequest solve_words (Solve (shown (codes "one.m")) (shown (codes "add(2, 3, X)")) default_steps None)
IsRequest-example = IsSolve-example

pub IsRequest-check : IsRequest check_words (Check (shown (codes "one.m")))
IsRequest-check = IsCheck-example

-- who asks for a check asks for no goal
pub IsRequest-counterexample : (file goal : Bor (List ℕ)) (steps : ℕ) → IsRequest check_words (Solve file goal steps None) → ⊥
IsRequest-counterexample file goal steps request = solve-no_check check_words file.now goal.now (codes "one.m") steps None request IsCheck-example

pub file_of-example : file_of (Solve (shown (codes "one.m")) (shown (codes "add(2, 3, X)")) 7 None) ≡ codes "one.m"
file_of-example = refl

pub file_of-check : file_of (Check (shown (codes "one.m"))) ≡ codes "one.m"
file_of-check = refl

pub file_of-counterexample : file_of (Solve (shown (codes "one.m")) (shown (codes "add(2, 3, X)")) 7 None) ≡ codes "add(2, 3, X)" → ⊥
file_of-counterexample same = differ 97 111 (omega arith) (sym (ap (λ (text : List ℕ). slice_index text 0) same))

-- no word at all
pub IsNoRequest-nothing : IsNoRequest []
IsNoRequest-nothing = none-answered [] words_examples.IsNoRequest-nothing

-- a listing, and a module that is grown
pub IsNoRequest-code : IsNoRequest (codes "code" ∷ codes "one.m" ∷ [])
IsNoRequest-code = code-unanswered (codes "code" ∷ codes "one.m" ∷ []) (codes "one.m") words_examples.IsCode-example

pub IsNoRequest-grow : IsNoRequest (codes "grow" ∷ codes "2" ∷ codes "--workers=64" ∷ [])
IsNoRequest-grow = grow-unanswered (codes "grow" ∷ codes "2" ∷ codes "--workers=64" ∷ []) 2 64 words_examples.IsGrow-example

pub IsNoRequest-counterexample : IsNoRequest solve_words → ⊥
IsNoRequest-counterexample none = none (Solve (shown (codes "one.m")) (shown (codes "add(2, 3, X)")) default_steps None) IsRequest-example

pub IsNoRequest-check : IsNoRequest check_words → ⊥
IsNoRequest-check none = none (Check (shown (codes "one.m"))) IsRequest-check

-- the whole line, part by part
pub usage_line-example : usage_line ≡ codes "usage: merc solve FILE GOAL [--workers N] [--steps N] [--max N]" ++ codes " | check FILE | code FILE" ++ codes " | grow N [--workers N]\n"
unfolding usage_line
usage_line-example = refl

-- the program's name comes behind a blank
pub usage_line-counterexample : take 17 usage_line ≡ codes "usage:merc solve " → ⊥
unfolding usage_line
usage_line-counterexample same = differ 32 109 (omega arith) (ap (λ (text : List ℕ). slice_index text 6) same)
