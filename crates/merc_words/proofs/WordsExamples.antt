-- Worked examples of the words of a command: what holds, and what does not.
use Rattle.std.specs.Prelude.{◌≡◌, ℕ, true, false, All, IsUtf8, List, [], ◌∷◌, Some, None, codes, refl}
use Rattle.std.proofs.Common.{◌∙◌, ◌<◌, arith, lit<, ap, sym, subst, slice_index}
use Rattle.std.proofs.Math.Utf8.{encode}
use Rattle.std.specs.Str.{is_utf8, chars}
use Rattle.std.proofs.lemmas.Bool.{false≢true}
use Rattle.std.proofs.lemmas.List.Elements.{All-cons, All-nil}
use Rattle.std.proofs.lemmas.Str.{is_utf8-from_IsUtf8}
use Rattle.merc_words.specs.declared.words.Request.TheVariants.{Solve, Check, Code, Grow}
use Rattle.merc_words.specs.declared.settings.Setting.TheVariants.{Workers, Steps, Max}
use Rattle.merc_words.specs.declared.settings.Settings.{Settings}
use Rattle.merc_words.specs.Words.{hyphen, is_option, IsSolve, IsCheck, IsCode, IsGrow, IsOfFile, IsRequest, IsNoRequest, Sets, default_steps, no_settings, with_setting}
use Rattle.merc_words.specs.Words.Sets.{no_word, plain_word, in_two_words}
use Rattle.merc_words.proofs.Options.{differ, sets-unique}
use Rattle.merc_words.proofs.OptionsExamples.{IsNumberIn-example, IsNumberOf-one, Sets-between, Sets-empty, Sets-end, Sets-no_answer, Sets-twice, Sets-two_words, Sets-unknown, Sets-workers, set_unset}
use Rattle.merc_words.proofs.Requests.{commands-differ, file-unique, no_request, solve-unique}

pub is_option-example : is_option (codes "-x") ≡ true
is_option-example = refl

-- a lone `-` is a file's name, and the empty word no option either
pub is_option-dash : is_option (codes "-") ≡ false
is_option-dash = refl

pub is_option-empty : is_option [] ≡ false
is_option-empty = refl

pub is_option-counterexample : is_option (codes "x-") ≡ true → ⊥
is_option-counterexample option = cc

-- ---- words with no options

two_words : (file goal : List ℕ) → is_option file ≡ false → is_option goal ≡ false → Sets no_settings (file ∷ goal ∷ []) (file ∷ goal ∷ []) no_settings
two_words file goal plain plain' = plain_word no_settings no_settings file (goal ∷ []) (goal ∷ []) plain (plain_word no_settings no_settings goal [] [] plain' (no_word no_settings))

pub utf8-solve : IsUtf8 (codes "solve")
unfolding encode
utf8-solve = (codes "solve", (refl, refl))

pub utf8-check : IsUtf8 (codes "check")
unfolding encode
utf8-check = (codes "check", (refl, refl))

pub utf8-one : IsUtf8 (codes "one.m")
unfolding encode
utf8-one = (codes "one.m", (refl, refl))

pub utf8-goal : IsUtf8 (codes "add(2, 3, X)")
unfolding encode
utf8-goal = (codes "add(2, 3, X)", (refl, refl))

-- such words ask for a goal
pub solve-plain : (file goal : List ℕ) → is_option file ≡ false → is_option goal ≡ false → IsUtf8 file → IsUtf8 goal → IsSolve (codes "solve" ∷ file ∷ goal ∷ []) file goal 4 default_steps None
solve-plain file goal plain plain' utf8 utf8' = record {
  behind = file ∷ goal ∷ [];
  spelled = refl;
  utf8 = All-cons IsUtf8 (codes "solve") (file ∷ goal ∷ []) utf8-solve (All-cons IsUtf8 file (goal ∷ []) utf8 (All-cons IsUtf8 goal [] utf8' (All-nil IsUtf8)));
  settings = no_settings;
  sets = two_words file goal plain plain';
  workers_are = refl;
  steps_are = refl;
  most_is = refl;
}

-- or for a check
pub check-plain : (file : List ℕ) → is_option file ≡ false → IsUtf8 file → IsCheck (codes "check" ∷ file ∷ []) file
check-plain file plain utf8 = record {
  behind = file ∷ [];
  spelled = refl;
  utf8 = All-cons IsUtf8 (codes "check") (file ∷ []) utf8-check (All-cons IsUtf8 file [] utf8 (All-nil IsUtf8));
  sets = plain_word no_settings no_settings file [] [] plain (no_word no_settings);
}

abbrev solve_words : List (List ℕ)
solve_words = codes "solve" ∷ codes "one.m" ∷ codes "add(2, 3, X)" ∷ []

pub IsSolve-example : IsSolve solve_words (codes "one.m") (codes "add(2, 3, X)") 4 default_steps None
IsSolve-example = solve-plain (codes "one.m") (codes "add(2, 3, X)") refl refl utf8-one utf8-goal

-- file and goal change places
pub IsSolve-counterexample : IsSolve solve_words (codes "add(2, 3, X)") (codes "one.m") 4 default_steps None → ⊥
IsSolve-counterexample request =
    let same = solve-unique solve_words (codes "one.m") (codes "add(2, 3, X)") (codes "add(2, 3, X)") (codes "one.m") 4 4 default_steps default_steps None None IsSolve-example request in
    differ 97 111 (omega arith) (sym (ap (λ (text : List ℕ). slice_index text 0) same.0))

-- a bound that no option gives
pub IsSolve-unbound : IsSolve solve_words (codes "one.m") (codes "add(2, 3, X)") 4 default_steps (Some 1) → ⊥
IsSolve-unbound request =
    let same = solve-unique solve_words (codes "one.m") (codes "add(2, 3, X)") (codes "one.m") (codes "add(2, 3, X)") 4 4 default_steps default_steps None (Some 1) IsSolve-example request in
    set_unset 1 (sym same.3)

abbrev pub check_words : List (List ℕ)
check_words = codes "check" ∷ codes "one.m" ∷ []

pub IsCheck-example : IsCheck check_words (codes "one.m")
IsCheck-example = check-plain (codes "one.m") refl utf8-one

-- another file
pub IsCheck-counterexample : IsCheck check_words (codes "two.m") → ⊥
IsCheck-counterexample request =
    differ 111 116 (omega arith) (ap (λ (text : List ℕ). slice_index text 0) (file-unique (codes "check") check_words (codes "one.m") (codes "two.m") IsCheck-example request))

-- ---- words with options

utf8-words : All IsUtf8 (codes "p" ∷ codes "--steps" ∷ codes "007" ∷ codes "--" ∷ codes "--steps=007" ∷ codes "--max" ∷ codes "1" ∷ [])
unfolding encode
utf8-words =
    All-cons IsUtf8 (codes "p") (codes "--steps" ∷ codes "007" ∷ codes "--" ∷ codes "--steps=007" ∷ codes "--max" ∷ codes "1" ∷ []) (codes "p", (refl, refl))
    (All-cons IsUtf8 (codes "--steps") (codes "007" ∷ codes "--" ∷ codes "--steps=007" ∷ codes "--max" ∷ codes "1" ∷ []) (codes "--steps", (refl, refl))
    (All-cons IsUtf8 (codes "007") (codes "--" ∷ codes "--steps=007" ∷ codes "--max" ∷ codes "1" ∷ []) (codes "007", (refl, refl))
    (All-cons IsUtf8 (codes "--") (codes "--steps=007" ∷ codes "--max" ∷ codes "1" ∷ []) (codes "--", (refl, refl))
    (All-cons IsUtf8 (codes "--steps=007") (codes "--max" ∷ codes "1" ∷ []) (codes "--steps=007", (refl, refl))
    (All-cons IsUtf8 (codes "--max") (codes "1" ∷ []) (codes "--max", (refl, refl)) (All-cons IsUtf8 (codes "1") [] (codes "1", (refl, refl)) (All-nil IsUtf8)))))))

-- `--steps 007` sets 7 steps
pub IsSolve-steps : IsSolve (codes "solve" ∷ codes "--steps" ∷ codes "007" ∷ codes "one.m" ∷ codes "p" ∷ []) (codes "one.m") (codes "p") 4 7 None
IsSolve-steps = record {
  behind = codes "--steps" ∷ codes "007" ∷ codes "one.m" ∷ codes "p" ∷ [];
  spelled = refl;
  utf8 = All-cons IsUtf8 (codes "solve") (codes "--steps" ∷ codes "007" ∷ codes "one.m" ∷ codes "p" ∷ []) utf8-solve
      (All-cons IsUtf8 (codes "--steps") (codes "007" ∷ codes "one.m" ∷ codes "p" ∷ []) (utf8-words 1 [] (lit< tt))
      (All-cons IsUtf8 (codes "007") (codes "one.m" ∷ codes "p" ∷ []) (utf8-words 2 [] (lit< tt))
      (All-cons IsUtf8 (codes "one.m") (codes "p" ∷ []) utf8-one (All-cons IsUtf8 (codes "p") [] (utf8-words 0 [] (lit< tt)) (All-nil IsUtf8)))));
  settings = with_setting Steps 7 no_settings;
  sets = Sets-two_words;
  workers_are = refl;
  steps_are = refl;
  most_is = refl;
}

-- an option between file and goal, and another behind them
pub IsSolve-both : IsSolve (codes "solve" ∷ codes "one.m" ∷ codes "--steps=007" ∷ codes "p" ∷ codes "--max" ∷ codes "1" ∷ []) (codes "one.m") (codes "p") 4 7 (Some 1)
IsSolve-both = record {
  behind = codes "one.m" ∷ codes "--steps=007" ∷ codes "p" ∷ codes "--max" ∷ codes "1" ∷ [];
  spelled = refl;
  utf8 = All-cons IsUtf8 (codes "solve") (codes "one.m" ∷ codes "--steps=007" ∷ codes "p" ∷ codes "--max" ∷ codes "1" ∷ []) utf8-solve
      (All-cons IsUtf8 (codes "one.m") (codes "--steps=007" ∷ codes "p" ∷ codes "--max" ∷ codes "1" ∷ []) utf8-one
      (All-cons IsUtf8 (codes "--steps=007") (codes "p" ∷ codes "--max" ∷ codes "1" ∷ []) (utf8-words 4 [] (lit< tt))
      (All-cons IsUtf8 (codes "p") (codes "--max" ∷ codes "1" ∷ []) (utf8-words 0 [] (lit< tt))
      (All-cons IsUtf8 (codes "--max") (codes "1" ∷ []) (utf8-words 5 [] (lit< tt)) (All-cons IsUtf8 (codes "1") [] (utf8-words 6 [] (lit< tt)) (All-nil IsUtf8))))));
  settings = with_setting Max 1 (with_setting Steps 7 no_settings);
  sets = Sets-between;
  workers_are = refl;
  steps_are = refl;
  most_is = refl;
}

-- a file whose name looks as an option does
pub IsSolve-end : IsSolve (codes "solve" ∷ codes "--" ∷ codes "--steps" ∷ codes "p" ∷ []) (codes "--steps") (codes "p") 4 default_steps None
IsSolve-end = record {
  behind = codes "--" ∷ codes "--steps" ∷ codes "p" ∷ [];
  spelled = refl;
  utf8 = All-cons IsUtf8 (codes "solve") (codes "--" ∷ codes "--steps" ∷ codes "p" ∷ []) utf8-solve
      (All-cons IsUtf8 (codes "--") (codes "--steps" ∷ codes "p" ∷ []) (utf8-words 3 [] (lit< tt))
      (All-cons IsUtf8 (codes "--steps") (codes "p" ∷ []) (utf8-words 1 [] (lit< tt)) (All-cons IsUtf8 (codes "p") [] (utf8-words 0 [] (lit< tt)) (All-nil IsUtf8))));
  settings = no_settings;
  sets = Sets-end;
  workers_are = refl;
  steps_are = refl;
  most_is = refl;
}

-- ---- requests

pub IsRequest-example : IsRequest solve_words (Solve (codes "one.m") (codes "add(2, 3, X)") 4 default_steps None)
IsRequest-example = IsSolve-example

pub IsRequest-check : IsRequest check_words (Check (codes "one.m"))
IsRequest-check = IsCheck-example

-- file and goal change places
pub IsRequest-counterexample : IsRequest solve_words (Solve (codes "add(2, 3, X)") (codes "one.m") 4 default_steps None) → ⊥
IsRequest-counterexample request = IsSolve-counterexample request

-- who asks for a check asks for no goal
pub IsRequest-other_command : (file goal : List ℕ) (workers steps : ℕ) → IsRequest check_words (Solve file goal workers steps None) → ⊥
IsRequest-other_command file goal workers steps request = commands-differ request.behind (codes "one.m" ∷ []) (sym request.spelled)

-- ---- the other commands

pub utf8-code : IsUtf8 (codes "code")
unfolding encode
utf8-code = (codes "code", (refl, refl))

pub utf8-grow : All IsUtf8 (codes "grow" ∷ codes "2" ∷ codes "--workers=64" ∷ [])
unfolding encode
utf8-grow =
    All-cons IsUtf8 (codes "grow") (codes "2" ∷ codes "--workers=64" ∷ []) (codes "grow", (refl, refl))
    (All-cons IsUtf8 (codes "2") (codes "--workers=64" ∷ []) (codes "2", (refl, refl)) (All-cons IsUtf8 (codes "--workers=64") [] (codes "--workers=64", (refl, refl)) (All-nil IsUtf8)))

pub IsCode-example : IsRequest (codes "code" ∷ codes "one.m" ∷ []) (Code (codes "one.m"))
IsCode-example = record {
  behind = codes "one.m" ∷ [];
  spelled = refl;
  utf8 = All-cons IsUtf8 (codes "code") (codes "one.m" ∷ []) utf8-code (All-cons IsUtf8 (codes "one.m") [] utf8-one (All-nil IsUtf8));
  sets = plain_word no_settings no_settings (codes "one.m") [] [] refl (no_word no_settings);
}

-- a check lists no code
pub IsCode-counterexample : IsCode check_words (codes "one.m") → ⊥
IsCode-counterexample code =
    let same : codes "check" ∷ codes "one.m" ∷ [] ≡ codes "code" ∷ code.behind = code.spelled in
    let word : codes "check" ≡ codes "code" = cc in
    differ 104 111 (omega arith) (ap (λ (text : List ℕ). slice_index text 1) word)

-- a module of two predicates, with 64 workers
pub IsGrow-example : IsRequest (codes "grow" ∷ codes "2" ∷ codes "--workers=64" ∷ []) (Grow 2 64)
IsGrow-example = record {
  behind = codes "2" ∷ codes "--workers=64" ∷ [];
  spelled = refl;
  utf8 = utf8-grow;
  text = codes "2";
  settings = with_setting Workers 64 no_settings;
  sets = Sets-workers;
  count_is = IsNumberIn-example;
  workers_are = refl;
  no_steps = refl;
  no_most = refl;
}

-- a module that is grown takes no steps
pub IsGrow-counterexample : (count workers : ℕ) → IsGrow (codes "grow" ∷ codes "--steps" ∷ codes "007" ∷ codes "one.m" ∷ codes "p" ∷ []) count workers → ⊥
IsGrow-counterexample count workers grow =
    let same : codes "grow" ∷ codes "--steps" ∷ codes "007" ∷ codes "one.m" ∷ codes "p" ∷ [] ≡ codes "grow" ∷ grow.behind = grow.spelled in
    let rest : grow.behind ≡ codes "--steps" ∷ codes "007" ∷ codes "one.m" ∷ codes "p" ∷ [] = cc in
    let both = sets-unique no_settings grow.behind (codes "one.m" ∷ codes "p" ∷ []) (grow.text ∷ []) (with_setting Steps 7 no_settings) grow.settings
    (subst (λ (some : List (List ℕ)). Sets no_settings some (codes "one.m" ∷ codes "p" ∷ []) (with_setting Steps 7 no_settings)) (sym rest) Sets-two_words) grow.sets in
    set_unset 7 (ap (λ (settings : Settings). settings.steps) both.1 ∙ grow.no_steps)

-- ---- words that ask for nothing

refused_file : (command : List ℕ) (behind : List (List ℕ)) → ((plains : List (List ℕ)) (after : Settings) → Sets no_settings behind plains after → ⊥) → (word file : List ℕ) → IsOfFile word (command ∷ behind) file → ⊥
refused_file command behind none word file request =
    let same : command ∷ behind ≡ word ∷ request.behind = request.spelled in
    let rest : request.behind ≡ behind = cc in
    none (file ∷ []) no_settings (subst (λ (words : List (List ℕ)). Sets no_settings words (file ∷ []) no_settings) rest request.sets)

-- words that set nothing, because one of them is refused
refused : (command : List ℕ) (behind : List (List ℕ)) → ((plains : List (List ℕ)) (after : Settings) → Sets no_settings behind plains after → ⊥) → IsNoRequest (command ∷ behind)
refused command behind none (Solve file goal workers steps most) request =
    let same : command ∷ behind ≡ codes "solve" ∷ request.behind = request.spelled in
    let rest : request.behind ≡ behind = cc in
    none (file ∷ goal ∷ []) request.settings (subst (λ (words : List (List ℕ)). Sets no_settings words (file ∷ goal ∷ []) request.settings) rest request.sets)
refused command behind none (Check file) request = refused_file command behind none (codes "check") file request
refused command behind none (Code file) request = refused_file command behind none (codes "code") file request
refused command behind none (Grow count workers) request =
    let same : command ∷ behind ≡ codes "grow" ∷ request.behind = request.spelled in
    let rest : request.behind ≡ behind = cc in
    none (request.text ∷ []) request.settings (subst (λ (words : List (List ℕ)). Sets no_settings words (request.text ∷ []) request.settings) rest request.sets)

pub IsNoRequest-twice : IsNoRequest (codes "solve" ∷ codes "--max" ∷ codes "1" ∷ codes "--max=1" ∷ codes "one.m" ∷ codes "p" ∷ [])
IsNoRequest-twice = refused (codes "solve") (codes "--max" ∷ codes "1" ∷ codes "--max=1" ∷ codes "one.m" ∷ codes "p" ∷ []) Sets-twice

pub IsNoRequest-empty : IsNoRequest (codes "solve" ∷ codes "--steps=" ∷ codes "one.m" ∷ codes "p" ∷ [])
IsNoRequest-empty = refused (codes "solve") (codes "--steps=" ∷ codes "one.m" ∷ codes "p" ∷ []) Sets-empty

pub IsNoRequest-no_answer : IsNoRequest (codes "solve" ∷ codes "--max" ∷ codes "0" ∷ codes "one.m" ∷ codes "p" ∷ [])
IsNoRequest-no_answer = refused (codes "solve") (codes "--max" ∷ codes "0" ∷ codes "one.m" ∷ codes "p" ∷ []) Sets-no_answer

pub IsNoRequest-unknown : IsNoRequest (codes "solve" ∷ codes "--step" ∷ codes "7" ∷ codes "one.m" ∷ codes "p" ∷ [])
IsNoRequest-unknown = refused (codes "solve") (codes "--step" ∷ codes "7" ∷ codes "one.m" ∷ codes "p" ∷ []) Sets-unknown

-- commands by their letters
differs : (at m n : ℕ) (one other : List ℕ) → slice_index one at ≡ m → slice_index other at ≡ n → m < n → one ≡ other → ⊥
differs at m n one other is is' less same = differ m n less (sym is ∙ ap (λ (text : List ℕ). slice_index text at) same ∙ is')

-- an option of a check
pub IsNoRequest-checked_option : IsNoRequest (codes "check" ∷ codes "--max" ∷ codes "1" ∷ codes "one.m" ∷ [])
IsNoRequest-checked_option =
    let set : Settings = with_setting Max 1 no_settings in
    no_request (codes "check") (codes "--max" ∷ codes "1" ∷ codes "one.m" ∷ []) (codes "one.m" ∷ []) set
    (in_two_words no_settings set Max (codes "1") 1 (codes "one.m" ∷ []) (codes "one.m" ∷ []) refl IsNumberOf-one (plain_word set set (codes "one.m") [] [] refl (no_word set)))
    (λ _ two. absurd (differ 1 2 (omega arith) two))
    (λ _ _ unset. set_unset 1 (ap (λ (settings : Settings). settings.most) unset))
    (λ _ _ unset. set_unset 1 (ap (λ (settings : Settings). settings.most) unset))
    (λ grow _. absurd (differs 0 99 103 (codes "check") (codes "grow") refl refl (omega arith) grow))

-- a word that is no UTF-8
no_text : IsUtf8 (255 ∷ []) → ⊥
unfolding is_utf8 chars
no_text utf8 = false≢true (is_utf8-from_IsUtf8 (255 ∷ []) utf8)

abbrev outside_words : List (List ℕ)
outside_words = codes "solve" ∷ (255 ∷ []) ∷ codes "p" ∷ []

pub IsNoRequest-no_text : IsNoRequest outside_words
IsNoRequest-no_text (Solve file goal workers steps most) request = no_text (request.utf8 1 [] (lit< tt))
IsNoRequest-no_text (Check file) request = no_text (request.utf8 1 [] (lit< tt))
IsNoRequest-no_text (Code file) request = no_text (request.utf8 1 [] (lit< tt))
IsNoRequest-no_text (Grow count workers) request = no_text (request.utf8 1 [] (lit< tt))

-- a third word behind the command
pub IsNoRequest-third_word : IsNoRequest (codes "solve" ∷ codes "one.m" ∷ codes "p" ∷ codes "5" ∷ [])
IsNoRequest-third_word =
    no_request (codes "solve") (codes "one.m" ∷ codes "p" ∷ codes "5" ∷ []) (codes "one.m" ∷ codes "p" ∷ codes "5" ∷ []) no_settings
    (plain_word no_settings no_settings (codes "one.m") (codes "p" ∷ codes "5" ∷ []) (codes "p" ∷ codes "5" ∷ []) refl (two_words (codes "p") (codes "5") refl refl))
    (λ _ two. absurd (differ 2 3 (omega arith) (sym two)))
    (λ _ one _. absurd (differ 1 3 (omega arith) (sym one)))
    (λ _ one _. absurd (differ 1 3 (omega arith) (sym one)))
    (λ _ one. absurd (differ 1 3 (omega arith) (sym one)))

-- another first word
pub IsNoRequest-other_command : IsNoRequest (codes "Solve" ∷ codes "one.m" ∷ codes "p" ∷ [])
IsNoRequest-other_command =
    no_request (codes "Solve") (codes "one.m" ∷ codes "p" ∷ []) (codes "one.m" ∷ codes "p" ∷ []) no_settings (two_words (codes "one.m") (codes "p") refl refl)
    (λ solve _. absurd (differs 0 83 115 (codes "Solve") (codes "solve") refl refl (omega arith) solve))
    (λ _ one _. absurd (differ 1 2 (omega arith) (sym one)))
    (λ _ one _. absurd (differ 1 2 (omega arith) (sym one)))
    (λ _ one. absurd (differ 1 2 (omega arith) (sym one)))

-- no goal behind the file
pub IsNoRequest-no_goal : IsNoRequest (codes "solve" ∷ codes "one.m" ∷ [])
IsNoRequest-no_goal =
    no_request (codes "solve") (codes "one.m" ∷ []) (codes "one.m" ∷ []) no_settings (plain_word no_settings no_settings (codes "one.m") [] [] refl (no_word no_settings))
    (λ _ two. absurd (differ 1 2 (omega arith) two))
    (λ check _ _. absurd (differs 0 99 115 (codes "check") (codes "solve") refl refl (omega arith) (sym check)))
    (λ code _ _. absurd (differs 0 99 115 (codes "code") (codes "solve") refl refl (omega arith) (sym code)))
    (λ grow _. absurd (differs 0 103 115 (codes "grow") (codes "solve") refl refl (omega arith) (sym grow)))

-- a check of no file
pub IsNoRequest-no_file : IsNoRequest (codes "check" ∷ [])
IsNoRequest-no_file =
    no_request (codes "check") [] [] no_settings (no_word no_settings) (λ _ two. absurd (differ 0 2 (omega arith) two)) (λ _ one _. absurd (differ 0 1 (omega arith) one))
    (λ _ one _. absurd (differ 0 1 (omega arith) one)) (λ _ one. absurd (differ 0 1 (omega arith) one))

-- of two files
pub IsNoRequest-two_files : IsNoRequest (codes "code" ∷ codes "one.m" ∷ codes "two.m" ∷ [])
IsNoRequest-two_files =
    no_request (codes "code") (codes "one.m" ∷ codes "two.m" ∷ []) (codes "one.m" ∷ codes "two.m" ∷ []) no_settings (two_words (codes "one.m") (codes "two.m") refl refl)
    (λ solve _. absurd (differs 0 99 115 (codes "code") (codes "solve") refl refl (omega arith) solve))
    (λ _ one _. absurd (differ 1 2 (omega arith) (sym one)))
    (λ _ one _. absurd (differ 1 2 (omega arith) (sym one)))
    (λ _ one. absurd (differ 1 2 (omega arith) (sym one)))

no_word_at_all : (word : List ℕ) (behind : List (List ℕ)) → [] ≡ word ∷ behind → ⊥
no_word_at_all word behind same = cc

-- no word at all
pub IsNoRequest-nothing : IsNoRequest []
IsNoRequest-nothing (Solve file goal workers steps most) request = no_word_at_all (codes "solve") request.behind request.spelled
IsNoRequest-nothing (Check file) request = no_word_at_all (codes "check") request.behind request.spelled
IsNoRequest-nothing (Code file) request = no_word_at_all (codes "code") request.behind request.spelled
IsNoRequest-nothing (Grow count workers) request = no_word_at_all (codes "grow") request.behind request.spelled

pub IsNoRequest-counterexample : IsNoRequest solve_words → ⊥
IsNoRequest-counterexample none = none (Solve (codes "one.m") (codes "add(2, 3, X)") 4 default_steps None) IsRequest-example

pub IsNoRequest-check : IsNoRequest check_words → ⊥
IsNoRequest-check none = none (Check (codes "one.m")) IsRequest-check

pub hyphen-example : codes "-" ≡ hyphen ∷ []
hyphen-example = refl
