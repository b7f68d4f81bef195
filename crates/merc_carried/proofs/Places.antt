-- Places further on in scripts.
use Rattle.std.proofs.Common.{◌≡◌, ℕ, zero, suc, ◌+◌, List, [], ◌∷◌, ◌++◌, Option, Some, None, refl, ap, sym, ◌∙◌, arith}
use Rattle.merc_script.specs.declared.cells.Move.{Move}
use Rattle.merc_script.specs.Script.{Script, Ends, TickThen, WaitThen, SignalThen, ForkThen, Children, Cell}
use Rattle.merc_script.specs.Places.{Name, Place, left_behind, child_at, child_of, left_in, script_named, left_of}
use Rattle.merc_board.specs.Going.{next, child_place, ticks_before, Ticked}

none_before : (more : ℕ) → zero + more ≡ more
none_before more = omega arith

suc_before : (passed more : ℕ) → suc passed + more ≡ suc (passed + more)
suc_before passed more = omega arith

-- what is left further on
pub behind_more : (passed more : ℕ) (script rest : Script) → left_behind passed script ≡ Some rest → left_behind (passed + more) script ≡ left_behind more rest
behind_more zero more script rest is = ap (λ n. left_behind n script) (none_before more) ∙ ap (left_in more) is
behind_more (suc passed) more (Ends end) rest is = absurd cc
behind_more (suc passed) more (TickThen script) rest is = ap (λ n. left_behind n (TickThen script)) (suc_before passed more) ∙ behind_more passed more script rest is
behind_more (suc passed) more (WaitThen cell script) rest is = ap (λ n. left_behind n (WaitThen cell script)) (suc_before passed more) ∙ behind_more passed more script rest is
behind_more (suc passed) more (SignalThen cell script) rest is = ap (λ n. left_behind n (SignalThen cell script)) (suc_before passed more) ∙ behind_more passed more script rest is
behind_more (suc passed) more (ForkThen limit cells moves children script) rest is = ap (λ n. left_behind n (ForkThen limit cells moves children script)) (suc_before passed more) ∙ behind_more passed more script rest is

in_more : (passed more : ℕ) (script : Option Script) (rest : Script) → left_in passed script ≡ Some rest → left_in (passed + more) script ≡ left_behind more rest
in_more passed more None rest is = absurd cc
in_more passed more (Some script) rest is = behind_more passed more script rest is

-- so many items on
abbrev pub further : ℕ → Place → Place
further more at = record { root = at.root; name = at.name; passed = at.passed + more }

pub left_further : (more : ℕ) (at : Place) (rest : Script) → left_of at ≡ Some rest → left_of (further more at) ≡ left_behind more rest
left_further more at rest is = in_more at.passed more (script_named at.name (Some at.root)) rest is

one_more : (passed : ℕ) → suc passed ≡ passed + 1
one_more passed = omega arith

pub left_next : (at : Place) (rest : Script) → left_of at ≡ Some rest → left_of (next at) ≡ left_behind 1 rest
left_next at rest is = ap (λ n. left_in n (script_named at.name (Some at.root))) (one_more at.passed) ∙ left_further 1 at rest is

behind_ticks : (made : ℕ) (rest : Script) → left_behind made (ticks_before made rest) ≡ Some rest
behind_ticks zero rest = refl
behind_ticks (suc made) rest = behind_ticks made rest

pub left_past : (at : Place) (made : ℕ) (rest : Script) → left_of at ≡ Some (ticks_before made rest) → left_of (further made at) ≡ Some rest
left_past at made rest is = left_further made at (ticks_before made rest) is ∙ behind_ticks made rest

pub ticked_on : (at : Place) (made : ℕ) (rest : Script) → left_of at ≡ Some (ticks_before made rest) → Ticked at made (further made at)
ticked_on at made rest is = record {
  same_root = refl;
  same_name = refl;
  passed = refl;
  rest = rest;
  before = is;
  after = left_past at made rest is;
}

pub not_ticked : (at : Place) (rest : Script) → left_of at ≡ Some rest → Ticked at zero at
not_ticked at rest is = record { same_root = refl; same_name = refl; passed = omega arith; rest = rest; before = is; after = is }

more_ticks : (made more : ℕ) (rest : Script) → ticks_before made (ticks_before more rest) ≡ ticks_before (made + more) rest
more_ticks zero more rest = ap (λ n. ticks_before n rest) (sym (none_before more))
more_ticks (suc made) more rest = ap TickThen (more_ticks made more rest) ∙ ap (λ n. ticks_before n rest) (sym (suc_before made more))

some_is : {one other : Script} → Some one ≡ Some other → one ≡ other
some_is e = cc

pub ticked_more : (from mid at : Place) (made more : ℕ) → Ticked from made mid → Ticked mid more at → Ticked from (made + more) at
ticked_more from mid at made more first second = record {
  same_root = second.same_root ∙ first.same_root;
  same_name = second.same_name ∙ first.same_name;
  passed = let e = first.passed in let f = second.passed in omega (arith, e, f);
  rest = second.rest;
  before = first.before ∙ ap (λ s. Some (ticks_before made s)) (some_is (sym first.after ∙ second.before)) ∙ ap Some (more_ticks made more second.rest);
  after = second.after;
}

-- a conjunct begins at its script

named_on : (name : Name) (step : ℕ × ℕ) (script : Option Script) → script_named (name ++ step ∷ []) script ≡ child_of step.1 (left_in step.0 (script_named name script))
named_on [] step script = refl
named_on (first ∷ others) step script = named_on others step (child_of first.1 (left_in first.0 script))

left_none : (script : Option Script) → left_in zero script ≡ script
left_none None = refl
left_none (Some script) = refl

pub child_left : (at : Place) (child limit : ℕ) (cells : List Cell) (moves : List Move) (children : Children) (rest : Script)
    → left_of at ≡ Some (ForkThen limit cells moves children rest) → left_of (child_place at child) ≡ child_at child children
child_left at child limit cells moves children rest is =
    left_none (script_named (at.name ++ (at.passed, child) ∷ []) (Some at.root))
    ∙ named_on at.name (at.passed, child) (Some at.root)
    ∙ ap (child_of child) is

pub no_root : (name : Name) (step : ℕ × ℕ) → name ++ step ∷ [] ≡ [] → ⊥
no_root [] step is = cc
no_root (first ∷ others) step is = cc
