-- What is made at a Fork, and the room for it.
use Rattle.std.proofs.Common.{◌≡◌, ℕ, zero, suc, ◌+◌, ◌-◌, ◌≤◌, ◌<◌, true, List, [], ◌∷◌, ◌++◌, refl, ap, sym, ◌∙◌, subst, arith, length, length-append, append_assoc, get_or}
use Rattle.std.proofs.lemmas.Bool.Decides.{nat_tests}
use Rattle.std.specs.Prelude.{nat_eq, ◌&&◌, filter, if◌then◌else◌}
use Rattle.merc_script.specs.Script.{Cell, Move}
use Rattle.merc_core.specs.declared.branch.Branch.{Branch as CoreBranch}
use Rattle.merc_core.specs.Rights.{numbers_of, cells_moved, made_by, moved_to, signals_at}
use Rattle.merc_core.specs.Forking.{past_script, past_scripts, newborn, born_from, rights_wanted}

-- where nothing is lost, there are nodes for all that is to come
pub nodes-left : {A : Type 0} (a x b y : List A) (s t : ℕ) → a ++ x ≡ b ++ y → length a + s ≡ length b + t → length y ≤ t → length x ≤ s
nodes-left a x b y s t same nodes few =
    let e = ap length same in let p = length-append a x in let q = length-append b y in omega (arith, e, p, q, nodes, few)

same-nat : (a b : ℕ) → a ≡ b → nat_eq a b ≡ true
same-nat a b same = grind (arith, nat_tests)

pub made-some : (child : ℕ) (cells : List Cell) (first : Cell) (producer : ℕ) → 1 ≤ length cells → first ≡ get_or cells 0 first → producer ≡ first.producer → producer ≡ child → 0 < length (made_by child cells)
made-some child [] first producer some is reads produces = absurd (omega arith)
made-some child (one ∷ cells) first producer some is reads produces =
    let e : nat_eq one.producer child ≡ true = ap (λ (c : Cell). nat_eq c.producer child) (sym is) ∙ ap (λ n. nat_eq n child) (sym reads) ∙ same-nat producer child produces in
    subst (λ (l : List ℕ). 0 < length l) (sym (ap (λ t. numbers_of (if t then one ∷ filter (λ x. nat_eq x.producer child) cells else filter (λ x. nat_eq x.producer child) cells)) e)) (omega arith)

pub moved-some : (child : ℕ) (moves : List Move) (first seen : Move) → 1 ≤ length moves → first ≡ get_or moves 0 first → seen ≡ first → seen.child ≡ child → seen.signal ≡ true → 0 < length (moved_to child true moves)
moved-some child [] first seen some is reads goes signals = absurd (omega arith)
moved-some child (one ∷ moves) first seen some is reads goes signals =
    let e : nat_eq one.child child ≡ true = ap (λ (m : Move). nat_eq m.child child) (sym (reads ∙ is)) ∙ same-nat seen.child child goes in
    let f : one.signal ≡ true = ap (λ (m : Move). m.signal) (sym (reads ∙ is)) ∙ signals in
    let g : (nat_eq one.child child && one.signal) ≡ true = ap (λ t. t && one.signal) e ∙ f in
    subst (λ (l : List ℕ). 0 < length l) (sym (ap (λ t. cells_moved (if t then one ∷ filter (λ x. nat_eq x.child child && x.signal) moves else filter (λ x. nat_eq x.child child && x.signal) moves)) g)) (omega arith)

module _ (past : List ℕ) (join : ℕ) (cells : List Cell) (moves : List Move) where
  -- one more child is there
  pub born-on : (child place n : ℕ) (before : List CoreBranch) → 0 < n
      → born_from past join cells moves child place n before ≡ born_from past join cells moves (child + 1) (past_script past place) (n - 1) (newborn join child place (signals_at child cells moves) ∷ before)
  born-on child place zero before some = absurd (omega arith)
  born-on child place (suc n) before some =
      let e : suc child ≡ child + 1 = omega arith in let f : n ≡ suc n - 1 = omega arith in
      ap (λ k. born_from past join cells moves k (past_script past place) n (newborn join child place (signals_at child cells moves) ∷ before)) e
      ∙ ap (λ k. born_from past join cells moves (child + 1) (past_script past place) k (newborn join child place (signals_at child cells moves) ∷ before)) f

  pub born-before : (child place n : ℕ) (before : List CoreBranch) → born_from past join cells moves child place n before ≡ born_from past join cells moves child place n [] ++ before
  born-before child place zero before = refl
  born-before child place (suc n) before =
      let one = newborn join child place (signals_at child cells moves) in
      born-before (suc child) (past_script past place) n (one ∷ before)
      ∙ sym (append_assoc (born_from past join cells moves (suc child) (past_script past place) n []) (one ∷ []) before)
      ∙ ap (λ l. l ++ before) (sym (born-before (suc child) (past_script past place) n (one ∷ [])))

  pub length-born : (child place n : ℕ) → length (born_from past join cells moves child place n []) ≡ n
  length-born child place zero = refl
  length-born child place (suc n) =
      let one = newborn join child place (signals_at child cells moves) in
      let e = ap length (born-before (suc child) (past_script past place) n (one ∷ [])) in
      let f = length-append (born_from past join cells moves (suc child) (past_script past place) n []) (one ∷ []) in
      let g = length-born (suc child) (past_script past place) n in omega (arith, e, f, g)

pub past-on : (past : List ℕ) (place n : ℕ) → 0 < n → past_scripts past place n ≡ past_scripts past (past_script past place) (n - 1)
past-on past place zero some = absurd (omega arith)
past-on past place (suc n) some = let f : n ≡ suc n - 1 = omega arith in ap (past_scripts past (past_script past place)) f

pub rights-on : (cells : List Cell) (moves : List Move) (child n : ℕ) → 0 < n → rights_wanted cells moves child n ≡ length (signals_at child cells moves) + rights_wanted cells moves (child + 1) (n - 1)
rights-on cells moves child zero some = absurd (omega arith)
rights-on cells moves child (suc n) some =
    let e : suc child ≡ child + 1 = omega arith in let f : n ≡ suc n - 1 = omega arith in
    ap (λ k. length (signals_at child cells moves) + rights_wanted cells moves k n) e ∙ ap (λ k. length (signals_at child cells moves) + rights_wanted cells moves (child + 1) k) f
