-- The items of a script stand for this script, by which the logic stores it.
use Rattle.std.specs.Prelude.{◌≡◌, ℕ, suc, List, [], ◌∷◌, ◌++◌, length, take, drop, refl}
use Rattle.std.specs.Coded.{Coded, code_by, coded_list}
use Rattle.std.proofs.Common.{◌∙◌, ap, sym}
use Rattle.std.proofs.Math.Seq.{take-append_seam, drop-append_seam}
use Rattle.std.proofs.lemmas.List.{append_assoc, append-nil}
use Rattle.merc_script.specs.declared.items.Item.{Item}
use Rattle.merc_script.specs.declared.items.Item.TheVariants.{Tick, Wait, Signal, Fork as ForkItem}
use Rattle.merc_script.specs.contracts.items.Item as item
use Rattle.merc_script.specs.Script.{Script, Ends, TickThen, WaitThen, SignalThen, ForkThen, Children, NoChild, Child, Cell, Move, count}
use Rattle.merc_script.specs.Items.{items_of, items_in, children_of, scripts_of, first_of, opened, scripts_in, script_of}

pub children_of-scripts_of : (children : Children) → children_of (scripts_of children) ≡ children
children_of-scripts_of NoChild = refl
children_of-scripts_of (Child first others) = ap (Child first) (children_of-scripts_of others)

pub length-scripts_of : (children : Children) → length (scripts_of children) ≡ count children
length-scripts_of NoChild = refl
length-scripts_of (Child first others) = ap suc (length-scripts_of others)

-- a Fork that is read before its children and what follows it
opened_fork : (limit : ℕ) (cells : List Cell) (moves : List Move) (children : Children) (rest : Script) (behind : List Script)
    → opened (ForkItem (record { limit = limit; children = count children; cells = cells; moves = moves })) (scripts_of children ++ rest ∷ behind)
    ≡ ForkThen limit cells moves children rest ∷ behind
opened_fork limit cells moves children rest behind =
    ap (λ n. opened (ForkItem (record { limit = limit; children = n; cells = cells; moves = moves })) (scripts_of children ++ rest ∷ behind)) (sym (length-scripts_of children))
    ∙ ap (λ all. ForkThen limit cells moves (children_of all) (first_of (drop (length (scripts_of children)) (scripts_of children ++ rest ∷ behind)))
    ∷ drop 1 (drop (length (scripts_of children)) (scripts_of children ++ rest ∷ behind))) (take-append_seam (scripts_of children) (rest ∷ behind))
    ∙ ap (λ left. ForkThen limit cells moves (children_of (scripts_of children)) (first_of left) ∷ drop 1 left) (drop-append_seam (scripts_of children) (rest ∷ behind))
    ∙ ap (λ all. ForkThen limit cells moves all rest ∷ behind) (children_of-scripts_of children)

mutual
  pub scripts_in-items_of : (script : Script) (behind : List Item) → scripts_in (items_of script ++ behind) ≡ script ∷ scripts_in behind
  scripts_in-items_of (Ends end) behind = refl
  scripts_in-items_of (TickThen rest) behind = ap (opened Tick) (scripts_in-items_of rest behind)
  scripts_in-items_of (WaitThen cell rest) behind = ap (opened (Wait cell)) (scripts_in-items_of rest behind)
  scripts_in-items_of (SignalThen cell rest) behind = ap (opened (Signal cell)) (scripts_in-items_of rest behind)
  scripts_in-items_of (ForkThen limit cells moves children rest) behind =
      let fork = ForkItem (record { limit = limit; children = count children; cells = cells; moves = moves }) in
      ap (λ l. opened fork (scripts_in l)) (append_assoc (items_in children) (items_of rest) behind)
      ∙ ap (opened fork) (scripts_in-items_in children (items_of rest ++ behind) ∙ ap (λ l. scripts_of children ++ l) (scripts_in-items_of rest behind))
      ∙ opened_fork limit cells moves children rest (scripts_in behind)

  pub scripts_in-items_in : (children : Children) (behind : List Item) → scripts_in (items_in children ++ behind) ≡ scripts_of children ++ scripts_in behind
  scripts_in-items_in NoChild behind = refl
  scripts_in-items_in (Child first others) behind =
      ap scripts_in (append_assoc (items_of first) (items_in others) behind)
      ∙ scripts_in-items_of first (items_in others ++ behind)
      ∙ ap (λ l. first ∷ l) (scripts_in-items_in others behind)

pub script_of-items_of : (script : Script) → script_of (items_of script) ≡ script
script_of-items_of script = ap script_of (sym (append-nil (items_of script))) ∙ ap first_of (scripts_in-items_of script [])

-- a script is stored as its items
abbrev pub script_code : Coded Script
script_code = code_by (List Item) (coded_list item.the_row.coded) items_of script_of script_of-items_of
