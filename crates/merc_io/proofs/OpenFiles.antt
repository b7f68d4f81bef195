-- What a reader has left of a file, when a piece was read.
use Rattle.std.proofs.Common.{◌≡◌, ℕ, ◌+◌, Bool, true, false, List, ◌++◌, length, drop, Option, Some, None, IfSome, nat_le, if◌then◌else◌, ap, sym, subst, ◌∙◌}
use Rattle.std.specs.Option.{ForSome, option_map}
use Rattle.std.specs.Io.KnownBytes.{Consumes}
use Rattle.std.proofs.Math.Seq.{drop-append_seam}
use Rattle.std.proofs.lemmas.List.{drop-drop}
use Rattle.std.proofs.lemmas.Option.{same_Some}
use Rattle.merc_base.specs.Outside.{Files, file_named}
use Rattle.merc_io.specs.Shelves.{HasLeft, last_place, place_behind}

left_behind : (file : Option (List ℕ)) (at count : ℕ) (bytes : List ℕ) (before after : Option (List ℕ))
    → HasLeft file at before → Consumes before after bytes → length bytes ≡ count → HasLeft file (at + count) after
left_behind None at count bytes before after left took long = absurd left
left_behind (Some file) at count bytes None after left took long = absurd (cc)
left_behind (Some file) at count bytes (Some xs) None left took long = absurd took
left_behind (Some file) at count bytes (Some xs) (Some ys) left took long =
    let whole : bytes ++ ys ≡ drop at file = sym took ∙ (cc) in
    ap (λ (some : List ℕ). Some some)
    (sym (drop-append_seam bytes ys) ∙ ap (λ (n : ℕ). drop n (bytes ++ ys)) long ∙ ap (λ (some : List ℕ). drop count some) whole ∙ drop-drop count at file)

in_place : (b : Bool) (name other : List ℕ) (at place : ℕ) → ◌≡◌ {A = Option (List ℕ × ℕ)} (Some (other, place)) (if b then Some (name, at) else None) → (other ≡ name) × (place ≡ at)
in_place true name other at place same =
    let pair : ◌≡◌ {A = List ℕ × ℕ} (other, place) (name, at) = same_Some _ _ same in (ap (λ (p : List ℕ × ℕ). p.0) pair, ap (λ (p : List ℕ × ℕ). p.1) pair)
in_place false name other at place same = absurd (cc)

-- A file of which a piece was read has left what stands behind the piece.
module _ {F H : Type 0} (name_of : F → List ℕ) (at_of : F → ℕ) (handle_of : F → H) (remaining : H → Option (List ℕ)) where
  file_left : (files : Files) (found : F) (name : List ℕ) (at count : ℕ) (bytes : List ℕ) (before : Option (List ℕ)) (handle : H)
      → ◌≡◌ {A = Option (List ℕ × ℕ)} (Some (name_of found, at_of found)) (place_behind name at count) → handle_of found ≡ handle
      → HasLeft (file_named name files) at before → Consumes before (remaining handle) bytes → length bytes ≡ count
      → HasLeft (file_named (name_of found) files) (at_of found) (remaining (handle_of found))
  file_left files found name at count bytes before handle place same left took long =
      let stands = in_place (nat_le (at + count) last_place) name (name_of found) (at + count) (at_of found) place in
      rw (stands.0, stands.1, same) (left_behind (file_named name files) at count bytes before (remaining handle) left took long)

  pub moved-left : (told : Option Files) (result : Option F) (name file_name : List ℕ) (at file_at count : ℕ) (bytes : List ℕ) (before : Option (List ℕ)) (handle : H)
      → ◌≡◌ {A = Option (List ℕ × ℕ)} (option_map (λ found. (name_of found, at_of found)) result) (place_behind file_name file_at count)
      → IfSome result (λ found. handle_of found ≡ handle)
      → file_name ≡ name → file_at ≡ at
      → IfSome told (λ files. HasLeft (file_named name files) at before)
      → Consumes before (remaining handle) bytes → length bytes ≡ count
      → IfSome told (λ files. ForSome result (λ found. HasLeft (file_named (name_of found) files) (at_of found) (remaining (handle_of found))))
  moved-left None result name file_name at file_at count bytes before handle place same is_name is_at left took long = tt
  moved-left (Some files) None name file_name at file_at count bytes before handle place same is_name is_at left took long = λ found is. absurd (cc)
  moved-left (Some files) (Some found) name file_name at file_at count bytes before handle place same is_name is_at left took long =
      λ other is.
      subst (λ (one : F). HasLeft (file_named (name_of one) files) (at_of one) (remaining (handle_of one))) (same_Some found other is)
      (file_left files found file_name file_at count bytes before handle place same (rw (is_name, is_at) left) took long)
