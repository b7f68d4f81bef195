-- Worked examples of the definitions of specs/Names.antt: what holds, and what does not.
use Rattle.std.proofs.Common.{◌≡◌, [], Some, slice_get, codes, refl}
use Rattle.merc_base.specs.Names.{fixed_names, HoldsFixed}

pub fixed_names-nil : slice_get fixed_names 1 ≡ Some (codes "[]")
unfolding fixed_names
fixed_names-nil = refl

pub fixed_names-last : slice_get fixed_names 97 ≡ Some (codes "_")
unfolding fixed_names
fixed_names-last = refl

pub fixed_names-cons : slice_get fixed_names 1 ≡ Some (codes "[|]") → ⊥
unfolding fixed_names
fixed_names-cons h = cc

pub HoldsFixed-fixed : HoldsFixed fixed_names
HoldsFixed-fixed = record { text = λ number text h. h }

pub HoldsFixed-empty : HoldsFixed [] → ⊥
unfolding fixed_names
HoldsFixed-empty f = let h = f.text 1 (codes "[]") refl in cc
