-- What the definitions of Value say of some values.
use Rattle.std.proofs.Common.{pos, negsuc, arith}
use Rattle.std.proofs.Math.Facts.{sfits_lit}
use Rattle.merc_base.specs.Names.{bang_name, cons_name, memo_name}
use Rattle.merc_value.specs.Value.{Int, Text, Con, none, more, IsValue}

-- the greatest integer of 64 bits, beside a text
pub IsValue-example : IsValue (Con cons_name (more (Int (pos 9223372036854775807)) (more (Text bang_name) none)))
IsValue-example = (sfits_lit tt, (tt, tt))

-- one integer more
pub IsValue-counterexample : IsValue (Con memo_name (more (Int (pos 9223372036854775808)) none)) → ⊥
IsValue-counterexample fits = let e = fits.0.sfits in omega (arith, e)

-- the least integer, and one less
pub IsValue-least : IsValue (Int (negsuc 9223372036854775807))
IsValue-least = sfits_lit tt

pub IsValue-below : IsValue (Con cons_name (more (Text bang_name) (more (Int (negsuc 9223372036854775808)) none))) → ⊥
IsValue-below fits = let e = fits.1.0.sfits in omega (arith, e)
