-- Texts that are faulty: for each rule one or more.
use Rattle.std.specs.Prelude.{[], ◌∷◌, ◌++◌, codes, refl}
use Rattle.std.proofs.Common.{lit<, inl, inr}
use Rattle.std.proofs.Math.ListN.{replicate}
use Rattle.merc_base.specs.Characters.{backquote_code, bang_code, close_brace_code, double_quote_code, lower_a_code, nine_code, open_brace_code, quote_code, slash_code, star_code, upper_a_code, zero_code}
use Rattle.merc_base.specs.declared.refusal.Rule.TheVariants.{BadToken, OutsideProfile, LimitPassed}
use Rattle.merc_base.specs.declared.refusal.Construct.TheVariants.{Character, Float, IntegerSuffix}
use Rattle.merc_base.specs.declared.refusal.LimitName.TheVariants.{Name as NameLimit, Integer as IntegerLimit}
use Rattle.merc_base.specs.declared.refusal.Detail.TheVariants.{Plain, Word, Limit}
use Rattle.merc_tokens.specs.Faults.{IsFaulty}
use Rattle.merc_tokens.specs.Faults.IsFaulty.{no_token, open_comment, open_name, open_string, no_character, no_digit, character, suffix, float, great_integer, long_word, long_graphic, long_name}

-- the two bytes of a letter beyond ASCII
pub beyond_ascii-example : IsFaulty (195 ∷ 169 ∷ []) BadToken Plain
beyond_ascii-example = no_token 195 (169 ∷ []) refl

-- the bytes 0 and 127, and a form feed, which is no blank
pub zero-example : IsFaulty (0 ∷ []) BadToken Plain
zero-example = no_token 0 [] refl

pub form_feed-example : IsFaulty (12 ∷ []) BadToken Plain
form_feed-example = no_token 12 [] refl

pub delete-example : IsFaulty (127 ∷ []) BadToken Plain
delete-example = no_token 127 [] refl

pub comment-example : IsFaulty (codes "/*/ a") BadToken Plain
comment-example = open_comment slash_code (codes "*/ a") refl refl refl

pub line_end-example : IsFaulty (codes "'a\nb'") BadToken Plain
line_end-example = open_name quote_code (codes "a\nb'") refl refl

pub open_name-example : IsFaulty (codes "'a") BadToken Plain
open_name-example = open_name quote_code (codes "a") refl refl

pub unknown_escape-example : IsFaulty (codes "\"a\\x\"") BadToken Plain
unknown_escape-example = open_string double_quote_code (codes "a\\x\"") refl refl

pub no_character-example : IsFaulty (codes "0''") BadToken Plain
no_character-example = no_character zero_code (codes "''") refl refl refl

pub no_character_end-example : IsFaulty (codes "0'") BadToken Plain
no_character_end-example = no_character zero_code (codes "'") refl refl refl

pub no_character_escape-example : IsFaulty (codes "0'\\r") BadToken Plain
no_character_escape-example = no_character zero_code (codes "'\\r") refl refl refl

pub no_digit-example : IsFaulty (codes "0b2") BadToken Plain
no_digit-example = no_digit zero_code (codes "b2") 2 refl refl refl

pub no_digit_octal-example : IsFaulty (codes "0o8") BadToken Plain
no_digit_octal-example = no_digit zero_code (codes "o8") 8 refl refl refl

pub no_digit_hexadecimal-example : IsFaulty (codes "0xg") BadToken Plain
no_digit_hexadecimal-example = no_digit zero_code (codes "xg") 16 refl refl refl

pub no_digit_underscore-example : IsFaulty (codes "0x_1") BadToken Plain
no_digit_underscore-example = no_digit zero_code (codes "x_1") 16 refl refl refl

pub bang-example : IsFaulty (codes "!") OutsideProfile (Word Character)
bang-example = character bang_code [] refl

pub open_brace-example : IsFaulty (codes "{") OutsideProfile (Word Character)
open_brace-example = character open_brace_code [] refl

pub close_brace-example : IsFaulty (codes "}") OutsideProfile (Word Character)
close_brace-example = character close_brace_code [] refl

pub backquote-example : IsFaulty (codes "`") OutsideProfile (Word Character)
backquote-example = character backquote_code [] refl

pub suffix-example : IsFaulty (codes "0x1g") OutsideProfile (Word IntegerSuffix)
suffix-example = suffix zero_code (codes "x1g") _ refl refl refl

pub suffix_underscore-example : IsFaulty (codes "1_") OutsideProfile (Word IntegerSuffix)
suffix_underscore-example = suffix 49 (codes "_") _ refl refl refl

pub suffix_prefix-example : IsFaulty (codes "0X1") OutsideProfile (Word IntegerSuffix)
suffix_prefix-example = suffix zero_code (codes "X1") _ refl refl refl

pub suffix_character-example : IsFaulty (codes "0'\\nb") OutsideProfile (Word IntegerSuffix)
suffix_character-example = suffix zero_code (codes "'\\nb") _ refl refl refl

pub float-example : IsFaulty (codes "1_0.5") OutsideProfile (Word Float)
float-example = float 49 (codes "_0.5") _ refl refl refl refl

pub great_integer-example : IsFaulty (codes "9223372036854775809") LimitPassed (Limit IntegerLimit)
great_integer-example = great_integer nine_code (codes "223372036854775809") _ refl refl refl

pub long_word-example : IsFaulty (replicate 256 lower_a_code) LimitPassed (Limit NameLimit)
long_word-example = long_word lower_a_code (replicate 255 lower_a_code) (inl refl) (lit< tt)

pub long_variable-example : IsFaulty (replicate 256 upper_a_code) LimitPassed (Limit NameLimit)
long_variable-example = long_word upper_a_code (replicate 255 upper_a_code) (inr refl) (lit< tt)

pub long_graphic-example : IsFaulty (replicate 256 star_code) LimitPassed (Limit NameLimit)
long_graphic-example = long_graphic star_code (replicate 255 star_code) refl refl (lit< tt)

pub long_name-example : IsFaulty (codes "'" ++ replicate 256 lower_a_code ++ codes "'") LimitPassed (Limit NameLimit)
long_name-example = long_name quote_code (replicate 256 lower_a_code ++ codes "'") (replicate 256 lower_a_code) 257 refl refl (lit< tt)
