-- Worked examples of values and their symbols.
use Rattle.std.specs.Prelude.{◌≡◌, pos, negsuc, true, false, Some, None, refl}
use Rattle.merc_value.specs.Value.{Int, Text, Con, Values, none, more}
use Rattle.merc_goal_tree.specs.declared.goal.Symbol.TheVariants.{Constructor, Integer, Text as TextSymbol}
use Rattle.merc_meaning.specs.Values.{count, made, fields, same}

abbrev both : Values
both = more (Int (pos 1)) (more (Text 7) none)

count-example : count both ≡ 2
count-example = refl

count-not : count both ≡ 1 → ⊥
count-not behind_the_first = cc

made-example : made (Constructor 200 2) both ≡ Con 200 both
made-example = refl

made-integer : made (Integer (negsuc 4)) none ≡ Int (negsuc 4)
made-integer = refl

made-text : made (TextSymbol 7) none ≡ Text 7
made-text = refl

fields-example : fields (Constructor 200 2) (Con 200 both) ≡ Some both
fields-example = refl

fields-other_name : fields (Constructor 201 2) (Con 200 both) ≡ None
fields-other_name = refl

fields-other_arity : fields (Constructor 200 1) (Con 200 both) ≡ None
fields-other_arity = refl

fields-integer : fields (Integer (pos 5)) (Int (pos 5)) ≡ Some none
fields-integer = refl

fields-other_integer : fields (Integer (pos 5)) (Int (negsuc 4)) ≡ None
fields-other_integer = refl

fields-text : fields (TextSymbol 7) (Text 7) ≡ Some none
fields-text = refl

fields-other_text : fields (TextSymbol 7) (Text 8) ≡ None
fields-other_text = refl

fields-kinds : fields (TextSymbol 7) (Int (pos 7)) ≡ None
fields-kinds = refl

fields-text_for_integer : fields (Integer (pos 7)) (Text 7) ≡ None
fields-text_for_integer = refl

fields-text_for_constructor : fields (Constructor 7 0) (Text 7) ≡ None
fields-text_for_constructor = refl

fields-not : fields (Constructor 200 2) (Con 200 both) ≡ Some none → ⊥
fields-not empty = cc

same-example : same (Con 200 both) (Con 200 both) ≡ true
same-example = refl

same-name : same (Con 200 both) (Con 201 both) ≡ false
same-name = refl

same-argument : same (Con 200 both) (Con 200 (more (Int (pos 1)) (more (Text 8) none))) ≡ false
same-argument = refl

same-fewer : same (Con 200 both) (Con 200 (more (Int (pos 1)) none)) ≡ false
same-fewer = refl

same-more : same (Con 200 (more (Int (pos 1)) none)) (Con 200 both) ≡ false
same-more = refl

same-kinds : same (Int (pos 7)) (Text 7) ≡ false
same-kinds = refl
