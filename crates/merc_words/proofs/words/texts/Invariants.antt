-- The words before this one are UTF-8, and stand in the list as texts.
use Rattle.std.proofs.Common.{◌≡◌, All, IsUtf8, take}
use Rattle.merc_words.specs.Parts.{words_behind}
use Rattle.merc_words.proofs.words.texts.Given as goal

abbrev pub invariant-loop-word : goal.invariant-loop-word
invariant-loop-word l = record {
  texts_are : words_behind l.texts.items ≡ take l.word-index l.words;
  utf8 : All IsUtf8 (take l.word-index l.words);
}
