use Rattle.std.proofs.Common.{◌≡◌, IsTrue, chars, drop}
use denote.Text.{Utf8}
use denote.Shadow.{shadow}
use Rattle.tree_names.specs.Sets.{are_ascii, words_of}
use Rattle.render_conversion.specs.Hiding.{after_words}
use Rattle.render_conversion.proofs.hiding.consists_of.Given as goal

abbrev pub invariant-loop-word : goal.invariant-loop-word
invariant-loop-word l = record {
  text : shadow (Utf8 l.rest);
  ascii : IsTrue (are_ascii (words_of (drop l.word-index l.words)));
  same : after_words (words_of (drop l.word-index l.words)) (chars l.rest)
      ≡ after_words (words_of l.words) (chars l.text);
}
