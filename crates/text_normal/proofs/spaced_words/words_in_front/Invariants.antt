use Rattle.std.proofs.Common.{length}
use denote.Text.{Utf8}
use denote.Shadow.{shadow}
use Rattle.text_normal.specs.SpacedWords.{HasWords}
use Rattle.text_normal.proofs.spaced_words.words_in_front.Given as goal

abbrev pub invariant-loop-more : goal.invariant-loop-more
invariant-loop-more l =
    record {
      text : shadow (Utf8 l.rest);
      words : HasWords l.text l.rest l.columns l.room;
    }

abbrev pub decreases-loop-more : goal.decreases-loop-more
decreases-loop-more l = length l.rest
