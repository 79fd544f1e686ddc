use Rattle.std.proofs.Common.{length, chars}
use denote.Text.{Utf8}
use denote.Shadow.{shadow}
use Rattle.text_preserved.specs.Fronts.{HasFront, AreWordsOrNone}
use Rattle.text_preserved.proofs.WordLemmas.{AreRead}
use Rattle.text_preserved.proofs.fronts.after_words.Given as goal

abbrev pub invariant-loop-c : goal.invariant-loop-c
invariant-loop-c l =
    record {
      text : shadow (Utf8 l.rest);
      after_text : shadow (Utf8 l.trailing);
      runs : HasFront (AreRead l.width l.room l.left l.in_word) l.text l.rest;
      words : HasFront (λ cs. AreWordsOrNone l.width l.room cs (chars l.trailing)) l.text l.trailing;
    }

abbrev pub decreases-loop-c : goal.decreases-loop-c
decreases-loop-c l = length l.rest
