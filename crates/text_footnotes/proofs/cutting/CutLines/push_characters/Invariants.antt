use Rattle.std.proofs.Common.{◌≡◌, fold, length, take, chars}
use Rattle.text_lines.specs.Tagged.{tagged}
use Rattle.text_footnotes.specs.Cuts.{cut_of, HasJoinedTexts, placed_spaced}
use Rattle.text_footnotes.proofs.cutting.CutLines.push_characters.Given as goal

abbrev pub invariant-loop-c : goal.invariant-loop-c
invariant-loop-c g l =
    let seen = g.T.EqualCopy.seen in
    record {
      placed : cut_of seen l.self ≡ fold (placed_spaced l.width) (cut_of seen l.fn.self)
          (tagged (take (length l.yielded) (chars l.text)) (seen l.tag));
      joined : HasJoinedTexts seen l.fn.self → HasJoinedTexts seen l.self;
    }
