use Rattle.std.proofs.Common.{◌≡◌, fold, length, take}
use Rattle.text_lines.specs.Tagged.{elements_items, line_elements}
use Rattle.text_footnotes.specs.Cuts.{cut_of, tags_seen, HasJoinedTexts, placed_noted}
use Rattle.text_footnotes.proofs.footnotes.push_line.Given as goal

abbrev pub invariant-loop-element : goal.invariant-loop-element
invariant-loop-element g l =
    let seen = tags_seen g.A.EqualCopy.seen in
    record {
      placed : cut_of seen l.cut ≡ fold (placed_noted l.width) (cut_of seen l.fn.cut)
          (elements_items g.A.EqualCopy.seen (take (length l.yielded) (line_elements l.line)));
      joined : HasJoinedTexts seen l.fn.cut → HasJoinedTexts seen l.cut;
    }
