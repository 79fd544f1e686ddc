use Rattle.std.proofs.Common.{◌≡◌, map, take, length, chars, string_bytes}
use Rattle.text_lines.specs.Tagged.{line_items, tagged}
use Rattle.text_decorators.specs.Texts.{footnote_texts}
use Rattle.text_decorators.proofs.default_marks.footnotes.Given as goal

abbrev pub invariant-loop-url : goal.invariant-loop-url
invariant-loop-url g l = record {
  counted : length l.lines.items ≡ l.url-index;
  numbered : map (line_items g.A.EqualCopy.seen) l.lines.items ≡ map (λ text. tagged text (g.A.EqualCopy.seen l.tag))
      (footnote_texts 1 (map (λ url. chars (string_bytes url)) (take l.url-index l.url-items)));
}
