use Rattle.std.proofs.Common.{◌≡◌, [], ◌∷◌, ◌++◌, ap, chars, map, string_bytes, sym, ◌∙◌}
use Rattle.std.proofs.lemmas.Result.{IfOk-weaker}
use Rattle.text_footnotes.specs.Cuts.{cut_of, lines_within, tags_seen}
use Rattle.text_footnotes.proofs.CutLemmas.{one_text_placed}
use Rattle.text_footnotes.proofs.footnotes.into_footnote_lines.Goals as goal

pub returns-in_ok-push_string-in-Ok-clause-lines : goal.returns-in_ok-push_string-in-Ok-clause-lines
returns-in_ok-push_string-in-Ok-clause-lines g c =
    let seen = g.A.EqualCopy.seen in
    let alone : tags_seen seen c.push.new.self ≡ seen c.in-Ok.annotation ∷ [] = ap (map seen)
    (c.in_ok-push-in-Ok.ensures.items ∙ ap (λ l. l ++ c.in-Ok.annotation ∷ []) c.in_ok-tags-in-Ok.ensures.items) in
    IfOk-weaker c.into_lines.result _ _ (λ _ h. h
    ∙ (one_text_placed c.args.width (chars (string_bytes c.in-Ok.text)) (seen c.in-Ok.annotation)
    (tags_seen seen c.push.new.self) (cut_of (tags_seen seen) c.new-cut.result)
    (cut_of (tags_seen seen) c.push_string.new.self) c.new-cut.ensures.cut alone
    c.in_ok-push_string-in-Ok.ensures.placed
    ∙ ap (lines_within c.args.width) (sym c.in-Ok.ensures.text))) c.into_lines.ensures.lines
