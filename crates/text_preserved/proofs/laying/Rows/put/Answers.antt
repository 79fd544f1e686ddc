use Rattle.std.proofs.Common.{◌++◌, ◌∷◌, [], ap, ◌∙◌}
use Rattle.std.proofs.lemmas.Result.{on_ok_weaker}
use Rattle.text_lines.specs.Tagged.{line_items, character}
use Rattle.text_preserved.specs.Rows.{laying_of}
use Rattle.text_preserved.proofs.RowLemmas.{put_after}
use Rattle.text_preserved.proofs.laying.Rows.put.Goals as goal

pub returns-clause-laid : goal.returns-clause-laid
returns-clause-laid g c =
    let seen = g.T.EqualCopy.seen in
    let item = character c.args.c (seen c.args.tag.now) in
    on_ok_weaker c.push_char.result (λ pushed. put_after c.args.width _ (laying_of seen c.args.self.now)
    (laying_of seen c.make_room.new.self) (line_items seen c.push_char.new.self) (line_items seen c.clear.new.self) item
    c.width_of.ensures c.in_ok-make_room.ensures.laid
    c.clear.ensures.items (pushed ∙ ap (λ items. items ++ item ∷ []) c.in_ok-push_line.ensures.ok))
    c.push_char.ensures.ok
