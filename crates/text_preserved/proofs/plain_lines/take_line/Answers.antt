use Rattle.std.proofs.Common.{◌++◌, ◌∷◌, [], chars, sym, ap, subst, ◌∙◌, arith, string_bytes, take}
use Rattle.text_lines.specs.Columns.{text_columns}
use Rattle.text_lines.specs.Tagged.{line_items, tagged}
use Rattle.text_pieces.specs.Sources.{sources_of}
use Rattle.text_preserved.specs.PlainLines.{IsOnlyLine, MakesLine, lead_items}
use Rattle.text_preserved.proofs.PlainLemmas.{line_taken}
use Rattle.text_preserved.proofs.plain_lines.take_line.Goals as goal

pub truncate-requires : goal.truncate-requires
truncate-requires g c = λ _.
    let seen = g.T.EqualCopy.seen in
    let taken = line_taken seen c.args.width c.args.wraps c.args.pieces.now.items c.pop.new.self.items
    c.pop-2.new.self.items
    c.in-Some-Text.piece c.pop-2.result c.in-Some.length c.in-Some.columns
    (subst (λ ps. MakesLine c.args.width c.args.wraps ps c.in-Some.length c.in-Some.columns) c.deref.ensures.value
    c.in-Some.ensures) (c.in-Some-Text.ensures.items
    ∙ ap (λ last. c.pop.new.self.items ++ last ∷ []) c.in-Some-Text.field-0-is) c.pop-2.ensures.items
    (λ some. c.pop-2.ensures.variant.1 (omega (arith, some, c.pop.new.self.ok.0))) in
    taken.cut.edge

pub push_string-requires : goal.push_string-requires
push_string-requires g c =
    let seen = g.T.EqualCopy.seen in
    let taken = line_taken seen c.args.width c.args.wraps c.args.pieces.now.items c.pop.new.self.items
    c.pop-2.new.self.items
    c.in-Some-Text.piece c.pop-2.result c.in-Some.length c.in-Some.columns
    (subst (λ ps. MakesLine c.args.width c.args.wraps ps c.in-Some.length c.in-Some.columns) c.deref.ensures.value
    c.in-Some.ensures) (c.in-Some-Text.ensures.items
    ∙ ap (λ last. c.pop.new.self.items ++ last ∷ []) c.in-Some-Text.field-0-is) c.pop-2.ensures.items
    (λ some. c.pop-2.ensures.variant.1 (omega (arith, some, c.pop.new.self.ok.0))) in
    taken.cut.counted ∙ ap (λ bytes. text_columns (chars bytes)) (sym c.truncate.ensures.bytes)

pub returns-clause-line : goal.returns-clause-line
returns-clause-line g c =
    let seen = g.T.EqualCopy.seen in
    let taken = line_taken seen c.args.width c.args.wraps c.args.pieces.now.items c.pop.new.self.items
    c.pop-2.new.self.items
    c.in-Some-Text.piece c.pop-2.result c.in-Some.length c.in-Some.columns
    (subst (λ ps. MakesLine c.args.width c.args.wraps ps c.in-Some.length c.in-Some.columns) c.deref.ensures.value
    c.in-Some.ensures) (c.in-Some-Text.ensures.items
    ∙ ap (λ last. c.pop.new.self.items ++ last ∷ []) c.in-Some-Text.field-0-is) c.pop-2.ensures.items
    (λ some. c.pop-2.ensures.variant.1 (omega (arith, some, c.pop.new.self.ok.0))) in
    let main = seen c.in-Some-Text.piece.main_tag in
    subst (IsOnlyLine c.args.width c.args.wraps (sources_of seen c.args.pieces.now.items))
    (sym (c.in_ok-push_string.ensures.ok
    ∙ ap (λ bytes. line_items seen c.push_lead.new.line ++ tagged (chars bytes) main) c.truncate.ensures.bytes
    ∙ ap (λ items. items ++ tagged (chars (take c.in-Some.length (string_bytes c.in-Some-Text.piece.text))) main)
    (c.in_ok-push_lead.ensures.items ∙ ap (λ items. items ++ lead_items c.pop-2.result) c.new-line.ensures.items)))
    taken.line

pub returns-clause-taken : goal.returns-clause-taken
returns-clause-taken g c =
    let seen = g.T.EqualCopy.seen in
    let taken = line_taken seen c.args.width c.args.wraps c.args.pieces.now.items c.pop.new.self.items
    c.pop-2.new.self.items
    c.in-Some-Text.piece c.pop-2.result c.in-Some.length c.in-Some.columns
    (subst (λ ps. MakesLine c.args.width c.args.wraps ps c.in-Some.length c.in-Some.columns) c.deref.ensures.value
    c.in-Some.ensures) (c.in-Some-Text.ensures.items
    ∙ ap (λ last. c.pop.new.self.items ++ last ∷ []) c.in-Some-Text.field-0-is) c.pop-2.ensures.items
    (λ some. c.pop-2.ensures.variant.1 (omega (arith, some, c.pop.new.self.ok.0))) in
    taken.none
