use Rattle.std.proofs.Common.{◌≡◌, ◌++◌, ◌∙◌, ap, length, rules, subst, sym, take, take-append-drop}
use Rattle.std.proofs.lemmas.List.{nil_from_length}
use Rattle.page_reading.specs.Readers.{Comes}
use Rattle.stored_lines.proofs.pages.tree_of.Goals as goal

pub pieces-preserved : goal.pieces-preserved
pieces-preserved c = λ forest quirks comes.
    let n = c.min.result in
    let rest = c.pieces.rest.now in
    let whole : c.split_at.result.0.now ++ c.split_at.result.1.now ≡ rest =
    ap (λ l. l ++ c.split_at.result.1.now) c.split_at.ensures.front
    ∙ (ap (λ l. take n rest ++ l) c.split_at.ensures.back ∙ take-append-drop n rest) in
    c.pieces.invariant forest quirks (subst (λ l. Comes c.pieces.reader l forest quirks) whole
    (c.in_ok-push.ensures.reads c.split_at.result.1.now forest quirks comes))

pub returns : goal.returns
returns c =
    let dom = c.in_ok-finish.field-0 in
    let none : length c.pieces.rest.now ≡ 0 = search rules in
    c.pieces.invariant dom.forest dom.quirks (subst (λ l. Comes c.pieces.reader l dom.forest dom.quirks)
    (sym (nil_from_length c.pieces.rest.now none)) c.in_ok-finish.ensures.tree)
