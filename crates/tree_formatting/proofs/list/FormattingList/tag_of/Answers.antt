use Rattle.std.proofs.Common.{Bor, Some, ap, option_map, sym, ◌∙◌}
use Rattle.html_lexemes.specs.declared.token.Tag.{Tag}
use Rattle.tree_formatting.specs.Entries.{entries_of, tag_in}
use Rattle.tree_formatting.proofs.PlaceLemmas.{stands_in, tag_at, tag_is}
use Rattle.tree_formatting.proofs.EntryLemmas.{tag_in_none}
use Rattle.tree_formatting.proofs.list.FormattingList.tag_of.Goals as goal

pub returns-in_err-at : goal.returns-in_err-at
returns-in_err-at g c =
    let n = g.S.TreeSink.view.number c.args.target in
    ap (option_map {T = Bor Tag} {U = Tag} (λ tag. tag.now)) c.from_residual.ensures
    ∙ sym (tag_in_none n (entries_of g.S.TreeSink.view.number c.as_slice.result.now)
    (c.position.ensures.missing c.in_err-at.was))
    ∙ ap (λ v. tag_in n (entries_of g.S.TreeSink.view.number v)) (c.as_slice.ensures.value ∙ c.self.view_is)

pub returns-in-Element : goal.returns-in-Element
returns-in-Element g c =
    let n = g.S.TreeSink.view.number c.args.target in
    let at = stands_in g.S.TreeSink.view.number n c.as_slice.result.now c.args.self.now c.in_ok-at.at
    (c.as_slice.ensures.value ∙ c.self.view_is) c.in_ok-at.ensures.found in
    ap Some (sym (tag_at g.S.TreeSink.view.number n c.args.self.now c.self.inside.entries.items c.in_ok-at.at at
    c.self.view_is c.index.result.now c.in-Element.field-0 c.in-Element.tag c.index.ensures c.in-Element.is))
    ∙ sym (tag_is g.S.TreeSink.view.number n c.args.self.now c.in_ok-at.at at)
