use Rattle.std.proofs.Common.{sym, ap, subst, ◌∙◌}
use Rattle.std.specs.Str.{chars}
use Rattle.std.specs.Prelude.{option_map}
use Rattle.std.proofs.lemmas.Result.{err_from_is_err_and}
use Rattle.tree_serializer.specs.Calls.{reply_of}
use Rattle.tree_serializer.specs.Emitted.{IsEmitted}
use Rattle.article_values.specs.Views.{blocks_view}
use Rattle.article_writing.specs.Contents.{content_of_blocks}
use Rattle.written_document_laws.specs.Emissions.{document_calls}
use Rattle.article_writing.proofs.Documents.{document_emitted, document_refused}
use Rattle.article_writing.proofs.writing.SerializableArticleSerialize.serialize.Goals as goal

pub returns-in_err-write_doctype : goal.returns-in_err-write_doctype
unfolding chars
returns-in_err-write_doctype g c =
    let p = err_from_is_err_and c.from_residual.result c.from_residual.ensures.1 in
    subst (λ l. IsEmitted g.S.Serializer.means (g.S.Serializer.seen c.args.serializer.now) l
    (reply_of c.from_residual.result) (g.S.Serializer.seen c.write_doctype.new.self))
    (sym (c.a_document_is_emitted.ensures c.args._scope.now c.args.self.now.article.now.title
    (content_of_blocks (blocks_view c.args.self.now.article.now.blocks))))
    (document_refused g.S.Serializer.means _ _ c.write_doctype.result c.from_residual.result _ p.0 _ _
    c.in_err-write_doctype.was p.1 p.2
    c.write_doctype.ensures)

pub returns : goal.returns
unfolding chars
returns g c =
    let title = c.args.self.now.article.now.title in
    let emitted = content_of_blocks (blocks_view c.blocks-2.result.now) in
    let given = option_map (λ text. chars text.now) c.title.result in
    subst (λ l. IsEmitted g.S.Serializer.means (g.S.Serializer.seen c.args.serializer.now) l
    (reply_of c.emit_element.result) (g.S.Serializer.seen c.emit_element.new.serializer))
    (ap (λ t. document_calls t emitted) c.title.ensures
    ∙ ap (λ bs. document_calls title (content_of_blocks (blocks_view bs))) c.blocks-2.ensures.blocks
    ∙ sym (c.a_document_is_emitted.ensures c.args._scope.now title
    (content_of_blocks (blocks_view c.args.self.now.article.now.blocks))))
    (document_emitted g.S.Serializer.means _ _ _ c.write_doctype.result c.in_ok-write_doctype.field-0
    c.emit_element.result given emitted c.in_ok-write_doctype.was c.write_doctype.ensures c.emit_element.ensures)
