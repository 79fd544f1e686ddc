use Rattle.std.proofs.Common.{true, subst, ap, ◌∙◌, OnErr, OnOk}
use Rattle.tree_serializer.specs.Walks.{walk_text}
use Rattle.tree_serializer.specs.Writing.{Grows, GrowsPart}
use Rattle.tree_serializer.specs.declared.options.SerializeOpts.{SerializeOpts}
use Rattle.article_values.specs.Views.{blocks_view}
use Rattle.article_writing.specs.Contents.{article_tree}
use Rattle.article_writing.proofs.writing.ArticleWriteArticle.write_html.Goals as goal

pub returns-clause-ok : goal.returns-clause-ok
returns-clause-ok g c =
    let tree = article_tree c.args.self.now.title (blocks_view c.args.self.now.blocks) in
    subst (λ text. OnOk c.serialize.result (Grows text (g.W.ByteWriter.contents c.args.writer.now)
    (g.W.ByteWriter.contents c.serialize.new.writer)))
    (ap (λ (o : SerializeOpts). walk_text o.scripting_enabled o.traversal_scope 0 tree) c.default.ensures
    ∙ c.an_article_is_written_back.ensures true c.args.self.now.title (blocks_view c.args.self.now.blocks)
    c.blocks-2.ensures.faultless) c.serialize.ensures.ok

pub returns-clause-part : goal.returns-clause-part
returns-clause-part g c =
    let tree = article_tree c.args.self.now.title (blocks_view c.args.self.now.blocks) in
    subst (λ text. OnErr c.serialize.result (GrowsPart text (g.W.ByteWriter.contents c.args.writer.now)
    (g.W.ByteWriter.contents c.serialize.new.writer)))
    (ap (λ (o : SerializeOpts). walk_text o.scripting_enabled o.traversal_scope 0 tree) c.default.ensures
    ∙ c.an_article_is_written_back.ensures true c.args.self.now.title (blocks_view c.args.self.now.blocks)
    c.blocks-2.ensures.faultless) c.serialize.ensures.part

pub returns-clause-alone : goal.returns-clause-alone
returns-clause-alone g c = λ another others faultless fit same.
    c.no_text_is_two_articles.ensures c.args.self.now.title another (blocks_view c.args.self.now.blocks) others
    c.blocks-2.ensures.faultless faultless (c.first_numbers_fit.ensures c.args.self.now.blocks) fit same
