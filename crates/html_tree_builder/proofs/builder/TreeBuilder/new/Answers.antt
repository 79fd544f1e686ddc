use Rattle.std.proofs.Common.{ap, ◌∙◌}
use Rattle.std.proofs.lemmas.Str.{chars-nil}
use Rattle.std.specs.Str.{chars}
use Rattle.html_tree_builder.proofs.BegunLemmas.{begun_is}
use Rattle.html_tree_builder.proofs.builder.TreeBuilder.new.Goals as goal

pub returns-clause-begun : goal.returns-clause-begun
returns-clause-begun g c =
    let tree = g.S.TreeSink in
    begun_is tree.view c.args.opts c.args.sink c.new.result.items c.from.result c.new-3.result
    c.new.ensures.items (c.from.ensures ∙ (ap chars c.new-2.ensures.bytes ∙ chars-nil)) c.new-3.ensures
