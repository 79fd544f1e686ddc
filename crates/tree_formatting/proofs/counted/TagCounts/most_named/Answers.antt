use Rattle.std.proofs.Common.{ap, ◌∙◌}
use Rattle.tree_formatting.specs.Counted.{count_of}
use Rattle.tree_formatting.specs.Entries.{is_named}
use Rattle.tree_formatting.specs.Prints.{name_print}
use Rattle.tree_formatting.proofs.CountLemmas.{at_most_in, named_print}
use Rattle.tree_formatting.proofs.counted.TagCounts.most_named.Goals as goal

pub returns : goal.returns
returns c held counted = at_most_in (is_named c.args.name.now) (λ tag. name_print tag.name) (name_print c.args.name.now)
    held (count_of c.args.self.now.names) (λ tag e. named_print c.args.name.now tag e) counted.names _
    (c.count_of.ensures ∙ ap (count_of c.args.self.now.names) c.name_print.ensures)
