use Rattle.std.proofs.Common.{ap, ◌∙◌}
use Rattle.tree_formatting.specs.Alike.{are_alike}
use Rattle.tree_formatting.specs.Counted.{count_of}
use Rattle.tree_formatting.specs.Prints.{tag_print}
use Rattle.tree_formatting.proofs.CountLemmas.{at_most_in, if_ok_map}
use Rattle.tree_formatting.proofs.PrintLemmas.{prints_alike}
use Rattle.tree_formatting.proofs.counted.TagCounts.count_in.Goals as goal

pub returns-clause-most : goal.returns-clause-most
returns-clause-most c = if_ok_map c.one_more-2.result c.one_more-2.ensures.before (λ most is held counted.
    at_most_in (λ a. are_alike a c.args.tag.now) tag_print (tag_print c.args.tag.now) held
    (count_of c.args.self.now.tags) (λ a e. prints_alike a c.args.tag.now e) counted.tags most
    (is ∙ ap (count_of c.args.self.now.tags) c.tag_print.ensures))
