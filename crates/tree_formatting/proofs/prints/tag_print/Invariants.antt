use Rattle.std.proofs.Common.{◌≡◌, ◌+◌, ◌%◌, ◌^◌, drop}
use Rattle.std.specs.List.{sum_by}
use Rattle.tree_formatting.specs.Prints.{attribute_print, tag_print}
use Rattle.tree_formatting.proofs.prints.tag_print.Given as goal

-- what is left makes it the tag's print
abbrev pub invariant-loop-attribute : goal.invariant-loop-attribute
invariant-loop-attribute l =
    (l.print + sum_by attribute_print (drop l.attribute-index l.tag.attrs)) % 2 ^ 64 ≡ tag_print l.tag
