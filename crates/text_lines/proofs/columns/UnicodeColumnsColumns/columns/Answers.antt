use Rattle.std.proofs.Common.{sym, arith, inr}
use Rattle.std.proofs.lemmas.Bool.Decides.{nat_tests}
use Rattle.text_lines.specs.Columns.{columns_of-one}
use Rattle.text_lines.proofs.columns.UnicodeColumnsColumns.columns.Goals as goal

pub returns-in-32-to-126 : goal.returns-in-32-to-126
returns-in-32-to-126 c =
    sym (columns_of-one c.args.c (inr (
      grind (arith, nat_tests, c.in-32-to-126),
      grind
          (arith, nat_tests, c.in-32-to-126),
    )))
