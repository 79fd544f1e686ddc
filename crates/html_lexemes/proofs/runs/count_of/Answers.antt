use Rattle.std.proofs.Common.{◌∙◌, sym}
use Rattle.html_lexemes.proofs.ByteRuns.{begun, counted_all}
use Rattle.html_lexemes.proofs.runs.count_of.Goals as goal

pub returns : goal.returns
returns c =
    counted_all c.loop-rest.rest.now c.loop-rest.count (sym c.is_empty.ensures ∙ c.loop-rest-test.false)
    ∙ c.loop-rest.invariant.0 ∙ begun c.args.text.now c.utf8.text
