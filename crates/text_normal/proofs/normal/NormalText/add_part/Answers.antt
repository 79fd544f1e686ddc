use Rattle.std.proofs.Common.{refl, chars, string_bytes}
use Rattle.std.proofs.lemmas.Result.{on_ok_weaker}
use Rattle.text_normal.proofs.NormalRuns.{run_reads}
use Rattle.text_normal.proofs.normal.NormalText.add_part.Goals as goal

pub returns : goal.returns
returns g c =
    on_ok_weaker c.push_string.result (λ added. run_reads g.T.EqualCopy.seen c.args.self.now _
    (chars (string_bytes c.args.text)) (g.T.EqualCopy.seen c.args.tag) c.requires refl refl refl added)
    c.push_string.ensures.ok
