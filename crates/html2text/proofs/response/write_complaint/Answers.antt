use Rattle.std.proofs.Common.{codes, ◌++◌}
use Rattle.std.proofs.lemmas.Result.{on_ok_weaker}
use Rattle.std.proofs.KnownBytes.{Appends-trans}
use Rattle.html2text.specs.LinesText.{newline}
use Rattle.html2text.proofs.WritingLemmas.{on_err, on_err_map}
use Rattle.html2text.proofs.ResponseLemmas.{first_part, later_part}
use Rattle.html2text.proofs.response.write_complaint.Goals as goal

pub returns-in_err-write_all-clause-part : goal.returns-in_err-write_all-clause-part
returns-in_err-write_all-clause-part g c =
    on_err _ c.from_residual.ensures.0
    (first_part (codes "html2text: ") (c.args.text.now ++ newline) c.in_err-write_all.ensures.part)

pub returns-in_err-write_all-2-clause-part : goal.returns-in_err-write_all-2-clause-part
returns-in_err-write_all-2-clause-part g c =
    on_err _ c.from_residual-in_err-write_all-2.ensures.0
    (later_part (codes "html2text: ") (c.args.text.now ++ newline) c.in_ok-write_all.ensures.ok
    (first_part c.args.text.now newline (rw c.as_bytes.ensures.value at c.in_err-write_all-2.ensures.part)))

pub returns-clause-ok : goal.returns-clause-ok
returns-clause-ok g c =
    on_ok_weaker c.write_through.result
    (λ added. Appends-trans _ _ _ (codes "html2text: ") (c.args.text.now ++ newline) c.in_ok-write_all.ensures.ok
    (Appends-trans _ _ _ c.args.text.now newline (rw c.as_bytes.ensures.value at c.in_ok-write_all-2.ensures.ok) added))
    c.write_through.ensures.ok

pub returns-clause-part : goal.returns-clause-part
returns-clause-part g c =
    on_err_map c.write_through.result
    (λ part. later_part (codes "html2text: ") (c.args.text.now ++ newline) c.in_ok-write_all.ensures.ok
    (later_part c.args.text.now newline (rw c.as_bytes.ensures.value at c.in_ok-write_all-2.ensures.ok) part))
    c.write_through.ensures.part
