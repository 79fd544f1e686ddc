use Rattle.std.proofs.Common.{arith, string_bytes}
use Rattle.std.proofs.lemmas.Result.{on_ok_weaker}
use Rattle.text_lines.specs.Tagged.{line_items}
use Rattle.text_footnotes.specs.Cuts.{cut_of}
use Rattle.text_footnotes.proofs.RunLemmas.{whole_columns, whole_placed}
use Rattle.text_footnotes.proofs.cutting.CutLines.push_string.Goals as goal

pub push_string-requires : goal.push_string-requires
push_string-requires g c =
    whole_columns c.as_str.result.now (string_bytes c.args.text) c.run_length-count.result
    c.run_length-count.ensures.boundary c.run_length-count.ensures.printable c.as_str.ensures.value
    (omega (arith, c.if-count-len.true, c.len.ensures, c.args.text.bytes.ok.0))

pub returns-then-count-len-clause-placed : goal.returns-then-count-len-clause-placed
returns-then-count-len-clause-placed g c =
    let seen = g.T.EqualCopy.seen in
    on_ok_weaker c.push_string.result (λ put. whole_placed c.args.width c.as_str.result.now
    (string_bytes c.args.text) c.run_length-count.result c.room.result (seen c.args.tag)
    (cut_of seen c.args.self.now) (line_items seen c.push_string.new.self) c.as_str.utf8
    c.run_length-count.ensures.boundary c.run_length-count.ensures.printable c.run_length-count.ensures.within
    c.room.ensures c.as_str.ensures.value
    (omega (arith, c.if-count-len.true, c.len.ensures, c.args.text.bytes.ok.0)) put) c.push_string.ensures.ok
