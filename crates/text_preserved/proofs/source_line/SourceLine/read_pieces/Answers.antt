use Rattle.std.proofs.Common.{sym, ap, ◌∙◌}
use Rattle.text_pieces.specs.Sources.{piece_sources, sources_of}
use Rattle.text_preserved.specs.Pass.{read_all}
use Rattle.text_preserved.specs.SourceLines.{pass_of}
use Rattle.text_preserved.proofs.TrimLemmas.{nil_length}
use Rattle.text_preserved.proofs.ReadingLemmas.{more_read}
use Rattle.text_preserved.proofs.source_line.SourceLine.read_pieces.Goals as goal

pub loop-first-preserved : goal.loop-first-preserved
loop-first-preserved g c =
    let seen = g.T.EqualCopy.seen in
    record {
      pass = more_read (pass_of seen c.loop-first.self) _ _ (piece_sources seen c.in-Some.first.now)
          (sources_of seen c.in-Some.others.now) (sources_of seen c.loop-first.rest.now)
          (ap (sources_of seen) c.in-Some.ensures.cases.0) c.loop-first.invariant.pass c.in_ok-read_piece.ensures.pass;
      joined = λ h. c.read_piece.ensures.joined (c.loop-first.invariant.joined h);
    }

pub returns-clause-pass : goal.returns-clause-pass
returns-clause-pass g c =
    let seen = g.T.EqualCopy.seen in
    sym (ap (λ pieces. read_all (pass_of seen c.loop-first.self) (sources_of seen pieces))
    (nil_length c.loop-first.rest.now c.in_default.ensures.cases)) ∙ c.loop-first.invariant.pass
