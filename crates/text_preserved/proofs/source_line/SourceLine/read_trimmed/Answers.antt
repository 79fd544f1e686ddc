use Rattle.std.proofs.Common.{refl, sym, ap, ◌∙◌}
use Rattle.text_pieces.specs.Sources.{piece_sources}
use Rattle.text_preserved.specs.Preserved.{trimmed}
use Rattle.text_preserved.specs.Trimming.{trimmed_each}
use Rattle.text_preserved.specs.Pass.{read_all}
use Rattle.text_preserved.specs.SourceLines.{pass_of}
use Rattle.text_preserved.proofs.TrimLemmas.{nil_length}
use Rattle.text_preserved.proofs.ReadingLemmas.{more_read, trimmed_framed, framed_more}
use Rattle.text_preserved.proofs.source_line.SourceLine.read_trimmed.Goals as goal

pub loop-first-init : goal.loop-first-init
loop-first-init g c = record { framed = record { width = refl; wraps = refl }; pass = refl; joined = λ h. h }

pub loop-first-preserved : goal.loop-first-preserved
loop-first-preserved g c =
    let seen = g.T.EqualCopy.seen in
    let width = c.args.self.now.width in
    let wraps = c.args.self.now.wraps in
    let framed = c.loop-first.invariant.framed in
    let read = c.in_ok-read_trimmed_piece.ensures.pass
    ∙ ap (read_all (pass_of seen c.loop-first.self)) (trimmed_framed seen width c.loop-first.self.width wraps
    c.loop-first.self.wraps c.in-Some.first.now framed.width framed.wraps) in
    record {
      framed = framed_more (pass_of seen c.args.self.now) (pass_of seen c.loop-first.self) _
          (trimmed width wraps (piece_sources seen c.in-Some.first.now)) framed read;
      pass = more_read (pass_of seen c.loop-first.self) _ _
          (trimmed width wraps (piece_sources seen c.in-Some.first.now))
          (trimmed_each seen width wraps c.in-Some.others.now) (trimmed_each seen width wraps c.loop-first.rest.now)
          (ap (trimmed_each seen width wraps) c.in-Some.ensures.cases.0) c.loop-first.invariant.pass read;
      joined = λ h. c.read_trimmed_piece.ensures.joined (c.loop-first.invariant.joined h);
    }

pub returns-clause-pass : goal.returns-clause-pass
returns-clause-pass g c =
    let seen = g.T.EqualCopy.seen in
    sym (ap (λ pieces. read_all (pass_of seen c.loop-first.self) (trimmed_each seen c.args.self.now.width
    c.args.self.now.wraps pieces)) (nil_length c.loop-first.rest.now c.in_default.ensures.cases))
    ∙ c.loop-first.invariant.pass
