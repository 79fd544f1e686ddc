use Rattle.std.proofs.Common.{[], refl}
use Rattle.html_tokenizer.proofs.PauseMarks.{page_mark, some_map}
use Rattle.html_tokenizer.proofs.EmitsLemmas.{if_ok_map, emits_same}
use Rattle.html_tokenizer.specs.PageRest.{rest_after}
use Rattle.html_tokenizer.proofs.tokenizer.Tokenizer.take.Goals as goal

pub returns-in-None-clause-asks : goal.returns-in-None-clause-asks
returns-in-None-clause-asks g c =
    emits_same g.Sink.TokenSink.means (g.Sink.TokenSink.state c.args.self.now.sink)
    (g.Sink.TokenSink.state c.args.self.now.sink) refl

pub returns-in-Some-clause-greater : goal.returns-in-Some-clause-greater
returns-in-Some-clause-greater g c = if_ok_map c.take.result c.take.ensures.greater (λ pause k.
    some_map pause k (λ e. page_mark c.args.self.now.line_ends c.args.c c.in-Some.c (rest_after c.args.c [])
    (c.in-Some.ensures.1 []) e))
