use Rattle.html_tokenizer.proofs.EmitsLemmas.{asks_after, if_ok_map}
use Rattle.html_tokenizer.proofs.reader.Reader.take.Goals as goal

pub returns-clause-asks : goal.returns-clause-asks
returns-clause-asks g c = if_ok_map c.take_in_markup.result c.take_in_markup.ensures.asks (λ pause a.
    asks_after g.S.TokenSink.means pause (g.S.TokenSink.state c.args.sink.now)
    (g.S.TokenSink.state c.take_in_raw_text.new.sink) (g.S.TokenSink.state c.take_in_markup.new.sink)
    c.in_ok-take_in_raw_text.ensures.emits a)
