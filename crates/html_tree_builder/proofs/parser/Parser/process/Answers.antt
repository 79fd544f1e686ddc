use Rattle.std.proofs.Common.{ap, chars, string_bytes}
use Rattle.html_tokenizer.specs.Completes as tokenizers
use Rattle.html_tree_builder.proofs.ReadLemmas.{read_on}
use Rattle.html_tree_builder.proofs.parser.Parser.process.Goals as goal
use Rattle.html_tree_builder.specs.Parsers.{Completes, state_in}
use Rattle.rules_table.specs.Settling.{meaning}

pub returns-clause-reads : goal.returns-clause-reads
unfolding Completes
returns-clause-reads g c =
    let state = state_in g.S.TreeSink.view in
    let means = meaning g.S.TreeSink.view.handle in
    read_on (tokenizers.Completes state means c.feed_on.new.self)
    (tokenizers.Completes state means c.args.self.now.tokenizer)
    c.push_back.new.self.text c.args.self.now.input_buffer.text (chars (string_bytes c.args.piece))
    c.feed_on.new.queue.text c.in_ok-feed_on.ensures.done.0 (ap (λ q. q.text) c.in_ok-push_back.ensures.ok)
    c.in_ok-feed_on.ensures.reads
