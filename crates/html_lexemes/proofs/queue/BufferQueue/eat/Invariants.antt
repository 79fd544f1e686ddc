use Rattle.std.specs.Str.Iter.{chars_rest}
use Rattle.html_lexemes.proofs.EatenLemmas.{IsTaking}
use Rattle.html_lexemes.proofs.queue.BufferQueue.eat.Given as goal

abbrev pub invariant-eaten : goal.invariant-eaten
invariant-eaten g l = IsTaking l.fn.self l.self l.text l.yielded (chars_rest l.iterator')
