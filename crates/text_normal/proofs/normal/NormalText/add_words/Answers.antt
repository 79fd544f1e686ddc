use Rattle.std.proofs.Common.{refl, sym, subst, IsUtf8}
use Rattle.text_normal.proofs.SpacedLaying.{words_taken, words_counted}
use Rattle.text_normal.proofs.normal.NormalText.add_words.Goals as goal

pub push_words-requires : goal.push_words-requires
push_words-requires g c =
    words_counted c.args.text.now c.split_before.result.0.now c.words_in_front-columns.result.1.now
    c.words_in_front-columns.result.0 c.room.result c.words_in_front-columns.ensures.words c.split_before.ensures.front

pub returns-clause-read : goal.returns-clause-read
returns-clause-read g c =
    words_taken g.T.EqualCopy.seen c.args.self.now _ c.args.text.now c.args.after.now c.split_before.result.0.now
    c.words_in_front-columns.result.1.now c.split_before.result.1.now c.in-Some.trailing.now
    c.words_in_front-columns.result.0 c.room.result c.args.read c.in-Some.c (g.T.EqualCopy.seen c.args.tag.now)
    (c.awaits_word.ensures c.if-not-awaits_word.false) c.utf8.text
    (subst IsUtf8 (sym c.split_before.ensures.rest) c.words_in_front-columns.ensures.text) c.requires
    c.if-read-ne32.false c.words_in_front-columns.ensures.words c.split_before.ensures.front
    c.split_before.ensures.parts c.in-Some.ensures.first c.if-c-ne32.false c.if-columns-eq0.false c.room.ensures
    c.in_ok-push_words.ensures refl refl refl
