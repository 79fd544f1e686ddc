use Rattle.std.proofs.Common.{ap, sym, ◌∙◌, refl, subst, chars, ◌++◌}
use Rattle.std.specs.Prelude.{Err}
use Rattle.std.proofs.lemmas.Result.{err_from_is_err_and}
use Rattle.text_normal.specs.Units.{lettered}
use Rattle.text_normal.specs.Riders.{plain}
use Rattle.text_normal.specs.MarkedTags.{tag_seen}
use Rattle.text_normal.specs.NormalStates.{HasRead, HasWider}
use Rattle.text_normal.specs.MarkedStates.{AddsWords, MeetsWideWord}
use Rattle.text_normal.proofs.WordLemmas.{word_bare, word_begins}
use Rattle.text_normal.proofs.MarkedLemmas.{text_carried, wide_at_front, wide_at_back}
use Rattle.text_normal.proofs.marked.MarkedText.add_text.Goals as goal

pub split_before-requires : goal.split_before-requires
split_before-requires g c = c.from_word.ensures.leaves.parts

pub returns-in_err-add_text-clause-narrow : goal.returns-in_err-add_text-clause-narrow
returns-in_err-add_text-clause-narrow g c = λ e further.
    let p = err_from_is_err_and c.from_residual-in_err-add_text.result c.from_residual-in_err-add_text.ensures.1 in
    wide_at_front g.T.EqualCopy.seen c.args.self.now (chars c.args.text.now) (chars c.split_before.result.0.now)
    (chars c.split_before.result.1.now) (g.T.EqualCopy.seen c.args.tag.now) further
    c.split_before.ensures.parts
    (λ width overflow read has. subst (λ tag. HasWider width overflow (lettered (chars c.split_before.result.0.now)
    (plain tag))) c.in_ok-copy.ensures
    (c.add_text.ensures.narrow (c.in_err-add_text.was ∙ ap Err (sym p.2) ∙ sym p.1 ∙ e)
    width overflow read has))

pub returns-in_err-add_words-clause-narrow : goal.returns-in_err-add_words-clause-narrow
returns-in_err-add_words-clause-narrow g c = λ e further.
    let p = err_from_is_err_and c.from_residual-in_err-add_words.result c.from_residual-in_err-add_words.ensures.1 in
    wide_at_back g.T.EqualCopy.seen c.args.self.now
    (record c.args.self.now { text = c.add_text.new.self }) (chars c.args.text.now) (chars c.split_before.result.0.now)
    (chars c.split_before.result.1.now) (g.T.EqualCopy.seen c.args.tag.now) further
    c.split_before.ensures.parts
    refl refl
    (λ width overflow read has. subst (λ tag. HasRead (tag_seen g.T.EqualCopy.seen) width overflow
    (read ++ lettered (chars c.split_before.result.0.now) (plain tag)) c.add_text.new.self) c.in_ok-copy.ensures
    (c.in_ok-add_text.ensures.read width overflow read has))
    (subst (λ tag. MeetsWideWord g.T.EqualCopy.seen
    (record c.args.self.now { text = c.add_text.new.self }) (chars c.split_before.result.1.now) (plain tag))
    c.in_ok-copy.ensures
    (c.add_words.ensures.narrow (c.in_err-add_words.was ∙ ap Err (sym p.2) ∙ sym p.1 ∙ e)))

pub returns-clause-carries : goal.returns-clause-carries
returns-clause-carries g c = λ further.
    text_carried g.T.EqualCopy.seen c.args.self.now
    (record c.args.self.now { text = c.add_text.new.self }) c.add_words.new.self _ (chars c.args.text.now)
    (chars c.split_before.result.0.now) (chars c.split_before.result.1.now) (g.T.EqualCopy.seen c.args.tag.now) further
    c.split_before.ensures.parts
    (word_bare c.args.text.now c.from_word.result.now c.split_before.result.0.now c.from_word.ensures.leaves
    c.split_before.ensures.front)
    (word_begins c.from_word.result.now c.split_before.result.1.now c.split_before.ensures.rest
    c.from_word.ensures.begins)
    refl refl refl
    (λ width overflow read has. subst (λ tag. HasRead (tag_seen g.T.EqualCopy.seen) width overflow
    (read ++ lettered (chars c.split_before.result.0.now) (plain tag)) c.add_text.new.self) c.in_ok-copy.ensures
    (c.in_ok-add_text.ensures.read width overflow read has))
    (subst (λ tag. AddsWords g.T.EqualCopy.seen
    (record c.args.self.now { text = c.add_text.new.self }) c.add_words.new.self (chars c.split_before.result.1.now)
    (plain tag))
    c.in_ok-copy.ensures c.in_ok-add_words.ensures.words)
    refl refl refl c.ends_in_word-self.ensures
