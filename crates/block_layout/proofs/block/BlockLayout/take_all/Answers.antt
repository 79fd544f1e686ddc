use Rattle.std.specs.Prelude.{◌++◌, map}
use Rattle.std.proofs.Common.{ap, ◌∙◌}
use Rattle.std.proofs.lemmas.Result.{on_ok_weaker}
use Rattle.block_layout.specs.Whole.{settled}
use Rattle.block_layout.specs.Seen.{laid_of, lines_of}
use Rattle.block_layout.proofs.block.BlockLayout.take_all.Goals as goal

pub returns-then-are_many-clause-laid : goal.returns-then-are_many-clause-laid
returns-then-are_many-clause-laid g c =
    let seen = g.T.EqualCopy.seen in
    let b = laid_of seen c.args.self.now in
    on_ok_weaker c.push_texts.result (λ e. ap (λ ls. record b { lines = ls })
    (e ∙ ap (λ ls. lines_of seen c.args.self.now.lines ++ ls) c.in_ok-texts.ensures)) c.push_texts.ensures.lines

pub returns-then-are_many-clause-joined : goal.returns-then-are_many-clause-joined
returns-then-are_many-clause-joined g c = λ h. (c.push_texts.ensures.joined h.0, h.1)

pub returns-clause-laid : goal.returns-clause-laid
returns-clause-laid g c =
    let seen = g.T.EqualCopy.seen in
    let b = laid_of seen c.args.self.now in
    on_ok_weaker c.append.result (λ e. ap (λ ls. record b { lines = ls })
    (e ∙ ap (λ ls. lines_of seen c.args.self.now.lines ++ ls) (c.in_ok-settled.ensures.lines
    ∙ ap (λ ls. map (settled c.args.other (seen c.args.tag.now)) ls) c.in_ok-few.ensures.lines)))
    c.append.ensures.lines

pub returns-clause-joined : goal.returns-clause-joined
returns-clause-joined g c = λ h. (c.append.ensures.joined h.0 c.in_ok-settled.ensures.joined, h.1)
