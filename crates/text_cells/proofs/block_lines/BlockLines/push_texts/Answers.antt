use Rattle.std.proofs.Common.{ap, ◌∙◌}
use Rattle.text_cells.proofs.BlockLemmas.{content_texts, texts_added, joined_part, joined_none}
use Rattle.text_cells.proofs.block_lines.BlockLines.push_texts.Goals as goal

pub returns-clause-lines : goal.returns-clause-lines
returns-clause-lines g c =
    let self = c.args.self.now in
    texts_added g.T.EqualCopy.seen self.parts.items c.push_reserved.new.self.items c.reserve.new.self.items c.part.result
    self.lines c.take_vec.new.self c.args.texts c.push_reserved.ensures.items
    c.in_ok-reserve.ensures.items (ap (λ v. v.items) c.part.ensures.before ∙ c.in_ok-before.ensures.lines)
    c.part.ensures.texts c.in_ok-before.ensures.rest

pub returns-clause-count : goal.returns-clause-count
returns-clause-count g c =
    let self = c.args.self.now in
    content_texts self.parts.items c.push_reserved.new.self.items c.reserve.new.self.items c.part.result
    self.lines c.take_vec.new.self c.args.texts c.push_reserved.ensures.items
    c.in_ok-reserve.ensures.items (ap (λ v. v.items) c.part.ensures.before ∙ c.in_ok-before.ensures.lines)
    c.part.ensures.texts c.in_ok-before.ensures.rest

pub returns-clause-joined : goal.returns-clause-joined
returns-clause-joined g c = λ joined.
    let self = c.args.self.now in
    let seen = g.T.EqualCopy.seen in (
      joined_part seen self.parts.items c.push_reserved.new.self.items c.reserve.new.self.items c.part.result
          self.lines c.push_reserved.ensures.items c.in_ok-reserve.ensures.items
          (ap (λ v. v.items) c.part.ensures.before ∙ c.in_ok-before.ensures.lines) joined.0 joined.1,
      joined_none seen c.take_vec.new.self c.in_ok-before.ensures.rest,
    )
