use Rattle.std.proofs.Common.{ap, ◌∙◌, arith}
use Rattle.article_values.specs.Sizes.{block_size}
use Rattle.article_values.proofs.LettingGo.{last_taken, size_of_bullets, size_of_heading, size_of_numbers}
use Rattle.article_values.proofs.LettingGo.{size_of_paragraph}
use Rattle.article_values.proofs.values.Block.next.Goals as goal

pub returns-in-Bullets : goal.returns-in-Bullets
returns-in-Bullets c = rw (c.in-Bullets.is, size_of_bullets c.in-Bullets.items) c.next_of_items.ensures

pub returns-in-Numbers : goal.returns-in-Numbers
returns-in-Numbers c =
    rw (c.in-Numbers.is, size_of_numbers c.in-Numbers.field-0 c.in-Numbers.items) c.next_of_items-in-Numbers.ensures

pub returns-in-Paragraph : goal.returns-in-Paragraph
returns-in-Paragraph c =
    let one = ap block_size c.in-Paragraph.is ∙ size_of_paragraph c.in-Paragraph.inlines in
    last_taken _ _ block_size (block_size c.args.self) c.args.waiting.now.items c.pop.new.self.items
    c.args.waiting.now.items _ c.pop.result (omega arith) c.pop.ensures.items c.pop.ensures.cases

pub returns-in-Heading : goal.returns-in-Heading
returns-in-Heading c =
    let one = ap block_size c.in-Heading.is ∙ size_of_heading c.in-Heading.field-0 c.in-Heading.inlines in
    last_taken _ _ block_size (block_size c.args.self) c.args.waiting.now.items c.pop-in-Heading.new.self.items
    c.args.waiting.now.items _ c.pop-in-Heading.result (omega arith) c.pop-in-Heading.ensures.items
    c.pop-in-Heading.ensures.cases
