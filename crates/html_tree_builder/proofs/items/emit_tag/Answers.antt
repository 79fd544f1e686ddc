use Rattle.html_tree_builder.proofs.items.emit_tag.Goals as goal

pub returns-clause-seen : goal.returns-clause-seen
returns-clause-seen g c = rw c.share.ensures at c.answer_tag.ensures.seen

pub returns-clause-reply : goal.returns-clause-reply
returns-clause-reply g c = rw c.share.ensures at c.answer_tag.ensures.reply
