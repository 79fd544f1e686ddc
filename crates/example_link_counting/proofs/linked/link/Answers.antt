use Rattle.std.proofs.lemmas.Str.{IsUtf8-string_bytes}
use Rattle.example_link_counting.proofs.Characters.{linked_bytes}
use Rattle.example_link_counting.proofs.linked.link.Goals as goal

pub returns-clause-text : goal.returns-clause-text
returns-clause-text g c = linked_bytes g.D.TextDecorator.view.text g.D.TextDecorator.view.after _ _ _ _ _ _ _ _ _
    (IsUtf8-string_bytes c.in_ok-text.text) (IsUtf8-string_bytes c.push_str.new.self) c.in_ok-push_str.ensures.bytes
    c.in_ok-push_str-2.ensures.bytes c.as_str.ensures.value c.in_ok-text.ensures.text c.in_ok-text.ensures.after
    c.in_ok-end.ensures.text
