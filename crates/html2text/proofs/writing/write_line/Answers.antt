use Rattle.std.proofs.Common.{[], ◌++◌, ◌∙◌}
use Rattle.std.specs.Slice.Iter.{iter_rest}
use Rattle.html2text.specs.LinesText.{elements_bytes, newline}
use Rattle.html2text.proofs.LinesTextLemmas.{elements_bytes-step, elements_bytes-end}
use Rattle.html2text.proofs.WritingLemmas.{more_written, part_written, none_left, on_err, on_err_map}
use Rattle.html2text.proofs.writing.write_line.Goals as goal

pub elements-preserved : goal.elements-preserved
elements-preserved g c =
    more_written c.as_bytes.result.now (elements_bytes (iter_rest c.next.new.self)
    ++ newline) c.elements.invariant c.in_ok-write_all.ensures.ok
    (elements_bytes-step _ _ _ _ c.in-Some.ensures.steps (c.as_bytes.ensures.value ∙ c.as_str.ensures))
    c.in_ok-write_all.ensures.stays

pub returns-in_err-write_all-clause-part : goal.returns-in_err-write_all-clause-part
returns-in_err-write_all-clause-part g c =
    on_err _ c.from_residual.ensures.0
    (part_written c.as_bytes.result.now (elements_bytes (iter_rest c.next.new.self)
    ++ newline) c.elements.invariant c.in_err-write_all.ensures.part
    (elements_bytes-step _ _ _ _ c.in-Some.ensures.steps (c.as_bytes.ensures.value ∙ c.as_str.ensures)))

pub returns-clause-part : goal.returns-clause-part
returns-clause-part g c =
    on_err_map _
    (λ p. part_written newline [] c.elements.invariant p
    (elements_bytes-end (iter_rest c.elements.element-iterator) (none_left _ c.in-None.ensures.steps.0)))
    c.write_all-2.ensures.part
