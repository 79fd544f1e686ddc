use Rattle.std.proofs.Common.{rules, ◌≡◌, ℕ, List, take, length, length-take-le, string_bytes, ap, ◌∙◌, arith}
use Rattle.page_decoding.proofs.DecoderReads.{chars-held, chars-nothing}
use Rattle.page_decoding.proofs.decoder.Utf8LossyDecoder.finish.Goals as goal
use Rattle.page_decoding.proofs.decoder.Utf8LossyDecoder.finish.Goals.{then-self-gt0+in_ok-push, else-self-gt0}

pub returns-clause-text : goal.returns-clause-text
returns-clause-text c =
    let inside = c.self.inside in
    let held : List ℕ = take inside.held_len inside.held in
    let three : length inside.held ≡ 3 = search rules in
    let size : length held ≡ inside.held_len = length-take-le _ _ (omega (arith, c.self.invariant.0)) in
    rw (← c.self.view_is)
    (elim c.if-self-gt0.branch [
      | then-self-gt0+in_ok-push w ↦ chars-held held _ _ c.new-text.ensures.bytes
          (ap string_bytes w.text-is ∙ w.in_ok-push.ensures.bytes) c.self.invariant.1 (omega arith)
      | else-self-gt0 w ↦ chars-nothing held _ (ap string_bytes w.text-is ∙ c.new-text.ensures.bytes) (omega arith)
    ])
