use Rattle.std.proofs.Common.{◌≡◌, ◌+◌, ◌-◌, ◌≤◌, ◌++◌, ◌∙◌, ap, arith, drop, length, length-take-le, rules}
use Rattle.std.proofs.Common.{string_bytes, subst, sym, take, zero-add}
use Rattle.page_decoding.proofs.DecoderReads.{HasRead, joined-is, HasRead-short, HasRead-long}
use Rattle.page_decoding.proofs.decoder.read_piece.Goals as goal
use Rattle.page_decoding.proofs.decoder.read_piece.Goals.{then-taken-held_len, else-taken-held_len+in_ok-read}

pub returns-clause-text : goal.returns-clause-text
returns-clause-text c =
    let old = string_bytes c.args.text.now in
    let held = c.args.held.now in
    let piece = c.args.piece.now in
    let first = c.split_at.result.0.now in
    let seam = c.split_at-2.result.0.now in
    let taken = c.in_ok-taken.taken in
    let left = c.if-taken-held_len.left.now in
    let three : length held ≡ 3 = search rules in
    let seam_is : seam ≡ take c.args.held_len held ++ first = c.split_at-2.ensures.front
    ∙ joined-is held c.put.new.buffer c.put-2.new.buffer first c.args.held_len
    (omega arith) c.put.ensures c.put-2.ensures in
    let seam_read : HasRead (string_bytes c.reserve.new.self) seam (string_bytes c.read.new.text) (drop taken seam) =
    record { same = c.in_ok-taken.ensures.text } in
    let read =
    subst (λ t. HasRead t seam (string_bytes c.read.new.text) (drop taken seam)) c.reserve.ensures.bytes
    seam_read in
    let kept : take (length left) c.put-3.new.buffer ≡ left =
    ap (λ k. take k c.put-3.new.buffer) (sym (zero-add (length left))) ∙ c.put-3.ensures in
    let whole : HasRead old (take c.args.held_len held ++ piece) (string_bytes c.if-taken-held_len.text)
    (take (length left) c.put-3.new.buffer) =
    elim c.if-taken-held_len.branch [
      | then-taken-held_len w ↦
          let left_is = ap (λ b. b.now) w.left-is ∙ w.split_at-then-taken-held_len.ensures.back in
          let all : length piece ≤ c.min.result =
          omega (
            arith,
            c.in_ok-taken.ensures.at_most,
            c.split_at.ensures.front_len,
            c.split_at-2.ensures.front_len,
          ) in
          rw w.text-is
          (HasRead-short old (string_bytes c.read.new.text)
          (take c.args.held_len held) piece first seam left _ taken c.min.result read seam_is
          c.split_at.ensures.front all left_is kept)
      | else-taken-held_len+in_ok-read w ↦
          let k = taken - c.args.held_len in
          let left_is = ap (λ b. b.now) w.left-is ∙ w.split_at-else-taken-held_len-2.ensures.back in
          let held_size : length (take c.args.held_len held) ≡ c.args.held_len = length-take-le _ _ (omega arith) in
          let within : c.min.result ≤ length piece = omega arith in
          let sum : taken ≡ length (take c.args.held_len held) + k = omega (arith, w.if-taken-held_len.false) in
          let inside : k ≤ length first = omega (arith, c.in_ok-taken.ensures.within, c.split_at-2.ensures.front_len) in
          let piece_rest = w.split_at-else-taken-held_len.result.1.now in
          let new = string_bytes c.read.new.text in
          let newer = string_bytes w.read-else-taken-held_len.new.text in
          let later : HasRead new (drop k piece) newer left =
          subst (λ t. HasRead new t newer left) w.split_at-else-taken-held_len.ensures.back
          (subst (HasRead new piece_rest newer) (sym left_is) (record { same = w.in_ok-read.ensures.text })) in
          rw w.text-is
          (HasRead-long old new newer (take c.args.held_len held) piece first seam left _ taken c.min.result k
          read seam_is c.split_at.ensures.front within sum inside later kept)
    ] in
    whole.same
