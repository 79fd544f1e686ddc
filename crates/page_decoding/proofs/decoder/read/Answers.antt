use Rattle.std.proofs.Common.{◌≡◌, ◌++◌, take, sym, ap, ◌∙◌, string_bytes, arith}
use Rattle.std.proofs.lemmas.Str.{IsUtf8-string_bytes}
use Rattle.page_decoding.proofs.DecoderReads.{HasRead-one_fault, HasRead-to_end, HasRead-valid_run, unfinished-past_run}
use Rattle.page_decoding.proofs.DecoderReads.{within-fault}
use Rattle.page_decoding.proofs.decoder.read.Goals as goal

pub returns-in-Ok-clause-text : goal.returns-in-Ok-clause-text
returns-in-Ok-clause-text c =
    (HasRead-to_end _ _ _ _ _ _ _ c.loop-run.invariant.1
    (IsUtf8-string_bytes c.loop-run.text) c.split_at.ensures.back c.in-Ok.ensures.cases.1 c.in-Ok.ensures.cases.0
    c.in_ok-push_str-in-Ok.ensures.bytes).same

pub returns-in_default-clause-text : goal.returns-in_default-clause-text
returns-in_default-clause-text c =
    let run_is =
    c.split_at-in-loop-run.ensures.front ∙ ap (λ k. take k c.split_at.result.1.now) c.valid_up_to.ensures in
    let pushed : string_bytes c.push_str-in-loop-run.new.self ≡ string_bytes c.loop-run.text
    ++ c.split_at-in-loop-run.result.0.now =
    grind (arith, c.in_ok-push_str.ensures.bytes) in
    (HasRead-valid_run _ _ _ _ _ _ _ _ c.loop-run.invariant.1
    (IsUtf8-string_bytes c.loop-run.text) c.split_at.ensures.back c.in-Err.ensures.cases.1 run_is pushed).same

pub returns-in_default-clause-unfinished : goal.returns-in_default-clause-unfinished
returns-in_default-clause-unfinished c =
    let run_is =
    c.split_at-in-loop-run.ensures.front ∙ ap (λ k. take k c.split_at.result.1.now) c.valid_up_to.ensures in
    let ends = sym c.in-Err.ensures.fault ∙ sym c.error_len.ensures ∙ c.in_default.is in
    unfinished-past_run _ _ _ _ _ c.split_at.ensures.back c.in-Err.ensures.cases.1 run_is ends

pub loop-run-preserved : goal.loop-run-preserved
loop-run-preserved c =
    let left = c.split_at.result.1.now in
    let run_is = c.split_at-in-loop-run.ensures.front ∙ ap (λ k. take k left) c.valid_up_to.ensures in
    let pushed : string_bytes c.push_str-in-loop-run.new.self ≡ string_bytes c.loop-run.text
    ++ c.split_at-in-loop-run.result.0.now =
    grind (arith, c.in_ok-push_str.ensures.bytes) in
    let read =
    HasRead-valid_run _ _ _ _ _ _ _ _ c.loop-run.invariant.1
    (IsUtf8-string_bytes c.loop-run.text) c.split_at.ensures.back c.in-Err.ensures.cases.1 run_is pushed in
    let fault = sym c.in-Err.ensures.fault ∙ sym c.error_len.ensures ∙ c.in-Some.is in
    let within = within-fault left _ _ _ (sym c.error_len.ensures ∙ c.in-Some.is) c.in-Err.ensures.error_len in (
      omega (
        arith,
        within,
        c.split_at-in-loop-run.ensures.front_len,
        c.split_at.ensures.back_len,
        c.valid_up_to.ensures,
      ),
      HasRead-one_fault _ _ _ _ _ _ _ _ _ read (IsUtf8-string_bytes c.push_str-in-loop-run.new.self)
          c.split_at.ensures.back c.in-Err.ensures.cases.1 run_is fault
          c.in_ok-push.ensures.bytes,
    )
