use Rattle.std.proofs.Common.{sym, ◌∙◌, inl, inr}
use Rattle.html2text.specs.Responses.{Emits, complaint}
use Rattle.html2text.proofs.ResponseLemmas.{IsRead, asked_refusal, done_status, refused_status, refused_with, statuses}
use Rattle.html2text.proofs.ResponseLemmas.{table_refusal, table_status, unopened_refusal, words_status, writes_asked}
use Rattle.html2text.proofs.ResponseLemmas.{writes_asked_part}
use Rattle.html2text.proofs.response.respond.Goals as goal
use Rattle.command_line.specs.FaultTexts.{fault_text}
use Rattle.page_config.specs.declared.error.Error.TheVariants.{IoError}

pub returns-clause-statuses : goal.returns-clause-statuses
returns-clause-statuses g c = statuses c.carry_out-outcome.result c.exit_status.result c.exit_status.ensures

pub returns-clause-done : goal.returns-clause-done
returns-clause-done g c = λ e.
    writes_asked c.args.words c.request_of-request.result (g.F.FileOpener.bytes_of c.args.files.now) _ _ _
    (record {
      asked = c.request_of-request.ensures.asked;
      explained = c.request_of-request.ensures.explained;
      unread = c.request_of-request.ensures.unread;
    })
    (c.carry_out-outcome.ensures.done (done_status c.carry_out-outcome.result (sym c.exit_status.ensures ∙ e)))

pub returns-clause-refused : goal.returns-clause-refused
returns-clause-refused g c = λ e.
    let request = c.request_of-request.result in
    let files = g.F.FileOpener.bytes_of c.args.files.now in
    let read : IsRead c.args.words request = record {
      asked = c.request_of-request.ensures.asked;
      explained = c.request_of-request.ensures.explained;
      unread = c.request_of-request.ensures.unread;
    } in
    elim (refused_status c.carry_out-outcome.result (sym c.exit_status.ensures ∙ e)) [
      | inl page ↦ (
        page.0,
        c.carry_out-outcome.ensures.reported page.0 page.1,
        asked_refusal c.args.words request c.carry_out-outcome.result page.0 files _ _ _ _ _ read
            c.carry_out-outcome.ensures.outcomes page.1 (c.carry_out-outcome.ensures.reason page.0 page.1)
            (c.carry_out-outcome.ensures.unhelped page.0 page.1),
      )
      | inr unopened ↦ (
        IoError,
        (c.carry_out-outcome.ensures.unopened unopened).0,
        unopened_refusal c.args.words request c.carry_out-outcome.result files _ _ _ _ _ read
            c.carry_out-outcome.ensures.outcomes unopened (c.carry_out-outcome.ensures.unopened unopened).2,
      )
    ]

pub returns-clause-unwritten : goal.returns-clause-unwritten
returns-clause-unwritten g c = λ e.
    let request = c.request_of-request.result in
    let files = g.F.FileOpener.bytes_of c.args.files.now in
    let read : IsRead c.args.words request = record {
      asked = c.request_of-request.ensures.asked;
      explained = c.request_of-request.ensures.explained;
      unread = c.request_of-request.ensures.unread;
    } in
    elim (refused_status c.carry_out-outcome.result (sym c.exit_status.ensures ∙ e)) [
      | inl page ↦ elim (c.carry_out-outcome.ensures.unwritten page.0 page.1) [
        | inl same ↦ inl same
        | inr part ↦ inr (part.0, writes_asked_part c.args.words request files _ _ _ read part.1)
      ]
      | inr unopened ↦ inl (c.carry_out-outcome.ensures.unopened unopened).1
    ]

pub returns-clause-words : goal.returns-clause-words
returns-clause-words g c = λ e.
    refused_with c.args.words c.request_of-request.result c.carry_out-outcome.result
    (λ fault. Emits (g.E.ByteWriter.has_failed c.carry_out-outcome.new.errors)
    (g.E.ByteWriter.contents c.args.errors.now) (g.E.ByteWriter.contents c.carry_out-outcome.new.errors)
    (complaint (fault_text fault)))
    (record {
      asked = c.request_of-request.ensures.asked;
      explained = c.request_of-request.ensures.explained;
      unread = c.request_of-request.ensures.unread;
    })
    c.carry_out-outcome.ensures.outcomes
    (let is = words_status c.carry_out-outcome.result (sym c.exit_status.ensures ∙ e) in is)
    (c.carry_out-outcome.ensures.words (words_status c.carry_out-outcome.result (sym c.exit_status.ensures ∙ e)))

pub returns-clause-table : goal.returns-clause-table
returns-clause-table g c = λ e.
    let at = table_status c.carry_out-outcome.result (sym c.exit_status.ensures ∙ e) in
    let refusal = c.carry_out-outcome.ensures.table at in (
      refusal.0,
      refusal.1,
      table_refusal c.args.words c.request_of-request.result c.carry_out-outcome.result
          (g.F.FileOpener.bytes_of c.args.files.now) refusal.0
          (record {
            asked = c.request_of-request.ensures.asked;
            explained = c.request_of-request.ensures.explained;
            unread = c.request_of-request.ensures.unread;
          })
          c.carry_out-outcome.ensures.outcomes at refusal.2,
    )
