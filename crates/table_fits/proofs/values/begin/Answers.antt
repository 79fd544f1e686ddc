use Rattle.std.proofs.Common.{◌∙◌, [], ◌∷◌, ◌++◌, ap, length, length-append}
use Rattle.table_fits.proofs.FlowLemmas.{opened}
use Rattle.table_fits.proofs.TableLemmas.{begun_fits, table_begins}
use Rattle.table_fits.specs.Flowing.{mode_in, standing}
use Rattle.table_fits.specs.Pass.{is_own, own_flow, rows_begun, table_begun}
use Rattle.table_fits.specs.Seen.{table_seen}
use Rattle.table_fits.proofs.values.begin.Goals as goal

pub returns-clause-passes : goal.returns-clause-passes
returns-clause-passes c = λ s w h.
    let options = c.args.options.now in
    let around = c.args.around in
    let info = c.args.head.now.info in
    let stands = c.standing_of-stands.result in
    let own = c.is_own-own.result in
    record {
      flow = opened options c.lead.new.flow c.mode_in-mode.result (mode_in around.mode c.args.head.now) stands
          (standing info) own (is_own around.prefix (standing info)) info s.flow c.mode_in-mode.ensures
          c.standing_of-stands.ensures
          (c.is_own-own.ensures ∙ ap (is_own around.prefix) c.standing_of-stands.ensures)
          (c.lead.ensures (own_flow stands own s.flow) (c.begin_flow-flow.ensures.now s.flow h.flow));
      table = c.begin_row.ensures ∙ ap (rows_begun around.among_rows info) (c.begin_table-table.ensures.now
          ∙ (ap (λ x. table_begun x (table_seen c.args.reading.now.table)) c.standing_of-stands.ensures
          ∙ ap (table_begun (standing info)) h.table));
      fits = begun_fits c.args.reading.now.fits.items c.push.new.self.items c.new.result s.fits
          c.in_ok-push.ensures.items
          c.new.ensures.items h.fits;
      is_table = table_begins around.among_rows (standing info) info (length s.fits) (length
          (s.fits ++ [] ∷ [])) s.table
          (length-append s.fits ([] ∷ [])) h.is_table;
    }
