use Rattle.std.proofs.Common.{◌≡◌, [], ◌∷◌, ◌++◌, ◌∙◌, Err, ap, append-nil, arith, false, length-append, refl, rules}
use Rattle.std.proofs.Common.{sym, true}
use Rattle.std.proofs.lemmas.List.Elements.{All-nil}
use Rattle.std.proofs.lemmas.Result.{err_from_is_err_and}
use Rattle.text_pieces.specs.declared.fault.BlockError.TheVariants.{TooNarrow}
use Rattle.block_renderer.specs.Seen.{marking}
use Rattle.layout_state.specs.LayoutState.{in_turn}
use Rattle.layout_values.specs.Lay.{styled}
use Rattle.layout_values.specs.Seen.{WorksOutside, maybe, waiting_of}
use Rattle.layout_tables.specs.Tables.{row_ended}
use Rattle.layout_values.specs.declared.waiting.Continuation.TheVariants.{RowEnds}
use Rattle.layout_values.proofs.TableOpenLemmas.{all_and_one, pushed_both, row_left_out, row_let_in, row_opens}
use Rattle.layout_values.proofs.TableOpenLemmas.{some_all, some_few}
use Rattle.layout_values.proofs.tables.open_row.Goals as goal

pub returns-then-not-shown-clause-opened : goal.returns-then-not-shown-clause-opened
returns-then-not-shown-clause-opened g c = λ nodes.
    let hidden : c.in_ok-shown.shown ≡ false = search rules in
    record {
      items = [];
      pushed = sym (append-nil _);
      works = All-nil WorksOutside;
      few = omega arith;
      opens = λ tag p w inside. row_left_out
          (marking g.D.TextDecorator.view tag) w c.in_ok-shown.shown
          (styled (marking g.D.TextDecorator.view tag) c.args.head.now.style
          (in_turn inside (row_ended (marking g.D.TextDecorator.view tag)))) _ _ hidden
          (c.in_ok-shown.ensures.begun
          (marking g.D.TextDecorator.view tag) inside);
    }

pub returns-in_err-look-clause-narrow : goal.returns-in_err-look-clause-narrow
returns-in_err-look-clause-narrow g c = λ e. λ tag p inside.
    let shown : c.in_ok-shown.shown ≡ true = search rules in
    let q = err_from_is_err_and c.from_residual-in_err-look.result c.from_residual-in_err-look.ensures.1 in
    let same : c.in_err-look.field-0.0 ≡ TooNarrow = cc (q.1, q.2, e) in
    row_let_in c.in_ok-shown.shown (styled
    (marking g.D.TextDecorator.view tag) c.args.head.now.style
    (in_turn inside (row_ended (marking g.D.TextDecorator.view tag)))) _ _ shown
    (c.in_ok-shown.ensures.begun (marking g.D.TextDecorator.view tag) inside)
    ∙ c.in_err-look.ensures.narrow (ap Err same) tag p _

pub returns-clause-opened : goal.returns-clause-opened
returns-clause-opened g c = λ nodes.
    let shown : c.in_ok-shown.shown ≡ true = search rules in
    record {
      items = maybe c.in_ok-look.look ++ RowEnds ∷ [];
      pushed = pushed_both _ _ _ _ _ c.in_ok-push_some.ensures c.in_ok-push.ensures.items;
      works = all_and_one WorksOutside _ _ (some_all WorksOutside c.in_ok-look.look c.in_ok-look.ensures.ready) tt;
      few = omega (arith, some_few c.in_ok-look.look, length-append (maybe c.in_ok-look.look) (RowEnds ∷ []));
      opens = λ tag p w inside. row_opens (waiting_of g.D.Annotation.EqualCopy.seen g.D.TextDecorator.view.held nodes)
          (marking g.D.TextDecorator.view tag)
          w c.args.head.now.style inside (maybe c.in_ok-look.look) RowEnds _ _ _ refl
          (row_let_in c.in_ok-shown.shown (styled
          (marking g.D.TextDecorator.view tag) c.args.head.now.style
          (in_turn inside (row_ended (marking g.D.TextDecorator.view tag)))) _ _ shown
          (c.in_ok-shown.ensures.begun
          (marking g.D.TextDecorator.view tag) inside))
          (c.in_ok-look.ensures.opened tag p nodes w);
    }
