use Rattle.std.proofs.Common.{◌≡◌, [], ◌++◌, Err, ap, arith, length-append}
use Rattle.std.proofs.lemmas.Result.{err_from_is_err_and}
use Rattle.text_pieces.specs.declared.fault.BlockError.TheVariants.{TooNarrow}
use Rattle.layout_state.proofs.CallLemmas.{if_ok_by}
use Rattle.layout_values.specs.Seen.{WorksOutside, maybe, waiting_of}
use Rattle.layout_values.proofs.ValueLemmas.{all_on, any_sizing, maybe_all, maybe_few, no_look, no_shown, three_on}
use Rattle.layout_values.proofs.ValueLemmas.{value_opens}
use Rattle.layout_values.proofs.values.open_outside.Goals as goal

pub returns-clause-opened : goal.returns-clause-opened
returns-clause-opened g c = λ nodes here. if_ok_by _ _ c.open_shown.result (λ entered o. record {
  items = maybe c.in_ok-item.item ++ (maybe c.in_ok-look.look ++ o.items);
  pushed = three_on _ _ _ _ _ _ _ c.in_ok-push_some.ensures c.in_ok-push_some-2.ensures o.pushed;
  works = all_on WorksOutside _ _ (maybe_all WorksOutside c.in_ok-item.item c.in_ok-item.ensures.ready)
      (all_on WorksOutside _ _ (maybe_all WorksOutside c.in_ok-look.look c.in_ok-look.ensures.ready) o.works);
  few = omega (
    arith,
    maybe_few c.in_ok-item.item,
    maybe_few c.in_ok-look.look,
    o.few,
    length-append (maybe c.in_ok-item.item) (maybe c.in_ok-look.look ++ o.items),
    length-append (maybe c.in_ok-look.look) o.items,
  );
  opens = λ tag p w inside. value_opens (waiting_of g.D.Annotation.EqualCopy.seen g.D.TextDecorator.view.held nodes) _ w
      _
      c.args.head.now.style _ _ _ _ _ _ _ _ (c.in_ok-item.ensures.opened tag p nodes w)
      (c.in_ok-look.ensures.opened tag p nodes w) (o.opens tag p w inside);
}) (c.open_shown.ensures.opened nodes here)

pub returns-clause-narrow : goal.returns-clause-narrow
returns-clause-narrow g c = λ e. λ tag p inside. no_shown _ any_sizing _ c.args.head.now.style _ _ _ _ _ _
    (c.in_ok-item.ensures.opened tag p [] any_sizing) (c.in_ok-look.ensures.opened tag p [] any_sizing)
    (c.open_shown.ensures.narrow e tag p inside)

pub returns-in_err-item-clause-narrow : goal.returns-in_err-item-clause-narrow
returns-in_err-item-clause-narrow g c = λ e. λ tag p inside.
    let q = err_from_is_err_and c.from_residual.result c.from_residual.ensures.1 in
    let same : c.in_err-item.field-0.0 ≡ TooNarrow = cc (q.1, q.2, e) in
    c.in_err-item.ensures.narrow (ap Err same) tag p _

pub returns-in_err-look-clause-narrow : goal.returns-in_err-look-clause-narrow
returns-in_err-look-clause-narrow g c = λ e. λ tag p inside.
    let q = err_from_is_err_and c.from_residual-in_err-look.result c.from_residual-in_err-look.ensures.1 in
    let same : c.in_err-look.field-0.0 ≡ TooNarrow = cc (q.1, q.2, e) in
    no_look _ any_sizing _ c.args.head.now.style _ _ _ _ (c.in_ok-item.ensures.opened tag p [] any_sizing)
    (c.in_err-look.ensures.narrow (ap Err same) tag p _)
