use Rattle.std.proofs.Common.{◌≡◌, ◌∙◌, arith, length, map, sym}
use Rattle.std.specs.Vec.Iter.{into_iter_items}
use Rattle.std.proofs.lemmas.Bool.{cond-true}
use Rattle.text_pieces.specs.Sources.{names}
use Rattle.text_footnotes.specs.Printable.{printable}
use Rattle.text_footnotes.proofs.PrintableLemmas.{shown_all, shown_next}
use Rattle.text_footnotes.proofs.printable.shown_targets.Goals as goal

pub targets-preserved : goal.targets-preserved
targets-preserved c = record {
  shown = shown_next c.targets.shown.items c.push.new.self.items (into_iter_items c.targets.target-iterator)
      (into_iter_items c.next.new.self) c.in-Some.target c.in_ok-into_printable.field-0 _ c.in_ok-push.ensures.items
      c.in-Some.ensures.steps.0 c.in_ok-into_printable.ensures c.targets.invariant.shown;
  can_next = tt;
  is_finite = tt;
}

pub returns : goal.returns
returns c =
    let left : length (into_iter_items c.targets.target-iterator) ≡ 0
    = omega (arith, c.targets.target-iterator.rest.ok.0, c.in-None.ensures.steps.0) in
    shown_all (names c.targets.shown.items) _ (into_iter_items c.targets.target-iterator) left c.targets.invariant.shown
    ∙ sym (cond-true c.args.prints (map printable (names c.args.targets.items)) (names c.args.targets.items)
    c.if-not-prints.false)
