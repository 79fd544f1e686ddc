use Rattle.std.proofs.Common.{◌≡◌, ℕ, ◌+◌, ◌<◌, List, length, take, get_or, sym, ap, subst, ◌∙◌, arith, suc}
use Rattle.std.specs.Prelude.{All}
use Rattle.std.proofs.lemmas.List.Elements.{All-nil, All-push}
use Rattle.std.proofs.lemmas.Str.{IsCharBoundary-after_ascii, IsCharBoundary-start}
use Rattle.std.proofs.Math.Seq.{take-suc}
use Rattle.text_footnotes.specs.Cuts.{IsPrintable}
use Rattle.text_footnotes.proofs.cutting.run_length.Goals as goal

one_more : (bs : List ℕ) (at : ℕ) → at < length bs → All IsPrintable (take at bs) → IsPrintable (get_or bs at 0)
    → All IsPrintable (take (at + 1) bs)
one_more bs at h all here =
    let next : at + 1 ≡ suc at = omega arith in
    subst (All IsPrintable) (sym (ap (λ n. take n bs) next ∙ take-suc bs at 0 h))
    (All-push IsPrintable (take at bs) (get_or bs at 0) all here)

pub loop-at-init : goal.loop-at-init
loop-at-init c = record {
  boundary = IsCharBoundary-start c.args.text.now c.utf8.text;
  within = omega arith;
  printable = All-nil IsPrintable;
}

pub loop-at-preserved : goal.loop-at-preserved
loop-at-preserved c =
    let same = c.as_bytes-bytes.ensures.value in
    let inside : c.loop-at.at < length c.args.text.now =
    subst (λ l. c.loop-at.at < length l) same c.loop-at-test.true in
    let here : IsPrintable (get_or c.args.text.now c.loop-at.at 0) =
    subst (λ l. IsPrintable (get_or l c.loop-at.at 0)) same (c.is_printable.ensures c.if-is_printable.true) in
    record {
      boundary = IsCharBoundary-after_ascii c.args.text.now c.loop-at.at c.utf8.text inside (omega (arith, here.1));
      within = omega arith;
      printable = one_more c.args.text.now c.loop-at.at inside c.loop-at.invariant.printable here;
    }
