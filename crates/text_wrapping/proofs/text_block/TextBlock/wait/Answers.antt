use Rattle.std.proofs.Common.{◌≡◌, refl, sym, ap, ◌∙◌, length, arith}
use Rattle.std.specs.Vec.Iter.{into_iter_items}
use Rattle.text_pieces.specs.Sources.{names, fragments, sources_of}
use Rattle.text_preserved.proofs.TrimLemmas.{nil_length}
use Rattle.text_wrapping.specs.Blocks.{text_of, after_sources}
use Rattle.text_wrapping.proofs.BlockLemmas.{wait_more, wait_all, nothing_held}
use Rattle.text_wrapping.proofs.text_block.TextBlock.wait.Goals as goal

pub loop-name-init : goal.loop-name-init
loop-name-init g c = record {
  waits = nothing_held g.T.EqualCopy.seen (text_of g.T.EqualCopy.seen c.args.self.now) _ c.clear.new.self.items
      (names c.args.waiting.items) (names (into_iter_items c.into_iter-name-iterator.result)) refl c.clear.ensures.items
      (ap names c.into_iter-name-iterator.ensures.into_iter_gives.0);
  joined = λ h. h;
}

pub loop-name-preserved : goal.loop-name-preserved
loop-name-preserved g c =
    let seen = g.T.EqualCopy.seen in
    record {
      waits = wait_more seen (text_of seen c.loop-name.self) _ _ c.loop-name.self.pieces.items c.in-Some.name
          (names (into_iter_items c.next.new.self)) refl
          (ap (λ pieces. record (text_of seen c.loop-name.self) { source = sources_of seen pieces })
          c.in_ok-push.ensures.items)
          (ap (λ left. after_sources (fragments (names left)) (text_of seen c.loop-name.self))
          (sym c.in-Some.ensures.steps.0)
          ∙ c.loop-name.invariant.waits);
      joined = λ h. c.loop-name.invariant.joined h;
    }

pub returns-clause-waits : goal.returns-clause-waits
returns-clause-waits g c =
    let left : length (into_iter_items c.loop-name.name-iterator) ≡ 0 =
    omega (arith, c.loop-name.name-iterator.rest.ok.0, c.in-None.ensures.steps.0) in
    wait_all (text_of g.T.EqualCopy.seen c.loop-name.self) _ (names (into_iter_items c.loop-name.name-iterator))
    (ap names (nil_length (into_iter_items c.loop-name.name-iterator) left)) c.loop-name.invariant.waits
