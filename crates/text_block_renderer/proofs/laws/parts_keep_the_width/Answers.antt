use Rattle.std.specs.Prelude.{⊤}
use Rattle.std.proofs.lemmas.List.Elements.{All-nil}
use Rattle.std.proofs.lemmas.Option.{MatchOption-at_some}
use Rattle.text_decorators.specs.Marks.{link_start, link_end}
use Rattle.block_layout_laws.proofs.OptionLemmas.{known}
use Rattle.block_trait.specs.Renderers.{add_inline, begin_link, finish_link}
use Rattle.block_trait.specs.Calls.{adds_text, starts_link, ends_link}
use Rattle.block_laws.specs.RendererLaws.{IsKeptWithin, StaysWithin}
use Rattle.text_block_renderer.specs.PartLaws.{PartsStayWithin}
use Rattle.text_block_renderer.proofs.LinkLaws.{LinkWidths, begins, ends, link_stays, end_stays}
use Rattle.text_block_renderer.proofs.laws.parts_keep_the_width.Goals as goal

pub returns : goal.returns
returns g c =
    let laws : LinkWidths g.D.TextDecorator.Held g.D.Annotation.EqualCopy.Seen = record {
      link_begun = λ m target s kept. known (StaysWithin s) (begin_link m (link_start target) s)
          (λ new is. c.renderers_keep_the_width.ensures.step m (starts_link (link_start target)) s new kept tt is);
      link_ended = λ m s kept. known (StaysWithin s) (finish_link m link_end s)
          (λ new is. c.renderers_keep_the_width.ensures.step m ends_link s new kept tt is);
      text_added = λ m cs s kept. known (StaysWithin s) (add_inline m cs s)
          (λ new is. c.renderers_keep_the_width.ensures.step m (adds_text cs) s new kept tt is);
    } in
    record {
      whole = λ s kept. record { current = kept; below = All-nil IsKeptWithin };
      push = λ s p kept all. begins s p kept all;
      pop = λ s p all. ends s p all;
      exchange = λ s p kept all. record { current = kept; below = all.below };
      start_link = λ m target p new all is.
          MatchOption-at_some ⊤ (PartsStayWithin p) new is (link_stays laws m target p all);
      end_link = λ m p new all is. MatchOption-at_some ⊤ (PartsStayWithin p) new is (end_stays laws m p all);
    }
