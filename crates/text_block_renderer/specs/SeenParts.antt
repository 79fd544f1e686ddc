-- What contracts see of a renderer of a page.
use Rattle.std.specs.Prelude.{◌≡◌, Bool, Option, None, Some, map}
use Rattle.text_decorators.specs.Marks.{DecoratorView}
use Rattle.text_footnotes.specs.Links.{all_targets}
use Rattle.block_trait.specs.Renderers.{Marking}
use Rattle.text_block_renderer.specs.Parts.{Parts}
use Rattle.block_renderer.specs.Seen.{sub_of, marking, IsTagging}
use Rattle.block_renderer.specs.declared.sub_renderer.SubRenderer.{SubRenderer}
use Rattle.text_block_renderer.specs.declared.text_renderer.TextRenderer.{TextRenderer}

abbrev pub parts_of : {D T H A : Type 0} → (T → A) → (D → H) → TextRenderer D T → Parts H A
parts_of seen held t = record {
  below = map (sub_of seen held) t.below.items;
  current = sub_of seen held t.current;
  targets = all_targets t.links;
}

abbrev pub page_has_failed : {D T : Type 0} → TextRenderer D T → Bool
page_has_failed t = t.failed

abbrev pub current_has_failed : {D T : Type 0} → TextRenderer D T → Bool
current_has_failed t = t.current.failed

-- the same with another current renderer
abbrev pub with_current_renderer : {D T : Type 0} → TextRenderer D T → SubRenderer D T → TextRenderer D T
with_current_renderer t s = record t { current = s }

-- However the decorator's annotations are seen, the renderer comes from the old one by f, or there is none.
abbrev pub PartsCome : {D T H A : Type 0} → (T → A) → DecoratorView D H T
    → (Marking H A → Parts H A → Option (Parts H A)) → TextRenderer D T → TextRenderer D T → Type 0
PartsCome seen view f old new = (tag : _) → IsTagging seen view tag
    → f (marking view tag) (parts_of seen view.held old) ≡ Some (parts_of seen view.held new)

abbrev pub PartsFail : {D T H A : Type 0} → (T → A) → DecoratorView D H T
    → (Marking H A → Parts H A → Option (Parts H A)) → TextRenderer D T → Type 0
PartsFail seen view f old = (tag : _) → IsTagging seen view tag
    → f (marking view tag) (parts_of seen view.held old) ≡ None
