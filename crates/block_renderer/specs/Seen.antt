-- What contracts see of a renderer over a decorator.
use Rattle.std.specs.Prelude.{◌≡◌, Bool, List, Option, None, Some, map, Vec}
use Rattle.std.specs.Global.{Global}
use Rattle.text_decorators.specs.Marks.{DecoratorView, Mark}
use Rattle.block_layout.specs.Seen.{laid_of, HasJoinedTexts}
use Rattle.block_trait.specs.Renderers.{Marking, Sub}
use Rattle.block_renderer.specs.declared.sub_renderer.SubRenderer.{SubRenderer}

-- annotations that stand together are a tag
abbrev pub tags_seen : {T A : Type 0} → (T → A) → Vec T Global → List A
tags_seen seen tags = map seen tags.items

abbrev pub sub_of : {D T H A : Type 0} → (T → A) → (D → H) → SubRenderer D T → Sub H A
sub_of seen held s = record {
  width = s.width;
  options = s.options;
  held = held s.decorator;
  laid = laid_of (tags_seen seen) s.laid;
  modes = s.modes.items;
  preformats = s.preformats;
  annotations = map seen s.annotations.items;
  keeps = s.keeps_annotations;
  strikeouts = s.strikeouts;
}

-- what contracts see of each annotation that a decorator may give
abbrev pub IsTagging : {D T H A : Type 0} → (T → A) → DecoratorView D H T → (H → Mark → A) → Type 0
IsTagging seen view tag = (h : _) (m : Mark) (a : _) → view.gives h m a → seen a ≡ tag h m

abbrev pub marking : {D T H A : Type 0} → DecoratorView D H T → (H → Mark → A) → Marking H A
marking view tag = record {
  mark_text = view.text;
  mark_tag = tag;
  has_tag = view.marks;
  after = view.after;
  ends_tag = view.pops;
  sub = view.sub;
}

-- However the decorator's annotations are seen, the renderer comes from the old one by f.
abbrev pub Comes : {D T H A : Type 0} → (T → A) → DecoratorView D H T
    → (Marking H A → Sub H A → Option (Sub H A)) → SubRenderer D T → SubRenderer D T → Type 0
Comes seen view f old new = (tag : _) → IsTagging seen view tag
    → f (marking view tag) (sub_of seen view.held old) ≡ Some (sub_of seen view.held new)

-- However they are seen, it gives none.
abbrev pub Fails : {D T H A : Type 0} → (T → A) → DecoratorView D H T
    → (Marking H A → Sub H A → Option (Sub H A)) → SubRenderer D T → Type 0
Fails seen view f old = (tag : _) → IsTagging seen view tag
    → f (marking view tag) (sub_of seen view.held old) ≡ None

abbrev pub has_failed : {D T : Type 0} → SubRenderer D T → Bool
has_failed s = s.failed

-- no text of the block is empty, and none stands next to one with an equal tag
abbrev pub IsJoinedSub : {D T A : Type 0} → (T → A) → SubRenderer D T → Type 0
IsJoinedSub seen s = HasJoinedTexts (tags_seen seen) s.laid
