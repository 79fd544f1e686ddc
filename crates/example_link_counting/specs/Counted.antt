-- What the counter of links answers.
use Rattle.std.specs.Prelude.{◌≡◌, ℕ, ◌+◌, List, ◌++◌, codes, refl}
use Rattle.std.specs.Fmt.{decimal}
use Rattle.std.proofs.Common.{sym, ◌∙◌}
use Rattle.text_decorators.specs.Marks.{IsPrefix, IsSteady, Mark, header, link_end, link_start, ordered_item, quote}
use Rattle.text_decorators.specs.Marks.{unordered_item}
use Rattle.text_decorators.specs.Texts.{plain_text}
use Rattle.text_decorators.specs.Steady.{plain_is_steady}
use Rattle.example_link_counting.specs.declared.link_note.LinkNote.{LinkNote}
use Rattle.example_link_counting.specs.declared.link_note.LinkNote.TheVariants.{Outside, Link}

-- plain text, but that a link's number stands after it
abbrev pub counter_text : ℕ → Mark → List ℕ
counter_text links link_end = codes "][" ++ decimal links ++ codes "]"
counter_text links m = plain_text m

abbrev pub note_at : ℕ → Mark → LinkNote
note_at links (link_start target) = Link (links + 1)
note_at links _ = Outside

abbrev pub links_after : ℕ → Mark → ℕ
links_after links (link_start target) = links + 1
links_after links _ = links

pub notes_are_one : (links : ℕ) (m : Mark) (a b : LinkNote) → a ≡ note_at links m → b ≡ note_at links m → a ≡ b
notes_are_one links m a b first second = first ∙ sym second

alone : (h k : ℕ) (m : Mark) → IsPrefix m → counter_text h m ≡ counter_text k m
alone h k (header level) prefix = refl
alone h k quote prefix = refl
alone h k unordered_item prefix = refl
alone h k (ordered_item number) prefix = refl
alone h k _ prefix = absurd prefix

pub counter_is_steady : IsSteady {H = ℕ} counter_text
counter_is_steady = record {
  alone = alone;
  ends_are_widest = λ h i j k low high first second. plain_is_steady.ends_are_widest tt i j k low high first second;
}
