-- What contracts see of the tags of letters and of markers that ride among them.
use Rattle.std.specs.Prelude.{◌≡◌, ◌≢◌, ℕ, Bool, true, false, List, chars, string_bytes, refl}
use Rattle.std.specs.Str.{IsUtf8, bytes_eq}
use Rattle.std.proofs.Common.{ap, sym, ◌∙◌}
use Rattle.std.proofs.lemmas.Slice.Eq.{bytes_eq-Decides}
use Rattle.std.proofs.lemmas.Str.{encodes-chars, IsUtf8-string_bytes}
use lib.Utf8.{encodes}
use Rattle.text_normal.specs.declared.marked_tag.MarkedTag.{MarkedTag}
use Rattle.text_normal.specs.declared.marked_tag.MarkedTag.TheVariants.{Plain, Note}
use Rattle.text_normal.specs.Riders.{Rider, plain, note}

abbrev pub tag_seen : {T S : Type 0} → (T → S) → MarkedTag T → Rider S
tag_seen seen (Plain tag) = plain (seen tag)
tag_seen seen (Note name) = note (chars (string_bytes name))

abbrev pub tags_equal : {T : Type 0} → (T → T → Bool) → MarkedTag T → MarkedTag T → Bool
tags_equal eq (Plain a) (Plain b) = eq a b
tags_equal eq (Plain a) (Note b) = false
tags_equal eq (Note a) (Plain b) = false
tags_equal eq (Note a) (Note b) = bytes_eq (string_bytes a) (string_bytes b)

same_bytes : (xs ys : List ℕ) → IsUtf8 xs → IsUtf8 ys → chars xs ≡ chars ys → xs ≡ ys
same_bytes xs ys first second same = sym (encodes-chars xs first) ∙ ap encodes same ∙ encodes-chars ys second

different : (a b : Bool) → a ≡ b → a ≡ true → b ≡ false → ⊥
different true b e h k = cc
different false b e h k = cc

pub tags_same : {T S : Type 0} (eq : T → T → Bool) (seen : T → S) → ((x y : T) → eq x y ≡ true → seen x ≡ seen y)
    → (a b : MarkedTag T) → tags_equal eq a b ≡ true → tag_seen seen a ≡ tag_seen seen b
tags_same eq seen same (Plain a) (Plain b) h = ap plain (same a b h)
tags_same eq seen same (Plain a) (Note b) h = cc
tags_same eq seen same (Note a) (Plain b) h = cc
tags_same eq seen same (Note a) (Note b) h = ap (λ bytes. note (chars bytes))
    ((bytes_eq-Decides (string_bytes a) (string_bytes b)).0 h)

pub tags_apart : {T S : Type 0} (eq : T → T → Bool) (seen : T → S) → ((x y : T) → eq x y ≡ false → seen x ≢ seen y)
    → (a b : MarkedTag T) → tags_equal eq a b ≡ false → tag_seen seen a ≢ tag_seen seen b
tags_apart eq seen apart (Plain a) (Plain b) h e = apart a b h cc
tags_apart eq seen apart (Plain a) (Note b) h e = cc
tags_apart eq seen apart (Note a) (Plain b) h e = cc
tags_apart eq seen apart (Note a) (Note b) h e =
    let names : chars (string_bytes a) ≡ chars (string_bytes b) = cc in
    different (bytes_eq (string_bytes a) (string_bytes b)) (bytes_eq (string_bytes a) (string_bytes b)) refl
    ((bytes_eq-Decides (string_bytes a) (string_bytes b)).1
    (same_bytes (string_bytes a) (string_bytes b) (IsUtf8-string_bytes a) (IsUtf8-string_bytes b) names)) h
