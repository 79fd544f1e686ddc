-- What `==` says of tagged strings and of the elements of a line.
use Rattle.std.specs.Prelude.{◌≡◌, chars, string_bytes}
use Rattle.text_lines.specs.declared.tagged_string.TaggedString.{TaggedString}
use Rattle.text_lines.specs.declared.tagged_string.TaggedLineElement.{TaggedLineElement}
use Rattle.text_lines.specs.declared.tagged_string.TaggedLineElement.TheVariants.{Str, FragmentStart}

-- the same characters, with tags that are seen alike
abbrev pub AreSameStrings : {T S : Type 0} → (T → S) → TaggedString T → TaggedString T → Type 0
AreSameStrings seen a b = (chars (string_bytes a.s) ≡ chars (string_bytes b.s)) × (seen a.tag ≡ seen b.tag)

-- such texts, or markers of one name
abbrev pub AreSameElements : {T S : Type 0} → (T → S) → TaggedLineElement T → TaggedLineElement T → Type 0
AreSameElements seen (Str a) (Str b) = AreSameStrings seen a b
AreSameElements seen (Str a) (FragmentStart b) = ⊥
AreSameElements seen (FragmentStart a) (Str b) = ⊥
AreSameElements seen (FragmentStart a) (FragmentStart b) = chars (string_bytes a) ≡ chars (string_bytes b)
