-- Prefixes of the three decorators, and their lines after a page, hold no control character.
use Rattle.std.proofs.Common.{◌≡◌, ◌+◌, ◌/◌, ◌%◌, ◌<◌, ◌≤◌, [], ◌∷◌, ◌++◌, Bool, List, arith, codes, false, negsuc}
use Rattle.std.proofs.Common.{pos, replicate, suc, true, zero, ℕ, ℤ}
use Rattle.std.specs.Prelude.{◌==◌, All, if◌then◌else◌, map}
use Rattle.std.specs.Fmt.{decimal, digit_glyph, digits, digits_onto, signed_decimal}
use Rattle.std.proofs.lemmas.Bool.Decides.{nat_tests}
use Rattle.std.proofs.lemmas.List.Elements.{All-append, All-cons, All-head, All-nil, All-replicate, All-tail}
use Rattle.text_lines.specs.Tagged.{tagged}
use Rattle.text_decorators.specs.Marks.{IsPrefix, Mark, header, ordered_item, quote, unordered_item}
use Rattle.text_decorators.specs.Texts.{footnote_lines, footnote_text, footnote_texts, plain_text, rich_text}
use Rattle.text_decorators.specs.Texts.{trivial_text}
use Rattle.printed_block_laws.specs.Printed.{ArePrinted, IsPrinted}

-- ---- printable ASCII

pub ascii_printed : (c : ℕ) → 0x20 ≤ c → c ≤ 0x7E → IsPrinted c
ascii_printed c low high = grind (arith, nat_tests)

first_printed : (c : ℕ) (cs : List ℕ) → 0x20 ≤ c → c ≤ 0x7E → All IsPrinted cs → All IsPrinted (c ∷ cs)
first_printed c cs low high rest = All-cons IsPrinted c cs (ascii_printed c low high) rest

none_printed : All IsPrinted []
none_printed = All-nil IsPrinted

space_printed : All IsPrinted (codes " ")
space_printed = first_printed 0x20 [] (omega arith) (omega arith) none_printed

-- ---- digits

glyph_of : (d : ℕ) → d < 10 → digit_glyph false d ≡ 48 + d
glyph_of d small = grind (arith, nat_tests)

digit_printed : (n : ℕ) (rest : List ℕ) → All IsPrinted rest → All IsPrinted (digit_glyph false (n % 10) ∷ rest)
digit_printed n rest printed =
    let small : n % 10 < 10 = omega arith in
    let same = glyph_of (n % 10) small in
    first_printed (digit_glyph false (n % 10)) rest (omega (arith, same, small)) (omega (arith, same, small)) printed

either_printed : (last : Bool) (xs ys : List ℕ) → All IsPrinted xs → All IsPrinted ys
    → All IsPrinted (if last then xs else ys)
either_printed true xs ys first second = first
either_printed false xs ys first second = second

digits_printed : (k n : ℕ) (rest : List ℕ) → All IsPrinted rest → All IsPrinted (digits_onto k 10 false n rest)
digits_printed zero n rest printed = printed
digits_printed (suc k) n rest printed =
    let more = digit_printed n rest printed in
    either_printed (n / 10 == 0) (digit_glyph false (n % 10) ∷ rest)
    (digits_onto k 10 false (n / 10) (digit_glyph false (n % 10) ∷ rest)) more
    (digits_printed k (n / 10) (digit_glyph false (n % 10) ∷ rest) more)

decimal_printed : (n : ℕ) → All IsPrinted (decimal n)
unfolding digits
decimal_printed n = digits_printed 64 n [] none_printed

number_printed : (z : ℤ) → All IsPrinted (signed_decimal z)
number_printed (pos n) = decimal_printed n
number_printed (negsuc n) =
    first_printed 45 (decimal (suc n)) (omega arith) (omega arith) (decimal_printed (suc n))

-- ---- prefixes

heading_printed : (level : ℕ) → All IsPrinted (replicate level 0x23 ++ codes " ")
heading_printed level = All-append IsPrinted (replicate level 0x23) (codes " ")
    (All-replicate IsPrinted level 0x23 (ascii_printed 0x23 (omega arith) (omega arith))) space_printed

quote_printed : All IsPrinted (codes "> ")
quote_printed = first_printed 0x3E (codes " ") (omega arith) (omega arith) space_printed

bullet_printed : All IsPrinted (codes "* ")
bullet_printed = first_printed 0x2A (codes " ") (omega arith) (omega arith) space_printed

item_printed : (z : ℤ) → All IsPrinted (signed_decimal z ++ codes ". ")
item_printed z = All-append IsPrinted (signed_decimal z) (codes ". ") (number_printed z)
    (first_printed 0x2E (codes " ") (omega arith) (omega arith) space_printed)

pub plain_printed : (kind : Mark) → IsPrefix kind → All IsPrinted (plain_text kind)
plain_printed (header level) is = heading_printed level
plain_printed quote is = quote_printed
plain_printed unordered_item is = bullet_printed
plain_printed (ordered_item z) is = item_printed z
plain_printed _ is = absurd is

pub rich_printed : (kind : Mark) → IsPrefix kind → All IsPrinted (rich_text kind)
rich_printed (header level) is = heading_printed level
rich_printed quote is = quote_printed
rich_printed unordered_item is = bullet_printed
rich_printed (ordered_item z) is = item_printed z
rich_printed _ is = absurd is

pub trivial_printed : (kind : Mark) → IsPrefix kind → All IsPrinted (trivial_text kind)
trivial_printed (header level) is = none_printed
trivial_printed quote is = none_printed
trivial_printed unordered_item is = none_printed
trivial_printed (ordered_item z) is = none_printed
trivial_printed _ is = absurd is

-- ---- lines after a page

tagged_printed : {S : Type 0} (cs : List ℕ) (tag : S) → All IsPrinted cs → ArePrinted (tagged cs tag)
tagged_printed [] tag printed = none_printed
tagged_printed (c ∷ cs) tag printed = All-cons IsPrinted c _ (All-head IsPrinted c cs printed)
    (tagged_printed cs tag (All-tail IsPrinted c cs printed))

note_printed : (n : ℕ) (target : List ℕ) → All IsPrinted target → All IsPrinted (footnote_text n target)
note_printed n target printed =
    All-append IsPrinted (codes "[" ++ decimal n ++ codes "]: ") target
    (All-append IsPrinted (codes "[" ++ decimal n) (codes "]: ")
    (first_printed 0x5B (decimal n) (omega arith) (omega arith) (decimal_printed n))
    (first_printed 0x5D (codes ": ") (omega arith) (omega arith)
    (first_printed 0x3A (codes " ") (omega arith) (omega arith) space_printed))) printed

notes_from : {T : Type 0} (tag : T) (n : ℕ) (targets : List (List ℕ)) → All (All IsPrinted) targets
    → All ArePrinted (map (λ text. tagged text tag) (footnote_texts n targets))
notes_from tag n [] all = All-nil ArePrinted
notes_from tag n (target ∷ targets) all =
    All-cons ArePrinted (tagged (footnote_text n target) tag) _
    (tagged_printed (footnote_text n target) tag
    (note_printed n target (All-head (All IsPrinted) target targets all)))
    (notes_from tag (suc n) targets (All-tail (All IsPrinted) target targets all))

pub notes_printed : {T : Type 0} (tag : T) (targets : List (List ℕ)) → All (All IsPrinted) targets
    → All ArePrinted (footnote_lines tag targets)
notes_printed tag targets all = notes_from tag 1 targets all
