-- Printable ASCII that goes on the line at hand as it is.
use Rattle.std.proofs.Common.{◌≡◌, ◌+◌, ◌<◌, ◌≤◌, ◌==◌, ◌||◌, [], ◌∷◌, ◌++◌, ◌∙◌, Bool, IsUtf8, List, ap, arith, chars}
use Rattle.std.proofs.Common.{drop, false, fold, inr, length, nat_le, not, refl, subst, suc, sym, take, true, zero, ℕ}
use Rattle.std.specs.Prelude.{All, Option, None, Some, if◌then◌else◌, unwrap_or}
use Rattle.std.specs.Str.{IsAscii, IsCharBoundary}
use Rattle.std.proofs.lemmas.Bool.Decides.{nat_tests}
use Rattle.std.proofs.lemmas.List.{append-nil, append_assoc, length-take-le, map-append, take-append-drop}
use Rattle.std.proofs.lemmas.List.Elements.{All-from_get_or, All-get_or, All-head, All-tail}
use Rattle.std.proofs.lemmas.List.Sums.{fold-append, sum_by-cons}
use Rattle.std.proofs.lemmas.Str.{chars-IsAscii, chars-append, chars-nil, IsUtf8-take}
use Rattle.std.proofs.lemmas.Str.Ascii.{IsAscii-from_all}
use Rattle.text_lines.specs.Columns.{columns_of-one, text_columns, width_of}
use Rattle.text_lines.specs.Tagged.{Item, character, tagged, line_columns}
use Rattle.text_pieces.specs.Items.{has_text}
use Rattle.text_pieces.proofs.ItemColumns.{line_columns-append, line_columns-cons}
use Rattle.text_footnotes.specs.Footnotes.{Cut, placed}
use Rattle.text_footnotes.specs.Cuts.{HasRoomFor, IsPrintable, placed_spaced, spaced}

-- ---- one character

one_wide : (c : ℕ) → IsPrintable c → width_of c ≡ 1
unfolding width_of
one_wide c h = ap (λ o. unwrap_or o 0) (columns_of-one c (inr h))

not_ended : (c : ℕ) → 0x20 ≤ c → (c == 0xA) ≡ false
not_ended c h = grind (arith, nat_tests)

stays : (b : Bool) (c : ℕ) → b ≡ false → (if b then 0x20 else c) ≡ c
stays true c e = cc
stays false c e = refl

stays_itself : (c : ℕ) → IsPrintable c → spaced c ≡ c
stays_itself c h = stays (c == 0xA) c (not_ended c h.0)

goes : {X : Type 0} (b t : Bool) (x y : X) → b ≡ true → (if b || t then x else y) ≡ x
goes true t x y e = refl
goes false t x y e = cc

within : (a n w : ℕ) → n ≡ 1 → a + 1 ≤ w → nat_le (a + n) w ≡ true
within a n w one h = grind (arith, nat_tests)

placed_one : {S : Type 0} (width : Option ℕ) (c : ℕ) (tag : S) (cut : Cut S) → IsPrintable c
    → HasRoomFor width cut.line 1
    → placed_spaced width cut (character c tag) ≡ record cut { line = cut.line ++ character c tag ∷ [] }
placed_one None c tag cut h room =
    ap (λ d. record cut { line = cut.line ++ character d tag ∷ [] }) (stays_itself c h)
placed_one (Some w) c tag cut h room =
    ap (λ d. placed w cut (character d tag)) (stays_itself c h)
    ∙ goes (nat_le (line_columns cut.line + width_of c) w) (not (has_text cut.line))
    (record cut { line = cut.line ++ character c tag ∷ [] })
    (record { done = cut.done ++ cut.line ∷ []; line = character c tag ∷ [] })
    (within (line_columns cut.line) (width_of c) w (one_wide c h) (room (omega arith)))

-- ---- room

room_less : {S : Type 0} (width : Option ℕ) (line : List (Item S)) (n m : ℕ) → n ≤ m → HasRoomFor width line m
    → HasRoomFor width line n
room_less None line n m h room = tt
room_less (Some w) line n m h room = λ some. omega (arith, room (omega arith))

room_after : {S : Type 0} (width : Option ℕ) (line : List (Item S)) (c : ℕ) (tag : S) (n : ℕ) → IsPrintable c
    → HasRoomFor width line (suc n) → HasRoomFor width (line ++ character c tag ∷ []) n
room_after None line c tag n h room = tt
room_after (Some w) line c tag n h room = λ some.
    omega (
      arith,
      room (omega arith),
      line_columns-append line (character c tag ∷ []),
      line_columns-cons (character c tag) [],
      one_wide c h,
    )

-- ---- a run

run_placed : {S : Type 0} (width : Option ℕ) (cs : List ℕ) (tag : S) (cut : Cut S) → All IsPrintable cs
    → HasRoomFor width cut.line (length cs)
    → fold (placed_spaced width) cut (tagged cs tag) ≡ record cut { line = cut.line ++ tagged cs tag }
run_placed width [] tag cut all room = ap (λ line. record cut { line = line }) (sym (append-nil cut.line))
run_placed width (c ∷ cs) tag cut all room =
    let h = All-head IsPrintable c cs all in
    ap (λ k. fold (placed_spaced width) k (tagged cs tag))
    (placed_one width c tag cut h (room_less width cut.line 1 (suc (length cs)) (omega arith) room))
    ∙ (run_placed width cs tag (record cut { line = cut.line ++ character c tag ∷ [] })
    (All-tail IsPrintable c cs all) (room_after width cut.line c tag (length cs) h room)
    ∙ ap (λ line. record cut { line = line }) (append_assoc cut.line (character c tag ∷ []) (tagged cs tag)))

run_columns : (cs : List ℕ) → All IsPrintable cs → text_columns cs ≡ length cs
run_columns [] all = refl
run_columns (c ∷ cs) all =
    omega (
      arith,
      sum_by-cons width_of c cs,
      one_wide c (All-head IsPrintable c cs all),
      run_columns cs (All-tail IsPrintable c cs all),
    )

are_ascii : (cs : List ℕ) → All IsPrintable cs → IsAscii cs
are_ascii cs all =
    IsAscii-from_all cs (All-from_get_or (λ b. b < 128) cs 0
    (λ i h. let p = All-get_or IsPrintable cs i 0 h all in omega (arith, p.1)))

pub front_columns : (text run : List ℕ) (n : ℕ) → IsCharBoundary text n → All IsPrintable (take n text)
    → run ≡ take n text → n ≡ text_columns (chars run)
front_columns text run n cut all e =
    let long = length-take-le n text cut.0 in
    let wide = run_columns (take n text) all in
    let same = chars-IsAscii (take n text) (are_ascii (take n text) all) in
    omega arith ∙ ap text_columns (sym (ap chars e ∙ same))

-- what stands in front goes on the line, and what is after it is placed as before
pub after_front : {S : Type 0} (width : Option ℕ) (text run rest : List ℕ) (n most : ℕ) (tag : S) (cut : Cut S)
    (line : List (Item S)) → IsUtf8 text → IsCharBoundary text n → All IsPrintable (take n text) → n ≤ most
    → HasRoomFor width cut.line most → run ≡ take n text → rest ≡ drop n text
    → line ≡ cut.line ++ tagged (chars run) tag
    → fold (placed_spaced width) (record cut { line = line }) (tagged (chars rest) tag)
    ≡ fold (placed_spaced width) cut (tagged (chars text) tag)
after_front width text run rest n most tag cut line utf8 at all few room front back put =
    let f = placed_spaced width in
    let spelt : chars run ≡ take n text =
    ap chars front ∙ chars-IsAscii (take n text) (are_ascii (take n text) all) in
    let whole : chars text ≡ chars run ++ chars rest =
    ap chars (sym (take-append-drop n text))
    ∙ (chars-append (take n text) (drop n text) (IsUtf8-take text n utf8 at)
    ∙ (ap (λ cs. cs ++ chars (drop n text)) (ap chars (sym front)) ∙ ap (λ bs. chars run ++ chars bs) (sym back))) in
    let long : length (chars run) ≤ most =
    short (length (chars run)) n most (ap length spelt ∙ length-take-le n text at.0) few in
    ap (λ l. fold f (record cut { line = l }) (tagged (chars rest) tag)) put
    ∙ (ap (λ k. fold f k (tagged (chars rest) tag))
    (sym (run_placed width (chars run) tag cut (subst (All IsPrintable) (sym spelt) all)
    (room_less width cut.line (length (chars run)) most long room)))
    ∙ (sym (fold-append f cut (tagged (chars run) tag) (tagged (chars rest) tag))
    ∙ ap (fold f cut) (sym (map-append (λ code. character code tag) (chars run) (chars rest))
    ∙ ap (λ cs. tagged cs tag) (sym whole)))) where
      short : (a n m : ℕ) → a ≡ n → n ≤ m → a ≤ m
      short a n m e h = omega arith

-- ---- a text that goes on the line as a whole

take_whole : (n : ℕ) (xs : List ℕ) → n ≡ length xs → xs ≡ take n xs
take_whole n [] e = ap (λ k. take k []) (sym e)
take_whole zero (x ∷ xs) e = absurd (omega (arith, e))
take_whole (suc n) (x ∷ xs) e = ap (λ l. x ∷ l) (take_whole n xs (omega (arith, e)))

drop_whole : (n : ℕ) (xs : List ℕ) → n ≡ length xs → [] ≡ drop n xs
drop_whole n [] e = ap (λ k. drop k []) (sym e)
drop_whole zero (x ∷ xs) e = absurd (omega (arith, e))
drop_whole (suc n) (x ∷ xs) e = drop_whole n xs (omega (arith, e))

pub whole_columns : (text whole : List ℕ) (n : ℕ) → IsCharBoundary text n → All IsPrintable (take n text)
    → text ≡ whole → n ≡ length whole → n ≡ text_columns (chars whole)
whole_columns text whole n at all is long =
    front_columns text whole n at all
    (take_whole n whole long ∙ ap (take n) (sym is))

pub whole_placed : {S : Type 0} (width : Option ℕ) (text whole : List ℕ) (n most : ℕ) (tag : S) (cut : Cut S)
    (line : List (Item S)) → IsUtf8 text → IsCharBoundary text n → All IsPrintable (take n text) → n ≤ most
    → HasRoomFor width cut.line most → text ≡ whole → n ≡ length whole → line ≡ cut.line ++ tagged (chars whole) tag
    → record cut { line = line } ≡ fold (placed_spaced width) cut (tagged (chars whole) tag)
whole_placed width text whole n most tag cut line utf8 at all few room is long put =
    ap (λ cs. fold (placed_spaced width) (record cut { line = line }) (tagged cs tag)) (sym chars-nil)
    ∙ (after_front width text whole [] n most tag cut line utf8 at all few room
    (take_whole n whole long ∙ ap (take n) (sym is))
    (drop_whole n whole long ∙ ap (drop n) (sym is)) put
    ∙ ap (λ bs. fold (placed_spaced width) cut (tagged (chars bs) tag)) is)
