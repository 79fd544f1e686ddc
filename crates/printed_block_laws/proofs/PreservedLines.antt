-- No line of a source line whose white space stays holds a control character.
use Rattle.std.proofs.Common.{◌-◌, ◌+◌, [], ◌∷◌, ◌++◌, if◌then◌else◌, All, Bool, List, false, fold, replicate, true}
use Rattle.std.proofs.Common.{ℕ}
use Rattle.std.specs.Prelude.{◌%◌, ◌==◌, ◌||◌, nat_le, nat_lt}
use Rattle.std.proofs.lemmas.Bool.{cond_both}
use Rattle.std.proofs.lemmas.List.Elements.{All-nil, All-push}
use Rattle.text_lines.specs.Tagged.{Item, character, marker, line_columns}
use Rattle.text_pieces.specs.Sources.{Source, letter, fragment}
use Rattle.text_preserved.specs.Preserved.{Laying, Part, Tagging, after_stop, blank, body, broken_anywhere}
use Rattle.text_preserved.specs.Preserved.{broken_at_white, chosen, fresh, has_text, item_columns, lay_blank, lay_body}
use Rattle.text_preserved.specs.Preserved.{lay_items, lay_part, lay_stop, line_taken, line_text, nothing_laid, parts}
use Rattle.text_preserved.specs.Preserved.{preserved_lines, put, put_all, put_space, remaining, space, stop, tabbed}
use Rattle.text_preserved.specs.Preserved.{tag_one, tagged_body, taken, to_stop, with_room, without_spaces, written}
use Rattle.printed_block_laws.specs.Printed.{ArePrinted}
use Rattle.printed_block_laws.proofs.PrintedItems.{none_printed, printed_both, printed_dropped, printed_first}
use Rattle.printed_block_laws.proofs.PrintedItems.{printed_more, printed_rest, printed_spaces}
use Rattle.printed_block_laws.proofs.PreservedWords.{ArePartsPrinted, IsWordPrinted, parts_printed}

-- what is laid, at hand and waits
record HasPrinted {S : Type 0} (r : Laying S) : Type 0 where
  done : All ArePrinted r.done
  line : ArePrinted r.line
  tail : ArePrinted r.tail
  spaces : ArePrinted r.spaces

text_printed : {S : Type 0} (r : Laying S) → HasPrinted r → ArePrinted (line_text r)
text_printed r h = printed_both r.line r.tail h.line h.tail

-- ---- a fresh line, and room

fresh_printed : {S : Type 0} (r : Laying S) → HasPrinted r → HasPrinted (fresh r)
fresh_printed r h =
    cond_both (has_text (line_text r)) (record r { done = r.done ++ line_text r ∷ []; line = []; tail = [] }) r
    HasPrinted
    (λ e. record {
      done = All-push ArePrinted r.done (line_text r) h.done (text_printed r h);
      line = none_printed;
      tail = none_printed;
      spaces = h.spaces;
    })
    (λ e. h)

room_printed : {S : Type 0} (width more : ℕ) (r : Laying S) → HasPrinted r → HasPrinted (with_room width more r)
room_printed width more r h =
    cond_both (nat_le (line_taken r + more) width) r (fresh r) HasPrinted (λ e. h) (λ e. fresh_printed r h)

-- ---- what is written

written_printed : {S : Type 0} (r : Laying S) (items : List (Item S)) → HasPrinted r → ArePrinted items
    → HasPrinted (written r items)
written_printed r items h new = record {
  done = h.done;
  line = printed_both (line_text r) items (text_printed r h) new;
  tail = none_printed;
  spaces = h.spaces;
}

spaceless_printed : {S : Type 0} (r : Laying S) → HasPrinted r → HasPrinted (without_spaces r)
spaceless_printed r h = record { done = h.done; line = h.line; tail = h.tail; spaces = none_printed }

put_printed : {S : Type 0} (width : ℕ) (r : Laying S) (x : Item S) → HasPrinted r → ArePrinted (x ∷ [])
    → HasPrinted (put width r x)
put_printed width r x h new =
    written_printed (with_room width (item_columns x) r) (x ∷ []) (room_printed width (item_columns x) r h) new

put_all_printed : {S : Type 0} (width : ℕ) (r : Laying S) (items : List (Item S)) → HasPrinted r → ArePrinted items
    → HasPrinted (put_all width r items)
put_all_printed width r [] h new = h
put_all_printed width r (x ∷ items) h new =
    put_all_printed width (put width r x) items (put_printed width r x h (printed_first x items new))
    (printed_rest x items new)

-- ---- white space and tabs

tail_printed : {S : Type 0} (r : Laying S) (items : List (Item S)) → HasPrinted r → ArePrinted items
    → HasPrinted (record r { tail = r.tail ++ items })
tail_printed r items h new = record {
  done = h.done;
  line = h.line;
  tail = printed_both r.tail items h.tail new;
  spaces = h.spaces;
}

put_space_printed : {S : Type 0} (width : ℕ) (r : Laying S) (x : Item S) → HasPrinted r → ArePrinted (x ∷ [])
    → HasPrinted (put_space width r x)
put_space_printed width r x h new =
    tail_printed (with_room width 1 r) (x ∷ []) (room_printed width 1 r h) new

put_spaces_printed : {S : Type 0} (width : ℕ) (r : Laying S) (items : List (Item S)) → HasPrinted r
    → ArePrinted items → HasPrinted (fold (put_space width) r items)
put_spaces_printed width r [] h new = h
put_spaces_printed width r (x ∷ items) h new =
    put_spaces_printed width (put_space width r x) items (put_space_printed width r x h (printed_first x items new))
    (printed_rest x items new)

blank_printed : {S : Type 0} (n : ℕ) (main further : S) (r : Laying S) → HasPrinted r
    → HasPrinted (lay_blank n main further r)
blank_printed n main further r h = record {
  done = h.done;
  line = h.line;
  tail = h.tail;
  spaces = printed_both r.spaces (replicate n (space (chosen r.goes_on main further))) h.spaces
      (printed_spaces n (chosen r.goes_on main further));
}

after_stop_printed : {S : Type 0} (width : ℕ) (r : Laying S) → HasPrinted r → HasPrinted (after_stop width r)
after_stop_printed width r h =
    cond_both (nat_lt (line_taken r) width || (line_taken r % 8 == 0)) r (fresh r) HasPrinted (λ e. h)
    (λ e. fresh_printed r h)

tabbed_printed : {S : Type 0} (width : ℕ) (tag : S) (r : Laying S) → HasPrinted r → HasPrinted (tabbed width tag r)
tabbed_printed width tag r h =
    after_stop_printed width (record r { tail = r.tail ++ replicate (to_stop width (line_taken r)) (space tag) })
    (tail_printed r (replicate (to_stop width (line_taken r)) (space tag)) h
    (printed_spaces (to_stop width (line_taken r)) tag))

stop_printed : {S : Type 0} (width : ℕ) (main further : S) (r : Laying S) → HasPrinted r
    → HasPrinted (lay_stop width main further r)
stop_printed {S = S} width main further r h =
    let laid : Laying S = fold (put_space width) (without_spaces r) r.spaces in
    tabbed_printed width (chosen r.goes_on main further) (with_room width 1 laid)
    (room_printed width 1 laid
    (put_spaces_printed width (without_spaces r) r.spaces (spaceless_printed r h) h.spaces))

-- ---- a body

anywhere_printed : {S : Type 0} (width : ℕ) (r : Laying S) → HasPrinted r → HasPrinted (broken_anywhere width r)
anywhere_printed width r h =
    cond_both (nat_le (width - line_taken r) (line_columns r.spaces))
    (written (without_spaces (fresh r)) (remaining width (width - line_taken r) r.spaces))
    (without_spaces (fresh (written r r.spaces))) HasPrinted
    (λ e. written_printed (without_spaces (fresh r)) (remaining width (width - line_taken r) r.spaces)
    (spaceless_printed (fresh r) (fresh_printed r h))
    (printed_dropped (line_columns r.spaces - (line_columns r.spaces - (width - line_taken r)) % width) r.spaces
    h.spaces))
    (λ e. spaceless_printed (fresh (written r r.spaces))
    (fresh_printed (written r r.spaces) (written_printed r r.spaces h h.spaces)))

at_white_printed : {S : Type 0} (r : Laying S) → HasPrinted r → HasPrinted (broken_at_white r)
at_white_printed r h =
    spaceless_printed (fresh (record r { tail = [] })) (fresh_printed (record r { tail = [] })
    (record { done = h.done; line = h.line; tail = none_printed; spaces = h.spaces }))

broken_printed : {S : Type 0} (width : ℕ) (wraps : Bool) (r : Laying S) → HasPrinted r
    → HasPrinted (if wraps then broken_at_white r else broken_anywhere width r)
broken_printed width true r h = at_white_printed r h
broken_printed width false r h = anywhere_printed width r h

items_printed : {S : Type 0} (width : ℕ) (wraps : Bool) (items : List (Item S)) (r : Laying S) → HasPrinted r
    → ArePrinted items → HasPrinted (lay_items width wraps items r)
items_printed width wraps items r h new =
    cond_both (nat_le (taken r + line_columns items) width) (written (without_spaces r) (r.spaces ++ items))
    (put_all width (if wraps then broken_at_white r else broken_anywhere width r) items) HasPrinted
    (λ e. written_printed (without_spaces r) (r.spaces ++ items) (spaceless_printed r h)
    (printed_both r.spaces items h.spaces new))
    (λ e. put_all_printed width (if wraps then broken_at_white r else broken_anywhere width r) items
    (broken_printed width wraps r h) new)

tagging_printed : {S : Type 0} (width : ℕ) (wraps : Bool) (before : ℕ) (t : Tagging S) (word : List (Source S))
    → IsWordPrinted word → ArePrinted t.items → ArePrinted (fold (tag_one width wraps before) t word).items
tagging_printed width wraps before t [] new h = h
tagging_printed width wraps before t (letter c main further ∷ rest) new h =
    let tag = chosen (tag_one width wraps before t (letter c main further)).goes_on main further in
    tagging_printed width wraps before (tag_one width wraps before t (letter c main further)) rest new.1
    (printed_both t.items (character c tag ∷ []) h (printed_more c tag [] new.0 none_printed))
tagging_printed width wraps before t (fragment name ∷ rest) new h =
    tagging_printed width wraps before (tag_one width wraps before t (fragment name)) rest new
    (printed_both t.items (marker name ∷ []) h none_printed)

body_printed : {S : Type 0} (width : ℕ) (wraps : Bool) (word : List (Source S)) (r : Laying S) → HasPrinted r
    → IsWordPrinted word → HasPrinted (lay_body width wraps word r)
body_printed {S = S} width wraps word r h new =
    let items : List (Item S) = (tagged_body width wraps (with_room width 0 r) word).items in
    let laid : HasPrinted (lay_items width wraps items (with_room width 0 r)) =
    items_printed width wraps items (with_room width 0 r) (room_printed width 0 r h)
    (tagging_printed width wraps (taken (with_room width 0 r))
    (record { items = []; goes_on = (with_room width 0 r).goes_on }) word new none_printed) in
    record { done = laid.done; line = laid.line; tail = laid.tail; spaces = laid.spaces }

-- ---- all parts

all_printed : {S : Type 0} (width : ℕ) (wraps : Bool) (r : Laying S) (ps : List (Part S)) → HasPrinted r
    → ArePartsPrinted ps → HasPrinted (fold (lay_part width wraps) r ps)
all_printed width wraps r [] h are = h
all_printed width wraps r (blank n main further ∷ ps) h are =
    all_printed width wraps (lay_blank n main further r) ps (blank_printed n main further r h) are
all_printed width wraps r (stop main further ∷ ps) h are =
    all_printed width wraps (lay_stop width main further r) ps (stop_printed width main further r h) are
all_printed width wraps r (body word ∷ ps) h are =
    all_printed width wraps (lay_body width wraps word r) ps (body_printed width wraps word r h are.0) are.1

nothing_printed : {S : Type 0} → HasPrinted (nothing_laid {S = S})
nothing_printed = record {
  done = All-nil ArePrinted;
  line = none_printed;
  tail = none_printed;
  spaces = none_printed;
}

pub preserved_lines_printed : {S : Type 0} (width : ℕ) (wraps : Bool) (line : List (Source S))
    → All ArePrinted (preserved_lines width wraps line)
unfolding preserved_lines
preserved_lines_printed {S = S} width wraps line =
    let before : Laying S = fold (lay_part width wraps) nothing_laid (parts width wraps line) in
    let after : HasPrinted (fresh before) = fresh_printed before (all_printed width wraps nothing_laid
    (parts width wraps line) nothing_printed (parts_printed width wraps line)) in
    after.done
