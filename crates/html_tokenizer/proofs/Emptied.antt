-- A reader that holds nothing is in text, with nothing pending.
use Rattle.std.proofs.Common.{◌≡◌, ℕ, Bool, true, false, ◌&&◌, ◌==◌, List, [], length, string_bytes, refl, sym, ap, ◌∙◌}
use Rattle.std.proofs.lemmas.Str.{encodes-chars, IsUtf8-string_bytes}
use Rattle.std.specs.Str.{encode_utf8_all}
use Rattle.token_states.specs.PlaceKinds.{is_of_text, is_open}
use Rattle.html_tokenizer.specs.Holdings.{HoldsNothing}
use Rattle.html_tokenizer.specs.declared.reader.Reader.{Reader}

all_three : (a b c : Bool) → a ≡ true → b ≡ true → c ≡ true → (a && b && c) ≡ true
all_three true true true p q r = refl
all_three true true false p q r = r
all_three true false c p q r = q
all_three false b c p q r = p

pub emptied_text : (reader : Reader) → HoldsNothing reader → is_of_text reader.pending.place ≡ true
emptied_text reader h = ap is_of_text h.place

no_bytes : (reader : Reader) → HoldsNothing reader → string_bytes reader.pending.held ≡ []
no_bytes reader h =
    sym (encodes-chars (string_bytes reader.pending.held) (IsUtf8-string_bytes reader.pending.held)) ∙
    ap encode_utf8_all h.held

pub emptied_pending : (reader : Reader) → HoldsNothing reader →
    (is_open reader.pending.place && length (string_bytes reader.pending.held) == 0
    && length (string_bytes reader.run) == 0) ≡ true
emptied_pending reader h =
    all_three (is_open reader.pending.place) (length (string_bytes reader.pending.held) == 0)
    (length (string_bytes reader.run) == 0)
    (ap is_open h.place) (ap (λ (l : List ℕ). length l == 0) (no_bytes reader h))
    (ap (λ (l : List ℕ). length l == 0) h.run)
