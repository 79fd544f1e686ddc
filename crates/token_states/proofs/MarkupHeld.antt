-- Characters that are held of markup, and markup that is over.
use Rattle.std.proofs.Common.{◌≡◌, ◌≢◌, ◌&&◌, ◌==◌, [], ◌∷◌, ◌++◌, ◌∙◌, Bool, List, Some, ap, append_assoc, false, not}
use Rattle.std.proofs.Common.{refl, subst, sym, true, ℕ}
use Rattle.std.proofs.lemmas.Bool.{and_parts, ne_eqb}
use Rattle.std.proofs.lemmas.List.{append-nil}
use Rattle.std.proofs.lemmas.List.Folds.{list_all-append}
use Rattle.std.specs.Char.{IsScalar}
use Rattle.std.specs.List.{list_all}
use Rattle.std.specs.Prelude.{String, string_bytes, encode_utf8, codes}
use Rattle.std.specs.Str.{chars}
use Rattle.lex_base.specs.References.{References}
use Rattle.token_grammar.proofs.MarkLemmas.{chars-encode}
use Rattle.token_grammar.proofs.ValueLemmas.{pushed_text}
use Rattle.token_grammar.specs.Comments.{bogus_comment_slice}
use Rattle.token_grammar.specs.Items.{Item}
use Rattle.token_grammar.specs.Lexemes.{comment_lexeme, emitted}
use Rattle.token_grammar.specs.Slices.{after, cut, cut_or_all}
use Rattle.token_grammar.specs.declared.modes.Mode.{Mode}
use Rattle.token_states.specs.MarkupSound.{HasNoGreater}
use Rattle.token_states.specs.Places.{place_lexeme}
use Rattle.token_states.specs.Turns.{IsOver, IsTaken, LeavesText, with_more}
use Rattle.token_states.specs.declared.place.LexemeState.{LexemeState}
use Rattle.token_states.specs.declared.place.LexemeState.TheVariants.{BogusComment}

pub pushed : {Z : Type 0} (old new : String Z) (c : ℕ) → IsScalar c → string_bytes new
    ≡ string_bytes old ++ encode_utf8 c → chars (string_bytes new) ≡ chars (string_bytes old) ++ c ∷ []
pushed old new c scalar e =
    pushed_text old new (encode_utf8 c) e ∙ ap (λ l. chars (string_bytes old) ++ l) (chars-encode c scalar)

-- a character that is held at the same place
pub taken : (table : References) (foreign : Bool) (mode : Mode) (place : LexemeState) (hs : List ℕ) (c : ℕ) (now : List ℕ) →
    now ≡ hs ++ c ∷ [] → IsTaken table foreign mode place hs c place now
taken table foreign mode place hs c now e rest =
    ap (place_lexeme table foreign mode place) (ap (λ l. l ++ rest) e ∙ append_assoc hs (c ∷ []) rest)

-- a lexeme that leaves what follows what is held, whatever that is, is over
pub over_by : (table : References) (foreign : Bool) (mode : Mode) (place : LexemeState) (now : List ℕ) (items : List Item)
    (trailing : Mode) → ((rest : List ℕ) → place_lexeme table foreign mode place (now ++ rest) ≡ emitted items trailing rest) →
    IsOver table foreign mode place now []
over_by table foreign mode place now items trailing h =
    let alone : place_lexeme table foreign mode place now ≡ emitted items trailing [] =
    ap (place_lexeme table foreign mode place) (sym (append-nil now)) ∙ h [] in
    record { settled = λ rest. h rest ∙ ap (with_more rest) (sym alone); left = subst LeavesText (sym alone) refl }

pub held_more : (hs now rest : List ℕ) (c : ℕ) → now ≡ hs ++ c ∷ [] → now ++ rest ≡ hs ++ c ∷ rest
held_more hs now rest c e = ap (λ l. l ++ rest) e ∙ append_assoc hs (c ∷ []) rest

not_false : (b : Bool) → not b ≡ true → b ≡ false
not_false true e = absurd cc
not_false false e = refl

pub and_false : (b : Bool) → (b && false) ≡ false
and_false true = refl
and_false false = refl

-- a `>` after a text without one
pub first_of : (h : ℕ) (hs : List ℕ) → HasNoGreater (h ∷ hs) → ((h == 62) ≡ false) × HasNoGreater hs
first_of h hs e =
    let parts = and_parts (not (h == 62)) (list_all (λ c. not (c == 62)) hs) e in
    (not_false (h == 62) parts.0, parts.1)

pub cut_greater : (hs more : List ℕ) → HasNoGreater hs → cut (after (codes ">")) (hs ++ 62 ∷ more)
    ≡ Some (record { slice = hs; rest = more })
cut_greater [] more n = refl
cut_greater (h ∷ hs) more n =
    let parts = first_of h hs n in
    rw parts.0 (rw (cut_greater hs more parts.1) refl)

pub bogus_up_to : (hs more : List ℕ) → HasNoGreater hs → bogus_comment_slice (hs ++ 62 ∷ more)
    ≡ record { slice = hs; rest = more }
bogus_up_to hs more n = ap (λ o. cut_or_all o (hs ++ 62 ∷ more)) (cut_greater hs more n)

pub still_no_greater : (hs now : List ℕ) (c : ℕ) → HasNoGreater hs → now ≡ hs ++ c ∷ [] → c ≢ 62 → HasNoGreater now
still_no_greater hs now c n e apart =
    ap (list_all (λ d. not (d == 62))) e ∙ (list_all-append (λ d. not (d == 62)) hs (c ∷ []) ∙
    rw (n, ne_eqb c 62 apart) refl)

pub bogus_over : (table : References) (foreign : Bool) (mode : Mode) (hs now : List ℕ) → HasNoGreater hs →
    now ≡ hs ++ 62 ∷ [] → IsOver table foreign mode BogusComment now []
bogus_over table foreign mode hs now n e =
    over_by table foreign mode BogusComment now _ mode
    (λ rest. ap (λ l. comment_lexeme mode (bogus_comment_slice l)) (held_more hs now rest 62 e) ∙
    ap (comment_lexeme mode) (bogus_up_to hs rest n))
