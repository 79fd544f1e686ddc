-- A text that joins the last piece.
use Rattle.std.proofs.Common.{◌≡◌, ◌+◌, ◌-◌, [], ◌∷◌, ◌++◌, ◌∙◌, List, None, Option, Some, ap, append-nil, append_assoc}
use Rattle.std.proofs.Common.{arith, chars, get_or, length, set, slice_get, subst, sym, take, ℕ}
use Rattle.std.specs.Prelude.{IsSomeAnd, string_bytes}
use Rattle.std.proofs.lemmas.List.{map-append}
use Rattle.std.proofs.lemmas.Option.{slice_get-get_or}
use Rattle.std.proofs.lemmas.Str.{chars-append, IsUtf8-string_bytes}
use Rattle.text_lines.proofs.Joins.{last_split, last_set}
use Rattle.text_pieces.specs.declared.piece.Piece.{Piece}
use Rattle.text_pieces.specs.declared.piece.Piece.TheVariants.{Text, Fragment}
use Rattle.text_pieces.specs.Sources.{letter, sourced, piece_sources, sources_of, wrap_seen}
use Rattle.text_pieces.specs.Joins.{HasTags, EndsWithTags, Extends}

sources-last : {T S : Type 0} (seen : T → S) (pieces : List (Piece T)) (p : Piece T)
    → sources_of seen (pieces ++ p ∷ []) ≡ sources_of seen pieces ++ piece_sources seen p
sources-last seen [] p = append-nil (piece_sources seen p)
sources-last seen (q ∷ pieces) p =
    ap (λ l. piece_sources seen q ++ l) (sources-last seen pieces p)
    ∙ sym (append_assoc (piece_sources seen q) (sources_of seen pieces) (piece_sources seen p))

extended : {T S : Type 0} (seen : T → S) (main further : S) (p q : Piece T) (text : List ℕ) → Extends p q text
    → HasTags seen main further p → piece_sources seen q ≡ piece_sources seen p ++ sourced (chars text) main further
extended seen main further (Text old) (Text new) text h has =
    ap (λ t. sourced (chars (string_bytes new.text)) (seen t) (wrap_seen seen new)) h.1.0
    ∙ ap (λ t. sourced (chars (string_bytes new.text)) (seen old.main_tag) t)
    (ap (λ t. wrap_seen seen (record old { main_tag = new.main_tag; wrap_tag = t })) h.1.1
    ∙ ap (λ t. wrap_seen seen (record old { main_tag = t })) h.1.0)
    ∙ ap (λ cs. sourced cs (seen old.main_tag) (wrap_seen seen old))
    (ap chars h.0 ∙ chars-append (string_bytes old.text) text (IsUtf8-string_bytes old.text))
    ∙ map-append (λ c. letter c (seen old.main_tag) (wrap_seen seen old)) (chars (string_bytes old.text)) (chars text)
    ∙ ap (λ t. sourced (chars (string_bytes old.text)) (seen old.main_tag) (wrap_seen seen old)
    ++ sourced (chars text) t (wrap_seen seen old)) has.0
    ∙ ap (λ t. sourced (chars (string_bytes old.text)) (seen old.main_tag) (wrap_seen seen old)
    ++ sourced (chars text) main t) has.1
extended seen main further (Text old) (Fragment new) text h has = absurd h
extended seen main further (Fragment old) q text h has = absurd has

last_has_tags : {T S : Type 0} (seen : T → S) (main further : S) (o : Option (Piece T)) (p : Piece T) → o ≡ Some p
    → IsSomeAnd o (HasTags seen main further) → HasTags seen main further p
last_has_tags seen main further None p same h = absurd h
last_has_tags seen main further (Some x) p same h =
    let inner : x ≡ p = cc in subst (HasTags seen main further) inner h

pub last_extended : {T S : Type 0} (seen : T → S) (pieces : List (Piece T)) (i : ℕ) (p q : Piece T) (text : List ℕ)
    → i + 1 ≡ length pieces → i ≡ length pieces - 1 → p ≡ get_or pieces i p → Extends p q text → (main further : S)
    → EndsWithTags seen main further pieces
    → sources_of seen (set pieces i q) ≡ sources_of seen pieces ++ sourced (chars text) main further
last_extended seen pieces i p q text last at read extends main further ends =
    let here : slice_get pieces (length pieces - 1) ≡ Some p =
    ap (λ k. slice_get pieces k) (sym at) ∙ slice_get-get_or pieces i p (omega (arith, last)) ∙ ap Some (sym read) in
    let has = last_has_tags seen main further (slice_get pieces (length pieces - 1)) p here ends in
    let whole = ap (sources_of seen) (last_split pieces i p last ∙ ap (λ x. take i pieces ++ x ∷ []) (sym read))
    ∙ sources-last seen (take i pieces) p in
    ap (sources_of seen) (last_set pieces i q last) ∙ sources-last seen (take i pieces) q
    ∙ ap (λ l. sources_of seen (take i pieces) ++ l) (extended seen main further p q text extends has)
    ∙ sym (append_assoc (sources_of seen (take i pieces)) (piece_sources seen p) (sourced (chars text) main further))
    ∙ ap (λ l. l ++ sourced (chars text) main further) (sym whole)
