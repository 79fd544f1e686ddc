-- The letters of texts, one after another, and what a block holds of them.
use Rattle.std.proofs.Common.{◌≡◌, ◌+◌, ◌<◌, ◌≤◌, [], ◌∷◌, ◌++◌, ◌∙◌, Bool, List, Some, ap, append_assoc, false, get_or}
use Rattle.std.proofs.Common.{length, refl, sym, take, ℕ}
use Rattle.std.specs.Prelude.{Result, Ok, Err, IfOk, chars, string_bytes}
use Rattle.std.proofs.lemmas.List.{append-nil, take_more, take_all}
use Rattle.text_lines.specs.declared.tagged_string.TaggedString.{TaggedString}
use Rattle.text_pieces.specs.Sources.{Source, sourced}
use Rattle.text_pieces.specs.declared.white_space.WhiteSpace.TheVariants.{Normal}
use Rattle.text_normal.specs.Units.{lettered}
use Rattle.text_normal.specs.Letters.{letters_of as letters_in, has_marker}
use Rattle.text_wrapping.specs.Blocks.{Block, added}
use Rattle.text_wrapping.specs.NormalBlocks.{normal_block}
use Rattle.test_wrapped.specs.Letters.{letters_of}

-- what a block is given of the texts
abbrev pub sources : {T S : Type 0} → (T → S) → List (TaggedString T) → List (Source S)
sources seen [] = []
sources seen (p ∷ ps) = sourced (chars (string_bytes p.s)) (seen p.tag) (seen p.tag) ++ sources seen ps

sources-append : {T S : Type 0} (seen : T → S) (xs ys : List (TaggedString T))
    → sources seen (xs ++ ys) ≡ sources seen xs ++ sources seen ys
sources-append seen [] ys = refl
sources-append seen (x ∷ xs) ys =
    let own = sourced (chars (string_bytes x.s)) (seen x.tag) (seen x.tag) in
    ap (λ rest. own ++ rest) (sources-append seen xs ys)
    ∙ sym (append_assoc own (sources seen xs) (sources seen ys))

pub sources_more : {T S : Type 0} (seen : T → S) (ps : List (TaggedString T)) (i : ℕ) (p : TaggedString T)
    → i < length ps → p ≡ get_or ps i p
    → sources seen (take i ps) ++ sourced (chars (string_bytes p.s)) (seen p.tag) (seen p.tag)
    ≡ sources seen (take (i + 1) ps)
sources_more seen ps i p inside read =
    let own = sourced (chars (string_bytes p.s)) (seen p.tag) (seen p.tag) in
    ap (λ last. sources seen (take i ps) ++ last) (sym (append-nil own))
    ∙ sym (sources-append seen (take i ps) (p ∷ []))
    ∙ ap (λ x. sources seen (take i ps ++ x ∷ [])) read ∙ ap (sources seen) (sym (take_more ps i p inside))

-- what is said of the letters of texts
abbrev pub TextsHaveLetters : Type 0 → Type 0
TextsHaveLetters S = (cs : List ℕ) (main further : S) → letters_in (sourced cs main further) ≡ lettered cs main

abbrev pub LettersJoin : Type 0 → Type 0
LettersJoin S = (front back : List (Source S)) → letters_in (front ++ back) ≡ letters_in front ++ letters_in back

abbrev pub TextsHaveNoMarker : Type 0 → Type 0
TextsHaveNoMarker S = (cs : List ℕ) (main further : S) → has_marker (sourced cs main further) ≡ false

abbrev pub NoMarkersJoin : Type 0 → Type 0
NoMarkersJoin S = (front back : List (Source S)) → has_marker front ≡ false → has_marker back ≡ false
    → has_marker (front ++ back) ≡ false

pub letters_in_sources : {T S : Type 0} (text : TextsHaveLetters S) (joined : LettersJoin S) (seen : T → S)
    (ps : List (TaggedString T)) → letters_in (sources seen ps) ≡ letters_of seen ps
letters_in_sources text joined seen [] = refl
letters_in_sources text joined seen (p ∷ ps) =
    let cs = chars (string_bytes p.s) in
    joined (sourced cs (seen p.tag) (seen p.tag)) (sources seen ps)
    ∙ ap (λ front. front ++ letters_in (sources seen ps)) (text cs (seen p.tag) (seen p.tag))
    ∙ ap (λ back. lettered cs (seen p.tag) ++ back) (letters_in_sources text joined seen ps)

pub no_marker_in_sources : {T S : Type 0} (none : TextsHaveNoMarker S) (join : NoMarkersJoin S) (seen : T → S)
    (ps : List (TaggedString T)) → has_marker (sources seen ps) ≡ false
no_marker_in_sources none join seen [] = refl
no_marker_in_sources none join seen (p ∷ ps) =
    let cs = chars (string_bytes p.s) in
    join (sourced cs (seen p.tag) (seen p.tag)) (sources seen ps) (none cs (seen p.tag) (seen p.tag))
    (no_marker_in_sources none join seen ps)

-- a block takes a text after what it holds
abbrev pub TextIsKept : Type 0 → Type 0
TextIsKept S = (width : ℕ) (overflow : Bool) (source : List (Source S)) (cs : List ℕ) (main further : S)
    → added Normal cs main further (normal_block width overflow source)
    ≡ Some (normal_block width overflow (source ++ sourced cs main further))

some_same : {X : Type 0} (x y : X) → Some x ≡ Some y → x ≡ y
some_same x y h = cc

pub piece_kept : {T S : Type 0} (kept : TextIsKept S) (seen : T → S) (width : ℕ) (overflow : Bool)
    (ps : List (TaggedString T)) (i : ℕ) (p : TaggedString T) (bytes : List ℕ) (b next : Block S)
    → i < length ps → p ≡ get_or ps i p → bytes ≡ string_bytes p.s
    → b ≡ normal_block width overflow (sources seen (take i ps))
    → added Normal (chars bytes) (seen p.tag) (seen p.tag) b ≡ Some next
    → next ≡ normal_block width overflow (sources seen (take (i + 1) ps))
piece_kept kept seen width overflow ps i p bytes b next inside read value holds took =
    some_same next (normal_block width overflow (sources seen (take (i + 1) ps)))
    (sym took ∙ ap (λ text. added Normal (chars text) (seen p.tag) (seen p.tag) b) value
    ∙ ap (added Normal (chars (string_bytes p.s)) (seen p.tag) (seen p.tag)) holds
    ∙ kept width overflow (sources seen (take i ps)) (chars (string_bytes p.s)) (seen p.tag) (seen p.tag)
    ∙ ap (λ source. Some (normal_block width overflow source)) (sources_more seen ps i p inside read))

pub pieces_kept : {T S : Type 0} (seen : T → S) (width : ℕ) (overflow : Bool) (ps : List (TaggedString T)) (i : ℕ)
    (b : Block S) → b ≡ normal_block width overflow (sources seen (take i ps)) → length ps ≤ i
    → b ≡ normal_block width overflow (sources seen ps)
pieces_kept seen width overflow ps i b holds all =
    holds ∙ ap (λ x. normal_block width overflow (sources seen x)) (take_all i ps all)

pub if_ok_map : {T E : Type 0} (P Q : T → Type 0) (r : Result T E) → ((x : T) → P x → Q x) → IfOk r P → IfOk r Q
if_ok_map P Q (Ok x) f h = f x h
if_ok_map P Q (Err e) f h = tt
