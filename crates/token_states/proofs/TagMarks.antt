-- A tag's slice ends with its `>`.
use Rattle.std.proofs.Common.{◌≡◌, ◌∙◌, ◌==◌, ◌&&◌, [], ◌∷◌, ◌++◌, Bool, List, None, Option, Some, ap, append_assoc}
use Rattle.std.proofs.Common.{codes, cond, drop, false, refl, subst, sym, true, ℕ}
use Rattle.lex_base.specs.References.{References}
use Rattle.html_lexemes.specs.declared.names.Attribute.{Attribute}
use Rattle.html_lexemes.specs.declared.states.RawKind.{RawKind}
use Rattle.html_lexemes.specs.declared.token.Tag.{Tag}
use Rattle.html_lexemes.specs.declared.token.TagKind.{TagKind}
use Rattle.html_lexemes.specs.declared.token.TagKind.TheVariants.{StartTag, EndTag}
use Rattle.token_grammar.specs.Characters.{is_letter, shown}
use Rattle.token_grammar.specs.Comments.{bogus_comment_slice, comment_slice}
use Rattle.token_grammar.specs.Doctypes.{doctype_at}
use Rattle.token_grammar.specs.Items.{error}
use Rattle.token_grammar.specs.Lexemes.{Lexeme, after_slash, cdata_lexeme, comment_lexeme, declaration, doctype_lexeme}
use Rattle.token_grammar.specs.Lexemes.{emitted, ends_raw_text, has_end_tags, has_references, in_kind, kind_after}
use Rattle.token_grammar.specs.Lexemes.{lexeme, lexeme_in, markup, nothing, one_character, ordinary_item}
use Rattle.token_grammar.specs.Lexemes.{ordinary_lexeme, raw_lexeme, reference_lexeme, tag_lexeme, tagged}
use Rattle.token_grammar.specs.References.{Found, reference}
use Rattle.token_grammar.specs.Slices.{after, begins, begins_word, cut, cut_or_all}
use Rattle.token_grammar.specs.TagLaws.{AreWritten, closes, has, IsTagSlice}
use Rattle.token_grammar.specs.Tags.{greater, tag_at}
use Rattle.token_grammar.specs.declared.modes.Mode.{Mode}
use Rattle.token_grammar.specs.declared.modes.TextKind.{TextKind}
use Rattle.token_grammar.specs.declared.modes.TextKind.TheVariants.{Ordinary, Plain, Raw}
use Rattle.token_grammar.proofs.TagSlices.{tag_slice}
use Rattle.token_states.specs.Places.{place_lexeme}
use Rattle.token_states.specs.declared.place.LexemeState.{LexemeState}
use Rattle.token_states.specs.declared.place.LexemeState.TheVariants.{BogusComment, CdataSection, CharacterReference}
use Rattle.token_states.specs.declared.place.LexemeState.TheVariants.{Comment, Doctype, EndTagOpen}
use Rattle.token_states.specs.declared.place.LexemeState.TheVariants.{MarkupDeclarationOpen, RawText, Tag as TagPlace}
use Rattle.token_states.specs.declared.place.LexemeState.TheVariants.{TagOpen, Text}

-- a text up to a `>`, and what follows it
abbrev IsMarkedBefore : List ℕ → List ℕ → Type 0
IsMarkedBefore cs rest = (front : List ℕ) × (cs ≡ front ++ greater ∷ rest)

-- of a lexeme that stands in a text, where it is a tag
abbrev HasMark : List ℕ → Lexeme → Type 0
HasMark cs nothing = Unit {0}
HasMark cs (emitted items mode rest) = Unit {0}
HasMark cs (tagged t rest) = IsMarkedBefore cs rest

trailing : (front cs rest whole : List ℕ) → whole ≡ front ++ cs → IsMarkedBefore cs rest → IsMarkedBefore whole rest
trailing front cs rest whole e h =
    (front ++ h.0, e ∙ (ap (λ x. front ++ x) h.1 ∙ sym (append_assoc front h.0 (greater ∷ rest))))

written : (table : References) (cs : List ℕ) (attributes : List Attribute) (closing : Bool) (rest : List ℕ) →
    AreWritten table cs attributes closing rest → IsMarkedBefore cs rest
written table cs _ _ rest (closes gap _ _ e passes) = (gap, e)
written table cs _ _ rest (has gap text further _ _ a others closing e passes attribute w) =
    trailing gap text rest cs e (trailing (attribute.first ∷ attribute.others ++ attribute.slice) further rest text
    attribute.side_by_side (written table further others closing rest w))

slice_ends : (table : References) (kind : TagKind) (cs : List ℕ) (t : Tag) (rest : List ℕ) →
    IsTagSlice table kind cs t rest → IsMarkedBefore cs rest
slice_ends table kind cs t rest s =
    trailing s.name s.trailing rest cs s.side_by_side (written table s.trailing s.attributes s.closing rest s.are_written)

both : (cs : List ℕ) (b : Bool) (x y : Lexeme) → HasMark cs x → HasMark cs y → HasMark cs (cond b x y)
both cs true x y p q = p
both cs false x y p q = q

later : (c : ℕ) (cs : List ℕ) (l : Lexeme) → HasMark cs l → HasMark (c ∷ cs) l
later c cs nothing h = tt
later c cs (emitted items mode rest) h = tt
later c cs (tagged t rest) h = trailing (c ∷ []) cs rest (c ∷ cs) refl h

dropped : (cs : List ℕ) (l : Lexeme) → HasMark (drop 1 cs) l → HasMark cs l
dropped [] l h = h
dropped (c ∷ cs) l h = later c cs l h

found_tag : (table : References) (kind : TagKind) (cs : List ℕ) (found : Option (Tag × List ℕ)) →
    tag_at table kind cs ≡ found → HasMark cs (tag_lexeme found)
found_tag table kind cs None e = tt
found_tag table kind cs (Some read) e = slice_ends table kind cs read.0 read.1 (tag_slice table kind cs read.0 read.1 e)

in_tag : (table : References) (kind : TagKind) (cs : List ℕ) → HasMark cs (tag_lexeme (tag_at table kind cs))
in_tag table kind cs = found_tag table kind cs (tag_at table kind cs) refl

in_reference : (whole : List ℕ) (mode : Mode) (cs : List ℕ) (found : Option Found) →
    HasMark whole (reference_lexeme mode cs found)
in_reference whole mode cs None = tt
in_reference whole mode cs (Some found) = tt

in_end_tag : (table : References) (mode : Mode) (cs : List ℕ) → HasMark cs (after_slash table mode cs)
in_end_tag table mode [] = tt
in_end_tag table mode (c ∷ cs) =
    let other : Lexeme =
    cond (c == 62) (emitted (error ∷ []) mode cs) (comment_lexeme mode (bogus_comment_slice (c ∷ cs))) in
    both (c ∷ cs) (is_letter c) (tag_lexeme (tag_at table EndTag (c ∷ cs))) other (in_tag table EndTag (c ∷ cs))
    (both (c ∷ cs) (c == 62) (emitted (error ∷ []) mode cs) (comment_lexeme mode (bogus_comment_slice (c ∷ cs))) tt tt)

in_declaration : (foreign : Bool) (mode : Mode) (whole cs : List ℕ) → HasMark whole (declaration foreign mode cs)
in_declaration foreign mode whole cs =
    let section : Lexeme = cdata_lexeme mode (cut_or_all (cut (after (codes "]]>")) (drop 7 cs)) (drop 7 cs)) in
    let bogus : Lexeme = comment_lexeme mode (bogus_comment_slice cs) in
    let other : Lexeme = cond (foreign && begins (codes "[CDATA[") cs) section bogus in
    both whole (begins (codes "--") cs) (comment_lexeme mode (comment_slice (drop 2 cs)))
    (cond (begins_word (codes "doctype") cs) (doctype_lexeme mode (doctype_at (drop 7 cs))) other) tt
    (both whole (begins_word (codes "doctype") cs) (doctype_lexeme mode (doctype_at (drop 7 cs))) other tt
    (both whole (foreign && begins (codes "[CDATA[") cs) section bogus tt tt))

in_markup : (table : References) (foreign : Bool) (mode : Mode) (cs : List ℕ) →
    HasMark cs (markup table foreign mode cs)
in_markup table foreign mode [] = tt
in_markup table foreign mode (c ∷ cs) =
    let bogus : Lexeme = comment_lexeme mode (bogus_comment_slice (c ∷ cs)) in
    let text : Lexeme = one_character mode 60 (c ∷ cs) in
    both (c ∷ cs) (is_letter c) (tag_lexeme (tag_at table StartTag (c ∷ cs)))
    (cond (c == 47) (after_slash table mode cs)
    (cond (c == 33) (declaration foreign mode cs) (cond (c == 63) bogus text))) (in_tag table StartTag (c ∷ cs))
    (both (c ∷ cs) (c == 47) (after_slash table mode cs)
    (cond (c == 33) (declaration foreign mode cs) (cond (c == 63) bogus text))
    (later c cs (after_slash table mode cs) (in_end_tag table mode cs))
    (both (c ∷ cs) (c == 33) (declaration foreign mode cs) (cond (c == 63) bogus text)
    (in_declaration foreign mode (c ∷ cs) cs)
    (both (c ∷ cs) (c == 63) bogus text tt tt)))

in_ordinary : (table : References) (foreign : Bool) (mode : Mode) (c : ℕ) (cs : List ℕ) →
    HasMark (c ∷ cs) (ordinary_lexeme table foreign mode c cs)
in_ordinary table foreign mode c cs =
    let text : Lexeme = emitted (ordinary_item c ∷ []) mode cs in
    both (c ∷ cs) (c == 60) (markup table foreign mode cs)
    (cond (c == 38) (reference_lexeme mode cs (reference table cs)) text)
    (later c cs (markup table foreign mode cs) (in_markup table foreign mode cs))
    (both (c ∷ cs) (c == 38) (reference_lexeme mode cs (reference table cs)) text
    (in_reference (c ∷ cs) mode cs (reference table cs)) tt)

in_raw : (table : References) (raw : RawKind) (mode : Mode) (c : ℕ) (cs : List ℕ) →
    HasMark (c ∷ cs) (raw_lexeme table raw mode c cs)
in_raw table raw mode c cs =
    let end : Lexeme = tag_lexeme (tag_at table EndTag (drop 1 cs)) in
    let text : Lexeme = one_character (in_kind mode (kind_after raw (c ∷ cs))) (shown c) cs in
    both (c ∷ cs) (c == 60 && has_end_tags raw && ends_raw_text mode.last_start_tag cs) end
    (cond (c == 38 && has_references raw) (reference_lexeme mode cs (reference table cs)) text)
    (later c cs end (dropped cs end (in_tag table EndTag (drop 1 cs))))
    (both (c ∷ cs) (c == 38 && has_references raw) (reference_lexeme mode cs (reference table cs)) text
    (in_reference (c ∷ cs) mode cs (reference table cs)) tt)

in_kind_of_text : (table : References) (foreign : Bool) (of : TextKind) (mode : Mode) (c : ℕ) (cs : List ℕ) →
    HasMark (c ∷ cs) (lexeme_in table foreign of mode c cs)
in_kind_of_text table foreign Ordinary mode c cs = in_ordinary table foreign mode c cs
in_kind_of_text table foreign Plain mode c cs = tt
in_kind_of_text table foreign (Raw raw) mode c cs = in_raw table raw mode c cs

in_text : (table : References) (foreign : Bool) (mode : Mode) (cs : List ℕ) → HasMark cs (lexeme table foreign mode cs)
in_text table foreign mode [] = tt
in_text table foreign mode (c ∷ cs) = in_kind_of_text table foreign mode.text mode c cs

at_place : (table : References) (foreign : Bool) (mode : Mode) (place : LexemeState) (cs : List ℕ) →
    HasMark cs (place_lexeme table foreign mode place cs)
at_place table foreign mode Text cs = in_text table foreign mode cs
at_place table foreign mode (CharacterReference place) cs = in_reference cs mode cs (reference table cs)
at_place table foreign mode TagOpen cs = in_markup table foreign mode cs
at_place table foreign mode EndTagOpen cs = in_end_tag table mode cs
at_place table foreign mode (TagPlace kind place) cs = in_tag table kind cs
at_place table foreign mode MarkupDeclarationOpen cs = in_declaration foreign mode cs cs
at_place table foreign mode BogusComment cs = tt
at_place table foreign mode Comment cs = tt
at_place table foreign mode Doctype cs = tt
at_place table foreign mode CdataSection cs = tt
at_place table foreign mode (RawText kind place) cs = in_text table foreign (in_kind mode kind) cs

pub tag_mark : (table : References) (foreign : Bool) (mode : Mode) (place : LexemeState) (cs : List ℕ) (t : Tag)
    (rest : List ℕ) →
    place_lexeme table foreign mode place cs ≡ tagged t rest → (front : List ℕ) × (cs ≡ front ++ greater ∷ rest)
tag_mark table foreign mode place cs t rest e = subst (HasMark cs) e (at_place table foreign mode place cs)
