-- What the reader of lexemes asks of marks and words.
use Rattle.std.proofs.Common.{◌≡◌, ◌&&◌, ◌==◌, [], ◌∷◌, ◌∙◌, Bool, Err, IfOk, List, None, Ok, Option, Result, Some, ap}
use Rattle.std.proofs.Common.{ap₂, codes, drop, false, length, refl, sym, true, ℕ}
use Rattle.std.specs.Prelude.{is_some, option_map, if◌then◌else◌}
use Rattle.std.specs.Str.{chars}
use Rattle.html_lexemes.specs.declared.states.RawKind.TheVariants.{ScriptData, ScriptDataEscaped}
use Rattle.html_lexemes.specs.declared.states.ScriptEscapeKind.{ScriptEscapeKind}
use Rattle.html_lexemes.specs.declared.states.ScriptEscapeKind.TheVariants.{Escaped, DoubleEscaped}
use Rattle.token_grammar.specs.Comments.{bogus_comment_slice, comment_slice}
use Rattle.token_grammar.specs.Doctypes.{doctype_at}
use Rattle.token_grammar.specs.Lexemes.{begins_tag, cdata_lexeme, comment_lexeme, declaration, doctype_lexeme, emitted}
use Rattle.token_grammar.specs.Lexemes.{ends_raw_text, has_end_tags, has_references, kind_after, named_end_tag}
use Rattle.token_grammar.specs.Lexemes.{raw_lexeme, reference_lexeme, tag_lexeme}
use Rattle.token_grammar.specs.Slices.{after, after_word, begins, begins_word, cut, cut_or_all, front_while, rest_while}
use Rattle.token_grammar.specs.Tags.{tag_at}
use Rattle.token_grammar.specs.References.{reference}
use Rattle.token_grammar.specs.Characters.{is_letter, shown}
use Rattle.token_grammar.specs.Items.{characters}
use Rattle.token_grammar.specs.declared.modes.TextKind.TheVariants.{Raw}
use Rattle.lex_base.specs.References.{References}
use Rattle.html_lexemes.specs.declared.token.TagKind.TheVariants.{EndTag}
use Rattle.html_lexemes.specs.declared.states.RawKind.{RawKind}
use Rattle.token_grammar.specs.declared.modes.Mode.{Mode}

map_some : {X Y : Type 0} (f : X → Y) (o : Option X) → is_some (option_map f o) ≡ is_some o
map_some f None = refl
map_some f (Some x) = refl

tested : (b : Bool) (cs : List ℕ) → is_some (if b then Some cs else None) ≡ b
tested true cs = refl
tested false cs = refl

pub some_after : {X : Type 0} (f : X → List ℕ) (o : Option X) (mark cs : List ℕ) → option_map f o ≡ after mark cs →
    is_some o ≡ begins mark cs
some_after f o mark cs e = sym (map_some f o) ∙ (ap is_some e ∙ tested (begins mark cs) (drop (length mark) cs))

-- texts of the program, as code points
pub open_comment : chars (codes "<!--") ≡ codes "<!--"
unfolding chars
open_comment = refl

pub close_comment : chars (codes "-->") ≡ codes "-->"
unfolding chars
close_comment = refl

pub dashes : chars (codes "--") ≡ codes "--"
unfolding chars
dashes = refl

pub doctype_word : chars (codes "doctype") ≡ codes "doctype"
unfolding chars
doctype_word = refl

pub section_mark : chars (codes "[CDATA[") ≡ codes "[CDATA["
unfolding chars
section_mark = refl

pub section_end : chars (codes "]]>") ≡ codes "]]>"
unfolding chars
section_end = refl

pub script_word : chars (codes "<script") ≡ codes "<script"
unfolding chars
script_word = refl

pub end_script_word : chars (codes "</script") ≡ codes "</script"
unfolding chars
end_script_word = refl

pub slash_mark : chars (codes "/") ≡ codes "/"
unfolding chars
slash_mark = refl

pub chosen_true : {X : Type 0} (b : Bool) (x y : X) → b ≡ true → x ≡ (if b then x else y)
chosen_true b x y e = ap (λ c. if c then x else y) (sym e)

pub chosen_false : {X : Type 0} (b : Bool) (x y : X) → b ≡ false → y ≡ (if b then x else y)
chosen_false b x y e = ap (λ c. if c then x else y) (sym e)

-- the kind of the text after a character of script data
pub opened : (cs : List ℕ) → begins (codes "<!--") cs ≡ true → ScriptDataEscaped Escaped ≡ kind_after ScriptData cs
opened cs e = chosen_true (begins (codes "<!--") cs) (ScriptDataEscaped Escaped) ScriptData e

pub not_opened : (cs : List ℕ) → begins (codes "<!--") cs ≡ false → ScriptData ≡ kind_after ScriptData cs
not_opened cs e = chosen_false (begins (codes "<!--") cs) (ScriptDataEscaped Escaped) ScriptData e

pub closed : (escape : ScriptEscapeKind) (cs : List ℕ) → begins (codes "-->") cs ≡ true →
    ScriptData ≡ kind_after (ScriptDataEscaped escape) cs
closed Escaped cs e = chosen_true (begins (codes "-->") cs) ScriptData _ e
closed DoubleEscaped cs e = chosen_true (begins (codes "-->") cs) ScriptData _ e

pub doubled : (cs : List ℕ) (b : Bool) → begins (codes "-->") cs ≡ false → begins_tag (codes "<script") cs ≡ b →
    (if b then ScriptDataEscaped DoubleEscaped else ScriptDataEscaped Escaped)
    ≡ kind_after (ScriptDataEscaped Escaped) cs
doubled cs b e f = ap (λ t. if t then ScriptDataEscaped DoubleEscaped
    else ScriptDataEscaped Escaped) (sym f) ∙ chosen_false (begins (codes "-->") cs) ScriptData _ e

pub undoubled : (cs : List ℕ) (b : Bool) → begins (codes "-->") cs ≡ false → begins_tag (codes "</script") cs ≡ b →
    (if b then ScriptDataEscaped Escaped else ScriptDataEscaped DoubleEscaped)
    ≡ kind_after (ScriptDataEscaped DoubleEscaped) cs
undoubled cs b e f = ap (λ t. if t then ScriptDataEscaped Escaped
    else ScriptDataEscaped DoubleEscaped) (sym f) ∙ chosen_false (begins (codes "-->") cs) ScriptData _ e

-- what a search for a mark says
some_if : (b : Bool) (x rest : List ℕ) → Some rest ≡ (if b then Some x else None) → (b ≡ true) × (rest ≡ x)
some_if true x rest e = (refl, cc)
some_if false x rest e = absurd cc

none_if : (b : Bool) (x : List ℕ) → None ≡ (if b then Some x else None) → b ≡ false
none_if true x e = absurd cc
none_if false x e = refl

pub mark_found : (mark cs rest : List ℕ) → Some rest ≡ after mark cs → (begins mark cs ≡ true)
    × (rest ≡ drop (length mark) cs)
mark_found mark cs rest e = some_if (begins mark cs) (drop (length mark) cs) rest e

pub no_mark : (mark cs : List ℕ) → None ≡ after mark cs → begins mark cs ≡ false
no_mark mark cs e = none_if (begins mark cs) (drop (length mark) cs) e

pub word_found : (word cs rest : List ℕ) → Some rest ≡ after_word word cs → (begins_word word cs ≡ true)
    × (rest ≡ drop (length word) cs)
word_found word cs rest e = some_if (begins_word word cs) (drop (length word) cs) rest e

pub no_word : (word cs : List ℕ) → None ≡ after_word word cs → begins_word word cs ≡ false
no_word word cs e = none_if (begins_word word cs) (drop (length word) cs) e

-- what stands after `<!`
pub declared_comment : (foreign : Bool) (mode : Mode) (cs rest : List ℕ) → Some rest ≡ after (codes "--") cs →
    comment_lexeme mode (comment_slice rest) ≡ declaration foreign mode cs
declared_comment foreign mode cs rest e =
    let f = mark_found (codes "--") cs rest e in
    ap (λ l. comment_lexeme mode (comment_slice l)) f.1 ∙ chosen_true (begins (codes "--") cs) _ _ f.0

pub declared_doctype : (foreign : Bool) (mode : Mode) (cs rest : List ℕ) → None ≡ after (codes "--") cs →
    Some rest ≡ after_word (codes "doctype") cs → doctype_lexeme mode (doctype_at rest) ≡ declaration foreign mode cs
declared_doctype foreign mode cs rest n e =
    let f = word_found (codes "doctype") cs rest e in
    ap (λ l. doctype_lexeme mode (doctype_at l)) f.1
    ∙ (chosen_true (begins_word (codes "doctype") cs) _ _ f.0 ∙ chosen_false (begins (codes "--") cs) _ _
    (no_mark (codes "--") cs n))

abbrev pub section_found : Bool → List ℕ → Option (List ℕ)
section_found foreign cs = if foreign && begins (codes "[CDATA[") cs then Some (drop 7 cs) else None

pub declared_section : (foreign : Bool) (mode : Mode) (cs rest : List ℕ) → None ≡ after (codes "--") cs →
    None ≡ after_word (codes "doctype") cs → Some rest ≡ section_found foreign cs →
    cdata_lexeme mode (cut_or_all (cut (after (codes "]]>")) rest) rest) ≡ declaration foreign mode cs
declared_section foreign mode cs rest n w e =
    let f = some_if (foreign && begins (codes "[CDATA[") cs) (drop 7 cs) rest e in
    ap (λ l. cdata_lexeme mode (cut_or_all (cut (after (codes "]]>")) l) l)) f.1
    ∙ (chosen_true (foreign && begins (codes "[CDATA[") cs) _ _ f.0
    ∙ (chosen_false (begins_word (codes "doctype") cs) _ _ (no_word (codes "doctype") cs w) ∙
    chosen_false (begins (codes "--") cs) _ _ (no_mark (codes "--") cs n)))

pub declared_other : (foreign : Bool) (mode : Mode) (cs : List ℕ) → None ≡ after (codes "--") cs →
    None ≡ after_word (codes "doctype") cs → None ≡ section_found foreign cs →
    comment_lexeme mode (bogus_comment_slice cs) ≡ declaration foreign mode cs
declared_other foreign mode cs n w e =
    chosen_false (foreign && begins (codes "[CDATA[") cs) _ _
    (none_if (foreign && begins (codes "[CDATA[") cs) (drop 7 cs) e)
    ∙ (chosen_false (begins_word (codes "doctype") cs) _ _ (no_word (codes "doctype") cs w) ∙
    chosen_false (begins (codes "--") cs) _ _ (no_mark (codes "--") cs n))

pub ok_weaker : {X E : Type 0} (P Q : X → Type 0) → ((x : X) → P x → Q x) → (r : Result X E) → IfOk r P → IfOk r Q
ok_weaker P Q h (Ok x) p = h x p
ok_weaker P Q h (Err e) p = tt

-- the end tag of an element's text
abbrev pub end_tag_found : RawKind → Option (List ℕ) → ℕ → List ℕ → Option (List ℕ)
end_tag_found kind last c cs = if c == 60 && has_end_tags kind && ends_raw_text last cs then Some (drop 1 cs) else None

abbrev letters_of : List ℕ → List ℕ
letters_of cs = front_while is_letter cs

and_false : (a b : Bool) → b ≡ false → (a && b) ≡ false
and_false true b e = e
and_false false b e = refl

and_true : (a b : Bool) → a ≡ true → b ≡ true → (a && b) ≡ true
and_true a b p q = ap₂ (λ x y. x && y) p q

pub no_slash : (kind : RawKind) (last : Option (List ℕ)) (c : ℕ) (cs : List ℕ) → None ≡ after (codes "/") cs →
    None ≡ end_tag_found kind last c cs
no_slash kind last c cs e = chosen_false (c == 60 && has_end_tags kind && ends_raw_text last cs) (Some (drop 1 cs)) None
    (and_false (c == 60 && has_end_tags kind) (ends_raw_text last cs)
    (ap (λ b. b && named_end_tag last (front_while is_letter (drop 1 cs)) (rest_while is_letter (drop 1 cs)))
    (no_mark (codes "/") cs e)))

pub other_name : (kind : RawKind) (last : Option (List ℕ)) (c : ℕ) (cs name : List ℕ) →
    Some name ≡ after (codes "/") cs → named_end_tag last (front_while is_letter name) (rest_while is_letter name)
    ≡ false → None ≡ end_tag_found kind last c cs
other_name kind last c cs name e h =
    let f = mark_found (codes "/") cs name e in
    chosen_false (c == 60 && has_end_tags kind && ends_raw_text last cs) (Some (drop 1 cs)) None
    (and_false (c == 60 && has_end_tags kind) (ends_raw_text last cs)
    (and_false (begins (codes "/") cs) _
    (ap (λ n. named_end_tag last (front_while is_letter n) (rest_while is_letter n)) (sym f.1) ∙ h)))

pub last_name : (kind : RawKind) (last : Option (List ℕ)) (c : ℕ) (cs name : List ℕ) → (c == 60) ≡ true →
    has_end_tags kind ≡ true → Some name ≡ after (codes "/") cs →
    named_end_tag last (front_while is_letter name) (rest_while is_letter name) ≡ true →
    Some name ≡ end_tag_found kind last c cs
last_name kind last c cs name l k e h =
    let f = mark_found (codes "/") cs name e in
    ap (λ n. Some n) f.1 ∙ chosen_true (c == 60 && has_end_tags kind && ends_raw_text last cs) (Some (drop 1 cs)) None
    (and_true (c == 60 && has_end_tags kind) (ends_raw_text last cs) (and_true (c == 60) (has_end_tags kind) l k)
    (and_true (begins (codes "/") cs) _ f.0
    (ap (λ n. named_end_tag last (front_while is_letter n) (rest_while is_letter n)) (sym f.1) ∙ h)))

pub raw_end : (table : References) (kind : RawKind) (mode : Mode) (c : ℕ) (cs name : List ℕ) →
    Some name ≡ end_tag_found kind mode.last_start_tag c cs → tag_lexeme (tag_at table EndTag name)
    ≡ raw_lexeme table kind mode c cs
raw_end table kind mode c cs name e =
    let f = some_if (c == 60 && has_end_tags kind && ends_raw_text mode.last_start_tag cs) (drop 1 cs) name e in
    ap (λ n. tag_lexeme (tag_at table EndTag n)) f.1 ∙
    chosen_true (c == 60 && has_end_tags kind && ends_raw_text mode.last_start_tag cs) _ _ f.0

pub raw_reference : (table : References) (kind : RawKind) (mode : Mode) (c : ℕ) (cs : List ℕ) →
    None ≡ end_tag_found kind mode.last_start_tag c cs → (c == 38 && has_references kind) ≡ true →
    reference_lexeme mode cs (reference table cs) ≡ raw_lexeme table kind mode c cs
raw_reference table kind mode c cs e h =
    chosen_true (c == 38 && has_references kind) _ _ h ∙
    chosen_false (c == 60 && has_end_tags kind && ends_raw_text mode.last_start_tag cs) _ _
    (none_if (c == 60 && has_end_tags kind && ends_raw_text mode.last_start_tag cs) (drop 1 cs) e)

pub raw_character : (table : References) (kind : RawKind) (mode : Mode) (c : ℕ) (cs : List ℕ) →
    None ≡ end_tag_found kind mode.last_start_tag c cs → (c == 38 && has_references kind) ≡ false →
    emitted (characters (shown c ∷ []) ∷ []) (record mode { text = Raw (kind_after kind (c ∷ cs)) }) cs
    ≡ raw_lexeme table kind mode c cs
raw_character table kind mode c cs e h =
    chosen_false (c == 38 && has_references kind) _ _ h ∙
    chosen_false (c == 60 && has_end_tags kind && ends_raw_text mode.last_start_tag cs) _ _
    (none_if (c == 60 && has_end_tags kind && ends_raw_text mode.last_start_tag cs) (drop 1 cs) e)

pub section_if : (foreign : Bool) (cs : List ℕ) (o : Option (List ℕ)) → foreign ≡ true →
    o ≡ after (codes "[CDATA[") cs → o ≡ section_found foreign cs
section_if true cs o f e = e
section_if false cs o f e = absurd cc
