-- What follows a lexeme is shorter than the text.
use Rattle.std.proofs.Common.{◌<◌, ◌≤◌, ◌==◌, ◌&&◌, ◌||◌, [], ◌∷◌, ◌++◌, Bool, List, None, Option, Some, arith, codes}
use Rattle.std.proofs.Common.{cond, drop, false, length, length-drop, not, suc, true, zero, ℕ}
use Rattle.std.specs.Prelude.{IfSome, option_map, option_and_then}
use Rattle.std.specs.Option.{option_or}
use Rattle.lex_base.specs.References.{References}
use Rattle.html_lexemes.specs.declared.names.Attribute.{Attribute}
use Rattle.html_lexemes.specs.declared.states.RawKind.{RawKind}
use Rattle.html_lexemes.specs.declared.token.Doctype.{Doctype}
use Rattle.html_lexemes.specs.declared.token.Tag.{Tag}
use Rattle.html_lexemes.specs.declared.token.TagKind.{TagKind}
use Rattle.html_lexemes.specs.declared.token.TagKind.TheVariants.{StartTag, EndTag}
use Rattle.std.specs.FinMap as finite
use Rattle.std.specs.List.{list_any}
use Rattle.token_grammar.specs.Characters.{is_digit, is_letter, is_space, name_of, shown}
use Rattle.token_grammar.specs.Comments.{bogus_comment_slice, comment_mark, comment_slice, empty_comment}
use Rattle.token_grammar.specs.Comments.{found_or_ended}
use Rattle.token_grammar.specs.Doctypes.{DoctypeEnd, after_identifier, after_keyword, after_public, after_spaces}
use Rattle.token_grammar.specs.Doctypes.{after_system, doctype_at, ends_here, ends_identifier, identifier, is_quote}
use Rattle.token_grammar.specs.Doctypes.{named_doctype, public_at, skipped, system_at, system_or, with_public}
use Rattle.token_grammar.specs.Doctypes.{with_quirks, with_system}
use Rattle.token_grammar.specs.Items.{error}
use Rattle.token_grammar.specs.Lexemes.{Lexeme, after_slash, cdata_lexeme, comment_lexeme, declaration, doctype_lexeme}
use Rattle.token_grammar.specs.Lexemes.{emitted, ends_raw_text, has_end_tags, has_references, in_kind, kind_after}
use Rattle.token_grammar.specs.Lexemes.{lexeme, lexeme_in, markup, nothing, one_character, ordinary_item}
use Rattle.token_grammar.specs.Lexemes.{ordinary_lexeme, raw_lexeme, reference_lexeme, tag_lexeme, tagged}
use Rattle.token_grammar.specs.References.{Found, after_number_sign, is_x, named, named_from, named_here, numeric}
use Rattle.token_grammar.specs.References.{reference}
use Rattle.token_grammar.specs.Slices.{Cut, after, begins, begins_word, cut, cut_here, cut_or_all, first_passes}
use Rattle.token_grammar.specs.Slices.{front_while, longer, rest_while}
use Rattle.token_grammar.specs.Tags.{TagEnd, after_gap, attribute_at, ends_attribute_name, ends_tag_name, ends_unquoted}
use Rattle.token_grammar.specs.Tags.{ends_with_slash, is_gap, tag_at, tag_end, tag_end_from, tag_of, value_after}
use Rattle.token_grammar.specs.Tags.{with_attribute, without_spaces, written_value}
use Rattle.token_grammar.specs.declared.modes.Mode.{Mode}
use Rattle.token_grammar.specs.declared.modes.TextKind.{TextKind}
use Rattle.token_grammar.specs.declared.modes.TextKind.TheVariants.{Ordinary, Plain, Raw}

-- both branches have a property
both : {X : Type 0} (P : X → Type 0) (b : Bool) (x y : X) → P x → P y → P (cond b x y)
both P true x y p q = p
both P false x y p q = q

-- what is found, if anything, has a property
map_if : {X Y : Type 0} (P : X → Type 0) (Q : Y → Type 0) (f : X → Y) → ((x : X) → P x → Q (f x)) → (o : Option X) →
    IfSome o P → IfSome (option_map f o) Q
map_if P Q f h None p = tt
map_if P Q f h (Some x) p = h x p

then_if : {X Y : Type 0} (P : X → Type 0) (Q : Y → Type 0) (f : X → Option Y) → ((x : X) → P x → IfSome (f x) Q) →
    (o : Option X) → IfSome o P → IfSome (option_and_then f o) Q
then_if P Q f h None p = tt
then_if P Q f h (Some x) p = h x p

or_if : {X : Type 0} (P : X → Type 0) (o q : Option X) → IfSome o P → IfSome q P → IfSome (option_or o q) P
or_if P None q a b = b
or_if P (Some x) q a b = a

weaker_if : {X : Type 0} (P Q : X → Type 0) → ((x : X) → P x → Q x) → (o : Option X) → IfSome o P → IfSome o Q
weaker_if P Q h None p = tt
weaker_if P Q h (Some x) p = h x p

drop_le : (n : ℕ) (cs : List ℕ) → length (drop n cs) ≤ length cs
drop_le n cs = omega (arith, length-drop n cs)

pub rest_while_le : (p : ℕ → Bool) (cs : List ℕ) → length (rest_while p cs) ≤ length cs
rest_while_le p [] = omega arith
rest_while_le p (c ∷ cs) =
    both (λ rest. length rest ≤ length (c ∷ cs)) (p c) (rest_while p cs) (c ∷ cs) (omega (arith, rest_while_le p cs))
    (omega arith)

pub after_le : (mark cs : List ℕ) → IfSome (after mark cs) (λ rest. length rest ≤ length cs)
after_le mark cs =
    both (λ o. IfSome o (λ rest. length rest ≤ length cs)) (begins mark cs) (Some (drop (length mark) cs)) None
    (drop_le (length mark) cs) tt

-- cuts
here_le : (n c : ℕ) (o : Option (List ℕ)) (later : Option Cut) → IfSome o (λ rest. length rest ≤ n) →
    IfSome later (λ cut. length cut.rest ≤ n) → IfSome (cut_here c o later) (λ cut. length cut.rest ≤ n)
here_le n c (Some rest) later p q = p
here_le n c None later p q =
    map_if (λ cut. length cut.rest ≤ n) (λ cut. length cut.rest ≤ n) (longer c) (λ cut h. h) later q

pub cut_le : (mark : List ℕ → Option (List ℕ)) → ((cs : List ℕ) → IfSome (mark cs) (λ rest. length rest ≤ length cs)) →
    (cs : List ℕ) → IfSome (cut mark cs) (λ cut. length cut.rest ≤ length cs)
cut_le mark h [] = tt
cut_le mark h (c ∷ cs) = here_le (length (c ∷ cs)) c (mark (c ∷ cs)) (cut mark cs) (h (c ∷ cs))
    (weaker_if (λ cut. length cut.rest ≤ length cs) (λ cut. length cut.rest ≤ length (c ∷ cs)) (λ cut k. omega arith)
    (cut mark cs) (cut_le mark h cs))

or_all_le : (o : Option Cut) (cs : List ℕ) → IfSome o (λ cut. length cut.rest ≤ length cs) →
    length (cut_or_all o cs).rest ≤ length cs
or_all_le None cs p = omega arith
or_all_le (Some cut) cs p = p

pub cut_or_all_le : (mark cs : List ℕ) → length (cut_or_all (cut (after mark) cs) cs).rest ≤ length cs
cut_or_all_le mark cs = or_all_le (cut (after mark) cs) cs (cut_le (after mark) (after_le mark) cs)

-- comments
mark_le : (cs : List ℕ) → IfSome (comment_mark cs) (λ rest. length rest ≤ length cs)
mark_le cs =
    or_if (λ rest. length rest ≤ length cs) (after (codes "-->") cs) (after (codes "--!>") cs)
    (after_le (codes "-->") cs) (after_le (codes "--!>") cs)

found_le : (o : Option Cut) (cs : List ℕ) → IfSome o (λ cut. length cut.rest ≤ length cs) →
    length (found_or_ended o cs).rest ≤ length cs
found_le None cs p = omega arith
found_le (Some cut) cs p = p

pub comment_le : (cs : List ℕ) → length (comment_slice cs).rest ≤ length cs
comment_le cs =
    let P : Cut → Type 0 = λ cut. length cut.rest ≤ length cs in
    both P (begins (codes ">") cs) (empty_comment (drop 1 cs))
    (cond (begins (codes "->") cs) (empty_comment (drop 2 cs)) (found_or_ended (cut comment_mark cs) cs))
    (drop_le 1 cs)
    (both P (begins (codes "->") cs) (empty_comment (drop 2 cs)) (found_or_ended (cut comment_mark cs) cs)
    (drop_le 2 cs) (found_le (cut comment_mark cs) cs (cut_le comment_mark mark_le cs)))

pub bogus_le : (cs : List ℕ) → length (bogus_comment_slice cs).rest ≤ length cs
bogus_le cs = cut_or_all_le (codes ">") cs

-- doctypes
abbrev Ends : ℕ → DoctypeEnd → Type 0
Ends n end = length end.rest ≤ n

skipped_le : (n : ℕ) (d : Doctype) (cs : List ℕ) → length cs ≤ n → Ends n (skipped d cs)
skipped_le n d cs h = let k = cut_or_all_le (codes ">") cs in omega arith

ends_here_le : (n : ℕ) (d : Doctype) (cs : List ℕ) → length cs ≤ n → Ends n (ends_here d cs)
ends_here_le n d cs h = both (Ends n) (begins (codes ">") cs) (record { doctype = d; rest = drop 1 cs }) (skipped
    (with_quirks d) cs) (let k = drop_le 1 cs in omega arith) (skipped_le n (with_quirks d) cs h)

spaces_le : (n : ℕ) (cs : List ℕ) → length cs ≤ n → length (without_spaces cs) ≤ n
spaces_le n cs h = let k = rest_while_le is_space cs in omega arith

drop_within : (n k : ℕ) (cs : List ℕ) → length cs ≤ n → length (drop k cs) ≤ n
drop_within n k cs h = let l = drop_le k cs in omega arith

after_system_le : (n : ℕ) (d : Doctype) (cs : List ℕ) → length cs ≤ n → Ends n (after_system d cs)
after_system_le n d [] h = omega arith
after_system_le n d (c ∷ cs) h = skipped_le n d (c ∷ cs) h

system_at_le : (n : ℕ) (d : Doctype) (quote : ℕ) (cs : List ℕ) → length cs ≤ n → Ends n (system_at d quote cs)
system_at_le n d quote cs h =
    let l : length (after_identifier quote cs) ≤ n = (let k = rest_while_le (λ c. not (ends_identifier quote c)) cs in omega arith) in
    both (Ends n) (begins (quote ∷ []) (after_identifier quote cs))
    (after_system (with_system d (identifier quote cs)) (without_spaces (drop 1 (after_identifier quote cs))))
    (skipped (with_quirks (with_system d (identifier quote cs))) (after_identifier quote cs))
    (after_system_le n (with_system d (identifier quote cs)) _ (spaces_le n _ (drop_within n 1 _ l)))
    (skipped_le n (with_quirks (with_system d (identifier quote cs))) _ l)

system_or_le : (n : ℕ) (d : Doctype) (otherwise : List ℕ → DoctypeEnd) →
    ((cs : List ℕ) → length cs ≤ n → Ends n (otherwise cs)) → (cs : List ℕ) → length cs ≤ n →
    Ends n (system_or d otherwise cs)
system_or_le n d otherwise f [] h = f [] h
system_or_le n d otherwise f (c ∷ cs) h =
    both (Ends n) (is_quote c) (system_at d c cs) (otherwise (c ∷ cs)) (system_at_le n d c cs (omega arith))
    (f (c ∷ cs) h)

public_at_le : (n : ℕ) (d : Doctype) (quote : ℕ) (cs : List ℕ) → length cs ≤ n → Ends n (public_at d quote cs)
public_at_le n d quote cs h =
    let l : length (after_identifier quote cs) ≤ n = (let k = rest_while_le (λ c. not (ends_identifier quote c)) cs in omega arith) in
    both (Ends n) (begins (quote ∷ []) (after_identifier quote cs))
    (system_or (with_public d (identifier quote cs)) (ends_here (with_public d (identifier quote cs)))
    (without_spaces (drop 1 (after_identifier quote cs))))
    (skipped (with_quirks (with_public d (identifier quote cs))) (after_identifier quote cs))
    (system_or_le n (with_public d (identifier quote cs)) (ends_here (with_public d (identifier quote cs)))
    (λ ds k. ends_here_le n (with_public d (identifier quote cs)) ds k) _ (spaces_le n _ (drop_within n 1 _ l)))
    (skipped_le n (with_quirks (with_public d (identifier quote cs))) _ l)

after_public_le : (n : ℕ) (d : Doctype) (cs : List ℕ) → length cs ≤ n → Ends n (after_public d cs)
after_public_le n d [] h = skipped_le n (with_quirks d) [] h
after_public_le n d (c ∷ cs) h =
    both (Ends n) (is_quote c) (public_at d c cs) (skipped (with_quirks d) (c ∷ cs))
    (public_at_le n d c cs (omega arith)) (skipped_le n (with_quirks d) (c ∷ cs) h)

after_keyword_le : (n : ℕ) (d : Doctype) (cs : List ℕ) → length cs ≤ n → Ends n (after_keyword d cs)
after_keyword_le n d cs h =
    both (Ends n) (begins_word (codes "public") cs) (after_public d (without_spaces (drop 6 cs)))
    (cond (begins_word (codes "system") cs) (system_or d (skipped (with_quirks d)) (without_spaces (drop 6 cs)))
    (ends_here d cs))
    (after_public_le n d _ (spaces_le n _ (drop_within n 6 cs h)))
    (both (Ends n) (begins_word (codes "system") cs)
    (system_or d (skipped (with_quirks d)) (without_spaces (drop 6 cs))) (ends_here d cs)
    (system_or_le n d (skipped (with_quirks d)) (λ ds k. skipped_le n (with_quirks d) ds k) _
    (spaces_le n _ (drop_within n 6 cs h)))
    (ends_here_le n d cs h))

after_spaces_le : (n : ℕ) (cs : List ℕ) → length cs ≤ n → Ends n (after_spaces cs)
after_spaces_le n cs h =
    both (Ends n) (length (front_while (λ c. not (ends_unquoted c)) cs) == 0)
    (skipped (with_quirks (named_doctype None)) cs)
    (after_keyword (named_doctype (Some (name_of (front_while (λ c. not (ends_unquoted c)) cs))))
    (without_spaces (rest_while (λ c. not (ends_unquoted c)) cs)))
    (skipped_le n (with_quirks (named_doctype None)) cs h)
    (after_keyword_le n (named_doctype (Some (name_of (front_while (λ c. not (ends_unquoted c)) cs)))) _ (spaces_le n (rest_while (λ c. not (ends_unquoted c)) cs) (let k = rest_while_le (λ c. not (ends_unquoted c)) cs in omega arith)))

pub doctype_le : (cs : List ℕ) → length (doctype_at cs).rest ≤ length cs
doctype_le cs = after_spaces_le (length cs) (without_spaces cs) (spaces_le (length cs) cs (omega arith))

-- references
here_found_le : (table : References) (front rest : List ℕ) (o : Option (List ℕ)) →
    IfSome (option_map (λ value. record { characters = value; closed = list_any (λ c. c == 59) front; rest = rest }) o)
    (λ (found : Found). length found.rest ≤ length rest)
here_found_le table front rest None = tt
here_found_le table front rest (Some v) = omega arith

named_le : (table : References) (front cs : List ℕ) →
    IfSome (named_from table front cs) (λ found. length found.rest ≤ length cs)
named_le table front [] = here_found_le table front [] (finite.get table front)
named_le table front (c ∷ cs) =
    or_if (λ found. length found.rest ≤ length (c ∷ cs)) (named_from table (front ++ c ∷ []) cs)
    (named_here table front (c ∷ cs))
    (weaker_if (λ found. length found.rest ≤ length cs) (λ found. length found.rest ≤ length (c ∷ cs))
    (λ found h. omega arith) _ (named_le table (front ++ c ∷ []) cs))
    (here_found_le table front (c ∷ cs) (finite.get table front))

numeric_le : (base : ℕ) (cs : List ℕ) → IfSome (numeric base cs) (λ found. length found.rest ≤ length cs)
numeric_le base cs =
    let r : List ℕ = rest_while (is_digit base) cs in
    let l = rest_while_le (is_digit base) cs in
    both (λ o. IfSome o (λ (found : Found). length found.rest ≤ length cs))
    (length (front_while (is_digit base) cs) == 0) None _ tt
    (both (λ (x : List ℕ). length x ≤ length cs) (begins (59 ∷ []) (rest_while (is_digit base) cs))
    (drop 1 (rest_while (is_digit base) cs)) (rest_while (is_digit base) cs) (drop_within (length cs) 1 _ l) l)

pub reference_le : (table : References) (cs : List ℕ) →
    IfSome (reference table cs) (λ found. length found.rest ≤ length cs)
reference_le table cs =
    let P : Option Found → Type 0 = λ o. IfSome o (λ found. length found.rest ≤ length cs) in
    both P (begins (35 ∷ []) cs) (after_number_sign (drop 1 cs)) (named table cs)
    (both P (first_passes is_x (drop 1 cs)) (numeric 16 (drop 1 (drop 1 cs))) (numeric 10 (drop 1 cs))
    (weaker_if (λ found. length found.rest ≤ length (drop 1 (drop 1 cs))) (λ found. length found.rest ≤ length cs) (λ found h. let k = drop_le 1 (drop 1 cs) in let l = drop_le 1 cs in omega arith) _ (numeric_le 16 (drop 1 (drop 1 cs))))
    (weaker_if (λ found. length found.rest ≤ length (drop 1 cs)) (λ found. length found.rest ≤ length cs)
    (λ found h. let l = drop_le 1 cs in omega arith) _ (numeric_le 10 (drop 1 cs))))
    (named_le table [] cs)

-- tags
abbrev CutWithin : ℕ → Cut → Type 0
CutWithin n cut = length cut.rest ≤ n

written_le : (n : ℕ) (cs : List ℕ) → length cs ≤ n → IfSome (written_value cs) (CutWithin n)
written_le n [] h = omega arith
written_le n (c ∷ cs) h = both (λ o. IfSome o (CutWithin n)) (c == 34 || c == 39) (cut (after (c ∷ [])) cs)
    (Some (record {
      slice = front_while (λ d. not (ends_unquoted d)) (c ∷ cs);
      rest = rest_while (λ d. not (ends_unquoted d)) (c ∷ cs);
    }))
    (weaker_if (λ cut. length cut.rest ≤ length cs) (CutWithin n) (λ cut k. omega arith) (cut (after (c ∷ [])) cs)
    (cut_le (after (c ∷ [])) (after_le (c ∷ [])) cs))
    (let k = rest_while_le (λ d. not (ends_unquoted d)) (c ∷ cs) in omega arith)

value_after_le : (n : ℕ) (cs : List ℕ) → length cs ≤ n → IfSome (value_after cs) (CutWithin n)
value_after_le n cs h =
    both (λ o. IfSome o (CutWithin n)) (begins (61 ∷ []) (without_spaces cs))
    (written_value (without_spaces (drop 1 (without_spaces cs)))) (Some (record { slice = []; rest = cs }))
    (written_le n _ (spaces_le n _ (drop_within n 1 _ (spaces_le n cs h)))) h

abbrev AttributeWithin : ℕ → Attribute × List ℕ → Type 0
AttributeWithin n read = length read.1 ≤ n

attribute_le : (table : References) (n c : ℕ) (cs : List ℕ) → length cs ≤ n →
    IfSome (attribute_at table c cs) (AttributeWithin n)
attribute_le table n c cs h =
    map_if (CutWithin n) (AttributeWithin n) _ (λ cut k. k)
    (value_after (rest_while (λ d. not (ends_attribute_name d)) cs))
    (value_after_le n (rest_while (λ d. not (ends_attribute_name d)) cs)
    (let k = rest_while_le (λ d. not (ends_attribute_name d)) cs in omega arith))

abbrev EndWithin : ℕ → TagEnd → Type 0
EndWithin n end = length end.rest ≤ n

after_gap_le : (table : References) (n : ℕ) (closes : Bool) (further : List ℕ → Option TagEnd) →
    ((cs : List ℕ) → length cs ≤ n → IfSome (further cs) (EndWithin n)) → (cs : List ℕ) → length cs ≤ n →
    IfSome (after_gap table closes cs further) (EndWithin n)
after_gap_le table n closes further f [] h = tt
after_gap_le table n closes further f (c ∷ cs) h =
    both (λ o. IfSome o (EndWithin n)) (c == 62) (Some (record { attributes = []; self_closing = closes; rest = cs }))
    (option_and_then (λ read. option_map (with_attribute read.0) (further read.1)) (attribute_at table c cs))
    (let k : length cs ≤ n = omega arith in k)
    (then_if (AttributeWithin n) (EndWithin n) (λ read. option_map (with_attribute read.0) (further read.1))
    (λ read k. map_if (EndWithin n) (EndWithin n) (with_attribute read.0) (λ end e. e) (further read.1)
    (f read.1 k)) (attribute_at table c cs)
    (attribute_le table n c cs (omega arith)))

tag_end_le : (table : References) (k n : ℕ) (cs : List ℕ) → length cs ≤ n →
    IfSome (tag_end_from table k cs) (EndWithin n)
tag_end_le table zero n cs h = tt
tag_end_le table (suc k) n cs h = after_gap_le table n (ends_with_slash (front_while is_gap cs)) (tag_end_from table k) (λ ds l. tag_end_le table k n ds l) (rest_while is_gap cs) (let l = rest_while_le is_gap cs in omega arith)

abbrev TagWithin : ℕ → Tag × List ℕ → Type 0
TagWithin n read = length read.1 ≤ n

pub tag_le : (table : References) (kind : TagKind) (cs : List ℕ) →
    IfSome (tag_at table kind cs) (λ read. length read.1 ≤ length cs)
tag_le table kind cs =
    map_if (EndWithin (length cs)) (TagWithin (length cs))
    (λ end. (tag_of kind (front_while (λ c. not (ends_tag_name c)) cs) end, end.rest)) (λ end e. e)
    (tag_end table (rest_while (λ c. not (ends_tag_name c)) cs))
    (tag_end_le table (suc (length (rest_while (λ c. not (ends_tag_name c)) cs))) (length cs) _
    (rest_while_le (λ c. not (ends_tag_name c)) cs))

-- lexemes
abbrev pub After : ℕ → Lexeme → Type 0
After n nothing = Unit {0}
After n (emitted items mode rest) = length rest < n
After n (tagged t rest) = length rest < n

tag_after : (n : ℕ) (o : Option (Tag × List ℕ)) → IfSome o (λ read. length read.1 < n) → After n (tag_lexeme o)
tag_after n None h = tt
tag_after n (Some read) h = h

reference_after : (n : ℕ) (mode : Mode) (cs : List ℕ) (o : Option Found) → length cs < n →
    IfSome o (λ found. length found.rest ≤ length cs) → After n (reference_lexeme mode cs o)
reference_after n mode cs None l h = l
reference_after n mode cs (Some found) l h = omega arith

tag_lexeme_after : (table : References) (n : ℕ) (kind : TagKind) (cs : List ℕ) → length cs < n →
    After n (tag_lexeme (tag_at table kind cs))
tag_lexeme_after table n kind cs h =
    tag_after n (tag_at table kind cs) (weaker_if (λ read. length read.1 ≤ length cs) (λ read. length read.1 < n)
    (λ read k. omega arith) (tag_at table kind cs) (tag_le table kind cs))

comment_after : (n : ℕ) (mode : Mode) (cut : Cut) → length cut.rest < n → After n (comment_lexeme mode cut)
comment_after n mode cut h = h

slash_after : (table : References) (n : ℕ) (mode : Mode) (cs : List ℕ) → suc (length cs) < n →
    After n (after_slash table mode cs)
slash_after table n mode [] h = omega arith
slash_after table n mode (c ∷ cs) h =
    both (After n) (is_letter c) (tag_lexeme (tag_at table EndTag (c ∷ cs)))
    (cond (c == 62) (emitted (error ∷ []) mode cs) (comment_lexeme mode (bogus_comment_slice (c ∷ cs))))
    (tag_lexeme_after table n EndTag (c ∷ cs) (omega arith))
    (both (After n) (c == 62) (emitted (error ∷ []) mode cs) (comment_lexeme mode (bogus_comment_slice (c ∷ cs)))
    (let k : length cs < n = omega arith in k) (let k = bogus_le (c ∷ cs) in omega arith))

declaration_after : (n : ℕ) (foreign : Bool) (mode : Mode) (cs : List ℕ) → length cs < n →
    After n (declaration foreign mode cs)
declaration_after n foreign mode cs h =
    both (After n) (begins (codes "--") cs) (comment_lexeme mode (comment_slice (drop 2 cs)))
    (cond (begins_word (codes "doctype") cs) (doctype_lexeme mode (doctype_at (drop 7 cs)))
    (cond (foreign && begins (codes "[CDATA[") cs)
    (cdata_lexeme mode (cut_or_all (cut (after (codes "]]>")) (drop 7 cs)) (drop 7 cs)))
    (comment_lexeme mode (bogus_comment_slice cs))))
    (let k = comment_le (drop 2 cs) in let l = drop_le 2 cs in omega arith)
    (both (After n) (begins_word (codes "doctype") cs) (doctype_lexeme mode (doctype_at (drop 7 cs)))
    (cond (foreign && begins (codes "[CDATA[") cs)
    (cdata_lexeme mode (cut_or_all (cut (after (codes "]]>")) (drop 7 cs)) (drop 7 cs)))
    (comment_lexeme mode (bogus_comment_slice cs)))
    (let k = doctype_le (drop 7 cs) in let l = drop_le 7 cs in omega arith)
    (both (After n) (foreign && begins (codes "[CDATA[") cs)
    (cdata_lexeme mode (cut_or_all (cut (after (codes "]]>")) (drop 7 cs)) (drop 7 cs)))
    (comment_lexeme mode (bogus_comment_slice cs))
    (let k = cut_or_all_le (codes "]]>") (drop 7 cs) in let l = drop_le 7 cs in omega arith)
    (let k = bogus_le cs in omega arith)))

markup_after : (table : References) (n : ℕ) (foreign : Bool) (mode : Mode) (cs : List ℕ) → length cs < n →
    After n (markup table foreign mode cs)
markup_after table n foreign mode [] h = h
markup_after table n foreign mode (c ∷ cs) h =
    both (After n) (is_letter c) (tag_lexeme (tag_at table StartTag (c ∷ cs)))
    (cond (c == 47) (after_slash table mode cs)
    (cond (c == 33) (declaration foreign mode cs)
    (cond (c == 63) (comment_lexeme mode (bogus_comment_slice (c ∷ cs))) (one_character mode 60 (c ∷ cs)))))
    (tag_lexeme_after table n StartTag (c ∷ cs) h)
    (both (After n) (c == 47) (after_slash table mode cs)
    (cond (c == 33) (declaration foreign mode cs)
    (cond (c == 63) (comment_lexeme mode (bogus_comment_slice (c ∷ cs))) (one_character mode 60 (c ∷ cs))))
    (slash_after table n mode cs (omega arith))
    (both (After n) (c == 33) (declaration foreign mode cs)
    (cond (c == 63) (comment_lexeme mode (bogus_comment_slice (c ∷ cs))) (one_character mode 60 (c ∷ cs)))
    (declaration_after n foreign mode cs (omega arith))
    (both (After n) (c == 63) (comment_lexeme mode (bogus_comment_slice (c ∷ cs))) (one_character mode 60 (c ∷ cs))
    (let k = bogus_le (c ∷ cs) in omega arith) h)))

ordinary_after : (table : References) (n : ℕ) (foreign : Bool) (mode : Mode) (c : ℕ) (cs : List ℕ) → length cs < n →
    After n (ordinary_lexeme table foreign mode c cs)
ordinary_after table n foreign mode c cs h =
    both (After n) (c == 60) (markup table foreign mode cs)
    (cond (c == 38) (reference_lexeme mode cs (reference table cs)) (emitted (ordinary_item c ∷ []) mode cs))
    (markup_after table n foreign mode cs h)
    (both (After n) (c == 38) (reference_lexeme mode cs (reference table cs)) (emitted (ordinary_item c ∷ []) mode cs)
    (reference_after n mode cs (reference table cs) h (reference_le table cs)) h)

raw_after : (table : References) (n : ℕ) (kind : RawKind) (mode : Mode) (c : ℕ) (cs : List ℕ) → length cs < n →
    After n (raw_lexeme table kind mode c cs)
raw_after table n kind mode c cs h =
    both (After n) (c == 60 && has_end_tags kind && ends_raw_text mode.last_start_tag cs)
    (tag_lexeme (tag_at table EndTag (drop 1 cs)))
    (cond (c == 38 && has_references kind) (reference_lexeme mode cs (reference table cs))
    (one_character (in_kind mode (kind_after kind (c ∷ cs))) (shown c) cs))
    (tag_lexeme_after table n EndTag (drop 1 cs) (let k = drop_le 1 cs in omega arith))
    (both (After n) (c == 38 && has_references kind) (reference_lexeme mode cs (reference table cs))
    (one_character (in_kind mode (kind_after kind (c ∷ cs))) (shown c) cs)
    (reference_after n mode cs (reference table cs) h (reference_le table cs)) h)

in_after : (table : References) (n : ℕ) (foreign : Bool) (kind : TextKind) (mode : Mode) (c : ℕ) (cs : List ℕ) →
    length cs < n → After n (lexeme_in table foreign kind mode c cs)
in_after table n foreign Ordinary mode c cs h = ordinary_after table n foreign mode c cs h
in_after table n foreign Plain mode c cs h = h
in_after table n foreign (Raw kind) mode c cs h = raw_after table n kind mode c cs h

pub shorter : (table : References) (foreign : Bool) (mode : Mode) (cs : List ℕ) →
    After (length cs) (lexeme table foreign mode cs)
shorter table foreign mode [] = tt
shorter table foreign mode (c ∷ cs) = in_after table (length (c ∷ cs)) foreign mode.text mode c cs (omega arith)
