-- What a JSON text gives, member by member and number by number.
use Rattle.std.proofs.Common.{◌≡◌, ◌≢◌, ◌+◌, ◌<◌, ◌≤◌, [], ◌∷◌, ◌++◌, ◌∙◌, ◌&&◌, ◌||◌, ◌⊎◌, Bool, Err, IsUtf8, List}
use Rattle.std.proofs.Common.{None, Ok, Option, Result, Some, String, ap, append-nil, append_assoc, arith, chars, cond}
use Rattle.std.proofs.Common.{drop, encode_utf8, encode_utf8_all, eqb, false, get_or, leb, length, ltb, option_and_then}
use Rattle.std.proofs.Common.{option_map, refl, reverse, string_bytes, suc, sym, true, ℕ}
use Rattle.std.specs.Char.{IsScalar}
use Rattle.std.proofs.lemmas.Bool.{eqb-true, leb-true, le-leb, lt-ltb, and_parts, and_from}
use Rattle.std.proofs.lemmas.Option.{same_Some}
use Rattle.std.proofs.Math.Utf8.{low_scalar}
use mathlib.Core.Logic.{inl, inr}
use Rattle.std.proofs.lemmas.Bool.Decides.{nat_tests}
use Rattle.std.proofs.lemmas.List.{reverse-append, drop_more, drop_all}
use Rattle.std.proofs.lemmas.Str.{chars-append, chars_past_char, encodes-chars, chars-nil, IsUtf8-encode}
use Rattle.std.specs.List.{list_all}
use Rattle.std.specs.FinMap as finite
use Rattle.serde_json.specs.Data.{Data, Items, no_items, item, Members, member}
use Rattle.serde_json.specs.Find.{as_number, as_u64, as_object}
use Rattle.serde_json.specs.Read.{read}
use Rattle.std.specs.declared.alloc.Global.{Global}
use Rattle.serde_json.specs.View.{view, items_view, members_view}
use Rattle.serde_json.specs.declared.value.Value.{Value}
use Rattle.lex_base.specs.declared.table_error.TableError.{TableError}
use Rattle.lex_base.specs.References.{Reference, References, is_between, is_name, is_shown, references, result_then}
use Rattle.lex_base.specs.Json.{found_or, name_in, references_in, table_of_json, value_if, value_in, whole_numbers}
use Rattle.lex_base.specs.declared.table_error.TableError.TheVariants.{BadCodePoints, BadName, Memory, NotAnObject}
use Rattle.lex_base.specs.declared.table_error.TableError.TheVariants.{NotJson}
use Rattle.lex_base.specs.Shown.{shown_if}

-- ---- keys

no_name_at : (is_ampersand : Bool) (c : ℕ) (cs : List ℕ) → eqb c 38 ≡ is_ampersand → (c ≢ 38) → name_in (c ∷ cs) ≡ None
no_name_at true c cs e other = absurd (other (eqb-true c 38 e))
no_name_at false c cs e other = rw e refl

no_name_among : (cs bs : List ℕ) → encode_utf8_all cs ≡ bs → ((rest : List ℕ) → bs ≢ encode_utf8 38 ++ rest) →
    name_in cs ≡ None
no_name_among [] bs e other = refl
no_name_among (c ∷ cs) bs e other =
    no_name_at (eqb c 38) c cs refl (λ is. other (encode_utf8_all cs) (sym e ∙ ap (λ d. encode_utf8_all (d ∷ cs)) is))

-- a key that doesn't begin with `&`
pub no_name : (bs : List ℕ) → IsUtf8 bs → ((rest : List ℕ) → bs ≢ encode_utf8 38 ++ rest) → None ≡ name_in (chars bs)
no_name bs text other = sym (no_name_among (chars bs) bs (encodes-chars bs text) other)

-- a key that does
pub name_after : (bs rest : List ℕ) (b : Bool) → IsUtf8 bs → bs ≡ encode_utf8 38 ++ rest → b ≡ is_name (chars rest) →
    cond b (Some (chars rest)) None ≡ name_in (chars bs)
name_after bs rest b text e is =
    ap (λ t. cond t (Some (chars rest)) None) is ∙ sym (ap name_in (chars_past_char bs rest 38 text e))

-- ---- numbers

abbrev pub character : Data → Option ℕ
character d = option_and_then shown_if (option_and_then as_u64 (as_number d))

-- the characters of numbers, however many
abbrev pub characters : Items → Option (List ℕ)
characters no_items = Some []
characters (item d ds) = option_and_then (λ c. option_map (λ cs. c ∷ cs) (characters ds)) (character d)

abbrev pub number : Data → Option ℕ
number d = option_and_then as_u64 (as_number d)

one_shown : (n : ℕ) (b : Bool) → is_shown n ≡ b → value_if (n ∷ []) ≡ option_and_then (λ c. Some (c ∷ [])) (shown_if n)
one_shown n true e = simp e refl
one_shown n false e = simp e refl

one_value : (o : Option ℕ) → option_and_then value_if (option_and_then (λ n. Some (n ∷ [])) o)
    ≡ option_and_then (λ c. Some (c ∷ [])) (option_and_then shown_if o)
one_value None = refl
one_value (Some n) = one_shown n (is_shown n) refl

two_shown : (m n : ℕ) (b d : Bool) → is_shown m ≡ b → is_shown n ≡ d → value_if (m ∷ n ∷ [])
    ≡ option_and_then (λ c. option_map (λ cs. c ∷ cs) (option_and_then (λ f. Some (f ∷ [])) (shown_if n))) (shown_if m)
two_shown m n true true e h = simp (e, h) refl
two_shown m n true false e h = simp (e, h) refl
two_shown m n false d e h = simp (e, h) refl

two_value : (o p : Option ℕ) →
    option_and_then value_if
    (option_and_then (λ m. option_map (λ ns. m ∷ ns) (option_and_then (λ n. Some (n ∷ [])) p)) o)
    ≡ option_and_then
    (λ c. option_map (λ cs. c ∷ cs) (option_and_then (λ f. Some (f ∷ [])) (option_and_then shown_if p)))
    (option_and_then shown_if o)
two_value None p = refl
two_value (Some m) None = none_of (shown_if m)
  where
    none_of : (o : Option ℕ) → None ≡ option_and_then (λ (c : ℕ). option_map {T = List ℕ} (λ cs. c ∷ cs) None) o
    none_of None = refl
    none_of (Some c) = refl
two_value (Some m) (Some n) = two_shown m n (is_shown m) (is_shown n) refl refl

-- one or two numbers
pub few_values : (vs : List Value) → 0 < length vs → length vs ≤ 2 → characters (items_view vs)
    ≡ option_and_then value_if (whole_numbers (items_view vs))
few_values [] some few = absurd (omega arith)
few_values (v ∷ []) some few = sym (one_value (number (view v)))
few_values (v ∷ w ∷ []) some few = sym (two_value (number (view v)) (number (view w)))
few_values (v ∷ w ∷ x ∷ vs) some few = absurd (omega arith)

three_values : (o p q : Option ℕ) (r : Option (List ℕ)) →
    None ≡ option_and_then value_if
    (option_and_then
    (λ l. option_map (λ ns. l ∷ ns)
    (option_and_then (λ m. option_map (λ ns. m ∷ ns) (option_and_then (λ n. option_map (λ ns. n ∷ ns) r) q)) p)) o)
three_values None p q r = refl
three_values (Some l) None q r = refl
three_values (Some l) (Some m) None r = refl
three_values (Some l) (Some m) (Some n) None = refl
three_values (Some l) (Some m) (Some n) (Some ns) = too_many l m n ns
  where
    too_many : (l m n : ℕ) (ns : List ℕ) → None ≡ value_if (l ∷ m ∷ n ∷ ns)
    too_many l m n ns =
        long (leb 1 (length (l ∷ m ∷ n ∷ ns))) _ (list_all is_shown (l ∷ m ∷ n ∷ ns)) (Some (l ∷ m ∷ n ∷ ns))
        (not_short (length ns))
      where
        not_short : (n : ℕ) → leb (suc (suc (suc n))) 2 ≡ false
        not_short n = grind (arith, nat_tests)

        long : (a b d : Bool) (o : Option (List ℕ)) → b ≡ false → None ≡ cond ((a && b) && d) o None
        long true b d o e = rw e refl
        long false b d o e = refl

-- none, and more than two
pub no_values : (vs : List Value) → length vs ≡ 0 → None ≡ option_and_then value_if (whole_numbers (items_view vs))
no_values [] e = refl
no_values (v ∷ vs) e = absurd (omega arith)

pub many_values : (vs : List Value) → 2 < length vs → None ≡ option_and_then value_if (whole_numbers (items_view vs))
many_values [] many = absurd (omega arith)
many_values (v ∷ []) many = absurd (omega arith)
many_values (v ∷ w ∷ []) many = absurd (omega arith)
many_values (v ∷ w ∷ x ∷ vs) many =
    three_values (number (view v)) (number (view w)) (number (view x)) (whole_numbers (items_view vs))

-- a text, and the characters of the numbers that are left
abbrev pub text_and_rest : List ℕ → List Value → Option (List ℕ)
text_and_rest text vs = option_map (λ cs. chars text ++ cs) (characters (items_view vs))

pub text_and_all : (text : List ℕ) (vs : List Value) → text ≡ [] → characters (items_view vs) ≡ text_and_rest text vs
text_and_all text vs e = rw (e, chars-nil) (same (characters (items_view vs)))
  where
    same : (o : Option (List ℕ)) → o ≡ option_map (λ cs. [] ++ cs) o
    same None = refl
    same (Some cs) = refl

-- what is shown is a character
range_of : (a b : Bool) (P Q : Type 0) → (a ≡ true → P) → (b ≡ true → Q) → (a || b) ≡ true → P ⊎ Q
range_of true b P Q f g e = inl (f refl)
range_of false b P Q f g e = inr (g e)

in_range : (low high c : ℕ) → is_between low high c ≡ true → (low ≤ c) × (c ≤ high)
in_range low high c e = let parts = and_parts (leb low c) (leb c high) e in (leb-true low c parts.0, leb-true c high parts.1)

IsScalar-from_shown : (c : ℕ) → is_shown c ≡ true → IsScalar c
IsScalar-from_shown c e =
    elim (range_of (is_between 1 0xD7FF c) (is_between 0xE000 0x10FFFF c) _ _ (in_range 1 0xD7FF c)
    (in_range 0xE000 0x10FFFF c) e) [
      | inl r ↦ low_scalar c (omega (arith, r.1))
      | inr r ↦
          either (ltb c 55296) _ (and_from (leb 57344 c) (ltb c 1114112) (le-leb 57344 c r.0)
          (lt-ltb c 1114112 (omega (arith, r.1))))
    ]
  where
    either : (a b : Bool) → b ≡ true → cond a true b ≡ true
    either true b h = refl
    either false b h = h

shown_given : (n c : ℕ) (b : Bool) → is_shown n ≡ b → Some c ≡ cond b (Some n) None → is_shown c ≡ true
shown_given n c true e h = ap is_shown (same_Some c n h) ∙ e
shown_given n c false e h = cc

shown_among : (c : ℕ) (o : Option ℕ) → Some c ≡ option_and_then shown_if o → is_shown c ≡ true
shown_among c None e = cc
shown_among c (Some n) e = shown_given n c (is_shown n) refl e

chars-encode : (c : ℕ) → IsScalar c → chars (encode_utf8 c) ≡ c ∷ []
chars-encode c scalar =
    chars_past_char (encode_utf8 c) [] c (IsUtf8-encode c scalar) (sym (append-nil _)) ∙ ap (λ cs. c ∷ cs) chars-nil

pushed : (front : List ℕ) (c : ℕ) (o : Option (List ℕ)) → option_map (λ cs. front ++ cs) (option_map (λ cs. c ∷ cs) o)
    ≡ option_map (λ cs. (front ++ c ∷ []) ++ cs) o
pushed front c None = refl
pushed front c (Some cs) = ap Some (sym (append_assoc front (c ∷ []) cs))

-- a number that is a character
pub text_and_rest-more : (text after : List ℕ) (c i : ℕ) (vs : List Value) (v : Value) → IsUtf8 text →
    after ≡ text ++ encode_utf8 c → i < length vs → v ≡ get_or vs i v → Some c ≡ character (view v)
    → text_and_rest text (drop i vs) ≡ text_and_rest after (drop (i + 1) vs)
text_and_rest-more text after c i vs v utf8 e inside is given =
    let scalar = IsScalar-from_shown c (shown_among c (number (view v)) given) in
    ap (text_and_rest text) (drop_more vs i v inside ∙ ap (λ u. u ∷ drop (i + 1) vs) (sym is))
    ∙ ap (λ o. option_map (λ cs. chars text ++ cs)
    (option_and_then (λ d. option_map (λ cs. d ∷ cs) (characters (items_view (drop (i + 1) vs)))) o)) (sym given)
    ∙ pushed (chars text) c (characters (items_view (drop (i + 1) vs)))
    ∙ ap (λ front. option_map (λ cs. front ++ cs) (characters (items_view (drop (i + 1) vs))))
    (sym (ap chars e ∙ chars-append text (encode_utf8 c) utf8 ∙ ap (λ cs. chars text ++ cs)
    (chars-encode c scalar)))

-- a number that is none
pub text_and_rest-none : (text : List ℕ) (i : ℕ) (vs : List Value) (v : Value) → i < length vs → v ≡ get_or vs i v →
    None ≡ character (view v) → text_and_rest text (drop i vs) ≡ None
text_and_rest-none text i vs v inside is given =
    ap (text_and_rest text) (drop_more vs i v inside ∙ ap (λ u. u ∷ drop (i + 1) vs) (sym is))
    ∙ ap (λ o. option_map (λ cs. chars text ++ cs)
    (option_and_then (λ d. option_map (λ cs. d ∷ cs) (characters (items_view (drop (i + 1) vs)))) o)) (sym given)

-- all are read
pub text_and_rest-end : (text : List ℕ) (i : ℕ) (vs : List Value) → length vs ≤ i →
    text_and_rest text (drop i vs) ≡ Some (chars text)
text_and_rest-end text i vs past = ap (text_and_rest text) (drop_all i vs past) ∙ ap Some (append-nil (chars text))

-- ---- members

-- a table with more references put in, one after another
abbrev pub inserted : References → List Reference → References
inserted t [] = t
inserted t (r ∷ rs) = inserted (finite.insert t r.0 r.1) rs

abbrev pub filled : References → Result (List Reference) TableError → Result References TableError
filled t (Ok rs) = Ok (inserted t rs)
filled t (Err e) = Err e

inserted-from : (es rs : List Reference) → inserted (finite.from_entries es) rs ≡ finite.from_entries (reverse rs ++ es)
inserted-from es [] = refl
inserted-from es (r ∷ rs) =
    inserted-from (r ∷ es) rs
    ∙ ap finite.from_entries (sym (append_assoc (reverse rs) (r ∷ []) es) ∙ ap (λ front. front ++ es)
    (sym (reverse-append (r ∷ []) rs)))

pub filled-empty : (r : Result (List Reference) TableError) → filled finite.empty r
    ≡ result_then r (λ sound. Ok (references sound))
filled-empty (Ok rs) = ap Ok (inserted-from [] rs ∙ ap finite.from_entries (append-nil (reverse rs)))
filled-empty (Err e) = refl

filled-then : (t : References) (r : Reference) (others : Result (List Reference) TableError) →
    filled t (result_then others (λ rs. Ok (r ∷ rs))) ≡ filled (finite.insert t r.0 r.1) others
filled-then t r (Ok rs) = refl
filled-then t r (Err e) = refl

-- a sound member
pub filled-member : (t : References) (key name value : List ℕ) (d : Data) (ms : Members) →
    name_in (chars key) ≡ Some name → value_in d ≡ Some value
    → filled t (references_in (member key d ms)) ≡ filled (finite.insert t name value) (references_in ms)
filled-member t key name value d ms e h =
    ap (λ r. filled t (result_then r (λ first. result_then (references_in ms) (λ others. Ok (first ∷ others)))))
    (ap (λ o.
    found_or o (BadName (chars key)) (λ n. found_or (value_in d) (BadCodePoints (chars key)) (λ v. Ok (n, v)))) e ∙
    ap (λ o. found_or o (BadCodePoints (chars key)) (λ v. Ok (name, v))) h)
    ∙ filled-then t (name, value) (references_in ms)

-- a fault
pub filled-bad_name : (t : References) (key : List ℕ) (d : Data) (ms : Members) → name_in (chars key) ≡ None →
    filled t (references_in (member key d ms)) ≡ Err (BadName (chars key))
filled-bad_name t key d ms e =
    ap (λ o. filled t
    (result_then
    (found_or o (BadName (chars key)) (λ n. found_or (value_in d) (BadCodePoints (chars key)) (λ v. Ok (n, v))))
    (λ first. result_then (references_in ms) (λ others. Ok (first ∷ others))))) e

pub filled-bad_value : (t : References) (key name : List ℕ) (d : Data) (ms : Members) →
    name_in (chars key) ≡ Some name → value_in d ≡ None → filled t (references_in (member key d ms))
    ≡ Err (BadCodePoints (chars key))
filled-bad_value t key name d ms e h =
    ap (λ r. filled t (result_then r (λ first. result_then (references_in ms) (λ others. Ok (first ∷ others)))))
    (ap (λ o.
    found_or o (BadName (chars key)) (λ n. found_or (value_in d) (BadCodePoints (chars key)) (λ v. Ok (n, v)))) e ∙
    ap (λ o. found_or o (BadCodePoints (chars key)) (λ v. Ok (name, v))) h)

-- the references of the members that are read
pub table_of_members : (text : List ℕ) (d : Data) (ms : Members) → read text ≡ Some d → Some ms ≡ as_object d →
    filled finite.empty (references_in ms) ≡ table_of_json text
table_of_members text d ms e h =
    filled-empty (references_in ms)
    ∙ ap (λ o. found_or o NotAnObject (λ m. result_then (references_in m) (λ sound. Ok (references sound)))) h
    ∙ ap (λ o.
    found_or o NotJson
    (λ j. found_or (as_object j) NotAnObject (λ m. result_then (references_in m) (λ sound. Ok (references sound)))))
    (sym e)

-- the member that comes next
pub next_member : (t : References) (s u : List (String Global × Value)) (k : String Global) (v : Value) (key : List ℕ)
    (whole : Result References TableError) → s ≡ (k, v) ∷ u → key ≡ string_bytes k
    → filled t (references_in (members_view s)) ≡ whole →
    filled t (references_in (member key (view v) (members_view u))) ≡ whole
next_member t s u k v key whole e h w =
    ap (λ bytes. filled t (references_in (member bytes (view v) (members_view u)))) h ∙
    ap (λ ms. filled t (references_in (members_view ms))) (sym e) ∙ w

-- the fault of a member is the fault of the text
pub emitted_name : (t : References) (key : List ℕ) (d : Data) (ms : Members) (whole : Result References TableError)
    (e y : TableError) → filled t (references_in (member key d ms)) ≡ whole
    → (e ≡ Memory) ⊎ ((name_in (chars key) ≡ None) × (e ≡ BadName (chars key))) → y ≡ e → (y ≡ Memory) ⊎ (whole ≡ Err y)
emitted_name t key d ms whole e y w (inl m) h = inl (h ∙ m)
emitted_name t key d ms whole e y w (inr fault) h =
    inr (sym w ∙ filled-bad_name t key d ms fault.0 ∙ ap Err (sym (h ∙ fault.1)))

pub emitted_value : (t : References) (key name : List ℕ) (d : Data) (ms : Members) (whole : Result References TableError)
    (e y : TableError) → filled t (references_in (member key d ms)) ≡ whole
    → name_in (chars key) ≡ Some name → (e ≡ Memory) ⊎ ((value_in d ≡ None) × (e ≡ BadCodePoints (chars key))) → y ≡ e →
    (y ≡ Memory) ⊎ (whole ≡ Err y)
emitted_value t key name d ms whole e y w n (inl m) h = inl (h ∙ m)
emitted_value t key name d ms whole e y w n (inr fault) h =
    inr (sym w ∙ filled-bad_value t key name d ms n fault.0 ∙ ap Err (sym (h ∙ fault.1)))
