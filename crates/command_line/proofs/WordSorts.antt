-- What a word of text can be: one of the grammar's, one that asks for help, or one that clap refuses.
use Rattle.std.proofs.Common.{◌≡◌, ◌∙◌, ◌++◌, ◌+◌, ◌==◌, [], ◌∷◌, Bool, List, None, Option, Some, ap, arith, codes}
use Rattle.std.proofs.Common.{drop, eqb-true, false, inl, inr, refl, subst, suc, sym, take, true, ℕ}
use Rattle.std.specs.Prelude.{if◌then◌else◌, slice_get}
use Rattle.std.specs.List.{before_first, after_first, list_any, position_or_len}
use Rattle.std.specs.Str.{IsUtf8, bytes_eq, chars, encode_utf8_all}
use Rattle.std.specs.Char.{encode_utf8}
use Rattle.std.proofs.lemmas.Slice.Eq.{bytes_eq-Decides}
use Rattle.std.proofs.lemmas.Str.{IsUtf8-past_char, encodes-chars}
use Rattle.clap.specs.Lexer.{long_of}
use Rattle.clap.specs.Walk.{Row, Text, Waiting, arg_by_long}
use Rattle.clap.specs.declared.error.kind.ErrorKind.TheVariants.{DisplayHelp, TooManyValues, UnknownArgument}
use Rattle.command_line.specs.CommandWords.{Flag, IsHelpWord, IsPlain, Valued, flag_word, footnotes, max_bytes}
use Rattle.command_line.specs.CommandWords.{no_decorate, references, rich, shared_footnotes, valued_word, width}
use Rattle.command_line.proofs.FaultKinds.{IsRefusal}
use Rattle.command_line.proofs.ItemUses.{held}
use Rattle.command_line.proofs.OptionNames.{by_flag, by_help, flag_takes, flagged, help_at, help_takes, id_of, rule_at}
use Rattle.command_line.proofs.OptionNames.{shape, valued}
use Rattle.command_line.proofs.WordTurns.{two_hyphens, letter_unknown, too_many_turn, turn, unknown_turn, walk_at}

-- clap refuses the word wherever it stands before `--`, and answers with no help
abbrev pub IsStray : Text → Type 0
IsStray word = (waiting : Waiting) (rows : List Row) (p : Option (Text × List Text)) (position : ℕ)
    → IsRefusal (turn (walk_at waiting (held rows p) position) word)

pub data Sort (word : Text) : Type 0 where
  dashing : word ≡ two_hyphens → Sort word
  flagging : (option : Flag) → word ≡ flag_word option → Sort word
  wanting : (option : Valued) → word ≡ valued_word option → Sort word
  joining : (option : Valued) (value : Text) → word ≡ valued_word option ++ codes "=" ++ value → Sort word
  standing : IsPlain word → Sort word
  helping : IsHelpWord word → Sort word
  straying : IsStray word → Sort word

unknown_stray : (word name : Text) (v : Option Text) → bytes_eq word two_hyphens ≡ false → long_of word ≡ Some (name, v)
    → arg_by_long shape.rules name ≡ None → IsStray word
unknown_stray word name v other long found = λ waiting rows p position. (
  UnknownArgument,
  (λ same. let bad : UnknownArgument ≡ DisplayHelp = same in cc),
  unknown_turn waiting (held rows p) position word name other v long found,
)

-- ---- `=` in a word

one_further : (n : ℕ) (x : ℕ) (xs : List ℕ) → take (1 + n) (x ∷ xs) ≡ x ∷ take n xs
one_further n x xs = let e : 1 + n ≡ suc n = omega arith in rw e refl

cut_further : (n : ℕ) (x : ℕ) (xs : List ℕ) → drop (1 + n + 1) (x ∷ xs) ≡ drop (n + 1) xs
cut_further n x xs = let e : 1 + n + 1 ≡ suc (n + 1) = omega arith in rw e refl

cut_at_equals : (xs : List ℕ) → list_any (λ x. x == 61) xs ≡ true → xs ≡ before_first (λ x. x == 61) xs
    ++ 61 ∷ after_first (λ x. x == 61) xs
cut_at_equals [] e = cc
cut_at_equals (x ∷ xs) e = go (x == 61) refl (cut_at_equals xs)
  where
    go : (t : Bool) → (x == 61) ≡ t → (list_any (λ x. x == 61) xs ≡ true → xs
        ≡ before_first (λ x. x == 61) xs ++ 61 ∷ after_first (λ x. x == 61) xs)
        → x ∷ xs ≡ before_first (λ x. x == 61) (x ∷ xs) ++ 61 ∷ after_first (λ x. x == 61) (x ∷ xs)
    go true t rec = rw t (ap (λ y. y ∷ xs) (eqb-true x 61 t))
    go false t rec =
        let n = position_or_len (λ y. y == 61) xs in
        let more = rec (rw t at e) in
        rw t (rw (one_further n x xs, cut_further n x xs) (ap (λ ys. x ∷ ys) more))

all_before_equals : (xs : List ℕ) → list_any (λ x. x == 61) xs ≡ false → before_first (λ x. x == 61) xs ≡ xs
all_before_equals [] e = refl
all_before_equals (x ∷ xs) e = go (x == 61) refl (all_before_equals xs)
  where
    go : (t : Bool) → (x == 61) ≡ t → (list_any (λ x. x == 61) xs ≡ false → before_first (λ x. x == 61) xs ≡ xs)
        → before_first (λ x. x == 61) (x ∷ xs) ≡ x ∷ xs
    go true t rec = let bad : true ≡ false = rw t at e in cc
    go false t rec =
        let n = position_or_len (λ y. y == 61) xs in
        let more = rec (rw t at e) in
        rw t (rw (one_further n x xs) (ap (λ ys. x ∷ ys) more))

-- ---- names

data Known (name : Text) : Type 0 where
  option_name : (option : Valued) → name ≡ id_of (valued option) → Known name
  flag_name : (option : Flag) → name ≡ id_of (flagged option) → Known name
  help_name : name ≡ codes "help" → Known name
  no_name : arg_by_long shape.rules name ≡ None → Known name

either : (name known : Text) → (name ≡ known → Known name) → (bytes_eq known name ≡ false → Known name) → Known name
either name known is other = go (bytes_eq known name) refl
  where
    go : (b : Bool) → bytes_eq known name ≡ b → Known name
    go true e = is (sym ((bytes_eq-Decides known name).0 e))
    go false e = other e

known : (name : Text) → Known name
unfolding shape
known name =
    either name (codes "width") (option_name width)
    (λ a. either name (codes "max-bytes") (option_name max_bytes)
    (λ b. either name (codes "rich") (flag_name rich)
    (λ c. either name (codes "no-decorate") (flag_name no_decorate)
    (λ d. either name (codes "footnotes") (flag_name footnotes)
    (λ e. either name (codes "shared-footnotes") (flag_name shared_footnotes)
    (λ f. either name (codes "references") (option_name references)
    (λ g. either name (codes "help") help_name
    (λ h. no_name (simp (a, b, c, d, e, f, g, h))))))))))

-- ---- long options

spelt_flag : (option : Flag) → 45 ∷ 45 ∷ id_of (flagged option) ≡ flag_word option
spelt_flag rich = refl
spelt_flag no_decorate = refl
spelt_flag footnotes = refl
spelt_flag shared_footnotes = refl

spelt_option : (option : Valued) → 45 ∷ 45 ∷ id_of (valued option) ≡ valued_word option
spelt_option width = refl
spelt_option references = refl
spelt_option max_bytes = refl

spelt_joined : (option : Valued) (value : Text) → 45 ∷ 45 ∷ (id_of (valued option) ++ 61 ∷ value)
    ≡ valued_word option ++ codes "=" ++ value
spelt_joined width value = refl
spelt_joined references value = refl
spelt_joined max_bytes value = refl

-- without `=`
named_sort : (text : Text) → bytes_eq (45 ∷ 45 ∷ text) two_hyphens ≡ false
    → long_of (45 ∷ 45 ∷ text) ≡ Some (text, None) → Known text → Sort (45 ∷ 45 ∷ text)
named_sort text other is (option_name option e) = wanting option (ap (λ t. 45 ∷ 45 ∷ t) e ∙ spelt_option option)
named_sort text other is (flag_name option e) = flagging option (ap (λ t. 45 ∷ 45 ∷ t) e ∙ spelt_flag option)
named_sort text other is (help_name e) = helping (inl (ap (λ t. 45 ∷ 45 ∷ t) e))
named_sort text other is (no_name e) = straying (unknown_stray (45 ∷ 45 ∷ text) text None other is e)

-- with a value after it
valued_sort : (text name value : Text) → text ≡ name ++ 61 ∷ value → bytes_eq (45 ∷ 45 ∷ text) two_hyphens ≡ false
    → long_of (45 ∷ 45 ∷ text) ≡ Some (name, Some value) → Known name
    → Sort (45 ∷ 45 ∷ text)
valued_sort text name value parts other is (option_name option e) =
    joining option value (ap (λ t. 45 ∷ 45 ∷ t) parts ∙ ap (λ n. 45 ∷ 45 ∷ (n ++ 61 ∷ value)) e
    ∙ spelt_joined option value)
valued_sort text name value parts other is (flag_name option e) = straying (λ waiting rows p position. (
  TooManyValues,
  (λ same. let bad : TooManyValues ≡ DisplayHelp = same in cc),
  too_many_turn waiting (held rows p) position (45 ∷ 45 ∷ text) name other (rule_at (flagged option))
      (ap (arg_by_long shape.rules) e ∙ by_flag option) value is
      (flag_takes option),
))
valued_sort text name value parts other is (help_name e) = straying (λ waiting rows p position. (
  TooManyValues,
  (λ same. let bad : TooManyValues ≡ DisplayHelp = same in cc),
  too_many_turn waiting (held rows p) position (45 ∷ 45 ∷ text) name other help_at
      (ap (arg_by_long shape.rules) e ∙ by_help) value is help_takes,
))
valued_sort text name value parts other is (no_name e) =
    straying (unknown_stray (45 ∷ 45 ∷ text) name (Some value) other is e)

long_sort : (x : ℕ) (xs : List ℕ) → Sort (45 ∷ 45 ∷ x ∷ xs)
long_sort x xs = go (list_any (λ w. w == 61) (x ∷ xs)) refl
  where
    name : Text
    name = before_first (λ w. w == 61) (x ∷ xs)

    go : (b : Bool) → list_any (λ w. w == 61) (x ∷ xs) ≡ b → Sort (45 ∷ 45 ∷ x ∷ xs)
    go true t =
        let value = after_first (λ w. w == 61) (x ∷ xs) in
        valued_sort (x ∷ xs) name value (cut_at_equals (x ∷ xs) t) refl
        (ap (λ (b : Bool). Some (name, if b then Some value else None)) t) (known name)
    go false t =
        let value = after_first (λ w. w == 61) (x ∷ xs) in
        let none : long_of (45 ∷ 45 ∷ x ∷ xs) ≡ Some (name, None) =
        ap (λ (b : Bool). Some (name, if b then Some value else None)) t in
        named_sort (x ∷ xs) refl (none ∙ ap (λ (n : Text). Some (n, None)) (all_before_equals (x ∷ xs) t))
        (known (x ∷ xs))

-- ---- letters

no_element : {X : Type 0} (xs : List X) → slice_get xs 0 ≡ None → xs ≡ []
no_element [] none = refl
no_element (x ∷ xs) none = cc

hyphen_first : (text : Text) → 45 ∷ text ≡ encode_utf8 45 ++ text
unfolding encode_utf8
hyphen_first text = refl

-- a text that is not empty begins with a character
some_letter : (y : ℕ) (ys : List ℕ) → IsUtf8 (45 ∷ y ∷ ys) → slice_get (chars (y ∷ ys)) 0 ≡ None → ⊥
some_letter y ys utf8 none =
    let trailing = IsUtf8-past_char (45 ∷ y ∷ ys) (y ∷ ys) 45 utf8 (hyphen_first (y ∷ ys)) in
    let same : [] ≡ y ∷ ys = ap encode_utf8_all (sym (no_element (chars (y ∷ ys)) none))
    ∙ encodes-chars (y ∷ ys) trailing in
    cc

letter_sort : (y : ℕ) (ys : List ℕ) → IsUtf8 (45 ∷ y ∷ ys) → (y == 45) ≡ false → Sort (45 ∷ y ∷ ys)
letter_sort y ys utf8 other = go (slice_get (chars (y ∷ ys)) 0) refl
  where
    by_name : (x : ℕ) → slice_get (chars (y ∷ ys)) 0 ≡ Some x → (b : Bool) → (104 == x) ≡ b → Sort (45 ∷ y ∷ ys)
    by_name x first true is = helping (inr (y ∷ ys, refl, first ∙ ap (λ k. Some k) (sym (eqb-true 104 x is))))
    by_name x first false is = straying (λ waiting rows p position. (
      UnknownArgument,
      (λ same. let bad : UnknownArgument ≡ DisplayHelp = same in cc),
      letter_unknown waiting rows p position y x ys other first is,
    ))

    go : (o : Option ℕ) → slice_get (chars (y ∷ ys)) 0 ≡ o → Sort (45 ∷ y ∷ ys)
    go None first = absurd (some_letter y ys utf8 first)
    go (Some x) first = by_name x first (104 == x) refl

-- ---- any word

pub sort_of : (word : Text) → IsUtf8 word → Sort word
sort_of [] utf8 = standing (inl refl)
sort_of (x ∷ xs) utf8 = first (x == 45) refl xs refl
  where
    hyphen : x ≡ 45 → (ys : List ℕ) → xs ≡ ys → Sort (x ∷ xs)
    hyphen a [] none = standing (inr (λ i. a i ∷ none i))
    hyphen a (y ∷ ys) more = second (y == 45) refl
      where
        same : x ∷ xs ≡ 45 ∷ y ∷ ys
        same = λ i. a i ∷ more i

        both : y ≡ 45 → (zs : List ℕ) → ys ≡ zs → Sort (x ∷ xs)
        both b [] none = dashing (same ∙ λ i. 45 ∷ b i ∷ none i)
        both b (z ∷ zs) trailing = subst Sort (sym (same ∙ λ i. 45 ∷ b i ∷ trailing i)) (long_sort z zs)

        second : (t : Bool) → (y == 45) ≡ t → Sort (x ∷ xs)
        second true t = both (eqb-true y 45 t) ys refl
        second false t = subst Sort (sym same) (letter_sort y ys (subst IsUtf8 same utf8) t)

    first : (t : Bool) → (x == 45) ≡ t → (ys : List ℕ) → xs ≡ ys → Sort (x ∷ xs)
    first true t ys is = hyphen (eqb-true x 45 t) ys is
    first false t ys is = standing (inl t)
