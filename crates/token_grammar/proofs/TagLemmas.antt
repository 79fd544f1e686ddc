-- The reading of a tag, step by step.
use Rattle.std.proofs.Common.{◌≡◌, ◌+◌, ◌<◌, ◌≤◌, ◌==◌, ◌||◌, if◌then◌else◌, [], ◌∷◌, ◌++◌, ◌∙◌, Bool, IfSome, List}
use Rattle.std.proofs.Common.{None, Option, Some, ap, arith, drop, false, length, length-append, length-drop, not}
use Rattle.std.proofs.Common.{option_and_then, option_map, refl, subst, suc, sym, true, zero, zero-add, ℕ}
use Rattle.std.proofs.lemmas.Bool.{ne_eqb, eq-eqb}
use Rattle.lex_base.specs.References.{References}
use Rattle.html_lexemes.specs.declared.names.Attribute.{Attribute}
use Rattle.html_lexemes.specs.declared.names.Namespace.TheVariants.{Other}
use Rattle.html_lexemes.specs.declared.names.QualName.{QualName}
use Rattle.html_lexemes.specs.declared.token.Tag.{Tag}
use Rattle.html_lexemes.specs.declared.token.TagKind.{TagKind}
use Rattle.token_grammar.specs.Characters.{is_space, name_of}
use Rattle.token_grammar.specs.References.{value_of}
use Rattle.token_grammar.specs.Slices.{Cut, after, begins, cut, front_while, rest_while}
use Rattle.token_grammar.specs.TagParts.{is_named, tag_from, with_new}
use Rattle.token_grammar.specs.Tags.{TagEnd, attribute, attribute_at, ends_attribute_name, ends_tag_name, ends_unquoted}
use Rattle.token_grammar.specs.Tags.{ends_with_slash, first_of_each, is_gap, tag_at, tag_end, tag_end_from, tag_of}
use Rattle.token_grammar.specs.Tags.{value_after, written_value}

-- what follows a slice is no longer than the text
abbrev HasRestWithin : ℕ → Option Cut → Type 0
HasRestWithin n o = IfSome o (λ v. length v.rest ≤ n)

pub rest_while-shorter : (p : ℕ → Bool) (cs : List ℕ) → length (rest_while p cs) ≤ length cs
rest_while-shorter p [] = omega arith
rest_while-shorter p (c ∷ cs) = passed (p c) (rest_while-shorter p cs) where
  passed : (b : Bool) → length (rest_while p cs) ≤ length cs → length (if b then rest_while p cs
      else c ∷ cs) ≤ suc (length cs)
  passed true h = omega arith
  passed false h = omega arith

-- the steps of the definitions, by other names
abbrev longer : ℕ → Cut → Cut
longer c k = record k { slice = c ∷ k.slice }

abbrev cut_here : ℕ → Option (List ℕ) → Option Cut → Option Cut
cut_here c (Some rest) later = Some (record { slice = []; rest = rest })
cut_here c None later = option_map (longer c) later

longer_rest : (c n m : ℕ) (o : Option Cut) → HasRestWithin n o → n ≤ m → HasRestWithin m (option_map (longer c) o)
longer_rest c n m None h le = tt
longer_rest c n m (Some k) h le = omega arith

here_shorter : (b : Bool) (c n : ℕ) (trailing : List ℕ) (later : Option Cut) → length trailing ≤ suc n →
    HasRestWithin n later → HasRestWithin (suc n) (cut_here c (if b then Some trailing else None) later)
here_shorter true c n trailing later within h = within
here_shorter false c n trailing later within h = longer_rest c n (suc n) later h (omega arith)

cut-shorter : (mark cs : List ℕ) → HasRestWithin (length cs) (cut (after mark) cs)
cut-shorter mark [] = tt
cut-shorter mark (c ∷ cs) =
    here_shorter (begins mark (c ∷ cs)) c (length cs) (drop (length mark) (c ∷ cs)) (cut (after mark) cs)
    (omega (arith, length-drop (length mark) (c ∷ cs))) (cut-shorter mark cs)

-- one of two, by a test
either_within : (b : Bool) (n : ℕ) (x y : Option Cut) → HasRestWithin n x → HasRestWithin n y →
    HasRestWithin n (if b then x else y)
either_within true n x y p q = p
either_within false n x y p q = q

wider : (n m : ℕ) (o : Option Cut) → HasRestWithin n o → n ≤ m → HasRestWithin m o
wider n m None h le = tt
wider n m (Some k) h le = omega arith

written_shorter : (cs : List ℕ) → HasRestWithin (length cs) (written_value cs)
written_shorter [] = omega arith
written_shorter (c ∷ cs) =
    either_within ((c == 34) || (c == 39)) (suc (length cs)) (cut (after (c ∷ [])) cs)
    (Some (record {
      slice = front_while (λ d. not (ends_unquoted d)) (c ∷ cs);
      rest = rest_while (λ d. not (ends_unquoted d)) (c ∷ cs);
    }))
    (wider (length cs) (suc (length cs)) (cut (after (c ∷ [])) cs) (cut-shorter (c ∷ []) cs) (omega arith))
    (rest_while-shorter (λ d. not (ends_unquoted d)) (c ∷ cs))

value_shorter : (cs : List ℕ) → HasRestWithin (length cs) (value_after cs)
value_shorter cs =
    let spaces = rest_while is_space cs in
    let past = rest_while is_space (drop 1 spaces) in
    let within : length past ≤ length cs =
    omega (
      arith,
      rest_while-shorter is_space (drop 1 spaces),
      length-drop 1 spaces,
      rest_while-shorter is_space cs,
    ) in
    let nothing : Option Cut = Some (record { slice = []; rest = cs }) in
    let kept : HasRestWithin (length cs) nothing = omega arith in
    either_within (begins (61 ∷ []) spaces) (length cs) (written_value past) nothing
    (wider (length past) (length cs) (written_value past) (written_shorter past) within) kept

-- what follows an attribute is no longer than what stands after its first character
abbrev HasAfterWithin : ℕ → Option (Attribute × List ℕ) → Type 0
HasAfterWithin n o = IfSome o (λ read. length read.1 ≤ n)

made_within : (n m : ℕ) (make : Cut → Attribute) (o : Option Cut) → HasRestWithin n o → n ≤ m →
    HasAfterWithin m (option_map (λ (k : Cut). (make k, k.rest)) o)
made_within n m make None h le = tt
made_within n m make (Some k) h le = omega arith

pub attribute-shorter : (table : References) (c : ℕ) (cs : List ℕ) →
    HasAfterWithin (length cs) (attribute_at table c cs)
attribute-shorter table c cs =
    let p : ℕ → Bool = λ d. not (ends_attribute_name d) in
    let rest = rest_while p cs in
    made_within (length rest) (length cs) (λ k. attribute (name_of (c ∷ front_while p cs)) (value_of table k.slice))
    (value_after rest) (value_shorter rest) (rest_while-shorter p cs)

abbrev with_attribute : Attribute → TagEnd → TagEnd
with_attribute a end = record end { attributes = a ∷ end.attributes }

abbrev after_gap : References → Bool → List ℕ → (List ℕ → Option TagEnd) → Option TagEnd
after_gap table closes [] further = None
after_gap table closes (c ∷ cs) further =
    if c == 62
    then Some (record { attributes = []; self_closing = closes; rest = cs })
    else option_and_then (λ read. option_map (with_attribute read.0) (further read.1)) (attribute_at table c cs)

-- two ways to read what follows, which agree on what is no longer
same_further : (o : Option (Attribute × List ℕ)) (f g : List ℕ → Option TagEnd) (n : ℕ) → HasAfterWithin n o →
    ((cs : List ℕ) → length cs ≤ n → f cs ≡ g cs)
    → option_and_then (λ read. option_map (with_attribute read.0) (f read.1)) o
    ≡ option_and_then (λ read. option_map (with_attribute read.0) (g read.1)) o
same_further None f g n h agree = refl
same_further (Some read) f g n h agree = ap (λ o. option_map (with_attribute read.0) o) (agree read.1 h)

same_after : (table : References) (closes : Bool) (cs : List ℕ) (f g : List ℕ → Option TagEnd) →
    ((ds : List ℕ) → suc (length ds) ≤ length cs → f ds ≡ g ds) → after_gap table closes cs f
    ≡ after_gap table closes cs g
same_after table closes [] f g agree = refl
same_after table closes (c ∷ cs) f g agree =
    ap (λ (o : Option TagEnd). if c == 62 then Some (record { attributes = []; self_closing = closes; rest = cs })
    else o)
    (same_further (attribute_at table c cs) f g (length cs) (attribute-shorter table c cs)
    (λ ds le. agree ds (omega arith)))

-- every number that is large enough gives the same
enough : (table : References) (n m : ℕ) (cs : List ℕ) → length cs < n → length cs < m →
    tag_end_from table n cs ≡ tag_end_from table m cs
enough table zero m cs h k = absurd (omega arith)
enough table (suc n) zero cs h k = absurd (omega arith)
enough table (suc n) (suc m) cs h k =
    same_after table (ends_with_slash (front_while is_gap cs)) (rest_while is_gap cs) (tag_end_from table n)
    (tag_end_from table m)
    (λ ds le. enough table n m ds (omega (arith, rest_while-shorter is_gap cs))
    (omega (arith, rest_while-shorter is_gap cs)))

-- the end of a tag, by that of what follows its first attribute
pub tag_end-step : (table : References) (cs : List ℕ) →
    tag_end table cs ≡ after_gap table (ends_with_slash (front_while is_gap cs)) (rest_while is_gap cs) (tag_end table)
tag_end-step table cs =
    same_after table (ends_with_slash (front_while is_gap cs)) (rest_while is_gap cs) (tag_end_from table (length cs))
    (tag_end table)
    (λ ds le. enough table (length cs) (suc (length ds)) ds (omega (arith, rest_while-shorter is_gap cs)) (omega arith))

-- the attribute that was read
pub attribute-read : (table : References) (first : ℕ) (cs name rest slice trailing space local value : List ℕ)
    (q : QualName)
    → name ≡ front_while (λ d. not (ends_attribute_name d)) cs → rest ≡ rest_while (λ d. not (ends_attribute_name d)) cs
    → Some (record { slice = slice; rest = trailing }) ≡ value_after rest
    → q ≡ record { ns = Other space; local = local } → space ≡ [] → local ≡ name_of (first ∷ name) →
    value ≡ value_of table slice
    → Some (record { name = q; value = value }, trailing) ≡ attribute_at table first cs
attribute-read table first cs name rest slice trailing space local value q front left found made none named valued =
    let p : ℕ → Bool = λ d. not (ends_attribute_name d) in
    let read : List ℕ → Cut → Attribute × List ℕ =
    λ n k. (attribute (name_of (first ∷ n)) (value_of table k.slice), k.rest) in
    let parts : List ℕ → List ℕ → List ℕ → Option (Attribute × List ℕ) =
    λ s l v. Some (record { name = record { ns = Other s; local = l }; value = v }, trailing) in
    let whole : QualName → Option (Attribute × List ℕ) = λ n. Some (record { name = n; value = value }, trailing) in
    ap whole made ∙ ap (λ s. parts s local value) none ∙ ap (λ l. parts [] l value) named ∙
    ap (λ v. parts [] (name_of (first ∷ name)) v) valued
    ∙ ap (λ n. option_map (read n) (Some (record { slice = slice; rest = trailing }))) front ∙
    ap (λ o. option_map (read (front_while p cs)) o) (found ∙ ap value_after left)

-- ---- the attributes without those whose name came before

last_after : (kept : List Attribute) (a : Attribute) → length (kept ++ a ∷ []) ≡ length kept + 1
last_after kept a = length-append kept (a ∷ [])

new_length : (kept : List Attribute) (a : Attribute) → length (with_new kept a) ≤ length kept + 1
new_length kept a = either (is_named a.name.local kept) where
  either : (b : Bool) → length (if b then kept else kept ++ a ∷ []) ≤ length kept + 1
  either true = omega arith
  either false = omega (arith, last_after kept a)

first-length : (kept others : List Attribute) → length (first_of_each kept others) ≤ length kept + length others
first-length kept [] = omega arith
first-length kept (a ∷ others) = omega (arith, first-length (with_new kept a) others, new_length kept a)

-- whether attributes are dropped, by whether the first of them is
dropped_first : (b dropped : Bool) (kept others : List Attribute) (a : Attribute) →
    (dropped || not (length (first_of_each (if b then kept
    else kept ++ a ∷ []) others) == length kept + suc (length others)))
    ≡ ((dropped || b)
    || not (length (first_of_each (if b then kept else kept ++ a ∷ []) others) == length (if b then kept
    else kept ++ a ∷ []) + length others))
dropped_first b true kept others a = refl
dropped_first true false kept others a =
    rw (ne_eqb (length (first_of_each kept others)) (length kept + suc (length others))
    (λ e. omega (arith, first-length kept others))) refl
dropped_first false false kept others a =
    let e : length kept + suc (length others) ≡ length (kept ++ a ∷ []) + length others =
    omega (arith, last_after kept a) in
    ap (λ n. not (length (first_of_each (kept ++ a ∷ []) others) == n)) e

abbrev tag_with : TagKind → List ℕ → Bool → List ℕ → List Attribute → Bool → Option (Tag × List ℕ)
tag_with kind name closes rest attrs dropped =
    Some (
      record { kind = kind; name = name; self_closing = closes; attrs = attrs; had_duplicate_attributes = dropped },
      rest,
    )

-- one attribute more was read
one_more : (kind : TagKind) (name : List ℕ) (kept : List Attribute) (dropped : Bool) (a : Attribute) (o : Option TagEnd)
    → option_map (tag_from kind name kept dropped) (option_map (with_attribute a) o)
    ≡ option_map (tag_from kind name (with_new kept a) (dropped || is_named a.name.local kept)) o
one_more kind name kept dropped a None = refl
one_more kind name kept dropped a (Some end) =
    ap (tag_with kind name end.self_closing end.rest (first_of_each (with_new kept a) end.attributes))
    (dropped_first (is_named a.name.local kept) dropped kept end.attributes a)

-- nothing more is dropped
none_more : (dropped : Bool) (kept : List Attribute) → dropped ≡ (dropped || not (length kept == length kept + 0))
none_more true kept = refl
none_more false kept = rw (eq-eqb (length kept) (length kept + 0) (omega arith)) refl

-- ---- the loop: what is left of the text gives the rest of the tag

-- a tag, by what is left of its text
abbrev pub tag_left : References → TagKind → List ℕ → List Attribute → Bool → List ℕ → Option (Tag × List ℕ)
tag_left table kind name kept dropped cs = option_map (tag_from kind name kept dropped) (tag_end table cs)

none_dropped : (o : Option TagEnd) (kind : TagKind) (name : List ℕ) →
    option_map (λ end. (tag_of kind name end, end.rest)) o ≡ option_map (tag_from kind (name_of name) [] false) o
none_dropped None kind name = refl
none_dropped (Some end) kind name =
    ap (λ n. tag_with kind (name_of name) end.self_closing end.rest (first_of_each [] end.attributes)
    (not (length (first_of_each [] end.attributes) == n))) (sym (zero-add (length end.attributes)))

pub left-start : (table : References) (kind : TagKind) (cs front rest name made : List ℕ) (kept : List Attribute)
    → front ≡ front_while (λ c. not (ends_tag_name c)) cs → rest ≡ rest_while (λ c. not (ends_tag_name c)) cs →
    name ≡ made → made ≡ name_of front → kept ≡ []
    → tag_left table kind name kept false rest ≡ tag_at table kind cs
left-start table kind cs front rest name made kept front_is rest_is name_is made_is none =
    let p : ℕ → Bool = λ c. not (ends_tag_name c) in
    ap (λ n. tag_left table kind n kept false rest) (name_is ∙ made_is ∙ ap name_of front_is)
    ∙ ap (λ (k : List Attribute). tag_left table kind (name_of (front_while p cs)) k false rest) none
    ∙ ap (λ r. tag_left table kind (name_of (front_while p cs)) [] false r) rest_is
    ∙ sym (none_dropped (tag_end table (rest_while p cs)) kind (front_while p cs))

-- the same, where what stands between attributes is cut off the text
abbrev left_after : References → TagKind → List ℕ → List Attribute → Bool → List ℕ → List ℕ → Option (Tag × List ℕ)
left_after table kind name kept dropped gap trailing =
    option_map (tag_from kind name kept dropped) (after_gap table (ends_with_slash gap) trailing (tag_end table))

module _ (table : References) (kind : TagKind) (name : List ℕ) (kept : List Attribute) (dropped : Bool)
    (cs gap trailing : List ℕ) (front : gap ≡ front_while is_gap cs) (left : trailing ≡ rest_while is_gap cs) where
  left_is : left_after table kind name kept dropped gap trailing ≡ tag_left table kind name kept dropped cs
  left_is =
      ap (λ g. left_after table kind name kept dropped g trailing) front ∙
      ap (λ b. left_after table kind name kept dropped (front_while is_gap cs) b) left
      ∙ ap (λ o. option_map (tag_from kind name kept dropped) o) (sym (tag_end-step table cs))

  pub left-ends : trailing ≡ [] → None ≡ tag_left table kind name kept dropped cs
  left-ends none = ap (λ b. left_after table kind name kept dropped gap b) (sym none) ∙ left_is

  pub left-closes : (c : ℕ) (rest : List ℕ) (closes : Bool) → trailing ≡ c ∷ rest → c ≡ 62 → closes ≡ ends_with_slash gap
      → Some (
        record {
          kind = kind;
          name = name;
          self_closing = closes;
          attrs = kept;
          had_duplicate_attributes = dropped;
        },
        rest,
      ) ≡ tag_left table kind name kept dropped cs
  left-closes c rest closes is same slash =
      ap (λ b. tag_with kind name b rest kept dropped) slash ∙ ap (tag_with kind name (ends_with_slash gap) rest kept)
      (none_more dropped kept)
      ∙ ap (λ b. left_after table kind name kept dropped gap b) (sym (is ∙ ap (λ d. d ∷ rest) same)) ∙ left_is

  goes_on : (c : ℕ) (rest : List ℕ) (o : Option (Attribute × List ℕ)) → trailing ≡ c ∷ rest → (c ≡ 62 → ⊥) →
      o ≡ attribute_at table c rest
      → option_map (tag_from kind name kept dropped)
      (option_and_then (λ read. option_map (with_attribute read.0) (tag_end table read.1)) o)
      ≡ tag_left table kind name kept dropped cs
  goes_on c rest o is other read =
      let further : Option (Attribute × List ℕ) → Option TagEnd =
      λ p. option_and_then (λ read. option_map (with_attribute read.0) (tag_end table read.1)) p in
      let closed : Option TagEnd = Some (record { attributes = []; self_closing = ends_with_slash gap; rest = rest }) in
      ap (λ p. option_map (tag_from kind name kept dropped) (further p)) read
      ∙ ap (λ b. option_map (tag_from kind name kept dropped) (if b then closed
      else further (attribute_at table c rest))) (sym (ne_eqb c 62 other))
      ∙ ap (λ b. left_after table kind name kept dropped gap b) (sym is) ∙ left_is

  pub left-cut_off : (c : ℕ) (rest : List ℕ) → trailing ≡ c ∷ rest → (c ≡ 62 → ⊥) → None ≡ attribute_at table c rest →
      None ≡ tag_left table kind name kept dropped cs
  left-cut_off c rest is other none = goes_on c rest None is other none

  pub left-more : (c : ℕ) (rest next : List ℕ) (a : Attribute) (more : List Attribute) (also : Bool) →
      trailing ≡ c ∷ rest → (c ≡ 62 → ⊥) → Some (a, next) ≡ attribute_at table c rest
      → more ≡ with_new kept a → also ≡ (dropped || is_named a.name.local kept) →
      tag_left table kind name more also next ≡ tag_left table kind name kept dropped cs
  left-more c rest next a more also is other read more_is also_is =
      ap (λ (k : List Attribute). tag_left table kind name k also next) more_is ∙
      ap (λ d. tag_left table kind name (with_new kept a) d next) also_is
      ∙ sym (one_more kind name kept dropped a (tag_end table next)) ∙ goes_on c rest (Some (a, next)) is other read

  pub left-shorter : (c : ℕ) (rest next : List ℕ) (a : Attribute) → trailing ≡ c ∷ rest →
      Some (a, next) ≡ attribute_at table c rest → length next < length cs
  left-shorter c rest next a is read =
      let within : length next ≤ length rest =
      subst (HasAfterWithin (length rest)) (sym read) (attribute-shorter table c rest) in
      let whole : length trailing ≡ suc (length rest) = ap length is in
      omega (arith, ap length left, rest_while-shorter is_gap cs)
