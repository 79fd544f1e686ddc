-- What the columns of tables ask for, of nodes from a place up to another.
use Rattle.std.proofs.Common.{◌≡◌, ◌+◌, ◌-◌, ◌<◌, ◌≤◌, [], ◌∷◌, ◌++◌, ◌∙◌, IfSome, List, None, Option, Some, ap, arith}
use Rattle.std.proofs.Common.{drop, get_or, length, length-append, refl, suc, sym, take, zero, ℕ}
use Rattle.std.specs.Prelude.{unwrap_or}
use Rattle.std.specs.Option.{is_some, option_map}
use Rattle.std.proofs.lemmas.List.{length-drop, length-take}
use Rattle.block_trait.specs.declared.options.RenderOptions.{RenderOptions}
use Rattle.column_fits.specs.declared.fit.ColumnFit.{ColumnFit}
use Rattle.layout_values.specs.Seen.{fits_between}
use Rattle.layout_values.specs.Sizing.{Sizing, all_fits}
use Rattle.layout_tables.specs.Seen.{fits_at}
use Rattle.render_sizes.specs.Extents.{Measure}
use Rattle.render_values.specs.Values.{Values, count, none, value}
use Rattle.render_values.specs.declared.info.Head.{Head}
use Rattle.table_fits.proofs.SegmentLemmas.{segment_all, segment_back, segment_first, segment_front, segment_none}
use Rattle.table_fits.specs.Flowing.{Fitting, fitting, mode_in}
use Rattle.table_fits.specs.TableFits.{fits_of_value, table_fits}
use Rattle.table_fits.specs.Walk.{segment}
use Rattle.text_pieces.specs.declared.white_space.WhiteSpace.{WhiteSpace}

-- as many as there are values
length_fits : (f : Fitting) (mode : WhiteSpace) (vs : Values) → length (table_fits f mode vs) ≡ count vs
length_fits f mode none = refl
length_fits f mode (value head inside rest) = omega (
  arith,
  length-append (table_fits f (mode_in mode head) inside) (table_fits f mode rest),
  length_fits f (mode_in mode head) inside,
  length_fits f mode rest,
)

take_front : {X : Type 0} (n : ℕ) (xs ys : List X) → length xs ≡ n → take n (xs ++ ys) ≡ xs
take_front zero [] ys h = refl
take_front zero (x ∷ xs) ys h = absurd (omega (arith, h))
take_front (suc n) [] ys h = absurd (omega (arith, h))
take_front (suc n) (x ∷ xs) ys h = ap (λ l. x ∷ l) (take_front n xs ys (omega (arith, h)))

drop_front : {X : Type 0} (n : ℕ) (xs ys : List X) → length xs ≡ n → drop n (xs ++ ys) ≡ ys
drop_front zero [] ys h = refl
drop_front zero (x ∷ xs) ys h = absurd (omega (arith, h))
drop_front (suc n) [] ys h = absurd (omega (arith, h))
drop_front (suc n) (x ∷ xs) ys h = drop_front n xs ys (omega (arith, h))

first_there : {X : Type 0} (l : List X) (at n : ℕ) (x : X) (xs : List X) → take n (drop at l) ≡ x ∷ xs
    → at < length l
first_there {X} l at n x xs h =
    omega (arith, ap (λ (k : List X). length k) h, length-drop at l, length-take n (drop at l))

-- of the first value, of what stands in it, and of those that follow it
pub record FirstFits (fs : Option (List (List ColumnFit))) (o : Option RenderOptions) (measure : Measure)
    (mode : WhiteSpace) (at end below : ℕ) (head : Head) (inside rest : Values) : Type 0 where
  pub there : IfSome fs (λ l. at < length l)
  pub own : fits_at fs at ≡ option_map (λ options. fits_of_value (fitting options measure) mode head inside) o
  pub inner : fits_between fs (at + 1) (at + 1 + below)
      ≡ option_map (λ options. table_fits (fitting options measure) (mode_in mode head) inside) o
  pub later : fits_between fs (at + 1 + below) end
      ≡ option_map (λ options. table_fits (fitting options measure) mode rest) o

abbrev pub IsFitted : Option (List (List ColumnFit)) → Sizing → (at end below : ℕ) → Head → (inside rest : Values)
    → Type 0
IsFitted fs w at end below head inside rest = FirstFits fs w.fitted w.measure w.mode at end below head inside rest

split_fits : (fs : Option (List (List ColumnFit))) (o : Option RenderOptions) (measure : Measure)
    (mode : WhiteSpace) (at end below : ℕ) (head : Head) (inside rest : Values) → at + 1 + below ≤ end
    → count inside ≡ below → fits_between fs at end
    ≡ option_map (λ options. table_fits (fitting options measure) mode (value head inside rest)) o
    → FirstFits fs o measure mode at end below head inside rest
split_fits None None measure mode at end below head inside rest room many h =
    record { there = tt; own = refl; inner = refl; later = refl }
split_fits None (Some o) measure mode at end below head inside rest room many h = absurd (cc h)
split_fits (Some l) None measure mode at end below head inside rest room many h = absurd (cc h)
split_fits (Some l) (Some o) measure mode at end below head inside rest room many h =
    let f = fitting o measure in
    let one = fits_of_value f mode head inside in
    let two = table_fits f (mode_in mode head) inside in
    let three = table_fits f mode rest in
    let is : segment l at end ≡ one ∷ (two ++ three) =
    ap (λ (k : Option (List (List ColumnFit))). unwrap_or k []) h in
    let within : at < length l = first_there l at (end - at) one (two ++ three) is in
    let cut = segment_first l at end [] (omega (arith, room)) within in
    let long : length two ≡ below = length_fits f (mode_in mode head) inside ∙ many in
    let tails : segment l (at + 1) end ≡ two ++ three = ap (λ (k : List (List ColumnFit)). drop 1 k) (sym cut ∙ is) in
    record {
      there = within;
      own = ap Some (ap (λ (k : List (List ColumnFit)). get_or k 0 []) (sym cut ∙ is));
      inner = ap Some (sym (segment_front l (at + 1) below end room)
          ∙ (ap (λ (k : List (List ColumnFit)). take below k) tails ∙ take_front below two three long));
      later = ap Some (sym (segment_back l (at + 1) below end room)
          ∙ (ap (λ (k : List (List ColumnFit)). drop below k) tails ∙ drop_front below two three long));
    }

pub first_fits : (fs : Option (List (List ColumnFit))) (w : Sizing) (at end below : ℕ) (head : Head)
    (inside rest : Values) → at + 1 + below ≤ end → count inside ≡ below
    → fits_between fs at end ≡ all_fits w (value head inside rest) → IsFitted fs w at end below head inside rest
first_fits fs w at end below head inside rest room many h =
    split_fits fs w.fitted w.measure w.mode at end below head inside rest room many h

-- ---- none, and all

-- both are given, or neither
abbrev pub AreGiven : Option (List (List ColumnFit)) → Sizing → Type 0
AreGiven fs w = is_some fs ≡ is_some w.fitted

given_both : {A B C : Type 0} (a : Option A) (b : Option B) (f : A → C) (g : B → C)
    → option_map f a ≡ option_map g b → is_some a ≡ is_some b
given_both None None f g h = refl
given_both None (Some y) f g h = absurd (cc h)
given_both (Some x) None f g h = absurd (cc h)
given_both (Some x) (Some y) f g h = refl

pub are_given : (fs : Option (List (List ColumnFit))) (w : Sizing) (from to : ℕ) (values : Values)
    → fits_between fs from to ≡ all_fits w values → AreGiven fs w
are_given fs w from to values h = given_both fs w.fitted (λ l. segment l from to)
    (λ options. table_fits (fitting options w.measure) w.mode values) h

none_given : (fs : Option (List (List ColumnFit))) (o : Option RenderOptions) (measure : Measure) (mode : WhiteSpace)
    (at end : ℕ) → end ≤ at → is_some fs ≡ is_some o
    → fits_between fs at end ≡ option_map (λ options. table_fits (fitting options measure) mode none) o
none_given None None measure mode at end past h = refl
none_given None (Some o) measure mode at end past h = absurd (cc h)
none_given (Some l) None measure mode at end past h = absurd (cc h)
none_given (Some l) (Some o) measure mode at end past h = ap Some (segment_none l at end past)

pub no_fits : (fs : Option (List (List ColumnFit))) (w : Sizing) (at end : ℕ) → end ≤ at → AreGiven fs w
    → fits_between fs at end ≡ all_fits w none
no_fits fs w at end past given = none_given fs w.fitted w.measure w.mode at end past given

all_given : (o : Option RenderOptions) (measure : Measure) (mode : WhiteSpace) (values : Values) (n : ℕ)
    → count values ≡ n
    → fits_between (option_map (λ options. table_fits (fitting options measure) mode values) o) 0 n
    ≡ option_map (λ options. table_fits (fitting options measure) mode values) o
all_given None measure mode values n long = refl
all_given (Some o) measure mode values n long =
    let all = table_fits (fitting o measure) mode values in
    ap Some (ap (λ k. segment all 0 k) (sym (length_fits (fitting o measure) mode values ∙ long)) ∙ segment_all all)

pub all_between : (w : Sizing) (values : Values) (n : ℕ) → count values ≡ n
    → fits_between (all_fits w values) 0 n ≡ all_fits w values
all_between w values n long = all_given w.fitted w.measure w.mode values n long
