-- Flows, read item by item.
use Rattle.std.proofs.Common.{◌≡◌, ◌<◌, ◌==◌, [], ◌∷◌, ◌++◌, ◌∙◌, Bool, IsUtf8, List, None, Option, Some, ap}
use Rattle.std.proofs.Common.{append-nil, append_assoc, arith, chars, false, get_or, length, length-append, refl, subst}
use Rattle.std.proofs.Common.{suc, sym, take, true, zero, ℕ}
use Rattle.std.specs.Prelude.{if◌then◌else◌}
use Rattle.std.proofs.Math.Seq.{take-suc}
use Rattle.std.proofs.lemmas.Bool.Decides.{nat_tests}
use Rattle.std.proofs.lemmas.Str.{chars-nil}
use Rattle.text_lines.proofs.Emptiness.{chars_nil}
use Rattle.text_normal.specs.Units.{lettered, units}
use Rattle.text_pieces.specs.Modes.{is_same_mode}
use Rattle.text_pieces.specs.Sources.{is_filled}
use Rattle.text_pieces.specs.declared.white_space.WhiteSpace.{WhiteSpace}
use Rattle.text_pieces.specs.declared.white_space.WhiteSpace.TheVariants.{Normal, Pre, PreWrap}
use Rattle.content_widths.proofs.LineLemmas.{all_lines}
use Rattle.content_widths.proofs.TogetherLemmas.{all_together}
use Rattle.content_widths.proofs.WordLemmas.{all_words}
use Rattle.content_widths.specs.Flows.{FlowItem, Stretch, apart, at_most, block, capped, flow_widths, greater}
use Rattle.content_widths.specs.Flows.{greatest_of, joined, no_columns, run, stretch_widths, stretches, text}
use Rattle.content_widths.specs.Reading.{HasRunning, IsOneLine, IsReading, IsRunning, Measures, one_line_columns}
use Rattle.content_widths.specs.Reading.{reading_widths, running_in, widths_so_far, widths_with}
use Rattle.content_widths.specs.Texts.{lines_columns, units_columns, widest_of}
use Rattle.content_widths.specs.declared.flow.FlowWidths.{FlowWidths}
use Rattle.content_widths.specs.declared.reading.OneLine.{OneLine}
use Rattle.content_widths.specs.declared.reading.OneLine.TheVariants.{Collapsed, Preserved}
use Rattle.content_widths.specs.declared.reading.Reading.{Reading}
use Rattle.content_widths.specs.declared.widths.ContentWidths.{ContentWidths}

-- ---- a text's characters, one by one

pushed : {Y : Type 0} (ys : List Y) (y : Y) → length (ys ++ y ∷ []) ≡ suc (length ys)
pushed ys y = let a = length-append ys (y ∷ []) in omega arith

next_taken : {Y : Type 0} (cs : List ℕ) (ys : List Y) (y : Y) (c : ℕ) → (length ys < length cs)
    × (c ≡ get_or cs (length ys) c) → take (length ys) cs ++ c ∷ [] ≡ take (length (ys ++ y ∷ [])) cs
next_taken cs ys y c turn =
    ap (λ d. take (length ys) cs ++ d ∷ []) turn.1 ∙ sym (take-suc cs (length ys) c turn.0)
    ∙ ap (λ n. take n cs) (sym (pushed ys y))

-- one character more is read
pub next_read : {Y : Type 0} (new : Reading) (mode : WhiteSpace) (before cs : List ℕ) (ys : List Y) (y : Y) (c : ℕ)
    → (length ys < length cs) × (c ≡ get_or cs (length ys) c)
    → IsReading new mode ((before ++ take (length ys) cs) ++ c ∷ [])
    → IsReading new mode (before ++ take (length (ys ++ y ∷ [])) cs)
next_read new mode before cs ys y c turn h =
    subst (IsReading new mode) (append_assoc before (take (length ys) cs) (c ∷ [])
    ∙ ap (λ xs. before ++ xs) (next_taken cs ys y c turn)) h

take_whole : (i : ℕ) (cs : List ℕ) → i ≡ length cs → take i cs ≡ cs
take_whole zero [] e = refl
take_whole zero (c ∷ cs) e = absurd (omega arith)
take_whole (suc i) [] e = refl
take_whole (suc i) (c ∷ cs) e = ap (λ xs. c ∷ xs) (take_whole i cs (omega arith))

pub all_read : {Y : Type 0} (r : Reading) (mode : WhiteSpace) (before cs : List ℕ) (ys : List Y)
    → length ys ≡ length cs → IsReading r mode (before ++ take (length ys) cs) → IsReading r mode (before ++ cs)
all_read r mode before cs ys all h =
    subst (λ xs. IsReading r mode (before ++ xs)) (take_whole (length ys) cs all) h

pub nothing_read : (r : Reading) (mode : WhiteSpace) (before : List ℕ) → IsReading r mode before
    → IsReading r mode (before ++ [])
nothing_read r mode before h = subst (IsReading r mode) (sym (append-nil before)) h

-- ---- texts with and without characters

some_length : (b : ℕ) (bs : List ℕ) → (length (b ∷ bs) == 0) ≡ false
some_length b bs = grind (arith, nat_tests)

pub no_characters : (bs : List ℕ) → (length bs == 0) ≡ true → chars bs ≡ []
no_characters [] h = chars-nil
no_characters (b ∷ bs) h = let k = sym (some_length b bs) ∙ h in cc

filled_unless : (cs : List ℕ) → (cs ≡ [] → ⊥) → is_filled cs ≡ true
filled_unless [] some = absurd (some refl)
filled_unless (c ∷ cs) some = refl

some_text : (bs : List ℕ) → IsUtf8 bs → (length bs == 0) ≡ false → chars bs ≡ [] → ⊥
some_text [] utf8 h none = cc
some_text (b ∷ bs) utf8 h none = let k = chars_nil (b ∷ bs) utf8 none in cc

pub some_characters : (bs : List ℕ) → IsUtf8 bs → (length bs == 0) ≡ false → is_filled (chars bs) ≡ true
some_characters bs utf8 h = filled_unless (chars bs) (some_text bs utf8 h)

-- ---- columns of stretches

same_widths : (a b c d : ℕ) → a ≡ b → c ≡ d
    → (let x : ContentWidths = record { narrowest = a; widest = c } in x) ≡ record { narrowest = b; widest = d }
same_widths a b c d e h = cc

greater_none : (w : ContentWidths) → greater w no_columns ≡ w
greater_none w = same_widths _ _ _ _ (omega arith) (omega arith)

none_greater : (w : ContentWidths) → w ≡ greater no_columns w
none_greater w = same_widths _ _ _ _ (omega arith) (omega arith)

greater_assoc : (a b c : ContentWidths) → greater a (greater b c) ≡ greater (greater a b) c
greater_assoc a b c = same_widths _ _ _ _ (omega arith) (omega arith)

greatest_more : (most : Option ℕ) (ss : List Stretch) (s : Stretch)
    → greater (greatest_of most ss) (stretch_widths most s) ≡ greatest_of most (ss ++ s ∷ [])
greatest_more most [] s = sym (none_greater (stretch_widths most s)) ∙ sym (greater_none (stretch_widths most s))
greatest_more most (x ∷ xs) s =
    sym (greater_assoc (stretch_widths most x) (greatest_of most xs) (stretch_widths most s))
    ∙ ap (greater (stretch_widths most x)) (greatest_more most xs s)

one_line_is : (o : OneLine) (mode : WhiteSpace) (cs : List ℕ) → IsOneLine o mode cs
    → one_line_columns o ≡ capped (widest_of mode cs)
one_line_is (Collapsed words) mode cs h =
    all_words words cs h.1
    ∙ ap (λ b. capped (if b then lines_columns 0 cs else units_columns (units (lettered cs (tt {0}))))) (sym h.0)
one_line_is (Preserved lines) mode cs h =
    all_lines lines cs h.1
    ∙ ap (λ b. capped (if b then lines_columns 0 cs else units_columns (units (lettered cs (tt {0}))))) (sym h.0)

reading_is : (most : Option ℕ) (r : Reading) (mode : WhiteSpace) (cs : List ℕ) → IsReading r mode cs
    → reading_widths most r ≡ stretch_widths most (run mode cs)
reading_is most r mode cs h =
    same_widths _ _ _ _ (ap (at_most most) (all_together r.together cs h.together))
    (ap (at_most most) (one_line_is r.one_line mode cs h.one_line))

-- ---- where a stretch goes on, and where it ends

same_mode : (m n : WhiteSpace) → is_same_mode m n ≡ true → m ≡ n
same_mode Normal Normal e = refl
same_mode Normal Pre e = cc
same_mode Normal PreWrap e = cc
same_mode Pre Normal e = cc
same_mode Pre Pre e = refl
same_mode Pre PreWrap e = cc
same_mode PreWrap Normal e = cc
same_mode PreWrap Pre e = cc
same_mode PreWrap PreWrap e = refl

itself : (m : WhiteSpace) → is_same_mode m m ≡ true
itself Normal = refl
itself Pre = refl
itself PreWrap = refl

joins : (m n : WhiteSpace) (cs ds : List ℕ) (rest : List Stretch) → is_same_mode m n ≡ true
    → joined m cs (run n ds ∷ rest) ≡ run m (cs ++ ds) ∷ rest
joins m n cs ds rest e = ap (λ b. if b then run m (cs ++ ds) ∷ rest else run m cs ∷ run n ds ∷ rest) e

parts : (m n : WhiteSpace) (cs ds : List ℕ) (rest : List Stretch) → is_same_mode m n ≡ false
    → joined m cs (run n ds ∷ rest) ≡ run m cs ∷ run n ds ∷ rest
parts m n cs ds rest e = ap (λ b. if b then run m (cs ++ ds) ∷ rest else run m cs ∷ run n ds ∷ rest) e

joined_twice : (m : WhiteSpace) (cs ds : List ℕ) (ss : List Stretch)
    → joined m cs (joined m ds ss) ≡ joined m (cs ++ ds) ss
joined_twice m cs ds [] = joins m m cs ds [] (itself m)
joined_twice m cs ds (apart w ∷ rest) = joins m m cs ds (apart w ∷ rest) (itself m)
joined_twice m cs ds (run n es ∷ rest) = by_mode (is_same_mode m n)
  where
    by_mode : (b : Bool) → joined m cs (if b then run m (ds ++ es) ∷ rest else run m ds ∷ run n es ∷ rest)
        ≡ (if b then run m ((cs ++ ds) ++ es) ∷ rest else run m (cs ++ ds) ∷ run n es ∷ rest)
    by_mode true = joins m m cs (ds ++ es) rest (itself m) ∙ ap (λ xs. run m xs ∷ rest) (sym (append_assoc cs ds es))
    by_mode false = joins m m cs ds (run n es ∷ rest) (itself m)

joined_other : (m n : WhiteSpace) (cs ds : List ℕ) (ss : List Stretch) → is_same_mode m n ≡ false
    → joined m cs (joined n ds ss) ≡ run m cs ∷ joined n ds ss
joined_other m n cs ds [] e = parts m n cs ds [] e
joined_other m n cs ds (apart w ∷ rest) e = parts m n cs ds (apart w ∷ rest) e
joined_other m n cs ds (run k es ∷ rest) e = by_mode (is_same_mode n k)
  where
    by_mode : (b : Bool) → joined m cs (if b then run n (ds ++ es) ∷ rest else run n ds ∷ run k es ∷ rest)
        ≡ run m cs ∷ (if b then run n (ds ++ es) ∷ rest else run n ds ∷ run k es ∷ rest)
    by_mode true = parts m n cs (ds ++ es) rest e
    by_mode false = parts m n cs ds (run k es ∷ rest) e

-- the stretch that runs doesn't join what follows
abbrev EndsBefore : Option Reading → List Stretch → Type 0
EndsBefore None ss = Unit {0}
EndsBefore (Some r) ss = (cs : List ℕ) → joined r.mode cs ss ≡ run r.mode cs ∷ ss

record IsEnded (most : Option ℕ) (widths : ContentWidths) (running : Option Reading) (items : List FlowItem) : Type 0
  where
    past : List Stretch
    ended : widths ≡ greatest_of most past
    gives : (more : List FlowItem) → EndsBefore running (stretches more)
        → stretches (items ++ more) ≡ past ++ stretches more

with_run : (most : Option ℕ) (ended : ContentWidths) (r : Reading) (past : List Stretch) (items : List FlowItem)
    → ended ≡ greatest_of most past → IsRunning r past items
    → IsEnded most (widths_with most ended (Some r)) (Some r) items
with_run most ended r past items e h = record {
  past = past ++ run r.mode h.text ∷ [];
  ended =
      ap (λ w. greater w (reading_widths most r)) e
      ∙ ap (greater (greatest_of most past)) (reading_is most r r.mode h.text h.reads)
      ∙ greatest_more most past (run r.mode h.text);
  gives = λ more ends.
      h.gives more ∙ ap (λ ss. past ++ ss) (ends h.text)
      ∙ sym (append_assoc past (run r.mode h.text ∷ []) (stretches more));
}

ended_at : (most : Option ℕ) (ended : ContentWidths) (running : Option Reading) (past : List Stretch)
    (items : List FlowItem) → ended ≡ greatest_of most past → HasRunning running past items
    → IsEnded most (widths_with most ended running) running items
ended_at most ended None past items e h = record { past = past; ended = e; gives = λ more ends. h more }
ended_at most ended (Some r) past items e h = with_run most ended r past items e h

ended_flow : (f : FlowWidths) (most : Option ℕ) (items : List FlowItem) → Measures f most items
    → IsEnded most (widths_so_far f) f.running items
ended_flow f most items h =
    subst (λ w. IsEnded most w f.running items) (ap (λ m. widths_with m f.ended f.running) (sym h.same_most))
    (ended_at most f.ended f.running h.past items h.ended h.running)

at_the_end : (running : Option Reading) → EndsBefore running []
at_the_end None = tt
at_the_end (Some r) = λ cs. refl

pub all_measured : (f : FlowWidths) (most : Option ℕ) (items : List FlowItem) → Measures f most items
    → widths_so_far f ≡ flow_widths most items
unfolding flow_widths
all_measured f most items h =
    let e = ended_flow f most items h in
    e.ended
    ∙ ap (greatest_of most) (sym (append-nil e.past) ∙ sym (e.gives [] (at_the_end f.running))
    ∙ ap stretches (append-nil items))

-- ---- a block

before_block : (running : Option Reading) (w : ContentWidths) (ss : List Stretch) → EndsBefore running (apart w ∷ ss)
before_block None w ss = tt
before_block (Some r) w ss = λ cs. refl

pub after_block : (f : FlowWidths) (new widths : ContentWidths) (most : Option ℕ) (items : List FlowItem)
    → new ≡ greater (widths_so_far f) widths → Measures f most items
    → Measures (record { most = f.most; ended = new; running = None }) most (items ++ block widths ∷ [])
after_block f new widths most items is h =
    let e = ended_flow f most items h in
    record {
      same_most = h.same_most;
      past = e.past ++ apart widths ∷ [];
      ended = is ∙ ap (λ w. greater w widths) e.ended ∙ greatest_more most e.past (apart widths);
      running = λ more.
          ap stretches (append_assoc items (block widths ∷ []) more)
          ∙ e.gives (block widths ∷ more) (before_block f.running widths (stretches more))
          ∙ sym (append_assoc e.past (apart widths ∷ []) (stretches more));
    }

-- ---- a text

empty_at : (running : Option Reading) (past : List Stretch) (items : List FlowItem) (mode : WhiteSpace)
    → HasRunning running past items → HasRunning running past (items ++ text mode [] ∷ [])
empty_at None past items mode h =
    λ more. ap stretches (append_assoc items (text mode [] ∷ []) more) ∙ h (text mode [] ∷ more)
empty_at (Some r) past items mode h = record {
  text = h.text;
  reads = h.reads;
  gives = λ more. ap stretches (append_assoc items (text mode [] ∷ []) more) ∙ h.gives (text mode [] ∷ more);
}

pub after_empty : (f : FlowWidths) (most : Option ℕ) (items : List FlowItem) (mode : WhiteSpace) (cs : List ℕ)
    → cs ≡ [] → Measures f most items → Measures f most (items ++ text mode cs ∷ [])
after_empty f most items mode cs none h =
    subst (λ xs. Measures f most (items ++ text mode xs ∷ [])) (sym none) (record {
      same_most = h.same_most;
      past = h.past;
      ended = h.ended;
      running = empty_at f.running h.past items mode h.running;
    })

filled_text : (mode : WhiteSpace) (cs : List ℕ) (items : List FlowItem) → is_filled cs ≡ true
    → stretches (text mode cs ∷ items) ≡ joined mode cs (stretches items)
filled_text mode cs items some = ap (λ b. if b then joined mode cs (stretches items) else stretches items) some

before_text : (running : Option Reading) (mode : WhiteSpace) (cs : List ℕ) (ss : List Stretch)
    → running_in running mode ≡ None → EndsBefore running (joined mode cs ss)
before_text None mode cs ss other = tt
before_text (Some r) mode cs ss other = by_mode (is_same_mode r.mode mode) refl other
  where
    by_mode : (b : Bool) → is_same_mode r.mode mode ≡ b → (if b then Some r else None) ≡ None
        → (ds : List ℕ) → joined r.mode ds (joined mode cs ss) ≡ run r.mode ds ∷ joined mode cs ss
    by_mode true is other = λ ds. cc
    by_mode false is other = λ ds. joined_other r.mode mode ds cs ss is

-- of another mode than the stretch that ran, or after a block
pub after_other : (f : FlowWidths) (ended : ContentWidths) (new : Reading) (most : Option ℕ) (items : List FlowItem)
    (mode : WhiteSpace) (cs : List ℕ) → is_filled cs ≡ true → running_in f.running mode ≡ None
    → ended ≡ widths_so_far f → IsReading new mode cs → Measures f most items
    → Measures (record { most = f.most; ended = ended; running = Some new }) most (items ++ text mode cs ∷ [])
after_other f ended new most items mode cs some other is reads h =
    let e = ended_flow f most items h in
    record {
      same_most = h.same_most;
      past = e.past;
      ended = is ∙ e.ended;
      running = record {
        text = cs;
        reads = subst (λ m. IsReading new m cs) (sym reads.same_mode) reads;
        gives = λ more.
            let follows = filled_text mode cs more some in
            ap stretches (append_assoc items (text mode cs ∷ []) more)
            ∙ e.gives (text mode cs ∷ more) (subst (EndsBefore f.running) (sym follows)
            (before_text f.running mode cs (stretches more) other))
            ∙ ap (λ ss. e.past ++ ss) (follows ∙ ap (λ m. joined m cs (stretches more)) (sym reads.same_mode));
      };
    }

goes_on : (r new : Reading) (past : List Stretch) (items : List FlowItem) (cs : List ℕ) → is_filled cs ≡ true
    → ((mode : WhiteSpace) (before : List ℕ) → IsReading r mode before → IsReading new mode (before ++ cs))
    → IsRunning r past items → IsRunning new past (items ++ text r.mode cs ∷ [])
goes_on r new past items cs some reads h =
    let now = reads r.mode h.text h.reads in
    record {
      text = h.text ++ cs;
      reads = subst (λ m. IsReading new m (h.text ++ cs)) (sym now.same_mode) now;
      gives = λ more.
          ap stretches (append_assoc items (text r.mode cs ∷ []) more)
          ∙ h.gives (text r.mode cs ∷ more)
          ∙ ap (λ ss. past ++ joined r.mode h.text ss) (filled_text r.mode cs more some)
          ∙ ap (λ ss. past ++ ss) (joined_twice r.mode h.text cs (stretches more)
          ∙ ap (λ m. joined m (h.text ++ cs) (stretches more)) (sym now.same_mode));
    }

goes_on_in : (running : Option Reading) (r new : Reading) (past : List Stretch) (items : List FlowItem)
    (mode : WhiteSpace) (cs : List ℕ) → is_filled cs ≡ true → running_in running mode ≡ Some r
    → ((mode : WhiteSpace) (before : List ℕ) → IsReading r mode before → IsReading new mode (before ++ cs))
    → HasRunning running past items → IsRunning new past (items ++ text mode cs ∷ [])
goes_on_in None r new past items mode cs some in_mode reads h = cc
goes_on_in (Some old) r new past items mode cs some in_mode reads h =
    by_mode (is_same_mode old.mode mode) refl in_mode
  where
    by_mode : (b : Bool) → is_same_mode old.mode mode ≡ b → (if b then Some old else None) ≡ Some r
        → IsRunning new past (items ++ text mode cs ∷ [])
    by_mode true is here =
        let same : old ≡ r = cc in
        subst (λ m. IsRunning new past (items ++ text m cs ∷ [])) (same_mode old.mode mode is)
        (goes_on old new past items cs some (subst (λ x. (mode : WhiteSpace) (before : List ℕ)
        → IsReading x mode before → IsReading new mode (before ++ cs)) (sym same) reads) h)
    by_mode false is here = cc

-- of the mode of the stretch that runs
pub after_same : (f : FlowWidths) (r new : Reading) (most : Option ℕ) (items : List FlowItem) (mode : WhiteSpace)
    (cs : List ℕ) → is_filled cs ≡ true → running_in f.running mode ≡ Some r
    → ((mode : WhiteSpace) (before : List ℕ) → IsReading r mode before → IsReading new mode (before ++ cs))
    → Measures f most items
    → Measures (record { most = f.most; ended = f.ended; running = Some new }) most (items ++ text mode cs ∷ [])
after_same f r new most items mode cs some in_mode reads h = record {
  same_most = h.same_most;
  past = h.past;
  ended = h.ended;
  running = goes_on_in f.running r new h.past items mode cs some in_mode reads h.running;
}
