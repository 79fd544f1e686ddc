-- What it takes for a rank to fall, over any places of modes; and rows that never hand a mark on.
use Rattle.std.proofs.Common.{◌≡◌, ℕ, ◌≤◌, ◌<◌, ◌+◌, ◌*◌, Bool, true, false, if◌then◌else◌, [], ◌∷◌, refl, ap, arith}
use Rattle.rules_table.specs.Actions.{act, act_all, break_out}
use Rattle.rules_table.specs.Rank.{how_many}
use Rattle.rules_table.specs.Rows.{Row, TextRow, after, again, asks, done, dropped, for_character, for_null, fostered}
use Rattle.rules_table.specs.Rows.{kept, said_after, then_again}
use Rattle.rules_table.specs.Settling.{Ready}
use Rattle.rules_table.specs.State.{State}
use Rattle.tree_predicates.specs.declared.modes.InsertionMode.{InsertionMode}
use Rattle.rules_table_laws.proofs.ActionLemmas.{count, low_break_out}

abbrev pub rank_at : (InsertionMode → ℕ) → State → ℕ
rank_at p s = 16 * how_many s.tree.forest s.tree.stack + p s.mode

abbrev pub FallsAt : (InsertionMode → ℕ) → State → Row → Type 0
FallsAt p s (done actions) = Unit {0}
FallsAt p s (asks ask actions) = Unit {0}
FallsAt p s (again actions) = rank_at p (act_all actions s) < rank_at p s

abbrev pub TextFalls : (InsertionMode → ℕ) → State → TextRow → Type 0
TextFalls p s dropped = Unit {0}
TextFalls p s (said_after actions) = Unit {0}
TextFalls p s kept = Unit {0}
TextFalls p s (then_again actions) = rank_at p (act_all actions s) < rank_at p s

abbrev pub IsTakenAtOnce : Row → Type 0
IsTakenAtOnce (done actions) = Unit {0}
IsTakenAtOnce (asks ask actions) = Unit {0}
IsTakenAtOnce (again actions) = ⊥

ranks_fall : (x y a b c d : ℕ) → x ≤ y → a ≡ c → b ≡ d → c < d → 16 * x + a < 16 * y + b
ranks_fall x y a b c d h i j k = omega (arith, h, i, j, k)

counts_fall : (x y a b : ℕ) → x < y → a ≤ 15 → 16 * x + a < 16 * y + b
counts_fall x y a b h i = omega (arith, h, i)

-- the mode stands further on, and no more tables and templates are open
pub goes : (p : InsertionMode → ℕ) (s after : State) (old new : InsertionMode) → count after ≤ count s →
    s.mode ≡ old → after.mode ≡ new → p new < p old → rank_at p after < rank_at p s
goes p s after old new fewer was now less =
    ranks_fall (count after) (count s) (p after.mode) (p s.mode) (p new) (p old) fewer (ap p now) (ap p was) less

-- fewer of them are open
pub closes : (p : InsertionMode → ℕ) (s after : State) → count after < count s → p after.mode ≤ 15 →
    rank_at p after < rank_at p s
closes p s after fewer bound = counts_fall (count after) (count s) (p after.mode) (p s.mode) fewer bound

pub falls_if : (p : InsertionMode → ℕ) (s : State) (b : Bool) (x y : Row) → (b ≡ true → FallsAt p s x) →
    FallsAt p s y → FallsAt p s (if b then x else y)
falls_if p s true x y f g = f refl
falls_if p s false x y f g = g

pub text_if : (p : InsertionMode → ℕ) (s : State) (b : Bool) (x y : TextRow) → TextFalls p s x →
    TextFalls p s y → TextFalls p s (if b then x else y)
text_if p s true x y f g = f
text_if p s false x y f g = g

pub of_character : (p : InsertionMode → ℕ) (s : State) (c : ℕ) (text : TextRow) → TextFalls p s text →
    FallsAt p s (for_character c text)
of_character p s c dropped falls = tt
of_character p s c (said_after actions) falls = tt
of_character p s c kept falls = tt
of_character p s c (then_again actions) falls = falls

pub of_null : (p : InsertionMode → ℕ) (s : State) (text : TextRow) → TextFalls p s text → FallsAt p s (for_null text)
of_null p s dropped falls = tt
of_null p s (said_after actions) falls = tt
of_null p s kept falls = tt
of_null p s (then_again actions) falls = falls

-- a row that hands nothing on
pub at_once : (p : InsertionMode → ℕ) (s : State) (r : Row) → IsTakenAtOnce r → FallsAt p s r
at_once p s (done actions) is = tt
at_once p s (asks ask actions) is = tt
at_once p s (again actions) is = absurd is

pub once_if : (b : Bool) (x y : Row) → IsTakenAtOnce x → IsTakenAtOnce y → IsTakenAtOnce (if b then x else y)
once_if true x y f g = f
once_if false x y f g = g

pub once_fostered : (r : Row) → IsTakenAtOnce r → IsTakenAtOnce (fostered r)
once_fostered (done actions) is = tt
once_fostered (asks ask actions) is = tt
once_fostered (again actions) is = is

trailing : (x y z a b c : ℕ) → 16 * x + a < 16 * y + b → y ≤ z → b ≡ c → 16 * x + a < 16 * z + c
trailing x y z a b c h i j = omega (arith, h, i, j)

-- breaking out of foreign content comes first, and leaves the mode
pub after_break_out : (p : InsertionMode → ℕ) (s : State) (r : Row) → Ready s → FallsAt p (act break_out s) r →
    FallsAt p s (after (break_out ∷ []) r)
unfolding act
after_break_out p s (done actions) ready falls = tt
after_break_out p s (asks ask actions) ready falls = tt
after_break_out p s (again actions) ready falls =
    let far = act_all actions (act break_out s) in
    trailing (count far) (count (act break_out s)) (count s) (p far.mode) (p (act break_out s).mode) (p s.mode) falls
    (low_break_out s ready) refl

pub mode_stays : (s : State) → (act break_out s).mode ≡ s.mode
unfolding act
mode_stays s = refl
