-- Rows that go by cases, one after another, or with foster parenting on: they fit where their parts do.
use Rattle.std.proofs.Common.{◌≡◌, Bool, true, false, if◌then◌else◌, List, [], ◌∷◌, ◌++◌, refl, sym, ◌∙◌}
use Rattle.html_lexemes.specs.declared.token.Tag.{Tag}
use Rattle.html_tree_state.specs.Formatting.{name_for}
use Rattle.page_tree_laws.proofs.Fits.{CanBuild, CanGoOn, FitAll, Fits, FitsRow, FitsText, IsHeld, OpensFor, opens}
use Rattle.page_tree_laws.proofs.Fits.{opens_by}
use Rattle.page_tree_laws.proofs.Guards.{Guard, IsGuarded, is_barred}
use Rattle.rules_table.specs.Actions.{Action, act, break_out, foster, insert, insert_void}
use Rattle.rules_table.specs.Rows.{Row, TextRow, after, again, asks, between_fosters, done, fostered}
use Rattle.rules_table.specs.State.{Ask, State, encoding, nothing, plaintext, raw, script}
use Rattle.rules_table.specs.declared.target.Target.{Target}
use Rattle.rules_table.specs.declared.target.Target.TheVariants as targets

pub fits_if : (g : Guard) (s : State) (b : Bool) (x y : Row) → (b ≡ true → FitsRow g s x) →
    (b ≡ false → FitsRow g s y) → FitsRow g s (if b then x else y)
fits_if g s true x y f h = f refl
fits_if g s false x y f h = h refl

pub text_if : (g : Guard) (s : State) (b : Bool) (x y : TextRow) → (b ≡ true → FitsText g s x) →
    (b ≡ false → FitsText g s y) → FitsText g s (if b then x else y)
text_if g s true x y f h = f refl
text_if g s false x y f h = h refl

pub all_if : (g : Guard) (s : State) (b : Bool) (xs ys : List Action) → (b ≡ true → FitAll g xs s) →
    (b ≡ false → FitAll g ys s) → FitAll g (if b then xs else ys) s
all_if g s true xs ys f h = f refl
all_if g s false xs ys f h = h refl

-- actions after others, which fit wherever they come
pub fit_append : (g : Guard) (xs ys : List Action) (s : State) → FitAll g xs s → ((d : State) → FitAll g ys d) →
    FitAll g (xs ++ ys) s
fit_append g [] ys s fit more = more s
fit_append g (x ∷ xs) ys s fit more = (fit.0, fit_append g xs ys (act x s) fit.1 more)

-- an element, whatever the target
pub insert_fits : (g : Guard) (at : Target) (t : Tag) (s : State) → is_barred g (name_for t) ≡ false →
    Fits g (insert at t) s
insert_fits g targets.AtPlace t s free = free
insert_fits g targets.IntoHead t s free = free

pub void_fits : (g : Guard) (at : Target) (t : Tag) (s : State) → Fits g (insert_void at t) s
void_fits g targets.AtPlace t s = tt
void_fits g targets.IntoHead t s = tt

-- foster parenting may be turned on where a guard lets it
pub may_foster : (g : Guard) → g.fosters ≡ true → (is_on : Bool) → g.fosters ≡ false → is_on ≡ false
may_foster g fosters is_on off = absurd (let k : true ≡ false = sym fosters ∙ off in cc)

-- foster parenting is turned off after a row
opens_append : (b : Bool) (xs ys : List Action) → opens b (xs ++ ys) ≡ opens (opens b xs) ys
opens_append b [] ys = refl
opens_append b (x ∷ xs) ys = opens_append (opens_by b x) xs ys

opens_between : (ask : Ask) (actions : List Action) → OpensFor ask actions → OpensFor ask (between_fosters actions)
opens_between nothing actions is = tt
opens_between plaintext actions is = tt
opens_between (raw kind) actions is = opens_append false actions (foster false ∷ []) ∙ is
opens_between (script n) actions is = tt
opens_between (encoding name) actions is = tt

between_fits : (g : Guard) (s : State) (actions : List Action) → g.fosters ≡ true →
    FitAll g actions (act (foster true) s) → FitAll g (between_fosters actions) s
between_fits g s actions fosters fit = (
  may_foster g fosters true,
  fit_append g actions (foster false ∷ []) (act (foster true) s) fit (λ d. (λ e. refl, tt)),
)

pub fostered_fits : (g : Guard) (s : State) (r : Row) → g.fosters ≡ true → FitsRow g (act (foster true) s) r →
    FitsRow g s (fostered r)
fostered_fits g s (done actions) fosters fit = between_fits g s actions fosters fit
fostered_fits g s (asks ask actions) fosters fit =
    (between_fits g s actions fosters fit.0, opens_between ask actions fit.1)
fostered_fits g s (again actions) fosters fit = between_fits g s actions fosters fit

-- what holds of a state stays so where foster parenting is turned on
guarded_on : (g : Guard) (s : State) → g.fosters ≡ true → IsGuarded g s.tree →
    IsGuarded g (act (foster true) s).tree
unfolding act
guarded_on g s fosters guarded = record {
  nodes = guarded.nodes;
  standing = guarded.standing;
  unbarred = guarded.unbarred;
  listed = guarded.listed;
  fostering = may_foster g fosters true;
}

held_on : (g : Guard) (s : State) → g.fosters ≡ true → IsHeld g s → IsHeld g (act (foster true) s)
unfolding act
held_on g s fosters held = record {
  tree = guarded_on g s fosters held.tree;
  head = held.head;
  form = held.form;
  page = held.page;
  mode = held.mode;
  original = held.original;
  templates = held.templates;
}

pub goes_on : (g : Guard) (s : State) → g.fosters ≡ true → CanGoOn g s → CanGoOn g (act (foster true) s)
unfolding act
goes_on g s fosters can = record {
  held = held_on g s fosters can.held;
  in_body = can.in_body;
  ends = can.ends;
}

pub builds_on : (g : Guard) (s : State) → CanBuild g s → CanBuild g (act (foster true) s)
unfolding act
builds_on g s can = record {
  goes_on = goes_on g s can.tables.fosters can.goes_on;
  tables = can.tables;
  resets = can.resets;
  unframed = can.unframed;
}

-- breaking out of foreign content comes first
opens_after : (ask : Ask) (actions : List Action) → OpensFor ask actions → OpensFor ask (break_out ∷ actions)
opens_after nothing actions is = tt
opens_after plaintext actions is = tt
opens_after (raw kind) actions is = is
opens_after (script n) actions is = tt
opens_after (encoding name) actions is = tt

pub after_fits : (g : Guard) (s : State) (r : Row) → FitsRow g (act break_out s) r →
    FitsRow g s (after (break_out ∷ []) r)
after_fits g s (done actions) fit = (tt, fit)
after_fits g s (asks ask actions) fit = ((tt, fit.0), opens_after ask actions fit.1)
after_fits g s (again actions) fit = (tt, fit)
