-- The walk over the nodes of values: what of the pass is still to come.
use Rattle.std.specs.Prelude.{◌≡◌, ◌-◌, ◌<◌, ◌≤◌, [], ◌∷◌, List, None, drop, get_or, length, reverse, suc, take, zero}
use Rattle.std.specs.Prelude.{ℕ}
use Rattle.block_trait.specs.declared.options.RenderOptions.{RenderOptions}
use Rattle.render_sizes.specs.Extents.{Measure, extents, nothing_wide}
use Rattle.render_sizes.specs.declared.extent.Extent.{Extent}
use Rattle.render_values.specs.Arena.{IsFlat, values_of}
use Rattle.render_values.specs.Looks.{plain}
use Rattle.render_values.specs.declared.info.Head.{Head}
use Rattle.render_values.specs.declared.info.RenderInfo.TheVariants as infos
use Rattle.render_values.specs.declared.node.RenderNode.{RenderNode}
use Rattle.table_fits.specs.Flowing.{Fitting, fitting, standing}
use Rattle.table_fits.specs.Pass.{State, closes, nothing_passed, on_page, passed}
use Rattle.table_fits.specs.Seen.{IsKept, IsPassing}
use Rattle.table_fits.specs.declared.pass.OpenValue.{OpenValue}
use Rattle.table_fits.specs.declared.pass.Place.{Place}
use Rattle.table_fits.specs.declared.reading.Reading.{Reading}
use Rattle.table_fits.specs.declared.standing.Around.{Around}

abbrev pub segment : {X : Type 0} → List X → (from to : ℕ) → List X
segment xs from to = take (to - from) (drop from xs)

abbrev pub no_head : Head
no_head = record { info = infos.Nothing; style = plain; fragment = None }

abbrev pub head_at : List RenderNode → ℕ → Head
head_at [] at = no_head
head_at (x ∷ nodes) zero = x.head
head_at (x ∷ nodes) (suc at) = head_at nodes at

abbrev pub extent_at : List Extent → ℕ → Extent
extent_at sizes at = get_or sizes at nothing_wide

-- a value that has begun: its node; where the values end among which it stands, and what is said around them; and the
-- state of the pass before it
pub record Waiting : Type 0 where
  pub at : ℕ
  pub end : ℕ
  pub around : Around
  pub outer : State

-- From a place the values up to its end pass, then the value ends that began last, and what follows it passes.
abbrev pub to_come : Fitting → List RenderNode → List Extent → (at end : ℕ) → Around → List Waiting → State → State
to_come f nodes sizes at end around [] s = passed f around (values_of (segment nodes at end)) s
to_come f nodes sizes at end around (v ∷ waiting) s = to_come f nodes sizes end v.end v.around waiting
    (closes f v.around (head_at nodes v.at) (extent_at sizes v.at) v.outer
    (passed f around (values_of (segment nodes at end)) s))

-- nodes of values, with their extents
pub record IsSound (nodes : List RenderNode) (sizes : List Extent) (w : Measure) (at end : ℕ) : Type 0 where
  pub order : at ≤ end
  pub within : end ≤ length nodes
  pub flat : IsFlat (segment nodes at end)
  pub sized : segment sizes at end ≡ extents w (values_of (segment nodes at end))

-- so are those after each value that has begun
abbrev pub AreSound : List RenderNode → List Extent → Measure → (end : ℕ) → List Waiting → Type 0
AreSound nodes sizes w end [] = Unit {0}
AreSound nodes sizes w end (v ∷ waiting) = IsSound nodes sizes w end v.end × AreSound nodes sizes w v.end waiting

-- a value that waits for its end, before a place
pub record IsWaiting (options : RenderOptions) (nodes : List RenderNode) (sizes : List Extent) (at : ℕ) (o : OpenValue)
    (v : Waiting) : Type 0 where
  pub same_at : o.at ≡ v.at
  pub same_end : o.end ≡ v.end
  pub same_around : o.around ≡ v.around
  pub kept : IsKept options v.around (standing (head_at nodes v.at).info) o.kept v.outer
  pub counted : length v.outer.fits ≡ v.at
  pub before : v.at < at
  pub content : (extent_at sizes v.at).least ≤ (extent_at sizes v.at).size

-- the one that began last comes first
abbrev pub AreWaiting : RenderOptions → List RenderNode → List Extent → (at : ℕ) → List OpenValue → List Waiting
    → Type 0
AreWaiting options nodes sizes at [] [] = Unit {0}
AreWaiting options nodes sizes at [] (v ∷ waiting) = ⊥
AreWaiting options nodes sizes at (o ∷ begun) [] = ⊥
AreWaiting options nodes sizes at (o ∷ begun) (v ∷ waiting) =
    IsWaiting options nodes sizes at o v × AreWaiting options nodes sizes at begun waiting

-- What was read so far, and what is to come, are the pass over all values.
pub record IsWalking (options : RenderOptions) (w : Measure) (nodes : List RenderNode) (sizes : List Extent) (p : Place)
    (begun : List OpenValue) (reading : Reading) : Type 0 where
  pub state : State
  pub waiting : List Waiting
  pub same : length sizes ≡ length nodes
  pub passing : IsPassing options reading state
  pub counted : length state.fits ≡ p.at
  pub here : IsSound nodes sizes w p.at p.end
  pub later : AreSound nodes sizes w p.end waiting
  pub are_waiting : AreWaiting options nodes sizes p.at (reverse begun) waiting
  pub goes : to_come (fitting options w) nodes sizes p.at p.end p.around waiting state
      ≡ passed (fitting options w) on_page (values_of nodes) nothing_passed
