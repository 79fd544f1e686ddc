-- The nodes of values whose children were read.
use Rattle.std.specs.Prelude.{ℕ, Bool, List, [], ◌∷◌, ◌++◌, take, drop, length}
use Rattle.render_values.specs.Arena.{flat, values_of}
use Rattle.render_values.specs.Endings.{ended, ending}
use Rattle.render_values.specs.Looks.{plain, within}
use Rattle.render_values.specs.Raising.{raised_info}
use Rattle.render_values.specs.Values.{none}
use Rattle.render_values.specs.declared.closing.Condition.{Condition}
use Rattle.render_values.specs.declared.closing.Opened.{Opened}
use Rattle.render_values.specs.declared.closing.Outcome.{Outcome}
use Rattle.render_values.specs.declared.closing.Outcome.TheVariants.{Goes}
use Rattle.render_values.specs.declared.info.RenderInfo.TheVariants.{Nothing}
use Rattle.render_values.specs.declared.node.RenderNode.{RenderNode}
use Rattle.render_values.specs.declared.raising.Raised.{Raised}
use Rattle.render_values.specs.declared.style.RenderStyle.{RenderStyle}

-- nodes, of which the first is ended
abbrev pub ending_first : Condition → (guarded : Bool) → List RenderNode → Outcome
ending_first condition guarded [] = Goes
ending_first condition guarded (x ∷ xs) = ending condition guarded x.head (values_of xs)

abbrev pub ended_first : Outcome → List RenderNode → List RenderNode
ended_first end [] = []
ended_first end (x ∷ xs) = flat (ended end x.head (values_of xs) none)

-- nodes, with the value at a place ended there
abbrev pub closed_at : ℕ → Condition → (guarded : Bool) → List RenderNode → List RenderNode
closed_at at condition guarded nodes =
    take at nodes ++ ended_first (ending_first condition guarded (drop at nodes)) (drop at nodes)

abbrev pub closed : Opened → List RenderNode → List RenderNode
closed opened nodes = closed_at opened.at opened.condition opened.guarded nodes

-- nodes, with all after a place in what stands there
abbrev pub holding : List RenderNode → List RenderNode
holding [] = []
holding (x ∷ xs) = record { head = x.head; below = length xs } ∷ xs

abbrev pub held : ℕ → List RenderNode → List RenderNode
held at nodes = take at nodes ++ holding (drop at nodes)

-- nodes up to a place, with the fragment that starts there
abbrev pub fragment_alone : RenderNode → RenderNode
fragment_alone x =
    record { head = record { info = Nothing; style = x.head.style; fragment = x.head.fragment }; below = 0 }

abbrev pub fragment_of : List RenderNode → List RenderNode
fragment_of [] = []
fragment_of (x ∷ xs) = fragment_alone x ∷ []

abbrev pub with_fragment : ℕ → List RenderNode → List RenderNode
with_fragment at nodes = take at nodes ++ fragment_of (drop at nodes)

-- nodes up to a place, with the digits that stand there raised
abbrev pub raised_in : RenderStyle → List RenderNode → Raised
raised_in outer [] = record { info = Nothing; style = outer }
raised_in outer (x ∷ xs) = record { info = raised_info x.head.info; style = within outer x.head.style }

abbrev pub raised_second : List RenderNode → Raised
raised_second [] = record { info = Nothing; style = plain }
raised_second (x ∷ xs) = raised_in x.head.style xs

abbrev pub raised_node : Raised → RenderNode → RenderNode
raised_node r x = record { head = record { info = r.info; style = r.style; fragment = x.head.fragment }; below = 0 }

abbrev pub raised_nodes : List RenderNode → List RenderNode
raised_nodes [] = []
raised_nodes (x ∷ xs) = raised_node (raised_in x.head.style xs) x ∷ []

abbrev pub with_raised : ℕ → List RenderNode → List RenderNode
with_raised at nodes = take at nodes ++ raised_nodes (drop at nodes)
