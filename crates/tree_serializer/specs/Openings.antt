-- How a serializer begins.
use Rattle.std.specs.Prelude.{None, false}
use Rattle.tree_serializer.specs.Writing.{Entry}
use Rattle.tree_serializer.specs.declared.options.TraversalScope.{TraversalScope}
use Rattle.tree_serializer.specs.declared.options.TraversalScope.TheVariants.{ChildrenOnly, IncludeNode}

-- the entry that is open at first
abbrev pub opening_entry : TraversalScope → Entry
opening_entry IncludeNode = record { name = None; is_silent = false }
opening_entry (ChildrenOnly name) = record { name = name; is_silent = false }
