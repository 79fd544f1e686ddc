-- The options of a serializer that nothing else is said of.
use Rattle.std.specs.Prelude.{true, false, None}
use Rattle.tree_serializer.specs.declared.options.SerializeOpts.{SerializeOpts}
use Rattle.tree_serializer.specs.declared.options.TraversalScope.TheVariants.{ChildrenOnly}

abbrev pub default_options : SerializeOpts
default_options =
    record { scripting_enabled = true; traversal_scope = ChildrenOnly None; create_missing_parent = false }
