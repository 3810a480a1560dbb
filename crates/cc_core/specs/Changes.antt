-- What a shape or a type becomes where the parts that stay are shared: it is kept, or it is another one.
use Rattle.cc_core.specs.Shapes.{Shape, CapturingType}
use Rattle.cc_core.specs.TermViews.{shape_of, type_of}
use Rattle.cc_core.specs.declared.acting.ActedShape.{ActedShape}
use Rattle.cc_core.specs.declared.acting.ActedShape.TheVariants as shapes
use Rattle.cc_core.specs.declared.acting.ActedType.{ActedType}
use Rattle.cc_core.specs.declared.acting.ActedType.TheVariants as types

-- what the shape became
abbrev pub became_shape : Shape → ActedShape → Shape
became_shape shape shapes.Kept = shape
became_shape shape (shapes.Changed new) = shape_of new.value

-- what the type became
abbrev pub became_type : CapturingType → ActedType → CapturingType
became_type type types.Kept = type
became_type type (types.Changed new) = type_of new.value
